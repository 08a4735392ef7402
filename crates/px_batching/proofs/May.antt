-- Which entries of a batch may come, and who waits for whom.
use Rattle.std.proofs.Common.{◌≡◌, ◌≢◌, ℕ, suc, ◌<◌, Bool, true, false, not, if◌then◌else◌, ◌&&◌, ◌||◌, length, get_or, slice_get, Option, Some, None, List, [], ◌∷◌, refl, ap, sym, ◌∙◌, subst, inl, inr, arith}
use Rattle.std.specs.Prelude.{is_some, nat_eq, nat_lt}
use Rattle.std.specs.List.{list_any}
use Rattle.std.specs.Ordering.{is_eq}
use Rattle.std.proofs.lemmas.Bool.{and_parts, cases_Bool, eqb-true, false≢true}
use Rattle.std.proofs.lemmas.Bool.Decides.{nat_tests}
use Rattle.px_outside.specs.declared.disk.Disk.{Ghosts}
use Rattle.px_values.proofs.Equal.{row_order-Decides}
use Rattle.px_values.specs.Order.{row_order}
use Rattle.px_values.specs.declared.change.Change.{Change}
use Rattle.px_values.specs.declared.change.What.{What}
use Rattle.px_values.specs.declared.row.Value.{Value}
use Rattle.px_trail.specs.declared.entry.Entry.{Entry}
use Rattle.px_trail.specs.Batches.{Batch, IsBatchIn, IsPending, IsSoundBatch, IsSoundOption, batch_of, change_of, has, rows_of, unwritten}
use Rattle.px_trail.specs.Legal.{IsLegal, IsWritable}
use Rattle.px_trail.specs.Trail.{Base}
use Rattle.px_trail.proofs.Batches.{batch-sound}
use Rattle.px_trail.proofs.Orders.{filter-has, has-change, has-filter}
use Rattle.px_history.proofs.Changes.{change-has}
use Rattle.px_openbatches.specs.Pending.{HeldBatch, IsHeldBatch, is_in}
use Rattle.px_openbatches.proofs.Helds.{same_batch}
use Rattle.px_phases.specs.Batch.{IsHeldAs, left_in}
use Rattle.px_tablesteps.specs.Kept.{no_held}
use Rattle.px_group.specs.Group.{IsRightBatch, IsRightGroup, IsTallied, as_phase}
use Rattle.px_group.specs.declared.group.Begun.{Begun}
use Rattle.px_group.specs.declared.group.Group.{Group}
use Rattle.px_group.specs.declared.group.Phase.{Phase}
use Rattle.px_group.specs.declared.group.Phase.TheVariants.{Writing}
use Rattle.px_batching.specs.Steps.{HandsCloses, HandsMarks, IsBlocked, IsOfSeat, IsUnblocked, StandsInPhase, WaitsFor, blocks}
use Rattle.px_batching.proofs.Pairs.{AreTied, IsTied, each_at, tied_at, to_tied}
use Rattle.px_batching.proofs.Places.{all_at, same_at}
use Rattle.px_batching.proofs.Ready.{stage_puts}

-- 1. Lists

-- the one of a stamp has a place
found : (es : List Entry) (t u : ℕ) (xs : List Begun) (hs : List HeldBatch) → AreTied es t xs hs → is_in u hs ≡ true → (n : ℕ) × ((x : Begun) × ((slice_get xs n ≡ Some x) × ((get_or hs n no_held).stamp ≡ u)))
found es t u [] [] a i = absurd (false≢true i)
found es t u [] (h ∷ hs) a i = absurd a
found es t u (x ∷ xs) [] a i = absurd a
found es t u (x ∷ xs) (h ∷ hs) a i = elim (cases_Bool (nat_eq h.stamp u)) [
  | inl e ↦ (0, (x, (refl, eqb-true h.stamp u e)))
  | inr e ↦ (let r = found es t u xs hs a.1 (sym (ap (λ v. v || is_in u hs) e) ∙ i) in (suc r.0, (r.1.0, (r.1.1.0, r.1.1.1))))
]

any_row : (p : List Value → Bool) (cs : List Change) (r : List Value) → has (rows_of cs) r ≡ true → p r ≡ true → list_any (λ (c : Change). p c.row) cs ≡ true
unfolding has
any_row p [] r h q = absurd (false≢true h)
any_row p (c ∷ cs) r h q = elim (cases_Bool (is_eq (row_order c.row r))) [
  | inl e ↦ ap (λ v. v || list_any (λ (y : Change). p y.row) cs) (ap p ((row_order-Decides c.row r).0 e) ∙ q)
  | inr e ↦ right (p c.row) (any_row p cs r (sym (ap (λ v. v || has (rows_of cs) r) e) ∙ h) q)
]
  where
    right : (b : Bool) {v : Bool} → v ≡ true → (b || v) ≡ true
    right true e = refl
    right false e = e

some_row : (p : List Value → Bool) (cs : List Change) → list_any (λ (c : Change). p c.row) cs ≡ true → (r : List Value) × ((has (rows_of cs) r ≡ true) × (p r ≡ true))
unfolding has
some_row p [] h = absurd (false≢true h)
some_row p (c ∷ cs) h = elim (cases_Bool (p c.row)) [
  | inl e ↦ (c.row, (ap (λ (v : Bool). v || has (rows_of cs) c.row) ((row_order-Decides c.row c.row).1 refl), e))
  | inr e ↦ (let z = some_row p cs (sym (ap (λ v. v || list_any (λ (y : Change). p y.row) cs) e) ∙ h) in (z.0, (right (is_eq (row_order c.row z.0)) z.1.0, z.1.1)))
]
  where
    right : (b : Bool) {v : Bool} → v ≡ true → (b || v) ≡ true
    right true e = refl
    right false e = e

not_false : (v : Bool) → not v ≡ true → v ≡ false
not_false true e = absurd (false≢true e)
not_false false e = refl

some_rows : (cs : List Change) → cs ≢ [] → rows_of cs ≢ []
some_rows [] n e = n refl
some_rows (c ∷ cs) n e = cc

abbrev if_some : Bool → Option What → Option What
if_some v o = if v then o else None

-- what is left of a batch, and of the one that the trail tells
module _ (es : List Entry) (t : ℕ) (w : Begun) (h : HeldBatch) (like : IsHeldAs w.batch h) (q : IsHeldBatch es t h) where
  -- a row that isn't written yet is left
  left_of_told : (z : Batch) → batch_of t h.stamp es ≡ Some z → (r : List Value) → has (unwritten z) r ≡ true → is_some (left_in w.batch r) ≡ true
  left_of_told z is r u =
      (let same : z ≡ q.batch = same_batch (sym is ∙ q.is) in
      let f = has-filter (λ (x : List Value). not (has z.written x)) (rows_of z.changes) r u in
      let mine : has (rows_of w.batch.changes) r ≡ true = ap (λ (cs : List Change). has (rows_of cs) r) (sym (ap (λ (y : Batch). y.changes) same ∙ (q.changes ∙ like.changes))) ∙ f.0 in
      let none : has h.written r ≡ false = sym (ap (λ (y : Batch). has y.written r) same ∙ q.written r) ∙ not_false (has z.written r) f.1 in
      let c = change-has w.batch.changes r mine in
      by (is_some w.batch.puts) refl (sym none ∙ (like.written r ∙ ap (λ v. not (is_some w.batch.puts) && v) mine)) c.0 c.1)
    where
      by : (v : Bool) → is_some w.batch.puts ≡ v → false ≡ (not (is_some w.batch.puts) && true) → (what : What) → change_of w.batch.changes r ≡ Some what → is_some (left_in w.batch r) ≡ true
      by true e n what c = (λ i. is_some (if_some (e i) (c i)))
      by false e n what c = absurd (false≢true (n ∙ ap (λ v. not v && true) e))

  -- and a row that is left isn't written yet
  told_of_left : (z : Batch) → batch_of t h.stamp es ≡ Some z → (r : List Value) → is_some (left_in w.batch r) ≡ true → has (unwritten z) r ≡ true
  told_of_left z is r l = by (is_some w.batch.puts) refl (change_of w.batch.changes r) refl l
    where
      same : z ≡ q.batch
      same = same_batch (sym is ∙ q.is)

      by : (v : Bool) → is_some w.batch.puts ≡ v → (o : Option What) → change_of w.batch.changes r ≡ o → is_some (if_some v o) ≡ true → has (unwritten z) r ≡ true
      by false e o c n = absurd (false≢true n)
      by true e None c n = absurd (false≢true n)
      by true e (Some what) c n =
          (let mine = has-change w.batch.changes r what c in
          let none : has z.written r ≡ false = ap (λ (y : Batch). has y.written r) same ∙ (q.written r ∙ (like.written r ∙ ap (λ v. not v && has (rows_of w.batch.changes) r) e)) in
          filter-has (λ (x : List Value). not (has z.written x)) (rows_of z.changes) r (ap (λ (cs : List Change). has (rows_of cs) r) (ap (λ (y : Batch). y.changes) same ∙ (q.changes ∙ like.changes)) ∙ mine) (ap not none))

-- 2. What may come

module _ (b : Base) (es : List Entry) (g : Group) (hs : List HeldBatch) (k : IsTallied b es g hs) (m : ℕ) where
  abbrev t : ℕ
  t = g.table.id.0

  abbrev h : HeldBatch
  h = get_or hs m no_held

  abbrev ties : AreTied es t g.batches.items hs
  ties = to_tied es t g.batches.items hs k.batches k.phases

  pub stamp_is : (y : Begun) → slice_get g.batches.items m ≡ Some y → h.stamp ≡ y.batch.stamp
  stamp_is y at = (tied_at es t g.batches.items hs ties m y at).1.0.stamp

  pub in_phase : (p : Phase) (a : StandsInPhase g m p) (seat : ℕ) → IsOfSeat es t a.batch.batch.stamp seat → IsBatchIn es seat t a.batch.batch.stamp (as_phase p)
  in_phase p a seat mine =
      (let w = tied_at es t g.batches.items hs ties m a.batch a.is in
      let is : batch_of t a.batch.batch.stamp es ≡ Some w.1.1.batch = ap (λ (n : ℕ). batch_of t n es) (sym w.1.0.stamp) ∙ w.1.1.is in
      record { batch = w.1.1.batch; is = is; mine = mine w.1.1.batch is; phase = w.1.1.phase ∙ ap as_phase a.phase_is })

  module _ (r : IsRightGroup g) (a : StandsInPhase g m Writing) where
    abbrev x : Begun
    x = a.batch

    abbrev tie : (m < length hs) × IsTied es t x h
    tie = tied_at es t g.batches.items hs ties m x a.is

    abbrev own : Batch
    own = tie.1.1.batch

    abbrev known : IsHeldBatch es t h
    known = each_at (IsHeldBatch es t) hs m tie.0 k.held.each

    own_is : batch_of t x.batch.stamp es ≡ Some own
    own_is = ap (λ (n : ℕ). batch_of t n es) (sym tie.1.0.stamp) ∙ tie.1.1.is

    own_left : (q : List Value) → has (rows_of x.batch.changes) q ≡ true → has (unwritten own) q ≡ true
    own_left q c = told_of_left es t x h tie.1.0 known own tie.1.1.is q (some_left (is_some x.batch.puts) (stage_puts x.phase x.count x.batch a.phase_is (all_at (IsRightBatch g) g.batches.items m x a.is r.batches).stage) (change-has x.batch.changes q c))
      where
        some_left : (v : Bool) → v ≡ true → (w : What) × (change_of x.batch.changes q ≡ Some w) → is_some (if_some v (change_of x.batch.changes q)) ≡ true
        some_left true e w = ap is_some w.1
        some_left false e w = absurd (false≢true e)

    pub writable : IsLegal b es → IsUnblocked g m → (seat : ℕ) → IsOfSeat es t x.batch.stamp seat → IsWritable es seat t x.batch.stamp (rows_of x.batch.changes)
    unfolding has
    writable legal free seat mine = record {
      batch = own;
      is = own_is;
      mine = mine own own_is;
      phase = tie.1.1.phase ∙ ap as_phase a.phase_is;
      some = some_rows x.batch.changes (all_at (IsRightBatch g) g.batches.items m x a.is r.batches).some;
      distinct = tie.1.0.distinct;
      left = own_left;
      first = λ q c p. none q c p (p.batch.ended) refl;
    }
      where
        none : (q : List Value) → has (rows_of x.batch.changes) q ≡ true → (p : IsPending es t x.batch.stamp q) → (v : Bool) → p.batch.ended ≡ v → ⊥
        none q c p true e =
            (let sound : IsSoundBatch p.batch = subst IsSoundOption p.is (batch-sound b t p.stamp es legal) in
            false≢true (sym (ap (λ (l : List (List Value)). has l q) (sound.ended e)) ∙ p.left))
        none q c p false e =
            (let f = found es t p.stamp g.batches.items hs ties (k.held.all p.stamp p.batch p.is e) in
            let w = tied_at es t g.batches.items hs ties f.0 f.1.0 f.1.1.0 in
            let wh = each_at (IsHeldBatch es t) hs f.0 w.0 k.held.each in
            let l = left_of_told es t f.1.0 (get_or hs f.0 no_held) w.1.0 wh p.batch (ap (λ (n : ℕ). batch_of t n es) f.1.1.1 ∙ p.is) q p.left in
            let earlier : f.1.0.batch.stamp < x.batch.stamp = (let s = w.1.0.stamp in let u = f.1.1.1 in let o = p.smaller in omega arith) in
            let test : nat_lt f.1.0.batch.stamp x.batch.stamp ≡ true = grind (arith, nat_tests) in
            let any = any_row (λ (y : List Value). is_some (left_in f.1.0.batch y)) x.batch.changes q c l in
            let same : free.batch ≡ x = same_at g.batches.items m free.batch x free.is a.is in
            let no : blocks f.1.0.batch x.batch ≡ false = ap (λ (y : Begun). blocks f.1.0.batch y.batch) (sym same) ∙ free.free f.0 f.1.0 f.1.1.0 in
            false≢true (sym no ∙ (λ i. test i && any i)))

    pub waits : (s : ℕ) → IsBlocked g m s → WaitsFor es t x.batch.stamp s
    waits s o =
        (let same : o.batch ≡ x = same_at g.batches.items m o.batch x o.is a.is in
        let yes : blocks o.earlier.batch x.batch ≡ true = ap (λ (y : Begun). blocks o.earlier.batch y.batch) (sym same) ∙ o.blocked in
        let parts = and_parts (nat_lt o.earlier.batch.stamp x.batch.stamp) (list_any (λ (c : Change). is_some (left_in o.earlier.batch c.row)) x.batch.changes) yes in
        let row = some_row (λ (y : List Value). is_some (left_in o.earlier.batch y)) x.batch.changes parts.1 in
        let w = tied_at es t g.batches.items hs ties o.place o.earlier o.earlier_is in
        let wh = each_at (IsHeldBatch es t) hs o.place w.0 k.held.each in
        let test = parts.0 in
        let stamp = o.stamp in
        record {
          smaller = (let l : o.earlier.batch.stamp < x.batch.stamp = grind (arith, nat_tests) in omega arith);
          own = own;
          own_is = own_is;
          batch = w.1.1.batch;
          is = ap (λ (n : ℕ). batch_of t n es) (sym (w.1.0.stamp ∙ o.stamp)) ∙ w.1.1.is;
          row = row.0;
          to_write = own_left row.0 row.1.0;
          pending = told_of_left es t o.earlier (get_or hs o.place no_held) w.1.0 wh w.1.1.batch w.1.1.is row.0 row.1.1;
        })

  -- 3. Where cells go: to the index that the batch marks, or verifies at, next

  pub marks_at : {D : Type 0} (d : Ghosts D) (g' : Group) (disk disk' : D) → (w : HandsMarks d g g' disk disk' m) → h.done ≡ w.place
  marks_at d g' disk disk' w =
      (let p = tied_at es t g.batches.items hs ties m w.batch w.step.step.batch in
      let to_mark = p.1.0.to_mark in
      let count = p.1.1.count in
      let next = w.next in
      omega arith)

  pub closes_at : {D : Type 0} (d : Ghosts D) (g' : Group) (disk disk' : D) → (w : HandsCloses d g g' disk disk' m) → h.verified ≡ w.place
  closes_at d g' disk disk' w =
      (let p = tied_at es t g.batches.items hs ties m w.batch w.step.step.batch in
      let to_close = p.1.0.to_verify in
      let count = p.1.1.count in
      let next = w.next in
      omega arith)
