-- The history of a row is the trail's own words, in every legal trail.
use Rattle.std.proofs.Common.{◌≡◌, ◌≢◌, ℕ, ◌<◌, Bool, true, false, ◌&&◌, ◌==◌, if◌then◌else◌, Option, Some, None, List, [], ◌∷◌, ◌++◌, refl, ap, sym, ◌∙◌, subst, inl, inr, arith}
use Rattle.std.proofs.lemmas.Bool.{cases_Bool, cases_eq, ne_eqb, cond-false}
use Rattle.px_values.specs.declared.row.Value.{Value}
use Rattle.px_values.specs.declared.change.Change.{Change}
use Rattle.px_values.specs.declared.name.TableId.{TableId}
use Rattle.px_values.specs.States.{RowState, Shape}
use Rattle.px_trail.specs.declared.entry.Act.{Act}
use Rattle.px_trail.specs.declared.entry.Act.TheVariants.{Begun, Wrote, Ended, Phase}
use Rattle.px_trail.specs.declared.entry.Entry.{Entry}
use Rattle.px_trail.specs.Batches.{Batch, IsSoundBatch, IsSoundOption, batch_from, batch_of, batch_step, begun_batch, change_of, has}
use Rattle.px_trail.specs.Trail.{Base, IsBase, last_of, shape_of}
use Rattle.px_trail.specs.Legal.{Follows, IsLegal, IsWritable, IsEndable}
use Rattle.px_trail.specs.States.{begun_by, is_written_in}
use Rattle.px_trail.proofs.Growth.{batch_of-snoc, legal-induct}
use Rattle.px_trail.proofs.Batches.{batch-sound, in_closing, in_verifying, last_from-le, same_batch}
use Rattle.px_world.specs.World.{Fate, Unbegun, is_begun}
use Rattle.px_history.specs.History.{History, write_change, end_change}
use Rattle.px_history.specs.Rows.{base_history, begun_as, history_step, history_from, history_of, row_as, row_in, fate_by, Tied}
use Rattle.px_history.proofs.Changes.{from-snoc}
use Rattle.px_history.proofs.Ties.{CanEnd, step_is, tied_base, tied_begun, tied_beside, tied_ended, tied_phase, tied_unbegun, tied_unended, tied_unwritten, tied_wrote, wrote_step_is, phase_step_is, ended_step_is, fate_done}

-- 1. Acts that tell nothing of a table's batches

-- the act is of another table, or of no batch
abbrev IsElsewhere : ℕ → Act → Type 0
IsElsewhere t (Begun t' s cs) = t'.0 ≢ t
IsElsewhere t (Wrote t' s rows) = t'.0 ≢ t
IsElsewhere t (Ended t' s) = t'.0 ≢ t
IsElsewhere t (Phase t' s p) = t'.0 ≢ t
IsElsewhere t act = Unit {0}

if_not : {A : Type 0} (v : Bool) (a c : A) → v ≡ false → (if v then a else c) ≡ c
if_not true a c h = (let z : true ≡ false = h in cc)
if_not false a c h = refl

and_no : (v c : Bool) → v ≡ false → (v && c) ≡ false
and_no true c h = (let z : true ≡ false = h in cc)
and_no false c h = refl

else_batch : (t u seat : ℕ) (o : Option Batch) (act : Act) → IsElsewhere t act → batch_step t u o seat act ≡ o
unfolding batch_step
else_batch t u seat None (Begun t' s cs) n = if_not _ _ _ (and_no _ _ (ne_eqb t'.0 t n))
else_batch t u seat (Some x) (Wrote t' s rows) n = if_not _ _ _ (and_no _ _ (ne_eqb t'.0 t n))
else_batch t u seat (Some x) (Ended t' s) n = if_not _ _ _ (and_no _ _ (ne_eqb t'.0 t n))
else_batch t u seat (Some x) (Phase t' s p) n = if_not _ _ _ (and_no _ _ (ne_eqb t'.0 t n))
else_batch t u seat None act n = refl
else_batch t u seat (Some x) act n = refl

else_begun : (t : ℕ) (r : List Value) (act : Act) → IsElsewhere t act → begun_by t r act ≡ []
unfolding begun_by
else_begun t r (Begun t' s cs) n = if_not _ _ _ (ne_eqb t'.0 t n)
else_begun t r act n = refl

else_history : (sh : Shape) (t : ℕ) (r : List Value) (h : History RowState) (act : Act) → IsElsewhere t act → history_step sh t r h act ≡ h
unfolding history_step
else_history sh t r h (Begun t' s cs) n = if_not _ _ _ (ne_eqb t'.0 t n)
else_history sh t r h (Wrote t' s rows) n = if_not _ _ _ (and_no _ _ (ne_eqb t'.0 t n))
else_history sh t r h (Ended t' s) n = if_not _ _ _ (and_no _ _ (ne_eqb t'.0 t n))
else_history sh t r h act n = refl

-- 2. Stamps of batches are above the base's last

abbrev IsAbove : ℕ → ℕ → Option Batch → Type 0
IsAbove n s None = Unit {0}
IsAbove n s (Some x) = n < s

if_above : (v : Bool) (n s : ℕ) (x y : Batch) → n < s → IsAbove n s (if v then Some y else Some x)
if_above true n s x y h = h
if_above false n s x y h = h

above_step : (b : Base) (t s : ℕ) (es : List Entry) (seat calls : ℕ) (o : Option Batch) (act : Act) → Follows b es seat calls act → IsAbove (b.last t) s o → IsAbove (b.last t) s (batch_step t s o seat act)
unfolding batch_step Follows
above_step b t s es seat calls None (Begun t' s' cs) f h =
    elim ((t'.0 == t) && (s' == s)) as (λ v. ((t'.0 == t) && (s' == s)) ≡ v → IsAbove (b.last t) s (if v then Some (begun_batch seat cs) else None)) [
      | true ↦ λ v.
          (let both = same_batch t s t'.0 s' v in
          let hs : s' ≡ s = both.1 in
          let l : last_of b t es < s' = subst (λ (u : ℕ). last_of b u es < s') both.0 f.0 in
          let m = last_from-le t (b.last t) es in omega arith)
      | false ↦ λ v. tt
    ] refl
above_step b t s es seat calls (Some x) (Phase t' s' p) f h = if_above ((t'.0 == t) && (s' == s)) (b.last t) s x (record x { phase = p }) h
above_step b t s es seat calls (Some x) (Wrote t' s' rows) f h = if_above ((t'.0 == t) && (s' == s)) (b.last t) s x (record x { written = x.written ++ rows }) h
above_step b t s es seat calls (Some x) (Ended t' s') f h = if_above ((t'.0 == t) && (s' == s)) (b.last t) s x (record x { ended = true }) h
above_step b t s es seat calls None act f h = tt
above_step b t s es seat calls (Some x) act f h = h

pub batch-above : (b : Base) (t s : ℕ) (es : List Entry) → IsLegal b es → IsAbove (b.last t) s (batch_of t s es)
unfolding batch_from
batch-above b t s es legal =
    legal-induct b (λ l. IsAbove (b.last t) s (batch_of t s l))
    (λ l e _ may h. subst (IsAbove (b.last t) s) (sym (batch_of-snoc t s l e)) (above_step b t s l e.seat e.calls (batch_of t s l) e.act may.follows h))
    [] es legal tt

-- 3. One entry more

same_id : (a c : TableId) → a.0 ≡ c.0 → a ≡ c
same_id a c e = λ i. record { 0 = e i }

module _ (sh : Shape) (b : Base) (tid : TableId) (r : List Value) (sound : IsBase b tid.0 r) (es : List Entry) (legal : IsLegal b es) (h : History RowState) (tie : Tied sh b es tid.0 r h) (e : Entry) where
  abbrev t : ℕ
  t = tid.0

  abbrev Goal : Type 0
  Goal = Tied sh b (es ++ e ∷ []) t r (history_step sh t r h e.act)

  elsewhere : (act : Act) → e.act ≡ act → IsElsewhere t act → Goal
  elsewhere act is n =
      subst (Tied sh b (es ++ e ∷ []) t r) (sym (ap (history_step sh t r h) is ∙ else_history sh t r h act n))
      (tied_beside sh b tid r sound es h tie e
      (λ u o _. ap (λ (p : Option Batch). row_in p r) (ap (λ (a : Act). batch_step t u o e.seat a) is ∙ else_batch t u e.seat o act n))
      (λ u o _. ap (λ (p : Option Batch). is_written_in p r) (ap (λ (a : Act). batch_step t u o e.seat a) is ∙ else_batch t u e.seat o act n))
      (ap (begun_by t r) is ∙ else_begun t r act n))

  begins : (s : ℕ) (cs : List Change) → e.act ≡ Begun tid s cs → last_of b t es < s → Goal
  begins s cs is new =
      subst (Tied sh b (es ++ e ∷ []) t r) (sym (step_is sh b tid r sound es h tie e s cs is new))
      (elim (change_of cs r) as (λ o. change_of cs r ≡ o → Tied sh b (es ++ e ∷ []) t r (begun_as sh r s o h)) [
        | None ↦ λ n. tied_unbegun sh b tid r sound es h tie e s cs is new n
        | Some w ↦ λ k. tied_begun sh b tid r sound es h tie e s cs is new w k
      ] refl)

  writes : (s : ℕ) (rows : List (List Value)) → e.act ≡ Wrote tid s rows → IsWritable es e.seat t s rows → Goal
  writes s rows is f =
      subst (Tied sh b (es ++ e ∷ []) t r) (sym (wrote_step_is sh b tid r sound es h tie e s rows is f))
      (elim (has rows r) as (λ v. has rows r ≡ v → Tied sh b (es ++ e ∷ []) t r (if v then write_change s h else h)) [
        | true ↦ λ on. tied_wrote sh b tid r sound es h tie e s rows is f on
        | false ↦ λ off. tied_unwritten sh b tid r sound es h tie e s rows is f off
      ] refl)

  ends : (s : ℕ) → e.act ≡ Ended tid s → CanEnd es t s → Goal
  ends s is f =
      subst (Tied sh b (es ++ e ∷ []) t r) (sym (ended_step_is sh b tid r sound es h tie e s is f))
      (elim (change_of f.batch.changes r) as (λ o. change_of f.batch.changes r ≡ o → Tied sh b (es ++ e ∷ []) t r (if is_begun (h.fate s) then end_change s h else h)) [
        | None ↦ λ n.
            (let up : b.last t < s = subst (IsAbove (b.last t) s) f.is (batch-above b t s es legal) in
            let fresh : b.changed t r s ≡ false = elim (cases_Bool (b.changed t r s)) [ inl k ↦ absurd (let i = sound.within s k in omega arith) | inr k ↦ k ] in
            let none : row_in (batch_of t s es) r ≡ None = ap (λ (o : Option Batch). row_in o r) f.is ∙ ap (λ o. row_as o (has f.batch.written r) f.batch.ended) n in
            let fate : h.fate s ≡ Unbegun = tie.fates s ∙ (cond-false _ _ _ fresh ∙ ap fate_by none) in
            subst (Tied sh b (es ++ e ∷ []) t r) (sym (ap (λ (x : Fate). if is_begun x then end_change s h else h) fate)) (tied_unended sh b tid r sound es h tie e s is f n))
        | Some w ↦ λ k.
            subst (Tied sh b (es ++ e ∷ []) t r) (sym (ap (λ (x : Fate). if is_begun x then end_change s h else h) (fate_done sh b tid r sound es h tie e s is f w k))) (tied_ended sh b tid r sound es h tie e s is f w k)
      ] refl)

  may_end : (seat s : ℕ) → IsEndable es seat t s → CanEnd es t s
  may_end seat s (inl i) = record { batch = i.batch; is = i.is; all = (let z : IsSoundBatch i.batch = subst (λ (o : Option Batch). IsSoundOption o) i.is (batch-sound b t s es legal) in z.verified (in_closing i.batch i.phase).1) }
  may_end seat s (inr i) = record { batch = i.1.batch; is = i.1.is; all = (in_verifying i.1.batch i.1.phase).2 }

  pub tied_by : (act : Act) → e.act ≡ act → Follows b es e.seat e.calls act → Goal
  unfolding Follows
  tied_by (Begun t' s cs) is f = elim (cases_eq t'.0 t) [
    | inl q ↦ begins s cs (is ∙ ap (λ (u : TableId). Begun u s cs) (same_id t' tid q)) (subst (λ (u : ℕ). last_of b u es < s) q f.0)
    | inr q ↦ elsewhere (Begun t' s cs) is q
  ]
  tied_by (Wrote t' s rows) is f = elim (cases_eq t'.0 t) [
    | inl q ↦ writes s rows (is ∙ ap (λ (u : TableId). Wrote u s rows) (same_id t' tid q)) (subst (λ (u : ℕ). IsWritable es e.seat u s rows) q f)
    | inr q ↦ elsewhere (Wrote t' s rows) is q
  ]
  tied_by (Ended t' s) is f = elim (cases_eq t'.0 t) [
    | inl q ↦ ends s (is ∙ ap (λ (u : TableId). Ended u s) (same_id t' tid q)) (may_end e.seat s (subst (λ (u : ℕ). IsEndable es e.seat u s) q f))
    | inr q ↦ elsewhere (Ended t' s) is q
  ]
  tied_by (Phase t' s p) is f = elim (cases_eq t'.0 t) [
    | inl q ↦
        (let is' = is ∙ ap (λ (u : TableId). Phase u s p) (same_id t' tid q) in
        subst (Tied sh b (es ++ e ∷ []) t r) (sym (phase_step_is sh b tid r sound es h tie e s p is')) (tied_phase sh b tid r sound es h tie e s p is'))
    | inr q ↦ elsewhere (Phase t' s p) is q
  ]
  tied_by act is f = elsewhere act is tt

-- in a legal trail the history is the trail's
pub history-tied : (b : Base) (tid : TableId) (r : List Value) → IsBase b tid.0 r → (es : List Entry) → IsLegal b es → Tied (shape_of b es tid.0) b es tid.0 r (history_of b es tid.0 r)
unfolding history_from
history-tied b tid r sound es legal =
    let sh = shape_of b es tid.0 in
    legal-induct b (λ l. Tied sh b l tid.0 r (history_from sh tid.0 r (base_history b tid.0 r) l))
    (λ l e pre may h. subst (Tied sh b (l ++ e ∷ []) tid.0 r) (sym (from-snoc sh b l e tid.0 r)) (tied_by sh b tid r sound l pre (history_from sh tid.0 r (base_history b tid.0 r) l) h e e.act refl may.follows))
    [] es legal (tied_base sh b tid r sound)
