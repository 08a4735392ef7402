-- The states that a batch counts on are those of the trail where all that is begun counts as written.
use Rattle.std.proofs.Common.{◌≡◌, ℕ, zero, suc, ◌<◌, ◌≤◌, ◌-◌, Bool, true, false, cond, max, Option, Some, None, List, [], ◌∷◌, ◌++◌, inl, inr, refl, ap, sym, ◌∙◌, subst, arith}
use Rattle.std.specs.Prelude.{if◌then◌else◌, ◌==◌, ◌&&◌, nat_le}
use Rattle.std.specs.List.{AllByRecursion}
use Rattle.std.proofs.lemmas.Bool.{and_parts, cases_Bool, cases_eq, eqb-true, false≢true, ne_eqb}
use Rattle.std.proofs.lemmas.List.{append-nil}
use Rattle.px_groupworld.specs.Group.{GroupData, IsTableBase}
use Rattle.px_cells.specs.Contents.{value_at}
use Rattle.px_forms.specs.Indexes.{IndexForm}
use Rattle.px_groupworld.proofs.Entries.{rows_of_group}
use Rattle.px_openbatches.proofs.Pendings.{expected_is}
use Rattle.px_openbatches.specs.Pending.{HeldBatch, after_pending}
use Rattle.px_phases.proofs.Left.{states_same}
use Rattle.px_region.specs.Region.{read_of}
use Rattle.px_rows.specs.Spelled.{row_form}
use Rattle.px_group.specs.Group.{IsShownBy, IsTallied, batches_of, form_of}
use Rattle.px_group.specs.declared.group.Group.{Group}
use Rattle.px_beginning.specs.Begins.{old_state}
use Rattle.px_history.proofs.Changes.{expected_written, from-snoc, number_same, state_at-alike, state_at-down}
use Rattle.px_history.proofs.Ties.{above, tied_base, undecided}
use Rattle.px_history.proofs.UpTo.{begun-up_to}
use Rattle.px_history.specs.History.{History, begin_change, end_change, expected_state, write_change}
use Rattle.px_history.specs.Rows.{base_history, begun_as, history_from, history_step}
use Rattle.px_indexed.proofs.Rows.{rows_kept}
use Rattle.px_indexed.specs.Worlds.{history_at}
use Rattle.px_trail.proofs.Batches.{last_from-le}
use Rattle.px_trail.proofs.Growth.{begun-snoc, last-snoc, last_from-append, legal-induct}
use Rattle.px_trail.specs.Batches.{change_of, has}
use Rattle.px_trail.specs.Legal.{Follows, IsLegal, IsWritable}
use Rattle.px_trail.specs.States.{Dated, applied, begun, begun_by, dated, greatest_stamp}
use Rattle.px_trail.specs.Trail.{Base, last_of, last_step, shape_of, table_shape}
use Rattle.px_trail.specs.declared.entry.Act.{Act}
use Rattle.px_trail.specs.declared.entry.Act.TheVariants.{Begun, Wrote, Ended}
use Rattle.px_trail.specs.declared.entry.Entry.{Entry}
use Rattle.px_values.specs.States.{RowState, Shape, apply}
use Rattle.px_values.specs.declared.change.Change.{Change}
use Rattle.px_values.specs.declared.change.What.{What}
use Rattle.px_values.specs.declared.name.TableId.{TableId}
use Rattle.px_values.specs.declared.row.Value.{Value}
use Rattle.px_world.proofs.Steps.{set_stamp-other, set_stamp-same}
use Rattle.px_world.specs.World.{Undecided, Unbegun, Written, is_begun, is_expected, is_undecided, state_at}
use Rattle.px_beginning.proofs.Promised.{true_if}

module _ (sh : Shape) (b : Base) (tid : TableId) (r : List Value) (base : IsTableBase b tid.0) where
  abbrev t : ℕ
  t = tid.0

  abbrev hist : List Entry → History RowState
  hist es = history_at sh b es t r

  -- from the last stamp on the row's changes, written or not, give this state
  abbrev Tells : List Entry → Type 0
  Tells es = (p : ℕ) → last_of b t es ≤ p → expected_state (history_at sh b es t r) p ≡ applied sh r p (b.state t r p) (begun t r es)

  -- 1. Lists of changes

  unchanged : (p : ℕ) → b.last t ≤ p → b.changed t r (suc p) ≡ false
  unchanged p l = elim (cases_Bool (b.changed t r (suc p))) [ inl e ↦ absurd (let k = (base.rows r).within (suc p) e in omega arith) | inr e ↦ e ]

  base_still : (p q : ℕ) → b.last t ≤ q → q ≤ p → b.state t r p ≡ b.state t r q
  base_still zero q l m = ap (b.state t r) (let e : zero ≡ q = omega arith in e)
  base_still (suc p) q l m = elim (cases_eq q (suc p)) [
    | inl e ↦ ap (b.state t r) (sym e)
    | inr e ↦ (base.rows r).same p (unchanged p (omega arith)) ∙ base_still p q l (omega arith)
  ]

  applied_still : (p q : ℕ) (v : RowState) (n : ℕ) (ds : List Dated) → n ≤ q → n ≤ p → AllByRecursion (λ d. d.stamp ≤ n) ds → applied sh r p v ds ≡ applied sh r q v ds
  unfolding applied
  applied_still p q v n [] a c u = refl
  applied_still p q v n (d ∷ ds) a c u =
      let k = u.0 in
      let one : nat_le d.stamp p ≡ nat_le d.stamp q = true_if d.stamp p (omega arith) ∙ sym (true_if d.stamp q (omega arith)) in
      ap (λ (x : Bool). applied sh r p (if x then apply sh r v d.what else v) ds) one ∙ applied_still p q (if nat_le d.stamp q then apply sh r v d.what else v) n ds a c u.1

  applied_end : (p : ℕ) (v : RowState) (ds : List Dated) (d : Dated) → d.stamp ≤ p → applied sh r p v (ds ++ d ∷ []) ≡ apply sh r (applied sh r p v ds) d.what
  unfolding applied
  applied_end p v [] d l = ap (λ (x : Bool). if x then apply sh r v d.what else v) (true_if d.stamp p l)
  applied_end p v (x ∷ ds) d l = applied_end p (if nat_le x.stamp p then apply sh r v x.what else v) ds d l

  -- 2. One entry more

  risen : (l : List Entry) (e : Entry) → last_of b t l ≤ last_of b t (l ++ e ∷ [])
  risen l e = (let a = last_from-append t (b.last t) l (e ∷ []) in let c = last_from-le t (last_of b t l) (e ∷ []) in omega arith)

  alike : (l : List Entry) (e : Entry) → Tells l → ((p : ℕ) → expected_state (history_step sh t r (hist l) e.act) p ≡ expected_state (hist l) p) → begun_by t r e.act ≡ [] → Tells (l ++ e ∷ [])
  alike l e h same none p q =
      ap (λ (x : History RowState). expected_state x p) (from-snoc sh b l e t r)
      ∙ (same p ∙ (h p (let k = risen l e in omega arith) ∙ sym (ap (applied sh r p (b.state t r p)) (begun-snoc t r l e ∙ (ap (λ (ds : List Dated). begun t r l ++ ds) none ∙ append-nil (begun t r l))))))

  -- where a batch changes the row
  top : {S : Type 0} (h : History S) (s : ℕ) → 0 < s → is_expected (h.fate s) ≡ true → expected_state h s ≡ h.new s
  unfolding state_at
  top h zero l e = absurd (omega arith)
  top h (suc s) l e = ap (λ (v : Bool). cond v (h.new (suc s)) (expected_state h s)) e

  begins : (l : List Entry) (e : Entry) → IsLegal b l → Tells l → (s : ℕ) (cs : List Change) → e.act ≡ Begun tid s cs → last_of b t l < s → (w : What) → change_of cs r ≡ Some w → Tells (l ++ e ∷ [])
  unfolding history_step begun_by
  begins l e legal h s cs is new w c p q =
      let k = rows_kept sh b tid base.rows base.low l legal in
      let before : History RowState = hist l in
      let next : History RowState = begin_change (apply sh r) s w (hist l) in
      let step : history_step sh t r (hist l) e.act ≡ begin_change (apply sh r) s w (hist l) = ap (history_step sh t r (hist l)) is ∙ (ap (λ (v : Bool). if v then begun_as sh r s (change_of cs r) (hist l) else hist l) (number_same t) ∙ ap (λ (o : Option What). begun_as sh r s o (hist l)) c) in
      let late : s ≤ p =
      (let a = last-snoc b t l e in
      let d = ap (last_step t (last_of b t l)) is ∙ ap (λ (v : Bool). if v then max (last_of b t l) s else last_of b t l) (number_same t) in
      omega arith) in
      let down : expected_state next p ≡ expected_state next s = state_at-down next.base (λ u. is_expected (next.fate u)) next.new p s late (λ u a d. ap is_expected (set_stamp-other s Undecided before.fate u (omega arith) ∙ above sh b tid r (base.rows r) l before (k.tied r) u (omega arith))) in
      let here : expected_state next s ≡ next.new s = top next s (omega arith) (ap is_expected (set_stamp-same s Undecided before.fate)) in
      let new_is : next.new s ≡ apply sh r (expected_state (hist l) (s - 1)) w = set_stamp-same s (apply sh r (expected_state (hist l) (s - 1)) w) before.new in
      let old_is : expected_state (hist l) (s - 1) ≡ applied sh r p (b.state t r p) (begun t r l) =
      h (s - 1) (omega arith)
      ∙ (applied_still (s - 1) p (b.state t r (s - 1)) (last_of b t l) (begun t r l) (omega arith) (omega arith) (begun-up_to t (b.last t) r l)
      ∙ ap (λ (o : RowState). applied sh r p o (begun t r l)) (sym (base_still p (s - 1) (let m = last_from-le t (b.last t) l in omega arith) (omega arith)))) in
      let changes : begun t r (l ++ e ∷ []) ≡ begun t r l ++ record { stamp = s; what = w } ∷ [] =
      begun-snoc t r l e
      ∙ ap (λ (ds : List Dated). begun t r l ++ ds) (ap (begun_by t r) is ∙ (ap (λ (v : Bool). if v then dated s (change_of cs r) else []) (number_same t) ∙ ap (dated s) c)) in
      ap (λ (x : History RowState). expected_state x p) (from-snoc sh b l e t r ∙ step)
      ∙ (down ∙ (here ∙ (new_is ∙ (ap (λ (o : RowState). apply sh r o w) old_is
      ∙ (sym (applied_end p (b.state t r p) (begun t r l) (record { stamp = s; what = w }) late) ∙ ap (applied sh r p (b.state t r p)) (sym changes))))))

  -- where its row is written
  writes : (l : List Entry) (e : Entry) → IsLegal b l → (s : ℕ) (rows : List (List Value)) → e.act ≡ Wrote tid s rows → IsWritable l e.seat t s rows → has rows r ≡ true → (p : ℕ) → expected_state (write_change s (hist l)) p ≡ expected_state (hist l) p
  writes l e legal s rows is f on p =
      let k = rows_kept sh b tid base.rows base.low l legal in
      let old : (hist l).fate s ≡ Undecided = undecided sh b tid r (base.rows r) l (hist l) (k.tied r) e s rows is f on in
      state_at-alike (hist l).base (λ u. is_expected ((hist l).fate u)) (λ u. is_expected ((write_change s (hist l)).fate u)) (hist l).new (hist l).new p
      (λ u m. elim (cases_eq s u) [
        | inl q ↦ subst (λ (v : ℕ). is_expected ((write_change s (hist l)).fate v) ≡ is_expected ((hist l).fate v)) q (ap is_expected (set_stamp-same s Written (hist l).fate) ∙ sym (ap is_expected old))
        | inr q ↦ ap is_expected (set_stamp-other s Written (hist l).fate u q)
      ])
      (λ u m c. refl)

  same_id : (a c : TableId) → a.0 ≡ c.0 → a ≡ c
  same_id a c e = λ i. record { 0 = e i }

  other : {A : Type 0} (v : Bool) → v ≡ false → (x y : A) → (if v then x else y) ≡ y
  other true e x y = absurd (false≢true (sym e))
  other false e x y = refl

  step : (l : List Entry) (e : Entry) → IsLegal b l → Tells l → (act : Act) → e.act ≡ act → Follows b l e.seat e.calls act → Tells (l ++ e ∷ [])
  unfolding Follows history_step begun_by
  step l e legal h (Begun t' s cs) is f = elim (cases_eq t'.0 t) [
    | inl q ↦
        (let is' : e.act ≡ Begun tid s cs = is ∙ ap (λ (u : TableId). Begun u s cs) (same_id t' tid q) in
        by is' (subst (λ (u : ℕ). last_of b u l < s) q f.0) (change_of cs r) refl)
    | inr q ↦ alike l e h (λ p. ap (λ (x : History RowState). expected_state x p) (ap (history_step sh t r (hist l)) is ∙ other (t'.0 == t) (ne_eqb t'.0 t q) (begun_as sh r s (change_of cs r) (hist l)) (hist l)))
        (ap (begun_by t r) is ∙ other (t'.0 == t) (ne_eqb t'.0 t q) (dated s (change_of cs r)) [])
  ]
    where
      by : e.act ≡ Begun tid s cs → last_of b t l < s → (o : Option What) → change_of cs r ≡ o → Tells (l ++ e ∷ [])
      by is' new (Some w) c = begins l e legal h s cs is' new w c
      by is' new None c = alike l e h
          (λ p. ap (λ (x : History RowState). expected_state x p) (ap (history_step sh t r (hist l)) is' ∙ (ap (λ (v : Bool). if v then begun_as sh r s (change_of cs r) (hist l) else hist l) (number_same t) ∙ ap (λ (o : Option What). begun_as sh r s o (hist l)) c)))
          (ap (begun_by t r) is' ∙ (ap (λ (v : Bool). if v then dated s (change_of cs r) else []) (number_same t) ∙ ap (dated s) c))
  step l e legal h (Wrote t' s rows) is f = alike l e h same (ap (begun_by t r) is)
    where
      same : (p : ℕ) → expected_state (history_step sh t r (hist l) e.act) p ≡ expected_state (hist l) p
      same p = ap (λ (a : Act). expected_state (history_step sh t r (hist l) a) p) is ∙ elim (cases_Bool ((t'.0 == t) && has rows r)) [
        | inl y ↦
            (let z = and_parts (t'.0 == t) (has rows r) y in
            let q : t'.0 ≡ t = eqb-true t'.0 t z.0 in
            ap (λ (v : Bool). expected_state (if v then write_change s (hist l) else hist l) p) y
            ∙ writes l e legal s rows (is ∙ ap (λ (u : TableId). Wrote u s rows) (same_id t' tid q)) (subst (λ (u : ℕ). IsWritable l e.seat u s rows) q f) z.1 p)
        | inr y ↦ ap (λ (v : Bool). expected_state (if v then write_change s (hist l) else hist l) p) y
      ]
  step l e legal h (Ended t' s) is f = alike l e h (λ p. ap (λ (a : Act). expected_state (history_step sh t r (hist l) a) p) is ∙ ended p ((t'.0 == t) && is_begun ((hist l).fate s))) (ap (begun_by t r) is)
    where
      ended : (p : ℕ) (v : Bool) → expected_state (if v then end_change s (hist l) else hist l) p ≡ expected_state (hist l) p
      ended p true = refl
      ended p false = refl
  step l e legal h act is f = alike l e h (λ p. ap (λ (a : Act). expected_state (history_step sh t r (hist l) a) p) is) (ap (begun_by t r) is)

  -- 3. All of them

  decided : (v : Bool) → is_undecided (cond v Written Unbegun) ≡ false
  decided true = refl
  decided false = refl

  first : Tells []
  unfolding applied begun history_from
  first p l = expected_written (base_history b t r) p (λ s m. decided (b.changed t r s)) ∙ (tied_base sh b tid r (base.rows r)).states p

  pub begun_counts : (es : List Entry) → IsLegal b es → Tells es
  unfolding history_from
  begun_counts es legal = legal-induct b Tells (λ l e pre may h. step l e pre h e.act refl may.follows) [] es legal first

-- 4. What a batch counts on

pub counted_on : (b : Base) (index : ℕ → IndexForm) (es : List Entry) (g : Group) (v : GroupData) (hs : List HeldBatch) → IsTallied b es g hs → IsShownBy b index es g v hs → last_of b g.table.id.0 es ≤ greatest_stamp → (r : List Value)
    → old_state g r ≡ applied (shape_of b es g.table.id.0) r greatest_stamp (b.state g.table.id.0 r greatest_stamp) (begun g.table.id.0 r es)
counted_on b index es g v hs w shown early r =
    let sh = table_shape g.table in
    let k = shown.kept.group in
    let rows = rows_of_group (form_of b index g) es v k in
    let low : v.low ≤ greatest_stamp = (let a = rows.low in let c = k.low in omega arith) in
    states_same sh r ((row_form g.table).spelled (value_at (read_of g.rows)) r greatest_stamp) (batches_of g) hs w.batches
    ∙ ((λ i. after_pending sh r ((row_form g.table).spelled (value_at (sym shown.rows i)) r greatest_stamp) hs)
    ∙ (ap (λ (o : RowState). after_pending sh r o hs) (k.told.spells r greatest_stamp low)
    ∙ (sym (expected_is (row_form g.table) b es g.table.id v.high rows hs w.held r greatest_stamp early)
    ∙ (begun_counts sh b g.table.id r k.base es k.legal greatest_stamp early
    ∙ ap (λ (s : Shape). applied s r greatest_stamp (b.state g.table.id.0 r greatest_stamp) (begun g.table.id.0 r es)) (sym k.shape)))))
