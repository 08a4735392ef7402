-- Writing a batch's rows keeps what the data region says.
use Rattle.std.proofs.Common.{◌≡◌, ℕ, ◌<◌, ◌≤◌, Bool, true, false, if◌then◌else◌, nat_le, ◌⊎◌, Option, Some, None, List, [], ◌∷◌, ◌++◌, refl, ap, sym, ◌∙◌, subst, inl, inr, arith}
use Rattle.std.specs.List.{AllByRecursion}
use Rattle.std.proofs.lemmas.Bool.{cases_Bool, cases_eq, cases_lt, cond-true, cond-false, false≢true}
use Rattle.std.proofs.lemmas.Bool.Decides.{nat_tests}
use Rattle.px_cells.specs.declared.kind.CellKind.{CellKind}
use Rattle.px_values.specs.declared.row.Value.{Value}
use Rattle.px_values.specs.declared.change.What.{What}
use Rattle.px_values.specs.declared.name.TableId.{TableId}
use Rattle.px_trail.specs.declared.entry.Act.TheVariants.{Wrote}
use Rattle.px_trail.specs.declared.entry.Entry.{Entry}
use Rattle.px_cells.specs.CellData.{CellData}
use Rattle.px_cells.specs.Order.{ReadsSame}
use Rattle.px_trail.specs.Trail.{Base}
use Rattle.px_trail.specs.Legal.{IsWritable}
use Rattle.px_trail.specs.States.{begun}
use Rattle.px_trail.specs.Batches.{change_of, has}
use Rattle.px_world.specs.World.{Undecided, Written, is_written}
use Rattle.px_world.specs.Events.{set_stamp}
use Rattle.px_world.proofs.Steps.{set_stamp-same, set_stamp-other}
use Rattle.px_cells.specs.Contents.{or_else, Contents, value_at, over_contents}
use Rattle.px_history.specs.History.{History, write_change}
use Rattle.px_indexed.specs.Kept.{RowsKept, ReadsWrites, DataKept}
use Rattle.px_trail.proofs.Batches.{in_writing}
use Rattle.px_forms.specs.Rows.{DataForm, IsClearFrom, IsSameTo, IsCompactedAt}
use Rattle.px_cells.proofs.Contents.{values_put}
use Rattle.px_history.proofs.Ties.{wrote_step_is, undecided, changes, later, trail_wrote, tied_unwritten, listed_change, begins_none}
use Rattle.px_history.proofs.Changes.{all_listed, from-snoc}
use Rattle.px_values.specs.States.{apply}
use Rattle.px_indexed.specs.Worlds.{history_at}
use Rattle.px_history.specs.Rows.{state_by}
use Rattle.px_indexed.proofs.Regions.{row_cells_put}
use Rattle.px_indexed.specs.Kept.{IsCompacted}
use Rattle.px_indexed.proofs.Compacted.{compacted_stood}

some_or_none : {A : Type 0} (o : Option A) → (o ≡ None) ⊎ ((v : A) × (o ≡ Some v))
some_or_none None = inl refl
some_or_none (Some v) = inr (v, refl)

module _ (f : DataForm) (b : Base) (es : List Entry) (tid : TableId) (raised : ℕ) (k : RowsKept f.shape b es tid.0 raised) (low : ℕ) (low_high : low ≤ raised) (old : List CellData) (g : DataKept b es tid.0 f low old)
    (e : Entry) (s : ℕ) (rows : List (List Value)) (is : e.act ≡ Wrote tid s rows) (may : IsWritable es e.seat tid.0 s rows)
    (batch new : List CellData) (put : ReadsSame new (batch ++ old)) (reads : ReadsWrites f may.batch s rows batch) where
  abbrev t : ℕ
  t = tid.0

  abbrev after : List Entry
  after = es ++ e ∷ []

  new_is : (a : List ℕ) (q u : ℕ) (d : CellKind) → value_at new a q u d ≡ or_else (value_at batch a q u d) (value_at old a q u d)
  new_is a q u d = ap (λ (c : Contents). c a q u d) (values_put batch old new put)

  -- ---- a row that isn't written

  module _ (r : List Value) (not : has rows r ≡ false) where
    same_there : (q u : ℕ) (d : CellKind) → value_at new (f.key_of r) q u d ≡ value_at old (f.key_of r) q u d
    same_there q u d = new_is (f.key_of r) q u d ∙ ap (λ o. or_else o (value_at old (f.key_of r) q u d)) (reads.others r not q u d)

    same_history : history_at f.shape b after t r ≡ history_at f.shape b es t r
    same_history = from-snoc f.shape b es e t r ∙ (wrote_step_is f.shape b tid r (k.base r) es (history_at f.shape b es t r) (k.tied r) e s rows is may ∙ ap (λ (v : Bool). if v then write_change s (history_at f.shape b es t r) else history_at f.shape b es t r) not)

    same_state : (p : ℕ) → state_by f.shape b after t r p ≡ state_by f.shape b es t r p
    same_state p = sym ((tied_unwritten f.shape b tid r (k.base r) es (history_at f.shape b es t r) (k.tied r) e s rows is may not).states p) ∙ (k.tied r).states p

    same_spelled : (p : ℕ) → low ≤ p → f.spelled (value_at new) r p ≡ state_by f.shape b after t r p
    same_spelled p l = g.form.local (value_at old) (value_at new) r p (record { each = λ q u d m. same_there q u d }) ∙ (g.spells r p l ∙ sym (same_state p))

  fitting : (r : List Value) (of : has rows r ≡ true) → f.Fits r (changes f.shape b tid r (k.base r) es (history_at f.shape b es t r) (k.tied r) e s rows is may of).0
  fitting r of = all_listed (λ d. f.Fits r d.what) _ (begun t r es) (g.fits r) (listed_change f.shape b tid r (k.base r) es (history_at f.shape b es t r) (k.tied r) e s rows is may of)

  -- ---- a row that is

  module _ (r : List Value) (of : has rows r ≡ true) where
    abbrev w : What
    w = (changes f.shape b tid r (k.base r) es (history_at f.shape b es t r) (k.tied r) e s rows is may of).0

    w_is : change_of may.batch.changes r ≡ Some w
    w_is = (changes f.shape b tid r (k.base r) es (history_at f.shape b es t r) (k.tied r) e s rows is may of).1

    pending : (history_at f.shape b es t r).fate s ≡ Undecided
    pending = undecided f.shape b tid r (k.base r) es (history_at f.shape b es t r) (k.tied r) e s rows is may of

    above : low < s
    above = elim (cases_lt raised s) [ inl l ↦ omega arith | inr l ↦ absurd (false≢true (sym (in_writing may.batch may.phase).0 ∙ k.ended s may.batch may.is l)) ]

    batch_is : (q u : ℕ) (d : CellKind) → value_at new (f.key_of r) q u d ≡ over_contents (f.cells_of r s w) (value_at old) (f.key_of r) q u d
    batch_is q u d = new_is (f.key_of r) q u d ∙ ap (λ o. or_else o (value_at old (f.key_of r) q u d)) (reads.each r w of w_is q u d)

    clear : IsClearFrom f (value_at old) r s
    clear = record { each = each }
      where
        each : (q u : ℕ) (d : CellKind) → s ≤ u → value_at old (f.key_of r) q u d ≡ None
        each q u d l = elim (some_or_none (value_at old (f.key_of r) q u d)) [
          | inl n ↦ n
          | inr v ↦ elim (g.stamps r q u d v.0 v.1) [
            | inl m ↦ absurd (let i = above in omega arith)
            | inr m ↦ elim (cases_eq s u) [
              | inl z ↦ absurd (false≢true (sym (ap is_written pending) ∙ (ap (λ (x : ℕ). is_written ((history_at f.shape b es t r).fate x)) z ∙ m)))
              | inr z ↦ absurd (false≢true (sym (later f.shape b tid r (k.base r) es (history_at f.shape b es t r) (k.tied r) e s rows is may of u (omega arith)) ∙ m))
            ]
          ]
        ]

    low_same : (p : ℕ) → p < s → IsSameTo f (value_at old) (value_at new) r p
    low_same p l = record { each = λ q u d m. batch_is q u d ∙ ap (λ o. or_else o (value_at old (f.key_of r) q u d)) (g.form.stamped r s w q u d (λ z. absurd (omega arith))) }

    trail_is : (p : ℕ) → state_by f.shape b after t r p ≡ (if nat_le s p then apply f.shape r (state_by f.shape b es t r p) w else state_by f.shape b es t r p)
    trail_is p = trail_wrote f.shape b tid r (k.base r) es (history_at f.shape b es t r) (k.tied r) e s rows is may of p

    wrote_spelled : (p : ℕ) → low ≤ p → f.spelled (value_at new) r p ≡ state_by f.shape b after t r p
    wrote_spelled p l = elim (cases_Bool (nat_le s p)) [
      | inl z ↦ (let m : s ≤ p = grind (arith, nat_tests) in g.form.changed low (value_at old) (value_at new) r s w p above (fitting r of) (g.whole r) clear (record { each = batch_is }) m ∙ (ap (λ o. apply f.shape r o w) (g.spells r p l) ∙ sym (trail_is p ∙ cond-true _ _ _ z)))
      | inr z ↦ (let m : p < s = grind (arith, nat_tests) in g.form.local (value_at old) (value_at new) r p (low_same p m) ∙ (g.spells r p l ∙ sym (trail_is p ∙ cond-false _ _ _ z)))
    ]

    wrote_history : history_at f.shape b after t r ≡ write_change s (history_at f.shape b es t r)
    wrote_history = from-snoc f.shape b es e t r ∙ (wrote_step_is f.shape b tid r (k.base r) es (history_at f.shape b es t r) (k.tied r) e s rows is may ∙ ap (λ (v : Bool). if v then write_change s (history_at f.shape b es t r) else history_at f.shape b es t r) of)

    wrote_stamps : (q u : ℕ) (d : CellKind) (v : List ℕ) → value_at new (f.key_of r) q u d ≡ Some v → (u ≤ low) ⊎ (is_written ((history_at f.shape b after t r).fate u) ≡ true)
    wrote_stamps q u d v h = elim (cases_eq s u) [
      | inl z ↦ inr (ap (λ (x : History _). is_written (x.fate u)) wrote_history ∙ subst (λ (y : ℕ). is_written (set_stamp s Written (history_at f.shape b es t r).fate y) ≡ true) z (ap is_written (set_stamp-same s Written (history_at f.shape b es t r).fate)))
      | inr z ↦
          (let o : value_at old (f.key_of r) q u d ≡ Some v = sym (batch_is q u d ∙ ap (λ o. or_else o (value_at old (f.key_of r) q u d)) (g.form.stamped r s w q u d z)) ∙ h in
          elim (g.stamps r q u d v o) [
            | inl m ↦ inl m
            | inr m ↦ inr (ap (λ (x : History _). is_written (x.fate u)) wrote_history ∙ (ap is_written (set_stamp-other s Written (history_at f.shape b es t r).fate u z) ∙ m))
          ])
    ]

  pub data_wrote : DataKept b after t f low new
  data_wrote = record {
    form = g.form;
    cells = row_cells_put f batch old new put reads.cells g.cells;
    stamps = λ r q u d v h. elim (cases_Bool (has rows r)) [
      | inl z ↦ wrote_stamps r z q u d v h
      | inr z ↦ elim (g.stamps r q u d v (sym (same_there r z q u d) ∙ h)) [
        | inl m ↦ inl m
        | inr m ↦ inr (ap (λ (x : History _). is_written (x.fate u)) (same_history r z) ∙ m)
      ]
    ];
    spells = λ r p l. elim (cases_Bool (has rows r)) [ inl z ↦ wrote_spelled r z p l | inr z ↦ same_spelled r z p l ];
    whole = λ r. elim (cases_Bool (has rows r)) [
      | inl z ↦ g.form.whole low (value_at old) (value_at new) r s (w r z) (above r z) (fitting r z) (g.whole r) (clear r z) (record { each = batch_is r z })
      | inr z ↦ g.form.whole_local low (value_at old) (value_at new) r (same_there r z) (g.whole r)
    ];
    fits = λ r. subst (AllByRecursion (λ d. f.Fits r d.what)) (sym (begins_none f.shape b tid r (k.base r) es (history_at f.shape b es t r) (k.tied r) e s rows is may)) (g.fits r);
  }

-- the data region after a major compaction at the table's horizon
pub data_compacted : (b : Base) (es : List Entry) (t : ℕ) (f : DataForm) (low h : ℕ) (old new : List CellData) → DataKept b es t f low old → low ≤ h → IsCompacted old new h → DataKept b es t f h new
data_compacted b es t f low h old new g l is = record {
  form = g.form;
  cells = record { each = λ c v. g.cells.each c (compacted_stood old new h is c.key c.qualifier c.stamp c.kind c.value v) };
  stamps = λ r q u d v e. elim (cases_lt h u) [
    | inl m ↦ elim (g.stamps r q u d v (sym (is.above (f.key_of r) q u d m) ∙ e)) [ inl a ↦ absurd (omega arith) | inr a ↦ inr a ]
    | inr m ↦ inl m
  ];
  spells = λ r p m. g.form.kept low (value_at old) (value_at new) r h p (g.whole r) l (at r) m ∙ g.spells r p (omega arith);
  whole = λ r. g.form.whole_kept low (value_at old) (value_at new) r h (at r) l (g.whole r);
  fits = g.fits;
}
  where
    at : (r : List Value) → IsCompactedAt (value_at old) (value_at new) (f.key_of r) h
    at r = record { above = is.above (f.key_of r); puts = is.puts (f.key_of r); others = is.others (f.key_of r) }
