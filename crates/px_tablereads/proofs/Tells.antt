-- Each written change above the data horizon has a cell: every step keeps it.
use Rattle.std.proofs.Common.{◌≡◌, ℕ, ◌<◌, Bool, true, false, cond, ◌⊎◌, if◌then◌else◌, Option, Some, None, List, [], ◌∷◌, ◌++◌, refl, ap, sym, ◌∙◌, subst, inl, inr, arith}
use Rattle.std.proofs.lemmas.Bool.{cases_eq}
use Rattle.px_cells.specs.declared.kind.CellKind.{CellKind}
use Rattle.px_cells.specs.CellData.{CellData}
use Rattle.px_cells.specs.Contents.{Contents, or_else, value_at}
use Rattle.px_cells.specs.Order.{ReadsSame}
use Rattle.px_cells.proofs.Contents.{values_put}
use Rattle.px_values.specs.declared.row.Value.{Value}
use Rattle.px_values.specs.States.{RowState}
use Rattle.px_trail.specs.declared.entry.Act.{Act}
use Rattle.px_trail.specs.declared.entry.Act.TheVariants.{Wrote}
use Rattle.px_trail.specs.declared.entry.Entry.{Entry}
use Rattle.px_trail.specs.Batches.{Batch, batch_of, batch_step, has}
use Rattle.px_trail.specs.Legal.{Follows, IsWritable, MayCome}
use Rattle.px_trail.specs.States.{begun, is_row_written, is_written_in}
use Rattle.px_trail.proofs.Growth.{batch_of-snoc}
use Rattle.px_trail.proofs.Orders.{WritesNone, written_kept}
use Rattle.px_world.specs.World.{Unbegun, Written, is_written as is_written_fate}
use Rattle.px_history.specs.History.{History, write_change}
use Rattle.px_history.specs.Rows.{history_from, RowBatch, Tied, fate_by, row_in}
use Rattle.px_history.proofs.Changes.{all_listed, from-snoc}
use Rattle.px_history.proofs.Ties.{changes, listed_change, wrote_step_is}
use Rattle.px_world.proofs.Steps.{set_stamp-other}
use Rattle.px_indexed.specs.Kept.{IsCompacted, ReadsWrites, RowsKept}
use Rattle.px_indexed.specs.Worlds.{history_at}
use Rattle.px_indexed.proofs.Rows.{same_some}
use Rattle.px_groupworld.specs.Group.{TableForm, GroupData, GroupKept}
use Rattle.px_groupworld.specs.Steps.{forgot_data, wrote_data}
use Rattle.px_groupworld.proofs.Entries.{rows_of_group}
use Rattle.px_tablereads.specs.Told.{AreTold, StandsAt, WritesSome}

-- what is written is what the base changed, or the trail wrote
fate_written : (v : Bool) (o : Option RowBatch) → is_written_fate (cond v Written (fate_by o)) ≡ cond v true (is_written_fate (fate_by o))
fate_written true o = refl
fate_written false o = refl

if_true : (v a : Bool) → cond v true a ≡ true → (v ≡ true) ⊎ (a ≡ true)
if_true true a h = inl refl
if_true false a h = inr h

module _ (f : TableForm) (es : List Entry) (v : GroupData) (k : GroupKept f es v) where
  abbrev t : ℕ
  t = f.id.0

  abbrev hist : List Entry → List Value → History RowState
  hist l r = history_at f.rows.shape f.base l t r

  written_is : (l : List Entry) (r : List Value) (s : ℕ) → Tied f.rows.shape f.base l t r (hist l r) → is_written_fate ((hist l r).fate s) ≡ cond (f.base.changed t r s) true (is_row_written l t r s)
  written_is l r s tie = ap is_written_fate (tie.fates s) ∙ (fate_written (f.base.changed t r s) (row_in (batch_of t s l) r) ∙ ap (λ z. cond (f.base.changed t r s) true z) (sym (tie.writes s)))

  -- a cell of that stamp is of a written change, and the other way round
  pub written_seen : AreTold f es v → (r : List Value) (s : ℕ) → v.low < s → (is_written_fate ((hist es r).fate s) ≡ true → StandsAt f.rows (value_at v.cells) r s) × (StandsAt f.rows (value_at v.cells) r s → is_written_fate ((hist es r).fate s) ≡ true)
  written_seen told r s l = (
    told.each r s l,
    λ z. elim (k.told.stamps r z.qualifier s z.kind z.value z.is) [ inl m ↦ absurd (omega arith) | inr m ↦ m ],
  )

  -- a step that leaves the cells of the rows, the data horizon, and what is written
  pub told_same : (es' : List Entry) (v' : GroupData) → GroupKept f es' v' → AreTold f es v → v'.low ≡ v.low → v'.cells ≡ v.cells → ((r : List Value) (s : ℕ) → is_row_written es' t r s ≡ is_row_written es t r s) → AreTold f es' v'
  told_same es' v' k' told low cells same = record {
    each = λ r s l w. subst (λ (c : List CellData). StandsAt f.rows (value_at c) r s) (sym cells)
        (told.each r s (omega arith) (written_is es r s ((rows_of_group f es v k).tied r) ∙ (ap (λ z. cond (f.base.changed t r s) true z) (sym (same r s)) ∙ (sym (written_is es' r s ((rows_of_group f es' v' k').tied r)) ∙ w))));
  }

  -- an entry that writes nothing
  pub quiet_written : (e : Entry) → WritesNone e.act → (r : List Value) (s : ℕ) → is_row_written (es ++ e ∷ []) t r s ≡ is_row_written es t r s
  quiet_written e n r s = ap (λ (o : Option Batch). is_written_in o r) (batch_of-snoc t s es e) ∙ written_kept t s e.seat (batch_of t s es) e.act r n

  -- the data region is compacted
  pub told_forgot : AreTold f es v → (new : List CellData) → IsCompacted v.cells new v.high → AreTold f es (forgot_data new v)
  told_forgot told new is = record {
    each = λ r s l w.
        (let z = told.each r s (let q = k.low in omega arith) w in
        record { qualifier = z.qualifier; kind = z.kind; value = z.value; is = is.above (f.rows.key_of r) z.qualifier s z.kind l ∙ z.is });
  }

  -- rows are written
  module _ (some : WritesSome f.rows) (told : AreTold f es v) (e : Entry) (may : MayCome f.base es e) (s : ℕ) (rs : List (List Value)) (is : e.act ≡ Wrote f.id s rs)
      (y : Batch) (of : batch_of t s es ≡ Some y) (batch new : List CellData) (reads : ReadsWrites f.rows y s rs batch) (put : ReadsSame new (batch ++ v.cells)) where
    rows : RowsKept f.rows.shape f.base es t v.high
    rows = rows_of_group f es v k

    writable : IsWritable es e.seat t s rs
    unfolding Follows
    writable = subst (λ (a : Act). Follows f.base es e.seat e.calls a) is may.follows

    new_is : (a : List ℕ) (q u : ℕ) (d : CellKind) → value_at new a q u d ≡ or_else (value_at batch a q u d) (value_at v.cells a q u d)
    new_is a q u d = ap (λ (c : Contents). c a q u d) (values_put batch v.cells new put)

    -- what stood stands still, at its place
    old_stands : (r : List Value) (u : ℕ) → StandsAt f.rows (value_at v.cells) r u → StandsAt f.rows (value_at new) r u
    old_stands r u z = by (value_at batch (f.rows.key_of r) z.qualifier u z.kind) refl
      where
        by : (o : Option (List ℕ)) → value_at batch (f.rows.key_of r) z.qualifier u z.kind ≡ o → StandsAt f.rows (value_at new) r u
        by (Some x) q = record { qualifier = z.qualifier; kind = z.kind; value = x; is = new_is (f.rows.key_of r) z.qualifier u z.kind ∙ ap (λ o. or_else o (value_at v.cells (f.rows.key_of r) z.qualifier u z.kind)) q }
        by None q = record { qualifier = z.qualifier; kind = z.kind; value = z.value; is = new_is (f.rows.key_of r) z.qualifier u z.kind ∙ (ap (λ o. or_else o (value_at v.cells (f.rows.key_of r) z.qualifier u z.kind)) q ∙ z.is) }

    -- a row that is written has its cells
    now_stands : (r : List Value) → has rs r ≡ true → StandsAt f.rows (value_at new) r s
    now_stands r on =
        let w = writable in
        let c = changes f.rows.shape f.base f.id r (k.base.rows r) es (hist es r) (rows.tied r) e s rs is w on in
        let fits : f.rows.Fits r c.0 = all_listed (λ d. f.rows.Fits r d.what) _ (begun t r es) (k.told.fits r) (listed_change f.rows.shape f.base f.id r (k.base.rows r) es (hist es r) (rows.tied r) e s rs is w on) in
        let same : w.batch ≡ y = same_some (sym w.is ∙ of) in
        let z = some.each r s c.0 fits in
        let q : value_at batch (f.rows.key_of r) z.qualifier s z.kind ≡ Some z.value = reads.each r c.0 on (subst (λ (b : Batch). Rattle.px_trail.specs.Batches.change_of b.changes r ≡ Some c.0) same c.1) z.qualifier s z.kind ∙ z.is in
        record { qualifier = z.qualifier; kind = z.kind; value = z.value; is = new_is (f.rows.key_of r) z.qualifier s z.kind ∙ ap (λ o. or_else o (value_at v.cells (f.rows.key_of r) z.qualifier s z.kind)) q }

    history_is : (r : List Value) → hist (es ++ e ∷ []) r ≡ (if has rs r then write_change s (hist es r) else hist es r)
    history_is r = from-snoc f.rows.shape f.base es e t r ∙ wrote_step_is f.rows.shape f.base f.id r (k.base.rows r) es (hist es r) (rows.tied r) e s rs is writable

    pub told_wrote : AreTold f (es ++ e ∷ []) (wrote_data new v)
    told_wrote = record { each = λ r u l w. by r u l (has rs r) refl (sym (ap (λ (h : History RowState). is_written_fate (h.fate u)) (history_is r)) ∙ w) }
      where
        by : (r : List Value) (u : ℕ) → v.low < u → (on : Bool) → has rs r ≡ on → is_written_fate ((if on then write_change s (hist es r) else hist es r).fate u) ≡ true → StandsAt f.rows (value_at new) r u
        by r u l false q w = old_stands r u (told.each r u l w)
        by r u l true q w = elim (cases_eq s u) [
          | inl z ↦ subst (λ (x : ℕ). StandsAt f.rows (value_at new) r x) z (now_stands r q)
          | inr z ↦ old_stands r u (told.each r u l (ap is_written_fate (sym (set_stamp-other s Written (hist es r).fate u z)) ∙ w))
        ]

-- before the first entry: the changes of the base have their cells
pub told_first : (f : TableForm) (v : GroupData) → ((r : List Value) (s : ℕ) → v.low < s → f.base.changed f.id.0 r s ≡ true → StandsAt f.rows (value_at v.cells) r s) → AreTold f [] v
unfolding history_from
told_first f v h = record { each = λ r s l w. h r s l (by (f.base.changed f.id.0 r s) w) }
  where
    by : (b : Bool) → is_written_fate (cond b Written Unbegun) ≡ true → b ≡ true
    by true w = refl
    by false w = w
