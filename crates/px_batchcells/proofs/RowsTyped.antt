-- The states that cells spell have values of their columns' types, as long as the changes do.
use Rattle.std.proofs.Common.{ℕ, ◌<◌, ◌≤◌, Bool, true, false, cond, filter, if◌then◌else◌, nat_le, None, List, [], ◌∷◌, max, ap, sym, ◌∙◌, subst, inl, inr, arith}
use Rattle.std.specs.List.{AllByRecursion}
use Rattle.std.proofs.lemmas.Bool.{cases_lt}
use Rattle.px_cells.specs.Contents.{Contents, or_else, value_at}
use Rattle.px_forms.specs.Indexes.{IndexForm}
use Rattle.px_forms.specs.Rows.{IsChangeWritten, IsClearFrom, IsCompactedAt, IsSameTo}
use Rattle.px_groupworld.specs.Group.{GroupData, GroupKept, table_form}
use Rattle.px_indexrow.specs.Form.{FitsRowState}
use Rattle.px_indexrow.proofs.StatesFit.{apply_fits}
use Rattle.px_rows.specs.Keys.{IsRightTable}
use Rattle.px_rows.specs.Spelled.{FitsTable, row_form}
use Rattle.px_rows.proofs.Spelled.{nothing_spelled, table_laws}
use Rattle.px_tablefolder.specs.Folder.{IsFolderBase, TableFiles}
use Rattle.px_tables.specs.declared.table.Table.{Table}
use Rattle.px_trail.specs.Trail.{Base, table_shape}
use Rattle.px_trail.specs.States.{Dated, applied, begun, is_row_written}
use Rattle.px_trail.specs.declared.entry.Entry.{Entry}
use Rattle.px_values.specs.States.{RowState, apply}
use Rattle.px_values.specs.declared.change.What.{What}
use Rattle.px_values.specs.declared.name.TableId.{TableId}
use Rattle.px_values.specs.declared.row.Value.{Value}
use Rattle.px_batchcells.specs.Typed.{AreTyped, IsTypedFrom}

-- 1. The states of the trail

-- after a change up to a point
after_fits : (t : Table) → IsRightTable t → (r : List Value) (o : RowState) (w : What) → FitsTable t r w → FitsRowState t o → (b : Bool) → FitsRowState t (if b then apply (table_shape t) r o w else o)
after_fits t right r o w f s true = apply_fits t r o w right f s
after_fits t right r o w f s false = s

-- after some of these changes
applied_fits : (t : Table) → IsRightTable t → (r : List Value) (p : ℕ) (keep : Dated → Bool) (ds : List Dated) (o : RowState) → AllByRecursion (λ d. FitsTable t r d.what) ds → FitsRowState t o → FitsRowState t (applied (table_shape t) r p o (filter keep ds))
unfolding applied
applied_fits t right r p keep [] o a s = s
applied_fits t right r p keep (d ∷ ds) o a s =
    by (keep d) (applied_fits t right r p keep ds o a.1 s) (applied_fits t right r p keep ds (if nat_le d.stamp p then apply (table_shape t) r o d.what else o) a.1 (after_fits t right r o d.what a.0 s (nat_le d.stamp p)))
  where
    by : (b : Bool) → FitsRowState t (applied (table_shape t) r p o (filter keep ds)) → FitsRowState t (applied (table_shape t) r p (if nat_le d.stamp p then apply (table_shape t) r o d.what else o) (filter keep ds)) → FitsRowState t (applied (table_shape t) r p o (cond b (d ∷ filter keep ds) (filter keep ds)))
    by false left more = left
    by true left more = more

-- what the cells of a table spell fits, where its base's states do
pub spelled_typed : (t : Table) → IsRightTable t → (b : Base) (id : TableId) (index : ℕ → IndexForm) (es : List Entry) (v : GroupData) → GroupKept (table_form b id index (row_form t)) es v → AreTyped t v.low (b.state id.0) → AreTyped t v.low ((row_form t).spelled (value_at v.cells))
spelled_typed t right b id index es v k base = record {
  each = λ r p l. subst (FitsRowState t) (sym (k.told.spells r p l)) (applied_fits t right r p (λ d. is_row_written es id.0 r d.stamp) (begun id.0 r es) (b.state id.0 r p) (k.told.fits r) (base.each r p l));
}

-- 2. Steps of the cells

pub nothing_typed : (t : Table) (low : ℕ) → AreTyped t low ((row_form t).spelled (λ k q s d. None))
nothing_typed t low = record { each = λ r p l. subst (FitsRowState t) (sym (nothing_spelled t r p)) tt }

module _ (t : Table) (low : ℕ) (g g' : Contents) (r : List Value) where
  -- a change is written over the older cells
  pub written_typed : IsRightTable t → (s : ℕ) (w : What) → low < s → FitsTable t r w → (row_form t).IsWhole low g r → IsClearFrom (row_form t) g r s → IsChangeWritten (row_form t) g g' r s w → IsTypedFrom t low ((row_form t).spelled g r) → IsTypedFrom t low ((row_form t).spelled g' r)
  written_typed right s w high fits whole clear put typed p l = elim (cases_lt p s) [
    | inl m ↦ subst (FitsRowState t) (sym ((table_laws t).local g g' r p (before m))) (typed p l)
    | inr m ↦ subst (FitsRowState t) (sym ((table_laws t).changed low g g' r s w p high fits whole clear put (omega arith))) (apply_fits t r ((row_form t).spelled g r p) w right fits (typed p l))
  ]
    where
      before : {p : ℕ} → p < s → IsSameTo (row_form t) g g' r p
      before m = record {
        each = λ q u d n. put.each q u d ∙ ap (λ o. or_else o (g ((row_form t).key_of r) q u d)) ((table_laws t).stamped r s w q u d (λ e. absurd (omega arith)));
      }

  -- a compaction
  pub compacted_typed : (h : ℕ) → low ≤ h → (row_form t).IsWhole low g r → IsCompactedAt g g' ((row_form t).key_of r) h → IsTypedFrom t low ((row_form t).spelled g r) → IsTypedFrom t h ((row_form t).spelled g' r)
  compacted_typed h l whole is typed p m = subst (FitsRowState t) (sym ((table_laws t).kept low g g' r h p whole l is m)) (typed p (omega arith))

-- 3. The next run

pub opened_typed : (t : Table) (b : Base) (id : TableId) (n : TableFiles) → IsFolderBase b id.0 (row_form t) n → AreTyped t n.horizon ((row_form t).spelled (value_at n.cells)) → (low : ℕ) → AreTyped t low (b.state id.0)
opened_typed t b id n is typed low = record { each = λ r p l. subst (FitsRowState t) (λ i. sym is.state i r p) (typed.each r (max n.horizon p) (omega arith)) }
