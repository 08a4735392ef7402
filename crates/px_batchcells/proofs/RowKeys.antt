-- Rows that stand have keys of at most 1,024 bytes, as long as the rows that batches begin to change do.
use Rattle.std.proofs.Common.{◌≡◌, ℕ, ◌≤◌, Bool, true, false, filter, if◌then◌else◌, ◌==◌, Option, Some, None, List, [], ◌∷◌, ◌++◌, length, max, refl, sym, subst, inl, inr, arith}
use Rattle.std.specs.List.{AllByRecursion}
use Rattle.std.specs.Ordering.{is_eq}
use Rattle.std.proofs.lemmas.Bool.{cases_Bool}
use Rattle.px_cells.specs.Contents.{value_at}
use Rattle.px_forms.specs.Indexes.{IndexForm}
use Rattle.px_groupworld.specs.Group.{GroupData, GroupKept, table_form}
use Rattle.px_keys.specs.Spelling.{Fits}
use Rattle.px_rows.specs.Keys.{row_columns, row_key}
use Rattle.px_rows.specs.Spelled.{FitsTable, row_form}
use Rattle.px_rows.proofs.KeysBack.{row_key-fits}
use Rattle.px_tablefolder.specs.Folder.{IsFolderBase, TableFiles}
use Rattle.px_tables.specs.declared.table.Table.{Table}
use Rattle.px_trail.specs.Batches.{change_of}
use Rattle.px_trail.specs.Trail.{Base, table_shape}
use Rattle.px_trail.specs.States.{Dated, applied, begun, begun_by, dated, is_row_written}
use Rattle.px_trail.proofs.Growth.{begun-snoc}
use Rattle.px_trail.specs.declared.entry.Act.{Act}
use Rattle.px_trail.specs.declared.entry.Act.TheVariants.{Begun}
use Rattle.px_trail.specs.declared.entry.Entry.{Entry}
use Rattle.px_values.specs.Limits.{most_key}
use Rattle.px_values.specs.Order.{row_order}
use Rattle.px_values.proofs.Equal.{row_order-Decides}
use Rattle.px_values.specs.States.{RowState}
use Rattle.px_values.specs.declared.change.Change.{Change}
use Rattle.px_values.specs.declared.change.What.{What}
use Rattle.px_values.specs.declared.name.TableId.{TableId}
use Rattle.px_values.specs.declared.row.Value.{Value}
use Rattle.px_batchcells.proofs.RowsMade.{all_append}
use Rattle.px_batchcells.specs.Keys.{AreShort, HasShortKey, HaveShortKeys}

-- 1. The rows that stand

any_key : (t : Table) (r : List Value) → Fits (row_columns t) r → length (row_key t r) ≤ most_key → (o : RowState) → HasShortKey t r o
any_key t r f s None = tt
any_key t r f s (Some row) = record { fits = f; spells = sym (row_key-fits t r f); short = s }

-- a row that no change was begun of is as it was, and one with a change has a key
applied_key : (t : Table) (r : List Value) (p : ℕ) (keep : Dated → Bool) (ds : List Dated) (o : RowState) → AllByRecursion (λ d. FitsTable t r d.what) ds → AllByRecursion (λ d. length (row_key t r) ≤ most_key) ds → HasShortKey t r o → HasShortKey t r (applied (table_shape t) r p o (filter keep ds))
unfolding applied
applied_key t r p keep [] o a b h = h
applied_key t r p keep (d ∷ ds) o a b h = any_key t r a.0.0 b.0 (applied (table_shape t) r p o (filter keep (d ∷ ds)))

pub spelled_keys : (t : Table) (b : Base) (id : TableId) (index : ℕ → IndexForm) (es : List Entry) (v : GroupData) → GroupKept (table_form b id index (row_form t)) es v → HaveShortKeys t v.low (b.state id.0) → AreShort t id.0 es → HaveShortKeys t v.low ((row_form t).spelled (value_at v.cells))
spelled_keys t b id index es v k base short = record {
  each = λ r p l. subst (HasShortKey t r) (sym (k.told.spells r p l)) (applied_key t r p (λ d. is_row_written es id.0 r d.stamp) (begun id.0 r es) (b.state id.0 r p) (k.told.fits r) (short.each r) (base.each r p l));
}

pub opened_keys : (t : Table) (b : Base) (id : TableId) (n : TableFiles) → IsFolderBase b id.0 (row_form t) n → HaveShortKeys t n.horizon ((row_form t).spelled (value_at n.cells)) → (low : ℕ) → HaveShortKeys t low (b.state id.0)
opened_keys t b id n is keys low = record { each = λ r p l. subst (HasShortKey t r) (λ i. sym is.state i r p) (keys.each r (max n.horizon p) (omega arith)) }

-- 2. The rows that batches begin to change

pub none_short : (t : Table) (n : ℕ) → AreShort t n []
unfolding begun
none_short t n = record { each = λ r. tt }

more_short : (t : Table) (n : ℕ) (es : List Entry) (e : Entry) → AreShort t n es → ((r : List Value) → AllByRecursion (λ d. length (row_key t r) ≤ most_key) (begun_by n r e.act)) → AreShort t n (es ++ e ∷ [])
more_short t n es e a more = record {
  each = λ r. subst (AllByRecursion (λ d. length (row_key t r) ≤ most_key)) (sym (begun-snoc n r es e)) (all_append (λ d. length (row_key t r) ≤ most_key) (begun n r es) (begun_by n r e.act) (a.each r) (more r));
}

change_short : (t : Table) (cs : List Change) (r : List Value) (w : What) → AllByRecursion (λ c. length (row_key t c.row) ≤ most_key) cs → change_of cs r ≡ Some w → length (row_key t r) ≤ most_key
unfolding change_of
change_short t [] r w a h = cc
change_short t (c ∷ cs) r w a h = elim (cases_Bool (is_eq (row_order c.row r))) [
  | inl e ↦ subst (λ (y : List Value). length (row_key t y) ≤ most_key) ((row_order-Decides c.row r).0 e) a.0
  | inr e ↦ change_short t cs r w a.1 (rw e at h)
]

-- a batch begins, of this table or another
pub begun_short : (t : Table) (n : ℕ) (es : List Entry) → AreShort t n es → (e : Entry) (id : TableId) (s : ℕ) (cs : List Change) → e.act ≡ Begun id s cs → AllByRecursion (λ c. length (row_key t c.row) ≤ most_key) cs → AreShort t n (es ++ e ∷ [])
unfolding begun_by
begun_short t n es a e id s cs is short = more_short t n es e a (λ r. subst (λ (x : Act). AllByRecursion (λ d. length (row_key t r) ≤ most_key) (begun_by n r x)) (sym is) (here r (id.0 == n)))
  where
    some : (r : List Value) (o : Option What) → change_of cs r ≡ o → AllByRecursion (λ d. length (row_key t r) ≤ most_key) (dated s o)
    some r None q = tt
    some r (Some w) q = (change_short t cs r w short q, tt)

    here : (r : List Value) (v : Bool) → AllByRecursion (λ d. length (row_key t r) ≤ most_key) (if v then dated s (change_of cs r) else [])
    here r true = some r (change_of cs r) refl
    here r false = tt

-- an entry that begins no batch of the table
pub idle_short : (t : Table) (n : ℕ) (es : List Entry) → AreShort t n es → (e : Entry) → ((r : List Value) → begun_by n r e.act ≡ []) → AreShort t n (es ++ e ∷ [])
idle_short t n es a e none = more_short t n es e a (λ r. subst (AllByRecursion (λ d. length (row_key t r) ≤ most_key)) (sym (none r)) tt)
