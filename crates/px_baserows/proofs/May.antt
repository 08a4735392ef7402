-- Rows that the table had at the birth of an index may be given their base versions there.
use Rattle.std.proofs.Common.{◌≡◌, ℕ, ◌<◌, ◌≤◌, Bool, true, false, cond, not, ◌||◌, Option, Some, None, List, [], ◌∷◌, length, get_or, refl, ap, sym, ◌∙◌, subst, inl, inr, arith}
use Rattle.std.specs.Prelude.{is_some}
use Rattle.std.specs.List.{AllByRecursion}
use Rattle.std.specs.Ordering.{is_eq}
use Rattle.std.proofs.lemmas.Bool.{cases_Bool, false≢true}
use Rattle.px_cells.specs.CellData.{CellData}
use Rattle.px_cells.specs.Order.{ReadsSame}
use Rattle.px_cells.proofs.Among.{all_has, has_from_reads}
use Rattle.px_cellshapes.specs.Keys.{AreRightKeys, IsRightIndexCell}
use Rattle.px_cellshapes.proofs.Each.{each_fewer}
use Rattle.px_cellshapes.proofs.KeysRead.{keys_owned}
use Rattle.px_forms.specs.Indexes.{IndexForm, cells_if, view_at}
use Rattle.px_groupworld.specs.Asks.{CanBase}
use Rattle.px_groupworld.specs.Group.{GroupData, GroupKept, TableForm, no_part, shape_in, table_form, world_in}
use Rattle.px_groupworld.proofs.Entries.{rows_of_group}
use Rattle.px_groupworld.proofs.Queries.{state_is}
use Rattle.px_history.specs.Rows.{fate_by, row_as, row_in}
use Rattle.px_indexed.specs.Kept.{AreIndexCells}
use Rattle.px_indexed.specs.Worlds.{history_at}
use Rattle.px_indexrow.specs.Form.{IsRightIndex, index_form}
use Rattle.px_keptcells.specs.Kept.{laid}
use Rattle.px_rows.specs.Keys.{IsRightTable}
use Rattle.px_rows.specs.Spelled.{row_form}
use Rattle.px_tables.specs.declared.index.Index.{Index}
use Rattle.px_tables.specs.declared.table.Table.{Table}
use Rattle.px_trail.specs.Batches.{Batch, IsDecided, batch_of, change_of, has, rows_of, unwritten}
use Rattle.px_trail.specs.States.{state_of}
use Rattle.px_trail.specs.Trail.{Base, last_of}
use Rattle.px_trail.specs.declared.entry.Entry.{Entry}
use Rattle.px_trail.proofs.Orders.{filter-has, has-change}
use Rattle.px_values.proofs.Equal.{row_order-Decides}
use Rattle.px_values.specs.Order.{row_order}
use Rattle.px_values.specs.States.{RowState}
use Rattle.px_values.specs.declared.change.What.{What}
use Rattle.px_values.specs.declared.row.Value.{Value}
use Rattle.px_world.specs.Events.{Base as BaseVersion, Comes}
use Rattle.px_world.specs.IndexCells.{base_cells}
use Rattle.px_world.specs.World.{Fate, Written, is_undecided, st}
use Rattle.px_baserows.specs.Rows.{AreBaseRows, IsBaseRow, StoodAt, base_parts, owner_in, owners_in}
use Rattle.px_calls.specs.declared.query.BaseRow.{BaseRow}
use Rattle.px_baserows.proofs.Fitting.{all_more}
use Rattle.px_baserows.proofs.Seen.{bases_right, bases_seen, bases_stamped}

-- ---- nothing is undecided where all is written

some_of : (o : Option Batch) (r : List Value) → is_undecided (fate_by (row_in o r)) ≡ true → (x : Batch) × ((o ≡ Some x) × (has (unwritten x) r ≡ true))
some_of None r k = absurd (false≢true k)
some_of (Some x) r k = (x, (refl, by (change_of x.changes r) (has x.written r) refl refl k))
  where
    by : (c : Option What) (v : Bool) → change_of x.changes r ≡ c → has x.written r ≡ v → is_undecided (fate_by (row_as c v x.ended)) ≡ true → has (unwritten x) r ≡ true
    by None v ec ev q = absurd (false≢true q)
    by (Some z) true ec ev q = absurd (false≢true q)
    by (Some z) false ec ev q = filter-has (λ y. not (has x.written y)) (rows_of x.changes) r (has-change x.changes r z ec) (ap not ev)

by_base : (v : Bool) (g : Fate) → is_undecided (cond v Written g) ≡ true → is_undecided g ≡ true
by_base true g q = absurd (false≢true q)
by_base false g q = q

none_has : (r : List Value) → has [] r ≡ false
unfolding has
none_has r = refl

module _ (f : TableForm) (es : List Entry) (v : GroupData) (k : GroupKept f es v) where
  pub no_undecided : (p : ℕ) → IsDecided es f.id.0 p → (r : List Value) (s : ℕ) → s ≤ p → is_undecided ((history_at f.rows.shape f.base es f.id.0 r).fate s) ≡ false
  no_undecided p decided r s l = elim (cases_Bool (is_undecided ((history_at f.rows.shape f.base es f.id.0 r).fate s))) [
    | inl q ↦
        (let z = some_of (batch_of f.id.0 s es) r (by_base (f.base.changed f.id.0 r s) (fate_by (row_in (batch_of f.id.0 s es) r)) (ap is_undecided (sym (((rows_of_group f es v k).tied r).fates s)) ∙ q)) in
        absurd (false≢true (sym (none_has r) ∙ (ap (λ (rows : List (List Value)). has rows r) (sym (decided.each s z.0 l z.1.0)) ∙ z.1.1))))
    | inr q ↦ q
  ]

  -- the state in the world is the trail's
  pub world_state : (i : ℕ) (r : List Value) (p : ℕ) → st (world_in f es v i r) p ≡ state_of f.base es f.id.0 r p
  world_state i r p = ((rows_of_group f es v k).tied r).states p ∙ state_is f es v k r p

-- ---- a row among these

among : (t : Table) (P : BaseRow → Type 0) (xs : List BaseRow) → AllByRecursion P xs → (r : List Value) → has (owners_in t xs) r ≡ true → (x : BaseRow) × (P x × (owner_in t x.row ≡ r))
unfolding has
among t P [] a r h = absurd (false≢true h)
among t P (x ∷ xs) a r h = elim (cases_Bool (is_eq (row_order (owner_in t x.row) r))) [
  | inl e ↦ (x, (a.0, (row_order-Decides (owner_in t x.row) r).0 e))
  | inr e ↦ among t P xs a.1 r (sym (ap (λ (b : Bool). b || has (owners_in t xs) r) e) ∙ h)
]

all_both : {A : Type 0} (P Q : A → Type 0) (xs : List A) → AllByRecursion P xs → AllByRecursion Q xs → AllByRecursion (λ x. P x × Q x) xs
all_both P Q [] a b = tt
all_both P Q (x ∷ xs) a b = ((a.0, b.0), all_both P Q xs a.1 b.1)

-- ---- what Base asks for

module _ (b : Base) (index : ℕ → IndexForm) (es : List Entry) (t : Table) (v : GroupData) (k : GroupKept (table_form b t.id index (row_form t)) es v) (i : ℕ) (there : i < length v.indexes)
    (x : Index) (table : IsRightTable t) (right : IsRightIndex t x) (form_is : index (get_or v.indexes i no_part).id ≡ index_form t x) (birth_is : (get_or v.indexes i no_part).birth ≡ x.birth)
    (xs : List BaseRow) (are : AreBaseRows t x xs) (stood : StoodAt b es t x.birth xs) (cells : List CellData) (same : ReadsSame cells (laid (base_parts (index_form t x) x.birth xs))) where
  abbrev f : TableForm
  f = table_form b t.id index (row_form t)

  abbrev state_here : List Value → RowState
  state_here r = st (world_in f es v i r) (get_or v.indexes i no_part).birth

  state_is_trail : (r : List Value) → state_here r ≡ state_of b es t.id.0 r x.birth
  state_is_trail r = world_state f es v k i r (get_or v.indexes i no_part).birth ∙ ap (λ (p : ℕ). state_of b es t.id.0 r p) birth_is

  stood_here : AllByRecursion (λ z. state_here (owner_in t z.row) ≡ Some z.row) xs
  stood_here = all_more (λ z. state_of b es t.id.0 (owner_in t z.row) x.birth ≡ Some z.row) (λ z. state_here (owner_in t z.row) ≡ Some z.row) (λ z e. state_is_trail (owner_in t z.row) ∙ e) xs stood.each

  comes : (r : List Value) → has (owners_in t xs) r ≡ true → Comes (shape_in f v i r) (world_in f es v i r) BaseVersion
  comes r h =
      let z = among t (λ y. IsBaseRow t x y × (state_here (owner_in t y.row) ≡ Some y.row)) xs (all_both (IsBaseRow t x) (λ y. state_here (owner_in t y.row) ≡ Some y.row) xs are.each stood_here) r h in
      let state : state_here r ≡ Some z.0.row = subst (λ (q : List Value). state_here q ≡ Some z.0.row) z.1.1 z.1.0.1 in
      let key : (index_form t x).key_of r (Some z.0.row) ≡ Some z.0.key = subst (λ (q : List Value). (index_form t x).key_of q (Some z.0.row) ≡ Some z.0.key) z.1.1 z.1.0.0.key in
      let keyed : (index (get_or v.indexes i no_part).id).key_of r (state_here r) ≡ Some z.0.key = (λ j. (form_is j).key_of r (state j)) ∙ key in (
        (let h = k.high in let l = stood.horizon in let e = birth_is in omega arith),
        (
          (λ s l. no_undecided f es v k x.birth stood.decided r s (let e = birth_is in omega arith)),
          ap is_some keyed,
        ),
      )

  low : AreIndexCells (index (get_or v.indexes i no_part).id) (last_of b t.id.0 es) cells
  low =
      let list : List CellData = laid (base_parts (index_form t x) x.birth xs) in
      let shape : AreRightKeys t x cells = record { each = each_fewer (IsRightIndexCell t x) list cells (bases_right t x x.birth xs table right are).each (λ c r. (same c).0 r) } in
      let drawn = (k.indexes i there).birth in
      subst (λ (z : IndexForm). AreIndexCells z (last_of b t.id.0 es) cells) (sym form_is) (keys_owned t x cells shape (last_of b t.id.0 es) (λ c reads.
      (let s : c.stamp ≡ x.birth = all_has (λ d. d.stamp ≡ x.birth) list c (bases_stamped (index_form t x) x.birth xs) (has_from_reads list c ((same c).0 reads)) in
      let e = birth_is in omega arith)))

  pub can_base : CanBase f es v i (owners_in t xs) cells
  can_base = record {
    there = there;
    may = comes;
    reads = λ r.
        subst (λ (z : IndexForm). view_at z r cells ≡ cells_if (has (owners_in t xs) r) (base_cells (Rattle.px_forms.specs.Indexes.shape_at (row_form t).shape z r) (get_or v.indexes i no_part).birth (state_here r))) (sym form_is)
        (subst (λ (s : ℕ). view_at (index_form t x) r cells ≡ cells_if (has (owners_in t xs) r) (base_cells (Rattle.px_forms.specs.Indexes.shape_at (row_form t).shape (index_form t x) r) s (state_here r))) (sym birth_is)
        (bases_seen (row_form t).shape t x right x.birth state_here xs are stood_here cells same r));
    low = low;
  }
