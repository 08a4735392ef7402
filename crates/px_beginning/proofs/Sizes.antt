-- The cells of a batch by their sizes: as many, and of as many bytes, as its changes write.
use Rattle.std.proofs.Common.{◌≡◌, ℕ, zero, suc, ◌+◌, ◌<◌, ◌≤◌, ◌||◌, Bool, true, false, cond, Option, Some, None, List, [], ◌∷◌, ◌++◌, map, length, take, get_or, refl, ap, sym, ◌∙◌, subst, inl, inr, arith, append_assoc, append-nil, length-append}
use Rattle.std.specs.Prelude.{ℤ, nat_eq, sum_by, slice_set, slice_index_or, if◌then◌else◌}
use Rattle.std.specs.Cmp.Lexicographic.{pointwise}
use Rattle.std.specs.List.{AllByRecursion, flat_map, list_any, slice_get}
use Rattle.std.specs.Option.{is_some, unwrap_or}
use Rattle.std.proofs.lemmas.Bool.{cases_eq, cond-true, cond-false, eq-eqb, ne_eqb}
use Rattle.std.proofs.lemmas.List.{get_or-set_other, get_or-set_same, length-map, length-set, map-append, take_all, take_more}
use Rattle.std.proofs.lemmas.List.Sums.{sum_by-append, sum_by-cons}
use Rattle.px_cells.specs.CellData.{CellData}
use Rattle.px_cells.specs.Contents.{or_else, value_at}
use Rattle.px_cells.specs.Order.{IsAscending, Reads}
use Rattle.px_cells.proofs.Contents.{reads_from_value, value_from_reads}
use Rattle.px_cells.proofs.Sights.{one_settled}
use Rattle.px_cellbytes.specs.Spelling.{all_bytes, cell_bytes}
use Rattle.px_cellbytes.proofs.Bytes.{length-cell_bytes}
use Rattle.px_values.specs.States.{RowState, apply, assigned, fresh_row}
use Rattle.px_values.specs.Types.{HasType, type_class}
use Rattle.px_values.specs.declared.change.Assignment.{Assignment}
use Rattle.px_values.specs.declared.change.Change.{Change}
use Rattle.px_values.specs.declared.change.What.{What}
use Rattle.px_values.specs.declared.change.What.TheVariants.{Gone, Set}
use Rattle.px_values.specs.declared.column.ColType.{ColType}
use Rattle.px_values.specs.declared.column.ColType.TheVariants.{TinyInt, SmallInt, Integer, BigInt, UnsignedInt, UnsignedLong, Boolean, Varchar}
use Rattle.px_values.specs.declared.row.Value.{Value}
use Rattle.px_values.specs.declared.row.Value.TheVariants.{Null, Number, Truth, Text}
use Rattle.px_keys.specs.Spelling.{Fits, byte_width, rank, spelled}
use Rattle.px_keys.specs.declared.parts.KeyColumn.{KeyColumn}
use Rattle.px_keys.proofs.Compared.{length-bytes_high_first}
use Rattle.px_tables.specs.declared.index.Index.{Index}
use Rattle.px_tables.specs.declared.table.Table.{Table}
use Rattle.px_tables.specs.declared.table.TableColumn.{TableColumn}
use Rattle.px_paths.specs.Paths.{columns_on, index_path, key_on, table_path, type_in}
use Rattle.px_trail.specs.Trail.{table_shape}
use Rattle.px_calls.specs.Sizes.{assignments_in, cell_size, column_sizes, entered_sizes, index_sizes, key_in_index, left_sizes, row_sizes, set_sizes, size_of_value}
use Rattle.px_forms.specs.Indexes.{IndexForm}
use Rattle.px_rows.specs.Cells.{put_cell, value_cell}
use Rattle.px_rows.specs.Keys.{IsRightTable, column_in, row_columns, row_key}
use Rattle.px_rows.specs.Spelled.{FitsColumnOf, FitsTable, FitsWhat, assigned_to}
use Rattle.px_rows.specs.Stored.{stored}
use Rattle.px_rows.specs.inner.Lists.{change_list, column_if, gone_cell, set_cells}
use Rattle.px_rows.proofs.KeysBack.{row_key-fits}
use Rattle.px_rows.proofs.Lists.{change_is_list, change_values}
use Rattle.px_rows.proofs.Spelled.{assigned_fits}
use Rattle.px_indexrow.specs.Form.{FitsRowState, IsRightIndex, bytes_if, included_at, index_form, key_of_state}
use Rattle.px_indexrow.specs.Lists.{closes_of, column_cell, column_cells, family_cell, family_if, left_key, marks_of, status_cell, status_if, version_cells, version_if}
use Rattle.px_indexrow.proofs.StatesFit.{apply_fits}
use Rattle.px_cellshapes.proofs.Paths.{table_columns}
use Rattle.px_keptcells.specs.Kept.{laid}
use Rattle.px_phases.specs.Batch.{BatchData}
use Rattle.px_phases.specs.Begun.{AreFrom}
use Rattle.px_phases.specs.Phases.{ArePuts, AreTransitions, close_parts, mark_parts}
use Rattle.px_phases.specs.declared.transition.Transition.{Transition}
use Rattle.px_phases.proofs.Assigned.{values_count}
use Rattle.px_group.specs.Group.{IsRightGroup, IsRightPart}
use Rattle.px_group.specs.Room.{byte_count, bytes_at, bytes_of_rows, cells_at, cells_of_rows, kept_for}
use Rattle.px_group.specs.declared.group.Group.{Group}
use Rattle.px_group.specs.declared.group.IndexRegion.{IndexRegion}
use Rattle.px_beginning.specs.Begins.{IsBatchOf, old_state}
use Rattle.px_beginning.specs.Reads.{form_at, index_forms}
use Rattle.px_beginning.specs.Rooms.{fresh_batch}
use Rattle.px_beginning.proofs.Promised.{kept_inside}

-- ---- counts and bytes

abbrev pub total : List ℕ → ℕ
total sizes = sum_by (λ (n : ℕ). n) sizes

-- so many cells, of so many bytes, as these sizes say
pub record IsSized (cells bytes : ℕ) (sizes : List ℕ) : Type 0 where
  pub count : cells ≡ length sizes
  pub bytes_are : bytes ≡ total sizes

abbrev AreSized : List CellData → List ℕ → Type 0
AreSized cells sizes = IsSized (length cells) (byte_count cells) sizes

-- two lists together
abbrev AreBoth : List CellData → List CellData → List ℕ → Type 0
AreBoth marks closes sizes = IsSized (length marks + length closes) (byte_count marks + byte_count closes) sizes

total_append : (xs ys : List ℕ) → total (xs ++ ys) ≡ total xs + total ys
total_append xs ys = sum_by-append (λ (n : ℕ). n) xs ys

total_one : (n : ℕ) → total (n ∷ []) ≡ n
total_one n =
    let a : total (n ∷ []) ≡ n + total [] = sum_by-cons (λ (k : ℕ). k) n [] in
    let z : total [] ≡ 0 = refl in
    omega (arith, a, z)

no_sizes : IsSized 0 0 []
no_sizes = record { count = refl; bytes_are = refl }

joined : (a b c d : ℕ) (xs ys : List ℕ) → IsSized a b xs → IsSized c d ys → IsSized (a + c) (b + d) (xs ++ ys)
joined a b c d xs ys p q = record {
  count = (let e = length-append xs ys in let f = p.count in let h = q.count in omega (arith, e, f, h));
  bytes_are = (let e = total_append xs ys in let f = p.bytes_are in let h = q.bytes_are in omega (arith, e, f, h));
}

-- the order of the sizes tells nothing
swapped : (a b : ℕ) (xs ys : List ℕ) → IsSized a b (xs ++ ys) → IsSized a b (ys ++ xs)
swapped a b xs ys p = record {
  count = (let e = length-append xs ys in let f = length-append ys xs in let h = p.count in omega (arith, e, f, h));
  bytes_are = (let e = total_append xs ys in let f = total_append ys xs in let h = p.bytes_are in omega (arith, e, f, h));
}

bytes_append : (xs ys : List CellData) → byte_count (xs ++ ys) ≡ byte_count xs + byte_count ys
bytes_append [] ys = omega arith
bytes_append (x ∷ xs) ys =
    (let a = length-append (cell_bytes x) (all_bytes (xs ++ ys)) in
    let b = length-append (cell_bytes x) (all_bytes xs) in
    let c = bytes_append xs ys in
    omega arith)

appended : (xs ys : List CellData) (ms ns : List ℕ) → AreSized xs ms → AreSized ys ns → AreSized (xs ++ ys) (ms ++ ns)
appended xs ys ms ns p q =
    let j = joined (length xs) (byte_count xs) (length ys) (byte_count ys) ms ns p q in
    record {
      count = (let e = length-append xs ys in let f = j.count in omega (arith, e, f));
      bytes_are = (let e = bytes_append xs ys in let f = j.bytes_are in omega (arith, e, f));
    }

four : (m n c d : List CellData) (xs ys : List ℕ) → AreBoth m c xs → AreBoth n d ys → AreBoth (m ++ n) (c ++ d) (xs ++ ys)
four m n c d xs ys p q =
    let j = joined (length m + length c) (byte_count m + byte_count c) (length n + length d) (byte_count n + byte_count d) xs ys p q in
    record {
      count = (let e = length-append m n in let f = length-append c d in let h = j.count in omega (arith, e, f, h));
      bytes_are = (let e = bytes_append m n in let f = bytes_append c d in let h = j.bytes_are in omega (arith, e, f, h));
    }

-- one cell has its key, its value, and 14 bytes more
one_cell : (c : CellData) (k : List ℕ) (n : ℕ) → c.key ≡ k → length c.value ≡ n → AreSized (c ∷ []) (cell_size k n ∷ [])
one_cell c k n key value = record {
  count = refl;
  bytes_are =
      (let a = length-cell_bytes c in
      let b : byte_count (c ∷ []) ≡ length (cell_bytes c) + 0 = length-append (cell_bytes c) [] in
      let l = ap length key in
      let s = total_one (cell_size k n) in
      omega (arith, a, b, l, value, s));
}

-- ---- values

number_size : (ty : ColType) (n : ℤ) → type_class ty ≡ 1 → length (stored ty (Number n)) ≡ byte_width ty
number_size TinyInt n h = length-bytes_high_first (byte_width TinyInt) (rank TinyInt (Number n))
number_size SmallInt n h = length-bytes_high_first (byte_width SmallInt) (rank SmallInt (Number n))
number_size Integer n h = length-bytes_high_first (byte_width Integer) (rank Integer (Number n))
number_size BigInt n h = length-bytes_high_first (byte_width BigInt) (rank BigInt (Number n))
number_size UnsignedInt n h = length-bytes_high_first (byte_width UnsignedInt) (rank UnsignedInt (Number n))
number_size UnsignedLong n h = length-bytes_high_first (byte_width UnsignedLong) (rank UnsignedLong (Number n))
number_size Boolean n h = absurd (omega (arith, h))
number_size Varchar n h = absurd (omega (arith, h))

truth_size : (ty : ColType) (b : Bool) → type_class ty ≡ 2 → length (stored ty (Truth b)) ≡ byte_width ty
truth_size TinyInt b h = absurd (omega (arith, h))
truth_size SmallInt b h = absurd (omega (arith, h))
truth_size Integer b h = absurd (omega (arith, h))
truth_size BigInt b h = absurd (omega (arith, h))
truth_size UnsignedInt b h = absurd (omega (arith, h))
truth_size UnsignedLong b h = absurd (omega (arith, h))
truth_size Boolean b h = length-bytes_high_first (byte_width Boolean) (rank Boolean (Truth b))
truth_size Varchar b h = absurd (omega (arith, h))

text_size : (ty : ColType) (bytes : List ℕ) → type_class ty ≡ 3 → length (stored ty (Text bytes)) ≡ length bytes
text_size TinyInt bytes h = absurd (omega (arith, h))
text_size SmallInt bytes h = absurd (omega (arith, h))
text_size Integer bytes h = absurd (omega (arith, h))
text_size BigInt bytes h = absurd (omega (arith, h))
text_size UnsignedInt bytes h = absurd (omega (arith, h))
text_size UnsignedLong bytes h = absurd (omega (arith, h))
text_size Boolean bytes h = absurd (omega (arith, h))
text_size Varchar bytes h = refl

type_same : (columns : List TableColumn) (c : ℕ) → type_in (slice_get columns c) ≡ (column_in columns c).column_type
type_same [] c = refl
type_same (x ∷ columns) zero = refl
type_same (x ∷ columns) (suc c) = type_same columns c

-- ---- the cells of a row

-- sorted lists that are read alike are one
reads_there : (xs ys : List CellData) → value_at xs ≡ value_at ys → (c : CellData) → Reads xs c → Reads ys c
reads_there xs ys e c r = reads_from_value ys c.key c.qualifier c.stamp c.kind c.value ((λ i. sym e i c.key c.qualifier c.stamp c.kind) ∙ value_from_reads xs c.key c.qualifier c.stamp c.kind c.value r)

list_same : (xs ys : List CellData) → IsAscending xs → IsAscending ys → value_at xs ≡ value_at ys → xs ≡ ys
list_same xs ys a b e = one_settled ys xs ys (record { ascending = a; same = λ c. (reads_there xs ys e c, reads_there ys xs (sym e) c) }) (record { ascending = b; same = λ c. (λ r. r, λ r. r) })

put_is : (t : Table) (s : ℕ) (c : Change) (cells : List CellData) → FitsWhat t c.what → ArePuts t s (c ∷ []) (cells ∷ []) → cells ≡ change_list t.columns (row_key t c.row) s c.what
put_is t s c cells fits put = list_same cells (change_list t.columns (row_key t c.row) s c.what) put.0.list.ascending (change_is_list t.columns (row_key t c.row) s c.what).ascending (put.0.values ∙ sym (change_values t c.row s c.what fits))

-- the last assignment of a column counts, in the row as in its cells
is_assigned : (b : Bool) (o : Option Value) (v : Value) → (b || is_some o) ≡ is_some (or_else o (cond b (Some v) None))
is_assigned true None v = refl
is_assigned true (Some w) v = refl
is_assigned false None v = refl
is_assigned false (Some w) v = refl

any_assigned : (as' : List Assignment) (c : ℕ) → list_any (λ a. nat_eq a.column c) as' ≡ is_some (assigned_to as' c)
any_assigned [] c = refl
any_assigned (a ∷ as') c = ap (λ (b : Bool). nat_eq a.column c || b) (any_assigned as' c) ∙ is_assigned (nat_eq a.column c) (assigned_to as' c) a.value

set_value : (row : List Value) (c : ℕ) (v : Value) (d : ℕ) → d < length row → get_or (slice_set row c v) d Null ≡ cond (nat_eq c d) v (get_or row d Null)
set_value row c v d l = elim (cases_eq d c) [
  | inl e ↦ subst (λ (x : ℕ). get_or (slice_set row c v) x Null ≡ cond (nat_eq c x) v (get_or row x Null)) (sym e) (get_or-set_same row c v Null (subst (λ (x : ℕ). x < length row) e l) ∙ sym (cond-true _ _ _ (eq-eqb c c refl)))
  | inr e ↦ get_or-set_other row c d v Null e ∙ sym (cond-false _ _ _ (ne_eqb c d (λ z. e (sym z))))
]

over_value : (o : Option Value) (b : Bool) (v d : Value) → unwrap_or o (cond b v d) ≡ unwrap_or (or_else o (cond b (Some v) None)) d
over_value None true v d = refl
over_value None false v d = refl
over_value (Some w) true v d = refl
over_value (Some w) false v d = refl

assigned_value : (as' : List Assignment) (row : List Value) (c : ℕ) → c < length row → get_or (assigned row as') c Null ≡ unwrap_or (assigned_to as' c) (get_or row c Null)
assigned_value [] row c l = refl
assigned_value (a ∷ as') row c l =
    assigned_value as' (slice_set row a.column a.value) c (let e = length-set row a.column a.value in omega (arith, e, l))
    ∙ (ap (unwrap_or (assigned_to as' c)) (set_value row a.column a.value c l) ∙ over_value (assigned_to as' c) (nat_eq a.column c) a.value (get_or row c Null))

assigned_count : (as' : List Assignment) (row : List Value) → length (assigned row as') ≡ length row
assigned_count [] row = refl
assigned_count (a ∷ as') row = assigned_count as' (slice_set row a.column a.value) ∙ length-set row a.column a.value

value_key : (columns : List TableColumn) (k : List ℕ) (s c : ℕ) (v : Value) → (value_cell columns k s c v).key ≡ k
value_key columns k s c Null = refl
value_key columns k s c (Number n) = refl
value_key columns k s c (Truth b) = refl
value_key columns k s c (Text b) = refl

value_long : (columns : List TableColumn) (k : List ℕ) (s c : ℕ) (v : Value) → HasType (column_in columns c).column_type v → length (value_cell columns k s c v).value ≡ size_of_value (column_in columns c).column_type v
value_long columns k s c Null h = refl
value_long columns k s c (Number n) h = number_size (column_in columns c).column_type n h.0
value_long columns k s c (Truth b) h = truth_size (column_in columns c).column_type b h
value_long columns k s c (Text b) h = text_size (column_in columns c).column_type b h.0

module _ (t : Table) (k : List ℕ) (s : ℕ) (as' : List Assignment) (fits : AllByRecursion (FitsColumnOf t) as') where
  abbrev sizes_at : ℕ → Value → List ℕ
  sizes_at c v = if list_any (λ a. nat_eq a.column c) as' then cell_size k (size_of_value (type_in (slice_get t.columns c)) v) ∷ [] else []

  abbrev sizes_if : Bool → ℕ → Value → List ℕ
  sizes_if b c v = if b then cell_size k (size_of_value (type_in (slice_get t.columns c)) v) ∷ [] else []

  column_sized : (c : ℕ) (v : Value) (o : Option Value) → assigned_to as' c ≡ o → ((w : Value) → o ≡ Some w → w ≡ v) → AreSized (column_if t.columns k s c o) (sizes_if (is_some o) c v)
  column_sized c v None is same = no_sizes
  column_sized c v (Some w) is same =
      let given = assigned_fits t as' fits c w is in
      let here : AreSized (value_cell t.columns k s c w ∷ []) (cell_size k (size_of_value (type_in (slice_get t.columns c)) w) ∷ []) =
      subst (λ (ty : ColType). AreSized (value_cell t.columns k s c w ∷ []) (cell_size k (size_of_value ty w) ∷ [])) (sym (type_same t.columns c))
      (one_cell (value_cell t.columns k s c w) k (size_of_value (column_in t.columns c).column_type w) (value_key t.columns k s c w) (value_long t.columns k s c w given.has_type)) in
      subst (λ (x : Value). AreSized (value_cell t.columns k s c w ∷ []) (cell_size k (size_of_value (type_in (slice_get t.columns c)) x) ∷ [])) (same w refl) here

  some_same : (c : ℕ) (v d : Value) → v ≡ unwrap_or (assigned_to as' c) d → (w : Value) → assigned_to as' c ≡ Some w → w ≡ v
  some_same c v d e w is = sym (e ∙ ap (λ (o : Option Value). unwrap_or o d) is)

  -- a row has these values at the columns that are assigned
  module _ (row : List Value) (whole : List Value) (values : (c : ℕ) → c < length whole → get_or whole c Null ≡ unwrap_or (assigned_to as' c) (get_or row c Null)) where
    columns_sized : (rest : List Value) (p : ℕ) → p + length rest ≡ length whole → ((i : ℕ) → i < length rest → get_or rest i Null ≡ get_or whole (p + i) Null) → (xs : List ℕ) → AreSized (set_cells t.columns k s as' p) xs
        → AreSized (set_cells t.columns k s as' (p + length rest)) (xs ++ set_sizes t k as' p rest)
    unfolding set_cells set_sizes
    columns_sized [] p end each xs sized =
        let z : p ≡ p + length {A = Value} [] = omega arith in
        subst (λ (n : ℕ). AreSized (set_cells t.columns k s as' n) (xs ++ [])) z (subst (AreSized (set_cells t.columns k s as' p)) (sym (append-nil xs)) sized)
    columns_sized (v ∷ rest) p end each xs sized =
        let z : p + 0 ≡ p = omega arith in
        let here : v ≡ get_or whole p Null = each 0 (omega arith) ∙ ap (λ (n : ℕ). get_or whole n Null) z in
        let inside : p < length whole = omega (arith, end) in
        let known : v ≡ unwrap_or (assigned_to as' p) (get_or row p Null) = here ∙ values p inside in
        let one : AreSized (column_if t.columns k s p (assigned_to as' p)) (sizes_if (is_some (assigned_to as' p)) p v) = column_sized p v (assigned_to as' p) refl (some_same p v (get_or row p Null) known) in
        let own : AreSized (column_if t.columns k s p (assigned_to as' p)) (sizes_at p v) = subst (λ (b : Bool). AreSized (column_if t.columns k s p (assigned_to as' p)) (sizes_if b p v)) (sym (any_assigned as' p)) one in
        let step : AreSized (set_cells t.columns k s as' (suc p)) (xs ++ sizes_at p v) = appended (set_cells t.columns k s as' p) (column_if t.columns k s p (assigned_to as' p)) xs (sizes_at p v) sized own in
        let next : suc p ≡ p + 1 = omega arith in
        let more = columns_sized rest (p + 1) (omega (arith, end)) (λ i l. each (suc i) (omega (arith, l)) ∙ ap (λ (n : ℕ). get_or whole n Null) (omega arith)) (xs ++ sizes_at p v)
        (subst (λ (n : ℕ). AreSized (set_cells t.columns k s as' n) (xs ++ sizes_at p v)) next step) in
        let count : (p + 1) + length rest ≡ p + length (v ∷ rest) = omega arith in
        subst (λ (n : ℕ). AreSized (set_cells t.columns k s as' n) (xs ++ (sizes_at p v ++ set_sizes t k as' (p + 1) rest))) count
        (subst (AreSized (set_cells t.columns k s as' ((p + 1) + length rest))) (append_assoc xs (sizes_at p v) (set_sizes t k as' (p + 1) rest)) more)

  set_sized : (row : List Value) → length row ≡ length t.columns → AreSized (set_cells t.columns k s as' (length t.columns)) (cell_size k 0 ∷ set_sizes t k as' 0 (assigned row as'))
  unfolding set_cells
  set_sized row count =
      let whole = assigned row as' in
      let first : AreSized (set_cells t.columns k s as' 0) (cell_size k 0 ∷ []) = one_cell (put_cell k 1 s []) k 0 refl refl in
      let all = columns_sized row (assigned row as') (λ c l. assigned_value as' row c (let e = assigned_count as' row in omega (arith, e, l))) (assigned row as') 0 (omega arith) (λ i l. ap (λ (n : ℕ). get_or (assigned row as') n Null) (omega arith)) (cell_size k 0 ∷ []) first in
      let end : 0 + length (assigned row as') ≡ length t.columns = (let e = assigned_count as' row in omega (arith, e, count)) in
      subst (λ (n : ℕ). AreSized (set_cells t.columns k s as' n) (cell_size k 0 ∷ set_sizes t k as' 0 (assigned row as'))) end all

-- for a row whose state after its change is this
abbrev sizes_for : Table → List ℕ → What → RowState → List ℕ
sizes_for t k w None = cell_size k 0 ∷ []
sizes_for t k w (Some row) = cell_size k 0 ∷ set_sizes t k (assignments_in w) 0 row

change_sized : (t : Table) (k : List ℕ) (s : ℕ) (r : List Value) (o : RowState) (w : What) → FitsWhat t w → FitsRowState t o → AreSized (change_list t.columns k s w) (sizes_for t k w (apply (table_shape t) r o w))
change_sized t k s r None (Set as') fits old = set_sized t k s as' fits (fresh_row (table_shape t) r) (values_count t r None tt)
change_sized t k s r (Some row) (Set as') fits old = set_sized t k s as' fits row old.0
change_sized t k s r None Gone fits old = one_cell (gone_cell k s) k 0 refl refl
change_sized t k s r (Some row) Gone fits old = one_cell (gone_cell k s) k 0 refl refl

row_for : (t : Table) (c : Change) (o : RowState) → sizes_for t (spelled (columns_on (table_path t)) c.row) c.what o ≡ row_sizes t c o
row_for t c None = refl
row_for t c (Some row) = refl

-- (a) what a change writes in the table
pub put_sized : (t : Table) (s : ℕ) (c : Change) (o : RowState) (cells : List CellData) → FitsTable t c.row c.what → FitsRowState t o → ArePuts t s (c ∷ []) (cells ∷ []) → AreSized cells (row_sizes t c (apply (table_shape t) c.row o c.what))
put_sized t s c o cells fits old put =
    let key : row_key t c.row ≡ spelled (columns_on (table_path t)) c.row = row_key-fits t c.row fits.0 ∙ ap (λ (cs : List KeyColumn). spelled cs c.row) (sym (table_columns t)) in
    subst (λ (l : List CellData). AreSized l (row_sizes t c (apply (table_shape t) c.row o c.what))) (sym (put_is t s c cells fits.1 put))
    (subst (AreSized (change_list t.columns (row_key t c.row) s c.what)) (row_for t c (apply (table_shape t) c.row o c.what))
    (subst (λ (k : List ℕ). AreSized (change_list t.columns (row_key t c.row) s c.what) (sizes_for t k c.what (apply (table_shape t) c.row o c.what))) key (change_sized t (row_key t c.row) s c.row o c.what fits.1 old)))

-- ---- the cells in an index

bytes_sized : (ty : ColType) (v : Value) (k : List ℕ) (s q : ℕ) → HasType ty v → AreSized (column_cell k s q (bytes_if (stored ty v) v) ∷ []) (cell_size k (size_of_value ty v) ∷ [])
bytes_sized ty Null k s q h = one_cell (column_cell k s q None) k 0 refl refl
bytes_sized ty (Number n) k s q h = one_cell (column_cell k s q (Some (stored ty (Number n)))) k (byte_width ty) refl (number_size ty n h.0)
bytes_sized ty (Truth b) k s q h = one_cell (column_cell k s q (Some (stored ty (Truth b)))) k (byte_width ty) refl (truth_size ty b h)
bytes_sized ty (Text b) k s q h = one_cell (column_cell k s q (Some (stored ty (Text b)))) k (length b) refl (text_size ty b h.0)

left_if : (s : ℕ) (k : List ℕ) (b : Bool) → let o : Option (List ℕ) = cond b None (Some k) in
    IsSized (length (status_if s 2 o) + length (family_if s o)) (byte_count (status_if s 2 o) + byte_count (family_if s o)) (if b then [] else cell_size k 1 ∷ cell_size k 0 ∷ [])
left_if s k true = no_sizes
left_if s k false =
    joined (length (status_cell k s 2 ∷ [])) (byte_count (status_cell k s 2 ∷ [])) (length (family_cell k s ∷ [])) (byte_count (family_cell k s ∷ [])) (cell_size k 1 ∷ []) (cell_size k 0 ∷ [])
    (one_cell (status_cell k s 2) k 1 refl refl) (one_cell (family_cell k s) k 0 refl refl)

left_sized : (s : ℕ) (ko kn : Option (List ℕ)) →
    IsSized (length (status_if s 2 (left_key ko kn)) + length (family_if s (left_key ko kn))) (byte_count (status_if s 2 (left_key ko kn)) + byte_count (family_if s (left_key ko kn))) (left_sizes ko kn)
left_sized s None kn = no_sizes
left_sized s (Some k) None = left_if s k false
left_sized s (Some k) (Some k') = left_if s k (pointwise nat_eq k k')

module _ (t : Table) (x : Index) (right : IsRightIndex t x) where
  module _ (row : List Value) (fits : FitsRowState t (Some row)) (k : List ℕ) (s : ℕ) where
    abbrev size_in : ℕ → ℕ
    size_in p = cell_size k (size_of_value (type_in (slice_get t.columns p)) (slice_index_or row p Null))

    included_one : (c : ℕ) → c < length x.included → AreSized (column_cell k s ((index_form t x).place c) ((index_form t x).col (Some row) c) ∷ []) (size_in (included_at x c) ∷ [])
    included_one c l =
        let p = included_at x c in
        subst (λ (ty : ColType). AreSized (column_cell k s ((index_form t x).place c) ((index_form t x).col (Some row) c) ∷ []) (cell_size k (size_of_value ty (get_or row (included_at x c) Null)) ∷ [])) (sym (type_same t.columns (included_at x c)))
        (bytes_sized (column_in t.columns (included_at x c)).column_type (get_or row (included_at x c) Null) k s ((index_form t x).place c) (fits.1 (included_at x c) (right.within c l)))

    included_sized : (n : ℕ) → n ≤ length x.included → AreSized (column_cells (index_form t x) k s (Some row) n) (column_sizes t k row (take n x.included))
    unfolding column_cells
    included_sized zero l = no_sizes
    included_sized (suc n) l =
        let inside : n < length x.included = omega (arith, l) in
        let next : n + 1 ≡ suc n = omega arith in
        let here = included_one n inside in
        let rest = included_sized n (omega (arith, l)) in
        let both = swapped (length (column_cells (index_form t x) k s (Some row) (suc n))) (byte_count (column_cells (index_form t x) k s (Some row) (suc n))) (size_in (included_at x n) ∷ []) (column_sizes t k row (take n x.included))
        (appended (column_cell k s ((index_form t x).place n) ((index_form t x).col (Some row) n) ∷ []) (column_cells (index_form t x) k s (Some row) n) (size_in (included_at x n) ∷ []) (column_sizes t k row (take n x.included)) here rest) in
        let more : column_sizes t k row (take (suc n) x.included) ≡ column_sizes t k row (take n x.included) ++ size_in (included_at x n) ∷ [] =
        ap (λ (m : ℕ). column_sizes t k row (take m x.included)) (sym next) ∙ (ap (column_sizes t k row) (take_more x.included n 0 inside) ∙ map-append size_in (take n x.included) (included_at x n ∷ [])) in
        subst (AreSized (column_cells (index_form t x) k s (Some row) (suc n))) (sym more) both

    version_sized : (byte : ℕ) → AreSized (version_cells (index_form t x) k s byte (Some row)) (cell_size k 1 ∷ column_sizes t k row x.included)
    version_sized byte =
        let all : AreSized (column_cells (index_form t x) k s (Some row) (length x.included)) (column_sizes t k row x.included) =
        subst (λ (ps : List ℕ). AreSized (column_cells (index_form t x) k s (Some row) (length x.included)) (column_sizes t k row ps)) (take_all (length x.included) x.included (omega arith)) (included_sized (length x.included) (omega arith)) in
        appended (status_cell k s byte ∷ []) (column_cells (index_form t x) k s (Some row) (length x.included)) (cell_size k 1 ∷ []) (column_sizes t k row x.included) (one_cell (status_cell k s byte) k 1 refl refl) all

  entered_sized : (s : ℕ) (new : RowState) → FitsRowState t new → AreBoth (version_if (index_form t x) s 2 new (key_in_index t x new)) (status_if s 1 (key_in_index t x new)) (entered_sizes t x new)
  entered_sized s None fits = no_sizes
  entered_sized s (Some row) fits =
      let k : List ℕ = key_on (index_path t x) row in
      swapped (length (version_cells (index_form t x) k s 2 (Some row)) + length (status_cell k s 1 ∷ [])) (byte_count (version_cells (index_form t x) k s 2 (Some row)) + byte_count (status_cell k s 1 ∷ [])) (cell_size k 1 ∷ column_sizes t k row x.included) (cell_size k 1 ∷ [])
      (joined (length (version_cells (index_form t x) k s 2 (Some row))) (byte_count (version_cells (index_form t x) k s 2 (Some row))) (length (status_cell k s 1 ∷ [])) (byte_count (status_cell k s 1 ∷ [])) (cell_size k 1 ∷ column_sizes t k row x.included) (cell_size k 1 ∷ [])
      (version_sized row fits k s 2) (one_cell (status_cell k s 1) k 1 refl refl))

  abbrev marks_with : ℕ → RowState → Option (List ℕ) → Option (List ℕ) → List CellData
  marks_with s new ko kn = version_if (index_form t x) s 2 new kn ++ status_if s 2 (left_key ko kn)

  abbrev closes_with : ℕ → Option (List ℕ) → Option (List ℕ) → List CellData
  closes_with s ko kn = status_if s 1 kn ++ family_if s (left_key ko kn)

  with_keys : (s : ℕ) (old new : RowState) → FitsRowState t new → AreBoth (marks_with s new (key_in_index t x old) (key_in_index t x new)) (closes_with s (key_in_index t x old) (key_in_index t x new)) (index_sizes t x old new)
  with_keys s old new fits =
      four (version_if (index_form t x) s 2 new (key_in_index t x new)) (status_if s 2 (left_key (key_in_index t x old) (key_in_index t x new))) (status_if s 1 (key_in_index t x new)) (family_if s (left_key (key_in_index t x old) (key_in_index t x new)))
      (entered_sizes t x new) (left_sizes (key_in_index t x old) (key_in_index t x new)) (entered_sized s new fits) (left_sized s (key_in_index t x old) (key_in_index t x new))

  -- (b) what a change writes in an index, where the row has these keys there
  pub index_sized : (r : List Value) (s : ℕ) (old new : RowState) → FitsRowState t new → key_of_state t x r old ≡ key_in_index t x old → key_of_state t x r new ≡ key_in_index t x new
      → AreBoth (marks_of (index_form t x) r s old new) (closes_of (index_form t x) r s old new) (index_sizes t x old new)
  index_sized r s old new fits eo en =
      subst (λ (kn : Option (List ℕ)). AreBoth (marks_with s new (key_of_state t x r old) kn) (closes_with s (key_of_state t x r old) kn) (index_sizes t x old new)) (sym en)
      (subst (λ (ko : Option (List ℕ)). AreBoth (marks_with s new ko (key_in_index t x new)) (closes_with s ko (key_in_index t x new)) (index_sizes t x old new)) (sym eo) (with_keys s old new fits))

  module _ (table : IsRightTable t) (old : List Value → RowState) (Own : List Value → RowState → Type 0)
      (same : (r : List Value) (o : RowState) → Fits (row_columns t) r → FitsRowState t o → Own r o → key_of_state t x r o ≡ key_in_index t x o)
      (own : (r : List Value) → Own r (old r)) (after : (c : Change) → FitsTable t c.row c.what → Own c.row (apply (table_shape t) c.row (old c.row) c.what)) where
    -- row by row
    pub indexes_sized : (s : ℕ) (cs : List Change) (ys : List Transition) → AreTransitions t cs ys → AreFrom old cs ys
        → AreBoth (laid (mark_parts (index_form t x) s cs ys)) (laid (close_parts (index_form t x) s cs ys)) (flat_map (λ c. index_sizes t x (old c.row) (apply (table_shape t) c.row (old c.row) c.what)) cs)
    indexes_sized s [] ys are from = no_sizes
    indexes_sized s (c ∷ cs) [] are from = absurd are
    indexes_sized s (c ∷ cs) (y ∷ ys) are from =
        let now : apply (table_shape t) c.row (old c.row) c.what ≡ y.new = ap (λ (o : RowState). apply (table_shape t) c.row o c.what) from.0 ∙ sym are.0.new in
        let fits_old : FitsRowState t (old c.row) = subst (FitsRowState t) (sym from.0) are.0.old in
        let fits_new : FitsRowState t (apply (table_shape t) c.row (old c.row) c.what) = apply_fits t c.row (old c.row) c.what table are.0.fits fits_old in
        let one : AreBoth (marks_of (index_form t x) c.row s (old c.row) (apply (table_shape t) c.row (old c.row) c.what)) (closes_of (index_form t x) c.row s (old c.row) (apply (table_shape t) c.row (old c.row) c.what)) (index_sizes t x (old c.row) (apply (table_shape t) c.row (old c.row) c.what)) =
        index_sized c.row s (old c.row) (apply (table_shape t) c.row (old c.row) c.what) fits_new (same c.row (old c.row) are.0.fits.0 fits_old (own c.row)) (same c.row (apply (table_shape t) c.row (old c.row) c.what) are.0.fits.0 fits_new (after c are.0.fits)) in
        let here : AreBoth (marks_of (index_form t x) c.row s y.old y.new) (closes_of (index_form t x) c.row s y.old y.new) (index_sizes t x (old c.row) (apply (table_shape t) c.row (old c.row) c.what)) =
        subst (λ (o : RowState). AreBoth (marks_of (index_form t x) c.row s o y.new) (closes_of (index_form t x) c.row s o y.new) (index_sizes t x (old c.row) (apply (table_shape t) c.row (old c.row) c.what))) from.0
        (subst (λ (n : RowState). AreBoth (marks_of (index_form t x) c.row s (old c.row) n) (closes_of (index_form t x) c.row s (old c.row) n) (index_sizes t x (old c.row) (apply (table_shape t) c.row (old c.row) c.what))) now one) in
        four (marks_of (index_form t x) c.row s y.old y.new) (laid (mark_parts (index_form t x) s cs ys)) (closes_of (index_form t x) c.row s y.old y.new) (laid (close_parts (index_form t x) s cs ys))
        (index_sizes t x (old c.row) (apply (table_shape t) c.row (old c.row) c.what)) (flat_map (λ d. index_sizes t x (old d.row) (apply (table_shape t) d.row (old d.row) d.what)) cs) here (indexes_sized s cs ys are.1 from.1)

-- the rows, one after another
rows_sized : (t : Table) (old : List Value → RowState) (s : ℕ) (cs : List Change) (ys : List Transition) (parts : List (List CellData)) → AreTransitions t cs ys → AreFrom old cs ys → ArePuts t s cs parts
    → AreSized (laid parts) (flat_map (λ c. row_sizes t c (apply (table_shape t) c.row (old c.row) c.what)) cs)
rows_sized t old s [] ys [] are from puts = no_sizes
rows_sized t old s [] ys (p ∷ parts) are from puts = absurd puts
rows_sized t old s (c ∷ cs) [] parts are from puts = absurd are
rows_sized t old s (c ∷ cs) (y ∷ ys) [] are from puts = absurd puts
rows_sized t old s (c ∷ cs) (y ∷ ys) (p ∷ parts) are from puts =
    appended p (laid parts) (row_sizes t c (apply (table_shape t) c.row (old c.row) c.what)) (flat_map (λ d. row_sizes t d (apply (table_shape t) d.row (old d.row) d.what)) cs)
    (put_sized t s c (old c.row) p are.0.fits (subst (FitsRowState t) (sym from.0) are.0.old) (puts.0, tt)) (rows_sized t old s cs ys parts are.1 from.1 puts.1)

-- ---- the batch

same_value : {A : Type 0} (a b : A) → Some a ≡ Some b → a ≡ b
same_value a b e = cc

part_there : {A : Type 0} (P : A → Type 0) (xs : List A) → AllByRecursion P xs → (i : ℕ) (x : A) → slice_get xs i ≡ Some x → P x
part_there P [] all i x is = absurd (let z : None ≡ Some x = is in cc)
part_there P (y ∷ xs) all zero x is = subst P (same_value y x is) all.0
part_there P (y ∷ xs) all (suc i) x is = part_there P xs all.1 i x is

form_there : (t : Table) (h : IndexForm → List (List CellData)) (xs : List IndexRegion) (i : ℕ) (x : IndexRegion) → slice_get xs i ≡ Some x → get_or (map h (index_forms t xs)) i [] ≡ h (form_at t x)
form_there t h [] i x is = absurd (let z : None ≡ Some x = is in cc)
form_there t h (y ∷ xs) zero x is = ap (λ (z : IndexRegion). h (form_at t z)) (same_value y x is)
form_there t h (y ∷ xs) (suc i) x is = form_there t h xs i x is

module _ (g : Group) (right : IsRightGroup g) (s : ℕ) (cs : List Change) (b : BatchData) (batch : IsBatchOf g s cs b) where
  -- what it keeps for the rows is what its changes write
  pub rows_written : IsSized (cells_of_rows (fresh_batch (length g.indexes.items) b)) (bytes_of_rows (fresh_batch (length g.indexes.items) b)) (flat_map (λ c. row_sizes g.table c (apply (table_shape g.table) c.row (old_state g c.row) c.what)) cs)
  rows_written =
      subst (λ (d : BatchData). IsSized (cells_of_rows (fresh_batch (length g.indexes.items) d)) (bytes_of_rows (fresh_batch (length g.indexes.items) d)) (flat_map (λ c. row_sizes g.table c (apply (table_shape g.table) c.row (old_state g c.row) c.what)) cs))
      (sym batch.made.is) (rows_sized g.table (old_state g) s cs batch.transitions batch.made.parts batch.read.are batch.read.from batch.made.puts)

  module _ (i : ℕ) (x : IndexRegion) (at : slice_get g.indexes.items i ≡ Some x) (Own : List Value → RowState → Type 0)
      (same : (r : List Value) (o : RowState) → Fits (row_columns g.table) r → FitsRowState g.table o → Own r o → key_of_state g.table x.index r o ≡ key_in_index g.table x.index o)
      (own : (r : List Value) → Own r (old_state g r)) (after : (c : Change) → FitsTable g.table c.row c.what → Own c.row (apply (table_shape g.table) c.row (old_state g c.row) c.what)) where
    kept_is : (h : IndexForm → List (List CellData)) → kept_for (length g.indexes.items) (map h (index_forms g.table g.indexes.items)) i ≡ h (form_at g.table x)
    kept_is h =
        kept_inside (length g.indexes.items) (map h (index_forms g.table g.indexes.items)) (length-map (index_forms g.table g.indexes.items) h ∙ length-map g.indexes.items (form_at g.table)) i
        ∙ form_there g.table h g.indexes.items i x at

    abbrev all_sizes : List ℕ
    all_sizes = flat_map (λ c. index_sizes g.table x.index (old_state g c.row) (apply (table_shape g.table) c.row (old_state g c.row) c.what)) cs

    both : AreBoth (laid (kept_for (length g.indexes.items) (map (λ f. mark_parts f s cs batch.transitions) (index_forms g.table g.indexes.items)) i)) (laid (kept_for (length g.indexes.items) (map (λ f. close_parts f s cs batch.transitions) (index_forms g.table g.indexes.items)) i)) all_sizes
    both =
        subst (λ (m : List (List CellData)). AreBoth (laid m) (laid (kept_for (length g.indexes.items) (map (λ f. close_parts f s cs batch.transitions) (index_forms g.table g.indexes.items)) i)) all_sizes) (sym (kept_is (λ f. mark_parts f s cs batch.transitions)))
        (subst (λ (m : List (List CellData)). AreBoth (laid (mark_parts (index_form g.table x.index) s cs batch.transitions)) (laid m) all_sizes) (sym (kept_is (λ f. close_parts f s cs batch.transitions)))
        (indexes_sized g.table x.index (part_there (IsRightPart g.table) g.indexes.items right.parts i x at).index right.table (old_state g) Own same own after s cs batch.transitions batch.read.are batch.read.from))

    -- and what it keeps for an index is what they write there
    pub index_written : IsSized (cells_at i (fresh_batch (length g.indexes.items) b)) (bytes_at i (fresh_batch (length g.indexes.items) b)) all_sizes
    index_written = subst (λ (d : BatchData). IsSized (cells_at i (fresh_batch (length g.indexes.items) d)) (bytes_at i (fresh_batch (length g.indexes.items) d)) all_sizes) (sym batch.made.is) both
