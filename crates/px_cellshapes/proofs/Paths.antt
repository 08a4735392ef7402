-- The columns of paths are those of rows and index rows.
use Rattle.std.proofs.Common.{◌≡◌, ℕ, zero, suc, Bool, true, false, cond, not, ◌&&◌, ◌||◌, List, [], ◌∷◌, ◌++◌, map, filter, refl, ap, sym, ◌∙◌}
use Rattle.std.specs.Prelude.{nat_eq}
use Rattle.std.specs.List.{AllByRecursion, slice_get}
use Rattle.std.proofs.lemmas.Bool.{eq-eqb}
use Rattle.px_values.specs.declared.column.ColType.{ColType}
use Rattle.px_values.specs.declared.column.ColType.TheVariants.{TinyInt, SmallInt, Integer, BigInt, UnsignedInt, UnsignedLong, Boolean, Varchar}
use Rattle.px_indexrow.specs.Form.{index_column, index_columns, rest_of}
use Rattle.px_paths.specs.Paths.{columns_on, index_part, index_path, is_keyed, is_text, key_part, may_be_null_in, table_path, type_in}
use Rattle.px_paths.specs.declared.path.PathColumn.{PathColumn}
use Rattle.px_rows.specs.Keys.{column_in, is_part, key_admits_null, key_column, row_columns}
use Rattle.px_tables.specs.declared.index.Index.{Index}
use Rattle.px_tables.specs.declared.table.KeyPlace.{KeyPlace}
use Rattle.px_tables.specs.declared.table.Table.{Table}
use Rattle.px_tables.specs.declared.table.TableColumn.{TableColumn}

-- 1. One column

type_same : (columns : List TableColumn) (c : ℕ) → type_in (slice_get columns c) ≡ (column_in columns c).column_type
type_same [] c = refl
type_same (x ∷ columns) zero = refl
type_same (x ∷ columns) (suc c) = type_same columns c

admits : (ty : ColType) (not_null : Bool) → (is_text ty && not not_null) ≡ key_admits_null ty not_null
admits Varchar not_null = refl
admits TinyInt not_null = refl
admits SmallInt not_null = refl
admits Integer not_null = refl
admits BigInt not_null = refl
admits UnsignedInt not_null = refl
admits UnsignedLong not_null = refl
admits Boolean not_null = refl

null_same : (columns : List TableColumn) (c : ℕ) → may_be_null_in (slice_get columns c) ≡ key_admits_null (column_in columns c).column_type (column_in columns c).not_null
null_same [] c = refl
null_same (x ∷ columns) zero = admits x.column_type x.not_null
null_same (x ∷ columns) (suc c) = null_same columns c

column_same : (columns : List TableColumn) (p : KeyPlace) → (key_part columns p).column ≡ key_column columns p
column_same columns p = λ i. record { ty = type_same columns p.column i; direction = p.direction; may_be_null = null_same columns p.column i }

or_cond : (b m n : Bool) → m ≡ n → (not b || m) ≡ cond b n true
or_cond true m n e = e
or_cond false m n e = refl

part_same : (t : Table) (p : KeyPlace) → (index_part t p).column ≡ index_column t p
part_same t p = λ i. record { ty = type_same t.columns p.column i; direction = p.direction; may_be_null = or_cond (is_part t.key p.column) (may_be_null_in (slice_get t.columns p.column)) (key_admits_null (column_in t.columns p.column).column_type (column_in t.columns p.column).not_null) (null_same t.columns p.column) i }

-- a part of the primary key is no other as a part of an index's
key_same : (t : Table) (p : KeyPlace) → is_part t.key p.column ≡ true → (key_part t.columns p).column ≡ index_column t p
key_same t p h = column_same t.columns p ∙ λ i. record { ty = (column_in t.columns p.column).column_type; direction = p.direction; may_be_null = cond (sym h i) (key_admits_null (column_in t.columns p.column).column_type (column_in t.columns p.column).not_null) true }

-- 2. All of them

pub table_columns : (t : Table) → columns_on (table_path t) ≡ row_columns t
table_columns t = by t.key
  where
    by : (key : List KeyPlace) → columns_on (map (key_part t.columns) key) ≡ map (key_column t.columns) key
    by [] = refl
    by (p ∷ key) = λ i. column_same t.columns p i ∷ by key i

parts_same : (t : Table) (parts : List KeyPlace) → columns_on (map (index_part t) parts) ≡ map (index_column t) parts
parts_same t [] = refl
parts_same t (p ∷ parts) = λ i. part_same t p i ∷ parts_same t parts i

map_append : {A B : Type 0} (f : A → B) (xs ys : List A) → map f (xs ++ ys) ≡ map f xs ++ map f ys
map_append f [] ys = refl
map_append f (x ∷ xs) ys = ap (λ (zs : List _). f x ∷ zs) (map_append f xs ys)

or_right : (a b : Bool) → b ≡ true → (a || b) ≡ true
or_right true b h = refl
or_right false b h = h

all_parts : (whole key : List KeyPlace) → ((c : ℕ) → is_part key c ≡ true → is_part whole c ≡ true) → AllByRecursion (λ p. is_part whole p.column ≡ true) key
all_parts whole [] f = tt
all_parts whole (p ∷ key) f = (f p.column (λ i. eq-eqb p.column p.column refl i || is_part key p.column), all_parts whole key (λ c h. f c (or_right (nat_eq p.column c) (is_part key c) h)))

rest_same : (t : Table) (parts key : List KeyPlace) → AllByRecursion (λ p. is_part t.key p.column ≡ true) key → columns_on (map (key_part t.columns) (filter (λ p. not (is_keyed parts p.column)) key)) ≡ map (index_column t) (rest_of parts key)
unfolding rest_of
rest_same t parts [] a = refl
rest_same t parts (p ∷ key) a = by (is_part parts p.column) (rest_same t parts key a.1)
  where
    by : (b : Bool) → columns_on (map (key_part t.columns) (filter (λ q. not (is_keyed parts q.column)) key)) ≡ map (index_column t) (rest_of parts key) → columns_on (map (key_part t.columns) (cond (not b) (p ∷ filter (λ q. not (is_keyed parts q.column)) key) (filter (λ q. not (is_keyed parts q.column)) key))) ≡ map (index_column t) (cond b (rest_of parts key) (p ∷ rest_of parts key))
    by true e = e
    by false e = λ i. key_same t p a.0 i ∷ e i

pub index_columns_same : (t : Table) (x : Index) → columns_on (index_path t x) ≡ index_columns t x
index_columns_same t x =
    map_append (λ (p : PathColumn). p.column) (map (index_part t) x.parts) (map (key_part t.columns) (filter (λ p. not (is_keyed x.parts p.column)) t.key))
    ∙ ((λ i. parts_same t x.parts i ++ rest_same t x.parts t.key (all_parts t.key t.key (λ c h. h)) i)
    ∙ sym (map_append (index_column t) x.parts (rest_of x.parts t.key)))
