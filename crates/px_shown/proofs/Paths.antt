-- The values of keys, as paths and as index rows have them.
use Rattle.std.proofs.Common.{◌≡◌, ℕ, Bool, true, false, cond, not, List, [], ◌∷◌, ◌++◌, map, filter, get_or, refl, ap, sym, ◌∙◌, inl, inr}
use Rattle.std.specs.Prelude.{nat_eq}
use Rattle.std.proofs.lemmas.Bool.{cases_Bool, cond-true, cond-false, eqb-true}
use Rattle.px_values.specs.declared.row.Value.{Value}
use Rattle.px_values.specs.declared.row.Value.TheVariants.{Null}
use Rattle.px_tables.specs.declared.index.Index.{Index}
use Rattle.px_tables.specs.declared.table.KeyPlace.{KeyPlace}
use Rattle.px_tables.specs.declared.table.Table.{Table}
use Rattle.px_tables.specs.declared.table.TableColumn.{TableColumn}
use Rattle.px_trail.specs.States.{key_in}
use Rattle.px_trail.specs.Trail.{table_shape}
use Rattle.px_paths.specs.Paths.{index_part, index_path, is_keyed, key_part, table_path, values_on}
use Rattle.px_indexrow.specs.Form.{index_places, index_values, rest_of, value_of_column}

-- the parts of the primary key that aren't indexed
abbrev pub others : List KeyPlace → List KeyPlace → List KeyPlace
others parts ps = filter (λ p. not (is_keyed parts p.column)) ps

pub others_are : (parts ps : List KeyPlace) → others parts ps ≡ rest_of parts ps
unfolding rest_of
others_are parts [] = refl
others_are parts (p ∷ ps) = by (is_keyed parts p.column) (others_are parts ps)
  where
    by : (b : Bool) → others parts ps ≡ rest_of parts ps → cond (not b) (p ∷ others parts ps) (others parts ps) ≡ cond b (rest_of parts ps) (p ∷ rest_of parts ps)
    by true e = e
    by false e = ap (λ (l : List KeyPlace). p ∷ l) e

map_append : {A B : Type 0} (f : A → B) (xs ys : List A) → map f (xs ++ ys) ≡ map f xs ++ map f ys
map_append f [] ys = refl
map_append f (x ∷ xs) ys = ap (λ (l : List _). f x ∷ l) (map_append f xs ys)

-- the path, with the parts that index rows have
pub path_is : (t : Table) (x : Index) → index_path t x ≡ map (index_part t) x.parts ++ map (key_part t.columns) (rest_of x.parts t.key)
path_is t x = ap (λ (l : List KeyPlace). map (index_part t) x.parts ++ map (key_part t.columns) l) (others_are x.parts t.key)

-- ---- values

index_values_at : (t : Table) (row : List Value) (ps : List KeyPlace) → values_on (map (index_part t) ps) row ≡ map (λ p. get_or row p.column Null) ps
index_values_at t row [] = refl
index_values_at t row (p ∷ ps) = ap (λ (l : List Value). get_or row p.column Null ∷ l) (index_values_at t row ps)

key_values_at : (cs : List TableColumn) (row : List Value) (ps : List KeyPlace) → values_on (map (key_part cs) ps) row ≡ map (λ p. get_or row p.column Null) ps
key_values_at cs row [] = refl
key_values_at cs row (p ∷ ps) = ap (λ (l : List Value). get_or row p.column Null ∷ l) (key_values_at cs row ps)

path_values : (t : Table) (x : Index) (row : List Value) → values_on (index_path t x) row ≡ map (λ p. get_or row p.column Null) (index_places t x)
path_values t x row =
    ap (λ (l : List _). values_on l row) (path_is t x)
    ∙ map_append (λ p. get_or row p.place Null) (map (index_part t) x.parts) (map (key_part t.columns) (rest_of x.parts t.key))
    ∙ (λ i. index_values_at t row x.parts i ++ key_values_at t.columns row (rest_of x.parts t.key) i)
    ∙ sym (map_append (λ p. get_or row p.column Null) x.parts (rest_of x.parts t.key))

-- the primary key values of a row
key_in_is : (row : List Value) (ps : List KeyPlace) → map (λ c. get_or row c Null) (map (λ p. p.column) ps) ≡ map (λ p. get_or row p.column Null) ps
key_in_is row [] = refl
key_in_is row (p ∷ ps) = ap (λ (l : List Value). get_or row p.column Null ∷ l) (key_in_is row ps)

pub own_values : (t : Table) (row : List Value) → values_on (table_path t) row ≡ key_in (table_shape t) row
own_values t row = key_values_at t.columns row t.key ∙ sym (key_in_is row t.key)

own_value : (key : List KeyPlace) (row : List Value) (c : ℕ) → value_of_column key (map (λ p. get_or row p.column Null) key) row c ≡ get_or row c Null
unfolding value_of_column
own_value [] row c = refl
own_value (p ∷ key) row c = elim (cases_Bool (nat_eq p.column c)) [
  | inl e ↦ cond-true _ _ _ e ∙ ap (λ (i : ℕ). get_or row i Null) (eqb-true p.column c e)
  | inr e ↦ cond-false _ _ _ e ∙ own_value key row c
]

-- the values of a row's index key
pub values_are : (t : Table) (x : Index) (r row : List Value) → key_in (table_shape t) row ≡ r → values_on (index_path t x) row ≡ index_values t x r row
values_are t x r row own =
    path_values t x row
    ∙ ap (λ (f : ℕ → Value). map (λ p. f p.column) (index_places t x)) (λ i c. sym (own_value t.key row c) i)
    ∙ ap (λ (vs : List Value). index_values t x vs row) (sym (key_in_is row t.key) ∙ own)
