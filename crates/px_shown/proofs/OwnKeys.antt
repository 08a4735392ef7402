-- A row that cells spell has the values of its primary key at its columns.
use Rattle.std.proofs.Common.{◌≡◌, ℕ, zero, suc, ◌+◌, ◌<◌, Bool, true, false, not, ◌||◌, Option, Some, None, List, [], ◌∷◌, map, length, get_or, replicate, refl, ap, sym, ◌∙◌, subst, inl, inr, arith}
use Rattle.std.specs.Prelude.{nat_eq, slice_set}
use Rattle.std.specs.List.{All}
use Rattle.std.proofs.lemmas.Bool.{and_parts, both_ways, cases_eq, eq-eqb, ne_eqb, not-true}
use Rattle.std.proofs.lemmas.List.{get_or-set_same, get_or-set_other, length-replicate, length-set}
use Rattle.std.proofs.lemmas.List.Elements.{All-head, All-tail}
use Rattle.px_cells.specs.CellData.{CellData}
use Rattle.px_cells.specs.Contents.{Contents, cell_of, value_at}
use Rattle.px_cells.specs.declared.kind.CellKind.TheVariants.{Put}
use Rattle.px_cells.specs.Sight.{seen_at}
use Rattle.px_values.specs.States.{RowState, fresh_row, with_values}
use Rattle.px_values.specs.declared.row.Value.{Value}
use Rattle.px_values.specs.declared.row.Value.TheVariants.{Null}
use Rattle.px_tables.specs.declared.table.KeyPlace.{KeyPlace}
use Rattle.px_tables.specs.declared.table.Table.{Table}
use Rattle.px_trail.specs.States.{key_in}
use Rattle.px_trail.specs.Trail.{table_shape}
use Rattle.px_world.specs.World.{read_at}
use Rattle.px_rows.specs.Keys.{IsRightTable, are_distinct, is_part, row_key}
use Rattle.px_rows.specs.Spelled.{column_at, decoded, overlay, pick, row_form, row_spelling, state_if}
use Rattle.px_indexrow.proofs.KeysHeld.{row_count}
use Rattle.px_cellshapes.specs.Rows.{AreRightRows}
use Rattle.px_cellshapes.proofs.Each.{none_if}
use Rattle.px_cellshapes.proofs.Typed.{short_key, spelled_fits}
use Rattle.px_shown.specs.Told.{SpellsRows}

overlay_at : (o : ℕ → Option Value) (i : ℕ) (xs : List Value) (c : ℕ) (d : Value) → c < length xs → get_or (overlay o i xs) c d ≡ pick (o (i + c)) (get_or xs c d)
unfolding overlay
overlay_at o i [] c d l = absurd (omega arith)
overlay_at o i (x ∷ xs) zero d l = (let e : i ≡ i + 0 = omega arith in ap (λ (n : ℕ). pick (o n) x) e)
overlay_at o i (x ∷ xs) (suc c) d l = (let e : suc i + c ≡ i + suc c = omega arith in overlay_at o (suc i) xs c d (omega arith) ∙ ap (λ (n : ℕ). pick (o n) (get_or xs c d)) e)

-- columns that aren't among these keep their values
with_other : (ps : List KeyPlace) (vs row : List Value) (c : ℕ) → is_part ps c ≡ false → get_or (with_values (map (λ p. p.column) ps) vs row) c Null ≡ get_or row c Null
with_other [] vs row c h = refl
with_other (p ∷ ps) [] row c h = refl
with_other (p ∷ ps) (v ∷ vs) row c h = elim (cases_eq c p.column) [
  | inl e ↦ absurd (both_ways _ h (ap (λ (b : Bool). b || is_part ps c) (eq-eqb p.column c (sym e))))
  | inr e ↦ with_other ps vs (slice_set row p.column v) c (or_false (nat_eq p.column c) (is_part ps c) h) ∙ get_or-set_other row p.column c v Null e
]
  where
    or_false : (a b : Bool) → (a || b) ≡ false → b ≡ false
    or_false true b h = absurd (let z : ◌≡◌ {A = Bool} true false = h in cc)
    or_false false b h = h

with_length : (ps : List KeyPlace) (vs row : List Value) → length (with_values (map (λ p. p.column) ps) vs row) ≡ length row
with_length [] vs row = refl
with_length (p ∷ ps) [] row = refl
with_length (p ∷ ps) (v ∷ vs) row = with_length ps vs (slice_set row p.column v) ∙ length-set row p.column v

-- those that are have these
with_own : (ps : List KeyPlace) (vs row : List Value) → are_distinct ps ≡ true → length vs ≡ length ps → All (λ p. p.column < length row) ps → map (λ p. get_or (with_values (map (λ p. p.column) ps) vs row) p.column Null) ps ≡ vs
unfolding are_distinct
with_own [] [] row d l a = refl
with_own [] (v ∷ vs) row d l a = absurd (omega arith)
with_own (p ∷ ps) [] row d l a = absurd (omega arith)
with_own (p ∷ ps) (v ∷ vs) row d l a =
    let parts = and_parts (not (is_part ps p.column)) (are_distinct ps) d in
    let head : get_or (with_values (map (λ p. p.column) ps) vs (slice_set row p.column v)) p.column Null ≡ v = with_other ps vs (slice_set row p.column v) p.column (not-true _ parts.0) ∙ get_or-set_same row p.column v Null (All-head (λ p. p.column < length row) p ps a) in
    (λ i. head i ∷ with_own ps vs (slice_set row p.column v) parts.1 (omega arith) (subst (λ (n : ℕ). All (λ p. p.column < n) ps) (sym (length-set row p.column v)) (All-tail (λ p. p.column < length row) p ps a)) i)

none_seen : (g : Contents) (k : List ℕ) (q p : ℕ) → ((s : ℕ) → g k q s Put ≡ None) → (o : Option ℕ) → seen_at g k q p ≡ o → read_at (λ s. g k q s Put) o ≡ None
none_seen g k q p none None e = refl
none_seen g k q p none (Some s) e = none s

same_row : (a b : List Value) → ◌≡◌ {A = RowState} (Some a) (Some b) → a ≡ b
same_row a b e = cc

state_is : (o : Option ℕ) (row values : List Value) → state_if o values ≡ Some row → values ≡ row
state_is None row values e = absurd (let z : ◌≡◌ {A = RowState} None (Some row) = e in cc)
state_is (Some s) row values e = same_row values row e

pub map_same : (f g : KeyPlace → Value) (ps : List KeyPlace) → ((p : KeyPlace) → is_part ps p.column ≡ true → f p ≡ g p) → map f ps ≡ map g ps
map_same f g [] h = refl
map_same f g (p ∷ ps) h = (λ i. h p (ap (λ (b : Bool). b || is_part ps p.column) (eq-eqb p.column p.column refl)) i ∷ map_same f g ps (λ q e. h q (or_there (nat_eq p.column q.column) (is_part ps q.column) e)) i)
  where
    or_there : (a b : Bool) → b ≡ true → (a || b) ≡ true
    or_there true b h = refl
    or_there false b h = h

pub columns_of : (row : List Value) (ps : List KeyPlace) → map (λ c. get_or row c Null) (map (λ p. p.column) ps) ≡ map (λ p. get_or row p.column Null) ps
columns_of row [] = refl
columns_of row (p ∷ ps) = ap (λ (l : List Value). get_or row p.column Null ∷ l) (columns_of row ps)

part_within : (n : ℕ) (ps : List KeyPlace) → All (λ p. p.column < n) ps → (c : ℕ) → is_part ps c ≡ true → c < n
part_within n [] a c h = absurd (let z : ◌≡◌ {A = Bool} false true = h in cc)
part_within n (p ∷ ps) a c h = elim (cases_eq p.column c) [
  | inl e ↦ subst (λ (i : ℕ). i < n) e (All-head (λ p. p.column < n) p ps a)
  | inr e ↦ part_within n ps (All-tail (λ p. p.column < n) p ps a) c (sym (ap (λ (b : Bool). b || is_part ps c) (ne_eqb p.column c e)) ∙ h)
]

pub own_key : (t : Table) (g : Contents) → IsRightTable t → SpellsRows t g → (r row : List Value) (p : ℕ) → (row_form t).spelled g r p ≡ Some row → key_in (table_shape t) row ≡ r
own_key t g right rows r row p e =
    let o = column_at (row_spelling t) g r p in
    let fresh = fresh_row (table_shape t) r in
    let is : overlay o 0 fresh ≡ row = state_is (seen_at g (row_key t r) 1 p) row (overlay o 0 fresh) e in
    let count : length fresh ≡ length t.columns = with_length t.key r (replicate (length t.columns) Null) ∙ length-replicate (length t.columns) Null in
    let none : (c : ℕ) → is_part t.key c ≡ true → o c ≡ None = λ c h. ap (decoded (row_spelling t) c) (none_seen g (row_key t r) (suc (suc c)) p (λ s. rows.bare r c s h) (seen_at g (row_key t r) (suc (suc c)) p) refl) in
    ap (λ (l : List Value). key_in (table_shape t) l) (sym is)
    ∙ columns_of (overlay o 0 fresh) t.key
    ∙ map_same (λ q. get_or (overlay o 0 fresh) q.column Null) (λ q. get_or fresh q.column Null) t.key
    (λ q h. (let inside = part_within (length t.columns) t.key right.within q.column h in
    let zero : q.column ≡ 0 + q.column = omega arith in
    overlay_at o 0 fresh q.column Null (omega arith) ∙ ap (λ (n : ℕ). pick (o n) (get_or fresh q.column Null)) (sym zero) ∙ ap (λ (v : Option Value). pick v (get_or fresh q.column Null)) (none q.column h)))
    ∙ with_own t.key r (replicate (length t.columns) Null) right.distinct (row_count t r (rows.short r row p e).fits) (subst (λ (n : ℕ). All (λ p. p.column < n) t.key) (sym (length-replicate (length t.columns) Null)) right.within)

pub spells_rows : (t : Table) (cells : List CellData) → IsRightTable t → AreRightRows t cells → SpellsRows t (value_at cells)
spells_rows t cells right rows = record {
  typed = λ r p. spelled_fits t cells rows.each r right p;
  short = λ r row p e. short_key t cells rows.each r row p e;
  bare = λ r c s h. none_if (value_at cells (row_key t r) (suc (suc c)) s Put) (λ v e. both_ways _ (rows.each (cell_of (row_key t r) (suc (suc c)) s Put v) e).fits.beside h);
}
