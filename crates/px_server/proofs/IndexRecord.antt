-- An index fits the record of its definition.
use Rattle.std.proofs.Common.{◌≡◌, ◌<◌, ◌≤◌, ◌^◌, inl, inr, ℕ, suc, Bool, true, false, List, [], ◌∷◌, length, get_or, map, refl, sym, ap, subst, ◌∙◌, Some, arith}
use Rattle.std.specs.Prelude.{◌==◌, ◌||◌, if◌then◌else◌, min}
use Rattle.std.specs.List.{All, AllByRecursion, list_any}
use Rattle.std.proofs.lemmas.Bool.{cases_eq, eq-eqb, ne_eqb}
use Rattle.px_values.specs.declared.order.Direction.{Direction}
use Rattle.px_values.specs.declared.order.Direction.TheVariants.{Ascending, Descending}
use Rattle.px_tables.specs.declared.index.Index.{Index}
use Rattle.px_tables.specs.declared.index.IndexState.{IndexState}
use Rattle.px_tables.specs.declared.index.IndexState.TheVariants.{Building, Active, Disabled}
use Rattle.px_tables.specs.declared.table.KeyPlace.{KeyPlace}
use Rattle.px_tables.specs.declared.table.Table.{Table}
use Rattle.px_pieces.specs.Pieces.{as_value, byte, followed_by}
use Rattle.px_pieces.specs.Bytes.{one_byte, within_true}
use Rattle.px_pieces.specs.Chains.{listed_right}
use Rattle.px_pieces.specs.Numbers.{fits_number, one_of_right}
use Rattle.px_schema.specs.Format.{birth, column_count, index, number_of_table}
use Rattle.px_schema.specs.Parts.{blank_part, direction_piece, greatest_id, greatest_stamp, id, part_piece, parts, place, places, some_count, state}
use Rattle.px_indexrow.specs.Form.{IsRightIndex}
use Rattle.px_recovery.specs.Tables.{table_in}
use Rattle.px_server.specs.inner.Fitting.{FitsRecord}

direction_right : (d : Direction) → direction_piece.right d
unfolding direction_piece as_value one_byte byte
direction_right Ascending = (refl, refl)
direction_right Descending = (refl, refl)

state_right : (s : IndexState) → state.right s
unfolding state as_value one_byte byte
state_right Building = (refl, refl)
state_right Active = (refl, refl)
state_right Disabled = (refl, refl)

place_right : (n c : ℕ) → c < n → c < 256 → (place n).right c
unfolding place one_byte byte
place_right n c low short = within_true 0 (min n 256) c (omega arith) (omega arith)

part_right : (n : ℕ) (p : KeyPlace) → p.column < n → p.column < 256 → (part_piece n).right p
unfolding part_piece as_value followed_by
part_right n p low short = ((place_right n p.column low short, direction_right p.direction), refl)

some_right : (n : ℕ) → 0 < n → n < 256 → some_count.right n
unfolding some_count one_byte byte
some_right n some few = within_true 1 256 n (omega arith) few

count_right : (n : ℕ) → n < 256 → (one_byte 0 256).right n
unfolding one_byte byte
count_right n few = within_true 0 256 n (omega arith) few

-- ---- an index

each : {A : Type 0} (P : A → Type 0) (xs : List A) → All P xs → AllByRecursion P xs
each P [] all = tt
each P (x ∷ xs) all = (all 0 x (omega arith), each P xs (λ k d l. all (suc k) d (omega (arith, l))))

each_place : (n : ℕ) (xs : List ℕ) → ((k : ℕ) → k < length xs → get_or xs k 0 < n) → n ≤ 256 → AllByRecursion (place n).right xs
each_place n [] all few = tt
each_place n (c ∷ xs) all few = ((let l = all 0 (omega arith) in place_right n c l (omega (arith, l, few))), each_place n xs (λ k l. all (suc k) (omega (arith, l))) few)

weaker : (n : ℕ) → n ≤ 256 → (ps : List KeyPlace) → AllByRecursion (λ p. p.column < n) ps → AllByRecursion (part_piece n).right ps
weaker n few [] all = tt
weaker n few (p ∷ ps) all = ((let l = all.0 in part_right n p l (omega (arith, l, few))), weaker n few ps all.1)

-- of a table with so many columns
pub index_right : (ts : List Table) (t : Table) (i : Index) → IsRightIndex t i → FitsRecord i → length t.columns ≤ 256 → i.table.0 < 256 ^ 4 → list_any (λ m. m == i.table.0) (map number_of_table ts) ≡ true → column_count ts i.table.0 ≡ length t.columns → (index ts).right i
unfolding index as_value followed_by id birth parts places
index_right ts t i right fits few short there wide = (
  (
    fits_number 4 greatest_id i.id.0 (omega (arith, fits.id)) fits.id,
    (
      one_of_right 4 (map number_of_table ts) i.table.0 short there,
      (
        fits.name_right,
        (
          state_right i.state,
          (
            fits_number 8 greatest_stamp i.birth (omega (arith, fits.birth)) fits.birth,
            (
              fits_number 4 greatest_id i.region (omega (arith, fits.region)) fits.region,
              (
                listed_right blank_part (part_piece (column_count ts i.table.0)) some_count i.parts (some_right (length i.parts) fits.parts fits.parts_few)
                    (subst (λ (n : ℕ). AllByRecursion (part_piece n).right i.parts) (sym wide) (weaker (length t.columns) few i.parts (each (λ p. p.column < length t.columns) i.parts right.parts))),
                listed_right 0 (place (column_count ts i.table.0)) (one_byte 0 256) i.included (count_right (length i.included) fits.included_few)
                    (subst (λ (n : ℕ). AllByRecursion (place n).right i.included) (sym wide) (each_place (length t.columns) i.included right.within few)),
              ),
            ),
          ),
        ),
      ),
    ),
  ),
  refl,
)

-- ---- a table that stands

if_true : {A : Type 0} (v : Bool) (a c : A) → v ≡ true → (if v then a else c) ≡ a
if_true true a c h = refl
if_true false a c h = absurd cc

if_false : {A : Type 0} (v : Bool) (a c : A) → v ≡ false → (if v then a else c) ≡ c
if_false true a c h = absurd cc
if_false false a c h = refl

pub width_found : (ts : List Table) (n : ℕ) (t : Table) → table_in ts n ≡ Some t → column_count ts n ≡ length t.columns
unfolding table_in
width_found [] n t found = absurd cc
width_found (x ∷ ts) n t found = elim (cases_eq x.id.0 n) [
  | inl e ↦
      (let same : Some x ≡ Some t = sym (if_true (x.id.0 == n) (Some x) (table_in ts n) (eq-eqb x.id.0 n e)) ∙ found in
      let is : x ≡ t = cc in
      if_true (x.id.0 == n) (length x.columns) (column_count ts n) (eq-eqb x.id.0 n e) ∙ ap (λ (y : Table). length y.columns) is)
  | inr e ↦
      if_false (x.id.0 == n) (length x.columns) (column_count ts n) (ne_eqb x.id.0 n e) ∙ width_found ts n t (sym (if_false (x.id.0 == n) (Some x) (table_in ts n) (ne_eqb x.id.0 n e)) ∙ found)
]

or_true : (v : Bool) → (v || true) ≡ true
or_true true = refl
or_true false = refl

pub among_found : (ts : List Table) (n : ℕ) (t : Table) → table_in ts n ≡ Some t → list_any (λ m. m == n) (map number_of_table ts) ≡ true
unfolding table_in
among_found [] n t found = absurd cc
among_found (x ∷ ts) n t found = elim (cases_eq x.id.0 n) [
  | inl e ↦ ap (λ v. v || list_any (λ m. m == n) (map number_of_table ts)) (eq-eqb x.id.0 n e)
  | inr e ↦ ap (λ v. (x.id.0 == n) || v) (among_found ts n t (sym (if_false (x.id.0 == n) (Some x) (table_in ts n) (ne_eqb x.id.0 n e)) ∙ found)) ∙ or_true (x.id.0 == n)
]
