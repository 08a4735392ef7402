-- What a definition makes is right.
use Rattle.std.proofs.Common.{◌≡◌, ◌≢◌, ℕ, zero, suc, ◌<◌, Bool, true, false, ◌&&◌, ◌||◌, List, [], ◌∷◌, length, map, get_or, refl, ap, sym, ◌∙◌, arith}
use Rattle.std.specs.Prelude.{not}
use Rattle.std.specs.List.{All, AllByRecursion}
use Rattle.std.proofs.lemmas.Bool.{ne_eqb}
use Rattle.std.proofs.lemmas.List.Elements.{All-cons}
use Rattle.px_values.specs.declared.name.IndexId.{IndexId}
use Rattle.px_values.specs.declared.name.TableId.{TableId}
use Rattle.px_tables.specs.declared.index.NewIndex.{NewIndex}
use Rattle.px_tables.specs.declared.table.KeyPlace.{KeyPlace}
use Rattle.px_tables.specs.declared.table.NewTable.{NewTable}
use Rattle.px_tables.specs.declared.table.Table.{Table}
use Rattle.px_trail.specs.Trail.{made_index, made_table, numbered_regions}
use Rattle.px_rows.specs.Keys.{IsRightTable, are_distinct, is_part}
use Rattle.px_indexrow.specs.Form.{IsRightIndex}
use Rattle.px_calls.specs.Requires.{AreOnce, IsNewIndex, IsNewTable}

to_all : {A : Type 0} (P : A → Type 0) (xs : List A) → AllByRecursion P xs → All P xs
to_all P [] h = λ i d l. absurd (omega arith)
to_all P (x ∷ xs) h = All-cons P x xs h.0 (to_all P xs h.1)

-- a column that the others haven't is no part of them
no_part_of : (parts : List KeyPlace) (n : ℕ) → AllByRecursion (λ m. m ≢ n) (map (λ (p : KeyPlace). p.column) parts) → is_part parts n ≡ false
no_part_of [] n h = refl
no_part_of (p ∷ parts) n h = ap (λ (v : Bool). v || is_part parts n) (ne_eqb p.column n h.0) ∙ no_part_of parts n h.1

once_distinct : (key : List KeyPlace) → AreOnce (map (λ (p : KeyPlace). p.column) key) → are_distinct key ≡ true
unfolding AreOnce are_distinct
once_distinct [] h = refl
once_distinct (p ∷ parts) h = ap (λ (v : Bool). not v && are_distinct parts) (no_part_of parts p.column h.0) ∙ once_distinct parts h.1

pub new_table_right : (n : ℕ) (id : TableId) (what : NewTable) → IsNewTable what → IsRightTable (made_table n id what)
new_table_right n id what h = record {
  columns = (let c = h.columns in omega arith);
  within = to_all (λ (p : KeyPlace). p.column < length what.columns) what.key h.places;
  distinct = once_distinct what.key h.once;
}

all_get : (P : ℕ → Type 0) (xs : List ℕ) (i : ℕ) → i < length xs → AllByRecursion P xs → P (get_or xs i 0)
all_get P [] i l h = absurd (omega arith)
all_get P (x ∷ xs) zero l h = h.0
all_get P (x ∷ xs) (suc i) l h = all_get P xs i (omega arith) h.1

once_same : (xs : List ℕ) → AreOnce xs → (c d : ℕ) → c < length xs → d < length xs → get_or xs c 0 ≡ get_or xs d 0 → c ≡ d
unfolding AreOnce
once_same [] h c d l m q = absurd (omega arith)
once_same (x ∷ xs) h zero zero l m q = refl
once_same (x ∷ xs) h zero (suc d) l m q = absurd (all_get (λ n. n ≢ x) xs d (omega arith) h.0 (sym q))
once_same (x ∷ xs) h (suc c) zero l m q = absurd (all_get (λ n. n ≢ x) xs c (omega arith) h.0 q)
once_same (x ∷ xs) h (suc c) (suc d) l m q = ap suc (once_same xs h.1 c d (omega arith) (omega arith) q)

pub new_index_right : (t : Table) (n : ℕ) (id : IndexId) (s : ℕ) (what : NewIndex) → IsNewIndex t what → IsRightIndex t (made_index n id s what)
new_index_right t n id s what h = record {
  parts = to_all (λ p. p.column < length t.columns) what.parts h.places;
  within = λ c l. all_get (λ m. m < length t.columns) what.included c l h.included;
  once = λ c d l m q. once_same what.included h.included_once c d l m q;
}

-- a table that isn't split has one region
pub one_region : (n : ℕ) (id : TableId) (what : NewTable) → what.least_keys ≡ [] ∷ [] → (made_table n id what).regions ≡ (record { number = n; least_key = [] }) ∷ []
unfolding numbered_regions
one_region n id what e = ap (numbered_regions n) e
