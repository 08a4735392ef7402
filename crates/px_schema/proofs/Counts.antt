-- What stands stays within the limits.
use Rattle.std.proofs.Common.{◌≡◌, ◌<◌, ◌≤◌, ◌+◌, ◌∷◌, [], ℕ, suc, Bool, true, false, not, cond, eqb, Some, List, length, map, refl, sym, ap, subst, ◌∙◌, inl, inr, arith}
use Rattle.std.specs.Prelude.{filter}
use Rattle.std.proofs.lemmas.Bool.{cases_eq, ne_eqb}
use Rattle.px_tables.specs.declared.index.Index.{Index}
use Rattle.px_tables.specs.declared.table.Table.{Table}
use Rattle.px_schema.specs.declared.item.CatalogItem.{CatalogItem}
use Rattle.px_schema.specs.declared.item.CatalogItem.TheVariants.{IndexGone, IndexIs, TableGone, TableIs}
use Rattle.px_schema.specs.declared.standing.Standing.{Standing}
use Rattle.px_schema.specs.Counts.{HasRoom, HasTable, IsWithinCounts, indexes_of, table_of_index}
use Rattle.px_schema.specs.Format.{number_of_table}
use Rattle.px_schema.specs.Fresh.{fresh_standing}
use Rattle.px_schema.specs.Places.{first_at}
use Rattle.px_schema.specs.Stands.{AreConsecutive, newly_drawn, of_other_tables, put_index, put_table, stands_after}
use Rattle.px_schema.proofs.Numbers.{next_drawn}

-- ---- lists

-- an element or none in front
front : {A : Type 0} (b : Bool) (x : A) (xs : List A) → (length xs ≤ length (cond b (x ∷ xs) xs)) × (length (cond b (x ∷ xs) xs) ≤ suc (length xs))
front true x xs = (omega arith, omega arith)
front false x xs = (omega arith, omega arith)

same_front : {A : Type 0} (b : Bool) (x y : A) (xs ys : List A) (k : ℕ) → length xs ≤ k + length ys → length (cond b (x ∷ xs) xs) ≤ k + length (cond b (y ∷ ys) ys)
same_front true x y xs ys k le = omega (arith, le)
same_front false x y xs ys k le = le

-- what is kept isn't more
kept : {A : Type 0} (q : A → Bool) (xs : List A) → length (filter q xs) ≤ length xs
kept q [] = omega arith
kept q (x ∷ xs) = let more = kept q xs in let here = (front (q x) x (filter q xs)).1 in omega (arith, more, here)

kept_of : {A : Type 0} (p q : A → Bool) (xs : List A) → length (filter p (filter q xs)) ≤ length (filter p xs)
kept_of p q [] = omega arith
kept_of p q (x ∷ xs) =
    let more = kept_of p q xs in
    elim (q x) as (λ (b : Bool). length (filter p (cond b (x ∷ filter q xs) (filter q xs))) ≤ length (cond (p x) (x ∷ filter p xs) (filter p xs))) [
      | true ↦ (let here = same_front (p x) x x (filter p (filter q xs)) (filter p xs) 0 (omega (arith, more)) in omega (arith, here))
      | false ↦ (let here = (front (p x) x (filter p xs)).0 in omega (arith, more, here))
    ]

-- ---- tables

put_one : (ts : List Table) (t : Table) → length (put_table ts t) ≤ suc (length ts)
put_one [] t = omega arith
put_one (x ∷ xs) t = let more = put_one xs t in elim (eqb x.id.0 t.id.0) as (λ (b : Bool). length (cond b (t ∷ xs) (x ∷ put_table xs t)) ≤ suc (length (x ∷ xs))) [ true ↦ omega arith | false ↦ omega (arith, more) ]

put_same : (ts : List Table) (t : Table) → HasTable ts t.id.0 → length (put_table ts t) ≤ length ts
put_same [] t has = absurd (omega (arith, has))
put_same (x ∷ xs) t has = by (eqb x.id.0 t.id.0) has (put_same xs t)
  where
    by : (b : Bool) → cond b 0 (suc (first_at (map number_of_table xs) t.id.0)) < length (x ∷ xs) → (HasTable xs t.id.0 → length (put_table xs t) ≤ length xs) → length (cond b (t ∷ xs) (x ∷ put_table xs t)) ≤ length (x ∷ xs)
    by true has more = omega arith
    by false has more = let rest = more (omega (arith, has)) in omega (arith, rest)

-- ---- indexes

put_count : (n : ℕ) (is : List Index) (i : Index) → length (indexes_of n (put_index is i)) ≤ suc (length (indexes_of n is))
put_count n [] i = (front (eqb i.table.0 n) i []).1
put_count n (x ∷ xs) i =
    let more = put_count n xs i in
    elim (eqb x.id.0 i.id.0) as (λ (b : Bool). length (indexes_of n (cond b (i ∷ xs) (x ∷ put_index xs i))) ≤ suc (length (cond (eqb x.table.0 n) (x ∷ indexes_of n xs) (indexes_of n xs)))) [
      | true ↦ (let one = (front (eqb i.table.0 n) i (indexes_of n xs)).1 in let two = (front (eqb x.table.0 n) x (indexes_of n xs)).0 in omega (arith, one, two))
      | false ↦ (let here = same_front (eqb x.table.0 n) x x (indexes_of n (put_index xs i)) (indexes_of n xs) 1 (omega (arith, more)) in omega (arith, here))
    ]

-- of another table there aren't more
put_other : (n : ℕ) (is : List Index) (i : Index) → eqb i.table.0 n ≡ false → length (indexes_of n (put_index is i)) ≤ length (indexes_of n is)
put_other n [] i other = let same : length (cond (eqb i.table.0 n) (i ∷ []) []) ≡ 0 = ap (λ (b : Bool). length (cond b (i ∷ []) [])) other in omega (arith, same)
put_other n (x ∷ xs) i other =
    let more = put_other n xs i other in
    elim (eqb x.id.0 i.id.0) as (λ (b : Bool). length (indexes_of n (cond b (i ∷ xs) (x ∷ put_index xs i))) ≤ length (cond (eqb x.table.0 n) (x ∷ indexes_of n xs) (indexes_of n xs))) [
      | true ↦ (let one : length (cond (eqb i.table.0 n) (i ∷ indexes_of n xs) (indexes_of n xs)) ≡ length (indexes_of n xs) = ap (λ (b : Bool). length (cond b (i ∷ indexes_of n xs) (indexes_of n xs))) other in let two = (front (eqb x.table.0 n) x (indexes_of n xs)).0 in omega (arith, one, two))
      | false ↦ (let here = same_front (eqb x.table.0 n) x x (indexes_of n (put_index xs i)) (indexes_of n xs) 0 (omega (arith, more)) in omega (arith, here))
    ]

-- nor where an index of the table is defined anew
put_anew : (n : ℕ) (is : List Index) (i : Index) → table_of_index is i.id.0 ≡ Some i.table.0 → length (indexes_of n (put_index is i)) ≤ length (indexes_of n is)
put_anew n [] i is-of = let none = is-of in cc
put_anew n (x ∷ xs) i is-of = by (eqb x.id.0 i.id.0) is-of (put_anew n xs i)
  where
    by : (b : Bool) → cond b (Some x.table.0) (table_of_index xs i.id.0) ≡ Some i.table.0 → (table_of_index xs i.id.0 ≡ Some i.table.0 → length (indexes_of n (put_index xs i)) ≤ length (indexes_of n xs))
        → length (indexes_of n (cond b (i ∷ xs) (x ∷ put_index xs i))) ≤ length (cond (eqb x.table.0 n) (x ∷ indexes_of n xs) (indexes_of n xs))
    by true same more =
        (let table : x.table.0 ≡ i.table.0 = cc in
        subst (λ (m : ℕ). length (cond (eqb m n) (i ∷ indexes_of n xs) (indexes_of n xs)) ≤ length (cond (eqb x.table.0 n) (x ∷ indexes_of n xs) (indexes_of n xs))) table
        (let here = same_front (eqb x.table.0 n) i x (indexes_of n xs) (indexes_of n xs) 0 (omega arith) in omega (arith, here)))
    by false same more = (let rest = more same in let here = same_front (eqb x.table.0 n) x x (indexes_of n (put_index xs i)) (indexes_of n xs) 0 (omega (arith, rest)) in omega (arith, here))

-- ---- what stands

pub fresh_within : IsWithinCounts fresh_standing
fresh_within = record { tables = omega arith; indexes = λ n. omega arith; ids = omega arith }

pub after_within : (s : Standing) (d : CatalogItem) → IsWithinCounts s → HasRoom s d → AreConsecutive s.next (newly_drawn s d) → IsWithinCounts (stands_after s d)
after_within s (TableIs t) is room drawn = record {
  tables = elim room.0 [ inl has ↦ (let le = put_same s.tables t has in let most = is.tables in omega (arith, le, most)) | inr one ↦ (let le = put_one s.tables t in omega (arith, le, one)) ];
  indexes = λ n. let le = kept_of (λ (i : Index). eqb i.table.0 n) (λ (i : Index). not (eqb i.table.0 t.id.0)) s.indexes in let most = is.indexes n in omega (arith, le, most);
  ids = let same = next_drawn s (TableIs t) drawn in let left = room.1 in omega (arith, same, left);
}
after_within s (IndexIs i) is room drawn = record {
  tables = is.tables;
  indexes = λ n. let most = is.indexes n in elim room.0 [
    | inl of ↦ (let le = put_anew n s.indexes i of in omega (arith, le, most))
    | inr one ↦ elim (cases_eq i.table.0 n) [
      | inl same ↦ (let le = put_count n s.indexes i in let few = subst (λ (m : ℕ). length (indexes_of m s.indexes) < 8) same one in omega (arith, le, few))
      | inr other ↦ (let le = put_other n s.indexes i (ne_eqb i.table.0 n other) in omega (arith, le, most))
    ]
  ];
  ids = let same = next_drawn s (IndexIs i) drawn in let left = room.1 in omega (arith, same, left);
}
after_within s (TableGone n) is room drawn = record {
  tables = let le = kept (λ (t : Table). not (eqb t.id.0 n.0)) s.tables in let most = is.tables in omega (arith, le, most);
  indexes = λ m. let le = kept_of (λ (i : Index). eqb i.table.0 m) (λ (i : Index). not (eqb i.table.0 n.0)) s.indexes in let most = is.indexes m in omega (arith, le, most);
  ids = is.ids;
}
after_within s (IndexGone n) is room drawn = record {
  tables = is.tables;
  indexes = λ m. let le = kept_of (λ (i : Index). eqb i.table.0 m) (λ (i : Index). not (eqb i.id.0 n.0)) s.indexes in let most = is.indexes m in omega (arith, le, most);
  ids = is.ids;
}
