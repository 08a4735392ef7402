-- How a definition takes its place.
use Rattle.std.proofs.Common.{◌≡◌, ◌<◌, ◌≤◌, ◌+◌, ◌++◌, ◌∷◌, [], ℕ, suc, Bool, true, false, List, length, get_or, drop, map, refl, sym, ap, ◌∙◌, arith}
use Rattle.std.specs.Prelude.{◌==◌, if◌then◌else◌}
use Rattle.std.proofs.Math.ListN.{set}
use Rattle.std.proofs.lemmas.List.{drop_more}
use Rattle.std.proofs.lemmas.Bool.{eq-eqb, ne_eqb}
use Rattle.px_tables.specs.declared.index.Index.{Index}
use Rattle.px_tables.specs.declared.table.Table.{Table}
use Rattle.px_schema.specs.Format.{number_of_index, number_of_table}
use Rattle.px_schema.specs.Places.{first_at}
use Rattle.px_schema.specs.Stands.{put_index, put_table}

module _ {X : Type 0} (f : X → ℕ) (xs : List X) (n i : ℕ) where
  first_here : (x : X) → i < length xs → x ≡ get_or xs i x → first_at (map f (drop i xs)) n ≡ (if f x == n then 0 else suc (first_at (map f (drop (i + 1) xs)) n))
  first_here x lt is = ap (λ (l : List X). first_at (map f l) n) (drop_more xs i x lt) ∙ ap (λ (y : X). if f y == n then 0 else suc (first_at (map f (drop (i + 1) xs)) n)) (sym is)

  pub first_found : (x : X) → i < length xs → x ≡ get_or xs i x → f x ≡ n → first_at (map f xs) n ≡ i + first_at (map f (drop i xs)) n → i ≡ first_at (map f xs) n
  first_found x lt is same before =
      let here = first_here x lt is ∙ ap (λ (b : Bool). if b then 0 else suc (first_at (map f (drop (i + 1) xs)) n)) (eq-eqb (f x) n same) in omega (arith, here, before)

  pub first_next : (x : X) → i < length xs → x ≡ get_or xs i x → (f x ≡ n → ⊥) → first_at (map f xs) n ≡ i + first_at (map f (drop i xs)) n → first_at (map f xs) n ≡ i + 1 + first_at (map f (drop (i + 1) xs)) n
  first_next x lt is other before =
      let here = first_here x lt is ∙ ap (λ (b : Bool). if b then 0 else suc (first_at (map f (drop (i + 1) xs)) n)) (ne_eqb (f x) n other) in omega (arith, here, before)

pub put_table_at : (ts : List Table) (t : Table) → first_at (map number_of_table ts) t.id.0 < length ts → set ts (first_at (map number_of_table ts) t.id.0) t ≡ put_table ts t
put_table_at [] t lt = absurd (omega arith)
put_table_at (x ∷ xs) t lt = by (x.id.0 == t.id.0) refl lt (put_table_at xs t)
  where
    by : (b : Bool) → (x.id.0 == t.id.0) ≡ b → (if b then 0 else suc (first_at (map number_of_table xs) t.id.0)) < length (x ∷ xs) → (first_at (map number_of_table xs) t.id.0 < length xs → set xs (first_at (map number_of_table xs) t.id.0) t ≡ put_table xs t)
        → set (x ∷ xs) (if b then 0 else suc (first_at (map number_of_table xs) t.id.0)) t ≡ (if b then t ∷ xs else x ∷ put_table xs t)
    by true is lt more = refl
    by false is lt more = ap (λ (l : List Table). x ∷ l) (more (omega (arith, lt)))

pub put_table_end : (ts : List Table) (t : Table) → length ts ≤ first_at (map number_of_table ts) t.id.0 → ts ++ t ∷ [] ≡ put_table ts t
put_table_end [] t le = refl
put_table_end (x ∷ xs) t le = by (x.id.0 == t.id.0) le (put_table_end xs t)
  where
    by : (b : Bool) → length (x ∷ xs) ≤ (if b then 0 else suc (first_at (map number_of_table xs) t.id.0)) → (length xs ≤ first_at (map number_of_table xs) t.id.0 → xs ++ t ∷ [] ≡ put_table xs t) → x ∷ (xs ++ t ∷ []) ≡ (if b then t ∷ xs else x ∷ put_table xs t)
    by true le more = absurd (omega (arith, le))
    by false le more = ap (λ (l : List Table). x ∷ l) (more (omega (arith, le)))

pub put_index_at : (is : List Index) (i : Index) → first_at (map number_of_index is) i.id.0 < length is → set is (first_at (map number_of_index is) i.id.0) i ≡ put_index is i
put_index_at [] i lt = absurd (omega arith)
put_index_at (x ∷ xs) i lt = by (x.id.0 == i.id.0) lt (put_index_at xs i)
  where
    by : (b : Bool) → (if b then 0 else suc (first_at (map number_of_index xs) i.id.0)) < length (x ∷ xs) → (first_at (map number_of_index xs) i.id.0 < length xs → set xs (first_at (map number_of_index xs) i.id.0) i ≡ put_index xs i)
        → set (x ∷ xs) (if b then 0 else suc (first_at (map number_of_index xs) i.id.0)) i ≡ (if b then i ∷ xs else x ∷ put_index xs i)
    by true lt more = refl
    by false lt more = ap (λ (l : List Index). x ∷ l) (more (omega (arith, lt)))

pub put_index_end : (is : List Index) (i : Index) → length is ≤ first_at (map number_of_index is) i.id.0 → is ++ i ∷ [] ≡ put_index is i
put_index_end [] i le = refl
put_index_end (x ∷ xs) i le = by (x.id.0 == i.id.0) le (put_index_end xs i)
  where
    by : (b : Bool) → length (x ∷ xs) ≤ (if b then 0 else suc (first_at (map number_of_index xs) i.id.0)) → (length xs ≤ first_at (map number_of_index xs) i.id.0 → xs ++ i ∷ [] ≡ put_index xs i) → x ∷ (xs ++ i ∷ []) ≡ (if b then i ∷ xs else x ∷ put_index xs i)
    by true le more = absurd (omega (arith, le))
    by false le more = ap (λ (l : List Index). x ∷ l) (more (omega (arith, le)))
