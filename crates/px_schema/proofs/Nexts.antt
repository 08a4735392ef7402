-- The least number above those of a table.
use Rattle.std.proofs.Common.{◌≡◌, ◌<◌, ◌+◌, ◌++◌, ◌∷◌, [], ℕ, zero, suc, List, length, get_or, take, map, refl, sym, ap, subst, ◌∙◌, arith}
use Rattle.std.specs.Prelude.{max}
use Rattle.std.specs.List.{AllByRecursion}
use Rattle.std.proofs.lemmas.List.{take_more}
use Rattle.px_tables.specs.declared.table.Table.{Table}
use Rattle.px_tables.specs.declared.table.TableRegion.{TableRegion}
use Rattle.px_schema.specs.Stands.{above, table_draws}

above_push : (n : ℕ) (ks : List ℕ) (k : ℕ) → above n (ks ++ k ∷ []) ≡ max (above n ks) (k + 1)
above_push n [] k = refl
above_push n (j ∷ ks) k = above_push (max n (j + 1)) ks k

map_push : (l : List TableRegion) (r : TableRegion) → map (λ r. r.number) (l ++ r ∷ []) ≡ map (λ r. r.number) l ++ r.number ∷ []
map_push [] r = refl
map_push (x ∷ l) r = ap (λ (m : List ℕ). x.number ∷ m) (map_push l r)

pub above_more : (n : ℕ) (rs : List TableRegion) (i : ℕ) (r : TableRegion) → i < length rs → r ≡ get_or rs i r → max (above n (map (λ r. r.number) (take i rs))) (r.number + 1) ≡ above n (map (λ r. r.number) (take (i + 1) rs))
above_more n rs i r lt is =
    sym (above_push n (map (λ r. r.number) (take i rs)) r.number) ∙ ap (above n) (sym (map_push (take i rs) r))
    ∙ ap (λ (l : List TableRegion). above n (map (λ r. r.number) l)) (ap (λ (x : TableRegion). take i rs ++ x ∷ []) is ∙ sym (take_more rs i r lt))

pub above_table : (n : ℕ) (t : Table) → max (above n (map (λ r. r.number) t.regions)) (t.id.0 + 1) ≡ above n (table_draws t)
above_table n t = sym (above_push n (map (λ r. r.number) t.regions) t.id.0)

all_at : (P : ℕ → Type 0) (rs : List TableRegion) (ks : List ℕ) (i : ℕ) (r : TableRegion) → i < length rs → AllByRecursion P (map (λ r. r.number) rs ++ ks) → P (get_or rs i r).number
all_at P [] ks i r lt all = absurd (omega arith)
all_at P (x ∷ rs) ks zero r lt all = all.0
all_at P (x ∷ rs) ks (suc i) r lt all = all_at P rs ks i r (omega arith) all.1

pub region_short : (t : Table) (i : ℕ) (r : TableRegion) → i < length t.regions → r ≡ get_or t.regions i r → AllByRecursion (λ k. k < 4294967295) (table_draws t) → r.number < 4294967295
region_short t i r lt is all = subst (λ (x : TableRegion). x.number < 4294967295) (sym is) (all_at (λ k. k < 4294967295) t.regions (t.id.0 ∷ []) i r lt all)

all_last : (P : ℕ → Type 0) (ks : List ℕ) (k : ℕ) → AllByRecursion P (ks ++ k ∷ []) → P k
all_last P [] k all = all.0
all_last P (j ∷ ks) k all = all_last P ks k all.1

pub table_short : (t : Table) → AllByRecursion (λ k. k < 4294967295) (table_draws t) → t.id.0 < 4294967295
table_short t all = all_last (λ k. k < 4294967295) (map (λ r. r.number) t.regions) t.id.0 all
