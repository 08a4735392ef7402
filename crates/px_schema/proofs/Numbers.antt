-- The next number.
use Rattle.std.proofs.Common.{◌≡◌, ◌<◌, ◌≤◌, ◌+◌, ◌++◌, ◌∷◌, [], ℕ, Bool, true, false, not, cond, eqb, List, length, refl, sym, ap, subst, ◌∙◌, arith}
use Rattle.std.specs.Prelude.{max, nat_le, filter}
use Rattle.std.specs.List.{AllByRecursion}
use Rattle.std.proofs.lemmas.Bool.{leb-false}
use Rattle.px_tables.specs.declared.index.Index.{Index}
use Rattle.px_tables.specs.declared.table.Table.{Table}
use Rattle.px_schema.specs.declared.item.CatalogItem.{CatalogItem}
use Rattle.px_schema.specs.declared.item.CatalogItem.TheVariants.{IndexGone, IndexIs, TableGone, TableIs}
use Rattle.px_schema.specs.declared.standing.Standing.{Standing}
use Rattle.px_schema.specs.Stands.{AreConsecutive, DrawInOrder, IsBelowNext, above, after_all, drawn_by, draws_all, index_draws, newly_drawn, put_index, put_table, stands_after, table_draws}

pub above_up : (n : ℕ) (ks : List ℕ) → n ≤ above n ks
above_up n [] = omega arith
above_up n (k ∷ ks) = let more = above_up (max n (k + 1)) ks in omega arith

pub above_all : (n : ℕ) (ks : List ℕ) → AllByRecursion (λ k. k < above n ks) ks
above_all n [] = tt
above_all n (k ∷ ks) = ((let more = above_up (max n (k + 1)) ks in omega arith), above_all (max n (k + 1)) ks)

pub below_more : (n m : ℕ) → n ≤ m → (ks : List ℕ) → AllByRecursion (λ k. k < n) ks → AllByRecursion (λ k. k < m) ks
below_more n m le [] all = tt
below_more n m le (k ∷ ks) all = (omega (arith, all.0), below_more n m le ks all.1)

tables_more : (n m : ℕ) → n ≤ m → (ts : List Table) → AllByRecursion (λ t. AllByRecursion (λ k. k < n) (table_draws t)) ts → AllByRecursion (λ t. AllByRecursion (λ k. k < m) (table_draws t)) ts
tables_more n m le [] all = tt
tables_more n m le (t ∷ ts) all = (below_more n m le (table_draws t) all.0, tables_more n m le ts all.1)

indexes_more : (n m : ℕ) → n ≤ m → (is : List Index) → AllByRecursion (λ i. AllByRecursion (λ k. k < n) (index_draws i)) is → AllByRecursion (λ i. AllByRecursion (λ k. k < m) (index_draws i)) is
indexes_more n m le [] all = tt
indexes_more n m le (i ∷ is) all = (below_more n m le (index_draws i) all.0, indexes_more n m le is all.1)

pub put_all_tables : (P : Table → Type 0) (ts : List Table) (t : Table) → AllByRecursion P ts → P t → AllByRecursion P (put_table ts t)
put_all_tables P [] t all is = (is, tt)
put_all_tables P (x ∷ xs) t all is = elim (eqb x.id.0 t.id.0) as (λ (b : Bool). AllByRecursion P (cond b (t ∷ xs) (x ∷ put_table xs t))) [ true ↦ (is, all.1) | false ↦ (all.0, put_all_tables P xs t all.1 is) ]

pub put_all_indexes : (P : Index → Type 0) (xs : List Index) (i : Index) → AllByRecursion P xs → P i → AllByRecursion P (put_index xs i)
put_all_indexes P [] i all is = (is, tt)
put_all_indexes P (x ∷ xs) i all is = elim (eqb x.id.0 i.id.0) as (λ (b : Bool). AllByRecursion P (cond b (i ∷ xs) (x ∷ put_index xs i))) [ true ↦ (is, all.1) | false ↦ (all.0, put_all_indexes P xs i all.1 is) ]

pub filter_all : {A : Type 0} (P : A → Type 0) (keep : A → Bool) (xs : List A) → AllByRecursion P xs → AllByRecursion P (filter keep xs)
filter_all P keep [] all = tt
filter_all P keep (x ∷ xs) all = elim (keep x) as (λ (b : Bool). AllByRecursion P (cond b (x ∷ filter keep xs) (filter keep xs))) [ true ↦ (all.0, filter_all P keep xs all.1) | false ↦ filter_all P keep xs all.1 ]

-- the next number doesn't fall
pub next_up : (s : Standing) (d : CatalogItem) → s.next ≤ (stands_after s d).next
next_up s (TableIs t) = above_up s.next (table_draws t)
next_up s (IndexIs i) = above_up s.next (index_draws i)
next_up s (TableGone n) = omega arith
next_up s (IndexGone n) = omega arith

pub next_up_all : (s : Standing) (ds : List CatalogItem) → s.next ≤ (after_all s ds).next
next_up_all s [] = omega arith
next_up_all s (d ∷ ds) = let one = next_up s d in let more = next_up_all (stands_after s d) ds in omega arith

-- and stays above all
pub below_next : (s : Standing) (d : CatalogItem) → IsBelowNext s → IsBelowNext (stands_after s d)
below_next s (TableIs t) is = record {
  tables = put_all_tables (λ t'. AllByRecursion (λ k. k < above s.next (table_draws t)) (table_draws t')) s.tables t
      (tables_more s.next (above s.next (table_draws t)) (above_up s.next (table_draws t)) s.tables is.tables) (above_all s.next (table_draws t));
  indexes = filter_all (λ i. AllByRecursion (λ k. k < above s.next (table_draws t)) (index_draws i)) (λ i. not (eqb i.table.0 t.id.0)) s.indexes
      (indexes_more s.next (above s.next (table_draws t)) (above_up s.next (table_draws t)) s.indexes is.indexes);
}
below_next s (IndexIs i) is = record {
  tables = tables_more s.next (above s.next (index_draws i)) (above_up s.next (index_draws i)) s.tables is.tables;
  indexes = put_all_indexes (λ i'. AllByRecursion (λ k. k < above s.next (index_draws i)) (index_draws i')) s.indexes i
      (indexes_more s.next (above s.next (index_draws i)) (above_up s.next (index_draws i)) s.indexes is.indexes) (above_all s.next (index_draws i));
}
below_next s (TableGone n) is = record {
  tables = filter_all (λ t. AllByRecursion (λ k. k < s.next) (table_draws t)) (λ t. not (eqb t.id.0 n.0)) s.tables is.tables;
  indexes = filter_all (λ i. AllByRecursion (λ k. k < s.next) (index_draws i)) (λ i. not (eqb i.table.0 n.0)) s.indexes is.indexes;
}
below_next s (IndexGone n) is = record {
  tables = is.tables;
  indexes = filter_all (λ i. AllByRecursion (λ k. k < s.next) (index_draws i)) (λ i. not (eqb i.id.0 n.0)) s.indexes is.indexes;
}

-- ---- numbers are drawn in order

leb_max : (n m k : ℕ) → n ≤ m → nat_le n k ≡ false → max m (k + 1) ≡ m
leb_max n m k le past = let lt : k < n = leb-false n k past in omega arith

-- numbers that were drawn before don't raise the next one
above_filter : (n m : ℕ) → n ≤ m → (ks : List ℕ) → above m (filter (λ k. nat_le n k) ks) ≡ above m ks
above_filter n m le [] = refl
above_filter n m le (k ∷ ks) = go (nat_le n k) refl (above_filter n (max m (k + 1)) (omega arith) ks) (above_filter n m le ks)
  where
    go : (b : Bool) → nat_le n k ≡ b → above (max m (k + 1)) (filter (λ k. nat_le n k) ks) ≡ above (max m (k + 1)) ks → above m (filter (λ k. nat_le n k) ks) ≡ above m ks
        → above m (cond b (k ∷ filter (λ k. nat_le n k) ks) (filter (λ k. nat_le n k) ks)) ≡ above (max m (k + 1)) ks
    go true is kept past = kept
    go false is kept past = past ∙ ap (λ (j : ℕ). above j ks) (sym (leb_max n m k le is))

drawn_above : (n : ℕ) (ks : List ℕ) → AreConsecutive n ks → above n ks ≡ n + length ks
drawn_above n [] is = omega arith
drawn_above n (k ∷ ks) is =
    let here : max n (k + 1) ≡ n + 1 = omega (arith, is.0) in
    ap (λ (j : ℕ). above j ks) here ∙ drawn_above (n + 1) ks is.1 ∙ omega arith

drawn_then : (n : ℕ) (ks ms : List ℕ) → AreConsecutive n ks → AreConsecutive (n + length ks) ms → AreConsecutive n (ks ++ ms)
drawn_then n [] ms is more = subst (λ (j : ℕ). AreConsecutive j ms) (let e : n + 0 ≡ n = omega arith in e) more
drawn_then n (k ∷ ks) ms is more = (is.0, drawn_then (n + 1) ks ms is.1 (subst (λ (j : ℕ). AreConsecutive j ms) (let e : n + length (k ∷ ks) ≡ n + 1 + length ks = omega arith in e) more))

next_is : (s : Standing) (d : CatalogItem) → (stands_after s d).next ≡ above s.next (drawn_by d)
next_is s (TableIs t) = refl
next_is s (IndexIs i) = refl
next_is s (TableGone n) = refl
next_is s (IndexGone n) = refl

pub next_drawn : (s : Standing) (d : CatalogItem) → AreConsecutive s.next (newly_drawn s d) → (stands_after s d).next ≡ s.next + length (newly_drawn s d)
next_drawn s d is = next_is s d ∙ sym (above_filter s.next s.next (omega arith) (drawn_by d)) ∙ drawn_above s.next (newly_drawn s d) is

pub drawn_in_order : (s : Standing) (ds : List CatalogItem) → DrawInOrder s ds → AreConsecutive s.next (draws_all s ds)
drawn_in_order s [] all = tt
drawn_in_order s (d ∷ ds) all =
    drawn_then s.next (newly_drawn s d) (draws_all (stands_after s d) ds) all.0 (subst (λ (j : ℕ). AreConsecutive j (draws_all (stands_after s d) ds)) (next_drawn s d all.0) (drawn_in_order (stands_after s d) ds all.1))

-- so each is drawn once
pub drawn_later : (n : ℕ) (ks : List ℕ) → AreConsecutive n ks → (m : ℕ) → m < n → AllByRecursion (λ k. m < k) ks
drawn_later n [] is m lt = tt
drawn_later n (k ∷ ks) is m lt = (omega (arith, is.0), drawn_later (n + 1) ks is.1 m (omega arith))
