-- What stands stays right.
use Rattle.std.proofs.Common.{◌≡◌, ◌<◌, ◌≤◌, ◌+◌, ◌∷◌, [], ℕ, Bool, true, false, not, cond, List, length, map, refl, sym, ap, subst, ◌∙◌, arith}
use Rattle.std.specs.Prelude.{◌||◌, ◌==◌, filter, if◌then◌else◌, max}
use Rattle.std.specs.List.{AllByRecursion, list_any}
use Rattle.std.proofs.lemmas.Bool.{eq-eqb, eqb-false, eqb-true, ne_eqb}
use Rattle.px_tables.specs.declared.index.Index.{Index}
use Rattle.px_tables.specs.declared.table.Table.{Table}
use Rattle.px_schema.specs.declared.item.CatalogItem.{CatalogItem}
use Rattle.px_schema.specs.declared.item.CatalogItem.TheVariants.{IndexGone, IndexIs, TableGone, TableIs}
use Rattle.px_schema.specs.declared.standing.Standing.{Standing}
use Rattle.px_pieces.specs.Pieces.{as_value, followed_by}
use Rattle.px_pieces.specs.Chains.{listed_right}
use Rattle.px_pieces.specs.Numbers.{begins_one, fits_number, number_piece, number_short, one_of_member, one_of_piece, one_of_right}
use Rattle.px_schema.specs.Format.{called, column_count, greatest_count, index, most_indexes, no_index, no_table, number_of_table, standing_piece, table}
use Rattle.px_schema.specs.Records.{IsRightCatalogItem}
use Rattle.px_schema.specs.Stands.{above, index_draws, of_other_tables, other_tables, put_index, put_table, stands_after, table_draws}
use Rattle.px_schema.proofs.Numbers.{filter_all, put_all_indexes, put_all_tables}
use Rattle.px_schema.proofs.Rights.{index_numbers, standing_indexes, standing_next, standing_tables, table_numbers}

-- ---- what a snapshot needs

no_index_right : (i : Index) → (index []).right i → ⊥
unfolding index as_value followed_by
no_index_right i right = let is = one_of_member 3 [] i.table.0 right.0.1.0 in cc

indexes_few : (ts : List Table) (l : List Index) → AllByRecursion (index ts).right l → length l ≤ greatest_count → length l ≤ most_indexes ts
indexes_few [] [] all few = omega arith
indexes_few [] (i ∷ l) all few = absurd (no_index_right i all.0)
indexes_few (t ∷ ts) l all few = few

standing_right : (s : Standing) → s.next ≤ 4294967295 → length s.tables ≤ greatest_count → AllByRecursion table.right s.tables → length s.indexes ≤ greatest_count → AllByRecursion (index s.tables).right s.indexes → standing_piece.right s
unfolding standing_piece as_value followed_by
standing_right s next few_tables tables few_indexes indexes = (
  (
    fits_number 4 4294967295 s.next (omega arith) next,
    (
      listed_right no_table table (number_piece 2 greatest_count) s.tables (fits_number 2 greatest_count (length s.tables) (omega arith) few_tables) tables,
      listed_right no_index (index s.tables) (number_piece 2 (most_indexes s.tables)) s.indexes (fits_number 2 (most_indexes s.tables) (length s.indexes) (omega arith) (indexes_few s.tables s.indexes indexes few_indexes)) indexes,
    ),
  ),
  refl,
)

above_most : (n m : ℕ) (ks : List ℕ) → n ≤ m → AllByRecursion (λ k. k < m) ks → above n ks ≤ m
above_most n m [] le all = le
above_most n m (k ∷ ks) le all = above_most (max n (k + 1)) m ks (omega (arith, all.0)) all.1

put_table_long : (ts : List Table) (t : Table) → length (put_table ts t) ≤ length ts + 1
put_table_long [] t = omega arith
put_table_long (x ∷ xs) t = elim (x.id.0 == t.id.0) as (λ (b : Bool). length (cond b (t ∷ xs) (x ∷ put_table xs t)) ≤ length (x ∷ xs) + 1) [ true ↦ omega arith | false ↦ let more = put_table_long xs t in omega (arith, more) ]

put_index_long : (is : List Index) (i : Index) → length (put_index is i) ≤ length is + 1
put_index_long [] i = omega arith
put_index_long (x ∷ xs) i = elim (x.id.0 == i.id.0) as (λ (b : Bool). length (cond b (i ∷ xs) (x ∷ put_index xs i)) ≤ length (x ∷ xs) + 1) [ true ↦ omega arith | false ↦ let more = put_index_long xs i in omega (arith, more) ]

filter_long : {A : Type 0} (keep : A → Bool) (l : List A) → length (filter keep l) ≤ length l
filter_long keep [] = omega arith
filter_long keep (x ∷ l) = elim (keep x) as (λ (b : Bool). length (cond b (x ∷ filter keep l) (filter keep l)) ≤ length (x ∷ l)) [ true ↦ let more = filter_long keep l in omega (arith, more) | false ↦ let more = filter_long keep l in omega (arith, more) ]

filter_moves : {A : Type 0} (P Q : A → Type 0) (keep : A → Bool) → ((x : A) → keep x ≡ true → P x → Q x) → (l : List A) → AllByRecursion P l → AllByRecursion Q (filter keep l)
filter_moves P Q keep f [] all = tt
filter_moves {A} P Q keep f (x ∷ l) all = by (keep x) refl (filter_moves P Q keep f l all.1)
  where
    by : (b : Bool) → keep x ≡ b → AllByRecursion Q (filter keep l) → AllByRecursion Q (cond b (x ∷ filter keep l) (filter keep l))
    by true is more = (f x is all.0, more)
    by false is more = more

-- ---- an index of a table that stands as before

Has : ℕ → List Table → Type 0
Has n ts = list_any (λ m. m == n) (map number_of_table ts) ≡ true

index_moves : (ts ts' : List Table) (i : Index) → (index ts).right i → (Has i.table.0 ts → Has i.table.0 ts') → column_count ts' i.table.0 ≡ column_count ts i.table.0 → (index ts').right i
unfolding index as_value followed_by Has one_of_piece
index_moves ts ts' i right has wide = (
  (
    right.0.0,
    (
      one_of_right 4 (map number_of_table ts') i.table.0 (number_short (begins_one (map number_of_table ts)) 4 i.table.0 right.0.1.0) (has (one_of_member 3 (map number_of_table ts) i.table.0 right.0.1.0)),
      subst (λ (n : ℕ). (called n).right (i.name, (i.state, (i.birth, (i.region, (i.parts, i.included)))))) (sym wide) right.0.1.1,
    ),
  ),
  refl,
)

any_true : (t u : Bool) → u ≡ true → (t || u) ≡ true
any_true true u is = refl
any_true false u is = is

put_has : (ts : List Table) (t : Table) (n : ℕ) → Has n ts → Has n (put_table ts t)
unfolding Has
put_has [] t n is = absurd cc
put_has (x ∷ xs) t n is = by (x.id.0 == t.id.0) refl is (put_has xs t n)
  where
    same : (b : Bool) → (x.id.0 == n) ≡ b → x.id.0 ≡ t.id.0 → (b || list_any (λ m. m == n) (map number_of_table xs)) ≡ true → ((t.id.0 == n) || list_any (λ m. m == n) (map number_of_table xs)) ≡ true
    same true here e is = ap (λ (b : Bool). b || list_any (λ m. m == n) (map number_of_table xs)) (eq-eqb t.id.0 n (sym e ∙ eqb-true x.id.0 n here))
    same false here e is = any_true (t.id.0 == n) (list_any (λ m. m == n) (map number_of_table xs)) is

    kept : (b : Bool) → (b || list_any (λ m. m == n) (map number_of_table xs)) ≡ true → (list_any (λ m. m == n) (map number_of_table xs) ≡ true → list_any (λ m. m == n) (map number_of_table (put_table xs t)) ≡ true)
        → (b || list_any (λ m. m == n) (map number_of_table (put_table xs t))) ≡ true
    kept true is more = refl
    kept false is more = more is

    by : (b : Bool) → (x.id.0 == t.id.0) ≡ b → ((x.id.0 == n) || list_any (λ m. m == n) (map number_of_table xs)) ≡ true → (list_any (λ m. m == n) (map number_of_table xs) ≡ true → list_any (λ m. m == n) (map number_of_table (put_table xs t)) ≡ true)
        → list_any (λ m. m == n) (map number_of_table (if b then t ∷ xs else x ∷ put_table xs t)) ≡ true
    by true e is more = same (x.id.0 == n) refl (eqb-true x.id.0 t.id.0 e) is
    by false e is more = kept (x.id.0 == n) is more

put_width : (ts : List Table) (t : Table) (n : ℕ) → (n ≡ t.id.0 → ⊥) → column_count (put_table ts t) n ≡ column_count ts n
put_width [] t n other = ap (λ (b : Bool). if b then length t.columns else 0) (ne_eqb t.id.0 n (λ e. other (sym e)))
put_width (x ∷ xs) t n other = by (x.id.0 == t.id.0) refl (put_width xs t n other)
  where
    by : (b : Bool) → (x.id.0 == t.id.0) ≡ b → column_count (put_table xs t) n ≡ column_count xs n → column_count (if b then t ∷ xs else x ∷ put_table xs t) n ≡ (if x.id.0 == n then length x.columns else column_count xs n)
    by true e more =
        ap (λ (b : Bool). if b then length t.columns else column_count xs n) (ne_eqb t.id.0 n (λ e. other (sym e)))
        ∙ sym (ap (λ (b : Bool). if b then length x.columns else column_count xs n) (ne_eqb x.id.0 n (λ is. other (sym is ∙ eqb-true x.id.0 t.id.0 e))))
    by false e more = ap (λ (w : ℕ). if x.id.0 == n then length x.columns else w) more

others_has : (ts : List Table) (m n : ℕ) → (n ≡ m → ⊥) → Has n ts → Has n (other_tables m ts)
unfolding Has
others_has [] m n other is = is
others_has (x ∷ xs) m n other is = by (x.id.0 == m) refl is (others_has xs m n other)
  where
    at : (b : Bool) → (b || list_any (λ m. m == n) (map number_of_table xs)) ≡ true → (list_any (λ m. m == n) (map number_of_table xs) ≡ true → list_any (λ m. m == n) (map number_of_table (other_tables m xs)) ≡ true)
        → (b || list_any (λ m. m == n) (map number_of_table (other_tables m xs))) ≡ true
    at true is more = refl
    at false is more = more is

    by : (b : Bool) → (x.id.0 == m) ≡ b → ((x.id.0 == n) || list_any (λ m. m == n) (map number_of_table xs)) ≡ true → (list_any (λ m. m == n) (map number_of_table xs) ≡ true → list_any (λ m. m == n) (map number_of_table (other_tables m xs)) ≡ true)
        → list_any (λ m. m == n) (map number_of_table (cond (not b) (x ∷ other_tables m xs) (other_tables m xs))) ≡ true
    by true e is more = more (let not-here : (x.id.0 == n) ≡ false = ne_eqb x.id.0 n (λ here. other (sym here ∙ eqb-true x.id.0 m e)) in ap (λ (b : Bool). b || list_any (λ m. m == n) (map number_of_table xs)) (sym not-here) ∙ is)
    by false e is more = at (x.id.0 == n) is more

others_width : (ts : List Table) (m n : ℕ) → (n ≡ m → ⊥) → column_count (other_tables m ts) n ≡ column_count ts n
others_width [] m n other = refl
others_width (x ∷ xs) m n other = by (x.id.0 == m) refl (others_width xs m n other)
  where
    by : (b : Bool) → (x.id.0 == m) ≡ b → column_count (other_tables m xs) n ≡ column_count xs n → column_count (cond (not b) (x ∷ other_tables m xs) (other_tables m xs)) n ≡ (if x.id.0 == n then length x.columns else column_count xs n)
    by true e more = more ∙ sym (ap (λ (b : Bool). if b then length x.columns else column_count xs n) (ne_eqb x.id.0 n (λ is. other (sym is ∙ eqb-true x.id.0 m e))))
    by false e more = ap (λ (w : ℕ). if x.id.0 == n then length x.columns else w) more

not_true : (b : Bool) → not b ≡ true → b ≡ false
not_true true is = absurd cc
not_true false is = refl

of_others : (ts ts' : List Table) (m : ℕ) (l : List Index) → ((n : ℕ) → (n ≡ m → ⊥) → Has n ts → Has n ts') → ((n : ℕ) → (n ≡ m → ⊥) → column_count ts' n ≡ column_count ts n) → AllByRecursion (index ts).right l → AllByRecursion (index ts').right (of_other_tables m l)
of_others ts ts' m l has wide all = filter_moves (index ts).right (index ts').right (λ i. not (i.table.0 == m))
    (λ i keep right. let other : i.table.0 ≡ m → ⊥ = eqb-false i.table.0 m (not_true (i.table.0 == m) keep) in index_moves ts ts' i right (has i.table.0 other) (wide i.table.0 other)) l all

-- ---- so what stands after a right definition is right

pub after_right : (s : Standing) (d : CatalogItem) → standing_piece.right s → IsRightCatalogItem s d → standing_piece.right (stands_after s d)
after_right s (TableIs t) right is =
    let ts = standing_tables s right in
    let xs = standing_indexes s right in
    let long = put_table_long s.tables t in
    let few = filter_long (λ (i : Index). not (i.table.0 == t.id.0)) s.indexes in
    standing_right (stands_after s (TableIs t)) (above_most s.next 4294967295 (table_draws t) (standing_next s right) (table_numbers t is.0)) (omega (arith, long, is.1)) (put_all_tables table.right s.tables t ts.1 is.0)
    (omega (arith, few, xs.0)) (of_others s.tables (put_table s.tables t) t.id.0 s.indexes (λ n other has. put_has s.tables t n has) (λ n other. put_width s.tables t n other) xs.1)
after_right s (IndexIs i) right is =
    let ts = standing_tables s right in
    let xs = standing_indexes s right in
    let long = put_index_long s.indexes i in
    standing_right (stands_after s (IndexIs i)) (above_most s.next 4294967295 (index_draws i) (standing_next s right) (index_numbers s.tables i is.0)) ts.0 ts.1 (omega (arith, long, is.1)) (put_all_indexes (index s.tables).right s.indexes i xs.1 is.0)
after_right s (TableGone n) right is =
    let ts = standing_tables s right in
    let xs = standing_indexes s right in
    let fewer = filter_long (λ (t : Table). not (t.id.0 == n.0)) s.tables in
    let few = filter_long (λ (i : Index). not (i.table.0 == n.0)) s.indexes in
    standing_right (stands_after s (TableGone n)) (standing_next s right) (omega (arith, fewer, ts.0)) (filter_all table.right (λ t. not (t.id.0 == n.0)) s.tables ts.1) (omega (arith, few, xs.0))
    (of_others s.tables (other_tables n.0 s.tables) n.0 s.indexes (λ m other has. others_has s.tables n.0 m other has) (λ m other. others_width s.tables n.0 m other) xs.1)
after_right s (IndexGone n) right is =
    let ts = standing_tables s right in
    let xs = standing_indexes s right in
    let few = filter_long (λ (i : Index). not (i.id.0 == n.0)) s.indexes in
    standing_right (stands_after s (IndexGone n)) (standing_next s right) ts.0 ts.1 (omega (arith, few, xs.0)) (filter_all (index s.tables).right (λ i. not (i.id.0 == n.0)) s.indexes xs.1)
