-- Rows column by column.
use Rattle.std.proofs.Common.{◌≡◌, ◌≢◌, ℕ, zero, suc, ◌<◌, ◌≤◌, ◌+◌, Bool, cond, Option, Some, None, List, [], ◌∷◌, length, map, take, set, get_or, refl, ap, sym, ◌∙◌, subst, inl, inr, arith}
use Rattle.std.specs.Prelude.{nat_eq, slice_set}
use Rattle.std.proofs.lemmas.Bool.{cases_eq, cases_lt, cond-true, cond-false, eq-eqb, ne_eqb, lt-ltb, le-ltb}
use Rattle.std.proofs.lemmas.List.{length-set}
use Rattle.px_cells.specs.Contents.{Contents}
use Rattle.px_cells.specs.Sight.{seen_at}
use Rattle.px_cells.specs.CellData.{CellData}
use Rattle.px_cells.specs.declared.kind.CellKind.TheVariants.{Put}
use Rattle.px_tables.specs.declared.table.KeyPlace.{KeyPlace}
use Rattle.px_tables.specs.declared.table.Table.{Table}
use Rattle.px_tables.specs.declared.table.TableColumn.{TableColumn}
use Rattle.px_rows.specs.Keys.{column_in, no_column}
use Rattle.px_rows.specs.Stored.{value_of_bytes}
use Rattle.px_values.specs.States.{with_values}
use Rattle.px_values.specs.declared.row.Value.{Value}
use Rattle.px_world.specs.World.{read_at}
use Rattle.px_rows.specs.Spelled.{RowForm, pick, overlay, decoded, column_at, row_spelling}
use Rattle.px_rows.specs.inner.Found.{IsSeen, first_of}
use Rattle.px_rows.proofs.Spelled.{set_overlay}

-- ---- one column more is laid over a row

same_first : (o : ℕ → Option Value) (n c : ℕ) → c ≢ n → first_of (n + 1) o c ≡ first_of n o c
same_first o n c e = ap (λ (b : Bool). cond b (o c) None) (elim (cases_lt c n) [
  | inl l ↦ lt-ltb c (n + 1) (omega arith) ∙ sym (lt-ltb c n l)
  | inr l ↦ le-ltb c (n + 1) (omega arith) ∙ sym (le-ltb c n l)
])

here_first : (o : ℕ → Option Value) (n : ℕ) → first_of (n + 1) o n ≡ o n
here_first o n = cond-true _ _ _ (lt-ltb n (n + 1) (omega arith))

not_first : (o : ℕ → Option Value) (n : ℕ) → first_of n o n ≡ None
not_first o n = cond-false _ _ _ (le-ltb n n (omega arith))

set_is : (o : ℕ → Option Value) (n : ℕ) (v : Value) → o n ≡ Some v → (c : ℕ) → first_of (n + 1) o c ≡ cond (nat_eq (0 + n) c) (Some v) (first_of n o c)
set_is o n v e c = elim (cases_eq c n) [
  | inl q ↦ subst (λ (x : ℕ). first_of (n + 1) o x ≡ cond (nat_eq (0 + n) x) (Some v) (first_of n o x)) (sym q) (here_first o n ∙ (e ∙ sym (cond-true _ _ _ (eq-eqb (0 + n) n (omega arith)))))
  | inr q ↦ same_first o n c q ∙ sym (cond-false _ _ _ (ne_eqb (0 + n) c (λ z. q (omega arith))))
]

pub seen_more : (o : ℕ → Option Value) (n : ℕ) (v : Value) (xs ys zs : List Value) → o n ≡ Some v → ys ≡ overlay (first_of n o) 0 xs → zs ≡ set ys n v → zs ≡ overlay (first_of (n + 1) o) 0 xs
seen_more o n v xs ys zs e q p =
    p ∙ (ap (λ (l : List Value). slice_set l n v) q
    ∙ (set_overlay (first_of n o) 0 n xs v
    ∙ ap (λ (f : ℕ → Option Value). overlay f 0 xs) (λ i c. sym (set_is o n v e c) i)))

pub seen_same : (o : ℕ → Option Value) (n : ℕ) (xs ys zs : List Value) → o n ≡ None → ys ≡ overlay (first_of n o) 0 xs → zs ≡ ys → zs ≡ overlay (first_of (n + 1) o) 0 xs
seen_same o n xs ys zs e q p = p ∙ (q ∙ ap (λ (f : ℕ → Option Value). overlay f 0 xs) (λ i c. same c i))
  where
    same : (c : ℕ) → first_of n o c ≡ first_of (n + 1) o c
    same c = elim (cases_eq c n) [
      | inl z ↦ subst (λ (x : ℕ). first_of n o x ≡ first_of (n + 1) o x) (sym z) (not_first o n ∙ (sym e ∙ sym (here_first o n)))
      | inr z ↦ sym (same_first o n c z)
    ]

none_first : (o : ℕ → Option Value) (i : ℕ) (xs : List Value) → overlay (first_of 0 o) i xs ≡ xs
unfolding overlay
none_first o i [] = refl
none_first o i (x ∷ xs) = (λ j. pick (cond (le-ltb i 0 (omega arith) j) (o i) None) x ∷ none_first o (suc i) xs j)

pub seen_first : (o : ℕ → Option Value) (xs : List Value) → xs ≡ overlay (first_of 0 o) 0 xs
seen_first o xs = sym (none_first o 0 xs)

all_first : (o : ℕ → Option Value) (n i : ℕ) (xs : List Value) → i + length xs ≤ n → overlay (first_of n o) i xs ≡ overlay o i xs
unfolding overlay
all_first o n i [] l = refl
all_first o n i (x ∷ xs) l = (λ j. pick (cond (lt-ltb i n (omega arith) j) (o i) None) x ∷ all_first o n (suc i) xs (omega arith) j)

pub seen_all : (o : ℕ → Option Value) (n : ℕ) (xs : List Value) → length xs ≤ n → overlay (first_of n o) 0 xs ≡ overlay o 0 xs
seen_all o n xs l = all_first o n 0 xs (omega arith)

pub overlay_length : (o : ℕ → Option Value) (i : ℕ) (xs : List Value) → length (overlay o i xs) ≡ length xs
unfolding overlay
overlay_length o i [] = refl
overlay_length o i (x ∷ xs) = ap suc (overlay_length o (suc i) xs)

-- ---- the value of a column that is seen

pub column_none : (f : RowForm) (g : Contents) (r : List Value) (p n q : ℕ) → q ≡ suc (suc n) → seen_at g (f.key_of r) q p ≡ None → column_at f g r p n ≡ None
column_none f g r p n q z e = ap (λ (o : Option ℕ). decoded f n (read_at (λ s. g (f.key_of r) (suc (suc n)) s Put) o)) (subst (λ (x : ℕ). seen_at g (f.key_of r) x p ≡ None) z e)

pub column_some : (f : RowForm) (g : Contents) (r : List Value) (p n q : ℕ) (c : CellData) → q ≡ suc (suc n) → IsSeen g (f.key_of r) q p c → column_at f g r p n ≡ Some (f.decode n c.value)
column_some f g r p n q c z h =
    let s : IsSeen g (f.key_of r) (suc (suc n)) p c = subst (λ (x : ℕ). IsSeen g (f.key_of r) x p c) z h in
    ap (λ (o : Option ℕ). decoded f n (read_at (λ s. g (f.key_of r) (suc (suc n)) s Put) o)) s.seen ∙ ap (decoded f n) s.value

-- ---- a row of which only the key is known

pub fresh_more : (key : List KeyPlace) (row xs : List Value) (i : ℕ) (d : KeyPlace) (v : Value) → i < length key → i < length row → v ≡ get_or row i v → set (with_values (map (λ p. p.column) (take i key)) (take i row) xs) (get_or key i d).column v ≡ with_values (map (λ p. p.column) (take (i + 1) key)) (take (i + 1) row) xs
fresh_more [] row xs i d v l m q = absurd (omega arith)
fresh_more (k ∷ key) [] xs i d v l m q = absurd (omega arith)
fresh_more (k ∷ key) (w ∷ row) xs zero d v l m q = (λ j. set xs k.column (q j))
fresh_more (k ∷ key) (w ∷ row) xs (suc i) d v l m q =
    let z : suc (i + 1) ≡ suc i + 1 = omega arith in
    fresh_more key row (slice_set xs k.column w) i d v (omega arith) (omega arith) q
    ∙ (λ j. with_values (map (λ p. p.column) (take (z j) (k ∷ key))) (take (z j) (w ∷ row)) xs)

pub fresh_length : (columns : List ℕ) (values xs : List Value) → length (with_values columns values xs) ≡ length xs
fresh_length [] values xs = refl
fresh_length (c ∷ columns) [] xs = refl
fresh_length (c ∷ columns) (v ∷ values) xs = fresh_length columns values (slice_set xs c v) ∙ length-set xs c v

-- ---- the bytes of a column are read by its type

get_or_any : {A : Type 0} (xs : List A) (i : ℕ) (d e : A) → i < length xs → get_or xs i d ≡ get_or xs i e
get_or_any [] i d e l = absurd (omega arith)
get_or_any (x ∷ xs) zero d e l = refl
get_or_any (x ∷ xs) (suc i) d e l = get_or_any xs i d e (omega arith)

pub column_is : (t : Table) (columns : List TableColumn) (n : ℕ) (d : TableColumn) (v : Value) (bytes other : List ℕ) → columns ≡ t.columns → n < length columns → v ≡ value_of_bytes (get_or columns n d).column_type bytes → bytes ≡ other → v ≡ (row_spelling t).decode n other
column_is t columns n d v bytes other e l q z =
    q ∙ ((λ i. value_of_bytes (get_or_any columns n d no_column l i).column_type (z i)) ∙ ap (λ (x : List TableColumn). value_of_bytes (column_in x n).column_type other) e)
