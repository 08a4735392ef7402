-- Rows that are the same, changes that name a row, and the flags of a batch that another meets.
use Rattle.std.proofs.Common.{◌≡◌, ℕ, zero, suc, ◌<◌, Bool, true, false, not, ◌||◌, ◌==◌, length, get_or, List, [], ◌∷◌, refl, ap, sym, ◌∙◌, arith, inl, inr}
use Rattle.std.specs.Ordering.{is_eq, ordering_index}
use Rattle.std.specs.declared.cmp.Ordering.{Ordering}
use Rattle.std.specs.declared.cmp.Ordering.TheVariants.{Less, Equal, Greater}
use Rattle.std.proofs.lemmas.Bool.{cases_Bool, false≢true, true≢false, both_ways}
use Rattle.std.proofs.lemmas.List.{ext_get_or}
use Rattle.px_values.specs.declared.row.Value.{Value}
use Rattle.px_values.specs.declared.row.Value.TheVariants.{Null}
use Rattle.px_values.specs.declared.change.Change.{Change}
use Rattle.px_values.specs.declared.change.What.TheVariants.{Gone}
use Rattle.px_values.proofs.Equal.{row_order-Decides, value_order-Decides}
use Rattle.px_values.specs.Order.{row_order, value_order}
use Rattle.px_trail.specs.Batches.{has, rows_of}
use Rattle.px_openbatches.specs.Pending.{meet_flags}

pub equal_then : (o : Ordering) → not (ordering_index o == 1) ≡ false → is_eq o ≡ true
equal_then Less h = absurd (true≢false h)
equal_then Equal h = refl
equal_then Greater h = absurd (true≢false h)

pub differ_then : (o : Ordering) → not (ordering_index o == 1) ≡ true → is_eq o ≡ false
differ_then Less h = refl
differ_then Equal h = absurd (false≢true h)
differ_then Greater h = refl

pub rows_differ : (a b : List Value) → (a ≡ b → ⊥) → false ≡ is_eq (row_order a b)
rows_differ a b n = elim (cases_Bool (is_eq (row_order a b))) [ inl e ↦ absurd (n ((row_order-Decides a b).0 e)) | inr e ↦ sym e ]

pub rows_all : (a b : List Value) → length a ≡ length b → ((k : ℕ) → k < length a → get_or a k Null ≡ get_or b k Null) → true ≡ is_eq (row_order a b)
rows_all a b n e = sym ((row_order-Decides a b).1 (ext_get_or Null a b n e))

pub values_differ : (a b : List Value) (i : ℕ) → is_eq (value_order (get_or a i Null) (get_or b i Null)) ≡ false → a ≡ b → ⊥
values_differ a b i e q = both_ways _ e ((value_order-Decides (get_or a i Null) (get_or b i Null)).1 (ap (λ (l : List Value). get_or l i Null) q))

abbrev pub no_change : Change
no_change = record { row = []; what = Gone }

pub none_named : (r : List Value) (cs : List Change) → ((k : ℕ) → k < length cs → is_eq (row_order (get_or cs k no_change).row r) ≡ false) → has (rows_of cs) r ≡ false
unfolding has
none_named r [] n = refl
none_named r (c ∷ cs) n = (let a = n 0 (omega arith) in let z = none_named r cs (λ k l. n (suc k) (omega arith)) in rw (a, z) refl)

pub one_named : (r : List Value) (cs : List Change) (k : ℕ) → k < length cs → is_eq (row_order (get_or cs k no_change).row r) ≡ true → has (rows_of cs) r ≡ true
unfolding has
one_named r [] k l e = absurd (omega arith)
one_named r (c ∷ cs) zero l e = rw e refl
one_named r (c ∷ cs) (suc k) l e = (let z = one_named r cs k (omega arith) e in rw z (or_true (is_eq (row_order c.row r))))
  where
    or_true : (v : Bool) → (v || true) ≡ true
    or_true true = refl
    or_true false = refl

pub meet_length : (others : List (List Value)) (vs : List Bool) (rows : List (List Value)) → length (meet_flags others vs rows) ≡ length vs
unfolding meet_flags
meet_length others [] rows = refl
meet_length others (v ∷ vs) [] = refl
meet_length others (v ∷ vs) (r ∷ rows) = ap suc (meet_length others vs rows)

meet_at : (others : List (List Value)) (vs : List Bool) (cs : List Change) (k : ℕ) → length vs ≡ length cs → k < length vs → get_or (meet_flags others vs (rows_of cs)) k false ≡ (get_or vs k false || has others (get_or cs k no_change).row)
unfolding meet_flags
meet_at others [] cs k n l = absurd (omega arith)
meet_at others (v ∷ vs) [] k n l = absurd (omega arith)
meet_at others (v ∷ vs) (c ∷ cs) zero n l = refl
meet_at others (v ∷ vs) (c ∷ cs) (suc k) n l = meet_at others vs cs k (omega arith) (omega arith)

pub meets_all : (others : List (List Value)) (vs vs' : List Bool) (cs : List Change) → length vs ≡ length cs → length vs' ≡ length vs → ((k : ℕ) → k < length vs → get_or vs' k false ≡ (get_or vs k false || has others (get_or cs k no_change).row)) → vs' ≡ meet_flags others vs (rows_of cs)
meets_all others vs vs' cs n m e = ext_get_or false vs' (meet_flags others vs (rows_of cs)) (m ∙ sym (meet_length others vs (rows_of cs))) (λ k l. e k (omega arith) ∙ sym (meet_at others vs cs k n (omega arith)))
