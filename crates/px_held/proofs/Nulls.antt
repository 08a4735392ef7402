-- NULL for one column more.
use Rattle.std.proofs.Common.{◌≡◌, ℕ, zero, suc, Bool, true, false, not, ◌+◌, ◌==◌, ◌||◌, ◌++◌, List, [], ◌∷◌, map, refl, sym, ◌∙◌, ap, arith, add-one}
use Rattle.std.specs.Prelude.{filter}
use Rattle.std.specs.List.{range_with_len}
use Rattle.std.proofs.lemmas.List.{map-append}
use Rattle.std.proofs.lemmas.List.Elements.{filter-append}
use Rattle.px_tables.specs.declared.table.KeyPlace.{KeyPlace}
use Rattle.px_held.specs.Merged.{is_in_key, is_of_key, null, null_outside}

same-key : (key : List KeyPlace) (c : ℕ) → is_in_key key c ≡ is_of_key (map (λ p. p.column) key) c
same-key [] c = refl
same-key (p ∷ key) c = ap (λ b. (p.column == c) || b) (same-key key c)

range-more : (a n j : ℕ) → a + n ≡ j → range_with_len a (suc n) ≡ range_with_len a n ++ j ∷ []
range-more a zero j e = let q : a ≡ j = omega (arith, e) in ap (λ i. i ∷ []) q
range-more a (suc n) j e = ap (λ l. a ∷ l) (range-more (a + 1) n j (omega (arith, e)))

one : (key : List KeyPlace) (c : ℕ) (b : Bool) → is_in_key key c ≡ b → map null (filter (λ i. not (is_of_key (map (λ p. p.column) key) i)) (c ∷ [])) ≡ null_outside key c
one key c true e = let q : is_of_key (map (λ p. p.column) key) c ≡ true = sym (same-key key c) ∙ e in rw (q, e) refl
one key c false e = let q : is_of_key (map (λ p. p.column) key) c ≡ false = sym (same-key key c) ∙ e in rw (q, e) refl

pub nulls-more : (key : List KeyPlace) (n : ℕ) → map null (filter (λ i. not (is_of_key (map (λ p. p.column) key) i)) (range_with_len 0 (n + 1)))
    ≡ map null (filter (λ i. not (is_of_key (map (λ p. p.column) key) i)) (range_with_len 0 n)) ++ null_outside key n
nulls-more key n =
    let p : ℕ → Bool = λ i. not (is_of_key (map (λ p. p.column) key) i) in
    ap (λ m. map null (filter p (range_with_len 0 m))) (add-one n)
    ∙ (ap (λ l. map null (filter p l)) (range-more 0 n n (omega arith))
    ∙ (ap (map null) (filter-append p (range_with_len 0 n) (n ∷ []))
    ∙ (map-append null (filter p (range_with_len 0 n)) (filter p (n ∷ []))
    ∙ ap (λ l. map null (filter p (range_with_len 0 n)) ++ l) (one key n (is_in_key key n) refl))))
