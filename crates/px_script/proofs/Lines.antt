-- The first line of a text.
use Rattle.std.proofs.Common.{◌≡◌, ◌≢◌, ℕ, suc, Bool, true, false, ◌<◌, ◌++◌, List, [], ◌∷◌, length, get_or, refl, ◌∙◌, ap, arith, Option, Some, None}
use Rattle.std.specs.Borrow.{Bor}
use Rattle.std.specs.Prelude.{unwrap_or, MatchOption}
use Rattle.std.proofs.lemmas.Bool.{eqb-true}
use Rattle.px_script.specs.Scripts.{is_feed, lines_of, onto_first}

fed-at : (b : ℕ) (front after : List ℕ) (v : Bool) → is_feed b ≡ v → b ≢ 10 → lines_of (front ++ 10 ∷ after) ≡ front ∷ lines_of after → lines_of (b ∷ (front ++ 10 ∷ after)) ≡ (b ∷ front) ∷ lines_of after
unfolding lines_of
fed-at b front after true e other rest = absurd (other (eqb-true b 10 e))
fed-at b front after false e other rest = rw e (ap (onto_first b) rest)

-- a line that ends in a line feed
pub line-fed : (front after : List ℕ) → ((i : ℕ) → i < length front → get_or front i 0 ≢ 10) → lines_of (front ++ 10 ∷ after) ≡ front ∷ lines_of after
unfolding lines_of
line-fed [] after none = refl
line-fed (b ∷ front) after none = fed-at b front after (is_feed b) refl (none 0 (omega arith)) (line-fed front after (λ i within. none (suc i) (omega (arith, within))))

unfed-at : (b : ℕ) (text : List ℕ) (v : Bool) → is_feed b ≡ v → b ≢ 10 → lines_of text ≡ text ∷ [] → lines_of (b ∷ text) ≡ (b ∷ text) ∷ []
unfolding lines_of
unfed-at b text true e other rest = absurd (other (eqb-true b 10 e))
unfed-at b text false e other rest = rw e (ap (onto_first b) rest)

one-byte : (b : ℕ) (v : Bool) → is_feed b ≡ v → b ≢ 10 → lines_of (b ∷ []) ≡ (b ∷ []) ∷ []
unfolding lines_of
one-byte b true e other = absurd (other (eqb-true b 10 e))
one-byte b false e other = rw e refl

-- a last line without a line feed
pub line-unfed : (text : List ℕ) → 0 < length text → ((i : ℕ) → i < length text → get_or text i 0 ≢ 10) → lines_of text ≡ text ∷ []
line-unfed [] some none = absurd (omega (arith, some))
line-unfed (b ∷ []) some none = one-byte b (is_feed b) refl (none 0 (omega arith))
line-unfed (b ∷ a ∷ text) some none = unfed-at b (a ∷ text) (is_feed b) refl (none 0 (omega arith)) (line-unfed (a ∷ text) (omega arith) (λ i within. none (suc i) (omega (arith, within))))

-- what `split_once` answers, or the whole text
pub line-split : (text : List ℕ) (r : Option (Bor (List ℕ) × Bor (List ℕ))) (x : Bor (List ℕ) × Bor (List ℕ)) (whole empty : Bor (List ℕ)) → 0 < length text → whole.now ≡ text → empty.now ≡ [] → x ≡ unwrap_or r (whole, empty)
    → MatchOption r ((i : ℕ) → i < length text → get_or text i 0 ≢ 10) (λ p. (text ≡ p.0.now ++ (10 ∷ p.1.now)) × ((i : ℕ) → i < length p.0.now → get_or p.0.now i 0 ≢ 10))
    → lines_of text ≡ x.0.now ∷ lines_of x.1.now
unfolding lines_of
line-split text None x whole empty some w e is none = rw (is, w, e) (line-unfed text some none)
line-split text (Some p) x whole empty some w e is parts = rw is (ap lines_of parts.0 ∙ line-fed p.0.now p.1.now parts.1)
