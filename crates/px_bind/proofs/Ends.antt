-- Texts without their first or their last byte.
use Rattle.std.proofs.Common.{◌≡◌, ◌≢◌, ℕ, Bool, true, false, List, [], ◌∷◌, ◌++◌, Option, Some, None, MatchOption, refl, sym, ap, ◌∙◌, nat_eq, eq-eqb, if◌then◌else◌}
use Rattle.std.proofs.lemmas.Bool.Decides.{Decides-eqb}
use Rattle.std.specs.Option.{option_copied, option_map}
use denote.Ref.{Bor}
use Rattle.px_bind.specs.Hints.{before, behind}

same_byte : (b c : ℕ) → nat_eq b c ≡ true → b ≡ c
same_byte b c e = (Decides-eqb b c).0 e

pub behind_first : (c : ℕ) (text : List ℕ) → behind c (c ∷ text) ≡ Some text
behind_first c text = ap (λ (t : Bool). if t then Some text else None) (eq-eqb c c refl)

behind_none : (c : ℕ) (text : List ℕ) → ((rest : List ℕ) → text ≢ c ∷ rest) → behind c text ≡ None
behind_none c [] lacks = refl
behind_none c (b ∷ text) lacks = elim (nat_eq b c) as (λ t. nat_eq b c ≡ t → (if t then Some text else None) ≡ None) [
  | true ↦ λ e. absurd (lacks text (ap (λ (x : ℕ). x ∷ text) (same_byte b c e)))
  | false ↦ λ e. refl
] refl

pub behind_is : (c : ℕ) (text : List ℕ) (found : Option (Bor (List ℕ))) → MatchOption found ((rest : List ℕ) → text ≢ c ∷ rest) (λ x. text ≡ c ∷ x.now) → option_copied found ≡ behind c text
behind_is c text None lacks = sym (behind_none c text lacks)
behind_is c text (Some x) is = sym (ap (behind c) is ∙ behind_first c x.now)

pub before_last : (c : ℕ) (front : List ℕ) → before c (front ++ c ∷ []) ≡ Some front
before_last c [] = ap (λ (t : Bool). if t then Some [] else None) (eq-eqb c c refl)
before_last c (b ∷ []) = ap (option_map (λ (l : List ℕ). b ∷ l)) (before_last c [])
before_last c (b ∷ d ∷ front) = ap (option_map (λ (l : List ℕ). b ∷ l)) (before_last c (d ∷ front))

longer : (c b d : ℕ) (text front : List ℕ) (found : Option (List ℕ)) → ((inner : List ℕ) → found ≡ Some inner → d ∷ text ≡ inner ++ c ∷ []) → option_map (λ l. b ∷ l) found ≡ Some front → b ∷ d ∷ text ≡ front ++ c ∷ []
longer c b d text front None more e = absurd cc
longer c b d text front (Some inner) more e =
    let is : b ∷ inner ≡ front = cc in
    ap (λ (l : List ℕ). b ∷ l) (more inner refl) ∙ ap (λ (l : List ℕ). l ++ c ∷ []) is

before_some : (c : ℕ) (text front : List ℕ) → before c text ≡ Some front → text ≡ front ++ c ∷ []
before_some c [] front e = absurd cc
before_some c (b ∷ []) front e = elim (nat_eq b c) as (λ t. nat_eq b c ≡ t → (if t then Some [] else None) ≡ Some front → b ∷ [] ≡ front ++ c ∷ []) [
  | true ↦ λ is found. (let none : [] ≡ front = cc in ap (λ (x : ℕ). x ∷ []) (same_byte b c is) ∙ ap (λ (l : List ℕ). l ++ c ∷ []) none)
  | false ↦ λ is found. absurd cc
] refl e
before_some c (b ∷ d ∷ text) front e = longer c b d text front (before c (d ∷ text)) (before_some c (d ∷ text)) e

pub before_is : (c : ℕ) (text : List ℕ) (found : Option (Bor (List ℕ))) → MatchOption found ((front : List ℕ) → text ≢ front ++ c ∷ []) (λ x. text ≡ x.now ++ c ∷ []) → option_copied found ≡ before c text
before_is c text None lacks = elim (before c text) as (λ o. before c text ≡ o → None ≡ o) [
  | None ↦ λ e. refl
  | Some front ↦ λ e. absurd (lacks front (before_some c text front e))
] refl
before_is c text (Some x) is = sym (ap (before c) is ∙ before_last c x.now)
