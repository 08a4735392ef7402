-- Parts of conditions.
use Rattle.std.proofs.Common.{◌≡◌, ℕ, zero, suc, true, false, List, [], ◌∷◌, refl}
use Rattle.px_lex.specs.Lexemes.{Seen}
use Rattle.px_lex.specs.declared.kind.Kind.TheVariants as k
use Rattle.px_ast.specs.declared.condition.Predicate.{Predicate}
use Rattle.px_ast.specs.declared.condition.Condition.TheVariants as conditions
use Rattle.px_ast.specs.Grammar.{part, predicate, disjunction}
use Rattle.px_ast.specs.Rule.{sees, Got, made, ◌▹◌, ◌◃◌}

-- One that begins with neither NOT nor a parenthesis is a predicate.
pub plain_part : (depth : ℕ) (p : Predicate) (ts rest : List Seen) → (depth ≡ 0 → ⊥) → sees (k.Not ∷ []) ts ≡ false → sees (k.OpenParen ∷ []) ts ≡ false
    → (predicate depth).at ts ≡ Got p rest → (part depth).at ts ≡ Got (conditions.Predicate p) rest
unfolding part
plain_part zero p ts rest some no_not no_paren read = absurd (some refl)
plain_part (suc depth) p ts rest some no_not no_paren read = rw (no_not, no_paren, read) refl

-- behind NOT stands a part of one less
pub not_part : (depth less : ℕ) (ts : List Seen) → depth ≡ suc less → sees (k.Not ∷ []) ts ≡ true → (part depth).at ts ≡ (made conditions.Not (k.Not ▹ part less)).at ts
unfolding part
not_part depth less ts is seen = rw (is, seen) refl

-- in parentheses stands a condition of one less
pub enclosed_part : (depth less : ℕ) (ts : List Seen) → depth ≡ suc less → sees (k.Not ∷ []) ts ≡ false → sees (k.OpenParen ∷ []) ts ≡ true
    → (part depth).at ts ≡ (k.OpenParen ▹ disjunction (part less) ◃ k.CloseParen).at ts
unfolding part
enclosed_part depth less ts is unseen seen = rw (is, unseen, seen) refl
