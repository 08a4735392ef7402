-- The laws of what the grammar is written with.
use Rattle.std.proofs.Common.{◌≡◌, true, List, [], ◌∷◌, refl}
use Rattle.px_lex.specs.declared.kind.Kind.{Kind}
use Rattle.px_ast.specs.Rule.{Rule, unit_of_token, word, ◌▹◌, ◌◃◌, separated, means, second, cons, first_of_two, is_present, presence_of, optional_list, optional}
use Rattle.px_statements.proofs.Laws.{Lawful, apart_test, apart_none, token_lawful, made_lawful, then_lawful, maybe_lawful, many_lawful}

pub word_lawful : (x : Kind) → Lawful (word x)
word_lawful x = made_lawful unit_of_token (token_lawful x)

pub means_lawful : {A : Type 0} (x : Kind) (a : A) → Lawful (means x a)
means_lawful x a = made_lawful (λ _. a) (token_lawful x)

pub intro_lawful : {A : Type 0} {r : Rule A} (x : Kind) → Lawful r → Lawful (x ▹ r)
intro_lawful {A} {r} x l = made_lawful second (then_lawful (word_lawful x) l (apart_none r.begins))

pub outro_lawful : {A : Type 0} {r : Rule A} (x : Kind) → Lawful r → apart_test r.on (x ∷ []) ≡ true → Lawful (r ◃ x)
outro_lawful x l h = made_lawful first_of_two (then_lawful l (word_lawful x) h)

pub separated_lawful : {A : Type 0} {r : Rule A} (x : Kind) → Lawful r → apart_test r.on (x ∷ []) ≡ true → apart_test (x ▹ r).on (x ∷ []) ≡ true → Lawful (separated x r)
separated_lawful {A} {r} x l h h' = made_lawful cons (then_lawful l (many_lawful (intro_lawful x l) refl h') h)

pub written_lawful : {A : Type 0} {r : Rule A} → Lawful r → r.solid ≡ true → Lawful (presence_of r)
written_lawful l h = made_lawful is_present (maybe_lawful l h)

pub optional_lawful : {A : Type 0} {r : Rule (List A)} → Lawful r → r.solid ≡ true → Lawful (optional r)
optional_lawful l h = made_lawful optional_list (maybe_lawful l h)
