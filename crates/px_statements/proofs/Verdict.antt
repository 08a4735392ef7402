-- From what reading and skimming give to what the parser answers.
use Rattle.std.proofs.Common.{◌≡◌, ℕ, ◌-◌, ◌≤◌, List, [], ◌∷◌, length, refl, sym, ap, subst, ◌∙◌, arith}
use Rattle.std.proofs.lemmas.List.{length-append}
use Rattle.px_lex.specs.Lexemes.{Seen}
use Rattle.px_ast.specs.declared.statement.Statement.{Statement}
use Rattle.px_statements.specs.declared.fault.TokenFault.TheVariants as faults
use Rattle.px_ast.specs.Rule.{Outcome, Got, Stuck, Deep}
use Rattle.px_ast.specs.Grammar.{statement}
use Rattle.px_statements.specs.inner.Skim.{ended, skimmed_statement}
use Rattle.px_ast.specs.Statements.{ReadsWithin, depth_limit}
use Rattle.px_statements.specs.Parsed.{IsFirstUnexpected, IsRefused}
use Rattle.px_statements.proofs.GrammarLaws.{statement_lawful}
use Rattle.px_statements.proofs.Alike.{statement_alike, ended_twice}
use Rattle.px_statements.proofs.Calm.{skimmed_statement_calm}
use Rattle.px_statements.proofs.Faults.{reads_all, reads_again, stuck_is_fault, rest_is_fault, deep_reads_none}

pub got_left : (depth : ℕ) (tokens rest : List Seen) (s : Statement) → (statement depth).at tokens ≡ Got s rest → length rest ≤ length tokens
got_left depth tokens rest s e = let g = (statement_lawful depth).got tokens rest s e in omega (arith, ap length g.1, length-append g.0 rest)

pub stuck_left : (depth : ℕ) (tokens rest : List Seen) → (statement depth).at tokens ≡ Stuck rest → length rest ≤ length tokens
stuck_left depth tokens rest e = let g = (statement_lawful depth).stuck tokens rest e in omega (arith, ap length g.1, length-append g.0 rest)

whole : (tokens : List Seen) → ended ((statement (length tokens)).at tokens) ≡ skimmed_statement.at tokens
whole tokens = (statement_alike (length tokens)).ending tokens (omega arith) ∙ ended_twice (skimmed_statement.at tokens)

was_got : (o : Outcome Statement) (u : Unit {0}) (rest : List Seen) → ended o ≡ Got u rest → (s : Statement) × (o ≡ Got s rest)
was_got (Got s mid) u rest e = (s, let h : mid ≡ rest = cc in ap (λ (r : List Seen). Got s r) h)
was_got (Stuck mid) u rest e = absurd cc
was_got Deep u rest e = absurd cc

was_stuck : (o : Outcome Statement) (rest : List Seen) → ended o ≡ Stuck rest → o ≡ Stuck rest
was_stuck (Got s mid) rest e = absurd cc
was_stuck (Stuck mid) rest e = cc
was_stuck Deep rest e = absurd cc

pub skimmed_got : (tokens rest : List Seen) (u : Unit {0}) → skimmed_statement.at tokens ≡ Got u rest → (s : Statement) × ((statement (length tokens)).at tokens ≡ Got s rest)
skimmed_got tokens rest u e = was_got ((statement (length tokens)).at tokens) u rest (whole tokens ∙ e)

pub skimmed_stuck : (tokens rest : List Seen) → skimmed_statement.at tokens ≡ Stuck rest → (statement (length tokens)).at tokens ≡ Stuck rest
skimmed_stuck tokens rest e = was_stuck ((statement (length tokens)).at tokens) rest (whole tokens ∙ e)

pub is_deep : (tokens : List Seen) (u : Unit {0}) → (statement depth_limit).at tokens ≡ Deep → skimmed_statement.at tokens ≡ Got u [] → IsRefused tokens faults.TooDeep
is_deep tokens u deep e =
    let g = skimmed_got tokens [] u e in
    ((g.0, (length tokens, reads_all (length tokens) tokens g.0 g.1)), λ s r. deep_reads_none depth_limit tokens s deep r)

-- a place where something is left is a fault
pub left_is_fault : (depth : ℕ) (tokens rest : List Seen) (s : Statement) → (length rest ≡ 0 → ⊥) → (statement depth).at tokens ≡ Got s rest → IsFirstUnexpected tokens (length tokens - length rest)
left_is_fault depth tokens [] s some e = absurd (some refl)
left_is_fault depth tokens (t ∷ rest) s some e = rest_is_fault depth tokens t rest s e

pub nothing_left : (depth : ℕ) (tokens rest : List Seen) (s : Statement) → length rest ≡ 0 → (statement depth).at tokens ≡ Got s rest → ReadsWithin depth tokens s
nothing_left depth tokens [] s none e = reads_all depth tokens s e
nothing_left depth tokens (t ∷ rest) s none e = absurd (omega arith)

pub skim_left_is_fault : (tokens rest : List Seen) (u : Unit {0}) → (length rest ≡ 0 → ⊥) → skimmed_statement.at tokens ≡ Got u rest → IsFirstUnexpected tokens (length tokens - length rest)
skim_left_is_fault tokens rest u some e = let g = skimmed_got tokens rest u e in left_is_fault (length tokens) tokens rest g.0 some g.1

pub skim_nothing_left : (tokens rest : List Seen) (u : Unit {0}) → length rest ≡ 0 → (statement depth_limit).at tokens ≡ Deep → skimmed_statement.at tokens ≡ Got u rest → IsRefused tokens faults.TooDeep
skim_nothing_left tokens [] u none deep e = is_deep tokens u deep e
skim_nothing_left tokens (t ∷ rest) u none deep e = absurd (omega arith)

pub skim_stuck_is_fault : (tokens rest : List Seen) → skimmed_statement.at tokens ≡ Stuck rest → IsFirstUnexpected tokens (length tokens - length rest)
skim_stuck_is_fault tokens rest e = stuck_is_fault (length tokens) tokens rest (skimmed_stuck tokens rest e)

pub skim_is_not_deep : (tokens : List Seen) → skimmed_statement.at tokens ≡ Deep → ⊥
skim_is_not_deep tokens = skimmed_statement_calm.never tokens

pub only_read : (tokens rest : List Seen) (read : Statement) → (statement depth_limit).at tokens ≡ Got read rest → (s : Statement) → ReadsWithin depth_limit tokens s → (read ≡ s) × (rest ≡ [])
only_read tokens rest read e s r = let x = sym e ∙ reads_again depth_limit tokens s r in (cc, cc)

pub only_stuck : (tokens rest : List Seen) → (statement depth_limit).at tokens ≡ Stuck rest → (s : Statement) → ReadsWithin depth_limit tokens s → ⊥
only_stuck tokens rest e s r = let x = sym e ∙ reads_again depth_limit tokens s r in cc

-- ---- the same with the numbers that the code has

abbrev counted : (tokens rest : List Seen) (n left : ℕ) → n ≡ length tokens → left ≡ length rest → length tokens - length rest ≡ n - left
counted tokens rest n left e f = λ i. sym e i - sym f i

pub got_fits : (depth : ℕ) (tokens rest : List Seen) (s : Statement) (n left : ℕ) → n ≡ length tokens → left ≡ length rest → (statement depth).at tokens ≡ Got s rest → left ≤ n
got_fits depth tokens rest s n left e f read = omega (arith, e, f, got_left depth tokens rest s read)

pub stuck_fits : (depth : ℕ) (tokens rest : List Seen) (n left : ℕ) → n ≡ length tokens → left ≡ length rest → (statement depth).at tokens ≡ Stuck rest → left ≤ n
stuck_fits depth tokens rest n left e f read = omega (arith, e, f, stuck_left depth tokens rest read)

pub got_fault : (depth : ℕ) (tokens rest : List Seen) (s : Statement) (n left : ℕ) → n ≡ length tokens → left ≡ length rest → (left ≡ 0 → ⊥) → (statement depth).at tokens ≡ Got s rest → IsFirstUnexpected tokens (n - left)
got_fault depth tokens rest s n left e f some read = subst (IsFirstUnexpected tokens) (counted tokens rest n left e f) (left_is_fault depth tokens rest s (λ z. some (f ∙ z)) read)

pub stuck_fault : (depth : ℕ) (tokens rest : List Seen) (n left : ℕ) → n ≡ length tokens → left ≡ length rest → (statement depth).at tokens ≡ Stuck rest → IsFirstUnexpected tokens (n - left)
stuck_fault depth tokens rest n left e f read = subst (IsFirstUnexpected tokens) (counted tokens rest n left e f) (stuck_is_fault depth tokens rest read)

pub skim_got_fits : (tokens rest : List Seen) (u : Unit {0}) (n left : ℕ) → n ≡ length tokens → left ≡ length rest → skimmed_statement.at tokens ≡ Got u rest → left ≤ n
skim_got_fits tokens rest u n left e f read = let g = skimmed_got tokens rest u read in got_fits (length tokens) tokens rest g.0 n left e f g.1

pub skim_got_fault : (tokens rest : List Seen) (u : Unit {0}) (n left : ℕ) → n ≡ length tokens → left ≡ length rest → (left ≡ 0 → ⊥) → skimmed_statement.at tokens ≡ Got u rest → IsFirstUnexpected tokens (n - left)
skim_got_fault tokens rest u n left e f some read = let g = skimmed_got tokens rest u read in got_fault (length tokens) tokens rest g.0 n left e f some g.1
