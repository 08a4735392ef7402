use Rattle.std.proofs.Common.{◌≡◌, length, map, ap, sym, ◌∙◌, arith}
use Rattle.std.proofs.lemmas.List.{length-map}
use Rattle.px_lex.specs.Lexemes.{Seen, seen}
use Rattle.px_ast.specs.Rule.{Got, Stuck, Deep}
use Rattle.px_ast.specs.Grammar.{statement}
use Rattle.px_statements.proofs.Verdict.{got_fits, stuck_fits, got_fault, stuck_fault, nothing_left, only_read, only_stuck}
use Rattle.px_statements.proofs.Faults.{deep_reads_none}
use Rattle.px_statements.proofs.whole.read_tokens.Goals as goal

pub overflow_sub-result : goal.overflow_sub-result
overflow_sub-result c =
    let ts = map seen c.args.tokens.now in
    let e : (statement 64).at ts ≡ Got c.in-Ok.read c.statement.new.tokens = ap (statement 64).at (sym c.new-cursor.ensures) ∙ c.in-Ok.ensures in
    got_fits 64 ts c.statement.new.tokens c.in-Ok.read _ _ (sym (length-map c.args.tokens.now seen)) c.left-else-left-eq0.ensures e

pub overflow_sub-result-in-Err-Stuck : goal.overflow_sub-result-in-Err-Stuck
overflow_sub-result-in-Err-Stuck c =
    let ts = map seen c.args.tokens.now in
    let e : (statement 64).at ts ≡ Stuck c.statement.new.tokens = ap (statement 64).at (sym c.new-cursor.ensures) ∙ rw c.in-Err-Stuck.field-0-is at c.in-Err-Stuck.ensures in
    stuck_fits 64 ts c.statement.new.tokens _ _ (sym (length-map c.args.tokens.now seen)) c.left-in-Err-Stuck.ensures e

pub returns-then-left-eq0-clause-answer : goal.returns-then-left-eq0-clause-answer
returns-then-left-eq0-clause-answer c =
    let ts = map seen c.args.tokens.now in
    let e : (statement 64).at ts ≡ Got c.in-Ok.read c.statement.new.tokens = ap (statement 64).at (sym c.new-cursor.ensures) ∙ c.in-Ok.ensures in
    nothing_left 64 ts c.statement.new.tokens c.in-Ok.read (omega (arith, c.left.ensures, c.if-left-eq0.true)) e

pub returns-then-left-eq0-clause-only : goal.returns-then-left-eq0-clause-only
returns-then-left-eq0-clause-only c s r =
    let ts = map seen c.args.tokens.now in
    let e : (statement 64).at ts ≡ Got c.in-Ok.read c.statement.new.tokens = ap (statement 64).at (sym c.new-cursor.ensures) ∙ c.in-Ok.ensures in
    (only_read ts c.statement.new.tokens c.in-Ok.read e s r).0

pub returns-else-left-eq0-clause-answer : goal.returns-else-left-eq0-clause-answer
returns-else-left-eq0-clause-answer c =
    let ts = map seen c.args.tokens.now in
    let e : (statement 64).at ts ≡ Got c.in-Ok.read c.statement.new.tokens = ap (statement 64).at (sym c.new-cursor.ensures) ∙ c.in-Ok.ensures in
    got_fault 64 ts c.statement.new.tokens c.in-Ok.read _ _ (sym (length-map c.args.tokens.now seen)) c.left-else-left-eq0.ensures
    (λ z. omega (arith, c.left.ensures, c.left-else-left-eq0.ensures, c.if-left-eq0.false, z)) e

pub returns-else-left-eq0-clause-only : goal.returns-else-left-eq0-clause-only
returns-else-left-eq0-clause-only c s r =
    let ts = map seen c.args.tokens.now in
    let e : (statement 64).at ts ≡ Got c.in-Ok.read c.statement.new.tokens = ap (statement 64).at (sym c.new-cursor.ensures) ∙ c.in-Ok.ensures in
    let none = ap (length {A = Seen}) (only_read ts c.statement.new.tokens c.in-Ok.read e s r).1 in
    absurd (omega (arith, c.left.ensures, c.if-left-eq0.false, none))

pub returns-in-Err-Stuck-clause-answer : goal.returns-in-Err-Stuck-clause-answer
returns-in-Err-Stuck-clause-answer c =
    let ts = map seen c.args.tokens.now in
    let e : (statement 64).at ts ≡ Stuck c.statement.new.tokens = ap (statement 64).at (sym c.new-cursor.ensures) ∙ rw c.in-Err-Stuck.field-0-is at c.in-Err-Stuck.ensures in
    stuck_fault 64 ts c.statement.new.tokens _ _ (sym (length-map c.args.tokens.now seen)) c.left-in-Err-Stuck.ensures e

pub returns-in-Err-Stuck-clause-only : goal.returns-in-Err-Stuck-clause-only
returns-in-Err-Stuck-clause-only c s r =
    let ts = map seen c.args.tokens.now in
    let e : (statement 64).at ts ≡ Stuck c.statement.new.tokens = ap (statement 64).at (sym c.new-cursor.ensures) ∙ rw c.in-Err-Stuck.field-0-is at c.in-Err-Stuck.ensures in
    absurd (only_stuck ts c.statement.new.tokens e s r)

pub returns-in-Err-TooDeep-clause-only : goal.returns-in-Err-TooDeep-clause-only
returns-in-Err-TooDeep-clause-only c s r =
    let ts = map seen c.args.tokens.now in
    let e : (statement 64).at ts ≡ Deep = ap (statement 64).at (sym c.new-cursor.ensures) ∙ rw c.in-Err-TooDeep.field-0-is at c.in-Err-TooDeep.ensures in
    absurd (deep_reads_none 64 ts s e r)
