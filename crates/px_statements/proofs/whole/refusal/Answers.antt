use Rattle.std.proofs.Common.{◌≡◌, map, ap, sym, ◌∙◌, arith}
use Rattle.std.proofs.lemmas.List.{length-map}
use Rattle.px_lex.specs.Lexemes.{seen}
use Rattle.px_ast.specs.Rule.{Got, Stuck}
use Rattle.px_statements.specs.inner.Skim.{skimmed_statement}
use Rattle.px_statements.proofs.Verdict.{stuck_fits, stuck_fault, skimmed_stuck, skim_got_fits, skim_got_fault, skim_nothing_left, skim_is_not_deep}
use Rattle.px_statements.proofs.whole.refusal.Goals as goal

pub overflow_sub-result : goal.overflow_sub-result
overflow_sub-result c =
    let ts = map seen c.args.tokens.now in
    let e : skimmed_statement.at ts ≡ Got c.in-Ok.field-0 c.statement.new.tokens = ap skimmed_statement.at (sym c.new-cursor.ensures) ∙ c.in-Ok.ensures in
    skim_got_fits ts c.statement.new.tokens c.in-Ok.field-0 _ _ (sym (length-map c.args.tokens.now seen)) c.left-else-left-eq0.ensures e

pub overflow_sub-result-in-Err-Stuck : goal.overflow_sub-result-in-Err-Stuck
overflow_sub-result-in-Err-Stuck c =
    let ts = map seen c.args.tokens.now in
    let e : skimmed_statement.at ts ≡ Stuck c.statement.new.tokens = ap skimmed_statement.at (sym c.new-cursor.ensures) ∙ rw c.in-Err-Stuck.field-0-is at c.in-Err-Stuck.ensures in
    stuck_fits _ ts c.statement.new.tokens _ _ (sym (length-map c.args.tokens.now seen)) c.left-in-Err-Stuck.ensures (skimmed_stuck ts c.statement.new.tokens e)

pub returns-then-left-eq0 : goal.returns-then-left-eq0
returns-then-left-eq0 c =
    let ts = map seen c.args.tokens.now in
    let e : skimmed_statement.at ts ≡ Got c.in-Ok.field-0 c.statement.new.tokens = ap skimmed_statement.at (sym c.new-cursor.ensures) ∙ c.in-Ok.ensures in
    skim_nothing_left ts c.statement.new.tokens c.in-Ok.field-0 (omega (arith, c.left.ensures, c.if-left-eq0.true)) c.requires.deep e

pub returns-else-left-eq0 : goal.returns-else-left-eq0
returns-else-left-eq0 c =
    let ts = map seen c.args.tokens.now in
    let e : skimmed_statement.at ts ≡ Got c.in-Ok.field-0 c.statement.new.tokens = ap skimmed_statement.at (sym c.new-cursor.ensures) ∙ c.in-Ok.ensures in
    skim_got_fault ts c.statement.new.tokens c.in-Ok.field-0 _ _ (sym (length-map c.args.tokens.now seen)) c.left-else-left-eq0.ensures
    (λ z. omega (arith, c.left.ensures, c.left-else-left-eq0.ensures, c.if-left-eq0.false, z)) e

pub returns-in-Err-Stuck : goal.returns-in-Err-Stuck
returns-in-Err-Stuck c =
    let ts = map seen c.args.tokens.now in
    let e : skimmed_statement.at ts ≡ Stuck c.statement.new.tokens = ap skimmed_statement.at (sym c.new-cursor.ensures) ∙ rw c.in-Err-Stuck.field-0-is at c.in-Err-Stuck.ensures in
    stuck_fault _ ts c.statement.new.tokens _ _ (sym (length-map c.args.tokens.now seen)) c.left-in-Err-Stuck.ensures (skimmed_stuck ts c.statement.new.tokens e)

pub returns-in-Err-TooDeep : goal.returns-in-Err-TooDeep
returns-in-Err-TooDeep c =
    let ts = map seen c.args.tokens.now in
    absurd (skim_is_not_deep ts (let e = rw c.in-Err-TooDeep.field-0-is at c.in-Err-TooDeep.ensures in ap skimmed_statement.at (sym c.new-cursor.ensures) ∙ e))
