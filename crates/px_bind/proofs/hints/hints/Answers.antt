use Rattle.std.proofs.Common.{◌-◌, List, ◌++◌, length, map, drop, take, ap, ◌∙◌}
use Rattle.std.proofs.lemmas.List.{take_rest}
use Rattle.px_lex.specs.Lexemes.{seen}
use Rattle.px_bind.specs.Hints.{hints_among}
use Rattle.px_bind.specs.declared.request.Hint.{Hint}
use Rattle.px_bind.proofs.HintSteps.{passed, one_read}
use Rattle.px_bind.proofs.hints.hints.Goals as goal
use Rattle.px_bind.proofs.hints.hints.Goals.{then-skip-gt0, else-skip-gt0+in-Ok}

pub loop-index-preserved : goal.loop-index-preserved
loop-index-preserved c = elim c.if-skip-gt0.branch [
  | then-skip-gt0 w ↦
      rw (w.hints-is, w.skip-is) (c.loop-index.invariant
      ∙ ap (λ (l : List Hint). c.loop-index.hints.items ++ l) (passed c.args.table.now c.loop-index.skip c.args.tokens.now c.loop-index.index c.loop-index-test.true w.if-skip-gt0.true))
  | else-skip-gt0+in-Ok w ↦
      rw (w.hints-is, w.skip-is) (one_read c.args.table.now c.args.tokens.now (take (length c.args.tokens.now - c.loop-index.index) (drop c.loop-index.index c.args.tokens.now)) c.loop-index.index
      c.loop-index.skip w.in-Ok.behind (hints_among c.args.table.now 0 (map seen c.args.tokens.now)) c.loop-index.hints.items w.add_hint.new.hints.items
      (take_rest c.args.tokens.now c.loop-index.index) w.if-skip-gt0.false c.loop-index-test.true c.loop-index.invariant w.in-Ok.ensures.hints w.in-Ok.ensures.behind)
]
