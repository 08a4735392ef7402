use Rattle.std.proofs.Common.{◌≡◌, ◌-◌, ◌∷◌, [], ◌++◌, length, take, drop, ap, ◌∙◌, arith, length-append}
use Rattle.std.proofs.lemmas.Grind.{common_steps}
use Rattle.std.proofs.lemmas.List.{take_rest}
use Rattle.px_block.specs.Reading.{behind}
use Rattle.px_block.proofs.Steps.{begun_fault, begun_more}
use Rattle.px_block.proofs.read.read_body.Goals as goal

pub returns-in-Err-clause-fault : goal.returns-in-Err-clause-fault
returns-in-Err-clause-fault c = begun_fault c.args.before.now c.args.bytes.now c.loop.cells c.loop.at c.loop.invariant.begun c.behind.result.now (take (length c.args.bytes.now - c.loop.at) (drop c.loop.at c.args.bytes.now)) (c.behind.ensures ∙ ap (behind c.args.before.now) c.as_slice.ensures) (take_rest c.args.bytes.now c.loop.at) c.args.count c.in-Err.fault c.moved.result (omega arith) (omega arith) c.in-Err.ensures.fault c.moved.ensures

pub loop-preserved : goal.loop-preserved
loop-preserved c =
    let n = c.is_err.ensures.negation in
    let f = c.if-is_err.false in
    let pushed : c.push.new.self ≡ c.loop.cells ++ c.in-Ok.cell ∷ [] = grind (arith, common_steps) in
    let l = ap length pushed in
    record {
      begun = begun_more c.args.before.now c.args.bytes.now c.loop.cells c.loop.at c.loop.invariant.begun c.behind.result.now (take (length c.args.bytes.now - c.loop.at) (drop c.loop.at c.args.bytes.now)) (c.behind.ensures ∙ ap (behind c.args.before.now) c.as_slice.ensures) (take_rest c.args.bytes.now c.loop.at) c.in-Ok.cell c.push.new.self c.size_of-at.result (omega arith) c.in-Ok.ensures.cell pushed c.size_of-at.ensures;
      counted = omega (arith, length-append c.loop.cells (c.in-Ok.cell ∷ []));
    }
