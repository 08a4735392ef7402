use Rattle.std.proofs.Common.{◌+◌, map, sym, ◌∙◌, arith}
use Rattle.px_pieces.specs.Numbers.{begins_one}
use Rattle.px_pieces.proofs.Bytewise.{number_start, short_more, standing_cut, standing_done, standing_more, standing_wrong}
use Rattle.px_schema.proofs.numbered.one_of_in.Goals as goal

pub loop-taken-init : goal.loop-taken-init
loop-taken-init g c = (number_start (begins_one (map g.T.Numbered.number_of c.args.standing.now)) 4 c.args.bytes.now c.args.at c.requires.begins, omega arith)

pub returns-then-place-bytes-clause-stopped : goal.returns-then-place-bytes-clause-stopped
returns-then-place-bytes-clause-stopped g c =
    standing_cut (map g.T.Numbered.number_of c.args.standing.now) c.args.bytes.now c.args.at c.loop-taken.taken c.loop-taken.value c.loop-taken.invariant.0 (omega (arith, c.loop-taken-test.true)) (omega (arith, c.if-place-bytes.true))

pub overflow_mul-next : goal.overflow_mul-next
overflow_mul-next g c = omega (arith, (short_more c.loop-taken.taken c.loop-taken.value 0 c.loop-taken-test.true c.loop-taken.invariant.1 (omega arith)).1)

pub overflow_add-next : goal.overflow_add-next
overflow_add-next g c = omega (arith, (short_more c.loop-taken.taken c.loop-taken.value c.from.result c.loop-taken-test.true c.loop-taken.invariant.1 (omega (arith, c.from.ensures, c.type_inv.bytes (c.args.at + c.loop-taken.taken)))).1)

pub returns-then-not-one_begins-clause-stopped : goal.returns-then-not-one_begins-clause-stopped
returns-then-not-one_begins-clause-stopped g c =
    standing_wrong (map g.T.Numbered.number_of c.args.standing.now) c.args.bytes.now c.args.at c.loop-taken.taken c.loop-taken.value c.loop-taken.invariant.0 c.loop-taken-test.true c.from.result c.from.ensures
    (omega (arith, c.if-place-bytes.false, c.loop-taken.invariant.0.way.within)) (omega (arith, c.from.ensures, c.type_inv.bytes (c.args.at + c.loop-taken.taken))) (sym c.one_begins.ensures ∙ c.if-not-one_begins.true)

pub loop-taken-preserved : goal.loop-taken-preserved
loop-taken-preserved g c = (
  standing_more (map g.T.Numbered.number_of c.args.standing.now) c.args.bytes.now c.args.at c.loop-taken.taken c.loop-taken.value c.loop-taken.invariant.0 c.loop-taken-test.true c.from.result c.from.ensures
      (omega (arith, c.if-place-bytes.false, c.loop-taken.invariant.0.way.within)) (omega (arith, c.from.ensures, c.type_inv.bytes (c.args.at + c.loop-taken.taken))) (sym c.one_begins.ensures ∙ c.if-not-one_begins.false),
  (short_more c.loop-taken.taken c.loop-taken.value c.from.result c.loop-taken-test.true c.loop-taken.invariant.1 (omega (arith, c.from.ensures, c.type_inv.bytes (c.args.at + c.loop-taken.taken)))).0,
)

pub returns-clause-taken : goal.returns-clause-taken
returns-clause-taken g c = standing_done (map g.T.Numbered.number_of c.args.standing.now) c.args.bytes.now c.args.at c.loop-taken.taken c.loop-taken.value (omega (arith, c.loop-taken-test.false, c.loop-taken.auto.taken-end)) c.loop-taken.invariant.0
