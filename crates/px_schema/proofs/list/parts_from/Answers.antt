use Rattle.std.proofs.Common.{◌+◌, ◌++◌, ◌∷◌, [], subst, sym, ◌∙◌}
use Rattle.px_pieces.specs.Chains.{repeat}
use Rattle.px_pieces.specs.Taking.{IsTakenAt}
use Rattle.px_schema.specs.declared.fault.DefFault.TheVariants.{NotADefinition}
use Rattle.px_schema.specs.Parts.{blank_part, part_piece}
use Rattle.px_schema.proofs.Joins.{exit_wrong}
use Rattle.px_schema.proofs.ListSteps.{Way, pushed, so_many_done, so_many_fault, so_many_more, so_many_none}
use Rattle.px_schema.proofs.list.parts_from.Goals as goal

pub loop-taken-init : goal.loop-taken-init
loop-taken-init c = subst (λ l. Way blank_part (part_piece c.args.columns) c.args.bytes.now c.args.count c.args.at l 0 c.args.at) (sym c.new-list.ensures.items) (so_many_none blank_part (part_piece c.args.columns) c.args.bytes.now c.args.count c.args.at c.requires.begins)

pub returns-in_err-part : goal.returns-in_err-part
returns-in_err-part c =
    exit_wrong (repeat blank_part (part_piece c.args.columns) c.args.count) c.args.bytes.now c.args.at c.from_residual.result c.in_err-part.field-0.0.place c.from_residual.ensures.1
    (so_many_fault blank_part (part_piece c.args.columns) c.args.bytes.now c.args.count c.args.at c.loop-taken.list.items c.loop-taken._taken c.loop-taken.end (NotADefinition c.in_err-part.field-0.0.place) c.loop-taken-test.true c.loop-taken.invariant c.in_err-part.ensures.stopped)

pub loop-taken-preserved : goal.loop-taken-preserved
loop-taken-preserved c =
    subst (λ l. Way blank_part (part_piece c.args.columns) c.args.bytes.now c.args.count c.args.at l (c.loop-taken._taken + 1) (c.loop-taken.end + 2)) (sym (pushed c.push.result c.push.new.self.items c.loop-taken.list.items (c.loop-taken.list.items ++ c.in_ok-part.part ∷ []) (sym c.is_err.ensures.value ∙ c.if-is_err.false) c.push.ensures.items))
    (so_many_more blank_part (part_piece c.args.columns) c.args.bytes.now c.args.count c.args.at c.loop-taken.list.items c.loop-taken._taken c.loop-taken.end c.in_ok-part.part (c.loop-taken.end + 2) c.loop-taken-test.true c.loop-taken.invariant c.in_ok-part.ensures.taken)

pub returns : goal.returns
returns c = subst (λ l. IsTakenAt (repeat blank_part (part_piece c.args.columns) c.args.count) c.args.bytes.now c.args.at l c.loop-taken.end) (sym c.of.ensures)
    (so_many_done blank_part (part_piece c.args.columns) c.args.bytes.now c.args.count c.args.at c.loop-taken.list.items c.loop-taken._taken c.loop-taken.end c.loop-taken-test.false c.loop-taken.invariant)
