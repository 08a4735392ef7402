use Rattle.std.proofs.Common.{◌+◌, ◌++◌, ◌∷◌, [], subst, sym, ◌∙◌}
use Rattle.px_pieces.specs.Chains.{repeat}
use Rattle.px_pieces.specs.Taking.{IsTakenAt}
use Rattle.px_schema.specs.Format.{index, no_index}
use Rattle.px_schema.proofs.ListSteps.{Way, pushed, so_many_done, so_many_fault, so_many_more, so_many_none}
use Rattle.px_schema.proofs.index.indexes_from.Goals as goal

pub loop-taken-init : goal.loop-taken-init
loop-taken-init c = subst (λ l. Way no_index (index c.args.tables.now) c.args.bytes.now c.args.count c.args.at l 0 c.args.at) (sym c.new-list.ensures.items) (so_many_none no_index (index c.args.tables.now) c.args.bytes.now c.args.count c.args.at c.requires.begins)

pub returns-in-Err : goal.returns-in-Err
returns-in-Err c = so_many_fault no_index (index c.args.tables.now) c.args.bytes.now c.args.count c.args.at c.loop-taken.list.items c.loop-taken._taken c.loop-taken.end c.in-Err.fault c.loop-taken-test.true c.loop-taken.invariant c.in-Err.ensures

pub loop-taken-preserved : goal.loop-taken-preserved
loop-taken-preserved c =
    subst (λ l. Way no_index (index c.args.tables.now) c.args.bytes.now c.args.count c.args.at l (c.loop-taken._taken + 1) c.in-Ok.behind) (sym (pushed c.push.result c.push.new.self.items c.loop-taken.list.items (c.loop-taken.list.items ++ c.in-Ok.index ∷ []) (sym c.is_err.ensures.value ∙ c.if-is_err.false) c.push.ensures.items))
    (so_many_more no_index (index c.args.tables.now) c.args.bytes.now c.args.count c.args.at c.loop-taken.list.items c.loop-taken._taken c.loop-taken.end c.in-Ok.index c.in-Ok.behind c.loop-taken-test.true c.loop-taken.invariant c.in-Ok.ensures)

pub returns : goal.returns
returns c = subst (λ l. IsTakenAt (repeat no_index (index c.args.tables.now) c.args.count) c.args.bytes.now c.args.at l c.loop-taken.end) (sym c.of.ensures)
    (so_many_done no_index (index c.args.tables.now) c.args.bytes.now c.args.count c.args.at c.loop-taken.list.items c.loop-taken._taken c.loop-taken.end c.loop-taken-test.false c.loop-taken.invariant)
