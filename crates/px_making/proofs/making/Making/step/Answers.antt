use Rattle.std.proofs.Common.{refl}
use Rattle.px_file.specs.Format.{cells_in}
use Rattle.px_making.proofs.Steps.{after_rest, made_more, written_rest}
use Rattle.px_making.proofs.making.Making.step.Goals as goal

pub step-requires-clause-written : goal.step-requires-clause-written
step-requires-clause-written g c = written_rest c.args.cells.now c.args.self.now.done c.requires

pub returns-clause-done : goal.returns-clause-done
returns-clause-done g c = λ making.
    made_more g.D.Disk c.args.self.now _ c.args.disk.now c.step.new.disk c.args.cells.now making c.in_ok-n.n
    (c.in_ok-n.ensures.done making.blocks making.written (after_rest c.args.cells.now (cells_in making.blocks) c.args.self.now.done c.requires making.first)) c.in_ok-n.ensures.taken.1 c.in_ok-n.ensures.goes_on refl
