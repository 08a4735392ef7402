use Rattle.std.proofs.Common.{refl, ◌∙◌}
use Rattle.px_file.proofs.Written.{file_finished}
use Rattle.px_file.proofs.writer.FileWriter.finish.Goals as goal

pub returns-clause-done : goal.returns-clause-done
returns-clause-done g c = λ blocks has.
    file_finished g.D.Disk c.args.disk.now c.write_through.new.disk c.args.self (record { file = c.args.self.file; index = c.args.self.index }) blocks c.deref.result.now has refl refl (c.deref.ensures.value ∙ c.in_ok-bytes.ensures)
    c.in_ok-write_through.ensures.written c.in_ok-write_through.ensures.durable
