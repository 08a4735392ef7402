use Rattle.std.proofs.Common.{arith}
use Rattle.px_loading.proofs.Gathered.{gathered_whole}
use Rattle.px_loading.proofs.gathering.Gathering.step.Goals as goal

pub returns-in-Ok-put-clause-done : goal.returns-in-Ok-put-clause-done
returns-in-Ok-put-clause-done g c = λ blocks has.
    let put = c.in-Ok-put.ensures.done in
    gathered_whole g.D.Disk c.args.self.now c.args.disk.now c.args.files.now blocks c.index-files-self.result
    (let n = c.if-self-eq0.false in omega arith) c.requires c.index-files-self.is has c.put.new.self (let t = c.if-self-blocks.false in let b = c.blocks-2.ensures in omega arith) put.0 put.1 put.2 c.in-Ok-put.ensures.left
