use Rattle.std.proofs.Common.{◌≡◌, take, drop, refl, ap, ◌∙◌, arith}
use Rattle.std.proofs.lemmas.List.{length-take}
use Rattle.px_file.specs.declared.fault.FileFault.TheVariants.{Damaged}
use Rattle.px_file.proofs.Walking.{fault_small, walk_last, walk_more, walk_wrong}
use Rattle.px_file.proofs.walk.Walk.step.Goals as goal

pub returns-then-not-has_count-clause-done : goal.returns-then-not-has_count-clause-done
returns-then-not-has_count-clause-done g c = λ blocks w.
    walk_last g.D.Disk c.args.file c.args.self.now c.args.disk.now c.read_at.new.disk blocks (take c.in_ok-n.n c.read_at.new.into) w c.read_at.ensures.seen
    (λ tells. c.in_ok-n.ensures.bytes tells ∙ ap (λ m. take m (drop c.args.self.now.index.end (g.D.Disk.seen c.args.disk.now c.args.file))) c.requires.window) c.if-not-has_count.ensures.1

pub damaged-requires : goal.damaged-requires
damaged-requires g c =
    let s = fault_small c.as_slice.result.now (take c.in_ok-n.n c.read_at.new.into) c.in-Err.fault c.in-Err.ensures.fault in
    let a = c.args.self.now.index.small in
    let b = c.args.self.now.index.count in
    let n = c.in_ok-n.ensures.fits in
    let w = c.requires.window in
    let l = length-take c.in_ok-n.n c.read_at.new.into in
    omega arith

pub returns-in_ok-add-in-Ok-clause-done : goal.returns-in_ok-add-in-Ok-clause-done
returns-in_ok-add-in-Ok-clause-done g c = λ blocks w.
    walk_more g.D.Disk c.args.file c.args.self.now c.args.disk.now c.read_at.new.disk blocks (take c.in_ok-n.n c.read_at.new.into) w c.read_at.ensures.seen
    (λ tells. c.in_ok-n.ensures.bytes tells ∙ ap (λ m. take m (drop c.args.self.now.index.end (g.D.Disk.seen c.args.disk.now c.args.file))) c.requires.window) c.add.new.self c.as_slice.result.now c.in-Ok.front.cells _ c.requires.more c.as_slice.ensures c.in-Ok.ensures.front
    (c.in_ok-add-in-Ok.ensures.added blocks w.index) c.in_ok-add-in-Ok.ensures.before c.in_ok-add-in-Ok.ensures.full

pub returns-in-Err-clause-wrong : goal.returns-in-Err-clause-wrong
returns-in-Err-clause-wrong g c = λ blocks at place w e.
    walk_wrong g.D.Disk c.args.file c.args.self.now c.args.disk.now c.read_at.new.disk blocks (take c.in_ok-n.n c.read_at.new.into) w c.read_at.ensures.seen
    (λ tells. c.in_ok-n.ensures.bytes tells ∙ ap (λ m. take m (drop c.args.self.now.index.end (g.D.Disk.seen c.args.disk.now c.args.file))) c.requires.window) c.as_slice.result.now c.in-Err.fault c.damaged.result at place c.requires.more c.requires.count c.as_slice.ensures (c.if-not-has_count.ensures.0 refl)
    c.in-Err.ensures.fault c.damaged.ensures.memory c.damaged.ensures.place (let same : c.damaged.result ≡ Damaged at place = cc in same)
