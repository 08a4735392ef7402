use Rattle.std.proofs.Common.{◌≡◌, ◌-◌, length, refl, subst, ◌∙◌, arith}
use Rattle.std.specs.Prelude.{IsTrue}
use Rattle.px_outside.specs.Disk.{Image}
use Rattle.px_outside.proofs.Moments.{stays_then}
use Rattle.px_file.specs.Reading.{IsFirstWrongInFile}
use Rattle.px_file.proofs.Walking.{counts_all, counts_more, counts_none, grown_more, rose_from, stays_none, steps_fewer, walk_ended}
use Rattle.px_file.proofs.open.read_blocks.Goals as goal

pub loop-alloc-init : goal.loop-alloc-init
loop-alloc-init g c = record {
  walked = λ is. is;
  seen = refl;
  quiet = stays_none g.D.Disk c.args.file g.met.D.Disk.up_to_now c.args.disk.now;
  grown = omega arith;
  counts = counts_none g.D.Disk c.args.disk.now _;
  window = c.requires;
}

pub loop-alloc-smaller : goal.loop-alloc-smaller
loop-alloc-smaller g c =
    let on = c.loop-alloc-test.ensures.0 refl in
    steps_fewer (length c.loop-alloc.walk.index.entries.items) (length c.step.new.self.index.entries.items) c.loop-alloc.walk.more c.step.new.self.more on.0 on.1 c.in-Ok.ensures.count

pub loop-alloc-preserved : goal.loop-alloc-preserved
loop-alloc-preserved g c = record {
  walked = λ is. (let s = c.loop-alloc.invariant.walked is in c.in-Ok.ensures.done s.blocks s.walked);
  seen = c.step.ensures.seen ∙ c.loop-alloc.invariant.seen;
  quiet = stays_then g.D.Disk.calls g.D.Disk.left c.args.disk.now c.loop-alloc.disk c.step.new.disk c.loop-alloc.invariant.quiet c.step.ensures.quiet;
  grown = grown_more (length c.args.walk.now.index.entries.items) (length c.loop-alloc.walk.index.entries.items) (length c.step.new.self.index.entries.items) c.step.new.self.more c.loop-alloc.invariant.grown c.in-Ok.ensures.count;
  counts = counts_more g.D.Disk c.args.disk.now c.loop-alloc.disk c.step.new.disk (length c.args.walk.now.index.entries.items) (length c.loop-alloc.walk.index.entries.items) (length c.step.new.self.index.entries.items) c.loop-alloc.walk.more c.step.new.self.more
      c.loop-alloc.invariant.grown (c.loop-alloc-test.ensures.0 refl).0 c.in-Ok.ensures.count c.loop-alloc.invariant.counts c.step.ensures.counts;
  window = c.step.ensures.window;
}

pub returns-in-Err-clause-wrong : goal.returns-in-Err-clause-wrong
returns-in-Err-clause-wrong g c = λ at place is e.
    let s = c.loop-alloc.invariant.walked is in
    subst (λ (f : Image). (at ≡ c.args.file) × (IsTrue g.D.Disk.tells → IsFirstWrongInFile (f c.args.file) place)) c.loop-alloc.invariant.seen (c.in-Err.ensures.wrong s.blocks at place s.walked e)

pub returns-in-Err-clause-quiet : goal.returns-in-Err-clause-quiet
returns-in-Err-clause-quiet g c = stays_then g.D.Disk.calls g.D.Disk.left c.args.disk.now c.loop-alloc.disk c.step.new.disk c.loop-alloc.invariant.quiet c.step.ensures.quiet

pub returns-in-Err-clause-failed : goal.returns-in-Err-clause-failed
returns-in-Err-clause-failed g c = λ e. rose_from g.D.Disk c.args.file c.args.disk.now c.loop-alloc.disk c.step.new.disk c.loop-alloc.invariant.counts.faults_later (c.in-Err.ensures.failed e)

pub returns-clause-read : goal.returns-clause-read
returns-clause-read g c = λ is. walk_ended g.D.Disk c.args.file c.loop-alloc.walk c.loop-alloc.disk c.loop-alloc-test.ensures.1 (c.loop-alloc.invariant.walked is)

pub returns-in-Err-clause-faults : goal.returns-in-Err-clause-faults
returns-in-Err-clause-faults g c = omega (arith, c.loop-alloc.invariant.counts.faults_later, c.step.ensures.counts.faults_later)

pub returns-clause-faults : goal.returns-clause-faults
returns-clause-faults g c = c.loop-alloc.invariant.counts.faults_later

pub returns-clause-counts : goal.returns-clause-counts
returns-clause-counts g c = counts_all g.D.Disk c.args.disk.now c.loop-alloc.disk (length c.loop-alloc.walk.index.entries.items - length c.args.walk.now.index.entries.items) c.loop-alloc.walk.more c.loop-alloc.invariant.counts
