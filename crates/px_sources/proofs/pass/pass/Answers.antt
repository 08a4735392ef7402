use Rattle.std.proofs.Common.{◌≡◌, ◌<◌, length, get_or, ap, ◌∙◌, arith}
use Rattle.px_outside.proofs.Moments.{stays_then}
use Rattle.px_sources.specs.Passed.{place_of}
use Rattle.px_sources.proofs.Sources.{give_at, gives_one, passed_all}
use Rattle.px_sources.proofs.pass.pass.Goals as goal

pub returns-in-Err-clause-sound : goal.returns-in-Err-clause-sound
returns-in-Err-clause-sound g c = λ lists at place all e.
    let lt : c.loop-i.i < length c.loop-i.sources = omega arith in
    let one = gives_one g.D.Disk (place_of c.args.last.now) c.loop-i.sources c.loop-i.disk lists c.loop-i.i (get_or c.loop-i.sources c.loop-i.i c.index-sources-i.result) lt (ap (get_or c.loop-i.sources c.loop-i.i) c.index-sources-i.is) (c.loop-i.invariant.passed lists all) in
    c.in-Err.ensures.sound one.0 at place one.1 e

pub loop-i-preserved : goal.loop-i-preserved
loop-i-preserved g c =
    let lt : c.loop-i.i < length c.loop-i.sources = omega arith in
    record {
      passed = λ lists all.
          (let one = give_at g.D.Disk (place_of c.args.last.now) c.loop-i.sources c.loop-i.disk lists c.loop-i.i (get_or c.loop-i.sources c.loop-i.i c.index-sources-i.result) lt (ap (get_or c.loop-i.sources c.loop-i.i) c.index-sources-i.is) (c.loop-i.invariant.passed lists all) in
          one.next c.pass_at.new.source c.pass_at.new.disk (c.in-Ok.ensures.passed one.list one.own) c.pass_at.ensures.quiet c.pass_at.ensures.seen);
      seen = c.pass_at.ensures.seen ∙ c.loop-i.invariant.seen;
      quiet = stays_then g.D.Disk.calls g.D.Disk.left c.args.disk.now c.loop-i.disk c.pass_at.new.disk c.loop-i.invariant.quiet c.pass_at.ensures.quiet;
      faults = omega (arith, c.loop-i.invariant.faults, c.pass_at.ensures.faults);
    }

pub returns-clause-passed : goal.returns-clause-passed
returns-clause-passed g c = λ lists all.
    let end : c.loop-i.i ≡ length c.loop-i.sources = omega arith in
    passed_all g.D.Disk (place_of c.args.last.now) c.loop-i.sources c.loop-i.disk lists c.loop-i.i end (c.loop-i.invariant.passed lists all)
