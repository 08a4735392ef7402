use Rattle.std.proofs.Common.{◌≤◌, sym, ap, subst, ◌∙◌}
use Rattle.px_server.specs.Others.{BeginsAt}
use Rattle.px_server.specs.Started.{IsOpenedOn}
use Rattle.px_program.specs.inner.Outcomes.{with_disk}
use Rattle.px_program.specs.inner.Running.{RanOpened, IsLeftSince, at_least}
use Rattle.px_outside.specs.OnDisk.{IsLeft}
use Rattle.px_program.proofs.Later.{later}
use Rattle.px_program.proofs.Stops.{begins_later, opened_later, ran_later}
use Rattle.px_program.proofs.run.run_since.Goals as goal

pub run_over-requires-clause-disk : goal.run_over-requires-clause-disk
run_over-requires-clause-disk g c = λ κs bounds given tells.
    let d = g.D.Disk in
    let s = g.B.Since in
    subst (λ x. IsOpenedOn (later d (at_least s.from s.all)) x c.args.opened) (sym c.new-later.ensures)
    (opened_later d (g.met.D.Disk g.world.𝓛 g.world.𝓜 g.world.𝓡 ((λ s x. x), (λ x. x), (λ x. x), λ x. x)).up_to_now s.from s.all c.args.disk c.args.opened c.requires.from c.requires.all (c.requires.opened given tells))

pub run_over-requires-clause-told : goal.run_over-requires-clause-told
run_over-requires-clause-told g c = λ κs bounds given tells. c.requires.told given tells

pub run_over-requires-clause-began : goal.run_over-requires-clause-began
run_over-requires-clause-began g c = λ κs bounds.
    let d = g.D.Disk in
    let s = g.B.Since in
    subst (λ x. BeginsAt (later d (at_least s.from s.all)) g.B.Founded.began x) (sym c.new-later.ensures) (begins_later d (at_least s.from s.all) c.args.disk g.B.Founded.began c.requires.began)

pub returns-clause-ran : goal.returns-clause-ran
returns-clause-ran g c =
    let d = g.D.Disk in
    let k = g.O.Sink in
    let clock = g.C.Clock in
    let times = g.B.Founded.times in
    let lookback = g.B.Founded.lookback in
    let s = g.B.Since in
    let b = g.B.Based.base in
    let sound = g.B.Founded.sound in
    let given = g.B.Founded.premise in
    let began = g.B.Founded.began in
    let o = c.run_over.result in
    let back = c.map_disk.ensures.disk.0 in
    let within = subst (λ x. s.from ≤ d.calls x) back c.map_disk.ensures.disk.1.0 in
    let ran = subst (λ x. RanOpened (later d (at_least s.from s.all)) clock k b sound given began (IsLeft (later d (at_least s.from s.all))) times lookback c.args.job x c.args.out.now c.run_over.new.out o) c.new-later.ensures c.run_over.ensures in
    let same = c.map_disk.ensures.rest ∙ ap (λ x. with_disk x o) back in
    subst (λ x. RanOpened d clock k b sound given began (IsLeftSince d s.from s.all) times lookback c.args.job c.args.disk c.args.out.now c.run_over.new.out x) (sym same)
    (ran_later d (g.met.D.Disk g.world.𝓛 g.world.𝓜 g.world.𝓡 ((λ s x. x), (λ x. x), (λ x. x), λ x. x)).up_to_now s.from s.all clock k b sound given began times lookback c.args.job c.args.disk c.args.out.now c.run_over.new.out o within (c.requires.from ∙ sym c.requires.began.moment) ran)
