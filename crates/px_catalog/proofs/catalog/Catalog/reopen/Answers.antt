use Rattle.std.proofs.Common.{◌≤◌, length, subst, sym, ◌∙◌}
use Rattle.std.specs.Prelude.{IsSome}
use Rattle.std.proofs.lemmas.Bool.{false≢true}
use Rattle.px_outside.specs.Disk.{Image}
use Rattle.px_catalog.proofs.Opening.{opened_without, quiet_kept}
use Rattle.px_catalog.proofs.catalog.Catalog.reopen.Goals as goal

pub returns-clause-opened : goal.returns-clause-opened
returns-clause-opened g c = λ tells.
    let started = c.in_ok-log.ensures.start c.new-reader.ensures tells in
    let closed : IsSome c.in_ok-log.log.newest → ⊥ = λ open_. false≢true (sym c.if-is_open.false ∙ c.is_open.ensures.1 open_) in
    let second : length (g.D.Disk.seen c.start.new.disk 1) ≤ 4096 = subst (λ (i : Image). length (i 1) ≤ 4096) c.is_short.ensures.seen (c.in_ok-is_short-2.ensures.short tells) in
    let mid = opened_without g.D.Disk c.args.disk.now c.start.new.disk c.start.new.reader.standing c.in_ok-log.log started c.in_ok-log.ensures.unlaid c.in_ok-with_standing-2.field-0 c.in_ok-with_standing-2.ensures.log closed
    c.in_ok-with_standing-2.ensures.standing (c.in_ok-is_short.ensures.short tells) second c.start.ensures.seen in (
      mid.0,
      quiet_kept g.D.Disk c.in_ok-with_standing-2.field-0 c.is_short.new.disk c.is_short-2.new.disk c.is_short-2.ensures.quiet c.is_short-2.ensures.seen
          (quiet_kept g.D.Disk c.in_ok-with_standing-2.field-0 c.start.new.disk c.is_short.new.disk c.is_short.ensures.quiet c.is_short.ensures.seen mid.1),
    )
