use Rattle.px_catalog.proofs.Opening.{quiet_leaves, start_leaves}
use Rattle.px_catalog.proofs.catalog.Catalog.start.Goals as goal

pub returns-then-is_open-clause-any_moment : goal.returns-then-is_open-clause-any_moment
returns-then-is_open-clause-any_moment g c = λ s tells told stands. quiet_leaves g.D.Disk c.args.disk.now c.reopen.new.disk s c.reopen.ensures.quiet stands

pub returns-in-Ok-clause-any_moment : goal.returns-in-Ok-clause-any_moment
returns-in-Ok-clause-any_moment g c = λ s tells told stands.
    let opened = c.in_ok-catalog.ensures.opened tells in
    start_leaves g.D.Disk c.args.disk.now c.reopen.new.disk c.make_first.new.disk c.in_ok-catalog.catalog c.reopen.ensures.quiet c.reopen.ensures.seen opened.0 (c.make_first.ensures.touches opened.1) (c.make_first.ensures.any_moment opened.1) s told stands

pub returns-in-Err-clause-any_moment : goal.returns-in-Err-clause-any_moment
returns-in-Err-clause-any_moment g c = λ s tells told stands.
    let opened = c.in_ok-catalog.ensures.opened tells in
    start_leaves g.D.Disk c.args.disk.now c.reopen.new.disk c.make_first.new.disk c.in_ok-catalog.catalog c.reopen.ensures.quiet c.reopen.ensures.seen opened.0 (c.make_first.ensures.touches opened.1) (c.make_first.ensures.any_moment opened.1) s told stands
