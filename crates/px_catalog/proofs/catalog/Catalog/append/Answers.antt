use Rattle.px_gatelog.specs.Framed.{record_of}
use Rattle.px_schema.proofs.Rights.{item_fits}
use Rattle.px_catalog.specs.Catalogue.{standing_of}
use Rattle.px_catalog.proofs.Holding.{append_at, append_done, leaves_now_or, not_full}
use Rattle.px_catalog.proofs.Values.{merely_after}
use Rattle.px_catalog.proofs.catalog.Catalog.append.Goals as goal

pub returns-then-is_full-clause-any_moment : goal.returns-then-is_full-clause-any_moment
returns-then-is_full-clause-any_moment g c = λ has. leaves_now_or g.D.Disk c.args.self.now c.args.disk.now has _ g.met.D.Disk.up_to_now

pub item_frame-requires : goal.item_frame-requires
item_frame-requires g c = record { fits = item_fits (standing_of c.args.self.now) c.args.item c.requires.right }

pub returns-in-Err-clause-any_moment : goal.returns-in-Err-clause-any_moment
returns-in-Err-clause-any_moment g c = λ has. leaves_now_or g.D.Disk c.args.self.now c.args.disk.now has _ g.met.D.Disk.up_to_now

pub returns-in_err-next-clause-any_moment : goal.returns-in_err-next-clause-any_moment
returns-in_err-next-clause-any_moment g c = λ has. leaves_now_or g.D.Disk c.args.self.now c.args.disk.now has _ g.met.D.Disk.up_to_now

pub invariant_of-self : goal.invariant_of-self
invariant_of-self g c = record { right = merely_after (standing_of c.args.self.now) c.in_ok-next.next c.args.item c.requires.right c.in_ok-next.ensures c.args.self.now.right }

pub returns-in-Ok-append-clause-done : goal.returns-in-Ok-append-clause-done
returns-in-Ok-append-clause-done g c = λ has.
    let open_ = not_full c.args.self.now c.is_full.result c.is_full.ensures c.if-is_full.false in
    append_done g.D.Disk c.args.self.now c.args.disk.now has c.args.item c.requires.right open_.0 (record_of c.in-Ok.frame) c.in-Ok.ensures.framed _ c.append.new.disk c.in_ok-next.ensures open_.1 c.append.ensures.same c.append.ensures.laid c.append.ensures.steps
    c.in-Ok-append.ensures.done

pub returns-in-Ok-append-clause-any_moment : goal.returns-in-Ok-append-clause-any_moment
returns-in-Ok-append-clause-any_moment g c = λ has.
    let open_ = not_full c.args.self.now c.is_full.result c.is_full.ensures c.if-is_full.false in
    append_at g.D.Disk c.args.self.now c.args.disk.now has c.args.item c.requires.right open_.0 (record_of c.in-Ok.frame) c.in-Ok.ensures.framed c.append.new.disk c.append.ensures.any_moment

pub returns-clause-any_moment : goal.returns-clause-any_moment
returns-clause-any_moment g c = λ has.
    let open_ = not_full c.args.self.now c.is_full.result c.is_full.ensures c.if-is_full.false in
    append_at g.D.Disk c.args.self.now c.args.disk.now has c.args.item c.requires.right open_.0 (record_of c.in-Ok.frame) c.in-Ok.ensures.framed c.append.new.disk c.append.ensures.any_moment
