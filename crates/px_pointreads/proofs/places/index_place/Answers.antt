use Rattle.std.proofs.Common.{rules, ◌≡◌, subst, ◌∙◌}
use Rattle.std.specs.Prelude.{IsTrue}
use Rattle.px_reading.proofs.Looked.{got}
use Rattle.px_pointreads.specs.Points.{IsPartAt}
use Rattle.px_pointreads.proofs.Asked.{part_of}
use Rattle.px_pointreads.proofs.places.index_place.Goals as goal

pub returns-then-is_part_at-clause-part : goal.returns-then-is_part_at-clause-part
returns-then-is_part_at-clause-part c = λ x at.
    let same : c.index-parts-place.result ≡ x = c.index-parts-place.is ∙ got c.args.parts.now c.loop-place.place x c.index-parts-place.result at in
    let yes : IsTrue c.is_part_at.result = search rules in
    let f = c.is_part_at.ensures yes in
    subst (IsPartAt c.args.p.now c.args.index) same (part_of c.args.p.now c.args.index c.in_ok-wanted.wanted.now c.loop-place.invariant c.index-parts-place.result f.0 f.1)
