use Rattle.std.proofs.Common.{◌∙◌, sym, subst}
use Rattle.px_cells.specs.Contents.{value_at}
use Rattle.px_looks.specs.Found.{at_key}
use Rattle.px_looks.specs.inner.Seen.{AreSeen}
use Rattle.px_looks.proofs.Seen.{version_none, version_some}
use Rattle.px_looks.proofs.version.version_in.Goals as goal

pub returns-in-Some : goal.returns-in-Some
returns-in-Some c = λ k own none.
    (let h = at_key (value_at c.args.cells.now) k in
    let are = subst (AreSeen h c.args.point) (sym c.as_slice-puts.ensures) (c.in_ok-seen.ensures k own none) in
    version_some h c.args.point c.as_slice-puts.result.now are c.args.columns.now c.in-Some.status.now c.in-Some.ensures _ c.stamp.ensures c.is_verified.ensures (c.of.ensures ∙ c.in_ok-values-in-Some.ensures))

pub returns : goal.returns
returns c = λ k own none.
    (let h = at_key (value_at c.args.cells.now) k in
    let are = subst (AreSeen h c.args.point) (sym c.as_slice-puts.ensures) (c.in_ok-seen.ensures k own none) in
    version_none h c.args.point c.as_slice-puts.result.now are c.args.columns.now c.in-None.ensures)
