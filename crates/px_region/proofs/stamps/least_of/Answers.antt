use Rattle.std.proofs.Common.{◌≡◌, ◌≤◌, arith, rules}
use Rattle.std.specs.Prelude.{min}
use Rattle.px_region.proofs.Least.{from_next}
use Rattle.px_region.proofs.stamps.least_of.Goals as goal

pub loop-cell-preserved : goal.loop-cell-preserved
loop-cell-preserved c =
    let i = c.loop-cell.invariant in
    let s = c.stamp.ensures in
    let m : c.min-least.result ≡ min c.loop-cell.least c.stamp.result = search rules in
    let le : c.min-least.result ≤ c.loop-cell.least = omega arith in
    let own : c.min-least.result ≤ c.cell-item.result.stamp = omega arith in
    let a = i.0 in (
      omega (arith, le, a),
      from_next c.args.cells.now c.loop-cell.cell-index c.loop-cell.least c.min-least.result c.cell-item.result c.loop-cell-test.true c.cell-item.is le own i.1,
    )
