use Rattle.std.proofs.Common.{sym, subst}
use Rattle.px_cells.specs.Contents.{value_at}
use Rattle.px_looks.specs.Found.{at_key}
use Rattle.px_looks.specs.inner.Seen.{AreSeen}
use Rattle.px_looks.proofs.IndexKeys.{found_none, found_some}
use Rattle.px_looks.proofs.keys.found_in.Goals as goal

pub returns-in-Some : goal.returns-in-Some
returns-in-Some c =
    let r = c.args.reader.now in
    let h = at_key (value_at c.args.cells.now) c.args.key.now in
    let are = subst (AreSeen h r.point) (sym c.as_slice-puts.ensures) (c.in_ok-seen.ensures c.args.key.now c.requires.own c.requires.bare) in
    found_some r.table.now r.index.now r.point c.args.key.now h c.args.values.now c.as_slice-puts.result.now are c.in-Some.status.now c.in-Some.ensures c.in_ok-found-in-Some.found c.in_ok-found-in-Some.ensures

pub returns : goal.returns
returns c =
    let r = c.args.reader.now in
    let h = at_key (value_at c.args.cells.now) c.args.key.now in
    let are = subst (AreSeen h r.point) (sym c.as_slice-puts.ensures) (c.in_ok-seen.ensures c.args.key.now c.requires.own c.requires.bare) in
    found_none r.table.now r.index.now r.point c.args.key.now h c.args.values.now c.as_slice-puts.result.now are c.in-None.ensures
