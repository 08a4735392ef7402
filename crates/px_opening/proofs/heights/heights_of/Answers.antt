use Rattle.std.proofs.Common.{◌≡◌, ◌∙◌, ap, arith}
use Rattle.px_region.specs.Region.{read_of}
use Rattle.px_tablefolder.specs.Folder.{folder_high, folder_last, last_cell}
use Rattle.px_opening.specs.Opened.{files_by}
use Rattle.px_opening.proofs.Building.{table_high, table_last}
use Rattle.px_opening.proofs.heights.heights_of.Goals as goal

pub returns : goal.returns
returns c = λ f all.
    let region = c.in_ok-region.region.now in
    let r = c.in_ok-region.ensures f all in
    let o = c.in_ok-others.ensures f all in
    let number = r.1 ∙ c.requires.rows in
    let h = c.horizon-horizon.ensures in
    let e : c.last_of.result ≡ last_cell (read_of region) = c.last_of.ensures in
    let a = c.max.ensures in
    let b = c.max-2.ensures in
    let d = c.max-3.ensures in
    let last = table_last f c.args.indexes.now c.args.table.now c.requires.region region r.0 number in
    let high = table_high f c.args.indexes.now c.args.table.now c.requires.region region r.0 number in
    let o0 = o.0 in
    let o1 = o.1 in
    let x : c.max-2.result ≡ folder_last (files_by f c.args.indexes.now c.args.table.now) = omega arith in
    let y : c.max-3.result ≡ folder_high (files_by f c.args.indexes.now c.args.table.now) = omega arith in
    (x, y)
