use Rattle.std.proofs.Common.{◌∙◌, List, sym, subst}
use Rattle.px_cells.specs.CellData.{CellData}
use Rattle.px_cells.specs.Rows.{IsRow}
use Rattle.px_region.specs.Region.{read_of}
use Rattle.px_looks.specs.Versions.{HasNoDelete, version_at}
use Rattle.px_looks.proofs.Among.{row_contents}
use Rattle.px_looks.proofs.RowCells.{row_is_list, row_is_own}
use Rattle.px_looks.proofs.Seen.{region_bare}
use Rattle.px_looks.proofs.version.key_version.Given.{Over}
use Rattle.px_looks.proofs.version.key_version.Goals as goal

taken : (g : Over) (c : goal.After-as_slice g) → IsRow (read_of c.args.region.now) c.args.key.now c.as_slice.result.now
taken g c = subst (λ (l : List CellData). IsRow l c.args.key.now c.as_slice.result.now) c.look_at.ensures.alike.store (subst (λ (l : List CellData). IsRow (read_of c.look_at.new.self) c.args.key.now l) (sym c.as_slice.ensures.value) c.in_ok-cells.ensures.row)

pub version_in-requires : goal.version_in-requires
version_in-requires g c = record { list = row_is_list _ _ _ (taken g c) c.requires.region }

pub returns-clause-version : goal.returns-clause-version
returns-clause-version g c =
    let is = subst (λ (l : List CellData). IsRow l c.args.key.now c.as_slice.result.now) c.look_at.ensures.alike.store (subst (λ (l : List CellData). IsRow (read_of c.look_at.new.self) c.args.key.now l) (sym c.as_slice.ensures.value) c.in_ok-cells.ensures.row) in
    let here = row_contents (read_of c.args.region.now) c.as_slice.result.now c.args.key.now is in
    c.in-Ok.ensures c.args.key.now (row_is_own _ _ _ is) (subst HasNoDelete (sym here) (region_bare (read_of c.args.region.now) c.args.key.now c.requires.region))
    ∙ (λ i. version_at (here i) (c.as_slice-columns.ensures i) c.args.point)
