use Rattle.std.proofs.Common.{List, arith, length, sym, subst}
use Rattle.std.specs.Option.{option_copied}
use Rattle.px_cells.specs.CellData.{CellData}
use Rattle.px_memstore.specs.Pieces.{AreFirstRows}
use Rattle.px_region.specs.Region.{read_of}
use Rattle.px_looks.specs.inner.Among.{FoundAmong}
use Rattle.px_looks.specs.inner.Lent.{IsTaken}
use Rattle.px_looks.proofs.Parts.{part_admits, part_below, part_found, part_up, rows_list}
use Rattle.px_looks.proofs.Piece.{first_ascending}
use Rattle.px_looks.proofs.next.look_part.Given.{Over}
use Rattle.px_looks.proofs.next.look_part.Goals as goal

pub lend-lent-requires : goal.lend-lent-requires
lend-lent-requires g c =
    let read = subst (λ (l : List CellData). AreFirstRows (read_of c.args.region.now) c.args.low.now (option_copied c.args.high) l c.in_ok-cells.field-0.is_all) (sym c.as_slice.ensures.value) c.in_ok-cells.ensures.rows in
    record { sorted = first_ascending (read_of c.args.region.now) c.args.low.now (option_copied c.args.high) c.as_slice.result.now c.in_ok-cells.field-0.is_all read }

pub find_all-requires-clause-list : goal.find_all-requires-clause-list
find_all-requires-clause-list g c =
    let read = subst (λ (l : List CellData). AreFirstRows (read_of c.args.region.now) c.args.low.now (option_copied c.args.high) l c.in_ok-cells.field-0.is_all) (sym c.as_slice.ensures.value) c.in_ok-cells.ensures.rows in
    let part = (c.lend-lent.ensures.taken (read_of c.args.region.now) c.args.low.now (option_copied c.args.high) read).part in
    (rows_list (read_of c.args.region.now) c.args.low.now _ c.lend-lent.result.cells.now c.requires.region part)

pub find_all-requires-clause-admits : goal.find_all-requires-clause-admits
find_all-requires-clause-admits g c =
    let read = subst (λ (l : List CellData). AreFirstRows (read_of c.args.region.now) c.args.low.now (option_copied c.args.high) l c.in_ok-cells.field-0.is_all) (sym c.as_slice.ensures.value) c.in_ok-cells.ensures.rows in
    let taken = c.lend-lent.ensures.taken (read_of c.args.region.now) c.args.low.now (option_copied c.args.high) read in
    (part_admits (read_of c.args.region.now) c.args.low.now (option_copied c.args.high) c.lend-lent.result.most c.lend-lent.result.rows c.lend-lent.result.cells.now taken (g.R.Reader.admits c.args.reader.now) c.requires.admits)

-- those that are taken of the rows that were read
taken : (g : Over) (c : goal.After-look_at g) → IsTaken (read_of c.args.region.now) c.args.low.now (option_copied c.args.high) c.lend-lent.result.most c.lend-lent.result.rows c.lend-lent.result.cells.now
taken g c =
    let read = subst (λ (l : List CellData). AreFirstRows (read_of c.args.region.now) c.args.low.now (option_copied c.args.high) l c.in_ok-cells.field-0.is_all) (sym c.as_slice.ensures.value) c.in_ok-cells.ensures.rows in
    c.lend-lent.ensures.taken (read_of c.args.region.now) c.args.low.now (option_copied c.args.high) read

among : (g : Over) (c : goal.After-look_at g) → FoundAmong (g.R.Reader.shows c.args.reader.now) c.lend-lent.result.cells.now (length c.lend-lent.result.cells.now) c.in-Ok-find_all.found.items
among g c = c.in-Ok-find_all.ensures.found

pub returns-clause-found : goal.returns-clause-found
returns-clause-found g c =
    let read = subst (λ (l : List CellData). AreFirstRows (read_of c.args.region.now) c.args.low.now (option_copied c.args.high) l c.in_ok-cells.field-0.is_all) (sym c.as_slice.ensures.value) c.in_ok-cells.ensures.rows in
    part_found (read_of c.args.region.now) c.args.low.now (option_copied c.args.high) c.lend-lent.result.most c.lend-lent.result.rows c.lend-lent.result.cells.now (taken g c) (g.R.Reader.shows c.args.reader.now) c.law.ensures.some c.in-Ok-find_all.found.items (among g c)
    (c.lend-lent.ensures.some read.some c.requires.most) c.in-Ok.end c.in-Ok.ensures

pub returns-clause-up : goal.returns-clause-up
returns-clause-up g c =
    part_up (read_of c.args.region.now) c.args.low.now (option_copied c.args.high) c.lend-lent.result.most c.lend-lent.result.rows c.lend-lent.result.cells.now (taken g c) (g.R.Reader.shows c.args.reader.now) c.law.ensures.some c.in-Ok-find_all.found.items (among g c)
    c.in-Ok.end c.in-Ok.ensures

pub returns-clause-below : goal.returns-clause-below
returns-clause-below g c =
    part_below (read_of c.args.region.now) c.args.low.now (option_copied c.args.high) c.lend-lent.result.most c.lend-lent.result.rows c.lend-lent.result.cells.now (taken g c) (g.R.Reader.shows c.args.reader.now) c.law.ensures.some c.in-Ok-find_all.found.items (among g c)

pub returns-clause-counted : goal.returns-clause-counted
returns-clause-counted g c =
    let few = c.in-Ok-find_all.ensures.few in
    let lent = (taken g c).counted in
    let looked = c.look_at.ensures.looked in
    omega arith
