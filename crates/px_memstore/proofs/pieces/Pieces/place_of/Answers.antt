use Rattle.std.proofs.Common.{◌∷◌, List, Vec, Global, map, rules, subst, sym}
use Rattle.std.proofs.lemmas.List.Sorted.{IsPartitionPoint-from_clause}
use Rattle.px_cells.specs.declared.cell.Cell.{Cell}
use Rattle.px_memstore.specs.inner.Pieces.{ArePieces, IsPlace, begins_by}
use Rattle.px_memstore.proofs.Finding.{parted_by, place_from}
use Rattle.px_memstore.proofs.pieces.Pieces.place_of.Goals as goal

pub returns : goal.returns
returns c =
    let key = c.args.key.now in
    let first = c.args.self.now.first.items in
    let r = c.partition_point.result in
    let xs = c.as_slice.result.now in
    let e = c.as_slice.ensures.value in
    let a = subst (λ (l : List (Vec Cell Global)). ArePieces (first ∷ map (λ (v : Vec Cell Global). v.items) l)) (sym e) c.requires in
    let p = IsPartitionPoint-from_clause (λ (v : Vec Cell Global). begins_by v.items key) xs r c.partition_point.ensures.partitioned (parted_by (λ (v : Vec Cell Global). v.items) xs key a.apart.2 a.filled) (λ a r q k. search rules) in
    subst (λ (l : List (Vec Cell Global)). IsPlace (first ∷ map (λ (v : Vec Cell Global). v.items) l) key r) e (place_from (λ (v : Vec Cell Global). v.items) first xs key r a c.partition_point.ensures.bound p.0 p.1)
