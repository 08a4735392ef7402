use Rattle.std.proofs.Common.{◌≡◌, ◌++◌, Vec, Global, map, take}
use Rattle.px_cells.specs.declared.cell.Cell.{Cell}
use Rattle.px_memstore.specs.Pieces.{chained}
use Rattle.px_memstore.proofs.pieces.Pieces.copied.Given as goal

abbrev pub invariant-loop-piece : goal.invariant-loop-piece
invariant-loop-piece l = l.all.items ≡ l.self.first.items ++ chained (take l.piece-index (map (λ (v : Vec Cell Global). v.items) l.self.others.items))
