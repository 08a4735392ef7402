use Rattle.std.proofs.Common.{ℕ, List, arith, refl, subst}
use Rattle.px_cells.specs.CellData.{CellData}
use Rattle.px_memstore.specs.inner.Pieces.{HasBegin, IsPlace, lists}
use Rattle.px_memstore.proofs.Puts.{last_first, last_other}
use Rattle.px_memstore.proofs.putting.last_of.Goals as goal

pub returns-then-at-eq0 : goal.returns-then-at-eq0
returns-then-at-eq0 c = last_first (lists c.args.pieces.now) c.args.batch.now c.place_of-at.result 0 c.index-batch-batch.result c.requires.pieces c.requires.sorted c.requires.some c.index-batch-batch.is
    (subst (λ (k : List ℕ). IsPlace (lists c.args.pieces.now) k c.place_of-at.result) c.key-key.ensures c.place_of-at.ensures) c.if-at-eq0.true refl

pub returns-else-at-eq0 : goal.returns-else-at-eq0
returns-else-at-eq0 c =
    let f = c.if-at-eq0.false in
    last_other (lists c.args.pieces.now) c.args.batch.now c.place_of-at.result c.begin_of-from.result c.index-batch-batch.result c.requires.pieces c.requires.sorted c.requires.some c.index-batch-batch.is
    (subst (λ (k : List ℕ). IsPlace (lists c.args.pieces.now) k c.place_of-at.result) c.key-key.ensures c.place_of-at.ensures) (omega (arith, f))
    (subst (λ (l : List CellData). HasBegin c.args.batch.now l c.begin_of-from.result) c.piece.ensures c.begin_of-from.ensures)
