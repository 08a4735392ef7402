use Rattle.std.proofs.Common.{List, ℕ, [], arith, Bor}
use Rattle.px_gatelog.proofs.Frames.{next_piece_fits}
use Rattle.px_gatelog.proofs.frame.put_all.Goals as goal

pub put-requires : goal.put-requires
put-requires c =
    let none : Bor (List ℕ) = record { ref_ptr = (0, 0); now = [] } in
    omega (arith, next_piece_fits c.args.pieces.now c.loop-piece.piece-index none c.loop-piece-test.true, c.loop-piece.invariant.len, c.loop-piece.invariant.capacity, c.requires)
