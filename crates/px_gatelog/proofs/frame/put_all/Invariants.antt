use Rattle.std.proofs.Common.{◌≡◌, ◌++◌, ◌+◌, ◌≤◌, length, take, vec_len, vec_capacity}
use Rattle.std.specs.List.{flat_map}
use Rattle.px_gatelog.proofs.frame.put_all.Given as goal

abbrev pub invariant-loop-piece : goal.invariant-loop-piece
invariant-loop-piece l = record {
  items : l.to.items ≡ l.fn.to.items ++ flat_map (λ p. p.now) (take l.piece-index l.pieces);
  len : vec_len l.to ≡ vec_len l.fn.to + length (flat_map (λ p. p.now) (take l.piece-index l.pieces));
  capacity : vec_capacity l.fn.to ≤ vec_capacity l.to;
}
