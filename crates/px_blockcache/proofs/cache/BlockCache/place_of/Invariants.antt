use Rattle.std.proofs.Common.{◌<◌, ℕ, get_or}
use Rattle.px_blockcache.specs.Cached.{BlockData, IsBlockOf}
use Rattle.px_blockcache.proofs.cache.BlockCache.place_of.Given as goal

abbrev pub invariant-loop-place : goal.invariant-loop-place
invariant-loop-place l = (k : ℕ) (d : BlockData) → k < l.place → IsBlockOf (get_or l.self k d) l.file l.number → ⊥
