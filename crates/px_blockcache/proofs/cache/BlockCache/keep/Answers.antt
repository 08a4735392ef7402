use Rattle.std.proofs.Common.{◌<◌, ◌%◌, ◌∙◌, ℕ, length, sym, subst, arith, length-set, get_or-set_same, mod-lt}
use Rattle.px_blockcache.proofs.cache.BlockCache.keep.Goals as goal

pub returns-clause-there : goal.returns-clause-there
returns-clause-there c =
    let old = c.self.inside.blocks.items in
    let place = c.self.inside.next % c.len-2.result in
    let new = c.replace-oldest.new.dest in
    let within : place < length old = omega (arith, mod-lt c.self.inside.next {m = c.len-2.result} (omega arith)) in
    (place, subst (λ (n : ℕ). place < n) (sym (length-set old place new)) within, get_or-set_same old place new _ within ∙ c.replace-oldest.ensures.after)
