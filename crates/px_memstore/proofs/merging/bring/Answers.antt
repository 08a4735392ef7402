use Rattle.std.proofs.Common.{◌≡◌, ◌-◌, ◌+◌, ◌++◌, ℕ, length, take, drop, subst, arith, length-take-le, length-drop}
use Rattle.px_memstore.proofs.Weaving.{turned_of}
use Rattle.px_memstore.proofs.merging.bring.Goals as goal

pub returns-clause-turned : goal.returns-clause-turned
returns-clause-turned c =
    let cells = c.args.cells.now in
    let at = c.args.at in
    let end = c.args.end in
    let rest = c.args.rest in
    let low = c.requires.before in
    let all = c.requires.within in
    let sub = take (end + rest - at) (drop at cells) in
    let long : length sub - rest ≡ end - at = (let l = length-drop at cells in let m = length-take-le (end + rest - at) (drop at cells) (omega arith) in omega arith) in
    turned_of cells c.rotate_right.new.self at end rest low all (subst (λ (n : ℕ). c.rotate_right.new.self ≡ drop n sub ++ take n sub) long c.rotate_right.ensures.after)
