use Rattle.std.proofs.Common.{◌≡◌, ◌+◌, ◌∙◌, ◌++◌, ℕ, suc, List, map, take, drop, set, get_or, ap, arith}
use Rattle.px_group.specs.declared.group.Begun.{Begun}
use Rattle.px_beginning.proofs.Lists.{met_here, met_is, met_next}
use Rattle.px_beginning.specs.Admits.{met_by}
use Rattle.px_beginning.proofs.admitting.meet_all.Goals as goal

pub loop-begun-preserved : goal.loop-begun-preserved
loop-begun-preserved c =
    let cs = c.args.changes.now in
    let xs = c.args.batches.now in
    let ys = c.loop-begun.batches in
    let i = c.loop-begun.begun-index in
    let d = c.begun-item.result in
    let same : get_or ys i d ≡ get_or xs i d = ap (λ (l : List Begun). get_or l i d) c.loop-begun.invariant ∙ met_here (met_by cs) xs i d c.loop-begun-test.true in
    let one = met_is cs (get_or ys i d) c.meet.new.self c.meet.ensures ∙ ap (met_by cs) same in
    let next : suc i ≡ i + 1 = omega arith in
    ap (λ (x : Begun). set ys i x) one
    ∙ (ap (λ (l : List Begun). set l i (met_by cs (get_or xs i d))) c.loop-begun.invariant
    ∙ (met_next (met_by cs) xs i d c.loop-begun-test.true ∙ ap (λ (n : ℕ). map (met_by cs) (take n xs) ++ drop n xs) next))
