use Rattle.std.proofs.Common.{Bor, None, Option, Some, ◌∙◌, ◌+◌, ap, refl, subst, sym, take}
use Rattle.std.specs.Option.{option_copied}
use Rattle.px_tables.specs.declared.index.Index.{Index}
use Rattle.px_plan.specs.Choice.{IsBest, IsBetter, candidates, rank_of}
use Rattle.px_plan.specs.declared.rank.Rank.{Rank}
use Rattle.px_plan.proofs.Ranked.{best_alone, best_grows, best_keeps}
use Rattle.px_plan.proofs.best.best.Goals as goal
use Rattle.px_plan.proofs.best.best.Goals.{then-is_better, else-is_better}

pub loop-index-init : goal.loop-index-init
loop-index-init c = record {
  best = best_alone (rank_of c.args.found.now.table c.args.conjuncts.now c.args.order.now) None;
  rank = c.in_ok-best_rank.ensures;
}

pub loop-index-preserved : goal.loop-index-preserved
loop-index-preserved c =
    let at = c.loop-index in
    let t = c.args.found.now.table in
    let cs = c.args.conjuncts.now in
    let order = c.args.order.now in
    let is = c.as_slice-indexes.result.now in
    let i = c.index-item.result in
    let by = option_copied at.best in
    let usable = sym c.is_usable.ensures ∙ c.if-not-is_usable.false in
    let holds = sym c.holds_all.ensures ∙ c.if-not-holds_all.false in
    let other = c.in_ok-other.ensures in
    elim c.if-is_better.branch [
      | then-is_better w ↦
          let better = w.if-is_better.ensures.0 refl in
          let b : IsBetter (rank_of t cs order (Some i)) (rank_of t cs order by) = subst (λ (r : Rank). IsBetter (rank_of t cs order (Some i)) r) at.invariant.rank (subst (λ (r : Rank). IsBetter r at.best_rank) other better) in record {
            best = subst (λ (o : Option (Bor Index)). IsBest (rank_of t cs order) (candidates t c.args.point c.args.columns.now (take (at.index-index + 1) is)) (option_copied o)) (sym w.best-is) (best_grows t cs order c.args.point c.args.columns.now is at.index-index i by c.loop-index-test.true c.index-item.is usable holds b at.invariant.best);
            rank = w.best_rank-is ∙ other ∙ sym (ap (λ (o : Option (Bor Index)). rank_of t cs order (option_copied o)) w.best-is);
          }
      | else-is_better w ↦
          let b : IsBetter (rank_of t cs order (Some i)) (rank_of t cs order by) → ⊥ = λ x. (let y = w.if-is_better.ensures.1 (subst (λ (r : Rank). IsBetter r at.best_rank) (sym other) (subst (λ (r : Rank). IsBetter (rank_of t cs order (Some i)) r) (sym at.invariant.rank) x)) in cc) in record {
            best = subst (λ (o : Option (Bor Index)). IsBest (rank_of t cs order) (candidates t c.args.point c.args.columns.now (take (at.index-index + 1) is)) (option_copied o)) (sym w.best-is) (best_keeps t cs order c.args.point c.args.columns.now is at.index-index i by c.loop-index-test.true c.index-item.is usable holds b at.invariant.best);
            rank = w.best_rank-is ∙ at.invariant.rank ∙ sym (ap (λ (o : Option (Bor Index)). rank_of t cs order (option_copied o)) w.best-is);
          }
    ]
