use Rattle.std.proofs.Common.{◌≤◌, take}
use Rattle.std.specs.List.{All}
use Rattle.px_rounds.proofs.count.most_in.Given as goal

abbrev pub invariant-loop-text : goal.invariant-loop-text
invariant-loop-text l = record {
  least : l.least ≤ l.most;
  within : All (λ x. x.session ≤ l.most) (take l.text-index l.round);
}
