use Rattle.std.proofs.Common.{◌≡◌, ◌≤◌}
use Rattle.std.specs.Prelude.{replicate, vec_capacity}
use Rattle.px_rounds.specs.Rounds.{first_state}
use Rattle.px_rounds.proofs.rounds.fresh_states.Given as goal

abbrev pub invariant-loop : goal.invariant-loop
invariant-loop l = record {
  states : l.states.items ≡ replicate l.counter first_state;
  room : l.count ≤ vec_capacity l.states;
}
