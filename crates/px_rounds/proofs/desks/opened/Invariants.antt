use Rattle.std.proofs.Common.{◌≡◌, ℕ, ◌+◌, ◌≤◌, length, drop, Vec, Some}
use Rattle.std.specs.Global.{Global}
use Rattle.std.specs.Prelude.{slice_get, vec_capacity}
use Rattle.px_lex.specs.declared.script.Piece.{Piece}
use Rattle.px_session.specs.declared.run.SessionRun.{SessionRun}
use Rattle.px_session.specs.declared.state.SessionState.{SessionState}
use Rattle.px_rounds.specs.inner.Desks.{IsFirst}
use Rattle.px_rounds.proofs.desks.opened.Given as goal

abbrev pub invariant-opening : goal.invariant-opening
invariant-opening l =
    record {
      left : l.states.items ≡ drop (length l.runs.items) l.fn.states.items;
      left' : l.all.items ≡ drop (length l.runs.items) l.fn.all.items;
      sum : length l.runs.items + length l.states.items ≡ length l.fn.states.items;
      sum' : length l.all.items ≡ length l.states.items;
      session : l.session ≡ length l.runs.items;
      room : length l.fn.states.items ≤ vec_capacity l.runs;
      each : (i : ℕ) (st : SessionState) (pieces : Vec Piece Global) (run : SessionRun) → slice_get l.fn.states.items i ≡ Some st → slice_get l.fn.all.items i ≡ Some pieces → slice_get l.runs.items i ≡ Some run → IsFirst l.number l.from (i + 1) st pieces.items run;
    }

abbrev pub decreases-opening : goal.decreases-opening
decreases-opening l = length l.states.items
