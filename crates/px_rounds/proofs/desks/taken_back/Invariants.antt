use Rattle.std.proofs.Common.{◌≡◌, ℕ, ◌+◌, ◌≤◌, length, drop, List, Some}
use Rattle.std.specs.Prelude.{slice_get, vec_capacity}
use Rattle.px_calls.specs.Known.{Known}
use Rattle.px_reply.specs.declared.transcript.Transcript.{Transcript}
use Rattle.px_session.specs.declared.run.SessionRun.{SessionRun}
use Rattle.px_session.specs.declared.state.SessionState.{SessionState}
use Rattle.px_rounds.specs.inner.Desks.{IsTold}
use Rattle.px_rounds.specs.Turns.{as_seat, AreLive}
use Rattle.px_rounds.proofs.desks.taken_back.Given as goal

abbrev pub invariant-loop-runs : goal.invariant-loop-runs
invariant-loop-runs g l =
    record {
      left : l.runs.items ≡ drop (length l.transcripts.items) l.fn.runs.items;
      sum : length l.transcripts.items + length l.runs.items ≡ length l.fn.runs.items;
      count : length l.states.items ≡ length l.transcripts.items;
      room : (length l.fn.runs.items ≤ vec_capacity l.transcripts) × (length l.fn.runs.items ≤ vec_capacity l.states);
      each : (k : Known) → (began : List SessionState) → AreLive g.S.Steps.sound k began l.fn.runs.items → (i : ℕ) (st : SessionState) (run : SessionRun) (t : Transcript) (st' : SessionState) → slice_get began i ≡ Some st → slice_get l.fn.runs.items i ≡ Some run
          → slice_get l.transcripts.items i ≡ Some t → slice_get l.states.items i ≡ Some st' → IsTold g.S.Steps.sound (as_seat (i + 1) k) st run t st' l.lacked;
    }

abbrev pub decreases-loop-runs : goal.decreases-loop-runs
decreases-loop-runs g l = length l.runs.items
