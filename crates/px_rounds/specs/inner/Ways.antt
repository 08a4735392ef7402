-- One round more.
use Rattle.std.specs.Prelude.{ℕ, ◌≡◌, ◌++◌, ◌||◌, ◌⊎◌, Bool, true, false, List, length}
use Rattle.px_calls.specs.Known.{Known}
use Rattle.px_outside.specs.declared.sink.Sink.{Ghosts}
use Rattle.px_reply.specs.declared.transcript.Transcript.{Transcript}
use Rattle.px_reply.specs.Printed.{printed}
use Rattle.px_script.specs.declared.script.SessionText.{SessionText}
use Rattle.px_session.specs.declared.state.SessionState.{SessionState}
use Rattle.px_rounds.specs.Rounds.{HasRound}
use Rattle.px_rounds.specs.Written.{WritesRound}

-- nothing was run: all was stopped before, or memory was refused
pub record Stayed {O : Type 0} (k k' : Known) (states : List SessionState) (ts ts' : List Transcript) (states' : List SessionState) (out out' : O) (sink_failed memory sink_failed' memory' : Bool) : Type 0 where
  pub same : k'.seen ≡ k.seen
  pub ts_are : ts' ≡ ts
  pub states_are : states' ≡ states
  pub out_is : out' ≡ out
  pub sink : sink_failed' ≡ sink_failed
  pub stopped : sink_failed' || memory' ≡ true
  pub memory_is : memory ≡ true → memory' ≡ true

-- a round was run, and its replies written
pub record RanOne {O : Type 0} (sound : Type 0) (K : Ghosts O) (number : ℕ) (round : List SessionText) (k k' : Known) (states : List SessionState) (ts ts' : List Transcript) (states' : List SessionState) (out out' : O) (sink_failed memory sink_failed' memory' : Bool) : Type 0 where
  pub going : sink_failed || memory ≡ false
  pub answers : List Transcript
  pub ts_are : ts' ≡ ts ++ answers
  pub lacked : Bool
  pub has : HasRound sound k' (length k.seen) (length k'.seen) number states round answers states' lacked
  pub print_failed : Bool
  pub written : WritesRound K out out' (printed answers) sink_failed' print_failed
  pub memory_is : memory' ≡ (lacked || print_failed)

abbrev pub WentOn : {O : Type 0} → Type 0 → Ghosts O → ℕ → List SessionText → Known → Known → List SessionState → (ts ts' : List Transcript) → List SessionState → (out out' : O) → (sink_failed memory sink_failed' memory' : Bool) → Type 0
WentOn sound K number round k k' states ts ts' states' out out' sink_failed memory sink_failed' memory' =
    Stayed k k' states ts ts' states' out out' sink_failed memory sink_failed' memory'
    ⊎ RanOne sound K number round k k' states ts ts' states' out out' sink_failed memory sink_failed' memory'
