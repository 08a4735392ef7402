-- What rounds leave.
use Rattle.std.specs.Prelude.{ℕ, replicate, ◌≡◌, ◌≢◌, ◌≤◌, ◌+◌, ◌==◌, Bool, true, false, if◌then◌else◌, None, Some, List, [], ◌∷◌, ◌++◌, length, take, drop, slice_get}
use Rattle.std.specs.List.{All, flat_map}
use Rattle.px_lex.specs.Script.{IsScript, Section, pieces_from}
use Rattle.px_script.specs.declared.script.SessionText.{SessionText}
use Rattle.px_trail.specs.Trail.{acts_by}
use Rattle.px_calls.specs.Known.{Known}
use Rattle.px_reply.specs.declared.transcript.Transcript.{Transcript}
use Rattle.px_session.specs.declared.state.Ending.{Ending}
use Rattle.px_session.specs.declared.state.Ending.TheVariants.{Memory}
use Rattle.px_session.specs.declared.state.SessionState.{SessionState}
use Rattle.px_session.specs.Replies.{IsSessionAnswered}
use Rattle.px_rounds.specs.Turns.{IsNoSession, as_seat}

-- the text of a session in a round; where it has none there, an empty one
abbrev pub text_in : List SessionText → ℕ → List ℕ
text_in [] n = []
text_in (x ∷ xs) n = if x.session == n then x.text else text_in xs n

-- A session in a round: its transcript answers the pieces of its text, and it came to its end, unless memory was lacked
pub record IsToldIn (sound : Type 0) (k : Known) (from to number : ℕ) (st : SessionState) (text : List ℕ) (t : Transcript) (st' : SessionState) (memory : Bool) : Type 0 where
  pub session : t.session ≡ k.seat
  pub round : t.round ≡ number
  pub sections : List Section
  pub cut : IsScript text sections
  pub ending : Ending
  pub answered : IsSessionAnswered sound k from to st (pieces_from 0 sections) t st' ending
  pub whole : memory ≡ false → ending ≢ Memory

-- A round between two places of the trail: each session from 1 on is answered there, on the seat of its number, and no other seat has entries
pub record HasRound (sound : Type 0) (k : Known) (from to number : ℕ) (states : List SessionState) (round : List SessionText) (ts : List Transcript) (states' : List SessionState) (memory : Bool) : Type 0 where
  pub forward : from ≤ to
  pub within : to ≤ length k.seen
  pub count : length ts ≡ length states
  pub count' : length states' ≡ length states
  pub each : (i : ℕ) (st : SessionState) (t : Transcript) (st' : SessionState) → slice_get states i ≡ Some st → slice_get ts i ≡ Some t → slice_get states' i ≡ Some st'
      → IsToldIn sound (as_seat (i + 1) k) from to number st (text_in round (i + 1)) t st' memory
  pub others : (seat : ℕ) → IsNoSession (length states) seat → acts_by seat (drop from (take to k.seen)) ≡ []

-- Rounds, one after another: each begins where the one before ended, with the states that it left
abbrev pub AreRounds : Type 0 → Known → (from number : ℕ) → List SessionState → List (List SessionText) → List (List Transcript) → (to : ℕ) → List SessionState → (memory : Bool) → Type 0
AreRounds sound k from number states [] [] to states' memory = (from ≡ to) × (states ≡ states')
AreRounds sound k from number states (r ∷ rs) (ts ∷ tss) to states' memory =
    (mid : ℕ) × (mids : List SessionState) × HasRound sound k from mid number states r ts mids memory × AreRounds sound k mid (number + 1) mids rs tss to states' memory
AreRounds sound k from number states rs tss to states' memory = ⊥

-- the transcripts of all rounds
abbrev pub all_transcripts : List (List Transcript) → List Transcript
all_transcripts tss = flat_map (λ ts. ts) tss

-- a session's first state
abbrev pub first_state : SessionState
first_state = record { settings = record { scn = None; autocommit = true; held = None }; stopped = false }

-- the states of so many sessions before the first round
abbrev pub fresh_sessions : ℕ → List SessionState
fresh_sessions n = replicate n first_state

-- Rounds from a trail of `from` entries on: the first ones are answered, and all of them, unless they were stopped
pub record RanRounds (sound : Type 0) (k : Known) (from : ℕ) (states : List SessionState) (rounds : List (List SessionText)) (ts : List Transcript) (states' : List SessionState) (sink_failed memory : Bool) : Type 0 where
  pub passed : List (List SessionText)
  pub rest : List (List SessionText)
  pub all : passed ++ rest ≡ rounds
  pub done : List (List Transcript)
  pub flat : ts ≡ all_transcripts done
  pub answered : AreRounds sound k from 1 states passed done (length k.seen) states' memory
  pub whole : sink_failed ≡ false → memory ≡ false → rest ≡ []

-- no session of the script has a greater number
abbrev pub AreWithin : ℕ → List (List SessionText) → Type 0
AreWithin count rounds = All (λ round. All (λ x. x.session ≤ count) round) rounds

-- The rounds of a script, for all of its sessions
pub record RanScript (sound : Type 0) (k : Known) (from : ℕ) (script : List (List SessionText)) (ts : List Transcript) (sink_failed memory : Bool) : Type 0 where
  pub sessions : ℕ
  pub within : AreWithin sessions script
  pub states : List SessionState
  pub ran : RanRounds sound k from (fresh_sessions sessions) script ts states sink_failed memory
