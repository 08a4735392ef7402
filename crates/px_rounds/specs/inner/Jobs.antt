-- Sessions in threads.
use Rattle.std.specs.Prelude.{ℕ, ◌≡◌, ◌≢◌, ◌≤◌, ◌+◌, Bool, false, None, Some, List, [], Vec, length, slice_get, vec_capacity}
use Rattle.std.specs.Global.{Global}
use Rattle.px_lex.specs.declared.script.Piece.{Piece}
use Rattle.px_trail.specs.declared.entry.Act.{Act}
use Rattle.px_trail.specs.declared.entry.Entry.{Entry}
use Rattle.px_trail.specs.Trail.{Base}
use Rattle.px_calls.specs.Known.{Known, Ran}
use Rattle.px_reply.specs.declared.transcript.Transcript.{Transcript}
use Rattle.px_session.specs.declared.run.SessionRun.{SessionRun}
use Rattle.px_session.specs.declared.state.Ending.TheVariants.{Memory}
use Rattle.px_session.specs.declared.state.SessionState.{SessionState}
use Rattle.px_session.specs.Live.{ArePlaced, IsSessionLive, seen_of}
use Rattle.px_session.specs.Replies.{IsSessionAnswered}
use Rattle.px_turn.specs.declared.lock.TurnSeat.{TurnSeat}
use Rattle.px_turn.specs.Seats.{seen_by_seat}
use Rattle.px_seat.specs.Grown.{mine}
use Rattle.px_rounds.specs.declared.job.Came.{Came}
use Rattle.px_rounds.specs.declared.job.Stage.{Stage}
use Rattle.px_rounds.specs.declared.job.Stage.TheVariants.{Ready, Over}
use Rattle.px_rounds.specs.declared.one.Lists.{Lists}
use Rattle.px_rounds.specs.inner.Desks.{IsFirst, IsTold}

-- the lists of a round of so many sessions, before these begin
pub record IsRoundLaid (count : ℕ) (l : Lists) : Type 0 where
  pub pieces : length l.pieces.items ≡ count
  pub placed : (i : ℕ) (pieces : Vec Piece Global) → slice_get l.pieces.items i ≡ Some pieces → ArePlaced pieces.items
  pub transcripts : (l.transcripts.items ≡ []) × (count ≤ vec_capacity l.transcripts)
  pub states : (l.states.items ≡ []) × (count ≤ vec_capacity l.states)

-- what stays of a session: its pieces, the place where it began, its number and its round
abbrev pub Unchanged : Type 0
Unchanged = Vec Piece Global × ℕ × ℕ × ℕ

abbrev pub told_of : SessionRun → Unchanged
told_of run = (run.pieces, run.from, run.session, run.round)

-- it has gone on by the seat's own acts, and is on its way
pub record CameOn {X : Type 0} (on_way : Known → X → Type 0) (stays : X → Unchanged) (k : Known) (x : X) (k' : Known) (x' : X) : Type 0 where
  pub acts : List Act
  pub ran : Ran k k' acts
  pub live : on_way k' x'
  pub same : stays x' ≡ stays x

-- it was run to its end
pub record RanOut {X : Type 0} (on_way : SessionState → Known → X → Type 0) (stays : X → Unchanged) (ended : X → Type 0) (k : Known) (x : X) (k' : Known) (x' : X) : Type 0 where
  pub steps : (began : SessionState) → on_way began k x → CameOn (on_way began) stays k x k' x'
  pub over : ended x'

-- a session was run to its end
abbrev pub RanJob : Type 0 → Known → SessionRun → Known → SessionRun → Type 0
RanJob sound k run k' run' = RanOut (λ began k run. IsSessionLive sound k began run) told_of (λ run. run.ending ≢ None) k run k' run'

-- the job may be run on this seat, from which the trail is seen so
pub record CanRun (k : Known) (session : ℕ) (stage : Stage) : Type 0 where
  pub pieces : Vec Piece Global
  pub state : SessionState
  pub is : stage ≡ Ready pieces state
  pub placed : ArePlaced pieces.items
  pub seat : k.seat ≡ session

-- a session that ended came to this, by each trail on which it is
pub record IsCame (sound : Type 0) (run : SessionRun) (c : Came) : Type 0 where
  pub session : c.transcript.session ≡ run.session
  pub round : c.transcript.round ≡ run.round
  pub answered : (k : Known) (began : SessionState) → IsSessionLive sound k began run → IsSessionAnswered sound k run.from (length k.seen) began (seen_of run) c.transcript c.state c.ending

-- the session of a job was run from its first step to its end
pub record RanStage (sound : Type 0) (number : ℕ) (k : Known) (stage : Stage) (k' : Known) (stage' : Stage) : Type 0 where
  pub pieces : Vec Piece Global
  pub state : SessionState
  pub came : Came
  pub was : stage ≡ Ready pieces state
  pub is : stage' ≡ Over came
  pub first : SessionRun
  pub last : SessionRun
  pub begins : IsFirst number (length k.seen) k.seat state pieces.items first
  pub ran : RanJob sound k first k' last
  pub told : IsCame sound last came

-- the job of session n, before it is run
pub record IsSet (b : Base) (d : ℕ → ℕ → Bool) (start : List Entry) (number n : ℕ) (st : SessionState) (pieces : Vec Piece Global) (k : Known) (session round : ℕ) (stage : Stage) : Type 0 where
  pub known : k ≡ mine n b d start
  pub session_is : session ≡ n
  pub round_is : round ≡ number
  pub stage_is : stage ≡ Ready pieces st

-- what a job came to was taken out of it
pub record IsTaken (stage : Stage) (t : Transcript) (st : SessionState) (lacked : Bool) : Type 0 where
  pub came : Came
  pub is : stage ≡ Over came
  pub transcript : came.transcript ≡ t
  pub state : came.state ≡ st
  pub whole : lacked ≡ false → came.ending ≢ Memory

-- Session n was run to its end on its seat; and what it came to, told of any trail on which it is
pub record SeatTold (sound : Type 0) (b : Base) (d : ℕ → ℕ → Bool) (start seen : List Entry) (number n : ℕ) (st : SessionState) (pieces : Vec Piece Global) (t : Transcript) (st' : SessionState) (lacked : Bool) : Type 0 where
  pub first : SessionRun
  pub last : SessionRun
  pub begins : IsFirst number (length start) n st pieces.items first
  pub ran : RanJob sound (mine n b d start) first (mine n b d seen) last
  pub told : (k : Known) → IsSessionLive sound k st last → IsTold sound k st last t st' lacked

-- Each session of a round was run to its end, on the seat of its number; seat 0 has seen no more than at first
pub record SeatsTold {T : Type 0} (sound : Type 0) (b : Base) (d : ℕ → ℕ → Bool) (start : List Entry) (number : ℕ) (states : List SessionState) (all : List (Vec Piece Global)) (seats : List (TurnSeat T Entry)) (ts : List Transcript) (states' : List SessionState) (lacked : Bool) : Type 0 where
  pub count : length seats ≡ length states + 1
  pub count' : length ts ≡ length states
  pub count'' : length states' ≡ length states
  pub idle : (seat : TurnSeat T Entry) → slice_get seats 0 ≡ Some seat → seen_by_seat seat ≡ start
  pub each : (i : ℕ) (st : SessionState) (pieces : Vec Piece Global) (seat : TurnSeat T Entry) (t : Transcript) (st' : SessionState) → slice_get states i ≡ Some st → slice_get all i ≡ Some pieces → slice_get seats (i + 1) ≡ Some seat → slice_get ts i ≡ Some t → slice_get states' i ≡ Some st'
      → SeatTold sound b d start (seen_by_seat seat) number (i + 1) st pieces t st' lacked
