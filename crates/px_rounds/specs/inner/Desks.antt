-- The runs of a round's sessions at its beginning and at its end.
use Rattle.std.specs.Prelude.{ℕ, ◌≡◌, ◌≢◌, ◌+◌, Bool, false, Some, List, Vec, length, map, slice_get}
use Rattle.std.specs.Global.{Global}
use Rattle.px_lex.specs.Script.{IsScript, Section, pieces_from, seen_piece}
use Rattle.px_lex.specs.declared.script.Piece.{Piece}
use Rattle.px_script.specs.declared.script.SessionText.{SessionText}
use Rattle.px_calls.specs.Known.{Known}
use Rattle.px_reply.specs.declared.transcript.Transcript.{Transcript}
use Rattle.px_session.specs.declared.run.SessionRun.{SessionRun}
use Rattle.px_session.specs.declared.state.Ending.{Ending}
use Rattle.px_session.specs.declared.state.Ending.TheVariants.{Memory}
use Rattle.px_session.specs.declared.state.SessionState.{SessionState}
use Rattle.px_session.specs.Live.{ArePlaced, StartsFrom, seen_of}
use Rattle.px_session.specs.Replies.{IsSessionAnswered}
use Rattle.px_rounds.specs.Rounds.{text_in}
use Rattle.px_rounds.specs.Turns.{as_seat}

-- the pieces of a text, each ending within the numbers of a place
pub record IsCut (text : List ℕ) (pieces : List Piece) : Type 0 where
  pub sections : List Section
  pub script : IsScript text sections
  pub cut : map seen_piece pieces ≡ pieces_from 0 sections
  pub placed : ArePlaced pieces

-- the pieces of each session of a round
pub record AreCut (round : List SessionText) (count : ℕ) (all : List (Vec Piece Global)) : Type 0 where
  pub count_is : length all ≡ count
  pub each : (i : ℕ) (pieces : Vec Piece Global) → slice_get all i ≡ Some pieces → IsCut (text_in round (i + 1)) pieces.items

-- the run of session n at the beginning of a round
pub record IsFirst (number from n : ℕ) (st : SessionState) (pieces : List Piece) (run : SessionRun) : Type 0 where
  pub pieces_are : run.pieces.items ≡ pieces
  pub session : run.session ≡ n
  pub round : run.round ≡ number
  pub starts : StartsFrom st from run

pub record AreFirst (number from : ℕ) (states : List SessionState) (all : List (Vec Piece Global)) (runs : List SessionRun) : Type 0 where
  pub count : length runs ≡ length states
  pub each : (i : ℕ) (st : SessionState) (pieces : Vec Piece Global) (run : SessionRun) → slice_get states i ≡ Some st → slice_get all i ≡ Some pieces → slice_get runs i ≡ Some run → IsFirst number from (i + 1) st pieces.items run

-- what a session came to, by the trail as it stands
pub record IsTold (sound : Type 0) (k : Known) (st : SessionState) (run : SessionRun) (t : Transcript) (st' : SessionState) (lacked : Bool) : Type 0 where
  pub session : t.session ≡ run.session
  pub round : t.round ≡ run.round
  pub ending : Ending
  pub answered : IsSessionAnswered sound k run.from (length k.seen) st (seen_of run) t st' ending
  pub whole : lacked ≡ false → ending ≢ Memory

pub record AreSessionsTold (sound : Type 0) (k : Known) (began : List SessionState) (runs : List SessionRun) (ts : List Transcript) (states : List SessionState) (lacked : Bool) : Type 0 where
  pub count : length ts ≡ length runs
  pub count' : length states ≡ length runs
  pub each : (i : ℕ) (st : SessionState) (run : SessionRun) (t : Transcript) (st' : SessionState) → slice_get began i ≡ Some st → slice_get runs i ≡ Some run → slice_get ts i ≡ Some t → slice_get states i ≡ Some st'
      → IsTold sound (as_seat (i + 1) k) st run t st' lacked
