-- Sessions that take turns.
use Rattle.std.specs.Prelude.{ℕ, ◌≡◌, ◌≢◌, ◌<◌, ◌+◌, ◌⊎◌, true, None, Some, List, [], ◌++◌, length, slice_get}
use Rattle.px_trail.specs.declared.entry.Entry.{Entry}
use Rattle.px_trail.specs.Legal.{IsLegal}
use Rattle.px_trail.specs.Trail.{acts_by}
use Rattle.px_calls.specs.Known.{Known}
use Rattle.px_session.specs.declared.run.SessionRun.{SessionRun}
use Rattle.px_session.specs.declared.state.SessionState.{SessionState}
use Rattle.px_session.specs.Live.{IsSameSession, IsSessionLive}

-- the same trail, as the seat n knows it
abbrev pub as_seat : ℕ → Known → Known
as_seat n k = record k { seat = n }

-- Each session is on its way, as its seat knows the trail, where these were their states before the round. Session n has seat n
pub record AreLive (sound : Type 0) (k : Known) (began : List SessionState) (runs : List SessionRun) : Type 0 where
  pub count : length began ≡ length runs
  pub each : (i : ℕ) (st : SessionState) (run : SessionRun) → slice_get began i ≡ Some st → slice_get runs i ≡ Some run → IsSessionLive sound (as_seat (i + 1) k) st run

abbrev pub AreOver : List SessionRun → Type 0
AreOver runs = (i : ℕ) (run : SessionRun) → slice_get runs i ≡ Some run → run.ending ≢ None

-- the same sessions of the same round
pub record AreSame (runs runs' : List SessionRun) : Type 0 where
  pub count : length runs' ≡ length runs
  pub each : (i : ℕ) (run run' : SessionRun) → slice_get runs i ≡ Some run → slice_get runs' i ≡ Some run' → IsSameSession run run'

-- nobody acts but those who are let act here, and the trail is legal
pub record IsSingle (k : Known) : Type 0 where
  pub alone : k.alone ≡ true
  pub legal : IsLegal k.base k.seen

-- of so many sessions none has this seat
abbrev pub IsNoSession : (count seat : ℕ) → Type 0
IsNoSession count seat = (seat ≡ 0) ⊎ (count < seat)

-- Turns of the sessions, by a schedule or in threads: the trail has grown by entries of theirs, and all are on their way
pub record Turned (sound : Type 0) (k : Known) (runs : List SessionRun) (k' : Known) (runs' : List SessionRun) : Type 0 where
  pub more : List Entry
  pub seen : k'.seen ≡ k.seen ++ more
  pub others : (seat : ℕ) → IsNoSession (length runs) seat → acts_by seat more ≡ []
  pub base : k'.base ≡ k.base
  pub damaged : k'.damaged ≡ k.damaged
  pub single : IsSingle k'
  pub live : (began : List SessionState) → AreLive sound k began runs → AreLive sound k' began runs'
  pub same : AreSame runs runs'

-- the trail goes on, and is legal; what it rests on stays; and nobody else acts on it
pub record TrailGoesOn (k k' : Known) : Type 0 where
  pub more : List Entry
  pub seen : k'.seen ≡ k.seen ++ more
  pub base : k'.base ≡ k.base
  pub damaged : k'.damaged ≡ k.damaged
  pub single : IsSingle k'
