-- What a seat knows, and what its calls add to that.
use Rattle.std.specs.Prelude.{ℕ, ◌≡◌, ◌≢◌, Bool, true, false, filter, List, [], ◌∷◌, ◌++◌, None}
use Rattle.px_trail.specs.declared.entry.Act.{Act}
use Rattle.px_trail.specs.declared.entry.Act.TheVariants.{Made, IndexMade, IndexState, Dropped, Begun, Ended, Opened, Released}
use Rattle.px_trail.specs.declared.entry.Entry.{Entry}
use Rattle.px_trail.specs.Answers.{IsAmong}
use Rattle.px_trail.specs.Legal.{IsLegal}
use Rattle.px_trail.specs.Trail.{Base, acts_by, closing_call}

-- A seat's number, what stood before the trail, which places of which files aren't of the format, and the entries of the
-- trail that the seat has seen. Alone: no other seat acts between two of its calls, unless whoever holds the value lets one
pub record Known : Type 0 where
  pub seat : ℕ
  pub base : Base
  pub damaged : ℕ → ℕ → Bool
  pub alone : Bool
  pub seen : List Entry

-- time passes: others' entries come, and what is seen is legal
pub record TimePasses (k k' : Known) : Type 0 where
  pub others : List Entry
  pub seen : k'.seen ≡ k.seen ++ others
  pub apart : acts_by k.seat others ≡ []
  pub seat : k'.seat ≡ k.seat
  pub base : k'.base ≡ k.base
  pub damaged : k'.damaged ≡ k.damaged
  pub legal : IsLegal k'.base k'.seen

-- a call that adds nothing: the seat has then seen what others added since its call before, and that is legal
pub record Sees (k k' : Known) : Type 0 where
  pub passes : TimePasses k k'
  pub alone : k.alone ≡ true → passes.others ≡ []
  pub as_alone : k'.alone ≡ k.alone

-- one entry of this seat more
pub record Extends (k k' : Known) (act : Act) : Type 0 where
  pub calls : ℕ
  pub seen : k'.seen ≡ k.seen ++ record { seat = k.seat; calls = calls; act = act } ∷ []
  pub seat : k'.seat ≡ k.seat
  pub base : k'.base ≡ k.base
  pub damaged : k'.damaged ≡ k.damaged
  pub as_alone : k'.alone ≡ k.alone
  pub legal : IsLegal k'.base k'.seen

-- a call that adds one entry: others' entries come first, and the call's own is the last that the seat has then seen
pub record Adds (k k' : Known) (act : Act) : Type 0 where
  pub between : Known
  pub sees : Sees k between
  pub extends : Extends between k' act

-- a whole run of calls: what the seat has then seen begins with what it had seen, and these are the seat's own acts in the rest
pub record Ran (k k' : Known) (acts : List Act) : Type 0 where
  pub added : List Entry
  pub seen : k'.seen ≡ k.seen ++ added
  pub own : acts_by k.seat added ≡ acts
  pub apart : k.alone ≡ true → (seat : ℕ) → seat ≢ k.seat → acts_by seat added ≡ []
  pub seat : k'.seat ≡ k.seat
  pub base : k'.base ≡ k.base
  pub damaged : k'.damaged ≡ k.damaged
  pub as_alone : k'.alone ≡ k.alone
  pub legal : IsLegal k.base k.seen → IsLegal k'.base k'.seen

-- these acts begin a batch or end it, open a point or close it, or define
abbrev pub is_turn : Act → Bool
is_turn (Made t what) = true
is_turn (IndexMade t i s what) = true
is_turn (IndexState t i state s) = true
is_turn (Dropped t i) = true
is_turn (Begun t s cs) = true
is_turn (Ended t s) = true
is_turn (Opened t s scn) = true
is_turn (Released t s) = true
is_turn act = false

-- what a run began, ended, opened, closed and defined
abbrev pub outline : List Act → List Act
outline acts = filter is_turn acts

-- the seat has an entry with this act in what it has seen
abbrev pub HasMade : Known → Act → Type 0
HasMade k act = IsAmong act (acts_by k.seat k.seen)

-- the server isn't closed, as far as the seat has seen
abbrev pub IsRunning : Known → Type 0
IsRunning k = closing_call k.seen ≡ None
