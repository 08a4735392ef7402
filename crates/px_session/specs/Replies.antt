-- What a session's items answer, one after another, and what a session comes to in a round.
use Rattle.std.specs.Prelude.{ℕ, ◌≡◌, ◌≤◌, Bool, true, false, ◌||◌, if◌then◌else◌, Option, None, Some, List, [], ◌∷◌, ◌++◌, length, take, drop}
use Rattle.std.specs.List.{list_any}
use Rattle.px_lex.specs.Script.{SeenPiece}
use Rattle.px_script.specs.Pieces.{span_of}
use Rattle.px_trail.specs.declared.entry.Act.{Act}
use Rattle.px_trail.specs.declared.entry.Entry.{Entry}
use Rattle.px_trail.specs.Trail.{acts_by}
use Rattle.px_calls.specs.Known.{Known, outline}
use Rattle.px_reply.specs.declared.refusal.Refusal.{Refusal}
use Rattle.px_reply.specs.declared.refusal.Refusal.TheVariants as refusal
use Rattle.px_reply.specs.declared.reply.Reply.{Reply}
use Rattle.px_reply.specs.Refusals.{refusal_in}
use Rattle.px_reply.specs.declared.transcript.Item.{Item}
use Rattle.px_reply.specs.declared.transcript.Transcript.{Transcript}
use Rattle.px_item.specs.declared.answered.After.{After}
use Rattle.px_item.specs.declared.answered.After.TheVariants as next_is
use Rattle.px_item.specs.declared.answered.Answered.{Answered}
use Rattle.px_item.specs.declared.answered.Settings.{Settings}
use Rattle.px_item.specs.Right.{IsRight, known_after}
use Rattle.px_session.specs.declared.state.Ending.{Ending}
use Rattle.px_session.specs.declared.state.Ending.TheVariants.{Whole, Fatal, Memory}
use Rattle.px_session.specs.declared.state.SessionState.{SessionState}

-- ---- one item

abbrev pub is_closing : Refusal → Bool
is_closing refusal.WriteFault = true
is_closing (refusal.Closed call) = true
is_closing r = false

abbrev pub stops_session : Option Refusal → Bool
stops_session (Some r) = is_closing r
stops_session None = false

-- the session is stopped by it
abbrev pub is_fatal : Reply → Bool
is_fatal r = stops_session (refusal_in r)

-- what the seat itself began, ended, opened, closed and defined after the first n entries
abbrev pub own_since : ℕ → ℕ → List Entry → List Act
own_since seat n es = outline (acts_by seat (drop n es))

-- the settings after an item
abbrev pub settled : After → Settings
settled (next_is.Next st) = st
settled (next_is.Again st) = st

-- the next piece is asked then, and not the same one once more
abbrev pub goes_on : After → Bool
goes_on (next_is.Next st) = true
goes_on (next_is.Again st) = false

-- what an item says, with what is after it
abbrev pub answer_with : Item → After → Answered
answer_with i after = record { reply = i.reply; receipts = i.evidence.receipts; places = i.evidence.places; first = i.evidence.first; after = after }

-- The item answers the piece under these settings, by the entries up to its last, and this is after it. Its own are those of its seat since the item
-- before, which ended after n
pub record IsReplied (sound : Type 0) (k : Known) (n : ℕ) (st : Settings) (p : SeenPiece) (i : Item) (next : After) : Type 0 where
  pub statement : i.statement ≡ span_of p
  pub begins : n ≤ i.evidence.first
  pub ends : i.evidence.first ≤ i.evidence.last
  pub within : i.evidence.last ≤ length k.seen
  pub right : IsRight sound (known_after i.evidence.last k) n (own_since k.seat n (take i.evidence.last k.seen)) st p (answer_with i next)

-- ---- the items of a session, one after another

-- where a session stands between two items: its settings, and the pieces that are left
pub record Standing : Type 0 where
  pub settings : Settings
  pub left : List SeenPiece

-- where it stands after an item of its next piece
abbrev pub onward : After → SeenPiece → List SeenPiece → Standing
onward (next_is.Next st) p rest = record { settings = st; left = rest }
onward (next_is.Again st) p rest = record { settings = st; left = p ∷ rest }

-- Each item answers the next piece, from the place n to the place m. A commit that a piece asks for before itself is an item of its own
abbrev pub AreReplied : Type 0 → Known → ℕ → Standing → List Item → ℕ → Standing → Type 0
AreReplied sound k n at [] m to = (n ≡ m) × (at ≡ to)
AreReplied sound k n at (i ∷ is) m to =
    (p : SeenPiece) × (rest : List SeenPiece) × (next : After) × (at.left ≡ p ∷ rest) × IsReplied sound k n at.settings p i next × AreReplied sound k i.evidence.last (onward next p rest) is m to

abbrev pub has_fatal : List Item → Bool
has_fatal items = list_any (λ i. is_fatal i.reply) items

-- the last item stops the session, and no other
pub record LastFatal (items : List Item) : Type 0 where
  pub before : List Item
  pub item : Item
  pub is : items ≡ before ++ item ∷ []
  pub quiet : has_fatal before ≡ false
  pub fatal : is_fatal item.reply ≡ true

-- how it ended: all is answered; or it was stopped; or memory ran out
abbrev pub EndsAs : Ending → List SeenPiece → List Item → Type 0
EndsAs Whole left items = (left ≡ []) × (has_fatal items ≡ false)
EndsAs Fatal left items = LastFatal items
EndsAs Memory left items = has_fatal items ≡ false

-- ---- a session in a round

-- a stopped session has nothing to run
abbrev pub place_from : ℕ → Bool → ℕ
place_from count stopped = if stopped then count else 0

abbrev pub at_first : SessionState → List SeenPiece → Standing
at_first st ps = record { settings = st.settings; left = drop (place_from (length ps) st.stopped) ps }

abbrev pub is_stopped : Ending → Bool
is_stopped Whole = false
is_stopped Fatal = true
is_stopped Memory = false

-- a session stays stopped
abbrev pub state_after : (stopped : Bool) → Ending → Settings → SessionState
state_after stopped e st = record { settings = st; stopped = stopped || is_stopped e }

-- Of the entries from the place `from` up to the place `to` those of this seat that begin, end, open, close and define are those of
-- the items, in order, and no others; each item is answered by the trail at its end
pub record IsSessionAnswered (sound : Type 0) (k : Known) (from to : ℕ) (st : SessionState) (ps : List SeenPiece) (t : Transcript) (st' : SessionState) (e : Ending) : Type 0 where
  pub last : ℕ
  pub standing : Standing
  pub replied : AreReplied sound k from (at_first st ps) t.items last standing
  pub in_round : last ≤ to
  pub within : to ≤ length k.seen
  pub rest : own_since k.seat last (take to k.seen) ≡ []
  pub ends : EndsAs e standing.left t.items
  pub state : st' ≡ state_after st.stopped e standing.settings
