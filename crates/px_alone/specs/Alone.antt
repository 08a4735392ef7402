-- What one session alone is answered: a fold over its pieces.
use Rattle.std.specs.Prelude.{ℕ, ◌≡◌, ◌≢◌, ◌≤◌, ◌++◌, true, if◌then◌else◌, List, [], ◌∷◌, drop, length, map, take, Option, None, Some}
use Rattle.std.specs.List.{AllByRecursion}
use Rattle.px_values.specs.declared.name.TableId.{TableId}
use Rattle.px_lex.specs.Script.{SeenPiece}
use Rattle.px_trail.specs.Batches.{Batch, batch_of}
use Rattle.px_trail.specs.Legal.{IsLegal}
use Rattle.px_trail.specs.States.{begun}
use Rattle.px_trail.specs.Trail.{Base, acts_by, catalogue_of, draws, horizon_of, last_of, shape_of}
use Rattle.px_trail.specs.declared.entry.Act.{Act}
use Rattle.px_trail.specs.declared.entry.Act.TheVariants.{Begun, IndexMade, IndexState, Raised}
use Rattle.px_trail.specs.declared.entry.Entry.{Entry}
use Rattle.px_calls.specs.Known.{Known, outline}
use Rattle.px_reply.specs.Refusals.{cause_of, refusal_in}
use Rattle.px_reply.specs.declared.refusal.Cause.TheVariants.{Statement}
use Rattle.px_reply.specs.declared.refusal.Refusal.{Refusal}
use Rattle.px_reply.specs.declared.transcript.Item.{Item}
use Rattle.px_reply.specs.declared.refusal.Refusal.TheVariants as refusal
use Rattle.px_reply.specs.declared.reply.Reply.{Reply}
use Rattle.px_reply.specs.declared.reply.Reply.TheVariants.{Refused}
use Rattle.px_item.specs.declared.answered.Settings.{Settings}
use Rattle.px_session.specs.Replies.{Standing, onward}
use Rattle.px_alone.specs.Answers.{ComesAlone, AloneOutcome}
use Rattle.px_alone.specs.Tables.{Tables, after, after_all}

-- What happens: a horizon rises; or the next piece is answered, and draws these stamps
pub data AloneEvent : Type 0 where
  Rose : TableId → ℕ → AloneEvent
  Told : List ℕ → Reply → AloneEvent

-- Each piece is answered on the tables as they then stand, under the settings that the one before left, and the next one on the tables as it leaves them.
-- No memory is lacked.
abbrev pub RunsAlone : Tables → Standing → List AloneEvent → Tables → Standing → Type 0
RunsAlone x at [] x' at' = (x ≡ x') × (at ≡ at')
RunsAlone x at (Rose t h ∷ events) x' at' = RunsAlone (after x (Raised t h)) at events x' at'
RunsAlone x at (Told stamps reply ∷ events) x' at' =
    (p : SeenPiece) × (rest : List SeenPiece) × (o : AloneOutcome) × (at.left ≡ p ∷ rest) × ComesAlone x at.settings p o × (o.stamps ≡ stamps) × (o.reply ≡ reply) × (reply ≢ Refused refusal.Memory) × RunsAlone (after_all x o.acts) (onward o.next p rest) events x' at'

-- The pieces of all rounds, one round after another, with what happens in each: the settings go on, and each round is answered to its end
abbrev pub AloneThrough : Tables → Settings → List (List SeenPiece) → List (List AloneEvent) → Tables → Settings → Type 0
AloneThrough x st [] [] x' st' = (x ≡ x') × (st ≡ st')
AloneThrough x st (pieces ∷ rounds) (events ∷ rest) x' st' =
    (mid : Tables) × (settings : Settings) × RunsAlone x (record { settings = st; left = pieces }) events mid (record { settings = settings; left = [] }) × AloneThrough mid settings rounds rest x' st'
AloneThrough x st rounds events x' st' = ⊥

-- ---- what of it is read off a trail

-- what is told, the stamps that are drawn, and the horizons that rise
abbrev pub replies_of : List AloneEvent → List Reply
replies_of [] = []
replies_of (Rose t h ∷ events) = replies_of events
replies_of (Told stamps reply ∷ events) = reply ∷ replies_of events

abbrev pub stamps_drawn : List AloneEvent → List ℕ
stamps_drawn [] = []
stamps_drawn (Rose t h ∷ events) = stamps_drawn events
stamps_drawn (Told stamps reply ∷ events) = stamps ++ stamps_drawn events

abbrev pub rises : List AloneEvent → List Act
rises [] = []
rises (Rose t h ∷ events) = Raised t h ∷ rises events
rises (Told stamps reply ∷ events) = rises events

-- the stamp that an act draws, and the horizon that it raises
abbrev pub stamp_by : Act → List ℕ
stamp_by (Begun t s cs) = s ∷ []
stamp_by (IndexMade t i s what) = s ∷ []
stamp_by (IndexState t i state s) = if draws state then s ∷ [] else []
stamp_by act = []

abbrev pub rise_by : Act → List Act
rise_by (Raised t h) = Raised t h ∷ []
rise_by act = []

abbrev pub trail_stamps : List Entry → List ℕ
trail_stamps [] = []
trail_stamps (e ∷ es) = stamp_by e.act ++ trail_stamps es

abbrev pub trail_rises : List Entry → List Act
trail_rises [] = []
trail_rises (e ∷ es) = rise_by e.act ++ trail_rises es

-- ---- the fold and a trail

-- what stands by a trail, where each batch that has begun counts as done
abbrev pub tables_at : Base → List Entry → Tables
tables_at b es = record { first = b; catalogue = catalogue_of b es; shapes = λ t. shape_of b es t; last = λ t. last_of b t es; horizon = λ t. horizon_of b t es; changes = λ t r. begun t r es }

-- the entries from one place to another
abbrev pub entries_between : ℕ → ℕ → List Entry → List Entry
entries_between n m es = drop n (take m es)

-- Between two places nobody but this seat begins, ends, opens, closes or defines anything, and nothing was under way before
pub record ActsAlone (k : Known) (n m : ℕ) : Type 0 where
  pub legal : IsLegal k.base k.seen
  pub forward : n ≤ m
  pub within : m ≤ length k.seen
  pub ended : (t s : ℕ) (y : Batch) → batch_of t s (take n k.seen) ≡ Some y → y.ended ≡ true
  pub others : (seat : ℕ) → seat ≢ k.seat → outline (acts_by seat (entries_between n m k.seen)) ≡ []

-- a reply that isn't refused, or is refused for the statement's own sake
abbrev pub IsOwnCause : Option Refusal → Type 0
IsOwnCause None = Unit {0}
IsOwnCause (Some r) = cause_of r ≡ Statement

abbrev pub AreQuiet : List Item → Type 0
AreQuiet items = AllByRecursion (λ i. IsOwnCause (refusal_in i.reply)) items

-- What a session was told between two places is the fold over its pieces, by the stamps that were drawn there and the horizons that rose
pub record IsFolded (b : Base) (es : List Entry) (n m : ℕ) (at : Standing) (items : List Item) (to : Standing) : Type 0 where
  pub events : List AloneEvent
  pub alone : RunsAlone (tables_at b (take n es)) at events (tables_at b (take m es)) to
  pub told : replies_of events ≡ map (λ i. i.reply) items
  pub drawn : stamps_drawn events ≡ trail_stamps (entries_between n m es)
  pub rose : rises events ≡ trail_rises (entries_between n m es)
