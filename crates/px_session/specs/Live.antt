-- A session on its way.
use Rattle.std.specs.Prelude.{ℕ, ◌≡◌, ◌≢◌, ◌⊎◌, ◌≤◌, ◌<◌, ◌+◌, ◌^◌, if◌then◌else◌, Bool, true, false, Option, None, Some, List, [], ◌∷◌, ◌++◌, length, map, drop, vec_capacity}
use Rattle.std.specs.List.{All}
use Rattle.px_lex.specs.Script.{SeenPiece, seen_piece}
use Rattle.px_lex.specs.declared.script.Piece.{Piece}
use Rattle.px_script.specs.Pieces.{span_of}
use Rattle.px_script.specs.declared.piece.Span.{Span}
use Rattle.px_trail.specs.declared.entry.Act.{Act}
use Rattle.px_calls.specs.Known.{Known, Ran}
use Rattle.px_reply.specs.declared.transcript.Item.{Item}
use Rattle.px_item.specs.declared.answered.Answered.{Answered}
use Rattle.px_item.specs.declared.answered.Settings.{Settings}
use Rattle.px_item.specs.declared.item.ItemRun.{ItemRun}
use Rattle.px_item.specs.Right.{IsAtOnce}
use Rattle.px_item.specs.Turns.{FitsItem, IsItemBegun}
use Rattle.px_session.specs.declared.run.Doing.{Doing}
use Rattle.px_session.specs.declared.run.Doing.TheVariants.{Idle, Under, Taken}
use Rattle.px_session.specs.declared.run.SessionRun.{SessionRun}
use Rattle.px_session.specs.declared.run.SessionTurn.{SessionTurn}
use Rattle.px_session.specs.declared.run.SessionTurn.TheVariants as turn
use Rattle.px_session.specs.declared.state.Ending.{Ending}
use Rattle.px_session.specs.declared.state.Ending.TheVariants.{Fatal}
use Rattle.px_session.specs.declared.state.SessionState.{SessionState}
use Rattle.px_session.specs.Replies.{AreReplied, EndsAs, Standing, at_first, goes_on, has_fatal, is_fatal, own_since, place_from, settled}

-- the step made one call of its seat's; any other makes none
abbrev pub makes_call : SessionTurn → Bool
makes_call turn.Stepped = true
makes_call turn.Waiting = true
makes_call turn.Passed = false
makes_call turn.Finished = false

abbrev pub with_doing : SessionRun → Doing → SessionRun
with_doing run d = record run { doing = d }

abbrev pub no_settings : Settings
no_settings = record { scn = None; autocommit = true; held = None }

abbrev pub settings_of : Doing → Settings
settings_of (Idle st) = st
settings_of (Under r span) = r.asked.settings
settings_of Taken = no_settings

abbrev pub seen_of : SessionRun → List SeenPiece
seen_of run = map seen_piece run.pieces.items

-- where the session stands
abbrev pub standing : SessionRun → Standing
standing run = record { settings = settings_of run.doing; left = drop run.next (seen_of run) }

-- the item of the next piece is under way: what the seat did since the last item is what it did for this one
pub record IsUnder (sound : Type 0) (k : Known) (before : ℕ) (left : List SeenPiece) (r : ItemRun) (span : Span) : Type 0 where
  pub rest : List SeenPiece
  pub next : left ≡ seen_piece r.asked.piece ∷ rest
  pub span_is : span ≡ span_of (seen_piece r.asked.piece)
  pub fits : FitsItem sound before r.asked (own_since k.seat before k.seen) r.state k

-- What the session does, as the trail tells it: nothing since its last item, or the item of the next piece
abbrev pub IsDoing : Type 0 → Known → ℕ → List SeenPiece → Doing → Type 0
IsDoing sound k before left (Idle st) = own_since k.seat before k.seen ≡ []
IsDoing sound k before left (Under r span) = IsUnder sound k before left r span
IsDoing sound k before left Taken = ⊥

abbrev pub EndsSoFar : Option Ending → List SeenPiece → List Item → Type 0
EndsSoFar None left items = has_fatal items ≡ false
EndsSoFar (Some e) left items = EndsAs e left items

abbrev pub IsIdle : Doing → Type 0
IsIdle (Idle st) = Unit {0}
IsIdle d = ⊥

abbrev pub IdleAtEnd : Option Ending → Doing → Type 0
IdleAtEnd None d = Unit {0}
IdleAtEnd (Some e) d = IsIdle d

-- there is room for the item of what is under way
abbrev pub HasRoom : Doing → (count capacity : ℕ) → Type 0
HasRoom (Under r span) count capacity = count < capacity
HasRoom d count capacity = Unit {0}

-- each piece ends within the numbers of a place
abbrev pub ArePlaced : List Piece → Type 0
ArePlaced ps = All (λ p. p.place + length p.text.now < 2 ^ 64) ps

-- A session on its way: its items so far are answered, and what is under way is as the trail tells. Others' entries keep this
pub record IsSessionLive (sound : Type 0) (k : Known) (began : SessionState) (run : SessionRun) : Type 0 where
  pub replied : AreReplied sound k run.from (at_first began (seen_of run)) run.items.items run.before (standing run)
  pub within : run.before ≤ length k.seen
  pub doing : IsDoing sound k run.before (standing run).left run.doing
  pub ends : EndsSoFar run.ending (standing run).left run.items.items
  pub idle : IdleAtEnd run.ending run.doing
  pub room : HasRoom run.doing (length run.items.items) (vec_capacity run.items)
  pub stopped : run.stopped ≡ began.stopped
  pub placed : ArePlaced run.pieces.items

-- the same session of the same round
pub record IsSameSession (run run' : SessionRun) : Type 0 where
  pub pieces : run'.pieces ≡ run.pieces
  pub from : run'.from ≡ run.from
  pub session : run'.session ≡ run.session
  pub round : run'.round ≡ run.round

-- a session at the beginning of a round
pub record StartsFrom (began : SessionState) (from : ℕ) (run : SessionRun) : Type 0 where
  pub next : run.next ≡ place_from (length run.pieces.items) began.stopped
  pub from_is : run.from ≡ from
  pub before : run.before ≡ from
  pub doing : run.doing ≡ Idle began.settings
  pub items : run.items.items ≡ []
  pub ending : run.ending ≡ None
  pub stopped : run.stopped ≡ began.stopped
  pub placed : ArePlaced run.pieces.items

-- one step
pub record StepsOn (sound : Type 0) (began : SessionState) (k : Known) (run : SessionRun) (k' : Known) (run' : SessionRun) : Type 0 where
  pub acts : List Act
  pub ran : Ran k k' acts
  pub live : IsSessionLive sound k' began run'
  pub same : IsSameSession run run'

abbrev pub IsOverAt : SessionTurn → Option Ending → Type 0
IsOverAt turn.Finished e = e ≢ None
IsOverAt t e = Unit {0}

abbrev pub fatal_ending : Bool → Option Ending
fatal_ending true = Some Fatal
fatal_ending false = None

abbrev pub item_of : Span → Answered → ℕ → Item
item_of span a last = record { statement = span; reply = a.reply; evidence = record { receipts = a.receipts; places = a.places; first = a.first; last = last } }

-- an item more
pub record IsPushed (run : SessionRun) (span : Span) (a : Answered) (last : ℕ) (run' : SessionRun) : Type 0 where
  pub items : run'.items.items ≡ run.items.items ++ item_of span a last ∷ []
  pub next : run'.next ≡ (if goes_on a.after then run.next + 1 else run.next)
  pub before : run'.before ≡ last
  pub doing : run'.doing ≡ Idle (settled a.after)
  pub ending : run'.ending ≡ fatal_ending (is_fatal a.reply)
  pub stopped : run'.stopped ≡ run.stopped
  pub same : IsSameSession run run'

-- the next piece was begun: it is answered, or under way
pub record IsPieceBegun (run : SessionRun) (st : Settings) (p : Piece) (first : ℕ) (r : ItemRun) (run' : SessionRun) : Type 0 where
  pub begun : IsItemBegun st (seen_piece p) r
  pub first_is : r.asked.first ≡ first
  pub is : run' ≡ with_doing run (Under r (span_of (seen_piece p)))

abbrev pub UnderWay : SessionRun → Settings → Piece → ℕ → SessionRun → Type 0
UnderWay run st p first run' =
    ((a : Answered) × IsAtOnce st (seen_piece p) a × (a.first ≡ first) × IsPushed run (span_of (seen_piece p)) a first run')
    ⊎ ((r : ItemRun) × IsPieceBegun run st p first r run')
