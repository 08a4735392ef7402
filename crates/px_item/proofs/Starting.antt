-- How an item begins.
use Rattle.std.proofs.Common.{ℕ, ◌≡◌, ◌≢◌, ◌≤◌, Bool, true, false, length, Option, None, Some, Ok, Err, [], refl, sym, ◌∙◌, ap, subst, inl, inr, arith}
use Rattle.px_lex.specs.Script.{SeenPiece, seen_piece}
use Rattle.px_held.specs.HeldData.{HeldData}
use Rattle.px_commands.specs.declared.command.Command.{Command}
use Rattle.px_commanding.specs.Commits as commits
use Rattle.px_commanding.specs.Counts as counts
use Rattle.px_commanding.specs.declared.commit.CommitRun.{CommitRun}
use Rattle.px_commanding.specs.declared.count.CountRun.{CountRun}
use Rattle.px_ast.specs.declared.statement.Statement.{Statement}
use Rattle.px_ast.specs.declared.statement.Statement.TheVariants as s
use Rattle.px_calls.specs.declared.definition.Definition.{Definition}
use Rattle.px_calls.specs.Known.{Known}
use Rattle.px_defining.specs.Turns as define
use Rattle.px_defining.specs.declared.define.DefineState.{DefineState}
use Rattle.px_reply.specs.declared.refusal.Refusal.{Refusal}
use Rattle.px_reply.specs.declared.reply.Reply.TheVariants as reply
use Rattle.px_item.specs.declared.answered.Answered.{Answered}
use Rattle.px_item.specs.declared.answered.Asked.{Asked}
use Rattle.px_item.specs.declared.answered.Settings.{Settings}
use Rattle.px_item.specs.declared.item.ItemRun.{ItemRun}
use Rattle.px_item.specs.declared.item.ItemState.{ItemState}
use Rattle.px_item.specs.declared.item.ItemState.TheVariants as state
use Rattle.px_item.specs.Right as right
use Rattle.px_item.specs.Right.{AsksCommit, AsksToCommit, IsAtOnce, IsCreationIf, IsReadItem, MayRun, SaysRefused, is_answer_built}
use Rattle.px_item.specs.Turns.{FitsItem, FitsState, HasBegun, IsItemBegun, IsStart}

pub refused_so : (st : Settings) (p : SeenPiece) (x : Statement) (r : Refusal) (a : Answered) → IsReadItem p (Ok x) → MayRun st x → is_answer_built x ≡ true → IsCreationIf x (Some (Err r)) → SaysRefused a r st → IsAtOnce st p a
refused_so st p (s.CreateTable t) r a read free built (inl e) says = right.is_lacking (says.0 ∙ ap reply.Refused e, says.1, says.2, says.3)
refused_so st p (s.CreateTable t) r a read free built (inr e) says = right.is_wrong_table t e.0 read built (free refl) e.1 (says.0 ∙ ap reply.Refused e.2, says.1, says.2, says.3)
refused_so st p x r a read free built h says = absurd h

pub none_is : (o : Option HeldData) → Rattle.std.specs.Option.is_some o ≡ false → o ≡ None
none_is None e = refl
none_is (Some h) e = cc

-- what a command is answered at once
pub commanded_so : (st : Settings) (p : SeenPiece) (c d : Command) (a : Answered) (first : ℕ) → right.IsCommandRead p (Ok c) → c ≡ d → right.SaysOf st d a → a.first ≡ first → IsAtOnce st p a × (a.first ≡ first)
commanded_so st p c d a first read is says here = (right.is_command c read (subst (λ (y : Command). right.SaysOf st y a) (sym is) says), here)

-- why a command commits what is held
asks_itself : (k : Known) (first : ℕ) (st : Settings) (p : SeenPiece) (h : HeldData) (again : Bool) → AsksCommit p again → AsksToCommit k first st p h again
asks_itself k first st p h true a = inl a
asks_itself k first st p h false a = a

some_held : (o : Option HeldData) → o ≢ None → (h : HeldData) × (o ≡ Some h)
some_held None some = absurd (some refl)
some_held (Some h) some = (h, refl)

start_state : (sound : Type 0) (before : ℕ) (asked : Asked) (st : ItemState) (k : Known) → before ≤ asked.first → asked.first ≤ length k.seen → IsStart asked st → FitsState sound before asked [] st k × HasBegun [] st
start_state sound before asked (state.Finding y) k low within i = (i.0, refl)
start_state sound before asked (state.Changing y run room) k low within i = absurd i
start_state sound before asked (state.Defining y run) k low within i =
    let c = i.1.3 in
    let F : Definition × DefineState → Type 0 = λ q. define.FitsDefinition sound q.0 q.1 k × define.IsDefinitionGoing q.1 in
    let fits = subst F (λ j. (sym c.1 j, sym c.2 j)) (c.3, tt) in (
      (i.0, inr record { create = i.1.0; is = i.1.1; whole = i.1.2; right = c.0; definition = c.1; fits = fits.0; going = fits.1 }),
      refl,
    )
start_state sound before asked (state.Building y run) k low within i = absurd i
start_state sound before asked (state.Selecting y run) k low within i = absurd i
start_state sound before asked (state.Deleting y run) k low within i = absurd i
start_state sound before asked (state.Seeking y run) k low within i = absurd i
start_state sound before asked (state.Committing again run) k low within i =
    let h = some_held asked.settings.held i.1 in
    let F : CommitRun → Type 0 = λ r. commits.FitsCommit sound h.0 r k × commits.IsCommitSince before r k × ([] ≡ commits.begun_by_commit r) in
    let new = subst F (sym i.2) (tt, omega arith, refl) in
    (record { held = h.0; is = h.1; asks = asks_itself k asked.first asked.settings (seen_piece asked.piece) h.0 again i.0; fits = new.0; since = new.1 }, new.2)
start_state sound before asked (state.Counting name run) k low within i =
    let F : CountRun → Type 0 = λ r. counts.FitsCount asked.first name r k in
    (record { read = i.0; fits = subst F (sym i.1) within }, refl)
start_state sound before asked (state.Ordering run) k low within i = (i.0, refl)

-- an item that was begun is as the trail tells, and has begun nothing of its own
pub starts_fitting : (sound : Type 0) (before : ℕ) (st : Settings) (p : SeenPiece) (r : ItemRun) (k : Known) → before ≤ r.asked.first → r.asked.first ≤ length k.seen → IsItemBegun st p r → FitsItem sound before r.asked [] r.state k
starts_fitting sound before st p r k low within b =
    let s = start_state sound before r.asked r.state k low within b.state in record { begins = low; within = within; state = s.0; done = s.1 }
