-- How a commit and a status go on.
use Rattle.std.proofs.Common.{ℕ, ◌≡◌, Bool, Some, Result, Ok, Err, List, [], ◌++◌, refl, sym, ◌∙◌, subst, arith, Vec}
use Rattle.std.specs.Global.{Global}
use Rattle.px_lex.specs.Script.{seen_piece}
use Rattle.px_trail.specs.declared.entry.Act.{Act}
use Rattle.px_calls.specs.declared.ticket.Receipt.{Receipt}
use Rattle.px_calls.specs.Known.{Known, Ran, outline}
use Rattle.px_batch.specs.declared.batch.BatchFault.{BatchFault}
use Rattle.px_held.specs.HeldData.{HeldData}
use Rattle.px_calls.specs.declared.status.Status.{Status}
use Rattle.px_commanding.specs.Commits as commits
use Rattle.px_commanding.specs.Counts as counts
use Rattle.px_commanding.specs.declared.commit.CommitRun.{CommitRun}
use Rattle.px_commanding.specs.declared.commit.CommitTurn.TheVariants as ct
use Rattle.px_commanding.specs.declared.count.CountFault.{CountFault}
use Rattle.px_commanding.specs.declared.count.CountRun.{CountRun}
use Rattle.px_commanding.specs.declared.count.CountTurn.TheVariants as nt
use Rattle.px_item.specs.declared.answered.Answered.{Answered}
use Rattle.px_item.specs.declared.answered.Asked.{Asked}
use Rattle.px_item.specs.declared.item.ItemState.TheVariants as state
use Rattle.px_item.specs.declared.item.ItemTurn.TheVariants as turn
use Rattle.px_item.specs.Right as right
use Rattle.px_item.specs.Right.{AsksToCommit, IsCommitted, IsCounted, IsRight, plain}
use Rattle.px_item.specs.Turns.{FitsItem, IsCommitting, ItemTurns}
use Rattle.px_item.proofs.Plain.{asks_plain, committed_plain, count_since_plain, counted_plain, batch_since_plain}
use Rattle.px_item.proofs.Passing.{Later, longer, of_ran, some_data, asks_later, first_low, first_within, and_then}

-- `mine` is what was done for the item so far
module _ (sound : Type 0) (before : ℕ) (asked : Asked) (mine : List Act) where
  -- what is held is committed

  held_is : (again : Bool) (run : CommitRun) (h : HeldData) (k : Known) → asked.settings.held ≡ Some h → (f : IsCommitting sound before asked again run k) → f.held ≡ h
  held_is again run h k is f = some_data f.held h (sym f.is ∙ is)

  pub commit_fits : (again : Bool) (run : CommitRun) (h : HeldData) (k : Known) → asked.settings.held ≡ Some h → IsCommitting sound before asked again run k → commits.FitsCommit sound h run k
  commit_fits again run h k is f = subst (λ (x : HeldData). commits.FitsCommit sound x run k) (held_is again run h k is f) f.fits

  asks_now : (again : Bool) (run : CommitRun) (h : HeldData) (k k' : Known) → asked.settings.held ≡ Some h → IsCommitting sound before asked again run k → Later k k' → AsksToCommit k' asked.first asked.settings (seen_piece asked.piece) h again
  asks_now again run h k k' is f later =
      asks_later k k' asked.first asked.settings (seen_piece asked.piece) h again later (subst (λ (x : HeldData). AsksToCommit k asked.first asked.settings (seen_piece asked.piece) x again) (held_is again run h k is f) f.asks)

  commit_stays : (again : Bool) (old new : CommitRun) (h : HeldData) (k k' : Known) (acts : List Act) → asked.settings.held ≡ Some h → FitsItem sound before asked mine (state.Committing again old) k → Ran k k' acts → commits.FitsCommit sound h new k' → commits.begun_by_commit old ++ outline acts ≡ commits.begun_by_commit new
      → commits.IsCommitSince before new k' → FitsItem sound before asked (mine ++ outline acts) (state.Committing again new) k'
  commit_stays again old new h k k' acts is f ran fits sum since =
      let later = of_ran k k' acts ran in
      record {
        begins = f.begins;
        within = longer k k' asked.first later f.within;
        state = record { held = h; is = is; asks = asks_now again old h k k' is f.state later; fits = fits; since = since };
        done = and_then mine (commits.begun_by_commit old) acts f.done ∙ sum;
      }

  pub commit_goes_on : (again : Bool) (old new : CommitRun) (h : HeldData) (k k' : Known) → asked.settings.held ≡ Some h → FitsItem sound before asked mine (state.Committing again old) k → commits.CommitTurns sound h old k k' (ct.Stepped new)
      → ItemTurns sound before asked mine k k' (turn.Stepped (record { asked = asked; state = state.Committing again new }))
  commit_goes_on again old new h k k' is f t = record { acts = t.acts; ran = t.ran; told = (refl, commit_stays again old new h k k' t.acts is f t.ran t.told.0 t.told.1 (t.since before f.state.since)) }

  pub commit_waits : (again : Bool) (old new : CommitRun) (h : HeldData) (k k' : Known) → asked.settings.held ≡ Some h → FitsItem sound before asked mine (state.Committing again old) k → commits.CommitTurns sound h old k k' (ct.Waiting new)
      → ItemTurns sound before asked mine k k' (turn.Waiting (record { asked = asked; state = state.Committing again new }))
  commit_waits again old new h k k' is f t = record { acts = t.acts; ran = t.ran; told = (refl, commit_stays again old new h k k' t.acts is f t.ran t.told.0 t.told.1 (t.since before f.state.since)) }

  commit_told : (again : Bool) (h : HeldData) (k : Known) (own : List Act) (r : Result (Vec Receipt Global) BatchFault) (a : Answered) → asked.settings.held ≡ Some h → AsksToCommit k a.first asked.settings (seen_piece asked.piece) h again → commits.IsCommitOutcome sound h own k r
      → commits.IsCommitSinceThen before k (ct.Over r) → right.CommitTold asked h again r a → IsRight sound (plain k) before own asked.settings (seen_piece asked.piece) a
  commit_told again h k own (Ok rs) a is asks out since c = right.is_committed again h rs is (asks_plain k a.first asked.settings (seen_piece asked.piece) h again asks) (committed_plain sound h own k (Ok rs) out) c
  commit_told again h k own (Err e) a is asks out since c =
      right.is_not_committed again h e is (asks_plain k a.first asked.settings (seen_piece asked.piece) h again asks) (committed_plain sound h own k (Err e) out) (batch_since_plain before e k since) c.0 (c.1, c.2, c.3)

  pub commit_is_over : (again : Bool) (old : CommitRun) (h : HeldData) (k k' : Known) (r : Result (Vec Receipt Global) BatchFault) (a : Answered) → asked.settings.held ≡ Some h → FitsItem sound before asked mine (state.Committing again old) k → commits.CommitTurns sound h old k k' (ct.Over r)
      → IsCommitted asked again r a → ItemTurns sound before asked mine k k' (turn.Over a)
  commit_is_over again old h k k' r a is f t c =
      let later = of_ran k k' t.acts t.ran in
      let first = c.0 in
      let same : c.1.0 ≡ h = some_data c.1.0 h (sym c.1.1 ∙ is) in
      let asks = subst (λ (n : ℕ). AsksToCommit k' n asked.settings (seen_piece asked.piece) h again) (sym first) (asks_now again old h k k' is f.state later) in
      let told = subst (λ (x : HeldData). right.CommitTold asked x again r a) same c.1.2 in
      let own = mine ++ outline t.acts in
      let out = subst (λ (l : List Act). commits.IsCommitOutcome sound h l k' r) (sym (and_then mine (commits.begun_by_commit old) t.acts f.done)) t.told in
      record { acts = t.acts; ran = t.ran; told = (first_low asked a first, first_within asked k' a (longer k k' asked.first later f.within) first, commit_told again h k' own r a is asks out (t.since before f.state.since) told) }

  -- a table is counted

  pub count_goes_on : (name : List ℕ) (old new : CountRun) (k k' : Known) → FitsItem sound before asked mine (state.Counting name old) k → ((n : ℕ) → counts.FitsCount n name old k → counts.CountTurns sound n name old k k' (nt.Stepped new))
      → ItemTurns sound before asked mine k k' (turn.Stepped (record { asked = asked; state = state.Counting name new }))
  count_goes_on name old new k k' f turns =
      let t = turns asked.first f.state.fits in
      let later = of_ran k k' t.acts t.ran in
      record { acts = t.acts; ran = t.ran; told = (refl, record { begins = f.begins; within = longer k k' asked.first later f.within; state = record { read = f.state.read; fits = t.told }; done = and_then mine [] t.acts f.done ∙ t.quiet }) }

  count_told : (name : List ℕ) (k : Known) (own : List Act) (r : Result Status CountFault) (a : Answered) → right.IsCommandRead (seen_piece asked.piece) (Ok (Rattle.px_commands.specs.declared.command.Command.TheVariants.Status name)) → counts.IsCountOutcome sound a.first name k r → counts.IsCountSinceThen before k (nt.Over r)
      → IsCounted asked name r a → own ≡ [] → IsRight sound (plain k) before own asked.settings (seen_piece asked.piece) a
  count_told name k own (Ok x) a read out since c quiet = right.is_counted name x read (counted_plain sound a.first name k (Ok x) out) c.1 quiet
  count_told name k own (Err e) a read out since c quiet = right.is_not_counted name e read (counted_plain sound a.first name k (Err e) out) (count_since_plain before e k since) c.1 quiet

  counted_first : (name : List ℕ) (r : Result Status CountFault) (a : Answered) → IsCounted asked name r a → a.first ≡ asked.first
  counted_first name (Ok x) a c = c.0
  counted_first name (Err e) a c = c.0

  pub count_is_over : (name : List ℕ) (old : CountRun) (k k' : Known) (r : Result Status CountFault) (a : Answered) → FitsItem sound before asked mine (state.Counting name old) k → ((n : ℕ) → counts.FitsCount n name old k → counts.CountTurns sound n name old k k' (nt.Over r))
      → IsCounted asked name r a → ItemTurns sound before asked mine k k' (turn.Over a)
  count_is_over name old k k' r a f turns c =
      let t = turns asked.first f.state.fits in
      let later = of_ran k k' t.acts t.ran in
      let first = counted_first name r a c in
      let low = f.begins in
      let within = f.within in
      let out = subst (λ (n : ℕ). counts.IsCountOutcome sound n name k' r) (sym first) t.told in
      record {
        acts = t.acts;
        ran = t.ran;
        told = (first_low asked a first, first_within asked k' a (longer k k' asked.first later f.within) first, count_told name k' (mine ++ outline t.acts) r a f.state.read out (t.since before (omega arith)) c (and_then mine [] t.acts f.done ∙ t.quiet));
      }
