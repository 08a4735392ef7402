-- How an order goes on.
use Rattle.std.proofs.Common.{ℕ, ◌≡◌, Result, Ok, Err, List, [], ◌++◌, refl, sym, ◌∙◌, ap, subst, arith}
use Rattle.px_lex.specs.Script.{seen_piece}
use Rattle.px_trail.specs.declared.entry.Act.{Act}
use Rattle.px_calls.specs.declared.status.Ordered.{Ordered}
use Rattle.px_calls.specs.Known.{Known, outline}
use Rattle.px_commanding.specs.Orders as orders
use Rattle.px_commanding.specs.declared.order.OrderFault.{OrderFault}
use Rattle.px_commanding.specs.declared.order.OrderRun.{OrderRun}
use Rattle.px_commanding.specs.declared.order.OrderRun.TheVariants as run
use Rattle.px_commanding.specs.declared.order.OrderTurn.TheVariants as ot
use Rattle.px_commanding.proofs.Ordering.{is_quiet}
use Rattle.px_item.specs.declared.answered.Answered.{Answered}
use Rattle.px_item.specs.declared.answered.Asked.{Asked}
use Rattle.px_item.specs.declared.item.ItemState.TheVariants as state
use Rattle.px_item.specs.declared.item.ItemTurn.TheVariants as turn
use Rattle.px_item.specs.Right as right
use Rattle.px_item.specs.Right.{IsCommandRead, IsOrdered, IsRight, command_ordering, plain}
use Rattle.px_item.specs.Turns.{FitsItem, ItemTurns}
use Rattle.px_item.proofs.Plain.{order_since_plain, undone_plain}
use Rattle.px_item.proofs.Passing.{longer, of_ran, first_low, first_within, and_then}

-- the same is ordered in the next state
same_job : (ordered done : Ordered → Type 0) (old new : OrderRun) → orders.OrderLeads ordered done old (ot.Stepped new) → orders.job_of new ≡ orders.job_of old
same_job ordered done (run.Ordering job) new l = ap orders.job_of l.0
same_job ordered done (run.Working job) new l = ap orders.job_of l

-- `mine` is what was done for the item so far
module _ (sound : Type 0) (before : ℕ) (asked : Asked) (mine : List Act) where
  pub order_goes_on : (ordered done : Ordered → Type 0) (old new : OrderRun) (k k' : Known) → FitsItem sound before asked mine (state.Ordering old) k → orders.OrderTurns sound k k' (ot.Stepped new) → orders.OrderLeads ordered done old (ot.Stepped new)
      → ItemTurns sound before asked mine k k' (turn.Stepped (record { asked = asked; state = state.Ordering new }))
  order_goes_on ordered done old new k k' f t l =
      let later = of_ran k k' t.acts t.ran in
      let read = subst (λ (job : Ordered). IsCommandRead (seen_piece asked.piece) (Ok (command_ordering job))) (sym (same_job ordered done old new l)) f.state in
      record { acts = t.acts; ran = t.ran; told = (refl, record { begins = f.begins; within = longer k k' asked.first later f.within; state = read; done = and_then mine [] t.acts f.done ∙ is_quiet (ot.Stepped new) t.acts t.added }) }

  order_told : (job : Ordered) (k : Known) (own : List Act) (r : Result (Unit {0}) OrderFault) (a : Answered) → IsCommandRead (seen_piece asked.piece) (Ok (command_ordering job)) → orders.IsOrderOutcome sound k r → orders.IsOrderSinceThen before k (ot.Over r)
      → IsOrdered asked job r a → own ≡ [] → IsRight sound (plain k) before own asked.settings (seen_piece asked.piece) a
  order_told job k own (Ok u) a read out since c quiet = right.is_ordered job read out c.1 quiet
  order_told job k own (Err e) a read out since c quiet = right.is_not_ordered job e read (undone_plain sound e k out) (order_since_plain before e k since) c.1 quiet

  ordered_first : (job : Ordered) (r : Result (Unit {0}) OrderFault) (a : Answered) → IsOrdered asked job r a → a.first ≡ asked.first
  ordered_first job (Ok u) a c = c.0
  ordered_first job (Err e) a c = c.0

  pub order_is_over : (old : OrderRun) (k k' : Known) (r : Result (Unit {0}) OrderFault) (a : Answered) → FitsItem sound before asked mine (state.Ordering old) k → orders.OrderTurns sound k k' (ot.Over r)
      → IsOrdered asked (orders.job_of old) r a → ItemTurns sound before asked mine k k' (turn.Over a)
  order_is_over old k k' r a f t c =
      let later = of_ran k k' t.acts t.ran in
      let first = ordered_first (orders.job_of old) r a c in
      let low = f.begins in
      let within = f.within in
      let quiet = and_then mine [] t.acts f.done ∙ is_quiet (ot.Over r) t.acts t.added in
      record {
        acts = t.acts;
        ran = t.ran;
        told = (first_low asked a first, first_within asked k' a (longer k k' asked.first later f.within) first, order_told (orders.job_of old) k' (mine ++ outline t.acts) r a f.state t.told (t.since before (omega arith)) c quiet);
      }
