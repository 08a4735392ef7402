-- An order goes on.
use Rattle.std.proofs.Common.{ℕ, ◌≡◌, ◌≤◌, Ok, Err, List, [], ◌∷◌, length, drop, refl, ap, ◌∙◌, inl, inr}
use Rattle.px_values.specs.declared.name.TableId.{TableId}
use Rattle.px_trail.specs.declared.entry.Act.{Act}
use Rattle.px_trail.specs.declared.entry.Act.TheVariants as act
use Rattle.px_trail.specs.Answers.{IsAmong}
use Rattle.px_trail.specs.Trail.{acts_by}
use Rattle.px_calls.specs.declared.fault.StepFault.{StepFault}
use Rattle.px_calls.specs.declared.fault.StepFault.TheVariants as step
use Rattle.px_calls.specs.declared.status.Ordered.{Ordered}
use Rattle.px_calls.specs.declared.status.Work.TheVariants as done
use Rattle.px_calls.specs.Calls.{DidWork, Finds}
use Rattle.px_calls.specs.Causes.{Refuses, order_cause, upkeep_cause}
use Rattle.px_calls.specs.Known.{Adds, HasMade, Known, Ran, Sees, outline}
use Rattle.px_calls.proofs.Runs.{ran-adds, ran-made, ran-sees}
use Rattle.px_calls.proofs.Stays.{ran-since}
use Rattle.px_commanding.specs.declared.order.OrderFault.{OrderFault}
use Rattle.px_commanding.specs.declared.order.OrderFault.TheVariants as fault
use Rattle.px_commanding.specs.declared.order.OrderRun.{OrderRun}
use Rattle.px_commanding.specs.declared.order.OrderTurn.{OrderTurn}
use Rattle.px_commanding.specs.declared.order.OrderTurn.TheVariants as turn
use Rattle.px_commanding.specs.Orders.{AreAdded, OrderFaultIs, OrderFaultSince, OrderTurns, undone}

-- nothing of it is begun, opened or defined
pub is_quiet : (t : OrderTurn) (acts : List Act) → AreAdded t acts → outline acts ≡ []
is_quiet (turn.Stepped r) acts (inl e) = ap outline e
is_quiet (turn.Stepped r) acts (inr (t, h, e)) = ap outline e
is_quiet (turn.Over (Ok u)) acts e = ap outline e
is_quiet (turn.Over (Err fault.ReadFault)) acts (call, e) = ap outline e
is_quiet (turn.Over (Err fault.WriteFault)) acts (call, e) = ap outline e
is_quiet (turn.Over (Err (fault.Damaged file place))) acts e = ap outline e
is_quiet (turn.Over (Err (fault.Closed call))) acts e = ap outline e
is_quiet (turn.Over (Err fault.Memory)) acts e = ap outline e

-- the call's own act is one of the seat's
made : (k k' : Known) (a : Act) → Adds k k' a → HasMade k' a
unfolding IsAmong
made k k' a h = ran-made k k' (a ∷ []) a (ran-adds k k' a h) (inl (inl refl))

made_since : (k k' : Known) (a : Act) (n : ℕ) → Adds k k' a → n ≤ length k.seen → IsAmong a (acts_by k'.seat (drop n k'.seen))
unfolding IsAmong
made_since k k' a n h low = ran-since k k' (a ∷ []) a n low (ran-adds k k' a h) (inl refl)

-- 1. It goes on

pub goes_on : (sound : Type 0) (r : OrderRun) (k k' : Known) → Finds k k' → OrderTurns sound k k' (turn.Stepped r)
goes_on sound r k k' f = record { acts = []; ran = ran-sees k k' f.sees; added = inl refl; told = tt; since = λ m low. tt }

raised : (sound : Type 0) (r : OrderRun) (k k' : Known) (t : TableId) (h : ℕ) → Adds k k' (act.Raised t h) → OrderTurns sound k k' (turn.Stepped r)
raised sound r k k' t h adds = record { acts = act.Raised t h ∷ []; ran = ran-adds k k' (act.Raised t h) adds; added = inr (t, h, refl); told = tt; since = λ m low. tt }

pub works_on : (sound : Type 0) (r : OrderRun) (k k' : Known) → DidWork k k' done.Did → OrderTurns sound k k' (turn.Stepped r)
works_on sound r k k' (inl f) = goes_on sound r k k' f
works_on sound r k k' (inr (t, h, adds)) = raised sound r k k' t h adds

-- 2. It is over

pub is_done : (sound : Type 0) (k k' : Known) → Finds k k' → OrderTurns sound k k' (turn.Over (Ok tt))
is_done sound k k' f = record { acts = []; ran = ran-sees k k' f.sees; added = refl; told = f.running; since = λ m low. tt }

quietly : (sound : Type 0) (k k' : Known) (e : OrderFault) → AreAdded (turn.Over (Err e)) [] → OrderFaultIs sound e k' → ((m : ℕ) → OrderFaultSince m e k') → Sees k k' → OrderTurns sound k k' (turn.Over (Err e))
quietly sound k k' e none is since sees = record { acts = []; ran = ran-sees k k' sees; added = none; told = is; since = λ m low. since m }

pub not_ordered : (sound : Type 0) (k k' : Known) (f : StepFault) → Refuses order_cause k k' f → OrderTurns sound k k' (turn.Over (Err (undone f)))
not_ordered sound k k' (step.Closed call) r = quietly sound k k' (fault.Closed call) refl r.0 (λ m. tt) r.1
not_ordered sound k k' step.Memory r = absurd r.0
not_ordered sound k k' step.NoTable r = absurd r.0
not_ordered sound k k' step.ReadFault r = absurd r.0
not_ordered sound k k' step.WriteFault r = absurd r.0
not_ordered sound k k' step.NameExists r = absurd r.0
not_ordered sound k k' step.NoIndex r = absurd r.0
not_ordered sound k k' (step.Limit which count) r = absurd r.0
not_ordered sound k k' (step.Busy region cells bytes) r = absurd r.0
not_ordered sound k k' (step.NotReady region) r = absurd r.0
not_ordered sound k k' (step.InUse count) r = absurd r.0
not_ordered sound k k' (step.NotYet stamp) r = absurd r.0
not_ordered sound k k' (step.BelowHorizon horizon) r = absurd r.0
not_ordered sound k k' (step.Damaged file place) r = absurd r.0

pub not_done : (sound : Type 0) (k k' : Known) (f : StepFault) → Refuses (upkeep_cause sound) k k' f → OrderTurns sound k k' (turn.Over (Err (undone f)))
not_done sound k k' step.ReadFault r =
    let call = r.1.0 in
    let adds = r.1.1 in
    record { acts = act.Missed call ∷ []; ran = ran-adds k k' (act.Missed call) adds; added = (call, refl); told = (call, made k k' (act.Missed call) adds); since = λ m low. (call, made_since k k' (act.Missed call) m adds low) }
not_done sound k k' step.WriteFault r =
    let call = r.1.0 in
    let adds = r.1.1 in
    record { acts = act.Shut call ∷ []; ran = ran-adds k k' (act.Shut call) adds; added = (call, refl); told = (call, made k k' (act.Shut call) adds); since = λ m low. (call, made_since k k' (act.Shut call) m adds low) }
not_done sound k k' (step.Damaged file place) r = quietly sound k k' (fault.Damaged file place) refl r.0 (λ m. tt) r.1
not_done sound k k' (step.Closed call) r = quietly sound k k' (fault.Closed call) refl r.0 (λ m. tt) r.1
not_done sound k k' step.Memory r = quietly sound k k' fault.Memory refl tt (λ m. tt) r.1
not_done sound k k' step.NoTable r = absurd r.0
not_done sound k k' step.NameExists r = absurd r.0
not_done sound k k' step.NoIndex r = absurd r.0
not_done sound k k' (step.Limit which count) r = absurd r.0
not_done sound k k' (step.Busy region cells bytes) r = absurd r.0
not_done sound k k' (step.NotReady region) r = absurd r.0
not_done sound k k' (step.InUse count) r = absurd r.0
not_done sound k k' (step.NotYet stamp) r = absurd r.0
not_done sound k k' (step.BelowHorizon horizon) r = absurd r.0
