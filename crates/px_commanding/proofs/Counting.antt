-- A status goes on.
use Rattle.std.proofs.Common.{ℕ, ◌≡◌, ◌≤◌, ◌+◌, Result, Ok, Err, List, [], ◌∷◌, ◌++◌, length, take, drop, refl, sym, ◌∙◌, ap, subst, arith, length-append, ◌⊎◌, inl, inr}
use Rattle.std.proofs.lemmas.List.{take-append-le}
use Rattle.std.proofs.Math.Seq.{take-length}
use Rattle.px_values.specs.declared.name.TableId.{TableId}
use Rattle.px_tables.specs.declared.found.Found.{Found}
use Rattle.px_trail.specs.declared.entry.Act.{Act}
use Rattle.px_trail.specs.declared.entry.Act.TheVariants as act
use Rattle.px_trail.specs.declared.entry.Entry.{Entry}
use Rattle.px_trail.specs.Answers.{IsAmong}
use Rattle.px_trail.specs.Trail.{Base, acts_by}
use Rattle.px_calls.specs.declared.fault.StepFault.{StepFault}
use Rattle.px_calls.specs.declared.fault.StepFault.TheVariants as step
use Rattle.px_calls.specs.declared.status.Status.{Status}
use Rattle.px_calls.specs.Calls.{DidCount, DidFind, IsFound}
use Rattle.px_calls.specs.Causes.{Refuses, find_cause, status_cause}
use Rattle.px_calls.specs.Known.{Adds, HasMade, Known, Ran, Sees, TimePasses}
use Rattle.px_calls.proofs.Runs.{ran-adds, ran-made, ran-sees}
use Rattle.px_calls.proofs.Stays.{ran-since}
use Rattle.px_batch.proofs.Turning.{grown}
use Rattle.px_commanding.specs.declared.count.CountFault.{CountFault}
use Rattle.px_commanding.specs.declared.count.CountFault.TheVariants as fault
use Rattle.px_commanding.specs.declared.count.CountRun.{CountRun}
use Rattle.px_commanding.specs.declared.count.CountRun.TheVariants as run
use Rattle.px_commanding.specs.declared.count.CountTurn.TheVariants as turn
use Rattle.px_commanding.specs.Counts.{CountFaultIs, CountFaultSince, CountTurns, FitsCount, WasTableFound, uncounted, unfound}

-- the call's own act is one of the seat's
made : (k k' : Known) (a : Act) → Adds k k' a → HasMade k' a
unfolding IsAmong
made k k' a h = ran-made k k' (a ∷ []) a (ran-adds k k' a h) (inl (inl refl))

made_since : (k k' : Known) (a : Act) (n : ℕ) → Adds k k' a → n ≤ length k.seen → IsAmong a (acts_by k'.seat (drop n k'.seen))
unfolding IsAmong
made_since k k' a n h low = ran-since k k' (a ∷ []) a n low (ran-adds k k' a h) (inl refl)

module _ (n : ℕ) (name : List ℕ) where
  -- 1. More entries

  found-later : (t : TableId) (k k' : Known) (more : List Entry) → k'.seen ≡ k.seen ++ more → k'.base ≡ k.base → WasTableFound n name t k → WasTableFound n name t k'
  found-later t k k' more seen base w =
      let same : take w.place k.seen ≡ take w.place k'.seen = sym (take-append-le w.place k.seen more w.within) ∙ ap (take w.place) (sym seen) in
      let F : Base × List Entry → Type 0 = λ q. IsFound q.0 q.1 w.found in
      let low : w.place ≤ length k'.seen = (let e = ap length seen in let len = length-append k.seen more in let u = w.within in omega arith) in
      record { place = w.place; from = w.from; within = low; found = w.found; is = subst F (λ i. (sym base i, same i)) w.is; named = w.named; number = w.number }

  low-later : (k k' : Known) (more : List Entry) → k'.seen ≡ k.seen ++ more → n ≤ length k.seen → n ≤ length k'.seen
  low-later k k' more seen low = let e = ap length seen in let len = length-append k.seen more in omega arith

  pub fits-kept : (r : CountRun) (k k' : Known) → TimePasses k k' → FitsCount n name r k → FitsCount n name r k'
  fits-kept run.Finding k k' p f = low-later k k' p.others p.seen f
  fits-kept (run.Counting t) k k' p f = found-later t k k' p.others p.seen p.base f

  -- 2. The table is found, or isn't

  pub found-one : (sound : Type 0) (k k' : Known) (f : Found) → n ≤ length k.seen → DidFind k k' name f → CountTurns sound n name run.Finding k k' (turn.Stepped (run.Counting f.table.id))
  found-one sound k k' f low did =
      let ran = ran-sees k k' did.finds.sees in
      record {
        acts = [];
        ran = ran;
        quiet = refl;
        told = record { place = length k'.seen; from = grown k k' [] n ran low; within = omega arith; found = f; is = subst (λ (l : List Entry). IsFound k'.base l f) (sym (take-length k'.seen)) did.found; named = did.name_is; number = refl };
        since = λ m u. tt;
      }

  quietly : (sound : Type 0) (k k' : Known) (old : CountRun) (e : CountFault) → CountFaultIs sound n name e k' → ((m : ℕ) → CountFaultSince m e k') → Sees k k' → CountTurns sound n name old k k' (turn.Over (Err e))
  quietly sound k k' old e is since sees = record { acts = []; ran = ran-sees k k' sees; quiet = refl; told = is; since = λ m u. since m }

  pub found-none : (sound : Type 0) (k k' : Known) (f : StepFault) → Refuses (find_cause name) k k' f → CountTurns sound n name run.Finding k k' (turn.Over (Err (unfound f)))
  found-none sound k k' step.NoTable r = quietly sound k k' run.Finding fault.NoTable (inl r.0) (λ m. tt) r.1
  found-none sound k k' (step.Closed call) r = quietly sound k k' run.Finding (fault.Closed call) r.0 (λ m. tt) r.1
  found-none sound k k' step.Memory r = quietly sound k k' run.Finding fault.Memory tt (λ m. tt) r.1
  found-none sound k k' step.ReadFault r = absurd r.0
  found-none sound k k' step.WriteFault r = absurd r.0
  found-none sound k k' step.NameExists r = absurd r.0
  found-none sound k k' step.NoIndex r = absurd r.0
  found-none sound k k' (step.Limit which count) r = absurd r.0
  found-none sound k k' (step.Busy region cells bytes) r = absurd r.0
  found-none sound k k' (step.NotReady region) r = absurd r.0
  found-none sound k k' (step.InUse count) r = absurd r.0
  found-none sound k k' (step.NotYet stamp) r = absurd r.0
  found-none sound k k' (step.BelowHorizon horizon) r = absurd r.0
  found-none sound k k' (step.Damaged file place) r = absurd r.0

  -- 3. It is counted, or isn't

  pub counted : (sound : Type 0) (t : TableId) (k k' : Known) (s : Status) → WasTableFound n name t k → DidCount k k' t s → CountTurns sound n name (run.Counting t) k k' (turn.Over (Ok s))
  counted sound t k k' s w did =
      let ran = ran-sees k k' did.finds.sees in
      record {
        acts = [];
        ran = ran;
        quiet = refl;
        told = (t, found-later t k k' ran.added ran.seen ran.base w, record { last = did.last; horizon = did.horizon; each = did.each; rising = did.rising; all = did.all });
        since = λ m u. tt;
      }

  pub not-counted : (sound : Type 0) (t : TableId) (k k' : Known) (f : StepFault) → WasTableFound n name t k → Refuses (status_cause sound t.0) k k' f → CountTurns sound n name (run.Counting t) k k' (turn.Over (Err (uncounted f)))
  not-counted sound t k k' step.NoTable w r =
      let ran = ran-sees k k' r.1 in
      quietly sound k k' (run.Counting t) fault.NoTable (inr (t, found-later t k k' ran.added ran.seen ran.base w, r.0)) (λ m. tt) r.1
  not-counted sound t k k' step.ReadFault w r =
      let call = r.1.0 in
      let adds = r.1.1 in
      record { acts = act.Missed call ∷ []; ran = ran-adds k k' (act.Missed call) adds; quiet = refl; told = (call, made k k' (act.Missed call) adds); since = λ m u. (call, made_since k k' (act.Missed call) m adds u) }
  not-counted sound t k k' (step.Damaged file place) w r = quietly sound k k' (run.Counting t) (fault.Damaged file place) r.0.1 (λ m. tt) r.1
  not-counted sound t k k' (step.Closed call) w r = quietly sound k k' (run.Counting t) (fault.Closed call) r.0 (λ m. tt) r.1
  not-counted sound t k k' step.Memory w r = quietly sound k k' (run.Counting t) fault.Memory tt (λ m. tt) r.1
  not-counted sound t k k' step.WriteFault w r = absurd r.0
  not-counted sound t k k' step.NameExists w r = absurd r.0
  not-counted sound t k k' step.NoIndex w r = absurd r.0
  not-counted sound t k k' (step.Limit which count) w r = absurd r.0
  not-counted sound t k k' (step.Busy region cells bytes) w r = absurd r.0
  not-counted sound t k k' (step.NotReady region) w r = absurd r.0
  not-counted sound t k k' (step.InUse count) w r = absurd r.0
  not-counted sound t k k' (step.NotYet stamp) w r = absurd r.0
  not-counted sound t k k' (step.BelowHorizon horizon) w r = absurd r.0
