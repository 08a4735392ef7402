-- A verification that has made no step, others' entries between two steps, and its steps one after another.
use Rattle.std.proofs.Common.{ℕ, ◌≡◌, ◌≤◌, Result, List, [], ◌++◌, length, refl, sym, subst, arith}
use Rattle.px_values.specs.declared.name.IndexId.{IndexId}
use Rattle.px_values.specs.declared.name.TableId.{TableId}
use Rattle.px_trail.specs.declared.entry.Act.{Act}
use Rattle.px_calls.specs.declared.definition.Definition.TheVariants as d
use Rattle.px_calls.specs.Known.{Known, TimePasses, outline}
use Rattle.px_calls.proofs.Runs.{outline-append, ran-none, ran-then}
use Rattle.px_defining.specs.declared.define.DefineRun.{DefineRun}
use Rattle.px_defining.specs.declared.define.DefineState.{DefineState}
use Rattle.px_defining.specs.declared.define.DefineState.TheVariants as ds
use Rattle.px_defining.specs.Turns as define
use Rattle.px_upkeep.specs.Turns as build
use Rattle.px_upkeep.proofs.Ending.{defining-stays}
use Rattle.px_upkeep.proofs.Later.{longer, past-passes}
use Rattle.px_upkeep.proofs.Whole as upkeep
use Rattle.px_verify.specs.declared.machine.ReportState.{ReportState}
use Rattle.px_verify.specs.declared.machine.ReportState.TheVariants as rs
use Rattle.px_verify.specs.declared.run.ReportRun.{ReportRun}
use Rattle.px_verify.specs.Turns as report
use Rattle.px_verify.proofs.Later as verify
use Rattle.px_verifying.specs.declared.answer.Reports.{Reports}
use Rattle.px_verifying.specs.declared.answer.Unfinished.{Unfinished}
use Rattle.px_verifying.specs.declared.answer.VerifyKind.{VerifyKind}
use Rattle.px_verifying.specs.declared.answer.VerifyTurn.{VerifyTurn}
use Rattle.px_verifying.specs.declared.answer.VerifyTurn.TheVariants as turn
use Rattle.px_verifying.specs.declared.machine.VerifyState.{VerifyState}
use Rattle.px_verifying.specs.declared.machine.VerifyState.TheVariants as state
use Rattle.px_verifying.specs.Turns.{Begins, FitsState, IsDefining, IsNewReport, IsReporting, IsState, IsVerificationOutcome, MayBegin, RanVerify, SoFar, VerificationTurns, none_done, to_rebuild, to_report_again}
use Rattle.px_verifying.proofs.Done.{begun-later, done-later, may-later, none-done}

-- 1. No step

-- what is true of a report's state that is new
record IsNewState (sound : Type 0) (n : ℕ) (t : TableId) (i : IndexId) (s : ReportState) (k : Known) : Type 0 where
  fits : report.FitsReport sound t i s k
  going : report.IsReportGoing s
  own_is : ◌≡◌ {A = List Act} [] (report.opened_by_report s)
  since : report.IsReportSince n s k

new_state : (sound : Type 0) (n : ℕ) (t : TableId) (i : IndexId) (s : ReportState) (k : Known) → n ≤ length k.seen → report.IsReportNew s → IsNewState sound n t i s k
new_state sound n t i rs.Opening k low h = record { fits = tt; going = tt; own_is = refl; since = low }
new_state sound n t i s k low h = absurd h

pub new-report : (sound : Type 0) (n : ℕ) (t : TableId) (i : IndexId) (r : ReportRun) (k : Known) → n ≤ length k.seen → IsNewReport t i r → IsReporting sound n t i [] r k
new-report sound n t i r k low h =
    let s = new_state sound n t i r.state k low h.2 in
    record { table = h.0; index = h.1; fits = s.fits; going = s.going; own_is = s.own_is; since = s.since }

pub new-defining : (sound : Type 0) (n : ℕ) (t : TableId) (i : IndexId) (r : DefineRun) (k : Known) → n ≤ length k.seen → r.definition ≡ d.Rebuilding t i → r.state ≡ ds.Defining → IsDefining sound n t i [] r k
new-defining sound n t i r k low is new =
    let F : DefineState → Type 0 = λ z. define.FitsDefinition sound (d.Rebuilding t i) z k × define.IsDefinitionGoing z in
    let f = subst F (sym new) (tt, tt) in
    record { defining = (is, f.0, f.1); own_is = refl; from = low }

module _ (sound : Type 0) (n : ℕ) (t : TableId) (i : IndexId) (v : VerifyKind) where
  began : (x : VerifyState) (k : Known) → n ≤ length k.seen → Begins t i v x → IsState sound n t i v [] none_done x k
  began (state.Before r) k low b = (b.0, new-report sound n t i r k low b.1)
  began (state.Defining r) k low b = (b.0, new-defining sound n t i r k low b.1.0 b.1.1)
  began (state.Building r) k low b = absurd b
  began (state.After r) k low b = absurd b
  began state.Over k low b = absurd b

  pub starts : (x : VerifyState) (k : Known) → n ≤ length k.seen → MayBegin t i v k → Begins t i v x → FitsState sound n t i v [] none_done x k
  starts x k low may b = record { drawn = may; finished = []; current = []; own_is = refl; done = none-done sound n t i k; is = began x k low b }

-- 2. Others' entries

since_later : (n : ℕ) (s : ReportState) (k k' : Known) → build.IsPast k k' → report.IsReportSince n s k → report.IsReportSince n s k'
since_later n rs.Opening k k' h low = longer k k' n h low
since_later n (rs.Rows x after) k k' h low = low
since_later n (rs.Versions x after) k k' h low = low
since_later n (rs.Closing p end) k k' h low = low
since_later n rs.Over k k' h low = tt

module _ (sound : Type 0) (t : TableId) (i : IndexId) (k k' : Known) (h : TimePasses k k') where
  past : build.IsPast k k'
  past = past-passes k k' h

  reporting_on : (n : ℕ) (own : List Act) (r : ReportRun) → IsReporting sound n t i own r k → IsReporting sound n t i own r k'
  reporting_on n own r f = record {
    table = f.table;
    index = f.index;
    fits = verify.fits-kept sound t i r.state k k' h f.fits;
    going = f.going;
    own_is = f.own_is;
    since = since_later n r.state k k' past f.since;
  }

  state_on : (n : ℕ) (v : VerifyKind) (own : List Act) (x : Reports) (s : VerifyState) → IsState sound n t i v own x s k → IsState sound n t i v own x s k'
  state_on n v own x (state.Before r) f = (f.0, reporting_on n own r f.1)
  state_on n v own x (state.Defining r) f = (f.0, record { defining = defining-stays sound (d.Rebuilding t i) r k k' h f.1.defining; own_is = f.1.own_is; from = longer k k' (to_rebuild n x) past f.1.from })
  state_on n v own x (state.Building r) f = (
    f.0,
    record {
      again = f.1.again;
      first = f.1.first;
      rest = f.1.rest;
      own_is = f.1.own_is;
      begun = begun-later sound t i k k' past (to_rebuild n x) f.1.first f.1.again f.1.begun;
      fits = upkeep.fits-kept sound f.1.again.at t i f.1.rest r k k' h f.1.fits;
    },
  )
  state_on n v own x (state.After r) f = (f.0, reporting_on (to_report_again n x) own r f.1)
  state_on n v own x state.Over f = absurd f

  pub fits-kept : (n : ℕ) (v : VerifyKind) (own : List Act) (x : Reports) (s : VerifyState) → FitsState sound n t i v own x s k → FitsState sound n t i v own x s k'
  fits-kept n v own x s f = record {
    drawn = may-later t i v k k' past f.drawn;
    finished = f.finished;
    current = f.current;
    own_is = f.own_is;
    done = done-later sound t i k k' past n f.finished x f.done;
    is = state_on n v f.current x s f.is;
  }

-- 3. One step after another

module _ (sound : Type 0) (t : TableId) (i : IndexId) (v : VerifyKind) where
  pub so-far : (k : Known) (x : VerifyState) → MayBegin t i v k → Begins t i v x → SoFar sound t i v k k none_done x
  so-far k x may b = record { acts = []; ran = ran-none k; fits = starts sound (length k.seen) t i v x k (omega arith) may b }

  module _ (k0 k k' : Known) (x y : Reports) (old new : VerifyState) (f : SoFar sound t i v k0 k x old) where
    joined : (acts : List Act) → outline (f.acts ++ acts) ≡ outline f.acts ++ outline acts
    joined acts = outline-append f.acts acts

    -- a step of a run on the same index
    pub of-this : (t' : TableId) (i' : IndexId) (v' : VerifyKind) (r : VerifyTurn) → t' ≡ t → i' ≡ i → v' ≡ v → ((n : ℕ) → (own : List Act) → FitsState sound n t' i' v' own x old k → VerificationTurns sound n t' i' v' own old k k' y new r)
        → VerificationTurns sound (length k0.seen) t i v (outline f.acts) old k k' y new r
    of-this t' i' v' r table index kind z =
        let F : TableId × IndexId × VerifyKind → Type 0 = λ q. (n : ℕ) → (own : List Act) → FitsState sound n q.0 q.1 q.2 own x old k → VerificationTurns sound n q.0 q.1 q.2 own old k k' y new r in
        subst F (λ j. (table j, index j, kind j)) z (length k0.seen) (outline f.acts) f.fits

    pub steps-on : VerificationTurns sound (length k0.seen) t i v (outline f.acts) old k k' y new turn.Stepped → SoFar sound t i v k0 k' y new
    steps-on z = record {
      acts = f.acts ++ z.acts;
      ran = ran-then k0 k k' f.acts z.acts f.ran z.ran;
      fits = subst (λ (l : List Act). FitsState sound (length k0.seen) t i v l y new k') (sym (joined z.acts)) z.told.0;
    }

    pub waits-on : VerificationTurns sound (length k0.seen) t i v (outline f.acts) old k k' y new turn.Waiting → SoFar sound t i v k0 k' y new
    waits-on z = record {
      acts = f.acts ++ z.acts;
      ran = ran-then k0 k k' f.acts z.acts f.ran z.ran;
      fits = subst (λ (l : List Act). FitsState sound (length k0.seen) t i v l y new k') (sym (joined z.acts)) z.told.0;
    }

    pub ends-as : (r : Result Reports Unfinished) → VerificationTurns sound (length k0.seen) t i v (outline f.acts) old k k' y new (turn.Over r) → RanVerify sound t i v k0 k' r
    ends-as r z = record {
      acts = f.acts ++ z.acts;
      ran = ran-then k0 k k' f.acts z.acts f.ran z.ran;
      outcome = subst (λ (l : List Act). IsVerificationOutcome sound (length k0.seen) t i v l k' r) (sym (joined z.acts)) z.told.1;
    }
