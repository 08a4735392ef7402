-- The steps of a verification, part by part.
use Rattle.std.proofs.Common.{ℕ, ◌≡◌, ◌≤◌, true, false, None, Some, Ok, Err, List, [], ◌++◌, length, refl, sym, ◌∙◌, ap, subst, arith, append_assoc, inl, inr}
use Rattle.std.proofs.lemmas.List.{append-nil}
use Rattle.px_values.specs.declared.name.IndexId.{IndexId}
use Rattle.px_values.specs.declared.name.TableId.{TableId}
use Rattle.px_trail.specs.declared.entry.Act.{Act}
use Rattle.px_calls.specs.declared.definition.Definition.{Definition}
use Rattle.px_calls.specs.declared.definition.Definition.TheVariants as d
use Rattle.px_calls.specs.declared.definition.Made.{Made}
use Rattle.px_calls.specs.declared.fault.StepFault.TheVariants as step
use Rattle.px_calls.specs.Causes.{definition_cause}
use Rattle.px_calls.specs.Known.{Known, Ran, outline}
use Rattle.px_defining.specs.declared.define.DefineFault.{DefineFault}
use Rattle.px_defining.specs.declared.define.DefineRun.{DefineRun}
use Rattle.px_defining.specs.declared.define.DefineTurn.TheVariants as dt
use Rattle.px_defining.specs.Turns as define
use Rattle.px_upkeep.specs.declared.build.BuildFault.{BuildFault}
use Rattle.px_upkeep.specs.declared.build.BuildRun.{BuildRun}
use Rattle.px_upkeep.specs.declared.build.BuildTurn.TheVariants as bt
use Rattle.px_upkeep.specs.Turns as build
use Rattle.px_upkeep.specs.Turns.{IsPast}
use Rattle.px_upkeep.proofs.Later.{longer, past-ran, past-same}
use Rattle.px_upkeep.proofs.Whole as upkeep
use Rattle.px_verify.specs.declared.answer.ReportFault.{ReportFault}
use Rattle.px_verify.specs.declared.answer.Reported.{Reported}
use Rattle.px_verify.specs.declared.answer.ReportTurn.{ReportTurn}
use Rattle.px_verify.specs.declared.answer.ReportTurn.TheVariants as rt
use Rattle.px_verify.specs.declared.run.ReportRun.{ReportRun}
use Rattle.px_verify.specs.Turns as report
use Rattle.px_verifying.specs.declared.answer.Reports.{Reports}
use Rattle.px_verifying.specs.declared.answer.VerifyFault.{VerifyFault}
use Rattle.px_verifying.specs.declared.answer.VerifyKind.{VerifyKind}
use Rattle.px_verifying.specs.declared.answer.VerifyTurn.TheVariants as turn
use Rattle.px_verifying.specs.declared.machine.VerifyState.{VerifyState}
use Rattle.px_verifying.specs.declared.machine.VerifyState.TheVariants as state
use Rattle.px_verifying.specs.Faults.{build_fault, definition_fault, report_fault}
use Rattle.px_verifying.specs.Kinds.{rebuilds, reports_last}
use Rattle.px_verifying.specs.Turns.{BuildRefused, DefinitionRefused, FitsState, HasBegunRebuilding, HasRebuilt, HasReported, HaveDone, IsBuilding, IsDefining, IsNewRebuilding, IsNewReport, IsReporting, IsState, ReportRefused, VerificationTurns, WasPartRefused, to_rebuild, to_report_again}
use Rattle.px_verifying.proofs.Done.{begun-later, done-later, first-done, last-done, last-rebuilds, may-later, only-once, rebuilding-done}
use Rattle.px_verifying.proofs.Whole.{new-defining, new-report}

-- 1. A step of a report

module _ (sound : Type 0) (n : ℕ) (t : TableId) (i : IndexId) (own : List Act) (old : ReportRun) (k k' : Known) (f : IsReporting sound n t i own old k) where
  pub of-this : (new : ReportRun) (r : ReportTurn) → report.ReportTurns sound old.table old.index old.state k new.state k' r → report.ReportTurns sound t i old.state k new.state k' r
  of-this new r z =
      let F : TableId × IndexId → Type 0 = λ q. report.ReportTurns sound q.0 q.1 old.state k new.state k' r in
      subst F (λ j. (f.table j, f.index j)) z

  pub report-on : (new : ReportRun) → new.table ≡ old.table → new.index ≡ old.index → (z : report.ReportTurns sound t i old.state k new.state k' rt.Stepped) → IsReporting sound n t i (own ++ outline z.acts) new k'
  report-on new table index z = record {
    table = table ∙ f.table;
    index = index ∙ f.index;
    fits = z.fits;
    going = z.told.0;
    own_is = ap (λ (l : List Act). l ++ outline z.acts) f.own_is ∙ z.told.1;
    since = z.since n f.since;
  }

  pub report-waits : (new : ReportRun) (stamp : ℕ) → new.table ≡ old.table → new.index ≡ old.index → (z : report.ReportTurns sound t i old.state k new.state k' (rt.Waiting stamp)) → IsReporting sound n t i (own ++ outline z.acts) new k'
  report-waits new stamp table index z = record {
    table = table ∙ f.table;
    index = index ∙ f.index;
    fits = z.fits;
    going = z.told.0;
    own_is = ap (λ (l : List Act). l ++ outline z.acts) f.own_is ∙ z.told.1;
    since = z.since n f.since;
  }

  pub report-ends : (new : ReportRun) (a : Reported) → (z : report.ReportTurns sound t i old.state k new.state k' (rt.Over (Ok a))) → HasReported sound n t i (own ++ outline z.acts) k' a
  report-ends new a z = record {
    was = k';
    past = past-same k';
    outcome = subst (λ (l : List Act). report.IsReportOutcome sound t i (l ++ outline z.acts) k' (Ok a)) (sym f.own_is) z.told.1;
    from = z.since n f.since;
  }

  pub report-refused : (new : ReportRun) (e : ReportFault) → (z : report.ReportTurns sound t i old.state k new.state k' (rt.Over (Err e))) → ReportRefused sound n t i (own ++ outline z.acts) k' (report_fault e)
  report-refused new e z = record {
    why = e;
    fault = refl;
    outcome = subst (λ (l : List Act). report.IsReportOutcome sound t i (l ++ outline z.acts) k' (Err e)) (sym f.own_is) z.told.1;
    since = z.since n f.since;
  }

-- 2. Steps

module _ (sound : Type 0) (n : ℕ) (t : TableId) (i : IndexId) (v : VerifyKind) (own : List Act) (x : Reports) (k k' : Known) where
  -- the state goes on, with the same parts finished
  goes : (s s' : VerifyState) (acts : List Act) → (f : FitsState sound n t i v own x s k) → Ran k k' acts → IsState sound n t i v (f.current ++ outline acts) x s' k' → FitsState sound n t i v (own ++ outline acts) x s' k'
  goes s s' acts f ran is =
      let past = past-ran k k' acts ran in
      record {
        drawn = may-later t i v k k' past f.drawn;
        finished = f.finished;
        current = f.current ++ outline acts;
        own_is = ap (λ (l : List Act). l ++ outline acts) f.own_is ∙ append_assoc f.finished f.current (outline acts);
        done = done-later sound t i k k' past n f.finished x f.done;
        is = is;
      }

  -- it comes to the next part
  next : (s s' : VerifyState) (y : Reports) (acts : List Act) → (f : FitsState sound n t i v own x s k) → Ran k k' acts → HaveDone sound n t i (f.finished ++ (f.current ++ outline acts)) k' y → IsState sound n t i v [] y s' k'
      → FitsState sound n t i v (own ++ outline acts) y s' k'
  next s s' y acts f ran done is = record {
    drawn = may-later t i v k k' (past-ran k k' acts ran) f.drawn;
    finished = f.finished ++ (f.current ++ outline acts);
    current = [];
    own_is = ap (λ (l : List Act). l ++ outline acts) f.own_is ∙ (append_assoc f.finished f.current (outline acts) ∙ sym (append-nil (f.finished ++ (f.current ++ outline acts))));
    done = done;
    is = is;
  }

  -- all is finished
  whole : (s : VerifyState) (y : Reports) (acts : List Act) → (f : FitsState sound n t i v own x s k) → HaveDone sound n t i (f.finished ++ (f.current ++ outline acts)) k' y → HaveDone sound n t i (own ++ outline acts) k' y
  whole s y acts f done =
      let same : own ++ outline acts ≡ f.finished ++ (f.current ++ outline acts) = ap (λ (l : List Act). l ++ outline acts) f.own_is ∙ append_assoc f.finished f.current (outline acts) in
      subst (λ (l : List Act). HaveDone sound n t i l k' y) (sym same) done

  -- a part is refused
  ends : (s : VerifyState) (acts : List Act) (e : VerifyFault) → (f : FitsState sound n t i v own x s k) → Ran k k' acts → WasPartRefused sound n t i v (f.current ++ outline acts) k' x e
      → Rattle.px_verifying.specs.Turns.IsUnfinished sound n t i v (own ++ outline acts) k' (record { done = x; fault = e })
  ends s acts e f ran h = record {
    finished = f.finished;
    last = f.current ++ outline acts;
    own_is = ap (λ (l : List Act). l ++ outline acts) f.own_is ∙ append_assoc f.finished f.current (outline acts);
    done = done-later sound t i k k' (past-ran k k' acts ran) n f.finished x f.done;
    refused = h;
  }

  later_done : (s : VerifyState) (acts : List Act) → (f : FitsState sound n t i v own x s k) → Ran k k' acts → HaveDone sound n t i f.finished k' x
  later_done s acts f ran = done-later sound t i k k' (past-ran k k' acts ran) n f.finished x f.done

  -- 3. The report that comes first

  module _ (old new : ReportRun) (f : FitsState sound n t i v own x (state.Before old) k) where
    pub first-on : new.table ≡ old.table → new.index ≡ old.index → report.ReportTurns sound old.table old.index old.state k new.state k' rt.Stepped → VerificationTurns sound n t i v own (state.Before old) k k' x (state.Before new) turn.Stepped
    first-on table index h =
        let z = of-this sound n t i f.current old k k' f.is.1 new rt.Stepped h in
        record { acts = z.acts; ran = z.ran; told = (goes (state.Before old) (state.Before new) z.acts f z.ran (f.is.0, report-on sound n t i f.current old k k' f.is.1 new table index z), z.told.2) }

    pub first-waits : (stamp : ℕ) → new.table ≡ old.table → new.index ≡ old.index → report.ReportTurns sound old.table old.index old.state k new.state k' (rt.Waiting stamp) → VerificationTurns sound n t i v own (state.Before old) k k' x (state.Before new) turn.Waiting
    first-waits stamp table index h =
        let z = of-this sound n t i f.current old k k' f.is.1 new (rt.Waiting stamp) h in
        record { acts = z.acts; ran = z.ran; told = (goes (state.Before old) (state.Before new) z.acts f z.ran (f.is.0, report-waits sound n t i f.current old k k' f.is.1 new stamp table index z), (stamp, z.told.2)) }

    pub first-refused : (e : ReportFault) → report.ReportTurns sound old.table old.index old.state k new.state k' (rt.Over (Err e)) → VerificationTurns sound n t i v own (state.Before old) k k' x state.Over (turn.Over (Err (record { done = x; fault = report_fault e })))
    first-refused e h =
        let z = of-this sound n t i f.current old k k' f.is.1 new (rt.Over (Err e)) h in
        record { acts = z.acts; ran = z.ran; told = (refl, ends (state.Before old) z.acts (report_fault e) f z.ran (inl (f.is.0, report-refused sound n t i f.current old k k' f.is.1 new e z))) }

    pub first-then : (a : Reported) (run : DefineRun) → rebuilds v ≡ true → IsNewRebuilding t i run → report.ReportTurns sound old.table old.index old.state k new.state k' (rt.Over (Ok a))
        → VerificationTurns sound n t i v own (state.Before old) k k' (record { before = Some a; rebuilt = None; after = None }) (state.Defining run) turn.Stepped
    first-then a run has fresh h =
        let z = of-this sound n t i f.current old k k' f.is.1 new (rt.Over (Ok a)) h in
        let did = report-ends sound n t i f.current old k k' f.is.1 new a z in
        let done = first-done sound n t i k' v x f.finished (f.current ++ outline z.acts) a f.is.0 (later_done (state.Before old) z.acts f z.ran) did in
        let low : a.last ≤ length k'.seen = (let e = z.told.1.3 in omega (arith, e)) in
        record {
          acts = z.acts;
          ran = z.ran;
          told = (
            next (state.Before old) (state.Defining run) (record { before = Some a; rebuilt = None; after = None }) z.acts f z.ran done
                (record { has = has; before = sym f.is.0.has; rebuilt = refl; after = refl }, new-defining sound a.last t i run k' low fresh.0 fresh.1),
            tt,
          );
        }

    pub first-whole : (a : Reported) → rebuilds v ≡ false → report.ReportTurns sound old.table old.index old.state k new.state k' (rt.Over (Ok a))
        → VerificationTurns sound n t i v own (state.Before old) k k' (record { before = Some a; rebuilt = None; after = None }) state.Over (turn.Over (Ok (record { before = Some a; rebuilt = None; after = None })))
    first-whole a none h =
        let z = of-this sound n t i f.current old k k' f.is.1 new (rt.Over (Ok a)) h in
        let did = report-ends sound n t i f.current old k k' f.is.1 new a z in
        let done = first-done sound n t i k' v x f.finished (f.current ++ outline z.acts) a f.is.0 (later_done (state.Before old) z.acts f z.ran) did in
        record {
          acts = z.acts;
          ran = z.ran;
          told = (refl, (record { before = sym f.is.0.has; rebuilt = sym none; after = sym (only-once v none) }, whole (state.Before old) (record { before = Some a; rebuilt = None; after = None }) z.acts f done));
        }

  -- 4. The definition

  module _ (old new : DefineRun) (f : FitsState sound n t i v own x (state.Defining old) k) where
    defining_on : (acts : List Act) → Ran k k' acts → outline acts ≡ [] → new.definition ≡ old.definition → define.FitsDefinition sound old.definition new.state k' → define.IsDefinitionGoing new.state → IsDefining sound (to_rebuild n x) t i (f.current ++ outline acts) new k'
    defining_on acts ran quiet same fits going =
        let j = f.is.1 in
        record {
          defining = (same ∙ j.defining.0, subst (λ (y : Definition). define.FitsDefinition sound y new.state k') j.defining.0 fits, going);
          own_is = (λ q. j.own_is q ++ quiet q);
          from = longer k k' (to_rebuild n x) (past-ran k k' acts ran) j.from;
        }

    pub define-on : new.definition ≡ old.definition → define.DefinitionTurns sound old.definition old.state k new.state k' dt.Stepped → VerificationTurns sound n t i v own (state.Defining old) k k' x (state.Defining new) turn.Stepped
    define-on same z = record { acts = z.acts; ran = z.ran; told = (goes (state.Defining old) (state.Defining new) z.acts f z.ran (f.is.0, defining_on z.acts z.ran z.told.1 same z.fits z.told.0), tt) }

    pub define-waits : (count : ℕ) → new.definition ≡ old.definition → define.DefinitionTurns sound old.definition old.state k new.state k' (dt.Waiting count) → VerificationTurns sound n t i v own (state.Defining old) k k' x (state.Defining new) turn.Waiting
    define-waits count same z = record {
      acts = z.acts;
      ran = z.ran;
      told = (
        goes (state.Defining old) (state.Defining new) z.acts f z.ran (f.is.0, defining_on z.acts z.ran z.told.1 same z.fits z.told.0),
        (count, subst (λ (y : Definition). definition_cause y (step.InUse count) k') f.is.1.defining.0 z.told.2),
      );
    }

    -- what the seat did behind the finished parts
    alone : (acts : List Act) → f.current ++ outline acts ≡ outline acts
    alone acts = ap (λ (l : List Act). l ++ outline acts) f.is.1.own_is

    pub define-refused : (e : DefineFault) → define.DefinitionTurns sound old.definition old.state k new.state k' (dt.Over (Err e)) → VerificationTurns sound n t i v own (state.Defining old) k k' x state.Over (turn.Over (Err (record { done = x; fault = definition_fault e })))
    define-refused e z =
        let told = subst (λ (y : Definition). define.IsDefinitionOutcome sound y (outline z.acts) k' (Err e)) f.is.1.defining.0 z.told.1 in
        let why : DefinitionRefused sound (to_rebuild n x) t i (f.current ++ outline z.acts) k' (definition_fault e) =
        record { why = e; fault = refl; outcome = subst (λ (l : List Act). define.IsDefinitionOutcome sound (d.Rebuilding t i) l k' (Err e)) (sym (alone z.acts)) told; since = z.since (to_rebuild n x) f.is.1.from } in
        record { acts = z.acts; ran = z.ran; told = (refl, ends (state.Defining old) z.acts (definition_fault e) f z.ran (inr (inl (f.is.0, inl why)))) }

    pub define-then : (m : Made) (run : BuildRun) → build.IsBuildNew t i run → define.DefinitionTurns sound old.definition old.state k new.state k' (dt.Over (Ok m)) → VerificationTurns sound n t i v own (state.Defining old) k k' x (state.Building run) turn.Stepped
    define-then m run fresh z =
        let told = subst (λ (y : Definition). define.HasDefined y (outline z.acts) k' m) f.is.1.defining.0 z.told.1 in
        let begun : HasBegunRebuilding (to_rebuild n x) t i (outline z.acts) k' m = record { was = k'; past = past-same k'; outcome = told; from = z.since (to_rebuild n x) f.is.1.from } in
        let drawn = may-later t i v k k' (past-ran k k' z.acts z.ran) f.drawn f.is.0.has in
        let low : m.at ≤ length k'.seen = (let e = told.at in omega (arith, e)) in
        record {
          acts = z.acts;
          ran = z.ran;
          told = (
            goes (state.Defining old) (state.Building run) z.acts f z.ran (
              f.is.0,
              record {
                again = m;
                first = outline z.acts;
                rest = [];
                own_is = alone z.acts ∙ sym (append-nil (outline z.acts));
                begun = begun;
                fits = upkeep.starts sound m.at t i run k' low drawn.0 drawn.1 fresh;
              },
            ),
            tt,
          );
        }

  -- 5. The build

  module _ (old : BuildRun) (f : FitsState sound n t i v own x (state.Building old) k) where
    abbrev j : IsBuilding sound (to_rebuild n x) t i f.current old k
    j = f.is.1

    behind : (acts : List Act) → f.current ++ outline acts ≡ j.first ++ (j.rest ++ outline acts)
    behind acts = ap (λ (l : List Act). l ++ outline acts) j.own_is ∙ append_assoc j.first j.rest (outline acts)

    begun_on : (acts : List Act) → Ran k k' acts → HasBegunRebuilding (to_rebuild n x) t i j.first k' j.again
    begun_on acts ran = begun-later sound t i k k' (past-ran k k' acts ran) (to_rebuild n x) j.first j.again j.begun

    pub build-on : (new : BuildRun) → build.BuildTurns sound j.again.at t i j.rest k k' (bt.Stepped new) → VerificationTurns sound n t i v own (state.Building old) k k' x (state.Building new) turn.Stepped
    build-on new z = record {
      acts = z.acts;
      ran = z.ran;
      told = (
        goes (state.Building old) (state.Building new) z.acts f z.ran
            (f.is.0, record { again = j.again; first = j.first; rest = j.rest ++ outline z.acts; own_is = behind z.acts; begun = begun_on z.acts z.ran; fits = z.told }),
        tt,
      );
    }

    pub build-waits : (new : BuildRun) → build.BuildTurns sound j.again.at t i j.rest k k' (bt.Waiting new) → VerificationTurns sound n t i v own (state.Building old) k k' x (state.Building new) turn.Waiting
    build-waits new z = record {
      acts = z.acts;
      ran = z.ran;
      told = (
        goes (state.Building old) (state.Building new) z.acts f z.ran
            (f.is.0, record { again = j.again; first = j.first; rest = j.rest ++ outline z.acts; own_is = behind z.acts; begun = begun_on z.acts z.ran; fits = z.told }),
        tt,
      );
    }

    pub build-refused : (e : BuildFault) → build.BuildTurns sound j.again.at t i j.rest k k' (bt.Over (Err e)) → VerificationTurns sound n t i v own (state.Building old) k k' x state.Over (turn.Over (Err (record { done = x; fault = build_fault e })))
    build-refused e z =
        let why : BuildRefused sound (to_rebuild n x) t i (f.current ++ outline z.acts) k' (build_fault e) =
        record { why = e; fault = refl; again = j.again; first = j.first; rest = j.rest ++ outline z.acts; own_is = behind z.acts; begun = begun_on z.acts z.ran; outcome = z.told } in
        record { acts = z.acts; ran = z.ran; told = (refl, ends (state.Building old) z.acts (build_fault e) f z.ran (inr (inl (f.is.0, inr why)))) }

    built : (m : Made) → (z : build.BuildTurns sound j.again.at t i j.rest k k' (bt.Over (Ok m))) → HaveDone sound n t i (f.finished ++ (f.current ++ outline z.acts)) k' (record { before = x.before; rebuilt = Some m; after = None })
    built m z =
        let did : HasRebuilt sound (to_rebuild n x) t i (f.current ++ outline z.acts) k' m =
        record { again = j.again; first = j.first; rest = j.rest ++ outline z.acts; own_is = behind z.acts; begun = begun_on z.acts z.ran; built = z.told } in
        rebuilding-done sound n t i k' v x f.finished (f.current ++ outline z.acts) m f.is.0 (later_done (state.Building old) z.acts f z.ran) did

    pub build-then : (m : Made) (run : ReportRun) → reports_last v ≡ true → IsNewReport t i run → build.BuildTurns sound j.again.at t i j.rest k k' (bt.Over (Ok m))
        → VerificationTurns sound n t i v own (state.Building old) k k' (record { before = x.before; rebuilt = Some m; after = None }) (state.After run) turn.Stepped
    build-then m run has fresh z =
        let low : m.at ≤ length k'.seen = (let b = z.told.0 in let e = b.at in longer b.was k' m.at b.past (omega (arith, e))) in
        record {
          acts = z.acts;
          ran = z.ran;
          told = (
            next (state.Building old) (state.After run) (record { before = x.before; rebuilt = Some m; after = None }) z.acts f z.ran (built m z)
                (record { has = has; before = f.is.0.before; rebuilt = refl; after = refl }, new-report sound m.at t i run k' low fresh),
            tt,
          );
        }

    pub build-whole : (m : Made) → reports_last v ≡ false → build.BuildTurns sound j.again.at t i j.rest k k' (bt.Over (Ok m))
        → VerificationTurns sound n t i v own (state.Building old) k k' (record { before = x.before; rebuilt = Some m; after = None }) state.Over (turn.Over (Ok (record { before = x.before; rebuilt = Some m; after = None })))
    build-whole m none z = record {
      acts = z.acts;
      ran = z.ran;
      told = (refl, (record { before = f.is.0.before; rebuilt = sym f.is.0.has; after = sym none }, whole (state.Building old) (record { before = x.before; rebuilt = Some m; after = None }) z.acts f (built m z)));
    }

  -- 6. The report behind it

  module _ (old new : ReportRun) (f : FitsState sound n t i v own x (state.After old) k) where
    pub last-on : new.table ≡ old.table → new.index ≡ old.index → report.ReportTurns sound old.table old.index old.state k new.state k' rt.Stepped → VerificationTurns sound n t i v own (state.After old) k k' x (state.After new) turn.Stepped
    last-on table index h =
        let z = of-this sound (to_report_again n x) t i f.current old k k' f.is.1 new rt.Stepped h in
        record { acts = z.acts; ran = z.ran; told = (goes (state.After old) (state.After new) z.acts f z.ran (f.is.0, report-on sound (to_report_again n x) t i f.current old k k' f.is.1 new table index z), z.told.2) }

    pub last-waits : (stamp : ℕ) → new.table ≡ old.table → new.index ≡ old.index → report.ReportTurns sound old.table old.index old.state k new.state k' (rt.Waiting stamp) → VerificationTurns sound n t i v own (state.After old) k k' x (state.After new) turn.Waiting
    last-waits stamp table index h =
        let z = of-this sound (to_report_again n x) t i f.current old k k' f.is.1 new (rt.Waiting stamp) h in
        record { acts = z.acts; ran = z.ran; told = (goes (state.After old) (state.After new) z.acts f z.ran (f.is.0, report-waits sound (to_report_again n x) t i f.current old k k' f.is.1 new stamp table index z), (stamp, z.told.2)) }

    pub last-refused : (e : ReportFault) → report.ReportTurns sound old.table old.index old.state k new.state k' (rt.Over (Err e)) → VerificationTurns sound n t i v own (state.After old) k k' x state.Over (turn.Over (Err (record { done = x; fault = report_fault e })))
    last-refused e h =
        let z = of-this sound (to_report_again n x) t i f.current old k k' f.is.1 new (rt.Over (Err e)) h in
        record { acts = z.acts; ran = z.ran; told = (refl, ends (state.After old) z.acts (report_fault e) f z.ran (inr (inr (f.is.0, report-refused sound (to_report_again n x) t i f.current old k k' f.is.1 new e z)))) }

    pub last-whole : (a : Reported) → report.ReportTurns sound old.table old.index old.state k new.state k' (rt.Over (Ok a))
        → VerificationTurns sound n t i v own (state.After old) k k' (record { before = x.before; rebuilt = x.rebuilt; after = Some a }) state.Over (turn.Over (Ok (record { before = x.before; rebuilt = x.rebuilt; after = Some a })))
    last-whole a h =
        let z = of-this sound (to_report_again n x) t i f.current old k k' f.is.1 new (rt.Over (Ok a)) h in
        let did = report-ends sound (to_report_again n x) t i f.current old k k' f.is.1 new a z in
        let done = last-done sound n t i k' v x f.finished (f.current ++ outline z.acts) a f.is.0 (later_done (state.After old) z.acts f z.ran) did in
        record {
          acts = z.acts;
          ran = z.ran;
          told = (
            refl,
            (
              record { before = f.is.0.before; rebuilt = f.is.0.rebuilt ∙ sym (last-rebuilds v f.is.0.has); after = sym f.is.0.has },
              whole (state.After old) (record { before = x.before; rebuilt = x.rebuilt; after = Some a }) z.acts f done,
            ),
          );
        }
