-- What a verification leaves: a reply that tells of the disk has an entry that tells it; what the seat did is ended and closed; and the trail goes on.
use Rattle.std.proofs.Common.{ℕ, ◌≡◌, ◌≢◌, ◌⊎◌, ◌==◌, if◌then◌else◌, Bool, true, false, Option, None, Some, Result, Ok, Err, List, [], ◌∷◌, ◌++◌, drop, length, refl, sym, ◌∙◌, ap, subst, inl, inr, ⊎_elim}
use Rattle.std.proofs.lemmas.Bool.{false≢true}
use Rattle.px_values.specs.declared.name.IndexId.{IndexId}
use Rattle.px_values.specs.declared.name.TableId.{TableId}
use Rattle.px_tables.specs.declared.index.IndexState.TheVariants.{Active}
use Rattle.px_trail.proofs.Growth.{legal-none}
use Rattle.px_trail.specs.Legal.{IsLegal}
use Rattle.px_trail.specs.Trail.{acts_by}
use Rattle.px_trail.specs.declared.entry.Act.{Act}
use Rattle.px_trail.specs.declared.entry.Act.TheVariants.{Missed, Shut}
use Rattle.px_trail.specs.declared.entry.Entry.{Entry}
use Rattle.px_calls.specs.Known.{Known, Ran, outline}
use Rattle.px_calls.specs.declared.definition.Definition.TheVariants as d
use Rattle.px_calls.specs.declared.definition.Made.{Made}
use Rattle.px_defining.specs.Turns as define
use Rattle.px_defining.specs.declared.define.DefineFault.{DefineFault}
use Rattle.px_defining.specs.declared.define.DefineFault.TheVariants as undone
use Rattle.px_upkeep.specs.Turns as building
use Rattle.px_upkeep.specs.declared.build.BuildFault.{BuildFault}
use Rattle.px_upkeep.specs.declared.build.BuildFault.TheVariants as unbuilt
use Rattle.px_verify.specs.Faults.{ReportFaultIs}
use Rattle.px_verify.specs.Turns as report
use Rattle.px_verify.specs.declared.answer.ReportFault.{ReportFault}
use Rattle.px_verify.specs.declared.answer.ReportFault.TheVariants as unread
use Rattle.px_verify.specs.declared.answer.Reported.{Reported}
use Rattle.px_verifying.specs.Faults.{build_fault, definition_fault, report_fault}
use Rattle.px_verifying.specs.Turns.{BuildRefused, DefinitionRefused, HasBegunRebuilding, HasRebuilt, HasReported, HaveDone, IsUnfinished, IsVerificationOutcome, MayHaveRebuilt, MayHaveReported, ReportRefused, WasPartRefused, to_rebuild, to_report_again}
use Rattle.px_verifying.specs.declared.answer.Reports.{Reports}
use Rattle.px_verifying.specs.declared.answer.Unfinished.{Unfinished}
use Rattle.px_verifying.specs.declared.answer.VerifyFault.{VerifyFault}
use Rattle.px_verifying.specs.declared.answer.VerifyKind.{VerifyKind}
use Rattle.px_reply.specs.Refusals.{cause_of}
use Rattle.px_reply.specs.declared.reply.Reply.{Reply}
use Rattle.px_reply.specs.declared.transcript.Transcript.{Transcript}
use Rattle.px_session.specs.Replies.{is_fatal, own_since}
use Rattle.px_rounds.specs.Turns.{TrailGoesOn, as_seat}
use Rattle.px_server.specs.Kept.{has_told}
use Rattle.px_verified.specs.declared.asked.Verification.{Verification}
use Rattle.px_verified.specs.Verified as verified
use Rattle.px_verified.specs.Verified.{HasVerified, IsRightVerification, refusal_of, told_of_verification}
use Rattle.px_program.specs.Answers.{AnswersVerification, one_item}
use Rattle.px_program.specs.Status.{is_of_disk, refused_by}
use Rattle.px_alone.proofs.Balanced.{IsBalanced, balanced-append, balanced-definition, balanced-none, balanced-point, balanced-state, balanced-within}
use Rattle.px_program.proofs.Items.{IsFair, IsUndamaged, closed_by, told_by, told_more, tried_balanced, tries_balanced, undamaged_before}

-- 1. Parts are balanced

module _ (sound : Type 0) (t : TableId) (i : IndexId) (k : Known) where
  report_balanced : (n : ℕ) (own : List Act) (o : Option Reported) → MayHaveReported sound n t i own k o → IsBalanced own
  report_balanced n own None none = subst IsBalanced (sym none) balanced-none
  report_balanced n own (Some a) h = subst IsBalanced (sym h.outcome.1) (balanced-point t _ true)

  begun_balanced : (n : ℕ) (own : List Act) (m : Made) → HasBegunRebuilding n t i own k m → IsBalanced own
  begun_balanced n own m h = subst IsBalanced (sym h.outcome.one) (balanced-definition (d.Rebuilding t i) m)

  rebuilt_balanced : (n : ℕ) (own : List Act) (o : Option Made) → MayHaveRebuilt sound n t i own k o → IsBalanced own
  rebuilt_balanced n own None none = subst IsBalanced (sym none) balanced-none
  rebuilt_balanced n own (Some m) h =
      let built = tries_balanced t i _ h.rest h.built.1 (balanced-within t m.stamp true _ (balanced-state t i Active m.stamp)) in
      subst IsBalanced (sym h.own_is) (balanced-append h.first h.rest (begun_balanced n h.first h.again h.begun) built)

  done_balanced : (n : ℕ) (own : List Act) (x : Reports) → HaveDone sound n t i own k x → IsBalanced own
  done_balanced n own x h =
      let one = report_balanced n h.first x.before h.before in
      let two = rebuilt_balanced (to_rebuild n x) h.second x.rebuilt h.rebuilt in
      let three = report_balanced (to_report_again n x) h.third x.after h.after in
      subst IsBalanced (sym h.own_is) (balanced-append (h.first ++ h.second) h.third (balanced-append h.first h.second one two) three)

  unreported_balanced : (n : ℕ) (own : List Act) (f : VerifyFault) → ReportRefused sound n t i own k f → IsBalanced own
  unreported_balanced n own f h = ⊎_elim (λ none. subst IsBalanced (sym none) balanced-none) (λ both. subst IsBalanced (sym both.1) (balanced-point t both.0 true)) h.outcome.1

  undefined_balanced : (n : ℕ) (own : List Act) (f : VerifyFault) → DefinitionRefused sound n t i own k f → IsBalanced own
  undefined_balanced n own f h = subst IsBalanced (sym h.outcome.1) balanced-none

  unbuilt_balanced : (n : ℕ) (own : List Act) (f : VerifyFault) → BuildRefused sound n t i own k f → IsBalanced own
  unbuilt_balanced n own f h = subst IsBalanced (sym h.own_is) (balanced-append h.first h.rest (begun_balanced n h.first h.again h.begun) (tried_balanced t i h.rest h.outcome.1))

  refused_balanced : (n : ℕ) (v : VerifyKind) (own : List Act) (x : Reports) (f : VerifyFault) → WasPartRefused sound n t i v own k x f → IsBalanced own
  refused_balanced n v own x f (inl h) = unreported_balanced n own f h.1
  refused_balanced n v own x f (inr (inl h)) = ⊎_elim (λ r. undefined_balanced (to_rebuild n x) own f r) (λ r. unbuilt_balanced (to_rebuild n x) own f r) h.1
  refused_balanced n v own x f (inr (inr h)) = unreported_balanced (to_report_again n x) own f h.1

  pub outcome_balanced : (n : ℕ) (v : VerifyKind) (own : List Act) (r : Result Reports Unfinished) → IsVerificationOutcome sound n t i v own k r → IsBalanced own
  outcome_balanced n v own (Ok x) h = done_balanced n own x h.1
  outcome_balanced n v own (Err u) h = subst IsBalanced (sym h.own_is) (balanced-append h.finished h.last (done_balanced n h.finished u.done h.done) (refused_balanced n v h.last u.done u.fault h.refused))

-- 2. A refusal for the disk's sake has an entry that tells it

module _ (sound : Type 0) (k : Known) (v : Verification) where
  Tells : VerifyFault → Type 0
  Tells f = IsUndamaged sound k → is_of_disk (cause_of (refusal_of v f)) ≡ true → has_told k.seen ≡ true

  report_tells : (t : TableId) (i : IndexId) (f : ReportFault) → ReportFaultIs sound t i f k → Tells (report_fault f)
  unfolding Tells
  report_tells t i unread.ReadFault is whole tell = told_by k.seat (Missed is.0) k.seen refl is.1
  report_tells t i (unread.Damaged file place) is whole tell = absurd (whole file place is)
  report_tells t i (unread.Closed call) is whole tell = closed_by call k.seen is
  report_tells t i f is whole tell = absurd (false≢true tell)

  define_tells : (t : TableId) (i : IndexId) (f : DefineFault) → define.DefinitionFaultIs sound (d.Rebuilding t i) f k → Tells (definition_fault f)
  unfolding Tells
  define_tells t i undone.ReadFault is whole tell = told_by k.seat (Missed is.0) k.seen refl is.1
  define_tells t i undone.WriteFault is whole tell = told_by k.seat (Shut is.0) k.seen refl is.1
  define_tells t i (undone.Damaged file place) is whole tell = absurd (whole file place is)
  define_tells t i (undone.Closed call) is whole tell = closed_by call k.seen is
  define_tells t i f is whole tell = absurd (false≢true tell)

  build_here : (was : Known) (t i : ℕ) (f : BuildFault) → building.BuildFaultIs sound t i f was → IsUndamaged sound was → is_of_disk (cause_of (refusal_of v (build_fault f))) ≡ true → has_told was.seen ≡ true
  build_here was t i unbuilt.ReadFault is fine tell = told_by was.seat (Missed is.0) was.seen refl is.1
  build_here was t i unbuilt.WriteFault is fine tell = told_by was.seat (Shut is.0) was.seen refl is.1
  build_here was t i (unbuilt.Damaged file place) is fine tell = absurd (fine file place is)
  build_here was t i (unbuilt.Closed call) is fine tell = closed_by call was.seen is
  build_here was t i f is fine tell = absurd (false≢true tell)

  build_tells : (n t i : ℕ) (f : BuildFault) → building.WasRefused sound n t i f k → Tells (build_fault f)
  unfolding Tells
  build_tells n t i f w whole tell = subst (λ (es : List Entry). has_told es ≡ true) (sym w.past.seen) (told_more w.was.seen w.past.more (build_here w.was t i f w.cause (undamaged_before sound w.was k w.past.damaged whole) tell))

  refused_tells : (t : TableId) (i : IndexId) (n : ℕ) (kind : VerifyKind) (own : List Act) (x : Reports) (f : VerifyFault) → WasPartRefused sound n t i kind own k x f → Tells f
  refused_tells t i n kind own x f (inl h) = subst Tells (sym h.1.fault) (report_tells t i h.1.why h.1.outcome.0)
  refused_tells t i n kind own x f (inr (inl h)) = ⊎_elim
      (λ r. subst Tells (sym r.fault) (define_tells t i r.why r.outcome.0))
      (λ r. subst Tells (sym r.fault) (build_tells r.again.at t.0 i.0 r.why r.outcome.0)) h.1
  refused_tells t i n kind own x f (inr (inr h)) = subst Tells (sym h.1.fault) (report_tells t i h.1.why h.1.outcome.0)

  outcome_tells : (t : TableId) (i : IndexId) (n : ℕ) (kind : VerifyKind) (own : List Act) (r : Result Reports Unfinished) → IsVerificationOutcome sound n t i kind own k r → IsUndamaged sound k → refused_by is_of_disk (told_of_verification v r) ≡ true → has_told k.seen ≡ true
  unfolding Tells
  outcome_tells t i n kind own (Ok x) h whole tell = absurd (false≢true tell)
  outcome_tells t i n kind own (Err u) h whole tell = refused_tells t i n kind h.last u.done u.fault h.refused whole tell

  -- nothing was done for it
  still : (own : List Act) (r x : Reply) → r ≡ x → own ≡ [] → (IsUndamaged sound k → refused_by is_of_disk x ≡ true → has_told k.seen ≡ true) → IsFair sound k own r
  still own r x is none tells = record { told = λ whole tell. tells whole (sym (ap (refused_by is_of_disk) is) ∙ tell); balanced = λ go. subst IsBalanced (sym none) balanced-none }

  pub fair : (from : ℕ) (own : List Act) (r : Reply) → IsRightVerification sound k from own v r → IsFair sound k own r
  fair from own r (verified.is_closed call closed says none) = still own r _ says none (λ whole tell. closed_by call k.seen closed)
  fair from own r (verified.is_unfound n since within lacks says none) = still own r _ says none (λ whole tell. absurd (false≢true tell))
  fair from own r (verified.is_not_indexed n f since stood lacks says none) = still own r _ says none (λ whole tell. absurd (false≢true tell))
  fair from own r (verified.is_lacking says none) = still own r _ says none (λ whole tell. absurd (false≢true tell))
  fair from own r (verified.is_over n f i came since stood named outcome says) = record {
    told = λ whole tell. outcome_tells f.table.id i n v.kind own came outcome whole (sym (ap (refused_by is_of_disk) says) ∙ tell);
    balanced = λ go. outcome_balanced sound f.table.id i k n v.kind own came outcome;
  }

-- 3. A verification by the seat of session 1, on a server with which nothing was done

module _ (sound : Type 0) (k k' : Known) (alone : k.alone ≡ true) (nothing : k.seen ≡ []) (v : Verification) (r : Reply) (h : HasVerified sound (as_seat 1 k) k' v r) where
  all_new : k'.seen ≡ h.ran.added
  all_new = h.ran.seen ∙ ap (λ (es : List Entry). es ++ h.ran.added) nothing

  pub goes : TrailGoesOn k k'
  goes = record {
    more = h.ran.added;
    seen = h.ran.seen;
    base = h.ran.base;
    damaged = h.ran.damaged;
    single = record { alone = h.ran.as_alone ∙ alone; legal = h.ran.legal (subst (λ (es : List Entry). IsLegal k.base es) (sym nothing) (legal-none k.base)) };
  }

  own : outline h.acts ≡ own_since 1 0 k'.seen
  own = ap outline (sym h.ran.own ∙ ap (acts_by 1) (sym all_new))

  seat_is : as_seat 1 k' ≡ k'
  seat_is = ap (λ (n : ℕ). record k' { seat = n }) (sym h.ran.seat)

  right : IsRightVerification sound (as_seat 1 k') 0 (own_since 1 0 k'.seen) v r
  right =
      let here : IsRightVerification sound k' 0 (outline h.acts) v r = subst (λ (n : ℕ). IsRightVerification sound k' n (outline h.acts) v r) (ap length nothing) h.right in
      subst (λ (x : Known). IsRightVerification sound x 0 (own_since 1 0 k'.seen) v r) (sym seat_is) (subst (λ (q : List Act). IsRightVerification sound k' 0 q v r) own here)

  pub answers : (ts : List Transcript) (memory : Bool) (first last : ℕ) → first ≡ length k.seen → last ≡ length k'.seen → ts ≡ one_item 0 r first last → AnswersVerification sound k' 0 v ts memory
  answers ts memory first last from to is = inl (record {
    reply = r;
    right = right;
    others = λ seat other. ap (acts_by seat) all_new ∙ h.ran.apart alone seat other;
    told = is ∙ (ap (λ (n : ℕ). one_item 0 r n last) (from ∙ ap length nothing) ∙ ap (one_item 0 r 0) to);
  })

-- no room was found, and nothing was done
pub unmade : (sound : Type 0) (k : Known) (v : Verification) (ts : List Transcript) (memory : Bool) → k.seen ≡ [] → ts ≡ [] → memory ≡ true → AnswersVerification sound k 0 v ts memory
unmade sound k v ts memory nothing none lacks = inr (record { still = ap length nothing; none = none; lacks = lacks })
