-- A run in which nothing fails outside; and that nothing is left under way.
use Rattle.std.proofs.Common.{ℕ, zero, suc, ◌≡◌, ◌<◌, ◌≤◌, ◌⊎◌, ◌||◌, ◌==◌, Bool, true, false, Option, None, Some, List, [], ◌∷◌, ◌++◌, length, take, refl, sym, ◌∙◌, ap, subst, arith, inl, inr, ⊎_elim}
use Rattle.std.specs.List.{list_any}
use Rattle.std.proofs.lemmas.Bool.{cases_Bool, cases_lt, eqb-false, eqb-true, false≢true}
use Rattle.std.proofs.lemmas.List.{append-nil, length-replicate}
use Rattle.std.proofs.Math.Seq.{take-length}
use Rattle.px_outside.specs.Disk.{last_count}
use Rattle.px_outside.specs.Faults.{FaultsRose}
use Rattle.px_outside.specs.declared.disk.Disk.{Ghosts as DiskGhosts}
use Rattle.px_outside.specs.declared.sink.Sink.{Ghosts as SinkGhosts}
use Rattle.px_script.specs.Scripts.{script_of}
use Rattle.px_script.specs.declared.script.ScriptFault.{ScriptFault}
use Rattle.px_script.specs.declared.script.ScriptFault.TheVariants as unread
use Rattle.px_script.specs.declared.script.SessionText.{SessionText}
use Rattle.px_trail.specs.Trail.{acts_by}
use Rattle.px_trail.specs.declared.entry.Entry.{Entry}
use Rattle.px_calls.specs.Known.{Known, outline}
use Rattle.px_reply.specs.Refusals.{cause_of, refusal_in}
use Rattle.px_reply.specs.declared.refusal.Cause.{Cause}
use Rattle.px_reply.specs.declared.refusal.Cause.TheVariants as cause
use Rattle.px_reply.specs.declared.refusal.Refusal.{Refusal}
use Rattle.px_reply.specs.declared.refusal.Refusal.TheVariants as refusal
use Rattle.px_reply.specs.declared.reply.Reply.{Reply}
use Rattle.px_reply.specs.declared.transcript.Item.{Item}
use Rattle.px_reply.specs.declared.transcript.Transcript.{Transcript}
use Rattle.px_session.specs.Replies.{has_fatal, is_closing, is_fatal, own_since, stops_session}
use Rattle.px_load.specs.declared.script.Load.{Load as Loads}
use Rattle.px_load.specs.Script.{load_text}
use Rattle.px_loaded.specs.Loads.{RanLoad}
use Rattle.px_rounds.specs.Rounds.{RanScript, fresh_sessions}
use Rattle.px_rounds.specs.Turns.{as_seat}
use Rattle.px_rounds.specs.Written.{IsTextWritten}
use Rattle.px_server.specs.Kept.{HasFailed, has_told}
use Rattle.px_program.specs.Answers.{AnswersJob, AnswersScript, AnswersVerification, IsVerified, one_item, stopped_by}
use Rattle.px_program.specs.Complete.{AreWholeRounds, HasEnded, IsComplete, IsOneReply, IsToldWhy, IsWholeJob, IsWholeScript, is_any}
use Rattle.px_program.specs.Ended.{AllEnded}
use Rattle.px_program.specs.Status.{IsQuietStatus, causes_of, comes_from, damage_of, first_damage, is_memory, is_of_disk, is_statement, items_of, place_in, place_of, place_or_else, quiet_status, refused_by, some_refused_by, status_of, whole_status}
use Rattle.px_program.specs.declared.causes.Causes.{Causes}
use Rattle.px_program.specs.declared.causes.Place.{Place}
use Rattle.px_program.specs.declared.job.Job.{Job}
use Rattle.px_program.specs.declared.job.Job.TheVariants.{Script, Verify, Load}
use Rattle.px_program.specs.declared.status.Status.{Status}
use Rattle.px_program.specs.declared.status.Status.TheVariants.{Done}
use Rattle.px_verified.specs.declared.asked.Verification.{Verification}
use Rattle.px_program.proofs.Items.{IsFair, IsUndamaged}
use Rattle.px_program.proofs.Verified.{fair as fair_verification}
use Rattle.px_alone.proofs.Balanced.{IsBalanced, balanced-none, batches_ended, points_closed}
use Rattle.px_program.proofs.Sessions.{fresh_going, or_none, rounds_balanced, rounds_told, whole_rounds}

-- ---- 1. Replies

-- what each item has, some has, where it is so of one alone
all_none : (p q : Item → Bool) → ((i : Item) → p i ≡ false → q i ≡ false) → (items : List Item) → list_any p items ≡ false → list_any q items ≡ false
all_none p q each [] h = refl
all_none p q each (i ∷ items) h =
    let both = or_none (p i) (list_any p items) h in
    ap (λ (v : Bool). v || list_any q items) (each i both.0) ∙ all_none p q each items both.1

closing_tells : (r : Refusal) → is_of_disk (cause_of r) ≡ false → is_closing r ≡ false
closing_tells refusal.WriteFault h = absurd (false≢true (sym h))
closing_tells (refusal.Closed call) h = absurd (false≢true (sym h))
closing_tells r h = refl

stop_tells : (o : Option Refusal) → comes_from is_of_disk o ≡ false → stops_session o ≡ false
stop_tells (Some r) h = closing_tells r h
stop_tells None h = refl

fatal_tells : (r : Reply) → refused_by is_of_disk r ≡ false → is_fatal r ≡ false
fatal_tells r h = stop_tells (refusal_in r) h

none_fatal : (items : List Item) → some_refused_by is_of_disk items ≡ false → has_fatal items ≡ false
none_fatal items h = all_none (λ i. refused_by is_of_disk i.reply) (λ i. is_fatal i.reply) (λ i none. fatal_tells i.reply none) items h

place_tells : (r : Refusal) → is_of_disk (cause_of r) ≡ false → place_of r ≡ None
place_tells (refusal.Damaged file place) h = absurd (false≢true (sym h))
place_tells r h = refl

no_place : (o : Option Refusal) → comes_from is_of_disk o ≡ false → place_in o ≡ None
no_place (Some r) h = place_tells r h
no_place None h = refl

damage_tells : (r : Reply) → refused_by is_of_disk r ≡ false → damage_of r ≡ None
damage_tells r h = no_place (refusal_in r) h

none_damaged : (items : List Item) → some_refused_by is_of_disk items ≡ false → first_damage items ≡ None
none_damaged [] h = refl
none_damaged (i ∷ items) h =
    let both = or_none (refused_by is_of_disk i.reply) (some_refused_by is_of_disk items) h in
    ap (λ (o : Option Place). place_or_else o (first_damage items)) (damage_tells i.reply both.0) ∙ none_damaged items both.1

no_cause : (c : Cause) → is_of_disk c ≡ false → is_memory c ≡ false → is_statement c ≡ false → true ≡ false
no_cause cause.Statement a b c = c
no_cause cause.Device a b c = a
no_cause cause.Closing a b c = a
no_cause cause.Memory a b c = b

none_at_all : (o : Option Refusal) → comes_from is_of_disk o ≡ false → comes_from is_memory o ≡ false → comes_from is_statement o ≡ false → comes_from is_any o ≡ false
none_at_all (Some r) a b c = no_cause (cause_of r) a b c
none_at_all None a b c = refl

refusal_is : (r : Reply) → refused_by is_of_disk r ≡ false → refused_by is_memory r ≡ false → refused_by is_statement r ≡ false → refused_by is_any r ≡ false
refusal_is r a b c = none_at_all (refusal_in r) a b c

none_refused : (items : List Item) → some_refused_by is_of_disk items ≡ false → some_refused_by is_memory items ≡ false → some_refused_by is_statement items ≡ false → some_refused_by is_any items ≡ false
none_refused [] a b c = refl
none_refused (i ∷ items) a b c =
    let x = or_none (refused_by is_of_disk i.reply) (some_refused_by is_of_disk items) a in
    let y = or_none (refused_by is_memory i.reply) (some_refused_by is_memory items) b in
    let z = or_none (refused_by is_statement i.reply) (some_refused_by is_statement items) c in
    ap (λ (v : Bool). v || some_refused_by is_any items) (refusal_is i.reply x.0 y.0 z.0) ∙ none_refused items x.1 y.1 z.1

-- ---- 2. The status

quiet_is : (lacked refused : Bool) → IsQuietStatus (quiet_status lacked refused)
quiet_is true refused = tt
quiet_is false true = tt
quiet_is false false = tt

quiet_by : (sink : Bool) (failed : ℕ) (memory : Bool) (c : Causes) → sink ≡ false → failed ≡ 0 → c.damaged ≡ None → IsQuietStatus (status_of sink failed memory c)
quiet_by true failed memory c a b e = absurd (false≢true (sym a))
quiet_by false zero memory c a b e = subst (λ (o : Option Place). IsQuietStatus (whole_status o (memory || c.lacked) c.refused)) (sym e) (quiet_is (memory || c.lacked) c.refused)
quiet_by false (suc n) memory c a b e = absurd (omega arith)

record IsDone (sink : Bool) (failed : ℕ) (memory lacked refused : Bool) : Type 0 where
  sink_is : sink ≡ false
  failed_is : failed ≡ 0
  memory_is : memory ≡ false
  lacked_is : lacked ≡ false
  refused_is : refused ≡ false

done_quiet : (memory lacked refused : Bool) → quiet_status (memory || lacked) refused ≡ Done → IsDone false 0 memory lacked refused
done_quiet true lacked refused h = cc
done_quiet false true refused h = cc
done_quiet false false true h = cc
done_quiet false false false h = record { sink_is = refl; failed_is = refl; memory_is = refl; lacked_is = refl; refused_is = refl }

done_whole : (o : Option Place) (memory lacked refused : Bool) → whole_status o (memory || lacked) refused ≡ Done → IsDone false 0 memory lacked refused
done_whole None memory lacked refused h = done_quiet memory lacked refused h
done_whole (Some p) memory lacked refused h = cc

done_by : (sink : Bool) (failed : ℕ) (memory : Bool) (c : Causes) → status_of sink failed memory c ≡ Done → IsDone sink failed memory c.lacked c.refused
done_by true failed memory c h = cc
done_by false zero memory c h = done_whole c.damaged memory c.lacked c.refused h
done_by false (suc n) memory c h = cc

-- ---- 3. The script

stopped_quiet : (f : ScriptFault) (n : ℕ) → some_refused_by is_of_disk (items_of (stopped_by f n)) ≡ false
stopped_quiet unread.TooLong n = refl
stopped_quiet (unread.NotUtf8 place) n = refl
stopped_quiet unread.Memory n = refl

no_entries : (es : List Entry) → length es ≡ 0 → es ≡ []
no_entries [] h = refl
no_entries (e ∷ es) h = absurd (omega arith)

module _ (sound : Type 0) (k : Known) (script : List ℕ) (ts : List Transcript) (sink_failed memory : Bool) where
  -- a reply that tells of the disk has an entry that tells it
  ran_told : IsUndamaged sound k → RanScript sound k 0 (script_of script) ts sink_failed memory → some_refused_by is_of_disk (items_of ts) ≡ true → has_told k.seen ≡ true
  ran_told whole a tell =
      let r = a.ran in
      rounds_told sound k 0 1 (fresh_sessions a.sessions) r.passed r.done (length k.seen) a.states memory r.answered whole (sym (ap (λ (l : List Transcript). some_refused_by is_of_disk (items_of l)) r.flat) ∙ tell)

  script_told : IsUndamaged sound k → AnswersScript sound k 0 script ts sink_failed memory → some_refused_by is_of_disk (items_of ts) ≡ true → has_told k.seen ≡ true
  script_told whole (inl a) tell = ran_told whole a.ran tell
  script_told whole (inr h) tell = absurd (false≢true (sym (⊎_elim
      (λ is. ap (λ (l : List Transcript). some_refused_by is_of_disk (items_of l)) is ∙ stopped_quiet h.fault (length script))
      (λ none. ap (λ (l : List Transcript). some_refused_by is_of_disk (items_of l)) none.0) h.told) ∙ tell))

  all_own : (seat : ℕ) → own_since seat 0 (take (length k.seen) k.seen) ≡ outline (acts_by seat k.seen)
  all_own seat = ap (λ (l : List Entry). outline (acts_by seat l)) (take-length k.seen)

  ran_balanced : RanScript sound k 0 (script_of script) ts sink_failed memory → has_fatal (items_of ts) ≡ false → (seat : ℕ) → IsBalanced (outline (acts_by seat k.seen))
  ran_balanced a go seat =
      let r = a.ran in
      let own = rounds_balanced sound k 0 1 (fresh_sessions a.sessions) r.passed r.done (length k.seen) a.states memory r.answered (sym (ap (λ (l : List Transcript). has_fatal (items_of l)) r.flat) ∙ go) seat in
      subst IsBalanced (all_own seat) own

  seats_balanced : AnswersScript sound k 0 script ts sink_failed memory → has_fatal (items_of ts) ≡ false → (seat : ℕ) → IsBalanced (outline (acts_by seat k.seen))
  unfolding acts_by
  seats_balanced (inl a) go seat = ran_balanced a.ran go seat
  seats_balanced (inr h) go seat = subst (λ (l : List Entry). IsBalanced (outline (acts_by seat l))) (sym (no_entries k.seen h.still)) balanced-none

  -- each session came to its end
  ran_whole : RanScript sound k 0 (script_of script) ts sink_failed memory → has_fatal (items_of ts) ≡ false → sink_failed ≡ false → memory ≡ false → IsWholeScript script ts
  ran_whole a go sent enough =
      let n = a.sessions in
      let r = a.ran in
      let all : r.passed ≡ script_of script = sym (append-nil r.passed) ∙ (ap (λ (l : List (List SessionText)). r.passed ++ l) (sym (r.whole sent enough)) ∙ r.all) in
      record {
        sessions = n;
        within = a.within;
        rounds = r.done;
        flat = r.flat;
        whole = subst (λ (rounds : List (List SessionText)). AreWholeRounds n rounds r.done) all
            (whole_rounds sound k n 0 1 (fresh_sessions n) r.passed r.done (length k.seen) a.states memory enough (length-replicate n _) (fresh_going n) (sym (ap (λ (l : List Transcript). has_fatal (items_of l)) r.flat) ∙ go) r.answered);
      }

  script_whole : AnswersScript sound k 0 script ts sink_failed memory → has_fatal (items_of ts) ≡ false → sink_failed ≡ false → memory ≡ false → IsWholeScript script ts ⊎ IsToldWhy script ts
  script_whole (inl a) go sent enough = inl (ran_whole a.ran go sent enough)
  script_whole (inr h) go sent enough = ⊎_elim (λ is. inr (h.fault, h.why, is)) (λ none. absurd (false≢true (sym enough ∙ none.1))) h.told

-- ---- 4. A verification

module _ (sound : Type 0) (k : Known) (v : Verification) (ts : List Transcript) (memory : Bool) where
  here : (b : Bool) → (b || false) ≡ true → b ≡ true
  here true h = h
  here false h = h

  not_here : (b : Bool) → (b || false) ≡ false → b ≡ false
  not_here true h = h
  not_here false h = h

  verification_fair : (h : IsVerified sound k 0 v ts) → IsFair sound (as_seat 1 k) (own_since 1 0 k.seen) h.reply
  verification_fair h = fair_verification sound (as_seat 1 k) v 0 (own_since 1 0 k.seen) h.reply h.right

  verification_told : IsUndamaged sound k → AnswersVerification sound k 0 v ts memory → some_refused_by is_of_disk (items_of ts) ≡ true → has_told k.seen ≡ true
  verification_told whole (inl h) tell = (verification_fair h).told whole (here (refused_by is_of_disk h.reply) (sym (ap (λ (l : List Transcript). some_refused_by is_of_disk (items_of l)) h.told) ∙ tell))
  verification_told whole (inr h) tell = absurd (false≢true (sym (ap (λ (l : List Transcript). some_refused_by is_of_disk (items_of l)) h.none) ∙ tell))

  verification_balanced : AnswersVerification sound k 0 v ts memory → has_fatal (items_of ts) ≡ false → (seat : ℕ) → IsBalanced (outline (acts_by seat k.seen))
  unfolding acts_by
  verification_balanced (inl h) go seat =
      let quiet = not_here (is_fatal h.reply) (sym (ap (λ (l : List Transcript). has_fatal (items_of l)) h.told) ∙ go) in
      elim (seat == 1) as (λ b. (seat == 1) ≡ b → IsBalanced (outline (acts_by seat k.seen))) [
        | true ↦ λ e. subst (λ (n : ℕ). IsBalanced (outline (acts_by n k.seen))) (sym (eqb-true seat 1 e)) ((verification_fair h).balanced quiet)
        | false ↦ λ e. subst IsBalanced (sym (ap outline (h.others seat (eqb-false seat 1 e)))) balanced-none
      ] refl
  verification_balanced (inr h) go seat = subst (λ (l : List Entry). IsBalanced (outline (acts_by seat l))) (sym (no_entries k.seen h.still)) balanced-none

  verification_whole : AnswersVerification sound k 0 v ts memory → memory ≡ false → IsOneReply ts
  verification_whole (inl h) enough = (h.reply, 0, length k.seen, h.told)
  verification_whole (inr h) enough = absurd (false≢true (sym enough ∙ h.lacks))

-- ---- 5. A load

module _ (sound : Type 0) (k : Known) (l : Loads) (ts : List Transcript) (memory : Bool) where
  load_told : IsUndamaged sound k → RanLoad sound k 0 l ts memory → some_refused_by is_of_disk (items_of ts) ≡ true → has_told k.seen ≡ true
  load_told whole (inl h) tell = ran_told sound k (load_text l) ts false h.lacked whole h.ran tell
  load_told whole (inr h) tell = absurd (false≢true (sym (ap (λ (l : List Transcript). some_refused_by is_of_disk (items_of l)) h.none) ∙ tell))

  load_balanced : RanLoad sound k 0 l ts memory → has_fatal (items_of ts) ≡ false → (seat : ℕ) → IsBalanced (outline (acts_by seat k.seen))
  unfolding acts_by
  load_balanced (inl h) go seat = ran_balanced sound k (load_text l) ts false h.lacked h.ran go seat
  load_balanced (inr h) go seat = subst (λ (l : List Entry). IsBalanced (outline (acts_by seat l))) (sym (no_entries k.seen h.still)) balanced-none

  not_lacked : (b : Bool) → (b ≡ true → memory ≡ true) → memory ≡ false → b ≡ false
  not_lacked true h enough = absurd (false≢true (sym enough ∙ h refl))
  not_lacked false h enough = refl

  load_whole : RanLoad sound k 0 l ts memory → has_fatal (items_of ts) ≡ false → memory ≡ false → IsWholeScript (load_text l) ts
  load_whole (inl h) go enough = ran_whole sound k (load_text l) ts false h.lacked h.ran go refl (not_lacked h.lacked h.told enough)
  load_whole (inr h) go enough = absurd (false≢true (sym enough ∙ h.lacked))

-- ---- 6. A job

module _ (sound : Type 0) (k : Known) (ts : List Transcript) (sink_failed memory : Bool) where
  job_told : (job : Job) → IsUndamaged sound k → AnswersJob sound k 0 job ts sink_failed memory → some_refused_by is_of_disk (items_of ts) ≡ true → has_told k.seen ≡ true
  job_told (Script script schedule) whole a tell = script_told sound k script ts sink_failed memory whole a tell
  job_told (Verify v) whole a tell = verification_told sound k v ts memory whole a tell
  job_told (Load l) whole a tell = load_told sound k l ts memory whole a tell

  job_balanced : (job : Job) → AnswersJob sound k 0 job ts sink_failed memory → has_fatal (items_of ts) ≡ false → (seat : ℕ) → IsBalanced (outline (acts_by seat k.seen))
  job_balanced (Script script schedule) a go seat = seats_balanced sound k script ts sink_failed memory a go seat
  job_balanced (Verify v) a go seat = verification_balanced sound k v ts memory a go seat
  job_balanced (Load l) a go seat = load_balanced sound k l ts memory a go seat

  job_whole : (job : Job) → AnswersJob sound k 0 job ts sink_failed memory → has_fatal (items_of ts) ≡ false → sink_failed ≡ false → memory ≡ false → HasEnded job ts
  job_whole (Script script schedule) a go sent enough = script_whole sound k script ts sink_failed memory a go sent enough
  job_whole (Verify v) a go sent enough = verification_whole sound k v ts memory a enough
  job_whole (Load l) a go sent enough = load_whole sound k l ts memory a go enough

  -- of a job of which nothing is refused all was done
  all_done : (job : Job) → HasEnded job ts → some_refused_by is_any (items_of ts) ≡ false → IsWholeJob job ts
  all_done (Script script schedule) (inl w) none = w
  all_done (Script script schedule) (inr why) none = absurd (false≢true (sym none ∙ ap (λ (l : List Transcript). some_refused_by is_any (items_of l)) why.2))
  all_done (Verify v) w none = w
  all_done (Load l) w none = w

module _ (sound : Type 0) (k : Known) (job : Job) (ts : List Transcript) (sink_failed memory : Bool) where
  -- where no session is stopped, nothing is left under way
  pub job_ended : AnswersJob sound k 0 job ts sink_failed memory → has_fatal (items_of ts) ≡ false → AllEnded k.seen
  job_ended h go =
      let balanced = job_balanced sound k ts sink_failed memory job h go in
      record { batches = batches_ended k.seen balanced; points = points_closed k.seen balanced }

  -- ---- 7. The run

  module _ {D O : Type 0} (d : DiskGhosts D) (s : SinkGhosts O) (disk : D) (out out' : O) (text : List ℕ) (status : Status) (whole : IsUndamaged sound k) (answers : AnswersJob sound k 0 job ts sink_failed memory) (written : IsTextWritten s out out' text sink_failed memory)
      (is : status ≡ status_of sink_failed (d.first_fault disk) memory (causes_of (items_of ts))) (blamed : has_told k.seen ≡ true → HasFailed d disk) (first : 0 < d.faults disk → 0 < d.first_fault disk) (some : 0 < d.first_fault disk → 0 < d.faults disk) where
    untold : (HasFailed d disk → ⊥) → some_refused_by is_of_disk (items_of ts) ≡ false
    untold fine = ⊎_elim (λ tell. absurd (fine (blamed (job_told sound k ts sink_failed memory job whole answers tell)))) (λ none. none) (cases_Bool (some_refused_by is_of_disk (items_of ts)))

    unfailed : (HasFailed d disk → ⊥) → d.first_fault disk ≡ 0
    unfailed fine = ⊎_elim (λ (up : 0 < d.first_fault disk). absurd (fine (inl (some up)))) (λ (low : d.first_fault disk ≤ 0). omega arith) (cases_lt 0 (d.first_fault disk))

    sent : (FaultsRose (s.faults out) (s.faults out') → ⊥) → sink_failed ≡ false
    sent fine = ⊎_elim (λ lost. absurd (fine (written.failed lost))) (λ kept. kept) (cases_Bool sink_failed)

    -- a run that is told to be done had no failure
    fine_done : status ≡ Done → d.calls disk < last_count → HasFailed d disk → ⊥
    fine_done done low failed = (let zero_is = (done_by sink_failed (d.first_fault disk) memory (causes_of (items_of ts)) (sym is ∙ done)).failed_is in
        elim failed [
          | inl rose ↦ (let up = first rose in absurd (omega arith))
          | inr last ↦ elim last [
            | inl calls ↦ absurd (omega arith)
            | inr faults ↦ (let up = first (omega arith) in absurd (omega arith))
          ]
        ])

    pub complete : IsComplete d s disk out out' job ts memory status
    complete = record {
      answered = untold;
      goes_on = λ fine. none_fatal (items_of ts) (untold fine);
      quiet = λ fine kept. subst IsQuietStatus (sym is) (quiet_by sink_failed (d.first_fault disk) memory (causes_of (items_of ts)) (sent kept) (unfailed fine) (none_damaged (items_of ts) (untold fine)));
      ended = λ fine kept enough. job_whole sound k ts sink_failed memory job answers (none_fatal (items_of ts) (untold fine)) (sent kept) enough;
      done = λ done low.
          let by = done_by sink_failed (d.first_fault disk) memory (causes_of (items_of ts)) (sym is ∙ done) in
          let fine = fine_done done low in
          let none = none_refused (items_of ts) (untold fine) by.lacked_is by.refused_is in
          record { whole = all_done sound k ts sink_failed memory job (job_whole sound k ts sink_failed memory job answers (none_fatal (items_of ts) (untold fine)) by.sink_is by.memory_is) none; none_refused = none; enough = by.memory_is; sent = written.quiet by.sink_is };
    }
