-- What the command `verify` is answered, by the trail.
use Rattle.std.specs.Prelude.{ℕ, ◌≡◌, ◌≤◌, if◌then◌else◌, List, [], ◌∷◌, length, take, Option, None, Some, option_map, Result, Ok, Err}
use Rattle.std.specs.Option.{is_some}
use Rattle.std.specs.Str.{bytes_eq}
use Rattle.px_values.specs.declared.name.IndexId.{IndexId}
use Rattle.px_tables.specs.declared.found.Found.{Found}
use Rattle.px_tables.specs.declared.index.Index.{Index}
use Rattle.px_trail.specs.declared.entry.Act.{Act}
use Rattle.px_calls.specs.declared.fault.StepFault.{StepFault}
use Rattle.px_calls.specs.declared.fault.StepFault.TheVariants as step
use Rattle.px_calls.specs.Calls.{IsFound}
use Rattle.px_calls.specs.Causes.{ClosedBy, NamesNoTable}
use Rattle.px_calls.specs.Known.{Known, Ran, outline}
use Rattle.px_reply.specs.declared.refusal.Refusal.{Refusal}
use Rattle.px_reply.specs.declared.refusal.Refusal.TheVariants as refusal
use Rattle.px_reply.specs.declared.reply.Checked.{Checked}
use Rattle.px_reply.specs.declared.reply.Counts.{Counts}
use Rattle.px_reply.specs.declared.reply.Reply.{Reply}
use Rattle.px_reply.specs.declared.reply.Reply.TheVariants as reply
use Rattle.px_verify.specs.declared.answer.Reported.{Reported}
use Rattle.px_verify.specs.declared.report.Report.{Report}
use Rattle.px_verifying.specs.declared.answer.Reports.{Reports}
use Rattle.px_verifying.specs.declared.answer.Unfinished.{Unfinished}
use Rattle.px_verifying.specs.declared.answer.VerifyFault.{VerifyFault}
use Rattle.px_verifying.specs.declared.answer.VerifyFault.TheVariants as fault
use Rattle.px_verifying.specs.Turns.{IsVerificationOutcome}
use Rattle.px_verified.specs.declared.asked.Verification.{Verification}

-- 1. How an outcome is told

-- why a part was refused that names neither the table nor the index
abbrev pub refusal_without_a_name : VerifyFault → Refusal
refusal_without_a_name (fault.Limit which count) = refusal.Limit which
refusal_without_a_name (fault.BelowHorizon h) = refusal.BelowHorizon h
refusal_without_a_name fault.ReadFault = refusal.ReadFault
refusal_without_a_name fault.WriteFault = refusal.WriteFault
refusal_without_a_name (fault.Damaged file place) = refusal.Damaged file place
refusal_without_a_name (fault.Closed call) = refusal.Closed call
refusal_without_a_name f = refusal.Memory

abbrev pub refusal_of : Verification → VerifyFault → Refusal
refusal_of v fault.NoTable = refusal.NoTable v.table
refusal_of v fault.NoIndex = refusal.NoIndex v.index
refusal_of v f = refusal_without_a_name f

abbrev pub counts_of : Report → Counts
counts_of r = record { matching = r.matching; unverified = r.unverified; missing = r.missing; extra = r.extra; wrong = r.wrong }

abbrev pub shown : Option Reported → Option Counts
shown reported = option_map (λ a. counts_of a.report) reported

-- the parts that were finished, and why the next one wasn't
abbrev pub checked_of : Reports → Option Refusal → Checked
checked_of x why = record { before = shown x.before; rebuilt = is_some x.rebuilt; after = shown x.after; refused = why }

abbrev pub told_of_verification : Verification → Result Reports Unfinished → Reply
told_of_verification v (Ok x) = reply.Verified (checked_of x None)
told_of_verification v (Err u) = reply.Verified (checked_of u.done (Some (refusal_of v u.fault)))

-- no table was found
abbrev pub unfound : Verification → StepFault → Reply
unfound v step.NoTable = reply.Refused (refusal.NoTable v.table)
unfound v (step.Closed call) = reply.Refused (refusal.Closed call)
unfound v f = reply.Refused refusal.Memory

-- 2. What was found

-- the number of the index of this name
abbrev pub id_of_index_named : List Index → List ℕ → Option IndexId
id_of_index_named [] name = None
id_of_index_named (x ∷ xs) name = if bytes_eq x.name name then Some x.id else id_of_index_named xs name

-- what was seen after the first n entries
abbrev pub back_to : ℕ → Known → Known
back_to n k = record k { seen = take n k.seen }

-- the table of this name stood after the first n entries, with its indexes
pub record TableStoodAt (k : Known) (n : ℕ) (name : List ℕ) (f : Found) : Type 0 where
  pub within : n ≤ length k.seen
  pub is : IsFound k.base (take n k.seen) f
  pub named : f.table.name ≡ name

-- 3. What is right

-- The reply to a verification that was begun after the first `from` entries, where `own` is what the seat began, ended, opened, closed and defined for it
pub data IsRightVerification (sound : Type 0) (k : Known) (from : ℕ) (own : List Act) (v : Verification) (r : Reply) : Type 0 where
  is_closed : (call : ℕ) → ClosedBy call k → r ≡ reply.Refused (refusal.Closed call) → own ≡ [] → IsRightVerification sound k from own v r
  is_unfound : (n : ℕ) → from ≤ n → n ≤ length k.seen → NamesNoTable (back_to n k) v.table → r ≡ reply.Refused (refusal.NoTable v.table) → own ≡ [] → IsRightVerification sound k from own v r
  is_not_indexed : (n : ℕ) (f : Found) → from ≤ n → TableStoodAt k n v.table f → id_of_index_named f.indexes v.index ≡ None → r ≡ reply.Refused (refusal.NoIndex v.index) → own ≡ [] → IsRightVerification sound k from own v r
  is_lacking : r ≡ reply.Refused refusal.Memory → own ≡ [] → IsRightVerification sound k from own v r
  -- each part of the kind was finished, or those before one that was refused
  is_over : (n : ℕ) (f : Found) (i : IndexId) (came : Result Reports Unfinished) → from ≤ n → TableStoodAt k n v.table f → id_of_index_named f.indexes v.index ≡ Some i → IsVerificationOutcome sound n f.table.id i v.kind own k came → r ≡ told_of_verification v came → IsRightVerification sound k from own v r

-- a whole verification, and of the seat's own acts those that it is made of
pub record HasVerified (sound : Type 0) (k k' : Known) (v : Verification) (r : Reply) : Type 0 where
  pub acts : List Act
  pub ran : Ran k k' acts
  pub right : IsRightVerification sound k' (length k.seen) (outline acts) v r
