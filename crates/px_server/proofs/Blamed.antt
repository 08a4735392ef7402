-- Entries that tell of a failed device call stand where one failed.
use Rattle.std.proofs.Common.{◌≡◌, ◌≤◌, inl, inr, true, false, ◌||◌, List, [], ◌∷◌, ◌++◌, sym, ap, ◌∙◌, arith}
use Rattle.std.proofs.Math.Bool.{or-false, or_assoc}
use Rattle.px_outside.specs.OnDisk.{Rose}
use Rattle.px_outside.specs.declared.disk.Disk.{Ghosts}
use Rattle.px_trail.proofs.Orders.{or_none}
use Rattle.px_trail.specs.declared.entry.Entry.{Entry}
use Rattle.px_server.specs.Kept.{HasFailed, has_told, tells_fault}

module _ {D : Type 0} (d : Ghosts D) (old new : D) where
  pub failed_rose : Rose d old new → HasFailed d new
  failed_rose (inl up) = inl (omega (arith, up))
  failed_rose (inr last) = inr last

  pub failed_on : d.calls old ≤ d.calls new → d.faults old ≤ d.faults new → HasFailed d old → HasFailed d new
  failed_on calls faults (inl up) = inl (omega (arith, up, faults))
  failed_on calls faults (inr (inl last)) = inr (inl (omega (arith, last, calls)))
  failed_on calls faults (inr (inr last)) = inr (inr (omega (arith, last, faults)))

  -- later calls, and no entry
  pub blamed_on : (es : List Entry) → d.calls old ≤ d.calls new → d.faults old ≤ d.faults new → (has_told es ≡ true → HasFailed d old) → has_told es ≡ true → HasFailed d new
  blamed_on es calls faults blamed told = failed_on calls faults (blamed told)

told_more : (es : List Entry) (e : Entry) → has_told (es ++ e ∷ []) ≡ has_told es || tells_fault e.act
told_more [] e = or-false (tells_fault e.act)
told_more (x ∷ es) e = ap (λ v. tells_fault x.act || v) (told_more es e) ∙ sym (or_assoc (tells_fault x.act) (has_told es) (tells_fault e.act))

module _ {D : Type 0} (d : Ghosts D) (disk : D) (es : List Entry) (e : Entry) where
  -- an entry that tells of no fault
  pub blamed_quiet : tells_fault e.act ≡ false → (has_told es ≡ true → HasFailed d disk) → has_told (es ++ e ∷ []) ≡ true → HasFailed d disk
  blamed_quiet quiet blamed told = blamed (sym (or_none (has_told es) (tells_fault e.act) quiet) ∙ (sym (told_more es e) ∙ told))
