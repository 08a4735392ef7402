-- How reads go on from one another.
use Rattle.std.proofs.Common.{◌≡◌, ℕ, ◌≤◌, List, refl, sym, subst, ◌∙◌, arith, inl, inr}
use Rattle.px_outside.specs.OnDisk.{Rose}
use Rattle.px_outside.specs.declared.disk.Disk.{Ghosts}
use Rattle.px_outside.proofs.Moments.{stays_then}
use Rattle.px_region.specs.OnlyRead.{HasOnlyRead}

module _ {D : Type 0} (d : Ghosts D) where
  -- no read
  pub reads_none : ((disk : D) (moment file : ℕ) (bytes : List ℕ) → d.left disk moment file bytes → moment ≤ d.calls disk) → (disk : D) → HasOnlyRead d disk disk
  reads_none up_to_now disk = record {
    seen = refl;
    stays = record {
      past = λ moment file bytes before is. is;
      now = λ moment file bytes from is.
          let now : moment ≡ d.calls disk = (let le = up_to_now disk moment file bytes is in omega arith) in
          subst (λ (m : ℕ). d.left disk m file bytes) now is;
      later = omega arith;
    };
    calls = refl;
    faults = refl;
    first = refl;
  }

  module _ (old mid new : D) where
    -- these reads, and then those
    pub reads_then : HasOnlyRead d old mid → HasOnlyRead d mid new → HasOnlyRead d old new
    reads_then first second = record {
      seen = second.seen ∙ first.seen;
      stays = stays_then d.calls d.left old mid new first.stays second.stays;
      calls = second.calls ∙ first.calls;
      faults = second.faults ∙ first.faults;
      first = second.first ∙ first.first;
    }

    -- the disk failed in the later reads
    pub reads_rose : HasOnlyRead d old mid → Rose d mid new → Rose d old new
    reads_rose reads (inl rose) = inl (omega (arith, reads.faults))
    reads_rose reads (inr last) = inr last

    -- or in the earlier ones
    pub rose_read : Rose d old mid → HasOnlyRead d mid new → Rose d old new
    rose_read (inl rose) reads = inl (omega (arith, reads.faults))
    rose_read (inr (inl last)) reads = inr (inl (omega (arith, reads.stays.later)))
    rose_read (inr (inr last)) reads = inr (inr (omega (arith, reads.faults)))
