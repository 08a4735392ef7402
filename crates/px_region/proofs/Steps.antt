-- What a step of a flush leaves.
use Rattle.std.proofs.Common.{◌≡◌, ◌⊎◌, ◌≤◌, ℕ, ◌+◌, List, Option, None, Some, inl, subst, sym, ◌∙◌, arith}
use Rattle.std.specs.Prelude.{◌-◌, ◌≢◌, Result, Ok, Err, OnOk}
use Rattle.px_outside.specs.OnDisk.{LeavesOnly}
use Rattle.px_outside.specs.declared.disk.Disk.{Ghosts}
use Rattle.px_cells.specs.CellData.{CellData}
use Rattle.px_flushing.specs.Flushing.{Goes, horizon_after}
use Rattle.px_flushing.specs.declared.flushing.FlushStep.{FlushStep}
use Rattle.px_flushing.specs.declared.flushing.FlushStep.TheVariants as step
use Rattle.px_flushing.specs.declared.fault.FlushFault.{FlushFault}
use Rattle.px_flushing.specs.declared.fault.FlushFault.TheVariants as flush
use Rattle.px_region.specs.Faults.{job_fault}
use Rattle.px_region.specs.Forgetting.{Forgets, ForgetsBy, MayGoOn, StandsFrom, StandsKept}
use Rattle.px_region.specs.Region.{RegionData, RegionStands}
use Rattle.px_region.specs.Stamps.{Allows}
use Rattle.px_region.specs.declared.fault.JobFault.TheVariants.{Memory}
use Rattle.px_region.specs.declared.stamps.LeastStamps.{LeastStamps}

-- of what was above the number, so much is named
pub left_over : (left now gone rest : ℕ) → left ≡ now - gone → (before : ℕ) → now ≡ before → before ≡ gone + rest → left ≡ rest
left_over left now gone rest is before was all = omega (arith, is, was, all)

-- a fault that is put aside like want of memory is none of a write
pub unwritten : (f : FlushFault) → job_fault f ≡ Memory → f ≡ flush.WriteFault → ⊥
unwritten f memory is = (let e = sym memory ∙ (λ i. job_fault (is i)) in cc)

-- ---- a step that forgets nothing

pub goes_more : (r : Result FlushStep FlushFault) (old new : List CellData) → r ≡ Ok step.More → Goes r old new → new ≡ old
goes_more r old new is goes = subst (λ (x : Result FlushStep FlushFault). Goes x old new) is goes

pub goes_done : (r : Result FlushStep FlushFault) (old new : List CellData) → r ≡ Ok step.Done → Goes r old new → new ≡ old
goes_done r old new is goes = subst (λ (x : Result FlushStep FlushFault). Goes x old new) is goes

pub goes_merged : (r : Result FlushStep FlushFault) (old new : List CellData) → r ≡ Ok step.Merged → Goes r old new → new ≡ old
goes_merged r old new is goes = subst (λ (x : Result FlushStep FlushFault). Goes x old new) is goes

pub goes_named : (r : Result FlushStep FlushFault) (cells bytes : ℕ) (old new : List CellData) → r ≡ Ok (step.Named cells bytes) → Goes r old new → new ≡ old
goes_named r cells bytes old new is goes = subst (λ (x : Result FlushStep FlushFault). Goes x old new) is goes

pub horizon_merged : (r : Result FlushStep FlushFault) (before after : ℕ) → r ≡ Ok step.Merged → after ≡ horizon_after r before → after ≡ before
horizon_merged r before after is same = subst (λ (x : Result FlushStep FlushFault). after ≡ horizon_after x before) is same

pub horizon_named : (r : Result FlushStep FlushFault) (cells bytes before after : ℕ) → r ≡ Ok (step.Named cells bytes) → after ≡ horizon_after r before → after ≡ before
horizon_named r cells bytes before after is same = subst (λ (x : Result FlushStep FlushFault). after ≡ horizon_after x before) is same

-- ---- a compaction with a horizon, or without

pub some_not : (o : Option ℕ) (h : ℕ) → o ≡ Some h → o ≢ None
some_not o h some none = (let e : None ≡ Some h = sym none ∙ some in cc)

pub some_one : (o : Option ℕ) (h k : ℕ) → o ≡ Some h → o ≡ Some k → h ≡ k
some_one o h k some other = (let e : Some h ≡ Some k = sym some ∙ other in cc)

pub none_stands : {D : Type 0} (d : Ghosts D) (o : Option ℕ) (old new : D) (number : ℕ) (s : RegionData) → o ≡ None → LeavesOnly d old new (λ moment image. StandsFrom o number image s) → LeavesOnly d old new (λ moment image. RegionStands number image s)
none_stands d o old new number s none leaves = subst (λ (x : Option ℕ). LeavesOnly d old new (λ moment image. StandsFrom x number image s)) none leaves

pub some_stands : {D : Type 0} (d : Ghosts D) (o : Option ℕ) (h : ℕ) (old new : D) (number : ℕ) (s : RegionData) → o ≡ Some h → LeavesOnly d old new (λ moment image. StandsFrom o number image s)
    → LeavesOnly d old new (λ moment image. RegionStands number image s ⊎ StandsKept number image h s)
some_stands d o h old new number s some leaves = subst (λ (x : Option ℕ). LeavesOnly d old new (λ moment image. StandsFrom x number image s)) some leaves

-- what stays is what is left of a compaction with a horizon too
pub plain_stands : {D : Type 0} (d : Ghosts D) (h : ℕ) (old new : D) (number : ℕ) (s : RegionData) → LeavesOnly d old new (λ moment image. RegionStands number image s) → LeavesOnly d old new (λ moment image. RegionStands number image s ⊎ StandsKept number image h s)
plain_stands d h old new number s leaves = record { each = λ moment image since left. inl (leaves.each moment image since left) }

pub none_forgets : (o : Option ℕ) (s t : RegionData) → o ≡ None → ForgetsBy o s t → ⊥
none_forgets o s t none by = subst (λ (x : Option ℕ). ForgetsBy x s t) none by

pub some_forgets : (o : Option ℕ) (h : ℕ) (s t : RegionData) → o ≡ Some h → ForgetsBy o s t → Forgets h s t × (s.horizon ≤ h)
some_forgets o h s t some by = subst (λ (x : Option ℕ). ForgetsBy x s t) some by

pub allow_on : (o : Option ℕ) (h : ℕ) (stamps : LeastStamps) → o ≡ Some h → Allows stamps h → MayGoOn o stamps
allow_on o h stamps some allows = subst (λ (x : Option ℕ). MayGoOn x stamps) (sym some) allows

pub none_on : (o : Option ℕ) (stamps : LeastStamps) → o ≡ None → MayGoOn o stamps
none_on o stamps none = subst (λ (x : Option ℕ). MayGoOn x stamps) (sym none) tt

pub on_ok : {A E : Type 0} (r : Result A E) (P : Type 0) → P → OnOk r P
on_ok (Ok x) P p = p
on_ok (Err f) P p = tt
