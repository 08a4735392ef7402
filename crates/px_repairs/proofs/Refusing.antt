-- Room that is refused for a repair.
use Rattle.std.proofs.Common.{◌≡◌, ◌≤◌, ℕ, Result, Err, Some, List, length, slice_get, ap, sym, subst, inl, inr, arith}
use Rattle.std.specs.Prelude.{min}
use Rattle.px_cells.specs.CellData.{CellData}
use Rattle.px_cellbytes.specs.Spelling.{all_bytes}
use Rattle.px_wal.specs.Manifest.{named_snapshot}
use Rattle.px_wal.specs.Wal.{is_wal_open, room_of_wal}
use Rattle.px_wal.specs.declared.manifest.Manifest.{Manifest}
use Rattle.px_wal.specs.declared.wal.Wal.{Wal}
use Rattle.px_region.specs.Promise.{HasLogRoom, IsLogReady, PassesLimit}
use Rattle.px_region.specs.declared.region.Region.{Region}
use Rattle.px_group.specs.declared.group.Group.{Group}
use Rattle.px_group.specs.declared.group.IndexRegion.{IndexRegion}
use Rattle.px_reading.specs.Looked.{HasLooked, IsLookedAt}
use Rattle.px_reading.proofs.Looked.{looked_on}
use Rattle.px_repairs.specs.Refused.{RefusesCells, RefusesDue, RefusesRepair, RefusesRoom}
use Rattle.px_repairs.specs.Repairs.{IsRepair}
use Rattle.px_repairs.specs.declared.repairing.RepairFault.{RepairFault}
use Rattle.px_repairs.specs.declared.repairing.RepairFault.TheVariants.{Busy, NotReady, ReadFault, Damaged, WriteFault, Memory}

pub err_same : {A : Type 0} (a b : RepairFault) → ◌≡◌ {A = Result A RepairFault} (Err a) (Err b) → a ≡ b
err_same a b e = cc

-- ---- counts that stand still at their type's end

-- what is refused for fewer is refused for more
more_passes : (region : Region) (c n c' n' : ℕ) → c ≤ c' → n ≤ n' → PassesLimit region c n → PassesLimit region c' n'
more_passes region c n c' n' l m (inl p) = inl (omega (arith, l, p))
more_passes region c n c' n' l m (inr p) = inr (omega (arith, m, p))

more_room : (region : Region) (c n c' n' : ℕ) → c ≤ c' → n ≤ n' → HasLogRoom region c' n' → HasLogRoom region c n
more_room region c n c' n' l m r = ((let a = r.0 in omega (arith, l, a)), (let b = r.1 in omega (arith, l, m, b)))

refused_more : (region : Region) (c n c' n' : ℕ) → c ≤ c' → n ≤ n' → (fault : RepairFault) → RefusesRoom region c n fault → RefusesRoom region c' n' fault
refused_more region c n c' n' l m NotReady (inl r) = inl r
refused_more region c n c' n' l m NotReady (inr r) = inr (λ h. r (more_room region c n c' n' l m h))
refused_more region c n c' n' l m (Busy a b) r = (r.0, more_passes region c n c' n' l m r.1, r.2, r.3)
refused_more region c n c' n' l m WriteFault r = tt
refused_more region c n c' n' l m Memory r = tt
refused_more region c n c' n' l m ReadFault r = r
refused_more region c n c' n' l m (Damaged file at) r = r

min_less : (n m : ℕ) → m ≡ min n 18446744073709551615 → m ≤ n
min_less n m e = omega (arith, e)

pub refused_for : (region : Region) (cells : List CellData) (c n : ℕ) → c ≡ min (length cells) 18446744073709551615 → n ≡ min (length (all_bytes cells)) 18446744073709551615 → (fault : RepairFault) → RefusesRoom region c n fault → RefusesCells region cells fault
refused_for region cells c n a b fault r = refused_more region c n (length cells) (length (all_bytes cells)) (min_less (length cells) c a) (min_less (length (all_bytes cells)) n b) fault r

-- ---- a region that was looked at refuses what it refused before

module _ (old new : Region) (l : IsLookedAt old new) where
  ready_back : IsLogReady new → IsLogReady old
  ready_back r = (subst is_wal_open l.alike.wal r.0, subst (λ (w : Wal). (named_snapshot old.manifest).flushed ≤ w.last) l.alike.wal (subst (λ (m : Manifest). (named_snapshot m).flushed ≤ new.wal.last) l.alike.manifest r.1))

  ready_on : IsLogReady old → IsLogReady new
  ready_on r = (subst is_wal_open (sym l.alike.wal) r.0, subst (λ (w : Wal). (named_snapshot new.manifest).flushed ≤ w.last) (sym l.alike.wal) (subst (λ (m : Manifest). (named_snapshot m).flushed ≤ old.wal.last) (sym l.alike.manifest) r.1))

  passes_back : (c n : ℕ) → PassesLimit new c n → PassesLimit old c n
  passes_back c n (inl p) = inl (let a = l.alike.cells in let b = l.promised.cells in omega (arith, a, b, p))
  passes_back c n (inr p) = inr (let a = l.alike.bytes in let b = l.promised.bytes in omega (arith, a, b, p))

  room_on : (c n : ℕ) → HasLogRoom old c n → HasLogRoom new c n
  room_on c n r = (let a = ap (λ (w : Wal). w.last) l.alike.wal in let b = ap room_of_wal l.alike.wal in let d = l.promised.cells in let e = l.promised.bytes in let p = r.0 in let q = r.1 in (omega (arith, a, d, p), omega (arith, b, d, e, q)))

  refused_back : (c n : ℕ) (fault : RepairFault) → RefusesRoom new c n fault → RefusesRoom old c n fault
  refused_back c n NotReady (inl r) = inl (λ h. r (ready_on h))
  refused_back c n NotReady (inr r) = inr (λ h. r (room_on c n h))
  refused_back c n (Busy had had_bytes) r = (
    ready_back r.0,
    passes_back c n r.1,
    (let a = l.alike.cells in let b = l.promised.cells in let e = r.2 in omega (arith, a, b, e)),
    (let a = l.alike.bytes in let b = l.promised.bytes in let e = r.3 in omega (arith, a, b, e)),
  )
  refused_back c n WriteFault r = tt
  refused_back c n Memory r = tt
  refused_back c n ReadFault r = r
  refused_back c n (Damaged file place) r = r

-- ---- the repair

module _ (g looked : Group) (has : HasLooked g looked) (place : ℕ) (x : IndexRegion) (at : slice_get g.indexes.items place ≡ Some x) (k : List ℕ) (s : ℕ) (kept : List CellData) (due : IsRepair looked place k s kept) where
  due_refused : (fault : RepairFault) → ((y : IndexRegion) → slice_get looked.indexes.items place ≡ Some y → RefusesCells y.region kept fault) → RefusesDue g place x k s fault
  due_refused fault r =
      let w = looked_on g.indexes.items looked.indexes.items has.indexes place x at in
      record { looked = looked; has = has; kept = kept; due = due; refused = refused_back x.region w.0.region w.1.1.region (length kept) (length (all_bytes kept)) fault (r w.0 w.1.0) }

  pub repair_refused : (fault : RepairFault) → ((y : IndexRegion) → slice_get looked.indexes.items place ≡ Some y → RefusesCells y.region kept fault) → RefusesRepair g place x k s fault
  repair_refused NotReady r = due_refused NotReady r
  repair_refused (Busy cells bytes) r = due_refused (Busy cells bytes) r
  repair_refused WriteFault r = tt
  repair_refused Memory r = tt
  repair_refused ReadFault r = tt
  repair_refused (Damaged file damaged) r = tt
