-- Room that is refused, and what became of the table.
use Rattle.std.proofs.Common.{◌≡◌, ◌≢◌, ℕ, ◌≤◌, Result, Ok, Err, Some, List, [], ◌∷◌, length, ap, ◌∙◌, subst, arith}
use Rattle.std.specs.Prelude.{min, slice_get}
use Rattle.px_outside.specs.declared.disk.Disk.{Ghosts}
use Rattle.px_cells.specs.CellData.{CellData}
use Rattle.px_cellbytes.specs.Spelling.{all_bytes}
use Rattle.px_keptcells.specs.Kept.{laid}
use Rattle.px_region.specs.declared.region.Region.{Region}
use Rattle.px_indexrow.specs.Form.{index_form}
use Rattle.px_baserows.specs.Rows.{base_parts}
use Rattle.px_calls.specs.declared.query.BaseRow.{BaseRow}
use Rattle.px_group.specs.declared.group.Group.{Group}
use Rattle.px_group.specs.declared.group.IndexRegion.{IndexRegion}
use Rattle.px_batching.proofs.Places.{same_at}
use Rattle.px_reading.specs.Looked.{HasLooked, IsLookedAt}
use Rattle.px_reading.proofs.Looked.{no_look, no_looks}
use Rattle.px_repairs.specs.Repairs.{HasStayed, IsRegionStep}
use Rattle.px_repairs.specs.declared.repairing.RepairFault.TheVariants as repair
use Rattle.px_repairs.proofs.Refusing as refusing
use Rattle.px_basing.specs.Basing.{Bases, WroteBases, Written, base_cells_of}
use Rattle.px_basing.specs.Refused.{IsRefusedFor, IsRoomRefused}
use Rattle.px_basing.specs.declared.fault.BaseFault.{BaseFault}
use Rattle.px_basing.specs.declared.fault.BaseFault.TheVariants.{Busy, NotReady, WriteFault, Memory}

-- ---- room

pub err_same : {A : Type 0} (a b : BaseFault) → ◌≡◌ {A = Result A BaseFault} (Err a) (Err b) → a ≡ b
err_same a b e = cc

-- counts that stand still at their type's end
pub refused_for : (region : Region) (cells : List CellData) (c n : ℕ) → c ≡ min (length cells) 18446744073709551615 → n ≡ min (length (all_bytes cells)) 18446744073709551615 → (fault : BaseFault) → IsRoomRefused region c n fault → IsRefusedFor region cells fault
refused_for region cells c n a b (NotReady number) r = (r.0, refusing.refused_for region cells c n a b repair.NotReady r.1)
refused_for region cells c n a b (Busy number had had_bytes) r = (r.0, refusing.refused_for region cells c n a b (repair.Busy had had_bytes) r.1)
refused_for region cells c n a b WriteFault r = tt
refused_for region cells c n a b Memory r = tt

-- ---- the cells

pub some_cells : (g : Group) (x : IndexRegion) (xs : List BaseRow) → xs ≢ [] → 1 ≤ length (base_cells_of g x xs)
some_cells g x [] n = absurd (n (λ i. []))
some_cells g x (r ∷ xs) n = omega arith

-- those that were made are those of the index that is written to
pub same_cells : (g : Group) (place : ℕ) (xs : List BaseRow) (x y : IndexRegion) → slice_get g.indexes.items place ≡ Some x → slice_get g.indexes.items place ≡ Some y → (kept : List (List CellData)) → kept ≡ base_parts (index_form g.table x.index) x.index.birth xs → laid kept ≡ base_cells_of g y xs
same_cells g place xs x y at at' kept is = ap laid is ∙ ap (λ (z : IndexRegion). base_cells_of g z xs) (same_at g.indexes.items place x y at at')

-- ---- the table

module _ {D : Type 0} (d : Ghosts D) (g g' : Group) (disk disk' : D) (place : ℕ) (xs : List BaseRow) (x : IndexRegion) (new : Region) (step : IsRegionStep g g' place x new) (stays : IsLookedAt x.region new → HasLooked g g') where
  bases_of : {S : Type 0} (result : Result S BaseFault) → Written d x.region new disk disk' (base_cells_of g x xs) result → Bases d g g' disk disk' place xs result
  bases_of (Ok done) w = record { index = x; region = new; step = step; wrote = w }
  bases_of (Err WriteFault) w = record { index = x; region = new; step = step; hands = w }
  bases_of (Err (Busy region cells bytes)) w = record { looked = stays w.0; untouched = w.1 }
  bases_of (Err (NotReady region)) w = record { looked = stays w.0; untouched = w.1 }
  bases_of (Err Memory) w = record { looked = stays w.0; untouched = w.1 }

  pub bases_ok : {S : Type 0} (result : Result S BaseFault) (done : S) → result ≡ Ok done → Written d x.region new disk disk' (base_cells_of g x xs) result → WroteBases d g g' disk disk' place xs
  bases_ok {S} result done e w = bases_of {S = S} (Ok done) (subst (λ (r : Result S BaseFault). Written d x.region new disk disk' (base_cells_of g x xs) r) e w)

  pub bases_err : {S : Type 0} (T : Type 0) (result : Result S BaseFault) (fault : BaseFault) → result ≡ Err fault → Written d x.region new disk disk' (base_cells_of g x xs) result → Bases {T = T} d g g' disk disk' place xs (Err fault)
  bases_err {S} T result fault e w = by fault (bases_of {S = S} (Err fault) (subst (λ (r : Result S BaseFault). Written d x.region new disk disk' (base_cells_of g x xs) r) e w))
    where
      by : (f : BaseFault) → Bases {T = S} d g g' disk disk' place xs (Err f) → Bases {T = T} d g g' disk disk' place xs (Err f)
      by WriteFault b = b
      by (Busy region cells bytes) b = b
      by (NotReady region) b = b
      by Memory b = b

-- nothing was done
pub bases_none : {D : Type 0} (g : Group) (disk : D) → HasStayed g g disk disk
bases_none g disk = record { looked = record { table = λ i. g.table; rows = no_look g.rows; indexes = no_looks g.indexes.items; batches = λ i. g.batches; points = λ i. g.points; last = λ i. g.last; horizon = λ i. g.horizon }; untouched = λ i. disk }
