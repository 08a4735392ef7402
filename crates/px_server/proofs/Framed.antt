-- Calls on the files of one region leave the catalogue and each other region as they were.
use Rattle.std.proofs.Common.{◌≡◌, ◌≢◌, ◌≤◌, inl, inr, ℕ, List, [], ◌∷◌, refl, sym, ap, subst, ◌∙◌, arith}
use Rattle.px_outside.specs.OnDisk.{TouchesOnly}
use Rattle.px_outside.specs.Parts.{with_part}
use Rattle.px_outside.specs.declared.disk.Disk.{Ghosts}
use Rattle.px_outside.proofs.Parts.{with_part-here, with_part-other}
use Rattle.px_cells.specs.CellData.{CellData}
use Rattle.px_tables.specs.declared.table.TableRegion.{TableRegion}
use Rattle.px_wal.specs.Files.{HasFile}
use Rattle.px_region.specs.Region.{RegionData, RegionHolds}
use Rattle.px_region.specs.declared.region.Region.{Region}
use Rattle.px_region.proofs.Holding.{files_apart, holds_kept}
use Rattle.px_catalog.specs.Catalogue.{HasCatalogue, catalogue_files}
use Rattle.px_catalog.specs.declared.catalog.Catalog.{Catalog}
use Rattle.px_catalog.proofs.Holding.{catalogue_kept}
use Rattle.px_recovery.specs.Folder.{FolderData, with_region}
use Rattle.px_recovery.specs.Tables.{AreInRegion, region_from}
use Rattle.px_group.specs.Group.{IsRightGroup}
use Rattle.px_group.specs.declared.group.Group.{Group}
use Rattle.px_server.specs.Kept.{IsOnDisk}
use Rattle.px_server.proofs.Numbers.{LacksNumber}

-- no file of a region is the catalogue's
not_catalogue : (n file : ℕ) → 1 ≤ n → catalogue_files file → HasFile n file → ⊥
not_catalogue n file some (inl is) own = let i = own.is in omega arith
not_catalogue n file some (inr is) own = let i = own.is in omega arith

module _ {D : Type 0} (d : Ghosts D) (disk disk' : D) (n : ℕ) (touches : TouchesOnly d disk disk' (HasFile n)) where
  pub catalogue_framed : (c : Catalog) → 1 ≤ n → HasCatalogue d c disk → HasCatalogue d c disk'
  catalogue_framed c some has = catalogue_kept d c disk has disk' (HasFile n) touches (λ file own touched. not_catalogue n file some own touched)

  module _ (f : FolderData) (s : RegionData) where
    pub region_framed : (r : Region) → r.number ≢ n → RegionHolds d r disk (f.regions r.number) → RegionHolds d r disk' ((with_region n s f).regions r.number)
    region_framed r other holds =
        subst (λ (c : RegionData). RegionHolds d r disk' c) (sym (with_part-other f.regions n s r.number other)) (holds_kept d r disk (f.regions r.number) holds disk' (HasFile n) touches (λ file own touched. files_apart r.number n file other own touched))

    pub group_framed : (h : Group) → LacksNumber n h → IsOnDisk d disk f h → IsOnDisk d disk' (with_region n s f) h
    group_framed h lacks k = record { rows = region_framed h.rows lacks.rows k.rows; indexes = λ i x at. region_framed x.region (lacks.indexes i x at) (k.indexes i x at) }

-- the region that was written has the cells
pub region_here : {D : Type 0} (d : Ghosts D) (disk' : D) (f : FolderData) (n : ℕ) (s : RegionData) (r : Region) → r.number ≡ n → RegionHolds d r disk' s → RegionHolds d r disk' ((with_region n s f).regions r.number)
region_here d disk' f n s r own holds = subst (λ (c : RegionData). RegionHolds d r disk' c) (sym (ap (with_part f.regions n s) own ∙ with_part-here f.regions n s)) holds

-- ---- the one region of a table's rows has each key

first_region : (n m : ℕ) (k : List ℕ) → region_from m (record { number = n; least_key = [] } ∷ []) k ≡ n
unfolding region_from
first_region n m [] = refl
first_region n m (x ∷ k) = refl

pub rows_in_region : (g : Group) → IsRightGroup g → (cells : List CellData) → AreInRegion g.table g.rows.number cells
rows_in_region g r [] = tt
rows_in_region g r (c ∷ cells) = (subst (λ (l : List TableRegion). region_from 0 l c.key ≡ g.rows.number) (sym r.region) (first_region g.rows.number 0 c.key), rows_in_region g r cells)
