-- A folder that isn't of the format.
use Rattle.std.specs.Prelude.{◌≡◌, ◌++◌, ◌∷◌, ℕ, List, IsPermutation, IsSorted}
use Rattle.std.specs.Ordering.{nat_cmp}
use Rattle.std.specs.List.{All}
use Rattle.px_outside.specs.Disk.{Image}
use Rattle.px_region.specs.Opened as region
use Rattle.px_region.specs.Region.{RegionData, RegionStands}
use Rattle.px_schema.specs.declared.standing.Standing.{Standing}
use Rattle.px_catalog.specs.Catalogue.{CatalogueStands}
use Rattle.px_catalog.specs.Damage as catalogue
use Rattle.px_recovery.specs.Folder.{region_numbers}
use Rattle.px_folder.specs.Drawn.{AreDrawn}

-- the region's files stand for something
abbrev pub IsWhole : Image → ℕ → Type 0
IsWhole image n = (s : RegionData) × RegionStands n image s

-- Of regions with these numbers, this is the first place of the first one that isn't of the format.
pub record IsDamagedIn (numbers : List ℕ) (image : Image) (file place : ℕ) : Type 0 where
  pub before : List ℕ
  pub number : ℕ
  pub after : List ℕ
  pub is : numbers ≡ before ++ number ∷ after
  pub whole : All (IsWhole image) before
  pub damaged : region.IsFirstDamagedInRegion number image file place

-- Where these definitions stand: their numbers weren't drawn, or a region is named twice, which is place 0 of file 0; or, where they
-- are right, the first place of the regions in the order of their numbers.
pub data IsDamagedBelow (s : Standing) (image : Image) (file place : ℕ) : Type 0 where
  in_numbers : (AreDrawn s → ⊥) → file ≡ 0 → place ≡ 0 → IsDamagedBelow s image file place
  in_region : AreDrawn s → (numbers : List ℕ) → IsPermutation (region_numbers s) numbers → IsSorted nat_cmp numbers → IsDamagedIn numbers image file place → IsDamagedBelow s image file place

-- The place is the first of the catalogue's files that isn't of the format, or, where these are, the first below it.
pub data IsFirstDamaged (image : Image) (file place : ℕ) : Type 0 where
  in_catalogue : catalogue.IsFirstDamagedInCatalogue image file place → IsFirstDamaged image file place
  below : (s : Standing) → CatalogueStands image s → IsDamagedBelow s image file place → IsFirstDamaged image file place
