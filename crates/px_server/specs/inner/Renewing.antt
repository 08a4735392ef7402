-- The catalogue's renewal.
use Rattle.std.specs.Prelude.{◌≡◌, ◌<◌, ◌⊎◌, length}
use Rattle.px_outside.specs.OnDisk.{LeavesOnly, Passes, TouchesOnly}
use Rattle.px_outside.specs.declared.disk.Disk.{Ghosts}
use Rattle.px_schema.specs.Spelled.{standing_bytes}
use Rattle.px_catalog.specs.Catalogue.{CatalogueStands, HasCatalogue, catalogue_files, generation_of, standing_of}
use Rattle.px_catalog.specs.declared.catalog.Catalog.{Catalog}

-- calls on the catalogue's files, whatever becomes of them: at each moment a stop leaves what stands
pub record Renews {D : Type 0} (d : Ghosts D) (old new : Catalog) (disk disk' : D) : Type 0 where
  pub same : standing_of new ≡ standing_of old
  pub leaves : HasCatalogue d old disk → LeavesOnly d disk disk' (λ moment image. CatalogueStands image (standing_of old))
  pub touches : HasCatalogue d old disk → TouchesOnly d disk disk' catalogue_files
  pub counts : Passes d disk disk' 3

-- and the catalogue goes on
abbrev pub HasRenewed : {D : Type 0} → Ghosts D → Catalog → Catalog → D → D → Type 0
HasRenewed d old new disk disk' = HasCatalogue d old disk → HasCatalogue d new disk'

-- No renewal gives it room: no generation is left, or a segment with nothing but what stands has fewer than 32,768 bytes left.
abbrev pub IsFilled : Catalog → Type 0
IsFilled c = (generation_of c ≡ 18446744073709551615) ⊎ (67076074 < length (standing_bytes (standing_of c)))
