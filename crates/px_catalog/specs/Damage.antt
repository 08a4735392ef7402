-- A folder whose catalogue isn't of the format.
use Rattle.std.specs.Prelude.{◌≡◌, ◌≤◌, ◌<◌, ℕ, [], length}
use Rattle.px_outside.specs.Disk.{Image}
use Rattle.px_gatelog.specs.Damage.{IsFirstWrong}
use Rattle.px_gatelog.specs.Records.{RecordsStand}
use Rattle.px_catalog.specs.inner.Lengths.{most_of_empty}
use Rattle.px_catalog.specs.Reading.{catalogue_form}

-- The place is the first that isn't of the format; or no segment is open, and it is the first byte of the first file that is
-- too long for an empty folder.
pub data IsFirstDamagedInCatalogue (image : Image) (file place : ℕ) : Type 0 where
  in_log : IsFirstWrong catalogue_form 0 1 (image 0) (image 1) file place → IsFirstDamagedInCatalogue image file place
  long_first : RecordsStand catalogue_form 0 1 image [] → most_of_empty < length (image 0) → file ≡ 0 → place ≡ 0 → IsFirstDamagedInCatalogue image file place
  long_second : RecordsStand catalogue_form 0 1 image [] → length (image 0) ≤ most_of_empty → most_of_empty < length (image 1) → file ≡ 1 → place ≡ 0 → IsFirstDamagedInCatalogue image file place
