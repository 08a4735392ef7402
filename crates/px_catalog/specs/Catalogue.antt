-- A catalogue that goes on, and what its files stand for.
use Rattle.std.specs.Prelude.{◌≡◌, ◌≤◌, ◌<◌, ◌⊎◌, ◌∷◌, [], ℕ, List, length}
use Rattle.px_outside.specs.Disk.{Image}
use Rattle.px_outside.specs.Lengths.{IsWithinLength}
use Rattle.px_outside.specs.declared.disk.Disk.{Ghosts}
use Rattle.px_gatelog.specs.Format.{LogRecord}
use Rattle.px_gatelog.specs.GateLog.{is_log_open, newest_generation, room_of_log, steps_left as log_steps}
use Rattle.px_gatelog.specs.Records.{HasLog, RecordsStand, has_files}
use Rattle.px_schema.specs.Format.{standing_piece}
use Rattle.px_schema.specs.declared.standing.Standing.{Standing}
use Rattle.px_catalog.specs.Reading.{catalogue_form, snapshot_record, value_of}
use Rattle.px_catalog.specs.inner.Lengths.{most_of_empty}
use Rattle.px_catalog.specs.declared.catalog.Catalog.{Catalog}

-- the catalogue's files
abbrev pub catalogue_files : ℕ → Type 0
catalogue_files file = has_files 0 1 file

-- what stands by a catalogue
abbrev pub standing_of : Catalog → Standing
standing_of c = c.standing

-- it has an open segment
abbrev pub is_catalogue_open : Catalog → Type 0
is_catalogue_open c = is_log_open c.log

-- how many bytes the newest segment has left, its closed gate among them
abbrev pub room_of_catalogue : Catalog → ℕ
room_of_catalogue c = room_of_log c.log

-- how many steps the making of the next segment has left
abbrev pub catalogue_steps_left : Catalog → ℕ
catalogue_steps_left c = log_steps c.log

-- No definition is added: fewer than 32,768 bytes are left, or the next segment is laid out, whose snapshot would lack it.
abbrev pub IsCatalogueFull : Catalog → Type 0
IsCatalogueFull c = (room_of_catalogue c < 32768) ⊎ (catalogue_steps_left c ≡ 1)

-- the generation of the newest segment, 0 where none is open
abbrev pub generation_of : Catalog → ℕ
generation_of c = newest_generation c.log

-- the newest segment is the same
abbrev pub HasSameSegment : Catalog → Catalog → Type 0
HasSameSegment old new = new.log.newest ≡ old.log.newest

-- files 0 and 1 of the image stand for this catalogue
pub record CatalogueStands (image : Image) (s : Standing) : Type 0 where
  pub records : List LogRecord
  pub stand : RecordsStand catalogue_form 0 1 image records
  pub value : value_of records ≡ s
  pub short : records ≡ [] → (length (image 0) ≤ most_of_empty) × (length (image 1) ≤ most_of_empty)

-- The disk tells that the catalogue's files stand for what it has, all of it on the disk, and it goes on from there. A
-- next segment that is laid out begins with the same.
pub record HasCatalogue {D : Type 0} (d : Ghosts D) (c : Catalog) (disk : D) : Type 0 where
  pub records : List LogRecord
  pub log : HasLog d catalogue_form 0 1 disk c.log records (snapshot_record (standing_of c) ∷ [])
  pub value : value_of records ≡ standing_of c
  pub right : standing_piece.right (standing_of c)
  pub short : records ≡ [] → IsWithinLength d disk 0 most_of_empty × IsWithinLength d disk 1 most_of_empty
