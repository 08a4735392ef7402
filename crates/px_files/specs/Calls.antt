-- How often the disk is called.
use Rattle.std.specs.Prelude.{ℕ, ◌+◌, List, [], ◌∷◌, length}
use Rattle.px_file.specs.declared.region_file.RegionFile.{RegionFile}

-- how many calls open these files at most: each is brought to the disk, and read by three more calls than it has blocks
abbrev pub opening_calls : List RegionFile → ℕ
opening_calls [] = 0
opening_calls (f ∷ files) = 4 + length f.index.entries.items + opening_calls files
