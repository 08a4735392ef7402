-- How often the disk is called.
use Rattle.std.specs.Prelude.{ℕ, ◌+◌, List, [], ◌∷◌, length}
use Rattle.px_file.specs.declared.region_file.RegionFile.{RegionFile}

-- how many calls load these files at most: one for each block
abbrev pub loading_calls : List RegionFile → ℕ
loading_calls [] = 0
loading_calls (f ∷ files) = length f.index.entries.items + loading_calls files
