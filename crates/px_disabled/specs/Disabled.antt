-- An index that is disabled, and one that is built again.
use Rattle.std.specs.Prelude.{ℕ}
use Rattle.px_tables.specs.declared.index.Index.{Index}
use Rattle.px_tables.specs.declared.index.IndexState.TheVariants.{Building, Disabled}

-- the index, as one that no query reads and no batch maintains
abbrev pub disabled : Index → Index
disabled x = record x { state = Disabled }

-- the index with a new birth and a new region
abbrev pub rebuilt : (birth region : ℕ) → Index → Index
rebuilt birth region x = record x { state = Building; birth = birth; region = region }
