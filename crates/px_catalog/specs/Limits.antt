-- Definitions within the limits of the program.
use Rattle.std.specs.Prelude.{◌≤◌, length}
use Rattle.std.specs.List.{AllByRecursion}
use Rattle.px_tables.specs.declared.index.Index.{Index}
use Rattle.px_tables.specs.declared.table.Table.{Table}
use Rattle.px_schema.specs.declared.item.CatalogItem.{CatalogItem}
use Rattle.px_schema.specs.declared.item.CatalogItem.TheVariants.{IndexGone, IndexIs, TableGone, TableIs}

-- names of at most 128 bytes, 64 columns, 16 regions, and least keys of at most 1,024 bytes
pub record IsWithinLimitsTable (t : Table) : Type 0 where
  pub name : length t.name ≤ 128
  pub columns : length t.columns ≤ 64
  pub names : AllByRecursion (λ c. length c.name ≤ 128) t.columns
  pub key : length t.key ≤ 64
  pub regions : length t.regions ≤ 16
  pub keys : AllByRecursion (λ r. length r.least_key ≤ 1024) t.regions

pub record IsWithinLimitsIndex (i : Index) : Type 0 where
  pub name : length i.name ≤ 128
  pub parts : length i.parts ≤ 64
  pub included : length i.included ≤ 64

abbrev pub IsWithinLimits : CatalogItem → Type 0
IsWithinLimits (TableIs t) = IsWithinLimitsTable t
IsWithinLimits (IndexIs i) = IsWithinLimitsIndex i
IsWithinLimits (TableGone n) = Unit {0}
IsWithinLimits (IndexGone n) = Unit {0}
