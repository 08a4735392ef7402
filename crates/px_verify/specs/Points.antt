-- The point of a report.
use Rattle.std.specs.Prelude.{ℕ, ◌≡◌, true, false, None, Some, List}
use Rattle.px_values.specs.declared.name.IndexId.{IndexId}
use Rattle.px_values.specs.declared.name.TableId.{TableId}
use Rattle.px_tables.specs.declared.index.Index.{Index}
use Rattle.px_trail.specs.declared.entry.Entry.{Entry}
use Rattle.px_trail.specs.Trail.{Base}
use Rattle.px_calls.specs.declared.query.By.TheVariants as bys
use Rattle.px_calls.specs.declared.query.Point.{Point}
use Rattle.px_calls.specs.Known.{Known}
use Rattle.px_calls.specs.Requires.{index_of_found}
use Rattle.px_gather.specs.Answers.{IsPointOfQuery}
use Rattle.px_gather.specs.Query.{Query}
use Rattle.px_scan.specs.Turns.{IsReadingAt}

-- the greatest SCN: under it a point stands at its table's last stamp
abbrev pub greatest_scn : ℕ
greatest_scn = 9223372036854775808

-- what asks for each row of the point's table
abbrev pub every_row : Point → Query
every_row p = record { table = p.table.0; bound = p.found.table; meets = λ row. true; named = λ row. row; limit = None; joins = λ found stamp. false; takes = λ found stamp. Some bys.Table }

-- the point was opened at its table's last stamp, where each batch is written
abbrev pub IsReportPoint : Base → List Entry → Point → Type 0
IsReportPoint b es p = IsPointOfQuery b es (every_row p) (Some greatest_scn) p

-- and the seat has it open
abbrev pub IsOpenPoint : Known → Point → Type 0
IsOpenPoint k p = IsReadingAt k (every_row p) (Some greatest_scn) p

-- the point is of the table, and has this definition of the index
pub record HasIndex (t : TableId) (i : IndexId) (p : Point) (x : Index) : Type 0 where
  pub table : p.table ≡ t
  pub index : index_of_found p.found i.0 ≡ Some x
