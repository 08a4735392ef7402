use Rattle.std.proofs.Common.{ℕ, List, [], length, sym, ap, ◌∙◌}
use Rattle.std.specs.Prelude.{min}
use Rattle.px_cells.specs.CellData.{CellData}
use Rattle.px_sources.specs.Giving.{rows_before}
use Rattle.px_sources.proofs.Given.{row_none}
use Rattle.px_reads.proofs.copies.Copies.new.Goals as goal

pub invariant_of-result : goal.invariant_of-result
invariant_of-result c = record {
  counted = sym (ap (λ (l : List CellData). min (rows_before l (length l)) 18446744073709551615) c.new.ensures.items ∙ ap (λ (n : ℕ). min n 18446744073709551615) (row_none []));
}
