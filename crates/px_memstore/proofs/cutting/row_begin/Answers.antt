use Rattle.px_memstore.proofs.Puts.{rows_below_from, rows_up_to}
use Rattle.px_memstore.proofs.cutting.row_begin.Goals as goal

pub returns-then-before-gt0-clause-apart : goal.returns-then-before-gt0-clause-apart
returns-then-before-gt0-clause-apart c = rows_below_from _ _ _ c.place_of-before.ensures.below c.place_of-before.ensures.from

pub returns-clause-apart : goal.returns-clause-apart
returns-clause-apart c = rows_up_to _ _ _ c.place_after.ensures.up_to c.place_after.ensures.above
