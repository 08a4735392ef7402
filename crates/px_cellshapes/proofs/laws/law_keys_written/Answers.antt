use Rattle.px_cellshapes.proofs.WrittenKeys.{base_right, closes_right, fix_right, marks_right}
use Rattle.px_cellshapes.proofs.laws.law_keys_written.Goals as goal

pub returns : goal.returns
returns c = record { marks = marks_right; closes = closes_right; base = base_right; fix = fix_right }
