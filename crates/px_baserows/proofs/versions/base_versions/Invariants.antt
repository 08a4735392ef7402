use Rattle.std.proofs.Common.{◌≡◌, take}
use Rattle.px_indexrow.specs.Form.{index_form}
use Rattle.px_baserows.specs.Rows.{base_parts}
use Rattle.px_baserows.proofs.versions.base_versions.Given as goal

abbrev pub invariant-loop-base : goal.invariant-loop-base
invariant-loop-base l = l.kept ≡ base_parts (index_form l.table l.index) l.stamp (take l.base-index l.rows)
