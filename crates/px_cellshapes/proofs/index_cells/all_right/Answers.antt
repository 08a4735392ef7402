use Rattle.std.proofs.Common.{◌-◌, false, refl, sym, subst, List, arith}
use Rattle.std.proofs.lemmas.Bool.{both_ways}
use Rattle.px_keys.specs.Reading.{IsKey}
use Rattle.px_keys.specs.declared.parts.KeyColumn.{KeyColumn}
use Rattle.px_values.specs.Limits.{most_key}
use Rattle.px_cells.specs.Scan.{cell_at}
use Rattle.px_cellshapes.specs.Keys.{IsRightIndexCell}
use Rattle.px_cellshapes.proofs.Each.{all_at, all_before}
use Rattle.px_cellshapes.proofs.index_cells.all_right.Goals as goal

pub has_key-requires-clause-before : goal.has_key-requires-clause-before
has_key-requires-clause-before c = λ p. (let i = c.loop-place-test.true in subst (λ (columns : List KeyColumn). IsKey most_key columns (cell_at c.args.cells.now (c.loop-place.place - 1)).key) (sym c.requires.columns) (all_before (IsRightIndexCell c.args.table.now c.args.index.now) c.args.cells.now c.loop-place.place p (omega arith) c.loop-place.invariant).key)

pub returns-then-not-branch : goal.returns-then-not-branch
returns-then-not-branch c = (
  λ e. absurd (both_ways false refl e),
  λ all.
      (let i = c.loop-place-test.true in
      let key = subst (λ (columns : List KeyColumn). IsKey most_key columns (cell_at c.args.cells.now c.loop-place.place).key) (sym c.requires.columns) (all_at (IsRightIndexCell c.args.table.now c.args.index.now) c.args.cells.now c.loop-place.place i all).key in
      absurd (both_ways c.in_ok-has_key.field-0 c.if-not-branch.true (c.in_ok-has_key.ensures.1 key))),
)
