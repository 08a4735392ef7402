use Rattle.std.proofs.Common.{◌≡◌, ◌∙◌, List, ap, sym, arith, length, length-set, set, get_or, replicate}
use Rattle.px_tables.specs.declared.table.KeyPlace.{KeyPlace}
use Rattle.px_values.specs.declared.order.Direction.TheVariants.{Ascending}
use Rattle.px_values.specs.declared.row.Value.{Value}
use Rattle.px_values.specs.declared.row.Value.TheVariants.{Null}
use Rattle.px_rows.proofs.Overlays.{fresh_more}
use Rattle.px_rows.proofs.reading.fresh.Goals as goal

pub loop-index-preserved : goal.loop-index-preserved
loop-index-preserved c =
    let key = c.as_slice-key.result.now in
    let i = c.loop-index.index in
    let d : KeyPlace = record { column = 0; direction = Ascending } in
    let n : length key ≡ length c.args.table.now.key = ap length c.as_slice-key.ensures in
    let t = c.loop-index-test.true in
    let m = c.requires.count in
    let v = c.in_ok-value.value in
    let is : v ≡ get_or c.args.row.now i v = c.in_ok-value.ensures ∙ (c.index-row-index.is ∙ ap (get_or c.args.row.now i) (sym c.in_ok-value.ensures)) in
    record {
      row = ap (λ (xs : List Value). set xs (get_or key i d).column v) c.loop-index.invariant.row ∙ fresh_more key c.args.row.now (replicate (length c.args.table.now.columns) Null) i d v (omega arith) (omega arith) is;
      length = length-set c.loop-index.values.items (get_or key i d).column v ∙ c.loop-index.invariant.length;
    }
