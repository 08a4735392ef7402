use Rattle.std.proofs.Common.{◌≡◌, ◌∙◌, ◌+◌, ap, sym, arith, length, length-set, Vec, Some}
use Rattle.std.specs.declared.alloc.Global.{Global}
use Rattle.px_cells.specs.Contents.{value_at}
use Rattle.px_values.specs.declared.row.Value.{Value}
use Rattle.px_rows.specs.Keys.{column_in, row_key}
use Rattle.px_rows.specs.Spelled.{column_at, row_spelling}
use Rattle.px_rows.specs.Stored.{value_of_bytes}
use Rattle.px_rows.proofs.Overlays.{seen_first, seen_more, seen_same, seen_all, column_is, column_none, column_some}
use Rattle.px_rows.proofs.reading.seen_over.Goals.{in-Some+in_ok-value+in-Text-1, in-Some+in_ok-value+in-Null-1, in_default}
use Rattle.px_rows.proofs.reading.seen_over.Goals as goal

pub loop-place-init : goal.loop-place-init
loop-place-init c = record {
  length = c.requires.same ∙ ap length (sym c.as_slice-columns.ensures);
  seen = λ r own plain family. seen_first (column_at (row_spelling c.args.table.now) (value_at c.args.cells.now) r c.args.point) c.args.values.items;
}

pub loop-place-preserved : goal.loop-place-preserved
loop-place-preserved c =
    let n = c.loop-place.place in
    let i = c.loop-place.invariant in
    elim c.match-seen_in.branch [
      | in-Some+in_ok-value+in-Text-1 w ↦ record {
        length = ap (λ (v : Vec Value Global). length v.items) w.values-is ∙ (length-set c.loop-place.values.items n w.in_ok-value.value ∙ i.length);
        seen = λ r own plain family.
            (let o = column_at (row_spelling c.args.table.now) (value_at c.args.cells.now) r c.args.point in
            let is : w.in_ok-value.value ≡ value_of_bytes (column_in c.args.table.now.columns n).column_type w.in-Some.cell.now.value =
            column_is c.args.table.now c.as_slice-columns.result.now n w.index-columns-place.result w.in_ok-value.value w.value.result.now w.in-Some.cell.now.value c.as_slice-columns.ensures c.loop-place-test.true w.in_ok-value.ensures w.value.ensures in
            let sees : o n ≡ Some w.in_ok-value.value = column_some (row_spelling c.args.table.now) (value_at c.args.cells.now) r c.args.point n (2 + n) w.in-Some.cell.now (omega arith) (w.in-Some.ensures (row_key c.args.table.now r) own plain family) ∙ ap Some (sym is) in
            seen_more o n w.in_ok-value.value c.args.values.items c.loop-place.values.items c.match-seen_in.values.items sees (i.seen r own plain family) (ap (λ (v : Vec Value Global). v.items) w.values-is));
      }
      | in-Some+in_ok-value+in-Null-1 w ↦ record {
        length = ap (λ (v : Vec Value Global). length v.items) w.values-is ∙ (length-set c.loop-place.values.items n w.in_ok-value.value ∙ i.length);
        seen = λ r own plain family.
            (let o = column_at (row_spelling c.args.table.now) (value_at c.args.cells.now) r c.args.point in
            let is : w.in_ok-value.value ≡ value_of_bytes (column_in c.args.table.now.columns n).column_type w.in-Some.cell.now.value =
            column_is c.args.table.now c.as_slice-columns.result.now n w.index-columns-place.result w.in_ok-value.value w.value.result.now w.in-Some.cell.now.value c.as_slice-columns.ensures c.loop-place-test.true w.in_ok-value.ensures w.value.ensures in
            let sees : o n ≡ Some w.in_ok-value.value = column_some (row_spelling c.args.table.now) (value_at c.args.cells.now) r c.args.point n (2 + n) w.in-Some.cell.now (omega arith) (w.in-Some.ensures (row_key c.args.table.now r) own plain family) ∙ ap Some (sym is) in
            seen_more o n w.in_ok-value.value c.args.values.items c.loop-place.values.items c.match-seen_in.values.items sees (i.seen r own plain family) (ap (λ (v : Vec Value Global). v.items) w.values-is));
      }
      | in_default w ↦ record {
        length = ap (λ (v : Vec Value Global). length v.items) w.values-is ∙ i.length;
        seen = λ r own plain family.
            seen_same (column_at (row_spelling c.args.table.now) (value_at c.args.cells.now) r c.args.point) n c.args.values.items c.loop-place.values.items c.match-seen_in.values.items
            (column_none (row_spelling c.args.table.now) (value_at c.args.cells.now) r c.args.point n (2 + n) (omega arith) (w.in_default.ensures (row_key c.args.table.now r) own plain family))
            (i.seen r own plain family) (ap (λ (v : Vec Value Global). v.items) w.values-is);
      }
    ]

pub returns : goal.returns
returns c = λ r own plain family.
    (let o = column_at (row_spelling c.args.table.now) (value_at c.args.cells.now) r c.args.point in
    let t = c.loop-place-test.false in
    let n : length c.as_slice-columns.result.now ≡ length c.args.table.now.columns = ap length c.as_slice-columns.ensures in
    let s = c.requires.same in
    c.loop-place.invariant.seen r own plain family ∙ seen_all o c.loop-place.place c.args.values.items (omega arith))
