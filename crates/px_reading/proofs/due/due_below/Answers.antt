use Rattle.std.proofs.Common.{◌≡◌, ◌≤◌, ℕ, List, map, ap, ◌∙◌, length}
use Rattle.std.specs.Option.{option_copied}
use Rattle.px_cells.specs.Contents.{value_at}
use Rattle.px_indexrow.specs.Form.{index_form, key_of_state}
use Rattle.px_indexrow.proofs.KeysHeld.{row_count}
use Rattle.px_rows.specs.Spelled.{row_form}
use Rattle.px_shown.specs.Told.{is_key_in}
use Rattle.px_values.specs.Limits.{most_key}
use Rattle.px_values.specs.declared.row.Value.{Value}
use Rattle.px_reading.specs.Doubts.{state_bytes}
use Rattle.px_reading.proofs.Dues.{from_some, if_some}
use Rattle.px_reading.proofs.Verdicts.{below_by}
use Rattle.px_reading.proofs.due.due_below.Goals as goal

pub row_at-requires-clause-count : goal.row_at-requires-clause-count
row_at-requires-clause-count c = ap length c.deref.ensures.value ∙ row_count c.args.table.now c.args.doubted.now.row.items c.requires.row.fits

pub returns-in-Some-clause-due : goal.returns-in-Some-clause-due
returns-in-Some-clause-due c = if_some _ c.args.seen.now c.in-Some.version c.in-Some.is (λ sh w b.
    (let t = c.args.table.now in
    let x = c.args.index.now in
    let r = c.args.doubted.now.row.items in
    let cells = c.args.doubted.now.cells.items in
    let state = c.in_ok-state.state in
    let state_is : state ≡ (row_form t).spelled (value_at cells) r c.args.horizon = c.in_ok-state.ensures ∙ (λ i. (row_form t).spelled (value_at (c.deref-2.ensures.value i)) (c.deref.ensures.value i) c.args.horizon) in
    let own_is : (z : List ℕ) → length z ≤ most_key → is_key_in z (option_copied c.bytes_if.result) ≡ is_key_in z (key_of_state t x r state) = (λ z l. ap (is_key_in z) c.bytes_if.ensures ∙ c.in_ok-own.ensures z l ∙ ap (λ (q : List Value). is_key_in z (key_of_state t x q state)) c.deref-3.ensures.value) in
    let values_is : c.deref-in-Some.result.now ≡ map (λ c. state_bytes t state c) x.included = c.deref-in-Some.ensures.value ∙ c.in_ok-values.ensures ∙ ap (map (λ c. state_bytes t state c)) c.as_slice.ensures in
    let count : length c.in-Some.version.values ≡ length x.included = from_some _ c.args.seen.now c.in-Some.version c.in-Some.is c.requires.seen in
    c.judged.ensures.due sh (index_form t x) r w
    (below_by t x r cells c.args.key.now c.args.stamp c.args.horizon c.args.floor c.requires.short state state_is (option_copied c.bytes_if.result) own_is c.deref-in-Some.result.now values_is c.as_slice-in-Some.result.now c.in-Some.version.values c.as_slice-in-Some.ensures count w b)))
