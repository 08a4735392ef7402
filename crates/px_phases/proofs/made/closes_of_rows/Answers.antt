use Rattle.std.proofs.Common.{◌≡◌, ◌<◌, ◌∙◌, ◌++◌, ◌∷◌, [], List, length, take, sym, subst, ap, arith, rules, refl, Err, ◌⊎◌}
use Rattle.std.specs.List.{AllByRecursion}
use Rattle.std.proofs.lemmas.List.{take_all}
use Rattle.px_cells.specs.CellData.{CellData}
use Rattle.px_cells.specs.Order.{IsApart}
use Rattle.px_indexrow.specs.Form.{IsLongInIndex, index_form}
use Rattle.px_indexrow.proofs.KeysHeld.{form_laws, form_placed}
use Rattle.px_indexrow.specs.Lists.{closes_of}
use Rattle.px_keptcells.specs.Kept.{HaveOtherKeys, IsFitting, laid}
use Rattle.px_keys.specs.Spelling.{Fits}
use Rattle.px_rows.specs.Keys.{row_columns}
use Rattle.px_rows.specs.declared.fault.RowFault.{RowFault}
use Rattle.px_values.specs.declared.change.Change.{Change}
use Rattle.px_values.specs.declared.row.Value.{Value}
use Rattle.px_phases.specs.Phases.{close_parts}
use Rattle.px_phases.proofs.FirstRows.{Owns, long_at, closes_elsewhere, closes_good, closes_next, new_fits, same_count, transition_at}
use Rattle.px_phases.proofs.made.closes_of_rows.Goals as goal

pub bounds-transitions-place : goal.bounds-transitions-place
bounds-transitions-place c = (let n = same_count c.args.table.now c.args.changes.now c.args.transitions.now c.requires.transitions in let l = c.loop-place-test.true in omega arith)

pub closes-requires-clause-fits : goal.closes-requires-clause-fits
closes-requires-clause-fits c =
    let w = transition_at c.args.table.now c.args.changes.now c.args.transitions.now c.requires.transitions c.loop-place.place c.index-changes-place.result c.index-transitions-place.result c.loop-place-test.true c.index-changes-place.is c.index-transitions-place.is in
    subst (λ (r : List Value). Fits (row_columns c.args.table.now) r) (ap (λ (x : Change). x.row) c.index-changes-place.is ∙ sym c.as_slice-row.ensures) w.fits.0

pub closes-requires-clause-old : goal.closes-requires-clause-old
closes-requires-clause-old c = (transition_at c.args.table.now c.args.changes.now c.args.transitions.now c.requires.transitions c.loop-place.place c.index-changes-place.result c.index-transitions-place.result c.loop-place-test.true c.index-changes-place.is c.index-transitions-place.is).old

pub closes-requires-clause-new : goal.closes-requires-clause-new
closes-requires-clause-new c = new_fits c.args.table.now c.index-changes-place.result c.index-transitions-place.result c.requires.table (transition_at c.args.table.now c.args.changes.now c.args.transitions.now c.requires.transitions c.loop-place.place c.index-changes-place.result c.index-transitions-place.result c.loop-place-test.true c.index-changes-place.is c.index-transitions-place.is)

pub returns-in_err-cells-clause-too_long : goal.returns-in_err-cells-clause-too_long
returns-in_err-cells-clause-too_long c e =
    let t = c.args.table.now in
    let x = c.index-transitions-place.result in
    let row : c.as_slice-row.result.now ≡ c.index-changes-place.result.row = c.as_slice-row.ensures ∙ ap (λ (y : Change). y.row) (sym c.index-changes-place.is) in
    let m : c.closes.result ≡ Err RowFault.KeyTooLong = search rules in
    let below : c.loop-place.place < length c.args.transitions.now = (let n = same_count c.args.table.now c.args.changes.now c.args.transitions.now c.requires.transitions in let l = c.loop-place-test.true in omega arith) in
    long_at t c.args.index.now c.args.changes.now c.args.transitions.now c.loop-place.place c.index-changes-place.result x c.loop-place-test.true below c.index-changes-place.is c.index-transitions-place.is
    (subst (λ (r : List Value). IsLongInIndex t c.args.index.now r x.new ⊎ IsLongInIndex t c.args.index.now r x.old) row (c.closes.ensures.too_long m))

pub add-requires-clause-fitting : goal.add-requires-clause-fitting
add-requires-clause-fitting c =
    let t = c.args.table.now in
    let x = c.index-transitions-place.result in
    let row : c.as_slice-row.result.now ≡ c.index-changes-place.result.row = c.as_slice-row.ensures ∙ ap (λ (y : Change). y.row) (sym c.index-changes-place.is) in
    let short = subst (λ (r : List Value). (IsLongInIndex t c.args.index.now r x.new → ⊥) × (IsLongInIndex t c.args.index.now r x.old → ⊥)) row (c.in_ok-cells.ensures.short refl) in
    let good = closes_good t c.args.index.now c.args.stamp c.requires.table c.requires.index (form_laws t c.args.index.now) (form_placed t c.args.index.now c.requires.index) c.ranges.stamp.fits c.index-changes-place.result x (transition_at c.args.table.now c.args.changes.now c.args.transitions.now c.requires.transitions c.loop-place.place c.index-changes-place.result c.index-transitions-place.result c.loop-place-test.true c.index-changes-place.is c.index-transitions-place.is) short.0 short.1 in
    let is : c.in_ok-cells.cells ≡ closes_of (index_form t c.args.index.now) c.index-changes-place.result.row c.args.stamp x.old x.new = c.in_ok-cells.ensures.cells ∙ ap (λ (r : List Value). closes_of (index_form t c.args.index.now) r c.args.stamp x.old x.new) row in
    subst (AllByRecursion IsFitting) (sym is) good.fits

pub add-requires-clause-apart : goal.add-requires-clause-apart
add-requires-clause-apart c =
    let t = c.args.table.now in
    let x = c.index-transitions-place.result in
    let row : c.as_slice-row.result.now ≡ c.index-changes-place.result.row = c.as_slice-row.ensures ∙ ap (λ (y : Change). y.row) (sym c.index-changes-place.is) in
    let short = subst (λ (r : List Value). (IsLongInIndex t c.args.index.now r x.new → ⊥) × (IsLongInIndex t c.args.index.now r x.old → ⊥)) row (c.in_ok-cells.ensures.short refl) in
    let good = closes_good t c.args.index.now c.args.stamp c.requires.table c.requires.index (form_laws t c.args.index.now) (form_placed t c.args.index.now c.requires.index) c.ranges.stamp.fits c.index-changes-place.result x (transition_at c.args.table.now c.args.changes.now c.args.transitions.now c.requires.transitions c.loop-place.place c.index-changes-place.result c.index-transitions-place.result c.loop-place-test.true c.index-changes-place.is c.index-transitions-place.is) short.0 short.1 in
    let is : c.in_ok-cells.cells ≡ closes_of (index_form t c.args.index.now) c.index-changes-place.result.row c.args.stamp x.old x.new = c.in_ok-cells.ensures.cells ∙ ap (λ (r : List Value). closes_of (index_form t c.args.index.now) r c.args.stamp x.old x.new) row in
    subst IsApart (sym is) good.apart

pub add-requires-clause-other_keys : goal.add-requires-clause-other_keys
add-requires-clause-other_keys c =
    let t = c.args.table.now in
    let x = c.index-transitions-place.result in
    let row : c.as_slice-row.result.now ≡ c.index-changes-place.result.row = c.as_slice-row.ensures ∙ ap (λ (y : Change). y.row) (sym c.index-changes-place.is) in
    let short = subst (λ (r : List Value). (IsLongInIndex t c.args.index.now r x.new → ⊥) × (IsLongInIndex t c.args.index.now r x.old → ⊥)) row (c.in_ok-cells.ensures.short refl) in
    let good = closes_good t c.args.index.now c.args.stamp c.requires.table c.requires.index (form_laws t c.args.index.now) (form_placed t c.args.index.now c.requires.index) c.ranges.stamp.fits c.index-changes-place.result x (transition_at c.args.table.now c.args.changes.now c.args.transitions.now c.requires.transitions c.loop-place.place c.index-changes-place.result c.index-transitions-place.result c.loop-place-test.true c.index-changes-place.is c.index-transitions-place.is) short.0 short.1 in
    let is : c.in_ok-cells.cells ≡ closes_of (index_form t c.args.index.now) c.index-changes-place.result.row c.args.stamp x.old x.new = c.in_ok-cells.ensures.cells ∙ ap (λ (r : List Value). closes_of (index_form t c.args.index.now) r c.args.stamp x.old x.new) row in
    subst (λ (p : List (List CellData)). HaveOtherKeys (laid p) c.in_ok-cells.cells) (sym c.loop-place.invariant.kept)
    (closes_elsewhere (index_form t c.args.index.now) c.args.stamp (form_laws t c.args.index.now) (form_placed t c.args.index.now c.requires.index) t c.args.changes.now c.args.transitions.now c.requires.distinct c.requires.transitions c.loop-place.place c.index-changes-place.result c.loop-place-test.true c.index-changes-place.is c.in_ok-cells.cells (subst (AllByRecursion (λ (z : CellData). Owns (index_form t c.args.index.now) c.index-changes-place.result.row z.key)) (sym is) good.own))

pub loop-place-preserved : goal.loop-place-preserved
loop-place-preserved c =
    let t = c.args.table.now in
    let x = c.index-transitions-place.result in
    let row : c.as_slice-row.result.now ≡ c.index-changes-place.result.row = c.as_slice-row.ensures ∙ ap (λ (y : Change). y.row) (sym c.index-changes-place.is) in
    let short = subst (λ (r : List Value). (IsLongInIndex t c.args.index.now r x.new → ⊥) × (IsLongInIndex t c.args.index.now r x.old → ⊥)) row (c.in_ok-cells.ensures.short refl) in
    let good = closes_good t c.args.index.now c.args.stamp c.requires.table c.requires.index (form_laws t c.args.index.now) (form_placed t c.args.index.now c.requires.index) c.ranges.stamp.fits c.index-changes-place.result x (transition_at c.args.table.now c.args.changes.now c.args.transitions.now c.requires.transitions c.loop-place.place c.index-changes-place.result c.index-transitions-place.result c.loop-place-test.true c.index-changes-place.is c.index-transitions-place.is) short.0 short.1 in
    let is : c.in_ok-cells.cells ≡ closes_of (index_form t c.args.index.now) c.index-changes-place.result.row c.args.stamp x.old x.new = c.in_ok-cells.ensures.cells ∙ ap (λ (r : List Value). closes_of (index_form t c.args.index.now) r c.args.stamp x.old x.new) row in
    let below : c.loop-place.place < length c.args.transitions.now = (let n = same_count c.args.table.now c.args.changes.now c.args.transitions.now c.requires.transitions in let l = c.loop-place-test.true in omega arith) in
    record {
      kept = c.in_ok-add.ensures.ok ∙ ((λ i. c.loop-place.invariant.kept i ++ is i ∷ []) ∙ sym (closes_next (index_form t c.args.index.now) c.args.stamp c.args.changes.now c.args.transitions.now c.loop-place.place c.index-changes-place.result x c.loop-place-test.true below c.index-changes-place.is c.index-transitions-place.is));
    }

pub returns-clause-kept : goal.returns-clause-kept
returns-clause-kept c =
    let f = c.loop-place-test.false in
    let all : take c.loop-place.place c.args.changes.now ≡ c.args.changes.now = take_all c.loop-place.place c.args.changes.now f in
    let both : take c.loop-place.place c.args.transitions.now ≡ c.args.transitions.now = take_all c.loop-place.place c.args.transitions.now (let n = same_count c.args.table.now c.args.changes.now c.args.transitions.now c.requires.transitions in omega arith) in
    c.loop-place.invariant.kept ∙ (λ i. close_parts (index_form c.args.table.now c.args.index.now) c.args.stamp (all i) (both i))
