use Rattle.std.proofs.Common.{◌≡◌, ◌<◌, ◌∙◌, sym, ap, subst, length}
use Rattle.std.specs.List.{AllByRecursion}
use Rattle.px_indexrow.proofs.KeysHeld.{row_count}
use Rattle.px_rows.specs.Spelled.{FitsWhat}
use Rattle.px_values.specs.declared.change.Assignment.{Assignment}
use Rattle.px_phases.proofs.Assigned.{columns_within, values_count}
use Rattle.px_phases.proofs.transition.changed.Goals as goal

pub values_of-requires-clause-count : goal.values_of-requires-clause-count
values_of-requires-clause-count c = row_count c.args.table.now c.args.row.now c.requires.fits.0

pub assigned-requires : goal.assigned-requires
assigned-requires c =
    let n : length c.in_ok-values-in-Set.values.items ≡ length c.args.table.now.columns = ap length c.in_ok-values-in-Set.ensures ∙ values_count c.args.table.now c.args.row.now c.args.old.now c.requires.old in
    let fits = subst (FitsWhat c.args.table.now) c.in-Set.is c.requires.fits.1 in
    subst (AllByRecursion (λ (a : Assignment). a.column < length c.in_ok-values-in-Set.values.items)) (sym c.as_slice.ensures) (columns_within c.args.table.now c.in-Set.assignments fits (length c.in_ok-values-in-Set.values.items) n)
