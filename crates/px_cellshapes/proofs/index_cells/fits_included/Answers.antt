use Rattle.std.proofs.Common.{◌≡◌, ◌∙◌, ◌<◌, get_or, length, true, sym, ap, subst, List, ℕ}
use Rattle.std.specs.Prelude.{nat_eq}
use Rattle.std.specs.List.{list_any}
use Rattle.std.proofs.lemmas.List.{get_or_read}
use Rattle.px_rows.specs.Keys.{column_in, no_column}
use Rattle.px_tables.specs.declared.table.TableColumn.{TableColumn}
use Rattle.px_cellshapes.specs.Values.{IsStored}
use Rattle.px_cellshapes.proofs.Tests.{Shows, included_within, stored_included}
use Rattle.px_cellshapes.proofs.index_cells.fits_included.Goals as goal

pub bounds-columns-column : goal.bounds-columns-column
bounds-columns-column c =
    let among : list_any (λ x. nat_eq x c.args.column) c.args.index.now.included ≡ true = ap (λ (xs : List ℕ). list_any (λ x. nat_eq x c.args.column) xs) (sym c.as_slice.ensures) ∙ (sym c.is_among.ensures ∙ c.if-not-is_among.false) in
    subst (λ (xs : List TableColumn). c.args.column < length xs) (sym c.as_slice-columns.ensures) (included_within c.args.table.now c.args.index.now c.args.column c.requires among)

pub bounds-columns-column-in-Put : goal.bounds-columns-column-in-Put
bounds-columns-column-in-Put c =
    let among : list_any (λ x. nat_eq x c.args.column) c.args.index.now.included ≡ true = ap (λ (xs : List ℕ). list_any (λ x. nat_eq x c.args.column) xs) (sym c.as_slice.ensures) ∙ (sym c.is_among.ensures ∙ c.if-not-is_among.false) in
    subst (λ (xs : List TableColumn). c.args.column < length xs) (sym c.as_slice-columns.ensures) (included_within c.args.table.now c.args.index.now c.args.column c.requires among)

pub returns-in-Put : goal.returns-in-Put
returns-in-Put c =
    let among : list_any (λ x. nat_eq x c.args.column) c.args.index.now.included ≡ true = ap (λ (xs : List ℕ). list_any (λ x. nat_eq x c.args.column) xs) (sym c.as_slice.ensures) ∙ (sym c.is_among.ensures ∙ c.if-not-is_among.false) in
    let within : c.args.column < length c.as_slice-columns.result.now = subst (λ (xs : List TableColumn). c.args.column < length xs) (sym c.as_slice-columns.ensures) (included_within c.args.table.now c.args.index.now c.args.column c.requires among) in
    let read = get_or_read c.as_slice-columns.result.now c.args.column c.index-columns-column.result within c.index-columns-column.is no_column in
    stored_included c.args.table.now c.args.index.now c.args.column c.args.cell.now.kind c.args.cell.now.value (get_or c.as_slice-columns.result.now c.args.column c.index-columns-column.result).column_type c.is_stored.result among (sym c.kind.ensures ∙ c.in-Put.is)
    (ap (λ (x : TableColumn). x.column_type) (sym c.index-columns-column.is ∙ read) ∙ ap (λ (xs : List TableColumn). (column_in xs c.args.column).column_type) c.as_slice-columns.ensures)
    (subst (λ (v : List ℕ). Shows c.is_stored.result (IsStored (get_or c.as_slice-columns.result.now c.args.column c.index-columns-column.result).column_type v)) c.value.ensures c.is_stored.ensures)
