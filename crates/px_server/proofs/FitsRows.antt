-- Changes that fit their table as a step asks it fit it as its rows are spelled.
use Rattle.std.proofs.Common.{◌≡◌, ◌⊎◌, inl, inr, ℕ, zero, suc, List, [], ◌∷◌, refl, sym, subst}
use Rattle.std.specs.List.{AllByRecursion, slice_get}
use Rattle.px_values.specs.Types.{HasType}
use Rattle.px_values.specs.declared.change.Assignment.{Assignment}
use Rattle.px_values.specs.declared.change.Change.{Change}
use Rattle.px_values.specs.declared.change.What.{What}
use Rattle.px_values.specs.declared.change.What.TheVariants.{Gone, Set}
use Rattle.px_values.specs.declared.column.ColType.{ColType}
use Rattle.px_values.specs.declared.row.Value.{Value}
use Rattle.px_values.specs.declared.row.Value.TheVariants.{Null}
use Rattle.px_keys.specs.Spelling.{Fits}
use Rattle.px_keys.specs.declared.parts.KeyColumn.{KeyColumn}
use Rattle.px_tables.specs.declared.table.Table.{Table}
use Rattle.px_tables.specs.declared.table.TableColumn.{TableColumn}
use Rattle.px_paths.specs.Paths.{type_in}
use Rattle.px_calls.specs.Requires.{AssignsOnce, AssignsTo, IsChangeOf}
use Rattle.px_rows.specs.Keys.{column_in}
use Rattle.px_rows.specs.Spelled.{FitsColumnOf}
use Rattle.px_rows.specs.Spelled as rows
use Rattle.px_cellshapes.proofs.Paths.{table_columns}
use Rattle.px_phases.specs.Batch.{AllFit}

type_at : (columns : List TableColumn) (c : ℕ) → type_in (slice_get columns c) ≡ (column_in columns c).column_type
type_at [] c = refl
type_at (x ∷ columns) zero = refl
type_at (x ∷ columns) (suc c) = type_at columns c

null_or_typed : (ty : ColType) (v : Value) → (v ≡ Null) ⊎ HasType ty v → HasType ty v
null_or_typed ty v (inl null) = subst (HasType ty) (sym null) tt
null_or_typed ty v (inr typed) = typed

assigns : (t : Table) (as' : List Assignment) → AssignsTo t as' → AllByRecursion (FitsColumnOf t) as'
assigns t [] all = tt
assigns t (a ∷ as') all = (
  record {
    within = all.0.0;
    beside = all.0.1;
    has_type = subst (λ (ty : ColType). HasType ty a.value) (type_at t.columns a.column) (null_or_typed (type_in (slice_get t.columns a.column)) a.value all.0.2);
  },
  assigns t as' all.1,
)

what_fits : (t : Table) (w : What) → AssignsOnce t w → rows.FitsWhat t w
what_fits t (Set as') fits = assigns t as' fits.0
what_fits t Gone fits = tt

pub all_fit : (t : Table) (cs : List Change) → AllByRecursion (IsChangeOf t) cs → AllFit t cs
all_fit t [] all = tt
all_fit t (c ∷ cs) all = ((subst (λ (columns : List KeyColumn). Fits columns c.row) (table_columns t) all.0.row, what_fits t c.what all.0.what), all_fit t cs all.1)
