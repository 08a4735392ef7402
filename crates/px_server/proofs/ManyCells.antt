-- What a batch keeps for its regions, in the words of the trail and of the table that is read for it: the sizes of what its changes write.
use Rattle.std.proofs.Common.{◌≡◌, ◌<◌, ◌⊎◌, inl, inr, ℕ, zero, suc, Some, None, List, [], ◌∷◌, length, refl, sym, ap, subst, ◌∙◌, arith}
use Rattle.std.specs.List.{flat_map, slice_get}
use Rattle.px_values.specs.Limits.{most_of}
use Rattle.px_values.specs.States.{RowState, Shape, apply}
use Rattle.px_values.specs.declared.change.Change.{Change}
use Rattle.px_values.specs.declared.limit.Limit.{Limit as Bound}
use Rattle.px_values.specs.declared.limit.Limit.TheVariants as bound
use Rattle.px_values.specs.declared.row.Value.{Value}
use Rattle.px_keys.specs.Spelling.{Fits}
use Rattle.px_tables.specs.declared.index.Index.{Index}
use Rattle.px_tables.specs.declared.table.Table.{Table}
use Rattle.px_trail.specs.Trail.{Base, catalogue_of, shape_of, table_shape}
use Rattle.px_trail.specs.declared.entry.Entry.{Entry}
use Rattle.px_calls.specs.Causes.{WritesManyBytes, WritesManyCells, expected_now}
use Rattle.px_calls.specs.Sizes.{WritesTooMuch, WritesTooMuchIn, batch_sizes, batch_sizes_in, index_sizes, key_in_index, row_sizes}
use Rattle.px_rows.specs.Keys.{row_columns}
use Rattle.px_rows.specs.Spelled.{FitsTable}
use Rattle.px_indexrow.specs.Form.{FitsRowState, IsRightIndex, key_of_state}
use Rattle.px_indexrow.proofs.KeysHeld.{key_is}
use Rattle.px_phases.specs.Batch.{BatchData}
use Rattle.px_group.specs.Group.{AreStanding, IsRightGroup, IsRightPart}
use Rattle.px_group.specs.Room.{bytes_at, bytes_of_rows, cells_at, cells_of_rows}
use Rattle.px_group.specs.declared.group.Begun.{Begun}
use Rattle.px_group.specs.declared.group.Group.{Group}
use Rattle.px_group.specs.declared.group.IndexRegion.{IndexRegion}
use Rattle.px_beginning.specs.Begins.{IsBatchOf, old_state}
use Rattle.px_beginning.specs.Rooms.{HasManyBytes, HasManyCells, PassesAt, fresh_batch}
use Rattle.px_beginning.proofs.Sizes.{IsSized, index_written, rows_written, total}
use Rattle.px_server.proofs.LongKeys.{long_same, part_at}
use Rattle.px_server.proofs.OwnRows.{HasKey, apply_key, old_key}

same_value : {A : Type 0} (a b : A) → Some a ≡ Some b → a ≡ b
same_value a b e = cc

-- what stands at a place
record IsThere (xs : List IndexRegion) (i : ℕ) : Type 0 where
  part : IndexRegion
  is : slice_get xs i ≡ Some part

there : (xs : List IndexRegion) (i : ℕ) → i < length xs → IsThere xs i
there [] i l = absurd (omega (arith, l))
there (x ∷ xs) zero l = record { part = x; is = refl }
there (x ∷ xs) (suc i) l = (let w = there xs i (omega (arith, l)) in record { part = w.part; is = w.is })

inside : (xs : List IndexRegion) (i : ℕ) (x : IndexRegion) → slice_get xs i ≡ Some x → i < length xs
inside [] i x is = absurd (let z : None ≡ Some x = is in cc)
inside (y ∷ xs) zero x is = omega arith
inside (y ∷ xs) (suc i) x is = (let l = inside xs i x is in omega (arith, l))

module _ (b : Base) (es : List Entry) (g : Group) (right : IsRightGroup g) (stands : AreStanding b es g) (shape : shape_of b es g.table.id.0 ≡ table_shape g.table) (reads : (r : List Value) → old_state g r ≡ expected_now b es g.table.id.0 r) (cs : List Change) where
  abbrev sh : Shape
  sh = shape_of b es g.table.id.0

  abbrev now : List Value → RowState
  now r = expected_now b es g.table.id.0 r

  after : (c : Change) → FitsTable g.table c.row c.what → HasKey g.table c.row (apply (table_shape g.table) c.row (old_state g c.row) c.what)
  after c fits = apply_key g.table c.row (old_state g c.row) c.what right.table fits (old_key g right c.row)

  -- the key of a state is the one on the index's path
  same_key : (x : Index) → IsRightIndex g.table x → (r : List Value) (o : RowState) → Fits (row_columns g.table) r → FitsRowState g.table o → HasKey g.table r o → key_of_state g.table x r o ≡ key_in_index g.table x o
  same_key x index r None fits state own = refl
  same_key x index r (Some row) fits state own = key_is g.table x r row right.table index fits state ∙ ap (λ (k : List ℕ). Some k) (sym (long_same g.table x r row own))

  rows_same : flat_map (λ c. row_sizes g.table c (apply (table_shape g.table) c.row (old_state g c.row) c.what)) cs ≡ batch_sizes sh now g.table cs
  rows_same = λ i. flat_map (λ c. row_sizes g.table c (apply (sym shape i) c.row (reads c.row i) c.what)) cs

  index_same : (x : Index) → flat_map (λ c. index_sizes g.table x (old_state g c.row) (apply (table_shape g.table) c.row (old_state g c.row) c.what)) cs ≡ batch_sizes_in sh now g.table x cs
  index_same x = λ i. flat_map (λ c. index_sizes g.table x (reads c.row i) (apply (sym shape i) c.row (reads c.row i) c.what)) cs

  module _ (s : ℕ) (bd : BatchData) (batch : IsBatchOf g s cs bd) (rows : Begun → ℕ) (at : ℕ → Begun → ℕ) (measure : List ℕ → ℕ) (which : Bound)
      (rows_told : (m : Begun) (sizes : List ℕ) → IsSized (cells_of_rows m) (bytes_of_rows m) sizes → rows m ≡ measure sizes)
      (at_told : (i : ℕ) (m : Begun) (sizes : List ℕ) → IsSized (cells_at i m) (bytes_at i m) sizes → at i m ≡ measure sizes) where
    rows_are : rows (fresh_batch (length g.indexes.items) bd) ≡ measure (batch_sizes sh now g.table cs)
    rows_are = rows_told (fresh_batch (length g.indexes.items) bd) (flat_map (λ c. row_sizes g.table c (apply (table_shape g.table) c.row (old_state g c.row) c.what)) cs) (rows_written g right s cs bd batch) ∙ ap measure rows_same

    index_are : (i : ℕ) (x : IndexRegion) → slice_get g.indexes.items i ≡ Some x → at i (fresh_batch (length g.indexes.items) bd) ≡ measure (batch_sizes_in sh now g.table x.index cs)
    index_are i x is =
        at_told i (fresh_batch (length g.indexes.items) bd) (flat_map (λ c. index_sizes g.table x.index (old_state g c.row) (apply (table_shape g.table) c.row (old_state g c.row) c.what)) cs)
        (index_written g right s cs bd batch i x is (HasKey g.table) (same_key x.index (part_at (IsRightPart g.table) g.indexes.items right.parts i x is).index) (old_key g right) after) ∙ ap measure (index_same x.index)

    -- what is too much for a region is told of rows
    over : PassesAt rows at (most_of which) (length g.indexes.items) bd → WritesTooMuch measure which (catalogue_of b es) sh now g.table.id.0 cs
    over (inl many) = record { table = g.table; is = stands.table; over = inl (subst (λ (n : ℕ). most_of which < n) rows_are many) }
    over (inr z) =
        let w = there g.indexes.items z.0 z.1.0 in
        let p = part_at (IsRightPart g.table) g.indexes.items right.parts z.0 w.part w.is in
        record {
          table = g.table;
          is = stands.table;
          over = inr (record {
            index = w.part.index;
            is = stands.index z.0 w.part w.is;
            owner = ap (λ u. u.0) p.table;
            maintained = p.maintained;
            over = subst (λ (n : ℕ). most_of which < n) (index_are z.0 w.part w.is) z.1.1;
          });
        }

    -- and so is what isn't
    passes_in : WritesTooMuchIn measure which (catalogue_of b es) sh now g.table cs → PassesAt rows at (most_of which) (length g.indexes.items) bd
    passes_in many =
        let w = stands.all many.index many.is many.owner many.maintained in
        let here : most_of which < measure (batch_sizes_in sh now g.table w.1.0.index cs) = subst (λ (x : Index). most_of which < measure (batch_sizes_in sh now g.table x cs)) (sym w.1.1.1) many.over in
        inr (w.0, (inside g.indexes.items w.0 w.1.0 w.1.1.0, subst (λ (n : ℕ). most_of which < n) (sym (index_are w.0 w.1.0 w.1.1.0)) here))

    passes_by : (t : Table) → t ≡ g.table → (most_of which < measure (batch_sizes sh now t cs)) ⊎ WritesTooMuchIn measure which (catalogue_of b es) sh now t cs → PassesAt rows at (most_of which) (length g.indexes.items) bd
    passes_by t same (inl many) = inl (subst (λ (n : ℕ). most_of which < n) (sym rows_are) (subst (λ (u : Table). most_of which < measure (batch_sizes sh now u cs)) same many))
    passes_by t same (inr many) = passes_in (subst (λ (u : Table). WritesTooMuchIn measure which (catalogue_of b es) sh now u cs) same many)

    passes : WritesTooMuch measure which (catalogue_of b es) sh now g.table.id.0 cs → PassesAt rows at (most_of which) (length g.indexes.items) bd
    passes many = passes_by many.table (same_value many.table g.table (sym many.is ∙ stands.table)) many.over

  -- what a batch is refused for
  pub needs_cells : (s : ℕ) → HasManyCells g s cs → WritesManyCells b es g.table.id.0 cs
  needs_cells s many = over s many.batch many.is cells_of_rows cells_at (λ sizes. length sizes) bound.Cells (λ m sizes p. p.count) (λ i m sizes p. p.count) many.passes

  pub needs_bytes : (s : ℕ) → HasManyBytes g s cs → WritesManyBytes b es g.table.id.0 cs
  needs_bytes s many = over s many.batch many.is bytes_of_rows bytes_at total bound.Bytes (λ m sizes p. p.bytes_are) (λ i m sizes p. p.bytes_are) many.passes

  -- and what one that is prepared doesn't need
  pub needs_few : (s : ℕ) (bd : BatchData) → IsBatchOf g s cs bd → (PassesAt cells_of_rows cells_at (most_of bound.Cells) (length g.indexes.items) bd → ⊥) → WritesManyCells b es g.table.id.0 cs → ⊥
  needs_few s bd batch none many = none (passes s bd batch cells_of_rows cells_at (λ sizes. length sizes) bound.Cells (λ m sizes p. p.count) (λ i m sizes p. p.count) many)

  pub needs_light : (s : ℕ) (bd : BatchData) → IsBatchOf g s cs bd → (PassesAt bytes_of_rows bytes_at (most_of bound.Bytes) (length g.indexes.items) bd → ⊥) → WritesManyBytes b es g.table.id.0 cs → ⊥
  needs_light s bd batch none many = none (passes s bd batch bytes_of_rows bytes_at total bound.Bytes (λ m sizes p. p.bytes_are) (λ i m sizes p. p.bytes_are) many)
