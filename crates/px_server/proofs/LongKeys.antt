-- A key that a batch needs is too long, in the words of the trail and of the table that is read for it.
use Rattle.std.proofs.Common.{◌≡◌, ◌<◌, ◌≤◌, ◌⊎◌, inl, inr, ℕ, zero, suc, Some, None, List, [], ◌∷◌, length, refl, sym, ap, subst, ◌∙◌, arith}
use Rattle.std.specs.List.{AllByRecursion, slice_get}
use Rattle.px_values.specs.Limits.{most_key}
use Rattle.px_values.specs.States.{RowState, Shape, apply}
use Rattle.px_values.specs.declared.change.Change.{Change}
use Rattle.px_values.specs.declared.row.Value.{Value}
use Rattle.px_keys.specs.Spelling.{spelled}
use Rattle.px_keys.specs.declared.parts.KeyColumn.{KeyColumn}
use Rattle.px_tables.specs.declared.index.Index.{Index}
use Rattle.px_tables.specs.declared.table.Table.{Table}
use Rattle.px_paths.specs.Paths.{columns_on, index_path, table_path, values_on}
use Rattle.px_trail.specs.Answers.{IsAmong}
use Rattle.px_trail.specs.Trail.{Base, shape_of, table_shape}
use Rattle.px_trail.specs.declared.entry.Entry.{Entry}
use Rattle.px_calls.specs.Causes.{HasLongKey, IsLongIn, IsLongIndexed, expected_now}
use Rattle.px_calls.specs.Causes as calls
use Rattle.px_rows.specs.Keys.{row_key}
use Rattle.px_rows.proofs.KeysBack.{row_key-fits}
use Rattle.px_indexrow.specs.Form.{IsLongInIndex, index_columns, index_values}
use Rattle.px_cellshapes.proofs.Paths.{index_columns_same, table_columns}
use Rattle.px_phases.specs.Batch.{AllFit, BatchData}
use Rattle.px_phases.specs.Begun.{AreFrom}
use Rattle.px_phases.specs.Phases.{AreTransitions, HasLongIndexed}
use Rattle.px_phases.specs.declared.transition.Transition.{Transition}
use Rattle.px_shown.proofs.Paths.{values_are}
use Rattle.px_group.specs.Group.{AreStanding, IsRightGroup, IsRightPart}
use Rattle.px_group.specs.declared.group.Group.{Group}
use Rattle.px_group.specs.declared.group.IndexRegion.{IndexRegion}
use Rattle.px_beginning.specs.Begins.{IsBatchOf, NeedsLongKey, old_state}
use Rattle.px_beginning.specs.Faults.{HasLongIn, HasLongRow}
use Rattle.px_server.proofs.OwnRows.{HasKey, apply_key, old_key}

-- ---- one key

pub long_same : (t : Table) (x : Index) (r row : List Value) → HasKey t r (Some row) → spelled (columns_on (index_path t x)) (values_on (index_path t x) row) ≡ spelled (index_columns t x) (index_values t x r row)
long_same t x r row own = (λ i. spelled (index_columns_same t x i) (values_are t x r row own i))

long_there : (t : Table) (x : Index) (r : List Value) (o : RowState) → HasKey t r o → IsLongInIndex t x r o → IsLongIn t x o
long_there t x r None own long = long
long_there t x r (Some row) own long = subst (λ (k : List ℕ). most_key < length k) (sym (long_same t x r row own)) long

long_here : (t : Table) (x : Index) (r : List Value) (o : RowState) → HasKey t r o → IsLongIn t x o → IsLongInIndex t x r o
long_here t x r None own long = long
long_here t x r (Some row) own long = subst (λ (k : List ℕ). most_key < length k) (long_same t x r row own) long

row_same : (t : Table) (c : Change) → AllFit t (c ∷ []) → row_key t c.row ≡ spelled (columns_on (table_path t)) c.row
row_same t c fit = row_key-fits t c.row fit.0.0 ∙ ap (λ (cs : List KeyColumn). spelled cs c.row) (sym (table_columns t))

-- ---- the keys of rows

record LongRow (t : Table) (cs : List Change) : Type 0 where
  change : Change
  among : IsAmong change cs
  long : calls.IsLong (spelled (columns_on (table_path t)) change.row)

long_row : (t : Table) (cs : List Change) → AllFit t cs → HasLongRow t cs → LongRow t cs
unfolding IsAmong
long_row t [] fit long = absurd long
long_row t (c ∷ cs) fit (inl here) = record { change = c; among = inl refl; long = subst (λ (k : List ℕ). most_key < length k) (row_same t c (fit.0, tt)) here }
long_row t (c ∷ cs) fit (inr more) = (let w = long_row t cs fit.1 more in record { change = w.change; among = inr w.among; long = w.long })

short_row : (t : Table) (cs : List Change) → AllFit t cs → AllByRecursion (λ c. length (row_key t c.row) ≤ most_key) cs → (c : Change) → IsAmong c cs → calls.IsLong (spelled (columns_on (table_path t)) c.row) → ⊥
unfolding IsAmong
short_row t [] fit short c among long = among
short_row t (x ∷ cs) fit short c (inl here) long =
    let is : row_key t c.row ≡ spelled (columns_on (table_path t)) c.row = subst (λ (y : Change). row_key t y.row ≡ spelled (columns_on (table_path t)) y.row) here (row_same t x (fit.0, tt)) in
    let few : length (row_key t c.row) ≤ most_key = subst (λ (y : Change). length (row_key t y.row) ≤ most_key) here short.0 in
    let many : most_key < length (row_key t c.row) = subst (λ (k : List ℕ). most_key < length k) (sym is) long in
    omega (arith, few, many)
short_row t (x ∷ cs) fit short c (inr more) long = short_row t cs fit.1 short.1 c more long

-- ---- the keys in one index

record LongChange (t : Table) (x : Index) (old : List Value → RowState) (cs : List Change) : Type 0 where
  change : Change
  among : IsAmong change cs
  long : IsLongIn t x (old change.row) ⊎ IsLongIn t x (apply (table_shape t) change.row (old change.row) change.what)

module _ (t : Table) (x : Index) (old : List Value → RowState) (own : (r : List Value) → HasKey t r (old r)) (after : (c : Change) → AllFit t (c ∷ []) → HasKey t c.row (apply (table_shape t) c.row (old c.row) c.what)) where
  indexed_there : (cs : List Change) (ys : List Transition) → AreTransitions t cs ys → AreFrom old cs ys → HasLongIndexed t x cs ys → LongChange t x old cs
  unfolding IsAmong
  indexed_there [] ys are from long = absurd long
  indexed_there (c ∷ cs) [] are from long = absurd long
  indexed_there (c ∷ cs) (y ∷ ys) are from (inl (inl new)) = record {
    change = c;
    among = inl refl;
    long = inr (long_there t x c.row (apply (table_shape t) c.row (old c.row) c.what) (after c (are.0.fits, tt))
        (subst (IsLongInIndex t x c.row) (are.0.new ∙ ap (λ (o : RowState). apply (table_shape t) c.row o c.what) (sym from.0)) new));
  }
  indexed_there (c ∷ cs) (y ∷ ys) are from (inl (inr before)) = record { change = c; among = inl refl; long = inl (long_there t x c.row (old c.row) (own c.row) (subst (IsLongInIndex t x c.row) (sym from.0) before)) }
  indexed_there (c ∷ cs) (y ∷ ys) are from (inr more) = (let w = indexed_there cs ys are.1 from.1 more in record { change = w.change; among = inr w.among; long = w.long })

  indexed_here : (cs : List Change) (ys : List Transition) → AreTransitions t cs ys → AreFrom old cs ys → (c : Change) → IsAmong c cs → IsLongIn t x (old c.row) ⊎ IsLongIn t x (apply (table_shape t) c.row (old c.row) c.what) → HasLongIndexed t x cs ys
  unfolding IsAmong
  indexed_here [] ys are from c among long = absurd among
  indexed_here (d ∷ cs) [] are from c among long = absurd are
  indexed_here (d ∷ cs) (y ∷ ys) are from c (inl here) (inl before) = (let
      at : IsLongIn t x (old d.row) = subst (λ (z : Change). IsLongIn t x (old z.row)) (sym here) before
      in inl (inr (subst (IsLongInIndex t x d.row) from.0 (long_here t x d.row (old d.row) (own d.row) at))))
  indexed_here (d ∷ cs) (y ∷ ys) are from c (inl here) (inr new) = (let
      at : IsLongIn t x (apply (table_shape t) d.row (old d.row) d.what) = subst (λ (z : Change). IsLongIn t x (apply (table_shape t) z.row (old z.row) z.what)) (sym here) new
      in inl (inl (subst (IsLongInIndex t x d.row) (sym (are.0.new ∙ ap (λ (o : RowState). apply (table_shape t) d.row o d.what) (sym from.0))) (long_here t x d.row (apply (table_shape t) d.row (old d.row) d.what) (after d (are.0.fits, tt)) at))))
  indexed_here (d ∷ cs) (y ∷ ys) are from c (inr more) long = inr (indexed_here cs ys are.1 from.1 c more long)

-- ---- all indexes

record LongPlace (t : Table) (xs : List IndexRegion) (cs : List Change) (ys : List Transition) : Type 0 where
  place : ℕ
  part : IndexRegion
  is : slice_get xs place ≡ Some part
  long : HasLongIndexed t part.index cs ys

long_place : (t : Table) (xs : List IndexRegion) (cs : List Change) (ys : List Transition) → HasLongIn t xs cs ys → LongPlace t xs cs ys
long_place t [] cs ys long = absurd long
long_place t (x ∷ xs) cs ys (inl here) = record { place = zero; part = x; is = refl; long = here }
long_place t (x ∷ xs) cs ys (inr more) = (let w = long_place t xs cs ys more in record { place = suc w.place; part = w.part; is = w.is; long = w.long })

get_same : {A : Type 0} (a b : A) → Some a ≡ Some b → a ≡ b
get_same a b e = cc

pub part_at : {A : Type 0} (P : A → Type 0) (xs : List A) → AllByRecursion P xs → (i : ℕ) (x : A) → slice_get xs i ≡ Some x → P x
part_at P [] all i x is = absurd (let z : None ≡ Some x = is in cc)
part_at P (y ∷ xs) all zero x is = subst P (get_same y x is) all.0
part_at P (y ∷ xs) all (suc i) x is = part_at P xs all.1 i x is

-- ---- the table

module _ (b : Base) (es : List Entry) (g : Group) (right : IsRightGroup g) (stands : AreStanding b es g) (shape : shape_of b es g.table.id.0 ≡ table_shape g.table) (reads : (r : List Value) → old_state g r ≡ expected_now b es g.table.id.0 r) (cs : List Change) (fit : AllFit g.table cs) where
  after : (c : Change) → AllFit g.table (c ∷ []) → HasKey g.table c.row (apply (table_shape g.table) c.row (old_state g c.row) c.what)
  after c fits = apply_key g.table c.row (old_state g c.row) c.what right.table fits.0 (old_key g right c.row)

  long_now : (x : Index) (c : Change) → IsLongIn g.table x (old_state g c.row) ⊎ IsLongIn g.table x (apply (table_shape g.table) c.row (old_state g c.row) c.what)
      → IsLongIn g.table x (expected_now b es g.table.id.0 c.row) ⊎ IsLongIn g.table x (apply (shape_of b es g.table.id.0) c.row (expected_now b es g.table.id.0 c.row) c.what)
  long_now x c (inl before) = inl (subst (IsLongIn g.table x) (reads c.row) before)
  long_now x c (inr new) = inr (subst (λ (o : RowState). IsLongIn g.table x (apply (shape_of b es g.table.id.0) c.row o c.what)) (reads c.row) (subst (λ (sh : Shape). IsLongIn g.table x (apply sh c.row (old_state g c.row) c.what)) (sym shape) new))

  long_then : (x : Index) (c : Change) → IsLongIn g.table x (expected_now b es g.table.id.0 c.row) ⊎ IsLongIn g.table x (apply (shape_of b es g.table.id.0) c.row (expected_now b es g.table.id.0 c.row) c.what)
      → IsLongIn g.table x (old_state g c.row) ⊎ IsLongIn g.table x (apply (table_shape g.table) c.row (old_state g c.row) c.what)
  long_then x c (inl before) = inl (subst (IsLongIn g.table x) (sym (reads c.row)) before)
  long_then x c (inr new) = inr (subst (λ (sh : Shape). IsLongIn g.table x (apply sh c.row (old_state g c.row) c.what)) shape (subst (λ (o : RowState). IsLongIn g.table x (apply (shape_of b es g.table.id.0) c.row o c.what)) (sym (reads c.row)) new))

  -- what a batch is refused for
  pub needs_long : NeedsLongKey g cs → HasLongKey b es g.table.id.0 cs
  needs_long (inl row) = (let w = long_row g.table cs fit row in record { table = g.table; is = stands.table; change = w.change; among = w.among; long = inl w.long })
  needs_long (inr state) =
      let w = long_place g.table g.indexes.items cs state.transitions state.long in
      let c = indexed_there g.table w.part.index (old_state g) (old_key g right) after cs state.transitions state.read.are state.read.from w.long in
      let p = part_at (IsRightPart g.table) g.indexes.items right.parts w.place w.part w.is in
      record {
        table = g.table;
        is = stands.table;
        change = c.change;
        among = c.among;
        long = inr (record { index = w.part.index; is = stands.index w.place w.part w.is; owner = ap (λ u. u.0) p.table; maintained = p.maintained; long = long_now w.part.index c.change c.long });
      }

  -- and what one that is prepared doesn't need
  module _ (s : ℕ) (bd : BatchData) (batch : IsBatchOf g s cs bd) where
    short_in : (c : Change) → IsAmong c cs → IsLongIndexed b es g.table c → ⊥
    short_in c among long =
        let w = stands.all long.index long.is long.owner long.maintained in
        let none : HasLongIndexed g.table w.1.0.index cs batch.transitions → ⊥ = part_at (λ x. HasLongIndexed g.table x.index cs batch.transitions → ⊥) g.indexes.items batch.made.short w.0 w.1.0 w.1.1.0 in
        subst (λ (x : Index). HasLongIndexed g.table x cs batch.transitions → ⊥) w.1.1.1 none
        (indexed_here g.table long.index (old_state g) (old_key g right) after cs batch.transitions batch.read.are batch.read.from c among (long_then long.index c long.long))

    by_table : (t : Table) → t ≡ g.table → (c : Change) → IsAmong c cs → calls.IsLong (spelled (columns_on (table_path t)) c.row) ⊎ IsLongIndexed b es t c → ⊥
    by_table t same c among (inl row) = short_row g.table cs fit batch.short c among (subst (λ (u : Table). calls.IsLong (spelled (columns_on (table_path u)) c.row)) same row)
    by_table t same c among (inr long) = short_in c among (subst (λ (u : Table). IsLongIndexed b es u c) same long)

    pub needs_short : HasLongKey b es g.table.id.0 cs → ⊥
    needs_short long = by_table long.table (get_same long.table g.table (sym long.is ∙ stands.table)) long.change long.among long.long
