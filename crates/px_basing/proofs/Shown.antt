-- What a table shows when base versions are written.
use Rattle.std.proofs.Common.{◌≡◌, ℕ, ◌<◌, Bool, true, false, cond, Some, None, List, ◌++◌, length, get_or, set, slice_get, inl, inr, refl, ap, sym, ◌∙◌, subst, arith}
use Rattle.std.proofs.Math.ListN.{length-set}
use Rattle.std.proofs.lemmas.Bool.{cases_eq}
use Rattle.std.proofs.lemmas.List.{get_or-set_other, get_or-set_same}
use Rattle.std.specs.Prelude.{nat_eq}
use Rattle.px_outside.specs.declared.disk.Disk.{Ghosts}
use Rattle.px_cells.specs.CellData.{CellData}
use Rattle.px_cells.specs.Order.{ReadsSame}
use Rattle.px_forms.specs.Indexes.{IndexForm}
use Rattle.px_groupworld.specs.Asks.{CanBase}
use Rattle.px_groupworld.specs.Group.{GroupData, IndexPart, TableForm, no_part, table_form}
use Rattle.px_groupworld.specs.Steps.{Events, Steps, at_index, cells_data, with_cells}
use Rattle.px_groupworld.proofs.Cells.{group_base}
use Rattle.px_indexed.specs.Worlds.{row_event}
use Rattle.px_indexrow.specs.Form.{index_form}
use Rattle.px_openbatches.specs.Opens.{IsNoBirthOf}
use Rattle.px_openbatches.specs.Pending.{HeldBatch}
use Rattle.px_region.specs.Region.{read_of}
use Rattle.px_region.specs.declared.region.Region.{Region}
use Rattle.px_rows.specs.Spelled.{row_form}
use Rattle.px_tablereads.specs.Told.{AreTold}
use Rattle.px_tables.specs.declared.index.Index.{Index}
use Rattle.px_tables.specs.declared.table.Table.{Table}
use Rattle.px_tablesteps.specs.Kept.{TableKept, TableSteps}
use Rattle.px_tablesteps.proofs.Steps.{table_regions}
use Rattle.px_trail.specs.Batches.{has}
use Rattle.px_trail.specs.Trail.{Base}
use Rattle.px_trail.specs.declared.entry.Entry.{Entry}
use Rattle.px_world.specs.Events.{Base as BaseVersion}
use Rattle.px_group.specs.Group.{IsPartOf, IsRightGroup, IsRightPart, IsShownBy, form_of}
use Rattle.px_group.specs.declared.group.Group.{Group}
use Rattle.px_group.specs.declared.group.IndexRegion.{IndexRegion}
use Rattle.px_batching.proofs.Places.{all_at, set_cases, within}
use Rattle.px_reading.specs.Doubts.{IsToldBy}
use Rattle.px_repairs.specs.Repairs.{IsRegionStep}
use Rattle.px_repairs.proofs.Right.{index_before}
use Rattle.px_baserows.specs.Rows.{owners_in}
use Rattle.px_calls.specs.declared.query.BaseRow.{BaseRow}
use Rattle.px_baserows.proofs.May.{can_base}
use Rattle.px_basing.specs.Basing.{AreGiven, StoodAtBirth, WroteBases, base_cells_of}

no_birth : (here own : Bool) → IsNoBirthOf (cond here (row_event BaseVersion own) None)
no_birth true true = tt
no_birth true false = tt
no_birth false own = tt

-- ---- one index has other cells

module _ (xs : List IndexPart) (place : ℕ) (cells : List CellData) (there : place < length xs) where
  abbrev part : IndexPart
  part = with_cells cells (get_or xs place no_part)

  same_field : {A : Type 0} (field : IndexPart → A) → field part ≡ field (get_or xs place no_part) → (i : ℕ) → field (get_or (set xs place part) i no_part) ≡ field (get_or xs i no_part)
  same_field field here i = elim (cases_eq i place) [
    | inl e ↦ ap (λ (n : ℕ). field (get_or (set xs place part) n no_part)) e ∙ (ap field (get_or-set_same xs place part no_part there) ∙ (here ∙ ap (λ (n : ℕ). field (get_or xs n no_part)) (sym e)))
    | inr n ↦ ap field (get_or-set_other xs place i part no_part n)
  ]

module _ (g g' : Group) (place : ℕ) (x : IndexRegion) (new : Region) (step : IsRegionStep g g' place x new) (v : GroupData) (there : place < length v.indexes) where
  abbrev now : GroupData
  now = cells_data place (read_of new) v

  parts_now : ((i : ℕ) (z : IndexRegion) → slice_get g.indexes.items i ≡ Some z → IsPartOf (get_or v.indexes i no_part) z) → (i : ℕ) (z : IndexRegion) → slice_get g'.indexes.items i ≡ Some z → IsPartOf (get_or now.indexes i no_part) z
  parts_now parts i z at = elim (set_cases g.indexes.items place i (record x { region = new }) z (sym (ap (λ (l : List IndexRegion). slice_get l i) step.indexes) ∙ at)) [
    | inl e ↦
        (let old = parts place x step.index in
        let put : IndexPart = with_cells (read_of new) (get_or v.indexes place no_part) in
        let is : IsPartOf put (record x { region = new }) = record { id = old.id; cells = refl; birth = old.birth; built = old.built } in
        let here : get_or now.indexes i no_part ≡ put = ap (λ (n : ℕ). get_or now.indexes n no_part) e.0 ∙ get_or-set_same v.indexes place put no_part there in
        subst (λ (p : IndexPart). IsPartOf p z) (sym here) (subst (λ (y : IndexRegion). IsPartOf put y) (sym e.1) is))
    | inr n ↦ subst (λ (p : IndexPart). IsPartOf p z) (sym (get_or-set_other v.indexes place i (with_cells (read_of new) (get_or v.indexes place no_part)) no_part n.0)) (parts i z n.1)
  ]

  forms_now : (index : ℕ → IndexForm) → ((i : ℕ) (z : IndexRegion) → slice_get g.indexes.items i ≡ Some z → index z.index.id.0 ≡ index_form g.table z.index) → (i : ℕ) (z : IndexRegion) → slice_get g'.indexes.items i ≡ Some z → index z.index.id.0 ≡ index_form g'.table z.index
  forms_now index forms i z at =
      (let y = index_before g g' place x new step i z at in
      subst (λ (t : Table). index z.index.id.0 ≡ index_form t z.index) (sym step.table) (subst (λ (q : Index). index q.id.0 ≡ index_form g.table q) y.1.1 (forms i y.0 y.1.0)))

  told_now : (b : Base) (index : ℕ → IndexForm) (es : List Entry) → new.horizon ≡ x.region.horizon → IsToldBy b index es g v → IsToldBy b index es g' now
  told_now b index es same k = record {
    told = (let told : AreTold (form_of b index g) es now = record { each = k.told.each } in subst (λ (t : Table). AreTold (table_form b t.id index (row_form t)) es now) (sym step.table) told);
    own = λ i z at. elim (set_cases g.indexes.items place i (record x { region = new }) z (sym (ap (λ (l : List IndexRegion). slice_get l i) step.indexes) ∙ at)) [
      | inl e ↦
          same_field v.indexes place (read_of new) there (λ (p : IndexPart). p.horizon) refl i
          ∙ (ap (λ (n : ℕ). (get_or v.indexes n no_part).horizon) e.0 ∙ (k.own place x step.index ∙ (sym same ∙ ap (λ (y : IndexRegion). y.region.horizon) (sym e.1))))
      | inr n ↦ same_field v.indexes place (read_of new) there (λ (p : IndexPart). p.horizon) refl i ∙ k.own i z n.1
    ];
  }

-- ---- base versions of rows that the table had

module _ (g : Group) (place : ℕ) (xs : List BaseRow) (right : IsRightGroup g) (given : AreGiven g place xs) (b : Base) (es : List Entry) (stood : StoodAtBirth b es g place xs)
    (index : ℕ → IndexForm) (v : GroupData) (hs : List HeldBatch) (shown : IsShownBy b index es g v hs) (x : IndexRegion) (at : slice_get g.indexes.items place ≡ Some x) where
  abbrev form : TableForm
  form = form_of b index g

  abbrev event : Events
  event = λ i r. at_index place i (row_event BaseVersion (has (owners_in g.table xs) r))

  pub there : place < length v.indexes
  there = (let l = within g.indexes.items place x at in let n = shown.count in omega (arith, l, n))

  can : (put : List CellData) → ReadsSame put (base_cells_of g x xs) → CanBase form es v place (owners_in g.table xs) put
  can put same =
      let part = shown.parts place x at in
      let form_is : index (get_or v.indexes place no_part).id ≡ index_form g.table x.index = ap index part.id ∙ shown.forms place x at in
      can_base b index es g.table v shown.kept.group place there x.index right.table (all_at (IsRightPart g.table) g.indexes.items place x at right.parts).index form_is part.birth xs (given x at) (stood x at) put same

  -- whatever is read of the region then, as long as it reads as the cells before all that there were
  pub bases_step : (put : List CellData) → ReadsSame put (base_cells_of g x xs) → (new : List CellData) → ReadsSame new (put ++ read_of x.region) → TableSteps form event es v es (cells_data place new v) hs
  bases_step put same new reads =
      let group : Steps form event es v es (cells_data place new v) = group_base form es v shown.kept.group place put new (subst (λ (l : List CellData). ReadsSame new (put ++ l)) (sym (shown.parts place x at).cells) reads) (owners_in g.table xs) (can put same) in
      table_regions form es v hs shown.kept event (cells_data place new v) group (λ i r. no_birth (nat_eq place i) (has (owners_in g.table xs) r)) refl
      (λ i l. same_field v.indexes place new there (λ (p : IndexPart). p.id) refl i) (λ i l. same_field v.indexes place new there (λ (p : IndexPart). p.birth) refl i)

module _ {D : Type 0} (d : Ghosts D) (g g' : Group) (disk disk' : D) (place : ℕ) (xs : List BaseRow) where
  module _ (right : IsRightGroup g) (given : AreGiven g place xs) (b : Base) (es : List Entry) (stood : StoodAtBirth b es g place xs) (index : ℕ → IndexForm) (v : GroupData) (hs : List HeldBatch) (shown : IsShownBy b index es g v hs) (w : WroteBases d g g' disk disk' place xs) where
    abbrev based : GroupData
    based = cells_data place (read_of w.region) v

    pub based_steps : TableSteps (form_of b index g) (λ i r. at_index place i (row_event BaseVersion (has (owners_in g.table xs) r))) es v es based hs
    based_steps = bases_step g place xs right given b es stood index v hs shown w.index w.step.index w.wrote.hands.cells w.wrote.hands.handed.reads (read_of w.region) w.wrote.written.reads

    pub based_shown : IsShownBy b index es g' based hs
    based_shown = record {
      kept = subst (λ (t : Table). TableKept (table_form b t.id index (row_form t)) es based hs) (sym w.step.table) based_steps.kept;
      rows = shown.rows ∙ ap (λ (r : Region). read_of r) (sym w.step.rows);
      count = length-set v.indexes place (with_cells (read_of w.region) (get_or v.indexes place no_part)) ∙ (shown.count ∙ sym (ap (λ (l : List IndexRegion). length l) w.step.indexes ∙ length-set g.indexes.items place (record w.index { region = w.region })));
      parts = parts_now g g' place w.index w.region w.step v (there g place xs right given b es stood index v hs shown w.index w.step.index) shown.parts;
      forms = forms_now g g' place w.index w.region w.step v (there g place xs right given b es stood index v hs shown w.index w.step.index) index shown.forms;
    }

  pub based_told : (b : Base) (es : List Entry) (index : ℕ → IndexForm) (v : GroupData) (hs : List HeldBatch) → IsShownBy b index es g v hs → IsToldBy b index es g v → (w : WroteBases d g g' disk disk' place xs) → IsToldBy b index es g' (cells_data place (read_of w.region) v)
  based_told b es index v hs shown told w =
      told_now g g' place w.index w.region w.step v (let l = within g.indexes.items place w.index w.step.index in let n = shown.count in omega (arith, l, n)) b index es w.wrote.hands.writes.horizon told
