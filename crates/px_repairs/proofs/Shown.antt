-- What a table shows when a repair is written.
use Rattle.std.proofs.Common.{◌≡◌, ℕ, ◌<◌, Bool, true, false, cond, Some, None, List, ◌++◌, length, get_or, set, slice_get, inl, inr, refl, ap, sym, ◌∙◌, subst}
use Rattle.std.proofs.Math.ListN.{length-set}
use Rattle.std.proofs.lemmas.Bool.{cases_eq}
use Rattle.std.proofs.lemmas.List.{get_or-set_other, get_or-set_same}
use Rattle.std.specs.Prelude.{nat_eq}
use Rattle.px_outside.specs.declared.disk.Disk.{Ghosts}
use Rattle.px_cells.specs.CellData.{CellData}
use Rattle.px_cells.specs.Order.{ReadsSame}
use Rattle.px_cells.proofs.Contents.{same_values}
use Rattle.px_forms.specs.Indexes.{IndexForm}
use Rattle.px_forms.proofs.Views.{view_same}
use Rattle.px_groupworld.specs.Asks.{CanFix}
use Rattle.px_groupworld.specs.Group.{GroupData, IndexPart, TableForm, no_part, table_form}
use Rattle.px_groupworld.specs.Steps.{Events, Steps, at_index, cells_data, with_cells}
use Rattle.px_groupworld.proofs.Cells.{group_fix}
use Rattle.px_indexed.specs.Worlds.{row_event}
use Rattle.px_indexrow.specs.Form.{index_form}
use Rattle.px_openbatches.specs.Opens.{IsNoBirthOf}
use Rattle.px_openbatches.specs.Pending.{HeldBatch}
use Rattle.px_region.specs.Region.{read_of}
use Rattle.px_region.specs.declared.region.Region.{Region}
use Rattle.px_rows.specs.Spelled.{row_form}
use Rattle.px_tablereads.specs.Told.{AreTold}
use Rattle.px_tables.specs.declared.index.Index.{Index}
use Rattle.px_tables.specs.declared.table.Table.{Table}
use Rattle.px_tablesteps.specs.Kept.{TableKept, TableSteps}
use Rattle.px_tablesteps.proofs.Steps.{table_regions}
use Rattle.px_trail.specs.Trail.{Base}
use Rattle.px_trail.specs.declared.entry.Entry.{Entry}
use Rattle.px_world.specs.Events.{Fix}
use Rattle.px_group.specs.Group.{IsPartOf, IsShownBy, IsTallied, form_of}
use Rattle.px_group.specs.declared.group.Group.{Group}
use Rattle.px_group.specs.declared.group.IndexRegion.{IndexRegion}
use Rattle.px_batching.proofs.Places.{set_cases}
use Rattle.px_reading.specs.Doubts.{IsToldBy}
use Rattle.px_repairs.specs.Repairs.{IsRegionStep, IsRepair, WroteRepair}
use Rattle.px_repairs.proofs.Right.{index_before}

-- ---- cells of which the same is read

can_same : (f : TableForm) (es : List Entry) (v : GroupData) (place : ℕ) (k : List ℕ) (s : ℕ) (cells kept : List CellData) → ReadsSame cells kept → CanFix f es v place k s kept → CanFix f es v place k s cells
can_same f es v place k s cells kept same can = record {
  there = can.there;
  may = can.may;
  reads = λ r. view_same (f.index (get_or v.indexes place no_part).id) r cells kept same ∙ can.reads r;
  low = record { each = λ c e. can.low.each c (ap (λ g. g c.key c.qualifier c.stamp c.kind) (sym (same_values cells kept same)) ∙ e) };
}

no_birth : (k : List ℕ) (s : ℕ) (here own : Bool) → IsNoBirthOf (cond here (row_event (Fix k s) own) None)
no_birth k s true true = tt
no_birth k s true false = tt
no_birth k s false own = tt

-- ---- one index has other cells

module _ (xs : List IndexPart) (place : ℕ) (cells : List CellData) (there : place < length xs) where
  abbrev part : IndexPart
  part = with_cells cells (get_or xs place no_part)

  same_field : {A : Type 0} (field : IndexPart → A) → field part ≡ field (get_or xs place no_part) → (i : ℕ) → field (get_or (set xs place part) i no_part) ≡ field (get_or xs i no_part)
  same_field field here i = elim (cases_eq i place) [
    | inl e ↦ ap (λ (n : ℕ). field (get_or (set xs place part) n no_part)) e ∙ (ap field (get_or-set_same xs place part no_part there) ∙ (here ∙ ap (λ (n : ℕ). field (get_or xs n no_part)) (sym e)))
    | inr n ↦ ap field (get_or-set_other xs place i part no_part n)
  ]

module _ (g g' : Group) (place : ℕ) (x : IndexRegion) (new : Region) (step : IsRegionStep g g' place x new) (v : GroupData) (there : place < length v.indexes) where
  abbrev now : GroupData
  now = cells_data place (read_of new) v

  parts_now : ((i : ℕ) (z : IndexRegion) → slice_get g.indexes.items i ≡ Some z → IsPartOf (get_or v.indexes i no_part) z) → (i : ℕ) (z : IndexRegion) → slice_get g'.indexes.items i ≡ Some z → IsPartOf (get_or now.indexes i no_part) z
  parts_now parts i z at = elim (set_cases g.indexes.items place i (record x { region = new }) z (sym (ap (λ (l : List IndexRegion). slice_get l i) step.indexes) ∙ at)) [
    | inl e ↦
        (let old = parts place x step.index in
        let put : IndexPart = with_cells (read_of new) (get_or v.indexes place no_part) in
        let is : IsPartOf put (record x { region = new }) = record { id = old.id; cells = refl; birth = old.birth; built = old.built } in
        let here : get_or now.indexes i no_part ≡ put = ap (λ (n : ℕ). get_or now.indexes n no_part) e.0 ∙ get_or-set_same v.indexes place put no_part there in
        subst (λ (p : IndexPart). IsPartOf p z) (sym here) (subst (λ (y : IndexRegion). IsPartOf put y) (sym e.1) is))
    | inr n ↦ subst (λ (p : IndexPart). IsPartOf p z) (sym (get_or-set_other v.indexes place i (with_cells (read_of new) (get_or v.indexes place no_part)) no_part n.0)) (parts i z n.1)
  ]

  forms_now : (index : ℕ → IndexForm) → ((i : ℕ) (z : IndexRegion) → slice_get g.indexes.items i ≡ Some z → index z.index.id.0 ≡ index_form g.table z.index) → (i : ℕ) (z : IndexRegion) → slice_get g'.indexes.items i ≡ Some z → index z.index.id.0 ≡ index_form g'.table z.index
  forms_now index forms i z at =
      (let y = index_before g g' place x new step i z at in
      subst (λ (t : Table). index z.index.id.0 ≡ index_form t z.index) (sym step.table) (subst (λ (q : Index). index q.id.0 ≡ index_form g.table q) y.1.1 (forms i y.0 y.1.0)))

  -- a later repair may rest on it
  told_now : (b : Base) (index : ℕ → IndexForm) (es : List Entry) → new.horizon ≡ x.region.horizon → IsToldBy b index es g v → IsToldBy b index es g' now
  told_now b index es same k = record {
    told = (let told : AreTold (form_of b index g) es now = record { each = k.told.each } in subst (λ (t : Table). AreTold (table_form b t.id index (row_form t)) es now) (sym step.table) told);
    own = λ i z at. elim (set_cases g.indexes.items place i (record x { region = new }) z (sym (ap (λ (l : List IndexRegion). slice_get l i) step.indexes) ∙ at)) [
      | inl e ↦
          same_field v.indexes place (read_of new) there (λ (p : IndexPart). p.horizon) refl i
          ∙ (ap (λ (n : ℕ). (get_or v.indexes n no_part).horizon) e.0 ∙ (k.own place x step.index ∙ (sym same ∙ ap (λ (y : IndexRegion). y.region.horizon) (sym e.1))))
      | inr n ↦ same_field v.indexes place (read_of new) there (λ (p : IndexPart). p.horizon) refl i ∙ k.own i z n.1
    ];
  }

-- ---- a repair

module _ (g : Group) (place : ℕ) (k : List ℕ) (s : ℕ) (cells : List CellData) (due : IsRepair g place k s cells)
    (b : Base) (index : ℕ → IndexForm) (es : List Entry) (v : GroupData) (hs : List HeldBatch) (tallied : IsTallied b es g hs) (shown : IsShownBy b index es g v hs) (told : IsToldBy b index es g v) where
  abbrev form : TableForm
  form = form_of b index g

  abbrev event : Events
  event = λ i r. at_index place i (row_event (Fix k s) ((index (get_or v.indexes place no_part).id).owns r k))

  can : CanFix form es v place k s cells
  can = due.can b index es v hs tallied shown told

  pub there : place < length v.indexes
  there = can.there

  -- whatever is read of the region then, as long as it reads as the cells before all that there were
  module _ (x : IndexRegion) (at : slice_get g.indexes.items place ≡ Some x) (put : List CellData) (same : ReadsSame put cells) (new : List CellData) (reads : ReadsSame new (put ++ read_of x.region)) where
    group_steps : Steps form event es v es (cells_data place new v)
    group_steps = group_fix form es v shown.kept.group place put new (subst (λ (l : List CellData). ReadsSame new (put ++ l)) (sym (shown.parts place x at).cells) reads) k s (can_same form es v place k s put cells same can)

    pub repair_steps : TableSteps form event es v es (cells_data place new v) hs
    repair_steps = table_regions form es v hs shown.kept event (cells_data place new v) group_steps (λ i r. no_birth k s (nat_eq place i) ((index (get_or v.indexes place no_part).id).owns r k)) refl
        (λ i l. same_field v.indexes place new can.there (λ (p : IndexPart). p.id) refl i) (λ i l. same_field v.indexes place new can.there (λ (p : IndexPart). p.birth) refl i)

module _ {D : Type 0} (d : Ghosts D) (g g' : Group) (disk disk' : D) (place : ℕ) (k : List ℕ) (s : ℕ) (cells : List CellData) (due : IsRepair g place k s cells)
    (b : Base) (index : ℕ → IndexForm) (es : List Entry) (v : GroupData) (hs : List HeldBatch) (tallied : IsTallied b es g hs) (shown : IsShownBy b index es g v hs) (told : IsToldBy b index es g v) (w : WroteRepair d g g' disk disk' place cells) where
  abbrev fixed : GroupData
  fixed = cells_data place (read_of w.region) v

  inside : place < length v.indexes
  inside = there g place k s cells due b index es v hs tallied shown told

  pub repaired_steps : TableSteps (form_of b index g) (λ i r. at_index place i (row_event (Fix k s) ((index (get_or v.indexes place no_part).id).owns r k))) es v es fixed hs
  repaired_steps = repair_steps g place k s cells due b index es v hs tallied shown told w.index w.step.index w.wrote.hands.cells w.wrote.hands.handed.reads (read_of w.region) w.wrote.written.reads

  pub repaired_shown : IsShownBy b index es g' fixed hs
  repaired_shown = record {
    kept = subst (λ (t : Table). TableKept (table_form b t.id index (row_form t)) es fixed hs) (sym w.step.table) repaired_steps.kept;
    rows = shown.rows ∙ ap (λ (r : Region). read_of r) (sym w.step.rows);
    count = length-set v.indexes place (with_cells (read_of w.region) (get_or v.indexes place no_part)) ∙ (shown.count ∙ sym (ap (λ (l : List IndexRegion). length l) w.step.indexes ∙ length-set g.indexes.items place (record w.index { region = w.region })));
    parts = parts_now g g' place w.index w.region w.step v inside shown.parts;
    forms = forms_now g g' place w.index w.region w.step v inside index shown.forms;
  }

  pub repaired_told : IsToldBy b index es g' fixed
  repaired_told = told_now g g' place w.index w.region w.step v inside b index es w.wrote.hands.writes.horizon told
