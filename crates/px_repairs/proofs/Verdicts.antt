-- What is judged of a version, by what was read.
use Rattle.std.proofs.Common.{◌≡◌, ℕ, zero, suc, ◌<◌, ◌≤◌, max, Bool, true, false, Option, Some, None, List, [], ◌∷◌, length, refl, ap, sym, subst, ◌∙◌, inl, inr, arith}
use Rattle.std.specs.Prelude.{◌≢◌, ◌↔◌, cond, nat_le, slice_get, get_or}
use Rattle.std.proofs.lemmas.Bool.{cases_Bool, false≢true, le-leb}
use Rattle.std.proofs.lemmas.List.{append-nil}
use Rattle.px_cells.specs.CellData.{CellData}
use Rattle.px_cells.specs.Contents.{cell_of, value_at}
use Rattle.px_cells.specs.Rows.{IsRow}
use Rattle.px_cells.specs.declared.kind.CellKind.TheVariants.{Put}
use Rattle.px_cellshapes.specs.Keys.{AreRightKeys, IsRightIndexCell}
use Rattle.px_cellshapes.proofs.Each.{each_from_all}
use Rattle.px_cellshapes.proofs.Paths.{index_columns_same}
use Rattle.px_cellshapes.proofs.WrittenKeys.{fix_right}
use Rattle.px_forms.specs.Indexes.{IndexForm}
use Rattle.px_groupworld.specs.Group.{GroupData, shape_in, world_in}
use Rattle.px_indexrow.specs.Form.{IsRightIndex, index_columns, index_form, owns, row_of_index}
use Rattle.px_indexrow.specs.Lists.{fix_of}
use Rattle.px_indexrow.specs.Verdicts.{verdict_of}
use Rattle.px_indexrow.specs.declared.doubt.Repair.{Repair}
use Rattle.px_indexrow.specs.declared.doubt.Repair.TheVariants as repairs
use Rattle.px_keptcells.specs.Kept.{laid}
use Rattle.px_keys.specs.Reading.{IsKey}
use Rattle.px_keys.specs.declared.parts.KeyColumn.{KeyColumn}
use Rattle.px_looks.specs.Found.{at_key}
use Rattle.px_looks.specs.Versions.{stamp_seen}
use Rattle.px_looks.specs.declared.version.KeyVersion.{KeyVersion}
use Rattle.px_looks.proofs.Spelling.{seen_stands}
use Rattle.px_openbatches.specs.Pending.{HeldBatch}
use Rattle.px_region.specs.Region.{read_of}
use Rattle.px_rows.specs.Keys.{row_key}
use Rattle.px_rows.specs.Spelled.{row_form}
use Rattle.px_shown.proofs.Owners.{owner_owns}
use Rattle.px_trail.specs.Trail.{Base}
use Rattle.px_trail.specs.declared.entry.Entry.{Entry}
use Rattle.px_values.specs.Limits.{most_key}
use Rattle.px_values.specs.States.{RowState}
use Rattle.px_values.specs.declared.row.Value.{Value}
use Rattle.px_world.specs.Events.{Leave, due}
use Rattle.px_group.specs.Group.{IsRightGroup, IsRightPart, IsShownBy, IsTallied, form_of}
use Rattle.px_group.specs.declared.group.Group.{Group}
use Rattle.px_group.specs.declared.group.IndexRegion.{IndexRegion}
use Rattle.px_batching.proofs.Places.{all_at}
use Rattle.px_reading.specs.Doubts.{IsKeyIn, IsRowOf, IsToldBy, horizon_at, is_pending, version_seen}
use Rattle.px_reading.proofs.Dues.{part_is, row_there}
use Rattle.px_repairs.specs.Repairs.{IsChangeUnderWay, IsRepair, is_doubt, repair_of, stands_in}
use Rattle.px_repairs.proofs.Dues.{can_fix, seen_parts}
use Rattle.px_repairs.proofs.Fitting.{fix_some}

pub there_is : (xs : List IndexRegion) (i : ℕ) → i < length xs → (x : IndexRegion) × (slice_get xs i ≡ Some x)
there_is [] i l = absurd (omega arith)
there_is (x ∷ xs) zero l = (x, refl)
there_is (x ∷ xs) (suc i) l = there_is xs i (omega arith)

-- a version that is seen stands at a key of the index
pub key_seen : (g : Group) → IsRightGroup g → (place : ℕ) (x : IndexRegion) → slice_get g.indexes.items place ≡ Some x → (k : List ℕ) (s : ℕ) → stands_in g x k s ≡ true → IsKeyIn g x k
key_seen g right place x at k s doubt =
    let m : ℕ = max s (horizon_at g x) in
    let parts = seen_parts (at_key (value_at (read_of x.region)) k) x.index.included m s (stamp_seen (at_key (value_at (read_of x.region)) k) 1 m) doubt in
    let value = seen_stands (value_at (read_of x.region)) k 1 m s parts.0 in
    let keyed = ((all_at (IsRightPart g.table) g.indexes.items place x at right.parts).keys.each (cell_of k 1 s Put value.0) value.1).key in
    subst (λ (columns : List KeyColumn). IsKey most_key columns k) (sym (index_columns_same g.table x.index)) keyed

not_leave : (repair : Repair) → repair ≢ repairs.Leave → verdict_of repair ≢ Leave
not_leave repairs.Leave n e = n refl
not_leave repairs.Verify n e = cc
not_leave repairs.Retire n e = cc
not_leave repairs.Erase n e = cc

still_not : (h s : ℕ) (state : RowState) (repair : Repair) → repair ≢ repairs.Leave → repair_of h s state repair ≢ repairs.Leave
still_not h s (Some row) repair n e = n e
still_not h s None repair n e = by (nat_le s h) e
  where
    by : (b : Bool) → cond b repairs.Retire repair ≡ repairs.Leave → ⊥
    by true z = cc
    by false z = n z

-- no row is there where a version at or below the horizon is verified
pub fix_stands : (h s : ℕ) (state : RowState) (repair : Repair) → repair_of h s state repair ≡ repairs.Verify → s ≤ h → state ≢ None
fix_stands h s (Some row) repair e l n = cc
fix_stands h s None repair e l n = by (nat_le s h) (le-leb s h l) e
  where
    by : (b : Bool) → b ≡ true → cond b repairs.Retire repair ≡ repairs.Verify → ⊥
    by true t z = cc
    by false t z = false≢true t

module _ (g : Group) (right : IsRightGroup g) (place : ℕ) (there : place < length g.indexes.items) (k : List ℕ) (key : (x : IndexRegion) → slice_get g.indexes.items place ≡ Some x → IsKeyIn g x k) (s : ℕ)
    (r : List Value) (row : (x : IndexRegion) → slice_get g.indexes.items place ≡ Some x → r ≡ row_of_index g.table x.index k) (cells : List CellData) (is : IsRow (read_of g.rows) (row_key g.table r) cells)
    (seen : Option KeyVersion) (seen_is : (x : IndexRegion) → slice_get g.indexes.items place ≡ Some x → seen ≡ version_seen g x k s) (doubt : is_doubt s seen ≡ true) (repair : Repair) (leave : (repair ≡ repairs.Leave) ↔ (is_pending g s r ≡ true)) where
  x : IndexRegion
  x = (there_is g.indexes.items place there).0

  at : slice_get g.indexes.items place ≡ Some x
  unfolding x
  at = (there_is g.indexes.items place there).1

  stands : stands_in g x k s ≡ true
  stands = ap (is_doubt s) (sym (seen_is x at)) ∙ doubt

  pub under_way : repair ≡ repairs.Leave → IsChangeUnderWay g place k s
  under_way e = record { index = x; at = at; key = key x at; stands = stands; left = ap (is_pending g s) (sym (row x at)) ∙ leave.0 e }

  some : (o : Option KeyVersion) → is_doubt s o ≡ true → o ≢ None
  some None d n = false≢true d
  some (Some v) d n = cc

  module _ (not : repair ≢ repairs.Leave) where
    free : is_pending g s r ≡ false
    free = elim (cases_Bool (is_pending g s r)) [
      | inl e ↦ absurd (not (leave.1 e))
      | inr e ↦ e
    ]

    row_is : IsRowOf g.table r cells
    row_is = row_there g right place there k key r row cells is

    index_right : IsRightIndex g.table x.index
    index_right = (all_at (IsRightPart g.table) g.indexes.items place x at right.parts).index

    mine : owns g.table x.index r k ≡ true
    mine = ap (λ (q : List Value). owns g.table x.index q k) (row x at) ∙ owner_owns g.table x.index k

    columns_key : IsKey most_key (index_columns g.table x.index) k
    columns_key = subst (λ (columns : List KeyColumn). IsKey most_key columns k) (index_columns_same g.table x.index) (key x at)

    module _ (h : ℕ) (h_is : h ≡ horizon_at g x) where
      abbrev state : RowState
      state = (row_form g.table).spelled (value_at cells) r h

      abbrev list : List CellData
      list = fix_of (index_form g.table x.index) h state k s (verdict_of (repair_of h s state repair))

      shape : AreRightKeys g.table x.index list
      shape = record { each = each_from_all (IsRightIndexCell g.table x.index) list (fix_right g.table x.index h state k s (verdict_of (repair_of h s state repair)) index_right (row_is.typed h) columns_key) }

      repair_list : ((y : IndexRegion) → slice_get g.indexes.items place ≡ Some y → (b : Base) (index : ℕ → IndexForm) (es : List Entry) (v : GroupData) (hs : List HeldBatch) → IsTallied b es g hs → IsShownBy b index es g v hs → IsToldBy b index es g v → (s ≤ horizon_at g y → seen ≢ None) → verdict_of repair ≡ due (shape_in (form_of b index g) v place r) (world_in (form_of b index g) es v place r) k s)
          → IsRepair g place k s list
      repair_list due_is = record {
        index = x;
        at = at;
        key = key x at;
        stands = stands;
        decided = ap (is_pending g s) (sym (row x at)) ∙ free;
        right = shape;
        can = λ b index es v hs tallied shown told. can_fix b index es g v hs tallied shown told place x at index_right r cells is k s mine stands h h_is repair (due_is x at b index es v hs tallied shown told (λ low. some seen doubt)) free shape;
      }

      some_list : 1 ≤ length list
      some_list = fix_some (index_form g.table x.index) h state k s (verdict_of (repair_of h s state repair)) (not_leave (repair_of h s state repair) (still_not h s state repair not))

    -- the repair that was made of a part that is the index's
    pub repair_due : ((y : IndexRegion) → slice_get g.indexes.items place ≡ Some y → (b : Base) (index : ℕ → IndexForm) (es : List Entry) (v : GroupData) (hs : List HeldBatch) → IsTallied b es g hs → IsShownBy b index es g v hs → IsToldBy b index es g v → (s ≤ horizon_at g y → seen ≢ None) → verdict_of repair ≡ due (shape_in (form_of b index g) v place r) (world_in (form_of b index g) es v place r) k s)
        → (d part : IndexRegion) → part ≡ get_or g.indexes.items place d → (h : ℕ) → h ≡ max part.index.birth g.horizon → (kept : List (List CellData))
        → kept ≡ fix_of (index_form g.table part.index) h ((row_form g.table).spelled (value_at cells) r h) k s (verdict_of (repair_of h s ((row_form g.table).spelled (value_at cells) r h) repair)) ∷ []
        → IsRepair g place k s (laid kept) × (1 ≤ length (laid kept))
    repair_due due_is d part part_at h h_is kept kept_is =
        let same : part ≡ x = part_is g place d part part_at x at in
        let horizon : h ≡ horizon_at g x = h_is ∙ ap (λ (y : IndexRegion). horizon_at g y) same in
        let laid_is : laid kept ≡ list h horizon = ap laid kept_is ∙ (append-nil _ ∙ ap (λ (y : IndexRegion). fix_of (index_form g.table y.index) h ((row_form g.table).spelled (value_at cells) r h) k s (verdict_of (repair_of h s ((row_form g.table).spelled (value_at cells) r h) repair))) same) in
        subst (λ (l : List CellData). IsRepair g place k s l × (1 ≤ length l)) (sym laid_is) (repair_list h horizon due_is, some_list h horizon)
