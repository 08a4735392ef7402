-- What is due of a version, by what the cells of its row and the open batches of its group tell.
use Rattle.std.proofs.Common.{◌≡◌, ℕ, zero, suc, ◌<◌, ◌≤◌, max, Bool, true, false, Option, Some, None, List, [], ◌∷◌, length, get_or, map, refl, ap, sym, subst, ◌∙◌, arith}
use Rattle.std.specs.Prelude.{◌≢◌, IfSome}
use Rattle.std.specs.List.{list_any, slice_get}
use Rattle.px_cells.specs.CellData.{CellData}
use Rattle.px_cells.specs.Contents.{value_at}
use Rattle.px_cells.specs.Rows.{IsRow}
use Rattle.px_forms.specs.Indexes.{IndexForm, shape_at}
use Rattle.px_groupworld.specs.Group.{GroupData, no_part, shape_in, world_in}
use Rattle.px_indexrow.specs.Form.{IsRightIndex, index_form, key_of_state, owns, row_of_index}
use Rattle.px_indexrow.specs.Verdicts.{verdict_of}
use Rattle.px_indexrow.specs.declared.doubt.Repair.{Repair}
use Rattle.px_keys.specs.Spelling.{Fits}
use Rattle.px_looks.specs.Found.{at_key}
use Rattle.px_looks.specs.Stamps.{has_stamp}
use Rattle.px_looks.specs.Versions.{stamp_seen, value_seen, version_of_stamp}
use Rattle.px_looks.specs.declared.version.KeyVersion.{KeyVersion}
use Rattle.px_openbatches.specs.Pending.{HeldBatch}
use Rattle.px_region.specs.Region.{read_of}
use Rattle.px_rows.specs.Keys.{row_columns, row_key}
use Rattle.px_rows.specs.Spelled.{row_form}
use Rattle.px_shown.specs.Told.{is_key_in, keyed_if}
use Rattle.px_shown.proofs.Owners.{owner_fits, owner_owns}
use Rattle.px_tables.specs.declared.index.Index.{Index}
use Rattle.px_trail.specs.Trail.{Base}
use Rattle.px_trail.specs.declared.entry.Entry.{Entry}
use Rattle.px_values.specs.Limits.{most_key}
use Rattle.px_values.specs.States.{RowState, Shape}
use Rattle.px_values.specs.declared.row.Value.{Value}
use Rattle.px_world.specs.Events.{Leave, due}
use Rattle.px_world.specs.World.{World}
use Rattle.px_group.specs.Group.{IsRightGroup, IsRightPart, IsShownBy, IsTallied, form_of}
use Rattle.px_group.specs.declared.group.Begun.{Begun}
use Rattle.px_group.specs.declared.group.Group.{Group}
use Rattle.px_group.specs.declared.group.IndexRegion.{IndexRegion}
use Rattle.px_reading.specs.Doubts.{IsBelow, IsKeyIn, IsRowOf, IsToldBy, above_verdict, horizon_at, is_left_of, is_pending, version_seen}
use Rattle.px_reading.proofs.Looked.{all_at, got}
use Rattle.px_reading.proofs.Verdicts.{left_due, row_is_of}
use Rattle.px_reading.proofs.Worlds.{below, due_above, undecided, form as form_at}

-- ---- one that is there

pub if_some : {A : Type 0} (Q : A → Type 0) (o : Option A) (a : A) → o ≡ Some a → Q a → IfSome o Q
if_some Q o a e q = subst (λ z. IfSome z Q) (sym e) q

pub from_some : {A : Type 0} (Q : A → Type 0) (o : Option A) (a : A) → o ≡ Some a → IfSome o Q → Q a
from_some Q o a e q = subst (λ z. IfSome z Q) e q

given_some : {A : Type 0} (o : Option A) → (o ≡ None → ⊥) → (a : A) × (o ≡ Some a)
given_some None f = absurd (f refl)
given_some (Some a) f = (a, refl)

there_is : (xs : List IndexRegion) (i : ℕ) → i < length xs → (x : IndexRegion) × (slice_get xs i ≡ Some x)
there_is [] i l = absurd (omega arith)
there_is (x ∷ xs) zero l = (x, refl)
there_is (x ∷ xs) (suc i) l = there_is xs i (omega arith)

pub pending_by : (g : Group) (s : ℕ) (r rows : List Value) (ms : List Begun) (v b : Bool) → rows ≡ r → ms ≡ g.batches.items → v ≡ list_any (is_left_of s rows) ms → v ≡ b → is_pending g s r ≡ b
pending_by g s r rows ms v b same of is e = (λ i. list_any (is_left_of s (sym same i)) (sym of i)) ∙ sym is ∙ e

-- ---- what the calls need of the row

module _ (g : Group) (right : IsRightGroup g) (place : ℕ) (there : place < length g.indexes.items) (k : List ℕ) (key : (x : IndexRegion) → slice_get g.indexes.items place ≡ Some x → IsKeyIn g x k) (r : List Value) where
  pub short_there : length k ≤ most_key
  short_there = (let z = there_is g.indexes.items place there in (key z.0 z.1).1.short)

  module _ (row : (x : IndexRegion) → slice_get g.indexes.items place ≡ Some x → r ≡ row_of_index g.table x.index k) where
    pub fits_there : Fits (row_columns g.table) r
    fits_there = (let z = there_is g.indexes.items place there in subst (Fits (row_columns g.table)) (sym (row z.0 z.1)) (owner_fits g.table z.0.index k (key z.0 z.1)))

    pub row_there : (cells : List CellData) → IsRow (read_of g.rows) (row_key g.table r) cells → IsRowOf g.table r cells
    row_there cells is = row_is_of g.table r cells (read_of g.rows) right.table right.rows fits_there is

module _ (g : Group) (place : ℕ) (d part : IndexRegion) (is : part ≡ get_or g.indexes.items place d) where
  pub part_is : (x : IndexRegion) → slice_get g.indexes.items place ≡ Some x → part ≡ x
  part_is x at = is ∙ got g.indexes.items place x d at

  pub owner_there : (k : List ℕ) (r : List Value) → r ≡ row_of_index g.table part.index k → (x : IndexRegion) → slice_get g.indexes.items place ≡ Some x → r ≡ row_of_index g.table x.index k
  owner_there k r e x at = e ∙ ap (λ (y : IndexRegion). row_of_index g.table y.index k) (part_is x at)

  pub right_there : IsRightGroup g → place < length g.indexes.items → IsRightIndex g.table part.index
  right_there right there = (subst (IsRightPart g.table) (sym is) (all_at (IsRightPart g.table) g.indexes.items right.parts place there d)).index

  pub state_there : (r : List Value) (k : List ℕ) (state row : RowState) → row ≡ keyed_if g.table part.index r k state → (x : IndexRegion) → slice_get g.indexes.items place ≡ Some x → row ≡ keyed_if g.table x.index r k state
  state_there r k state row e x at = e ∙ ap (λ (y : IndexRegion). keyed_if g.table y.index r k state) (part_is x at)

  pub count_there : (there : place < length g.indexes.items) (k : List ℕ) (s : ℕ) (seen : Option KeyVersion) → ((x : IndexRegion) → slice_get g.indexes.items place ≡ Some x → seen ≡ version_seen g x k s) → IfSome seen (λ version. length version.values ≡ length part.index.included)
  count_there there k s seen f =
      let z = there_is g.indexes.items place there in
      subst (λ (y : IndexRegion). IfSome seen (λ version. length version.values ≡ length y.index.included)) (sym (part_is z.0 z.1))
      (subst (λ (o : Option KeyVersion). IfSome o (λ version. length version.values ≡ length z.0.index.included)) (sym (f z.0 z.1)) (count z.0 (stamp_seen (at_key (value_at (read_of z.0.region)) k) 1 (max s (horizon_at g z.0)))))
    where
      mapped : (h : ℕ → Option (List ℕ)) (xs : List ℕ) → length (map h xs) ≡ length xs
      mapped h [] = refl
      mapped h (x ∷ xs) = ap suc (mapped h xs)

      count : (x : IndexRegion) (o : Option ℕ) → IfSome (version_of_stamp (at_key (value_at (read_of x.region)) k) x.index.included (max s (horizon_at g x)) o) (λ version. length version.values ≡ length x.index.included)
      count x None = tt
      count x (Some u) = mapped (λ c. value_seen (at_key (value_at (read_of x.region)) k) (suc (suc c)) (max s (horizon_at g x))) x.index.included

-- ---- what is due in the group's world

module _ (b : Base) (index : ℕ → IndexForm) (es : List Entry) (g : Group) (v : GroupData) (hs : List HeldBatch) (tallied : IsTallied b es g hs) (shown : IsShownBy b index es g v hs) (told : IsToldBy b index es g v)
    (place : ℕ) (x : IndexRegion) (at : slice_get g.indexes.items place ≡ Some x) (r : List Value) (cells : List CellData) (row : IsRow (read_of g.rows) (row_key g.table r) cells) (k : List ℕ) (s : ℕ) (repair : Repair) where
  abbrev w : World (List ℕ) RowState (List ℕ)
  w = world_in (form_of b index g) es v place r

  abbrev Is : Type 0
  Is = verdict_of repair ≡ due (shape_in (form_of b index g) v place r) w k s

  pub by_left : verdict_of repair ≡ Leave → is_pending g s r ≡ true → Is
  by_left e p = e ∙ left_due (row_form g.table).shape (index (get_or v.indexes place no_part).id) r w k s (undecided b index es g v hs tallied shown told place x at r cells row s ∙ p)

  module _ (part : IndexRegion) (part_at : part ≡ x) (h : ℕ) (h_is : h ≡ max part.index.birth g.horizon) (free : is_pending g s r ≡ false) where
    horizon_same : h ≡ horizon_at g x
    horizon_same = h_is ∙ ap (λ (y : IndexRegion). horizon_at g y) part_at

    pub by_above : h < s → verdict_of repair ≡ above_verdict (has_stamp s cells) (is_key_in k (key_of_state g.table part.index r ((row_form g.table).spelled (value_at cells) r s))) → Is
    by_above l e =
        e ∙ ap (λ (y : IndexRegion). above_verdict (has_stamp s cells) (is_key_in k (key_of_state g.table y.index r ((row_form g.table).spelled (value_at cells) r s)))) part_at
        ∙ sym (due_above b index es g v hs tallied shown told place x at r cells row k s free (subst (λ (n : ℕ). n < s) horizon_same l))

    module _ (owner : r ≡ row_of_index g.table x.index k) (seen : Option KeyVersion) (seen_is : seen ≡ version_seen g x k s) (stands : s ≤ horizon_at g x → seen ≢ None) (l : s ≤ h) (floor : ℕ) (floor_is : floor ≡ max part.index.birth part.region.horizon) where
      low : s ≤ horizon_at g x
      low = subst (λ (n : ℕ). s ≤ n) horizon_same l

      mine : owns g.table x.index r k ≡ true
      mine = ap (λ (z : List Value). owns g.table x.index z k) owner ∙ owner_owns g.table x.index k

      inside : place < length v.indexes
      inside = subst (λ (n : ℕ). place < n) (sym shown.count) (within g.indexes.items place at)
        where
          within : (xs : List IndexRegion) (i : ℕ) → slice_get xs i ≡ Some x → i < length xs
          within [] i e = absurd (let z : None ≡ Some x = e in cc)
          within (y ∷ xs) zero e = omega arith
          within (y ∷ xs) (suc i) e = (let z = within xs i e in omega arith)

      abbrev Told : Index → ℕ → ℕ → KeyVersion → Type 0
      Told i n m version = (sh : Shape) (w : World (List ℕ) RowState (List ℕ)) → IsBelow g.table i r cells k s n m version.values w → verdict_of repair ≡ due (shape_at sh (index_form g.table i) r) w k s

      pub by_below : IfSome seen (Told part.index h floor) → Is
      by_below judged =
          let z = given_some seen (stands low) in
          let found : Told part.index h floor z.0 = from_some (Told part.index h floor) seen z.0 z.1 judged in
          let at_x : Told x.index (horizon_at g x) (max x.index.birth x.region.horizon) z.0 = (subst (λ (n : ℕ). Told x.index (horizon_at g x) n z.0) (floor_is ∙ ap (λ (y : IndexRegion). max y.index.birth y.region.horizon) part_at)
          (subst (λ (n : ℕ). Told x.index n floor z.0) horizon_same (subst (λ (y : IndexRegion). Told y.index h floor z.0) part_at found))) in
          at_x (row_form g.table).shape w (below b index es g v hs tallied shown told place x at r cells row k s mine inside z.0 (sym seen_is ∙ z.1) free low)
          ∙ ap (λ (f : IndexForm). due (shape_at (row_form g.table).shape f r) w k s) (sym (form_at b index es g v hs tallied shown told place x at r cells row))
