-- The cells that are made of what was read are the repair that is due.
use Rattle.std.proofs.Common.{◌≡◌, ℕ, zero, suc, ◌<◌, ◌≤◌, max, Bool, true, false, cond, not, Option, Some, None, List, [], ◌∷◌, length, get_or, refl, ap, sym, subst, ◌∙◌, inl, inr, arith}
use Rattle.std.specs.Prelude.{nat_eq, nat_le, nat_lt}
use Rattle.std.specs.List.{AllByRecursion, slice_get}
use Rattle.std.specs.Cmp.Lexicographic.{pointwise}
use Rattle.std.proofs.lemmas.Bool.{and_parts, cases_Bool, eqb-true, false≢true}
use Rattle.std.proofs.lemmas.Bool.Decides.{nat_tests}
use Rattle.px_cells.specs.CellData.{CellData}
use Rattle.px_cells.specs.Contents.{cell_of, value_at}
use Rattle.px_cells.specs.declared.kind.CellKind.TheVariants.{Put}
use Rattle.px_cells.specs.Rows.{IsRow}
use Rattle.px_cells.proofs.Among.{all_has, has_from_reads}
use Rattle.px_cellshapes.specs.Keys.{AreRightKeys}
use Rattle.px_cellshapes.proofs.KeysRead.{keys_owned}
use Rattle.px_forms.specs.Indexes.{IndexForm, IsIndexForm, cells_if, shape_at, status_in, view_at}
use Rattle.px_forms.specs.Several.{AreOwned}
use Rattle.px_forms.proofs.RowViews.{others_view}
use Rattle.px_groupworld.specs.Asks.{CanFix}
use Rattle.px_groupworld.specs.Group.{GroupData, GroupKept, indexed_at, no_part, shape_in, world_in}
use Rattle.px_indexed.specs.Kept.{AreIndexCells}
use Rattle.px_indexed.proofs.Looks.{top_seen}
use Rattle.px_indexed.proofs.Regions.{bare_at}
use Rattle.px_indexrow.specs.Form.{IsRightIndex, index_form, owns}
use Rattle.px_indexrow.specs.Lists.{column_cell, column_cells, fix_of}
use Rattle.px_indexrow.specs.Verdicts.{verdict_of}
use Rattle.px_indexrow.specs.declared.doubt.Repair.{Repair}
use Rattle.px_indexrow.specs.declared.doubt.Repair.TheVariants as repairs
use Rattle.px_indexrow.proofs.FixesSeen.{fix_view}
use Rattle.px_indexrow.proofs.KeysHeld.{form_laws, form_placed}
use Rattle.px_looks.specs.Found.{RowContents, at_key}
use Rattle.px_looks.specs.Versions.{is_verified, stamp_seen, version_of_stamp}
use Rattle.px_looks.proofs.Spelling.{seen_stands}
use Rattle.px_openbatches.specs.Pending.{HeldBatch}
use Rattle.px_region.specs.Region.{read_of}
use Rattle.px_rows.specs.Keys.{row_key}
use Rattle.px_rows.specs.Spelled.{row_form}
use Rattle.px_shown.specs.Told.{is_key_in}
use Rattle.px_trail.specs.Trail.{Base, horizon_of, last_of}
use Rattle.px_trail.specs.declared.entry.Entry.{Entry}
use Rattle.px_values.specs.States.{RowState, Shape as RowShape}
use Rattle.px_values.specs.declared.row.Value.{Value}
use Rattle.px_world.specs.Events.{Leave, ToVerify, ToRetire, ToErase, Verdict, due, stands}
use Rattle.px_world.specs.IndexCells.{IndexCells, fix_cells}
use Rattle.px_world.specs.Shape.{all_below, has_key, same_cell, shows}
use Rattle.px_world.specs.World.{Absent, Unverified, Verified, World, horizon, is_undecided, is_written, st, top, vis}
use Rattle.px_group.specs.Group.{IsShownBy, IsTallied, form_of}
use Rattle.px_group.specs.declared.group.Group.{Group}
use Rattle.px_group.specs.declared.group.IndexRegion.{IndexRegion}
use Rattle.px_reading.specs.Doubts.{IsToldBy, horizon_at, is_pending}
use Rattle.px_batching.proofs.Places.{within}
use Rattle.px_reading.proofs.Worlds.{form, horizon_is, state_is, undecided}
use Rattle.px_repairs.specs.Repairs.{is_doubt, repair_of, stands_in}

-- ---- what is due where no row is at the horizon

retired : (sh : RowShape) (f : IndexForm) → IsIndexForm f → (r : List Value) (w : World (List ℕ) RowState (List ℕ)) (k : List ℕ) (s : ℕ) → is_undecided (w.fate s) ≡ false → nat_lt (horizon w) s ≡ false → st w (horizon w) ≡ None → due (shape_at sh f r) w k s ≡ ToRetire
unfolding due has_key shows
retired sh f laws r w k s decided low gone =
    (let none : is_key_in k (f.key_of r (st w (horizon w))) ≡ false = ap (λ (o : RowState). is_key_in k (f.key_of r o)) gone ∙ ap (is_key_in k) (laws.nothing r) in
    (λ i. cond (decided i) Leave
    (cond (low i)
    (cond (is_written (w.fate s)) (cond (is_key_in k (f.key_of r (w.new s))) ToVerify ToRetire) ToErase)
    (cond (not (none i)) ToRetire
    (cond (all_below f.columns (λ c. same_cell (pointwise nat_eq) (vis w k (horizon w) c) (f.col (st w (horizon w)) c))) ToVerify
    (cond (nat_lt w.floor s) ToErase ToVerify))))))

le_not_lt : (s h : ℕ) → nat_le s h ≡ true → nat_lt h s ≡ false
le_not_lt s h e = grind (arith, nat_tests)

-- ---- the cells of a repair

abbrev pub IsStamped : List ℕ → ℕ → CellData → Type 0
IsStamped k s c = (c.key ≡ k) × (c.stamp ≡ s)

column_stamped : (k : List ℕ) (s q : ℕ) (o : Option (List ℕ)) → IsStamped k s (column_cell k s q o)
column_stamped k s q None = (refl, refl)
column_stamped k s q (Some v) = (refl, refl)

columns_stamped : (f : IndexForm) (k : List ℕ) (s : ℕ) (state : RowState) (n : ℕ) → AllByRecursion (IsStamped k s) (column_cells f k s state n)
unfolding column_cells
columns_stamped f k s state zero = tt
columns_stamped f k s state (suc n) = (column_stamped k s (f.place n) (f.col state n), columns_stamped f k s state n)

-- each stands at the key and has the stamp
pub fix_stamped : (f : IndexForm) (h : ℕ) (state : RowState) (k : List ℕ) (s : ℕ) (v : Verdict) → AllByRecursion (IsStamped k s) (fix_of f h state k s v)
fix_stamped f h state k s Leave = tt
fix_stamped f h state k s ToVerify = ((refl, refl), by (nat_lt h s))
  where
    by : (b : Bool) → AllByRecursion (IsStamped k s) (cond b [] (column_cells f k s state f.columns))
    by true = tt
    by false = columns_stamped f k s state f.columns
fix_stamped f h state k s ToRetire = ((refl, refl), tt)
fix_stamped f h state k s ToErase = ((refl, refl), tt)

owned_by : (f : IndexForm) (r : List Value) (k : List ℕ) (s : ℕ) → f.owns r k ≡ true → (cells : List CellData) → AllByRecursion (IsStamped k s) cells → AreOwned f r cells
owned_by f r k s own [] a = tt
owned_by f r k s own (c ∷ cells) a = (subst (λ (z : List ℕ). f.owns r z ≡ true) (sym a.0.0) own, owned_by f r k s own cells a.1)

-- ---- a version that is seen unverified

from_not : (b : Bool) → not b ≡ true → b ≡ false
from_not true e = absurd (false≢true e)
from_not false e = refl

pub seen_parts : (h : RowContents) (columns : List ℕ) (p s : ℕ) (o : Option ℕ) → is_doubt s (version_of_stamp h columns p o) ≡ true → (o ≡ Some s) × (is_verified (h 1 s Put) ≡ false)
seen_parts h columns p s None e = absurd (false≢true e)
seen_parts h columns p s (Some u) e =
    (let parts = and_parts (nat_eq u s) (not (is_verified (h 1 u Put))) e in
    let same : u ≡ s = eqb-true u s parts.0 in
    (ap Some same, ap (λ (n : ℕ). is_verified (h 1 n Put)) (sym same) ∙ from_not (is_verified (h 1 u Put)) parts.1))

unverified : (o : Option (List ℕ)) (v : List ℕ) → o ≡ Some v → is_verified o ≡ false → status_in o ≡ Unverified
unverified None v e n = absurd (let z : ◌≡◌ {A = Option (List ℕ)} None (Some v) = e in cc)
unverified (Some u) v e n = ap (λ (b : Bool). cond b Verified Unverified) n

-- ---- the group's world

module _ (b : Base) (index : ℕ → IndexForm) (es : List Entry) (g : Group) (v : GroupData) (hs : List HeldBatch) (tallied : IsTallied b es g hs) (shown : IsShownBy b index es g v hs) (told : IsToldBy b index es g v)
    (place : ℕ) (x : IndexRegion) (at : slice_get g.indexes.items place ≡ Some x) (right : IsRightIndex g.table x.index) (r : List Value) (cells : List CellData) (row : IsRow (read_of g.rows) (row_key g.table r) cells) (k : List ℕ) (s : ℕ) (mine : owns g.table x.index r k ≡ true) where
  abbrev f : IndexForm
  f = index (get_or v.indexes place no_part).id

  abbrev sh : RowShape
  sh = (row_form g.table).shape

  abbrev world_of : List Value → World (List ℕ) RowState (List ℕ)
  world_of q = world_in (form_of b index g) es v place q

  abbrev w : World (List ℕ) RowState (List ℕ)
  w = world_of r

  abbrev last : ℕ
  last = last_of b g.table.id.0 es

  kept : GroupKept (form_of b index g) es v
  kept = shown.kept.group

  form_same : f ≡ index_form g.table x.index
  form_same = form b index es g v hs tallied shown told place x at r cells row

  laws : IsIndexForm f
  laws = subst IsIndexForm (sym form_same) (form_laws g.table x.index)

  there : place < length v.indexes
  there = (let l = within g.indexes.items place x at in let c = shown.count in omega arith)

  own : f.owns r k ≡ true
  own = ap (λ (z : IndexForm). z.owns r k) form_same ∙ mine

  horizon_same : horizon w ≡ horizon_at g x
  horizon_same = horizon_is b index es g v hs tallied shown told place x at r cells row

  part_cells : (get_or v.indexes place no_part).cells ≡ read_of x.region
  part_cells = (shown.parts place x at).cells

  are : AreIndexCells f last (get_or v.indexes place no_part).cells
  are = (kept.indexes place there).cells

  module _ (doubt : stands_in g x k s ≡ true) where
    abbrev m : ℕ
    m = max s (horizon_at g x)

    parts : (stamp_seen (at_key (value_at (read_of x.region)) k) 1 m ≡ Some s) × (is_verified (value_at (read_of x.region) k 1 s Put) ≡ false)
    parts = seen_parts (at_key (value_at (read_of x.region)) k) x.index.included m s (stamp_seen (at_key (value_at (read_of x.region)) k) 1 m) doubt

    value : (u : List ℕ) × (value_at (read_of x.region) k 1 s Put ≡ Some u)
    value = seen_stands (value_at (read_of x.region)) k 1 m s parts.0

    stands_is : stands w k s
    stands_is =
        let seen : stamp_seen (at_key (value_at (get_or v.indexes place no_part).cells) k) 1 m ≡ Some s = ap (λ (l : List CellData). stamp_seen (at_key (value_at l) k) 1 m) part_cells ∙ parts.0 in
        let top_at : top w k m ≡ Some s = top_seen sh b es g.table.id.0 v.high (indexed_at (form_of b index g) v place) r k own (λ u. bare_at f last (get_or v.indexes place no_part).cells are k u) m ∙ seen in (
          ap (λ (n : ℕ). top w k (max s n)) horizon_same ∙ top_at,
          ap (λ (z : Bool). cond z (status_in (value_at (get_or v.indexes place no_part).cells k 1 s Put)) Absent) own ∙ ap (λ (l : List CellData). status_in (value_at l k 1 s Put)) part_cells
              ∙ unverified (value_at (read_of x.region) k 1 s Put) value.0 value.1 parts.1,
        )

    drawn : s ≤ last
    drawn = (are.each (cell_of k 1 s Put value.0) (ap (λ (l : List CellData). value_at l k 1 s Put) part_cells ∙ value.1)).stamp

    -- ---- its repair

    module _ (h : ℕ) (h_is : h ≡ horizon_at g x) (repair : Repair) (due_is : verdict_of repair ≡ due (shape_in (form_of b index g) v place r) w k s) (free : is_pending g s r ≡ false) where
      abbrev state : RowState
      state = (row_form g.table).spelled (value_at cells) r h

      horizon_here : horizon w ≡ h
      horizon_here = horizon_same ∙ sym h_is

      low : v.low ≤ h
      low = (let a = kept.low in let c : horizon_of b g.table.id.0 es ≡ v.high = kept.high in let d = tallied.horizon in omega arith)

      state_same : st w (horizon w) ≡ state
      state_same = ap (λ (n : ℕ). st w n) horizon_here ∙ state_is b index es g v hs tallied shown told place x at r cells row h low

      decided : is_undecided (w.fate s) ≡ false
      decided = undecided b index es g v hs tallied shown told place x at r cells row s ∙ free

      verdict_same : verdict_of (repair_of h s state repair) ≡ due (shape_in (form_of b index g) v place r) w k s
      verdict_same = by state refl
        where
          by : (o : RowState) → state ≡ o → verdict_of (repair_of h s o repair) ≡ due (shape_in (form_of b index g) v place r) w k s
          by (Some values) e = due_is
          by None e = elim (cases_Bool (nat_le s h)) [
            | inl below ↦ ap (λ (z : Bool). verdict_of (cond z repairs.Retire repair)) below ∙ sym (retired sh f laws r w k s decided (ap (λ (n : ℕ). nat_lt n s) horizon_here ∙ le_not_lt s h below) (state_same ∙ e))
            | inr above ↦ ap (λ (z : Bool). verdict_of (cond z repairs.Retire repair)) above ∙ due_is
          ]

      abbrev list : List CellData
      list = fix_of (index_form g.table x.index) h state k s (verdict_of (repair_of h s state repair))

      abbrev events : List Value → IndexCells (List ℕ) (List ℕ)
      events q = fix_cells (shape_in (form_of b index g) v place q) (horizon (world_of q)) (st (world_of q) (horizon (world_of q))) k s (due (shape_in (form_of b index g) v place q) (world_of q) k s)

      seen_own : view_at f r list ≡ events r
      seen_own =
          ap (λ (z : IndexForm). view_at z r list) form_same
          ∙ fix_view sh (index_form g.table x.index) (form_laws g.table x.index) (form_placed g.table x.index right) r h state k mine s (verdict_of (repair_of h s state repair))
          ∙ (λ i. fix_cells (shape_at sh (sym form_same i) r) (sym horizon_here i) (sym state_same i) k s (verdict_same i))

      seen_by : (q : List Value) (o : Bool) → f.owns q k ≡ o → view_at f q list ≡ cells_if (f.owns q k) (events q)
      seen_by q true e = subst (λ (z : List Value). view_at f z list ≡ cells_if (f.owns z k) (events z)) (laws.apart r q k own e) (seen_own ∙ ap (λ (z : Bool). cells_if z (events r)) (sym own))
      seen_by q false e =
          others_view f laws r q (λ same. false≢true (sym e ∙ (ap (λ (z : List Value). f.owns z k) (sym same) ∙ own))) list (owned_by f r k s own list (fix_stamped (index_form g.table x.index) h state k s (verdict_of (repair_of h s state repair))))
          ∙ ap (λ (z : Bool). cells_if z (events q)) (sym e)

      pub can_fix : AreRightKeys g.table x.index list → CanFix (form_of b index g) es v place k s list
      can_fix shape = record {
        there = there;
        may = λ q o. subst (λ (z : List Value). stands (world_of z) k s × (is_undecided ((world_of z).fate s) ≡ false)) (laws.apart r q k own o) (stands_is, decided);
        reads = λ q. seen_by q (f.owns q k) refl;
        low = subst (λ (z : IndexForm). AreIndexCells z last list) (sym form_same) (keys_owned g.table x.index list shape last (λ c reads.
            (let a = (all_has (IsStamped k s) list c (fix_stamped (index_form g.table x.index) h state k s (verdict_of (repair_of h s state repair))) (has_from_reads list c reads)).1 in let d = drawn in omega arith)));
      }
