-- What the cells of a row and the open batches tell of a doubted version is what is due in its world.
use Rattle.std.proofs.Common.{◌≡◌, ℕ, zero, suc, ◌<◌, ◌≤◌, max, Bool, true, false, cond, not, ◌&&◌, ◌||◌, Option, Some, None, List, [], ◌∷◌, length, get_or, map, refl, ap, sym, subst, ◌∙◌, arith}
use Rattle.std.specs.Prelude.{is_some, nat_eq, nat_lt}
use Rattle.std.specs.List.{list_any, slice_get}
use Rattle.std.specs.Cmp.Lexicographic.{pointwise}
use Rattle.std.proofs.lemmas.Bool.{lt-ltb}
use Rattle.px_cells.specs.CellData.{CellData}
use Rattle.px_cells.specs.Contents.{value_at}
use Rattle.px_cells.specs.Rows.{IsRow}
use Rattle.px_forms.specs.Indexes.{IndexForm, shape_at}
use Rattle.px_groupworld.specs.Group.{GroupData, GroupKept, indexed_at, no_part, shape_in, world_in}
use Rattle.px_indexed.proofs.Looks.{vis_is}
use Rattle.px_indexrow.specs.Form.{included_at, index_form, key_of_state, owns}
use Rattle.px_openbatches.specs.Pending.{HeldBatch}
use Rattle.px_phases.specs.Batch.{AreHeldAs}
use Rattle.px_phases.proofs.Left.{left_same}
use Rattle.px_region.specs.Region.{read_of}
use Rattle.px_rows.specs.Keys.{row_key}
use Rattle.px_rows.specs.Spelled.{row_form}
use Rattle.px_tablereads.specs.Pending.{is_left_among}
use Rattle.px_tablereads.proofs.Fates.{new_seen, state_seen, undecided_is}
use Rattle.px_tablereads.proofs.Tells.{written_seen}
use Rattle.px_trail.specs.Trail.{Base}
use Rattle.px_trail.specs.declared.entry.Entry.{Entry}
use Rattle.px_values.specs.States.{RowState, Shape as RowShape}
use Rattle.px_values.specs.declared.row.Value.{Value}
use Rattle.px_world.specs.Events.{Leave, ToVerify, ToRetire, ToErase, due}
use Rattle.px_world.specs.Shape.{all_below, has_key, same_cell, shows}
use Rattle.px_world.specs.World.{Fate, Unbegun, Undecided, Written, Lost, World, horizon, is_undecided, is_written, st, vis}
use Rattle.px_looks.specs.Found.{at_key}
use Rattle.px_looks.specs.Versions.{stamp_seen, value_seen, version_at, version_of_stamp}
use Rattle.px_looks.specs.declared.version.KeyVersion.{KeyVersion}
use Rattle.px_looks.specs.Stamps.{has_stamp}
use Rattle.px_looks.proofs.RowCells.{row_spelled}
use Rattle.px_looks.proofs.Stamped.{stamp_told}
use Rattle.px_group.specs.Group.{IsShownBy, IsTallied, batch_in, form_of}
use Rattle.px_group.specs.declared.group.Begun.{Begun}
use Rattle.px_group.specs.declared.group.Group.{Group}
use Rattle.px_group.specs.declared.group.IndexRegion.{IndexRegion}
use Rattle.px_shown.specs.Told.{is_key_in}
use Rattle.px_reading.specs.Doubts.{IsBelow, IsToldBy, above_verdict, horizon_at, is_left_of, is_pending, version_seen}

-- ---- open batches

pub pending_same : (s : ℕ) (r : List Value) (ms : List Begun) (hs : List HeldBatch) → AreHeldAs (map batch_in ms) hs → list_any (is_left_of s r) ms ≡ is_left_among hs s r
pending_same s r [] [] a = refl
pending_same s r [] (h ∷ hs) a = absurd a
pending_same s r (m ∷ ms) [] a = absurd a
pending_same s r (m ∷ ms) (h ∷ hs) a = (λ i. (nat_eq (sym a.0.stamp i) s && is_some (left_same m.batch h a.0 r i)) || pending_same s r ms hs a.1 i)

-- ---- lists and versions

get_or-map_at : (f : ℕ → Option (List ℕ)) (xs : List ℕ) (i : ℕ) → i < length xs → get_or (map f xs) i None ≡ f (get_or xs i 0)
get_or-map_at f [] i l = absurd (omega arith)
get_or-map_at f (x ∷ xs) zero l = refl
get_or-map_at f (x ∷ xs) (suc i) l = get_or-map_at f xs i (omega arith)

same_version : (a b : KeyVersion) → Some a ≡ Some b → a ≡ b
same_version a b e = cc

-- ---- truth values

same_truth : (a b : Bool) → (a ≡ true → b ≡ true) → (b ≡ true → a ≡ true) → a ≡ b
same_truth true b f g = sym (f refl)
same_truth false true f g = g refl
same_truth false false f g = refl

above_is : (φ : Fate) (stands keyed : Bool) → is_undecided φ ≡ false → is_written φ ≡ stands → (other : Bool) → (φ ≡ Written → other ≡ keyed) → cond (is_undecided φ) Leave (cond (is_written φ) (cond other ToVerify ToRetire) ToErase) ≡ above_verdict stands keyed
above_is Unbegun stands keyed u e other h = ap (λ (b : Bool). above_verdict b keyed) e
above_is Undecided stands keyed u e other h = absurd (let z : ◌≡◌ {A = Bool} true false = u in cc)
above_is Written stands keyed u e other h = (λ i. cond (h refl i) ToVerify ToRetire) ∙ ap (λ (b : Bool). above_verdict b keyed) e
above_is Lost stands keyed u e other h = ap (λ (b : Bool). above_verdict b keyed) e

due_high : (sh : RowShape) (f : IndexForm) (r : List Value) (w : World (List ℕ) RowState (List ℕ)) (k : List ℕ) (s : ℕ) → nat_lt (horizon w) s ≡ true → due (shape_at sh f r) w k s ≡ cond (is_undecided (w.fate s)) Leave (cond (is_written (w.fate s)) (cond (is_key_in k (f.key_of r (w.new s))) ToVerify ToRetire) ToErase)
unfolding due has_key shows
due_high sh f r w k s l =
    ap (λ (c : Bool). cond (is_undecided (w.fate s)) Leave (cond c (cond (is_written (w.fate s)) (cond (is_key_in k (f.key_of r (w.new s))) ToVerify ToRetire) ToErase) (cond (not (is_key_in k (f.key_of r (st w (horizon w))))) ToRetire
    (cond (all_below f.columns (λ c. same_cell (pointwise nat_eq) (vis w k (horizon w) c) (f.col (st w (horizon w)) c))) ToVerify (cond (nat_lt w.floor s) ToErase ToVerify))))) l

module _ (b : Base) (index : ℕ → IndexForm) (es : List Entry) (g : Group) (v : GroupData) (hs : List HeldBatch) (tallied : IsTallied b es g hs) (shown : IsShownBy b index es g v hs) (told : IsToldBy b index es g v)
    (place : ℕ) (x : IndexRegion) (at : slice_get g.indexes.items place ≡ Some x) (r : List Value) (cells : List CellData) (row : IsRow (read_of g.rows) (row_key g.table r) cells) where
  abbrev w : World (List ℕ) RowState (List ℕ)
  w = world_in (form_of b index g) es v place r

  kept : GroupKept (form_of b index g) es v
  kept = shown.kept.group

  pub form : index (get_or v.indexes place no_part).id ≡ index_form g.table x.index
  form = ap index (shown.parts place x at).id ∙ shown.forms place x at

  high : v.high ≡ g.horizon
  high = sym kept.high ∙ tallied.horizon

  pub undecided : (s : ℕ) → is_undecided (w.fate s) ≡ is_pending g s r
  undecided s = undecided_is (form_of b index g) es v kept hs shown.kept.opens.held place r s ∙ sym (pending_same s r g.batches.items hs tallied.batches)

  pub horizon_is : horizon w ≡ horizon_at g x
  horizon_is = (λ i. max ((shown.parts place x at).birth i) (high i))

  -- what is spelled of the row's cells is what all cells spell
  spelled_is : (p : ℕ) → (row_form g.table).spelled (value_at cells) r p ≡ (row_form g.table).spelled (value_at v.cells) r p
  spelled_is p = row_spelled (read_of g.rows) cells (row_key g.table r) row g.table r p refl ∙ ap (λ (l : List CellData). (row_form g.table).spelled (value_at l) r p) (sym shown.rows)

  pub state_is : (p : ℕ) → v.low ≤ p → st w p ≡ (row_form g.table).spelled (value_at cells) r p
  state_is p low = state_seen (form_of b index g) es v kept place r p low ∙ sym (spelled_is p)

  pub written_is : (s : ℕ) → v.low < s → is_written (w.fate s) ≡ has_stamp s cells
  written_is s low =
      let law = written_seen (form_of b index g) es v kept told.told r s low in
      let stamped = stamp_told (read_of g.rows) cells (row_key g.table r) s row in
      same_truth (is_written (w.fate s)) (has_stamp s cells)
      (λ e. (let z = law.0 e in stamped.1 (record { qualifier = z.qualifier; kind = z.kind; value = z.value; is = subst (λ (l : List CellData). value_at l (row_key g.table r) z.qualifier s z.kind ≡ Some z.value) shown.rows z.is })))
      (λ e. (let z = stamped.0 e in law.1 (record { qualifier = z.qualifier; kind = z.kind; value = z.value; is = subst (λ (l : List CellData). value_at l (row_key g.table r) z.qualifier s z.kind ≡ Some z.value) (sym shown.rows) z.is })))

  module _ (key : List ℕ) (s : ℕ) where
    abbrev keyed : Bool
    keyed = is_key_in key (key_of_state g.table x.index r ((row_form g.table).spelled (value_at cells) r s))

    new_keyed : horizon_at g x < s → w.fate s ≡ Written → is_key_in key ((index (get_or v.indexes place no_part).id).key_of r (w.new s)) ≡ keyed
    new_keyed above e =
        let low : v.low ≤ s = (let z = kept.low in let y = high in omega arith) in
        let new = new_seen (form_of b index g) es v kept place r s low (omega arith) e ∙ sym (spelled_is s) in
        (λ i. is_key_in key ((form i).key_of r (new i)))

    -- above the horizon
    pub due_above : is_pending g s r ≡ false → horizon_at g x < s → due (shape_in (form_of b index g) v place r) w key s ≡ above_verdict (has_stamp s cells) keyed
    due_above free above =
        let low : v.low < s = (let z = kept.low in let y = high in omega arith) in
        due_high (row_form g.table).shape (index (get_or v.indexes place no_part).id) r w key s (ap (λ (h : ℕ). nat_lt h s) horizon_is ∙ lt-ltb (horizon_at g x) s above)
        ∙ above_is (w.fate s) (has_stamp s cells) keyed (undecided s ∙ free) (written_is s low) (is_key_in key ((index (get_or v.indexes place no_part).id).key_of r (w.new s))) (new_keyed above)

    -- the values of the version that is seen, at or below the horizon
    values_seen : (version : KeyVersion) → version_seen g x key s ≡ Some version → s ≤ horizon_at g x → version.values ≡ map (λ c. value_seen (at_key (value_at (read_of x.region)) key) (suc (suc c)) (horizon_at g x)) x.index.included
    values_seen version e below =
        let p : max s (horizon_at g x) ≡ horizon_at g x = omega arith in
        by (stamp_seen (at_key (value_at (read_of x.region)) key) 1 (horizon_at g x)) (ap (λ (n : ℕ). version_at (at_key (value_at (read_of x.region)) key) x.index.included n) (sym p) ∙ e)
      where
        by : (o : Option ℕ) → version_of_stamp (at_key (value_at (read_of x.region)) key) x.index.included (horizon_at g x) o ≡ Some version → version.values ≡ map (λ c. value_seen (at_key (value_at (read_of x.region)) key) (suc (suc c)) (horizon_at g x)) x.index.included
        by None e = absurd (let z : ◌≡◌ {A = Option KeyVersion} None (Some version) = e in cc)
        by (Some u) e = ap (λ (z : KeyVersion). z.values) (sym (same_version _ version e))

    module _ (mine : owns g.table x.index r key ≡ true) (there : place < length v.indexes) where
      vis_at : (c : ℕ) → c < length x.index.included → vis w key (horizon_at g x) c ≡ value_seen (at_key (value_at (read_of x.region)) key) (suc (suc (included_at x.index c))) (horizon_at g x)
      vis_at c l =
          vis_is (row_form g.table).shape b es g.table.id.0 v.high (indexed_at (form_of b index g) v place) r key (ap (λ (z : IndexForm). z.owns r key) form ∙ mine) c (subst (λ (z : IndexForm). c < z.columns) (sym form) l) (horizon_at g x)
          ∙ (λ i. value_seen (at_key (value_at ((shown.parts place x at).cells i)) key) ((form i).place c) (horizon_at g x))

      pub below : (version : KeyVersion) → version_seen g x key s ≡ Some version → is_pending g s r ≡ false → s ≤ horizon_at g x → IsBelow g.table x.index r cells key s (horizon_at g x) (max x.index.birth x.region.horizon) version.values w
      below version e free low = record {
        decided = undecided s ∙ free;
        horizon_is = horizon_is;
        floor_is = (λ i. max ((shown.parts place x at).birth i) (told.own place x at i));
        state = state_is (horizon_at g x) (let z = kept.low in let y = high in omega arith);
        values_are = λ c l. (ap (λ (l : List (Option (List ℕ))). get_or l c None) (values_seen version e low)
            ∙ get_or-map_at (λ c. value_seen (at_key (value_at (read_of x.region)) key) (suc (suc c)) (horizon_at g x)) x.index.included c l
            ∙ sym (vis_at c l));
      }
