-- What is due in the world of a version's row is due by the trail.
use Rattle.std.proofs.Common.{◌≡◌, ℕ, zero, suc, ◌<◌, max, Bool, true, false, cond, not, ◌&&◌, ◌||◌, Option, Some, None, List, get_or, refl, ap, sym, ◌∙◌, subst, arith}
use Rattle.std.specs.Prelude.{is_some, nat_eq, nat_lt, slice_get}
use Rattle.std.specs.Cmp.Lexicographic.{pointwise}
use Rattle.std.proofs.lemmas.Bool.{and_parts, ltb-true}
use Rattle.px_calls.specs.declared.query.Doubt.{Doubt}
use Rattle.px_calls.specs.declared.query.Point.{Point}
use Rattle.px_calls.specs.declared.query.Verdict.{Verdict as Left}
use Rattle.px_calls.specs.declared.query.Verdict.TheVariants as verdicts
use Rattle.px_cells.specs.Contents.{value_at}
use Rattle.px_forms.specs.Indexes.{IndexForm, shape_at}
use Rattle.px_group.specs.Group.{IsShownBy, IsTallied, form_of}
use Rattle.px_group.specs.declared.group.Group.{Group}
use Rattle.px_group.specs.declared.group.IndexRegion.{IndexRegion}
use Rattle.px_groupworld.specs.Group.{GroupData, GroupKept, indexed_at, no_part, shape_in, world_in}
use Rattle.px_groupworld.proofs.Entries.{rows_of_group}
use Rattle.px_history.specs.History.{History}
use Rattle.px_history.specs.Rows.{RowBatch, Tied, fate_by, row_as, row_in, state_by}
use Rattle.px_history.proofs.Changes.{written-counted}
use Rattle.px_indexed.specs.Worlds.{history_at}
use Rattle.px_indexed.proofs.Looks.{vis_is}
use Rattle.px_indexrow.specs.Form.{included_at, included_bytes, index_form, key_of_state, owns, row_of_index}
use Rattle.px_indexrow.specs.Verdicts.{verdict_of}
use Rattle.px_indexrow.specs.declared.doubt.Repair.{Repair}
use Rattle.px_indexrow.specs.declared.doubt.Repair.TheVariants as repairs
use Rattle.px_looks.specs.Found.{at_key}
use Rattle.px_looks.specs.Versions.{value_seen}
use Rattle.px_openbatches.specs.Pending.{HeldBatch}
use Rattle.px_openbatches.proofs.Flags.{has_is_some}
use Rattle.px_region.specs.Region.{read_of}
use Rattle.px_rows.specs.Spelled.{row_form}
use Rattle.px_shown.specs.Told.{is_key_in}
use Rattle.px_shown.proofs.Owners.{owner_owns}
use Rattle.px_trail.specs.Batches.{Batch, batch_of, change_of, has, rows_of, unwritten}
use Rattle.px_trail.specs.States.{state_of}
use Rattle.px_trail.specs.Trail.{Base}
use Rattle.px_trail.specs.declared.entry.Entry.{Entry}
use Rattle.px_trail.proofs.Orders.{filter-has, has-filter}
use Rattle.px_values.specs.States.{RowState, Shape as RowShape}
use Rattle.px_values.specs.declared.change.What.{What}
use Rattle.px_values.specs.declared.row.Value.{Value}
use Rattle.px_world.specs.Events.{Leave, ToVerify, ToRetire, ToErase, Verdict, due}
use Rattle.px_world.specs.Shape.{all_below, has_key, same_cell, shows}
use Rattle.px_world.specs.World.{Fate, Unbegun, Undecided, Written, World, horizon, is_undecided, is_written, st, vis}
use Rattle.px_world.proofs.Told.{all_below-same}
use Rattle.px_reading.specs.Doubts.{IsToldBy, horizon_at}
use Rattle.px_pointreads.specs.Due.{IsDueInWorlds, IsDueOf, IsSeenBelow, due_by_change, due_by_state, due_of_row, floor_at, has_state_values, is_changed_at, is_state_key, is_unwritten_in, verdict_as, verdict_due}
use Rattle.px_pointreads.specs.Points.{IsPartAt}

-- ---- a verdict of the world, as a doubt names it

abbrev pub told_as : Verdict → Left
told_as Leave = verdicts.Leave
told_as ToVerify = verdicts.Verify
told_as ToRetire = verdicts.Retire
told_as ToErase = verdicts.Erase

same_name : (repair : Repair) → verdict_as repair ≡ told_as (verdict_of repair)
same_name repairs.Leave = refl
same_name repairs.Verify = refl
same_name repairs.Retire = refl
same_name repairs.Erase = refl

told_keyed : (n : Bool) → told_as (cond n ToVerify ToRetire) ≡ cond n verdicts.Verify verdicts.Retire
told_keyed true = refl
told_keyed false = refl

-- the cases, where the new key counts only of a written change above the horizon
abbrev by_cases : Bool → Bool → Bool → Bool → Bool → Bool → Bool → Verdict
by_cases u l w n k a f = cond u Leave (cond l (cond w (cond n ToVerify ToRetire) ToErase) (cond (not k) ToRetire (cond a ToVerify (cond f ToErase ToVerify))))

told_cases : (u l w n m k a f : Bool) → (l ≡ true → w ≡ true → n ≡ m) → told_as (by_cases u l w n k a f) ≡ cond u verdicts.Leave (cond l (due_by_change w m) (due_by_state k a f))
told_cases true l w n m k a f h = refl
told_cases false true true n m k a f h = told_keyed n ∙ ap (λ (v : Bool). cond v verdicts.Verify verdicts.Retire) (h refl refl)
told_cases false true false n m k a f h = refl
told_cases false false w n m false a f h = refl
told_cases false false w n m true true f h = refl
told_cases false false w n m true false true h = refl
told_cases false false w n m true false false h = refl

due_cases : (sh : RowShape) (f : IndexForm) (r : List Value) (w : World (List ℕ) RowState (List ℕ)) (k : List ℕ) (s : ℕ)
    → due (shape_at sh f r) w k s ≡ by_cases (is_undecided (w.fate s)) (nat_lt (horizon w) s) (is_written (w.fate s)) (is_key_in k (f.key_of r (w.new s))) (is_key_in k (f.key_of r (st w (horizon w)))) (all_below f.columns (λ c. same_cell (pointwise nat_eq) (vis w k (horizon w) c) (f.col (st w (horizon w)) c))) (nat_lt w.floor s)
unfolding due has_key shows
due_cases sh f r w k s = refl

-- ---- what became of a change

same_truth : (a c : Bool) → (a ≡ true → c ≡ true) → (c ≡ true → a ≡ true) → a ≡ c
same_truth true c f g = sym (f refl)
same_truth false true f g = g refl
same_truth false false f g = refl

both_true : (a c : Bool) → a ≡ true → c ≡ true → (a && c) ≡ true
both_true true c h g = g
both_true false c h g = h

unwritten_is : (x : Batch) (r : List Value) → has (unwritten x) r ≡ (is_some (change_of x.changes r) && not (has x.written r))
unwritten_is x r = same_truth (has (unwritten x) r) (is_some (change_of x.changes r) && not (has x.written r))
    (λ h. (let z = has-filter (λ y. not (has x.written y)) (rows_of x.changes) r h in both_true (is_some (change_of x.changes r)) (not (has x.written r)) (sym (has_is_some x.changes r) ∙ z.0) z.1))
    (λ h. (let z = and_parts (is_some (change_of x.changes r)) (not (has x.written r)) h in filter-has (λ y. not (has x.written y)) (rows_of x.changes) r (has_is_some x.changes r ∙ z.0) z.1))

none_undecided : (c : Bool) → is_undecided (cond c Written Unbegun) ≡ false
none_undecided true = refl
none_undecided false = refl

unless_written : (v : Bool) → is_undecided (cond v Written Undecided) ≡ not v
unless_written true = refl
unless_written false = refl

change_undecided : (c : Bool) (o : Option What) (v e : Bool) → ((q : RowBatch) → row_as o v e ≡ Some q → c ≡ false) → is_undecided (cond c Written (fate_by (row_as o v e))) ≡ (is_some o && not v)
change_undecided c None v e fresh = none_undecided c
change_undecided c (Some w) v e fresh = ap (λ (u : Bool). is_undecided (cond u Written (cond v Written Undecided))) (fresh (record { what = w; written = v; ended = e }) refl) ∙ unless_written v

batch_undecided : (c : Bool) (o : Option Batch) (r : List Value) → ((q : RowBatch) → row_in o r ≡ Some q → c ≡ false) → is_undecided (cond c Written (fate_by (row_in o r))) ≡ is_unwritten_in o r
batch_undecided c None r fresh = none_undecided c
batch_undecided c (Some x) r fresh = change_undecided c (change_of x.changes r) (has x.written r) x.ended fresh ∙ sym (unwritten_is x r)

or_written : (c : Bool) (f : Fate) → is_written (cond c Written f) ≡ (c || is_written f)
or_written true f = refl
or_written false f = refl

-- ---- by the trail

module _ (b : Base) (index : ℕ → IndexForm) (es : List Entry) (g : Group) (v : GroupData) (hs : List HeldBatch) (tallied : IsTallied b es g hs) (shown : IsShownBy b index es g v hs) (told : IsToldBy b index es g v)
    (place : ℕ) (x : IndexRegion) (at : slice_get g.indexes.items place ≡ Some x) (r : List Value) where
  abbrev t : ℕ
  t = g.table.id.0

  abbrev w : World (List ℕ) RowState (List ℕ)
  w = world_in (form_of b index g) es v place r

  abbrev history : History RowState
  history = history_at (row_form g.table).shape b es t r

  kept : GroupKept (form_of b index g) es v
  kept = shown.kept.group

  tie : Tied (row_form g.table).shape b es t r history
  tie = (rows_of_group (form_of b index g) es v kept).tied r

  form : index (get_or v.indexes place no_part).id ≡ index_form g.table x.index
  form = ap index (shown.parts place x at).id ∙ shown.forms place x at

  high : v.high ≡ g.horizon
  high = sym kept.high ∙ tallied.horizon

  horizon_is : horizon w ≡ horizon_at g x
  horizon_is = (λ i. max ((shown.parts place x at).birth i) (high i))

  floor_is : w.floor ≡ floor_at x
  floor_is = (λ i. max ((shown.parts place x at).birth i) (told.own place x at i))

  undecided_is : (s : ℕ) → is_undecided (w.fate s) ≡ is_unwritten_in (batch_of t s es) r
  undecided_is s = ap is_undecided (tie.fates s) ∙ batch_undecided (b.changed t r s) (batch_of t s es) r (λ q e. (tie.fresh s q e).1)

  changed_is : (s : ℕ) → is_written (w.fate s) ≡ is_changed_at b es t r s
  changed_is s = ap is_written (tie.fates s) ∙ or_written (b.changed t r s) (fate_by (row_in (batch_of t s es) r)) ∙ ap (λ (c : Bool). b.changed t r s || c) (sym (tie.writes s))

  state_is : (p : ℕ) → st w p ≡ state_of b es t r p
  state_is p = tie.states p ∙ ap (λ (sh : RowShape). state_by sh b es t r p) (sym kept.shape)

  new_is : (s : ℕ) → 0 < s → is_written (w.fate s) ≡ true → w.new s ≡ state_of b es t r s
  new_is zero n e = absurd (omega (arith, n))
  new_is (suc p) n e = sym (written-counted history p e) ∙ state_is (suc p)

  module _ (k : List ℕ) (mine : owns g.table x.index r k ≡ true) where
    value_is : (c : ℕ) → c < (index_form g.table x.index).columns → vis w k (horizon_at g x) c ≡ value_seen (at_key (value_at (read_of x.region)) k) (suc (suc (included_at x.index c))) (horizon_at g x)
    value_is c l =
        vis_is (row_form g.table).shape b es t v.high (indexed_at (form_of b index g) v place) r k (ap (λ (z : IndexForm). z.owns r k) form ∙ mine) c (subst (λ (z : IndexForm). c < z.columns) (sym form) l) (horizon_at g x)
        ∙ (λ i. value_seen (at_key (value_at ((shown.parts place x at).cells i)) k) ((form i).place c) (horizon_at g x))

    values_are : all_below (index_form g.table x.index).columns (λ c. same_cell (pointwise nat_eq) (vis w k (horizon_at g x) c) (included_bytes g.table x.index (state_of b es t r (horizon_at g x)) c)) ≡ has_state_values g x k (state_of b es t r (horizon_at g x))
    values_are = all_below-same (index_form g.table x.index).columns (λ c. same_cell (pointwise nat_eq) (vis w k (horizon_at g x) c) (included_bytes g.table x.index (state_of b es t r (horizon_at g x)) c))
        (λ c. same_cell (pointwise nat_eq) (value_seen (at_key (value_at (read_of x.region)) k) (suc (suc (included_at x.index c))) (horizon_at g x)) (included_bytes g.table x.index (state_of b es t r (horizon_at g x)) c))
        (λ c l. ap (λ (o : Option (List ℕ)). same_cell (pointwise nat_eq) o (included_bytes g.table x.index (state_of b es t r (horizon_at g x)) c)) (value_is c l))

    -- the same tests of the world with the index's own form, at the horizon of table and index
    abbrev tested : ℕ → Verdict
    tested s = by_cases (is_unwritten_in (batch_of t s es) r) (nat_lt (horizon_at g x) s) (is_changed_at b es t r s) (is_key_in k (key_of_state g.table x.index r (w.new s))) (is_state_key g x r (state_of b es t r (horizon_at g x)) k) (has_state_values g x k (state_of b es t r (horizon_at g x))) (nat_lt (floor_at x) s)

    abbrev with_form : IndexForm → ℕ → ℕ → Verdict
    with_form f h s = by_cases (is_undecided (w.fate s)) (nat_lt h s) (is_written (w.fate s)) (is_key_in k (f.key_of r (w.new s))) (is_key_in k (f.key_of r (st w h))) (all_below f.columns (λ c. same_cell (pointwise nat_eq) (vis w k h c) (f.col (st w h) c))) (nat_lt w.floor s)

    abbrev with_state : RowState → ℕ → Verdict
    with_state o s = by_cases (is_undecided (w.fate s)) (nat_lt (horizon_at g x) s) (is_written (w.fate s)) (is_key_in k (key_of_state g.table x.index r (w.new s))) (is_key_in k (key_of_state g.table x.index r o)) (all_below (index_form g.table x.index).columns (λ c. same_cell (pointwise nat_eq) (vis w k (horizon_at g x) c) (included_bytes g.table x.index o c))) (nat_lt w.floor s)

    test_form : (s : ℕ) → with_form (index (get_or v.indexes place no_part).id) (horizon w) s ≡ with_form (index_form g.table x.index) (horizon_at g x) s
    test_form s = (λ i. with_form (form i) (horizon_is i) s)

    test_state : (s : ℕ) → with_form (index_form g.table x.index) (horizon_at g x) s ≡ with_state (state_of b es t r (horizon_at g x)) s
    test_state s = ap (λ (o : RowState). with_state o s) (state_is (horizon_at g x))

    test_rest : (s : ℕ) → with_state (state_of b es t r (horizon_at g x)) s ≡ tested s
    test_rest s = (λ i. by_cases (undecided_is s i) (nat_lt (horizon_at g x) s) (changed_is s i) (is_key_in k (key_of_state g.table x.index r (w.new s))) (is_state_key g x r (state_of b es t r (horizon_at g x)) k) (values_are i) (nat_lt (floor_is i) s))

    new_keyed : (s : ℕ) → nat_lt (horizon_at g x) s ≡ true → is_changed_at b es t r s ≡ true → is_key_in k (key_of_state g.table x.index r (w.new s)) ≡ is_state_key g x r (state_of b es t r s) k
    new_keyed s l e = (let above = ltb-true (horizon_at g x) s l in ap (λ (o : RowState). is_key_in k (key_of_state g.table x.index r o)) (new_is s (omega (arith, above)) (changed_is s ∙ e)))

    pub due_told : (s : ℕ) → told_as (due (shape_in (form_of b index g) v place r) w k s) ≡ due_of_row b es g x r k s
    due_told s =
        ap told_as (due_cases (row_form g.table).shape (index (get_or v.indexes place no_part).id) r w k s ∙ (test_form s ∙ (test_state s ∙ test_rest s)))
        ∙ told_cases (is_unwritten_in (batch_of t s es) r) (nat_lt (horizon_at g x) s) (is_changed_at b es t r s) (is_key_in k (key_of_state g.table x.index r (w.new s))) (is_state_key g x r (state_of b es t r s) k) (is_state_key g x r (state_of b es t r (horizon_at g x)) k)
        (has_state_values g x k (state_of b es t r (horizon_at g x))) (nat_lt (floor_at x) s) (new_keyed s)

-- ---- a repair that is due in each world

pub due_is : (b : Base) (index : ℕ → IndexForm) (es : List Entry) (g : Group) (v : GroupData) (hs : List HeldBatch) → IsTallied b es g hs → IsShownBy b index es g v hs → IsToldBy b index es g v
    → (place : ℕ) (x : IndexRegion) → slice_get g.indexes.items place ≡ Some x → (k : List ℕ) (s : ℕ) (repair : Repair) → IsDueInWorlds g place x k s repair → IsSeenBelow g x k s → verdict_as repair ≡ verdict_due b es g x k s
due_is b index es g v hs tallied shown told place x at k s repair due_in seen =
    same_name repair ∙ (ap told_as (due_in b index es v hs tallied shown told seen) ∙ due_told b index es g v hs tallied shown told place x at (row_of_index g.table x.index k) k (owner_owns g.table x.index k) s)

-- the index that a doubt names
pub due_of_doubt : (g : Group) (p : Point) (d : Doubt) (place : ℕ) (x : IndexRegion) → slice_get g.indexes.items place ≡ Some x → IsPartAt p d.index x → (repair : Repair) (k : List ℕ) → k ≡ d.key → IsDueInWorlds g place x k d.stamp repair → IsDueOf g p d repair
due_of_doubt g p d place x at part repair k same due_in = record {
  place = place;
  index = x;
  at = at;
  part = part;
  due_there = subst (λ (z : List ℕ). IsDueInWorlds g place x z d.stamp repair) same due_in;
}
