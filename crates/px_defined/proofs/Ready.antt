-- An index of a table without rows may become one that queries read.
use Rattle.std.proofs.Common.{◌≡◌, ℕ, ◌<◌, ◌≤◌, Bool, true, false, cond, not, inl, inr, Option, Some, None, List, [], get_or, length, refl, ap, sym, ◌∙◌, subst, arith}
use Rattle.std.proofs.lemmas.Bool.{cases_Bool, false≢true}
use Rattle.px_values.specs.declared.row.Value.{Value}
use Rattle.px_values.specs.declared.change.What.{What}
use Rattle.px_trail.specs.declared.entry.Entry.{Entry}
use Rattle.px_trail.specs.Batches.{Batch, IsDecided, batch_of, change_of, has, rows_of, unwritten}
use Rattle.px_trail.specs.States.{state_of}
use Rattle.px_trail.specs.Trail.{horizon_of}
use Rattle.px_trail.proofs.Orders.{filter-has, has-change}
use Rattle.px_history.specs.Rows.{fate_by, row_as, row_in}
use Rattle.px_world.specs.Events.{Comes, Ready}
use Rattle.px_world.specs.Shape.{has_key, is_key_there}
use Rattle.px_world.specs.World.{Fate, Written, is_undecided, st}
use Rattle.px_indexed.specs.Worlds.{history_at}
use Rattle.px_groupworld.specs.Group.{GroupData, GroupKept, TableForm, no_part, shape_in, world_in}
use Rattle.px_groupworld.proofs.Entries.{rows_of_group}
use Rattle.px_groupworld.proofs.Queries.{state_is}
use Rattle.px_forms.specs.Indexes.{IndexForm}
use Rattle.px_openbatches.specs.Pending.{HeldBatch}
use Rattle.px_trail.specs.Trail.{Base}
use Rattle.px_group.specs.Group.{IsShownBy, form_of}
use Rattle.px_group.specs.declared.group.Group.{Group}
use Rattle.px_defined.specs.Defined.{HasActive}
use Rattle.px_defined.proofs.Lists.{within}

some_of : (o : Option Batch) (r : List Value) → is_undecided (fate_by (row_in o r)) ≡ true → (x : Batch) × ((o ≡ Some x) × (has (unwritten x) r ≡ true))
some_of None r k = absurd (false≢true k)
some_of (Some x) r k = (x, (refl, by (change_of x.changes r) (has x.written r) refl refl k))
  where
    by : (c : Option What) (v : Bool) → change_of x.changes r ≡ c → has x.written r ≡ v → is_undecided (fate_by (row_as c v x.ended)) ≡ true → has (unwritten x) r ≡ true
    by None v ec ev q = absurd (false≢true q)
    by (Some z) true ec ev q = absurd (false≢true q)
    by (Some z) false ec ev q = filter-has (λ y. not (has x.written y)) (rows_of x.changes) r (has-change x.changes r z ec) (ap not ev)

by_base : (v : Bool) (g : Fate) → is_undecided (cond v Written g) ≡ true → is_undecided g ≡ true
by_base true g q = absurd (false≢true q)
by_base false g q = q

none_has : (r : List Value) → has [] r ≡ false
unfolding has
none_has r = refl

module _ (f : TableForm) (es : List Entry) (v : GroupData) (k : GroupKept f es v) (p : ℕ) (decided : IsDecided es f.id.0 p) (r : List Value) where
  no_undecided : (s : ℕ) → s ≤ p → is_undecided ((history_at f.rows.shape f.base es f.id.0 r).fate s) ≡ false
  no_undecided s l = elim (cases_Bool (is_undecided ((history_at f.rows.shape f.base es f.id.0 r).fate s))) [
    | inl q ↦
        (let z = some_of (batch_of f.id.0 s es) r (by_base (f.base.changed f.id.0 r s) (fate_by (row_in (batch_of f.id.0 s es) r)) (ap is_undecided (sym (((rows_of_group f es v k).tied r).fates s)) ∙ q)) in
        absurd (false≢true (sym (none_has r) ∙ (ap (λ (rows : List (List Value)). has rows r) (sym (decided.each s z.0 l z.1.0)) ∙ z.1.1))))
    | inr q ↦ q
  ]

  state_now : st (world_in f es v 0 r) p ≡ state_of f.base es f.id.0 r p
  state_now = ((rows_of_group f es v k).tied r).states p ∙ state_is f es v k r p

module _ (f : TableForm) (es : List Entry) (v : GroupData) (k : GroupKept f es v) (i : ℕ) (l : i < length v.indexes) where
  no_key : (r : List Value) (key : List ℕ) → has_key (shape_in f v i r) key None ≡ false
  unfolding has_key
  no_key r key = ap (λ (o : Option (List ℕ)). is_key_there (shape_in f v i r).same_key key o) ((k.indexes i l).form.nothing r)

  -- at its birth all is written, and no row has a state that is still read
  pub comes_ready : horizon_of f.base f.id.0 es ≤ (get_or v.indexes i no_part).birth → IsDecided es f.id.0 (get_or v.indexes i no_part).birth → ((r : List Value) → state_of f.base es f.id.0 r (get_or v.indexes i no_part).birth ≡ None) → (r : List Value) → Comes (shape_in f v i r) (world_in f es v i r) Ready
  comes_ready low decided none r =
      let birth = (get_or v.indexes i no_part).birth in (
        (let h = k.high in omega arith),
        (
          (λ s m. no_undecided f es v k birth decided r s m),
          λ key has_it. absurd (false≢true (sym (no_key r key) ∙ (ap (has_key (shape_in f v i r) key) (sym (state_now f es v k birth decided r ∙ none r)) ∙ has_it))),
        ),
      )

module _ (b : Base) (es : List Entry) (g g' : Group) (place : ℕ) (hs : List HeldBatch) (a : HasActive g g' place) (index : ℕ → IndexForm) (v : GroupData) (shown : IsShownBy b index es g v hs) where
  birth_is : (get_or v.indexes place no_part).birth ≡ a.index.index.birth
  birth_is = (shown.parts place a.index a.is).birth

  pub active_comes : horizon_of b g.table.id.0 es ≤ a.index.index.birth → IsDecided es g.table.id.0 a.index.index.birth → ((r : List Value) → state_of b es g.table.id.0 r a.index.index.birth ≡ None) → (r : List Value) → Comes (shape_in (form_of b index g) v place r) (world_in (form_of b index g) es v place r) Ready
  active_comes low decided none =
      comes_ready (form_of b index g) es v shown.kept.group place (let l = within g.indexes.items place a.index a.is in let n = shown.count in omega arith)
      (subst (λ (p : ℕ). horizon_of b g.table.id.0 es ≤ p) (sym birth_is) low)
      (subst (λ (p : ℕ). IsDecided es g.table.id.0 p) (sym birth_is) decided)
      (subst (λ (p : ℕ). (r : List Value) → state_of b es g.table.id.0 r p ≡ None) (sym birth_is) none)
