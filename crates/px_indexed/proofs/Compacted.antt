-- A major compaction of an index's own region.
use Rattle.std.proofs.Common.{◌≡◌, ℕ, ◌<◌, ◌≤◌, max, Bool, true, false, cond, ◌&&◌, ◌⊎◌, Option, Some, None, List, refl, ap, sym, ◌∙◌, subst, inl, inr, arith}
use Rattle.std.specs.Prelude.{is_some, nat_lt, nat_eq}
use Rattle.std.proofs.lemmas.Bool.{cases_lt, cond-true, cond-false, eq-eqb, eqb-true, lt-ltb, ltb-true, le-ltb, and_parts}
use Rattle.std.specs.Prelude.{◌↔◌}
use Rattle.px_cells.specs.declared.kind.CellKind.{CellKind}
use Rattle.px_cells.specs.declared.kind.CellKind.TheVariants.{Put, DeleteFamilyVersion, DeleteColumn, DeleteFamily}
use Rattle.px_values.specs.declared.row.Value.{Value}
use Rattle.px_values.specs.declared.name.TableId.{TableId}
use Rattle.px_trail.specs.declared.entry.Entry.{Entry}
use Rattle.px_cells.specs.CellData.{CellData}
use Rattle.px_values.specs.States.{RowState, Shape as RowShape}
use Rattle.px_trail.specs.Trail.{Base, last_of}
use Rattle.px_world.specs.World.{Absent, World, top, source}
use Rattle.px_world.specs.Events.{Forget, is_at, happens}
use Rattle.px_cells.specs.Contents.{value_at, cell_of}
use Rattle.px_cells.specs.Sight.{seen_at, IsPlainRegion}
use Rattle.px_world.specs.IndexCells.{IndexCells, world_index, with_index, Moves}
use Rattle.px_forms.specs.Indexes.{status_in, shape_at, view_at}
use Rattle.px_indexed.specs.Worlds.{world_at, Indexed}
use Rattle.px_indexed.specs.Kept.{IndexKept}
use Rattle.px_world.proofs.IndexCells.{same_cells, moves_kept}
use Rattle.px_forms.proofs.Views.{lawful_at}
use Rattle.px_indexed.proofs.Looks.{top_seen, source_seen}
use Rattle.px_cells.proofs.Contents.{option_same, value_from_reads, reads_from_value}
use Rattle.px_cells.proofs.NewestSeen.{visible_from, visible_to}
use Rattle.px_cells.specs.Order.{Reads}
use Rattle.px_cells.specs.Visible.{IsVisible}
use Rattle.px_indexed.proofs.Regions.{bare_at}
use Rattle.px_indexed.specs.Kept.{IsCompacted}

-- the cells that a horizon keeps are so
pub compacted_from : (old new : List CellData) (h : ℕ) → IsPlainRegion old → ((c : CellData) → Reads new c ↔ (Reads old c × ((h < c.stamp) ⊎ IsVisible old h c))) → IsCompacted old new h
compacted_from old new h plain keeps = record {
  above = λ k q s d l. option_same (value_at new k q s d) (value_at old k q s d)
      (λ v e. value_from_reads old k q s d v ((keeps (cell_of k q s d v)).0 (reads_from_value new k q s d v e)).0)
      (λ v e. value_from_reads new k q s d v ((keeps (cell_of k q s d v)).1 (reads_from_value old k q s d v e, inl l)));
  puts = λ k q s l. option_same (value_at new k q s Put) (cond (is_at s (seen_at (value_at old) k q h)) (value_at old k q s Put) None)
      (λ v e.
      (let r = (keeps (cell_of k q s Put v)).0 (reads_from_value new k q s Put v e) in
      elim r.1 [
        | inl m ↦ absurd (omega arith)
        | inr m ↦
            (let z = visible_to old plain h k q (cell_of k q s Put v) refl refl m in
            ap (λ o. cond (is_at s o) (value_at old k q s Put) None) z ∙ (cond-true _ _ _ (eq-eqb s s refl) ∙ value_from_reads old k q s Put v r.0))
      ]))
      (λ v e. found k q s v (seen_at (value_at old) k q h) refl e);
  others = λ k q s d l n. none (value_at new k q s d) (λ v e. elim ((keeps (cell_of k q s d v)).0 (reads_from_value new k q s d v e)).1 [ inl m ↦ absurd (omega arith) | inr m ↦ n m.live.put ]);
}
  where
    none : {A : Type 0} (o : Option A) → ((v : A) → o ≡ Some v → ⊥) → o ≡ None
    none None f = refl
    none (Some v) f = absurd (f v refl)

    found : (k : List ℕ) (q s : ℕ) (v : List ℕ) (o : Option ℕ) → seen_at (value_at old) k q h ≡ o → cond (is_at s o) (value_at old k q s Put) None ≡ Some v → value_at new k q s Put ≡ Some v
    found k q s v None p e = cc
    found k q s v (Some u) p e = by (nat_eq s u) refl e
      where
        by : (z : Bool) → nat_eq s u ≡ z → cond z (value_at old k q s Put) None ≡ Some v → value_at new k q s Put ≡ Some v
        by false y e = cc
        by true y e =
            (let same : s ≡ u = eqb-true s u y in
            let w = visible_from old plain h k q s (p ∙ ap Some (sym same)) in
            let x : Some w.0 ≡ Some v = sym w.1.0 ∙ e in
            let x' : w.0 ≡ v = cc in
            value_from_reads new k q s Put v ((keeps (cell_of k q s Put v)).1 (reads_from_value old k q s Put v e, inr (subst (λ (b : List ℕ). IsVisible old h (cell_of k q s Put b)) x' w.1.1))))

-- what stands after a compaction stood before it
pub compacted_stood : (old new : List CellData) (h : ℕ) → IsCompacted old new h → (k : List ℕ) (q s : ℕ) (d : CellKind) (v : List ℕ) → value_at new k q s d ≡ Some v → value_at old k q s d ≡ Some v
compacted_stood old new h is k q s d v e = elim (cases_lt h s) [
  | inl l ↦ sym (is.above k q s d l) ∙ e
  | inr l ↦ low (let m : s ≤ h = omega arith in m) d e
]
  where
    from : (z : Bool) (o : Option (List ℕ)) → cond z o None ≡ Some v → o ≡ Some v
    from true o e = e
    from false o e = cc

    marker : s ≤ h → (d : CellKind) → (d ≡ Put → ⊥) → value_at new k q s d ≡ Some v → value_at old k q s d ≡ Some v
    marker m d n e = (let z : None ≡ Some v = sym (is.others k q s d m n) ∙ e in cc)

    low : s ≤ h → (d : CellKind) → value_at new k q s d ≡ Some v → value_at old k q s d ≡ Some v
    low m Put e = from (is_at s (seen_at (value_at old) k q h)) (value_at old k q s Put) (sym (is.puts k q s m) ∙ e)
    low m d e = marker m d (λ z. cc) e

module _ (sh : RowShape) (b : Base) (es : List Entry) (tid : TableId) (raised : ℕ) (x : Indexed) (new : List CellData) (is : IsCompacted x.cells new raised) (g : IndexKept sh b es tid.0 raised x) where
  abbrev t : ℕ
  t = tid.0

  bare : (k : List ℕ) (s : ℕ) → is_some (value_at x.cells k 1 s DeleteColumn) ≡ false
  bare k s = bare_at x.form (last_of b t es) x.cells g.cells k s

  abbrev small : Indexed
  small = record x { cells = new; kept = max x.birth raised; floor = max x.birth raised }

  module _ (r : List Value) where
    abbrev w : World (List ℕ) RowState (List ℕ)
    w = world_at sh b es t raised x r

    all_absent : {A : Type 0} (u v : Bool) (a : A) → a ≡ cond u a (cond v a a)
    all_absent true v a = refl
    all_absent false true a = refl
    all_absent false false a = refl

    no_and : (u : Bool) → false ≡ (u && false)
    no_and true = refl
    no_and false = refl

    -- a put, by whether its place is the row's
    put_left : {A : Type 0} (read : Option (List ℕ) → A) (none : A) (is_none : read None ≡ none) (k : List ℕ) (q s : ℕ) (v : Bool) (o : Option ℕ) → (v ≡ true → o ≡ seen_at (value_at x.cells) k q raised)
        → cond v (read (value_at new k q s Put)) none ≡ cond (nat_lt raised s) (cond v (read (value_at x.cells k q s Put)) none) (cond (is_at s o) (cond v (read (value_at x.cells k q s Put)) none) none)
    put_left read none is_none k q s false o h = all_absent (nat_lt raised s) (is_at s o) none
    put_left read none is_none k q s true o h = elim (cases_lt raised s) [
      | inl l ↦ ap read (is.above k q s Put l) ∙ sym (cond-true _ _ _ (lt-ltb raised s l))
      | inr l ↦ ap read (is.puts k q s l) ∙ (inner (is_at s (seen_at (value_at x.cells) k q raised)) ∙ (ap (λ y. cond (is_at s y) (read (value_at x.cells k q s Put)) none) (sym (h refl)) ∙ sym (cond-false _ _ _ (le-ltb raised s l))))
    ]
      where
        inner : (z : Bool) → read (cond z (value_at x.cells k q s Put) None) ≡ cond z (read (value_at x.cells k q s Put)) none
        inner true = refl
        inner false = is_none

    marker_left : (k : List ℕ) (q s : ℕ) (d : CellKind) (v : Bool) → (d ≡ Put → ⊥) → (v && is_some (value_at new k q s d)) ≡ (nat_lt raised s && (v && is_some (value_at x.cells k q s d)))
    marker_left k q s d false n = no_and (nat_lt raised s)
    marker_left k q s d true n = elim (cases_lt raised s) [
      | inl l ↦ (let e = lt-ltb raised s l in ap is_some (is.above k q s d l) ∙ sym (ap (λ z. z && is_some (value_at x.cells k q s d)) e))
      | inr l ↦ (let e = le-ltb raised s l in ap is_some (is.others k q s d l n) ∙ sym (ap (λ z. z && is_some (value_at x.cells k q s d)) e))
    ]

    pub compacted_moves : Moves (shape_at sh x.form r) (Some (Forget true)) w (world_at sh b es t raised small r)
    compacted_moves = (
      (refl, tt),
      ap (λ (v : IndexCells (List ℕ) (List ℕ)). with_index (record w { kept = max x.birth raised; floor = max x.birth raised }) v)
          (same_cells (view_at x.form r new) (world_index (happens (shape_at sh x.form r) w (Forget true)))
          (λ k s. put_left status_in Absent refl k 1 s (x.form.owns r k) (top w k raised) (λ o. top_seen sh b es t raised x r k o (bare k) raised))
          (λ k s c. put_left (λ o. o) None refl k (x.form.place c) s (x.form.owns r k && nat_lt c x.form.columns) (source w k c raised) (λ o. (let p = and_parts (x.form.owns r k) (nat_lt c x.form.columns) o in source_seen sh b es t raised x r k p.0 c (ltb-true c x.form.columns p.1) raised)))
          (λ k s c. marker_left k (x.form.place c) s DeleteColumn (x.form.owns r k && nat_lt c x.form.columns) (λ e. cc))
          (λ k s. marker_left k 0 s DeleteFamily (x.form.owns r k) (λ e. cc))
          (λ k s. marker_left k 0 s DeleteFamilyVersion (x.form.owns r k) (λ e. cc))),
    )

  pub index_compacted : IndexKept sh b es t raised small
  index_compacted = record {
    form = g.form;
    birth = g.birth;
    cells = record { each = λ c v. g.cells.each c (compacted_stood x.cells new raised is c.key c.qualifier c.stamp c.kind c.value v) };
    marked = g.marked;
    apart = g.apart;
    kept = λ r. moves_kept (shape_at sh x.form r) (lawful_at sh x.form r g.form) (Some (Forget true)) (world_at sh b es t raised x r) (world_at sh b es t raised small r) (compacted_moves r) (g.kept r);
  }
