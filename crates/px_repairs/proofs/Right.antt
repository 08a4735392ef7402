-- A table stays right, tallies with the trail, and its batches have what their end needs, when a repair is written.
use Rattle.std.proofs.Common.{◌≡◌, ℕ, List, length, slice_get, set, Some, inl, inr, refl, ap, sym, ◌∙◌, subst, arith}
use Rattle.std.specs.List.{AllByRecursion}
use Rattle.std.proofs.Math.ListN.{length-set}
use Rattle.std.proofs.lemmas.Bool.{cases_eq}
use Rattle.px_outside.specs.declared.disk.Disk.{Ghosts}
use Rattle.px_cells.specs.CellData.{CellData}
use Rattle.px_cellshapes.specs.Keys.{AreRightKeys}
use Rattle.px_openbatches.specs.Pending.{HeldBatch}
use Rattle.px_region.specs.Promise.{IsSamePromise}
use Rattle.px_region.specs.Region.{read_of}
use Rattle.px_region.specs.declared.region.Region.{Region}
use Rattle.px_tables.specs.declared.index.Index.{Index}
use Rattle.px_trail.specs.Trail.{Base, index_of}
use Rattle.px_trail.specs.declared.entry.Entry.{Entry}
use Rattle.px_group.specs.Group.{AreTraced, IsRightBatch, IsRightGroup, IsRightPart, IsTallied}
use Rattle.px_group.specs.Room.{HasPromised}
use Rattle.px_group.specs.declared.group.Group.{Group}
use Rattle.px_group.specs.declared.group.IndexRegion.{IndexRegion}
use Rattle.px_batching.proofs.Places.{all_at, all_more, all_set, same_at, set_cases, set_here, set_other}
use Rattle.px_batching.proofs.Right.{SameIndexes, right_moves}
use Rattle.px_batching.proofs.Shapes.{keys_put, keys_same}
use Rattle.px_repairs.specs.Repairs.{HandsRepair, IsRegionStep, IsRepair, WroteRepair}

module _ (g g' : Group) (place : ℕ) (x : IndexRegion) (new : Region) (step : IsRegionStep g g' place x new) where
  abbrev next : IndexRegion
  next = record x { region = new }

  -- the group with the region
  abbrev moved : Group
  moved = record g { indexes = g'.indexes }

  pub same_group : g' ≡ moved
  same_group = (λ i. record { table = step.table i; rows = step.rows i; indexes = g'.indexes; batches = step.batches i; points = step.points i; last = step.last i; horizon = step.horizon i })

  indexes_same : SameIndexes g moved
  indexes_same = record {
    table = refl;
    count = ap (λ (l : List IndexRegion). length l) step.indexes ∙ length-set g.indexes.items place next;
    each = λ j z at. elim (set_cases g.indexes.items place j next z (sym (ap (λ (l : List IndexRegion). slice_get l j) step.indexes) ∙ at)) [
      | inl e ↦ (x, (ap (λ n. slice_get g.indexes.items n) e.0 ∙ step.index, sym (ap (λ (w : IndexRegion). w.index) e.1)))
      | inr e ↦ (z, (e.1, refl))
    ];
  }

  -- what stands at a place then, and before
  pub index_before : (j : ℕ) (z : IndexRegion) → slice_get g'.indexes.items j ≡ Some z → (y : IndexRegion) × ((slice_get g.indexes.items j ≡ Some y) × (y.index ≡ z.index))
  index_before j z at = indexes_same.each j z at

  pub index_after : (j : ℕ) (y : IndexRegion) → slice_get g.indexes.items j ≡ Some y → (z : IndexRegion) × ((slice_get g'.indexes.items j ≡ Some z) × (z.index ≡ y.index))
  index_after j y at = elim (cases_eq j place) [
    | inl e ↦
        (let same : x ≡ y = same_at g.indexes.items j x y (ap (λ n. slice_get g.indexes.items n) e ∙ step.index) at in
        (next, (ap (λ (l : List IndexRegion). slice_get l j) step.indexes ∙ (ap (λ n. slice_get (set g.indexes.items place next) n) e ∙ set_here g.indexes.items place x next step.index), ap (λ (q : IndexRegion). q.index) same)))
    | inr n ↦ (y, (ap (λ (l : List IndexRegion). slice_get l j) step.indexes ∙ (set_other g.indexes.items place j next n ∙ at), refl))
  ]

  -- ---- the trail

  pub tallied_moved : (b : Base) (es : List Entry) (hs : List HeldBatch) → IsTallied b es g hs → IsTallied b es g' hs
  tallied_moved b es hs k = (let
      now : IsTallied b es moved hs = record {
        standing = record {
          table = k.standing.table;
          index = λ j z at. (let y = index_before j z at in subst (λ (i : Index). index_of b es i.id.0 ≡ Some i) y.1.1 (k.standing.index j y.0 y.1.0));
          all = λ i stands of maintained. (let y = k.standing.all i stands of maintained in let z = index_after y.0 y.1.0 y.1.1.0 in (y.0, (z.0, (z.1.0, z.1.1 ∙ y.1.1.1))));
        };
        last = k.last;
        horizon = k.horizon;
        held = k.held;
        batches = k.batches;
        phases = k.phases;
        points = k.points;
      }
      in subst (λ (h : Group). IsTallied b es h hs) (sym same_group) now)

  pub traced_moved : (es : List Entry) → AreTraced es g → AreTraced es g'
  traced_moved es k = (let now : AreTraced es moved = record { each = k.each; once = k.once } in subst (AreTraced es) (sym same_group) now)

  -- ---- the code

  module _ (room : IsSamePromise x.region new) (number : new.number ≡ x.region.number) (keys : AreRightKeys g.table x.index (read_of x.region) → AreRightKeys g.table x.index (read_of new)) where
    part_moved : IsRightPart g.table x → IsRightPart g.table next
    part_moved k = record { index = k.index; table = k.table; number = k.number ∙ sym number; maintained = k.maintained; keys = keys k.keys }

    promised_moved : (j : ℕ) (z : IndexRegion) (cells bytes : ℕ) → slice_get g'.indexes.items j ≡ Some z → ((y : IndexRegion) → slice_get g.indexes.items j ≡ Some y → HasPromised y.region cells bytes) → HasPromised z.region cells bytes
    promised_moved j z cells bytes at had = elim (set_cases g.indexes.items place j next z (sym (ap (λ (l : List IndexRegion). slice_get l j) step.indexes) ∙ at)) [
      | inl e ↦
          (let before = had x (ap (λ n. slice_get g.indexes.items n) e.0 ∙ step.index) in
          let a = room.cells in let c = room.bytes in let p = before.0 in let q = before.1 in
          let now : HasPromised next.region cells bytes = (omega arith, omega arith) in subst (λ (r : IndexRegion). HasPromised r.region cells bytes) (sym e.1) now)
      | inr e ↦ had z e.1
    ]

    pub right_moved : IsRightGroup g → IsRightGroup g'
    right_moved k = (let
        now : IsRightGroup moved = record {
          table = k.table;
          region = k.region;
          rows = k.rows;
          parts = subst (λ (l : List IndexRegion). AllByRecursion (IsRightPart g.table) l) (sym step.indexes) (all_set (IsRightPart g.table) g.indexes.items place next (part_moved (all_at (IsRightPart g.table) g.indexes.items place x step.index k.parts)) k.parts);
          batches = all_more (IsRightBatch g) (IsRightBatch moved) (right_moves g moved indexes_same) g.batches.items k.batches;
          rooms = record { rows = k.rooms.rows; indexes = λ j z at. promised_moved j z _ _ at (λ y was. k.rooms.indexes j y was); light = k.rooms.light };
        }
        in subst IsRightGroup (sym same_group) now)

module _ {D : Type 0} (d : Ghosts D) (g g' : Group) (disk disk' : D) (place : ℕ) (k : List ℕ) (s : ℕ) (cells : List CellData) where
  pub right_repaired : IsRightGroup g → IsRepair g place k s cells → WroteRepair d g g' disk disk' place cells → IsRightGroup g'
  right_repaired right due w =
      let hands = w.wrote.hands in
      let same : due.index ≡ w.index = same_at g.indexes.items place due.index w.index due.at w.step.index in
      let shape : AreRightKeys g.table w.index.index cells = subst (λ (y : IndexRegion). AreRightKeys g.table y.index cells) same due.right in
      right_moved g g' place w.index w.region w.step w.wrote.room hands.writes.number
      (λ old. keys_put g.table w.index.index hands.cells (read_of w.index.region) (read_of w.region) w.wrote.written.reads (keys_same g.table w.index.index hands.cells cells hands.handed.reads shape) old) right

module _ {D : Type 0} (d : Ghosts D) (g g' : Group) (disk disk' : D) (place : ℕ) (cells : List CellData) where
  pub tallied_repaired : (b : Base) (es : List Entry) (hs : List HeldBatch) → IsTallied b es g hs → HandsRepair d g g' disk disk' place cells → IsTallied b es g' hs
  tallied_repaired b es hs k w = tallied_moved g g' place w.index w.region w.step b es hs k

  pub traced_repaired : (es : List Entry) → AreTraced es g → HandsRepair d g g' disk disk' place cells → AreTraced es g'
  traced_repaired es k w = traced_moved g g' place w.index w.region w.step es k
