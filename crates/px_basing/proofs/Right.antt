-- A table stays right, tallies with the trail, and its batches have what their end needs, when base versions are written.
use Rattle.std.proofs.Common.{ℕ, List}
use Rattle.px_outside.specs.declared.disk.Disk.{Ghosts}
use Rattle.px_cellshapes.specs.Keys.{AreRightKeys}
use Rattle.px_openbatches.specs.Pending.{HeldBatch}
use Rattle.px_region.specs.Region.{read_of}
use Rattle.px_trail.specs.Trail.{Base}
use Rattle.px_trail.specs.declared.entry.Entry.{Entry}
use Rattle.px_group.specs.Group.{AreTraced, IsRightGroup, IsRightPart, IsTallied}
use Rattle.px_group.specs.declared.group.Group.{Group}
use Rattle.px_batching.proofs.Places.{all_at}
use Rattle.px_batching.proofs.Shapes.{keys_put, keys_same}
use Rattle.px_calls.specs.declared.query.BaseRow.{BaseRow}
use Rattle.px_baserows.proofs.Seen.{bases_right}
use Rattle.px_repairs.proofs.Right.{right_moved, tallied_moved, traced_moved}
use Rattle.px_basing.specs.Basing.{AreGiven, HandsBases, WroteBases, base_cells_of}

module _ {D : Type 0} (d : Ghosts D) (g g' : Group) (disk disk' : D) (place : ℕ) (xs : List BaseRow) where
  pub right_based : IsRightGroup g → AreGiven g place xs → WroteBases d g g' disk disk' place xs → IsRightGroup g'
  right_based right given w =
      let hands = w.wrote.hands in
      let part = all_at (IsRightPart g.table) g.indexes.items place w.index w.step.index right.parts in
      let shape : AreRightKeys g.table w.index.index (base_cells_of g w.index xs) = bases_right g.table w.index.index w.index.index.birth xs right.table part.index (given w.index w.step.index) in
      right_moved g g' place w.index w.region w.step w.wrote.room hands.writes.number
      (λ old. keys_put g.table w.index.index hands.cells (read_of w.index.region) (read_of w.region) w.wrote.written.reads (keys_same g.table w.index.index hands.cells (base_cells_of g w.index xs) hands.handed.reads shape) old) right

  pub tallied_based : (b : Base) (es : List Entry) (hs : List HeldBatch) → IsTallied b es g hs → HandsBases d g g' disk disk' place xs → IsTallied b es g' hs
  tallied_based b es hs k w = tallied_moved g g' place w.index w.region w.step b es hs k

  pub traced_based : (es : List Entry) → AreTraced es g → HandsBases d g g' disk disk' place xs → AreTraced es g'
  traced_based es k w = traced_moved g g' place w.index w.region w.step es k

  pub hands_of : WroteBases d g g' disk disk' place xs → HandsBases d g g' disk disk' place xs
  hands_of w = record { index = w.index; region = w.region; step = w.step; hands = w.wrote.hands }
