-- A group with other points, and the numbers of all groups.
use Rattle.std.proofs.Common.{◌≡◌, ℕ, List, [], ◌∷◌, ◌++◌, map, sym, ap, subst}
use Rattle.std.specs.List.{AllByRecursion}
use Rattle.px_outside.specs.Parts.{AreDistinct}
use Rattle.px_outside.specs.declared.disk.Disk.{Ghosts}
use Rattle.px_tables.specs.declared.table.Table.{Table}
use Rattle.px_trail.specs.declared.entry.Entry.{Entry}
use Rattle.px_trail.specs.Trail.{Base, Catalogue}
use Rattle.px_indexed.specs.Idle.{IsElsewhere}
use Rattle.px_groupworld.specs.Group.{GroupData}
use Rattle.px_openbatches.specs.Pending.{HeldBatch}
use Rattle.px_forms.specs.Indexes.{IndexForm}
use Rattle.px_schema.specs.declared.standing.Standing.{Standing}
use Rattle.px_group.specs.Group.{AreTraced, IsRightBatch, IsRightGroup, IsShownBy}
use Rattle.px_group.specs.declared.group.Begun.{Begun}
use Rattle.px_defined.specs.Defined.{HasOnce}
use Rattle.px_group.specs.declared.group.Group.{Group}
use Rattle.px_noting.specs.Points.{IsSameBesidePoints}
use Rattle.px_noting.proofs.OpenPoints.{same_group}
use Rattle.px_noting.proofs.Others.{traced_elsewhere}
use Rattle.px_reading.specs.Doubts.{IsToldBy}
use Rattle.px_recovery.specs.Folder.{FolderData}
use Rattle.px_standing.specs.Agrees.{Agrees, number_of_table}
use Rattle.px_server.specs.Kept.{HasBegun, IsOnDisk, number_in, table_in_group}
use Rattle.px_server.proofs.Lists.{all_weaker, distinct_map, rising_distinct}
use Rattle.px_server.proofs.OpenBatches.{begun_elsewhere, begun_same, stamp_in}

-- ---- a group with other points

right_batches : (g g' : Group) (ms : List Begun) → AllByRecursion (IsRightBatch g) ms → AllByRecursion (IsRightBatch (record g { points = g'.points })) ms
right_batches g g' ms all = all_weaker (IsRightBatch g) (IsRightBatch (record g { points = g'.points })) (λ m r. record {
  count = r.count;
  marks = r.marks;
  closes = r.closes;
  fit = r.fit;
  distinct = r.distinct;
  some = r.some;
  few = r.few;
  stage = r.stage;
  rows = r.rows;
  receipt = r.receipt;
  shaped = record { puts = r.shaped.puts; marks = r.shaped.marks; closes = r.shaped.closes };
}) ms all

module _ (g g' : Group) (beside : IsSameBesidePoints g g') where
  abbrev moved : Group
  moved = record g { points = g'.points }

  pub right_beside : IsRightGroup g → IsRightGroup g'
  right_beside r = (let
      right : IsRightGroup moved = record {
        table = r.table;
        region = r.region;
        rows = r.rows;
        parts = r.parts;
        batches = right_batches g g' g.batches.items r.batches;
        rooms = record { rows = r.rooms.rows; indexes = r.rooms.indexes; light = r.rooms.light };
      }
      in subst IsRightGroup (sym (same_group g g' beside)) right)

  pub shown_beside : (b : Base) (index : Table → ℕ → IndexForm) (es : List Entry) (v : ℕ → GroupData) (hs : List HeldBatch) → IsShownBy b (index g.table) es g (v g.table.id.0) hs → IsShownBy b (index g'.table) es g' (v g'.table.id.0) hs
  shown_beside b index es v hs k = (let
      shown : IsShownBy b (index g.table) es moved (v g.table.id.0) hs = record { kept = k.kept; rows = k.rows; count = k.count; parts = k.parts; forms = k.forms }
      in subst (λ (h : Group). IsShownBy b (index h.table) es h (v h.table.id.0) hs) (sym (same_group g g' beside)) shown)

  pub begun_beside : (es : List Entry) (e : Entry) → IsElsewhere g.table.id e.act → HasBegun es g → HasBegun (es ++ e ∷ []) g'
  begun_beside es e n k = begun_same (es ++ e ∷ []) g g' beside.table (ap (λ ms. map stamp_in ms.items) beside.batches) (begun_elsewhere es g e n k)

  pub told_beside : (b : Base) (index : Table → ℕ → IndexForm) (es : List Entry) (v : ℕ → GroupData) → IsToldBy b (index g.table) es g (v g.table.id.0) → IsToldBy b (index g'.table) es g' (v g'.table.id.0)
  told_beside b index es v k = (let
      told : IsToldBy b (index g.table) es moved (v g.table.id.0) = record { told = k.told; own = k.own }
      in subst (λ (h : Group). IsToldBy b (index h.table) es h (v h.table.id.0)) (sym (same_group g g' beside)) told)

  pub once_beside : HasOnce g → HasOnce g'
  once_beside k = subst HasOnce (sym (same_group g g' beside)) k

  pub traced_beside : (b : Base) (es : List Entry) (e : Entry) → IsElsewhere g.table.id e.act → AreTraced es g → AreTraced (es ++ e ∷ []) g'
  traced_beside b es e n all = (let
      traced : AreTraced (es ++ e ∷ []) moved = record { each = traced_elsewhere b es g.table.id e n g.batches.items all.each; once = all.once }
      in subst (AreTraced (es ++ e ∷ [])) (sym (same_group g g' beside)) traced)

  pub disk_beside : {D : Type 0} (d : Ghosts D) (disk : D) (f : FolderData) → IsOnDisk d disk f g → IsOnDisk d disk f g'
  disk_beside d disk f k = (let
      on : IsOnDisk d disk f moved = record { rows = k.rows; indexes = k.indexes }
      in subst (IsOnDisk d disk f) (sym (same_group g g' beside)) on)

-- ---- all groups

pub distinct_groups : (groups : List Group) (standing : Standing) (c : Catalogue) → Agrees standing c → map table_in_group groups ≡ standing.tables → AreDistinct number_in groups
distinct_groups groups standing c k is = distinct_map table_in_group number_of_table groups (subst (λ (ts : List Table). AreDistinct number_of_table ts) (sym is) (rising_distinct number_of_table standing.tables k.order.tables))
