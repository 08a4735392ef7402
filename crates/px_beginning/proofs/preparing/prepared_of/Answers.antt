use Rattle.std.proofs.Common.{◌≡◌, ◌∙◌, Some, List, length, map, ap, refl, subst, sym}
use Rattle.std.specs.List.{All}
use Rattle.std.proofs.lemmas.List.{length-map}
use Rattle.px_cells.specs.CellData.{CellData}
use Rattle.px_forms.specs.Indexes.{IndexForm}
use Rattle.px_group.specs.Group.{batches_of}
use Rattle.px_group.specs.Room.{bytes_at, bytes_of_rows, cells_at, cells_of_rows}
use Rattle.px_phases.specs.Batch.{BatchData, is_left_in}
use Rattle.px_phases.specs.Begun.{prepared_batch}
use Rattle.px_trail.specs.Batches.{rows_of}
use Rattle.px_beginning.specs.Begins.{IsMadeOf}
use Rattle.px_phases.specs.Phases.{close_parts, mark_parts}
use Rattle.px_values.specs.declared.limit.Limit.{Limit as Bound}
use Rattle.px_beginning.proofs.Made.{many_bytes, many_cells, rooms_are}
use Rattle.px_beginning.specs.Reads.{form_at, index_forms}
use Rattle.px_beginning.specs.Rooms.{HasFew, IsLightRoom, PassesAt, PassesIn}
use Rattle.px_beginning.specs.declared.rooms.Room.{Room}
use Rattle.px_beginning.proofs.preparing.prepared_of.Goals as goal

pub returns-in-Some-clause-long : goal.returns-in-Some-clause-long
returns-in-Some-clause-long c e =
    let z : c.in-Some.limit ≡ Bound.Key = cc in
    absurd (c.in-Some.ensures.of_cells (ap Some z))

pub returns-clause-rooms : goal.returns-clause-rooms
returns-clause-rooms c =
    let t = c.args.group.now.table in
    let xs = c.args.group.now.indexes.items in
    let cs = c.args.changes.now in
    let ys = c.args.transitions.now in
    let made = c.in_ok-made.made in
    let lm = ap (λ (l : List (List (List CellData))). length l) c.in_ok-made.ensures.marks ∙ (length-map (index_forms t xs) (λ (f : IndexForm). mark_parts f c.args.stamp cs ys) ∙ length-map xs (form_at t)) in
    let lc = ap (λ (l : List (List (List CellData))). length l) c.in_ok-made.ensures.closes ∙ (length-map (index_forms t xs) (λ (f : IndexForm). close_parts f c.args.stamp cs ys) ∙ length-map xs (form_at t)) in
    let light = subst (λ (l : List Room). (HasFew c.room_of-rows.result × All HasFew l) × (IsLightRoom c.room_of-rows.result × All IsLightRoom l)) c.as_slice.ensures.value (c.in_default.ensures.none refl) in
    rooms_are (length xs) (record { batch = c.in_ok-batch.batch; written = c.in_ok-written.written; receipt = c.in_ok-receipt.receipt; rows = c.room_of-rows.result; indexes = c.in_ok-indexes.indexes }) made.marks.items made.closes.items made.puts
    (ap (λ (b : BatchData). b.marks) c.in_ok-batch.ensures) (ap (λ (b : BatchData). b.closes) c.in_ok-batch.ensures) (ap (λ (b : BatchData). b.puts) c.in_ok-batch.ensures) lm lc
    c.room_of-rows.ensures.cells c.room_of-rows.ensures.bytes c.in_ok-indexes.ensures light

-- the batch that would be made, and what it would keep
module _ (c : goal.After-drop-made-in-Some-4) where
  abbrev would : BatchData
  would = prepared_batch (index_forms c.args.group.now.table c.args.group.now.indexes.items) c.args.stamp c.args.changes.now c.args.transitions.now c.in_ok-made.made.puts (map (is_left_in (batches_of c.args.group.now)) (rows_of c.args.changes.now))

  made_would : IsMadeOf c.args.group.now c.args.stamp c.args.changes.now c.args.transitions.now would
  made_would = record { parts = c.in_ok-made.made.puts; puts = c.in_ok-made.ensures.puts; is = refl; short = c.in_ok-made.ensures.short }

  marks_len : length c.in_ok-made.made.marks.items ≡ length c.args.group.now.indexes.items
  marks_len = ap (λ (l : List (List (List CellData))). length l) c.in_ok-made.ensures.marks ∙ (length-map (index_forms c.args.group.now.table c.args.group.now.indexes.items) (λ (f : IndexForm). mark_parts f c.args.stamp c.args.changes.now c.args.transitions.now) ∙ length-map c.args.group.now.indexes.items (form_at c.args.group.now.table))

  closes_len : length c.in_ok-made.made.closes.items ≡ length c.args.group.now.indexes.items
  closes_len = ap (λ (l : List (List (List CellData))). length l) c.in_ok-made.ensures.closes ∙ (length-map (index_forms c.args.group.now.table c.args.group.now.indexes.items) (λ (f : IndexForm). close_parts f c.args.stamp c.args.changes.now c.args.transitions.now) ∙ length-map c.args.group.now.indexes.items (form_at c.args.group.now.table))

  many : PassesIn HasFew c.room_of-rows.result c.as_slice.result.now → PassesAt cells_of_rows cells_at 8192 (length c.args.group.now.indexes.items) would
  many passes = many_cells (length c.args.group.now.indexes.items) would c.room_of-rows.result c.in_ok-indexes.indexes.items c.in_ok-made.made.marks.items c.in_ok-made.made.closes.items c.in_ok-made.made.puts (sym c.in_ok-made.ensures.marks) (sym c.in_ok-made.ensures.closes) refl marks_len closes_len
      c.room_of-rows.ensures.cells c.room_of-rows.ensures.bytes c.in_ok-indexes.ensures (subst (PassesIn HasFew c.room_of-rows.result) c.as_slice.ensures.value passes)

  heavy : PassesIn IsLightRoom c.room_of-rows.result c.as_slice.result.now → PassesAt bytes_of_rows bytes_at 8388608 (length c.args.group.now.indexes.items) would
  heavy passes = many_bytes (length c.args.group.now.indexes.items) would c.room_of-rows.result c.in_ok-indexes.indexes.items c.in_ok-made.made.marks.items c.in_ok-made.made.closes.items c.in_ok-made.made.puts (sym c.in_ok-made.ensures.marks) (sym c.in_ok-made.ensures.closes) refl marks_len closes_len
      c.room_of-rows.ensures.cells c.room_of-rows.ensures.bytes c.in_ok-indexes.ensures (subst (PassesIn IsLightRoom c.room_of-rows.result) c.as_slice.ensures.value passes)

pub returns-in-Some-clause-cells : goal.returns-in-Some-clause-cells
returns-in-Some-clause-cells c e =
    let z : c.in-Some.limit ≡ Bound.Cells = cc in
    record { batch = would c; made = made_would c; passes = many c (c.in-Some.ensures.cells.0 (ap Some z)) }

pub returns-in-Some-clause-bytes : goal.returns-in-Some-clause-bytes
returns-in-Some-clause-bytes c e =
    let z : c.in-Some.limit ≡ Bound.Bytes = cc in
    record { batch = would c; made = made_would c; passes = heavy c (c.in-Some.ensures.bytes.0 (ap Some z)).1 }
