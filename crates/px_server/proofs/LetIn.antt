-- A batch is let in: the group is right before and after.
use Rattle.std.proofs.Common.{◌≡◌, ◌≢◌, ◌≤◌, ℕ, true, List, [], length, inl, inr, sym, ap, subst, ◌∙◌, arith}
use Rattle.std.proofs.lemmas.List.{length-map}
use Rattle.px_values.specs.Limits.{most_of}
use Rattle.px_values.specs.declared.change.Change.{Change}
use Rattle.px_values.specs.declared.limit.Limit.TheVariants as bound
use Rattle.px_tables.specs.declared.table.Table.{Table}
use Rattle.px_trail.specs.Batches.{is_distinct, rows_of}
use Rattle.px_forms.specs.Indexes.{IndexForm}
use Rattle.px_phases.specs.Batch.{AllFit, BatchData}
use Rattle.px_phases.specs.Phases.{close_parts, mark_parts}
use Rattle.px_group.specs.Group.{IsRightGroup, most_rows}
use Rattle.px_group.specs.Room.{HasRooms, bytes_at, bytes_of_rows, cells_at, cells_of_rows}
use Rattle.px_group.specs.declared.group.Group.{Group}
use Rattle.px_beginning.specs.Admits.{Admits, HasRoomsWith}
use Rattle.px_beginning.specs.Begins.{IsBatchOf}
use Rattle.px_beginning.specs.Leaves.{KeepsRooms, LeavesGroup, TakesRooms}
use Rattle.px_beginning.specs.Reads.{form_at, index_forms}
use Rattle.px_beginning.specs.Rooms.{AreRoomsOf, PassesAt, fresh_batch, no_room}
use Rattle.px_beginning.specs.declared.preparing.Prepared.{Prepared}
use Rattle.px_beginning.proofs.Leaves.{alike_count, batch_after, right_after}
use Rattle.px_beginning.proofs.Promised.{rooms_kept, rooms_taken}
use Rattle.px_server.specs.Beginning.{IsReady, LetsIn}
use Rattle.px_server.specs.declared.readying.Ready.{Ready}
use Rattle.px_server.proofs.Left.{left_then}

-- rooms that are let in pass no limit
few_rooms : (n : ℕ) (p : Prepared) → AreRoomsOf n p → PassesAt cells_of_rows cells_at (most_of bound.Cells) n p.batch → ⊥
few_rooms n p r (inl many) = absurd (let e = r.rows.0 in let f = r.few.0 in omega (arith, e, f, many))
few_rooms n p r (inr z) = absurd (let e = (r.indexes z.0 z.1.0).0 in let c = r.count_is in let l = z.1.0 in let f = r.few.1 z.0 no_room (omega (arith, c, l)) in let many = z.1.1 in omega (arith, e, f, many))

light_rooms : (n : ℕ) (p : Prepared) → AreRoomsOf n p → PassesAt bytes_of_rows bytes_at (most_of bound.Bytes) n p.batch → ⊥
light_rooms n p r (inl many) = absurd (let e = r.rows.1 in let f = r.light.0 in omega (arith, e, f, many))
light_rooms n p r (inr z) = absurd (let e = (r.indexes z.0 z.1.0).1 in let c = r.count_is in let l = z.1.0 in let f = r.light.1 z.0 no_room (omega (arith, c, l)) in let many = z.1.1 in omega (arith, e, f, many))

-- letting a batch in keeps a group right
abbrev pub KeepsRight : Type 0
KeepsRight = (g : Group) (s : ℕ) (cs : List Change) (bd : BatchData) (p : IsBatchOf g s cs bd) (g' : Group) → Admits g bd g' → IsRightGroup g → AllFit g.table cs → is_distinct (rows_of cs) ≡ true → cs ≢ [] → length cs ≤ most_rows → HasRooms g → HasRoomsWith g (fresh_batch (length g.indexes.items) bd) → IsRightGroup g'

module _ (g read taken g' : Group) (right : IsRightGroup g) (cs : List Change) (fit : AllFit g.table cs) (distinct : is_distinct (rows_of cs) ≡ true) (some : cs ≢ []) (few : length cs ≤ 1000) (clock : ℕ) (r : Ready) (ready : IsReady g cs clock r)
    (first : LeavesGroup g read) (keeps : KeepsRooms g read) (then : LeavesGroup read taken) (takes : TakesRooms read taken r.prepared) (admits : Admits taken r.prepared.batch g') (keeps_right : KeepsRight) where
  leaves : LeavesGroup g taken
  leaves = left_then g read taken first then

  is_batch : IsBatchOf taken r.started.stamp cs r.prepared.batch
  is_batch = batch_after g taken leaves r.started.stamp cs r.prepared.batch ready.batch

  count : length read.indexes.items ≡ length g.indexes.items
  count = alike_count g.indexes.items read.indexes.items first.indexes

  forms : length (index_forms g.table g.indexes.items) ≡ length read.indexes.items
  forms = length-map g.indexes.items (form_at g.table) ∙ sym count

  marks : length r.prepared.batch.marks ≡ length read.indexes.items
  marks = ap (λ (x : BatchData). length x.marks) ready.batch.made.is ∙ (length-map (index_forms g.table g.indexes.items) (λ (f : IndexForm). mark_parts f r.started.stamp cs ready.batch.transitions) ∙ forms)

  closes : length r.prepared.batch.closes ≡ length read.indexes.items
  closes = ap (λ (x : BatchData). length x.closes) ready.batch.made.is ∙ (length-map (index_forms g.table g.indexes.items) (λ (f : IndexForm). close_parts f r.started.stamp cs ready.batch.transitions) ∙ forms)

  rooms : HasRooms taken × HasRoomsWith taken (fresh_batch (length taken.indexes.items) r.prepared.batch)
  rooms = rooms_taken read taken then r.prepared takes (rooms_kept g read first keeps right.rooms) (subst (λ (n : ℕ). AreRoomsOf n r.prepared) (sym count) ready.rooms) marks closes

  rooms_there : AreRoomsOf (length taken.indexes.items) r.prepared
  rooms_there = subst (λ (n : ℕ). AreRoomsOf n r.prepared) (sym (alike_count g.indexes.items taken.indexes.items leaves.indexes)) ready.rooms

  before : IsRightGroup taken
  before = right_after g taken leaves right rooms.0

  pub lets_in : LetsIn g g' cs clock r.started
  lets_in = record {
    stamp = ready.stamp;
    taken = taken;
    leaves = leaves;
    batch = r.prepared.batch;
    is = is_batch;
    few = few_rooms (length taken.indexes.items) r.prepared rooms_there;
    light = light_rooms (length taken.indexes.items) r.prepared rooms_there;
    admits = admits;
    before = before;
    after = keeps_right taken r.started.stamp cs r.prepared.batch is_batch g' admits before (subst (λ (x : Table). AllFit x cs) (sym leaves.table) fit) distinct some few rooms.0 rooms.1;
    changes = ready.changes;
  }
