-- A batch begins on one group of a server, or doesn't.
use Rattle.std.proofs.Common.{◌≡◌, ◌≢◌, ◌<◌, ◌≤◌, ◌+◌, ℕ, true, Option, Some, None, List, [], ◌∷◌, ◌++◌, length, get_or, refl, sym, ap, subst, ◌∙◌, arith}
use Rattle.std.specs.Prelude.{IsSome, IsTrue}
use Rattle.std.specs.List.{AllByRecursion, slice_set}
use Rattle.px_outside.specs.declared.disk.Disk.{Ghosts}
use Rattle.px_values.specs.Limits.{most_of}
use Rattle.px_values.specs.declared.change.Change.{Change}
use Rattle.px_values.specs.declared.limit.Limit.TheVariants as bound
use Rattle.px_values.specs.declared.name.TableId.{TableId}
use Rattle.px_values.specs.declared.row.Value.{Value}
use Rattle.px_tables.specs.declared.table.Table.{Table}
use Rattle.px_trail.specs.Batches.{is_distinct, rows_of}
use Rattle.px_trail.specs.Legal.{Follows, MayCome}
use Rattle.px_trail.specs.Recorded.{Recorded}
use Rattle.px_trail.specs.States.{greatest_stamp}
use Rattle.px_trail.specs.Trail.{Base, catalogue_of, catalogue_step, closing_step, last_of, table_of}
use Rattle.px_trail.specs.declared.entry.Act.TheVariants.{Begun as BegunAct}
use Rattle.px_trail.specs.declared.entry.Entry.{Entry}
use Rattle.px_trail.proofs.Growth.{catalogue-snoc}
use Rattle.px_calls.specs.Causes.{HasLongKey, WritesManyBytes, WritesManyCells, expected_now}
use Rattle.px_calls.specs.Requires.{IsChangeOf}
use Rattle.px_groupworld.specs.Group.{IsTableBase}
use Rattle.px_phases.specs.Batch.{AllFit, BatchData}
use Rattle.px_schema.specs.declared.standing.Standing.{Standing}
use Rattle.px_catalog.specs.declared.catalog.Catalog.{Catalog}
use Rattle.px_group.specs.Group.{IsRightGroup, IsShownBy, IsTallied}
use Rattle.px_group.specs.Room.{bytes_at, bytes_of_rows, cells_at, cells_of_rows}
use Rattle.px_group.specs.declared.group.Group.{Group}
use Rattle.px_recovery.proofs.Server.{newest_early}
use Rattle.px_beginning.specs.Admits.{Admits}
use Rattle.px_beginning.specs.Begins.{IsBatchOf, NeedsLongKey, old_state}
use Rattle.px_beginning.specs.Leaves.{KeepsRooms, LeavesGroup}
use Rattle.px_beginning.specs.Rooms.{HasManyBytes, HasManyCells, PassesAt}
use Rattle.px_beginning.proofs.Expected.{counted_on}
use Rattle.px_beginning.proofs.Leaves.{right_after, shown_after, tallied_after}
use Rattle.px_beginning.proofs.Promised.{rooms_kept}
use Rattle.px_server.specs.Kept.{HasShown, HasTallied, IsKept, forms_in}
use Rattle.px_server.specs.Others.{Beginning}
use Rattle.px_server.proofs.Blamed.{blamed_quiet}
use Rattle.px_server.proofs.Acted.{acted, acted_still, once_at, points_at, right_at, tallied_at}
use Rattle.px_server.proofs.Begun.{begun_acted, owed_begun}
use Rattle.px_server.proofs.FitsRows.{all_fit}
use Rattle.px_server.proofs.Lists.{all_at}
use Rattle.px_server.proofs.LongKeys.{needs_long, needs_short}
use Rattle.px_server.proofs.ManyCells.{needs_bytes, needs_cells, needs_few, needs_light}
use Rattle.px_server.proofs.Released.{group_of, place_in}
use Rattle.px_server.proofs.Unbegun.{left_acted, left_owed}

unshut_by : (o : Option ℕ) (t : TableId) (s : ℕ) (cs : List Change) → closing_step o (BegunAct t s cs) ≡ o
unshut_by None t s cs = refl
unshut_by (Some c) t s cs = refl

some_of : {A : Type 0} (o : Option A) (x : A) → o ≡ Some x → IsSome o
some_of o x is = subst IsSome (sym is) refl

module _ {D : Type 0} (d : Ghosts D) (b : Base) (sound premise : Type 0) (began : Beginning) (disk : D) (catalog : Catalog) (standing : Standing) (groups : List Group) (trail : Recorded) (late : Option Entry) (closed : Option ℕ) (k : IsKept d b sound premise began disk catalog standing groups trail late closed)
    (running : closed ≡ None) (t : TableId) (place : ℕ) (g : Group) (l : place < length standing.tables) (number : (none : Table) → (get_or standing.tables place none).id ≡ t) (is : get_or groups place g ≡ g) where
  abbrev es : List Entry
  es = trail.entries

  pub inside : place < length groups
  inside = place_in groups standing.tables k.each.stand place l

  own : g.table.id ≡ t
  own = group_of groups standing.tables k.each.stand place g inside is t number

  pub right_here : IsRightGroup g
  right_here = right_at d b sound premise began disk catalog standing groups trail late closed k place g inside is running

  tallied_here : HasTallied b es g
  tallied_here = tallied_at d b sound premise began disk catalog standing groups trail late closed k place g inside is running

  stands_as : table_of b es t.0 ≡ Some g.table
  stands_as = ap (λ (u : TableId). table_of b es u.0) (sym own) ∙ tallied_here.tallied.standing.table

  pub stands_here : IsSome (table_of b es t.0)
  stands_here = some_of (table_of b es t.0) g.table stands_as

  pub last_here : last_of b t.0 es ≡ g.last
  last_here = ap (λ (u : TableId). last_of b u.0 es) (sym own) ∙ tallied_here.tallied.last

  pub fit_here : (cs : List Change) → ((x : Table) → table_of b es t.0 ≡ Some x → AllByRecursion (IsChangeOf x) cs) → AllFit g.table cs
  fit_here cs each = all_fit g.table cs (each g.table stands_as)

  -- ---- refused

  pub left_right : (g' : Group) → LeavesGroup g g' → KeepsRooms g g' → IsRightGroup g'
  left_right g' leaves keeps = right_after g g' leaves right_here (rooms_kept g g' leaves keeps right_here.rooms)

  pub left_kept : (g' : Group) → LeavesGroup g g' → KeepsRooms g g' → IsKept d b sound premise began disk catalog standing (slice_set groups place g') trail late closed
  left_kept g' leaves keeps = acted_still d b sound premise began disk catalog standing groups trail late closed k place g inside is g'
      (left_acted g g' leaves d disk b es closed running (points_at d b sound premise began disk catalog standing groups trail late closed k place g inside is) (left_right g' leaves keeps) tallied_here (once_at d b sound premise began disk catalog standing groups trail late closed k place g inside is running))
      (let same = left_owed g g' leaves in omega (arith, same))

  -- ---- keys, cells and bytes

  module _ (cs : List Change) (fit : AllFit g.table cs) (early : g.last ≤ greatest_stamp) (given : sound) where
    shows_here : HasShown b es standing.indexes (k.shown given running).told g
    shows_here = all_at (HasShown b es standing.indexes (k.shown given running).told) groups place g inside is (k.shown given running).each

    module _ (g' : Group) (leaves : LeavesGroup g g') (right : IsRightGroup g') where
      tallied_there : IsTallied b es g' shows_here.held
      tallied_there = tallied_after g g' leaves b es shows_here.held shows_here.tallied

      shown_there : IsShownBy b (forms_in standing.indexes g.table) es g' ((k.shown given running).told g.table.id.0) shows_here.held
      shown_there = shown_after g g' leaves b es shows_here.held (forms_in standing.indexes g.table) ((k.shown given running).told g.table.id.0) shows_here.shown

      read_there : (r : List Value) → old_state g' r ≡ expected_now b es g'.table.id.0 r
      read_there r = counted_on b (forms_in standing.indexes g.table) es g' ((k.shown given running).told g.table.id.0) shows_here.held tallied_there shown_there (let last = tallied_there.last in let same = leaves.last in omega (arith, last, same, early)) r

      number_there : g'.table.id.0 ≡ t.0
      number_there = ap (λ (x : Table). x.id.0) leaves.table ∙ ap (λ (u : TableId). u.0) own

      fit_there : AllFit g'.table cs
      fit_there = subst (λ (x : Table). AllFit x cs) (sym leaves.table) fit

      pub long_there : NeedsLongKey g' cs → HasLongKey b es t.0 cs
      long_there long = subst (λ (n : ℕ). HasLongKey b es n cs) number_there (needs_long b es g' right tallied_there.standing shown_there.kept.group.shape read_there cs fit_there long)

      pub short_there : (s : ℕ) (bd : BatchData) → IsBatchOf g' s cs bd → HasLongKey b es t.0 cs → ⊥
      short_there s bd batch long = needs_short b es g' right tallied_there.standing shown_there.kept.group.shape read_there cs fit_there s bd batch (subst (λ (n : ℕ). HasLongKey b es n cs) (sym number_there) long)

      pub cells_there : (s : ℕ) → HasManyCells g' s cs → WritesManyCells b es t.0 cs
      cells_there s many = subst (λ (n : ℕ). WritesManyCells b es n cs) number_there (needs_cells b es g' right tallied_there.standing shown_there.kept.group.shape read_there cs s many)

      pub bytes_there : (s : ℕ) → HasManyBytes g' s cs → WritesManyBytes b es t.0 cs
      bytes_there s many = subst (λ (n : ℕ). WritesManyBytes b es n cs) number_there (needs_bytes b es g' right tallied_there.standing shown_there.kept.group.shape read_there cs s many)

      pub few_there : (s : ℕ) (bd : BatchData) → IsBatchOf g' s cs bd → (PassesAt cells_of_rows cells_at (most_of bound.Cells) (length g'.indexes.items) bd → ⊥) → WritesManyCells b es t.0 cs → ⊥
      few_there s bd batch none many = needs_few b es g' right tallied_there.standing shown_there.kept.group.shape read_there cs s bd batch none (subst (λ (n : ℕ). WritesManyCells b es n cs) (sym number_there) many)

      pub light_there : (s : ℕ) (bd : BatchData) → IsBatchOf g' s cs bd → (PassesAt bytes_of_rows bytes_at (most_of bound.Bytes) (length g'.indexes.items) bd → ⊥) → WritesManyBytes b es t.0 cs → ⊥
      light_there s bd batch none many = needs_light b es g' right tallied_there.standing shown_there.kept.group.shape read_there cs s bd batch none (subst (λ (n : ℕ). WritesManyBytes b es n cs) (sym number_there) many)

  -- ---- begun

  module _ (tells_left : (x : D) (moment file : ℕ) (bytes : List ℕ) → d.left x moment file bytes → IsTrue d.tells) (up_to_now : (x : D) (moment file : ℕ) (bytes : List ℕ) → d.left x moment file bytes → moment ≤ d.calls x)
      (seat calls s : ℕ) (at : calls ≡ d.calls disk) (cs : List Change) (distinct : is_distinct (rows_of cs) ≡ true) (some : cs ≢ []) (fit : AllFit g.table cs) (later : g.last < s) (early : s ≤ greatest_stamp)
      (taken g' : Group) (leaves : LeavesGroup g taken) (bd : BatchData) (batch : IsBatchOf taken s cs bd) (admits : Admits taken bd g') (before : IsRightGroup taken) (after : IsRightGroup g') where
    abbrev e : Entry
    e = record { seat = seat; calls = calls; act = BegunAct t s cs }

    pub may_begin : MayCome b es e
    unfolding Follows
    may_begin = record {
      follows = ((let last = last_here in omega (arith, last, later)), distinct, some, stands_here);
      shut = λ not. k.told.closing ∙ running;
      calls = (let n = newest_early (d.calls disk) 0 es (omega arith) k.server.early in omega (arith, n, at));
    }

    still : catalogue_of b (es ++ e ∷ []) ≡ catalogue_of b es
    unfolding catalogue_step
    still = catalogue-snoc b es e

    act_is : e.act ≡ BegunAct taken.table.id s cs
    act_is = ap (λ (u : TableId). BegunAct u s cs) (sym (ap (λ (x : Table). x.id) leaves.table ∙ own))

    base : IsTableBase b taken.table.id.0
    base = record { rows = λ r. k.told.base.rows taken.table.id.0 r; low = k.told.low taken.table.id.0 }

    pub begun_kept : (trail' : Recorded) → trail'.entries ≡ es ++ e ∷ [] → trail'.room ≡ trail.room + 4 → IsKept d b sound premise began disk catalog standing (slice_set groups place g') trail' late closed
    begun_kept trail' entries room =
        acted d b sound premise began disk catalog standing groups trail late closed k place g inside is tells_left up_to_now e at refl (blamed_quiet d disk trail.entries e refl k.blamed) may_begin (unshut_by closed t s cs) still
        (λ u other same. other (sym same ∙ ap (λ (v : TableId). v.0) (sym own))) tt
        g' (begun_acted g taken g' leaves s cs bd batch admits before after (subst (λ (x : Table). AllFit x cs) (sym leaves.table) fit) early b es e may_begin act_is base d disk closed running k.told.legal tallied_here
        (once_at d b sound premise began disk catalog standing groups trail late closed k place g inside is running))
        trail' entries (let more = owed_begun g taken g' bd leaves admits in omega (arith, more, room))
