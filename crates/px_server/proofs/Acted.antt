-- An act of one table without a call on the disk, told by an entry that doesn't last or by none: what is true of a server stays so.
use Rattle.std.proofs.Common.{◌≡◌, ◌≢◌, ◌<◌, ◌≤◌, ◌+◌, ℕ, Option, Some, None, List, [], ◌∷◌, ◌++◌, length, get_or, refl, sym, ap, subst, ◌∙◌, true, false, arith}
use Rattle.std.specs.Prelude.{IsTrue}
use Rattle.std.specs.List.{slice_set}
use Rattle.px_outside.specs.Parts.{AreDistinct, with_part}
use Rattle.px_outside.specs.declared.disk.Disk.{Ghosts}
use Rattle.px_values.specs.declared.name.TableId.{TableId}
use Rattle.px_tables.specs.declared.index.Index.{Index}
use Rattle.px_tables.specs.declared.table.Table.{Table}
use Rattle.px_trail.specs.declared.entry.Entry.{Entry}
use Rattle.px_trail.specs.Lasting.{lasting}
use Rattle.px_trail.specs.Legal.{MayCome}
use Rattle.px_trail.specs.Recorded.{Recorded}
use Rattle.px_trail.specs.Trail.{Base, catalogue_of, closing_step, open_points}
use Rattle.px_trail.proofs.Growth.{closing-snoc, legal-snoc}
use Rattle.px_groupworld.specs.Group.{GroupData, GroupKept, table_form}
use Rattle.px_openbatches.specs.Pending.{HeldBatch}
use Rattle.px_forms.specs.Indexes.{IndexForm}
use Rattle.px_defined.specs.Defined.{HasOnce}
use Rattle.px_schema.specs.declared.standing.Standing.{Standing}
use Rattle.px_catalog.specs.Catalogue.{standing_of}
use Rattle.px_catalog.specs.declared.catalog.Catalog.{Catalog}
use Rattle.px_group.specs.Group.{AreTraced, IsRightGroup, IsShownBy, IsTallied, form_of as group_form, points_in}
use Rattle.px_group.specs.declared.group.Group.{Group}
use Rattle.px_noting.specs.Apart.{IsApartFrom}
use Rattle.px_noting.specs.Points.{IsSameBesidePoints}
use Rattle.px_noting.proofs.OpenPoints.{same_group}
use Rattle.px_noting.proofs.Others.{apart_elsewhere}
use Rattle.px_reading.specs.Doubts.{IsToldBy}
use Rattle.px_recovery.specs.Folder.{FolderData}
use Rattle.px_recovery.specs.Kept.{FolderGoesOn, IsServer}
use Rattle.px_recovery.specs.Stands.{Explains, GoesOnBy}
use Rattle.px_recovery.specs.Tables.{form_of_table}
use Rattle.px_recovery.proofs.Explains.{by_entry, by_none, noted_kept}
use Rattle.px_recovery.proofs.Numbered.{found_number}
use Rattle.px_rows.specs.Spelled.{row_form}
use Rattle.px_standing.specs.Agrees.{Agrees}
use Rattle.px_server.specs.Kept.{AreBuilt, AreGroups, AreShown, HasBegun, HasFailed, HasPoints, HasServerParts, HasShown, HasTallied, IsKept, IsOnDisk, IsTold, forms_in, has_told, number_in, owed, table_in_group}
use Rattle.px_server.specs.Others.{Beginning, OthersStay}
use Rattle.px_server.proofs.Beside.{GoOthers, begun_then, disk_then, once_then, others_noted, others_still, own_shown, points_then, right_then, shown_then, tallied_then, traced_then}
use Rattle.px_server.proofs.Built.{IsOfOwn}
use Rattle.px_server.proofs.Others.{others_more}
use Rattle.px_server.proofs.Lists.{all_at, map_set}
use Rattle.px_server.proofs.Noted.{server_goes, with_parts}
use Rattle.px_server.proofs.Pointed.{disk_beside, distinct_groups, once_beside, right_beside}
use Rattle.px_server.proofs.Room.{room_set}

-- ---- what is to be known of the group after the act

-- It shows these data, which have the same cells in the same indexes.
pub record HasMoved (b : Base) (index : ℕ → IndexForm) (es' : List Entry) (g' : Group) (v : GroupData) : Type 0 where
  pub after : GroupData
  pub held : List HeldBatch
  pub tallied : IsTallied b es' g' held
  pub shown : IsShownBy b index es' g' after held
  pub told : IsToldBy b index es' g' after
  pub built : AreBuilt (group_form b index g') es' after
  pub high : v.high ≤ after.high
  pub low : after.low ≡ v.low
  pub cells : after.cells ≡ v.cells
  pub indexes : after.indexes ≡ v.indexes

-- The group g is g' after the entries es'. Where the server is closed, the points and what the end of batches needs are all.
pub record IsActed {D : Type 0} (d : Ghosts D) (disk : D) (b : Base) (es es' : List Entry) (closed : Option ℕ) (g g' : Group) : Type 0 where
  pub table : g'.table ≡ g.table
  pub points : HasPoints es' g'
  pub right : closed ≡ None → IsRightGroup g'
  pub tallied : closed ≡ None → HasTallied b es' g'
  pub once : closed ≡ None → HasOnce g'
  pub traced : (call : ℕ) → closed ≡ Some call → AreTraced es' g'
  pub begun : (call : ℕ) → closed ≡ Some call → HasBegun es' g'
  pub shown : closed ≡ None → (index : ℕ → IndexForm) (v : GroupData) (hs : List HeldBatch) → IsTallied b es g hs → IsShownBy b index es g v hs → IsToldBy b index es g v → AreBuilt (group_form b index g) es v → HasMoved b index es' g' v
  pub on_disk : closed ≡ None → (f : FolderData) → IsOnDisk d disk f g → IsOnDisk d disk f g'

-- the same group with the same points in other places
pub same_acted : {D : Type 0} (d : Ghosts D) (disk : D) (b : Base) (es : List Entry) (closed : Option ℕ) (g g' : Group) → IsSameBesidePoints g g' → g'.points.items ≡ g.points.items → HasPoints es g → IsRightGroup g → HasTallied b es g → HasOnce g → closed ≡ None → IsActed d disk b es es closed g g'
same_acted d disk b es closed g g' beside points open_ right told once running = record {
  table = beside.table;
  points = λ seat s. ap (λ (t : Table). open_points seat t.id.0 s es) beside.table ∙ (open_ seat s ∙ ap (points_in seat s) (sym points));
  right = λ none. right_beside g g' beside right;
  tallied = λ none. record { held = told.held; tallied = tallied_then told.held told.tallied };
  once = λ none. once_beside g g' beside once;
  traced = λ call shut. absurd (let z : None ≡ Some call = sym running ∙ shut in cc);
  begun = λ call shut. absurd (let z : None ≡ Some call = sym running ∙ shut in cc);
  shown = λ none index v hs k shown told built. record {
    after = v;
    held = hs;
    tallied = tallied_then hs k;
    shown = (let
        moved : IsShownBy b index es (record g { points = g'.points }) v hs = record { kept = shown.kept; rows = shown.rows; count = shown.count; parts = shown.parts; forms = shown.forms }
        in subst (λ (h : Group). IsShownBy b index es h v hs) (sym same) moved);
    told = (let
        moved : IsToldBy b index es (record g { points = g'.points }) v = record { told = told.told; own = told.own }
        in subst (λ (h : Group). IsToldBy b index es h v) (sym same) moved);
    built = subst (λ (h : Group). AreBuilt (group_form b index h) es v) (sym same) built;
    high = omega arith;
    low = refl;
    cells = refl;
    indexes = refl;
  };
  on_disk = λ none f on. disk_beside g g' beside d disk f on;
}
  where
    same : g' ≡ record g { points = g'.points }
    same = same_group g g' beside

    tallied_then : (hs : List HeldBatch) → IsTallied b es g hs → IsTallied b es g' hs
    tallied_then hs k = (let
        moved : IsTallied b es (record g { points = g'.points }) hs = record {
          standing = record { table = k.standing.table; index = k.standing.index; all = k.standing.all };
          last = k.last;
          horizon = k.horizon;
          held = k.held;
          batches = k.batches;
          phases = k.phases;
          points = λ seat s. k.points seat s ∙ ap (points_in seat s) (sym points);
        }
        in subst (λ (h : Group). IsTallied b es h hs) (sym same) moved)

-- ---- the groups of a server

module _ {D : Type 0} (d : Ghosts D) (b : Base) (sound premise : Type 0) (began : Beginning) (disk : D) (catalog : Catalog) (standing : Standing) (groups : List Group) (trail : Recorded) (late : Option Entry) (closed : Option ℕ) (k : IsKept d b sound premise began disk catalog standing groups trail late closed)
    (place : ℕ) (g : Group) (l : place < length groups) (is : get_or groups place g ≡ g) where
  abbrev es : List Entry
  es = trail.entries

  -- what is true of the group at the place
  pub points_at : HasPoints es g
  points_at = all_at (HasPoints es) groups place g l is k.each.points

  pub right_at : closed ≡ None → IsRightGroup g
  right_at running = all_at IsRightGroup groups place g l is (k.each.right running)

  pub tallied_at : closed ≡ None → HasTallied b es g
  tallied_at running = all_at (HasTallied b es) groups place g l is (k.each.tallied running)

  pub once_at : closed ≡ None → HasOnce g
  once_at running = all_at HasOnce groups place g l is (k.each.once running)

  pub traced_at : (call : ℕ) → closed ≡ Some call → AreTraced es g
  traced_at call shut = all_at (AreTraced es) groups place g l is (k.each.traced call shut)

  pub begun_at : (call : ℕ) → closed ≡ Some call → HasBegun es g
  begun_at call shut = all_at (HasBegun es) groups place g l is (k.each.begun call shut)

  pub once : AreDistinct number_in groups
  once = distinct_groups groups standing (catalogue_of b es) k.told.agrees k.each.stand

  module _ (g' : Group) (es' : List Entry) (o : GoOthers b es es' (number_in g)) (a : IsActed d disk b es es' closed g g') where
    abbrev then : List Group
    then = slice_set groups place g'

    pub groups_then : AreGroups b es' closed standing.tables then
    groups_then = record {
      stand = map_set table_in_group groups place g g' l is a.table ∙ k.each.stand;
      points = points_then b es es' groups once place g g' l is o k.each.points a.points;
      right = λ running. right_then b es es' groups once place g g' l is o (k.each.right running) (a.right running);
      tallied = λ running. tallied_then b es es' groups once place g g' l is o (k.each.tallied running) (a.tallied running);
      once = λ running. once_then b es es' groups once place g g' l is o (k.each.once running) (a.once running);
      traced = λ call shut. traced_then b es es' groups once place g g' l is o (k.each.traced call shut) (a.traced call shut);
      begun = λ call shut. begun_then b es es' groups once place g g' l is o (k.each.begun call shut) (a.begun call shut);
    }

    module _ (running : closed ≡ None) where
      moved_by : (indexes : List Index) (v : ℕ → GroupData) → HasShown b es indexes v g → HasMoved b (forms_in indexes g.table) es' g' (v (number_in g))
      moved_by indexes v h = a.shown running (forms_in indexes g.table) (v (number_in g)) h.held h.tallied h.shown h.told h.built

      own_then : (indexes : List Index) (v : ℕ → GroupData) (h : HasShown b es indexes v g) → HasShown b es' indexes (with_part v (number_in g) (moved_by indexes v h).after) g'
      own_then indexes v h = (let m = moved_by indexes v h in own_shown b es' indexes v m.after g.table g' a.table m.held m.tallied m.shown m.told m.built)

      pub shown_now : AreShown b es standing.indexes groups → AreShown b es' standing.indexes then
      shown_now s = (let own = all_at (HasShown b es standing.indexes s.told) groups place g l is s.each in record {
        told = with_part s.told (number_in g) (moved_by standing.indexes s.told own).after;
        each = shown_then b es es' groups once place g g' l is o (k.each.right running) standing.indexes s.told (moved_by standing.indexes s.told own).after s.each (own_then standing.indexes s.told own);
      })

      -- the folder is told, and the groups go on from it
      pub goes_then : ((f : FolderData) (v : ℕ → GroupData) → Explains b es f v → GoesOnBy b es es' f v (number_in g)) → FolderGoesOn d b (HasServerParts d b sound catalog groups) disk es → FolderGoesOn d b (HasServerParts d b sound catalog then) disk es'
      goes_then by goes = (let
          f = goes.folder
          in let
          v = goes.groups
          in let
          own = all_at (HasShown b es f.standing.indexes v) groups place g l is goes.has.shown
          in let
          m = moved_by f.standing.indexes v own
          in let
          kept : GroupKept (form_of_table b f.standing.indexes g.table) es' m.after =
          subst (λ (x : Table). GroupKept (table_form b x.id (forms_in f.standing.indexes g.table) (row_form x)) es' m.after) a.table m.shown.kept.group
          in record {
            folder = f;
            groups = with_part v (number_in g) m.after;
            stands = goes.stands;
            explains = noted_kept b es es' f v goes.explains (number_in g) (by f v goes.explains) g.table (goes.explains.catalogue.tables (number_in g) ∙ own.tallied.standing.table) m.after kept m.high m.low m.cells m.indexes;
            has = record {
              given = goes.has.given;
              stored = goes.has.stored;
              standing = goes.has.standing;
              regions = disk_then b es es' groups once place g g' l is o d disk f goes.has.regions (a.on_disk running f (all_at (IsOnDisk d disk f) groups place g l is goes.has.regions));
              shown = shown_then b es es' groups once place g g' l is o (k.each.right running) f.standing.indexes v m.after goes.has.shown (own_then f.standing.indexes v own);
            };
          })

  -- ---- without an entry

  pub acted_still : (g' : Group) → IsActed d disk b es es closed g g' → owed g' ≤ owed g → IsKept d b sound premise began disk catalog standing (slice_set groups place g') trail late closed
  acted_still g' a less = (let
      o = others_still b es (number_in g)
      in record {
        told = k.told;
        each = groups_then g' es o a;
        shown = λ given running. shown_now g' es o a running (k.shown given running);
        server = with_parts d b premise (HasServerParts d b sound catalog groups) (HasServerParts d b sound catalog (slice_set groups place g')) disk es late closed k.server
            (λ running given tells. goes_then g' es o a running (λ f v told. by_none b es f v told (number_in g)) (k.server.goes_on running given tells));
        room = room_set groups place g g' l is closed trail trail k.room (omega (arith, less));
        blamed = k.blamed;
        last_call = k.last_call;
        others = k.others;
      })

  -- ---- with an entry of its table

  module _ (tells_left : (x : D) (moment file : ℕ) (bytes : List ℕ) → d.left x moment file bytes → IsTrue d.tells) (up_to_now : (x : D) (moment file : ℕ) (bytes : List ℕ) → d.left x moment file bytes → moment ≤ d.calls x)
      (e : Entry) (at : e.calls ≡ d.calls disk) (quiet : lasting e ≡ false) (blames : has_told (es ++ e ∷ []) ≡ true → HasFailed d disk) (may : MayCome b es e) (unshut : closing_step closed e.act ≡ closed) (still : catalogue_of b (es ++ e ∷ []) ≡ catalogue_of b es) (apart : (t : TableId) → t.0 ≢ number_in g → IsApartFrom t e.act) (own : IsOfOwn b es (number_in g) e.act)
      (g' : Group) (a : IsActed d disk b es (es ++ e ∷ []) closed g g') (trail' : Recorded) (entries : trail'.entries ≡ es ++ e ∷ []) (less : owed g' + trail.room ≤ owed g + trail'.room) where
    abbrev es' : List Entry
    es' = es ++ e ∷ []

    o : GoOthers b es es' (number_in g)
    o = others_noted b es e may still (number_in g) apart own

    by : (f : FolderData) (v : ℕ → GroupData) → Explains b es f v → GoesOnBy b es es' f v (number_in g)
    by f v told = by_entry b es f v told (number_in g) e may still (λ q y other found. apart_elsewhere y.id e.act (apart y.id (λ same. other (sym (found_number f.standing.tables q y found) ∙ same))))

    told_then : IsTold b es' closed (standing_of catalog) standing
    told_then = record {
      base = k.told.base;
      low = k.told.low;
      legal = legal-snoc b es e k.told.legal may;
      closing = closing-snoc es e ∙ (ap (λ (c : Option ℕ). closing_step c e.act) k.told.closing ∙ unshut);
      agrees = subst (Agrees standing) (sym still) k.told.agrees;
      same = k.told.same;
    }

    pub acted : IsKept d b sound premise began disk catalog standing (slice_set groups place g') trail' late closed
    acted = (let
        then = slice_set groups place g'
        in record {
          told = subst (λ (ys : List Entry). IsTold b ys closed (standing_of catalog) standing) (sym entries) told_then;
          each = subst (λ (ys : List Entry). AreGroups b ys closed standing.tables then) (sym entries) (groups_then g' es' o a);
          shown = λ given running. subst (λ (ys : List Entry). AreShown b ys standing.indexes then) (sym entries) (shown_now g' es' o a running (k.shown given running));
          server = subst (λ (ys : List Entry). IsServer d b premise (HasServerParts d b sound catalog then) disk ys late closed) (sym entries)
              (server_goes d tells_left up_to_now b premise (HasServerParts d b sound catalog groups) (HasServerParts d b sound catalog then) disk es late closed k.server e at quiet may unshut (λ running goes. goes_then g' es' o a running by goes));
          room = room_set groups place g g' l is closed trail trail' k.room less;
          blamed = subst (λ (ys : List Entry). has_told ys ≡ true → HasFailed d disk) (sym entries) blames;
          last_call = k.last_call;
          others = λ given tells. subst (λ (ys : List Entry). OthersStay d b began disk ys) (sym entries) (others_more d b began es (e ∷ []) disk (k.others given tells));
        })
