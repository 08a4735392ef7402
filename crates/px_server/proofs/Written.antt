-- A step of the files of one region of one group, whichever it is, after which the region has other contents: the server then.
--
-- `next` is what they become. Where each image that a stop may leave of the step is told by itself, as the files of a region that forgets are,
-- `kept_each` and `shut_each` are the server then; the others are for steps that leave the one contents or the other.
use Rattle.std.proofs.Common.{◌≡◌, ◌≢◌, ◌<◌, ◌≤◌, ◌+◌, ◌⊎◌, ℕ, true, false, Option, Some, None, List, [], ◌∷◌, ◌++◌, length, get_or, map, refl, sym, ap, subst, ◌∙◌, arith}
use Rattle.std.specs.Prelude.{IsTrue}
use Rattle.std.specs.List.{AllByRecursion, slice_set}
use Rattle.std.proofs.lemmas.List.Sums.{sum_by-set}
use Rattle.px_outside.specs.Disk.{Image, IsLeftBy}
use Rattle.px_outside.specs.OnDisk.{LeavesOnly, Passes, Rose, TouchesOnly}
use Rattle.px_outside.specs.Parts.{AreDistinct, with_part}
use Rattle.px_outside.specs.Standing.{StandsIn}
use Rattle.px_outside.specs.declared.disk.Disk.{Ghosts}
use Rattle.px_tables.specs.declared.index.Index.{Index}
use Rattle.px_tables.specs.declared.table.Table.{Table}
use Rattle.px_values.specs.declared.name.TableId.{TableId}
use Rattle.px_trail.specs.declared.entry.Act.{Act}
use Rattle.px_trail.specs.declared.entry.Act.TheVariants.{Shut}
use Rattle.px_trail.specs.declared.entry.Entry.{Entry}
use Rattle.px_trail.specs.Lasting.{lasting}
use Rattle.px_trail.specs.Legal.{Follows, MayCome}
use Rattle.px_trail.specs.Recorded.{Recorded}
use Rattle.px_trail.specs.Trail.{Base, Catalogue, catalogue_of, catalogue_step, closing_step, open_points, points_step}
use Rattle.px_trail.proofs.Growth.{catalogue-snoc, legal-snoc, points-snoc}
use Rattle.px_wal.specs.Files.{HasFile}
use Rattle.px_region.specs.Region.{RegionData, RegionHolds, RegionStands}
use Rattle.px_region.specs.declared.region.Region.{Region}
use Rattle.px_region.proofs.Holding.{holds_stands}
use Rattle.px_indexed.specs.Idle.{IsElsewhere}
use Rattle.px_groupworld.specs.Group.{GroupData}
use Rattle.px_openbatches.specs.Pending.{HeldBatch}
use Rattle.px_schema.specs.declared.standing.Standing.{Standing}
use Rattle.px_catalog.specs.Catalogue.{standing_of}
use Rattle.px_catalog.specs.declared.catalog.Catalog.{Catalog}
use Rattle.px_group.specs.Group.{AreStanding, AreTraced, IsRightGroup, IsTallied, points_in}
use Rattle.px_group.specs.declared.group.Group.{Group}
use Rattle.px_batching.proofs.Traced.{traced_idle, traced_of}
use Rattle.px_defined.specs.Defined.{HasOnce}
use Rattle.px_noting.proofs.Others.{apart_points}
use Rattle.px_recovery.specs.Folder.{FolderData, StandsOn, with_region}
use Rattle.px_recovery.specs.Kept.{FolderGoesOn, IsServer, LeavesFolder, MovesFolder}
use Rattle.px_recovery.specs.Stands.{AreNumbered, Explains, StandsAfter, TellsCatalogue}
use Rattle.px_recovery.proofs.Regions.{moved_at, moves_at}
use Rattle.px_recovery.proofs.Server.{newest_early}
use Rattle.px_standing.specs.Agrees.{Agrees}
use Rattle.px_server.specs.Kept.{AreGroups, AreShown, HasBegun, HasFailed, HasPoints, HasServerParts, HasShown, HasTallied, HasTrailRoom, IsKept, IsOnDisk, IsShutAt, IsTold, has_told, number_in, owed, spare, table_in_group, tells_fault}
use Rattle.px_server.specs.Others.{Beginning, IsRegion, OthersStay}
use Rattle.px_server.proofs.Beside.{once_then, points_then, right_then, shown_then, tallied_then}
use Rattle.px_server.proofs.Blamed.{blamed_on, blamed_quiet, failed_rose}
use Rattle.px_server.proofs.Changed.{changed_server, halted_server, lasting_server, late_entry, noted_step, shut_server, stepped_server}
use Rattle.px_server.proofs.Elsewhere.{GoesOnIn, IsOfTable, no_entry, one_entry}
use Rattle.px_server.proofs.Framed.{catalogue_framed, group_framed}
use Rattle.px_server.proofs.Lists.{all_at, all_both, all_set, all_weaker, map_set}
use Rattle.px_server.proofs.Numbers.{LacksNumber}
use Rattle.px_server.proofs.OpenBatches.{all_begun, begun_elsewhere, begun_same, stamp_in}
use Rattle.px_server.proofs.Others.{others_more, others_on, own_file}
use Rattle.px_server.proofs.Pointed.{distinct_groups}
use Rattle.px_server.proofs.Stopped.{call_is, none_some}

-- the group shows other data
pub record ShowsThen (b : Base) (es' : List Entry) (indexes : List Index) (v : ℕ → GroupData) (t : ℕ) (g' : Group) : Type 0 where
  pub table_data : GroupData
  pub has : HasShown b es' indexes (with_part v t table_data) g'

-- the folder is told with other contents of one region, and other data of the table
pub record TellsThen (b : Base) (es' : List Entry) (f' : FolderData) (v : ℕ → GroupData) (t : ℕ) : Type 0 where
  pub table_data : GroupData
  pub explains : Explains b es' f' (with_part v t table_data)

-- and the group shows these
pub record MovesThen (b : Base) (es' : List Entry) (indexes : List Index) (f' : FolderData) (v : ℕ → GroupData) (t : ℕ) (g' : Group) : Type 0 where
  pub table_data : GroupData
  pub explains : Explains b es' f' (with_part v t table_data)
  pub has : HasShown b es' indexes (with_part v t table_data) g'

-- a closing changes no definition
still_by : (act : Act) (call : ℕ) → act ≡ Shut call → (c : Catalogue) → catalogue_step c act ≡ c
unfolding catalogue_step
still_by act call is c = ap (λ (a : Act). catalogue_step c a) is

module _ {D : Type 0} (d : Ghosts D) (tells_left : (x : D) (moment file : ℕ) (bytes : List ℕ) → d.left x moment file bytes → IsTrue d.tells)
    (up_to_now : (x : D) (moment file : ℕ) (bytes : List ℕ) → d.left x moment file bytes → moment ≤ d.calls x) (b : Base) (sound premise : Type 0) (began : Beginning)
    (disk : D) (catalog : Catalog) (standing : Standing) (groups : List Group) (trail : Recorded) (late : Option Entry) (closed : Option ℕ) (k : IsKept d b sound premise began disk catalog standing groups trail late closed)
    (running : closed ≡ None) (place : ℕ) (g g' : Group) (l : place < length groups) (is : get_or groups place g ≡ g) (table : g'.table ≡ g.table) (points : g'.points ≡ g.points)
    (disk' : D) (old new : Region) (next : RegionData → RegionData) (number : new.number ≡ old.number) (touches : (s : RegionData) → RegionHolds d old disk s → TouchesOnly d disk disk' (HasFile old.number)) (counts : Passes d disk disk' 4)
    (lacks : (s : Standing) → TellsCatalogue s (catalogue_of b trail.entries) → AreNumbered s → (h : Group) → IsRightGroup h → AreStanding b trail.entries h → number_in h ≢ number_in g → LacksNumber old.number h)
    (drawn : (s : Standing) → TellsCatalogue s (catalogue_of b trail.entries) → AreNumbered s → (1 ≤ old.number) × (old.number < s.next))
    (holds : (f : FolderData) → IsOnDisk d disk f g → RegionHolds d old disk (f.regions old.number)) (stands : IsRegion (catalogue_of b trail.entries) old.number) where
  abbrev es : List Entry
  es = trail.entries

  abbrev t : ℕ
  t = number_in g

  abbrev then : List Group
  then = slice_set groups place g'

  abbrev changed : FolderData → FolderData
  changed f = with_region old.number (next (f.regions old.number)) f

  -- a stop leaves the one or the other
  abbrev Leaves : Type 0
  Leaves = (s : RegionData) → RegionHolds d old disk s → LeavesOnly d disk disk' (λ moment image. RegionStands old.number image s ⊎ RegionStands old.number image (next s))

  once : AreDistinct number_in groups
  once = distinct_groups groups standing (catalogue_of b es) k.told.agrees k.each.stand

  own : (P : Group → Type 0) → AllByRecursion P groups → P g
  own P all = all_at P groups place g l is all

  stand_then : map table_in_group then ≡ standing.tables
  stand_then = map_set table_in_group groups place g g' l is table ∙ k.each.stand

  -- ---- the disk

  holds_now : (goes : FolderGoesOn d b (HasServerParts d b sound catalog groups) disk es) → RegionHolds d old disk (goes.folder.regions old.number)
  holds_now goes = holds goes.folder (own (IsOnDisk d disk goes.folder) goes.has.regions)

  drawn_now : (goes : FolderGoesOn d b (HasServerParts d b sound catalog groups) disk es) → (1 ≤ old.number) × (old.number < goes.folder.standing.next)
  drawn_now goes = drawn goes.folder.standing goes.explains.catalogue goes.explains.numbered

  past : premise → IsTrue d.tells → (moment : ℕ) (image : Image) → moment < d.calls disk → IsLeftBy d.left disk' moment image → IsLeftBy d.left disk moment image
  past given tells moment image before left file = (let
      goes = k.server.goes_on running given tells
      in (touches (goes.folder.regions old.number) (holds_now goes)).past moment file (image file) before (left file))

  others_on_disk : premise → IsTrue d.tells → OthersStay d b began disk' es
  others_on_disk given tells = (let
      goes = k.server.goes_on running given tells
      in others_on d b began es disk disk' (HasFile old.number) (own_file b es old.number stands) (touches (goes.folder.regions old.number) (holds_now goes)) (k.others given tells))

  left_now : Leaves → (es' : List Entry) (goes : FolderGoesOn d b (HasServerParts d b sound catalog groups) disk es) → TellsThen b es' (changed goes.folder) goes.groups t → LeavesFolder d b disk disk' es' goes.folder
  left_now leaves es' goes tells = (let
      s = goes.folder.regions old.number
      in record {
        folder = changed goes.folder;
        groups = with_part goes.groups t tells.table_data;
        leaves = moves_at d disk disk' goes.folder goes.stands old.number (drawn_now goes).0 (drawn_now goes).1 (next s) (touches s (holds_now goes)) (leaves s (holds_now goes));
        explains = tells.explains;
      })

  room_then : (closed' : Option ℕ) (trail' : Recorded) → spare closed' + owed g' + trail.room ≤ spare closed + owed g + trail'.room → HasTrailRoom closed' then trail'
  room_then closed' trail' le = (let
      one = sum_by-set owed groups place g' g l
      in let
      was : owed (get_or groups place g) ≡ owed g = ap owed is
      in let
      before = k.room
      in omega (arith, one, was, before, le))

  points_stay : HasPoints es g'
  points_stay seat s = (let mine = own (HasPoints es) k.each.points in ap (λ (x : Table). open_points seat x.id.0 s es) table ∙ (mine seat s ∙ ap (λ p. points_in seat s p.items) (sym points)))

  -- ---- all calls succeeded

  module _ (es' : List Entry) (by : GoesOnIn b es es' t) (right : IsRightGroup g') (next_held : List HeldBatch → List HeldBatch) (tallied : (hs : List HeldBatch) → IsTallied b es g hs → IsTallied b es' g' (next_held hs)) (only : HasOnce g → HasOnce g') (points' : HasPoints es' g')
      (goes_on : (s : RegionData) → RegionHolds d old disk s → RegionHolds d new disk' (next s)) (on_disk : (f : FolderData) → TellsCatalogue f.standing (catalogue_of b es) → AreNumbered f.standing → IsOnDisk d disk f g → IsOnDisk d disk' (changed f) g')
      (shows : sound → (indexes : List Index) (v : ℕ → GroupData) → HasShown b es indexes v g → ShowsThen b es' indexes v t g')
      (moves : sound → (f : FolderData) (v : ℕ → GroupData) → Explains b es f v → IsOnDisk d disk f g → HasShown b es f.standing.indexes v g → MovesThen b es' f.standing.indexes (changed f) v t g') where
    told_then : IsTold b es' closed (standing_of catalog) standing
    told_then = record {
      base = k.told.base;
      low = k.told.low;
      legal = by.legal;
      closing = by.closing (k.told.closing ∙ running) ∙ sym running;
      agrees = subst (λ (c : Catalogue). Agrees standing c) (sym by.catalogue) k.told.agrees;
      same = k.told.same;
    }

    groups_then : AreGroups b es' closed standing.tables then
    groups_then = record {
      stand = stand_then;
      points = points_then b es es' groups once place g g' l is by.others k.each.points points';
      right = λ open_. right_then b es es' groups once place g g' l is by.others (k.each.right open_) right;
      tallied = λ open_. (let
          mine = own (HasTallied b es) (k.each.tallied open_)
          in tallied_then b es es' groups once place g g' l is by.others (k.each.tallied open_) (record { held = next_held mine.held; tallied = tallied mine.held mine.tallied }));
      once = λ open_. once_then b es es' groups once place g g' l is by.others (k.each.once open_) (only (own HasOnce (k.each.once open_)));
      traced = λ call shut. absurd (let no : None ≡ Some call = sym running ∙ shut in cc);
      begun = λ call shut. absurd (let no : None ≡ Some call = sym running ∙ shut in cc);
    }

    shown_set : (indexes : List Index) (v : ℕ → GroupData) (w : GroupData) → HasShown b es' indexes (with_part v t w) g' → AllByRecursion (HasShown b es indexes v) groups → AllByRecursion (HasShown b es' indexes (with_part v t w)) then
    shown_set indexes v w here all = shown_then b es es' groups once place g g' l is by.others (k.each.right running) indexes v w all here

    shown_now : sound → closed ≡ None → AreShown b es' standing.indexes then
    shown_now given open_ = (let
        s = k.shown given open_
        in let
        w = shows given standing.indexes s.told (own (HasShown b es standing.indexes s.told) s.each)
        in record { told = with_part s.told t w.table_data; each = shown_set standing.indexes s.told w.table_data w.has s.each })

    regions_then : (goes : FolderGoesOn d b (HasServerParts d b sound catalog groups) disk es) → AllByRecursion (IsOnDisk d disk' (changed goes.folder)) then
    regions_then goes = (let
        f = goes.folder
        in let
        s = f.regions old.number
        in let
        Was : Group → Type 0 = λ h. IsOnDisk d disk f h × (IsRightGroup h × HasTallied b es h)
        in let
        all : AllByRecursion Was groups = all_both (IsOnDisk d disk f) (λ h. IsRightGroup h × HasTallied b es h) groups goes.has.regions (all_both IsRightGroup (HasTallied b es) groups (k.each.right running) (k.each.tallied running))
        in all_set number_in Was (IsOnDisk d disk' (changed f)) groups place g g' l is once
        (λ h other a. group_framed d disk disk' old.number (touches s (holds_now goes)) f (next s) h (lacks f.standing goes.explains.catalogue goes.explains.numbered h a.1.0 a.1.1.tallied.standing other) a.0)
        (on_disk f goes.explains.catalogue goes.explains.numbered (own (IsOnDisk d disk f) goes.has.regions)) all)

    -- the disk after them
    stands_then : (goes : FolderGoesOn d b (HasServerParts d b sound catalog groups) disk es) → StandsOn d disk' (changed goes.folder)
    stands_then goes = (let
        s = goes.folder.regions old.number
        in let
        here = subst (λ (n : ℕ). StandsIn d disk' (HasFile n) (λ image. RegionStands n image (next s))) number (holds_stands d new disk' (next s) (goes_on s (holds_now goes)))
        in moved_at d disk disk' goes.folder goes.stands old.number (drawn_now goes).0 (drawn_now goes).1 (next s) (touches s (holds_now goes)) here)

    moves_now : (goes : FolderGoesOn d b (HasServerParts d b sound catalog groups) disk es) → MovesThen b es' goes.folder.standing.indexes (changed goes.folder) goes.groups t g'
    moves_now goes = moves goes.has.given goes.folder goes.groups goes.explains (own (IsOnDisk d disk goes.folder) goes.has.regions) (own (HasShown b es goes.folder.standing.indexes goes.groups) goes.has.shown)

    has_then : (goes : FolderGoesOn d b (HasServerParts d b sound catalog groups) disk es) → HasServerParts d b sound catalog then disk' es' (changed goes.folder) (with_part goes.groups t (moves_now goes).table_data)
    has_then goes = record {
      given = goes.has.given;
      stored = catalogue_framed d disk disk' old.number (touches (goes.folder.regions old.number) (holds_now goes)) catalog (drawn_now goes).0 goes.has.stored;
      standing = goes.has.standing;
      regions = regions_then goes;
      shown = shown_set goes.folder.standing.indexes goes.groups (moves_now goes).table_data (moves_now goes).has goes.has.shown;
    }

    moves_then : Leaves → (goes : FolderGoesOn d b (HasServerParts d b sound catalog groups) disk es) → MovesFolder d b (HasServerParts d b sound catalog then) disk disk' es' goes.folder
    unfolding left_now
    moves_then leaves goes = record { left = left_now leaves es' goes (record { table_data = (moves_now goes).table_data; explains = (moves_now goes).explains }); on = stands_then goes; has = has_then goes }

    -- the same without a word of stops
    goes_then : (goes : FolderGoesOn d b (HasServerParts d b sound catalog groups) disk es) → FolderGoesOn d b (HasServerParts d b sound catalog then) disk' es'
    goes_then goes = record { folder = changed goes.folder; groups = with_part goes.groups t (moves_now goes).table_data; stands = stands_then goes; explains = (moves_now goes).explains; has = has_then goes }

    -- the rest, once the server's promise on stops is told
    finish : IsServer d b premise (HasServerParts d b sound catalog then) disk' es' late closed → (has_told es' ≡ true → HasFailed d disk') → (premise → IsTrue d.tells → OthersStay d b began disk' es') → (trail' : Recorded) → trail'.entries ≡ es' → owed g' + trail.room ≤ owed g + trail'.room → IsKept d b sound premise began disk' catalog standing then trail' late closed
    finish server blamed others trail' entries room = record {
      told = subst (λ (ys : List Entry). IsTold b ys closed (standing_of catalog) standing) (sym entries) told_then;
      each = subst (λ (ys : List Entry). AreGroups b ys closed standing.tables then) (sym entries) groups_then;
      shown = λ given open_. subst (λ (ys : List Entry). AreShown b ys standing.indexes then) (sym entries) (shown_now given open_);
      server = subst (λ (ys : List Entry). IsServer d b premise (HasServerParts d b sound catalog then) disk' ys late closed) (sym entries) server;
      room = room_then closed trail' (omega (arith, room));
      blamed = subst (λ (ys : List Entry). has_told ys ≡ true → HasFailed d disk') (sym entries) blamed;
      last_call = λ c same. absurd (none_some c (sym running ∙ same));
      others = λ given tells. subst (λ (ys : List Entry). OthersStay d b began disk' ys) (sym entries) (others given tells);
    }

  module _ (right : IsRightGroup g') (next_held : List HeldBatch → List HeldBatch) (only : HasOnce g → HasOnce g') (goes_on : (s : RegionData) → RegionHolds d old disk s → RegionHolds d new disk' (next s))
      (on_disk : (f : FolderData) → TellsCatalogue f.standing (catalogue_of b es) → AreNumbered f.standing → IsOnDisk d disk f g → IsOnDisk d disk' (changed f) g') where
    -- and no entry is added
    pub handed : Leaves → (tallied : (hs : List HeldBatch) → IsTallied b es g hs → IsTallied b es g' (next_held hs)) → (shows : sound → (indexes : List Index) (v : ℕ → GroupData) → HasShown b es indexes v g → ShowsThen b es indexes v t g')
        → (moves : sound → (f : FolderData) (v : ℕ → GroupData) → Explains b es f v → IsOnDisk d disk f g → HasShown b es f.standing.indexes v g → MovesThen b es f.standing.indexes (changed f) v t g') → owed g' ≤ owed g
        → IsKept d b sound premise began disk' catalog standing then trail late closed
    handed leaves tallied shows moves room = (let
        by = no_entry b es k.told.legal t
        in finish es by right next_held tallied only points_stay goes_on on_disk shows moves
        (changed_server d tells_left up_to_now b premise (HasServerParts d b sound catalog groups) (HasServerParts d b sound catalog then) disk es late closed k.server running disk' counts.later past
        (moves_then es by right next_held tallied only points_stay goes_on on_disk shows moves leaves))
        (blamed_on d disk disk' es counts.later counts.faults_later k.blamed) others_on_disk trail refl (omega (arith, room)))

    -- the same where each image that a stop may leave is told by itself
    pub kept_each : ((goes : FolderGoesOn d b (HasServerParts d b sound catalog groups) disk es) → (moment : ℕ) (image : Image) → d.calls disk ≤ moment → IsLeftBy d.left disk' moment image → StandsAfter b es image)
        → (tallied : (hs : List HeldBatch) → IsTallied b es g hs → IsTallied b es g' (next_held hs)) → (shows : sound → (indexes : List Index) (v : ℕ → GroupData) → HasShown b es indexes v g → ShowsThen b es indexes v t g')
        → (moves : sound → (f : FolderData) (v : ℕ → GroupData) → Explains b es f v → IsOnDisk d disk f g → HasShown b es f.standing.indexes v g → MovesThen b es f.standing.indexes (changed f) v t g') → owed g' ≤ owed g
        → IsKept d b sound premise began disk' catalog standing then trail late closed
    kept_each images tallied shows moves room = (let
        by = no_entry b es k.told.legal t
        in finish es by right next_held tallied only points_stay goes_on on_disk shows moves
        (stepped_server d tells_left up_to_now b premise (HasServerParts d b sound catalog groups) (HasServerParts d b sound catalog then) disk es late closed k.server running disk' counts.later past images
        (goes_then es by right next_held tallied only points_stay goes_on on_disk shows moves))
        (blamed_on d disk disk' es counts.later counts.faults_later k.blamed) others_on_disk trail refl (omega (arith, room)))

    -- and an entry that lasts comes with them
    module _ (e : Entry) (lasts : lasting e ≡ true) (at : e.calls ≡ d.calls disk') (of : IsOfTable b es t e) (quiet : tells_fault e.act ≡ false) where
      abbrev es' : List Entry
      es' = es ++ e ∷ []

      pub handed_told : Leaves → (tallied : (hs : List HeldBatch) → IsTallied b es g hs → IsTallied b es' g' (next_held hs)) → (points' : HasPoints es' g') → (shows : sound → (indexes : List Index) (v : ℕ → GroupData) → HasShown b es indexes v g → ShowsThen b es' indexes v t g')
          → (moves : sound → (f : FolderData) (v : ℕ → GroupData) → Explains b es f v → IsOnDisk d disk f g → HasShown b es f.standing.indexes v g → MovesThen b es' f.standing.indexes (changed f) v t g')
          → (trail' : Recorded) → trail'.entries ≡ es' → owed g' + trail.room ≤ owed g + trail'.room → IsKept d b sound premise began disk' catalog standing then trail' late closed
      handed_told leaves tallied points' shows moves trail' entries room = (let
          by = one_entry b es k.told.legal t e of
          in finish es' by right next_held tallied only points' goes_on on_disk shows moves
          (lasting_server d tells_left up_to_now b premise (HasServerParts d b sound catalog groups) (HasServerParts d b sound catalog then) disk es late closed k.server running disk' counts.later past counts.at_most e lasts at of.may of.unshut
          (moves_then es' by right next_held tallied only points' goes_on on_disk shows moves leaves))
          (blamed_quiet d disk' es e quiet (blamed_on d disk disk' es counts.later counts.faults_later k.blamed))
          (λ given tells. others_more d b began es (e ∷ []) disk' (others_on_disk given tells)) trail' entries room)

    -- and an entry that doesn't last comes after them: the folder is told without it too
    module _ (e : Entry) (quiet : lasting e ≡ false) (at : e.calls ≡ d.calls disk') (of : IsOfTable b es t e) (calm : tells_fault e.act ≡ false) where
      abbrev noted : List Entry
      noted = es ++ e ∷ []

      pub handed_noted : Leaves → (tallied : (hs : List HeldBatch) → IsTallied b es g hs → IsTallied b noted g' (next_held hs)) → (points' : HasPoints noted g') → (shows : sound → (indexes : List Index) (v : ℕ → GroupData) → HasShown b es indexes v g → ShowsThen b noted indexes v t g')
          → (tells : sound → (f : FolderData) (v : ℕ → GroupData) → Explains b es f v → IsOnDisk d disk f g → HasShown b es f.standing.indexes v g → TellsThen b es (changed f) v t)
          → (moves : sound → (f : FolderData) (v : ℕ → GroupData) → Explains b es f v → IsOnDisk d disk f g → HasShown b es f.standing.indexes v g → MovesThen b noted f.standing.indexes (changed f) v t g')
          → (trail' : Recorded) → trail'.entries ≡ noted → owed g' + trail.room ≤ owed g + trail'.room → IsKept d b sound premise began disk' catalog standing then trail' late closed
      unfolding left_now moves_then
      handed_noted leaves tallied points' shows tells moves trail' entries room = (let
          by = one_entry b es k.told.legal t e of
          in finish noted by right next_held tallied only points' goes_on on_disk shows moves
          (noted_step d tells_left up_to_now b premise (HasServerParts d b sound catalog groups) (HasServerParts d b sound catalog then) disk es late closed k.server running disk' counts.later past e quiet at of.may (ap (λ (o : Option ℕ). closing_step o e.act) running ∙ (of.unshut ∙ sym running))
          (λ goes. left_now leaves es goes (tells goes.has.given goes.folder goes.groups goes.explains (own (IsOnDisk d disk goes.folder) goes.has.regions) (own (HasShown b es goes.folder.standing.indexes goes.groups) goes.has.shown)))
          (λ goes. (moves_then noted by right next_held tallied only points' goes_on on_disk shows moves leaves goes).on)
          (moves_then noted by right next_held tallied only points' goes_on on_disk shows moves leaves))
          (blamed_quiet d disk' es e calm (blamed_on d disk disk' es counts.later counts.faults_later k.blamed))
          (λ given tells. others_more d b began es (e ∷ []) disk' (others_on_disk given tells)) trail' entries room)

  -- ---- a call failed

  module _ (shut : Entry) (call : ℕ) (shut_is : IsShutAt shut call) (called : call ≡ d.calls disk') (rose : Rose d disk disk') (traced : AreTraced es g → AreTraced es g') (stamps : map stamp_in g'.batches.items ≡ map stamp_in g.batches.items) (trail' : Recorded) (entries : trail'.entries ≡ es ++ shut ∷ [])
      (room : owed g' + trail.room ≤ owed g + trail'.room + 1) where
    abbrev ended : List Entry
    ended = es ++ shut ∷ []

    shut-is : shut.act ≡ Shut call
    shut-is = ap (λ (e : Entry). e.act) shut_is

    shut_at : shut.calls ≡ d.calls disk'
    shut_at = ap (λ (e : Entry). e.calls) shut_is ∙ called

    shut_may : MayCome b es shut
    unfolding Follows
    shut_may = record {
      follows = subst (λ (a : Act). Follows b es shut.seat shut.calls a) (sym shut-is) tt;
      shut = λ past_shut. k.told.closing ∙ running;
      calls = (let n = newest_early (d.calls disk) 0 es (omega arith) k.server.early in let c = counts.later in omega (arith, n, c, shut_at));
    }

    shut_elsewhere : (id : TableId) → IsElsewhere id shut.act
    shut_elsewhere id = subst (λ (a : Act). IsElsewhere id a) (sym shut-is) tt

    traced_then : AllByRecursion (AreTraced ended) then
    traced_then = (let
        were : AllByRecursion (AreTraced es) groups = all_weaker (λ h. IsRightGroup h × HasTallied b es h) (AreTraced es) (λ h a. traced_of b es h a.1.held a.0 a.1.tallied) groups (all_both IsRightGroup (HasTallied b es) groups (k.each.right running) (k.each.tallied running))
        in all_set number_in (AreTraced es) (AreTraced ended) groups place g g' l is once (λ h other a. traced_idle es shut h (shut_elsewhere h.table.id) a) (traced_idle es shut g' (shut_elsewhere g'.table.id) (traced (own (AreTraced es) were))) were)

    begun_ended : AllByRecursion (HasBegun ended) then
    begun_ended = (let
        were : AllByRecursion (HasBegun es) groups = all_begun b es groups (k.each.tallied running)
        in all_set number_in (HasBegun es) (HasBegun ended) groups place g g' l is once (λ h other a. begun_elsewhere es h shut (shut_elsewhere h.table.id) a)
        (begun_elsewhere es g' shut (shut_elsewhere g'.table.id) (begun_same es g g' table stamps (own (HasBegun es) were))) were)

    points_ended : (h : Group) → HasPoints es h → HasPoints ended h
    points_ended h p seat s = (let
        same = points-snoc seat h.table.id.0 s es shut
        in same ∙ (subst (λ (a : Act). points_step seat h.table.id.0 s (open_points seat h.table.id.0 s es) shut.seat a ≡ open_points seat h.table.id.0 s es) (sym shut-is)
        (apart_points h.table.id seat s (open_points seat h.table.id.0 s es) shut.seat (Shut call) tt) ∙ p seat s))

    closed_then : (o : Option Entry) → IsServer d b premise (HasServerParts d b sound catalog then) disk' ended o (Some call) → IsKept d b sound premise began disk' catalog standing then trail' o (Some call)
    closed_then o server = (let
        told : IsTold b ended (Some call) (standing_of catalog) standing = record {
          base = k.told.base;
          low = k.told.low;
          legal = legal-snoc b es shut k.told.legal shut_may;
          closing = server.closing;
          agrees = subst (λ (c : Catalogue). Agrees standing c) (sym (catalogue-snoc b es shut ∙ still_by shut.act call shut-is (catalogue_of b es))) k.told.agrees;
          same = λ none. absurd cc;
        }
        in let
        each : AreGroups b ended (Some call) standing.tables then = record {
          stand = stand_then;
          points = all_set number_in (HasPoints es) (HasPoints ended) groups place g g' l is once (λ h other p. points_ended h p) (points_ended g' points_stay) k.each.points;
          right = λ none. absurd cc;
          tallied = λ none. absurd cc;
          once = λ none. absurd cc;
          traced = λ c same. traced_then;
          begun = λ c same. begun_ended;
        }
        in record {
          told = subst (λ (ys : List Entry). IsTold b ys (Some call) (standing_of catalog) standing) (sym entries) told;
          each = subst (λ (ys : List Entry). AreGroups b ys (Some call) standing.tables then) (sym entries) each;
          shown = λ given none. absurd cc;
          server = subst (λ (ys : List Entry). IsServer d b premise (HasServerParts d b sound catalog then) disk' ys o (Some call)) (sym entries) server;
          room = room_then (Some call) trail' (let s : spare closed ≡ 1 = ap spare running in omega (arith, room, s));
          blamed = λ told_of. failed_rose d disk disk' rose;
          last_call = λ c same. call_is c call same ∙ called;
          others = λ given tells. subst (λ (ys : List Entry). OthersStay d b began disk' ys) (sym entries) (others_more d b began es (shut ∷ []) disk' (others_on_disk given tells));
        })

    -- with nothing under way
    pub handed_shut : Leaves → (sound → (f : FolderData) (v : ℕ → GroupData) → Explains b es f v → IsOnDisk d disk f g → HasShown b es f.standing.indexes v g → TellsThen b es (changed f) v t) → IsKept d b sound premise began disk' catalog standing then trail' None (Some call)
    handed_shut leaves tells =
        closed_then None (shut_server d tells_left up_to_now b premise (HasServerParts d b sound catalog groups) (HasServerParts d b sound catalog then) disk es late closed k.server running disk' counts.later past shut call shut-is shut_at
        (λ goes. left_now leaves es goes (tells goes.has.given goes.folder goes.groups goes.explains (own (IsOnDisk d disk goes.folder) goes.has.regions) (own (HasShown b es goes.folder.standing.indexes goes.groups) goes.has.shown))))

    -- the same where each image is told by itself
    pub shut_each : ((goes : FolderGoesOn d b (HasServerParts d b sound catalog groups) disk es) → (moment : ℕ) (image : Image) → d.calls disk ≤ moment → IsLeftBy d.left disk' moment image → StandsAfter b es image)
        → IsKept d b sound premise began disk' catalog standing then trail' None (Some call)
    shut_each images =
        closed_then None (halted_server d tells_left up_to_now b premise (HasServerParts d b sound catalog groups) (HasServerParts d b sound catalog then) disk es late closed k.server running disk' counts.later past images shut call shut-is shut_at)

    -- with an entry that is late
    pub handed_late : Leaves → (u : Entry) → lasting u ≡ true → u.calls ≡ d.calls disk' → MayCome b es u
        → ((f : FolderData) (v : ℕ → GroupData) → Explains b es f v → IsOnDisk d disk f g → HasShown b es f.standing.indexes v g → TellsThen b (es ++ u ∷ []) (changed f) v t) → IsKept d b sound premise began disk' catalog standing then trail' (Some u) (Some call)
    handed_late leaves u lasts at may tells =
        closed_then (Some u) (late_entry d tells_left up_to_now b premise (HasServerParts d b sound catalog groups) (HasServerParts d b sound catalog then) disk es late closed k.server running disk' counts.later past shut call shut-is shut_at counts.at_most u lasts at may
        (λ goes. left_now leaves (es ++ u ∷ []) goes (tells goes.folder goes.groups goes.explains (own (IsOnDisk d disk goes.folder) goes.has.regions) (own (HasShown b es goes.folder.standing.indexes goes.groups) goes.has.shown))))
