-- A definition: one record is written to the catalogue, and what is true of a server stays so. A lemma of a definition owes what becomes of
-- its own table's group; the groups of all other tables go on here.
use Rattle.std.proofs.Common.{◌≡◌, ◌≢◌, ◌<◌, ◌≤◌, ◌⊎◌, inl, inr, ℕ, suc, Bool, true, false, Option, Some, None, List, [], ◌∷◌, ◌++◌, map, slice_get, get_or, refl, sym, ap, subst, ◌∙◌, arith}
use Rattle.std.specs.Prelude.{IsTrue, if◌then◌else◌, ◌==◌}
use Rattle.std.specs.List.{AllByRecursion}
use Rattle.px_outside.specs.Disk.{Image, IsLeftBy}
use Rattle.px_outside.specs.OnDisk.{LeavesOnly, Passes, TouchesOnly}
use Rattle.px_outside.specs.Standing.{StandsIn}
use Rattle.px_outside.specs.declared.disk.Disk.{Ghosts}
use Rattle.px_outside.proofs.Moments.{only_kept}
use Rattle.px_values.specs.declared.name.TableId.{TableId}
use Rattle.px_tables.specs.declared.index.Index.{Index}
use Rattle.px_tables.specs.declared.table.Table.{Table}
use Rattle.px_trail.specs.declared.entry.Entry.{Entry}
use Rattle.px_trail.specs.Legal.{IsLegal, MayCome}
use Rattle.px_trail.specs.Recorded.{Recorded}
use Rattle.px_trail.specs.Trail.{Base, Catalogue, IsRightBase, catalogue_of, closing_step, open_points}
use Rattle.px_trail.proofs.Growth.{closing-snoc, legal-snoc, points-snoc}
use Rattle.px_wal.specs.Files.{HasFile}
use Rattle.px_region.proofs.Holding.{holds_kept}
use Rattle.px_schema.specs.Stands.{stands_after}
use Rattle.px_schema.specs.declared.item.CatalogItem.{CatalogItem}
use Rattle.px_schema.specs.declared.standing.Standing.{Standing}
use Rattle.px_schema.proofs.Numbers.{next_up}
use Rattle.px_catalog.specs.Catalogue.{CatalogueStands, HasCatalogue, catalogue_files, standing_of}
use Rattle.px_catalog.specs.declared.catalog.Catalog.{Catalog}
use Rattle.px_catalog.proofs.Holding.{catalogue_stands}
use Rattle.px_indexrow.specs.Form.{owns}
use Rattle.px_groupworld.specs.Group.{GroupData, no_part}
use Rattle.px_openbatches.specs.Pending.{HeldBatch}
use Rattle.px_tablereads.proofs.Tells.{quiet_written, told_same}
use Rattle.px_group.specs.Group.{AreStanding, IsRightGroup, IsRightPart, IsShownBy, IsTallied, form_of}
use Rattle.px_group.specs.declared.group.Group.{Group}
use Rattle.px_group.specs.declared.group.IndexRegion.{IndexRegion}
use Rattle.px_noting.proofs.Others.{apart_elsewhere, apart_points, tallied_apart}
use Rattle.px_noting.proofs.Shown.{shown_elsewhere}
use Rattle.px_reading.specs.Doubts.{IsToldBy}
use Rattle.px_defined.specs.Defined.{HasOnce}
use Rattle.px_defined.proofs.Lists.{all_at}
use Rattle.px_recovery.specs.Folder.{AreFresh, AreUnmade, FolderData, IsNumberAmong, from, region_numbers, with_standing}
use Rattle.px_recovery.specs.Kept.{FolderGoesOn, IsServer, LeavesFolder, MovesFolder}
use Rattle.px_recovery.specs.Stands.{Explains, TellsCatalogue, opened_index, opened_state}
use Rattle.px_recovery.specs.Tables.{IsRegionAmong, form_of_index, index_in}
use Rattle.px_recovery.proofs.Definitions.{catalogue_moved, catalogue_moves}
use Rattle.px_recovery.proofs.Numbered.{rows_number}
use Rattle.px_standing.specs.Agrees.{Agrees, opened_standing}
use Rattle.px_server.specs.Kept.{AreBuilt, AreGroups, AreShown, HasFailed, HasPoints, HasServerParts, HasShown, HasTallied, HasTrailRoom, IsKept, IsOnDisk, IsShutAt, IsTold, forms_in, has_told, number_in, table_in_group}
use Rattle.px_server.specs.Others.{Beginning, OthersStay}
use Rattle.px_server.proofs.Built.{built_as, built_elsewhere}
use Rattle.px_server.proofs.Changed.{lasting_server, late_entry}
use Rattle.px_server.proofs.Blamed.{blamed_on, blamed_quiet}
use Rattle.px_server.proofs.Defines.{Defines, defines_apart, defines_lasts, defines_none, defines_quiet, defines_unbased, defines_unshut, index_back, index_on, table_other}
use Rattle.px_server.proofs.Drawn.{named_after, regions_in}
use Rattle.px_server.proofs.Forms.{shown_forms, told_forms}
use Rattle.px_server.proofs.Others.{others_more, others_on}
use Rattle.px_server.proofs.Stopped.{none_some, stopped_same}

pub all_pairs : {A : Type 0} (P Q : A → Type 0) (xs : List A) → AllByRecursion P xs → AllByRecursion Q xs → AllByRecursion (λ x. P x × Q x) xs
all_pairs P Q [] p q = tt
all_pairs P Q (x ∷ xs) p q = ((p.0, q.0), all_pairs P Q xs p.1 q.1)

-- ---- how index rows are spelled, whatever the states of the indexes are

opened_form : (x : Table) (o : Option Index) → form_of_index x (opened_index o) ≡ form_of_index x o
unfolding owns
opened_form x None = refl
opened_form x (Some i) = refl

-- the list of indexes spells as the catalogue's
abbrev pub AreForms : List Index → Catalogue → Type 0
AreForms xs c = (x : Table) (n : ℕ) → form_of_index x (index_in xs n) ≡ form_of_index x (c.indexes n)

pub agreed_forms : (s : Standing) (c : Catalogue) → Agrees s c → AreForms s.indexes c
agreed_forms s c k x n = ap (form_of_index x) (k.indexes n)

pub told_catalogue : (s : Standing) (c : Catalogue) → TellsCatalogue s c → AreForms s.indexes c
told_catalogue s c k x n = sym (opened_form x (index_in s.indexes n)) ∙ (ap (form_of_index x) (k.indexes n) ∙ opened_form x (c.indexes n))

-- ---- the groups of other tables

module _ (b : Base) (right : IsRightBase b) (es : List Entry) (legal : IsLegal b es) (t : TableId) (e : Entry) (own : Defines t e.act) (may : MayCome b es e) where
  abbrev es' : List Entry
  es' = es ++ e ∷ []

  module _ (h : Group) (r : IsRightGroup h) (other : number_in h ≢ t.0) where
    part_of_it : (i : ℕ) (x : IndexRegion) → slice_get h.indexes.items i ≡ Some x → IsRightPart h.table x
    part_of_it i x at = all_at (IsRightPart h.table) h.indexes.items i x at r.parts

    not_own : (i : ℕ) (x : IndexRegion) → slice_get h.indexes.items i ≡ Some x → x.index.table.0 ≢ t.0
    not_own i x at same = other (ap (λ (y : TableId). y.0) (sym (part_of_it i x at).table) ∙ same)

    other_standing : AreStanding b es h → AreStanding b es' h
    other_standing k = record {
      table = table_other b right es legal t e own may h.table.id.0 other ∙ k.table;
      index = λ i x at. index_on b right es legal t e own may x.index.id.0 x.index (not_own i x at) (k.index i x at);
      all = λ y at of_table maintained. k.all y (index_back b right es legal t e own may y.id.0 y (λ same. other (sym of_table ∙ same)) at) of_table maintained;
    }

    pub other_tallied : (hs : List HeldBatch) → IsTallied b es h hs → IsTallied b es' h hs
    other_tallied hs k = tallied_apart b es h hs k e (defines_apart t e.act own h.table.id other) (other_standing k.standing)

    pub other_points : HasPoints es h → HasPoints es' h
    other_points same seat s = points-snoc seat h.table.id.0 s es e ∙ (apart_points h.table.id seat s (open_points seat h.table.id.0 s es) e.seat e.act (defines_apart t e.act own h.table.id other) ∙ same seat s)

    module _ (xs xs' : List Index) (forms : AreForms xs (catalogue_of b es)) (forms' : AreForms xs' (catalogue_of b es')) where
      same_forms : (k : AreStanding b es h) (i : ℕ) (x : IndexRegion) → slice_get h.indexes.items i ≡ Some x → forms_in xs' h.table x.index.id.0 ≡ forms_in xs h.table x.index.id.0
      same_forms k i x at =
          forms' h.table x.index.id.0 ∙ (ap (form_of_index h.table) (index_on b right es legal t e own may x.index.id.0 x.index (not_own i x at) (k.index i x at) ∙ sym (k.index i x at)) ∙ sym (forms h.table x.index.id.0))

      pub other_shown : (v v' : ℕ → GroupData) → v' h.table.id.0 ≡ v h.table.id.0 → HasShown b es xs v h → HasShown b es' xs' v' h
      other_shown v v' same p = (let
          now : IsShownBy b (forms_in xs' h.table) es h (v h.table.id.0) p.held =
          shown_forms b es h (forms_in xs h.table) (forms_in xs' h.table) (same_forms p.tallied.standing) (v h.table.id.0) p.held p.shown
          in let
          moved : IsShownBy b (forms_in xs' h.table) es' h (v h.table.id.0) p.held =
          shown_elsewhere b (forms_in xs' h.table) es h (v h.table.id.0) p.held now e may (apart_elsewhere h.table.id e.act (defines_apart t e.act own h.table.id other))
          in let
          told : IsToldBy b (forms_in xs' h.table) es h (v h.table.id.0) =
          told_forms b es h (forms_in xs h.table) (forms_in xs' h.table) (same_forms p.tallied.standing) (v h.table.id.0) p.told
          in record {
            held = p.held;
            tallied = other_tallied p.held p.tallied;
            shown = subst (λ (w : GroupData). IsShownBy b (forms_in xs' h.table) es' h w p.held) (sym same) moved;
            told = subst (λ (w : GroupData). IsToldBy b (forms_in xs' h.table) es' h w) (sym same) (record {
              told = told_same (form_of b (forms_in xs' h.table) h) es (v h.table.id.0) now.kept.group es' (v h.table.id.0) moved.kept.group told.told refl refl
                  (quiet_written (form_of b (forms_in xs' h.table) h) es (v h.table.id.0) now.kept.group e (defines_none t e.act own));
              own = told.own;
            });
            built = subst (λ (w : GroupData). AreBuilt (form_of b (forms_in xs' h.table) h) es' w) (sym same)
                (built_elsewhere (form_of b (forms_in xs' h.table) h) es (v h.table.id.0) now.kept.group e may (apart_elsewhere h.table.id e.act (defines_apart t e.act own h.table.id other)) (λ i l. defines_unbased t e.act own (get_or (v h.table.id.0).indexes i no_part).id)
                (built_as b es h (forms_in xs h.table) (forms_in xs' h.table) (same_forms p.tallied.standing) (v h.table.id.0) p.held p.shown p.built));
          })

-- ---- the regions of all groups

some_region : (o : Option Index) (x : Index) → opened_index o ≡ opened_index (Some x) → (z : Index) × ((o ≡ Some z) × (z.region ≡ x.region))
some_region None x is = absurd cc
some_region (Some z) x is = (let same : record z { state = opened_state z.state } ≡ record x { state = opened_state x.state } = cc in (z, (λ i. Some z, ap (λ (w : Index). w.region) same)))

if_index : (P : Index → Type 0) (y z : Index) (rest : Option Index) (c : Bool) → (if c then Some y else rest) ≡ Some z → P y → (rest ≡ Some z → P z) → P z
if_index P y z rest true is here there = (let same : y ≡ z = cc in subst P same here)
if_index P y z rest false is here there = there is

all_index : (P : Index → Type 0) (xs : List Index) (n : ℕ) (z : Index) → AllByRecursion P xs → index_in xs n ≡ Some z → P z
unfolding index_in
all_index P [] n z all is = absurd cc
all_index P (y ∷ xs) n z all is = if_index P y z (index_in xs n) (y.id.0 == n) is all.0 (λ later. all_index P xs n z all.1 later)

module _ {D : Type 0} (d : Ghosts D) (disk disk' : D) (touches : TouchesOnly d disk disk' catalogue_files) (b : Base) (es : List Entry) (f : FolderData) (v : ℕ → GroupData) (told : Explains b es f v) where
  away : (n file : ℕ) → 1 ≤ n → HasFile n file → catalogue_files file → ⊥
  away n file some own (inl is) = (let at = own.is in omega (arith, some, at, is))
  away n file some own (inr is) = (let at = own.is in omega (arith, some, at, is))

  not_fresh : (n file : ℕ) → 1 ≤ n → from n file → catalogue_files file → ⊥
  not_fresh n file some own (inl is) = omega (arith, some, own, is)
  not_fresh n file some own (inr is) = omega (arith, some, own, is)

  module _ (h : Group) (r : IsRightGroup h) (k : AreStanding b es h) where
    rows_some : 1 ≤ h.rows.number
    rows_some = (rows_number f.standing told.numbered h.table.id.0 h.rows.number h.table (told.catalogue.tables h.table.id.0 ∙ k.table) (subst (IsRegionAmong h.rows.number) (sym r.region) (inl refl))).0

    index_some : (i : ℕ) (x : IndexRegion) → slice_get h.indexes.items i ≡ Some x → 1 ≤ x.region.number
    index_some i x at = (let
        z = some_region (index_in f.standing.indexes x.index.id.0) x.index (told.catalogue.indexes x.index.id.0 ∙ ap opened_index (k.index i x at))
        in let
        some : 1 ≤ z.0.region = all_index (λ (y : Index). 1 ≤ y.region) f.standing.indexes x.index.id.0 z.0 told.numbered.some_index z.1.0
        in let
        part = all_at (IsRightPart h.table) h.indexes.items i x at r.parts
        in let
        number = part.number
        in let
        same = z.1.1
        in omega (arith, some, number, same))

    disk_kept : IsOnDisk d disk f h → IsOnDisk d disk' f h
    disk_kept on = record {
      rows = holds_kept d h.rows disk (f.regions h.rows.number) on.rows disk' catalogue_files touches (λ file. away h.rows.number file rows_some);
      indexes = λ i x at. holds_kept d x.region disk (f.regions x.region.number) (on.indexes i x at) disk' catalogue_files touches (λ file. away x.region.number file (index_some i x at));
    }

  fresh_on : (n : ℕ) → 1 ≤ n → AreFresh d disk n → AreFresh d disk' n
  fresh_on n some fresh = record {
    on_disk = λ file own. only_kept d.calls d.left d.seen disk disk' catalogue_files file touches (not_fresh n file some own) (fresh.on_disk file own);
    empty = λ file own. touches.sees file (not_fresh n file some own) ∙ fresh.empty file own;
  }

  pub all_on_disk : (gs : List Group) → AllByRecursion IsRightGroup gs → AllByRecursion (HasTallied b es) gs → AllByRecursion (IsOnDisk d disk f) gs → AllByRecursion (IsOnDisk d disk' f) gs
  all_on_disk [] right tallied on = tt
  all_on_disk (h ∷ gs) right tallied on = (disk_kept h right.0 tallied.0.tallied.standing on.0, all_on_disk gs right.1 tallied.1 on.1)

-- ---- the server

module _ {D : Type 0} (d : Ghosts D) (tells_left : (x : D) (moment file : ℕ) (bytes : List ℕ) → d.left x moment file bytes → IsTrue d.tells)
    (up_to_now : (x : D) (moment file : ℕ) (bytes : List ℕ) → d.left x moment file bytes → moment ≤ d.calls x) (b : Base) (sound premise : Type 0) (began : Beginning)
    (disk : D) (catalog : Catalog) (standing : Standing) (groups : List Group) (trail : Recorded) (late : Option Entry) (closed : Option ℕ) (k : IsKept d b sound premise began disk catalog standing groups trail late closed) (running : closed ≡ None)
    -- the record, as `Catalog::append` has it
    (disk' : D) (item : CatalogItem) (passes : Passes d disk disk' 4) (touches : HasCatalogue d catalog disk → TouchesOnly d disk disk' catalogue_files)
    (leaves : HasCatalogue d catalog disk → LeavesOnly d disk disk' (λ moment image. CatalogueStands image (standing_of catalog) ⊎ CatalogueStands image (stands_after (standing_of catalog) item)))
    -- its regions are drawn now, or stood
    (regions : (n : ℕ) → IsNumberAmong n (regions_in item) → IsNumberAmong n (region_numbers (standing_of catalog)) ⊎ ((standing_of catalog).next ≤ n))
    -- its entry
    (t : TableId) (e : Entry) (own : Defines t e.act) (may : MayCome b trail.entries e) (at : e.calls ≡ d.calls disk')
    -- what the tables have then, and that the folder is told (px_recovery's `law_catalogue`)
    (moved : (ℕ → GroupData) → ℕ → GroupData)
    (explains : sound → (f : FolderData) (v : ℕ → GroupData) → f.standing ≡ standing_of catalog → AreUnmade f → AllByRecursion (HasShown b trail.entries f.standing.indexes v) groups → AllByRecursion (IsOnDisk d disk f) groups → Explains b trail.entries f v
    → Explains b (trail.entries ++ e ∷ []) (with_standing (stands_after f.standing item) f) (moved v)) where
  abbrev es : List Entry
  es = trail.entries

  abbrev now : List Entry
  now = es ++ e ∷ []

  abbrev Has : D → List Entry → FolderData → (ℕ → GroupData) → Type 0
  Has = HasServerParts d b sound catalog groups

  past : premise → IsTrue d.tells → (moment : ℕ) (image : Image) → moment < d.calls disk → IsLeftBy d.left disk' moment image → IsLeftBy d.left disk moment image
  past given tells moment image before is file = (touches (k.server.goes_on running given tells).has.stored).past moment file (image file) before (is file)

  others_on_disk : premise → IsTrue d.tells → OthersStay d b began disk' es
  others_on_disk given tells = others_on d b began es disk disk' catalogue_files (λ file own. inl own) (touches (k.server.goes_on running given tells).has.stored) (k.others given tells)

  drawn : (s : Standing) → s ≡ standing_of catalog → (m : ℕ) → IsNumberAmong (suc m) (region_numbers (stands_after s item)) → IsNumberAmong (suc m) (region_numbers s) ⊎ (s.next ≤ suc m)
  drawn s is m among = elim (named_after (suc m) s item among) [
    | inl old ↦ inl old
    | inr new ↦ subst (λ (x : Standing). IsNumberAmong (suc m) (region_numbers x) ⊎ (x.next ≤ suc m)) (sym is) (regions (suc m) new)
  ]

  module _ (goes : FolderGoesOn d b Has disk es) where
    abbrev f : FolderData
    f = goes.folder

    abbrev f' : FolderData
    f' = with_standing (stands_after f.standing item) f

    touched : TouchesOnly d disk disk' catalogue_files
    touched = touches goes.has.stored

    leaves_here : LeavesOnly d disk disk' (λ moment image. CatalogueStands image f.standing ⊎ CatalogueStands image (stands_after f.standing item))
    leaves_here = subst (λ (s : Standing). LeavesOnly d disk disk' (λ moment image. CatalogueStands image s ⊎ CatalogueStands image (stands_after s item))) (sym goes.has.standing) (leaves goes.has.stored)

    leaves_folder : LeavesFolder d b disk disk' now f
    leaves_folder = record {
      folder = f';
      groups = moved goes.groups;
      leaves = catalogue_moves d disk disk' f goes.stands goes.explains.numbered.least touched (stands_after f.standing item) (next_up f.standing item) (drawn f.standing goes.has.standing) leaves_here;
      explains = explains goes.has.given f goes.groups goes.has.standing goes.stands.unmade goes.has.shown goes.has.regions goes.explains;
    }

  -- the call failed: the server is closed, and the entry is late
  pub define_failed : (shut : Entry) (call : ℕ) → IsShutAt shut call → call ≡ d.calls disk' → HasFailed d disk' → (catalog' : Catalog) (trail' : Recorded) → trail'.entries ≡ es ++ shut ∷ [] → HasTrailRoom (Some call) groups trail'
      → IsKept d b sound premise began disk' catalog' standing groups trail' (Some e) (Some call)
  define_failed shut call shut-is shut_at failed catalog' trail' entries room =
      stopped_same d b sound premise began disk catalog standing groups trail late closed k running disk' passes.later shut call shut-is shut_at catalog' (Some e)
      (late_entry d tells_left up_to_now b premise Has (HasServerParts d b sound catalog' groups) disk es late closed k.server running disk' passes.later past shut call (ap (λ (u : Entry). u.act) shut-is) (ap (λ (u : Entry). u.calls) shut-is ∙ shut_at) passes.at_most e (defines_lasts t e.act own) at may leaves_folder)
      failed others_on_disk trail' entries room

  -- the record is there
  module _ (catalog' : Catalog) (stored : HasCatalogue d catalog disk → HasCatalogue d catalog' disk') (defined : standing_of catalog' ≡ stands_after (standing_of catalog) item)
      (standing' : Standing) (agrees : Agrees standing' (catalogue_of b (trail.entries ++ e ∷ []))) (same : opened_standing (standing_of catalog') ≡ opened_standing standing')
      -- the groups then: those of other tables are as they were, and of the table's own group it has to be known what it was
      (groups' : List Group) (stand : map table_in_group groups' ≡ standing'.tables) (Own : (Group → Type 0) → (Group → Type 0) → Type 0)
      (carries : (P Q : Group → Type 0) → ((h : Group) → number_in h ≢ t.0 → P h → Q h) → Own P Q → AllByRecursion P groups → AllByRecursion Q groups')
      (others : (v : ℕ → GroupData) (q : ℕ) → q ≢ t.0 → moved v q ≡ v q)
      (own_points : Own (λ h. IsRightGroup h × HasPoints trail.entries h) (HasPoints (trail.entries ++ e ∷ []))) (own_right : Own IsRightGroup IsRightGroup) (own_once : Own HasOnce HasOnce)
      (own_tallied : Own (λ h. IsRightGroup h × HasTallied b trail.entries h) (HasTallied b (trail.entries ++ e ∷ [])))
      (own_shown : sound → (xs xs' : List Index) → AreForms xs (catalogue_of b trail.entries) → AreForms xs' (catalogue_of b (trail.entries ++ e ∷ [])) → (v : ℕ → GroupData)
      → Own (λ h. IsRightGroup h × HasShown b trail.entries xs v h) (HasShown b (trail.entries ++ e ∷ []) xs' (moved v)))
      (own_disk : IsTrue d.tells → (f : FolderData) → f.standing ≡ standing_of catalog → AreFresh d disk' f.standing.next → AreUnmade f → Own (IsOnDisk d disk' f) (IsOnDisk d disk' (with_standing (stands_after f.standing item) f)))
      (trail' : Recorded) (entries : trail'.entries ≡ trail.entries ++ e ∷ []) (room : HasTrailRoom closed groups' trail') where
    right : AllByRecursion IsRightGroup groups
    right = k.each.right running

    told_now : IsTold b now closed (standing_of catalog') standing'
    told_now = record {
      base = k.told.base;
      low = k.told.low;
      legal = legal-snoc b es e k.told.legal may;
      closing = closing-snoc es e ∙ (ap (λ (o : Option ℕ). closing_step o e.act) (k.told.closing ∙ running) ∙ (defines_unshut t e.act own ∙ sym running));
      agrees = agrees;
      same = λ open_. same;
    }

    each_now : AreGroups b now closed standing'.tables groups'
    each_now = record {
      stand = stand;
      points = carries (λ h. IsRightGroup h × HasPoints es h) (HasPoints now) (λ h other p. other_points b k.told.base es k.told.legal t e own may h p.0 other p.1) own_points (all_pairs IsRightGroup (HasPoints es) groups right k.each.points);
      right = λ open_. carries IsRightGroup IsRightGroup (λ h other p. p) own_right right;
      tallied = λ open_. carries (λ h. IsRightGroup h × HasTallied b es h) (HasTallied b now)
          (λ h other p. record { held = p.1.held; tallied = other_tallied b k.told.base es k.told.legal t e own may h p.0 other p.1.held p.1.tallied }) own_tallied (all_pairs IsRightGroup (HasTallied b es) groups right (k.each.tallied running));
      once = λ open_. carries HasOnce HasOnce (λ h other p. p) own_once (k.each.once running);
      traced = λ call shut. absurd (let none : None ≡ Some call = sym running ∙ shut in cc);
      begun = λ call shut. absurd (let none : None ≡ Some call = sym running ∙ shut in cc);
    }

    shown_now : sound → (xs xs' : List Index) → AreForms xs (catalogue_of b es) → AreForms xs' (catalogue_of b now) → (v : ℕ → GroupData) → AllByRecursion (HasShown b es xs v) groups → AllByRecursion (HasShown b now xs' (moved v)) groups'
    shown_now given xs xs' forms forms' v all = carries (λ h. IsRightGroup h × HasShown b es xs v h) (HasShown b now xs' (moved v))
        (λ h other p. other_shown b k.told.base es k.told.legal t e own may h p.0 other xs xs' forms forms' v (moved v) (others v h.table.id.0 other) p.1) (own_shown given xs xs' forms forms' v) (all_pairs IsRightGroup (HasShown b es xs v) groups right all)

    other_disk : (f : FolderData) (h : Group) → IsOnDisk d disk' f h → IsOnDisk d disk' (with_standing (stands_after f.standing item) f) h
    other_disk f h on = record { rows = on.rows; indexes = on.indexes }

    moves : (goes : FolderGoesOn d b Has disk es) → MovesFolder d b (HasServerParts d b sound catalog' groups') disk disk' now goes.folder
    unfolding leaves_folder
    moves goes = (let
        fol = goes.folder
        in let
        touched' = touches goes.has.stored
        in let
        there : HasCatalogue d catalog' disk' = stored goes.has.stored
        in let
        stands_now : standing_of catalog' ≡ stands_after fol.standing item = defined ∙ ap (λ (s : Standing). stands_after s item) (sym goes.has.standing)
        in let
        left = leaves_folder goes
        in let
        on = catalogue_moved d disk disk' fol goes.stands goes.explains.numbered.least touched' (stands_after fol.standing item) (next_up fol.standing item) (drawn fol.standing goes.has.standing)
        (subst (λ (s : Standing). StandsIn d disk' catalogue_files (λ image. CatalogueStands image s)) stands_now (catalogue_stands d catalog' disk' there))
        in let
        fresh : AreFresh d disk' fol.standing.next = fresh_on d disk disk' touched' b es fol goes.groups goes.explains fol.standing.next goes.explains.numbered.least goes.stands.fresh
        in record {
          left = left;
          on = on;
          has = record {
            given = goes.has.given;
            stored = there;
            standing = sym stands_now;
            regions = carries (IsOnDisk d disk' fol) (IsOnDisk d disk' left.folder) (λ h other p. other_disk fol h p) (own_disk goes.has.stored.log.settled.told fol goes.has.standing fresh goes.stands.unmade)
                (all_on_disk d disk disk' touched' b es fol goes.groups goes.explains groups right (k.each.tallied running) goes.has.regions);
            shown = shown_now goes.has.given fol.standing.indexes (stands_after fol.standing item).indexes (told_catalogue fol.standing (catalogue_of b es) goes.explains.catalogue) (told_catalogue (stands_after fol.standing item) (catalogue_of b now) left.explains.catalogue) goes.groups goes.has.shown;
          };
        })

    pub define_kept : IsKept d b sound premise began disk' catalog' standing' groups' trail' late closed
    define_kept = record {
      told = subst (λ (ys : List Entry). IsTold b ys closed (standing_of catalog') standing') (sym entries) told_now;
      each = subst (λ (ys : List Entry). AreGroups b ys closed standing'.tables groups') (sym entries) each_now;
      shown = λ given open_. (let
          s = k.shown given open_
          in subst (λ (ys : List Entry). AreShown b ys standing'.indexes groups') (sym entries)
          (record { told = moved s.told; each = shown_now given standing.indexes standing'.indexes (agreed_forms standing (catalogue_of b es) k.told.agrees) (agreed_forms standing' (catalogue_of b now) agrees) s.told s.each }));
      server = subst (λ (ys : List Entry). IsServer d b premise (HasServerParts d b sound catalog' groups') disk' ys late closed) (sym entries)
          (lasting_server d tells_left up_to_now b premise Has (HasServerParts d b sound catalog' groups') disk es late closed k.server running disk' passes.later past passes.at_most e (defines_lasts t e.act own) at may (defines_unshut t e.act own) moves);
      room = room;
      blamed = subst (λ (ys : List Entry). has_told ys ≡ true → HasFailed d disk') (sym entries) (blamed_quiet d disk' es e (defines_quiet t e.act own) (blamed_on d disk disk' es passes.later passes.faults_later k.blamed));
      last_call = λ c same. absurd (none_some c (sym running ∙ same));
      others = λ given tells. subst (λ (ys : List Entry). OthersStay d b began disk' ys) (sym entries) (others_more d b began es (e ∷ []) disk' (others_on_disk given tells));
    }
