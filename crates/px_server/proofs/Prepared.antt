-- A step of one region's files, after which it goes on as it was: what is true of its table stays so.
use Rattle.std.proofs.Common.{◌≡◌, ◌≢◌, ◌≤◌, ◌⊎◌, inl, inr, ℕ, Some, List, [], ◌∷◌, length, get_or, slice_get, refl, sym, ap, subst, ◌∙◌}
use Rattle.std.specs.Prelude.{sum_by}
use Rattle.std.specs.List.{AllByRecursion}
use Rattle.std.proofs.Math.ListN.{length-set}
use Rattle.std.proofs.lemmas.Bool.{cases_eq}
use Rattle.px_outside.specs.Parts.{with_part}
use Rattle.px_outside.specs.declared.disk.Disk.{Ghosts}
use Rattle.px_outside.proofs.Parts.{with_part-here, with_part-other}
use Rattle.px_region.specs.Promise.{IsSamePromise}
use Rattle.px_region.specs.Region.{RegionData}
use Rattle.px_region.specs.declared.region.Region.{Region}
use Rattle.px_cellshapes.specs.Keys.{AreRightKeys}
use Rattle.px_cellshapes.specs.Rows.{AreRightRows}
use Rattle.px_forms.specs.Indexes.{IndexForm}
use Rattle.px_indexrow.specs.Form.{index_form}
use Rattle.px_groupworld.specs.Group.{GroupData, no_part}
use Rattle.px_openbatches.specs.Pending.{HeldBatch}
use Rattle.px_tables.specs.declared.index.Index.{Index}
use Rattle.px_trail.specs.Trail.{Base}
use Rattle.px_trail.specs.declared.entry.Entry.{Entry}
use Rattle.px_group.specs.Group.{AreTraced, IsPartOf, IsRightBatch, IsRightGroup, IsRightPart, IsShownBy, IsTallied}
use Rattle.px_group.specs.Room.{HasPromised, bytes_at, cells_at}
use Rattle.px_group.specs.declared.group.Group.{Group}
use Rattle.px_group.specs.declared.group.IndexRegion.{IndexRegion}
use Rattle.px_batching.proofs.Pairs.{to_tied}
use Rattle.px_batching.proofs.Places.{all_at, all_more, all_set, same_at, set_cases, set_here, set_other}
use Rattle.px_batching.proofs.Right.{SameIndexes, right_moves}
use Rattle.px_batching.proofs.Tallied.{AreStill, tallied_on, tells_same}
use Rattle.px_recovery.specs.Folder.{FolderData, with_region}
use Rattle.px_reading.specs.Doubts.{IsToldBy}
use Rattle.px_server.specs.Upkeep.{StaysOn, StepsIndex, StepsRows}
use Rattle.px_server.proofs.Regions.{ToIndex, ToRows}

-- ---- a folder, and the data of tables

same_part : {C : Type 0} (contents : ℕ → C) (n : ℕ) (c : C) → c ≡ contents n → with_part contents n c ≡ contents
same_part contents n c same = λ i q. each q i
  where
    each : (q : ℕ) → with_part contents n c q ≡ contents q
    each q = elim (cases_eq q n) [
      | inl e ↦ ap (with_part contents n c) e ∙ (with_part-here contents n c ∙ (same ∙ ap contents (sym e)))
      | inr e ↦ with_part-other contents n c q e
    ]

pub same_folder : (f : FolderData) (n : ℕ) (s : RegionData) → s ≡ f.regions n → with_region n s f ≡ f
same_folder f n s same = λ i. record { standing = f.standing; regions = same_part f.regions n s same i }

pub same_groups : (v : ℕ → GroupData) (t : ℕ) → with_part v t (v t) ≡ v
same_groups v t = same_part v t (v t) refl

-- ---- the table, where its rows' region goes on as it was

has_promised : (old new : Region) (cells bytes : ℕ) → IsSamePromise old new → HasPromised old cells bytes → HasPromised new cells bytes
has_promised old new cells bytes same h = (subst (λ (n : ℕ). cells ≤ n) (sym same.cells) h.0, subst (λ (n : ℕ). bytes ≤ n) (sym same.bytes) h.1)

module _ {D : Type 0} (d : Ghosts D) (g g' : Group) (disk disk' : D) (s : StepsRows d g g' disk disk') where
  abbrev then_rows : Group
  then_rows = record g { rows = g'.rows }

  pub to_rows : ToRows g g' g'.rows
  to_rows = record { table = ap (λ (h : Group). h.table) s.same; points = ap (λ (h : Group). h.points) s.same; rows = refl; indexes = ap (λ (h : Group). h.indexes.items) s.same }

  same_rows : SameIndexes g then_rows
  same_rows = record { table = refl; count = refl; each = λ j z at. (z, (at, refl)) }

  pub rows_traced : (es : List Entry) → AreTraced es g → AreTraced es g'
  rows_traced es t = subst (AreTraced es) (sym s.same) (record { each = t.each; once = t.once })

  module _ (stays : StaysOn d g.rows g'.rows disk disk') where
    pub rows_right : IsRightGroup g → IsRightGroup g'
    rows_right r = subst IsRightGroup (sym s.same) (record {
      table = r.table;
      region = r.region ∙ ap (λ (n : ℕ). record { number = n; least_key = [] } ∷ []) (sym s.steps.number);
      rows = subst (AreRightRows g.table) (sym stays.read) r.rows;
      parts = r.parts;
      batches = all_more (IsRightBatch g) (IsRightBatch then_rows) (right_moves g then_rows same_rows) g.batches.items r.batches;
      rooms = record { rows = has_promised g.rows g'.rows _ _ s.steps.promised r.rooms.rows; indexes = r.rooms.indexes; light = r.rooms.light };
    })

    module _ (b : Base) (es : List Entry) where
      pub rows_tallied : (hs : List HeldBatch) → IsTallied b es g hs → IsTallied b es g' hs
      rows_tallied hs k = subst (λ (h : Group). IsTallied b es h hs) (sym s.same) (record {
        standing = record { table = k.standing.table; index = k.standing.index; all = k.standing.all };
        last = k.last;
        horizon = k.horizon;
        held = k.held;
        batches = k.batches;
        phases = k.phases;
        points = k.points;
      })

      module _ (index : ℕ → IndexForm) (v : GroupData) where
        pub rows_shown : (hs : List HeldBatch) → IsShownBy b index es g v hs → IsShownBy b index es g' v hs
        rows_shown hs shown = subst (λ (h : Group). IsShownBy b index es h v hs) (sym s.same) (record { kept = shown.kept; rows = shown.rows ∙ sym stays.read; count = shown.count; parts = shown.parts; forms = shown.forms })

        pub rows_told : IsToldBy b index es g v → IsToldBy b index es g' v
        rows_told told = subst (λ (h : Group). IsToldBy b index es h v) (sym s.same) (record { told = told.told; own = told.own })

-- ---- or the region of an index

module _ {D : Type 0} (d : Ghosts D) (g g' : Group) (disk disk' : D) (s : StepsIndex d g g' disk disk') where
  abbrev then_index : Group
  then_index = record g { indexes = g'.indexes }

  abbrev y : IndexRegion
  y = record s.index { region = s.region }

  pub to_index : ToIndex g g' s.place s.index s.region
  to_index = record { table = ap (λ (h : Group). h.table) s.same; points = ap (λ (h : Group). h.points) s.same; index = s.is; rows = ap (λ (h : Group). h.rows) s.same; indexes = s.indexes }

  -- the index of each place, before the step
  cases : (j : ℕ) (z : IndexRegion) → slice_get g'.indexes.items j ≡ Some z → ((j ≡ s.place) × (z ≡ y)) ⊎ ((j ≢ s.place) × (slice_get g.indexes.items j ≡ Some z))
  cases j z at = set_cases g.indexes.items s.place j y z (ap (λ (l : List IndexRegion). slice_get l j) (sym s.indexes) ∙ at)

  same_index : SameIndexes g then_index
  same_index = record {
    table = refl;
    count = ap (λ (l : List IndexRegion). length l) s.indexes ∙ length-set g.indexes.items s.place y;
    each = λ j z at. elim (cases j z at) [
      | inl e ↦ (s.index, (ap (λ n. slice_get g.indexes.items n) e.0 ∙ s.is, ap (λ (w : IndexRegion). w.index) (sym e.1)))
      | inr e ↦ (z, (e.1, refl))
    ];
  }

  still : AreStill g then_index
  still = record {
    same = same_index;
    each = λ j w at. elim (cases_eq j s.place) [
      | inl e ↦
          (let q : w ≡ s.index = same_at g.indexes.items s.place w s.index (ap (λ n. slice_get g.indexes.items n) (sym e) ∙ at) s.is in
          (y, ((λ t. slice_get (s.indexes t) (e t)) ∙ set_here g.indexes.items s.place s.index y s.is, ap (λ (k : IndexRegion). k.index) (sym q))))
      | inr e ↦ (w, (ap (λ (l : List IndexRegion). slice_get l j) s.indexes ∙ (set_other g.indexes.items s.place j y e ∙ at), refl))
    ];
  }

  pub index_traced : (es : List Entry) → AreTraced es g → AreTraced es g'
  index_traced es t = subst (AreTraced es) (sym s.same) (record { each = t.each; once = t.once })

  module _ (stays : StaysOn d s.index.region s.region disk disk') where
    part : IsRightPart g.table s.index → IsRightPart g.table y
    part r = record { index = r.index; table = r.table; number = r.number ∙ sym s.steps.number; maintained = r.maintained; keys = subst (AreRightKeys g.table s.index.index) (sym stays.read) r.keys }

    pub index_right : IsRightGroup g → IsRightGroup g'
    index_right r = subst IsRightGroup (sym s.same) (record {
      table = r.table;
      region = r.region;
      rows = r.rows;
      parts = subst (λ (l : List IndexRegion). AllByRecursion (IsRightPart g.table) l) (sym s.indexes) (all_set (IsRightPart g.table) g.indexes.items s.place y (part (all_at (IsRightPart g.table) g.indexes.items s.place s.index s.is r.parts)) r.parts);
      batches = all_more (IsRightBatch g) (IsRightBatch then_index) (right_moves g then_index same_index) g.batches.items r.batches;
      rooms = record {
        rows = r.rooms.rows;
        indexes = λ j z at. elim (cases j z at) [
          | inl e ↦
              subst (λ (w : IndexRegion). HasPromised w.region (sum_by (cells_at j) g.batches.items) (sum_by (bytes_at j) g.batches.items)) (sym e.1)
              (has_promised s.index.region s.region _ _ s.steps.promised (r.rooms.indexes j s.index (ap (λ n. slice_get g.indexes.items n) e.0 ∙ s.is)))
          | inr e ↦ r.rooms.indexes j z e.1
        ];
        light = r.rooms.light;
      };
    })

    module _ (b : Base) (es : List Entry) where
      pub index_tallied : (hs : List HeldBatch) → IsTallied b es g hs → IsTallied b es g' hs
      index_tallied hs k =
          subst (λ (h : Group). IsTallied b es h hs) (sym s.same)
          (tallied_on b es es g then_index hs hs still refl refl refl (tells_same b es g.table.id.0) k k.held (to_tied es g.table.id.0 g.batches.items hs k.batches k.phases))

      module _ (index : ℕ → IndexForm) (v : GroupData) where
        pub index_shown : (hs : List HeldBatch) → IsShownBy b index es g v hs → IsShownBy b index es g' v hs
        index_shown hs shown =
            subst (λ (h : Group). IsShownBy b index es h v hs) (sym s.same)
            (record { kept = shown.kept; rows = shown.rows; count = shown.count ∙ sym same_index.count; parts = part_of; forms = form_of_part })
          where
            part_of : (j : ℕ) (z : IndexRegion) → slice_get g'.indexes.items j ≡ Some z → IsPartOf (get_or v.indexes j no_part) z
            part_of j z at = elim (cases j z at) [
              | inl e ↦ (let
                  p = shown.parts j s.index (ap (λ n. slice_get g.indexes.items n) e.0 ∙ s.is)
                  in subst (λ (w : IndexRegion). IsPartOf (get_or v.indexes j no_part) w) (sym e.1) (record { id = p.id; cells = p.cells ∙ sym stays.read; birth = p.birth; built = p.built }))
              | inr e ↦ shown.parts j z e.1
            ]

            form_of_part : (j : ℕ) (z : IndexRegion) → slice_get g'.indexes.items j ≡ Some z → index z.index.id.0 ≡ index_form g.table z.index
            form_of_part j z at = (let w = same_index.each j z at in subst (λ (q : Index). index q.id.0 ≡ index_form g.table q) w.1.1 (shown.forms j w.0 w.1.0))

        pub index_told : IsToldBy b index es g v → IsToldBy b index es g' v
        index_told told = subst (λ (h : Group). IsToldBy b index es h v) (sym s.same) (record {
          told = told.told;
          own = λ j z at. elim (cases j z at) [
            | inl e ↦ ap (λ (m : ℕ). (get_or v.indexes m no_part).horizon) e.0 ∙ (told.own s.place s.index s.is ∙ (sym stays.horizon ∙ ap (λ (w : IndexRegion). w.region.horizon) (sym e.1)))
            | inr e ↦ told.own j z e.1
          ];
        })
