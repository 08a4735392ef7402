-- What a group shows when an index of its table becomes active.
use Rattle.std.proofs.Common.{◌≡◌, ◌≢◌, ◌<◌, ◌≤◌, inl, inr, ℕ, Bool, true, false, cond, List, [], ◌∷◌, ◌++◌, length, get_or, set, slice_get, None, Some, refl, sym, ap, subst, ◌∙◌, arith, get_or-set_other, get_or-set_same}
use Rattle.std.proofs.lemmas.Bool.{cases_eq}
use Rattle.px_outside.specs.Parts.{with_part}
use Rattle.px_outside.specs.declared.disk.Disk.{Ghosts}
use Rattle.px_outside.proofs.Parts.{with_part-here}
use Rattle.px_cells.specs.Contents.{value_at}
use Rattle.px_values.specs.declared.name.IndexId.{IndexId}
use Rattle.px_values.specs.declared.name.TableId.{TableId}
use Rattle.px_values.specs.declared.row.Value.{Value}
use Rattle.px_tables.specs.declared.index.Index.{Index}
use Rattle.px_tables.specs.declared.index.IndexState.TheVariants.{Active}
use Rattle.px_tables.specs.declared.table.Table.{Table}
use Rattle.px_trail.specs.declared.entry.Act.{Act}
use Rattle.px_trail.specs.declared.entry.Act.TheVariants.{IndexState}
use Rattle.px_trail.specs.declared.entry.Entry.{Entry}
use Rattle.px_trail.specs.Batches.{IsDecided}
use Rattle.px_trail.specs.Legal.{MayCome}
use Rattle.px_trail.specs.States.{state_of}
use Rattle.px_trail.specs.Trail.{Base, catalogue_of, horizon_of, index_of}
use Rattle.px_trail.proofs.Orders.{WritesNone}
use Rattle.px_forms.specs.Indexes.{IndexForm}
use Rattle.px_indexrow.specs.Form.{index_form, owns}
use Rattle.px_rows.specs.Spelled.{row_form}
use Rattle.px_groupworld.specs.Group.{GroupData, GroupKept, IndexPart, no_part, shape_in, table_form, world_in}
use Rattle.px_groupworld.specs.Steps.{at_index, ready_data}
use Rattle.px_world.specs.Events.{Comes, Ready}
use Rattle.px_calls.specs.Requires.{is_based}
use Rattle.px_values.specs.declared.change.What.{What}
use Rattle.std.specs.Prelude.{nat_eq}
use Rattle.px_groupworld.proofs.Cells.{group_ready}
use Rattle.px_groupworld.proofs.Entries.{group_idle}
use Rattle.px_indexed.specs.Idle.{IsElsewhere}
use Rattle.px_indexed.proofs.Idle.{act_idle}
use Rattle.px_openbatches.specs.Pending.{HeldBatch}
use Rattle.px_region.specs.Region.{RegionHolds}
use Rattle.px_region.proofs.Holding.{store_is_all}
use Rattle.px_tablefolder.specs.Folder.{IsFilesOf}
use Rattle.px_tablereads.specs.Told.{AreTold}
use Rattle.px_tablereads.proofs.Tells.{quiet_written, told_same}
use Rattle.px_group.specs.Group.{IsShownBy, IsTallied, form_of}
use Rattle.px_group.specs.declared.group.Group.{Group}
use Rattle.px_group.specs.declared.group.IndexRegion.{IndexRegion}
use Rattle.px_defined.specs.Defined.{HasActive, HasOnce, active}
use Rattle.px_defined.proofs.Lists.{same_at, set_cases, set_here, set_other, within}
use Rattle.px_defined.proofs.Once.{only_at}
use Rattle.px_defined.proofs.ShownActive.{active_steps, shown_active}
use Rattle.px_defined.proofs.TalliedActive.{tallied_active}
use Rattle.px_reading.specs.Doubts.{IsToldBy}
use Rattle.px_recovery.specs.Folder.{FolderData}
use Rattle.px_recovery.specs.Tables.{form_of_index, index_files}
use Rattle.px_server.specs.Kept.{AreBuilt, HasShown, HasTallied, forms_in}
use Rattle.px_built.specs.Built.{IsOfRun}
use Rattle.px_built.proofs.Tables.{built_ready}
use Rattle.px_server.proofs.Built.{IsUnbased, built_as, built_elsewhere, built_step, built_table, same_ids}
use Rattle.px_server.proofs.Catalogued.{AreForms}
use Rattle.px_server.proofs.Forms.{shown_forms, told_forms}
use Rattle.px_server.proofs.ShownAt.{HasSameForms, shown_at}

-- ---- how index rows are spelled is the same

active_form : (x : Table) (z : Index) → index_form x (record z { state = Active }) ≡ index_form x z
unfolding owns
active_form x z = refl

run_ready : (c : Bool) → IsOfRun {K = List ℕ} {A = What} (cond c (Some Ready) None)
run_ready true = tt
run_ready false = tt

-- ---- the table's data

-- at the birth of the index at the place all is written, nothing is forgotten, and each row that the table had there was given its base version
pub ready_comes : (b : Base) (es : List Entry) (g : Group) (place : ℕ) (x : IndexRegion) → slice_get g.indexes.items place ≡ Some x → horizon_of b g.table.id.0 es ≤ x.index.birth → IsDecided es g.table.id.0 x.index.birth
    → ((r : List Value) → state_of b es g.table.id.0 r x.index.birth ≢ None → is_based es x.index.id.0 r ≡ true) → (index : ℕ → IndexForm) (v : GroupData) (hs : List HeldBatch) → IsShownBy b index es g v hs → AreBuilt (form_of b index g) es v
    → (r : List Value) → Comes (shape_in (form_of b index g) v place r) (world_in (form_of b index g) es v place r) Ready
ready_comes b es g place x x_is low decided all index v hs shown built =
    let part = shown.parts place x x_is in
    let inside : place < length v.indexes = (let l = within g.indexes.items place x x_is in let n = shown.count in omega (arith, l, n)) in
    built_ready (form_of b index g) es v shown.kept.group place inside (subst (λ (p : ℕ). horizon_of b g.table.id.0 es ≤ p) (sym part.birth) low) (subst (λ (p : ℕ). IsDecided es g.table.id.0 p) (sym part.birth) decided)
    (subst (λ (n : ℕ). (r : List Value) → state_of b es g.table.id.0 r (get_or v.indexes place no_part).birth ≢ None → is_based es n r ≡ true) (sym part.id)
    (subst (λ (p : ℕ). (r : List Value) → state_of b es g.table.id.0 r p ≢ None → is_based es x.index.id.0 r ≡ true) (sym part.birth) all)) (built.each place inside)

module _ (b : Base) (es : List Entry) (e : Entry) (may : MayCome b es e) (g : Group) (elsewhere : IsElsewhere g.table.id e.act) (place : ℕ) (x : IndexRegion) (x_is : slice_get g.indexes.items place ≡ Some x)
    (index : ℕ → IndexForm) (v : GroupData) (hs : List HeldBatch) (shown : IsShownBy b index es g v hs) (comes : (r : List Value) → Comes (shape_in (form_of b index g) v place r) (world_in (form_of b index g) es v place r) Ready) where
  inside : place < length v.indexes
  inside = (let l = within g.indexes.items place x x_is in let n = shown.count in omega (arith, l, n))

  pub kept_ready : GroupKept (form_of b index g) (es ++ e ∷ []) (ready_data place v)
  kept_ready = (let
      ready = group_ready (form_of b index g) es v shown.kept.group place inside comes
      in (group_idle (form_of b index g) es (ready_data place v) ready.kept e may (act_idle g.table.id e elsewhere)).kept)

  -- its files are those of an active index
  pub files_ready : IsToldBy b index es g v → {D : Type 0} (d : Ghosts D) (disk : D) (f : FolderData) → x.index.region ≡ x.region.number → RegionHolds d x.region disk (f.regions x.region.number)
      → IsFilesOf (record (get_or v.indexes place no_part) { is_built = true }) (index_files f.regions (record x.index { state = Active }))
  files_ready told d disk f number holds =
      let part = shown.parts place x x_is in
      record {
        id = part.id;
        cells = ap value_at (part.cells ∙ (store_is_all d x.region disk (f.regions x.region.number) holds ∙ ap (λ (n : ℕ). (f.regions n).cells) (sym number)));
        birth = part.birth;
        horizon = told.own place x x_is ∙ (sym holds.horizon ∙ ap (λ (n : ℕ). (f.regions n).horizon) (sym number));
        built = refl;
      }

-- ---- the group

module _ (b : Base) (es : List Entry) (e : Entry) (may : MayCome b es e) (t : TableId) (i : IndexId) (s : ℕ) (is : e.act ≡ IndexState t i Active s) (g g' : Group) (own : g.table.id ≡ t) (place : ℕ) (a : HasActive g g' place) (id : a.index.index.id ≡ i) where
  abbrev es' : List Entry
  es' = es ++ e ∷ []

  quiet : WritesNone e.act
  quiet = subst WritesNone (sym is) tt

  elsewhere_now : IsElsewhere g.table.id e.act
  elsewhere_now = subst (λ (act : Act). IsElsewhere g.table.id act) (sym is) tt

  act_is : e.act ≡ IndexState g.table.id a.index.index.id Active s
  act_is = is ∙ (ap (λ (u : TableId). IndexState u i Active s) (sym own) ∙ ap (λ (n : IndexId). IndexState g.table.id n Active s) (sym id))

  pub tallied_ready : HasOnce g → (hs : List HeldBatch) → IsTallied b es g hs → IsTallied b es' g' hs
  tallied_ready once hs k = tallied_active b es e g g' place hs k a (only_at g once place) s act_is

  pub has_tallied_ready : HasOnce g → HasTallied b es g → HasTallied b es' g'
  has_tallied_ready once k = record { held = k.held; tallied = tallied_ready once k.held k.tallied }

  -- where the index may become active, whatever the group shows
  module _ (low : horizon_of b g.table.id.0 es ≤ a.index.index.birth) (decided : IsDecided es g.table.id.0 a.index.index.birth) (all : (r : List Value) → state_of b es g.table.id.0 r a.index.index.birth ≢ None → is_based es a.index.index.id.0 r ≡ true) where
    comes : (index : ℕ → IndexForm) (v : GroupData) (hs : List HeldBatch) → IsShownBy b index es g v hs → AreBuilt (form_of b index g) es v → (r : List Value) → Comes (shape_in (form_of b index g) v place r) (world_in (form_of b index g) es v place r) Ready
    comes = ready_comes b es g place a.index a.is low decided all

    shown_ready : (index : ℕ → IndexForm) (v : GroupData) (hs : List HeldBatch) → IsShownBy b index es g v hs → AreBuilt (form_of b index g) es v → IsShownBy b index es' g' (ready_data place v) hs
    shown_ready index v hs shown built = shown_active b es e may g g' place hs a s act_is index v shown (comes index v hs shown built)

    -- it goes on as one that is built
    built_then : (index : ℕ → IndexForm) (v : GroupData) (hs : List HeldBatch) → IsShownBy b index es g v hs → AreBuilt (form_of b index g) es v → AreBuilt (form_of b index g') es' (ready_data place v)
    built_then index v hs shown built =
        let ready : IndexPart = record (get_or v.indexes place no_part) { is_built = true } in
        let step = active_steps b es e may g g' place hs a s act_is index v shown (comes index v hs shown built) in
        built_table b index es' (ready_data place v) g.table g'.table (sym a.beside.table)
        (built_elsewhere (form_of b index g) es (ready_data place v) step.kept.group e may elsewhere_now (λ j l. subst (IsUnbased (get_or (ready_data place v).indexes j no_part).id) (sym is) tt)
        (built_step (form_of b index g) es v shown.kept.group (λ j r. at_index place j (Some Ready)) (ready_data place v) step.does (λ j r. run_ready (nat_eq place j)) (λ j l. same_ids v.indexes place ready refl j l) built))

    told_ready : (index : ℕ → IndexForm) (v : GroupData) (hs : List HeldBatch) → IsShownBy b index es g v hs → AreBuilt (form_of b index g) es v → IsToldBy b index es g v → IsToldBy b index es' g' (ready_data place v)
    told_ready index v hs shown built told = record {
      told = subst (λ (u : Table). AreTold (table_form b u.id index (row_form u)) es' (ready_data place v)) (sym a.beside.table)
          (told_same (form_of b index g) es v shown.kept.group es' (ready_data place v) (kept_ready b es e may g elsewhere_now place a.index a.is index v hs shown (comes index v hs shown built)) told.told refl refl
          (quiet_written (form_of b index g) es v shown.kept.group e quiet));
      own = λ j z at. elim (set_cases g.indexes.items place j (active a.index) z (sym (ap (λ (l : List IndexRegion). slice_get l j) a.indexes) ∙ at)) [
        | inl here ↦
            (let l : place < length v.indexes = (let w = within g.indexes.items place a.index a.is in let n = shown.count in omega (arith, w, n)) in
            ap (λ (p : IndexPart). p.horizon) (ap (λ m. get_or (set v.indexes place (ready v)) m no_part) here.0 ∙ get_or-set_same v.indexes place (ready v) no_part l)
            ∙ (told.own place a.index a.is ∙ sym (ap (λ (w : IndexRegion). w.region.horizon) here.1)))
        | inr there ↦ ap (λ (p : IndexPart). p.horizon) (get_or-set_other v.indexes place j (ready v) no_part there.0) ∙ told.own j z there.1
      ];
    }
      where
        ready : GroupData → IndexPart
        ready w = record (get_or w.indexes place no_part) { is_built = true }

    pub has_shown_ready : (xs xs' : List Index) → AreForms xs (catalogue_of b es) → AreForms xs' (catalogue_of b es') → HasOnce g → (v : ℕ → GroupData) → HasShown b es xs v g → HasShown b es' xs' (with_part v t.0 (ready_data place (v t.0))) g'
    has_shown_ready xs xs' forms forms' once v k =
        let index = forms_in xs' g.table in
        let tallied = tallied_ready once k.held k.tallied in
        let stays : (j : ℕ) (x : IndexRegion) → slice_get g.indexes.items j ≡ Some x → form_of_index g.table (index_of b es' x.index.id.0) ≡ form_of_index g.table (Some x.index) = λ j x at. elim (cases_eq j place) [
          | inl e ↦
              (let one : x ≡ a.index = same_at g.indexes.items place x a.index (ap (λ m. slice_get g.indexes.items m) (sym e) ∙ at) a.is in
              let now : slice_get g'.indexes.items place ≡ Some (active a.index) = ap (λ (l : List IndexRegion). slice_get l place) a.indexes ∙ set_here g.indexes.items place a.index (active a.index) a.is in
              subst (λ (z : IndexRegion). form_of_index g.table (index_of b es' z.index.id.0) ≡ form_of_index g.table (Some z.index)) (sym one) (ap (form_of_index g.table) (tallied.standing.index place (active a.index) now) ∙ active_form g.table a.index.index))
          | inr e ↦ ap (form_of_index g.table) (tallied.standing.index j x (ap (λ (l : List IndexRegion). slice_get l j) a.indexes ∙ (set_other g.indexes.items place j (active a.index) e ∙ at)))
        ] in
        let same : HasSameForms g (forms_in xs g.table) index = λ j x at. forms' g.table x.index.id.0 ∙ (stays j x at ∙ (ap (form_of_index g.table) (sym (k.tallied.standing.index j x at)) ∙ sym (forms g.table x.index.id.0))) in
        let number : g.table.id.0 ≡ t.0 = ap (λ (u : TableId). u.0) own in
        let number' : g'.table.id.0 ≡ t.0 = ap (λ (u : Table). u.id.0) a.beside.table ∙ number in
        let w = v g.table.id.0 in
        let shown = shown_forms b es g (forms_in xs g.table) index same w k.held k.shown in
        let built = built_as b es g (forms_in xs g.table) index same w k.held k.shown k.built in
        shown_at b es' xs' (with_part v t.0 (ready_data place (v t.0))) g' g.table (ready_data place w) k.held a.beside.table
        (ap (with_part v t.0 (ready_data place (v t.0))) number' ∙ (with_part-here v t.0 (ready_data place (v t.0)) ∙ ap (λ (n : ℕ). ready_data place (v n)) (sym number)))
        tallied (shown_ready index w k.held shown built) (told_ready index w k.held shown built (told_forms b es g (forms_in xs g.table) index same w k.told)) (built_then index w k.held shown built)
