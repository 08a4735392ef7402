-- One group becomes another, and all others go on.
use Rattle.std.proofs.Common.{◌≡◌, ◌≢◌, ◌<◌, ℕ, List, [], ◌∷◌, ◌++◌, length, get_or, sym, ap, subst, ◌∙◌}
use Rattle.std.specs.List.{AllByRecursion, slice_set}
use Rattle.px_outside.specs.Parts.{AreDistinct, with_part}
use Rattle.px_outside.specs.declared.disk.Disk.{Ghosts}
use Rattle.px_outside.proofs.Parts.{with_part-here, with_part-other}
use Rattle.px_values.specs.declared.name.TableId.{TableId}
use Rattle.px_tables.specs.declared.index.Index.{Index}
use Rattle.px_tables.specs.declared.table.Table.{Table}
use Rattle.px_trail.specs.declared.entry.Entry.{Entry}
use Rattle.px_trail.specs.Legal.{MayCome}
use Rattle.px_trail.specs.Trail.{Base, catalogue_of, open_points}
use Rattle.px_trail.proofs.Growth.{points-snoc}
use Rattle.px_groupworld.specs.Group.{GroupData}
use Rattle.px_openbatches.specs.Pending.{HeldBatch}
use Rattle.px_forms.specs.Indexes.{IndexForm}
use Rattle.px_defined.specs.Defined.{HasOnce}
use Rattle.px_group.specs.Group.{AreStanding, AreTraced, IsRightGroup, IsShownBy, IsTallied, form_of}
use Rattle.px_group.specs.declared.group.Group.{Group}
use Rattle.px_noting.specs.Apart.{IsApartFrom}
use Rattle.px_noting.proofs.Others.{apart_elsewhere, apart_points, tallied_apart, traced_elsewhere}
use Rattle.px_noting.proofs.Shown.{shown_elsewhere}
use Rattle.px_reading.specs.Doubts.{IsToldBy}
use Rattle.px_recovery.specs.Folder.{FolderData}
use Rattle.px_server.specs.Kept.{AreBuilt, HasBegun, HasPoints, HasShown, HasTallied, IsOnDisk, forms_in, number_in}
use Rattle.px_server.proofs.Built.{IsOfOwn, built_other}
use Rattle.px_server.proofs.Lists.{all_both, all_set}
use Rattle.px_server.proofs.OpenBatches.{begun_elsewhere}
use Rattle.px_server.proofs.Told.{told_elsewhere}

-- what is true of the groups of other tables stays so
pub record GoOthers (b : Base) (es es' : List Entry) (n : ℕ) : Type 0 where
  pub points : (h : Group) → number_in h ≢ n → HasPoints es h → HasPoints es' h
  pub tallied : (h : Group) → number_in h ≢ n → (hs : List HeldBatch) → IsTallied b es h hs → IsTallied b es' h hs
  pub traced : (h : Group) → number_in h ≢ n → AreTraced es h → AreTraced es' h
  pub begun : (h : Group) → number_in h ≢ n → HasBegun es h → HasBegun es' h
  pub shown : (h : Group) → number_in h ≢ n → (index : ℕ → IndexForm) (v : GroupData) (hs : List HeldBatch) → IsShownBy b index es h v hs → IsShownBy b index es' h v hs
  pub told : (h : Group) → number_in h ≢ n → (index : ℕ → IndexForm) (v : GroupData) → IsToldBy b index es h v → IsToldBy b index es' h v
  pub built : (h : Group) → number_in h ≢ n → IsRightGroup h → (index : ℕ → IndexForm) (v : GroupData) (hs : List HeldBatch) → IsTallied b es h hs → IsShownBy b index es h v hs → AreBuilt (form_of b index h) es v → AreBuilt (form_of b index h) es' v

-- where no entry came
pub others_still : (b : Base) (es : List Entry) (n : ℕ) → GoOthers b es es n
others_still b es n = record {
  points = λ h other k. k;
  tallied = λ h other hs k. k;
  traced = λ h other k. k;
  begun = λ h other k. k;
  shown = λ h other index v hs k. k;
  told = λ h other index v k. k;
  built = λ h other right index v hs t k w. w;
}

-- where one came of this table, which defines nothing
module _ (b : Base) (es : List Entry) (e : Entry) (may : MayCome b es e) (still : catalogue_of b (es ++ e ∷ []) ≡ catalogue_of b es) (n : ℕ) (apart : (t : TableId) → t.0 ≢ n → IsApartFrom t e.act) (own : IsOfOwn b es n e.act) where
  pub standing_on : (h : Group) → AreStanding b es h → AreStanding b (es ++ e ∷ []) h
  standing_on h k = record {
    table = ap (λ c. c.tables h.table.id.0) still ∙ k.table;
    index = λ i x at. ap (λ c. c.indexes x.index.id.0) still ∙ k.index i x at;
    all = λ y at of_table maintained. k.all y (ap (λ c. c.indexes y.id.0) (sym still) ∙ at) of_table maintained;
  }

  pub others_noted : GoOthers b es (es ++ e ∷ []) n
  others_noted = record {
    points = λ h other k seat s. points-snoc seat h.table.id.0 s es e ∙ (apart_points h.table.id seat s (open_points seat h.table.id.0 s es) e.seat e.act (apart h.table.id other) ∙ k seat s);
    tallied = λ h other hs k. tallied_apart b es h hs k e (apart h.table.id other) (standing_on h k.standing);
    traced = λ h other k. record { each = traced_elsewhere b es h.table.id e (apart_elsewhere h.table.id e.act (apart h.table.id other)) h.batches.items k.each; once = k.once };
    begun = λ h other k. begun_elsewhere es h e (apart_elsewhere h.table.id e.act (apart h.table.id other)) k;
    shown = λ h other index v hs k. shown_elsewhere b index es h v hs k e may (apart_elsewhere h.table.id e.act (apart h.table.id other));
    told = λ h other index v k. told_elsewhere b index es h v k e (apart_elsewhere h.table.id e.act (apart h.table.id other));
    built = λ h other right index v hs t k w. built_other b es h right hs t index v hs k e may (apart_elsewhere h.table.id e.act (apart h.table.id other)) n other own w;
  }

-- ---- all groups then

module _ (b : Base) (es es' : List Entry) (groups : List Group) (once : AreDistinct number_in groups) (place : ℕ) (g g' : Group) (l : place < length groups) (is : get_or groups place g ≡ g) (o : GoOthers b es es' (number_in g)) where
  abbrev groups' : List Group
  groups' = slice_set groups place g'

  pub points_then : AllByRecursion (HasPoints es) groups → HasPoints es' g' → AllByRecursion (HasPoints es') groups'
  points_then all here = all_set number_in (HasPoints es) (HasPoints es') groups place g g' l is once o.points here all

  pub right_then : AllByRecursion IsRightGroup groups → IsRightGroup g' → AllByRecursion IsRightGroup groups'
  right_then all here = all_set number_in IsRightGroup IsRightGroup groups place g g' l is once (λ h other k. k) here all

  pub tallied_then : AllByRecursion (HasTallied b es) groups → HasTallied b es' g' → AllByRecursion (HasTallied b es') groups'
  tallied_then all here = all_set number_in (HasTallied b es) (HasTallied b es') groups place g g' l is once (λ h other k. record { held = k.held; tallied = o.tallied h other k.held k.tallied }) here all

  pub once_then : AllByRecursion HasOnce groups → HasOnce g' → AllByRecursion HasOnce groups'
  once_then all here = all_set number_in HasOnce HasOnce groups place g g' l is once (λ h other k. k) here all

  pub traced_then : AllByRecursion (AreTraced es) groups → AreTraced es' g' → AllByRecursion (AreTraced es') groups'
  traced_then all here = all_set number_in (AreTraced es) (AreTraced es') groups place g g' l is once o.traced here all

  pub begun_then : AllByRecursion (HasBegun es) groups → HasBegun es' g' → AllByRecursion (HasBegun es') groups'
  begun_then all here = all_set number_in (HasBegun es) (HasBegun es') groups place g g' l is once o.begun here all

  -- its table shows other data then
  pub shown_then : AllByRecursion IsRightGroup groups → (indexes : List Index) (v : ℕ → GroupData) (w : GroupData) → AllByRecursion (HasShown b es indexes v) groups → HasShown b es' indexes (with_part v (number_in g) w) g' → AllByRecursion (HasShown b es' indexes (with_part v (number_in g) w)) groups'
  shown_then rights indexes v w all here = all_set number_in (λ h. IsRightGroup h × HasShown b es indexes v h) (HasShown b es' indexes (with_part v (number_in g) w)) groups place g g' l is once
      (λ h other p. (let
      k = p.1
      in let
      same : v h.table.id.0 ≡ with_part v (number_in g) w h.table.id.0 = sym (with_part-other v (number_in g) w h.table.id.0 other)
      in record {
        held = k.held;
        tallied = o.tallied h other k.held k.tallied;
        shown = subst (λ (u : GroupData). IsShownBy b (forms_in indexes h.table) es' h u k.held) same (o.shown h other (forms_in indexes h.table) (v h.table.id.0) k.held k.shown);
        told = subst (λ (u : GroupData). IsToldBy b (forms_in indexes h.table) es' h u) same (o.told h other (forms_in indexes h.table) (v h.table.id.0) k.told);
        built = subst (λ (u : GroupData). AreBuilt (form_of b (forms_in indexes h.table) h) es' u) same (o.built h other p.0 (forms_in indexes h.table) (v h.table.id.0) k.held k.tallied k.shown k.built);
      })) here (all_both IsRightGroup (HasShown b es indexes v) groups rights all)

  pub disk_then : {D : Type 0} (d : Ghosts D) (disk : D) (f : FolderData) → AllByRecursion (IsOnDisk d disk f) groups → IsOnDisk d disk f g' → AllByRecursion (IsOnDisk d disk f) groups'
  disk_then d disk f all here = all_set number_in (IsOnDisk d disk f) (IsOnDisk d disk f) groups place g g' l is once (λ h other k. k) here all

-- what the group shows, in the words of all tables
pub own_shown : (b : Base) (es' : List Entry) (indexes : List Index) (v : ℕ → GroupData) (w : GroupData) (t : Table) (g' : Group) → g'.table ≡ t → (hs : List HeldBatch) → IsTallied b es' g' hs → IsShownBy b (forms_in indexes t) es' g' w hs → IsToldBy b (forms_in indexes t) es' g' w → AreBuilt (form_of b (forms_in indexes t) g') es' w → HasShown b es' indexes (with_part v t.id.0 w) g'
own_shown b es' indexes v w t g' table hs tallied shown told built =
    let same : w ≡ with_part v t.id.0 w g'.table.id.0 = sym (ap (λ (x : Table). with_part v t.id.0 w x.id.0) table ∙ with_part-here v t.id.0 w) in
    record {
      held = hs;
      tallied = tallied;
      shown = subst (λ (u : GroupData). IsShownBy b (forms_in indexes g'.table) es' g' u hs) same (subst (λ (x : Table). IsShownBy b (forms_in indexes x) es' g' w hs) (sym table) shown);
      told = subst (λ (u : GroupData). IsToldBy b (forms_in indexes g'.table) es' g' u) same (subst (λ (x : Table). IsToldBy b (forms_in indexes x) es' g' w) (sym table) told);
      built = subst (λ (u : GroupData). AreBuilt (form_of b (forms_in indexes g'.table) g') es' u) same (subst (λ (x : Table). AreBuilt (form_of b (forms_in indexes x) g') es' w) (sym table) built);
    }
