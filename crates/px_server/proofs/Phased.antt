-- An entry tells that a phase of a batch is done, and no region changes.
use Rattle.std.proofs.Common.{◌≡◌, ◌+◌, ℕ, Option, Some, None, List, [], ◌∷◌, ◌++◌, length, get_or, slice_get, refl, sym, ap, subst, ◌∙◌, arith}
use Rattle.std.specs.Prelude.{sum_by}
use Rattle.std.proofs.Math.ListN.{set}
use Rattle.std.proofs.lemmas.List.Sums.{sum_by-set}
use Rattle.std.proofs.lemmas.Option.{get_or_from_slice_get}
use Rattle.px_outside.specs.declared.disk.Disk.{Ghosts}
use Rattle.px_values.specs.declared.name.TableId.{TableId}
use Rattle.px_tables.specs.declared.table.Table.{Table}
use Rattle.px_trail.specs.declared.entry.Act.{Act}
use Rattle.px_trail.specs.declared.entry.Act.TheVariants.{Phase as PhaseDone}
use Rattle.px_trail.specs.declared.entry.Entry.{Entry}
use Rattle.px_trail.specs.Legal.{MayCome}
use Rattle.px_trail.specs.Trail.{Base}
use Rattle.px_trail.proofs.Orders.{WritesNone}
use Rattle.px_region.specs.Region.{RegionHolds}
use Rattle.px_region.specs.declared.region.Region.{Region}
use Rattle.px_rows.specs.Spelled.{row_form}
use Rattle.px_forms.specs.Indexes.{IndexForm}
use Rattle.px_groupworld.specs.Group.{GroupData, GroupKept, table_form}
use Rattle.px_groupworld.specs.Steps.{no_events}
use Rattle.px_openbatches.specs.Pending.{HeldBatch}
use Rattle.px_tablereads.specs.Told.{AreTold}
use Rattle.px_tablereads.proofs.Tells.{quiet_written, told_same}
use Rattle.px_group.specs.Group.{IsRightGroup, IsShownBy, IsTallied, form_of}
use Rattle.px_group.specs.declared.group.Begun.{Begun}
use Rattle.px_group.specs.declared.group.Group.{Group}
use Rattle.px_group.specs.declared.group.Phase.TheVariants.{Closing, Writing}
use Rattle.px_batching.specs.Known.{own_of}
use Rattle.px_batching.specs.Steps.{FinishesCloses, FinishesMarks, IsBatchStep, IsQuietStep}
use Rattle.px_batching.proofs.May.{stamp_is}
use Rattle.px_batching.proofs.Places.{within}
use Rattle.px_batching.proofs.Right.{right_marked, right_verified}
use Rattle.px_batching.proofs.Shown.{marked_shown_on, marked_steps, verified_shown_on, verified_steps}
use Rattle.px_batching.proofs.Tallied.{tallied_marked, tallied_verified}
use Rattle.px_defined.specs.Defined.{HasOnce}
use Rattle.px_reading.specs.Doubts.{IsToldBy}
use Rattle.px_recovery.specs.Folder.{FolderData}
use Rattle.px_server.specs.Kept.{HasTallied, IsOnDisk, owed, owed_by, steps_of}
use Rattle.px_server.proofs.Acted.{IsActed}
use Rattle.px_server.proofs.Built.{IsUnbased, built_table, built_told}
use Rattle.px_server.proofs.Numbers.{same_once}

-- ---- the entries that a group owes after a step of one batch

pub owed_step : (g g' : Group) (m : ℕ) (x x' : Begun) → IsBatchStep g g' m x x' → owed g' + steps_of x.phase ≡ owed g + steps_of x'.phase
owed_step g g' m x x' s = (let
    sum = sum_by-set owed_by g.batches.items m x' x (within g.batches.items m x s.batch)
    in let
    was : owed_by (get_or g.batches.items m x) ≡ owed_by x = ap owed_by (get_or_from_slice_get g.batches.items m x x s.batch)
    in let
    now : sum_by owed_by g'.batches.items ≡ sum_by owed_by (set g.batches.items m x') = ap (sum_by owed_by) s.batches
    in let
    points : length g'.points.items ≡ length g.points.items = ap (λ p. length p.items) s.points
    in omega (arith, sum, was, now, points))

-- ---- no region changes

module _ {D : Type 0} (d : Ghosts D) (disk : D) (g g' : Group) (m : ℕ) (x x' : Begun) (q : IsQuietStep g g' m x x') where
  pub quiet_on_disk : (f : FolderData) → IsOnDisk d disk f g → IsOnDisk d disk f g'
  quiet_on_disk f on = record {
    rows = subst (λ (r : Region). RegionHolds d r disk (f.regions r.number)) (sym q.rows) on.rows;
    indexes = λ i y at. on.indexes i y (ap (λ xs. slice_get xs.items i) (sym q.indexes) ∙ at);
  }

  module _ (b : Base) (es : List Entry) (e : Entry) (none : WritesNone e.act) (index : ℕ → IndexForm) (v : GroupData) (hs : List HeldBatch) where
    pub quiet_told : IsShownBy b index es g v hs → IsShownBy b index (es ++ e ∷ []) g' v hs → IsToldBy b index es g v → IsToldBy b index (es ++ e ∷ []) g' v
    quiet_told shown then told = record {
      told = subst (λ (t : Table). AreTold (table_form b t.id index (row_form t)) (es ++ e ∷ []) v) (sym q.step.table)
          (told_same (form_of b index g) es v shown.kept.group (es ++ e ∷ []) v
          (subst (λ (t : Table). GroupKept (table_form b t.id index (row_form t)) (es ++ e ∷ []) v) q.step.table then.kept.group)
          told.told refl refl (quiet_written (form_of b index g) es v shown.kept.group e none));
      own = λ i y at. told.own i y (ap (λ xs. slice_get xs.items i) (sym q.indexes) ∙ at);
    }

none_written : (a : Act) (t : TableId) (s p : ℕ) → a ≡ PhaseDone t s p → WritesNone a
none_written a t s p is = subst WritesNone (sym is) tt

-- ---- the first phase is done, and the third

module _ {D : Type 0} (d : Ghosts D) (disk : D) (b : Base) (es : List Entry) (closed : Option ℕ) (running : closed ≡ None) (g g' : Group) (right : IsRightGroup g) (once : HasOnce g) (tallied : HasTallied b es g) (m : ℕ) (e : Entry) (may : MayCome b es e) where
  pub marked_acts : (f : FinishesMarks g g' m) → e.act ≡ PhaseDone g.table.id f.batch.batch.stamp 1 → IsActed d disk b es (es ++ e ∷ []) closed g g'
  marked_acts f act = (let
      own_act : (hs : List HeldBatch) → IsTallied b es g hs → e.act ≡ PhaseDone g.table.id (own_of m hs).stamp 1 = λ hs k. act ∙ ap (λ (n : ℕ). PhaseDone g.table.id n 1) (sym (stamp_is b es g hs k m f.batch f.step.step.batch))
      in let
      now = λ (hs : List HeldBatch) (k : IsTallied b es g hs). tallied_marked b es e g g' hs right k m f (own_act hs k)
      in record {
        table = f.step.step.table;
        points = (now tallied.held tallied.tallied).points;
        right = λ open_. right_marked g g' m right f;
        tallied = λ open_. record { held = tallied.held; tallied = now tallied.held tallied.tallied };
        once = λ open_. same_once g g' (ap (λ w. w.items) f.step.indexes) once;
        traced = λ call shut. absurd (let no : None ≡ Some call = sym running ∙ shut in cc);
        begun = λ call shut. absurd (let no : None ≡ Some call = sym running ∙ shut in cc);
        shown = λ open_ index v hs k shown told built. (let
            then = marked_shown_on b index es g g' v hs right k shown m f e may (own_act hs k)
            in record {
              after = v;
              held = hs;
              tallied = now hs k;
              shown = then;
              told = quiet_told d disk g g' m f.batch (record f.batch { phase = Writing }) f.step b es e (none_written e.act g.table.id f.batch.batch.stamp 1 act) index v hs shown then told;
              built = built_table b index (es ++ e ∷ []) v g.table g'.table (sym f.step.step.table)
                  (built_told (form_of b index g) es v shown.kept.group no_events e v (marked_steps b index es g g' v hs right k shown m f e may (own_act hs k)).does (λ i r. tt) (λ i l. refl) (λ n. subst (IsUnbased n) (sym act) tt) built);
              high = omega arith;
              low = refl;
              cells = refl;
              indexes = refl;
            });
        on_disk = λ open_. quiet_on_disk d disk g g' m f.batch (record f.batch { phase = Writing }) f.step;
      })

  pub verified_acts : (f : FinishesCloses g g' m) → e.act ≡ PhaseDone g.table.id f.batch.batch.stamp 3 → IsActed d disk b es (es ++ e ∷ []) closed g g'
  verified_acts f act = (let
      own_act : (hs : List HeldBatch) → IsTallied b es g hs → e.act ≡ PhaseDone g.table.id (own_of m hs).stamp 3 = λ hs k. act ∙ ap (λ (n : ℕ). PhaseDone g.table.id n 3) (sym (stamp_is b es g hs k m f.batch f.step.step.batch))
      in let
      now = λ (hs : List HeldBatch) (k : IsTallied b es g hs). tallied_verified b es e g g' hs right k m f (own_act hs k)
      in record {
        table = f.step.step.table;
        points = (now tallied.held tallied.tallied).points;
        right = λ open_. right_verified g g' m right f;
        tallied = λ open_. record { held = tallied.held; tallied = now tallied.held tallied.tallied };
        once = λ open_. same_once g g' (ap (λ w. w.items) f.step.indexes) once;
        traced = λ call shut. absurd (let no : None ≡ Some call = sym running ∙ shut in cc);
        begun = λ call shut. absurd (let no : None ≡ Some call = sym running ∙ shut in cc);
        shown = λ open_ index v hs k shown told built. (let
            then = verified_shown_on b index es g g' v hs right k shown m f e may (own_act hs k)
            in record {
              after = v;
              held = hs;
              tallied = now hs k;
              shown = then;
              told = quiet_told d disk g g' m f.batch (record f.batch { phase = Closing }) f.step b es e (none_written e.act g.table.id f.batch.batch.stamp 3 act) index v hs shown then told;
              built = built_table b index (es ++ e ∷ []) v g.table g'.table (sym f.step.step.table)
                  (built_told (form_of b index g) es v shown.kept.group no_events e v (verified_steps b index es g g' v hs right k shown m e may (own_act hs k)).does (λ i r. tt) (λ i l. refl) (λ n. subst (IsUnbased n) (sym act) tt) built);
              high = omega arith;
              low = refl;
              cells = refl;
              indexes = refl;
            });
        on_disk = λ open_. quiet_on_disk d disk g g' m f.batch (record f.batch { phase = Closing }) f.step;
      })
