-- The table's horizon rises, by an entry.
use Rattle.std.proofs.Common.{◌≡◌, ◌≢◌, ◌≤◌, ◌==◌, inl, ℕ, Bool, true, false, if◌then◌else◌, Some, List, [], ◌∷◌, ◌++◌, get_or, refl, sym, ap, subst, ◌∙◌, arith}
use Rattle.std.proofs.lemmas.Bool.{eq-eqb}
use Rattle.px_outside.specs.Parts.{with_part}
use Rattle.px_values.specs.declared.name.TableId.{TableId}
use Rattle.px_values.specs.declared.row.Value.{Value}
use Rattle.px_calls.specs.Requires.{base_step, is_based}
use Rattle.px_trail.specs.Legal.{Follows, MayCome, MayRaise}
use Rattle.px_trail.specs.Trail.{Base, catalogue_of, catalogue_step, horizon_of, horizon_step, last_of, last_step, open_points, points_step}
use Rattle.px_trail.specs.declared.entry.Act.{Act}
use Rattle.px_trail.specs.declared.entry.Act.TheVariants.{Raised}
use Rattle.px_trail.specs.declared.entry.Entry.{Entry}
use Rattle.px_trail.proofs.Growth.{catalogue-snoc, horizon-snoc, last-snoc, points-snoc}
use Rattle.px_trail.proofs.Orders.{WritesNone}
use Rattle.px_world.specs.Events.{Raise}
use Rattle.px_forms.specs.Indexes.{IndexForm}
use Rattle.px_indexed.specs.Idle.{IsElsewhere}
use Rattle.px_indexed.proofs.Idle.{IsStill, raised_still}
use Rattle.px_groupworld.specs.Group.{GroupData, TableForm, no_part}
use Rattle.px_groupworld.specs.Steps.{raised_data}
use Rattle.px_openbatches.specs.Pending.{HeldBatch}
use Rattle.px_tablesteps.specs.Kept.{TableSteps}
use Rattle.px_tablesteps.proofs.Upkeep.{table_raised}
use Rattle.px_tablereads.proofs.Tells.{quiet_written, told_same}
use Rattle.px_built.proofs.Tables.{based_entry, built_stays}
use Rattle.px_group.specs.Group.{AreStanding, IsRightBatch, IsRightGroup, IsShownBy, IsTallied, form_of}
use Rattle.px_group.specs.declared.group.Group.{Group}
use Rattle.px_batching.proofs.Places.{all_more}
use Rattle.px_batching.proofs.Right.{SameIndexes, right_moves}
use Rattle.px_noting.proofs.Others.{held_still, phases_still}
use Rattle.px_reading.specs.Doubts.{IsToldBy}
use Rattle.px_recovery.specs.Folder.{FolderData}
use Rattle.px_recovery.specs.Stands.{Explains}
use Rattle.px_recovery.specs.Tables.{form_of_index, index_in, table_in}
use Rattle.px_recovery.proofs.Explains.{by_entry, noted_kept}
use Rattle.px_recovery.proofs.Numbered.{found_number}
use Rattle.px_forgotten.specs.Forgotten.{AreBuiltBy, at_horizon}

-- ---- what the entry tells

module _ (b : Base) (es : List Entry) (e : Entry) (t : TableId) (h : ℕ) (is : e.act ≡ Raised t h) where
  abbrev es' : List Entry
  es' = es ++ e ∷ []

  pub same_catalogue : catalogue_of b es' ≡ catalogue_of b es
  unfolding catalogue_step
  same_catalogue = catalogue-snoc b es e ∙ ap (catalogue_step (catalogue_of b es)) is

  same_last : (n : ℕ) → last_of b n es' ≡ last_of b n es
  same_last n = last-snoc b n es e ∙ ap (last_step n (last_of b n es)) is

  if_true : (c : Bool) (m n : ℕ) → c ≡ true → (if c then m else n) ≡ m
  if_true true m n k = refl
  if_true false m n k = (let z : false ≡ true = k in cc)

  horizon_now : horizon_of b t.0 es' ≡ h
  horizon_now = horizon-snoc b t.0 es e ∙ (ap (horizon_step t.0 (horizon_of b t.0 es)) is ∙ if_true (t.0 == t.0) h (horizon_of b t.0 es) (eq-eqb t.0 t.0 refl))

  same_points : (seat s : ℕ) → open_points seat t.0 s es' ≡ open_points seat t.0 s es
  unfolding points_step
  same_points seat s = points-snoc seat t.0 s es e ∙ ap (points_step seat t.0 s (open_points seat t.0 s es) e.seat) is

  still : IsStill t e
  still = raised_still t e h is

  same_based : (n : ℕ) (r : List Value) → is_based es' n r ≡ is_based es n r
  same_based n r = based_entry es e n r ∙ ap (base_step n r (is_based es n r)) is

  -- it rises
  rises : MayCome b es e → horizon_of b t.0 es ≤ h
  unfolding Follows
  rises may =
      let f : MayRaise b es t.0 h = subst (λ (a : Act). Follows b es e.seat e.calls a) is may.follows in
      let r = f.rises in
      omega (arith, r)

-- ---- the group

module _ (g : Group) (h : ℕ) where
  abbrev now : Group
  now = at_horizon h g

  same_parts : SameIndexes g now
  same_parts = record { table = refl; count = refl; each = λ j z at. (z, (at, refl)) }

  pub raised_right : IsRightGroup g → IsRightGroup now
  raised_right r = record {
    table = r.table;
    region = r.region;
    rows = r.rows;
    parts = r.parts;
    batches = all_more (IsRightBatch g) (IsRightBatch now) (right_moves g now same_parts) g.batches.items r.batches;
    rooms = record { rows = r.rooms.rows; indexes = r.rooms.indexes; light = r.rooms.light };
  }

  module _ (es : List Entry) (e : Entry) (is : e.act ≡ Raised g.table.id h) (b : Base) where
    standing_now : AreStanding b es g → AreStanding b (es ++ e ∷ []) now
    standing_now k = record {
      table = ap (λ c. c.tables g.table.id.0) (same_catalogue b es e g.table.id h is) ∙ k.table;
      index = λ i x at. ap (λ c. c.indexes x.index.id.0) (same_catalogue b es e g.table.id h is) ∙ k.index i x at;
      all = λ y at of_table maintained. k.all y (ap (λ c. c.indexes y.id.0) (sym (same_catalogue b es e g.table.id h is)) ∙ at) of_table maintained;
    }

    pub raised_tallied : (hs : List HeldBatch) → IsTallied b es g hs → IsTallied b (es ++ e ∷ []) now hs
    raised_tallied hs k = record {
      standing = standing_now k.standing;
      last = same_last b es e g.table.id h is g.table.id.0 ∙ k.last;
      horizon = horizon_now b es e g.table.id h is;
      held = held_still b es g.table.id e (still b es e g.table.id h is) hs k.held;
      batches = k.batches;
      phases = phases_still b es g.table.id e (still b es e g.table.id h is) g.batches.items hs k.phases;
      points = λ seat s. same_points b es e g.table.id h is seat s ∙ k.points seat s;
    }

    -- ---- what it shows

    module _ (index : ℕ → IndexForm) (hs : List HeldBatch) (v : GroupData) (shown : IsShownBy b index es g v hs) (may : MayCome b es e) where
      abbrev f : TableForm
      f = form_of b index g

      pub raised_steps : TableSteps f (λ i r. Some (Raise h)) es v (es ++ e ∷ []) (raised_data h v) hs
      raised_steps = table_raised f es v hs shown.kept e may h is

      pub raised_shown : IsShownBy b index (es ++ e ∷ []) now (raised_data h v) hs
      raised_shown = record { kept = raised_steps.kept; rows = shown.rows; count = shown.count; parts = shown.parts; forms = shown.forms }

      pub raised_told : IsToldBy b index es g v → IsToldBy b index (es ++ e ∷ []) now (raised_data h v)
      raised_told told = record {
        told = told_same f es v shown.kept.group (es ++ e ∷ []) (raised_data h v) raised_steps.kept.group told.told refl refl (quiet_written f es v shown.kept.group e (subst WritesNone (sym is) tt));
        own = told.own;
      }

      pub raised_built : AreBuiltBy f es v → AreBuiltBy f (es ++ e ∷ []) (raised_data h v)
      raised_built built i l =
          built_stays f es v shown.kept.group (λ j r. Some (Raise h)) (es ++ e ∷ []) (raised_data h v) raised_steps.does i l (λ r. tt) refl
          (λ r based. inl (sym (same_based b es e g.table.id h is (get_or v.indexes i no_part).id r) ∙ based)) (built i l)

-- ---- the folder

-- it is of no other table
elsewhere : (t : TableId) (h : ℕ) (act : Act) → act ≡ Raised t h → (other : TableId) → t.0 ≢ other.0 → IsElsewhere other act
elsewhere t h act is other apart = subst (IsElsewhere other) (sym is) apart

pub raised_folder : (b : Base) (es : List Entry) (f : FolderData) (v : ℕ → GroupData) → Explains b es f v → (g : Group) (hs : List HeldBatch) → IsTallied b es g hs → IsShownBy b (λ n. form_of_index g.table (index_in f.standing.indexes n)) es g (v g.table.id.0) hs
    → (e : Entry) → MayCome b es e → (h : ℕ) → e.act ≡ Raised g.table.id h → Explains b (es ++ e ∷ []) f (with_part v g.table.id.0 (raised_data h (v g.table.id.0)))
raised_folder b es f v told g hs k shown e may h is =
    let t = g.table.id.0 in
    let index = λ (n : ℕ). form_of_index g.table (index_in f.standing.indexes n) in
    let found : table_in f.standing.tables t ≡ Some g.table = told.catalogue.tables t ∙ k.standing.table in
    let steps = raised_steps g h es e is b index hs (v t) shown may in
    let up = rises b es e g.table.id h is may in
    let high = shown.kept.group.high in
    noted_kept b es (es ++ e ∷ []) f v told t
    (by_entry b es f v told t e may (same_catalogue b es e g.table.id h is) (λ q y other at. elsewhere g.table.id h e.act is y.id (λ same. other (sym (found_number f.standing.tables q y at) ∙ sym same))))
    g.table found (raised_data h (v t)) steps.kept.group (omega (arith, up, high)) refl refl refl
