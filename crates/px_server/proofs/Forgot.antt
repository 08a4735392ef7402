-- A region's files at a horizon: what a step does to the region, what is still to forget, and which doubts stay.
use Rattle.std.proofs.Common.{◌≡◌, ◌≢◌, ◌<◌, ◌≤◌, ◌⊎◌, inl, inr, ℕ, false, Option, None, Some, Result, Ok, Err, OnOk, List, [], refl, sym, ap, ◌∙◌, arith}
use Rattle.std.specs.Prelude.{nat_eq, not, ◌&&◌}
use Rattle.std.proofs.lemmas.Bool.{cases_Bool, false≢true}
use Rattle.px_outside.specs.declared.disk.Disk.{Ghosts}
use Rattle.px_cells.specs.CellData.{CellData}
use Rattle.px_cells.specs.Contents.{cell_of, value_at}
use Rattle.px_cells.specs.Sight.{IsPlainRegion, seen_at}
use Rattle.px_cells.specs.Visible.{IsVisible}
use Rattle.px_cells.specs.declared.kind.CellKind.TheVariants.{Put}
use Rattle.px_cells.proofs.Contents.{value_from_reads}
use Rattle.px_cells.proofs.NewestSeen.{visible_from, visible_to}
use Rattle.px_cellshapes.specs.Keys.{AreRightKeys}
use Rattle.px_cellshapes.proofs.KeysRead.{keys_plain}
use Rattle.px_merge.specs.Kept.{IsKeptList}
use Rattle.px_merge.proofs.Sight.{sight_same}
use Rattle.px_region.specs.Forgetting.{StaysWanted}
use Rattle.px_region.specs.Region.{RegionData, RegionHolds, data_of, read_of}
use Rattle.px_region.specs.declared.forget.ForgetStep.{ForgetStep}
use Rattle.px_region.specs.declared.forget.ForgetStep.TheVariants.{More, Done, Forgot}
use Rattle.px_region.specs.declared.region.Region.{Region}
use Rattle.px_tables.specs.declared.index.Index.{Index}
use Rattle.px_tables.specs.declared.table.Table.{Table}
use Rattle.px_looks.specs.Found.{at_key}
use Rattle.px_looks.specs.Versions.{is_verified, version_at, version_of_stamp}
use Rattle.px_repairs.specs.Repairs.{is_doubt}
use Rattle.px_forgotten.specs.Forgotten.{ForgetsOn}
use Rattle.px_forgotten.proofs.Kept.{keys_kept}
use Rattle.px_server.specs.Upkeep.{HasStepped, IsToForget, StaysOn, StepsFiles}

-- ---- 1. A step

-- what a step answers that isn't that the region forgot
more_not : {E : Type 0} → ◌≡◌ {A = Result ForgetStep E} (Ok More) (Ok Forgot) → ⊥
more_not e = cc

done_not : {E : Type 0} → ◌≡◌ {A = Result ForgetStep E} (Ok Done) (Ok Forgot) → ⊥
done_not e = cc

pub err_not : {E : Type 0} (x : E) → ◌≡◌ {A = Result ForgetStep E} (Err x) (Ok Forgot) → ⊥
err_not x e = cc

module _ {D : Type 0} (d : Ghosts D) (old new : Region) (disk disk' : D) (horizon : ℕ) (steps : StepsFiles d old new disk disk' horizon) where
  forgets_on : IsKeptList (read_of old) horizon (read_of new) → new.horizon ≡ horizon → ((s : RegionData) → RegionHolds d old disk s → RegionHolds d new disk' (data_of new)) → ForgetsOn d old new disk disk' horizon
  forgets_on kept horizon_is holds = record {
    forgotten = record { number = steps.number; kept = kept; horizon = horizon_is; promised = steps.promised };
    leaves = steps.leaves;
    touches = steps.touches;
    counts = steps.counts;
    holds = holds;
  }

  -- it goes on as it was, or as what the horizon keeps
  module _ {E : Type 0} (result : Result ForgetStep E) (read : result ≢ Ok Forgot → read_of new ≡ read_of old) (same : result ≢ Ok Forgot → new.horizon ≡ old.horizon) where
    stays_by : result ≢ Ok Forgot → ((s : RegionData) → RegionHolds d old disk s → RegionHolds d new disk' s) → StaysOn d old new disk disk'
    stays_by not_so holds = record { read = read not_so; horizon = same not_so; holds = holds }

  pub stepped_by : {E : Type 0} (result : Result ForgetStep E) → (result ≢ Ok Forgot → read_of new ≡ read_of old) → (result ≢ Ok Forgot → new.horizon ≡ old.horizon) → (result ≡ Ok Forgot → IsKeptList (read_of old) horizon (read_of new) × (new.horizon ≡ horizon))
      → ((s : RegionData) → RegionHolds d old disk s → OnOk result (result ≢ Ok Forgot → RegionHolds d new disk' s)) → ((s : RegionData) → RegionHolds d old disk s → result ≡ Ok Forgot → RegionHolds d new disk' (data_of new)) → OnOk result (HasStepped d old new disk disk' horizon)
  stepped_by {E = E} (Ok More) read same kept done forgot = inl (stays_by {E = E} (Ok More) read same more_not (λ s held. done s held more_not))
  stepped_by {E = E} (Ok Done) read same kept done forgot = inl (stays_by {E = E} (Ok Done) read same done_not (λ s held. done s held done_not))
  stepped_by (Ok Forgot) read same kept done forgot = inr (forgets_on (kept refl).0 (kept refl).1 (λ s held. forgot s held refl))
  stepped_by (Err x) read same kept done forgot = tt

-- ---- 2. What is still to forget

module _ (horizon : ℕ) (old new : Region) where
  pub same_to_forget : read_of new ≡ read_of old → new.horizon ≡ old.horizon → StaysWanted old new → IsToForget horizon old → IsToForget horizon new
  same_to_forget read same wanted (inl w) = inl (wanted w)
  same_to_forget read same wanted (inr (inl none)) = inr (inl (read ∙ none))
  same_to_forget read same wanted (inr (inr low)) = inr (inr (omega (arith, same, low)))

  pub stepped_to_forget : {E : Type 0} (result : Result ForgetStep E) → (result ≢ Ok Forgot → read_of new ≡ read_of old) → (result ≢ Ok Forgot → new.horizon ≡ old.horizon) → (result ≡ Ok Forgot → new.horizon ≡ horizon) → OnOk result (result ≢ Ok Forgot → StaysWanted old new)
      → OnOk result (IsToForget horizon old → IsToForget horizon new)
  stepped_to_forget (Ok More) read same forgot wanted = same_to_forget (read more_not) (same more_not) (wanted more_not)
  stepped_to_forget (Ok Done) read same forgot wanted = same_to_forget (read done_not) (same done_not) (wanted done_not)
  stepped_to_forget (Ok Forgot) read same forgot wanted = λ to. inr (inr (let h = forgot refl in omega (arith, h)))
  stepped_to_forget (Err x) read same forgot wanted = tt

  -- where one is wanted no more, there is no cell, or a later horizon was forgotten at
  pub begun_to_forget : read_of new ≡ read_of old → new.horizon ≡ old.horizon → (new.wanted ≢ old.wanted → (read_of old ≡ []) ⊎ (horizon < old.horizon)) → IsToForget horizon old → IsToForget horizon new
  begun_to_forget read same over to = elim (cases_Bool new.wanted) [
    | inl w ↦ inl w
    | inr none ↦ by none to
  ]
    where
      by : new.wanted ≡ false → IsToForget horizon old → IsToForget horizon new
      by none (inl w) = elim (over (λ e. false≢true (sym none ∙ (e ∙ w)))) [
        | inl empty ↦ inr (inl (read ∙ empty))
        | inr low ↦ inr (inr (omega (arith, same, low)))
      ]
      by none (inr (inl empty)) = inr (inl (read ∙ empty))
      by none (inr (inr low)) = inr (inr (omega (arith, same, low)))

-- ---- 3. Doubts

-- the stamp that a point sees of a column's puts, and their values there, where a horizon at or below it kept the cells
module _ (cells kept : List CellData) (plain : IsPlainRegion cells) (plain' : IsPlainRegion kept) (h p : ℕ) (keeps : IsKeptList cells h kept) (since : h ≤ p) (k : List ℕ) (q : ℕ) where
  still_sees : (c : CellData) → IsVisible cells p c → IsVisible kept p c
  still_sees c = (sight_same cells kept h p c keeps.exact since).1

  saw : (c : CellData) → IsVisible kept p c → IsVisible cells p c
  saw c = (sight_same cells kept h p c keeps.exact since).0

  seen_here : (s : ℕ) → seen_at (value_at cells) k q p ≡ Some s → seen_at (value_at kept) k q p ≡ Some s
  seen_here s e = (let v = visible_from cells plain p k q s e in visible_to kept plain' p k q (cell_of k q s Put v.0) refl refl (still_sees (cell_of k q s Put v.0) v.1.1))

  same_seen : seen_at (value_at kept) k q p ≡ seen_at (value_at cells) k q p
  same_seen = by (seen_at (value_at cells) k q p) refl (seen_at (value_at kept) k q p) refl
    where
      by : (o : Option ℕ) → seen_at (value_at cells) k q p ≡ o → (o' : Option ℕ) → seen_at (value_at kept) k q p ≡ o' → o' ≡ o
      by (Some s) e o' e' = sym e' ∙ seen_here s e
      by None e None e' = refl
      by None e (Some s) e' = (let v = visible_from kept plain' p k q s e' in sym e' ∙ (e' ∙ (sym (visible_to cells plain p k q (cell_of k q s Put v.0) refl refl (saw (cell_of k q s Put v.0) v.1.1)) ∙ e)))

  same_value : (s : ℕ) → seen_at (value_at cells) k q p ≡ Some s → value_at kept k q s Put ≡ value_at cells k q s Put
  same_value s e = (let v = visible_from kept plain' p k q s (seen_here s e) in v.1.0 ∙ sym (value_from_reads cells k q s Put v.0 (saw (cell_of k q s Put v.0) v.1.1).live.among))

doubt_of : (u p : ℕ) (columns : List ℕ) (a b : List CellData) (k : List ℕ) (o : Option ℕ) → ((s : ℕ) → o ≡ Some s → value_at b k 1 s Put ≡ value_at a k 1 s Put) → is_doubt u (version_of_stamp (at_key (value_at b) k) columns p o) ≡ is_doubt u (version_of_stamp (at_key (value_at a) k) columns p o)
doubt_of u p columns a b k None same = refl
doubt_of u p columns a b k (Some s) same = ap (λ (x : Option (List ℕ)). nat_eq s u && not (is_verified x)) (same s refl)

-- a point from the horizon on sees the same version, of which the same tells whether it is in doubt
pub kept_doubt : (t : Table) (i : Index) (cells : List CellData) → AreRightKeys t i cells → (h : ℕ) (kept : List CellData) → IsKeptList cells h kept → (p : ℕ) → h ≤ p → (k : List ℕ) (u : ℕ) (columns : List ℕ)
    → is_doubt u (version_at (at_key (value_at kept) k) columns p) ≡ is_doubt u (version_at (at_key (value_at cells) k) columns p)
kept_doubt t i cells shape h kept keeps p since k u columns = (let
    plain = keys_plain t i cells shape
    in let
    plain' = keys_plain t i kept (keys_kept t i cells shape h kept keeps)
    in let
    stamp : seen_at (value_at kept) k 1 p ≡ seen_at (value_at cells) k 1 p = same_seen cells kept plain plain' h p keeps since k 1
    in ap (λ (o : Option ℕ). is_doubt u (version_of_stamp (at_key (value_at kept) k) columns p o)) stamp ∙ doubt_of u p columns cells kept k (seen_at (value_at cells) k 1 p) (same_value cells kept plain plain' h p keeps since k 1))
