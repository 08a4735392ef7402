-- The horizon of a table rises: what is true of a server stays so.
use Rattle.std.proofs.Common.{◌≡◌, ◌<◌, ◌≤◌, inl, inr, ℕ, Bool, true, false, if◌then◌else◌, Option, Some, None, List, [], ◌∷◌, ◌++◌, length, get_or, refl, sym, ap, subst, ◌∙◌, arith}
use Rattle.std.specs.Prelude.{IsTrue, min}
use Rattle.std.specs.List.{slice_set}
use Rattle.px_outside.specs.declared.disk.Disk.{Ghosts}
use Rattle.px_values.specs.declared.name.TableId.{TableId}
use Rattle.px_trail.specs.Legal.{Follows, MayCome, MayRaise}
use Rattle.px_trail.specs.Recorded.{Recorded}
use Rattle.px_trail.specs.States.{greatest_stamp}
use Rattle.px_trail.specs.Trail.{Base, closing_step, open_points}
use Rattle.px_trail.specs.declared.entry.Act.TheVariants.{Raised}
use Rattle.px_trail.specs.declared.entry.Entry.{Entry}
use Rattle.px_groupworld.specs.Steps.{raised_data}
use Rattle.px_calls.specs.Requires.{HasOpen}
use Rattle.px_calls.specs.declared.query.Point.{Point}
use Rattle.px_schema.specs.declared.standing.Standing.{Standing}
use Rattle.px_catalog.specs.declared.catalog.Catalog.{Catalog}
use Rattle.px_group.specs.Group.{IsRightGroup, IsShownBy, IsTallied, form_of}
use Rattle.px_group.specs.declared.group.Group.{Group}
use Rattle.px_turns.specs.Turns.{IsAllowedHorizon, IsRaise}
use Rattle.px_raising.specs.Turning.{turning_of_group}
use Rattle.px_raising.proofs.Raises.{may_raise}
use Rattle.px_forgotten.specs.Forgotten.{at_horizon}
use Rattle.px_forgotten.proofs.Raised as rise
use Rattle.px_reading.specs.Doubts.{IsToldBy}
use Rattle.px_recovery.proofs.Server.{newest_early}
use Rattle.px_defined.specs.Defined.{HasOnce}
use Rattle.px_shown.specs.Told.{reach_of}
use Rattle.px_server.specs.Kept.{AreBuilt, HasPoints, HasTallied, IsKept, IsOnDisk, owed}
use Rattle.px_server.specs.Others.{Beginning}
use Rattle.px_server.specs.Upkeep.{HasRaised, HasRisen}
use Rattle.px_server.proofs.Blamed.{blamed_quiet}
use Rattle.px_server.proofs.Acted.{IsActed, acted, once_at, right_at, tallied_at}

-- ---- how far it rises

-- what is allowed below is allowed
allowed_below : (g : Group) (lookback h low : ℕ) → low ≤ h → IsAllowedHorizon (turning_of_group g) lookback h → IsAllowedHorizon (turning_of_group g) lookback low
allowed_below g lookback h low le a = record {
  back = (let b = a.back in omega (arith, b, le));
  unclosed = λ s is. (let u = a.unclosed s is in omega (arith, u, le));
  points = λ s some. (let p = a.points s some in omega (arith, p, le));
}

module _ (g : Group) (lookback r h : ℕ) (is : IsRaise (turning_of_group g) lookback r) (up_to : h ≡ min r greatest_stamp) where
  pub within : h ≤ greatest_stamp
  within = omega (arith, up_to)

  below : h ≤ r
  below = omega (arith, up_to)

  -- above the horizon, it is allowed
  pub allowed : g.horizon < h → IsAllowedHorizon (turning_of_group g) lookback h
  allowed above = allowed_below g lookback r h below (elim is.allowed [
    | inl same ↦ absurd (let b = below in omega (arith, same, b, above))
    | inr a ↦ a
  ])

  -- and none of greater stamps is
  pub greatest : (low : ℕ) → IsAllowedHorizon (turning_of_group g) lookback low → low ≤ greatest_stamp → low ≤ h
  greatest low a stamp = (let m = is.greatest low a in omega (arith, m, stamp, up_to))

  pub risen_here : h ≤ g.horizon → HasRisen lookback g
  risen_here high low a stamp = (let m = greatest low a stamp in omega (arith, m, high))

  pub risen_then : (g' : Group) → g' ≡ at_horizon h g → HasRisen lookback g'
  risen_then g' group = subst (HasRisen lookback) (sym group) (λ low a stamp. greatest low (record { back = a.back; unclosed = a.unclosed; points = a.points }) stamp)

-- where it had risen, it doesn't rise
pub unraised : (lookback seat calls : ℕ) (g g' : Group) (trail trail' : Recorded) → HasRisen lookback g → HasRaised lookback seat calls g g' trail trail' → ⊥
unraised lookback seat calls g g' trail trail' risen r = (let m = risen r.horizon r.allowed r.within in let a = r.above in omega (arith, m, a))

-- ---- a server

unshut_by : (o : Option ℕ) (t : TableId) (h : ℕ) → closing_step o (Raised t h) ≡ o
unshut_by None t h = refl
unshut_by (Some c) t h = refl

module _ {D : Type 0} (d : Ghosts D) (tells_left : (x : D) (moment file : ℕ) (bytes : List ℕ) → d.left x moment file bytes → IsTrue d.tells)
    (up_to_now : (x : D) (moment file : ℕ) (bytes : List ℕ) → d.left x moment file bytes → moment ≤ d.calls x) (b : Base) (sound premise : Type 0) (began : Beginning)
    (disk : D) (catalog : Catalog) (standing : Standing) (groups : List Group) (trail : Recorded) (late : Option Entry) (closed : Option ℕ) (k : IsKept d b sound premise began disk catalog standing groups trail late closed)
    (running : closed ≡ None) (place : ℕ) (g g' : Group) (l : place < length groups) (is : get_or groups place g ≡ g) (lookback seat calls : ℕ) (at : calls ≡ d.calls disk) (trail' : Recorded) (r : HasRaised lookback seat calls g g' trail trail') where
  abbrev es : List Entry
  es = trail.entries

  abbrev h : ℕ
  h = r.horizon

  abbrev e : Entry
  e = record { seat = seat; calls = calls; act = Raised g.table.id r.horizon }

  told_here : HasTallied b es g
  told_here = tallied_at d b sound premise began disk catalog standing groups trail late closed k place g l is running

  pub may_rise : MayRaise b es g.table.id.0 r.horizon
  may_rise = may_raise b es g told_here.held told_here.tallied lookback r.horizon r.above r.allowed

  may : MayCome b es e
  unfolding Follows
  may = record {
    follows = may_rise;
    shut = λ not. k.told.closing ∙ running;
    calls = (let n = newest_early (d.calls disk) 0 es (omega arith) k.server.early in omega (arith, n, at));
  }

  points : HasPoints (es ++ e ∷ []) g'
  points = subst (HasPoints (es ++ e ∷ [])) (sym r.group) (rise.raised_tallied g r.horizon es e refl b told_here.held told_here.tallied).points

  own : IsActed d disk b es (es ++ e ∷ []) closed g g'
  own = record {
    table = ap (λ (x : Group). x.table) r.group;
    points = points;
    right = λ none. subst IsRightGroup (sym r.group) (rise.raised_right g r.horizon (right_at d b sound premise began disk catalog standing groups trail late closed k place g l is running));
    tallied = λ none. record { held = told_here.held; tallied = subst (λ (x : Group). IsTallied b (es ++ e ∷ []) x told_here.held) (sym r.group) (rise.raised_tallied g r.horizon es e refl b told_here.held told_here.tallied) };
    once = λ none. subst HasOnce (sym r.group) (once_at d b sound premise began disk catalog standing groups trail late closed k place g l is running);
    traced = λ call shut. absurd (let z : None ≡ Some call = sym running ∙ shut in cc);
    begun = λ call shut. absurd (let z : None ≡ Some call = sym running ∙ shut in cc);
    shown = λ none index v hs tallied shown told built. record {
      after = raised_data r.horizon v;
      held = hs;
      tallied = subst (λ (x : Group). IsTallied b (es ++ e ∷ []) x hs) (sym r.group) (rise.raised_tallied g r.horizon es e refl b hs tallied);
      shown = subst (λ (x : Group). IsShownBy b index (es ++ e ∷ []) x (raised_data r.horizon v) hs) (sym r.group) (rise.raised_shown g r.horizon es e refl b index hs v shown may);
      told = subst (λ (x : Group). IsToldBy b index (es ++ e ∷ []) x (raised_data r.horizon v)) (sym r.group) (rise.raised_told g r.horizon es e refl b index hs v shown may told);
      built = subst (λ (x : Group). AreBuilt (form_of b index x) (es ++ e ∷ []) (raised_data r.horizon v)) (sym r.group) (record { each = rise.raised_built g r.horizon es e refl b index hs v shown may built.each });
      high = (let up = may_rise.rises in let was = shown.kept.group.high in omega (arith, up, was));
      low = refl;
      cells = refl;
      indexes = refl;
    };
    on_disk = λ none f on. subst (IsOnDisk d disk f) (sym r.group) (record { rows = on.rows; indexes = on.indexes });
  }

  pub raised_kept : IsKept d b sound premise began disk catalog standing (slice_set groups place g') trail' late closed
  raised_kept =
      acted d b sound premise began disk catalog standing groups trail late closed k place g l is tells_left up_to_now e at refl (blamed_quiet d disk trail.entries e refl k.blamed) may (unshut_by closed g.table.id r.horizon) (rise.same_catalogue b es e g.table.id r.horizon refl)
      (λ x other same. other (sym same)) tt g' own trail' r.entries (let same : owed g' ≡ owed g = ap owed r.group in let room = r.room in omega (arith, same, room))

  -- each point that is open sees as far as the horizon
  pub open_above : (damaged : ℕ → ℕ → Bool) (who : ℕ) (p : Point) → HasOpen (record { seat = who; base = b; damaged = damaged; alone = true; seen = es }) p → g.table.id.0 ≡ p.table.0 → r.horizon ≤ reach_of p
  open_above damaged who p open_ table = by p.scn
    where
      at_point : r.horizon ≤ p.stamp
      at_point = may_rise.points who p.stamp (subst (λ (t : ℕ). 0 < open_points who t p.stamp es) (sym table) open_)

      by : (scn : Bool) → r.horizon ≤ (if scn then p.stamp else greatest_stamp)
      by true = at_point
      by false = r.within
