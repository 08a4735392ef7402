-- Points stay open.
use Rattle.std.proofs.Common.{ℕ, ◌≡◌, ◌+◌, ◌==◌, if◌then◌else◌, Bool, true, false, List, [], ◌∷◌, ◌++◌, refl, ◌∙◌, ap, arith}
use Rattle.std.proofs.lemmas.Bool.Decides.{Decides-eqb}
use Rattle.px_values.specs.declared.name.TableId.{TableId}
use Rattle.px_trail.specs.declared.entry.Act.{Act}
use Rattle.px_trail.specs.declared.entry.Act.TheVariants.{Opened, Released}
use Rattle.px_trail.specs.declared.entry.Entry.{Entry}
use Rattle.px_trail.specs.Trail.{acts_by, points_step, points_from, open_points}
use Rattle.px_trail.proofs.Growth.{points_from-append, points-snoc}
use Rattle.px_calls.specs.declared.query.Point.{Point}
use Rattle.px_calls.specs.Known.{Known, TimePasses, Adds, Ran, outline, is_turn}
use Rattle.px_calls.specs.Requires.{HasOpen}

step_other : (seat t s n seat' : ℕ) (act : Act) → (seat' == seat) ≡ false → points_step seat t s n seat' act ≡ n
unfolding points_step
step_other seat t s n seat' (Opened t' s' scn) h = rw h refl
step_other seat t s n seat' (Released t' s') h = rw h refl
step_other seat t s n seat' act h = refl

step_quiet : (seat t s n seat' : ℕ) (act : Act) → is_turn act ≡ false → points_step seat t s n seat' act ≡ n
unfolding points_step
step_quiet seat t s n seat' (Opened t' s' scn) h = cc
step_quiet seat t s n seat' (Released t' s') h = cc
step_quiet seat t s n seat' act h = refl

quiet_cons : (act : Act) (acts : List Act) → outline (act ∷ acts) ≡ [] → (is_turn act ≡ false) × (outline acts ≡ [])
quiet_cons act acts =
    elim (is_turn act) as (λ v. is_turn act ≡ v → (if v then act ∷ outline acts else outline acts) ≡ [] → (is_turn act ≡ false) × (outline acts ≡ [])) [
      | true ↦ λ h n. cc
      | false ↦ λ h n. (h, n)
    ] refl

pub points-quiet : (seat t s n : ℕ) (es : List Entry) → outline (acts_by seat es) ≡ [] → points_from seat t s n es ≡ n
unfolding points_from acts_by
points-quiet seat t s n [] h = refl
points-quiet seat t s n (e ∷ es) h =
    elim (e.seat == seat) as (λ v. (e.seat == seat) ≡ v → outline (if v then e.act ∷ acts_by seat es else acts_by seat es) ≡ [] → points_from seat t s (points_step seat t s n e.seat e.act) es ≡ n) [
      | true ↦ λ is h. let q = quiet_cons e.act (acts_by seat es) h in rw (step_quiet seat t s n e.seat e.act q.0) (points-quiet seat t s n es q.1)
      | false ↦ λ is h. rw (step_other seat t s n e.seat e.act is) (points-quiet seat t s n es h)
    ] refl h

-- entries in which the seat opens and closes nothing leave a point open
pub quiet-open : (k k' : Known) (more : List Entry) (p : Point) → k'.seen ≡ k.seen ++ more → outline (acts_by k.seat more) ≡ [] → k'.seat ≡ k.seat → HasOpen k p → HasOpen k' p
quiet-open k k' more p seen quiet seat was =
    let e : open_points k'.seat p.table.0 p.stamp k'.seen ≡ open_points k.seat p.table.0 p.stamp k.seen =
    ap (λ (n : ℕ). open_points n p.table.0 p.stamp k'.seen) seat
    ∙ (ap (open_points k.seat p.table.0 p.stamp) seen
    ∙ (points_from-append k.seat p.table.0 p.stamp 0 k.seen more ∙ points-quiet k.seat p.table.0 p.stamp (open_points k.seat p.table.0 p.stamp k.seen) more quiet)) in
    omega arith

-- calls that open and close nothing leave a point open
pub ran-open : (k k' : Known) (acts : List Act) (p : Point) → Ran k k' acts → outline acts ≡ [] → HasOpen k p → HasOpen k' p
ran-open k k' acts p h quiet was = quiet-open k k' h.added p h.seen (ap outline h.own ∙ quiet) h.seat was

-- others' entries leave a point open
pub passes-open : (k k' : Known) (p : Point) → TimePasses k k' → HasOpen k p → HasOpen k' p
passes-open k k' p h was = quiet-open k k' h.others p h.seen (ap outline h.apart) h.seat was

opened_one : (seat s n : ℕ) (t : TableId) (scn : Bool) → points_step seat t.0 s n seat (Opened t s scn) ≡ n + 1
unfolding points_step
opened_one seat s n t scn =
    let a : (seat == seat) ≡ true = (Decides-eqb seat seat).1 refl in
    let b : (t.0 == t.0) ≡ true = (Decides-eqb t.0 t.0).1 refl in
    let d : (s == s) ≡ true = (Decides-eqb s s).1 refl in
    rw (a, b, d) refl

pub adds-opened : (k k' : Known) (p : Point) (scn : Bool) → Adds k k' (Opened p.table p.stamp scn) → HasOpen k' p
adds-opened k k' p scn h =
    let e = h.extends in
    let at : open_points k'.seat p.table.0 p.stamp k'.seen ≡ open_points h.between.seat p.table.0 p.stamp h.between.seen + 1 =
    ap (λ (n : ℕ). open_points n p.table.0 p.stamp k'.seen) e.seat
    ∙ (ap (open_points h.between.seat p.table.0 p.stamp) e.seen
    ∙ (points-snoc h.between.seat p.table.0 p.stamp h.between.seen (record { seat = h.between.seat; calls = e.calls; act = Opened p.table p.stamp scn })
    ∙ opened_one h.between.seat p.stamp (open_points h.between.seat p.table.0 p.stamp h.between.seen) p.table scn)) in
    omega arith
