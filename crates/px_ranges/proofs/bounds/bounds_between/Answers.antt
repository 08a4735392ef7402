use Rattle.std.proofs.Common.{◌≡◌, ◌↔◌, ◌<◌, ◌∙◌, List, ℕ, Option, Some, ap, subst, sym}
use Rattle.px_keys.specs.Range.{IsBetween, bound_bytes}
use Rattle.px_ranges.specs.inner.Cuts.{IsBelow, StandsBefore, behind_values, cut_of}
use Rattle.px_ranges.proofs.Places.{between_is}
use Rattle.px_ranges.proofs.bounds.bounds_between.Goals as goal

pub returns-in-Ok : goal.returns-in-Ok
returns-in-Ok c = λ key small. (
    let low : IsBelow key (Some c.of.result) ↔ StandsBefore c.args.columns.now key (behind_values c.args.equal.now (cut_of c.args.low)) =
    subst (λ (x : Option (List ℕ)). IsBelow key x ↔ StandsBefore c.args.columns.now key (behind_values c.args.equal.now (cut_of c.args.low))) (ap bound_bytes c.in-Some.is ∙ ap (λ (x : List ℕ). Some x) (sym c.of.ensures)) (c.in_ok-low.ensures key small) in
    let high : IsBelow key c.bound.result ↔ StandsBefore c.args.columns.now key (behind_values c.args.equal.now (cut_of c.args.high)) =
    subst (λ (x : Option (List ℕ)). IsBelow key x ↔ StandsBefore c.args.columns.now key (behind_values c.args.equal.now (cut_of c.args.high))) (sym c.bound.ensures) (c.in-Ok.ensures key small) in
    let between = between_is c.of.result c.bound.result key in (
      λ h. (let k = between.0 h in (λ z. k.0 (low.1 z), high.0 k.1)),
      λ h. between.1 (λ z. h.0 (low.0 z), high.1 h.1),
    ))
