use Rattle.std.proofs.Common.{◌≡◌, ◌∙◌, Bool, false, ap, sym, inl, inr, arith}
use Rattle.std.specs.Prelude.{◌||◌, nat_lt}
use Rattle.std.proofs.lemmas.Bool.{cases_Bool}
use Rattle.std.proofs.lemmas.Bool.Decides.{nat_tests}
use Rattle.px_memstore.specs.Left.{has_place}
use Rattle.px_memstore.proofs.Replacing.{no_place}
use Rattle.px_memstore.proofs.Thinning.{place_found, place_lacks}
use Rattle.px_memstore.proofs.keeping.is_left.Goals as goal

pub returns : goal.returns
returns c =
    let kept = c.args.kept.now in
    let cell = c.args.cell.now in
    let low : nat_lt c.args.horizon cell.stamp ≡ false = (let s = c.stamp.ensures in let f = c.if-horizon-stamp.false in grind (arith, nat_tests)) in
    let here : c.stands_at.result ≡ has_place kept cell = elim (cases_Bool c.stands_at.result) [
      | inl e ↦ (let f = c.stands_at.ensures.found e in e ∙ sym (place_found kept c.place_for-at.result cell f.0 f.1))
      | inr e ↦ e ∙ sym (place_lacks kept cell (no_place kept c.place_for-at.result cell c.requires c.place_for-at.ensures.below c.place_for-at.ensures.from (c.stands_at.ensures.none e)))
    ] in
    here ∙ sym (ap (λ (b : Bool). b || has_place kept cell) low)
