use Rattle.std.proofs.Common.{◌≡◌, ◌∙◌, get_or, ap, sym, append-nil, Vec}
use Rattle.std.specs.declared.alloc.Global.{Global}
use Rattle.px_tables.specs.declared.table.KeyPlace.{KeyPlace}
use Rattle.px_values.specs.declared.order.Direction.TheVariants.{Ascending}
use Rattle.px_indexrow.specs.Form.{rest_of}
use Rattle.px_indexrow.proofs.KeysHeld.{rest_added, rest_passed, place_any}
use Rattle.px_indexrow.proofs.keys.places_of.Goals.{then-not-is_part+in_ok-push, else-not-is_part}
use Rattle.px_indexrow.proofs.keys.places_of.Goals as goal

pub loop-place-init : goal.loop-place-init
unfolding rest_of
loop-place-init c = c.in_ok-places.ensures.items ∙ sym (append-nil c.as_slice-indexed.result.now)

pub loop-place-preserved : goal.loop-place-preserved
loop-place-preserved c =
    let key = c.as_slice-place-items.result.now in
    let i = c.loop-place.place-index in
    let d : KeyPlace = record { column = 0; direction = Ascending } in
    let p = get_or key i d in
    let is : p ≡ get_or key i p = place_any key i d p c.loop-place-test.true in
    elim c.if-not-is_part.branch [
      | then-not-is_part+in_ok-push w ↦ rest_added c.as_slice-indexed.result.now key i p c.loop-place.places.items c.if-not-is_part.places.items c.loop-place-test.true is (sym c.is_part.ensures ∙ w.if-not-is_part.true) c.loop-place.invariant (ap (λ (v : Vec KeyPlace Global). v.items) w.places-is ∙ w.in_ok-push.ensures.items)
      | else-not-is_part w ↦ rest_passed c.as_slice-indexed.result.now key i p c.loop-place.places.items c.if-not-is_part.places.items c.loop-place-test.true is (sym c.is_part.ensures ∙ w.if-not-is_part.false) c.loop-place.invariant (ap (λ (v : Vec KeyPlace Global). v.items) w.places-is)
    ]
