use Rattle.std.proofs.Common.{◌≡◌, ◌<◌, ◌≤◌, ◌+◌, ◌-◌, ◌/◌, List, ℕ, arith, drop, get_or, length, length-drop, subst, sym, take}
use Rattle.std.proofs.lemmas.List.{take_all}
use Rattle.px_memstore.specs.inner.Merging.{ArePlaces}
use Rattle.px_memstore.proofs.Halving.{both, joined, left_places, left_side, right_places, right_side}
use Rattle.px_memstore.proofs.Turned.{place_from, place_within, places_len, places_take, turned_at}
use Rattle.px_memstore.proofs.merging.+weave.Goals as goal

pub overflow_sub-at-2 : goal.overflow_sub-at-2
overflow_sub-at-2 t c =
    let cells = c.args.cells.now in
    let middle = c.args.middle in
    let before = c.args.before in
    let places = c.args.places.now in
    let more = c.if-rest-le-FEW.false in
    let low = c.requires.within in
    let half = length places / 2 + 1 in
    let count = places_len (take middle cells) before (drop middle cells) places c.requires.places in
    let all : middle + length places ≡ length cells = (let d = length-drop middle cells in omega (arith, d, count, low)) in
    let inside : middle + half ≤ length cells = omega (arith, all, more) in
    let some : 0 < half = omega arith in
    let given = places_take (take middle cells) before (drop middle cells) places half c.requires.places in
    place_from cells middle half before places some inside given

pub bring-requires-clause-before : goal.bring-requires-clause-before
bring-requires-clause-before t c =
    let cells = c.args.cells.now in
    let middle = c.args.middle in
    let before = c.args.before in
    let places = c.args.places.now in
    let more = c.if-rest-le-FEW.false in
    let low = c.requires.within in
    let half = length places / 2 + 1 in
    let count = places_len (take middle cells) before (drop middle cells) places c.requires.places in
    let all : middle + length places ≡ length cells = (let d = length-drop middle cells in omega (arith, d, count, low)) in
    let inside : middle + half ≤ length cells = omega (arith, all, more) in
    let some : 0 < half = omega arith in
    let given = places_take (take middle cells) before (drop middle cells) places half c.requires.places in
    place_within cells middle half before places some inside given

pub bring-requires-clause-within : goal.bring-requires-clause-within
bring-requires-clause-within t c =
    let cells = c.args.cells.now in
    let middle = c.args.middle in
    let before = c.args.before in
    let places = c.args.places.now in
    let more = c.if-rest-le-FEW.false in
    let low = c.requires.within in
    let half = length places / 2 + 1 in
    let count = places_len (take middle cells) before (drop middle cells) places c.requires.places in
    let all : middle + length places ≡ length cells = (let d = length-drop middle cells in omega (arith, d, count, low)) in
    let inside : middle + half ≤ length cells = omega (arith, all, more) in
    let some : 0 < half = omega arith in
    let given = places_take (take middle cells) before (drop middle cells) places half c.requires.places in
    inside

pub split_at_mut-left-requires : goal.split_at_mut-left-requires
split_at_mut-left-requires t c =
    let cells = c.args.cells.now in
    let middle = c.args.middle in
    let before = c.args.before in
    let places = c.args.places.now in
    let more = c.if-rest-le-FEW.false in
    let low = c.requires.within in
    let half = length places / 2 + 1 in
    let count = places_len (take middle cells) before (drop middle cells) places c.requires.places in
    let all : middle + length places ≡ length cells = (let d = length-drop middle cells in omega (arith, d, count, low)) in
    let inside : middle + half ≤ length cells = omega (arith, all, more) in
    let some : 0 < half = omega arith in
    let given = places_take (take middle cells) before (drop middle cells) places half c.requires.places in
    let at = get_or places (half - 1) 0 - before in
    let new = c.bring.new.cells in
    let turned = turned_at cells middle half before places some inside given new c.bring.ensures.turned in
    let w = turned.within in
    let l = c.bring.ensures.len in
    omega (arith, w, inside, l)

pub weave-requires : goal.weave-requires
weave-requires t c =
    let cells = c.args.cells.now in
    let middle = c.args.middle in
    let before = c.args.before in
    let places = c.args.places.now in
    let more = c.if-rest-le-FEW.false in
    let low = c.requires.within in
    let half = length places / 2 + 1 in
    let count = places_len (take middle cells) before (drop middle cells) places c.requires.places in
    let all : middle + length places ≡ length cells = (let d = length-drop middle cells in omega (arith, d, count, low)) in
    let inside : middle + half ≤ length cells = omega (arith, all, more) in
    let some : 0 < half = omega arith in
    let given = places_take (take middle cells) before (drop middle cells) places half c.requires.places in
    let at = get_or places (half - 1) 0 - before in
    let new = c.bring.new.cells in
    let turned = turned_at cells middle half before places some inside given new c.bring.ensures.turned in
    let w = turned.within in
    let l = left_side cells new middle half at inside some c.requires.first c.requires.second c.requires.apart turned c.split_at_mut-left.result.0.now c.split_at_mut-left.ensures.front in
    (omega (arith, c.split_at_mut-left.ensures.front_len, c.bring.ensures.len, w, more, inside, all), (l.inside, (l.front_sorted, (l.back_sorted, (l.none, left_places cells new middle half at inside some c.requires.first c.requires.second c.requires.apart turned c.split_at_mut-left.result.0.now before places c.split_at_mut-left.ensures.front c.requires.places)))))

pub weave-requires-2 : goal.weave-requires-2
weave-requires-2 t c =
    let cells = c.args.cells.now in
    let middle = c.args.middle in
    let before = c.args.before in
    let places = c.args.places.now in
    let more = c.if-rest-le-FEW.false in
    let low = c.requires.within in
    let half = length places / 2 + 1 in
    let count = places_len (take middle cells) before (drop middle cells) places c.requires.places in
    let all : middle + length places ≡ length cells = (let d = length-drop middle cells in omega (arith, d, count, low)) in
    let inside : middle + half ≤ length cells = omega (arith, all, more) in
    let some : 0 < half = omega arith in
    let given = places_take (take middle cells) before (drop middle cells) places half c.requires.places in
    let at = get_or places (half - 1) 0 - before in
    let new = c.bring.new.cells in
    let turned = turned_at cells middle half before places some inside given new c.bring.ensures.turned in
    let w = turned.within in
    let r = right_side cells new middle half at inside some c.requires.first c.requires.second c.requires.apart turned c.split_at_mut-left.result.1.now c.split_at_mut-left.ensures.back in
    (omega (arith, c.split_at_mut-left.ensures.back_len, c.bring.ensures.len, w, more, inside, all), (r.inside, (r.front_sorted, (r.back_sorted, (r.none, subst (λ (ps : List ℕ). ArePlaces (take (middle - at) c.split_at_mut-left.result.1.now) (before + at) (drop (middle - at) c.split_at_mut-left.result.1.now) ps) (sym (take_all (length places - half) (drop half places) (let d = length-drop half places in omega (arith, d)))) (right_places cells new middle half at inside some c.requires.first c.requires.second c.requires.apart turned c.split_at_mut-left.result.1.now before places c.split_at_mut-left.ensures.back c.requires.places))))))

pub returns-clause-ascending : goal.returns-clause-ascending
returns-clause-ascending t c =
    let cells = c.args.cells.now in
    let middle = c.args.middle in
    let before = c.args.before in
    let places = c.args.places.now in
    let more = c.if-rest-le-FEW.false in
    let low = c.requires.within in
    let half = length places / 2 + 1 in
    let count = places_len (take middle cells) before (drop middle cells) places c.requires.places in
    let all : middle + length places ≡ length cells = (let d = length-drop middle cells in omega (arith, d, count, low)) in
    let inside : middle + half ≤ length cells = omega (arith, all, more) in
    let some : 0 < half = omega arith in
    let given = places_take (take middle cells) before (drop middle cells) places half c.requires.places in
    let at = get_or places (half - 1) 0 - before in
    let new = c.bring.new.cells in
    let turned = turned_at cells middle half before places some inside given new c.bring.ensures.turned in
    let w = turned.within in
    let l = left_side cells new middle half at inside some c.requires.first c.requires.second c.requires.apart turned c.split_at_mut-left.result.0.now c.split_at_mut-left.ensures.front in
    let r = right_side cells new middle half at inside some c.requires.first c.requires.second c.requires.apart turned c.split_at_mut-left.result.1.now c.split_at_mut-left.ensures.back in
    joined cells new middle half at inside some c.requires.first c.requires.second c.requires.apart turned c.split_at_mut-left.result.0.now c.split_at_mut-left.result.1.now c.weave.new.cells c.weave-2.new.cells l r
    c.weave.ensures.ascending c.weave-2.ensures.ascending c.weave.ensures.same c.weave-2.ensures.same

pub returns-clause-same : goal.returns-clause-same
returns-clause-same t c =
    let cells = c.args.cells.now in
    let middle = c.args.middle in
    let before = c.args.before in
    let places = c.args.places.now in
    let more = c.if-rest-le-FEW.false in
    let low = c.requires.within in
    let half = length places / 2 + 1 in
    let count = places_len (take middle cells) before (drop middle cells) places c.requires.places in
    let all : middle + length places ≡ length cells = (let d = length-drop middle cells in omega (arith, d, count, low)) in
    let inside : middle + half ≤ length cells = omega (arith, all, more) in
    let some : 0 < half = omega arith in
    let given = places_take (take middle cells) before (drop middle cells) places half c.requires.places in
    let at = get_or places (half - 1) 0 - before in
    let new = c.bring.new.cells in
    let turned = turned_at cells middle half before places some inside given new c.bring.ensures.turned in
    let w = turned.within in
    let l = left_side cells new middle half at inside some c.requires.first c.requires.second c.requires.apart turned c.split_at_mut-left.result.0.now c.split_at_mut-left.ensures.front in
    let r = right_side cells new middle half at inside some c.requires.first c.requires.second c.requires.apart turned c.split_at_mut-left.result.1.now c.split_at_mut-left.ensures.back in
    both cells new middle half at inside some c.requires.first c.requires.second c.requires.apart turned c.split_at_mut-left.result.0.now c.split_at_mut-left.result.1.now c.weave.new.cells c.weave-2.new.cells l r
    c.weave.ensures.ascending c.weave-2.ensures.ascending c.weave.ensures.same c.weave-2.ensures.same
