use Rattle.std.proofs.Common.{◌≡◌, ◌∙◌, ◌-◌, ◌<◌, List, ℕ, arith, drop, length, length-drop, refl, subst, sym, take}
use Rattle.std.proofs.lemmas.List.{take_all}
use Rattle.px_cells.specs.CellData.{CellData}
use Rattle.px_memstore.specs.inner.Merging.{ArePlaces}
use Rattle.px_memstore.proofs.Turned.{place_from, place_within, places_len, turned_at}
use Rattle.px_memstore.proofs.Weaving.{IsWeaving, weaving_done, weaving_more, weaving_none, weaving_places, weaving_within}
use Rattle.px_memstore.proofs.merging.weave_few.Goals as goal

pub loop-rest-init : goal.loop-rest-init
loop-rest-init c =
    let cells = c.args.cells.now in
    let middle = c.args.middle in
    let places = c.args.places.now in
    let front = take middle cells in
    let back = drop middle cells in
    let n = length places in
    let same : length back ≡ n = places_len front c.args.before back places c.requires.places in
    let count : length cells - middle ≡ n = sym (length-drop middle cells) ∙ same in
    record {
      weaving = subst (λ (k : ℕ). IsWeaving cells middle k cells) count (weaving_none cells middle c.requires.within c.requires.first c.requires.second c.requires.apart);
      placed = subst (λ (l : List CellData). ArePlaces front c.args.before l (take n places)) (sym (take_all n back (omega (arith, same)))) (subst (λ (l : List ℕ). ArePlaces front c.args.before back l) (sym (take_all n places (omega arith))) c.requires.places);
      left = omega arith;
      len = refl;
    }

pub bounds-places-rest : goal.bounds-places-rest
bounds-places-rest c = (let t = c.loop-rest-test.true in let l = c.loop-rest.invariant.left in omega (arith, t, l))

pub overflow_sub-at-in-loop-rest : goal.overflow_sub-at-in-loop-rest
overflow_sub-at-in-loop-rest c =
    let i = c.loop-rest.invariant in
    place_from c.loop-rest.cells c.loop-rest.end c.loop-rest.rest c.args.before c.args.places.now (let t = c.loop-rest-test.true in omega (arith, t)) (weaving_within c.args.cells.now c.loop-rest.cells c.loop-rest.end c.loop-rest.rest i.weaving) i.placed

pub bring-requires-clause-before : goal.bring-requires-clause-before
bring-requires-clause-before c =
    let i = c.loop-rest.invariant in
    place_within c.loop-rest.cells c.loop-rest.end c.loop-rest.rest c.args.before c.args.places.now (let t = c.loop-rest-test.true in omega (arith, t)) (weaving_within c.args.cells.now c.loop-rest.cells c.loop-rest.end c.loop-rest.rest i.weaving) i.placed

pub loop-rest-preserved : goal.loop-rest-preserved
loop-rest-preserved c =
    let i = c.loop-rest.invariant in
    let cells = c.loop-rest.cells in
    let new = c.bring.new.cells in
    let end = c.loop-rest.end in
    let rest = c.loop-rest.rest in
    let t = c.loop-rest-test.true in
    let l = i.left in
    let some : 0 < rest = omega (arith, t) in
    let turned = turned_at cells end rest c.args.before c.args.places.now some (weaving_within c.args.cells.now cells end rest i.weaving) i.placed new c.bring.ensures.turned in
    record {
      weaving = weaving_more c.args.cells.now cells new end rest _ i.weaving some turned;
      placed = weaving_places c.args.cells.now cells new end rest _ i.weaving some turned c.args.before c.args.places.now i.placed;
      left = omega (arith, l);
      len = c.bring.ensures.len ∙ i.len;
    }

pub returns-clause-ascending : goal.returns-clause-ascending
returns-clause-ascending c = weaving_done c.args.cells.now c.loop-rest.cells c.loop-rest.end c.loop-rest.rest (let t = c.loop-rest-test.false in omega arith) c.loop-rest.invariant.weaving
