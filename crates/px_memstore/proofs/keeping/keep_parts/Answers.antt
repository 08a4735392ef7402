use Rattle.std.proofs.Common.{◌≡◌, ◌<◌, ◌∙◌, [], List, Vec, Global, ap, arith, get_or, get_or-set_same, length, length-append, map, sym, take}
use Rattle.std.specs.Prelude.{slice_set}
use Rattle.std.proofs.lemmas.List.{get_or-map, length-map, length-set, map-set, take-set-le}
use Rattle.px_cells.specs.CellData.{CellData}
use Rattle.px_cells.specs.declared.cell.Cell.{Cell}
use Rattle.px_memstore.specs.Left.{left}
use Rattle.px_memstore.specs.Pieces.{chained}
use Rattle.px_memstore.proofs.Finding.{chained_more}
use Rattle.px_memstore.proofs.Thinning.{thinned_get, thinned_next}
use Rattle.px_memstore.proofs.keeping.keep_parts.Goals as goal

abbrev of : Vec Cell Global → List CellData
of v = v.items

pub loop-at-preserved : goal.loop-at-preserved
loop-at-preserved c =
    let xs = c.loop-at.pieces.items in
    let at = c.loop-at.at in
    let new = c.keep_part.new.cells in
    let all = map of c.args.pieces.now.items in
    let keep = left c.args.kept.now c.args.horizon in
    let i = c.loop-at.invariant in
    let t = c.loop-at-test.true in
    let o = c.loop-at.pieces.ok.0 in
    let q = c.args.pieces.now.ok.0 in
    let a = c.loop-at.auto.at-end in
    let n = i.len in
    let long : at < length xs = omega arith in
    let m = length-map c.args.pieces.now.items of in
    let wide : at < length all = omega arith in
    let here : c.index_mut-piece.result.now.items ≡ get_or all at [] = ap of c.index_mut-piece.ensures.value ∙ (sym (get_or-map of xs at c.index_mut-piece.result.now [] long) ∙ (ap (λ (l : List (List CellData)). get_or l at []) i.so_far ∙ thinned_get keep all at [] wide)) in
    let same : get_or (slice_set xs at new) at new ≡ new = get_or-set_same xs at new new long in
    let before : take at (map of (slice_set xs at new)) ≡ take at (map of xs) = ap (take at) (map-set of xs at new) ∙ take-set-le at (map of xs) at new.items (omega arith) in
    let more = ap (λ (l : List CellData). length l) (chained_more of (slice_set xs at new) at new (let s = length-set xs at new in omega (arith, s, long)) (sym same)) in
    let join = length-append (chained (take at (map of (slice_set xs at new)))) new.items in
    let front = ap (λ (l : List (List CellData)). length (chained l)) before in
    record {
      so_far = map-set of xs at new ∙ ((λ j. slice_set (i.so_far j) at ((c.keep_part.ensures.left ∙ ap keep here) j)) ∙ thinned_next keep all at [] wide);
      count = (let k = i.count in let s = c.saturating_add-count.ensures in let l = c.len.ensures in let o = new.ok.0 in omega (arith, more, join, front, k, s, l, o));
      len = (let s = length-set xs at new in omega (arith, s, n));
    }
