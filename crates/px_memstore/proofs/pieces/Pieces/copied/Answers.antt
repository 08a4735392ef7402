use Rattle.std.proofs.Common.{◌≡◌, ◌<◌, ◌∙◌, ◌++◌, List, Vec, Global, ap, append_assoc, get_or, length, map, rules, subst, sym, take}
use Rattle.std.proofs.lemmas.List.{append-nil}
use Rattle.px_cells.specs.CellData.{CellData}
use Rattle.px_cells.specs.declared.cell.Cell.{Cell}
use Rattle.px_memstore.specs.Pieces.{chained}
use Rattle.px_memstore.proofs.Finding.{chained_more}
use Rattle.px_memstore.proofs.pieces.Pieces.copied.Goals as goal

pub loop-piece-init : goal.loop-piece-init
loop-piece-init c = (let e : c.in_ok-all.all.items ≡ c.args.self.now.first.items = search rules in e ∙ sym (append-nil c.args.self.now.first.items))

pub loop-piece-preserved : goal.loop-piece-preserved
loop-piece-preserved c =
    let first = c.args.self.now.first.items in
    let others = c.args.self.now.others.items in
    let at = c.loop-piece.piece-index in
    let e = c.deref-piece-items.ensures.value in
    let lt = subst (λ (l : List (Vec Cell Global)). at < length l) e c.loop-piece-test.true in
    let is = subst (λ (l : List (Vec Cell Global)). c.piece-item.result ≡ get_or l at c.piece-item.result) e c.piece-item.is in
    let copy : c.in_ok-copy.copy.items ≡ c.piece-item.result.items = search rules in
    let all : c.append.new.self.items ≡ c.loop-piece.all.items ++ c.in_ok-copy.copy.items = search rules in
    all ∙ ((λ j. c.loop-piece.invariant j ++ copy j) ∙ (append_assoc first (chained (take at (map (λ (v : Vec Cell Global). v.items) others))) c.piece-item.result.items ∙ ap (λ (l : List CellData). first ++ l) (sym (chained_more (λ (v : Vec Cell Global). v.items) others at c.piece-item.result lt is))))
