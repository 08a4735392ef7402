use Rattle.std.proofs.Common.{◌≡◌, ◌∙◌, ◌++◌, ◌∷◌, [], arith, subst, sum, sym, ap, length, length-append, List, ℕ}
use Rattle.std.specs.List.{AllByRecursion}
use Rattle.std.proofs.lemmas.List.Sums.{sum_by_push}
use Rattle.px_cells.specs.CellData.{CellData}
use Rattle.px_cells.specs.Order.{IsApart}
use Rattle.px_cellbytes.specs.Spelling.{all_bytes}
use Rattle.px_keptcells.specs.Kept.{HaveOtherKeys, IsFitting, laid}
use Rattle.px_keptcells.specs.inner.Rows.{cut}
use Rattle.px_keptcells.proofs.Parts.{all_bytes-append, joined_all, joined_apart}
use Rattle.px_keptcells.proofs.Rows.{cut_push, laid_cut}
use Rattle.px_keptcells.proofs.kept.KeptCells.add.Goals as goal

pub invariant_of-self : goal.invariant_of-self
invariant_of-self c =
    let old = c.self.inside.cells.items in
    let part = c.args.part in
    let all : c.move_behind.new.room.items ≡ old ++ part = c.move_behind.ensures ∙ (λ i. c.take_room.ensures.cells i ++ c.into_vec-part.ensures i) in
    let counts : c.push_reserved.new.self.items ≡ c.self.inside.counts.items ++ c.len-count.result ∷ [] = c.push_reserved.ensures.items ∙ ap (λ (l : List ℕ). l ++ c.len-count.result ∷ []) c.take_room.ensures.counts in
    let here : laid c.args.self.now ≡ old = sym (ap laid c.self.view_is) ∙ laid_cut c.self.inside.counts.items old c.self.invariant.counted in
    record {
      counted = (let a = ap (λ (l : List CellData). length l) all in let b = ap sum counts in let s = sum_by_push (λ (x : ℕ). x) c.self.inside.counts.items c.len-count.result in let l = length-append old part in let n = c.len-count.ensures in let o = c.into_vec-part.result.ok in let e = ap (λ (x : List CellData). length x) c.into_vec-part.ensures in let k = c.self.invariant.counted in omega arith);
      bytes = (let a = ap (λ (l : List CellData). length (all_bytes l)) all in let b = all_bytes-append old part in let p = c.part_bytes.ensures in let d = ap (λ (l : List CellData). length (all_bytes l)) (c.deref.ensures.value ∙ c.into_vec-part.ensures) in let s = c.saturating_add-self-inside.ensures in let k = c.self.invariant.bytes in omega arith);
      apart = subst IsApart (sym all) (joined_apart old part c.self.invariant.apart c.requires.apart (subst (λ (x : List CellData). HaveOtherKeys x part) here c.requires.other_keys));
      fitting = subst (AllByRecursion IsFitting) (sym all) (joined_all IsFitting old part c.self.invariant.fitting c.requires.fitting);
    }

pub returns-in-Ok-clause-ok : goal.returns-in-Ok-clause-ok
returns-in-Ok-clause-ok c =
    let old = c.self.inside.cells.items in
    let part = c.args.part in
    let n : c.len-count.result ≡ length part = (let e = ap (λ (x : List CellData). length x) c.into_vec-part.ensures in let l = c.len-count.ensures in let o = c.into_vec-part.result.ok in omega arith) in
    (λ i. cut ((c.push_reserved.ensures.items ∙ ap (λ (l : List ℕ). l ++ c.len-count.result ∷ []) c.take_room.ensures.counts) i) ((c.move_behind.ensures ∙ (λ j. c.take_room.ensures.cells j ++ c.into_vec-part.ensures j)) i))
    ∙ (cut_push c.self.inside.counts.items old part c.len-count.result c.self.invariant.counted n ∙ ap (λ (x : List (List CellData)). x ++ part ∷ []) c.self.view_is)
