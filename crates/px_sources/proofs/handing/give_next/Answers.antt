use Rattle.std.proofs.Common.{◌≡◌, ◌+◌, ◌≤◌, ◌++◌, ◌∷◌, [], Bool, cond, List, Ok, refl, sym, ap, subst, ◌∙◌, append_assoc, inl, inr, take}
use Rattle.std.specs.Prelude.{min}
use Rattle.px_cells.specs.CellData.{CellData}
use Rattle.px_sources.proofs.Sources.{all_begin, all_sorted}
use Rattle.px_sources.proofs.Turns.{moved, next_is, none_next, row_of}
use Rattle.px_sources.proofs.handing.give_next.Goals as goal

pub returns-in-None-clause-over : goal.returns-in-None-clause-over
returns-in-None-clause-over g c = λ all n lists before give whole known le held e.
    let none = c.in-None.ensures lists (all_begin g.D.Disk c.args.sources.now c.args.disk.now lists give) (all_sorted g.D.Disk c.args.sources.now c.args.disk.now lists give) in
    (held, inl (none_next all n le (sym whole ∙ none)))

pub returns-in-Err-clause-most : goal.returns-in-Err-clause-most
returns-in-Err-clause-most g c = λ all n lists give whole known.
    let head = c.in-Some.ensures lists (all_begin g.D.Disk c.args.sources.now c.args.disk.now lists give) (all_sorted g.D.Disk c.args.sources.now c.args.disk.now lists give) in
    let next = next_is all n c.in-Some.cell.now head.0 (sym whole ∙ head.1) in
    inr (next.within, subst (λ (b : Bool). c.hand.new.looked ≤ c.args.looked.now + cond b 1 0) (row_of c.args.last.now all n c.in-Some.cell.now head.0 known (sym whole ∙ head.1)) c.hand.ensures.most)

pub returns-in-Ok-Over-clause-over : goal.returns-in-Ok-Over-clause-over
returns-in-Ok-Over-clause-over g c = λ all n lists before give whole known le held e.
    let head = c.in-Some.ensures lists (all_begin g.D.Disk c.args.sources.now c.args.disk.now lists give) (all_sorted g.D.Disk c.args.sources.now c.args.disk.now lists give) in
    let next = next_is all n c.in-Some.cell.now head.0 (sym whole ∙ head.1) in
    let o = c.hand.ensures.over (before ++ take n all) held (c.in-Ok-Over.is ∙ ap Ok c.in-Ok-Over.field-0-is) in
    (o.0, inr (next.within, sym (row_of c.args.last.now all n c.in-Some.cell.now head.0 known (sym whole ∙ head.1)) ∙ o.1, o.2))

pub returns-in-Ok-clause-more : goal.returns-in-Ok-clause-more
returns-in-Ok-clause-more g c = λ all n lists give whole known e.
    let head = c.in-Some.ensures lists (all_begin g.D.Disk c.args.sources.now c.args.disk.now lists give) (all_sorted g.D.Disk c.args.sources.now c.args.disk.now lists give) in
    let more = c.in-Ok-More.is ∙ ap Ok c.in-Ok-More.field-0-is in
    let place = c.hand.ensures.place more in
    moved g.D.Disk c.args.sources.now c.pass.new.sources c.args.disk.now c.pass.new.disk c.hand.new.last all n c.args.looked.now c.hand.new.looked lists c.in-Some.cell.now head.0 give whole head.1 place.0 place.1 (c.in-Ok.ensures.passed lists give)
    (subst (λ (b : Bool). c.hand.new.looked ≡ min (c.args.looked.now + cond b 1 0) 18446744073709551615) (row_of c.args.last.now all n c.in-Some.cell.now head.0 known (sym whole ∙ head.1)) (c.hand.ensures.looked more))

pub returns-in-Ok-clause-handed : goal.returns-in-Ok-clause-handed
returns-in-Ok-clause-handed g c = λ all n lists before give whole known held e.
    let head = c.in-Some.ensures lists (all_begin g.D.Disk c.args.sources.now c.args.disk.now lists give) (all_sorted g.D.Disk c.args.sources.now c.args.disk.now lists give) in
    let next = next_is all n c.in-Some.cell.now head.0 (sym whole ∙ head.1) in
    let m = c.hand.ensures.more (before ++ take n all) held (c.in-Ok-More.is ∙ ap Ok c.in-Ok-More.field-0-is) in (
      subst (g.T.CellTaker.has_taken c.hand.new.taker) (append_assoc before (take n all) (c.in-Some.cell.now ∷ []) ∙ ap (λ (l : List CellData). before ++ l) (sym next.taken)) m.0,
      λ begins. m.1 (row_of c.args.last.now all n c.in-Some.cell.now head.0 known (sym whole ∙ head.1) ∙ begins),
    )

pub returns-in-Ok-clause-most : goal.returns-in-Ok-clause-most
returns-in-Ok-clause-most g c = λ all n lists give whole known.
    let head = c.in-Some.ensures lists (all_begin g.D.Disk c.args.sources.now c.args.disk.now lists give) (all_sorted g.D.Disk c.args.sources.now c.args.disk.now lists give) in
    let next = next_is all n c.in-Some.cell.now head.0 (sym whole ∙ head.1) in
    inr (next.within, subst (λ (b : Bool). c.hand.new.looked ≤ c.args.looked.now + cond b 1 0) (row_of c.args.last.now all n c.in-Some.cell.now head.0 known (sym whole ∙ head.1)) c.hand.ensures.most)

pub returns-in-Err-pass-clause-most : goal.returns-in-Err-pass-clause-most
returns-in-Err-pass-clause-most g c = λ all n lists give whole known.
    let head = c.in-Some.ensures lists (all_begin g.D.Disk c.args.sources.now c.args.disk.now lists give) (all_sorted g.D.Disk c.args.sources.now c.args.disk.now lists give) in
    let next = next_is all n c.in-Some.cell.now head.0 (sym whole ∙ head.1) in
    inr (next.within, subst (λ (b : Bool). c.hand.new.looked ≤ c.args.looked.now + cond b 1 0) (row_of c.args.last.now all n c.in-Some.cell.now head.0 known (sym whole ∙ head.1)) c.hand.ensures.most)
