use Rattle.std.proofs.Common.{◌+◌, ◌<◌, length, refl, sym, subst, ◌∙◌, arith}
use Rattle.std.proofs.lemmas.Bool.{both_ways}
use Rattle.std.proofs.lemmas.List.{get_or_read}
use Rattle.std.specs.Prelude.{get_or}
use Rattle.px_cells.specs.CellData.{CellData}
use Rattle.px_cells.specs.Scan.{no_cell}
use Rattle.px_merge.specs.Kept.{IsNextSeen}
use Rattle.px_forgetting.proofs.Rows.{keeping_above, keeping_as, keeping_done, keeping_none, keeping_seen, keeping_skip}
use Rattle.px_forgetting.proofs.keeping.keep_seen.Goals.{then-is_next, else-is_next+then-is_above, else-is_next+else-is_above}
use Rattle.px_forgetting.proofs.keeping.keep_seen.Goals as goal

pub loop-i-init : goal.loop-i-init
loop-i-init c = keeping_none c.args.horizon c.args.seen.now c.args.part.now c.args.gap c.requires.sorted c.requires.seen

pub loop-i-preserved : goal.loop-i-preserved
loop-i-preserved c =
    let h = c.args.horizon in
    let seen = c.args.seen.now in
    let old = c.args.part.now in
    let gap = c.args.gap in
    let part = c.loop-i.part in
    let i = c.loop-i.i in
    let n = c.loop-i.kept in
    let next = c.loop-i.next in
    let k = c.loop-i.invariant in
    let inside : i < length part = (let t = c.loop-i-test.true in let e = k.len in omega arith) in
    let one = sym c.index-part-i.is ∙ get_or_read part i c.index-part-i.result inside c.index-part-i.is no_cell in
    elim c.if-is_next.branch [
      | then-is_next w ↦
          keeping_as h seen old w.swap.new.self c.if-is_next.part gap (i + 1) (n + 1) c.if-is_next.kept (next + 1) c.if-is_next.next w.part-is w.kept-is w.next-is
          (keeping_seen h seen old gap c.requires.sorted c.requires.seen part i n next k inside (get_or part i no_cell) refl w.swap.new.self w.swap.ensures.len (w.swap.ensures.by_index.3 no_cell)
          (subst (IsNextSeen seen next) one (c.is_next.ensures.0 w.if-is_next.true)))
      | else-is_next+then-is_above w ↦
          (let two = sym w.index-part-i-else-is_next.is ∙ get_or_read part i w.index-part-i-else-is_next.result inside w.index-part-i-else-is_next.is no_cell in
          keeping_as h seen old w.swap-then-is_above.new.self c.if-is_next.part gap (i + 1) (n + 1) c.if-is_next.kept next c.if-is_next.next w.part-is w.kept-is w.next-is
          (keeping_above h seen old gap c.requires.sorted c.requires.seen part i n next k inside (get_or part i no_cell) refl w.swap-then-is_above.new.self w.swap-then-is_above.ensures.len (w.swap-then-is_above.ensures.by_index.3 no_cell)
          (λ m. both_ways _ w.if-is_next.false (c.is_next.ensures.1 (subst (IsNextSeen seen next) (sym one) m)))
          (subst (λ (x : CellData). h < x.stamp) two (w.is_above.ensures.0 w.if-is_above.true))))
      | else-is_next+else-is_above w ↦
          (let two = sym w.index-part-i-else-is_next.is ∙ get_or_read part i w.index-part-i-else-is_next.result inside w.index-part-i-else-is_next.is no_cell in
          keeping_as h seen old part c.if-is_next.part gap (i + 1) n c.if-is_next.kept next c.if-is_next.next w.part-is w.kept-is w.next-is
          (keeping_skip h seen old gap c.requires.sorted c.requires.seen part i n next k inside (get_or part i no_cell) refl
          (λ m. both_ways _ w.if-is_next.false (c.is_next.ensures.1 (subst (IsNextSeen seen next) (sym one) m)))
          (λ a. both_ways _ w.if-is_above.false (w.is_above.ensures.1 (subst (λ (x : CellData). h < x.stamp) (sym two) a)))))
    ]

pub returns-clause-kept : goal.returns-clause-kept
returns-clause-kept c =
    keeping_done c.args.horizon c.args.seen.now c.args.part.now c.args.gap c.requires.sorted c.requires.seen c.loop-i.part c.loop-i.i c.loop-i.kept c.loop-i.next c.loop-i.invariant
    (let t = c.loop-i-test.false in let e = c.loop-i.invariant.len in let f = c.loop-i.auto.i-end in omega arith)
