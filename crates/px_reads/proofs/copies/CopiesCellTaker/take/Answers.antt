use Rattle.std.proofs.Common.{◌≡◌, ◌∙◌, ◌+◌, cond, Bool, List, [], ◌∷◌, ◌++◌, sym, ap, arith, length}
use Rattle.std.specs.Prelude.{min}
use Rattle.px_cells.specs.CellData.{CellData}
use Rattle.px_sources.specs.Giving.{begins_row}
use Rattle.px_reads.proofs.Counts.{counted_more}
use Rattle.px_reads.proofs.copies.CopiesCellTaker.take.Goals as goal
use Rattle.px_reads.proofs.copies.CopiesCellTaker.take.Goals.{then-begins, else-begins}

pub invariant_of-self-2 : goal.invariant_of-self-2
invariant_of-self-2 c =
    let cells = c.args.self.now.cells.items in
    let rows = c.args.self.now.rows in
    let counted = c.args.self.now.counted in
    let copied = c.in_ok-copy.ensures.cases in
    let pushed = c.push_reserved.ensures.items ∙ ap (λ (l : List CellData). l ++ c.in_ok-copy.copy ∷ []) c.in_ok-reserve.ensures.items in
    let count : c.if-begins.rows ≡ min (rows + cond c.begins.result 1 0) 18446744073709551615 = elim c.if-begins.branch [
      | then-begins w ↦ w.rows-is ∙ w.saturating_add-rows.ensures ∙ ap (λ (b : Bool). min (rows + cond b 1 0) 18446744073709551615) (sym w.if-begins.true)
      | else-begins w ↦ w.rows-is ∙ omega arith ∙ ap (λ (b : Bool). min (rows + cond b 1 0) 18446744073709551615) (sym w.if-begins.false)
    ] in
    let begins = c.begins.ensures ∙ ap (λ (x : CellData). begins_row (cells ++ x ∷ []) (length cells)) (sym copied) in
    record { counted = count ∙ counted_more cells c.push_reserved.new.self.items c.in_ok-copy.copy rows c.begins.result pushed begins counted }
