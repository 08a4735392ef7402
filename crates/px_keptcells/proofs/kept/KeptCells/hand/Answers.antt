use Rattle.std.proofs.Common.{◌≡◌, ◌∙◌, ap, subst, sym, length, List, ℕ}
use Rattle.std.specs.List.{AllByRecursion}
use Rattle.px_cells.specs.CellData.{CellData}
use Rattle.px_cells.specs.Order.{IsApart, ReadsSame}
use Rattle.px_cellbytes.specs.Reading.{IsWritten}
use Rattle.px_cellbytes.specs.Spelling.{all_bytes}
use Rattle.px_keptcells.specs.Kept.{IsFitting, but, laid}
use Rattle.px_keptcells.specs.inner.Rows.{cut}
use Rattle.px_keptcells.proofs.Handed.{handed_bytes, handed_count, handed_reads, handed_written}
use Rattle.px_keptcells.proofs.Rows.{laid_cut}
use Rattle.px_keptcells.proofs.kept.KeptCells.hand.Goals as goal

pub returns-clause-written : goal.returns-clause-written
returns-clause-written c =
    let vs = c.args.left_out.now in
    let cells = c.self.inside.cells.items in
    let parts = cut c.self.inside.counts.items cells in
    let all : laid parts ≡ cells = laid_cut c.self.inside.counts.items cells c.self.invariant.counted in
    let put = c.leave_out.new.cells.items in
    let sorted = c.sort.new.cells.items in
    let is : put ≡ laid (but vs parts) = c.leave_out.ensures ∙ ap (λ (x : List ℕ). laid (but vs (cut x cells))) c.deref.ensures.value in
    let apart = subst IsApart (sym all) c.self.invariant.apart in
    let fitting = subst (AllByRecursion IsFitting) (sym all) c.self.invariant.fitting in
    subst IsWritten (sym c.from_vec.ensures) (handed_written vs parts put sorted is apart fitting c.sort.ensures.permutation c.sort.ensures.sorted)

pub returns-clause-reads : goal.returns-clause-reads
returns-clause-reads c =
    let vs = c.args.left_out.now in
    let cells = c.self.inside.cells.items in
    let parts = cut c.self.inside.counts.items cells in
    let all : laid parts ≡ cells = laid_cut c.self.inside.counts.items cells c.self.invariant.counted in
    let put = c.leave_out.new.cells.items in
    let sorted = c.sort.new.cells.items in
    let is : put ≡ laid (but vs parts) = c.leave_out.ensures ∙ ap (λ (x : List ℕ). laid (but vs (cut x cells))) c.deref.ensures.value in
    let apart = subst IsApart (sym all) c.self.invariant.apart in
    let fitting = subst (AllByRecursion IsFitting) (sym all) c.self.invariant.fitting in
    subst (λ (x : List CellData). ReadsSame x (laid (but vs c.args.self))) (sym c.from_vec.ensures) (subst (λ (x : List (List CellData)). ReadsSame sorted (laid (but vs x))) c.self.view_is (handed_reads vs parts put sorted is apart fitting c.sort.ensures.permutation c.sort.ensures.sorted))

pub returns-clause-count : goal.returns-clause-count
returns-clause-count c =
    let vs = c.args.left_out.now in
    let cells = c.self.inside.cells.items in
    let parts = cut c.self.inside.counts.items cells in
    let all : laid parts ≡ cells = laid_cut c.self.inside.counts.items cells c.self.invariant.counted in
    let put = c.leave_out.new.cells.items in
    let sorted = c.sort.new.cells.items in
    let is : put ≡ laid (but vs parts) = c.leave_out.ensures ∙ ap (λ (x : List ℕ). laid (but vs (cut x cells))) c.deref.ensures.value in
    let apart = subst IsApart (sym all) c.self.invariant.apart in
    let fitting = subst (AllByRecursion IsFitting) (sym all) c.self.invariant.fitting in
    ap (λ (x : List CellData). length x) c.from_vec.ensures ∙ (handed_count vs parts put sorted is apart fitting c.sort.ensures.permutation c.sort.ensures.sorted ∙ ap (λ (x : List (List CellData)). length (laid (but vs x))) c.self.view_is)

pub returns-clause-bytes : goal.returns-clause-bytes
returns-clause-bytes c =
    let vs = c.args.left_out.now in
    let cells = c.self.inside.cells.items in
    let parts = cut c.self.inside.counts.items cells in
    let all : laid parts ≡ cells = laid_cut c.self.inside.counts.items cells c.self.invariant.counted in
    let put = c.leave_out.new.cells.items in
    let sorted = c.sort.new.cells.items in
    let is : put ≡ laid (but vs parts) = c.leave_out.ensures ∙ ap (λ (x : List ℕ). laid (but vs (cut x cells))) c.deref.ensures.value in
    let apart = subst IsApart (sym all) c.self.invariant.apart in
    let fitting = subst (AllByRecursion IsFitting) (sym all) c.self.invariant.fitting in
    ap (λ (x : List CellData). length (all_bytes x)) c.from_vec.ensures ∙ (handed_bytes vs parts put sorted is apart fitting c.sort.ensures.permutation c.sort.ensures.sorted ∙ ap (λ (x : List (List CellData)). length (all_bytes (laid (but vs x)))) c.self.view_is)
