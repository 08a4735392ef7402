use Rattle.std.proofs.Common.{◌≡◌, ◌++◌, ◌∙◌, ap}
use Rattle.std.proofs.lemmas.Result.{on_ok_weaker}
use Rattle.px_load.specs.Told.{answers_in, came_of, first_refusal, items_of, told_of, told_of_load}
use Rattle.px_load.proofs.Adding.{told_first, told_then}
use Rattle.px_load.proofs.told.print_load.Goals as goal

pub returns-then-branch : goal.returns-then-branch
unfolding told_of_load
returns-then-branch c =
    let items = c.items_of-items.result.now in
    let same : items ≡ items_of c.args.transcripts.now = c.items_of-items.ensures ∙ ap items_of c.as_slice.ensures in
    told_first c.args.load (first_refusal items) (came_of (answers_in items)) c.in_ok-add_first_refusal.field-0 c.args.to.now c.add_first_refusal.new.to c.in_ok-add_first_refusal.ensures c.if-branch.true
    ∙ (λ i. c.args.to.now ++ told_of c.args.load (first_refusal (same i)) (came_of (answers_in (same i))))

pub returns : goal.returns
unfolding told_of_load
returns c =
    let items = c.items_of-items.result.now in
    let same : items ≡ items_of c.args.transcripts.now = c.items_of-items.ensures ∙ ap items_of c.as_slice.ensures in
    let came : c.came_in.result ≡ came_of (answers_in (items_of c.args.transcripts.now)) = c.came_in.ensures ∙ (λ i. came_of (answers_in (same i))) in
    on_ok_weaker c.add_lines.result (λ e.
    told_then c.args.load (first_refusal items) c.came_in.result c.in_ok-add_first_refusal.field-0 c.args.to.now c.add_first_refusal.new.to c.add_lines.new.to c.in_ok-add_first_refusal.ensures c.if-branch.false e
    ∙ (λ i. c.args.to.now ++ told_of c.args.load (first_refusal (same i)) (came i))) c.add_lines.ensures
