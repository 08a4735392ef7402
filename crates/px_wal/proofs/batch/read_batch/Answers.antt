use Rattle.std.proofs.Common.{rules, ◌≡◌, ◌+◌, ◌<◌, ◌∙◌, ap, sym, Some, false, true, length, Bool, None}
use Rattle.px_wal.specs.Form.{number_in, number_place, wrong_by, is_next}
use Rattle.px_wal.proofs.Readings.{body_is, reading_ok, wrong_cells, wrong_head, wrong_number, wrong_short}
use Rattle.px_wal.proofs.batch.read_batch.Goals as goal

pub returns-then-body-lt8-clause-wrong : goal.returns-then-body-lt8-clause-wrong
returns-then-body-lt8-clause-wrong c = λ place e.
    let short : length c.args.body.now < 8 = search rules in
    let is : 0 ≡ place = cc in
    wrong_short _ _ c.args.body.now short ∙ ap Some is

pub returns-then-not-is_next-clause-wrong : goal.returns-then-not-is_next-clause-wrong
returns-then-not-is_next-clause-wrong c = λ place e.
    let is : c.number_place.result ≡ place = cc in
    let found : number_place (c.args.last + 1) (number_in c.args.body.now) ≡ place = ap (number_place (c.args.last + 1)) (sym c.number_of-number.ensures.number) ∙ sym c.number_place.ensures.place ∙ is in
    let no : is_next c.args.flushed c.args.some c.args.last (number_in c.args.body.now) ≡ false =
    ap (is_next c.args.flushed c.args.some c.args.last) (sym c.number_of-number.ensures.number) ∙ sym c.is_next.ensures ∙ c.if-not-is_next.true in
    ap (λ (b : Bool). wrong_by b (number_place (c.args.last + 1) (number_in c.args.body.now)) c.args.body.now) no
    ∙ wrong_number (number_place (c.args.last + 1) (number_in c.args.body.now)) c.args.body.now c.if-body-lt8.false ∙ ap Some found

pub returns-then-body-lt-HEAD-clause-wrong : goal.returns-then-body-lt-HEAD-clause-wrong
returns-then-body-lt-HEAD-clause-wrong c = λ place e.
    let is : 8 ≡ place = cc in
    let yes : is_next c.args.flushed c.args.some c.args.last (number_in c.args.body.now) ≡ true =
    ap (is_next c.args.flushed c.args.some c.args.last) (sym c.number_of-number.ensures.number) ∙ sym c.is_next.ensures ∙ c.if-not-is_next.false in
    ap (λ (b : Bool). wrong_by b (number_place (c.args.last + 1) (number_in c.args.body.now)) c.args.body.now) yes ∙ wrong_head (number_place (c.args.last + 1) (number_in c.args.body.now)) c.args.body.now c.if-body-lt8.false (search rules) ∙ ap Some is

pub returns-clause-body : goal.returns-clause-body
returns-clause-body c = body_is _ _ c.args.body.now c.number_of-number.ensures.spelled c.in_ok-cells.ensures.spelled c.in_ok-cells.ensures.cells.spelled

pub returns-clause-right : goal.returns-clause-right
returns-clause-right c = λ place.
    let yes : is_next c.args.flushed c.args.some c.args.last (number_in c.args.body.now) ≡ true =
    ap (is_next c.args.flushed c.args.some c.args.last) (sym c.number_of-number.ensures.number) ∙ sym c.is_next.ensures ∙ c.if-not-is_next.false in
    ap (λ (b : Bool). wrong_by b place c.args.body.now) yes ∙ wrong_cells place c.args.body.now None (search rules) (reading_ok _ _ _ c.in_ok-cells.ensures.cells)
