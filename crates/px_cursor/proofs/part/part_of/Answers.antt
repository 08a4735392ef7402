use Rattle.std.proofs.Common.{◌≡◌, ℕ, ◌+◌, ◌-◌, List, Option, length, take, drop, refl, sym, ap, subst, ◌∙◌, arith}
use Rattle.std.specs.Option.{option_copied}
use Rattle.std.proofs.lemmas.List.{take_rest}
use Rattle.px_cells.specs.CellData.{CellData}
use Rattle.px_cells.specs.Rows.{AreRows}
use Rattle.px_cells.proofs.RowLemmas.{closed_rows, open_rows, rest_sorted}
use Rattle.px_cursor.proofs.part.part_of.Goals as goal

pub place_of-requires : goal.place_of-requires
place_of-requires c = rest_sorted c.args.cells.now c.place_of-at.result c.requires

pub returns-in-None-clause-rows : goal.returns-in-None-clause-rows
returns-in-None-clause-rows c =
    subst (λ (o : Option (List ℕ)). AreRows c.args.cells.now c.args.low.now o (take (length c.args.cells.now - c.place_of-at.result) (drop c.place_of-at.result c.args.cells.now))) (sym (ap option_copied c.in-None.is))
    (open_rows c.args.cells.now c.args.low.now c.place_of-at.result c.requires c.place_of-at.ensures.below c.place_of-at.ensures.from)

pub returns-in-Some-clause-rows : goal.returns-in-Some-clause-rows
returns-in-Some-clause-rows c =
    let cells = c.args.cells.now in
    let i = c.place_of-at.result in
    let j = c.place_of.result in
    let rest = take (length cells - i) (drop i cells) in
    let long : j ≡ i + j - i = omega arith in
    let same : take j rest ≡ take (i + j - i) (drop i cells) = ap (take j) (take_rest cells i) ∙ ap (λ (n : ℕ). take n (drop i cells)) long in
    subst (λ (o : Option (List ℕ)). AreRows cells c.args.low.now o (take (i + j - i) (drop i cells))) (sym (ap option_copied c.in-Some.is))
    (subst (AreRows cells c.args.low.now (Rattle.std.specs.Prelude.Some c.in-Some.high.now)) same
    (closed_rows cells c.args.low.now c.in-Some.high.now i j rest (take_rest cells i) c.requires c.place_of-at.ensures.below c.place_of-at.ensures.from c.place_of.ensures.below c.place_of.ensures.from))
