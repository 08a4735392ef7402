use Rattle.std.proofs.Common.{◌≡◌, ◌∙◌, ◌∷◌, [], ◌++◌, List, ap, subst, sym}
use Rattle.px_baserows.specs.Rows.{AreBaseRows}
use Rattle.px_calls.specs.declared.query.BaseRow.{BaseRow}
use Rattle.px_tests_baserows.specs.Worked.{worked_index, worked_table}
use Rattle.px_tests_baserows.proofs.Ready.{both}
use Rattle.px_tests_baserows.proofs.worked.rows.Goals as goal

pub returns : goal.returns
returns c =
    let x = c.in_ok-keyed.field-0 in
    let y = c.in_ok-keyed-2.field-0 in
    let one : c.push_reserved.new.self.items ≡ x ∷ [] = c.push_reserved.ensures.items ∙ ap (λ (l : List BaseRow). l ++ x ∷ []) c.in_ok-rows.ensures.items in
    let two : c.push_reserved-2.new.self.items ≡ x ∷ y ∷ [] = c.push_reserved-2.ensures.items ∙ ap (λ (l : List BaseRow). l ++ y ∷ []) one in
    subst (AreBaseRows worked_table worked_index) (sym two) (both x y c.in_ok-keyed.ensures.base (c.in_ok-keyed.ensures.row ∙ c.in_ok-first.ensures) c.in_ok-keyed-2.ensures.base (c.in_ok-keyed-2.ensures.row ∙ c.in_ok-second.ensures))
