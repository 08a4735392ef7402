use Rattle.std.proofs.Common.{◌≡◌, ◌∙◌, ℕ, List, [], Option, Vec, Global, Bool, true, false, ap, arith, get_or, subst, sym}
use Rattle.std.specs.Option.{option_copied}
use Rattle.std.specs.Borrow.{Bor}
use Rattle.std.proofs.lemmas.Bool.{not-false, not-true}
use Rattle.std.proofs.lemmas.List.{length-map}
use Rattle.px_cells.specs.CellData.{CellData}
use Rattle.px_cells.specs.declared.cell.Cell.{Cell}
use Rattle.px_cells.specs.Rows.{IsBeforeEnd}
use Rattle.px_memstore.specs.inner.Pieces.{begins_by, lists}
use Rattle.px_memstore.proofs.Finding.{at_lists, ended_at, some_same}
use Rattle.px_memstore.proofs.pieces.Pieces.ends_before.Goals as goal

begins : (c : goal.After-begins_by) (b : Bool) → c.begins_by.result ≡ b → begins_by (get_or (lists c.args.self.now) c.args.at []) c.in-Some.high.now ≡ b
begins c b e =
    let is = at_lists (λ (v : Vec Cell Global). v.items) c.args.self.now.first.items c.args.self.now.others.items c.args.at c.index.result.now c.requires.some (let n = c.if-at-len.false in let k = c.len.ensures in omega arith) c.index.ensures in
    ap (λ (l : List CellData). begins_by l c.in-Some.high.now) (sym is) ∙ (sym c.begins_by.ensures ∙ e)

pub returns-in-Some-clause-ended : goal.returns-in-Some-clause-ended
returns-in-Some-clause-ended c = λ t d h b. ended_at (lists c.args.self.now) c.args.at c.in-Some.high.now c.requires.pieces c.requires.some (begins c false (not-true _ t)) d h
    (subst (λ (o : Option (Bor (List ℕ))). IsBeforeEnd d.key (option_copied o)) c.in-Some.is b)

pub returns-in-Some-clause-more : goal.returns-in-Some-clause-more
returns-in-Some-clause-more c = λ f. record {
  within = (let n = c.if-at-len.false in let k = c.len.ensures in let m = length-map c.args.self.now.others.items (λ (v : Vec Cell Global). v.items) in omega arith);
  begins = λ h e. subst (λ (k : List ℕ). begins_by (get_or (lists c.args.self.now) c.args.at []) k ≡ true) (some_same c.in-Some.high.now h (ap option_copied (sym c.in-Some.is) ∙ e)) (begins c true (not-false _ f));
}
