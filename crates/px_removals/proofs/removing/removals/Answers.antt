use Rattle.std.proofs.Common.{sym, [], ◌∷◌, ◌++◌, append_assoc, ◌∙◌, ap}
use Rattle.std.proofs.lemmas.List.{append-nil}
use Rattle.px_removals.proofs.Removed.{none-yet, put-in}
use Rattle.px_removals.proofs.removing.removals.Goals as goal

pub rows-init : goal.rows-init
rows-init c = record { behind = []; is = sym (append-nil c.into_vec-rows.result.items); are = rw c.in_ok-removals.ensures.items (none-yet c.args.table.now) }

pub rows-preserved : goal.rows-preserved
rows-preserved c = record {
  behind = c.in-Some.row ∷ c.rows.invariant.behind;
  is = c.rows.invariant.is ∙ (ap (λ l. l ++ c.rows.invariant.behind) c.in-Some.ensures.items ∙ append_assoc c.pop.new.self.items (c.in-Some.row ∷ []) c.rows.invariant.behind);
  are = put-in c.args.table.now c.rows.invariant.behind c.in-Some.row c.rows.removals.items c.put.new.removals.items c.rows.invariant.are c.in_ok-put.ensures;
}
