use Rattle.std.proofs.Common.{◌≡◌, ◌++◌, ◌∷◌, List, subst, sym, ap, ◌∙◌}
use Rattle.std.specs.Vec.Iter.{into_iter_items}
use Rattle.px_calls.specs.declared.query.FoundKey.{FoundKey}
use Rattle.px_verify.specs.Lists.{HaveKeys, entries_of}
use Rattle.px_verify.proofs.Keeping.{kept-on}
use Rattle.px_verify.proofs.entries.keep_rows.Goals as goal

pub loop-key-preserved : goal.loop-key-preserved
loop-key-preserved c = λ fits.
    let i = c.loop-key.invariant fits in
    let steps : into_iter_items c.loop-key.key-iterator ≡ c.in-Some.key ∷ into_iter_items c.next.new.self = c.in-Some.ensures.steps.0 in
    kept-on c.args.path.now c.args.included.now c.in-Some.key (into_iter_items c.next.new.self) c.loop-key.rows.items _ _
    (subst (HaveKeys c.args.path.now) steps i.0) (ap (λ (l : List FoundKey). c.loop-key.rows.items ++ entries_of c.args.path.now c.args.included.now l) (sym steps) ∙ i.1) c.in_ok-keep_row.ensures
