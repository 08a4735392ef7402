use Rattle.std.proofs.Common.{◌≡◌, ◌<◌, ◌++◌, ◌∷◌, [], inl, List, ap, ◌∙◌, arith}
use Rattle.std.specs.Prelude.{min}
use Rattle.px_trail.specs.States.{greatest_stamp}
use Rattle.px_trail.specs.declared.entry.Act.TheVariants.{Raised}
use Rattle.px_trail.specs.declared.entry.Entry.{Entry}
use Rattle.px_server.proofs.Raised.{allowed, risen_here, risen_then, within}
use Rattle.px_server.proofs.upkeep.raise_table.Goals as goal

pub returns-then-horizon-group-clause-risen : goal.returns-then-horizon-group-clause-risen
returns-then-horizon-group-clause-risen c =
    let up : c.min-horizon.result ≡ min c.raise_to.result greatest_stamp = c.min-horizon.ensures ∙ ap (min c.raise_to.result) c.most.ensures in
    risen_here c.args.group.now c.args.lookback c.raise_to.result c.min-horizon.result c.raise_to.ensures up (omega (arith, c.if-horizon-group.true))

pub returns-in-Ok-clause-raises : goal.returns-in-Ok-clause-raises
returns-in-Ok-clause-raises c =
    let g = c.args.group.now in
    let h = c.min-horizon.result in
    let up : h ≡ min c.raise_to.result greatest_stamp = c.min-horizon.ensures ∙ ap (min c.raise_to.result) c.most.ensures in
    let above : g.horizon < h = omega (arith, c.if-horizon-group.false) in
    let e : Entry = record { seat = c.args.seat; calls = c.args.calls; act = Raised g.table.id h } in
    let more = c.in-Ok.ensures.ok.0 in
    let less = c.push.ensures.room in
    inl (record {
      horizon = h;
      above = above;
      allowed = allowed g c.args.lookback c.raise_to.result h c.raise_to.ensures up above;
      within = within g c.args.lookback c.raise_to.result h c.raise_to.ensures up;
      group = c.raise.ensures;
      entries = c.push.ensures.entries ∙ ap (λ (es : List Entry). es ++ e ∷ []) c.reserve.ensures.same;
      room = omega (arith, more, less);
    })

pub returns-in-Ok-clause-risen : goal.returns-in-Ok-clause-risen
returns-in-Ok-clause-risen c =
    let up : c.min-horizon.result ≡ min c.raise_to.result greatest_stamp = c.min-horizon.ensures ∙ ap (min c.raise_to.result) c.most.ensures in
    risen_then c.args.group.now c.args.lookback c.raise_to.result c.min-horizon.result c.raise_to.ensures up c.raise.new.group c.raise.ensures
