use Rattle.std.proofs.Common.{◌∙◌}
use Rattle.px_trail.proofs.Growth.{points-snoc}
use Rattle.px_noting.proofs.Others.{apart_points, tallied_apart, traced_elsewhere}
use Rattle.px_noting.proofs.Shown.{shown_elsewhere}
use Rattle.px_noting.proofs.laws.law_others.Goals as goal

pub returns-clause-tallied : goal.returns-clause-tallied
returns-clause-tallied c = tallied_apart

pub returns-clause-shown : goal.returns-clause-shown
returns-clause-shown c = shown_elsewhere

pub returns-clause-traced : goal.returns-clause-traced
returns-clause-traced c = traced_elsewhere

pub returns-clause-points : goal.returns-clause-points
returns-clause-points c es t e apart seat s = points-snoc seat t.0 s es e ∙ apart_points t seat s _ e.seat e.act apart
