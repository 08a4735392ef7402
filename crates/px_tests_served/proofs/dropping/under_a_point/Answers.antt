use Rattle.px_tests_served.proofs.Uses.{open-beside}
use Rattle.px_tests_served.proofs.dropping.under_a_point.Goals as goal

pub close_point-requires : goal.close_point-requires
close_point-requires g c =
    open-beside (g.S.Steps.known c.args.s.now) _ _ _ _ _ 1 2 _ c.in-Ok.point c.requires.alone c.act_as.ensures c.in-Ok.ensures.ok c.act_as-2.ensures c.in_default-in_use.ensures c.act_as-3.ensures
