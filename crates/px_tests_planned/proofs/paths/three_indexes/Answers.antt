use Rattle.px_tests_planned.proofs.Rising.{three-rising}
use Rattle.px_tests_planned.proofs.paths.three_indexes.Goals as goal

pub returns : goal.returns
returns g c =
    rw (c.of.ensures, c.in_ok-push-3.ensures.items, c.in_ok-push-2.ensures.items, c.in_ok-push.ensures.items, c.new-indexes.ensures.items)
    (three-rising c.index.result c.index-2.result c.index-3.result c.index.ensures c.index-2.ensures c.index-3.ensures)
