use Rattle.px_tests_served.proofs.Beside.{ended-beside}
use Rattle.px_tests_served.proofs.waiting.ended.Goals as goal

pub returns-then-is_right : goal.returns-then-is_right
returns-then-is_right g c = record { others = ended-beside _ _ _ _ c.end-receipt.ensures.adds }

pub returns-else-is_right : goal.returns-else-is_right
returns-else-is_right g c = record { others = ended-beside _ _ _ _ c.end-receipt.ensures.adds }
