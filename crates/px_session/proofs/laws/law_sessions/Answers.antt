use Rattle.px_session.proofs.Lives.{begins, live_passes}
use Rattle.px_session.proofs.laws.law_sessions.Goals as goal

pub returns : goal.returns
returns g c = record { begins = λ began from run k here h. begins g.S.Steps.sound began from run k here h; others = λ began run k k' p h. live_passes g.S.Steps.sound began run k k' p h }
