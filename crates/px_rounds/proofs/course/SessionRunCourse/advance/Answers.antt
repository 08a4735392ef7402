use Rattle.std.proofs.Crossing.{crosses}
use denote.Param.Send.{sendable}
use Rattle.px_rounds.proofs.course.SessionRunCourse.advance.Goals as goal

pub step-requires-sync-R : goal.step-requires-sync-R
step-requires-sync-R g c = λ κs bounds. search (sendable, crosses) depth 40

pub returns-clause-steps : goal.returns-clause-steps
returns-clause-steps g c = λ began live. (let h = c.step.ensures.steps began live in record { acts = h.acts; ran = h.ran; live = h.live; same = λ i. (h.same.pieces i, h.same.from i, h.same.session i, h.same.round i) })
