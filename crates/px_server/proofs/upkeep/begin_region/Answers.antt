use Rattle.px_server.proofs.Forgot.{begun_to_forget}
use Rattle.px_server.proofs.Orders.{still_steps}
use Rattle.px_server.proofs.upkeep.begin_region.Goals as goal

pub returns-clause-steps : goal.returns-clause-steps
returns-clause-steps g c = λ disk. still_steps g.D.Disk g.met.D.Disk.up_to_now disk c.args.region.now c.begin_forgetting.new.self c.args.horizon c.begin_forgetting.ensures.number c.begin_forgetting.ensures.promised

pub returns-clause-stays : goal.returns-clause-stays
returns-clause-stays g c = λ disk. record { read = c.begin_forgetting.ensures.read; horizon = c.begin_forgetting.ensures.horizon; holds = λ s held. c.begin_forgetting.ensures.done s disk held }

pub returns-clause-ordered : goal.returns-clause-ordered
returns-clause-ordered g c = c.begin_forgetting.ensures.ordered

pub returns-clause-to_forget : goal.returns-clause-to_forget
returns-clause-to_forget g c = begun_to_forget c.args.horizon c.args.region.now c.begin_forgetting.new.self c.begin_forgetting.ensures.read c.begin_forgetting.ensures.horizon c.begin_forgetting.ensures.wanted
