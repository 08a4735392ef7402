use Rattle.std.proofs.Common.{◌≡◌, List, Result, Err, inr, subst, ◌∙◌, sym}
use Rattle.px_values.specs.declared.change.Change.{Change}
use Rattle.px_beginning.proofs.Leaves.{alike_count}
use Rattle.px_server.specs.Beginning.{untaken_cause}
use Rattle.px_calls.specs.declared.fault.StepFault.{StepFault}
use Rattle.px_calls.specs.declared.fault.StepFault.TheVariants.{ReadFault}
use Rattle.px_group.specs.declared.group.Group.{Group}
use Rattle.px_trail.specs.declared.entry.Entry.{Entry}
use Rattle.px_beginning.specs.declared.preparing.Prepared.{Prepared}
use Rattle.px_server.specs.declared.readying.Started.{Started}
use Rattle.px_server.proofs.Left.{kept_then, left_then}
use Rattle.px_server.proofs.LetIn.{lets_in}
use Rattle.px_server.proofs.beginning.let_in.Goals as goal

-- no room is refused for a read
quiet : (g : Group) (p : Prepared) (es : List Entry) (cs : List Change) (f : StepFault) → untaken_cause g p es cs f → f ≡ ReadFault → ⊥
quiet g p es cs f cause same = subst (untaken_cause g p es cs) same cause

pub take_room-requires : goal.take_room-requires
take_room-requires g c = record { count = c.in_ok-ready.ensures.ready.rooms.count_is ∙ sym (alike_count c.args.group.now.indexes.items c.ready_of.new.group.indexes.items c.ready_of.ensures.leaves.indexes) }

pub returns-in-Ok-clause-begun : goal.returns-in-Ok-clause-begun
returns-in-Ok-clause-begun g c =
    lets_in c.args.group.now c.ready_of.new.group c.take_room.new.group c.admit.new.group c.requires.right c.args.changes.now c.requires.fit c.requires.distinct c.requires.some c.requires.few c.args.clock
    c.in_ok-ready.ready c.in_ok-ready.ensures.ready c.ready_of.ensures.leaves c.ready_of.ensures.keeps c.take_room.ensures.leaves c.in-Ok.ensures.taken c.admit.ensures c.law_begins.ensures.right

pub returns-in-Err-clause-leaves : goal.returns-in-Err-clause-leaves
returns-in-Err-clause-leaves g c = (
  left_then c.args.group.now c.ready_of.new.group c.take_room.new.group c.ready_of.ensures.leaves c.take_room.ensures.leaves,
  kept_then c.args.group.now c.ready_of.new.group c.take_room.new.group c.ready_of.ensures.keeps c.in-Err.ensures.refused.0,
)

pub returns-in-Err-clause-refused : goal.returns-in-Err-clause-refused
returns-in-Err-clause-refused g c = inr (record {
  read = c.ready_of.new.group;
  leaves = c.ready_of.ensures.leaves;
  ready = c.in_ok-ready.ready;
  is = c.in_ok-ready.ensures.ready;
  cause = subst (λ (cs : List Change). untaken_cause c.ready_of.new.group c.in_ok-ready.ready.prepared c.args.trail.now.entries cs c.in-Err.fault) c.in_ok-ready.ensures.ready.changes c.in-Err.ensures.cause;
})

pub returns-in-Err-clause-failed : goal.returns-in-Err-clause-failed
returns-in-Err-clause-failed g c = λ same. absurd (quiet c.ready_of.new.group c.in_ok-ready.ready.prepared c.args.trail.now.entries c.in_ok-ready.ready.started.changes c.in-Err.fault c.in-Err.ensures.cause (let z : ◌≡◌ {A = Result Started StepFault} (Err c.in-Err.fault) (Err ReadFault) = same in cc))
