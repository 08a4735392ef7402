use Rattle.px_script.proofs.Texts.{texts-added}
use Rattle.px_script.proofs.dividing.Division.add.Goals as goal

pub returns-clause-slots : goal.returns-clause-slots
returns-clause-slots c = texts-added c.add.result c.args.self.now.slots.items c.args.line.now _ _ c.index_mut.result.now c.add.new.self c.owner_of-owned.ensures.owned c.owner_of-owned.ensures.within c.index_mut.ensures.value c.add.ensures
