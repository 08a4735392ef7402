use Rattle.px_turns.proofs.parts.Turns.may_write.Goals as goal

pub blocker-requires : goal.blocker-requires
blocker-requires c k = (c.args.self.now.kept k).0
