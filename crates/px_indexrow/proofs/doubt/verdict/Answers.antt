use Rattle.std.proofs.Common.{◌∙◌, true, false, sym}
use Rattle.px_indexrow.specs.declared.doubt.ChangeFate.TheVariants as fates
use Rattle.px_indexrow.proofs.Dues.{due_is, lost_above, lost_below, told_as, written_above, written_below}
use Rattle.px_indexrow.proofs.doubt.verdict.Goals as goal

pub returns-in-Undecided-clause-told : goal.returns-in-Undecided-clause-told
returns-in-Undecided-clause-told c = (let v = c.args.version.now in let x = c.args.told.now in told_as v x fates.Undecided c.in-Undecided.is)

pub returns-in-Undecided-clause-due : goal.returns-in-Undecided-clause-due
returns-in-Undecided-clause-due c = λ sh f r w tells. (let v = c.args.version.now in let x = c.args.told.now in told_as v x fates.Undecided c.in-Undecided.is ∙ sym (due_is sh f r w v x tells))

pub returns-then-version-told-clause-told : goal.returns-then-version-told-clause-told
returns-then-version-told-clause-told c = (let v = c.args.version.now in let x = c.args.told.now in c.at_horizon.ensures ∙ (written_below v x c.if-version-told.true ∙ (told_as v x fates.Written c.in-Written.is)))

pub returns-then-version-told-clause-due : goal.returns-then-version-told-clause-due
returns-then-version-told-clause-due c = λ sh f r w tells. (let v = c.args.version.now in let x = c.args.told.now in c.at_horizon.ensures ∙ (written_below v x c.if-version-told.true ∙ (told_as v x fates.Written c.in-Written.is)) ∙ sym (due_is sh f r w v x tells))

pub returns-then-is_key-clause-told : goal.returns-then-is_key-clause-told
returns-then-is_key-clause-told c = (let v = c.args.version.now in let x = c.args.told.now in written_above v x true c.if-version-told.false (sym c.if-is_key.true ∙ c.is_key.ensures) ∙ (told_as v x fates.Written c.in-Written.is))

pub returns-then-is_key-clause-due : goal.returns-then-is_key-clause-due
returns-then-is_key-clause-due c = λ sh f r w tells. (let v = c.args.version.now in let x = c.args.told.now in written_above v x true c.if-version-told.false (sym c.if-is_key.true ∙ c.is_key.ensures) ∙ (told_as v x fates.Written c.in-Written.is) ∙ sym (due_is sh f r w v x tells))

pub returns-else-is_key-clause-told : goal.returns-else-is_key-clause-told
returns-else-is_key-clause-told c = (let v = c.args.version.now in let x = c.args.told.now in written_above v x false c.if-version-told.false (sym c.if-is_key.false ∙ c.is_key.ensures) ∙ (told_as v x fates.Written c.in-Written.is))

pub returns-else-is_key-clause-due : goal.returns-else-is_key-clause-due
returns-else-is_key-clause-due c = λ sh f r w tells. (let v = c.args.version.now in let x = c.args.told.now in written_above v x false c.if-version-told.false (sym c.if-is_key.false ∙ c.is_key.ensures) ∙ (told_as v x fates.Written c.in-Written.is) ∙ sym (due_is sh f r w v x tells))

pub returns-then-version-told-2-clause-told : goal.returns-then-version-told-2-clause-told
returns-then-version-told-2-clause-told c = (let v = c.args.version.now in let x = c.args.told.now in c.at_horizon-then-version-told-2.ensures ∙ (lost_below v x c.if-version-told-2.true ∙ (told_as v x fates.Lost c.in-Lost.is)))

pub returns-then-version-told-2-clause-due : goal.returns-then-version-told-2-clause-due
returns-then-version-told-2-clause-due c = λ sh f r w tells. (let v = c.args.version.now in let x = c.args.told.now in c.at_horizon-then-version-told-2.ensures ∙ (lost_below v x c.if-version-told-2.true ∙ (told_as v x fates.Lost c.in-Lost.is)) ∙ sym (due_is sh f r w v x tells))

pub returns-else-version-told-2-clause-told : goal.returns-else-version-told-2-clause-told
returns-else-version-told-2-clause-told c = (let v = c.args.version.now in let x = c.args.told.now in lost_above v x c.if-version-told-2.false ∙ (told_as v x fates.Lost c.in-Lost.is))

pub returns-else-version-told-2-clause-due : goal.returns-else-version-told-2-clause-due
returns-else-version-told-2-clause-due c = λ sh f r w tells. (let v = c.args.version.now in let x = c.args.told.now in lost_above v x c.if-version-told-2.false ∙ (told_as v x fates.Lost c.in-Lost.is) ∙ sym (due_is sh f r w v x tells))
