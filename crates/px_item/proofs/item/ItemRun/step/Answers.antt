use Rattle.px_item.specs.declared.item.ItemState.TheVariants as state
use Rattle.px_item.proofs.Done.{not_told}
use Rattle.px_item.proofs.item.ItemRun.step.Goals as goal

pub returns-in-Defining-clause-turns : goal.returns-in-Defining-clause-turns
returns-in-Defining-clause-turns g c = λ before own f. c.define.ensures.turns before own (rw c.in-Defining.is at f)

pub returns-in-Finding-clause-done : goal.returns-in-Finding-clause-done
returns-in-Finding-clause-done g c = λ before own f job tells. let is = rw c.in-Finding.is at f in absurd (not_told g.S.Steps.sound before c.args.self.asked own (state.Finding c.in-Finding.statement) _ _ c.find.result tt is (c.find.ensures.turns before own is) job tells)

pub returns-in-Changing-clause-done : goal.returns-in-Changing-clause-done
returns-in-Changing-clause-done g c = λ before own f job tells. let is = rw c.in-Changing.is at f in absurd (not_told g.S.Steps.sound before c.args.self.asked own (state.Changing c.in-Changing.statement c.in-Changing.run' c.in-Changing.receipts) _ _ c.change.result tt is (c.change.ensures.turns before own is) job tells)

pub returns-in-Defining-clause-done : goal.returns-in-Defining-clause-done
returns-in-Defining-clause-done g c = λ before own f job tells. let is = rw c.in-Defining.is at f in absurd (not_told g.S.Steps.sound before c.args.self.asked own (state.Defining c.in-Defining.statement c.in-Defining.run') _ _ c.define.result tt is (c.define.ensures.turns before own is) job tells)

pub returns-in-Building-clause-done : goal.returns-in-Building-clause-done
returns-in-Building-clause-done g c = λ before own f job tells. let is = rw c.in-Building.is at f in absurd (not_told g.S.Steps.sound before c.args.self.asked own (state.Building c.in-Building.statement c.in-Building.run') _ _ c.build.result tt is (c.build.ensures.turns before own is) job tells)

pub returns-in-Selecting-clause-done : goal.returns-in-Selecting-clause-done
returns-in-Selecting-clause-done g c = λ before own f job tells. let is = rw c.in-Selecting.is at f in absurd (not_told g.S.Steps.sound before c.args.self.asked own (state.Selecting c.in-Selecting.statement c.in-Selecting.run') _ _ c.select.result tt is (c.select.ensures.turns before own is) job tells)

pub returns-in-Deleting-clause-done : goal.returns-in-Deleting-clause-done
returns-in-Deleting-clause-done g c = λ before own f job tells. let is = rw c.in-Deleting.is at f in absurd (not_told g.S.Steps.sound before c.args.self.asked own (state.Deleting c.in-Deleting.statement c.in-Deleting.run') _ _ c.delete.result tt is (c.delete.ensures.turns before own is) job tells)

pub returns-in-Seeking-clause-done : goal.returns-in-Seeking-clause-done
returns-in-Seeking-clause-done g c = λ before own f job tells. let is = rw c.in-Seeking.is at f in absurd (not_told g.S.Steps.sound before c.args.self.asked own (state.Seeking c.in-Seeking.statement c.in-Seeking.run') _ _ c.gather.result tt is (c.gather.ensures.turns before own is) job tells)

pub returns-in-Committing-clause-done : goal.returns-in-Committing-clause-done
returns-in-Committing-clause-done g c = λ before own f job tells. let is = rw c.in-Committing.is at f in absurd (not_told g.S.Steps.sound before c.args.self.asked own (state.Committing c.in-Committing.again c.in-Committing.run') _ _ c.commit.result tt is (c.commit.ensures.turns before own is) job tells)

pub returns-in-Counting-clause-done : goal.returns-in-Counting-clause-done
returns-in-Counting-clause-done g c = λ before own f job tells. let is = rw c.in-Counting.is at f in absurd (not_told g.S.Steps.sound before c.args.self.asked own (state.Counting c.in-Counting.name c.in-Counting.run') _ _ c.count.result tt is (c.count.ensures.turns before own is) job tells)
