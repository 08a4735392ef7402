use Rattle.px_cursor.proofs.cursor.Cursor.fill.Goals as goal

pub returns-in-Err-clause-sound : goal.returns-in-Err-clause-sound
returns-in-Err-clause-sound g c = λ left at place is e. c.in-Err.ensures.sound left at place (c.loop-self.invariant.at left is) e
