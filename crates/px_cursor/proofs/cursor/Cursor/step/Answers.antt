use Rattle.std.proofs.Common.{◌∷◌, sym, ap, subst}
use Rattle.px_cells.specs.CellData.{CellData}
use Rattle.std.specs.Prelude.{List}
use Rattle.px_cursor.specs.Cursor.{CursorGives, IsAt}
use Rattle.px_cursor.specs.declared.cursor.Cursor.{Cursor}
use Rattle.px_cursor.proofs.Cursors.{at_stepped, none_to_step, some_left}
use Rattle.px_cursor.proofs.cursor.Cursor.step.Goals as goal
use Rattle.px_cursor.proofs.cursor.Cursor.step.Goals.{then-self, else-self}

pub returns-clause-stepped : goal.returns-clause-stepped
returns-clause-stepped g c = λ x left gives. c.fill.ensures.filled left
    (elim c.if-self.branch [
      | then-self w ↦ at_stepped g.D.Disk c.args.self.now c.if-self.self c.args.disk.now x left gives w.if-self.true (ap (λ (s : Cursor). s.file) w.self-is) (ap (λ (s : Cursor). s.low) w.self-is) (ap (λ (s : Cursor). s.high) w.self-is)
          (ap (λ (s : Cursor). s.first) w.self-is) (ap (λ (s : Cursor). s.next) w.self-is) (ap (λ (s : Cursor). s.limit) w.self-is) (ap (λ (s : Cursor). s.block) w.self-is) (ap (λ (s : Cursor). s.at) w.self-is) (ap (λ (s : Cursor). s.until) w.self-is)
      | else-self w ↦ absurd (none_to_step g.D.Disk c.args.self.now c.args.disk.now x left gives w.if-self.false)
    ])

pub returns-clause-sound : goal.returns-clause-sound
returns-clause-sound g c = λ left at place gives e. elim c.if-self.branch [
  | then-self w ↦
      (let some = some_left g.D.Disk c.args.self.now c.args.disk.now left gives w.if-self.true in
      let whole : CursorGives g.D.Disk c.args.self.now c.args.disk.now (some.0 ∷ some.1) = subst (λ (l : List CellData). CursorGives g.D.Disk c.args.self.now c.args.disk.now l) some.2 gives in
      c.fill.ensures.sound some.1 at place
      (at_stepped g.D.Disk c.args.self.now c.if-self.self c.args.disk.now some.0 some.1 whole w.if-self.true (ap (λ (s : Cursor). s.file) w.self-is) (ap (λ (s : Cursor). s.low) w.self-is) (ap (λ (s : Cursor). s.high) w.self-is)
      (ap (λ (s : Cursor). s.first) w.self-is) (ap (λ (s : Cursor). s.next) w.self-is) (ap (λ (s : Cursor). s.limit) w.self-is) (ap (λ (s : Cursor). s.block) w.self-is) (ap (λ (s : Cursor). s.at) w.self-is) (ap (λ (s : Cursor). s.until) w.self-is)) e)
  | else-self w ↦ c.fill.ensures.sound left at place (subst (λ (s : Cursor). IsAt g.D.Disk s c.args.disk.now left) (sym w.self-is) gives.at) e
]
