use Rattle.std.proofs.Common.{◌∙◌, sym}
use Rattle.px_reads.proofs.Counts.{last_begins, last_read, no_last, none_begins}
use Rattle.px_reads.proofs.copies.Copies.begins.Goals as goal

pub returns-in-None : goal.returns-in-None
returns-in-None c = none_begins c.args.self.now.cells.items c.args.cell.now (no_last c.args.self.now.cells.items c.deref.result.now c.deref.ensures.value c.in-None.ensures.value)

pub returns-in-Some : goal.returns-in-Some
returns-in-Some c =
    let cells = c.args.self.now.cells.items in
    let last = c.in-Some.last.now in
    let read = last_read cells c.deref.result.now last c.deref.ensures.value c.in-Some.ensures.value in
    c.ne.ensures ∙ sym (last_begins cells c.args.cell.now last c.key.result.now c.key-in-Some.result.now read.0 read.1 c.key.ensures c.key-in-Some.ensures)
