use Rattle.px_lex.specs.Script.{seen_piece}
use Rattle.px_item.proofs.Starting.{refused_so}
use Rattle.px_item.proofs.item.start.Goals as goal

pub returns-in-Some-Err : goal.returns-in-Some-Err
returns-in-Some-Err c =
    let a = c.args.asked in
    (refused_so a.settings (seen_piece a.piece) c.args.statement c.in-Some-Err.refusal c.over.result c.requires.read c.requires.free c.requires.built (rw c.in-Some-Err.field-0-is at c.in-Some-Err.ensures) c.over.ensures.says, c.over.ensures.first)
