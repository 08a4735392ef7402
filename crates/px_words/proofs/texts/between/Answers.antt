use Rattle.std.proofs.lemmas.Str.{IsCharBoundary-after_ascii}
use Rattle.px_words.proofs.Quotes.{enclosed_begins}
use Rattle.px_words.proofs.texts.between.Goals as goal

pub range-requires-clause-start_boundary : goal.range-requires-clause-start_boundary
range-requires-clause-start_boundary c = λ _.
    let first = enclosed_begins c.args.text.now c.requires in
    IsCharBoundary-after_ascii c.args.text.now 0 c.utf8.text first.0 first.1
