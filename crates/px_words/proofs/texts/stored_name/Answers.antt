use Rattle.std.proofs.Common.{◌≡◌, true}
use Rattle.px_lex.specs.Bytes.{starts}
use Rattle.px_words.proofs.texts.stored_name.Goals as goal

pub between-requires : goal.between-requires
between-requires c =
    let quoted : starts 34 c.args.token.now.text.now ≡ true = cc in
    c.requires.well.name c.requires.kind quoted
