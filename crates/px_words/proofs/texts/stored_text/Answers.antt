use Rattle.std.proofs.Common.{◌≡◌, true, false, sym, ap, ◌∙◌}
use Rattle.px_lex.specs.Bytes.{pairs}
use Rattle.px_ast.specs.Grammar.{undoubled}
use Rattle.px_words.proofs.Quotes.{doubled_undoubled, undoubled_is}
use Rattle.px_words.proofs.texts.stored_text.Goals as goal

pub between-requires : goal.between-requires
between-requires c = (c.requires.well.text c.requires.kind).0

pub unreachable-requires : goal.unreachable-requires
unreachable-requires c =
    let inner = c.between.result.now in
    let paired : pairs false inner ≡ true = rw c.between.ensures (c.requires.well.text c.requires.kind).1 in
    let none = rw c.in-None.is at c.in_ok-text.ensures in
    none (undoubled false inner) (doubled_undoubled inner paired)

pub returns : goal.returns
returns c =
    let inner = c.between.result.now in
    let told = rw c.in-Some.is at c.in_ok-text.ensures in
    c.of.ensures ∙ sym (undoubled_is inner _ told) ∙ ap (undoubled false) c.between.ensures
