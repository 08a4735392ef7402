use Rattle.std.proofs.Common.{◌≡◌, ◌∷◌, arith}
use Rattle.std.proofs.lemmas.Str.Pattern.{strip_prefix_char, strip_suffix_char}
use Rattle.px_commands.proofs.Names.{unquoted-behind, unquoted-none}
use Rattle.px_commands.proofs.reading.unquoted.Goals as goal

pub returns-in_err-strip_prefix : goal.returns-in_err-strip_prefix
returns-in_err-strip_prefix c =
    let found = strip_prefix_char 34 c.args.text.now c.strip_prefix.result c.strip_prefix.ensures.cases (omega arith) in
    let none = unquoted-none c.args.text.now (rw c.in_err-strip_prefix.was at found) in
    rw c.from_residual.ensures none

pub returns : goal.returns
returns c =
    let found = strip_prefix_char 34 c.args.text.now c.strip_prefix.result c.strip_prefix.ensures.cases (omega arith) in
    let is : c.args.text.now ≡ 34 ∷ c.in_ok-strip_prefix.field-0.now = rw c.in_ok-strip_prefix.was at found in
    unquoted-behind c.args.text.now c.in_ok-strip_prefix.field-0.now c.strip_suffix.result is (strip_suffix_char 34 c.in_ok-strip_prefix.field-0.now c.strip_suffix.result c.strip_suffix.ensures.cases (omega arith))
