use Rattle.std.proofs.Common.{◌≡◌, map, drop}
use Rattle.std.specs.String.{string_bytes}
use Rattle.px_arguments.specs.Arguments.{nothing, said_from, seen_said}
use Rattle.px_arguments.proofs.said.said_by.Given as goal

abbrev pub invariant-loop-word : goal.invariant-loop-word
invariant-loop-word l = said_from (seen_said l.said) (map string_bytes (drop l.word-index l.words)) ≡ said_from nothing (map string_bytes l.words)
