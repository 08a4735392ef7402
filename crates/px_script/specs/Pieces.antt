-- Where the pieces of a text stand.
use Rattle.std.specs.Prelude.{◌+◌, length}
use Rattle.px_lex.specs.Script.{SeenPiece}
use Rattle.px_script.specs.declared.piece.Span.{Span}

-- a piece's place: its text, from its first byte up to its end
abbrev pub span_of : SeenPiece → Span
span_of p = record { start = p.place; end = p.place + length p.text }
