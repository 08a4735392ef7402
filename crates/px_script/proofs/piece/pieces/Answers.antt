use Rattle.std.proofs.Common.{ℕ, ◌≡◌, ◌+◌, ◌<◌, ◌^◌, List, length, map, Result, Ok, Err, arith}
use Rattle.std.specs.Prelude.{IfOk}
use Rattle.std.specs.List.{All}
use Rattle.px_lex.specs.declared.script.Piece.{Piece}
use Rattle.px_lex.specs.Script.{IsScript, Section, pieces_from, seen_piece}
use Rattle.px_script.proofs.Places.{all_below}
use Rattle.px_script.proofs.piece.pieces.Goals as goal

within : {V E : Type 0} (items : V → List Piece) (text : List ℕ) (r : Result V E) → length text < 2 ^ 64 → IfOk r (λ v. (xs : List Section) × IsScript text xs × (map seen_piece (items v) ≡ pieces_from 0 xs))
    → IfOk r (λ v. All (λ piece. piece.place + length piece.text.now < 2 ^ 64) (items v))
within items text (Ok v) short cut = all_below text cut.0 (items v) (2 ^ 64) short cut.1 cut.2
within items text (Err e) short cut = tt

pub returns : goal.returns
returns c = record { cut = c.cut.ensures; within = within (λ v. v.items) c.args.text.now c.cut.result (omega arith) c.cut.ensures }
