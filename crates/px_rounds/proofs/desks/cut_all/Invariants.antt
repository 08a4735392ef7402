use Rattle.std.proofs.Common.{◌≡◌, ℕ, ◌+◌, ◌≤◌, length, Vec, Some}
use Rattle.std.specs.Global.{Global}
use Rattle.std.specs.Prelude.{slice_get, vec_capacity}
use Rattle.px_lex.specs.declared.script.Piece.{Piece}
use Rattle.px_rounds.specs.Rounds.{text_in}
use Rattle.px_rounds.specs.inner.Desks.{IsCut}
use Rattle.px_rounds.proofs.desks.cut_all.Given as goal

abbrev pub invariant-loop-place : goal.invariant-loop-place
invariant-loop-place l =
    record {
      count : length l.all.items ≡ l.place;
      room : l.count ≤ vec_capacity l.all;
      each : (i : ℕ) (pieces : Vec Piece Global) → slice_get l.all.items i ≡ Some pieces → IsCut (text_in l.round (i + 1)) pieces.items;
    }
