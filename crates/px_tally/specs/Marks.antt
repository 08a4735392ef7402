-- The marks that a seat leaves.
use Rattle.std.specs.Prelude.{ℕ, zero, suc, List, [], ◌∷◌, ◌++◌}
use Rattle.px_tally.specs.declared.tally.Mark.{Mark}

abbrev pub seat_of : Mark → ℕ
seat_of mark = mark.seat

-- the marks of the seat's first n turns, in order
abbrev pub marks : ℕ → ℕ → List Mark
marks seat zero = []
marks seat (suc n) = marks seat n ++ record { seat = seat; turn = n } ∷ []
