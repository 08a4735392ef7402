-- What sources have to give.
use Rattle.std.specs.Prelude.{◌≡◌, List, [], ◌∷◌}
use Rattle.px_outside.specs.declared.disk.Disk.{Ghosts}
use Rattle.px_cells.specs.CellData.{CellData}
use Rattle.px_cells.specs.Order.{IsAscending}
use Rattle.px_cursor.specs.Cursor as cursor
use Rattle.px_sources.specs.declared.source.Source.{Source}
use Rattle.px_sources.specs.declared.source.Source.TheVariants.{Slice, File}

-- the cells of a source that are in memory
abbrev pub shown_of : Source → List CellData
shown_of (Slice cells) = cells.now
shown_of (File c) = cursor.cells_in_memory c

-- it gives these cells
abbrev pub Gives : {D : Type 0} → Ghosts D → Source → D → List CellData → Type 0
Gives d (Slice cells) disk left = left ≡ cells.now
Gives d (File c) disk left = cursor.CursorGives d c disk left

-- each source gives its list, and the lists are sorted
abbrev pub AllGive : {D : Type 0} → Ghosts D → List Source → D → List (List CellData) → Type 0
AllGive d [] disk [] = Unit {0}
AllGive d [] disk (l ∷ lists) = ⊥
AllGive d (s ∷ sources) disk [] = ⊥
AllGive d (s ∷ sources) disk (l ∷ lists) = Gives d s disk l × (IsAscending l × AllGive d sources disk lists)

-- a list begins with the same cell as what is in memory of it
abbrev pub BeginsAs : (shown list : List CellData) → Type 0
BeginsAs [] list = list ≡ []
BeginsAs (c ∷ shown) list = (rest : List CellData) × (list ≡ c ∷ rest)

-- each list does
abbrev pub AllBegin : List Source → List (List CellData) → Type 0
AllBegin [] [] = Unit {0}
AllBegin [] (l ∷ lists) = ⊥
AllBegin (s ∷ sources) [] = ⊥
AllBegin (s ∷ sources) (l ∷ lists) = BeginsAs (shown_of s) l × AllBegin sources lists
