-- A batch that begins.
use Rattle.std.specs.Prelude.{◌≡◌, ℕ, Bool, false, List, [], ◌∷◌, map, Some, None}
use Rattle.px_cells.specs.CellData.{CellData}
use Rattle.px_forms.specs.Indexes.{IndexForm}
use Rattle.px_indexrow.specs.Lists.{closes_of, marks_of}
use Rattle.px_openbatches.specs.Made.{RowCells}
use Rattle.px_values.specs.States.{RowState}
use Rattle.px_values.specs.declared.change.Change.{Change}
use Rattle.px_values.specs.declared.row.Value.{Value}
use Rattle.px_phases.specs.declared.transition.Transition.{Transition}
use Rattle.px_phases.specs.Batch.{BatchData}
use Rattle.px_phases.specs.Phases.{close_parts, mark_parts}

-- an index where there is none
abbrev pub no_form : IndexForm
no_form = record { columns = 0; place = λ c. 0; key_of = λ r o. None; col = λ o c. None; owns = λ r k. false }

-- the cells of each row, at indexes of these forms
abbrev pub made_rows : List IndexForm → ℕ → List Change → List Transition → List (List CellData) → List RowCells
made_rows fs s [] xs parts = []
made_rows fs s (c ∷ cs) [] parts = []
made_rows fs s (c ∷ cs) (x ∷ xs) [] = []
made_rows fs s (c ∷ cs) (x ∷ xs) (p ∷ parts) =
    record { row = c.row; marks = map (λ f. marks_of f c.row s x.old x.new) fs; closes = map (λ f. closes_of f c.row s x.old x.new) fs; puts = p } ∷ made_rows fs s cs xs parts

-- each row's state before its change
abbrev pub AreFrom : (List Value → RowState) → List Change → List Transition → Type 0
AreFrom old [] xs = Unit {0}
AreFrom old (c ∷ cs) [] = Unit {0}
AreFrom old (c ∷ cs) (x ∷ xs) = (old c.row ≡ x.old) × AreFrom old cs xs

-- the batch with all that it has to hand out
abbrev pub prepared_batch : List IndexForm → ℕ → List Change → List Transition → List (List CellData) → List Bool → BatchData
prepared_batch fs s cs xs parts flags = record { stamp = s; changes = cs; met = flags; marks = map (λ f. mark_parts f s cs xs) fs; puts = Some parts; closes = map (λ f. close_parts f s cs xs) fs }
