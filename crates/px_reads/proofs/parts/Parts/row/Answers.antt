use Rattle.std.proofs.Common.{◌≡◌, ◌∙◌, ◌∷◌, Some, ℕ, List, sym, subst, arith}
use Rattle.px_cells.specs.Rows.{IsRow}
use Rattle.px_merge.specs.Merged.{joined}
use Rattle.px_merge.specs.Parts.{ReadsPart}
use Rattle.px_merge.specs.Settle.{settle}
use Rattle.px_reads.specs.Range.{AllWithin, IsWithin, next_key}
use Rattle.px_reads.specs.Reads.{all_cells}
use Rattle.px_reads.proofs.Cut.{key_in_rows}
use Rattle.px_reads.proofs.Fronts.{front_of_row, rows_within}
use Rattle.px_reads.proofs.Rows.{own_cells, row_of_rows, rows_of_all, rows_of_row, within_is}
use Rattle.px_reads.proofs.parts.Parts.row.Goals as goal

pub found-requires-clause-newer : goal.found-requires-clause-newer
found-requires-clause-newer g c =
    let key = c.args.key.now in
    let behind : c.as_slice.result.now ≡ next_key key = c.as_slice.ensures.value ∙ c.in_ok-behind.ensures in
    let row = c.row-newer.result.now in
    let cells = c.args.self.now.store.now.cells in
    (c.row-newer.ensures.row.ascending, subst (λ (b : List ℕ). AllWithin key (Some b) row) (sym behind) (rows_within cells row key (Some (next_key key)) (rows_of_row cells row key c.row-newer.ensures.row)))

pub found-requires-clause-older : goal.found-requires-clause-older
found-requires-clause-older g c =
    let key = c.args.key.now in
    let behind : c.as_slice.result.now ≡ next_key key = c.as_slice.ensures.value ∙ c.in_ok-behind.ensures in
    let row = c.row-older.result.now in
    let cells = c.args.self.now.older.now.cells in
    (c.row-older.ensures.row.ascending, subst (λ (b : List ℕ). AllWithin key (Some b) row) (sym behind) (rows_within cells row key (Some (next_key key)) (rows_of_row cells row key c.row-older.ensures.row)))

pub returns-clause-row : goal.returns-clause-row
returns-clause-row g c = λ lists tells have.
    let x = c.in_ok-row.ensures.front lists tells have in
    let key = c.args.key.now in
    let high = Some (next_key key) in
    let behind : c.as_slice.result.now ≡ next_key key = c.as_slice.ensures.value ∙ c.in_ok-behind.ensures in
    let part : ReadsPart (IsWithin key high) (joined lists) (joined x.0) = subst (λ (b : List ℕ). ReadsPart (IsWithin key (Some b)) (joined lists) (joined x.0)) behind x.1 in
    let store = c.args.self.now.store.now.cells in
    let older = c.args.self.now.older.now.cells in
    let newer_row = c.row-newer.result.now in
    let older_row = c.row-older.result.now in
    let all = settle (joined (newer_row ∷ older_row ∷ x.0)) in
    let are = rows_of_all key high store older newer_row older_row lists x.0 (rows_of_row store newer_row key c.row-newer.ensures.row) (rows_of_row older older_row key c.row-older.ensures.row) part in
    let found = c.in_ok-row.row in
    let same = front_of_row all 18446744073709551615 found.cells found.rows x.2 key (omega arith) c.in_ok-row.ensures.counted (λ i lt. within_is key _ (key_in_rows (all_cells c.args.self.now lists) key high all are i lt)) in
    subst (IsRow (all_cells c.args.self.now lists) key) (sym same) (row_of_rows (all_cells c.args.self.now lists) all key are)

pub returns-clause-own : goal.returns-clause-own
returns-clause-own g c =
    let behind : c.as_slice.result.now ≡ next_key c.args.key.now = c.as_slice.ensures.value ∙ c.in_ok-behind.ensures in
    own_cells c.args.key.now c.in_ok-row.row.cells (subst (λ (b : List ℕ). AllWithin c.args.key.now (Some b) c.in_ok-row.row.cells) behind c.in_ok-row.ensures.within)
