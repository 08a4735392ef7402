-- What is read of a region, piece by piece.
use Rattle.std.proofs.Common.{◌≡◌, ◌<◌, ◌+◌, ◌++◌, ◌∙◌, ℕ, [], List, length, take, get_or, sym, ap, subst, arith}
use Rattle.std.specs.Prelude.{max}
use Rattle.px_cells.specs.CellData.{CellData}
use Rattle.px_cellshapes.specs.Keys.{AreRightKeys, IsRightIndexCell}
use Rattle.px_cellshapes.specs.Rows.{AreRightRows, IsRightRowCell}
use Rattle.px_cellshapes.proofs.Each.{EachRead, each_none, each_over}
use Rattle.px_memstore.specs.Pieces.{chained}
use Rattle.px_memstore.proofs.Chained.{chained_next}
use Rattle.px_tables.specs.declared.index.Index.{Index}
use Rattle.px_tables.specs.declared.table.Table.{Table}
use Rattle.px_tablefolder.specs.Folder.{last_cell}
use Rattle.px_opening.proofs.Building.{last_append}

module _ (ps : List (List CellData)) (at : ℕ) (lt : at < length ps) where
  each_next : (P : CellData → Type 0) → EachRead P (chained (take at ps)) → EachRead P (get_or ps at []) → EachRead P (chained (take (at + 1) ps))
  each_next P before here =
      subst (λ (cells : List CellData). EachRead P cells) (sym (chained_next ps at lt))
      (each_over P (chained (take at ps)) (get_or ps at []) (chained (take at ps) ++ get_or ps at []) before here (λ c. (λ r. r, λ r. r)))

  pub rows_next : (t : Table) → AreRightRows t (chained (take at ps)) → AreRightRows t (get_or ps at []) → AreRightRows t (chained (take (at + 1) ps))
  rows_next t before here = record { each = each_next (IsRightRowCell t) before.each here.each }

  pub keys_next : (t : Table) (i : Index) → AreRightKeys t i (chained (take at ps)) → AreRightKeys t i (get_or ps at []) → AreRightKeys t i (chained (take (at + 1) ps))
  keys_next t i before here = record { each = each_next (IsRightIndexCell t i) before.each here.each }

  pub last_piece : last_cell (chained (take (at + 1) ps)) ≡ max (last_cell (chained (take at ps))) (last_cell (get_or ps at []))
  last_piece = ap last_cell (chained_next ps at lt) ∙ last_append (chained (take at ps)) (get_or ps at [])

pub no_rows : (t : Table) → AreRightRows t []
no_rows t = record { each = each_none (IsRightRowCell t) }

pub no_keys : (t : Table) (i : Index) → AreRightKeys t i []
no_keys t i = record { each = each_none (IsRightIndexCell t i) }
