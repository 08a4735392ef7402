-- What is judged of a version is what is due.
use Rattle.std.proofs.Common.{◌≡◌, ℕ, zero, suc, ◌<◌, ◌≤◌, Bool, true, cond, not, Option, Some, None, List, [], ◌∷◌, length, get_or, map, refl, ap, sym, subst, ◌∙◌, arith}
use Rattle.std.specs.Prelude.{nat_eq, nat_lt}
use Rattle.std.specs.Cmp.Lexicographic.{pointwise}
use Rattle.px_cells.specs.CellData.{CellData}
use Rattle.px_cells.specs.Contents.{value_at}
use Rattle.px_cells.specs.Rows.{IsRow}
use Rattle.px_cellshapes.specs.Rows.{AreRightRows}
use Rattle.px_cellshapes.proofs.RowsRead.{rows_plain, rows_plain_at}
use Rattle.px_forms.specs.Indexes.{IndexForm, shape_at}
use Rattle.px_indexrow.specs.Form.{FitsRowState, included_at, included_bytes, index_form, key_of_state}
use Rattle.px_keys.specs.Spelling.{Fits}
use Rattle.px_looks.proofs.RowCells.{row_is_list, row_is_own, row_is_plain, row_spelled}
use Rattle.px_rows.specs.Keys.{IsRightTable, row_columns, row_key}
use Rattle.px_rows.specs.Spelled.{row_form}
use Rattle.px_shown.specs.Told.{is_key_in}
use Rattle.px_shown.proofs.OwnKeys.{spells_rows}
use Rattle.px_tables.specs.declared.index.Index.{Index}
use Rattle.px_tables.specs.declared.table.Table.{Table}
use Rattle.px_values.specs.Limits.{most_key}
use Rattle.px_values.specs.States.{RowState, Shape}
use Rattle.px_values.specs.declared.row.Value.{Value}
use Rattle.px_world.specs.Events.{Leave, ToVerify, ToRetire, ToErase, due}
use Rattle.px_world.specs.Shape.{all_below, has_key, same_cell, shows}
use Rattle.px_world.specs.World.{World, horizon, is_undecided, is_written, st, vis}
use Rattle.px_reading.specs.Doubts.{IsBelow, IsBelowBy, IsRowOf, state_bytes}

-- ---- a change that is in flight

pub left_due : (sh : Shape) (f : IndexForm) (r : List Value) (w : World (List ℕ) RowState (List ℕ)) (k : List ℕ) (s : ℕ) → is_undecided (w.fate s) ≡ true → Leave ≡ due (shape_at sh f r) w k s
unfolding due has_key shows
left_due sh f r w k s u =
    ap (λ (b : Bool). cond b Leave (cond (nat_lt (horizon w) s) (cond (is_written (w.fate s)) (cond (is_key_in k (f.key_of r (w.new s))) ToVerify ToRetire) ToErase) (cond (not (is_key_in k (f.key_of r (st w (horizon w))))) ToRetire
    (cond (all_below f.columns (λ c. same_cell (pointwise nat_eq) (vis w k (horizon w) c) (f.col (st w (horizon w)) c))) ToVerify (cond (nat_lt w.floor s) ToErase ToVerify))))) (sym u)

-- ---- the row's own values

get_mapped : (f : ℕ → Option (List ℕ)) (xs : List ℕ) (i : ℕ) → i < length xs → get_or (map f xs) i None ≡ f (get_or xs i 0)
get_mapped f [] i l = absurd (omega arith)
get_mapped f (x ∷ xs) zero l = refl
get_mapped f (x ∷ xs) (suc i) l = get_mapped f xs i (omega arith)

column_state : (t : Table) (x : Index) (o : RowState) (c : ℕ) → state_bytes t o (included_at x c) ≡ included_bytes t x o c
column_state t x None c = refl
column_state t x (Some row) c = refl

module _ (t : Table) (x : Index) (r : List Value) (cells : List CellData) (k : List ℕ) (s h floor : ℕ) (short : length k ≤ most_key) (state : RowState) (is : state ≡ (row_form t).spelled (value_at cells) r h)
    (own : Option (List ℕ)) (own_is : (z : List ℕ) → length z ≤ most_key → is_key_in z own ≡ is_key_in z (key_of_state t x r state)) (values : List (Option (List ℕ))) (values_is : values ≡ map (λ c. state_bytes t state c) x.included) where
  pub below_by : (seen given : List (Option (List ℕ))) → seen ≡ given → length given ≡ length x.included → (w : World (List ℕ) RowState (List ℕ)) → IsBelow t x r cells k s h floor given w → IsBelowBy (index_form t x) r w k s h floor seen own values
  below_by seen given same count w b =
      let state_is : st w h ≡ state = b.state ∙ sym is in
      record {
        decided = b.decided;
        horizon_is = b.horizon_is;
        floor_is = b.floor_is;
        keyed = ap (λ (o : RowState). is_key_in k (key_of_state t x r o)) state_is ∙ sym (own_is k short);
        count = ap length same ∙ count;
        seen_are = λ c l. ap (λ (vs : List (Option (List ℕ))). get_or vs c None) same ∙ b.values_are c l;
        values_are = λ c l. ap (λ (vs : List (Option (List ℕ))). get_or vs c None) values_is ∙ get_mapped (state_bytes t state) x.included c l ∙ column_state t x state c ∙ ap (λ (o : RowState). included_bytes t x o c) (sym state_is);
      }

-- ---- the row of a key, with its cells

pub row_is_of : (t : Table) (r : List Value) (cells all : List CellData) → IsRightTable t → AreRightRows t all → Fits (row_columns t) r → IsRow all (row_key t r) cells → IsRowOf t r cells
row_is_of t r cells all table right fits is = record {
  fits = fits;
  list = row_is_list all cells (row_key t r) is (rows_plain t all right);
  own = row_is_own all cells (row_key t r) is;
  plain = row_is_plain all cells (row_key t r) is (rows_plain_at t all right (row_key t r));
  typed = λ p. subst (FitsRowState t) (sym (row_spelled all cells (row_key t r) is t r p refl)) ((spells_rows t all table right).typed r p);
}
