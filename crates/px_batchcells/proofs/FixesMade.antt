-- The cells of a repair are what the repair of a version asks for, of every row.
use Rattle.std.proofs.Common.{◌≡◌, ℕ, zero, suc, ◌<◌, ◌≤◌, Bool, true, false, cond, Option, Some, None, List, [], length, get_or, refl, ap, sym, ◌∙◌, subst, arith}
use Rattle.std.specs.Prelude.{nat_lt}
use Rattle.std.specs.List.{AllByRecursion}
use Rattle.std.proofs.lemmas.Bool.{false≢true}
use Rattle.px_cells.specs.CellData.{CellData}
use Rattle.px_cells.specs.Order.{ReadsSame}
use Rattle.px_values.specs.declared.row.Value.{Value}
use Rattle.px_values.specs.States.{RowState}
use Rattle.px_trail.specs.declared.entry.Entry.{Entry}
use Rattle.px_trail.specs.Trail.{last_of}
use Rattle.px_world.specs.World.{horizon, st, is_undecided}
use Rattle.px_world.specs.Events.{Verdict, Leave, ToVerify, ToRetire, ToErase, due, stands}
use Rattle.px_world.specs.IndexCells.{IndexCells, fix_cells}
use Rattle.px_forms.specs.Indexes.{IndexForm, IsIndexForm, IsPlaced, cells_if, view_at}
use Rattle.px_forms.proofs.Views.{view_same}
use Rattle.px_indexed.specs.Worlds.{history_at}
use Rattle.px_groupworld.specs.Group.{TableForm, GroupData, no_part, shape_in, world_in}
use Rattle.px_groupworld.specs.Asks.{CanFix}
use Rattle.px_forms.specs.Several.{AreOwned}
use Rattle.px_indexrow.specs.Lists.{column_cell, column_cells, erase_cell, fix_of}
use Rattle.px_indexrow.proofs.FixesSeen.{fix_view}
use Rattle.px_openbatches.specs.Made.{IsCellOfRow}
use Rattle.px_openbatches.proofs.Mades.{all_read}
use Rattle.px_forms.proofs.RowViews.{others_view}
use Rattle.px_batchcells.proofs.RowsMade.{MayStand, both, columns_stand, family_stands, status_stands}

erase_stands : (k : List ℕ) (s : ℕ) → MayStand s (erase_cell k s)
erase_stands k s = record { stamp = refl; placed = (λ h. refl, λ e. refl); kind = λ e. cc; status = λ q e. absurd (omega arith) }

module _ (f : IndexForm) (p : IsPlaced f) (h : ℕ) (state : RowState) (k : List ℕ) (t : ℕ) where
  given : (b : Bool) → AllByRecursion (MayStand t) (cond b [] (column_cells f k t state f.columns))
  given true = tt
  given false = columns_stand f p k t state f.columns (omega arith)

  fix_stands : (v : Verdict) → AllByRecursion (MayStand t) (fix_of f h state k t v)
  fix_stands Leave = tt
  fix_stands ToVerify = (status_stands k t 1, given (nat_lt h t))
  fix_stands ToRetire = (family_stands k t, tt)
  fix_stands ToErase = (erase_stands k t, tt)

  module _ (r : List Value) (own : f.owns r k ≡ true) where
    column_owned : (q : ℕ) (v : Option (List ℕ)) → f.owns r (column_cell k t q v).key ≡ true
    column_owned q None = own
    column_owned q (Some v) = own

    columns_owned : (m : ℕ) → AreOwned f r (column_cells f k t state m)
    unfolding column_cells
    columns_owned zero = tt
    columns_owned (suc m) = (column_owned (f.place m) (f.col state m), columns_owned m)

    given_owned : (b : Bool) → AreOwned f r (cond b [] (column_cells f k t state f.columns))
    given_owned true = tt
    given_owned false = columns_owned f.columns

    fix_owned : (v : Verdict) → AreOwned f r (fix_of f h state k t v)
    fix_owned Leave = tt
    fix_owned ToVerify = (own, given_owned (nat_lt h t))
    fix_owned ToRetire = (own, tt)
    fix_owned ToErase = (own, tt)

module _ (f : TableForm) (es : List Entry) (v : GroupData) (i : ℕ) (there : i < length v.indexes) (laws : IsIndexForm (f.index (get_or v.indexes i no_part).id)) (placed : IsPlaced (f.index (get_or v.indexes i no_part).id))
    (r : List Value) (key : List ℕ) (s : ℕ) (own : (f.index (get_or v.indexes i no_part).id).owns r key ≡ true) (stand : stands (world_in f es v i r) key s) (decided : is_undecided ((history_at f.rows.shape f.base es f.id.0 r).fate s) ≡ false) (drawn : s ≤ last_of f.base f.id.0 es)
    (cells : List CellData) (same : ReadsSame cells (fix_of (f.index (get_or v.indexes i no_part).id) (horizon (world_in f es v i r)) (st (world_in f es v i r) (horizon (world_in f es v i r))) key s (due (shape_in f v i r) (world_in f es v i r) key s))) where
  abbrev form : IndexForm
  form = f.index (get_or v.indexes i no_part).id

  abbrev fix : List CellData
  fix = fix_of form (horizon (world_in f es v i r)) (st (world_in f es v i r) (horizon (world_in f es v i r))) key s (due (shape_in f v i r) (world_in f es v i r) key s)

  abbrev seen_by : List Value → IndexCells (List ℕ) (List ℕ)
  seen_by x = fix_cells (shape_in f v i x) (horizon (world_in f es v i x)) (st (world_in f es v i x) (horizon (world_in f es v i x))) key s (due (shape_in f v i x) (world_in f es v i x) key s)

  owned : AreOwned form r fix
  owned = fix_owned form placed (horizon (world_in f es v i r)) (st (world_in f es v i r) (horizon (world_in f es v i r))) key s r own (due (shape_in f v i r) (world_in f es v i r) key s)

  sees : (x : List Value) (b : Bool) → form.owns x key ≡ b → view_at form x cells ≡ cells_if b (seen_by x)
  sees x true q =
      subst (λ (y : List Value). view_at form y cells ≡ seen_by y) (laws.apart r x key own q)
      (view_same form r cells fix same ∙ fix_view f.rows.shape form laws placed r (horizon (world_in f es v i r)) (st (world_in f es v i r) (horizon (world_in f es v i r))) key own s (due (shape_in f v i r) (world_in f es v i r) key s))
  sees x false q = view_same form x cells fix same ∙ others_view form laws r x (λ e. false≢true (sym q ∙ (ap (λ (y : List Value). form.owns y key) (sym e) ∙ own))) fix owned

  pub can_fix : CanFix f es v i key s cells
  can_fix = record {
    there = there;
    may = λ x q. subst (λ (y : List Value). stands (world_in f es v i y) key s × (is_undecided ((history_at f.rows.shape f.base es f.id.0 y).fate s) ≡ false)) (laws.apart r x key own q) (stand, decided);
    reads = λ x. sees x (form.owns x key) refl;
    low = record {
      each = λ c z.
          (let w : IsCellOfRow form r s c = all_read (IsCellOfRow form r s) fix cells same (both form r s fix owned (fix_stands form placed (horizon (world_in f es v i r)) (st (world_in f es v i r) (horizon (world_in f es v i r))) key s (due (shape_in f v i r) (world_in f es v i r) key s))) c z in
          record { stamp = (let e = w.stamp in omega arith); owner = (r, w.owned); placed = w.placed; kind = w.kind; status = w.status });
    };
  }
