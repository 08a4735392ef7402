-- How the rows of a table are spelled as cells.
use Rattle.std.specs.Prelude.{◌≡◌, ℕ, ◌<◌, ◌≤◌, cond, List, None}
use Rattle.std.proofs.Common.{suc}
use Rattle.px_cells.specs.declared.kind.CellKind.{CellKind}
use Rattle.px_cells.specs.declared.kind.CellKind.TheVariants.{Put}
use Rattle.px_cells.specs.Contents.{Contents, over_contents}
use Rattle.px_cells.specs.Sight.{seen_at}
use Rattle.px_values.specs.declared.row.Value.{Value}
use Rattle.px_values.specs.declared.change.What.{What}
use Rattle.px_values.specs.States.{RowState, Shape, apply}
use Rattle.px_world.specs.Events.{is_at}

-- Of a table: its shape, the key of a row, what the cells visible at a point spell for it, the cells of a change with
-- its stamp, which cells a row may have from a data horizon on, and which changes are let in.
pub record DataForm : Type 1 where
  pub shape : Shape
  pub key_of : List Value → List ℕ
  pub spelled : Contents → List Value → ℕ → RowState
  pub cells_of : List Value → ℕ → What → Contents
  pub IsWhole : ℕ → Contents → List Value → Type 0
  pub Fits : List Value → What → Type 0

-- nothing stands at the row's key from the stamp on
pub record IsClearFrom (f : DataForm) (g : Contents) (r : List Value) (s : ℕ) : Type 0 where
  pub each : (q u : ℕ) (d : CellKind) → s ≤ u → g (f.key_of r) q u d ≡ None

-- the same stands at the row's key up to a stamp
pub record IsSameTo (f : DataForm) (g g' : Contents) (r : List Value) (p : ℕ) : Type 0 where
  pub each : (q u : ℕ) (d : CellKind) → u ≤ p → g' (f.key_of r) q u d ≡ g (f.key_of r) q u d

-- the cells of a change stand at the row's key over what stood there
pub record IsChangeWritten (f : DataForm) (g g' : Contents) (r : List Value) (s : ℕ) (w : What) : Type 0 where
  pub each : (q u : ℕ) (d : CellKind) → g' (f.key_of r) q u d ≡ over_contents (f.cells_of r s w) g (f.key_of r) q u d

-- at the key every cell above the horizon stays, and at or below it just the puts that are seen from there
pub record IsCompactedAt (g g' : Contents) (k : List ℕ) (h : ℕ) : Type 0 where
  pub above : (q s : ℕ) (d : CellKind) → h < s → g' k q s d ≡ g k q s d
  pub puts : (q s : ℕ) → s ≤ h → g' k q s Put ≡ cond (is_at s (seen_at g k q h)) (g k q s Put) None
  pub others : (q s : ℕ) (d : CellKind) → s ≤ h → (d ≡ Put → ⊥) → g' k q s d ≡ None

pub record IsDataForm (f : DataForm) : Type 0 where
  -- no two rows have one key
  pub apart : (r r' : List Value) → f.key_of r ≡ f.key_of r' → r ≡ r'
  -- a point sees the row's cells up to it alone
  pub local : (g g' : Contents) (r : List Value) (p : ℕ) → IsSameTo f g g' r p → f.spelled g' r p ≡ f.spelled g r p
  -- where no cell has a stamp, the point of that stamp sees what the one before it does
  pub still : (g : Contents) (r : List Value) (p : ℕ) → ((q : ℕ) (d : CellKind) → g (f.key_of r) q (suc p) d ≡ None) → f.spelled g r (suc p) ≡ f.spelled g r p
  -- a change's cells have its stamp
  pub stamped : (r : List Value) (s : ℕ) (w : What) (q u : ℕ) (d : CellKind) → (s ≡ u → ⊥) → f.cells_of r s w (f.key_of r) q u d ≡ None
  -- over older cells they spell the row after the change, at every point from the stamp on
  pub changed : (low : ℕ) (g g' : Contents) (r : List Value) (s : ℕ) (w : What) (p : ℕ) → low < s → f.Fits r w → f.IsWhole low g r → IsClearFrom f g r s → IsChangeWritten f g g' r s w → s ≤ p → f.spelled g' r p ≡ apply f.shape r (f.spelled g r p) w
  pub whole : (low : ℕ) (g g' : Contents) (r : List Value) (s : ℕ) (w : What) → low < s → f.Fits r w → f.IsWhole low g r → IsClearFrom f g r s → IsChangeWritten f g g' r s w → f.IsWhole low g' r
  -- a compaction leaves what is spelled from its horizon on
  pub kept : (low : ℕ) (g g' : Contents) (r : List Value) (h p : ℕ) → f.IsWhole low g r → low ≤ h → IsCompactedAt g g' (f.key_of r) h → h ≤ p → f.spelled g' r p ≡ f.spelled g r p
  pub whole_kept : (low : ℕ) (g g' : Contents) (r : List Value) (h : ℕ) → IsCompactedAt g g' (f.key_of r) h → low ≤ h → f.IsWhole low g r → f.IsWhole h g' r
  pub whole_local : (low : ℕ) (g g' : Contents) (r : List Value) → ((q u : ℕ) (d : CellKind) → g' (f.key_of r) q u d ≡ g (f.key_of r) q u d) → f.IsWhole low g r → f.IsWhole low g' r
