-- The cells of an index row are such as an open batch keeps.
use Rattle.std.proofs.Common.{◌≡◌, ℕ, zero, suc, ◌≤◌, Option, Some, None, List, [], ◌∷◌, ◌++◌, refl, arith}
use Rattle.std.specs.List.{AllByRecursion}
use Rattle.std.proofs.lemmas.Bool.{false≢true}
use Rattle.px_cells.specs.declared.kind.CellKind.TheVariants.{Delete, DeleteColumn}
use Rattle.px_cells.specs.CellData.{CellData}
use Rattle.px_cells.specs.Order.{GoesWith}
use Rattle.px_values.specs.declared.row.Value.{Value}
use Rattle.px_values.specs.States.{RowState, Shape as RowShape}
use Rattle.px_world.specs.IndexCells.{mark_cells, close_cells}
use Rattle.px_forms.specs.Indexes.{IndexForm, IsIndexForm, IsPlaced, shape_at}
use Rattle.px_forms.specs.Several.{AreOwned}
use Rattle.px_indexrow.specs.Lists.{closes_of, column_cell, column_cells, family_cell, family_if, left_key, marks_of, status_cell, status_if, version_if}
use Rattle.px_indexrow.proofs.MarksSeen.{closes_owned, marks_owned, marks_view}
use Rattle.px_indexrow.proofs.ClosesSeen.{closes_view}
use Rattle.px_openbatches.specs.Made.{IsCellOfRow, IsIndexRow}

-- a cell of the stamp that may stand in an index's region
pub record MayStand (s : ℕ) (c : CellData) : Type 0 where
  pub stamp : c.stamp ≡ s
  pub placed : GoesWith c
  pub kind : c.kind ≡ Delete → ⊥
  pub status : c.qualifier ≡ 1 → c.kind ≡ DeleteColumn → ⊥

pub all_append : {A : Type 0} (P : A → Type 0) (xs ys : List A) → AllByRecursion P xs → AllByRecursion P ys → AllByRecursion P (xs ++ ys)
all_append P [] ys a b = b
all_append P (x ∷ xs) ys a b = (a.0, all_append P xs ys a.1 b)

pub both : (f : IndexForm) (r : List Value) (s : ℕ) (cells : List CellData) → AreOwned f r cells → AllByRecursion (MayStand s) cells → AllByRecursion (IsCellOfRow f r s) cells
both f r s [] a b = tt
both f r s (c ∷ cells) a b = (record { owned = a.0; stamp = b.0.stamp; placed = b.0.placed; kind = b.0.kind; status = b.0.status }, both f r s cells a.1 b.1)

pub status_stands : (k : List ℕ) (s byte : ℕ) → MayStand s (status_cell k s byte)
status_stands k s byte = record { stamp = refl; placed = (λ h. absurd (false≢true h), λ e. absurd (omega arith)); kind = λ e. cc; status = λ q e. cc }

pub family_stands : (k : List ℕ) (s : ℕ) → MayStand s (family_cell k s)
family_stands k s = record { stamp = refl; placed = (λ h. refl, λ e. refl); kind = λ e. cc; status = λ q e. absurd (omega arith) }

column_stands : (k : List ℕ) (s q : ℕ) → 2 ≤ q → (v : Option (List ℕ)) → MayStand s (column_cell k s q v)
column_stands k s q l None = record { stamp = refl; placed = (λ h. absurd (false≢true h), λ e. absurd (omega arith)); kind = λ e. cc; status = λ z e. absurd (omega arith) }
column_stands k s q l (Some v) = record { stamp = refl; placed = (λ h. absurd (false≢true h), λ e. absurd (omega arith)); kind = λ e. cc; status = λ z e. cc }

pub columns_stand : (f : IndexForm) → IsPlaced f → (k : List ℕ) (s : ℕ) (state : RowState) (m : ℕ) → m ≤ f.columns → AllByRecursion (MayStand s) (column_cells f k s state m)
unfolding column_cells
columns_stand f p k s state zero l = tt
columns_stand f p k s state (suc m) l = (column_stands k s (f.place m) (p.above m (omega arith)) (f.col state m), columns_stand f p k s state m (omega arith))

version_stands : (f : IndexForm) → IsPlaced f → (s byte : ℕ) (state : RowState) (o : Option (List ℕ)) → AllByRecursion (MayStand s) (version_if f s byte state o)
version_stands f p s byte state None = tt
version_stands f p s byte state (Some k) = (status_stands k s byte, columns_stand f p k s state f.columns (omega arith))

status_if_stands : (s byte : ℕ) (o : Option (List ℕ)) → AllByRecursion (MayStand s) (status_if s byte o)
status_if_stands s byte None = tt
status_if_stands s byte (Some k) = (status_stands k s byte, tt)

family_if_stands : (s : ℕ) (o : Option (List ℕ)) → AllByRecursion (MayStand s) (family_if s o)
family_if_stands s None = tt
family_if_stands s (Some k) = (family_stands k s, tt)

pub marks_made : (sh : RowShape) (f : IndexForm) → IsIndexForm f → IsPlaced f → (r : List Value) (s : ℕ) (old new : RowState) → IsIndexRow f r s (mark_cells (shape_at sh f r) s old new) (marks_of f r s old new)
marks_made sh f g p r s old new = record {
  each = both f r s (marks_of f r s old new) (marks_owned f g r s old new) (all_append (MayStand s) (version_if f s 2 new (f.key_of r new)) (status_if s 2 (left_key (f.key_of r old) (f.key_of r new))) (version_stands f p s 2 new (f.key_of r new)) (status_if_stands s 2 (left_key (f.key_of r old) (f.key_of r new))));
  sees = marks_view sh f g p r s old new;
}

pub closes_made : (sh : RowShape) (f : IndexForm) → IsIndexForm f → IsPlaced f → (r : List Value) (s : ℕ) (old new : RowState) → IsIndexRow f r s (close_cells (shape_at sh f r) s old new) (closes_of f r s old new)
closes_made sh f g p r s old new = record {
  each = both f r s (closes_of f r s old new) (closes_owned f g r s old new) (all_append (MayStand s) (status_if s 1 (f.key_of r new)) (family_if s (left_key (f.key_of r old) (f.key_of r new))) (status_if_stands s 1 (f.key_of r new)) (family_if_stands s (left_key (f.key_of r old) (f.key_of r new))));
  sees = closes_view sh f g p r s old new;
}
