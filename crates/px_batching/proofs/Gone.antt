-- A table stays right when a batch of it is let go.
use Rattle.std.proofs.Common.{◌≡◌, ℕ, zero, suc, ◌≤◌, List, [], ◌∷◌, remove, slice_get, sum_by, ap, sym, ◌∙◌, subst, arith}
use Rattle.std.specs.List.{AllByRecursion}
use Rattle.std.proofs.lemmas.List.Sums.{sum_by-cons}
use Rattle.px_region.specs.Region.{read_of}
use Rattle.px_region.specs.declared.region.Region.{Region}
use Rattle.px_rows.specs.Keys.{IsRightTable}
use Rattle.px_tables.specs.declared.table.Table.{Table}
use Rattle.px_cellshapes.specs.Rows.{AreRightRows}
use Rattle.px_group.specs.Group.{IsRightBatch, IsRightGroup, IsRightPart, region_of}
use Rattle.px_group.specs.Room.{IsLight, bytes_at, bytes_of_rows, cells_at, cells_of_rows}
use Rattle.px_group.specs.declared.group.Begun.{Begun}
use Rattle.px_group.specs.declared.group.Group.{Group}
use Rattle.px_batching.specs.Steps.{LetsGo}
use Rattle.px_batching.proofs.Places.{all_more}
use Rattle.px_batching.proofs.Right.{right_moves, same_quiet}
use Rattle.px_batching.proofs.Traced.{all_remove}

sum_fewer : (f : Begun → ℕ) (xs : List Begun) (m : ℕ) → sum_by f (remove xs m) ≤ sum_by f xs
sum_fewer f [] zero = omega arith
sum_fewer f [] (suc m) = omega arith
sum_fewer f (x ∷ xs) zero = (let a = sum_by-cons f x xs in omega arith)
sum_fewer f (x ∷ xs) (suc m) = (let a = sum_by-cons f x xs in let b = sum_by-cons f x (remove xs m) in let c = sum_fewer f xs m in omega arith)

pub right_gone : (g g' : Group) (m : ℕ) (x : Begun) → LetsGo g g' m x → IsRightGroup g → IsRightGroup g'
right_gone g g' m x l r = record {
  table = subst (λ (t : Table). IsRightTable t) (sym l.table) r.table;
  region = ap (λ (t : Table). t.regions) l.table ∙ (r.region ∙ ap (λ (w : Region). region_of w ∷ []) (sym l.rows));
  rows = subst (λ (w : Region). AreRightRows g'.table (read_of w)) (sym l.rows) (subst (λ (t : Table). AreRightRows t (read_of g.rows)) (sym l.table) r.rows);
  parts = subst (λ (t : Table). AllByRecursion (IsRightPart t) g'.indexes.items) (sym l.table) (subst (λ v. AllByRecursion (IsRightPart g.table) v.items) (sym l.indexes) r.parts);
  batches = subst (λ (ms : List Begun). AllByRecursion (IsRightBatch g') ms) (sym l.batches) (all_remove (IsRightBatch g') g.batches.items m (all_more (IsRightBatch g) (IsRightBatch g') (right_moves g g' (same_quiet g g' l.table l.indexes)) g.batches.items r.batches));
  rooms = record {
    rows =
        (let a : sum_by cells_of_rows g'.batches.items ≡ sum_by cells_of_rows (remove g.batches.items m) = ap (sum_by cells_of_rows) l.batches in
        let b : sum_by bytes_of_rows g'.batches.items ≡ sum_by bytes_of_rows (remove g.batches.items m) = ap (sum_by bytes_of_rows) l.batches in
        let c = sum_fewer cells_of_rows g.batches.items m in
        let d = sum_fewer bytes_of_rows g.batches.items m in
        let p : g'.rows.promised ≡ g.rows.promised = ap (λ (w : Region). w.promised) l.rows in
        let q : g'.rows.promised_bytes ≡ g.rows.promised_bytes = ap (λ (w : Region). w.promised_bytes) l.rows in
        let e = r.rooms.rows.0 in
        let f = r.rooms.rows.1 in
        (omega arith, omega arith));
    indexes = λ j z at.
        (let a : sum_by (cells_at j) g'.batches.items ≡ sum_by (cells_at j) (remove g.batches.items m) = ap (sum_by (cells_at j)) l.batches in
        let b : sum_by (bytes_at j) g'.batches.items ≡ sum_by (bytes_at j) (remove g.batches.items m) = ap (sum_by (bytes_at j)) l.batches in
        let c = sum_fewer (cells_at j) g.batches.items m in
        let d = sum_fewer (bytes_at j) g.batches.items m in
        let o = r.rooms.indexes j z (sym (ap (λ v. slice_get v.items j) l.indexes) ∙ at) in
        let e = o.0 in
        let f = o.1 in
        (omega arith, omega arith));
    light = subst (λ (ms : List Begun). AllByRecursion IsLight ms) (sym l.batches) (all_remove IsLight g.batches.items m r.rooms.light);
  };
}
