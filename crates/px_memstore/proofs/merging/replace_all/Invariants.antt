use Rattle.std.proofs.Common.{◌≡◌, ◌+◌, ◌≤◌, drop, length, take, vec_len, vec_capacity}
use Rattle.std.specs.Prelude.{reverse}
use Rattle.std.specs.List.{AllByRecursion}
use Rattle.px_cells.specs.Among.{Has}
use Rattle.px_cells.specs.CellData.{CellData}
use Rattle.px_cells.specs.Order.{Below}
use Rattle.px_memstore.specs.inner.Merging.{ArePlaces}
use Rattle.px_memstore.specs.inner.Waiting.{waiting_room}
use Rattle.px_memstore.proofs.Replacing.{IsReplacing}
use Rattle.px_memstore.proofs.merging.replace_all.Given as goal

abbrev pub invariant-loop-batch : goal.invariant-loop-batch
invariant-loop-batch l = record {
  replacing : IsReplacing (drop l.from l.batch.items) l.cells.items (reverse l.waiting.cells.items) (drop l.from l.fn.batch.items) l.fn.cells.items;
  places : ArePlaces l.cells.items 0 (reverse l.waiting.cells.items) (reverse l.waiting.places.items);
  over : (n : CellData) → Has (drop l.from l.batch.items) n → AllByRecursion (Below n) (drop l.end l.cells.items);
  inside : l.end ≤ length l.cells.items;
  front : take l.from l.batch.items ≡ take l.from l.fn.batch.items;
  within : l.from ≤ vec_len l.batch;
  len : vec_len l.cells ≡ vec_len l.fn.cells;
  waits : vec_len l.waiting.cells + vec_len l.batch ≤ vec_len l.fn.batch;
  both : vec_len l.waiting.places ≡ vec_len l.waiting.cells;
  room : vec_capacity l.fn.cells ≤ vec_capacity l.cells;
  aside : waiting_room l.fn.waiting ≤ waiting_room l.waiting;
}

abbrev pub decreases-loop-batch : goal.decreases-loop-batch
decreases-loop-batch l = vec_len l.batch
