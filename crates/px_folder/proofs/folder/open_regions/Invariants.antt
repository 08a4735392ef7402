use Rattle.std.proofs.Common.{◌≡◌, ℕ, map, take}
use Rattle.std.specs.Prelude.{IsTrue, sum_by}
use Rattle.std.specs.List.{All}
use Rattle.px_outside.specs.OnDisk.{Passes, Stays}
use Rattle.px_folder.specs.Calls.{AreOpenedBy}
use Rattle.px_folder.specs.Read.{IsReadOn, number_of_open_region}
use Rattle.px_folder.proofs.folder.open_regions.Given as goal

abbrev pub invariant-loop-number : goal.invariant-loop-number
invariant-loop-number g l = record {
  numbers : map number_of_open_region l.regions.items ≡ take l.number-index l.numbers;
  read : IsTrue g.D.Disk.tells → All (IsReadOn g.D.Disk l.initial.disk l.disk) l.regions.items;
  seen : g.D.Disk.seen l.disk ≡ g.D.Disk.seen l.initial.disk;
  quiet : Stays g.D.Disk l.initial.disk l.disk;
  passed : (n : ℕ) × Passes g.D.Disk l.initial.disk l.disk n;
  opened_by : (calls : ℕ → ℕ) → IsTrue g.D.Disk.tells → AreOpenedBy (g.D.Disk.seen l.initial.disk) (take l.number-index l.numbers) calls → Passes g.D.Disk l.initial.disk l.disk (sum_by calls (take l.number-index l.numbers));
}
