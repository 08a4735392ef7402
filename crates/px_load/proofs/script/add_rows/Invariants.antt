use Rattle.std.proofs.Common.{◌≡◌, ◌++◌}
use Rattle.std.specs.String.{string_bytes}
use Rattle.px_load.specs.Rows.{behind_rows}
use Rattle.px_load.specs.Script.{puts}
use Rattle.px_load.proofs.script.add_rows.Given as goal

abbrev pub invariant-loop-place : goal.invariant-loop-place
invariant-loop-place l = record {
  drawn : l.draws.number ≡ behind_rows l.place l.load.number;
  written : string_bytes l.text ≡ string_bytes l.initial.text ++ puts l.place l.load.rows l.load.number;
}
