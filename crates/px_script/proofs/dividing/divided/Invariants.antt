use Rattle.std.proofs.Common.{length}
use denote.Text.{Utf8}
use denote.Shadow.{shadow}
use Rattle.px_script.specs.Scripts.{lines_of, script_of}
use Rattle.px_script.specs.inner.Dividing.{IsDivided}
use Rattle.px_script.proofs.dividing.divided.Given as goal

abbrev pub invariant-loop-rest : goal.invariant-loop-rest
invariant-loop-rest l = shadow (Utf8 l.rest) × IsDivided l.divided.rounds.items l.divided.slots.items (lines_of l.rest) (script_of l.fn.script)

abbrev pub decreases-loop-rest : goal.decreases-loop-rest
decreases-loop-rest l = length l.rest
