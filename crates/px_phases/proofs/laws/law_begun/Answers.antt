use Rattle.px_phases.proofs.Begun.{begun_held, computed, rows_are}
use Rattle.px_phases.proofs.laws.law_begun.Goals as goal

pub returns : goal.returns
returns c = record { computed = computed; rows = rows_are; held = begun_held }
