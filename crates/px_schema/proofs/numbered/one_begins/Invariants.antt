use Rattle.std.proofs.Common.{◌≡◌, ◌/◌, ◌^◌, map, drop}
use Rattle.std.specs.Prelude.{◌==◌}
use Rattle.std.specs.List.{list_any}
use Rattle.px_schema.proofs.numbered.one_begins.Given as goal

abbrev pub invariant-loop-one : goal.invariant-loop-one
invariant-loop-one g l = list_any (λ n. n / 256 ^ l.behind == l.value) (map g.T.Numbered.number_of l.standing) ≡ list_any (λ n. n / 256 ^ l.behind == l.value) (map g.T.Numbered.number_of (drop l.one-index l.standing))
