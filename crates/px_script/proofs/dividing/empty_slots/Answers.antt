use Rattle.std.proofs.Common.{◌≡◌, [], refl, ◌∙◌, ap, arith}
use Rattle.std.specs.Prelude.{replicate, None}
use Rattle.px_script.specs.Scripts.{all_texts}
use Rattle.px_script.proofs.dividing.empty_slots.Goals as goal

none : replicate 32 None ≡ all_texts []
unfolding all_texts
none = refl

pub returns : goal.returns
returns c = let e : c.loop.counter ≡ 32 = omega arith in c.loop.invariant ∙ (ap (λ n. replicate n None) e ∙ none)
