use Rattle.std.proofs.Common.{ℕ, List, Option, length, sym, ap, subst, ◌∙◌}
use Rattle.std.specs.Option.{option_copied}
use Rattle.px_file.proofs.Blocks.{length-index_of}
use Rattle.px_cursor.specs.Range.{EndsAt}
use Rattle.px_cursor.proofs.part.limit_of.Goals as goal

pub returns-in-None-clause-limit : goal.returns-in-None-clause-limit
returns-in-None-clause-limit c = λ blocks are is.
    subst (λ (o : Option (List ℕ)). EndsAt blocks o c.blocks-in-None.result) (sym (ap option_copied c.in-None.is)) (c.blocks-in-None.ensures ∙ ap length is.entries ∙ length-index_of 8 blocks)

pub returns-in-Some-clause-limit : goal.returns-in-Some-clause-limit
returns-in-Some-clause-limit c = λ blocks are is. subst (λ (o : Option (List ℕ)). EndsAt blocks o c.blocks_below.result) (sym (ap option_copied c.in-Some.is)) (c.blocks_below.ensures.below blocks are is)
