use Rattle.std.proofs.Common.{ℕ, List, ◌++◌, ◌∙◌, ap}
use Rattle.px_load.specs.Script.{behind, load_text, puts}
use Rattle.px_load.proofs.script.load_text.Goals as goal

pub returns : goal.returns
unfolding load_text
returns c =
    let load = c.args.load in
    let rows = puts load.rows load.rows load.number in
    c.in_ok-push_str.ensures.bytes ∙ ap (λ (s : List ℕ). s ++ behind) (c.in_ok-add_rows.ensures ∙ ap (λ (s : List ℕ). s ++ rows) c.in_ok-text.ensures.ok)
