use Rattle.std.proofs.Common.{◌≡◌, ◌∙◌, ap, length, map, replicate, arith}
use Rattle.std.proofs.lemmas.List.{length-replicate}
use Rattle.px_values.specs.declared.row.Value.TheVariants.{Null}
use Rattle.px_rows.proofs.Overlays.{fresh_length}
use Rattle.px_rows.proofs.reading.row_at.Goals as goal

pub seen_over-requires-clause-same : goal.seen_over-requires-clause-same
seen_over-requires-clause-same c =
    let t = c.args.table.now in
    ap length c.in_ok-values.ensures ∙ (fresh_length (map (λ p. p.column) t.key) c.args.row.now (replicate (length t.columns) Null) ∙ length-replicate (length t.columns) Null)

pub seen_over-requires-clause-most : goal.seen_over-requires-clause-most
seen_over-requires-clause-most c =
    let t = c.args.table.now in
    let e : length c.in_ok-values.values.items ≡ length t.columns = ap length c.in_ok-values.ensures ∙ (fresh_length (map (λ p. p.column) t.key) c.args.row.now (replicate (length t.columns) Null) ∙ length-replicate (length t.columns) Null) in
    let m = c.requires.table.columns in
    omega arith
