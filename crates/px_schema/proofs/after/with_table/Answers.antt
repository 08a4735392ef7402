use Rattle.std.proofs.Common.{◌≡◌, ◌++◌, ◌∷◌, [], ℕ, List, length, map, sym, ap, ◌∙◌, arith}
use Rattle.std.proofs.Math.ListN.{set}
use Rattle.px_tables.specs.declared.table.Table.{Table}
use Rattle.px_schema.specs.Format.{number_of_table}
use Rattle.px_schema.specs.Places.{first_at}
use Rattle.px_schema.proofs.ListSteps.{pushed}
use Rattle.px_schema.proofs.Puts.{put_table_at, put_table_end}
use Rattle.px_schema.proofs.after.with_table.Goals as goal

pub returns-then-at-len : goal.returns-then-at-len
returns-then-at-len c =
    let items : c.as_slice.result.now ≡ c.args.tables = c.as_slice.ensures.value ∙ c.into_vec-list.ensures in
    let at : c.place_of-at.result ≡ first_at (map number_of_table c.args.tables) c.args.table.id.0 = c.place_of-at.ensures ∙ ap (λ (l : List Table). first_at (map number_of_table l) c.args.table.id.0) items in
    let long : length c.into_vec-list.result.items ≡ length c.args.tables = ap length c.into_vec-list.ensures in
    c.of.ensures ∙ ap (λ (x : Table). set c.into_vec-list.result.items c.place_of-at.result x) c.replace-old.ensures.after ∙ ap (λ (l : List Table). set l c.place_of-at.result c.args.table) c.into_vec-list.ensures
    ∙ ap (λ (n : ℕ). set c.args.tables n c.args.table) at ∙ put_table_at c.args.tables c.args.table (omega (arith, at, long, c.if-at-len.true, c.len.ensures))

pub returns : goal.returns
returns c =
    let items : c.as_slice.result.now ≡ c.args.tables = c.as_slice.ensures.value ∙ c.into_vec-list.ensures in
    let at : c.place_of-at.result ≡ first_at (map number_of_table c.args.tables) c.args.table.id.0 = c.place_of-at.ensures ∙ ap (λ (l : List Table). first_at (map number_of_table l) c.args.table.id.0) items in
    let long : length c.into_vec-list.result.items ≡ length c.args.tables = ap length c.into_vec-list.ensures in
    c.of-2.ensures ∙ pushed c.push.result c.push.new.self.items c.into_vec-list.result.items (c.into_vec-list.result.items ++ c.args.table ∷ []) (sym c.is_err.ensures.value ∙ c.if-is_err.false) c.push.ensures.items
    ∙ ap (λ (l : List Table). l ++ c.args.table ∷ []) c.into_vec-list.ensures ∙ put_table_end c.args.tables c.args.table (omega (arith, at, long, c.if-at-len.false, c.len.ensures))
