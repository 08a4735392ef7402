use Rattle.std.proofs.Common.{◌∙◌, ap, sym, subst, length, List, ℕ}
use Rattle.px_calls.specs.declared.query.FoundKey.TheVariants.{Sure}
use Rattle.px_cells.specs.Contents.{value_at}
use Rattle.px_keys.specs.Spelling.{IsKeyOf}
use Rattle.px_keys.specs.declared.parts.KeyColumn.{KeyColumn}
use Rattle.px_values.specs.declared.row.Value.{Value}
use Rattle.px_rows.specs.Keys.{row_columns}
use Rattle.px_looks.proofs.Spelling.{fits_length, own_here, plain_here, reads_none, reads_row}
use Rattle.px_looks.proofs.rows.RowReaderReader.read.Goals as goal

read_key : (c : goal.After-way_told-1) → IsKeyOf (row_columns c.args.self.now.table.now) c.as_slice.result.now c.args.key.now
read_key c = subst (λ (columns : List KeyColumn). IsKeyOf columns c.as_slice.result.now c.args.key.now) c.args.self.now.keyed
    (subst (λ (values : List Value). IsKeyOf c.args.self.now.columns.now values c.args.key.now) (sym c.as_slice.ensures) c.in-Ok.ensures.ok)

pub row_at-requires-clause-count : goal.row_at-requires-clause-count
row_at-requires-clause-count c = fits_length (row_columns c.args.self.now.table.now) c.as_slice.result.now (read_key c).fits ∙ ap length (sym c.args.self.now.keyed) ∙ c.args.self.now.counted

pub row_at-requires-clause-own : goal.row_at-requires-clause-own
row_at-requires-clause-own c = own_here c.args.self.now.table.now c.args.self.now.point (value_at c.args.cells.now) c.args.key.now c.as_slice.result.now (read_key c) c.args.cells.now c.requires.own

pub row_at-requires-clause-plain : goal.row_at-requires-clause-plain
row_at-requires-clause-plain c = plain_here c.args.self.now.table.now c.args.self.now.point (value_at c.args.cells.now) c.args.key.now c.as_slice.result.now (read_key c) c.requires.admits

pub returns-in-Ok-None : goal.returns-in-Ok-None
returns-in-Ok-None c = record {
  shown = (let key = subst (λ (columns : List KeyColumn). IsKeyOf columns c.as_slice.result.now c.args.key.now) c.args.self.now.keyed
      (subst (λ (values : List Value). IsKeyOf c.args.self.now.columns.now values c.args.key.now) (sym c.as_slice.ensures) c.in-Ok.ensures.ok) in
      reads_none c.args.self.now.table.now c.args.self.now.point (value_at c.args.cells.now) c.args.key.now c.as_slice.result.now key (sym c.in-Ok-None.ensures ∙ c.in-Ok-None.field-0-is));
}

pub returns : goal.returns
returns c = record {
  shown = (let key = subst (λ (columns : List KeyColumn). IsKeyOf columns c.as_slice.result.now c.args.key.now) c.args.self.now.keyed
      (subst (λ (values : List Value). IsKeyOf c.args.self.now.columns.now values c.args.key.now) (sym c.as_slice.ensures) c.in-Ok.ensures.ok) in
      let is = c.of-key.ensures ∙ c.in_ok-from_slice-in-Ok-Some.ensures.items in
      reads_row c.args.self.now.table.now c.args.self.now.point (value_at c.args.cells.now) c.args.key.now c.as_slice.result.now key c.in-Ok-Some.row _ (sym c.in-Ok-Some.ensures ∙ c.in-Ok-Some.field-0-is) (ap (λ (k : List ℕ). Sure (record { key = k; row = c.in-Ok-Some.row })) is));
}
