use Rattle.std.proofs.Common.{◌≡◌, ◌<◌, ◌≤◌, ◌⊎◌, ◌∙◌, true, false, inl, inr, sym}
use Rattle.std.specs.Prelude.{option_map, vec_items}
use Rattle.std.specs.Option.{option_copied}
use Rattle.std.proofs.lemmas.Bool.{both_ways, cases_lt, lt-ltb, ltb-true}
use Rattle.px_reads.proofs.Bounds.{first_of_all, first_sorted}
use Rattle.px_reads.proofs.Ends.{end_of_both, within_later}
use Rattle.px_reads.proofs.Fronts.{rows_within}
use Rattle.px_reads.proofs.parts.Parts.first_rows.Goals as goal
use Rattle.px_reads.proofs.parts.Parts.first_rows.Goals.{then-newer, else-newer, then-older, else-older}

pub rows_in-newer_cells-requires : goal.rows_in-newer_cells-requires
rows_in-newer_cells-requires g c = first_sorted c.args.self.now.store.now.cells c.args.low.now (option_copied c.args.high) c.rows-newer.result.cells.now c.rows-newer.result.is_all c.rows-newer.ensures.rows

pub rows_in-older_cells-requires : goal.rows_in-older_cells-requires
rows_in-older_cells-requires g c = first_sorted c.args.self.now.older.now.cells c.args.low.now (option_copied c.args.high) c.rows-older.result.cells.now c.rows-older.result.is_all c.rows-older.ensures.rows

pub found-requires-clause-newer : goal.found-requires-clause-newer
found-requires-clause-newer g c =
    (c.rows_in-newer_cells.ensures.rows.ascending, rows_within c.rows-newer.result.cells.now c.rows_in-newer_cells.result.now c.args.low.now (option_copied c.lesser-end.result) c.rows_in-newer_cells.ensures.rows)

pub found-requires-clause-older : goal.found-requires-clause-older
found-requires-clause-older g c =
    (c.rows_in-older_cells.ensures.rows.ascending, rows_within c.rows-older.result.cells.now c.rows_in-older_cells.result.now c.args.low.now (option_copied c.lesser-end.result) c.rows_in-older_cells.ensures.rows)

pub returns-clause-rows : goal.returns-clause-rows
returns-clause-rows g c = λ lists tells have.
    let x = c.in_ok-rows.ensures.front lists tells have in
    let newer = c.rows-newer.result in
    let older = c.rows-older.result in
    let found = c.in_ok-rows.rows in
    let high = option_copied c.args.high in
    let newer_end = option_map vec_items c.in_ok-newer_end.newer_end in
    let older_end = option_map vec_items c.in_ok-older_end.older_end in
    let end = option_copied c.lesser-end.result in
    let end_is = end_of_both end (option_copied c.lesser.result) (option_copied c.bytes_of.result) (option_copied c.bytes_of-2.result) newer_end older_end high c.lesser-end.ensures c.lesser.ensures c.bytes_of.ensures c.bytes_of-2.ensures in
    first_of_all c.args.self.now.store.now.cells c.args.self.now.older.now.cells lists c.args.low.now high newer.cells.now newer.is_all c.rows-newer.ensures.rows newer_end c.in_ok-newer_end.ensures older.cells.now older.is_all c.rows-older.ensures.rows
    older_end c.in_ok-older_end.ensures c.rows_in-newer_cells.result.now c.rows_in-older_cells.result.now x.0 end end_is c.rows_in-newer_cells.ensures.rows c.rows_in-older_cells.ensures.rows x.1 c.args.most found.rows found.cells x.2 c.requires
    c.in_ok-rows.ensures.counted c.if-older.rows yes no_more
  where
    few : c.in_ok-rows.rows.is_all ≡ true → c.in_ok-rows.rows.rows < c.args.most
    few t = ltb-true c.in_ok-rows.rows.rows c.args.most (sym c.in_ok-rows.ensures.all ∙ t)

    many : c.in_ok-rows.rows.is_all ≡ false → c.args.most ≤ c.in_ok-rows.rows.rows
    many f = elim (cases_lt c.in_ok-rows.rows.rows c.args.most) [ inl lt ↦ absurd (both_ways c.in_ok-rows.rows.is_all f (c.in_ok-rows.ensures.all ∙ lt-ltb c.in_ok-rows.rows.rows c.args.most lt)) | inr le ↦ le ]

    yes : c.if-older.rows ≡ true → (c.rows-newer.result.is_all ≡ true) × (c.rows-older.result.is_all ≡ true) × (c.in_ok-rows.rows.rows < c.args.most)
    yes t = elim c.if-older.branch [
      | then-older w ↦ elim c.if-newer.branch [
        | then-newer v ↦ (v.if-newer.true, sym v.value-is ∙ w.if-older.true, few (sym w.rows-is ∙ t))
        | else-newer v ↦ absurd (both_ways c.if-newer.value (v.value-is ∙ v.if-newer.false) w.if-older.true)
      ]
      | else-older w ↦ absurd (both_ways c.if-older.rows (w.rows-is ∙ w.if-older.false) t)
    ]

    no_more : c.if-older.rows ≡ false → ((c.rows-newer.result.is_all ≡ false) ⊎ (c.rows-older.result.is_all ≡ false)) ⊎ (c.args.most ≤ c.in_ok-rows.rows.rows)
    no_more f = elim c.if-older.branch [
      | then-older w ↦ inr (many (sym w.rows-is ∙ f))
      | else-older w ↦ inl (elim c.if-newer.branch [
        | then-newer v ↦ inr (sym v.value-is ∙ w.if-older.false)
        | else-newer v ↦ inl v.if-newer.false
      ])
    ]

pub returns-clause-within : goal.returns-clause-within
returns-clause-within g c =
    within_later c.args.low.now (option_copied c.lesser-end.result) (option_copied c.lesser.result) (option_copied c.args.high) c.in_ok-rows.rows.cells c.lesser-end.ensures c.in_ok-rows.ensures.within
