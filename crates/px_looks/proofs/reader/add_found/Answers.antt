use Rattle.std.proofs.Common.{◌∙◌, ◌+◌, ◌-◌, ℕ, List, ◌∷◌, [], length, take, drop, ap, sym, subst, arith}
use Rattle.std.proofs.lemmas.List.{length-append}
use Rattle.px_region.proofs.Given.{rows_rise}
use Rattle.px_cells.specs.Contents.{value_at}
use Rattle.px_calls.specs.declared.query.FoundKey.{FoundKey}
use Rattle.px_looks.specs.Found.{RowContents, at_key}
use Rattle.px_looks.specs.inner.Among.{FoundAmong}
use Rattle.px_looks.proofs.Among.{begins_so, found_more, found_nothing, key_there, read_there, row_contents, rows_one, shown_none, shown_some, there_read}
use Rattle.px_looks.proofs.RowCells.{row_is_own}
use Rattle.px_looks.proofs.RowPart.{part_list, row_part}
use Rattle.px_looks.proofs.reader.add_found.Goals as goal

pub read-requires-clause-own : goal.read-requires-clause-own
read-requires-clause-own g c =
    let is = c.key-key.ensures ∙ sym (key_there c.args.cells.now c.args.i c.index-cells-i.result (let o = c.requires.row.on in let w = c.requires.row.within in omega arith) c.index-cells-i.is) in
    row_is_own c.args.cells.now (take (c.args.end - c.args.i) (take (length c.args.cells.now - c.args.i) (drop c.args.i c.args.cells.now))) c.key-key.result.now (row_part c.args.cells.now c.args.i c.args.end c.key-key.result.now c.requires.list.ascending c.requires.begins c.requires.row is)

pub read-requires-clause-list : goal.read-requires-clause-list
read-requires-clause-list g c =
    let is = c.key-key.ensures ∙ sym (key_there c.args.cells.now c.args.i c.index-cells-i.result (let o = c.requires.row.on in let w = c.requires.row.within in omega arith) c.index-cells-i.is) in
    part_list c.args.cells.now c.args.i c.args.end c.key-key.result.now c.requires.list.ascending c.requires.begins c.requires.row is c.requires.list

pub read-requires-clause-admits : goal.read-requires-clause-admits
read-requires-clause-admits g c =
    let is = c.key-key.ensures ∙ sym (key_there c.args.cells.now c.args.i c.index-cells-i.result (let o = c.requires.row.on in let w = c.requires.row.within in omega arith) c.index-cells-i.is) in
    subst (λ (h : RowContents). g.R.Reader.admits c.args.reader.now c.key-key.result.now h) (sym (row_contents c.args.cells.now (take (c.args.end - c.args.i) (take (length c.args.cells.now - c.args.i) (drop c.args.i c.args.cells.now))) c.key-key.result.now (row_part c.args.cells.now c.args.i c.args.end c.key-key.result.now c.requires.list.ascending c.requires.begins c.requires.row is)))
    (subst (λ (k : List ℕ). g.R.Reader.admits c.args.reader.now k (at_key (value_at c.args.cells.now) k)) (sym is) (c.requires.admits c.args.i (let o = c.requires.row.on in let w = c.requires.row.within in omega arith)))

pub returns-in-Ok-None-clause-found : goal.returns-in-Ok-None-clause-found
returns-in-Ok-None-clause-found g c =
    let is = c.key-key.ensures ∙ sym (key_there c.args.cells.now c.args.i c.index-cells-i.result (let o = c.requires.row.on in let w = c.requires.row.within in omega arith) c.index-cells-i.is) in
    found_nothing (g.R.Reader.shows c.args.reader.now) c.args.cells.now c.args.i c.args.found.now.items
    (λ f sh. shown_none (g.R.Reader.shows c.args.reader.now c.key-key.result.now (at_key (value_at (take (c.args.end - c.args.i) (take (length c.args.cells.now - c.args.i) (drop c.args.i c.args.cells.now)))) c.key-key.result.now)) c.in-Ok-None.field-0 c.in-Ok-None.field-0-is c.in-Ok-None.ensures.shown f
    (there_read (g.R.Reader.shows c.args.reader.now) c.args.cells.now c.args.i c.key-key.result.now (take (c.args.end - c.args.i) (take (length c.args.cells.now - c.args.i) (drop c.args.i c.args.cells.now))) is (row_part c.args.cells.now c.args.i c.args.end c.key-key.result.now c.requires.list.ascending c.requires.begins c.requires.row is) f sh))

pub returns-in-Ok-None-clause-few : goal.returns-in-Ok-None-clause-few
returns-in-Ok-None-clause-few g c = λ few. (let r = rows_rise c.args.cells.now c.args.i (c.args.i + 1) (omega arith) in omega arith)

pub returns-in_ok-push-in-Ok-Some-clause-found : goal.returns-in_ok-push-in-Ok-Some-clause-found
returns-in_ok-push-in-Ok-Some-clause-found g c = λ found.
    let is = c.key-key.ensures ∙ sym (key_there c.args.cells.now c.args.i c.index-cells-i.result (let o = c.requires.row.on in let w = c.requires.row.within in omega arith) c.index-cells-i.is) in
    let shows = g.R.Reader.shows c.args.reader.now in
    let here = shown_some (shows c.key-key.result.now (at_key (value_at (take (c.args.end - c.args.i) (take (length c.args.cells.now - c.args.i) (drop c.args.i c.args.cells.now)))) c.key-key.result.now)) c.in-Ok-Some.field-0 c.in-Ok-Some.shown c.in-Ok-Some.field-0-is c.in-Ok-Some.ensures.shown in
    let there = read_there shows c.args.cells.now c.args.i c.key-key.result.now (take (c.args.end - c.args.i) (take (length c.args.cells.now - c.args.i) (drop c.args.i c.args.cells.now))) is (row_part c.args.cells.now c.args.i c.args.end c.key-key.result.now c.requires.list.ascending c.requires.begins c.requires.row is) c.in-Ok-Some.shown here in
    subst (λ (l : List FoundKey). FoundAmong shows c.args.cells.now (c.args.i + 1) l) (sym c.in_ok-push-in-Ok-Some.ensures.items)
    (found_more shows c.args.cells.now c.args.i c.args.found.now.items c.in-Ok-Some.shown c.requires.list.ascending (let o = c.requires.row.on in let w = c.requires.row.within in omega arith) (begins_so c.args.cells.now c.args.i c.requires.begins)
    (c.law.ensures.keyed _ _ _ there) there (λ f sh. c.law.ensures.once _ _ _ _ sh there) found)

pub returns-in_ok-push-in-Ok-Some-clause-few : goal.returns-in_ok-push-in-Ok-Some-clause-few
returns-in_ok-push-in-Ok-Some-clause-few g c = λ few.
    let r = rows_one c.args.cells.now c.args.i c.requires.begins in
    let l = ap length c.in_ok-push-in-Ok-Some.ensures.items ∙ length-append c.args.found.now.items (c.in-Ok-Some.shown ∷ []) in
    omega arith
