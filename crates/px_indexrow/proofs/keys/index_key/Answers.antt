use Rattle.std.proofs.Common.{◌≡◌, ◌<◌, ◌∙◌, ℕ, List, length, map, ap, sym, subst, Some, Err}
use Rattle.std.specs.List.{All}
use Rattle.px_values.specs.declared.row.Value.{Value}
use Rattle.px_keys.specs.Spelling.{Fits, columns_of, spelled, values_of}
use Rattle.px_keys.specs.declared.fault.KeyFault.{KeyFault}
use Rattle.px_keys.specs.declared.parts.KeyColumn.{KeyColumn}
use Rattle.px_keys.specs.declared.parts.Part.{Part}
use Rattle.px_rows.proofs.Parts.{parts_stand, CanStand}
use Rattle.px_indexrow.specs.Form.{index_column, index_columns, index_places, index_values, value_of_column}
use Rattle.px_indexrow.proofs.KeysHeld.{key_is, places_within, row_count, values_fit}
use Rattle.px_indexrow.proofs.keys.index_key.Goals as goal

pub parts_of-requires-clause-within : goal.parts_of-requires-clause-within
parts_of-requires-clause-within c = subst (All (λ p. p.column < length c.args.table.now.columns)) (sym (c.deref.ensures.value ∙ c.in_ok-places.ensures)) (places_within c.args.table.now c.args.index.now c.requires.table c.requires.index)

pub parts_of-requires-clause-count : goal.parts_of-requires-clause-count
parts_of-requires-clause-count c = row_count c.args.table.now c.args.row.now c.requires.fits

pub encode_key-requires : goal.encode_key-requires
encode_key-requires c =
    let parts = c.in_ok-parts.parts.items in
    let t = c.args.table.now in
    let places : c.deref.result.now ≡ index_places t c.args.index.now = c.deref.ensures.value ∙ c.in_ok-places.ensures in
    let columns : columns_of parts ≡ index_columns t c.args.index.now = c.in_ok-parts.ensures.columns ∙ ap (map (index_column t)) places in
    let values : values_of parts ≡ index_values t c.args.index.now c.args.row.now c.args.state.now = c.in_ok-parts.ensures.values ∙ ap (map (λ p. value_of_column t.key c.args.row.now c.args.state.now p.column)) places in
    let fits : Fits (columns_of parts) (values_of parts) = subst (λ (x : List KeyColumn). Fits x (values_of parts)) (sym columns) (subst (λ (x : List Value). Fits (index_columns t c.args.index.now) x) (sym values) (values_fit t c.args.index.now c.args.row.now c.args.state.now c.requires.table c.requires.index c.requires.fits c.requires.state)) in
    subst (All CanStand) (sym c.deref-2.ensures.value) (parts_stand parts fits)

pub returns-in-Ok-clause-ok : goal.returns-in-Ok-clause-ok
returns-in-Ok-clause-ok c =
    let is = c.in-Ok.ensures.ok in
    let t = c.args.table.now in
    let places : c.deref.result.now ≡ index_places t c.args.index.now = c.deref.ensures.value ∙ c.in_ok-places.ensures in
    let columns : columns_of c.in_ok-parts.parts.items ≡ index_columns t c.args.index.now = c.in_ok-parts.ensures.columns ∙ ap (map (index_column t)) places in
    let values : values_of c.in_ok-parts.parts.items ≡ index_values t c.args.index.now c.args.row.now c.args.state.now = c.in_ok-parts.ensures.values ∙ ap (map (λ p. value_of_column t.key c.args.row.now c.args.state.now p.column)) places in
    let bytes : spelled (columns_of c.deref-2.result.now) (values_of c.deref-2.result.now) ≡ spelled (index_columns t c.args.index.now) (index_values t c.args.index.now c.args.row.now c.args.state.now) =
    ap (λ (x : List Part). spelled (columns_of x) (values_of x)) c.deref-2.ensures.value ∙ (λ i. spelled (columns i) (values i)) in
    (ap Some (sym is.spells ∙ bytes) ∙ sym (key_is t c.args.index.now c.args.row.now c.args.state.now c.requires.table c.requires.index c.requires.fits c.requires.state), is.short)

pub returns-in-Err-TooLong : goal.returns-in-Err-TooLong
returns-in-Err-TooLong c =
    let t = c.args.table.now in
    let is : c.encode_key.result ≡ Err KeyFault.TooLong = c.in-Err-TooLong.is ∙ ap Err c.in-Err-TooLong.field-0-is in
    let long = (c.encode_key.ensures.too_long.0 is).1 in
    let places : c.deref.result.now ≡ index_places t c.args.index.now = c.deref.ensures.value ∙ c.in_ok-places.ensures in
    let columns : columns_of c.in_ok-parts.parts.items ≡ index_columns t c.args.index.now = c.in_ok-parts.ensures.columns ∙ ap (map (index_column t)) places in
    let values : values_of c.in_ok-parts.parts.items ≡ index_values t c.args.index.now c.args.row.now c.args.state.now = c.in_ok-parts.ensures.values ∙ ap (map (λ p. value_of_column t.key c.args.row.now c.args.state.now p.column)) places in
    let bytes : spelled (columns_of c.deref-2.result.now) (values_of c.deref-2.result.now) ≡ spelled (index_columns t c.args.index.now) (index_values t c.args.index.now c.args.row.now c.args.state.now) =
    ap (λ (x : List Part). spelled (columns_of x) (values_of x)) c.deref-2.ensures.value ∙ (λ i. spelled (columns i) (values i)) in
    record { ok = tt; too_long = λ e. subst (λ (x : List ℕ). 1024 < length x) bytes long; not_a_row = λ place e. cc }
