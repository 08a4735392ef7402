use Rattle.std.proofs.Common.{◌≡◌, ◌<◌, ◌∙◌, ℕ, List, length, ap, sym, subst, Err}
use Rattle.std.specs.List.{All}
use Rattle.std.proofs.lemmas.List.{length-map}
use Rattle.px_values.specs.declared.row.Value.{Value}
use Rattle.px_keys.specs.Spelling.{Fits, columns_of, spelled, values_of}
use Rattle.px_keys.specs.declared.fault.KeyFault.{KeyFault}
use Rattle.px_keys.specs.declared.parts.KeyColumn.{KeyColumn}
use Rattle.px_keys.specs.declared.parts.Part.{Part}
use Rattle.px_rows.specs.Keys.{key_column, row_columns}
use Rattle.px_rows.proofs.KeysBack.{row_key-fits}
use Rattle.px_rows.proofs.Parts.{fits_length, parts_stand, CanStand}
use Rattle.px_rows.proofs.key.key_of.Goals as goal

pub parts_of-requires-clause-count : goal.parts_of-requires-clause-count
parts_of-requires-clause-count c = fits_length (row_columns c.args.table.now) c.args.row.now c.requires.fits ∙ length-map c.args.table.now.key (key_column c.args.table.now.columns)

pub encode_key-requires : goal.encode_key-requires
encode_key-requires c =
    let parts = c.in_ok-parts.parts.items in
    let fits : Fits (columns_of parts) (values_of parts) = subst (λ (x : List KeyColumn). Fits x (values_of parts)) (sym c.in_ok-parts.ensures.columns) (subst (λ (x : List Value). Fits (row_columns c.args.table.now) x) (sym c.in_ok-parts.ensures.values) c.requires.fits) in
    subst (All CanStand) (sym c.deref.ensures.value) (parts_stand parts fits)

pub returns-in-Ok-clause-ok : goal.returns-in-Ok-clause-ok
returns-in-Ok-clause-ok c =
    let is = c.in-Ok.ensures.ok in
    let parts = c.deref.result.now in
    let bytes : spelled (columns_of parts) (values_of parts) ≡ spelled (row_columns c.args.table.now) c.args.row.now =
    ap (λ (x : List Part). spelled (columns_of x) (values_of x)) c.deref.ensures.value ∙ (λ i. spelled (c.in_ok-parts.ensures.columns i) (c.in_ok-parts.ensures.values i)) in
    (sym is.spells ∙ bytes ∙ sym (row_key-fits c.args.table.now c.args.row.now c.requires.fits), is.short)

pub returns-in-Err-TooLong : goal.returns-in-Err-TooLong
returns-in-Err-TooLong c =
    let parts = c.deref.result.now in
    let is : c.encode_key.result ≡ Err KeyFault.TooLong = c.in-Err-TooLong.is ∙ ap Err c.in-Err-TooLong.field-0-is in
    let long = (c.encode_key.ensures.too_long.0 is).1 in
    let bytes : spelled (columns_of parts) (values_of parts) ≡ spelled (row_columns c.args.table.now) c.args.row.now =
    ap (λ (x : List Part). spelled (columns_of x) (values_of x)) c.deref.ensures.value ∙ (λ i. spelled (c.in_ok-parts.ensures.columns i) (c.in_ok-parts.ensures.values i)) in
    let whole = bytes ∙ sym (row_key-fits c.args.table.now c.args.row.now c.requires.fits) in
    record { ok = tt; too_long = λ e. subst (λ (x : List ℕ). 1024 < length x) whole long; not_a_row = λ place e. cc }
