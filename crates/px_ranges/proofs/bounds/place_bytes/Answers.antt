use Rattle.std.proofs.Common.{◌≡◌, ◌++◌, ◌+◌, ◌<◌, ◌↔◌, ◌∙◌, ℕ, List, Some, Option, ap, arith, length, length-append, subst, sym, take}
use Rattle.std.specs.List.{All}
use Rattle.std.proofs.lemmas.Result.{IfOk-weaker}
use Rattle.std.specs.Option.{option_copied, option_to_list}
use Rattle.px_keys.specs.Range.{IsBetween, IsPrefix, bound_bytes}
use Rattle.px_keys.specs.Spelling.{IsNullFixed, PartFits, columns_of, spelled, values_of}
use Rattle.px_keys.specs.declared.parts.Part.{Part}
use Rattle.px_keys.specs.declared.parts.KeyColumn.{KeyColumn}
use Rattle.px_values.specs.declared.row.Value.{Value}
use Rattle.px_ranges.specs.inner.Cuts.{FitsFirst, IsBelow, StandsBefore, behind_values, cut_of}
use Rattle.px_ranges.proofs.CutBytes.{bytes_before, bytes_behind}
use Rattle.px_ranges.proofs.Places.{first_enough, first_is_bytes, parts_fit, front_spelled}
use Rattle.px_ranges.proofs.bounds.place_bytes.Goals as goal

pub leading_parts-requires : goal.leading_parts-requires
leading_parts-requires c =
    let next = option_to_list (option_copied c.args.place.next) in
    let l = first_enough c.args.columns.now (c.args.equal.now ++ next) c.requires in
    omega (arith, length-append c.args.equal.now next)

pub spell_front-front-requires : goal.spell_front-front-requires
spell_front-front-requires c =
    rw c.as_slice.ensures.value (parts_fit c.in_ok-parts.parts.items c.args.columns.now c.args.equal.now (option_to_list (option_copied c.args.place.next)) c.requires c.in_ok-parts.ensures.values c.in_ok-parts.ensures.columns)

pub returns-then-not-place : goal.returns-then-not-place
returns-then-not-place c =
    let e = c.in_ok-front.ensures ∙ ap (λ (ps : List Part). spelled (columns_of ps) (values_of ps)) c.as_slice.ensures.value ∙ front_spelled c.in_ok-parts.parts.items c.args.columns.now c.args.equal.now (option_to_list (option_copied c.args.place.next)) c.in_ok-parts.ensures.values c.in_ok-parts.ensures.columns in
    λ key small. bytes_before c.args.columns.now (c.args.equal.now ++ option_to_list (option_copied c.args.place.next)) c.args.place.behind key c.in_ok-front.front.items e c.if-not-place.true

pub returns : goal.returns
returns c =
    let next = option_to_list (option_copied c.args.place.next) in
    let vs = c.args.equal.now ++ next in
    let e = c.in_ok-front.ensures ∙ ap (λ (ps : List Part). spelled (columns_of ps) (values_of ps)) c.as_slice.ensures.value ∙ front_spelled c.in_ok-parts.parts.items c.args.columns.now c.args.equal.now next c.in_ok-parts.ensures.values c.in_ok-parts.ensures.columns in
    let small = subst (λ (x : List ℕ). All (λ b. b < 256) x) (sym e) (first_is_bytes c.args.columns.now vs c.requires) in
    IfOk-weaker c.end_of_range-end.result (λ high. (bytes : List ℕ) → All (λ b. b < 256) bytes → (IsBetween c.as_slice-2.result.now (bound_bytes high) bytes ↔ IsPrefix c.as_slice-2.result.now bytes)) (λ high. (key : List ℕ) → All (λ b. b < 256) key → (IsBelow key (bound_bytes high) ↔ StandsBefore c.args.columns.now key (behind_values c.args.equal.now (cut_of c.args.place))))
    (λ high range. bytes_behind c.args.columns.now vs c.args.place.behind c.in_ok-front.front.items (bound_bytes high) e c.if-not-place.false small (subst (λ (x : List ℕ). (bytes : List ℕ) → All (λ b. b < 256) bytes → (IsBetween x (bound_bytes high) bytes ↔ IsPrefix x bytes)) c.as_slice-2.ensures.value range))
    c.end_of_range-end.ensures
