-- The change of a row among those that are held.
use Rattle.std.proofs.Common.{◌≡◌, ℕ, zero, suc, Bool, true, false, ◌<◌, ◌+◌, ◌||◌, ◌++◌, List, [], ◌∷◌, length, take, set, get_or, refl, sym, ◌∙◌, ap, subst, add-one, Some, Result, Ok, Err}
use Rattle.std.specs.List.{slice_get}
use Rattle.std.proofs.lemmas.Option.{get_or_from_slice_get, slice_get-get_or}
use Rattle.std.specs.Ordering.{is_eq}
use Rattle.std.specs.Prelude.{OnOk}
use Rattle.px_values.specs.declared.change.Change.{Change}
use Rattle.px_values.specs.declared.change.What.{What}
use Rattle.px_values.specs.declared.row.Value.{Value}
use Rattle.px_values.specs.Order.{row_order}
use Rattle.px_values.specs.States.{Shape}
use Rattle.px_trail.specs.Batches.{has, rows_of}
use Rattle.px_held.specs.Held.{IsPlace, with_change}
use Rattle.px_held.specs.Merged.{merged}

neither : (a b : Bool) → (a || b) ≡ false → (a ≡ false) × (b ≡ false)
neither true b e = absurd cc
neither false b e = (refl, e)

parts : (h : Change) (held : List Change) (row : List Value) → has (rows_of (h ∷ held)) row ≡ false → (is_eq (row_order h.row row) ≡ false) × (has (rows_of held) row ≡ false)
unfolding has
parts h held row none = neither (is_eq (row_order h.row row)) (has (rows_of held) row) none

pub added-behind : (shape : Shape) (held : List Change) (change : Change) → has (rows_of held) change.row ≡ false → with_change shape held change ≡ held ++ change ∷ []
unfolding with_change
added-behind shape [] change none = refl
added-behind shape (h ∷ held) change none =
    let both = parts h held change.row none in
    rw both.0 (ap (λ l. h ∷ l) (added-behind shape held change both.1))

pub merged-there : (shape : Shape) (held : List Change) (change : Change) (i : ℕ) (x : Change) → has (rows_of (take i held)) change.row ≡ false → slice_get held i ≡ Some x → is_eq (row_order x.row change.row) ≡ true
    → with_change shape held change ≡ set held i (record { row = x.row; what = merged shape x.what change.what })
unfolding with_change
merged-there shape [] change i x before at same = absurd cc
merged-there shape (h ∷ held) change zero x before at same =
    let e : h ≡ x = cc in
    let here : is_eq (row_order h.row change.row) ≡ true = ap (λ (y : Change). is_eq (row_order y.row change.row)) e ∙ same in
    rw here (ap (λ (y : Change). record { row = y.row; what = merged shape y.what change.what } ∷ held) e)
merged-there shape (h ∷ held) change (suc i) x before at same =
    let both = parts h (take i held) change.row before in
    rw both.0 (ap (λ l. h ∷ l) (merged-there shape held change i x both.1 at same))

pub none-yet : (row : List Value) → has [] row ≡ false
unfolding has
none-yet row = refl

one-row : (h : Change) (row : List Value) (rest : List (List Value)) → is_eq (row_order h.row row) ≡ false → has rest row ≡ false → has (h.row ∷ rest) row ≡ false
unfolding has
one-row h row rest other none = rw other none

-- none of one change more
none-behind : (held : List Change) (i : ℕ) (x : Change) (row : List Value) → slice_get held i ≡ Some x → has (rows_of (take i held)) row ≡ false → is_eq (row_order x.row row) ≡ false → has (rows_of (take (suc i) held)) row ≡ false
none-behind [] i x row at before other = absurd cc
none-behind (h ∷ held) zero x row at before other = let e : x ≡ h = cc in one-row h row [] (subst (λ (y : Change). is_eq (row_order y.row row) ≡ false) e other) (none-yet row)
none-behind (h ∷ held) (suc i) x row at before other =
    let both = parts h (take i held) row before in
    one-row h row (rows_of (take (suc i) held)) both.0 (none-behind held i x row at both.1 other)

pub none-more : (held : List Change) (i : ℕ) (x : Change) (row : List Value) → i < length held → x ≡ get_or held i x → has (rows_of (take i held)) row ≡ false → is_eq (row_order x.row row) ≡ false → has (rows_of (take (i + 1) held)) row ≡ false
none-more held i x row within is before other =
    ap (λ n. has (rows_of (take n held)) row) (add-one i) ∙ none-behind held i x row (slice_get-get_or held i x within ∙ ap Some (sym is)) before other

pub place-is : (held : List Change) (i : ℕ) (x : Change) (row : List Value) → i < length held → x ≡ get_or held i x → has (rows_of (take i held)) row ≡ false → is_eq (row_order x.row row) ≡ true → IsPlace held row i
place-is held i x row within is before same = record {
  within = within;
  before = before;
  here = λ y at. subst (λ (z : Change). is_eq (row_order z.row row) ≡ true) (is ∙ get_or_from_slice_get held i y x at) same;
}

-- a change that was merged in its place
pub held-there : (shape : Shape) (items held : List Change) (row : List Value) (change : Change) (i : ℕ) (x y : Change) (what : What) → held ≡ items → row ≡ change.row → IsPlace held row i
    → x ≡ get_or items i x → y ≡ get_or items i y → what ≡ merged shape x.what change.what → set items i (record { row = y.row; what = what }) ≡ with_change shape items change
held-there shape items held row change i x y what h r place is-x is-y made =
    let within : i < length items = subst (λ (l : List Change). i < length l) h place.within in
    let at : slice_get items i ≡ Some x = slice_get-get_or items i x within ∙ ap Some (sym is-x) in
    let same : y ≡ x = is-y ∙ get_or_from_slice_get items i x y at in
    let before : has (rows_of (take i items)) change.row ≡ false = rw (h, r) at place.before in
    let here : is_eq (row_order x.row change.row) ≡ true = rw r at (place.here x (ap (λ l. slice_get l i) h ∙ at)) in
    ap (λ (z : Change). set items i (record { row = z.row; what = what })) same
    ∙ (ap (λ w. set items i (record { row = x.row; what = w })) made ∙ sym (merged-there shape items change i x before at here))

-- a change that was put behind the others
pub held-behind : {A E : Type 0} (shape : Shape) (items held : List Change) (row : List Value) (change : Change) (new : List Change) (r : Result A E) → held ≡ items → row ≡ change.row → has (rows_of held) row ≡ false
    → OnOk r (new ≡ items ++ change ∷ []) → OnOk r (new ≡ with_change shape items change)
held-behind shape items held row change new (Ok u) h rr none made = let before : has (rows_of items) change.row ≡ false = rw (h, rr) at none in made ∙ sym (added-behind shape items change before)
held-behind shape items held row change new (Err e) h rr none made = tt
