-- The conjuncts of a condition, as what they say of a path's key and the rest of them.
use Rattle.std.proofs.Common.{◌≡◌, ◌↔◌, Bool, true, false, not, ◌&&◌, if◌then◌else◌, List, [], ◌∷◌, length, take, get_or, refl, sym, ap, subst, ◌∙◌, Option, Some, None}
use Rattle.std.specs.Option.{is_some}
use Rattle.std.proofs.lemmas.List.Elements.{All-head, All-tail, All-cons, All-nil}
use Rattle.px_values.specs.declared.row.Value.{Value}
use Rattle.px_values.specs.declared.row.Value.TheVariants.{Null}
use Rattle.px_expr.specs.Holds.{Selects}
use Rattle.px_expr.specs.declared.bound.Bound.{Bound, Or', And', Not'}
use Rattle.px_expr.specs.declared.bound.Bound.TheVariants as bounds
use Rattle.px_ranges.specs.Led.{FirstIsIn, IsLed}
use Rattle.px_ranges.specs.declared.leading.Edge.{Edge}
use Rattle.px_ranges.specs.declared.leading.Leading.{Leading}
use Rattle.px_paths.specs.declared.path.PathColumn.{PathColumn}
use Rattle.px_conjuncts.specs.Conjuncts.{all_true, told_by, equal_in, lower_in, upper_in}
use Rattle.px_conjuncts.specs.Paths.{or_first, first_told, without_first, span_between, led_by, leading_of, is_told, without_bounds, conjuncts_left}
use Rattle.px_conjuncts.proofs.TestSays.{equal_says, bound_says, Over, Under, Says}
use Rattle.px_paths.specs.Paths.{values_on}

pub each_true : (row : List Value) (b : Bound) (bs : List Bound) → all_true row (b ∷ bs) ↔ (Selects b row × all_true row bs)
each_true row b bs = (
  λ h. (All-head (λ b. Selects b row) b bs h, All-tail (λ b. Selects b row) b bs h),
  λ h. All-cons (λ b. Selects b row) b bs h.0 h.1,
)

pub none_true : (row : List Value) → all_true row []
none_true row = All-nil (λ b. Selects b row)

-- ---- equalities

says_equal : (column : PathColumn) (b : Bound) (row : List Value) (v : Value) → told_by (equal_in column) b ≡ Some v → Selects b row ↔ (get_or row column.place Null ≡ v)
says_equal column (bounds.Test t) row v e = equal_says column t row v e
says_equal column (And' shape parts) row v e = cc
says_equal column (Or' shape parts) row v e = cc
says_equal column (Not' shape part) row v e = cc

some_same : {A : Type 0} (x y : A) → Some x ≡ Some y → x ≡ y
some_same x y e = cc

pub first_equal : (column : PathColumn) (bs : List Bound) (row : List Value) (v : Value) → first_told (equal_in column) bs ≡ Some v → all_true row bs ↔ ((get_or row column.place Null ≡ v) × all_true row (without_first (equal_in column) bs))
first_equal column [] row v e = cc
first_equal column (b ∷ bs) row v e = by_told (λ later. first_equal column bs row v later) (told_by (equal_in column) b) refl
  where
    by_told : (first_told (equal_in column) bs ≡ Some v → all_true row bs ↔ ((get_or row column.place Null ≡ v) × all_true row (without_first (equal_in column) bs))) → (o : Option Value) → told_by (equal_in column) b ≡ o → all_true row (b ∷ bs) ↔ ((get_or row column.place Null ≡ v) × all_true row (without_first (equal_in column) (b ∷ bs)))
    by_told more (Some a) t =
        let is : a ≡ v = some_same a v (sym (ap (λ (o : Option Value). or_first o (first_told (equal_in column) bs)) t) ∙ e) in
        let left : without_first (equal_in column) (b ∷ bs) ≡ bs = ap (λ (o : Option Value). if is_some o then bs else b ∷ without_first (equal_in column) bs) t in
        let says = says_equal column b row a t in
        let each = each_true row b bs in
        subst (λ (r : List Bound). all_true row (b ∷ bs) ↔ ((get_or row column.place Null ≡ v) × all_true row r)) (sym left) (
          λ h. (let k = each.0 h in (says.0 k.0 ∙ is, k.1)),
          λ h. each.1 (says.1 (h.0 ∙ sym is), h.1),
        )
    by_told more None t =
        let later : first_told (equal_in column) bs ≡ Some v = sym (ap (λ (o : Option Value). or_first o (first_told (equal_in column) bs)) t) ∙ e in
        let left : without_first (equal_in column) (b ∷ bs) ≡ b ∷ without_first (equal_in column) bs = ap (λ (o : Option Value). if is_some o then bs else b ∷ without_first (equal_in column) bs) t in
        let rest = more later in
        let each = each_true row b bs in
        let kept = each_true row b (without_first (equal_in column) bs) in
        subst (λ (r : List Bound). all_true row (b ∷ bs) ↔ ((get_or row column.place Null ≡ v) × all_true row r)) (sym left) (
          λ h. (let k = each.0 h in let r = rest.0 k.1 in (r.0, kept.1 (k.0, r.1))),
          λ h. (let k = kept.0 h.1 in each.1 (k.0, rest.1 (h.0, k.1))),
        )

-- ---- bounds

says_bound : (column : PathColumn) (b : Bound) (row : List Value) → Says (told_by (lower_in column) b) (told_by (upper_in column) b) (get_or row column.place Null) (Selects b row)
says_bound column (bounds.Test t) row = bound_says column t row
says_bound column (And' shape parts) row = tt
says_bound column (Or' shape parts) row = tt
says_bound column (Not' shape part) row = tt

-- an edge, where one may still be
abbrev pick : Bool → Option Edge → Option Edge
pick true o = o
pick false o = None

abbrev Within : Option Edge → Option Edge → Value → Type 0
Within l u x = Over l x × Under u x

-- a statement goes where it is told
abbrev Kept : Bool → Type 0 → Type 0 → Type 0
Kept true S R = R
Kept false S R = S × R

step : (low high : Bool) (l u fl fu : Option Edge) (x : Value) (S R : Type 0) → Says l u x S → (S × (Within (pick (low && not (is_some l)) fl) (pick (high && not (is_some u)) fu) x × R)) ↔ (Within (pick low (or_first l fl)) (pick high (or_first u fu)) x × Kept (is_told low high l u) S R)
step true true None None fl fu x S R s = (λ h. (h.1.0, (h.0, h.1.1)), λ h. (h.1.0, (h.0, h.1.1)))
step true false None None fl fu x S R s = (λ h. (h.1.0, (h.0, h.1.1)), λ h. (h.1.0, (h.0, h.1.1)))
step false true None None fl fu x S R s = (λ h. (h.1.0, (h.0, h.1.1)), λ h. (h.1.0, (h.0, h.1.1)))
step false false None None fl fu x S R s = (λ h. (h.1.0, (h.0, h.1.1)), λ h. (h.1.0, (h.0, h.1.1)))
step true true (Some a) None fl fu x S R s = (λ h. (((s.0 h.0).0, h.1.0.1), h.1.1), λ h. (s.1 (h.0.0, tt), ((tt, h.0.1), h.1)))
step true false (Some a) None fl fu x S R s = (λ h. (((s.0 h.0).0, h.1.0.1), h.1.1), λ h. (s.1 (h.0.0, tt), ((tt, h.0.1), h.1)))
step false true (Some a) None fl fu x S R s = (λ h. (h.1.0, (h.0, h.1.1)), λ h. (h.1.0, (h.0, h.1.1)))
step false false (Some a) None fl fu x S R s = (λ h. (h.1.0, (h.0, h.1.1)), λ h. (h.1.0, (h.0, h.1.1)))
step true true None (Some b) fl fu x S R s = (λ h. ((h.1.0.0, (s.0 h.0).1), h.1.1), λ h. (s.1 (tt, h.0.1), ((h.0.0, tt), h.1)))
step true false None (Some b) fl fu x S R s = (λ h. (h.1.0, (h.0, h.1.1)), λ h. (h.1.0, (h.0, h.1.1)))
step false true None (Some b) fl fu x S R s = (λ h. ((h.1.0.0, (s.0 h.0).1), h.1.1), λ h. (s.1 (tt, h.0.1), ((h.0.0, tt), h.1)))
step false false None (Some b) fl fu x S R s = (λ h. (h.1.0, (h.0, h.1.1)), λ h. (h.1.0, (h.0, h.1.1)))
step true true (Some a) (Some b) fl fu x S R s = (λ h. (s.0 h.0, h.1.1), λ h. (s.1 h.0, ((tt, tt), h.1)))
step true false (Some a) (Some b) fl fu x S R s = (λ h. (((s.0 h.0).0, tt), (h.0, h.1.1)), λ h. (h.1.0, ((tt, tt), h.1.1)))
step false true (Some a) (Some b) fl fu x S R s = (λ h. ((tt, (s.0 h.0).1), (h.0, h.1.1)), λ h. (h.1.0, ((tt, tt), h.1.1)))
step false false (Some a) (Some b) fl fu x S R s = (λ h. ((tt, tt), (h.0, h.1.1)), λ h. (h.1.0, ((tt, tt), h.1.1)))

kept_true : (told : Bool) (row : List Value) (b : Bound) (bs : List Bound) → all_true row (if told then bs else b ∷ bs) ↔ Kept told (Selects b row) (all_true row bs)
kept_true true row b bs = (λ h. h, λ h. h)
kept_true false row b bs = each_true row b bs

pick_none : (low : Bool) → pick low None ≡ None
pick_none true = refl
pick_none false = refl

none_within : (low high : Bool) (x : Value) → Within (pick low None) (pick high None) x
none_within true true x = (tt, tt)
none_within true false x = (tt, tt)
none_within false true x = (tt, tt)
none_within false false x = (tt, tt)

pub bounds_told : (column : PathColumn) (low high : Bool) (bs : List Bound) (row : List Value) → all_true row bs ↔ (Within (pick low (first_told (lower_in column) bs)) (pick high (first_told (upper_in column) bs)) (get_or row column.place Null) × all_true row (without_bounds column low high bs))
bounds_told column low high [] row = (λ h. (none_within low high (get_or row column.place Null), h), λ h. none_true row)
bounds_told column low high (b ∷ bs) row =
    let x = get_or row column.place Null in
    let l = told_by (lower_in column) b in
    let u = told_by (upper_in column) b in
    let others = without_bounds column (low && not (is_some l)) (high && not (is_some u)) bs in
    let each = each_true row b bs in
    let rest = bounds_told column (low && not (is_some l)) (high && not (is_some u)) bs row in
    let one = step low high l u (first_told (lower_in column) bs) (first_told (upper_in column) bs) x (Selects b row) (all_true row others) (says_bound column b row) in
    let kept = kept_true (is_told low high l u) row b others in (
      λ h. (let k = each.0 h in let o = one.0 (k.0, rest.0 k.1) in (o.0, kept.1 o.1)),
      λ h. (let o = one.1 (h.0, kept.0 h.1) in each.1 (o.0, rest.1 o.1)),
    )

-- ---- a path

in_span : (l u : Option Edge) (x : Value) (xs : List Value) → Within l u x ↔ FirstIsIn (span_between l u) (x ∷ xs)
in_span None None x xs = (λ h. tt, λ h. (tt, tt))
in_span (Some a) None x xs = (λ h. (h.0.0, h.0.1, tt), λ h. ((h.0, h.1), tt))
in_span None (Some b) x xs = (λ h. (h.1.0, tt, h.1.1), λ h. (tt, (h.0, h.2)))
in_span (Some a) (Some b) x xs = (λ h. (h.0.0, h.0.1, h.1.1), λ h. ((h.0, h.1), (h.0, h.2)))

pub conjuncts_are : (path : List PathColumn) (bs : List Bound) (row : List Value) → all_true row bs ↔ (IsLed (leading_of path bs) (values_on path row) × all_true row (conjuncts_left path bs))
conjuncts_are [] bs row = (λ h. ((refl, tt), h), λ h. h.1)
conjuncts_are (p ∷ path) bs row = by_told (conjuncts_are path (without_first (equal_in p) bs) row) (first_told (equal_in p) bs) refl
  where
    heads : (x y : Value) (xs ys : List Value) → x ∷ xs ≡ y ∷ ys → x ≡ y
    heads x y xs ys e = cc

    tails : (x y : Value) (xs ys : List Value) → x ∷ xs ≡ y ∷ ys → xs ≡ ys
    tails x y xs ys e = cc

    by_told : (let left = without_first (equal_in p) bs in all_true row left ↔ (IsLed (leading_of path left) (values_on path row) × all_true row (conjuncts_left path left))) → (o : Option Value) → first_told (equal_in p) bs ≡ o → all_true row bs ↔ (IsLed (leading_of (p ∷ path) bs) (values_on (p ∷ path) row) × all_true row (conjuncts_left (p ∷ path) bs))
    by_told rest (Some v) t =
        let left = without_first (equal_in p) bs in
        let more = leading_of path left in
        let led : leading_of (p ∷ path) bs ≡ record { equal = v ∷ more.equal; span = more.span } = ap (λ (o : Option Value). led_by o more (span_between (first_told (lower_in p) bs) (first_told (upper_in p) bs))) t in
        let kept : conjuncts_left (p ∷ path) bs ≡ conjuncts_left path left = ap (λ (o : Option Value). if is_some o then conjuncts_left path left else without_bounds p true true bs) t in
        let first = first_equal p bs row v t in
        let n = length more.equal in
        subst (λ (l : Leading). all_true row bs ↔ (IsLed l (get_or row p.place Null ∷ values_on path row) × all_true row (conjuncts_left (p ∷ path) bs))) (sym led)
        (subst (λ (r : List Bound). all_true row bs ↔ (IsLed (record { equal = v ∷ more.equal; span = more.span }) (get_or row p.place Null ∷ values_on path row) × all_true row r)) (sym kept) (
          λ h. (let k = first.0 h in let r = rest.0 k.1 in
              ((ap (λ (y : Value). y ∷ take n (values_on path row)) k.0 ∙ ap (λ (ys : List Value). v ∷ ys) r.0.0, r.0.1), r.1)),
          λ h. first.1 (heads (get_or row p.place Null) v (take n (values_on path row)) more.equal h.0.0, rest.1 ((tails (get_or row p.place Null) v (take n (values_on path row)) more.equal h.0.0, h.0.1), h.1)),
        ))
    by_told rest None t =
        let left = without_first (equal_in p) bs in
        let more = leading_of path left in
        let s = span_between (first_told (lower_in p) bs) (first_told (upper_in p) bs) in
        let led : leading_of (p ∷ path) bs ≡ record { equal = []; span = s } = ap (λ (o : Option Value). led_by o more s) t in
        let kept : conjuncts_left (p ∷ path) bs ≡ without_bounds p true true bs = ap (λ (o : Option Value). if is_some o then conjuncts_left path left else without_bounds p true true bs) t in
        let told = bounds_told p true true bs row in
        let spans = in_span (first_told (lower_in p) bs) (first_told (upper_in p) bs) (get_or row p.place Null) (values_on path row) in
        subst (λ (l : Leading). all_true row bs ↔ (IsLed l (get_or row p.place Null ∷ values_on path row) × all_true row (conjuncts_left (p ∷ path) bs))) (sym led)
        (subst (λ (r : List Bound). all_true row bs ↔ (IsLed (record { equal = []; span = s }) (get_or row p.place Null ∷ values_on path row) × all_true row r)) (sym kept) (
          λ h. (let k = told.0 h in ((refl, spans.0 k.0), k.1)),
          λ h. told.1 (spans.1 h.0.1, h.1),
        ))
