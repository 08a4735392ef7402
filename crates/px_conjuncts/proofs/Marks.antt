-- Conjuncts with marks.
use Rattle.std.proofs.Common.{◌≡◌, ◌⊎◌, ◌<◌, inl, inr, ℕ, zero, suc, Bool, true, false, not, ◌&&◌, if◌then◌else◌, List, [], ◌∷◌, ◌++◌, length, take, drop, get_or, refl, sym, ap, ◌∙◌, Option, Some, None, replicate, arith}
use Rattle.std.proofs.Math.ListN.{set}
use Rattle.std.proofs.lemmas.List.{append-nil}
use Rattle.std.specs.Option.{is_some}
use Rattle.px_values.specs.declared.column.ColType.TheVariants.{TinyInt}
use Rattle.px_values.specs.declared.order.Direction.TheVariants.{Ascending}
use Rattle.px_values.specs.declared.row.Value.{Value}
use Rattle.px_expr.specs.declared.bound.Bound.{Bound}
use Rattle.px_expr.specs.declared.bound.Test.{Test}
use Rattle.px_ranges.specs.declared.leading.Edge.{Edge}
use Rattle.px_ranges.specs.declared.leading.Span.{Span}
use Rattle.px_ranges.specs.declared.leading.Leading.{Leading}
use Rattle.px_paths.specs.declared.path.PathColumn.{PathColumn}
use Rattle.px_conjuncts.specs.Conjuncts.{told_by, equal_in, lower_in, upper_in}
use Rattle.px_conjuncts.specs.Paths.{or_first, first_told, without_first, span_between, led_by, leading_of, is_told, without_bounds, conjuncts_left, unmarked}

-- ---- the first that tells it

-- a conjunct with a mark, or that doesn't tell it
abbrev pub IsPassed : {A : Type 0} → (Test → Option A) → List Bound → List Bool → ℕ → Type 0
IsPassed f cs ms k = (d : Bound) → (get_or ms k false ≡ true) ⊎ (told_by f (get_or cs k d) ≡ None)

tells_not : {A : Type 0} (f : Test → Option A) (c : Bound) → (◌≡◌ {A = Bool} false true) ⊎ (told_by f c ≡ None) → told_by f c ≡ None
tells_not f c h = elim h [ inl e ↦ cc | inr e ↦ e ]

pub first_none : {A : Type 0} (f : Test → Option A) (cs : List Bound) (ms : List Bool) → length ms ≡ length cs → ((k : ℕ) → k < length cs → IsPassed f cs ms k) → (first_told f (unmarked cs ms) ≡ None) × (unmarked cs ms ≡ without_first f (unmarked cs ms))
first_none f [] ms l h = (refl, refl)
first_none f (c ∷ cs) [] l h = absurd (omega arith)
first_none f (c ∷ cs) (true ∷ ms) l h = first_none f cs ms (omega arith) (λ k b. h (suc k) (omega arith))
first_none {A} f (c ∷ cs) (false ∷ ms) l h =
    let none = tells_not f c (h zero (omega arith) c) in
    let rest = first_none f cs ms (omega arith) (λ k b. h (suc k) (omega arith)) in
    let left = unmarked cs ms in (
      ap (λ (o : Option A). or_first o (first_told f left)) none ∙ rest.0,
      ap (λ (bs : List Bound). c ∷ bs) rest.1 ∙ sym (ap (λ (o : Option A). if is_some o then left else c ∷ without_first f left) none),
    )

pub first_some : {A : Type 0} (f : Test → Option A) (cs : List Bound) (ms : List Bool) (n : ℕ) (v : A) (d : Bound) → length ms ≡ length cs → n < length cs → get_or ms n false ≡ false → told_by f (get_or cs n d) ≡ Some v → ((k : ℕ) → k < n → IsPassed f cs ms k) → (first_told f (unmarked cs ms) ≡ Some v) × (unmarked cs (set ms n true) ≡ without_first f (unmarked cs ms))
first_some f [] ms n v d l b m t h = absurd (omega arith)
first_some f (c ∷ cs) [] n v d l b m t h = absurd (omega arith)
first_some f (c ∷ cs) (true ∷ ms) zero v d l b m t h = cc
first_some {A} f (c ∷ cs) (false ∷ ms) zero v d l b m t h =
    let left = unmarked cs ms in (
      ap (λ (o : Option A). or_first o (first_told f left)) t,
      sym (ap (λ (o : Option A). if is_some o then left else c ∷ without_first f left) t),
    )
first_some f (c ∷ cs) (true ∷ ms) (suc n) v d l b m t h = first_some f cs ms n v d (omega arith) (omega arith) m t (λ k b. h (suc k) (omega arith))
first_some {A} f (c ∷ cs) (false ∷ ms) (suc n) v d l b m t h =
    let none = tells_not f c (h zero (omega arith) c) in
    let rest = first_some f cs ms n v d (omega arith) (omega arith) m t (λ k b. h (suc k) (omega arith)) in
    let left = unmarked cs ms in (
      ap (λ (o : Option A). or_first o (first_told f left)) none ∙ rest.0,
      ap (λ (bs : List Bound). c ∷ bs) rest.1 ∙ sym (ap (λ (o : Option A). if is_some o then left else c ∷ without_first f left) none),
    )

-- ---- bounds: the marks behind all conjuncts

abbrev pub marks_after : PathColumn → Bool → Bool → List Bound → List Bool → List Bool
marks_after p low high (c ∷ cs) (true ∷ ms) = true ∷ marks_after p low high cs ms
marks_after p low high (c ∷ cs) (false ∷ ms) =
    let l = told_by (lower_in p) c in
    let u = told_by (upper_in p) c in is_told low high l u ∷ marks_after p (low && not (is_some l)) (high && not (is_some u)) cs ms
marks_after p low high cs ms = ms

keep : (t : Bool) (c : Bound) (cs : List Bound) (ms : List Bool) → unmarked (c ∷ cs) (t ∷ ms) ≡ (if t then unmarked cs ms else c ∷ unmarked cs ms)
keep true c cs ms = refl
keep false c cs ms = refl

pub marks_leave : (p : PathColumn) (low high : Bool) (cs : List Bound) (ms : List Bool) → length ms ≡ length cs → unmarked cs (marks_after p low high cs ms) ≡ without_bounds p low high (unmarked cs ms)
marks_leave p low high [] ms l = refl
marks_leave p low high (c ∷ cs) [] l = absurd (omega arith)
marks_leave p low high (c ∷ cs) (true ∷ ms) l = marks_leave p low high cs ms (omega arith)
marks_leave p low high (c ∷ cs) (false ∷ ms) h =
    let l = told_by (lower_in p) c in
    let u = told_by (upper_in p) c in
    let t = is_told low high l u in
    let rest = marks_leave p (low && not (is_some l)) (high && not (is_some u)) cs ms (omega arith) in
    keep t c cs (marks_after p (low && not (is_some l)) (high && not (is_some u)) cs ms) ∙ ap (λ (bs : List Bound). if t then bs else c ∷ bs) rest

-- how far the loop has come
pub record Bounded (p : PathColumn) (cs : List Bound) (old new : List Bool) (lower upper : Option Edge) (i : ℕ) : Type 0 where
  pub count : length new ≡ length cs
  pub marks : marks_after p true true cs old ≡ take i new ++ marks_after p (not (is_some lower)) (not (is_some upper)) (drop i cs) (drop i new)
  pub lower_is : first_told (lower_in p) (unmarked cs old) ≡ or_first lower (first_told (lower_in p) (unmarked (drop i cs) (drop i new)))
  pub upper_is : first_told (upper_in p) (unmarked cs old) ≡ or_first upper (first_told (upper_in p) (unmarked (drop i cs) (drop i new)))

pub bounded_begin : (p : PathColumn) (cs : List Bound) (old : List Bool) → length old ≡ length cs → Bounded p cs old old None None 0
bounded_begin p cs old l = record { count = l; marks = refl; lower_is = refl; upper_is = refl }

or_none : {A : Type 0} (o : Option A) → or_first o None ≡ o
or_none None = refl
or_none (Some a) = refl

or_assoc : {A : Type 0} (a b c : Option A) → or_first a (or_first b c) ≡ or_first (or_first a b) c
or_assoc None b c = refl
or_assoc (Some a) b c = refl

flags : {A : Type 0} (a b : Option A) → (not (is_some a) && not (is_some b)) ≡ not (is_some (or_first a b))
flags None b = refl
flags (Some a) b = refl

behind_all : {A : Type 0} (xs : List A) (n : ℕ) → n ≡ length xs → drop n xs ≡ []
behind_all [] zero e = refl
behind_all [] (suc n) e = refl
behind_all (x ∷ xs) zero e = absurd (omega arith)
behind_all (x ∷ xs) (suc n) e = behind_all xs n (omega arith)

whole : {A : Type 0} (xs : List A) (n : ℕ) → n ≡ length xs → take n xs ≡ xs
whole [] zero e = refl
whole [] (suc n) e = refl
whole (x ∷ xs) zero e = absurd (omega arith)
whole {A} (x ∷ xs) (suc n) e = ap (λ (ys : List A). x ∷ ys) (whole xs n (omega arith))

none_after : (p : PathColumn) (low high : Bool) (ms : List Bool) → marks_after p low high [] ms ≡ ms
none_after p low high ms = refl

pub bounded_end : (p : PathColumn) (cs : List Bound) (old new : List Bool) (lower upper : Option Edge) (i : ℕ) → length old ≡ length cs → i ≡ length cs → Bounded p cs old new lower upper i → (first_told (lower_in p) (unmarked cs old) ≡ lower) × (first_told (upper_in p) (unmarked cs old) ≡ upper) × (unmarked cs new ≡ without_bounds p true true (unmarked cs old))
bounded_end p cs old new lower upper i l e h =
    let n = h.count in
    let c0 = behind_all cs i e in
    let m0 = behind_all new i (omega arith) in
    let all = whole new i (omega arith) in
    let low = not (is_some lower) in
    let high = not (is_some upper) in
    let after : marks_after p true true cs old ≡ new =
    h.marks ∙ ap (λ (ms : List Bool). ms ++ marks_after p low high (drop i cs) (drop i new)) all ∙ ap (λ (bs : List Bound). new ++ marks_after p low high bs (drop i new)) c0 ∙ ap (λ (ms : List Bool). new ++ ms) m0 ∙ append-nil new in (
      h.lower_is ∙ ap (λ (bs : List Bound). or_first lower (first_told (lower_in p) (unmarked bs (drop i new)))) c0 ∙ or_none lower,
      h.upper_is ∙ ap (λ (bs : List Bound). or_first upper (first_told (upper_in p) (unmarked bs (drop i new)))) c0 ∙ or_none upper,
      ap (λ (ms : List Bool). unmarked cs ms) (sym after) ∙ marks_leave p true true cs old l,
    )

-- a conjunct with a mark
mark_passed : (p : PathColumn) (low high : Bool) (cs : List Bound) (ms : List Bool) (i : ℕ) → length ms ≡ length cs → i < length cs → get_or ms i false ≡ true → take i ms ++ marks_after p low high (drop i cs) (drop i ms) ≡ take (suc i) ms ++ marks_after p low high (drop (suc i) cs) (drop (suc i) ms)
mark_passed p low high [] ms i l b m = absurd (omega arith)
mark_passed p low high (c ∷ cs) [] i l b m = absurd (omega arith)
mark_passed p low high (c ∷ cs) (true ∷ ms) zero l b m = refl
mark_passed p low high (c ∷ cs) (false ∷ ms) zero l b m = cc
mark_passed p low high (c ∷ cs) (t ∷ ms) (suc i) l b m = ap (λ (ns : List Bool). t ∷ ns) (mark_passed p low high cs ms i (omega arith) (omega arith) m)

left_passed : (cs : List Bound) (ms : List Bool) (i : ℕ) → length ms ≡ length cs → i < length cs → get_or ms i false ≡ true → unmarked (drop i cs) (drop i ms) ≡ unmarked (drop (suc i) cs) (drop (suc i) ms)
left_passed [] ms i l b m = absurd (omega arith)
left_passed (c ∷ cs) [] i l b m = absurd (omega arith)
left_passed (c ∷ cs) (true ∷ ms) zero l b m = refl
left_passed (c ∷ cs) (false ∷ ms) zero l b m = cc
left_passed (c ∷ cs) (t ∷ ms) (suc i) l b m = left_passed cs ms i (omega arith) (omega arith) m

pub bounded_passed : (p : PathColumn) (cs : List Bound) (old new : List Bool) (lower upper : Option Edge) (i : ℕ) → i < length cs → get_or new i false ≡ true → Bounded p cs old new lower upper i → Bounded p cs old new lower upper (suc i)
bounded_passed p cs old new lower upper i b m h =
    let left = left_passed cs new i h.count b m in record {
      count = h.count;
      marks = h.marks ∙ mark_passed p (not (is_some lower)) (not (is_some upper)) cs new i h.count b m;
      lower_is = h.lower_is ∙ ap (λ (bs : List Bound). or_first lower (first_told (lower_in p) bs)) left;
      upper_is = h.upper_is ∙ ap (λ (bs : List Bound). or_first upper (first_told (upper_in p) bs)) left;
    }

-- a conjunct without a mark
mark_made : (p : PathColumn) (low high : Bool) (cs : List Bound) (ms : List Bool) (i : ℕ) (c : Bound) → length ms ≡ length cs → i < length cs → get_or ms i false ≡ false → c ≡ get_or cs i c → (let l = told_by (lower_in p) c in let u = told_by (upper_in p) c in let t = is_told low high l u in take i ms ++ marks_after p low high (drop i cs) (drop i ms) ≡ take (suc i) (set ms i t) ++ marks_after p (low && not (is_some l)) (high && not (is_some u)) (drop (suc i) cs) (drop (suc i) (set ms i t)))
mark_made p low high [] ms i c l b m e = absurd (omega arith)
mark_made p low high (x ∷ cs) [] i c l b m e = absurd (omega arith)
mark_made p low high (x ∷ cs) (true ∷ ms) zero c l b m e = cc
mark_made p low high (x ∷ cs) (false ∷ ms) zero c l b m e =
    ap (λ (y : Bound). is_told low high (told_by (lower_in p) y) (told_by (upper_in p) y) ∷ marks_after p (low && not (is_some (told_by (lower_in p) y))) (high && not (is_some (told_by (upper_in p) y))) cs ms) (sym e)
mark_made p low high (x ∷ cs) (t ∷ ms) (suc i) c l b m e = ap (λ (ns : List Bool). t ∷ ns) (mark_made p low high cs ms i c (omega arith) (omega arith) m e)

left_made : (cs : List Bound) (ms : List Bool) (i : ℕ) (c : Bound) (t : Bool) → length ms ≡ length cs → i < length cs → get_or ms i false ≡ false → c ≡ get_or cs i c → unmarked (drop i cs) (drop i ms) ≡ c ∷ unmarked (drop (suc i) cs) (drop (suc i) (set ms i t))
left_made [] ms i c t l b m e = absurd (omega arith)
left_made (x ∷ cs) [] i c t l b m e = absurd (omega arith)
left_made (x ∷ cs) (true ∷ ms) zero c t l b m e = cc
left_made (x ∷ cs) (false ∷ ms) zero c t l b m e = ap (λ (y : Bound). y ∷ unmarked cs ms) (sym e)
left_made (x ∷ cs) (s ∷ ms) (suc i) c t l b m e = left_made cs ms i c t (omega arith) (omega arith) m e

set_count : (ms : List Bool) (i : ℕ) (t : Bool) → length (set ms i t) ≡ length ms
set_count [] i t = refl
set_count (m ∷ ms) zero t = refl
set_count (m ∷ ms) (suc i) t = ap suc (set_count ms i t)

pub bounded_made : (p : PathColumn) (cs : List Bound) (old new : List Bool) (lower upper lower' upper' : Option Edge) (i : ℕ) (c : Bound) (t : Bool) → i < length cs → get_or new i false ≡ false → c ≡ get_or cs i c → t ≡ is_told (not (is_some lower)) (not (is_some upper)) (told_by (lower_in p) c) (told_by (upper_in p) c) → lower' ≡ or_first lower (told_by (lower_in p) c) → upper' ≡ or_first upper (told_by (upper_in p) c) → Bounded p cs old new lower upper i → Bounded p cs old (set new i t) lower' upper' (suc i)
bounded_made p cs old new lower upper lower' upper' i c t b m e s f g h =
    let l = told_by (lower_in p) c in
    let u = told_by (upper_in p) c in
    let low = not (is_some lower) in
    let high = not (is_some upper) in
    let n = set_count new i t in
    let left = left_made cs new i c t h.count b m e in
    let rest = marks_after p in record {
      count = n ∙ h.count;
      marks = h.marks ∙ mark_made p low high cs new i c h.count b m e
          ∙ ap (λ (x : Bool). take (suc i) (set new i x) ++ rest (low && not (is_some l)) (high && not (is_some u)) (drop (suc i) cs) (drop (suc i) (set new i x))) (sym s)
          ∙ ap (λ (x : Bool). take (suc i) (set new i t) ++ rest x (high && not (is_some u)) (drop (suc i) cs) (drop (suc i) (set new i t))) (flags lower l ∙ ap (λ (o : Option Edge). not (is_some o)) (sym f))
          ∙ ap (λ (x : Bool). take (suc i) (set new i t) ++ rest (not (is_some lower')) x (drop (suc i) cs) (drop (suc i) (set new i t))) (flags upper u ∙ ap (λ (o : Option Edge). not (is_some o)) (sym g));
      lower_is = h.lower_is ∙ ap (λ (bs : List Bound). or_first lower (first_told (lower_in p) bs)) left ∙ or_assoc lower l _ ∙ ap (λ (o : Option Edge). or_first o (first_told (lower_in p) (unmarked (drop (suc i) cs) (drop (suc i) (set new i t))))) (sym f);
      upper_is = h.upper_is ∙ ap (λ (bs : List Bound). or_first upper (first_told (upper_in p) bs)) left ∙ or_assoc upper u _ ∙ ap (λ (o : Option Edge). or_first o (first_told (upper_in p) (unmarked (drop (suc i) cs) (drop (suc i) (set new i t))))) (sym g);
    }

-- ---- a whole path

pub no_marks : (cs : List Bound) → unmarked cs (replicate (length cs) false) ≡ cs
no_marks [] = refl
no_marks (c ∷ cs) = ap (λ (bs : List Bound). c ∷ bs) (no_marks cs)

-- these values, and what is told behind them
abbrev pub behind : List Value → Leading → Leading
behind vs l = record { equal = vs ++ l.equal; span = l.span }

-- how far the walk has come
pub record Walked (path : List PathColumn) (cs : List Bound) (marks : List Bool) (vs : List Value) (i : ℕ) : Type 0 where
  pub count : length marks ≡ length cs
  pub leads : leading_of path cs ≡ behind vs (leading_of (drop i path) (unmarked cs marks))
  pub leaves : conjuncts_left path cs ≡ conjuncts_left (drop i path) (unmarked cs marks)

pub walk_begin : (path : List PathColumn) (cs : List Bound) (marks : List Bool) → marks ≡ replicate (length cs) false → Walked path cs marks [] 0
walk_begin path cs marks e =
    let is : unmarked cs marks ≡ cs = ap (λ (ms : List Bool). unmarked cs ms) e ∙ no_marks cs in record {
      count = ap length e ∙ replicate_count (length cs);
      leads = ap (λ (bs : List Bound). leading_of path bs) (sym is);
      leaves = ap (λ (bs : List Bound). conjuncts_left path bs) (sym is);
    }
  where
    replicate_count : (n : ℕ) → length (replicate n false) ≡ n
    replicate_count zero = refl
    replicate_count (suc n) = ap suc (replicate_count n)

drop_at : (path : List PathColumn) (i : ℕ) (p : PathColumn) → i < length path → p ≡ get_or path i p → drop i path ≡ p ∷ drop (suc i) path
drop_at [] i p l e = absurd (omega arith)
drop_at (x ∷ path) zero p l e = ap (λ (y : PathColumn). y ∷ path) (sym e)
drop_at (x ∷ path) (suc i) p l e = drop_at path i p (omega arith) e

behind_more : (vs : List Value) (v : Value) (l : Leading) → behind vs (record { equal = v ∷ l.equal; span = l.span }) ≡ behind (vs ++ v ∷ []) l
behind_more vs v l = ap (λ (xs : List Value). record { equal = xs; span = l.span }) (grouped vs)
  where
    grouped : (vs : List Value) → vs ++ v ∷ l.equal ≡ (vs ++ v ∷ []) ++ l.equal
    grouped [] = refl
    grouped (w ∷ vs) = ap (λ (xs : List Value). w ∷ xs) (grouped vs)

-- a column with a value
pub walk_more : (path : List PathColumn) (cs : List Bound) (marks marks' : List Bool) (vs : List Value) (i : ℕ) (p : PathColumn) (v : Value) → i < length path → p ≡ get_or path i p → length marks' ≡ length cs → first_told (equal_in p) (unmarked cs marks) ≡ Some v → unmarked cs marks' ≡ without_first (equal_in p) (unmarked cs marks) → Walked path cs marks vs i → Walked path cs marks' (vs ++ v ∷ []) (suc i)
walk_more path cs marks marks' vs i p v l e n t w h =
    let bs = unmarked cs marks in
    let d = drop_at path i p l e in
    let s = span_between (first_told (lower_in p) bs) (first_told (upper_in p) bs) in
    let more = leading_of (drop (suc i) path) (without_first (equal_in p) bs) in record {
      count = n;
      leads = h.leads ∙ ap (λ (q : List PathColumn). behind vs (leading_of q bs)) d ∙ ap (λ (o : Option Value). behind vs (led_by o more s)) t ∙ behind_more vs v more
          ∙ ap (λ (x : List Bound). behind (vs ++ v ∷ []) (leading_of (drop (suc i) path) x)) (sym w);
      leaves = h.leaves ∙ ap (λ (q : List PathColumn). conjuncts_left q bs) d ∙ ap (λ (o : Option Value). if is_some o then conjuncts_left (drop (suc i) path) (without_first (equal_in p) bs) else without_bounds p true true bs) t
          ∙ ap (λ (x : List Bound). conjuncts_left (drop (suc i) path) x) (sym w);
    }

-- a column without one
pub walk_bounds : (path : List PathColumn) (cs : List Bound) (marks marks' marks'' : List Bool) (vs : List Value) (i : ℕ) (p : PathColumn) (s : Option Span) → i < length path → p ≡ get_or path i p → first_told (equal_in p) (unmarked cs marks) ≡ None → unmarked cs marks' ≡ without_first (equal_in p) (unmarked cs marks) → unmarked cs marks' ≡ unmarked cs marks → s ≡ span_between (first_told (lower_in p) (unmarked cs marks')) (first_told (upper_in p) (unmarked cs marks')) → unmarked cs marks'' ≡ without_bounds p true true (unmarked cs marks') → Walked path cs marks vs i → (record { equal = vs; span = s } ≡ leading_of path cs) × (unmarked cs marks'' ≡ conjuncts_left path cs)
walk_bounds path cs marks marks' marks'' vs i p s l e t w same b left h =
    let bs = unmarked cs marks in
    let d = drop_at path i p l e in
    let spanned : s ≡ span_between (first_told (lower_in p) bs) (first_told (upper_in p) bs) = b ∙ ap (λ (x : List Bound). span_between (first_told (lower_in p) x) (first_told (upper_in p) x)) same in
    let more = leading_of (drop (suc i) path) (without_first (equal_in p) bs) in (
      ap (λ (o : Option Span). record { equal = vs; span = o }) spanned ∙ ap (λ (xs : List Value). record { equal = xs; span = span_between (first_told (lower_in p) bs) (first_told (upper_in p) bs) }) (sym (append-nil vs))
          ∙ sym (h.leads ∙ ap (λ (q : List PathColumn). behind vs (leading_of q bs)) d ∙ ap (λ (o : Option Value). behind vs (led_by o more (span_between (first_told (lower_in p) bs) (first_told (upper_in p) bs)))) t),
      left ∙ ap (λ (x : List Bound). without_bounds p true true x) same
          ∙ sym (h.leaves ∙ ap (λ (q : List PathColumn). conjuncts_left q bs) d ∙ ap (λ (o : Option Value). if is_some o then conjuncts_left (drop (suc i) path) (without_first (equal_in p) bs) else without_bounds p true true bs) t),
    )

-- all columns have one
pub walk_end : (path : List PathColumn) (cs : List Bound) (marks : List Bool) (vs : List Value) (i : ℕ) → i ≡ length path → Walked path cs marks vs i → (record { equal = vs; span = None } ≡ leading_of path cs) × (unmarked cs marks ≡ conjuncts_left path cs)
walk_end path cs marks vs i e h =
    let d = behind_all path i e in (
      ap (λ (xs : List Value). record { equal = xs; span = None }) (sym (append-nil vs)) ∙ sym (h.leads ∙ ap (λ (q : List PathColumn). behind vs (leading_of q (unmarked cs marks))) d),
      sym (h.leaves ∙ ap (λ (q : List PathColumn). conjuncts_left q (unmarked cs marks)) d),
    )

pub no_first : {A : Type 0} (f : Test → Option A) (bs : List Bound) → first_told f bs ≡ None → without_first f bs ≡ bs
no_first f [] e = refl
no_first {A} f (b ∷ bs) e = by_told (λ later. no_first f bs later) (told_by f b) refl
  where
    by_told : (first_told f bs ≡ None → without_first f bs ≡ bs) → (o : Option A) → told_by f b ≡ o → without_first f (b ∷ bs) ≡ b ∷ bs
    by_told rest (Some a) t = let z : ◌≡◌ {A = Option A} (Some a) None = sym (ap (λ (o : Option A). or_first o (first_told f bs)) t) ∙ e in cc
    by_told rest None t = ap (λ (o : Option A). if is_some o then bs else b ∷ without_first f bs) t ∙ ap (λ (cs : List Bound). b ∷ cs) (rest (sym (ap (λ (o : Option A). or_first o (first_told f bs)) t) ∙ e))

pub itself : {A : Type 0} (xs : List A) (n : ℕ) (d : A) → n < length xs → get_or xs n d ≡ get_or xs n (get_or xs n d)
itself [] n d l = absurd (omega arith)
itself (x ∷ xs) zero d l = refl
itself (x ∷ xs) (suc n) d l = itself xs n d (omega arith)

-- the column that code reads
abbrev pub column_at : List PathColumn → ℕ → PathColumn
column_at path n = get_or path n (record { place = 0; column = record { ty = TinyInt; direction = Ascending; may_be_null = false } })

-- the end of the walk at a column without a value, from what the calls say of their own marks
pub walk_none : (path : List PathColumn) (cs : List Bound) (marks first found second last : List Bool) (vs : List Value) (i : ℕ) (p : PathColumn) (s : Option Span) → i < length path → p ≡ get_or path i p → first ≡ marks → None ≡ first_told (equal_in p) (unmarked cs first) → unmarked cs found ≡ without_first (equal_in p) (unmarked cs first) → second ≡ found → s ≡ span_between (first_told (lower_in p) (unmarked cs second)) (first_told (upper_in p) (unmarked cs second)) → unmarked cs last ≡ without_bounds p true true (unmarked cs second) → Walked path cs marks vs i → (record { equal = vs; span = s } ≡ leading_of path cs) × (unmarked cs last ≡ conjuncts_left path cs)
walk_none path cs marks first found second last vs i p s l e f t w g b left h =
    let none : first_told (equal_in p) (unmarked cs marks) ≡ None = sym (t ∙ ap (λ (ms : List Bool). first_told (equal_in p) (unmarked cs ms)) f) in
    let without = w ∙ ap (λ (ms : List Bool). without_first (equal_in p) (unmarked cs ms)) f in
    walk_bounds path cs marks found last vs i p s l e none without (without ∙ no_first (equal_in p) (unmarked cs marks) none)
    (b ∙ ap (λ (ms : List Bool). span_between (first_told (lower_in p) (unmarked cs ms)) (first_told (upper_in p) (unmarked cs ms))) g)
    (left ∙ ap (λ (ms : List Bool). without_bounds p true true (unmarked cs ms)) g) h
