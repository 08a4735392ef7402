-- Spans of a column of a type.
use Rattle.std.proofs.Common.{◌≡◌, ◌≢◌, ◌↔◌, ◌⊎◌, ◌<◌, inl, inr, ℕ, zero, suc, Bool, true, false, not, ◌&&◌, ◌||◌, List, [], ◌∷◌, ◌++◌, length, take, drop, get_or, refl, sym, ap, subst, ◌∙◌, Option, Some, None, ℤ, ◌≤ℤ◌, ◌<ℤ◌, arith}
use Rattle.std.specs.Prelude.{int_lt, nat_eq, nat_le, T}
use Rattle.std.specs.List.{AllByRecursion, list_all}
use Rattle.std.specs.Str.{is_utf8}
use Rattle.std.proofs.lemmas.Int.{ints}
use Rattle.std.proofs.lemmas.Bool.{eqb-true, eqb-false, eq-eqb, leb-true, le-leb}
use Rattle.std.proofs.lemmas.List.Elements.{All-from_recursion, recursion_from_All}
use Rattle.std.proofs.lemmas.Str.{IsUtf8-from_is_utf8, is_utf8-from_IsUtf8}
use Rattle.std.specs.Int.Signed.{lt_z_yes, lt_z_no}
use Rattle.std.specs.Cmp.{int_cmp_is}
use Rattle.std.specs.Ordering.{int_cmp}
use Rattle.std.specs.declared.cmp.Ordering.{Ordering}
use Rattle.std.specs.declared.cmp.Ordering.TheVariants.{Less, Equal, Greater}
use Rattle.px_values.specs.Limits.{most_text}
use Rattle.px_values.specs.Order.{value_order}
use Rattle.px_values.specs.Types.{HasType, IsColumnText, type_class, least_of, greatest_of}
use Rattle.px_values.specs.declared.column.ColType.{ColType}
use Rattle.px_values.specs.declared.row.Value.{Value}
use Rattle.px_values.specs.declared.row.Value.TheVariants.{Null, Number, Truth, Text}
use Rattle.px_keys.specs.Spelling.{Fits, FitsColumn}
use Rattle.px_keys.specs.declared.parts.KeyColumn.{KeyColumn}
use Rattle.px_ranges.specs.declared.leading.Edge.{Edge}
use Rattle.px_ranges.specs.declared.leading.Span.{Span}
use Rattle.px_ranges.specs.Led.{Inside, IsOver, IsUnder, IsIn, FirstIsIn, EdgeIsFor, can_bound, is_column_text}
use Rattle.px_ranges.specs.inner.Cuts.{FitsEdge, FitsSpan, is_low, is_high, lower_within, upper_within, is_over_all, is_under_all, is_beyond, span_within}

-- ---- values that can bound a column

-- a number of a number column, or a value of the type
abbrev pub OfClass : ColType → Value → Type 0
OfClass ty Null = Unit {0}
OfClass ty (Number n) = type_class ty ≡ 1
OfClass ty v = HasType ty v

both : (a b : Bool) → a && b ≡ true → (a ≡ true) × (b ≡ true)
both true b e = (refl, e)
both false b e = cc

no_zeros : (bytes : List ℕ) → list_all (λ b. not (nat_eq b 0)) bytes ≡ true → AllByRecursion (λ b. b ≢ 0) bytes
no_zeros [] e = tt
no_zeros (b ∷ bytes) e =
    let h = both (not (nat_eq b 0)) (list_all (λ b. not (nat_eq b 0)) bytes) e in (eqb-false b 0 (turned (nat_eq b 0) h.0), no_zeros bytes h.1)
  where
    turned : (t : Bool) → not t ≡ true → t ≡ false
    turned true e = cc
    turned false e = refl

column_text : (bytes : List ℕ) → is_column_text bytes ≡ true → IsColumnText bytes
column_text bytes e =
    let a = both (nat_le 1 (length bytes)) _ e in
    let b = both (nat_le (length bytes) most_text) _ a.1 in
    let c = both (list_all (λ b. not (nat_eq b 0)) bytes) (is_utf8 bytes) b.1 in record {
      utf8 = IsUtf8-from_is_utf8 bytes c.1;
      least = leb-true 1 (length bytes) a.0;
      most = leb-true (length bytes) most_text b.0;
      no_zero = All-from_recursion (λ b. b ≢ 0) bytes (no_zeros bytes c.0);
    }

pub bounds_class : (ty : ColType) (v : Value) → can_bound ty v ≡ true → OfClass ty v × (v ≢ Null)
bounds_class ty Null e = cc
bounds_class ty (Number n) e = (eqb-true (type_class ty) 1 e, λ z. cc)
bounds_class ty (Truth t) e = (eqb-true (type_class ty) 2 e, λ z. cc)
bounds_class ty (Text bytes) e =
    let b = both (nat_eq (type_class ty) 3) (is_column_text bytes) e in ((eqb-true (type_class ty) 3 b.0, column_text bytes b.1), λ z. cc)

abbrev EdgeOfClass : KeyColumn → Option Edge → Type 0
EdgeOfClass column None = Unit {0}
EdgeOfClass column (Some edge) = OfClass column.ty edge.value × (edge.value ≢ Null)

edge_class : (c : KeyColumn) (e : Option Edge) → EdgeIsFor c e → EdgeOfClass c e
edge_class c None h = tt
edge_class c (Some edge) h = bounds_class c.ty edge.value h

-- ---- edges beyond the type

int_lt-true : (a b : ℤ) → int_lt a b ≡ true → a <ℤ b
int_lt-true a b e = lt_z_yes (subst T (sym e) tt)

int_over : (n m l : ℤ) → int_lt n l ≡ true → l ≤ℤ m → int_cmp m n ≡ Greater
int_over n m l h k = let i = int_lt-true n l h in sym (int_cmp_is m n Greater (omega (arith, ints)))

int_under : (n m g : ℤ) → int_lt g n ≡ true → m ≤ℤ g → int_cmp m n ≡ Less
int_under n m g h k = let i = int_lt-true g n h in sym (int_cmp_is m n Less (omega (arith, ints)))

-- a value of the type is above a number that is too low for it, and below one that is too high
low_met : (c : KeyColumn) (v w : Value) → OfClass c.ty v → is_low c v ≡ true → HasType c.ty w → w ≢ Null → value_order w v ≡ Greater
low_met c Null w o h t n = cc
low_met c (Truth b) w o h t n = cc
low_met c (Text b) w o h t n = cc
low_met c (Number v) Null o h t n = absurd (n refl)
low_met c (Number v) (Number w) o h t n = int_over v w (least_of c.ty) h t.1.0
low_met c (Number v) (Truth w) o h t n = absurd (let z = sym o ∙ t in cc)
low_met c (Number v) (Text w) o h t n = absurd (let z = sym o ∙ t.0 in cc)

high_met : (c : KeyColumn) (v w : Value) → OfClass c.ty v → is_high c v ≡ true → HasType c.ty w → w ≢ Null → value_order w v ≡ Less
high_met c Null w o h t n = cc
high_met c (Truth b) w o h t n = cc
high_met c (Text b) w o h t n = cc
high_met c (Number v) Null o h t n = absurd (n refl)
high_met c (Number v) (Number w) o h t n = int_under v w (greatest_of c.ty) h t.1.1
high_met c (Number v) (Truth w) o h t n = absurd (let z = sym o ∙ t in cc)
high_met c (Number v) (Text w) o h t n = absurd (let z = sym o ∙ t.0 in cc)

not_both : (o : Ordering) (i : Bool) → o ≡ Less → Inside Greater i o → ⊥
not_both o i e h = elim h [ inl g ↦ (let z : ◌≡◌ {A = Ordering} Less Greater = sym e ∙ g in cc) | inr g ↦ (let z : ◌≡◌ {A = Ordering} Less Equal = sym e ∙ g.1 in cc) ]

not_either : (o : Ordering) (i : Bool) → o ≡ Greater → Inside Less i o → ⊥
not_either o i e h = elim h [ inl g ↦ (let z : ◌≡◌ {A = Ordering} Greater Less = sym e ∙ g in cc) | inr g ↦ (let z : ◌≡◌ {A = Ordering} Greater Equal = sym e ∙ g.1 in cc) ]

int_not : (a b : ℤ) → int_lt a b ≡ false → b ≤ℤ a
int_not a b e = lt_z_no (subst (λ (t : Bool). T (not t)) (sym e) tt)

value_fits : (c : KeyColumn) (v : Value) → OfClass c.ty v → is_low c v ≡ false → is_high c v ≡ false → HasType c.ty v
value_fits c Null o l h = tt
value_fits c (Number n) o l h = (o, (int_not n (least_of c.ty) l, int_not (greatest_of c.ty) n h))
value_fits c (Truth b) o l h = o
value_fits c (Text b) o l h = o

-- ---- edges

lower_same : (c : KeyColumn) (e : Option Edge) (w : Value) → EdgeOfClass c e → HasType c.ty w → w ≢ Null → IsOver e w ↔ IsOver (lower_within c e) w
lower_same c None w o t n = (λ h. h, λ h. h)
lower_same c (Some e) w o t n = by_test (is_low c e.value) refl
  where
    by_test : (b : Bool) → is_low c e.value ≡ b → IsOver (Some e) w ↔ IsOver (lower_within c (Some e)) w
    by_test true h = rw h (λ z. tt, λ z. inl (low_met c e.value w o.0 h t n))
    by_test false h = rw h (λ z. z, λ z. z)

upper_same : (c : KeyColumn) (e : Option Edge) (w : Value) → EdgeOfClass c e → HasType c.ty w → w ≢ Null → IsUnder e w ↔ IsUnder (upper_within c e) w
upper_same c None w o t n = (λ h. h, λ h. h)
upper_same c (Some e) w o t n = by_test (is_high c e.value) refl
  where
    by_test : (b : Bool) → is_high c e.value ≡ b → IsUnder (Some e) w ↔ IsUnder (upper_within c (Some e)) w
    by_test true h = rw h (λ z. tt, λ z. inl (high_met c e.value w o.0 h t n))
    by_test false h = rw h (λ z. z, λ z. z)

none_over : (c : KeyColumn) (e : Option Edge) (w : Value) → EdgeOfClass c e → is_over_all c e ≡ true → HasType c.ty w → w ≢ Null → IsOver e w → ⊥
none_over c None w o h t n i = cc
none_over c (Some e) w o h t n i = not_both (value_order w e.value) e.included (high_met c e.value w o.0 h t n) i

none_under : (c : KeyColumn) (e : Option Edge) (w : Value) → EdgeOfClass c e → is_under_all c e ≡ true → HasType c.ty w → w ≢ Null → IsUnder e w → ⊥
none_under c None w o h t n i = cc
none_under c (Some e) w o h t n i = not_either (value_order w e.value) e.included (low_met c e.value w o.0 h t n) i

-- what falls away leaves a value of the type
lower_fits : (c : KeyColumn) (e : Option Edge) → EdgeOfClass c e → is_over_all c e ≡ false → FitsEdge c (lower_within c e)
lower_fits c None o h = tt
lower_fits c (Some e) o h = by_test (is_low c e.value) refl
  where
    by_test : (b : Bool) → is_low c e.value ≡ b → FitsEdge c (lower_within c (Some e))
    by_test true l = rw l tt
    by_test false l = rw l (value_fits c e.value o.0 l h, o.1)

upper_fits : (c : KeyColumn) (e : Option Edge) → EdgeOfClass c e → is_under_all c e ≡ false → FitsEdge c (upper_within c e)
upper_fits c None o h = tt
upper_fits c (Some e) o h = by_test (is_high c e.value) refl
  where
    by_test : (b : Bool) → is_high c e.value ≡ b → FitsEdge c (upper_within c (Some e))
    by_test true l = rw l tt
    by_test false l = rw l (value_fits c e.value o.0 h l, o.1)

-- ---- spans

either : (a b : Bool) → a || b ≡ true → (a ≡ true) ⊎ (b ≡ true)
either true b e = inl refl
either false b e = inr e

not_either_is : (a b : Bool) → a || b ≡ false → (a ≡ false) × (b ≡ false)
not_either_is true b e = cc
not_either_is false b e = (refl, e)

abbrev SpanIsFor : KeyColumn → Span → Type 0
SpanIsFor c span = EdgeIsFor c span.lower × EdgeIsFor c span.upper

-- no value of the column is in a span beyond its type
none_beyond : (c : KeyColumn) (span : Span) (w : Value) → SpanIsFor c span → is_beyond c span ≡ true → FitsColumn c w → IsIn span w → ⊥
none_beyond c span w o e f h = elim (either (is_over_all c span.lower) (is_under_all c span.upper) e) [
  | inl x ↦ none_over c span.lower w (edge_class c span.lower o.0) x f.0 h.0 h.1
  | inr x ↦ none_under c span.upper w (edge_class c span.upper o.1) x f.0 h.0 h.2
]

-- without the edges that all values meet, a span has the same values of the column
same_within : (c : KeyColumn) (span : Span) (w : Value) → SpanIsFor c span → FitsColumn c w → IsIn span w ↔ IsIn (span_within c span) w
same_within c span w o f =
    let lower = lower_same c span.lower w (edge_class c span.lower o.0) f.0 in
    let upper = upper_same c span.upper w (edge_class c span.upper o.1) f.0 in (
      λ h. (h.0, (lower h.0).0 h.1, (upper h.0).0 h.2),
      λ h. (h.0, (lower h.0).1 h.1, (upper h.0).1 h.2),
    )

pub within_fits : (c : KeyColumn) (span : Span) → SpanIsFor c span → is_beyond c span ≡ false → FitsSpan c (span_within c span)
within_fits c span o e =
    let b = not_either_is (is_over_all c span.lower) (is_under_all c span.upper) e in
    (lower_fits c span.lower (edge_class c span.lower o.0) b.0, upper_fits c span.upper (edge_class c span.upper o.1) b.1)

-- ---- the value behind the equal ones

-- the row's value at a place is one of the column there
value_at : (P : List Value → Type 0) (n : ℕ) (columns : List KeyColumn) (c : KeyColumn) (row : List Value) → Fits columns row → n < length columns → c ≡ get_or columns n c → ((w : Value) (ws : List Value) → FitsColumn c w → P (w ∷ ws)) → P (drop n row)
value_at P n [] c row f l e h = absurd (omega arith)
value_at P zero (d ∷ columns) c [] f l e h = absurd f
value_at P zero (d ∷ columns) c (w ∷ row) f l e h = h w row (subst (λ (x : KeyColumn). FitsColumn x w) (sym e) f.0)
value_at P (suc n) (d ∷ columns) c [] f l e h = absurd f
value_at P (suc n) (d ∷ columns) c (w ∷ row) f l e h = value_at P n columns c row f.1 (omega arith) e h

pub never_first : (n : ℕ) (columns : List KeyColumn) (c : KeyColumn) (span : Span) (row : List Value) → Fits columns row → n < length columns → c ≡ get_or columns n c → SpanIsFor c span → is_beyond c span ≡ true → FirstIsIn (Some span) (drop n row) → ⊥
never_first n columns c span row f l e o b = value_at (λ ws. FirstIsIn (Some span) ws → ⊥) n columns c row f l e (λ w ws fits. none_beyond c span w o b fits)

pub first_within : (n : ℕ) (columns : List KeyColumn) (c : KeyColumn) (span : Span) (row : List Value) → Fits columns row → n < length columns → c ≡ get_or columns n c → SpanIsFor c span → FirstIsIn (Some span) (drop n row) ↔ FirstIsIn (Some (span_within c span)) (drop n row)
first_within n columns c span row f l e o = value_at (λ ws. FirstIsIn (Some span) ws ↔ FirstIsIn (Some (span_within c span)) ws) n columns c row f l e (λ w ws fits. same_within c span w o fits)

-- ---- a text of the type can bound it

other_than : (b n : ℕ) → b ≢ n → not (nat_eq b n) ≡ true
other_than b n h = by_test (nat_eq b n) refl
  where
    by_test : (t : Bool) → nat_eq b n ≡ t → not t ≡ true
    by_test true e = absurd (h (eqb-true b n e))
    by_test false e = refl

join : (a b : Bool) → a ≡ true → b ≡ true → a && b ≡ true
join true b e f = f
join false b e f = cc

all_zeros : (bytes : List ℕ) → AllByRecursion (λ b. b ≢ 0) bytes → list_all (λ b. not (nat_eq b 0)) bytes ≡ true
all_zeros [] h = refl
all_zeros (b ∷ bytes) h = join (not (nat_eq b 0)) (list_all (λ b. not (nat_eq b 0)) bytes) (other_than b 0 h.0) (all_zeros bytes h.1)

text_is : (bytes : List ℕ) → IsColumnText bytes → is_column_text bytes ≡ true
text_is bytes h =
    join (nat_le 1 (length bytes)) _ (le-leb 1 (length bytes) h.least)
    (join (nat_le (length bytes) most_text) _ (le-leb (length bytes) most_text h.most)
    (join (list_all (λ b. not (nat_eq b 0)) bytes) (is_utf8 bytes) (all_zeros bytes (recursion_from_All (λ b. b ≢ 0) bytes h.no_zero)) (is_utf8-from_IsUtf8 bytes h.utf8)))

pub text_bounds : (ty : ColType) (bytes : List ℕ) → HasType ty (Text bytes) → can_bound ty (Text bytes) ≡ true
text_bounds ty bytes h = join (nat_eq (type_class ty) 3) (is_column_text bytes) (eq-eqb (type_class ty) 3 h.0) (text_is bytes h.1)
