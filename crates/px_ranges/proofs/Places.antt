-- Ranges of keys by their bytes.
use Rattle.std.proofs.Common.{◌≡◌, ◌≢◌, ◌↔◌, ◌⊎◌, ◌<◌, ◌≤◌, ◌+◌, ◌-◌, inl, inr, ℕ, zero, suc, Bool, true, false, not, List, [], ◌∷◌, ◌++◌, length, take, drop, get_or, map, refl, sym, ap, subst, ◌∙◌, Option, Some, None, arith}
use Rattle.std.proofs.Common.{length-append}
use Rattle.std.proofs.lemmas.List.Elements.{All-append, All-nil, All-cons, All-map}
use Rattle.std.specs.List.{All}
use Rattle.std.specs.Cmp.Lexicographic.{slice_cmp}
use Rattle.std.specs.Ordering.{nat_cmp, ordering_reverse}
use Rattle.std.specs.declared.cmp.Ordering.{Ordering}
use Rattle.std.specs.declared.cmp.Ordering.TheVariants.{Less, Equal, Greater}
use Rattle.std.proofs.lemmas.Cmp.{nat_list_cmp_total}
use Rattle.px_values.specs.declared.column.ColType.TheVariants.{TinyInt, Varchar}
use Rattle.px_values.specs.declared.row.Value.{Value}
use Rattle.px_values.specs.declared.row.Value.TheVariants.{Null, Text}
use Rattle.px_values.specs.declared.order.Direction.{Direction}
use Rattle.px_values.specs.declared.order.Direction.TheVariants.{Ascending, Descending}
use Rattle.px_keys.specs.Range.{IsBetween, IsPrefix}
use Rattle.px_keys.specs.Spelling.{Fits, FitsColumn, IsNullFixed, PartFits, columns_of, directed, part_bytes, plain_bytes, spelled, values_of}
use Rattle.px_keys.specs.declared.parts.KeyColumn.{KeyColumn}
use Rattle.px_keys.specs.declared.parts.Part.{Part}
use Rattle.px_keys.proofs.KeyOrders.{plain_are_bytes}
use Rattle.px_ranges.specs.declared.leading.Edge.{Edge}
use Rattle.px_ranges.specs.declared.leading.Span.{Span}
use Rattle.px_ranges.specs.declared.leading.Leading.{Leading}
use Rattle.px_ranges.specs.Led.{FirstIsIn, IsFor, IsLed, EdgeIsFor, can_bound}
use Rattle.std.specs.Bool.{IsTrue}
use Rattle.px_ranges.specs.inner.Cuts.{Cut, FitsFirst, FitsLeading, FitsSpan, IsBelow, IsKeyInRange, StandsBefore, all_begin, all_end, behind_values, cut_end, high_of, is_beyond, low_of, lower_within, span_within, start_of, upper_within}
use Rattle.px_ranges.proofs.Ranges.{range_is, low_fits, high_fits}
use Rattle.px_ranges.proofs.Spans.{bounds_class, first_within, never_first, text_bounds, within_fits}

-- ---- the bytes of keys

inverted_are_bytes : (bytes : List ℕ) → All (λ b. b < 256) (map (λ b. 255 - b) bytes)
inverted_are_bytes [] = All-nil (λ b. b < 256)
inverted_are_bytes (b ∷ bytes) = All-cons (λ b. b < 256) (255 - b) (map (λ b. 255 - b) bytes) (omega arith) (inverted_are_bytes bytes)

directed_are_bytes : (d : Direction) (bytes : List ℕ) → All (λ b. b < 256) bytes → All (λ b. b < 256) (directed d bytes)
directed_are_bytes Ascending bytes h = h
directed_are_bytes Descending bytes h = inverted_are_bytes bytes

pub key_is_bytes : (columns : List KeyColumn) (row : List Value) → Fits columns row → All (λ b. b < 256) (spelled columns row)
key_is_bytes [] [] f = All-nil (λ b. b < 256)
key_is_bytes [] (w ∷ row) f = absurd f
key_is_bytes (c ∷ columns) [] f = absurd f
key_is_bytes (c ∷ columns) (w ∷ row) f =
    All-append (λ b. b < 256) (part_bytes c w) (spelled columns row)
    (directed_are_bytes c.direction (plain_bytes c.ty c.may_be_null w) (plain_are_bytes c.ty c.may_be_null w f.0.0))
    (key_is_bytes columns row f.1)

none_are_bytes : (columns : List KeyColumn) → All (λ b. b < 256) (spelled columns [])
none_are_bytes [] = All-nil (λ b. b < 256)
none_are_bytes (c ∷ columns) = All-nil (λ b. b < 256)

pub first_is_bytes : (columns : List KeyColumn) (vs : List Value) → FitsFirst columns vs → All (λ b. b < 256) (spelled columns vs)
first_is_bytes columns [] f = none_are_bytes columns
first_is_bytes [] (w ∷ row) f = absurd f
first_is_bytes (c ∷ columns) (w ∷ row) f =
    All-append (λ b. b < 256) (part_bytes c w) (spelled columns row)
    (directed_are_bytes c.direction (plain_bytes c.ty c.may_be_null w) (plain_are_bytes c.ty c.may_be_null w f.0.0))
    (first_is_bytes columns row f.1)

-- ---- where a range begins and ends

pub low_is : (columns : List KeyColumn) (vs : List Value) (c : KeyColumn) (span : Span) → length vs < length columns → c ≡ get_or columns (length vs) c → low_of columns vs (Some span) ≡ behind_values vs (start_of c.direction c.may_be_null span.lower span.upper)
low_is [] vs c span l e = absurd (omega arith)
low_is (d ∷ columns) [] c span l e = ap (λ (x : KeyColumn). start_of x.direction x.may_be_null span.lower span.upper) (sym e)
low_is (d ∷ columns) (v ∷ vs) c span l e =
    let rest = low_is columns vs c span (omega arith) e in ap (λ (x : Cut). record { values = v ∷ x.values; behind = x.behind }) rest

pub high_is : (columns : List KeyColumn) (vs : List Value) (c : KeyColumn) (span : Span) → length vs < length columns → c ≡ get_or columns (length vs) c → high_of columns vs (Some span) ≡ behind_values vs (cut_end c.direction c.may_be_null span.lower span.upper)
high_is [] vs c span l e = absurd (omega arith)
high_is (d ∷ columns) [] c span l e = ap (λ (x : KeyColumn). cut_end x.direction x.may_be_null span.lower span.upper) (sym e)
high_is (d ∷ columns) (v ∷ vs) c span l e =
    let rest = high_is columns vs c span (omega arith) e in ap (λ (x : Cut). record { values = v ∷ x.values; behind = x.behind }) rest

pub low_of_equal : (columns : List KeyColumn) (vs : List Value) → FitsFirst columns vs → low_of columns vs None ≡ behind_values vs all_begin
low_of_equal [] [] f = refl
low_of_equal [] (v ∷ vs) f = absurd f
low_of_equal (d ∷ columns) [] f = refl
low_of_equal (d ∷ columns) (v ∷ vs) f = ap (λ (x : Cut). record { values = v ∷ x.values; behind = x.behind }) (low_of_equal columns vs f.1)

pub high_of_equal : (columns : List KeyColumn) (vs : List Value) → FitsFirst columns vs → high_of columns vs None ≡ behind_values vs all_end
high_of_equal [] [] f = refl
high_of_equal [] (v ∷ vs) f = absurd f
high_of_equal (d ∷ columns) [] f = refl
high_of_equal (d ∷ columns) (v ∷ vs) f = ap (λ (x : Cut). record { values = v ∷ x.values; behind = x.behind }) (high_of_equal columns vs f.1)

-- ---- values of the columns

pub equal_fit : (columns : List KeyColumn) (vs : List Value) → FitsFirst columns vs → FitsLeading columns vs None
equal_fit [] [] f = tt
equal_fit [] (v ∷ vs) f = absurd f
equal_fit (c ∷ columns) [] f = tt
equal_fit (c ∷ columns) (v ∷ vs) f = (f.0, equal_fit columns vs f.1)

pub leading_fits : (columns : List KeyColumn) (vs : List Value) (c : KeyColumn) (span : Span) → length vs < length columns → c ≡ get_or columns (length vs) c → FitsFirst columns vs → FitsSpan c span → FitsLeading columns vs (Some span)
leading_fits [] vs c span l e f g = absurd (omega arith)
leading_fits (d ∷ columns) [] c span l e f g = subst (λ (x : KeyColumn). FitsSpan x span) e g
leading_fits (d ∷ columns) (v ∷ vs) c span l e f g = (f.0, leading_fits columns vs c span (omega arith) e f.1 g)

-- there are columns for the values, and one for the span
pub enough : (columns : List KeyColumn) (vs : List Value) (span : Option Span) → IsFor columns vs span → length vs ≤ length columns
enough [] [] None h = omega arith
enough [] [] (Some span) h = absurd h
enough [] (v ∷ vs) span h = absurd h
enough (c ∷ columns) [] span h = omega arith
enough (c ∷ columns) (v ∷ vs) span h = let l = enough columns vs span h in omega arith

pub span_column : (columns : List KeyColumn) (vs : List Value) (span : Span) → IsFor columns vs (Some span) → length vs < length columns
span_column [] [] span h = absurd h
span_column [] (v ∷ vs) span h = absurd h
span_column (c ∷ columns) [] span h = omega arith
span_column (c ∷ columns) (v ∷ vs) span h = let l = span_column columns vs span h in omega arith

pub span_is_for : (columns : List KeyColumn) (vs : List Value) (c : KeyColumn) (span : Span) → IsFor columns vs (Some span) → c ≡ get_or columns (length vs) c → EdgeIsFor c span.lower × EdgeIsFor c span.upper
span_is_for [] [] c span h e = absurd h
span_is_for [] (v ∷ vs) c span h e = absurd h
span_is_for (d ∷ columns) [] c span h e = subst (λ (x : KeyColumn). EdgeIsFor x span.lower × EdgeIsFor x span.upper) (sym e) h
span_is_for (d ∷ columns) (v ∷ vs) c span h e = span_is_for columns vs c span h e

pub first_enough : (columns : List KeyColumn) (vs : List Value) → FitsFirst columns vs → length vs ≤ length columns
first_enough [] [] f = omega arith
first_enough [] (v ∷ vs) f = absurd f
first_enough (c ∷ columns) [] f = omega arith
first_enough (c ∷ columns) (v ∷ vs) f = let l = first_enough columns vs f.1 in omega arith

-- a row that begins with them has values of the columns there
pub led_fit : (columns : List KeyColumn) (vs row : List Value) → Fits columns row → take (length vs) row ≡ vs → FitsFirst columns vs
led_fit columns [] row f e = none columns
  where
    none : (columns : List KeyColumn) → FitsFirst columns []
    none [] = tt
    none (c ∷ columns) = tt
led_fit [] (v ∷ vs) [] f e = cc
led_fit [] (v ∷ vs) (w ∷ row) f e = absurd f
led_fit (c ∷ columns) (v ∷ vs) [] f e = absurd f
led_fit (c ∷ columns) (v ∷ vs) (w ∷ row) f e =
    let head : w ≡ v = cc in
    let tail : take (length vs) row ≡ vs = cc in (subst (λ (x : Value). FitsColumn c x) head f.0, led_fit columns vs row f.1 tail)

-- one column more
pub first_more : (columns : List KeyColumn) (vs : List Value) (n : ℕ) (d : Value) (c : KeyColumn) → n < length vs → n < length columns → c ≡ get_or columns n c → FitsFirst columns (take n vs) → FitsColumn c (get_or vs n d) → FitsFirst columns (take (suc n) vs)
first_more columns [] n d c l m e f g = absurd (omega arith)
first_more [] (v ∷ vs) n d c l m e f g = absurd (omega arith)
first_more (x ∷ columns) (v ∷ vs) zero d c l m e f g = (subst (λ (y : KeyColumn). FitsColumn y v) e g, none columns)
  where
    none : (columns : List KeyColumn) → FitsFirst columns []
    none [] = tt
    none (c ∷ columns) = tt
first_more (x ∷ columns) (v ∷ vs) (suc n) d c l m e f g = (f.0, first_more columns vs n d c (omega arith) (omega arith) e f.1 g)

pub first_at : (columns : List KeyColumn) (vs : List Value) (n : ℕ) (d : Value) (c : KeyColumn) → n < length vs → n < length columns → c ≡ get_or columns n c → FitsFirst columns vs → FitsColumn c (get_or vs n d)
first_at columns [] n d c l m e f = absurd (omega arith)
first_at [] (v ∷ vs) n d c l m e f = absurd (omega arith)
first_at (x ∷ columns) (v ∷ vs) zero d c l m e f = subst (λ (y : KeyColumn). FitsColumn y v) (sym e) f.0
first_at (x ∷ columns) (v ∷ vs) (suc n) d c l m e f = first_at columns vs n d c (omega arith) (omega arith) e f.1

-- ---- between two places

greater_or_not : (low key : List ℕ) → (slice_cmp nat_cmp low key ≢ Greater) ↔ (slice_cmp nat_cmp key low ≡ Less → ⊥)
greater_or_not low key =
    let t = nat_list_cmp_total.antisymm low key in (
      λ n h. n (t ∙ ap ordering_reverse h),
      λ n h. n (turned (slice_cmp nat_cmp key low) (sym t ∙ h)),
    )
  where
    turned : (o : Ordering) → ordering_reverse o ≡ Greater → o ≡ Less
    turned Less e = refl
    turned Equal e = cc
    turned Greater e = cc

pub between_is : (low : List ℕ) (high : Option (List ℕ)) (key : List ℕ) → IsBetween low high key ↔ ((IsBelow key (Some low) → ⊥) × IsBelow key high)
between_is low None key = let g = greater_or_not low key in (λ h. (g.0 h, tt), λ h. g.1 h.0)
between_is low (Some high) key = let g = greater_or_not low key in (λ h. (g.0 h.0, h.1), λ h. (g.1 h.0, h.1))

pub none_between : (key : List ℕ) → IsBetween [] (Some []) key → ⊥
none_between [] h = let e = h.1 in cc
none_between (b ∷ key) h = let e = h.1 in cc

-- ---- rows

pub led_equal : (columns : List KeyColumn) (vs row : List Value) → FitsFirst columns vs → Fits columns row → ((StandsBefore columns (spelled columns row) (behind_values vs all_begin) → ⊥) × StandsBefore columns (spelled columns row) (behind_values vs all_end)) ↔ IsLed (record { equal = vs; span = None }) row
led_equal columns vs row f g =
    let r = range_is columns (record { equal = vs; span = None }) row g (equal_fit columns vs f) in
    subst (λ (x : Cut). ((StandsBefore columns (spelled columns row) x → ⊥) × StandsBefore columns (spelled columns row) (behind_values vs all_end)) ↔ IsLed (record { equal = vs; span = None }) row) (low_of_equal columns vs f)
    (subst (λ (x : Cut). ((StandsBefore columns (spelled columns row) (low_of columns vs None) → ⊥) × StandsBefore columns (spelled columns row) x) ↔ IsLed (record { equal = vs; span = None }) row) (high_of_equal columns vs f) r)

pub led_span : (columns : List KeyColumn) (vs row : List Value) (c : KeyColumn) (span : Span) → FitsFirst columns vs → IsFor columns vs (Some span) → c ≡ get_or columns (length vs) c → is_beyond c span ≡ false → Fits columns row → (let w = span_within c span in ((StandsBefore columns (spelled columns row) (behind_values vs (start_of c.direction c.may_be_null w.lower w.upper)) → ⊥) × StandsBefore columns (spelled columns row) (behind_values vs (cut_end c.direction c.may_be_null w.lower w.upper)))) ↔ IsLed (record { equal = vs; span = Some span }) row
led_span columns vs row c span f o e b g =
    let w = span_within c span in
    let l = span_column columns vs span o in
    let is = span_is_for columns vs c span o e in
    let r = range_is columns (record { equal = vs; span = Some w }) row g (leading_fits columns vs c w l e f (within_fits c span is b)) in
    let q = subst (λ (x : Cut). ((StandsBefore columns (spelled columns row) x → ⊥) × StandsBefore columns (spelled columns row) (behind_values vs (cut_end c.direction c.may_be_null w.lower w.upper))) ↔ IsLed (record { equal = vs; span = Some w }) row) (low_is columns vs c w l e)
    (subst (λ (x : Cut). ((StandsBefore columns (spelled columns row) (low_of columns vs (Some w)) → ⊥) × StandsBefore columns (spelled columns row) x) ↔ IsLed (record { equal = vs; span = Some w }) row) (high_is columns vs c w l e) r) in
    let same = first_within (length vs) columns c span row g l e is in (
      λ h. (let k = q.0 h in (k.0, same.1 k.1)),
      λ h. q.1 (h.0, same.0 h.1),
    )

pub led_beyond : (columns : List KeyColumn) (vs row : List Value) (c : KeyColumn) (span : Span) → IsFor columns vs (Some span) → c ≡ get_or columns (length vs) c → is_beyond c span ≡ true → Fits columns row → IsLed (record { equal = vs; span = Some span }) row → ⊥
led_beyond columns vs row c span o e b g h =
    never_first (length vs) columns c span row g (span_column columns vs span o) e (span_is_for columns vs c span o e) b h.1

-- the places are of values of the columns
pub start_fits_first : (columns : List KeyColumn) (vs : List Value) (c : KeyColumn) (span : Span) → FitsFirst columns vs → IsFor columns vs (Some span) → c ≡ get_or columns (length vs) c → is_beyond c span ≡ false → (let w = span_within c span in FitsFirst columns (vs ++ (start_of c.direction c.may_be_null w.lower w.upper).values))
start_fits_first columns vs c span f o e b =
    let w = span_within c span in
    let l = span_column columns vs span o in
    let g = leading_fits columns vs c w l e f (within_fits c span (span_is_for columns vs c span o e) b) in
    subst (λ (x : Cut). FitsFirst columns x.values) (low_is columns vs c w l e) (low_fits columns vs (Some w) g)

pub end_fits_first : (columns : List KeyColumn) (vs : List Value) (c : KeyColumn) (span : Span) → FitsFirst columns vs → IsFor columns vs (Some span) → c ≡ get_or columns (length vs) c → is_beyond c span ≡ false → (let w = span_within c span in FitsFirst columns (vs ++ (cut_end c.direction c.may_be_null w.lower w.upper).values))
end_fits_first columns vs c span f o e b =
    let w = span_within c span in
    let l = span_column columns vs span o in
    let g = leading_fits columns vs c w l e f (within_fits c span (span_is_for columns vs c span o e) b) in
    subst (λ (x : Cut). FitsFirst columns x.values) (high_is columns vs c w l e) (high_fits columns vs (Some w) g)

-- ---- parts

pub spelled_front : (columns : List KeyColumn) (vs : List Value) → spelled (take (length vs) columns) vs ≡ spelled columns vs
spelled_front columns [] = nothing (take 0 columns) ∙ sym (nothing columns)
  where
    nothing : (columns : List KeyColumn) → spelled columns [] ≡ []
    nothing [] = refl
    nothing (c ∷ columns) = refl
spelled_front [] (v ∷ vs) = refl
spelled_front (c ∷ columns) (v ∷ vs) = ap (λ (bytes : List ℕ). part_bytes c v ++ bytes) (spelled_front columns vs)

parts_all : (parts : List Part) (columns : List KeyColumn) → FitsFirst columns (values_of parts) → columns_of parts ≡ take (length parts) columns → All (λ part. PartFits part ⊎ IsNullFixed part) parts
parts_all [] columns f e = All-nil (λ part. PartFits part ⊎ IsNullFixed part)
parts_all (p ∷ parts) [] f e = absurd f
parts_all (p ∷ parts) (c ∷ columns) f e =
    let head : p.column ≡ c = cc in
    let tail : columns_of parts ≡ take (length parts) columns = cc in
    All-cons (λ part. PartFits part ⊎ IsNullFixed part) p parts (inl (subst (λ (x : KeyColumn). FitsColumn x p.value.now) (sym head) f.0)) (parts_all parts columns f.1 tail)

values_count : (parts : List Part) → length (values_of parts) ≡ length parts
values_count [] = refl
values_count (p ∷ parts) = ap suc (values_count parts)

-- what leading parts are: of these values, and of the first columns
parts_count : (parts : List Part) (equal next : List Value) → values_of parts ≡ equal ++ next → length parts ≡ length equal + length next
parts_count parts equal next e =
    let l = values_count parts in let k : length (values_of parts) ≡ length (equal ++ next) = ap length e in omega (arith, length-append equal next)

pub parts_fit : (parts : List Part) (columns : List KeyColumn) (equal next : List Value) → FitsFirst columns (equal ++ next) → values_of parts ≡ equal ++ next → columns_of parts ≡ take (length equal + length next) columns → All (λ part. PartFits part ⊎ IsNullFixed part) parts
parts_fit parts columns equal next f e g =
    parts_all parts columns (subst (λ (vs : List Value). FitsFirst columns vs) (sym e) f) (g ∙ ap (λ (n : ℕ). take n columns) (sym (parts_count parts equal next e)))

pub front_spelled : (parts : List Part) (columns : List KeyColumn) (equal next : List Value) → values_of parts ≡ equal ++ next → columns_of parts ≡ take (length equal + length next) columns → spelled (columns_of parts) (values_of parts) ≡ spelled columns (equal ++ next)
front_spelled parts columns equal next e g =
    ap (λ (cs : List KeyColumn). spelled cs (values_of parts)) (g ∙ ap (λ (n : ℕ). take n columns) (sym (length-append equal next))) ∙ ap (λ (vs : List Value). spelled (take (length (equal ++ next)) columns) vs) e
    ∙ spelled_front columns (equal ++ next)

-- ---- the column of the span, as code reads it

abbrev pub no_column : KeyColumn
no_column = record { ty = TinyInt; direction = Ascending; may_be_null = false }

abbrev pub column_at : List KeyColumn → ℕ → KeyColumn
column_at columns n = get_or columns n no_column

pub at_itself : (columns : List KeyColumn) (n : ℕ) → n < length columns → column_at columns n ≡ get_or columns n (column_at columns n)
at_itself [] n l = absurd (omega arith)
at_itself (c ∷ columns) zero l = refl
at_itself (c ∷ columns) (suc n) l = at_itself columns n (omega arith)

pub stands_as : (c : KeyColumn) (bytes : List ℕ) (b : Bool) → (IsTrue b ↔ (FitsColumn c (Text bytes) ⊎ ((◌≡◌ {A = Value} (Text bytes) Null) × (c.may_be_null ≡ false) × (c.ty ≢ Varchar)))) → b ≡ can_bound c.ty (Text bytes)
stands_as c bytes true h = elim (h.0 refl) [ inl f ↦ sym (text_bounds c.ty bytes f.0) | inr n ↦ (let z = n.0 in cc) ]
stands_as c bytes false h = by_test (can_bound c.ty (Text bytes)) refl
  where
    by_test : (t : Bool) → can_bound c.ty (Text bytes) ≡ t → false ≡ t
    by_test false e = refl
    by_test true e = (let z = h.1 (inl (let k = bounds_class c.ty (Text bytes) e in k.0, λ z. cc)) in cc)

-- a span's places are those of the span within the column's type
pub start_within : (x : Cut) (c : KeyColumn) (span : Span) (l u : Option Edge) → x ≡ start_of c.direction c.may_be_null l u → l ≡ lower_within c span.lower → u ≡ upper_within c span.upper → x ≡ start_of c.direction c.may_be_null (lower_within c span.lower) (upper_within c span.upper)
start_within x c span l u e f g = e ∙ ap (λ (y : Option Edge). start_of c.direction c.may_be_null y u) f ∙ ap (λ (y : Option Edge). start_of c.direction c.may_be_null (lower_within c span.lower) y) g

pub end_within : (x : Cut) (c : KeyColumn) (span : Span) (l u : Option Edge) → x ≡ cut_end c.direction c.may_be_null l u → l ≡ lower_within c span.lower → u ≡ upper_within c span.upper → x ≡ cut_end c.direction c.may_be_null (lower_within c span.lower) (upper_within c span.upper)
end_within x c span l u e f g = e ∙ ap (λ (y : Option Edge). cut_end c.direction c.may_be_null y u) f ∙ ap (λ (y : Option Edge). cut_end c.direction c.may_be_null (lower_within c span.lower) y) g

-- the rows between two such places
pub between_span : (columns : List KeyColumn) (vs row : List Value) (c : KeyColumn) (span : Span) (low high : Cut) (between : Type 0) → FitsFirst columns vs → IsFor columns vs (Some span) → c ≡ get_or columns (length vs) c → is_beyond c span ≡ false → low ≡ start_of c.direction c.may_be_null (lower_within c span.lower) (upper_within c span.upper) → high ≡ cut_end c.direction c.may_be_null (lower_within c span.lower) (upper_within c span.upper) → Fits columns row → (between ↔ ((StandsBefore columns (spelled columns row) (behind_values vs low) → ⊥) × StandsBefore columns (spelled columns row) (behind_values vs high))) → between ↔ IsLed (record { equal = vs; span = Some span }) row
between_span columns vs row c span low high between f o e b l h g is =
    let s = led_span columns vs row c span f o e b g in
    let t = subst (λ (x : Cut). ((StandsBefore columns (spelled columns row) (behind_values vs x) → ⊥) × StandsBefore columns (spelled columns row) (behind_values vs (cut_end c.direction c.may_be_null (lower_within c span.lower) (upper_within c span.upper)))) ↔ IsLed (record { equal = vs; span = Some span }) row) (sym l) s in
    let u = subst (λ (x : Cut). ((StandsBefore columns (spelled columns row) (behind_values vs low) → ⊥) × StandsBefore columns (spelled columns row) (behind_values vs x)) ↔ IsLed (record { equal = vs; span = Some span }) row) (sym h) t in (
      λ x. u.0 (is.0 x),
      λ x. is.1 (u.1 x),
    )
