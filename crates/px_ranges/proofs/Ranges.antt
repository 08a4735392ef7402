-- The range of keys, by the order of their values.
use Rattle.std.proofs.Common.{◌≡◌, ◌≢◌, subst, ◌↔◌, ◌⊎◌, inl, inr, ℕ, Bool, true, false, not, List, [], ◌∷◌, ◌++◌, length, take, drop, refl, sym, ap, ◌∙◌, Option, Some, None, append_assoc}
use Rattle.std.proofs.lemmas.List.{append-nil}
use Rattle.std.specs.Cmp.Lexicographic.{slice_cmp}
use Rattle.std.specs.Ordering.{nat_cmp, is_eq, ordering_then, ordering_reverse}
use Rattle.std.specs.declared.cmp.Ordering.{Ordering}
use Rattle.std.specs.declared.cmp.Ordering.TheVariants.{Less, Equal, Greater}
use Rattle.px_values.specs.Compare.{compare_of}
use Rattle.px_values.specs.Order.{value_order}
use Rattle.px_values.proofs.Equal.{value_order-Decides}
use Rattle.px_values.specs.declared.order.Direction.TheVariants.{Ascending, Descending}
use Rattle.px_values.specs.declared.order.Direction.{Direction}
use Rattle.px_values.specs.declared.row.Value.{Value}
use Rattle.px_values.specs.declared.row.Value.TheVariants.{Null, Number, Truth, Text}
use Rattle.px_keys.specs.KeyOrder.{parts_order}
use Rattle.px_keys.specs.Range.{IsPrefix}
use Rattle.px_keys.specs.Spelling.{Fits, FitsColumn, part_bytes, spelled}
use Rattle.px_keys.specs.declared.parts.KeyColumn.{KeyColumn}
use Rattle.px_keys.proofs.KeyOrders.{spelled_order, part_same}
use Rattle.px_ranges.specs.declared.leading.Edge.{Edge}
use Rattle.px_ranges.specs.declared.leading.Span.{Span}
use Rattle.px_ranges.specs.declared.leading.Leading.{Leading}
use Rattle.px_ranges.specs.Led.{Inside, IsOver, IsUnder, FirstIsIn, IsLed}
use Rattle.px_ranges.specs.inner.Cuts.{Cut, FitsFirst, StandsBefore, beside, all_begin, start_of, cut_end, within, low_of, high_of, IsKeyInRange, FitsEdge, FitsLeading}

then_same : (o : Ordering) → ordering_then o Equal ≡ o
then_same Less = refl
then_same Equal = refl
then_same Greater = refl

-- the first part decides, where it isn't equal
part_order : (column : KeyColumn) (v w : Value) (fs gs : List ℕ) → FitsColumn column v → FitsColumn column w → slice_cmp nat_cmp (part_bytes column v ++ fs) (part_bytes column w ++ gs) ≡ ordering_then (compare_of column.direction v w) (slice_cmp nat_cmp fs gs)
part_order column v w fs gs h k =
    let e = spelled_order (column ∷ []) (v ∷ []) (w ∷ []) fs gs (h, tt) (k, tt) in
    let f : ordering_then (compare_of column.direction v w) Equal ≡ compare_of column.direction v w = then_same (compare_of column.direction v w) in
    simp (append-nil (part_bytes column v), append-nil (part_bytes column w), f) at e

never_below : (bytes : List ℕ) → slice_cmp nat_cmp bytes [] ≡ Less → ⊥
never_below [] e = cc
never_below (b ∷ bytes) e = cc

then_less : (o p : Ordering) → (ordering_then o p ≡ Less) ↔ ((o ≡ Less) ⊎ ((o ≡ Equal) × (p ≡ Less)))
then_less Less p = (λ e. inl refl, λ h. refl)
then_less Equal p = (λ e. inr (refl, e), λ h. elim h [ inl e ↦ cc | inr e ↦ e.1 ])
then_less Greater p = (λ e. cc, λ h. elim h [ inl e ↦ cc | inr e ↦ cc ])

-- the key of a row stands below these leading values exactly where its own do
pub below_front : (columns : List KeyColumn) (row vs : List Value) → Fits columns row → FitsFirst columns vs → (slice_cmp nat_cmp (spelled columns row) (spelled columns vs) ≡ Less) ↔ (parts_order columns row vs ≡ Less)
below_front [] [] [] f g = (λ e. cc, λ e. cc)
below_front [] (w ∷ row) vs f g = absurd f
below_front [] [] (v ∷ vs) f g = absurd g
below_front (c ∷ columns) [] vs f g = absurd f
below_front (c ∷ columns) (w ∷ row) [] f g = (λ e. absurd (never_below (part_bytes c w ++ spelled columns row) e), λ e. cc)
below_front (c ∷ columns) (w ∷ row) (v ∷ vs) f g =
    let rest = below_front columns row vs f.1 g.1 in
    let e = part_order c w v (spelled columns row) (spelled columns vs) f.0 g.0 in
    let first = compare_of c.direction w v in
    let bytes = then_less first (slice_cmp nat_cmp (spelled columns row) (spelled columns vs)) in
    let parts = then_less first (parts_order columns row vs) in (
      λ h. parts.1 (elim (bytes.0 (sym e ∙ h)) [ inl x ↦ inl x | inr x ↦ inr (x.0, rest.0 x.1) ]),
      λ h. e ∙ bytes.1 (elim (parts.0 h) [ inl x ↦ inl x | inr x ↦ inr (x.0, rest.1 x.1) ]),
    )

-- ---- keys that begin with leading values

pub value_exact : (v w : Value) → value_order v w ≡ Equal → v ≡ w
value_exact v w e = (value_order-Decides v w).0 (ap is_eq e)

pub value_same : (v w : Value) → v ≡ w → value_order v w ≡ Equal
value_same v w e = let d = (value_order-Decides v w).1 e in is_equal (value_order v w) d
  where
    is_equal : (o : Ordering) → is_eq o ≡ true → o ≡ Equal
    is_equal Less d = cc
    is_equal Equal d = refl
    is_equal Greater d = cc

compare_exact : (d : Direction) (v w : Value) → compare_of d v w ≡ Equal → v ≡ w
compare_exact Ascending v w e = value_exact v w e
compare_exact Descending v w e = value_exact v w (equal_back (value_order v w) e)
  where
    equal_back : (o : Ordering) → ordering_reverse o ≡ Equal → o ≡ Equal
    equal_back Less e = cc
    equal_back Equal e = refl
    equal_back Greater e = cc

compare_same : (d : Direction) (v w : Value) → v ≡ w → compare_of d v w ≡ Equal
compare_same Ascending v w e = value_same v w e
compare_same Descending v w e = ap ordering_reverse (value_same v w e)

then_both : (a b : Ordering) → ordering_then a b ≡ Equal → (a ≡ Equal) × (b ≡ Equal)
then_both Less b e = cc
then_both Equal b e = (refl, e)
then_both Greater b e = cc

begins_all : (bytes : List ℕ) → IsPrefix [] bytes
begins_all bytes = (bytes, refl)

-- the key of a row begins with leading values exactly where the row does
pub begins_front : (columns : List KeyColumn) (row vs : List Value) → Fits columns row → FitsFirst columns vs → IsPrefix (spelled columns vs) (spelled columns row) ↔ (parts_order columns row vs ≡ Equal)
begins_front [] [] [] f g = (λ b. refl, λ e. begins_all [])
begins_front [] (w ∷ row) vs f g = absurd f
begins_front [] [] (v ∷ vs) f g = absurd g
begins_front (c ∷ columns) [] vs f g = absurd f
begins_front (c ∷ columns) (w ∷ row) [] f g = (λ b. refl, λ e. begins_all (part_bytes c w ++ spelled columns row))
begins_front (c ∷ columns) (w ∷ row) (v ∷ vs) f g =
    let rest = begins_front columns row vs f.1 g.1 in (
      λ b.
          let same = part_same c w v (spelled columns row) (spelled columns vs ++ b.0) f.0 g.0 (b.1 ∙ append_assoc (part_bytes c v) (spelled columns vs) b.0) in
          ap (λ (o : Ordering). ordering_then o (parts_order columns row vs)) (compare_same c.direction w v same.0) ∙ rest.0 (b.0, same.1),
      λ e.
          let both = then_both (compare_of c.direction w v) (parts_order columns row vs) e in
          let same = compare_exact c.direction w v both.0 in
          let more = rest.1 both.1 in
          (more.0, ap (λ (x : Value). part_bytes c x ++ spelled columns row) same ∙ ap (λ (r : List ℕ). part_bytes c v ++ r) more.1 ∙ sym (append_assoc (part_bytes c v) (spelled columns vs) more.0)),
    )

-- the row stands before a cut
abbrev pub Precedes : List KeyColumn → List Value → Cut → Type 0
Precedes columns row cut = (parts_order columns row cut.values ≡ Less) ⊎ ((cut.behind ≡ true) × (parts_order columns row cut.values ≡ Equal))

pub before_cut : (columns : List KeyColumn) (row : List Value) (cut : Cut) → Fits columns row → FitsFirst columns cut.values → StandsBefore columns (spelled columns row) cut ↔ Precedes columns row cut
before_cut columns row cut f g =
    let less = below_front columns row cut.values f g in
    let begin = begins_front columns row cut.values f g in (
      λ h. elim h [ inl e ↦ inl (less.0 e) | inr e ↦ inr (e.0, begin.0 e.1) ],
      λ h. elim h [ inl e ↦ inl (less.1 e) | inr e ↦ inr (e.0, begin.1 e.1) ],
    )

-- ---- one column

null_below : (w v : Value) → v ≢ Null → w ≡ Null → value_order w v ≡ Less
null_below w v n e = ap (λ (x : Value). value_order x v) e ∙ least v n
  where
    least : (v : Value) → v ≢ Null → value_order Null v ≡ Less
    least Null n = absurd (n refl)
    least (Number x) n = refl
    least (Truth x) n = refl
    least (Text x) n = refl

above_null : (w : Value) → (w ≢ Null) ↔ (value_order w Null ≡ Greater)
above_null Null = (λ n. absurd (n refl), λ e. cc)
above_null (Number x) = (λ n. refl, λ e f. cc)
above_null (Truth x) = (λ n. refl, λ e f. cc)
above_null (Text x) = (λ n. refl, λ e f. cc)

null_same : (w : Value) → w ≡ Null → value_order w Null ≡ Equal
null_same w e = value_same w Null e

-- not outside an edge is inside it
not_outside : (i : Bool) (o : Ordering) → (Inside Less (not i) o → ⊥) ↔ Inside Greater i o
not_outside i Less = (λ n. absurd (n (inl refl)), λ h k. elim h [ inl e ↦ cc | inr e ↦ let f = e.1 in cc ])
not_outside true Equal = (λ n. inr (refl, refl), λ h k. elim k [ inl e ↦ cc | inr e ↦ let f = e.0 in cc ])
not_outside false Equal = (λ n. absurd (n (inr (refl, refl))), λ h k. elim h [ inl e ↦ cc | inr e ↦ let f = e.0 in cc ])
not_outside i Greater = (λ n. inl refl, λ h k. elim k [ inl e ↦ cc | inr e ↦ let f = e.1 in cc ])

reversed_less : (i : Bool) (o : Ordering) → Inside Less i (ordering_reverse o) ↔ Inside Greater i o
reversed_less i Less = (λ h. elim h [ inl e ↦ cc | inr e ↦ let f = e.1 in cc ], λ h. elim h [ inl e ↦ cc | inr e ↦ let f = e.1 in cc ])
reversed_less i Equal = (λ h. elim h [ inl e ↦ cc | inr e ↦ inr e ], λ h. elim h [ inl e ↦ cc | inr e ↦ inr e ])
reversed_less i Greater = (λ h. inl refl, λ h. inl refl)

reversed_greater : (i : Bool) (o : Ordering) → Inside Greater i (ordering_reverse o) ↔ Inside Less i o
reversed_greater i Greater = (λ h. elim h [ inl e ↦ cc | inr e ↦ let f = e.1 in cc ], λ h. elim h [ inl e ↦ cc | inr e ↦ let f = e.1 in cc ])
reversed_greater i Equal = (λ h. elim h [ inl e ↦ cc | inr e ↦ inr e ], λ h. elim h [ inl e ↦ cc | inr e ↦ inr e ])
reversed_greater i Less = (λ h. inl refl, λ h. inl refl)

-- a value over an edge isn't NULL
over_not_null : (w v : Value) (i : Bool) → v ≢ Null → Inside Greater i (value_order w v) → w ≢ Null
over_not_null w v i n h e = elim h [
  | inl g ↦ absurd (let f = null_below w v n e in let z : ◌≡◌ {A = Ordering} Less Greater = sym f ∙ g in cc)
  | inr g ↦ absurd (let f = null_below w v n e in let z : ◌≡◌ {A = Ordering} Less Equal = sym f ∙ g.1 in cc)
]

-- the row stands before a cut, by the order of its values and those of the cut
abbrev Earlier : (List Value → Ordering) → Cut → Type 0
Earlier ord cut = Inside Less cut.behind (ord cut.values)

-- the order is that of the first value
record IsFirst (d : Direction) (w : Value) (ord : List Value → Ordering) : Type 0 where
  none : ord [] ≡ Equal
  one : (v : Value) → ord (v ∷ []) ≡ compare_of d w v

abbrev EdgeSet : Option Edge → Type 0
EdgeSet None = Unit {0}
EdgeSet (Some edge) = edge.value ≢ Null

not_begun : (ord : List Value → Ordering) → ord [] ≡ Equal → Earlier ord all_begin → ⊥
not_begun ord e h = elim h [ inl f ↦ let z : ◌≡◌ {A = Ordering} Equal Less = sym e ∙ f in cc | inr f ↦ let g = f.0 in cc ]

up_start : (w : Value) (ord : List Value → Ordering) → IsFirst Ascending w ord → (nullable : Bool) (lower upper : Option Edge) → (w ≡ Null → nullable ≡ true) → EdgeSet lower → (Earlier ord (start_of Ascending nullable lower upper) → ⊥) ↔ ((w ≢ Null) × IsOver lower w)
up_start w ord f nullable (Some edge) upper c s =
    let h = not_outside edge.included (value_order w edge.value) in
    let e = f.one edge.value in (
      λ n. (let i = h.0 (λ x. n (subst (λ o. Inside Less (not edge.included) o) (sym e) x)) in (over_not_null w edge.value edge.included s i, i)),
      λ i x. h.1 i.1 (subst (λ o. Inside Less (not edge.included) o) e x),
    )
up_start w ord f true None upper c s =
    let e = f.one Null in (
      λ n. (λ z. n (inr (refl, e ∙ null_same w z)), tt),
      λ i x. let g = (above_null w).0 i.0 in elim x [
        | inl y ↦ let z : ◌≡◌ {A = Ordering} Greater Less = sym g ∙ sym e ∙ y in cc
        | inr y ↦ let z : ◌≡◌ {A = Ordering} Greater Equal = sym g ∙ sym e ∙ y.1 in cc
      ],
    )
up_start w ord f false None upper c s = (λ n. (λ z. let g = c z in cc, tt), λ i x. not_begun ord f.none x)

up_end : (w : Value) (ord : List Value → Ordering) → IsFirst Ascending w ord → (nullable : Bool) (lower upper : Option Edge) → Earlier ord (cut_end Ascending nullable lower upper) ↔ IsUnder upper w
up_end w ord f nullable lower (Some edge) =
    let e = f.one edge.value in (λ x. subst (λ o. Inside Less edge.included o) e x, λ x. subst (λ o. Inside Less edge.included o) (sym e) x)
up_end w ord f nullable lower None = (λ x. tt, λ x. inr (refl, f.none))

down_start : (w : Value) (ord : List Value → Ordering) → IsFirst Descending w ord → (nullable : Bool) (lower upper : Option Edge) → (Earlier ord (start_of Descending nullable lower upper) → ⊥) ↔ IsUnder upper w
down_start w ord f nullable lower (Some edge) =
    let o = value_order w edge.value in
    let h = not_outside edge.included (ordering_reverse o) in
    let r = reversed_greater edge.included o in
    let e = f.one edge.value in (
      λ n. r.0 (h.0 (λ x. n (subst (λ o. Inside Less (not edge.included) o) (sym e) x))),
      λ i x. h.1 (r.1 i) (subst (λ o. Inside Less (not edge.included) o) e x),
    )
down_start w ord f nullable lower None = (λ x. tt, λ i x. not_begun ord f.none x)

down_end : (w : Value) (ord : List Value → Ordering) → IsFirst Descending w ord → (nullable : Bool) (lower upper : Option Edge) → (w ≡ Null → nullable ≡ true) → EdgeSet lower → Earlier ord (cut_end Descending nullable lower upper) ↔ ((w ≢ Null) × IsOver lower w)
down_end w ord f nullable (Some edge) upper c s =
    let r = reversed_less edge.included (value_order w edge.value) in
    let e = f.one edge.value in (
      λ x. (let i = r.0 (subst (λ o. Inside Less edge.included o) e x) in (over_not_null w edge.value edge.included s i, i)),
      λ i. subst (λ o. Inside Less edge.included o) (sym e) (r.1 i.1),
    )
down_end w ord f true None upper c s =
    let e = f.one Null in (
      λ x. elim x [
        | inl y ↦ ((above_null w).1 (turned (value_order w Null) (sym e ∙ y)), tt)
        | inr y ↦ let g = y.0 in cc
      ],
      λ i. inl (e ∙ ap ordering_reverse ((above_null w).0 i.0)),
    )
  where
    turned : (o : Ordering) → ordering_reverse o ≡ Less → o ≡ Greater
    turned Less e = cc
    turned Equal e = cc
    turned Greater e = refl
down_end w ord f false None upper c s = (λ x. (λ z. let g = c z in cc, tt), λ i. inr (refl, f.none))

in_span : (d : Direction) (w : Value) (ord : List Value → Ordering) → IsFirst d w ord → (nullable : Bool) (lower upper : Option Edge) → (w ≡ Null → nullable ≡ true) → EdgeSet lower → ((Earlier ord (start_of d nullable lower upper) → ⊥) × Earlier ord (cut_end d nullable lower upper)) ↔ ((w ≢ Null) × IsOver lower w × IsUnder upper w)
in_span Ascending w ord f nullable lower upper c s =
    let a = up_start w ord f nullable lower upper c s in
    let b = up_end w ord f nullable lower upper in (λ h. (let x = a.0 h.0 in (x.0, x.1, b.0 h.1)), λ h. (a.1 (h.0, h.1), b.1 h.2))
in_span Descending w ord f nullable lower upper c s =
    let a = down_start w ord f nullable lower upper in
    let b = down_end w ord f nullable lower upper c s in (λ h. (let x = b.0 h.1 in (x.0, x.1, a.0 h.0)), λ h. (a.1 h.2, b.1 (h.0, h.1)))

-- ---- rows

parts_none : (columns : List KeyColumn) (row : List Value) → parts_order columns row [] ≡ Equal
parts_none [] [] = refl
parts_none [] (w ∷ row) = refl
parts_none (c ∷ columns) [] = refl
parts_none (c ∷ columns) (w ∷ row) = refl

is_first : (c : KeyColumn) (columns : List KeyColumn) (w : Value) (row : List Value) → IsFirst c.direction w (parts_order (c ∷ columns) (w ∷ row))
is_first c columns w row = record {
  none = refl;
  one = λ v. ap (λ (o : Ordering). ordering_then (compare_of c.direction w v) o) (parts_none columns row) ∙ then_same (compare_of c.direction w v);
}

edge_set : (c : KeyColumn) (e : Option Edge) → FitsEdge c e → EdgeSet e
edge_set c None f = tt
edge_set c (Some edge) f = f.1

-- a cut among the keys with a first value
precedes_within : (c : KeyColumn) (columns : List KeyColumn) (w v : Value) (row : List Value) (cut : Cut) → Precedes (c ∷ columns) (w ∷ row) (within v cut) ↔ ((compare_of c.direction w v ≡ Less) ⊎ ((compare_of c.direction w v ≡ Equal) × Precedes columns row cut))
precedes_within c columns w v row cut =
    let first = compare_of c.direction w v in
    let rest = parts_order columns row cut.values in
    let less = then_less first rest in (
      λ h. elim h [
        | inl e ↦ elim (less.0 e) [ inl x ↦ inl x | inr x ↦ inr (x.0, inl x.1) ]
        | inr e ↦ let both = then_both first rest e.1 in inr (both.0, inr (e.0, both.1))
      ],
      λ h. elim h [
        | inl e ↦ inl (less.1 (inl e))
        | inr e ↦ elim e.1 [
          | inl x ↦ inl (less.1 (inr (e.0, x)))
          | inr x ↦ inr (x.0, ap (λ (o : Ordering). ordering_then o rest) e.0 ∙ x.1)
        ]
      ],
    )

-- the row stands between the two cuts exactly where it begins with the values, and its next value is in the span
pub between_cuts : (columns : List KeyColumn) (vs : List Value) (span : Option Span) (row : List Value) → Fits columns row → FitsLeading columns vs span → ((Precedes columns row (low_of columns vs span) → ⊥) × Precedes columns row (high_of columns vs span)) ↔ ((take (length vs) row ≡ vs) × FirstIsIn span (drop (length vs) row))
between_cuts [] [] None row f g =
    (λ h. (refl, tt), λ h. (not_begun (parts_order [] row) (parts_none [] row), inr (refl, parts_none [] row)))
between_cuts [] [] (Some span) row f g = absurd g
between_cuts [] (v ∷ vs) span row f g = absurd g
between_cuts (c ∷ columns) [] None row f g =
    (λ h. (refl, tt), λ h. (not_begun (parts_order (c ∷ columns) row) (parts_none (c ∷ columns) row), inr (refl, parts_none (c ∷ columns) row)))
between_cuts (c ∷ columns) [] (Some span) [] f g = absurd f
between_cuts (c ∷ columns) [] (Some span) (w ∷ row) f g =
    let s = in_span c.direction w (parts_order (c ∷ columns) (w ∷ row)) (is_first c columns w row) c.may_be_null span.lower span.upper f.0.1 (edge_set c span.lower g.0) in
    (λ h. (refl, s.0 h), λ h. s.1 h.1)
between_cuts (c ∷ columns) (v ∷ vs) span [] f g = absurd f
between_cuts (c ∷ columns) (v ∷ vs) span (w ∷ row) f g =
    let rest = between_cuts columns vs span row f.1 g.1 in
    let low = precedes_within c columns w v row (low_of columns vs span) in
    let high = precedes_within c columns w v row (high_of columns vs span) in
    let d = c.direction in (
      λ h. elim (high.0 h.1) [
        | inl e ↦ absurd (h.0 (low.1 (inl e)))
        | inr e ↦
            let found = rest.0 (λ x. h.0 (low.1 (inr (e.0, x))), e.1) in
            let same : w ≡ v = compare_exact d w v e.0 in
            (ap (λ (x : Value). x ∷ take (length vs) row) same ∙ ap (λ (r : List Value). v ∷ r) found.0, found.1)
      ],
      λ h.
          let same : w ≡ v = heads w v (take (length vs) row) vs h.0 in
          let others : take (length vs) row ≡ vs = tails w v (take (length vs) row) vs h.0 in
          let back = rest.1 (others, h.1) in
          let equal = compare_same d w v same in (
            λ x. elim (low.0 x) [
              | inl e ↦ let z : ◌≡◌ {A = Ordering} Equal Less = sym equal ∙ e in cc
              | inr e ↦ back.0 e.1
            ],
            high.1 (inr (equal, back.1)),
          ),
    )
  where
    heads : (x y : Value) (xs ys : List Value) → x ∷ xs ≡ y ∷ ys → x ≡ y
    heads x y xs ys e = cc

    tails : (x y : Value) (xs ys : List Value) → x ∷ xs ≡ y ∷ ys → xs ≡ ys
    tails x y xs ys e = cc

-- ---- the values of the cuts are values of the columns

edge_fits : (c : KeyColumn) (columns : List KeyColumn) (edge : Edge) (b : Bool) → FitsEdge c (Some edge) → FitsFirst (c ∷ columns) (beside edge.value b).values
edge_fits c columns edge b f = ((f.0, λ e. absurd (f.1 e)), none_fits columns)
  where
    none_fits : (columns : List KeyColumn) → FitsFirst columns []
    none_fits [] = tt
    none_fits (c ∷ columns) = tt

null_fits : (c : KeyColumn) (columns : List KeyColumn) (b n : Bool) → c.may_be_null ≡ n → n ≡ true → FitsFirst (c ∷ columns) (beside Null b).values
null_fits c columns b n e t = ((tt, λ z. e ∙ t), none_fits columns)
  where
    none_fits : (columns : List KeyColumn) → FitsFirst columns []
    none_fits [] = tt
    none_fits (c ∷ columns) = tt

start_fits : (c : KeyColumn) (columns : List KeyColumn) (d : Direction) (n : Bool) (lower upper : Option Edge) → c.may_be_null ≡ n → FitsEdge c lower → FitsEdge c upper → FitsFirst (c ∷ columns) (start_of d n lower upper).values
start_fits c columns Ascending n (Some edge) upper e f g = edge_fits c columns edge (not edge.included) f
start_fits c columns Ascending true None upper e f g = null_fits c columns true true e refl
start_fits c columns Ascending false None upper e f g = tt
start_fits c columns Descending n lower (Some edge) e f g = edge_fits c columns edge (not edge.included) g
start_fits c columns Descending n lower None e f g = tt

end_fits : (c : KeyColumn) (columns : List KeyColumn) (d : Direction) (n : Bool) (lower upper : Option Edge) → c.may_be_null ≡ n → FitsEdge c lower → FitsEdge c upper → FitsFirst (c ∷ columns) (cut_end d n lower upper).values
end_fits c columns Ascending n lower (Some edge) e f g = edge_fits c columns edge edge.included g
end_fits c columns Ascending n lower None e f g = tt
end_fits c columns Descending n (Some edge) upper e f g = edge_fits c columns edge edge.included f
end_fits c columns Descending true None upper e f g = null_fits c columns false true e refl
end_fits c columns Descending false None upper e f g = tt

pub low_fits : (columns : List KeyColumn) (vs : List Value) (span : Option Span) → FitsLeading columns vs span → FitsFirst columns (low_of columns vs span).values
low_fits [] [] None g = tt
low_fits [] [] (Some span) g = absurd g
low_fits [] (v ∷ vs) span g = absurd g
low_fits (c ∷ columns) [] None g = tt
low_fits (c ∷ columns) [] (Some span) g = start_fits c columns c.direction c.may_be_null span.lower span.upper refl g.0 g.1
low_fits (c ∷ columns) (v ∷ vs) span g = (g.0, low_fits columns vs span g.1)

pub high_fits : (columns : List KeyColumn) (vs : List Value) (span : Option Span) → FitsLeading columns vs span → FitsFirst columns (high_of columns vs span).values
high_fits [] [] None g = tt
high_fits [] [] (Some span) g = absurd g
high_fits [] (v ∷ vs) span g = absurd g
high_fits (c ∷ columns) [] None g = tt
high_fits (c ∷ columns) [] (Some span) g = end_fits c columns c.direction c.may_be_null span.lower span.upper refl g.0 g.1
high_fits (c ∷ columns) (v ∷ vs) span g = (g.0, high_fits columns vs span g.1)

-- the range has exactly the keys of the rows that begin so
pub range_is : (columns : List KeyColumn) (l : Leading) (row : List Value) → Fits columns row → FitsLeading columns l.equal l.span → IsKeyInRange columns l (spelled columns row) ↔ IsLed l row
range_is columns l row f g =
    let low = before_cut columns row (low_of columns l.equal l.span) f (low_fits columns l.equal l.span g) in
    let high = before_cut columns row (high_of columns l.equal l.span) f (high_fits columns l.equal l.span g) in
    let values = between_cuts columns l.equal l.span row f g in (
      λ h. values.0 (λ x. h.0 (low.1 x), high.0 h.1),
      λ h. let v = values.1 h in (λ x. v.0 (low.0 x), high.1 v.1),
    )
