-- What is found in the sorted list of a row's cells is what a point sees.
use Rattle.std.proofs.Common.{◌≡◌, ◌≢◌, ℕ, zero, suc, ◌<◌, ◌≤◌, ◌⊎◌, Bool, true, false, not, ◌&&◌, ◌||◌, Option, Some, None, List, [], ◌∷◌, length, get_or, refl, ap, sym, ◌∙◌, subst, inl, inr, arith}
use Rattle.std.specs.Prelude.{nat_eq, nat_lt, is_some}
use Rattle.std.specs.List.{AllWithin}
use Rattle.std.specs.List.Sorted.{IsPartitionedBy}
use Rattle.std.proofs.lemmas.Bool.{cases_Bool, cases_eq, cases_lt, eq-eqb, eqb-true, lt-ltb, ltb-true, both_ways, and_parts, leb-true, leb-false}
use Rattle.std.specs.declared.cmp.Ordering.TheVariants.{Less}
use Rattle.px_cells.specs.declared.kind.CellKind.{CellKind}
use Rattle.px_cells.specs.declared.kind.CellKind.TheVariants.{Put, Delete, DeleteFamilyVersion, DeleteColumn, DeleteFamily}
use Rattle.px_cells.specs.Among.{Has}
use Rattle.px_cells.specs.CellData.{CellData}
use Rattle.px_cells.specs.Contents.{Contents, cell_of, value_at}
use Rattle.px_cells.specs.Kind.{code_of, is_family}
use Rattle.px_cells.specs.Order.{Below, IsAscending, IsCellList, GoesWith, key_cmp}
use Rattle.px_cells.specs.Sight.{seen_at, stops_at, puts_at}
use Rattle.px_cells.proofs.Among.{all_has, has_from_reads, reads_from_has}
use Rattle.px_cells.proofs.Contents.{reads_from_value, value_from_reads}
use Rattle.px_cells.proofs.Newest.{newest-at, newest-is, newest-nothing}
use Rattle.px_cells.proofs.Orders.{Order, order_from_below, by_key, by_qualifier, by_stamp, by_kind, equal_key}
use Rattle.px_cells.proofs.RowLemmas.{below_at}
use Rattle.px_rows.specs.Spelled.{IsPlainAt}
use Rattle.px_rows.specs.inner.Found.{AreOf, HasNoCell, IsFamily, IsNewestCell, IsSeen, hidden_by, is_before}

-- ---- which cells stand before

before_from : (q p : ℕ) (c : CellData) → (c.qualifier < q) ⊎ ((c.qualifier ≡ q) × (p < c.stamp)) → is_before q p c ≡ true
before_from q p c (inl l) = ap (λ (b : Bool). b || (nat_eq c.qualifier q && nat_lt p c.stamp)) (lt-ltb c.qualifier q l)
before_from q p c (inr h) = (λ i. nat_lt c.qualifier q || (eq-eqb c.qualifier q h.0 i && lt-ltb p c.stamp h.1 i)) ∙ or_true (nat_lt c.qualifier q)
  where
    or_true : (a : Bool) → (a || true) ≡ true
    or_true true = refl
    or_true false = refl

before_to : (q p : ℕ) (c : CellData) → is_before q p c ≡ true → (c.qualifier < q) ⊎ ((c.qualifier ≡ q) × (p < c.stamp))
before_to q p c h = elim (cases_Bool (nat_lt c.qualifier q)) [
  | inl a ↦ inl (ltb-true c.qualifier q a)
  | inr a ↦ (let z : (nat_eq c.qualifier q && nat_lt p c.stamp) ≡ true = sym (ap (λ (b : Bool). b || (nat_eq c.qualifier q && nat_lt p c.stamp)) a) ∙ h in let parts = and_parts _ _ z in inr (eqb-true c.qualifier q parts.0, ltb-true p c.stamp parts.1))
]

not_before : (q p : ℕ) (c : CellData) → is_before q p c ≡ false → (q ≤ c.qualifier) × (c.qualifier ≡ q → c.stamp ≤ p)
not_before q p c h = (
  elim (cases_lt c.qualifier q) [ inl l ↦ absurd (both_ways _ h (before_from q p c (inl l))) | inr l ↦ l ],
  λ e. elim (cases_lt p c.stamp) [ inl l ↦ absurd (both_ways _ h (before_from q p c (inr (e, l)))) | inr l ↦ l ],
)

other_key : (a b : CellData) → a.key ≡ b.key → key_cmp a.key b.key ≢ Less
other_key a b e h = (let z = equal_key a.key b.key e in cc)

has_in : (xs : List CellData) (i : ℕ) (d : CellData) → i < length xs → Has xs (get_or xs i d)
has_in [] i d l = absurd (omega arith)
has_in (x ∷ xs) zero d l = inl refl
has_in (x ∷ xs) (suc i) d l = inr (has_in xs i d (omega arith))

-- a cell of a list has a place in it
index_of : (xs : List CellData) (m d : CellData) → Has xs m → (j : ℕ) × (j < length xs) × (get_or xs j d ≡ m)
index_of [] m d h = absurd h
index_of (x ∷ xs) m d (inl e) = (0, omega arith, e)
index_of (x ∷ xs) m d (inr h) = (let z = index_of xs m d h in (suc z.0, (let l = z.1 in omega arith), z.2))

-- where all keys are one, the cells before come first
pub parted : (cells : List CellData) (k : List ℕ) (q p : ℕ) → IsAscending cells → AreOf k cells → IsPartitionedBy (is_before q p) cells
parted cells k q p a own i j d l h before = elim (cases_eq i j) [
  | inl e ↦ subst (λ (n : ℕ). is_before q p (get_or cells n d) ≡ true) (sym e) before
  | inr n ↦ by (order_from_below (get_or cells i d) (get_or cells j d) (below_at cells i j d a (omega arith) h)) (before_to q p (get_or cells j d) before)
]
  where
    one_key : (get_or cells i d).key ≡ (get_or cells j d).key
    one_key = all_has (λ c. c.key ≡ k) cells (get_or cells i d) own (has_in cells i d (omega arith)) ∙ sym (all_has (λ c. c.key ≡ k) cells (get_or cells j d) own (has_in cells j d h))

    by : Order (get_or cells i d) (get_or cells j d) → ((get_or cells j d).qualifier < q) ⊎ (((get_or cells j d).qualifier ≡ q) × (p < (get_or cells j d).stamp)) → is_before q p (get_or cells i d) ≡ true
    by (by_key e) o = absurd (other_key (get_or cells i d) (get_or cells j d) one_key e)
    by (by_qualifier _ m) (inl o) = before_from q p (get_or cells i d) (inl (omega arith))
    by (by_qualifier _ m) (inr o) = before_from q p (get_or cells i d) (inl (let e = o.0 in omega arith))
    by (by_stamp _ e m) (inl o) = before_from q p (get_or cells i d) (inl (omega arith))
    by (by_stamp _ e m) (inr o) = before_from q p (get_or cells i d) (inr (e ∙ o.0, (let z = o.1 in omega arith)))
    by (by_kind _ e m _) (inl o) = before_from q p (get_or cells i d) (inl (omega arith))
    by (by_kind _ e m _) (inr o) = before_from q p (get_or cells i d) (inr (e ∙ o.0, (let z = o.1 in omega arith)))

-- ---- the cell at the first place behind them

module _ (cells : List CellData) (k : List ℕ) (q p i : ℕ) (asc : IsAscending cells) (own : AreOf k cells) (before : AllWithin (λ c. is_before q p c ≡ true) cells 0 i) (after : AllWithin (λ c. is_before q p c ≡ false) cells i (length cells)) where
  -- a cell of the column at or below the point stands there or later
  there : (u : ℕ) (d : CellKind) (v : List ℕ) (c : CellData) → value_at cells k q u d ≡ Some v → u ≤ p → (j : ℕ) × (j < length cells) × (get_or cells j c ≡ cell_of k q u d v) × (i ≤ j)
  there u d v c e l =
      let at = index_of cells (cell_of k q u d v) c (has_from_reads cells (cell_of k q u d v) (reads_from_value cells k q u d v e)) in
      (at.0, at.1, at.2, late at.0 at.2)
    where
      late : (j : ℕ) → get_or cells j c ≡ cell_of k q u d v → i ≤ j
      late j z = elim (cases_lt j i) [
        | inl m ↦ absurd (by (before_to q p (cell_of k q u d v) (subst (λ (x : CellData). is_before q p x ≡ true) z (before j c (omega arith) m))))
        | inr m ↦ m
      ]
        where
          by : (q < q) ⊎ ((q ≡ q) × (p < u)) → ⊥
          by (inl o) = omega arith
          by (inr o) = let y = o.1 in omega arith

  no_value : (o : Option (List ℕ)) → ((v : List ℕ) → o ≡ Some v → ⊥) → o ≡ None
  no_value None f = refl
  no_value (Some v) f = absurd (f v refl)

  pub none_behind : length cells ≤ i → HasNoCell (value_at cells) k q p
  none_behind l = record { each = λ u d m. no_value (value_at cells k q u d) (λ v e. (let at = there u d v (cell_of k q u d v) e m in let a = at.1 in let b = at.3 in omega arith)) }

  module _ (c : CellData) (l : i < length cells) (is : c ≡ get_or cells i c) where
    c_after : (q ≤ c.qualifier) × (c.qualifier ≡ q → c.stamp ≤ p)
    c_after = not_before q p c (subst (λ (x : CellData). is_before q p x ≡ false) (sym is) (after i c (omega arith) l))

    c_has : Has cells c
    c_has = subst (Has cells) (sym is) (has_in cells i c l)

    c_key : c.key ≡ k
    c_key = all_has (λ x. x.key ≡ k) cells c own c_has

    -- a cell of the column is this one, or comes behind it
    same_or_below : (u : ℕ) (d : CellKind) (v : List ℕ) → value_at cells k q u d ≡ Some v → u ≤ p → (c ≡ cell_of k q u d v) ⊎ Below c (cell_of k q u d v)
    same_or_below u d v e m =
        let at = there u d v c e m in
        elim (cases_eq i at.0) [
          | inl z ↦ inl (is ∙ (ap (λ (n : ℕ). get_or cells n c) z ∙ at.2))
          | inr z ↦ inr (let x : i ≤ at.0 = at.3 in let y : at.0 < length cells = at.1 in subst (λ (w : CellData). Below c w) at.2 (subst (λ (w : CellData). Below w (get_or cells at.0 c)) (sym is) (below_at cells i at.0 c asc (omega arith) y)))
        ]

    -- what such a place says of the cell
    placed_by : (u : ℕ) (d : CellKind) (v : List ℕ) → (c ≡ cell_of k q u d v) ⊎ Below c (cell_of k q u d v) → (c.qualifier ≡ q) × ((u < c.stamp) ⊎ ((c.stamp ≡ u) × (code_of d ≤ code_of c.kind)))
    placed_by u d v (inl e) = (ap (λ (x : CellData). x.qualifier) e, inr (ap (λ (x : CellData). x.stamp) e, (let z : code_of c.kind ≡ code_of d = ap (λ (x : CellData). code_of x.kind) e in omega arith)))
    placed_by u d v (inr b) = by (order_from_below c (cell_of k q u d v) b)
      where
        by : Order c (cell_of k q u d v) → (c.qualifier ≡ q) × ((u < c.stamp) ⊎ ((c.stamp ≡ u) × (code_of d ≤ code_of c.kind)))
        by (by_key e) = absurd (other_key c (cell_of k q u d v) c_key e)
        by (by_qualifier _ m) = absurd (let z = c_after.0 in omega arith)
        by (by_stamp _ e m) = (e, inl m)
        by (by_kind _ e m n) = (e, inr (sym m, omega arith))

    pub none_of_other : c.qualifier ≢ q → HasNoCell (value_at cells) k q p
    none_of_other n = record { each = λ u d m. no_value (value_at cells k q u d) (λ v e. n (placed_by u d v (same_or_below u d v e m)).0) }

    pub newest_here : c.qualifier ≡ q → IsNewestCell (value_at cells) k q p c
    newest_here e = record {
      within = c_after.1 e;
      stands = subst (λ (x : List ℕ). value_at cells x q c.stamp c.kind ≡ Some c.value) c_key (subst (λ (x : ℕ). value_at cells c.key x c.stamp c.kind ≡ Some c.value) e (value_from_reads cells c.key c.qualifier c.stamp c.kind c.value (reads_from_has cells c asc c_has)));
      above = λ u d a m. no_value (value_at cells k q u d) (λ v z. below_stamp u d a (placed_by u d v (same_or_below u d v z m)).1);
      first = λ d a. no_value (value_at cells k q c.stamp d) (λ v z. below_code d a (placed_by c.stamp d v (same_or_below c.stamp d v z (c_after.1 e))).1);
    }
      where
        below_stamp : (u : ℕ) (d : CellKind) → c.stamp < u → (u < c.stamp) ⊎ ((c.stamp ≡ u) × (code_of d ≤ code_of c.kind)) → ⊥
        below_stamp u d a (inl o) = omega arith
        below_stamp u d a (inr o) = let z = o.0 in omega arith

        below_code : (d : CellKind) → code_of c.kind < code_of d → (c.stamp < c.stamp) ⊎ ((c.stamp ≡ c.stamp) × (code_of d ≤ code_of c.kind)) → ⊥
        below_code d a (inl o) = omega arith
        below_code d a (inr o) = let z = o.1 in omega arith

-- ---- the newest DeleteFamily

module _ (cells : List CellData) (list : IsCellList cells) (k : List ℕ) (p : ℕ) (plain : IsPlainAt (value_at cells) k) where
  abbrev g : Contents
  g = value_at cells

  -- a marker of a row stands at qualifier 0, and there nothing else
  placed_at : (q s : ℕ) (d : CellKind) (v : List ℕ) → g k q s d ≡ Some v → (is_family d ≡ true → q ≡ 0) × (q ≡ 0 → is_family d ≡ true)
  placed_at q s d v e = (let h : GoesWith (cell_of k q s d v) = all_has GoesWith cells (cell_of k q s d v) list.placed (has_from_reads cells (cell_of k q s d v) (reads_from_value cells k q s d v e)) in (h.0, h.1))

  pub family_none : HasNoCell g k 0 p → IsFamily g k p None
  family_none h = λ u l. h.each u DeleteFamily l

  pub family_some : (c : CellData) → IsNewestCell g k 0 p c → IsFamily g k p (Some c.stamp)
  family_some c h = (h.within, (c.value, by c.kind h.stands), λ u a l. h.above u DeleteFamily a l)
    where
      by : (d : CellKind) → g k 0 c.stamp d ≡ Some c.value → g k 0 c.stamp DeleteFamily ≡ Some c.value
      by DeleteFamily e = e
      by Put e = absurd (let z = (placed_at 0 c.stamp Put c.value e).1 refl in cc)
      by Delete e = absurd (let z = (placed_at 0 c.stamp Delete c.value e).1 refl in cc)
      by DeleteColumn e = absurd (let z = (placed_at 0 c.stamp DeleteColumn c.value e).1 refl in cc)
      by DeleteFamilyVersion e = absurd (let z = plain.no_version c.stamp in cc)

  -- ---- the put that is seen

  module _ (q : ℕ) where
    none_newest : (o : Option ℕ) → ((t : ℕ) → o ≡ Some t → ⊥) → o ≡ None
    none_newest None f = refl
    none_newest (Some t) f = absurd (f t refl)

    put_off : (u : ℕ) → g k q u Put ≡ None → puts_at g k q u ≡ false
    put_off u e = ap (λ (o : Option (List ℕ)). is_some o && not (is_some (g k 0 u DeleteFamilyVersion))) e

    pub seen_none : HasNoCell g k q p → seen_at g k q p ≡ None
    seen_none h = newest-nothing (stops_at g k q) (puts_at g k q) p (λ u l. put_off u (h.each u Put l))

    -- a put above which a stop stands at or below the point isn't seen
    hidden_from : (c : CellData) → IsNewestCell g k q p c → (h : ℕ) → c.stamp ≤ h → h ≤ p → stops_at g k q h ≡ true → seen_at g k q p ≡ None
    hidden_from c n h a b e = none_newest (seen_at g k q p) (λ t z.
        (let i = newest-is (stops_at g k q) (puts_at g k q) p t z in
        elim (cases_lt c.stamp t) [
          | inl l ↦ both_ways _ (put_off t (n.above t Put l i.within)) i.hits
          | inr l ↦ both_ways _ (i.clear h (omega arith) b) e
        ]))

    or_true : (a : Bool) → (a || true) ≡ true
    or_true true = refl
    or_true false = refl

    stop_by_family : (u : ℕ) (v : List ℕ) → g k 0 u DeleteFamily ≡ Some v → stops_at g k q u ≡ true
    stop_by_family u v e = ap (λ (o : Option (List ℕ)). is_some o || (is_some (g k q u DeleteColumn) && not (is_some (g k 0 u DeleteFamilyVersion)))) e

    stop_by_column : (u : ℕ) (v : List ℕ) → g k q u DeleteColumn ≡ Some v → stops_at g k q u ≡ true
    stop_by_column u v e = (λ i. is_some (g k 0 u DeleteFamily) || (is_some (e i) && not (is_some (plain.no_version u i)))) ∙ or_true (is_some (g k 0 u DeleteFamily))

    pub seen_other : (c : CellData) → IsNewestCell g k q p c → c.kind ≢ Put → seen_at g k q p ≡ None
    seen_other c n f = by c.kind refl n.stands
      where
        by : (d : CellKind) → c.kind ≡ d → g k q c.stamp d ≡ Some c.value → seen_at g k q p ≡ None
        by Put z e = absurd (f z)
        by Delete z e = absurd (let y = plain.no_delete q c.stamp in cc)
        by DeleteColumn z e = hidden_from c n c.stamp (omega arith) n.within (stop_by_column c.stamp c.value e)
        by DeleteFamily z e = (let y : q ≡ 0 = (placed_at q c.stamp DeleteFamily c.value e).0 refl in hidden_from c n c.stamp (omega arith) n.within (stop_by_family c.stamp c.value (subst (λ (x : ℕ). g k x c.stamp DeleteFamily ≡ Some c.value) y e)))
        by DeleteFamilyVersion z e = absurd (let y : q ≡ 0 = (placed_at q c.stamp DeleteFamilyVersion c.value e).0 refl in let x : g k 0 c.stamp DeleteFamilyVersion ≡ Some c.value = subst (λ (x : ℕ). g k x c.stamp DeleteFamilyVersion ≡ Some c.value) y e in let w = plain.no_version c.stamp in cc)

    pub seen_hidden : (c : CellData) → IsNewestCell g k q p c → (family : Option ℕ) → IsFamily g k p family → hidden_by family c.stamp ≡ true → seen_at g k q p ≡ None
    seen_hidden c n None f h = cc
    seen_hidden c n (Some t) f h = hidden_from c n t (leb-true c.stamp t h) f.0 (stop_by_family t f.1.0 f.1.1)

    pub seen_put : (c : CellData) → IsNewestCell g k q p c → c.kind ≡ Put → (family : Option ℕ) → IsFamily g k p family → hidden_by family c.stamp ≡ false → IsSeen g k q p c
    seen_put c n e family f h = record {
      seen = newest-at (stops_at g k q) (puts_at g k q) p c.stamp (record {
        within = n.within;
        hits = (λ i. is_some (put i) && not (is_some (plain.no_version c.stamp i)));
        none = λ u a l. put_off u (n.above u Put a l);
        clear = λ u a l. (λ i. is_some (no_family family f h u a l i) || (is_some (no_column u a l i) && not (is_some (g k 0 u DeleteFamilyVersion))));
      });
      value = put;
    }
      where
        put : g k q c.stamp Put ≡ Some c.value
        put = subst (λ (d : CellKind). g k q c.stamp d ≡ Some c.value) e n.stands

        no_column : (u : ℕ) → c.stamp ≤ u → u ≤ p → g k q u DeleteColumn ≡ None
        no_column u a l = elim (cases_eq c.stamp u) [
          | inl z ↦ subst (λ (x : ℕ). g k q x DeleteColumn ≡ None) z (n.first DeleteColumn (subst (λ (d : CellKind). code_of d < 12) (sym e) (omega arith)))
          | inr z ↦ n.above u DeleteColumn (omega arith) l
        ]

        no_family : (family : Option ℕ) → IsFamily g k p family → hidden_by family c.stamp ≡ false → (u : ℕ) → c.stamp ≤ u → u ≤ p → g k 0 u DeleteFamily ≡ None
        no_family None f h u a l = f u l
        no_family (Some t) f h u a l = f.2 u (let z : t < c.stamp = leb-false c.stamp t h in omega arith) l

-- ---- two reads of one place

read_any : (xs : List CellData) (i : ℕ) (d e : CellData) → i < length xs → get_or xs i d ≡ get_or xs i e
read_any [] i d e l = absurd (omega arith)
read_any (x ∷ xs) zero d e l = refl
read_any (x ∷ xs) (suc i) d e l = read_any xs i d e (omega arith)

pub same_qualifier : (xs : List CellData) (i : ℕ) (a b : CellData) → {q : ℕ} → i < length xs → a ≡ get_or xs i a → b ≡ get_or xs i b → a.qualifier ≡ q → b.qualifier ≡ q
same_qualifier xs i a b l x y e = ap (λ (c : CellData). c.qualifier) (y ∙ (read_any xs i b a l ∙ sym x)) ∙ e
