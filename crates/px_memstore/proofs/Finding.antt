-- The piece of a key, and the rows of one piece.
use Rattle.std.proofs.Common.{◌≡◌, ◌≢◌, ℕ, zero, suc, ◌+◌, ◌-◌, ◌<◌, ◌≤◌, ◌⊎◌, Bool, true, false, List, [], ◌∷◌, ◌++◌, length, take, drop, get_or, refl, sym, ◌∙◌, ap, subst, inl, inr, arith, append_assoc, Option, Some, None, take-append-drop}
use Rattle.std.specs.Prelude.{cond, map, reverse, slice_set}
use Rattle.std.specs.List.{AllByRecursion, AllWithin, insert}
use Rattle.std.specs.List.Sorted.{IsPartitionedBy}
use Rattle.std.specs.Ordering.{is_le, is_lt, ordering_reverse}
use Rattle.std.specs.declared.cmp.Ordering.{Ordering}
use Rattle.std.specs.declared.cmp.Ordering.TheVariants.{Less, Equal, Greater}
use Rattle.std.proofs.lemmas.Cmp.{nat_list_cmp_total}
use Rattle.std.proofs.lemmas.List.{append-nil, get_or-map, length-map, map-set, reverse-append}
use Rattle.px_cells.specs.CellData.{CellData}
use Rattle.px_cells.specs.Among.{Has}
use Rattle.px_cells.specs.Order.{Below, IsAscending, Reads, key_cmp}
use Rattle.px_cells.specs.Rows.{AllAbove, AllBelow, AreRows, IsBeforeEnd, IsRow}
use Rattle.px_cells.proofs.Among.{all_has, ascending_join, has_all, has_append, has_from_reads, has_left, has_right, reads_from_has}
use Rattle.px_cells.proofs.Orders.{Order, below_from_order, by_key, by_kind, by_qualifier, by_stamp, equal_key, key_equal, order_from_below}
use Rattle.px_memstore.specs.Pieces.{AreFirstRows, ArePiecesApart, KeysApart, chained}
use Rattle.px_memstore.specs.inner.Pieces.{ArePieces, HasMore, IsFilled, IsPlace, begins_by, cut_at}
use Rattle.px_memstore.proofs.Chained.{apart_right, back_above, chained_ascending, filled_at, front_below, has_back, has_next, has_parts, has_piece, less_not, piece_ascending, set_parts}

-- ---- keys

pub less_to : (a b c : List ℕ) → key_cmp a b ≡ Less → is_le (key_cmp b c) ≡ true → key_cmp a c ≡ Less
less_to a b c e h = by (key_cmp b c) refl h
  where
    by : (o : Ordering) → key_cmp b c ≡ o → is_le o ≡ true → key_cmp a c ≡ Less
    by Less q t = nat_list_cmp_total.trans a b c e q
    by Equal q t = subst (λ (k : List ℕ). key_cmp a k ≡ Less) (key_equal b c q) e
    by Greater q t = cc

pub less_from : (a b c : List ℕ) → key_cmp a b ≢ Greater → key_cmp b c ≡ Less → key_cmp a c ≡ Less
less_from a b c h e = by (key_cmp a b) refl
  where
    by : (o : Ordering) → key_cmp a b ≡ o → key_cmp a c ≡ Less
    by Less q = nat_list_cmp_total.trans a b c q e
    by Equal q = subst (λ (k : List ℕ). key_cmp k c ≡ Less) (sym (key_equal a b q)) e
    by Greater q = absurd (h q)

pub less_until : (a b c : List ℕ) → key_cmp a b ≡ Less → key_cmp c b ≢ Less → key_cmp a c ≡ Less
less_until a b c e h = by (key_cmp c b) refl
  where
    by : (o : Ordering) → key_cmp c b ≡ o → key_cmp a c ≡ Less
    by Less q = absurd (h q)
    by Equal q = subst (λ (k : List ℕ). key_cmp a k ≡ Less) (sym (key_equal c b q)) e
    by Greater q = nat_list_cmp_total.trans a b c e (nat_list_cmp_total.antisymm b c ∙ ap ordering_reverse q)

pub greater_of : (a b : List ℕ) → key_cmp a b ≡ Less → key_cmp b a ≡ Greater
greater_of a b e = nat_list_cmp_total.antisymm b a ∙ ap ordering_reverse e

pub less_of_greater : (a b : List ℕ) → key_cmp a b ≡ Greater → key_cmp b a ≡ Less
less_of_greater a b e = nat_list_cmp_total.antisymm b a ∙ ap ordering_reverse e

pub le_true : (o : Ordering) → o ≢ Greater → is_le o ≡ true
le_true Less h = refl
le_true Equal h = refl
le_true Greater h = absurd (h refl)

pub le_false : (o : Ordering) → is_le o ≡ false → o ≡ Greater
le_false Less h = cc
le_false Equal h = cc
le_false Greater h = refl

less_of : (o : Ordering) → is_lt o ≡ true → o ≡ Less
less_of Less h = refl
less_of Equal h = cc
less_of Greater h = cc

pub key_before : (a b : CellData) → Below a b → (key_cmp a.key b.key ≡ Less) ⊎ (a.key ≡ b.key)
key_before a b h = by (order_from_below a b h)
  where
    by : Order a b → (key_cmp a.key b.key ≡ Less) ⊎ (a.key ≡ b.key)
    by (by_key e) = inl e
    by (by_qualifier k _) = inr k
    by (by_stamp k _ _) = inr k
    by (by_kind k _ _ _) = inr k

-- ---- where pieces begin

drop_at : (ps : List (List CellData)) (i : ℕ) → i < length ps → drop i ps ≡ get_or ps i [] ∷ drop (i + 1) ps
drop_at [] i l = absurd (omega arith)
drop_at (p ∷ ps) zero l = refl
drop_at (p ∷ ps) (suc i) l = drop_at ps i (omega arith) ∙ ap (λ (n : ℕ). get_or ps i [] ∷ drop n (p ∷ ps)) next
  where
    next : suc (i + 1) ≡ suc i + 1
    next = omega arith

drop_none : (ps : List (List CellData)) (i : ℕ) → length ps ≤ i → drop i ps ≡ []
drop_none [] zero l = refl
drop_none [] (suc i) l = refl
drop_none (p ∷ ps) zero l = absurd (omega arith)
drop_none (p ∷ ps) (suc i) l = drop_none ps i (omega arith)

has_first : (ps : List (List CellData)) (i : ℕ) (d : List CellData) (c : CellData) (r : List CellData) → i < length ps → get_or ps i d ≡ c ∷ r → Has (chained ps) c
has_first [] i d c r l e = absurd (omega arith)
has_first (p ∷ ps) zero d c r l e = has_left p (chained ps) c (subst (λ (q : List CellData). Has q c) (sym e) (inl refl))
has_first (p ∷ ps) (suc i) d c r l e = has_right p (chained ps) c (has_first ps i d c r (omega arith) e)

filled_of : (ps : List (List CellData)) (i : ℕ) (d : List CellData) → i < length ps → AllByRecursion IsFilled ps → IsFilled (get_or ps i d)
filled_of [] i d l f = absurd (omega arith)
filled_of (p ∷ ps) zero d l f = f.0
filled_of (p ∷ ps) (suc i) d l f = filled_of ps i d (omega arith) f.1

-- where one begins at or below a key, so do those before it
falls : (ps : List (List CellData)) (i j : ℕ) (d : List CellData) (key : List ℕ) → ArePiecesApart ps → AllByRecursion IsFilled ps → i ≤ j → j < length ps → begins_by (get_or ps j d) key ≡ true → begins_by (get_or ps i d) key ≡ true
falls [] i j d key a f l h t = absurd (omega arith)
falls (p ∷ ps) zero zero d key a f l h t = t
falls (p ∷ ps) (suc i) zero d key a f l h t = absurd (omega arith)
falls (p ∷ ps) (suc i) (suc j) d key a f l h t = falls ps i j d key a.2 f.1 (omega arith) (omega arith) t
falls ([] ∷ ps) zero (suc j) d key a f l h t = refl
falls ((c ∷ r) ∷ ps) zero (suc j) d key a f l h t = by (get_or ps j d) refl (filled_of ps j d (omega arith) f.1) t
  where
    by : (q : List CellData) → get_or ps j d ≡ q → IsFilled q → begins_by q key ≡ true → is_le (key_cmp c.key key) ≡ true
    by [] e g b = absurd (omega (arith, g))
    by (n ∷ s) e g b = ap is_le (less_to c.key n.key key (a.1 c n (inl refl) (has_first ps j d n s (omega arith) e)) b)

pub parted_by : {X : Type 0} (f : X → List CellData) (xs : List X) (key : List ℕ) → ArePiecesApart (map f xs) → AllByRecursion IsFilled (map f xs) → IsPartitionedBy (λ x. begins_by (f x) key) xs
parted_by f xs key a g i j d l h p =
    subst (λ (q : List CellData). begins_by q key ≡ true) (get_or-map f xs i d (f d) (omega arith))
    (falls (map f xs) i j (f d) key a g l (let n = length-map xs f in omega (arith, n, h)) (subst (λ (q : List CellData). begins_by q key ≡ true) (sym (get_or-map f xs j d (f d) h)) p))

pub first_above : (p : List CellData) (rest : List (List CellData)) (key : List ℕ) → ArePiecesApart (p ∷ rest) → IsFilled p → begins_by p key ≡ false → AllAbove key (chained (p ∷ rest))
first_above [] rest key a g f = absurd (omega (arith, g))
first_above (c ∷ r) rest key a g f = has_all (λ m. key_cmp m.key key ≡ Greater) ((c ∷ r) ++ chained rest) each
  where
    up : key_cmp key c.key ≡ Less
    up = less_of_greater c.key key (le_false _ f)

    each : (m : CellData) → Has ((c ∷ r) ++ chained rest) m → key_cmp m.key key ≡ Greater
    each m h = elim (has_append (c ∷ r) (chained rest) m h) [
      | inl (inl e) ↦ subst (λ (x : CellData). key_cmp x.key key ≡ Greater) e (le_false _ f)
      | inl (inr b) ↦ elim (key_before c m (all_has (Below c) r m a.0.0 b)) [
        | inl k ↦ greater_of key m.key (nat_list_cmp_total.trans key c.key m.key up k)
        | inr k ↦ subst (λ (x : List ℕ). key_cmp x key ≡ Greater) k (le_false _ f)
      ]
      | inr b ↦ greater_of key m.key (nat_list_cmp_total.trans key c.key m.key up (a.1 c m (inl refl) b))
    ]

apart_from : (ps : List (List CellData)) (i : ℕ) → ArePiecesApart ps → ArePiecesApart (drop i ps)
apart_from ps i a = apart_right (take i ps) (drop i ps) (subst ArePiecesApart (sym (take-append-drop i ps)) a)

-- no row from a piece on is at or below a key, where that piece begins above it
above_from : (ps : List (List CellData)) (i : ℕ) (key : List ℕ) → ArePiecesApart ps → AllByRecursion IsFilled ps → (i < length ps → begins_by (get_or ps i []) key ≡ false) → AllAbove key (chained (drop i ps))
above_from [] i key a f h = subst (λ (l : List (List CellData)). AllAbove key (chained l)) (sym (drop_none [] i (omega arith))) tt
above_from (p ∷ ps) zero key a f h = first_above p ps key a f.0 (h (omega arith))
above_from (p ∷ ps) (suc i) key a f h = above_from ps i key a.2 f.1 (λ l. h (omega (arith, l)))

-- ---- the place of a key

place_is : (first : List CellData) (ps : List (List CellData)) (key : List ℕ) (i : ℕ) → ArePieces (first ∷ ps) → i ≤ length ps → ((j : ℕ) → j < i → begins_by (get_or ps j []) key ≡ true) → (i < length ps → begins_by (get_or ps i []) key ≡ false) → IsPlace (first ∷ ps) key i
place_is first ps key i a l t f = record {
  within = omega (arith, l);
  below = below i l t;
  above = subst (λ (n : ℕ). AllAbove key (chained (drop n (first ∷ ps)))) next (above_from ps i key a.apart.2 a.filled f);
  begins = begins i t;
}
  where
    next : suc i ≡ i + 1
    next = omega arith

    begins : (i : ℕ) → ((j : ℕ) → j < i → begins_by (get_or ps j []) key ≡ true) → 0 < i → begins_by (get_or (first ∷ ps) i []) key ≡ true
    begins zero t z = absurd (omega (arith, z))
    begins (suc j) t z = t j (omega arith)

    below : (i : ℕ) → i ≤ length ps → ((j : ℕ) → j < i → begins_by (get_or ps j []) key ≡ true) → AllBelow key (chained (take i (first ∷ ps)))
    below zero l t = tt
    below (suc j) l t = by (get_or ps j []) refl (filled_at ps j (omega (arith, l)) a.filled) (t j (omega arith))
      where
        by : (p : List CellData) → get_or ps j [] ≡ p → IsFilled p → begins_by p key ≡ true → AllBelow key (chained (take (suc j) (first ∷ ps)))
        by [] e g b = absurd (omega (arith, g))
        by (c ∷ r) e g b = has_all (λ m. key_cmp m.key key ≡ Less) (chained (take (suc j) (first ∷ ps)))
            (λ m h. less_to m.key c.key key (front_below (first ∷ ps) (suc j) (omega (arith, l)) a.apart m c h (subst (λ (q : List CellData). Has q c) (sym e) (inl refl))) b)

pub place_from : {X : Type 0} (f : X → List CellData) (first : List CellData) (xs : List X) (key : List ℕ) (i : ℕ) → ArePieces (first ∷ map f xs) → i ≤ length xs → AllWithin (λ x. begins_by (f x) key ≡ true) xs 0 i → AllWithin (λ x. begins_by (f x) key ≡ false) xs i (length xs) → IsPlace (first ∷ map f xs) key i
place_from {X} f first xs key i a l w v = place_is first (map f xs) key i a (let n = length-map xs f in omega (arith, n, l)) (at_true xs l w) (at_false xs v)
  where
    at_true : (xs : List X) → i ≤ length xs → AllWithin (λ x. begins_by (f x) key ≡ true) xs 0 i → (j : ℕ) → j < i → begins_by (get_or (map f xs) j []) key ≡ true
    at_true [] l w j h = absurd (omega (arith, l, h))
    at_true (x ∷ xs) l w j h = subst (λ (q : List CellData). begins_by q key ≡ true) (sym (get_or-map f (x ∷ xs) j x [] (omega (arith, l, h)))) (w j x (omega arith) h)

    at_false : (xs : List X) → AllWithin (λ x. begins_by (f x) key ≡ false) xs i (length xs) → i < length (map f xs) → begins_by (get_or (map f xs) i []) key ≡ false
    at_false [] v h = absurd (omega (arith, h))
    at_false (x ∷ xs) v h =
        let n = length-map (x ∷ xs) f in
        let m : i < length (x ∷ xs) = omega (arith, n, h) in
        subst (λ (q : List CellData). begins_by q key ≡ false) (sym (get_or-map f (x ∷ xs) i x [] m)) (v i x (omega arith) m)

-- ---- a row

pub row_at : (ps : List (List CellData)) (key : List ℕ) (at : ℕ) (row : List CellData) → ArePiecesApart ps → IsPlace ps key at → IsRow (get_or ps at []) key row → IsRow (chained ps) key row
row_at ps key at row a p r = record {
  ascending = r.ascending;
  exact = λ c. (
    λ h. (let z = (r.exact c).0 h in (reads_from_has (chained ps) c (chained_ascending ps a) (has_piece ps at p.within a c (has_from_reads (get_or ps at []) c z.0)), z.1)),
    λ z. (r.exact c).1 (here c (has_from_reads (chained ps) c z.0) z.1, z.1),
  );
}
  where
    here : (c : CellData) → Has (chained ps) c → c.key ≡ key → Reads (get_or ps at []) c
    here c h e = elim (has_parts ps at p.within a c h) [
      | inl x ↦ absurd (less_not c.key key (all_has (λ m. key_cmp m.key key ≡ Less) (chained (take at ps)) c p.below x) e)
      | inr (inl y) ↦ reads_from_has (get_or ps at []) c (piece_ascending ps at p.within a) y
      | inr (inr z) ↦ absurd (let g = all_has (λ m. key_cmp m.key key ≡ Greater) (chained (drop (at + 1) ps)) c p.above z in let q = equal_key c.key key e in cc)
    ]

-- ---- the first rows of a range

-- the cells before an end
abbrev kept : Option (List ℕ) → List CellData → List CellData
kept None cells = cells
kept (Some high) [] = []
kept (Some high) (c ∷ cells) = cond (is_lt (key_cmp c.key high)) (c ∷ kept (Some high) cells) (kept (Some high) cells)

kept_has : (high : Option (List ℕ)) (cells : List CellData) (c : CellData) → Has (kept high cells) c → Has cells c × IsBeforeEnd c.key high
kept_has None cells c h = (h, tt)
kept_has (Some high) [] c h = absurd h
kept_has (Some high) (x ∷ cells) c h = by (is_lt (key_cmp x.key high)) refl (kept_has (Some high) cells c) h
  where
    by : (b : Bool) → is_lt (key_cmp x.key high) ≡ b → (Has (kept (Some high) cells) c → Has cells c × (key_cmp c.key high ≡ Less)) → Has (cond b (x ∷ kept (Some high) cells) (kept (Some high) cells)) c → Has (x ∷ cells) c × (key_cmp c.key high ≡ Less)
    by true e f (inl q) = (inl q, subst (λ (y : CellData). key_cmp y.key high ≡ Less) q (less_of _ e))
    by true e f (inr g) = (inr (f g).0, (f g).1)
    by false e f g = (inr (f g).0, (f g).1)

has_kept : (high : Option (List ℕ)) (cells : List CellData) (c : CellData) → Has cells c → IsBeforeEnd c.key high → Has (kept high cells) c
has_kept None cells c h b = h
has_kept (Some high) [] c h b = absurd h
has_kept (Some high) (x ∷ cells) c h b = by (is_lt (key_cmp x.key high)) refl (λ g. has_kept (Some high) cells c g b) h
  where
    by : (t : Bool) → is_lt (key_cmp x.key high) ≡ t → (Has cells c → Has (kept (Some high) cells) c) → Has (x ∷ cells) c → Has (cond t (x ∷ kept (Some high) cells) (kept (Some high) cells)) c
    by true q f (inl e) = inl e
    by true q f (inr g) = inr (f g)
    by false q f (inl e) = absurd (let z = ap is_lt (subst (λ (y : CellData). key_cmp y.key high ≡ Less) (sym e) b) in let w : true ≡ false = sym z ∙ q in cc)
    by false q f (inr g) = f g

kept_ascending : (high : Option (List ℕ)) (cells : List CellData) → IsAscending cells → IsAscending (kept high cells)
kept_ascending None cells a = a
kept_ascending (Some high) [] a = tt
kept_ascending (Some high) (x ∷ cells) a = by (is_lt (key_cmp x.key high)) (kept_ascending (Some high) cells a.1)
  where
    by : (t : Bool) → IsAscending (kept (Some high) cells) → IsAscending (cond t (x ∷ kept (Some high) cells) (kept (Some high) cells))
    by true f = (has_all (Below x) (kept (Some high) cells) (λ m h. all_has (Below x) cells m a.0 (kept_has (Some high) cells m h).0), f)
    by false f = f

none_of : (xs : List CellData) → ((c : CellData) → Has xs c → ⊥) → xs ≡ []
none_of [] f = refl
none_of (x ∷ xs) f = absurd (f x (inl refl))

module _ (ps : List (List CellData)) (j : ℕ) (low : List ℕ) (high : Option (List ℕ)) (first : List CellData) (all : Bool) (l : j < length ps) (a : ArePiecesApart ps)
    (before : (c : CellData) → Has (chained (take j ps)) c → key_cmp c.key low ≢ Less → IsBeforeEnd c.key high → ⊥)
    (r : AreRows (get_or ps j []) low high first)
    (behind : (c : CellData) → Has (chained (drop (j + 1) ps)) c → key_cmp c.key low ≢ Less) where
  abbrev others : List CellData
  others = kept high (chained (drop (j + 1) ps))

  in_piece : (c : CellData) → Has first c → Has (get_or ps j []) c
  in_piece c h = has_from_reads (get_or ps j []) c ((r.exact c).0 (reads_from_has first c r.ascending h)).0

  apart : KeysApart first others
  apart m n h g = back_above ps j l a m n (in_piece m h) (kept_has high (chained (drop (j + 1) ps)) n g).0

  sorted : IsAscending (first ++ others)
  sorted = ascending_join first others r.ascending
      (kept_ascending high (chained (drop (j + 1) ps)) (chained_ascending (drop (j + 1) ps) (apart_from ps (j + 1) a)))
      (λ m n h g. below_from_order m n (by_key (apart m n h g)))

  to : (c : CellData) → Has (first ++ others) c → Reads (chained ps) c × ((key_cmp c.key low ≢ Less) × IsBeforeEnd c.key high)
  to c h = elim (has_append first others c h) [
    | inl x ↦ (let z = (r.exact c).0 (reads_from_has first c r.ascending x) in (reads_from_has (chained ps) c (chained_ascending ps a) (has_piece ps j l a c (has_from_reads (get_or ps j []) c z.0)), z.1))
    | inr y ↦ (let z = kept_has high (chained (drop (j + 1) ps)) c y in (reads_from_has (chained ps) c (chained_ascending ps a) (has_back ps j l a c z.0), (behind c z.0, z.1)))
  ]

  of : (c : CellData) → Has (chained ps) c → key_cmp c.key low ≢ Less → IsBeforeEnd c.key high → Has (first ++ others) c
  of c h u v = elim (has_parts ps j l a c h) [
    | inl x ↦ absurd (before c x u v)
    | inr (inl y) ↦ has_left first others c (has_from_reads first c ((r.exact c).1 (reads_from_has (get_or ps j []) c (piece_ascending ps j l a) y, (u, v))))
    | inr (inr z) ↦ has_right first others c (has_kept high (chained (drop (j + 1) ps)) c z v)
  ]

  pub first_rows : (all ≡ true → (c : CellData) → Has (chained (drop (j + 1) ps)) c → IsBeforeEnd c.key high → ⊥) → (all ≡ false → 0 < length first) → AreFirstRows (chained ps) low high first all
  first_rows ended some = record {
    others = others;
    rows = record {
      ascending = sorted;
      exact = λ c. (
        λ h. to c (has_from_reads (first ++ others) c h),
        λ z. reads_from_has (first ++ others) c sorted (of c (has_from_reads (chained ps) c z.0) z.1.0 z.1.1),
      );
    };
    apart = apart;
    all = λ e. none_of others (λ c h. (let z = kept_has high (chained (drop (j + 1) ps)) c h in ended e c z.0 z.1));
    some = some;
  }

module _ (ps : List (List CellData)) (low : List ℕ) (high : Option (List ℕ)) (at : ℕ) (a : ArePieces ps) (p : IsPlace ps low at) where
  before_place : (c : CellData) → Has (chained (take at ps)) c → key_cmp c.key low ≢ Less → IsBeforeEnd c.key high → ⊥
  before_place c h u v = u (all_has (λ m. key_cmp m.key low ≡ Less) (chained (take at ps)) c p.below h)

  behind_place : (c : CellData) → Has (chained (drop (at + 1) ps)) c → key_cmp c.key low ≢ Less
  behind_place c h e = (let g = all_has (λ m. key_cmp m.key low ≡ Greater) (chained (drop (at + 1) ps)) c p.above h in cc)

  -- those of the piece of the key where the range begins
  pub rows_here : (first : List CellData) (all : Bool) → AreRows (get_or ps at []) low high first → (all ≡ true → (c : CellData) → Has (chained (drop (at + 1) ps)) c → IsBeforeEnd c.key high → ⊥) → (all ≡ false → HasMore ps (at + 1) high) → (at + 1 < length ps → 0 < length first) → AreFirstRows (chained ps) low high first all
  rows_here first all r ended more some = first_rows ps at low high first all p.within a.apart before_place r behind_place ended (λ e. some (more e).within)

  filled : (qs : List (List CellData)) (i : ℕ) → 0 < i → i < length qs → AllByRecursion IsFilled (drop 1 qs) → IsFilled (get_or qs i [])
  filled [] i z h f = absurd (omega (arith, h))
  filled (q ∷ qs) zero z h f = absurd (omega (arith, z))
  filled (q ∷ qs) (suc i) z h f = filled_at qs i (omega (arith, h)) f

  long : (xs : List CellData) (c : CellData) → Has xs c → 0 < length xs
  long [] c h = absurd h
  long (x ∷ xs) c h = omega arith

  next : at + 1 + 1 ≡ at + 2
  next = omega arith

  module _ (none first : List CellData) (all : Bool) (l : at + 1 < length ps) (n : AreRows (get_or ps at []) low high none) (empty : none ≡ []) (r : AreRows (get_or ps (at + 1) []) low high first) where
    before_next : (c : CellData) → Has (chained (take (at + 1) ps)) c → key_cmp c.key low ≢ Less → IsBeforeEnd c.key high → ⊥
    before_next c h u v = elim (has_next ps at c p.within h) [
      | inl x ↦ before_place c x u v
      | inr y ↦ subst (λ (k : List CellData). Reads k c) empty ((n.exact c).1 (reads_from_has (get_or ps at []) c (piece_ascending ps at p.within a.apart) y, (u, v)))
    ]

    in_next : (c : CellData) → Has (get_or ps (at + 1) []) c → Has (chained (drop (at + 1) ps)) c
    in_next c h = subst (λ (k : List (List CellData)). Has (chained k) c) (sym (drop_at ps (at + 1) l)) (has_left (get_or ps (at + 1) []) (chained (drop (at + 1 + 1) ps)) c h)

    behind_next : (c : CellData) → Has (chained (drop (at + 1 + 1) ps)) c → key_cmp c.key low ≢ Less
    behind_next c h = behind_place c (subst (λ (k : List (List CellData)). Has (chained k) c) (sym (drop_at ps (at + 1) l)) (has_right (get_or ps (at + 1) []) (chained (drop (at + 1 + 1) ps)) c h))

    -- the first cell of the next piece is before the end, as that of the one behind it is at most
    before_more : (c : CellData) (h : List ℕ) → Has (get_or ps (at + 1) []) c → at + 2 < length ps → begins_by (get_or ps (at + 2) []) h ≡ true → key_cmp c.key h ≡ Less
    before_more c h here m b = two (get_or ps (at + 2) []) refl (filled ps (at + 2) (omega arith) m a.filled) b
      where
        two : (q : List CellData) → get_or ps (at + 2) [] ≡ q → IsFilled q → begins_by q h ≡ true → key_cmp c.key h ≡ Less
        two [] e g b = absurd (omega (arith, g))
        two (d ∷ t) e g b = less_to c.key d.key h (back_above ps (at + 1) l a.apart c d here
            (subst (λ (k : List (List CellData)). Has (chained k) d) (sym (ap (λ (k : ℕ). drop k ps) next ∙ drop_at ps (at + 2) m)) (has_left (get_or ps (at + 2) []) (chained (drop (at + 2 + 1) ps)) d (subst (λ (k : List CellData). Has k d) (sym e) (inl refl))))) b

    under : (c : CellData) (high : Option (List ℕ)) → Has (get_or ps (at + 1) []) c → HasMore ps (at + 2) high → IsBeforeEnd c.key high
    under c None here m = tt
    under c (Some h) here m = before_more c h here m.within (m.begins h refl)

    some_next : HasMore ps (at + 2) high → 0 < length first
    some_next m = by (get_or ps (at + 1) []) refl (filled ps (at + 1) (omega arith) l a.filled)
      where
        by : (q : List CellData) → get_or ps (at + 1) [] ≡ q → IsFilled q → 0 < length first
        by [] e g = absurd (omega (arith, g))
        by (c ∷ s) e g =
            let here = subst (λ (k : List CellData). Has k c) (sym e) (inl refl) in
            long first c (has_from_reads first c ((r.exact c).1 (reads_from_has (get_or ps (at + 1) []) c (piece_ascending ps (at + 1) l a.apart) here, (behind_place c (in_next c here), under c high here m))))

    -- there are none: those of the next piece
    pub rows_next : (all ≡ true → (c : CellData) → Has (chained (drop (at + 2) ps)) c → IsBeforeEnd c.key high → ⊥) → (all ≡ false → HasMore ps (at + 2) high) → AreFirstRows (chained ps) low high first all
    rows_next ended more =
        first_rows ps (at + 1) low high first all l a.apart before_next r behind_next
        (λ e c h. ended e c (subst (λ (k : ℕ). Has (chained (drop k ps)) c) next h))
        (λ e. some_next (more e))

-- no row from a piece on is before an end
pub ended_at : (ps : List (List CellData)) (at : ℕ) (high : List ℕ) → ArePieces ps → 0 < at → begins_by (get_or ps at []) high ≡ false → (c : CellData) → Has (chained (drop at ps)) c → key_cmp c.key high ≡ Less → ⊥
ended_at [] at high a z b c h e = absurd (subst (λ (k : List (List CellData)). Has (chained k) c) (drop_none [] at (omega arith)) h)
ended_at (p ∷ ps) zero high a z b c h e = absurd (omega (arith, z))
ended_at (p ∷ ps) (suc at) high a z b c h e = (let g = all_has (λ m. key_cmp m.key high ≡ Greater) (chained (drop at ps)) c (above_from ps at high a.apart.2 a.filled (λ l. b)) h in cc)

pub ended_none : (ps : List (List CellData)) (at : ℕ) → length ps ≤ at → (c : CellData) → Has (chained (drop at ps)) c → ⊥
ended_none ps at l c h = subst (λ (k : List (List CellData)). Has (chained k) c) (drop_none ps at l) h

-- ---- lists that vectors have

pub at_lists : {X : Type 0} (f : X → List CellData) (first : List CellData) (xs : List X) (at : ℕ) (x : X) → 0 < at → at ≤ length xs → x ≡ get_or xs (at - 1) x → f x ≡ get_or (first ∷ map f xs) at []
at_lists f first xs zero x z l e = absurd (omega (arith, z))
at_lists f first xs (suc j) x z l e = ap f e ∙ sym (get_or-map f xs (suc j - 1) x [] (omega (arith, l))) ∙ ap (λ (n : ℕ). get_or (map f xs) n []) one
  where
    one : suc j - 1 ≡ j
    one = omega arith

pub next_lists : {X : Type 0} (f : X → List CellData) (first : List CellData) (xs : List X) (at : ℕ) (x : X) → at < length xs → x ≡ get_or xs at x → f x ≡ get_or (first ∷ map f xs) (at + 1) []
next_lists f first xs at x l e = ap f e ∙ sym (get_or-map f xs at x [] l) ∙ ap (λ (n : ℕ). get_or (first ∷ map f xs) n []) next
  where
    next : suc at ≡ at + 1
    next = omega arith

-- one of them is put in the place of another
pub set_lists : {X : Type 0} (f : X → List CellData) (first : List CellData) (xs : List X) (at : ℕ) (x : X) → at < length xs → first ∷ map f (slice_set xs at x) ≡ take (at + 1) (first ∷ map f xs) ++ (f x ∷ drop (at + 1 + 1) (first ∷ map f xs))
set_lists f first xs at x l = ap (λ (k : List (List CellData)). first ∷ k) (map-set f xs at x) ∙ subst (λ (n : ℕ). first ∷ slice_set (map f xs) at (f x) ≡ take n (first ∷ map f xs) ++ (f x ∷ drop (n + 1) (first ∷ map f xs))) next (set_parts (first ∷ map f xs) (suc at) (f x) (let n = length-map xs f in omega (arith, n, l)))
  where
    next : suc at ≡ at + 1
    next = omega arith

pub set_same : {X : Type 0} (f : X → List CellData) (xs : List X) (at : ℕ) (x y : X) → x ≡ get_or xs at x → at < length xs → f y ≡ f x → map f (slice_set xs at y) ≡ map f xs
set_same f [] at x y e l s = refl
set_same f (z ∷ xs) zero x y e l s = ap (λ (k : List CellData). k ∷ map f xs) (s ∙ ap f e)
set_same f (z ∷ xs) (suc at) x y e l s = ap (λ (k : List (List CellData)). f z ∷ k) (set_same f xs at x y e (omega (arith, l)) s)

pub chained_more : {X : Type 0} (f : X → List CellData) (xs : List X) (i : ℕ) (x : X) → i < length xs → x ≡ get_or xs i x → chained (take (i + 1) (map f xs)) ≡ chained (take i (map f xs)) ++ f x
chained_more f [] i x l e = absurd (omega (arith, l))
chained_more f (y ∷ xs) zero x l e = append-nil (f y) ∙ ap f (sym e)
chained_more f (y ∷ xs) (suc i) x l e = ap (λ (n : ℕ). chained (take n (f y ∷ map f xs))) next ∙ (ap (λ (k : List CellData). f y ++ k) (chained_more f xs i x (omega (arith, l)) e) ∙ sym (append_assoc (f y) (chained (take i (map f xs))) (f x)))
  where
    next : suc i + 1 ≡ suc (i + 1)
    next = omega arith

-- the last of some is the first of them in turn
pub chained_turned : {X : Type 0} (f : X → List CellData) (xs : List X) (x : X) → chained (map f (reverse (xs ++ x ∷ []))) ≡ f x ++ chained (map f (reverse xs))
chained_turned {X} f xs x = ap (λ (k : List X). chained (map f k)) (reverse-append xs (x ∷ []))

pub some_same : (a b : List ℕ) → Some a ≡ Some b → a ≡ b
some_same a b e = cc

-- one of them is cut in two
cut_in : {X : Type 0} (f : X → List CellData) (xs : List X) (at place : ℕ) (v u x : X) → at < length xs → x ≡ get_or xs at x → f v ≡ take place (f x) → f u ≡ drop place (f x)
    → map f (insert (slice_set xs at v) (suc at) u) ≡ take at (map f xs) ++ (take place (get_or (map f xs) at []) ∷ (drop place (get_or (map f xs) at []) ∷ drop (at + 1) (map f xs)))
cut_in f [] at place v u x l e fv fu = absurd (omega (arith, l))
cut_in {X} f (y ∷ xs) zero place v u x l e fv fu = λ j. (fv ∙ ap (λ (k : X). take place (f k)) e) j ∷ ((fu ∙ ap (λ (k : X). drop place (f k)) e) j ∷ map f xs)
cut_in f (y ∷ xs) (suc at) place v u x l e fv fu = ap (λ (k : List (List CellData)). f y ∷ k) (cut_in f xs at place v u x (omega (arith, l)) e fv fu)
    ∙ ap (λ (n : ℕ). f y ∷ (take at (map f xs) ++ (take place (get_or (map f xs) at []) ∷ (drop place (get_or (map f xs) at []) ∷ drop n (f y ∷ map f xs))))) next
  where
    next : suc (at + 1) ≡ suc at + 1
    next = omega arith

pub cut_lists : {X : Type 0} (f : X → List CellData) (first : List CellData) (xs : List X) (at place : ℕ) (v u x : X) → at < length xs → x ≡ get_or xs at x → f v ≡ take place (f x) → f u ≡ drop place (f x)
    → first ∷ map f (insert (slice_set xs at v) (at + 1) u) ≡ cut_at (first ∷ map f xs) (at + 1) place
cut_lists {X} f first xs at place v u x l e fv fu = subst (λ (n : ℕ). first ∷ map f (insert (slice_set xs at v) n u) ≡ cut_at (first ∷ map f xs) n place) next
    (ap (λ (k : List (List CellData)). first ∷ k) (cut_in f xs at place v u x l e fv fu)
    ∙ ap (λ (n : ℕ). first ∷ (take at (map f xs) ++ (take place (get_or (map f xs) at []) ∷ (drop place (get_or (map f xs) at []) ∷ drop n (first ∷ map f xs))))) behind)
  where
    next : suc at ≡ at + 1
    next = omega arith

    behind : suc (at + 1) ≡ suc at + 1
    behind = omega arith
