-- Pieces one behind the other.
use Rattle.std.proofs.Common.{◌≡◌, ◌≢◌, ℕ, zero, suc, ◌+◌, ◌<◌, ◌≤◌, ◌⊎◌, List, [], ◌∷◌, ◌++◌, length, take, drop, get_or, refl, sym, ◌∙◌, ap, subst, inl, inr, arith, append_assoc, length-append, take-append-drop}
use Rattle.std.specs.Prelude.{slice_set}
use Rattle.std.specs.List.{AllByRecursion}
use Rattle.std.specs.declared.cmp.Ordering.TheVariants.{Less}
use Rattle.std.proofs.lemmas.List.{append-nil, drop-set, take-set}
use Rattle.px_cells.specs.CellData.{CellData}
use Rattle.px_cells.specs.Among.{Has}
use Rattle.px_cells.specs.Order.{IsAscending, IsSettled, Reads, SamePlace, key_cmp}
use Rattle.px_cells.proofs.Among.{HasNone, ascending_join, ascending_left, ascending_right, has_all, has_append, has_from_reads, has_left, has_right, reads_append, reads_from_has, reads_left, reads_right}
use Rattle.px_cells.proofs.Orders.{below_from_order, by_key, equal_key}
use Rattle.px_memstore.specs.Pieces.{ArePiecesApart, KeysApart, chained}
use Rattle.px_memstore.specs.inner.Pieces.{IsFilled, cut_at}

-- ---- lists of pieces

pub chained_append : (xs ys : List (List CellData)) → chained (xs ++ ys) ≡ chained xs ++ chained ys
chained_append [] ys = refl
chained_append (x ∷ xs) ys = ap (λ (l : List CellData). x ++ l) (chained_append xs ys) ∙ sym (append_assoc x (chained xs) (chained ys))

pub parts_at : (ps : List (List CellData)) (at : ℕ) → at < length ps → ps ≡ take at ps ++ (get_or ps at [] ∷ drop (at + 1) ps)
parts_at [] at l = absurd (omega arith)
parts_at (p ∷ ps) zero l = refl
parts_at (p ∷ ps) (suc at) l = ap (λ (q : List (List CellData)). p ∷ q) (parts_at ps at (omega arith)) ∙ ap (λ (n : ℕ). (p ∷ take at ps) ++ (get_or ps at [] ∷ drop n (p ∷ ps))) next
  where
    next : suc (at + 1) ≡ suc at + 1
    next = omega arith

pub set_parts : (ps : List (List CellData)) (at : ℕ) (q : List CellData) → at < length ps → slice_set ps at q ≡ take at ps ++ (q ∷ drop (at + 1) ps)
set_parts ps at q l = sym (take-append-drop at (slice_set ps at q)) ∙ (λ j. take-set ps at q j ++ drop-set ps at q l j)

pub chained_at : (ps : List (List CellData)) (at : ℕ) → at < length ps → chained ps ≡ chained (take at ps) ++ (get_or ps at [] ++ chained (drop (at + 1) ps))
chained_at ps at l = ap chained (parts_at ps at l) ∙ chained_append (take at ps) (get_or ps at [] ∷ drop (at + 1) ps)

pub has_next : (ps : List (List CellData)) (at : ℕ) (c : CellData) → at < length ps → Has (chained (take (at + 1) ps)) c → Has (chained (take at ps)) c ⊎ Has (get_or ps at []) c
has_next [] at c l h = absurd (omega arith)
has_next (p ∷ ps) zero c l h = elim (has_append p [] c h) [ inl a ↦ inr a | inr b ↦ absurd b ]
has_next (p ∷ ps) (suc at) c l h = elim (has_append p (chained (take (at + 1) ps)) c (subst (λ (n : ℕ). Has (chained (take n (p ∷ ps))) c) next h)) [
  | inl a ↦ inl (has_left p (chained (take at ps)) c a)
  | inr b ↦ elim (has_next ps at c (omega arith) b) [ inl d ↦ inl (has_right p (chained (take at ps)) c d) | inr d ↦ inr d ]
]
  where
    next : suc at + 1 ≡ suc (at + 1)
    next = omega arith

-- ---- pieces that are apart

pub apart_left : (xs ys : List (List CellData)) → ArePiecesApart (xs ++ ys) → ArePiecesApart xs
apart_left [] ys a = tt
apart_left (x ∷ xs) ys a = (a.0, (λ m n h g. a.1 m n h (subst (λ (l : List CellData). Has l n) (sym (chained_append xs ys)) (has_left (chained xs) (chained ys) n g))), apart_left xs ys a.2)

pub apart_right : (xs ys : List (List CellData)) → ArePiecesApart (xs ++ ys) → ArePiecesApart ys
apart_right [] ys a = a
apart_right (x ∷ xs) ys a = apart_right xs ys a.2

pub apart_across : (xs ys : List (List CellData)) → ArePiecesApart (xs ++ ys) → KeysApart (chained xs) (chained ys)
apart_across [] ys a m n h g = absurd h
apart_across (x ∷ xs) ys a m n h g = elim (has_append x (chained xs) m h) [
  | inl l ↦ a.1 m n l (subst (λ (l : List CellData). Has l n) (sym (chained_append xs ys)) (has_right (chained xs) (chained ys) n g))
  | inr r ↦ apart_across xs ys a.2 m n r g
]

pub apart_join : (xs ys : List (List CellData)) → ArePiecesApart xs → ArePiecesApart ys → KeysApart (chained xs) (chained ys) → ArePiecesApart (xs ++ ys)
apart_join [] ys a b f = b
apart_join (x ∷ xs) ys a b f = (
  a.0,
  (λ m n h g. elim (has_append (chained xs) (chained ys) n (subst (λ (l : List CellData). Has l n) (chained_append xs ys) g)) [ inl l ↦ a.1 m n h l | inr r ↦ f m n (has_left x (chained xs) m h) r ]),
  apart_join xs ys a.2 b (λ m n h g. f m n (has_right x (chained xs) m h) g),
)

pub chained_ascending : (ps : List (List CellData)) → ArePiecesApart ps → IsAscending (chained ps)
chained_ascending [] a = tt
chained_ascending (p ∷ ps) a = ascending_join p (chained ps) a.0 (chained_ascending ps a.2) (λ m n h g. below_from_order m n (by_key (a.1 m n h g)))

pub less_not : (xs ys : List ℕ) → key_cmp xs ys ≡ Less → xs ≡ ys → ⊥
less_not xs ys e s = (let q = equal_key xs ys s in cc)

-- cells of other keys have no place together
pub apart_none : (xs : List CellData) (c : CellData) → ((x : CellData) → Has xs x → x.key ≢ c.key) → HasNone xs c
apart_none xs c f = has_all (λ x. SamePlace x c → ⊥) xs (λ x h s. f x h s.key)

-- ---- all pieces but one stay

module _ (ps : List (List CellData)) (at : ℕ) (l : at < length ps) (a : ArePiecesApart ps) where
  abbrev front : List (List CellData)
  front = take at ps

  abbrev piece : List CellData
  piece = get_or ps at []

  abbrev back : List (List CellData)
  back = drop (at + 1) ps

  whole : ArePiecesApart (front ++ (piece ∷ back))
  whole = subst ArePiecesApart (parts_at ps at l) a

  pub piece_ascending : IsAscending piece
  piece_ascending = (apart_right front (piece ∷ back) whole).0

  pub front_below : KeysApart (chained front) piece
  front_below m n h g = apart_across front (piece ∷ back) whole m n h (has_left piece (chained back) n g)

  pub back_above : KeysApart piece (chained back)
  back_above = (apart_right front (piece ∷ back) whole).1

  pub front_back : KeysApart (chained front) (chained back)
  front_back m n h g = apart_across front (piece ∷ back) whole m n h (has_right piece (chained back) n g)

  pub back_apart : ArePiecesApart back
  back_apart = (apart_right front (piece ∷ back) whole).2

  -- the cells of the three parts are those of all
  pub has_front : (c : CellData) → Has (chained front) c → Has (chained ps) c
  has_front c h = subst (λ (l : List CellData). Has l c) (sym (chained_at ps at l)) (has_left (chained front) (piece ++ chained back) c h)

  pub has_piece : (c : CellData) → Has piece c → Has (chained ps) c
  has_piece c h = subst (λ (l : List CellData). Has l c) (sym (chained_at ps at l)) (has_right (chained front) (piece ++ chained back) c (has_left piece (chained back) c h))

  pub has_back : (c : CellData) → Has (chained back) c → Has (chained ps) c
  has_back c h = subst (λ (l : List CellData). Has l c) (sym (chained_at ps at l)) (has_right (chained front) (piece ++ chained back) c (has_right piece (chained back) c h))

  pub has_parts : (c : CellData) → Has (chained ps) c → Has (chained front) c ⊎ (Has piece c ⊎ Has (chained back) c)
  has_parts c h = elim (has_append (chained front) (piece ++ chained back) c (subst (λ (l : List CellData). Has l c) (chained_at ps at l) h)) [
    | inl a ↦ inl a
    | inr b ↦ inr (has_append piece (chained back) c b)
  ]

  -- other pieces in the place of one, with keys between those of the rest
  pub apart_with : (qs : List (List CellData)) → ArePiecesApart qs → KeysApart (chained front) (chained qs) → KeysApart (chained qs) (chained back) → ArePiecesApart (front ++ (qs ++ back))
  apart_with qs q under over = apart_join front (qs ++ back) (apart_left front (piece ∷ back) whole) (apart_join qs back q back_apart over)
      (λ m n h g. elim (has_append (chained qs) (chained back) n (subst (λ (l : List CellData). Has l n) (chained_append qs back) g)) [ inl x ↦ under m n h x | inr y ↦ front_back m n h y ])

  -- cells are put into one
  module _ (part new : List CellData) (put : IsSettled (part ++ piece) new) (under : KeysApart (chained front) part) (over : KeysApart part (chained back)) where
    came : (c : CellData) → Has new c → Has part c ⊎ Has piece c
    came c h = has_append part piece c (has_from_reads (part ++ piece) c ((put.same c).0 (reads_from_has new c put.ascending h)))

    new_above : KeysApart (chained front) new
    new_above m n h g = elim (came n g) [ inl x ↦ under m n h x | inr y ↦ front_below m n h y ]

    new_below : KeysApart new (chained back)
    new_below m n h g = elim (came m h) [ inl x ↦ over m n x g | inr y ↦ back_above m n y g ]

    pub put_apart : ArePiecesApart (front ++ (new ∷ back))
    put_apart = apart_with (new ∷ []) (put.ascending, (λ m n h g. absurd g), tt)
        (λ m n h g. new_above m n h (subst (λ (l : List CellData). Has l n) (append-nil new) g))
        (λ m n h g. new_below m n (subst (λ (l : List CellData). Has l m) (append-nil new) h) g)

    all : List CellData
    all = chained (front ++ (new ∷ back))

    abbrev is : chained (front ++ (new ∷ back)) ≡ chained front ++ (new ++ chained back)
    is = chained_append front (new ∷ back)

    sorted : IsAscending (chained (front ++ (new ∷ back)))
    sorted = chained_ascending (front ++ (new ∷ back)) put_apart

    sorted_old : IsAscending (chained ps)
    sorted_old = chained_ascending ps a

    none_front : (c : CellData) → Has (chained front) c → HasNone part c
    none_front c h = apart_none part c (λ x g e. less_not c.key x.key (under c x h g) (sym e))

    none_back : (c : CellData) → Has (chained back) c → HasNone part c
    none_back c h = apart_none part c (λ x g e. less_not x.key c.key (over x c g h) e)

    old_read : (c : CellData) → HasNone part c → Has (chained ps) c → Reads (part ++ chained ps) c
    old_read c none h = reads_right part (chained ps) c none (reads_from_has (chained ps) c sorted_old h)

    to : (c : CellData) → Has (chained front ++ (new ++ chained back)) c → Reads (part ++ chained ps) c
    to c h = elim (has_append (chained front) (new ++ chained back) c h) [
      | inl x ↦ old_read c (none_front c x) (has_front c x)
      | inr y ↦ elim (has_append new (chained back) c y) [
        | inl z ↦ elim (reads_append part piece c ((put.same c).0 (reads_from_has new c put.ascending z))) [
          | inl p ↦ reads_left part (chained ps) c p
          | inr q ↦ old_read c q.0 (has_piece c (has_from_reads piece c q.1))
        ]
        | inr z ↦ old_read c (none_back c z) (has_back c z)
      ]
    ]

    of : (c : CellData) → Reads (part ++ chained ps) c → Has (chained front ++ (new ++ chained back)) c
    of c r = elim (reads_append part (chained ps) c r) [
      | inl p ↦ has_right (chained front) (new ++ chained back) c (has_left new (chained back) c (has_from_reads new c ((put.same c).1 (reads_left part piece c p))))
      | inr q ↦ elim (has_parts c (has_from_reads (chained ps) c q.1)) [
        | inl x ↦ has_left (chained front) (new ++ chained back) c x
        | inr (inl y) ↦ has_right (chained front) (new ++ chained back) c (has_left new (chained back) c (has_from_reads new c ((put.same c).1 (reads_right part piece c q.0 (reads_from_has piece c piece_ascending y)))))
        | inr (inr z) ↦ has_right (chained front) (new ++ chained back) c (has_right new (chained back) c z)
      ]
    ]

    pub put_settled : IsSettled (part ++ chained ps) (chained (front ++ (new ∷ back)))
    put_settled = record {
      ascending = sorted;
      same = λ c. (
        λ r. to c (subst (λ (l : List CellData). Has l c) is (has_from_reads (chained (front ++ (new ∷ back))) c r)),
        λ r. reads_from_has (chained (front ++ (new ∷ back))) c sorted (subst (λ (l : List CellData). Has l c) (sym is) (of c r)),
      );
    }

  pub put_len : (new : List CellData) (n : ℕ) → length new ≤ length piece + n → length (chained (front ++ (new ∷ back))) ≤ length (chained ps) + n
  put_len new n le =
      let x = ap (λ (l : List CellData). length l) (chained_append front (new ∷ back)) in
      let y = ap (λ (l : List CellData). length l) (chained_at ps at l) in
      let x1 = length-append (chained front) (new ++ chained back) in
      let x2 = length-append new (chained back) in
      let y1 = length-append (chained front) (piece ++ chained back) in
      let y2 = length-append piece (chained back) in
      omega (arith, le, x, y, x1, x2, y1, y2)

  pub put_count : (new : List CellData) → length (chained (front ++ (new ∷ back))) + length piece ≡ length (chained ps) + length new
  put_count new =
      let x = ap (λ (l : List CellData). length l) (chained_append front (new ∷ back)) in
      let y = ap (λ (l : List CellData). length l) (chained_at ps at l) in
      let x1 = length-append (chained front) (new ++ chained back) in
      let x2 = length-append new (chained back) in
      let y1 = length-append (chained front) (piece ++ chained back) in
      let y2 = length-append piece (chained back) in
      omega (arith, x, y, x1, x2, y1, y2)

  pub piece_within : length piece ≤ length (chained ps)
  piece_within =
      let y = ap (λ (l : List CellData). length l) (chained_at ps at l) in
      let y1 = length-append (chained front) (piece ++ chained back) in
      let y2 = length-append piece (chained back) in
      omega (arith, y, y1, y2)

  -- one is cut where a row begins
  module _ (place : ℕ) (rows : KeysApart (take place piece) (drop place piece)) where
    abbrev low : List CellData
    low = take place piece

    abbrev high : List CellData
    high = drop place piece

    both : low ++ high ≡ piece
    both = take-append-drop place piece

    in_low : (c : CellData) → Has low c → Has piece c
    in_low c h = subst (λ (l : List CellData). Has l c) both (has_left low high c h)

    in_high : (c : CellData) → Has high c → Has piece c
    in_high c h = subst (λ (l : List CellData). Has l c) both (has_right low high c h)

    two : (c : CellData) → Has (low ++ (high ++ [])) c → Has piece c
    two c h = subst (λ (l : List CellData). Has l c) (ap (λ (l : List CellData). low ++ l) (append-nil high) ∙ both) h

    halves : IsAscending low × IsAscending high
    halves = (let s = subst IsAscending (sym both) piece_ascending in (ascending_left low high s, ascending_right low high s))

    pub cut_apart : ArePiecesApart (cut_at ps at place)
    cut_apart = apart_with (low ∷ (high ∷ []))
        (halves.0, (λ m n h g. rows m n h (subst (λ (l : List CellData). Has l n) (append-nil high) g)), (halves.1, (λ m n h g. absurd g), tt))
        (λ m n h g. front_below m n h (two n g))
        (λ m n h g. back_above m n (two m h) g)

    pub cut_chained : chained (cut_at ps at place) ≡ chained ps
    cut_chained = chained_append front (low ∷ (high ∷ back))
        ∙ (ap (λ (l : List CellData). chained front ++ l) (sym (append_assoc low high (chained back)) ∙ ap (λ (l : List CellData). l ++ chained back) both) ∙ sym (chained_at ps at l))

-- ---- pieces that are filled

pub filled_append : (xs ys : List (List CellData)) → AllByRecursion IsFilled xs → AllByRecursion IsFilled ys → AllByRecursion IsFilled (xs ++ ys)
filled_append [] ys a b = b
filled_append (x ∷ xs) ys a b = (a.0, filled_append xs ys a.1 b)

pub filled_left : (xs ys : List (List CellData)) → AllByRecursion IsFilled (xs ++ ys) → AllByRecursion IsFilled xs
filled_left [] ys a = tt
filled_left (x ∷ xs) ys a = (a.0, filled_left xs ys a.1)

pub filled_right : (xs ys : List (List CellData)) → AllByRecursion IsFilled (xs ++ ys) → AllByRecursion IsFilled ys
filled_right [] ys a = a
filled_right (x ∷ xs) ys a = filled_right xs ys a.1

-- where others stand in the place of one
pub filled_with : (ps : List (List CellData)) (at : ℕ) (q : List CellData) (qs : List (List CellData)) → at < length ps → AllByRecursion IsFilled (drop 1 ps) → (0 < at → IsFilled q) → AllByRecursion IsFilled qs → AllByRecursion IsFilled (drop 1 (take at ps ++ (q ∷ (qs ++ drop (at + 1) ps))))
filled_with [] at q qs l f some fs = absurd (omega arith)
filled_with (p ∷ ps) zero q qs l f some fs = filled_append qs ps fs f
filled_with (p ∷ ps) (suc at) q qs l f some fs =
    let s = subst (AllByRecursion IsFilled) (parts_at ps at (omega arith)) f in
    let last : AllByRecursion IsFilled (drop (at + 1) ps) = (filled_right (take at ps) (get_or ps at [] ∷ drop (at + 1) ps) s).1 in
    filled_append (take at ps) (q ∷ (qs ++ drop (suc at + 1) (p ∷ ps))) (filled_left (take at ps) (get_or ps at [] ∷ drop (at + 1) ps) s)
    (some (omega arith), filled_append qs (drop (suc at + 1) (p ∷ ps)) fs (subst (λ (n : ℕ). AllByRecursion IsFilled (drop n (p ∷ ps))) next last))
  where
    next : suc (at + 1) ≡ suc at + 1
    next = omega arith

pub filled_at : (ps : List (List CellData)) (at : ℕ) → at < length ps → AllByRecursion IsFilled ps → IsFilled (get_or ps at [])
filled_at [] at l f = absurd (omega arith)
filled_at (p ∷ ps) zero l f = f.0
filled_at (p ∷ ps) (suc at) l f = filled_at ps at (omega arith) f.1

-- ---- one piece after the other

pub chained_next : (ps : List (List CellData)) (at : ℕ) → at < length ps → chained (take (at + 1) ps) ≡ chained (take at ps) ++ get_or ps at []
chained_next [] at l = absurd (omega arith)
chained_next (p ∷ ps) zero l = append-nil p
chained_next (p ∷ ps) (suc at) l = ap (λ (n : ℕ). chained (take n (p ∷ ps))) next ∙ (ap (λ (k : List CellData). p ++ k) (chained_next ps at (omega arith)) ∙ sym (append_assoc p (chained (take at ps)) (get_or ps at [])))
  where
    next : suc at + 1 ≡ suc (at + 1)
    next = omega arith

pub chained_all : (ps : List (List CellData)) (n : ℕ) → length ps ≤ n → chained (take n ps) ≡ chained ps
chained_all [] zero l = refl
chained_all [] (suc n) l = refl
chained_all (p ∷ ps) zero l = absurd (omega arith)
chained_all (p ∷ ps) (suc n) l = ap (λ (k : List CellData). p ++ k) (chained_all ps n (omega arith))
