-- The last cells of a batch are put into their piece, until none is left.
use Rattle.std.proofs.Common.{◌≡◌, ◌≢◌, ℕ, zero, suc, ◌+◌, ◌-◌, ◌<◌, ◌≤◌, ◌⊎◌, Bool, true, false, List, [], ◌∷◌, ◌++◌, length, take, drop, get_or, refl, sym, ◌∙◌, ap, subst, inl, inr, arith, append_assoc, length-append, length-drop, length-take-le, rules, take-append-drop, vec_capacity}
use Rattle.std.specs.Prelude.{max, nat_eq}
use Rattle.std.specs.declared.cmp.Ordering.TheVariants.{Less, Greater}
use Rattle.std.specs.List.{AllByRecursion}
use Rattle.px_cells.specs.CellData.{CellData}
use Rattle.px_cells.specs.Among.{Has}
use Rattle.px_cells.specs.Order.{IsAscending, IsSettled, Reads, ReadsSame, key_cmp}
use Rattle.px_cells.specs.Rows.{AllAbove, AllBelow, AllFrom, AllUpTo}
use Rattle.px_cells.proofs.Among.{all_has, ascending_left, ascending_right, before_is_below, has_append, has_from_reads, has_right, reads_behind}
use Rattle.px_cells.proofs.Orders.{equal_key}
use Rattle.px_memstore.specs.Pieces.{ArePiecesApart, KeysApart, chained}
use Rattle.px_memstore.specs.inner.Pieces.{ArePieces, HasBegin, IsFilled, IsLast, IsPlace, IsPut, IsSame, begins_by, cut_at, lists}
use Rattle.px_memstore.specs.declared.pieces.Pieces.{Pieces}
use Rattle.px_memstore.proofs.Chained.{chained_ascending, cut_apart, cut_chained, filled_at, filled_with, front_below, put_apart, put_count, put_len, put_settled}
use Rattle.px_memstore.proofs.Finding.{key_before, less_from, less_of_greater, less_to, less_until}
use Rattle.px_memstore.proofs.Lists.{Ended, ended, get_front, take_whole}
use Rattle.px_memstore.proofs.Replacing.{reads_trans}

nat_cases : (m n : ℕ) → (m < n) ⊎ (n ≤ m)
nat_cases m zero = inr (omega arith)
nat_cases zero (suc n) = inl (omega arith)
nat_cases (suc m) (suc n) = elim (nat_cases m n) [ inl l ↦ inl (omega (arith, l)) | inr l ↦ inr (omega (arith, l)) ]

-- ---- the last cells of a batch

-- no cell of a sorted list has a key above that of the last
up_to_last : (xs : List CellData) (m x : CellData) → IsAscending xs → Has xs m → x ≡ get_or xs (length xs - 1) x → key_cmp m.key x.key ≢ Greater
up_to_last [] m x a h is = absurd h
up_to_last (y ∷ ys) m x a h is = by (ended (y ∷ ys) (omega arith))
  where
    by : Ended (y ∷ ys) → key_cmp m.key x.key ≢ Greater
    by e g = elim (has_append e.front (e.last ∷ []) m (subst (λ (l : List CellData). Has l m) e.is h)) [
      | inl b ↦ elim (key_before m e.last (before_is_below e.front [] e.last m (subst IsAscending e.is a) b)) [
        | inl k ↦ (let z : key_cmp m.key x.key ≡ Less = subst (λ (c : CellData). key_cmp m.key c.key ≡ Less) (sym last) k in cc)
        | inr k ↦ (let z = equal_key m.key x.key (k ∙ ap (λ (c : CellData). c.key) (sym last)) in cc)
      ]
      | inr (inl b) ↦ (let z = equal_key m.key x.key (ap (λ (c : CellData). c.key) (sym b ∙ sym last)) in cc)
      | inr (inr b) ↦ absurd b
    ]
      where
        last : x ≡ e.last
        last = is ∙ (ap (λ (l : List CellData). get_or l (length (y ∷ ys) - 1) x) e.is ∙ get_front e.front (e.last ∷ []) (length (y ∷ ys) - 1) x
            (let n = ap (λ (l : List CellData). length l) e.is in let k = length-append e.front (e.last ∷ []) in omega (arith, n, k)))

in_drop : (xs : List CellData) (i : ℕ) (c : CellData) → Has (drop i xs) c → Has xs c
in_drop xs i c h = subst (λ (l : List CellData). Has l c) (take-append-drop i xs) (has_right (take i xs) (drop i xs) c h)

later : (xs : List CellData) (i j : ℕ) (c : CellData) → i ≤ j → Has (drop j xs) c → Has (drop i xs) c
later xs zero j c l h = in_drop xs j c h
later [] (suc i) zero c l h = absurd h
later [] (suc i) (suc j) c l h = absurd h
later (x ∷ xs) (suc i) zero c l h = absurd (omega arith)
later (x ∷ xs) (suc i) (suc j) c l h = later xs i j c (omega arith) h

-- fewer of them
pub last_later : (ps : List (List CellData)) (batch : List CellData) (at i j : ℕ) → IsLast ps batch at i → i ≤ j → j < length batch → IsLast ps batch at j
last_later ps batch at i j z l n = record {
  piece = z.piece;
  some = n;
  below = λ m c h g. z.below m c h (later batch i j c l g);
  above = λ m c h g. z.above m c (later batch i j m l h) g;
}

module _ (ps : List (List CellData)) (batch : List CellData) (at from : ℕ) (x : CellData) (a : ArePieces ps) (s : IsAscending batch) (some : 0 < length batch) (is : x ≡ get_or batch (length batch - 1) x) (p : IsPlace ps x.key at) where
  above_all : KeysApart (drop from batch) (chained (drop (at + 1) ps))
  above_all m n h g = less_from m.key x.key n.key (up_to_last batch m x s (in_drop batch from m h) is) (less_of_greater n.key x.key (all_has (λ c. key_cmp c.key x.key ≡ Greater) (chained (drop (at + 1) ps)) n p.above g))

  pub last_first : at ≡ 0 → from ≡ 0 → IsLast ps batch at from
  last_first e f = record {
    piece = p.within;
    some = omega (arith, f, some);
    below = λ m n h g. absurd (subst (λ (k : ℕ). Has (chained (take k ps)) m) e h);
    above = above_all;
  }

  last_in : Has batch x
  last_in = by (ended batch some)
    where
      by : Ended batch → Has batch x
      by e = subst (λ (l : List CellData). Has l x) (sym e.is) (has_right e.front (e.last ∷ []) x (inl (sym last)))
        where
          last : x ≡ e.last
          last = is ∙ (ap (λ (l : List CellData). get_or l (length batch - 1) x) e.is ∙ get_front e.front (e.last ∷ []) (length batch - 1) x
              (let n = ap (λ (l : List CellData). length l) e.is in let k = length-append e.front (e.last ∷ []) in omega (arith, n, k)))

  pub last_other : 0 < at → HasBegin batch (get_or ps at []) from → IsLast ps batch at from
  last_other z b = by (get_or ps at []) refl (filled ps at z p.within a.filled) (p.begins z)
    where
      filled : (qs : List (List CellData)) (i : ℕ) → 0 < i → i < length qs → AllByRecursion IsFilled (drop 1 qs) → IsFilled (get_or qs i [])
      filled [] i z h f = absurd (omega (arith, h))
      filled (q ∷ qs) zero z h f = absurd (omega (arith, z))
      filled (q ∷ qs) (suc i) z h f = filled_at qs i (omega (arith, h)) f

      by : (q : List CellData) → get_or ps at [] ≡ q → IsFilled q → begins_by q x.key ≡ true → IsLast ps batch at from
      by [] e g t = absurd (omega (arith, g))
      by (c ∷ r) e g t = record {
        piece = p.within;
        some = inside;
        below = λ m n h k. less_until m.key c.key n.key (front_below ps at p.within a.apart m c h (subst (λ (l : List CellData). Has l c) (sym e) (inl refl))) (all_has (λ d. key_cmp d.key c.key ≢ Less) (drop from batch) n (b.from c r e) k);
        above = above_all;
      }
        where
          no : length batch ≤ from → ⊥
          no l =
              let under = all_has (λ d. key_cmp d.key c.key ≡ Less) (take from batch) x (b.below c r e) (subst (λ (k : List CellData). Has k x) (sym (take_whole batch from l)) last_in) in
              let self = less_to x.key c.key x.key under t in
              let same = equal_key x.key x.key refl in
              cc

          inside : from < length batch
          inside = elim (nat_cases from (length batch)) [ inl l ↦ l | inr l ↦ absurd (no l) ]

-- ---- one part is put

module _ (old new : Pieces) (batch : List CellData) (at from : ℕ) (q : List CellData) (a : ArePieces (lists old)) (z : IsLast (lists old) batch at from) (is : lists new ≡ take at (lists old) ++ (q ∷ drop (at + 1) (lists old)))
    (put : IsSettled (drop from batch ++ get_or (lists old) at []) q) where
  abbrev ps : List (List CellData)
  ps = lists old

  filled : IsFilled q
  filled = by (drop from batch) refl
    where
      long : (xs : List CellData) (c : CellData) → Has xs c → 0 < length xs
      long [] c h = absurd h
      long (x ∷ xs) c h = omega arith

      by : (l : List CellData) → drop from batch ≡ l → 0 < length q
      by [] e = absurd (let n = ap (λ (l : List CellData). length l) e in let k = length-drop from batch in let s = z.some in omega (arith, n, k, s))
      by (y ∷ l) e = long q y (has_from_reads q y ((put.same y).1 (subst (λ (l : List CellData). Reads (l ++ get_or (lists old) at []) y) (sym e) (inl refl))))

  pub put_is : length q ≤ length (get_or (lists old) at []) + (length batch - from) → new.count + length (get_or (lists old) at []) ≡ old.count + length q → old.count ≡ length (chained (lists old)) → vec_capacity old.first ≤ vec_capacity new.first → IsPut old batch new (take from batch)
  put_is long counted count capacity = record {
    part = drop from batch;
    of = sym (take-append-drop from batch);
    some = (let k = length-drop from batch in let s = z.some in omega (arith, k, s));
    settled = subst (λ (l : List (List CellData)). IsSettled (drop from batch ++ chained ps) (chained l)) (sym is) (put_settled ps at z.piece a.apart (drop from batch) q put z.below z.above);
    pieces = subst ArePieces (sym is) (record { apart = put_apart ps at z.piece a.apart (drop from batch) q put z.below z.above; filled = filled_with ps at q [] z.piece a.filled (λ _. filled) tt });
    count = (let n = ap (λ (l : List (List CellData)). length (chained l)) is in let m = put_count ps at z.piece a.apart q in omega (arith, n, m, counted, count));
    len = (let n = ap (λ (l : List (List CellData)). length (chained l)) is in let m = put_len ps at z.piece a.apart q (length batch - from) long in let k = length-drop from batch in omega (arith, n, m, k));
    capacity = capacity;
  }

-- ---- all pieces in one

pub gathered : (ps : List (List CellData)) → ArePiecesApart ps → ArePieces (chained ps ∷ [])
gathered ps a = record { apart = (chained_ascending ps a, (λ m n h g. absurd g), tt); filled = tt }

pub last_gathered : (p batch : List CellData) → 0 < length batch → IsLast (p ∷ []) batch 0 0
last_gathered p batch some = record { piece = omega arith; some = some; below = λ m n h g. absurd h; above = λ m n h g. absurd g }

pub put_after : (old mid new : Pieces) (batch left : List CellData) → chained (lists mid) ≡ chained (lists old) → vec_capacity old.first ≤ vec_capacity mid.first → IsPut mid batch new left → IsPut old batch new left
put_after old mid new batch left same room p = record {
  part = p.part;
  of = p.of;
  some = p.some;
  settled = subst (λ (l : List CellData). IsSettled (p.part ++ l) (chained (lists new))) same p.settled;
  pieces = p.pieces;
  count = p.count;
  len = (let n = ap (λ (l : List CellData). length l) same in let k = p.len in omega (arith, n, k));
  capacity = (let k = p.capacity in omega (arith, room, k));
}

-- ---- until none is left

pub putting_none : (batch cells : List CellData) → ReadsSame (batch ++ cells) (batch ++ cells)
putting_none batch cells c = (λ r. r, λ r. r)

pub putting_more : (old new : Pieces) (batch left b0 c0 : List CellData) → IsPut old batch new left → ReadsSame (batch ++ chained (lists old)) (b0 ++ c0) → ReadsSame (left ++ chained (lists new)) (b0 ++ c0)
putting_more old new batch left b0 c0 p same = reads_trans (left ++ chained (lists new)) (left ++ (p.part ++ chained (lists old))) (b0 ++ c0)
    (reads_behind left (chained (lists new)) (p.part ++ chained (lists old)) p.settled.same)
    (subst (λ (l : List CellData). ReadsSame l (b0 ++ c0)) (ap (λ (l : List CellData). l ++ chained (lists old)) p.of ∙ append_assoc left p.part (chained (lists old))) same)

pub left_sorted : (old new : Pieces) (batch left : List CellData) → IsPut old batch new left → IsAscending batch → IsAscending left
left_sorted old new batch left p a = ascending_left left p.part (subst IsAscending p.of a)

pub left_len : (old new : Pieces) (batch left : List CellData) → (p : IsPut old batch new left) → length left + length p.part ≡ length batch
left_len old new batch left p = (let n = ap (λ (l : List CellData). length l) p.of in let k = length-append left p.part in omega (arith, n, k))

pub putting_done : (now : Pieces) (left b0 c0 : List CellData) → ArePieces (lists now) → length left ≡ 0 → ReadsSame (left ++ chained (lists now)) (b0 ++ c0) → IsSettled (b0 ++ c0) (chained (lists now))
putting_done now [] b0 c0 a e same = record { ascending = chained_ascending (lists now) a.apart; same = same }
putting_done now (x ∷ left) b0 c0 a e same = cc

-- ---- a cut

pub cut_same : (old new : Pieces) (at place : ℕ) → ArePieces (lists old) → at < length (lists old) → lists new ≡ cut_at (lists old) at place → KeysApart (take place (get_or (lists old) at [])) (drop place (get_or (lists old) at [])) → 0 < place → place < length (get_or (lists old) at []) → new.count ≡ old.count → vec_capacity old.first ≤ vec_capacity new.first → IsSame old new
cut_same old new at place a l is rows low high count capacity = record {
  cells = ap chained is ∙ cut_chained (lists old) at l a.apart place rows;
  pieces = subst ArePieces (sym is) (record {
    apart = cut_apart (lists old) at l a.apart place rows;
    filled = filled_with (lists old) at (take place (get_or (lists old) at [])) (drop place (get_or (lists old) at []) ∷ []) l a.filled
        (λ _. (let n = length-take-le place (get_or (lists old) at []) (omega (arith, high)) in omega (arith, n, low)))
        ((let n = length-drop place (get_or (lists old) at []) in omega (arith, n, high)), tt);
  });
  count = count;
  capacity = capacity;
}

pub same_itself : (p : Pieces) → ArePieces (lists p) → IsSame p p
same_itself p a = record { cells = refl; pieces = a; count = refl; capacity = omega arith }

pub same_trans : (p q r : Pieces) → IsSame p q → IsSame q r → IsSame p r
same_trans p q r s t = record { cells = t.cells ∙ s.cells; pieces = t.pieces; count = t.count ∙ s.count; capacity = (let x = s.capacity in let y = t.capacity in omega (arith, x, y)) }

-- rows on both sides of a key
pub rows_up_to : (xs ys : List CellData) (key : List ℕ) → AllUpTo key xs → AllAbove key ys → KeysApart xs ys
rows_up_to xs ys key b f m n h g = less_from m.key key n.key (all_has (λ c. key_cmp c.key key ≢ Greater) xs m b h) (less_of_greater n.key key (all_has (λ c. key_cmp c.key key ≡ Greater) ys n f g))

pub rows_below_from : (xs ys : List CellData) (key : List ℕ) → AllBelow key xs → AllFrom key ys → KeysApart xs ys
rows_below_from xs ys key b f m n h g = less_until m.key key n.key (all_has (λ c. key_cmp c.key key ≡ Less) xs m b h) (all_has (λ c. key_cmp c.key key ≢ Less) ys n f g)

-- the same lists, counted the same, with as much room
pub same_lists : (old new : Pieces) → ArePieces (lists old) → lists new ≡ lists old → new.count ≡ old.count → vec_capacity old.first ≤ vec_capacity new.first → IsSame old new
same_lists old new a e count capacity = record { cells = ap chained e; pieces = subst ArePieces (sym e) a; count = count; capacity = capacity }

pub later_bounds : (from len free rest most : ℕ) → from < len → most ≡ max from rest → rest ≡ len - free → (free ≡ 0 → ⊥) → (from ≤ most) × (most < len)
later_bounds from len free rest most l m r f = (omega (arith, m), omega (arith, l, m, r, f))

pub none_from : (xs : List CellData) (b : Bool) → b ≡ nat_eq (length xs) 0 → b ≡ true → xs ≡ []
none_from [] b e t = refl
none_from (x ∷ xs) b e t = absurd (let z : nat_eq (length (x ∷ xs)) 0 ≡ true = sym e ∙ t in search rules)

pub sorted_from : (batch : List CellData) (from : ℕ) → IsAscending batch → IsAscending (drop from batch)
sorted_from batch from a = ascending_right (take from batch) (drop from batch) (subst IsAscending (sym (take-append-drop from batch)) a)

pub some_from : (xs : List CellData) (b : Bool) → b ≡ nat_eq (length xs) 0 → b ≡ false → 0 < length xs
some_from [] b e f = absurd (let z : nat_eq (length {A = CellData} []) 0 ≡ false = sym e ∙ f in search rules)
some_from (x ∷ xs) b e f = omega arith
