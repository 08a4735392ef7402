-- Keeping what a horizon asks for, in place.
use Rattle.std.proofs.Common.{◌≡◌, ◌≤◌, ◌<◌, ◌+◌, ◌-◌, ℕ, zero, suc, List, [], ◌∷◌, ◌++◌, length, take, drop, get_or, set, refl, sym, ap, subst, ◌∙◌, arith, inl, inr}
use Rattle.std.specs.Prelude.{◌≢◌}
use Rattle.std.specs.declared.cmp.Ordering.TheVariants.{Greater}
use Rattle.std.proofs.lemmas.List.{length-drop, length-take-le, take-append-drop, take_all, take_rest}
use Rattle.px_cells.specs.CellData.{CellData}
use Rattle.px_cells.specs.Among.{Has}
use Rattle.px_cells.specs.Order.{GoesWith, IsAscending, IsCellList, key_cmp}
use Rattle.px_cells.specs.Rows.{AllAbove, AllUpTo}
use Rattle.px_cells.specs.Scan.{cell_at, no_cell}
use Rattle.px_cells.specs.Visible.{IsView}
use Rattle.px_cells.proofs.Among.{all_has, has_all, has_append, has_left, has_right, ascending_left, ascending_right}
use Rattle.px_cells.proofs.Orders.{equal_key}
use Rattle.px_merge.specs.Kept.{IsBehind, IsKeptList, IsKeptOf, IsNextSeen, IsWanted}
use Rattle.px_merge.proofs.Keeping.{behind_all, kept_none, kept_skip, kept_take, kept_whole, next_behind, next_seen, other_behind, other_unseen}
use Rattle.px_forgetting.specs.Rows.{AreApart}
use Rattle.px_forgetting.proofs.Parts.{kept_parts}
use Rattle.px_forgetting.proofs.Slices.{drop_drop, drop_take, get_from, put_behind, put_front, put_long, swap_behind, swap_front, take_split}

-- ---- a row

-- What is kept of the first cells of a row, which stands behind a gap, was moved to the front.
pub record IsKeeping (h : ℕ) (seen old part : List CellData) (gap i n next : ℕ) : Type 0 where
  pub since : gap ≤ i
  pub places : n + gap ≤ i
  pub within : next ≤ length seen
  pub len : length part ≡ length old
  pub rest : drop i part ≡ drop i old
  pub behind : IsBehind (drop gap old) h (drop next seen) (drop (i - gap) (drop gap old))
  pub kept : IsKeptOf (drop gap old) h (take (i - gap) (drop gap old)) (take n part)

module _ (h : ℕ) (seen old : List CellData) (gap : ℕ) (list : IsCellList (drop gap old)) (view : IsView (drop gap old) h seen) where
  pub keeping_none : IsKeeping h seen old old gap gap 0 0
  keeping_none =
      let e : 0 ≡ gap - gap = omega arith in
      record {
        since = omega arith;
        places = omega arith;
        within = omega arith;
        len = refl;
        rest = refl;
        behind = subst (λ (k : ℕ). IsBehind (drop gap old) h seen (drop k (drop gap old))) e (behind_all (drop gap old) h seen list view);
        kept = subst (λ (k : ℕ). IsKeptOf (drop gap old) h (take k (drop gap old)) []) e (kept_none (drop gap old) h);
      }

  module _ (part : List CellData) (i n next : ℕ) (k : IsKeeping h seen old part gap i n next) (inside : i < length part) (c : CellData) (is : c ≡ get_or part i no_cell) where
    in_row : i - gap < length (drop gap old)
    in_row = (let l = length-drop gap old in let e = k.len in let s = k.since in omega arith)

    here : c ≡ cell_at (drop gap old) (i - gap)
    here =
        let e : i + 0 ≡ i = omega arith in
        let f : gap + (i - gap) ≡ i = (let s = k.since in omega arith) in
        is ∙ (ap (λ (j : ℕ). get_or part j no_cell) (sym e) ∙ (sym (get_from i 0 part no_cell) ∙ (ap (λ (l : List CellData). get_or l 0 no_cell) k.rest ∙ (get_from i 0 old no_cell ∙ (ap (λ (j : ℕ). get_or old j no_cell) (e ∙ sym f) ∙ sym (get_from gap (i - gap) old no_cell))))))

    further : i - gap + 1 ≡ i + 1 - gap
    further = (let s = k.since in omega arith)

    next_at : IsNextSeen seen next c → IsNextSeen seen next (cell_at (drop gap old) (i - gap))
    next_at m = subst (IsNextSeen seen next) here m

    -- a cell goes
    pub keeping_skip : (IsNextSeen seen next c → ⊥) → (h < c.stamp → ⊥) → IsKeeping h seen old part gap (i + 1) n next
    keeping_skip other low =
        let o : IsNextSeen seen next (cell_at (drop gap old) (i - gap)) → ⊥ = λ m. other (subst (IsNextSeen seen next) (sym here) m) in
        let unwanted : IsWanted (drop gap old) h (cell_at (drop gap old) (i - gap)) → ⊥ = λ w. elim w [
          | inl a ↦ low (subst (λ (x : CellData). h < x.stamp) (sym here) a)
          | inr v ↦ other_unseen (drop gap old) (i - gap) in_row h list seen next view.ascending k.behind o v
        ] in
        record {
          since = (let s = k.since in omega arith);
          places = (let p = k.places in omega arith);
          within = k.within;
          len = k.len;
          rest = sym (drop_drop i 1 part) ∙ (ap (drop 1) k.rest ∙ drop_drop i 1 old);
          behind = subst (λ (j : ℕ). IsBehind (drop gap old) h (drop next seen) (drop j (drop gap old))) further (other_behind (drop gap old) (i - gap) in_row h list seen next view.ascending k.behind o);
          kept = subst (λ (j : ℕ). IsKeptOf (drop gap old) h (take j (drop gap old)) (take n part)) further (kept_skip (drop gap old) (i - gap) in_row h list (take n part) unwanted k.kept);
        }

    -- or it is swapped to behind those that are kept
    module _ (new : List CellData) (long : length new ≡ length part) (swapped : new ≡ set (set part n (get_or part i no_cell)) i (get_or part n no_cell)) where
      low : n ≤ i
      low = (let p = k.places in omega arith)

      swapped_front : take (n + 1) new ≡ take n part ++ cell_at (drop gap old) (i - gap) ∷ []
      swapped_front = swap_front part new n i low inside no_cell swapped ∙ ap (λ (x : CellData). take n part ++ x ∷ []) (sym is ∙ here)

      rest_same : drop (i + 1) new ≡ drop (i + 1) old
      rest_same = swap_behind part new n i low inside no_cell swapped ∙ (sym (drop_drop i 1 part) ∙ (ap (drop 1) k.rest ∙ drop_drop i 1 old))

      kept_more : IsWanted (drop gap old) h (cell_at (drop gap old) (i - gap)) → IsKeptOf (drop gap old) h (take (i + 1 - gap) (drop gap old)) (take (n + 1) new)
      kept_more w = subst (λ (j : ℕ). IsKeptOf (drop gap old) h (take j (drop gap old)) (take (n + 1) new)) further (subst (IsKeptOf (drop gap old) h (take (i - gap + 1) (drop gap old))) (sym swapped_front) (kept_take (drop gap old) (i - gap) in_row h list (take n part) w k.kept))

      pub keeping_seen : IsNextSeen seen next c → IsKeeping h seen old new gap (i + 1) (n + 1) (next + 1)
      keeping_seen m = record {
        since = (let s = k.since in omega arith);
        places = (let p = k.places in omega arith);
        within = (let l = m.0 in omega arith);
        len = long ∙ k.len;
        rest = rest_same;
        behind = subst (λ (j : ℕ). IsBehind (drop gap old) h (drop (next + 1) seen) (drop j (drop gap old))) further (next_behind (drop gap old) (i - gap) in_row h list seen next view.ascending k.behind (next_at m));
        kept = kept_more (inr (next_seen (drop gap old) (i - gap) in_row h list seen next view.ascending k.behind (next_at m)));
      }

      pub keeping_above : (IsNextSeen seen next c → ⊥) → h < c.stamp → IsKeeping h seen old new gap (i + 1) (n + 1) next
      keeping_above other above = record {
        since = (let s = k.since in omega arith);
        places = (let p = k.places in omega arith);
        within = k.within;
        len = long ∙ k.len;
        rest = rest_same;
        behind = subst (λ (j : ℕ). IsBehind (drop gap old) h (drop next seen) (drop j (drop gap old))) further (other_behind (drop gap old) (i - gap) in_row h list seen next view.ascending k.behind (λ m. other (subst (IsNextSeen seen next) (sym here) m)));
        kept = kept_more (inl (subst (λ (x : CellData). h < x.stamp) here above));
      }

  -- all of the row was looked at
  pub keeping_done : (part : List CellData) (i n next : ℕ) → IsKeeping h seen old part gap i n next → length part ≤ i → IsKeptList (drop gap old) h (take n part)
  keeping_done part i n next k end = kept_whole (drop gap old) h (i - gap) (take n part) list (let l = length-drop gap old in let e = k.len in let s = k.since in omega arith) k.kept

pub keeping_as : (h : ℕ) (seen old part part' : List CellData) (gap i n n' next next' : ℕ) → part' ≡ part → n' ≡ n → next' ≡ next → IsKeeping h seen old part gap i n next → IsKeeping h seen old part' gap i n' next'
keeping_as h seen old part part' gap i n n' next next' a b e k =
    subst (λ (l : List CellData). IsKeeping h seen old l gap i n' next') (sym a) (subst (λ (j : ℕ). IsKeeping h seen old part gap i j next') (sym b) (subst (λ (j : ℕ). IsKeeping h seen old part gap i n j) (sym e) k))

-- ---- rows one behind the other

-- What is kept of the first rows was moved to the front.
pub record AreKeeping (h : ℕ) (old cells : List CellData) (at n : ℕ) : Type 0 where
  pub behind : n ≤ at
  pub within : at ≤ length cells
  pub len : length cells ≡ length old
  pub rest : drop at cells ≡ drop at old
  pub kept : IsKeptList (take at old) h (take n cells)
  pub apart : AreApart (take at old) (drop at old)

pub rows_none : (h : ℕ) (cells : List CellData) → AreKeeping h cells cells 0 0
rows_none h cells = record {
  behind = omega arith;
  within = omega arith;
  len = refl;
  rest = refl;
  kept = record { list = record { ascending = tt; placed = tt }; exact = λ c. (λ r. absurd r, λ z. z.0) };
  apart = λ m n a b k. absurd a;
}

part_has : (at j : ℕ) (old : List CellData) (c : CellData) → Has (take j (drop at old)) c → Has (drop at old) c
part_has at j old c g = subst (λ (l : List CellData). Has l c) (take-append-drop j (drop at old)) (has_left (take j (drop at old)) (drop j (drop at old)) c g)

rest_has : (at j : ℕ) (old : List CellData) (c : CellData) → Has (drop (at + j) old) c → Has (drop at old) c
rest_has at j old c g = subst (λ (l : List CellData). Has l c) (take-append-drop j (drop at old)) (has_right (take j (drop at old)) (drop j (drop at old)) c (subst (λ (l : List CellData). Has l c) (sym (drop_drop at j old)) g))

pub part_list : (at j : ℕ) (old : List CellData) → IsCellList old → IsCellList (take j (drop at old))
part_list at j old l =
    let rest : IsAscending (drop at old) = ascending_right (take at old) (drop at old) (subst IsAscending (sym (take-append-drop at old)) l.ascending) in
    record {
      ascending = ascending_left (take j (drop at old)) (drop j (drop at old)) (subst IsAscending (sym (take-append-drop j (drop at old))) rest);
      placed = has_all GoesWith (take j (drop at old)) (λ c g. all_has GoesWith old c l.placed (subst (λ (x : List CellData). Has x c) (take-append-drop at old) (has_right (take at old) (drop at old) c (part_has at j old c g))));
    }

-- the slice from a place on
pub rest_ascending : (at : ℕ) (old cells : List CellData) → IsCellList old → drop at cells ≡ drop at old → IsAscending (take (length cells - at) (drop at cells))
rest_ascending at old cells l same = subst IsAscending (sym (take_rest cells at ∙ same)) (ascending_right (take at old) (drop at old) (subst IsAscending (sym (take-append-drop at old)) l.ascending))

pub rest_within : (at r : ℕ) (cells : List CellData) → at < length cells → r ≤ length (take (length cells - at) (drop at cells)) → at + r ≤ length cells
rest_within at r cells inside le = (let e = ap length (take_rest cells at) in let d = length-drop at cells in omega arith)

module _ (h : ℕ) (old cells : List CellData) (at n : ℕ) (list : IsCellList old) (k : AreKeeping h old cells at n) (end : ℕ) (since : at < end) (within : end ≤ length cells) where
  -- the row that is next, in the part that begins behind what is kept
  pub row_is : drop (at - n) (take (end - n) (drop n cells)) ≡ take (end - at) (drop at old)
  row_is =
      let b = k.behind in
      let e : at - n + (end - at) ≡ end - n = omega arith in
      let f : n + (at - n) ≡ at = omega arith in
      ap (λ (j : ℕ). drop (at - n) (take j (drop n cells))) (sym e) ∙ (drop_take (at - n) (end - at) (drop n cells) ∙ (ap (take (end - at)) (drop_drop n (at - n) cells ∙ ap (λ (j : ℕ). drop j cells) f) ∙ ap (take (end - at)) k.rest))

  pub row_list : IsCellList (drop (at - n) (take (end - n) (drop n cells)))
  row_list = subst IsCellList (sym row_is) (part_list at (end - at) old list)

  pub row_gap : at - n ≤ length (take (end - n) (drop n cells))
  row_gap = (let b = k.behind in let l = length-drop n cells in let t = length-take-le (end - n) (drop n cells) (omega arith) in omega arith)

  module _ (next : AreApart (take (end - at) (drop at cells)) (drop end cells)) (part new : List CellData) (m : ℕ) (long : length part ≡ length (take (end - n) (drop n cells))) (few : m + (at - n) ≤ length part)
      (row : IsKeptList (drop (at - n) (take (end - n) (drop n cells))) h (take m part)) (is : new ≡ take n cells ++ (part ++ drop (end - n) (drop n cells))) where
    part_long : length part ≡ end - n
    part_long = long ∙ length-take-le (end - n) (drop n cells) (let b = k.behind in let l = length-drop n cells in omega arith)

    fits : n + (end - n) ≤ length cells
    fits = (let b = k.behind in omega arith)

    whole : n + (end - n) ≡ end
    whole = (let b = k.behind in omega arith)

    till : at + (end - at) ≡ end
    till = omega arith

    split : take end old ≡ take at old ++ take (end - at) (drop at old)
    split = ap (λ (j : ℕ). take j old) (sym till) ∙ take_split at (end - at) old

    put_at : take (n + m) new ≡ take n cells ++ take m part
    put_at = put_front cells part new n (end - n) fits part_long is m (let f = few in let l = part_long in omega arith)

    behind_same : drop end new ≡ drop end cells
    behind_same = subst (λ (j : ℕ). drop j new ≡ drop j cells) whole (put_behind cells part new n (end - n) fits part_long is)

    rest_old : drop end cells ≡ drop end old
    rest_old = ap (λ (j : ℕ). drop j cells) (sym till) ∙ (sym (drop_drop at (end - at) cells) ∙ (ap (drop (end - at)) k.rest ∙ (drop_drop at (end - at) old ∙ ap (λ (j : ℕ). drop j old) till)))

    sorted : IsAscending (take at old ++ take (end - at) (drop at old))
    sorted = subst IsAscending split (ascending_left (take end old) (drop end old) (subst IsAscending (sym (take-append-drop end old)) list.ascending))

    from_rest : (c : CellData) → Has (drop end old) c → Has (drop at old) c
    from_rest c g = rest_has at (end - at) old c (subst (λ (j : ℕ). Has (drop j old) c) (sym till) g)

    pub rows_more : AreKeeping h old new end (n + m)
    rows_more = record {
      behind = (let f = few in let l = part_long in let b = k.behind in omega arith);
      within = (let l = put_long cells part new n (end - n) fits part_long is in omega arith);
      len = put_long cells part new n (end - n) fits part_long is ∙ k.len;
      rest = behind_same ∙ rest_old;
      kept = subst (λ (l : List CellData). IsKeptList l h (take (n + m) new)) (sym split)
          (subst (IsKeptList (take at old ++ take (end - at) (drop at old)) h) (sym put_at)
          (kept_parts (take at old) (take (end - at) (drop at old)) h sorted (λ x y a b e. k.apart x y a (part_has at (end - at) old y b) e) (take n cells) (take m part) k.kept (subst (λ (l : List CellData). IsKeptList l h (take m part)) row_is row)));
      apart = λ x y a b e. elim (has_append (take at old) (take (end - at) (drop at old)) x (subst (λ (l : List CellData). Has l x) split a)) [
        | inl l ↦ k.apart x y l (from_rest y b) e
        | inr r ↦ next x y (subst (λ (l : List CellData). Has (take (end - at) l) x) (sym k.rest) r) (subst (λ (l : List CellData). Has l y) (sym rest_old) b) e
      ];
    }

pub rows_done : (h : ℕ) (old cells : List CellData) (at n : ℕ) → AreKeeping h old cells at n → length cells ≤ at → IsKeptList old h (take n cells)
rows_done h old cells at n k end = subst (λ (l : List CellData). IsKeptList l h (take n cells)) (take_all at old (let e = k.len in omega arith)) k.kept

-- what the slices say of the rest
pub rest_apart : (at len end : ℕ) (cells rest : List CellData) → rest ≡ drop at cells → end ≡ at + len → AreApart (take len rest) (drop len rest) → AreApart (take (end - at) (drop at cells)) (drop end cells)
rest_apart at len end cells rest is e apart x y a b =
    let j : end - at ≡ len = omega arith in
    apart x y (subst (λ (l : List CellData). Has (take len l) x) (sym is) (subst (λ (k : ℕ). Has (take k (drop at cells)) x) j a))
    (subst (λ (l : List CellData). Has (drop len l) y) (sym is) (subst (λ (l : List CellData). Has l y) (sym (drop_drop at len cells)) (subst (λ (k : ℕ). Has (drop k cells) y) e b)))

-- ---- where a row ends

module _ (rest : List CellData) (n : ℕ) (key : List ℕ) (up : AllUpTo key (take n rest)) (above : AllAbove key (drop n rest)) where
  pub end_apart : AreApart (take n rest) (drop n rest)
  end_apart x y a b e =
      all_has (λ c. key_cmp c.key key ≢ Greater) (take n rest) x up a (subst (λ (k : List ℕ). key_cmp k key ≡ Greater) (sym e) (all_has (λ c. key_cmp c.key key ≡ Greater) (drop n rest) y above b))

greater_not : (o : CellData) (key : List ℕ) → key_cmp o.key key ≡ Greater → o.key ≡ key → ⊥
greater_not o key g e = (let q = equal_key o.key key e in cc)

pub end_since : (rest : List CellData) (n : ℕ) (key : List ℕ) (first : CellData) → 0 < length rest → AllAbove key (drop n rest) → first ≡ get_or rest 0 first → first.key ≡ key → 0 < n
end_since rest (suc n) key first some above head same = omega arith
end_since [] zero key first some above head same = absurd (omega arith)
end_since (x ∷ rest) zero key first some above head same = absurd (greater_not x key above.0 (ap (λ (c : CellData). c.key) (sym head) ∙ same))
