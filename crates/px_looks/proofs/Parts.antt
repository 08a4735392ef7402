-- Ranges that are gone through part by part.
use Rattle.std.proofs.Common.{◌≡◌, ℕ, suc, ◌+◌, ◌-◌, ◌<◌, ◌≤◌, ◌⊎◌, true, Option, Some, None, List, [], ◌∷◌, ◌++◌, length, get_or, refl, ap, sym, subst, ◌∙◌, inl, inr, arith}
use Rattle.std.specs.Prelude.{MatchOption, not}
use Rattle.std.proofs.lemmas.List.{length-append}
use Rattle.std.specs.Ordering.{is_lt}
use Rattle.std.specs.declared.cmp.Ordering.{Ordering}
use Rattle.std.specs.declared.cmp.Ordering.TheVariants.{Less, Equal, Greater}
use Rattle.px_cells.specs.declared.kind.CellKind.{CellKind}
use Rattle.px_cells.specs.CellData.{CellData}
use Rattle.px_cells.specs.Contents.{Contents, value_at}
use Rattle.px_cells.specs.Order.{GoesWith, IsCellList, key_cmp}
use Rattle.px_cells.specs.Rows.{AreRows, IsBeforeEnd}
use Rattle.px_cells.specs.Sight.{IsPlainRegion}
use Rattle.px_cells.proofs.Among.{has_all, reads_from_has}
use Rattle.px_region.specs.Giving.{key_at, rows_before}
use Rattle.px_region.proofs.Given.{row_none}
use Rattle.px_trail.specs.Answers.{IsAmong}
use Rattle.px_calls.specs.Looks.{IsRisingFrom, is_past, key_found}
use Rattle.px_calls.specs.declared.query.FoundKey.{FoundKey}
use Rattle.px_looks.specs.Found.{AreFoundIn, AreNext, RowContents, at_key}
use Rattle.px_looks.specs.Keys.{next_key}
use Rattle.px_looks.specs.inner.Among.{FoundAmong}
use Rattle.px_looks.specs.inner.Parts.{FoundTo, IsFirst, end_or}
use Rattle.px_looks.proofs.Among.{found_in, same_within}
use Rattle.px_looks.specs.inner.Lent.{IsTaken}
use Rattle.px_looks.proofs.Cut.{key_in_rows}
use Rattle.px_looks.proofs.KeyOrder.{above_itself, before_up, equal, higher, key_apart, key_itself, key_on, key_trans, key_up, keys_by, less_next, lower, next_less}
use Rattle.px_looks.proofs.Rising.{among_back, among_front, among_here, among_none, among_parts, past_key, rises_after, rises_join, rises_none}

-- ---- where a range begins

pub less_from : (o : Ordering) → is_lt o ≡ true → o ≡ Less
less_from Less h = refl
less_from Equal h = cc
less_from Greater h = cc

pub key_past : (a b : List ℕ) → is_past (Some a) b ≡ true → key_cmp a b ≡ Less
key_past a b h = less_from (key_cmp a b) h

pub first_low : (low : List ℕ) → IsFirst low None low
first_low low = record { each = λ k. ((λ h. (h, refl)), (λ h. h.0)) }

-- a key after which to begin that isn't below the path
pub first_after : (low a : List ℕ) → (key_cmp a low ≡ Less → ⊥) → IsFirst low (Some a) (next_key a)
first_after low a le = record {
  each = λ k. (
    (λ h. (let past : key_cmp a k ≡ Less = past_by k h in ((λ l. le (key_trans a k low past l)), past_key a k past))),
    (λ h. λ l. less_next k a l (key_past a k h.1)),
  );
}
  where
    past_by : (k : List ℕ) → (key_cmp k (next_key a) ≡ Less → ⊥) → key_cmp a k ≡ Less
    past_by k h = elim (keys_by a k) [
      | lower l ↦ l
      | equal e ↦ absurd (h (next_less k a (λ l. key_itself a (subst (λ z. key_cmp a z ≡ Less) (sym e) l))))
      | higher l ↦ absurd (h (next_less k a (λ m. key_itself a (key_trans a k a m l))))
    ]

-- one that is
pub first_before : (low a : List ℕ) → key_cmp a low ≡ Less → IsFirst low (Some a) low
first_before low a less = record { each = λ k. ((λ h. (h, past_key a k (key_on a low k less h))), (λ h. h.0)) }

-- ---- the last one

some_is : {A : Type 0} (a b : A) → Some a ≡ Some b → a ≡ b
some_is a b e = cc

not_less : (o : Ordering) → (o ≡ Less → ⊥) → not (is_lt o) ≡ true
not_less Less h = absurd (h refl)
not_less Equal h = refl
not_less Greater h = refl

less_not : (o : Ordering) → not (is_lt o) ≡ true → o ≡ Less → ⊥
less_not Less h g = cc
less_not Equal h g = cc
less_not Greater h g = cc

ends : (fs : List FoundKey) (x : FoundKey) → 0 < length fs → x ≡ get_or fs (length fs - 1) x → (front : List FoundKey) × (fs ≡ front ++ x ∷ [])
ends [] x some is = absurd (omega arith)
ends (f ∷ []) x some is = ([], ap (λ (z : FoundKey). z ∷ []) (sym is))
ends (f ∷ g ∷ fs) x some is =
    (let one : suc (suc (length fs)) - 1 ≡ suc (length fs) = omega arith in
    let two : length fs ≡ suc (length fs) - 1 = omega arith in
    let r = ends (g ∷ fs) x (omega arith) (is ∙ ap (λ (n : ℕ). get_or (f ∷ g ∷ fs) n x) one ∙ ap (λ (n : ℕ). get_or (g ∷ fs) n x) two) in
    (f ∷ r.0, ap (λ (l : List FoundKey). f ∷ l) r.1))

first_below : (k : List ℕ) (front : List FoundKey) (x : FoundKey) → IsRisingFrom (Some k) (front ++ x ∷ []) → key_cmp k (key_found x) ≡ Less
unfolding IsRisingFrom
first_below k [] x h = key_past k (key_found x) h.0
first_below k (y ∷ front) x h = key_trans k (key_found y) (key_found x) (key_past k (key_found y) h.0) (first_below (key_found y) front x h.1)

last_is : (l : Option (List ℕ)) (front : List FoundKey) (x : FoundKey) → IsRisingFrom l (front ++ x ∷ []) → (f : FoundKey) → IsAmong f (front ++ x ∷ []) → key_cmp (key_found x) (key_found f) ≡ Less → ⊥
unfolding IsRisingFrom IsAmong
last_is l [] x h f (inl e) less = key_itself (key_found x) (subst (λ (z : FoundKey). key_cmp (key_found x) (key_found z) ≡ Less) (sym e) less)
last_is l [] x h f (inr a) less = absurd a
last_is l (y ∷ front) x h f (inl e) less =
    key_itself (key_found x) (key_trans (key_found x) (key_found f) (key_found x) less (subst (λ (z : FoundKey). key_cmp (key_found z) (key_found x) ≡ Less) e (first_below (key_found y) front x h.1)))
last_is l (y ∷ front) x h f (inr a) less = last_is (Some (key_found y)) front x h.1 f a less

-- ---- parts

module _ (shows : List ℕ → RowContents → FoundKey → Type 0) (g : Contents) (from : List ℕ) (high : Option (List ℕ)) where
  pub nothing_to : FoundTo shows g from high from []
  nothing_to = record {
    found = record { rising = rises_none None; right = λ f a. absurd (among_none f a); whole = λ k f w sh. absurd (w.0 w.1) };
    below = λ f a. absurd (among_none f a);
    up = key_itself from;
  }

  module _ (to : List ℕ) (fs more : List FoundKey) (done : FoundTo shows g from high to fs) where
    joined : (end : Option (List ℕ)) → AreFoundIn shows g to end more → ((f : FoundKey) → IsAmong f fs → IsBeforeEnd (key_found f) end) → AreFoundIn shows g from end (fs ++ more)
    joined end part below = record {
      rising = rises_join None fs more done.found.rising part.rising (λ y a. refl) (λ x y a b. key_on (key_found x) to (key_found y) (done.found.right x a).0.1 (part.right y b).0.0);
      right = λ f a. elim (among_parts f fs more a) [
        | inl b ↦ (((done.found.right f b).0.0, below f b), (done.found.right f b).1)
        | inr b ↦ (((λ l. (part.right f b).0.0 (key_on (key_found f) from to l done.up)), (part.right f b).0.1), (part.right f b).1)
      ];
      whole = λ k f w sh. elim (keys_by k to) [
        | lower l ↦ among_front f fs more (done.found.whole k f (w.0, l) sh)
        | equal e ↦ among_back f fs more (part.whole k f ((λ l. key_apart k to l e), w.1) sh)
        | higher l ↦ among_back f fs more (part.whole k f ((λ m. key_itself k (key_trans k to k m l)), w.1) sh)
      ];
    }

    -- the last part
    pub found_all : AreFoundIn shows g to high more → AreFoundIn shows g from high (fs ++ more)
    found_all part = joined high part done.below

    -- one that isn't
    pub found_further : (end : List ℕ) → AreFoundIn shows g to (Some end) more → key_cmp to end ≡ Less → ((f : FoundKey) → IsAmong f more → IsBeforeEnd (key_found f) high) → FoundTo shows g from high end (fs ++ more)
    found_further end part up below = record {
      found = joined (Some end) part (λ f a. key_trans (key_found f) to end (done.found.right f a).0.1 up);
      below = λ f a. elim (among_parts f fs more a) [
        | inl b ↦ done.below f b
        | inr b ↦ below f b
      ];
      up = λ l. done.up (key_trans to end from up l);
    }

  -- ---- what is answered

  module _ (low : List ℕ) (after : Option (List ℕ)) (first : IsFirst low after from) where
    -- to the end
    pub next_none : (fs : List FoundKey) → AreFoundIn shows g from high fs → length fs ≤ 64 → AreNext shows g low high after fs None
    next_none fs found few = record {
      rising = rises_after after fs found.rising (λ f a. ((first.each (key_found f)).0 (found.right f a).0.0).1);
      sized = few;
      last = λ n e. absurd (let z : None ≡ Some n = e in cc);
      covered = λ f a. refl;
      right = λ f a. ((((first.each (key_found f)).0 (found.right f a).0.0).0, (found.right f a).0.1), (found.right f a).1);
      whole = λ k f w past covered sh. found.whole k f ((first.each k).1 (w.0, past), w.1) sh;
    }

    -- up to the last one
    pub next_some : (fs : List FoundKey) (x : FoundKey) (to : List ℕ) → FoundTo shows g from high to fs → length fs ≡ 64 → x ≡ get_or fs (length fs - 1) x → AreNext shows g low high after fs (Some (key_found x))
    next_some fs x to done full is = by (ends fs x (omega arith) is)
      where
        by : (front : List FoundKey) × (fs ≡ front ++ x ∷ []) → AreNext shows g low high after fs (Some (key_found x))
        by z =
            let among : IsAmong x fs = subst (λ (l : List FoundKey). IsAmong x l) (sym z.1) (among_here x z.0) in
            let top : (f : FoundKey) → IsAmong f fs → key_cmp (key_found x) (key_found f) ≡ Less → ⊥
            = λ f a. last_is None z.0 x (subst (IsRisingFrom None) z.1 done.found.rising) f (subst (λ (l : List FoundKey). IsAmong f l) z.1 a) in
            record {
              rising = rises_after after fs done.found.rising (λ f a. ((first.each (key_found f)).0 (done.found.right f a).0.0).1);
              sized = full;
              last = λ n e. (x, among, some_is (key_found x) n e);
              covered = λ f a. not_less (key_cmp (key_found x) (key_found f)) (top f a);
              right = λ f a. ((((first.each (key_found f)).0 (done.found.right f a).0.0).0, done.below f a), (done.found.right f a).1);
              whole = λ k f w past covered sh. done.found.whole k f ((first.each k).1 (w.0, past), key_up k (key_found x) to (less_not (key_cmp (key_found x) k) covered) (done.found.right x among).0.1) sh;
            }

-- ---- what is gathered, and what is found in it

pub rows_list : (cells : List CellData) (low : List ℕ) (high : Option (List ℕ)) (got : List CellData) → IsPlainRegion cells → (0 < length got → AreRows cells low high got) → IsCellList got
rows_list cells low high [] plain are = record { ascending = tt; placed = tt }
rows_list cells low high (c ∷ got) plain are =
    (let rows = are (omega arith) in
    record { ascending = rows.ascending; placed = has_all GoesWith (c ∷ got) (λ x has. plain.placed x ((rows.exact x).0 (reads_from_has (c ∷ got) x rows.ascending has)).0) })

module _ (cells : List CellData) (low : List ℕ) (high : Option (List ℕ)) (most rows : ℕ) (got : List CellData) (taken : IsTaken cells low high most rows got) where
  -- what is admitted at each key of the whole is admitted at the keys that are gathered
  pub part_admits : (admits : List ℕ → RowContents → Type 0) → ((k : List ℕ) → admits k (at_key (value_at cells) k)) → (j : ℕ) → j < length got → admits (key_at got j) (at_key (value_at got) (key_at got j))
  part_admits admits all j lt =
      let are = taken.part (omega arith) in
      subst (λ (h : RowContents). admits (key_at got j) h) (sym (same_within (λ k h f. ⊥) got cells low (Some (next_key (key_at got (length got - 1)))) are (key_at got j) (key_in_rows cells low (Some (next_key (key_at got (length got - 1)))) got are j lt)))
      (all (key_at got j))

  module _ (shows : List ℕ → RowContents → FoundKey → Type 0) (some : (k : List ℕ) (h : RowContents) (f : FoundKey) → shows k h f → (q s : ℕ) × (d : CellKind) × (v : List ℕ) × (h q s d ≡ Some v)) (fs : List FoundKey)
      (found : FoundAmong shows got (length got) fs) where
    -- all of a range
    pub part_found : 0 < most → (end : Option (List ℕ)) → MatchOption end ((rows < most) ⊎ (length got ≡ 0)) (λ e. (0 < length got) × (e ≡ next_key (key_at got (length got - 1)))) → AreFoundIn shows (value_at cells) low (end_or end high) fs
    part_found wanted None (inl less) = found_in shows got cells low high (taken.all less) fs some found
    part_found wanted None (inr none) =
        (let zero : rows_before got (length got) ≡ 0 = ap (rows_before got) none ∙ row_none got in
        let counted = taken.counted in found_in shows got cells low high (taken.all (omega arith)) fs some found)
    part_found wanted (Some e) is = subst (λ (k : List ℕ). AreFoundIn shows (value_at cells) low (Some k) fs) (sym is.1) (found_in shows got cells low (Some (next_key (key_at got (length got - 1)))) (taken.part is.0) fs some found)

    -- the range isn't empty
    pub part_up : (end : Option (List ℕ)) → MatchOption end ((rows < most) ⊎ (length got ≡ 0)) (λ e. (0 < length got) × (e ≡ next_key (key_at got (length got - 1)))) → (e : List ℕ) → end ≡ Some e → key_cmp low e ≡ Less
    part_up None is e same = absurd (let z : None ≡ Some e = same in cc)
    part_up (Some x) is e same =
        (let z : x ≡ e = some_is x e same in
        subst (λ (k : List ℕ). key_cmp low k ≡ Less) (sym is.1 ∙ z) (key_up low (key_at got (length got - 1)) (next_key (key_at got (length got - 1))) (taken.within is.0).0 (above_itself (key_at got (length got - 1)))))

    -- what is found is on the path
    pub part_below : (f : FoundKey) → IsAmong f fs → IsBeforeEnd (key_found f) high
    part_below f a =
        let o = found.own f a in
        let lt = o.within in
        let last = key_at got (length got - 1) in
        let within = key_in_rows cells low (Some (next_key last)) got (taken.part (omega arith)) o.place o.within in
        subst (λ (k : List ℕ). IsBeforeEnd k high) o.is (before_up (key_at got o.place) last high (less_next (key_at got o.place) last within.1) (taken.within (omega arith)).1)

-- ---- one part more

last_one : (fs : List FoundKey) → 0 < length fs → (x : FoundKey) × (x ≡ get_or fs (length fs - 1) x)
last_one [] some = absurd (omega arith)
last_one (f ∷ []) some = (f, refl)
last_one (f ∷ g ∷ fs) some =
    (let r = last_one (g ∷ fs) (omega arith) in
    let one : suc (suc (length fs)) - 1 ≡ suc (length fs) = omega arith in
    let two : length fs ≡ suc (length fs) - 1 = omega arith in
    (r.0, r.1 ∙ ap (λ (n : ℕ). get_or (g ∷ fs) n r.0) (sym two) ∙ ap (λ (n : ℕ). get_or (f ∷ g ∷ fs) n r.0) (sym one)))

module _ (shows : List ℕ → RowContents → FoundKey → Type 0) (g : Contents) (start : List ℕ) (high : Option (List ℕ)) (slice to : List ℕ) (same : slice ≡ to) (fs more new : List FoundKey) (is : new ≡ fs ++ more) (end : Option (List ℕ))
    (part : AreFoundIn shows g slice (end_or end high) more) (done : FoundTo shows g start high to fs) where
  pub on_none : end ≡ None → (most : ℕ) (held : List FoundKey) → held ≡ fs → most + length held ≡ 64 → length more ≤ most → (low : List ℕ) (after : Option (List ℕ)) → IsFirst low after start → AreNext shows g low high after new None
  on_none none most held held-is left few low after first =
      subst (λ (l : List FoundKey). AreNext shows g low high after l None) (sym is)
      (next_none shows g start high low after first (fs ++ more) (found_all shows g start high to fs more done (subst (λ (k : List ℕ). AreFoundIn shows g k high more) same (subst (λ (o : Option (List ℕ)). AreFoundIn shows g slice (end_or o high) more) none part)))
      (let a = length-append fs more in let b = ap length held-is in omega arith))

  module _ (e : List ℕ) (some : end ≡ Some e) (up : (x : List ℕ) → end ≡ Some x → key_cmp slice x ≡ Less) (below : (f : FoundKey) → IsAmong f more → IsBeforeEnd (key_found f) high) where
    pub on_further : FoundTo shows g start high e new
    on_further = subst (FoundTo shows g start high e) (sym is)
        (found_further shows g start high to fs more done e (subst (λ (k : List ℕ). AreFoundIn shows g k (Some e) more) same (subst (λ (o : Option (List ℕ)). AreFoundIn shows g slice (end_or o high) more) some part))
        (subst (λ (k : List ℕ). key_cmp k e ≡ Less) same (up e some)) below)

    pub on_over : length new ≡ 64 → (next : Option (List ℕ)) (n : List ℕ) → next ≡ Some n → ((f : FoundKey) → f ≡ get_or new (length new - 1) f → n ≡ key_found f) → (low : List ℕ) (after : Option (List ℕ)) → IsFirst low after start → AreNext shows g low high after new next
    on_over full next n next-is key low after first =
        (let x = last_one new (omega arith) in
        subst (AreNext shows g low high after new) (sym (next-is ∙ ap (λ (k : List ℕ). Some k) (key x.0 x.1))) (next_some shows g start high low after first new x.0 e on_further full x.1))
