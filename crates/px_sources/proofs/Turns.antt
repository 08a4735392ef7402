-- One cell after the other is given.
use Rattle.std.proofs.Common.{◌≡◌, ◌⊎◌, ℕ, zero, suc, ◌+◌, ◌<◌, ◌≤◌, true, false, cond, List, [], ◌∷◌, ◌++◌, length, take, drop, get_or, refl, sym, ap, subst, ◌∙◌, add-one, arith, inl, inr}
use Rattle.std.specs.Prelude.{Bool, map, min, nat_eq, not}
use Rattle.std.specs.Cmp.Lexicographic.{pointwise}
use Rattle.std.proofs.lemmas.Bool.{cases_eq}
use Rattle.std.proofs.lemmas.List.{drop_all, take_more}
use Rattle.px_outside.specs.declared.disk.Disk.{Ghosts}
use Rattle.px_cells.specs.CellData.{CellData}
use Rattle.px_cells.specs.Order.{SamePlace}
use Rattle.px_merge.specs.Merged.{joined}
use Rattle.px_merge.specs.Settle.{settle}
use Rattle.px_sources.specs.Giving.{begins_row, key_at, rows_before}
use Rattle.px_sources.specs.Passed.{KnowsRow, begins_behind, behind, place_of}
use Rattle.px_sources.specs.Sources.{AllGive}
use Rattle.px_sources.specs.Turns.{IsMoved}
use Rattle.px_sources.specs.declared.last.Last.{Last}
use Rattle.px_sources.specs.declared.source.Source.{Source}
use Rattle.px_sources.proofs.Behind.{passed_is}
use Rattle.px_sources.proofs.Given.{begins_first, begins_next, key_of, looked_step, row_none, row_step}
use Rattle.px_sources.proofs.Sources.{all_sorted}

-- ---- the next of all cells

pub record IsNext (all : List CellData) (n : ℕ) (c : CellData) (rest : List CellData) : Type 0 where
  pub within : n < length all
  pub at : c ≡ get_or all n c
  pub behind : rest ≡ drop (n + 1) all
  pub taken : take (n + 1) all ≡ take n all ++ c ∷ []

pub next_is : (all : List CellData) (n : ℕ) (c : CellData) (rest : List CellData) → drop n all ≡ c ∷ rest → IsNext all n c rest
next_is all n c rest is =
    let place = at all n is in
    record { within = place.0; at = place.1.0; behind = place.1.1; taken = take_more all n c place.0 ∙ ap (λ (x : CellData). take n all ++ x ∷ []) (sym place.1.0) }
  where
    at : (all : List CellData) (n : ℕ) → drop n all ≡ c ∷ rest → (n < length all) × ((c ≡ get_or all n c) × (rest ≡ drop (n + 1) all))
    at [] zero is = cc
    at [] (suc n) is = cc
    at (x ∷ all) zero is = (omega arith, ((let e : c ≡ x = cc in e), (let e : rest ≡ all = cc in e)))
    at (x ∷ all) (suc n) is = (
        let z = at all n is in
        let e : suc n + 1 ≡ suc (n + 1) = omega arith in
        let lt : suc n < length (x ∷ all) = omega (arith, z.0) in
        (lt, (z.1.0, z.1.1 ∙ ap (λ (k : ℕ). drop k (x ∷ all)) (sym e))))

pub none_next : (all : List CellData) (n : ℕ) → n ≤ length all → drop n all ≡ [] → n ≡ length all
none_next [] zero le is = refl
none_next [] (suc n) le is = absurd (omega arith)
none_next (x ∷ all) zero le is = cc
none_next (x ∷ all) (suc n) le is = (let e = none_next all n (omega arith) is in omega arith)

-- ---- rows

pub row_known : (last : Last) (all : List CellData) (n : ℕ) (c : CellData) → KnowsRow last all n → n < length all → c ≡ get_or all n c → begins_behind last c ≡ begins_row all n
row_known last all zero c known lt is = by last.some known ∙ sym (begins_first all 0 refl)
  where
    by : (b : Bool) → b ≡ false → Rattle.px_sources.specs.Passed.begins_by b last.key.items c.key ≡ true
    by true e = cc
    by false e = refl
row_known last all (suc n) c known lt is =
    by last.some known.0 ∙ ap (λ (k : List ℕ). not (pointwise nat_eq k c.key)) known.1
    ∙ ap (λ (k : List ℕ). not (pointwise nat_eq (key_at all n) k)) (sym (key_of all (suc n) c c.key lt is refl)) ∙ sym (begins_next all (suc n) n refl)
  where
    by : (b : Bool) → b ≡ true → Rattle.px_sources.specs.Passed.begins_by b last.key.items c.key ≡ not (pointwise nat_eq last.key.items c.key)
    by true e = refl
    by false e = cc

pub row_of : (last : Last) (all : List CellData) (n : ℕ) (c : CellData) (rest : List CellData) → KnowsRow last all n → drop n all ≡ c ∷ rest → begins_behind last c ≡ begins_row all n
row_of last all n c rest known is = (let next = next_is all n c rest is in row_known last all n c known next.within next.at)

-- the count stays at most what all rows add
pub most_more : (start rows one all old new : ℕ) → old ≡ min (start + rows) 18446744073709551615 → new ≤ old + one → rows + one ≤ all → new ≤ start + all
most_more start rows one all old new is le within = omega arith

pub known_next : (last : Last) (all : List CellData) (n : ℕ) (c : CellData) → SamePlace (place_of last) c → last.some ≡ true → n < length all → c ≡ get_or all n c → KnowsRow last all (n + 1)
known_next last all n c same some lt is = subst (KnowsRow last all) (sym (add-one n)) (some, same.key ∙ sym (key_of all n c c.key lt is refl))

-- ---- a turn

module _ {D : Type 0} (d : Ghosts D) where
  pub moved : (sources after : List Source) (disk disk' : D) (last : Last) (all : List CellData) (n looked now : ℕ) (lists : List (List CellData)) (c : CellData) (rest : List CellData) → AllGive d sources disk lists → settle (joined lists) ≡ drop n all
      → settle (joined lists) ≡ c ∷ rest → SamePlace (place_of last) c → last.some ≡ true → AllGive d after disk' (map (behind (place_of last)) lists) → now ≡ min (looked + cond (begins_row all n) 1 0) 18446744073709551615
      → IsMoved d after disk' last all n looked now
  moved sources after disk disk' last all n looked now lists c rest give whole head same some passed counted =
      let next = next_is all n c rest (sym whole ∙ head) in
      record {
        within = next.within;
        lists = map (behind (place_of last)) lists;
        give = passed;
        rest = sym (passed_is (place_of last) c rest lists (all_sorted d sources disk lists give) same head) ∙ next.behind;
        known = known_next last all n c same some next.within next.at;
        counted = counted;
      }

  -- so many were given
  pub record HasGiven (sources : List Source) (disk : D) (last : Last) (all : List CellData) (n looked now : ℕ) : Type 0 where
    pub within : n ≤ length all
    pub lists : List (List CellData)
    pub give : AllGive d sources disk lists
    pub rest : settle (joined lists) ≡ drop n all
    pub known : KnowsRow last all n
    pub counted : now ≡ min (looked + rows_before all n) 18446744073709551615

  pub given_none : (sources : List Source) (disk : D) (last : Last) (lists : List (List CellData)) (looked : ℕ) → AllGive d sources disk lists → last.some ≡ false → looked ≤ 18446744073709551615 → HasGiven sources disk last (settle (joined lists)) 0 looked looked
  given_none sources disk last lists looked give none small = record {
    within = omega arith;
    lists = lists;
    give = give;
    rest = refl;
    known = none;
    counted = (let z = row_none (settle (joined lists)) in omega arith);
  }

  pub given_more : (before sources : List Source) (disk disk' : D) (last after : Last) (all : List CellData) (n looked now then : ℕ) → HasGiven before disk last all n looked now → IsMoved d sources disk' after all n now then → HasGiven sources disk' after all (n + 1) looked then
  given_more before sources disk disk' last after all n looked now then has is = record {
    within = (let w = is.within in omega arith);
    lists = is.lists;
    give = is.give;
    rest = is.rest;
    known = is.known;
    counted = looked_step looked (rows_before all n) (cond (begins_row all n) 1 0) now then has.counted is.counted ∙ ap (λ (k : ℕ). min (looked + k) 18446744073709551615) (sym (row_step all n));
  }
