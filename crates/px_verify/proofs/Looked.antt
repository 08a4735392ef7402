-- What looks on a whole path found, taken together.
use Rattle.std.proofs.Common.{ℕ, ◌≡◌, ◌≤◌, not, ◌&&◌, Bool, true, false, Option, None, Some, List, [], ◌∷◌, ◌++◌, length, take, refl, sym, ◌∙◌, ap, subst, ◌⊎◌, inl, inr, append_assoc as append-through}
use Rattle.std.proofs.Math.Seq.{take-length}
use Rattle.px_values.specs.declared.row.Value.{Value}
use Rattle.px_tables.specs.declared.found.Found.{Found}
use Rattle.px_trail.specs.declared.entry.Entry.{Entry}
use Rattle.px_trail.specs.Answers.{IsAmong}
use Rattle.px_trail.specs.Trail.{Base}
use Rattle.px_calls.specs.declared.query.By.{By}
use Rattle.px_calls.specs.declared.query.Chunk.{Chunk}
use Rattle.px_calls.specs.declared.query.FoundKey.{FoundKey}
use Rattle.px_calls.specs.declared.query.FoundKey.TheVariants.{Sure, InDoubt}
use Rattle.px_calls.specs.declared.query.FoundRow.{FoundRow}
use Rattle.px_calls.specs.declared.query.Point.{Point}
use Rattle.px_calls.specs.Known.{Known}
use Rattle.px_calls.specs.Looks.{AreDoubtsOf, IsRightRow, IsRisingFrom, IsRowAt, IsRowShown, ShowsRows, found_by, is_covered, is_on, is_past, key_by, key_found, key_less}
use Rattle.px_calls.specs.Requires.{FitsRow}
use Rattle.px_calls.proofs.Keys.{asymmetric, transitive, up_to}
use Rattle.px_gather.proofs.Answering.{IsFixed, at_exact, exact_at}
use Rattle.px_verify.specs.Looking.{AreLooks, HasFoundChunk, IsLooked, found_in, whole}
use Rattle.px_verify.proofs.Counts.{here, there}

-- 1. Lists

pub among-left : {A : Type 0} (x : A) (xs ys : List A) → IsAmong x xs → IsAmong x (xs ++ ys)
unfolding IsAmong
among-left x [] ys h = absurd h
among-left x (y ∷ xs) ys (inl h) = inl h
among-left x (y ∷ xs) ys (inr h) = inr (among-left x xs ys h)

pub among-right : {A : Type 0} (x : A) (xs ys : List A) → IsAmong x ys → IsAmong x (xs ++ ys)
unfolding IsAmong
among-right x [] ys h = h
among-right x (y ∷ xs) ys h = inr (among-right x xs ys h)

pub among-either : {A : Type 0} (x : A) (xs ys : List A) → IsAmong x (xs ++ ys) → IsAmong x xs ⊎ IsAmong x ys
unfolding IsAmong
among-either x [] ys h = inr h
among-either x (y ∷ xs) ys (inl h) = inl (inl h)
among-either x (y ∷ xs) ys (inr h) = elim (among-either x xs ys h) [ inl l ↦ inl (inr l) | inr r ↦ inr r ]

shown-left : (fs gs : List FoundKey) (f : Found) (by : By) (row : List Value) → IsRowShown fs f by row → IsRowShown (fs ++ gs) f by row
shown-left fs gs f by row (inl h) = inl (among-left (Sure (found_by f by row)) fs gs h)
shown-left fs gs f by row (inr (d, key, h)) = inr (d, key, among-left (InDoubt d) fs gs h)

shown-right : (fs gs : List FoundKey) (f : Found) (by : By) (row : List Value) → IsRowShown gs f by row → IsRowShown (fs ++ gs) f by row
shown-right fs gs f by row (inl h) = inl (among-right (Sure (found_by f by row)) fs gs h)
shown-right fs gs f by row (inr (d, key, h)) = inr (d, key, among-right (InDoubt d) fs gs h)

-- 2. Keys that rise

-- the key isn't past the last
abbrev is_up_to : Option (List ℕ) → List ℕ → Bool
is_up_to None last = true
is_up_to (Some low) last = not (key_less last low)

rising-head : (c : Option (List ℕ)) (g : FoundKey) (fs : List FoundKey) → IsRisingFrom c (g ∷ fs) → (is_past c (key_found g) ≡ true) × IsRisingFrom (Some (key_found g)) fs
unfolding IsRisingFrom
rising-head c g fs h = h

rising-made : (c : Option (List ℕ)) (g : FoundKey) (fs : List FoundKey) → is_past c (key_found g) ≡ true → IsRisingFrom (Some (key_found g)) fs → IsRisingFrom c (g ∷ fs)
unfolding IsRisingFrom
rising-made c g fs h j = (h, j)

rising-none : (c : Option (List ℕ)) → IsRisingFrom c []
unfolding IsRisingFrom
rising-none c = tt

past-earlier : (c : Option (List ℕ)) (last key : List ℕ) → is_up_to c last ≡ true → key_less last key ≡ true → is_past c key ≡ true
past-earlier None last key h j = refl
past-earlier (Some low) last key h j = up_to low last key h j

rising-earlier : (c : Option (List ℕ)) (last : List ℕ) (fs : List FoundKey) → is_up_to c last ≡ true → IsRisingFrom (Some last) fs → IsRisingFrom c fs
rising-earlier c last [] h j = rising-none c
rising-earlier c last (g ∷ fs) h j = let head = rising-head (Some last) g fs j in rising-made c g fs (past-earlier c last (key_found g) h head.0) head.1

rising-on : (c : Option (List ℕ)) (fs gs : List FoundKey) (last : List ℕ) → is_up_to c last ≡ true → IsRisingFrom c fs → ((g : FoundKey) → IsAmong g fs → is_covered (Some last) (key_found g) ≡ true) → IsRisingFrom (Some last) gs → IsRisingFrom c (fs ++ gs)
rising-on c [] gs last h j covered more = rising-earlier c last gs h more
rising-on c (g ∷ fs) gs last h j covered more =
    let head = rising-head c g fs j in
    rising-made c g (fs ++ gs) head.0 (rising-on (Some (key_found g)) fs gs last (covered g (here g fs)) head.1 (λ x among. covered x (there x g fs among)) more)

past-on : (c : Option (List ℕ)) (a b : List ℕ) → is_past c a ≡ true → key_less a b ≡ true → is_past c b ≡ true
past-on None a b h j = refl
past-on (Some l) a b h j = transitive l a b h j

-- keys that rise from one on are past it
pub past-all : (c : Option (List ℕ)) (fs : List FoundKey) → IsRisingFrom c fs → (g : FoundKey) → IsAmong g fs → is_past c (key_found g) ≡ true
unfolding IsAmong
past-all c [] h g among = absurd among
past-all c (x ∷ fs) h g (inl same) = subst (λ (w : FoundKey). is_past c (key_found w) ≡ true) same (rising-head c x fs h).0
past-all c (x ∷ fs) h g (inr among) = let head = rising-head c x fs h in past-on c (key_found x) (key_found g) head.0 (past-all (Some (key_found x)) fs head.1 g among)

pub rising-rest : (c : Option (List ℕ)) (g : FoundKey) (fs : List FoundKey) → IsRisingFrom c (g ∷ fs) → IsRisingFrom (Some (key_found g)) fs
rising-rest c g fs h = (rising-head c g fs h).1

-- where a chunk doesn't end the path, it goes on past where it began
onward : (c : Option (List ℕ)) (last : List ℕ) → is_past c last ≡ true → is_up_to c last ≡ true
onward None last h = refl
onward (Some low) last h = ap not (asymmetric low last h)

-- 3. Each key is on the whole path

not_below : (k : List ℕ) → (not (key_less k []) && true) ≡ true
not_below [] = refl
not_below (n ∷ k) = refl

on-whole : (by : By) (k : List ℕ) → is_on (whole by) k ≡ true
on-whole by k = not_below k

past_or_covered : (last k : List ℕ) → (is_covered (Some last) k ≡ true) ⊎ (key_less last k ≡ true)
past_or_covered last k = elim (key_less last k) as (λ v. (not v ≡ true) ⊎ (v ≡ true)) [ true ↦ inr refl | false ↦ inl refl ]

-- 4. What was found from a key on

-- the keys rise and their doubts are of the index; and of the rows at the point, sure ones are right, and each past `from` is shown
pub record Part (sound : Type 0) (b : Base) (es : List Entry) (p : Point) (by : By) (from : Option (List ℕ)) (keys : List FoundKey) : Type 0 where
  pub rising : IsRisingFrom from keys
  pub doubts : AreDoubtsOf p.found by keys
  pub right : sound → (f : FoundRow) → IsAmong (Sure f) keys → IsRightRow b es p by f
  pub fits : sound → (row : List Value) → IsRowAt b es p row → FitsRow p.found.table row
  pub shown : sound → (row : List Value) → IsRowAt b es p row → is_past from (key_by p.found by row) ≡ true → IsRowShown keys p.found by row

module _ (sound : Type 0) (k : Known) (p : Point) (t : ℕ) (fixed : IsFixed k.base k.seen t p.stamp p.found.at) (is : p.scn ≡ true) (table : p.table.0 ≡ t) (to : p.found.at ≤ length k.seen) where
  row-later : (n : ℕ) (row : List Value) → p.found.at ≤ n → IsRowAt k.base (take n k.seen) p row → IsRowAt k.base k.seen p row
  row-later n row from h =
      subst (λ (l : List Entry). IsRowAt k.base l p row) (take-length k.seen)
      (at_exact k.base k.seen p t p.found.at fixed is table (length k.seen) row to (exact_at k.base k.seen p t p.found.at fixed is table n row from h))

  row-earlier : (n : ℕ) (row : List Value) → p.found.at ≤ n → IsRowAt k.base k.seen p row → IsRowAt k.base (take n k.seen) p row
  row-earlier n row from h =
      at_exact k.base k.seen p t p.found.at fixed is table n row from
      (exact_at k.base k.seen p t p.found.at fixed is table (length k.seen) row to (subst (λ (l : List Entry). IsRowAt k.base l p row) (sym (take-length k.seen)) h))

  -- what a look shows of rows, in the words of all entries
  rows-of : (by : By) (after : Option (List ℕ)) (c : Chunk) → HasFoundChunk sound k p by after c → sound → ShowsRows k.base (take c.at k.seen) p (whole by) after c.found c.next
  rows-of by after c h is_sound = subst (λ (b : Base). ShowsRows b (take c.at k.seen) p (whole by) after c.found c.next) h.base (subst (λ (l : List Entry). ShowsRows h.then.base l p (whole by) after c.found c.next) h.seen (h.did.rows is_sound))

  right-of : (by : By) (after : Option (List ℕ)) (c : Chunk) → HasFoundChunk sound k p by after c → sound → (f : FoundRow) → IsAmong (Sure f) c.found → IsRightRow k.base k.seen p by f
  right-of by after c h is_sound f among = let r = (rows-of by after c h is_sound).right f among in (r.0, row-later c.at r.0 h.since r.1, r.2)

  fits-of : (by : By) (after : Option (List ℕ)) (c : Chunk) → HasFoundChunk sound k p by after c → sound → (row : List Value) → IsRowAt k.base k.seen p row → FitsRow p.found.table row
  fits-of by after c h is_sound row at = (rows-of by after c h is_sound).fits row (row-earlier c.at row h.since at)

  shown-of : (by : By) (after : Option (List ℕ)) (c : Chunk) → HasFoundChunk sound k p by after c → sound → (row : List Value) → IsRowAt k.base k.seen p row → is_past after (key_by p.found by row) ≡ true → is_covered c.next (key_by p.found by row) ≡ true → IsRowShown c.found p.found by row
  shown-of by after c h is_sound row at past covered = (rows-of by after c h is_sound).whole row (row-earlier c.at row h.since at) (on-whole by (key_by p.found by row)) past covered

  last-part : (by : By) (from : Option (List ℕ)) (c : Chunk) → HasFoundChunk sound k p by from c → c.next ≡ None → Part sound k.base k.seen p by from c.found
  last-part by from c h end = record {
    rising = h.did.shows.rising;
    doubts = h.did.shows.doubts;
    right = λ is_sound. right-of by from c h is_sound;
    fits = λ is_sound. fits-of by from c h is_sound;
    shown = λ is_sound row at past. shown-of by from c h is_sound row at past (ap (λ (o : Option (List ℕ)). is_covered o (key_by p.found by row)) end);
  }

  one-more : (by : By) (from : Option (List ℕ)) (c : Chunk) (last : List ℕ) (keys : List FoundKey) → HasFoundChunk sound k p by from c → c.next ≡ Some last → Part sound k.base k.seen p by (Some last) keys → Part sound k.base k.seen p by from (c.found ++ keys)
  one-more by from c last keys h next more =
      let covered : (g : FoundKey) → IsAmong g c.found → is_covered (Some last) (key_found g) ≡ true = λ g among. sym (ap (λ (o : Option (List ℕ)). is_covered o (key_found g)) next) ∙ h.did.shows.covered g among in
      let there = h.did.shows.last last next in
      let past : is_past from last ≡ true = subst (λ (w : List ℕ). is_past from w ≡ true) there.2 (past-all from c.found h.did.shows.rising there.0 there.1) in
      record {
        rising = rising-on from c.found keys last (onward from last past) h.did.shows.rising covered more.rising;
        doubts = λ d among. elim (among-either (InDoubt d) c.found keys among) [ inl l ↦ h.did.shows.doubts d l | inr r ↦ more.doubts d r ];
        right = λ is_sound f among. elim (among-either (Sure f) c.found keys among) [ inl l ↦ right-of by from c h is_sound f l | inr r ↦ more.right is_sound f r ];
        fits = λ is_sound. fits-of by from c h is_sound;
        shown = λ is_sound row at past_from. elim (past_or_covered last (key_by p.found by row)) [
          | inl before ↦ shown-left c.found keys p.found by row (shown-of by from c h is_sound row at past_from (ap (λ (o : Option (List ℕ)). is_covered o (key_by p.found by row)) next ∙ before))
          | inr behind ↦ shown-right c.found keys p.found by row (more.shown is_sound row at behind)
        ];
      }

  parts : (by : By) (from : Option (List ℕ)) (cs : List Chunk) (next : Option (List ℕ)) (last : Chunk) → AreLooks sound k p by from cs next → HasFoundChunk sound k p by next last → last.next ≡ None → Part sound k.base k.seen p by from (found_in cs ++ last.found)
  parts by from [] next last h looked end = last-part by from last (subst (λ (o : Option (List ℕ)). HasFoundChunk sound k p by o last) (sym h) looked) end
  parts by from (c ∷ cs) next last h looked end =
      subst (Part sound k.base k.seen p by from) (sym (append-through c.found (found_in cs) last.found)) (one-more by from c h.1.0 (found_in cs ++ last.found) h.0 h.1.1 (parts by (Some h.1.0) cs next last h.1.2 looked end))

  -- all that was found on the whole path
  pub all-parts : (by : By) (keys : List FoundKey) → IsLooked sound k p by keys → Part sound k.base k.seen p by None keys
  all-parts by keys h = subst (Part sound k.base k.seen p by None) (sym h.keys_are) (parts by None h.before h.from h.last h.looks h.looked h.end)
