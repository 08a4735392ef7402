-- What a scan gathers, key by key.
use Rattle.std.proofs.Common.{ℕ, ◌≡◌, ◌≤◌, ◌+◌, not, if◌then◌else◌, Bool, true, false, Option, None, Some, List, [], ◌∷◌, ◌++◌, map, length, take, refl, sym, ◌∙◌, ap, subst, arith, ◌⊎◌, inl, inr, length-append}
use Rattle.std.proofs.lemmas.List.{take-append-le, append-nil}
use Rattle.std.proofs.Math.Seq.{take-length}
use Rattle.std.proofs.lemmas.Bool.Decides.{nat_tests}
use Rattle.px_values.specs.declared.row.Value.{Value}
use Rattle.px_trail.specs.declared.entry.Entry.{Entry}
use Rattle.px_trail.specs.Answers.{Given, IsAmong}
use Rattle.px_trail.specs.Trail.{Base}
use Rattle.px_calls.specs.declared.query.By.TheVariants as by
use Rattle.px_calls.specs.declared.query.By.{By}
use Rattle.px_calls.specs.declared.query.Chunk.{Chunk}
use Rattle.px_calls.specs.declared.query.Doubt.{Doubt}
use Rattle.px_calls.specs.declared.query.FoundKey.{FoundKey}
use Rattle.px_calls.specs.declared.query.FoundKey.TheVariants.{Sure, InDoubt}
use Rattle.px_calls.specs.declared.query.FoundRow.{FoundRow}
use Rattle.px_calls.specs.declared.query.Held.{Held}
use Rattle.px_calls.specs.declared.query.Path.{Path}
use Rattle.px_calls.specs.declared.query.Point.{Point}
use Rattle.px_tables.specs.declared.found.Found.{Found}
use Rattle.px_calls.specs.Known.{Known}
use Rattle.px_calls.specs.Calls.{Consulted}
use Rattle.px_calls.specs.Looks.{IsRisingFrom, IsRowAt, IsRowShown, Shows, ShowsRows, found_by, is_covered, is_past, key_by, key_found, key_less, shown_by}
use Rattle.px_calls.specs.Requires.{FitsRow}
use Rattle.px_calls.proofs.Keys.{asymmetric, irreflexive, not_past, transitive, up_to as chain_up_to}
use Rattle.px_gather.specs.Query.{IsPathFor, Query}
use Rattle.px_gather.specs.Gathered.{AreRisingRows, Collected, Ended, Frame, Gathered, HasRow, IsHeldAt, IsRightKey, IsRowAfter, Left, Pending, Stood, frame_key, is_full, is_within, kept, kept_held, named_of, opened_at, up_to}

-- 1. The trail grows

row-grows : (f : Frame) (es more : List Entry) (n : ℕ) (row : List Value) → n ≤ length es → IsRowAfter f es n row → IsRowAfter f (es ++ more) n row
row-grows f es more n row le h = subst (λ (l : List Entry). IsRowAt f.base l f.point row) (sym (take-append-le n es more le)) h

row-shrinks : (f : Frame) (es more : List Entry) (n : ℕ) (row : List Value) → n ≤ length es → IsRowAfter f (es ++ more) n row → IsRowAfter f es n row
row-shrinks f es more n row le h = subst (λ (l : List Entry). IsRowAt f.base l f.point row) (take-append-le n es more le) h

pub stood-shrinks : (f : Frame) (es more : List Entry) (row : List Value) → Stood f (es ++ more) row → Stood f es row
stood-shrinks f es more row h = record { all = λ n from to. row-shrinks f es more n row to (h.all n from (omega (arith, length-append es more))) }

held-grows : (f : Frame) (es more : List Entry) (x : Given) → IsHeldAt f es x → IsHeldAt f (es ++ more) x
held-grows f es more x h = record { from = h.from; to = (let t = h.to in omega (arith, length-append es more)); held = row-grows f es more x.at x.row h.to h.held; met = h.met }

pub collected-grows : (f : Frame) (es more : List Entry) (done : List ℕ → Bool) (xs : List Given) → Collected f es done xs → Collected f (es ++ more) done xs
collected-grows f es more done xs h = record {
  held = λ x among. held-grows f es more x (h.held x among);
  passed = h.passed;
  rising = h.rising;
  whole = λ row stood met is_done. h.whole row (stood-shrinks f es more row stood) met is_done;
  fits = λ k is_done row stood. h.fits k is_done row (stood-shrinks f es more row stood);
}

pub gathered-grows : (f : Frame) (es more : List Entry) (done : List ℕ → Bool) (rows : List Given) → Gathered f es done rows → Gathered f (es ++ more) done rows
gathered-grows f es more done rows h = record { given = h.given; same = h.same; collected = collected-grows f es more done h.given h.collected; within = h.within }

left-grows : (f : Frame) (es more : List Entry) (n : ℕ) (c : Option (List ℕ)) (fs : List FoundKey) (next : Option (List ℕ)) → Left f es n c fs next → Left f (es ++ more) n c fs next
left-grows f es more n c fs next h =
    let same : take n (es ++ more) ≡ take n es = take-append-le n es more h.to in
    record {
      from = h.from;
      to = (let t = h.to in omega (arith, length-append es more));
      rising = h.rising;
      before = h.before;
      covered = h.covered;
      right = λ g among. subst (λ (l : List Entry). IsRightKey f.base l f.point f.path.by g) (sym same) (h.right g among);
      fits = λ row at. h.fits row (row-shrinks f es more n row h.to at);
      whole = λ row at met past covered. h.whole row (row-shrinks f es more n row h.to at) met past covered;
    }

pub pending-grows : (f : Frame) (es more : List Entry) (n : ℕ) (fs : List FoundKey) (next : Option (List ℕ)) (rows : List Given) → Pending f es n fs next rows → Pending f (es ++ more) n fs next rows
pending-grows f es more n fs next rows h = record { cursor = h.cursor; left = left-grows f es more n h.cursor fs next h.left; gathered = gathered-grows f es more (up_to h.cursor) rows h.gathered }

pub ended-grows : (f : Frame) (es more : List Entry) (rows : List Given) → Ended f es rows → Ended f (es ++ more) rows
unfolding gathered-grows
ended-grows f es more rows h = record { done = h.done; gathered = gathered-grows f es more h.done rows h.gathered; complete = h.complete; fits = λ row stood. h.fits row (stood-shrinks f es more row stood) }

-- 2. The order

-- a key that is done with comes before one that is past the cursor
done_before : (c : Option (List ℕ)) (a b : List ℕ) → up_to c a ≡ true → is_past c b ≡ true → key_less a b ≡ true
done_before None a b h j = cc
done_before (Some l) a b h j = chain_up_to a l b h j

-- a key is up to the cursor, or past it
done_or_past : (c : Option (List ℕ)) (k : List ℕ) → (up_to c k ≡ true) ⊎ (is_past c k ≡ true)
done_or_past None k = inr refl
done_or_past (Some l) k = elim (key_less l k) as (λ v. (not v ≡ true) ⊎ (v ≡ true)) [ true ↦ inr refl | false ↦ inl refl ]

less_done : (a b : List ℕ) → key_less a b ≡ true → up_to (Some b) a ≡ true
less_done a b h = ap not (asymmetric a b h)

same_done : (a : List ℕ) → up_to (Some a) a ≡ true
same_done a = ap not (irreflexive a)

past_on : (c : Option (List ℕ)) (a b : List ℕ) → is_past c a ≡ true → key_less a b ≡ true → is_past c b ≡ true
past_on None a b h j = refl
past_on (Some l) a b h j = transitive l a b h j

covered_on : (next : Option (List ℕ)) (a b : List ℕ) → is_covered next a ≡ true → up_to (Some a) b ≡ true → is_covered next b ≡ true
covered_on None a b h j = refl
covered_on (Some l) a b h j = not_past b a l j h

no_less : (a b : List ℕ) → not (key_less a b) ≡ true → key_less a b ≡ true → ⊥
no_less a b h j = cc

less_self : (a b : List ℕ) → key_less a b ≡ true → a ≡ b → ⊥
less_self a b h same = let i = irreflexive a in let j : key_less a a ≡ true = subst (λ (w : List ℕ). key_less a w ≡ true) (sym same) h in cc

-- 3. Lists

among-app : {A : Type 0} (x : A) (xs ys : List A) → IsAmong x (xs ++ ys) → IsAmong x xs ⊎ IsAmong x ys
unfolding IsAmong
among-app x [] ys h = inr h
among-app x (y ∷ xs) ys (inl h) = inl (inl h)
among-app x (y ∷ xs) ys (inr h) = elim (among-app x xs ys h) [ inl l ↦ inl (inr l) | inr r ↦ inr r ]

among-left : {A : Type 0} (x : A) (xs ys : List A) → IsAmong x xs → IsAmong x (xs ++ ys)
unfolding IsAmong
among-left x [] ys h = absurd h
among-left x (y ∷ xs) ys (inl h) = inl h
among-left x (y ∷ xs) ys (inr h) = inr (among-left x xs ys h)

among-right : {A : Type 0} (x : A) (xs ys : List A) → IsAmong x ys → IsAmong x (xs ++ ys)
unfolding IsAmong
among-right x [] ys h = h
among-right x (y ∷ xs) ys h = inr (among-right x xs ys h)

pub among_one : {A : Type 0} (x y : A) → IsAmong x (y ∷ []) → y ≡ x
unfolding IsAmong
among_one x y (inl h) = h
among_one x y (inr h) = absurd h

pub here : {A : Type 0} (x : A) (xs : List A) → IsAmong x (x ∷ xs)
unfolding IsAmong
here x xs = inl refl

there : {A : Type 0} (x y : A) (xs : List A) → IsAmong x xs → IsAmong x (y ∷ xs)
unfolding IsAmong
there x y xs h = inr h

pub no : {A : Type 0} (y : A) → IsAmong y [] → ⊥
unfolding IsAmong
no y h = h

rising-one : (f : Frame) (xs : List Given) (z : Given) → AreRisingRows f xs → ((x : Given) → IsAmong x xs → key_less (frame_key f x.row) (frame_key f z.row) ≡ true) → AreRisingRows f (xs ++ z ∷ [])
unfolding AreRisingRows
rising-one f [] z h below = ((λ y among. absurd (no y among)), tt)
rising-one f (x ∷ xs) z h below = (
  (λ y among. elim (among-app y xs (z ∷ []) among) [ inl l ↦ h.0 y l | inr r ↦ subst (λ (w : Given). key_less (frame_key f x.row) (frame_key f w.row) ≡ true) (among_one y z r) (below x (here x xs)) ]),
  rising-one f xs z h.1 (λ y among. below y (there y x xs among)),
)

-- the keys that rise from one on are past it
rising_head : (c : Option (List ℕ)) (g : FoundKey) (fs : List FoundKey) → IsRisingFrom c (g ∷ fs) → (is_past c (key_found g) ≡ true) × IsRisingFrom (Some (key_found g)) fs
unfolding IsRisingFrom
rising_head c g fs h = h

rising_past : (c : List ℕ) (fs : List FoundKey) → IsRisingFrom (Some c) fs → (g : FoundKey) → IsAmong g fs → key_less c (key_found g) ≡ true
unfolding IsRisingFrom IsAmong
rising_past c [] h g among = absurd among
rising_past c (x ∷ fs) h g (inl same) = subst (λ (w : FoundKey). key_less c (key_found w) ≡ true) same h.0
rising_past c (x ∷ fs) h g (inr among) = transitive c (key_found x) (key_found g) h.0 (rising_past (key_found x) fs h.1 g among)

-- one of the keys that show a row is its key
shown_key : (fs : List FoundKey) (d : Found) (w : By) (row : List Value) → IsRowShown fs d w row → (g : FoundKey) × IsAmong g fs × (key_found g ≡ key_by d w row)
shown_key fs d w row (inl a) = (Sure (found_by d w row), a, refl)
shown_key fs d w row (inr z) = (InDoubt z.0, z.2, z.1)

shown_split : (g : FoundKey) (fs : List FoundKey) (d : Found) (w : By) (row : List Value) → IsRowShown (g ∷ fs) d w row → IsRowShown (g ∷ []) d w row ⊎ IsRowShown fs d w row
unfolding IsAmong
shown_split g fs d w row (inl (inl same)) = inl (inl (inl same))
shown_split g fs d w row (inl (inr a)) = inr (inl a)
shown_split g fs d w row (inr (z, key, inl same)) = inl (inr (z, key, inl same))
shown_split g fs d w row (inr (z, key, inr a)) = inr (inr (z, key, a))

nothing_shown : (d : Found) (w : By) (row : List Value) → IsRowShown [] d w row → ⊥
unfolding IsAmong
nothing_shown d w row (inl h) = h
nothing_shown d w row (inr z) = z.2

-- 4. One key more

-- what is known of what one key gave
pub record TakenIs (f : Frame) (es : List Entry) (g : FoundKey) (taken : List Given) : Type 0 where
  pub one : (taken ≡ []) ⊎ ((x : Given) × (taken ≡ x ∷ []))
  pub held : (x : Given) → IsAmong x taken → IsHeldAt f es x
  pub key : (x : Given) → IsAmong x taken → frame_key f x.row ≡ key_found g
  pub whole : (row : List Value) → Stood f es row → f.query.meets row ≡ true → IsRowShown (g ∷ []) f.point.found f.path.by row → HasRow f taken row

left_step : (f : Frame) (es : List Entry) (n : ℕ) (c : Option (List ℕ)) (g : FoundKey) (fs : List FoundKey) (next : Option (List ℕ)) → Left f es n c (g ∷ fs) next → Left f es n (Some (key_found g)) fs next
left_step f es n c g fs next h =
    let head = rising_head c g fs h.rising in
    record {
      from = h.from;
      to = h.to;
      rising = head.1;
      before = λ k done. covered_on next (key_found g) k (h.covered g (here g fs)) done;
      covered = λ x among. h.covered x (there x g fs among);
      right = λ x among. h.right x (there x g fs among);
      fits = h.fits;
      whole = λ row at met past covered.
          elim (shown_split g fs f.point.found f.path.by row (h.whole row at met (past_on c (key_found g) (frame_key f row) head.0 past) covered)) [
            | inl one ↦ (let z = shown_key (g ∷ []) f.point.found f.path.by row one in absurd (less_self (key_found g) (frame_key f row) past (ap key_found (among_one z.0 g z.1) ∙ z.2)))
            | inr rest ↦ rest
          ];
    }

has-left : (f : Frame) (xs ys : List Given) (row : List Value) → HasRow f xs row → HasRow f (xs ++ ys) row
has-left f xs ys row h = record { given = h.given; among = among-left h.given xs ys h.among; key = h.key; same = h.same }

has-right : (f : Frame) (xs ys : List Given) (row : List Value) → HasRow f ys row → HasRow f (xs ++ ys) row
has-right f xs ys row h = record { given = h.given; among = among-right h.given xs ys h.among; key = h.key; same = h.same }

collected_step : (f : Frame) (es : List Entry) (n : ℕ) (c : Option (List ℕ)) (g : FoundKey) (fs : List FoundKey) (next : Option (List ℕ)) (xs taken : List Given)
    → Left f es n c (g ∷ fs) next → Collected f es (up_to c) xs → TakenIs f es g taken → Collected f es (up_to (Some (key_found g))) (xs ++ taken)
collected_step f es n c g fs next xs taken h j t =
    let head = rising_head c g fs h.rising in
    let kf = key_found g in
    record {
      held = λ x among. elim (among-app x xs taken among) [ inl l ↦ j.held x l | inr r ↦ t.held x r ];
      passed = λ x among. elim (among-app x xs taken among) [
        | inl l ↦ less_done (frame_key f x.row) kf (done_before c (frame_key f x.row) kf (j.passed x l) head.0)
        | inr r ↦ subst (λ (k : List ℕ). up_to (Some kf) k ≡ true) (sym (t.key x r)) (same_done kf)
      ];
      rising = elim t.one [
        | inl none ↦ subst (λ (l : List Given). AreRisingRows f (xs ++ l)) (sym none) (subst (AreRisingRows f) (sym (append-nil xs)) j.rising)
        | inr one ↦ subst (λ (l : List Given). AreRisingRows f (xs ++ l)) (sym one.1)
            (rising-one f xs one.0 j.rising (λ x among.
            let at : frame_key f one.0.row ≡ kf = t.key one.0 (subst (λ (l : List Given). IsAmong one.0 l) (sym one.1) (here one.0 [])) in
            subst (λ (k : List ℕ). key_less (frame_key f x.row) k ≡ true) (sym at) (done_before c (frame_key f x.row) kf (j.passed x among) head.0)))
      ];
      whole = λ row stood met done.
          elim (done_or_past c (frame_key f row)) [
            | inl old ↦ has-left f xs taken row (j.whole row stood met old)
            | inr past ↦ elim (shown_split g fs f.point.found f.path.by row (h.whole row (stood.all n h.from h.to) met past (covered_on next kf (frame_key f row) (h.covered g (here g fs)) done))) [
              | inl one ↦ has-right f xs taken row (t.whole row stood met one)
              | inr rest ↦ (let z = shown_key fs f.point.found f.path.by row rest in
                  absurd (no_less kf (frame_key f row) done (subst (λ (k : List ℕ). key_less kf k ≡ true) z.2 (rising_past kf fs head.1 z.0 z.1))))
            ]
          ];
      fits = λ k done row stood. h.fits row (stood.all n h.from h.to);
    }

-- 5. The end of a chunk

past_all : (c : Option (List ℕ)) (fs : List FoundKey) → IsRisingFrom c fs → (g : FoundKey) → IsAmong g fs → is_past c (key_found g) ≡ true
unfolding IsAmong
past_all c [] h g among = absurd among
past_all c (x ∷ fs) h g (inl same) = subst (λ (w : FoundKey). is_past c (key_found w) ≡ true) same (rising_head c x fs h).0
past_all c (x ∷ fs) h g (inr among) = let head = rising_head c x fs h in past_on c (key_found x) (key_found g) head.0 (rising_past (key_found x) fs head.1 g among)

onward : (after : Option (List ℕ)) (fs : List FoundKey) (next : Option (List ℕ)) → IsRisingFrom after fs → ((n : List ℕ) → next ≡ Some n → (g : FoundKey) × IsAmong g fs × (key_found g ≡ n)) → (n : List ℕ) → next ≡ Some n → is_past after n ≡ true
onward after fs next rising last n is = let l = last n is in subst (λ (k : List ℕ). is_past after k ≡ true) l.2 (past_all after fs rising l.0 l.1)

starts_covered : (after next : Option (List ℕ)) (a : List ℕ) → ((n : List ℕ) → next ≡ Some n → is_past after n ≡ true) → up_to after a ≡ true → is_covered next a ≡ true
starts_covered after None a onward done = refl
starts_covered after (Some n) a onward done = less_done a n (done_before after a n done (onward n refl))

right_key : (b : Base) (es : List Entry) (p : Point) (path : Path) (after : Option (List ℕ)) (fs : List FoundKey) (next : Option (List ℕ)) → Shows p path after fs next → ShowsRows b es p path after fs next → (g : FoundKey) → IsAmong g fs → IsRightKey b es p path.by g
right_key b es p path after fs next h rows (Sure x) among = rows.right x among
right_key b es p path after fs next h rows (InDoubt d) among = h.doubts d among

left_start : (f : Frame) (es : List Entry) (after : Option (List ℕ)) (fs : List FoundKey) (next : Option (List ℕ)) → opened_at f ≤ length es → IsPathFor f.query f.point f.path → Shows f.point f.path after fs next → ShowsRows f.base es f.point f.path after fs next → Left f es (length es) after fs next
left_start f es after fs next from path h rows =
    let all : take (length es) es ≡ es = take-length es in
    record {
      from = from;
      to = omega arith;
      rising = h.rising;
      before = λ a done. starts_covered after next a (onward after fs next h.rising h.last) done;
      covered = h.covered;
      right = λ g among. subst (λ (l : List Entry). IsRightKey f.base l f.point f.path.by g) (sym all) (right_key f.base es f.point f.path after fs next h rows g among);
      whole = λ row at met past covered.
          let now : IsRowAt f.base es f.point row = subst (λ (l : List Entry). IsRowAt f.base l f.point row) all at in
          rows.whole row now (path.has_all row (rows.fits row now) met) past covered;
      fits = λ row at. rows.fits row (subst (λ (l : List Entry). IsRowAt f.base l f.point row) all at);
    }

collected_end : (f : Frame) (es : List Entry) (n : ℕ) (c : Option (List ℕ)) (next : Option (List ℕ)) (xs : List Given) → Left f es n c [] next → Collected f es (up_to c) xs → Collected f es (is_covered next) xs
collected_end f es n c next xs h j = record {
  held = j.held;
  passed = λ x among. h.before (frame_key f x.row) (j.passed x among);
  rising = j.rising;
  whole = λ row stood met covered.
      elim (done_or_past c (frame_key f row)) [
        | inl old ↦ j.whole row stood met old
        | inr past ↦ absurd (nothing_shown f.point.found f.path.by row (h.whole row (stood.all n h.from h.to) met past covered))
      ];
  fits = λ k covered row stood. h.fits row (stood.all n h.from h.to);
}

-- 6. What one key gives

sure_of : (x : FoundRow) (d : Found) (w : By) (row : List Value) → IsRowShown (Sure x ∷ []) d w row → x ≡ found_by d w row
sure_of x d w row (inl a) = let e : Sure x ≡ Sure (found_by d w row) = among_one (Sure (found_by d w row)) (Sure x) a in cc
sure_of x d w row (inr (z, key, a)) = let e : Sure x ≡ InDoubt z = among_one (InDoubt z) (Sure x) a in cc

doubt_of : (d : Doubt) (s : Found) (w : By) (row : List Value) → IsRowShown (InDoubt d ∷ []) s w row → d.key ≡ key_by s w row
doubt_of d s w row (inl a) = let e : InDoubt d ≡ Sure (found_by s w row) = among_one (Sure (found_by s w row)) (InDoubt d) a in cc
doubt_of d s w row (inr (z, key, a)) = let e : InDoubt d ≡ InDoubt z = among_one (InDoubt z) (InDoubt d) a in let same : d ≡ z = cc in ap (λ (y : Doubt). y.key) same ∙ key

one_row : (x y : Given) (P : Given → Type 0) → P x → IsAmong y (x ∷ []) → P y
one_row x y P p among = subst P (among_one y x among) p

taken_none : (f : Frame) (es : List Entry) (g : FoundKey) → ((row : List Value) → Stood f es row → f.query.meets row ≡ true → IsRowShown (g ∷ []) f.point.found f.path.by row → ⊥) → TakenIs f es g []
taken_none f es g never = record {
  one = inl refl;
  held = λ x among. absurd (no x among);
  key = λ x among. absurd (no x among);
  whole = λ row stood met shown. absurd (never row stood met shown);
}

taken_one : (f : Frame) (es : List Entry) (g : FoundKey) (x : Given) → IsHeldAt f es x → frame_key f x.row ≡ key_found g
    → ((row : List Value) → Stood f es row → f.query.meets row ≡ true → IsRowShown (g ∷ []) f.point.found f.path.by row → f.query.named x.row ≡ f.query.named row) → TakenIs f es g (x ∷ [])
taken_one f es g x held key whole = record {
  one = inr (x, refl);
  held = λ y among. one_row x y (λ (z : Given). IsHeldAt f es z) held among;
  key = λ y among. one_row x y (λ (z : Given). frame_key f z.row ≡ key_found g) key among;
  whole = λ row stood met shown.
      let z = shown_key (g ∷ []) f.point.found f.path.by row shown in
      record { given = x; among = here x []; key = key ∙ (ap key_found (among_one z.0 g z.1) ∙ z.2); same = whole row stood met shown };
}

-- what one key gave, and what was kept of it
pub record Took (f : Frame) (es : List Entry) (g : FoundKey) (rows : List Given) : Type 0 where
  pub taken : List Given
  pub same : map (named_of f.query) rows ≡ map (named_of f.query) taken
  pub is : TakenIs f es g taken

took_sure : (f : Frame) (es : List Entry) (n : ℕ) (c : Option (List ℕ)) (x : FoundRow) (fs : List FoundKey) (next : Option (List ℕ)) → IsPathFor f.query f.point f.path → Left f es n c (Sure x ∷ fs) next → Took f es (Sure x) (kept f.query x.row n)
took_sure f es n c x fs next path h =
    let s = h.right (Sure x) (here (Sure x) fs) in
    let shown : x.row ≡ shown_by f.point.found f.path.by s.0 = ap (λ (z : FoundRow). z.row) s.2 in
    let meets : f.query.meets x.row ≡ f.query.meets s.0 = ap f.query.meets shown ∙ path.meets s.0 in
    let named : f.query.named x.row ≡ f.query.named s.0 = ap f.query.named shown ∙ path.named s.0 in
    elim (f.query.meets x.row) as (λ t. f.query.meets x.row ≡ t → Took f es (Sure x) (if t then record { row = x.row; at = n } ∷ [] else [])) [
      | true ↦ λ is. record {
        taken = record { row = s.0; at = n } ∷ [];
        same = ap (λ (r : List Value). record { row = r; at = n } ∷ []) named;
        is = taken_one f es (Sure x) (record { row = s.0; at = n })
            (record { from = h.from; to = h.to; held = s.1; met = sym meets ∙ is })
            (sym (ap (λ (z : FoundRow). z.key) s.2))
            (λ row stood met given.
            let e : x ≡ found_by f.point.found f.path.by row = sure_of x f.point.found f.path.by row given in
            sym named ∙ (ap f.query.named (ap (λ (z : FoundRow). z.row) e) ∙ path.named row));
      }
      | false ↦ λ is. record {
        taken = [];
        same = refl;
        is = taken_none f es (Sure x) (λ row stood met given.
            let e : x ≡ found_by f.point.found f.path.by row = sure_of x f.point.found f.path.by row given in
            let m : f.query.meets x.row ≡ f.query.meets row = ap f.query.meets (ap (λ (z : FoundRow). z.row) e) ∙ path.meets row in
            cc);
      }
    ] refl

-- a row at the point now is one after all entries
now_after : (f : Frame) (k : Known) (row : List Value) → f.base ≡ k.base → IsRowAt k.base k.seen f.point row → IsRowAfter f k.seen (length k.seen) row
now_after f k row base h = subst (λ (b : Base). IsRowAt b (take (length k.seen) k.seen) f.point row) (sym base) (subst (λ (l : List Entry). IsRowAt k.base l f.point row) (sym (take-length k.seen)) h)

after_now : (f : Frame) (k : Known) (row : List Value) → f.base ≡ k.base → IsRowAfter f k.seen (length k.seen) row → IsRowAt k.base k.seen f.point row
after_now f k row base h = subst (λ (l : List Entry). IsRowAt k.base l f.point row) (take-length k.seen) (subst (λ (b : Base). IsRowAt b (take (length k.seen) k.seen) f.point row) base h)

-- a row that stood is at the point when the doubt is consulted, under its key
stood_now : (f : Frame) (k : Known) (n : ℕ) (d : Doubt) (row : List Value) → f.base ≡ k.base → f.path.by ≡ by.Index d.index → opened_at f ≤ length k.seen → Stood f k.seen row → IsRowShown (InDoubt d ∷ []) f.point.found f.path.by row
    → IsRowAt k.base k.seen f.point row × (key_by f.point.found (by.Index d.index) row ≡ d.key)
stood_now f k n d row base w from stood shown = (
  after_now f k row base (stood.all (length k.seen) from (omega arith)),
  ap (λ (y : By). key_by f.point.found y row) (sym w) ∙ sym (doubt_of d f.point.found f.path.by row shown),
)

took_doubt : (f : Frame) (k : Known) (n : ℕ) (c : Option (List ℕ)) (d : Doubt) (fs : List FoundKey) (next : Option (List ℕ)) (ho : Option Held)
    → f.base ≡ k.base → Left f k.seen n c (InDoubt d ∷ fs) next → Consulted k f.point d ho → Took f k.seen (InDoubt d) (kept_held f.query ho)
took_doubt f k n c d fs next None base h seen =
    let w : f.path.by ≡ by.Index d.index = (h.right (InDoubt d) (here (InDoubt d) fs)).0 in
    let from : opened_at f ≤ length k.seen = (let a = h.from in let b = h.to in omega arith) in
    record {
      taken = [];
      same = refl;
      is = taken_none f k.seen (InDoubt d) (λ row stood met shown.
          let z = stood_now f k n d row base w from stood shown in
          seen row z.0 z.1);
    }
took_doubt f k n c d fs next (Some x) base h seen =
    let w : f.path.by ≡ by.Index d.index = (h.right (InDoubt d) (here (InDoubt d) fs)).0 in
    let from : opened_at f ≤ length k.seen = (let a = h.from in let b = h.to in omega arith) in
    let only : (row : List Value) → Stood f k.seen row → IsRowShown (InDoubt d ∷ []) f.point.found f.path.by row → row ≡ x.row = λ row stood shown.
    (let z = stood_now f k n d row base w from stood shown in seen.only row z.0 z.1) in
    elim (f.query.meets x.row) as (λ t. f.query.meets x.row ≡ t → Took f k.seen (InDoubt d) (if t then record { row = x.row; at = x.at } ∷ [] else [])) [
      | true ↦ λ is. record {
        taken = record { row = x.row; at = x.at } ∷ [];
        same = refl;
        is = taken_one f k.seen (InDoubt d) (record { row = x.row; at = x.at })
            (record {
              from = (let a = seen.at in omega arith);
              to = (let a = seen.at in omega arith);
              held = subst (λ (m : ℕ). IsRowAfter f k.seen m x.row) (sym seen.at) (now_after f k x.row base seen.row);
              met = is;
            })
            (ap (λ (y : By). key_by f.point.found y x.row) w ∙ seen.key)
            (λ row stood met shown. ap f.query.named (sym (only row stood shown)));
      }
      | false ↦ λ is. record {
        taken = [];
        same = refl;
        is = taken_none f k.seen (InDoubt d) (λ row stood met shown. let e : f.query.meets row ≡ f.query.meets x.row = ap f.query.meets (only row stood shown) in cc);
      }
    ] refl

-- 7. The scan goes on

map-append : {A C : Type 0} (g : A → C) (xs ys : List A) → map g (xs ++ ys) ≡ map g xs ++ map g ys
map-append g [] ys = refl
map-append g (x ∷ xs) ys = ap (λ l. g x ∷ l) (map-append g xs ys)

length-map : {A C : Type 0} (g : A → C) (xs : List A) → length (map g xs) ≡ length xs
length-map g [] = refl
length-map g (x ∷ xs) = let e = length-map g xs in grind arith

pub same_length : (q : Query) (rows given : List Given) → map (named_of q) rows ≡ map (named_of q) given → length rows ≡ length given
same_length q rows given h = sym (length-map (named_of q) rows) ∙ (ap (λ (l : List Given). length l) h ∙ length-map (named_of q) given)

-- one row more, where there were fewer than LIMIT
room : (limit : Option ℕ) (rows taken : List Given) → is_full limit (length rows) ≡ false → length taken ≤ 1 → is_within limit (length (rows ++ taken)) ≡ true
room None rows taken h few = refl
room (Some l) rows taken h few =
    let sum : length (rows ++ taken) ≡ length rows + length taken = length-append rows taken in
    grind (arith, nat_tests)

few_of : (q : Query) (rows taken : List Given) → map (named_of q) rows ≡ map (named_of q) taken → (taken ≡ []) ⊎ ((x : Given) × (taken ≡ x ∷ [])) → length rows ≤ 1
few_of q rows taken same (inl none) = let e = same_length q rows taken same in let z = ap (λ (l : List Given). length l) none in omega arith
few_of q rows taken same (inr one) = let e = same_length q rows taken same in let z = ap (λ (l : List Given). length l) one.1 in omega arith

-- one key is gone through
pending_step : (f : Frame) (es : List Entry) (n : ℕ) (g : FoundKey) (fs : List FoundKey) (next : Option (List ℕ)) (rows more : List Given)
    → is_full f.query.limit (length rows) ≡ false → (h : Pending f es n (g ∷ fs) next rows) → Took f es g more → Pending f es n fs next (rows ++ more)
pending_step f es n g fs next rows more free h t =
    let j = h.gathered in
    record {
      cursor = Some (key_found g);
      left = left_step f es n h.cursor g fs next h.left;
      gathered = record {
        given = j.given ++ t.taken;
        same = map-append (named_of f.query) rows more ∙ (ap (λ (l : List Given). l ++ map (named_of f.query) more) j.same ∙ (ap (λ (l : List Given). map (named_of f.query) j.given ++ l) t.same ∙ sym (map-append (named_of f.query) j.given t.taken)));
        collected = collected_step f es n h.cursor g fs next j.given t.taken h.left j.collected t.is;
        within = room f.query.limit rows more free (few_of f.query more t.taken t.same t.is.one);
      };
    }

-- a key that was found sure
pub pending-sure : (f : Frame) (es : List Entry) (n : ℕ) (x : FoundRow) (fs : List FoundKey) (next : Option (List ℕ)) (rows : List Given)
    → IsPathFor f.query f.point f.path → is_full f.query.limit (length rows) ≡ false → Pending f es n (Sure x ∷ fs) next rows → Pending f es n fs next (rows ++ kept f.query x.row n)
pending-sure f es n x fs next rows path free h = pending_step f es n (Sure x) fs next rows (kept f.query x.row n) free h (took_sure f es n h.cursor x fs next path h.left)

-- a doubt that was consulted: its row was asked for after all that the seat has then seen
pub pending-doubt : (f : Frame) (k : Known) (n : ℕ) (d : Doubt) (fs : List FoundKey) (next : Option (List ℕ)) (rows : List Given) (ho : Option Held)
    → f.base ≡ k.base → is_full f.query.limit (length rows) ≡ false → Pending f k.seen n (InDoubt d ∷ fs) next rows → Consulted k f.point d ho → Pending f k.seen n fs next (rows ++ kept_held f.query ho)
pending-doubt f k n d fs next rows ho base free h seen = pending_step f k.seen n (InDoubt d) fs next rows (kept_held f.query ho) free h (took_doubt f k n h.cursor d fs next ho base h.left seen)

pub pending-end : (f : Frame) (es : List Entry) (n : ℕ) (next : Option (List ℕ)) (rows : List Given) → Pending f es n [] next rows → Gathered f es (is_covered next) rows
pending-end f es n next rows h = record { given = h.gathered.given; same = h.gathered.same; collected = collected_end f es n h.cursor next h.gathered.given h.left h.gathered.collected; within = h.gathered.within }

full_is : (limit : Option ℕ) (n : ℕ) → is_full limit n ≡ true → is_within limit n ≡ true → limit ≡ Some n
full_is None n h j = cc
full_is (Some l) n h j = let e : l ≡ n = grind (arith, nat_tests) in ap Some e

-- the keys ended
pub ended-all : (f : Frame) (es : List Entry) (rows : List Given) → Gathered f es (is_covered None) rows → Ended f es rows
ended-all f es rows h = record { done = is_covered None; gathered = h; complete = λ k. inl refl; fits = λ row stood. h.collected.fits [] refl row stood }

-- LIMIT rows were found
pub ended-full : (f : Frame) (es : List Entry) (c : Option (List ℕ)) (rows : List Given) → Gathered f es (up_to c) rows → is_full f.query.limit (length rows) ≡ true → ((row : List Value) → Stood f es row → FitsRow f.point.found.table row) → Ended f es rows
ended-full f es c rows h full fits = record {
  done = up_to c;
  gathered = h;
  fits = fits;
  complete = λ k. elim (done_or_past c k) [
    | inl old ↦ inl old
    | inr past ↦ inr (record {
      full = full_is f.query.limit (length rows) full h.within ∙ ap Some (same_length f.query rows h.given h.same);
      before = λ x among. done_before c (frame_key f x.row) k (h.collected.passed x among) past;
    })
  ];
}

pub pending-full : (f : Frame) (es : List Entry) (n : ℕ) (fs : List FoundKey) (next : Option (List ℕ)) (rows : List Given) → Pending f es n fs next rows → is_full f.query.limit (length rows) ≡ true → Ended f es rows
pending-full f es n fs next rows h full = ended-full f es h.cursor rows h.gathered full (λ row stood. h.left.fits row (stood.all n h.left.from h.left.to))

none_within : (limit : Option ℕ) → is_within limit 0 ≡ true
none_within None = refl
none_within (Some l) = grind (arith, nat_tests)

-- before the first look
pub gathered-none : (f : Frame) (es : List Entry) → Gathered f es (up_to None) []
unfolding AreRisingRows
gathered-none f es = record {
  given = [];
  same = refl;
  collected = record { held = λ x among. absurd (no x among); passed = λ x among. absurd (no x among); rising = tt; whole = λ row stood met done. cc; fits = λ k done. cc };
  within = none_within f.query.limit;
}

-- a look begins a chunk
pub looks : (f : Frame) (k k' : Known) (after : Option (List ℕ)) (c : Chunk) (more : List Entry) (rows : List Given)
    → f.base ≡ k'.base → k'.seen ≡ k.seen ++ more → opened_at f ≤ length k.seen → IsPathFor f.query f.point f.path
    → Gathered f k.seen (up_to after) rows → Shows f.point f.path after c.found c.next → ShowsRows k'.base k'.seen f.point f.path after c.found c.next → c.at ≡ length k'.seen → Pending f k'.seen c.at c.found c.next rows
looks f k k' after c more rows base seen from path h shows given at =
    let e = ap (λ (m : List Entry). length m) seen in
    let here : ShowsRows f.base k'.seen f.point f.path after c.found c.next = subst (λ (b : Base). ShowsRows b k'.seen f.point f.path after c.found c.next) (sym base) given in
    let left = left_start f k'.seen after c.found c.next (omega (arith, length-append k.seen more)) path shows here in
    record {
      cursor = after;
      left = subst (λ (m : ℕ). Left f k'.seen m after c.found c.next) (sym at) left;
      gathered = subst (λ (s : List Entry). Gathered f s (up_to after) rows) (sym seen) (gathered-grows f k.seen more (up_to after) rows h);
    }
