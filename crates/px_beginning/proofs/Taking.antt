-- Room in the regions of indexes, one place after another.
use Rattle.std.proofs.Common.{◌≡◌, ℕ, zero, suc, ◌<◌, ◌≤◌, ◌+◌, List, [], ◌∷◌, length, get_or, set, inl, inr, refl, ap, sym, ◌∙◌, subst, arith}
use Rattle.std.proofs.Math.ListN.{length-set}
use Rattle.std.proofs.lemmas.Bool.{cases_eq}
use Rattle.std.proofs.lemmas.List.{get_or-set_other, get_or-set_same}
use Rattle.px_group.specs.declared.group.IndexRegion.{IndexRegion}
use Rattle.px_region.specs.Promise.{IsAlike, IsSamePromise}
use Rattle.px_region.proofs.Alike.{alike_refl, alike_then}
use Rattle.px_region.specs.declared.region.Region.{Region}
use Rattle.px_beginning.specs.Leaves.{AreAlike, AreSamePromises, AreTaken, IsTaken}
use Rattle.px_beginning.specs.Refused.{IsRefusedAt, IsRefusedFrom}
use Rattle.px_beginning.specs.Rooms.{no_room}
use Rattle.px_beginning.specs.declared.fault.BeginFault.{BeginFault}
use Rattle.px_beginning.specs.declared.rooms.Room.{Room}
use Rattle.px_beginning.specs.inner.Places.{AreLike, SamePromised, StayBelow, TakenFrom}

-- 1. One place

pub same_default : {A : Type 0} (xs : List A) (i : ℕ) (d e : A) → i < length xs → get_or xs i d ≡ get_or xs i e
same_default [] i d e l = absurd (omega arith)
same_default (x ∷ xs) zero d e l = refl
same_default (x ∷ xs) (suc i) d e l = same_default xs i d e (omega arith)

abbrev pub put : List IndexRegion → ℕ → IndexRegion → Region → List IndexRegion
put xs i d v = set xs i (record (get_or xs i d) { region = v })

pub put_here : (xs : List IndexRegion) (i : ℕ) (d e : IndexRegion) (v : Region) → i < length xs → get_or (put xs i d v) i e ≡ record (get_or xs i e) { region = v }
put_here xs i d e v l = get_or-set_same xs i (record (get_or xs i d) { region = v }) e l ∙ ap (λ (x : IndexRegion). record x { region = v }) (same_default xs i d e l)

pub put_there : (xs : List IndexRegion) (i k : ℕ) (d e : IndexRegion) (v : Region) → (i ≡ k → ⊥) → get_or (put xs i d v) k e ≡ get_or xs k e
put_there xs i k d e v n = get_or-set_other xs i k (record (get_or xs i d) { region = v }) e (λ z. n (sym z))

pub like_refl : (xs : List IndexRegion) → AreLike xs xs
like_refl xs = record { count = refl; each = λ k d l. (refl, alike_refl (get_or xs k d).region) }

pub like_trans : (xs ys zs : List IndexRegion) → AreLike xs ys → AreLike ys zs → AreLike xs zs
like_trans xs ys zs a b = record {
  count = b.count ∙ a.count;
  each = λ k d l. (let p = a.each k d l in let q = b.each k d (let n = a.count in omega arith) in (q.0 ∙ p.0, alike_then (get_or xs k d).region (get_or ys k d).region (get_or zs k d).region p.1 q.1));
}

pub like_put : (xs : List IndexRegion) (i : ℕ) (d : IndexRegion) (v : Region) → i < length xs → IsAlike (get_or xs i d).region v → AreLike xs (put xs i d v)
like_put xs i d v l a = record {
  count = length-set xs i (record (get_or xs i d) { region = v });
  each = λ k e m. elim (cases_eq i k) [
    | inl q ↦
        (let here = ap (λ (n : ℕ). get_or (put xs i d v) n e) (sym q) ∙ (put_here xs i d e v l ∙ ap (λ (n : ℕ). record (get_or xs n e) { region = v }) q) in
        (ap (λ (x : IndexRegion). x.index) here, subst (λ (x : IndexRegion). IsAlike (get_or xs k e).region x.region) (sym here) (subst (λ (x : IndexRegion). IsAlike x.region v) (same_default xs i d e l ∙ ap (λ (n : ℕ). get_or xs n e) q) a)))
    | inr n ↦
        (let there = put_there xs i k d e v n in
        (ap (λ (x : IndexRegion). x.index) there, subst (λ (x : IndexRegion). IsAlike (get_or xs k e).region x.region) (sym there) (alike_refl (get_or xs k e).region)))
  ];
}

pub below_put : (xs : List IndexRegion) (i : ℕ) (d : IndexRegion) (v : Region) → StayBelow i xs (put xs i d v)
below_put xs i d v = record { each = λ k e m. put_there xs i k d e v (λ z. absurd (omega arith)) }

pub below_trans : (i : ℕ) (xs ys zs : List IndexRegion) → StayBelow i xs ys → StayBelow (i + 1) ys zs → StayBelow i xs zs
below_trans i xs ys zs a b = record { each = λ k e m. b.each k e (omega arith) ∙ a.each k e m }

pub below_both : (i : ℕ) (xs ys zs : List IndexRegion) → StayBelow i xs ys → StayBelow i ys zs → StayBelow i xs zs
below_both i xs ys zs a b = record { each = λ k e m. b.each k e m ∙ a.each k e m }

-- 2. What was promised

pub same_put : (xs : List IndexRegion) (i : ℕ) (d : IndexRegion) (v : Region) → i < length xs → IsSamePromise (get_or xs i d).region v → SamePromised xs (put xs i d v)
same_put xs i d v l a = record {
  each = λ k e m. elim (cases_eq i k) [
    | inl q ↦
        (let here = ap (λ (n : ℕ). get_or (put xs i d v) n e) (sym q) ∙ (put_here xs i d e v l ∙ ap (λ (n : ℕ). record (get_or xs n e) { region = v }) q) in
        subst (λ (x : IndexRegion). IsSamePromise (get_or xs k e).region x.region) (sym here) (subst (λ (x : IndexRegion). IsSamePromise x.region v) (same_default xs i d e l ∙ ap (λ (n : ℕ). get_or xs n e) q) a))
    | inr n ↦ subst (λ (x : IndexRegion). IsSamePromise (get_or xs k e).region x.region) (sym (put_there xs i k d e v n)) (record { cells = refl; bytes = refl })
  ];
}

-- the room of this place, and that of those behind it
pub taken_more : (xs : List IndexRegion) (rooms : List Room) (i : ℕ) (d : IndexRegion) (v : Region) (zs : List IndexRegion) → i < length xs → IsTaken (get_or xs i d).region v (get_or rooms i no_room)
    → StayBelow (i + 1) (put xs i d v) zs → TakenFrom (i + 1) (put xs i d v) zs rooms → TakenFrom i xs zs rooms
taken_more xs rooms i d v zs l t b f = record {
  each = λ k e m q. elim (cases_eq i k) [
    | inl z ↦
        (let here : get_or zs k e ≡ record (get_or xs k e) { region = v } =
        b.each k e (omega arith) ∙ (ap (λ (n : ℕ). get_or (put xs i d v) n e) (sym z) ∙ (put_here xs i d e v l ∙ ap (λ (n : ℕ). record (get_or xs n e) { region = v }) z)) in
        subst (λ (x : IndexRegion). IsTaken (get_or xs k e).region x.region (get_or rooms k no_room)) (sym here)
        (subst (λ (x : IndexRegion). IsTaken x.region v (get_or rooms k no_room)) (same_default xs i d e l ∙ ap (λ (n : ℕ). get_or xs n e) z) (subst (λ (n : ℕ). IsTaken (get_or xs i d).region v (get_or rooms n no_room)) z t)))
    | inr n ↦
        (let there = put_there xs i k d e v n in
        subst (λ (x : IndexRegion). IsTaken x.region (get_or zs k e).region (get_or rooms k no_room)) there (f.each k e (omega arith) (let c = length-set xs i (record (get_or xs i d) { region = v }) in omega arith)))
  ];
}

-- it is given back, where those behind it refuse
pub given_back : (xs : List IndexRegion) (rooms : List Room) (i : ℕ) (d : IndexRegion) (v : Region) (zs : List IndexRegion) (f : IndexRegion) (u : Region) → i < length xs → IsTaken (get_or xs i d).region v (get_or rooms i no_room)
    → length zs ≡ length (put xs i d v) → SamePromised (put xs i d v) zs → IsTaken u (get_or zs i f).region (get_or rooms i no_room) → SamePromised xs (put zs i f u)
given_back xs rooms i d v zs f u l t n s g = record {
  each = λ k e m. elim (cases_eq i k) [
    | inl q ↦
        (let c = length-set xs i (record (get_or xs i d) { region = v }) in
        let here = ap (λ (j : ℕ). get_or (put zs i f u) j e) (sym q) ∙ (put_here zs i f e u (omega arith) ∙ ap (λ (j : ℕ). record (get_or zs j e) { region = u }) q) in
        let w = s.each i e (omega arith) in
        let v_is : (get_or (put xs i d v) i e).region ≡ v = ap (λ (x : IndexRegion). x.region) (put_here xs i d e v l) in
        let z_is = same_default zs i f e (omega arith) in
        let a1 = w.cells ∙ ap (λ (r : Region). r.promised) v_is in
        let a2 = w.bytes ∙ ap (λ (r : Region). r.promised_bytes) v_is in
        let b1 = ap (λ (x : IndexRegion). x.region.promised) z_is in
        let b2 = ap (λ (x : IndexRegion). x.region.promised_bytes) z_is in
        let x_is = same_default xs i d e l in
        let c1 = ap (λ (x : IndexRegion). x.region.promised) x_is in
        let c2 = ap (λ (x : IndexRegion). x.region.promised_bytes) x_is in
        let t1 = t.0 in let t2 = t.1 in let g1 = g.0 in let g2 = g.1 in
        subst (λ (x : IndexRegion). IsSamePromise (get_or xs k e).region x.region) (sym here)
        (subst (λ (j : ℕ). IsSamePromise (get_or xs j e).region u) q (record { cells = omega arith; bytes = omega arith })))
    | inr z ↦
        (let c = length-set xs i (record (get_or xs i d) { region = v }) in
        let there = put_there zs i k f e u z in
        let w = s.each k e (omega arith) in
        subst (λ (x : IndexRegion). IsSamePromise (get_or xs k e).region x.region) (sym there) (subst (λ (x : IndexRegion). IsSamePromise x.region (get_or zs k e).region) (put_there xs i k d e v z) w))
  ];
}

-- there is so much to give back
pub enough : (xs : List IndexRegion) (rooms : List Room) (i : ℕ) (d : IndexRegion) (v : Region) (zs : List IndexRegion) (f : IndexRegion) → i < length xs → IsTaken (get_or xs i d).region v (get_or rooms i no_room) → length zs ≡ length (put xs i d v) → SamePromised (put xs i d v) zs
    → ((get_or rooms i no_room).cells ≤ (get_or zs i f).region.promised) × ((get_or rooms i no_room).bytes ≤ (get_or zs i f).region.promised_bytes)
enough xs rooms i d v zs f l t n s =
    let c = length-set xs i (record (get_or xs i d) { region = v }) in
    let w = s.each i f (omega arith) in
    let v_is : (get_or (put xs i d v) i f).region ≡ v = ap (λ (x : IndexRegion). x.region) (put_here xs i d f v l) in
    let a1 = w.cells ∙ ap (λ (r : Region). r.promised) v_is in
    let a2 = w.bytes ∙ ap (λ (r : Region). r.promised_bytes) v_is in
    let t1 = t.0 in let t2 = t.1 in
    (omega arith, omega arith)

pub refused_here : (xs : List IndexRegion) (rooms : List Room) (i : ℕ) (d : IndexRegion) (fault : BeginFault) → i < length xs → IsRefusedAt (get_or xs i d).region (get_or rooms i no_room) fault → IsRefusedFrom i xs rooms fault
refused_here xs rooms i d fault l r = record { place = i; from = omega arith; inside = l; is = λ e. subst (λ (x : IndexRegion). IsRefusedAt x.region (get_or rooms i no_room) fault) (same_default xs i d e l) r }

pub refused_behind : (xs : List IndexRegion) (rooms : List Room) (i : ℕ) (d : IndexRegion) (v : Region) (fault : BeginFault) → i < length xs → IsRefusedFrom (i + 1) (put xs i d v) rooms fault → IsRefusedFrom i xs rooms fault
refused_behind xs rooms i d v fault l r = record {
  place = r.place;
  from = (let a = r.from in omega arith);
  inside = (let c = length-set xs i (record (get_or xs i d) { region = v }) in let a = r.inside in omega arith);
  is = λ e. subst (λ (x : IndexRegion). IsRefusedAt x.region (get_or rooms r.place no_room) fault) (put_there xs i r.place d e v (λ z. (let a = r.from in absurd (omega arith)))) (r.is e);
}

-- 3. Lists

pub alike_from : (xs ys : List IndexRegion) → AreLike xs ys → AreAlike xs ys
alike_from [] [] l = tt
alike_from [] (y ∷ ys) l = absurd (let n = l.count in omega arith)
alike_from (x ∷ xs) [] l = absurd (let n = l.count in omega arith)
alike_from (x ∷ xs) (y ∷ ys) l = (l.each 0 x (omega arith), alike_from xs ys (record { count = (let n = l.count in omega arith); each = λ k d m. l.each (suc k) d (omega arith) }))

pub taken_from : (xs ys : List IndexRegion) (rooms : List Room) → length ys ≡ length xs → length rooms ≡ length xs → TakenFrom 0 xs ys rooms → AreTaken xs ys rooms
taken_from [] [] rooms n m t = tt
taken_from [] (y ∷ ys) rooms n m t = absurd (omega arith)
taken_from (x ∷ xs) [] rooms n m t = absurd (omega arith)
taken_from (x ∷ xs) (y ∷ ys) [] n m t = absurd (omega arith)
taken_from (x ∷ xs) (y ∷ ys) (r ∷ rooms) n m t = (t.each 0 x (omega arith) (omega arith), taken_from xs ys rooms (omega arith) (omega arith) (record { each = λ k d a b. t.each (suc k) d (omega arith) (omega arith) }))

pub same_from : (xs ys : List IndexRegion) → length ys ≡ length xs → SamePromised xs ys → AreSamePromises xs ys
same_from [] [] n s = tt
same_from [] (y ∷ ys) n s = absurd (omega arith)
same_from (x ∷ xs) [] n s = absurd (omega arith)
same_from (x ∷ xs) (y ∷ ys) n s = (s.each 0 x (omega arith), same_from xs ys (omega arith) (record { each = λ k d m. s.each (suc k) d (omega arith) }))
