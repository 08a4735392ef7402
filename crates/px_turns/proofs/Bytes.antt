-- A map whose keys are bytes, after a change at one of them.
use Rattle.std.proofs.Common.{◌≡◌, ℕ, ◌-◌, ◌≤◌, arith, Bool, true, false, cond, Option, List, [], ◌∷◌, length, take, drop, refl, sym, ◌∙◌, ap, subst, inl, inr}
use Rattle.std.specs.List.{remove}
use Rattle.std.specs.Prelude.{nat_eq, if◌then◌else◌, Vec, Result, Ok, Err, OnErr}
use Rattle.std.specs.declared.alloc.Global.{Global}
use Rattle.std.specs.Ordering.{is_eq, nat_cmp}
use Rattle.std.specs.Cmp.{eq_by_cmp_equiv}
use Rattle.std.specs.Cmp.Lexicographic.{pointwise, slice_cmp, bytes_decides, nat_list_cmp_total, nat_list_eq_equiv, texts_ties}
use Rattle.std.specs.Str.{bytes_eq}
use Rattle.std.specs.BTreeMap.{BTreeMap, UpdatesBy, get_by}
use Rattle.std.specs.Map.{lookup, IsKeyTest, AreApart, KeepsOthers}
use Rattle.std.proofs.lemmas.Bool.{cases_Bool, cond-true, cond-false}
use Rattle.px_turns.specs.inner.Found.{found, items_of}

apart : (bs cs ks : List ℕ) → bytes_eq bs cs ≡ false → bytes_eq bs ks ≡ true → bytes_eq cs ks ≡ false
apart bs cs ks n y = nat_list_eq_equiv.symm cs ks ∙ sym (nat_list_eq_equiv.congr bs ks cs y) ∙ n

apart_in_order : (bs cs ks : List ℕ) → bytes_eq bs cs ≡ false → is_eq (slice_cmp nat_cmp bs ks) ≡ true → is_eq (slice_cmp nat_cmp cs ks) ≡ false
apart_in_order bs cs ks n y = sym (texts_ties cs ks) ∙ apart bs cs ks n (texts_ties bs ks ∙ y)

module _ {K : Type 0} (eq : K → K → Bool) (test : K → Bool) where
  others : {X : Type 0} (old new : List (K × X)) → KeepsOthers eq test old new → (other : K → Bool) → IsKeyTest eq other → AreApart test other → lookup other new ≡ lookup other old
  unfolding KeepsOthers
  others old new h = h

module _ (bs : List ℕ) {X : Type 0} (m n : BTreeMap (Vec ℕ Global) X) (w : Option X) (h : UpdatesBy (λ (x y : Vec ℕ Global). slice_cmp nat_cmp x.items y.items) (λ (k : Vec ℕ Global). slice_cmp nat_cmp bs k.items) m n w) where
  pub map_bytes : (cs : List ℕ) → get_by (λ (k : Vec ℕ Global). slice_cmp nat_cmp cs k.items) n ≡ cond (pointwise nat_eq bs cs) w (get_by (λ (k : Vec ℕ Global). slice_cmp nat_cmp cs k.items) m)
  map_bytes cs =
      elim (cases_Bool (bytes_eq bs cs)) [
        | inl y ↦ subst (λ (l : List ℕ). get_by (λ (k : Vec ℕ Global). slice_cmp nat_cmp l k.items) n ≡ w) ((bytes_decides bs cs).0 y) h.1 ∙ sym (cond-true (bytes_eq bs cs) w (get_by (λ (k : Vec ℕ Global). slice_cmp nat_cmp cs k.items) m) y)
        | inr e ↦
            others _ _ _ _ h.3 _ (λ x y. (eq_by_cmp_equiv nat_list_cmp_total).congr cs x.items y.items) (λ k. apart_in_order bs cs k.items e)
            ∙ sym (cond-false (bytes_eq bs cs) w (get_by (λ (k : Vec ℕ Global). slice_cmp nat_cmp cs k.items) m) e)
      ]

cond_items : (c : Bool) (x y : Option (Vec ℕ Global)) → items_of (cond c x y) ≡ (if c then items_of x else items_of y)
cond_items true x y = refl
cond_items false x y = refl

module _ (m n : BTreeMap (Vec ℕ Global) (Vec ℕ Global)) (bs : List ℕ) (w : Option (Vec ℕ Global)) (h : UpdatesBy (λ (x y : Vec ℕ Global). slice_cmp nat_cmp x.items y.items) (λ (k : Vec ℕ Global). slice_cmp nat_cmp bs k.items) m n w) where
  put_stamps : (k : List ℕ) → found n k ≡ (if pointwise nat_eq bs k then items_of w else found m k)
  put_stamps k = ap items_of (map_bytes bs m n w h k) ∙ cond_items (pointwise nat_eq bs k) w (get_by (λ (y : Vec ℕ Global). slice_cmp nat_cmp k y.items) m)

  -- with these stamps at the key
  pub at_key : (stamps : List ℕ) → items_of w ≡ stamps → (k : List ℕ) → found n k ≡ (if pointwise nat_eq bs k then stamps else found m k)
  at_key stamps e k = put_stamps k ∙ ap (λ (l : List ℕ). if pointwise nat_eq bs k then l else found m k) e

  -- a key that keeps its stamps
  pub same_key : items_of w ≡ found m bs → (k : List ℕ) → found n k ≡ found m k
  same_key e k =
      put_stamps k
      ∙ elim (cases_Bool (pointwise nat_eq bs k)) [
        | inl y ↦ cond-true (pointwise nat_eq bs k) (items_of w) (found m k) y ∙ (e ∙ ap (λ (l : List ℕ). found m l) ((bytes_decides bs k).0 y))
        | inr n ↦ cond-false (pointwise nat_eq bs k) (items_of w) (found m k) n
      ]

pub on_err : {T E : Type 0} (r : Result T E) (P : Type 0) → P → OnErr r P
on_err (Ok x) P p = tt
on_err (Err e) P p = p

pub remove_first : (xs : List ℕ) → remove xs 0 ≡ drop 1 xs
remove_first [] = refl
remove_first (x ∷ xs) = refl

pub drop_short : (xs : List ℕ) → length xs ≤ 1 → [] ≡ drop 1 xs
drop_short [] l = refl
drop_short (x ∷ []) l = refl
drop_short (x ∷ y ∷ xs) l = absurd (omega arith)

pub take_short : (xs : List ℕ) → length xs ≤ 1 → [] ≡ take (length xs - 1) xs
take_short [] l = refl
take_short (x ∷ []) l = refl
take_short (x ∷ y ∷ xs) l = absurd (omega arith)
