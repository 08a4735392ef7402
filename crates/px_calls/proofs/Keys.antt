-- The order of row keys.
use Rattle.std.proofs.Common.{ℕ, ◌≡◌, not, true, false, List, refl, sym, ◌∙◌, ap, ◌⊎◌, inl, inr}
use Rattle.std.specs.Cmp.Lexicographic.{slice_cmp}
use Rattle.std.specs.Ordering.{is_lt, nat_cmp, ordering_reverse}
use Rattle.std.specs.declared.cmp.Ordering.{Ordering}
use Rattle.std.specs.declared.cmp.Ordering.TheVariants.{Less, Equal, Greater}
use Rattle.std.proofs.lemmas.Cmp.{nat_list_cmp_total}
use Rattle.px_calls.specs.Looks.{key_less}

less_is : (o : Ordering) → is_lt o ≡ true → o ≡ Less
less_is Less h = refl
less_is Equal h = cc
less_is Greater h = cc

reversed : (o : Ordering) → o ≡ ordering_reverse o → is_lt o ≡ false
reversed Less h = cc
reversed Equal h = refl
reversed Greater h = refl

turned : (o r : Ordering) → o ≡ ordering_reverse r → is_lt o ≡ true → is_lt r ≡ false
turned o Less h j = let e : o ≡ Greater = h in let k : is_lt o ≡ false = ap is_lt e in cc
turned o Equal h j = refl
turned o Greater h j = refl

pub irreflexive : (a : List ℕ) → key_less a a ≡ false
irreflexive a = reversed (slice_cmp nat_cmp a a) (nat_list_cmp_total.antisymm a a)

pub transitive : (a b c : List ℕ) → key_less a b ≡ true → key_less b c ≡ true → key_less a c ≡ true
transitive a b c h j = ap is_lt (nat_list_cmp_total.trans a b c (less_is (slice_cmp nat_cmp a b) h) (less_is (slice_cmp nat_cmp b c) j))

pub asymmetric : (a b : List ℕ) → key_less a b ≡ true → key_less b a ≡ false
asymmetric a b h = turned (slice_cmp nat_cmp a b) (slice_cmp nat_cmp b a) (nat_list_cmp_total.antisymm a b) h

not_less : (o r : Ordering) → r ≡ ordering_reverse o → not (is_lt r) ≡ true → (o ≡ Less) ⊎ (o ≡ Equal)
not_less Less r h j = inl refl
not_less Equal r h j = inr refl
not_less Greater r h j = let e : r ≡ Less = h in let k : is_lt r ≡ true = ap is_lt e in cc

-- b is not below a: a is below b, or they compare alike
pub up_to_or : (a b : List ℕ) → not (key_less b a) ≡ true → (key_less a b ≡ true) ⊎ (slice_cmp nat_cmp a b ≡ Equal)
up_to_or a b h = elim (not_less (slice_cmp nat_cmp a b) (slice_cmp nat_cmp b a) (nat_list_cmp_total.antisymm b a) h) [ inl l ↦ inl (ap is_lt l) | inr e ↦ inr e ]

-- a is not past b, which is below c
pub up_to : (a b c : List ℕ) → not (key_less b a) ≡ true → key_less b c ≡ true → key_less a c ≡ true
up_to a b c h j = elim (up_to_or a b h) [
  | inl l ↦ transitive a b c l j
  | inr e ↦ ap is_lt (nat_list_cmp_total.congr a b c e) ∙ j
]

-- a is not past b, which is not past c
pub not_past : (a b c : List ℕ) → not (key_less b a) ≡ true → not (key_less c b) ≡ true → not (key_less c a) ≡ true
not_past a b c h j =
    elim (key_less c a) as (λ v. key_less c a ≡ v → not v ≡ true) [
      | true ↦ λ less. elim (up_to_or a b h) [
        | inl l ↦ (let t : key_less c b ≡ true = transitive c a b less l in cc)
        | inr e ↦ (let t : key_less b c ≡ key_less a c = sym (ap is_lt (nat_list_cmp_total.congr a b c e)) in
            let u : key_less a c ≡ false = asymmetric c a less in
            elim (up_to_or b c j) [
              | inl l ↦ (let w : key_less a c ≡ true = sym t ∙ l in cc)
              | inr f ↦ (let w : slice_cmp nat_cmp a c ≡ Equal = nat_list_cmp_total.congr a b c e ∙ f in
                  let x : slice_cmp nat_cmp c a ≡ Equal = nat_list_cmp_total.antisymm c a ∙ ap ordering_reverse w in
                  let y : key_less c a ≡ false = ap is_lt x in cc)
            ])
      ]
      | false ↦ λ h. refl
    ] refl
