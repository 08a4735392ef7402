-- The order of row keys.
use Rattle.std.proofs.Common.{◌≡◌, ℕ, Option, Some, None, List, [], ◌∷◌, refl, sym, subst, inl, inr, arith}
use Rattle.std.specs.declared.cmp.Ordering.{Ordering}
use Rattle.std.specs.declared.cmp.Ordering.TheVariants.{Less, Equal, Greater}
use Rattle.std.specs.Ordering.{nat_cmp, ordering_then, ordering_reverse}
use Rattle.std.proofs.lemmas.Cmp.{nat_cmp_total, nat_list_cmp_total, ranked, tied_itself}
use Rattle.px_cells.specs.Order.{key_cmp}
use Rattle.px_cells.specs.Rows.{IsBeforeEnd}
use Rattle.px_cells.proofs.Orders.{key_equal, less_nat, nat_equal, nat_less, then_cases}
use Rattle.px_reads.specs.Range.{next_key}

pub key_trans : (a b c : List ℕ) → key_cmp a b ≡ Less → key_cmp b c ≡ Less → key_cmp a c ≡ Less
key_trans = nat_list_cmp_total.trans

pub key_itself : (a : List ℕ) → key_cmp a a ≡ Less → ⊥
key_itself a h = (let e = tied_itself nat_list_cmp_total a in cc)

pub data Keys (a b : List ℕ) : Type 0 where
  lower : key_cmp a b ≡ Less → Keys a b
  equal : a ≡ b → Keys a b
  higher : key_cmp b a ≡ Less → Keys a b

back : (o p : Ordering) → o ≡ ordering_reverse p → o ≡ Greater → p ≡ Less
back o Less h g = refl
back o Equal h g = cc
back o Greater h g = cc

pub keys_by : (a b : List ℕ) → Keys a b
keys_by a b = by (key_cmp a b) refl
  where
    by : (o : Ordering) → key_cmp a b ≡ o → Keys a b
    by Less e = lower e
    by Equal e = equal (key_equal a b e)
    by Greater e = higher (back (key_cmp a b) (key_cmp b a) (nat_list_cmp_total.antisymm a b) e)

pub key_apart : (a b : List ℕ) → key_cmp a b ≡ Less → a ≡ b → ⊥
key_apart a b h e = key_itself a (subst (λ x. key_cmp a x ≡ Less) (sym e) h)

pub key_both : (a b : List ℕ) → key_cmp a b ≡ Less → key_cmp b a ≡ Less → ⊥
key_both a b h g = key_itself a (key_trans a b a h g)

-- at or below, and then below
pub key_up : (a b c : List ℕ) → (key_cmp b a ≡ Less → ⊥) → key_cmp b c ≡ Less → key_cmp a c ≡ Less
key_up a b c h g = elim (keys_by a b) [
  | lower l ↦ key_trans a b c l g
  | equal e ↦ subst (λ x. key_cmp x c ≡ Less) (sym e) g
  | higher l ↦ absurd (h l)
]

-- below, and then at or below
pub key_on : (a b c : List ℕ) → key_cmp a b ≡ Less → (key_cmp c b ≡ Less → ⊥) → key_cmp a c ≡ Less
key_on a b c h g = elim (keys_by b c) [
  | lower l ↦ key_trans a b c h l
  | equal e ↦ subst (λ x. key_cmp a x ≡ Less) e h
  | higher l ↦ absurd (g l)
]

-- ---- the next key

then_less : (o p : Ordering) → o ≡ Less → ordering_then o p ≡ Less
then_less Less p h = refl
then_less Equal p h = cc
then_less Greater p h = cc

then_same : (o p : Ordering) → o ≡ Equal → p ≡ Less → ordering_then o p ≡ Less
then_same Less p h g = refl
then_same Equal p h g = g
then_same Greater p h g = cc

nothing_less : (k : List ℕ) → key_cmp k [] ≡ Less → ⊥
nothing_less [] h = cc
nothing_less (x ∷ k) h = cc

-- nothing stands between a key and the next one
pub less_next : (k a : List ℕ) → key_cmp k (next_key a) ≡ Less → key_cmp a k ≡ Less → ⊥
less_next [] [] h g = cc
less_next [] (y ∷ a) h g = cc
less_next (x ∷ k) [] h g = elim (then_cases _ _ h) [
  | inl l ↦ (let z = nat_less x 0 l in omega arith)
  | inr e ↦ nothing_less k e.1
]
less_next (x ∷ k) (y ∷ a) h g = elim (then_cases _ _ h) [
  | inl l ↦
      (let z = nat_less x y l in elim (then_cases _ _ g) [
        | inl m ↦ (let w = nat_less y x m in omega arith)
        | inr e ↦ (let w = nat_equal y x e.0 in omega arith)
      ])
  | inr e ↦
      (let z = nat_equal x y e.0 in elim (then_cases _ _ g) [
        | inl m ↦ (let w = nat_less y x m in omega arith)
        | inr f ↦ less_next k a e.1 f.1
      ])
]

pub next_less : (k a : List ℕ) → (key_cmp a k ≡ Less → ⊥) → key_cmp k (next_key a) ≡ Less
next_less [] [] h = refl
next_less [] (y ∷ a) h = refl
next_less (x ∷ k) [] h = absurd (h refl)
next_less (x ∷ k) (y ∷ a) h = by (next_less k a) (nat_cmp x y) refl
  where
    by : ((key_cmp a k ≡ Less → ⊥) → key_cmp k (next_key a) ≡ Less) → (o : Ordering) → nat_cmp x y ≡ o → key_cmp (x ∷ k) (next_key (y ∷ a)) ≡ Less
    by rest Less e = then_less _ _ e
    by rest Equal e = then_same _ _ e (rest (λ g. h (then_same _ _ (subst (λ z. nat_cmp z x ≡ Equal) (ranked x y Equal (sym e)) (tied_itself nat_cmp_total x)) g)))
    by rest Greater e = absurd (h (then_less _ _ (less_nat y x (let z = ranked x y Greater (sym e) in omega arith))))

pub above_itself : (a : List ℕ) → key_cmp a (next_key a) ≡ Less
above_itself a = next_less a a (key_itself a)

-- ---- ends

pub before_up : (a b : List ℕ) (high : Option (List ℕ)) → (key_cmp b a ≡ Less → ⊥) → IsBeforeEnd b high → IsBeforeEnd a high
before_up a b None le h = tt
before_up a b (Some high) le h = key_up a b high le h
