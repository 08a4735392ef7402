-- Lists of open batches and of indexes.
use Rattle.std.proofs.Common.{◌≡◌, ℕ, zero, suc, ◌<◌, Bool, true, false, not, filter, map, length, get_or, List, [], ◌∷◌, refl, ap, sym, ◌∙◌, subst, inl, inr, arith}
use Rattle.std.specs.Prelude.{nat_eq}
use Rattle.std.specs.List.{AllByRecursion, list_any}
use Rattle.std.proofs.Math.ListN.{set}
use Rattle.std.proofs.lemmas.List.{get_or-set_same, get_or-set_other}
use Rattle.std.proofs.lemmas.Bool.{cases_Bool, cases_eq}
use Rattle.px_values.specs.declared.row.Value.{Value}
use Rattle.px_values.specs.declared.change.Change.{Change}
use Rattle.px_trail.specs.Batches.{has, rows_of}
use Rattle.px_groupworld.specs.Group.{IndexPart, no_part}
use Rattle.px_openbatches.specs.Pending.{HeldBatch, held_ended}
use Rattle.px_tablesteps.specs.Kept.{open_of, no_held}

pub held_at : (P : HeldBatch → Type 0) (hs : List HeldBatch) (m : ℕ) → AllByRecursion P hs → m < length hs → P (get_or hs m no_held)
held_at P [] m a l = absurd (omega arith)
held_at P (h ∷ hs) zero a l = a.0
held_at P (h ∷ hs) (suc m) a l = held_at P hs m a.1 (omega arith)

pub held_set : (P : HeldBatch → Type 0) (hs : List HeldBatch) (m : ℕ) (h : HeldBatch) → AllByRecursion P hs → P h → AllByRecursion P (set hs m h)
held_set P [] m h a p = tt
held_set P (x ∷ hs) zero h a p = (p, a.1)
held_set P (x ∷ hs) (suc m) h a p = (a.0, held_set P hs m h a.1 p)

pub held_filter : (P : HeldBatch → Type 0) (q : HeldBatch → Bool) (hs : List HeldBatch) → AllByRecursion P hs → AllByRecursion P (filter q hs)
held_filter P q [] a = tt
held_filter P q (h ∷ hs) a = (let r = held_filter P q hs a.1 in elim (cases_Bool (q h)) [ inl e ↦ rw e (a.0, r) | inr e ↦ rw e r ])

-- three facts of each
pub held_three : (P Q R S : HeldBatch → Type 0) → ((h : HeldBatch) → P h → Q h → R h → S h) → (hs : List HeldBatch) → AllByRecursion P hs → AllByRecursion Q hs → AllByRecursion R hs → AllByRecursion S hs
held_three P Q R S g [] a b c = tt
held_three P Q R S g (h ∷ hs) a b c = (g h a.0 b.0 c.0, held_three P Q R S g hs a.1 b.1 c.1)

pub held_map : (P Q R S : HeldBatch → Type 0) (f : HeldBatch → HeldBatch) → ((h : HeldBatch) → P h → Q h → R h → S (f h)) → (hs : List HeldBatch) → AllByRecursion P hs → AllByRecursion Q hs → AllByRecursion R hs → AllByRecursion S (map f hs)
held_map P Q R S f g [] a b c = tt
held_map P Q R S f g (h ∷ hs) a b c = (g h a.0 b.0 c.0, held_map P Q R S f g hs a.1 b.1 c.1)

pub opens_same : (f : HeldBatch → HeldBatch) → ((h : HeldBatch) → open_of (f h) ≡ open_of h) → (hs : List HeldBatch) → map open_of (map f hs) ≡ map open_of hs
opens_same f e [] = refl
opens_same f e (h ∷ hs) = (λ i. e h i ∷ opens_same f e hs i)

pub opens_ended : (s : ℕ) (hs : List HeldBatch) → map open_of (held_ended s hs) ≡ filter (λ o. not (nat_eq o.stamp s)) (map open_of hs)
opens_ended s [] = refl
opens_ended s (h ∷ hs) = (let r = opens_ended s hs in elim (cases_Bool (not (nat_eq h.stamp s))) [
  | inl e ↦ rw e (ap (λ l. open_of h ∷ l) r)
  | inr e ↦ rw e r
])

-- nothing is left where no row is still to be written
pub none_left : (cs : List Change) (ws : List (List Value)) → list_any (λ c. not (has ws c.row)) cs ≡ false → filter (λ r. not (has ws r)) (rows_of cs) ≡ []
none_left [] ws h = refl
none_left (c ∷ cs) ws h = elim (cases_Bool (not (has ws c.row))) [
  | inl e ↦ (let z : true ≡ false = rw e at h in cc)
  | inr e ↦ (let z = rw e at h in rw e (none_left cs ws z))
]

-- an index that is put in the place of one keeps what is the same of both
pub part_same : {A : Type 0} (p : IndexPart → A) (xs : List IndexPart) (j : ℕ) (x : IndexPart) → p x ≡ p (get_or xs j no_part) → (i : ℕ) → i < length xs → p (get_or (set xs j x) i no_part) ≡ p (get_or xs i no_part)
part_same p xs j x e i l = elim (cases_eq j i) [
  | inl q ↦ (let m : j < length xs = omega arith in subst (λ (z : ℕ). p (get_or (set xs j x) z no_part) ≡ p (get_or xs z no_part)) q (ap p (get_or-set_same xs j x no_part m) ∙ e))
  | inr q ↦ ap p (get_or-set_other xs j i x no_part (λ z. q (sym z)))
]
