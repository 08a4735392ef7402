-- What is told of a version and its row decides what is due.
use Rattle.std.proofs.Common.{◌≡◌, ℕ, zero, suc, ◌<◌, ◌≤◌, Bool, true, false, cond, not, ◌&&◌, Option, None, List, [], ◌∷◌, length, get_or, refl, ap, sym, ◌∙◌, subst, inl, inr, arith}
use Rattle.std.specs.Prelude.{nat_eq, nat_lt}
use Rattle.std.specs.Cmp.Lexicographic.{pointwise}
use Rattle.std.specs.Option.{option_copied}
use Rattle.std.proofs.lemmas.Bool.{cases_eq, cases_lt, cond-true, cond-false, lt-ltb, le-ltb}
use Rattle.px_values.specs.States.{RowState, Shape}
use Rattle.px_values.specs.declared.row.Value.{Value}
use Rattle.px_world.specs.Events.{Verdict, Leave, ToVerify, ToRetire, ToErase, due}
use Rattle.px_world.specs.Shape.{all_below, has_key, is_key_there, same_cell, shows}
use Rattle.px_world.specs.World.{Fate, Unbegun, Undecided, Written, Lost, World, horizon, is_undecided, is_written, st, vis}
use Rattle.px_forms.specs.Indexes.{IndexForm, shape_at}
use Rattle.px_indexrow.specs.Verdicts.{Tells, due_below, due_told, fate_of, is_open}
use Rattle.px_indexrow.specs.declared.doubt.ChangeFate.{ChangeFate}
use Rattle.px_indexrow.specs.declared.doubt.ChangeFate.TheVariants as fates
use Rattle.px_indexrow.specs.declared.doubt.Told.{Told}
use Rattle.px_indexrow.specs.declared.doubt.Version.{Version}

-- ---- tests below a number

pub below_same : (n : ℕ) (p q : ℕ → Bool) → ((c : ℕ) → c < n → p c ≡ q c) → all_below n p ≡ all_below n q
unfolding all_below
below_same zero p q h = refl
below_same (suc n) p q h = (λ i. h n (omega arith) i && below_same n p q (λ c l. h c (omega arith)) i)

pub below_more : (n : ℕ) (p : ℕ → Bool) → all_below n p ≡ true → p n ≡ true → all_below (suc n) p ≡ true
unfolding all_below
below_more n p h e = (λ i. e i && h i)

pub below_next : (n m : ℕ) (p : ℕ → Bool) → m ≡ suc n → all_below n p ≡ true → p n ≡ true → all_below m p ≡ true
below_next n m p z h e = ap (λ (x : ℕ). all_below x p) z ∙ below_more n p h e

pub below_none : (p : ℕ → Bool) → all_below 0 p ≡ true
unfolding all_below
below_none p = refl

and_false : (a b : Bool) → b ≡ false → (a && b) ≡ false
and_false true b h = h
and_false false b h = refl

pub below_not : (n i : ℕ) (p : ℕ → Bool) → i < n → p i ≡ false → all_below n p ≡ false
unfolding all_below
below_not zero i p l e = absurd (omega arith)
below_not (suc n) i p l e = elim (cases_eq i n) [
  | inl z ↦ ap (λ (b : Bool). b && all_below n p) (subst (λ (x : ℕ). p x ≡ false) z e)
  | inr z ↦ and_false (p n) (all_below n p) (below_not n i p (omega arith) e)
]

-- ---- what is due

module _ (sh : Shape) (f : IndexForm) (r : List Value) (w : World (List ℕ) RowState (List ℕ)) (v : Version) (x : Told) (tells : Tells f r w v x) where
  abbrev same : List ℕ → List ℕ → Bool
  same = pointwise nat_eq

  abbrev low : ℕ → ℕ → Verdict
  low h floor = cond (not (is_key_there same v.key.now (f.key_of r (st w h)))) ToRetire (cond (all_below f.columns (λ c. same_cell same (vis w v.key.now h c) (f.col (st w h) c))) ToVerify (cond (nat_lt floor v.stamp) ToErase ToVerify))

  values_same : v.stamp ≤ x.horizon → all_below f.columns (λ c. same_cell same (vis w v.key.now x.horizon c) (f.col (st w x.horizon) c)) ≡ all_below (length v.values.now) (λ c. same_cell same (get_or v.values.now c None) (get_or x.horizon_values.now c None))
  values_same m = below_same f.columns _ _ (λ c l. (λ i. same_cell same (sym (tells.values m c l) i) (sym (tells.horizon_values m c l) i))) ∙ ap (λ (n : ℕ). all_below n (λ c. same_cell same (get_or v.values.now c None) (get_or x.horizon_values.now c None))) (sym (tells.count m))

  low_is : v.stamp ≤ x.horizon → low (horizon w) w.floor ≡ due_below v x
  low_is m = (λ i. low (tells.horizon i) (tells.floor i)) ∙ (λ i. cond (not (tells.horizon_key m i)) ToRetire (cond (values_same m i) ToVerify (cond (nat_lt x.floor v.stamp) ToErase ToVerify)))

  abbrev by_fate : Fate → Verdict
  by_fate φ = cond (is_undecided φ) Leave (cond (nat_lt (horizon w) v.stamp) (cond (is_written φ) (cond (is_key_there same v.key.now (f.key_of r (w.new v.stamp))) ToVerify ToRetire) ToErase) (low (horizon w) w.floor))

  due_by_fate : due (shape_at sh f r) w v.key.now v.stamp ≡ by_fate (w.fate v.stamp)
  unfolding due has_key shows
  due_by_fate = refl

  -- above the horizon the change decides
  above_is : x.horizon < v.stamp → (a : Verdict) → cond (nat_lt (horizon w) v.stamp) a (low (horizon w) w.floor) ≡ cond (nat_lt x.horizon v.stamp) a (due_below v x)
  above_is l a = (λ i. cond (nat_lt (tells.horizon i) v.stamp) a (low (horizon w) w.floor)) ∙ cond-true _ _ _ (lt-ltb x.horizon v.stamp l) ∙ sym (cond-true _ _ _ (lt-ltb x.horizon v.stamp l))

  by : x.horizon < v.stamp → (φ : Fate) → w.fate v.stamp ≡ φ → by_fate φ ≡ due_told (fate_of φ) v x
  by l Unbegun e = above_is l ToErase
  by l Lost e = above_is l ToErase
  by l Undecided e = refl
  by l Written e = above_is l (cond (is_key_there same v.key.now (f.key_of r (w.new v.stamp))) ToVerify ToRetire) ∙ (λ i. cond (nat_lt x.horizon v.stamp) (cond (tells.new_key l e i) ToVerify ToRetire) (due_below v x))

  -- at or below it what the horizon sees
  below_is : v.stamp ≤ x.horizon → (φ : Fate) → by_fate φ ≡ cond (is_undecided φ) Leave (due_below v x)
  below_is l φ = (λ i. cond (is_undecided φ) Leave (cond (nat_lt (tells.horizon i) v.stamp) (cond (is_written φ) (cond (is_key_there same v.key.now (f.key_of r (w.new v.stamp))) ToVerify ToRetire) ToErase) (low_is l i)))
      ∙ ap (λ (b : Bool). cond (is_undecided φ) Leave (cond b (cond (is_written φ) (cond (is_key_there same v.key.now (f.key_of r (w.new v.stamp))) ToVerify ToRetire) ToErase) (due_below v x))) (le-ltb x.horizon v.stamp l)

  told_below : v.stamp ≤ x.horizon → (φ : ChangeFate) → cond (is_open φ) Leave (due_below v x) ≡ due_told φ v x
  told_below l fates.Undecided = refl
  told_below l fates.Written = sym (cond-false _ _ _ (le-ltb x.horizon v.stamp l))
  told_below l fates.Lost = sym (cond-false _ _ _ (le-ltb x.horizon v.stamp l))

  pub due_is : due (shape_at sh f r) w v.key.now v.stamp ≡ due_told x.fate v x
  due_is = due_by_fate ∙ elim (cases_lt x.horizon v.stamp) [
    | inl l ↦ by l (w.fate v.stamp) refl ∙ ap (λ (φ : ChangeFate). due_told φ v x) (tells.fate l)
    | inr l ↦ below_is l (w.fate v.stamp) ∙ (ap (λ (b : Bool). cond b Leave (due_below v x)) tells.undecided ∙ told_below l x.fate)
  ]

-- ---- each answer

pub told_as : (v : Version) (x : Told) (φ : ChangeFate) → x.fate ≡ φ → due_told φ v x ≡ due_told x.fate v x
told_as v x φ e = ap (λ (ψ : ChangeFate). due_told ψ v x) (sym e)

pub written_above : (v : Version) (x : Told) (b : Bool) → x.horizon < v.stamp → b ≡ is_key_there (pointwise nat_eq) v.key.now (option_copied x.new_key) → cond b ToVerify ToRetire ≡ due_told fates.Written v x
written_above v x b l e = ap (λ (c : Bool). cond c ToVerify ToRetire) e ∙ sym (cond-true _ _ _ (lt-ltb x.horizon v.stamp l))

pub written_below : (v : Version) (x : Told) → v.stamp ≤ x.horizon → due_below v x ≡ due_told fates.Written v x
written_below v x l = sym (cond-false _ _ _ (le-ltb x.horizon v.stamp l))

pub lost_above : (v : Version) (x : Told) → x.horizon < v.stamp → ToErase ≡ due_told fates.Lost v x
lost_above v x l = sym (cond-true _ _ _ (lt-ltb x.horizon v.stamp l))

pub lost_below : (v : Version) (x : Told) → v.stamp ≤ x.horizon → due_below v x ≡ due_told fates.Lost v x
lost_below v x l = sym (cond-false _ _ _ (le-ltb x.horizon v.stamp l))

-- ---- two lists, item by item

item_any : {A : Type 0} (xs : List A) (i : ℕ) (d e : A) → i < length xs → get_or xs i d ≡ get_or xs i e
item_any [] i d e l = absurd (omega arith)
item_any (x ∷ xs) zero d e l = refl
item_any (x ∷ xs) (suc i) d e l = item_any xs i d e (omega arith)

pub same_at : (xs ys : List (Option (List ℕ))) (i : ℕ) (a b : Option (List ℕ)) (v : Bool) → length xs ≡ length ys → i < length xs → a ≡ get_or xs i a → b ≡ get_or ys i b → v ≡ same_cell (pointwise nat_eq) a b → same_cell (pointwise nat_eq) (get_or xs i None) (get_or ys i None) ≡ v
same_at xs ys i a b v n l p q e = (λ j. same_cell (pointwise nat_eq) ((item_any xs i None a l ∙ sym p) j) ((item_any ys i None b (omega arith) ∙ sym q) j)) ∙ sym e
