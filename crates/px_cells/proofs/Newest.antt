-- The newest stamp that hits.
use Rattle.std.proofs.Common.{◌≡◌, ℕ, zero, suc, ◌<◌, ◌≤◌, Bool, true, false, cond, ◌⊎◌, Option, Some, None, sym, ◌∙◌, refl, ap, subst, inl, inr, arith}
use Rattle.std.proofs.lemmas.Bool.{cases_Bool, both_ways, cases_lt, cases_eq}
use Rattle.px_cells.specs.Newest.{newest}

-- t is the newest stamp at most x that hits, and no stop stands at or above it
pub record IsNewest (stop hit : ℕ → Bool) (x t : ℕ) : Type 0 where
  pub within : t ≤ x
  pub hits : hit t ≡ true
  pub none : (s : ℕ) → t < s → s ≤ x → hit s ≡ false
  pub clear : (s : ℕ) → t ≤ s → s ≤ x → stop s ≡ false

newest-later : (stop hit : ℕ → Bool) (p t : ℕ) → stop (suc p) ≡ false → hit (suc p) ≡ false → IsNewest stop hit p t → IsNewest stop hit (suc p) t
newest-later stop hit p t a b h = record {
  within = (let i = h.within in omega arith);
  hits = h.hits;
  none = λ s l u. elim (cases_eq s (suc p)) [ inl e ↦ subst (λ y. hit y ≡ false) (sym e) b | inr e ↦ h.none s l (omega arith) ];
  clear = λ s l u. elim (cases_eq s (suc p)) [ inl e ↦ subst (λ y. stop y ≡ false) (sym e) a | inr e ↦ h.clear s l (omega arith) ];
}

pub newest-here : (stop hit : ℕ → Bool) (p : ℕ) → stop p ≡ false → hit p ≡ true → IsNewest stop hit p p
newest-here stop hit p a b = record {
  within = omega arith;
  hits = b;
  none = λ s l u. absurd (omega arith);
  clear = λ s l u. (let e : s ≡ p = omega arith in subst (λ y. stop y ≡ false) (sym e) a);
}

some_is : {t s : ℕ} → Some t ≡ Some s → t ≡ s
some_is h = cc

cond_newest : (stop hit : ℕ → Bool) (p t : ℕ) (r : Option ℕ) (a b : Bool) → stop p ≡ a → hit p ≡ b → (r ≡ Some t → stop p ≡ false → hit p ≡ false → IsNewest stop hit p t) → cond a None (cond b (Some p) r) ≡ Some t → IsNewest stop hit p t
cond_newest stop hit p t r true b ea eb f h = cc
cond_newest stop hit p t r false true ea eb f h = subst (λ y. IsNewest stop hit p y) (some_is h) (newest-here stop hit p ea eb)
cond_newest stop hit p t r false false ea eb f h = f h ea eb

pub newest-is : (stop hit : ℕ → Bool) (x t : ℕ) → newest stop hit x ≡ Some t → IsNewest stop hit x t
unfolding newest
newest-is stop hit zero t h = cond_newest stop hit zero t None (stop zero) (hit zero) refl refl (λ e _ _. cc) h
newest-is stop hit (suc p) t h = cond_newest stop hit (suc p) t (newest stop hit p) (stop (suc p)) (hit (suc p)) refl refl (λ e a b. newest-later stop hit p t a b (newest-is stop hit p t e)) h

pub newest-at : (stop hit : ℕ → Bool) (x t : ℕ) → IsNewest stop hit x t → newest stop hit x ≡ Some t
unfolding newest
newest-at stop hit zero t h =
    let e : t ≡ zero = (let i = h.within in omega arith) in
    let a : stop zero ≡ false = h.clear zero h.within (omega arith) in
    let b : hit zero ≡ true = subst (λ y. hit y ≡ true) e h.hits in
    rw (a, b) (ap Some (sym e))
newest-at stop hit (suc p) t h =
    let a : stop (suc p) ≡ false = h.clear (suc p) h.within (omega arith) in
    elim (cases_eq t (suc p)) [
      | inl e ↦ (let b : hit (suc p) ≡ true = subst (λ y. hit y ≡ true) e h.hits in rw (a, b) (ap Some (sym e)))
      | inr e ↦
          (let i = h.within in
          let b : hit (suc p) ≡ false = h.none (suc p) (omega arith) (omega arith) in
          rw (a, b) (newest-at stop hit p t (record { within = omega arith; hits = h.hits; none = λ s l u. h.none s l (omega arith); clear = λ s l u. h.clear s l (omega arith) })))
    ]

-- where something hits and nothing stops above it, there is a newest one, at or above it
pub newest-found : (stop hit : ℕ → Bool) (x s : ℕ) → s ≤ x → hit s ≡ true → ((p : ℕ) → s ≤ p → p ≤ x → stop p ≡ false) → (t : ℕ) × ((s ≤ t) × IsNewest stop hit x t)
newest-found stop hit zero s l h f =
    let e : s ≡ zero = omega arith in
    (s, (omega arith, record { within = l; hits = h; none = λ p a b. absurd (omega arith); clear = f }))
newest-found stop hit (suc p) s l h f =
    elim (cases_Bool (hit (suc p))) [
      | inl b ↦ (suc p, (l, newest-here stop hit (suc p) (f (suc p) l (omega arith)) b))
      | inr b ↦ elim (cases_eq s (suc p)) [
        | inl e ↦ absurd (both_ways _ b (subst (λ y. hit y ≡ true) e h))
        | inr e ↦ (let r = newest-found stop hit p s (omega arith) h (λ q c d. f q c (omega arith)) in (r.0, (r.1.0, newest-later stop hit p r.0 (f (suc p) l (omega arith)) b r.1.1)))
      ]
    ]

-- something hits above lo, or nothing does
pub any_above : (hit : ℕ → Bool) (lo x : ℕ) → ((s : ℕ) × ((lo < s) × ((s ≤ x) × (hit s ≡ true)))) ⊎ ((s : ℕ) → lo < s → s ≤ x → hit s ≡ false)
any_above hit lo zero = inr (λ s a b. absurd (omega arith))
any_above hit lo (suc p) =
    elim (cases_Bool (hit (suc p))) [
      | inl b ↦ elim (cases_lt lo (suc p)) [
        | inl l ↦ inl (suc p, (l, (omega arith, b)))
        | inr l ↦ inr (λ s c d. absurd (omega arith))
      ]
      | inr b ↦ elim (any_above hit lo p) [
        | inl r ↦ inl (r.0, (r.1.0, ((let i = r.1.1.0 in omega arith), r.1.1.1)))
        | inr f ↦ inr (λ s c d. elim (cases_eq s (suc p)) [ inl e ↦ subst (λ y. hit y ≡ false) (sym e) b | inr e ↦ f s c (omega arith) ])
      ]
    ]

-- two functions with the same stops and hits have the same newest stamp
pub newest-same : (stop hit stop' hit' : ℕ → Bool) (x t : ℕ) → ((s : ℕ) → s ≤ x → stop' s ≡ stop s) → ((s : ℕ) → s ≤ x → hit' s ≡ hit s) → newest stop hit x ≡ Some t → newest stop' hit' x ≡ Some t
newest-same stop hit stop' hit' x t a b h =
    let i = newest-is stop hit x t h in
    newest-at stop' hit' x t (record {
      within = i.within;
      hits = b t i.within ∙ i.hits;
      none = λ s l u. b s u ∙ i.none s l u;
      clear = λ s l u. a s u ∙ i.clear s l u;
    })

-- a stop at x leaves nothing
pub newest-stopped : (stop hit : ℕ → Bool) (x : ℕ) → stop x ≡ true → newest stop hit x ≡ None
unfolding newest
newest-stopped stop hit zero a = rw a
newest-stopped stop hit (suc p) a = rw a

-- with no hit there is none
pub newest-nothing : (stop hit : ℕ → Bool) (x : ℕ) → ((s : ℕ) → s ≤ x → hit s ≡ false) → newest stop hit x ≡ None
unfolding newest
newest-nothing stop hit zero b = (let b0 = b zero (omega arith) in elim (cases_Bool (stop zero)) [ inl a ↦ rw a | inr a ↦ rw (a, b0) ])
newest-nothing stop hit (suc p) b =
    let b0 = b (suc p) (omega arith) in
    let r = newest-nothing stop hit p (λ s l. b s (omega arith)) in
    elim (cases_Bool (stop (suc p))) [ inl a ↦ rw a | inr a ↦ rw (a, b0, r) ]

-- where nothing stops or hits above t, what is newest at x is newest at t
pub newest-down : (stop hit : ℕ → Bool) (x t : ℕ) → t ≤ x → ((s : ℕ) → t < s → s ≤ x → stop s ≡ false) → ((s : ℕ) → t < s → s ≤ x → hit s ≡ false) → newest stop hit x ≡ newest stop hit t
unfolding newest
newest-down stop hit zero t l a b = ap (newest stop hit) (let e : zero ≡ t = omega arith in e)
newest-down stop hit (suc p) t l a b = elim (cases_eq t (suc p)) [
  | inl e ↦ ap (newest stop hit) (sym e)
  | inr e ↦
      (let a0 = a (suc p) (omega arith) (omega arith) in
      let b0 = b (suc p) (omega arith) (omega arith) in
      let r = newest-down stop hit p t (omega arith) (λ s c d. a s c (omega arith)) (λ s c d. b s c (omega arith)) in
      rw (a0, b0, r))
]

pub newest-equal : (stop hit stop' hit' : ℕ → Bool) (x : ℕ) → ((s : ℕ) → s ≤ x → stop' s ≡ stop s) → ((s : ℕ) → s ≤ x → hit' s ≡ hit s) → newest stop' hit' x ≡ newest stop hit x
unfolding newest
newest-equal stop hit stop' hit' zero a b =
    let a0 = a zero (omega arith) in let b0 = b zero (omega arith) in rw (a0, b0)
newest-equal stop hit stop' hit' (suc p) a b =
    let a0 = a (suc p) (omega arith) in let b0 = b (suc p) (omega arith) in
    let r = newest-equal stop hit stop' hit' p (λ s l. a s (omega arith)) (λ s l. b s (omega arith)) in
    rw (a0, b0, r)
