-- A step of one part of a disk leaves what the others stand for.
use Rattle.std.proofs.Common.{◌≡◌, ◌≢◌, ◌<◌, ◌≤◌, ◌⊎◌, inl, inr, ℕ, zero, suc, List, [], ◌∷◌, refl, sym, ◌∙◌, subst, arith, set, get_or}
use Rattle.std.specs.Prelude.{length}
use Rattle.std.specs.List.{AllByRecursion}
use Rattle.std.proofs.lemmas.Bool.{cases_eq, ne_eqb, eq-eqb}
use Rattle.px_outside.specs.Disk.{Image, IsLeftBy, LeavesOnlyBy, TouchesOnlyBy}
use Rattle.px_outside.specs.Standing.{StandsIn}
use Rattle.px_outside.specs.Parts.{AllSettled, AllSettledIn, AllStand, AllStandIn, AreApart, AreDistinct, HasNone, with_part}
use Rattle.px_outside.specs.declared.disk.Disk.{Ghosts}
use Rattle.px_outside.proofs.Standing.{stands_kept, stands_left, stands_now}

pub with_part-here : {C : Type 0} (contents : ℕ → C) (r : ℕ) (c : C) → with_part contents r c r ≡ c
with_part-here contents r c = rw (eq-eqb r r refl) refl

pub with_part-other : {C : Type 0} (contents : ℕ → C) (r : ℕ) (c : C) (q : ℕ) → q ≢ r → with_part contents r c q ≡ contents q
with_part-other contents r c q apart = rw (ne_eqb q r apart) refl

-- ---- what stands on the disk

module _ {D C : Type 0} (d : Ghosts D) (owns : ℕ → ℕ → Type 0) (Stands : ℕ → Image → C → Type 0) where
  module _ (apart : (q r file : ℕ) → q ≢ r → owns q file → owns r file → ⊥) (kept : ℕ → Type 0) (contents : ℕ → C) (old new : D) (standing : AllStandIn d owns Stands kept contents old) (r : ℕ) (touched : ℕ → Type 0)
      (touches : TouchesOnlyBy d.calls d.left d.seen old new touched) (own : (file : ℕ) → touched file → owns r file) where
    -- calls on the files of one part: at each moment each other part stands for what it did,
    pub others_stand : (moment : ℕ) (image : Image) → d.calls old ≤ moment → IsLeftBy d.left new moment image → (q : ℕ) → kept q → q ≢ r → Stands q image (contents q)
    others_stand moment image since is q keeps other =
        stands_left d old new (owns q) (λ i. Stands q i (contents q)) (standing q keeps) touched touches (λ file mine was. apart q r file other mine (own file was)) moment image since is

    -- and so does the disk after them
    pub others_kept : (q : ℕ) → kept q → q ≢ r → StandsIn d new (owns q) (λ image. Stands q image (contents q))
    others_kept q keeps other = stands_kept d old new (owns q) (λ i. Stands q i (contents q)) (standing q keeps) touched touches (λ file mine was. apart q r file other mine (own file was))

    -- calls that leave what the part stands for: all stand for what they did
    pub one_stays : LeavesOnlyBy d.calls d.left old new (λ moment image. Stands r image (contents r)) → LeavesOnlyBy d.calls d.left old new (λ moment image. AllStand Stands kept contents image)
    one_stays leaves = record {
      each = λ moment image since is q keeps. elim (cases_eq q r) [
        | inl same ↦ subst (λ (k : ℕ). Stands k image (contents k)) (sym same) (leaves.each moment image since is)
        | inr other ↦ others_stand moment image since is q keeps other
      ];
    }

    pub all_kept : StandsIn d new (owns r) (λ image. Stands r image (contents r)) → AllStandIn d owns Stands kept contents new
    all_kept here q keeps = elim (cases_eq q r) [
      | inl same ↦ subst (λ (k : ℕ). StandsIn d new (owns k) (λ image. Stands k image (contents k))) (sym same) here
      | inr other ↦ others_kept q keeps other
    ]

    module _ (c : C) where
      -- the parts with that one as it was
      stand_without : (moment : ℕ) (image : Image) → d.calls old ≤ moment → IsLeftBy d.left new moment image → Stands r image (contents r) → AllStand Stands kept contents image
      stand_without moment image since is here q keeps = elim (cases_eq q r) [
        | inl same ↦ subst (λ (k : ℕ). Stands k image (contents k)) (sym same) here
        | inr other ↦ others_stand moment image since is q keeps other
      ]

      -- and with it as it becomes
      pub stand_with : (moment : ℕ) (image : Image) → d.calls old ≤ moment → IsLeftBy d.left new moment image → Stands r image c → AllStand Stands kept (with_part contents r c) image
      stand_with moment image since is here q keeps = elim (cases_eq q r) [
        | inl same ↦ subst (λ (k : ℕ). Stands k image (with_part contents r c k)) (sym same) (subst (λ (x : C). Stands r image x) (sym (with_part-here contents r c)) here)
        | inr other ↦ subst (λ (x : C). Stands q image x) (sym (with_part-other contents r c q other)) (others_stand moment image since is q keeps other)
      ]

      -- The law of a step: the part on whose files it makes its calls is as before or as after, and so are all of them.
      pub one_moves : LeavesOnlyBy d.calls d.left old new (λ moment image. Stands r image (contents r) ⊎ Stands r image c)
          → LeavesOnlyBy d.calls d.left old new (λ moment image. AllStand Stands kept contents image ⊎ AllStand Stands kept (with_part contents r c) image)
      one_moves leaves = record {
        each = λ moment image since is.
            elim (leaves.each moment image since is) [ inl here ↦ inl (stand_without moment image since is here) | inr here ↦ inr (stand_with moment image since is here) ];
      }

      pub one_kept : StandsIn d new (owns r) (λ image. Stands r image c) → AllStandIn d owns Stands kept (with_part contents r c) new
      one_kept here q keeps = elim (cases_eq q r) [
        | inl same ↦ subst (λ (k : ℕ). StandsIn d new (owns k) (λ image. Stands k image (with_part contents r c k))) (sym same)
            (subst (λ (x : C). StandsIn d new (owns r) (λ image. Stands r image x)) (sym (with_part-here contents r c)) here)
        | inr other ↦ subst (λ (x : C). StandsIn d new (owns q) (λ image. Stands q image x)) (sym (with_part-other contents r c q other)) (others_kept q keeps other)
      ]

  -- what the disk stands for each image of now stands for
  pub all_now : ((x : D) (moment file : ℕ) (bytes : List ℕ) → d.left x moment file bytes → moment ≤ d.calls x) → (kept : ℕ → Type 0) (contents : ℕ → C) (disk : D) → AllStandIn d owns Stands kept contents disk
      → (moment : ℕ) (image : Image) → d.calls disk ≤ moment → IsLeftBy d.left disk moment image → AllStand Stands kept contents image
  all_now up_to_now kept contents disk standing moment image since is r keeps = stands_now d disk (owns r) (λ i. Stands r i (contents r)) up_to_now (standing r keeps) moment image since is

-- ---- the parts that a program goes on from

module _ {D Part C : Type 0} (number : Part → ℕ) (Settled : D → Part → C → Type 0) where
  -- a step of one part of the list that leaves its contents
  module _ (contents : ℕ → C) (old new : D) (r : ℕ) (frame : (p : Part) (x : C) → number p ≢ r → Settled old p x → Settled new p x) where
    none_stays : (parts : List Part) → HasNone number r parts → AllSettled number Settled contents old parts → AllSettled number Settled contents new parts
    none_stays [] none all = tt
    none_stays (p ∷ parts) none all = (frame p (contents (number p)) none.0 all.0, none_stays parts none.1 all.1)

    pub set_stays : (parts : List Part) (i : ℕ) (p' : Part) → AreDistinct number parts → (fallback : Part) → number (get_or parts i fallback) ≡ r → i < length parts → number p' ≡ r → Settled new p' (contents r)
        → AllSettled number Settled contents old parts → AllSettled number Settled contents new (set parts i p')
    set_stays [] i p' distinct fallback at lt same settled all = absurd (omega arith)
    set_stays (p ∷ parts) zero p' distinct fallback at lt same settled all =
        (subst (λ (k : ℕ). Settled new p' (contents k)) (sym same) settled, none_stays parts (subst (λ (k : ℕ). HasNone number k parts) at distinct.0) all.1)
    set_stays (p ∷ parts) (suc i) p' distinct fallback at lt same settled all =
        let other : number p ≢ r = (λ is. none_there parts i distinct.0 fallback (omega (arith, lt)) (at ∙ sym is)) in
        (frame p (contents (number p)) other all.0, set_stays parts i p' distinct.1 fallback at (omega (arith, lt)) same settled all.1)
      where
        none_there : (xs : List Part) (k : ℕ) → HasNone number (number p) xs → (fallback : Part) → k < length xs → number (get_or xs k fallback) ≡ number p → ⊥
        none_there [] k none fallback lt is = omega arith
        none_there (x ∷ xs) zero none fallback lt is = none.0 is
        none_there (x ∷ xs) (suc k) none fallback lt is = none_there xs k none.1 fallback (omega (arith, lt)) is

  module _ (contents : ℕ → C) (old new : D) (r : ℕ) (c : C) (frame : (p : Part) (x : C) → number p ≢ r → Settled old p x → Settled new p x) where
    -- a step of a part that isn't in the list
    pub none_settled : (parts : List Part) → HasNone number r parts → AllSettled number Settled contents old parts → AllSettled number Settled (with_part contents r c) new parts
    none_settled [] none all = tt
    none_settled (p ∷ parts) none all =
        (subst (λ (x : C). Settled new p x) (sym (with_part-other contents r c (number p) none.0)) (frame p (contents (number p)) none.0 all.0), none_settled parts none.1 all.1)

    -- a step of one that is
    pub one_settled : (parts : List Part) (i : ℕ) (p' : Part) → AreDistinct number parts → (fallback : Part) → number (get_or parts i fallback) ≡ r → i < length parts → number p' ≡ r → Settled new p' c → AllSettled number Settled contents old parts
        → AllSettled number Settled (with_part contents r c) new (set parts i p')
    one_settled [] i p' distinct fallback at lt same settled all = absurd (omega arith)
    one_settled (p ∷ parts) zero p' distinct fallback at lt same settled all = (
      subst (λ (k : ℕ). Settled new p' (with_part contents r c k)) (sym same) (subst (λ (x : C). Settled new p' x) (sym (with_part-here contents r c)) settled),
      none_settled parts (subst (λ (k : ℕ). HasNone number k parts) at distinct.0) all.1,
    )
    one_settled (p ∷ parts) (suc i) p' distinct fallback at lt same settled all =
        let other : number p ≢ r = (λ is. none_at parts i distinct.0 fallback (omega (arith, lt)) (at ∙ sym is)) in (
          subst (λ (x : C). Settled new p x) (sym (with_part-other contents r c (number p) other)) (frame p (contents (number p)) other all.0),
          one_settled parts i p' distinct.1 fallback at (omega (arith, lt)) same settled all.1,
        )
      where
        none_at : (xs : List Part) (k : ℕ) → HasNone number (number p) xs → (fallback : Part) → k < length xs → number (get_or xs k fallback) ≡ number p → ⊥
        none_at [] k none fallback lt is = omega arith
        none_at (x ∷ xs) zero none fallback lt is = none.0 is
        none_at (x ∷ xs) (suc k) none fallback lt is = none_at xs k none.1 fallback (omega (arith, lt)) is

-- ---- the same where each element of the list has several parts

module _ {D Group C : Type 0} (has : Group → ℕ → Type 0) (Settled : D → Group → (ℕ → C) → Type 0) (contents : ℕ → C) (old new : D) (r : ℕ) (c : C)
    (frame : (g : Group) → (has g r → ⊥) → Settled old g contents → Settled new g (with_part contents r c)) where
  -- a step of a part that no element has
  pub none_settled_in : (groups : List Group) → AllByRecursion (λ g. has g r → ⊥) groups → AllSettledIn Settled contents old groups → AllSettledIn Settled (with_part contents r c) new groups
  none_settled_in [] none all = tt
  none_settled_in (g ∷ groups) none all = (frame g none.0 all.0, none_settled_in groups none.1 all.1)

  -- a step of a part of the element at a place
  pub one_settled_in : (groups : List Group) (i : ℕ) (g' : Group) → AreApart has groups → (fallback : Group) → has (get_or groups i fallback) r → i < length groups → Settled new g' (with_part contents r c)
      → AllSettledIn Settled contents old groups → AllSettledIn Settled (with_part contents r c) new (set groups i g')
  one_settled_in [] i g' apart fallback mine lt settled all = absurd (omega arith)
  one_settled_in (g ∷ groups) zero g' apart fallback mine lt settled all = (settled, none_settled_in groups (others groups apart.0) all.1)
    where
      others : (gs : List Group) → AllByRecursion (λ h. (q : ℕ) → has g q → has h q → ⊥) gs → AllByRecursion (λ h. has h r → ⊥) gs
      others [] none = tt
      others (h ∷ gs) none = ((λ theirs. none.0 r mine theirs), others gs none.1)
  one_settled_in (g ∷ groups) (suc i) g' apart fallback mine lt settled all =
      (frame g (λ its. there groups i apart.0 its (omega (arith, lt)) mine) all.0, one_settled_in groups i g' apart.1 fallback mine (omega (arith, lt)) settled all.1)
    where
      there : (gs : List Group) (k : ℕ) → AllByRecursion (λ h. (q : ℕ) → has g q → has h q → ⊥) gs → has g r → k < length gs → has (get_or gs k fallback) r → ⊥
      there [] k none its le is = omega arith
      there (h ∷ gs) zero none its le is = none.0 r its is
      there (h ∷ gs) (suc k) none its le is = there gs k none.1 its (omega (arith, le)) is
