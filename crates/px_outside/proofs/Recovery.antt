-- How a list of entries goes on so that each stop recovers.
use Rattle.std.proofs.Common.{◌≡◌, ◌<◌, ◌≤◌, ◌+◌, ◌⊎◌, inl, inr, ℕ, Bool, true, false, List, [], ◌∷◌, ◌++◌, Option, Some, None, nat_le, refl, sym, ◌∙◌, ap, subst, arith, append_assoc, append-nil}
use Rattle.std.specs.Prelude.{nat_lt, if◌then◌else◌}
use Rattle.std.specs.List.{AllByRecursion}
use Rattle.std.proofs.lemmas.Bool.{cases_lt, le-leb, lt-leb, lt-ltb, le-ltb}
use Rattle.std.proofs.lemmas.List.Elements.{filter-append}
use Rattle.px_outside.specs.Disk.{Image, IsLeftBy, StaysBy}
use Rattle.px_outside.specs.Recovery.{LastsBy, RecoversBy, entries_after, entries_by, late_list, next_lasting}
use Rattle.px_outside.specs.declared.disk.Disk.{Ghosts}

pub all_within : {E : Type 0} (calls : E → ℕ) (a b : ℕ) (es : List E) → a ≤ b → AllByRecursion (λ (e : E). calls e ≤ a) es → AllByRecursion (λ (e : E). calls e ≤ b) es
all_within calls a b [] le all = tt
all_within calls a b (e ∷ es) le all = (let h = all.0 in omega arith, all_within calls a b es le all.1)

pub all_join : {E : Type 0} (P : E → Type 0) (es more : List E) → AllByRecursion P es → AllByRecursion P more → AllByRecursion P (es ++ more)
all_join P [] more all rest = rest
all_join P (e ∷ es) more all rest = (all.0, all_join P es more all.1 rest)

all_front : {E : Type 0} (P : E → Type 0) (es more : List E) → AllByRecursion P (es ++ more) → AllByRecursion P es
all_front P [] more all = tt
all_front P (e ∷ es) more all = (all.0, all_front P es more all.1)

all_map : {E : Type 0} (P Q : E → Type 0) (es : List E) → ((e : E) → P e → Q e) → AllByRecursion P es → AllByRecursion Q es
all_map P Q [] f all = tt
all_map P Q (e ∷ es) f all = (f e all.0, all_map P Q es f all.1)

all_last : {E : Type 0} (P : E → Type 0) (es : List E) (e : E) → AllByRecursion P (es ++ e ∷ []) → P e
all_last P [] e all = all.0
all_last P (x ∷ es) e all = all_last P es e all.1

next_one : {E : Type 0} (lasting : E → Bool) (e : E) → lasting e ≡ true → next_lasting lasting (e ∷ []) ≡ Some e
unfolding next_lasting
next_one lasting e is = rw is refl

next_without : {E : Type 0} (lasting : E → Bool) (es more : List E) (e : E) → lasting e ≡ false → next_lasting lasting (es ++ e ∷ more) ≡ next_lasting lasting (es ++ more)
unfolding next_lasting
next_without lasting [] more e passes = rw passes refl
next_without lasting (x ∷ es) more e passes = ap (λ (o : Option _). if lasting x then Some x else o) (next_without lasting es more e passes)

late_is : {E : Type 0} (lasting : E → Bool) (late : Option E) (e : E) → next_lasting lasting (late_list late) ≡ Some e → late ≡ Some e
unfolding next_lasting
late_is lasting None e is = absurd cc
late_is lasting (Some u) e is = elim (lasting u) as (λ (b : Bool). (if b then Some u else None) ≡ Some e → Some u ≡ Some e) [ true ↦ λ same. same | false ↦ λ same. absurd cc ] is

next_more : {E : Type 0} (lasting : E → Bool) (es more : List E) (e : E) → next_lasting lasting es ≡ Some e → next_lasting lasting (es ++ more) ≡ Some e
unfolding next_lasting
next_more lasting [] more e is = absurd cc
next_more lasting (x ∷ es) more e is = elim (lasting x) as (λ (b : Bool). (if b then Some x else next_lasting lasting es) ≡ Some e → (if b then Some x else next_lasting lasting (es ++ more)) ≡ Some e) [
  | true ↦ λ same. same
  | false ↦ λ same. next_more lasting es more e same
] is

next_none : {E : Type 0} (lasting : E → Bool) (e : E) → next_lasting lasting [] ≡ Some e → ⊥
unfolding next_lasting
next_none lasting e is = absurd cc

module _ {E : Type 0} (calls : E → ℕ) where
  pub by_all : (moment : ℕ) (es : List E) → AllByRecursion (λ (e : E). calls e ≤ moment) es → entries_by calls moment es ≡ es
  by_all moment [] all = refl
  by_all moment (e ∷ es) all = let now : nat_le (calls e) moment ≡ true = le-leb (calls e) moment all.0 in rw now (ap (λ (l : List E). e ∷ l) (by_all moment es all.1))

  pub by_none : (moment : ℕ) (es : List E) → AllByRecursion (λ (e : E). moment < calls e) es → entries_by calls moment es ≡ []
  by_none moment [] all = refl
  by_none moment (e ∷ es) all = let later : nat_le (calls e) moment ≡ false = lt-leb (calls e) moment all.0 in rw later (by_none moment es all.1)

  pub after_all : (moment : ℕ) (es : List E) → AllByRecursion (λ (e : E). moment < calls e) es → entries_after calls moment es ≡ es
  after_all moment [] all = refl
  after_all moment (e ∷ es) all = let later : nat_lt moment (calls e) ≡ true = lt-ltb moment (calls e) all.0 in rw later (ap (λ (l : List E). e ∷ l) (after_all moment es all.1))

  pub after_none : (moment : ℕ) (es : List E) → AllByRecursion (λ (e : E). calls e ≤ moment) es → entries_after calls moment es ≡ []
  after_none moment [] all = refl
  after_none moment (e ∷ es) all = let now : nat_lt moment (calls e) ≡ false = le-ltb moment (calls e) all.0 in rw now (after_none moment es all.1)

  by_more : (moment : ℕ) (es more : List E) → AllByRecursion (λ (e : E). moment < calls e) more → entries_by calls moment (es ++ more) ≡ entries_by calls moment es
  by_more moment es more all =
      filter-append (λ (e : E). nat_le (calls e) moment) es more ∙ (ap (λ (l : List E). entries_by calls moment es ++ l) (by_none moment more all) ∙ append-nil (entries_by calls moment es))

  after_more : (moment : ℕ) (es more : List E) → AllByRecursion (λ (e : E). moment < calls e) more → entries_after calls moment (es ++ more) ≡ entries_after calls moment es ++ more
  after_more moment es more all =
      filter-append (λ (e : E). nat_lt moment (calls e)) es more ∙ ap (λ (l : List E). entries_after calls moment es ++ l) (after_all moment more all)

  module _ (lasting : E → Bool) (Stands : List E → Image → Type 0) where
    -- entries that came after the moment
    recovers_more : (es more : List E) (late : Option E) (moment : ℕ) (image : Image) → AllByRecursion (λ (e : E). moment < calls e) more
        → RecoversBy calls lasting Stands es None moment image → RecoversBy calls lasting Stands (es ++ more) late moment image
    recovers_more es more late moment image all (inl stands) = inl (subst (λ (l : List E). Stands l image) (sym (by_more moment es more all)) stands)
    recovers_more es more late moment image all (inr n) =
        let same : entries_by calls moment (es ++ more) ≡ entries_by calls moment es = by_more moment es more all in
        let after = entries_after calls moment es in
        let is : next_lasting lasting (entries_after calls moment (es ++ more) ++ late_list late) ≡ Some n.0 =
        ap (λ (l : List E). next_lasting lasting (l ++ late_list late)) (after_more moment es more all)
        ∙ (ap (next_lasting lasting) (append_assoc after more (late_list late))
        ∙ next_more lasting after (more ++ late_list late) n.0 (ap (next_lasting lasting) (sym (append-nil after)) ∙ n.1.is)) in
        inr (n.0, record { is = is; soon = n.1.soon }, subst (λ (l : List E). Stands (l ++ n.0 ∷ []) image) (sym same) n.2)

    -- where no entry is late, an image of now stands for all of them
    pub stands_for_all : (es : List E) (moment : ℕ) (image : Image) → AllByRecursion (λ (e : E). calls e ≤ moment) es → RecoversBy calls lasting Stands es None moment image → Stands es image
    stands_for_all es moment image all (inl stands) = subst (λ (l : List E). Stands l image) (by_all moment es all) stands
    stands_for_all es moment image all (inr n) =
        let none : next_lasting lasting [] ≡ Some n.0 = ap (λ (l : List E). next_lasting lasting (l ++ [])) (sym (after_none moment es all)) ∙ n.1.is in
        absurd (next_none lasting n.0 none)

    -- A step: any calls, and then entries, or a late one. From its first call on an image stands for what was there, or for
    -- this and the next entry that lasts, at most four calls before it; behind its last call for all of it, or for all and
    -- the late entry.
    module _ {D : Type 0} (d : Ghosts D) (es more : List E) (late : Option E) (old new : D) (lasts : LastsBy calls lasting Stands d es None old)
        (early : AllByRecursion (λ (e : E). calls e ≤ d.calls old) es)
        (past : (moment : ℕ) (image : Image) → moment < d.calls old → IsLeftBy d.left new moment image → IsLeftBy d.left old moment image)
        (later : d.calls old ≤ d.calls new) (now : AllByRecursion (λ (e : E). calls e ≡ d.calls new) (more ++ late_list late))
        (under : (moment : ℕ) (image : Image) → d.calls old ≤ moment → moment < d.calls new → IsLeftBy d.left new moment image
        → Stands es image ⊎ ((e : E) × (next_lasting lasting (more ++ late_list late) ≡ Some e) × (calls e ≤ moment + 4) × Stands (es ++ e ∷ []) image))
        (behind : (moment : ℕ) (image : Image) → d.calls new ≤ moment → IsLeftBy d.left new moment image
        → Stands (es ++ more) image ⊎ ((e : E) × (late ≡ Some e) × (lasting e ≡ true) × Stands ((es ++ more) ++ e ∷ []) image)) where
      more_now : AllByRecursion (λ (e : E). calls e ≡ d.calls new) more
      more_now = all_front (λ (e : E). calls e ≡ d.calls new) more (late_list late) now

      pub step_lasts : LastsBy calls lasting Stands d (es ++ more) late new
      step_lasts moment image is = elim (cases_lt moment (d.calls old)) [
        | inl before ↦
            recovers_more es more late moment image (all_map (λ (e : E). calls e ≡ d.calls new) (λ (e : E). moment < calls e) more (λ e at. omega arith) more_now) (lasts moment image (past moment image before is))
        | inr since ↦ elim (cases_lt moment (d.calls new)) [
          | inl within ↦
              let later_more = all_map (λ (e : E). calls e ≡ d.calls new) (λ (e : E). moment < calls e) more (λ e at. omega arith) more_now in
              let all = all_within calls (d.calls old) moment es since early in
              let same : entries_by calls moment (es ++ more) ≡ es = by_more moment es more later_more ∙ by_all moment es all in
              let rest : entries_after calls moment (es ++ more) ≡ more = after_more moment es more later_more ∙ ap (λ (l : List E). l ++ more) (after_none moment es all) in
              elim (under moment image since within is) [
                | inl stands ↦ inl (subst (λ (l : List E). Stands l image) (sym same) stands)
                | inr n ↦ inr (
                  n.0,
                  record { is = ap (λ (l : List E). next_lasting lasting (l ++ late_list late)) rest ∙ n.1; soon = n.2 },
                  subst (λ (l : List E). Stands (l ++ n.0 ∷ []) image) (sym same) n.3,
                )
              ]
          | inr done ↦
              let all = all_join (λ (e : E). calls e ≤ moment) es more (all_within calls (d.calls old) moment es since early) (all_map (λ (e : E). calls e ≡ d.calls new) (λ (e : E). calls e ≤ moment) more (λ e at. omega arith) more_now) in
              let same : entries_by calls moment (es ++ more) ≡ es ++ more = by_all moment (es ++ more) all in
              let rest : entries_after calls moment (es ++ more) ≡ [] = after_none moment (es ++ more) all in
              elim (behind moment image done is) [
                | inl stands ↦ inl (subst (λ (l : List E). Stands l image) (sym same) stands)
                | inr n ↦
                    let last : AllByRecursion (λ (e : E). calls e ≡ d.calls new) (more ++ n.0 ∷ []) =
                    subst (λ (l : List E). AllByRecursion (λ (e : E). calls e ≡ d.calls new) (more ++ l)) (ap late_list n.1) now in
                    let at : calls n.0 ≡ d.calls new = all_last (λ (e : E). calls e ≡ d.calls new) more n.0 last in
                    inr (
                      n.0,
                      record {
                        is = ap (λ (l : List E). next_lasting lasting (l ++ late_list late)) rest ∙ (ap (λ (o : Option E). next_lasting lasting (late_list o)) n.1 ∙ next_one lasting n.0 n.2);
                        soon = omega arith;
                      },
                      subst (λ (l : List E). Stands (l ++ n.0 ∷ []) image) (sym same) n.3,
                    )
              ]
        ]
      ]

    -- An entry that doesn't last, and no call. It may come behind a late one's step.
    module _ {D : Type 0} (d : Ghosts D) (es : List E) (e : E) (late : Option E) (disk : D) (lasts : LastsBy calls lasting Stands d es late disk)
        (up_to_now : (x : D) (moment file : ℕ) (bytes : List ℕ) → d.left x moment file bytes → moment ≤ d.calls x)
        (early : AllByRecursion (λ (x : E). calls x ≤ d.calls disk) es) (at : calls e ≡ d.calls disk) (passes : lasting e ≡ false)
        (adds : (image : Image) → Stands es image → Stands (es ++ e ∷ []) image)
        (adds_late : (u : E) (image : Image) → late ≡ Some u → Stands (es ++ u ∷ []) image → Stands ((es ++ e ∷ []) ++ u ∷ []) image) where
      before_it : (moment : ℕ) (image : Image) → moment < d.calls disk → RecoversBy calls lasting Stands es late moment image → RecoversBy calls lasting Stands (es ++ e ∷ []) late moment image
      before_it moment image before (inl stands) = inl (subst (λ (l : List E). Stands l image) (sym (by_more moment es (e ∷ []) (omega arith, tt))) stands)
      before_it moment image before (inr n) =
          let after = entries_after calls moment es in
          let same : entries_by calls moment (es ++ e ∷ []) ≡ entries_by calls moment es = by_more moment es (e ∷ []) (omega arith, tt) in
          let is : next_lasting lasting (entries_after calls moment (es ++ e ∷ []) ++ late_list late) ≡ Some n.0 =
          ap (λ (l : List E). next_lasting lasting (l ++ late_list late)) (after_more moment es (e ∷ []) (omega arith, tt))
          ∙ (ap (next_lasting lasting) (append_assoc after (e ∷ []) (late_list late)) ∙ (next_without lasting after (late_list late) e passes ∙ n.1.is)) in
          inr (n.0, record { is = is; soon = n.1.soon }, subst (λ (l : List E). Stands (l ++ n.0 ∷ []) image) (sym same) n.2)

      with_it : (moment : ℕ) (image : Image) → d.calls disk ≤ moment → RecoversBy calls lasting Stands es late moment image → RecoversBy calls lasting Stands (es ++ e ∷ []) late moment image
      with_it moment image since r =
          let all = all_within calls (d.calls disk) moment es since early in
          let every : AllByRecursion (λ (x : E). calls x ≤ moment) (es ++ e ∷ []) = all_join (λ (x : E). calls x ≤ moment) es (e ∷ []) all (omega arith, tt) in
          let was : entries_by calls moment es ≡ es = by_all moment es all in
          let now : entries_by calls moment (es ++ e ∷ []) ≡ es ++ e ∷ [] = by_all moment (es ++ e ∷ []) every in
          elim r [
            | inl stands ↦ inl (subst (λ (l : List E). Stands l image) (sym now) (adds image (subst (λ (l : List E). Stands l image) was stands)))
            | inr n ↦
                let left : next_lasting lasting (late_list late) ≡ Some n.0 = ap (λ (l : List E). next_lasting lasting (l ++ late_list late)) (sym (after_none moment es all)) ∙ n.1.is in
                let stands : Stands (es ++ n.0 ∷ []) image = subst (λ (l : List E). Stands (l ++ n.0 ∷ []) image) was n.2 in
                inr (
                  n.0,
                  record { is = ap (λ (l : List E). next_lasting lasting (l ++ late_list late)) (after_none moment (es ++ e ∷ []) every) ∙ left; soon = n.1.soon },
                  subst (λ (l : List E). Stands (l ++ n.0 ∷ []) image) (sym now) (adds_late n.0 image (late_is lasting late n.0 left) stands),
                )
          ]

      pub note_lasts : LastsBy calls lasting Stands d (es ++ e ∷ []) late disk
      note_lasts moment image is = elim (cases_lt moment (d.calls disk)) [
        | inl before ↦ before_it moment image before (lasts moment image is)
        | inr since ↦ with_it moment image since (lasts moment image is)
      ]

    -- Quiet calls, as reads are: they add nothing, and what comes then goes on from here
    pub stays_lasts : {D : Type 0} (d : Ghosts D) (es : List E) (late : Option E) (old new : D) → LastsBy calls lasting Stands d es late old → StaysBy d.calls d.left old new → AllByRecursion (λ (e : E). calls e ≤ d.calls old) es
        → LastsBy calls lasting Stands d es late new
    stays_lasts d es late old new lasts quiet early moment image is = elim (cases_lt moment (d.calls old)) [
      | inl before ↦ lasts moment image (λ file. quiet.past moment file (image file) before (is file))
      | inr since ↦
          let at : ℕ = d.calls old in
          let was : entries_by calls at es ≡ es = by_all at es early in
          let now : entries_by calls moment es ≡ es = by_all moment es (all_within calls at moment es since early) in
          let same : entries_by calls moment es ≡ entries_by calls at es = now ∙ sym was in
          let rest : entries_after calls moment es ≡ entries_after calls at es = after_none moment es (all_within calls at moment es since early) ∙ sym (after_none at es early) in
          elim (lasts at image (λ file. quiet.now moment file (image file) since (is file))) [
            | inl stands ↦ inl (subst (λ (l : List E). Stands l image) (sym same) stands)
            | inr n ↦ inr (
              n.0,
              record { is = ap (λ (l : List E). next_lasting lasting (l ++ late_list late)) rest ∙ n.1.is; soon = (let s = n.1.soon in omega (arith, s, since)) },
              subst (λ (l : List E). Stands (l ++ n.0 ∷ []) image) (sym same) n.2,
            )
          ]
    ]

    -- Opening: nothing was done yet, and calls that leave nothing new. The first image stood for nothing but the base.
    pub opened_lasts : {D : Type 0} (d : Ghosts D) (old new : D) → d.calls old ≡ 0 → StaysBy d.calls d.left old new → ((image : Image) → IsLeftBy d.left old (d.calls old) image → Stands [] image) → LastsBy calls lasting Stands d [] None new
    opened_lasts d old new fresh quiet stood moment image is = inl (stood image (λ file. quiet.now moment file (image file) (omega arith) (is file)))
