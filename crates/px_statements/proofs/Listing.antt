-- The laws of a list whose last item may be of another rule.
use Rattle.std.proofs.Common.{◌≡◌, ℕ, zero, suc, ◌≤◌, Bool, true, false, cond, List, [], ◌∷◌, ◌++◌, length, Option, Some, None, refl, sym, ap, subst, ◌∙◌, append_assoc, arith, inl, inr}
use Rattle.std.proofs.lemmas.List.{append-nil, append_cancel_right, length-append}
use Rattle.px_lex.specs.declared.kind.Kind.{Kind}
use Rattle.px_lex.specs.Lexemes.{Seen}
use Rattle.px_lex.specs.Kinds.{same_kind}
use Rattle.px_ast.specs.Rule.{one_of, sees, Outcome, Got, Stuck, and_then, Rule, made, ◌then◌, maybe, many, word, second, ◌▹◌, ended_list, one_item_more, listing_at, listing}
use Rattle.px_statements.proofs.Laws.{Lawful, Apart, apart_test, apart_all, got_then, stuck_then, got_is, chosen, sees-left, sees-right, sees-same, then_first, made_lawful, then_lawful, maybe_lawful, many_lawful, room, no_room, longer}
use Rattle.px_statements.proofs.Words.{word_lawful, intro_lawful}

module _ {A B : Type 0} (k : Kind) (q : Rule A) (r : Rule B) where
  -- the last item, which may have the token before it
  abbrev pub last_item : Rule B
  last_item = made second (maybe (word k) then r)

  abbrev pub IsList : List Seen → List A × Option B → Type 0
  IsList ts x = (many (k ▹ q) then maybe last_item).reads ts x

  abbrev further : ℕ → A → List Seen → Outcome (List A × Option B)
  further n a rest = and_then (listing_at k q r n rest) (one_item_more a)

  abbrev behind : ℕ → Unit {0} → List Seen → Outcome (List A × Option B)
  behind n u rest = cond (sees r.begins rest) (and_then (r.at rest) ended_list) (and_then (q.at rest) (further n))

  abbrev bare : List Seen → Outcome (List A × Option B)
  bare ts = cond (sees r.begins ts) (and_then (r.at ts) ended_list) (Got ([], None) ts)

  abbrev front_of : ℕ → List Seen → Outcome (List A × Option B)
  front_of n ts = and_then ((word k).at ts) (behind n)

  no_more : IsList [] ([], None)
  no_more = ([], [], refl, refl, refl)

  the_last : (ts : List Seen) (b : B) → r.reads ts b → IsList ts ([], Some b)
  the_last ts b h = ([], ts, refl, refl, ((None, b), ([], ts, refl, refl, h), refl))

  a_last : (ts us : List Seen) (u : Unit {0}) (b : B) → (word k).reads ts u → r.reads us b → IsList (ts ++ us) ([], Some b)
  a_last ts us u b w h = ([], ts ++ us, refl, refl, ((Some u, b), (ts, us, refl, w, h), refl))

  one_item : (ts us vs : List Seen) (u : Unit {0}) (a : A) (x : List A × Option B) → (word k).reads ts u → q.reads us a → IsList vs x → IsList (ts ++ (us ++ vs)) (a ∷ x.0, x.1)
  one_item ts us vs u a x w h more =
      let e : ts ++ (us ++ vs) ≡ ((ts ++ us) ++ more.0) ++ more.1 =
      sym (append_assoc ts us vs) ∙ ap (λ (z : List Seen). (ts ++ us) ++ z) more.2 ∙ sym (append_assoc (ts ++ us) more.0 more.1) in
      ((ts ++ us) ++ more.0, more.1, e, (ts ++ us, more.0, refl, ((u, a), (ts, us, refl, w, h), refl), more.3), more.4)

  module _ (lq : Lawful q) (lr : Lawful r) (sq : q.solid ≡ true) (sr : r.solid ≡ true) (after : apart_test q.on (k ∷ r.begins) ≡ true) (comma : apart_test (k ∷ []) r.begins ≡ true) (other_item : apart_test r.begins q.begins ≡ true) where
    lw : Lawful (word k)
    lw = word_lawful k

    behind_got : (n : ℕ) (ts rest : List Seen) (x : List A × Option B) → ((us vs : List Seen) (y : List A × Option B) → listing_at k q r n us ≡ Got y vs → (front : List Seen) × (us ≡ front ++ vs) × IsList front y)
        → (u : Unit {0}) (pre : List Seen) → (word k).reads pre u → behind n u ts ≡ Got x rest → (front : List Seen) × (ts ≡ front ++ rest) × IsList (pre ++ front) x
    behind_got n ts rest x again u pre w e =
        elim (chosen (sees r.begins ts) (and_then (r.at ts) ended_list) (and_then (q.at ts) (further n)) (Got x rest) e) [
          | inl v ↦
              let i = got_then (r.at ts) ended_list x rest v.1 in
              let p = got_is ([], Some i.0) x rest i.1 i.3 in
              let g = lr.got ts rest i.0 (i.2 ∙ ap (λ (z : List Seen). Got i.0 z) p.1) in
              (g.0, g.1, subst (λ (z : List A × Option B). IsList (pre ++ g.0) z) p.0 (a_last pre g.0 u i.0 w g.2))
          | inr v ↦
              let i = got_then (q.at ts) (further n) x rest v.1 in
              let j = got_then (listing_at k q r n i.1) (one_item_more i.0) x rest i.3 in
              let p = got_is (i.0 ∷ j.0.0, j.0.1) x rest j.1 j.3 in
              let g = lq.got ts i.1 i.0 i.2 in
              let h = again i.1 rest j.0 (j.2 ∙ ap (λ (z : List Seen). Got j.0 z) p.1) in (
                g.0 ++ h.0,
                g.1 ∙ ap (λ (z : List Seen). g.0 ++ z) h.1 ∙ sym (append_assoc g.0 h.0 rest),
                subst (λ (z : List A × Option B). IsList (pre ++ (g.0 ++ h.0)) z) p.0 (one_item pre g.0 h.0 u i.0 j.0 w g.2 h.2),
              )
        ]

    bare_got : (ts rest : List Seen) (x : List A × Option B) → bare ts ≡ Got x rest → (front : List Seen) × (ts ≡ front ++ rest) × IsList front x
    bare_got ts rest x e =
        elim (chosen (sees r.begins ts) (and_then (r.at ts) ended_list) (Got ([], None) ts) (Got x rest) e) [
          | inl v ↦
              let i = got_then (r.at ts) ended_list x rest v.1 in
              let p = got_is ([], Some i.0) x rest i.1 i.3 in
              let g = lr.got ts rest i.0 (i.2 ∙ ap (λ (z : List Seen). Got i.0 z) p.1) in
              (g.0, g.1, subst (λ (z : List A × Option B). IsList g.0 z) p.0 (the_last g.0 i.0 g.2))
          | inr v ↦
              let p = got_is ([], None) x rest ts v.1 in
              ([], p.1, subst (λ (z : List A × Option B). IsList [] z) p.0 no_more)
        ]

    listing_got : (n : ℕ) (ts rest : List Seen) (x : List A × Option B) → listing_at k q r n ts ≡ Got x rest → (front : List Seen) × (ts ≡ front ++ rest) × IsList front x
    listing_got zero ts rest x e =
        let p = got_is ([], None) x rest ts e in
        ([], p.1, subst (λ (z : List A × Option B). IsList [] z) p.0 no_more)
    listing_got (suc n) ts rest x e =
        elim (chosen (sees (k ∷ []) ts) (front_of n ts) (bare ts) (Got x rest) e) [
          | inl v ↦
              let i = got_then ((word k).at ts) (behind n) x rest v.1 in
              let w = lw.got ts i.1 i.0 i.2 in
              let g = behind_got n i.1 rest x (listing_got n) i.0 w.0 w.2 i.3 in
              (w.0 ++ g.0, w.1 ∙ ap (λ (z : List Seen). w.0 ++ z) g.1 ∙ sym (append_assoc w.0 g.0 rest), g.2)
          | inr v ↦ bare_got ts rest x v.1
        ]

    -- these tokens are the beginning of a list
    abbrev BeginsList : List Seen → Type 0
    BeginsList front = (more : List Seen) × (x : List A × Option B) × IsList (front ++ more) x

    behind_stuck : (n : ℕ) (ts rest : List Seen) → ((us vs : List Seen) → listing_at k q r n us ≡ Stuck vs → (front : List Seen) × (us ≡ front ++ vs) × BeginsList front)
        → (u : Unit {0}) (pre : List Seen) → (word k).reads pre u → behind n u ts ≡ Stuck rest → (front : List Seen) × (ts ≡ front ++ rest) × BeginsList (pre ++ front)
    behind_stuck n ts rest again u pre w e =
        elim (chosen (sees r.begins ts) (and_then (r.at ts) ended_list) (and_then (q.at ts) (further n)) (Stuck rest) e) [
          | inl v ↦ elim (stuck_then (r.at ts) ended_list rest v.1) [
            | inl y ↦
                let s = lr.stuck ts rest y in
                let whole : IsList ((pre ++ s.0) ++ s.2.0) ([], Some s.2.1) = subst (λ (z : List Seen). IsList z ([], Some s.2.1)) (sym (append_assoc pre s.0 s.2.0)) (a_last pre (s.0 ++ s.2.0) u s.2.1 w s.2.2) in
                (s.0, s.1, (s.2.0, ([], Some s.2.1), whole))
            | inr y ↦ absurd (let h = y.3 in cc)
          ]
          | inr v ↦ elim (stuck_then (q.at ts) (further n) rest v.1) [
            | inl y ↦
                let s = lq.stuck ts rest y in
                let same : pre ++ ((s.0 ++ s.2.0) ++ []) ≡ (pre ++ s.0) ++ s.2.0 = ap (λ (z : List Seen). pre ++ z) (append-nil (s.0 ++ s.2.0)) ∙ sym (append_assoc pre s.0 s.2.0) in
                let whole : IsList ((pre ++ s.0) ++ s.2.0) (s.2.1 ∷ [], None) = subst (λ (z : List Seen). IsList z (s.2.1 ∷ [], None)) same (one_item pre (s.0 ++ s.2.0) [] u s.2.1 ([], None) w s.2.2 no_more) in
                (s.0, s.1, (s.2.0, (s.2.1 ∷ [], None), whole))
            | inr y ↦ elim (stuck_then (listing_at k q r n y.1) (one_item_more y.0) rest y.3) [
              | inl z ↦
                  let g = lq.got ts y.1 y.0 y.2 in
                  let s = again y.1 rest z in
                  let same : pre ++ (g.0 ++ (s.0 ++ s.2.0)) ≡ (pre ++ (g.0 ++ s.0)) ++ s.2.0 = ap (λ (z : List Seen). pre ++ z) (sym (append_assoc g.0 s.0 s.2.0)) ∙ sym (append_assoc pre (g.0 ++ s.0) s.2.0) in
                  let whole = subst (λ (z : List Seen). IsList z (y.0 ∷ s.2.1.0, s.2.1.1)) same (one_item pre g.0 (s.0 ++ s.2.0) u y.0 s.2.1 w g.2 s.2.2) in
                  (g.0 ++ s.0, g.1 ∙ ap (λ (z : List Seen). g.0 ++ z) s.1 ∙ sym (append_assoc g.0 s.0 rest), (s.2.0, (y.0 ∷ s.2.1.0, s.2.1.1), whole))
              | inr z ↦ absurd (let h = z.3 in cc)
            ]
          ]
        ]

    bare_stuck : (ts rest : List Seen) → bare ts ≡ Stuck rest → (front : List Seen) × (ts ≡ front ++ rest) × BeginsList front
    bare_stuck ts rest e =
        elim (chosen (sees r.begins ts) (and_then (r.at ts) ended_list) (Got ([], None) ts) (Stuck rest) e) [
          | inl v ↦ elim (stuck_then (r.at ts) ended_list rest v.1) [
            | inl y ↦ let s = lr.stuck ts rest y in (s.0, s.1, (s.2.0, ([], Some s.2.1), the_last (s.0 ++ s.2.0) s.2.1 s.2.2))
            | inr y ↦ absurd (let h = y.3 in cc)
          ]
          | inr v ↦ absurd (let h = v.1 in cc)
        ]

    listing_stuck : (n : ℕ) (ts rest : List Seen) → listing_at k q r n ts ≡ Stuck rest → (front : List Seen) × (ts ≡ front ++ rest) × BeginsList front
    listing_stuck zero ts rest e = absurd cc
    listing_stuck (suc n) ts rest e =
        elim (chosen (sees (k ∷ []) ts) (front_of n ts) (bare ts) (Stuck rest) e) [
          | inl v ↦ elim (stuck_then ((word k).at ts) (behind n) rest v.1) [
            | inl y ↦
                let s = lw.stuck ts rest y in
                let some = lr.some in
                let whole : IsList (s.0 ++ (s.2.0 ++ some.0)) ([], Some some.1) = subst (λ (z : List Seen). IsList z ([], Some some.1)) (append_assoc s.0 s.2.0 some.0) (a_last (s.0 ++ s.2.0) some.0 s.2.1 some.1 s.2.2 some.2) in
                (s.0, s.1, (s.2.0 ++ some.0, ([], Some some.1), whole))
            | inr y ↦
                let w = lw.got ts y.1 y.0 y.2 in
                let g = behind_stuck n y.1 rest (listing_stuck n) y.0 w.0 w.2 y.3 in
                (w.0 ++ g.0, w.1 ∙ ap (λ (z : List Seen). w.0 ++ z) g.1 ∙ sym (append_assoc w.0 g.0 rest), g.2)
          ]
          | inr v ↦ bare_stuck ts rest v.1
        ]

    -- ---- what is spelled so is read

    items_lawful : Lawful (many (k ▹ q))
    items_lawful = many_lawful (intro_lawful k lq) refl (by_test (one_of q.on k) refl after)
      where
        by_test : (b : Bool) → one_of q.on k ≡ b → cond b false (apart_test q.on r.begins) ≡ true → apart_test (k ▹ q).on (k ∷ []) ≡ true
        by_test true e h = absurd cc
        by_test false e h = rw (sq, e) refl

    last_lawful : Lawful last_item
    last_lawful = made_lawful second (then_lawful (maybe_lawful lw refl) lr comma)

    listing_first : (t : Seen) (ts : List Seen) (x : List A × Option B) → IsList (t ∷ ts) x → one_of (k ∷ r.begins) t.kind ≡ true
    listing_first t ts x h = once (same_kind t.kind k) (one_of r.begins t.kind) (then_first (many (k ▹ q)) (maybe last_item) items_lawful (maybe_lawful last_lawful sr) h.0 h.1 t ts x.0 x.1 h.2 h.3 h.4)
      where
        once : (a b : Bool) → cond a true (cond a true b) ≡ true → cond a true b ≡ true
        once true b e = e
        once false b e = e

    solid_first : {C : Type 0} (p : Rule C) → Lawful p → p.solid ≡ true → (ts rest : List Seen) (c : C) → p.reads ts c → sees p.begins (ts ++ rest) ≡ true
    solid_first p l s [] rest c h = absurd (l.full s c h)
    solid_first p l s (t ∷ ts) rest c h = l.first t ts c h

    solid_apart : {C : Type 0} (p : Rule C) → Lawful p → p.solid ≡ true → (ks : List Kind) → Apart ks p.begins → (ts rest : List Seen) (c : C) → p.reads ts c → sees ks (ts ++ rest) ≡ false
    solid_apart p l s ks apart [] rest c h = absurd (l.full s c h)
    solid_apart p l s ks apart (t ∷ ts) rest c h = apart t.kind (l.first t ts c h)

    abbrev clear : List Seen → Type 0
    clear rest = sees ((q.on ++ (k ∷ r.begins)) ++ r.on) rest ≡ false

    clear_on : (rest : List Seen) → clear rest → sees r.on rest ≡ false
    clear_on rest h = sees-right (q.on ++ (k ∷ r.begins)) r.on rest h

    clear_ends : (rest : List Seen) → clear rest → sees (k ∷ r.begins) rest ≡ false
    clear_ends rest h = sees-right q.on (k ∷ r.begins) rest (sees-left (q.on ++ (k ∷ r.begins)) r.on rest h)

    clear_begins : (rest : List Seen) → clear rest → sees r.begins rest ≡ false
    clear_begins rest h = sees-right (k ∷ []) r.begins rest (clear_ends rest h)

    clear_word : (rest : List Seen) → clear rest → sees (k ∷ []) rest ≡ false
    clear_word rest h = sees-left (k ∷ []) r.begins rest (clear_ends rest h)

    clear_item : (ts rest : List Seen) (x : List A × Option B) → IsList ts x → clear rest → sees q.on (ts ++ rest) ≡ false
    clear_item [] rest x h c = sees-left q.on (k ∷ r.begins) rest (sees-left (q.on ++ (k ∷ r.begins)) r.on rest c)
    clear_item (t ∷ ts) rest x h c = apart_all q.on (k ∷ r.begins) after t.kind (listing_first t ts x h)

    sees_none : (ts : List Seen) → sees [] ts ≡ false
    sees_none [] = refl
    sees_none (t ∷ ts) = refl

    again_none : (n : ℕ) (rest : List Seen) → clear rest → listing_at k q r n rest ≡ Got ([], None) rest
    again_none zero rest c = refl
    again_none (suc n) rest c = rw (clear_word rest c, clear_begins rest c) refl

    again_last : (n : ℕ) (ts rest : List Seen) (b : B) → length ts ≤ n → r.reads ts b → clear rest → listing_at k q r n (ts ++ rest) ≡ Got ([], Some b) rest
    again_last zero ts rest b le h c = absurd (omega (arith, longer r lr sr ts b h))
    again_last (suc n) ts rest b le h c =
        rw (solid_apart r lr sr (k ∷ []) (apart_all (k ∷ []) r.begins comma) ts rest b h, solid_first r lr sr ts rest b h, lr.again ts rest b h (clear_on rest c)) refl

    word_first : (ts rest : List Seen) (u : Unit {0}) → (word k).reads ts u → sees (k ∷ []) (ts ++ rest) ≡ true
    word_first ts rest u h = solid_first (word k) lw refl ts rest u h

    again_a_last : (n : ℕ) (pre ts rest : List Seen) (u : Unit {0}) (b : B) → length (pre ++ ts) ≤ n → (word k).reads pre u → r.reads ts b → clear rest → listing_at k q r n ((pre ++ ts) ++ rest) ≡ Got ([], Some b) rest
    again_a_last zero pre ts rest u b le w h c = absurd (omega (arith, longer r lr sr ts b h, length-append pre ts))
    again_a_last (suc n) pre ts rest u b le w h c =
        ap (listing_at k q r (suc n)) (append_assoc pre ts rest)
        ∙ rw (word_first pre (ts ++ rest) u w, lw.again pre (ts ++ rest) u w (sees_none (ts ++ rest)), solid_first r lr sr ts rest b h, lr.again ts rest b h (clear_on rest c)) refl

    again_item : (n : ℕ) (pre ts us rest : List Seen) (u : Unit {0}) (a : A) (x : List A × Option B) → (word k).reads pre u → q.reads ts a → IsList us x → clear rest → listing_at k q r n (us ++ rest) ≡ Got x rest
        → listing_at k q r (suc n) (pre ++ (ts ++ (us ++ rest))) ≡ Got (a ∷ x.0, x.1) rest
    again_item n pre ts us rest u a x w h i c again =
        rw (
          word_first pre (ts ++ (us ++ rest)) u w,
          lw.again pre (ts ++ (us ++ rest)) u w (sees_none (ts ++ (us ++ rest))),
          solid_apart q lq sq r.begins (apart_all r.begins q.begins other_item) ts (us ++ rest) a h,
          lq.again ts (us ++ rest) a h (clear_item us rest x i c),
          again,
        ) refl

    listing_again : (n : ℕ) (front rest : List Seen) (x : List A × Option B) → length front ≤ n → IsList front x → clear rest → listing_at k q r n (front ++ rest) ≡ Got x rest
    listing_again n front rest ([], None) le h c =
        let e : front ≡ [] = h.2 ∙ ap (λ (z : List Seen). z ++ h.1) h.3 ∙ h.4 in
        ap (λ (z : List Seen). listing_at k q r n (z ++ rest)) e ∙ again_none n rest c
    listing_again n front rest ([], Some b) le h c =
        let e : front ≡ h.1 = h.2 ∙ ap (λ (z : List Seen). z ++ h.1) h.3 in
        by_comma h.4.0.0 h.4.1.0 h.4.1.1 (e ∙ h.4.1.2) h.4.1.3 h.4.1.4
        ∙ ap (λ (z : B). Got ([], Some z) rest) (sym h.4.2)
      where
        by_comma : (o : Option (Unit {0})) (f g : List Seen) → front ≡ f ++ g → (maybe (word k)).reads f o → r.reads g h.4.0.1 → listing_at k q r n (front ++ rest) ≡ Got ([], Some h.4.0.1) rest
        by_comma None f g e wo hr =
            let same : front ≡ g = e ∙ ap (λ (z : List Seen). z ++ g) wo in
            ap (λ (z : List Seen). listing_at k q r n (z ++ rest)) same ∙ again_last n g rest h.4.0.1 (omega (arith, ap length same)) hr c
        by_comma (Some u) f g e wo hr =
            ap (λ (z : List Seen). listing_at k q r n (z ++ rest)) e ∙ again_a_last n f g rest u h.4.0.1 (omega (arith, ap length e)) wo hr c
    listing_again zero front rest (a ∷ others, o) le h c =
        absurd (omega (arith, ap length h.2, length-append h.0 h.1, ap length h.3.2, length-append h.3.0 h.3.1, longer (k ▹ q) (intro_lawful k lq) refl h.3.0 a h.3.3))
    listing_again (suc n) front rest (a ∷ others, o) le h c =
        let pre = h.3.3.1.0 in
        let ts = h.3.3.1.1 in
        let us : List Seen = h.3.1 ++ h.1 in
        let list : IsList us (others, o) = (h.3.1, h.1, refl, h.3.4, h.4) in
        let item : h.3.0 ≡ pre ++ ts = h.3.3.1.2 in
        let e : front ≡ pre ++ (ts ++ us) =
        h.2 ∙ ap (λ (z : List Seen). z ++ h.1) h.3.2 ∙ append_assoc h.3.0 h.3.1 h.1 ∙ ap (λ (z : List Seen). z ++ us) item ∙ append_assoc pre ts us in
        let le' : length us ≤ n = omega (arith, ap length e, length-append pre (ts ++ us), length-append ts us, longer (word k) lw refl pre h.3.3.0.0 h.3.3.1.3) in
        let parts : (pre ++ (ts ++ us)) ++ rest ≡ pre ++ (ts ++ (us ++ rest)) = append_assoc pre (ts ++ us) rest ∙ ap (λ (z : List Seen). pre ++ z) (append_assoc ts us rest) in
        ap (λ (z : List Seen). listing_at k q r (suc n) (z ++ rest)) e
        ∙ ap (listing_at k q r (suc n)) parts
        ∙ again_item n pre ts us rest h.3.3.0.0 h.3.3.0.1 (others, o) h.3.3.1.3 h.3.3.1.4 list c (listing_again n us rest (others, o) le' list c)
        ∙ ap (λ (z : A). Got (z ∷ others, o) rest) (sym h.3.3.2)

    -- ---- no token behind matters

    fewer : (n : ℕ) (us vs : List Seen) (t : Seen) (rest : List Seen) → length us ≤ length vs → length (vs ++ t ∷ rest) ≤ n → length (us ++ t ∷ rest) ≤ n
    fewer n us vs t rest le le' = omega (arith, length-append us (t ∷ rest), length-append vs (t ∷ rest))

    behind_same_got : (n m : ℕ) (front back : List Seen) (t : Seen) (rest other : List Seen) (x : List A × Option B) (u : Unit {0})
        → ((us : List Seen) (y : List A × Option B) → length us ≤ length front → listing_at k q r n (us ++ t ∷ rest) ≡ Got y (back ++ t ∷ rest) → listing_at k q r m (us ++ t ∷ other) ≡ Got y (back ++ t ∷ other))
        → behind n u (front ++ t ∷ rest) ≡ Got x (back ++ t ∷ rest) → behind m u (front ++ t ∷ other) ≡ Got x (back ++ t ∷ other)
    behind_same_got n m front back t rest other x u again e =
        let sight = sees-same r.begins front t rest other in
        elim (chosen (sees r.begins (front ++ t ∷ rest)) (and_then (r.at (front ++ t ∷ rest)) ended_list) (and_then (q.at (front ++ t ∷ rest)) (further n)) (Got x (back ++ t ∷ rest)) e) [
          | inl v ↦
              let i = got_then (r.at (front ++ t ∷ rest)) ended_list x (back ++ t ∷ rest) v.1 in
              let p = got_is ([], Some i.0) x (back ++ t ∷ rest) i.1 i.3 in
              let g = lr.same_got front back t rest other i.0 (i.2 ∙ ap (λ (z : List Seen). Got i.0 z) p.1) in
              let seen : sees r.begins (front ++ t ∷ other) ≡ true = sym sight ∙ v.0 in
              rw (seen, g) (ap (λ (z : List A × Option B). Got z (back ++ t ∷ other)) p.0)
          | inr v ↦
              let i = got_then (q.at (front ++ t ∷ rest)) (further n) x (back ++ t ∷ rest) v.1 in
              let j = got_then (listing_at k q r n i.1) (one_item_more i.0) x (back ++ t ∷ rest) i.3 in
              let p = got_is (i.0 ∷ j.0.0, j.0.1) x (back ++ t ∷ rest) j.1 j.3 in
              let read = j.2 ∙ ap (λ (z : List Seen). Got j.0 z) p.1 in
              let h = listing_got n i.1 (back ++ t ∷ rest) j.0 read in
              let mid : i.1 ≡ (h.0 ++ back) ++ t ∷ rest = h.1 ∙ sym (append_assoc h.0 back (t ∷ rest)) in
              let g = lq.got (front ++ t ∷ rest) i.1 i.0 i.2 in
              let le : length (h.0 ++ back) ≤ length front = omega (arith, ap length g.1, ap length mid, length-append g.0 i.1, length-append front (t ∷ rest), length-append (h.0 ++ back) (t ∷ rest)) in
              let first = lq.same_got front (h.0 ++ back) t rest other i.0 (i.2 ∙ ap (λ (z : List Seen). Got i.0 z) mid) in
              let last = again (h.0 ++ back) j.0 le (ap (listing_at k q r n) (sym mid) ∙ read) in
              let unseen : sees r.begins (front ++ t ∷ other) ≡ false = sym sight ∙ v.0 in
              rw (unseen, first, last) (ap (λ (z : List A × Option B). Got z (back ++ t ∷ other)) p.0)
        ]

    bare_same_got : (front back : List Seen) (t : Seen) (rest other : List Seen) (x : List A × Option B) → bare (front ++ t ∷ rest) ≡ Got x (back ++ t ∷ rest) → bare (front ++ t ∷ other) ≡ Got x (back ++ t ∷ other)
    bare_same_got front back t rest other x e =
        let sight = sees-same r.begins front t rest other in
        elim (chosen (sees r.begins (front ++ t ∷ rest)) (and_then (r.at (front ++ t ∷ rest)) ended_list) (Got ([], None) (front ++ t ∷ rest)) (Got x (back ++ t ∷ rest)) e) [
          | inl v ↦
              let i = got_then (r.at (front ++ t ∷ rest)) ended_list x (back ++ t ∷ rest) v.1 in
              let p = got_is ([], Some i.0) x (back ++ t ∷ rest) i.1 i.3 in
              let g = lr.same_got front back t rest other i.0 (i.2 ∙ ap (λ (z : List Seen). Got i.0 z) p.1) in
              let seen : sees r.begins (front ++ t ∷ other) ≡ true = sym sight ∙ v.0 in
              rw (seen, g) (ap (λ (z : List A × Option B). Got z (back ++ t ∷ other)) p.0)
          | inr v ↦
              let p = got_is ([], None) x (back ++ t ∷ rest) (front ++ t ∷ rest) v.1 in
              let h : front ≡ back = append_cancel_right front back (t ∷ rest) p.1 in
              let unseen : sees r.begins (front ++ t ∷ other) ≡ false = sym sight ∙ v.0 in
              rw (unseen, h) (ap (λ (z : List A × Option B). Got z (back ++ t ∷ other)) p.0)
        ]

    listing_same_got : (n m : ℕ) (front back : List Seen) (t : Seen) (rest other : List Seen) (x : List A × Option B) → length (front ++ t ∷ rest) ≤ n → length (front ++ t ∷ other) ≤ m
        → listing_at k q r n (front ++ t ∷ rest) ≡ Got x (back ++ t ∷ rest) → listing_at k q r m (front ++ t ∷ other) ≡ Got x (back ++ t ∷ other)
    listing_same_got zero m front back t rest other x le le' e = absurd (no_room front t rest le)
    listing_same_got (suc n) zero front back t rest other x le le' e = absurd (no_room front t other le')
    listing_same_got (suc n) (suc m) front back t rest other x le le' e =
        let sight = sees-same (k ∷ []) front t rest other in
        elim (chosen (sees (k ∷ []) (front ++ t ∷ rest)) (front_of n (front ++ t ∷ rest)) (bare (front ++ t ∷ rest)) (Got x (back ++ t ∷ rest)) e) [
          | inl v ↦
              let i = got_then ((word k).at (front ++ t ∷ rest)) (behind n) x (back ++ t ∷ rest) v.1 in
              let w = lw.got (front ++ t ∷ rest) i.1 i.0 i.2 in
              let h = behind_got n i.1 (back ++ t ∷ rest) x (listing_got n) i.0 w.0 w.2 i.3 in
              let mid : i.1 ≡ (h.0 ++ back) ++ t ∷ rest = h.1 ∙ sym (append_assoc h.0 back (t ∷ rest)) in
              let fits = room (front ++ t ∷ rest) w.0 i.1 h.0 back t rest other front n m refl w.1 mid (longer (word k) lw refl w.0 i.0 w.2) le le' in
              let first = lw.same_got front (h.0 ++ back) t rest other i.0 (i.2 ∙ ap (λ (z : List Seen). Got i.0 z) mid) in
              let again = λ (us : List Seen) (y : List A × Option B) (short : length us ≤ length (h.0 ++ back)) (e' : listing_at k q r n (us ++ t ∷ rest) ≡ Got y (back ++ t ∷ rest)). listing_same_got n m us back t rest other y (fewer n us (h.0 ++ back) t rest short fits.0) (fewer m us (h.0 ++ back) t other short fits.1) e' in
              let last = behind_same_got n m (h.0 ++ back) back t rest other x i.0 again (ap (behind n i.0) (sym mid) ∙ i.3) in
              let seen : sees (k ∷ []) (front ++ t ∷ other) ≡ true = sym sight ∙ v.0 in
              rw (seen, first) last
          | inr v ↦
              let unseen : sees (k ∷ []) (front ++ t ∷ other) ≡ false = sym sight ∙ v.0 in
              rw unseen (bare_same_got front back t rest other x v.1)
        ]

    behind_same_stuck : (n m : ℕ) (front back : List Seen) (t : Seen) (rest other : List Seen) (u : Unit {0})
        → ((us : List Seen) → length us ≤ length front → listing_at k q r n (us ++ t ∷ rest) ≡ Stuck (back ++ t ∷ rest) → listing_at k q r m (us ++ t ∷ other) ≡ Stuck (back ++ t ∷ other))
        → behind n u (front ++ t ∷ rest) ≡ Stuck (back ++ t ∷ rest) → behind m u (front ++ t ∷ other) ≡ Stuck (back ++ t ∷ other)
    behind_same_stuck n m front back t rest other u again e =
        let sight = sees-same r.begins front t rest other in
        elim (chosen (sees r.begins (front ++ t ∷ rest)) (and_then (r.at (front ++ t ∷ rest)) ended_list) (and_then (q.at (front ++ t ∷ rest)) (further n)) (Stuck (back ++ t ∷ rest)) e) [
          | inl v ↦
              let seen : sees r.begins (front ++ t ∷ other) ≡ true = sym sight ∙ v.0 in
              elim (stuck_then (r.at (front ++ t ∷ rest)) ended_list (back ++ t ∷ rest) v.1) [
                | inl y ↦ rw (seen, lr.same_stuck front back t rest other y) refl
                | inr y ↦ absurd (let h = y.3 in cc)
              ]
          | inr v ↦
              let unseen : sees r.begins (front ++ t ∷ other) ≡ false = sym sight ∙ v.0 in
              elim (stuck_then (q.at (front ++ t ∷ rest)) (further n) (back ++ t ∷ rest) v.1) [
                | inl y ↦ rw (unseen, lq.same_stuck front back t rest other y) refl
                | inr y ↦ elim (stuck_then (listing_at k q r n y.1) (one_item_more y.0) (back ++ t ∷ rest) y.3) [
                  | inl z ↦
                      let h = listing_stuck n y.1 (back ++ t ∷ rest) z in
                      let mid : y.1 ≡ (h.0 ++ back) ++ t ∷ rest = h.1 ∙ sym (append_assoc h.0 back (t ∷ rest)) in
                      let g = lq.got (front ++ t ∷ rest) y.1 y.0 y.2 in
                      let le : length (h.0 ++ back) ≤ length front = omega (arith, ap length g.1, ap length mid, length-append g.0 y.1, length-append front (t ∷ rest), length-append (h.0 ++ back) (t ∷ rest)) in
                      let first = lq.same_got front (h.0 ++ back) t rest other y.0 (y.2 ∙ ap (λ (w : List Seen). Got y.0 w) mid) in
                      let last = again (h.0 ++ back) le (ap (listing_at k q r n) (sym mid) ∙ z) in
                      rw (unseen, first, last) refl
                  | inr z ↦ absurd (let h = z.3 in cc)
                ]
              ]
        ]

    bare_same_stuck : (front back : List Seen) (t : Seen) (rest other : List Seen) → bare (front ++ t ∷ rest) ≡ Stuck (back ++ t ∷ rest) → bare (front ++ t ∷ other) ≡ Stuck (back ++ t ∷ other)
    bare_same_stuck front back t rest other e =
        let sight = sees-same r.begins front t rest other in
        elim (chosen (sees r.begins (front ++ t ∷ rest)) (and_then (r.at (front ++ t ∷ rest)) ended_list) (Got ([], None) (front ++ t ∷ rest)) (Stuck (back ++ t ∷ rest)) e) [
          | inl v ↦
              let seen : sees r.begins (front ++ t ∷ other) ≡ true = sym sight ∙ v.0 in
              elim (stuck_then (r.at (front ++ t ∷ rest)) ended_list (back ++ t ∷ rest) v.1) [
                | inl y ↦ rw (seen, lr.same_stuck front back t rest other y) refl
                | inr y ↦ absurd (let h = y.3 in cc)
              ]
          | inr v ↦ absurd (let h = v.1 in cc)
        ]

    listing_same_stuck : (n m : ℕ) (front back : List Seen) (t : Seen) (rest other : List Seen) → length (front ++ t ∷ rest) ≤ n → length (front ++ t ∷ other) ≤ m
        → listing_at k q r n (front ++ t ∷ rest) ≡ Stuck (back ++ t ∷ rest) → listing_at k q r m (front ++ t ∷ other) ≡ Stuck (back ++ t ∷ other)
    listing_same_stuck zero m front back t rest other le le' e = absurd (no_room front t rest le)
    listing_same_stuck (suc n) zero front back t rest other le le' e = absurd (no_room front t other le')
    listing_same_stuck (suc n) (suc m) front back t rest other le le' e =
        let sight = sees-same (k ∷ []) front t rest other in
        elim (chosen (sees (k ∷ []) (front ++ t ∷ rest)) (front_of n (front ++ t ∷ rest)) (bare (front ++ t ∷ rest)) (Stuck (back ++ t ∷ rest)) e) [
          | inl v ↦
              let seen : sees (k ∷ []) (front ++ t ∷ other) ≡ true = sym sight ∙ v.0 in
              elim (stuck_then ((word k).at (front ++ t ∷ rest)) (behind n) (back ++ t ∷ rest) v.1) [
                | inl y ↦ rw (seen, lw.same_stuck front back t rest other y) refl
                | inr y ↦
                    let w = lw.got (front ++ t ∷ rest) y.1 y.0 y.2 in
                    let h = behind_stuck n y.1 (back ++ t ∷ rest) (listing_stuck n) y.0 w.0 w.2 y.3 in
                    let mid : y.1 ≡ (h.0 ++ back) ++ t ∷ rest = h.1 ∙ sym (append_assoc h.0 back (t ∷ rest)) in
                    let fits = room (front ++ t ∷ rest) w.0 y.1 h.0 back t rest other front n m refl w.1 mid (longer (word k) lw refl w.0 y.0 w.2) le le' in
                    let first = lw.same_got front (h.0 ++ back) t rest other y.0 (y.2 ∙ ap (λ (z : List Seen). Got y.0 z) mid) in
                    let again = λ (us : List Seen) (short : length us ≤ length (h.0 ++ back)) (e' : listing_at k q r n (us ++ t ∷ rest) ≡ Stuck (back ++ t ∷ rest)). listing_same_stuck n m us back t rest other (fewer n us (h.0 ++ back) t rest short fits.0) (fewer m us (h.0 ++ back) t other short fits.1) e' in
                    let last = behind_same_stuck n m (h.0 ++ back) back t rest other y.0 again (ap (behind n y.0) (sym mid) ∙ y.3) in
                    rw (seen, first) last
              ]
          | inr v ↦
              let unseen : sees (k ∷ []) (front ++ t ∷ other) ≡ false = sym sight ∙ v.0 in
              rw unseen (bare_same_stuck front back t rest other v.1)
        ]

    pub listing_lawful : Lawful (listing k q r)
    listing_lawful = record {
      got = λ ts rest x e. listing_got (length ts) ts rest x e;
      stuck = λ ts rest e. listing_stuck (length ts) ts rest e;
      again = λ front rest x h c. listing_again (length (front ++ rest)) front rest x (omega (arith, length-append front rest)) h c;
      same_got = λ front back t rest other x e. listing_same_got (length (front ++ t ∷ rest)) (length (front ++ t ∷ other)) front back t rest other x (omega arith) (omega arith) e;
      same_stuck = λ front back t rest other e. listing_same_stuck (length (front ++ t ∷ rest)) (length (front ++ t ∷ other)) front back t rest other (omega arith) (omega arith) e;
      first = listing_first;
      full = λ s x h. absurd cc;
      some = ([], ([], None), no_more);
    }
