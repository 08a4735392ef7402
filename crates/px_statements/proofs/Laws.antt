-- The laws that each rule of a grammar has, and that each way to combine rules keeps.
use Rattle.std.proofs.Common.{◌≡◌, ℕ, zero, suc, ◌≤◌, Bool, true, false, ◌||◌, cond, List, [], ◌∷◌, ◌++◌, length, Option, Some, None, refl, sym, ap, subst, ◌∙◌, append_assoc, arith, eq-eqb, rules, ◌⊎◌, inl, inr}
use Rattle.std.proofs.lemmas.List.{append-nil, append_cancel_right, length-append}
use denote.Enum.Bare.{same_true}
use Rattle.px_lex.specs.contracts.kind.Kind.{the_type}
use Rattle.px_lex.specs.declared.kind.Kind.{Kind}
use Rattle.px_lex.specs.Lexemes.{Seen}
use Rattle.px_lex.specs.Kinds.{same_kind}
use Rattle.px_ast.specs.Rule.{one_of, sees, Outcome, Got, Stuck, Deep, and_then, Rule, token_at, token, made, ◌then◌, maybe_reads, maybe, many_reads, many_at, many, ◌or◌, bounded}

-- these tokens are the beginning of what spells some value
abbrev pub Begun : {A : Type 0} → Rule A → List Seen → Type 0
Begun {A} r front = (more : List Seen) × (a : A) × r.reads (front ++ more) a

pub record Lawful {A : Type 0} (r : Rule A) : Type 0 where
  -- what is read is spelled so
  pub got : (ts rest : List Seen) (a : A) → r.at ts ≡ Got a rest → (front : List Seen) × (ts ≡ front ++ rest) × r.reads front a
  -- where reading is stuck, the tokens before begin a value
  pub stuck : (ts rest : List Seen) → r.at ts ≡ Stuck rest → (front : List Seen) × (ts ≡ front ++ rest) × Begun r front
  -- what is spelled so is read, unless the token after it goes on
  pub again : (front rest : List Seen) (a : A) → r.reads front a → sees r.on rest ≡ false → r.at (front ++ rest) ≡ Got a rest
  -- reading looks at no token behind the one at which it ends or is stuck
  pub same_got : (front back : List Seen) (t : Seen) (rest other : List Seen) (a : A) → r.at (front ++ t ∷ rest) ≡ Got a (back ++ t ∷ rest) → r.at (front ++ t ∷ other) ≡ Got a (back ++ t ∷ other)
  pub same_stuck : (front back : List Seen) (t : Seen) (rest other : List Seen) → r.at (front ++ t ∷ rest) ≡ Stuck (back ++ t ∷ rest) → r.at (front ++ t ∷ other) ≡ Stuck (back ++ t ∷ other)
  pub first : (t : Seen) (ts : List Seen) (a : A) → r.reads (t ∷ ts) a → one_of r.begins t.kind ≡ true
  pub full : r.solid ≡ true → (a : A) → r.reads [] a → ⊥
  pub some : (ts : List Seen) × (a : A) × r.reads ts a

-- ---- outcomes and tests

pub got_then : {A B : Type 0} (o : Outcome A) (f : A → List Seen → Outcome B) (b : B) (rest : List Seen) → and_then o f ≡ Got b rest → (a : A) × (mid : List Seen) × (o ≡ Got a mid) × (f a mid ≡ Got b rest)
got_then (Got a mid) f b rest e = (a, mid, refl, e)
got_then (Stuck mid) f b rest e = absurd cc
got_then Deep f b rest e = absurd cc

pub stuck_then : {A B : Type 0} (o : Outcome A) (f : A → List Seen → Outcome B) (rest : List Seen) → and_then o f ≡ Stuck rest → (o ≡ Stuck rest) ⊎ ((a : A) × (mid : List Seen) × (o ≡ Got a mid) × (f a mid ≡ Stuck rest))
stuck_then (Got a mid) f rest e = inr (a, mid, refl, e)
stuck_then (Stuck mid) f rest e = inl cc
stuck_then Deep f rest e = absurd cc

pub got_is : {A : Type 0} (a b : A) (rest mid : List Seen) → Got a mid ≡ Got b rest → (a ≡ b) × (mid ≡ rest)
got_is a b rest mid e = (cc, cc)

abbrev stuck_at : {A : Type 0} → List Seen → Outcome A
stuck_at rest = Stuck rest

pub stuck_is : {A : Type 0} (rest mid : List Seen) → stuck_at {A = A} mid ≡ stuck_at rest → mid ≡ rest
stuck_is rest mid e = cc

pub chosen : {A : Type 0} (b : Bool) (x y z : A) → cond b x y ≡ z → ((b ≡ true) × (x ≡ z)) ⊎ ((b ≡ false) × (y ≡ z))
chosen true x y z e = inl (refl, e)
chosen false x y z e = inr (refl, e)

-- ---- kinds

pub same_kind-refl : (k : Kind) → same_kind k k ≡ true
unfolding same_kind
same_kind-refl k = eq-eqb _ _ refl

pub one_of-left : (ks js : List Kind) (k : Kind) → one_of ks k ≡ true → one_of (ks ++ js) k ≡ true
one_of-left [] js k h = absurd cc
one_of-left (x ∷ ks) js k h =
    elim (chosen (same_kind k x) true (one_of ks k) true h) [
      | inl w ↦ rw w.0 refl
      | inr w ↦ rw w.0 (one_of-left ks js k w.1)
    ]

true_or : (b c : Bool) → c ≡ true → cond b true c ≡ true
true_or true c h = refl
true_or false c h = h

pub one_of-right : (ks js : List Kind) (k : Kind) → one_of js k ≡ true → one_of (ks ++ js) k ≡ true
one_of-right [] js k h = h
one_of-right (x ∷ ks) js k h = true_or (same_kind k x) (one_of (ks ++ js) k) (one_of-right ks js k h)

pub sees-left : (ks js : List Kind) (ts : List Seen) → sees (ks ++ js) ts ≡ false → sees ks ts ≡ false
sees-left ks js [] h = refl
sees-left ks js (t ∷ ts) h = by_test (one_of ks t.kind) refl
  where
    by_test : (b : Bool) → one_of ks t.kind ≡ b → b ≡ false
    by_test true e = absurd (let x : one_of (ks ++ js) t.kind ≡ true = one_of-left ks js t.kind e in cc)
    by_test false e = refl

pub sees-right : (ks js : List Kind) (ts : List Seen) → sees (ks ++ js) ts ≡ false → sees js ts ≡ false
sees-right ks js [] h = refl
sees-right ks js (t ∷ ts) h = by_test (one_of js t.kind) refl
  where
    by_test : (b : Bool) → one_of js t.kind ≡ b → b ≡ false
    by_test true e = absurd (let x : one_of (ks ++ js) t.kind ≡ true = one_of-right ks js t.kind e in cc)
    by_test false e = refl

-- the first token is the same, however the tokens go on behind `t`
pub sees-same : (ks : List Kind) (front : List Seen) (t : Seen) (rest other : List Seen) → sees ks (front ++ t ∷ rest) ≡ sees ks (front ++ t ∷ other)
sees-same ks [] t rest other = refl
sees-same ks (x ∷ front) t rest other = refl

-- ---- one token

token_got : (k : Kind) (ts rest : List Seen) (a : Seen) → token_at k ts ≡ Got a rest → (ts ≡ a ∷ rest) × (same_kind a.kind k ≡ true)
token_got k [] rest a e = absurd cc
token_got k (t ∷ ts) rest a e =
    elim (chosen (same_kind t.kind k) (Got t ts) (Stuck (t ∷ ts)) (Got a rest) e) [
      | inl w ↦ let p = got_is t a rest ts w.1 in (cc, subst (λ (x : Seen). same_kind x.kind k ≡ true) p.0 w.0)
      | inr w ↦ absurd cc
    ]

token_stuck : (k : Kind) (ts rest : List Seen) → token_at k ts ≡ Stuck rest → ts ≡ rest
token_stuck k [] rest e = cc
token_stuck k (t ∷ ts) rest e =
    elim (chosen (same_kind t.kind k) (Got t ts) (Stuck (t ∷ ts)) (Stuck rest) e) [
      | inl w ↦ absurd cc
      | inr w ↦ cc
    ]

pub token_lawful : (k : Kind) → Lawful (token k)
token_lawful k = record {
  got = λ ts rest a e. let p = token_got k ts rest a e in (a ∷ [], p.0, (refl, p.1));
  stuck = λ ts rest e. ([], token_stuck k ts rest e, (a_token ∷ [], a_token, (refl, same_kind-refl k)));
  again = λ front rest a r clear. rw r.0 (rw r.1 refl);
  same_got = same_got;
  same_stuck = same_stuck;
  first = λ t ts a r. let h : t ≡ a = cc in subst (λ (x : Seen). one_of (k ∷ []) x.kind ≡ true) (sym h) (rw r.1 refl);
  full = λ solid a r. absurd cc;
  some = (a_token ∷ [], a_token, (refl, same_kind-refl k));
}
  where
    a_token : Seen
    a_token = record { kind = k; place = 0; text = [] }

    same_got : (front back : List Seen) (t : Seen) (rest other : List Seen) (a : Seen) → token_at k (front ++ t ∷ rest) ≡ Got a (back ++ t ∷ rest) → token_at k (front ++ t ∷ other) ≡ Got a (back ++ t ∷ other)
    same_got [] back t rest other a e =
        let p = token_got k (t ∷ rest) (back ++ t ∷ rest) a e in
        let q : rest ≡ back ++ t ∷ rest = cc in
        absurd (omega (arith, ap length q, length-append back (t ∷ rest)))
    same_got (x ∷ front) back t rest other a e =
        let p = token_got k (x ∷ (front ++ t ∷ rest)) (back ++ t ∷ rest) a e in
        let q : front ++ t ∷ rest ≡ back ++ t ∷ rest = cc in
        let h : front ≡ back = append_cancel_right front back (t ∷ rest) q in
        let i : x ≡ a = cc in
        rw (i, p.1, h) refl

    same_stuck : (front back : List Seen) (t : Seen) (rest other : List Seen) → token_at k (front ++ t ∷ rest) ≡ Stuck (back ++ t ∷ rest) → token_at k (front ++ t ∷ other) ≡ Stuck (back ++ t ∷ other)
    same_stuck [] back t rest other e =
        elim (chosen (same_kind t.kind k) (Got t rest) (Stuck (t ∷ rest)) (Stuck (back ++ t ∷ rest)) e) [
          | inl w ↦ absurd cc
          | inr w ↦ let h : [] ≡ back = append_cancel_right [] back (t ∷ rest) (stuck_is {A = Seen} (back ++ t ∷ rest) (t ∷ rest) w.1) in rw (← h, w.0) refl
        ]
    same_stuck (x ∷ front) back t rest other e =
        elim (chosen (same_kind x.kind k) (Got x (front ++ t ∷ rest)) (Stuck (x ∷ (front ++ t ∷ rest))) (Stuck (back ++ t ∷ rest)) e) [
          | inl w ↦ absurd cc
          | inr w ↦ let h : x ∷ front ≡ back = append_cancel_right (x ∷ front) back (t ∷ rest) (stuck_is {A = Seen} (back ++ t ∷ rest) (x ∷ (front ++ t ∷ rest)) w.1) in rw (← h, w.0) refl
        ]

-- ---- a value made of what another rule reads

pub made_lawful : {A B : Type 0} {r : Rule A} (f : A → B) → Lawful r → Lawful (made f r)
made_lawful {A} {B} {r} f l = record {
  got = λ ts rest b e.
      let i = got_then (r.at ts) (λ a rest. Got (f a) rest) b rest e in
      let p = got_is (f i.0) b rest i.1 i.3 in
      let g = l.got ts rest i.0 (i.2 ∙ ap (λ (x : List Seen). Got i.0 x) p.1) in
      (g.0, g.1, (i.0, g.2, sym p.0));
  stuck = λ ts rest e.
      elim (stuck_then (r.at ts) (λ a rest. Got (f a) rest) rest e) [
        | inl w ↦ let s = l.stuck ts rest w in (s.0, s.1, (s.2.0, f s.2.1, (s.2.1, s.2.2, refl)))
        | inr w ↦ absurd (let h = w.3 in cc)
      ];
  again = λ front rest b x clear. rw (l.again front rest x.0 x.1 clear) (ap (λ (y : B). Got y rest) (sym x.2));
  same_got = λ front back t rest other b e.
      let i = got_then (r.at (front ++ t ∷ rest)) (λ a rest. Got (f a) rest) b (back ++ t ∷ rest) e in
      let p = got_is (f i.0) b (back ++ t ∷ rest) i.1 i.3 in
      let g = l.same_got front back t rest other i.0 (i.2 ∙ ap (λ (x : List Seen). Got i.0 x) p.1) in
      rw g (ap (λ (y : B). Got y (back ++ t ∷ other)) p.0);
  same_stuck = λ front back t rest other e.
      elim (stuck_then (r.at (front ++ t ∷ rest)) (λ a rest. Got (f a) rest) (back ++ t ∷ rest) e) [
        | inl w ↦ rw (l.same_stuck front back t rest other w) refl
        | inr w ↦ absurd (let h = w.3 in cc)
      ];
  first = λ t ts b x. l.first t ts x.0 x.1;
  full = λ solid b x. l.full solid x.0 x.1;
  some = (l.some.0, f l.some.1, (l.some.1, l.some.2, refl));
}

-- ---- one after the other

-- no token at which q begins goes on with p
abbrev pub Apart : List Kind → List Kind → Type 0
Apart on begins = (k : Kind) → one_of begins k ≡ true → one_of on k ≡ false

abbrev pub apart_test : List Kind → List Kind → Bool
apart_test on [] = true
apart_test on (x ∷ xs) = cond (one_of on x) false (apart_test on xs)

pub apart_none : (begins : List Kind) → apart_test [] begins ≡ true
apart_none [] = refl
apart_none (x ∷ xs) = apart_none xs

pub same_kind-true : (a b : Kind) → same_kind a b ≡ true → a ≡ b
unfolding same_kind
same_kind-true a b h = same_true the_type (search rules) a b h

pub apart_all : (on begins : List Kind) → apart_test on begins ≡ true → Apart on begins
apart_all on [] h x e = absurd cc
apart_all on (y ∷ ys) h x e =
    elim (chosen (one_of on y) false (apart_test on ys) true h) [
      | inl w ↦ absurd (let z = w.1 in cc)
      | inr w ↦ elim (chosen (same_kind x y) true (one_of ys x) true e) [
        | inl v ↦ subst (λ (z : Kind). one_of on z ≡ false) (sym (same_kind-true x y v.0)) w.0
        | inr v ↦ apart_all on ys w.1 x v.1
      ]
    ]

clear_rest : {B : Type 0} (on : List Kind) (q : Rule B) → Lawful q → (rest : List Seen) (b : B) → q.reads [] b → sees (cond q.solid q.on (on ++ q.on)) rest ≡ false → sees on rest ≡ false
clear_rest on q l rest b r = by_solid q.solid refl
  where
    by_solid : (s : Bool) → q.solid ≡ s → sees (cond s q.on (on ++ q.on)) rest ≡ false → sees on rest ≡ false
    by_solid true e h = absurd (l.full e b r)
    by_solid false e h = sees-left on q.on rest h

clear_second : {B : Type 0} (on : List Kind) (q : Rule B) (rest : List Seen) → sees (cond q.solid q.on (on ++ q.on)) rest ≡ false → sees q.on rest ≡ false
clear_second on q rest = by_solid q.solid
  where
    by_solid : (s : Bool) → sees (cond s q.on (on ++ q.on)) rest ≡ false → sees q.on rest ≡ false
    by_solid true h = h
    by_solid false h = sees-right on q.on rest h

clear_first : {B : Type 0} (on : List Kind) (q : Rule B) → Lawful q → Apart on q.begins → (back rest : List Seen) (b : B) → q.reads back b → sees (cond q.solid q.on (on ++ q.on)) rest ≡ false → sees on (back ++ rest) ≡ false
clear_first on q l apart [] rest b r h = clear_rest on q l rest b r h
clear_first on q l apart (t ∷ back) rest b r h = apart t.kind (l.first t back b r)

pub then_first : {A B : Type 0} (p : Rule A) (q : Rule B) → Lawful p → Lawful q → (front back : List Seen) (t : Seen) (ts : List Seen) (a : A) (b : B) → t ∷ ts ≡ front ++ back → p.reads front a → q.reads back b → one_of (cond p.solid p.begins (p.begins ++ q.begins)) t.kind ≡ true
then_first {A} {B} p q lp lq [] back t ts a b e rp rq = by_solid p.solid refl
  where
    by_solid : (s : Bool) → p.solid ≡ s → one_of (cond s p.begins (p.begins ++ q.begins)) t.kind ≡ true
    by_solid true h = absurd (lp.full h a rp)
    by_solid false h = one_of-right p.begins q.begins t.kind (lq.first t ts b (subst (λ (x : List Seen). q.reads x b) (sym e) rq))
then_first {A} {B} p q lp lq (x ∷ front) back t ts a b e rp rq = by_solid p.solid
  where
    same : x ≡ t
    same = cc

    in_first : one_of p.begins t.kind ≡ true
    in_first = subst (λ (y : Seen). one_of p.begins y.kind ≡ true) same (lp.first x front a rp)

    by_solid : (s : Bool) → one_of (cond s p.begins (p.begins ++ q.begins)) t.kind ≡ true
    by_solid true = in_first
    by_solid false = one_of-left p.begins q.begins t.kind in_first

then_full : {A B : Type 0} (p : Rule A) (q : Rule B) → Lawful p → Lawful q → (front back : List Seen) (a : A) (b : B) → [] ≡ front ++ back → (p.solid || q.solid) ≡ true → p.reads front a → q.reads back b → ⊥
then_full p q lp lq [] [] a b e solid rp rq = by_solid p.solid refl solid
  where
    by_solid : (s : Bool) → p.solid ≡ s → (s || q.solid) ≡ true → ⊥
    by_solid true h o = lp.full h a rp
    by_solid false h o = lq.full o b rq
then_full p q lp lq [] (y ∷ back) a b e solid rp rq = absurd cc
then_full p q lp lq (x ∷ front) back a b e solid rp rq = absurd cc

abbrev then_second : {A B : Type 0} → Rule B → A → List Seen → Outcome (A × B)
then_second q a rest = and_then (q.at rest) (λ b end. Got (a, b) end)

pub then_lawful : {A B : Type 0} {p : Rule A} {q : Rule B} → Lawful p → Lawful q → apart_test p.on q.begins ≡ true → Lawful (p then q)
then_lawful {A} {B} {p} {q} lp lq is_apart = let apart = apart_all p.on q.begins is_apart in record {
  got = λ ts rest ab e.
      let i = got_then (p.at ts) (then_second q) ab rest e in
      let j = got_then (q.at i.1) (λ b end. Got (i.0, b) end) ab rest i.3 in
      let k = got_is (i.0, j.0) ab rest j.1 j.3 in
      let g = lp.got ts i.1 i.0 i.2 in
      let h = lq.got i.1 rest j.0 (j.2 ∙ ap (λ (x : List Seen). Got j.0 x) k.1) in
      subst (λ (x : A × B). (front : List Seen) × (ts ≡ front ++ rest) × (p then q).reads front x) k.0
      (g.0 ++ h.0, g.1 ∙ ap (λ (x : List Seen). g.0 ++ x) h.1 ∙ sym (append_assoc g.0 h.0 rest), (g.0, h.0, refl, g.2, h.2));
  stuck = λ ts rest e.
      elim (stuck_then (p.at ts) (then_second q) rest e) [
        | inl w ↦
            let s = lp.stuck ts rest w in
            (s.0, s.1, (s.2.0 ++ lq.some.0, (s.2.1, lq.some.1), (s.0 ++ s.2.0, lq.some.0, sym (append_assoc s.0 s.2.0 lq.some.0), s.2.2, lq.some.2)))
        | inr w ↦ elim (stuck_then (q.at w.1) (λ b end. Got (w.0, b) end) rest w.3) [
          | inl v ↦
              let g = lp.got ts w.1 w.0 w.2 in
              let s = lq.stuck w.1 rest v in
              (g.0 ++ s.0, g.1 ∙ ap (λ (x : List Seen). g.0 ++ x) s.1 ∙ sym (append_assoc g.0 s.0 rest), (s.2.0, (w.0, s.2.1), (g.0, s.0 ++ s.2.0, append_assoc g.0 s.0 s.2.0, g.2, s.2.2)))
          | inr v ↦ absurd (let h = v.3 in cc)
        ]
      ];
  again = λ front rest ab r clear.
      let e : front ++ rest ≡ r.0 ++ (r.1 ++ rest) = ap (λ (x : List Seen). x ++ rest) r.2 ∙ append_assoc r.0 r.1 rest in
      let first = lp.again r.0 (r.1 ++ rest) ab.0 r.3 (clear_first p.on q lq apart r.1 rest ab.1 r.4 clear) in
      let last = lq.again r.1 rest ab.1 r.4 (clear_second p.on q rest clear) in
      ap (p then q).at e ∙ rw (first, last) refl;
  same_got = λ front back t rest other ab e.
      let i = got_then (p.at (front ++ t ∷ rest)) (then_second q) ab (back ++ t ∷ rest) e in
      let j = got_then (q.at i.1) (λ b end. Got (i.0, b) end) ab (back ++ t ∷ rest) i.3 in
      let k = got_is (i.0, j.0) ab (back ++ t ∷ rest) j.1 j.3 in
      let read = j.2 ∙ ap (λ (x : List Seen). Got j.0 x) k.1 in
      let h = lq.got i.1 (back ++ t ∷ rest) j.0 read in
      let mid : i.1 ≡ (h.0 ++ back) ++ t ∷ rest = h.1 ∙ sym (append_assoc h.0 back (t ∷ rest)) in
      let first = lp.same_got front (h.0 ++ back) t rest other i.0 (i.2 ∙ ap (λ (x : List Seen). Got i.0 x) mid) in
      let last = lq.same_got (h.0 ++ back) back t rest other j.0 (ap q.at (sym mid) ∙ read) in
      rw (first, last) (ap (λ (x : A × B). Got x (back ++ t ∷ other)) k.0);
  same_stuck = λ front back t rest other e.
      elim (stuck_then (p.at (front ++ t ∷ rest)) (then_second q) (back ++ t ∷ rest) e) [
        | inl w ↦ rw (lp.same_stuck front back t rest other w) refl
        | inr w ↦ elim (stuck_then (q.at w.1) (λ b end. Got (w.0, b) end) (back ++ t ∷ rest) w.3) [
          | inl v ↦
              let h = lq.stuck w.1 (back ++ t ∷ rest) v in
              let mid : w.1 ≡ (h.0 ++ back) ++ t ∷ rest = h.1 ∙ sym (append_assoc h.0 back (t ∷ rest)) in
              let first = lp.same_got front (h.0 ++ back) t rest other w.0 (w.2 ∙ ap (λ (x : List Seen). Got w.0 x) mid) in
              let last = lq.same_stuck (h.0 ++ back) back t rest other (ap q.at (sym mid) ∙ v) in
              rw (first, last) refl
          | inr v ↦ absurd (let h = v.3 in cc)
        ]
      ];
  first = λ t ts ab r. then_first p q lp lq r.0 r.1 t ts ab.0 ab.1 r.2 r.3 r.4;
  full = λ solid ab r. then_full p q lp lq r.0 r.1 ab.0 ab.1 r.2 solid r.3 r.4;
  some = (lp.some.0 ++ lq.some.0, (lp.some.1, lq.some.1), (lp.some.0, lq.some.0, refl, lp.some.2, lq.some.2));
}

-- ---- none or one

maybe_again : {A : Type 0} (q : Rule A) → Lawful q → q.solid ≡ true → (front rest : List Seen) (o : Option A) → maybe_reads q.reads front o → sees (q.on ++ q.begins) rest ≡ false → (maybe q).at (front ++ rest) ≡ Got o rest
maybe_again {A} q l solid front rest None r clear =
    ap (maybe q).at (ap (λ (x : List Seen). x ++ rest) r) ∙ rw (sees-right q.on q.begins rest clear) refl
maybe_again {A} q l solid [] rest (Some a) r clear = absurd (l.full solid a r)
maybe_again {A} q l solid (t ∷ front) rest (Some a) r clear =
    rw (l.first t front a r, l.again (t ∷ front) rest a r (sees-left q.on q.begins rest clear)) refl

abbrev some_then : {A : Type 0} → A → List Seen → Outcome (Option A)
some_then a rest = Got (Some a) rest

abbrev got_none : {A : Type 0} → List Seen → Outcome (Option A)
got_none ts = Got None ts

maybe_first : {A : Type 0} (q : Rule A) → Lawful q → (t : Seen) (ts : List Seen) (o : Option A) → maybe_reads q.reads (t ∷ ts) o → one_of q.begins t.kind ≡ true
maybe_first q l t ts None r = absurd cc
maybe_first q l t ts (Some a) r = l.first t ts a r

pub maybe_lawful : {A : Type 0} {q : Rule A} → Lawful q → q.solid ≡ true → Lawful (maybe q)
maybe_lawful {A} {q} l solid = record {
  got = λ ts rest o e.
      elim (chosen (sees q.begins ts) (and_then (q.at ts) some_then) (got_none ts) (Got o rest) e) [
        | inl w ↦
            let i = got_then (q.at ts) some_then o rest w.1 in
            let p = got_is (Some i.0) o rest i.1 i.3 in
            let g = l.got ts rest i.0 (i.2 ∙ ap (λ (x : List Seen). Got i.0 x) p.1) in
            (g.0, g.1, subst (λ (x : Option A). maybe_reads q.reads g.0 x) p.0 g.2)
        | inr w ↦
            let p = got_is None o rest ts w.1 in
            ([], p.1, subst (λ (x : Option A). maybe_reads q.reads [] x) p.0 refl)
      ];
  stuck = λ ts rest e.
      elim (chosen (sees q.begins ts) (and_then (q.at ts) some_then) (got_none ts) (Stuck rest) e) [
        | inl w ↦ elim (stuck_then (q.at ts) some_then rest w.1) [
          | inl v ↦ let s = l.stuck ts rest v in (s.0, s.1, (s.2.0, Some s.2.1, s.2.2))
          | inr v ↦ absurd (let h = v.3 in cc)
        ]
        | inr w ↦ absurd (let h = w.1 in cc)
      ];
  again = maybe_again q l solid;
  same_got = λ front back t rest other o e.
      let sight = sees-same q.begins front t rest other in
      elim (chosen (sees q.begins (front ++ t ∷ rest)) (and_then (q.at (front ++ t ∷ rest)) some_then) (got_none (front ++ t ∷ rest)) (Got o (back ++ t ∷ rest)) e) [
        | inl w ↦
            let i = got_then (q.at (front ++ t ∷ rest)) some_then o (back ++ t ∷ rest) w.1 in
            let p = got_is (Some i.0) o (back ++ t ∷ rest) i.1 i.3 in
            let g = l.same_got front back t rest other i.0 (i.2 ∙ ap (λ (x : List Seen). Got i.0 x) p.1) in
            let seen : sees q.begins (front ++ t ∷ other) ≡ true = sym sight ∙ w.0 in
            rw (seen, g) (ap (λ (x : Option A). Got x (back ++ t ∷ other)) p.0)
        | inr w ↦
            let p = got_is None o (back ++ t ∷ rest) (front ++ t ∷ rest) w.1 in
            let h : front ≡ back = append_cancel_right front back (t ∷ rest) p.1 in
            let unseen : sees q.begins (front ++ t ∷ other) ≡ false = sym sight ∙ w.0 in
            rw (unseen, h) (ap (λ (x : Option A). Got x (back ++ t ∷ other)) p.0)
      ];
  same_stuck = λ front back t rest other e.
      let sight = sees-same q.begins front t rest other in
      elim (chosen (sees q.begins (front ++ t ∷ rest)) (and_then (q.at (front ++ t ∷ rest)) some_then) (got_none (front ++ t ∷ rest)) (Stuck (back ++ t ∷ rest)) e) [
        | inl w ↦ elim (stuck_then (q.at (front ++ t ∷ rest)) some_then (back ++ t ∷ rest) w.1) [
          | inl v ↦
              let g = l.same_stuck front back t rest other v in
              let seen : sees q.begins (front ++ t ∷ other) ≡ true = sym sight ∙ w.0 in
              rw (seen, g) refl
          | inr v ↦ absurd (let h = v.3 in cc)
        ]
        | inr w ↦ absurd (let h = w.1 in cc)
      ];
  first = maybe_first q l;
  full = λ s o r. absurd cc;
  some = ([], None, refl);
}

-- ---- the one or the other

or_first : {A : Type 0} (p q : Rule A) → Lawful p → Lawful q → (t : Seen) (ts : List Seen) (a : A) → p.reads (t ∷ ts) a ⊎ q.reads (t ∷ ts) a → one_of (p.begins ++ q.begins) t.kind ≡ true
or_first p q lp lq t ts a (inl r) = one_of-left p.begins q.begins t.kind (lp.first t ts a r)
or_first p q lp lq t ts a (inr r) = one_of-right p.begins q.begins t.kind (lq.first t ts a r)

or_again : {A : Type 0} (p q : Rule A) → Lawful p → Lawful q → p.solid ≡ true → q.solid ≡ true → Apart p.begins q.begins → (front rest : List Seen) (a : A) → p.reads front a ⊎ q.reads front a → sees (p.on ++ q.on) rest ≡ false → (p or q).at (front ++ rest) ≡ Got a rest
or_again p q lp lq sp sq apart [] rest a (inl r) clear = absurd (lp.full sp a r)
or_again p q lp lq sp sq apart [] rest a (inr r) clear = absurd (lq.full sq a r)
or_again p q lp lq sp sq apart (t ∷ front) rest a (inl r) clear = rw (lp.first t front a r, lp.again (t ∷ front) rest a r (sees-left p.on q.on rest clear)) refl
or_again p q lp lq sp sq apart (t ∷ front) rest a (inr r) clear = rw (apart t.kind (lq.first t front a r), lq.again (t ∷ front) rest a r (sees-right p.on q.on rest clear)) refl

or_full : {A : Type 0} (p q : Rule A) → Lawful p → Lawful q → p.solid ≡ true → q.solid ≡ true → (a : A) → p.reads [] a ⊎ q.reads [] a → ⊥
or_full p q lp lq sp sq a (inl r) = lp.full sp a r
or_full p q lp lq sp sq a (inr r) = lq.full sq a r

pub or_lawful : {A : Type 0} {p q : Rule A} → Lawful p → Lawful q → p.solid ≡ true → q.solid ≡ true → apart_test p.begins q.begins ≡ true → Lawful (p or q)
or_lawful {A} {p} {q} lp lq sp sq is_apart = let apart = apart_all p.begins q.begins is_apart in record {
  got = λ ts rest a e.
      elim (chosen (sees p.begins ts) (p.at ts) (q.at ts) (Got a rest) e) [
        | inl w ↦ let g = lp.got ts rest a w.1 in (g.0, g.1, inl g.2)
        | inr w ↦ let g = lq.got ts rest a w.1 in (g.0, g.1, inr g.2)
      ];
  stuck = λ ts rest e.
      elim (chosen (sees p.begins ts) (p.at ts) (q.at ts) (Stuck rest) e) [
        | inl w ↦ let s = lp.stuck ts rest w.1 in (s.0, s.1, (s.2.0, s.2.1, inl s.2.2))
        | inr w ↦ let s = lq.stuck ts rest w.1 in (s.0, s.1, (s.2.0, s.2.1, inr s.2.2))
      ];
  again = or_again p q lp lq sp sq apart;
  same_got = λ front back t rest other a e.
      let sight = sees-same p.begins front t rest other in
      elim (chosen (sees p.begins (front ++ t ∷ rest)) (p.at (front ++ t ∷ rest)) (q.at (front ++ t ∷ rest)) (Got a (back ++ t ∷ rest)) e) [
        | inl w ↦
            let seen : sees p.begins (front ++ t ∷ other) ≡ true = sym sight ∙ w.0 in
            rw seen (lp.same_got front back t rest other a w.1)
        | inr w ↦
            let unseen : sees p.begins (front ++ t ∷ other) ≡ false = sym sight ∙ w.0 in
            rw unseen (lq.same_got front back t rest other a w.1)
      ];
  same_stuck = λ front back t rest other e.
      let sight = sees-same p.begins front t rest other in
      elim (chosen (sees p.begins (front ++ t ∷ rest)) (p.at (front ++ t ∷ rest)) (q.at (front ++ t ∷ rest)) (Stuck (back ++ t ∷ rest)) e) [
        | inl w ↦
            let seen : sees p.begins (front ++ t ∷ other) ≡ true = sym sight ∙ w.0 in
            rw seen (lp.same_stuck front back t rest other w.1)
        | inr w ↦
            let unseen : sees p.begins (front ++ t ∷ other) ≡ false = sym sight ∙ w.0 in
            rw unseen (lq.same_stuck front back t rest other w.1)
      ];
  first = or_first p q lp lq;
  full = λ s. or_full p q lp lq sp sq;
  some = (lp.some.0, lp.some.1, inl lp.some.2);
}

-- ---- none or more

abbrev more_then : {A : Type 0} → Rule A → ℕ → A → List Seen → Outcome (List A)
more_then q n a rest = and_then (many_at q n rest) (λ others end. Got (a ∷ others) end)

abbrev got_nil : {A : Type 0} → List Seen → Outcome (List A)
got_nil ts = Got [] ts

pub many_got : {A : Type 0} (q : Rule A) → Lawful q → (n : ℕ) (ts rest : List Seen) (all : List A) → many_at q n ts ≡ Got all rest → (front : List Seen) × (ts ≡ front ++ rest) × many_reads q.reads front all
many_got {A} q l zero ts rest all e =
    let p = got_is [] all rest ts e in
    ([], p.1, subst (λ (x : List A). many_reads q.reads [] x) p.0 refl)
many_got {A} q l (suc n) ts rest all e =
    elim (chosen (sees q.begins ts) (and_then (q.at ts) (more_then q n)) (got_nil ts) (Got all rest) e) [
      | inl w ↦
          let i = got_then (q.at ts) (more_then q n) all rest w.1 in
          let j = got_then (many_at q n i.1) (λ others end. Got (i.0 ∷ others) end) all rest i.3 in
          let p = got_is (i.0 ∷ j.0) all rest j.1 j.3 in
          let g = l.got ts i.1 i.0 i.2 in
          let h = many_got q l n i.1 rest j.0 (j.2 ∙ ap (λ (x : List Seen). Got j.0 x) p.1) in (
            g.0 ++ h.0,
            g.1 ∙ ap (λ (x : List Seen). g.0 ++ x) h.1 ∙ sym (append_assoc g.0 h.0 rest),
            subst (λ (x : List A). many_reads q.reads (g.0 ++ h.0) x) p.0 (g.0, h.0, refl, g.2, h.2),
          )
      | inr w ↦
          let p = got_is [] all rest ts w.1 in
          ([], p.1, subst (λ (x : List A). many_reads q.reads [] x) p.0 refl)
    ]

many_stuck : {A : Type 0} (q : Rule A) → Lawful q → (n : ℕ) (ts rest : List Seen) → many_at q n ts ≡ Stuck rest → (front : List Seen) × (ts ≡ front ++ rest) × ((more : List Seen) × (all : List A) × many_reads q.reads (front ++ more) all)
many_stuck {A} q l zero ts rest e = absurd cc
many_stuck {A} q l (suc n) ts rest e =
    elim (chosen (sees q.begins ts) (and_then (q.at ts) (more_then q n)) (got_nil ts) (Stuck rest) e) [
      | inl w ↦ elim (stuck_then (q.at ts) (more_then q n) rest w.1) [
        | inl v ↦
            let s = l.stuck ts rest v in
            (s.0, s.1, (s.2.0, s.2.1 ∷ [], (s.0 ++ s.2.0, [], sym (append-nil (s.0 ++ s.2.0)), s.2.2, refl)))
        | inr v ↦ elim (stuck_then (many_at q n v.1) (λ others end. Got (v.0 ∷ others) end) rest v.3) [
          | inl u ↦
              let g = l.got ts v.1 v.0 v.2 in
              let s = many_stuck q l n v.1 rest u in (
                g.0 ++ s.0,
                g.1 ∙ ap (λ (x : List Seen). g.0 ++ x) s.1 ∙ sym (append_assoc g.0 s.0 rest),
                (s.2.0, v.0 ∷ s.2.1, (g.0, s.0 ++ s.2.0, append_assoc g.0 s.0 s.2.0, g.2, s.2.2)),
              )
          | inr u ↦ absurd (let h = u.3 in cc)
        ]
      ]
      | inr w ↦ absurd (let h = w.1 in cc)
    ]

many_head : {A : Type 0} (q : Rule A) → Lawful q → q.solid ≡ true → (front : List Seen) (a : A) → q.reads front a → (ts : List Seen) → sees q.begins (front ++ ts) ≡ true
many_head q l solid [] a r ts = absurd (l.full solid a r)
many_head q l solid (t ∷ front) a r ts = l.first t front a r

many_first : {A : Type 0} (q : Rule A) → Lawful q → q.solid ≡ true → (t : Seen) (ts : List Seen) (all : List A) → many_reads q.reads (t ∷ ts) all → one_of q.begins t.kind ≡ true
many_first q l solid t ts [] r = absurd cc
many_first q l solid t ts (a ∷ others) r =
    let h = many_head q l solid r.0 a r.3 r.1 in
    subst (λ (x : List Seen). sees q.begins x ≡ true) (sym r.2) h

many_clear : {A : Type 0} (q : Rule A) → Lawful q → q.solid ≡ true → Apart q.on q.begins → (back rest : List Seen) (all : List A) → many_reads q.reads back all → sees (q.on ++ q.begins) rest ≡ false → sees q.on (back ++ rest) ≡ false
many_clear q l solid apart [] rest all r clear = sees-left q.on q.begins rest clear
many_clear q l solid apart (t ∷ back) rest all r clear = apart t.kind (many_first q l solid t back all r)

-- what has at least one token is longer than none
pub longer : {A : Type 0} (q : Rule A) → Lawful q → q.solid ≡ true → (front : List Seen) (a : A) → q.reads front a → 1 ≤ length front
longer q l solid [] a r = absurd (l.full solid a r)
longer q l solid (t ∷ front) a r = omega arith

many_none : {A : Type 0} (q : Rule A) (n : ℕ) (rest : List Seen) → sees q.begins rest ≡ false → many_at q n rest ≡ Got [] rest
many_none q zero rest clear = refl
many_none q (suc n) rest clear = rw clear refl

many_again : {A : Type 0} (q : Rule A) → Lawful q → q.solid ≡ true → Apart q.on q.begins → (n : ℕ) (front rest : List Seen) (all : List A) → length front ≤ n → many_reads q.reads front all → sees (q.on ++ q.begins) rest ≡ false → many_at q n (front ++ rest) ≡ Got all rest
many_again q l solid apart n front rest [] le r clear =
    ap (λ (x : List Seen). many_at q n (x ++ rest)) r ∙ many_none q n rest (sees-right q.on q.begins rest clear)
many_again q l solid apart zero front rest (a ∷ others) le r clear =
    absurd (omega (arith, longer q l solid r.0 a r.3, ap length r.2, length-append r.0 r.1))
many_again q l solid apart (suc n) front rest (a ∷ others) le r clear =
    let e : front ++ rest ≡ r.0 ++ (r.1 ++ rest) = ap (λ (x : List Seen). x ++ rest) r.2 ∙ append_assoc r.0 r.1 rest in
    let short : length r.1 ≤ n = omega (arith, longer q l solid r.0 a r.3, ap length r.2, length-append r.0 r.1) in
    let head = many_head q l solid r.0 a r.3 (r.1 ++ rest) in
    let first = l.again r.0 (r.1 ++ rest) a r.3 (many_clear q l solid apart r.1 rest others r.4 clear) in
    let last = many_again q l solid apart n r.1 rest others short r.4 clear in
    ap (many_at q (suc n)) e ∙ rw (head, first, last) refl

pub no_room : (front : List Seen) (t : Seen) (rest : List Seen) → length (front ++ t ∷ rest) ≤ 0 → ⊥
no_room front t rest le = omega (arith, length-append front (t ∷ rest))

-- how much is left behind one that is read
pub room : (ts front mid part back : List Seen) (t : Seen) (rest other : List Seen) (start : List Seen) (n m : ℕ) → ts ≡ start ++ t ∷ rest → ts ≡ front ++ mid → mid ≡ (part ++ back) ++ t ∷ rest → 1 ≤ length front
    → length ts ≤ suc n → length (start ++ t ∷ other) ≤ suc m → (length ((part ++ back) ++ t ∷ rest) ≤ n) × (length ((part ++ back) ++ t ∷ other) ≤ m)
room ts front mid part back t rest other start n m whole parts mid_is one le le' =
    let a = length-append front mid in
    let b = length-append start (t ∷ rest) in
    let c = length-append start (t ∷ other) in
    let d = length-append (part ++ back) (t ∷ rest) in
    let f = length-append (part ++ back) (t ∷ other) in
    let g = ap length whole in
    let h = ap length parts in
    let i = ap length mid_is in
    (omega arith, omega arith)

many_same_got : {A : Type 0} (q : Rule A) → Lawful q → q.solid ≡ true → (n m : ℕ) (front back : List Seen) (t : Seen) (rest other : List Seen) (all : List A) → length (front ++ t ∷ rest) ≤ n → length (front ++ t ∷ other) ≤ m
    → many_at q n (front ++ t ∷ rest) ≡ Got all (back ++ t ∷ rest) → many_at q m (front ++ t ∷ other) ≡ Got all (back ++ t ∷ other)
many_same_got q l solid zero m front back t rest other all le le' e = absurd (no_room front t rest le)
many_same_got q l solid (suc n) zero front back t rest other all le le' e = absurd (no_room front t other le')
many_same_got {A} q l solid (suc n) (suc m) front back t rest other all le le' e =
    let sight = sees-same q.begins front t rest other in
    elim (chosen (sees q.begins (front ++ t ∷ rest)) (and_then (q.at (front ++ t ∷ rest)) (more_then q n)) (got_nil (front ++ t ∷ rest)) (Got all (back ++ t ∷ rest)) e) [
      | inl w ↦
          let i = got_then (q.at (front ++ t ∷ rest)) (more_then q n) all (back ++ t ∷ rest) w.1 in
          let j = got_then (many_at q n i.1) (λ others end. Got (i.0 ∷ others) end) all (back ++ t ∷ rest) i.3 in
          let p = got_is (i.0 ∷ j.0) all (back ++ t ∷ rest) j.1 j.3 in
          let read = j.2 ∙ ap (λ (x : List Seen). Got j.0 x) p.1 in
          let g = l.got (front ++ t ∷ rest) i.1 i.0 i.2 in
          let h = many_got q l n i.1 (back ++ t ∷ rest) j.0 read in
          let mid : i.1 ≡ (h.0 ++ back) ++ t ∷ rest = h.1 ∙ sym (append_assoc h.0 back (t ∷ rest)) in
          let fits = room (front ++ t ∷ rest) g.0 i.1 h.0 back t rest other front n m refl g.1 mid (longer q l solid g.0 i.0 g.2) le le' in
          let first = l.same_got front (h.0 ++ back) t rest other i.0 (i.2 ∙ ap (λ (x : List Seen). Got i.0 x) mid) in
          let last = many_same_got q l solid n m (h.0 ++ back) back t rest other j.0 fits.0 fits.1 (ap (many_at q n) (sym mid) ∙ read) in
          let seen : sees q.begins (front ++ t ∷ other) ≡ true = sym sight ∙ w.0 in
          rw (seen, first, last) (ap (λ (x : List A). Got x (back ++ t ∷ other)) p.0)
      | inr w ↦
          let p = got_is [] all (back ++ t ∷ rest) (front ++ t ∷ rest) w.1 in
          let h : front ≡ back = append_cancel_right front back (t ∷ rest) p.1 in
          let unseen : sees q.begins (front ++ t ∷ other) ≡ false = sym sight ∙ w.0 in
          rw (unseen, h) (ap (λ (x : List A). Got x (back ++ t ∷ other)) p.0)
    ]

many_same_stuck : {A : Type 0} (q : Rule A) → Lawful q → q.solid ≡ true → (n m : ℕ) (front back : List Seen) (t : Seen) (rest other : List Seen) → length (front ++ t ∷ rest) ≤ n → length (front ++ t ∷ other) ≤ m
    → many_at q n (front ++ t ∷ rest) ≡ Stuck (back ++ t ∷ rest) → many_at q m (front ++ t ∷ other) ≡ Stuck (back ++ t ∷ other)
many_same_stuck q l solid zero m front back t rest other le le' e = absurd (no_room front t rest le)
many_same_stuck q l solid (suc n) zero front back t rest other le le' e = absurd (no_room front t other le')
many_same_stuck {A} q l solid (suc n) (suc m) front back t rest other le le' e =
    let sight = sees-same q.begins front t rest other in
    elim (chosen (sees q.begins (front ++ t ∷ rest)) (and_then (q.at (front ++ t ∷ rest)) (more_then q n)) (got_nil (front ++ t ∷ rest)) (Stuck (back ++ t ∷ rest)) e) [
      | inl w ↦
          let seen : sees q.begins (front ++ t ∷ other) ≡ true = sym sight ∙ w.0 in
          elim (stuck_then (q.at (front ++ t ∷ rest)) (more_then q n) (back ++ t ∷ rest) w.1) [
            | inl v ↦ rw (seen, l.same_stuck front back t rest other v) refl
            | inr v ↦ elim (stuck_then (many_at q n v.1) (λ others end. Got (v.0 ∷ others) end) (back ++ t ∷ rest) v.3) [
              | inl u ↦
                  let g = l.got (front ++ t ∷ rest) v.1 v.0 v.2 in
                  let h = many_stuck q l n v.1 (back ++ t ∷ rest) u in
                  let mid : v.1 ≡ (h.0 ++ back) ++ t ∷ rest = h.1 ∙ sym (append_assoc h.0 back (t ∷ rest)) in
                  let fits = room (front ++ t ∷ rest) g.0 v.1 h.0 back t rest other front n m refl g.1 mid (longer q l solid g.0 v.0 g.2) le le' in
                  let first = l.same_got front (h.0 ++ back) t rest other v.0 (v.2 ∙ ap (λ (x : List Seen). Got v.0 x) mid) in
                  let last = many_same_stuck q l solid n m (h.0 ++ back) back t rest other fits.0 fits.1 (ap (many_at q n) (sym mid) ∙ u) in
                  rw (seen, first, last) refl
              | inr u ↦ absurd (let h = u.3 in cc)
            ]
          ]
      | inr w ↦ absurd (let h = w.1 in cc)
    ]

pub many_lawful : {A : Type 0} {q : Rule A} → Lawful q → q.solid ≡ true → apart_test q.on q.begins ≡ true → Lawful (many q)
many_lawful {A} {q} l solid is_apart = let apart = apart_all q.on q.begins is_apart in record {
  got = λ ts rest all e. many_got q l (length ts) ts rest all e;
  stuck = λ ts rest e. many_stuck q l (length ts) ts rest e;
  again = λ front rest all r clear. many_again q l solid apart (length (front ++ rest)) front rest all (omega (arith, length-append front rest)) r clear;
  same_got = λ front back t rest other all e. many_same_got q l solid (length (front ++ t ∷ rest)) (length (front ++ t ∷ other)) front back t rest other all (omega arith) (omega arith) e;
  same_stuck = λ front back t rest other e. many_same_stuck q l solid (length (front ++ t ∷ rest)) (length (front ++ t ∷ other)) front back t rest other (omega arith) (omega arith) e;
  first = many_first q l solid;
  full = λ s all r. absurd cc;
  some = ([], [], refl);
}

-- ---- a rule behind which nothing nests

bounded_again : {A : Type 0} (opens : List Kind) (p : Rule A) → Lawful p → p.solid ≡ true → Apart opens p.begins → (front rest : List Seen) (a : A) → p.reads front a → sees p.on rest ≡ false → (bounded opens p).at (front ++ rest) ≡ Got a rest
bounded_again opens p l solid apart [] rest a r clear = absurd (l.full solid a r)
bounded_again opens p l solid apart (t ∷ front) rest a r clear = rw (apart t.kind (l.first t front a r), l.again (t ∷ front) rest a r clear) refl

abbrev deep : {A : Type 0} → Outcome A
deep = Deep

pub bounded_lawful : {A : Type 0} (opens : List Kind) {p : Rule A} → Lawful p → p.solid ≡ true → apart_test opens p.begins ≡ true → Lawful (bounded opens p)
bounded_lawful {A} opens {p} l solid is_apart = let apart = apart_all opens p.begins is_apart in record {
  got = λ ts rest a e.
      elim (chosen (sees opens ts) deep (p.at ts) (Got a rest) e) [
        | inl w ↦ absurd (let h = w.1 in cc)
        | inr w ↦ l.got ts rest a w.1
      ];
  stuck = λ ts rest e.
      elim (chosen (sees opens ts) deep (p.at ts) (Stuck rest) e) [
        | inl w ↦ absurd (let h = w.1 in cc)
        | inr w ↦ l.stuck ts rest w.1
      ];
  again = bounded_again opens p l solid apart;
  same_got = λ front back t rest other a e.
      elim (chosen (sees opens (front ++ t ∷ rest)) deep (p.at (front ++ t ∷ rest)) (Got a (back ++ t ∷ rest)) e) [
        | inl w ↦ absurd (let h = w.1 in cc)
        | inr w ↦
            let unseen : sees opens (front ++ t ∷ other) ≡ false = sym (sees-same opens front t rest other) ∙ w.0 in
            rw unseen (l.same_got front back t rest other a w.1)
      ];
  same_stuck = λ front back t rest other e.
      elim (chosen (sees opens (front ++ t ∷ rest)) deep (p.at (front ++ t ∷ rest)) (Stuck (back ++ t ∷ rest)) e) [
        | inl w ↦ absurd (let h = w.1 in cc)
        | inr w ↦
            let unseen : sees opens (front ++ t ∷ other) ≡ false = sym (sees-same opens front t rest other) ∙ w.0 in
            rw unseen (l.same_stuck front back t rest other w.1)
      ];
  first = λ t ts a r. one_of-right opens p.begins t.kind (l.first t ts a r);
  full = l.full;
  some = l.some;
}
