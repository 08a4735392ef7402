-- Skimming a condition ends where reading it does.
use Rattle.std.proofs.Common.{◌≡◌, ℕ, zero, suc, ◌+◌, ◌-◌, ◌≤◌, ◌<◌, Bool, true, false, cond, List, [], ◌∷◌, ◌++◌, length, drop, Option, Some, None, refl, sym, ap, ◌∙◌, arith, inl, inr}
use Rattle.std.proofs.lemmas.List.{length-append}
use Rattle.px_lex.specs.Lexemes.{Seen}
use Rattle.px_lex.specs.declared.kind.Kind.{Kind}
use Rattle.px_lex.specs.declared.kind.Kind.TheVariants as k
use Rattle.px_ast.specs.declared.condition.Condition.{Condition}
use Rattle.px_ast.specs.declared.condition.Condition.TheVariants as conditions
use Rattle.px_ast.specs.declared.condition.Predicate.{Predicate}
use Rattle.px_lex.specs.Kinds.{same_kind}
use Rattle.px_ast.specs.Rule.{cons, sees, Outcome, Got, Stuck, Deep, and_then, Rule, token, token_at, made, many_at, word, ◌▹◌, first_of_two}
use Rattle.px_ast.specs.Grammar.{operand, name, literal, number, sign, ranged, in_or_between, predicate_end, predicate, conjunction, disjunction, part, condition}
use Rattle.px_statements.specs.inner.Skim.{passed, closes, goes_on, skim_from, skim, ended}
use Rattle.px_statements.proofs.Laws.{Lawful, token_lawful, many_got, chosen, got_then, got_is}
use Rattle.px_statements.proofs.Words.{intro_lawful}
use Rattle.px_statements.proofs.GrammarLaws.{predicate_lawful, IsPart, is_part, predicate_solid, conjunction_lawful}

-- the same of what was read
pub then_same : {A B : Type 0} (o : Outcome A) (f g : A → List Seen → Outcome B) → ((a : A) (rest : List Seen) → o ≡ Got a rest → f a rest ≡ g a rest) → and_then o f ≡ and_then o g
then_same (Got a rest) f g h = h a rest refl
then_same (Stuck rest) f g h = refl
then_same Deep f g h = refl

pub then_then : {A B C : Type 0} (o : Outcome A) (f : A → List Seen → Outcome B) (g : B → List Seen → Outcome C) → and_then (and_then o f) g ≡ and_then o (λ a rest. and_then (f a rest) g)
then_then (Got a rest) f g = refl
then_then (Stuck rest) f g = refl
then_then Deep f g = refl

-- what is read leaves fewer tokens, if it has any
shorter : {A : Type 0} (r : Rule A) → Lawful r → r.solid ≡ true → (ts rest : List Seen) (a : A) → r.at ts ≡ Got a rest → length rest < length ts
shorter r l solid ts rest a e =
    let g = l.got ts rest a e in
    by_front g.0 g.1 g.2
  where
    by_front : (front : List Seen) → ts ≡ front ++ rest → r.reads front a → length rest < length ts
    by_front [] h reads = absurd (l.full solid a reads)
    by_front (t ∷ front) h reads = omega (arith, ap length h, length-append front rest)

pub no_longer : {A : Type 0} (r : Rule A) → Lawful r → (ts rest : List Seen) (a : A) → r.at ts ≡ Got a rest → length rest ≤ length ts
no_longer r l ts rest a e = let g = l.got ts rest a e in omega (arith, ap length g.1, length-append g.0 rest)

-- ---- bounds that are large enough are one

many_bound : {A : Type 0} (q : Rule A) → Lawful q → q.solid ≡ true → (n m : ℕ) (ts : List Seen) → length ts ≤ n → length ts ≤ m → many_at q n ts ≡ many_at q m ts
many_bound q l solid zero zero ts le le' = refl
many_bound q l solid zero (suc m) [] le le' = refl
many_bound q l solid zero (suc m) (t ∷ ts) le le' = absurd (omega arith)
many_bound q l solid (suc n) zero [] le le' = refl
many_bound q l solid (suc n) zero (t ∷ ts) le le' = absurd (omega arith)
many_bound q l solid (suc n) (suc m) ts le le' =
    ap (λ o. cond (sees q.begins ts) o (Got [] ts))
    (then_same (q.at ts) _ _ (λ a rest e.
    let lt = shorter q l solid ts rest a e in
    ap (λ o. and_then o (λ others end. Got (a ∷ others) end)) (many_bound q l solid n m rest (omega arith) (omega arith))))

drop_short : (ts : List Seen) (ks : List Kind) → sees ks ts ≡ true → length (drop 1 ts) < length ts
drop_short [] ks h = absurd cc
drop_short (t ∷ ts) ks h = omega arith

abbrev unit_then : Seen → List Seen → Outcome (Unit {0})
unit_then a mid = Got tt mid

word_short : (x : Kind) (ts rest : List Seen) (u : Unit {0}) → (word x).at ts ≡ Got u rest → length rest < length ts
word_short x ts rest u e = let i = got_then (token_at x ts) unit_then u rest e in let p = got_is tt u rest i.1 i.3 in token_short x ts rest i.0 (i.2 ∙ ap (λ (r : List Seen). Got i.0 r) p.1)
  where
    token_short : (x : Kind) (ts rest : List Seen) (a : Seen) → token_at x ts ≡ Got a rest → length rest < length ts
    token_short x ts rest a e = shorter (token x) (token_lawful x) refl ts rest a e

closes_short : (inside : ℕ) (ts rest : List Seen) (o : Option ℕ) → closes inside ts ≡ Got o rest → length rest ≤ length ts
closes_short zero ts rest o e =
    elim (chosen (sees (k.And ∷ k.Or ∷ []) ts) (Got (Some zero) (drop 1 ts)) (Got None ts) (Got o rest) e) [
      | inl w ↦ let d = drop_short ts (k.And ∷ k.Or ∷ []) w.0 in let p = got_is (Some zero) o rest (drop 1 ts) w.1 in omega (arith, ap length p.1)
      | inr w ↦ let p = got_is None o rest ts w.1 in omega (arith, ap length p.1)
    ]
closes_short (suc inside) ts rest o e =
    elim (chosen (sees (k.And ∷ k.Or ∷ []) ts) (Got (Some (suc inside)) (drop 1 ts)) (and_then ((word k.CloseParen).at ts) (λ u r. closes inside r)) (Got o rest) e) [
      | inl w ↦ let d = drop_short ts (k.And ∷ k.Or ∷ []) w.0 in let p = got_is (Some (suc inside)) o rest (drop 1 ts) w.1 in omega (arith, ap length p.1)
      | inr w ↦
          let i = got_then ((word k.CloseParen).at ts) (λ u r. closes inside r) o rest w.1 in
          let a = word_short k.CloseParen ts i.1 i.0 i.2 in
          let b = closes_short inside i.1 rest o i.3 in
          omega arith
    ]

going_same : (f g : ℕ → List Seen → Outcome (Unit {0})) (o : Option ℕ) (ts : List Seen) → ((inside : ℕ) → f inside ts ≡ g inside ts) → goes_on f o ts ≡ goes_on g o ts
going_same f g None ts h = refl
going_same f g (Some inside) ts h = h inside

on_cond : {A : Type 0} (b : Bool) (x x' y y' : A) → (b ≡ true → x ≡ x') → (b ≡ false → y ≡ y') → cond b x y ≡ cond b x' y'
on_cond true x x' y y' h i = h refl
on_cond false x x' y y' h i = i refl

predicate_nil : (predicate 1).at [] ≡ Stuck []
unfolding predicate operand name literal number sign
predicate_nil = refl

skim_nil : (n inside : ℕ) → skim_from n inside [] ≡ Stuck []
skim_nil zero inside = refl
skim_nil (suc n) inside = rw predicate_nil refl

skim_bound : (n m inside : ℕ) (ts : List Seen) → length ts ≤ n → length ts ≤ m → skim_from n inside ts ≡ skim_from m inside ts
skim_bound n m inside [] le le' = skim_nil n inside ∙ sym (skim_nil m inside)
skim_bound zero m inside (t ∷ ts) le le' = absurd (omega arith)
skim_bound (suc n) zero inside (t ∷ ts) le le' = absurd (omega arith)
skim_bound (suc n) (suc m) inside (t ∷ ts) le le' =
    on_cond (sees (k.Not ∷ []) (t ∷ ts)) _ _ _ _
    (λ h. skim_bound n m inside ts (omega arith) (omega arith))
    (λ _. on_cond (sees (k.OpenParen ∷ []) (t ∷ ts)) _ _ _ _
    (λ h. skim_bound n m (suc inside) ts (omega arith) (omega arith))
    (λ _. then_same ((predicate 1).at (t ∷ ts)) _ _ (λ x rest e.
    let a = shorter (predicate 1) (predicate_lawful 1) (predicate_solid 1) (t ∷ ts) rest x e in
    then_same (closes inside rest) _ _ (λ o r e'.
    let b = closes_short inside rest r o e' in
    going_same (skim_from n) (skim_from m) o r (λ inner. skim_bound n m inner r (omega arith) (omega arith))))))

-- ---- skimming on from behind a predicate

pub onward : ℕ → List Seen → Outcome (Unit {0})
onward inside ts = and_then (closes inside ts) (goes_on skim)

-- where neither AND nor OR goes on
abbrev pub shut : ℕ → List Seen → Outcome (Unit {0})
shut zero ts = Got tt ts
shut (suc inside) ts = and_then ((word k.CloseParen).at ts) (λ u rest. onward inside rest)

onward_is : (inside : ℕ) (ts : List Seen) → onward inside ts ≡ cond (sees (k.And ∷ k.Or ∷ []) ts) (skim inside (drop 1 ts)) (shut inside ts)
unfolding onward
onward_is zero ts = by_test (sees (k.And ∷ k.Or ∷ []) ts)
  where
    by_test : (b : Bool) → and_then (cond b (Got (Some zero) (drop 1 ts)) (Got None ts)) (goes_on skim) ≡ cond b (skim zero (drop 1 ts)) (Got tt ts)
    by_test true = refl
    by_test false = refl
onward_is (suc inside) ts = by_test (sees (k.And ∷ k.Or ∷ []) ts)
  where
    by_test : (b : Bool) → and_then (cond b (Got (Some (suc inside)) (drop 1 ts)) (and_then ((word k.CloseParen).at ts) (λ u rest. closes inside rest))) (goes_on skim) ≡ cond b (skim (suc inside) (drop 1 ts)) (and_then ((word k.CloseParen).at ts) (λ u rest. and_then (closes inside rest) (goes_on skim)))
    by_test true = refl
    by_test false = then_then ((word k.CloseParen).at ts) (λ u rest. closes inside rest) (goes_on skim)

skim_predicate : (inside : ℕ) (ts : List Seen) → sees (k.Not ∷ []) ts ≡ false → sees (k.OpenParen ∷ []) ts ≡ false → skim inside ts ≡ and_then ((predicate 1).at ts) (λ t rest. onward inside rest)
unfolding skim onward
skim_predicate inside [] h i = rw predicate_nil refl
skim_predicate inside (t ∷ ts) h i =
    rw (h, i) (then_same ((predicate 1).at (t ∷ ts)) _ _ (λ x rest e.
    let a = shorter (predicate 1) (predicate_lawful 1) (predicate_solid 1) (t ∷ ts) rest x e in
    then_same (closes inside rest) _ _ (λ o r e'.
    let b = closes_short inside rest r o e' in
    going_same (skim_from (length ts)) (λ n us. skim_from (length us) n us) o r (λ inner. skim_bound (length ts) (length r) inner r (omega arith) (omega arith)))))

skim_not : (inside : ℕ) (t : Seen) (ts : List Seen) → same_kind t.kind k.Not ≡ true → skim inside (t ∷ ts) ≡ skim inside ts
unfolding skim
skim_not inside t ts h = rw h refl

skim_open : (inside : ℕ) (t : Seen) (ts : List Seen) → same_kind t.kind k.Not ≡ false → same_kind t.kind k.OpenParen ≡ true → skim inside (t ∷ ts) ≡ skim (suc inside) ts
unfolding skim
skim_open inside t ts h i = rw (h, i) refl

-- ---- skimming a whole condition

abbrev paired_with : {A B : Type 0} → A → B → List Seen → Outcome (A × B)
paired_with a b end = Got (a, b) end

abbrev seconds : {A B : Type 0} → A × B → List Seen → Outcome B
seconds x rest = Got x.1 rest

same_out : {A : Type 0} (o : Outcome A) → and_then (and_then o (paired_with {A = Unit {0}} tt)) seconds ≡ o
same_out (Got a rest) = refl
same_out (Stuck rest) = refl
same_out Deep = refl

intro_at : {A : Type 0} (x : Kind) (p : Rule A) (t : Seen) (ts : List Seen) → same_kind t.kind x ≡ true → (x ▹ p).at (t ∷ ts) ≡ p.at ts
intro_at x p t ts h = rw h (same_out (p.at ts))

abbrev mapped : {A B : Type 0} → (A → B) → A → List Seen → Outcome B
mapped f a rest = Got (f a) rest

flat_inner : {A B : Type 0} (f : List A → B) (a : A) (o : Outcome (List A)) (next : List Seen → Outcome (Unit {0}))
    → and_then (and_then (and_then (and_then o (paired_with a)) (mapped cons)) (mapped f)) (λ c rest. next rest) ≡ and_then o (λ others end. next end)
flat_inner f a (Got others end) next = refl
flat_inner f a (Stuck rest) next = refl
flat_inner f a Deep next = refl

-- a list that is read, and what comes behind it
flat : {A B : Type 0} (f : List A → B) (o : Outcome A) (g : List Seen → Outcome (List A)) (next : List Seen → Outcome (Unit {0}))
    → and_then (and_then (and_then (and_then o (λ a rest. and_then (g rest) (paired_with a))) (mapped cons)) (mapped f)) (λ c rest. next rest) ≡ and_then o (λ a rest. and_then (g rest) (λ others end. next end))
flat f (Got a rest) g next = flat_inner f a (g rest) next
flat f (Stuck rest) g next = refl
flat f Deep g next = refl

conjunction_then : (p : Rule Condition) (ts : List Seen) (next : List Seen → Outcome (Unit {0}))
    → and_then ((conjunction p).at ts) (λ c rest. next rest) ≡ and_then (p.at ts) (λ a rest. and_then (many_at (k.And ▹ p) (length rest) rest) (λ others end. next end))
unfolding conjunction
conjunction_then p ts next = flat _ (p.at ts) (λ rest. many_at (k.And ▹ p) (length rest) rest) next

disjunction_then : (p : Rule Condition) (ts : List Seen) (next : List Seen → Outcome (Unit {0}))
    → and_then ((disjunction p).at ts) (λ c rest. next rest) ≡ and_then ((conjunction p).at ts) (λ a rest. and_then (many_at (k.Or ▹ conjunction p) (length rest) rest) (λ others end. next end))
unfolding disjunction
disjunction_then p ts next = flat _ ((conjunction p).at ts) (λ rest. many_at (k.Or ▹ conjunction p) (length rest) rest) next

-- skimming from a part on is reading it and skimming onward, for no more tokens than this
abbrev pub Skims : Rule Condition → ℕ → Type 0
Skims p limit = (inside : ℕ) (ts : List Seen) → length ts ≤ limit → skim inside ts ≡ and_then (p.at ts) (λ c rest. onward inside rest)

abbrev shut_then : {A : Type 0} → ℕ → A → List Seen → Outcome (Unit {0})
shut_then inside a rest = shut inside rest

-- the rest of a condition: more parts, then more conjunctions, then its end
abbrev ending : Rule Condition → ℕ → ℕ → ℕ → List Seen → Outcome (Unit {0})
ending p n m inside ts = and_then (many_at (k.And ▹ p) n ts) (λ a rest. and_then (many_at (k.Or ▹ conjunction p) m rest) (shut_then inside))

many_at_nil : {A : Type 0} (q : Rule A) (n : ℕ) → many_at q n [] ≡ Got [] []
many_at_nil q zero = refl
many_at_nil q (suc n) = refl

more_then : {A : Type 0} (a : A) (o : Outcome (List A)) (next : List Seen → Outcome (Unit {0})) → and_then (and_then o (λ others end. Got (a ∷ others) end)) (λ all rest. next rest) ≡ and_then o (λ others end. next end)
more_then a (Got others end) next = refl
more_then a (Stuck rest) next = refl
more_then a Deep next = refl

onward_ends : (p : Rule Condition) → IsPart p → (limit : ℕ) → Skims p limit → (left n m inside : ℕ) (ts : List Seen) → length ts ≤ left → length ts ≤ n → length ts ≤ m → length ts ≤ limit → onward inside ts ≡ ending p n m inside ts
onward_ends p h limit skims left n m inside [] le ln lm ll =
    onward_is inside [] ∙ rw (many_at_nil (k.And ▹ p) n) (rw (many_at_nil (k.Or ▹ conjunction p) m) refl)
onward_ends p h limit skims zero n m inside (t ∷ ts) le ln lm ll = absurd (omega arith)
onward_ends p h limit skims (suc left) zero m inside (t ∷ ts) le ln lm ll = absurd (omega arith)
onward_ends p h limit skims (suc left) (suc n) zero inside (t ∷ ts) le ln lm ll = absurd (omega arith)
onward_ends p h limit skims (suc left) (suc n) (suc m) inside (t ∷ ts) le ln lm ll =
    onward_is inside (t ∷ ts) ∙ by_kind (same_kind t.kind k.And) (same_kind t.kind k.Or) refl refl (λ n' m' ts' a b c d. onward_ends p h limit skims left n' m' inside ts' a b c d)
  where
    by_kind : (a b : Bool) → same_kind t.kind k.And ≡ a → same_kind t.kind k.Or ≡ b
        → ((n' m' : ℕ) (ts' : List Seen) → length ts' ≤ left → length ts' ≤ n' → length ts' ≤ m' → length ts' ≤ limit → onward inside ts' ≡ ending p n' m' inside ts')
        → cond (cond a true (cond b true false)) (skim inside ts) (shut inside (t ∷ ts)) ≡ ending p (suc n) (suc m) inside (t ∷ ts)
    by_kind true b e f again =
        skims inside ts (omega arith)
        ∙ then_same (p.at ts) _ _ (λ c rest r.
        let s = shorter p h.lawful h.solid ts rest c r in
        again n (suc m) rest (omega arith) (omega arith) (omega arith) (omega arith)
        ∙ sym (more_then c (many_at (k.And ▹ p) n rest) (λ end. and_then (many_at (k.Or ▹ conjunction p) (suc m) end) (shut_then inside))))
        ∙ rw (e, same_out (p.at ts)) (sym (then_then (p.at ts) _ _))
    by_kind false true e f again =
        skims inside ts (omega arith)
        ∙ then_same (p.at ts) _ _ (λ c rest r.
        let s = shorter p h.lawful h.solid ts rest c r in
        again (length rest) m rest (omega arith) (omega arith) (omega arith) (omega arith))
        ∙ sym (conjunction_then p ts (λ rest. and_then (many_at (k.Or ▹ conjunction p) m rest) (shut_then inside)))
        ∙ then_same ((conjunction p).at ts) _ _ (λ c rest r. sym (more_then c (many_at (k.Or ▹ conjunction p) m rest) (shut inside)))
        ∙ rw (e, f, same_out ((conjunction p).at ts)) (sym (then_then ((conjunction p).at ts) _ _))
    by_kind false false e f again = rw (e, f) refl

condition_skims : (p : Rule Condition) → IsPart p → (limit : ℕ) → Skims p limit → (inside : ℕ) (ts : List Seen) → length ts ≤ limit → skim inside ts ≡ and_then ((disjunction p).at ts) (shut_then inside)
condition_skims p h limit skims inside ts le =
    skims inside ts le
    ∙ then_same (p.at ts) _ _ (λ c rest r.
    let s = shorter p h.lawful h.solid ts rest c r in
    onward_ends p h limit skims (length rest) (length rest) (length rest) inside rest (omega arith) (omega arith) (omega arith) (omega arith)
    ∙ then_same (many_at (k.And ▹ p) (length rest) rest) _ _ (λ a end e.
    ap (λ o. and_then o (shut_then inside)) (many_bound (k.Or ▹ conjunction p) (intro_lawful k.Or (conjunction_lawful p h)) refl (length rest) (length end) end (ended_short p h (length rest) rest end a e) (omega arith))))
    ∙ sym (conjunction_then p ts (λ rest. and_then (many_at (k.Or ▹ conjunction p) (length rest) rest) (shut_then inside)))
    ∙ sym (disjunction_then p ts (shut inside))
  where
    ended_short : (p : Rule Condition) → IsPart p → (n : ℕ) (ts rest : List Seen) (a : List Condition) → many_at (k.And ▹ p) n ts ≡ Got a rest → length rest ≤ length ts
    ended_short p h n ts rest a e = let g = many_got (k.And ▹ p) (intro_lawful k.And h.lawful) n ts rest a e in omega (arith, ap length g.1, length-append g.0 rest)

plain_part : (inside : ℕ) (ts : List Seen) (o : Outcome Predicate) → and_then o (λ t rest. onward inside rest) ≡ and_then (and_then o (mapped conditions.Predicate)) (λ c rest. onward inside rest)
plain_part inside ts (Got t rest) = refl
plain_part inside ts (Stuck rest) = refl
plain_part inside ts Deep = refl

not_part : (o : Outcome Condition) (next : List Seen → Outcome (Unit {0})) → and_then o (λ c rest. next rest) ≡ and_then (and_then (and_then (and_then o (paired_with {A = Unit {0}} tt)) seconds) (mapped conditions.Not)) (λ c rest. next rest)
not_part (Got c rest) next = refl
not_part (Stuck rest) next = refl
not_part Deep next = refl

shut_parens : (inside : ℕ) (c : Condition) (o : Outcome (Unit {0})) → and_then o (λ u rest. onward inside rest) ≡ and_then (and_then (and_then (and_then (and_then o (paired_with c)) (mapped first_of_two)) (paired_with {A = Unit {0}} tt)) seconds) (λ c rest. onward inside rest)
shut_parens inside c (Got u rest) = refl
shut_parens inside c (Stuck rest) = refl
shut_parens inside c Deep = refl

nested_part : (inside : ℕ) (o : Outcome Condition) → and_then o (shut_then (suc inside))
    ≡ and_then (and_then (and_then (and_then (and_then o (λ c rest. and_then ((word k.CloseParen).at rest) (paired_with c))) (mapped first_of_two)) (paired_with {A = Unit {0}} tt)) seconds) (λ c rest. onward inside rest)
nested_part inside (Got c rest) = shut_parens inside c ((word k.CloseParen).at rest)
nested_part inside (Stuck rest) = refl
nested_part inside Deep = refl

part_skims : (depth : ℕ) → Skims (part depth) depth
unfolding part predicate predicate_end ranged in_or_between operand name literal number sign
part_skims zero inside [] le = skim_predicate inside [] refl refl ∙ plain_part inside [] ((predicate 1).at [])
part_skims zero inside (t ∷ ts) le = absurd (omega arith)
part_skims (suc depth) inside [] le = skim_predicate inside [] refl refl ∙ plain_part inside [] ((predicate 1).at [])
part_skims (suc depth) inside (t ∷ ts) le = by_kind (same_kind t.kind k.Not) (same_kind t.kind k.OpenParen) refl refl (part_skims depth)
  where
    by_kind : (a b : Bool) → same_kind t.kind k.Not ≡ a → same_kind t.kind k.OpenParen ≡ b → Skims (part depth) depth
        → skim inside (t ∷ ts) ≡ and_then ((part (suc depth)).at (t ∷ ts)) (λ c rest. onward inside rest)
    by_kind true b e f skims =
        skim_not inside t ts e ∙ skims inside ts (omega arith) ∙ not_part ((part depth).at ts) (onward inside) ∙ rw e refl
    by_kind false true e f skims =
        skim_open inside t ts e f ∙ condition_skims (part depth) (is_part depth) depth skims (suc inside) ts (omega arith)
        ∙ nested_part inside ((disjunction (part depth)).at ts) ∙ rw (e, f) refl
    by_kind false false e f skims =
        skim_predicate inside (t ∷ ts) (rw e refl) (rw f refl) ∙ plain_part inside (t ∷ ts) ((predicate 1).at (t ∷ ts)) ∙ rw (e, f) refl

-- Skimming ends where reading with a bound that is no smaller than the number of tokens does.
pub skims : (depth : ℕ) (ts : List Seen) → length ts ≤ depth → skim 0 ts ≡ ended ((condition depth).at ts)
skims depth ts le = condition_skims (part depth) (is_part depth) depth (part_skims depth) 0 ts le

-- ---- skimming in a loop

pub turn_not : (end turn inside : ℕ) (ts : List Seen) (total : Outcome (Unit {0})) → turn < end → sees (k.Not ∷ []) ts ≡ true
    → skim_from (end - turn) inside ts ≡ total → skim_from (end - (turn + 1)) inside (drop 1 ts) ≡ total
turn_not end turn inside ts total lt h so_far =
    let n : end - turn ≡ suc (end - (turn + 1)) = omega arith in
    let one : skim_from (end - turn) inside ts ≡ skim_from (end - (turn + 1)) inside (drop 1 ts) = rw (n, h) refl in
    sym one ∙ so_far

pub turn_open : (end turn inside : ℕ) (ts : List Seen) (total : Outcome (Unit {0})) → turn < end → sees (k.Not ∷ []) ts ≡ false → sees (k.OpenParen ∷ []) ts ≡ true
    → skim_from (end - turn) inside ts ≡ total → skim_from (end - (turn + 1)) (inside + 1) (drop 1 ts) ≡ total
turn_open end turn inside ts total lt h i so_far =
    let n : end - turn ≡ suc (end - (turn + 1)) = omega arith in
    let m : inside + 1 ≡ suc inside = omega arith in
    let one : skim_from (end - turn) inside ts ≡ skim_from (end - (turn + 1)) (inside + 1) (drop 1 ts) = rw (n, h, i, m) refl in
    sym one ∙ so_far

pub turn_predicate : (end turn inside still : ℕ) (ts mid rest : List Seen) (u : Unit {0}) (total : Outcome (Unit {0})) → turn < end → sees (k.Not ∷ []) ts ≡ false → sees (k.OpenParen ∷ []) ts ≡ false
    → (made passed (predicate 1)).at ts ≡ Got u mid → closes inside mid ≡ Got (Some still) rest
    → skim_from (end - turn) inside ts ≡ total → skim_from (end - (turn + 1)) still rest ≡ total
turn_predicate end turn inside still ts mid rest u total lt h i e e' so_far =
    let n : end - turn ≡ suc (end - (turn + 1)) = omega arith in
    let g = got_then ((predicate 1).at ts) (mapped passed) u mid e in
    let p = got_is tt u mid g.1 g.3 in
    let read : (predicate 1).at ts ≡ Got g.0 mid = g.2 ∙ ap (λ (r : List Seen). Got g.0 r) p.1 in
    let one : skim_from (end - turn) inside ts ≡ skim_from (end - (turn + 1)) still rest = rw (n, h, i, read) (rw e' refl) in
    sym one ∙ so_far

pub closes_fewer : (inside still : ℕ) (ts rest : List Seen) → closes inside ts ≡ Got (Some still) rest → still ≤ inside
closes_fewer zero still ts rest e =
    elim (chosen (sees (k.And ∷ k.Or ∷ []) ts) (Got (Some zero) (drop 1 ts)) (Got None ts) (Got (Some still) rest) e) [
      | inl w ↦ let h : 0 ≡ still = let x = w.1 in cc in omega arith
      | inr w ↦ absurd (let x = w.1 in cc)
    ]
closes_fewer (suc inside) still ts rest e =
    elim (chosen (sees (k.And ∷ k.Or ∷ []) ts) (Got (Some (suc inside)) (drop 1 ts)) (and_then ((word k.CloseParen).at ts) (λ u r. closes inside r)) (Got (Some still) rest) e) [
      | inl w ↦ let h : suc inside ≡ still = let x = w.1 in cc in omega arith
      | inr w ↦
          let i = got_then ((word k.CloseParen).at ts) (λ u r. closes inside r) (Some still) rest w.1 in
          let b = closes_fewer inside still i.1 rest i.3 in
          omega arith
    ]
