-- A greater bound on what is open at once changes no reading that the smaller one allows.
use Rattle.std.proofs.Common.{◌≡◌, ℕ, zero, suc, ◌+◌, Bool, true, false, cond, List, [], ◌∷◌, length, refl, sym, ap, ◌∙◌, ◌⊎◌, inl, inr, arith, Some}
use Rattle.px_lex.specs.Lexemes.{Seen}
use Rattle.px_lex.specs.declared.kind.Kind.{Kind}
use Rattle.px_lex.specs.declared.kind.Kind.TheVariants as k
use Rattle.px_ast.specs.declared.condition.Condition.{Condition}
use Rattle.px_ast.specs.declared.condition.Condition.TheVariants as conditions
use Rattle.px_ast.specs.declared.statement.Statement.TheVariants as statements
use Rattle.px_lex.specs.Kinds.{same_kind}
use Rattle.px_ast.specs.Rule.{sees, Outcome, Got, Stuck, Deep, and_then, Rule, made, ◌then◌, maybe, many_at, many, ◌or◌, word, second, ◌▹◌, ◌◃◌, first_of_two, cons, separated, presence_of, optional, token}
use Rattle.px_statements.proofs.GrammarLaws.{part_solid}
use Rattle.px_ast.specs.Grammar.{text_of_token, name, operand, compared, null_predicate, among, between, in_or_between, ranged, predicate_end, predicate, conjunction, disjunction, part, filter, keypart, create_table, create_index, drop_table, drop_index, alter_index, upsert, delete, shown_names, row_limit, select, statement}

pub record Extends {A : Type 0} (p q : Rule A) : Type 0 where
  pub begins : p.begins ≡ q.begins
  pub reading : (ts : List Seen) → (p.at ts ≡ Deep) ⊎ (p.at ts ≡ q.at ts)

pub itself : {A : Type 0} (p : Rule A) → Extends p p
itself p = record { begins = refl; reading = λ ts. inr refl }

-- the same of what is read next
on_then : {A B : Type 0} (o o' : Outcome A) (f g : A → List Seen → Outcome B) → (o ≡ Deep) ⊎ (o ≡ o') → ((a : A) (rest : List Seen) → (f a rest ≡ Deep) ⊎ (f a rest ≡ g a rest)) → (and_then o f ≡ Deep) ⊎ (and_then o f ≡ and_then o' g)
on_then o o' f g (inl e) h = inl (rw e refl)
on_then (Got a rest) o' f g (inr e) h =
    elim (h a rest) [
      | inl w ↦ inl w
      | inr w ↦ inr (w ∙ ap (λ x. and_then x g) e)
    ]
on_then (Stuck rest) o' f g (inr e) h = inr (ap (λ x. and_then x g) e)
on_then Deep o' f g (inr e) h = inl refl

made_extends : {A B : Type 0} {p q : Rule A} (f : A → B) → Extends p q → Extends (made f p) (made f q)
made_extends {A} {B} {p} {q} f h = record {
  begins = h.begins;
  reading = λ ts. on_then (p.at ts) (q.at ts) (λ a rest. Got (f a) rest) (λ a rest. Got (f a) rest) (h.reading ts) (λ a rest. inr refl);
}

then_extends : {A B : Type 0} {p p' : Rule A} {q q' : Rule B} → Extends p p' → Extends q q' → p.solid ≡ p'.solid → Extends (p then q) (p' then q')
then_extends {A} {B} {p} {p'} {q} {q'} h i s = record {
  begins = rw (s, h.begins, i.begins) refl;
  reading = λ ts. on_then (p.at ts) (p'.at ts) (λ a rest. and_then (q.at rest) (λ b end. Got (a, b) end)) (λ a rest. and_then (q'.at rest) (λ b end. Got (a, b) end)) (h.reading ts)
      (λ a rest. on_then (q.at rest) (q'.at rest) (λ b end. Got (a, b) end) (λ b end. Got (a, b) end) (i.reading rest) (λ b end. inr refl));
}

on_cond : {A : Type 0} (b c : Bool) (x x' y y' : Outcome A) → b ≡ c → (x ≡ Deep) ⊎ (x ≡ x') → (y ≡ Deep) ⊎ (y ≡ y') → (cond b x y ≡ Deep) ⊎ (cond b x y ≡ cond c x' y')
on_cond true true x x' y y' e h i = h
on_cond true false x x' y y' e h i = absurd cc
on_cond false true x x' y y' e h i = absurd cc
on_cond false false x x' y y' e h i = i

seen_alike : {A : Type 0} {p q : Rule A} → Extends p q → (ts : List Seen) → sees p.begins ts ≡ sees q.begins ts
seen_alike h ts = ap (λ ks. sees ks ts) h.begins

maybe_extends : {A : Type 0} {p q : Rule A} → Extends p q → Extends (maybe p) (maybe q)
maybe_extends {A} {p} {q} h = record {
  begins = h.begins;
  reading = λ ts. on_cond (sees p.begins ts) (sees q.begins ts) _ _ _ _ (seen_alike h ts)
      (on_then (p.at ts) (q.at ts) (λ a rest. Got (Some a) rest) (λ a rest. Got (Some a) rest) (h.reading ts) (λ a rest. inr refl)) (inr refl);
}

many_at_extends : {A : Type 0} {p q : Rule A} → Extends p q → (n : ℕ) (ts : List Seen) → (many_at p n ts ≡ Deep) ⊎ (many_at p n ts ≡ many_at q n ts)
many_at_extends h zero ts = inr refl
many_at_extends {A} {p} {q} h (suc n) ts =
    on_cond (sees p.begins ts) (sees q.begins ts) _ _ _ _ (seen_alike h ts)
    (on_then (p.at ts) (q.at ts) (λ a rest. and_then (many_at p n rest) (λ others end. Got (a ∷ others) end)) (λ a rest. and_then (many_at q n rest) (λ others end. Got (a ∷ others) end)) (h.reading ts)
    (λ a rest. on_then (many_at p n rest) (many_at q n rest) (λ others end. Got (a ∷ others) end) (λ others end. Got (a ∷ others) end) (many_at_extends h n rest) (λ others end. inr refl)))
    (inr refl)

many_extends : {A : Type 0} {p q : Rule A} → Extends p q → Extends (many p) (many q)
many_extends h = record { begins = h.begins; reading = λ ts. many_at_extends h (length ts) ts }

or_extends : {A : Type 0} {p p' q q' : Rule A} → Extends p p' → Extends q q' → Extends (p or q) (p' or q')
or_extends {A} {p} {p'} {q} {q'} h i = record {
  begins = rw (h.begins, i.begins) refl;
  reading = λ ts. on_cond (sees p.begins ts) (sees p'.begins ts) _ _ _ _ (seen_alike h ts) (h.reading ts) (i.reading ts);
}

intro_extends : {A : Type 0} {p q : Rule A} (x : Kind) → Extends p q → Extends (x ▹ p) (x ▹ q)
intro_extends x h = made_extends second (then_extends (itself (word x)) h refl)

outro_extends : {A : Type 0} {p q : Rule A} (x : Kind) → Extends p q → p.solid ≡ q.solid → Extends (p ◃ x) (q ◃ x)
outro_extends x h s = made_extends first_of_two (then_extends h (itself (word x)) s)

separated_extends : {A : Type 0} {p q : Rule A} (x : Kind) → Extends p q → p.solid ≡ q.solid → Extends (separated x p) (separated x q)
separated_extends x h s = made_extends cons (then_extends h (many_extends (intro_extends x h)) s)

-- ---- the grammar

conjunction_extends : {p q : Rule Condition} → Extends p q → p.solid ≡ q.solid → Extends (conjunction p) (conjunction q)
unfolding conjunction
conjunction_extends h s = made_extends _ (separated_extends k.And h s)

conjunction_solid_alike : (p q : Rule Condition) → p.solid ≡ q.solid → (conjunction p).solid ≡ (conjunction q).solid
unfolding conjunction
conjunction_solid_alike p q s = rw s refl

disjunction_extends : {p q : Rule Condition} → Extends p q → p.solid ≡ q.solid → Extends (disjunction p) (disjunction q)
unfolding disjunction
disjunction_extends {p} {q} h s = made_extends _ (separated_extends k.Or (conjunction_extends h s) (conjunction_solid_alike p q s))

disjunction_solid_alike : (p q : Rule Condition) → p.solid ≡ q.solid → (disjunction p).solid ≡ (disjunction q).solid
unfolding disjunction conjunction
disjunction_solid_alike p q s = rw s refl

-- where IN may not stand, BETWEEN is read as ever
in_or_between_extends : (depth : ℕ) → Extends (in_or_between depth) (in_or_between (suc depth))
unfolding in_or_between among between
in_or_between_extends zero = record { begins = refl; reading = λ ts. by_test ts (sees (k.In ∷ []) ts) }
  where
    by_test : (ts : List Seen) (b : Bool) → (cond b Deep (between.at ts) ≡ Deep) ⊎ (cond b Deep (between.at ts) ≡ cond b (among.at ts) (between.at ts))
    by_test ts true = inl refl
    by_test ts false = inr refl
in_or_between_extends (suc depth) = itself _

predicate_extends : (depth : ℕ) → Extends (predicate depth) (predicate (suc depth))
unfolding predicate predicate_end ranged
predicate_extends depth =
    made_extends _ (then_extends (itself operand)
    (or_extends (itself compared) (or_extends (itself null_predicate) (made_extends _ (then_extends (itself (presence_of (word k.Not))) (in_or_between_extends depth) refl)))) refl)

-- where nothing nests, the two readings are the same
bounded_below : {A : Type 0} (x y z z' : Outcome A) (a b : Bool) → (z ≡ Deep) ⊎ (z ≡ z') → (cond (cond a true (cond b true false)) Deep z ≡ Deep) ⊎ (cond (cond a true (cond b true false)) Deep z ≡ cond a x (cond b y z'))
bounded_below x y z z' true b h = inl refl
bounded_below x y z z' false true h = inl refl
bounded_below x y z z' false false h = h

sees_two : (x y : Kind) (ts : List Seen) → sees (x ∷ y ∷ []) ts ≡ cond (sees (x ∷ []) ts) true (cond (sees (y ∷ []) ts) true false)
sees_two x y [] = refl
sees_two x y (t ∷ ts) = by_test (same_kind t.kind x) (same_kind t.kind y)
  where
    by_test : (a b : Bool) → cond a true (cond b true false) ≡ cond (cond a true false) true (cond (cond b true false) true false)
    by_test true b = refl
    by_test false true = refl
    by_test false false = refl

pub part_extends : (depth : ℕ) → Extends (part depth) (part (suc depth))
unfolding part
part_extends zero =
    let h = made_extends conditions.Predicate (predicate_extends zero) in
    record {
      begins = ap (λ (ks : List Kind). k.Not ∷ k.OpenParen ∷ ks) h.begins;
      reading = λ ts. rw (sees_two k.Not k.OpenParen ts) (bounded_below _ _ _ _ (sees (k.Not ∷ []) ts) (sees (k.OpenParen ∷ []) ts) (h.reading ts));
    }
part_extends (suc depth) =
    let h = part_extends depth in
    let s : (part depth).solid ≡ (part (suc depth)).solid = part_solid depth ∙ sym (part_solid (suc depth)) in
    or_extends (made_extends _ (intro_extends k.Not h))
    (or_extends (intro_extends k.OpenParen (outro_extends k.CloseParen (disjunction_extends h s) (disjunction_solid_alike (part depth) (part (suc depth)) s)))
    (made_extends conditions.Predicate (predicate_extends (suc depth))))

filter_extends : (depth : ℕ) → Extends (filter depth) (filter (suc depth))
filter_extends depth =
    maybe_extends (intro_extends k.Where (disjunction_extends (part_extends depth) (part_solid depth ∙ sym (part_solid (suc depth)))))

delete_extends : (depth : ℕ) → Extends (delete depth) (delete (suc depth))
unfolding delete
delete_extends depth =
    made_extends _ (intro_extends k.Delete (intro_extends k.From (then_extends (itself name) (filter_extends depth) refl)))

select_extends : (depth : ℕ) → Extends (select depth) (select (suc depth))
unfolding select
select_extends depth =
    let behind = then_extends (filter_extends depth) (itself (optional (k.Order ▹ k.By ▹ separated k.Comma keypart) then maybe row_limit)) refl in
    made_extends _ (intro_extends k.Select (then_extends (itself (maybe (made text_of_token (token k.Hint)))) (then_extends (itself shown_names) (intro_extends k.From (then_extends (itself name) behind refl)) refl) refl))

pub statement_extends : (depth : ℕ) → Extends (statement depth) (statement (suc depth))
unfolding statement
statement_extends depth =
    or_extends (itself (k.Create ▹ (made statements.CreateTable create_table or made statements.CreateIndex create_index)))
    (or_extends (itself (k.Drop ▹ (made statements.DropTable drop_table or made statements.DropIndex drop_index)))
    (or_extends (itself (k.Alter ▹ made statements.AlterIndex alter_index))
    (or_extends (itself (made statements.Upsert upsert))
    (or_extends (made_extends _ (delete_extends depth))
    (or_extends (made_extends _ (intro_extends k.Explain (select_extends depth))) (made_extends _ (select_extends depth)))))))

pub statement_grows : (more depth : ℕ) (ts : List Seen) → ((statement depth).at ts ≡ Deep) ⊎ ((statement depth).at ts ≡ (statement (more + depth)).at ts)
statement_grows zero depth ts = let e : 0 + depth ≡ depth = omega arith in inr (rw e refl)
statement_grows (suc more) depth ts =
    let e : suc more + depth ≡ suc (more + depth) = omega arith in
    elim (statement_grows more depth ts) [
      | inl w ↦ inl w
      | inr w ↦ elim ((statement_extends (more + depth)).reading ts) [
        | inl v ↦ inl (w ∙ v)
        | inr v ↦ inr (w ∙ v ∙ ap (λ (d : ℕ). (statement d).at ts) (sym e))
      ]
    ]
