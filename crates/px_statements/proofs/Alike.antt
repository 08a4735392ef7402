-- Skimming a statement ends where reading it does.
use Rattle.std.proofs.Common.{◌≡◌, ℕ, ◌≤◌, Bool, true, false, cond, List, length, Some, None, refl, sym, ap, ◌∙◌, arith}
use Rattle.px_lex.specs.Lexemes.{Seen}
use Rattle.px_lex.specs.declared.kind.Kind.{Kind}
use Rattle.px_lex.specs.declared.kind.Kind.TheVariants as k
use Rattle.px_ast.specs.declared.statement.Statement.TheVariants as statements
use Rattle.px_ast.specs.Rule.{sees, Outcome, Got, Stuck, Deep, and_then, Rule, made, ◌then◌, maybe, ◌or◌, word, second, ◌▹◌, separated, optional, token}
use Rattle.px_ast.specs.Grammar.{text_of_token, name, keypart, condition, filter, create_table, create_index, drop_table, drop_index, alter_index, upsert, delete, shown_names, row_limit, select, statement}
use Rattle.px_statements.specs.inner.Skim.{skim, ended, skimmed, passed, skimmed_filter, skimmed_delete, skimmed_select, skimmed_statement}
use Rattle.px_statements.proofs.Laws.{Lawful, token_lawful, made_lawful, maybe_lawful}
use Rattle.px_statements.proofs.Words.{word_lawful}
use Rattle.px_statements.proofs.GrammarLaws.{shown_lawful, name_lawful, filter_lawful}
use Rattle.px_statements.proofs.Skimming.{then_same, then_then, no_longer, skims}

-- both end at the same place, or are stuck at the same place, for no more tokens than this
pub record Alike {A B : Type 0} (p : Rule A) (q : Rule B) (limit : ℕ) : Type 0 where
  pub begins : p.begins ≡ q.begins
  pub ending : (ts : List Seen) → length ts ≤ limit → ended (p.at ts) ≡ ended (q.at ts)

itself : {A : Type 0} (p : Rule A) (limit : ℕ) → Alike p p limit
itself p limit = record { begins = refl; ending = λ ts le. refl }

ended_mapped : {A B : Type 0} (f : A → B) (o : Outcome A) → ended (and_then o (λ a rest. Got (f a) rest)) ≡ ended o
ended_mapped f (Got a rest) = refl
ended_mapped f (Stuck rest) = refl
ended_mapped f Deep = refl

pub ended_twice : (o : Outcome (Unit {0})) → ended o ≡ o
ended_twice (Got a rest) = refl
ended_twice (Stuck rest) = refl
ended_twice Deep = refl

-- what comes behind needs no value
ended_first : {A B : Type 0} (o : Outcome A) (next : List Seen → Outcome B) → and_then o (λ a rest. next rest) ≡ and_then (ended o) (λ a rest. next rest)
ended_first (Got a rest) next = refl
ended_first (Stuck rest) next = refl
ended_first Deep next = refl

ended_then : {A B : Type 0} (p : Rule A) (q : Rule B) (ts : List Seen) → ended ((p then q).at ts) ≡ and_then (ended (p.at ts)) (λ a rest. ended (q.at rest))
ended_then p q ts =
    then_then (p.at ts) _ _
    ∙ then_same (p.at ts) _ _ (λ a rest e. ended_mapped (λ b. (a, b)) (q.at rest))
    ∙ ended_first (p.at ts) (λ rest. ended (q.at rest))

was_got : {A : Type 0} (o : Outcome A) (u : Unit {0}) (rest : List Seen) → ended o ≡ Got u rest → (a : A) × (o ≡ Got a rest)
was_got (Got a mid) u rest e = (a, let h : mid ≡ rest = cc in ap (λ (r : List Seen). Got a r) h)
was_got (Stuck mid) u rest e = absurd cc
was_got Deep u rest e = absurd cc

made_alike : {A B C D : Type 0} {p : Rule A} {q : Rule B} (f : A → C) (g : B → D) (limit : ℕ) → Alike p q limit → Alike (made f p) (made g q) limit
made_alike {A} {B} {C} {D} {p} {q} f g limit h = record {
  begins = h.begins;
  ending = λ ts le. ended_mapped f (p.at ts) ∙ h.ending ts le ∙ sym (ended_mapped g (q.at ts));
}

then_alike : {A B C D : Type 0} {p : Rule A} {p' : Rule B} {q : Rule C} {q' : Rule D} (limit : ℕ) → Lawful p → p.solid ≡ p'.solid → Alike p p' limit → Alike q q' limit → Alike (p then q) (p' then q') limit
then_alike {A} {B} {C} {D} {p} {p'} {q} {q'} limit l s h i = record {
  begins = rw (s, h.begins, i.begins) refl;
  ending = λ ts le.
      ended_then p q ts
      ∙ then_same (ended (p.at ts)) _ _ (λ u rest e.
      let g = was_got (p.at ts) u rest e in
      let short = no_longer p l ts rest g.0 g.1 in
      i.ending rest (omega arith))
      ∙ ap (λ o. and_then o (λ a rest. ended (q'.at rest))) (h.ending ts le)
      ∙ sym (ended_then p' q' ts);
}

intro_alike : {A B : Type 0} {p : Rule A} {q : Rule B} (x : Kind) (limit : ℕ) → Alike p q limit → Alike (x ▹ p) (x ▹ q) limit
intro_alike x limit h = made_alike second second limit (then_alike limit (word_lawful x) refl (itself (word x) limit) h)

maybe_alike : {A B : Type 0} {p : Rule A} {q : Rule B} (limit : ℕ) → Alike p q limit → Alike (maybe p) (maybe q) limit
maybe_alike {A} {B} {p} {q} limit h = record {
  begins = h.begins;
  ending = λ ts le. by_test ts le (sees p.begins ts) (sees q.begins ts) (ap (λ ks. sees ks ts) h.begins);
}
  where
    by_test : (ts : List Seen) → length ts ≤ limit → (a b : Bool) → a ≡ b
        → ended (cond a (and_then (p.at ts) (λ x rest. Got (Some x) rest)) (Got None ts)) ≡ ended (cond b (and_then (q.at ts) (λ x rest. Got (Some x) rest)) (Got None ts))
    by_test ts le true true e = ended_mapped Some (p.at ts) ∙ h.ending ts le ∙ sym (ended_mapped Some (q.at ts))
    by_test ts le true false e = absurd cc
    by_test ts le false true e = absurd cc
    by_test ts le false false e = refl

or_alike : {A B : Type 0} {p q : Rule A} {p' q' : Rule B} (limit : ℕ) → Alike p p' limit → Alike q q' limit → Alike (p or q) (p' or q') limit
or_alike {A} {B} {p} {q} {p'} {q'} limit h i = record {
  begins = rw (h.begins, i.begins) refl;
  ending = λ ts le. by_test ts le (sees p.begins ts) (sees p'.begins ts) (ap (λ ks. sees ks ts) h.begins);
}
  where
    by_test : (ts : List Seen) → length ts ≤ limit → (a b : Bool) → a ≡ b → ended (cond a (p.at ts) (q.at ts)) ≡ ended (cond b (p'.at ts) (q'.at ts))
    by_test ts le true true e = h.ending ts le
    by_test ts le true false e = absurd cc
    by_test ts le false true e = absurd cc
    by_test ts le false false e = i.ending ts le

filter_alike : (limit : ℕ) → Alike (filter limit) skimmed_filter limit
filter_alike limit = record { begins = refl; ending = (maybe_alike limit inner).ending }
  where
    where_at : {A B : Type 0} (p : Rule A) (q : Rule B) → ((ts : List Seen) → length ts ≤ limit → ended (p.at ts) ≡ ended (q.at ts)) → (ts : List Seen) → length ts ≤ limit → ended ((k.Where ▹ p).at ts) ≡ ended ((k.Where ▹ q).at ts)
    where_at p q h ts le =
        ended_mapped second ((word k.Where then p).at ts) ∙ ended_then (word k.Where) p ts
        ∙ then_same (ended ((word k.Where).at ts)) _ _ (λ u rest e.
        let g = was_got ((word k.Where).at ts) u rest e in
        let short = no_longer (word k.Where) (word_lawful k.Where) ts rest g.0 g.1 in
        h rest (omega arith))
        ∙ sym (ended_then (word k.Where) q ts) ∙ sym (ended_mapped second ((word k.Where then q).at ts))

    inner : Alike (k.Where ▹ condition limit) (k.Where ▹ skimmed) limit
    inner = record { begins = refl; ending = where_at (condition limit) skimmed (λ ts le. sym (skims limit ts le) ∙ sym (ended_twice (skim 0 ts))) }

delete_alike : (limit : ℕ) → Alike (delete limit) skimmed_delete limit
unfolding delete skimmed_delete
delete_alike limit =
    made_alike _ passed limit (intro_alike k.Delete limit (intro_alike k.From limit (then_alike limit name_lawful refl (itself name limit) (filter_alike limit))))

select_alike : (limit : ℕ) → Alike (select limit) skimmed_select limit
unfolding select skimmed_select
select_alike limit =
    let behind = then_alike limit (filter_lawful limit) refl (filter_alike limit) (itself (optional (k.Order ▹ k.By ▹ separated k.Comma keypart) then maybe row_limit) limit) in
    made_alike _ passed limit (intro_alike k.Select limit
    (then_alike limit (maybe_lawful (made_lawful _ (token_lawful k.Hint)) refl) refl (itself (maybe (made text_of_token (token k.Hint))) limit)
    (then_alike limit shown_lawful refl (itself shown_names limit) (intro_alike k.From limit (then_alike limit name_lawful refl (itself name limit) behind)))))

-- without the value on the left, or on the right
left_alike : {A B C : Type 0} {p : Rule A} {q : Rule B} (f : A → C) (limit : ℕ) → Alike p q limit → Alike (made f p) q limit
left_alike {A} {B} {C} {p} {q} f limit h = record { begins = h.begins; ending = λ ts le. ended_mapped f (p.at ts) ∙ h.ending ts le }

right_alike : {A B : Type 0} (p : Rule A) (g : A → B) (limit : ℕ) → Alike p (made g p) limit
right_alike p g limit = record { begins = refl; ending = λ ts le. sym (ended_mapped g (p.at ts)) }

pub statement_alike : (limit : ℕ) → Alike (statement limit) skimmed_statement limit
unfolding statement skimmed_statement
statement_alike limit =
    or_alike limit (right_alike (k.Create ▹ (made statements.CreateTable create_table or made statements.CreateIndex create_index)) passed limit)
    (or_alike limit (right_alike (k.Drop ▹ (made statements.DropTable drop_table or made statements.DropIndex drop_index)) passed limit)
    (or_alike limit (right_alike (k.Alter ▹ made statements.AlterIndex alter_index) passed limit)
    (or_alike limit (made_alike statements.Upsert passed limit (itself upsert limit))
    (or_alike limit (left_alike statements.Delete limit (delete_alike limit))
    (or_alike limit (left_alike statements.Explain limit (intro_alike k.Explain limit (select_alike limit))) (left_alike statements.Select limit (select_alike limit)))))))
