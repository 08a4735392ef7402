-- Rules with no bound are never too deep.
use Rattle.std.proofs.Common.{◌≡◌, ℕ, zero, suc, Bool, true, false, cond, List, [], ◌∷◌, length, Option, Some, None}
use Rattle.px_lex.specs.Lexemes.{Seen}
use Rattle.px_lex.specs.declared.kind.Kind.{Kind}
use Rattle.px_lex.specs.declared.kind.Kind.TheVariants as k
use Rattle.px_lex.specs.Kinds.{same_kind}
use Rattle.px_ast.specs.Rule.{sees, Outcome, Got, Stuck, Deep, and_then, Rule, token_at, token, made, ◌then◌, maybe, many_at, many, ◌or◌, word, second, ◌▹◌, ◌◃◌, first_of_two, cons, separated, means, is_present, presence_of, optional_list, optional, listing_at, listing, ended_list, one_item_more}
use Rattle.px_ast.specs.Grammar.{name, names, sign, number, literal, literals, operand, comparison, compared, null_predicate, among, between, in_or_between, ranged, predicate_end, predicate, direction, optional_direction, keypart, keyparts, column_type, nullness, inline_key, column, constraint, columns, if_not_exists, if_exists, create_table, drop_table, create_index, drop_index, index_action, alter_index, upsert, shown_names, row_limit}
use Rattle.px_statements.specs.inner.Skim.{closes, goes_on, skim_from, skim, skimmed, skimmed_filter, skimmed_delete, skimmed_select, skimmed_statement}

pub record IsCalm {A : Type 0} (r : Rule A) : Type 0 where
  pub never : (ts : List Seen) → r.at ts ≡ Deep → ⊥

calm_then : {A B : Type 0} (o : Outcome A) (f : A → List Seen → Outcome B) → (o ≡ Deep → ⊥) → ((a : A) (rest : List Seen) → f a rest ≡ Deep → ⊥) → and_then o f ≡ Deep → ⊥
calm_then (Got a rest) f h i e = i a rest e
calm_then (Stuck rest) f h i e = absurd cc
calm_then Deep f h i e = h cc

calm_if : {A : Type 0} (b : Bool) (x y : Outcome A) → (x ≡ Deep → ⊥) → (y ≡ Deep → ⊥) → cond b x y ≡ Deep → ⊥
calm_if true x y h i e = h e
calm_if false x y h i e = i e

calm_got : {A : Type 0} (a : A) (rest : List Seen) → Got a rest ≡ Deep → ⊥
calm_got a rest e = absurd cc

abbrev stuck_at : {A : Type 0} → List Seen → Outcome A
stuck_at rest = Stuck rest

calm_stuck : {A : Type 0} (rest : List Seen) → stuck_at {A = A} rest ≡ Deep → ⊥
calm_stuck rest e = absurd cc

token_never : (x : Kind) (ts : List Seen) → token_at x ts ≡ Deep → ⊥
token_never x [] = calm_stuck {A = Seen} []
token_never x (t ∷ ts) = calm_if (same_kind t.kind x) (Got t ts) (Stuck (t ∷ ts)) (calm_got t ts) (calm_stuck {A = Seen} (t ∷ ts))

token_calm : (x : Kind) → IsCalm (token x)
token_calm x = record { never = token_never x }

made_calm : {A B : Type 0} {r : Rule A} (f : A → B) → IsCalm r → IsCalm (made f r)
made_calm {A} {B} {r} f h = record { never = λ ts. calm_then (r.at ts) (λ a rest. Got (f a) rest) (h.never ts) (λ a rest. calm_got (f a) rest) }

then_calm : {A B : Type 0} {p : Rule A} {q : Rule B} → IsCalm p → IsCalm q → IsCalm (p then q)
then_calm {A} {B} {p} {q} h i = record { never = λ ts. calm_then (p.at ts) (λ a rest. and_then (q.at rest) (λ b end. Got (a, b) end)) (h.never ts) (λ a rest. calm_then (q.at rest) (λ b end. Got (a, b) end) (i.never rest) (λ b end. calm_got (a, b) end)) }

maybe_calm : {A : Type 0} {q : Rule A} → IsCalm q → IsCalm (maybe q)
maybe_calm {A} {q} h = record { never = λ ts. calm_if (sees q.begins ts) (and_then (q.at ts) (λ a rest. Got (Some a) rest)) (Got None ts) (calm_then (q.at ts) (λ a rest. Got (Some a) rest) (h.never ts) (λ a rest. calm_got (Some a) rest)) (calm_got None ts) }

many_never : {A : Type 0} (q : Rule A) → IsCalm q → (n : ℕ) (ts : List Seen) → many_at q n ts ≡ Deep → ⊥
many_never q h zero ts = calm_got [] ts
many_never q h (suc n) ts =
    calm_if (sees q.begins ts) (and_then (q.at ts) (λ a rest. and_then (many_at q n rest) (λ others end. Got (a ∷ others) end))) (Got [] ts)
    (calm_then (q.at ts) (λ a rest. and_then (many_at q n rest) (λ others end. Got (a ∷ others) end)) (h.never ts)
    (λ a rest. calm_then (many_at q n rest) (λ others end. Got (a ∷ others) end) (many_never q h n rest) (λ others end. calm_got (a ∷ others) end)))
    (calm_got [] ts)

many_calm : {A : Type 0} {q : Rule A} → IsCalm q → IsCalm (many q)
many_calm {A} {q} h = record { never = λ ts. many_never q h (length ts) ts }

or_calm : {A : Type 0} {p q : Rule A} → IsCalm p → IsCalm q → IsCalm (p or q)
or_calm {A} {p} {q} h i = record { never = λ ts. calm_if (sees p.begins ts) (p.at ts) (q.at ts) (h.never ts) (i.never ts) }

word_calm : (x : Kind) → IsCalm (word x)
word_calm x = made_calm _ (token_calm x)

means_calm : {A : Type 0} (x : Kind) (a : A) → IsCalm (means x a)
means_calm x a = made_calm _ (token_calm x)

intro_calm : {A : Type 0} {r : Rule A} (x : Kind) → IsCalm r → IsCalm (x ▹ r)
intro_calm x h = made_calm second (then_calm (word_calm x) h)

outro_calm : {A : Type 0} {r : Rule A} (x : Kind) → IsCalm r → IsCalm (r ◃ x)
outro_calm x h = made_calm first_of_two (then_calm h (word_calm x))

separated_calm : {A : Type 0} {r : Rule A} (x : Kind) → IsCalm r → IsCalm (separated x r)
separated_calm x h = made_calm cons (then_calm h (many_calm (intro_calm x h)))

written_calm : {A : Type 0} {r : Rule A} → IsCalm r → IsCalm (presence_of r)
written_calm h = made_calm is_present (maybe_calm h)

optional_calm : {A : Type 0} {r : Rule (List A)} → IsCalm r → IsCalm (optional r)
optional_calm h = made_calm optional_list (maybe_calm h)

abbrev last_one : {A B : Type 0} → Rule B → List Seen → Outcome (List A × Option B)
last_one r ts = and_then (r.at ts) ended_list

last_never : {A B : Type 0} (r : Rule B) → IsCalm r → (ts : List Seen) → last_one {A = A} r ts ≡ Deep → ⊥
last_never r h ts = calm_then (r.at ts) ended_list (h.never ts) (λ b rest. calm_got ([], Some b) rest)

listing_never : {A B : Type 0} (x : Kind) (q : Rule A) (r : Rule B) → IsCalm q → IsCalm r → (n : ℕ) (ts : List Seen) → listing_at x q r n ts ≡ Deep → ⊥
listing_never x q r h i zero ts = calm_got ([], None) ts
listing_never {A} {B} x q r h i (suc n) ts =
    calm_if (sees (x ∷ []) ts) _ _
    (calm_then ((word x).at ts) _ ((word_calm x).never ts) (λ u rest.
    calm_if (sees r.begins rest) (last_one r rest) _ (last_never r i rest)
    (calm_then (q.at rest) _ (h.never rest) (λ a others. calm_then (listing_at x q r n others) (one_item_more a) (listing_never x q r h i n others) (λ y end. calm_got (a ∷ y.0, y.1) end)))))
    (calm_if (sees r.begins ts) (last_one r ts) _ (last_never r i ts) (calm_got ([], None) ts))

listing_calm : {A B : Type 0} {q : Rule A} {r : Rule B} (x : Kind) → IsCalm q → IsCalm r → IsCalm (listing x q r)
listing_calm {A} {B} {q} {r} x h i = record { never = λ ts. listing_never x q r h i (length ts) ts }

-- ---- the grammar

name_calm : IsCalm name
unfolding name
name_calm = made_calm _ (token_calm k.Name)

names_calm : IsCalm names
unfolding names
names_calm = intro_calm k.OpenParen (outro_calm k.CloseParen (separated_calm k.Comma name_calm))

literal_calm : IsCalm literal
unfolding literal number sign
literal_calm =
    or_calm (made_calm _ (then_calm (maybe_calm (or_calm (made_calm _ (token_calm k.Plus)) (made_calm _ (token_calm k.Minus)))) (token_calm k.Number)))
    (or_calm (made_calm _ (token_calm k.Text))
    (or_calm (made_calm _ (token_calm k.True)) (or_calm (made_calm _ (token_calm k.False)) (made_calm _ (token_calm k.Null)))))

literals_calm : IsCalm literals
unfolding literals
literals_calm = intro_calm k.OpenParen (outro_calm k.CloseParen (separated_calm k.Comma literal_calm))

operand_calm : IsCalm operand
unfolding operand
operand_calm = or_calm (made_calm _ (token_calm k.Name)) (made_calm _ literal_calm)

comparison_calm : IsCalm comparison
unfolding comparison
comparison_calm =
    or_calm (means_calm k.Equal _) (or_calm (means_calm k.NotEqual _) (or_calm (means_calm k.Less _) (or_calm (means_calm k.LessEqual _) (or_calm (means_calm k.Greater _) (means_calm k.GreaterEqual _)))))

predicate_calm : IsCalm (predicate 1)
unfolding predicate predicate_end compared null_predicate ranged in_or_between among between
predicate_calm =
    made_calm _ (then_calm operand_calm
    (or_calm (made_calm _ (then_calm comparison_calm operand_calm))
    (or_calm (intro_calm k.Is (made_calm _ (outro_calm k.Null (written_calm (word_calm k.Not)))))
    (made_calm _ (then_calm (written_calm (word_calm k.Not)) (or_calm (intro_calm k.In (made_calm _ literals_calm)) (intro_calm k.Between (made_calm _ (then_calm operand_calm (intro_calm k.And operand_calm))))))))))

closes_never : (inside : ℕ) (ts : List Seen) → closes inside ts ≡ Deep → ⊥
closes_never zero ts = calm_if (sees (k.And ∷ k.Or ∷ []) ts) (Got (Some zero) _) (Got None ts) (calm_got (Some zero) _) (calm_got None ts)
closes_never (suc inside) ts = calm_if (sees (k.And ∷ k.Or ∷ []) ts) (Got (Some (suc inside)) _) _ (calm_got (Some (suc inside)) _) (calm_then ((word k.CloseParen).at ts) (λ u rest. closes inside rest) ((word_calm k.CloseParen).never ts) (λ u rest. closes_never inside rest))

goes_never : (next : ℕ → List Seen → Outcome (Unit {0})) → ((n : ℕ) (ts : List Seen) → next n ts ≡ Deep → ⊥) → (o : Option ℕ) (ts : List Seen) → goes_on next o ts ≡ Deep → ⊥
goes_never next h None ts = calm_got tt ts
goes_never next h (Some n) ts = h n ts

skim_never : (n inside : ℕ) (ts : List Seen) → skim_from n inside ts ≡ Deep → ⊥
skim_never zero inside ts = calm_stuck {A = Unit {0}} ts
skim_never (suc n) inside ts =
    calm_if (sees (k.Not ∷ []) ts) _ _ (skim_never n inside _)
    (calm_if (sees (k.OpenParen ∷ []) ts) _ _ (skim_never n (suc inside) _)
    (calm_then ((predicate 1).at ts) (λ t rest. and_then (closes inside rest) (goes_on (skim_from n))) (predicate_calm.never ts)
    (λ t rest. calm_then (closes inside rest) (goes_on (skim_from n)) (closes_never inside rest) (goes_never (skim_from n) (skim_never n)))))

skimmed_calm : IsCalm skimmed
unfolding skim
skimmed_calm = record { never = λ ts. skim_never (length ts) 0 ts }

directed_calm : IsCalm optional_direction
unfolding optional_direction direction
directed_calm = made_calm _ (maybe_calm (or_calm (means_calm k.Asc _) (means_calm k.Desc _)))

keypart_calm : IsCalm keypart
unfolding keypart
keypart_calm = made_calm _ (then_calm name_calm directed_calm)

keyparts_calm : IsCalm keyparts
unfolding keyparts
keyparts_calm = intro_calm k.OpenParen (outro_calm k.CloseParen (separated_calm k.Comma keypart_calm))

column_type_calm : IsCalm column_type
unfolding column_type
column_type_calm =
    or_calm (means_calm k.Tinyint _) (or_calm (means_calm k.Smallint _) (or_calm (means_calm k.Integer _) (or_calm (means_calm k.Bigint _)
    (or_calm (means_calm k.UnsignedInt _) (or_calm (means_calm k.UnsignedLong _) (or_calm (means_calm k.Boolean _) (means_calm k.Varchar _)))))))

column_calm : IsCalm column
unfolding column nullness inline_key
column_calm =
    made_calm _ (then_calm name_calm (then_calm column_type_calm
    (then_calm (made_calm _ (maybe_calm (or_calm (intro_calm k.Not (means_calm k.Null _)) (means_calm k.Null _)))) (maybe_calm (intro_calm k.Primary (intro_calm k.Key directed_calm))))))

constraint_calm : IsCalm constraint
unfolding constraint
constraint_calm = made_calm _ (intro_calm k.Constraint (then_calm name_calm (intro_calm k.Primary (intro_calm k.Key keyparts_calm))))

columns_calm : IsCalm columns
unfolding columns
columns_calm = made_calm _ (then_calm column_calm (listing_calm k.Comma column_calm constraint_calm))

if_not_exists_calm : IsCalm if_not_exists
unfolding if_not_exists
if_not_exists_calm = written_calm (intro_calm k.If (intro_calm k.Not (word_calm k.Exists)))

if_exists_calm : IsCalm if_exists
unfolding if_exists
if_exists_calm = written_calm (intro_calm k.If (word_calm k.Exists))

create_table_calm : IsCalm create_table
unfolding create_table
create_table_calm =
    made_calm _ (intro_calm k.Table (then_calm if_not_exists_calm (then_calm name_calm
    (then_calm (intro_calm k.OpenParen (outro_calm k.CloseParen columns_calm)) (optional_calm (intro_calm k.Split (intro_calm k.On literals_calm)))))))

drop_table_calm : IsCalm drop_table
unfolding drop_table
drop_table_calm = made_calm _ (intro_calm k.Table (then_calm if_exists_calm name_calm))

create_index_calm : IsCalm create_index
unfolding create_index
create_index_calm =
    made_calm _ (intro_calm k.Index (then_calm if_not_exists_calm (then_calm name_calm
    (intro_calm k.On (then_calm name_calm (then_calm keyparts_calm (optional_calm (intro_calm k.Include names_calm))))))))

drop_index_calm : IsCalm drop_index
unfolding drop_index
drop_index_calm = made_calm _ (intro_calm k.Index (then_calm if_exists_calm (then_calm name_calm (intro_calm k.On name_calm))))

alter_index_calm : IsCalm alter_index
unfolding alter_index index_action
alter_index_calm =
    made_calm _ (intro_calm k.Index (then_calm name_calm (intro_calm k.On (then_calm name_calm (or_calm (means_calm k.Disable _) (means_calm k.Rebuild _))))))

upsert_calm : IsCalm upsert
unfolding upsert
upsert_calm =
    made_calm _ (intro_calm k.Upsert (intro_calm k.Into (then_calm name_calm (then_calm (maybe_calm names_calm) (then_calm (made_calm _ (token_calm k.Values)) literals_calm)))))

shown_calm : IsCalm shown_names
unfolding shown_names
shown_calm = or_calm (means_calm k.Star _) (made_calm _ (separated_calm k.Comma name_calm))

filter_calm : IsCalm skimmed_filter
filter_calm = maybe_calm (intro_calm k.Where skimmed_calm)

delete_calm : IsCalm skimmed_delete
unfolding skimmed_delete
delete_calm = made_calm _ (intro_calm k.Delete (intro_calm k.From (then_calm name_calm filter_calm)))

select_calm : IsCalm skimmed_select
unfolding skimmed_select row_limit
select_calm =
    made_calm _ (intro_calm k.Select (then_calm (maybe_calm (made_calm _ (token_calm k.Hint))) (then_calm shown_calm (intro_calm k.From (then_calm name_calm
    (then_calm filter_calm (then_calm (optional_calm (intro_calm k.Order (intro_calm k.By (separated_calm k.Comma keypart_calm)))) (maybe_calm (intro_calm k.Limit (made_calm _ (token_calm k.Number)))))))))))

pub skimmed_statement_calm : IsCalm skimmed_statement
unfolding skimmed_statement
skimmed_statement_calm =
    or_calm (made_calm _ (intro_calm k.Create (or_calm (made_calm _ create_table_calm) (made_calm _ create_index_calm))))
    (or_calm (made_calm _ (intro_calm k.Drop (or_calm (made_calm _ drop_table_calm) (made_calm _ drop_index_calm))))
    (or_calm (made_calm _ (intro_calm k.Alter (made_calm _ alter_index_calm)))
    (or_calm (made_calm _ upsert_calm)
    (or_calm delete_calm (or_calm (intro_calm k.Explain select_calm) select_calm)))))
