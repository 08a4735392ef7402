-- Each rule of the grammar is lawful.
use Rattle.std.proofs.Common.{◌≡◌, ℕ, zero, suc, Bool, true, false, cond, List, [], ◌∷◌, refl}
use Rattle.px_lex.specs.declared.kind.Kind.{Kind}
use Rattle.px_lex.specs.declared.kind.Kind.TheVariants as k
use Rattle.px_lex.specs.Kinds.{same_kind}
use Rattle.px_ast.specs.declared.condition.Condition.{Condition}
use Rattle.px_ast.specs.Rule.{Rule, ◌◃◌}
use Rattle.px_ast.specs.Grammar.{name, names, sign, number, literal, literals, operand, comparison, compared, null_predicate, among, between, in_or_between, ranged, predicate_end, predicate, conjunction, disjunction, part, filter, direction, optional_direction, keypart, keyparts, column_type, nullness, inline_key, column, constraint, columns, if_not_exists, if_exists, create_table, drop_table, create_index, drop_index, index_action, alter_index, upsert, delete, shown_names, row_limit, select, statement}
use Rattle.px_statements.proofs.Laws.{Lawful, token_lawful, made_lawful, then_lawful, maybe_lawful, or_lawful, bounded_lawful}
use Rattle.px_statements.proofs.Words.{word_lawful, means_lawful, intro_lawful, outro_lawful, separated_lawful, written_lawful, optional_lawful}
use Rattle.px_statements.proofs.Listing.{listing_lawful}

-- ---- names and literals

pub name_lawful : Lawful name
unfolding name
name_lawful = made_lawful _ (token_lawful k.Name)

pub names_lawful : Lawful names
unfolding names name same_kind
names_lawful = intro_lawful k.OpenParen (outro_lawful k.CloseParen (separated_lawful k.Comma name_lawful refl refl) refl)

sign_lawful : Lawful sign
unfolding sign same_kind
sign_lawful = or_lawful (made_lawful _ (token_lawful k.Plus)) (made_lawful _ (token_lawful k.Minus)) refl refl refl

number_lawful : Lawful number
unfolding number sign same_kind
number_lawful = made_lawful _ (then_lawful (maybe_lawful sign_lawful refl) (token_lawful k.Number) refl)

pub literal_lawful : Lawful literal
unfolding literal number sign same_kind
literal_lawful =
    or_lawful number_lawful
    (or_lawful (made_lawful _ (token_lawful k.Text))
    (or_lawful (made_lawful _ (token_lawful k.True))
    (or_lawful (made_lawful _ (token_lawful k.False)) (made_lawful _ (token_lawful k.Null)) refl refl refl) refl refl refl) refl refl refl) refl refl refl

pub literals_lawful : Lawful literals
unfolding literals literal number sign same_kind
literals_lawful = intro_lawful k.OpenParen (outro_lawful k.CloseParen (separated_lawful k.Comma literal_lawful refl refl) refl)

-- ---- predicates

operand_lawful : Lawful operand
unfolding operand name literal number sign same_kind
operand_lawful = or_lawful (made_lawful _ (token_lawful k.Name)) (made_lawful _ literal_lawful) refl refl refl

comparison_lawful : Lawful comparison
unfolding comparison same_kind
comparison_lawful =
    or_lawful (means_lawful k.Equal _)
    (or_lawful (means_lawful k.NotEqual _)
    (or_lawful (means_lawful k.Less _)
    (or_lawful (means_lawful k.LessEqual _)
    (or_lawful (means_lawful k.Greater _) (means_lawful k.GreaterEqual _) refl refl refl) refl refl refl) refl refl refl) refl refl refl) refl refl refl

compared_lawful : Lawful compared
unfolding compared comparison operand name literal number sign same_kind
compared_lawful = made_lawful _ (then_lawful comparison_lawful operand_lawful refl)

is_null_lawful : Lawful null_predicate
unfolding null_predicate same_kind
is_null_lawful = intro_lawful k.Is (made_lawful _ (outro_lawful k.Null (written_lawful (word_lawful k.Not) refl) refl))

among_lawful : Lawful among
unfolding among
among_lawful = intro_lawful k.In (made_lawful _ literals_lawful)

between_lawful : Lawful between
unfolding between operand name literal number sign same_kind
between_lawful = intro_lawful k.Between (made_lawful _ (then_lawful operand_lawful (intro_lawful k.And operand_lawful) refl))

in_or_between_lawful : (depth : ℕ) → Lawful (in_or_between depth)
unfolding in_or_between among between literals operand name literal number sign same_kind
in_or_between_lawful zero = bounded_lawful (k.In ∷ []) between_lawful refl refl
in_or_between_lawful (suc depth) = or_lawful among_lawful between_lawful refl refl refl

ranged_lawful : (depth : ℕ) → Lawful (ranged depth)
unfolding ranged in_or_between among between literals operand name literal number sign same_kind
ranged_lawful zero = made_lawful _ (then_lawful (written_lawful (word_lawful k.Not) refl) (in_or_between_lawful zero) refl)
ranged_lawful (suc depth) = made_lawful _ (then_lawful (written_lawful (word_lawful k.Not) refl) (in_or_between_lawful (suc depth)) refl)

predicate_end_lawful : (depth : ℕ) → Lawful (predicate_end depth)
unfolding predicate_end compared comparison null_predicate ranged in_or_between among between literals operand name literal number sign same_kind
predicate_end_lawful zero = or_lawful compared_lawful (or_lawful is_null_lawful (ranged_lawful zero) refl refl refl) refl refl refl
predicate_end_lawful (suc depth) = or_lawful compared_lawful (or_lawful is_null_lawful (ranged_lawful (suc depth)) refl refl refl) refl refl refl

pub predicate_lawful : (depth : ℕ) → Lawful (predicate depth)
unfolding predicate predicate_end compared comparison null_predicate ranged in_or_between among between literals operand name literal number sign same_kind
predicate_lawful zero = made_lawful _ (then_lawful operand_lawful (predicate_end_lawful zero) refl)
predicate_lawful (suc depth) = made_lawful _ (then_lawful operand_lawful (predicate_end_lawful (suc depth)) refl)

pub predicate_solid : (depth : ℕ) → (predicate depth).solid ≡ true
unfolding predicate operand name literal number
predicate_solid depth = refl

-- ---- conditions

-- a part goes on with nothing, and has at least one token
pub record IsPart (p : Rule Condition) : Type 0 where
  pub lawful : Lawful p
  pub solid : p.solid ≡ true
  pub on : p.on ≡ []

conjunction_on : (p : Rule Condition) → IsPart p → (conjunction p).on ≡ k.And ∷ []
unfolding conjunction
conjunction_on p h = rw (h.solid, h.on) refl

pub conjunction_solid : (p : Rule Condition) → IsPart p → (conjunction p).solid ≡ true
unfolding conjunction
conjunction_solid p h = rw h.solid refl

pub conjunction_lawful : (p : Rule Condition) → IsPart p → Lawful (conjunction p)
unfolding conjunction same_kind
conjunction_lawful p h = made_lawful _ (separated_lawful k.And h.lawful (rw h.on refl) (rw (h.solid, h.on) refl))

pub disjunction_on : (p : Rule Condition) → IsPart p → (disjunction p).on ≡ k.And ∷ k.And ∷ k.Or ∷ []
unfolding disjunction
disjunction_on p h = rw (conjunction_solid p h, conjunction_on p h) refl

pub disjunction_solid : (p : Rule Condition) → IsPart p → (disjunction p).solid ≡ true
unfolding disjunction
disjunction_solid p h = rw (conjunction_solid p h) refl

pub disjunction_lawful : (p : Rule Condition) → IsPart p → Lawful (disjunction p)
unfolding disjunction same_kind
disjunction_lawful p h = made_lawful _ (separated_lawful k.Or (conjunction_lawful p h) (rw (conjunction_on p h) refl) (rw (conjunction_solid p h, conjunction_on p h) refl))

pub part_solid : (depth : ℕ) → (part depth).solid ≡ true
unfolding part predicate operand name literal number
part_solid zero = refl
part_solid (suc depth) = refl

both_nil : (b : Bool) → cond {A = List Kind} b [] [] ≡ []
both_nil true = refl
both_nil false = refl

part_on : (depth : ℕ) → (part depth).on ≡ []
unfolding part predicate predicate_end compared comparison null_predicate ranged in_or_between among between literals operand name literal number sign
part_on zero = refl
part_on (suc depth) = rw (part_solid depth, part_on depth) (rw both_nil refl)

part_lawful : (depth : ℕ) → Lawful (part depth)
unfolding part predicate predicate_end compared comparison null_predicate ranged in_or_between among between literals operand name literal number sign same_kind
part_lawful zero = bounded_lawful (k.Not ∷ k.OpenParen ∷ []) (made_lawful _ (predicate_lawful zero)) refl refl
part_lawful (suc depth) =
    let inner : IsPart (part depth) = record { lawful = part_lawful depth; solid = part_solid depth; on = part_on depth } in
    let nested : Lawful (disjunction (part depth) ◃ k.CloseParen) = outro_lawful k.CloseParen (disjunction_lawful (part depth) inner) (rw (disjunction_on (part depth) inner) refl) in
    or_lawful (made_lawful _ (intro_lawful k.Not (part_lawful depth)))
    (or_lawful (intro_lawful k.OpenParen nested) (made_lawful _ (predicate_lawful (suc depth))) refl refl refl) refl refl refl

pub is_part : (depth : ℕ) → IsPart (part depth)
is_part depth = record { lawful = part_lawful depth; solid = part_solid depth; on = part_on depth }

pub filter_lawful : (depth : ℕ) → Lawful (filter depth)
filter_lawful depth = maybe_lawful (intro_lawful k.Where (disjunction_lawful (part depth) (is_part depth))) refl

-- ---- definitions

directed_lawful : Lawful optional_direction
unfolding optional_direction direction same_kind
directed_lawful = made_lawful _ (maybe_lawful (or_lawful (means_lawful k.Asc _) (means_lawful k.Desc _) refl refl refl) refl)

keypart_lawful : Lawful keypart
unfolding keypart name optional_direction direction same_kind
keypart_lawful = made_lawful _ (then_lawful name_lawful directed_lawful refl)

keyparts_lawful : Lawful keyparts
unfolding keyparts keypart name optional_direction direction same_kind
keyparts_lawful = intro_lawful k.OpenParen (outro_lawful k.CloseParen (separated_lawful k.Comma keypart_lawful refl refl) refl)

column_type_lawful : Lawful column_type
unfolding column_type same_kind
column_type_lawful =
    or_lawful (means_lawful k.Tinyint _)
    (or_lawful (means_lawful k.Smallint _)
    (or_lawful (means_lawful k.Integer _)
    (or_lawful (means_lawful k.Bigint _)
    (or_lawful (means_lawful k.UnsignedInt _)
    (or_lawful (means_lawful k.UnsignedLong _)
    (or_lawful (means_lawful k.Boolean _) (means_lawful k.Varchar _) refl refl refl) refl refl refl) refl refl refl) refl refl refl) refl refl refl) refl refl refl) refl refl refl

nullness_lawful : Lawful nullness
unfolding nullness same_kind
nullness_lawful = made_lawful _ (maybe_lawful (or_lawful (intro_lawful k.Not (means_lawful k.Null _)) (means_lawful k.Null _) refl refl refl) refl)

inline_key_lawful : Lawful inline_key
unfolding inline_key optional_direction direction same_kind
inline_key_lawful = maybe_lawful (intro_lawful k.Primary (intro_lawful k.Key directed_lawful)) refl

column_lawful : Lawful column
unfolding column name column_type nullness inline_key optional_direction direction same_kind
column_lawful = made_lawful _ (then_lawful name_lawful (then_lawful column_type_lawful (then_lawful nullness_lawful inline_key_lawful refl) refl) refl)

constraint_lawful : Lawful constraint
unfolding constraint name same_kind
constraint_lawful = made_lawful _ (intro_lawful k.Constraint (then_lawful name_lawful (intro_lawful k.Primary (intro_lawful k.Key keyparts_lawful)) refl))

columns_lawful : Lawful columns
unfolding columns column name column_type nullness inline_key optional_direction direction constraint keyparts keypart same_kind
columns_lawful = made_lawful _ (then_lawful column_lawful (listing_lawful k.Comma column constraint column_lawful constraint_lawful refl refl refl refl refl) refl)

if_not_exists_lawful : Lawful if_not_exists
unfolding if_not_exists same_kind
if_not_exists_lawful = written_lawful (intro_lawful k.If (intro_lawful k.Not (word_lawful k.Exists))) refl

if_exists_lawful : Lawful if_exists
unfolding if_exists same_kind
if_exists_lawful = written_lawful (intro_lawful k.If (word_lawful k.Exists)) refl

create_table_lawful : Lawful create_table
unfolding create_table if_not_exists name columns column column_type nullness inline_key optional_direction direction constraint keyparts keypart literals literal number sign same_kind
create_table_lawful =
    made_lawful _ (intro_lawful k.Table (then_lawful if_not_exists_lawful (then_lawful name_lawful
    (then_lawful (intro_lawful k.OpenParen (outro_lawful k.CloseParen columns_lawful refl)) (optional_lawful (intro_lawful k.Split (intro_lawful k.On literals_lawful)) refl) refl) refl) refl))

drop_table_lawful : Lawful drop_table
unfolding drop_table if_exists name same_kind
drop_table_lawful = made_lawful _ (intro_lawful k.Table (then_lawful if_exists_lawful name_lawful refl))

create_index_lawful : Lawful create_index
unfolding create_index if_not_exists name keyparts keypart optional_direction direction names same_kind
create_index_lawful =
    made_lawful _ (intro_lawful k.Index (then_lawful if_not_exists_lawful (then_lawful name_lawful
    (intro_lawful k.On (then_lawful name_lawful (then_lawful keyparts_lawful (optional_lawful (intro_lawful k.Include names_lawful) refl) refl) refl)) refl) refl))

drop_index_lawful : Lawful drop_index
unfolding drop_index if_exists name same_kind
drop_index_lawful = made_lawful _ (intro_lawful k.Index (then_lawful if_exists_lawful (then_lawful name_lawful (intro_lawful k.On name_lawful) refl) refl))

index_action_lawful : Lawful index_action
unfolding index_action same_kind
index_action_lawful = or_lawful (means_lawful k.Disable _) (means_lawful k.Rebuild _) refl refl refl

alter_index_lawful : Lawful alter_index
unfolding alter_index index_action name same_kind
alter_index_lawful =
    made_lawful _ (intro_lawful k.Index (then_lawful name_lawful (intro_lawful k.On (then_lawful name_lawful index_action_lawful refl)) refl))

-- ---- statements

upsert_lawful : Lawful upsert
unfolding upsert name names literals same_kind
upsert_lawful =
    made_lawful _ (intro_lawful k.Upsert (intro_lawful k.Into
    (then_lawful name_lawful (then_lawful (maybe_lawful names_lawful refl) (then_lawful (made_lawful _ (token_lawful k.Values)) literals_lawful refl) refl) refl)))

pub delete_lawful : (depth : ℕ) → Lawful (delete depth)
unfolding delete name same_kind
delete_lawful depth = made_lawful _ (intro_lawful k.Delete (intro_lawful k.From (then_lawful name_lawful (filter_lawful depth) refl)))

pub shown_lawful : Lawful shown_names
unfolding shown_names name same_kind
shown_lawful = or_lawful (means_lawful k.Star _) (made_lawful _ (separated_lawful k.Comma name_lawful refl refl)) refl refl refl

row_limit_lawful : Lawful row_limit
unfolding row_limit
row_limit_lawful = intro_lawful k.Limit (made_lawful _ (token_lawful k.Number))

pub select_lawful : (depth : ℕ) → Lawful (select depth)
unfolding select shown_names name keypart optional_direction direction row_limit same_kind
select_lawful depth =
    let h = is_part depth in
    let order = optional_lawful (intro_lawful k.Order (intro_lawful k.By (separated_lawful k.Comma keypart_lawful refl refl))) refl in
    let last = then_lawful order (maybe_lawful row_limit_lawful refl) refl in
    let behind = then_lawful (filter_lawful depth) last (rw (disjunction_solid (part depth) h, disjunction_on (part depth) h) refl) in
    made_lawful _ (intro_lawful k.Select
    (then_lawful (maybe_lawful (made_lawful _ (token_lawful k.Hint)) refl) (then_lawful shown_lawful (intro_lawful k.From (then_lawful name_lawful behind refl)) refl) refl))

pub statement_lawful : (depth : ℕ) → Lawful (statement depth)
unfolding statement create_table create_index drop_table drop_index alter_index upsert delete select same_kind
statement_lawful depth =
    or_lawful (intro_lawful k.Create (or_lawful (made_lawful _ create_table_lawful) (made_lawful _ create_index_lawful) refl refl refl))
    (or_lawful (intro_lawful k.Drop (or_lawful (made_lawful _ drop_table_lawful) (made_lawful _ drop_index_lawful) refl refl refl))
    (or_lawful (intro_lawful k.Alter (made_lawful _ alter_index_lawful))
    (or_lawful (made_lawful _ upsert_lawful)
    (or_lawful (made_lawful _ (delete_lawful depth))
    (or_lawful (made_lawful _ (intro_lawful k.Explain (select_lawful depth))) (made_lawful _ (select_lawful depth)) refl refl refl) refl refl refl) refl refl refl) refl refl refl) refl refl refl) refl refl refl
