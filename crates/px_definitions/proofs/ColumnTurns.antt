-- Reading the columns of a table in a loop, one item in each turn.
use Rattle.std.proofs.Common.{◌≡◌, ℕ, suc, ◌+◌, ◌-◌, ◌≤◌, ◌<◌, Bool, true, false, cond, List, [], ◌∷◌, ◌++◌, length, Option, Some, None, refl, sym, ap, ◌∙◌, append_assoc, arith}
use Rattle.std.proofs.lemmas.List.{append-nil}
use Rattle.px_lex.specs.declared.kind.Kind.TheVariants as k
use Rattle.px_lex.specs.Lexemes.{Seen}
use Rattle.px_ast.specs.declared.definition.Column.{Column}
use Rattle.px_ast.specs.declared.definition.KeyConstraint.{KeyConstraint}
use Rattle.px_ast.specs.Rule.{sees, Outcome, Got, Stuck, Deep, and_then, word, ended_list, one_item_more, listing_at}
use Rattle.px_ast.specs.Grammar.{column, constraint, columns}
use Rattle.px_definitions.specs.declared.columns.Item.{Item}
use Rattle.px_definitions.specs.declared.columns.Item.TheVariants as items
use Rattle.px_words.specs.declared.fault.ReadFault.{ReadFault}
use Rattle.px_words.specs.declared.fault.ReadFault.TheVariants as faults
use Rattle.px_definitions.specs.inner.Columns.{a_column, a_constraint, behind_comma, item}
use Rattle.px_words.specs.Reading.{Fails}

abbrev pub Listed : Type 0
Listed = List Column × Option KeyConstraint

abbrev pub list_at : ℕ → List Seen → Outcome Listed
list_at n ts = listing_at k.Comma column constraint n ts

-- what comes behind an item
abbrev behind : ℕ → Item → List Seen → Outcome Listed
behind n (items.Column c) rest = and_then (list_at n rest) (one_item_more c)
behind n (items.Constraint c) rest = Got ([], Some c) rest
behind n items.Nothing rest = Got ([], None) rest

abbrev further : ℕ → Column → List Seen → Outcome Listed
further n c rest = and_then (list_at n rest) (one_item_more c)

last_is : (n : ℕ) (o : Outcome KeyConstraint) → and_then (and_then o (λ c rest. Got (items.Constraint c) rest)) (behind n) ≡ and_then o ended_list
last_is n (Got c rest) = refl
last_is n (Stuck rest) = refl
last_is n Deep = refl

more_is : (n : ℕ) (o : Outcome Column) → and_then (and_then o (λ c rest. Got (items.Column c) rest)) (behind n) ≡ and_then o (further n)
more_is n (Got c rest) = refl
more_is n (Stuck rest) = refl
more_is n Deep = refl

behind_is : (n : ℕ) (ts : List Seen) → and_then (behind_comma ts) (behind n) ≡ cond (sees constraint.begins ts) (and_then (constraint.at ts) ended_list) (and_then (column.at ts) (further n))
behind_is n ts = by_test (sees constraint.begins ts)
  where
    by_test : (b : Bool) → and_then (cond b (a_constraint ts) (a_column ts)) (behind n) ≡ cond b (and_then (constraint.at ts) ended_list) (and_then (column.at ts) (further n))
    by_test true = last_is n (constraint.at ts)
    by_test false = more_is n (column.at ts)

abbrev past_comma : ℕ → Unit {0} → List Seen → Outcome Listed
past_comma n u rest = cond (sees constraint.begins rest) (and_then (constraint.at rest) ended_list) (and_then (column.at rest) (further n))

comma_is : (n : ℕ) (o : Outcome (Unit {0})) → and_then (and_then o (λ u rest. behind_comma rest)) (behind n) ≡ and_then o (past_comma n)
comma_is n (Got u rest) = behind_is n rest
comma_is n (Stuck rest) = refl
comma_is n Deep = refl

by_item : (n : ℕ) (ts : List Seen) → list_at (suc n) ts ≡ and_then (item ts) (behind n)
by_item n ts = by_test (sees (k.Comma ∷ []) ts) (sees constraint.begins ts)
  where
    by_test : (b c : Bool) → cond b (and_then ((word k.Comma).at ts) (past_comma n)) (cond c (and_then (constraint.at ts) ended_list) (Got ([], None) ts))
        ≡ and_then (cond b (and_then ((word k.Comma).at ts) (λ u rest. behind_comma rest)) (cond c (a_constraint ts) (Got items.Nothing ts))) (behind n)
    by_test true c = sym (comma_is n ((word k.Comma).at ts))
    by_test false true = sym (last_is n (constraint.at ts))
    by_test false false = refl

-- the columns that were read before, and what is still read
abbrev pub with_columns : List Column → Outcome Listed → Outcome Listed
with_columns front o = and_then o (λ x end. Got (front ++ x.0, x.1) end)

regroup : (front : List Column) (c : Column) (o : Outcome Listed) → with_columns front (and_then o (one_item_more c)) ≡ with_columns (front ++ c ∷ []) o
regroup front c (Got x end) = ap (λ (cs : List Column). Got (cs, x.1) end) (sym (append_assoc front (c ∷ []) x.0))
regroup front c (Stuck rest) = refl
regroup front c Deep = refl

one_turn : (ts : List Seen) (end turn : ℕ) → turn < end → list_at (end - turn) ts ≡ and_then (item ts) (behind (end - (turn + 1)))
one_turn ts end turn lt =
    let n : end - turn ≡ suc (end - (turn + 1)) = omega arith in
    ap (λ (m : ℕ). list_at m ts) n ∙ by_item (end - (turn + 1)) ts

pub goes_on_column : (front : List Column) (c : Column) (ts rest : List Seen) (end turn : ℕ) (total : Outcome Listed) → turn < end → item ts ≡ Got (items.Column c) rest
    → with_columns front (list_at (end - turn) ts) ≡ total → with_columns (front ++ c ∷ []) (list_at (end - (turn + 1)) rest) ≡ total
goes_on_column front c ts rest end turn total lt read so_far =
    sym (regroup front c (list_at (end - (turn + 1)) rest))
    ∙ ap (λ (o : Outcome Item). with_columns front (and_then o (behind (end - (turn + 1))))) (sym read)
    ∙ ap (with_columns front) (sym (one_turn ts end turn lt)) ∙ so_far

pub ends_with_constraint : (front : List Column) (c : KeyConstraint) (ts rest : List Seen) (end turn : ℕ) (total : Outcome Listed) → turn < end → item ts ≡ Got (items.Constraint c) rest
    → with_columns front (list_at (end - turn) ts) ≡ total → total ≡ Got (front, Some c) rest
ends_with_constraint front c ts rest end turn total lt read so_far =
    sym so_far ∙ ap (with_columns front) (one_turn ts end turn lt)
    ∙ ap (λ (o : Outcome Item). with_columns front (and_then o (behind (end - (turn + 1))))) read
    ∙ ap (λ (cs : List Column). Got (cs, Some c) rest) (append-nil front)

pub ends_with_nothing : (front : List Column) (ts rest : List Seen) (end turn : ℕ) (total : Outcome Listed) → turn < end → item ts ≡ Got items.Nothing rest
    → with_columns front (list_at (end - turn) ts) ≡ total → total ≡ Got (front, None) rest
ends_with_nothing front ts rest end turn total lt read so_far =
    sym so_far ∙ ap (with_columns front) (one_turn ts end turn lt)
    ∙ ap (λ (o : Outcome Item). with_columns front (and_then o (behind (end - (turn + 1))))) read
    ∙ ap (λ (cs : List Column). Got (cs, None) rest) (append-nil front)

pub item_fails : (front : List Column) (ts new : List Seen) (end turn : ℕ) (total : Outcome Listed) (e : ReadFault) → turn < end → Fails (item ts) e new
    → with_columns front (list_at (end - turn) ts) ≡ total → Fails total e new
item_fails front ts new end turn total faults.Memory lt read so_far = tt
item_fails front ts new end turn total faults.TooDeep lt read so_far =
    sym so_far ∙ ap (with_columns front) (one_turn ts end turn lt) ∙ ap (λ (o : Outcome Item). with_columns front (and_then o (behind (end - (turn + 1))))) read
item_fails front ts new end turn total faults.Stuck lt read so_far =
    sym so_far ∙ ap (with_columns front) (one_turn ts end turn lt) ∙ ap (λ (o : Outcome Item). with_columns front (and_then o (behind (end - (turn + 1))))) read

pub columns_over : (front : List Column) (ts : List Seen) (end turn : ℕ) (total : Outcome Listed) → end ≤ turn → with_columns front (list_at (end - turn) ts) ≡ total → total ≡ Got (front, None) ts
columns_over front ts end turn total le so_far =
    let n : end - turn ≡ 0 = omega arith in
    sym so_far ∙ ap (λ (m : ℕ). with_columns front (list_at m ts)) n ∙ ap (λ (cs : List Column). Got (cs, None) ts) (append-nil front)

abbrev paired : Column → Listed → List Seen → Outcome (Column × Listed)
paired c x end = Got (c, x) end

abbrev columned : Column × Listed → List Seen → Outcome Listed
columned x rest = Got (x.0 ∷ x.1.0, x.1.1) rest

after_first : (c : Column) (o : Outcome Listed) → with_columns (c ∷ []) o ≡ and_then (and_then o (paired c)) columned
after_first c (Got x end) = refl
after_first c (Stuck rest) = refl
after_first c Deep = refl

pub begins_columns : (c : Column) (start ts : List Seen) → column.at start ≡ Got c ts → with_columns (c ∷ []) (list_at (length ts - 0) ts) ≡ columns.at start
unfolding columns
begins_columns c start ts read =
    let n : length ts - 0 ≡ length ts = omega arith in
    ap (λ (m : ℕ). with_columns (c ∷ []) (list_at m ts)) n ∙ after_first c (list_at (length ts) ts) ∙ rw read refl
