-- A condition read to its end with no tree and no stack: how many parentheses are open is one number.
use Rattle.std.specs.Prelude.{ℕ, zero, suc, true, if◌then◌else◌, List, [], ◌∷◌, length, drop, Option, Some, None}
use Rattle.px_lex.specs.declared.kind.Kind.TheVariants as k
use Rattle.px_lex.specs.Lexemes.{Seen}
use Rattle.px_ast.specs.declared.statement.Statement.TheVariants as statements
use Rattle.px_ast.specs.Rule.{sees, Outcome, Got, Stuck, and_then, Rule, token, made, ◌then◌, maybe, ◌or◌, word, ◌▹◌, separated, optional}
use Rattle.px_ast.specs.Grammar.{name, text_of_token, predicate, keypart, shown_names, row_limit, create_table, create_index, drop_table, drop_index, alter_index, upsert}

-- behind a predicate: how many are still open where AND or OR goes on, or none of it where the condition ends
abbrev pub closes : ℕ → List Seen → Outcome (Option ℕ)
closes zero ts = if sees (k.And ∷ k.Or ∷ []) ts then Got (Some zero) (drop 1 ts) else Got None ts
closes (suc inside) ts =
    if sees (k.And ∷ k.Or ∷ []) ts then Got (Some (suc inside)) (drop 1 ts) else and_then ((word k.CloseParen).at ts) (λ u rest. closes inside rest)

abbrev pub goes_on : (ℕ → List Seen → Outcome (Unit {0})) → Option ℕ → List Seen → Outcome (Unit {0})
goes_on next None ts = Got tt ts
goes_on next (Some inside) ts = next inside ts

-- the first number bounds how many tokens are left
abbrev pub skim_from : ℕ → ℕ → List Seen → Outcome (Unit {0})
skim_from zero inside ts = Stuck ts
skim_from (suc n) inside ts =
    if sees (k.Not ∷ []) ts then skim_from n inside (drop 1 ts)
    else (if sees (k.OpenParen ∷ []) ts then skim_from n (suc inside) (drop 1 ts)
    else and_then ((predicate 1).at ts) (λ t rest. and_then (closes inside rest) (goes_on (skim_from n))))

unfoldable pub skim : ℕ → List Seen → Outcome (Unit {0})
skim inside ts = skim_from (length ts) inside ts

-- an outcome without its value
abbrev pub ended : {A : Type 0} → Outcome A → Outcome (Unit {0})
ended o = and_then o (λ a rest. Got tt rest)

-- the rules of a statement, with that in place of its condition
abbrev pub skimmed : Rule (Unit {0})
skimmed = record { reads = λ ts u. Unit {0}; at = skim 0; begins = []; on = []; solid = true }

abbrev pub passed : {A : Type 0} → A → Unit {0}
passed a = tt

abbrev pub skimmed_filter : Rule (Option (Unit {0}))
skimmed_filter = maybe (k.Where ▹ skimmed)

unfoldable pub skimmed_delete : Rule (Unit {0})
skimmed_delete = made passed (k.Delete ▹ k.From ▹ name then skimmed_filter)

unfoldable pub skimmed_select : Rule (Unit {0})
skimmed_select = made passed
    (k.Select ▹ maybe (made text_of_token (token k.Hint)) then shown_names then k.From ▹ name
    then skimmed_filter
    then optional (k.Order ▹ k.By ▹ separated k.Comma keypart)
    then maybe row_limit)

unfoldable pub skimmed_statement : Rule (Unit {0})
skimmed_statement =
    made passed (k.Create ▹ (made statements.CreateTable create_table or made statements.CreateIndex create_index))
    or made passed (k.Drop ▹ (made statements.DropTable drop_table or made statements.DropIndex drop_index))
    or made passed (k.Alter ▹ made statements.AlterIndex alter_index)
    or made passed upsert
    or skimmed_delete
    or k.Explain ▹ skimmed_select
    or skimmed_select
