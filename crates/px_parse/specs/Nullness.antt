-- NOT NULL at columns outside the key.
use Rattle.std.specs.Prelude.{ℕ, Bool, false, not, ◌&&◌, ◌||◌, List, Option, Some, None}
use Rattle.std.specs.List.{list_any}
use Rattle.std.specs.Str.{bytes_eq}
use Rattle.px_ast.specs.declared.definition.Column.{Column}
use Rattle.px_ast.specs.declared.definition.KeyPart.{KeyPart}
use Rattle.px_ast.specs.declared.definition.KeyConstraint.{KeyConstraint}
use Rattle.px_ast.specs.declared.definition.CreateTable.{CreateTable}
use Rattle.px_ast.specs.declared.statement.Statement.{Statement}
use Rattle.px_ast.specs.declared.statement.Statement.TheVariants as statements
use Rattle.px_ast.specs.Rule.{is_present}

-- a column of this name is among these parts of a key
abbrev pub names_column : List KeyPart → List ℕ → Bool
names_column parts name = list_any (λ part. bytes_eq part.column name) parts

abbrev pub in_constraint : Option KeyConstraint → List ℕ → Bool
in_constraint None name = false
in_constraint (Some c) name = names_column c.parts name

-- PRIMARY KEY stands at the column, or the constraint names it.
abbrev pub is_key : Option KeyConstraint → Column → Bool
is_key constraint column = is_present column.key || in_constraint constraint column.name

-- NOT NULL stands at a column without PRIMARY KEY.
abbrev pub is_in_doubt : Column → Bool
is_in_doubt column = column.not_null && not (is_present column.key)

-- NOT NULL stands at a column outside the key.
abbrev pub forbids_null : CreateTable → Bool
forbids_null table = list_any (λ column. column.not_null && not (is_key table.constraint column)) table.columns

-- the same of a statement
abbrev pub forbids_null_outside_key : Statement → Bool
forbids_null_outside_key (statements.CreateTable table) = forbids_null table
forbids_null_outside_key s = false
