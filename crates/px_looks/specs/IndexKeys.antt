-- What an index's path shows.
use Rattle.std.specs.Prelude.{◌≡◌, ℕ, zero, suc, Bool, cond, nat_eq, List, [], ◌∷◌, ◌++◌, length, Option, None, Some}
use Rattle.std.specs.List.{list_any}
use Rattle.px_cells.specs.declared.kind.CellKind.TheVariants.{Put}
use Rattle.px_values.specs.declared.column.ColType.{ColType}
use Rattle.px_values.specs.declared.row.Value.{Value}
use Rattle.px_values.specs.declared.row.Value.TheVariants.{Null}
use Rattle.px_tables.specs.declared.index.Index.{Index}
use Rattle.px_tables.specs.declared.table.Table.{Table}
use Rattle.px_keys.specs.Spelling.{IsKeyOf}
use Rattle.px_paths.specs.Paths.{columns_on, index_path, value_on_path}
use Rattle.px_rows.specs.Keys.{column_in}
use Rattle.px_rows.specs.Stored.{value_of_bytes}
use Rattle.px_calls.specs.declared.query.FoundKey.{FoundKey}
use Rattle.px_calls.specs.declared.query.FoundKey.TheVariants.{Sure, InDoubt}
use Rattle.px_looks.specs.Found.{RowContents}
use Rattle.px_looks.specs.Versions.{is_verified, stamp_seen, value_seen}

-- the value that is stored, or NULL
abbrev pub value_or_null : ColType → Option (List ℕ) → Value
value_or_null ty None = Null
value_or_null ty (Some bytes) = value_of_bytes ty bytes

-- the index includes the column
abbrev pub is_included : Index → ℕ → Bool
is_included x c = list_any (λ i. nat_eq i c) x.included

-- Of a column the index shows the value that is stored at its qualifier, if it is included, or else that of the key, or
-- NULL. Column c has the qualifier c + 2
abbrev pub column_shown : Table → Index → List Value → (ℕ → Option (List ℕ)) → ℕ → Value
column_shown t x values stored c = cond (is_included x c) (value_or_null (column_in t.columns c).column_type (stored (suc (suc c)))) (value_on_path (index_path t x) values c)

-- the first columns
unfoldable pub columns_shown : Table → Index → List Value → (ℕ → Option (List ℕ)) → ℕ → List Value
columns_shown t x values stored zero = []
columns_shown t x values stored (suc c) = columns_shown t x values stored c ++ column_shown t x values stored c ∷ []

-- the row that is shown of a key with these values
abbrev pub shown_of_key : Table → Index → List Value → (ℕ → Option (List ℕ)) → List Value
shown_of_key t x values stored = columns_shown t x values stored (length t.columns)

-- a verified version is sure, with its row, and another one is in doubt
abbrev pub found_with : Table → Index → List ℕ → List Value → (ℕ → Option (List ℕ)) → ℕ → Bool → FoundKey
found_with t x k values stored s verified = cond verified (Sure (record { key = k; row = shown_of_key t x values stored })) (InDoubt (record { index = x.id; key = k; stamp = s; verdict = None }))

-- of the version of a stamp
abbrev pub found_of : Table → Index → List ℕ → List Value → RowContents → ℕ → Option ℕ → Option FoundKey
found_of t x k values h p None = None
found_of t x k values h p (Some s) = Some (found_with t x k values (λ q. value_seen h q p) s (is_verified (h 1 s Put)))

-- what a point sees of a key with these values
abbrev pub found_at : Table → Index → List ℕ → List Value → RowContents → ℕ → Option FoundKey
found_at t x k values h p = found_of t x k values h p (stamp_seen h 1 p)

-- what a point sees of a key, where it is one of the index
pub record ShowsKey (t : Table) (x : Index) (p : ℕ) (k : List ℕ) (h : RowContents) (f : FoundKey) : Type 0 where
  pub values : List Value
  pub key : IsKeyOf (columns_on (index_path t x)) values k
  pub is : found_at t x k values h p ≡ Some f
