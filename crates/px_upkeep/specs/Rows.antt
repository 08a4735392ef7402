-- The base versions of the rows that a look finds.
use Rattle.std.specs.Prelude.{◌≡◌, ◌≤◌, List, [], ◌∷◌, ◌++◌, length, Result, Err, IfOk}
use Rattle.std.specs.List.{AllZip}
use Rattle.px_values.specs.Limits.{most_key}
use Rattle.px_keys.specs.Spelling.{Fits}
use Rattle.px_tables.specs.declared.table.TableColumn.{TableColumn}
use Rattle.px_paths.specs.Paths.{AreOfTypes, columns_on, key_on, values_on}
use Rattle.px_paths.specs.declared.path.PathColumn.{PathColumn}
use Rattle.px_trail.specs.Answers.{IsAmong}
use Rattle.px_calls.specs.declared.query.BaseRow.{BaseRow}
use Rattle.px_calls.specs.declared.query.FoundKey.{FoundKey}
use Rattle.px_calls.specs.declared.query.FoundKey.TheVariants.{Sure}
use Rattle.px_calls.specs.declared.query.FoundRow.{FoundRow}
use Rattle.px_calls.specs.Causes.{IsLong}
use Rattle.px_upkeep.specs.declared.rows.RowsFault.{RowsFault}
use Rattle.px_upkeep.specs.declared.rows.RowsFault.TheVariants.{TooLong}

-- 1. Rows

-- The row that was found, with its key on an index's columns. It is one of a table with these columns and these columns of keys, and has there the key
-- that it was found by
pub record IsBaseOf (table : List TableColumn) (keys columns : List PathColumn) (f : FoundRow) (r : BaseRow) : Type 0 where
  pub row : r.row ≡ f.row
  pub types : AreOfTypes table f.row
  pub fits : Fits (columns_on keys) (values_on keys f.row)
  pub found : key_on keys f.row ≡ f.key
  pub key : key_on columns f.row ≡ r.key
  pub short : length r.key ≤ most_key

-- each key that was found has its row, in order
abbrev pub AreBasesOf : List TableColumn → List PathColumn → List PathColumn → List FoundKey → List BaseRow → Type 0
AreBasesOf table keys columns [] [] = Unit {0}
AreBasesOf table keys columns (Sure f ∷ fs) (r ∷ rs) = IsBaseOf table keys columns f r × AreBasesOf table keys columns fs rs
AreBasesOf table keys columns fs rs = ⊥

-- the row of a key that was found was put behind these rows
pub record KeepsRow (table : List TableColumn) (keys columns : List PathColumn) (key : FoundKey) (old new : List BaseRow) : Type 0 where
  pub found : FoundRow
  pub sure : key ≡ Sure found
  pub row : BaseRow
  pub base : IsBaseOf table keys columns found row
  pub behind : new ≡ old ++ row ∷ []

-- one of the rows that were found has a key on these columns that is too long
pub record HasLong (columns : List PathColumn) (fs : List FoundKey) : Type 0 where
  pub found : FoundRow
  pub among : IsAmong (Sure found) fs
  pub long : IsLong (key_on columns found.row)

-- 2. Chunks

-- the chunks with one more behind them, unless it has no key
abbrev pub gathered_then : List (List FoundKey) → List FoundKey → List (List FoundKey)
gathered_then cs [] = cs
gathered_then cs (f ∷ fs) = cs ++ (f ∷ fs) ∷ []

-- what was made of a chunk: its rows, or none where a key is too long
pub record IsMadeOf (table : List TableColumn) (keys columns : List PathColumn) (fs : List FoundKey) (r : Result (List BaseRow) RowsFault) : Type 0 where
  pub ok : IfOk r (AreBasesOf table keys columns fs)
  pub too_long : r ≡ Err TooLong → HasLong columns fs

-- each chunk has its rows, in order
abbrev pub ArePieces : List TableColumn → List PathColumn → List PathColumn → List (List FoundKey) → List (List BaseRow) → Type 0
ArePieces table keys columns cs ps = AllZip (AreBasesOf table keys columns) cs ps

-- one of the chunks has a row whose key on these columns is too long
pub record HasLongChunk (columns : List PathColumn) (cs : List (List FoundKey)) : Type 0 where
  pub chunk : List FoundKey
  pub among : IsAmong chunk cs
  pub long : HasLong columns chunk
