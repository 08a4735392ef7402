-- What a report keeps of the keys that looks find.
use Rattle.std.specs.Prelude.{ℕ, List, [], ◌∷◌, map, get_or}
use Rattle.px_values.specs.declared.row.Value.{Value}
use Rattle.px_values.specs.declared.row.Value.TheVariants.{Null}
use Rattle.px_keys.specs.Spelling.{Fits}
use Rattle.px_tables.specs.declared.index.Index.{Index}
use Rattle.px_tables.specs.declared.table.Table.{Table}
use Rattle.px_paths.specs.Paths.{columns_on, index_path, key_on, values_on}
use Rattle.px_paths.specs.declared.path.PathColumn.{PathColumn}
use Rattle.px_trail.specs.Answers.{IsAmong}
use Rattle.px_calls.specs.declared.query.FoundKey.{FoundKey}
use Rattle.px_calls.specs.declared.query.FoundKey.TheVariants.{Sure, InDoubt}
use Rattle.px_calls.specs.declared.query.FoundRow.{FoundRow}
use Rattle.px_verify.specs.declared.report.IndexEntry.{IndexEntry}
use Rattle.px_verify.specs.declared.report.Version.{Version}
use Rattle.px_verify.specs.declared.report.Version.TheVariants.{Verified, Unverified}

-- the values of these columns, or NULL where the row has none
abbrev pub values_in : List ℕ → List Value → List Value
values_in columns row = map (λ column. get_or row column Null) columns

-- the entry that a row asks for: its key on the path of the index, and its included values
abbrev pub entry_on : List PathColumn → List ℕ → List Value → IndexEntry
entry_on path included row = record { key = key_on path row; values = values_in included row }

abbrev pub entry_for : Table → Index → List Value → IndexEntry
entry_for t x row = entry_on (index_path t x) x.included row

-- the entries that the rows found on a table's path ask for
abbrev pub entries_of : List PathColumn → List ℕ → List FoundKey → List IndexEntry
entries_of path included [] = []
entries_of path included (Sure f ∷ keys) = entry_on path included f.row ∷ entries_of path included keys
entries_of path included (InDoubt d ∷ keys) = entries_of path included keys

-- the version that was found at a key of an index's path
abbrev pub version_found : List ℕ → FoundKey → Version
version_found included (Sure f) = Verified (record { key = f.key; values = values_in included f.row })
version_found included (InDoubt d) = Unverified d.key

-- each row that was found has a key on the path
abbrev pub HaveKeys : List PathColumn → List FoundKey → Type 0
HaveKeys path keys = (f : FoundRow) → IsAmong (Sure f) keys → Fits (columns_on path) (values_on path f.row)
