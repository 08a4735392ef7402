-- The script of a load.
use Rattle.std.specs.Prelude.{ℕ, zero, suc, ◌+◌, ◌%◌, ◌==◌, ◌||◌, Bool, if◌then◌else◌, List, [], ◌++◌, codes}
use Rattle.px_reply.specs.Printed.{with_number}
use Rattle.px_load.specs.declared.rows.LoadRow.{LoadRow}
use Rattle.px_load.specs.declared.script.Load.{Load}
use Rattle.px_load.specs.Rows.{behind_rows, row_behind}

-- `UPSERT INTO LOAD VALUES (0, 'G24', 937);`
unfoldable pub upsert_line : LoadRow → List ℕ
upsert_line row = with_number (codes "UPSERT INTO LOAD VALUES (") row.id ++ with_number (codes ", 'G") row.group ++ with_number (codes "', ") row.amount ++ codes ");\n"

-- a commit stands behind every hundredth row, and behind the last
abbrev pub is_committed : (place rows : ℕ) → Bool
is_committed place rows = (place + 1) % 100 == 0 || place + 1 == rows

abbrev pub commit : Bool → List ℕ
commit is_there = if is_there then codes "!commit\n" else []

-- the row of a place, by the draws behind a number
abbrev pub put : (place rows number : ℕ) → List ℕ
put place rows number = upsert_line (row_behind rows number) ++ commit (is_committed place rows)

-- the first so many rows of a load, each by the three draws behind those of the rows before it
abbrev pub puts : (count rows number : ℕ) → List ℕ
puts zero rows number = []
puts (suc count) rows number = puts count rows number ++ put count rows (behind_rows count number)

abbrev pub before : List ℕ
before = codes "CREATE TABLE LOAD (ID BIGINT NOT NULL PRIMARY KEY, GRP VARCHAR, AMT INTEGER);\nCREATE INDEX LOAD_GRP ON LOAD (GRP) INCLUDE (AMT);\n!autocommit off\n"

abbrev pub behind : List ℕ
behind = codes "SELECT /*+ NO_INDEX */ ID, GRP, AMT FROM LOAD;\nSELECT /*+ INDEX(LOAD LOAD_GRP) */ ID, GRP, AMT FROM LOAD;\n"

-- a table with an index, the rows, and two queries of all of them
unfoldable pub load_text : Load → List ℕ
load_text load = before ++ puts load.rows load.rows load.number ++ behind
