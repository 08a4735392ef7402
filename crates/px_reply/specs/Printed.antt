-- What replies print.
use Rattle.std.specs.Prelude.{ℕ, ◌++◌, ◌∷◌, [], ◌==◌, ◌||◌, not, Bool, true, false, if◌then◌else◌, List, length, Option, Some, None, codes, decimal}
use Rattle.std.specs.List.{flat_map}
use Rattle.px_values.specs.declared.limit.Limit.{Limit as Bound}
use Rattle.px_values.specs.declared.print.CountWord.{CountWord}
use Rattle.px_values.specs.declared.print.CountWord.TheVariants.{Selected}
use Rattle.px_values.specs.declared.row.Value.{Value}
use Rattle.px_values.specs.Limits.{limit_word, most_of}
use Rattle.px_values.specs.Print.{printed_count, printed_rows}
use Rattle.px_tables.specs.declared.index.IndexState.{IndexState}
use Rattle.px_tables.specs.declared.index.IndexState.TheVariants.{Building, Active, Disabled}
use Rattle.px_calls.specs.declared.status.IndexCount.{IndexCount}
use Rattle.px_calls.specs.declared.status.Status.{Status}
use Rattle.px_reply.specs.declared.refusal.Refusal.{Refusal}
use Rattle.px_reply.specs.declared.refusal.Refusal.TheVariants.{Syntax, LeftOut, Form, IndexJoin, NameExists, NoColumn, NoTable, Mismatch, OutOfRange, NullKey, NoIndex, Twice, Limit, BelowHorizon, UnderScn, ReadFault, WriteFault, Closed, Damaged, Memory}
use Rattle.px_reply.specs.declared.reply.Checked.{Checked}
use Rattle.px_reply.specs.declared.reply.Counts.{Counts}
use Rattle.px_reply.specs.declared.reply.Defined.{Defined}
use Rattle.px_reply.specs.declared.reply.Defined.TheVariants.{TableCreated, TableKept, TableDropped, TableAbsent, IndexCreated, IndexKept, IndexDropped, IndexAbsent, IndexDisabled, IndexRebuilt}
use Rattle.px_reply.specs.declared.reply.Reply.{Reply}
use Rattle.px_reply.specs.declared.reply.Reply.TheVariants as replies
use Rattle.px_reply.specs.declared.transcript.Item.{Item}
use Rattle.px_reply.specs.declared.transcript.Transcript.{Transcript}

-- ---- texts and lines

-- a text, and a number behind it
abbrev pub with_number : (text : List ℕ) (n : ℕ) → List ℕ
with_number text n = text ++ decimal n

abbrev pub line : List ℕ → List ℕ
line text = text ++ 10 ∷ []

-- `matching 2`
abbrev pub numbered : (text : List ℕ) (n : ℕ) → List ℕ
numbered text n = line (with_number text n)

-- ---- refusals

abbrev pub limit_text : Bound → List ℕ
limit_text limit = codes "E11 limit: " ++ limit_word limit ++ codes " " ++ decimal (most_of limit)

abbrev pub damaged_text : (file place : ℕ) → List ℕ
damaged_text file place = codes "F4 damaged file " ++ decimal file ++ codes " at " ++ decimal place

-- the text of a refusal
abbrev pub refusal_text : Refusal → List ℕ
refusal_text (Syntax place) = codes "E01 syntax at byte " ++ decimal place
refusal_text (LeftOut name) = codes "E02 left out: " ++ name.now
refusal_text Form = codes "E02 left out: FORM"
refusal_text IndexJoin = codes "E02 left out: INDEX JOIN"
refusal_text (NameExists name) = codes "E03 name exists: " ++ name
refusal_text (NoColumn name) = codes "E04 no such column: " ++ name
refusal_text (NoTable name) = codes "E05 no such table: " ++ name
refusal_text (Mismatch place) = codes "E06 type mismatch at byte " ++ decimal place
refusal_text (OutOfRange place) = codes "E07 value out of range at byte " ++ decimal place
refusal_text (NullKey name) = codes "E08 null key column: " ++ name
refusal_text (NoIndex name) = codes "E09 no such index: " ++ name
refusal_text (Twice name) = codes "E10 column named twice: " ++ name
refusal_text (Limit limit) = limit_text limit
refusal_text (BelowHorizon horizon) = codes "E12 scn below horizon " ++ decimal horizon
refusal_text UnderScn = codes "E13 not under scn"
refusal_text ReadFault = codes "F1 read fault"
refusal_text WriteFault = codes "F2 write fault"
refusal_text (Closed call) = codes "F3 closed by device call " ++ decimal call
refusal_text (Damaged file place) = damaged_text file place
refusal_text Memory = codes "M1 out of memory"

abbrev pub refusal_line : Refusal → List ℕ
refusal_line refusal = line (refusal_text refusal)

-- ---- other answers of one line

abbrev pub defined_text : Defined → List ℕ
defined_text TableCreated = codes "table created"
defined_text TableKept = codes "table kept"
defined_text TableDropped = codes "table dropped"
defined_text TableAbsent = codes "table absent"
defined_text IndexCreated = codes "index created"
defined_text IndexKept = codes "index kept"
defined_text IndexDropped = codes "index dropped"
defined_text IndexAbsent = codes "index absent"
defined_text IndexDisabled = codes "index disabled"
defined_text IndexRebuilt = codes "index rebuilt"

abbrev pub scn_text : Option ℕ → List ℕ
scn_text (Some n) = codes "scn " ++ decimal n
scn_text None = codes "scn off"

abbrev pub autocommit_text : Bool → List ℕ
autocommit_text true = codes "autocommit on"
autocommit_text false = codes "autocommit off"

-- ---- a status

abbrev pub state_text : IndexState → List ℕ
state_text Building = codes " BUILDING"
state_text Active = codes " ACTIVE"
state_text Disabled = codes " DISABLED"

-- `NAME ACTIVE unverified 2`
abbrev pub index_line : IndexCount → List ℕ
index_line index = line (index.name ++ state_text index.state ++ codes " unverified " ++ decimal index.unverified)

abbrev pub index_lines : List IndexCount → List ℕ
index_lines indexes = flat_map index_line indexes

-- `last 4 horizon 0`
abbrev pub two_numbers : (first : List ℕ) (one : ℕ) (second : List ℕ) (other : ℕ) → List ℕ
two_numbers first one second other = line (first ++ decimal one ++ second ++ decimal other)

-- the line of stamps, the line of cells and files, and a line for each index, in order of number
abbrev pub status_lines : Status → List ℕ
status_lines status = two_numbers (codes "last ") status.last (codes " horizon ") status.horizon ++ two_numbers (codes "cells ") status.cells (codes " files ") status.files ++ index_lines status.indexes

-- ---- a verification

-- the five lines of a report
abbrev pub counts_lines : Counts → List ℕ
counts_lines c = numbered (codes "matching ") c.matching ++ numbered (codes "unverified ") c.unverified ++ numbered (codes "missing ") c.missing ++ numbered (codes "extra ") c.extra ++ numbered (codes "wrong ") c.wrong

abbrev pub report_lines : Option Counts → List ℕ
report_lines None = []
report_lines (Some c) = counts_lines c

abbrev pub rebuilt_line : Bool → List ℕ
rebuilt_line true = line (codes "rebuilt")
rebuilt_line false = []

abbrev pub refused_line : Option Refusal → List ℕ
refused_line None = []
refused_line (Some refusal) = refusal_line refusal

-- the parts that were finished, in order, and then why the next one wasn't
abbrev pub checked_lines : Checked → List ℕ
checked_lines x = report_lines x.before ++ rebuilt_line x.rebuilt ++ report_lines x.after ++ refused_line x.refused

-- ---- replies

-- a line for each row, and how many there are
abbrev pub rows_lines : List (List Value) → List ℕ
rows_lines rows = printed_rows rows ++ line (printed_count (length rows) Selected)

abbrev pub count_line : ℕ → CountWord → List ℕ
count_line rows word = line (printed_count rows word)

-- the lines of a reply, each ended by a line feed
abbrev pub printed_reply : Reply → List ℕ
printed_reply (replies.Rows rows) = rows_lines rows
printed_reply (replies.Count rows word) = count_line rows word
printed_reply (replies.Defined defined) = line (defined_text defined)
printed_reply (replies.Explained lines) = lines
printed_reply (replies.Scn n) = line (scn_text n)
printed_reply (replies.Autocommit on) = line (autocommit_text on)
printed_reply (replies.Status status) = status_lines status
printed_reply replies.Flushed = line (codes "flushed")
printed_reply replies.Compacted = line (codes "compacted")
printed_reply (replies.Verified checked) = checked_lines checked
printed_reply (replies.Refused refusal) = refusal_line refusal

-- ---- transcripts

-- the replies, in the order of the statements
abbrev pub printed_items : List Item → List ℕ
printed_items items = flat_map (λ i. printed_reply i.reply) items

-- a line `@n` before the replies of another session than 1
abbrev pub head : (session : ℕ) → (has_items : Bool) → List ℕ
head session has_items = if session == 1 || not has_items then [] else line (codes "@" ++ decimal session)

abbrev pub has_items : List Item → Bool
has_items items = not (length items == 0)

abbrev pub printed_transcript : Transcript → List ℕ
printed_transcript t = head t.session (has_items t.items) ++ printed_items t.items

-- the replies of all sessions, in the order of the transcripts
abbrev pub printed : List Transcript → List ℕ
printed transcripts = flat_map printed_transcript transcripts
