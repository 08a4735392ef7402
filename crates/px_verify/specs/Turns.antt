-- What one step of a report does.
use Rattle.std.specs.Prelude.{ℕ, ◌≡◌, ◌≤◌, ◌⊎◌, true, Option, None, Some, Result, Ok, Err, List, [], ◌∷◌, ◌++◌, map, length, take}
use Rattle.px_values.specs.declared.name.IndexId.{IndexId}
use Rattle.px_values.specs.declared.name.TableId.{TableId}
use Rattle.px_values.specs.declared.row.Value.{Value}
use Rattle.px_tables.specs.declared.index.Index.{Index}
use Rattle.px_paths.specs.Paths.{index_path}
use Rattle.px_trail.specs.declared.entry.Act.{Act}
use Rattle.px_trail.specs.declared.entry.Act.TheVariants as act
use Rattle.px_trail.specs.declared.entry.Entry.{Entry}
use Rattle.px_trail.specs.Trail.{Base}
use Rattle.px_calls.specs.declared.query.By.TheVariants as by
use Rattle.px_calls.specs.declared.query.Chunk.{Chunk}
use Rattle.px_calls.specs.declared.query.FoundKey.{FoundKey}
use Rattle.px_calls.specs.declared.query.Point.{Point}
use Rattle.px_calls.specs.Causes.{IsUndecided, stamp_at}
use Rattle.px_calls.specs.Known.{Known, Ran, outline}
use Rattle.px_calls.specs.Looks.{is_past}
use Rattle.px_calls.specs.Requires.{IsReadable}
use Rattle.px_verify.specs.declared.answer.ReportFault.{ReportFault}
use Rattle.px_verify.specs.declared.answer.Reported.{Reported}
use Rattle.px_verify.specs.declared.answer.ReportTurn.{ReportTurn}
use Rattle.px_verify.specs.declared.answer.ReportTurn.TheVariants as turn
use Rattle.px_verify.specs.declared.machine.Lists.{Lists}
use Rattle.px_verify.specs.declared.machine.Reading.{Reading}
use Rattle.px_verify.specs.declared.machine.ReportState.{ReportState}
use Rattle.px_verify.specs.declared.machine.ReportState.TheVariants as state
use Rattle.px_verify.specs.declared.report.IndexEntry.{IndexEntry}
use Rattle.px_verify.specs.declared.report.Report.{Report}
use Rattle.px_verify.specs.declared.report.Version.{Version}
use Rattle.px_verify.specs.Agreement.{ReportAgrees}
use Rattle.px_verify.specs.Faults.{FaultIs, ReportFaultIs, ReportFaultSince}
use Rattle.px_verify.specs.Lists.{entries_of, entry_for, version_found}
use Rattle.px_verify.specs.Looking.{AreLooks, AreRowsAtPoint, IsLooked, found_in}
use Rattle.px_verify.specs.Points.{HasIndex, IsOpenPoint, IsReportPoint, greatest_scn}
use Rattle.px_verify.specs.Reports.{report_of}

-- 1. What was found

-- looks on the table's path up to a key found rows that ask for these entries, if what was opened is sound
abbrev pub RowsTo : Type 0 → Known → Reading → Option (List ℕ) → Type 0
RowsTo sound k x after = (cs : List Chunk) × AreLooks sound k x.point by.Table None cs after × (sound → x.rows.items ≡ entries_of x.path x.index.included (found_in cs))

-- looks on the whole path did
abbrev pub AreEntries : Type 0 → Known → Point → Index → List IndexEntry → Type 0
AreEntries sound k p x rows = (keys : List FoundKey) × IsLooked sound k p by.Table keys × (sound → rows ≡ entries_of (index_path p.found.table x) x.included keys)

-- looks on the index's path up to a key found these versions
abbrev pub VersionsTo : Type 0 → Known → IndexId → Reading → Option (List ℕ) → Type 0
VersionsTo sound k i x after = (cs : List Chunk) × AreLooks sound k x.point (by.Index i) None cs after × (x.versions.items ≡ map (version_found x.index.included) (found_in cs))

-- looks on the whole path did; or the index may not be read at the point, and there are none
abbrev pub AreVersions : Type 0 → Known → Point → IndexId → Index → List Version → Type 0
AreVersions sound k p i x versions =
    (IsReadable p (Some x) × ((keys : List FoundKey) × IsLooked sound k p (by.Index i) keys × (versions ≡ map (version_found x.included) keys)))
    ⊎ ((IsReadable p (Some x) → ⊥) × (versions ≡ []))

-- 2. States

-- a report that reads at its point
pub record IsUnderWay (k : Known) (t : TableId) (i : IndexId) (x : Reading) : Type 0 where
  pub open_point : IsOpenPoint k x.point
  pub has : HasIndex t i x.point x.index
  pub path : x.path ≡ index_path x.point.found.table x.index

-- how the reading ended, whose point is still to be closed
abbrev pub HasEnded : Type 0 → Known → TableId → IndexId → Point → Result Lists ReportFault → Type 0
HasEnded sound k t i p (Ok lists) = (x : Index) × HasIndex t i p x × AreEntries sound k p x lists.rows.items × AreVersions sound k p i x lists.versions.items
HasEnded sound k t i p (Err f) = (p.table ≡ t) × FaultIs sound t i f k × ReportFaultSince p.found.at f k

-- The state is as the trail tells, and what is kept is what looks found. Others' entries keep this
abbrev pub FitsReport : Type 0 → TableId → IndexId → ReportState → Known → Type 0
FitsReport sound t i state.Opening k = Unit {0}
FitsReport sound t i (state.Rows x after) k = IsUnderWay k t i x × RowsTo sound k x after × (x.versions.items ≡ [])
FitsReport sound t i (state.Versions x after) k = IsUnderWay k t i x × IsReadable x.point (Some x.index) × AreEntries sound k x.point x.index x.rows.items × VersionsTo sound k i x after
FitsReport sound t i (state.Closing p end) k = IsOpenPoint k p × HasEnded sound k t i p end
FitsReport sound t i state.Over k = Unit {0}

abbrev pub IsReportNew : ReportState → Type 0
IsReportNew state.Opening = Unit {0}
IsReportNew s = ⊥

abbrev pub IsReportGoing : ReportState → Type 0
IsReportGoing state.Over = ⊥
IsReportGoing s = Unit {0}

abbrev pub opening : Point → List Act
opening p = act.Opened p.table p.stamp p.scn ∷ []

-- what the run has opened and not closed
abbrev pub opened_by_report : ReportState → List Act
opened_by_report state.Opening = []
opened_by_report (state.Rows x after) = opening x.point
opened_by_report (state.Versions x after) = opening x.point
opened_by_report (state.Closing p end) = opening p
opened_by_report state.Over = []

-- the point was not opened before the first n entries were there
abbrev pub IsReportSince : ℕ → ReportState → Known → Type 0
IsReportSince n state.Opening k = n ≤ length k.seen
IsReportSince n (state.Rows x after) k = n ≤ x.point.found.at
IsReportSince n (state.Versions x after) k = n ≤ x.point.found.at
IsReportSince n (state.Closing p end) k = n ≤ p.found.at
IsReportSince n state.Over k = Unit {0}

-- 3. Answers

-- the report on the rows of the table at the point and these versions of the index
abbrev pub IsReportOf : Base → List Entry → Point → Index → List Version → Report → Type 0
IsReportOf b es p x versions r = (rows : List (List Value)) × AreRowsAtPoint b es p rows × (r ≡ report_of (map (entry_for p.found.table x) rows) versions)

-- The report at a point that was opened after the first `first` entries. It is right if what was opened is sound; and then, of an
-- index that may be read there, nothing is missing, extra or wrong
pub record IsReport (sound : Type 0) (k : Known) (t : TableId) (i : IndexId) (a : Reported) : Type 0 where
  pub point : Point
  pub at : point.found.at ≡ a.first
  pub is_point : IsReportPoint k.base k.seen point
  pub index : Index
  pub has : HasIndex t i point index
  pub versions : List Version
  pub are_versions : AreVersions sound k point i index versions
  pub report : sound → IsReportOf k.base k.seen point index versions a.report
  pub agrees : sound → IsReadable point (Some index) → ReportAgrees a.report

-- the point of a report, opened and closed
abbrev pub report_point_acts : Base → List Entry → TableId → ℕ → List Act
report_point_acts b es t first = let s = stamp_at (Some greatest_scn) t.0 b (take first es) in act.Opened t s true ∷ act.Released t s ∷ []

abbrev pub ReportOpensAndCloses : TableId → List Act → Type 0
ReportOpensAndCloses t acts = (stamp : ℕ) × (acts ≡ act.Opened t stamp true ∷ act.Released t stamp ∷ [])

-- What a report came to, where `own` is what the seat began, ended, opened, closed and defined for it
abbrev pub IsReportOutcome : Type 0 → TableId → IndexId → List Act → Known → Result Reported ReportFault → Type 0
IsReportOutcome sound t i own k (Ok a) = IsReport sound k t i a × (own ≡ report_point_acts k.base k.seen t a.first) × (a.first ≤ a.last) × (a.last ≡ length k.seen)
IsReportOutcome sound t i own k (Err f) = ReportFaultIs sound t i f k × ((own ≡ []) ⊎ ReportOpensAndCloses t own)

-- 4. Steps

-- the stamp for which an opening waits
abbrev pub IsAwaitedByReport : TableId → ReportState → Known → ℕ → Type 0
IsAwaitedByReport t state.Opening k stamp = IsUndecided k t.0 (stamp_at (Some greatest_scn) t.0 k.base k.seen) stamp
IsAwaitedByReport t s k stamp = ⊥

-- a step that went on came to a later key, or to what is next
abbrev pub ReportMovesOn : ReportState → ReportState → Type 0
ReportMovesOn state.Opening (state.Rows x after) = Unit {0}
ReportMovesOn state.Opening (state.Closing p end) = Unit {0}
ReportMovesOn (state.Rows x after) (state.Rows y (Some last)) = is_past after last ≡ true
ReportMovesOn (state.Rows x after) (state.Versions y None) = Unit {0}
ReportMovesOn (state.Rows x after) (state.Closing p end) = Unit {0}
ReportMovesOn (state.Versions x after) (state.Versions y (Some last)) = is_past after last ≡ true
ReportMovesOn (state.Versions x after) (state.Closing p end) = Unit {0}
ReportMovesOn old new = ⊥

abbrev pub Told : Type 0 → TableId → IndexId → List Act → ReportState → ReportState → Known → ReportTurn → Type 0
Told sound t i own old new k turn.Stepped = IsReportGoing new × (own ≡ opened_by_report new) × ReportMovesOn old new
Told sound t i own old new k (turn.Waiting stamp) = IsReportGoing new × (own ≡ opened_by_report new) × IsAwaitedByReport t old k stamp
Told sound t i own old new k (turn.Over r) = (new ≡ state.Over) × IsReportOutcome sound t i own k r

abbrev pub IsReportSinceThen : ℕ → ReportState → Known → ReportTurn → Type 0
IsReportSinceThen n new k turn.Stepped = IsReportSince n new k
IsReportSinceThen n new k (turn.Waiting stamp) = IsReportSince n new k
IsReportSinceThen n new k (turn.Over (Ok a)) = n ≤ a.first
IsReportSinceThen n new k (turn.Over (Err f)) = ReportFaultSince n f k

-- one step of a report
pub record ReportTurns (sound : Type 0) (t : TableId) (i : IndexId) (old : ReportState) (k : Known) (new : ReportState) (k' : Known) (r : ReportTurn) : Type 0 where
  pub acts : List Act
  pub ran : Ran k k' acts
  pub fits : FitsReport sound t i new k'
  pub told : Told sound t i (opened_by_report old ++ outline acts) old new k' r
  pub since : (n : ℕ) → IsReportSince n old k → IsReportSinceThen n new k' r

-- a state that goes on from another, at a point
pub record GoesOn (sound : Type 0) (k : Known) (t : TableId) (i : IndexId) (p : Point) (old new : ReportState) : Type 0 where
  pub fits : FitsReport sound t i new k
  pub going : IsReportGoing new
  pub moves : ReportMovesOn old new
  pub opened_is : opened_by_report new ≡ opening p
  pub since : (n : ℕ) → n ≤ p.found.at → IsReportSince n new k

-- 5. Whole reports

-- a whole report: what it came to, and of the seat's own acts those that opened its point and closed it
pub record RanReport (sound : Type 0) (t : TableId) (i : IndexId) (k k' : Known) (r : Result Reported ReportFault) : Type 0 where
  pub acts : List Act
  pub ran : Ran k k' acts
  pub outcome : IsReportOutcome sound t i (outline acts) k' r
  pub since : IsReportSinceThen (length k.seen) state.Over k' (turn.Over r)

-- a report on its way: what the seat did so far is to have opened what the run holds
pub record SoFar (sound : Type 0) (t : TableId) (i : IndexId) (k k' : Known) (s : ReportState) : Type 0 where
  pub acts : List Act
  pub ran : Ran k k' acts
  pub so_far : outline acts ≡ opened_by_report s
  pub fits : FitsReport sound t i s k'
  pub going : IsReportGoing s
  pub since : IsReportSince (length k.seen) s k'
