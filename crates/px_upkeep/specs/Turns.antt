-- What one step of the build of an index does.
use Rattle.std.specs.Prelude.{ℕ, ◌≡◌, ◌≢◌, ◌⊎◌, ◌≤◌, ◌++◌, not, Bool, true, false, Option, None, Some, Result, Ok, Err, List, [], ◌∷◌, length, drop, flat_map}
use Rattle.std.specs.List.{AllByRecursion}
use Rattle.px_values.specs.Limits.{most_key}
use Rattle.px_values.specs.declared.limit.Limit.TheVariants as bound
use Rattle.px_values.specs.declared.name.IndexId.{IndexId}
use Rattle.px_values.specs.declared.name.TableId.{TableId}
use Rattle.px_values.specs.declared.row.Value.{Value}
use Rattle.px_tables.specs.declared.index.Index.{Index}
use Rattle.px_tables.specs.declared.index.IndexState.TheVariants as states
use Rattle.px_tables.specs.declared.table.Table.{Table}
use Rattle.px_paths.specs.Paths.{index_path, key_on, table_path}
use Rattle.px_trail.specs.declared.entry.Act.{Act}
use Rattle.px_trail.specs.declared.entry.Act.TheVariants as act
use Rattle.px_trail.specs.declared.entry.Entry.{Entry}
use Rattle.px_trail.specs.Answers.{IsAmong}
use Rattle.px_trail.specs.Batches.{has, is_distinct}
use Rattle.px_trail.specs.Legal.{IsLegal}
use Rattle.px_trail.specs.States.{key_in, state_of}
use Rattle.px_trail.specs.Trail.{acts_by, horizon_of, index_of, table_of, table_shape}
use Rattle.px_calls.specs.declared.definition.Definition.{Definition}
use Rattle.px_calls.specs.declared.definition.Definition.TheVariants as d
use Rattle.px_calls.specs.declared.definition.Made.{Made}
use Rattle.px_calls.specs.declared.fault.StepFault.{StepFault}
use Rattle.px_calls.specs.declared.fault.StepFault.TheVariants as step
use Rattle.px_calls.specs.declared.query.BaseRow.{BaseRow}
use Rattle.px_calls.specs.declared.query.By.TheVariants as by
use Rattle.px_calls.specs.declared.query.Chunk.{Chunk}
use Rattle.px_calls.specs.declared.query.FoundKey.{FoundKey}
use Rattle.px_calls.specs.declared.query.FoundKey.TheVariants.{Sure, InDoubt}
use Rattle.px_calls.specs.declared.query.FoundRow.{FoundRow}
use Rattle.px_calls.specs.declared.query.Path.{Path}
use Rattle.px_calls.specs.declared.query.Point.{Point}
use Rattle.px_calls.specs.Causes.{ClosedBy, IsDamagedAt, IsLong, LacksTable, TableStands, rebuilding_cause}
use Rattle.px_calls.specs.Known.{HasMade, Known, Ran, outline}
use Rattle.px_calls.specs.Looks.{IsRisingFrom, is_covered}
use Rattle.px_calls.specs.Requires.{HasOpen, IsBaseRowOf, IsDrawn, MayBase, base_owners, index_of_found, is_based}
use Rattle.px_defining.specs.declared.define.DefineFault.{DefineFault}
use Rattle.px_defining.specs.declared.define.DefineFault.TheVariants as fault
use Rattle.px_defining.specs.declared.define.DefineRun.{DefineRun}
use Rattle.px_defining.specs.declared.define.DefineState.TheVariants as state
use Rattle.px_defining.specs.Turns as define
use Rattle.px_upkeep.specs.declared.build.Build.{Build}
use Rattle.px_upkeep.specs.declared.build.BuildFault.{BuildFault}
use Rattle.px_upkeep.specs.declared.build.BuildFault.TheVariants as why
use Rattle.px_upkeep.specs.declared.build.BuildRun.{BuildRun}
use Rattle.px_upkeep.specs.declared.build.BuildState.{BuildState}
use Rattle.px_upkeep.specs.declared.build.BuildState.TheVariants as s
use Rattle.px_upkeep.specs.declared.build.BuildTurn.{BuildTurn}
use Rattle.px_upkeep.specs.declared.build.BuildTurn.TheVariants as turn
use Rattle.px_upkeep.specs.declared.build.Came.{Came}
use Rattle.px_upkeep.specs.declared.build.Came.TheVariants as came
use Rattle.px_upkeep.specs.declared.build.Next.{Next}
use Rattle.px_upkeep.specs.declared.build.Next.TheVariants as next
use Rattle.px_upkeep.specs.declared.rows.RowsFault.{RowsFault}
use Rattle.px_upkeep.specs.declared.rows.RowsFault.TheVariants as rows
use Rattle.px_upkeep.specs.Rows.{ArePieces, HasLongChunk, gathered_then}

-- 1. Words of the code

abbrev pub step_fault : StepFault → BuildFault
step_fault step.NoTable = why.NoTable
step_fault (step.BelowHorizon horizon) = why.BelowHorizon horizon
step_fault step.ReadFault = why.ReadFault
step_fault step.WriteFault = why.WriteFault
step_fault (step.Damaged file place) = why.Damaged file place
step_fault (step.Closed call) = why.Closed call
step_fault f = why.Memory

abbrev pub fault_of_definition : DefineFault → BuildFault
fault_of_definition fault.NoTable = why.NoTable
fault_of_definition fault.NoIndex = why.NoIndex
fault_of_definition (fault.Limit which count) = why.Limit which count
fault_of_definition fault.ReadFault = why.ReadFault
fault_of_definition fault.WriteFault = why.WriteFault
fault_of_definition (fault.Damaged file place) = why.Damaged file place
fault_of_definition (fault.Closed call) = why.Closed call
fault_of_definition f = why.Memory

abbrev pub rows_fault : RowsFault → BuildFault
rows_fault rows.TooLong = why.Limit bound.Key most_key
rows_fault rows.Memory = why.Memory

-- where the server is closed, or nothing is left to be disabled, a build is over; else the index is to be disabled
abbrev pub next_of : BuildFault → Next
next_of why.NoTable = next.Failed why.NoTable
next_of why.NoIndex = next.Failed why.NoIndex
next_of why.WriteFault = next.Failed why.WriteFault
next_of (why.Closed call) = next.Failed (why.Closed call)
next_of f = next.Refused f

-- a fault of a device or of a closed server goes before the first
abbrev pub first_or : BuildFault → BuildFault → BuildFault
first_or first why.ReadFault = why.ReadFault
first_or first why.WriteFault = why.WriteFault
first_or first (why.Closed call) = why.Closed call
first_or first f = first

-- 2. Faults

-- the table has no index that has this number
pub record LacksIndexOf (k : Known) (t i : ℕ) : Type 0 where
  pub table : TableStands k t
  pub none : (x : Index) → index_of k.base k.seen i ≡ Some x → x.id.0 ≡ i → x.table.0 ≢ t

-- the table had a row at the index's birth whose key in the index is too long
pub record HadLongRow (k : Known) (t i : ℕ) : Type 0 where
  pub table : Table
  pub table_is : table_of k.base k.seen t ≡ Some table
  pub index : Index
  pub index_is : index_of k.base k.seen i ≡ Some index
  pub owner : index.table.0 ≡ t
  pub row : List Value
  pub there : state_of k.base k.seen t (key_in (table_shape table) row) index.birth ≡ Some row
  pub long : IsLong (key_on (index_path table index) row)

-- what tells the fault, in what the seat has then seen; what is told of rows, if what was opened is sound
abbrev pub BuildFaultIs : Type 0 → ℕ → ℕ → BuildFault → Known → Type 0
BuildFaultIs sound t i why.NoTable k = LacksTable k t
BuildFaultIs sound t i why.NoIndex k = LacksIndexOf k t i
BuildFaultIs sound t i (why.Limit bound.Key count) k = (count ≡ most_key) × (sound → HadLongRow k t i)
BuildFaultIs sound t i (why.Limit which count) k = rebuilding_cause t i (step.Limit which count) k
BuildFaultIs sound t i (why.BelowHorizon horizon) k = TableStands k t × (horizon_of k.base t k.seen ≡ horizon)
BuildFaultIs sound t i why.ReadFault k = (call : ℕ) × HasMade k (act.Missed call)
BuildFaultIs sound t i why.WriteFault k = (call : ℕ) × HasMade k (act.Shut call)
BuildFaultIs sound t i (why.Damaged file place) k = IsDamagedAt sound k file place
BuildFaultIs sound t i (why.Closed call) k = ClosedBy call k
BuildFaultIs sound t i why.Memory k = Unit {0}

-- the entry that tells a failed device call is one of the seat's own after the first n
abbrev pub BuildFaultSince : ℕ → BuildFault → Known → Type 0
BuildFaultSince n why.ReadFault k = (call : ℕ) × IsAmong (act.Missed call) (acts_by k.seat (drop n k.seen))
BuildFaultSince n why.WriteFault k = (call : ℕ) × IsAmong (act.Shut call) (acts_by k.seat (drop n k.seen))
BuildFaultSince n f k = Unit {0}

-- what the seat knew earlier
pub record IsPast (was k : Known) : Type 0 where
  pub more : List Entry
  pub seen : k.seen ≡ was.seen ++ more
  pub seat : k.seat ≡ was.seat
  pub base : k.base ≡ was.base
  pub damaged : k.damaged ≡ was.damaged

-- a step was refused after the first n entries, with the cause of the fault in what the seat had then seen
pub record WasRefused (sound : Type 0) (n t i : ℕ) (f : BuildFault) (k : Known) : Type 0 where
  pub was : Known
  pub past : IsPast was k
  pub from : n ≤ length was.seen
  pub cause : BuildFaultIs sound t i f was
  pub since : BuildFaultSince n f was

-- an index of this number stood, active, of this table, once it had been made so after the first n entries
pub record BecameActive (n t i : ℕ) (m : Made) (k : Known) : Type 0 where
  pub was : Known
  pub past : IsPast was k
  pub from : n ≤ length was.seen
  pub index : Index
  pub is : index_of was.base was.seen i ≡ Some index
  pub owner : index.table.0 ≡ t
  pub state : index.state ≡ states.Active
  pub birth : m.stamp ≡ index.birth
  pub number : m.number ≡ i
  pub at : m.at ≡ length was.seen

-- 3. What the seat did

-- a point that was opened and closed at a stamp, or that the index was built again
pub data Try : Type 0 where
  Looked : ℕ → Try
  Renewed : ℕ → Try

abbrev pub acts_of_try : TableId → IndexId → Try → List Act
acts_of_try t i (Looked stamp) = act.Opened t stamp true ∷ act.Released t stamp ∷ []
acts_of_try t i (Renewed stamp) = act.IndexState t i states.Building stamp ∷ []

unfoldable pub acts_of_tries : TableId → IndexId → List Try → List Act
acts_of_tries t i [] = []
acts_of_tries t i (x ∷ xs) = acts_of_try t i x ++ acts_of_tries t i xs

-- some tries, and then these acts
abbrev pub TriesThen : TableId → IndexId → List Act → List Act → Type 0
TriesThen t i last own = (tries : List Try) × (own ≡ acts_of_tries t i tries ++ last)

-- tries alone, or tries and then that the index was disabled
abbrev pub HasTried : TableId → IndexId → List Act → Type 0
HasTried t i own = TriesThen t i [] own ⊎ ((stamp : ℕ) × TriesThen t i (act.IndexState t i states.Disabled stamp ∷ []) own)

-- 4. Points

abbrev pub opening : Point → Act
opening p = act.Opened p.table p.stamp true

-- a point of the table is open that was opened by an SCN
pub record IsHeld (k : Known) (t : TableId) (p : Point) : Type 0 where
  pub table : p.table ≡ t
  pub scn : p.scn ≡ true
  pub is_open : HasOpen k p
  pub legal : IsLegal k.base k.seen

-- the state at the point of the row with this primary key
abbrev pub state_at_point : Known → Point → List Value → Option (List Value)
state_at_point k p r = state_of k.base k.seen p.table.0 r p.stamp

-- the primary key of a row, and its key in the table
abbrev pub owner_at : Point → List Value → List Value
owner_at p row = key_in (table_shape p.found.table) row

abbrev pub key_at_point : Point → List Value → List ℕ
key_at_point p row = key_on (table_path p.found.table) row

-- these are rows of the table at the point, with their keys in the index, no two with one primary key
pub record AreRowsFor (sound : Type 0) (k : Known) (p : Point) (x : Index) (xs : List BaseRow) : Type 0 where
  pub each : AllByRecursion (IsBaseRowOf p.found.table x) xs
  pub distinct : is_distinct (base_owners p.found.table xs) ≡ true
  pub there : sound → AllByRecursion (λ f. state_at_point k p (owner_at p f.row) ≡ Some f.row) xs

-- The point is open at the birth of the index. The table stands as the point found it, and whichever rows of it are at the point may be given their base
-- versions in the index
pub record IsBuilding (sound : Type 0) (k : Known) (t : TableId) (i : IndexId) (p : Point) (x : Index) : Type 0 where
  pub held : IsHeld k t p
  pub table_is : table_of k.base k.seen p.table.0 ≡ Some p.found.table
  pub drawn : IsDrawn k p.table.0
  pub bases : (xs : List BaseRow) → AreRowsFor sound k p x xs → MayBase sound k p i.0 xs

-- the path of the whole table
pub record IsWhole (path : Path) : Type 0 where
  pub by : path.by ≡ by.Table
  pub low : path.low ≡ []
  pub high : path.high ≡ None

-- the paths of a build are those of its point
pub record HasPaths (b : Build) (x : Index) : Type 0 where
  pub keys : b.keys ≡ table_path b.point.found.table
  pub columns : b.columns ≡ index_path b.point.found.table x
  pub whole : IsWhole b.path

-- the keys that were read
abbrev pub is_read : Option (List ℕ) → List ℕ → Bool
is_read None key = false
is_read (Some last) key = not (Rattle.px_calls.specs.Looks.key_less last key)

-- the primary keys of the rows that were found: of one chunk, and of chunks
abbrev pub found_owners : Table → List FoundKey → List (List Value)
found_owners t [] = []
found_owners t (Sure f ∷ fs) = key_in (table_shape t) f.row ∷ found_owners t fs
found_owners t (InDoubt d ∷ fs) = found_owners t fs

abbrev pub chunk_owners : Table → List (List FoundKey) → List (List Value)
chunk_owners t cs = flat_map (found_owners t) cs

-- the primary keys of rows that are to be given their base versions, piece by piece
abbrev pub piece_owners : Table → List (List BaseRow) → List (List Value)
piece_owners t ps = flat_map (base_owners t) ps

-- each row at the point with one of these keys was given its base version, or is one of those with these primary keys, which are to be given theirs
abbrev pub AreBased : Known → IndexId → Point → (List ℕ → Bool) → List (List Value) → Type 0
AreBased k i p done owners = (row : List Value) → state_at_point k p (owner_at p row) ≡ Some row → done (key_at_point p row) ≡ true
    → (is_based k.seen i.0 (owner_at p row) ≡ true) ⊎ (has owners (owner_at p row) ≡ true)

-- each row at the point stands at its own primary key
abbrev pub AreOwn : Known → Point → Type 0
AreOwn k p = (r row : List Value) → state_at_point k p r ≡ Some row → owner_at p row ≡ r

-- 5. States

-- the numbers were drawn, and the run was begun after the first n entries
pub record IsAsked (n : ℕ) (t : TableId) (i : IndexId) (k : Known) : Type 0 where
  pub from : n ≤ length k.seen
  pub table : IsDrawn k t.0
  pub index : IsDrawn k i.0

-- a definition under way
abbrev pub IsDefinitionUnderWay : Type 0 → Definition → DefineRun → Known → Type 0
IsDefinitionUnderWay sound x r k = (r.definition ≡ x) × define.FitsDefinition sound x r.state k × define.IsDefinitionGoing r.state

-- the table and the index stood so when the point was opened, after the first n entries; and a row has the state at the point that it had then
pub record WasFound (n : ℕ) (k : Known) (t : TableId) (i : IndexId) (p : Point) (x : Index) : Type 0 where
  pub was : Known
  pub past : IsPast was k
  pub from : n ≤ length was.seen
  pub table : table_of was.base was.seen t.0 ≡ Some p.found.table
  pub index : index_of was.base was.seen i.0 ≡ Some x
  pub owner : x.table.0 ≡ t.0
  pub birth : x.birth ≡ p.stamp
  pub same : (r : List Value) → state_at_point k p r ≡ state_at_point was p r

-- a build at its point, where rows with these keys are done with, or have one of these primary keys and are still to be given their base versions
pub record IsAtWork (sound : Type 0) (n : ℕ) (k : Known) (t : TableId) (i : IndexId) (b : Build) (done : List ℕ → Bool) (owners : List (List Value)) : Type 0 where
  pub index : Index
  pub found : WasFound n k t i b.point index
  pub building : IsBuilding sound k t i b.point index
  pub paths : HasPaths b index
  pub based : sound → AreBased k i b.point done owners

-- what was found by one look: keys that rise, with rows that are at the point
pub record IsFoundAt (sound : Type 0) (k : Known) (p : Point) (fs : List FoundKey) : Type 0 where
  pub past : Option (List ℕ)
  pub rising : IsRisingFrom past fs
  pub some : fs ≢ []
  pub few : length fs ≤ 64
  pub there : sound → (f : FoundRow) → IsAmong (Sure f) fs → state_at_point k p (owner_at p f.row) ≡ Some f.row

-- a build that reads on past a key, with chunks that were found and have no base versions yet
pub record IsReading (sound : Type 0) (n : ℕ) (k : Known) (t : TableId) (i : IndexId) (b : Build) (after : Option (List ℕ)) (cs : List (List FoundKey)) : Type 0 where
  pub work : IsAtWork sound n k t i b (is_read after) (chunk_owners b.point.found.table cs)
  pub chunks : AllByRecursion (IsFoundAt sound k b.point) cs

-- rows that one call may give their base versions
pub record IsPiece (sound : Type 0) (k : Known) (p : Point) (x : Index) (xs : List BaseRow) : Type 0 where
  pub rows : AreRowsFor sound k p x xs
  pub some : xs ≢ []
  pub few : length xs ≤ 64

-- these rows are to be given their base versions, and then more of them, piece by piece: all that were read and have none, up to the last key
pub record IsBasing (sound : Type 0) (n : ℕ) (k : Known) (t : TableId) (i : IndexId) (b : Build) (xs : List BaseRow) (more : List (List BaseRow)) (last : Option (List ℕ)) : Type 0 where
  pub work : IsAtWork sound n k t i b (is_covered last) (base_owners b.point.found.table xs ++ piece_owners b.point.found.table more)
  pub rows : AreRowsFor sound k b.point work.index xs
  pub some : xs ≢ []
  pub few : length xs ≤ 64
  pub pieces : AllByRecursion (IsPiece sound k b.point work.index) more
  pub own : sound → AreOwn k b.point

-- the index is to become active at its point
pub record IsActivating (sound : Type 0) (k : Known) (t : TableId) (i : IndexId) (p : Point) (r : DefineRun) : Type 0 where
  pub held : IsHeld k t p
  pub birth : MayBase sound k p i.0 []
  pub defining : IsDefinitionUnderWay sound (d.Active t i) r k

-- what is known once the point is closed, and what the seat did while it was open
abbrev pub FollowsClosing : Type 0 → ℕ → TableId → IndexId → Point → Next → Known → List Act → Type 0
FollowsClosing sound n t i p (next.Again birth) k own = TriesThen t i (opening p ∷ []) own
FollowsClosing sound n t i p next.Renew k own = TriesThen t i (opening p ∷ []) own
FollowsClosing sound n t i p (next.Active m) k own = (p.stamp ≡ m.stamp) × BecameActive n t.0 i.0 m k × TriesThen t i (opening p ∷ act.IndexState t i states.Active m.stamp ∷ []) own
FollowsClosing sound n t i p (next.Failed f) k own = WasRefused sound n t.0 i.0 f k × TriesThen t i (opening p ∷ []) own
FollowsClosing sound n t i p (next.Refused f) k own = WasRefused sound n t.0 i.0 f k × TriesThen t i (opening p ∷ []) own

-- a state is as the trail tells, where `own` is what the seat began, ended, opened, closed and defined for the build so far
abbrev pub IsState : Type 0 → ℕ → TableId → IndexId → List Act → BuildState → Known → Type 0
IsState sound n t i own (s.Opening birth) k = TriesThen t i [] own
IsState sound n t i own (s.Renewing r) k = TriesThen t i [] own × IsDefinitionUnderWay sound (d.Rebuilding t i) r k
IsState sound n t i own (s.Reading b after g) k = TriesThen t i (opening b.point ∷ []) own × IsReading sound n k t i b after g.chunks
IsState sound n t i own (s.Basing b xs more last) k = TriesThen t i (opening b.point ∷ []) own × IsBasing sound n k t i b xs more last
IsState sound n t i own (s.Settling b xs more last) k = TriesThen t i (opening b.point ∷ []) own × IsBasing sound n k t i b xs more last
IsState sound n t i own (s.Activating p r) k = TriesThen t i (opening p ∷ []) own × IsActivating sound k t i p r
IsState sound n t i own (s.Closing p after) k = IsHeld k t p × FollowsClosing sound n t i p after k own
IsState sound n t i own (s.Disabling r f) k = TriesThen t i [] own × IsDefinitionUnderWay sound (d.Disabled t i) r k × WasRefused sound n t.0 i.0 f k

pub record FitsState (sound : Type 0) (n : ℕ) (t : TableId) (i : IndexId) (own : List Act) (x : BuildState) (k : Known) : Type 0 where
  pub asked : IsAsked n t i k
  pub is : IsState sound n t i own x k

-- A build of this index of this table is as the trail tells, where it was begun after the first n entries, and `own` is what the seat began, ended,
-- opened, closed and defined for it so far. Others' entries keep this
pub record FitsBuild (sound : Type 0) (n : ℕ) (t : TableId) (i : IndexId) (own : List Act) (r : BuildRun) (k : Known) : Type 0 where
  pub table : r.table ≡ t
  pub index : r.index ≡ i
  pub state : FitsState sound n t i own r.state k

-- a build that has made no step
pub record IsBuildNew (t : TableId) (i : IndexId) (r : BuildRun) : Type 0 where
  pub table : r.table ≡ t
  pub index : r.index ≡ i
  pub birth : ℕ
  pub state : r.state ≡ s.Opening birth

-- 6. Steps

-- What a build comes to, where `own` is what the seat began, ended, opened, closed and defined for it. Of an index that stood active: some tries, and
-- then that it was made active while a point was open at its birth. Else why not, and no more than tries, behind which the index was disabled or not
abbrev pub IsBuildOutcome : Type 0 → ℕ → TableId → IndexId → List Act → Known → Result Made BuildFault → Type 0
IsBuildOutcome sound n t i own k (Ok m) = BecameActive n t.0 i.0 m k × TriesThen t i (act.Opened t m.stamp true ∷ act.IndexState t i states.Active m.stamp ∷ act.Released t m.stamp ∷ []) own
IsBuildOutcome sound n t i own k (Err f) = WasRefused sound n t.0 i.0 f k × HasTried t i own

-- what a step led to
abbrev pub Led : Type 0 → ℕ → TableId → IndexId → List Act → Known → Came → Type 0
Led sound n t i own k (came.On x) = FitsState sound n t i own x k
Led sound n t i own k (came.Waits x) = FitsState sound n t i own x k
Led sound n t i own k (came.Over r) = IsBuildOutcome sound n t i own k r

pub record Leads (sound : Type 0) (n : ℕ) (t : TableId) (i : IndexId) (own : List Act) (k k' : Known) (c : Came) : Type 0 where
  pub acts : List Act
  pub ran : Ran k k' acts
  pub led : Led sound n t i (own ++ outline acts) k' c

-- it goes on, waits for others, or is over, where `own` is what the seat did for it so far
abbrev pub Told : Type 0 → ℕ → TableId → IndexId → List Act → Known → BuildTurn → Type 0
Told sound n t i own k (turn.Stepped r) = FitsBuild sound n t i own r k
Told sound n t i own k (turn.Waiting r) = FitsBuild sound n t i own r k
Told sound n t i own k (turn.Over r) = IsBuildOutcome sound n t i own k r

-- one step of the build of an index
pub record BuildTurns (sound : Type 0) (n : ℕ) (t : TableId) (i : IndexId) (own : List Act) (k k' : Known) (x : BuildTurn) : Type 0 where
  pub acts : List Act
  pub ran : Ran k k' acts
  pub told : Told sound n t i (own ++ outline acts) k' x

-- 7. What comes of an answer

-- the index stands among the point's definitions, isn't disabled, and was born at the point
pub record IsBornAt (p : Point) (i : IndexId) (x : Index) : Type 0 where
  pub is : index_of_found p.found i.0 ≡ Some x
  pub enabled : x.state ≢ states.Disabled
  pub birth : x.birth ≡ p.stamp

-- what comes at a point that was just opened
abbrev pub Begins : Point → IndexId → BuildState → Type 0
Begins p i (s.Closing q (next.Failed f)) = (q ≡ p) × (f ≡ why.NoIndex) × (index_of_found p.found i.0 ≡ None)
Begins p i (s.Closing q next.Renew) = q ≡ p
Begins p i (s.Closing q (next.Again birth)) = q ≡ p
Begins p i (s.Closing q (next.Refused f)) = (q ≡ p) × (f ≡ why.Memory)
Begins p i (s.Reading b None g) = (b.point ≡ p) × (g.chunks ≡ []) × ((x : Index) × IsBornAt p i x × HasPaths b x)
Begins p i x = ⊥

-- the index is to be disabled
abbrev pub IsDisabling : TableId → IndexId → BuildFault → BuildState → Type 0
IsDisabling t i f (s.Disabling r g) = (r.definition ≡ d.Disabled t i) × (r.state ≡ state.Defining) × (g ≡ f)
IsDisabling t i f x = ⊥

-- what comes where no point was opened
abbrev pub IsUnopened : TableId → IndexId → BuildFault → Came → Type 0
IsUnopened t i f (came.On x) = IsDisabling t i f x
IsUnopened t i f (came.Over r) = r ≡ Err f
IsUnopened t i f (came.Waits x) = ⊥

-- what comes once all rows that were read have their base versions
abbrev pub ReadsOn : Build → TableId → IndexId → Option (List ℕ) → BuildState → Type 0
ReadsOn b t i (Some last) (s.Reading b' (Some after) g) = (b' ≡ b) × (after ≡ last) × (g.chunks ≡ [])
ReadsOn b t i None (s.Activating p r) = (p ≡ b.point) × (r.definition ≡ d.Active t i) × (r.state ≡ state.Defining)
ReadsOn b t i last x = ⊥

-- what comes where these rows are still to be given their base versions: the last piece is next
abbrev pub BasesOn : Build → TableId → IndexId → List (List BaseRow) → Option (List ℕ) → BuildState → Type 0
BasesOn b t i ps last (s.Basing b' xs more last') = (b' ≡ b) × (last' ≡ last) × (ps ≡ more ++ xs ∷ [])
BasesOn b t i ps last x = (ps ≡ []) × ReadsOn b t i last x

-- what comes of chunks whose base versions were made
abbrev pub IsMade : Build → TableId → IndexId → List (List FoundKey) → Option (List ℕ) → BuildState → Type 0
IsMade b t i cs last x = (ps : List (List BaseRow)) × ArePieces b.point.found.table.columns b.keys b.columns cs ps × BasesOn b t i ps last x

-- what comes of chunks whose base versions were to be made
abbrev pub AfterMaking : Build → TableId → IndexId → List (List FoundKey) → Option (List ℕ) → BuildState → Type 0
AfterMaking b t i cs last (s.Closing p (next.Refused (why.Limit bound.Key count))) = (p ≡ b.point) × (count ≡ most_key) × HasLongChunk b.columns cs
AfterMaking b t i cs last (s.Closing p (next.Refused why.Memory)) = p ≡ b.point
AfterMaking b t i cs last x = IsMade b t i cs last x

-- it reads on, where there is more, with these chunks
abbrev pub Gathers : Build → List (List FoundKey) → Option (List ℕ) → BuildState → Type 0
Gathers b cs (Some last) (s.Reading b' (Some after) g) = (b' ≡ b) × (after ≡ last) × (g.chunks ≡ cs)
Gathers b cs last x = ⊥

-- what comes of a chunk, behind these
abbrev pub AfterLook : Build → TableId → IndexId → List (List FoundKey) → Chunk → BuildState → Type 0
AfterLook b t i cs c x = Gathers b (gathered_then cs c.found) c.next x ⊎ AfterMaking b t i (gathered_then cs c.found) c.next x
