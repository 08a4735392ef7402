-- Which trails are legal.
use Rattle.std.specs.Prelude.{◌≡◌, ◌≢◌, ◌⊎◌, ◌<◌, ◌≤◌, ◌+◌, ◌-◌, ◌^◌, ◌++◌, ◌∷◌, [], ℕ, Bool, true, false, length, List, Option, Some, None, IsSome}
use Rattle.px_values.specs.declared.row.Value.{Value}
use Rattle.px_tables.specs.declared.index.Index.{Index}
use Rattle.px_tables.specs.declared.index.IndexState.{IndexState as BuildState}
use Rattle.px_tables.specs.declared.index.IndexState.TheVariants.{Building, Active, Disabled}
use Rattle.px_trail.specs.declared.entry.Act.{Act}
use Rattle.px_trail.specs.declared.entry.Act.TheVariants.{Made, IndexMade, IndexState, Dropped, Begun, Phase, Wrote, Ended, Opened, Released, Raised, Fixed, Based, Missed, Shut}
use Rattle.px_trail.specs.declared.entry.Entry.{Entry}
use Rattle.px_trail.specs.Batches.{Batch, BatchPhase, Marking, Writing, Verifying, Closing, IsBatchIn, IsPending, IsDecided, batch_of, has, is_distinct, phase_of, rows_of, unwritten}
use Rattle.px_trail.specs.Trail.{Base, Catalogue, IsFreeName, calls_of, catalogue_of, closing_call, horizon_of, index_of, last_of, missed_call, open_points, table_of}

-- 1. What stands

abbrev pub greatest_number : ℕ
greatest_number = 18446744073709551615

-- the index stands, and is of this table
pub record IsOf (b : Base) (es : List Entry) (t i : ℕ) : Type 0 where
  pub index : Index
  pub is : index_of b es i ≡ Some index
  pub owner : index.table.0 ≡ t

-- no point of the table is open, and no batch of it has begun and not ended
pub record IsQuiet (es : List Entry) (t : ℕ) : Type 0 where
  pub points : (seat s : ℕ) → open_points seat t s es ≡ 0
  pub batches : (s : ℕ) (x : Batch) → batch_of t s es ≡ Some x → x.ended ≡ true

-- 2. Batches

-- the rows that a Wrote names: each is still to be written, and no earlier batch is pending on it
pub record IsWritable (es : List Entry) (seat t s : ℕ) (rows : List (List Value)) : Type 0 where
  pub batch : Batch
  pub is : batch_of t s es ≡ Some batch
  pub mine : batch.seat ≡ seat
  pub phase : phase_of batch ≡ Writing
  pub some : rows ≢ []
  pub distinct : is_distinct rows ≡ true
  pub left : (r : List Value) → has rows r ≡ true → has (unwritten batch) r ≡ true
  pub first : (r : List Value) → has rows r ≡ true → IsPending es t s r → ⊥

-- the first phase is done before all writes, the third after them
abbrev pub IsPhased : List Entry → ℕ → ℕ → ℕ → ℕ → Type 0
IsPhased es seat t s phase = ((phase ≡ 1) × IsBatchIn es seat t s Marking) ⊎ ((phase ≡ 3) × IsBatchIn es seat t s Verifying)

-- a batch ends behind its third phase, or where the server is closed once all its rows are written
abbrev pub IsEndable : List Entry → ℕ → ℕ → ℕ → Type 0
IsEndable es seat t s = IsBatchIn es seat t s Closing ⊎ ((closing_call es ≢ None) × IsBatchIn es seat t s Verifying)

-- 3. Horizons

-- the horizon may rise to h
pub record MayRaise (b : Base) (es : List Entry) (t h : ℕ) : Type 0 where
  pub stands : IsSome (table_of b es t)
  pub rises : horizon_of b t es < h
  pub last : h ≤ last_of b t es
  pub points : (seat s : ℕ) → 0 < open_points seat t s es → h ≤ s
  pub batches : (s : ℕ) (x : Batch) → batch_of t s es ≡ Some x → x.ended ≡ false → h < s

-- 4. Definitions

-- an index may come into a state: a rebuilding draws a stamp, the other states have the birth's; a rebuilding and a
-- disabling come only where the table is quiet
unfoldable pub MayState : Base → List Entry → ℕ → ℕ → BuildState → ℕ → Type 0
MayState b es t i Building s = (last_of b t es < s) × IsQuiet es t
MayState b es t i Active s = (x : Index) → index_of b es i ≡ Some x → s ≡ x.birth
MayState b es t i Disabled s = ((x : Index) → index_of b es i ≡ Some x → s ≡ x.birth) × IsQuiet es t

-- 5. Legal trails

-- which act may come after these entries, of which seat and with how many device calls before it
unfoldable pub Follows : Base → List Entry → ℕ → ℕ → Act → Type 0
Follows b es seat calls (Made t what) = (t.0 ≡ (catalogue_of b es).next + length what.least_keys) × IsFreeName (catalogue_of b es) what.name
Follows b es seat calls (IndexMade t i s what) = (i.0 ≡ (catalogue_of b es).next + 1) × IsFreeName (catalogue_of b es) what.name × IsSome (table_of b es t.0) × (what.table ≡ t) × (last_of b t.0 es < s)
Follows b es seat calls (IndexState t i state s) = IsOf b es t.0 i.0 × MayState b es t.0 i.0 state s
Follows b es seat calls (Dropped t None) = IsSome (table_of b es t.0) × IsQuiet es t.0
Follows b es seat calls (Dropped t (Some i)) = IsOf b es t.0 i.0 × IsQuiet es t.0
Follows b es seat calls (Begun t s cs) = (last_of b t.0 es < s) × (is_distinct (rows_of cs) ≡ true) × (cs ≢ []) × IsSome (table_of b es t.0)
Follows b es seat calls (Phase t s phase) = IsPhased es seat t.0 s phase
Follows b es seat calls (Wrote t s rows) = IsWritable es seat t.0 s rows
Follows b es seat calls (Ended t s) = IsEndable es seat t.0 s
Follows b es seat calls (Opened t s scn) = (horizon_of b t.0 es ≤ s) × (s ≤ last_of b t.0 es) × (scn ≡ true → IsDecided es t.0 s) × IsSome (table_of b es t.0)
Follows b es seat calls (Released t s) = 0 < open_points seat t.0 s es
Follows b es seat calls (Raised t h) = MayRaise b es t.0 h
Follows b es seat calls (Fixed i key) = IsSome (index_of b es i.0)
Follows b es seat calls (Based i rows) = IsSome (index_of b es i.0)
Follows b es seat calls (Missed call) = ((missed_call es < call) ⊎ ((missed_call es ≡ greatest_number) × (call ≡ greatest_number))) × (call ≤ calls)
Follows b es seat calls (Shut call) = Unit {0}

-- these acts come after a Shut too
abbrev pub is_after_shut : Act → Bool
is_after_shut (Ended t s) = true
is_after_shut (Released t s) = true
is_after_shut act = false

-- the entry may come after these
pub record MayCome (b : Base) (es : List Entry) (e : Entry) : Type 0 where
  pub follows : Follows b es e.seat e.calls e.act
  pub shut : is_after_shut e.act ≡ false → closing_call es ≡ None
  pub calls : calls_of es ≤ e.calls

-- each entry may come after those before it
pub record IsLegal (b : Base) (es : List Entry) : Type 0 where
  pub each : (before : List Entry) (e : Entry) (after : List Entry) → es ≡ before ++ e ∷ after → MayCome b before e
