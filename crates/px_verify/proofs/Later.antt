-- What more entries leave of a report on its way, and the refusals that end one.
use Rattle.std.proofs.Common.{ℕ, ◌≡◌, ◌≤◌, Option, None, Some, Ok, Err, List, [], ◌∷◌, ◌++◌, length, take, sym, ◌∙◌, ap, subst, inl, inr}
use Rattle.std.proofs.lemmas.List.{take-append-le}
use Rattle.px_values.specs.declared.name.IndexId.{IndexId}
use Rattle.px_values.specs.declared.name.TableId.{TableId}
use Rattle.px_tables.specs.declared.index.Index.{Index}
use Rattle.px_trail.specs.declared.entry.Entry.{Entry}
use Rattle.px_trail.specs.Trail.{Base}
use Rattle.px_calls.specs.declared.fault.StepFault.{StepFault}
use Rattle.px_calls.specs.declared.fault.StepFault.TheVariants as step
use Rattle.px_calls.specs.declared.query.By.{By}
use Rattle.px_calls.specs.declared.query.Chunk.{Chunk}
use Rattle.px_calls.specs.declared.query.Point.{Point}
use Rattle.px_calls.specs.Calls.{IsFound}
use Rattle.px_calls.specs.Causes.{Refuses, read_cause}
use Rattle.px_calls.specs.Known.{Known, TimePasses}
use Rattle.px_scan.specs.declared.answer.QueryFault.TheVariants as query
use Rattle.px_scan.specs.Turns.{Grown, Quiet}
use Rattle.px_scan.proofs.Quieting.{Later, grown-passes, later-fault as scan-later, later-grown, longer, made-earlier as scan-earlier, made-later as scan-made, read_ends}
use Rattle.px_scan.proofs.Turning.{grown-reading}
use Rattle.px_verify.specs.declared.answer.ReportFault.{ReportFault}
use Rattle.px_verify.specs.declared.answer.ReportFault.TheVariants as fault
use Rattle.px_verify.specs.declared.machine.Reading.{Reading}
use Rattle.px_verify.specs.declared.machine.ReportState.{ReportState}
use Rattle.px_verify.specs.declared.machine.ReportState.TheVariants as state
use Rattle.px_verify.specs.declared.report.IndexEntry.{IndexEntry}
use Rattle.px_verify.specs.declared.report.Version.{Version}
use Rattle.px_verify.specs.Faults.{FaultIs, HasNoIndex, IsLookFault, ReportFaultIs, ReportFaultSince, fault_of}
use Rattle.px_verify.specs.Looking.{AreLooks, HasFoundChunk, IsLooked}
use Rattle.px_verify.specs.Points.{every_row, greatest_scn}
use Rattle.px_verify.specs.Turns.{AreEntries, AreVersions, FitsReport, IsUnderWay, RowsTo, VersionsTo}

-- 1. Looks

module _ (sound : Type 0) (k k' : Known) (p : Point) (g : Later k k') where
  pub later-looked : (by : By) (after : Option (List ℕ)) (c : Chunk) → HasFoundChunk sound k p by after c → HasFoundChunk sound k' p by after c
  later-looked by after c h = record {
    before = h.before;
    then = h.then;
    did = h.did;
    seen = h.seen ∙ (sym (take-append-le c.at k.seen g.more h.within) ∙ ap (take c.at) (sym g.seen));
    since = h.since;
    within = longer k k' c.at g h.within;
    base = h.base ∙ sym g.base;
  }

  pub later-looks : (by : By) (from : Option (List ℕ)) (cs : List Chunk) (to : Option (List ℕ)) → AreLooks sound k p by from cs to → AreLooks sound k' p by from cs to
  later-looks by from [] to h = h
  later-looks by from (c ∷ cs) to h = (later-looked by from c h.0, (h.1.0, h.1.1, later-looks by (Some h.1.0) cs to h.1.2))

  pub later-all : (by : By) (keys : _) → IsLooked sound k p by keys → IsLooked sound k' p by keys
  later-all by keys h = record {
    before = h.before;
    from = h.from;
    looks = later-looks by None h.before h.from h.looks;
    last = h.last;
    looked = later-looked by h.from h.last h.looked;
    end = h.end;
    keys_are = h.keys_are;
  }

  pub later-entries : (x : Index) (rows : List IndexEntry) → AreEntries sound k p x rows → AreEntries sound k' p x rows
  later-entries x rows h = (h.0, later-all _ h.0 h.1, h.2)

  pub later-versions : (i : IndexId) (x : Index) (versions : List Version) → AreVersions sound k p i x versions → AreVersions sound k' p i x versions
  later-versions i x versions (inl h) = inl (h.0, (h.1.0, later-all _ h.1.0 h.1.1, h.1.2))
  later-versions i x versions (inr h) = inr h

pub later-rows : (sound : Type 0) (k k' : Known) (x : Reading) (after : Option (List ℕ)) → Later k k' → RowsTo sound k x after → RowsTo sound k' x after
later-rows sound k k' x after g h = (h.0, later-looks sound k k' x.point g _ None h.0 after h.1, h.2)

pub later-versions-to : (sound : Type 0) (k k' : Known) (i : IndexId) (x : Reading) (after : Option (List ℕ)) → Later k k' → VersionsTo sound k i x after → VersionsTo sound k' i x after
later-versions-to sound k k' i x after g h = (h.0, later-looks sound k k' x.point g _ None h.0 after h.1, h.2)

-- 2. Faults

later-none : (t : TableId) (i : IndexId) (k k' : Known) → Later k k' → HasNoIndex t i k → HasNoIndex t i k'
later-none t i k k' h j =
    let same : take j.found.at (k.seen ++ h.more) ≡ take j.found.at k.seen = take-append-le j.found.at k.seen h.more j.within in
    let here : take j.found.at k'.seen ≡ take j.found.at k.seen = ap (take j.found.at) h.seen ∙ same in
    record {
      found = j.found;
      within = longer k k' j.found.at h j.within;
      is = subst (λ (b : Base). IsFound b (take j.found.at k'.seen) j.found) (sym h.base) (subst (λ (l : List Entry). IsFound k.base l j.found) (sym here) j.is);
      table = j.table;
      none = j.none;
    }

pub later-fault : (sound : Type 0) (p : Point) (t : TableId) (i : IndexId) (f : ReportFault) (k k' : Known) → Later k k' → FaultIs sound t i f k → FaultIs sound t i f k'
later-fault sound p t i fault.NoTable k k' h j = j
later-fault sound p t i fault.NoIndex k k' h j = later-none t i k k' h j
later-fault sound p t i (fault.BelowHorizon n) k k' h j = j
later-fault sound p t i fault.ReadFault k k' h j = scan-later sound (every_row p) query.ReadFault k k' h j
later-fault sound p t i (fault.Damaged file place) k k' h j = scan-later sound (every_row p) (query.Damaged file place) k k' h j
later-fault sound p t i (fault.Closed call) k k' h j = scan-later sound (every_row p) (query.Closed call) k k' h j
later-fault sound p t i fault.Memory k k' h j = tt

pub made-later : (m : ℕ) (f : ReportFault) (k k' : Known) → m ≤ length k.seen → Later k k' → ReportFaultSince m f k → ReportFaultSince m f k'
made-later m fault.ReadFault k k' le g j = scan-made m query.ReadFault k k' le g j
made-later m f k k' le g j = tt

pub made-earlier : (n m : ℕ) (f : ReportFault) (k : Known) → n ≤ m → ReportFaultSince m f k → ReportFaultSince n f k
made-earlier n m fault.ReadFault k le j = scan-earlier n m query.ReadFault k le j
made-earlier n m f k le j = tt

pub fault-in : (sound : Type 0) (t : TableId) (i : IndexId) (f : ReportFault) (k : Known) → FaultIs sound t i f k → ReportFaultIs sound t i f k
fault-in sound t i fault.NoTable k j = absurd j
fault-in sound t i (fault.BelowHorizon h) k j = absurd j
fault-in sound t i f k j = j

-- a refusal of a look
pub record Ends (sound : Type 0) (t : TableId) (i : IndexId) (k k' : Known) (f : StepFault) : Type 0 where
  pub ends : IsLookFault f
  pub quiet : Quiet k k'
  pub told : FaultIs sound t i (fault_of f) k'
  pub made : (m : ℕ) → m ≤ length k.seen → ReportFaultSince m (fault_of f) k'

pub look-ends : (sound : Type 0) (p : Point) (t : TableId) (i : IndexId) (k k' : Known) (f : StepFault) → Refuses (read_cause sound) k k' f → Ends sound t i k k' f
look-ends sound p t i k k' step.ReadFault h = let e = read_ends sound (every_row p) k k' step.ReadFault h in record { ends = tt; quiet = e.quiet; told = e.told; made = e.made }
look-ends sound p t i k k' step.WriteFault h = absurd h.0
look-ends sound p t i k k' (step.Damaged file place) h = let e = read_ends sound (every_row p) k k' (step.Damaged file place) h in record { ends = tt; quiet = e.quiet; told = e.told; made = λ m le. tt }
look-ends sound p t i k k' (step.Closed call) h = let e = read_ends sound (every_row p) k k' (step.Closed call) h in record { ends = tt; quiet = e.quiet; told = e.told; made = λ m le. tt }
look-ends sound p t i k k' step.Memory h = let e = read_ends sound (every_row p) k k' step.Memory h in record { ends = tt; quiet = e.quiet; told = tt; made = λ m le. tt }
look-ends sound p t i k k' f h = absurd h.0

-- 3. States

pub grown-way : (k k' : Known) (t : TableId) (i : IndexId) (x : Reading) → Grown k k' → IsUnderWay k t i x → IsUnderWay k' t i x
grown-way k k' t i x g h = record { open_point = grown-reading k k' (every_row x.point) (Some greatest_scn) x.point g h.open_point; has = h.has; path = h.path }

pub fits-grown : (sound : Type 0) (t : TableId) (i : IndexId) (s : ReportState) (k k' : Known) → Grown k k' → FitsReport sound t i s k → FitsReport sound t i s k'
fits-grown sound t i state.Opening k k' g f = tt
fits-grown sound t i (state.Rows x after) k k' g f = (grown-way k k' t i x g f.0, later-rows sound k k' x after (later-grown k k' g) f.1, f.2)
fits-grown sound t i (state.Versions x after) k k' g f = let l = later-grown k k' g in (grown-way k k' t i x g f.0, f.1, later-entries sound k k' x.point l x.index x.rows.items f.2, later-versions-to sound k k' i x after l f.3)
fits-grown sound t i (state.Closing p (Ok lists)) k k' g f =
    let l = later-grown k k' g in
    (grown-reading k k' (every_row p) (Some greatest_scn) p g f.0, (f.1.0, f.1.1, later-entries sound k k' p l f.1.0 lists.rows.items f.1.2, later-versions sound k k' p l i f.1.0 lists.versions.items f.1.3))
fits-grown sound t i (state.Closing p (Err e)) k k' g f =
    let l = later-grown k k' g in
    (grown-reading k k' (every_row p) (Some greatest_scn) p g f.0, (f.1.0, later-fault sound p t i e k k' l f.1.1, made-later p.found.at e k k' f.0.point.within l f.1.2))
fits-grown sound t i state.Over k k' g f = tt

pub fits-kept : (sound : Type 0) (t : TableId) (i : IndexId) (s : ReportState) (k k' : Known) → TimePasses k k' → FitsReport sound t i s k → FitsReport sound t i s k'
fits-kept sound t i s k k' h f = fits-grown sound t i s k k' (grown-passes k k' h) f
