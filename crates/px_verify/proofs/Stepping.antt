-- The steps of a report, arm by arm, over what a seat knows.
use Rattle.std.proofs.Common.{ℕ, ◌≡◌, ◌≤◌, Bool, true, Option, None, Some, Result, Ok, Err, List, [], ◌∷◌, ◌++◌, map, length, take, refl, sym, ◌∙◌, ap, subst, arith, ◌⊎◌, inl, inr, append_assoc}
use Rattle.std.specs.Prelude.{Vec}
use Rattle.std.specs.declared.alloc.Global.{Global}
use Rattle.std.proofs.lemmas.List.{append-nil, map-append, take_all}
use Rattle.px_values.specs.declared.name.IndexId.{IndexId}
use Rattle.px_values.specs.declared.name.TableId.{TableId}
use Rattle.px_tables.specs.declared.index.Index.{Index}
use Rattle.px_paths.specs.Paths.{FitsRow, index_path}
use Rattle.px_paths.proofs.Keys.{index_key_fits}
use Rattle.px_paths.specs.declared.path.PathColumn.{PathColumn}
use Rattle.px_trail.specs.declared.entry.Act.{Act}
use Rattle.px_trail.specs.declared.entry.Act.TheVariants as act
use Rattle.px_trail.specs.declared.entry.Entry.{Entry}
use Rattle.px_trail.specs.Legal.{IsLegal}
use Rattle.px_trail.specs.Trail.{Base}
use Rattle.px_calls.specs.declared.fault.StepFault.TheVariants as step
use Rattle.px_calls.specs.declared.query.By.{By}
use Rattle.px_calls.specs.declared.query.By.TheVariants as by
use Rattle.px_calls.specs.declared.query.Chunk.{Chunk}
use Rattle.px_calls.specs.declared.query.FoundKey.{FoundKey}
use Rattle.px_calls.specs.declared.query.FoundRow.{FoundRow}
use Rattle.px_calls.specs.declared.query.Point.{Point}
use Rattle.px_calls.specs.Calls.{DidLook, DidOpen}
use Rattle.px_calls.specs.Causes.{Refuses, open_cause, stamp_at}
use Rattle.px_calls.specs.Looks.{is_past}
use Rattle.px_calls.specs.Known.{Adds, Known, Sees, outline}
use Rattle.px_calls.specs.Requires.{IsReadable, index_of_found}
use Rattle.px_calls.proofs.Runs.{outline-append, ran-adds, ran-none, ran-sees, ran-then}
use Rattle.px_gather.proofs.Answering.{IsFixed, point-fixed, point-shape}
use Rattle.px_scan.specs.Turns.{Quiet}
use Rattle.px_scan.proofs.Quieting.{grown-passes, grown-quiet, later-grown, later-ran, longer, quiet-sees}
use Rattle.px_scan.proofs.Turning.{grown-reading, later-point, opened-reading}
use Rattle.px_verify.specs.declared.answer.ReportFault.{ReportFault}
use Rattle.px_verify.specs.declared.answer.ReportFault.TheVariants as fault
use Rattle.px_verify.specs.declared.answer.Reported.{Reported}
use Rattle.px_verify.specs.declared.answer.ReportTurn.TheVariants as turn
use Rattle.px_verify.specs.declared.machine.Lists.{Lists}
use Rattle.px_verify.specs.declared.machine.Reading.{Reading}
use Rattle.px_verify.specs.declared.machine.ReportState.{ReportState}
use Rattle.px_verify.specs.declared.machine.ReportState.TheVariants as state
use Rattle.px_verify.specs.declared.report.IndexEntry.{IndexEntry}
use Rattle.px_verify.specs.declared.report.Report.{Report}
use Rattle.px_verify.specs.declared.report.Version.{Version}
use Rattle.px_verify.specs.Agreement.{ReportAgrees}
use Rattle.px_verify.specs.Faults.{FaultIs, ReportFaultIs, ReportFaultSince}
use Rattle.px_verify.specs.Lists.{HaveKeys, entries_of, entry_for, version_found}
use Rattle.px_verify.specs.Looking.{AreLooks, AreRowsAtPoint, HasFoundChunk, IsLooked, found_in, whole}
use Rattle.px_verify.specs.Points.{HasIndex, IsOpenPoint, IsReportPoint, every_row, greatest_scn}
use Rattle.px_verify.specs.Reports.{report_of}
use Rattle.px_verify.specs.Rising.{AreApart, AreRisingVersions}
use Rattle.px_verify.specs.Turns.{AreEntries, AreVersions, FitsReport, GoesOn, IsReportNew, ReportMovesOn, IsReportOutcome, IsReportSince, IsUnderWay, ReportOpensAndCloses, RanReport, ReportTurns, SoFar, opened_by_report, opening, report_point_acts}
use Rattle.px_verify.proofs.Agreeing.{agrees, entries-apart, entries-are, rows-found, rows_in, versions-rise}
use Rattle.px_verify.proofs.Keeping.{entries-append}
use Rattle.px_verify.proofs.Later.{fault-in, later-entries, later-fault, later-versions, made-earlier, made-later}
use Rattle.px_verify.proofs.Looked.{Part, all-parts, past-all}

-- 1. States that go on from a point

pub goes-failed : (sound : Type 0) (k : Known) (t : TableId) (i : IndexId) (p : Point) (old : ReportState) (f : ReportFault) → IsOpenPoint k p → p.table ≡ t → FaultIs sound t i f k → ReportFaultSince p.found.at f k → ReportMovesOn old (state.Closing p (Err f)) → GoesOn sound k t i p old (state.Closing p (Err f))
goes-failed sound k t i p old f h table told made moves = record { fits = (h, (table, told, made)); going = tt; moves = moves; opened_is = refl; since = λ n le. le }

pub goes-reading : (sound : Type 0) (k : Known) (i : IndexId) (x : Reading) → IsOpenPoint k x.point → index_of_found x.point.found i.0 ≡ Some x.index → x.path ≡ index_path x.point.found.table x.index → x.rows.items ≡ [] → x.versions.items ≡ [] → GoesOn sound k x.point.table i x.point state.Opening (state.Rows x None)
goes-reading sound k i x h is path rows versions = record {
  fits = (record { open_point = h; has = record { table = refl; index = is }; path = path }, ([], refl, λ is_sound. rows), versions);
  going = tt;
  moves = tt;
  opened_is = refl;
  since = λ n le. le;
}

-- the definitions in the point lack the index
pub goes-lacking : (sound : Type 0) (k : Known) (i : IndexId) (p : Point) (f : ReportFault) → IsOpenPoint k p → ((f ≡ fault.NoIndex) × (index_of_found p.found i.0 ≡ None)) ⊎ (f ≡ fault.Memory) → GoesOn sound k p.table i p state.Opening (state.Closing p (Err f))
goes-lacking sound k i p f h (inl lacks) =
    subst (λ (g : ReportFault). GoesOn sound k p.table i p state.Opening (state.Closing p (Err g))) (sym lacks.0)
    (goes-failed sound k p.table i p state.Opening fault.NoIndex h refl (record { found = p.found; within = h.point.within; is = h.point.found; table = h.point.found_table; none = lacks.1 }) tt tt)
goes-lacking sound k i p f h (inr memory) = subst (λ (g : ReportFault). GoesOn sound k p.table i p state.Opening (state.Closing p (Err g))) (sym memory) (goes-failed sound k p.table i p state.Opening fault.Memory h refl tt tt tt)

pub no-memory : (sound : Type 0) (k : Known) (t : TableId) (i : IndexId) (p : Point) (old : ReportState) → IsOpenPoint k p → p.table ≡ t → ReportMovesOn old (state.Closing p (Err fault.Memory)) → GoesOn sound k t i p old (state.Closing p (Err fault.Memory))
no-memory sound k t i p old h table moves = goes-failed sound k t i p old fault.Memory h table tt tt moves

-- 2. One look more

looks-more : (sound : Type 0) (k : Known) (p : Point) (b : By) (from : Option (List ℕ)) (cs : List Chunk) (to : Option (List ℕ)) (c : Chunk) (last : List ℕ) → AreLooks sound k p b from cs to → HasFoundChunk sound k p b to c → c.next ≡ Some last → AreLooks sound k p b from (cs ++ c ∷ []) (Some last)
looks-more sound k p b from [] to c last h looked next = (subst (λ (o : Option (List ℕ)). HasFoundChunk sound k p b o c) (sym h) looked, (last, next, refl))
looks-more sound k p b from (d ∷ cs) to c last h looked next = (h.0, (h.1.0, h.1.1, looks-more sound k p b (Some h.1.0) cs to c last h.1.2 looked next))

found-more : (cs : List Chunk) (c : Chunk) → found_in (cs ++ c ∷ []) ≡ found_in cs ++ c.found
found-more [] c = append-nil c.found
found-more (d ∷ cs) c = ap (λ (l : List FoundKey). d.found ++ l) (found-more cs c) ∙ sym (append_assoc d.found (found_in cs) c.found)

looked-all : (sound : Type 0) (k : Known) (p : Point) (b : By) (cs : List Chunk) (to : Option (List ℕ)) (c : Chunk) → AreLooks sound k p b None cs to → HasFoundChunk sound k p b to c → c.next ≡ None → IsLooked sound k p b (found_in cs ++ c.found)
looked-all sound k p b cs to c h looked end = record { before = cs; from = to; looks = h; last = c; looked = looked; end = end; keys_are = refl }

-- what a point's own words make of the trail
fixed-of : (k : Known) (p : Point) → IsReportPoint k.base k.seen p → IsLegal k.base k.seen → IsFixed k.base k.seen p.table.0 p.stamp p.found.at
fixed-of k p h legal = point-fixed k.base k.seen (every_row p) (Some greatest_scn) p h legal h.is_scn

part-of : (sound : Type 0) (k : Known) (p : Point) (b : By) (keys : List FoundKey) → IsReportPoint k.base k.seen p → IsLegal k.base k.seen → IsLooked sound k p b keys → Part sound k.base k.seen p b None keys
part-of sound k p b keys h legal looked = all-parts sound k p p.table.0 (fixed-of k p h legal) h.is_scn refl h.within b keys looked

-- a look of the seat, in what it has then seen
pub look-in : (sound : Type 0) (k k' : Known) (p : Point) (b : By) (after : Option (List ℕ)) (c : Chunk) → IsOpenPoint k p → DidLook sound k k' p (whole b) after c → HasFoundChunk sound k' p b after c
look-in sound k k' p b after c h d =
    let l = later-grown k k' (grown-quiet k k' (quiet-sees k k' d.finds.sees)) in
    let at : c.at ≡ length k'.seen = d.at in
    let to : p.found.at ≤ length k'.seen = longer k k' p.found.at l h.point.within in
    record {
      before = k;
      then = k';
      did = d;
      seen = sym (take_all c.at k'.seen (omega arith));
      since = omega arith;
      within = omega arith;
      base = refl;
    }

-- each row that a look found has a key in the index
have-keys : (sound : Type 0) (k : Known) (p : Point) (x : Index) (after : Option (List ℕ)) (c : Chunk) → HasFoundChunk sound k p by.Table after c → sound → HaveKeys (index_path p.found.table x) c.found
have-keys sound k p x after c h is_sound f among =
    let rows = h.did.rows is_sound in
    let r = rows.right f among in
    let row : f.row ≡ r.0 = ap (λ (w : FoundRow). w.row) r.2 in
    index_key_fits p.found.table x f.row (subst (FitsRow p.found.table) (sym row) (rows.fits r.0 r.1))

-- where a look doesn't come to the end, it comes to a later key
later-key : (sound : Type 0) (k : Known) (p : Point) (b : By) (after : Option (List ℕ)) (c : Chunk) (last : List ℕ) → HasFoundChunk sound k p b after c → c.next ≡ Some last → is_past after last ≡ true
later-key sound k p b after c last h next =
    let there = h.did.shows.last last next in
    subst (λ (w : List ℕ). is_past after w ≡ true) there.2 (past-all after c.found h.did.shows.rising there.0 there.1)

-- 3. After a look on the table's path

module _ (sound : Type 0) (k : Known) (t : TableId) (i : IndexId) (x : Reading) (after : Option (List ℕ)) (c : Chunk) (r : Vec IndexEntry Global) (f : FitsReport sound t i (state.Rows x after) k) (h : HasFoundChunk sound k x.point by.Table after c)
    (kept : HaveKeys x.path c.found → r.items ≡ x.rows.items ++ entries_of x.path x.index.included c.found) where
  entries-kept : sound → r.items ≡ entries_of x.path x.index.included (found_in f.1.0 ++ c.found)
  entries-kept is_sound =
      kept (subst (λ (p : List PathColumn). HaveKeys p c.found) (sym f.0.path) (have-keys sound k x.point x.index after c h is_sound))
      ∙ (ap (λ (l : List IndexEntry). l ++ entries_of x.path x.index.included c.found) (f.1.2 is_sound)
      ∙ sym (entries-append x.path x.index.included (found_in f.1.0) c.found))

  way-rows : IsUnderWay k t i (record x { rows = r })
  way-rows = record { open_point = f.0.open_point; has = f.0.has; path = f.0.path }

  are-entries : c.next ≡ None → AreEntries sound k x.point x.index r.items
  are-entries end = (
    found_in f.1.0 ++ c.found,
    looked-all sound k x.point by.Table f.1.0 after c f.1.1 h end,
    λ is_sound. entries-kept is_sound ∙ ap (λ (p : List PathColumn). entries_of p x.index.included (found_in f.1.0 ++ c.found)) f.0.path,
  )

  pub rows-more : (last : List ℕ) → c.next ≡ Some last → GoesOn sound k t i x.point (state.Rows x after) (state.Rows (record x { rows = r }) (Some last))
  rows-more last next = record {
    fits = (
      way-rows,
      (
        f.1.0 ++ c ∷ [],
        looks-more sound k x.point by.Table None f.1.0 after c last f.1.1 h next,
        λ is_sound. entries-kept is_sound ∙ sym (ap (entries_of x.path x.index.included) (found-more f.1.0 c)),
      ),
      f.2,
    );
    going = tt;
    moves = later-key sound k x.point by.Table after c last h next;
    opened_is = refl;
    since = λ n le. le;
  }

  pub rows-then : c.next ≡ None → IsReadable x.point (Some x.index) → GoesOn sound k t i x.point (state.Rows x after) (state.Versions (record x { rows = r }) None)
  rows-then end readable = record {
    fits = (way-rows, readable, are-entries end, ([], refl, f.2));
    going = tt;
    moves = tt;
    opened_is = refl;
    since = λ n le. le;
  }

  pub rows-end : c.next ≡ None → (IsReadable x.point (Some x.index) → ⊥) → GoesOn sound k t i x.point (state.Rows x after) (state.Closing x.point (Ok (record { rows = r; versions = x.versions })))
  rows-end end not_readable = record {
    fits = (f.0.open_point, (x.index, f.0.has, are-entries end, inr (not_readable, f.2)));
    going = tt;
    moves = tt;
    opened_is = refl;
    since = λ n le. le;
  }

-- 4. After a look on the index's path

module _ (sound : Type 0) (k : Known) (t : TableId) (i : IndexId) (x : Reading) (after : Option (List ℕ)) (c : Chunk) (v : Vec Version Global) (f : FitsReport sound t i (state.Versions x after) k) (h : HasFoundChunk sound k x.point (by.Index i) after c)
    (kept : v.items ≡ x.versions.items ++ map (version_found x.index.included) c.found) where
  versions-kept : v.items ≡ map (version_found x.index.included) (found_in f.3.0 ++ c.found)
  versions-kept = kept ∙ (ap (λ (l : List Version). l ++ map (version_found x.index.included) c.found) f.3.2 ∙ sym (map-append (version_found x.index.included) (found_in f.3.0) c.found))

  pub versions-more : (last : List ℕ) → c.next ≡ Some last → GoesOn sound k t i x.point (state.Versions x after) (state.Versions (record x { versions = v }) (Some last))
  versions-more last next = record {
    fits = (
      record { open_point = f.0.open_point; has = f.0.has; path = f.0.path },
      f.1,
      f.2,
      (
        f.3.0 ++ c ∷ [],
        looks-more sound k x.point (by.Index i) None f.3.0 after c last f.3.1 h next,
        versions-kept ∙ sym (ap (map (version_found x.index.included)) (found-more f.3.0 c)),
      ),
    );
    going = tt;
    moves = later-key sound k x.point (by.Index i) after c last h next;
    opened_is = refl;
    since = λ n le. le;
  }

  pub versions-end : c.next ≡ None → GoesOn sound k t i x.point (state.Versions x after) (state.Closing x.point (Ok (record { rows = x.rows; versions = v })))
  versions-end end = record {
    fits = (f.0.open_point, (x.index, f.0.has, f.2, inl (f.1, (found_in f.3.0 ++ c.found, looked-all sound k x.point (by.Index i) f.3.0 after c f.3.1 h end, versions-kept))));
    going = tt;
    moves = tt;
    opened_is = refl;
    since = λ n le. le;
  }

-- 5. A step at a point

pub goes-as : (sound : Type 0) (k : Known) (t : TableId) (i : IndexId) (p : Point) (old new other : ReportState) → new ≡ other → GoesOn sound k t i p old other → GoesOn sound k t i p old new
goes-as sound k t i p old new other is h = subst (GoesOn sound k t i p old) (sym is) h

pub steps : (sound : Type 0) (k k' : Known) (t : TableId) (i : IndexId) (p : Point) (old new : ReportState) → Quiet k k' → opened_by_report old ≡ opening p → ((n : ℕ) → IsReportSince n old k → n ≤ p.found.at) → GoesOn sound k' t i p old new → ReportTurns sound t i old k new k' turn.Stepped
steps sound k k' t i p old new h was since g = record {
  acts = h.acts;
  ran = h.ran;
  fits = g.fits;
  told = (g.going, ap (λ (l : List Act). l ++ outline h.acts) was ∙ (ap (λ (l : List Act). act.Opened p.table p.stamp p.scn ∷ l) h.quiet ∙ sym g.opened_is), g.moves);
  since = λ n s. g.since n (since n s);
}

-- a refused look ends the reading
pub fails : (sound : Type 0) (k k' : Known) (t : TableId) (i : IndexId) (p : Point) (old new : ReportState) (f : ReportFault) → new ≡ state.Closing p (Err f) → IsOpenPoint k p → p.table ≡ t → opened_by_report old ≡ opening p → ((n : ℕ) → IsReportSince n old k → n ≤ p.found.at) → Quiet k k' → FaultIs sound t i f k' → ReportFaultSince p.found.at f k' → ReportMovesOn old (state.Closing p (Err f)) → ReportTurns sound t i old k new k' turn.Stepped
fails sound k k' t i p old new f is h table was since quiet told made moves =
    steps sound k k' t i p old new quiet was since (goes-as sound k' t i p old new (state.Closing p (Err f)) is (goes-failed sound k' t i p old f (grown-reading k k' (every_row p) (Some greatest_scn) p (grown-quiet k k' quiet) h) table told made moves))

-- 6. The opening

pub opened-open : (k k' : Known) (t : TableId) (p : Point) → DidOpen k k' t (Some greatest_scn) p → IsOpenPoint k' p
opened-open k k' t p d = opened-reading k k' (every_row p) t (Some greatest_scn) p (sym (ap (λ (u : TableId). u.0) d.table)) d

pub opens : (sound : Type 0) (k k' : Known) (t : TableId) (i : IndexId) (p : Point) (new : ReportState) → DidOpen k k' t (Some greatest_scn) p → GoesOn sound k' p.table i p state.Opening new → ReportTurns sound t i state.Opening k new k' turn.Stepped
opens sound k k' t i p new d g =
    let ran = ran-adds k k' (act.Opened t p.stamp p.scn) d.adds in
    record {
      acts = act.Opened t p.stamp p.scn ∷ [];
      ran = ran;
      fits = subst (λ (u : TableId). FitsReport sound u i new k') d.table g.fits;
      told = (g.going, ap (λ (u : TableId). act.Opened u p.stamp p.scn ∷ []) (sym d.table) ∙ sym g.opened_is, g.moves);
      since = λ n h. g.since n (let l = longer k k' n (later-ran k k' _ ran) h in let a = d.found.at in omega arith);
    }

pub unopened : (sound : Type 0) (k k' : Known) (t : TableId) (i : IndexId) (f : ReportFault) → ReportFaultIs sound t i f k' → Sees k k' → ((n : ℕ) → ReportFaultSince n f k') → ReportTurns sound t i state.Opening k state.Over k' (turn.Over (Err f))
unopened sound k k' t i f told h made = record {
  acts = [];
  ran = ran-sees k k' h;
  fits = tt;
  told = (refl, (told, inl refl));
  since = λ n s. made n;
}

pub awaits : (sound : Type 0) (k k' : Known) (t : TableId) (i : IndexId) (stamp : ℕ) → Refuses (open_cause t.0 (Some greatest_scn)) k k' (step.NotYet stamp) → ReportTurns sound t i state.Opening k state.Opening k' (turn.Waiting stamp)
awaits sound k k' t i stamp h = record {
  acts = [];
  ran = ran-sees k k' h.1;
  fits = tt;
  told = (tt, refl, h.0.2);
  since = λ n le. longer k k' n (later-grown k k' (grown-passes k k' h.1.passes)) le;
}

-- 7. The closing

acts-are : (b : Base) (es : List Entry) (t : TableId) (p : Point) → IsReportPoint b es p → p.table ≡ t → act.Opened p.table p.stamp p.scn ∷ act.Released p.table p.stamp ∷ [] ≡ report_point_acts b es t p.found.at
acts-are b es t p h table =
    ap (λ (f : Bool). act.Opened p.table p.stamp f ∷ act.Released p.table p.stamp ∷ []) h.is_scn
    ∙ (ap (λ (s : ℕ). act.Opened p.table s true ∷ act.Released p.table s ∷ []) h.stamp
    ∙ ap (λ (u : TableId). act.Opened u (stamp_at (Some greatest_scn) u.0 b (take p.found.at es)) true ∷ act.Released u (stamp_at (Some greatest_scn) u.0 b (take p.found.at es)) ∷ []) table)

closed-acts : (b : Base) (es : List Entry) (t : TableId) (p : Point) → IsReportPoint b es p → p.table ≡ t → ReportOpensAndCloses t (act.Opened p.table p.stamp p.scn ∷ act.Released p.table p.stamp ∷ [])
closed-acts b es t p h table = (
  p.stamp,
  ap (λ (f : Bool). act.Opened p.table p.stamp f ∷ act.Released p.table p.stamp ∷ []) h.is_scn ∙ ap (λ (u : TableId). act.Opened u p.stamp true ∷ act.Released u p.stamp ∷ []) table,
)

none-rise : AreRisingVersions []
unfolding AreRisingVersions
none-rise = tt

module _ (sound : Type 0) (k : Known) (i : IndexId) (p : Point) (x : Index) (is : index_of_found p.found i.0 ≡ Some x) (point : IsReportPoint k.base k.seen p) (legal : IsLegal k.base k.seen) (is_sound : sound) (rows : List IndexEntry) (versions : List Version) (entries : AreEntries sound k p x rows) where
  table-part : Part sound k.base k.seen p by.Table None entries.0
  table-part = part-of sound k p by.Table entries.0 point legal entries.1

  are-rows : AreRowsAtPoint k.base k.seen p (rows_in entries.0)
  are-rows = rows-found sound k.base k.seen p entries.0 table-part is_sound

  entries-of-rows : rows ≡ map (entry_for p.found.table x) (rows_in entries.0)
  entries-of-rows = entries.2 is_sound ∙ entries-are (index_path p.found.table x) x.included entries.0

  rows-apart : AreApart rows
  rows-apart =
      subst AreApart (sym entries-of-rows)
      (entries-apart k.base k.seen p x (point-shape k.base k.seen (every_row p) (Some greatest_scn) p point legal) (table-part.fits is_sound) (rows_in entries.0) are-rows)

  versions-rising : AreVersions sound k p i x versions → AreRisingVersions versions
  versions-rising (inl h) = subst AreRisingVersions (sym h.1.2) (versions-rise x.included None h.1.0 (part-of sound k p (by.Index i) h.1.0 point legal h.1.1).rising)
  versions-rising (inr h) = subst AreRisingVersions (sym h.1) none-rise

  -- the report is that on the rows at the point
  report-is : (r : Report) → AreVersions sound k p i x versions → (AreApart rows → AreRisingVersions versions → r ≡ report_of rows versions) → r ≡ report_of (map (entry_for p.found.table x) (rows_in entries.0)) versions
  report-is r are compared = compared rows-apart (versions-rising are) ∙ ap (λ (l : List IndexEntry). report_of l versions) entries-of-rows

  agrees-on : (r : Report) → (are : AreVersions sound k p i x versions) → (AreApart rows → AreRisingVersions versions → r ≡ report_of rows versions) → IsReadable p (Some x) → ReportAgrees r
  agrees-on r (inr h) compared readable = absurd (h.0 readable)
  agrees-on r (inl h) compared readable =
      let all : ReportAgrees (report_of (map (entry_for p.found.table x) (rows_in entries.0)) (map (version_found x.included) h.1.0)) =
      agrees sound k.base k.seen p i x is (point-shape k.base k.seen (every_row p) (Some greatest_scn) p point legal) is_sound (rows_in entries.0) are-rows h.1.0 (part-of sound k p (by.Index i) h.1.0 point legal h.1.1) in
      subst ReportAgrees (sym (report-is r (inl h) compared ∙ ap (report_of (map (entry_for p.found.table x) (rows_in entries.0))) h.1.2)) all

pub closes-ok : (sound : Type 0) (k k' : Known) (t : TableId) (i : IndexId) (p : Point) (lists : Lists) (a : Reported) → FitsReport sound t i (state.Closing p (Ok lists)) k → Adds k k' (act.Released p.table p.stamp)
    → (AreApart lists.rows.items → AreRisingVersions lists.versions.items → a.report ≡ report_of lists.rows.items lists.versions.items) → a.first ≡ p.found.at → a.last ≡ length k'.seen → ReportTurns sound t i (state.Closing p (Ok lists)) k state.Over k' (turn.Over (Ok a))
closes-ok sound k k' t i p lists a h adds compared first last =
    let ran = ran-adds k k' (act.Released p.table p.stamp) adds in
    let l = later-ran k k' _ ran in
    let legal = adds.extends.legal in
    let point : IsReportPoint k'.base k'.seen p = later-point k k' (every_row p) (Some greatest_scn) p l h.0.point in
    let x : Index = h.1.0 in
    let has : HasIndex t i p x = h.1.1 in
    let entries : AreEntries sound k' p x lists.rows.items = later-entries sound k k' p l x lists.rows.items h.1.2 in
    let versions : AreVersions sound k' p i x lists.versions.items = later-versions sound k k' p l i x lists.versions.items h.1.3 in
    record {
      acts = act.Released p.table p.stamp ∷ [];
      ran = ran;
      fits = tt;
      told = (
        refl,
        (
          record {
            point = p;
            at = sym first;
            is_point = point;
            index = x;
            has = has;
            versions = lists.versions.items;
            are_versions = versions;
            report = λ is_sound. (
              rows_in entries.0,
              are-rows sound k' i p x has.index point legal is_sound lists.rows.items lists.versions.items entries,
              report-is sound k' i p x has.index point legal is_sound lists.rows.items lists.versions.items entries a.report versions compared,
            );
            agrees = λ is_sound readable. agrees-on sound k' i p x has.index point legal is_sound lists.rows.items lists.versions.items entries a.report versions compared readable;
          },
          acts-are k'.base k'.seen t p point has.table ∙ ap (report_point_acts k'.base k'.seen t) (sym first),
          (let w = point.within in omega arith),
          last,
        ),
      );
      since = λ n s. (omega arith);
    }

closes-with : (sound : Type 0) (k k' : Known) (t : TableId) (i : IndexId) (p : Point) (old : ReportState) (f : ReportFault) → opened_by_report old ≡ opening p → IsOpenPoint k p → p.table ≡ t → Adds k k' (act.Released p.table p.stamp) → FaultIs sound t i f k' → ((n : ℕ) → IsReportSince n old k → ReportFaultSince n f k') → ReportTurns sound t i old k state.Over k' (turn.Over (Err f))
closes-with sound k k' t i p old f was h table adds told made =
    let ran = ran-adds k k' (act.Released p.table p.stamp) adds in
    let point : IsReportPoint k'.base k'.seen p = later-point k k' (every_row p) (Some greatest_scn) p (later-ran k k' _ ran) h.point in
    record {
      acts = act.Released p.table p.stamp ∷ [];
      ran = ran;
      fits = tt;
      told = (
        refl,
        (
          fault-in sound t i f k' told,
          inr (subst (λ (l : List Act). ReportOpensAndCloses t (l ++ act.Released p.table p.stamp ∷ [])) (sym was) (closed-acts k'.base k'.seen t p point table)),
        ),
      );
      since = made;
    }

pub closes-err : (sound : Type 0) (k k' : Known) (t : TableId) (i : IndexId) (p : Point) (f : ReportFault) → FitsReport sound t i (state.Closing p (Err f)) k → Adds k k' (act.Released p.table p.stamp) → ReportTurns sound t i (state.Closing p (Err f)) k state.Over k' (turn.Over (Err f))
closes-err sound k k' t i p f h adds =
    let l = later-ran k k' _ (ran-adds k k' (act.Released p.table p.stamp) adds) in
    closes-with sound k k' t i p (state.Closing p (Err f)) f refl h.0 h.1.0 adds (later-fault sound p t i f k k' l h.1.1) (λ n s. made-earlier n p.found.at f k' s (made-later p.found.at f k k' h.0.point.within l h.1.2))

-- no memory was found to compare the lists
pub closes-full : (sound : Type 0) (k k' : Known) (t : TableId) (i : IndexId) (p : Point) (lists : Lists) (f : ReportFault) → f ≡ fault.Memory → FitsReport sound t i (state.Closing p (Ok lists)) k → Adds k k' (act.Released p.table p.stamp) → ReportTurns sound t i (state.Closing p (Ok lists)) k state.Over k' (turn.Over (Err f))
closes-full sound k k' t i p lists f is h adds =
    subst (λ (g : ReportFault). ReportTurns sound t i (state.Closing p (Ok lists)) k state.Over k' (turn.Over (Err g))) (sym is)
    (closes-with sound k k' t i p (state.Closing p (Ok lists)) fault.Memory refl h.0 h.1.1.table adds tt (λ n s. tt))

-- 8. A whole report

pub starts : (sound : Type 0) (t : TableId) (i : IndexId) (s : ReportState) (k : Known) → IsReportNew s → SoFar sound t i k k s
starts sound t i state.Opening k h = record { acts = []; ran = ran-none k; so_far = refl; fits = tt; going = tt; since = omega arith }
starts sound t i s k h = absurd h

joined : (old : ReportState) (xs ys : List Act) → outline xs ≡ opened_by_report old → outline (xs ++ ys) ≡ opened_by_report old ++ outline ys
joined old xs ys h = outline-append xs ys ∙ ap (λ (l : List Act). l ++ outline ys) h

pub steps_on : (sound : Type 0) (t : TableId) (i : IndexId) (k0 k k' : Known) (old new : ReportState) → SoFar sound t i k0 k old → ReportTurns sound t i old k new k' turn.Stepped → SoFar sound t i k0 k' new
steps_on sound t i k0 k k' old new h r = record {
  acts = h.acts ++ r.acts;
  ran = ran-then k0 k k' h.acts r.acts h.ran r.ran;
  so_far = joined old h.acts r.acts h.so_far ∙ r.told.1;
  fits = r.fits;
  going = r.told.0;
  since = r.since (length k0.seen) h.since;
}

pub waits_on : (sound : Type 0) (t : TableId) (i : IndexId) (k0 k k' : Known) (old new : ReportState) (stamp : ℕ) → SoFar sound t i k0 k old → ReportTurns sound t i old k new k' (turn.Waiting stamp) → SoFar sound t i k0 k' new
waits_on sound t i k0 k k' old new stamp h r = record {
  acts = h.acts ++ r.acts;
  ran = ran-then k0 k k' h.acts r.acts h.ran r.ran;
  so_far = joined old h.acts r.acts h.so_far ∙ r.told.1;
  fits = r.fits;
  going = r.told.0;
  since = r.since (length k0.seen) h.since;
}

pub ends_as : (sound : Type 0) (t : TableId) (i : IndexId) (k0 k k' : Known) (old new : ReportState) (e : Result Reported ReportFault) → SoFar sound t i k0 k old → ReportTurns sound t i old k new k' (turn.Over e) → RanReport sound t i k0 k' e
ends_as sound t i k0 k k' old new (Ok a) h r = record {
  acts = h.acts ++ r.acts;
  ran = ran-then k0 k k' h.acts r.acts h.ran r.ran;
  outcome = subst (λ (l : List Act). IsReportOutcome sound t i l k' (Ok a)) (sym (joined old h.acts r.acts h.so_far)) r.told.1;
  since = r.since (length k0.seen) h.since;
}
ends_as sound t i k0 k k' old new (Err f) h r = record {
  acts = h.acts ++ r.acts;
  ran = ran-then k0 k k' h.acts r.acts h.ran r.ran;
  outcome = subst (λ (l : List Act). IsReportOutcome sound t i l k' (Err f)) (sym (joined old h.acts r.acts h.so_far)) r.told.1;
  since = r.since (length k0.seen) h.since;
}
