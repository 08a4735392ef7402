-- The steps of a query, arm by arm, over what a seat knows.
use Rattle.std.proofs.Common.{ℕ, ◌≡◌, ◌≤◌, Bool, true, false, Option, None, Some, IsSome, Result, Ok, Err, List, [], ◌∷◌, ◌++◌, length, take, refl, sym, ◌∙◌, ap, subst, arith, inl, inr, length-append}
use Rattle.std.specs.Prelude.{Vec}
use Rattle.std.specs.Option.{is_some}
use Rattle.std.specs.declared.alloc.Global.{Global}
use Rattle.std.proofs.lemmas.List.{take-append-le, take_all}
use Rattle.px_values.specs.declared.name.TableId.{TableId}
use Rattle.px_tables.specs.declared.found.Found.{Found}
use Rattle.px_tables.specs.declared.index.Index.{Index}
use Rattle.px_trail.specs.declared.entry.Act.{Act}
use Rattle.px_trail.specs.declared.entry.Act.TheVariants as act
use Rattle.px_trail.specs.declared.entry.Entry.{Entry}
use Rattle.px_trail.specs.Answers.{Given, IsAmong}
use Rattle.px_trail.specs.Batches.{IsDecided}
use Rattle.px_trail.specs.Legal.{Follows, IsLegal, MayCome}
use Rattle.px_trail.specs.Trail.{Base, catalogue_of, horizon_of, horizon_step, last_of, last_step, table_of}
use Rattle.px_trail.proofs.Growth.{horizon-snoc, last-snoc}
use Rattle.px_trail.proofs.States.{decided-stays}
use Rattle.px_calls.specs.declared.fault.StepFault.TheVariants as step
use Rattle.px_calls.specs.declared.query.By.{By}
use Rattle.px_calls.specs.declared.query.By.TheVariants as by
use Rattle.px_calls.specs.declared.query.Chunk.{Chunk}
use Rattle.px_calls.specs.declared.query.Doubt.{Doubt}
use Rattle.px_calls.specs.declared.query.Fixing.{Fixing}
use Rattle.px_calls.specs.declared.query.FoundKey.{FoundKey}
use Rattle.px_calls.specs.declared.query.FoundKey.TheVariants.{InDoubt}
use Rattle.px_calls.specs.declared.query.Held.{Held}
use Rattle.px_calls.specs.declared.query.Path.{Path}
use Rattle.px_calls.specs.declared.query.Point.{Point}
use Rattle.px_calls.specs.Known.{Adds, Known, Ran, Sees, TimePasses, outline}
use Rattle.px_calls.specs.Causes.{Refuses, open_cause, stamp_at}
use Rattle.px_calls.specs.Calls.{DidConsult, DidFix, DidLook, DidOpen, IsFound}
use Rattle.px_values.specs.Limits.{most_key}
use Rattle.px_keys.specs.Reading.{IsKey}
use Rattle.px_paths.specs.Paths.{columns_on}
use Rattle.px_calls.specs.Looks.{AreDoubtsOf, IsDoubtOf, columns_by, index_path_in}
use Rattle.px_calls.specs.Requires.{CanConsult, CanReadBy, IsReadable, IsScn, index_of_found}
use Rattle.px_calls.proofs.Points.{adds-opened, quiet-open}
use Rattle.px_calls.proofs.Runs.{may-come, outline-append, ran-adds, ran-none, ran-sees, ran-then}
use Rattle.px_calls.proofs.Stays.{drawn-stays, table-was}
use Rattle.px_gather.specs.Answers.{IsPointOfQuery}
use Rattle.px_gather.specs.Gathered.{Ended, Frame, Gathered, Pending, is_full, kept_held, up_to}
use Rattle.px_gather.specs.Query.{IsPathFor, Query}
use Rattle.px_gather.proofs.Answering.{answer-is}
use Rattle.px_gather.proofs.Gathering as gathering
use Rattle.px_scan.specs.declared.answer.Answer.{Answer}
use Rattle.px_scan.specs.declared.answer.Placed.{Placed}
use Rattle.px_scan.specs.declared.answer.QueryFault.{QueryFault}
use Rattle.px_scan.specs.declared.answer.QueryFault.TheVariants as fault
use Rattle.px_scan.specs.declared.answer.QueryTurn.TheVariants as turn
use Rattle.px_scan.specs.declared.machine.QueryState.{QueryState}
use Rattle.px_scan.specs.declared.machine.QueryState.TheVariants as state
use Rattle.px_scan.specs.declared.machine.Rest.{Rest}
use Rattle.px_scan.specs.declared.machine.Scan.{Scan}
use Rattle.px_scan.specs.Faults.{FaultIs, QueryEndSince, QueryFaultIs, QueryFaultSince}
use Rattle.px_scan.specs.Turns.{AfterFix, AfterLook, ClosesAs, FitsScan, GoesOn, Grown, IsBound, IsNext, IsQueryGoing, IsQueryNew, IsQueryOutcome, IsQuerySince, IsReadingAt, IsScanning, QueryEdge, QuerySoFar, QueryTurns, Quiet, RanQuery, frame, frame_of, given_of, opened_by_query, opening, point_acts, queried_table}
use Rattle.px_scan.proofs.Quieting.{Later, ended-as, ended-since, fault-at, grown-passes, grown-quiet, later-at, later-grown, later-ran, longer, made-earlier, made-later, quiet-sees}

-- 1. What time leaves

-- a fact of a frame and the entries stays, where more entries leave it
moved : (P : Frame → List Entry → Type 0) (q : Query) (p : Point) (path : Path) (k k' : Known) → ((es more : List Entry) → P (frame_of q k p path) es → P (frame_of q k p path) (es ++ more)) → Later k k' → P (frame_of q k p path) k.seen → P (frame_of q k' p path) k'.seen
moved P q p path k k' grows g h =
    let one : P (frame_of q k p path) k'.seen = subst (λ (l : List Entry). P (frame_of q k p path) l) (sym g.seen) (grows k.seen g.more h) in
    subst (λ (b : Base). P (record { base = b; point = p; query = q; path = path }) k'.seen) (sym g.base) one

pub later-gathered : (q : Query) (p : Point) (path : Path) (k k' : Known) (done : List ℕ → Bool) (rows : List Given) → Later k k' → Gathered (frame_of q k p path) k.seen done rows → Gathered (frame_of q k' p path) k'.seen done rows
later-gathered q p path k k' done rows g h = moved (λ f es. Gathered f es done rows) q p path k k' (λ es more. gathering.gathered-grows (frame_of q k p path) es more done rows) g h

pub later-pending : (q : Query) (p : Point) (path : Path) (k k' : Known) (n : ℕ) (keys : List FoundKey) (next : Option (List ℕ)) (rows : List Given) → Later k k' → Pending (frame_of q k p path) k.seen n keys next rows → Pending (frame_of q k' p path) k'.seen n keys next rows
later-pending q p path k k' n keys next rows g h = moved (λ f es. Pending f es n keys next rows) q p path k k' (λ es more. gathering.pending-grows (frame_of q k p path) es more n keys next rows) g h

pub later-ended : (q : Query) (p : Point) (path : Path) (k k' : Known) (rows : List Given) → Later k k' → Ended (frame_of q k p path) k.seen rows → Ended (frame_of q k' p path) k'.seen rows
later-ended q p path k k' rows g h = moved (λ f es. Ended f es rows) q p path k k' (λ es more. gathering.ended-grows (frame_of q k p path) es more rows) g h

point-grows : (b : Base) (es more : List Entry) (q : Query) (scn : Option ℕ) (p : Point) → IsPointOfQuery b es q scn p → IsPointOfQuery b (es ++ more) q scn p
point-grows b es more q scn p h =
    let at : ℕ = p.found.at in
    let same : take at es ≡ take at (es ++ more) = sym (take-append-le at es more h.within) in
    record {
      table = h.table;
      is_scn = h.is_scn;
      within = (let w = h.within in omega (arith, length-append es more));
      stamp = h.stamp ∙ ap (stamp_at scn q.table b) same;
      low = subst (λ (l : List Entry). horizon_of b q.table l ≤ p.stamp) same h.low;
      high = subst (λ (l : List Entry). p.stamp ≤ last_of b q.table l) same h.high;
      decided = λ is. subst (λ (l : List Entry). IsDecided l q.table p.stamp) same (h.decided is);
      found = subst (λ (l : List Entry). IsFound b l p.found) same h.found;
      found_table = h.found_table;
    }

pub later-point : (k k' : Known) (q : Query) (scn : Option ℕ) (p : Point) → Later k k' → IsPointOfQuery k.base k.seen q scn p → IsPointOfQuery k'.base k'.seen q scn p
later-point k k' q scn p g h =
    subst (λ (c : Base). IsPointOfQuery c k'.seen q scn p) (sym g.base) (subst (λ (l : List Entry). IsPointOfQuery k.base l q scn p) (sym g.seen) (point-grows k.base k.seen g.more q scn p h))

pub grown-reading : (k k' : Known) (q : Query) (scn : Option ℕ) (p : Point) → Grown k k' → IsReadingAt k q scn p → IsReadingAt k' q scn p
grown-reading k k' q scn p g h = record { is_open = quiet-open k k' g.more p g.seen g.quiet g.seat h.is_open; point = later-point k k' q scn p (later-grown k k' g) h.point }

pub grown-scanning : (sound : Type 0) (k k' : Known) (q : Query) (scn : Option ℕ) (x : Scan) (keys : List FoundKey) (next : Option (List ℕ)) (at : ℕ) → Grown k k' → IsScanning sound k q scn x keys next at → IsScanning sound k' q scn x keys next at
grown-scanning sound k k' q scn x keys next at g h = record { reading = grown-reading k k' q scn x.point g h.reading; path = h.path; doubts = h.doubts; pending = λ is_sound. later-pending q x.point x.path k k' at keys next (given_of x.rows.items) (later-grown k k' g) (h.pending is_sound) }

-- a query that is bound to its table stays so
pub bound-stays : (k k' : Known) (q : Query) → Later k k' → IsLegal k'.base k'.seen → IsBound k q → IsBound k' q
bound-stays k k' q g legal h =
    let l : IsLegal k.base (k.seen ++ g.more) = subst (λ (b : Base). IsLegal b (k.seen ++ g.more)) g.base (subst (λ (s : List Entry). IsLegal k'.base s) g.seen legal) in
    let tables : table_of k'.base k'.seen q.table ≡ table_of k.base (k.seen ++ g.more) q.table = ap (λ (b : Base). table_of b k'.seen q.table) g.base ∙ ap (λ (s : List Entry). table_of k.base s q.table) g.seen in
    let next : (catalogue_of k'.base k'.seen).next ≡ (catalogue_of k.base (k.seen ++ g.more)).next = ap (λ (b : Base). (catalogue_of b k'.seen).next) g.base ∙ ap (λ (s : List Entry). (catalogue_of k.base s).next) g.seen in
    record {
      drawn = (let d = drawn-stays k.base q.table k.seen g.more l h.drawn in omega arith);
      is = λ x now. h.is x (table-was k.base q.table k.seen g.more x l h.drawn (sym tables ∙ now));
    }

pub fits-kept : (sound : Type 0) (q : Query) (scn : Option ℕ) (s : QueryState) (k k' : Known) → TimePasses k k' → FitsScan sound q scn s k → FitsScan sound q scn s k'
fits-kept sound q scn (state.Opening rows) k k' h f = (f.0, bound-stays k k' q (later-grown k k' (grown-passes k k' h)) h.legal f.1, f.2)
fits-kept sound q scn (state.Looking x a) k k' h f = let g = grown-passes k k' h in (grown-reading k k' q scn x.point g f.0, f.1, λ is_sound. later-gathered q x.point x.path k k' (up_to a) (given_of x.rows.items) (later-grown k k' g) (f.2 is_sound))
fits-kept sound q scn (state.Consulting x r d) k k' h f = (grown-scanning sound k k' q scn x (InDoubt d ∷ r.keys.items) r.next r.at (grown-passes k k' h) f.0, f.1)
fits-kept sound q scn (state.Fixing x r d) k k' h f = (grown-scanning sound k k' q scn x r.keys.items r.next r.at (grown-passes k k' h) f.0, f.1)
fits-kept sound q scn (state.Settling x r d) k k' h f = (grown-scanning sound k k' q scn x r.keys.items r.next r.at (grown-passes k k' h) f.0, f.1)
fits-kept sound q scn (state.Closing p (Ok rows)) k k' h f = let g = grown-passes k k' h in (grown-reading k k' q scn p g f.0, (f.1.0, f.1.1, λ is_sound. later-ended q p f.1.0 k k' (given_of rows.items) (later-grown k k' g) (f.1.2 is_sound)))
fits-kept sound q scn (state.Closing p (Err e)) k k' h f =
    let g = grown-passes k k' h in
    let l = later-grown k k' g in
    (grown-reading k k' q scn p g f.0, (later-at sound q p e k k' l f.1.0, made-later p.found.at e k k' f.0.point.within l f.1.1))
fits-kept sound q scn state.Over k k' h f = tt

-- 2. States that go on from a point

pub goes-looking : (sound : Type 0) (k : Known) (q : Query) (scn : Option ℕ) (x : Scan) (a : Option (List ℕ)) → IsReadingAt k q scn x.point → IsPathFor q x.point x.path → (sound → Gathered (frame q k x) k.seen (up_to a) (given_of x.rows.items)) → GoesOn sound k q scn x.point (state.Looking x a)
goes-looking sound k q scn x a h path c = record { fits = (h, path, c); going = tt; opened_is = refl; since = λ n le. le }

pub goes-consulting : (sound : Type 0) (k : Known) (q : Query) (scn : Option ℕ) (x : Scan) (r : Rest) (d : Doubt) → IsScanning sound k q scn x (InDoubt d ∷ r.keys.items) r.next r.at → (sound → is_full q.limit (length (given_of x.rows.items)) ≡ false) → GoesOn sound k q scn x.point (state.Consulting x r d)
goes-consulting sound k q scn x r d h f = record { fits = (h, f); going = tt; opened_is = refl; since = λ n le. le }

pub goes-fixing : (sound : Type 0) (k : Known) (q : Query) (scn : Option ℕ) (x : Scan) (r : Rest) (d : Doubt) → IsScanning sound k q scn x r.keys.items r.next r.at → IsSome d.verdict → GoesOn sound k q scn x.point (state.Fixing x r d)
goes-fixing sound k q scn x r d h v = record { fits = (h, v); going = tt; opened_is = refl; since = λ n le. le }

pub goes-settling : (sound : Type 0) (k : Known) (q : Query) (scn : Option ℕ) (x : Scan) (r : Rest) (d : Doubt) → IsScanning sound k q scn x r.keys.items r.next r.at → IsSome d.verdict → GoesOn sound k q scn x.point (state.Settling x r d)
goes-settling sound k q scn x r d h v = record { fits = (h, v); going = tt; opened_is = refl; since = λ n le. le }

pub goes-ended : (sound : Type 0) (k : Known) (q : Query) (scn : Option ℕ) (p : Point) (path : Path) (rows : Vec Placed Global) → IsReadingAt k q scn p → IsPathFor q p path → (sound → Ended (frame_of q k p path) k.seen (given_of rows.items)) → GoesOn sound k q scn p (state.Closing p (Ok rows))
goes-ended sound k q scn p path rows h c e = record { fits = (h, (path, c, e)); going = tt; opened_is = refl; since = λ n le. le }

pub goes-failed : (sound : Type 0) (k : Known) (q : Query) (scn : Option ℕ) (p : Point) (f : QueryFault) → IsReadingAt k q scn p → FaultIs sound q f k → QueryFaultSince p.found.at f k → GoesOn sound k q scn p (state.Closing p (Err f))
goes-failed sound k q scn p f h told made = record { fits = (h, (fault-at sound q p f k told, made)); going = tt; opened_is = refl; since = λ n le. le }

-- a step that went on from a point
pub steps : (sound : Type 0) (k k' : Known) (q : Query) (scn : Option ℕ) (p : Point) (old new : QueryState) → Quiet k k' → opened_by_query old ≡ opening p → ClosesAs old turn.Stepped → ((n : ℕ) → IsQuerySince n old k → n ≤ p.found.at) → GoesOn sound k' q scn p new → QueryEdge sound old k new k' → QueryTurns sound q scn old k new k' turn.Stepped
steps sound k k' q scn p old new h was closes since g edge = record {
  acts = h.acts;
  ran = h.ran;
  fits = g.fits;
  told = (g.going, ap (λ (l : List Act). l ++ outline h.acts) was ∙ (ap (λ (l : List Act). act.Opened p.table p.stamp p.scn ∷ l) h.quiet ∙ sym g.opened_is));
  since = λ n s. g.since n (since n s);
  edge = edge;
  closes = closes;
}

-- a step that ended the scan with a fault
pub fails : (sound : Type 0) (k k' : Known) (q : Query) (scn : Option ℕ) (p : Point) (old new : QueryState) (f : QueryFault) → new ≡ state.Closing p (Err f) → IsReadingAt k q scn p → opened_by_query old ≡ opening p → ClosesAs old turn.Stepped → ((n : ℕ) → IsQuerySince n old k → n ≤ p.found.at) → Quiet k k' → FaultIs sound q f k' → QueryFaultSince p.found.at f k' → QueryEdge sound old k (state.Closing p (Err f)) k' → QueryTurns sound q scn old k new k' turn.Stepped
fails sound k k' q scn p old new f is h was closes since quiet told made edge =
    subst (λ (n : QueryState). QueryTurns sound q scn old k n k' turn.Stepped) (sym is)
    (steps sound k k' q scn p old (state.Closing p (Err f)) quiet was closes since (goes-failed sound k' q scn p f (grown-reading k k' q scn p (grown-quiet k k' quiet) h) told made) edge)

-- 3. Looks and doubts

pub looked : (sound : Type 0) (k k' : Known) (q : Query) (scn : Option ℕ) (x : Scan) (a : Option (List ℕ)) (c : Chunk) → FitsScan sound q scn (state.Looking x a) k → DidLook sound k k' x.point x.path a c → IsScanning sound k' q scn x c.found c.next c.at
looked sound k k' q scn x a c h l =
    let p = l.finds.sees.passes in
    let rows : List Given = given_of x.rows.items in
    let base : sound → Gathered (frame q k' x) k.seen (up_to a) rows = λ is_sound. subst (λ (b : Base). Gathered (record { base = b; point = x.point; query = q; path = x.path }) k.seen (up_to a) rows) (sym p.base) (h.2 is_sound) in
    record {
      reading = grown-reading k k' q scn x.point (grown-passes k k' p) h.0;
      path = h.1;
      doubts = l.shows.doubts;
      pending = λ is_sound. gathering.looks (frame q k' x) k k' a c p.others rows refl p.seen h.0.point.within h.1 (base is_sound) l.shows (l.rows is_sound) l.at;
    }

-- the index of a doubt may be asked about
readable : (p : Point) (d : Doubt) (o : Option Index) → IsReadable p o → (x : Index) × (o ≡ Some x)
readable p d None h = absurd h
readable p d (Some x) h = (x, refl)

pub can-consult : (sound : Type 0) (k : Known) (q : Query) (scn : Option ℕ) (x : Scan) (keys : List FoundKey) (next : Option (List ℕ)) (at : ℕ) (d : Doubt) → IsScanning sound k q scn x (InDoubt d ∷ keys) next at → CanConsult x.point d
can-consult sound k q scn x keys next at d h =
    let right : IsDoubtOf x.point.found x.path.by d = h.doubts d (gathering.here (InDoubt d) keys) in
    let can : CanReadBy x.point (by.Index d.index) = subst (CanReadBy x.point) right.0 h.path.can in
    let i = readable x.point d (index_of_found x.point.found d.index.0) can in
    record {
      index = i.0;
      is = i.1;
      key =
          subst (λ (o : Option Index). IsKey most_key (columns_on (index_path_in x.point.found o)) d.key) i.1
          (subst (λ (b : By). IsKey most_key (columns_on (columns_by x.point.found b)) d.key) right.0 right.1);
    }

-- the doubts behind a key
pub fewer-doubts : (f : Found) (w : By) (key : FoundKey) (keys : List FoundKey) → AreDoubtsOf f w (key ∷ keys) → AreDoubtsOf f w keys
unfolding IsAmong
fewer-doubts f w key keys h d among = h d (inr among)

-- the doubt's row is taken, where it was held
pub consulted : (sound : Type 0) (k k' : Known) (q : Query) (scn : Option ℕ) (x y : Scan) (r : Rest) (d d' : Doubt) (ho : Option Held) → y.point ≡ x.point → y.path ≡ x.path → FitsScan sound q scn (state.Consulting x r d) k → DidConsult sound k k' x.point d d' ho → given_of y.rows.items ≡ given_of x.rows.items ++ kept_held q ho → IsScanning sound k' q scn y r.keys.items r.next r.at
consulted sound k k' q scn x y r d d' ho point path h l rows =
    let s = grown-scanning sound k k' q scn x (InDoubt d ∷ r.keys.items) r.next r.at (grown-passes k k' l.finds.sees.passes) h.0 in
    let one : sound → Pending (frame q k' x) k'.seen r.at r.keys.items r.next (given_of x.rows.items ++ kept_held q ho) = λ is_sound. gathering.pending-doubt (frame q k' x) k' r.at d r.keys.items r.next (given_of x.rows.items) ho refl (h.1 is_sound) (s.pending is_sound) (l.held is_sound) in
    let two : sound → Pending (frame q k' x) k'.seen r.at r.keys.items r.next (given_of y.rows.items) = λ is_sound. subst (λ (g : List Given). Pending (frame q k' x) k'.seen r.at r.keys.items r.next g) (sym rows) (one is_sound) in
    record {
      reading = subst (IsReadingAt k' q scn) (sym point) s.reading;
      path = subst (λ (p : Point). IsPathFor q p y.path) (sym point) (subst (IsPathFor q x.point) (sym path) s.path);
      doubts = subst (λ (p : Point). AreDoubtsOf p.found y.path.by r.keys.items) (sym point) (subst (λ (w : Path). AreDoubtsOf x.point.found w.by r.keys.items) (sym path) (fewer-doubts x.point.found x.path.by (InDoubt d) r.keys.items s.doubts));
      pending = λ is_sound.
          subst (λ (p : Point). Pending (frame_of q k' p y.path) k'.seen r.at r.keys.items r.next (given_of y.rows.items)) (sym point)
          (subst (λ (w : Path). Pending (frame_of q k' x.point w) k'.seen r.at r.keys.items r.next (given_of y.rows.items)) (sym path) (two is_sound));
    }

pub consults : (sound : Type 0) (k k' : Known) (q : Query) (scn : Option ℕ) (x y : Scan) (r : Rest) (d d' : Doubt) (ho : Option Held) → y.point ≡ x.point → y.path ≡ x.path → FitsScan sound q scn (state.Consulting x r d) k → DidConsult sound k k' x.point d d' ho → given_of y.rows.items ≡ given_of x.rows.items ++ kept_held q ho
    → QueryTurns sound q scn (state.Consulting x r d) k (state.Fixing y r d') k' turn.Stepped
consults sound k k' q scn x y r d d' ho point path h l rows =
    steps sound k k' q scn y.point (state.Consulting x r d) (state.Fixing y r d') (quiet-sees k k' l.finds.sees) (ap opening (sym point)) tt (λ n le. subst (λ (p : Point). n ≤ p.found.at) (sym point) le)
    (goes-fixing sound k' q scn y r d' (consulted sound k k' q scn x y r d d' ho point path h l rows) l.verdict)
    (ho, l)

pub after-look : (sound : Type 0) (y : Scan) (after : Option (List ℕ)) (k k' : Known) (c : Chunk) (new : QueryState) → IsNext new → DidLook sound k k' y.point y.path after c → AfterLook sound y after k new k'
after-look sound y after k k' c (state.Opening rows) n h = absurd n
after-look sound y after k k' c (state.Looking x a) n h = (n, (c, h))
after-look sound y after k k' c (state.Consulting x r e) n h = (n, (c, h))
after-look sound y after k k' c (state.Fixing x r e) n h = absurd n
after-look sound y after k k' c (state.Settling x r e) n h = absurd n
after-look sound y after k k' c (state.Closing p (Ok u)) n h = (n, (c, h))
after-look sound y after k k' c (state.Closing p (Err f)) n h = tt
after-look sound y after k k' c state.Over n h = absurd n

pub after-fix : (d : Doubt) (k k' : Known) (w : Fixing) (new : QueryState) → IsNext new → DidFix k k' d w → AfterFix d k new k'
after-fix d k k' w (state.Opening rows) n h = absurd n
after-fix d k k' w (state.Looking x a) n h = (n, (w, h))
after-fix d k k' w (state.Consulting x r e) n h = (n, (w, h))
after-fix d k k' w (state.Fixing x r e) n h = absurd n
after-fix d k k' w (state.Settling x r e) n h = absurd n
after-fix d k k' w (state.Closing p (Ok u)) n h = (n, (w, h))
after-fix d k k' w (state.Closing p (Err f)) n h = tt
after-fix d k k' w state.Over n h = absurd n

pub no-memory : (sound : Type 0) (q : Query) (f : QueryFault) (k : Known) → f ≡ fault.Memory → FaultIs sound q f k
no-memory sound q f k is = subst (λ (g : QueryFault). FaultIs sound q g k) (sym is) tt

pub no-memory-made : (m : ℕ) (f : QueryFault) (k : Known) → f ≡ fault.Memory → QueryFaultSince m f k
no-memory-made m f k is = subst (λ (g : QueryFault). QueryFaultSince m g k) (sym is) tt

-- 4. The opening

same_last : (t l s : ℕ) (t' : TableId) (scn : Bool) → last_step t l (act.Opened t' s scn) ≡ l
same_last t l s t' scn = refl

same_horizon : (t h s : ℕ) (t' : TableId) (scn : Bool) → horizon_step t h (act.Opened t' s scn) ≡ h
same_horizon t h s t' scn = refl

pub opened-point : (k k' : Known) (q : Query) (t : TableId) (scn : Option ℕ) (p : Point) → t.0 ≡ q.table → DidOpen k k' t scn p → IsPointOfQuery k'.base k'.seen q scn p
unfolding Follows
opened-point k k' q t scn p number d =
    let at : p.found.at ≡ length k'.seen = d.found.at in
    let all : take p.found.at k'.seen ≡ k'.seen = take_all p.found.at k'.seen (omega arith) in
    let mid = d.adds.between in
    let e = d.adds.extends in
    let entry : Entry = record { seat = mid.seat; calls = e.calls; act = act.Opened t p.stamp p.scn } in
    let may : MayCome mid.base mid.seen entry = may-come mid k' (act.Opened t p.stamp p.scn) e in
    let last : last_of k'.base t.0 k'.seen ≡ last_of mid.base t.0 mid.seen =
    ap (λ (b : Base). last_of b t.0 k'.seen) e.base ∙ (ap (last_of mid.base t.0) e.seen ∙ (last-snoc mid.base t.0 mid.seen entry ∙ same_last t.0 (last_of mid.base t.0 mid.seen) p.stamp t p.scn)) in
    let horizon : horizon_of k'.base t.0 k'.seen ≡ horizon_of mid.base t.0 mid.seen =
    ap (λ (b : Base). horizon_of b t.0 k'.seen) e.base ∙ (ap (horizon_of mid.base t.0) e.seen ∙ (horizon-snoc mid.base t.0 mid.seen entry ∙ same_horizon t.0 (horizon_of mid.base t.0 mid.seen) p.stamp t p.scn)) in
    let legal : IsLegal mid.base (mid.seen ++ entry ∷ []) = subst (λ (l : List Entry). IsLegal mid.base l) e.seen (subst (λ (b : Base). IsLegal b k'.seen) e.base e.legal) in
    let low : horizon_of k'.base t.0 k'.seen ≤ p.stamp = (let f = may.follows.0 in omega arith) in
    let high : p.stamp ≤ last_of k'.base t.0 k'.seen = (let f = may.follows.1 in omega arith) in
    let decided : p.scn ≡ true → IsDecided k'.seen t.0 p.stamp = λ is. subst (λ (l : List Entry). IsDecided l t.0 p.stamp) (sym e.seen) (decided-stays mid.base t.0 p.stamp mid.seen (entry ∷ []) legal (may.follows.2 is) may.follows.1) in
    record {
      table = ap (λ (u : TableId). u.0) d.table ∙ number;
      is_scn = d.is_scn;
      within = omega arith;
      stamp = d.stamp ∙ (ap (λ (u : ℕ). stamp_at scn u k'.base k'.seen) number ∙ ap (stamp_at scn q.table k'.base) (sym all));
      low = subst (λ (l : List Entry). horizon_of k'.base q.table l ≤ p.stamp) (sym all) (subst (λ (u : ℕ). horizon_of k'.base u k'.seen ≤ p.stamp) number low);
      high = subst (λ (l : List Entry). p.stamp ≤ last_of k'.base q.table l) (sym all) (subst (λ (u : ℕ). p.stamp ≤ last_of k'.base u k'.seen) number high);
      decided = λ is. subst (λ (l : List Entry). IsDecided l q.table p.stamp) (sym all) (subst (λ (u : ℕ). IsDecided k'.seen u p.stamp) number (decided is));
      found = subst (λ (l : List Entry). IsFound k'.base l p.found) (sym all) d.found;
      found_table = d.found_table ∙ sym d.table;
    }

pub opened-reading : (k k' : Known) (q : Query) (t : TableId) (scn : Option ℕ) (p : Point) → t.0 ≡ q.table → DidOpen k k' t scn p → IsReadingAt k' q scn p
opened-reading k k' q t scn p number d = record {
  is_open = adds-opened k k' p p.scn (subst (λ (u : TableId). Adds k k' (act.Opened u p.stamp p.scn)) (sym d.table) d.adds);
  point = opened-point k k' q t scn p number d;
}

-- the definition in the point is the one that the query was bound to
pub opened-bound : (k k' : Known) (q : Query) (t : TableId) (scn : Option ℕ) (p : Point) → t.0 ≡ q.table → DidOpen k k' t scn p → IsBound k q → p.found.table ≡ q.bound
opened-bound k k' q t scn p number d h =
    let b = bound-stays k k' q (later-ran k k' _ (ran-adds k k' (act.Opened t p.stamp p.scn) d.adds)) d.adds.extends.legal h in
    b.is p.found.table (ap (λ (n : ℕ). table_of k'.base k'.seen n) (sym (ap (λ (u : TableId). u.0) d.found_table ∙ number)) ∙ d.found.table)

pub opens : (sound : Type 0) (k k' : Known) (q : Query) (scn : Option ℕ) (t : TableId) (rows : Vec Placed Global) (p : Point) (new : QueryState) → t.0 ≡ q.table → DidOpen k k' t scn p → GoesOn sound k' q scn p new → QueryTurns sound q scn (state.Opening rows) k new k' turn.Stepped
opens sound k k' q scn t rows p new number d g =
    let ran = ran-adds k k' (act.Opened t p.stamp p.scn) d.adds in
    record {
      acts = act.Opened t p.stamp p.scn ∷ [];
      ran = ran;
      fits = g.fits;
      told = (g.going, ap (λ (u : TableId). act.Opened u p.stamp p.scn ∷ []) (sym d.table) ∙ sym g.opened_is);
      since = λ n h. g.since n (let l = longer k k' n (later-ran k k' _ ran) h in let a = d.found.at in omega arith);
      edge = tt;
      closes = tt;
    }

pub unopened : (sound : Type 0) (k k' : Known) (q : Query) (scn : Option ℕ) (rows : Vec Placed Global) (f : QueryFault) → QueryFaultIs sound q scn f k' → Sees k k' → ((n : ℕ) → QueryEndSince n q scn f k') → QueryTurns sound q scn (state.Opening rows) k state.Over k' (turn.Over (Err f))
unopened sound k k' q scn rows f told h made = record {
  acts = [];
  ran = ran-sees k k' h;
  fits = tt;
  told = (refl, (told, inl refl));
  since = λ n s. made n;
  edge = tt;
  closes = tt;
}

pub awaits : (sound : Type 0) (k k' : Known) (q : Query) (scn : Option ℕ) (t : TableId) (rows : Vec Placed Global) (stamp : ℕ) → t.0 ≡ q.table → FitsScan sound q scn (state.Opening rows) k → Refuses (open_cause t.0 scn) k k' (step.NotYet stamp) → QueryTurns sound q scn (state.Opening rows) k (state.Opening rows) k' (turn.Waiting stamp)
awaits sound k k' q None t rows stamp number f h = absurd h.0
awaits sound k k' q (Some scn) t rows stamp number f h =
    let s = h.1 in
    let cause = subst (λ (u : ℕ). open_cause u (Some scn) (step.NotYet stamp) k') number h.0 in
    record {
      acts = [];
      ran = ran-sees k k' s;
      fits = (f.0, bound-stays k k' q (later-grown k k' (grown-passes k k' s.passes)) s.passes.legal f.1, f.2);
      told = (tt, refl, cause.2);
      since = λ n le. longer k k' n (later-grown k k' (grown-passes k k' s.passes)) le;
      edge = tt;
      closes = tt;
    }

pub below-horizon : (sound : Type 0) (k k' : Known) (q : Query) (t : TableId) (h : ℕ) (scn : Option ℕ) → t.0 ≡ q.table → Refuses (open_cause t.0 scn) k k' (step.BelowHorizon h) → QueryFaultIs sound q scn (fault.BelowHorizon h) k' × Sees k k'
below-horizon sound k k' q t h None number j = absurd j.0
below-horizon sound k k' q t h (Some scn) number j = (subst (λ (u : ℕ). open_cause u (Some scn) (step.BelowHorizon h) k') number j.0, j.1)

pub no-table : (sound : Type 0) (k k' : Known) (q : Query) (t : TableId) (scn : Option ℕ) → t.0 ≡ q.table → Refuses (open_cause t.0 scn) k k' step.NoTable → QueryFaultIs sound q scn fault.NoTable k' × Sees k k'
no-table sound k k' q t None number j = (ap (λ (u : ℕ). table_of k'.base k'.seen u) (sym number) ∙ j.0, j.1)
no-table sound k k' q t (Some scn) number j = (ap (λ (u : ℕ). table_of k'.base k'.seen u) (sym number) ∙ j.0, j.1)

pub open-closed : (sound : Type 0) (k k' : Known) (q : Query) (t : TableId) (call : ℕ) (scn : Option ℕ) → Refuses (open_cause t.0 scn) k k' (step.Closed call) → QueryFaultIs sound q scn (fault.Closed call) k' × Sees k k'
open-closed sound k k' q t call None j = (j.0, j.1)
open-closed sound k k' q t call (Some scn) j = (j.0, j.1)

pub open-memory : (sound : Type 0) (k k' : Known) (q : Query) (t : TableId) (scn : Option ℕ) → Refuses (open_cause t.0 scn) k k' step.Memory → QueryFaultIs sound q scn fault.Memory k' × Sees k k'
open-memory sound k k' q t None j = (tt, j.1)
open-memory sound k k' q t (Some scn) j = (tt, j.1)

-- 5. The closing

acts_are : (b : Base) (es : List Entry) (q : Query) (scn : Option ℕ) (p : Point) → IsPointOfQuery b es q scn p → act.Opened p.table p.stamp p.scn ∷ act.Released p.table p.stamp ∷ [] ≡ point_acts b es q scn p.found.at
acts_are b es q scn p h =
    let number : p.table ≡ queried_table q = ap (λ (n : ℕ). record { 0 = n }) h.table in
    ap (λ (t : TableId). act.Opened t p.stamp p.scn ∷ act.Released t p.stamp ∷ []) number
    ∙ (ap (λ (f : Bool). act.Opened (queried_table q) p.stamp f ∷ act.Released (queried_table q) p.stamp ∷ []) h.is_scn
    ∙ ap (λ (s : ℕ). act.Opened (queried_table q) s (is_some scn) ∷ act.Released (queried_table q) s ∷ []) h.stamp)

pub closes-ok : (sound : Type 0) (k k' : Known) (q : Query) (scn : Option ℕ) (p : Point) (rows : Vec Placed Global) (a : Answer) → FitsScan sound q scn (state.Closing p (Ok rows)) k → Adds k k' (act.Released p.table p.stamp)
    → a.rows ≡ rows → a.first ≡ p.found.at → a.last ≡ length k'.seen → QueryTurns sound q scn (state.Closing p (Ok rows)) k state.Over k' (turn.Over (Ok a))
closes-ok sound k k' q scn p rows a h adds same first last =
    let ran = ran-adds k k' (act.Released p.table p.stamp) adds in
    let l = later-ran k k' _ ran in
    let point : IsPointOfQuery k'.base k'.seen q scn p = later-point k k' q scn p l h.0.point in
    let path : Path = h.1.0 in
    let ended : sound → Ended (frame_of q k' p path) k'.seen (given_of rows.items) = λ is_sound. later-ended q p path k k' (given_of rows.items) l (h.1.2 is_sound) in
    let mine : sound → Ended (frame_of q k' p path) k'.seen (given_of a.rows.items) = λ is_sound. subst (λ (v : Vec Placed Global). Ended (frame_of q k' p path) k'.seen (given_of v.items)) (sym same) (ended is_sound) in
    record {
      acts = act.Released p.table p.stamp ∷ [];
      ran = ran;
      fits = tt;
      told = (
        refl,
        (
          record {
            point = p;
            found = subst (λ (n : ℕ). IsFound k'.base (take n k'.seen) p.found) (sym first) point.found;
            at = sym first;
            is_point = point;
            path = path;
            chosen = h.1.1;
            answer = λ is_sound. answer-is (frame_of q k' p path) k'.seen scn a.first a.last (given_of a.rows.items) point adds.extends.legal (mine is_sound) first last;
          },
          acts_are k'.base k'.seen q scn p point ∙ ap (point_acts k'.base k'.seen q scn) (sym first),
          (let w = point.within in omega arith),
          last,
        ),
      );
      since = λ n s. (omega arith);
      edge = tt;
      closes = tt;
    }

pub closes-err : (sound : Type 0) (k k' : Known) (q : Query) (scn : Option ℕ) (p : Point) (f : QueryFault) → FitsScan sound q scn (state.Closing p (Err f)) k → Adds k k' (act.Released p.table p.stamp) → QueryTurns sound q scn (state.Closing p (Err f)) k state.Over k' (turn.Over (Err f))
closes-err sound k k' q scn p f h adds =
    let ran = ran-adds k k' (act.Released p.table p.stamp) adds in
    let l = later-ran k k' _ ran in
    let number : p.table ≡ queried_table q = ap (λ (n : ℕ). record { 0 = n }) h.0.point.table in
    let point : IsPointOfQuery k'.base k'.seen q scn p = later-point k k' q scn p l h.0.point in
    let at = later-at sound q p f k k' l h.1.0 in
    record {
      acts = act.Released p.table p.stamp ∷ [];
      ran = ran;
      fits = tt;
      told = (
        refl,
        (ended-as sound q scn p f k' point at, inr (p.stamp, p.scn, ap (λ (t : TableId). act.Opened t p.stamp p.scn ∷ act.Released t p.stamp ∷ []) number)),
      );
      since = λ n s. ended-since sound n q scn p f k' s point at (made-earlier n p.found.at f k' s (made-later p.found.at f k k' h.0.point.within l h.1.1));
      edge = tt;
      closes = refl;
    }

-- 6. A whole query

pub starts : (sound : Type 0) (q : Query) (scn : Option ℕ) (s : QueryState) (k : Known) → IsQueryNew s → IsBound k q → IsScn scn → QuerySoFar sound q scn k k s
starts sound q scn (state.Opening rows) k h b c = record { acts = []; ran = ran-none k; so_far = refl; fits = (h, b, c); going = tt; since = omega arith }
starts sound q scn (state.Looking x a) k h b c = absurd h
starts sound q scn (state.Consulting x r d) k h b c = absurd h
starts sound q scn (state.Fixing x r d) k h b c = absurd h
starts sound q scn (state.Settling x r d) k h b c = absurd h
starts sound q scn (state.Closing p end) k h b c = absurd h
starts sound q scn state.Over k h b c = absurd h

joined : (old : QueryState) (xs ys : List Act) → outline xs ≡ opened_by_query old → outline (xs ++ ys) ≡ opened_by_query old ++ outline ys
joined old xs ys h = outline-append xs ys ∙ ap (λ (l : List Act). l ++ outline ys) h

-- behind a step that goes on
pub goes_further : (sound : Type 0) (q : Query) (scn : Option ℕ) (k0 k k' : Known) (old new : QueryState) (acts : List Act) → QuerySoFar sound q scn k0 k old → Ran k k' acts → FitsScan sound q scn new k' → IsQueryGoing new → opened_by_query old ++ outline acts ≡ opened_by_query new → IsQuerySince (length k0.seen) new k' → QuerySoFar sound q scn k0 k' new
goes_further sound q scn k0 k k' old new acts h ran fits going own since = record {
  acts = h.acts ++ acts;
  ran = ran-then k0 k k' h.acts acts h.ran ran;
  so_far = joined old h.acts acts h.so_far ∙ own;
  fits = fits;
  going = going;
  since = since;
}

pub steps_on : (sound : Type 0) (q : Query) (scn : Option ℕ) (k0 k k' : Known) (old new : QueryState) → QuerySoFar sound q scn k0 k old → QueryTurns sound q scn old k new k' turn.Stepped → QuerySoFar sound q scn k0 k' new
steps_on sound q scn k0 k k' old new h t = goes_further sound q scn k0 k k' old new t.acts h t.ran t.fits t.told.0 t.told.1 (t.since (length k0.seen) h.since)

pub waits_on : (sound : Type 0) (q : Query) (scn : Option ℕ) (k0 k k' : Known) (old new : QueryState) (stamp : ℕ) → QuerySoFar sound q scn k0 k old → QueryTurns sound q scn old k new k' (turn.Waiting stamp) → QuerySoFar sound q scn k0 k' new
waits_on sound q scn k0 k k' old new stamp h t = goes_further sound q scn k0 k k' old new t.acts h t.ran t.fits t.told.0 t.told.1 (t.since (length k0.seen) h.since)

pub ends_as : (sound : Type 0) (q : Query) (scn : Option ℕ) (k0 k k' : Known) (old new : QueryState) (r : Result Answer QueryFault) → QuerySoFar sound q scn k0 k old → QueryTurns sound q scn old k new k' (turn.Over r) → RanQuery sound q scn k0 k' r
ends_as sound q scn k0 k k' old new (Ok a) h t = record {
  acts = h.acts ++ t.acts;
  ran = ran-then k0 k k' h.acts t.acts h.ran t.ran;
  outcome = subst (λ (l : List Act). IsQueryOutcome sound q scn l k' (Ok a)) (sym (joined old h.acts t.acts h.so_far)) t.told.1;
  since = t.since (length k0.seen) h.since;
}
ends_as sound q scn k0 k k' old new (Err f) h t = record {
  acts = h.acts ++ t.acts;
  ran = ran-then k0 k k' h.acts t.acts h.ran t.ran;
  outcome = subst (λ (l : List Act). IsQueryOutcome sound q scn l k' (Err f)) (sym (joined old h.acts t.acts h.so_far)) t.told.1;
  since = t.since (length k0.seen) h.since;
}
