-- The rows of the table are read, and given their base versions.
use Rattle.std.proofs.Common.{ℕ, ◌≡◌, Bool, true, Option, None, Some, List, [], ◌∷◌, ◌++◌, ◌⊎◌, refl, sym, subst, inl, inr}
use Rattle.std.specs.List.{AllByRecursion}
use Rattle.px_values.specs.Limits.{most_key}
use Rattle.px_values.specs.declared.limit.Limit.TheVariants as bound
use Rattle.px_values.specs.declared.name.IndexId.{IndexId}
use Rattle.px_values.specs.declared.name.TableId.{TableId}
use Rattle.px_paths.specs.Paths.{index_path, table_path}
use Rattle.px_paths.specs.declared.path.PathColumn.{PathColumn}
use Rattle.px_values.specs.declared.row.Value.{Value}
use Rattle.px_trail.specs.declared.entry.Act.{Act}
use Rattle.px_trail.specs.declared.entry.Act.TheVariants as act
use Rattle.px_trail.specs.Batches.{has}
use Rattle.px_calls.specs.declared.definition.Definition.TheVariants as d
use Rattle.px_calls.specs.declared.fault.StepFault.{StepFault}
use Rattle.px_calls.specs.declared.fault.StepFault.TheVariants as step
use Rattle.px_calls.specs.declared.query.BaseRow.{BaseRow}
use Rattle.px_calls.specs.declared.query.Chunk.{Chunk}
use Rattle.px_calls.specs.declared.query.FoundKey.{FoundKey}
use Rattle.px_calls.specs.declared.query.Point.{Point}
use Rattle.px_calls.specs.Calls.{DidBase, DidLook, Finds}
use Rattle.px_calls.specs.Causes.{Refuses, base_cause, read_cause, upkeep_cause}
use Rattle.px_calls.specs.Known.{Adds, Known, Ran, Sees, outline}
use Rattle.px_calls.specs.Looks.{is_covered}
use Rattle.px_calls.specs.Requires.{CanDefine, base_owners}
use Rattle.px_calls.proofs.Runs.{ran-adds, ran-sees}
use Rattle.px_defining.specs.declared.define.DefineRun.{DefineRun}
use Rattle.px_defining.specs.declared.define.DefineState.{DefineState}
use Rattle.px_defining.specs.Turns as define
use Rattle.px_upkeep.specs.declared.build.Build.{Build}
use Rattle.px_upkeep.specs.declared.build.BuildFault.{BuildFault}
use Rattle.px_upkeep.specs.declared.build.BuildFault.TheVariants as why
use Rattle.px_upkeep.specs.declared.build.BuildState.{BuildState}
use Rattle.px_upkeep.specs.declared.build.BuildState.TheVariants as s
use Rattle.px_upkeep.specs.declared.build.Came.TheVariants as came
use Rattle.px_upkeep.specs.declared.build.Next.TheVariants as next
use Rattle.px_upkeep.specs.declared.gathered.Gathered.{Gathered}
use Rattle.px_upkeep.specs.Rows.{ArePieces, HasLong, HasLongChunk, gathered_then}
use Rattle.px_upkeep.specs.Turns.{AfterLook, AfterMaking, AreBased, AreOwn, BasesOn, FitsState, Gathers, IsAsked, IsAtWork, IsBasing, IsFoundAt, IsHeld, IsMade, IsPiece, IsReading, IsState, Leads, ReadsOn, TriesThen, WasRefused, chunk_owners, is_read, next_of, opening, owner_at, piece_owners, step_fault}
use Rattle.px_upkeep.proofs.Based.{activates, bases, found-long, found-pieces, looked, looked-found, looked-own}
use Rattle.px_upkeep.proofs.Chunks.{all-parts, chunks-then, one-among, owners-last, pieces-owners}
use Rattle.px_upkeep.proofs.Growing.{Grown, all-on, building-stays, core, found-stays, grown-passes, grown-ran, held-stays, own-stays, piece-stays, rows-based-stay, rows-stay, state-same}
use Rattle.px_upkeep.proofs.Later.{Tells, asked-later, found-later, next-told, past-passes, past-ran, plain, refused-call, refused-step, tries-still}

-- 1. Time

module _ (sound : Type 0) (n : ℕ) (t : TableId) (i : IndexId) (b : Build) where
  work_on : (done : List ℕ → Bool) (owners : List (List Value)) (k k' : Known) → Grown k k' → (w : IsAtWork sound n k t i b done owners) → IsAtWork sound n k' t i b done owners
  work_on done owners k k' g w = record {
    index = w.index;
    found = found-later n t i b.point w.index k k' (record { more = g.more; seen = g.seen; seat = g.seat; base = g.base; damaged = g.damaged }) (state-same sound k k' b.point i.0 [] g (core sound k t i b.point w.index w.building)) w.found;
    building = building-stays sound k t i b.point w.index w.building k' g;
    paths = w.paths;
    based = λ is_sound. rows-based-stay sound k t i b.point w.index w.building k' g done owners (w.based is_sound);
  }

  pub reading-stays : (after : Option (List ℕ)) (cs : List (List FoundKey)) (k k' : Known) → Grown k k' → IsReading sound n k t i b after cs → IsReading sound n k' t i b after cs
  reading-stays after cs k k' g h = record {
    work = work_on (is_read after) (chunk_owners b.point.found.table cs) k k' g h.work;
    chunks = all-on _ _ (found-stays sound k t i b.point h.work.index h.work.building k' g) cs h.chunks;
  }

  pub basing-stays : (xs : List BaseRow) (more : List (List BaseRow)) (last : Option (List ℕ)) (k k' : Known) → Grown k k' → IsBasing sound n k t i b xs more last → IsBasing sound n k' t i b xs more last
  unfolding work_on
  basing-stays xs more last k k' g h = record {
    work = work_on (is_covered last) (base_owners b.point.found.table xs ++ piece_owners b.point.found.table more) k k' g h.work;
    rows = rows-stay sound k t i b.point h.work.index h.work.building k' g xs h.rows;
    some = h.some;
    few = h.few;
    pieces = all-on _ _ (piece-stays sound k t i b.point h.work.index h.work.building k' g) more h.pieces;
    own = λ is_sound. own-stays sound k t i b.point h.work.index h.work.building k' g (h.own is_sound);
  }

-- 2. What comes of rows that were read

module _ (sound : Type 0) (n : ℕ) (t : TableId) (i : IndexId) (own : List Act) where
  reads : (b q : Build) (after last : List ℕ) (cs : List (List FoundKey)) (g : Gathered) (k : Known) → q ≡ b → after ≡ last → g.chunks ≡ cs → TriesThen t i (opening b.point ∷ []) own → IsReading sound n k t i b (Some last) cs
      → IsState sound n t i own (s.Reading q (Some after) g) k
  reads b q after last cs g k at behind are tries h =
      let here : IsState sound n t i own (s.Reading b (Some last) g) k = (tries, subst (λ (ds : List (List FoundKey)). IsReading sound n k t i b (Some last) ds) (sym are) h) in
      subst (λ (z : Build). IsState sound n t i own (s.Reading z (Some after) g) k) (sym at) (subst (λ (z : List ℕ). IsState sound n t i own (s.Reading b (Some z) g) k) (sym behind) here)

  activating : (b : Build) (k : Known) → (w : IsAtWork sound n k t i b (λ key. true) []) → (sound → AreOwn k b.point) → (p : Point) (r : DefineRun) → p ≡ b.point → r.definition ≡ d.Active t i → r.state ≡ Rattle.px_defining.specs.declared.define.DefineState.TheVariants.Defining
      → TriesThen t i (opening b.point ∷ []) own → IsState sound n t i own (s.Activating p r) k
  activating b k w is_own p r at is new tries =
      let can : CanDefine sound k (d.Active t i) = activates sound k t i b.point w.index w.building w.based is_own in
      let F : DefineState → Type 0 = λ z. define.FitsDefinition sound (d.Active t i) z k × define.IsDefinitionGoing z in
      let going = subst F (sym new) (can, tt) in (
        subst (λ (q : Point). TriesThen t i (opening q ∷ []) own) (sym at) tries,
        record {
          held = subst (λ (q : Point). IsHeld k t q) (sym at) w.building.held;
          birth = subst (λ (q : Point). Rattle.px_calls.specs.Requires.MayBase sound k q i.0 []) (sym at) (core sound k t i b.point w.index w.building);
          defining = (is, going.0, going.1);
        },
      )

  -- all have their base versions
  reads-on : (b : Build) (last : Option (List ℕ)) (x : BuildState) (k : Known) → ReadsOn b t i last x → IsAtWork sound n k t i b (is_covered last) [] → (sound → AreOwn k b.point) → TriesThen t i (opening b.point ∷ []) own → IsState sound n t i own x k
  reads-on b (Some last) (s.Reading q (Some after) g) k is w is_own tries =
      reads b q after last [] g k is.0 is.1 is.2 tries (record { work = record { index = w.index; found = w.found; building = w.building; paths = w.paths; based = w.based }; chunks = tt })
  reads-on b None (s.Activating p r) k is w is_own tries = activating b k (record { index = w.index; found = w.found; building = w.building; paths = w.paths; based = w.based }) is_own p r is.0 is.1 is.2 tries
  reads-on b last x k is w is_own tries = absurd is

  module _ (b : Build) (ps : List (List BaseRow)) (last : Option (List ℕ)) (k : Known) (w : IsAtWork sound n k t i b (is_covered last) (piece_owners b.point.found.table ps)) (pieces : AllByRecursion (IsPiece sound k b.point w.index) ps)
      (is_own : sound → AreOwn k b.point) (tries : TriesThen t i (opening b.point ∷ []) own) where
    next_piece : (xs : List BaseRow) (more : List (List BaseRow)) → ps ≡ more ++ xs ∷ [] → IsBasing sound n k t i b xs more last
    next_piece xs more e =
        let parts = all-parts (IsPiece sound k b.point w.index) more (xs ∷ []) (subst (λ (l : List (List BaseRow)). AllByRecursion (IsPiece sound k b.point w.index) l) e pieces) in
        let piece = parts.1.0 in
        record {
          work = record {
            index = w.index;
            found = w.found;
            building = w.building;
            paths = w.paths;
            based = λ is_sound row there done. elim (w.based is_sound row there done) [
              | inl was ↦ inl was
              | inr among ↦ inr (owners-last b.point.found.table more xs (owner_at b.point row) (subst (λ (l : List (List BaseRow)). has (piece_owners b.point.found.table l) (owner_at b.point row) ≡ true) e among))
            ];
          };
          rows = piece.rows;
          some = piece.some;
          few = piece.few;
          pieces = parts.0;
          own = is_own;
        }

    none_left : (x : BuildState) → ps ≡ [] → ReadsOn b t i last x → IsState sound n t i own x k
    none_left x e is =
        reads-on b last x k is (record {
          index = w.index;
          found = w.found;
          building = w.building;
          paths = w.paths;
          based = λ is_sound. subst (λ (l : List (List BaseRow)). AreBased k i b.point (is_covered last) (piece_owners b.point.found.table l)) e (w.based is_sound);
        }) is_own tries

    -- these are still to be given their base versions
    bases-on : (x : BuildState) → BasesOn b t i ps last x → IsState sound n t i own x k
    bases-on (s.Basing q xs more behind) is =
        let here : IsState sound n t i own (s.Basing b xs more last) k = (tries, next_piece xs more is.2) in
        subst (λ (z : Build). IsState sound n t i own (s.Basing z xs more behind) k) (sym is.0) (subst (λ (o : Option (List ℕ)). IsState sound n t i own (s.Basing b xs more o) k) (sym is.1) here)
    bases-on x is = none_left x is.0 is.1

-- 3. A look

module _ (sound : Type 0) (n : ℕ) (t : TableId) (i : IndexId) (own : List Act) (b : Build) (after : Option (List ℕ)) (g : Gathered) (k k' : Known) (fits : FitsState sound n t i own (s.Reading b after g) k) (c : Chunk) (did : DidLook sound k k' b.point b.path after c) where
  sees : Sees k k'
  sees = did.finds.sees

  grown : Grown k k'
  grown = grown-passes k k' sees.passes

  now : IsAsked n t i k'
  now = asked-later n t i k k' (past-passes k k' sees.passes) fits.asked

  reading : IsReading sound n k' t i b after g.chunks
  reading = reading-stays sound n t i b after g.chunks k k' grown fits.is.1

  tries : TriesThen t i (opening b.point ∷ []) (own ++ [])
  tries = tries-still t i (opening b.point ∷ []) [] own refl fits.is.0

  abbrev all : List (List FoundKey)
  all = gathered_then g.chunks c.found

  looked_own : sound → AreOwn k' b.point
  looked_own = looked-own sound k' t i b.point reading.work.index reading.work.building b.path reading.work.paths.whole after c.found c.next did.shows did.rows

  looked_work : IsAtWork sound n k' t i b (is_covered c.next) (chunk_owners b.point.found.table all)
  looked_work = record {
    index = reading.work.index;
    found = reading.work.found;
    building = reading.work.building;
    paths = reading.work.paths;
    based = looked sound k' t i b.point reading.work.index reading.work.building b.path reading.work.paths.whole after c.found c.next did.shows g.chunks did.rows reading.work.based;
  }

  looked_chunks : AllByRecursion (IsFoundAt sound k' b.point) all
  looked_chunks =
      chunks-then (IsFoundAt sound k' b.point) g.chunks c.found reading.chunks
      (looked-found sound k' t i b.point reading.work.index reading.work.building b.path reading.work.paths.whole after c.found c.next did.shows did.rows)

  led : (x : BuildState) → IsState sound n t i (own ++ []) x k' → Leads sound n t i own k k' (came.On x)
  led x is = record { acts = []; ran = ran-sees k k' sees; led = record { asked = now; is = is } }

  -- it is gathered
  gathers : (last : Option (List ℕ)) (x : BuildState) → Gathers b all last x → IsAtWork sound n k' t i b (is_covered last) (chunk_owners b.point.found.table all) → IsState sound n t i (own ++ []) x k'
  gathers (Some last) (s.Reading q (Some behind) h) is w =
      reads sound n t i (own ++ []) b q behind last all h k' is.0 is.1 is.2 tries (record { work = record { index = w.index; found = w.found; building = w.building; paths = w.paths; based = w.based }; chunks = looked_chunks })
  gathers last x is w = absurd is

  -- the base versions of all are made
  made : (x : BuildState) → IsMade b t i all c.next x → IsState sound n t i (own ++ []) x k'
  unfolding looked_work
  made x h =
      let w = looked_work in
      let table = b.point.found.table in
      let are : ArePieces table.columns (table_path table) (index_path table w.index) all h.0 = subst (λ (ks : List PathColumn). ArePieces table.columns ks (index_path table w.index) all h.0) w.paths.keys (subst (λ (cs : List PathColumn). ArePieces table.columns b.keys cs all h.0) w.paths.columns h.1) in
      let same : piece_owners table h.0 ≡ chunk_owners table all = pieces-owners table w.index all h.0 are in
      bases-on sound n t i (own ++ []) b h.0 c.next k' (record {
        index = w.index;
        found = w.found;
        building = w.building;
        paths = w.paths;
        based = λ is_sound. subst (λ (l : List (List Value)). AreBased k' i b.point (is_covered c.next) l) (sym same) (w.based is_sound);
      }) (found-pieces sound k' t i b.point w.index w.building all h.0 looked_chunks are) looked_own tries x h.2

  refused : (p : Point) (f : BuildFault) → p ≡ b.point → WasRefused sound n t.0 i.0 f k' → IsState sound n t i (own ++ []) (s.Closing p (next.Refused f)) k'
  refused p f at why = subst (λ (q : Point). IsState sound n t i (own ++ []) (s.Closing q (next.Refused f)) k') (sym at) (reading.work.building.held, (why, tries))

  too_long : (count : ℕ) → count ≡ most_key → HasLongChunk b.columns all → WasRefused sound n t.0 i.0 (why.Limit bound.Key count) k'
  too_long count is long =
      let w = reading.work in
      let l : HasLong (index_path b.point.found.table w.index) long.chunk = subst (λ (cs : List PathColumn). HasLong cs long.chunk) w.paths.columns long.long in
      record {
        was = w.found.was;
        past = w.found.past;
        from = w.found.from;
        cause = (is, found-long sound k' t i b.point w.index w.building long.chunk (one-among (IsFoundAt sound k' b.point) all long.chunk looked_chunks long.among) n w.found l);
        since = tt;
      }

  after_making : (x : BuildState) → AfterMaking b t i all c.next x → IsState sound n t i (own ++ []) x k'
  after_making (s.Closing p (next.Refused (why.Limit bound.Key count))) a = refused p (why.Limit bound.Key count) a.0 (too_long count a.1 a.2)
  after_making (s.Closing p (next.Refused why.Memory)) a = refused p why.Memory a (plain sound n t.0 i.0 why.Memory k' now.from tt tt)
  after_making x a = made x a

  pub looks : (x : BuildState) → AfterLook b t i g.chunks c x → Leads sound n t i own k k' (came.On x)
  looks x (inl h) = led x (gathers c.next x h looked_work)
  looks x (inr h) = led x (after_making x h)

-- 4. A call that is refused

module _ (sound : Type 0) (n : ℕ) (t : TableId) (i : IndexId) (own : List Act) where
  -- the point is to be closed
  stopped : (Cause : StepFault → Known → Type 0) (k k' : Known) (f : StepFault) (p : Point) → Tells sound n t.0 i.0 Cause k' → Refuses Cause k k' f → IsAsked n t i k → IsHeld k t p → TriesThen t i (opening p ∷ []) own
      → Leads sound n t i own k k' (came.On (s.Closing p (next_of (step_fault f))))
  stopped Cause k k' f p tells h asked held tries =
      let call = refused-call Cause k k' f h in
      let past = past-ran k k' call.acts call.ran in
      let now = asked-later n t i k k' past asked in
      let why = refused-step sound n t.0 i.0 Cause k k' f tells asked.from now.from h in
      record {
        acts = call.acts;
        ran = call.ran;
        led = record {
          asked = now;
          is = (
            held-stays k k' t p (grown-ran k k' call.acts call.ran call.quiet held.legal) held,
            next-told sound n t i p (step_fault f) k' (own ++ outline call.acts) why (tries-still t i (opening p ∷ []) (outline call.acts) own call.quiet tries),
          );
        };
      }

  read_tells : (k' : Known) → Tells sound n t.0 i.0 (read_cause sound) k'
  read_tells k' = record { table = λ h. absurd h; horizon = λ z h. absurd h; damaged = λ file place h. h; closed = λ call h. h }

  base_tells : (k' : Known) → Tells sound n t.0 i.0 base_cause k'
  base_tells k' = record { table = λ h. absurd h; horizon = λ z h. absurd h; damaged = λ file place h. absurd h; closed = λ call h. h }

  upkeep_tells : (k' : Known) → Tells sound n t.0 i.0 (upkeep_cause sound) k'
  upkeep_tells k' = record { table = λ h. absurd h; horizon = λ z h. absurd h; damaged = λ file place h. h; closed = λ call h. h }

  pub look-refused : (b : Build) (after : Option (List ℕ)) (g : Gathered) (f : StepFault) (k k' : Known) → FitsState sound n t i own (s.Reading b after g) k → Refuses (read_cause sound) k k' f → Leads sound n t i own k k' (came.On (s.Closing b.point (next_of (step_fault f))))
  look-refused b after g f k k' fits h = stopped (read_cause sound) k k' f b.point (read_tells k') h fits.asked fits.is.1.work.building.held fits.is.0

  pub base-refused : (b : Build) (xs : List BaseRow) (more : List (List BaseRow)) (last : Option (List ℕ)) (f : StepFault) (k k' : Known) → FitsState sound n t i own (s.Basing b xs more last) k → Refuses base_cause k k' f → Leads sound n t i own k k' (came.On (s.Closing b.point (next_of (step_fault f))))
  base-refused b xs more last f k k' fits h = stopped base_cause k k' f b.point (base_tells k') h fits.asked fits.is.1.work.building.held fits.is.0

  pub upkeep-refused : (b : Build) (xs : List BaseRow) (more : List (List BaseRow)) (last : Option (List ℕ)) (f : StepFault) (k k' : Known) → FitsState sound n t i own (s.Settling b xs more last) k → Refuses (upkeep_cause sound) k k' f → Leads sound n t i own k k' (came.On (s.Closing b.point (next_of (step_fault f))))
  upkeep-refused b xs more last f k k' fits h = stopped (upkeep_cause sound) k k' f b.point (upkeep_tells k') h fits.asked fits.is.1.work.building.held fits.is.0

  -- 5. Base versions

  still : (b : Build) (xs : List BaseRow) (more : List (List BaseRow)) (last : Option (List ℕ)) (k k' : Known) (acts : List Act) → Ran k k' acts → outline acts ≡ [] → IsAsked n t i k → TriesThen t i (opening b.point ∷ []) own → IsBasing sound n k t i b xs more last
      → IsAsked n t i k' × TriesThen t i (opening b.point ∷ []) (own ++ outline acts) × IsBasing sound n k' t i b xs more last
  still b xs more last k k' acts r quiet asked tries h = (
    asked-later n t i k k' (past-ran k k' acts r) asked,
    tries-still t i (opening b.point ∷ []) (outline acts) own quiet tries,
    basing-stays sound n t i b xs more last k k' (grown-ran k k' acts r quiet h.work.building.held.legal) h,
  )

  settling : (b : Build) (xs : List BaseRow) (more : List (List BaseRow)) (last : Option (List ℕ)) (k k' : Known) → Sees k k' → FitsState sound n t i own (s.Basing b xs more last) k → Leads sound n t i own k k' (came.On (s.Settling b xs more last))
  settling b xs more last k k' h fits =
      let r = ran-sees k k' h in
      let z = still b xs more last k k' [] r refl fits.asked fits.is.0 fits.is.1 in
      record { acts = []; ran = r; led = record { asked = z.0; is = (z.1, z.2) } }

  pub base-busy : (b : Build) (xs : List BaseRow) (more : List (List BaseRow)) (last : Option (List ℕ)) (region cells bytes : ℕ) (k k' : Known) → FitsState sound n t i own (s.Basing b xs more last) k → Refuses base_cause k k' (step.Busy region cells bytes) → Leads sound n t i own k k' (came.On (s.Settling b xs more last))
  base-busy b xs more last region cells bytes k k' fits h = settling b xs more last k k' h.1 fits

  pub base-not-ready : (b : Build) (xs : List BaseRow) (more : List (List BaseRow)) (last : Option (List ℕ)) (region : ℕ) (k k' : Known) → FitsState sound n t i own (s.Basing b xs more last) k → Refuses base_cause k k' (step.NotReady region) → Leads sound n t i own k k' (came.On (s.Settling b xs more last))
  base-not-ready b xs more last region k k' fits h = settling b xs more last k k' h.1 fits

  pub based : (b : Build) (xs : List BaseRow) (more : List (List BaseRow)) (last : Option (List ℕ)) (at : ℕ) (x : BuildState) (k k' : Known) → FitsState sound n t i own (s.Basing b xs more last) k → DidBase k k' b.point i xs at → BasesOn b t i more last x
      → Leads sound n t i own k k' (came.On x)
  unfolding basing-stays work_on
  based b xs more last at x k k' fits did is =
      let acts = act.Based i (base_owners did.table xs) ∷ [] in
      let r = ran-adds k k' (act.Based i (base_owners did.table xs)) did.adds in
      let w = fits.is.1.work in
      let g = grown-ran k k' acts r refl w.building.held.legal in
      let z = still b xs more last k k' acts r refl fits.asked fits.is.0 fits.is.1 in
      let done : IsAtWork sound n k' t i b (is_covered last) (piece_owners b.point.found.table more) = record {
        index = w.index;
        found = found-later n t i b.point w.index k k' (past-ran k k' acts r) (state-same sound k k' b.point i.0 [] g (core sound k t i b.point w.index w.building)) w.found;
        building = building-stays sound k t i b.point w.index w.building k' g;
        paths = w.paths;
        based = λ is_sound. bases sound k k' t i b.point w.index (is_covered last) xs (piece_owners b.point.found.table more) at g w.building did (w.based is_sound);
      } in
      record { acts = acts; ran = r; led = record { asked = z.0; is = bases-on sound n t i (own ++ []) b more last k' done (all-on _ _ (piece-stays sound k t i b.point w.index w.building k' g) more fits.is.1.pieces) z.2.own z.1 x is } }

  -- 6. Upkeep

  pub works : (b : Build) (xs : List BaseRow) (more : List (List BaseRow)) (last : Option (List ℕ)) (k k' : Known) → FitsState sound n t i own (s.Settling b xs more last) k → Finds k k' ⊎ ((u : TableId) × (h : ℕ) × Adds k k' (act.Raised u h)) → Leads sound n t i own k k' (came.On (s.Settling b xs more last))
  works b xs more last k k' fits (inl h) =
      let r = ran-sees k k' h.sees in
      let z = still b xs more last k k' [] r refl fits.asked fits.is.0 fits.is.1 in
      record { acts = []; ran = r; led = record { asked = z.0; is = (z.1, z.2) } }
  works b xs more last k k' fits (inr h) =
      let r = ran-adds k k' (act.Raised h.0 h.1) h.2 in
      let z = still b xs more last k k' (act.Raised h.0 h.1 ∷ []) r refl fits.asked fits.is.0 fits.is.1 in
      record { acts = act.Raised h.0 h.1 ∷ []; ran = r; led = record { asked = z.0; is = (z.1, z.2) } }

  pub idles : (b : Build) (xs : List BaseRow) (more : List (List BaseRow)) (last : Option (List ℕ)) (k k' : Known) → FitsState sound n t i own (s.Settling b xs more last) k → Finds k k' → Leads sound n t i own k k' (came.On (s.Basing b xs more last))
  idles b xs more last k k' fits h =
      let r = ran-sees k k' h.sees in
      let z = still b xs more last k k' [] r refl fits.asked fits.is.0 fits.is.1 in
      record { acts = []; ran = r; led = record { asked = z.0; is = (z.1, z.2) } }
