-- What a run leaves, by what its parts leave.
use Rattle.std.proofs.Common.{◌≡◌, ◌≢◌, ◌<◌, ◌≤◌, ◌⊎◌, ◌+◌, inl, inr, ℕ, zero, suc, Bool, true, false, List, [], None, IsTrue, refl, sym, ap, subst, ◌∙◌, arith}
use Rattle.std.specs.Prelude.{Option, Some, drop, take, map, sum_by}
use Rattle.std.proofs.lemmas.Bool.{cases_lt, false≢true}
use Rattle.px_outside.specs.Disk.{Image}
use Rattle.px_outside.specs.Faults.{FaultsRose}
use Rattle.px_outside.specs.OnDisk.{IsLeft, Passes, Rose, TouchesOnly}
use Rattle.px_outside.specs.declared.clock.Clock.{Ghosts as ClockGhosts}
use Rattle.px_outside.specs.declared.disk.Disk.{Ghosts as DiskGhosts}
use Rattle.px_outside.specs.declared.sink.Sink.{Ghosts as SinkGhosts}
use Rattle.px_outside.specs.declared.source.Source.{Ghosts as SourceGhosts}
use Rattle.px_recovery.specs.Base.{IsSound, IsSoundFolder, base_of}
use Rattle.px_recovery.specs.Folder.{FolderData, StandsFor, StandsOn, region_numbers}
use Rattle.px_recovery.specs.Stands.{Recovers}
use Rattle.px_folder.specs.Calls.{AreOpenedBy}
use Rattle.px_folder.specs.Damage.{IsFirstDamaged}
use Rattle.px_folder.specs.Read.{PartsStandFor}
use Rattle.px_program.specs.Answers.{printed_for}
use Rattle.px_opening.specs.Opened.{folder_in}
use Rattle.px_opening.specs.declared.fault.OpenFault.{OpenFault}
use Rattle.px_opening.specs.declared.fault.OpenFault.TheVariants as fault
use Rattle.px_opening.specs.declared.opened.Opened.{Opened}
use Rattle.px_catalog.specs.Catalogue.{catalogue_files}
use Rattle.px_trail.specs.Trail.{Base}
use Rattle.px_trail.specs.declared.entry.Entry.{Entry}
use Rattle.px_server.specs.Others.{OthersStay, beginning_at, part_files}
use Rattle.px_server.specs.Started.{IsOpenedOn, KeepsFolder, StartsSound}
use Rattle.px_program.specs.Run.{AsksFor, HasRead, HasReadSome, IsRun, IsUnrun, Stops, known_over, lookback_of, most_read, run_given, run_left, ReadsSound}
use Rattle.px_program.proofs.Stops.{starts_reads}
use Rattle.px_program.specs.Status.{is_memory_status}
use Rattle.px_arguments.specs.Arguments.{SeenCommand, Run, Verify, Load, command_in}
use Rattle.px_program.specs.inner.Outcomes.{with_disk}
use Rattle.px_program.specs.inner.Running.{IsCausedBy, IsOpenedNow, LeavesNothing, RanFolder, RanOn, RanOpened, RanOver, StoodBefore, Unopened, IsLeftSince, at_least, stopped_by}
use Rattle.px_load.specs.declared.script.Load.{Load as Loads}
use Rattle.px_verifying.specs.declared.answer.VerifyKind.{VerifyKind}
use Rattle.px_verified.specs.declared.asked.Verification.{Verification}
use Rattle.px_program.specs.declared.job.Job.{Job}
use Rattle.px_program.specs.declared.job.Job.TheVariants as jobs
use Rattle.px_program.specs.declared.outcome.Outcome.{Outcome}
use Rattle.px_program.specs.declared.status.Status.{Status}
use Rattle.px_program.specs.declared.status.Status.TheVariants.{BadWords, Memory, SourceFault}
use Rattle.px_program.proofs.Complete.{complete, job_ended}
use Rattle.px_program.proofs.Items.{undamaged_at}
use Rattle.px_program.proofs.OneSession.{run_folds}

-- a disk of the premise of a run, on which no call is made
pub keeps_still : {D : Type 0} (d : DiskGhosts D) (disk : D) → ((moment file : ℕ) (bytes : List ℕ) → d.left disk moment file bytes → moment ≤ d.calls disk) → StartsSound d disk → KeepsFolder d disk disk
keeps_still d disk up starts f k on least = record {
  each = λ moment image since left. (let
      now : (file : ℕ) → d.left disk (d.calls disk) file (image file) = λ file. subst (λ (x : ℕ). d.left disk x file (image file)) (omega (arith, since, up moment file (image file) (left file))) (left file)
      in record {
        parts = λ n kept. (on.parts n kept).each image (λ file own. now file);
        fresh = λ file own. starts.only file (image file) (now file) ∙ on.fresh.empty file own;
        unmade = on.unmade;
      });
}

-- files of no part stay from the opening on, and the opening touches the catalogue's alone
others_joined : {D : Type 0} (d : DiskGhosts D) (b : Base) (old mid new : D) (es : List Entry) → TouchesOnly d old mid catalogue_files → ((moment file : ℕ) (bytes : List ℕ) → moment < d.calls mid → d.left new moment file bytes → d.left mid moment file bytes)
    → OthersStay d b (beginning_at d mid) new es → OthersStay d b (beginning_at d old) new es
others_joined d b old mid new es touches past k = record {
  later = omega (arith, touches.later, k.later);
  left = λ moment file bytes since other is. left moment file bytes since other is (cases_lt moment (d.calls mid));
  seen = λ file other. k.seen file other ∙ touches.sees file (λ own. other (inl own));
}
  where
    left : (moment file : ℕ) (bytes : List ℕ) → d.calls old ≤ moment → (part_files b es file → ⊥) → d.left new moment file bytes → (moment < d.calls mid) ⊎ (d.calls mid ≤ moment) → d.left old (d.calls old) file bytes
    left moment file bytes since other is (inl before) = touches.others moment file bytes since (λ own. other (inl own)) (past moment file bytes before is)
    left moment file bytes since other is (inr after) = touches.others (d.calls mid) file bytes touches.later (λ own. other (inl own)) (k.left moment file bytes after other is)

-- why a folder wasn't opened
pub caused_by : {D : Type 0} (d : DiskGhosts D) (old new : D) (f : OpenFault) → (f ≡ fault.ReadFault → Rose d old new) → (f ≡ fault.WriteFault → Rose d old new)
    → ((file place : ℕ) → f ≡ fault.Damaged file place → IsTrue d.tells → IsFirstDamaged (d.seen old) file place ⊎ (place ≡ 0)) → IsCausedBy d old new f
caused_by d old new fault.ReadFault read write damaged = read refl
caused_by d old new fault.WriteFault read write damaged = write refl
caused_by d old new (fault.Damaged file place) read write damaged = damaged file place refl
caused_by d old new fault.Memory read write damaged = tt

module _ {D C O : Type 0} (d : DiskGhosts D) (c : ClockGhosts C) (k : SinkGhosts O) (lookback : ℕ) (job : Job) (clock : C) (old new : D) (out out' : O) (o : Outcome D)
    (law : (starts : StartsSound d old) (moment : ℕ) (image : Image) → IsLeft d new moment image → Recovers (base_of starts.sound.folder) [] None moment image) where
  pub not_opened : (f : OpenFault) → o.disk ≡ new → o.status ≡ stopped_by f (d.first_fault new) → IsCausedBy d old new f → LeavesNothing out out' o → (IsTrue d.tells → TouchesOnly d old new catalogue_files) → RanOn d c k lookback job clock old out out' o
  not_opened f same status caused nothing touches = inr (record {
    fault = f;
    status = subst (λ (x : D). o.status ≡ stopped_by f (d.first_fault x)) (sym same) status;
    caused = subst (λ (x : D). IsCausedBy d old x f) (sym same) caused;
    nothing = nothing;
    touches = λ tells. subst (λ (x : D). TouchesOnly d old x catalogue_files) (sym same) (touches tells);
    recovers = λ starts moment image left. law starts moment image (subst (λ (x : D). IsLeft d x moment image) same left);
  })

  -- what was opened: the folder was sound where the disk was, and so are the images that were left by then
  pub opened_ran : (tells_left : (x : D) (moment file : ℕ) (bytes : List ℕ) → d.left x moment file bytes → IsTrue d.tells) (w : Opened)
      → (IsTrue d.tells → PartsStandFor (d.seen old) (folder_in w))
      → (IsTrue d.tells → IsSound (d.seen old) → StandsFor (d.seen old) (folder_in w) × IsSoundFolder (folder_in w))
      → ((calls : ℕ → ℕ) → IsTrue d.tells → AreOpenedBy (d.seen old) (region_numbers (folder_in w).standing) calls → Passes d old new (17 + sum_by calls (region_numbers (folder_in w).standing))) → (IsTrue d.tells → TouchesOnly d old new catalogue_files)
      → (StartsSound d old → IsTrue d.tells → IsOpenedOn d new w) → (ReadsSound d old → IsTrue d.tells → IsOpenedNow d new w)
      → d.calls new ≤ d.calls o.disk → ((moment file : ℕ) (bytes : List ℕ) → moment < d.calls new → d.left o.disk moment file bytes → d.left new moment file bytes)
      → RanOpened d c k (base_of (folder_in w)) (IsSoundFolder (folder_in w)) (IsTrue d.tells → IsOpenedNow d new w) (beginning_at d new) (IsLeftSince d (d.calls new) (StoodBefore d new w)) (c.times clock) lookback job new out out' o → RanOn d c k lookback job clock old out out' o
  opened_ran tells_left w stood sound passes touches opened now within past (inl r) = inl (record {
    folder = folder_in w;
    origin = record { stands = stood; sound = sound };
    opened = d.calls new;
    soon = λ tells calls by. (passes calls tells by).at_most;
    within = within;
    before = λ moment file bytes since until other left. (touches (tells_left o.disk moment file bytes left)).others moment file bytes since other (past moment file bytes until left);
    over = record {
      legal = r.legal;
      stamped = r.stamped;
      back = r.back;
      seat = r.seat;
      sink_failed = r.sink_failed;
      replied = r.replied;
      written = r.written;
      recovers = λ reads moment image left. r.recovers (now reads) moment image (earlier moment left.0, left.1);
      stands = λ open_ reads tells. r.stands open_ (now reads) tells;
      unlate = r.unlate;
      late_is = λ u is reads tells. r.late_is u is (now reads) tells;
      closed_at = r.closed_at;
      status = r.status;
      blamed = r.blamed;
      others = λ reads tells. others_joined d (base_of (folder_in w)) old new o.disk o.trail.entries (touches tells) past (r.others (now reads) tells);
    };
  })
    where
      earlier : (moment : ℕ) → at_least (d.calls new) (StartsSound d old) moment → at_least (d.calls new) (StoodBefore d new w) moment
      earlier moment (inl starts) = inl (λ m image left. (opened starts (tells_left new m 0 (image 0) (left 0))).left m image left)
      earlier moment (inr since) = inr since
  opened_ran tells_left w stood sound passes touches opened now within past (inr l) = inr (record {
    fault = fault.Memory;
    status = l.status;
    caused = tt;
    nothing = l.nothing;
    touches = λ tells. subst (λ (x : D). TouchesOnly d old x catalogue_files) (sym l.back) (touches tells);
    recovers = λ starts moment image left. law starts moment image (subst (λ (x : D). IsLeft d x moment image) l.back left);
  })

-- the disk under another one that hands each call on
abbrev pub through : {D E : Type 0} → DiskGhosts D → (E → D) → DiskGhosts E
through d of = record { tells = d.tells; seen = λ m. d.seen (of m); first = λ m. d.first (of m); left = λ m. d.left (of m); calls = λ m. d.calls (of m); faults = λ m. d.faults (of m); first_fault = λ m. d.first_fault (of m) }

module _ {D E C O : Type 0} (d : DiskGhosts D) (of : E → D) (c : ClockGhosts C) (k : SinkGhosts O) (lookback : ℕ) (job : Job) (clock : C) (m : E) (out out' : O) (o : Outcome E) where
  stands_through : (x : E) (f : FolderData) → StandsOn (through d of) x f → StandsOn d (of x) f
  stands_through x f s = record {
    parts = λ n kept. record { each = λ image left. (s.parts n kept).each image left };
    fresh = record { on_disk = s.fresh.on_disk; empty = s.fresh.empty };
    unmade = s.unmade;
  }

  starts_through : StartsSound d (of m) → StartsSound (through d of) m
  starts_through s = record { calls = s.calls; only = s.only; sound = s.sound }

  reads_through : ReadsSound d (of m) → ReadsSound (through d of) m
  reads_through s = record { sound = s.sound; fresh = s.fresh }

  told_through : (opened moment : ℕ) → at_least opened (StartsSound d (of m)) moment → at_least opened (StartsSound (through d of) m) moment
  told_through opened moment (inl starts) = inl (starts_through starts)
  told_through opened moment (inr since) = inr since

  folder_through : RanFolder (through d of) c k lookback job clock m out out' o → RanFolder d c k lookback job clock (of m) out out' (with_disk (of o.disk) o)
  folder_through r = record {
    folder = r.folder;
    origin = record { stands = r.origin.stands; sound = r.origin.sound };
    opened = r.opened;
    soon = r.soon;
    within = r.within;
    before = r.before;
    over = record {
      legal = r.over.legal;
      stamped = r.over.stamped;
      back = r.over.back;
      seat = r.over.seat;
      sink_failed = r.over.sink_failed;
      replied = r.over.replied;
      written = r.over.written;
      recovers = λ reads moment image left. r.over.recovers (reads_through reads) moment image (told_through r.opened moment left.0, left.1);
      stands = λ open_ reads tells. (let
          s = r.over.stands open_ (reads_through reads) tells
          in record { folder = s.folder; groups = s.groups; stands = stands_through o.disk s.folder s.stands; explains = s.explains });
      unlate = r.over.unlate;
      late_is = λ u is reads tells. r.over.late_is u is (reads_through reads) tells;
      closed_at = r.over.closed_at;
      status = r.over.status;
      blamed = r.over.blamed;
      others = λ reads tells. (let k = r.over.others (reads_through reads) tells in record { later = k.later; left = k.left; seen = k.seen });
    };
  }

  caused_through : (f : OpenFault) → IsCausedBy (through d of) m o.disk f → IsCausedBy d (of m) (of o.disk) f
  caused_through fault.ReadFault caused = caused
  caused_through fault.WriteFault caused = caused
  caused_through (fault.Damaged file place) caused = caused
  caused_through fault.Memory caused = caused

  unopened_through : Unopened (through d of) m out out' o → Unopened d (of m) out out' (with_disk (of o.disk) o)
  unfolding starts_through
  unopened_through u = record {
    fault = u.fault;
    status = u.status;
    caused = caused_through u.fault u.caused;
    nothing = record { entries = u.nothing.entries; late = u.nothing.late; transcripts = u.nothing.transcripts; memory = u.nothing.memory; unwritten = u.nothing.unwritten };
    touches = λ tells. (let t = u.touches tells in record { later = t.later; past = t.past; others = t.others; sees = t.sees });
    recovers = λ starts moment image left. u.recovers (starts_through starts) moment image left;
  }

  run_through : RanOn (through d of) c k lookback job clock m out out' o → RanOn d c k lookback job clock (of m) out out' (with_disk (of o.disk) o)
  run_through (inl r) = inl (folder_through r)
  run_through (inr u) = inr (unopened_through u)

  -- what a run on the disk leaves, where it began with this disk under its own
  pub ran_through : (disk back : D) → of m ≡ disk → back ≡ of o.disk → RanOn (through d of) c k lookback job clock m out out' o → RanOn d c k lookback job clock disk out out' (with_disk back o)
  ran_through disk back is end r =
      subst (λ (x : D). RanOn d c k lookback job clock x out out' (with_disk back o)) is (subst (λ (x : D). RanOn d c k lookback job clock (of m) out out' (with_disk x o)) (sym end) (run_through r))

-- ---- the whole run

-- the words are those of a verification
pub verifies : {I : Type 0} (s : SourceGhosts I) (input : I) (words : List (List ℕ)) (folder table index : List ℕ) (kind : VerifyKind) (v : Verification) → command_in words ≡ Some (Verify folder table index kind) → v ≡ record { table = table; index = index; kind = kind } → AsksFor s words input input (jobs.Verify v)
verifies s input words folder table index kind v named is = record { folder = folder; words_are_verify = named ∙ ap (λ (x : Verification). Some (Verify folder x.table x.index x.kind)) (sym is); input_is_left = refl }

-- and those of a load
pub loads : {I : Type 0} (s : SourceGhosts I) (input : I) (words : List (List ℕ)) (folder : List ℕ) (l : Loads) → command_in words ≡ Some (Load folder l) → AsksFor s words input input (jobs.Load l)
loads s input words folder l named = record { folder = folder; words_are_load = named; input_is_left = refl }

-- no word, or no script
module _ {D C I O : Type 0} (d : DiskGhosts D) (c : ClockGhosts C) (s : SourceGhosts I) (k : SinkGhosts O) (disk : D) (clock : C) (input input' : I) (out : O) (words : List (List ℕ)) (o : Outcome D) where
  pub not_run : (status : Status) → o.status ≡ status → o.disk ≡ disk → Stops d s disk disk input input' words status → o.trail.entries ≡ [] → o.late ≡ None → o.transcripts ≡ [] → o.memory ≡ is_memory_status status → TouchesOnly d disk disk catalogue_files
      → ((starts : StartsSound d disk) (moment : ℕ) (image : Image) → IsLeft d disk moment image → Recovers (base_of starts.sound.folder) [] None moment image)
      → IsUnrun d s (run_given disk clock input out words) (run_left o input' out) ⊎ IsRun d c s k (run_given disk clock input out words) (run_left o input' out)
  not_run status is same stops entries late transcripts memory touches recovers = inl (record {
    cause = subst (λ (x : D). Stops d s disk x input input' words o.status) (sym same) (subst (λ (x : Status). Stops d s disk disk input input' words x) (sym is) stops);
    no_entries = entries;
    no_late = late;
    no_replies = transcripts;
    no_bytes = refl;
    memory_is = memory ∙ ap is_memory_status (sym is);
    others_stay = λ tells. subst (λ (x : D). TouchesOnly d disk x catalogue_files) (sym same) touches;
    stops_recover = λ starts moment image left. recovers starts moment image (subst (λ (x : D). IsLeft d x moment image) same left);
  })

module _ {D C I O : Type 0} (d : DiskGhosts D) (c : ClockGhosts C) (s : SourceGhosts I) (k : SinkGhosts O) (disk : D) (clock : C) (input input' : I) (out out' : O) (words : List (List ℕ)) (command : SeenCommand) (named : command_in words ≡ Some command) (read : HasRead s command input input') (o : Outcome D) where
  some_read : (x : SeenCommand) → HasRead s x input input' → HasReadSome s x input input'
  some_read (Run folder lookback schedule) r = λ tells. (most_read, omega arith, r tells)
  some_read (Verify folder table index kind) r = r
  some_read (Load folder load) r = r

  stops_by : d.faults disk ≡ 0 → (0 < d.first_fault o.disk → 0 < d.faults o.disk) → (f : OpenFault) (n : ℕ) → n ≡ d.first_fault o.disk → IsCausedBy d disk o.disk f → Stops d s disk o.disk input input' words (stopped_by f n)
  stops_by fresh failed f (suc n) is caused = (let
      some : 0 < d.first_fault o.disk = omega (arith, is)
      in (command, named, (inl (omega (arith, fresh, failed some)), is), read))
  stops_by fresh failed fault.ReadFault zero is caused = (command, named, (caused, is), read)
  stops_by fresh failed fault.WriteFault zero is caused = (command, named, (caused, is), read)
  stops_by fresh failed (fault.Damaged file place) zero is caused = (command, named, caused, read)
  stops_by fresh failed fault.Memory zero is caused = (command, named, tt, some_read command read)

  pub run_of : (job : Job) → AsksFor s words input input' job → d.calls disk ≡ 0 → d.faults disk ≡ 0 → (0 < d.faults o.disk → 0 < d.first_fault o.disk) → (0 < d.first_fault o.disk → 0 < d.faults o.disk) → RanOn d c k (lookback_of command) job clock disk out out' o
      → IsUnrun d s (run_given disk clock input out words) (run_left o input' out') ⊎ IsRun d c s k (run_given disk clock input out words) (run_left o input' out')
  run_of job asks none fresh known failed (inl r) = inr (record {
    job = job;
    job_is_asked_for = asks;
    folder = r.folder;
    origin_is_the_folder = r.origin;
    trail_is_legal = r.over.legal;
    stamps_are_by_the_clock = r.over.stamped;
    horizons_are_by_the_lookback = (command, named, r.over.back);
    seat = r.over.seat;
    sink_failed = r.over.sink_failed;
    items_are_replied = r.over.replied;
    one_session_folds = run_folds (IsSoundFolder r.folder) (known_over (base_of r.folder) r.over.seat o.trail.entries) job o.transcripts r.over.sink_failed o.memory (d.first_fault o.disk) o.status r.over.legal r.over.replied r.over.status;
    bytes_are_printed = r.over.written;
    stops_recover = λ starts moment image left. r.over.recovers (starts_reads d disk starts) moment image (inl starts, left);
    opened = r.opened;
    opened_soon = r.soon;
    opened_within = r.within;
    before_it = r.before;
    stops_recover_later = λ reads moment image since left. r.over.recovers reads moment image (inr since, left);
    other_files_stay = λ reads tells. (let
        k = r.over.others reads tells
        in record { later = k.later; past = λ moment file bytes before left. absurd (omega (arith, none, before)); others = k.left; sees = k.seen });
    folder_stands = r.over.stands;
    late_is_of_a_failed_write = r.over.unlate;
    late_is_where_it_closed = r.over.late_is;
    closed_by_its_last_call = r.over.closed_at;
    status_is_caused = r.over.status;
    faults_are_theirs = r.over.blamed;
    all_is_ended = job_ended (IsSoundFolder r.folder) (known_over (base_of r.folder) r.over.seat o.trail.entries) job o.transcripts r.over.sink_failed o.memory r.over.replied;
    run_is_complete = complete (IsSoundFolder r.folder) (known_over (base_of r.folder) r.over.seat o.trail.entries) job o.transcripts r.over.sink_failed o.memory d k o.disk out out' (printed_for job o.transcripts) o.status (undamaged_at (IsSoundFolder r.folder) (known_over (base_of r.folder) r.over.seat o.trail.entries) refl) r.over.replied r.over.written r.over.status r.over.blamed known failed;
  })
  run_of job asks none fresh known failed (inr u) = inl (record {
    cause = subst (λ (x : Status). Stops d s disk o.disk input input' words x) (sym u.status) (stops_by fresh failed u.fault (d.first_fault o.disk) refl u.caused);
    no_entries = u.nothing.entries;
    no_late = u.nothing.late;
    no_replies = u.nothing.transcripts;
    no_bytes = u.nothing.unwritten;
    memory_is = u.nothing.memory;
    others_stay = u.touches;
    stops_recover = u.recovers;
  })
