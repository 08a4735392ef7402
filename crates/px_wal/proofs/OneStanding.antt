-- The files of a log or a manifest stand for one thing at most.
use Rattle.std.proofs.Common.{◌≡◌, ℕ, ◌^◌, ◌<◌, List, [], ◌∷◌, ◌++◌, length, get_or, take, drop, refl, sym, ap, subst, ◌∙◌, arith}
use Rattle.std.specs.Prelude.{map}
use Rattle.std.specs.List.{AllByRecursion}
use Rattle.std.specs.Int.{w32, w64, from_be_bytes}
use Rattle.std.proofs.lemmas.Nat.{from_be_bytes-to_be_bytes_4, from_be_bytes-to_be_bytes_8}
use Rattle.std.proofs.lemmas.List.{length-append}
use Rattle.px_outside.specs.Disk.{Image}
use Rattle.px_cellbytes.proofs.OneReading.{one_spelling}
use Rattle.px_gatelog.specs.Format.{LogForm, LogRecord, records_of, segments_of}
use Rattle.px_gatelog.specs.Records.{RecordsStand}
use Rattle.px_gatelog.proofs.Standing.{segments_same}
use Rattle.px_wal.specs.Batches.{LogBatch}
use Rattle.px_wal.specs.Files.{file_of}
use Rattle.px_wal.specs.Form.{IsLogBatch, batch_body, batch_record, number_in, wal_form}
use Rattle.px_wal.specs.Manifest.{SnapshotStands}
use Rattle.px_wal.specs.Snapshot.{FileData, IsEntry, IsLast, IsSnapshot, SnapshotData, file_record_bytes, files_bytes, half_word_bytes, manifest_form, snapshot_body, snapshot_record, word_bytes}
use Rattle.px_wal.specs.Snapshot.IsLast.{none, last}
use Rattle.px_wal.specs.Wal.{LogStands}
use Rattle.px_wal.proofs.Readings.{cells_of_body, number_of_body}
use Rattle.px_wal.proofs.Snapshots.{length-file}

records_once : (form : LogForm) (first second : ℕ) (image : Image) (a b : List LogRecord) → RecordsStand form first second image a → RecordsStand form first second image b → a ≡ b
records_once form first second image a b one two = sym one.2 ∙ ap records_of (segments_same (segments_of form (image first) (image second)) one.0 two.0 one.1 two.1) ∙ two.2

-- ---- batches

batch_once : (a b : LogBatch) → IsLogBatch a → IsLogBatch b → batch_record a ≡ batch_record b → a ≡ b
batch_once a b one two same =
    let body : batch_body a ≡ batch_body b = ap (λ (r : LogRecord). r.body) same in
    let number : a.number ≡ b.number = sym (number_of_body a one.number) ∙ ap number_in body ∙ number_of_body b two.number in
    let cells : a.cells ≡ b.cells = one_spelling a.cells b.cells (record { short = one.written.short; ranged = one.written.ranged }) (record { short = two.written.short; ranged = two.written.ranged }) (sym (cells_of_body a) ∙ ap (drop 12) body ∙ cells_of_body b) in
    λ i. record { number = number i; cells = cells i }

pub batches_once : (a b : List LogBatch) → AllByRecursion IsLogBatch a → AllByRecursion IsLogBatch b → map batch_record a ≡ map batch_record b → a ≡ b
batches_once [] [] one two same = refl
batches_once [] (y ∷ b) one two same = cc
batches_once (x ∷ a) [] one two same = cc
batches_once (x ∷ a) (y ∷ b) one two same =
    let first : batch_record x ≡ batch_record y = cc in
    let rest : map batch_record a ≡ map batch_record b = cc in
    let head = batch_once x y one.0 two.0 first in
    let tail = batches_once a b one.1 two.1 rest in
    λ i. head i ∷ tail i

pub log_once : (region flushed : ℕ) (image : Image) (a b : List LogBatch) → LogStands region flushed image a → LogStands region flushed image b → a ≡ b
log_once region flushed image a b one two =
    batches_once a b one.right.each two.right.each (records_once (wal_form flushed) (file_of region 0) (file_of region 1) image (map batch_record a) (map batch_record b) one.records two.records)

-- ---- snapshots

local_in : (f : FileData) (rest : List ℕ) → f.local < 2 ^ 32 → from_be_bytes w32 (take 4 (file_record_bytes f ++ rest)) ≡ f.local
unfolding half_word_bytes
local_in f rest small = from_be_bytes-to_be_bytes_4 f.local small

len_in : (f : FileData) (rest : List ℕ) → f.len < 2 ^ 64 → from_be_bytes w64 (take 8 (drop 4 (file_record_bytes f ++ rest))) ≡ f.len
unfolding half_word_bytes word_bytes
len_in f rest small = from_be_bytes-to_be_bytes_8 f.len small

cells_in : (f : FileData) (rest : List ℕ) → f.cells < 2 ^ 64 → from_be_bytes w64 (take 8 (drop 12 (file_record_bytes f ++ rest))) ≡ f.cells
unfolding half_word_bytes word_bytes
cells_in f rest small = from_be_bytes-to_be_bytes_8 f.cells small

behind : (f : FileData) (rest : List ℕ) → drop 20 (file_record_bytes f ++ rest) ≡ rest
unfolding half_word_bytes word_bytes
behind f rest = refl

files_once : (a b : List FileData) → AllByRecursion IsEntry a → AllByRecursion IsEntry b → files_bytes a ≡ files_bytes b → a ≡ b
files_once [] [] one two same = refl
files_once [] (g ∷ b) one two same = absurd (let l = ap length same in let m = length-append (file_record_bytes g) (files_bytes b) in let n = length-file g in omega arith)
files_once (f ∷ a) [] one two same = absurd (let l = ap length same in let m = length-append (file_record_bytes f) (files_bytes a) in let n = length-file f in omega arith)
files_once (f ∷ a) (g ∷ b) one two same =
    let local : f.local ≡ g.local = sym (local_in f (files_bytes a) one.0.local) ∙ ap (λ (l : List ℕ). from_be_bytes w32 (take 4 l)) same ∙ local_in g (files_bytes b) two.0.local in
    let len : f.len ≡ g.len = sym (len_in f (files_bytes a) one.0.len) ∙ ap (λ (l : List ℕ). from_be_bytes w64 (take 8 (drop 4 l))) same ∙ len_in g (files_bytes b) two.0.len in
    let cells : f.cells ≡ g.cells = sym (cells_in f (files_bytes a) one.0.cells) ∙ ap (λ (l : List ℕ). from_be_bytes w64 (take 8 (drop 12 l))) same ∙ cells_in g (files_bytes b) two.0.cells in
    let rest = files_once a b one.1 two.1 (sym (behind f (files_bytes a)) ∙ ap (drop 20) same ∙ behind g (files_bytes b)) in
    λ i. record { local = local i; len = len i; cells = cells i } ∷ rest i

flushed_in : (s : SnapshotData) → s.flushed < 2 ^ 64 → from_be_bytes w64 (take 8 (snapshot_body s)) ≡ s.flushed
unfolding snapshot_body word_bytes
flushed_in s small = from_be_bytes-to_be_bytes_8 s.flushed small

horizon_in : (s : SnapshotData) → s.horizon < 2 ^ 64 → from_be_bytes w64 (take 8 (drop 8 (snapshot_body s))) ≡ s.horizon
unfolding snapshot_body word_bytes
horizon_in s small = from_be_bytes-to_be_bytes_8 s.horizon small

stamp_in : (s : SnapshotData) → s.stamp < 2 ^ 64 → from_be_bytes w64 (take 8 (drop 16 (snapshot_body s))) ≡ s.stamp
unfolding snapshot_body word_bytes
stamp_in s small = from_be_bytes-to_be_bytes_8 s.stamp small

counts_in : (s : SnapshotData) → (get_or (snapshot_body s) 24 0 ≡ s.compactions) × (drop 26 (snapshot_body s) ≡ files_bytes s.files)
unfolding snapshot_body word_bytes
counts_in s = (refl, refl)

pub snapshot_once : (s t : SnapshotData) → IsSnapshot s → IsSnapshot t → snapshot_body s ≡ snapshot_body t → s ≡ t
snapshot_once s t one two same =
    let flushed : s.flushed ≡ t.flushed = sym (flushed_in s one.flushed) ∙ ap (λ (l : List ℕ). from_be_bytes w64 (take 8 l)) same ∙ flushed_in t two.flushed in
    let horizon : s.horizon ≡ t.horizon = sym (horizon_in s one.horizon) ∙ ap (λ (l : List ℕ). from_be_bytes w64 (take 8 (drop 8 l))) same ∙ horizon_in t two.horizon in
    let stamp : s.stamp ≡ t.stamp = sym (stamp_in s one.stamp) ∙ ap (λ (l : List ℕ). from_be_bytes w64 (take 8 (drop 16 l))) same ∙ stamp_in t two.stamp in
    let compactions : s.compactions ≡ t.compactions = sym (counts_in s).0 ∙ ap (λ (l : List ℕ). get_or l 24 0) same ∙ (counts_in t).0 in
    let files = files_once s.files t.files one.files two.files (sym (counts_in s).1 ∙ ap (drop 26) same ∙ (counts_in t).1) in
    λ i. record { flushed = flushed i; horizon = horizon i; stamp = stamp i; compactions = compactions i; files = files i }

last_once : (a b : List LogRecord) (x y : LogRecord) → a ++ x ∷ [] ≡ b ++ y ∷ [] → x ≡ y
last_once [] [] x y same = cc
last_once [] (c ∷ []) x y same = cc
last_once [] (c ∷ d ∷ b) x y same = cc
last_once (c ∷ []) [] x y same = cc
last_once (c ∷ d ∷ a) [] x y same = cc
last_once (c ∷ a) (d ∷ b) x y same = (let rest : a ++ x ∷ [] ≡ b ++ y ∷ [] = cc in last_once a b x y rest)

none_last : (a : List LogRecord) (x : LogRecord) → [] ≡ a ++ x ∷ [] → ⊥
none_last [] x same = cc
none_last (c ∷ a) x same = cc

named_once : (records : List LogRecord) (s t : SnapshotData) → IsSnapshot s → IsSnapshot t → IsLast records s → IsLast records t → s ≡ t
named_once records s t one two (none a x) (none b y) = x ∙ sym y
named_once records s t one two (none a x) (last front y) = absurd (none_last front (snapshot_record t) (sym a ∙ y))
named_once records s t one two (last front x) (none b y) = absurd (none_last front (snapshot_record s) (sym b ∙ x))
named_once records s t one two (last front x) (last front' y) = snapshot_once s t one two (ap (λ (r : LogRecord). r.body) (last_once front front' (snapshot_record s) (snapshot_record t) (sym x ∙ y)))

pub manifest_once : (region : ℕ) (image : Image) (s t : SnapshotData) → SnapshotStands region image s → SnapshotStands region image t → s ≡ t
manifest_once region image s t one two = by (records_once manifest_form (file_of region 2) (file_of region 3) image one.records two.records one.stands two.stands)
  where
    by : one.records ≡ two.records → s ≡ t
    by same = named_once two.records s t one.right two.right (subst (λ (r : List LogRecord). IsLast r s) same one.last) two.last
