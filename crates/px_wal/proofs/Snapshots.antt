-- Snapshots and their bytes.
use Rattle.std.proofs.Common.{◌≡◌, ◌≢◌, ℕ, suc, ◌+◌, ◌*◌, ◌^◌, ◌<◌, ◌≤◌, true, false, ltb, eqb, List, [], ◌∷◌, ◌++◌, length, get_or, take, drop, Option, Some, None, refl, sym, ap, ◌∙◌, append_assoc, zero-add, arith}
use Rattle.std.specs.Prelude.{map, option_map}
use Rattle.std.specs.List.{AllByRecursion}
use Rattle.std.specs.Int.{w32, w64, from_be_bytes}
use Rattle.std.proofs.Math.Seq.{take-add}
use Rattle.std.proofs.lemmas.Bool.{lt-ltb, le-ltb, eq-eqb, ne_eqb}
use Rattle.std.proofs.lemmas.Nat.{be_bytes_4, be_bytes_8, from_be_bytes-to_be_bytes_4}
use Rattle.std.proofs.lemmas.List.{append-nil, length-append, length-drop, length-take-le, map-append, take_more}
use Rattle.std.proofs.lemmas.List.Concat.{flat_map-append}
use Rattle.px_gatelog.specs.Format.{LogRecord}
use Rattle.px_gatelog.specs.Framed.{Framed, record_of}
use Rattle.px_wal.specs.Snapshot.{FileData, IsEntry, IsLast, IsSnapshot, SnapshotData, file_record_bytes, files_bytes, half_word_bytes, head_bytes, place_or, snapshot_body, snapshot_record, word_bytes, wrong_body, wrong_file, wrong_files, wrong_head, wrong_snapshot}
use Rattle.px_wal.specs.Snapshot.IsLast.{last}
use Rattle.px_wal.specs.SnapshotOf.{file_data}
use Rattle.px_wal.specs.declared.snapshot.FileEntry.{FileEntry}
use Rattle.px_wal.proofs.Readings.{small_drop, small_take}

-- ---- numbers at a place

pub word_at : (body : List ℕ) (at n k : ℕ) → ((i : ℕ) → get_or body i 0 < 256) → at + 8 ≤ length body → k ≡ 8 → n ≡ from_be_bytes w64 (take k (drop at body)) → take (at + 8) body ≡ take at body ++ word_bytes n
unfolding word_bytes
word_at body at n k small long eight number =
    let is : n ≡ from_be_bytes w64 (take 8 (drop at body)) = number ∙ ap (λ (j : ℕ). from_be_bytes w64 (take j (drop at body))) eight in
    take-add at 8 body ∙ ap (λ (l : List ℕ). take at body ++ l) (sym (be_bytes_8 (take 8 (drop at body)) n (length-take-le 8 (drop at body) (omega (arith, length-drop at body))) (small_take 8 (drop at body) (small_drop at body small)) is))

pub half_word_at : (body : List ℕ) (at n k : ℕ) → ((i : ℕ) → get_or body i 0 < 256) → at + 4 ≤ length body → k ≡ 4 → n ≡ from_be_bytes w32 (take k (drop at body)) → take (at + 4) body ≡ take at body ++ half_word_bytes n
unfolding half_word_bytes
half_word_at body at n k small long four number =
    let is : n ≡ from_be_bytes w32 (take 4 (drop at body)) = number ∙ ap (λ (j : ℕ). from_be_bytes w32 (take j (drop at body))) four in
    take-add at 4 body ∙ ap (λ (l : List ℕ). take at body ++ l) (sym (be_bytes_4 (take 4 (drop at body)) n (length-take-le 4 (drop at body) (omega (arith, length-drop at body))) (small_take 4 (drop at body) (small_drop at body small)) is))

pub length-word : (n : ℕ) → length (word_bytes n) ≡ 8
unfolding word_bytes
length-word n = refl

pub length-half_word : (n : ℕ) → length (half_word_bytes n) ≡ 4
unfolding half_word_bytes
length-half_word n = refl

pub length-file : (f : FileData) → length (file_record_bytes f) ≡ 20
length-file f = omega (arith, length-append (half_word_bytes f.local ++ word_bytes f.len) (word_bytes f.cells), length-append (half_word_bytes f.local) (word_bytes f.len), length-half_word f.local, length-word f.len, length-word f.cells)

pub length-files : (files : List FileData) → length (files_bytes files) ≡ 20 * length files
length-files [] = refl
length-files (f ∷ files) = omega (arith, length-append (file_record_bytes f) (files_bytes files), length-file f, length-files files)

-- ---- the first wrong place of a file

pub file_cut : (rest : List ℕ) → length rest < 4 → wrong_file rest ≡ Some 0
file_cut rest few = (let e : ltb (length rest) 4 ≡ true = lt-ltb (length rest) 4 few in rw e refl)

pub file_other : (rest : List ℕ) → 4 ≤ length rest → from_be_bytes w32 (take 4 rest) < 4 → wrong_file rest ≡ Some 3
file_other rest long low =
    let e : ltb (length rest) 4 ≡ false = le-ltb (length rest) 4 long in
    let f : ltb (from_be_bytes w32 (take 4 rest)) 4 ≡ true = lt-ltb _ 4 low in
    rw (e, f) refl

pub file_cut_len : (rest : List ℕ) → 4 ≤ length rest → 4 ≤ from_be_bytes w32 (take 4 rest) → length rest < 12 → wrong_file rest ≡ Some 4
file_cut_len rest long own few =
    let e : ltb (length rest) 4 ≡ false = le-ltb (length rest) 4 long in
    let f : ltb (from_be_bytes w32 (take 4 rest)) 4 ≡ false = le-ltb _ 4 own in
    let g : ltb (length rest) 12 ≡ true = lt-ltb (length rest) 12 few in
    rw (e, f, g) refl

pub file_cut_cells : (rest : List ℕ) → 12 ≤ length rest → 4 ≤ from_be_bytes w32 (take 4 rest) → length rest < 20 → wrong_file rest ≡ Some 12
file_cut_cells rest long own few =
    let e : ltb (length rest) 4 ≡ false = le-ltb (length rest) 4 (omega (arith, long)) in
    let f : ltb (from_be_bytes w32 (take 4 rest)) 4 ≡ false = le-ltb _ 4 own in
    let g : ltb (length rest) 12 ≡ false = le-ltb (length rest) 12 long in
    let h : ltb (length rest) 20 ≡ true = lt-ltb (length rest) 20 few in
    rw (e, f, g, h) refl

pub file_right : (rest : List ℕ) → 20 ≤ length rest → 4 ≤ from_be_bytes w32 (take 4 rest) → wrong_file rest ≡ None
file_right rest long own =
    let e : ltb (length rest) 4 ≡ false = le-ltb (length rest) 4 (omega (arith, long)) in
    let f : ltb (from_be_bytes w32 (take 4 rest)) 4 ≡ false = le-ltb _ 4 own in
    let g : ltb (length rest) 12 ≡ false = le-ltb (length rest) 12 (omega (arith, long)) in
    let h : ltb (length rest) 20 ≡ false = le-ltb (length rest) 20 long in
    rw (e, f, g, h) refl

-- ---- the first wrong place of the files

pub files_wrong : (n m at p : ℕ) (rest : List ℕ) → n ≡ suc m → wrong_file rest ≡ Some p → wrong_files n at rest ≡ Some (at + p)
unfolding wrong_files
files_wrong n m at p rest is wrong = ap (λ (k : ℕ). wrong_files k at rest) is ∙ ap (λ (o : Option ℕ). place_or at o (wrong_files m (at + 20) (drop 20 rest))) wrong

pub files_next : (n m at : ℕ) (rest : List ℕ) → n ≡ suc m → wrong_file rest ≡ None → wrong_files n at rest ≡ wrong_files m (at + 20) (drop 20 rest)
unfolding wrong_files
files_next n m at rest is right = ap (λ (k : ℕ). wrong_files k at rest) is ∙ ap (λ (o : Option ℕ). place_or at o (wrong_files m (at + 20) (drop 20 rest))) right

pub files_ended : (n at : ℕ) (rest : List ℕ) → n ≡ 0 → length rest ≡ 0 → wrong_files n at rest ≡ None
unfolding wrong_files
files_ended n at rest is none = ap (λ (k : ℕ). wrong_files k at rest) is ∙ (let e : eqb (length rest) 0 ≡ true = eq-eqb (length rest) 0 none in rw e refl)

pub files_more : (n at : ℕ) (rest : List ℕ) → n ≡ 0 → 0 < length rest → wrong_files n at rest ≡ Some at
unfolding wrong_files
files_more n at rest is some = ap (λ (k : ℕ). wrong_files k at rest) is ∙ (let e : eqb (length rest) 0 ≡ false = ne_eqb (length rest) 0 (λ z. omega arith) in rw e refl)

-- ---- the first wrong place of a body

pub body_head : (body : List ℕ) (p : ℕ) → wrong_head body ≡ Some p → wrong_body body ≡ Some p
unfolding wrong_body
body_head body p wrong = ap (λ (o : Option ℕ). place_or 0 o (wrong_files (get_or body 25 0) 26 (drop 26 body))) wrong ∙ ap Some (zero-add p)

pub body_files : (body : List ℕ) → wrong_head body ≡ None → wrong_body body ≡ wrong_files (get_or body 25 0) 26 (drop 26 body)
unfolding wrong_body
body_files body right = ap (λ (o : Option ℕ). place_or 0 o (wrong_files (get_or body 25 0) 26 (drop 26 body))) right

pub head_right : (body : List ℕ) → 26 ≤ length body → get_or body 24 0 < 8 → wrong_head body ≡ None
head_right body long few =
    let a : ltb (length body) 8 ≡ false = le-ltb (length body) 8 (omega (arith, long)) in
    let b : ltb (length body) 16 ≡ false = le-ltb (length body) 16 (omega (arith, long)) in
    let c : ltb (length body) 24 ≡ false = le-ltb (length body) 24 (omega (arith, long)) in
    let d : ltb (length body) 25 ≡ false = le-ltb (length body) 25 (omega (arith, long)) in
    let e : ltb (get_or body 24 0) 8 ≡ true = lt-ltb (get_or body 24 0) 8 few in
    let f : ltb (length body) 26 ≡ false = le-ltb (length body) 26 long in
    rw (a, b, c, d, e, f) refl

-- ---- what is spelled is right

local_of_file : (f : FileData) (rest : List ℕ) → f.local < 2 ^ 32 → from_be_bytes w32 (take 4 (file_record_bytes f ++ rest)) ≡ f.local
unfolding half_word_bytes
local_of_file f rest small = from_be_bytes-to_be_bytes_4 f.local small

behind_file : (f : FileData) (rest : List ℕ) → drop 20 (file_record_bytes f ++ rest) ≡ rest
unfolding half_word_bytes word_bytes
behind_file f rest = refl

files_are_right : (at : ℕ) (files : List FileData) → AllByRecursion IsEntry files → wrong_files (length files) at (files_bytes files) ≡ None
files_are_right at [] all = files_ended 0 at [] refl refl
files_are_right at (f ∷ files) all =
    let one : wrong_file (file_record_bytes f ++ files_bytes files) ≡ None =
    file_right (file_record_bytes f ++ files_bytes files) (omega (arith, length-append (file_record_bytes f) (files_bytes files), length-file f)) (omega (arith, local_of_file f (files_bytes files) all.0.local, all.0.own)) in
    files_next (length (f ∷ files)) (length files) at (file_record_bytes f ++ files_bytes files) refl one ∙ ap (wrong_files (length files) (at + 20)) (behind_file f (files_bytes files)) ∙ files_are_right (at + 20) files all.1

counts_of : (s : SnapshotData) → (get_or (snapshot_body s) 24 0 ≡ s.compactions) × (get_or (snapshot_body s) 25 0 ≡ length s.files) × (drop 26 (snapshot_body s) ≡ files_bytes s.files)
unfolding snapshot_body word_bytes
counts_of s = (refl, refl, refl)

pub length-head : (s : SnapshotData) → length (head_bytes s) ≡ 26
length-head s =
    omega (
      arith,
      length-append ((word_bytes s.flushed ++ word_bytes s.horizon) ++ word_bytes s.stamp) (s.compactions ∷ length s.files ∷ []),
      length-append (word_bytes s.flushed ++ word_bytes s.horizon) (word_bytes s.stamp),
      length-append (word_bytes s.flushed) (word_bytes s.horizon),
      length-word s.flushed,
      length-word s.horizon,
      length-word s.stamp,
    )

pub length-snapshot : (s : SnapshotData) → length (snapshot_body s) ≡ 26 + 20 * length s.files
unfolding snapshot_body
length-snapshot s = omega (arith, length-append (head_bytes s) (files_bytes s.files), length-head s, length-files s.files)

body_is_right : (s : SnapshotData) → IsSnapshot s → wrong_body (snapshot_body s) ≡ None
body_is_right s is =
    let counts = counts_of s in
    body_files (snapshot_body s) (head_right (snapshot_body s) (omega (arith, length-snapshot s)) (omega (arith, counts.0, is.compactions)))
    ∙ ap (λ (n : ℕ). wrong_files n 26 (drop 26 (snapshot_body s))) counts.1 ∙ ap (wrong_files (length s.files) 26) counts.2 ∙ files_are_right 26 s.files is.files

pub snapshot_is_right : (before : List LogRecord) (s : SnapshotData) → IsSnapshot s → wrong_snapshot before (snapshot_record s) ≡ None
unfolding wrong_snapshot
snapshot_is_right before s is = (let r = body_is_right s is in rw r refl)

-- ---- reading

-- a file behind others
pub file_more : (body head : List ℕ) (files : List FileEntry) (f : FileEntry) (at : ℕ) → take at body ≡ head ++ files_bytes (map file_data files) → take (at + 20) body ≡ take at body ++ file_record_bytes (file_data f)
    → take (at + 20) body ≡ head ++ files_bytes (map file_data (files ++ f ∷ []))
file_more body head files f at before one =
    one ∙ ap (λ (l : List ℕ). l ++ file_record_bytes (file_data f)) before ∙ append_assoc head (files_bytes (map file_data files)) (file_record_bytes (file_data f))
    ∙ ap (λ (l : List ℕ). head ++ l) (ap (λ (l : List ℕ). files_bytes (map file_data files) ++ l) (sym (append-nil (file_record_bytes (file_data f)))) ∙ sym (flat_map-append file_record_bytes (map file_data files) (file_data f ∷ [])) ∙ ap files_bytes (sym (map-append file_data files (f ∷ []))))

pub entries_more : (files : List FileEntry) (f : FileEntry) → AllByRecursion IsEntry (map file_data files) → IsEntry (file_data f) → AllByRecursion IsEntry (map file_data (files ++ f ∷ []))
entries_more [] f all is = (is, tt)
entries_more (e ∷ files) f all is = (all.0, entries_more files f all.1 is)

-- the head of a body, by its numbers
pub head_is : (body : List ℕ) (a b c : ℕ) → 26 ≤ length body → take (0 + 8) body ≡ take 0 body ++ word_bytes a → take (8 + 8) body ≡ take 8 body ++ word_bytes b → take (16 + 8) body ≡ take 16 body ++ word_bytes c
    → take 26 body ≡ ((word_bytes a ++ word_bytes b) ++ word_bytes c) ++ get_or body 24 0 ∷ get_or body 25 0 ∷ []
head_is body a b c long one two three =
    take_more body 25 0 (omega (arith, long)) ∙ ap (λ (l : List ℕ). l ++ get_or body 25 0 ∷ []) (take_more body 24 0 (omega (arith, long)))
    ∙ append_assoc (take 24 body) (get_or body 24 0 ∷ []) (get_or body 25 0 ∷ []) ∙ ap (λ (l : List ℕ). l ++ get_or body 24 0 ∷ get_or body 25 0 ∷ []) (three ∙ ap (λ (l : List ℕ). l ++ word_bytes c) (two ∙ ap (λ (l : List ℕ). l ++ word_bytes b) one))

pub body_is : (body files : List ℕ) (s : SnapshotData) → body ≡ take 26 body ++ files → take 26 body ≡ head_bytes s → files ≡ files_bytes s.files → body ≡ snapshot_body s
unfolding snapshot_body
body_is body files s whole head is = whole ∙ ap (λ (l : List ℕ). l ++ files) head ∙ ap (λ (l : List ℕ). head_bytes s ++ l) is

pub snapshot_filled : (f : Framed) (s : SnapshotData) → f.kind ≡ 1 → f.body ≡ head_bytes s ++ files_bytes s.files → record_of f ≡ snapshot_record s
unfolding snapshot_body
snapshot_filled f s kind body = ap (λ (k : ℕ). record { kind = k; body = f.body }) kind ∙ ap (λ (l : List ℕ). record { kind = 1; body = l }) body

-- ---- the answers of a reader

pub wrong_kind : (before : List LogRecord) (kind : ℕ) (body : List ℕ) → kind ≢ 1 → Some 0 ≡ wrong_snapshot before (record { kind = kind; body = body })
unfolding wrong_snapshot
wrong_kind before kind body other = (let no : eqb kind 1 ≡ false = ne_eqb kind 1 other in rw no refl)

pub answers_body : (before : List LogRecord) (kind : ℕ) (body : List ℕ) (w : Option ℕ) → kind ≡ 1 → wrong_body body ≡ w → option_map (λ place. 5 + place) w ≡ wrong_snapshot before (record { kind = kind; body = body })
unfolding wrong_snapshot
answers_body before kind body w named wrong = rw (named, wrong) refl

pub last_more : (records : List LogRecord) (kind : ℕ) (body : List ℕ) (s : SnapshotData) → kind ≡ 1 → body ≡ snapshot_body s → IsLast (records ++ record { kind = kind; body = body } ∷ []) s
last_more records kind body s named is = last records (ap (λ (r : LogRecord). records ++ r ∷ []) (ap (λ (k : ℕ). record { kind = k; body = body }) named ∙ ap (λ (l : List ℕ). record { kind = 1; body = l }) is))
