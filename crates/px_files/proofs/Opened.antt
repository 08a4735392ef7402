-- Opening files one after the other.
use Rattle.std.proofs.Common.{◌≡◌, ℕ, zero, suc, ◌+◌, ◌<◌, List, [], ◌∷◌, ◌++◌, length, take, drop, get_or, refl, sym, ap, subst, ◌∙◌, arith, add-one, drop-cons}
use Rattle.std.specs.Prelude.{IsTrue, map}
use Rattle.std.proofs.lemmas.List.{map-append, take-append-drop, take_more}
use Rattle.px_outside.specs.Disk.{Image}
use Rattle.px_outside.specs.OnDisk.{Passes, Stays}
use Rattle.px_outside.specs.declared.disk.Disk.{Ghosts}
use Rattle.px_cells.specs.CellData.{CellData}
use Rattle.px_file.specs.Files.{HasBlocks}
use Rattle.px_file.specs.Format.{cells_in}
use Rattle.px_file.specs.Reading.{IsFirstWrongInFile}
use Rattle.px_file.specs.declared.region_file.RegionFile.{RegionFile}
use Rattle.px_wal.specs.Files.{file_of}
use Rattle.px_wal.specs.Snapshot.{FileData}
use Rattle.px_wal.specs.SnapshotOf.{file_data}
use Rattle.px_wal.specs.declared.snapshot.FileEntry.{FileEntry}
use Rattle.px_files.specs.Calls.{opening_calls}
use Rattle.px_files.specs.Files.{FilesStand, HasFileCells, HaveFiles, IsFirstBad}
use Rattle.px_files.proofs.Kept.{have_more, have_quiet, seen_stand}

-- an entry at a place, whatever stands for one that isn't there
pub at_any : (entries : List FileEntry) (i : ℕ) (d e : FileEntry) → i < length entries → get_or entries i d ≡ get_or entries i e
at_any [] i d e lt = absurd (omega arith)
at_any (x ∷ entries) zero d e lt = refl
at_any (x ∷ entries) (suc i) d e lt = at_any entries i d e (omega arith)

abbrev pub no_entry : FileEntry
no_entry = record { local = 0; len = 0; cells = 0 }

cut_at : (entries : List FileEntry) (i : ℕ) (e : FileEntry) → i < length entries → e ≡ get_or entries i e → map file_data entries ≡ map file_data (take i entries) ++ file_data e ∷ map file_data (drop (i + 1) entries)
cut_at entries i e lt is =
    let cut : drop i entries ≡ get_or entries i e ∷ drop (i + 1) entries = rw (add-one, drop-cons entries i e) refl in
    ap (map file_data) (sym (take-append-drop i entries) ∙ ap (λ (l : List FileEntry). take i entries ++ l) (cut ∙ ap (λ (x : FileEntry). x ∷ drop (i + 1) entries) (sym is)))
    ∙ map-append file_data (take i entries) (e ∷ drop (i + 1) entries)

next_of : (entries : List FileEntry) (i : ℕ) (e : FileEntry) → i < length entries → e ≡ get_or entries i e → map file_data (take (i + 1) entries) ≡ map file_data (take i entries) ++ file_data e ∷ []
next_of entries i e lt is = ap (map file_data) (take_more entries i e lt ∙ ap (λ (x : FileEntry). take i entries ++ x ∷ []) (sym is)) ∙ map-append file_data (take i entries) (e ∷ [])

-- ---- calls

opening_more : (files : List RegionFile) (o : RegionFile) → opening_calls (files ++ o ∷ []) ≡ opening_calls files + (4 + length o.index.entries.items)
opening_more [] o = omega arith
opening_more (f ∷ files) o = (let r = opening_more files o in omega arith)

pub calls_more : {D : Type 0} (d : Ghosts D) (first old new : D) (files more : List RegionFile) (o : RegionFile) → more ≡ files ++ o ∷ [] → Passes d first old (opening_calls files) → Passes d old new (4 + length o.index.entries.items) → Passes d first new (opening_calls more)
calls_more d first old new files more o is before one = record {
  later = omega (arith, before.later, one.later);
  at_most = (let e = ap opening_calls is ∙ opening_more files o in omega (arith, before.at_most, one.at_most));
  faults_later = omega (arith, before.faults_later, one.faults_later);
  begun = one.begun ∙ before.begun;
}

-- ---- files

module _ {D : Type 0} (d : Ghosts D) (region : ℕ) where
  -- some files are open
  pub record AreOpen (disk : D) (named : List FileData) (files : List RegionFile) : Type 0 where
    pub lists : List (List CellData)
    pub have : HaveFiles d region disk named files lists

  pub open_more : (old new : D) (entries : List FileEntry) (i : ℕ) (e : FileEntry) (files more : List RegionFile) (o : RegionFile) → AreOpen old (map file_data (take i entries)) files → i < length entries → e ≡ get_or entries i e → Stays d old new → d.seen new ≡ d.seen old
      → o.file ≡ file_of region e.local → ((blocks : List (List CellData)) × HasBlocks d o new blocks) → more ≡ files ++ o ∷ [] → AreOpen new (map file_data (take (i + 1) entries)) more
  open_more old new entries i e files more o open_ lt is stays same file has more-is =
      let quiet = have_quiet d region old new (map file_data (take i entries)) files open_.lists stays same open_.have in
      let one : HasFileCells d region new (file_data e) o (cells_in has.0) = record { is = file; blocks = has.0; has = has.1; cells = refl } in
      let all = have_more d region new (map file_data (take i entries)) files open_.lists (file_data e) o (cells_in has.0) quiet one in
      record {
        lists = open_.lists ++ cells_in has.0 ∷ [];
        have = subst (λ (n : List FileData). HaveFiles d region new n more (open_.lists ++ cells_in has.0 ∷ [])) (sym (next_of entries i e lt is))
            (subst (λ (fs : List RegionFile). HaveFiles d region new (map file_data (take i entries) ++ file_data e ∷ []) fs (open_.lists ++ cells_in has.0 ∷ [])) (sym more-is) all);
      }

  pub first_bad : (first old : D) (entries : List FileEntry) (i : ℕ) (e : FileEntry) (files : List RegionFile) (file place : ℕ) → IsTrue d.tells → AreOpen old (map file_data (take i entries)) files → i < length entries → e ≡ get_or entries i e → d.seen old ≡ d.seen first
      → file ≡ file_of region e.local → IsFirstWrongInFile (d.seen old file) place → IsFirstBad region (d.seen first) (map file_data entries) file place
  first_bad first old entries i e files file place tells open_ lt is same file-is wrong = record {
    before = map file_data (take i entries);
    lists = open_.lists;
    bad = file_data e;
    rest = map file_data (drop (i + 1) entries);
    cut = cut_at entries i e lt is;
    right = subst (λ (s : Image). FilesStand region s (map file_data (take i entries)) open_.lists) same (seen_stand d region old (map file_data (take i entries)) files open_.lists tells open_.have);
    file_is = file-is;
    wrong = subst (λ (s : Image). IsFirstWrongInFile (s file) place) same wrong;
  }
