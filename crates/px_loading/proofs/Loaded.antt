-- Files put over one another, and their blocks one behind the other.
use Rattle.std.proofs.Common.{◌≡◌, ℕ, ◌+◌, ◌-◌, ◌<◌, ◌≤◌, Bool, List, [], ◌∷◌, ◌++◌, length, take, drop, get_or, refl, sym, ap, subst, ◌∙◌, arith, inl, inr, length-append}
use Rattle.std.specs.Prelude.{◌↔◌, IfOk, IsTrue, Result, Ok, Err}
use Rattle.std.proofs.Math.Seq.{get_or-append_seam}
use Rattle.std.proofs.lemmas.Grind.{flat_map-append}
use Rattle.std.proofs.lemmas.List.{append-nil, take-append-drop, take_more, take_rest}
use Rattle.px_outside.specs.OnDisk.{Passes}
use Rattle.px_outside.specs.declared.disk.Disk.{Ghosts}
use Rattle.px_cells.specs.CellData.{CellData}
use Rattle.px_cells.specs.Order.{Below, IsAscending}
use Rattle.px_cells.proofs.Among.{ascending_join, ascending_left}
use Rattle.px_cellbytes.proofs.NextFaults.{last_of}
use Rattle.px_block.specs.Reading.{ComesAfter}
use Rattle.px_file.specs.Format.{AreBlocks, cells_in}
use Rattle.px_file.specs.declared.region_file.RegionFile.{RegionFile}
use Rattle.px_file.proofs.Blocks.{cells_push}
use Rattle.px_file.proofs.Growing.{after_parts, all_below}
use Rattle.px_merge.specs.Merged.{joined}
use Rattle.px_merge.specs.Settle.{settle}
use Rattle.px_merge.proofs.Settling.{settle_back, settle_sorted}
use Rattle.px_wal.specs.Snapshot.{FileData}
use Rattle.px_files.specs.Files.{HasFileCells, HaveFiles}

-- ---- blocks

pub cells_more : (blocks : List (List CellData)) (i : ℕ) (cells more : List CellData) → i < length blocks → cells ≡ cells_in (take i blocks) → more ≡ cells ++ get_or blocks i [] → more ≡ cells_in (take (i + 1) blocks)
cells_more blocks i cells more lt so-far is =
    is ∙ ap (λ (l : List CellData). l ++ get_or blocks i []) so-far ∙ sym (cells_push (take i blocks) (get_or blocks i [])) ∙ ap cells_in (sym (take_more blocks i [] lt))

-- a block stands behind those before it
pub block_after : (blocks : List (List CellData)) (i : ℕ) → AreBlocks blocks → i < length blocks → ComesAfter (cells_in (take i blocks)) (get_or blocks i [])
block_after blocks i right lt =
    let cut : cells_in blocks ≡ cells_in (take (i + 1) blocks) ++ cells_in (drop (i + 1) blocks) = ap cells_in (sym (take-append-drop (i + 1) blocks)) ∙ flat_map-append (λ b. b) (take (i + 1) blocks) (drop (i + 1) blocks) in
    let up : IsAscending (cells_in (take (i + 1) blocks)) = ascending_left (cells_in (take (i + 1) blocks)) (cells_in (drop (i + 1) blocks)) (subst IsAscending cut right.written.listed.ascending) in
    after_parts (cells_in (take i blocks)) (get_or blocks i []) (subst IsAscending (ap cells_in (take_more blocks i [] lt) ∙ cells_push (take i blocks) (get_or blocks i [])) up)

pub join_after : (xs ys : List CellData) → IsAscending xs → IsAscending ys → ComesAfter xs ys → IsAscending (xs ++ ys)
join_after xs ys a b after = ascending_join xs ys a b (all_below xs ys a b after)

-- ---- the cells that meet

last_is : (before front : List CellData) (l last : CellData) → before ≡ front ++ l ∷ [] → last ≡ get_or before (length before - 1) last → last ≡ l
last_is before front l last e is =
    let n : length before - 1 ≡ length front = (let a = ap length e in let b = length-append front (l ∷ []) in omega arith) in
    is ∙ ap (λ (k : ℕ). get_or before k last) n ∙ ap (λ (xs : List CellData). get_or xs (length front) last) e ∙ get_or-append_seam front l [] last

first_cut : (cells : List CellData) (first : CellData) → 1 ≤ length cells → first ≡ get_or cells 0 first → cells ≡ first ∷ drop 1 cells
first_cut [] first some is = absurd (omega arith)
first_cut (x ∷ cells) first some is = ap (λ (y : CellData). y ∷ cells) (sym is)

first_same : (cells more : List CellData) (first c : CellData) → first ≡ get_or cells 0 first → cells ≡ c ∷ more → first ≡ c
first_same cells more first c is e = is ∙ ap (λ (l : List CellData). get_or l 0 first) e

pub after_tested : (before cells : List CellData) (last first : CellData) (test : Bool) → 1 ≤ length before → 1 ≤ length cells → last ≡ get_or before (length before - 1) last → first ≡ get_or cells 0 first → IsTrue test ↔ Below last first
    → IsTrue test ↔ ComesAfter before cells
after_tested before cells last first test some more at begins tells = (
  λ yes front l e c rest s. subst (Below l) (first_same cells rest first c begins s) (subst (λ (z : CellData). Below z first) (last_is before front l last e at) (tells.0 yes)),
  λ after. elim (last_of before) [
    | inl none ↦ absurd (let n = ap length none in omega arith)
    | inr h ↦ tells.1 (subst (λ (z : CellData). Below z first) (sym (last_is before h.front h.last last h.is at)) (after h.front h.last h.is first (drop 1 cells) (first_cut cells first more begins)))
  ],
)

-- ---- calls

pub passes_then : {D : Type 0} (d : Ghosts D) (old mid new : D) (n m most : ℕ) → Passes d old mid n → Passes d mid new m → n + m ≤ most → Passes d old new most
passes_then d old mid new n m most first second le = record {
  later = omega (arith, first.later, second.later);
  at_most = omega (arith, first.at_most, second.at_most, le);
  faults_later = omega (arith, first.faults_later, second.faults_later);
  begun = second.begun ∙ first.begun;
}

-- ---- files

module _ {D : Type 0} (d : Ghosts D) (region : ℕ) where
  -- the first of some files, and the older ones
  pub record HasFirst (disk : D) (o : RegionFile) (files : List RegionFile) (lists : List (List CellData)) : Type 0 where
    pub file : FileData
    pub list : List CellData
    pub others : List FileData
    pub behind : List (List CellData)
    pub has : HasFileCells d region disk file o list
    pub have : HaveFiles d region disk others (take (length files - 1) (drop 1 files)) behind
    pub cut : lists ≡ list ∷ behind

  pub have_first : (disk : D) (named : List FileData) (files : List RegionFile) (o : RegionFile) (lists : List (List CellData)) → 1 ≤ length files → o ≡ get_or files 0 o → HaveFiles d region disk named files lists → HasFirst disk o files lists
  have_first disk named [] o lists some is have = absurd (omega arith)
  have_first disk [] (x ∷ files) o lists some is have = absurd have
  have_first disk (f ∷ named) (x ∷ files) o [] some is have = absurd have
  have_first disk (f ∷ named) (x ∷ files) o (l ∷ lists) some is have = record {
    file = f;
    list = l;
    others = named;
    behind = lists;
    has = subst (λ (y : RegionFile). HasFileCells d region disk f y l) (sym is) have.0;
    have = subst (λ (l : List RegionFile). HaveFiles d region disk named l lists) (sym (take_rest (x ∷ files) 1)) have.1;
    cut = refl;
  }

  pub have_none : (disk : D) (named : List FileData) (files : List RegionFile) (lists : List (List CellData)) → length files ≡ 0 → HaveFiles d region disk named files lists → lists ≡ []
  have_none disk [] [] [] none have = refl
  have_none disk [] [] (l ∷ lists) none have = absurd have
  have_none disk (f ∷ named) [] lists none have = absurd have
  have_none disk named (x ∷ files) lists none have = absurd (omega arith)

-- ---- lists

pub if_ok : {A E : Type 0} (r : Result A E) (P Q : A → Type 0) → ((a : A) → P a → Q a) → IfOk r P → IfOk r Q
if_ok (Ok a) P Q to is = to a is
if_ok (Err e) P Q to is = tt

-- newer cells over the older lists
pub settled_over : (list cells older new : List CellData) (behind lists : List (List CellData)) → cells ≡ list → older ≡ settle (joined behind) → new ≡ settle (cells ++ older) → lists ≡ list ∷ behind → new ≡ settle (joined lists)
settled_over list cells older new behind lists same is over cut =
    over ∙ ap (λ (l : List CellData). settle (cells ++ l)) is ∙ settle_back cells (joined behind) ∙ ap (λ (l : List CellData). settle (l ++ joined behind)) same ∙ ap (λ (l : List (List CellData)). settle (joined l)) (sym cut)

-- the log over all files
pub settled_all : (cells older new : List CellData) (lists : List (List CellData)) → older ≡ settle (joined lists) → new ≡ settle (cells ++ older) → new ≡ settle (cells ++ joined lists)
settled_all cells older new lists is over = over ∙ ap (λ (l : List CellData). settle (cells ++ l)) is ∙ settle_back cells (joined lists)

-- the log alone
pub settled_alone : (cells : List CellData) (lists : List (List CellData)) → IsAscending cells → lists ≡ [] → cells ≡ settle (cells ++ joined lists)
settled_alone cells lists sorted none = sym (settle_sorted cells sorted) ∙ ap settle (sym (append-nil cells)) ∙ ap (λ (l : List (List CellData)). settle (cells ++ joined l)) (sym none)
