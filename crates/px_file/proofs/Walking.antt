-- Reading the blocks of a file one after the other.
use Rattle.std.proofs.Common.{◌≡◌, ◌≢◌, ◌⊎◌, ℕ, ◌+◌, ◌-◌, ◌*◌, ◌<◌, ◌≤◌, Bool, true, false, List, [], ◌∷◌, ◌++◌, length, take, drop, refl, sym, ap, subst, ◌∙◌, arith, append_assoc, inl, inr}
use Rattle.std.specs.Prelude.{IsTrue, ◌↔◌}
use Rattle.std.specs.Int.{w32, from_be_bytes}
use Rattle.std.specs.List.{AllByRecursion}
use Rattle.std.proofs.lemmas.List.{drop-drop, drop_at, length-take, take-append-drop, take-take}
use Rattle.std.proofs.lemmas.Bool.{cases_Bool}
use Rattle.px_outside.specs.Disk.{Image, RoseBy, StaysBy}
use Rattle.px_outside.specs.OnDisk.{Only, Passes}
use Rattle.px_outside.proofs.Moments.{only_stays}
use Rattle.px_outside.specs.declared.disk.Disk.{Ghosts}
use Rattle.px_cells.specs.CellData.{CellData}
use Rattle.px_cellbytes.specs.declared.fault.CellFault.{CellFault}
use Rattle.px_cellbytes.specs.declared.fault.CellFault.TheVariants.{Short, BadKind, OutOfOrder, Memory}
use Rattle.px_cellbytes.specs.Reading.{place_of_fault}
use Rattle.px_block.specs.Block.{IsBlock, IsBlockFull, block_bytes}
use Rattle.px_block.specs.Reading.{ComesAfter, HasCount, IsFront, IsFrontFault, count_in}
use Rattle.px_block.proofs.OneBlock.{front_within}
use Rattle.px_file.specs.Format.{blocks_bytes, cells_in, letters, tail_bytes}
use Rattle.px_file.specs.IndexOf.{IsIndex}
use Rattle.px_file.specs.Reading.{DiffersAt, IsFirstWrongInFile, last_block}
use Rattle.px_file.specs.Reading.IsFirstWrongInFile.{in_block, in_tail}
use Rattle.px_file.specs.Files.{HasBlocks}
use Rattle.px_file.specs.declared.index.Index.{Index}
use Rattle.px_file.specs.inner.Walk.{HasIndex, HasWalked, IsWalked}
use Rattle.px_file.specs.declared.fault.FileFault.{FileFault}
use Rattle.px_file.specs.declared.fault.FileFault.TheVariants.{Damaged, Memory as NoMemory}
use Rattle.px_file.specs.declared.walk.Walk.{Walk}
use Rattle.px_file.proofs.Blocks.{bytes_push, end_push, length-index_of}
use Rattle.px_file.proofs.Growing.{after_last, all_append, blocks_more, blocks_none}
use Rattle.px_file.proofs.Written.{index_few, tail_is}

-- ---- the last block

pub last_push : (blocks : List (List CellData)) (b : List CellData) → last_block (blocks ++ b ∷ []) ≡ b
last_push [] b = refl
last_push (x ∷ []) b = refl
last_push (x ∷ y ∷ blocks) b = last_push (y ∷ blocks) b

last_is : (x : List CellData) (blocks : List (List CellData)) → (front : List (List CellData)) × (x ∷ blocks ≡ front ++ last_block (x ∷ blocks) ∷ [])
last_is x [] = ([], refl)
last_is x (y ∷ blocks) = (let r = last_is y blocks in (x ∷ r.0, ap (λ (l : List (List CellData)). x ∷ l) r.1))

all_last : (P : List CellData → Type 0) (front : List (List CellData)) (b : List CellData) → AllByRecursion P (front ++ b ∷ []) → P b
all_last P [] b all = all.0
all_last P (x ∷ front) b all = all_last P front b all.1

after_blocks : (blocks : List (List CellData)) (b : List CellData) → AllByRecursion IsBlock blocks → ComesAfter (last_block blocks) b → ComesAfter (cells_in blocks) b
after_blocks [] b each after = after
after_blocks (x ∷ blocks) b each after =
    let l = last_is x blocks in
    let last : IsBlock (last_block (x ∷ blocks)) = all_last IsBlock l.0 (last_block (x ∷ blocks)) (subst (AllByRecursion IsBlock) l.1 each) in
    subst (λ (bs : List (List CellData)). ComesAfter (cells_in bs) b) (sym l.1) (after_last l.0 (last_block (x ∷ blocks)) b last after)

-- ---- counts of a window

count_in_take : (n : ℕ) (rest : List ℕ) → 4 ≤ n → count_in (take n rest) ≡ count_in rest
unfolding count_in
count_in_take n rest le = ap (from_be_bytes w32) (take-take 4 n rest le)

count_taken : (n : ℕ) (rest : List ℕ) → 4 ≤ n → HasCount rest → HasCount (take n rest)
count_taken n rest le has = (let l = length-take n rest in let h = has.0 in (omega arith, λ none. has.1 (sym (count_in_take n rest le) ∙ none)))

count_back : (n : ℕ) (rest : List ℕ) → 4 ≤ n → HasCount (take n rest) → HasCount rest
count_back n rest le has = (let l = length-take n rest in let h = has.0 in (omega arith, λ none. has.1 (count_in_take n rest le ∙ none)))

-- ---- one step

pub fault_small : (before : List CellData) (bytes : List ℕ) (fault : CellFault) → (fault ≢ Memory → IsFrontFault before bytes fault) → place_of_fault fault ≤ length bytes
fault_small before bytes (Short p) is = front_within before bytes (Short p) (is (λ e. cc))
fault_small before bytes (BadKind p) is = front_within before bytes (BadKind p) (is (λ e. cc))
fault_small before bytes (OutOfOrder p) is = front_within before bytes (OutOfOrder p) (is (λ e. cc))
fault_small before bytes Memory is = omega arith

module _ {D : Type 0} (d : Ghosts D) (file : ℕ) where
  module _ (walk : Walk) (old new : D) (blocks : List (List CellData)) (bytes : List ℕ) (w : HasWalked d file walk old blocks) (same : d.seen new ≡ d.seen old)
      (window : IsTrue d.tells → bytes ≡ take 163855 (drop walk.index.end (d.seen old file))) where
    pub walk_last : (HasCount bytes → IsTrue false) → IsWalked d file (record { index = walk.index; before = walk.before; more = false }) new
    walk_last none = record {
      blocks = blocks;
      walked = record {
        right = w.right;
        index = w.index;
        before = w.before;
        full = λ on. absurd (let e : false ≡ true = on in cc);
        ends = λ ended tells goes.
            let counted : HasCount (drop walk.index.end (d.seen old file)) = subst (λ (s : Image). HasCount (drop walk.index.end (s file))) same goes.counted in
            let e : false ≡ true = none (subst HasCount (sym (window tells)) (count_taken 163855 (drop walk.index.end (d.seen old file)) (omega arith) counted)) in
            cc;
        seen = λ tells. subst (λ (s : Image). s file ≡ letters ++ (blocks_bytes blocks ++ drop walk.index.end (s file))) (sym same) (w.seen tells);
      };
    }

    pub walk_more : (after : Walk) (before cells : List CellData) (rest : List ℕ) → walk.more ≡ true → before ≡ walk.before → IsFront before bytes cells rest → IsIndex after.index (blocks ++ cells ∷ [])
        → after.before ≡ cells → (after.more ≡ true) ↔ IsBlockFull cells → IsWalked d file after new
    walk_more after before cells rest full ahead front index kept fuller = record {
      blocks = blocks ++ cells ∷ [];
      walked = record {
        right = blocks_more blocks cells w.right (w.full full) front.block
            (after_blocks blocks cells w.right.each (subst (λ (l : List CellData). ComesAfter l cells) (ahead ∙ w.before) front.after)) (index_few after.index (blocks ++ cells ∷ []) index);
        index = index;
        before = kept ∙ sym (last_push blocks cells);
        full = λ on. all_append IsBlockFull blocks (cells ∷ []) (w.full full) (fuller.0 on, tt);
        ends = λ ended tells goes. (let on = fuller.1 (all_last IsBlockFull blocks cells goes.full) in let e : true ≡ false = sym on ∙ ended in cc);
        seen = λ tells. subst (λ (s : Image). s file ≡ letters ++ (blocks_bytes (blocks ++ cells ∷ []) ++ drop after.index.end (s file))) (sym same) (seen tells);
      };
    }
      where
        seen : IsTrue d.tells → d.seen old file ≡ letters ++ (blocks_bytes (blocks ++ cells ∷ []) ++ drop after.index.end (d.seen old file))
        seen tells =
            let s = d.seen old file in
            let r = drop walk.index.end s in
            let more = rest ++ drop 163855 r in
            let here : r ≡ block_bytes cells ++ more =
            sym (take-append-drop 163855 r) ∙ ap (λ (l : List ℕ). l ++ drop 163855 r) (sym (window tells) ∙ front.spelled) ∙ append_assoc (block_bytes cells) rest (drop 163855 r) in
            let behind : drop after.index.end s ≡ more =
            ap (λ (n : ℕ). drop n s) (let a = index.end in let b = w.index.end in let c = end_push blocks cells in let e : after.index.end ≡ walk.index.end + length (block_bytes cells) = omega arith in e)
            ∙ sym (drop-drop (length (block_bytes cells)) walk.index.end s) ∙ ap (drop (length (block_bytes cells))) here ∙ drop_at (block_bytes cells) more (length (block_bytes cells)) refl in
            w.seen tells ∙ ap (λ (l : List ℕ). letters ++ (blocks_bytes blocks ++ l)) (here ∙ ap (λ (l : List ℕ). block_bytes cells ++ l) (sym behind))
            ∙ ap (λ (l : List ℕ). letters ++ l) (sym (append_assoc (blocks_bytes blocks) (block_bytes cells) (drop after.index.end s)) ∙ ap (λ (l : List ℕ). l ++ drop after.index.end s) (sym (bytes_push blocks cells)))

    pub walk_wrong : (before : List CellData) (fault : CellFault) (told : FileFault) (at place : ℕ) → walk.more ≡ true → length walk.index.entries.items < 4294967295 → before ≡ walk.before → HasCount bytes
        → (fault ≢ Memory → IsFrontFault before bytes fault) → (fault ≡ Memory → told ≡ NoMemory) → (fault ≢ Memory → told ≡ Damaged file (walk.index.end + place_of_fault fault)) → told ≡ Damaged at place
        → (at ≡ file) × (IsTrue d.tells → IsFirstWrongInFile (d.seen old file) place)
    walk_wrong before fault told at place full few ahead has wrong memory damaged is =
        let other : fault ≢ Memory = λ e. (let m = memory e in cc) in
        let t = damaged other in
        let p : walk.index.end + place_of_fault fault ≡ place = cc in (
          (let f : file ≡ at = cc in sym f),
          λ tells. in_block blocks (drop walk.index.end (d.seen old file)) fault (record { right = w.right; spelled = w.seen tells })
              (record {
                full = w.full full;
                fewer = (let l = length-index_of 8 blocks in let e = ap length w.index.entries in omega arith);
                counted = count_back 163855 (drop walk.index.end (d.seen old file)) (omega arith) (subst HasCount (window tells) has);
              })
              (subst (λ (l : List ℕ). IsFrontFault (last_block blocks) l fault) (window tells) (subst (λ (l : List CellData). IsFrontFault l bytes fault) (ahead ∙ w.before) (wrong other)))
              (let e = w.index.end in omega arith),
        )

  -- no block was read yet
  pub walk_none : (walk : Walk) (disk : D) → IsIndex walk.index [] → walk.before ≡ [] → walk.more ≡ true → (IsTrue d.tells → take 8 (d.seen disk file) ≡ letters) → IsWalked d file walk disk
  walk_none walk disk index before more begins = record {
    blocks = [];
    walked = record {
      right = blocks_none;
      index = index;
      before = before;
      full = λ on. tt;
      ends = λ ended. absurd (let e : true ≡ false = sym more ∙ ended in cc);
      seen = λ tells. sym (take-append-drop 8 (d.seen disk file)) ∙ ap (λ (l : List ℕ). l ++ drop 8 (d.seen disk file)) (begins tells) ∙ ap (λ (n : ℕ). letters ++ drop n (d.seen disk file)) (sym index.end);
    };
  }

  -- no further block is looked for
  pub walk_ended : (walk : Walk) (disk : D) → ((walk.more ≡ true) × (length walk.index.entries.items < 4294967295) → IsTrue false) → IsWalked d file walk disk → HasIndex d file walk.index disk
  walk_ended walk disk stop s = record {
    blocks = s.blocks;
    right = s.walked.right;
    is = s.walked.index;
    seen = s.walked.seen;
    last = λ tells goes. elim (cases_Bool walk.more) [
      | inl on ↦
          let e : false ≡ true = stop (on, (let l = length-index_of 8 s.blocks in let k = ap length s.walked.index.entries in let f = goes.fewer in omega arith)) in
          cc
      | inr ended ↦ s.walked.ends ended tells goes
    ];
  }

  -- index and footer stand behind the blocks,
  pub file_opened : (index : Index) (old new : D) (has : HasIndex d file index old) → d.seen new ≡ d.seen old → StaysBy d.calls d.left old new → Only d old file
      → (IsTrue d.tells → drop index.end (d.seen old file) ≡ tail_bytes index.entries.items index.end index.cells index.stamp) → HasBlocks d (record { file = file; index = index }) new has.blocks
  file_opened index old new has same stays only tail = record {
    right = has.right;
    index = has.is;
    seen = λ tells. ap (λ (s : Image). s file) same ∙ has.seen tells ∙ ap (λ (l : List ℕ). letters ++ (blocks_bytes has.blocks ++ l)) (tail tells ∙ tail_is index has.blocks has.is);
    only = only_stays d.calls d.left d.seen old new file stays same only;
  }

  -- or the first place is wrong where they don't
  pub tail_wrong : (index : Index) (disk : D) (place inner : ℕ) → HasIndex d file index disk → IsTrue d.tells → DiffersAt (tail_bytes index.entries.items index.end index.cells index.stamp) (drop index.end (d.seen disk file)) inner
      → place ≡ index.end + inner → IsFirstWrongInFile (d.seen disk file) place
  tail_wrong index disk place inner has tells differs is =
      in_tail has.blocks (drop index.end (d.seen disk file)) inner (record { right = has.right; spelled = has.seen tells }) (has.last tells)
      (subst (λ (l : List ℕ). DiffersAt l (drop index.end (d.seen disk file)) inner) (tail_is index has.blocks has.is) differs) (let e = has.is.end in omega arith)

  -- no call
  pub stays_none : ((x : D) (moment f : ℕ) (bytes : List ℕ) → d.left x moment f bytes → moment ≤ d.calls x) → (disk : D) → StaysBy d.calls d.left disk disk
  stays_none up_to_now disk = record {
    past = λ moment f bytes before is. is;
    now = λ moment f bytes since is. (let now : moment ≡ d.calls disk = (let le = up_to_now disk moment f bytes is in omega arith) in subst (λ (m : ℕ). d.left disk m f bytes) now is);
    later = omega arith;
  }

  pub rose_from : (first old new : D) → d.faults first ≤ d.faults old → RoseBy d.calls d.faults old new → RoseBy d.calls d.faults first new
  rose_from first old new le (inl rose) = inl (omega arith)
  rose_from first old new le (inr last) = inr last

-- ---- how many steps are left

abbrev bit : Bool → ℕ
bit true = 1
bit false = 0

-- one read may have found no further block
abbrev pub ended_bit : Bool → ℕ
ended_bit true = 0
ended_bit false = 1

ended_one : (more : Bool) → ended_bit more ≤ 1
ended_one true = omega arith
ended_one false = omega arith

pub grown_more : (first n m : ℕ) (more : Bool) → first ≤ n → ((more ≡ false) × (m ≡ n)) ⊎ (m ≡ n + 1) → first ≤ m
grown_more first n m more le (inl both) = (let e = both.1 in omega arith)
grown_more first n m more le (inr one) = omega arith

module _ {D : Type 0} (d : Ghosts D) (first old new : D) (n m k : ℕ) (was more : Bool) where
  -- a step more
  pub counts_more : n ≤ m → was ≡ true → ((more ≡ false) × (k ≡ m)) ⊎ (k ≡ m + 1) → Passes d first old ((m - n) + ended_bit was) → Passes d old new 1 → Passes d first new ((k - n) + ended_bit more)
  counts_more le on grown before one = record {
    later = omega (arith, before.later, one.later);
    at_most = within grown;
    faults_later = omega (arith, before.faults_later, one.faults_later);
    begun = one.begun ∙ before.begun;
  }
    where
      so_far : d.calls new ≤ d.calls first + ((m - n) + 1)
      so_far = (let e : ended_bit was ≡ 0 = ap ended_bit on in omega (arith, before.at_most, one.at_most))

      within : ((more ≡ false) × (k ≡ m)) ⊎ (k ≡ m + 1) → d.calls new ≤ d.calls first + ((k - n) + ended_bit more)
      within (inl both) = (let e : ended_bit more ≡ 1 = ap ended_bit both.0 in let s = both.1 in omega (arith, so_far))
      within (inr next) = omega (arith, so_far)

-- all steps
pub counts_all : {D : Type 0} (d : Ghosts D) (first old : D) (n : ℕ) (more : Bool) → Passes d first old (n + ended_bit more) → Passes d first old (1 + n)
counts_all d first old n more p = record {
  later = p.later;
  at_most = (let e = ended_one more in omega (arith, p.at_most));
  faults_later = p.faults_later;
  begun = p.begun;
}

-- no call
pub counts_none : {D : Type 0} (d : Ghosts D) (disk : D) (n : ℕ) → Passes d disk disk n
counts_none d disk n = record { later = omega arith; at_most = omega arith; faults_later = omega arith; begun = refl }

abbrev pub steps_left : ℕ → Bool → ℕ
steps_left n more = 2 * (4294967295 - n) + bit more

pub steps_fewer : (n m : ℕ) (was more : Bool) → was ≡ true → n < 4294967295 → ((more ≡ false) × (m ≡ n)) ⊎ (m ≡ n + 1) → steps_left m more < steps_left n was
steps_fewer n m true true on lt (inl both) = absurd (let e : true ≡ false = both.0 in cc)
steps_fewer n m true false on lt (inl both) = (let e = ap (λ (k : ℕ). 2 * (4294967295 - k)) both.1 in omega arith)
steps_fewer n m true true on lt (inr one) = omega arith
steps_fewer n m true false on lt (inr one) = omega arith
steps_fewer n m false more on lt s = absurd (let e : false ≡ true = on in cc)
