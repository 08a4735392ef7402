-- Files are gathered, block by block.
use Rattle.std.proofs.Common.{◌≡◌, ℕ, zero, suc, ◌+◌, ◌-◌, ◌<◌, ◌≤◌, List, [], ◌∷◌, ◌++◌, length, map, take, drop, get_or, refl, sym, ap, subst, ◌∙◌, arith}
use Rattle.std.proofs.lemmas.List.{take_all}
use Rattle.std.proofs.Props.{props}
use Rattle.std.specs.List.{AllByRecursion-prop}
use Rattle.std.specs.Prelude.{IsTrue}
use Rattle.px_outside.specs.OnDisk.{Stays}
use Rattle.px_outside.specs.declared.disk.Disk.{Ghosts}
use Rattle.px_cells.specs.CellData.{CellData}
use Rattle.px_cells.specs.Order.{Below, IsAscending}
use Rattle.px_file.specs.Files.{HasBlocks}
use Rattle.px_file.specs.Format.{cells_in}
use Rattle.px_file.specs.declared.region_file.RegionFile.{RegionFile}
use Rattle.px_file.proofs.Blocks.{length-index_of}
use Rattle.px_file.proofs.Kept.{kept_quiet}
use Rattle.px_merge.specs.Merged.{joined}
use Rattle.px_merge.specs.Settle.{settle}
use Rattle.px_merge.proofs.Settling.{settle_back, settle_sorted}
use Rattle.px_loading.specs.Gathering.{HasGathered, HaveBlocks, IsFresh}
use Rattle.px_loading.specs.declared.gathering.Gathering.{Gathering}
use Rattle.px_loading.proofs.Loaded.{cells_more}

-- a list is sorted in one way
pub ascending_prop : (cells : List CellData) → IsProp (IsAscending cells)
ascending_prop [] = λ a b. refl
ascending_prop (c ∷ cells) = λ a b i. (AllByRecursion-prop (Below c) (λ x. hlevel props) cells a.0 b.0 i, ascending_prop cells a.1 b.1 i)

drop_past : {A : Type 0} (n : ℕ) (xs : List A) → length xs ≤ n → drop n xs ≡ []
drop_past zero [] le = refl
drop_past zero (x ∷ xs) le = absurd (omega arith)
drop_past (suc n) [] le = refl
drop_past (suc n) (x ∷ xs) le = drop_past n xs (omega arith)

-- the list from the place before another
drop_before : {A : Type 0} (n : ℕ) (xs : List A) (d : A) → n < length xs → drop n xs ≡ get_or xs n d ∷ drop (n + 1) xs
drop_before n [] d lt = absurd (omega arith)
drop_before zero (x ∷ xs) d lt = refl
drop_before (suc n) (x ∷ xs) d lt = (let e : suc n + 1 ≡ suc (n + 1) = omega arith in drop_before n xs d (omega arith) ∙ ap (λ (k : ℕ). get_or xs n d ∷ drop k (x ∷ xs)) (sym e))

module _ {D : Type 0} (d : Ghosts D) where
  pub have_long : (disk : D) (files : List RegionFile) (blocks : List (List (List CellData))) → HaveBlocks d disk files blocks → length blocks ≡ length files
  have_long disk [] [] have = refl
  have_long disk [] (b ∷ blocks) have = absurd have
  have_long disk (o ∷ files) [] have = absurd have
  have_long disk (o ∷ files) (b ∷ blocks) have = (let e = have_long disk files blocks have.1 in omega arith)

  have_at : (disk : D) (files : List RegionFile) (blocks : List (List (List CellData))) (i : ℕ) (o : RegionFile) → i < length files → o ≡ get_or files i o → HaveBlocks d disk files blocks → HasBlocks d o disk (get_or blocks i [])
  have_at disk [] blocks i o lt is have = absurd (omega arith)
  have_at disk (x ∷ files) [] i o lt is have = absurd have
  have_at disk (x ∷ files) (b ∷ blocks) zero o lt is have = subst (λ (y : RegionFile). HasBlocks d y disk b) (sym is) have.0
  have_at disk (x ∷ files) (b ∷ blocks) (suc i) o lt is have = have_at disk files blocks i o (omega arith) is have.1

  pub have_quiet : (old new : D) (files : List RegionFile) (blocks : List (List (List CellData))) → Stays d old new → d.seen new ≡ d.seen old → HaveBlocks d old files blocks → HaveBlocks d new files blocks
  have_quiet old new [] [] stays same have = tt
  have_quiet old new [] (b ∷ blocks) stays same have = absurd have
  have_quiet old new (o ∷ files) [] stays same have = absurd have
  have_quiet old new (o ∷ files) (b ∷ blocks) stays same have = (kept_quiet d old new o b stays same have.0, have_quiet old new files blocks stays same have.1)

  pub gathered_none : (count : ℕ) (g : Gathering) (disk : D) (files : List RegionFile) (blocks : List (List (List CellData))) → IsTrue d.tells → IsFresh count g → length files ≤ count → HaveBlocks d disk files blocks → HasGathered d g disk files blocks
  gathered_none count g disk files blocks tells fresh le have = record {
    tells = tells;
    have = have;
    store = fresh.store ∙ sym (settle_sorted [] tt) ∙ ap (λ (l : List (List (List CellData))). settle (joined (map cells_in l))) (sym (drop_past g.left blocks (let e = have_long disk files blocks have in let f = fresh.left in omega arith)));
    cells = fresh.cells ∙ ap (λ (n : ℕ). cells_in (take n (get_or blocks (g.left - 1) []))) (sym fresh.block);
  }

  -- the file whose blocks are read
  module _ (g : Gathering) (disk : D) (files : List RegionFile) (blocks : List (List (List CellData))) (o : RegionFile) (some : 0 < g.left) (within : g.left ≤ length files) (is : o ≡ get_or files (g.left - 1) o) (has : HasGathered d g disk files blocks) where
    pub its_blocks : HasBlocks d o disk (get_or blocks (g.left - 1) [])
    its_blocks = have_at disk files blocks (g.left - 1) o (omega arith) is has.have

    pub block_in : (n : ℕ) → n < length o.index.entries.items → n < length (get_or blocks (g.left - 1) [])
    block_in n lt = (let l = length-index_of 8 (get_or blocks (g.left - 1) []) in let e = ap length its_blocks.index.entries in omega arith)

    pub block_out : (n : ℕ) → length o.index.entries.items ≤ n → length (get_or blocks (g.left - 1) []) ≤ n
    block_out n le = (let l = length-index_of 8 (get_or blocks (g.left - 1) []) in let e = ap length its_blocks.index.entries in omega arith)

    -- a block more was read
    pub gathered_more : (new : Gathering) (disk' : D) (cells : List CellData) → Stays d disk disk' → d.seen disk' ≡ d.seen disk → cells ≡ g.cells.items ++ get_or (get_or blocks (g.left - 1) []) g.block [] → g.block < length o.index.entries.items → g.store ≡ new.store → g.left ≡ new.left
        → g.block + 1 ≡ new.block → cells ≡ new.cells.items → HasGathered d new disk' files blocks
    gathered_more new disk' cells stays same more lt store left block cells-are =
        let all : cells ≡ cells_in (take (g.block + 1) (get_or blocks (g.left - 1) [])) = cells_more (get_or blocks (g.left - 1) []) g.block g.cells.items cells (block_in g.block lt) has.cells more in
        record {
          tells = has.tells;
          have = have_quiet disk disk' files blocks stays same has.have;
          store = sym (ap (λ s. s.cells) store) ∙ has.store ∙ ap (λ (n : ℕ). settle (joined (map cells_in (drop n blocks)))) left;
          cells = sym cells-are ∙ all ∙ ap (λ (n : ℕ). cells_in (take n (get_or blocks (g.left - 1) []))) block ∙ ap (λ (n : ℕ). cells_in (take new.block (get_or blocks (n - 1) []))) left;
        }

    -- its cells were put over the older ones
    pub gathered_whole : (new : Gathering) → length o.index.entries.items ≤ g.block → new.store.cells ≡ settle (g.cells.items ++ g.store.cells) → new.cells.items ≡ [] → new.block ≡ 0 → new.left + 1 ≡ g.left → HasGathered d new disk files blocks
    gathered_whole new le put none zero-is left =
        let block = get_or blocks (g.left - 1) [] in
        let place : g.left - 1 ≡ new.left = omega arith in
        let whole : g.cells.items ≡ cells_in (get_or blocks new.left []) = has.cells ∙ ap cells_in (take_all g.block block (block_out g.block le)) ∙ ap (λ (n : ℕ). cells_in (get_or blocks n [])) place in
        let older : g.store.cells ≡ settle (joined (map cells_in (drop (new.left + 1) blocks))) = has.store ∙ ap (λ (n : ℕ). settle (joined (map cells_in (drop n blocks)))) (sym left) in
        let rest = joined (map cells_in (drop (new.left + 1) blocks)) in
        let cut : drop new.left blocks ≡ get_or blocks new.left [] ∷ drop (new.left + 1) blocks = drop_before new.left blocks [] (let e = have_long disk files blocks has.have in omega arith) in
        record {
          tells = has.tells;
          have = has.have;
          store =
              put ∙ ap (λ (l : List CellData). settle (l ++ g.store.cells)) whole ∙ ap (λ (l : List CellData). settle (cells_in (get_or blocks new.left []) ++ l)) older ∙ settle_back (cells_in (get_or blocks new.left [])) rest
              ∙ ap (λ (l : List (List (List CellData))). settle (joined (map cells_in l))) (sym cut);
          cells = none ∙ ap (λ (n : ℕ). cells_in (take n (get_or blocks (new.left - 1) []))) (sym zero-is);
        }
