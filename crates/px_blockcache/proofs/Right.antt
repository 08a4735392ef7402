-- Blocks that are what the disk tells.
use Rattle.std.proofs.Common.{◌≡◌, ◌<◌, ◌-◌, ◌⊎◌, ℕ, List, [], ◌∷◌, ◌++◌, length, get_or, set, refl, sym, ap, subst, ◌∙◌, inl, inr, arith}
use Rattle.std.specs.Prelude.{All, Contains, IsTrue}
use Rattle.std.specs.List.{AllByRecursion-prop, swap_remove}
use Rattle.std.proofs.Props.{props}
use Rattle.std.proofs.lemmas.List.Elements.{All-contains, All-contains_itself, All-get_or, All-nil, All-push, All-set, All-take, All-weaker}
use Rattle.px_outside.specs.declared.disk.Disk.{Ghosts}
use Rattle.px_cells.specs.CellData.{CellData}
use Rattle.px_cells.specs.Order.{Below, GoesWith, IsAscending, IsCellList}
use Rattle.px_file.specs.Files.{HasBlocks}
use Rattle.px_file.specs.declared.region_file.RegionFile.{RegionFile}
use Rattle.px_told.proofs.Once.{same_blocks}
use Rattle.px_blockcache.specs.Cached.{AreRightBlocks, BlockData, IsBlockOf, IsRightBlock}

-- what stays of blocks where one of them goes
pub all_left : (P : BlockData → Type 0) (cached : List BlockData) (place : ℕ) (gone : BlockData) → place < length cached → All P cached → All P (swap_remove cached place gone)
all_left P cached place gone within each =
    All-take P (length cached - 1) (set cached place (get_or cached (length cached - 1) gone))
    (All-set P cached place (get_or cached (length cached - 1) gone) (All-get_or P cached (length cached - 1) gone (omega arith) each) each)

module _ {D : Type 0} (d : Ghosts D) where
  pub none_right : (disk : D) → AreRightBlocks d disk []
  none_right disk tells = All-nil (IsRightBlock d disk)

  pub read_right : (disk : D) (file : RegionFile) (blocks : List (List CellData)) (number : ℕ) → HasBlocks d file disk blocks → IsTrue d.tells → IsRightBlock d disk (record { file = file.file; number = number; cells = get_or blocks number [] })
  read_right disk file blocks number has tells = λ others are seen. (
      let same : blocks ≡ others = same_blocks blocks others has.right are (sym (has.seen tells) ∙ seen) in
      ap (λ (l : List (List CellData)). get_or l number []) same)

  pub kept_right : (disk : D) (block : BlockData) (old new : List BlockData) → (IsTrue d.tells → IsRightBlock d disk block) → All (λ (b : BlockData). Contains old b ⊎ (b ≡ block)) new → AreRightBlocks d disk old → AreRightBlocks d disk new
  kept_right disk block old new right of are = λ tells. All-weaker (λ (b : BlockData). Contains old b ⊎ (b ≡ block)) (IsRightBlock d disk) (λ b which. by tells b which) new of
    where
      by : IsTrue d.tells → (b : BlockData) → (Contains old b) ⊎ (b ≡ block) → IsRightBlock d disk b
      by tells b (inl there) = All-contains (IsRightBlock d disk) old b (are tells) there
      by tells b (inr is) = subst (IsRightBlock d disk) (sym is) (right tells)

  pub right_stay : (old new : D) (cached : List BlockData) → All (λ (b : BlockData). d.seen new b.file ≡ d.seen old b.file) cached → AreRightBlocks d old cached → AreRightBlocks d new cached
  right_stay old new cached same are = λ tells. λ k x within. λ blocks right seen. are tells k x within blocks right (sym (same k x within) ∙ seen)

  -- one of right blocks is that of a file
  pub cell_is : (disk : D) (cached : List BlockData) (place : ℕ) (b : BlockData) (file : RegionFile) (blocks : List (List CellData)) (number : ℕ) → place < length cached → b ≡ get_or cached place b → IsBlockOf b file.file number
      → HasBlocks d file disk blocks → IsTrue d.tells → AreRightBlocks d disk cached → b.cells ≡ get_or blocks number []
  cell_is disk cached place b file blocks number within at of has tells are =
      let right : IsRightBlock d disk b = subst (IsRightBlock d disk) (sym at) (are tells place b within) in
      right blocks has.right (ap (d.seen disk) of.file_is ∙ has.seen tells) ∙ ap (λ (n : ℕ). get_or blocks n []) of.number_is

-- of each that is left there was one
pub left_there : (cached : List BlockData) (place : ℕ) (gone : BlockData) → place < length cached → All (Contains cached) (swap_remove cached place gone)
left_there cached place gone within = all_left (Contains cached) cached place gone within (All-contains_itself cached)

-- what `keep` leaves
pub pushed : (old : List BlockData) (block : BlockData) → All (λ (b : BlockData). Contains old b ⊎ (b ≡ block)) (old ++ block ∷ [])
pushed old block = All-push (λ (b : BlockData). Contains old b ⊎ (b ≡ block)) old block (All-weaker (Contains old) (λ (b : BlockData). Contains old b ⊎ (b ≡ block)) (λ b there. inl there) old (All-contains_itself old)) (inr refl)

pub replaced : (old : List BlockData) (place : ℕ) (block : BlockData) → All (λ (b : BlockData). Contains old b ⊎ (b ≡ block)) (set old place block)
replaced old place block = All-set (λ (b : BlockData). Contains old b ⊎ (b ≡ block)) old place block (inr refl) (All-weaker (Contains old) (λ (b : BlockData). Contains old b ⊎ (b ≡ block)) (λ b there. inl there) old (All-contains_itself old))

-- a list is one of cells in one way
ascending_prop : (cells : List CellData) → IsProp (IsAscending cells)
ascending_prop [] = λ a b. refl
ascending_prop (c ∷ cells) = λ a b i. (AllByRecursion-prop (Below c) (λ x. hlevel props) cells a.0 b.0 i, ascending_prop cells a.1 b.1 i)

pub list_prop : (cells : List CellData) → IsProp (IsCellList cells)
list_prop cells = λ a b i. record {
  ascending = ascending_prop cells a.ascending b.ascending i;
  placed = AllByRecursion-prop GoesWith (λ c. hlevel props) cells a.placed b.placed i;
}
