-- Where the cells of a range of keys stand in a file.
use Rattle.std.proofs.Common.{◌≡◌, ◌≢◌, ℕ, zero, suc, ◌+◌, ◌-◌, ◌<◌, ◌≤◌, true, false, List, [], ◌∷◌, ◌++◌, length, take, drop, get_or, refl, sym, ap, subst, ◌∙◌, arith, inl, inr, length-append}
use Rattle.std.specs.declared.cmp.Ordering.{Ordering}
use Rattle.std.specs.declared.cmp.Ordering.TheVariants.{Less, Equal, Greater}
use Rattle.std.specs.Ordering.{is_lt}
use Rattle.std.specs.List.{AllByRecursion, AllWithin}
use Rattle.std.specs.List.Sorted.{IsPartitionedBy}
use Rattle.std.proofs.lemmas.List.{get_or-take, get_or-drop, length-take-le, length-drop}
use Rattle.std.proofs.lemmas.List.Elements.{recursion_from_All}
use Rattle.px_cells.specs.CellData.{CellData}
use Rattle.px_cells.specs.Among.{Has}
use Rattle.px_cells.specs.Order.{key_cmp, Below, IsAscending}
use Rattle.px_cells.specs.Rows.{AllBelow, AllFrom}
use Rattle.px_cells.specs.Scan.{no_cell}
use Rattle.px_cells.proofs.Among.{all_has, has_all, has_append, has_right, ascending_right}
use Rattle.px_cells.proofs.RowLemmas.{parted_lt}
use Rattle.px_block.specs.Block.{IsBlock, block_bytes}
use Rattle.px_file.specs.Format.{AreBlocks, EntryData, block_index, cells_in, first_key}
use Rattle.px_file.specs.Ranges.{AreBelow, BeginsBelow, IsFirstBlock}
use Rattle.px_file.proofs.Blocks.{length-index_of}

-- ---- first cells

abbrev first_cell : List CellData → CellData
first_cell [] = no_cell
first_cell (c ∷ cells) = c

abbrev first_cells : List (List CellData) → List CellData
first_cells [] = []
first_cells (b ∷ blocks) = first_cell b ∷ first_cells blocks

first_key_is : (b : List CellData) → first_key b ≡ (first_cell b).key
first_key_is [] = refl
first_key_is (c ∷ cells) = refl

length-first_cells : (blocks : List (List CellData)) → length (first_cells blocks) ≡ length blocks
length-first_cells [] = refl
length-first_cells (b ∷ blocks) = (let r = length-first_cells blocks in omega arith)

not_empty : IsBlock [] → ⊥
not_empty is = (let e = ap (λ (l : List CellData). length l) is.closed.ends in let a = length-append is.closed.front (is.closed.last ∷ []) in omega arith)

has_first : (blocks : List (List CellData)) → AllByRecursion IsBlock blocks → (m : CellData) → Has (first_cells blocks) m → Has (cells_in blocks) m
has_first [] each m h = h
has_first ([] ∷ blocks) each m h = absurd (not_empty each.0)
has_first ((c ∷ cells) ∷ blocks) each m (inl e) = inl e
has_first ((c ∷ cells) ∷ blocks) each m (inr h) = inr (has_right cells (cells_in blocks) m (has_first blocks each.1 m h))

first_ascend : (blocks : List (List CellData)) → AllByRecursion IsBlock blocks → IsAscending (cells_in blocks) → IsAscending (first_cells blocks)
first_ascend [] each up = tt
first_ascend ([] ∷ blocks) each up = absurd (not_empty each.0)
first_ascend ((c ∷ cells) ∷ blocks) each up = (
  has_all (Below c) (first_cells blocks) (λ m h. all_has (Below c) (cells ++ cells_in blocks) m up.0 (has_right cells (cells_in blocks) m (has_first blocks each.1 m h))),
  first_ascend blocks each.1 (ascending_right cells (cells_in blocks) up.1),
)

-- ---- first keys

key_at : (place : ℕ) (blocks : List (List CellData)) (i : ℕ) (e : EntryData) (b : List CellData) → i < length blocks → (get_or (block_index place blocks) i e).key ≡ first_key (get_or blocks i b)
key_at place [] i e b lt = absurd (omega arith)
key_at place (x ∷ blocks) zero e b lt = refl
key_at place (x ∷ blocks) (suc i) e b lt = key_at (place + length (block_bytes x)) blocks i e b (omega arith)

cell_at : (blocks : List (List CellData)) (i : ℕ) (b : List CellData) (c : CellData) → i < length blocks → first_key (get_or blocks i b) ≡ (get_or (first_cells blocks) i c).key
cell_at [] i b c lt = absurd (omega arith)
cell_at (x ∷ blocks) zero b c lt = first_key_is x
cell_at (x ∷ blocks) (suc i) b c lt = cell_at blocks i b c (omega arith)

pub parted : (blocks : List (List CellData)) (key : List ℕ) → AreBlocks blocks → IsPartitionedBy (λ e. is_lt (key_cmp e.key key)) (block_index 8 blocks)
parted blocks key are i j d l h p =
    let long = length-index_of 8 blocks in
    let same = length-first_cells blocks in
    let there : j < length blocks = omega arith in
    let here : i < length blocks = omega arith in
    let within : j < length (first_cells blocks) = omega arith in
    let at_j = key_at 8 blocks j d [] there ∙ cell_at blocks j [] no_cell there in
    let at_i = key_at 8 blocks i d [] here ∙ cell_at blocks i [] no_cell here in
    let below = parted_lt (first_cells blocks) key (first_ascend blocks are.each are.written.listed.ascending) i j no_cell l within (subst (λ (k : List ℕ). is_lt (key_cmp k key) ≡ true) at_j p) in
    subst (λ (k : List ℕ). is_lt (key_cmp k key) ≡ true) (sym at_i) below

-- ---- how many begin below a key

lt_less : (o : Ordering) → is_lt o ≡ true → o ≡ Less
lt_less Less h = refl
lt_less Equal h = cc
lt_less Greater h = cc

lt_not : (o : Ordering) → is_lt o ≡ false → o ≡ Less → ⊥
lt_not o h e = (let z = ap is_lt e in let y : true ≡ false = sym z ∙ h in cc)

pub are_below : (blocks : List (List CellData)) (key : List ℕ) (n : ℕ) → n ≤ length blocks
    → AllWithin (λ e. is_lt (key_cmp e.key key) ≡ true) (block_index 8 blocks) 0 n → AllWithin (λ e. is_lt (key_cmp e.key key) ≡ false) (block_index 8 blocks) n (length (block_index 8 blocks))
    → AreBelow blocks key n
are_below blocks key n le under over = record {
  below = recursion_from_All (BeginsBelow key) (take n blocks) (λ k b h.
      let lt : k < n = omega (arith, length-take-le n blocks le) in
      let in_blocks : k < length blocks = omega arith in
      let is = lt_less _ (under k no_entry (omega arith) lt) in
      subst (BeginsBelow key) (sym (get_or-take n blocks k b lt)) (subst (λ (x : List ℕ). key_cmp x key ≡ Less) (key_at 8 blocks k no_entry b in_blocks) is));
  from = recursion_from_All (λ b. BeginsBelow key b → ⊥) (drop n blocks) (λ k b h.
      let long = length-index_of 8 blocks in
      let in_blocks : n + k < length blocks = omega (arith, length-drop n blocks) in
      let is = lt_not _ (over (n + k) no_entry (omega arith) (omega arith)) in
      subst (λ (x : List CellData). BeginsBelow key x → ⊥) (sym (get_or-drop n blocks k b)) (subst (λ (x : List ℕ). key_cmp x key ≡ Less → ⊥) (key_at 8 blocks (n + k) no_entry b in_blocks) is));
}
  where
    no_entry : EntryData
    no_entry = record { place = 0; len = 0; key = [] }

-- ---- cells

less_down : (a b : CellData) (key : List ℕ) → Below a b → key_cmp b.key key ≡ Less → key_cmp a.key key ≡ Less
less_down a b key up less = lt_less _ (parted_lt (a ∷ b ∷ []) key ((up, tt), (tt, tt)) 0 1 no_cell (omega arith) (omega arith) (ap is_lt less))

all_below_next : (xs ys : List CellData) (m n : CellData) → IsAscending (xs ++ ys) → Has xs m → Has ys n → Below m n
all_below_next [] ys m n up h k = absurd h
all_below_next (x ∷ xs) ys m n up (inl e) k = subst (λ (c : CellData). Below c n) e (all_has (Below x) (xs ++ ys) n up.0 (has_right xs ys n k))
all_below_next (x ∷ xs) ys m n up (inr h) k = all_below_next xs ys m n up.1 h k

first_in : (blocks : List (List CellData)) (i : ℕ) → AllByRecursion IsBlock blocks → i < length blocks → Has (cells_in blocks) (first_cell (get_or blocks i []))
first_in [] i each lt = absurd (omega arith)
first_in ([] ∷ blocks) i each lt = absurd (not_empty each.0)
first_in ((c ∷ cells) ∷ blocks) zero each lt = inl refl
first_in ((c ∷ cells) ∷ blocks) (suc i) each lt = inr (has_right cells (cells_in blocks) (first_cell (get_or blocks i [])) (first_in blocks i each.1 (omega arith)))

-- all cells before a block that begins below a key are below it
pub before_below : (blocks : List (List CellData)) (key : List ℕ) (i : ℕ) → AllByRecursion IsBlock blocks → IsAscending (cells_in blocks) → i < length blocks → BeginsBelow key (get_or blocks i [])
    → AllBelow key (cells_in (take i blocks))
before_below [] key i each up lt begins = absurd (omega arith)
before_below (b ∷ blocks) key zero each up lt begins = tt
before_below (b ∷ blocks) key (suc i) each up lt begins = has_all (λ c. key_cmp c.key key ≡ Less) (b ++ cells_in (take i blocks)) (λ m h. elim (has_append b (cells_in (take i blocks)) m h) [
  | inl own ↦ less_down m (first_cell (get_or blocks i [])) key (all_below_next b (cells_in blocks) m (first_cell (get_or blocks i [])) up own (first_in blocks i each.1 (omega arith)))
      (subst (λ (k : List ℕ). key_cmp k key ≡ Less) (first_key_is (get_or blocks i [])) begins)
  | inr other ↦ all_has (λ c. key_cmp c.key key ≡ Less) (cells_in (take i blocks)) m (before_below blocks key i each.1 (ascending_right b (cells_in blocks) up) (omega arith) begins) other
])

-- no cell of blocks that don't begin below a key is below it
pub none_below : (blocks : List (List CellData)) (key : List ℕ) → AllByRecursion IsBlock blocks → AllByRecursion (λ b. BeginsBelow key b → ⊥) blocks → AllFrom key (cells_in blocks)
none_below [] key each from = tt
none_below ([] ∷ blocks) key each from = absurd (not_empty each.0)
none_below ((c ∷ cells) ∷ blocks) key each from = (
  from.0,
  has_all (λ x. key_cmp x.key key ≢ Less) (cells ++ cells_in blocks) (λ m h. elim (has_append cells (cells_in blocks) m h) [
    | inl own ↦ λ less. from.0 (less_down c m key (all_has (Below c) cells m each.0.written.listed.ascending.0 own) less)
    | inr other ↦ all_has (λ x. key_cmp x.key key ≢ Less) (cells_in blocks) m (none_below blocks key each.1 from.1) other
  ]),
)

-- ---- the first block

pub all_behind : (P : List CellData → Type 0) (blocks : List (List CellData)) (n : ℕ) → AllByRecursion P blocks → AllByRecursion P (drop n blocks)
all_behind P [] zero all = tt
all_behind P [] (suc n) all = tt
all_behind P (b ∷ blocks) zero all = all
all_behind P (b ∷ blocks) (suc n) all = all_behind P blocks n all.1

all_at : (P : List CellData → Type 0) (blocks : List (List CellData)) (n i : ℕ) → AllByRecursion P (take n blocks) → i < n → i < length blocks → P (get_or blocks i [])
all_at P [] n i all lt within = absurd (omega arith)
all_at P (b ∷ blocks) zero i all lt within = absurd (omega arith)
all_at P (b ∷ blocks) (suc n) zero all lt within = all.0
all_at P (b ∷ blocks) (suc n) (suc i) all lt within = all_at P blocks n i all.1 (omega arith) (omega arith)

pub first_is : (blocks : List (List CellData)) (key : List ℕ) (n : ℕ) → AreBlocks blocks → n ≤ length blocks → AreBelow blocks key n → IsFirstBlock blocks key (n - 1)
first_is blocks key zero are le is = record {
  before = tt;
  behind = none_below (drop 1 blocks) key (all_behind IsBlock blocks 1 are.each) (all_behind (λ b. BeginsBelow key b → ⊥) blocks 1 is.from);
  begins = λ some. absurd (omega arith);
}
first_is blocks key (suc n) are le is =
    let begins : BeginsBelow key (get_or blocks n []) = all_at (BeginsBelow key) blocks (suc n) n is.below (omega arith) (omega arith) in
    let less : n ≡ suc n - 1 = omega arith in
    let more : suc n ≡ n + 1 = omega arith in
    subst (IsFirstBlock blocks key) less (record {
      before = before_below blocks key n are.each are.written.listed.ascending (omega arith) begins;
      behind = subst (λ (k : ℕ). AllFrom key (cells_in (drop k blocks))) more (none_below (drop (suc n) blocks) key (all_behind IsBlock blocks (suc n) are.each) is.from);
      begins = λ some. begins;
    })
