-- Bytes begin with one block at most, or have one first fault.
use Rattle.std.proofs.Common.{◌≡◌, ℕ, ◌+◌, ◌^◌, ◌<◌, ◌≤◌, List, [], ◌∷◌, ◌++◌, length, drop, Result, Ok, Err, refl, sym, ap, subst, ◌∙◌, arith, append_assoc, length-append}
use Rattle.std.proofs.lemmas.List.{append-nil, length-drop}
use Rattle.px_cells.specs.CellData.{CellData}
use Rattle.px_cells.specs.Order.{Below}
use Rattle.px_cellbytes.specs.declared.fault.CellFault.{CellFault}
use Rattle.px_cellbytes.specs.declared.fault.CellFault.TheVariants.{Short, BadKind, OutOfOrder, Memory}
use Rattle.px_cellbytes.specs.Spelling.{all_bytes, cell_bytes}
use Rattle.px_cellbytes.specs.Reading.{IsFault, IsWritten, moved, place_of_fault}
use Rattle.px_cellbytes.specs.Reading.IsFault.{short, bad_kind, out_of_order}
use Rattle.px_cellbytes.proofs.Bytes.{length-cell_bytes}
use Rattle.px_cellbytes.proofs.Unique.{cell_same}
use Rattle.px_cellbytes.proofs.OneReading.{AllFit, Compared, compared, least_one, no_fault}
use Rattle.px_cellbytes.proofs.OneReading.Compared.{longer, shorter}
use Rattle.px_block.specs.Block.{IsClosedBlock, block_bytes, count_bytes}
use Rattle.px_block.specs.Reading.{AreBlock, ComesAfter, HasCount, IsBlockFault, IsBodyFault, IsFront, IsFrontFault, IsNextBlockFault, IsReading, behind, count_in}
use Rattle.px_block.specs.Reading.IsNextBlockFault.{of_cell, of_count}
use Rattle.px_block.specs.Reading.IsFrontFault.{of_head, of_body}
use Rattle.px_block.specs.Reading.IsBlockFault.{of_front, of_rest}
use Rattle.px_block.proofs.Counts.{count_in_front, drop_count, length-count_bytes}

fit : (cells : List CellData) → IsWritten cells → AllFit cells
fit cells w = record { short = w.short; ranged = w.ranged }

-- ---- sizes

pub no_longer : (cells : List CellData) → length cells ≤ length (all_bytes cells)
no_longer [] = omega arith
no_longer (c ∷ cells) = (let a = length-append (cell_bytes c) (all_bytes cells) in let l = length-cell_bytes c in let r = no_longer cells in omega arith)

-- some cells and one more aren't a part of what stands before the last
within_front : (cells front : List CellData) (z last : CellData) (zs : List CellData) → cells ++ z ∷ zs ≡ front ++ last ∷ [] → length (all_bytes cells) ≤ length (all_bytes front)
within_front [] front z last zs e = omega arith
within_front (c ∷ cells) [] z last zs e = absurd (let l = ap (λ (l : List CellData). length l) e in let m = length-append cells (z ∷ zs) in omega arith)
within_front (c ∷ cells) (f ∷ front) z last zs e =
    let same : c ≡ f = cc in
    let rest : cells ++ z ∷ zs ≡ front ++ last ∷ [] = cc in
    let r = within_front cells front z last zs rest in
    let a = length-append (cell_bytes c) (all_bytes cells) in
    let b = length-append (cell_bytes f) (all_bytes front) in
    let s = ap (λ (x : CellData). length (cell_bytes x)) same in
    omega arith

part_open : (cells : List CellData) (z : CellData) (zs : List CellData) → IsClosedBlock (cells ++ z ∷ zs) → length (all_bytes cells) < 32768
part_open cells z zs closed = (let w = within_front cells closed.front z closed.last zs closed.ends in let b = closed.before in omega arith)

-- the count of a block fits, and isn't zero
pub block_count : (cells : List CellData) → IsClosedBlock cells → length cells < 2 ^ 32
block_count cells closed = (let n = no_longer closed.front in let b = closed.before in let e = ap (λ (l : List CellData). length l) closed.ends in let a = length-append closed.front (closed.last ∷ []) in omega arith)

pub block_some : (cells : List CellData) → IsClosedBlock cells → length cells ≡ 0 → ⊥
block_some cells closed none = (let e = ap (λ (l : List CellData). length l) closed.ends in let a = length-append closed.front (closed.last ∷ []) in omega arith)

-- ---- what begins the bytes

front_count : (before : List CellData) (bytes : List ℕ) (cells : List CellData) (rest : List ℕ) → IsFront before bytes cells rest → count_in bytes ≡ length cells
front_count before bytes cells rest f = ap count_in (f.spelled ∙ append_assoc (count_bytes (length cells)) (all_bytes cells) rest) ∙ count_in_front (length cells) (all_bytes cells ++ rest) (block_count cells f.block.closed)

front_drop : (before : List CellData) (bytes : List ℕ) (cells : List CellData) (rest : List ℕ) → IsFront before bytes cells rest → drop 4 bytes ≡ all_bytes cells ++ rest
front_drop before bytes cells rest f = ap (λ (l : List ℕ). drop 4 l) (f.spelled ∙ append_assoc (count_bytes (length cells)) (all_bytes cells) rest) ∙ drop_count (length cells) (all_bytes cells ++ rest)

front_has : (before : List CellData) (bytes : List ℕ) (cells : List CellData) (rest : List ℕ) → IsFront before bytes cells rest → HasCount bytes
front_has before bytes cells rest f = (
  (let l = ap (λ (l : List ℕ). length l) f.spelled in let a = length-append (block_bytes cells) rest in let b = length-append (count_bytes (length cells)) (all_bytes cells) in let k = length-count_bytes (length cells) in omega arith),
  λ none. block_some cells f.block.closed (sym (front_count before bytes cells rest f) ∙ none),
)

pub one_front : (before : List CellData) (bytes : List ℕ) (xs ys : List CellData) (r s : List ℕ) → IsFront before bytes xs r → IsFront before bytes ys s → (xs ≡ ys) × (r ≡ s)
one_front before bytes xs ys r s f g = by (compared xs ys r s (fit xs f.block.written) (fit ys g.block.written) (sym (front_drop before bytes xs r f) ∙ front_drop before bytes ys s g))
  where
    counted : length xs ≡ length ys
    counted = sym (front_count before bytes xs r f) ∙ front_count before bytes ys s g

    by : Compared xs ys r s → (xs ≡ ys) × (r ≡ s)
    by (longer [] is rest) = (sym (is ∙ append-nil xs), rest)
    by (longer (z ∷ zs) is rest) = absurd (let l = ap (λ (l : List CellData). length l) is in let a = length-append xs (z ∷ zs) in let n = counted in omega arith)
    by (shorter [] is rest) = (is ∙ append-nil ys, sym rest)
    by (shorter (z ∷ zs) is rest) = absurd (let l = ap (λ (l : List CellData). length l) is in let a = length-append ys (z ∷ zs) in let n = counted in omega arith)

-- ---- no fault where cells go on

no_cell_fault : (before cells zs : List CellData) (z : CellData) (rest more : List ℕ) (fault : CellFault) → IsWritten (cells ++ z ∷ zs) → ComesAfter before (cells ++ z ∷ zs) → rest ≡ cell_bytes z ++ more → IsFault (behind before cells) rest fault → ⊥
no_cell_fault before (c ∷ cells) zs z rest more fault w after is there = no_fault (c ∷ cells) zs z rest more fault w is there
no_cell_fault before [] zs z rest more fault w after is (short p cut e) = no_fault [] zs z rest more fault w is (short p cut e)
no_cell_fault before [] zs z rest more fault w after is (bad_kind inside wrong e) = no_fault [] zs z rest more fault w is (bad_kind inside wrong e)
no_cell_fault before [] zs z rest more fault w after is (out_of_order front last c tail b fits ranged spelled below e) =
    let same = cell_same z c more tail w.short.0 w.ranged.0 fits ranged (sym is ∙ spelled) in
    below (subst (λ (x : CellData). Below last x) same.0 (after front last b z zs refl))

no_next_fault : (before cells zs : List CellData) (z : CellData) (rest more : List ℕ) (fault : CellFault) → IsWritten (cells ++ z ∷ zs) → ComesAfter before (cells ++ z ∷ zs) → length (all_bytes cells) < 32768
    → rest ≡ all_bytes (z ∷ zs) ++ more → IsNextBlockFault before cells rest fault → ⊥
no_next_fault before cells zs z rest more fault w after under is (of_cell least lt there e) = no_cell_fault before cells zs z rest (all_bytes zs ++ more) least w after (is ∙ append_assoc (cell_bytes z) (all_bytes zs) more) there.there
no_next_fault before cells zs z rest more fault w after under is (of_count closed full e) = omega arith

-- so far it isn't full
next_open : (before cells front : List CellData) (z : CellData) (zs : List CellData) (rest : List ℕ) (fault : CellFault) → cells ≡ front ++ z ∷ zs → IsNextBlockFault before cells rest fault → length (all_bytes front) < 32768
next_open before cells front z zs rest fault is (of_cell least lt there e) = (let s = ap (λ (l : List CellData). length (all_bytes l)) is in let l = longer_bytes front (z ∷ zs) in omega arith)
  where
    longer_bytes : (xs ys : List CellData) → length (all_bytes xs) ≤ length (all_bytes (xs ++ ys))
    longer_bytes [] ys = omega arith
    longer_bytes (x ∷ xs) ys = (let a = length-append (cell_bytes x) (all_bytes xs) in let b = length-append (cell_bytes x) (all_bytes (xs ++ ys)) in let r = longer_bytes xs ys in omega arith)
next_open before cells front z zs rest fault is (of_count closed full e) = part_open front z zs (subst IsClosedBlock is closed)

same_next : (before cells : List CellData) (rest : List ℕ) (f g : CellFault) → IsNextBlockFault before cells rest f → IsNextBlockFault before cells rest g → f ≡ g
same_next before cells rest f g (of_cell l lt a e) (of_cell m le b d) =
    e ∙ ap (moved (length (all_bytes cells))) (least_one (behind before cells) rest l m a.there b.there (let x = a.least m b.there in let y = b.least l a.there in omega arith)) ∙ sym d
same_next before cells rest f g (of_cell l lt a e) (of_count closed full d) = absurd (omega arith)
same_next before cells rest f g (of_count closed full e) (of_cell m le b d) = absurd (omega arith)
same_next before cells rest f g (of_count closed full e) (of_count c u d) = e ∙ sym d

-- ---- a block or a fault

pub front_or_fault : (before : List CellData) (bytes : List ℕ) (cells : List CellData) (rest : List ℕ) (fault : CellFault) → IsFront before bytes cells rest → IsFrontFault before bytes fault → ⊥
front_or_fault before bytes cells rest fault f (of_head none e) = none (front_has before bytes cells rest f)
front_or_fault before bytes cells rest fault f (of_body inner has body e) =
    by (compared cells body.cells rest body.rest (fit cells f.block.written) (fit body.cells body.begin.written) (sym (front_drop before bytes cells rest f) ∙ body.begin.spelled))
  where
    fewer : length body.cells < length cells
    fewer = (let a = front_count before bytes cells rest f in let b = body.fewer in omega arith)

    by : Compared cells body.cells rest body.rest → ⊥
    by (longer zs is more) = (let l = ap (λ (l : List CellData). length l) is in let a = length-append cells zs in let n = fewer in omega arith)
    by (shorter [] is more) = (let l = ap (λ (l : List CellData). length l) (is ∙ append-nil body.cells) in let n = fewer in omega arith)
    by (shorter (z ∷ zs) is more) =
        no_next_fault before body.cells zs z body.rest rest inner (subst IsWritten is f.block.written) (subst (ComesAfter before) is f.after) (part_open body.cells z zs (subst IsClosedBlock is f.block.closed)) more body.next

one_body : (before : List CellData) (count : ℕ) (bytes : List ℕ) (f g : CellFault) → IsBodyFault before count bytes f → IsBodyFault before count bytes g → f ≡ g
one_body before count bytes f g a b = by (compared a.cells b.cells a.rest b.rest (fit a.cells a.begin.written) (fit b.cells b.begin.written) (sym a.begin.spelled ∙ b.begin.spelled))
  where
    same : a.cells ≡ b.cells → a.rest ≡ b.rest → f ≡ g
    same p q = same_next before b.cells b.rest f g (subst (λ (l : List ℕ). IsNextBlockFault before b.cells l f) q (subst (λ (l : List CellData). IsNextBlockFault before l a.rest f) p a.next)) b.next

    by : Compared a.cells b.cells a.rest b.rest → f ≡ g
    by (longer [] is more) = same (sym (is ∙ append-nil a.cells)) more
    by (longer (z ∷ zs) is more) =
        absurd (no_next_fault before a.cells zs z a.rest b.rest f (subst IsWritten is b.begin.written) (subst (ComesAfter before) is b.begin.after) (next_open before b.cells a.cells z zs b.rest g is b.next) more a.next)
    by (shorter [] is more) = same (is ∙ append-nil b.cells) (sym more)
    by (shorter (z ∷ zs) is more) =
        absurd (no_next_fault before b.cells zs z b.rest a.rest g (subst IsWritten is a.begin.written) (subst (ComesAfter before) is a.begin.after) (next_open before a.cells b.cells z zs a.rest f is a.next) more b.next)

pub one_front_fault : (before : List CellData) (bytes : List ℕ) (f g : CellFault) → IsFrontFault before bytes f → IsFrontFault before bytes g → f ≡ g
one_front_fault before bytes f g (of_head none e) (of_head n d) = e ∙ sym d
one_front_fault before bytes f g (of_head none e) (of_body inner has body d) = absurd (none has)
one_front_fault before bytes f g (of_body inner has body e) (of_head none d) = absurd (none has)
one_front_fault before bytes f g (of_body i has a e) (of_body j h b d) = e ∙ ap (moved 4) (one_body before (count_in bytes) (drop 4 bytes) i j a b) ∙ sym d

-- ---- all of the bytes

block_front : (bytes : List ℕ) (cells : List CellData) → AreBlock bytes cells → IsFront [] bytes cells []
block_front bytes cells a = record { spelled = a.spelled ∙ sym (append-nil (block_bytes cells)); block = a.block; after = λ front last is. absurd (let l = ap (λ (l : List CellData). length l) is in let m = length-append front (last ∷ []) in omega arith) }

block_or_fault : (bytes : List ℕ) (cells : List CellData) (fault : CellFault) → AreBlock bytes cells → IsBlockFault bytes fault → ⊥
block_or_fault bytes cells fault a (of_front f) = front_or_fault [] bytes cells [] fault (block_front bytes cells a) f
block_or_fault bytes cells fault a (of_rest other rest f some e) = some (sym (one_front [] bytes cells other [] rest (block_front bytes cells a) f).1)

one_block_fault : (bytes : List ℕ) (f g : CellFault) → IsBlockFault bytes f → IsBlockFault bytes g → f ≡ g
one_block_fault bytes f g (of_front a) (of_front b) = one_front_fault [] bytes f g a b
one_block_fault bytes f g (of_front a) (of_rest cells rest b some e) = absurd (front_or_fault [] bytes cells rest f b a)
one_block_fault bytes f g (of_rest cells rest b some e) (of_front a) = absurd (front_or_fault [] bytes cells rest g b a)
one_block_fault bytes f g (of_rest xs r a some e) (of_rest ys s b more d) = e ∙ ap (λ (l : List CellData). OutOfOrder (length (block_bytes l))) (one_front [] bytes xs ys r s a b).0 ∙ sym d

pub one_reading : (bytes : List ℕ) (a b : Result (List CellData) CellFault) → IsReading bytes a → IsReading bytes b → a ≡ b
one_reading bytes (Ok xs) (Ok ys) a b = ap (λ (l : List CellData). Ok l) (one_front [] bytes xs ys [] [] (block_front bytes xs a) (block_front bytes ys b)).0
one_reading bytes (Ok xs) (Err f) a b = absurd (block_or_fault bytes xs f a b)
one_reading bytes (Err f) (Ok xs) a b = absurd (block_or_fault bytes xs f b a)
one_reading bytes (Err f) (Err g) a b = ap (λ (x : CellFault). Err x) (one_block_fault bytes f g a b)

-- ---- places

fault_within : (before : List CellData) (bytes : List ℕ) (fault : CellFault) → IsFault before bytes fault → place_of_fault fault ≤ length bytes
fault_within before bytes fault (short p cut e) = (let a = ap place_of_fault e in let b = cut.before in omega arith)
fault_within before bytes fault (bad_kind inside wrong e) = (let a = ap place_of_fault e in omega arith)
fault_within before bytes fault (out_of_order front last c tail b fits ranged spelled below e) = (let a = ap place_of_fault e in omega arith)

place_moved : (n : ℕ) (fault : CellFault) → place_of_fault (moved n fault) ≤ n + place_of_fault fault
place_moved n (Short p) = omega arith
place_moved n (BadKind p) = omega arith
place_moved n (OutOfOrder p) = omega arith
place_moved n Memory = omega arith

body_within : (before : List CellData) (count : ℕ) (bytes : List ℕ) (fault : CellFault) → IsBodyFault before count bytes fault → place_of_fault fault ≤ length bytes
body_within before count bytes fault b = by b.next
  where
    long : length bytes ≡ length (all_bytes b.cells) + length b.rest
    long = ap (λ (l : List ℕ). length l) b.begin.spelled ∙ length-append (all_bytes b.cells) b.rest

    by : IsNextBlockFault before b.cells b.rest fault → place_of_fault fault ≤ length bytes
    by (of_cell least under there e) = (let a = ap place_of_fault e in let m = place_moved (length (all_bytes b.cells)) least in let w = fault_within (behind before b.cells) b.rest least there.there in let l = long in omega arith)
    by (of_count closed full e) = (let a = ap place_of_fault e in let l = long in omega arith)

-- a fault stands within the bytes, or at their end
pub front_within : (before : List CellData) (bytes : List ℕ) (fault : CellFault) → IsFrontFault before bytes fault → place_of_fault fault ≤ length bytes
front_within before bytes fault (of_head none e) = (let a = ap place_of_fault e in omega arith)
front_within before bytes fault (of_body inner has body e) = (let a = ap place_of_fault e in let m = place_moved 4 inner in let w = body_within before (count_in bytes) (drop 4 bytes) inner body in let l = length-drop 4 bytes in let h = has.0 in omega arith)
