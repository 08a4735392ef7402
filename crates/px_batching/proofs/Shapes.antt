-- The shape of a region's cells, once a batch is written before them.
use Rattle.std.proofs.Common.{◌≡◌, Bool, true, false, Option, Some, None, List, [], ◌∷◌, ◌++◌, length, ℕ, ◌≤◌, ◌+◌, refl, sym, ◌∙◌, arith}
use Rattle.std.specs.List.{AllByRecursion}
use Rattle.std.proofs.lemmas.List.{length-append}
use Rattle.px_cells.specs.CellData.{CellData}
use Rattle.px_cells.specs.Contents.{or_else, value_at}
use Rattle.px_cells.specs.Order.{ReadsSame}
use Rattle.px_cells.proofs.Contents.{same_values, values_append, values_put}
use Rattle.px_cellbytes.specs.Spelling.{all_bytes, cell_bytes}
use Rattle.px_keptcells.specs.Kept.{but, laid}
use Rattle.px_tables.specs.declared.index.Index.{Index}
use Rattle.px_tables.specs.declared.table.Table.{Table}
use Rattle.px_cellshapes.specs.Keys.{AreRightKeys, IsRightIndexCell}
use Rattle.px_cellshapes.specs.Rows.{AreRightRows, IsRightRowCell}

-- 1. Each cell that is read

module _ (P : CellData → Type 0) where
  abbrev AllRead : List CellData → Type 0
  AllRead cells = (c : CellData) → value_at cells c.key c.qualifier c.stamp c.kind ≡ Some c.value → P c

  read_over : (batch old new : List CellData) → ((c : CellData) → value_at new c.key c.qualifier c.stamp c.kind ≡ or_else (value_at batch c.key c.qualifier c.stamp c.kind) (value_at old c.key c.qualifier c.stamp c.kind)) → AllRead batch → AllRead old → AllRead new
  read_over batch old new over a b c v = by (value_at batch c.key c.qualifier c.stamp c.kind) refl (sym (over c) ∙ v)
    where
      by : (o : Option (List ℕ)) → value_at batch c.key c.qualifier c.stamp c.kind ≡ o → or_else o (value_at old c.key c.qualifier c.stamp c.kind) ≡ Some c.value → P c
      by None e q = b c q
      by (Some w) e q = a c (e ∙ q)

  read_put : (batch old new : List CellData) → ReadsSame new (batch ++ old) → AllRead batch → AllRead old → AllRead new
  read_put batch old new r a b = read_over batch old new (λ c. (λ t. values_put batch old new r t c.key c.qualifier c.stamp c.kind)) a b

  read_same : (new old : List CellData) → ReadsSame new old → AllRead old → AllRead new
  read_same new old r a c v = a c (sym (λ t. same_values new old r t c.key c.qualifier c.stamp c.kind) ∙ v)

  read_none : AllRead []
  unfolding value_at
  read_none c v = cc

-- 2. Keys of an index, and rows

pub keys_put : (t : Table) (i : Index) (batch old new : List CellData) → ReadsSame new (batch ++ old) → AreRightKeys t i batch → AreRightKeys t i old → AreRightKeys t i new
keys_put t i batch old new r a b = record { each = read_put (IsRightIndexCell t i) batch old new r a.each b.each }

pub keys_same : (t : Table) (i : Index) (new old : List CellData) → ReadsSame new old → AreRightKeys t i old → AreRightKeys t i new
keys_same t i new old r a = record { each = read_same (IsRightIndexCell t i) new old r a.each }

pub keys_laid : (t : Table) (i : Index) (parts : List (List CellData)) → AllByRecursion (AreRightKeys t i) parts → AreRightKeys t i (laid parts)
keys_laid t i [] a = record { each = read_none (IsRightIndexCell t i) }
keys_laid t i (p ∷ parts) a = record { each = read_over (IsRightIndexCell t i) p (laid parts) (p ++ laid parts) (λ c. (λ s. values_append p (laid parts) s c.key c.qualifier c.stamp c.kind)) a.0.each (keys_laid t i parts a.1).each }

pub rows_put : (t : Table) (batch old new : List CellData) → ReadsSame new (batch ++ old) → AreRightRows t batch → AreRightRows t old → AreRightRows t new
rows_put t batch old new r a b = record { each = read_put (IsRightRowCell t) batch old new r a.each b.each }

pub rows_same : (t : Table) (new old : List CellData) → ReadsSame new old → AreRightRows t old → AreRightRows t new
rows_same t new old r a = record { each = read_same (IsRightRowCell t) new old r a.each }

pub rows_laid : (t : Table) (parts : List (List CellData)) → AllByRecursion (AreRightRows t) parts → AreRightRows t (laid parts)
rows_laid t [] a = record { each = read_none (IsRightRowCell t) }
rows_laid t (p ∷ parts) a = record { each = read_over (IsRightRowCell t) p (laid parts) (p ++ laid parts) (λ c. (λ s. values_append p (laid parts) s c.key c.qualifier c.stamp c.kind)) a.0.each (rows_laid t parts a.1).each }

-- 3. Parts that are left out

pub all_but : (P : List CellData → Type 0) (vs : List Bool) (parts : List (List CellData)) → AllByRecursion P parts → AllByRecursion P (but vs parts)
all_but P [] parts a = a
all_but P (v ∷ vs) [] a = tt
all_but P (true ∷ vs) (p ∷ parts) a = all_but P vs parts a.1
all_but P (false ∷ vs) (p ∷ parts) a = (a.0, all_but P vs parts a.1)

pub but_fewer : (vs : List Bool) (parts : List (List CellData)) → length (laid (but vs parts)) ≤ length (laid parts)
but_fewer [] parts = omega arith
but_fewer (v ∷ vs) [] = omega arith
but_fewer (true ∷ vs) (p ∷ parts) = (let a = but_fewer vs parts in let b = length-append p (laid parts) in omega arith)
but_fewer (false ∷ vs) (p ∷ parts) = (let a = but_fewer vs parts in let b = length-append p (laid parts) in let c = length-append p (laid (but vs parts)) in omega arith)

bytes_append : (xs ys : List CellData) → length (all_bytes (xs ++ ys)) ≡ length (all_bytes xs) + length (all_bytes ys)
bytes_append [] ys = omega arith
bytes_append (x ∷ xs) ys =
    (let a = length-append (cell_bytes x) (all_bytes (xs ++ ys)) in
    let b = length-append (cell_bytes x) (all_bytes xs) in
    let c = bytes_append xs ys in
    omega arith)

pub but_shorter : (vs : List Bool) (parts : List (List CellData)) → length (all_bytes (laid (but vs parts))) ≤ length (all_bytes (laid parts))
but_shorter [] parts = omega arith
but_shorter (v ∷ vs) [] = omega arith
but_shorter (true ∷ vs) (p ∷ parts) = (let a = but_shorter vs parts in let b = bytes_append p (laid parts) in omega arith)
but_shorter (false ∷ vs) (p ∷ parts) = (let a = but_shorter vs parts in let b = bytes_append p (laid parts) in let c = bytes_append p (laid (but vs parts)) in omega arith)
