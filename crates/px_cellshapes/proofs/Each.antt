-- Something of each cell that is read of a list.
use Rattle.std.proofs.Common.{◌≡◌, ℕ, ◌+◌, ◌-◌, ◌<◌, ◌≤◌, zero, suc, Option, Some, None, List, [], ◌∷◌, ◌++◌, length, take, refl, sym, subst, inl, inr, arith}
use Rattle.std.specs.List.{AllByRecursion}
use Rattle.std.proofs.lemmas.List.{take_more}
use Rattle.px_cells.specs.CellData.{CellData}
use Rattle.px_cells.specs.Among.{Has}
use Rattle.px_cells.specs.Contents.{value_at}
use Rattle.px_cells.specs.Order.{IsAscending, Reads, ReadsSame}
use Rattle.px_cells.specs.Scan.{cell_at, no_cell}
use Rattle.px_cells.proofs.Among.{all_has, has_all, has_from_reads, has_right, reads_append, reads_from_has}
use Rattle.px_cells.proofs.Contents.{reads_from_value, value_from_reads}
use Rattle.px_cells.proofs.Listing.{last_taken}
use Rattle.px_merge.specs.Settle.{settle}
use Rattle.px_merge.proofs.Settling.{settle_is}

abbrev pub EachRead : (CellData → Type 0) → List CellData → Type 0
EachRead P cells = (c : CellData) → value_at cells c.key c.qualifier c.stamp c.kind ≡ Some c.value → P c

pub none_if : {A : Type 0} (o : Option A) → ((v : A) → o ≡ Some v → ⊥) → o ≡ None
none_if None f = refl
none_if (Some v) f = absurd (f v refl)

module _ (P : CellData → Type 0) where
  -- 1. What is read

  pub each_reads : (cells : List CellData) → EachRead P cells → (c : CellData) → Reads cells c → P c
  each_reads cells e c r = e c (value_from_reads cells c.key c.qualifier c.stamp c.kind c.value r)

  pub each_from_reads : (cells : List CellData) → ((c : CellData) → Reads cells c → P c) → EachRead P cells
  each_from_reads cells f c v = f c (reads_from_value cells c.key c.qualifier c.stamp c.kind c.value v)

  -- 2. Lists

  pub each_from_all : (cells : List CellData) → AllByRecursion P cells → EachRead P cells
  each_from_all cells a = each_from_reads cells (λ c r. all_has P cells c a (has_from_reads cells c r))

  -- of an ascending list each cell is read
  pub all_from_each : (cells : List CellData) → IsAscending cells → EachRead P cells → AllByRecursion P cells
  all_from_each cells a e = has_all P cells (λ c h. each_reads cells e c (reads_from_has cells c a h))

  pub all_append : (xs ys : List CellData) → AllByRecursion P xs → AllByRecursion P ys → AllByRecursion P (xs ++ ys)
  all_append [] ys a b = b
  all_append (x ∷ xs) ys a b = (a.0, all_append xs ys a.1 b)

  pub all_at : (cells : List CellData) (i : ℕ) → i < length cells → AllByRecursion P cells → P (cell_at cells i)
  all_at [] i l a = absurd (omega arith)
  all_at (c ∷ cells) zero l a = a.0
  all_at (c ∷ cells) (suc i) l a = all_at cells i (omega arith) a.1

  pub all_before : (cells : List CellData) (i : ℕ) → 0 < i → i ≤ length cells → AllByRecursion P (take i cells) → P (cell_at cells (i - 1))
  all_before cells i p l a = all_has P (take i cells) (cell_at cells (i - 1)) a (subst (λ (xs : List CellData). Has xs (cell_at cells (i - 1))) (sym (last_taken cells i p l)) (has_right (take (i - 1) cells) (cell_at cells (i - 1) ∷ []) (cell_at cells (i - 1)) (inl refl)))

  pub all_more : (cells : List CellData) (i : ℕ) → i < length cells → AllByRecursion P (take i cells) → P (cell_at cells i) → AllByRecursion P (take (i + 1) cells)
  all_more cells i l a h = subst (AllByRecursion P) (sym (take_more cells i no_cell l)) (all_append (take i cells) (cell_at cells i ∷ []) a (h, tt))

  -- 3. Steps

  pub each_none : EachRead P []
  each_none = each_from_reads [] (λ c r. absurd r)

  pub each_over : (batch old new : List CellData) → EachRead P batch → EachRead P old → ReadsSame new (batch ++ old) → EachRead P new
  each_over batch old new b o same = each_from_reads new (λ c r. elim (reads_append batch old c ((same c).0 r)) [
    | inl l ↦ each_reads batch b c l
    | inr m ↦ each_reads old o c m.1
  ])

  pub each_settled : (batch old : List CellData) → EachRead P batch → EachRead P old → EachRead P (settle (batch ++ old))
  each_settled batch old b o = each_over batch old (settle (batch ++ old)) b o (settle_is (batch ++ old)).same

  pub each_fewer : (old new : List CellData) → EachRead P old → ((c : CellData) → Reads new c → Reads old c) → EachRead P new
  each_fewer old new o f = each_from_reads new (λ c r. each_reads old o c (f c r))
