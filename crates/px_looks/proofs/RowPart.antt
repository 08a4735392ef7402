-- The cells from where a row begins up to its end are that row.
use Rattle.std.proofs.Common.{◌≡◌, ℕ, ◌+◌, ◌-◌, ◌<◌, ◌≤◌, true, false, List, length, take, drop, get_or, ap, sym, subst, ◌∙◌, inl, inr, arith}
use Rattle.std.specs.Ordering.{is_le, is_lt, ordering_reverse}
use Rattle.std.specs.declared.cmp.Ordering.TheVariants.{Less, Greater}
use Rattle.std.proofs.lemmas.Bool.{cases_eq, cases_lt}
use Rattle.std.proofs.lemmas.Cmp.{nat_list_cmp_total}
use Rattle.px_cells.specs.CellData.{CellData}
use Rattle.px_cells.specs.Order.{IsAscending, IsCellList, key_cmp}
use Rattle.px_cells.specs.Rows.{AllAbove, AllBelow, AllFrom, AllUpTo, IsRow}
use Rattle.px_cells.proofs.Orders.{equal_key, row_is_together}
use Rattle.px_cells.proofs.RowLemmas.{above_from_parts, below_at, below_from_parts, from_from_parts, list_from_parts, row_from_parts, up_to_from_parts}
use Rattle.px_region.specs.Giving.{begins_row, key_at}
use Rattle.px_looks.specs.inner.Lent.{IsRowEnd}
use Rattle.px_looks.proofs.Among.{begins_so, keys_rise, same_cell}
use Rattle.px_looks.proofs.Cut.{below_key, no_cell}
use Rattle.px_looks.proofs.Ends.{rest_at, rest_length}
use Rattle.px_looks.proofs.KeyOrder.{Keys, equal, higher, keys_by, lower}

module _ (cells : List CellData) (i end : ℕ) (key : List ℕ) (up : IsAscending cells) (begins : begins_row cells i ≡ true) (z : IsRowEnd cells i end (key_at cells i)) (is : key ≡ key_at cells i) where
  abbrev rest : List CellData
  rest = take (length cells - i) (drop i cells)

  rest_long : length rest + i ≡ length cells
  rest_long = rest_length cells i (let o = z.on in let w = z.within in omega arith)

  before_key : (k : ℕ) → k < i → key_cmp (key_at cells k) key ≡ Less
  before_key k lt = subst (λ (x : List ℕ). key_cmp (key_at cells k) x ≡ Less) (sym is) (keys_rise cells i k up (let o = z.on in let w = z.within in omega arith) (begins_so cells i begins (omega arith)) lt)

  apart : (k : ℕ) → end ≤ k → k < length cells → key ≡ key_at cells k → ⊥
  apart k le lt e = z.other (omega arith) (elim (cases_eq end k) [
    | inl q ↦ ap (key_at cells) q ∙ sym e ∙ is
    | inr q ↦ row_is_together (get_or cells i no_cell) (get_or cells end no_cell) (get_or cells k no_cell) (inr (below_at cells i end no_cell up z.on (omega arith))) (below_at cells end k no_cell up (omega arith) lt) (sym is ∙ e) ∙ sym e ∙ is
  ])

  behind_key : (k : ℕ) → end ≤ k → k < length cells → key_cmp (key_at cells k) key ≡ Greater
  behind_key k le lt = nat_list_cmp_total.antisymm (key_at cells k) key ∙ ap ordering_reverse (above (keys_by key (key_at cells k)))
    where
      above : Keys key (key_at cells k) → key_cmp key (key_at cells k) ≡ Less
      above (lower l) = l
      above (equal e) = absurd (apart k le lt e)
      above (higher l) = absurd (below_key (get_or cells i no_cell) (get_or cells k no_cell) (below_at cells i k no_cell up (let o = z.on in omega arith) lt) (subst (λ (x : List ℕ). key_cmp (key_at cells k) x ≡ Less) is l))

  all_below : AllBelow key (take i cells)
  all_below = below_from_parts cells key i (let o = z.on in let w = z.within in omega arith)
      (λ k d a lt. ap (λ (c : CellData). is_lt (key_cmp c.key key)) (same_cell cells k d no_cell (let o = z.on in let w = z.within in omega arith)) ∙ ap is_lt (before_key k lt))

  all_from : AllFrom key (drop i cells)
  all_from = from_from_parts cells key i (λ k d a lt. ap (λ (c : CellData). is_lt (key_cmp c.key key)) (same_cell cells k d no_cell lt) ∙ not_less k a lt)
    where
      not_less : (k : ℕ) → i ≤ k → k < length cells → is_lt (key_cmp (key_at cells k) key) ≡ false
      not_less k a lt = elim (cases_lt k end) [
        | inl l ↦ ap is_lt (equal_key (key_at cells k) key (z.one k a l ∙ sym is))
        | inr l ↦ ap is_lt (behind_key k l lt)
      ]

  there : (k : ℕ) (d : CellData) → k < length rest → get_or rest k d ≡ get_or cells (i + k) no_cell
  there k d lt = same_cell rest k d no_cell lt ∙ rest_at cells i k no_cell

  all_up_to : AllUpTo key (take (end - i) rest)
  all_up_to = up_to_from_parts rest key (end - i) (let w = z.within in let r = rest_long in omega arith)
      (λ k d a lt. ap (λ (c : CellData). is_le (key_cmp c.key key)) (there k d (let w = z.within in let r = rest_long in omega arith)) ∙ ap is_le (equal_key (key_at cells (i + k)) key (z.one (i + k) (omega arith) (omega arith) ∙ sym is)))

  all_above : AllAbove key (drop (end - i) rest)
  all_above = above_from_parts rest key (end - i)
      (λ k d a lt. ap (λ (c : CellData). is_le (key_cmp c.key key)) (there k d lt) ∙ ap is_le (behind_key (i + k) (let o = z.on in omega arith) (let r = rest_long in omega arith)))

  pub row_part : IsRow cells key (take (end - i) rest)
  row_part = row_from_parts cells key i (end - i) up all_below all_from all_up_to all_above

  pub part_list : IsCellList cells → IsCellList (take (end - i) rest)
  part_list l = list_from_parts cells key i (end - i) l
