-- The first rows of what stores and files have of a range.
use Rattle.std.proofs.Common.{◌≡◌, ℕ, ◌-◌, ◌<◌, ◌≤◌, true, Option, List, [], ◌∷◌, ◌++◌, length, drop, refl, sym, ap, subst, ◌∙◌, inl, inr, arith}
use Rattle.std.specs.Prelude.{min}
use Rattle.std.proofs.lemmas.Bool.{cases_lt}
use Rattle.std.proofs.lemmas.List.{take-append-drop, take_all}
use Rattle.px_cells.specs.Among.{Has}
use Rattle.px_cells.specs.CellData.{CellData}
use Rattle.px_cells.specs.Order.{IsAscending, Reads}
use Rattle.px_cells.specs.Rows.{AreRows}
use Rattle.px_cells.proofs.Among.{all_has, ascending_left, has_all, has_from_reads, has_left, reads_append, reads_from_has}
use Rattle.px_cells.proofs.Keys.{keys_differ}
use Rattle.px_merge.specs.Merged.{joined}
use Rattle.px_merge.specs.Parts.{ReadsPart}
use Rattle.px_merge.specs.Settle.{settle}
use Rattle.px_merge.proofs.Reading.{read_at}
use Rattle.px_merge.proofs.Settling.{settle_is}
use Rattle.px_sources.specs.Giving.{begins_row, key_at, rows_before}
use Rattle.px_sources.proofs.Given.{begins_next, row_none}
use Rattle.px_reads.specs.inner.Fronts.{AreFrontRows}
use Rattle.px_reads.specs.Range.{AllWithin, IsWithin}

-- ---- what fits

pub rows_within : (cells rows : List CellData) (low : List ℕ) (high : Option (List ℕ)) → AreRows cells low high rows → AllWithin low high rows
rows_within cells rows low high are = has_all (λ (c : CellData). IsWithin low high c.key) rows (λ c has. ((are.exact c).0 (reads_from_has rows c are.ascending has)).1)

-- what sources have together is of the range
pub given_within : (low : List ℕ) (high : Option (List ℕ)) (newer older list : List CellData) (parts : List (List CellData)) → AllWithin low high newer → AllWithin low high older → ReadsPart (IsWithin low high) list (joined parts)
    → AllWithin low high (settle (joined (newer ∷ older ∷ parts)))
given_within low high newer older list parts first second part =
    let all = joined (newer ∷ older ∷ parts) in
    let is = settle_is all in
    has_all (λ (c : CellData). IsWithin low high c.key) (settle all) (λ c has. by c ((is.same c).0 (reads_from_has (settle all) c is.ascending has)))
  where
    by : (c : CellData) → Reads (newer ++ (older ++ joined parts)) c → IsWithin low high c.key
    by c reads = elim (reads_append newer (older ++ joined parts) c reads) [
      | inl here ↦ all_has (λ (x : CellData). IsWithin low high x.key) newer c first (has_from_reads newer c here)
      | inr rest ↦ elim (reads_append older (joined parts) c rest.1) [
        | inl here ↦ all_has (λ (x : CellData). IsWithin low high x.key) older c second (has_from_reads older c here)
        | inr here ↦ ((part c).0 here.1).1
      ]
    ]

module _ (all : List CellData) (most : ℕ) (cells : List CellData) (rows : ℕ) (front : AreFrontRows all most cells rows) where
  whole : cells ++ drop (length cells) all ≡ all
  whole = ap (λ (l : List CellData). l ++ drop (length cells) all) front.front ∙ take-append-drop (length cells) all

  pub front_ascending : IsAscending all → IsAscending cells
  front_ascending sorted = ascending_left cells (drop (length cells) all) (subst IsAscending (sym whole) sorted)

  pub front_within : (low : List ℕ) (high : Option (List ℕ)) → AllWithin low high all → AllWithin low high cells
  front_within low high each =
      has_all (λ (c : CellData). IsWithin low high c.key) cells (λ c has. all_has (λ (x : CellData). IsWithin low high x.key) all c each (subst (λ (l : List CellData). Has l c) whole (has_left cells (drop (length cells) all) c has)))

  pub front_all : length cells ≡ length all → cells ≡ all
  front_all same = front.front ∙ take_all (length cells) all (omega arith)

  -- none is found only where there is none
  pub front_some : 0 < most → rows ≡ min (rows_before cells (length cells)) 18446744073709551615 → 0 < length all → 0 < length cells
  front_some some counted more = elim (cases_lt 0 (length cells)) [
    | inl lt ↦ lt
    | inr none ↦ absurd (
        let no_rows : rows ≡ 0 = counted ∙ ap (λ (n : ℕ). min (rows_before cells n) 18446744073709551615) (empty none) ∙ ap (λ (n : ℕ). min n 18446744073709551615) (row_none cells) in
        elim front.ended [ inl e ↦ omega arith | inr e ↦ (let m = e.1 in omega arith) ]
        )
  ]
    where
      empty : length cells ≤ 0 → length cells ≡ 0
      empty le = omega arith

  -- all cells of one row are found
  pub front_of_row : (key : List ℕ) → 0 < most → rows ≡ min (rows_before cells (length cells)) 18446744073709551615 → ((i : ℕ) → i < length all → key_at all i ≡ key) → cells ≡ all
  front_of_row key some counted keys = elim (cases_lt (length cells) (length all)) [
    | inl less ↦ absurd (elim front.ended [ inl e ↦ omega arith | inr e ↦ between less (front_some some counted (omega arith)) e.0 ])
    | inr le ↦ front_all (let w = front.within in omega arith)
  ]
    where
      between : length cells < length all → 0 < length cells → begins_row all (length cells) ≡ true → ⊥
      between less more begins =
          keys_differ (key_at all (length cells - 1)) (key_at all (length cells)) key key (keys (length cells - 1) (omega arith)) (keys (length cells) less) (sym (begins_next all (length cells) (length cells - 1) (omega arith)) ∙ begins) refl

-- ---- whether there is any

-- what is read of a range isn't nothing where a cell has a key of it
pub some_rows : (cells rows : List CellData) (low : List ℕ) (high : Option (List ℕ)) (c : CellData) → AreRows (settle cells) low high rows → Has cells c → IsWithin low high c.key → 0 < length rows
some_rows cells rows low high c are has within =
    let r = read_at cells c has in
    let there = (are.exact r.cell).1 (((settle_is cells).same r.cell).1 r.read, subst (IsWithin low high) (sym r.same.key) within) in
    not_none rows r.cell (has_from_reads rows r.cell there)
  where
    not_none : (l : List CellData) (x : CellData) → Has l x → 0 < length l
    not_none [] x h = absurd h
    not_none (y ∷ l) x h = omega arith
