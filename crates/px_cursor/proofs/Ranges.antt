-- The cells of a list within a range of keys.
use Rattle.std.proofs.Common.{◌≡◌, ◌≢◌, ℕ, zero, suc, ◌+◌, ◌<◌, ◌≤◌, true, false, List, [], ◌∷◌, ◌++◌, length, take, drop, get_or, refl, sym, ap, subst, ◌∙◌, arith, inl, inr, Some, None}
use Rattle.std.specs.Prelude.{Bool, Option, filter, not, ◌&&◌, ◌↔◌}
use Rattle.std.specs.Ordering.{is_lt}
use Rattle.std.specs.declared.cmp.Ordering.{Ordering}
use Rattle.std.specs.declared.cmp.Ordering.TheVariants.{Less, Equal, Greater}
use Rattle.std.specs.List.{AllByRecursion}
use Rattle.std.proofs.lemmas.Bool.{cases_Bool}
use Rattle.px_cells.specs.CellData.{CellData}
use Rattle.px_cells.specs.Among.{Has}
use Rattle.px_cells.specs.Order.{key_cmp, Below, IsAscending, Reads}
use Rattle.px_cells.specs.Rows.{AllBelow, AllFrom, AreRows, IsBeforeEnd}
use Rattle.px_cells.proofs.Among.{all_has, has_all, has_from_reads, reads_from_has}
use Rattle.px_cells.proofs.Sights.{one_settled}
use Rattle.px_cursor.specs.Range.{cells_within, is_before, is_within}

-- ---- the test

lt_from : (o : Ordering) → is_lt o ≡ true → o ≡ Less
lt_from Less h = refl
lt_from Equal h = cc
lt_from Greater h = cc

both : (a b : Bool) → (a && b) ≡ true → (a ≡ true) × (b ≡ true)
both true b h = (refl, h)
both false b h = cc

both_back : (a b : Bool) → a ≡ true → b ≡ true → (a && b) ≡ true
both_back true b h g = g
both_back false b h g = cc

from_test : (o : Ordering) → not (is_lt o) ≡ true → o ≡ Less → ⊥
from_test o h e = (let z = ap (λ (p : Ordering). not (is_lt p)) e in let y : false ≡ true = sym z ∙ h in cc)

to_test : (o : Ordering) → (o ≡ Less → ⊥) → not (is_lt o) ≡ true
to_test Less h = absurd (h refl)
to_test Equal h = refl
to_test Greater h = refl

before_from : (key : List ℕ) (high : Option (List ℕ)) → is_before key high ≡ true → IsBeforeEnd key high
before_from key None h = tt
before_from key (Some high) h = lt_from (key_cmp key high) h

before_to : (key : List ℕ) (high : Option (List ℕ)) → IsBeforeEnd key high → is_before key high ≡ true
before_to key None h = refl
before_to key (Some high) h = ap is_lt h

module _ (low : List ℕ) (high : Option (List ℕ)) where
  pub within_from : (key : List ℕ) → is_within low high key ≡ true → (key_cmp key low ≢ Less) × IsBeforeEnd key high
  within_from key h = (let z = both _ _ h in (from_test (key_cmp key low) z.0, before_from key high z.1))

  pub within_to : (key : List ℕ) → (key_cmp key low ≢ Less) → IsBeforeEnd key high → is_within low high key ≡ true
  within_to key h g = both_back _ _ (to_test (key_cmp key low) h) (before_to key high g)

  -- ---- one cell more

  kept : (c : CellData) (cells : List CellData) → is_within low high c.key ≡ true → cells_within low high (c ∷ cells) ≡ c ∷ cells_within low high cells
  kept c cells e = rw e refl

  left_out : (c : CellData) (cells : List CellData) → is_within low high c.key ≡ false → cells_within low high (c ∷ cells) ≡ cells_within low high cells
  left_out c cells e = rw e refl

  pub has_within : (cells : List CellData) (c : CellData) → Has (cells_within low high cells) c → Has cells c × (is_within low high c.key ≡ true)
  has_within [] c h = absurd h
  has_within (x ∷ cells) c h = elim (cases_Bool (is_within low high x.key)) [
    | inl e ↦ elim (subst (λ (l : List CellData). Has l c) (kept x cells e) h) [
      | inl same ↦ (inl same, subst (λ (y : CellData). is_within low high y.key ≡ true) same e)
      | inr more ↦ (let z = has_within cells c more in (inr z.0, z.1))
    ]
    | inr e ↦ (let z = has_within cells c (subst (λ (l : List CellData). Has l c) (left_out x cells e) h) in (inr z.0, z.1))
  ]

  pub within_has : (cells : List CellData) (c : CellData) → Has cells c → is_within low high c.key ≡ true → Has (cells_within low high cells) c
  within_has [] c h w = absurd h
  within_has (x ∷ cells) c (inl same) w = subst (λ (l : List CellData). Has l c) (sym (kept x cells (subst (λ (y : CellData). is_within low high y.key ≡ true) (sym same) w))) (inl same)
  within_has (x ∷ cells) c (inr more) w = elim (cases_Bool (is_within low high x.key)) [
    | inl e ↦ subst (λ (l : List CellData). Has l c) (sym (kept x cells e)) (inr (within_has cells c more w))
    | inr e ↦ subst (λ (l : List CellData). Has l c) (sym (left_out x cells e)) (within_has cells c more w)
  ]

  pub ascending_within : (cells : List CellData) → IsAscending cells → IsAscending (cells_within low high cells)
  ascending_within [] a = tt
  ascending_within (x ∷ cells) a = elim (cases_Bool (is_within low high x.key)) [
    | inl e ↦ subst IsAscending (sym (kept x cells e)) (
      has_all (Below x) (cells_within low high cells) (λ m h. all_has (Below x) cells m a.0 (has_within cells m h).0),
      ascending_within cells a.1,
    )
    | inr e ↦ subst IsAscending (sym (left_out x cells e)) (ascending_within cells a.1)
  ]

  -- ---- the part of a sorted list

  pub rows_within : (cells : List CellData) → IsAscending cells → AreRows cells low high (cells_within low high cells)
  rows_within cells a = record {
    ascending = ascending_within cells a;
    exact = λ c. (
      λ r. (let z = has_within cells c (has_from_reads (cells_within low high cells) c r) in (reads_from_has cells c a z.0, within_from c.key z.1)),
      λ z. reads_from_has (cells_within low high cells) c (ascending_within cells a) (within_has cells c (has_from_reads cells c z.0) (within_to c.key z.1.0 z.1.1)),
    );
  }

  -- there is one
  pub rows_are : (cells rows : List CellData) → IsAscending cells → AreRows cells low high rows → rows ≡ cells_within low high cells
  rows_are cells rows a are =
      let is = rows_within cells a in
      one_settled (cells_within low high cells) rows (cells_within low high cells) (record { ascending = are.ascending; same = λ c. (λ r. (is.exact c).1 ((are.exact c).0 r), λ r. (are.exact c).1 ((is.exact c).0 r)) })
      (record { ascending = is.ascending; same = λ c. (λ r. r, λ r. r) })

  -- what is below the range has no part in it,
  pub none_below : (cells : List CellData) → AllBelow low cells → cells_within low high cells ≡ []
  none_below [] all = refl
  none_below (x ∷ cells) all = elim (cases_Bool (is_within low high x.key)) [
    | inl e ↦ absurd ((within_from x.key e).0 all.0)
    | inr e ↦ left_out x cells e ∙ none_below cells all.1
  ]

-- and neither has what is from its end on
pub none_from : (low high : List ℕ) (cells : List CellData) → AllFrom high cells → cells_within low (Some high) cells ≡ []
none_from low high [] all = refl
none_from low high (x ∷ cells) all = elim (cases_Bool (is_within low (Some high) x.key)) [
  | inl e ↦ absurd (all.0 (within_from low (Some high) x.key e).1)
  | inr e ↦ left_out low (Some high) x cells e ∙ none_from low high cells all.1
]
