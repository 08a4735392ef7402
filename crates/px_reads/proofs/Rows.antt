-- The rows of a range of all lists, by those of their parts.
use Rattle.std.proofs.Common.{◌≡◌, ◌≢◌, ℕ, Option, Some, List, [], ◌∷◌, ◌++◌, sym, ap, subst, ◌∙◌, append-nil}
use Rattle.std.specs.List.{AllByRecursion}
use Rattle.std.proofs.lemmas.List.Concat.{flat_map-append}
use Rattle.std.specs.declared.cmp.Ordering.TheVariants.{Less}
use Rattle.px_cells.specs.CellData.{CellData}
use Rattle.px_cells.specs.Order.{key_cmp}
use Rattle.px_cells.specs.Rows.{AreRows, IsRow}
use Rattle.px_cells.proofs.Among.{all_has, has_from_reads}
use Rattle.px_keyfilter.specs.Keys.{HasAll, HasKeyBits}
use Rattle.px_keyfilter.proofs.Kept.{none_has}
use Rattle.px_merge.specs.Merged.{joined}
use Rattle.px_merge.specs.Parts.{ReadsPart}
use Rattle.px_merge.specs.Settle.{settle}
use Rattle.px_merge.proofs.Parts.{part_append}
use Rattle.px_merge.proofs.Settling.{settle_is}
use Rattle.px_reads.specs.Range.{AllWithin, IsWithin, next_key}
use Rattle.px_reads.proofs.KeyOrder.{above_itself, equal, higher, key_itself, keys_by, less_next, lower}

-- ---- the range of one row

pub within_is : (key k : List ℕ) → IsWithin key (Some (next_key key)) k → k ≡ key
within_is key k w = elim (keys_by k key) [
  | lower l ↦ absurd (w.0 l)
  | equal e ↦ e
  | higher l ↦ absurd (less_next k key w.1 l)
]

pub is_within : (key k : List ℕ) → k ≡ key → IsWithin key (Some (next_key key)) k
is_within key k e = (
  λ l. key_itself key (subst (λ (x : List ℕ). key_cmp x key ≡ Less) e l),
  subst (λ (x : List ℕ). key_cmp x (next_key key) ≡ Less) (sym e) (above_itself key),
)

pub row_of_rows : (cells row : List CellData) (key : List ℕ) → AreRows cells key (Some (next_key key)) row → IsRow cells key row
row_of_rows cells row key are = record {
  ascending = are.ascending;
  exact = λ c. (
    λ r. (let z = (are.exact c).0 r in (z.0, within_is key c.key z.1)),
    λ z. (are.exact c).1 (z.0, is_within key c.key z.1),
  );
}

pub rows_of_row : (cells row : List CellData) (key : List ℕ) → IsRow cells key row → AreRows cells key (Some (next_key key)) row
rows_of_row cells row key is = record {
  ascending = is.ascending;
  exact = λ c. (
    λ r. (let z = (is.exact c).0 r in (z.0, is_within key c.key z.1)),
    λ z. (is.exact c).1 (z.0, within_is key c.key z.1),
  );
}

-- cells of that range are of the row
pub own_cells : (key : List ℕ) (cells : List CellData) → AllWithin key (Some (next_key key)) cells → AllByRecursion (λ (c : CellData). c.key ≡ key) cells
own_cells key [] each = tt
own_cells key (c ∷ cells) each = (within_is key c.key each.0, own_cells key cells each.1)

-- ---- parts

-- of a list whose filter hasn't the key there is none
pub no_part : (words key : List ℕ) (cells : List CellData) → HasAll words cells → (HasKeyBits words key → ⊥) → ReadsPart (IsWithin key (Some (next_key key))) cells []
no_part words key cells has lacks c = (
  λ r. absurd r,
  λ z. absurd (all_has (λ (x : CellData). x.key ≢ key) cells c (none_has words key cells has lacks) (has_from_reads cells c z.0) (within_is key c.key z.1)),
)

-- the same of the range of the row
pub unread : (words key low : List ℕ) (high : Option (List ℕ)) (cells : List CellData) → HasAll words cells → (HasKeyBits words key → ⊥) → low ≡ key → high ≡ Some (next_key key) → ReadsPart (IsWithin low high) cells []
unread words key low high cells has lacks low-is high-is =
    subst (λ (l : List ℕ). ReadsPart (IsWithin l high) cells []) (sym low-is) (subst (λ (h : Option (List ℕ)). ReadsPart (IsWithin key h) cells []) (sym high-is) (no_part words key cells has lacks))

-- a part as a list of its own
pub one_part : (keys : List ℕ → Type 0) (list cells part : List CellData) → list ≡ cells → ReadsPart keys cells part → ReadsPart keys list (joined (part ∷ []))
one_part keys list cells part is one = subst (λ (l : List CellData). ReadsPart keys l (joined (part ∷ []))) (sym is) (subst (λ (l : List CellData). ReadsPart keys cells l) (sym (append-nil part)) one)

-- one list more, of which some lists more have the part
pub part_more : (keys : List ℕ → Type 0) (lists parts more : List (List CellData)) (list : List CellData) → ReadsPart keys (joined lists) (joined parts) → ReadsPart keys list (joined more)
    → ReadsPart keys (joined (lists ++ list ∷ [])) (joined (parts ++ more))
part_more keys lists parts more list before one =
    let whole : joined (lists ++ list ∷ []) ≡ joined lists ++ list = flat_map-append (λ (s : List CellData). s) lists (list ∷ []) ∙ ap (λ (l : List CellData). joined lists ++ l) (append-nil list) in
    let cut : joined (parts ++ more) ≡ joined parts ++ joined more = flat_map-append (λ (s : List CellData). s) parts more in
    subst (λ (l : List CellData). ReadsPart keys l (joined (parts ++ more))) (sym whole) (subst (λ (l : List CellData). ReadsPart keys (joined lists ++ list) l) (sym cut) (part_append keys (joined lists) (joined parts) list (joined more) before one))

-- ---- all

module _ (low : List ℕ) (high : Option (List ℕ)) (store older newer_rows older_rows : List CellData) (lists parts : List (List CellData)) where
  pub rows_of_all : AreRows store low high newer_rows → AreRows older low high older_rows → ReadsPart (IsWithin low high) (joined lists) (joined parts)
      → AreRows (settle (joined (store ∷ older ∷ lists))) low high (settle (joined (newer_rows ∷ older_rows ∷ parts)))
  rows_of_all newer old part =
      let keys = IsWithin low high in
      let below = part_append keys older older_rows (joined lists) (joined parts) old.exact part in
      let both = part_append keys store newer_rows (joined (older ∷ lists)) (joined (older_rows ∷ parts)) newer.exact below in
      let given = settle_is (joined (newer_rows ∷ older_rows ∷ parts)) in
      let whole = settle_is (joined (store ∷ older ∷ lists)) in
      record {
        ascending = given.ascending;
        exact = λ c. (
          λ r. (let z = (both c).0 ((given.same c).0 r) in ((whole.same c).1 z.0, z.1)),
          λ z. (given.same c).1 ((both c).1 ((whole.same c).0 z.0, z.1)),
        );
      }
