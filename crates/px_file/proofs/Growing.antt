-- One more block behind those of a file.
use Rattle.std.proofs.Common.{◌≡◌, ℕ, ◌^◌, ◌<◌, List, [], ◌∷◌, ◌++◌, length, take, drop, refl, sym, ap, subst, ◌∙◌, arith, append_assoc, inl, inr}
use Rattle.std.specs.List.{AllByRecursion}
use Rattle.std.proofs.lemmas.List.{take-append-drop}
use Rattle.px_cells.specs.CellData.{CellData}
use Rattle.px_cells.specs.Among.{Has}
use Rattle.px_cells.specs.Order.{Below, GoesWith, IsAscending}
use Rattle.px_cells.proofs.Among.{all_has, ascending_join, ascending_left, before_is_below, has_right}
use Rattle.px_cells.proofs.Orders.{below_trans}
use Rattle.px_cells.proofs.Stamps.{has_push}
use Rattle.px_cellbytes.specs.Spelling.{IsShortEnough}
use Rattle.px_cellbytes.specs.Reading.{IsBare, IsInRange, IsWritten}
use Rattle.px_cellbytes.proofs.NextFaults.{last_of, last_same}
use Rattle.px_block.specs.Block.{IsBlock, IsBlockFull}
use Rattle.px_block.specs.Reading.{ComesAfter}
use Rattle.px_file.specs.Format.{AreBlocks, AreFull, cells_in}
use Rattle.px_file.specs.Format.AreFull.{some}
use Rattle.px_file.proofs.Blocks.{cells_push}

module _ {T : Type 0} (P : T → Type 0) where
  pub all_append : (xs ys : List T) → AllByRecursion P xs → AllByRecursion P ys → AllByRecursion P (xs ++ ys)
  all_append [] ys a b = b
  all_append (x ∷ xs) ys a b = (a.0, all_append xs ys a.1 b)

  pub all_left : (xs ys : List T) → AllByRecursion P (xs ++ ys) → AllByRecursion P xs
  all_left [] ys a = tt
  all_left (x ∷ xs) ys a = (a.0, all_left xs ys a.1)

-- ---- order

at_most_last : (xs : List CellData) (front : List CellData) (last m n : CellData) → IsAscending xs → xs ≡ front ++ last ∷ [] → Has xs m → Below last n → Below m n
at_most_last xs front last m n a is h b = elim (has_push front last m (subst (λ (l : List CellData). Has l m) is h)) [
  | inl before ↦ below_trans m last n (before_is_below front [] last m (subst IsAscending is a) before) b
  | inr e ↦ subst (λ (x : CellData). Below x n) e b
]

pub all_below : (xs ys : List CellData) → IsAscending xs → IsAscending ys → ComesAfter xs ys → (m n : CellData) → Has xs m → Has ys n → Below m n
all_below xs [] a b after m n h k = absurd k
all_below xs (c ∷ ys) a b after m n h k = elim (last_of xs) [
  | inl e ↦ absurd (let none : Has [] m = subst (λ (l : List CellData). Has l m) e h in none)
  | inr l ↦
      let first : Below m c = at_most_last xs l.front l.last m c a l.is h (after l.front l.last l.is c ys refl) in
      elim k [ inl e ↦ subst (λ (x : CellData). Below m x) e first | inr more ↦ below_trans m c n first (all_has (Below c) ys n b.0 more) ]
]

pub after_parts : (xs ys : List CellData) → IsAscending (xs ++ ys) → ComesAfter xs ys
after_parts xs ys a front last is c more e =
    let whole : IsAscending ((front ++ last ∷ []) ++ (c ∷ more)) = subst (λ (l : List CellData). IsAscending (l ++ (c ∷ more))) is (subst (λ (l : List CellData). IsAscending (xs ++ l)) e a) in
    before_is_below (front ++ last ∷ []) more c last whole (has_right front (last ∷ []) last (inl refl))

pub written_join : (xs ys : List CellData) → IsWritten xs → IsWritten ys → ComesAfter xs ys → IsWritten (xs ++ ys)
written_join xs ys v w after = record {
  listed = record {
    ascending = ascending_join xs ys v.listed.ascending w.listed.ascending (all_below xs ys v.listed.ascending w.listed.ascending after);
    placed = all_append GoesWith xs ys v.listed.placed w.listed.placed;
  };
  bare = all_append IsBare xs ys v.bare w.bare;
  short = all_append IsShortEnough xs ys v.short w.short;
  ranged = all_append IsInRange xs ys v.ranged w.ranged;
}

written_left : (xs ys : List CellData) → IsWritten (xs ++ ys) → IsWritten xs
written_left xs ys w = record {
  listed = record { ascending = ascending_left xs ys w.listed.ascending; placed = all_left GoesWith xs ys w.listed.placed };
  bare = all_left IsBare xs ys w.bare;
  short = all_left IsShortEnough xs ys w.short;
  ranged = all_left IsInRange xs ys w.ranged;
}

-- ---- the first cells of a list

pub written_take : (n : ℕ) (cells : List CellData) → IsWritten cells → IsWritten (take n cells)
written_take n cells w = written_left (take n cells) (drop n cells) (subst IsWritten (sym (take-append-drop n cells)) w)

pub after_take : (before : List CellData) (n : ℕ) (cells : List CellData) → ComesAfter before cells → ComesAfter before (take n cells)
after_take before n cells after = λ front last is c more e. after front last is c (more ++ drop n cells) (sym (take-append-drop n cells) ∙ ap (λ (l : List CellData). l ++ drop n cells) e)

-- ---- blocks

pub blocks_none : AreBlocks []
blocks_none = record { each = tt; full = Rattle.px_file.specs.Format.AreFull.none refl; written = record { listed = record { ascending = tt; placed = tt }; bare = tt; short = tt; ranged = tt }; few = omega arith }

pub blocks_more : (blocks : List (List CellData)) (b : List CellData) → AreBlocks blocks → AllByRecursion IsBlockFull blocks → IsBlock b → ComesAfter (cells_in blocks) b → length (blocks ++ b ∷ []) < 2 ^ 32 → AreBlocks (blocks ++ b ∷ [])
blocks_more blocks b right full is after few = record {
  each = all_append IsBlock blocks (b ∷ []) right.each (is, tt);
  full = some blocks b refl full;
  written = subst IsWritten (sym (cells_push blocks b)) (written_join (cells_in blocks) b right.written is.written after);
  few = few;
}

-- behind the last block is behind all
pub after_last : (front : List (List CellData)) (last b : List CellData) → IsBlock last → ComesAfter last b → ComesAfter (cells_in (front ++ last ∷ [])) b
after_last front last b is after = λ f l e c more s. (
    let ends : cells_in (front ++ last ∷ []) ≡ (cells_in front ++ is.closed.front) ++ is.closed.last ∷ [] =
    cells_push front last ∙ ap (λ (x : List CellData). cells_in front ++ x) is.closed.ends ∙ sym (append_assoc (cells_in front) is.closed.front (is.closed.last ∷ [])) in
    let same = last_same (cells_in front ++ is.closed.front) f is.closed.last l (sym ends ∙ e) in
    subst (λ (x : CellData). Below x c) same (after is.closed.front is.closed.last is.closed.ends c more s))
