-- Cells of several rows, laid one behind the other.
use Rattle.std.proofs.Common.{◌≡◌, ℕ, ◌+◌, ◌<◌, Bool, true, false, List, [], ◌∷◌, ◌++◌, length, length-append, take, get_or, refl, ap, sym, ◌∙◌, subst, inl, inr, arith}
use Rattle.std.specs.List.{AllByRecursion}
use Rattle.std.proofs.lemmas.Grind.{flat_map-append}
use Rattle.std.proofs.lemmas.List.{take_more}
use Rattle.px_cells.specs.CellData.{CellData}
use Rattle.px_cells.specs.Among.{Has}
use Rattle.px_cells.specs.Order.{IsApart, Reads, SamePlace}
use Rattle.px_cells.proofs.Among.{all_has, has_all, has_append, has_left, has_right}
use Rattle.px_cellbytes.specs.Spelling.{all_bytes, cell_bytes}
use Rattle.px_cellbytes.proofs.Bytes.{all_bytes-push, length-cell_bytes}
use Rattle.px_keptcells.specs.Kept.{HaveOtherKeys, but, laid}

pub apart_left : (xs ys : List CellData) → IsApart (xs ++ ys) → IsApart xs
apart_left [] ys a = tt
apart_left (x ∷ xs) ys a = (has_all (λ d. SamePlace x d → ⊥) xs (λ d h. all_has (λ d. SamePlace x d → ⊥) (xs ++ ys) d a.0 (has_left xs ys d h)), apart_left xs ys a.1)

pub apart_right : (xs ys : List CellData) → IsApart (xs ++ ys) → IsApart ys
apart_right [] ys a = a
apart_right (x ∷ xs) ys a = apart_right xs ys a.1

pub apart_between : (xs ys : List CellData) → IsApart (xs ++ ys) → (c d : CellData) → Has xs c → Has ys d → SamePlace c d → ⊥
apart_between [] ys a c d h k s = absurd h
apart_between (x ∷ xs) ys a c d (inl e) k s = all_has (λ d. SamePlace x d → ⊥) (xs ++ ys) d a.0 (has_right xs ys d k) (subst (λ (z : CellData). SamePlace z d) (sym e) s)
apart_between (x ∷ xs) ys a c d (inr h) k s = apart_between xs ys a.1 c d h k s

pub apart_join : (xs ys : List CellData) → IsApart xs → IsApart ys → ((c d : CellData) → Has xs c → Has ys d → SamePlace c d → ⊥) → IsApart (xs ++ ys)
apart_join [] ys a b f = b
apart_join (x ∷ xs) ys a b f = (
  has_all (λ d. SamePlace x d → ⊥) (xs ++ ys) (λ d h. elim (has_append xs ys d h) [ inl p ↦ all_has (λ d. SamePlace x d → ⊥) xs d a.0 p | inr q ↦ f x d (inl refl) q ]),
  apart_join xs ys a.1 b (λ c d h k. f c d (inr h) k),
)

-- a cell that is there is read, where no two have one place
pub apart_reads : (cells : List CellData) (c : CellData) → IsApart cells → Has cells c → Reads cells c
apart_reads [] c a h = h
apart_reads (x ∷ cells) c a (inl e) = inl e
apart_reads (x ∷ cells) c a (inr h) = inr (all_has (λ d. SamePlace x d → ⊥) cells c a.0 h, apart_reads cells c a.1 h)

-- what isn't left out is there
pub but_has : (vs : List Bool) (parts : List (List CellData)) (c : CellData) → Has (laid (but vs parts)) c → Has (laid parts) c
but_has [] parts c h = h
but_has (v ∷ vs) [] c h = h
but_has (false ∷ vs) (p ∷ parts) c h = elim (has_append p (laid (but vs parts)) c h) [ inl a ↦ has_left p (laid parts) c a | inr b ↦ has_right p (laid parts) c (but_has vs parts c b) ]
but_has (true ∷ vs) (p ∷ parts) c h = has_right p (laid parts) c (but_has vs parts c h)

pub but_apart : (vs : List Bool) (parts : List (List CellData)) → IsApart (laid parts) → IsApart (laid (but vs parts))
but_apart [] parts a = a
but_apart (v ∷ vs) [] a = tt
but_apart (false ∷ vs) (p ∷ parts) a = apart_join p (laid (but vs parts)) (apart_left p (laid parts) a) (but_apart vs parts (apart_right p (laid parts) a)) (λ c d h k. apart_between p (laid parts) a c d h (but_has vs parts d k))
but_apart (true ∷ vs) (p ∷ parts) a = but_apart vs parts (apart_right p (laid parts) a)

-- the next row's cells are apart from those that are there
pub joined_apart : (cells part : List CellData) → IsApart cells → IsApart part → HaveOtherKeys cells part → IsApart (cells ++ part)
joined_apart cells part a b o = apart_join cells part a b (λ c d h k s. o.each c d h k s.key)

pub joined_all : (P : CellData → Type 0) (cells part : List CellData) → AllByRecursion P cells → AllByRecursion P part → AllByRecursion P (cells ++ part)
joined_all P cells part a b = has_all P (cells ++ part) (λ c h. elim (has_append cells part c h) [ inl p ↦ all_has P cells c a p | inr q ↦ all_has P part c b q ])

pub but_all : (P : CellData → Type 0) (vs : List Bool) (parts : List (List CellData)) → AllByRecursion P (laid parts) → AllByRecursion P (laid (but vs parts))
but_all P vs parts a = has_all P (laid (but vs parts)) (λ c h. all_has P (laid parts) c a (but_has vs parts c h))

-- one cell more
pub bytes_next : (cells : List CellData) (i : ℕ) (c : CellData) → i < length cells → c ≡ get_or cells i c → length (all_bytes (take (i + 1) cells)) ≡ length (all_bytes (take i cells)) + (14 + length c.key + length c.value)
bytes_next cells i c l is =
    let e : all_bytes (take (i + 1) cells) ≡ all_bytes (take i cells) ++ cell_bytes c =
    ap all_bytes (take_more cells i c l) ∙ (ap (λ (x : CellData). all_bytes (take i cells ++ x ∷ [])) (sym is) ∙ all_bytes-push (take i cells) c) in
    omega (arith, ap length e, length-append (all_bytes (take i cells)) (cell_bytes c), length-cell_bytes c)

pub all_bytes-append : (xs ys : List CellData) → length (all_bytes (xs ++ ys)) ≡ length (all_bytes xs) + length (all_bytes ys)
all_bytes-append xs ys = ap length (flat_map-append cell_bytes xs ys) ∙ length-append (all_bytes xs) (all_bytes ys)
