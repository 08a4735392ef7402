-- What is read of some rows of several lists.
use Rattle.std.proofs.Common.{◌≡◌, ℕ, List, [], ◌∷◌, ◌++◌, sym, ap, subst, ◌∙◌, inl, inr}
use Rattle.std.specs.Borrow.{Bor}
use Rattle.std.proofs.lemmas.List.{append-nil, map-append}
use Rattle.std.proofs.lemmas.List.Concat.{flat_map-append}
use Rattle.px_cells.specs.CellData.{CellData}
use Rattle.px_cells.specs.Order.{IsAscending, ReadsSame, SamePlace}
use Rattle.px_cells.proofs.Among.{HasNone, all_has, has_all, has_from_reads, reads_append, reads_left, reads_right}
use Rattle.px_cells.proofs.Sights.{place_trans}
use Rattle.px_merge.specs.Merged.{AreSorted, IsMerged, joined, lent}
use Rattle.px_merge.proofs.Reading.{read_at}
use Rattle.px_merge.proofs.Sources.{settled_from_merged, sorted_push}
use Rattle.px_merge.specs.Parts.{ReadsPart}

module _ (keys : List ℕ → Type 0) where
  pub part_none : ReadsPart keys [] []
  part_none c = (λ r. absurd r, λ r. absurd r.0)

  none_in_whole : (xs rx : List CellData) (c : CellData) → ReadsPart keys xs rx → keys c.key → HasNone rx c → HasNone xs c
  none_in_whole xs rx c part wanted none = has_all (λ x. SamePlace x c → ⊥) xs (λ x has same.
      (let r = read_at xs x has in
      let at : SamePlace r.cell c = place_trans r.cell x c r.same same in
      all_has (λ x. SamePlace x c → ⊥) rx r.cell none (has_from_reads rx r.cell ((part r.cell).1 (r.read, subst keys (sym at.key) wanted))) at))

  none_in_part : (xs rx : List CellData) (c : CellData) → ReadsPart keys xs rx → HasNone xs c → HasNone rx c
  none_in_part xs rx c part none = has_all (λ x. SamePlace x c → ⊥) rx (λ x has same.
      (let r = read_at rx x has in
      all_has (λ x. SamePlace x c → ⊥) xs r.cell none (has_from_reads xs r.cell ((part r.cell).0 r.read).0) (place_trans r.cell x c r.same same)))

  pub part_append : (xs rx ys ry : List CellData) → ReadsPart keys xs rx → ReadsPart keys ys ry → ReadsPart keys (xs ++ ys) (rx ++ ry)
  part_append xs rx ys ry first second c = (
    λ r. elim (reads_append rx ry c r) [
      | inl a ↦ (let z = (first c).0 a in (reads_left xs ys c z.0, z.1))
      | inr b ↦ (let z = (second c).0 b.1 in (reads_right xs ys c (none_in_whole xs rx c first z.1 b.0) z.0, z.1))
    ],
    λ z. elim (reads_append xs ys c z.0) [
      | inl a ↦ reads_left rx ry c ((first c).1 (a, z.1))
      | inr b ↦ reads_right rx ry c (none_in_part xs rx c first b.0) ((second c).1 (b.1, z.1))
    ],
  )

  pub parts_more : (lists : List (List CellData)) (sources more : List (Bor (List CellData))) (list : List CellData) (part : Bor (List CellData)) → ReadsPart keys (joined lists) (joined (lent sources)) → more ≡ sources ++ part ∷ []
      → ReadsPart keys list part.now → ReadsPart keys (joined (lists ++ list ∷ [])) (joined (lent more))
  parts_more lists sources more list part before is one =
      let whole : joined (lists ++ list ∷ []) ≡ joined lists ++ list = flat_map-append (λ (s : List CellData). s) lists (list ∷ []) ∙ ap (λ (l : List CellData). joined lists ++ l) (append-nil list) in
      let cut : joined (lent more) ≡ joined (lent sources) ++ part.now =
      ap (λ (m : List (Bor (List CellData))). joined (lent m)) is ∙ ap joined (map-append (λ (s : Bor (List CellData)). s.now) sources (part ∷ []))
      ∙ flat_map-append (λ (s : List CellData). s) (lent sources) (part.now ∷ []) ∙ ap (λ (l : List CellData). joined (lent sources) ++ l) (append-nil part.now) in
      subst (λ (l : List CellData). ReadsPart keys l (joined (lent more))) (sym whole) (subst (λ (l : List CellData). ReadsPart keys (joined lists ++ list) l) (sym cut) (part_append (joined lists) (joined (lent sources)) list part.now before one))

  -- what is given of the wanted cells
  pub part_merged : (lists : List (List CellData)) (sources : List (Bor (List CellData))) (cells given : List CellData) → ReadsPart keys (joined lists) (joined (lent sources)) → ReadsSame (joined lists) cells → IsMerged (lent sources) given
      → IsAscending given × ReadsPart keys cells given
  part_merged lists sources cells given part same merged =
      let settled = settled_from_merged (lent sources) given merged in (
        settled.ascending,
        (λ c. (
          λ r. (let z = (part c).0 ((settled.same c).0 r) in ((same c).0 z.0, z.1)),
          λ z. (settled.same c).1 ((part c).1 ((same c).1 z.0, z.1)),
        )),
      )

pub sorted_more : (sources more : List (Bor (List CellData))) (part : Bor (List CellData)) → AreSorted (lent sources) → more ≡ sources ++ part ∷ [] → IsAscending part.now → AreSorted (lent more)
sorted_more sources more part sorted is one = subst (λ (l : List (Bor (List CellData))). AreSorted (lent l)) (sym is) (sorted_push sources part sorted one)
