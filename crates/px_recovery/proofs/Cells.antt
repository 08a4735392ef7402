-- Cells that are written to one region of a table.
use Rattle.std.proofs.Common.{◌≡◌, ◌≢◌, ◌⊎◌, inl, inr, ℕ, max, Option, Some, None, List, [], ◌∷◌, ◌++◌, map, refl, sym, ap, subst, ◌∙◌}
use Rattle.std.specs.Prelude.{nat_eq, ◌&&◌}
use Rattle.std.specs.Cmp.Lexicographic.{pointwise}
use Rattle.std.specs.List.{AllByRecursion}
use Rattle.std.proofs.lemmas.Slice.Eq.{bytes_eq-Decides}
use Rattle.std.proofs.lemmas.Bool.{and_parts, cases_Bool, cases_eq, cond-false}
use Rattle.px_outside.specs.Parts.{AreDistinct, HasNone, with_part}
use Rattle.px_outside.proofs.Parts.{with_part-here, with_part-other}
use Rattle.px_cells.specs.declared.kind.CellKind.{CellKind}
use Rattle.px_cells.specs.Kind.{code_of}
use Rattle.px_cells.specs.CellData.{CellData}
use Rattle.px_cells.specs.Contents.{Contents, or_else, over_contents, stands_at, value_at}
use Rattle.px_cells.proofs.Among.{all_has, has_all, has_from_reads, reads_from_has}
use Rattle.px_cells.proofs.Contents.{same_values, values_append}
use Rattle.px_merge.specs.Settle.{settle}
use Rattle.px_merge.proofs.Settling.{settle_is}
use Rattle.px_tables.specs.declared.index.Index.{Index}
use Rattle.px_tables.specs.declared.table.TableRegion.{TableRegion}
use Rattle.px_tablefolder.specs.Folder.{IndexFiles}
use Rattle.px_region.specs.Region.{RegionData, with_batch}
use Rattle.px_recovery.specs.Tables.{IsRegionAmong, cells_of_regions, horizon_in, index_files, is_active, number_of_region, region_of_index}

-- ---- what is settled

-- what a batch leaves is read as the batch over what was there
pub values_batch : (s : RegionData) (batch : List CellData) → value_at (with_batch s batch).cells ≡ over_contents (value_at batch) (value_at s.cells)
values_batch s batch = same_values (settle (batch ++ s.cells)) (batch ++ s.cells) (settle_is (batch ++ s.cells)).same ∙ values_append batch s.cells

all_append : (P : CellData → Type 0) (xs ys : List CellData) → AllByRecursion P xs → AllByRecursion P ys → AllByRecursion P (xs ++ ys)
all_append P [] ys a b = b
all_append P (x ∷ xs) ys a b = (a.0, all_append P xs ys a.1 b)

-- and has no cell besides
pub all_batch : (P : CellData → Type 0) (s : RegionData) (batch : List CellData) → AllByRecursion P batch → AllByRecursion P s.cells → AllByRecursion P (with_batch s batch).cells
all_batch P s batch a b =
    let is = settle_is (batch ++ s.cells) in
    has_all P (settle (batch ++ s.cells)) (λ c h. all_has P (batch ++ s.cells) c (all_append P batch s.cells a b) (has_from_reads (batch ++ s.cells) c ((is.same c).0 (reads_from_has (settle (batch ++ s.cells)) c is.ascending h))))

-- ---- cells of keys of one region

module _ (reg : List ℕ → ℕ) where
  abbrev Are : ℕ → List CellData → Type 0
  Are n cells = AllByRecursion (λ c. reg c.key ≡ n) cells

  -- nothing is read of them at a key of another
  none_there : (n : ℕ) (cells : List CellData) (k : List ℕ) (q s : ℕ) (d : CellKind) → Are n cells → (reg k ≡ n → ⊥) → value_at cells k q s d ≡ None
  unfolding value_at
  none_there n [] k q s d all other = refl
  none_there n (c ∷ cells) k q s d all other = elim (cases_Bool (stands_at k q s d c)) [
    | inl e ↦ absurd (other (ap reg (sym ((bytes_eq-Decides c.key k).0 (and_parts (pointwise nat_eq c.key k) (nat_eq c.qualifier q && (nat_eq c.stamp s && nat_eq (code_of c.kind) (code_of d))) e).0)) ∙ all.0))
    | inr e ↦ cond-false _ _ _ e ∙ none_there n cells k q s d all.1 other
  ]

  swap : (g b r : Option (List ℕ)) → (g ≡ None) ⊎ (b ≡ None) → or_else g (or_else b r) ≡ or_else b (or_else g r)
  swap g b r (inl e) = ap (λ (x : Option (List ℕ)). or_else x (or_else b r)) e ∙ ap (λ (x : Option (List ℕ)). or_else b (or_else x r)) (sym e)
  swap g b r (inr e) = ap (λ (x : Option (List ℕ)). or_else g (or_else x r)) e ∙ ap (λ (x : Option (List ℕ)). or_else x (or_else g r)) (sym e)

  over_swap : (m n : ℕ) (mine batch : List CellData) (rest : Contents) → (m ≡ n → ⊥) → Are m mine → Are n batch
      → over_contents (value_at mine) (over_contents (value_at batch) rest) ≡ over_contents (value_at batch) (over_contents (value_at mine) rest)
  over_swap m n mine batch rest apart a b = λ i k q s d. at k q s d i
    where
      at : (k : List ℕ) (q s : ℕ) (d : CellKind) → or_else (value_at mine k q s d) (or_else (value_at batch k q s d) (rest k q s d)) ≡ or_else (value_at batch k q s d) (or_else (value_at mine k q s d) (rest k q s d))
      at k q s d = swap (value_at mine k q s d) (value_at batch k q s d) (rest k q s d) (elim (cases_eq (reg k) n) [
        | inl is ↦ inl (none_there m mine k q s d a (λ here. apart (sym here ∙ is)))
        | inr not ↦ inr (none_there n batch k q s d b not)
      ])

or_assoc : (a b c : Option (List ℕ)) → or_else (or_else a b) c ≡ or_else a (or_else b c)
or_assoc None b c = refl
or_assoc (Some x) b c = refl

over_assoc : (f g h : Contents) → over_contents (over_contents f g) h ≡ over_contents f (over_contents g h)
over_assoc f g h = λ i k q s d. or_assoc (f k q s d) (g k q s d) (h k q s d) i

-- ---- a batch in one region of a table

pub not_one : (n : ℕ) (gs : List TableRegion) → HasNone number_of_region n gs → IsRegionAmong n gs → ⊥
not_one n [] none one = one
not_one n (g ∷ gs) none (inl is) = none.0 is
not_one n (g ∷ gs) none (inr one) = not_one n gs none.1 one

module _ (regions : ℕ → RegionData) (n : ℕ) (s : RegionData) where
  abbrev now : ℕ → RegionData
  now = with_part regions n s

  now_here : (m : ℕ) → m ≡ n → now m ≡ s
  now_here m is = subst (λ (k : ℕ). now k ≡ s) (sym is) (with_part-here regions n s)

  -- the regions of others stay
  pub cells_else : (gs : List TableRegion) → HasNone number_of_region n gs → cells_of_regions now gs ≡ cells_of_regions regions gs
  unfolding cells_of_regions
  cells_else [] none = refl
  cells_else (g ∷ gs) none = ap (λ (x : RegionData). x.cells ++ cells_of_regions now gs) (with_part-other regions n s g.number none.0) ∙ ap (λ (l : List CellData). (regions g.number).cells ++ l) (cells_else gs none.1)

  pub horizon_else : (gs : List TableRegion) → HasNone number_of_region n gs → horizon_in now gs ≡ horizon_in regions gs
  unfolding horizon_in
  horizon_else [] none = refl
  horizon_else (g ∷ gs) none = ap (λ (x : RegionData). max x.horizon (horizon_in now gs)) (with_part-other regions n s g.number none.0) ∙ ap (λ (h : ℕ). max (regions g.number).horizon h) (horizon_else gs none.1)

  pub indexes_else : (is : List Index) → HasNone region_of_index n is → map (index_files now) is ≡ map (index_files regions) is
  indexes_else [] none = refl
  indexes_else (i ∷ is) none =
      ap (λ (x : RegionData). record { id = i.id.0; cells = x.cells; birth = i.birth; horizon = x.horizon; is_active = is_active i.state } ∷ map (index_files now) is) (with_part-other regions n s i.region none.0)
      ∙ ap (λ (l : List IndexFiles). index_files regions i ∷ l) (indexes_else is none.1)

  -- the horizon stays
  module _ (same : s.horizon ≡ (regions n).horizon) where
    pub horizon_at : (m : ℕ) → (now m).horizon ≡ (regions m).horizon
    horizon_at m = elim (cases_eq m n) [
      | inl is ↦ ap (λ (x : RegionData). x.horizon) (now_here m is) ∙ (same ∙ ap (λ (k : ℕ). (regions k).horizon) (sym is))
      | inr not ↦ ap (λ (x : RegionData). x.horizon) (with_part-other regions n s m not)
    ]

    pub horizon_same : (gs : List TableRegion) → horizon_in now gs ≡ horizon_in regions gs
    unfolding horizon_in
    horizon_same [] = refl
    horizon_same (g ∷ gs) = ap (λ (h : ℕ). max h (horizon_in now gs)) (horizon_at g.number) ∙ ap (λ (h : ℕ). max (regions g.number).horizon h) (horizon_same gs)

  -- the cells are those of the batch over what there was
  module _ (reg : List ℕ → ℕ) (batch : List CellData) (reads : value_at s.cells ≡ over_contents (value_at batch) (value_at (regions n).cells)) (mine : AllByRecursion (λ c. reg c.key ≡ n) batch) where
    pub cells_written : (gs : List TableRegion) → IsRegionAmong n gs → AreDistinct number_of_region gs → AllByRecursion (λ g. AllByRecursion (λ c. reg c.key ≡ g.number) (regions g.number).cells) gs
        → value_at (cells_of_regions now gs) ≡ over_contents (value_at batch) (value_at (cells_of_regions regions gs))
    unfolding cells_of_regions
    cells_written [] one distinct placed = absurd one
    cells_written (g ∷ gs) (inl is) distinct placed =
        let rest : cells_of_regions now gs ≡ cells_of_regions regions gs = cells_else gs (subst (λ (k : ℕ). HasNone number_of_region k gs) is distinct.0) in
        let first : value_at (now g.number).cells ≡ over_contents (value_at batch) (value_at (regions g.number).cells) =
        ap (λ (x : RegionData). value_at x.cells) (now_here g.number is) ∙ (reads ∙ ap (λ (k : ℕ). over_contents (value_at batch) (value_at (regions k).cells)) (sym is)) in
        values_append (now g.number).cells (cells_of_regions now gs)
        ∙ (ap (λ (c : Contents). over_contents c (value_at (cells_of_regions now gs))) first
        ∙ (ap (λ (l : List CellData). over_contents (over_contents (value_at batch) (value_at (regions g.number).cells)) (value_at l)) rest
        ∙ (over_assoc (value_at batch) (value_at (regions g.number).cells) (value_at (cells_of_regions regions gs))
        ∙ ap (λ (c : Contents). over_contents (value_at batch) c) (sym (values_append (regions g.number).cells (cells_of_regions regions gs))))))
    cells_written (g ∷ gs) (inr one) distinct placed =
        let other : g.number ≢ n = (λ is. not_one n gs (subst (λ (k : ℕ). HasNone number_of_region k gs) is distinct.0) one) in
        values_append (now g.number).cells (cells_of_regions now gs)
        ∙ (ap (λ (x : RegionData). over_contents (value_at x.cells) (value_at (cells_of_regions now gs))) (with_part-other regions n s g.number other)
        ∙ (ap (λ (c : Contents). over_contents (value_at (regions g.number).cells) c) (cells_written gs one distinct.1 placed.1)
        ∙ (over_swap reg g.number n (regions g.number).cells batch (value_at (cells_of_regions regions gs)) other placed.0 mine
        ∙ ap (λ (c : Contents). over_contents (value_at batch) c) (sym (values_append (regions g.number).cells (cells_of_regions regions gs))))))
