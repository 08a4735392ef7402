-- Which regions are named after a definition: those that were, and its own.
use Rattle.std.proofs.Common.{◌≡◌, ◌⊎◌, inl, inr, ℕ, Bool, true, false, cond, eqb, ◌||◌, List, [], ◌∷◌, ◌++◌, map, refl, sym, ◌∙◌}
use Rattle.std.specs.Prelude.{filter, nat_eq}
use Rattle.std.specs.List.{flat_map, list_any}
use Rattle.std.proofs.lemmas.List.Folds.{list_any-append}
use Rattle.px_tables.specs.declared.index.Index.{Index}
use Rattle.px_tables.specs.declared.table.Table.{Table}
use Rattle.px_trail.proofs.Orders.{or_true}
use Rattle.px_schema.specs.Stands.{put_index, put_table, stands_after}
use Rattle.px_schema.specs.declared.item.CatalogItem.{CatalogItem}
use Rattle.px_schema.specs.declared.item.CatalogItem.TheVariants.{IndexGone, IndexIs, TableGone, TableIs}
use Rattle.px_schema.specs.declared.standing.Standing.{Standing}
use Rattle.px_recovery.specs.Folder.{IsNumberAmong, region_numbers, regions_of}

-- the regions of a definition
abbrev pub regions_in : CatalogItem → List ℕ
regions_in (TableIs t) = regions_of t
regions_in (IndexIs i) = i.region ∷ []
regions_in (TableGone n) = []
regions_in (IndexGone n) = []

either : (v w : Bool) → (v || w) ≡ true → (v ≡ true) ⊎ (w ≡ true)
either true w is = inl refl
either false w is = inr is

left_true : (v w : Bool) → v ≡ true → (v || w) ≡ true
left_true true w is = refl
left_true false w is = absurd cc

module _ (n : ℕ) where
  among_parts : (xs ys : List ℕ) → IsNumberAmong n (xs ++ ys) → IsNumberAmong n xs ⊎ IsNumberAmong n ys
  among_parts xs ys is = either (list_any (λ m. nat_eq m n) xs) (list_any (λ m. nat_eq m n) ys) (sym (list_any-append (λ m. nat_eq m n) xs ys) ∙ is)

  pub among_left : (xs ys : List ℕ) → IsNumberAmong n xs → IsNumberAmong n (xs ++ ys)
  among_left xs ys is = list_any-append (λ m. nat_eq m n) xs ys ∙ left_true (list_any (λ m. nat_eq m n) xs) (list_any (λ m. nat_eq m n) ys) is

  pub among_right : (xs ys : List ℕ) → IsNumberAmong n ys → IsNumberAmong n (xs ++ ys)
  among_right xs ys is = list_any-append (λ m. nat_eq m n) xs ys ∙ or_true (list_any (λ m. nat_eq m n) xs) (list_any (λ m. nat_eq m n) ys) is

  -- one more table, or another one in its place
  rows_put : (ts : List Table) (t : Table) → IsNumberAmong n (flat_map regions_of (put_table ts t)) → IsNumberAmong n (flat_map regions_of ts) ⊎ IsNumberAmong n (regions_of t)
  rows_put [] t is = elim (among_parts (regions_of t) [] is) [ inl own ↦ inr own | inr none ↦ absurd cc ]
  rows_put (x ∷ ts) t is = by (eqb x.id.0 t.id.0) (rows_put ts t) is
    where
      by : (same : Bool) → (IsNumberAmong n (flat_map regions_of (put_table ts t)) → IsNumberAmong n (flat_map regions_of ts) ⊎ IsNumberAmong n (regions_of t)) → IsNumberAmong n (flat_map regions_of (cond same (t ∷ ts) (x ∷ put_table ts t))) → IsNumberAmong n (flat_map regions_of (x ∷ ts)) ⊎ IsNumberAmong n (regions_of t)
      by true rest it = elim (among_parts (regions_of t) (flat_map regions_of ts) it) [
        | inl own ↦ inr own
        | inr old ↦ inl (among_right (regions_of x) (flat_map regions_of ts) old)
      ]
      by false rest it = elim (among_parts (regions_of x) (flat_map regions_of (put_table ts t)) it) [
        | inl first ↦ inl (among_left (regions_of x) (flat_map regions_of ts) first)
        | inr more ↦ elim (rest more) [
          | inl old ↦ inl (among_right (regions_of x) (flat_map regions_of ts) old)
          | inr own ↦ inr own
        ]
      ]

  rows_less : (keep : Table → Bool) (ts : List Table) → IsNumberAmong n (flat_map regions_of (filter keep ts)) → IsNumberAmong n (flat_map regions_of ts)
  rows_less keep [] is = is
  rows_less keep (x ∷ ts) is = by (keep x) (rows_less keep ts) is
    where
      by : (kept : Bool) → (IsNumberAmong n (flat_map regions_of (filter keep ts)) → IsNumberAmong n (flat_map regions_of ts)) → IsNumberAmong n (flat_map regions_of (cond kept (x ∷ filter keep ts) (filter keep ts))) → IsNumberAmong n (flat_map regions_of (x ∷ ts))
      by true rest it = elim (among_parts (regions_of x) (flat_map regions_of (filter keep ts)) it) [
        | inl first ↦ among_left (regions_of x) (flat_map regions_of ts) first
        | inr more ↦ among_right (regions_of x) (flat_map regions_of ts) (rest more)
      ]
      by false rest it = among_right (regions_of x) (flat_map regions_of ts) (rest it)

  abbrev of_indexes : List Index → List ℕ
  of_indexes is = map (λ (i : Index). i.region) is

  indexes_put : (xs : List Index) (y : Index) → IsNumberAmong n (of_indexes (put_index xs y)) → IsNumberAmong n (of_indexes xs) ⊎ IsNumberAmong n (y.region ∷ [])
  indexes_put [] y is = inr is
  indexes_put (x ∷ xs) y is = by (eqb x.id.0 y.id.0) (indexes_put xs y) is
    where
      by : (same : Bool) → (IsNumberAmong n (of_indexes (put_index xs y)) → IsNumberAmong n (of_indexes xs) ⊎ IsNumberAmong n (y.region ∷ [])) → IsNumberAmong n (of_indexes (cond same (y ∷ xs) (x ∷ put_index xs y))) → IsNumberAmong n (of_indexes (x ∷ xs)) ⊎ IsNumberAmong n (y.region ∷ [])
      by true rest it = elim (among_parts (y.region ∷ []) (of_indexes xs) it) [
        | inl own ↦ inr own
        | inr old ↦ inl (among_right (x.region ∷ []) (of_indexes xs) old)
      ]
      by false rest it = elim (among_parts (x.region ∷ []) (of_indexes (put_index xs y)) it) [
        | inl first ↦ inl (among_left (x.region ∷ []) (of_indexes xs) first)
        | inr more ↦ elim (rest more) [
          | inl old ↦ inl (among_right (x.region ∷ []) (of_indexes xs) old)
          | inr own ↦ inr own
        ]
      ]

  indexes_less : (keep : Index → Bool) (xs : List Index) → IsNumberAmong n (of_indexes (filter keep xs)) → IsNumberAmong n (of_indexes xs)
  indexes_less keep [] is = is
  indexes_less keep (x ∷ xs) is = by (keep x) (indexes_less keep xs) is
    where
      by : (kept : Bool) → (IsNumberAmong n (of_indexes (filter keep xs)) → IsNumberAmong n (of_indexes xs)) → IsNumberAmong n (of_indexes (cond kept (x ∷ filter keep xs) (filter keep xs))) → IsNumberAmong n (of_indexes (x ∷ xs))
      by true rest it = elim (among_parts (x.region ∷ []) (of_indexes (filter keep xs)) it) [
        | inl first ↦ among_left (x.region ∷ []) (of_indexes xs) first
        | inr more ↦ among_right (x.region ∷ []) (of_indexes xs) (rest more)
      ]
      by false rest it = among_right (x.region ∷ []) (of_indexes xs) (rest it)

  module _ (s : Standing) where
    from_rows : (ts : List Table) (xs : List Index) → (IsNumberAmong n (flat_map regions_of ts) → IsNumberAmong n (flat_map regions_of s.tables)) → (IsNumberAmong n (of_indexes xs) → IsNumberAmong n (of_indexes s.indexes)) → IsNumberAmong n (flat_map regions_of ts ++ of_indexes xs) → IsNumberAmong n (region_numbers s)
    from_rows ts xs rows indexes is = elim (among_parts (flat_map regions_of ts) (of_indexes xs) is) [
      | inl a ↦ among_left (flat_map regions_of s.tables) (of_indexes s.indexes) (rows a)
      | inr z ↦ among_right (flat_map regions_of s.tables) (of_indexes s.indexes) (indexes z)
    ]

    pub named_after : (item : CatalogItem) → IsNumberAmong n (region_numbers (stands_after s item)) → IsNumberAmong n (region_numbers s) ⊎ IsNumberAmong n (regions_in item)
    named_after (TableIs t) is = elim (among_parts (flat_map regions_of (put_table s.tables t)) (of_indexes (stands_after s (TableIs t)).indexes) is) [
      | inl a ↦ elim (rows_put s.tables t a) [
        | inl old ↦ inl (among_left (flat_map regions_of s.tables) (of_indexes s.indexes) old)
        | inr own ↦ inr own
      ]
      | inr z ↦ inl (among_right (flat_map regions_of s.tables) (of_indexes s.indexes) (indexes_less _ s.indexes z))
    ]
    named_after (IndexIs i) is = elim (among_parts (flat_map regions_of s.tables) (of_indexes (put_index s.indexes i)) is) [
      | inl a ↦ inl (among_left (flat_map regions_of s.tables) (of_indexes s.indexes) a)
      | inr z ↦ elim (indexes_put s.indexes i z) [
        | inl old ↦ inl (among_right (flat_map regions_of s.tables) (of_indexes s.indexes) old)
        | inr own ↦ inr own
      ]
    ]
    named_after (TableGone t) is = inl (from_rows (stands_after s (TableGone t)).tables (stands_after s (TableGone t)).indexes (rows_less _ s.tables) (indexes_less _ s.indexes) is)
    named_after (IndexGone i) is = inl (from_rows s.tables (stands_after s (IndexGone i)).indexes (λ a. a) (indexes_less _ s.indexes) is)
