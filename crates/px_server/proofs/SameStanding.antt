-- What stands on the disk and what a run has of it go on alike.
use Rattle.std.proofs.Common.{◌≡◌, Bool, true, false, List, [], ◌∷◌, length, map, refl, sym, ap, ◌∙◌}
use Rattle.std.specs.Prelude.{filter, if◌then◌else◌, not, ◌==◌}
use Rattle.std.proofs.lemmas.List.{length-map}
use Rattle.px_tables.specs.declared.index.Index.{Index}
use Rattle.px_schema.specs.Stands.{above, index_draws, other_tables, put_index, put_table, stands_after, table_draws}
use Rattle.px_schema.specs.declared.item.CatalogItem.{CatalogItem}
use Rattle.px_schema.specs.declared.item.CatalogItem.TheVariants.{IndexGone, IndexIs, TableGone, TableIs}
use Rattle.px_schema.specs.declared.standing.Standing.{Standing}
use Rattle.px_standing.specs.Agrees.{as_opened, opened_standing}

put_opened : (xs : List Index) (y : Index) → map as_opened (put_index xs y) ≡ put_index (map as_opened xs) (as_opened y)
put_opened [] y = refl
put_opened (x ∷ xs) y = by (x.id.0 == y.id.0) (put_opened xs y)
  where
    by : (v : Bool) → map as_opened (put_index xs y) ≡ put_index (map as_opened xs) (as_opened y) → map as_opened (if v then y ∷ xs else x ∷ put_index xs y) ≡ (if v then as_opened y ∷ map as_opened xs else as_opened x ∷ put_index (map as_opened xs) (as_opened y))
    by true more = refl
    by false more = ap (λ l. as_opened x ∷ l) more

kept_opened : (keep : Index → Bool) → ((x : Index) → keep (as_opened x) ≡ keep x) → (xs : List Index) → map as_opened (filter keep xs) ≡ filter keep (map as_opened xs)
kept_opened keep same [] = refl
kept_opened keep same (x ∷ xs) = by (keep x) (kept_opened keep same xs) ∙ ap (λ v. if v then as_opened x ∷ filter keep (map as_opened xs) else filter keep (map as_opened xs)) (sym (same x))
  where
    by : (v : Bool) → map as_opened (filter keep xs) ≡ filter keep (map as_opened xs) → map as_opened (if v then x ∷ filter keep xs else filter keep xs) ≡ (if v then as_opened x ∷ filter keep (map as_opened xs) else filter keep (map as_opened xs))
    by true more = ap (λ l. as_opened x ∷ l) more
    by false more = more

-- a definition as a run that opens the folder has it
abbrev opened_item : CatalogItem → CatalogItem
opened_item (TableIs t) = TableIs t
opened_item (IndexIs i) = IndexIs (as_opened i)
opened_item (TableGone n) = TableGone n
opened_item (IndexGone n) = IndexGone n

after_opened : (s : Standing) (d : CatalogItem) → opened_standing (stands_after s d) ≡ stands_after (opened_standing s) (opened_item d)
after_opened s (TableIs t) = λ i. record { next = above s.next (table_draws t); tables = put_table s.tables t; indexes = kept_opened (λ (x : Index). not (x.table.0 == t.id.0)) (λ x. refl) s.indexes i }
after_opened s (IndexIs y) = λ i. record { next = above s.next (index_draws y); tables = s.tables; indexes = put_opened s.indexes y i }
after_opened s (TableGone n) = λ i. record { next = s.next; tables = other_tables n.0 s.tables; indexes = kept_opened (λ (x : Index). not (x.table.0 == n.0)) (λ x. refl) s.indexes i }
after_opened s (IndexGone n) = λ i. record { next = s.next; tables = s.tables; indexes = kept_opened (λ (x : Index). not (x.id.0 == n.0)) (λ x. refl) s.indexes i }

pub same_after : (stored standing : Standing) (d : CatalogItem) → opened_standing stored ≡ opened_standing standing → opened_standing (stands_after stored d) ≡ opened_standing (stands_after standing d)
same_after stored standing d same = after_opened stored d ∙ (ap (λ (s : Standing). stands_after s (opened_item d)) same ∙ sym (after_opened standing d))

-- as many indexes, of the same numbers
pub same_count : (stored standing : Standing) → opened_standing stored ≡ opened_standing standing → length stored.indexes ≡ length standing.indexes
same_count stored standing same = sym (length-map stored.indexes as_opened) ∙ (ap (λ (s : Standing). length s.indexes) same ∙ length-map standing.indexes as_opened)

numbers_opened : (xs : List Index) → map (λ (x : Index). x.id.0) (map as_opened xs) ≡ map (λ (x : Index). x.id.0) xs
numbers_opened [] = refl
numbers_opened (x ∷ xs) = ap (λ l. x.id.0 ∷ l) (numbers_opened xs)

pub same_numbers : (stored standing : Standing) → opened_standing stored ≡ opened_standing standing → map (λ (x : Index). x.id.0) stored.indexes ≡ map (λ (x : Index). x.id.0) standing.indexes
same_numbers stored standing same = sym (numbers_opened stored.indexes) ∙ (ap (λ (s : Standing). map (λ (x : Index). x.id.0) s.indexes) same ∙ numbers_opened standing.indexes)
