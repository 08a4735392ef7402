-- What stands after a definition, and the numbers that are drawn.
use Rattle.std.specs.Prelude.{◌≡◌, ◌<◌, ◌+◌, ◌==◌, ◌++◌, ◌∷◌, [], ℕ, not, if◌then◌else◌, max, nat_le, List, filter, map}
use Rattle.std.specs.List.{AllByRecursion}
use Rattle.px_tables.specs.declared.index.Index.{Index}
use Rattle.px_tables.specs.declared.table.Table.{Table}
use Rattle.px_schema.specs.declared.item.CatalogItem.{CatalogItem}
use Rattle.px_schema.specs.declared.item.CatalogItem.TheVariants.{IndexGone, IndexIs, TableGone, TableIs}
use Rattle.px_schema.specs.declared.standing.Standing.{Standing}

-- the numbers in a table and in an index that were drawn
abbrev pub table_draws : Table → List ℕ
table_draws t = map (λ r. r.number) t.regions ++ t.id.0 ∷ []

abbrev pub index_draws : Index → List ℕ
index_draws i = i.region ∷ i.id.0 ∷ []

-- the numbers in a definition that were drawn
abbrev pub drawn_by : CatalogItem → List ℕ
drawn_by (TableIs t) = table_draws t
drawn_by (IndexIs i) = index_draws i
drawn_by (TableGone n) = []
drawn_by (IndexGone n) = []

-- a later definition of the same number stands in the place of the earlier one
abbrev pub put_table : List Table → Table → List Table
put_table [] t = t ∷ []
put_table (x ∷ xs) t = if x.id.0 == t.id.0 then t ∷ xs else x ∷ put_table xs t

abbrev pub put_index : List Index → Index → List Index
put_index [] i = i ∷ []
put_index (x ∷ xs) i = if x.id.0 == i.id.0 then i ∷ xs else x ∷ put_index xs i

-- the least number that is above these, and not below n
abbrev pub above : ℕ → List ℕ → ℕ
above n [] = n
above n (k ∷ ks) = above (max n (k + 1)) ks

-- tables of other numbers, indexes of other tables, and indexes of other numbers
abbrev pub other_tables : ℕ → List Table → List Table
other_tables n tables = filter (λ t. not (t.id.0 == n)) tables

abbrev pub of_other_tables : ℕ → List Index → List Index
of_other_tables n indexes = filter (λ i. not (i.table.0 == n)) indexes

abbrev pub other_indexes : ℕ → List Index → List Index
other_indexes n indexes = filter (λ i. not (i.id.0 == n)) indexes

-- What stands after a definition. A table that is defined or dropped has no index.
abbrev pub stands_after : Standing → CatalogItem → Standing
stands_after s (TableIs t) = record { next = above s.next (table_draws t); tables = put_table s.tables t; indexes = of_other_tables t.id.0 s.indexes }
stands_after s (IndexIs i) = record { next = above s.next (index_draws i); tables = s.tables; indexes = put_index s.indexes i }
stands_after s (TableGone n) = record { next = s.next; tables = other_tables n.0 s.tables; indexes = of_other_tables n.0 s.indexes }
stands_after s (IndexGone n) = record { next = s.next; tables = s.tables; indexes = other_indexes n.0 s.indexes }

abbrev pub after_all : Standing → List CatalogItem → Standing
after_all s [] = s
after_all s (d ∷ ds) = after_all (stands_after s d) ds

-- every number of what stands is below the next one
pub record IsBelowNext (s : Standing) : Type 0 where
  pub tables : AllByRecursion (λ t. AllByRecursion (λ k. k < s.next) (table_draws t)) s.tables
  pub indexes : AllByRecursion (λ i. AllByRecursion (λ k. k < s.next) (index_draws i)) s.indexes

-- the numbers that a definition draws: those that no earlier one had
abbrev pub newly_drawn : Standing → CatalogItem → List ℕ
newly_drawn s d = filter (λ k. nat_le s.next k) (drawn_by d)

abbrev pub draws_all : Standing → List CatalogItem → List ℕ
draws_all s [] = []
draws_all s (d ∷ ds) = newly_drawn s d ++ draws_all (stands_after s d) ds

-- the numbers from this one on, without a gap
abbrev pub AreConsecutive : ℕ → List ℕ → Type 0
AreConsecutive n [] = Unit {0}
AreConsecutive n (k ∷ ks) = (k ≡ n) × AreConsecutive (n + 1) ks

-- each definition draws the next numbers
abbrev pub DrawInOrder : Standing → List CatalogItem → Type 0
DrawInOrder s [] = Unit {0}
DrawInOrder s (d ∷ ds) = AreConsecutive s.next (newly_drawn s d) × DrawInOrder (stands_after s d) ds
