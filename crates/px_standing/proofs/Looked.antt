-- Tables and indexes that are found by number or by name.
use Rattle.std.proofs.Common.{◌≡◌, ◌≢◌, ◌<◌, inl, inr, ℕ, None, Some, List, [], ◌∷◌, length, get_or, refl, sym, subst, ◌∙◌, arith}
use Rattle.std.specs.Prelude.{◌==◌, ◌↔◌}
use Rattle.std.specs.List.{AllByRecursion}
use Rattle.std.proofs.lemmas.Bool.{eq-eqb, eqb-true, ne_eqb}
use Rattle.px_tables.specs.declared.index.Index.{Index}
use Rattle.px_tables.specs.declared.table.Table.{Table}
use Rattle.px_trail.specs.Answers.{IsAmong}
use Rattle.px_trail.specs.declared.entry.Entry.{Entry}
use Rattle.px_trail.specs.Trail.{Base, Catalogue, IsFreeName, catalogue_of, index_of, table_of}
use Rattle.px_schema.specs.Stands.{index_draws, table_draws}
use Rattle.px_schema.specs.declared.standing.Standing.{Standing}
use Rattle.px_calls.specs.Calls.{AreRising, IsFound}
use Rattle.px_calls.specs.Causes.{HasName}
use Rattle.px_tables.specs.declared.found.Found.{Found}
use Rattle.px_recovery.specs.Tables.{index_in, indexes_of, number_of_index, table_in}
use Rattle.px_recovery.proofs.Lookups.{index_first, index_later}
use Rattle.px_standing.specs.Agrees.{Agrees, AreRisingBy, IsUnused, number_of_table}
use Rattle.px_standing.proofs.Finder.{IsFinder, among_found, each_among, found_all, found_among, found_none, from_kept, place_among, rising_kept, to_kept, all_weaker}
use Rattle.px_standing.proofs.Numbered.{all_last}
use Rattle.px_standing.proofs.SameNames.{named_or_not}

-- ---- the two finders

table_none : (n : ℕ) → table_in [] n ≡ None
unfolding table_in
table_none n = refl

table_first : (x : Table) (xs : List Table) (q : ℕ) → number_of_table x ≡ q → table_in (x ∷ xs) q ≡ Some x
unfolding table_in
table_first x xs q same = rw (eq-eqb x.id.0 q same) refl

table_later : (x : Table) (xs : List Table) (q : ℕ) → number_of_table x ≢ q → table_in (x ∷ xs) q ≡ table_in xs q
unfolding table_in
table_later x xs q other = rw (ne_eqb x.id.0 q other) refl

index_none_in : (n : ℕ) → index_in [] n ≡ None
unfolding index_in
index_none_in n = refl

pub table_finder : IsFinder number_of_table table_in
table_finder = record { none = table_none; first = table_first; later = table_later }

pub index_finder : IsFinder number_of_index index_in
index_finder = record { none = index_none_in; first = index_first; later = index_later }

pub as_rising : (xs : List Index) → AreRisingBy number_of_index xs → AreRising xs
unfolding AreRising
as_rising [] up = tt
as_rising (x ∷ xs) up = (up.0, as_rising xs up.1)

-- ---- numbers that were drawn

pub tables_below : (n m : ℕ) (ts : List Table) → (n ≡ m) → AllByRecursion (λ t. AllByRecursion (λ k. k < n) (table_draws t)) ts → AllByRecursion (λ t. number_of_table t < m) ts
tables_below n m ts same all = all_weaker (λ t. AllByRecursion (λ k. k < n) (table_draws t)) (λ t. number_of_table t < m) (λ t l. (let low = all_last (λ k. k < n) _ t.id.0 l in omega (arith, low, same))) ts all

pub indexes_below : (n m : ℕ) (xs : List Index) → (n ≡ m) → AllByRecursion (λ i. AllByRecursion (λ k. k < n) (index_draws i)) xs → AllByRecursion (λ i. number_of_index i < m) xs
indexes_below n m xs same all = all_weaker (λ i. AllByRecursion (λ k. k < n) (index_draws i)) (λ i. number_of_index i < m) (λ i l. (let low = l.1.0 in omega (arith, low, same))) xs all

-- ---- names

module _ (s : Standing) (c : Catalogue) (k : Agrees s c) (name : List ℕ) where
  unused_free : IsUnused s name → IsFreeName c name
  unused_free u = record {
    tables = λ t x is. found_all number_of_table table_in table_finder (λ y. y.name ≢ name) s.tables t x u.tables (k.tables t ∙ is);
    indexes = λ i x is. found_all number_of_index index_in index_finder (λ y. y.name ≢ name) s.indexes i x u.indexes (k.indexes i ∙ is);
  }

  free_unused : IsFreeName c name → IsUnused s name
  free_unused free = record {
    tables = each_among (λ y. y.name ≢ name) s.tables (λ x i. free.tables x.id.0 x (sym (k.tables x.id.0) ∙ among_found number_of_table table_in table_finder s.tables x k.order.tables i));
    indexes = each_among (λ y. y.name ≢ name) s.indexes (λ x i. free.indexes x.id.0 x (sym (k.indexes x.id.0) ∙ among_found number_of_index index_in index_finder s.indexes x k.order.indexes i));
  }

  pub free : IsUnused s name ↔ IsFreeName c name
  free = (unused_free, free_unused)

  pub taken : (IsUnused s name → ⊥) → HasName c name
  taken used = elim (named_or_not (λ (x : Table). x.name) name s.tables) [
    | inl t ↦ inl (t.0.id.0, t.0, sym (k.tables t.0.id.0) ∙ among_found number_of_table table_in table_finder s.tables t.0 k.order.tables t.1.0, t.1.1)
    | inr tables ↦ elim (named_or_not (λ (x : Index). x.name) name s.indexes) [
      | inl i ↦ inr (i.0.id.0, i.0, sym (k.indexes i.0.id.0) ∙ among_found number_of_index index_in index_finder s.indexes i.0 k.order.indexes i.1.0, i.1.1)
      | inr indexes ↦ absurd (used (record { tables = tables; indexes = indexes }))
    ]
  ]

-- ---- tables

module _ (b : Base) (es : List Entry) (s : Standing) (k : Agrees s (catalogue_of b es)) where
  pub stands_at : (place : ℕ) → place < length s.tables → (none : Table) → table_of b es (get_or s.tables place none).id.0 ≡ Some (get_or s.tables place none)
  stands_at place l none = sym (k.tables (get_or s.tables place none).id.0) ∙ among_found number_of_table table_in table_finder s.tables (get_or s.tables place none) k.order.tables (place_among s.tables place none l)

  pub unnamed : (name : List ℕ) → AllByRecursion (λ (t : Table). t.name ≢ name) s.tables → (t : ℕ) (x : Table) → table_of b es t ≡ Some x → x.name ≢ name
  unnamed name all t x is = found_all number_of_table table_in table_finder (λ y. y.name ≢ name) s.tables t x all (k.tables t ∙ is)

  pub lacks : (n : ℕ) → AllByRecursion (λ (t : Table). t.id.0 ≢ n) s.tables → table_of b es n ≡ None
  lacks n all = sym (k.tables n) ∙ found_none number_of_table table_in table_finder s.tables n all

  module _ (t : Table) (stood : table_of b es t.id.0 ≡ Some t) where
    its : (x : Index) → IsAmong x (indexes_of t.id.0 s.indexes) → (index_of b es x.id.0 ≡ Some x) × (x.table.0 ≡ t.id.0)
    its x i = (let m = from_kept (λ (y : Index). y.table.0 == t.id.0) s.indexes x i in (sym (k.indexes x.id.0) ∙ among_found number_of_index index_in index_finder s.indexes x k.order.indexes m.0, eqb-true x.table.0 t.id.0 m.1))

    all_its : (x : Index) → (index_of b es x.id.0 ≡ Some x) × (x.table.0 ≡ t.id.0) → IsAmong x (indexes_of t.id.0 s.indexes)
    all_its x is = to_kept (λ (y : Index). y.table.0 == t.id.0) s.indexes x (found_among number_of_index index_in index_finder s.indexes x.id.0 x (k.indexes x.id.0 ∙ is.0)) (eq-eqb x.table.0 t.id.0 is.1)

    pub found_here : IsFound b es (record { table = t; indexes = indexes_of t.id.0 s.indexes; at = length es })
    found_here = record {
      table = stood;
      drawn = (let low = found_all number_of_table table_in table_finder (λ x. number_of_table x < (catalogue_of b es).next) s.tables t.id.0 t (tables_below s.next (catalogue_of b es).next s.tables k.next k.order.below.tables) (k.tables t.id.0 ∙ stood) in low);
      indexes = λ x. (its x, all_its x);
      indexes_drawn = λ x i. found_all number_of_index index_in index_finder (λ y. number_of_index y < (catalogue_of b es).next) s.indexes x.id.0 x (indexes_below s.next (catalogue_of b es).next s.indexes k.next k.order.below.indexes) (k.indexes x.id.0 ∙ (its x i).0);
      rising = as_rising (indexes_of t.id.0 s.indexes) (rising_kept number_of_index (λ (y : Index). y.table.0 == t.id.0) s.indexes k.order.indexes);
      at = refl;
    }

pub found_at : (b : Base) (es : List Entry) (s : Standing) → Agrees s (catalogue_of b es) → (f : Found) → (place : ℕ) → place < length s.tables → ((none : Table) → f.table ≡ get_or s.tables place none) → f.indexes ≡ indexes_of f.table.id.0 s.indexes → f.at ≡ length es → IsFound b es f
found_at b es s k f place l table indexes at =
    let stood : table_of b es f.table.id.0 ≡ Some f.table = subst (λ (t : Table). table_of b es t.id.0 ≡ Some t) (sym (table f.table)) (stands_at b es s k place l f.table) in
    subst (λ (g : Found). IsFound b es g) (λ j. record { table = f.table; indexes = sym indexes j; at = sym at j }) (found_here b es s k f.table stood)
