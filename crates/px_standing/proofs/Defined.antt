-- What stands after a definition is what the trail tells.
use Rattle.std.proofs.Common.{◌≡◌, ◌≢◌, ◌<◌, ◌+◌, inl, inr, ℕ, Bool, Option, Some, None, List, [], ◌∷◌, length, refl, sym, ap, subst, ◌∙◌, arith}
use Rattle.std.specs.Prelude.{if◌then◌else◌, not, ◌==◌}
use Rattle.std.specs.List.{AllByRecursion}
use Rattle.std.proofs.lemmas.Bool.{cases_eq, eq-eqb, ne_eqb}
use Rattle.px_outside.specs.Parts.{AreDistinct}
use Rattle.px_values.specs.declared.name.IndexId.{IndexId}
use Rattle.px_values.specs.declared.name.TableId.{TableId}
use Rattle.px_tables.specs.declared.index.Index.{Index}
use Rattle.px_tables.specs.declared.index.IndexState.TheVariants.{Active}
use Rattle.px_tables.specs.declared.index.NewIndex.{NewIndex}
use Rattle.px_tables.specs.declared.table.NewTable.{NewTable}
use Rattle.px_tables.specs.declared.table.Table.{Table}
use Rattle.px_trail.specs.declared.entry.Act.TheVariants.{Made, IndexMade, IndexState, Dropped}
use Rattle.px_trail.specs.Trail.{Catalogue, IsCatalogue, catalogue_step, made_index, made_table, of_others, set_number, with_state}
use Rattle.px_trail.proofs.Standing.{set_number-other, set_number-same}
use Rattle.px_schema.specs.Stands.{put_index, put_table, stands_after}
use Rattle.px_schema.specs.declared.item.CatalogItem.TheVariants.{IndexGone, IndexIs, TableGone, TableIs}
use Rattle.px_schema.specs.declared.standing.Standing.{Standing}
use Rattle.px_schema.proofs.Numbers.{below_next, put_all_indexes, put_all_tables}
use Rattle.px_recovery.specs.Tables.{index_in, number_of_index}
use Rattle.px_recovery.proofs.Drops.{others_stay}
use Rattle.px_recovery.proofs.Fewer.{index_gone_here, index_gone_other}
use Rattle.px_recovery.proofs.Lookups.{index_of_others, index_later, table_dropped, table_kept, table_put_here, table_put_other}
use Rattle.px_recovery.proofs.Swaps.{put_here, put_other}
use Rattle.px_standing.specs.Agrees.{Agrees, AreRisingBy, number_of_table}
use Rattle.px_standing.proofs.Finder.{all_weaker, found_all, found_number, rising_kept}
use Rattle.px_standing.proofs.Looked.{index_finder, indexes_below, tables_below}
use Rattle.px_standing.proofs.Numbered.{above_drawn}

-- ---- numbers that rise

pub rising_apart : (xs : List Index) → AreRisingBy number_of_index xs → AreDistinct number_of_index xs
rising_apart [] up = tt
rising_apart (x ∷ xs) up = (all_weaker (λ y. number_of_index x < number_of_index y) (λ y. number_of_index y ≢ number_of_index x) (λ y l same. omega (arith, l, same)) xs up.0, rising_apart xs up.1)

table_put_later : (x y : Table) (xs : List Table) → x.id.0 ≢ y.id.0 → put_table (x ∷ xs) y ≡ x ∷ put_table xs y
table_put_later x y xs other = ap (λ (c : Bool). if c then y ∷ xs else x ∷ put_table xs y) (ne_eqb x.id.0 y.id.0 other)

index_put_later : (x y : Index) (xs : List Index) → x.id.0 ≢ y.id.0 → put_index (x ∷ xs) y ≡ x ∷ put_index xs y
index_put_later x y xs other = ap (λ (c : Bool). if c then y ∷ xs else x ∷ put_index xs y) (ne_eqb x.id.0 y.id.0 other)

index_put_here : (x y : Index) (xs : List Index) → x.id.0 ≡ y.id.0 → put_index (x ∷ xs) y ≡ y ∷ xs
index_put_here x y xs same = ap (λ (c : Bool). if c then y ∷ xs else x ∷ put_index xs y) (eq-eqb x.id.0 y.id.0 same)

-- one more, whose number is the greatest
table_added : (ts : List Table) (y : Table) → AreRisingBy number_of_table ts → AllByRecursion (λ x. number_of_table x < number_of_table y) ts → AreRisingBy number_of_table (put_table ts y)
table_added [] y up below = (tt, tt)
table_added (x ∷ xs) y up below =
    subst (λ (l : List Table). AreRisingBy number_of_table l) (sym (table_put_later x y xs (λ same. (let l = below.0 in omega (arith, l, same)))))
    (put_all_tables (λ z. number_of_table x < number_of_table z) xs y up.0 below.0, table_added xs y up.1 below.1)

index_added : (xs : List Index) (y : Index) → AreRisingBy number_of_index xs → AllByRecursion (λ x. number_of_index x < number_of_index y) xs → AreRisingBy number_of_index (put_index xs y)
index_added [] y up below = (tt, tt)
index_added (x ∷ xs) y up below =
    subst (λ (l : List Index). AreRisingBy number_of_index l) (sym (index_put_later x y xs (λ same. (let l = below.0 in omega (arith, l, same)))))
    (put_all_indexes (λ z. number_of_index x < number_of_index z) xs y up.0 below.0, index_added xs y up.1 below.1)

-- one in the place of that of its number
index_changed : (xs : List Index) (y z : Index) → AreRisingBy number_of_index xs → index_in xs y.id.0 ≡ Some z → AreRisingBy number_of_index (put_index xs y)
index_changed [] y z up found = (tt, tt)
index_changed (x ∷ xs) y z up found = elim (cases_eq x.id.0 y.id.0) [
  | inl e ↦ subst (λ (l : List Index). AreRisingBy number_of_index l) (sym (index_put_here x y xs e)) (subst (λ (n : ℕ). AllByRecursion (λ (w : Index). n < number_of_index w) xs) e up.0, up.1)
  | inr e ↦
      let later : index_in xs y.id.0 ≡ Some z = sym (index_later x xs y.id.0 e) ∙ found in
      let above : x.id.0 < y.id.0 = subst (λ (n : ℕ). x.id.0 < n) (found_number number_of_index index_in index_finder xs y.id.0 z later) (found_all number_of_index index_in index_finder (λ w. x.id.0 < number_of_index w) xs y.id.0 z up.0 later) in
      subst (λ (l : List Index). AreRisingBy number_of_index l) (sym (index_put_later x y xs e)) (put_all_indexes (λ w. number_of_index x < number_of_index w) xs y up.0 above, index_changed xs y z up.1 later)
]

-- ---- each definition

set_at : {A : Type 0} (n : ℕ) (v : A) (f : ℕ → A) (q : ℕ) → n ≡ q → set_number n v f q ≡ v
set_at n v f q same = subst (λ (m : ℕ). set_number n v f m ≡ v) same (set_number-same n v f)

module _ (s : Standing) (c : Catalogue) (k : Agrees s c) where
  -- a table is dropped
  pub table_gone : (t : TableId) → Agrees (stands_after s (TableGone t)) (catalogue_step c (Dropped t None))
  unfolding catalogue_step
  table_gone t = record {
    order = record {
      tables = rising_kept number_of_table (λ (x : Table). not (x.id.0 == t.0)) s.tables k.order.tables;
      indexes = rising_kept number_of_index (λ (x : Index). not (x.table.0 == t.0)) s.indexes k.order.indexes;
      below = below_next s (TableGone t) k.order.below;
    };
    next = k.next;
    tables = λ q. elim (cases_eq t.0 q) [
      | inl e ↦ table_dropped s.tables t.0 q e ∙ sym (set_at t.0 None c.tables q e)
      | inr e ↦ table_kept s.tables t.0 q e ∙ (k.tables q ∙ sym (set_number-other t.0 None c.tables q e))
    ];
    indexes = λ i. index_of_others t.0 s.indexes i (rising_apart s.indexes k.order.indexes) ∙ ap (of_others t.0) (k.indexes i);
  }

  -- an index is dropped
  pub index_gone : (t : TableId) (i : IndexId) → Agrees (stands_after s (IndexGone i)) (catalogue_step c (Dropped t (Some i)))
  unfolding catalogue_step
  index_gone t i = record {
    order = record {
      tables = k.order.tables;
      indexes = rising_kept number_of_index (λ (x : Index). not (x.id.0 == i.0)) s.indexes k.order.indexes;
      below = below_next s (IndexGone i) k.order.below;
    };
    next = k.next;
    tables = k.tables;
    indexes = λ q. elim (cases_eq i.0 q) [
      | inl e ↦ index_gone_here s.indexes i.0 q e ∙ sym (set_at i.0 None c.indexes q e)
      | inr e ↦ index_gone_other s.indexes i.0 q e ∙ (k.indexes q ∙ sym (set_number-other i.0 None c.indexes q e))
    ];
  }

  -- a table is made
  module _ (right : IsCatalogue c) (t : TableId) (what : NewTable) (number : t.0 ≡ s.next + length what.least_keys) where
    abbrev y : Table
    y = made_table s.next t what

    -- no index is of the table
    others_there : (i : ℕ) (o : Option Index) → c.indexes i ≡ o → of_others t.0 o ≡ o
    others_there i None at = refl
    others_there i (Some z) at =
        let w = right.owners i z at in
        let low = (right.tables z.table.0 w.0 w.1).1 in
        let n = k.next in
        others_stay t.0 z (λ same. omega (arith, low, n, number, same))

    below_it : AllByRecursion (λ x. number_of_table x < number_of_table y) s.tables
    below_it = all_weaker (λ x. number_of_table x < s.next) (λ x. number_of_table x < number_of_table y) (λ x l. omega (arith, l, number)) s.tables (tables_below s.next s.next s.tables refl k.order.below.tables)

    pub table_made : Agrees (stands_after s (TableIs y)) (catalogue_step c (Made t what))
    unfolding catalogue_step
    table_made = record {
      order = record {
        tables = table_added s.tables y k.order.tables below_it;
        indexes = rising_kept number_of_index (λ (x : Index). not (x.table.0 == t.0)) s.indexes k.order.indexes;
        below = below_next s (TableIs y) k.order.below;
      };
      next = (let a = above_drawn s.next s.next t.0 what.least_keys (omega arith) number in let n = k.next in a ∙ omega (arith, n));
      tables = λ q. elim (cases_eq t.0 q) [
        | inl e ↦ table_put_here s.tables y q e ∙ (ap (λ (n : ℕ). Some (made_table n t what)) k.next ∙ sym (set_at t.0 (Some (made_table c.next t what)) c.tables q e))
        | inr e ↦ table_put_other s.tables y q e ∙ (k.tables q ∙ sym (set_number-other t.0 (Some (made_table c.next t what)) c.tables q e))
      ];
      indexes = λ i. index_of_others t.0 s.indexes i (rising_apart s.indexes k.order.indexes) ∙ (ap (of_others t.0) (k.indexes i) ∙ others_there i (c.indexes i) refl);
    }

  -- an index is made
  module _ (t : TableId) (i : IndexId) (stamp : ℕ) (what : NewIndex) (number : i.0 ≡ s.next + 1) where
    abbrev x : Index
    x = made_index s.next i stamp what

    pub index_made : Agrees (stands_after s (IndexIs x)) (catalogue_step c (IndexMade t i stamp what))
    unfolding catalogue_step
    index_made = record {
      order = record {
        tables = k.order.tables;
        indexes = index_added s.indexes x k.order.indexes (all_weaker (λ z. number_of_index z < s.next) (λ z. number_of_index z < number_of_index x) (λ z l. omega (arith, l, number)) s.indexes (indexes_below s.next s.next s.indexes refl k.order.below.indexes));
        below = below_next s (IndexIs x) k.order.below;
      };
      next = (let n = k.next in omega (arith, n, number));
      tables = k.tables;
      indexes = λ q. elim (cases_eq i.0 q) [
        | inl e ↦ put_here x x refl refl s.indexes q e ∙ (ap (λ (n : ℕ). Some (made_index n i stamp what)) k.next ∙ sym (set_at i.0 (Some (made_index c.next i stamp what)) c.indexes q e))
        | inr e ↦ put_other x x refl refl s.indexes q e ∙ (k.indexes q ∙ sym (set_number-other i.0 (Some (made_index c.next i stamp what)) c.indexes q e))
      ];
    }

  -- an index is ready
  module _ (t : TableId) (i : IndexId) (stamp : ℕ) (x : Index) (found : index_in s.indexes i.0 ≡ Some x) where
    abbrev ready : Index
    ready = record x { state = Active }

    number_is : x.id.0 ≡ i.0
    number_is = found_number number_of_index index_in index_finder s.indexes i.0 x found

    low : AllByRecursion (λ (n : ℕ). n < s.next) (x.region ∷ x.id.0 ∷ [])
    low = found_all number_of_index index_in index_finder (λ (w : Index). AllByRecursion (λ (n : ℕ). n < s.next) (w.region ∷ w.id.0 ∷ [])) s.indexes i.0 x k.order.below.indexes found

    stays : (stands_after s (IndexIs ready)).next ≡ s.next
    stays = let a = low.0 in let d = low.1.0 in omega (arith, a, d)

    pub index_ready : Agrees (stands_after s (IndexIs ready)) (catalogue_step c (IndexState t i Active stamp))
    unfolding catalogue_step
    index_ready = record {
      order = record {
        tables = k.order.tables;
        indexes = index_changed s.indexes ready x k.order.indexes (ap (index_in s.indexes) number_is ∙ found);
        below = below_next s (IndexIs ready) k.order.below;
      };
      next = (let a = stays in let n = k.next in omega (arith, a, n));
      tables = k.tables;
      indexes = λ q. elim (cases_eq i.0 q) [
        | inl e ↦ put_here ready ready refl refl s.indexes q (number_is ∙ e) ∙ sym (set_at i.0 (with_state Active stamp c.next (c.indexes i.0)) c.indexes q e ∙ ap (with_state Active stamp c.next) (sym (k.indexes i.0) ∙ found))
        | inr e ↦ put_other ready ready refl refl s.indexes q (λ same. e (sym number_is ∙ same)) ∙ (k.indexes q ∙ sym (set_number-other i.0 (with_state Active stamp c.next (c.indexes i.0)) c.indexes q e))
      ];
    }
