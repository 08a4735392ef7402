-- How many tables and indexes stand, and whether the numbers run out.
use Rattle.std.proofs.Common.{◌≡◌, ◌<◌, ℕ, Bool, Option, None, Some, length, refl, sym, ap, ◌∙◌, arith}
use Rattle.std.specs.Prelude.{◌==◌}
use Rattle.px_tables.specs.declared.index.Index.{Index}
use Rattle.px_trail.specs.Trail.{catalogue_of}
use Rattle.px_schema.specs.Counts.{HasNumbers}
use Rattle.px_schema.specs.declared.standing.Standing.{Standing}
use Rattle.px_schema.proofs.Numbers.{filter_all}
use Rattle.px_calls.specs.Causes as causes
use Rattle.px_calls.specs.Causes.{RunsOut, count_below, tables_of}
use Rattle.px_calls.specs.Known.{Known}
use Rattle.px_recovery.specs.Tables.{index_in, indexes_of, number_of_index, table_in}
use Rattle.px_standing.specs.Agrees.{Agrees, number_of_table}
use Rattle.px_standing.proofs.Finder.{counted_found, counted_same, found_kept, if_kept, rising_kept}
use Rattle.px_standing.proofs.Looked.{index_finder, indexes_below, table_finder, tables_below}

module _ (k : Known) (s : Standing) (agrees : Agrees s (catalogue_of k.base k.seen)) where
  pub tables_counted : tables_of k ≡ length s.tables
  tables_counted =
      counted_same (catalogue_of k.base k.seen).tables (table_in s.tables) (λ m. sym (agrees.tables m)) (catalogue_of k.base k.seen).next
      ∙ counted_found number_of_table table_in table_finder s.tables agrees.order.tables (catalogue_of k.base k.seen).next (tables_below s.next (catalogue_of k.base k.seen).next s.tables agrees.next agrees.order.below.tables)

  module _ (t : ℕ) where
    abbrev mine : Index → Bool
    mine i = i.table.0 == t

    own : (o : Option Index) → causes.of_table t o ≡ if_kept mine o
    own None = refl
    own (Some x) = refl

    pub indexes_counted : causes.index_count k t ≡ length (indexes_of t s.indexes)
    indexes_counted =
        counted_same (λ i. causes.of_table t ((catalogue_of k.base k.seen).indexes i)) (index_in (indexes_of t s.indexes))
        (λ m. ap (causes.of_table t) (sym (agrees.indexes m)) ∙ (own (index_in s.indexes m) ∙ sym (found_kept number_of_index index_in index_finder mine s.indexes m agrees.order.indexes)))
        (catalogue_of k.base k.seen).next
        ∙ counted_found number_of_index index_in index_finder (indexes_of t s.indexes) (rising_kept number_of_index mine s.indexes agrees.order.indexes) (catalogue_of k.base k.seen).next
        (filter_all (λ (i : Index). number_of_index i < (catalogue_of k.base k.seen).next) mine s.indexes (indexes_below s.next (catalogue_of k.base k.seen).next s.indexes agrees.next agrees.order.below.indexes))

  pub runs_out : (count : ℕ) → (HasNumbers s count → ⊥) → RunsOut k count
  runs_out count past = (let n = agrees.next in omega (arith, n, past))
