-- What stands where an index is disabled or built again is what the trail tells.
use Rattle.std.proofs.Common.{◌≡◌, ◌<◌, ◌+◌, inl, inr, ℕ, Some, List, [], ◌∷◌, refl, sym, ap, subst, ◌∙◌, arith}
use Rattle.std.specs.List.{AllByRecursion}
use Rattle.std.proofs.lemmas.Bool.{cases_eq}
use Rattle.px_values.specs.declared.name.IndexId.{IndexId}
use Rattle.px_values.specs.declared.name.TableId.{TableId}
use Rattle.px_tables.specs.declared.index.Index.{Index}
use Rattle.px_tables.specs.declared.index.IndexState.{IndexState as BuildState}
use Rattle.px_tables.specs.declared.index.IndexState.TheVariants.{Building, Disabled}
use Rattle.px_trail.specs.declared.entry.Act.TheVariants.{IndexState}
use Rattle.px_trail.specs.Trail.{Catalogue, catalogue_step, numbers_for, set_number, with_state}
use Rattle.px_trail.proofs.Standing.{set_number-other, set_number-same}
use Rattle.px_schema.specs.Stands.{stands_after}
use Rattle.px_schema.specs.declared.item.CatalogItem.TheVariants.{IndexIs}
use Rattle.px_schema.specs.declared.standing.Standing.{Standing}
use Rattle.px_schema.proofs.Numbers.{below_next}
use Rattle.px_recovery.specs.Tables.{index_in, number_of_index}
use Rattle.px_recovery.proofs.Swaps.{AreSwapped, IsSwapped, put_here, put_other, put_swapped}
use Rattle.px_standing.specs.Agrees.{Agrees, AreRisingBy}
use Rattle.px_standing.proofs.Defined.{rising_apart}
use Rattle.px_standing.proofs.Finder.{found_all, found_number}
use Rattle.px_standing.proofs.Looked.{index_finder}
use Rattle.px_disabled.specs.Disabled.{disabled, rebuilt}

-- ---- numbers that rise, where one index stands for another of its number

module _ (z y : Index) (same : z.id.0 ≡ y.id.0) (table : z.table.0 ≡ y.table.0) where
  same_number : (a c : Index) → IsSwapped z y same table a c → number_of_index c ≡ number_of_index a
  same_number a c (inl k) = ap number_of_index k.0
  same_number a c (inr k) = ap number_of_index k.1 ∙ (sym same ∙ sym (ap number_of_index k.0))

  all_swapped : (P : ℕ → Type 0) (ls cs : List Index) → AreSwapped z y same table ls cs → AllByRecursion (λ (x : Index). P (number_of_index x)) ls → AllByRecursion (λ (x : Index). P (number_of_index x)) cs
  all_swapped P [] [] s all = tt
  all_swapped P [] (c ∷ cs) s all = absurd s
  all_swapped P (a ∷ ls) [] s all = absurd s
  all_swapped P (a ∷ ls) (c ∷ cs) s all = (subst P (sym (same_number a c s.0)) all.0, all_swapped P ls cs s.1 all.1)

  rising_swapped : (ls cs : List Index) → AreSwapped z y same table ls cs → AreRisingBy number_of_index ls → AreRisingBy number_of_index cs
  rising_swapped [] [] s up = tt
  rising_swapped [] (c ∷ cs) s up = absurd s
  rising_swapped (a ∷ ls) [] s up = absurd s
  rising_swapped (a ∷ ls) (c ∷ cs) s up =
      (subst (λ (n : ℕ). AllByRecursion (λ (x : Index). n < number_of_index x) cs) (sym (same_number a c s.0)) (all_swapped (λ m. number_of_index a < m) ls cs s.1 up.0), rising_swapped ls cs s.1 up.1)

-- ---- what stands then

module _ (s : Standing) (c : Catalogue) (k : Agrees s c) (t : TableId) (i : IndexId) (stamp : ℕ) (x : Index) (found : index_in s.indexes i.0 ≡ Some x) where
  number : x.id.0 ≡ i.0
  number = found_number number_of_index index_in index_finder s.indexes i.0 x found

  low : AllByRecursion (λ (n : ℕ). n < s.next) (x.region ∷ x.id.0 ∷ [])
  low = found_all number_of_index index_in index_finder (λ (w : Index). AllByRecursion (λ (n : ℕ). n < s.next) (w.region ∷ w.id.0 ∷ [])) s.indexes i.0 x k.order.below.indexes found

  -- the index in this state
  module _ (state : BuildState) (y : Index) (same : x.id.0 ≡ y.id.0) (table : x.table.0 ≡ y.table.0) (is : with_state state stamp c.next (Some x) ≡ Some y) (next : (stands_after s (IndexIs y)).next ≡ s.next + numbers_for state) where
    put : AreSwapped x y same table s.indexes (stands_after s (IndexIs y)).indexes
    put = put_swapped x y same table s.indexes (ap (index_in s.indexes) (sym same ∙ number) ∙ found) (rising_apart s.indexes k.order.indexes)

    told : with_state state stamp c.next (c.indexes i.0) ≡ Some y
    told = ap (with_state state stamp c.next) (sym (k.indexes i.0) ∙ found) ∙ is

    at : (q : ℕ) → i.0 ≡ q → set_number i.0 (with_state state stamp c.next (c.indexes i.0)) c.indexes q ≡ with_state state stamp c.next (c.indexes i.0)
    at q same = subst (λ (m : ℕ). set_number i.0 (with_state state stamp c.next (c.indexes i.0)) c.indexes m ≡ with_state state stamp c.next (c.indexes i.0)) same (set_number-same i.0 (with_state state stamp c.next (c.indexes i.0)) c.indexes)

    in_state : Agrees (stands_after s (IndexIs y)) (catalogue_step c (IndexState t i state stamp))
    unfolding catalogue_step
    in_state = record {
      order = record {
        tables = k.order.tables;
        indexes = rising_swapped x y same table s.indexes (stands_after s (IndexIs y)).indexes put k.order.indexes;
        below = below_next s (IndexIs y) k.order.below;
      };
      next = next ∙ ap (λ (n : ℕ). n + numbers_for state) k.next;
      tables = k.tables;
      indexes = λ q. elim (cases_eq i.0 q) [
        | inl e ↦ put_here x y same table s.indexes q (sym same ∙ (number ∙ e)) ∙ sym (at q e ∙ told)
        | inr e ↦ put_other x y same table s.indexes q (λ is. e (sym number ∙ (same ∙ is))) ∙ (k.indexes q ∙ sym (set_number-other i.0 (with_state state stamp c.next (c.indexes i.0)) c.indexes q e))
      ];
    }

  pub agrees_disabled : Agrees (stands_after s (IndexIs (disabled x))) (catalogue_step c (IndexState t i Disabled stamp))
  agrees_disabled = in_state Disabled (disabled x) refl refl refl (let a = low.0 in let d = low.1.0 in omega (arith, a, d))

  pub agrees_rebuilt : Agrees (stands_after s (IndexIs (rebuilt stamp s.next x))) (catalogue_step c (IndexState t i Building stamp))
  agrees_rebuilt = in_state Building (rebuilt stamp s.next x) refl refl (ap (λ (n : ℕ). Some (rebuilt stamp n x)) (sym k.next)) (let d = low.1.0 in omega (arith, d))
