-- The records of indexes are right where the catalogue stands.
use Rattle.std.proofs.Common.{◌≡◌, ◌<◌, ◌+◌, ◌^◌, inl, inr, ℕ, Bool, true, false, Option, Some, None, List, [], ◌∷◌, get_or, length, map, refl, sym, ap, subst, ◌∙◌, arith}
use Rattle.std.specs.Prelude.{◌==◌, ◌||◌}
use Rattle.std.specs.List.{list_any}
use Rattle.std.proofs.lemmas.Bool.{eq-eqb}
use Rattle.px_outside.specs.declared.disk.Disk.{Ghosts}
use Rattle.px_values.specs.declared.name.IndexId.{IndexId}
use Rattle.px_values.specs.declared.name.TableId.{TableId}
use Rattle.px_tables.specs.declared.index.Index.{Index}
use Rattle.px_tables.specs.declared.index.NewIndex.{NewIndex}
use Rattle.px_tables.specs.declared.table.Table.{Table}
use Rattle.px_trail.specs.declared.entry.Entry.{Entry}
use Rattle.px_trail.specs.Recorded.{Recorded}
use Rattle.px_trail.specs.Trail.{Base, made_index, table_of}
use Rattle.px_calls.specs.Requires.{IsNewIndex}
use Rattle.px_defined.proofs.News.{new_index_right}
use Rattle.px_indexrow.specs.Form.{IsRightIndex}
use Rattle.px_pieces.specs.Numbers.{one_of_right}
use Rattle.px_schema.specs.Records.{IsRightCatalogItem}
use Rattle.px_schema.specs.declared.item.CatalogItem.TheVariants.{IndexGone, IndexIs}
use Rattle.px_schema.specs.declared.standing.Standing.{Standing}
use Rattle.px_catalog.specs.Catalogue.{standing_of}
use Rattle.px_catalog.specs.declared.catalog.Catalog.{Catalog}
use Rattle.px_recovery.specs.Tables.{table_in}
use Rattle.px_group.specs.Group.{IsRightGroup}
use Rattle.px_group.specs.declared.group.Group.{Group}
use Rattle.px_server.specs.Kept.{HasTallied, IsKept}
use Rattle.px_server.specs.Others.{Beginning}
use Rattle.px_server.specs.declared.defining.prepared.IndexToMake.{IndexToMake}
use Rattle.px_server.specs.inner.Fitting.{CanRecord, IsIndexToMake}
use Rattle.px_server.proofs.IndexFound.{HasIndexOf}
use Rattle.px_server.proofs.IndexRecord.{among_found, index_right, width_found}
use Rattle.px_server.proofs.Lists.{all_at}
use Rattle.px_server.proofs.SameStanding.{same_count, same_numbers}

or_true : (v : Bool) → (v || true) ≡ true
or_true true = refl
or_true false = refl

-- an index of these has its number among theirs
among_numbers : (xs : List Index) (t : TableId) (i : IndexId) → HasIndexOf xs t i → list_any (λ m. m == i.0) (map (λ (x : Index). x.id.0) xs) ≡ true
among_numbers [] t i has = absurd has
among_numbers (x ∷ xs) t i (inl own) = ap (λ v. v || list_any (λ m. m == i.0) (map (λ (y : Index). y.id.0) xs)) (eq-eqb x.id.0 i.0 (ap (λ (n : IndexId). n.0) own.0))
among_numbers (x ∷ xs) t i (inr later) = ap (λ v. (x.id.0 == i.0) || v) (among_numbers xs t i later) ∙ or_true (x.id.0 == i.0)

module _ {D : Type 0} (d : Ghosts D) (b : Base) (sound premise : Type 0) (began : Beginning) (disk : D) (catalog : Catalog) (standing : Standing) (groups : List Group) (trail : Recorded) (late : Option Entry) (closed : Option ℕ) (k : IsKept d b sound premise began disk catalog standing groups trail late closed) (running : closed ≡ None) where
  -- the definition of an index
  pub fits_index : (place : ℕ) (g : Group) → place < length groups → get_or groups place g ≡ g → (i : Index) → IsRightIndex g.table i → i.table ≡ g.table.id → i.table.0 < 256 ^ 4 → CanRecord standing i → IsRightCatalogItem (standing_of catalog) (IndexIs i)
  fits_index place g l g_is i right own short can = (let
      tallied = all_at (HasTallied b trail.entries) groups place g l g_is (k.each.tallied running)
      in let
      group = all_at IsRightGroup groups place g l g_is (k.each.right running)
      in let
      tables : (standing_of catalog).tables ≡ standing.tables = ap (λ (s : Standing). s.tables) (k.told.same running)
      in let
      here : table_in (standing_of catalog).tables i.table.0 ≡ Some g.table =
      ap (λ (ts : List Table). table_in ts i.table.0) tables ∙ (k.told.agrees.tables i.table.0 ∙ (ap (λ (t : TableId). table_of b trail.entries t.0) own ∙ tallied.tallied.standing.table))
      in let
      count = same_count (standing_of catalog) standing (k.told.same running)
      in (
        index_right (standing_of catalog).tables g.table i right can.fits (let n = group.table.columns in omega (arith, n)) short (among_found (standing_of catalog).tables i.table.0 g.table here) (width_found (standing_of catalog).tables i.table.0 g.table here),
        (let few = can.few in omega (arith, few, count)),
      ))

  -- the end of one
  pub fits_end : (t : TableId) (i : IndexId) → HasIndexOf standing.indexes t i → i.0 < 256 ^ 4 → IsRightCatalogItem (standing_of catalog) (IndexGone i)
  fits_end t i has short =
      one_of_right 4 (map (λ (x : Index). x.id.0) (standing_of catalog).indexes) i.0 short (subst (λ (ns : List ℕ). list_any (λ m. m == i.0) ns ≡ true) (sym (same_numbers (standing_of catalog) standing (k.told.same running))) (among_numbers standing.indexes t i has))

  -- the definition of a new one
  pub fits_made : (place : ℕ) (g : Group) → place < length groups → get_or groups place g ≡ g → (what : NewIndex) → g.table.id ≡ what.table → IsNewIndex g.table what → what.table.0 < 256 ^ 4 → (s : ℕ) (p : IndexToMake) → IsIndexToMake standing s what p → IsRightCatalogItem (standing_of catalog) (IndexIs p.item)
  fits_made place g l g_is what mine fits short s p made =
      subst (λ (i : Index). IsRightCatalogItem (standing_of catalog) (IndexIs i)) (sym (made.item_is ∙ made.index))
      (fits_index place g l g_is (made_index standing.next (record { 0 = standing.next + 1 }) s what) (new_index_right g.table standing.next (record { 0 = standing.next + 1 }) s what fits) (sym mine) short
      (subst (λ (i : Index). CanRecord standing i) made.index made.can))
