-- An index is disabled: the folder is told.
use Rattle.std.proofs.Common.{◌≡◌, ◌<◌, ◌≤◌, inl, inr, ℕ, Option, Some, None, List, [], ◌∷◌, ◌++◌, refl, sym, ap, subst, ◌∙◌, arith}
use Rattle.std.specs.List.{AllByRecursion}
use Rattle.std.proofs.lemmas.Bool.{cases_eq}
use Rattle.px_outside.specs.Parts.{with_part}
use Rattle.px_values.specs.declared.name.IndexId.{IndexId}
use Rattle.px_values.specs.declared.name.TableId.{TableId}
use Rattle.px_tables.specs.declared.index.Index.{Index}
use Rattle.px_tables.specs.declared.index.IndexState.TheVariants.{Disabled}
use Rattle.px_tables.specs.declared.table.Table.{Table}
use Rattle.px_trail.specs.declared.entry.Act.{Act}
use Rattle.px_trail.specs.declared.entry.Act.TheVariants.{IndexState}
use Rattle.px_trail.specs.declared.entry.Entry.{Entry}
use Rattle.px_trail.specs.Legal.{MayCome}
use Rattle.px_trail.specs.Trail.{Base, Catalogue, catalogue_of, catalogue_step, set_number, with_state}
use Rattle.px_trail.proofs.Growth.{catalogue-snoc}
use Rattle.px_trail.proofs.Standing.{set_number-other, set_number-same}
use Rattle.px_indexed.specs.Idle.{IsElsewhere}
use Rattle.px_indexed.proofs.Idle.{act_idle}
use Rattle.px_groupworld.specs.Group.{GroupData, GroupKept}
use Rattle.px_groupworld.proofs.Entries.{group_idle}
use Rattle.px_schema.specs.Stands.{stands_after}
use Rattle.px_schema.specs.declared.item.CatalogItem.TheVariants.{IndexIs}
use Rattle.px_schema.specs.declared.standing.Standing.{Standing}
use Rattle.px_schema.proofs.Numbers.{below_next, next_up, put_all_indexes}
use Rattle.px_recovery.specs.Folder.{FolderData, with_standing}
use Rattle.px_recovery.specs.Stands.{AreNumbered, Explains, TellsCatalogue, opened_index}
use Rattle.px_recovery.specs.Tables.{form_of_table, index_in, number_of_index, region_of_index, table_in, without_index}
use Rattle.px_recovery.proofs.Swaps.{AreSwapped, distinct_kept, none_kept, put_here, put_other}
use Rattle.px_standing.proofs.Finder.{found_all, found_number}
use Rattle.px_standing.proofs.Looked.{index_finder}
use Rattle.px_disabled.specs.Disabled.{disabled}
use Rattle.px_disabled.proofs.Swapped.{explained, its_low, kept_less, last_up, once_less, stand_less, swapped}

abbrev downed : Option Index → Option Index
downed None = None
downed (Some z) = Some (disabled z)

down_step : (o : Option Index) (stamp n : ℕ) → with_state Disabled stamp n o ≡ downed o
down_step None stamp n = refl
down_step (Some z) stamp n = refl

downed_twice : (o : Option Index) → downed (opened_index o) ≡ downed o
downed_twice None = refl
downed_twice (Some z) = refl

opened_down : (o : Option Index) → opened_index (downed o) ≡ downed o
opened_down None = refl
opened_down (Some z) = refl

module _ (b : Base) (es : List Entry) (f : FolderData) (v : ℕ → GroupData) (told : Explains b es f v) (e : Entry) (may : MayCome b es e) (t : TableId) (i : IndexId) (stamp : ℕ) (is : e.act ≡ IndexState t i Disabled stamp)
    (x : Table) (found : table_in f.standing.tables t.0 ≡ Some x) (z : Index) (stood : index_in f.standing.indexes i.0 ≡ Some z) (mine : z.table.0 ≡ t.0) (closed : (v t.0).opens ≡ []) where
  abbrev s : Standing
  s = f.standing

  abbrev c : Catalogue
  c = catalogue_of b es

  abbrev es' : List Entry
  es' = es ++ e ∷ []

  abbrev y : Index
  y = disabled z

  abbrev now : Standing
  now = stands_after s (IndexIs y)

  number : z.id.0 ≡ i.0
  number = found_number number_of_index index_in index_finder s.indexes i.0 z stood

  stood' : index_in s.indexes y.id.0 ≡ Some z
  stood' = ap (index_in s.indexes) number ∙ stood

  idle : (k : TableId) → IsElsewhere k e.act
  idle k = subst (λ (a : Act). IsElsewhere k a) (sym is) tt

  swapped' : AreSwapped z y refl refl s.indexes now.indexes
  swapped' = swapped b es f v told e may idle t x found z y refl refl stood' mine closed

  low : AllByRecursion (λ (k : ℕ). k < s.next) (z.region ∷ z.id.0 ∷ [])
  low = found_all number_of_index index_in index_finder (λ (w : Index). AllByRecursion (λ (k : ℕ). k < s.next) (w.region ∷ w.id.0 ∷ [])) s.indexes i.0 z told.numbered.below.indexes stood

  same_next : now.next ≡ s.next
  same_next = let a = low.0 in let d = low.1.0 in omega (arith, a, d)

  catalogue_down : TellsCatalogue now (catalogue_step c (IndexState t i Disabled stamp))
  unfolding catalogue_step
  catalogue_down = record {
    next = (let a = same_next in let n = told.catalogue.next in omega (arith, a, n));
    tables = told.catalogue.tables;
    indexes = λ q. elim (cases_eq i.0 q) [
      | inl same ↦
          let told_here : downed (Some z) ≡ downed (c.indexes i.0) = sym (downed_twice (Some z)) ∙ (ap downed (sym (ap opened_index stood) ∙ told.catalogue.indexes i.0) ∙ downed_twice (c.indexes i.0)) in
          ap opened_index (put_here z y refl refl s.indexes q (number ∙ same))
          ∙ (told_here ∙ (sym (opened_down (c.indexes i.0)) ∙ ap opened_index (sym (down_step (c.indexes i.0) stamp c.next)
          ∙ sym (subst (λ (m : ℕ). set_number i.0 (with_state Disabled stamp c.next (c.indexes i.0)) c.indexes m ≡ with_state Disabled stamp c.next (c.indexes i.0)) same (set_number-same i.0 (with_state Disabled stamp c.next (c.indexes i.0)) c.indexes)))))
      | inr other ↦
          ap opened_index (put_other z y refl refl s.indexes q (λ at. other (sym number ∙ at)))
          ∙ (told.catalogue.indexes q ∙ sym (ap opened_index (set_number-other i.0 (with_state Disabled stamp c.next (c.indexes i.0)) c.indexes q other)))
    ];
  }

  numbered_down : AreNumbered now
  numbered_down = record {
    tables = told.numbered.tables;
    each = told.numbered.each;
    apart = λ q n w at one. none_kept z y refl refl region_of_index refl n s.indexes now.indexes swapped' (told.numbered.apart q n w at one);
    indexes = distinct_kept z y refl refl region_of_index refl s.indexes now.indexes swapped' told.numbered.indexes;
    ids = distinct_kept z y refl refl number_of_index refl s.indexes now.indexes swapped' told.numbered.ids;
    some = told.numbered.some;
    some_index = put_all_indexes (λ (w : Index). 1 ≤ w.region) s.indexes y told.numbered.some_index (found_all number_of_index index_in index_finder (λ (w : Index). 1 ≤ w.region) s.indexes i.0 z told.numbered.some_index stood);
    below = below_next s (IndexIs y) told.numbered.below;
    least = (let up = next_up s (IndexIs y) in let l = told.numbered.least in omega (arith, up, l));
  }

  abbrev w' : GroupData
  w' = without_index y.id.0 (v t.0)

  kept_now : GroupKept (form_of_table b now.indexes x) es' w'
  kept_now = (group_idle (form_of_table b now.indexes x) es w' (kept_less b es f v told e may idle t x found z y refl refl stood' mine closed) e may (act_idle x.id e (idle x.id))).kept

  gone : Explains b es' (with_standing now f) (with_part v t.0 w')
  gone =
      let at = its_low b es f v told e may idle t x found z y refl refl stood' mine closed in
      let birth = at.0 in
      let stamps = at.1.0 in
      let up = last_up b es f v told e may idle t x found z y refl refl stood' mine closed x.id.0 in
      explained b es f v told e may idle t x found z y refl refl stood' mine closed w'.indexes (λ k l. (l, refl)) refl (omega (arith, birth, up)) (omega (arith, stamps, up)) at.1.1 kept_now
      (once_less b es f v told e may idle t x found z y refl refl stood' mine closed) (stand_less b es f v told e may idle t x found z y refl refl stood' mine closed)
      (subst (λ (k : Catalogue). TellsCatalogue now k) (sym (catalogue-snoc b es e ∙ ap (catalogue_step c) is)) catalogue_down) numbered_down

  pub index_disabled : Explains b es' (with_standing now f) (with_part v t.0 (without_index i.0 (v t.0)))
  index_disabled = subst (λ (n : ℕ). Explains b es' (with_standing now f) (with_part v t.0 (without_index n (v t.0)))) number gone
