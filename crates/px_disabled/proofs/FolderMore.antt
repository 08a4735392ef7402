-- An index is built again: the folder is told.
use Rattle.std.proofs.Common.{◌≡◌, ◌≢◌, ◌<◌, ◌≤◌, ◌+◌, max, inl, inr, ℕ, suc, Bool, true, false, ◌&&◌, Option, Some, None, List, [], ◌∷◌, ◌++◌, length, get_or, refl, sym, ap, subst, ◌∙◌, arith}
use Rattle.std.specs.Prelude.{if◌then◌else◌, ◌==◌}
use Rattle.std.specs.List.{AllByRecursion}
use Rattle.std.proofs.lemmas.Bool.{cases_eq, cases_lt, eq-eqb}
use Rattle.std.proofs.lemmas.List.{length-append}
use Rattle.px_outside.specs.Parts.{AreDistinct, HasNone, with_part}
use Rattle.px_values.specs.declared.name.IndexId.{IndexId}
use Rattle.px_values.specs.declared.name.TableId.{TableId}
use Rattle.px_tables.specs.declared.index.Index.{Index}
use Rattle.px_tables.specs.declared.index.IndexState.TheVariants.{Building}
use Rattle.px_tables.specs.declared.table.Table.{Table}
use Rattle.px_trail.specs.declared.entry.Act.{Act}
use Rattle.px_trail.specs.declared.entry.Act.TheVariants.{IndexState}
use Rattle.px_trail.specs.declared.entry.Entry.{Entry}
use Rattle.px_trail.specs.Legal.{Follows, MayCome, MayState}
use Rattle.px_trail.specs.Trail.{Base, Catalogue, catalogue_of, catalogue_step, last_of, last_step, set_number, with_state}
use Rattle.px_trail.proofs.Growth.{catalogue-snoc, last-snoc}
use Rattle.px_trail.proofs.Standing.{set_number-other, set_number-same}
use Rattle.px_forms.specs.Indexes.{IndexForm, IsIndexForm}
use Rattle.px_indexrow.proofs.KeysHeld.{form_laws}
use Rattle.px_indexed.specs.Idle.{IsElsewhere}
use Rattle.px_indexed.proofs.Idle.{act_idle}
use Rattle.px_groupworld.specs.Group.{GroupData, GroupKept, IndexPart, no_part}
use Rattle.px_groupworld.specs.Steps.{born_data}
use Rattle.px_groupworld.proofs.Births.{group_born}
use Rattle.px_region.specs.Region.{RegionData}
use Rattle.px_tablefolder.specs.Folder.{last_cell}
use Rattle.px_schema.specs.Stands.{stands_after}
use Rattle.px_schema.specs.declared.item.CatalogItem.TheVariants.{IndexIs}
use Rattle.px_schema.specs.declared.standing.Standing.{Standing}
use Rattle.px_schema.proofs.Numbers.{below_next, next_up, put_all_indexes}
use Rattle.px_recovery.specs.Folder.{AreUnmade, FolderData, no_data, with_standing}
use Rattle.px_recovery.specs.Stands.{AreNumbered, Explains, TellsCatalogue, opened_index}
use Rattle.px_recovery.specs.Tables.{HasTableIndex, form_of_index, form_of_table, index_in, number_of_index, number_of_part, region_of_index, table_in, without_index}
use Rattle.px_recovery.proofs.Ends.{distinct_end, get_end_new, get_end_old, none_under}
use Rattle.px_recovery.proofs.Numbered.{rows_number}
use Rattle.px_recovery.proofs.Swaps.{AreSwapped, distinct_kept, put_here, put_other}
use Rattle.px_standing.proofs.Finder.{found_all, found_number}
use Rattle.px_standing.proofs.Looked.{index_finder}
use Rattle.px_disabled.specs.Disabled.{rebuilt}
use Rattle.px_disabled.proofs.Anew.{distinct_fresh, none_fresh}
use Rattle.px_disabled.proofs.Swapped.{explained, kept_less, none_less, once_less, own, stand_less, swapped}

abbrev anew : ℕ → ℕ → Option Index → Option Index
anew stamp n None = None
anew stamp n (Some z) = Some (rebuilt stamp n z)

anew_step : (o : Option Index) (stamp n : ℕ) → with_state Building stamp n o ≡ anew stamp n o
anew_step None stamp n = refl
anew_step (Some z) stamp n = refl

anew_twice : (o : Option Index) (stamp n : ℕ) → anew stamp n (opened_index o) ≡ anew stamp n o
anew_twice None stamp n = refl
anew_twice (Some z) stamp n = refl

none_twice : (n : ℕ) (xs : List IndexPart) → ((j : ℕ) → j < length xs → (get_or xs j no_part).id ≢ n) → HasNone number_of_part n xs
none_twice n [] each = tt
none_twice n (p ∷ xs) each = (each 0 (omega arith), none_twice n xs (λ j l. each (suc j) (omega (arith, l))))

and_true : (v : Bool) → v ≡ true → (v && true) ≡ true
and_true v q = ap (λ (w : Bool). w && true) q

module _ (b : Base) (es : List Entry) (f : FolderData) (unmade : AreUnmade f) (v : ℕ → GroupData) (told : Explains b es f v) (e : Entry) (may : MayCome b es e) (t : TableId) (i : IndexId) (stamp : ℕ) (is : e.act ≡ IndexState t i Building stamp)
    (x : Table) (found : table_in f.standing.tables t.0 ≡ Some x) (z : Index) (stood : index_in f.standing.indexes i.0 ≡ Some z) (mine : z.table.0 ≡ t.0) (closed : (v t.0).opens ≡ []) where
  abbrev s : Standing
  s = f.standing

  abbrev c : Catalogue
  c = catalogue_of b es

  abbrev es' : List Entry
  es' = es ++ e ∷ []

  abbrev y : Index
  y = rebuilt stamp s.next z

  abbrev now : Standing
  now = stands_after s (IndexIs y)

  abbrev n : ℕ
  n = y.id.0

  number : z.id.0 ≡ i.0
  number = found_number number_of_index index_in index_finder s.indexes i.0 z stood

  stood' : index_in s.indexes n ≡ Some z
  stood' = ap (index_in s.indexes) number ∙ stood

  idle : (k : TableId) → IsElsewhere k e.act
  idle k = subst (λ (a : Act). IsElsewhere k a) (sym is) tt

  follows : Follows b es e.seat e.calls (IndexState t i Building stamp)
  follows = subst (λ (a : Act). Follows b es e.seat e.calls a) is may.follows

  drawn : last_of b t.0 es < stamp
  unfolding Follows MayState
  drawn = follows.1.0

  swapped' : AreSwapped z y refl refl s.indexes now.indexes
  swapped' = swapped b es f v told e may idle t x found z y refl refl stood' mine closed

  -- ---- what stands

  id_low : z.id.0 < s.next
  id_low = (found_all number_of_index index_in index_finder (λ (w : Index). AllByRecursion (λ (k : ℕ). k < s.next) (w.region ∷ w.id.0 ∷ [])) s.indexes i.0 z told.numbered.below.indexes stood).1.0

  next_is : now.next ≡ s.next + 1
  next_is = let a = id_low in omega (arith, a)

  catalogue_anew : TellsCatalogue now (catalogue_step c (IndexState t i Building stamp))
  unfolding catalogue_step
  catalogue_anew = record {
    next = (let a = next_is in let m = told.catalogue.next in omega (arith, a, m));
    tables = told.catalogue.tables;
    indexes = λ q. elim (cases_eq i.0 q) [
      | inl same ↦
          let told_here : anew stamp s.next (Some z) ≡ anew stamp s.next (c.indexes i.0) =
          sym (anew_twice (Some z) stamp s.next) ∙ (ap (anew stamp s.next) (sym (ap opened_index stood) ∙ told.catalogue.indexes i.0) ∙ anew_twice (c.indexes i.0) stamp s.next) in
          ap opened_index (put_here z y refl refl s.indexes q (number ∙ same)
          ∙ (told_here ∙ (ap (λ (m : ℕ). anew stamp m (c.indexes i.0)) told.catalogue.next ∙ (sym (anew_step (c.indexes i.0) stamp c.next)
          ∙ sym (subst (λ (m : ℕ). set_number i.0 (with_state Building stamp c.next (c.indexes i.0)) c.indexes m ≡ with_state Building stamp c.next (c.indexes i.0)) same (set_number-same i.0 (with_state Building stamp c.next (c.indexes i.0)) c.indexes)))))
          )
      | inr other ↦
          ap opened_index (put_other z y refl refl s.indexes q (λ at. other (sym number ∙ at)))
          ∙ (told.catalogue.indexes q ∙ sym (ap opened_index (set_number-other i.0 (with_state Building stamp c.next (c.indexes i.0)) c.indexes q other)))
    ];
  }

  none_region : HasNone region_of_index s.next s.indexes
  none_region = none_under region_of_index s.next s.next s.indexes (λ k low same. (let a = low.0 in omega (arith, a, same))) told.numbered.below.indexes

  numbered_anew : AreNumbered now
  numbered_anew = record {
    tables = told.numbered.tables;
    each = told.numbered.each;
    apart = λ q m k at one. none_fresh z y refl refl region_of_index m s.indexes now.indexes swapped' (λ same. (let low = (rows_number s told.numbered q m k at one).1 in omega (arith, low, same))) (told.numbered.apart q m k at one);
    indexes = distinct_fresh z y refl refl region_of_index s.indexes now.indexes swapped' none_region told.numbered.indexes told.numbered.ids;
    ids = distinct_kept z y refl refl number_of_index refl s.indexes now.indexes swapped' told.numbered.ids;
    some = told.numbered.some;
    some_index = put_all_indexes (λ (k : Index). 1 ≤ k.region) s.indexes y told.numbered.some_index told.numbered.least;
    below = below_next s (IndexIs y) told.numbered.below;
    least = (let up = next_up s (IndexIs y) in let l = told.numbered.least in omega (arith, up, l));
  }

  -- ---- its own table

  abbrev w' : GroupData
  w' = without_index n (v t.0)

  abbrev born : GroupData
  born = born_data n stamp w'

  abbrev part : IndexPart
  part = record { id = n; cells = []; birth = stamp; horizon = 0; is_built = false }

  own' : x.id.0 ≡ t.0
  own' = own b es f v told e may idle t x found z y refl refl stood' mine closed

  drawn_now : stamp ≤ last_of b x.id.0 es'
  drawn_now =
      let l : last_of b t.0 es' ≡ (if (t.0 == t.0) && true then max (last_of b t.0 es) stamp else last_of b t.0 es) = last-snoc b t.0 es e ∙ ap (last_step t.0 (last_of b t.0 es)) is in
      let m : last_of b t.0 es' ≡ max (last_of b t.0 es) stamp = l ∙ ap (λ (k : Bool). if k then max (last_of b t.0 es) stamp else last_of b t.0 es) (and_true (t.0 == t.0) (eq-eqb t.0 t.0 refl)) in
      subst (λ (k : ℕ). stamp ≤ last_of b k es') (sym own') (omega (arith, m))

  here : index_in now.indexes n ≡ Some y
  here = put_here z y refl refl s.indexes n refl

  kept_born : GroupKept (form_of_table b now.indexes x) es' born
  kept_born =
      (group_born (form_of_table b now.indexes x) es w' (kept_less b es f v told e may idle t x found z y refl refl stood' mine closed) e may (act_idle x.id e (idle x.id)) n stamp (subst (λ (k : ℕ). last_of b k es < stamp) (sym own') drawn) drawn_now
      (subst (λ (k : IndexForm). IsIndexForm k) (sym (ap (form_of_index x) here)) (form_laws x y))).kept

  nothing_there : f.regions s.next ≡ no_data
  nothing_there = unmade s.next (omega arith)

  no_cell : last_cell (f.regions s.next).cells ≤ last_of b x.id.0 es'
  unfolding last_cell
  no_cell = subst (λ (r : RegionData). last_cell r.cells ≤ last_of b x.id.0 es') (sym nothing_there) (omega arith)

  no_horizon : (f.regions s.next).horizon ≤ (v t.0).high
  no_horizon = subst (λ (r : RegionData). r.horizon ≤ (v t.0).high) (sym nothing_there) (omega arith)

  holds : (k : ℕ) → k < length w'.indexes → (k < length born.indexes) × (get_or born.indexes k no_part ≡ get_or w'.indexes k no_part)
  holds k l = ((let m = length-append w'.indexes (part ∷ []) in omega (arith, m, l)), get_end_old w'.indexes part no_part k l)

  once_born : AreDistinct number_of_part born.indexes
  once_born = distinct_end number_of_part w'.indexes part (once_less b es f v told e may idle t x found z y refl refl stood' mine closed) (none_twice n w'.indexes (none_less b es f v told e may idle t x found z y refl refl stood' mine closed))

  stand_born : (j : ℕ) → j < length born.indexes → HasTableIndex now.indexes x.id.0 (get_or born.indexes j no_part).id
  stand_born j l = elim (cases_lt j (length w'.indexes)) [
    | inl m ↦ subst (λ (p : IndexPart). HasTableIndex now.indexes x.id.0 p.id) (sym (get_end_old w'.indexes part no_part j m)) (stand_less b es f v told e may idle t x found z y refl refl stood' mine closed j m)
    | inr m ↦
        let k = length-append w'.indexes (part ∷ []) in
        let at : j ≡ length w'.indexes = omega (arith, k, l, m) in
        subst (λ (p : IndexPart). HasTableIndex now.indexes x.id.0 p.id) (sym (get_end_new w'.indexes part no_part j at)) (y, (here, mine ∙ sym own'))
  ]

  anew_told : Explains b es' (with_standing now f) (with_part v t.0 born)
  anew_told =
      explained b es f v told e may idle t x found z y refl refl stood' mine closed born.indexes holds refl drawn_now no_cell no_horizon kept_born once_born stand_born
      (subst (λ (k : Catalogue). TellsCatalogue now k) (sym (catalogue-snoc b es e ∙ ap (catalogue_step c) is)) catalogue_anew) numbered_anew

  pub index_rebuilt : Explains b es' (with_standing now f) (with_part v t.0 (born_data i.0 stamp (without_index i.0 (v t.0))))
  index_rebuilt = subst (λ (m : ℕ). Explains b es' (with_standing now f) (with_part v t.0 (born_data m stamp (without_index m (v t.0))))) number anew_told
