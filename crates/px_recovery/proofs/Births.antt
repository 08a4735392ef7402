-- An index is made.
use Rattle.std.proofs.Common.{◌≡◌, ◌≢◌, ◌<◌, ◌≤◌, ◌+◌, max, inl, inr, ℕ, suc, Bool, true, false, Some, List, [], ◌∷◌, ◌++◌, length, get_or, map, refl, sym, ap, subst, ◌∙◌, arith}
use Rattle.std.specs.Prelude.{if◌then◌else◌, ◌==◌}
use Rattle.std.proofs.lemmas.Bool.{cases_eq, cases_lt, eq-eqb, false≢true}
use Rattle.std.proofs.lemmas.List.{length-append, length-map}
use Rattle.px_outside.specs.Parts.{HasNone, with_part}
use Rattle.px_outside.proofs.Parts.{with_part-here, with_part-other}
use Rattle.px_outside.proofs.Recovery.{all_join}
use Rattle.px_values.specs.declared.name.IndexId.{IndexId}
use Rattle.px_values.specs.declared.name.TableId.{TableId}
use Rattle.px_tables.specs.declared.index.Index.{Index}
use Rattle.px_tables.specs.declared.index.NewIndex.{NewIndex}
use Rattle.px_tables.specs.declared.table.Table.{Table}
use Rattle.px_trail.specs.declared.entry.Act.{Act}
use Rattle.px_trail.specs.declared.entry.Act.TheVariants.{IndexMade}
use Rattle.px_trail.specs.declared.entry.Entry.{Entry}
use Rattle.px_trail.specs.Legal.{Follows, MayCome}
use Rattle.px_trail.specs.Trail.{Base, Catalogue, catalogue_of, catalogue_step, last_of, last_step, made_index, set_number}
use Rattle.px_trail.proofs.Growth.{catalogue-snoc, last-snoc, legal-snoc}
use Rattle.px_trail.proofs.Standing.{set_number-other, set_number-same}
use Rattle.px_forms.specs.Indexes.{IndexForm, IsIndexForm}
use Rattle.px_indexrow.specs.Form.{index_form}
use Rattle.px_indexrow.proofs.KeysHeld.{form_laws}
use Rattle.px_indexed.specs.Idle.{IsElsewhere}
use Rattle.px_indexed.proofs.Idle.{act_idle}
use Rattle.px_groupworld.specs.Group.{GroupData, GroupKept, IndexPart, TableForm, no_part}
use Rattle.px_groupworld.specs.Steps.{born_data}
use Rattle.px_groupworld.proofs.Births.{group_born}
use Rattle.px_groupworld.proofs.Entries.{group_idle}
use Rattle.px_tablefolder.specs.Folder.{IndexFiles, IsFilesOf, last_cell, no_files}
use Rattle.px_region.specs.Region.{RegionData}
use Rattle.px_schema.specs.Stands.{IsBelowNext, above, stands_after}
use Rattle.px_schema.specs.declared.item.CatalogItem.TheVariants.{IndexIs}
use Rattle.px_schema.specs.declared.standing.Standing.{Standing}
use Rattle.px_schema.proofs.Numbers.{below_next}
use Rattle.px_recovery.specs.Folder.{AreUnmade, FolderData, no_data, with_standing}
use Rattle.px_recovery.specs.Stands.{AreNumbered, Explains, TellsCatalogue, opened_index}
use Rattle.px_recovery.specs.Tables.{HasTableIndex, TellsTable, form_of_index, form_of_table, index_files, index_in, indexes_of, number_of_index, number_of_part, region_of_index, table_in}
use Rattle.px_recovery.proofs.Ends.{distinct_end, get_end_new, get_end_old, index_below, index_end_here, index_end_other, indexes_end_other, indexes_end_own, none_end, none_under, put_end}
use Rattle.px_recovery.proofs.Forms.{other_forms, same_table}
use Rattle.px_recovery.proofs.Notes.{last_step_up}
use Rattle.px_recovery.proofs.Numbered.{found_number, one_found, rows_number}
use Rattle.px_recovery.proofs.Tables.{at_map}

module _ (b : Base) (es : List Entry) (f : FolderData) (unmade : AreUnmade f) (v : ℕ → GroupData) (told : Explains b es f v) (e : Entry) (may : MayCome b es e) (t : TableId) (i : IndexId) (stamp : ℕ) (what : NewIndex) (is : e.act ≡ IndexMade t i stamp what)
    (x : Table) (found : table_in f.standing.tables t.0 ≡ Some x) where
  abbrev s : Standing
  s = f.standing

  abbrev c : Catalogue
  c = catalogue_of b es

  abbrev es' : List Entry
  es' = es ++ e ∷ []

  abbrev y : Index
  y = made_index s.next i stamp what

  follows : Follows b es e.seat e.calls (IndexMade t i stamp what)
  follows = subst (λ (a : Act). Follows b es e.seat e.calls a) is may.follows

  number : i.0 ≡ s.next + 1
  unfolding Follows
  number = let z = follows.0 in let n = told.catalogue.next in omega (arith, z, n)

  of_table : what.table ≡ t
  unfolding Follows
  of_table = follows.3

  drawn : last_of b t.0 es < stamp
  unfolding Follows
  drawn = follows.4

  own : x.id.0 ≡ t.0
  own = found_number s.tables t.0 x found

  -- ---- what stands

  none_id : HasNone number_of_index i.0 s.indexes
  none_id = none_under number_of_index s.next i.0 s.indexes (λ z low same. (let a = low.1.0 in let n = number in omega (arith, a, n, same))) told.numbered.below.indexes

  none_region : HasNone region_of_index s.next s.indexes
  none_region = none_under region_of_index s.next s.next s.indexes (λ z low same. (let a = low.0 in omega (arith, a, same))) told.numbered.below.indexes

  -- the standing with it at the end of its indexes
  abbrev grown : Standing
  grown = record { next = above s.next (s.next ∷ i.0 ∷ []); tables = s.tables; indexes = s.indexes ++ y ∷ [] }

  grown_is : stands_after s (IndexIs y) ≡ grown
  grown_is = λ k. record { next = above s.next (s.next ∷ i.0 ∷ []); tables = s.tables; indexes = put_end s.indexes y none_id k }

  next_is : grown.next ≡ s.next + 2
  next_is = let n = number in omega arith

  catalogue_grown : TellsCatalogue grown (catalogue_step c (IndexMade t i stamp what))
  unfolding catalogue_step
  catalogue_grown = record {
    next = (let a = next_is in let n = told.catalogue.next in omega arith);
    tables = told.catalogue.tables;
    indexes = λ q. elim (cases_eq i.0 q) [
      | inl same ↦
          ap opened_index (index_end_here s.indexes y q same (subst (λ (m : ℕ). HasNone number_of_index m s.indexes) same none_id))
          ∙ (ap (λ (n : ℕ). opened_index (Some (made_index n i stamp what))) told.catalogue.next
          ∙ sym (ap opened_index (subst (λ (m : ℕ). set_number i.0 (Some (made_index c.next i stamp what)) c.indexes m ≡ Some (made_index c.next i stamp what)) same (set_number-same i.0 (Some (made_index c.next i stamp what)) c.indexes))))
      | inr other ↦
          ap opened_index (index_end_other s.indexes y q other)
          ∙ (told.catalogue.indexes q ∙ sym (ap opened_index (set_number-other i.0 (Some (made_index c.next i stamp what)) c.indexes q other)))
    ];
  }

  numbered_grown : AreNumbered grown
  numbered_grown = record {
    tables = told.numbered.tables;
    each = told.numbered.each;
    apart = λ q n z at one. none_end region_of_index n s.indexes y (told.numbered.apart q n z at one) (λ same. (let low = (rows_number s told.numbered q n z at one).1 in omega (arith, low, same)));
    indexes = distinct_end region_of_index s.indexes y told.numbered.indexes none_region;
    ids = distinct_end number_of_index s.indexes y told.numbered.ids none_id;
    some = told.numbered.some;
    some_index = all_join (λ (z : Index). 1 ≤ z.region) s.indexes (y ∷ []) told.numbered.some_index (told.numbered.least, tt);
    below = subst IsBelowNext grown_is (below_next s (IndexIs y) told.numbered.below);
    least = (let a = next_is in omega arith);
  }

  -- an index that stood has another number
  stood_other : (n : ℕ) (z : Index) → index_in s.indexes n ≡ Some z → i.0 ≢ n
  stood_other n z at same = (let low = index_below s.next n s.indexes z told.numbered.below.indexes at in let m = number in omega (arith, low, m, same))

  stays : (n : ℕ) (z : Index) → index_in s.indexes n ≡ Some z → index_in grown.indexes n ≡ Some z
  stays n z at = index_end_other s.indexes y n (stood_other n z at) ∙ at

  -- ---- the tables

  last_up : (q : ℕ) → last_of b q es ≤ last_of b q es'
  last_up q = let up = last_step_up q (last_of b q es) e.act in let l = last-snoc b q es e in omega arith

  tells_other : (q : ℕ) (z : Table) → q ≢ t.0 → table_in s.tables q ≡ Some z → TellsTable b es' (with_standing grown f) z (v q)
  tells_other q z apart at =
      let here = told.tables q z at in
      let num = found_number s.tables q z at in
      same_table b es es' f grown z (v q) here
      (group_idle (form_of_table b s.indexes z) es (v q) here.kept e may (act_idle z.id e (subst (λ (a : Act). IsElsewhere z.id a) (sym is) tt))).kept
      (last_up z.id.0) (λ n w stood its. stays n w stood)
      (indexes_end_other z.id.0 s.indexes y (λ same. apart (sym num ∙ (sym same ∙ ap (λ (k : TableId). k.0) of_table))))

  -- ---- its own table

  abbrev w : GroupData
  w = v t.0

  here : TellsTable b es f x w
  here = told.tables t.0 x found

  abbrev form : TableForm
  form = form_of_table b grown.indexes x

  abbrev born : GroupData
  born = born_data i.0 stamp w

  abbrev part : IndexPart
  part = record { id = i.0; cells = []; birth = stamp; horizon = 0; is_built = false }

  kept_before : GroupKept form es w
  kept_before = other_forms (form_of_table b s.indexes x) (λ n. form_of_index x (index_in grown.indexes n)) es w
      (λ j l. (let h = here.stand j l in ap (form_of_index x) (stays (get_or w.indexes j no_part).id h.0 h.1.0 ∙ sym h.1.0))) here.kept

  form_is : form_of_index x (index_in grown.indexes i.0) ≡ index_form x y
  form_is = ap (form_of_index x) (index_end_here s.indexes y i.0 refl none_id)

  drawn_now : stamp ≤ last_of b x.id.0 es'
  drawn_now =
      let l : last_of b t.0 es' ≡ (if t.0 == t.0 then max (last_of b t.0 es) stamp else last_of b t.0 es) = last-snoc b t.0 es e ∙ ap (last_step t.0 (last_of b t.0 es)) is in
      let m : last_of b t.0 es' ≡ max (last_of b t.0 es) stamp = l ∙ ap (λ (k : Bool). if k then max (last_of b t.0 es) stamp else last_of b t.0 es) (eq-eqb t.0 t.0 refl) in
      subst (λ (k : ℕ). stamp ≤ last_of b k es') (sym own) (omega (arith, m))

  kept_born : GroupKept form es' born
  kept_born =
      (group_born form es w kept_before e may (act_idle x.id e (subst (λ (a : Act). IsElsewhere x.id a) (sym is) tt)) i.0 stamp (subst (λ (k : ℕ). last_of b k es < stamp) (sym own) drawn) drawn_now
      (subst (λ (k : IndexForm). IsIndexForm k) (sym form_is) (form_laws x y))).kept

  -- its files: those that it had, and the index's

  abbrev stood : List Index
  stood = indexes_of x.id.0 s.indexes

  abbrev files : List Index → List IndexFiles
  files l = map (index_files f.regions) l

  table_is : y.table.0 ≡ x.id.0
  table_is = ap (λ (k : TableId). k.0) of_table ∙ sym own

  stood_is : indexes_of x.id.0 grown.indexes ≡ stood ++ y ∷ []
  stood_is = indexes_end_own x.id.0 s.indexes y table_is

  long : length (files (stood ++ y ∷ [])) ≡ length stood + 1
  long = length-map (stood ++ y ∷ []) (index_files f.regions) ∙ length-append stood (y ∷ [])

  old_long : length (files stood) ≡ length stood
  old_long = length-map stood (index_files f.regions)

  file_old : (q : ℕ) → q < length stood → get_or (files (stood ++ y ∷ [])) q no_files ≡ get_or (files stood) q no_files
  file_old q l =
      let n = length-append stood (y ∷ []) in
      at_map (index_files f.regions) (stood ++ y ∷ []) q no_files y (omega arith)
      ∙ (ap (index_files f.regions) (get_end_old stood y y q l) ∙ sym (at_map (index_files f.regions) stood q no_files y l))

  file_new : (q : ℕ) → q ≡ length stood → get_or (files (stood ++ y ∷ [])) q no_files ≡ index_files f.regions y
  file_new q l =
      let n = length-append stood (y ∷ []) in
      at_map (index_files f.regions) (stood ++ y ∷ []) q no_files y (omega arith) ∙ ap (index_files f.regions) (get_end_new stood y y q l)

  born_long : length born.indexes ≡ length w.indexes + 1
  born_long = length-append w.indexes (part ∷ [])

  abbrev Active : IndexFiles → Type 0
  Active z = (j : ℕ) × ((j < length born.indexes) × IsFilesOf (get_or born.indexes j no_part) z)

  active_old : (q : ℕ) → q < length stood → (get_or (files stood) q no_files).is_active ≡ true → Active (get_or (files stood) q no_files)
  active_old q l a =
      let n = old_long in
      let o = here.files.active q (omega arith) a in
      let k = born_long in
      let lt = o.1.0 in
      (o.0, (omega arith, subst (λ (p : IndexPart). IsFilesOf p (get_or (files stood) q no_files)) (sym (get_end_old w.indexes part no_part o.0 o.1.0)) o.1.1))

  active_now : (q : ℕ) → q < length (files (stood ++ y ∷ [])) → (get_or (files (stood ++ y ∷ [])) q no_files).is_active ≡ true → Active (get_or (files (stood ++ y ∷ [])) q no_files)
  active_now q l a = elim (cases_lt q (length stood)) [
    | inl m ↦ subst Active (sym (file_old q m)) (active_old q m (ap (λ (z : IndexFiles). z.is_active) (sym (file_old q m)) ∙ a))
    | inr m ↦ absurd (
        let n = long in
        let at : q ≡ length stood = omega arith in
        false≢true (ap (λ (z : IndexFiles). z.is_active) (sym (file_new q at)) ∙ a))
  ]

  nothing_there : f.regions s.next ≡ no_data
  nothing_there = unmade s.next (omega arith)

  below_now : (q : ℕ) → q < length (files (stood ++ y ∷ [])) → (get_or (files (stood ++ y ∷ [])) q no_files).horizon ≤ born.high
  below_now q l = elim (cases_lt q (length stood)) [
    | inl m ↦ subst (λ (z : IndexFiles). z.horizon ≤ born.high) (sym (file_old q m)) (let n = old_long in here.files.below q (omega arith))
    | inr m ↦
        let n = long in
        let at : q ≡ length stood = omega arith in
        subst (λ (z : IndexFiles). z.horizon ≤ born.high) (sym (file_new q at)) (subst (λ (r : RegionData). r.horizon ≤ born.high) (sym nothing_there) (omega arith))
  ]

  abbrev most : ℕ
  most = last_of b x.id.0 es'

  no_cell : last_cell (f.regions s.next).cells ≤ most
  unfolding last_cell
  no_cell = subst (λ (r : RegionData). last_cell r.cells ≤ most) (sym nothing_there) (omega arith)

  others_now : (q : ℕ) → q < length (files (stood ++ y ∷ [])) → (get_or (files (stood ++ y ∷ [])) q no_files).is_active ≡ false
      → ((get_or (files (stood ++ y ∷ [])) q no_files).birth ≤ most) × (last_cell (get_or (files (stood ++ y ∷ [])) q no_files).cells ≤ most)
  others_now q l a = elim (cases_lt q (length stood)) [
    | inl m ↦
        let n = old_long in
        let o = here.files.others q (omega arith) (ap (λ (z : IndexFiles). z.is_active) (sym (file_old q m)) ∙ a) in
        let birth = o.0 in
        let cell = o.1 in
        let up = last_up x.id.0 in
        subst (λ (z : IndexFiles). (z.birth ≤ most) × (last_cell z.cells ≤ most)) (sym (file_old q m)) (omega (arith, birth, up), omega (arith, cell, up))
    | inr m ↦
        let n = long in
        let at : q ≡ length stood = omega arith in
        subst (λ (z : IndexFiles). (z.birth ≤ most) × (last_cell z.cells ≤ most)) (sym (file_new q at)) (drawn_now, no_cell)
  ]

  none_twice : (xs : List IndexPart) → ((j : ℕ) → j < length xs → (get_or xs j no_part).id ≢ i.0) → HasNone number_of_part i.0 xs
  none_twice [] each = tt
  none_twice (p ∷ xs) each = (each 0 (omega arith), none_twice xs (λ j l. each (suc j) (omega arith)))

  stand_now : (j : ℕ) → j < length born.indexes → HasTableIndex grown.indexes x.id.0 (get_or born.indexes j no_part).id
  stand_now j l = elim (cases_lt j (length w.indexes)) [
    | inl m ↦
        let h = here.stand j m in
        subst (λ (p : IndexPart). HasTableIndex grown.indexes x.id.0 p.id) (sym (get_end_old w.indexes part no_part j m)) (h.0, (stays (get_or w.indexes j no_part).id h.0 h.1.0, h.1.1))
    | inr m ↦
        let n = born_long in
        let at : j ≡ length w.indexes = omega arith in
        subst (λ (p : IndexPart). HasTableIndex grown.indexes x.id.0 p.id) (sym (get_end_new w.indexes part no_part j at)) (y, (index_end_here s.indexes y i.0 refl none_id, table_is))
  ]

  tells_own : TellsTable b es' (with_standing grown f) x born
  tells_own = record {
    kept = kept_born;
    files = record {
      horizon = here.files.horizon;
      cells = here.files.cells;
      active = subst (λ (l : List IndexFiles). (q : ℕ) → q < length l → (get_or l q no_files).is_active ≡ true → Active (get_or l q no_files)) (sym (ap files stood_is)) active_now;
      below = subst (λ (l : List IndexFiles). (q : ℕ) → q < length l → (get_or l q no_files).horizon ≤ born.high) (sym (ap files stood_is)) below_now;
      others = subst (λ (l : List IndexFiles). (q : ℕ) → q < length l → (get_or l q no_files).is_active ≡ false → ((get_or l q no_files).birth ≤ most) × (last_cell (get_or l q no_files).cells ≤ most)) (sym (ap files stood_is)) others_now;
    };
    placed = here.placed;
    once = distinct_end number_of_part w.indexes part here.once (none_twice w.indexes (λ j l same. (let h = here.stand j l in stood_other (get_or w.indexes j no_part).id h.0 h.1.0 (sym same))));
    stand = stand_now;
  }

  tells_each : (q : ℕ) (z : Table) → table_in s.tables q ≡ Some z → TellsTable b es' (with_standing grown f) z (with_part v t.0 born q)
  tells_each q z at = elim (cases_eq q t.0) [
    | inl same ↦
        let one : x ≡ z = one_found s.tables t.0 x z found (subst (λ (k : ℕ). table_in s.tables k ≡ Some z) same at) in
        subst (λ (k : Table). TellsTable b es' (with_standing grown f) k (with_part v t.0 born q)) one
        (subst (λ (k : ℕ). TellsTable b es' (with_standing grown f) x (with_part v t.0 born k)) (sym same) (subst (λ (d : GroupData). TellsTable b es' (with_standing grown f) x d) (sym (with_part-here v t.0 born)) tells_own))
    | inr other ↦ subst (λ (d : GroupData). TellsTable b es' (with_standing grown f) z d) (sym (with_part-other v t.0 born q other)) (tells_other q z other at)
  ]

  pub index_made : Explains b es' (with_standing (stands_after s (IndexIs y)) f) (with_part v t.0 born)
  index_made = subst (λ (k : Standing). Explains b es' (with_standing k f) (with_part v t.0 born)) (sym grown_is) (record {
    legal = legal-snoc b es e told.legal may;
    catalogue = subst (λ (k : Catalogue). TellsCatalogue grown k) (sym (catalogue-snoc b es e ∙ ap (catalogue_step c) is)) catalogue_grown;
    numbered = numbered_grown;
    tables = tells_each;
  })
