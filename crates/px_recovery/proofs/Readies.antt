-- An index becomes active.
use Rattle.std.proofs.Common.{◌≡◌, ◌≢◌, ◌<◌, ◌≤◌, ◌⊎◌, inl, inr, ℕ, true, false, Option, Some, None, List, [], ◌∷◌, ◌++◌, length, get_or, map, refl, sym, ap, subst, ◌∙◌, arith}
use Rattle.std.specs.List.{AllByRecursion}
use Rattle.std.proofs.Math.ListN.{set, length-set}
use Rattle.std.proofs.lemmas.Bool.{cases_eq, false≢true}
use Rattle.std.proofs.lemmas.List.{get_or-set_other, get_or-set_same, length-map}
use Rattle.px_outside.specs.Parts.{with_part}
use Rattle.px_outside.proofs.Parts.{with_part-here, with_part-other}
use Rattle.px_values.specs.declared.name.IndexId.{IndexId}
use Rattle.px_values.specs.declared.name.TableId.{TableId}
use Rattle.px_tables.specs.declared.index.Index.{Index}
use Rattle.px_tables.specs.declared.index.IndexState.TheVariants.{Active}
use Rattle.px_tables.specs.declared.table.Table.{Table}
use Rattle.px_trail.specs.declared.entry.Act.{Act}
use Rattle.px_trail.specs.declared.entry.Act.TheVariants.{IndexState}
use Rattle.px_trail.specs.declared.entry.Entry.{Entry}
use Rattle.px_trail.specs.Legal.{MayCome}
use Rattle.px_trail.specs.Trail.{Base, Catalogue, catalogue_of, catalogue_step, last_of, set_number, with_state}
use Rattle.px_trail.proofs.Growth.{catalogue-snoc, last-snoc, legal-snoc}
use Rattle.px_trail.proofs.Standing.{set_number-other, set_number-same}
use Rattle.px_indexrow.specs.Form.{index_form, owns}
use Rattle.px_indexed.specs.Idle.{IsElsewhere}
use Rattle.px_indexed.proofs.Idle.{act_idle}
use Rattle.px_groupworld.specs.Group.{GroupData, GroupKept, IndexPart, no_part}
use Rattle.px_groupworld.specs.Steps.{ready_data}
use Rattle.px_groupworld.proofs.Entries.{group_idle}
use Rattle.px_tablefolder.specs.Folder.{IndexFiles, IsFilesOf, last_cell, no_files}
use Rattle.px_schema.specs.Stands.{put_index, stands_after}
use Rattle.px_schema.specs.declared.item.CatalogItem.TheVariants.{IndexIs}
use Rattle.px_schema.specs.declared.standing.Standing.{Standing}
use Rattle.px_schema.proofs.Numbers.{below_next, next_up, put_all_indexes}
use Rattle.px_recovery.specs.Folder.{FolderData, with_standing}
use Rattle.px_recovery.specs.Stands.{AreNumbered, Explains, TellsCatalogue, opened_index}
use Rattle.px_recovery.specs.Tables.{HasTableIndex, TellsTable, form_of_index, form_of_table, index_files, index_in, indexes_of, is_active, number_of_index, region_of_index, table_in}
use Rattle.px_recovery.proofs.Forms.{other_forms, same_table}
use Rattle.px_recovery.proofs.Lookups.{index_first, index_later}
use Rattle.px_recovery.proofs.Notes.{last_step_up}
use Rattle.px_recovery.proofs.Numbered.{found_number, one_found}
use Rattle.px_recovery.proofs.Swaps.{AreSwapped, distinct_kept, none_kept, put_here, put_other, put_swapped, same_of, swapped_at, swapped_long, swapped_of}
use Rattle.px_recovery.proofs.Tables.{at_map, distinct_set, standing_set}

abbrev pub ready : Index → Index
ready z = record z { state = Active }

abbrev readied : Option Index → Option Index
readied None = None
readied (Some z) = Some (ready z)

-- the state tells nothing of how index rows are spelled
same_form : (x : Table) (z : Index) → index_form x (ready z) ≡ index_form x z
unfolding owns
same_form x z = refl

ready_step : (o : Option Index) (stamp n : ℕ) → with_state Active stamp n o ≡ readied o
ready_step None stamp n = refl
ready_step (Some z) stamp n = refl

readied_twice : (o : Option Index) → readied (opened_index o) ≡ readied o
readied_twice None = refl
readied_twice (Some z) = refl

opened_ready : (o : Option Index) → opened_index (readied o) ≡ readied o
opened_ready None = refl
opened_ready (Some z) = refl

-- a number that was drawn is found by another
index_number_is : (xs : List Index) (n : ℕ) (z : Index) → index_in xs n ≡ Some z → z.id.0 ≡ n
unfolding index_in
index_number_is [] n z found = absurd cc
index_number_is (x ∷ xs) n z found = elim (cases_eq x.id.0 n) [
  | inl e ↦ (let is : x ≡ z = (let k : Some x ≡ Some z = sym (index_first x xs n e) ∙ found in cc) in ap number_of_index (sym is) ∙ e)
  | inr e ↦ index_number_is xs n z (sym (index_later x xs n e) ∙ found)
]

found_below : (P : Index → Type 0) (xs : List Index) (n : ℕ) (z : Index) → AllByRecursion P xs → index_in xs n ≡ Some z → P z
unfolding index_in
found_below P [] n z all found = absurd cc
found_below P (x ∷ xs) n z all found = elim (cases_eq x.id.0 n) [
  | inl e ↦ (let is : x ≡ z = (let k : Some x ≡ Some z = sym (index_first x xs n e) ∙ found in cc) in subst P is all.0)
  | inr e ↦ found_below P xs n z all.1 (sym (index_later x xs n e) ∙ found)
]

module _ (b : Base) (es : List Entry) (f : FolderData) (v : ℕ → GroupData) (told : Explains b es f v) (e : Entry) (may : MayCome b es e) (t : TableId) (i : IndexId) (stamp : ℕ) (is : e.act ≡ IndexState t i Active stamp)
    (x : Table) (found : table_in f.standing.tables t.0 ≡ Some x) (z : Index) (stood : index_in f.standing.indexes i.0 ≡ Some z) (mine : z.table.0 ≡ t.0) where
  abbrev s : Standing
  s = f.standing

  abbrev c : Catalogue
  c = catalogue_of b es

  abbrev es' : List Entry
  es' = es ++ e ∷ []

  abbrev y : Index
  y = ready z

  abbrev now : Standing
  now = stands_after s (IndexIs y)

  number : z.id.0 ≡ i.0
  number = index_number_is s.indexes i.0 z stood

  own : x.id.0 ≡ t.0
  own = found_number s.tables t.0 x found

  swapped : AreSwapped z y refl refl s.indexes (put_index s.indexes y)
  swapped = put_swapped z y refl refl s.indexes (subst (λ (n : ℕ). index_in s.indexes n ≡ Some z) (sym number) stood) told.numbered.ids

  region_low : z.region < s.next
  region_low = (found_below (λ w. AllByRecursion (λ (k : ℕ). k < s.next) (w.region ∷ w.id.0 ∷ [])) s.indexes i.0 z told.numbered.below.indexes stood).0

  id_low : z.id.0 < s.next
  id_low = (found_below (λ w. AllByRecursion (λ (k : ℕ). k < s.next) (w.region ∷ w.id.0 ∷ [])) s.indexes i.0 z told.numbered.below.indexes stood).1.0

  same_next : now.next ≡ s.next
  same_next = let a = region_low in let d = id_low in omega arith

  catalogue_ready : TellsCatalogue now (catalogue_step c (IndexState t i Active stamp))
  unfolding catalogue_step
  catalogue_ready = record {
    next = (let a = same_next in let n = told.catalogue.next in omega arith);
    tables = told.catalogue.tables;
    indexes = λ q. elim (cases_eq i.0 q) [
      | inl same ↦
          let told_here : readied (Some z) ≡ readied (c.indexes i.0) = sym (readied_twice (Some z)) ∙ (ap readied (sym (ap opened_index stood) ∙ told.catalogue.indexes i.0) ∙ readied_twice (c.indexes i.0)) in
          ap opened_index (put_here z y refl refl s.indexes q (number ∙ same))
          ∙ (told_here ∙ (sym (opened_ready (c.indexes i.0)) ∙ ap opened_index (sym (ready_step (c.indexes i.0) stamp c.next)
          ∙ sym (subst (λ (m : ℕ). set_number i.0 (with_state Active stamp c.next (c.indexes i.0)) c.indexes m ≡ with_state Active stamp c.next (c.indexes i.0)) same (set_number-same i.0 (with_state Active stamp c.next (c.indexes i.0)) c.indexes)))))
      | inr other ↦
          ap opened_index (put_other z y refl refl s.indexes q (λ at. other (sym number ∙ at)))
          ∙ (told.catalogue.indexes q ∙ sym (ap opened_index (set_number-other i.0 (with_state Active stamp c.next (c.indexes i.0)) c.indexes q other)))
    ];
  }

  numbered_ready : AreNumbered now
  numbered_ready = record {
    tables = told.numbered.tables;
    each = told.numbered.each;
    apart = λ q n w at one. none_kept z y refl refl region_of_index refl n s.indexes (put_index s.indexes y) swapped (told.numbered.apart q n w at one);
    indexes = distinct_kept z y refl refl region_of_index refl s.indexes (put_index s.indexes y) swapped told.numbered.indexes;
    ids = distinct_kept z y refl refl number_of_index refl s.indexes (put_index s.indexes y) swapped told.numbered.ids;
    some = told.numbered.some;
    some_index = put_all_indexes (λ (w : Index). 1 ≤ w.region) s.indexes y told.numbered.some_index (found_below (λ w. 1 ≤ w.region) s.indexes i.0 z told.numbered.some_index stood);
    below = below_next s (IndexIs y) told.numbered.below;
    least = (let up = next_up s (IndexIs y) in let l = told.numbered.least in omega arith);
  }

  last_up : (q : ℕ) → last_of b q es ≤ last_of b q es'
  last_up q = let up = last_step_up q (last_of b q es) e.act in let l = last-snoc b q es e in omega arith

  tells_other : (q : ℕ) (w : Table) → q ≢ t.0 → table_in s.tables q ≡ Some w → TellsTable b es' (with_standing now f) w (v q)
  tells_other q w apart at =
      let here = told.tables q w at in
      let num = found_number s.tables q w at in
      same_table b es es' f now w (v q) here
      (group_idle (form_of_table b s.indexes w) es (v q) here.kept e may (act_idle w.id e (subst (λ (a : Act). IsElsewhere w.id a) (sym is) tt))).kept
      (last_up w.id.0)
      (λ n k there its. put_other z y refl refl s.indexes n (λ same.
      let one : Some z ≡ Some k = sym stood ∙ (ap (index_in s.indexes) (sym number ∙ same) ∙ there) in
      let one_is : z ≡ k = cc in
      apart (sym num ∙ (sym its ∙ (ap (λ (j : Index). j.table.0) (sym one_is) ∙ mine)))) ∙ there)
      (same_of z y refl refl w.id.0 s.indexes (put_index s.indexes y) (λ same. apart (sym num ∙ (same ∙ mine))) swapped)

  -- ---- its own table, where the files tell of the index

  module _ (j : ℕ) (lt : j < length (v t.0).indexes) (id : (get_or (v t.0).indexes j no_part).id ≡ i.0) (built : IsFilesOf (record (get_or (v t.0).indexes j no_part) { is_built = true }) (index_files f.regions y))
      (kept : GroupKept (form_of_table b s.indexes x) es' (ready_data j (v t.0))) where
    abbrev w : GroupData
    w = v t.0

    abbrev part : IndexPart
    part = record (get_or w.indexes j no_part) { is_built = true }

    abbrev parts : List IndexPart
    parts = set w.indexes j part

    here : TellsTable b es f x w
    here = told.tables t.0 x found

    stand_before : (k : ℕ) → k < length parts → HasTableIndex s.indexes x.id.0 (get_or parts k no_part).id
    stand_before = standing_set s.indexes x.id.0 w.indexes j part refl here.stand

    -- an index that stood stands, as it did or as ready
    found_now : (n : ℕ) (k : Index) → index_in s.indexes n ≡ Some k → (index_in now.indexes n ≡ Some k) ⊎ ((k ≡ z) × (index_in now.indexes n ≡ Some y))
    found_now n k at = elim (cases_eq y.id.0 n) [
      | inl same ↦ inr ((let one : Some k ≡ Some z = sym at ∙ (ap (index_in s.indexes) (sym same ∙ number) ∙ stood) in cc), put_here z y refl refl s.indexes n same)
      | inr other ↦ inl (put_other z y refl refl s.indexes n other ∙ at)
    ]

    form_now : (n : ℕ) (k : Index) → index_in s.indexes n ≡ Some k → form_of_index x (index_in now.indexes n) ≡ form_of_index x (index_in s.indexes n)
    form_now n k at = elim (found_now n k at) [
      | inl a ↦ ap (form_of_index x) (a ∙ sym at)
      | inr a ↦ ap (form_of_index x) a.1 ∙ (same_form x z ∙ (ap (λ (l : Index). index_form x l) (sym a.0) ∙ ap (form_of_index x) (sym at)))
    ]

    stand_now : (k : ℕ) → k < length parts → HasTableIndex now.indexes x.id.0 (get_or parts k no_part).id
    stand_now k l =
        let h = stand_before k l in
        elim (found_now (get_or parts k no_part).id h.0 h.1.0) [
          | inl a ↦ (h.0, (a, h.1.1))
          | inr a ↦ (y, (a.1, mine ∙ sym own))
        ]

    -- the files, place by place
    abbrev old : List Index
    old = indexes_of x.id.0 s.indexes

    abbrev new : List Index
    new = indexes_of x.id.0 now.indexes

    swaps : AreSwapped z y refl refl old new
    swaps = swapped_of z y refl refl x.id.0 s.indexes (put_index s.indexes y) swapped

    long : length new ≡ length old
    long = swapped_long z y refl refl old new swaps

    abbrev g : Index → IndexFiles
    g = index_files f.regions

    old_file : (q : ℕ) → q < length old → get_or (map g old) q no_files ≡ g (get_or old q z)
    old_file q l = at_map g old q no_files z l

    new_file : (q : ℕ) → q < length old → get_or (map g new) q no_files ≡ g (get_or new q z)
    new_file q l = let n = long in at_map g new q no_files z (omega arith)

    inside : (q : ℕ) → q < length (map g new) → q < length old
    inside q l = let n = long in let m = length-map new g in omega arith

    old_inside : (q : ℕ) → q < length old → q < length (map g old)
    old_inside q l = let m = length-map old g in omega arith

    abbrev Active_ : IndexFiles → Type 0
    Active_ k = (m : ℕ) × ((m < length parts) × IsFilesOf (get_or parts m no_part) k)

    parts_long : length parts ≡ length w.indexes
    parts_long = length-set w.indexes j part

    active_ready : Active_ (g y)
    active_ready = (j, ((let n = parts_long in omega arith), subst (λ (p : IndexPart). IsFilesOf p (g y)) (sym (get_or-set_same w.indexes j part no_part lt)) built))

    active_same : (q : ℕ) (k : Index) → q < length old → get_or old q z ≡ k → k.id.0 ≢ y.id.0 → is_active k.state ≡ true → Active_ (g k)
    active_same q k l at other a =
        let file : get_or (map g old) q no_files ≡ g k = old_file q l ∙ ap g at in
        let o = here.files.active q (old_inside q l) (ap (λ (m : IndexFiles). m.is_active) file ∙ a) in
        let told_here : IsFilesOf (get_or w.indexes o.0 no_part) (g k) = subst (λ (m : IndexFiles). IsFilesOf (get_or w.indexes o.0 no_part) m) file o.1.1 in
        let apart : o.0 ≢ j = (λ same. other (sym told_here.id ∙ (ap (λ (m : ℕ). (get_or w.indexes m no_part).id) same ∙ (id ∙ sym number)))) in
        let lt' = o.1.0 in
        (o.0, ((let n = parts_long in omega arith), subst (λ (p : IndexPart). IsFilesOf p (g k)) (sym (get_or-set_other w.indexes j o.0 part no_part apart)) told_here))

    active_now : (q : ℕ) → q < length old → is_active (get_or new q z).state ≡ true → Active_ (g (get_or new q z))
    active_now q l a = elim (swapped_at z y refl refl old new q z swaps l) [
      | inl k ↦ active_same q (get_or new q z) l (sym k.0) (λ same. k.1 (ap number_of_index (sym k.0) ∙ same)) a
      | inr k ↦ subst (λ (m : Index). Active_ (g m)) (sym k.1) active_ready
    ]

    abbrev most : ℕ
    most = last_of b x.id.0 es'

    below_now : (q : ℕ) → q < length old → (g (get_or new q z)).horizon ≤ w.high
    below_now q l =
        let o = here.files.below q (old_inside q l) in
        let h : (g (get_or old q z)).horizon ≤ w.high = subst (λ (m : IndexFiles). m.horizon ≤ w.high) (old_file q l) o in
        elim (swapped_at z y refl refl old new q z swaps l) [
          | inl k ↦ subst (λ (m : Index). (g m).horizon ≤ w.high) (sym k.0) h
          | inr k ↦ subst (λ (m : Index). (g m).horizon ≤ w.high) (sym k.1) (subst (λ (m : Index). (g m).horizon ≤ w.high) k.0 h)
        ]

    others_now : (q : ℕ) → q < length old → is_active (get_or new q z).state ≡ false → ((g (get_or new q z)).birth ≤ most) × (last_cell (g (get_or new q z)).cells ≤ most)
    others_now q l a = elim (swapped_at z y refl refl old new q z swaps l) [
      | inl k ↦
          let o = here.files.others q (old_inside q l) (ap (λ (m : IndexFiles). m.is_active) (old_file q l) ∙ (ap (λ (m : Index). is_active m.state) (sym k.0) ∙ a)) in
          let h : ((g (get_or old q z)).birth ≤ last_of b x.id.0 es) × (last_cell (g (get_or old q z)).cells ≤ last_of b x.id.0 es) = subst (λ (m : IndexFiles). (m.birth ≤ last_of b x.id.0 es) × (last_cell m.cells ≤ last_of b x.id.0 es)) (old_file q l) o in
          let birth = h.0 in
          let cell = h.1 in
          let up = last_up x.id.0 in
          subst (λ (m : Index). ((g m).birth ≤ most) × (last_cell (g m).cells ≤ most)) (sym k.0) (omega (arith, birth, up), omega (arith, cell, up))
      | inr k ↦ absurd (false≢true (sym a ∙ ap (λ (m : Index). is_active m.state) k.1))
    ]

    tells_own : TellsTable b es' (with_standing now f) x (ready_data j w)
    tells_own = record {
      kept = other_forms (form_of_table b s.indexes x) (λ n. form_of_index x (index_in now.indexes n)) es' (ready_data j w) (λ k l. (let h = stand_before k l in form_now (get_or parts k no_part).id h.0 h.1.0)) kept;
      files = record {
        horizon = here.files.horizon;
        cells = here.files.cells;
        active = λ q l a. (let m = inside q l in subst Active_ (sym (new_file q m)) (active_now q m (ap (λ (k : IndexFiles). k.is_active) (sym (new_file q m)) ∙ a)));
        below = λ q l. (let m = inside q l in subst (λ (k : IndexFiles). k.horizon ≤ w.high) (sym (new_file q m)) (below_now q m));
        others = λ q l a. (let m = inside q l in subst (λ (k : IndexFiles). (k.birth ≤ most) × (last_cell k.cells ≤ most)) (sym (new_file q m)) (others_now q m (ap (λ (k : IndexFiles). k.is_active) (sym (new_file q m)) ∙ a)));
      };
      placed = here.placed;
      once = distinct_set w.indexes j part no_part lt refl here.once;
      stand = stand_now;
    }

    tells_each : (q : ℕ) (k : Table) → table_in s.tables q ≡ Some k → TellsTable b es' (with_standing now f) k (with_part v t.0 (ready_data j w) q)
    tells_each q k at = elim (cases_eq q t.0) [
      | inl same ↦
          let one : x ≡ k = one_found s.tables t.0 x k found (subst (λ (m : ℕ). table_in s.tables m ≡ Some k) same at) in
          subst (λ (m : Table). TellsTable b es' (with_standing now f) m (with_part v t.0 (ready_data j w) q)) one
          (subst (λ (m : ℕ). TellsTable b es' (with_standing now f) x (with_part v t.0 (ready_data j w) m)) (sym same)
          (subst (λ (d : GroupData). TellsTable b es' (with_standing now f) x d) (sym (with_part-here v t.0 (ready_data j w))) tells_own))
      | inr other ↦ subst (λ (d : GroupData). TellsTable b es' (with_standing now f) k d) (sym (with_part-other v t.0 (ready_data j w) q other)) (tells_other q k other at)
    ]

    pub index_ready : Explains b es' (with_standing now f) (with_part v t.0 (ready_data j w))
    index_ready = record {
      legal = legal-snoc b es e told.legal may;
      catalogue = subst (λ (k : Catalogue). TellsCatalogue now k) (sym (catalogue-snoc b es e ∙ ap (catalogue_step c) is)) catalogue_ready;
      numbered = numbered_ready;
      tables = tells_each;
    }
