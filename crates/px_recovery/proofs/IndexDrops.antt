-- An index is dropped.
use Rattle.std.proofs.Common.{◌≡◌, ◌≢◌, ◌<◌, ◌≤◌, inl, inr, ℕ, Bool, true, false, Some, None, List, [], ◌∷◌, ◌++◌, length, get_or, map, sym, ap, subst, ◌∙◌, arith}
use Rattle.std.specs.Prelude.{filter, if◌then◌else◌, not, ◌==◌}
use Rattle.std.proofs.lemmas.Bool.{cases_eq, eq-eqb, false≢true, ne_eqb}
use Rattle.std.proofs.lemmas.List.{length-map}
use Rattle.px_outside.specs.Parts.{AreDistinct, HasNone, with_part}
use Rattle.px_outside.proofs.Parts.{with_part-here, with_part-other}
use Rattle.px_values.specs.declared.name.IndexId.{IndexId}
use Rattle.px_values.specs.declared.name.TableId.{TableId}
use Rattle.px_tables.specs.declared.index.Index.{Index}
use Rattle.px_tables.specs.declared.table.Table.{Table}
use Rattle.px_trail.specs.declared.entry.Act.{Act}
use Rattle.px_trail.specs.declared.entry.Act.TheVariants.{Dropped}
use Rattle.px_trail.specs.declared.entry.Entry.{Entry}
use Rattle.px_trail.specs.Legal.{MayCome}
use Rattle.px_trail.specs.Trail.{Base, Catalogue, catalogue_of, catalogue_step, last_of, set_number}
use Rattle.px_trail.proofs.Growth.{catalogue-snoc, last-snoc, legal-snoc}
use Rattle.px_trail.proofs.Standing.{set_number-other, set_number-same}
use Rattle.px_indexed.specs.Idle.{IsElsewhere}
use Rattle.px_indexed.proofs.Idle.{act_idle}
use Rattle.px_groupworld.specs.Group.{GroupData, GroupKept, IndexPart, no_part}
use Rattle.px_groupworld.proofs.Entries.{group_idle}
use Rattle.px_tablefolder.specs.Folder.{IndexFiles, IsFilesOf, last_cell, no_files}
use Rattle.px_schema.specs.Stands.{stands_after}
use Rattle.px_schema.specs.declared.item.CatalogItem.TheVariants.{IndexGone}
use Rattle.px_schema.specs.declared.standing.Standing.{Standing}
use Rattle.px_schema.proofs.Numbers.{below_next, filter_all}
use Rattle.px_recovery.specs.Folder.{FolderData, with_standing}
use Rattle.px_recovery.specs.Stands.{AreNumbered, Explains, TellsCatalogue, opened_index}
use Rattle.px_recovery.specs.Tables.{HasTableIndex, TellsTable, form_of_index, form_of_table, index_files, index_in, indexes_of, number_of_index, number_of_part, region_of_index, table_in, without_index}
use Rattle.px_recovery.proofs.Fewer.{filter_swap, from_filter, index_gone_here, index_gone_other, indexes_gone_other, kept_fewer, one_is, to_filter}
use Rattle.px_recovery.proofs.Forms.{other_forms, same_table}
use Rattle.px_recovery.proofs.Notes.{last_step_up}
use Rattle.px_recovery.proofs.Numbered.{distinct_filter, found_number, none_filter, one_found}
use Rattle.px_recovery.proofs.Tables.{at_map}

-- ---- a table's indexes without one

none_fewer : (n : ℕ) (keep : IndexPart → Bool) (xs : List IndexPart) → HasNone number_of_part n xs → HasNone number_of_part n (filter keep xs)
none_fewer n keep [] none = tt
none_fewer n keep (p ∷ xs) none = none_if (keep p) (none_fewer n keep xs none.1)
  where
    none_if : (c : Bool) → HasNone number_of_part n (filter keep xs) → HasNone number_of_part n (if c then p ∷ filter keep xs else filter keep xs)
    none_if true rest = (none.0, rest)
    none_if false rest = rest

pub once_fewer : (keep : IndexPart → Bool) (xs : List IndexPart) → AreDistinct number_of_part xs → AreDistinct number_of_part (filter keep xs)
once_fewer keep [] once = tt
once_fewer keep (p ∷ xs) once = once_if (keep p) (none_fewer (number_of_part p) keep xs once.0) (once_fewer keep xs once.1)
  where
    once_if : (c : Bool) → HasNone number_of_part (number_of_part p) (filter keep xs) → AreDistinct number_of_part (filter keep xs) → AreDistinct number_of_part (if c then p ∷ filter keep xs else filter keep xs)
    once_if true none rest = (none, rest)
    once_if false none rest = rest

not_same : (n m : ℕ) → not (n == m) ≡ true → n ≢ m
not_same n m h same = false≢true (sym (ap not (eq-eqb n m same)) ∙ h)

are_other : (n m : ℕ) → n ≢ m → not (n == m) ≡ true
are_other n m other = ap not (ne_eqb n m other)

module _ (b : Base) (es : List Entry) (f : FolderData) (v : ℕ → GroupData) (told : Explains b es f v) (e : Entry) (may : MayCome b es e) (t : TableId) (i : IndexId) (is : e.act ≡ Dropped t (Some i))
    (x : Table) (found : table_in f.standing.tables t.0 ≡ Some x) (z : Index) (stood : index_in f.standing.indexes i.0 ≡ Some z) (mine : z.table.0 ≡ t.0) (closed : (v t.0).opens ≡ []) where
  abbrev s : Standing
  s = f.standing

  abbrev c : Catalogue
  c = catalogue_of b es

  abbrev es' : List Entry
  es' = es ++ e ∷ []

  abbrev now : Standing
  now = stands_after s (IndexGone i)

  abbrev keep : Index → Bool
  keep k = not (k.id.0 == i.0)

  own : x.id.0 ≡ t.0
  own = found_number s.tables t.0 x found

  catalogue_less : TellsCatalogue now (catalogue_step c (Dropped t (Some i)))
  unfolding catalogue_step
  catalogue_less = record {
    next = told.catalogue.next;
    tables = told.catalogue.tables;
    indexes = λ q. elim (cases_eq i.0 q) [
      | inl same ↦ ap opened_index (index_gone_here s.indexes i.0 q same) ∙ sym (ap opened_index (subst (λ (m : ℕ). set_number i.0 None c.indexes m ≡ None) same (set_number-same i.0 None c.indexes)))
      | inr other ↦ ap opened_index (index_gone_other s.indexes i.0 q other) ∙ (told.catalogue.indexes q ∙ sym (ap opened_index (set_number-other i.0 None c.indexes q other)))
    ];
  }

  numbered_less : AreNumbered now
  numbered_less = record {
    tables = told.numbered.tables;
    each = told.numbered.each;
    apart = λ q n k at one. none_filter region_of_index n keep s.indexes (told.numbered.apart q n k at one);
    indexes = distinct_filter region_of_index keep s.indexes told.numbered.indexes;
    ids = distinct_filter number_of_index keep s.indexes told.numbered.ids;
    some = told.numbered.some;
    some_index = filter_all (λ (k : Index). 1 ≤ k.region) keep s.indexes told.numbered.some_index;
    below = below_next s (IndexGone i) told.numbered.below;
    least = told.numbered.least;
  }

  last_up : (q : ℕ) → last_of b q es ≤ last_of b q es'
  last_up q = let up = last_step_up q (last_of b q es) e.act in let l = last-snoc b q es e in omega arith

  idle : (k : Table) → IsElsewhere k.id e.act
  idle k = subst (λ (a : Act). IsElsewhere k.id a) (sym is) tt

  tells_other : (q : ℕ) (k : Table) → q ≢ t.0 → table_in s.tables q ≡ Some k → TellsTable b es' (with_standing now f) k (v q)
  tells_other q k apart at =
      let here = told.tables q k at in
      let num = found_number s.tables q k at in
      same_table b es es' f now k (v q) here (group_idle (form_of_table b s.indexes k) es (v q) here.kept e may (act_idle k.id e (idle k))).kept (last_up k.id.0)
      (λ n m there its. index_gone_other s.indexes i.0 n (λ same.
      let one : Some z ≡ Some m = sym stood ∙ (ap (index_in s.indexes) same ∙ there) in
      let one_is : z ≡ m = cc in
      apart (sym num ∙ (sym its ∙ (ap (λ (j : Index). j.table.0) (sym one_is) ∙ mine)))) ∙ there)
      (indexes_gone_other k.id.0 i.0 s.indexes (one_is i.0 (λ (m : Index). m.table.0 ≢ k.id.0) s.indexes z stood told.numbered.ids (λ same. apart (sym num ∙ (sym same ∙ mine)))))

  -- ---- its own table

  abbrev w : GroupData
  w = v t.0

  abbrev keeps : IndexPart → Bool
  keeps p = not (p.id == i.0)

  abbrev w' : GroupData
  w' = without_index i.0 w

  here : TellsTable b es f x w
  here = told.tables t.0 x found

  kept_now : GroupKept (form_of_table b s.indexes x) es' w'
  kept_now = kept_fewer (form_of_table b s.indexes x) es' w keeps (group_idle (form_of_table b s.indexes x) es w here.kept e may (act_idle x.id e (idle x))).kept closed

  stays : (n : ℕ) (k : Index) → n ≢ i.0 → index_in s.indexes n ≡ Some k → index_in now.indexes n ≡ Some k
  stays n k other at = index_gone_other s.indexes i.0 n (λ same. other (sym same)) ∙ at

  stand_now : (k : ℕ) → k < length w'.indexes → HasTableIndex now.indexes x.id.0 (get_or w'.indexes k no_part).id
  stand_now k l =
      let m = from_filter keeps w.indexes no_part k l in
      let h = here.stand m.0 m.1.0 in
      subst (λ (p : IndexPart). HasTableIndex now.indexes x.id.0 p.id) (sym m.1.1.0) (h.0, (stays (get_or w.indexes m.0 no_part).id h.0 (not_same (get_or w.indexes m.0 no_part).id i.0 m.1.1.1) h.1.0, h.1.1))

  form_now : (k : ℕ) → k < length w'.indexes → form_of_index x (index_in now.indexes (get_or w'.indexes k no_part).id) ≡ form_of_index x (index_in s.indexes (get_or w'.indexes k no_part).id)
  form_now k l =
      let m = from_filter keeps w.indexes no_part k l in
      let h = here.stand m.0 m.1.0 in
      subst (λ (p : IndexPart). form_of_index x (index_in now.indexes p.id) ≡ form_of_index x (index_in s.indexes p.id)) (sym m.1.1.0)
      (ap (form_of_index x) (stays (get_or w.indexes m.0 no_part).id h.0 (not_same (get_or w.indexes m.0 no_part).id i.0 m.1.1.1) h.1.0 ∙ sym h.1.0))

  -- the files, place by place
  abbrev old : List Index
  old = indexes_of x.id.0 s.indexes

  abbrev g : Index → IndexFiles
  g = index_files f.regions

  new_is : indexes_of x.id.0 now.indexes ≡ filter keep old
  new_is = filter_swap (λ (k : Index). k.table.0 == x.id.0) keep s.indexes

  abbrev Active : IndexFiles → Type 0
  Active k = (m : ℕ) × ((m < length w'.indexes) × IsFilesOf (get_or w'.indexes m no_part) k)

  -- what holds of the files of the indexes that stay holds of those of the folder then
  each_file : (P : IndexFiles → Type 0) → ((m : ℕ) → m < length old → keep (get_or old m z) ≡ true → P (g (get_or old m z))) → (q : ℕ) → q < length (map g (filter keep old)) → P (get_or (map g (filter keep old)) q no_files)
  each_file P each q l =
      let n = length-map (filter keep old) g in
      let lt : q < length (filter keep old) = omega arith in
      let m = from_filter keep old z q lt in
      subst P (sym (at_map g (filter keep old) q no_files z lt ∙ ap g m.1.1.0)) (each m.0 m.1.0 m.1.1.1)

  old_file : (m : ℕ) → m < length old → get_or (map g old) m no_files ≡ g (get_or old m z)
  old_file m l = at_map g old m no_files z l

  old_inside : (m : ℕ) → m < length old → m < length (map g old)
  old_inside m l = let n = length-map old g in omega arith

  active_each : (m : ℕ) → m < length old → keep (get_or old m z) ≡ true → (g (get_or old m z)).is_active ≡ true → Active (g (get_or old m z))
  active_each m l stay a =
      let o = here.files.active m (old_inside m l) (ap (λ (k : IndexFiles). k.is_active) (old_file m l) ∙ a) in
      let its : IsFilesOf (get_or w.indexes o.0 no_part) (g (get_or old m z)) = subst (λ (k : IndexFiles). IsFilesOf (get_or w.indexes o.0 no_part) k) (old_file m l) o.1.1 in
      let k = to_filter keeps w.indexes no_part o.0 o.1.0 (are_other (get_or w.indexes o.0 no_part).id i.0 (λ same. not_same (get_or old m z).id.0 i.0 stay (sym its.id ∙ same))) in
      (k.0, (k.1.0, subst (λ (p : IndexPart). IsFilesOf p (g (get_or old m z))) (sym k.1.1) its))

  abbrev most : ℕ
  most = last_of b x.id.0 es'

  others_each : (m : ℕ) → m < length old → (g (get_or old m z)).is_active ≡ false → ((g (get_or old m z)).birth ≤ most) × (last_cell (g (get_or old m z)).cells ≤ most)
  others_each m l a =
      let o = here.files.others m (old_inside m l) (ap (λ (k : IndexFiles). k.is_active) (old_file m l) ∙ a) in
      let h : ((g (get_or old m z)).birth ≤ last_of b x.id.0 es) × (last_cell (g (get_or old m z)).cells ≤ last_of b x.id.0 es) = subst (λ (k : IndexFiles). (k.birth ≤ last_of b x.id.0 es) × (last_cell k.cells ≤ last_of b x.id.0 es)) (old_file m l) o in
      let birth = h.0 in
      let cell = h.1 in
      let up = last_up x.id.0 in
      (omega (arith, birth, up), omega (arith, cell, up))

  abbrev AllOf : (IndexFiles → Type 0) → List Index → Type 0
  AllOf P l = (q : ℕ) → q < length (map g l) → P (get_or (map g l) q no_files)

  tells_own : TellsTable b es' (with_standing now f) x w'
  tells_own = record {
    kept = other_forms (form_of_table b s.indexes x) (λ n. form_of_index x (index_in now.indexes n)) es' w' form_now kept_now;
    files = record {
      horizon = here.files.horizon;
      cells = here.files.cells;
      active = subst (AllOf (λ k. k.is_active ≡ true → Active k)) (sym new_is) (each_file (λ k. k.is_active ≡ true → Active k) (λ m l stay a. active_each m l stay a));
      below = subst (AllOf (λ k. k.horizon ≤ w.high)) (sym new_is) (each_file (λ k. k.horizon ≤ w.high) (λ m l stay. subst (λ (k : IndexFiles). k.horizon ≤ w.high) (old_file m l) (here.files.below m (old_inside m l))));
      others = subst (AllOf (λ k. k.is_active ≡ false → (k.birth ≤ most) × (last_cell k.cells ≤ most))) (sym new_is) (each_file (λ k. k.is_active ≡ false → (k.birth ≤ most) × (last_cell k.cells ≤ most)) (λ m l stay a. others_each m l a));
    };
    placed = here.placed;
    once = once_fewer keeps w.indexes here.once;
    stand = stand_now;
  }

  tells_each : (q : ℕ) (k : Table) → table_in s.tables q ≡ Some k → TellsTable b es' (with_standing now f) k (with_part v t.0 w' q)
  tells_each q k at = elim (cases_eq q t.0) [
    | inl same ↦
        let one : x ≡ k = one_found s.tables t.0 x k found (subst (λ (m : ℕ). table_in s.tables m ≡ Some k) same at) in
        subst (λ (m : Table). TellsTable b es' (with_standing now f) m (with_part v t.0 w' q)) one
        (subst (λ (m : ℕ). TellsTable b es' (with_standing now f) x (with_part v t.0 w' m)) (sym same) (subst (λ (d : GroupData). TellsTable b es' (with_standing now f) x d) (sym (with_part-here v t.0 w')) tells_own))
    | inr other ↦ subst (λ (d : GroupData). TellsTable b es' (with_standing now f) k d) (sym (with_part-other v t.0 w' q other)) (tells_other q k other at)
  ]

  pub index_gone : Explains b es' (with_standing now f) (with_part v t.0 w')
  index_gone = record {
    legal = legal-snoc b es e told.legal may;
    catalogue = subst (λ (k : Catalogue). TellsCatalogue now k) (sym (catalogue-snoc b es e ∙ ap (catalogue_step c) is)) catalogue_less;
    numbered = numbered_less;
    tables = tells_each;
  }
