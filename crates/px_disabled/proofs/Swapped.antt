-- The folder tells a table of which one index stands with another record, as one that queries don't read.
use Rattle.std.proofs.Common.{◌≡◌, ◌≢◌, ◌<◌, ◌≤◌, inl, inr, ℕ, suc, Bool, true, false, Some, List, [], ◌∷◌, ◌++◌, length, get_or, map, refl, sym, ap, subst, ◌∙◌, arith}
use Rattle.std.specs.Prelude.{if◌then◌else◌, not, ◌==◌}
use Rattle.std.specs.List.{AllByRecursion}
use Rattle.std.proofs.lemmas.Bool.{cases_eq, eq-eqb, false≢true, ne_eqb}
use Rattle.std.proofs.lemmas.List.{length-map}
use Rattle.px_outside.specs.Parts.{AreDistinct, with_part}
use Rattle.px_outside.proofs.Parts.{with_part-here, with_part-other}
use Rattle.px_cells.specs.Contents.{Contents}
use Rattle.px_values.specs.declared.name.TableId.{TableId}
use Rattle.px_tables.specs.declared.index.Index.{Index}
use Rattle.px_tables.specs.declared.table.Table.{Table}
use Rattle.px_trail.specs.declared.entry.Entry.{Entry}
use Rattle.px_trail.specs.Legal.{MayCome}
use Rattle.px_trail.specs.Trail.{Base, catalogue_of, last_of}
use Rattle.px_trail.proofs.Growth.{last-snoc, legal-snoc}
use Rattle.px_indexed.specs.Idle.{IsElsewhere}
use Rattle.px_indexed.proofs.Idle.{act_idle}
use Rattle.px_indexed.proofs.Regions.{none_above}
use Rattle.px_groupworld.specs.Group.{GroupData, GroupKept, IndexPart, indexed_at, no_part}
use Rattle.px_groupworld.proofs.Entries.{group_idle}
use Rattle.px_tablefolder.specs.Folder.{IndexFiles, IsFilesOf, IsFolderOf, last_cell, no_files}
use Rattle.px_tablefolder.proofs.Stamped.{cells_within}
use Rattle.px_schema.specs.Stands.{stands_after}
use Rattle.px_schema.specs.declared.item.CatalogItem.TheVariants.{IndexIs}
use Rattle.px_schema.specs.declared.standing.Standing.{Standing}
use Rattle.px_recovery.specs.Folder.{FolderData, with_standing}
use Rattle.px_recovery.specs.Stands.{AreNumbered, Explains, TellsCatalogue}
use Rattle.px_recovery.specs.Tables.{HasTableIndex, TellsTable, form_of_index, form_of_table, index_files, index_in, indexes_of, is_active, number_of_part, table_files, table_in, without_index}
use Rattle.px_recovery.proofs.Fewer.{from_filter, kept_fewer, to_filter}
use Rattle.px_recovery.proofs.Forms.{other_forms, same_table}
use Rattle.px_recovery.proofs.IndexDrops.{once_fewer}
use Rattle.px_recovery.proofs.Lookups.{index_first, index_later}
use Rattle.px_recovery.proofs.Notes.{last_step_up}
use Rattle.px_recovery.proofs.Numbered.{found_number, one_found}
use Rattle.px_recovery.proofs.Swaps.{AreSwapped, put_other, put_swapped, same_of, swapped_at, swapped_long, swapped_of}
use Rattle.px_recovery.proofs.Tables.{at_map}

not_same : (n m : ℕ) → not (n == m) ≡ true → n ≢ m
not_same n m h same = false≢true (sym (ap not (eq-eqb n m same)) ∙ h)

are_other : (n m : ℕ) → n ≢ m → not (n == m) ≡ true
are_other n m other = ap not (ne_eqb n m other)

all_places : (P : Index → Type 0) (l : List Index) (d : Index) → ((q : ℕ) → q < length l → P (get_or l q d)) → AllByRecursion P l
all_places P [] d each = tt
all_places P (i ∷ l) d each = (each 0 (omega arith), all_places P l d (λ q less. each (suc q) (omega (arith, less))))

first_of : (P : Index → Type 0) (i : Index) (l : List Index) (c : Bool) → c ≡ true → AllByRecursion P (if c then i ∷ l else l) → P i
first_of P i l true is all = all.0
first_of P i l false is all = absurd cc

rest_of : (P : Index → Type 0) (i : Index) (l : List Index) (c : Bool) → AllByRecursion P (if c then i ∷ l else l) → AllByRecursion P l
rest_of P i l true all = all.1
rest_of P i l false all = all

-- what holds of all indexes of a table holds of one that is found
found_of : (P : Index → Type 0) (t : ℕ) (xs : List Index) (m : ℕ) (z : Index) → index_in xs m ≡ Some z → z.table.0 ≡ t → AllByRecursion P (indexes_of t xs) → P z
unfolding index_in
found_of P t [] m z found mine all = absurd cc
found_of P t (i ∷ xs) m z found mine all = elim (cases_eq i.id.0 m) [
  | inl e ↦
      let is : i ≡ z = (let k : Some i ≡ Some z = sym (index_first i xs m e) ∙ found in cc) in
      subst P is (first_of P i (indexes_of t xs) (i.table.0 == t) (eq-eqb i.table.0 t (ap (λ (j : Index). j.table.0) is ∙ mine)) all)
  | inr e ↦ found_of P t xs m z (sym (index_later i xs m e) ∙ found) mine (rest_of P i (indexes_of t xs) (i.table.0 == t) all)
]

-- z stands, and y is defined in its place
module _ (b : Base) (es : List Entry) (f : FolderData) (v : ℕ → GroupData) (told : Explains b es f v) (e : Entry) (may : MayCome b es e) (idle : (k : TableId) → IsElsewhere k e.act) (t : TableId)
    (x : Table) (found : table_in f.standing.tables t.0 ≡ Some x) (z y : Index) (same : z.id.0 ≡ y.id.0) (table : z.table.0 ≡ y.table.0) (stood : index_in f.standing.indexes y.id.0 ≡ Some z) (mine : z.table.0 ≡ t.0) (closed : (v t.0).opens ≡ []) where
  abbrev s : Standing
  s = f.standing

  abbrev n : ℕ
  n = y.id.0

  abbrev es' : List Entry
  es' = es ++ e ∷ []

  abbrev now : Standing
  now = stands_after s (IndexIs y)

  abbrev w : GroupData
  w = v t.0

  abbrev w' : GroupData
  w' = without_index n w

  pub own : x.id.0 ≡ t.0
  own = found_number s.tables t.0 x found

  here : TellsTable b es f x w
  here = told.tables t.0 x found

  pub swapped : AreSwapped z y same table s.indexes now.indexes
  swapped = put_swapped z y same table s.indexes stood told.numbered.ids

  stays : (m : ℕ) (k : Index) → m ≢ n → index_in s.indexes m ≡ Some k → index_in now.indexes m ≡ Some k
  stays m k other at = put_other z y same table s.indexes m (λ e. other (sym e)) ∙ at

  pub last_up : (q : ℕ) → last_of b q es ≤ last_of b q es'
  last_up q = let up = last_step_up q (last_of b q es) e.act in let l = last-snoc b q es e in omega arith

  -- ---- the other tables

  tells_other : (q : ℕ) (k : Table) → q ≢ t.0 → table_in s.tables q ≡ Some k → TellsTable b es' (with_standing now f) k (v q)
  tells_other q k apart at =
      let there = told.tables q k at in
      let num = found_number s.tables q k at in
      same_table b es es' f now k (v q) there (group_idle (form_of_table b s.indexes k) es (v q) there.kept e may (act_idle k.id e (idle k.id))).kept (last_up k.id.0)
      (λ m i stands its. stays m i (λ is.
      let one : Some z ≡ Some i = sym stood ∙ (ap (index_in s.indexes) (sym is) ∙ stands) in
      let one_is : z ≡ i = cc in
      apart (sym num ∙ (sym its ∙ (ap (λ (j : Index). j.table.0) (sym one_is) ∙ mine)))) stands)
      (same_of z y same table k.id.0 s.indexes now.indexes (λ is. apart (sym num ∙ (is ∙ (sym table ∙ mine)))) swapped)

  -- ---- its own table: what it has without the index

  abbrev keeps : IndexPart → Bool
  keeps p = not (p.id == n)

  stand_from : (m : ℕ) → m < length w.indexes → keeps (get_or w.indexes m no_part) ≡ true → HasTableIndex now.indexes x.id.0 (get_or w.indexes m no_part).id
  stand_from m l kept = (let h = here.stand m l in (h.0, (stays (get_or w.indexes m no_part).id h.0 (not_same (get_or w.indexes m no_part).id n kept) h.1.0, h.1.1)))

  pub stand_less : (k : ℕ) → k < length w'.indexes → HasTableIndex now.indexes x.id.0 (get_or w'.indexes k no_part).id
  stand_less k l = (let m = from_filter keeps w.indexes no_part k l in subst (λ (p : IndexPart). HasTableIndex now.indexes x.id.0 p.id) (sym m.1.1.0) (stand_from m.0 m.1.0 m.1.1.1))

  form_from : (m : ℕ) → m < length w.indexes → keeps (get_or w.indexes m no_part) ≡ true → form_of_index x (index_in now.indexes (get_or w.indexes m no_part).id) ≡ form_of_index x (index_in s.indexes (get_or w.indexes m no_part).id)
  form_from m l kept = (let h = here.stand m l in ap (form_of_index x) (stays (get_or w.indexes m no_part).id h.0 (not_same (get_or w.indexes m no_part).id n kept) h.1.0 ∙ sym h.1.0))

  form_less : (k : ℕ) → k < length w'.indexes → form_of_index x (index_in now.indexes (get_or w'.indexes k no_part).id) ≡ form_of_index x (index_in s.indexes (get_or w'.indexes k no_part).id)
  form_less k l =
      (let m = from_filter keeps w.indexes no_part k l in
      subst (λ (p : IndexPart). form_of_index x (index_in now.indexes p.id) ≡ form_of_index x (index_in s.indexes p.id)) (sym m.1.1.0) (form_from m.0 m.1.0 m.1.1.1))

  pub kept_less : GroupKept (form_of_table b now.indexes x) es w'
  kept_less = other_forms (form_of_table b s.indexes x) (λ m. form_of_index x (index_in now.indexes m)) es w' form_less (kept_fewer (form_of_table b s.indexes x) es w keeps here.kept closed)

  pub once_less : AreDistinct number_of_part w'.indexes
  once_less = once_fewer keeps w.indexes here.once

  pub none_less : (k : ℕ) → k < length w'.indexes → (get_or w'.indexes k no_part).id ≢ n
  none_less k l = (let m = from_filter keeps w.indexes no_part k l in subst (λ (p : IndexPart). p.id ≢ n) (sym m.1.1.0) (not_same (get_or w.indexes m.0 no_part).id n m.1.1.1))

  -- ---- its files, place by place

  abbrev old : List Index
  old = indexes_of x.id.0 s.indexes

  abbrev new : List Index
  new = indexes_of x.id.0 now.indexes

  swaps : AreSwapped z y same table old new
  swaps = swapped_of z y same table x.id.0 s.indexes now.indexes swapped

  abbrev g : Index → IndexFiles
  g = index_files f.regions

  old_file : (q : ℕ) → q < length old → get_or (map g old) q no_files ≡ g (get_or old q z)
  old_file q l = at_map g old q no_files z l

  new_file : (q : ℕ) → q < length old → get_or (map g new) q no_files ≡ g (get_or new q z)
  new_file q l = let m = swapped_long z y same table old new swaps in at_map g new q no_files z (omega arith)

  inside : (q : ℕ) → q < length (map g new) → q < length old
  inside q l = let m = swapped_long z y same table old new swaps in let k = length-map new g in omega arith

  old_inside : (q : ℕ) → q < length old → q < length (map g old)
  old_inside q l = let m = length-map old g in omega arith

  abbrev most : ℕ
  most = last_of b x.id.0 es'

  -- these parts are those that it keeps, and others behind them
  module _ (parts : List IndexPart) (holds : (k : ℕ) → k < length w'.indexes → (k < length parts) × (get_or parts k no_part ≡ get_or w'.indexes k no_part))
      (down : is_active y.state ≡ false) (birth : y.birth ≤ most) (stamps : last_cell (f.regions y.region).cells ≤ most) (low : (f.regions y.region).horizon ≤ w.high) where
    abbrev IsRead : IndexFiles → Type 0
    IsRead k = (m : ℕ) × ((m < length parts) × IsFilesOf (get_or parts m no_part) k)

    read_other : (q : ℕ) → q < length old → (get_or old q z).id.0 ≢ n → is_active (get_or old q z).state ≡ true → IsRead (g (get_or old q z))
    read_other q l other a =
        let o = here.files.active q (old_inside q l) (ap (λ (k : IndexFiles). k.is_active) (old_file q l) ∙ a) in
        let its : IsFilesOf (get_or w.indexes o.0 no_part) (g (get_or old q z)) = subst (λ (k : IndexFiles). IsFilesOf (get_or w.indexes o.0 no_part) k) (old_file q l) o.1.1 in
        let k = to_filter keeps w.indexes no_part o.0 o.1.0 (are_other (get_or w.indexes o.0 no_part).id n (λ is. other (sym its.id ∙ is))) in
        let p = holds k.0 k.1.0 in
        (k.0, (p.0, subst (λ (m : IndexPart). IsFilesOf m (g (get_or old q z))) (sym (p.1 ∙ k.1.1)) its))

    read_now : (q : ℕ) → q < length old → is_active (get_or new q z).state ≡ true → IsRead (g (get_or new q z))
    read_now q l a = elim (swapped_at z y same table old new q z swaps l) [
      | inl k ↦ subst (λ (i : Index). IsRead (g i)) (sym k.0) (read_other q l k.1 (ap (λ (i : Index). is_active i.state) (sym k.0) ∙ a))
      | inr k ↦ absurd (false≢true (sym down ∙ (ap (λ (i : Index). is_active i.state) (sym k.1) ∙ a)))
    ]

    below_now : (q : ℕ) → q < length old → (g (get_or new q z)).horizon ≤ w.high
    below_now q l = elim (swapped_at z y same table old new q z swaps l) [
      | inl k ↦ subst (λ (i : Index). (g i).horizon ≤ w.high) (sym k.0) (subst (λ (m : IndexFiles). m.horizon ≤ w.high) (old_file q l) (here.files.below q (old_inside q l)))
      | inr k ↦ subst (λ (i : Index). (g i).horizon ≤ w.high) (sym k.1) low
    ]

    others_now : (q : ℕ) → q < length old → is_active (get_or new q z).state ≡ false → ((g (get_or new q z)).birth ≤ most) × (last_cell (g (get_or new q z)).cells ≤ most)
    others_now q l a = elim (swapped_at z y same table old new q z swaps l) [
      | inl k ↦
          let o = here.files.others q (old_inside q l) (ap (λ (m : IndexFiles). m.is_active) (old_file q l) ∙ (ap (λ (m : Index). is_active m.state) (sym k.0) ∙ a)) in
          let h : ((g (get_or old q z)).birth ≤ last_of b x.id.0 es) × (last_cell (g (get_or old q z)).cells ≤ last_of b x.id.0 es) = subst (λ (m : IndexFiles). (m.birth ≤ last_of b x.id.0 es) × (last_cell m.cells ≤ last_of b x.id.0 es)) (old_file q l) o in
          let born = h.0 in
          let cell = h.1 in
          let up = last_up x.id.0 in
          subst (λ (m : Index). ((g m).birth ≤ most) × (last_cell (g m).cells ≤ most)) (sym k.0) (omega (arith, born, up), omega (arith, cell, up))
      | inr k ↦ subst (λ (m : Index). ((g m).birth ≤ most) × (last_cell (g m).cells ≤ most)) (sym k.1) (birth, stamps)
    ]

    pub files_now : IsFolderOf (form_of_table b now.indexes x) es' (record w { indexes = parts; opens = [] }) (table_files (with_standing now f) x)
    files_now = record {
      horizon = here.files.horizon;
      cells = here.files.cells;
      active = λ q l a. (let m = inside q l in subst IsRead (sym (new_file q m)) (read_now q m (ap (λ (k : IndexFiles). k.is_active) (sym (new_file q m)) ∙ a)));
      below = λ q l. (let m = inside q l in subst (λ (k : IndexFiles). k.horizon ≤ w.high) (sym (new_file q m)) (below_now q m));
      others = λ q l a. (let m = inside q l in subst (λ (k : IndexFiles). (k.birth ≤ most) × (last_cell k.cells ≤ most)) (sym (new_file q m)) (others_now q m (ap (λ (k : IndexFiles). k.is_active) (sym (new_file q m)) ∙ a)));
    }

    abbrev next : GroupData
    next = record w { indexes = parts; opens = [] }

    -- the folder is told
    module _ (kept : GroupKept (form_of_table b now.indexes x) es' next) (once : AreDistinct number_of_part parts) (stand : (k : ℕ) → k < length parts → HasTableIndex now.indexes x.id.0 (get_or parts k no_part).id) where
      tells_own : TellsTable b es' (with_standing now f) x next
      tells_own = record { kept = kept; files = files_now; placed = here.placed; once = once; stand = stand }

      tells_each : (q : ℕ) (k : Table) → table_in s.tables q ≡ Some k → TellsTable b es' (with_standing now f) k (with_part v t.0 next q)
      tells_each q k at = elim (cases_eq q t.0) [
        | inl is ↦
            let one : x ≡ k = one_found s.tables t.0 x k found (subst (λ (m : ℕ). table_in s.tables m ≡ Some k) is at) in
            subst (λ (m : Table). TellsTable b es' (with_standing now f) m (with_part v t.0 next q)) one
            (subst (λ (m : ℕ). TellsTable b es' (with_standing now f) x (with_part v t.0 next m)) (sym is) (subst (λ (d : GroupData). TellsTable b es' (with_standing now f) x d) (sym (with_part-here v t.0 next)) tells_own))
        | inr other ↦ subst (λ (d : GroupData). TellsTable b es' (with_standing now f) k d) (sym (with_part-other v t.0 next q other)) (tells_other q k other at)
      ]

      pub explained : TellsCatalogue now (catalogue_of b es') → AreNumbered now → Explains b es' (with_standing now f) (with_part v t.0 next)
      explained catalogue numbered = record { legal = legal-snoc b es e told.legal may; catalogue = catalogue; numbered = numbered; tables = tells_each }

  -- ---- a record of the same region

  -- no cell that it has is above the last stamp, nor is its birth
  file_low : (q : ℕ) → q < length old → ((g (get_or old q z)).birth ≤ last_of b x.id.0 es) × ((last_cell (g (get_or old q z)).cells ≤ last_of b x.id.0 es) × ((g (get_or old q z)).horizon ≤ w.high))
  file_low q l = (let below = subst (λ (m : IndexFiles). m.horizon ≤ w.high) (old_file q l) (here.files.below q (old_inside q l)) in by (is_active (get_or old q z).state) refl below)
    where
      by : (a : Bool) → is_active (get_or old q z).state ≡ a → (g (get_or old q z)).horizon ≤ w.high → ((g (get_or old q z)).birth ≤ last_of b x.id.0 es) × ((last_cell (g (get_or old q z)).cells ≤ last_of b x.id.0 es) × ((g (get_or old q z)).horizon ≤ w.high))
      by true a below =
          let o = here.files.active q (old_inside q l) (ap (λ (k : IndexFiles). k.is_active) (old_file q l) ∙ a) in
          let its : IsFilesOf (get_or w.indexes o.0 no_part) (g (get_or old q z)) = subst (λ (k : IndexFiles). IsFilesOf (get_or w.indexes o.0 no_part) k) (old_file q l) o.1.1 in
          let kept = here.kept.indexes o.0 o.1.0 in
          let birth = kept.birth in
          let same_birth = its.birth in (
            omega (arith, birth, same_birth),
            (
              cells_within (g (get_or old q z)).cells (last_of b x.id.0 es) (λ k c p d above. ap (λ (u : Contents). u k c p d) (sym its.cells) ∙ none_above (indexed_at (form_of_table b s.indexes x) w o.0).form (last_of b x.id.0 es) (get_or w.indexes o.0 no_part).cells kept.cells k c p d above),
              below,
            ),
          )
      by false a below =
          let o = here.files.others q (old_inside q l) (ap (λ (m : IndexFiles). m.is_active) (old_file q l) ∙ a) in
          let h : ((g (get_or old q z)).birth ≤ last_of b x.id.0 es) × (last_cell (g (get_or old q z)).cells ≤ last_of b x.id.0 es) = subst (λ (m : IndexFiles). (m.birth ≤ last_of b x.id.0 es) × (last_cell m.cells ≤ last_of b x.id.0 es)) (old_file q l) o in
          (h.0, (h.1, below))

  -- so of the index itself
  pub its_low : (z.birth ≤ last_of b x.id.0 es) × ((last_cell (f.regions z.region).cells ≤ last_of b x.id.0 es) × ((f.regions z.region).horizon ≤ w.high))
  its_low = found_of (λ i. ((g i).birth ≤ last_of b x.id.0 es) × ((last_cell (g i).cells ≤ last_of b x.id.0 es) × ((g i).horizon ≤ w.high))) x.id.0 s.indexes n z stood (mine ∙ sym own) (all_places (λ i. ((g i).birth ≤ last_of b x.id.0 es) × ((last_cell (g i).cells ≤ last_of b x.id.0 es) × ((g i).horizon ≤ w.high))) old z file_low)
