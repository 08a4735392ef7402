-- A table is made.
use Rattle.std.proofs.Common.{◌≡◌, ◌≢◌, ◌<◌, ◌≤◌, ◌⊎◌, ◌+◌, max, inl, inr, ℕ, Bool, true, false, Option, Some, None, List, [], ◌∷◌, ◌++◌, length, map, refl, sym, ap, subst, ◌∙◌, arith}
use Rattle.std.specs.Prelude.{if◌then◌else◌, not, ◌==◌}
use Rattle.std.specs.List.{AllByRecursion}
use Rattle.std.proofs.lemmas.Bool.{cases_Bool, cases_eq}
use Rattle.px_outside.specs.Parts.{AreDistinct, HasNone, with_part}
use Rattle.px_outside.proofs.Parts.{with_part-here, with_part-other}
use Rattle.px_cells.specs.Contents.{value_at}
use Rattle.px_values.specs.declared.name.TableId.{TableId}
use Rattle.px_tables.specs.declared.index.Index.{Index}
use Rattle.px_tables.specs.declared.table.NewTable.{NewTable}
use Rattle.px_tables.specs.declared.table.Table.{Table}
use Rattle.px_tables.specs.declared.table.TableRegion.{TableRegion}
use Rattle.px_trail.specs.declared.entry.Act.{Act}
use Rattle.px_trail.specs.declared.entry.Act.TheVariants.{Made}
use Rattle.px_trail.specs.declared.entry.Entry.{Entry}
use Rattle.px_trail.specs.Legal.{Follows, MayCome}
use Rattle.px_trail.specs.Trail.{Base, Catalogue, IsRightBase, catalogue_of, catalogue_step, last_of, made_table, numbered_regions, of_others, set_number}
use Rattle.px_trail.proofs.Growth.{catalogue-snoc, last-snoc, legal-snoc}
use Rattle.px_trail.proofs.Standing.{catalogue-stands, set_number-other, set_number-same}
use Rattle.px_rows.proofs.Spelled.{nothing_spelled, nothing_whole, table_laws}
use Rattle.px_indexed.specs.Idle.{IsElsewhere}
use Rattle.px_indexed.proofs.Idle.{act_idle}
use Rattle.px_groupworld.specs.Group.{GroupData}
use Rattle.px_groupworld.specs.Sound.{made_data}
use Rattle.px_groupworld.proofs.Entries.{group_idle}
use Rattle.px_groupworld.proofs.Makes.{group_made}
use Rattle.px_region.specs.Region.{RegionData}
use Rattle.px_schema.specs.Stands.{above, of_other_tables, put_table, stands_after}
use Rattle.px_schema.specs.declared.item.CatalogItem.TheVariants.{TableIs}
use Rattle.px_schema.specs.declared.standing.Standing.{Standing}
use Rattle.px_schema.proofs.Numbers.{below_next, filter_all, next_up, put_all_tables}
use Rattle.px_recovery.specs.Folder.{AreUnmade, FolderData, with_standing}
use Rattle.px_recovery.specs.Stands.{AreNumbered, Explains, TellsCatalogue, opened_index, opened_state}
use Rattle.px_recovery.specs.Tables.{AreInRegion, IsRegionAmong, TellsTable, cells_of_regions, form_of_table, horizon_in, index_files, index_in, indexes_of, number_of_index, number_of_region, region_of_index, table_files, table_in}
use Rattle.px_recovery.proofs.Drops.{others_opened, others_stay}
use Rattle.px_recovery.proofs.Forms.{same_table}
use Rattle.px_recovery.proofs.Lookups.{index_of_others, indexes_kept, others_if, table_put_here, table_put_other}
use Rattle.px_recovery.proofs.Notes.{last_step_up}
use Rattle.px_recovery.proofs.Numbered.{distinct_filter, found_number, none_filter, rows_number}

-- ---- the numbers that are drawn

above_drawn : (n m k : ℕ) (keys : List (List ℕ)) → m ≤ n → k ≡ n + length keys → above m (map (λ (r : TableRegion). r.number) (numbered_regions n keys) ++ k ∷ []) ≡ n + length keys + 1
unfolding numbered_regions
above_drawn n m k [] le is = omega arith
above_drawn n m k (x ∷ keys) le is = above_drawn (n + 1) (max m (n + 1)) k keys (omega arith) (omega arith) ∙ (let e : (n + 1) + length keys + 1 ≡ n + length (x ∷ keys) + 1 = omega arith in e)

one_from : (n k : ℕ) (keys : List (List ℕ)) → IsRegionAmong k (numbered_regions n keys) → n ≤ k
unfolding numbered_regions
one_from n k [] one = absurd one
one_from n k (x ∷ keys) (inl is) = omega (arith, is)
one_from n k (x ∷ keys) (inr one) = let up = one_from (n + 1) k keys one in omega arith

all_from : (P : ℕ → Type 0) (n : ℕ) (keys : List (List ℕ)) → ((k : ℕ) → n ≤ k → P k) → AllByRecursion (λ (g : TableRegion). P g.number) (numbered_regions n keys)
unfolding numbered_regions
all_from P n [] each = tt
all_from P n (x ∷ keys) each = (each n (omega arith), all_from P (n + 1) keys (λ k le. each k (omega arith)))

drawn_once : (n : ℕ) (keys : List (List ℕ)) → AreDistinct number_of_region (numbered_regions n keys)
unfolding numbered_regions
drawn_once n [] = tt
drawn_once n (x ∷ keys) = (all_from (λ k. k ≢ n) (n + 1) keys (λ k le is. omega (arith, le, is)), drawn_once (n + 1) keys)

none_below : (next n : ℕ) (is : List Index) → next ≤ n → AllByRecursion (λ (i : Index). AllByRecursion (λ (k : ℕ). k < next) (i.region ∷ i.id.0 ∷ [])) is → HasNone region_of_index n is
none_below next n [] le all = tt
none_below next n (i ∷ is) le all = ((λ same. (let a = all.0.0 in omega (arith, le, same, a))), none_below next n is le all.1)

-- ---- regions that have nothing yet

module _ (f : FolderData) (unmade : AreUnmade f) where
  nothing_in : (n : ℕ) (keys : List (List ℕ)) → f.standing.next ≤ n → cells_of_regions f.regions (numbered_regions n keys) ≡ []
  unfolding numbered_regions cells_of_regions
  nothing_in n [] le = refl
  nothing_in n (x ∷ keys) le = ap (λ (r : RegionData). r.cells ++ cells_of_regions f.regions (numbered_regions (n + 1) keys)) (unmade n le) ∙ nothing_in (n + 1) keys (omega arith)

  no_horizon : (n : ℕ) (keys : List (List ℕ)) → f.standing.next ≤ n → horizon_in f.regions (numbered_regions n keys) ≡ 0
  unfolding numbered_regions horizon_in
  no_horizon n [] le = refl
  no_horizon n (x ∷ keys) le = (let e = no_horizon (n + 1) keys (omega arith) in ap (λ (r : RegionData). max r.horizon (horizon_in f.regions (numbered_regions (n + 1) keys))) (unmade n le) ∙ omega (arith, e))

  placed_none : (x : Table) (n : ℕ) (keys : List (List ℕ)) → f.standing.next ≤ n → AllByRecursion (λ g. AreInRegion x g.number (f.regions g.number).cells) (numbered_regions n keys)
  placed_none x n keys le = all_from (λ k. AreInRegion x k (f.regions k).cells) n keys (λ k from_n. subst (λ (r : RegionData). AreInRegion x k r.cells) (sym (unmade k (omega arith))) tt)

none_left : (t : ℕ) (is : List Index) → indexes_of t (of_other_tables t is) ≡ []
none_left t [] = refl
none_left t (i ∷ is) = elim (cases_Bool (i.table.0 == t)) [
  | inl its ↦ ap (indexes_of t) (others_if t i is true its) ∙ none_left t is
  | inr others ↦ ap (indexes_of t) (others_if t i is false others) ∙ (ap (λ (c : Bool). if c then i ∷ indexes_of t (of_other_tables t is) else indexes_of t (of_other_tables t is)) others ∙ none_left t is)
]

-- ---- the table

module _ (b : Base) (right : IsRightBase b) (es : List Entry) (f : FolderData) (unmade : AreUnmade f) (v : ℕ → GroupData) (told : Explains b es f v) (e : Entry) (may : MayCome b es e) (t : TableId) (what : NewTable) (is : e.act ≡ Made t what) where
  abbrev s : Standing
  s = f.standing

  abbrev c : Catalogue
  c = catalogue_of b es

  abbrev y : Table
  y = made_table s.next t what

  abbrev s' : Standing
  s' = stands_after s (TableIs y)

  number : t.0 ≡ s.next + length what.least_keys
  unfolding Follows
  number = let z = (subst (λ (a : Act). Follows b es e.seat e.calls a) is may.follows).0 in let n = told.catalogue.next in omega (arith, z, n)

  found_made : (q : ℕ) (x : Table) → table_in (put_table s.tables y) q ≡ Some x → ((t.0 ≡ q) × (y ≡ x)) ⊎ ((t.0 ≢ q) × (table_in s.tables q ≡ Some x))
  found_made q x found = elim (cases_eq t.0 q) [
    | inl same ↦ inl (same, (let z : Some y ≡ Some x = sym (table_put_here s.tables y q same) ∙ found in cc))
    | inr other ↦ inr (other, sym (table_put_other s.tables y q other) ∙ found)
  ]

  -- no index is of the table
  others_there : (i : ℕ) (o : Option Index) → c.indexes i ≡ o → of_others t.0 (opened_index o) ≡ opened_index o
  others_there i None at = refl
  others_there i (Some z) at =
      let k = catalogue-stands b es right.catalogue told.legal in
      let w = k.owners i z at in
      let low = (k.tables z.table.0 w.0 w.1).1 in
      let n = told.catalogue.next in
      let m = number in
      others_stay t.0 (record z { state = opened_state z.state }) (λ same. omega (arith, low, n, m, same))

  catalogue_made : TellsCatalogue s' (catalogue_step c (Made t what))
  unfolding catalogue_step
  catalogue_made = record {
    next = (let a = above_drawn s.next s.next t.0 what.least_keys (omega arith) number in let n = told.catalogue.next in a ∙ omega (arith, n));
    tables = λ q. elim (cases_eq t.0 q) [
      | inl same ↦ table_put_here s.tables y q same ∙ (ap (λ (n : ℕ). Some (made_table n t what)) told.catalogue.next
          ∙ sym (subst (λ (m : ℕ). set_number t.0 (Some (made_table c.next t what)) c.tables m ≡ Some (made_table c.next t what)) same (set_number-same t.0 (Some (made_table c.next t what)) c.tables)))
      | inr other ↦ table_put_other s.tables y q other ∙ (told.catalogue.tables q ∙ sym (set_number-other t.0 (Some (made_table c.next t what)) c.tables q other))
    ];
    indexes = λ i.
        ap opened_index (index_of_others t.0 s.indexes i told.numbered.ids)
        ∙ (others_opened t.0 (index_in s.indexes i) ∙ (ap (of_others t.0) (told.catalogue.indexes i) ∙ others_there i (c.indexes i) refl));
  }

  -- a region of the table was never drawn
  new_old : (q n : ℕ) (x : Table) → table_in s.tables q ≡ Some x → IsRegionAmong n x.regions → IsRegionAmong n y.regions → ⊥
  new_old q n x found one mine = let low = (rows_number s told.numbered q n x found one).1 in let high = one_from s.next n what.least_keys mine in omega arith

  numbered_made : AreNumbered s'
  numbered_made = record {
    tables = λ q u n x z one two a d. elim (found_made q x one) [
      | inl i ↦ elim (found_made u z two) [
        | inl j ↦ sym i.0 ∙ j.0
        | inr j ↦ absurd (new_old u n z j.1 d (subst (λ (w : Table). IsRegionAmong n w.regions) (sym i.1) a))
      ]
      | inr i ↦ elim (found_made u z two) [
        | inl j ↦ absurd (new_old q n x i.1 a (subst (λ (w : Table). IsRegionAmong n w.regions) (sym j.1) d))
        | inr j ↦ told.numbered.tables q u n x z i.1 j.1 a d
      ]
    ];
    each = λ q x found. elim (found_made q x found) [
      | inl i ↦ subst (λ (w : Table). AreDistinct number_of_region w.regions) i.1 (drawn_once s.next what.least_keys)
      | inr i ↦ told.numbered.each q x i.1
    ];
    apart = λ q n x found one. none_filter region_of_index n (λ (i : Index). not (i.table.0 == t.0)) s.indexes (elim (found_made q x found) [
      | inl i ↦ none_below s.next n s.indexes (one_from s.next n what.least_keys (subst (λ (w : Table). IsRegionAmong n w.regions) (sym i.1) one)) told.numbered.below.indexes
      | inr i ↦ told.numbered.apart q n x i.1 one
    ]);
    indexes = distinct_filter region_of_index (λ (i : Index). not (i.table.0 == t.0)) s.indexes told.numbered.indexes;
    ids = distinct_filter number_of_index (λ (i : Index). not (i.table.0 == t.0)) s.indexes told.numbered.ids;
    some = put_all_tables (λ (x : Table). AllByRecursion (λ g. 1 ≤ g.number) x.regions) s.tables y told.numbered.some (all_from (λ k. 1 ≤ k) s.next what.least_keys (λ k le. (let l = told.numbered.least in omega arith)));
    some_index = filter_all (λ (i : Index). 1 ≤ i.region) (λ (i : Index). not (i.table.0 == t.0)) s.indexes told.numbered.some_index;
    below = below_next s (TableIs y) told.numbered.below;
    least = (let up = next_up s (TableIs y) in let l = told.numbered.least in omega arith);
  }

  -- it has no row and no index
  empty_files : length (table_files (with_standing s' f) y).indexes ≡ 0
  empty_files = ap (λ (l : List Index). length (map (index_files f.regions) l)) (none_left t.0 s.indexes)

  tells_new : TellsTable b (es ++ e ∷ []) (with_standing s' f) y made_data
  tells_new = record {
    kept = group_made (form_of_table b s'.indexes y) right es told.legal e may what is refl (table_laws y) (λ r p. nothing_spelled y r p) (λ r. nothing_whole y 0 r);
    files = record {
      horizon = no_horizon f unmade s.next what.least_keys (omega arith);
      cells = ap value_at (nothing_in f unmade s.next what.least_keys (omega arith));
      active = λ i l. (let n = empty_files in absurd (omega arith));
      below = λ i l. (let n = empty_files in absurd (omega arith));
      others = λ i l. (let n = empty_files in absurd (omega arith));
    };
    placed = placed_none f unmade y s.next what.least_keys (omega arith);
    once = tt;
    stand = λ j l. absurd (omega arith);
  }

  tells_old : (q : ℕ) (x : Table) → t.0 ≢ q → table_in s.tables q ≡ Some x → TellsTable b (es ++ e ∷ []) (with_standing s' f) x (v q)
  tells_old q x apart found =
      let here = told.tables q x found in
      let own = found_number s.tables q x found in
      let other : t.0 ≢ x.id.0 = (λ same. apart (same ∙ own)) in
      same_table b es (es ++ e ∷ []) f s' x (v q) here
      (group_idle (form_of_table b s.indexes x) es (v q) here.kept e may (act_idle x.id e (subst (λ (a : Act). IsElsewhere x.id a) (sym is) other))).kept
      (let up = last_step_up x.id.0 (last_of b x.id.0 es) e.act in let l = last-snoc b x.id.0 es e in omega arith)
      (λ n i stood its. index_of_others t.0 s.indexes n told.numbered.ids ∙ (ap (of_others t.0) stood ∙ others_stay t.0 i (λ same. other (sym same ∙ its))))
      (indexes_kept t.0 x.id.0 s.indexes other)

  tells_each : (q : ℕ) (x : Table) → table_in s'.tables q ≡ Some x → TellsTable b (es ++ e ∷ []) (with_standing s' f) x (with_part v t.0 made_data q)
  tells_each q x found = elim (found_made q x found) [
    | inl i ↦
        subst (λ (w : Table). TellsTable b (es ++ e ∷ []) (with_standing s' f) w (with_part v t.0 made_data q)) i.1
        (subst (λ (d : GroupData). TellsTable b (es ++ e ∷ []) (with_standing s' f) y d) (sym (subst (λ (m : ℕ). with_part v t.0 made_data m ≡ made_data) i.0 (with_part-here v t.0 made_data))) tells_new)
    | inr i ↦ subst (λ (d : GroupData). TellsTable b (es ++ e ∷ []) (with_standing s' f) x d) (sym (with_part-other v t.0 made_data q (λ same. i.0 (sym same)))) (tells_old q x i.0 i.1)
  ]

  pub table_made : Explains b (es ++ e ∷ []) (with_standing s' f) (with_part v t.0 made_data)
  table_made = record {
    legal = legal-snoc b es e told.legal may;
    catalogue = subst (λ (k : Catalogue). TellsCatalogue s' k) (sym (catalogue-snoc b es e ∙ ap (catalogue_step c) is)) catalogue_made;
    numbered = numbered_made;
    tables = tells_each;
  }
