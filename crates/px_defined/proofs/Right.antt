-- A table stays right when it is defined anew.
use Rattle.std.proofs.Common.{◌≡◌, ◌≢◌, ℕ, zero, suc, ◌+◌, ◌-◌, ◌≤◌, Bool, true, false, if◌then◌else◌, inl, inr, Some, List, [], ◌∷◌, length, get_or, slice_get, refl, ap, sym, ◌∙◌, subst, arith}
use Rattle.std.specs.Prelude.{nat_le, not, sum_by, ◌==◌}
use Rattle.std.specs.List.{AllByRecursion}
use Rattle.std.proofs.Math.ListN.{length-append, length-set}
use Rattle.std.proofs.lemmas.List.Sums.{sum_by-cons}
use Rattle.px_cells.specs.CellData.{CellData}
use Rattle.px_cells.specs.Contents.{value_at}
use Rattle.px_cells.specs.declared.kind.CellKind.{CellKind}
use Rattle.px_cellbytes.specs.Spelling.{all_bytes}
use Rattle.px_keptcells.specs.Kept.{laid}
use Rattle.px_region.specs.Region.{read_of}
use Rattle.px_region.specs.declared.region.Region.{Region}
use Rattle.px_tables.specs.declared.index.Index.{Index}
use Rattle.px_tables.specs.declared.index.IndexState.TheVariants.{Active, Disabled}
use Rattle.px_tables.specs.declared.table.Table.{Table}
use Rattle.px_indexrow.specs.Form.{IsRightIndex}
use Rattle.px_rows.specs.Keys.{IsRightTable}
use Rattle.px_cellshapes.specs.Keys.{AreRightKeys, FitsKeyPlace}
use Rattle.px_cellshapes.specs.Rows.{AreRightRows}
use Rattle.px_phases.specs.Batch.{AllFit}
use Rattle.px_group.specs.Group.{AreRightParts, IsRightBatch, IsRightGroup, IsRightPart, region_of}
use Rattle.px_group.specs.Room.{HasPromised, HasRooms, IsLight, bytes_at, bytes_of_rows, cells_at, cells_of_rows, closes_for, kept_for, marks_for, puts_for}
use Rattle.px_group.specs.declared.group.Begun.{Begun}
use Rattle.px_group.specs.declared.group.Group.{Group}
use Rattle.px_group.specs.declared.group.IndexRegion.{IndexRegion}
use Rattle.px_defined.specs.Defined.{HasActive, HasIndexLess, HasIndexMore, IsNewGroup, active}
use Rattle.px_defined.proofs.Lists.{IsPutOrStands, StandsOrLast, all_at, all_end, all_filter, all_more, all_set, end_cases, set_cases}

-- 1. Nothing is kept, and nothing is read

no_rows : (t : Table) → AreRightRows t []
unfolding value_at
no_rows t = record { each = λ c q. cc }

no_keys : (t : Table) (i : Index) → AreRightKeys t i []
unfolding value_at
no_keys t i = record { each = λ c q. cc }

-- a table without an open batch has room
rooms_none : (g : Group) → g.batches.items ≡ [] → HasRooms g
rooms_none g none = record {
  rows =
      (let a : sum_by cells_of_rows g.batches.items ≡ 0 = ap (sum_by cells_of_rows) none in
      let c : sum_by bytes_of_rows g.batches.items ≡ 0 = ap (sum_by bytes_of_rows) none in
      (omega arith, omega arith));
  indexes = λ i x at.
      (let a : sum_by (cells_at i) g.batches.items ≡ 0 = ap (sum_by (cells_at i)) none in
      let c : sum_by (bytes_at i) g.batches.items ≡ 0 = ap (sum_by (bytes_at i)) none in
      (omega arith, omega arith));
  light = subst (λ (ms : List Begun). AllByRecursion IsLight ms) (sym none) tt;
}

-- 2. A table that is made

pub right_new : (t : Table) (g : Group) → IsRightTable t → IsNewGroup t g → IsRightGroup g
right_new t g r n = record {
  table = subst IsRightTable (sym n.table) r;
  region = ap (λ (x : Table). x.regions) n.table ∙ n.region;
  rows = subst (λ (cells : List CellData). AreRightRows g.table cells) (sym n.fresh.store) (no_rows g.table);
  parts = subst (λ (l : List IndexRegion). AllByRecursion (IsRightPart g.table) l) (sym n.indexes) tt;
  batches = subst (λ (l : List Begun). AllByRecursion (IsRightBatch g) l) (sym n.batches) tt;
  rooms = rooms_none g n.batches;
}

-- 3. An index more

beyond : {A : Type 0} (xs : List A) (n : ℕ) (d : A) → length xs ≤ n → get_or xs n d ≡ d
beyond [] n d l = refl
beyond (x ∷ xs) zero d l = absurd (omega arith)
beyond (x ∷ xs) (suc n) d l = beyond xs n d (omega arith)

if_same : {A : Type 0} (v : Bool) (a : A) → (if v then a else a) ≡ a
if_same true a = refl
if_same false a = refl

-- for an index behind those that it counts a batch keeps nothing
kept_none : (count : ℕ) (kept : List (List (List CellData))) (i : ℕ) → count ≤ i → kept_for count kept i ≡ []
unfolding kept_for
kept_none count kept i l = ap (λ (x : List (List CellData)). if nat_le count (i + length kept) then x else []) (beyond kept (i + length kept - count) [] (omega arith)) ∙ if_same (nat_le count (i + length kept)) []

no_cells : (i : ℕ) (m : Begun) → m.count ≤ i → (cells_at i m ≡ 0) × (bytes_at i m ≡ 0)
no_cells i m l =
    let a = kept_none m.count m.batch.marks i l in
    let c = kept_none m.count m.batch.closes i l in
    ((λ j. length (laid (a j)) + length (laid (c j))), (λ j. length (all_bytes (laid (a j))) + length (all_bytes (laid (c j)))))

no_sums : (i : ℕ) (ms : List Begun) → AllByRecursion (λ (m : Begun). m.count ≤ i) ms → (sum_by (cells_at i) ms ≡ 0) × (sum_by (bytes_at i) ms ≡ 0)
no_sums i [] h = (refl, refl)
no_sums i (m ∷ ms) h =
    let x = no_cells i m h.0 in
    let y = no_sums i ms h.1 in
    let a = sum_by-cons (cells_at i) m ms in
    let c = sum_by-cons (bytes_at i) m ms in
    let x0 = x.0 in let x1 = x.1 in let y0 = y.0 in let y1 = y.1 in
    (omega arith, omega arith)

module _ (g g' : Group) (i : Index) (h : HasIndexMore g g' i) where
  more_part : IsRightIndex g.table i → i.table ≡ g.table.id → i.state ≢ Disabled → IsRightPart g.table h.new
  more_part right table state = record {
    index = subst (IsRightIndex g.table) (sym h.index) right;
    table = ap (λ (x : Index). x.table) h.index ∙ table;
    number = ap (λ (x : Index). x.region) h.index ∙ sym h.fresh.number_is;
    maintained = subst (λ (x : Index). x.state ≢ Disabled) (sym h.index) state;
    keys = subst (λ (cells : List CellData). AreRightKeys g.table h.new.index cells) (sym h.fresh.store) (no_keys g.table h.new.index);
  }

  more_cases : (j : ℕ) (z : IndexRegion) → slice_get g'.indexes.items j ≡ Some z → StandsOrLast g.indexes.items h.new j z
  more_cases j z at = end_cases g.indexes.items h.new j z (sym (ap (λ (l : List IndexRegion). slice_get l j) h.indexes) ∙ at)

  more_count : length g'.indexes.items ≡ length g.indexes.items + 1
  more_count = ap (λ (l : List IndexRegion). length l) h.indexes ∙ length-append g.indexes.items (h.new ∷ [])

  none_kept : (t : Table) (x : Index) (count : ℕ) (kept : List (List (List CellData))) (j : ℕ) → count ≤ j → AreRightParts t x (kept_for count kept j)
  none_kept t x count kept j l = subst (λ (p : List (List CellData)). AreRightParts t x p) (sym (kept_none count kept j l)) tt

  more_batch : (x : Begun) → IsRightBatch g x → IsRightBatch g' x
  more_batch x r = record {
    count = (let a = more_count in let b = r.count in omega arith);
    marks = r.marks;
    closes = r.closes;
    fit = subst (λ (t : Table). AllFit t x.batch.changes) (sym h.beside.table) r.fit;
    distinct = r.distinct;
    some = r.some;
    few = r.few;
    stage = r.stage;
    rows = r.rows;
    receipt = r.receipt;
    shaped = record {
      puts = subst (λ (t : Table). AllByRecursion (AreRightRows t) (puts_for x)) (sym h.beside.table) r.shaped.puts;
      marks = λ j z at. subst (λ (t : Table). AreRightParts t z.index (marks_for j x)) (sym h.beside.table) (elim (more_cases j z at) [
        | inl old ↦ r.shaped.marks j z old
        | inr new ↦ none_kept g.table z.index x.count x.batch.marks j (let a = new.0 in let b = r.count in omega arith)
      ]);
      closes = λ j z at. subst (λ (t : Table). AreRightParts t z.index (closes_for j x)) (sym h.beside.table) (elim (more_cases j z at) [
        | inl old ↦ r.shaped.closes j z old
        | inr new ↦ none_kept g.table z.index x.count x.batch.closes j (let a = new.0 in let b = r.count in omega arith)
      ]);
    };
  }

  more_rooms : AllByRecursion (IsRightBatch g) g.batches.items → HasRooms g → HasRooms g'
  more_rooms batches r = record {
    rows =
        (let a : sum_by cells_of_rows g'.batches.items ≡ sum_by cells_of_rows g.batches.items = ap (λ v. sum_by cells_of_rows v.items) h.beside.batches in
        let b : sum_by bytes_of_rows g'.batches.items ≡ sum_by bytes_of_rows g.batches.items = ap (λ v. sum_by bytes_of_rows v.items) h.beside.batches in
        let p : g'.rows.promised ≡ g.rows.promised = ap (λ (w : Region). w.promised) h.beside.rows in
        let q : g'.rows.promised_bytes ≡ g.rows.promised_bytes = ap (λ (w : Region). w.promised_bytes) h.beside.rows in
        let e = r.rows.0 in
        let f = r.rows.1 in
        (omega arith, omega arith));
    indexes = λ j z at.
        let a : sum_by (cells_at j) g'.batches.items ≡ sum_by (cells_at j) g.batches.items = ap (λ v. sum_by (cells_at j) v.items) h.beside.batches in
        let b : sum_by (bytes_at j) g'.batches.items ≡ sum_by (bytes_at j) g.batches.items = ap (λ v. sum_by (bytes_at j) v.items) h.beside.batches in
        elim (more_cases j z at) [
          | inl old ↦ (let o = r.indexes j z old in let e = o.0 in let f = o.1 in (omega arith, omega arith))
          | inr new ↦ (let s = no_sums j g.batches.items (all_more (IsRightBatch g) (λ (m : Begun). m.count ≤ j) (λ m k. (let c = k.count in let d = new.0 in omega arith)) g.batches.items batches) in
              let e = s.0 in let f = s.1 in (omega arith, omega arith))
        ];
    light = subst (λ v. AllByRecursion IsLight v.items) (sym h.beside.batches) r.light;
  }

  pub right_more : IsRightGroup g → IsRightIndex g.table i → i.table ≡ g.table.id → i.state ≢ Disabled → IsRightGroup g'
  right_more r right table state = record {
    table = subst IsRightTable (sym h.beside.table) r.table;
    region = ap (λ (t : Table). t.regions) h.beside.table ∙ (r.region ∙ ap (λ (w : Region). region_of w ∷ []) (sym h.beside.rows));
    rows = subst (λ (w : Region). AreRightRows g'.table (read_of w)) (sym h.beside.rows) (subst (λ (t : Table). AreRightRows t (read_of g.rows)) (sym h.beside.table) r.rows);
    parts = subst (λ (t : Table). AllByRecursion (IsRightPart t) g'.indexes.items) (sym h.beside.table) (subst (λ (l : List IndexRegion). AllByRecursion (IsRightPart g.table) l) (sym h.indexes) (all_end (IsRightPart g.table) g.indexes.items h.new r.parts (more_part right table state)));
    batches = subst (λ v. AllByRecursion (IsRightBatch g') v.items) (sym h.beside.batches) (all_more (IsRightBatch g) (IsRightBatch g') more_batch g.batches.items r.batches);
    rooms = more_rooms r.batches r.rooms;
  }

-- 4. An index that queries may read

fits_active : (t : Table) (i : Index) (q : ℕ) (kind : CellKind) (value : List ℕ) → FitsKeyPlace t i q kind value → FitsKeyPlace t (record i { state = Active }) q kind value
fits_active t i zero kind value h = h
fits_active t i (suc zero) kind value h = h
fits_active t i (suc (suc column)) kind value h = record { included = h.included; stored = h.stored }

keys_active : (t : Table) (i : Index) (cells : List CellData) → AreRightKeys t i cells → AreRightKeys t (record i { state = Active }) cells
keys_active t i cells h = record {
  each = λ c q. (let k = h.each c q in record { key = k.key; placed = k.placed; no_delete = k.no_delete; fits = fits_active t i c.qualifier c.kind c.value k.fits });
}

parts_active : (t : Table) (i : Index) (parts : List (List CellData)) → AreRightParts t i parts → AreRightParts t (record i { state = Active }) parts
parts_active t i parts h = all_more (AreRightKeys t i) (AreRightKeys t (record i { state = Active })) (keys_active t i) parts h

module _ (g g' : Group) (place : ℕ) (h : HasActive g g' place) where
  active_part : IsRightPart g.table h.index → IsRightPart g.table (active h.index)
  active_part r = record {
    index = record { parts = r.index.parts; within = r.index.within; once = r.index.once };
    table = r.table;
    number = r.number;
    maintained = λ q. (let z : Active ≡ Disabled = q in cc);
    keys = keys_active g.table h.index.index (read_of h.index.region) r.keys;
  }

  active_cases : (j : ℕ) (z : IndexRegion) → slice_get g'.indexes.items j ≡ Some z → IsPutOrStands g.indexes.items place j (active h.index) z
  active_cases j z at = set_cases g.indexes.items place j (active h.index) z (sym (ap (λ (l : List IndexRegion). slice_get l j) h.indexes) ∙ at)

  active_shaped : (kept : ℕ → List (List CellData)) → ((j : ℕ) (z : IndexRegion) → slice_get g.indexes.items j ≡ Some z → AreRightParts g.table z.index (kept j)) → (j : ℕ) (z : IndexRegion) → slice_get g'.indexes.items j ≡ Some z → AreRightParts g.table z.index (kept j)
  active_shaped kept old j z at = elim (active_cases j z at) [
    | inl here ↦ subst (λ (w : IndexRegion). AreRightParts g.table w.index (kept j)) (sym here.1) (parts_active g.table h.index.index (kept j) (old j h.index (ap (λ n. slice_get g.indexes.items n) here.0 ∙ h.is)))
    | inr there ↦ old j z there.1
  ]

  active_batch : (x : Begun) → IsRightBatch g x → IsRightBatch g' x
  active_batch x r = record {
    count = (let a : length g'.indexes.items ≡ length g.indexes.items = ap (λ (l : List IndexRegion). length l) h.indexes ∙ length-set g.indexes.items place (active h.index) in let b = r.count in omega arith);
    marks = r.marks;
    closes = r.closes;
    fit = subst (λ (t : Table). AllFit t x.batch.changes) (sym h.beside.table) r.fit;
    distinct = r.distinct;
    some = r.some;
    few = r.few;
    stage = r.stage;
    rows = r.rows;
    receipt = r.receipt;
    shaped = record {
      puts = subst (λ (t : Table). AllByRecursion (AreRightRows t) (puts_for x)) (sym h.beside.table) r.shaped.puts;
      marks = λ j z at. subst (λ (t : Table). AreRightParts t z.index (marks_for j x)) (sym h.beside.table) (active_shaped (λ n. marks_for n x) r.shaped.marks j z at);
      closes = λ j z at. subst (λ (t : Table). AreRightParts t z.index (closes_for j x)) (sym h.beside.table) (active_shaped (λ n. closes_for n x) r.shaped.closes j z at);
    };
  }

  active_rooms : HasRooms g → HasRooms g'
  active_rooms r = record {
    rows =
        (let a : sum_by cells_of_rows g'.batches.items ≡ sum_by cells_of_rows g.batches.items = ap (λ v. sum_by cells_of_rows v.items) h.beside.batches in
        let b : sum_by bytes_of_rows g'.batches.items ≡ sum_by bytes_of_rows g.batches.items = ap (λ v. sum_by bytes_of_rows v.items) h.beside.batches in
        let p : g'.rows.promised ≡ g.rows.promised = ap (λ (w : Region). w.promised) h.beside.rows in
        let q : g'.rows.promised_bytes ≡ g.rows.promised_bytes = ap (λ (w : Region). w.promised_bytes) h.beside.rows in
        let e = r.rows.0 in
        let f = r.rows.1 in
        (omega arith, omega arith));
    indexes = λ j z at.
        let a : sum_by (cells_at j) g'.batches.items ≡ sum_by (cells_at j) g.batches.items = ap (λ v. sum_by (cells_at j) v.items) h.beside.batches in
        let b : sum_by (bytes_at j) g'.batches.items ≡ sum_by (bytes_at j) g.batches.items = ap (λ v. sum_by (bytes_at j) v.items) h.beside.batches in
        let o : HasPromised z.region (sum_by (cells_at j) g.batches.items) (sum_by (bytes_at j) g.batches.items) = elim (active_cases j z at) [
          | inl here ↦ subst (λ (w : IndexRegion). HasPromised w.region (sum_by (cells_at j) g.batches.items) (sum_by (bytes_at j) g.batches.items)) (sym here.1) (r.indexes j h.index (ap (λ n. slice_get g.indexes.items n) here.0 ∙ h.is))
          | inr there ↦ r.indexes j z there.1
        ] in
        let e = o.0 in let f = o.1 in (omega arith, omega arith);
    light = subst (λ v. AllByRecursion IsLight v.items) (sym h.beside.batches) r.light;
  }

  pub right_active : IsRightGroup g → IsRightGroup g'
  right_active r = record {
    table = subst IsRightTable (sym h.beside.table) r.table;
    region = ap (λ (t : Table). t.regions) h.beside.table ∙ (r.region ∙ ap (λ (w : Region). region_of w ∷ []) (sym h.beside.rows));
    rows = subst (λ (w : Region). AreRightRows g'.table (read_of w)) (sym h.beside.rows) (subst (λ (t : Table). AreRightRows t (read_of g.rows)) (sym h.beside.table) r.rows);
    parts = subst (λ (t : Table). AllByRecursion (IsRightPart t) g'.indexes.items) (sym h.beside.table) (subst (λ (l : List IndexRegion). AllByRecursion (IsRightPart g.table) l) (sym h.indexes) (all_set (IsRightPart g.table) g.indexes.items place (active h.index) (active_part (all_at (IsRightPart g.table) g.indexes.items place h.index h.is r.parts)) r.parts));
    batches = subst (λ v. AllByRecursion (IsRightBatch g') v.items) (sym h.beside.batches) (all_more (IsRightBatch g) (IsRightBatch g') active_batch g.batches.items r.batches);
    rooms = active_rooms r.rooms;
  }

-- 5. An index less, where no batch is open

pub right_less : (g g' : Group) (n : ℕ) → HasIndexLess g g' n → g.batches.items ≡ [] → IsRightGroup g → IsRightGroup g'
right_less g g' n h none r =
    let none' : g'.batches.items ≡ [] = ap (λ v. v.items) h.beside.batches ∙ none in
    record {
      table = subst IsRightTable (sym h.beside.table) r.table;
      region = ap (λ (t : Table). t.regions) h.beside.table ∙ (r.region ∙ ap (λ (w : Region). region_of w ∷ []) (sym h.beside.rows));
      rows = subst (λ (w : Region). AreRightRows g'.table (read_of w)) (sym h.beside.rows) (subst (λ (t : Table). AreRightRows t (read_of g.rows)) (sym h.beside.table) r.rows);
      parts = subst (λ (t : Table). AllByRecursion (IsRightPart t) g'.indexes.items) (sym h.beside.table) (subst (λ (l : List IndexRegion). AllByRecursion (IsRightPart g.table) l) (sym h.indexes) (all_filter (λ (x : IndexRegion). not (x.index.id.0 == n)) (IsRightPart g.table) g.indexes.items r.parts));
      batches = subst (λ (l : List Begun). AllByRecursion (IsRightBatch g') l) (sym none') tt;
      rooms = rooms_none g' none';
    }
