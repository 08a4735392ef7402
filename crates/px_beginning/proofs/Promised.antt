-- The room of batches in the regions.
use Rattle.std.proofs.Common.{◌≡◌, ℕ, zero, suc, ◌<◌, ◌≤◌, ◌+◌, Some, List, [], ◌∷◌, ◌++◌, map, length, get_or, inl, inr, true, Bool, ◌-◌, refl, ap, sym, ◌∙◌, subst, arith}
use Rattle.std.specs.Prelude.{if◌then◌else◌, nat_le, slice_get, sum_by, ◌⊎◌}
use Rattle.std.specs.Global.{Vec}
use Rattle.std.specs.List.{AllByRecursion}
use Rattle.std.proofs.lemmas.Bool.{cases_lt}
use Rattle.std.proofs.lemmas.List.Sums.{sum_by-cons}
use Rattle.px_cells.specs.CellData.{CellData}
use Rattle.px_keptcells.specs.Kept.{laid}
use Rattle.px_region.specs.Promise.{IsSamePromise}
use Rattle.px_region.specs.declared.region.Region.{Region}
use Rattle.px_group.specs.Room.{HasRooms, IsLight, byte_count, bytes_at, bytes_of_rows, cells_at, cells_of_rows, kept_for, most_bytes}
use Rattle.px_group.specs.declared.group.Begun.{Begun}
use Rattle.px_group.specs.declared.group.Group.{Group}
use Rattle.px_group.specs.declared.group.IndexRegion.{IndexRegion}
use Rattle.px_phases.specs.Batch.{BatchData}
use Rattle.px_values.specs.declared.change.Change.{Change}
use Rattle.px_beginning.proofs.Leaves.{alike_count}
use Rattle.px_beginning.specs.Admits.{Admits, HasRoomsWith, met_by}
use Rattle.px_beginning.specs.Leaves.{AreSamePromises, AreTaken, IsTaken, KeepsRooms, LeavesGroup, TakesRooms}
use Rattle.px_beginning.specs.Rooms.{AreRoomsOf, fresh_batch, no_room}
use Rattle.px_beginning.specs.declared.preparing.Prepared.{Prepared}
use Rattle.px_beginning.specs.declared.rooms.Room.{Room}

-- 1. Regions

pub same_promises : (xs : List IndexRegion) → AreSamePromises xs xs
same_promises [] = tt
same_promises (x ∷ xs) = (record { cells = refl; bytes = refl }, same_promises xs)

-- the region at the same place, of which the same was promised
record Kept (xs : List IndexRegion) (i : ℕ) (y : IndexRegion) : Type 0 where
  pub part : IndexRegion
  pub is : slice_get xs i ≡ Some part
  pub same : IsSamePromise part.region y.region

kept_at : (xs ys : List IndexRegion) → AreSamePromises xs ys → (i : ℕ) (y : IndexRegion) → slice_get ys i ≡ Some y → Kept xs i y
kept_at [] [] a i y e = cc
kept_at [] (z ∷ ys) a i y e = absurd a
kept_at (x ∷ xs) [] a i y e = absurd a
kept_at (x ∷ xs) (z ∷ ys) a zero y e = (let w : z ≡ y = cc in record { part = x; is = refl; same = subst (λ (v : IndexRegion). IsSamePromise x.region v.region) w a.0 })
kept_at (x ∷ xs) (z ∷ ys) a (suc i) y e = (let w = kept_at xs ys a.1 i y e in record { part = w.part; is = w.is; same = w.same })

-- the region at the same place, of which so much less was promised
record Taken (xs : List IndexRegion) (rooms : List Room) (i : ℕ) (y : IndexRegion) : Type 0 where
  pub part : IndexRegion
  pub is : slice_get xs i ≡ Some part
  pub more : IsTaken part.region y.region (get_or rooms i no_room)
  pub inside : i < length rooms

taken_at : (xs ys : List IndexRegion) (rooms : List Room) → AreTaken xs ys rooms → (i : ℕ) (y : IndexRegion) → slice_get ys i ≡ Some y → Taken xs rooms i y
taken_at [] [] rooms a i y e = cc
taken_at [] (z ∷ ys) rooms a i y e = absurd a
taken_at (x ∷ xs) [] rooms a i y e = absurd a
taken_at (x ∷ xs) (z ∷ ys) [] a i y e = absurd a
taken_at (x ∷ xs) (z ∷ ys) (r ∷ rooms) a zero y e = (let w : z ≡ y = cc in record { part = x; is = refl; more = subst (λ (v : IndexRegion). IsTaken x.region v.region r) w a.0; inside = omega arith })
taken_at (x ∷ xs) (z ∷ ys) (r ∷ rooms) a (suc i) y e = (let w = taken_at xs ys rooms a.1 i y e in record { part = w.part; is = w.is; more = w.more; inside = (let l = w.inside in omega arith) })

-- 2. Nothing is promised

pub rooms_kept : (g g' : Group) → LeavesGroup g g' → KeepsRooms g g' → HasRooms g → HasRooms g'
rooms_kept g g' l k h = record {
  rows = subst (λ (ms : List Begun). (sum_by cells_of_rows ms ≤ g'.rows.promised) × (sum_by bytes_of_rows ms ≤ g'.rows.promised_bytes)) (sym l.batches)
      (let c = h.rows.0 in let b = h.rows.1 in let e = k.rows.cells in let f = k.rows.bytes in (omega arith, omega arith));
  indexes = λ i y q.
      (let w = kept_at g.indexes.items g'.indexes.items k.indexes i y q in
      let p = h.indexes i w.part w.is in
      subst (λ (ms : List Begun). (sum_by (cells_at i) ms ≤ y.region.promised) × (sum_by (bytes_at i) ms ≤ y.region.promised_bytes)) (sym l.batches)
      (let c = p.0 in let b = p.1 in let e = w.same.cells in let f = w.same.bytes in (omega arith, omega arith)));
  light = subst (AllByRecursion IsLight) (sym l.batches) h.light;
}

-- 3. The room of a batch is promised

rooms_with : (g g' : Group) (p : Prepared) → LeavesGroup g g' → TakesRooms g g' p → HasRooms g → AreRoomsOf (length g.indexes.items) p → IsLight (fresh_batch (length g.indexes.items) p.batch) → HasRoomsWith g' (fresh_batch (length g.indexes.items) p.batch)
rooms_with g g' p l k h r light = record {
  rows = subst (λ (ms : List Begun). (sum_by cells_of_rows ms + cells_of_rows (fresh_batch (length g.indexes.items) p.batch) ≤ g'.rows.promised) × (sum_by bytes_of_rows ms + bytes_of_rows (fresh_batch (length g.indexes.items) p.batch) ≤ g'.rows.promised_bytes)) (sym l.batches)
      (let c = h.rows.0 in let b = h.rows.1 in let e = k.rows.0 in let f = k.rows.1 in let m = r.rows.0 in let n = r.rows.1 in (omega arith, omega arith));
  indexes = λ i y q.
      (let w = taken_at g.indexes.items g'.indexes.items p.indexes.items k.indexes i y q in
      let z = h.indexes i w.part w.is in
      let inside : i < length g.indexes.items = (let c = r.count_is in let d = w.inside in omega arith) in
      let x = r.indexes i inside in
      subst (λ (ms : List Begun). (sum_by (cells_at i) ms + cells_at i (fresh_batch (length g.indexes.items) p.batch) ≤ y.region.promised) × (sum_by (bytes_at i) ms + bytes_at i (fresh_batch (length g.indexes.items) p.batch) ≤ y.region.promised_bytes)) (sym l.batches)
      (let c = z.0 in let b = z.1 in let e = w.more.0 in let f = w.more.1 in let m = x.0 in let n = x.1 in (omega arith, omega arith)));
  light = light;
}

-- what a batch keeps for each index when it begins

pub true_if : (n m : ℕ) → n ≤ m → nat_le n m ≡ true
true_if n m l = search (arith, l)

pub kept_inside : (n : ℕ) (kept : List (List (List CellData))) → length kept ≡ n → (i : ℕ) → kept_for n kept i ≡ get_or kept i []
unfolding kept_for
kept_inside n kept e i =
    ap (λ (v : Bool). if v then get_or kept (i + length kept - n) [] else []) (true_if n (i + length kept) (omega arith))
    ∙ ap (λ (k : ℕ). get_or kept k []) (let z : i + length kept - n ≡ i = omega arith in z)

past_end : (kept : List (List (List CellData))) (i : ℕ) → length kept ≤ i → get_or kept i [] ≡ []
past_end [] i l = refl
past_end (p ∷ kept) zero l = absurd (omega arith)
past_end (p ∷ kept) (suc i) l = past_end kept i (omega arith)

light_batch : (n : ℕ) (p : Prepared) → AreRoomsOf n p → length p.batch.marks ≡ n → length p.batch.closes ≡ n → IsLight (fresh_batch n p.batch)
light_batch n p r lm lc = record {
  marks = λ i. elim (below i) [
    | inl l ↦ (let b = (r.indexes i l).1 in let q = r.light.1 i no_room (let c = r.count_is in omega arith) in omega arith)
    | inr l ↦ none i p.batch.marks lm l
  ];
  closes = λ i. elim (below i) [
    | inl l ↦ (let b = (r.indexes i l).1 in let q = r.light.1 i no_room (let c = r.count_is in omega arith) in omega arith)
    | inr l ↦ none i p.batch.closes lc l
  ];
  puts = (let b = r.rows.1 in let q = r.light.0 in omega arith);
}
  where
    below : (i : ℕ) → (i < n) ⊎ (n ≤ i)
    below i = elim (cases_lt i n) [ inl e ↦ inl e | inr e ↦ inr e ]

    none : (i : ℕ) (kept : List (List (List CellData))) → length kept ≡ n → n ≤ i → byte_count (laid (kept_for n kept i)) ≤ most_bytes
    none i kept e l = subst (λ (q : List (List CellData)). byte_count (laid q) ≤ most_bytes) (sym (kept_inside n kept e i ∙ past_end kept i (omega arith))) (let z : 0 ≤ most_bytes = omega arith in z)

pub rooms_taken : (g g' : Group) → LeavesGroup g g' → (p : Prepared) → TakesRooms g g' p → HasRooms g → AreRoomsOf (length g.indexes.items) p → length p.batch.marks ≡ length g.indexes.items → length p.batch.closes ≡ length g.indexes.items
    → HasRooms g' × HasRoomsWith g' (fresh_batch (length g'.indexes.items) p.batch)
rooms_taken g g' l p k h r lm lc =
    let w = rooms_with g g' p l k h r (light_batch (length g.indexes.items) p r lm lc) in
    let n = alike_count g.indexes.items g'.indexes.items l.indexes in (
      record {
        rows = (let c = w.rows.0 in let b = w.rows.1 in (omega arith, omega arith));
        indexes = λ i y q. (let z = w.indexes i y q in let c = z.0 in let b = z.1 in (omega arith, omega arith));
        light = subst (AllByRecursion IsLight) (sym l.batches) h.light;
      },
      subst (λ (m : ℕ). HasRoomsWith g' (fresh_batch m p.batch)) (sym n) w,
    )

-- 4. The batch is let in

sum_with : (f : Begun → ℕ) (h : Begun → Begun) → ((m : Begun) → f (h m) ≡ f m) → (ms : List Begun) (n : Begun) → sum_by f (map h ms ++ n ∷ []) ≡ sum_by f ms + f n
sum_with f h e [] n = omega arith
sum_with f h e (m ∷ ms) n = (let r = sum_with f h e ms n in let q = e m in let a = sum_by-cons f (h m) (map h ms ++ n ∷ []) in let b = sum_by-cons f m ms in omega arith)

light_with : (cs : List Change) (ms : List Begun) (n : Begun) → AllByRecursion IsLight ms → IsLight n → AllByRecursion IsLight (map (met_by cs) ms ++ n ∷ [])
light_with cs [] n a l = (l, tt)
light_with cs (m ∷ ms) n a l = (record { marks = a.0.marks; closes = a.0.closes; puts = a.0.puts }, light_with cs ms n a.1 l)

pub rooms_admitted : (g : Group) (bd : BatchData) (g' : Group) → Admits g bd g' → HasRooms g → HasRoomsWith g (fresh_batch (length g.indexes.items) bd) → HasRooms g'
rooms_admitted g bd g' a h w =
    let n : Begun = fresh_batch (length g.indexes.items) bd in
    record {
      rows = subst (λ (ms : List Begun). (sum_by cells_of_rows ms ≤ g'.rows.promised) × (sum_by bytes_of_rows ms ≤ g'.rows.promised_bytes)) (sym a.batches)
          (let c = sum_with cells_of_rows (met_by bd.changes) (λ m. refl) g.batches.items n in
          let b = sum_with bytes_of_rows (met_by bd.changes) (λ m. refl) g.batches.items n in
          let p = w.rows.0 in let q = w.rows.1 in
          let e = ap (λ (r : Region). r.promised) a.rows in
          let f = ap (λ (r : Region). r.promised_bytes) a.rows in
          (omega arith, omega arith));
      indexes = λ i y q.
          (let z = w.indexes i y (ap (λ (l : Vec IndexRegion). slice_get l.items i) (sym a.indexes) ∙ q) in
          subst (λ (ms : List Begun). (sum_by (cells_at i) ms ≤ y.region.promised) × (sum_by (bytes_at i) ms ≤ y.region.promised_bytes)) (sym a.batches)
          (let c = sum_with (cells_at i) (met_by bd.changes) (λ m. refl) g.batches.items n in
          let b = sum_with (bytes_at i) (met_by bd.changes) (λ m. refl) g.batches.items n in
          let p = z.0 in let r = z.1 in (omega arith, omega arith)));
      light = subst (AllByRecursion IsLight) (sym a.batches) (light_with bd.changes g.batches.items n h.light w.light);
    }
