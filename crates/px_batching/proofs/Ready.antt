-- What a batch hands out next, and the room for it.
use Rattle.std.proofs.Common.{◌≡◌, ℕ, ◌+◌, ◌-◌, ◌<◌, ◌≤◌, List, [], ◌∷◌, length, get_or, sum_by, slice_get, Option, Some, None, Result, Ok, Err, OnOk, true, refl, ap, sym, ◌∙◌, subst, arith}
use Rattle.std.specs.Prelude.{is_some}
use Rattle.std.proofs.lemmas.List.Sums.{get_or-le-sum_by}
use Rattle.std.proofs.lemmas.Option.{get_or_from_slice_get, slice_get-get_or}
use Rattle.px_cells.specs.CellData.{CellData}
use Rattle.px_keptcells.specs.Kept.{laid}
use Rattle.px_trail.specs.Batches.{rows_of}
use Rattle.px_phases.specs.Batch.{BatchData}
use Rattle.px_group.specs.Group.{FitsPhase, IsRightBatch, IsRightGroup}
use Rattle.px_group.specs.Room.{byte_count, bytes_at, bytes_of_rows, cells_at, cells_of_rows, closes_for, marks_for, IsLight}
use Rattle.px_group.specs.declared.group.Begun.{Begun}
use Rattle.px_group.specs.declared.group.Group.{Group}
use Rattle.px_group.specs.declared.group.IndexRegion.{IndexRegion}
use Rattle.px_group.specs.declared.group.Phase.{Phase}
use Rattle.px_group.specs.declared.group.Phase.TheVariants.{Marking, Writing, Verifying, Closing}
use Rattle.px_region.specs.declared.region.Region.{Region}
use Rattle.px_batching.specs.Steps.{HasCloses, HasMarks, StandsInPhase, UsesRoom}
use Rattle.px_batching.proofs.Places.{all_at, same_at, within}
use Rattle.px_batching.proofs.Right.{kept_here}

pub item_at : {A : Type 0} (xs : List A) (i : ℕ) (x : A) → i < length xs → x ≡ get_or xs i x → slice_get xs i ≡ Some x
item_at xs i x l e = slice_get-get_or xs i x l ∙ ap Some (sym e)

-- what is handed out next, of lists for the last ones of so many indexes
pub record IsNext (g : Group) (m : ℕ) (z : Begun) (phase : Phase) (kept : List (List (List CellData))) (pick : ℕ → Begun → List (List CellData)) : Type 0 where
  pub at : slice_get g.batches.items m ≡ Some z
  pub phase_is : z.phase ≡ phase
  pub parts : List (List CellData)
  pub rest : List (List (List CellData))
  pub kept_is : kept ≡ parts ∷ rest
  pub next : z.count - length kept + length kept ≡ z.count
  pub inside : z.count - length kept < length g.indexes.items
  pub here : pick (z.count - length kept) z ≡ parts
  pub light : byte_count (laid parts) ≤ 8388608
  pub room : (y : IndexRegion) → slice_get g.indexes.items (z.count - length kept) ≡ Some y → (length (laid parts) ≤ y.region.promised) × (byte_count (laid parts) ≤ y.region.promised_bytes)

some_first : (l : List (List (List CellData))) → 0 < length l → (p : List (List CellData)) × ((r : List (List (List CellData))) × (l ≡ p ∷ r))
some_first [] h = absurd (omega arith)
some_first (p ∷ r) h = (p, (r, refl))

module _ (g : Group) (m : ℕ) (r : IsRightGroup g) (z : Begun) (at : slice_get g.batches.items m ≡ Some z) where
  whole : IsRightBatch g z
  whole = all_at (IsRightBatch g) g.batches.items m z at r.batches

  least : (f : Begun → ℕ) → f z ≤ sum_by f g.batches.items
  least f = (let a = get_or-le-sum_by f g.batches.items m z (within g.batches.items m z at) in let e : f (get_or g.batches.items m z) ≡ f z = ap f (get_or_from_slice_get g.batches.items m z z at) in omega arith)

  pub next_marks : z.phase ≡ Marking → 0 < length z.batch.marks → IsNext g m z Marking z.batch.marks marks_for
  next_marks p l =
      let f = some_first z.batch.marks l in
      let parts = f.0 in
      let rest = f.1.0 in
      let i : ℕ = z.count - length z.batch.marks in
      let few = whole.marks in
      let most = whole.count in
      let n : i + length z.batch.marks ≡ z.count = omega arith in
      let h : marks_for i z ≡ parts = kept_here z.count i z.batch.marks rest parts f.1.1 n in
      let light = (all_at IsLight g.batches.items m z at r.rooms.light).marks i in
      record {
        at = at;
        phase_is = p;
        parts = parts;
        rest = rest;
        kept_is = f.1.1;
        next = n;
        inside = omega arith;
        here = h;
        light = subst (λ (w : List (List CellData)). byte_count (laid w) ≤ 8388608) h light;
        room = λ y here.
            (let q = r.rooms.indexes i y here in
            let a = least (cells_at i) in
            let b = least (bytes_at i) in
            let q0 = q.0 in
            let q1 = q.1 in
            let u : length (laid (marks_for i z)) ≡ length (laid parts) = ap (λ (w : List (List CellData)). length (laid w)) h in
            let v : byte_count (laid (marks_for i z)) ≡ byte_count (laid parts) = ap (λ (w : List (List CellData)). byte_count (laid w)) h in
            (omega arith, omega arith));
      }

  pub next_closes : z.phase ≡ Verifying → 0 < length z.batch.closes → IsNext g m z Verifying z.batch.closes closes_for
  next_closes p l =
      let f = some_first z.batch.closes l in
      let parts = f.0 in
      let rest = f.1.0 in
      let i : ℕ = z.count - length z.batch.closes in
      let few = whole.closes in
      let most = whole.count in
      let n : i + length z.batch.closes ≡ z.count = omega arith in
      let h : closes_for i z ≡ parts = kept_here z.count i z.batch.closes rest parts f.1.1 n in
      let light = (all_at IsLight g.batches.items m z at r.rooms.light).closes i in
      record {
        at = at;
        phase_is = p;
        parts = parts;
        rest = rest;
        kept_is = f.1.1;
        next = n;
        inside = omega arith;
        here = h;
        light = subst (λ (w : List (List CellData)). byte_count (laid w) ≤ 8388608) h light;
        room = λ y here.
            (let q = r.rooms.indexes i y here in
            let a = least (cells_at i) in
            let b = least (bytes_at i) in
            let q0 = q.0 in
            let q1 = q.1 in
            let u : length (laid (closes_for i z)) ≡ length (laid parts) = ap (λ (w : List (List CellData)). length (laid w)) h in
            let v : byte_count (laid (closes_for i z)) ≡ byte_count (laid parts) = ap (λ (w : List (List CellData)). byte_count (laid w)) h in
            (omega arith, omega arith));
      }

-- in the words of the code
pub ready_marks : (g : Group) (m : ℕ) → IsRightGroup g → (h : HasMarks g m) (z : Begun) → z ≡ get_or g.batches.items m z → IsNext g m z Marking z.batch.marks marks_for
ready_marks g m r h z e =
    let at : slice_get g.batches.items m ≡ Some z = item_at g.batches.items m z (within g.batches.items m h.at.batch h.at.is) e in
    let same : h.at.batch ≡ z = same_at g.batches.items m h.at.batch z h.at.is at in
    next_marks g m r z at (ap (λ (x : Begun). x.phase) (sym same) ∙ h.at.phase_is) (subst (λ (x : Begun). 0 < length x.batch.marks) same h.left)

pub ready_closes : (g : Group) (m : ℕ) → IsRightGroup g → (h : HasCloses g m) (z : Begun) → z ≡ get_or g.batches.items m z → IsNext g m z Verifying z.batch.closes closes_for
ready_closes g m r h z e =
    let at : slice_get g.batches.items m ≡ Some z = item_at g.batches.items m z (within g.batches.items m h.at.batch h.at.is) e in
    let same : h.at.batch ≡ z = same_at g.batches.items m h.at.batch z h.at.is at in
    next_closes g m r z at (ap (λ (x : Begun). x.phase) (sym same) ∙ h.at.phase_is) (subst (λ (x : Begun). 0 < length x.batch.closes) same h.left)

module _ {g : Group} {m : ℕ} {z : Begun} {phase : Phase} {kept : List (List (List CellData))} {pick : ℕ → Begun → List (List CellData)} (n : IsNext g m z phase kept pick) (left : ℕ) (is : left ≡ length kept) where
  pub place_for : (z.count - left + length kept ≡ z.count) × (z.count - left < length g.indexes.items)
  place_for = (let a = n.next in let b = n.inside in (omega arith, omega arith))

  pub room_for : (y : IndexRegion) → y ≡ get_or g.indexes.items (z.count - left) y → (length (laid n.parts) ≤ y.region.promised) × (byte_count (laid n.parts) ≤ y.region.promised_bytes)
  room_for y e = n.room y (item_at g.indexes.items (z.count - length kept) y n.inside (e ∙ ap (λ (k : ℕ). get_or g.indexes.items (z.count - k) y) is))

pub uses_same : (old new : Region) (cells cells' bytes bytes' : ℕ) → UsesRoom old new cells bytes → cells ≡ cells' → bytes ≡ bytes' → UsesRoom old new cells' bytes'
uses_same old new cells cells' bytes bytes' u a b = (let p = u.promised in let q = u.promised_bytes in record { promised = omega arith; promised_bytes = omega arith })

pub ok_both : {T E : Type 0} (r : Result T E) (P Q R : Type 0) → OnOk r P → OnOk r Q → (P → Q → R) → OnOk r R
ok_both (Ok x) P Q R p q f = f p q
ok_both (Err e) P Q R p q f = tt

-- the cells of the batch's rows, and the room for them
pub record IsNextPuts (g : Group) (m : ℕ) (z : Begun) : Type 0 where
  pub at : slice_get g.batches.items m ≡ Some z
  pub phase_is : z.phase ≡ Writing
  pub some : is_some z.batch.puts ≡ true
  pub parts : List (List CellData)
  pub kept_is : z.batch.puts ≡ Some parts
  pub rows_are : z.rows ≡ Some (rows_of z.batch.changes)
  pub light : byte_count (laid parts) ≤ 8388608
  pub room : length (laid parts) ≤ g.rows.promised
  pub room_bytes : byte_count (laid parts) ≤ g.rows.promised_bytes

pub stage_puts : (p : Phase) (n : ℕ) (o : BatchData) → p ≡ Writing → FitsPhase p n o → is_some o.puts ≡ true
stage_puts Marking n o e s = cc
stage_puts Writing n o e s = s.0
stage_puts Verifying n o e s = cc
stage_puts Closing n o e s = cc

pub some_parts : (o : Option (List (List CellData))) → is_some o ≡ true → (p : List (List CellData)) × (o ≡ Some p)
some_parts None e = cc
some_parts (Some p) e = (p, refl)

abbrev puts_in : Option (List (List CellData)) → List (List CellData)
puts_in None = []
puts_in (Some parts) = parts

pub ready_puts : (g : Group) (m : ℕ) → IsRightGroup g → (h : StandsInPhase g m Writing) (z : Begun) → z ≡ get_or g.batches.items m z → IsNextPuts g m z
ready_puts g m r h z e =
    let at : slice_get g.batches.items m ≡ Some z = item_at g.batches.items m z (within g.batches.items m h.batch h.is) e in
    let same : h.batch ≡ z = same_at g.batches.items m h.batch z h.is at in
    let p : z.phase ≡ Writing = ap (λ (x : Begun). x.phase) (sym same) ∙ h.phase_is in
    let w = whole g m r z at in
    let some = stage_puts z.phase z.count z.batch p w.stage in
    let f = some_parts z.batch.puts some in
    let parts = f.0 in
    let light = (all_at IsLight g.batches.items m z at r.rooms.light).puts in
    let a = least g m r z at cells_of_rows in
    let b = least g m r z at bytes_of_rows in
    let q0 = r.rooms.rows.0 in
    let q1 = r.rooms.rows.1 in
    let u : cells_of_rows z ≡ length (laid parts) = ap (λ o. length (laid (puts_in o))) f.1 in
    let v : bytes_of_rows z ≡ byte_count (laid parts) = ap (λ o. byte_count (laid (puts_in o))) f.1 in
    record { at = at; phase_is = p; some = some; parts = parts; kept_is = f.1; rows_are = w.rows some; light = omega arith; room = omega arith; room_bytes = omega arith }

pub ok_one : {T E : Type 0} (r : Result T E) (P Q : Type 0) → OnOk r P → (P → Q) → OnOk r Q
ok_one (Ok x) P Q p f = f p
ok_one (Err e) P Q p f = tt
