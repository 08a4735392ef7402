-- The room that batches were promised, once one of them has handed out cells.
use Rattle.std.proofs.Common.{◌≡◌, ◌≢◌, ℕ, ◌+◌, ◌≤◌, ◌⊎◌, inl, inr, List, [], ◌∷◌, length, get_or, set, sum_by, slice_get, Option, Some, None, ap, sym, ◌∙◌, subst, arith}
use Rattle.std.specs.List.{AllByRecursion}
use Rattle.std.proofs.lemmas.Bool.{cases_eq}
use Rattle.std.proofs.lemmas.List.Sums.{sum_by-set}
use Rattle.std.proofs.lemmas.Option.{get_or_from_slice_get}
use Rattle.px_cells.specs.CellData.{CellData}
use Rattle.px_keptcells.specs.Kept.{laid}
use Rattle.px_region.specs.declared.region.Region.{Region}
use Rattle.px_group.specs.Room.{HasRooms, IsLight, byte_count, bytes_at, bytes_of_rows, cells_at, cells_of_rows, closes_for, kept_for, marks_for, puts_for}
use Rattle.px_phases.specs.Batch.{BatchData}
use Rattle.px_group.specs.declared.group.Begun.{Begun}
use Rattle.px_group.specs.declared.group.Group.{Group}
use Rattle.px_group.specs.declared.group.IndexRegion.{IndexRegion}
use Rattle.px_batching.specs.Steps.{IsIndexStep, IsQuietStep, IsRowStep, UsesRoom}
use Rattle.px_batching.proofs.Kept.{next_after, next_before, other_same}
use Rattle.px_batching.proofs.Places.{all_at, all_set, set_cases, within}

abbrev puts_in : Option (List (List CellData)) → List (List CellData)
puts_in None = []
puts_in (Some parts) = parts

abbrev count_in : Option (List (List CellData)) → ℕ
count_in o = length (laid (puts_in o))

abbrev bytes_in : Option (List (List CellData)) → ℕ
bytes_in o = byte_count (laid (puts_in o))

-- 1. Sums

-- where one batch keeps so much less, all of them do
pub sum_less : (f : Begun → ℕ) (ms : List Begun) (m : ℕ) (x x' : Begun) (u : ℕ) → slice_get ms m ≡ Some x → f x' + u ≡ f x → sum_by f (set ms m x') + u ≡ sum_by f ms
sum_less f ms m x x' u at e =
    let s = sum_by-set f ms m x' x (within ms m x at) in
    let q : f (get_or ms m x) ≡ f x = ap f (get_or_from_slice_get ms m x x at) in
    omega arith

pub sum_same : (f : Begun → ℕ) (ms : List Begun) (m : ℕ) (x x' : Begun) → slice_get ms m ≡ Some x → f x' ≡ f x → sum_by f (set ms m x') ≡ sum_by f ms
sum_same f ms m x x' at e = (let s = sum_less f ms m x x' 0 at (omega arith) in omega arith)

-- 2. What a batch keeps

-- it keeps so much less for the index at place i, and as much as before for all else
pub record KeepsLess (i : ℕ) (x x' : Begun) (cells bytes : ℕ) : Type 0 where
  pub puts : x'.batch.puts ≡ x.batch.puts
  pub marks : (j : ℕ) → (marks_for j x' ≡ marks_for j x) ⊎ (marks_for j x' ≡ [])
  pub closes : (j : ℕ) → (closes_for j x' ≡ closes_for j x) ⊎ (closes_for j x' ≡ [])
  pub cells_here : cells_at i x' + cells ≡ cells_at i x
  pub bytes_here : bytes_at i x' + bytes ≡ bytes_at i x
  pub cells_there : (j : ℕ) → j ≢ i → cells_at j x' ≡ cells_at j x
  pub bytes_there : (j : ℕ) → j ≢ i → bytes_at j x' ≡ bytes_at j x

module _ (x x' : Begun) (i : ℕ) (parts : List (List CellData)) (rest : List (List (List CellData))) (puts : x'.batch.puts ≡ x.batch.puts) (count : x'.count ≡ x.count) where
  either : (kept : List (List (List CellData))) → kept ≡ parts ∷ rest → i + length kept ≡ x.count → (j : ℕ) → (kept_for x.count rest j ≡ kept_for x.count kept j) ⊎ (kept_for x.count rest j ≡ [])
  either kept k next j = elim (cases_eq j i) [
    | inl e ↦ inr (ap (λ (n : ℕ). kept_for x.count rest n) e ∙ next_after x.count i parts rest (subst (λ (l : List (List (List CellData))). i + length l ≡ x.count) k next))
    | inr e ↦ inl (other_same x.count i parts rest (subst (λ (l : List (List (List CellData))). i + length l ≡ x.count) k next) j e ∙ ap (λ (l : List (List (List CellData))). kept_for x.count l j) (sym k))
  ]

  there : (kept : List (List (List CellData))) → kept ≡ parts ∷ rest → i + length kept ≡ x.count → (j : ℕ) → j ≢ i → kept_for x.count rest j ≡ kept_for x.count kept j
  there kept k next j e = other_same x.count i parts rest (subst (λ (l : List (List (List CellData))). i + length l ≡ x.count) k next) j e ∙ ap (λ (l : List (List (List CellData))). kept_for x.count l j) (sym k)

  gone : (kept : List (List (List CellData))) → kept ≡ parts ∷ rest → i + length kept ≡ x.count → kept_for x.count rest i ≡ []
  gone kept k next = next_after x.count i parts rest (subst (λ (l : List (List (List CellData))). i + length l ≡ x.count) k next)

  here : (kept : List (List (List CellData))) → kept ≡ parts ∷ rest → i + length kept ≡ x.count → kept_for x.count kept i ≡ parts
  here kept k next = ap (λ (l : List (List (List CellData))). kept_for x.count l i) k ∙ next_before x.count i parts rest (subst (λ (l : List (List (List CellData))). i + length l ≡ x.count) k next)

  -- the marks for the next index are handed out
  pub less_marks : x.batch.marks ≡ parts ∷ rest → i + length x.batch.marks ≡ x.count → x'.batch.marks ≡ rest → x'.batch.closes ≡ x.batch.closes → KeepsLess i x x' (length (laid parts)) (byte_count (laid parts))
  less_marks k next now closes =
      let marks_now : (j : ℕ) → marks_for j x' ≡ kept_for x.count rest j = λ j. (λ t. kept_for (count t) (now t) j) in
      let closes_now : (j : ℕ) → closes_for j x' ≡ closes_for j x = λ j. (λ t. kept_for (count t) (closes t) j) in
      let gone_now : marks_for i x' ≡ [] = marks_now i ∙ gone x.batch.marks k next in
      let here_was : marks_for i x ≡ parts = here x.batch.marks k next in
      record {
        puts = puts;
        marks = λ j. elim (either x.batch.marks k next j) [ inl e ↦ inl (marks_now j ∙ e) | inr e ↦ inr (marks_now j ∙ e) ];
        closes = λ j. inl (closes_now j);
        cells_here =
            (let a : length (laid (marks_for i x')) ≡ 0 = ap (λ (l : List (List CellData)). length (laid l)) gone_now in
            let b : length (laid (marks_for i x)) ≡ length (laid parts) = ap (λ (l : List (List CellData)). length (laid l)) here_was in
            let c : length (laid (closes_for i x')) ≡ length (laid (closes_for i x)) = ap (λ (l : List (List CellData)). length (laid l)) (closes_now i) in
            omega arith);
        bytes_here =
            (let a : byte_count (laid (marks_for i x')) ≡ byte_count [] = ap (λ (l : List (List CellData)). byte_count (laid l)) gone_now in
            let b : byte_count (laid (marks_for i x)) ≡ byte_count (laid parts) = ap (λ (l : List (List CellData)). byte_count (laid l)) here_was in
            let c : byte_count (laid (closes_for i x')) ≡ byte_count (laid (closes_for i x)) = ap (λ (l : List (List CellData)). byte_count (laid l)) (closes_now i) in
            omega arith);
        cells_there = λ j n. (λ t. length (laid ((marks_now j ∙ there x.batch.marks k next j n) t)) + length (laid (closes_now j t)));
        bytes_there = λ j n. (λ t. byte_count (laid ((marks_now j ∙ there x.batch.marks k next j n) t)) + byte_count (laid (closes_now j t)));
      }

  -- what closes the marks at the next index is handed out
  pub less_closes : x.batch.closes ≡ parts ∷ rest → i + length x.batch.closes ≡ x.count → x'.batch.closes ≡ rest → x'.batch.marks ≡ x.batch.marks → KeepsLess i x x' (length (laid parts)) (byte_count (laid parts))
  less_closes k next now marks =
      let closes_now : (j : ℕ) → closes_for j x' ≡ kept_for x.count rest j = λ j. (λ t. kept_for (count t) (now t) j) in
      let marks_now : (j : ℕ) → marks_for j x' ≡ marks_for j x = λ j. (λ t. kept_for (count t) (marks t) j) in
      let gone_now : closes_for i x' ≡ [] = closes_now i ∙ gone x.batch.closes k next in
      let here_was : closes_for i x ≡ parts = here x.batch.closes k next in
      record {
        puts = puts;
        closes = λ j. elim (either x.batch.closes k next j) [ inl e ↦ inl (closes_now j ∙ e) | inr e ↦ inr (closes_now j ∙ e) ];
        marks = λ j. inl (marks_now j);
        cells_here =
            (let a : length (laid (closes_for i x')) ≡ 0 = ap (λ (l : List (List CellData)). length (laid l)) gone_now in
            let b : length (laid (closes_for i x)) ≡ length (laid parts) = ap (λ (l : List (List CellData)). length (laid l)) here_was in
            let c : length (laid (marks_for i x')) ≡ length (laid (marks_for i x)) = ap (λ (l : List (List CellData)). length (laid l)) (marks_now i) in
            omega arith);
        bytes_here =
            (let a : byte_count (laid (closes_for i x')) ≡ byte_count [] = ap (λ (l : List (List CellData)). byte_count (laid l)) gone_now in
            let b : byte_count (laid (closes_for i x)) ≡ byte_count (laid parts) = ap (λ (l : List (List CellData)). byte_count (laid l)) here_was in
            let c : byte_count (laid (marks_for i x')) ≡ byte_count (laid (marks_for i x)) = ap (λ (l : List (List CellData)). byte_count (laid l)) (marks_now i) in
            omega arith);
        cells_there = λ j n. (λ t. length (laid (marks_now j t)) + length (laid ((closes_now j ∙ there x.batch.closes k next j n) t)));
        bytes_there = λ j n. (λ t. byte_count (laid (marks_now j t)) + byte_count (laid ((closes_now j ∙ there x.batch.closes k next j n) t)));
      }

-- 3. Room

light_less : (i : ℕ) (x x' : Begun) (cells bytes : ℕ) → KeepsLess i x x' cells bytes → IsLight x → IsLight x'
light_less i x x' cells bytes l h = record {
  marks = λ j. elim (l.marks j) [
    | inl e ↦ (let a : byte_count (laid (marks_for j x')) ≡ byte_count (laid (marks_for j x)) = ap (λ (p : List (List CellData)). byte_count (laid p)) e in let b = h.marks j in omega arith)
    | inr e ↦ (let a : byte_count (laid (marks_for j x')) ≡ byte_count [] = ap (λ (p : List (List CellData)). byte_count (laid p)) e in omega arith)
  ];
  closes = λ j. elim (l.closes j) [
    | inl e ↦ (let a : byte_count (laid (closes_for j x')) ≡ byte_count (laid (closes_for j x)) = ap (λ (p : List (List CellData)). byte_count (laid p)) e in let b = h.closes j in omega arith)
    | inr e ↦ (let a : byte_count (laid (closes_for j x')) ≡ byte_count [] = ap (λ (p : List (List CellData)). byte_count (laid p)) e in omega arith)
  ];
  puts = (let a : byte_count (laid (puts_for x')) ≡ byte_count (laid (puts_for x)) = ap bytes_in l.puts in let b = h.puts in omega arith);
}

-- a step at one index, which uses the room of what is kept no more
pub rooms_index : (g g' : Group) (m i : ℕ) (x x' : Begun) (y : IndexRegion) (new : Region) (cells bytes : ℕ) → IsIndexStep g g' m x x' i y new → UsesRoom y.region new cells bytes → KeepsLess i x x' cells bytes → HasRooms g → HasRooms g'
rooms_index g g' m i x x' y new cells bytes s u l h = record {
  rows =
      (let a = sum_same cells_of_rows g.batches.items m x x' s.step.batch (ap count_in l.puts) in
      let b = sum_same bytes_of_rows g.batches.items m x x' s.step.batch (ap bytes_in l.puts) in
      let a' : sum_by cells_of_rows g'.batches.items ≡ sum_by cells_of_rows (set g.batches.items m x') = ap (sum_by cells_of_rows) s.step.batches in
      let b' : sum_by bytes_of_rows g'.batches.items ≡ sum_by bytes_of_rows (set g.batches.items m x') = ap (sum_by bytes_of_rows) s.step.batches in
      let r : g'.rows.promised ≡ g.rows.promised = ap (λ (w : Region). w.promised) s.rows in
      let q : g'.rows.promised_bytes ≡ g.rows.promised_bytes = ap (λ (w : Region). w.promised_bytes) s.rows in
      let old = h.rows.0 in
      let old_bytes = h.rows.1 in
      (omega arith, omega arith));
  indexes = λ j z at. elim (set_cases g.indexes.items i j (record y { region = new }) z (sym (ap (λ (l : List IndexRegion). slice_get l j) s.indexes) ∙ at)) [
    | inl e ↦
        (let a = sum_less (cells_at i) g.batches.items m x x' cells s.step.batch l.cells_here in
        let b = sum_less (bytes_at i) g.batches.items m x x' bytes s.step.batch l.bytes_here in
        let a' : sum_by (cells_at j) g'.batches.items ≡ sum_by (cells_at i) (set g.batches.items m x') = (λ t. sum_by (cells_at (e.0 t)) (s.step.batches t)) in
        let b' : sum_by (bytes_at j) g'.batches.items ≡ sum_by (bytes_at i) (set g.batches.items m x') = (λ t. sum_by (bytes_at (e.0 t)) (s.step.batches t)) in
        let r : z.region.promised ≡ new.promised = ap (λ (w : IndexRegion). w.region.promised) e.1 in
        let q : z.region.promised_bytes ≡ new.promised_bytes = ap (λ (w : IndexRegion). w.region.promised_bytes) e.1 in
        let used = u.promised in
        let used_bytes = u.promised_bytes in
        let old = (h.indexes i y s.index).0 in
        let old_bytes = (h.indexes i y s.index).1 in
        (omega arith, omega arith))
    | inr e ↦
        (let a = sum_same (cells_at j) g.batches.items m x x' s.step.batch (l.cells_there j e.0) in
        let b = sum_same (bytes_at j) g.batches.items m x x' s.step.batch (l.bytes_there j e.0) in
        let a' : sum_by (cells_at j) g'.batches.items ≡ sum_by (cells_at j) (set g.batches.items m x') = ap (sum_by (cells_at j)) s.step.batches in
        let b' : sum_by (bytes_at j) g'.batches.items ≡ sum_by (bytes_at j) (set g.batches.items m x') = ap (sum_by (bytes_at j)) s.step.batches in
        let old = (h.indexes j z e.1).0 in
        let old_bytes = (h.indexes j z e.1).1 in
        (omega arith, omega arith))
  ];
  light = subst (λ (ms : List Begun). AllByRecursion IsLight ms) (sym s.step.batches) (all_set IsLight g.batches.items m x' (light_less i x x' cells bytes l (all_at IsLight g.batches.items m x s.step.batch h.light)) h.light);
}

-- a step without a region, of a batch that keeps what it kept
pub rooms_quiet : (g g' : Group) (m : ℕ) (x x' : Begun) → IsQuietStep g g' m x x' → x'.batch ≡ x.batch → x'.count ≡ x.count → HasRooms g → HasRooms g'
rooms_quiet g g' m x x' s b c h = record {
  rows =
      (let a = sum_now cells_of_rows (ap (λ (o : BatchData). length (laid (puts_in o.puts))) b) in
      let d = sum_now bytes_of_rows (ap (λ (o : BatchData). byte_count (laid (puts_in o.puts))) b) in
      let r : g'.rows.promised ≡ g.rows.promised = ap (λ (w : Region). w.promised) s.rows in
      let q : g'.rows.promised_bytes ≡ g.rows.promised_bytes = ap (λ (w : Region). w.promised_bytes) s.rows in
      let old = h.rows.0 in
      let old_bytes = h.rows.1 in
      (omega arith, omega arith));
  indexes = λ j z at.
      (let a = sum_now (cells_at j) (λ t. length (laid (kept_for (c t) (b t).marks j)) + length (laid (kept_for (c t) (b t).closes j))) in
      let d = sum_now (bytes_at j) (λ t. byte_count (laid (kept_for (c t) (b t).marks j)) + byte_count (laid (kept_for (c t) (b t).closes j))) in
      let was : slice_get g.indexes.items j ≡ Some z = sym (ap (λ l. slice_get l.items j) s.indexes) ∙ at in
      let old = (h.indexes j z was).0 in
      let old_bytes = (h.indexes j z was).1 in
      (omega arith, omega arith));
  light = subst (λ (ms : List Begun). AllByRecursion IsLight ms) (sym s.step.batches) (all_set IsLight g.batches.items m x' light_now h.light);
}
  where
    sum_now : (f : Begun → ℕ) → f x' ≡ f x → sum_by f g'.batches.items ≡ sum_by f g.batches.items
    sum_now f e = ap (sum_by f) s.step.batches ∙ sum_same f g.batches.items m x x' s.step.batch e

    light_now : IsLight x'
    light_now = (let l = all_at IsLight g.batches.items m x s.step.batch h.light in record {
      marks = λ j. subst (λ (n : ℕ). n ≤ 8388608) (sym (λ t. byte_count (laid (kept_for (c t) (b t).marks j)))) (l.marks j);
      closes = λ j. subst (λ (n : ℕ). n ≤ 8388608) (sym (λ t. byte_count (laid (kept_for (c t) (b t).closes j)))) (l.closes j);
      puts = subst (λ (n : ℕ). n ≤ 8388608) (sym (ap (λ (o : BatchData). byte_count (laid (puts_in o.puts))) b)) l.puts;
    })

-- a step of the region of the rows, of a batch that keeps no more cells for it
pub rooms_rows : (g g' : Group) (m : ℕ) (x x' : Begun) (new : Region) (parts : List (List CellData)) → IsRowStep g g' m x x' new → UsesRoom g.rows new (length (laid parts)) (byte_count (laid parts)) → x.batch.puts ≡ Some parts → x'.batch ≡ record x.batch { puts = None } → x'.count ≡ x.count → HasRooms g → HasRooms g'
rooms_rows g g' m x x' new parts s u k b c h = record {
  rows =
      (let here : cells_of_rows x' ≡ 0 = ap (λ (o : BatchData). length (laid (puts_in o.puts))) b in
      let here_bytes : bytes_of_rows x' ≡ 0 = ap (λ (o : BatchData). byte_count (laid (puts_in o.puts))) b in
      let was : cells_of_rows x ≡ length (laid parts) = ap (λ o. length (laid (puts_in o))) k in
      let was_bytes : bytes_of_rows x ≡ byte_count (laid parts) = ap (λ o. byte_count (laid (puts_in o))) k in
      let a = sum_less cells_of_rows g.batches.items m x x' (length (laid parts)) s.step.batch (omega arith) in
      let d = sum_less bytes_of_rows g.batches.items m x x' (byte_count (laid parts)) s.step.batch (omega arith) in
      let a' : sum_by cells_of_rows g'.batches.items ≡ sum_by cells_of_rows (set g.batches.items m x') = ap (sum_by cells_of_rows) s.step.batches in
      let d' : sum_by bytes_of_rows g'.batches.items ≡ sum_by bytes_of_rows (set g.batches.items m x') = ap (sum_by bytes_of_rows) s.step.batches in
      let r : g'.rows.promised ≡ new.promised = ap (λ (w : Region). w.promised) s.rows in
      let q : g'.rows.promised_bytes ≡ new.promised_bytes = ap (λ (w : Region). w.promised_bytes) s.rows in
      let used = u.promised in
      let used_bytes = u.promised_bytes in
      let old = h.rows.0 in
      let old_bytes = h.rows.1 in
      (omega arith, omega arith));
  indexes = λ j z at.
      (let a = sum_now (cells_at j) (λ t. length (laid (kept_for (c t) (b t).marks j)) + length (laid (kept_for (c t) (b t).closes j))) in
      let d = sum_now (bytes_at j) (λ t. byte_count (laid (kept_for (c t) (b t).marks j)) + byte_count (laid (kept_for (c t) (b t).closes j))) in
      let was : slice_get g.indexes.items j ≡ Some z = sym (ap (λ l. slice_get l.items j) s.indexes) ∙ at in
      let old = (h.indexes j z was).0 in
      let old_bytes = (h.indexes j z was).1 in
      (omega arith, omega arith));
  light = subst (λ (ms : List Begun). AllByRecursion IsLight ms) (sym s.step.batches) (all_set IsLight g.batches.items m x' light_now h.light);
}
  where
    sum_now : (f : Begun → ℕ) → f x' ≡ f x → sum_by f g'.batches.items ≡ sum_by f g.batches.items
    sum_now f e = ap (sum_by f) s.step.batches ∙ sum_same f g.batches.items m x x' s.step.batch e

    light_now : IsLight x'
    light_now = (let l = all_at IsLight g.batches.items m x s.step.batch h.light in record {
      marks = λ j. subst (λ (n : ℕ). n ≤ 8388608) (sym (λ t. byte_count (laid (kept_for (c t) (b t).marks j)))) (l.marks j);
      closes = λ j. subst (λ (n : ℕ). n ≤ 8388608) (sym (λ t. byte_count (laid (kept_for (c t) (b t).closes j)))) (l.closes j);
      puts = (let z : byte_count (laid (puts_for x')) ≡ 0 = ap (λ (o : BatchData). byte_count (laid (puts_in o.puts))) b in omega arith);
    })
