-- The calls that are left to a batch: few when it begins, and each leaves fewer.
use Rattle.std.proofs.Common.{◌≡◌, ◌≢◌, ◌<◌, ◌≤◌, ◌+◌, ◌*◌, ◌==◌, ℕ, suc, zero, Bool, true, false, is_some, inl, inr, Option, None, Some, Result, Ok, Err, List, [], ◌∷◌, length, get_or, slice_get, set, refl, sym, ap, subst, ◌∙◌, arith, sum_by}
use Rattle.std.specs.Prelude.{if◌then◌else◌}
use Rattle.std.specs.List.{AllByRecursion, slice_set}
use Rattle.std.proofs.lemmas.Bool.{cases_eq, eq-eqb, ne_eqb}
use Rattle.std.proofs.lemmas.List.Sums.{sum_by-cons, sum_by-set}
use Rattle.px_outside.specs.Parts.{AreDistinct, HasNone}
use Rattle.px_outside.specs.declared.disk.Disk.{Ghosts}
use Rattle.px_outside.specs.declared.disk.Failed.{Failed}
use Rattle.px_cells.specs.CellData.{CellData}
use Rattle.px_values.specs.declared.name.TableId.{TableId}
use Rattle.px_tables.specs.declared.index.Index.{Index}
use Rattle.px_tables.specs.declared.table.Table.{Table}
use Rattle.px_trail.specs.declared.entry.Entry.{Entry}
use Rattle.px_trail.specs.Recorded.{Recorded}
use Rattle.px_trail.specs.Trail.{Base, catalogue_of, index_of}
use Rattle.px_calls.specs.Causes.{count_below, of_table}
use Rattle.px_calls.specs.declared.ticket.Marks.{Marks}
use Rattle.px_calls.specs.declared.ticket.Marks.TheVariants as marks
use Rattle.px_calls.specs.declared.ticket.Ticket.{Ticket}
use Rattle.px_calls.specs.declared.ticket.Verifies.{Verifies}
use Rattle.px_calls.specs.declared.ticket.Verifies.TheVariants as verifies
use Rattle.px_phases.specs.Batch.{BatchData}
use Rattle.px_schema.specs.declared.standing.Standing.{Standing}
use Rattle.px_catalog.specs.declared.catalog.Catalog.{Catalog}
use Rattle.px_recovery.specs.Tables.{index_in, number_of_index}
use Rattle.px_standing.specs.Agrees.{Agrees, number_of_table}
use Rattle.px_standing.proofs.Finder.{counted_one, found_all}
use Rattle.px_standing.proofs.Looked.{index_finder, indexes_below}
use Rattle.px_group.specs.Group.{HaveOwnStamps, IsRightBatch, IsRightGroup, IsRightPart}
use Rattle.px_group.specs.declared.group.Begun.{Begun}
use Rattle.px_group.specs.declared.group.Group.{Group}
use Rattle.px_group.specs.declared.group.IndexRegion.{IndexRegion}
use Rattle.px_group.specs.declared.group.Phase.{Phase}
use Rattle.px_group.specs.declared.group.Phase.TheVariants.{Marking, Writing, Verifying, Closing}
use Rattle.px_defined.specs.Defined.{AreOnceIn, HasOnce}
use Rattle.px_batching.specs.Steps.{ClosesAll, FinishesCloses, FinishesMarks, IsBatchStep, Marked, MarksAll, Verified, WroteCloses, WroteMarks, WrotePuts}
use Rattle.px_batching.proofs.Places.{same_at, set_here}
use Rattle.px_batching.proofs.Traced.{traced_of}
use Rattle.px_server.specs.CallsLeft.{calls_left, calls_left_in, left_at, left_by}
use Rattle.px_server.specs.Kept.{HasTallied, IsKept, number_in, table_in_group}
use Rattle.px_server.specs.Others.{Beginning}
use Rattle.px_server.proofs.Lists.{all_both, all_weaker, distinct_map, rising_distinct}
use Rattle.px_server.proofs.OpenBatches.{stamp_in}
use Rattle.px_server.proofs.Room.{get_at}

-- ---- what is counted under a number

if_same : (a n v : ℕ) → a ≡ n → (if a == n then v else 0) ≡ v
if_same a n v is = ap (λ (w : Bool). if w then v else 0) (eq-eqb a n is)

if_other : (a n v : ℕ) → a ≢ n → (if a == n then v else 0) ≡ 0
if_other a n v other = ap (λ (w : Bool). if w then v else 0) (ne_eqb a n other)

if_few : (w : Bool) (v most : ℕ) → v ≤ most → (if w then v else 0) ≤ most
if_few true v most le = le
if_few false v most le = omega arith

sum_none : {A : Type 0} (num f : A → ℕ) (n : ℕ) → ((x : A) → num x ≢ n → f x ≡ 0) → (xs : List A) → HasNone num n xs → sum_by f xs ≡ 0
sum_none num f n others [] none = omega arith
sum_none num f n others (x ∷ xs) none = (let a = sum_by-cons f x xs in let b = others x none.0 in let c = sum_none num f n others xs none.1 in omega (arith, a, b, c))

-- of those that have different numbers one counts at most
sum_one : {A : Type 0} (num f : A → ℕ) (n most : ℕ) → ((x : A) → num x ≢ n → f x ≡ 0) → (xs : List A) → AreDistinct num xs → AllByRecursion (λ x. f x ≤ most) xs → sum_by f xs ≤ most
sum_one num f n most others [] once all = omega arith
sum_one num f n most others (x ∷ xs) once all = elim (cases_eq (num x) n) [
  | inl here ↦ (let a = sum_by-cons f x xs in let b = all.0 in let c = sum_none num f n others xs (subst (λ (m : ℕ). HasNone num m xs) here once.0) in omega (arith, a, b, c))
  | inr other ↦ (let a = sum_by-cons f x xs in let b = others x other in let c = sum_one num f n most others xs once.1 all.1 in omega (arith, a, b, c))
]

-- ---- different numbers of which something is found

abbrev without : {A : Type 0} → (ℕ → Option A) → ℕ → ℕ → Option A
without f a m = if m == a then None else f m

without_own : {A : Type 0} (f : ℕ → Option A) (a : ℕ) → is_some (without f a a) ≡ false
without_own f a = ap (λ (w : Bool). is_some (if w then None else f a)) (eq-eqb a a refl)

without_other : {A : Type 0} (f : ℕ → Option A) (a m : ℕ) → a ≢ m → f m ≡ without f a m
without_other f a m other = sym (ap (λ (w : Bool). if w then None else f m) (ne_eqb m a (λ e. other (sym e))))

all_found : {A X : Type 0} (num : X → ℕ) (f : ℕ → Option A) (n a : ℕ) (xs : List X) → HasNone num a xs → AllByRecursion (λ x. (num x < n) × (is_some (f (num x)) ≡ true)) xs → AllByRecursion (λ x. (num x < n) × (is_some (without f a (num x)) ≡ true)) xs
all_found num f n a [] none all = tt
all_found num f n a (x ∷ xs) none all = ((all.0.0, ap is_some (sym (without_other f a (num x) (λ e. none.0 (sym e)))) ∙ all.0.1), all_found num f n a xs none.1 all.1)

pub as_many : {A X : Type 0} (num : X → ℕ) (f : ℕ → Option A) (n : ℕ) (xs : List X) → AreDistinct num xs → AllByRecursion (λ x. (num x < n) × (is_some (f (num x)) ≡ true)) xs → length xs ≤ count_below f n
as_many num f n [] once all = omega arith
as_many num f n (x ∷ xs) once all =
    let one : count_below f n ≡ suc (count_below (without f (num x)) n) = (counted_one f (without f (num x)) (num x) all.0.1 (without_own f (num x)) (λ m other. without_other f (num x) m other) n).0 all.0.0 in
    let rest = as_many num (without f (num x)) n xs once.1 (all_found num f n (num x) xs once.0 all.1) in
    omega (arith, one, rest)

-- ---- a batch goes on

abbrev pub HasStamp : Group → ℕ → ℕ → Type 0
HasStamp g m s = (x : Begun) → slice_get g.batches.items m ≡ Some x → x.batch.stamp ≡ s

step_less : (g g' : Group) (m t s : ℕ) (x x' : Begun) → IsBatchStep g g' m x x' → HasStamp g m s → x'.batch.stamp ≡ x.batch.stamp → g.table.id.0 ≡ t → calls_left_in x'.phase x'.batch < calls_left_in x.phase x.batch → left_by t s g' < left_by t s g
step_less g g' m t s x x' h stamp same own less =
    let at = get_at g.batches.items m x h.batch in
    let old = stamp x h.batch in
    let sum = sum_by-set (left_at s) g.batches.items m x' x at.0 in
    let was : left_at s (get_or g.batches.items m x) ≡ calls_left_in x.phase x.batch = ap (left_at s) at.1 ∙ if_same x.batch.stamp s (calls_left_in x.phase x.batch) old in
    let now : left_at s x' ≡ calls_left_in x'.phase x'.batch = if_same x'.batch.stamp s (calls_left_in x'.phase x'.batch) (same ∙ old) in
    let next : sum_by (left_at s) g'.batches.items ≡ sum_by (left_at s) (set g.batches.items m x') = ap (λ (ms : List Begun). sum_by (left_at s) ms) h.batches in
    let mine : left_by t s g ≡ sum_by (left_at s) g.batches.items = if_same g.table.id.0 t (sum_by (left_at s) g.batches.items) own in
    let mine' : left_by t s g' ≡ sum_by (left_at s) g'.batches.items = if_same g'.table.id.0 t (sum_by (left_at s) g'.batches.items) (ap (λ (z : Table). z.id.0) h.table ∙ own) in
    omega (arith, sum, was, now, next, mine, mine', less)

-- it still has its stamp
step_stamp : (g g' : Group) (m s : ℕ) (x x' : Begun) → IsBatchStep g g' m x x' → HasStamp g m s → x'.batch.stamp ≡ x.batch.stamp → HasStamp g' m s
step_stamp g g' m s x x' h stamp same y at =
    let here : slice_get g'.batches.items m ≡ Some x' = ap (λ (ms : List Begun). slice_get ms m) h.batches ∙ set_here g.batches.items m x x' h.batch in
    ap (λ (z : Begun). z.batch.stamp) (same_at g'.batches.items m y x' at here) ∙ (same ∙ stamp x h.batch)

module _ {D : Type 0} (d : Ghosts D) (m t s : ℕ) where
  marks_less : (g g' : Group) (disk disk' : D) → WroteMarks d g g' disk disk' m → HasStamp g m s → g.table.id.0 ≡ t → left_by t s g' < left_by t s g
  marks_less g g' disk disk' w stamp own =
      let o = w.hands in
      let x = o.batch in
      let p : calls_left_in x.phase x.batch ≡ 3 + length x.batch.marks + length x.batch.closes = ap (λ (q : Phase). calls_left_in q x.batch) o.marking in
      let p' : calls_left_in x.phase (record x.batch { marks = o.rest }) ≡ 3 + length o.rest + length x.batch.closes = ap (λ (q : Phase). calls_left_in q (record x.batch { marks = o.rest })) o.marking in
      let one : length x.batch.marks ≡ suc (length o.rest) = ap (λ (l : List (List (List CellData))). length l) o.kept in
      step_less g g' m t s x (record x { batch = record x.batch { marks = o.rest } }) o.step.step stamp refl own (omega (arith, p, p', one))

  marks_stamp : (g g' : Group) (disk disk' : D) → WroteMarks d g g' disk disk' m → HasStamp g m s → HasStamp g' m s
  marks_stamp g g' disk disk' w stamp = step_stamp g g' m s w.hands.batch (record w.hands.batch { batch = record w.hands.batch.batch { marks = w.hands.rest } }) w.hands.step.step stamp refl

  marked_less : (g g' : Group) → FinishesMarks g g' m → HasStamp g m s → g.table.id.0 ≡ t → left_by t s g' < left_by t s g
  marked_less g g' f stamp own =
      let x = f.batch in
      let p : calls_left_in x.phase x.batch ≡ 3 + length x.batch.marks + length x.batch.closes = ap (λ (q : Phase). calls_left_in q x.batch) f.marking in
      step_less g g' m t s x (record x { phase = Writing }) f.step.step stamp refl own (omega (arith, p))

  all_marked_less : (g g' : Group) (disk disk' : D) → MarksAll d g g' disk disk' m → HasStamp g m s → g.table.id.0 ≡ t → left_by t s g' < left_by t s g
  all_marked_less g g' disk disk' a stamp own = elim a.before [
    | inl still ↦ marked_less g g' (subst (λ (z : Group). FinishesMarks z g' m) still.0 a.last) stamp own
    | inr w ↦ (
        let one = marks_less g a.middle disk disk' w stamp own in
        let two = marked_less a.middle g' a.last (marks_stamp g a.middle disk disk' w stamp) (ap (λ (z : Table). z.id.0) w.hands.step.step.table ∙ own) in
        omega (arith, one, two))
  ]

  -- a call that marks
  pub mark_less : (g g' : Group) (disk disk' : D) (r : Result Marks Failed) (v : Marks) → r ≡ Ok v → Marked d g g' disk disk' m r → HasStamp g m s → g.table.id.0 ≡ t → left_by t s g' < left_by t s g
  mark_less g g' disk disk' (Ok marks.More) v is h stamp own = marks_less g g' disk disk' h.0 stamp own
  mark_less g g' disk disk' (Ok marks.AllMarked) v is h stamp own = all_marked_less g g' disk disk' h stamp own
  mark_less g g' disk disk' (Err e) v is h stamp own = absurd cc

  -- one that writes
  pub write_less : (g g' : Group) (disk disk' : D) → WrotePuts d g g' disk disk' m → HasStamp g m s → g.table.id.0 ≡ t → left_by t s g' < left_by t s g
  write_less g g' disk disk' w stamp own =
      let o = w.hands in
      let x = o.batch in
      let p : calls_left_in x.phase x.batch ≡ 2 + length x.batch.closes = ap (λ (q : Phase). calls_left_in q x.batch) o.writing in
      step_less g g' m t s x (record x { phase = Verifying; batch = record x.batch { puts = None }; rows = None }) o.step.step stamp refl own (omega (arith, p))

  closes_less : (g g' : Group) (disk disk' : D) → WroteCloses d g g' disk disk' m → HasStamp g m s → g.table.id.0 ≡ t → left_by t s g' < left_by t s g
  closes_less g g' disk disk' w stamp own =
      let o = w.hands in
      let x = o.batch in
      let p : calls_left_in x.phase x.batch ≡ 1 + length x.batch.closes = ap (λ (q : Phase). calls_left_in q x.batch) o.verifying in
      let p' : calls_left_in x.phase (record x.batch { closes = o.rest }) ≡ 1 + length o.rest = ap (λ (q : Phase). calls_left_in q (record x.batch { closes = o.rest })) o.verifying in
      let one : length x.batch.closes ≡ suc (length o.rest) = ap (λ (l : List (List (List CellData))). length l) o.kept in
      step_less g g' m t s x (record x { batch = record x.batch { closes = o.rest } }) o.step.step stamp refl own (omega (arith, p, p', one))

  closes_stamp : (g g' : Group) (disk disk' : D) → WroteCloses d g g' disk disk' m → HasStamp g m s → HasStamp g' m s
  closes_stamp g g' disk disk' w stamp = step_stamp g g' m s w.hands.batch (record w.hands.batch { batch = record w.hands.batch.batch { closes = w.hands.rest } }) w.hands.step.step stamp refl

  verified_less : (g g' : Group) → FinishesCloses g g' m → HasStamp g m s → g.table.id.0 ≡ t → left_by t s g' < left_by t s g
  verified_less g g' f stamp own =
      let x = f.batch in
      let p : calls_left_in x.phase x.batch ≡ 1 + length x.batch.closes = ap (λ (q : Phase). calls_left_in q x.batch) f.verifying in
      step_less g g' m t s x (record x { phase = Closing }) f.step.step stamp refl own (omega (arith, p))

  all_verified_less : (g g' : Group) (disk disk' : D) → ClosesAll d g g' disk disk' m → HasStamp g m s → g.table.id.0 ≡ t → left_by t s g' < left_by t s g
  all_verified_less g g' disk disk' a stamp own = elim a.before [
    | inl still ↦ verified_less g g' (subst (λ (z : Group). FinishesCloses z g' m) still.0 a.last) stamp own
    | inr w ↦ (
        let one = closes_less g a.middle disk disk' w stamp own in
        let two = verified_less a.middle g' a.last (closes_stamp g a.middle disk disk' w stamp) (ap (λ (z : Table). z.id.0) w.hands.step.step.table ∙ own) in
        omega (arith, one, two))
  ]

  -- one that verifies
  pub verify_less : (g g' : Group) (disk disk' : D) (r : Result Verifies Failed) (v : Verifies) → r ≡ Ok v → Verified d g g' disk disk' m r → HasStamp g m s → g.table.id.0 ≡ t → left_by t s g' < left_by t s g
  verify_less g g' disk disk' (Ok verifies.More) v is h stamp own = closes_less g g' disk disk' h.0 stamp own
  verify_less g g' disk disk' (Ok verifies.Done) v is h stamp own = all_verified_less g g' disk disk' h stamp own
  verify_less g g' disk disk' (Err e) v is h stamp own = absurd cc

-- in its group
pub fewer : (groups : List Group) (place : ℕ) (g g' : Group) → place < length groups → get_or groups place g ≡ g → (t : Ticket) → left_by t.table.0 t.stamp g' < left_by t.table.0 t.stamp g → calls_left (slice_set groups place g') t < calls_left groups t
fewer groups place g g' l is t less =
    let one = sum_by-set (left_by t.table.0 t.stamp) groups place g' g l in
    let was : left_by t.table.0 t.stamp (get_or groups place g) ≡ left_by t.table.0 t.stamp g = ap (left_by t.table.0 t.stamp) is in
    omega (arith, one, was, less)

-- ---- one that begins has few

most_in : (p : Phase) (b : BatchData) (n : ℕ) → length b.marks ≤ n → length b.closes ≤ n → calls_left_in p b ≤ 3 + 2 * n
most_in Marking b n marks closes = omega (arith, marks, closes)
most_in Writing b n marks closes = omega (arith, marks, closes)
most_in Verifying b n marks closes = omega (arith, marks, closes)
most_in Closing b n marks closes = omega arith

most_at : (g : Group) (s : ℕ) (m : Begun) → IsRightBatch g m → left_at s m ≤ 3 + 2 * length g.indexes.items
most_at g s m r =
    let a = r.count in
    let b = r.marks in
    let c = r.closes in
    if_few (m.batch.stamp == s) (calls_left_in m.phase m.batch) (3 + 2 * length g.indexes.items) (most_in m.phase m.batch (length g.indexes.items) (omega (arith, a, b)) (omega (arith, a, c)))

distinct_batches : (ms : List Begun) → HaveOwnStamps ms → AreDistinct stamp_in ms
distinct_batches [] once = tt
distinct_batches (m ∷ ms) once = (all_weaker (λ x. m.batch.stamp ≢ x.batch.stamp) (λ x. x.batch.stamp ≢ m.batch.stamp) (λ x other e. other (sym e)) ms once.0, distinct_batches ms once.1)

abbrev number_at : IndexRegion → ℕ
number_at x = x.index.id.0

distinct_indexes : (xs : List IndexRegion) → AreOnceIn xs → AreDistinct number_at xs
distinct_indexes [] once = tt
distinct_indexes (x ∷ xs) once = (all_weaker (λ y. x.index.id.0 ≢ y.index.id.0) (λ y. y.index.id.0 ≢ x.index.id.0) (λ y other e. other (sym e)) xs once.0, distinct_indexes xs once.1)

each_place : {A : Type 0} (P : A → Type 0) (xs : List A) → ((i : ℕ) (x : A) → slice_get xs i ≡ Some x → P x) → AllByRecursion P xs
each_place P [] f = tt
each_place P (x ∷ xs) f = (f zero x refl, each_place P xs (λ i y at. f (suc i) y at))

abbrev pub count_of : Base → List Entry → ℕ → ℕ
count_of b es t = count_below (λ i. of_table t (index_of b es i)) (catalogue_of b es).next

module _ (b : Base) (es : List Entry) (standing : Standing) (agrees : Agrees standing (catalogue_of b es)) where
  found_index : (t : ℕ) (x : Index) → index_of b es x.id.0 ≡ Some x → x.table.0 ≡ t → (x.id.0 < (catalogue_of b es).next) × (is_some (of_table t (index_of b es x.id.0)) ≡ true)
  found_index t x is own = (
    found_all number_of_index index_in index_finder (λ y. number_of_index y < (catalogue_of b es).next) standing.indexes x.id.0 x (indexes_below standing.next (catalogue_of b es).next standing.indexes agrees.next agrees.order.below.indexes) (agrees.indexes x.id.0 ∙ is),
    ap (λ (o : Option Index). is_some (of_table t o)) is ∙ ap (λ (w : Bool). is_some (if w then Some x else None)) (eq-eqb x.table.0 t own),
  )

  -- a table with its regions has no more indexes than stand
  indexes_few : (g : Group) → IsRightGroup g → HasTallied b es g → HasOnce g → length g.indexes.items ≤ count_of b es g.table.id.0
  indexes_few g right tallied once =
      as_many number_at (λ i. of_table g.table.id.0 (index_of b es i)) (catalogue_of b es).next g.indexes.items (distinct_indexes g.indexes.items once)
      (all_weaker (λ x. IsRightPart g.table x × (index_of b es x.index.id.0 ≡ Some x.index)) (λ x. (number_at x < (catalogue_of b es).next) × (is_some (of_table g.table.id.0 (index_of b es (number_at x))) ≡ true))
      (λ x h. found_index g.table.id.0 x.index h.1 (ap (λ (u : TableId). u.0) h.0.table)) g.indexes.items
      (all_both (IsRightPart g.table) (λ x. index_of b es x.index.id.0 ≡ Some x.index) g.indexes.items right.parts (each_place (λ x. index_of b es x.index.id.0 ≡ Some x.index) g.indexes.items tallied.tallied.standing.index)))

  group_few : (t s : ℕ) (g : Group) → IsRightGroup g → HasTallied b es g → HasOnce g → left_by t s g ≤ 3 + 2 * count_of b es t
  group_few t s g right tallied once = elim (cases_eq g.table.id.0 t) [
    | inl own ↦ (
        let mine : left_by t s g ≡ sum_by (left_at s) g.batches.items = if_same g.table.id.0 t (sum_by (left_at s) g.batches.items) own in
        let few = sum_one stamp_in (left_at s) s (3 + 2 * length g.indexes.items) (λ m other. if_other m.batch.stamp s (calls_left_in m.phase m.batch) other) g.batches.items
        (distinct_batches g.batches.items (traced_of b es g tallied.held right tallied.tallied).once) (all_weaker (IsRightBatch g) (λ m. left_at s m ≤ 3 + 2 * length g.indexes.items) (most_at g s) g.batches.items right.batches) in
        let indexes : length g.indexes.items ≤ count_of b es t = subst (λ (n : ℕ). length g.indexes.items ≤ count_of b es n) own (indexes_few g right tallied once) in
        omega (arith, mine, few, indexes))
    | inr other ↦ (let none : left_by t s g ≡ 0 = if_other g.table.id.0 t (sum_by (left_at s) g.batches.items) other in omega (arith, none))
  ]

pub few : {D : Type 0} (d : Ghosts D) (b : Base) (sound premise : Type 0) (began : Beginning) (disk : D) (catalog : Catalog) (standing : Standing) (groups : List Group) (trail : Recorded) (late : Option Entry) (closed : Option ℕ) → IsKept d b sound premise began disk catalog standing groups trail late closed
    → closed ≡ None → (t : Ticket) → calls_left groups t ≤ 3 + 2 * count_of b trail.entries t.table.0
few d b sound premise began disk catalog standing groups trail late closed k running t =
    let es = trail.entries in
    sum_one number_in (left_by t.table.0 t.stamp) t.table.0 (3 + 2 * count_of b es t.table.0) (λ g other. if_other g.table.id.0 t.table.0 (sum_by (left_at t.stamp) g.batches.items) other) groups
    (distinct_map table_in_group number_of_table groups (subst (AreDistinct number_of_table) (sym k.each.stand) (rising_distinct number_of_table standing.tables k.told.agrees.order.tables)))
    (all_weaker (λ g. IsRightGroup g × (HasTallied b es g × HasOnce g)) (λ g. left_by t.table.0 t.stamp g ≤ 3 + 2 * count_of b es t.table.0) (λ g h. group_few b es standing k.told.agrees t.table.0 t.stamp g h.0 h.1.0 h.1.1) groups
    (all_both IsRightGroup (λ g. HasTallied b es g × HasOnce g) groups (k.each.right running) (all_both (HasTallied b es) HasOnce groups (k.each.tallied running) (k.each.once running))))
