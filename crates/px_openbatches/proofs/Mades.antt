-- The cells that are made when a batch begins are what each later phase asks for.
use Rattle.std.proofs.Common.{◌≡◌, ℕ, ◌<◌, ◌≤◌, Bool, true, false, cond, not, map, get_or, Option, Some, None, List, [], ◌∷◌, ◌++◌, refl, ap, sym, ◌∙◌, subst, inl, inr, arith}
use Rattle.std.specs.List.{AllByRecursion}
use Rattle.std.specs.Ordering.{is_eq}
use Rattle.std.proofs.lemmas.Slice.Eq.{bytes_eq-Decides}
use Rattle.std.proofs.lemmas.Bool.{cases_Bool, cond-false, false≢true, not-true, both_ways, and_parts}
use Rattle.px_cells.specs.declared.kind.CellKind.{CellKind}
use Rattle.px_values.specs.declared.row.Value.{Value}
use Rattle.px_values.specs.declared.change.Change.{Change}
use Rattle.px_values.specs.declared.change.What.{What}
use Rattle.px_trail.specs.declared.entry.Entry.{Entry}
use Rattle.px_trail.specs.declared.entry.Act.TheVariants.{Begun}
use Rattle.px_cells.specs.CellData.{CellData}
use Rattle.px_cells.specs.Order.{ReadsSame, Reads}
use Rattle.px_values.proofs.Equal.{row_order-Decides}
use Rattle.px_values.specs.Order.{row_order}
use Rattle.px_values.specs.States.{RowState}
use Rattle.px_trail.specs.Batches.{Batch, change_of, has, is_distinct, rows_of}
use Rattle.px_cells.specs.Contents.{or_else, Contents, stands_at, value_at}
use Rattle.px_world.specs.IndexCells.{IndexCells, mark_cells, close_cells}
use Rattle.px_forms.specs.Indexes.{view_of, IndexForm, IsIndexForm, view_at, shape_at, cells_if}
use Rattle.px_forms.specs.Rows.{DataForm}
use Rattle.px_indexed.specs.Kept.{ReadsWrites, RowsKept, DataKept, AreIndexCells, AreRowCells}
use Rattle.px_forms.specs.Several.{AreOwned, cells_for}
use Rattle.px_openbatches.specs.Made.{RowCells, IsIndexRow, IsRowMade, IsMade, IsComputed, picked_cells, IsCellOfRow, IsPutOfRow}
use Rattle.px_groupworld.specs.Group.{TableForm}
use Rattle.px_openbatches.specs.Pending.{HeldKept, after_pending, HeldBatch}
use Rattle.px_trail.specs.Trail.{last_of}
use Rattle.px_openbatches.proofs.Pendings.{begun_old, begun_new}
use Rattle.px_cells.proofs.Contents.{same_values, values_append, reads_from_value}
use Rattle.px_forms.proofs.RowViews.{rows_view}
use Rattle.px_history.specs.Rows.{IsLater, SameChange}
use Rattle.px_indexed.specs.Worlds.{history_at}
use Rattle.px_indexed.proofs.Idle.{history_stays}

-- ---- one row's cells

-- a fact of each row's cells is one of the cells that are found
pub found_at : (P : List Value → List CellData → Type 0) (pick : RowCells → List CellData) (xs : List RowCells) (r : List Value) → AllByRecursion (λ x. P x.row (pick x)) xs → has (map (λ (x : RowCells). x.row) xs) r ≡ true → P r (picked_cells pick xs r)
unfolding has picked_cells
found_at P pick [] r a h = absurd (false≢true h)
found_at P pick (x ∷ xs) r a h = elim (cases_Bool (is_eq (row_order x.row r))) [
  | inl e ↦ rw e (subst (λ (z : List Value). P z (pick x)) ((row_order-Decides x.row r).0 e) a.0)
  | inr e ↦ (let z = found_at P pick xs r a.1 (rw e at h) in rw e z)
]

-- and where none is found there are none
pub found_or : (P : List Value → List CellData → Type 0) (pick : RowCells → List CellData) → ((r : List Value) → P r []) → (xs : List RowCells) (r : List Value) → AllByRecursion (λ x. P x.row (pick x)) xs → P r (picked_cells pick xs r)
unfolding picked_cells
found_or P pick n [] r a = n r
found_or P pick n (x ∷ xs) r a = elim (cases_Bool (is_eq (row_order x.row r))) [
  | inl e ↦ rw e (subst (λ (z : List Value). P z (pick x)) ((row_order-Decides x.row r).0 e) a.0)
  | inr e ↦ (let z = found_or P pick n xs r a.1 in rw e z)
]

all_rows : (P Q : RowCells → Type 0) → ((x : RowCells) → P x → Q x) → (xs : List RowCells) → AllByRecursion P xs → AllByRecursion Q xs
all_rows P Q g [] a = tt
all_rows P Q g (x ∷ xs) a = (g x a.0, all_rows P Q g xs a.1)

-- ---- cells of one stamp

all_cells : (P : CellData → Type 0) (xs ys : List CellData) → AllByRecursion P xs → AllByRecursion P ys → AllByRecursion P (xs ++ ys)
all_cells P [] ys a c = c
all_cells P (x ∷ xs) ys a c = (a.0, all_cells P xs ys a.1 c)

all_for : (P : CellData → Type 0) (m : List Value → List CellData) → ((r : List Value) → AllByRecursion P (m r)) → (rows : List (List Value)) → AllByRecursion P (cells_for m rows)
unfolding cells_for
all_for P m a [] = tt
all_for P m a (r ∷ rows) = all_cells P (m r) (cells_for m rows) (a r) (all_for P m a rows)

-- what is true of each cell of a list is true of each that is read
reads_all : (P : CellData → Type 0) (cells : List CellData) (c : CellData) → AllByRecursion P cells → Reads cells c → P c
reads_all P [] c a h = absurd h
reads_all P (x ∷ xs) c a (inl e) = subst P e a.0
reads_all P (x ∷ xs) c a (inr h) = reads_all P xs c a.1 h.1

pub all_read : (P : CellData → Type 0) (cells batch : List CellData) → ReadsSame batch cells → AllByRecursion P cells → (c : CellData) → value_at batch c.key c.qualifier c.stamp c.kind ≡ Some c.value → P c
all_read P cells batch same a c v = reads_all P cells c a ((same c).0 (reads_from_value batch c.key c.qualifier c.stamp c.kind c.value v))

all_here : (P Q : CellData → Type 0) → ((c : CellData) → P c → Q c) → (cells : List CellData) → AllByRecursion P cells → AllByRecursion Q cells
all_here P Q g [] a = tt
all_here P Q g (c ∷ cells) a = (g c a.0, all_here P Q g cells a.1)

-- each cell that is handed to an index's region may stand there
pub batch_cells : (f : IndexForm) (s last : ℕ) → s ≤ last → (m : List Value → List CellData) → ((r : List Value) → AllByRecursion (IsCellOfRow f r s) (m r)) → (rows : List (List Value)) (batch : List CellData) → ReadsSame batch (cells_for m rows) → AreIndexCells f last batch
batch_cells f s last l m a rows batch same = record {
  each = λ c v.
      (let z : (r : List Value) × IsCellOfRow f r s c = all_read (λ c. (r : List Value) × IsCellOfRow f r s c) (cells_for m rows) batch same (all_for (λ c. (r : List Value) × IsCellOfRow f r s c) m (λ r. all_here (IsCellOfRow f r s) (λ c. (r : List Value) × IsCellOfRow f r s c) (λ c k. (r, k)) (m r) (a r)) rows) c v in
      record { stamp = (let e = z.1.stamp in omega arith); owner = (z.0, z.1.owned); placed = z.1.placed; kind = z.1.kind; status = z.1.status });
}

-- and each that is handed to the data region
pub batch_rows : (f : TableForm) (m : List Value → List CellData) → ((r : List Value) → AllByRecursion (IsPutOfRow f r) (m r)) → (rows : List (List Value)) (batch : List CellData) → ReadsSame batch (cells_for m rows) → AreRowCells f.rows batch
batch_rows f m a rows batch same = record {
  each = λ c v.
      (let z : (r : List Value) × IsPutOfRow f r c = all_read (λ c. (r : List Value) × IsPutOfRow f r c) (cells_for m rows) batch same (all_for (λ c. (r : List Value) × IsPutOfRow f r c) m (λ r. all_here (IsPutOfRow f r) (λ c. (r : List Value) × IsPutOfRow f r c) (λ c k. (r, k)) (m r) (a r)) rows) c v in
      record { owner = (z.0, z.1.key); placed = z.1.placed; kind = z.1.kind });
}

-- ---- what is handed to an index's region

module _ (f : IndexForm) (g : IsIndexForm f) (s : ℕ) (seen : List Value → IndexCells (List ℕ) (List ℕ)) (pick : RowCells → List CellData) (xs : List RowCells) (made : AllByRecursion (λ x. IsIndexRow f x.row s (seen x.row) (pick x)) xs)
    (rows : List (List Value)) (distinct : is_distinct rows ≡ true) (inside : (r : List Value) → has rows r ≡ true → has (map (λ (x : RowCells). x.row) xs) r ≡ true)
    (batch : List CellData) (same : ReadsSame batch (cells_for (picked_cells pick xs) rows)) where
  pub handed : (r : List Value) → view_at f r batch ≡ cells_if (has rows r) (seen r)
  handed r =
      ap (view_of (f.owns r) f.columns f.place) (same_values batch (cells_for (picked_cells pick xs) rows) same)
      ∙ (rows_view f g (picked_cells pick xs) (λ r. view_at f r (picked_cells pick xs r))
      (λ r. found_or (λ r cells. AreOwned f r cells) pick (λ r. tt) xs r (all_rows (λ x. IsIndexRow f x.row s (seen x.row) (pick x)) (λ x. AreOwned f x.row (pick x)) (λ x k. all_here (IsCellOfRow f x.row s) (λ c. f.owns x.row c.key ≡ true) (λ c z. z.owned) (pick x) k.each) xs made))
      (λ r. refl) rows distinct r
      ∙ by (has rows r) refl)
    where
      by : (v : Bool) → has rows r ≡ v → cells_if v (view_at f r (picked_cells pick xs r)) ≡ cells_if v (seen r)
      by false e = refl
      by true e = found_at (λ r cells. view_at f r cells ≡ seen r) pick xs r (all_rows (λ x. IsIndexRow f x.row s (seen x.row) (pick x)) (λ x. view_at f x.row (pick x) ≡ seen x.row) (λ x k. k.sees) xs made) (inside r e)

  pub handed_cells : (last : ℕ) → s ≤ last → AreIndexCells f last batch
  handed_cells last l = batch_cells f s last l (picked_cells pick xs) (λ r. found_or (λ r cells. AllByRecursion (IsCellOfRow f r s) cells) pick (λ r. tt) xs r (all_rows (λ x. IsIndexRow f x.row s (seen x.row) (pick x)) (λ x. AllByRecursion (IsCellOfRow f x.row s) (pick x)) (λ x k. k.each) xs made)) rows batch same

-- ---- what is handed to the data region

key_none : (k : List ℕ) (cells : List CellData) (k0 : List ℕ) → AllByRecursion (λ c. c.key ≡ k0) cells → (k0 ≡ k → ⊥) → (q u : ℕ) (d : CellKind) → value_at cells k q u d ≡ None
unfolding value_at
key_none k [] k0 a n q u d = refl
key_none k (c ∷ cells) k0 a n q u d = (let z = key_none k cells k0 a.1 n q u d in elim (cases_Bool (stands_at k q u d c)) [
  | inl e ↦ absurd (n (sym a.0 ∙ (bytes_eq-Decides c.key k).0 (and_parts _ _ e).0))
  | inr e ↦ cond-false _ _ _ e ∙ z
])

or_none : (o : Option (List ℕ)) → or_else o None ≡ o
or_none None = refl
or_none (Some x) = refl

module _ (f : DataForm) (apart : (r r' : List Value) → f.key_of r ≡ f.key_of r' → r ≡ r') (m : List Value → List CellData) (keys : (r : List Value) → AllByRecursion (λ c. c.key ≡ f.key_of r) (m r)) where
  -- at a row's key stand its own cells
  pub data_for : (rows : List (List Value)) → is_distinct rows ≡ true → (r : List Value) (q u : ℕ) (d : CellKind) → value_at (cells_for m rows) (f.key_of r) q u d ≡ cond (has rows r) (value_at (m r) (f.key_of r) q u d) None
  unfolding cells_for has is_distinct value_at
  data_for [] z r q u d = refl
  data_for (x ∷ rows) z r q u d =
      let parts = and_parts (not (has rows x)) (is_distinct rows) z in
      let rest = data_for rows parts.1 r q u d in
      ap (λ (g : Contents). g (f.key_of r) q u d) (values_append (m x) (cells_for m rows)) ∙ elim (cases_Bool (is_eq (row_order x r))) [
        | inl e ↦
            (let same : x ≡ r = (row_order-Decides x r).0 e in
            let none : has rows r ≡ false = ap (has rows) (sym same) ∙ not-true (has rows x) parts.0 in
            rw e ((λ i. or_else (value_at (m (same i)) (f.key_of r) q u d) (rest i)) ∙ (ap (λ v. or_else (value_at (m r) (f.key_of r) q u d) (cond v (value_at (m r) (f.key_of r) q u d) None)) none ∙ or_none (value_at (m r) (f.key_of r) q u d))))
        | inr e ↦ rw e (ap (λ o. or_else o (value_at (cells_for m rows) (f.key_of r) q u d)) (key_none (f.key_of r) (m x) (f.key_of x) (keys x) (λ a. both_ways _ e ((row_order-Decides x r).1 (apart x r a))) q u d) ∙ rest)
      ]

-- ---- the cells of an open batch

module _ (f : TableForm) (es : List Entry) (form : ℕ → IndexForm) (count s : ℕ) (cs : List Change) (xs : List RowCells) (made : IsMade f es form count s cs xs) where
  abbrev mark_of : ℕ → List Value → IndexCells (List ℕ) (List ℕ)
  mark_of i r = mark_cells (shape_at f.rows.shape (form i) r) s ((history_at f.rows.shape f.base es f.id.0 r).old s) ((history_at f.rows.shape f.base es f.id.0 r).new s)

  abbrev close_of : ℕ → List Value → IndexCells (List ℕ) (List ℕ)
  close_of i r = close_cells (shape_at f.rows.shape (form i) r) s ((history_at f.rows.shape f.base es f.id.0 r).old s) ((history_at f.rows.shape f.base es f.id.0 r).new s)

  marks_made : (i : ℕ) → i < count → AllByRecursion (λ x. IsIndexRow (form i) x.row s (mark_of i x.row) (get_or x.marks i [])) xs
  marks_made i l = all_rows (IsRowMade f es form count s cs) (λ x. IsIndexRow (form i) x.row s (mark_of i x.row) (get_or x.marks i [])) (λ x k. k.marks i l) xs made.each

  closes_made : (i : ℕ) → i < count → AllByRecursion (λ x. IsIndexRow (form i) x.row s (close_of i x.row) (get_or x.closes i [])) xs
  closes_made i l = all_rows (IsRowMade f es form count s cs) (λ x. IsIndexRow (form i) x.row s (close_of i x.row) (get_or x.closes i [])) (λ x k. k.closes i l) xs made.each

  in_rows : (r : List Value) → has (rows_of cs) r ≡ true → has (map (λ (x : RowCells). x.row) xs) r ≡ true
  in_rows r h = ap (λ l. has l r) made.rows ∙ h

  module _ (i : ℕ) (there : i < count) (g : IsIndexForm (form i)) (rows : List (List Value)) (distinct : is_distinct rows ≡ true) (inside : (r : List Value) → has rows r ≡ true → has (rows_of cs) r ≡ true) (batch : List CellData) where
    -- Phase 1, with all rows of the batch; and Phase 3, with those that aren't concurrent
    pub reads_marks : ReadsSame batch (cells_for (picked_cells (λ x. get_or x.marks i []) xs) rows) → (r : List Value) → view_at (form i) r batch ≡ cells_if (has rows r) (mark_of i r)
    reads_marks same = handed (form i) g s (mark_of i) (λ x. get_or x.marks i []) xs (marks_made i there) rows distinct (λ r h. in_rows r (inside r h)) batch same

    pub reads_closes : ReadsSame batch (cells_for (picked_cells (λ x. get_or x.closes i []) xs) rows) → (r : List Value) → view_at (form i) r batch ≡ cells_if (has rows r) (close_of i r)
    reads_closes same = handed (form i) g s (close_of i) (λ x. get_or x.closes i []) xs (closes_made i there) rows distinct (λ r h. in_rows r (inside r h)) batch same

    pub marks_below : ReadsSame batch (cells_for (picked_cells (λ x. get_or x.marks i []) xs) rows) → (last : ℕ) → s ≤ last → AreIndexCells (form i) last batch
    marks_below same = handed_cells (form i) g s (mark_of i) (λ x. get_or x.marks i []) xs (marks_made i there) rows distinct (λ r h. in_rows r (inside r h)) batch same

    pub closes_below : ReadsSame batch (cells_for (picked_cells (λ x. get_or x.closes i []) xs) rows) → (last : ℕ) → s ≤ last → AreIndexCells (form i) last batch
    closes_below same = handed_cells (form i) g s (close_of i) (λ x. get_or x.closes i []) xs (closes_made i there) rows distinct (λ r h. in_rows r (inside r h)) batch same

  -- Phase 2, with any rows of the batch
  pub reads_writes : ((r r' : List Value) → f.rows.key_of r ≡ f.rows.key_of r' → r ≡ r') → (y : Batch) → y.changes ≡ cs → (rows : List (List Value)) → is_distinct rows ≡ true → ((r : List Value) → has rows r ≡ true → has (rows_of cs) r ≡ true) → (batch : List CellData) → ReadsSame batch (cells_for (picked_cells (λ x. x.puts) xs) rows) → ReadsWrites f.rows y s rows batch
  reads_writes apart y changes rows distinct inside batch same = record {
    cells = batch_rows f m puts_of rows batch same;
    each = λ r w h c q u d. at r q u d ∙ (ap (λ v. cond v (value_at (m r) (f.rows.key_of r) q u d) None) h ∙ written r w (in_rows r (inside r h)) (ap (λ l. change_of l r) (sym changes) ∙ c) q u d);
    others = λ r h q u d. at r q u d ∙ ap (λ v. cond v (value_at (m r) (f.rows.key_of r) q u d) None) h;
  }
    where
      m : List Value → List CellData
      m = picked_cells (λ x. x.puts) xs

      puts_of : (r : List Value) → AllByRecursion (IsPutOfRow f r) (m r)
      puts_of r = found_or (λ r cells. AllByRecursion (IsPutOfRow f r) cells) (λ x. x.puts) (λ r. tt) xs r (all_rows (IsRowMade f es form count s cs) (λ x. AllByRecursion (IsPutOfRow f x.row) x.puts) (λ x k. k.keys) xs made.each)

      at : (r : List Value) (q u : ℕ) (d : CellKind) → value_at batch (f.rows.key_of r) q u d ≡ cond (has rows r) (value_at (m r) (f.rows.key_of r) q u d) None
      at r q u d =
          ap (λ (g : Contents). g (f.rows.key_of r) q u d) (same_values batch (cells_for m rows) same)
          ∙ data_for f.rows apart m (λ r. all_here (IsPutOfRow f r) (λ c. c.key ≡ f.rows.key_of r) (λ c z. z.key) (m r) (puts_of r)) rows distinct r q u d

      written : (r : List Value) (w : What) → has (map (λ (x : RowCells). x.row) xs) r ≡ true → change_of cs r ≡ Some w → (q u : ℕ) (d : CellKind) → value_at (m r) (f.rows.key_of r) q u d ≡ f.rows.cells_of r s w (f.rows.key_of r) q u d
      written r w h = found_at (λ r cells. change_of cs r ≡ Some w → (q u : ℕ) (d : CellKind) → value_at cells (f.rows.key_of r) q u d ≡ f.rows.cells_of r s w (f.rows.key_of r) q u d) (λ x. x.puts) xs r (all_rows (IsRowMade f es form count s cs) (λ x. change_of cs x.row ≡ Some w → (q u : ℕ) (d : CellKind) → value_at x.puts (f.rows.key_of x.row) q u d ≡ f.rows.cells_of x.row s w (f.rows.key_of x.row) q u d) (λ x k. k.puts w) xs made.each) h

  -- where the states before and after the change are the same
  pub made_same : (es' : List Entry) → ((r : List Value) → SameChange (history_at f.rows.shape f.base es f.id.0 r) (history_at f.rows.shape f.base es' f.id.0 r) s) → IsMade f es' form count s cs xs
  made_same es' same = record {
    rows = made.rows;
    each = all_rows (IsRowMade f es form count s cs) (IsRowMade f es' form count s cs) (λ x k. (let z = same x.row in record {
      marks = λ i l. subst (λ (seen : IndexCells (List ℕ) (List ℕ)). IsIndexRow (form i) x.row s seen (get_or x.marks i [])) (λ j. mark_cells (shape_at f.rows.shape (form i) x.row) s (sym z.old j) (sym z.new j)) (k.marks i l);
      closes = λ i l. subst (λ (seen : IndexCells (List ℕ) (List ℕ)). IsIndexRow (form i) x.row s seen (get_or x.closes i [])) (λ j. close_cells (shape_at f.rows.shape (form i) x.row) s (sym z.old j) (sym z.new j)) (k.closes i l);
      keys = k.keys;
      puts = k.puts;
    })) xs made.each;
  }

  -- whatever comes later leaves it
  pub made_stays : (e : Entry) → IsLater s e.act → IsMade f (es ++ e ∷ []) form count s cs xs
  made_stays e later = made_same (es ++ e ∷ []) (λ r. history_stays f.rows.shape f.base es e f.id.0 r s later)

  -- the forms of the batch's own indexes are all that it needs
  pub made_form : (form' : ℕ → IndexForm) → ((i : ℕ) → i < count → form' i ≡ form i) → IsMade f es form' count s cs xs
  made_form form' same = record {
    rows = made.rows;
    each = all_rows (IsRowMade f es form count s cs) (IsRowMade f es form' count s cs) (λ x k. record {
      marks = λ i l. subst (λ (g : IndexForm). IsIndexRow g x.row s (mark_cells (shape_at f.rows.shape g x.row) s ((history_at f.rows.shape f.base es f.id.0 x.row).old s) ((history_at f.rows.shape f.base es f.id.0 x.row).new s)) (get_or x.marks i [])) (sym (same i l)) (k.marks i l);
      closes = λ i l. subst (λ (g : IndexForm). IsIndexRow g x.row s (close_cells (shape_at f.rows.shape g x.row) s ((history_at f.rows.shape f.base es f.id.0 x.row).old s) ((history_at f.rows.shape f.base es f.id.0 x.row).new s)) (get_or x.closes i [])) (sym (same i l)) (k.closes i l);
      keys = k.keys;
      puts = k.puts;
    }) xs made.each;
  }

-- ---- made at begin

-- what begin computes of each row, from what the data cells spell and the pending changes, is what its phases ask for
module _ (f : TableForm) (es : List Entry) (raised low : ℕ) (k : RowsKept f.rows.shape f.base es f.id.0 raised) (hs : List HeldBatch) (held : HeldKept f.base es f.id.0 hs) (cells : List CellData) (told : DataKept f.base es f.id.0 f.rows low cells) where
  -- the state before the new change of a row
  abbrev pub old_of : ℕ → List Value → RowState
  old_of p r = after_pending f.rows.shape r (f.rows.spelled (value_at cells) r p) hs

  pub made_begun : (e : Entry) (s : ℕ) (cs : List Change) → e.act ≡ Begun f.id s cs → last_of f.base f.id.0 es < s → (p : ℕ) → last_of f.base f.id.0 es ≤ p → low ≤ p
      → (form : ℕ → IndexForm) (count : ℕ) (xs : List RowCells) → map (λ (x : RowCells). x.row) xs ≡ rows_of cs → AllByRecursion (IsComputed f form count s cs (old_of p)) xs
      → IsMade f (es ++ e ∷ []) form count s cs xs
  made_begun e s cs is new p newest within form count xs rows computed = record {
    rows = rows;
    each = all_rows (IsComputed f form count s cs (old_of p)) (IsRowMade f (es ++ e ∷ []) form count s cs) made xs computed;
  }
    where
      made : (x : RowCells) → IsComputed f form count s cs (old_of p) x → IsRowMade f (es ++ e ∷ []) form count s cs x
      made x c =
          let old_is = begun_old f.rows f.base es f.id raised k hs held low cells told e s cs is new p newest within x.row c.what c.is in
          let new_is = begun_new f.rows f.base es f.id raised k hs held low cells told e s cs is new p newest within x.row c.what c.is in
          record {
            marks = λ i l. subst (λ (seen : IndexCells (List ℕ) (List ℕ)). IsIndexRow (form i) x.row s seen (get_or x.marks i [])) (λ j. mark_cells (shape_at f.rows.shape (form i) x.row) s (sym old_is j) (sym new_is j)) (c.marks i l);
            closes = λ i l. subst (λ (seen : IndexCells (List ℕ) (List ℕ)). IsIndexRow (form i) x.row s seen (get_or x.closes i [])) (λ j. close_cells (shape_at f.rows.shape (form i) x.row) s (sym old_is j) (sym new_is j)) (c.closes i l);
            keys = c.keys;
            puts = λ w q a u d. (let same : c.what ≡ w = some_same (sym c.is ∙ q) in c.puts a u d ∙ ap (λ v. f.rows.cells_of x.row s v (f.rows.key_of x.row) a u d) same);
          }
        where
          some_same : {v w : What} → Some v ≡ Some w → v ≡ w
          some_same q = cc
