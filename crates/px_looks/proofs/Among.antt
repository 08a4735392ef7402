-- What is found at the keys of cells, one cell after another.
use Rattle.std.proofs.Common.{◌≡◌, ℕ, zero, suc, Bool, true, false, cond, ◌+◌, ◌-◌, ◌<◌, Option, Some, None, List, [], ◌∷◌, ◌++◌, length, get_or, refl, ap, sym, subst, ◌∙◌, inl, inr, arith}
use Rattle.std.specs.Prelude.{MatchOption}
use Rattle.std.proofs.lemmas.Bool.{cases_eq}
use Rattle.std.specs.declared.cmp.Ordering.TheVariants.{Less}
use Rattle.px_cells.specs.declared.kind.CellKind.{CellKind}
use Rattle.px_cells.specs.Among.{Has}
use Rattle.px_cells.specs.CellData.{CellData}
use Rattle.px_cells.specs.Contents.{cell_of, value_at}
use Rattle.px_cells.specs.Order.{IsAscending, key_cmp}
use Rattle.px_cells.specs.Rows.{AreRows, IsRow}
use Rattle.px_cells.proofs.Keys.{keys_differ, keys_same}
use Rattle.px_cells.proofs.Among.{has_from_reads}
use Rattle.px_cells.proofs.Contents.{option_same, reads_from_value, value_from_reads}
use Rattle.px_cells.proofs.Orders.{row_is_together}
use Rattle.px_cells.proofs.RowLemmas.{below_at}
use Rattle.px_region.specs.Giving.{begins_row, key_at, rows_before}
use Rattle.px_region.proofs.Given.{begins_first, begins_next, row_step}
use Rattle.px_trail.specs.Answers.{IsAmong}
use Rattle.px_calls.specs.Looks.{key_found}
use Rattle.px_calls.specs.declared.query.FoundKey.{FoundKey}
use Rattle.px_looks.specs.Found.{AreFoundIn, RowContents, at_key}
use Rattle.px_looks.specs.Keys.{IsBetweenKeys}
use Rattle.px_looks.specs.inner.Among.{FoundAmong, IsKeyAmong}
use Rattle.px_looks.proofs.Cut.{below_key, key_in_rows, no_cell}
use Rattle.px_looks.proofs.KeyOrder.{equal, higher, keys_by, lower}
use Rattle.px_looks.proofs.RowCells.{row_values}
use Rattle.px_looks.proofs.Rising.{among_front, among_here, among_none, among_one, among_parts, rises_more, rises_none}

-- ---- keys of a sorted list

pub place_of : (cells : List CellData) (c : CellData) → Has cells c → IsKeyAmong cells (length cells) c.key
place_of [] c h = absurd h
place_of (x ∷ cells) c (inl e) = record { place = 0; within = omega arith; is = ap (λ (z : CellData). z.key) e }
place_of (x ∷ cells) c (inr h) = (let r = place_of cells c h in record { place = suc r.place; within = (let w = r.within in omega arith); is = r.is })

pub same_cell : (cells : List CellData) (i : ℕ) (a b : CellData) → i < length cells → get_or cells i a ≡ get_or cells i b
same_cell [] i a b lt = absurd (omega arith)
same_cell (c ∷ cells) zero a b lt = refl
same_cell (c ∷ cells) (suc i) a b lt = same_cell cells i a b (omega arith)

-- the key of a cell at a place
pub key_there : (cells : List CellData) (i : ℕ) (c : CellData) → i < length cells → c ≡ get_or cells i c → key_at cells i ≡ c.key
key_there cells i c lt is = ap (λ (z : CellData). z.key) (same_cell cells i no_cell c lt ∙ sym is)

-- where a row begins, its key is above all keys before
pub keys_rise : (cells : List CellData) (i j : ℕ) → IsAscending cells → i < length cells → (key_at cells (i - 1) ≡ key_at cells i → ⊥) → j < i → key_cmp (key_at cells j) (key_at cells i) ≡ Less
keys_rise cells i j up lt begins before = elim (keys_by (key_at cells j) (key_at cells i)) [
  | lower l ↦ l
  | equal e ↦
      absurd (begins (row_is_together (get_or cells j no_cell) (get_or cells (i - 1) no_cell) (get_or cells i no_cell) (elim (cases_eq j (i - 1)) [
        | inl q ↦ inl (ap (λ (n : ℕ). get_or cells n no_cell) q)
        | inr q ↦ inr (below_at cells j (i - 1) no_cell up (omega arith) (omega arith))
      ]) (below_at cells (i - 1) i no_cell up (omega arith) lt) e))
  | higher l ↦ absurd (below_key (get_or cells j no_cell) (get_or cells i no_cell) (below_at cells j i no_cell up before lt) l)
]

-- what is told of an answer that is none, or some
pub shown_none : (P : FoundKey → Type 0) (o : Option FoundKey) → o ≡ None → MatchOption o ((f : FoundKey) → P f → ⊥) P → (f : FoundKey) → P f → ⊥
shown_none P None e told = told
shown_none P (Some x) e told = absurd (let z : Some x ≡ None = e in cc)

pub shown_some : (P : FoundKey → Type 0) (o : Option FoundKey) (x : FoundKey) → o ≡ Some x → MatchOption o ((f : FoundKey) → P f → ⊥) P → P x
shown_some P None x e told = absurd (let z : None ≡ Some x = e in cc)
shown_some P (Some y) x e told = (let z : Some y ≡ Some x = e in subst P (let w : y ≡ x = cc in w) told)

-- where no row begins, the key is that of the cell before
pub begins_not : (cells : List CellData) (i : ℕ) → begins_row cells i ≡ false → (0 < i) × (key_at cells (i - 1) ≡ key_at cells i)
begins_not cells i none = (above, keys_same (key_at cells (i - 1)) (key_at cells i) (key_at cells (i - 1)) (key_at cells i) refl refl (sym (begins_next cells i (i - 1) (let a = above in omega arith)) ∙ none))
  where
    above : 0 < i
    above = elim (cases_eq i 0) [
      | inl e ↦ absurd (let z : true ≡ false = sym (begins_first cells i e) ∙ none in cc)
      | inr e ↦ omega arith
    ]

pub begins_so : (cells : List CellData) (i : ℕ) → begins_row cells i ≡ true → 0 < i → key_at cells (i - 1) ≡ key_at cells i → ⊥
begins_so cells i begins some same = keys_differ (key_at cells (i - 1)) (key_at cells i) (key_at cells (i - 1)) (key_at cells i) refl refl (sym (begins_next cells i (i - 1) (omega arith)) ∙ begins) same

pub rows_one : (cells : List CellData) (i : ℕ) → begins_row cells i ≡ true → rows_before cells (i + 1) ≡ rows_before cells i + 1
rows_one cells i begins = row_step cells i ∙ ap (λ (b : Bool). rows_before cells i + cond b 1 0) begins

pub row_contents : (cells row : List CellData) (key : List ℕ) → IsRow cells key row → at_key (value_at row) key ≡ at_key (value_at cells) key
row_contents cells row key is = λ i q s d. row_values cells row key is q s d i

module _ (shows : List ℕ → RowContents → FoundKey → Type 0) (cells : List CellData) where
  pub found_none : FoundAmong shows cells 0 []
  found_none = record { rising = rises_none None; own = λ f a. absurd (among_none f a); right = λ f a. absurd (among_none f a); whole = λ i lt. absurd (omega arith) }

  further : (n : ℕ) (k : List ℕ) → IsKeyAmong cells n k → IsKeyAmong cells (n + 1) k
  further n k h = record { place = h.place; within = (let w = h.within in omega arith); is = h.is }

  abbrev pub there : ℕ → FoundKey → Type 0
  there i f = shows (key_at cells i) (at_key (value_at cells) (key_at cells i)) f

  -- a cell that begins no row
  pub found_same : (n : ℕ) (fs : List FoundKey) → 0 < n → key_at cells (n - 1) ≡ key_at cells n → FoundAmong shows cells n fs → FoundAmong shows cells (n + 1) fs
  found_same n fs some same h = record {
    rising = h.rising;
    own = λ f a. further n (key_found f) (h.own f a);
    right = h.right;
    whole = λ i lt f sh. elim (cases_eq i n) [
      | inl e ↦ h.whole (n - 1) (omega arith) f (subst (λ (k : List ℕ). shows k (at_key (value_at cells) k) f) (ap (key_at cells) e ∙ sym same) sh)
      | inr e ↦ h.whole i (omega arith) f sh
    ];
  }

  -- what is read of a row's own cells stands at its key
  module _ (n : ℕ) (key : List ℕ) (row : List CellData) (is : key ≡ key_at cells n) (own : IsRow cells key row) where
    pub read_there : (f : FoundKey) → shows key (at_key (value_at row) key) f → there n f
    read_there f sh = subst (λ (k : List ℕ). shows k (at_key (value_at cells) k) f) is (subst (λ (h : RowContents). shows key h f) (row_contents cells row key own) sh)

    pub there_read : (f : FoundKey) → there n f → shows key (at_key (value_at row) key) f
    there_read f sh = subst (λ (h : RowContents). shows key h f) (sym (row_contents cells row key own)) (subst (λ (k : List ℕ). shows k (at_key (value_at cells) k) f) (sym is) sh)

  -- a row of which nothing is shown
  pub found_nothing : (n : ℕ) (fs : List FoundKey) → ((f : FoundKey) → there n f → ⊥) → FoundAmong shows cells n fs → FoundAmong shows cells (n + 1) fs
  found_nothing n fs none h = record {
    rising = h.rising;
    own = λ f a. further n (key_found f) (h.own f a);
    right = h.right;
    whole = λ i lt f sh. elim (cases_eq i n) [
      | inl e ↦ absurd (none f (subst (λ (j : ℕ). there j f) e sh))
      | inr e ↦ h.whole i (omega arith) f sh
    ];
  }

  -- a row that is shown
  pub found_more : (n : ℕ) (fs : List FoundKey) (x : FoundKey) → IsAscending cells → n < length cells → (0 < n → key_at cells (n - 1) ≡ key_at cells n → ⊥) → key_found x ≡ key_at cells n → there n x → ((f : FoundKey) → there n f → f ≡ x)
      → FoundAmong shows cells n fs → FoundAmong shows cells (n + 1) (fs ++ x ∷ [])
  found_more n fs x up lt begins key shown once h = record {
    rising = rises_more fs x h.rising (λ f a. (let o = h.own f a in subst (λ (k : List ℕ). key_cmp k (key_found x) ≡ Less) o.is (subst (λ (k : List ℕ). key_cmp (key_at cells o.place) k ≡ Less) (sym key)
        (keys_rise cells n o.place up lt (begins (let w = o.within in omega arith)) o.within))));
    own = λ f a. elim (among_parts f fs (x ∷ []) a) [
      | inl b ↦ further n (key_found f) (h.own f b)
      | inr b ↦ record { place = n; within = omega arith; is = sym key ∙ ap key_found (among_one f x b) }
    ];
    right = λ f a. elim (among_parts f fs (x ∷ []) a) [
      | inl b ↦ h.right f b
      | inr b ↦ subst (λ (z : FoundKey). shows (key_found z) (at_key (value_at cells) (key_found z)) z) (among_one f x b) (subst (λ (k : List ℕ). shows k (at_key (value_at cells) k) x) (sym key) shown)
    ];
    whole = λ i le f sh. elim (cases_eq i n) [
      | inl e ↦ subst (λ (z : FoundKey). IsAmong z (fs ++ x ∷ [])) (sym (once f (subst (λ (j : ℕ). there j f) e sh))) (among_here x fs)
      | inr e ↦ among_front f fs (x ∷ []) (h.whole i (omega arith) f sh)
    ];
  }

  module _ (all : List CellData) (low : List ℕ) (high : Option (List ℕ)) (are : AreRows all low high cells) where
    -- within the range the cells have what the whole has
    pub same_within : (k : List ℕ) → IsBetweenKeys low high k → at_key (value_at cells) k ≡ at_key (value_at all) k
    same_within k in_range = λ i q s d. option_same (value_at cells k q s d) (value_at all k q s d)
        (λ v e. value_from_reads all k q s d v ((are.exact (cell_of k q s d v)).0 (reads_from_value cells k q s d v e)).0)
        (λ v e. value_from_reads cells k q s d v ((are.exact (cell_of k q s d v)).1 (reads_from_value all k q s d v e, in_range))) i

    pub key_within : (i : ℕ) → i < length cells → IsBetweenKeys low high (key_at cells i)
    key_within i lt = key_in_rows all low high cells are i lt

    -- all of a range
    pub found_in : (fs : List FoundKey) → ((k : List ℕ) (h : RowContents) (f : FoundKey) → shows k h f → (q s : ℕ) × (d : CellKind) × (v : List ℕ) × (h q s d ≡ Some v)) → FoundAmong shows cells (length cells) fs
        → AreFoundIn shows (value_at all) low high fs
    found_in fs some h = record {
      rising = h.rising;
      right = λ f a. (let o = h.own f a in
          let in_range : IsBetweenKeys low high (key_found f) = subst (IsBetweenKeys low high) o.is (key_within o.place o.within) in
          (in_range, subst (λ (g : RowContents). shows (key_found f) g f) (same_within (key_found f) in_range) (h.right f a)));
      whole = λ k f in_range sh. (let s = some k (at_key (value_at all) k) f sh in
          let cell = cell_of k s.0 s.1 s.2 s.3 in
          let place = place_of cells cell (has_from_reads cells cell ((are.exact cell).1 (reads_from_value all k s.0 s.1 s.2 s.3 s.4, in_range))) in
          h.whole place.place place.within f (subst (λ (x : List ℕ). shows x (at_key (value_at cells) x) f) (sym place.is) (subst (λ (g : RowContents). shows k g f) (sym (same_within k in_range)) sh)));
    }
