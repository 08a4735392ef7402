-- A batch that was prepared.
use Rattle.std.proofs.Common.{◌≡◌, ℕ, ◌<◌, ◌≤◌, ◌+◌, ◌⊎◌, min, Result, Ok, Err, IfOk, Option, Some, List, [], ◌∷◌, length, get_or, inl, inr, ap, sym, ◌∙◌, subst, arith, zero, suc, ⊎_elim}
use Rattle.std.specs.List.{All, AllByRecursion}
use Rattle.std.proofs.lemmas.Bool.{cases_lt}
use Rattle.px_cells.specs.CellData.{CellData}
use Rattle.px_cellbytes.specs.Spelling.{all_bytes}
use Rattle.px_indexrow.specs.Form.{IsRightIndex}
use Rattle.px_keptcells.specs.Kept.{laid}
use Rattle.px_phases.specs.Batch.{AllFit, BatchData}
use Rattle.px_group.specs.Group.{IsRightBatch, IsRightPart}
use Rattle.px_group.specs.Room.{bytes_at, bytes_of_rows, cells_at, cells_of_rows, kept_for, parts_or_none}
use Rattle.px_group.specs.declared.group.Begun.{Begun}
use Rattle.px_group.specs.declared.group.Group.{Group}
use Rattle.px_group.specs.declared.group.IndexRegion.{IndexRegion}
use Rattle.px_tables.specs.declared.table.Table.{Table}
use Rattle.px_phases.specs.Begun.{AreFrom}
use Rattle.px_phases.specs.Phases.{AreTransitions}
use Rattle.px_phases.specs.declared.transition.Transition.{Transition}
use Rattle.px_region.specs.Region.{read_of}
use Rattle.px_region.specs.declared.region.Region.{Region}
use Rattle.px_values.specs.declared.change.Change.{Change}
use Rattle.px_beginning.proofs.Promised.{kept_inside}
use Rattle.px_beginning.specs.Begins.{AreRead, IsMadeOf}
use Rattle.px_beginning.specs.Reads.{old_in}
use Rattle.px_beginning.specs.Rooms.{AreRoomsFor, AreRoomsOf, HasFew, IsLightRoom, PassesAt, PassesIn, fresh_batch, no_room}
use Rattle.px_beginning.specs.declared.rooms.Room.{Room}
use Rattle.px_beginning.specs.declared.preparing.Prepared.{Prepared}

pub if_ok : {A E : Type 0} (P Q : A → Type 0) → ((x : A) → P x → Q x) → (o : Result A E) → IfOk o P → IfOk o Q
if_ok P Q f (Ok x) p = f x p
if_ok P Q f (Err e) p = p

pub batches_fit : (g : Group) (ms : List Begun) → AllByRecursion (IsRightBatch g) ms → AllByRecursion (λ m. AllFit g.table m.batch.changes) ms
batches_fit g [] a = tt
batches_fit g (m ∷ ms) a = (a.0.fit, batches_fit g ms a.1)

pub indexes_right : (t : Table) (xs : List IndexRegion) → AllByRecursion (IsRightPart t) xs → AllByRecursion (λ x. IsRightIndex t x.index) xs
indexes_right t [] a = tt
indexes_right t (x ∷ xs) a = (a.0.index, indexes_right t xs a.1)

exact : (x n limit : ℕ) → x ≡ min n 18446744073709551615 → x ≤ limit → limit < 18446744073709551615 → x ≡ n
exact x n limit e l m = omega arith

pub rooms_are : (n : ℕ) (p : Prepared) (marks closes : List (List (List CellData))) (puts : List (List CellData)) → p.batch.marks ≡ marks → p.batch.closes ≡ closes → p.batch.puts ≡ Some puts → length marks ≡ n → length closes ≡ n
    → p.rows.cells ≡ min (length (laid puts)) 18446744073709551615 → p.rows.bytes ≡ min (length (all_bytes (laid puts))) 18446744073709551615 → AreRoomsFor p.indexes.items marks closes
    → (HasFew p.rows × All HasFew p.indexes.items) × (IsLightRoom p.rows × All IsLightRoom p.indexes.items) → AreRoomsOf n p
rooms_are n p marks closes puts em ec ep lm lc rc rb r light = record {
  rows = (
    exact p.rows.cells (length (laid puts)) 8192 rc light.0.0 (omega arith) ∙ ap (λ (o : Option (List (List CellData))). length (laid (parts_or_none o))) (sym ep),
    exact p.rows.bytes (length (all_bytes (laid puts))) 8388608 rb light.1.0 (omega arith) ∙ ap (λ (o : Option (List (List CellData))). length (all_bytes (laid (parts_or_none o)))) (sym ep),
  );
  count_is = r.count ∙ lm;
  indexes = λ i l.
      (let x = r.each i (omega arith) in
      let inside : i < length p.indexes.items = (let c = r.count in omega arith) in
      let few = light.0.1 i no_room inside in
      let small = light.1.1 i no_room inside in
      let m : kept_for n p.batch.marks i ≡ get_or marks i [] = ap (λ (k : List (List (List CellData))). kept_for n k i) em ∙ kept_inside n marks lm i in
      let c : kept_for n p.batch.closes i ≡ get_or closes i [] = ap (λ (k : List (List (List CellData))). kept_for n k i) ec ∙ kept_inside n closes lc i in (
        exact (get_or p.indexes.items i no_room).cells (length (laid (get_or marks i [])) + length (laid (get_or closes i []))) 8192 x.cells few (omega arith) ∙ (λ j. length (laid (sym m j)) + length (laid (sym c j))),
        exact (get_or p.indexes.items i no_room).bytes (length (all_bytes (laid (get_or marks i []))) + length (all_bytes (laid (get_or closes i [])))) 8388608 x.bytes small (omega arith) ∙ (λ j. length (all_bytes (laid (sym m j))) + length (all_bytes (laid (sym c j)))),
      ));
  few = light.0;
  light = light.1;
}

all_first : (f : Room → ℕ) (most : ℕ) (x : Room) (xs : List Room) → f x ≤ most → All (λ y. f y ≤ most) xs → All (λ y. f y ≤ most) (x ∷ xs)
all_first f most x xs first rest zero d l = first
all_first f most x xs first rest (suc k) d l = rest k d (omega (arith, l))

-- a room of these is greater
abbrev IsMore : (Room → ℕ) → ℕ → List Room → Type 0
IsMore f most xs = (i : ℕ) × ((i < length xs) × (most < f (get_or xs i no_room)))

more_first : (f : Room → ℕ) (most : ℕ) (x : Room) (xs : List Room) → (most < f x) ⊎ (f x ≤ most) → All (λ y. f y ≤ most) xs ⊎ IsMore f most xs → All (λ y. f y ≤ most) (x ∷ xs) ⊎ IsMore f most (x ∷ xs)
more_first f most x xs (inl lt) rest = inr (zero, (omega arith, lt))
more_first f most x xs (inr le) (inl rest) = inl (all_first f most x xs le rest)
more_first f most x xs (inr le) (inr z) = inr (suc z.0, (let l = z.1.0 in omega (arith, l), z.1.1))

-- one of the rooms is greater, or none is
some_more : (f : Room → ℕ) (most : ℕ) (xs : List Room) → All (λ x. f x ≤ most) xs ⊎ IsMore f most xs
some_more f most [] = inl (λ k d l. absurd (omega (arith, l)))
some_more f most (x ∷ xs) = more_first f most x xs (cases_lt most (f x)) (some_more f most xs)

which_of : (f : Room → ℕ) (most : ℕ) (rows : Room) (xs : List Room) → PassesIn (λ x. f x ≤ most) rows xs → (most < f rows) ⊎ (f rows ≤ most) → All (λ x. f x ≤ most) xs ⊎ IsMore f most xs → (most < f rows) ⊎ IsMore f most xs
which_of f most rows xs passes (inl lt) some = inl lt
which_of f most rows xs passes (inr le) (inl all) = absurd (passes (le, all))
which_of f most rows xs passes (inr le) (inr z) = inr z

which : (f : Room → ℕ) (most : ℕ) (rows : Room) (xs : List Room) → PassesIn (λ x. f x ≤ most) rows xs → (most < f rows) ⊎ IsMore f most xs
which f most rows xs passes = which_of f most rows xs passes (cases_lt most (f rows)) (some_more f most xs)

above : (x n most : ℕ) → x ≡ min n 18446744073709551615 → most < x → most < n
above x n most e l = omega arith

-- what is too much for a region
module _ (n : ℕ) (batch : BatchData) (rows : Room) (rooms : List Room) (marks closes : List (List (List CellData))) (puts : List (List CellData)) (em : batch.marks ≡ marks) (ec : batch.closes ≡ closes) (ep : batch.puts ≡ Some puts) (lm : length marks ≡ n) (lc : length closes ≡ n)
    (rc : rows.cells ≡ min (length (laid puts)) 18446744073709551615) (rb : rows.bytes ≡ min (length (all_bytes (laid puts))) 18446744073709551615) (r : AreRoomsFor rooms marks closes) where
  marks_at : (i : ℕ) → kept_for n batch.marks i ≡ get_or marks i []
  marks_at i = ap (λ (k : List (List (List CellData))). kept_for n k i) em ∙ kept_inside n marks lm i

  closes_at : (i : ℕ) → kept_for n batch.closes i ≡ get_or closes i []
  closes_at i = ap (λ (k : List (List (List CellData))). kept_for n k i) ec ∙ kept_inside n closes lc i

  cells_is : (i : ℕ) → length (laid (get_or marks i [])) + length (laid (get_or closes i [])) ≡ cells_at i (fresh_batch n batch)
  cells_is i = λ j. length (laid (sym (marks_at i) j)) + length (laid (sym (closes_at i) j))

  bytes_is : (i : ℕ) → length (all_bytes (laid (get_or marks i []))) + length (all_bytes (laid (get_or closes i []))) ≡ bytes_at i (fresh_batch n batch)
  bytes_is i = λ j. length (all_bytes (laid (sym (marks_at i) j))) + length (all_bytes (laid (sym (closes_at i) j)))

  rows_cells : length (laid puts) ≡ cells_of_rows (fresh_batch n batch)
  rows_cells = ap (λ (o : Option (List (List CellData))). length (laid (parts_or_none o))) (sym ep)

  rows_bytes : length (all_bytes (laid puts)) ≡ bytes_of_rows (fresh_batch n batch)
  rows_bytes = ap (λ (o : Option (List (List CellData))). length (all_bytes (laid (parts_or_none o)))) (sym ep)

  inside : (i : ℕ) → i < length rooms → i < n
  inside i l = (let c = r.count in omega (arith, l, c, lm))

  pub many_cells : PassesIn HasFew rows rooms → PassesAt cells_of_rows cells_at 8192 n batch
  many_cells passes = ⊎_elim (λ lt. inl (subst (λ (k : ℕ). 8192 < k) rows_cells (above rows.cells (length (laid puts)) 8192 rc lt)))
      (λ z. inr (z.0, (inside z.0 z.1.0, subst (λ (k : ℕ). 8192 < k) (cells_is z.0) (above (get_or rooms z.0 no_room).cells (length (laid (get_or marks z.0 [])) + length (laid (get_or closes z.0 []))) 8192 (r.each z.0 (let l = z.1.0 in let c = r.count in omega (arith, l, c))).cells z.1.1))))
      (which (λ (x : Room). x.cells) 8192 rows rooms passes)

  pub many_bytes : PassesIn IsLightRoom rows rooms → PassesAt bytes_of_rows bytes_at 8388608 n batch
  many_bytes passes = ⊎_elim (λ lt. inl (subst (λ (k : ℕ). 8388608 < k) rows_bytes (above rows.bytes (length (all_bytes (laid puts))) 8388608 rb lt)))
      (λ z. inr (z.0, (inside z.0 z.1.0, subst (λ (k : ℕ). 8388608 < k) (bytes_is z.0) (above (get_or rooms z.0 no_room).bytes (length (all_bytes (laid (get_or marks z.0 []))) + length (all_bytes (laid (get_or closes z.0 [])))) 8388608 (r.each z.0 (let l = z.1.0 in let c = r.count in omega (arith, l, c))).bytes z.1.1))))
      (which (λ (x : Room). x.bytes) 8388608 rows rooms passes)

-- what was read, as it was handed on
pub read_here : (g : Group) (bs : List Begun) (listed cs : List Change) (xs ts : List Transition) → bs ≡ g.batches.items → listed ≡ cs → ts ≡ xs → AreTransitions g.table listed xs → AreFrom (old_in g.table (read_of g.rows) bs) listed xs → AreRead g cs ts
read_here g bs listed cs xs ts eb el et a f = record {
  are = subst (λ (l : List Change). AreTransitions g.table l ts) el (subst (AreTransitions g.table listed) (sym et) a);
  from = subst (λ (ms : List Begun). AreFrom (old_in g.table (read_of g.rows) ms) cs ts) eb (subst (λ (l : List Change). AreFrom (old_in g.table (read_of g.rows) bs) l ts) el (subst (AreFrom (old_in g.table (read_of g.rows) bs) listed) (sym et) f));
}

-- what is made speaks of no region
pub made_here : (g : Group) (r : Region) (s : ℕ) (cs : List Change) (ts : List Transition) (b : BatchData) → IsMadeOf (record g { rows = r }) s cs ts b → IsMadeOf g s cs ts b
made_here g r s cs ts b m = record { parts = m.parts; puts = m.puts; is = m.is; short = m.short }
