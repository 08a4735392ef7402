-- The cells of changes spell the rows after the changes, and the laws of a table's form.
use Rattle.std.proofs.Common.{map, length, replicate, ◌≡◌, ℕ, zero, suc, ◌<◌, ◌≤◌, ◌+◌, Bool, true, false, cond, not, ◌&&◌, ◌||◌, Option, Some, None, List, [], ◌∷◌, get_or, refl, ap, sym, ◌∙◌, subst, inl, inr, arith}
use Rattle.std.specs.Prelude.{nat_eq, is_some, slice_set}
use Rattle.std.specs.Cmp.Lexicographic.{pointwise}
use Rattle.std.proofs.lemmas.Slice.Eq.{bytes_eq-Decides}
use Rattle.std.proofs.lemmas.List.{get_or-set_other}
use Rattle.std.proofs.lemmas.Bool.{or_parts, cases_eq, cases_lt, cond-true, cond-false, eq-eqb, eqb-true, ne_eqb, and_parts, both_ways}
use Rattle.px_cells.specs.declared.kind.CellKind.{CellKind}
use Rattle.px_cells.specs.declared.kind.CellKind.TheVariants.{Put, Delete, DeleteFamilyVersion, DeleteColumn, DeleteFamily}
use Rattle.px_values.specs.declared.row.Value.{Value}
use Rattle.px_values.specs.declared.row.Value.TheVariants.{Null, Number, Truth, Text}
use Rattle.px_values.specs.declared.change.Assignment.{Assignment}
use Rattle.px_values.specs.declared.change.What.{What}
use Rattle.px_values.specs.declared.change.What.TheVariants.{Set, Gone}
use Rattle.px_values.specs.States.{RowState, apply, assigned, fresh_row, with_values}
use Rattle.px_world.specs.World.{read_at}
use Rattle.px_cells.specs.Newest.{newest}
use Rattle.px_cells.proofs.Newest.{newest-at, newest-down, newest-is, newest-stopped, newest-nothing, newest-equal}
use Rattle.px_world.proofs.Steps.{read_same}
use Rattle.px_cells.specs.Contents.{Contents, or_else, over_contents}
use Rattle.px_cells.specs.Sight.{stops_at, puts_at, seen_at}
use Rattle.px_world.specs.Events.{is_at}
use Rattle.std.specs.List.{AllByRecursion}
use Rattle.px_tables.specs.declared.table.KeyPlace.{KeyPlace}
use Rattle.px_tables.specs.declared.table.Table.{Table}
use Rattle.px_trail.specs.Trail.{table_shape}
use Rattle.px_values.specs.Types.{HasType}
use Rattle.px_rows.specs.Keys.{column_in, is_part}
use Rattle.px_rows.proofs.KeysBack.{value_back, row_key-apart}
use Rattle.px_forms.specs.Rows.{IsCompactedAt, IsDataForm}
use Rattle.px_rows.specs.Spelled.{RowForm, pick, overlay, decoded, column_at, state_if, spelled_at, assigned_to, put_value, null_value, change_cells, change_contents, IsWholeRow, FitsColumnOf, FitsTable, row_spelling, row_form}

-- a change sets no column to NULL that the key gives a value, and its values are read again as they are
abbrev pub FitsRow : RowForm → List Value → What → Type 0
FitsRow f r (Set as') = ((c : ℕ) → assigned_to as' c ≡ Some Null → get_or (fresh_row f.shape r) c Null ≡ Null) × ((c : ℕ) (v : Value) → assigned_to as' c ≡ Some v → (v ≡ Null → ⊥) → f.decode c (f.encode c v) ≡ v)
FitsRow f r Gone = Unit {0}

-- ---- values over a row

pub overlay_same : (o o' : ℕ → Option Value) (i : ℕ) (xs : List Value) → ((j : ℕ) → pick (o' (i + j)) (get_or xs j Null) ≡ pick (o (i + j)) (get_or xs j Null)) → overlay o' i xs ≡ overlay o i xs
unfolding overlay
overlay_same o o' i [] e = refl
overlay_same o o' i (x ∷ xs) e =
    let z : i + 0 ≡ i = omega arith in
    let head : pick (o' i) x ≡ pick (o i) x = subst (λ (k : ℕ). pick (o' k) x ≡ pick (o k) x) z (e 0) in
    let rest = overlay_same o o' (suc i) xs (λ j. (let y : i + suc j ≡ suc i + j = omega arith in subst (λ (k : ℕ). pick (o' k) (get_or xs j Null) ≡ pick (o k) (get_or xs j Null)) y (e (suc j)))) in
    (λ a. head a ∷ rest a)

overlay_none : (i : ℕ) (xs : List Value) (o : ℕ → Option Value) → ((c : ℕ) → o c ≡ None) → overlay o i xs ≡ xs
unfolding overlay
overlay_none i [] o e = refl
overlay_none i (x ∷ xs) o e = (let h : pick (o i) x ≡ x = ap (λ (v : Option Value). pick v x) (e i) in let r = overlay_none (suc i) xs o e in (λ a. h a ∷ r a))

pub set_overlay : (o : ℕ → Option Value) (i j : ℕ) (xs : List Value) (x : Value) → slice_set (overlay o i xs) j x ≡ overlay (λ c. cond (nat_eq (i + j) c) (Some x) (o c)) i xs
unfolding overlay
set_overlay o i j [] x = refl
set_overlay o i zero (y ∷ xs) x =
    let z : i + 0 ≡ i = omega arith in
    let head : x ≡ pick (cond (nat_eq (i + 0) i) (Some x) (o i)) y = sym (ap (λ (v : Option Value). pick v y) (cond-true _ _ _ (eq-eqb (i + 0) i z))) in
    let rest : overlay o (suc i) xs ≡ overlay (λ c. cond (nat_eq (i + 0) c) (Some x) (o c)) (suc i) xs = sym (overlay_same o (λ c. cond (nat_eq (i + 0) c) (Some x) (o c)) (suc i) xs (λ j. ap (λ (v : Option Value). pick v (get_or xs j Null)) (cond-false _ _ _ (ne_eqb (i + 0) (suc i + j) (λ e. absurd (omega arith)))))) in
    (λ a. head a ∷ rest a)
set_overlay o i (suc j) (y ∷ xs) x =
    let head : pick (o i) y ≡ pick (cond (nat_eq (i + suc j) i) (Some x) (o i)) y = sym (ap (λ (v : Option Value). pick v y) (cond-false _ _ _ (ne_eqb (i + suc j) i (λ e. absurd (omega arith))))) in
    let z : suc i + j ≡ i + suc j = omega arith in
    let rest : slice_set (overlay o (suc i) xs) j x ≡ overlay (λ c. cond (nat_eq (i + suc j) c) (Some x) (o c)) (suc i) xs = set_overlay o (suc i) j xs x ∙ ap (λ (k : ℕ). overlay (λ c. cond (nat_eq k c) (Some x) (o c)) (suc i) xs) z in
    (λ a. head a ∷ rest a)

or_over : (a : Option Value) (v : Bool) (x : Value) (o : Option Value) → or_else a (cond v (Some x) o) ≡ or_else (or_else a (cond v (Some x) None)) o
or_over None true x o = refl
or_over None false x o = refl
or_over (Some y) v x o = refl

assigned_overlay : (as' : List Assignment) (o : ℕ → Option Value) (xs : List Value) → assigned (overlay o 0 xs) as' ≡ overlay (λ c. or_else (assigned_to as' c) (o c)) 0 xs
assigned_overlay [] o xs = refl
assigned_overlay (a ∷ as') o xs =
    let z : 0 + a.column ≡ a.column = omega arith in
    ap (λ (l : List Value). assigned l as') (set_overlay o 0 a.column xs a.value ∙ ap (λ (k : ℕ). overlay (λ c. cond (nat_eq k c) (Some a.value) (o c)) 0 xs) z)
    ∙ (assigned_overlay as' (λ c. cond (nat_eq a.column c) (Some a.value) (o c)) xs
    ∙ ap (λ (p : ℕ → Option Value). overlay p 0 xs) (λ i c. or_over (assigned_to as' c) (nat_eq a.column c) a.value (o c) i))

-- ---- what is seen over older cells

module _ (g g' : Contents) (k : List ℕ) (s p : ℕ) (within : s ≤ p) (clear : (q u : ℕ) (d : CellKind) → s ≤ u → g k q u d ≡ None) (above : (q u : ℕ) (d : CellKind) → s < u → g' k q u d ≡ None) (below : (q u : ℕ) (d : CellKind) → (s ≡ u → ⊥) → g' k q u d ≡ g k q u d) where
  no_stop : (f : Contents) (q u : ℕ) → f k 0 u DeleteFamily ≡ None → f k q u DeleteColumn ≡ None → stops_at f k q u ≡ false
  no_stop f q u a b = (λ i. is_some (a i) || (is_some (b i) && not (is_some (f k 0 u DeleteFamilyVersion))))

  no_put : (f : Contents) (q u : ℕ) → f k q u Put ≡ None → puts_at f k q u ≡ false
  no_put f q u a = (λ i. is_some (a i) && not (is_some (f k 0 u DeleteFamilyVersion)))

  down : (q : ℕ) → seen_at g' k q p ≡ seen_at g' k q s
  down q = newest-down (stops_at g' k q) (puts_at g' k q) p s within (λ u l m. no_stop g' q u (above 0 u DeleteFamily l) (above q u DeleteColumn l)) (λ u l m. no_put g' q u (above q u Put l))

  seen_stopped : (q : ℕ) → stops_at g' k q s ≡ true → seen_at g' k q p ≡ None
  seen_stopped q h = down q ∙ newest-stopped (stops_at g' k q) (puts_at g' k q) s h

  seen_put : (q : ℕ) → stops_at g' k q s ≡ false → puts_at g' k q s ≡ true → seen_at g' k q p ≡ Some s
  seen_put q a b = down q ∙ newest-at (stops_at g' k q) (puts_at g' k q) s s (record {
    within = omega arith;
    hits = b;
    none = λ u l m. absurd (omega arith);
    clear = λ u l m. (let e : s ≡ u = omega arith in subst (λ (z : ℕ). stops_at g' k q z ≡ false) e a);
  })

  seen_older : (q : ℕ) → ((d : CellKind) → g' k q s d ≡ None) → ((d : CellKind) → g' k 0 s d ≡ None) → seen_at g' k q p ≡ seen_at g k q p
  seen_older q a b = newest-equal (stops_at g k q) (puts_at g k q) (stops_at g' k q) (puts_at g' k q) p
      (λ u l. elim (cases_eq s u) [
        | inl e ↦ subst (λ (z : ℕ). stops_at g' k q z ≡ stops_at g k q z) e (no_stop g' q s (b DeleteFamily) (a DeleteColumn) ∙ sym (no_stop g q s (clear 0 s DeleteFamily (omega arith)) (clear q s DeleteColumn (omega arith))))
        | inr e ↦ (λ i. is_some (below 0 u DeleteFamily e i) || (is_some (below q u DeleteColumn e i) && not (is_some (below 0 u DeleteFamilyVersion e i))))
      ])
      (λ u l. elim (cases_eq s u) [
        | inl e ↦ subst (λ (z : ℕ). puts_at g' k q z ≡ puts_at g k q z) e (no_put g' q s (a Put) ∙ sym (no_put g q s (clear q s Put (omega arith))))
        | inr e ↦ (λ i. is_some (below q u Put e i) && not (is_some (below 0 u DeleteFamilyVersion e i)))
      ])

or_nothing : {A : Type 0} (o : Option A) → or_else o None ≡ o
or_nothing None = refl
or_nothing (Some x) = refl

-- ---- a change's cells over older ones

module _ (f : RowForm) (low : ℕ) (r : List Value) where
  abbrev key : List ℕ
  key = f.key_of r

  abbrev fresh : List Value
  fresh = fresh_row f.shape r

  same_seen : (g g' : Contents) (q p : ℕ) → ((q u : ℕ) (d : CellKind) → u ≤ p → g' key q u d ≡ g key q u d) → seen_at g' key q p ≡ seen_at g key q p
  same_seen g g' q p e = newest-equal (stops_at g key q) (puts_at g key q) (stops_at g' key q) (puts_at g' key q) p
      (λ u l. (λ i. is_some (e 0 u DeleteFamily l i) || (is_some (e q u DeleteColumn l i) && not (is_some (e 0 u DeleteFamilyVersion l i)))))
      (λ u l. (λ i. is_some (e q u Put l i) && not (is_some (e 0 u DeleteFamilyVersion l i))))

  within_point : (g : Contents) (q p s : ℕ) → seen_at g key q p ≡ Some s → s ≤ p
  within_point g q p s e = (newest-is (stops_at g key q) (puts_at g key q) p s e).within

  pub local_rows : (g g' : Contents) (p : ℕ) → ((q u : ℕ) (d : CellKind) → u ≤ p → g' key q u d ≡ g key q u d) → spelled_at f g' r p ≡ spelled_at f g r p
  local_rows g g' p e =
      let first = same_seen g g' 1 p e in
      let columns : (c : ℕ) → column_at f g' r p c ≡ column_at f g r p c = λ c. ap (decoded f c)
      (ap (read_at (λ s. g' key (suc (suc c)) s Put)) (same_seen g g' (suc (suc c)) p e)
      ∙ read_same (λ s. g key (suc (suc c)) s Put) (λ s. g' key (suc (suc c)) s Put) (seen_at g key (suc (suc c)) p) p (λ s q. e (suc (suc c)) s Put (within_point g (suc (suc c)) p s q))) in
      (λ i. state_if (first i) (overlay (λ c. columns c i) 0 fresh))

  module _ (g g' : Contents) (s : ℕ) (w : What) (p : ℕ) (high : low < s) (fits : FitsRow f r w) (whole : IsWholeRow f low g r) (clear : (q u : ℕ) (d : CellKind) → s ≤ u → g key q u d ≡ None) (put : (q u : ℕ) (d : CellKind) → g' key q u d ≡ over_contents (change_contents f r s w) g key q u d) where
    here : (q : ℕ) (d : CellKind) → g' key q s d ≡ change_cells f w q d
    here q d = put q s d ∙ (ap (λ v. or_else (cond v (change_cells f w q d) None) (g key q s d)) (λ i. (bytes_eq-Decides key key).1 refl i && eq-eqb s s refl i) ∙ (ap (or_else (change_cells f w q d)) (clear q s d (omega arith)) ∙ or_nothing (change_cells f w q d)))

    below : (q u : ℕ) (d : CellKind) → (s ≡ u → ⊥) → g' key q u d ≡ g key q u d
    below q u d n = put q u d ∙ ap (λ v. or_else (cond v (change_cells f w q d) None) (g key q u d)) (off (pointwise nat_eq key key) (nat_eq s u) (ne_eqb s u n))
      where
        off : (a c : Bool) → c ≡ false → (a && c) ≡ false
        off true c h = h
        off false c h = refl

    above : (q u : ℕ) (d : CellKind) → s < u → g' key q u d ≡ None
    above q u d l = below q u d (λ e. absurd (omega arith)) ∙ clear q u d (omega arith)

    module _ (within : s ≤ p) where
      there : (q : ℕ) (x : List ℕ) → change_cells f w q Put ≡ Some x → change_cells f w 0 DeleteFamilyVersion ≡ None → change_cells f w 0 DeleteFamily ≡ None → change_cells f w q DeleteColumn ≡ None → seen_at g' key q p ≡ Some s
      there q x a v d e = seen_put g g' key s p within clear above below q (no_stop g g' key s p within clear above below g' q s (here 0 DeleteFamily ∙ d) (here q DeleteColumn ∙ e))
          (ap (λ o. is_some o && not (is_some (g' key 0 s DeleteFamilyVersion))) (here q Put ∙ a) ∙ ap (λ (o : Option (List ℕ)). not (is_some o)) (here 0 DeleteFamilyVersion ∙ v))

      hidden : (q : ℕ) (x : List ℕ) → change_cells f w q DeleteColumn ≡ Some x → change_cells f w 0 DeleteFamilyVersion ≡ None → seen_at g' key q p ≡ None
      hidden q x a v = seen_stopped g g' key s p within clear above below q ((λ i. is_some (g' key 0 s DeleteFamily) || (is_some ((here q DeleteColumn ∙ a) i) && not (is_some ((here 0 DeleteFamilyVersion ∙ v) i)))) ∙ or_true (is_some (g' key 0 s DeleteFamily)))
        where
          or_true : (a : Bool) → (a || true) ≡ true
          or_true true = refl
          or_true false = refl

      gone : (q : ℕ) (x : List ℕ) → change_cells f w 0 DeleteFamily ≡ Some x → seen_at g' key q p ≡ None
      gone q x a = seen_stopped g g' key s p within clear above below q (ap (λ o. is_some o || (is_some (g' key q s DeleteColumn) && not (is_some (g' key 0 s DeleteFamilyVersion)))) (here 0 DeleteFamily ∙ a))

      older : (q : ℕ) → ((d : CellKind) → change_cells f w q d ≡ None) → ((d : CellKind) → change_cells f w 0 d ≡ None) → seen_at g' key q p ≡ seen_at g key q p
      older q a z = seen_older g g' key s p within clear above below q (λ d. here q d ∙ a d) (λ d. here 0 d ∙ z d)

  -- ---- the change is a Set

  module _ (g g' : Contents) (s : ℕ) (as' : List Assignment) (p : ℕ) (high : low < s) (fits : FitsRow f r (Set as')) (whole : IsWholeRow f low g r) (clear : (q u : ℕ) (d : CellKind) → s ≤ u → g key q u d ≡ None) (put : (q u : ℕ) (d : CellKind) → g' key q u d ≡ over_contents (change_contents f r s (Set as')) g key q u d) (within : s ≤ p) where
    set_first : seen_at g' key 1 p ≡ Some s
    set_first = there g g' s (Set as') p high fits whole clear put within 1 [] refl refl refl refl

    no_cell : (c : ℕ) → assigned_to as' c ≡ None → (d : CellKind) → change_cells f (Set as') (suc (suc c)) d ≡ None
    no_cell c e Put = ap (put_value f c) e
    no_cell c e Delete = refl
    no_cell c e DeleteFamilyVersion = refl
    no_cell c e DeleteColumn = ap null_value e
    no_cell c e DeleteFamily = refl

    no_row_cell : (d : CellKind) → change_cells f (Set as') 0 d ≡ None
    no_row_cell Put = refl
    no_row_cell Delete = refl
    no_row_cell DeleteFamilyVersion = refl
    no_row_cell DeleteColumn = refl
    no_row_cell DeleteFamily = refl

    -- the value of a column after the change: the assigned one, or the one before
    unassigned : (c : ℕ) → assigned_to as' c ≡ None → column_at f g' r p c ≡ column_at f g r p c
    unassigned c e = ap (decoded f c)
        (ap (read_at (λ u. g' key (suc (suc c)) u Put)) (older g g' s (Set as') p high fits whole clear put within (suc (suc c)) (no_cell c e) no_row_cell)
        ∙ read_same (λ u. g key (suc (suc c)) u Put) (λ u. g' key (suc (suc c)) u Put) (seen_at g key (suc (suc c)) p) p (λ u q. by_stamp u q))
      where
        by_stamp : (u : ℕ) → seen_at g key (suc (suc c)) p ≡ Some u → g' key (suc (suc c)) u Put ≡ g key (suc (suc c)) u Put
        by_stamp u q = elim (cases_eq s u) [
          | inl z ↦ subst (λ (y : ℕ). g' key (suc (suc c)) y Put ≡ g key (suc (suc c)) y Put) z (here g g' s (Set as') p high fits whole clear put (suc (suc c)) Put ∙ (no_cell c e Put ∙ sym (clear (suc (suc c)) s Put (omega arith))))
          | inr z ↦ below g g' s (Set as') p high fits whole clear put (suc (suc c)) u Put z
        ]

    nulled : (c : ℕ) → assigned_to as' c ≡ Some Null → column_at f g' r p c ≡ None
    nulled c e = ap (λ o. decoded f c (read_at (λ u. g' key (suc (suc c)) u Put) o)) (hidden g g' s (Set as') p high fits whole clear put within (suc (suc c)) [] (ap null_value e) refl)

    valued : (c : ℕ) (v : Value) → assigned_to as' c ≡ Some v → (v ≡ Null → ⊥) → put_value f c (Some v) ≡ Some (f.encode c v) → null_value (Some v) ≡ None → column_at f g' r p c ≡ Some v
    valued c v e n x y =
        let cell : change_cells f (Set as') (suc (suc c)) Put ≡ Some (f.encode c v) = ap (put_value f c) e ∙ x in
        let seen = there g g' s (Set as') p high fits whole clear put within (suc (suc c)) (f.encode c v) cell refl refl (ap null_value e ∙ y) in
        ap (λ o. decoded f c (read_at (λ u. g' key (suc (suc c)) u Put) o)) seen
        ∙ (ap (decoded f c) (here g g' s (Set as') p high fits whole clear put (suc (suc c)) Put ∙ cell) ∙ ap Some (fits.1 c v e n))

    picked : (c : ℕ) → pick (column_at f g' r p c) (get_or fresh c Null) ≡ pick (or_else (assigned_to as' c) (column_at f g r p c)) (get_or fresh c Null)
    picked c = by (assigned_to as' c) refl
      where
        after : (a : Option Value) → assigned_to as' c ≡ a → (o : Option Value) → column_at f g' r p c ≡ o → pick o (get_or fresh c Null) ≡ pick (or_else a (column_at f g r p c)) (get_or fresh c Null) → pick (column_at f g' r p c) (get_or fresh c Null) ≡ pick (or_else (assigned_to as' c) (column_at f g r p c)) (get_or fresh c Null)
        after a e o q h = ap (λ z. pick z (get_or fresh c Null)) q ∙ (h ∙ ap (λ z. pick (or_else z (column_at f g r p c)) (get_or fresh c Null)) (sym e))

        by : (a : Option Value) → assigned_to as' c ≡ a → pick (column_at f g' r p c) (get_or fresh c Null) ≡ pick (or_else (assigned_to as' c) (column_at f g r p c)) (get_or fresh c Null)
        by None e = after None e (column_at f g r p c) (unassigned c e) refl
        by (Some Null) e = after (Some Null) e None (nulled c e) (fits.0 c e)
        by (Some (Number n)) e = after (Some (Number n)) e (Some (Number n)) (valued c (Number n) e (λ z. cc) refl refl) refl
        by (Some (Truth n)) e = after (Some (Truth n)) e (Some (Truth n)) (valued c (Truth n) e (λ z. cc) refl refl) refl
        by (Some (Text n)) e = after (Some (Text n)) e (Some (Text n)) (valued c (Text n) e (λ z. cc) refl refl) refl

    row_after : overlay (column_at f g' r p) 0 fresh ≡ assigned (overlay (column_at f g r p) 0 fresh) as'
    row_after = overlay_same (λ c. or_else (assigned_to as' c) (column_at f g r p c)) (column_at f g' r p) 0 fresh (λ j. (let z : 0 + j ≡ j = omega arith in subst (λ (c : ℕ). pick (column_at f g' r p c) (get_or fresh j Null) ≡ pick (or_else (assigned_to as' c) (column_at f g r p c)) (get_or fresh j Null)) (sym z) (picked j))) ∙ sym (assigned_overlay as' (column_at f g r p) fresh)

    set_state : (o : Option ℕ) → seen_at g key 1 p ≡ o → Some (assigned (overlay (column_at f g r p) 0 fresh) as') ≡ apply f.shape r (state_if o (overlay (column_at f g r p) 0 fresh)) (Set as')
    set_state None e = ap (λ l. Some (assigned l as')) (overlay_none 0 fresh (column_at f g r p) (λ c. ap (λ o. decoded f c (read_at (λ u. g key (suc (suc c)) u Put) o)) (whole.columns p c (omega arith) e)))
    set_state (Some u) e = refl

    pub set_spelled : spelled_at f g' r p ≡ apply f.shape r (spelled_at f g r p) (Set as')
    set_spelled =
        ap (λ o. state_if o (overlay (column_at f g' r p) 0 fresh)) set_first
        ∙ (ap Some row_after
        ∙ set_state (seen_at g key 1 p) refl)

  gone_state : (o : RowState) → None ≡ apply f.shape r o Gone
  gone_state None = refl
  gone_state (Some row) = refl

  pub change_spelled : (g g' : Contents) (s : ℕ) (w : What) (p : ℕ) → low < s → FitsRow f r w → IsWholeRow f low g r → ((q u : ℕ) (d : CellKind) → s ≤ u → g key q u d ≡ None) → ((q u : ℕ) (d : CellKind) → g' key q u d ≡ over_contents (change_contents f r s w) g key q u d) → s ≤ p → spelled_at f g' r p ≡ apply f.shape r (spelled_at f g r p) w
  change_spelled g g' s (Set as') p high fits whole clear put within = set_spelled g g' s as' p high fits whole clear put within
  change_spelled g g' s Gone p high fits whole clear put within = ap (λ o. state_if o (overlay (column_at f g' r p) 0 fresh)) (gone g g' s Gone p high fits whole clear put within 1 [] refl) ∙ gone_state (spelled_at f g r p)

  none_some : {A : Type 0} {u : ℕ} → Some u ≡ None → A
  none_some e = cc

  columns_after : (g g' : Contents) (s : ℕ) (w : What) → low < s → FitsRow f r w → IsWholeRow f low g r → ((q u : ℕ) (d : CellKind) → s ≤ u → g key q u d ≡ None) → ((q u : ℕ) (d : CellKind) → g' key q u d ≡ over_contents (change_contents f r s w) g key q u d) → (p c : ℕ) → s ≤ p → seen_at g' key 1 p ≡ None → seen_at g' key (suc (suc c)) p ≡ None
  columns_after g g' s (Set as') high fits whole clear put p c within e = none_some (sym (set_first g g' s as' p high fits whole clear put within) ∙ e)
  columns_after g g' s Gone high fits whole clear put p c within e = gone g g' s Gone p high fits whole clear put within (suc (suc c)) [] refl

  no_version_cell : (w : What) → change_cells f w 0 DeleteFamilyVersion ≡ None
  no_version_cell (Set as') = refl
  no_version_cell Gone = refl

  no_delete_cell : (w : What) (q : ℕ) → change_cells f w q Delete ≡ None
  no_delete_cell (Set as') q = refl
  no_delete_cell Gone q = refl

  pub change_whole : (g g' : Contents) (s : ℕ) (w : What) → low < s → FitsRow f r w → IsWholeRow f low g r → ((q u : ℕ) (d : CellKind) → s ≤ u → g key q u d ≡ None) → ((q u : ℕ) (d : CellKind) → g' key q u d ≡ over_contents (change_contents f r s w) g key q u d) → IsWholeRow f low g' r
  change_whole g g' s w high fits whole clear put = record {
    columns = λ p c l e. elim (cases_lt p s) [
      | inl m ↦
          (let same : (q : ℕ) → seen_at g' key q p ≡ seen_at g key q p = λ q. same_seen g g' q p (λ q u d n. below g g' s w p high fits whole clear put q u d (λ z. absurd (omega arith))) in
          same (suc (suc c)) ∙ whole.columns p c l (sym (same 1) ∙ e))
      | inr m ↦ columns_after g g' s w high fits whole clear put p c (omega arith) e
    ];
    plain = record {
      no_delete = λ q u. elim (cases_eq s u) [
        | inl z ↦ subst (λ (y : ℕ). g' key q y Delete ≡ None) z (here g g' s w s high fits whole clear put q Delete ∙ no_delete_cell w q)
        | inr z ↦ below g g' s w s high fits whole clear put q u Delete z ∙ whole.plain.no_delete q u
      ];
      no_version = λ u. elim (cases_eq s u) [
        | inl z ↦ subst (λ (y : ℕ). g' key 0 y DeleteFamilyVersion ≡ None) z (here g g' s w s high fits whole clear put 0 DeleteFamilyVersion ∙ no_version_cell w)
        | inr z ↦ below g g' s w s high fits whole clear put 0 u DeleteFamilyVersion z ∙ whole.plain.no_version u
      ];
    };
  }

-- ---- what a compaction leaves

module _ (g g' : Contents) (k : List ℕ) (h : ℕ) (is : IsCompactedAt g g' k h) (q : ℕ) where
  no_marker : (u : ℕ) → u ≤ h → stops_at g' k q u ≡ false
  no_marker u l = (λ i. is_some (is.others 0 u DeleteFamily l (λ e. cc) i) || (is_some (is.others q u DeleteColumn l (λ e. cc) i) && not (is_some (g' k 0 u DeleteFamilyVersion))))

  put_there : (u : ℕ) → u ≤ h → puts_at g' k q u ≡ is_some (cond (is_at u (seen_at g k q h)) (g k q u Put) None)
  put_there u l = (λ i. is_some (is.puts q u l i) && not (is_some (is.others 0 u DeleteFamilyVersion l (λ e. cc) i))) ∙ and_true (is_some (cond (is_at u (seen_at g k q h)) (g k q u Put) None))
    where
      and_true : (a : Bool) → (a && true) ≡ a
      and_true true = refl
      and_true false = refl

  only : (u s : ℕ) → (s ≡ u → ⊥) → is_some (cond (is_at u (Some s)) (g k q u Put) None) ≡ false
  only u s n = ap (λ v. is_some (cond v (g k q u Put) None)) (ne_eqb u s (λ e. n (sym e)))

  at_horizon : (o : Option ℕ) → seen_at g k q h ≡ o → seen_at g' k q h ≡ o
  at_horizon None e = newest-nothing (stops_at g' k q) (puts_at g' k q) h (λ u l. put_there u l ∙ ap (λ o. is_some (cond (is_at u o) (g k q u Put) None)) e)
  at_horizon (Some s) e =
      let i = newest-is (stops_at g k q) (puts_at g k q) h s e in
      newest-at (stops_at g' k q) (puts_at g' k q) h s (record {
        within = i.within;
        hits = put_there s i.within ∙ (ap (λ o. is_some (cond (is_at s o) (g k q s Put) None)) e ∙ (ap (λ v. is_some (cond v (g k q s Put) None)) (eq-eqb s s refl) ∙ (and_parts _ _ i.hits).0));
        none = λ u l m. put_there u m ∙ (ap (λ o. is_some (cond (is_at u o) (g k q u Put) None)) e ∙ only u s (λ z. absurd (omega arith)));
        clear = λ u l m. no_marker u m;
      })

  above_same : (u : ℕ) → h < u → (stops_at g' k q u ≡ stops_at g k q u) × (puts_at g' k q u ≡ puts_at g k q u)
  above_same u l = (
    (λ i. is_some (is.above 0 u DeleteFamily l i) || (is_some (is.above q u DeleteColumn l i) && not (is_some (is.above 0 u DeleteFamilyVersion l i)))),
    (λ i. is_some (is.above q u Put l i) && not (is_some (is.above 0 u DeleteFamilyVersion l i))),
  )

  seen_kept : (p : ℕ) → h ≤ p → seen_at g' k q p ≡ seen_at g k q p
  unfolding newest
  seen_kept zero l = (let e : h ≡ 0 = omega arith in subst (λ (z : ℕ). seen_at g' k q z ≡ seen_at g k q z) e (at_horizon (seen_at g k q h) refl))
  seen_kept (suc p) l = elim (cases_eq h (suc p)) [
    | inl e ↦ subst (λ (z : ℕ). seen_at g' k q z ≡ seen_at g k q z) e (at_horizon (seen_at g k q h) refl)
    | inr e ↦
        (let a = above_same (suc p) (omega arith) in
        let rest = seen_kept p (omega arith) in
        (λ i. cond (a.0 i) None (cond (a.1 i) (Some (suc p)) (rest i))))
  ]

  -- the put that is seen has its value
  value_kept : (p s : ℕ) → h ≤ p → seen_at g k q p ≡ Some s → g' k q s Put ≡ g k q s Put
  value_kept p s l e = elim (cases_lt h s) [
    | inl m ↦ is.above q s Put m
    | inr m ↦
        (let i = newest-is (stops_at g k q) (puts_at g k q) p s e in
        let seen : seen_at g k q h ≡ Some s = newest-at (stops_at g k q) (puts_at g k q) h s (record { within = m; hits = i.hits; none = λ u a c. i.none u a (omega arith); clear = λ u a c. i.clear u a (omega arith) }) in
        is.puts q s m ∙ (ap (λ o. cond (is_at s o) (g k q s Put) None) seen ∙ cond-true _ _ _ (eq-eqb s s refl)))
  ]

compacted_rows : (f : RowForm) (r : List Value) (g g' : Contents) (h p : ℕ) → IsCompactedAt g g' (f.key_of r) h → h ≤ p → spelled_at f g' r p ≡ spelled_at f g r p
compacted_rows f r g g' h p is l =
    let first = seen_kept g g' (f.key_of r) h is 1 p l in
    let columns : (c : ℕ) → column_at f g' r p c ≡ column_at f g r p c = λ c. ap (decoded f c)
    (ap (read_at (λ s. g' (f.key_of r) (suc (suc c)) s Put)) (seen_kept g g' (f.key_of r) h is (suc (suc c)) p l)
    ∙ read_same (λ s. g (f.key_of r) (suc (suc c)) s Put) (λ s. g' (f.key_of r) (suc (suc c)) s Put) (seen_at g (f.key_of r) (suc (suc c)) p) p (λ s q. value_kept g g' (f.key_of r) h is (suc (suc c)) p s l q)) in
    (λ i. state_if (first i) (overlay (λ c. columns c i) 0 (fresh_row f.shape r)))

compacted_whole : (f : RowForm) (r : List Value) (low : ℕ) (g g' : Contents) (h : ℕ) → IsCompactedAt g g' (f.key_of r) h → low ≤ h → IsWholeRow f low g r → IsWholeRow f h g' r
compacted_whole f r low g g' h is l whole = record {
  columns = λ p c m e. seen_kept g g' (f.key_of r) h is (suc (suc c)) p m ∙ whole.columns p c (omega arith) (sym (seen_kept g g' (f.key_of r) h is 1 p m) ∙ e);
  plain = record {
    no_delete = λ q u. elim (cases_lt h u) [ inl m ↦ is.above q u Delete m ∙ whole.plain.no_delete q u | inr m ↦ is.others q u Delete m (λ e. cc) ];
    no_version = λ u. elim (cases_lt h u) [ inl m ↦ is.above 0 u DeleteFamilyVersion m ∙ whole.plain.no_version u | inr m ↦ is.others 0 u DeleteFamilyVersion m (λ e. cc) ];
  };
}

-- a point sees what the one before it does, where no cell has its stamp
still_rows : (f : RowForm) (r : List Value) (g : Contents) (p : ℕ) → ((q : ℕ) (d : CellKind) → g (f.key_of r) q (suc p) d ≡ None) → spelled_at f g r (suc p) ≡ spelled_at f g r p
unfolding newest
still_rows f r g p e =
    let seen : (q : ℕ) → seen_at g (f.key_of r) q (suc p) ≡ seen_at g (f.key_of r) q p = λ q. (λ i. cond (is_some (e 0 DeleteFamily i) || (is_some (e q DeleteColumn i) && not (is_some (g (f.key_of r) 0 (suc p) DeleteFamilyVersion)))) None (cond (is_some (e q Put i) && not (is_some (g (f.key_of r) 0 (suc p) DeleteFamilyVersion))) (Some (suc p)) (seen_at g (f.key_of r) q p))) in
    (λ i. state_if (seen 1 i) (overlay (λ c. decoded f c (read_at (λ s. g (f.key_of r) (suc (suc c)) s Put) (seen (suc (suc c)) i))) 0 (fresh_row f.shape r)))

-- ---- which changes fit

with_values_none : (parts : List KeyPlace) (values row : List Value) (c : ℕ) → is_part parts c ≡ false → get_or (with_values (map (λ p. p.column) parts) values row) c Null ≡ get_or row c Null
with_values_none [] values row c h = refl
with_values_none (p ∷ parts) [] row c h = refl
with_values_none (p ∷ parts) (v ∷ values) row c h =
    let each = or_parts (nat_eq p.column c) (is_part parts c) h in
    with_values_none parts values (slice_set row p.column v) c each.1
    ∙ get_or-set_other row p.column c v Null (λ e. both_ways _ each.0 (eq-eqb p.column c (sym e)))

nulls : (n c : ℕ) → get_or (replicate n Null) c Null ≡ Null
nulls zero c = refl
nulls (suc n) zero = refl
nulls (suc n) (suc c) = nulls n c

-- beside the key a fresh row is NULL
fresh_none : (t : Table) (r : List Value) (c : ℕ) → is_part t.key c ≡ false → get_or (fresh_row (table_shape t) r) c Null ≡ Null
fresh_none t r c h = with_values_none t.key r (replicate (length t.columns) Null) c h ∙ nulls (length t.columns) c

-- the column of this place may have the value, and is none of the key
pub record IsGiven (t : Table) (c : ℕ) (v : Value) : Type 0 where
  pub within : c < length t.columns
  pub beside : is_part t.key c ≡ false
  pub has_type : HasType (column_in t.columns c).column_type v

given_here : (t : Table) (a : Assignment) (c : ℕ) (v : Value) → FitsColumnOf t a → a.column ≡ c → a.value ≡ v → IsGiven t c v
given_here t a c v h q z = subst (λ (d : ℕ). IsGiven t d v) q (record { within = h.within; beside = h.beside; has_type = subst (HasType (column_in t.columns a.column).column_type) z h.has_type })

some_value : {v w : Value} → Some v ≡ Some w → v ≡ w
some_value e = cc

given_by : (t : Table) (a : Assignment) (c : ℕ) (v : Value) → FitsColumnOf t a → (o : Option Value) → (o ≡ Some v → IsGiven t c v) → (b : Bool) → nat_eq a.column c ≡ b → or_else o (cond b (Some a.value) None) ≡ Some v → IsGiven t c v
given_by t a c v h (Some w) later b z e = later e
given_by t a c v h None later true z e = given_here t a c v h (eqb-true a.column c z) (some_value e)
given_by t a c v h None later false z e = cc

-- what an assignment gives fits its column
pub assigned_fits : (t : Table) (as' : List Assignment) → AllByRecursion (FitsColumnOf t) as' → (c : ℕ) (v : Value) → assigned_to as' c ≡ Some v → IsGiven t c v
assigned_fits t [] h c v e = cc
assigned_fits t (a ∷ as') h c v e = given_by t a c v h.0 (assigned_to as' c) (assigned_fits t as' h.1 c v) (nat_eq a.column c) refl e

table_fits : (t : Table) (r : List Value) (w : What) → FitsTable t r w → FitsRow (row_spelling t) r w
table_fits t r (Set as') h = (
  λ c e. fresh_none t r c (assigned_fits t as' h.1 c Null e).beside,
  λ c v e n. value_back (column_in t.columns c).column_type v (assigned_fits t as' h.1 c v e).has_type n,
)
table_fits t r Gone h = tt

-- ---- the laws

-- nothing is seen where nothing stands
nothing_seen : (k : List ℕ) (q p : ℕ) → seen_at (λ k q s d. None) k q p ≡ None
nothing_seen k q p = newest-nothing (stops_at (λ k q s d. None) k q) (puts_at (λ k q s d. None) k q) p (λ u l. refl)

off_here : (a c : Bool) → c ≡ false → (a && c) ≡ false
off_here true c h = h
off_here false c h = refl

module _ (t : Table) where
  abbrev f : RowForm
  f = row_spelling t

  -- the cells of a table's rows keep what a data region asks
  pub table_laws : IsDataForm (row_form t)
  table_laws = record {
    apart = row_key-apart t;
    local = λ g g' r p e. local_rows f 0 r g g' p e.each;
    still = λ g r p e. still_rows f r g p e;
    stamped = λ r s w q u d n. cond-false _ _ _ (off_here (pointwise nat_eq (f.key_of r) (f.key_of r)) (nat_eq s u) (ne_eqb s u n));
    changed = λ low g g' r s w p high fits whole clear put within. change_spelled f low r g g' s w p high (table_fits t r w fits) whole clear.each put.each within;
    whole = λ low g g' r s w high fits whole clear put. change_whole f low r g g' s w high (table_fits t r w fits) whole clear.each put.each;
    kept = λ low g g' r h p whole high is l. compacted_rows f r g g' h p is l;
    whole_kept = λ low g g' r h is l whole. compacted_whole f r low g g' h is l whole;
    whole_local = λ low g g' r e whole. record {
      columns = λ p c l z.
          (let same : (q : ℕ) → seen_at g' (f.key_of r) q p ≡ seen_at g (f.key_of r) q p = λ q. same_seen f low r g g' q p (λ q u d n. e q u d) in
          same (suc (suc c)) ∙ whole.columns p c l (sym (same 1) ∙ z));
      plain = record { no_delete = λ q u. e q u Delete ∙ whole.plain.no_delete q u; no_version = λ u. e 0 u DeleteFamilyVersion ∙ whole.plain.no_version u };
    };
  }

  -- where nothing stands there is no row
  pub nothing_spelled : (r : List Value) (p : ℕ) → spelled_at f (λ k q s d. None) r p ≡ None
  nothing_spelled r p = ap (λ o. state_if o (overlay (column_at f (λ k q s d. None) r p) 0 (fresh_row f.shape r))) (nothing_seen (f.key_of r) 1 p)

  pub nothing_whole : (low : ℕ) (r : List Value) → IsWholeRow f low (λ k q s d. None) r
  nothing_whole low r = record { columns = λ p c l e. nothing_seen (f.key_of r) (suc (suc c)) p; plain = record { no_delete = λ q s. refl; no_version = λ s. refl } }
