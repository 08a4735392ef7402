-- What an open batch hands out is what its table's steps ask for.
use Rattle.std.proofs.Common.{◌≡◌, ℕ, suc, ◌+◌, Bool, true, false, cond, not, ◌&&◌, ◌||◌, Option, Some, None, List, [], ◌∷◌, ◌++◌, map, filter, length, get_or, refl, ap, sym, ◌∙◌, subst, inl, inr, arith}
use Rattle.std.specs.Prelude.{is_some, nat_eq, if◌then◌else◌}
use Rattle.std.specs.List.{AllByRecursion, list_any}
use Rattle.std.specs.Ordering.{is_eq}
use Rattle.std.proofs.lemmas.Bool.{cases_Bool, eq-eqb, eqb-true, false≢true}
use Rattle.px_cells.specs.CellData.{CellData}
use Rattle.px_cells.specs.Order.{ReadsSame}
use Rattle.px_keptcells.specs.Kept.{but, laid}
use Rattle.px_forms.specs.Several.{cells_for}
use Rattle.px_openbatches.specs.Made.{RowCells, picked_cells}
use Rattle.px_openbatches.specs.Pending.{HeldBatch, flagged, is_left, meet_flags, to_verify, with_met, writes_rows}
use Rattle.px_openbatches.proofs.Flags.{flags_are}
use Rattle.px_trail.specs.Batches.{change_of, has, is_distinct, rows_of}
use Rattle.px_trail.proofs.Orders.{has-append}
use Rattle.px_values.proofs.Equal.{row_order-Decides}
use Rattle.px_values.specs.Order.{row_order}
use Rattle.px_values.specs.declared.change.Change.{Change}
use Rattle.px_values.specs.declared.row.Value.{Value}
use Rattle.px_phases.proofs.Flagging.{meet_length}
use Rattle.px_phases.specs.Batch.{BatchData, IsHanded, IsHeldAs}

-- 1. Rows

-- the rows but those whose place is marked
abbrev spared : List Bool → List (List Value) → List (List Value)
spared [] rows = rows
spared (v ∷ vs) [] = []
spared (v ∷ vs) (r ∷ rows) = cond v (spared vs rows) (r ∷ spared vs rows)

or_false : (a b : Bool) → (a || b) ≡ false → (a ≡ false) × (b ≡ false)
or_false true b e = absurd (false≢true (sym e))
or_false false b e = (refl, e)

pub or_right : (b v : Bool) → v ≡ true → (b || v) ≡ true
or_right true v e = refl
or_right false v e = e

not_true : (b : Bool) → not b ≡ true → b ≡ false
not_true true e = absurd (false≢true e)
not_true false e = refl

-- the first of distinct rows is none of the others
pub first_new : (r : List Value) (rows : List (List Value)) → is_distinct (r ∷ rows) ≡ true → (has rows r ≡ false) × (is_distinct rows ≡ true)
unfolding is_distinct
first_new r rows d = both (has rows r) refl (is_distinct rows) refl d
  where
    both : (h : Bool) → has rows r ≡ h → (v : Bool) → is_distinct rows ≡ v → (not h && v) ≡ true → (has rows r ≡ false) × (is_distinct rows ≡ true)
    both true w v u z = absurd (false≢true z)
    both false w true u z = (w, u)
    both false w false u z = absurd (false≢true z)

-- a member of the others differs from it
others_differ : (r q : List Value) (rows : List (List Value)) → has rows r ≡ false → has rows q ≡ true → is_eq (row_order r q) ≡ false
others_differ r q rows n h = elim (cases_Bool (is_eq (row_order r q))) [
  | inl e ↦ absurd (false≢true (sym n ∙ subst (λ (x : List Value). has rows x ≡ true) (sym ((row_order-Decides r q).0 e)) h))
  | inr e ↦ e
]

-- lists of cells that agree at each of the rows
cells_alike : (m m' : List Value → List CellData) (rows : List (List Value)) → ((q : List Value) → has rows q ≡ true → m q ≡ m' q) → cells_for m rows ≡ cells_for m' rows
unfolding cells_for has
cells_alike m m' [] f = refl
cells_alike m m' (r ∷ rows) f = λ i. f r (ap (λ (b : Bool). b || has rows r) ((row_order-Decides r r).1 refl)) i ++ cells_alike m m' rows (λ q h. f q (or_right (is_eq (row_order r q)) (has rows q) h)) i

spared_has : (vs : List Bool) (rows : List (List Value)) (q : List Value) → has (spared vs rows) q ≡ true → has rows q ≡ true
unfolding has
spared_has [] rows q h = h
spared_has (v ∷ vs) [] q h = h
spared_has (true ∷ vs) (r ∷ rows) q h = or_right (is_eq (row_order r q)) (has rows q) (spared_has vs rows q h)
spared_has (false ∷ vs) (r ∷ rows) q h = elim (cases_Bool (is_eq (row_order r q))) [
  | inl e ↦ ap (λ (b : Bool). b || has rows q) e
  | inr e ↦ or_right (is_eq (row_order r q)) (has rows q) (spared_has vs rows q (sym (ap (λ (b : Bool). b || has (spared vs rows) q) e) ∙ h))
]

abbrev row_list : List RowCells → List (List Value)
row_list xs = map (λ x. x.row) xs

here : (pick : RowCells → List CellData) (x : RowCells) (xs : List RowCells) (r : List Value) → is_eq (row_order x.row r) ≡ true → picked_cells pick (x ∷ xs) r ≡ pick x
unfolding picked_cells
here pick x xs r e = ap (λ (b : Bool). cond b (pick x) (picked_cells pick xs r)) e

there : (pick : RowCells → List CellData) (x : RowCells) (xs : List RowCells) (r : List Value) → is_eq (row_order x.row r) ≡ false → picked_cells pick (x ∷ xs) r ≡ picked_cells pick xs r
unfolding picked_cells
there pick x xs r e = ap (λ (b : Bool). cond b (pick x) (picked_cells pick xs r)) e

-- the parts of the rows that are left are those rows' cells, one row after another
parts_are : (pick : RowCells → List CellData) (xs : List RowCells) (vs : List Bool) → is_distinct (row_list xs) ≡ true → laid (but vs (map pick xs)) ≡ cells_for (picked_cells pick xs) (spared vs (row_list xs))
unfolding cells_for
parts_are pick [] [] d = refl
parts_are pick [] (v ∷ vs) d = refl
parts_are pick (x ∷ xs) [] d =
    (let n = first_new x.row (row_list xs) d in
    (λ i. sym (here pick x xs x.row ((row_order-Decides x.row x.row).1 refl)) i ++ parts_are pick xs [] n.1 i)
    ∙ ap (λ (l : List CellData). picked_cells pick (x ∷ xs) x.row ++ l) (cells_alike (picked_cells pick xs) (picked_cells pick (x ∷ xs)) (row_list xs) (λ q h. sym (there pick x xs q (others_differ x.row q (row_list xs) n.0 h)))))
parts_are pick (x ∷ xs) (true ∷ vs) d =
    (let n = first_new x.row (row_list xs) d in
    parts_are pick xs vs n.1 ∙ cells_alike (picked_cells pick xs) (picked_cells pick (x ∷ xs)) (spared vs (row_list xs)) (λ q h. sym (there pick x xs q (others_differ x.row q (row_list xs) n.0 (spared_has vs (row_list xs) q h)))))
parts_are pick (x ∷ xs) (false ∷ vs) d =
    (let n = first_new x.row (row_list xs) d in
    (ap (λ (l : List CellData). l ++ laid (but vs (map pick xs))) (sym (here pick x xs x.row ((row_order-Decides x.row x.row).1 refl)))
    ∙ ap (λ (l : List CellData). picked_cells pick (x ∷ xs) x.row ++ l) (parts_are pick xs vs n.1 ∙ cells_alike (picked_cells pick xs) (picked_cells pick (x ∷ xs)) (spared vs (row_list xs)) (λ q h. sym (there pick x xs q (others_differ x.row q (row_list xs) n.0 (spared_has vs (row_list xs) q h)))))))

-- 2. Rows on which another batch was pending

flagged_has : (vs : List Bool) (rows : List (List Value)) (q : List Value) → has (flagged vs rows) q ≡ true → has rows q ≡ true
unfolding has flagged
flagged_has [] rows q h = absurd (false≢true h)
flagged_has (v ∷ vs) [] q h = absurd (false≢true h)
flagged_has (false ∷ vs) (r ∷ rows) q h = or_right (is_eq (row_order r q)) (has rows q) (flagged_has vs rows q h)
flagged_has (true ∷ vs) (r ∷ rows) q h = elim (cases_Bool (is_eq (row_order r q))) [
  | inl e ↦ ap (λ (b : Bool). b || has rows q) e
  | inr e ↦ or_right (is_eq (row_order r q)) (has rows q) (flagged_has vs rows q (sym (ap (λ (b : Bool). b || has (flagged vs rows) q) e) ∙ h))
]

filter_alike : (p q : List Value → Bool) (rows : List (List Value)) → ((r : List Value) → has rows r ≡ true → p r ≡ q r) → filter p rows ≡ filter q rows
unfolding has
filter_alike p q [] f = refl
filter_alike p q (r ∷ rows) f = λ i. cond (f r (ap (λ (b : Bool). b || has rows r) ((row_order-Decides r r).1 refl)) i) (r ∷ filter_alike p q rows (λ z h. f z (or_right (is_eq (row_order r z)) (has rows z) h)) i) (filter_alike p q rows (λ z h. f z (or_right (is_eq (row_order r z)) (has rows z) h)) i)

off : (rows : List (List Value)) (r : List Value) (vs : List Bool) → has rows r ≡ false → has (flagged vs rows) r ≡ false
off rows r vs n = elim (cases_Bool (has (flagged vs rows) r)) [ inl e ↦ absurd (false≢true (sym n ∙ flagged_has vs rows r e)) | inr e ↦ e ]

-- those on which none was are the rows whose place isn't marked
unmet : (rows : List (List Value)) (vs : List Bool) → length vs ≡ length rows → is_distinct rows ≡ true → filter (λ r. not (has (flagged vs rows) r)) rows ≡ spared vs rows
unfolding has flagged
unmet [] [] l d = refl
unmet [] (v ∷ vs) l d = absurd (omega arith)
unmet (r ∷ rows) [] l d = absurd (omega arith)
unmet (r ∷ rows) (true ∷ vs) l d =
    (let n = first_new r rows d in
    let met : has (r ∷ flagged vs rows) r ≡ true = ap (λ (b : Bool). b || has (flagged vs rows) r) ((row_order-Decides r r).1 refl) in
    ap (λ (b : Bool). cond (not b) (r ∷ filter (λ q. not (has (r ∷ flagged vs rows) q)) rows) (filter (λ q. not (has (r ∷ flagged vs rows) q)) rows)) met
    ∙ (filter_alike (λ q. not (has (r ∷ flagged vs rows) q)) (λ q. not (has (flagged vs rows) q)) rows (λ q h. ap (λ (b : Bool). not (b || has (flagged vs rows) q)) (others_differ r q rows n.0 h))
    ∙ unmet rows vs (omega arith) n.1))
unmet (r ∷ rows) (false ∷ vs) l d =
    (let n = first_new r rows d in
    ap (λ (b : Bool). cond (not b) (r ∷ filter (λ q. not (has (flagged vs rows) q)) rows) (filter (λ q. not (has (flagged vs rows) q)) rows)) (off rows r vs n.0)
    ∙ ap (λ (l : List (List Value)). r ∷ l) (unmet rows vs (omega arith) n.1))

-- 3. What is handed out

same_cells : (cells : List CellData) (a b : List CellData) → a ≡ b → ReadsSame cells a → ReadsSame cells b
same_cells cells a b e s = subst (ReadsSame cells) e s

module _ (b : BatchData) (h : HeldBatch) (is : IsHeldAs b h) where
  distinct_cells : is_distinct (row_list h.cells) ≡ true
  distinct_cells = ap is_distinct is.rows ∙ is.distinct

  all_rows : row_list h.cells ≡ rows_of h.changes
  all_rows = is.rows ∙ ap rows_of (sym is.changes)

  whole : (pick : RowCells → List CellData) (parts : List (List CellData)) → parts ≡ map pick h.cells → laid parts ≡ cells_for (picked_cells pick h.cells) (rows_of h.changes)
  whole pick parts e = ap laid e ∙ (parts_are pick h.cells [] distinct_cells ∙ ap (cells_for (picked_cells pick h.cells)) all_rows)

  unmet_rows : spared b.met (row_list h.cells) ≡ to_verify h
  unmet_rows =
      ap (spared b.met) is.rows
      ∙ (sym (unmet (rows_of b.changes) b.met is.flags is.distinct)
      ∙ ((λ i. filter (λ r. not (sym (is.met r) i)) (rows_of (sym is.changes i)))))

  part : (pick : RowCells → List CellData) (parts : List (List CellData)) → parts ≡ map pick h.cells → laid (but b.met parts) ≡ cells_for (picked_cells pick h.cells) (to_verify h)
  part pick parts e = ap (λ (p : List (List CellData)). laid (but b.met p)) e ∙ (parts_are pick h.cells b.met distinct_cells ∙ ap (cells_for (picked_cells pick h.cells)) unmet_rows)

  pub marks_handed : (parts : List (List CellData)) (rest : List (List (List CellData))) → b.marks ≡ parts ∷ rest → (cells : List CellData) → IsHanded cells (laid parts) → ReadsSame cells (cells_for (picked_cells (λ x. get_or x.marks h.done []) h.cells) (rows_of h.changes))
  marks_handed parts rest e cells w =
      (let m : parts ≡ map (λ x. get_or x.marks h.done []) h.cells = ap (λ (l : List (List (List CellData))). get_or l 0 []) (sym e) ∙ (is.marks 0 (let n = ap length e in omega arith) ∙ ap (λ (n : ℕ). map (λ x. get_or x.marks n []) h.cells) (let z : h.done + 0 ≡ h.done = omega arith in z)) in
      same_cells cells (laid parts) _ (whole (λ x. get_or x.marks h.done []) parts m) w.reads)

  pub puts_handed : (parts : List (List CellData)) → b.puts ≡ Some parts → (cells : List CellData) → IsHanded cells (laid parts) → ReadsSame cells (cells_for (picked_cells (λ x. x.puts) h.cells) (rows_of h.changes))
  puts_handed parts e cells w = same_cells cells (laid parts) _ (whole (λ x. x.puts) parts (is.puts parts e)) w.reads

  pub closes_handed : (parts : List (List CellData)) (rest : List (List (List CellData))) → b.closes ≡ parts ∷ rest → (cells : List CellData) → IsHanded cells (laid (but b.met parts)) → ReadsSame cells (cells_for (picked_cells (λ x. get_or x.closes h.verified []) h.cells) (to_verify h))
  closes_handed parts rest e cells w =
      (let m : parts ≡ map (λ x. get_or x.closes h.verified []) h.cells = ap (λ (l : List (List (List CellData))). get_or l 0 []) (sym e) ∙ (is.closes 0 (let n = ap length e in omega arith) ∙ ap (λ (n : ℕ). map (λ x. get_or x.closes n []) h.cells) (let z : h.verified + 0 ≡ h.verified = omega arith in z)) in
      same_cells cells (laid (but b.met parts)) _ (part (λ x. get_or x.closes h.verified []) parts m) w.reads)

  -- 4. How the batch goes on

  pub marked : (parts : List (List CellData)) (rest : List (List (List CellData))) → b.marks ≡ parts ∷ rest → IsHeldAs (record b { marks = rest }) (record h { done = h.done + 1; verified = h.verified })
  marked parts rest e = record {
    stamp = is.stamp;
    changes = is.changes;
    rows = is.rows;
    distinct = is.distinct;
    flags = is.flags;
    met = is.met;
    written = is.written;
    to_mark = (let n = ap length e in let m = is.to_mark in omega arith);
    to_verify = is.to_verify;
    marks = λ k l.
        (let n = ap length e in
        ap (λ (p : List (List (List CellData))). get_or p (suc k) []) (sym e) ∙ (is.marks (suc k) (omega arith) ∙ ap (λ (n : ℕ). map (λ x. get_or x.marks n []) h.cells) (let z : h.done + suc k ≡ h.done + 1 + k = omega arith in z)));
    closes = is.closes;
    puts = is.puts;
  }

  pub verified : (parts : List (List CellData)) (rest : List (List (List CellData))) → b.closes ≡ parts ∷ rest → IsHeldAs (record b { closes = rest }) (record h { done = h.done; verified = h.verified + 1 })
  verified parts rest e = record {
    stamp = is.stamp;
    changes = is.changes;
    rows = is.rows;
    distinct = is.distinct;
    flags = is.flags;
    met = is.met;
    written = is.written;
    to_mark = is.to_mark;
    to_verify = (let n = ap length e in let m = is.to_verify in omega arith);
    marks = is.marks;
    closes = λ k l.
        (let n = ap length e in
        ap (λ (p : List (List (List CellData))). get_or p (suc k) []) (sym e) ∙ (is.closes (suc k) (omega arith) ∙ ap (λ (n : ℕ). map (λ x. get_or x.closes n []) h.cells) (let z : h.verified + suc k ≡ h.verified + 1 + k = omega arith in z)));
    puts = is.puts;
  }

  pub wrote : (parts : List (List CellData)) → b.puts ≡ Some parts → IsHeldAs (record b { puts = None }) (writes_rows h.stamp (rows_of h.changes) h)
  wrote parts e = record {
    stamp = is.stamp;
    changes = is.changes;
    rows = is.rows;
    distinct = is.distinct;
    flags = is.flags;
    met = is.met;
    written = λ r.
        ap (λ (v : Bool). has (cond v (h.written ++ rows_of h.changes) h.written) r) (same_stamp h.stamp)
        ∙ (has-append h.written (rows_of h.changes) r ∙ (ap (λ (v : Bool). v || has (rows_of h.changes) r) (is.written r ∙ ap (λ (o : Option (List (List CellData))). not (is_some o) && has (rows_of b.changes) r) e) ∙ ap (λ (cs : List Change). has (rows_of cs) r) is.changes));
    to_mark = is.to_mark;
    to_verify = is.to_verify;
    marks = is.marks;
    closes = is.closes;
    puts = λ p q. cc;
  }
    where
      same_stamp : (n : ℕ) → nat_eq n n ≡ true
      same_stamp n = eq-eqb n n refl

  pub other_wrote : (s : ℕ) (rows : List (List Value)) → (h.stamp ≡ s → ⊥) → IsHeldAs b (writes_rows s rows h)
  other_wrote s rows n = record {
    stamp = is.stamp;
    changes = is.changes;
    rows = is.rows;
    distinct = is.distinct;
    flags = is.flags;
    met = is.met;
    written = λ r. ap (λ (v : Bool). has (cond v (h.written ++ rows) h.written) r) differs ∙ is.written r;
    to_mark = is.to_mark;
    to_verify = is.to_verify;
    marks = is.marks;
    closes = is.closes;
    puts = is.puts;
  }
    where
      differs : nat_eq h.stamp s ≡ false
      differs = elim (cases_Bool (nat_eq h.stamp s)) [ inl e ↦ absurd (n (eqb-true h.stamp s e)) | inr e ↦ e ]

-- 5. Another batch begins

any_or : (cs : List Change) (p : Change → Bool) → AllByRecursion (λ c. p c ≡ false) cs → list_any p cs ≡ false
any_or [] p a = refl
any_or (c ∷ cs) p a = ap (λ (v : Bool). v || list_any p cs) a.0 ∙ any_or cs p a.1

all_written : (h : HeldBatch) (cs : List Change) → ((r : List Value) → has (rows_of cs) r ≡ true → has h.written r ≡ true) → AllByRecursion (λ c. not (has h.written c.row) ≡ false) cs
unfolding has
all_written h [] f = tt
all_written h (c ∷ cs) f = (ap not (f c.row (ap (λ (b : Bool). b || has (rows_of cs) c.row) ((row_order-Decides c.row c.row).1 refl))), all_written h cs (λ r m. f r (or_right (is_eq (row_order c.row r)) (has (rows_of cs) r) m)))

some_left : (h : HeldBatch) (c : Change) (cs : List Change) → has h.written c.row ≡ false → list_any (λ c. not (has h.written c.row)) (c ∷ cs) ≡ true
some_left h c cs e = ap (λ (v : Bool). not v || list_any (λ c. not (has h.written c.row)) cs) e

no_rows : (vs : List Bool) (r : List Value) → has (flagged vs []) r ≡ false
unfolding has flagged
no_rows [] r = refl
no_rows (v ∷ vs) r = refl

module _ (b : BatchData) (h : HeldBatch) (is : IsHeldAs b h) where
  -- a batch that has written is met no more
  gone : b.puts ≡ None → is_left h ≡ false
  gone e = any_or h.changes (λ c. not (has h.written c.row)) (all_written h h.changes (λ r m. is.written r ∙ (ap (λ (o : Option (List (List CellData))). not (is_some o) && has (rows_of b.changes) r) e ∙ (ap (λ (cs : List Change). has (rows_of cs) r) (sym is.changes) ∙ m))))

  none_left : (parts : List (List CellData)) → b.puts ≡ Some parts → is_left h ≡ false → (cs : List Change) → h.changes ≡ cs → cs ≡ []
  none_left parts e v [] q = refl
  none_left parts e v (c ∷ cs) q = absurd (false≢true (sym v ∙ (ap (λ (l : List Change). list_any (λ c. not (has h.written c.row)) l) q ∙ some_left h c cs (is.written c.row ∙ ap (λ (o : Option (List (List CellData))). not (is_some o) && has (rows_of b.changes) c.row) e))))

  module _ (others : List Change) where
    abbrev met_of : Option (List (List CellData)) → List Bool
    met_of o = if is_some o then meet_flags (rows_of others) b.met (rows_of b.changes) else b.met

    met_is : (o : Option (List (List CellData))) → b.puts ≡ o → (v : Bool) → is_left h ≡ v → (r : List Value) → has (with_met others h).met r ≡ has (flagged (met_of o) (rows_of b.changes)) r
    met_is None e true q r = absurd (false≢true (sym (gone e) ∙ q))
    met_is None e false q r = ap (λ (v : Bool). has (cond v (h.met ++ filter (λ r. is_some (change_of h.changes r)) (rows_of others)) h.met) r) q ∙ is.met r
    met_is (Some parts) e true q r =
        sym (flags_are others h b.met (is.flags ∙ ap (λ (cs : List Change). length (rows_of cs)) (sym is.changes)) (λ r. ap (λ (cs : List Change). has (flagged b.met (rows_of cs)) r) is.changes ∙ sym (is.met r)) q r)
        ∙ ap (λ (cs : List Change). has (flagged (meet_flags (rows_of others) b.met (rows_of cs)) (rows_of cs)) r) is.changes
    met_is (Some parts) e false q r =
        (let empty : b.changes ≡ [] = sym is.changes ∙ none_left parts e q h.changes refl in
        ap (λ (v : Bool). has (cond v (h.met ++ filter (λ r. is_some (change_of h.changes r)) (rows_of others)) h.met) r) q
        ∙ (is.met r ∙ (ap (λ (cs : List Change). has (flagged b.met (rows_of cs)) r) empty ∙ (no_rows b.met r ∙ (sym (no_rows (meet_flags (rows_of others) b.met []) r) ∙ ap (λ (cs : List Change). has (flagged (meet_flags (rows_of others) b.met (rows_of cs)) (rows_of cs)) r) (sym empty))))))

    flags_stay : (o : Option (List (List CellData))) → length (met_of o) ≡ length (rows_of b.changes)
    flags_stay None = is.flags
    flags_stay (Some parts) = meet_length (rows_of others) b.met (rows_of b.changes) ∙ is.flags

    pub met_held : IsHeldAs (record b { met = if is_some b.puts then meet_flags (rows_of others) b.met (rows_of b.changes) else b.met }) (with_met others h)
    met_held = record {
      stamp = is.stamp;
      changes = is.changes;
      rows = is.rows;
      distinct = is.distinct;
      flags = flags_stay b.puts;
      met = met_is b.puts refl (is_left h) refl;
      written = is.written;
      to_mark = is.to_mark;
      to_verify = is.to_verify;
      marks = is.marks;
      closes = is.closes;
      puts = is.puts;
    }
