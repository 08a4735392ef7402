-- What is found at the keys of an index is what a look of its path shows.
use Rattle.std.proofs.Common.{◌≡◌, ℕ, ◌≤◌, Bool, true, false, ◌⊎◌, inl, inr, Option, Some, None, List, [], ◌++◌, length, refl, ap, sym, subst, ◌∙◌}
use Rattle.px_cells.specs.Contents.{Contents}
use Rattle.px_cells.specs.declared.kind.CellKind.TheVariants.{Put}
use Rattle.px_values.proofs.Equal.{row_order-Decides}
use Rattle.px_values.specs.Limits.{most_key}
use Rattle.px_values.specs.States.{RowState, Shape}
use Rattle.px_values.specs.declared.row.Value.{Value}
use Rattle.px_keys.specs.Spelling.{IsKeyOf}
use Rattle.px_keys.specs.Reading.{IsKey}
use Rattle.px_keys.proofs.KeyOrders.{spelled_same}
use Rattle.px_tables.specs.declared.index.Index.{Index}
use Rattle.px_tables.specs.declared.table.Table.{Table}
use Rattle.px_trail.specs.Answers.{IsAmong}
use Rattle.px_trail.specs.States.{key_in}
use Rattle.px_trail.specs.Trail.{Base, shape_of, table_shape}
use Rattle.px_trail.specs.declared.entry.Entry.{Entry}
use Rattle.px_paths.specs.Paths.{FitsRow, columns_on, index_path, key_on, shown_on, values_on}
use Rattle.px_rows.specs.Keys.{IsRightTable}
use Rattle.px_indexrow.proofs.KeysHeld.{form_laws}
use Rattle.px_indexrow.specs.Form.{IsRightIndex, included_bytes, key_of_state, owns, row_of_index}
use Rattle.px_calls.specs.Looks.{AreDoubtsOf, IsDoubtOf, IsRightRow, IsRowAt, IsRowShown, Shows, ShowsRows, columns_by, found_by, index_path_in, is_covered, is_on, is_past, key_by, key_found, row_at, shown_by, shown_in}
use Rattle.px_calls.specs.Requires.{index_of_found}
use Rattle.px_calls.specs.declared.query.By.{By}
use Rattle.px_calls.specs.declared.query.By.TheVariants.{Index as Indexed}
use Rattle.px_calls.specs.declared.query.Doubt.{Doubt}
use Rattle.px_calls.specs.declared.query.FoundKey.{FoundKey}
use Rattle.px_calls.specs.declared.query.FoundKey.TheVariants.{Sure, InDoubt}
use Rattle.px_calls.specs.declared.query.FoundRow.{FoundRow}
use Rattle.px_calls.specs.declared.query.Path.{Path}
use Rattle.px_calls.specs.declared.query.Point.{Point}
use Rattle.px_looks.specs.Found.{AreNext, at_key}
use Rattle.px_looks.specs.IndexKeys.{ShowsKey, found_of, found_with, shown_of_key}
use Rattle.px_looks.specs.Versions.{is_verified, stamp_seen, value_seen}
use Rattle.px_looks.proofs.Spelling.{seen_stands}
use Rattle.px_shown.specs.Told.{AreStates, TellsOf}
use Rattle.px_shown.proofs.RowsAt.{fits_state, index_fits, index_key, on_within, row_fits, row_state, some_same, state_row, within_on}
use Rattle.px_shown.proofs.ShownRows.{shown_is}

-- a key's own row
own_row : (t : Table) (x : Index) (k : List ℕ) → owns t x (row_of_index t x k) k ≡ true
unfolding owns
own_row t x k = (row_order-Decides (row_of_index t x k) (row_of_index t x k)).1 refl

key_row : (t : Table) (x : Index) (k : List ℕ) (r : List Value) (s : RowState) → key_of_state t x r s ≡ Some k → (row : List Value) × (s ≡ Some row)
key_row t x k r None e = absurd (let z : None ≡ Some k = e in cc)
key_row t x k r (Some row) e = (row, refl)

module _ (t : Table) (x : Index) (right : IsRightTable t) (index : IsRightIndex t x) (state : List Value → RowState) (states : AreStates t state) (g : Contents) (q : ℕ) (tells : TellsOf t x g q state) where
  -- a verified version shows its row
  sure_row : (k : List ℕ) (values : List Value) → IsKeyOf (columns_on (index_path t x)) values k → (s : ℕ) → stamp_seen (at_key g k) 1 q ≡ Some s → is_verified (g k 1 s Put) ≡ true → (r : List Value) → owns t x r k ≡ true
      → (row : List Value) × (state r ≡ Some row) × (key_on (index_path t x) row ≡ k) × (shown_of_key t x values (λ c. value_seen (at_key g k) c q) ≡ shown_on t x row)
  sure_row k values key s seen sure r mine =
      let told = tells.right k s seen sure r mine in
      let z = key_row t x k r (state r) told.0 in
      let row = z.0 in
      let is : key_on (index_path t x) row ≡ k = some_same (sym (index_key t state states x right index r row z.1) ∙ sym (ap (key_of_state t x r) z.1) ∙ told.0) in
      let same : values ≡ values_on (index_path t x) row = (spelled_same (columns_on (index_path t x)) values (values_on (index_path t x) row) [] [] key.fits (index_fits t state states x right index r row z.1) (ap (λ (l : List ℕ). l ++ []) (key.spells ∙ sym is))).0 in (
        row,
        z.1,
        is,
        ap (λ (vs : List Value). shown_of_key t x vs (λ c. value_seen (at_key g k) c q)) same
            ∙ shown_is t x row (fits_state t state states r row z.1) (λ c. value_seen (at_key g k) c q) (λ c l. told.1 c l ∙ ap (λ (o : RowState). included_bytes t x o c) z.1),
      )

-- ---- what is found at a key

-- what is found there, by the version that is seen
record Seen (t : Table) (x : Index) (q : ℕ) (k : List ℕ) (g : Contents) (f : FoundKey) : Type 0 where
  values : List Value
  key : IsKeyOf (columns_on (index_path t x)) values k
  stamp : ℕ
  seen : stamp_seen (at_key g k) 1 q ≡ Some stamp
  which : ((is_verified (g k 1 stamp Put) ≡ true) × (f ≡ Sure (record { key = k; row = shown_of_key t x values (λ c. value_seen (at_key g k) c q) }))) ⊎ (f ≡ InDoubt (record { index = x.id; key = k; stamp = stamp; verdict = None }))

module _ (t : Table) (x : Index) (q : ℕ) (k : List ℕ) (g : Contents) (f : FoundKey) where
  seen_from : ShowsKey t x q k (at_key g k) f → Seen t x q k g f
  seen_from a = by (stamp_seen (at_key g k) 1 q) refl a.is
    where
      pick : (s : ℕ) (v : Bool) → is_verified (g k 1 s Put) ≡ v → found_with t x k a.values (λ c. value_seen (at_key g k) c q) s v ≡ f
          → ((is_verified (g k 1 s Put) ≡ true) × (f ≡ Sure (record { key = k; row = shown_of_key t x a.values (λ c. value_seen (at_key g k) c q) }))) ⊎ (f ≡ InDoubt (record { index = x.id; key = k; stamp = s; verdict = None }))
      pick s true e h = inl (e, sym h)
      pick s false e h = inr (sym h)

      by : (o : Option ℕ) → stamp_seen (at_key g k) 1 q ≡ o → found_of t x k a.values (at_key g k) q o ≡ Some f → Seen t x q k g f
      by None is e = absurd (let z : None ≡ Some f = e in cc)
      by (Some s) is e = record { values = a.values; key = a.key; stamp = s; seen = is; which = pick s (is_verified (g k 1 s Put)) refl (some_same e) }

  -- what is found where a version is seen
  shows_at : (values : List Value) → IsKeyOf (columns_on (index_path t x)) values k → (s : ℕ) → stamp_seen (at_key g k) 1 q ≡ Some s → found_with t x k values (λ c. value_seen (at_key g k) c q) s (is_verified (g k 1 s Put)) ≡ f → ShowsKey t x q k (at_key g k) f
  shows_at values key s seen is = record { values = values; key = key; is = ap (found_of t x k values (at_key g k) q) seen ∙ ap (λ (z : FoundKey). Some z) is }

sure_same : (a b : FoundRow) → ◌≡◌ {A = FoundKey} (Sure a) (Sure b) → a ≡ b
sure_same a b e = cc

module _ (t : Table) (x : Index) (p : Point) (table : p.found.table ≡ t) (is : index_of_found p.found x.id.0 ≡ Some x) where
  pub columns : columns_by p.found (Indexed x.id) ≡ index_path t x
  columns = ap (index_path_in p.found) is ∙ ap (λ (z : Table). index_path z x) table

  pub key_is : (row : List Value) → key_by p.found (Indexed x.id) row ≡ key_on (index_path t x) row
  key_is row = ap (λ path. key_on path row) columns

  pub shows_is : (row : List Value) → shown_by p.found (Indexed x.id) row ≡ shown_on t x row
  shows_is row = ap (λ (o : Option Index). shown_in p.found o row) is ∙ ap (λ (z : Table). shown_on z x row) table

  -- a row with the key and what the index shows of it
  pub found_is : (row : List Value) (k : List ℕ) (shown : List Value) → key_on (index_path t x) row ≡ k → shown ≡ shown_on t x row → record { key = k; row = shown } ≡ found_by p.found (Indexed x.id) row
  found_is row k shown e h = (λ i. record { key = (sym e ∙ sym (key_is row)) i; row = (h ∙ sym (shows_is row)) i })

  module _ (g : Contents) (q : ℕ) where
    doubt_right : (k : List ℕ) (d : Doubt) → ShowsKey t x q k (at_key g k) (InDoubt d) → IsDoubtOf p.found (Indexed x.id) d
    doubt_right k d a =
        let z = seen_from t x q k g (InDoubt d) a in elim z.which [
          | inl h ↦ absurd (let w : ◌≡◌ {A = FoundKey} (InDoubt d) (Sure (record { key = k; row = shown_of_key t x z.values (λ c. value_seen (at_key g k) c q) })) = h.1 in cc)
          | inr h ↦
              (let same : d ≡ record { index = x.id; key = k; stamp = z.stamp; verdict = None } = doubt_same d _ h in
              (ap (λ (e : Doubt). Indexed e.index) (sym same), subst (λ (e : Doubt). IsKey most_key (columns_on (columns_by p.found (Indexed x.id))) e.key) (sym same) (subst (λ path. IsKey most_key (columns_on path) k) (sym columns) (z.values, z.key))))
        ]
      where
        doubt_same : (a b : Doubt) → ◌≡◌ {A = FoundKey} (InDoubt a) (InDoubt b) → a ≡ b
        doubt_same a b e = cc

    -- what is found is in order, on the path, and each doubt is of the index
    pub keys_shown : (path : Path) → path.by ≡ Indexed x.id → (after : Option (List ℕ)) (fs : List FoundKey) (next : Option (List ℕ)) → AreNext (ShowsKey t x q) g path.low path.high after fs next → Shows p path after fs next
    keys_shown path by after fs next n = record {
      rising = n.rising;
      sized = n.sized;
      last = n.last;
      on_path = λ f a. within_on path (key_found f) (n.right f a).0;
      covered = n.covered;
      doubts = subst (λ (z : By). AreDoubtsOf p.found z fs) (sym by) (λ d a. doubt_right d.key d (n.right (InDoubt d) a).1);
    }

module _ (t : Table) (x : Index) (right : IsRightTable t) (index : IsRightIndex t x) (state : List Value → RowState) (states : AreStates t state) (g : Contents) (q : ℕ) (tells : TellsOf t x g q state)
    (b : Base) (es : List Entry) (p : Point) (at : (r : List Value) → row_at b es p r ≡ state r) (shape : shape_of b es p.table.0 ≡ table_shape t) (table : p.found.table ≡ t) (is : index_of_found p.found x.id.0 ≡ Some x) where
  sure_right : (k : List ℕ) (f : FoundRow) → ShowsKey t x q k (at_key g k) (Sure f) → IsRightRow b es p (Indexed x.id) f
  sure_right k f a =
      let z = seen_from t x q k g (Sure f) a in elim z.which [
        | inl h ↦
            (let s = sure_row t x right index state states g q tells k z.values z.key z.stamp z.seen h.0 (row_of_index t x k) (own_row t x k) in
            (s.0, state_row t state states b es p at shape (row_of_index t x k) s.0 s.1, sure_same f (record { key = k; row = shown_of_key t x z.values (λ c. value_seen (at_key g k) c q) }) h.1 ∙ found_is t x p table is s.0 k (shown_of_key t x z.values (λ c. value_seen (at_key g k) c q)) s.2 s.3))
        | inr h ↦ absurd (let w : ◌≡◌ {A = FoundKey} (Sure f) (InDoubt (record { index = x.id; key = k; stamp = z.stamp; verdict = None })) = h in cc)
      ]

  module _ (short : (k : List ℕ) (s : ℕ) (v : List ℕ) → g k 1 s Put ≡ Some v → length k ≤ most_key) (path : Path) (by : path.by ≡ Indexed x.id) (after : Option (List ℕ)) (fs : List FoundKey) (next : Option (List ℕ)) (n : AreNext (ShowsKey t x q) g path.low path.high after fs next) where
    module _ (row : List Value) (h : IsRowAt b es p row) (on : is_on path (key_on (index_path t x) row) ≡ true) (past : is_past after (key_on (index_path t x) row) ≡ true) (covered : is_covered next (key_on (index_path t x) row) ≡ true) where
      abbrev k : List ℕ
      k = key_on (index_path t x) row

      abbrev r : List Value
      r = key_in (table_shape t) row

      stands : state r ≡ Some row
      stands = row_state t state states b es p at shape row h

      keyed : key_of_state t x r (state r) ≡ Some k
      keyed = ap (key_of_state t x r) stands ∙ index_key t state states x right index r row stands

      whole_by : (v : Bool) (s : ℕ) → stamp_seen (at_key g k) 1 q ≡ Some s → is_verified (g k 1 s Put) ≡ v → IsKeyOf (columns_on (index_path t x)) (values_on (index_path t x) row) k → IsRowShown fs p.found (Indexed x.id) row
      whole_by true s seen sure key =
          let values = values_on (index_path t x) row in
          let f : FoundRow = record { key = k; row = shown_of_key t x values (λ c. value_seen (at_key g k) c q) } in
          let z = sure_row t x right index state states g q tells k values key s seen sure r ((form_laws t x).owned r (state r) k keyed) in
          let same : z.0 ≡ row = some_same (sym z.1 ∙ stands) in
          let among = n.whole k (Sure f) (on_within path k on) past covered (shows_at t x q k g (Sure f) values key s seen (ap (found_with t x k values (λ c. value_seen (at_key g k) c q) s) sure)) in
          inl (subst (λ (e : FoundRow). IsAmong (Sure e) fs) (found_is t x p table is row k f.row refl (z.3 ∙ ap (shown_on t x) same)) among)
      whole_by false s seen sure key =
          let values = values_on (index_path t x) row in
          let d : Doubt = record { index = x.id; key = k; stamp = s; verdict = None } in
          inr (d, sym (key_is t x p table is row), n.whole k (InDoubt d) (on_within path k on) past covered (shows_at t x q k g (InDoubt d) values key s seen (ap (found_with t x k values (λ c. value_seen (at_key g k) c q) s) sure)))

      row_whole : IsRowShown fs p.found (Indexed x.id) row
      row_whole =
          let z = tells.whole r k keyed in
          let put = seen_stands g k 1 q z.0 z.1 in
          whole_by (is_verified (g k 1 z.0 Put)) z.0 z.1 refl (record { fits = index_fits t state states x right index r row stands; spells = refl; short = short k z.0 put.0 put.1 })

    pub keys_rows : ShowsRows b es p path after fs next
    keys_rows = record {
      right = λ f a. subst (λ (z : By). IsRightRow b es p z f) (sym by) (sure_right f.key f (n.right (Sure f) a).1);
      fits = λ row h. subst (λ (z : Table). FitsRow z row) (sym table) (row_fits t state states (key_in (table_shape t) row) row (row_state t state states b es p at shape row h));
      own = λ r row h. ap (λ (sh : Shape). key_in sh row) shape ∙ states.own r row (sym (at r) ∙ h);
      whole = λ row h. subst (λ (z : By). is_on path (key_by p.found z row) ≡ true → is_past after (key_by p.found z row) ≡ true → is_covered next (key_by p.found z row) ≡ true → IsRowShown fs p.found z row) (sym by)
          (subst (λ (k : List ℕ). is_on path k ≡ true → is_past after k ≡ true → is_covered next k ≡ true → IsRowShown fs p.found (Indexed x.id) row) (sym (key_is t x p table is row)) (row_whole row h));
    }
