-- The rows of a table at a point, and what an index has of them there.
use Rattle.std.proofs.Common.{ℕ, ◌≡◌, not, ◌&&◌, ◌||◌, nat_eq, eq-eqb, Bool, true, false, Option, None, Some, List, [], ◌∷◌, ◌++◌, map, get_or, refl, sym, ◌∙◌, ap, subst, inl, inr}
use Rattle.std.specs.List.{list_any}
use Rattle.std.specs.Ordering.{is_eq}
use Rattle.std.specs.Prelude.{slice_index_or}
use Rattle.std.proofs.lemmas.Cmp.{tied_itself}
use Rattle.px_values.specs.Order.{value_order}
use Rattle.px_values.specs.States.{RowState, Shape}
use Rattle.px_values.specs.declared.name.IndexId.{IndexId}
use Rattle.px_values.specs.declared.row.Value.{Value}
use Rattle.px_values.specs.declared.row.Value.TheVariants.{Null}
use Rattle.px_values.proofs.ValueOrder.{value_order_total}
use Rattle.px_keys.proofs.KeyOrders.{spelled_same}
use Rattle.px_tables.specs.declared.index.Index.{Index}
use Rattle.px_tables.specs.declared.table.KeyPlace.{KeyPlace}
use Rattle.px_tables.specs.declared.table.Table.{Table}
use Rattle.px_tables.specs.declared.table.TableColumn.{TableColumn}
use Rattle.px_paths.specs.Paths.{FitsRow, columns_on, index_path, is_held, is_keyed, key_on, key_part, shown_on, table_path, values_on}
use Rattle.px_paths.specs.declared.path.PathColumn.{PathColumn}
use Rattle.px_paths.proofs.Keys.{held_shown, index_key_fits, same_owner}
use Rattle.px_trail.specs.declared.entry.Entry.{Entry}
use Rattle.px_trail.specs.Answers.{IsAmong}
use Rattle.px_trail.specs.States.{key_in}
use Rattle.px_trail.specs.Trail.{Base, shape_of, table_shape}
use Rattle.px_calls.specs.declared.query.By.TheVariants as by
use Rattle.px_calls.specs.declared.query.Doubt.{Doubt}
use Rattle.px_calls.specs.declared.query.FoundKey.{FoundKey}
use Rattle.px_calls.specs.declared.query.FoundKey.TheVariants.{Sure, InDoubt}
use Rattle.px_calls.specs.declared.query.FoundRow.{FoundRow}
use Rattle.px_calls.specs.declared.query.Point.{Point}
use Rattle.px_calls.specs.Looks.{IsRightRow, IsRisingFrom, IsRowAt, found_by, index_path_in, key_by, key_found, key_less, row_at, shown_by, shown_in}
use Rattle.px_calls.specs.Requires.{index_of_found}
use Rattle.px_calls.proofs.Keys.{irreflexive}
use Rattle.px_verify.specs.declared.report.IndexEntry.{IndexEntry}
use Rattle.px_verify.specs.declared.report.Version.{Version}
use Rattle.px_verify.specs.declared.report.Version.TheVariants.{Verified}
use Rattle.px_verify.specs.Agreement.{ReportAgrees}
use Rattle.px_verify.specs.Lists.{HaveKeys, entries_of, entry_for, entry_on, values_in, version_found}
use Rattle.px_verify.specs.Looking.{AreDistinctRows, AreRowsAtPoint}
use Rattle.px_verify.specs.Reports.{is_at_entry, is_verified_version, is_wrong, key_of_version, report_of, same_key, same_values}
use Rattle.px_verify.specs.Rising.{AreApart, AreRisingVersions}
use Rattle.px_verify.proofs.Counts.{any-none, any-some, count-none, here, same-bytes, there}
use Rattle.px_verify.proofs.Looked.{Part, past-all, rising-rest}
use Rattle.px_verify.proofs.Ordered.{same-self}

-- 1. The rows that were found

pub rows_in : List FoundKey → List (List Value)
rows_in [] = []
rows_in (Sure f ∷ keys) = f.row ∷ rows_in keys
rows_in (InDoubt d ∷ keys) = rows_in keys

pub entries-are : (path : List PathColumn) (included : List ℕ) (keys : List FoundKey) → entries_of path included keys ≡ map (entry_on path included) (rows_in keys)
unfolding rows_in
entries-are path included [] = refl
entries-are path included (Sure f ∷ keys) = ap (λ (l : List IndexEntry). entry_on path included f.row ∷ l) (entries-are path included keys)
entries-are path included (InDoubt d ∷ keys) = entries-are path included keys

in-rows : (row : List Value) (keys : List FoundKey) → IsAmong row (rows_in keys) → (f : FoundRow) × IsAmong (Sure f) keys × (f.row ≡ row)
unfolding IsAmong rows_in
in-rows row [] h = absurd h
in-rows row (Sure f ∷ keys) (inl same) = (f, inl refl, same)
in-rows row (Sure f ∷ keys) (inr among) = let r = in-rows row keys among in (r.0, inr r.1, r.2)
in-rows row (InDoubt d ∷ keys) h = let r = in-rows row keys h in (r.0, inr r.1, r.2)

rows-in : (f : FoundRow) (keys : List FoundKey) → IsAmong (Sure f) keys → IsAmong f.row (rows_in keys)
unfolding IsAmong rows_in
rows-in f [] h = absurd h
rows-in f (Sure g ∷ keys) (inl same) = inl (let e : g ≡ f = cc in ap (λ (w : FoundRow). w.row) e)
rows-in f (Sure g ∷ keys) (inr among) = inr (rows-in f keys among)
rows-in f (InDoubt d ∷ keys) (inl same) = cc
rows-in f (InDoubt d ∷ keys) (inr among) = rows-in f keys among

map-among : {A C : Type 0} (f : A → C) (x : A) (xs : List A) → IsAmong x xs → IsAmong (f x) (map f xs)
unfolding IsAmong
map-among f x [] h = absurd h
map-among f x (y ∷ xs) (inl same) = inl (ap f same)
map-among f x (y ∷ xs) (inr among) = inr (map-among f x xs among)

among-map : {A C : Type 0} (f : A → C) (y : C) (xs : List A) → IsAmong y (map f xs) → (x : A) × IsAmong x xs × (f x ≡ y)
unfolding IsAmong
among-map f y [] h = absurd h
among-map f y (x ∷ xs) (inl same) = (x, inl refl, same)
among-map f y (x ∷ xs) (inr among) = let r = among-map f y xs among in (r.0, inr r.1, r.2)

-- the key and the row that a right key on a table's own path has
table-key : (b : Base) (es : List Entry) (p : Point) (f : FoundRow) → IsRightRow b es p by.Table f → IsRowAt b es p f.row × (f.key ≡ key_by p.found by.Table f.row)
table-key b es p f h =
    let row : f.row ≡ h.0 = ap (λ (w : FoundRow). w.row) h.2 in
    (subst (IsRowAt b es p) (sym row) h.1, ap (λ (w : FoundRow). w.key) h.2 ∙ ap (key_by p.found by.Table) (sym row))

less-self : (a c : List ℕ) → key_less a c ≡ true → c ≡ a → ⊥
less-self a c h same = let i = irreflexive a in let j : key_less a a ≡ true = subst (λ (w : List ℕ). key_less a w ≡ true) same h in let z : ◌≡◌ {A = Bool} true false = sym j ∙ i in cc

-- rows whose keys rise come once
once-each : (key : List Value → List ℕ) (c : Option (List ℕ)) (keys : List FoundKey) → IsRisingFrom c keys → ((f : FoundRow) → IsAmong (Sure f) keys → f.key ≡ key f.row) → AreDistinctRows (rows_in keys)
unfolding AreDistinctRows rows_in
once-each key c [] rising is = tt
once-each key c (Sure f ∷ keys) rising is = (
  (λ among.
      let r = in-rows f.row keys among in
      less-self f.key r.0.key (past-all (Some f.key) keys (rising-rest c (Sure f) keys rising) (Sure r.0) r.1)
      (is r.0 (there (Sure r.0) (Sure f) keys r.1) ∙ (ap key r.2 ∙ sym (is f (here (Sure f) keys))))),
  once-each key (Some f.key) keys (rising-rest c (Sure f) keys rising) (λ g among. is g (there (Sure g) (Sure f) keys among)),
)
once-each key c (InDoubt d ∷ keys) rising is = once-each key (Some d.key) keys (rising-rest c (InDoubt d) keys rising) (λ g among. is g (there (Sure g) (InDoubt d) keys among))

no_doubt : (d : Doubt) → by.Table ≡ by.Index d.index → ⊥
no_doubt d h = cc

-- what was found on the table's path are its rows at the point
pub rows-found : (sound : Type 0) (b : Base) (es : List Entry) (p : Point) (keys : List FoundKey) → Part sound b es p by.Table None keys → sound → AreRowsAtPoint b es p (rows_in keys)
rows-found sound b es p keys h is_sound = record {
  once = once-each (key_by p.found by.Table) None keys h.rising (λ f among. (table-key b es p f (h.right is_sound f among)).1);
  each = λ row. (
    (λ among. let r = in-rows row keys among in subst (IsRowAt b es p) r.2 (table-key b es p r.0 (h.right is_sound r.0 r.1)).0),
    (λ at. elim (h.shown is_sound row at refl) [
      | inl sure ↦ rows-in (found_by p.found by.Table row) keys sure
      | inr doubt ↦ absurd (no_doubt doubt.0 (h.doubts doubt.0 doubt.2).0)
    ]),
  );
}

-- 2. Rows and their index keys

key_values : (columns : List TableColumn) (key : List KeyPlace) (row : List Value) → map (λ c. slice_index_or row c Null) (map (λ p. p.column) key) ≡ values_on (map (key_part columns) key) row
key_values columns [] row = refl
key_values columns (p ∷ key) row = ap (λ vs. slice_index_or row p.column Null ∷ vs) (key_values columns key row)

one_of : (a c : List Value) (o : RowState) → o ≡ Some a → o ≡ Some c → a ≡ c
one_of a c o e f = let z : ◌≡◌ {A = RowState} (Some a) (Some c) = sym e ∙ f in cc

module _ (b : Base) (es : List Entry) (p : Point) (x : Index) (shape : shape_of b es p.table.0 ≡ table_shape p.found.table) (fits : (row : List Value) → IsRowAt b es p row → FitsRow p.found.table row) where
  abbrev t : Table
  t = p.found.table

  abbrev path : List PathColumn
  path = index_path p.found.table x

  own_key : (row : List Value) → key_in (shape_of b es p.table.0) row ≡ values_on (table_path p.found.table) row
  own_key row = ap (λ (s : Shape). key_in s row) shape ∙ key_values p.found.table.columns p.found.table.key row

  -- rows at the point with the same index key are the same
  same-row : (a c : List Value) → IsRowAt b es p a → IsRowAt b es p c → same_key (key_on path a) (key_on path c) ≡ true → a ≡ c
  same-row a c at_a at_c h =
      let bytes : key_on path a ≡ key_on path c = same-bytes (key_on path a) (key_on path c) h in
      let values = (spelled_same (columns_on path) (values_on path a) (values_on path c) [] [] (index_key_fits t x a (fits a at_a)) (index_key_fits t x c (fits c at_c)) (ap (λ (l : List ℕ). l ++ []) bytes)).0 in
      let key : key_in (shape_of b es p.table.0) a ≡ key_in (shape_of b es p.table.0) c = own_key a ∙ (same_owner t x a c values ∙ sym (own_key c)) in
      one_of a c (row_at b es p (key_in (shape_of b es p.table.0) a)) at_a (ap (row_at b es p) key ∙ at_c)

  apart_from : (row : List Value) (rows : List (List Value)) → (IsAmong row rows → ⊥) → IsRowAt b es p row → ((r : List Value) → IsAmong r rows → IsRowAt b es p r) → (other : IndexEntry) → IsAmong other (map (entry_for t x) rows) → same_key (key_on path row) other.key ≡ false
  apart_from row rows new at all other among = by_test (among-map (entry_for t x) other rows among) (same_key (key_on path row) other.key) refl
    where
      by_test : ((r : List Value) × IsAmong r rows × (entry_for p.found.table x r ≡ other)) → (v : Bool) → same_key (key_on (index_path p.found.table x) row) other.key ≡ v → same_key (key_on (index_path p.found.table x) row) other.key ≡ false
      by_test r false e = e
      by_test r true e =
          let key : same_key (key_on (index_path p.found.table x) row) (key_on (index_path p.found.table x) r.0) ≡ true = ap (λ (w : IndexEntry). same_key (key_on (index_path p.found.table x) row) w.key) r.2 ∙ e in
          absurd (new (subst (λ (w : List Value). IsAmong w rows) (sym (same-row row r.0 at (all r.0 r.1) key)) r.1))

  apart-all : (rows : List (List Value)) → AreDistinctRows rows → ((r : List Value) → IsAmong r rows → IsRowAt b es p r) → AreApart (map (entry_for t x) rows)
  unfolding AreDistinctRows AreApart
  apart-all [] once all = tt
  apart-all (row ∷ rows) once all = (
    apart_from row rows once.0 (all row (here row rows)) (λ r among. all r (there r row rows among)),
    apart-all rows once.1 (λ r among. all r (there r row rows among)),
  )

  -- the entries that the rows at the point ask for have different keys
  pub entries-apart : (rows : List (List Value)) → AreRowsAtPoint b es p rows → AreApart (map (entry_for t x) rows)
  entries-apart rows h = apart-all rows h.once (λ r among. (h.each r).0 among)

-- 3. What an index shows of a row

same_value_self : (v : Value) → is_eq (value_order v v) ≡ true
same_value_self v = ap is_eq (tied_itself value_order_total v)

same-values-self : (vs : List Value) → same_values vs vs ≡ true
same-values-self [] = refl
same-values-self (v ∷ vs) = ap (λ (w : Bool). w && same_values vs vs) (same_value_self v) ∙ same-values-self vs

or_right : (a c : Bool) → c ≡ true → (a || c) ≡ true
or_right true c h = refl
or_right false c h = h

included-held : (t : Table) (x : Index) (c : ℕ) → IsAmong c x.included → is_held t x c ≡ true
included-held t x c among = or_right (is_keyed x.parts c) _ (or_right (is_keyed t.key c) _ (any-some (λ d. nat_eq d c) c x.included among (eq-eqb c c refl)))

values-of : (t : Table) (x : Index) (row : List Value) (cs : List ℕ) → ((c : ℕ) → IsAmong c cs → is_held t x c ≡ true) → values_in cs (shown_on t x row) ≡ values_in cs row
values-of t x row [] held = refl
values-of t x row (c ∷ cs) held =
    ap (λ (v : Value). v ∷ values_in cs (shown_on t x row)) (held_shown t x row c (held c (here c cs)))
    ∙ ap (λ (vs : List Value). get_or row c Null ∷ vs) (values-of t x row cs (λ d among. held d (there d c cs among)))

-- what the index shows of a row has the row's included values
values-shown : (t : Table) (x : Index) (row : List Value) → values_in x.included (shown_on t x row) ≡ values_in x.included row
values-shown t x row = values-of t x row x.included (λ c among. included-held t x c among)

key-of-version : (included : List ℕ) (g : FoundKey) → key_of_version (version_found included g) ≡ key_found g
key-of-version included (Sure f) = refl
key-of-version included (InDoubt d) = refl

-- 4. Rows and versions

module _ (sound : Type 0) (b : Base) (es : List Entry) (p : Point) (i : IndexId) (x : Index) (is : index_of_found p.found i.0 ≡ Some x) (shape : shape_of b es p.table.0 ≡ table_shape p.found.table) (is_sound : sound) where
  module _ (rows : List (List Value)) (are : AreRowsAtPoint b es p rows) (keys : List FoundKey) (part : Part sound b es p (by.Index i) None keys) where
    key-is : (row : List Value) → key_by p.found (by.Index i) row ≡ key_on (index_path p.found.table x) row
    key-is row = ap (λ (o : Option Index). key_on (index_path_in p.found o) row) is

    shown-is : (row : List Value) → shown_by p.found (by.Index i) row ≡ shown_on p.found.table x row
    shown-is row = ap (λ (o : Option Index). shown_in p.found o row) is

    -- a version stands at the key of each row
    row-there : (row : List Value) → IsRowAt b es p row → list_any (λ v. is_at_entry v (entry_for p.found.table x row)) (map (version_found x.included) keys) ≡ true
    row-there row at = elim (part.shown is_sound row at refl) [
      | inl sure ↦ any-some (λ v. is_at_entry v (entry_for p.found.table x row)) (version_found x.included (Sure (found_by p.found (by.Index i) row))) (map (version_found x.included) keys) (map-among (version_found x.included) (Sure (found_by p.found (by.Index i) row)) keys sure)
          (ap (λ (k : List ℕ). same_key k (key_on (index_path p.found.table x) row)) (key-is row) ∙ same-self (key_on (index_path p.found.table x) row))
      | inr doubt ↦ any-some (λ v. is_at_entry v (entry_for p.found.table x row)) (version_found x.included (InDoubt doubt.0)) (map (version_found x.included) keys) (map-among (version_found x.included) (InDoubt doubt.0) keys doubt.2)
          (ap (λ (k : List ℕ). same_key k (key_on (index_path p.found.table x) row)) (doubt.1 ∙ key-is row) ∙ same-self (key_on (index_path p.found.table x) row))
    ]

    -- a verified version is what the index shows of a row
    sure-entry : (f : FoundRow) → IsAmong (Sure f) keys → (row : List Value) × IsRowAt b es p row × (version_found x.included (Sure f) ≡ Verified (entry_for p.found.table x row))
    sure-entry f among =
        let r = part.right is_sound f among in
        let key : f.key ≡ key_on (index_path p.found.table x) r.0 = ap (λ (w : FoundRow). w.key) r.2 ∙ key-is r.0 in
        let values : values_in x.included f.row ≡ values_in x.included r.0 = ap (values_in x.included) (ap (λ (w : FoundRow). w.row) r.2 ∙ shown-is r.0) ∙ values-shown p.found.table x r.0 in
        (r.0, r.1, ap (λ (k : List ℕ). Verified (record { key = k; values = values_in x.included f.row })) key ∙ ap (λ (vs : List Value). Verified (record { key = key_on (index_path p.found.table x) r.0; values = vs })) values)

    fits : (row : List Value) → IsRowAt b es p row → FitsRow p.found.table row
    fits row at = part.fits is_sound row at

    -- no verified version has other values than its row
    never-wrong : (row : List Value) → IsRowAt b es p row → (g : FoundKey) → IsAmong g keys → is_wrong (version_found x.included g) (entry_for p.found.table x row) ≡ false
    never-wrong row at (InDoubt d) among = refl
    never-wrong row at (Sure f) among =
        let s = sure-entry f among in
        subst (λ (v : Version). is_wrong v (entry_for p.found.table x row) ≡ false) (sym s.2) (by_key s.0 s.1 (same_key (key_on (index_path p.found.table x) s.0) (key_on (index_path p.found.table x) row)) refl)
      where
        by_key : (r : List Value) → IsRowAt b es p r → (v : Bool) → same_key (key_on (index_path p.found.table x) r) (key_on (index_path p.found.table x) row) ≡ v → is_wrong (Verified (entry_for p.found.table x r)) (entry_for p.found.table x row) ≡ false
        by_key r at_r false e = ap (λ (w : Bool). w && not (same_values (values_in x.included r) (values_in x.included row))) e
        by_key r at_r true e =
            let same : r ≡ row = same-row b es p x shape fits r row at_r at e in
            let values : same_values (values_in x.included r) (values_in x.included row) ≡ true = ap (λ (w : List Value). same_values (values_in x.included w) (values_in x.included row)) same ∙ same-values-self (values_in x.included row) in
            ap (λ (w : Bool). w && not (same_values (values_in x.included r) (values_in x.included row))) e ∙ ap not values

    -- a verified version has its row
    never-extra : (g : FoundKey) → IsAmong g keys → (is_verified_version (version_found x.included g) && not (list_any (λ row. is_at_entry (version_found x.included g) row) (map (entry_for p.found.table x) rows))) ≡ false
    never-extra (InDoubt d) among = refl
    never-extra (Sure f) among =
        let s = sure-entry f among in
        subst (λ (v : Version). (is_verified_version v && not (list_any (λ row. is_at_entry v row) (map (entry_for p.found.table x) rows))) ≡ false) (sym s.2)
        (ap not
        (any-some (λ row. is_at_entry (Verified (entry_for p.found.table x s.0)) row) (entry_for p.found.table x s.0) (map (entry_for p.found.table x) rows) (map-among (entry_for p.found.table x) s.0 rows ((are.each s.0).1 s.1))
        (same-self (key_on (index_path p.found.table x) s.0))))

    pub agrees : ReportAgrees (report_of (map (entry_for p.found.table x) rows) (map (version_found x.included) keys))
    agrees = record {
      missing = count-none (λ row. not (list_any (λ v. is_at_entry v row) (map (version_found x.included) keys))) (map (entry_for p.found.table x) rows)
          (λ e among. let r = among-map (entry_for p.found.table x) e rows among in subst (λ (w : IndexEntry). not (list_any (λ v. is_at_entry v w) (map (version_found x.included) keys)) ≡ false) r.2 (ap not (row-there r.0 ((are.each r.0).0 r.1))));
      extra = count-none (λ v. is_verified_version v && not (list_any (λ row. is_at_entry v row) (map (entry_for p.found.table x) rows))) (map (version_found x.included) keys)
          (λ v among. let g = among-map (version_found x.included) v keys among in subst (λ (w : Version). (is_verified_version w && not (list_any (λ row. is_at_entry w row) (map (entry_for p.found.table x) rows))) ≡ false) g.2 (never-extra g.0 g.1));
      wrong = count-none (λ row. list_any (λ v. is_wrong v row) (map (version_found x.included) keys)) (map (entry_for p.found.table x) rows)
          (λ e among.
          let r = among-map (entry_for p.found.table x) e rows among in
          any-none (λ v. is_wrong v e) (map (version_found x.included) keys)
          (λ v v_among.
          let g = among-map (version_found x.included) v keys v_among in
          subst (λ (w : Version). is_wrong w e ≡ false) g.2 (subst (λ (w : IndexEntry). is_wrong (version_found x.included g.0) w ≡ false) r.2 (never-wrong r.0 ((are.each r.0).0 r.1) g.0 g.1))));
    }

-- the versions' keys rise
pub versions-rise : (included : List ℕ) (c : Option (List ℕ)) (keys : List FoundKey) → IsRisingFrom c keys → AreRisingVersions (map (version_found included) keys)
unfolding AreRisingVersions
versions-rise included c [] h = tt
versions-rise included c (g ∷ keys) h = (
  (λ other among.
      let r = among-map (version_found included) other keys among in
      subst (λ (v : Version). key_less (key_of_version (version_found included g)) (key_of_version v) ≡ true) r.2
      (subst (λ (k : List ℕ). key_less k (key_of_version (version_found included r.0)) ≡ true) (sym (key-of-version included g))
      (subst (λ (k : List ℕ). key_less (key_found g) k ≡ true) (sym (key-of-version included r.0)) (past-all (Some (key_found g)) keys (rising-rest c g keys h) r.0 r.1)))),
  versions-rise included (Some (key_found g)) keys (rising-rest c g keys h),
)

-- each row that was found has a key in the index
pub found-fit : (sound : Type 0) (b : Base) (es : List Entry) (p : Point) (x : Index) (keys : List FoundKey) → Part sound b es p by.Table None keys → sound → HaveKeys (index_path p.found.table x) keys
found-fit sound b es p x keys h is_sound f among = index_key_fits p.found.table x f.row (h.fits is_sound f.row (table-key b es p f (h.right is_sound f among)).0)
