-- The rows of a chunk, as they are given their base versions.
use Rattle.std.proofs.Common.{ℕ, ◌≡◌, ◌≢◌, ◌⊎◌, ◌||◌, Bool, true, false, Option, Some, List, [], ◌∷◌, ◌++◌, map, length, refl, sym, ◌∙◌, ap, subst, arith, inl, inr}
use Rattle.std.proofs.lemmas.Grind.{flat_map-append}
use Rattle.std.proofs.lemmas.List.{append-nil}
use Rattle.std.specs.List.{AllByRecursion}
use Rattle.std.specs.Ordering.{is_eq}
use Rattle.px_values.proofs.Equal.{row_order-Decides}
use Rattle.px_values.specs.Order.{row_order}
use Rattle.px_values.specs.declared.row.Value.{Value}
use Rattle.px_values.specs.declared.row.Value.TheVariants.{Null}
use Rattle.std.specs.Prelude.{slice_index_or}
use Rattle.px_tables.specs.declared.index.Index.{Index}
use Rattle.px_tables.specs.declared.table.KeyPlace.{KeyPlace}
use Rattle.px_tables.specs.declared.table.Table.{Table}
use Rattle.px_tables.specs.declared.table.TableColumn.{TableColumn}
use Rattle.px_keys.specs.Spelling.{spelled}
use Rattle.px_paths.specs.Paths.{FitsRow, columns_on, index_path, key_on, key_part, table_path, values_on}
use Rattle.px_trail.specs.Answers.{IsAmong}
use Rattle.px_trail.specs.Batches.{has, is_distinct}
use Rattle.px_trail.specs.States.{key_in}
use Rattle.px_trail.specs.Trail.{table_shape}
use Rattle.px_trail.proofs.Orders.{has-append}
use Rattle.px_calls.specs.declared.query.BaseRow.{BaseRow}
use Rattle.px_calls.specs.declared.query.FoundKey.{FoundKey}
use Rattle.px_calls.specs.declared.query.FoundKey.TheVariants.{Sure, InDoubt}
use Rattle.px_calls.specs.declared.query.FoundRow.{FoundRow}
use Rattle.px_calls.specs.Looks.{IsRisingFrom, key_less}
use Rattle.px_calls.specs.Requires.{IsBaseRowOf, base_owners}
use Rattle.px_calls.proofs.Keys.{irreflexive, transitive}
use Rattle.px_upkeep.specs.Rows.{AreBasesOf, ArePieces, gathered_then}
use Rattle.px_upkeep.specs.Turns.{chunk_owners, found_owners, piece_owners}

-- the values of a row's key in its table are those of its primary key
own_values : (columns : List TableColumn) (key : List KeyPlace) (row : List Value) → values_on (map (key_part columns) key) row ≡ map (λ c. slice_index_or row c Null) (map (λ p. p.column) key)
own_values columns [] row = refl
own_values columns (p ∷ key) row = ap (λ (l : List Value). slice_index_or row p.column Null ∷ l) (own_values columns key row)

-- rows with one primary key have one key in their table
same_key : (t : Table) (a b : List Value) → key_in (table_shape t) a ≡ key_in (table_shape t) b → key_on (table_path t) a ≡ key_on (table_path t) b
same_key t a b e = ap (spelled (columns_on (table_path t))) (own_values t.columns t.key a ∙ (e ∙ sym (own_values t.columns t.key b)))

or_true : (v w : Bool) → w ≡ true → (v || w) ≡ true
or_true true w h = refl
or_true false w h = h

sure_same : (a b : FoundRow) → ◌≡◌ {A = FoundKey} (Sure a) (Sure b) → a ≡ b
sure_same a b e = cc

module _ (t : Table) (x : Index) where
  abbrev Are : List FoundKey → List BaseRow → Type 0
  Are fs rs = AreBasesOf t.columns (table_path t) (index_path t x) fs rs

  pub rows-each : (fs : List FoundKey) (rs : List BaseRow) → Are fs rs → AllByRecursion (IsBaseRowOf t x) rs
  rows-each [] [] h = tt
  rows-each [] (r ∷ rs) h = absurd h
  rows-each (Sure f ∷ fs) [] h = absurd h
  rows-each (Sure f ∷ fs) (r ∷ rs) h =
      let a = h.0 in (
        record {
          fits = subst (FitsRow t) (sym a.row) (record { types = a.types; key = a.fits });
          key = ap (key_on (index_path t x)) a.row ∙ a.key;
          short = a.short;
        },
        rows-each fs rs h.1,
      )
  rows-each (InDoubt d ∷ fs) [] h = absurd h
  rows-each (InDoubt d ∷ fs) (r ∷ rs) h = absurd h

  pub rows-count : (fs : List FoundKey) (rs : List BaseRow) → Are fs rs → length rs ≡ length fs
  rows-count [] [] h = refl
  rows-count [] (r ∷ rs) h = absurd h
  rows-count (Sure f ∷ fs) [] h = absurd h
  rows-count (Sure f ∷ fs) (r ∷ rs) h = (let n = rows-count fs rs h.1 in omega (arith, n))
  rows-count (InDoubt d ∷ fs) [] h = absurd h
  rows-count (InDoubt d ∷ fs) (r ∷ rs) h = absurd h

  -- none of the rows behind a key has the row's primary key
  not_among : (own low : List ℕ) → ((k : List ℕ) → key_less low k ≡ true → key_less own k ≡ true) → (fs : List FoundKey) (rs : List BaseRow) (row : List Value) → IsRisingFrom (Some low) fs → Are fs rs → key_on (table_path t) row ≡ own
      → has (base_owners t rs) (key_in (table_shape t) row) ≡ false
  unfolding has IsRisingFrom
  not_among own low up [] [] row rising h is = refl
  not_among own low up [] (r ∷ rs) row rising h is = absurd h
  not_among own low up (Sure f ∷ fs) [] row rising h is = absurd h
  not_among own low up (InDoubt d ∷ fs) [] row rising h is = absurd h
  not_among own low up (InDoubt d ∷ fs) (r ∷ rs) row rising h is = absurd h
  not_among own low up (Sure f ∷ fs) (r ∷ rs) row rising h is =
      let rest = not_among own f.key (λ k less. transitive own f.key k (up f.key rising.0) less) fs rs row rising.1 h.1 is in
      elim (is_eq (row_order (key_in (table_shape t) r.row) (key_in (table_shape t) row))) as (λ v. is_eq (row_order (key_in (table_shape t) r.row) (key_in (table_shape t) row)) ≡ v → (v || has (base_owners t rs) (key_in (table_shape t) row)) ≡ false) [
        | true ↦ λ e.
            (let same = (row_order-Decides (key_in (table_shape t) r.row) (key_in (table_shape t) row)).0 e in
            let key : f.key ≡ own = sym h.0.found ∙ (ap (key_on (table_path t)) (sym h.0.row) ∙ (same_key t r.row row same ∙ is)) in
            let less : key_less own f.key ≡ true = up f.key rising.0 in
            let no : key_less own own ≡ true = subst (λ (k : List ℕ). key_less own k ≡ true) key less in
            let never = irreflexive own in
            cc)
        | false ↦ λ e. rest
      ] refl

  -- rows whose keys rise have different primary keys
  pub rows-distinct : (low : Option (List ℕ)) (fs : List FoundKey) (rs : List BaseRow) → IsRisingFrom low fs → Are fs rs → is_distinct (base_owners t rs) ≡ true
  unfolding is_distinct IsRisingFrom
  rows-distinct low [] [] rising h = refl
  rows-distinct low [] (r ∷ rs) rising h = absurd h
  rows-distinct low (Sure f ∷ fs) [] rising h = absurd h
  rows-distinct low (InDoubt d ∷ fs) [] rising h = absurd h
  rows-distinct low (InDoubt d ∷ fs) (r ∷ rs) rising h = absurd h
  rows-distinct low (Sure f ∷ fs) (r ∷ rs) rising h =
      let none = not_among f.key f.key (λ k less. less) fs rs r.row rising.1 h.1 (ap (key_on (table_path t)) h.0.row ∙ h.0.found) in
      let rest = rows-distinct (Some f.key) fs rs rising.1 h.1 in
      rw none rest

  -- their primary keys are those of the rows that were found
  pub rows-owners : (fs : List FoundKey) (rs : List BaseRow) → Are fs rs → base_owners t rs ≡ found_owners t fs
  rows-owners [] [] h = refl
  rows-owners [] (r ∷ rs) h = absurd h
  rows-owners (Sure f ∷ fs) [] h = absurd h
  rows-owners (InDoubt d ∷ fs) [] h = absurd h
  rows-owners (InDoubt d ∷ fs) (r ∷ rs) h = absurd h
  rows-owners (Sure f ∷ fs) (r ∷ rs) h = (let rest = rows-owners fs rs h.1 in λ j. key_in (table_shape t) (h.0.row j) ∷ rest j)

  -- what holds of each row that was found holds of each of them
  pub rows-all : (P : List Value → Type 0) (fs : List FoundKey) (rs : List BaseRow) → ((f : FoundRow) → IsAmong (Sure f) fs → P f.row) → Are fs rs → AllByRecursion (λ (r : BaseRow). P r.row) rs
  unfolding IsAmong
  rows-all P [] [] on h = tt
  rows-all P [] (r ∷ rs) on h = absurd h
  rows-all P (Sure f ∷ fs) [] on h = absurd h
  rows-all P (InDoubt d ∷ fs) [] on h = absurd h
  rows-all P (InDoubt d ∷ fs) (r ∷ rs) on h = absurd h
  rows-all P (Sure f ∷ fs) (r ∷ rs) on h = (subst P (sym h.0.row) (on f (inl refl)), rows-all P fs rs (λ g among. on g (inr among)) h.1)

no_key : (f : FoundKey) (fs : List FoundKey) → f ∷ fs ≡ [] → ⊥
no_key f fs e = cc

-- what holds of each of two lists holds of each of both
pub all-behind : {A : Type 0} (P : A → Type 0) (xs ys : List A) → AllByRecursion P xs → AllByRecursion P ys → AllByRecursion P (xs ++ ys)
all-behind P [] ys a b = b
all-behind P (x ∷ xs) ys a b = (a.0, all-behind P xs ys a.1 b)

pub all-parts : {A : Type 0} (P : A → Type 0) (xs ys : List A) → AllByRecursion P (xs ++ ys) → AllByRecursion P xs × AllByRecursion P ys
all-parts P [] ys all = (tt, all)
all-parts P (x ∷ xs) ys all = (let rest = all-parts P xs ys all.1 in ((all.0, rest.0), rest.1))

-- a row that was found is among them
pub found-among : (t : Table) (g : FoundRow) (fs : List FoundKey) → IsAmong (Sure g) fs → has (found_owners t fs) (key_in (table_shape t) g.row) ≡ true
unfolding has IsAmong
found-among t g [] among = absurd among
found-among t g (InDoubt d ∷ fs) (inl e) = (let z : ◌≡◌ {A = FoundKey} (InDoubt d) (Sure g) = e in cc)
found-among t g (InDoubt d ∷ fs) (inr among) = found-among t g fs among
found-among t g (Sure f ∷ fs) (inl e) =
    let same : f.row ≡ g.row = ap (λ (z : FoundRow). z.row) (sure_same f g e) in
    let is : is_eq (row_order (key_in (table_shape t) f.row) (key_in (table_shape t) g.row)) ≡ true = (row_order-Decides (key_in (table_shape t) f.row) (key_in (table_shape t) g.row)).1 (ap (key_in (table_shape t)) same) in
    ap (λ (v : Bool). v || has (found_owners t fs) (key_in (table_shape t) g.row)) is
found-among t g (Sure f ∷ fs) (inr among) = or_true (is_eq (row_order (key_in (table_shape t) f.row) (key_in (table_shape t) g.row))) (has (found_owners t fs) (key_in (table_shape t) g.row)) (found-among t g fs among)

-- the primary keys of the rows of chunks, with one more chunk
pub owners-then : (t : Table) (cs : List (List FoundKey)) (fs : List FoundKey) → chunk_owners t (gathered_then cs fs) ≡ chunk_owners t cs ++ found_owners t fs
owners-then t cs [] = sym (append-nil (chunk_owners t cs))
owners-then t cs (f ∷ fs) = flat_map-append (found_owners t) cs ((f ∷ fs) ∷ []) ∙ ap (λ (l : List (List Value)). chunk_owners t cs ++ l) (append-nil (found_owners t (f ∷ fs)))

-- what holds of each chunk holds with one more
pub chunks-then : (P : List FoundKey → Type 0) (cs : List (List FoundKey)) (fs : List FoundKey) → AllByRecursion P cs → (fs ≢ [] → P fs) → AllByRecursion P (gathered_then cs fs)
chunks-then P cs [] all one = all
chunks-then P cs (f ∷ fs) all one = all-behind P cs ((f ∷ fs) ∷ []) all (one (λ e. no_key f fs e), tt)

-- one of two lists that were put together has the row
pub has-parts : (xs ys : List (List Value)) (r : List Value) → has (xs ++ ys) r ≡ true → (has xs r ≡ true) ⊎ (has ys r ≡ true)
has-parts xs ys r h = by_first (has xs r) (has ys r) (sym (has-append xs ys r) ∙ h)
  where
    by_first : (v w : Bool) → (v || w) ≡ true → (v ≡ true) ⊎ (w ≡ true)
    by_first true w e = inl refl
    by_first false w e = inr e

pub has-front : (xs ys : List (List Value)) (r : List Value) → has xs r ≡ true → has (xs ++ ys) r ≡ true
has-front xs ys r h = has-append xs ys r ∙ ap (λ (v : Bool). v || has ys r) h

pub has-behind : (xs ys : List (List Value)) (r : List Value) → has ys r ≡ true → has (xs ++ ys) r ≡ true
has-behind xs ys r h = has-append xs ys r ∙ or_true (has xs r) (has ys r) h

-- the rows of pieces have the primary keys of those that were found in the chunks
pub pieces-owners : (t : Table) (x : Index) (cs : List (List FoundKey)) (ps : List (List BaseRow)) → ArePieces t.columns (table_path t) (index_path t x) cs ps → piece_owners t ps ≡ chunk_owners t cs
pieces-owners t x [] [] h = refl
pieces-owners t x [] (p ∷ ps) h = absurd h
pieces-owners t x (fs ∷ cs) [] h = absurd h
pieces-owners t x (fs ∷ cs) (p ∷ ps) h = (let rest = pieces-owners t x cs ps h.1 in let first = rows-owners t x fs p h.0 in λ j. first j ++ rest j)

-- the primary keys of pieces of which the last is taken first
pub owners-last : (t : Table) (ps : List (List BaseRow)) (xs : List BaseRow) (r : List Value) → has (piece_owners t (ps ++ xs ∷ [])) r ≡ true → has (base_owners t xs ++ piece_owners t ps) r ≡ true
owners-last t ps xs r h =
    let all : piece_owners t (ps ++ xs ∷ []) ≡ piece_owners t ps ++ base_owners t xs = flat_map-append (base_owners t) ps (xs ∷ []) ∙ ap (λ (l : List (List Value)). piece_owners t ps ++ l) (append-nil (base_owners t xs)) in
    elim (has-parts (piece_owners t ps) (base_owners t xs) r (subst (λ (l : List (List Value)). has l r ≡ true) all h)) [
      | inl a ↦ has-behind (base_owners t xs) (piece_owners t ps) r a
      | inr b ↦ has-front (base_owners t xs) (piece_owners t ps) r b
    ]

-- one of the chunks is among them
pub one-among : (P : List FoundKey → Type 0) (cs : List (List FoundKey)) (fs : List FoundKey) → AllByRecursion P cs → IsAmong fs cs → P fs
unfolding IsAmong
one-among P [] fs all among = absurd among
one-among P (c ∷ cs) fs all (inl e) = subst P e all.0
one-among P (c ∷ cs) fs all (inr more) = one-among P cs fs all.1 more
