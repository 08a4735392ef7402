-- Each row that the table has at the birth is based in the end: what a look, a call of `base` and the end of the path make of the rows that were read.
use Rattle.std.proofs.Common.{ℕ, ◌≡◌, ◌≢◌, ◌≤◌, not, Bool, true, false, Option, None, Some, List, [], ◌∷◌, ◌++◌, ◌⊎◌, length, refl, sym, ◌∙◌, ap, subst, arith, inl, inr}
use Rattle.std.specs.List.{AllByRecursion}
use Rattle.px_values.specs.States.{RowState, Shape}
use Rattle.px_values.specs.declared.name.IndexId.{IndexId}
use Rattle.px_values.specs.declared.name.TableId.{TableId}
use Rattle.px_values.specs.declared.row.Value.{Value}
use Rattle.px_tables.specs.declared.index.Index.{Index}
use Rattle.px_tables.specs.declared.table.Table.{Table}
use Rattle.px_paths.specs.Paths.{index_path, table_path}
use Rattle.px_trail.specs.Answers.{IsAmong}
use Rattle.px_trail.specs.Batches.{IsDecided, has}
use Rattle.px_trail.specs.States.{key_in, state_of}
use Rattle.px_trail.specs.Trail.{shape_of, table_shape}
use Rattle.px_calls.specs.declared.definition.Definition.TheVariants as d
use Rattle.px_calls.specs.declared.query.BaseRow.{BaseRow}
use Rattle.px_calls.specs.declared.query.By.{By}
use Rattle.px_calls.specs.declared.query.By.TheVariants as by
use Rattle.px_calls.specs.declared.query.Doubt.{Doubt}
use Rattle.px_calls.specs.declared.query.FoundKey.{FoundKey}
use Rattle.px_calls.specs.declared.query.FoundKey.TheVariants.{Sure, InDoubt}
use Rattle.px_calls.specs.declared.query.FoundRow.{FoundRow}
use Rattle.px_calls.specs.declared.query.Path.{Path}
use Rattle.px_calls.specs.declared.query.Point.{Point}
use Rattle.px_calls.specs.Calls.{DidBase}
use Rattle.px_calls.specs.Known.{Known}
use Rattle.px_calls.specs.Looks.{IsRowAt, IsSized, Shows, ShowsRows, found_by, is_covered, is_on, is_past, key_by, key_less, row_at}
use Rattle.px_calls.specs.Requires.{CanActivate, CanDefine, MayActivate, MayBase, base_owners, is_based}
use Rattle.px_calls.proofs.Activates.{some_index}
use Rattle.px_calls.proofs.Bases.{did_based}
use Rattle.px_gather.proofs.Shapes.{shape-of-table}
use Rattle.px_upkeep.specs.Rows.{AreBasesOf, ArePieces, HasLong, gathered_then}
use Rattle.px_upkeep.specs.Turns.{AreBased, AreOwn, HadLongRow, IsBuilding, IsFoundAt, IsPiece, IsWhole, WasFound, chunk_owners, found_owners, is_read, key_at_point, owner_at, state_at_point}
use Rattle.px_upkeep.proofs.Chunks.{found-among, has-behind, has-front, has-parts, owners-then, rows-all, rows-count, rows-distinct, rows-each}
use Rattle.px_upkeep.proofs.Growing.{Grown, building-stays, core, rows-based-stay}

-- 1. The end of the path

is_empty : (v : Bool) → (false ≡ true) → v ≡ true
is_empty v h = cc

module _ (sound : Type 0) (k : Known) (t : TableId) (i : IndexId) (p : Point) (x : Index) (h : IsBuilding sound k t i p x) where
  none_among : (r : List Value) → has [] r ≡ true → is_based k.seen i.0 r ≡ true
  unfolding has
  none_among r e = is_empty (is_based k.seen i.0 r) e

  -- with each row of the table read, the index may become active
  pub activates : (sound → AreBased k i p (λ key. true) []) → (sound → AreOwn k p) → CanDefine sound k (d.Active t i)
  activates based own =
      let c : MayBase sound k p i.0 [] = core sound k t i p x h in
      subst (λ (u : TableId). MayActivate sound k u.0 i.0) h.held.table (record {
        index = c.index_drawn;
        table = c.table_drawn;
        each = λ y is of. subst (λ (z : Index). CanActivate sound k p.table.0 i.0 z) (some_index (sym c.index_is ∙ is)) (record {
          state = c.state;
          stamp = p.stamp;
          below = (let b = c.birth in omega (arith, b));
          known = (let b = c.birth in let u = c.known in omega (arith, b, u));
          guarded = h.held.is_open;
          low = (let b = c.birth in let u = c.low in omega (arith, b, u));
          decided = subst (λ (n : ℕ). IsDecided k.seen p.table.0 n) (sym c.birth) c.decided;
          based = λ s r some. by_state s r (state_at_point k p r) refl (λ none. some (ap (state_of k.base k.seen p.table.0 r) c.birth ∙ none));
        });
      })
    where
      by_state : sound → (r : List Value) (o : RowState) → state_at_point k p r ≡ o → (o ≡ None → ⊥) → is_based k.seen i.0 r ≡ true
      by_state s r None is some = absurd (some refl)
      by_state s r (Some row) is some =
          let e = own s r row is in
          elim (based s row (ap (state_at_point k p) e ∙ is) refl) [
            | inl was ↦ subst (λ (q : List Value). is_based k.seen i.0 q ≡ true) e was
            | inr among ↦ none_among r (subst (λ (q : List Value). has [] q ≡ true) e among)
          ]

  -- 2. What a look shows

  shape_is : shape_of k.base k.seen p.table.0 ≡ table_shape p.found.table
  shape_is = shape-of-table k.base k.seen p.table.0 p.found.table h.table_is

  at_scn : (r : List Value) → row_at k.base k.seen p r ≡ state_at_point k p r
  at_scn r = rw h.held.scn refl

  row_is : (row : List Value) → IsRowAt k.base k.seen p row → state_at_point k p (owner_at p row) ≡ Some row
  row_is row a = sym (at_scn (owner_at p row)) ∙ subst (λ (s : Shape). row_at k.base k.seen p (key_in s row) ≡ Some row) shape_is a

  is_row : (row : List Value) → state_at_point k p (owner_at p row) ≡ Some row → IsRowAt k.base k.seen p row
  is_row row a = subst (λ (s : Shape). row_at k.base k.seen p (key_in s row) ≡ Some row) (sym shape_is) (at_scn (owner_at p row) ∙ a)

  never_less : (key : List ℕ) → not (key_less key []) ≡ true
  never_less [] = refl
  never_less (b ∷ key) = refl

  on_whole : (path : Path) → IsWhole path → (key : List ℕ) → is_on path key ≡ true
  on_whole path w key = rw (w.low, w.high) (rw (never_less key) refl)

  by_read : (v : Bool) (last : List ℕ) (key : List ℕ) → key_less last key ≡ v → (is_read (Some last) key ≡ true) ⊎ (is_past (Some last) key ≡ true)
  by_read true last key e = inr e
  by_read false last key e = inl (rw e refl)

  read_or_past : (after : Option (List ℕ)) (key : List ℕ) → (is_read after key ≡ true) ⊎ (is_past after key ≡ true)
  read_or_past None key = inr refl
  read_or_past (Some last) key = by_read (key_less last key) last key refl

  module _ (path : Path) (whole : IsWhole path) (after : Option (List ℕ)) (fs : List FoundKey) (next : Option (List ℕ)) (shows : Shows p path after fs next) where
    no_doubt : (g : Doubt) → IsAmong (InDoubt g) fs → ⊥
    no_doubt g among = (let e = (shows.doubts g among).0 in let w = whole.by in let z : by.Table ≡ by.Index g.index = sym w ∙ e in cc)

    rows_own : ShowsRows k.base k.seen p path after fs next → AreOwn k p
    rows_own s r row is = subst (λ (sh : Shape). key_in sh row ≡ r) shape_is (s.own r row (at_scn r ∙ is))

    right_row : ShowsRows k.base k.seen p path after fs next → (f : FoundRow) → IsAmong (Sure f) fs → state_at_point k p (owner_at p f.row) ≡ Some f.row
    right_row s f among =
        let r = s.right f among in
        let same : f.row ≡ r.0 = ap (λ (z : FoundRow). z.row) r.2 ∙ ap (λ (z : By). Rattle.px_calls.specs.Looks.shown_by p.found z r.0) whole.by in
        subst (λ (row : List Value). state_at_point k p (owner_at p row) ≡ Some row) (sym same) (row_is r.0 r.1)

    shown_row : ShowsRows k.base k.seen p path after fs next → (row : List Value) → state_at_point k p (owner_at p row) ≡ Some row → is_past after (key_at_point p row) ≡ true → is_covered next (key_at_point p row) ≡ true
        → has (found_owners p.found.table fs) (owner_at p row) ≡ true
    shown_row s row is past covered =
        let key : key_by p.found path.by row ≡ key_at_point p row = ap (λ (z : By). key_by p.found z row) whole.by in
        let given = s.whole row (is_row row is) (on_whole path whole (key_by p.found path.by row)) (ap (is_past after) key ∙ past) (ap (is_covered next) key ∙ covered) in
        elim given [
          | inl among ↦ (let f = found_by p.found path.by row in
              let same : f.row ≡ row = ap (λ (z : By). Rattle.px_calls.specs.Looks.shown_by p.found z row) whole.by in
              subst (λ (q : List Value). has (found_owners p.found.table fs) (owner_at p q) ≡ true) same (found-among p.found.table f fs among))
          | inr doubt ↦ absurd (no_doubt doubt.0 doubt.2)
        ]

    -- the rows that were read before are based or gathered, and so are those of the chunk
    pub looked : (cs : List (List FoundKey)) → (sound → ShowsRows k.base k.seen p path after fs next) → (sound → AreBased k i p (is_read after) (chunk_owners p.found.table cs)) → sound
        → AreBased k i p (is_covered next) (chunk_owners p.found.table (gathered_then cs fs))
    looked cs rows before s row is covered =
        let owners = chunk_owners p.found.table cs in
        let here = found_owners p.found.table fs in
        let all = sym (owners-then p.found.table cs fs) in
        let among : has (owners ++ here) (owner_at p row) ≡ true → has (chunk_owners p.found.table (gathered_then cs fs)) (owner_at p row) ≡ true = λ h. subst (λ (l : List (List Value)). has l (owner_at p row) ≡ true) all h in
        elim (read_or_past after (key_at_point p row)) [
          | inl read ↦ (elim (before s row is read) [
            | inl was ↦ inl was
            | inr found ↦ inr (among (has-front owners here (owner_at p row) found))
          ])
          | inr past ↦ inr (among (has-behind owners here (owner_at p row) (shown_row (rows s) row is past covered)))
        ]

    sized : (n : Option (List ℕ)) → IsSized fs n → length fs ≤ 64
    sized None e = e
    sized (Some last) e = omega (arith, e)

    pub looked-found : (sound → ShowsRows k.base k.seen p path after fs next) → fs ≢ [] → IsFoundAt sound k p fs
    looked-found rows some = record {
      past = after;
      rising = shows.rising;
      some = some;
      few = sized next shows.sized;
      there = λ s. right_row (rows s);
    }

    pub looked-own : (sound → ShowsRows k.base k.seen p path after fs next) → sound → AreOwn k p
    looked-own rows s = rows_own (rows s)

  -- 3. What is made of a chunk

  module _ (fs : List FoundKey) (found : IsFoundAt sound k p fs) where
    -- its rows with their keys in the index
    pub found-piece : (rs : List BaseRow) → AreBasesOf p.found.table.columns (table_path p.found.table) (index_path p.found.table x) fs rs → IsPiece sound k p x rs
    found-piece rs are = record {
      rows = record {
        each = rows-each p.found.table x fs rs are;
        distinct = rows-distinct p.found.table x found.past fs rs found.rising are;
        there = λ s. rows-all p.found.table x (λ row. state_at_point k p (owner_at p row) ≡ Some row) fs rs (found.there s) are;
      };
      some = λ none. found.some (no_rows fs rs (rows-count p.found.table x fs rs are) none);
      few = (let n = rows-count p.found.table x fs rs are in let m = found.few in omega (arith, n, m));
    }
      where
        no_rows : (gs : List FoundKey) (ys : List BaseRow) → length ys ≡ length gs → ys ≡ [] → gs ≡ []
        no_rows [] ys n none = refl
        no_rows (g ∷ gs) ys n none = (let m = ap length none in absurd (omega (arith, n, m)))

    -- a row whose key in the index is too long
    pub found-long : (n : ℕ) → (f : WasFound n k t i p x) → HasLong (index_path p.found.table x) fs → sound → HadLongRow f.was t.0 i.0
    found-long n f long s =
        let row = long.found.row in
        let there : state_of f.was.base f.was.seen p.table.0 (owner_at p row) p.stamp ≡ Some row = sym (f.same (owner_at p row)) ∙ found.there s long.found long.among in
        record {
          table = p.found.table;
          table_is = f.table;
          index = x;
          index_is = f.index;
          owner = f.owner;
          row = row;
          there = subst (λ (u : TableId). state_of f.was.base f.was.seen u.0 (owner_at p row) x.birth ≡ Some row) h.held.table (subst (λ (m : ℕ). state_of f.was.base f.was.seen p.table.0 (owner_at p row) m ≡ Some row) (sym f.birth) there);
          long = long.long;
        }

  -- each chunk has a piece
  pub found-pieces : (cs : List (List FoundKey)) (ps : List (List BaseRow)) → AllByRecursion (IsFoundAt sound k p) cs → ArePieces p.found.table.columns (table_path p.found.table) (index_path p.found.table x) cs ps
      → AllByRecursion (IsPiece sound k p x) ps
  found-pieces [] [] all are = tt
  found-pieces [] (r ∷ ps) all are = absurd are
  found-pieces (fs ∷ cs) [] all are = absurd are
  found-pieces (fs ∷ cs) (r ∷ ps) all are = (found-piece fs all.0 r are.0, found-pieces cs ps all.1 are.1)

-- 4. What a call of `base` does

some_table : {y z : Table} → Some y ≡ Some z → y ≡ z
some_table e = cc

-- the rows that were to be given their base versions have them, and the others are still to be
pub bases : (sound : Type 0) (k k' : Known) (t : TableId) (i : IndexId) (p : Point) (x : Index) (done : List ℕ → Bool) (xs : List BaseRow) (more : List (List Value)) (at : ℕ) → Grown k k' → IsBuilding sound k t i p x → DidBase k k' p i xs at
    → AreBased k i p done (base_owners p.found.table xs ++ more) → AreBased k' i p done more
bases sound k k' t i p x done xs more at g h did a row is read =
    let now = building-stays sound k t i p x h k' g in
    let same : did.table ≡ p.found.table = some_table (sym did.table_is ∙ now.table_is) in
    elim (rows-based-stay sound k t i p x h k' g done (base_owners p.found.table xs ++ more) a row is read) [
      | inl was ↦ inl was
      | inr among ↦ (elim (has-parts (base_owners p.found.table xs) more (owner_at p row) among) [
        | inl here ↦ inl (did_based k k' p i xs at did (owner_at p row) (subst (λ (z : Table). has (base_owners z xs) (owner_at p row) ≡ true) (sym same) here))
        | inr later ↦ inr later
      ])
    ]
