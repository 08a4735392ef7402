-- What is kept of a table tells the states of its rows, and its index cells tell of them.
use Rattle.std.proofs.Common.{◌≡◌, ℕ, ◌<◌, ◌≤◌, Bool, true, false, cond, Option, Some, None, List, length, get_or, max, ap, sym, subst, ◌∙◌}
use Rattle.px_cells.specs.Contents.{Contents, value_at}
use Rattle.px_cells.specs.declared.kind.CellKind.TheVariants.{Put}
use Rattle.px_values.specs.States.{RowState}
use Rattle.px_values.specs.declared.name.TableId.{TableId}
use Rattle.px_values.specs.declared.row.Value.{Value}
use Rattle.px_tables.specs.declared.index.Index.{Index}
use Rattle.px_tables.specs.declared.table.Table.{Table}
use Rattle.px_trail.specs.States.{state_of}
use Rattle.px_trail.specs.Trail.{Base, last_of}
use Rattle.px_trail.specs.declared.entry.Entry.{Entry}
use Rattle.px_world.specs.Shape.{WorldShape, has_key, is_key_there}
use Rattle.px_world.specs.World.{Absent, Unverified, Verified, top}
use Rattle.px_forms.specs.Indexes.{IndexForm, shape_at, status_in}
use Rattle.px_forms.proofs.Views.{lawful_at}
use Rattle.px_rows.specs.Keys.{IsRightTable}
use Rattle.px_rows.specs.Spelled.{row_form}
use Rattle.px_indexrow.specs.Form.{FitsRowState, index_form}
use Rattle.px_indexed.specs.Kept.{AreIndexCells}
use Rattle.px_indexed.specs.Worlds.{Indexed}
use Rattle.px_indexed.proofs.Looks.{top_seen, vis_is}
use Rattle.px_indexed.proofs.Regions.{bare_at}
use Rattle.px_groupworld.specs.Group.{GroupData, GroupKept, indexed_at, no_part, table_form, world_in}
use Rattle.px_groupworld.proofs.Queries.{group_answers}
use Rattle.px_looks.specs.Found.{at_key}
use Rattle.px_looks.specs.Versions.{is_verified, stamp_seen, value_seen}
use Rattle.px_shown.specs.Told.{AreStates, SpellsRows, TellsOf}
use Rattle.px_shown.proofs.OwnKeys.{own_key}

-- what an index of this form tells
record TellsBy (f : IndexForm) (g : Contents) (q : ℕ) (state : List Value → RowState) : Type 0 where
  right : (k : List ℕ) (s : ℕ) → stamp_seen (at_key g k) 1 q ≡ Some s → is_verified (g k 1 s Put) ≡ true → (r : List Value) → f.owns r k ≡ true → (f.key_of r (state r) ≡ Some k) × ((c : ℕ) → c < f.columns → value_seen (at_key g k) (f.place c) q ≡ f.col (state r) c)
  whole : (r : List Value) (k : List ℕ) → f.key_of r (state r) ≡ Some k → (s : ℕ) × (stamp_seen (at_key g k) 1 q ≡ Some s)

status_is : (o : Option (List ℕ)) → is_verified o ≡ true → status_in o ≡ Verified
status_is None h = absurd (let z : ◌≡◌ {A = Bool} false true = h in cc)
status_is (Some v) h = ap (λ (b : Bool). cond b Verified Unverified) h

module _ (n : WorldShape (List ℕ) RowState (List ℕ) (Rattle.px_values.specs.declared.change.What.What)) (same : (a b : List ℕ) → n.same_key a b ≡ true → a ≡ b) (self : (a : List ℕ) → n.same_key a a ≡ true) where
  key_from : (k : List ℕ) (s : RowState) → has_key n k s ≡ true → n.key_of s ≡ Some k
  unfolding has_key
  key_from k s h = by (n.key_of s) h
    where
      by : (o : Option (List ℕ)) → is_key_there n.same_key k o ≡ true → o ≡ Some k
      by None h = absurd (let z : ◌≡◌ {A = Bool} false true = h in cc)
      by (Some a) h = ap (λ (z : List ℕ). Some z) (sym (same k a h))

  key_to : (k : List ℕ) (s : RowState) → n.key_of s ≡ Some k → has_key n k s ≡ true
  unfolding has_key
  key_to k s h = ap (is_key_there n.same_key k) h ∙ self k

module _ (t : Table) (b : Base) (id : TableId) (index : ℕ → IndexForm) (es : List Entry) (v : GroupData) (kept : GroupKept (table_form b id index (row_form t)) es v) where
  -- the states of the rows from the data horizon on
  pub states_are : IsRightTable t → SpellsRows t (value_at v.cells) → (q : ℕ) → v.low ≤ q → AreStates t (λ r. state_of b es id.0 r q)
  states_are right rows q low =
      let is = (group_answers (table_form b id index (row_form t)) es v kept).rows in
      record {
        typed = λ r. subst (FitsRowState t) (is r q low) (rows.typed r q);
        keyed = λ r row e. rows.short r row q (is r q low ∙ e);
        own = λ r row e. own_key t (value_at v.cells) right rows r row q (is r q low ∙ e);
      }

  module _ (i : ℕ) (there : i < length v.indexes) (built : (get_or v.indexes i no_part).is_built ≡ true) (q : ℕ) (high : max (get_or v.indexes i no_part).birth v.high ≤ q) where
    abbrev f : IndexForm
    f = index (get_or v.indexes i no_part).id

    abbrev x : Indexed
    x = indexed_at (table_form b id index (row_form t)) v i

    abbrev g : Contents
    g = value_at (get_or v.indexes i no_part).cells

    abbrev state : List Value → RowState
    state r = state_of b es id.0 r q

    are : AreIndexCells f (last_of b id.0 es) (get_or v.indexes i no_part).cells
    are = (kept.indexes i there).cells

    n : (r : List Value) → WorldShape (List ℕ) RowState (List ℕ) (Rattle.px_values.specs.declared.change.What.What)
    n r = shape_at (row_form t).shape f r

    top_at : (r : List Value) (k : List ℕ) → f.owns r k ≡ true → top (world_in (table_form b id index (row_form t)) es v i r) k q ≡ stamp_seen (at_key g k) 1 q
    top_at r k mine = top_seen (row_form t).shape b es id.0 v.high x r k mine (λ s. bare_at f (last_of b id.0 es) (get_or v.indexes i no_part).cells are k s) q

    tells_by : TellsBy f g q state
    tells_by = record {
      right = λ k s seen sure r mine.
          (let a = (group_answers (table_form b id index (row_form t)) es v kept).each i there built r q high in
          let verified : (world_in (table_form b id index (row_form t)) es v i r).status k s ≡ Verified = ap (λ (z : Bool). cond z (status_in (g k 1 s Put)) Absent) mine ∙ status_is (g k 1 s Put) sure in
          let told = a.top_is k s (top_at r k mine ∙ seen) verified in
          let law = lawful_at (row_form t).shape f r (kept.indexes i there).form in
          (key_from (shape_at (row_form t).shape f r) law.key_is law.key_refl k (state r) told.0, λ c l. sym (vis_is (row_form t).shape b es id.0 v.high x r k mine c l q) ∙ told.1.at c l));
      whole = λ r k keyed.
          (let a = (group_answers (table_form b id index (row_form t)) es v kept).each i there built r q high in
          let law = lawful_at (row_form t).shape f r (kept.indexes i there).form in
          let z = a.row_has k (key_to (shape_at (row_form t).shape f r) law.key_is law.key_refl k (state r) keyed) in
          let mine = (kept.indexes i there).form.owned r (state r) k keyed in
          (z.0, sym (top_at r k mine) ∙ z.1));
    }

    -- what an index's cells tell of them, from the horizon on
    pub index_tells : (y : Index) → f ≡ index_form t y → TellsOf t y g q state
    index_tells y is = (let told = subst (λ (z : IndexForm). TellsBy z g q state) is tells_by in record { right = told.right; whole = told.whole })
