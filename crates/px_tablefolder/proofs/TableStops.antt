-- The server stops and opens its folder: a table goes on from what its folder tells.
use Rattle.std.proofs.Common.{◌≡◌, ℕ, suc, ◌<◌, ◌≤◌, ◌-◌, max, true, cond, ◌&&◌, Option, Some, None, List, [], length, get_or, refl, ap, sym, ◌∙◌, subst, inl, inr, arith}
use Rattle.std.proofs.lemmas.Bool.{cases_Bool, cases_lt, false≢true}
use Rattle.px_cells.specs.declared.kind.CellKind.{CellKind}
use Rattle.px_cells.specs.CellData.{CellData}
use Rattle.px_cells.specs.Contents.{Contents, cell_of, value_at}
use Rattle.px_values.specs.declared.row.Value.{Value}
use Rattle.px_values.specs.States.{Shape as RowShape}
use Rattle.px_trail.specs.declared.entry.Entry.{Entry}
use Rattle.px_trail.specs.Batches.{batch_from}
use Rattle.px_trail.specs.States.{applied, begun}
use Rattle.px_trail.specs.Trail.{Base, IsBase, last_from, last_of}
use Rattle.px_world.specs.World.{Unbegun, Written, is_written}
use Rattle.px_world.specs.Facts.{IsSoundWorld}
use Rattle.px_history.specs.Rows.{history_from}
use Rattle.px_history.proofs.Ties.{above}
use Rattle.px_forms.specs.Indexes.{IsIndexForm, shape_at, view_at}
use Rattle.px_forms.specs.Rows.{DataForm}
use Rattle.px_indexed.specs.Worlds.{Indexed, history_at, marked_by, times_of, world_at, world_of_history}
use Rattle.px_indexed.specs.Kept.{DataKept, IndexKept, RowsKept}
use Rattle.px_indexed.proofs.Regions.{none_above as none_over}
use Rattle.px_groupworld.specs.Group.{TableForm, GroupData, GroupKept, IndexPart, indexed_at, no_part, shape_in, waits_in, world_in}
use Rattle.px_groupworld.specs.Sound.{IsSoundIndex, IsSoundTable}
use Rattle.px_groupworld.proofs.Entries.{rows_of_group}
use Rattle.px_groupworld.proofs.Fresh.{sound_group}
use Rattle.px_groupworld.proofs.Queries.{state_is}
use Rattle.px_tablefolder.specs.Folder.{IndexFiles, TableFiles, IsFilesOf, IsFolderBase, IsFolderOf, IsOpened, folder_changed, folder_high, folder_last, greatest_in_indexes, key_has_stamp, last_cell, no_files}
use Rattle.px_tablefolder.specs.Stop.{IsRestart, IsStop, TableRecovers, over_base}
use Rattle.px_tablefolder.proofs.Stamped.{cells_within, horizon_within, horizons_below, horizons_numbers, none_above, none_read, numbers_below, numbers_within}
use Rattle.px_tablefolder.proofs.WorldStops.{folder_base, folder_is_base, folder_stop, folder_world, is_not_below, state_there}

-- the cells of the rows, of lists that are read alike
data_read : (b : Base) (es : List Entry) (t : ℕ) (f : DataForm) (low : ℕ) (old new : List CellData) → value_at new ≡ value_at old → DataKept b es t f low old → DataKept b es t f low new
data_read b es t f low old new e g = record {
  form = g.form;
  cells = record { each = λ c h. g.cells.each c (ap (λ (z : Contents). z c.key c.qualifier c.stamp c.kind) (sym e) ∙ h) };
  stamps = λ r q u d v h. g.stamps r q u d v (ap (λ (c : Contents). c (f.key_of r) q u d) (sym e) ∙ h);
  spells = λ r p l. ap (λ (c : Contents). f.spelled c r p) e ∙ g.spells r p l;
  whole = λ r. subst (λ (c : Contents). f.IsWhole low c r) (sym e) (g.whole r);
  fits = g.fits;
}

module _ (f : TableForm) (es : List Entry) (v : GroupData) (g : GroupKept f es v) (n : TableFiles) (m : IsFolderOf f es v n) where
  abbrev t : ℕ
  t = f.id.0

  abbrev sh : RowShape
  sh = f.rows.shape

  rows : RowsKept sh f.base es t v.high
  rows = rows_of_group f es v g

  told : DataKept f.base es t f.rows n.horizon n.cells
  told = subst (λ (l : ℕ). DataKept f.base es t f.rows l n.cells) (sym m.horizon) (data_read f.base es t f.rows v.low v.cells n.cells m.cells g.told)

  high_falls : folder_high n ≤ v.high
  high_falls = let a = horizons_below n.indexes v.high m.below in let c = g.low in let d = m.horizon in omega arith

  high_last : folder_high n ≤ folder_last n
  high_last = let a = horizons_numbers n.indexes in omega arith

  abbrev last : ℕ
  last = last_of f.base t es

  -- no stamp of the folder is above the trail's last
  data_below : (k : List ℕ) (q s : ℕ) (d : CellKind) → last < s → value_at n.cells k q s d ≡ None
  data_below k q s d l = by (value_at n.cells k q s d) refl
    where
      by : (o : Option (List ℕ)) → value_at n.cells k q s d ≡ o → o ≡ None
      by None e = refl
      by (Some x) e =
          let r = (told.cells.each (cell_of k q s d x) e).owner in
          let e' : value_at n.cells (f.rows.key_of r.0) q s d ≡ Some x = subst (λ (a : List ℕ). value_at n.cells a q s d ≡ Some x) r.1 e in
          elim (told.stamps r.0 q s d x e') [
            | inl a ↦ absurd (let c = rows.low in let u = g.low in let w = m.horizon in omega arith)
            | inr a ↦ absurd (false≢true (ap is_written (sym (above sh f.base f.id r.0 (rows.base r.0) es (history_at sh f.base es t r.0) (rows.tied r.0) s l)) ∙ a))
          ]

  index_below : (i : ℕ) → i < length n.indexes → ((get_or n.indexes i no_files).birth ≤ last) × (((get_or n.indexes i no_files).horizon ≤ last) × (last_cell (get_or n.indexes i no_files).cells ≤ last))
  index_below i l =
      let low_last = rows.low in
      let b = m.below i l in
      elim (cases_Bool (get_or n.indexes i no_files).is_active) [
        | inl a ↦
            (let c = m.active i l a in
            let k = g.indexes c.0 c.1.0 in
            let birth = k.birth in
            ((let e = c.1.1.birth in omega arith), (omega arith, cells_within (get_or n.indexes i no_files).cells last (λ k' q s d h. ap (λ (u : Contents). u k' q s d) (sym c.1.1.cells) ∙ none_over (indexed_at f v c.0).form last (get_or v.indexes c.0 no_part).cells k.cells k' q s d h))))
        | inr a ↦ (let c = m.others i l a in (c.0, (omega arith, c.1)))
      ]

  last_falls : folder_last n ≤ last
  last_falls =
      let a = cells_within n.cells last data_below in
      let b = numbers_below n.indexes last index_below in
      let c = rows.low in let d = g.low in let e = m.horizon in
      omega arith

  module _ (b : Base) (fb : IsFolderBase b t f.rows n) where
    abbrev c : Base
    c = folder_base b f.rows n

    -- the folder stands for the trail
    pub folder_recovers : TableRecovers f b es v.high n
    unfolding begun applied batch_from
    folder_recovers = record {
      states = λ r p l. (λ i. fb.state i r p) ∙ (state_there b f.base es f.id v.high f.rows rows n told r p l ∙ state_is f es v g r p);
      high_falls = high_falls;
      last_falls = last_falls;
    }

    -- the base is one, as the folder's own is
    base_is : (r : List Value) → IsBase b t r
    base_is r =
        let z = folder_is_base b f.base es f.id v.high f.rows rows n told r in
        record {
          above = (λ i. fb.changed i r 0) ∙ z.above;
          within = λ s h. (let w = z.within s ((λ i. sym fb.changed i r s) ∙ h) in let e = fb.last in omega arith);
          same = λ p h. (λ i. fb.state i r (suc p)) ∙ (z.same p ((λ i. sym fb.changed i r (suc p)) ∙ h) ∙ (λ i. sym fb.state i r p));
        }

    history_is : (r : List Value) → history_at sh c [] t r ≡ history_at sh b [] t r
    unfolding history_from
    history_is r = λ i. record {
      base = sym fb.state i r 0;
      fate = λ s. cond (sym fb.changed i r s) Written Unbegun;
      is_ended = λ s. sym fb.changed i r s;
      old = λ s. cond (sym fb.changed i r s) (sym fb.state i r (s - 1)) None;
      new = λ s. cond (sym fb.changed i r s) (sym fb.state i r s) None;
    }

    module _ (u : GroupData) (o : IsOpened n u) where
      world_is : (x : Indexed) (r : List Value) → world_at sh c [] t (folder_high n) x r ≡ world_at sh b [] t u.high x r
      world_is x r = λ i. world_of_history (history_is r i) (marked_by (history_is r i) x.waits) (view_at x.form r x.cells) (times_of x (sym o.high i))

      -- ---- an index that is opened

      module _ (i : ℕ) (li : i < length u.indexes) where
        -- the place of its files
        abbrev at : ℕ
        at = (o.each i li).0

        l_at : at < length n.indexes
        l_at = (o.each i li).1.0

        abbrev z : IndexFiles
        z = get_or n.indexes at no_files

        abbrev y : IndexPart
        y = get_or u.indexes i no_part

        now : IsFilesOf y z
        now = (o.each i li).1.1.1

        was_at : (j : ℕ) × ((j < length v.indexes) × IsFilesOf (get_or v.indexes j no_part) z)
        was_at = m.active at l_at (o.each i li).1.1.0

        module _ (j : ℕ) (lj : j < length v.indexes) (was : IsFilesOf (get_or v.indexes j no_part) z) where
          abbrev x : IndexPart
          x = get_or v.indexes j no_part

          abbrev here : Indexed
          here = record (indexed_at f v j) { cells = y.cells; waits = waits_in [] i }

          same_cells : value_at y.cells ≡ value_at x.cells
          same_cells = now.cells ∙ sym was.cells

          same_id : x.id ≡ y.id
          same_id = was.id ∙ sym now.id

          up : max (max x.birth x.horizon) v.low ≤ max x.birth (folder_high n)
          up = let a = horizon_within n.indexes at l_at in let d = was.horizon in let w = m.horizon in omega arith

          down : folder_high n ≤ max x.birth v.high
          down = let a = high_falls in omega arith

          above_low : n.horizon ≤ max (max x.birth x.horizon) v.low
          above_low = let w = m.horizon in omega arith

          -- the region that is opened is the running one's
          here_is : here ≡ indexed_at f u i
          here_is =
              let birth : x.birth ≡ y.birth = was.birth ∙ sym now.birth in
              let horizon : x.horizon ≡ y.horizon = was.horizon ∙ sym now.horizon in
              let built : x.is_built ≡ y.is_built = was.built ∙ sym now.built in
              let low : v.low ≡ u.low = sym m.horizon ∙ sym o.low in
              (λ a. record { form = f.index (same_id a); cells = y.cells; waits = waits_in (sym o.opens a) i; birth = birth a; kept = max (max (birth a) (horizon a)) (low a); floor = max (birth a) (horizon a); is_built = built a })

          k : IndexKept sh f.base es t v.high (indexed_at f v j)
          k = g.indexes j lj

          sound_world : (r : List Value) → IsSoundWorld (shape_in (over_base f b) u i r) (world_in (over_base f b) [] u i r)
          sound_world r =
              subst (IsSoundWorld (shape_at sh (f.index y.id) r)) (world_is (indexed_at f u i) r)
              (subst (λ (e : Indexed). IsSoundWorld (shape_at sh e.form r) (world_at sh c [] t (folder_high n) e r)) here_is
              (folder_world b f.base es f.id v.high f.rows rows n told r (indexed_at f v j) (folder_high n) (k.kept r) up down above_low y.cells same_cells (waits_in [] i)))

          stamp_last : (c : CellData) → value_at y.cells c.key c.qualifier c.stamp c.kind ≡ Some c.value → c.stamp ≤ last_cell z.cells
          stamp_last c h = elim (cases_lt (last_cell z.cells) c.stamp) [
            | inl l ↦ (let q : None ≡ Some c.value = sym (ap (λ (w : Contents). w c.key c.qualifier c.stamp c.kind) now.cells ∙ none_above z.cells c.key c.qualifier c.stamp c.kind l) ∙ h in cc)
            | inr l ↦ omega arith
          ]

          sound_index : IsSoundIndex (over_base f b) u i
          sound_index =
              let a = numbers_within n.indexes at l_at in
              let d = horizon_within n.indexes at l_at in
              let number : z.birth ≤ greatest_in_indexes n.indexes = a.0 in
              let stamps : last_cell z.cells ≤ greatest_in_indexes n.indexes = a.1.1 in
              let e = fb.last in
              record {
                form = subst (λ (w : ℕ). IsIndexForm (f.index w)) same_id k.form;
                birth = (let w = now.birth in omega arith);
                own = (let w = now.horizon in let q = o.high in omega arith);
                cells = record {
                  each = λ c h.
                      (let w = k.cells.each c (ap (λ (q : Contents). q c.key c.qualifier c.stamp c.kind) (sym same_cells) ∙ h) in
                      record { stamp = (let q = stamp_last c h in omega arith); owner = (w.owner.0, ap (λ (q : ℕ). (f.index q).owns w.owner.0 c.key) (sym same_id) ∙ w.owner.1); placed = w.placed; kind = w.kind; status = w.status });
                };
                worlds = sound_world;
              }

          stop_there : (r : List Value) → IsStop (shape_in f v j r) None (folder_high n) (world_in f es v j r) (world_in (over_base f b) [] u i r)
          stop_there r =
              subst (IsStop (shape_in f v j r) None (folder_high n) (world_in f es v j r)) (world_is (indexed_at f u i) r)
              (subst (λ (e : Indexed). IsStop (shape_in f v j r) None (folder_high n) (world_in f es v j r) (world_at sh c [] t (folder_high n) e r)) here_is
              (folder_stop b f.base es f.id v.high f.rows rows n told r (indexed_at f v j) (folder_high n) (k.kept r) up down above_low y.cells same_cells (waits_in [] i)))

        sound_there : IsSoundIndex (over_base f b) u i
        sound_there = let w = was_at in sound_index w.0 w.1.0 w.1.1

      -- ---- the table

      changed_there : (r : List Value) (q s : ℕ) (d : CellKind) (x : List ℕ) → value_at u.cells (f.rows.key_of r) q s d ≡ Some x → n.horizon < s → folder_changed f.rows n r s ≡ true
      changed_there r q s d x e l = elim (cases_Bool (key_has_stamp (f.rows.key_of r) s n.cells)) [
        | inl a ↦ (λ i. is_not_below n.horizon s l i && a i)
        | inr a ↦ (let w : None ≡ Some x = sym (ap (λ (w : Contents). w (f.rows.key_of r) q s d) o.cells ∙ none_read (f.rows.key_of r) s n.cells a q d) ∙ e in cc)
      ]

      now_told : DataKept f.base es t f.rows n.horizon u.cells
      now_told = data_read f.base es t f.rows n.horizon n.cells u.cells o.cells told

      -- the folder gives what the next run begins with
      pub folder_sound : IsSoundTable (over_base f b) u
      folder_sound = record {
        base = record { rows = base_is; low = (let a = fb.last in let d = fb.horizon in let e = high_last in omega arith) };
        shape = fb.shape;
        high = fb.horizon ∙ sym o.high;
        opens = o.opens;
        low = (let a = o.low in let d = o.high in omega arith);
        indexes = sound_there;
        form = g.told.form;
        cells = now_told.cells;
        stamps = λ r q s d x e. elim (cases_lt n.horizon s) [ inl l ↦ inr ((λ i. fb.changed i r s) ∙ changed_there r q s d x e l) | inr l ↦ inl (let a = o.low in omega arith) ];
        spells = λ r p l.
            (let e : max n.horizon p ≡ p = (let a = o.low in omega arith) in
            ap (λ (w : Contents). f.rows.spelled w r p) o.cells ∙ (sym (ap (f.rows.spelled (value_at n.cells) r) e) ∙ (λ i. sym fb.state i r p)));
        whole = λ r. subst (λ (l : ℕ). f.rows.IsWhole l (value_at u.cells) r) (sym o.low) (now_told.whole r);
      }

      -- and the table is kept from there
      pub folder_kept : GroupKept (over_base f b) [] u
      folder_kept = sound_group (over_base f b) u folder_sound

      -- for each row and each index, the stop is a stop of its world
      pub folder_restart : IsRestart f b es v u n (λ r. None)
      folder_restart = record { each = λ i l. (let w = was_at i l in (w.0, (w.1.0, (same_id i l w.0 w.1.0 w.1.1, stop_there i l w.0 w.1.0 w.1.1)))) }

      pub folder_again : IsFolderOf (over_base f b) [] u n
      unfolding last_from
      folder_again = record {
        horizon = sym o.low;
        cells = sym o.cells;
        active = o.all;
        below = λ i l. (let a = horizon_within n.indexes i l in let d = o.high in omega arith);
        others = λ i l a. (let d = numbers_within n.indexes i l in let e = d.0 in let w = d.1.1 in let q = fb.last in (omega arith, omega arith));
      }
