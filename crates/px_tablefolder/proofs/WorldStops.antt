-- The server stops and opens its folder: the worlds of a row and an index.
use Rattle.std.proofs.Common.{◌≡◌, ℕ, zero, suc, ◌<◌, ◌≤◌, max, Bool, true, false, cond, ◌&&◌, None, List, [], refl, ap, sym, ◌∙◌, subst, inl, inr, arith}
use Rattle.std.specs.Prelude.{nat_lt}
use Rattle.std.proofs.lemmas.Bool.{cases_lt, cond-true, and_parts, false≢true}
use Rattle.std.proofs.lemmas.Bool.Decides.{nat_tests}
use Rattle.px_cells.specs.CellData.{CellData}
use Rattle.px_cells.specs.Contents.{Contents, value_at}
use Rattle.px_values.specs.declared.row.Value.{Value}
use Rattle.px_values.specs.declared.change.What.{What}
use Rattle.px_values.specs.declared.name.TableId.{TableId}
use Rattle.px_values.specs.States.{RowState}
use Rattle.px_trail.specs.declared.entry.Entry.{Entry}
use Rattle.px_trail.specs.Trail.{Base, IsBase}
use Rattle.px_world.specs.Shape.{WorldShape}
use Rattle.px_world.specs.World.{World, Fate, Unbegun, Undecided, Written, Lost, is_written, is_begun, is_undecided, st}
use Rattle.px_world.specs.Events.{Stop, happens, May, fate_at_stop, is_at}
use Rattle.px_world.specs.Facts.{Kept, IsSoundWorld}
use Rattle.px_world.specs.Images.{image, IsImage}
use Rattle.px_world.specs.IndexCells.{world_index}
use Rattle.px_world.proofs.Told.{is_written-is}
use Rattle.px_world.proofs.States.{state_at-same}
use Rattle.px_world.proofs.Decisions.{stop_kept}
use Rattle.px_world.proofs.Images.{image_sound}
use Rattle.px_history.specs.History.{History, written_state}
use Rattle.px_history.specs.Rows.{base_history, history_from, state_by}
use Rattle.px_history.proofs.Changes.{expected_written, written-counted}
use Rattle.px_history.proofs.Ties.{base_states, base_old}
use Rattle.px_forms.specs.Indexes.{shape_at, view_of}
use Rattle.px_forms.specs.Rows.{DataForm}
use Rattle.px_indexed.specs.Worlds.{Indexed, history_at, marked_by, times_of, world_at, world_of_history}
use Rattle.px_indexed.specs.Kept.{DataKept, RowsKept}
use Rattle.px_tablefolder.specs.Folder.{TableFiles, folder_changed, folder_high, folder_last, folder_state, key_has_stamp}
use Rattle.px_tablefolder.specs.Stop.{IsStop}
use Rattle.px_tablefolder.proofs.Stamped.{stamp_read, none_read, stamp_within}

-- ---- the changes of a row

is_below : (low s : ℕ) → nat_lt low s ≡ true → low < s
is_below low s h = grind (arith, nat_tests)

pub is_not_below : (low s : ℕ) → low < s → nat_lt low s ≡ true
is_not_below low s h = grind (arith, nat_tests)

and_left : (a b : Bool) → a ≡ true → (a && b) ≡ false → b ≡ false
and_left true b h e = e
and_left false b h e = absurd (false≢true h)

fate_true : (v : Bool) → cond v Written Unbegun ≡ Written → v ≡ true
fate_true true h = refl
fate_true false h = cc

fate_decided : (v : Bool) → is_undecided (cond v Written Unbegun) ≡ false
fate_decided true = refl
fate_decided false = refl

-- the base that the folder tells of the table, beside whatever else
abbrev pub folder_base : Base → DataForm → TableFiles → Base
folder_base b f n = record b { last = λ t. folder_last n; horizon = λ t. folder_high n; changed = λ t. folder_changed f n; state = λ t. folder_state f n }

module _ (b0 b : Base) (es : List Entry) (tid : TableId) (raised : ℕ) (f : DataForm) (k : RowsKept f.shape b es tid.0 raised) (n : TableFiles) (g : DataKept b es tid.0 f n.horizon n.cells) where
  abbrev t : ℕ
  t = tid.0

  abbrev base' : Base
  base' = folder_base b0 f n

  -- a row's states by its cells are a base
  pub folder_is_base : (r : List Value) → IsBase base' t r
  folder_is_base r = record {
    above = (let z : nat_lt n.horizon 0 ≡ false = grind (arith, nat_tests) in ap (λ v. v && key_has_stamp (f.key_of r) 0 n.cells) z);
    within = λ s h. (let a = and_parts (nat_lt n.horizon s) (key_has_stamp (f.key_of r) s n.cells) h in let l = stamp_within (f.key_of r) s n.cells a.1 in omega arith);
    same = λ p h. elim (cases_lt p n.horizon) [
      | inl l ↦ (let e : max n.horizon (suc p) ≡ max n.horizon p = omega arith in ap (f.spelled (value_at n.cells) r) e)
      | inr l ↦
          (let none = none_read (f.key_of r) (suc p) n.cells (and_left (nat_lt n.horizon (suc p)) (key_has_stamp (f.key_of r) (suc p) n.cells) (is_not_below n.horizon (suc p) (omega arith)) h) in
          let e : max n.horizon (suc p) ≡ suc p = omega arith in
          let e' : max n.horizon p ≡ p = omega arith in
          ap (f.spelled (value_at n.cells) r) e ∙ (g.form.still (value_at n.cells) r p none ∙ sym (ap (f.spelled (value_at n.cells) r) e')))
    ];
  }

  module _ (r : List Value) where
    abbrev h : History RowState
    h = history_at f.shape b es t r

    abbrev h' : History RowState
    h' = base_history base' t r

    -- from the data horizon on, its states are the trail's
    pub state_there : (p : ℕ) → n.horizon ≤ p → base'.state t r p ≡ state_by f.shape b es t r p
    state_there p l = (let e : max n.horizon p ≡ p = omega arith in ap (f.spelled (value_at n.cells) r) e ∙ g.spells r p l)

    folder_written : (p : ℕ) → n.horizon ≤ p → base'.state t r p ≡ written_state h p
    folder_written p l = state_there p l ∙ sym ((k.tied r).states p)

    -- its changes are written changes above the data horizon
    folder_change : (s : ℕ) → h'.fate s ≡ Written → (n.horizon < s) × (h.fate s ≡ Written)
    folder_change s e =
        let a = and_parts (nat_lt n.horizon s) (key_has_stamp (f.key_of r) s n.cells) (fate_true (base'.changed t r s) e) in
        let l = is_below n.horizon s a.0 in
        let z = stamp_read (f.key_of r) s n.cells a.1 in (
          l,
          elim (g.stamps r z.qualifier s z.kind z.value z.is) [
            | inl m ↦ absurd (omega arith)
            | inr m ↦ is_written-is (h.fate s) m
          ],
        )

    -- with the states before and after them that the trail tells
    folder_new : (s : ℕ) → h'.fate s ≡ Written → h'.new s ≡ h.new s
    folder_new zero e = absurd (let a = (folder_change zero e).0 in omega arith)
    folder_new (suc p) e =
        let c = folder_change (suc p) e in
        let a = c.0 in
        cond-true (base'.changed t r (suc p)) (base'.state t r (suc p)) None (fate_true (base'.changed t r (suc p)) e)
        ∙ (folder_written (suc p) (omega arith) ∙ written-counted h p (ap is_written c.1))

    folder_old : (s : ℕ) → h'.fate s ≡ Written → h'.old s ≡ h.old s
    folder_old zero e = absurd (let a = (folder_change zero e).0 in omega arith)
    folder_old (suc p) e =
        let c = folder_change (suc p) e in
        let a = c.0 in
        base_old f.shape base' tid r (folder_is_base r) p
        ∙ (cond-true (base'.changed t r (suc p)) (base'.state t r p) None (fate_true (base'.changed t r (suc p)) e)
        ∙ (folder_written p (omega arith)
        ∙ sym ((k.tied r).chained p (ap is_begun c.1) ∙ expected_written h p (λ s l. (k.tied r).in_order s (suc p) c.1 (omega arith)))))

    -- ---- the world of an index

    stop_fate : (s : ℕ) (d : Fate) → d ≡ Written → cond (is_undecided d) (cond (is_at s None) Written Lost) d ≡ Written
    stop_fate s d e = ap (λ (z : Fate). cond (is_undecided z) (cond (is_at s None) Written Lost) z) e

    stop_counts : (s : ℕ) (d : Fate) → is_written (cond (is_undecided d) (cond (is_at s None) Written Lost) d) ≡ is_written d
    stop_counts s Unbegun = refl
    stop_counts s Undecided = refl
    stop_counts s Written = refl
    stop_counts s Lost = refl

    module _ (x : Indexed) (high' : ℕ) (kept : Kept (shape_at f.shape x.form r) (world_at f.shape b es t raised x r)) (up : x.kept ≤ max x.birth high') (down : high' ≤ max x.birth raised) (low : n.horizon ≤ x.kept) where
      abbrev w : World (List ℕ) RowState (List ℕ)
      w = world_at f.shape b es t raised x r

      abbrev shape : WorldShape (List ℕ) RowState (List ℕ) What
      shape = shape_at f.shape x.form r

      -- the stop may come
      pub stop_may : May shape w (Stop None high')
      stop_may = (refl, (tt, (up, down)))

      abbrev pub stopped : World (List ℕ) RowState (List ℕ)
      stopped = happens shape w (Stop None high')

      pub stopped_kept : Kept shape stopped
      stopped_kept = stop_kept shape w kept None high' stop_may.1

      stopped_state : (p : ℕ) → st stopped p ≡ written_state h p
      stopped_state p = state_at-same h.base (λ s. is_written (h.fate s)) h.new (λ s. is_written (fate_at_stop None h.fate s)) h.new p (λ s l. stop_counts s (h.fate s)) (λ s l. refl)

      -- and the folder shows the world after it
      pub folder_image : (marked : ℕ → Bool) → IsImage stopped (image stopped h'.base h'.fate marked h'.is_ended h'.old h'.new high')
      folder_image marked = record {
        high = up;
        none = λ s. fate_decided (base'.changed t r s);
        all_ended = λ s e. fate_true (base'.changed t r s) e;
        chained = λ p e. base_old f.shape base' tid r (folder_is_base r) p ∙ (cond-true (base'.changed t r (suc p)) (base'.state t r p) None (fate_true (base'.changed t r (suc p)) e) ∙ sym (base_states f.shape base' tid r (folder_is_base r) p));
        written = λ s l e. (stop_fate s (h.fate s) (folder_change s e).1, (folder_new s e, folder_old s e));
        states = λ p l. base_states f.shape base' tid r (folder_is_base r) p ∙ (folder_written p (omega arith) ∙ sym (stopped_state p));
      }

      module _ (cells' : List CellData) (same : value_at cells' ≡ value_at x.cells) (waits : ℕ → Bool) where
        abbrev pub as_read : Indexed
        as_read = record x { cells = cells'; waits = waits }

        pub folder_world : IsSoundWorld (shape_at f.shape x.form r) (world_at f.shape base' [] t high' as_read r)
        unfolding history_from
        folder_world =
            let is : image stopped h'.base h'.fate (marked_by h' waits) h'.is_ended h'.old h'.new high' ≡ world_at f.shape base' [] t high' as_read r = (λ i. world_of_history h' (marked_by h' waits) (view_of (x.form.owns r) x.form.columns x.form.place (sym same i)) (times_of x high')) in
            subst (IsSoundWorld shape) is (image_sound shape stopped stopped_kept h'.base h'.fate (marked_by h' waits) h'.is_ended h'.old h'.new high' (folder_image (marked_by h' waits)))

        pub folder_stop : IsStop shape None high' w (world_at f.shape base' [] t high' as_read r)
        unfolding history_from
        folder_stop = record {
          may = stop_may;
          known = record {
            cells = ap (λ (c : Contents). world_index (world_of_history h' (marked_by h' waits) (view_of (x.form.owns r) x.form.columns x.form.place c) (times_of x high'))) same;
            birth = refl;
            floor = refl;
            kept = refl;
            none = λ s. fate_decided (base'.changed t r s);
            changes = λ s e. (stop_fate s (h.fate s) (folder_change s e).1, (folder_old s e, folder_new s e));
            states = λ p l. base_states f.shape base' tid r (folder_is_base r) p ∙ (folder_written p (omega arith) ∙ sym (stopped_state p));
          };
          raised = refl;
        }
