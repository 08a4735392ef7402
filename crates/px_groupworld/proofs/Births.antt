-- An index is born.
use Rattle.std.proofs.Common.{◌≡◌, ℕ, ◌<◌, ◌≤◌, ◌+◌, max, false, Some, None, List, [], ◌∷◌, ◌++◌, length, get_or, ap, sym, ◌∙◌, subst, inl, inr, arith}
use Rattle.std.proofs.Math.ListN.{get_or-append, length-append}
use Rattle.std.proofs.Math.Seq.{get_or-append_seam}
use Rattle.std.proofs.lemmas.Bool.{cases_lt}
use Rattle.px_values.specs.declared.name.TableId.{TableId}
use Rattle.px_values.specs.States.{Shape as RowShape}
use Rattle.px_trail.specs.declared.entry.Entry.{Entry}
use Rattle.px_trail.specs.Batches.{Batch, batch_of}
use Rattle.px_trail.specs.Trail.{Base, last_of}
use Rattle.px_trail.specs.Legal.{MayCome}
use Rattle.px_trail.proofs.Batches.{batch-none}
use Rattle.px_trail.proofs.Growth.{batch_of-snoc}
use Rattle.px_world.specs.Facts.{Kept}
use Rattle.px_world.specs.Events.{Birth, happens}
use Rattle.px_forms.specs.Indexes.{IsIndexForm, shape_at}
use Rattle.px_indexed.specs.Worlds.{Indexed, history_at, marked_by, world_at, world_of_history}
use Rattle.px_indexed.specs.Kept.{IndexKept, RowsKept}
use Rattle.px_indexed.proofs.OtherSteps.{born_kept}
use Rattle.px_indexed.proofs.Idle.{IsIdle, world_idle}
use Rattle.px_forms.proofs.Views.{view_empty}
use Rattle.px_groupworld.specs.Group.{TableForm, IndexPart, GroupData, GroupKept, IsOpen, no_part, waits_in, as_index, indexed_at, world_in}
use Rattle.px_groupworld.specs.Steps.{Bears, born_data}
use Rattle.px_groupworld.proofs.Opens.{all_more}
use Rattle.px_groupworld.proofs.Entries.{group_idle, rows_of_group}

module _ (f : TableForm) (es : List Entry) (v : GroupData) (k : GroupKept f es v) (e : Entry) (may : MayCome f.base es e) (idle : IsIdle f.id e)
    (id s : ℕ) (new : last_of f.base f.id.0 es < s) (drawn : s ≤ last_of f.base f.id.0 (es ++ e ∷ [])) (form : IsIndexForm (f.index id)) where
  abbrev b : Base
  b = f.base

  abbrev sh : RowShape
  sh = f.rows.shape

  abbrev tid : TableId
  tid = f.id

  abbrev es' : List Entry
  es' = es ++ e ∷ []

  abbrev part : IndexPart
  part = record { id = id; cells = []; birth = s; horizon = 0; is_built = false }

  abbrev next : GroupData
  next = born_data id s v

  abbrev young : Indexed
  young = record { form = f.index id; cells = []; waits = waits_in v.opens (length v.indexes); birth = s; kept = s; floor = s; is_built = false }

  rows : RowsKept sh b es tid.0 v.high
  rows = rows_of_group f es v k

  still : GroupKept f es' v
  still = (group_idle f es v k e may idle).kept

  -- the indexes that stood
  old_is : (i : ℕ) → i < length v.indexes → indexed_at f next i ≡ indexed_at f v i
  old_is i l = ap (as_index f v.low v.opens i) (get_or-append v.indexes (part ∷ []) no_part i l)

  -- the new one
  part_is : get_or next.indexes (length v.indexes) no_part ≡ part
  part_is = get_or-append_seam v.indexes part [] no_part

  young_is : indexed_at f next (length v.indexes) ≡ young
  young_is =
      let low = k.low in let high = rows.low in
      let p : max (max s 0) v.low ≡ s = omega arith in
      let q : max s 0 ≡ s = omega arith in
      ap (as_index f v.low v.opens (length v.indexes)) part_is ∙ (λ j. record young { kept = p j; floor = q j })

  none_begun : (u : ℕ) (y : Batch) → s ≤ u → batch_of tid.0 u es' ≡ Some y → ⊥
  none_begun u y l q =
      let n : batch_of tid.0 u es ≡ None = batch-none b tid.0 u es (omega arith) in
      let z : None ≡ Some y = sym (batch_of-snoc tid.0 u es e ∙ (idle.still.batches u (batch_of tid.0 u es) ∙ n)) ∙ q in
      cc

  young_kept : IndexKept sh b es' tid.0 v.high young
  unfolding Rattle.px_cells.specs.Contents.value_at
  young_kept = record {
    form = form;
    birth = drawn;
    cells = record { each = λ c h. cc };
    marked = λ u y q p l. absurd (none_begun u y (omega arith) q);
    apart = λ u y q z. none_begun u y (omega arith) q;
    kept = λ r. subst (Kept (shape_at sh (f.index id) r)) (sym (world_idle sh b es tid v.high e idle.still young r)) (born_kept sh b es tid v.high rows (f.index id) form s new (waits_in v.opens (length v.indexes)) r);
  }

  abbrev count : ℕ
  count = length next.indexes

  count_is : count ≡ length v.indexes + 1
  count_is = length-append v.indexes (part ∷ [])

  each_index : (i : ℕ) → i < count → IndexKept sh b es' tid.0 v.high (indexed_at f next i)
  each_index i l = elim (cases_lt i (length v.indexes)) [
    | inl m ↦ subst (IndexKept sh b es' tid.0 v.high) (sym (old_is i m)) (still.indexes i m)
    | inr m ↦
        (let n = count_is in
        let at : length v.indexes ≡ i = omega arith in
        subst (λ (z : ℕ). IndexKept sh b es' tid.0 v.high (indexed_at f next z)) at (subst (IndexKept sh b es' tid.0 v.high) (sym young_is) young_kept))
  ]

  each_own : (i : ℕ) → i < count → (get_or next.indexes i no_part).horizon ≤ v.high
  each_own i l = elim (cases_lt i (length v.indexes)) [
    | inl m ↦ subst (λ (x : IndexPart). x.horizon ≤ v.high) (sym (get_or-append v.indexes (part ∷ []) no_part i m)) (k.own i m)
    | inr m ↦
        (let n = count_is in
        let at : length v.indexes ≡ i = omega arith in
        subst (λ (z : ℕ). (get_or next.indexes z no_part).horizon ≤ v.high) at (subst (λ (x : IndexPart). x.horizon ≤ v.high) (sym part_is) (omega arith)))
  ]

  pub group_born : Bears f id s es v es'
  group_born = record {
    kept = record {
      legal = still.legal;
      base = still.base;
      shape = still.shape;
      high = still.high;
      indexes = each_index;
      told = still.told;
      low = still.low;
      own = each_own;
      begun = all_more (IsOpen (length v.indexes) (last_of b tid.0 es')) (IsOpen count (last_of b tid.0 es')) v.opens (λ o z. (z.0, ((let n = count_is in let i = z.1.0 in omega arith), z.1.1))) still.begun;
      apart = still.apart;
    };
    others = λ i l r. ap (λ (x : Indexed). world_at sh b es' tid.0 v.high x r) (old_is i l) ∙ world_idle sh b es tid v.high e idle.still (indexed_at f v i) r;
    born = λ r cells x at.
        subst (λ (y : IndexPart). happens (shape_at sh (f.index y.id) r) (world_of_history (history_at sh b es' tid.0 r) (marked_by (history_at sh b es' tid.0 r) (waits_in v.opens (length v.indexes))) cells x) (Birth s) ≡ world_in f es' next (length v.indexes) r) (sym part_is)
        ((λ j. world_of_history (history_at sh b es' tid.0 r) (marked_by (history_at sh b es' tid.0 r) (waits_in v.opens (length v.indexes))) (sym (view_empty (f.index id) r) j) (record { birth = s; raised = at j; kept = s; floor = s; is_built = false })) ∙ ap (λ (y : Indexed). world_at sh b es' tid.0 v.high y r) (sym young_is));
  }
