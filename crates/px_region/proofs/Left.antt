-- The store, once a compaction forgot.
use Rattle.std.proofs.Common.{◌≡◌, ◌⊎◌, ℕ, ◌<◌, ◌≤◌, Bool, true, false, cond, Option, Some, None, List, [], ◌∷◌, ◌++◌, refl, sym, ap, subst, ◌∙◌, arith, inl, inr}
use Rattle.std.specs.Prelude.{◌||◌, nat_lt, Result, Ok}
use Rattle.std.specs.List.{AllByRecursion, filter}
use Rattle.std.specs.Ordering.{is_eq}
use Rattle.std.specs.declared.cmp.Ordering.{Ordering}
use Rattle.std.specs.declared.cmp.Ordering.TheVariants.{Less, Equal, Greater}
use Rattle.std.proofs.lemmas.Bool.{cases_Bool, cases_lt, le-ltb, lt-ltb}
use Rattle.std.proofs.lemmas.List.{append-nil}
use Rattle.px_outside.specs.declared.disk.Disk.{Ghosts}
use Rattle.px_cells.specs.CellData.{CellData}
use Rattle.px_cells.specs.Among.{Has}
use Rattle.px_cells.specs.Order.{Below, IsAscending, Reads, SamePlace, cell_cmp}
use Rattle.px_cells.proofs.Among.{HasNone, all_has, has_all, has_from_reads, reads_append, reads_from_has, reads_right}
use Rattle.px_cells.proofs.Sights.{equal_from_place, place_from_equal, place_same, reads_one, same_reads}
use Rattle.px_memstore.specs.Left.{cell_stays, has_place, left}
use Rattle.px_merge.specs.Kept.{IsKeptList}
use Rattle.px_merge.specs.Merged.{joined}
use Rattle.px_merge.proofs.Settling.{settle_is}
use Rattle.px_wal.specs.Batches.{AreOverHorizon, LogBatch, batches_above, cells_over, later_first}
use Rattle.px_wal.specs.Form.{batch_byte_count, cell_count}
use Rattle.px_wal.specs.Manifest.{named_snapshot}
use Rattle.px_wal.specs.Snapshot.{SnapshotData}
use Rattle.px_wal.specs.declared.manifest.Manifest.{Manifest}
use Rattle.px_wal.proofs.Cuts.{all_later}
use Rattle.px_frozen.specs.FrozenData.{FrozenData}
use Rattle.px_flushing.specs.Flushing.{Goes, HasFlushing, HasForgot, HasForgottenFiles, HasOnly, MayForget}
use Rattle.px_flushing.specs.declared.fault.FlushFault.{FlushFault}
use Rattle.px_flushing.specs.declared.flushing.Flushing.{Flushing}
use Rattle.px_flushing.specs.declared.flushing.FlushStep.{FlushStep}
use Rattle.px_flushing.specs.declared.flushing.FlushStep.TheVariants as step
use Rattle.px_region.specs.Forgetting.{ForgetsBy, MayGoOn}
use Rattle.px_region.specs.Region.{RegionData, RegionHolds}
use Rattle.px_region.specs.Stamps.{Allows, HaveLeast}
use Rattle.px_region.specs.declared.region.Region.{Region}
use Rattle.px_region.specs.declared.stamps.LeastStamps.{LeastStamps}
use Rattle.px_region.proofs.Holding.{flush_forgot}
use Rattle.px_region.proofs.Least.{least_over}

-- ---- what a test leaves

module _ (test : CellData → Bool) where
  pub filter_from : (cells : List CellData) (c : CellData) → Has (filter test cells) c → Has cells c × (test c ≡ true)
  filter_from [] c has = absurd has
  filter_from (x ∷ cells) c has = go (test x) refl (λ rest. filter_from cells c rest) has
    where
      go : (b : Bool) → test x ≡ b → (Has (filter test cells) c → Has cells c × (test c ≡ true)) → Has (cond b (x ∷ filter test cells) (filter test cells)) c → Has (x ∷ cells) c × (test c ≡ true)
      go true e next (inl same) = (inl same, subst (λ (y : CellData). test y ≡ true) same e)
      go true e next (inr rest) = (let r = next rest in (inr r.0, r.1))
      go false e next rest = (let r = next rest in (inr r.0, r.1))

  pub filter_to : (cells : List CellData) (c : CellData) → Has cells c → test c ≡ true → Has (filter test cells) c
  filter_to [] c has e = has
  filter_to (x ∷ cells) c (inl same) e = subst (λ (b : Bool). Has (cond b (x ∷ filter test cells) (filter test cells)) c) (sym (ap test same ∙ e)) (inl same)
  filter_to (x ∷ cells) c (inr has) e = go (test x) (filter_to cells c has e)
    where
      go : (b : Bool) → Has (filter test cells) c → Has (cond b (x ∷ filter test cells) (filter test cells)) c
      go true rest = inr rest
      go false rest = rest

  pub filter_sorted : (cells : List CellData) → IsAscending cells → IsAscending (filter test cells)
  filter_sorted [] sorted = tt
  filter_sorted (x ∷ cells) sorted = go (test x) (filter_sorted cells sorted.1)
    where
      go : (b : Bool) → IsAscending (filter test cells) → IsAscending (cond b (x ∷ filter test cells) (filter test cells))
      go true rest = (has_all (Below x) (filter test cells) (λ m has. all_has (Below x) cells m sorted.0 (filter_from cells m has).0), rest)
      go false rest = rest

pub or_true : (b : Bool) → (b || true) ≡ true
or_true true = refl
or_true false = refl

is_equal : (o : Ordering) → is_eq o ≡ true → o ≡ Equal
is_equal Less e = cc
is_equal Equal e = refl
is_equal Greater e = cc

pub place_some : (kept : List CellData) (c : CellData) → has_place kept c ≡ true → (k : CellData) × (Has kept k × SamePlace k c)
place_some [] c e = cc
place_some (k ∷ kept) c e = elim (cases_Bool (is_eq (cell_cmp k c))) [
  | inl same ↦ (k, (inl refl, place_from_equal k c (is_equal (cell_cmp k c) same)))
  | inr other ↦ (let r = place_some kept c (sym (ap (λ (b : Bool). b || has_place kept c) other) ∙ e) in (r.0, (inr r.1.0, r.1.1)))
]

pub place_of : (kept : List CellData) (c : CellData) → Has kept c → has_place kept c ≡ true
place_of [] c has = absurd has
place_of (k ∷ kept) c (inl same) = ap (λ (b : Bool). b || has_place kept c) (ap is_eq (equal_from_place k c (place_same k c same)))
place_of (k ∷ kept) c (inr has) = ap (λ (b : Bool). is_eq (cell_cmp k c) || b) (place_of kept c has) ∙ or_true (is_eq (cell_cmp k c))

pub stays_by : (kept : List CellData) (h : ℕ) (c : CellData) → cell_stays kept h c ≡ true → (h < c.stamp) ⊎ (has_place kept c ≡ true)
stays_by kept h c e = elim (cases_lt h c.stamp) [
  | inl l ↦ inl l
  | inr le ↦ inr (sym (ap (λ (b : Bool). b || has_place kept c) (le-ltb h c.stamp le)) ∙ e)
]

-- ---- what is left of a store is what the horizon keeps

module _ (n h : ℕ) (batches : List LogBatch) (old kept new : List CellData) (over : AreOverHorizon h (batches_above n batches)) (whole : IsKeptList old h (cells_over n batches (kept ∷ []))) (sorted : IsAscending old) (kept_sorted : IsAscending kept) (is : new ≡ left kept h old) where
  abbrev log : List CellData
  log = later_first (batches_above n batches)

  -- each cell of the log is above it
  log_over : AllByRecursion (λ (c : CellData). h < c.stamp) log
  log_over = all_later (λ (c : CellData). h < c.stamp) (batches_above n batches) over

  one : joined (kept ∷ []) ≡ kept
  one = append-nil kept

  -- at or below it there are those of the file
  low_to : (c : CellData) → c.stamp ≤ h → Reads (cells_over n batches (kept ∷ [])) c → Reads kept c
  low_to c le r = by (reads_append log (joined (kept ∷ [])) c (((settle_is (log ++ joined (kept ∷ []))).same c).0 r))
    where
      by : Reads log c ⊎ (HasNone log c × Reads (joined (kept ∷ [])) c) → Reads kept c
      by (inl a) = absurd (let l = all_has (λ (x : CellData). h < x.stamp) log c log_over (has_from_reads log c a) in omega (arith, l, le))
      by (inr b) = subst (λ (l : List CellData). Reads l c) one b.1

  low_of : (c : CellData) → c.stamp ≤ h → Reads kept c → Reads (cells_over n batches (kept ∷ [])) c
  low_of c le r =
      ((settle_is (log ++ joined (kept ∷ []))).same c).1
      (reads_right log (joined (kept ∷ [])) c
      (has_all (λ (x : CellData). SamePlace x c → ⊥) log (λ x has same. (let l = all_has (λ (x : CellData). h < x.stamp) log x log_over has in let s = same.stamp in omega (arith, l, s, le))))
      (subst (λ (l : List CellData). Reads l c) (sym one) r))

  -- a cell at or below it whose place is among them is one of them
  low_place : (c : CellData) → c.stamp ≤ h → Reads old c → has_place kept c ≡ true → Reads (cells_over n batches (kept ∷ [])) c
  low_place c le o e =
      let k = place_some kept c e in
      let low : k.0.stamp ≤ h = (let s = k.1.1.stamp in omega (arith, le, s)) in
      let there = low_of k.0 low (reads_from_has kept k.0 kept_sorted k.1.0) in
      subst (λ (x : CellData). Reads (cells_over n batches (kept ∷ [])) x) (reads_one old k.0 c k.1.1 ((whole.exact k.0).0 there).0 o) there

  to : (c : CellData) → Reads new c → Reads (cells_over n batches (kept ∷ [])) c
  to c r =
      let f = filter_from (cell_stays kept h) old c (subst (λ (l : List CellData). Has l c) is (has_from_reads new c r)) in
      by (reads_from_has old c sorted f.0) (stays_by kept h c f.1)
    where
      by : Reads old c → (h < c.stamp) ⊎ (has_place kept c ≡ true) → Reads (cells_over n batches (kept ∷ [])) c
      by o (inl l) = (whole.exact c).1 (o, inl l)
      by o (inr e) = elim (cases_lt h c.stamp) [
        | inl l ↦ (whole.exact c).1 (o, inl l)
        | inr le ↦ low_place c le o e
      ]

  new_sorted : IsAscending new
  new_sorted = subst IsAscending (sym is) (filter_sorted (cell_stays kept h) old sorted)

  kept_stays : (c : CellData) → Reads (cells_over n batches (kept ∷ [])) c → cell_stays kept h c ≡ true
  kept_stays c r = elim (cases_lt h c.stamp) [
    | inl l ↦ ap (λ (b : Bool). b || has_place kept c) (lt-ltb h c.stamp l)
    | inr le ↦ ap (λ (b : Bool). nat_lt h c.stamp || b) (place_of kept c (has_from_reads kept c (low_to c le r))) ∙ or_true (nat_lt h c.stamp)
  ]

  back : (c : CellData) → Reads (cells_over n batches (kept ∷ [])) c → Reads new c
  back c r =
      let o = ((whole.exact c).0 r).0 in
      reads_from_has new c new_sorted (subst (λ (l : List CellData). Has l c) (sym is) (filter_to (cell_stays kept h) old c (has_from_reads old c o) (kept_stays c r)))

  pub left_same : new ≡ cells_over n batches (kept ∷ [])
  left_same = same_reads new (cells_over n batches (kept ∷ [])) new_sorted whole.list.ascending (λ c. (to c, back c))

-- ---- a step that forgot

pub goes_forgot : (r : Result FlushStep FlushFault) (h : ℕ) (old new : List CellData) → r ≡ Ok (step.Forgot h) → Goes r old new → IsKeptList old h new
goes_forgot r h old new is goes = subst (λ (x : Result FlushStep FlushFault). Goes x old new) is goes

pub forgot_only : (r : Result FlushStep FlushFault) (h : ℕ) (flushing : Flushing) (lists : List (List CellData)) → r ≡ Ok (step.Forgot h) → HasForgot r flushing lists → HasOnly flushing.kept lists
forgot_only r h flushing lists is has = subst (λ (x : Result FlushStep FlushFault). HasForgot x flushing lists) is has

only_some : (o : Option FrozenData) (lists : List (List CellData)) → HasOnly o lists → (kept : FrozenData) × ((o ≡ Some kept) × (lists ≡ kept.cells ∷ []))
only_some None lists only = absurd only
only_some (Some kept) lists only = (kept, (refl, only))

-- the horizon of the compaction that is under way is below all that isn't in a file
pub may_forget : (o : Option ℕ) (stamps : LeastStamps) (batches : List LogBatch) → MayGoOn o stamps → HaveLeast stamps batches → MayForget o batches
may_forget None stamps batches may least = tt
may_forget (Some h) stamps batches may least = least_over stamps h batches may least

pub may_allow : (o : Option ℕ) (h : ℕ) (stamps : LeastStamps) → o ≡ Some h → MayGoOn o stamps → Allows stamps h
may_allow o h stamps is may = subst (λ (x : Option ℕ). MayGoOn x stamps) is may

module _ {D : Type 0} (d : Ghosts D) (region : Region) (disk : D) (s : RegionData) (holds : RegionHolds d region disk s) (disk' : D) (manifest : Manifest) (h : ℕ) (mid : Flushing) (after : List (List CellData)) (store : List CellData)
    (forgotten : HasForgottenFiles (named_snapshot region.manifest) (named_snapshot manifest) h) (has : HasFlushing d manifest region.wal mid disk' holds.batches after)
    (whole : IsKeptList (cells_over (named_snapshot region.manifest).flushed holds.batches holds.lists) h (cells_over (named_snapshot manifest).flushed holds.batches after)) (only : HasOnly mid.kept after) (allows : Allows region.stamps h)
    (thinned : (kept : FrozenData) → mid.kept ≡ Some kept → store ≡ left kept.cells h region.store.cells) (sorted : (kept : FrozenData) → mid.kept ≡ Some kept → IsAscending kept.cells) where
  same : (named_snapshot manifest).flushed ≡ (named_snapshot region.manifest).flushed
  same = ap (λ (n : SnapshotData). n.flushed) forgotten.is

  some : (kept : FrozenData) × ((mid.kept ≡ Some kept) × (after ≡ kept.cells ∷ []))
  some = only_some mid.kept after only

  -- the store has what is read then
  pub store_then : store ≡ cells_over (named_snapshot manifest).flushed holds.batches after
  store_then =
      let kept = some.0.cells in
      let one : cells_over (named_snapshot manifest).flushed holds.batches after ≡ cells_over (named_snapshot region.manifest).flushed holds.batches (kept ∷ []) =
      ap (λ (l : List (List CellData)). cells_over (named_snapshot manifest).flushed holds.batches l) some.1.1 ∙ ap (λ (n : ℕ). cells_over n holds.batches (kept ∷ [])) same in
      let all : IsKeptList region.store.cells h (cells_over (named_snapshot region.manifest).flushed holds.batches (kept ∷ [])) =
      subst (λ (l : List CellData). IsKeptList region.store.cells h l) one (subst (λ (l : List CellData). IsKeptList l h (cells_over (named_snapshot manifest).flushed holds.batches after)) (sym holds.store) whole) in
      let all_sorted : IsAscending region.store.cells = subst IsAscending (sym holds.store) (settle_is (later_first (batches_above (named_snapshot region.manifest).flushed holds.batches) ++ joined holds.lists)).ascending in
      left_same (named_snapshot region.manifest).flushed h holds.batches region.store.cells kept store (least_over region.stamps h (batches_above (named_snapshot region.manifest).flushed holds.batches) allows holds.least) all all_sorted (sorted some.0 some.1.0) (thinned some.0 some.1.0)
      ∙ sym one

  pub forgot_kept : IsKeptList s.cells h store
  forgot_kept = subst (λ (l : List CellData). IsKeptList l h store) (sym (holds.cells ∙ holds.store)) (subst (λ (l : List CellData). IsKeptList (cells_over (named_snapshot region.manifest).flushed holds.batches holds.lists) h l) (sym store_then) whole)

  pub forgot_raised : s.horizon ≤ h
  forgot_raised = subst (λ (n : ℕ). n ≤ h) (sym (holds.horizon ∙ holds.named)) forgotten.raised

  pub forgot_by : (o : Option ℕ) → o ≡ Some h → ForgetsBy o s (record { cells = store; horizon = h })
  forgot_by o is = subst (λ (x : Option ℕ). ForgetsBy x s (record { cells = store; horizon = h })) (sym is) (record { kept = forgot_kept; horizon_is = refl }, forgot_raised)

  pub forgot_holds : (flushing : Flushing) (new : Region) → HasFlushing d manifest region.wal flushing disk' holds.batches after → flushing.number ≡ region.flushing.number → region.number ≡ new.number → manifest ≡ new.manifest → region.wal ≡ new.wal → flushing ≡ new.flushing → h ≡ new.horizon → store ≡ new.store.cells
      → region.cells ≡ new.cells → region.bytes ≡ new.bytes → region.stamps ≡ new.stamps → RegionHolds d new disk' (record { cells = store; horizon = h })
  forgot_holds flushing new goes mine =
      flush_forgot d region disk s holds disk' manifest flushing after h store region.cells region.bytes region.stamps (record { cells = store; horizon = h }) new goes store_then mine (sym (ap (λ (n : SnapshotData). n.horizon) forgotten.is)) refl refl
      (holds.counted ∙ ap (λ (n : ℕ). cell_count (batches_above n holds.batches)) (sym same)) (holds.weighed ∙ ap (λ (n : ℕ). batch_byte_count (batches_above n holds.batches)) (sym same)) (subst (λ (n : ℕ). HaveLeast region.stamps (batches_above n holds.batches)) (sym same) holds.least)
