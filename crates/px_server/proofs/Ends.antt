-- What the end of a batch, and its giving up, leave of a server.
use Rattle.std.proofs.Common.{◌≡◌, ◌≢◌, ◌<◌, ◌≤◌, ◌+◌, ◌⊎◌, ◌==◌, ◌||◌, inl, inr, ℕ, zero, suc, Bool, true, false, not, Option, Some, None, List, [], ◌∷◌, ◌++◌, length, get_or, refl, sym, ap, subst, ◌∙◌, arith}
use Rattle.std.specs.Prelude.{IfNone, IfSome, IsTrue, remove, slice_get, sum_by}
use Rattle.std.specs.List.{list_any, slice_set}
use Rattle.std.proofs.lemmas.Bool.{false≢true, ne_eqb}
use Rattle.px_outside.specs.declared.disk.Disk.{Ghosts}
use Rattle.px_values.specs.declared.name.TableId.{TableId}
use Rattle.px_tables.specs.declared.table.Table.{Table}
use Rattle.px_trail.specs.declared.entry.Act.TheVariants.{Ended}
use Rattle.px_trail.specs.declared.entry.Entry.{Entry}
use Rattle.px_trail.specs.Batches.{Batch, IsBatchIn, batch_of}
use Rattle.px_trail.specs.Batches as phases
use Rattle.px_trail.specs.Legal.{Follows, IsEndable, MayCome}
use Rattle.px_trail.specs.Recorded.{Recorded}
use Rattle.px_trail.specs.Trail.{Base, Catalogue, catalogue_of, catalogue_step, closing_call, closing_step}
use Rattle.px_trail.proofs.Batches.{in_closing, in_marking, in_writing}
use Rattle.px_trail.proofs.Growth.{catalogue-snoc}
use Rattle.px_schema.specs.declared.standing.Standing.{Standing}
use Rattle.px_catalog.specs.declared.catalog.Catalog.{Catalog}
use Rattle.px_group.specs.Group.{AreTraced}
use Rattle.px_group.specs.declared.group.Begun.{Begun}
use Rattle.px_group.specs.declared.group.Group.{Group}
use Rattle.px_batching.specs.Receipts.{IsReceiptOf}
use Rattle.px_batching.specs.Steps.{Ends, LetsGo}
use Rattle.px_batching.specs.declared.ending.Told.{Told}
use Rattle.px_batching.proofs.Traced.{receipt_ends, traced_of}
use Rattle.px_recovery.proofs.Server.{newest_early}
use Rattle.px_calls.specs.Calls.{IsFinished, IsReceipt}
use Rattle.px_server.specs.Ending.{HasVerifiedEntry}
use Rattle.px_server.specs.Kept.{HasBegun, IsKept, owed_by}
use Rattle.px_server.specs.Others.{Beginning}
use Rattle.px_server.proofs.Blamed.{blamed_quiet}
use Rattle.px_server.proofs.Acted.{acted, acted_still, begun_at, once_at, points_at, right_at, tallied_at, traced_at}
use Rattle.px_server.proofs.Ended.{IsLeftBatch, IsWrittenBatch, ended_acted, ended_is, gone_acted, left_batch, no_marks, written_batch}
use Rattle.px_server.proofs.OpenBatches.{begun_tallied}
use Rattle.px_server.proofs.Released.{group_of, place_in}
use Rattle.px_server.proofs.Verified.{verified_done}
use Rattle.px_server.proofs.Room.{batch_goes, batch_owes, room_some}

unshut_by : (o : Option ℕ) (t : TableId) (s : ℕ) → closing_step o (Ended t s) ≡ o
unshut_by None t s = refl
unshut_by (Some c) t s = refl

still_by : (t : TableId) (s : ℕ) (c : Catalogue) → catalogue_step c (Ended t s) ≡ c
unfolding catalogue_step
still_by t s c = refl

same_some : {A : Type 0} (x y : A) → Some x ≡ Some y → x ≡ y
same_some x y e = cc

-- no batch of the stamp is in the list
none_any : (s : ℕ) (ms : List Begun) → ((m : ℕ) (x : Begun) → slice_get ms m ≡ Some x → x.batch.stamp ≡ s → ⊥) → list_any (λ z. z.batch.stamp == s) ms ≡ true → ⊥
none_any s [] none any = false≢true any
none_any s (z ∷ ms) none any = none_any s ms (λ m. none (suc m)) (sym (ap (λ v. v || list_any (λ w. w.batch.stamp == s) ms) (ne_eqb z.batch.stamp s (λ same. none zero z refl same))) ∙ any)

-- ---- the phase that the receipt tells of

closing_phase : (es : List Entry) (t s : ℕ) (w : Batch) → batch_of t s es ≡ Some w → (seat : ℕ) → IsBatchIn es seat t s phases.Closing → 2 ≤ w.phase
closing_phase es t s w is seat i = (let own : i.batch ≡ w = same_some i.batch w (sym i.is ∙ is) in subst (λ (x : Batch). 2 ≤ x.phase) own (in_closing i.batch i.phase).1)

-- in a server that isn't closed it has come to its last phase
pub running_end : (es : List Entry) (closed : Option ℕ) → closing_call es ≡ closed → closed ≡ None → (seat t s : ℕ) → IsEndable es seat t s → IsBatchIn es seat t s phases.Closing
running_end es closed closing running seat t s (inl i) = i
running_end es closed closing running seat t s (inr i) = absurd (i.0 (closing ∙ running))

-- where it is given up it hasn't ended, and the server is closed
pub left_running : (es : List Entry) (seat t s : ℕ) → IsBatchIn es seat t s phases.Marking ⊎ IsBatchIn es seat t s phases.Writing → (x : Batch) × ((batch_of t s es ≡ Some x) × (x.ended ≡ false))
left_running es seat t s (inl i) = (i.batch, (i.is, (in_marking i.batch i.phase).0))
left_running es seat t s (inr i) = (i.batch, (i.is, (in_writing i.batch i.phase).0))

pub closed_some : (es : List Entry) (closed : Option ℕ) → closing_call es ≡ closed → closing_call es ≢ None → (call : ℕ) × (closed ≡ Some call)
closed_some es None closing not = absurd (not closing)
closed_some es (Some call) closing not = (call, refl)

pub if_none : {A : Type 0} (P : Type 0) (o : Option A) → IfNone o P → o ≡ None → P
if_none P None f is = f
if_none P (Some a) f is = absurd cc

pub if_some : {A : Type 0} (P : A → Type 0) (o : Option A) → IfSome o P → (a : A) → o ≡ Some a → P a
if_some P None f a is = absurd cc
if_some P (Some x) f a is = subst P (same_some x a is) f

-- the batch that was found is the one at its place
pub end_stamp : (g h : Group) → g ≡ h → (m s : ℕ) → (m < length g.batches.items) × ((x : Begun) → slice_get g.batches.items m ≡ Some x → x.batch.stamp ≡ s) → (x : Begun) → slice_get h.batches.items m ≡ Some x → x.batch.stamp ≡ s
end_stamp g h same m s found x at = found.1 x (ap (λ (f : Group). slice_get f.batches.items m) same ∙ at)

-- ---- the server

module _ {D : Type 0} (d : Ghosts D) (b : Base) (sound premise : Type 0) (began : Beginning) (disk : D) (catalog : Catalog) (standing : Standing) (groups : List Group) (trail : Recorded) (late : Option Entry) (closed : Option ℕ) (k : IsKept d b sound premise began disk catalog standing groups trail late closed)
    (t : TableId) (place : ℕ) (g : Group) (l : place < length standing.tables) (number : (none : Table) → (get_or standing.tables place none).id ≡ t) (is : get_or groups place g ≡ g) (s : ℕ) where
  abbrev es : List Entry
  es = trail.entries

  inside : place < length groups
  inside = place_in groups standing.tables k.each.stand place l

  own : g.table.id ≡ t
  own = group_of groups standing.tables k.each.stand place g inside is t number

  begun_here : HasBegun es g
  begun_here = by closed refl
    where
      by : (o : Option ℕ) → closed ≡ o → HasBegun es g
      by None running = (let told = tallied_at d b sound premise began disk catalog standing groups trail late closed k place g inside is running in begun_tallied b es g told.held told.tallied)
      by (Some call) shut = begun_at d b sound premise began disk catalog standing groups trail late closed k place g inside is call shut

  traced_here : AreTraced es g
  traced_here = by closed refl
    where
      by : (o : Option ℕ) → closed ≡ o → AreTraced es g
      by None running = (let told = tallied_at d b sound premise began disk catalog standing groups trail late closed k place g inside is running in traced_of b es g told.held (right_at d b sound premise began disk catalog standing groups trail late closed k place g inside is running) told.tallied)
      by (Some call) shut = traced_at d b sound premise began disk catalog standing groups trail late closed k place g inside is call shut

  module _ (seat : ℕ) (can : IsEndable es seat t.0 s) where
    written : IsWrittenBatch es seat t.0 s
    written = written_batch b es k.told.legal seat t.0 s can

    -- the group has the batch
    pub has_end : ((m : ℕ) (x : Begun) → slice_get g.batches.items m ≡ Some x → x.batch.stamp ≡ s → ⊥) → ⊥
    has_end none = none_any s g.batches.items none (begun_here s written.batch (ap (λ (y : TableId). batch_of y.0 s es) own ∙ written.is) written.running written.written)

    module _ (m : ℕ) (x : Begun) (at : slice_get g.batches.items m ≡ Some x) where
      -- and there is room for the entry of its end
      pub end_room : 0 < trail.room
      end_room = room_some groups place g inside is closed trail k.room (let some = batch_owes g.batches.items m x at in omega (arith, some))

      module _ (stamp : x.batch.stamp ≡ s) (calls : ℕ) (calls_is : calls ≡ d.calls disk) where
        abbrev e : Entry
        e = record { seat = seat; calls = calls; act = Ended t s }

        act_is : e.act ≡ Ended g.table.id x.batch.stamp
        act_is = ap (λ (y : TableId). Ended y s) (sym own) ∙ ap (λ (n : ℕ). Ended g.table.id n) (sym stamp)

        may : MayCome b es e
        unfolding Follows
        may = record {
          follows = can;
          shut = λ no. absurd (false≢true (sym no));
          calls = (let n = newest_early (d.calls disk) 0 es (omega arith) k.server.early in omega (arith, n, calls_is));
        }

        marks : closed ≡ None → x.batch.marks ≡ []
        marks running = (let
            told = tallied_at d b sound premise began disk catalog standing groups trail late closed k place g inside is running
            in let
            i = running_end es closed k.told.closing running seat t.0 s can
            in let
            here : batch_of g.table.id.0 x.batch.stamp es ≡ Some i.batch = ap (λ (y : TableId). batch_of y.0 x.batch.stamp es) own ∙ (ap (λ (n : ℕ). batch_of t.0 n es) stamp ∙ i.is)
            in no_marks b es g told.held (right_at d b sound premise began disk catalog standing groups trail late closed k place g inside is running) told.tallied m x at i.batch here i.phase)

        pub ends : (tells_left : (y : D) (moment file : ℕ) (bytes : List ℕ) → d.left y moment file bytes → IsTrue d.tells) → ((y : D) (moment file : ℕ) (bytes : List ℕ) → d.left y moment file bytes → moment ≤ d.calls y)
            → (g' : Group) → LetsGo g g' m x → (trail' : Recorded) → trail'.entries ≡ es ++ e ∷ [] → trail'.room + 1 ≡ trail.room → IsKept d b sound premise began disk catalog standing (slice_set groups place g') trail' late closed
        ends tells_left up_to_now g' goes trail' entries room =
            acted d b sound premise began disk catalog standing groups trail late closed k place g inside is tells_left up_to_now e calls_is refl (blamed_quiet d disk trail.entries e refl k.blamed) may (unshut_by closed t s) (catalogue-snoc b es e ∙ still_by t s (catalogue_of b es))
            (λ y other same. other (sym same ∙ ap (λ (z : TableId). z.0) (sym own))) tt g'
            (ended_acted d disk g g' m x goes b es e may act_is closed (points_at d b sound premise began disk catalog standing groups trail late closed k place g inside is)
            (λ running. right_at d b sound premise began disk catalog standing groups trail late closed k place g inside is running) (λ running. tallied_at d b sound premise began disk catalog standing groups trail late closed k place g inside is running)
            (λ running. once_at d b sound premise began disk catalog standing groups trail late closed k place g inside is running) (λ call shut. traced_here) (λ call shut. begun_here) marks)
            trail' entries
            (let
            fewer = batch_goes g.batches.items m x at
            in let
            batches : sum_by owed_by g'.batches.items ≡ sum_by owed_by (remove g.batches.items m) = ap (sum_by owed_by) goes.batches
            in let
            points : length g'.points.items ≡ length g.points.items = ap (λ ps. length ps.items) goes.points
            in omega (arith, fewer, batches, points, room))

        -- its receipt
        pub receipt : (damaged : ℕ → ℕ → Bool) (g' : Group) (told : Told) (x' : Ends g g' m told) → x'.batch ≡ x → (trail' : Recorded) → trail'.entries ≡ es ++ e ∷ [] → closing_call trail'.entries ≡ closed → (u : Option ℕ) → (u ≡ None → (closed ≡ None) ⊎ HasVerifiedEntry es t.0 s) → ((call : ℕ) → u ≡ Some call → closed ≡ Some call)
            → IsReceipt (record { seat = seat; base = b; damaged = damaged; alone = true; seen = trail'.entries }) (record { table = t; stamp = s }) (record { table = t; stamp = s; rows = told.rows; concurrent = told.concurrent; unfinished = u; at = length trail'.entries })
        receipt damaged g' told x' same trail' entries closing u none some = record {
          table = refl;
          stamp = refl;
          at = refl;
          batch = here.batch;
          is = here.is;
          rows = here.rows;
          once = here.once;
          concurrent = here.concurrent;
          finished = finished u refl;
        }
          where
            there : IsReceiptOf (es ++ e ∷ []) g.table.id.0 x'.batch.batch.stamp told
            there = receipt_ends g g' m es traced_here told x' e (act_is ∙ ap (λ (y : Begun). Ended g.table.id y.batch.stamp) (sym same))

            here : IsReceiptOf trail'.entries t.0 s told
            here = subst (λ (ys : List Entry). IsReceiptOf ys t.0 s told) (sym entries) (subst (λ (y : TableId). IsReceiptOf (es ++ e ∷ []) y.0 s told) own (subst (λ (n : ℕ). IsReceiptOf (es ++ e ∷ []) g.table.id.0 n told) (ap (λ (y : Begun). y.batch.stamp) same ∙ stamp) there))

            after : batch_of t.0 s trail'.entries ≡ Some (record written.batch { ended = true })
            after = ap (batch_of t.0 s) entries ∙ ended_is es e t s written.batch refl written.is

            phase_is : here.batch.phase ≡ written.batch.phase
            phase_is = ap (λ (y : Batch). y.phase) (same_some here.batch (record written.batch { ended = true }) (sym here.is ∙ after))

            done : (closed ≡ None) ⊎ HasVerifiedEntry es t.0 s → 2 ≤ written.batch.phase
            done (inl running) = closing_phase es t.0 s written.batch written.is seat (running_end es closed k.told.closing running seat t.0 s can)
            done (inr v) = (let y = verified_done b es k.told.legal t.0 s v in subst (λ (z : Batch). 2 ≤ z.phase) (same_some y.batch written.batch (sym y.is ∙ written.is)) y.phase)

            finished : (o : Option ℕ) → u ≡ o → IsFinished o here.batch (record { seat = seat; base = b; damaged = damaged; alone = true; seen = trail'.entries })
            finished None is = (let n = done (none is) in let m = phase_is in omega (arith, n, m))
            finished (Some call) is = closing ∙ some call is

  -- ---- it is given up

  module _ (call : ℕ) (shut : closed ≡ Some call) (seat : ℕ) (can : IsBatchIn es seat t.0 s phases.Marking ⊎ IsBatchIn es seat t.0 s phases.Writing) where
    pub goes_away : (m : ℕ) (x : Begun) → x.batch.stamp ≡ s → slice_get g.batches.items m ≡ Some x → (g' : Group) → LetsGo g g' m x → IsKept d b sound premise began disk catalog standing (slice_set groups place g') trail late closed
    goes_away m x stamp at g' goes = (let
        left : IsLeftBatch es g.table.id.0 x.batch.stamp =
        subst (λ (y : TableId). IsLeftBatch es y.0 x.batch.stamp) (sym own) (subst (λ (n : ℕ). IsLeftBatch es t.0 n) (sym stamp) (left_batch b es k.told.legal seat t.0 s can))
        in acted_still d b sound premise began disk catalog standing groups trail late closed k place g inside is g'
        (gone_acted d disk g g' m x goes b es left closed call shut (points_at d b sound premise began disk catalog standing groups trail late closed k place g inside is) traced_here begun_here)
        (let
        fewer = batch_goes g.batches.items m x at
        in let
        batches : sum_by owed_by g'.batches.items ≡ sum_by owed_by (remove g.batches.items m) = ap (sum_by owed_by) goes.batches
        in let
        points : length g'.points.items ≡ length g.points.items = ap (λ ps. length ps.items) goes.points
        in omega (arith, fewer, batches, points)))
