-- The steps of a DELETE, from those of a SELECT and of its batches.
use Rattle.std.proofs.Common.{ℕ, ◌≡◌, ◌≢◌, ◌≤◌, ◌<◌, ◌+◌, ◌*◌, Option, None, Result, Ok, Err, List, [], ◌∷◌, ◌++◌, length, take, drop, vec_capacity, refl, sym, ap, subst, ◌∙◌, arith, append_assoc, inl, inr}
use Rattle.std.proofs.lemmas.List.{append-nil, length-append, length-drop}
use Rattle.std.specs.List.{AllByRecursion}
use Rattle.std.specs.List.Sorted.{IsStrictlySortedBy}
use Rattle.px_values.specs.declared.change.Change.{Change}
use Rattle.px_values.specs.declared.name.TableId.{TableId}
use Rattle.px_trail.specs.declared.entry.Act.{Act}
use Rattle.px_trail.specs.Batches.{rows_of}
use Rattle.px_trail.specs.Legal.{IsLegal}
use Rattle.px_trail.specs.Trail.{acts_by}
use Rattle.px_calls.specs.declared.ticket.Receipt.{Receipt}
use Rattle.px_calls.specs.Known.{Known, Ran, outline}
use Rattle.px_calls.specs.Requires.{AreFitting, IsChangeOf}
use Rattle.px_batch.specs.Turns as batch
use Rattle.px_batch.specs.declared.batch.BatchFault.{BatchFault}
use Rattle.px_batch.specs.declared.batch.BatchFault.TheVariants as unmade
use Rattle.px_batch.specs.declared.batch.BatchState.{BatchState}
use Rattle.px_batch.specs.declared.batch.BatchState.TheVariants as batches
use Rattle.px_batch.specs.declared.batch.BatchTurn.TheVariants as came
use Rattle.px_batch.specs.declared.run.BatchRun.{BatchRun}
use Rattle.px_planned.specs.Queries.{query_of}
use Rattle.px_planned.specs.declared.planned.Planned.{Planned}
use Rattle.px_scan.specs.Faults as scan_faults
use Rattle.px_scan.specs.Turns as scan
use Rattle.px_scan.proofs.Quieting.{device-since}
use Rattle.px_scan.specs.declared.answer.QueryFault.{QueryFault}
use Rattle.px_scan.specs.declared.answer.QueryFault.TheVariants as unread
use Rattle.px_scan.specs.declared.machine.QueryState.{QueryState}
use Rattle.px_select.specs.Selecting as selecting
use Rattle.px_select.specs.declared.run.SelectRun.{SelectRun}
use Rattle.px_select.specs.declared.run.SelectTurn.TheVariants as selects
use Rattle.px_select.specs.declared.run.Selected.{Selected}
use Rattle.px_removals.specs.Removals.{AreRemovals, IsSplit, key_order}
use Rattle.px_removals.proofs.Splitting.{fitting-front, fitting-rest, sorted-rest, split-more}
use Rattle.px_deleting.specs.declared.deleted.DeleteFault.{DeleteFault}
use Rattle.px_deleting.specs.declared.deleted.DeleteFault.TheVariants as fault
use Rattle.px_deleting.specs.declared.deleted.DeleteTurn.{DeleteTurn}
use Rattle.px_deleting.specs.declared.deleted.DeleteTurn.TheVariants as turn
use Rattle.px_deleting.specs.declared.deleted.Deleted.{Deleted}
use Rattle.px_deleting.specs.declared.deleted.Removed.{Removed}
use Rattle.px_deleting.specs.declared.machine.DeleteState.{DeleteState}
use Rattle.px_deleting.specs.declared.machine.DeleteState.TheVariants as state
use Rattle.px_deleting.specs.declared.machine.Left.{Left}
use Rattle.px_deleting.specs.Deleting.{AreMade, CanBegin, DeleteTurns, FitsFinding, FitsRemoving, HasFoundRows, HasMadeBatch, IsDeleteEnd, IsDeleteOutcome, IsEndSince, IsRemoving}
use Rattle.px_deleting.specs.inner.Going.{IsAfterAnswer, IsAfterBatch, IsAfterFound, IsNextRun, IsStopped, IsUnread}
use Rattle.px_deleting.proofs.Past.{all-later, can-later, fitting-later, fitting-now, found-at, found-later, found-now, made-more, ran-later, since-at, since-now, since-ran, was-now}

-- 1. The rows are being found

-- what the seat did for the run so far is what the SELECT has opened
so_far : (own : List Act) (s : QueryState) (acts : List Act) → own ≡ scan.opened_by_query s → own ++ outline acts ≡ scan.opened_by_query s ++ outline acts
so_far own s acts e = ap (λ (l : List Act). l ++ outline acts) e

can_after : (k k' : Known) (p : Planned) (acts : List Act) → Ran k k' acts → CanBegin k p → CanBegin k' p
can_after k k' p acts r c = can-later k k' p (ran-later k k' acts r) (r.legal c.legal) c

-- the run goes on
finding_fits : (sound : Type 0) (p : Planned) (k k' : Known) (run new : SelectRun) (acts : List Act) → new.scan.query ≡ run.scan.query → new.scan.scn ≡ run.scan.scn → FitsFinding sound p run k → Ran k k' acts
    → scan.FitsScan sound (query_of run.scan.query) run.scan.scn new.scan.state k' → scan.IsQueryGoing new.scan.state → FitsFinding sound p new k'
finding_fits sound p k k' run new acts q s h r fits going = record {
  can = can_after k k' p acts r h.can;
  planned = q ∙ h.planned;
  scn = s ∙ h.scn;
  fits = subst (λ (w : Planned). scan.FitsScan sound (query_of w) new.scan.scn new.scan.state k') (sym q) (subst (λ (n : Option ℕ). scan.FitsScan sound (query_of run.scan.query) n new.scan.state k') (sym s) fits);
  going = going;
}

pub finds-on : (sound : Type 0) (p : Planned) (k k' : Known) (run new : SelectRun) → new.scan.query ≡ run.scan.query → new.scan.scn ≡ run.scan.scn → FitsFinding sound p run k
    → selecting.SelectTurns sound run.scan.query run.scan.scn run.scan.state k new.scan.state k' selects.Stepped → DeleteTurns sound p (state.Finding run) k (state.Finding new) k' turn.Stepped
finds-on sound p k k' run new q s h t = record {
  acts = t.acts;
  ran = t.ran;
  fits = finding_fits sound p k k' run new t.acts q s h t.ran t.fits t.told.0;
  told = λ m own low e. (tt, so_far own run.scan.state t.acts e ∙ t.told.1);
  since = λ n from. t.since n from;
  edge = t.edge;
}

awaited : (p q : Planned) (scn : Option ℕ) (s : QueryState) (k : Known) (stamp : ℕ) → q ≡ p → scn ≡ None → scan.IsAwaitedByQuery (query_of q) scn s k stamp → scan.IsAwaitedByQuery (query_of p) None s k stamp
awaited p q scn s k stamp e n h = subst (λ (w : Planned). scan.IsAwaitedByQuery (query_of w) None s k stamp) e (subst (λ (m : Option ℕ). scan.IsAwaitedByQuery (query_of q) m s k stamp) n h)

pub finds-waiting : (sound : Type 0) (p : Planned) (k k' : Known) (run new : SelectRun) (stamp : ℕ) → new.scan.query ≡ run.scan.query → new.scan.scn ≡ run.scan.scn → FitsFinding sound p run k
    → selecting.SelectTurns sound run.scan.query run.scan.scn run.scan.state k new.scan.state k' (selects.Waiting stamp) → DeleteTurns sound p (state.Finding run) k (state.Finding new) k' (turn.Waiting stamp)
finds-waiting sound p k k' run new stamp q s h t = record {
  acts = t.acts;
  ran = t.ran;
  fits = finding_fits sound p k k' run new t.acts q s h t.ran t.fits t.told.0;
  told = λ m own low e. (tt, so_far own run.scan.state t.acts e ∙ t.told.1, awaited p run.scan.query run.scan.scn run.scan.state k' stamp h.planned h.scn t.told.2);
  since = λ n from. t.since n from;
  edge = t.edge;
}

-- what the SELECT came to, as the query of the DELETE
came_to : (sound : Type 0) (p : Planned) (k k' : Known) (run : SelectRun) (acts own : List Act) (r : Result Selected QueryFault) → FitsFinding sound p run k → own ≡ scan.opened_by_query run.scan.state
    → selecting.IsSelectOutcome sound run.scan.query run.scan.scn (scan.opened_by_query run.scan.state ++ outline acts) k' r → selecting.IsSelectOutcome sound p None (own ++ outline acts) k' r
came_to sound p k k' run acts own r h e o =
    subst (λ (l : List Act). selecting.IsSelectOutcome sound p None l k' r) (sym (so_far own run.scan.state acts e))
    (subst (λ (w : Planned). selecting.IsSelectOutcome sound w None (scan.opened_by_query run.scan.state ++ outline acts) k' r) h.planned
    (subst (λ (n : Option ℕ). selecting.IsSelectOutcome sound run.scan.query n (scan.opened_by_query run.scan.state ++ outline acts) k' r) h.scn o))

unread_end : (sound : Type 0) (p : Planned) (n : ℕ) (own : List Act) (k : Known) (f : QueryFault) (d : Deleted) → IsUnread f (turn.Over d) → selecting.IsSelectOutcome sound p None own k (Err f) → IsDeleteOutcome sound p n own k d
unread_end sound p n own k f d u o = subst (λ (r : Result Removed DeleteFault). IsDeleteEnd sound p n own k d.receipts.items r) (sym u.1) (u.0, o)

unread_since : (n : ℕ) (k : Known) (f : QueryFault) (d : Deleted) → IsUnread f (turn.Over d) → scan_faults.QueryFaultSince n f k → IsEndSince n d.end k
unread_since n k f d u h = subst (λ (r : Result Removed DeleteFault). IsEndSince n r k) (sym u.1) h

-- the rows were not found
pub finds-none : (sound : Type 0) (p : Planned) (k k' : Known) (run : SelectRun) (new : QueryState) (f : QueryFault) (t : DeleteTurn) → FitsFinding sound p run k
    → selecting.SelectTurns sound run.scan.query run.scan.scn run.scan.state k new k' (selects.Over (Err f)) → IsUnread f t → DeleteTurns sound p (state.Finding run) k state.Over k' t
finds-none sound p k k' run new f turn.Stepped h t u = absurd u
finds-none sound p k k' run new f (turn.Waiting stamp) h t u = absurd u
finds-none sound p k k' run new f (turn.Over d) h t u = record {
  acts = t.acts;
  ran = t.ran;
  fits = tt;
  told = λ m own low e. (refl, unread_end sound p m (own ++ outline t.acts) k' f d u (came_to sound p k k' run t.acts own (Err f) h e t.told.1));
  since = λ n from. unread_since n k' f d u (device-since n (query_of run.scan.query) run.scan.scn f k' (t.since n from));
  edge = tt;
}

-- 2. The rows are found

memory_is : (sound : Type 0) (p : Planned) (own : List Act) (k : Known) (a : Selected) → selecting.IsSelectOutcome sound p None own k (Ok a) → selecting.IsSelectOutcome sound p None own k (Err unread.Memory)
memory_is sound p own k a h = (tt, inr (_, _, h.1))

-- all of none
none_end : (sound : Type 0) (p : Planned) (n : ℕ) (own : List Act) (k : Known) (a : Selected) (cs : List Change) (d : Deleted) → selecting.IsSelectOutcome sound p None own k (Ok a) → AreRemovals p.table.key a.shown.rows cs → cs ≡ []
    → d.receipts.items ≡ [] → d.end ≡ Ok (record { rows = 0; first = a.first }) → IsDeleteOutcome sound p n own k d
none_end sound p n own k a cs d h r none rs e =
    subst (λ (l : List Receipt). IsDeleteEnd sound p n own k l d.end) (sym rs)
    (subst (λ (w : Result Removed DeleteFault). IsDeleteEnd sound p n own k [] w) (sym e) (record {
      changes = cs;
      parts = [];
      finding = own;
      making = [];
      found = found-now sound p own k a a.first cs refl h r;
      made = refl;
      split = sym none;
      rows = sym (ap length none);
      own_is = sym (append-nil own);
      found_first = since-now sound p own k a a.first cs refl h r;
    }))

-- the run of the next part
next_fits : (sound : Type 0) (p : Planned) (k : Known) (t : TableId) (cs : List Change) (run : BatchRun) (left : Left) → t ≡ p.table.id → IsNextRun t cs run left → IsLegal k.base k.seen → AreFitting k p.table.id.0 cs → IsStrictlySortedBy (key_order p.table.key) (rows_of cs)
    → length (drop 1000 cs) + 1000 * (length left.receipts.items + 1) ≤ 1000 * vec_capacity left.receipts → FitsRemoving sound p run left k
next_fits sound p k t cs run left e n legal f s room =
    let fit : batch.FitsBatch sound p.table.id (take 1000 cs) batches.Beginning k = fitting-front k p.table.id.0 1000 cs f in
    record {
      legal = legal;
      table = n.table ∙ e;
      left_table = n.left_table ∙ e;
      fits = subst (λ (i : TableId). batch.FitsBatch sound i run.changes run.state k) (sym (n.table ∙ e))
          (subst (λ (l : List Change). batch.FitsBatch sound p.table.id l run.state k) (sym n.part) (subst (λ (b : BatchState). batch.FitsBatch sound p.table.id (take 1000 cs) b k) (sym n.beginning) fit));
      going = subst (λ (b : BatchState). batch.IsBatchGoing b) (sym n.beginning) tt;
      ordered = subst (λ (l : List Change). IsStrictlySortedBy (key_order p.table.key) (rows_of l)) (sym n.behind) (sorted-rest p.table.key 1000 cs s);
      fitting = subst (λ (l : List Change). AreFitting k p.table.id.0 l) (sym n.behind) (fitting-rest k p.table.id.0 1000 cs f);
      room = subst (λ (l : List Change). length l + 1000 * (length left.receipts.items + 1) ≤ 1000 * vec_capacity left.receipts) (sym n.behind) room;
    }

begun_none : (t : TableId) (cs : List Change) (b : BatchState) → b ≡ batches.Beginning → batch.begun_by_batch t cs b ≡ []
begun_none t cs b e = ap (λ (x : BatchState). batch.begun_by_batch t cs x) e

since_begin : (n : ℕ) (b : BatchState) (k : Known) → b ≡ batches.Beginning → n ≤ length k.seen → batch.IsBatchSince n b k
since_begin n b k e h = subst (λ (x : BatchState). batch.IsBatchSince n x k) (sym e) h

some_length : (cs : List Change) → cs ≢ [] → 0 < length cs
some_length [] h = absurd (h refl)
some_length (c ∷ cs) h = omega arith

first_room : (cs : List Change) (m : ℕ) → cs ≢ [] → length cs ≤ 1000 * m → length (drop 1000 cs) + 1000 * (0 + 1) ≤ 1000 * m
first_room cs m some h = let s = some_length cs some in let d = length-drop 1000 cs in omega arith

-- the first batch is begun, or nothing is to be removed, or no memory was found
pub found-then : (sound : Type 0) (p : Planned) (k k' : Known) (run : SelectRun) (ended : QueryState) (a : Selected) (cs : List Change) (new : DeleteState) (t : DeleteTurn) → FitsFinding sound p run k
    → selecting.SelectTurns sound run.scan.query run.scan.scn run.scan.state k ended k' (selects.Over (Ok a)) → AreRemovals p.table.key a.shown.rows cs → AllByRecursion (IsChangeOf p.table) cs → IsAfterFound p.table.id cs a.first new t
    → DeleteTurns sound p (state.Finding run) k new k' t
found-then sound p k k' run ended a cs (state.Removing next left) turn.Stepped h t r f w =
    let can = can_after k k' p t.acts t.ran h.can in
    let n = w.0 in
    record {
      acts = t.acts;
      ran = t.ran;
      fits = next_fits sound p k' p.table.id cs next left refl n can.legal (fitting-now k' p cs can f) r.ordered
          (subst (λ (rs : List Receipt). length (drop 1000 cs) + 1000 * (length rs + 1) ≤ 1000 * vec_capacity left.receipts) (sym w.1) (first_room cs (vec_capacity left.receipts) n.some w.2));
      told = λ m own low e. (
        tt,
        (let o = came_to sound p k k' run t.acts own (Ok a) h e t.told.1 in record {
          changes = cs;
          parts = [];
          rest = cs;
          finding = own ++ outline t.acts;
          making = [];
          found = found-now sound p (own ++ outline t.acts) k' a left.first cs (sym w.4) o r;
          made = subst (λ (rs : List Receipt). AreMade sound k' p.table.id [] rs []) (sym w.1) refl;
          split = refl;
          some = n.some;
          part = n.part;
          behind = n.behind;
          rows = w.3;
          own_is = sym (append-nil (own ++ outline t.acts)) ∙ ap (λ (l : List Act). (own ++ outline t.acts) ++ l) (sym (begun_none p.table.id next.changes next.state n.beginning));
          found_first = since-now sound p (own ++ outline t.acts) k' a left.first cs (sym w.4) o r ∙ sym (begun_none p.table.id next.changes next.state n.beginning);
        }),
      );
      since = λ m from. (let low = t.since m from in let o = t.told.1 in (subst (λ (x : ℕ). m ≤ x) (sym w.4) low, since_begin m next.state k' n.beginning (let a1 = o.2 in let a2 = o.3 in omega arith)));
      edge = tt;
    }
found-then sound p k k' run ended a cs state.Over (turn.Over d) h t r f (rs, inl (none, e)) = record {
  acts = t.acts;
  ran = t.ran;
  fits = tt;
  told = λ n own low b. (refl, none_end sound p n (own ++ outline t.acts) k' a cs d (came_to sound p k k' run t.acts own (Ok a) h b t.told.1) r none rs e);
  since = λ n from. subst (λ (x : Result Removed DeleteFault). IsEndSince n x k') (sym e) (t.since n from);
  edge = tt;
}
found-then sound p k k' run ended a cs state.Over (turn.Over d) h t r f (rs, inr e) = record {
  acts = t.acts;
  ran = t.ran;
  fits = tt;
  told = λ n own low b. (refl, unread_end sound p n (own ++ outline t.acts) k' unread.Memory d (rs, e) (memory_is sound p (own ++ outline t.acts) k' a (came_to sound p k k' run t.acts own (Ok a) h b t.told.1)));
  since = λ n from. unread_since n k' unread.Memory d (rs, e) tt;
  edge = tt;
}
found-then sound p k k' run ended a cs new t' h t r f w = absurd w

pub answered : (sound : Type 0) (p : Planned) (k k' : Known) (run : SelectRun) (ended : QueryState) (a : Selected) (new : DeleteState) (t : DeleteTurn) → FitsFinding sound p run k
    → selecting.SelectTurns sound run.scan.query run.scan.scn run.scan.state k ended k' (selects.Over (Ok a)) → IsAfterAnswer p a new t → DeleteTurns sound p (state.Finding run) k new k' t
answered sound p k k' run ended a new t h s (inl w) = found-then sound p k k' run ended a w.0 new t h s w.1 w.2 w.3
answered sound p k k' run ended a new turn.Stepped h s (inr w) = absurd w.1
answered sound p k k' run ended a new (turn.Waiting n) h s (inr w) = absurd w.1
answered sound p k k' run ended a new (turn.Over d) h s (inr w) = subst (λ (x : DeleteState). DeleteTurns sound p (state.Finding run) k x k' (turn.Over d)) (sym w.0) (record {
  acts = s.acts;
  ran = s.ran;
  fits = tt;
  told = λ n own low b. (refl, unread_end sound p n (own ++ outline s.acts) k' unread.Memory d w.1 (memory_is sound p (own ++ outline s.acts) k' a (came_to sound p k k' run s.acts own (Ok a) h b s.told.1)));
  since = λ n from. unread_since n k' unread.Memory d w.1 tt;
  edge = tt;
})

-- 3. A batch is under way

-- what the seat did for it comes behind what it did before
behind : (own finding making began more : List Act) → own ≡ finding ++ (making ++ began) → own ++ more ≡ finding ++ (making ++ (began ++ more))
behind own finding making began more e =
    ap (λ (l : List Act). l ++ more) e ∙ (append_assoc finding (making ++ began) more ∙ ap (λ (l : List Act). finding ++ l) (append_assoc making began more))

-- and so does what it did since the rows were found
since_found : (sound : Type 0) (p : Planned) (k k' : Known) (first : ℕ) (finding : List Act) (cs : List Change) (acts making began : List Act) (r : Ran k k' acts) (f : HasFoundRows sound p k first finding cs) → outline (acts_by k.seat f.was.more) ≡ making ++ began
    → outline (acts_by k'.seat (found-later sound p k k' first finding cs (ran-later k k' acts r) f).was.more) ≡ making ++ (began ++ outline acts)
since_found sound p k k' first finding cs acts making began r f e = since-ran sound p k k' first finding cs acts r f ∙ (ap (λ (l : List Act). l ++ outline acts) e ∙ append_assoc making began (outline acts))

removing_fits : (sound : Type 0) (p : Planned) (k k' : Known) (run new : BatchRun) (left : Left) (acts : List Act) → new.table ≡ run.table → new.changes ≡ run.changes → FitsRemoving sound p run left k → Ran k k' acts
    → batch.FitsBatch sound run.table run.changes new.state k' → batch.IsBatchGoing new.state → FitsRemoving sound p new left k'
removing_fits sound p k k' run new left acts e c h r fits going = record {
  legal = r.legal h.legal;
  table = e ∙ h.table;
  left_table = h.left_table;
  fits = subst (λ (i : TableId). batch.FitsBatch sound i new.changes new.state k') (sym e) (subst (λ (l : List Change). batch.FitsBatch sound run.table l new.state k') (sym c) fits);
  going = going;
  ordered = h.ordered;
  fitting = fitting-later k k' p.table.id.0 left.changes.items (ran-later k k' acts r) (r.legal h.legal) h.fitting;
  room = h.room;
}

-- what the batch has begun, by the number of the query's table
begun_is : (p : Planned) (t : TableId) (cs : List Change) (b : BatchState) → t ≡ p.table.id → batch.begun_by_batch t cs b ≡ batch.begun_by_batch p.table.id cs b
begun_is p t cs b e = ap (λ (i : TableId). batch.begun_by_batch i cs b) e

removing_done : (sound : Type 0) (p : Planned) (k k' : Known) (run new : BatchRun) (left : Left) (acts own : List Act) → run.table ≡ p.table.id → new.changes ≡ run.changes → Ran k k' acts
    → batch.begun_by_batch run.table run.changes run.state ++ outline acts ≡ batch.begun_by_batch run.table run.changes new.state → IsRemoving sound p own k run left → IsRemoving sound p (own ++ outline acts) k' new left
removing_done sound p k k' run new left acts own e c r goes d =
    let later = ran-later k k' acts r in
    let here : batch.begun_by_batch p.table.id run.changes run.state ++ outline acts ≡ batch.begun_by_batch p.table.id new.changes new.state =
    ap (λ (l : List Act). l ++ outline acts) (sym (begun_is p run.table run.changes run.state e)) ∙ (goes ∙ (begun_is p run.table run.changes new.state e ∙ ap (λ (l : List Change). batch.begun_by_batch p.table.id l new.state) (sym c))) in
    record {
      changes = d.changes;
      parts = d.parts;
      rest = d.rest;
      finding = d.finding;
      making = d.making;
      found = found-later sound p k k' left.first d.finding d.changes later d.found;
      made = all-later sound k k' p.table.id d.parts left.receipts.items d.making later d.made;
      split = d.split;
      some = d.some;
      part = c ∙ d.part;
      behind = d.behind;
      rows = d.rows;
      own_is = behind own d.finding d.making (batch.begun_by_batch p.table.id run.changes run.state) (outline acts) d.own_is ∙ ap (λ (l : List Act). d.finding ++ (d.making ++ l)) here;
      found_first = since_found sound p k k' left.first d.finding d.changes acts d.making (batch.begun_by_batch p.table.id run.changes run.state) r d.found d.found_first ∙ ap (λ (l : List Act). d.making ++ l) here;
    }

pub removes-on : (sound : Type 0) (p : Planned) (k k' : Known) (run new : BatchRun) (left : Left) → new.table ≡ run.table → new.changes ≡ run.changes → FitsRemoving sound p run left k
    → batch.BatchTurns sound run.table run.changes run.state k new.state k' came.Stepped → DeleteTurns sound p (state.Removing run left) k (state.Removing new left) k' turn.Stepped
removes-on sound p k k' run new left e c h t = record {
  acts = t.acts;
  ran = t.ran;
  fits = removing_fits sound p k k' run new left t.acts e c h t.ran t.fits t.told.0;
  told = λ n own low d. (tt, removing_done sound p k k' run new left t.acts own h.table c t.ran t.told.1 d);
  since = λ n from. (from.0, t.since n from.1);
  edge = tt;
}

pub removes-waiting : (sound : Type 0) (p : Planned) (k k' : Known) (run new : BatchRun) (left : Left) (stamp : ℕ) → new.table ≡ run.table → new.changes ≡ run.changes → FitsRemoving sound p run left k
    → batch.BatchTurns sound run.table run.changes run.state k new.state k' (came.Waiting stamp) → DeleteTurns sound p (state.Removing run left) k (state.Removing new left) k' (turn.Waiting stamp)
removes-waiting sound p k k' run new left stamp e c h t = record {
  acts = t.acts;
  ran = t.ran;
  fits = removing_fits sound p k k' run new left t.acts e c h t.ran t.fits t.told.0;
  told = λ n own low d. (tt, removing_done sound p k k' run new left t.acts own h.table c t.ran t.told.1 d, t.told.2);
  since = λ n from. (from.0, t.since n from.1);
  edge = tt;
}

-- 4. A batch is ended

-- what the seat did for a batch that is ended
abbrev mine : Planned → BatchRun → List Act → List Act
mine p run acts = batch.begun_by_batch p.table.id run.changes run.state ++ outline acts

-- its outcome, by the number of the query's table
outcome_is : (sound : Type 0) (p : Planned) (k : Known) (run : BatchRun) (acts : List Act) (r : Result Receipt BatchFault) → run.table ≡ p.table.id
    → batch.IsBatchOutcome sound run.table run.changes (batch.begun_by_batch run.table run.changes run.state ++ outline acts) k r → batch.IsBatchOutcome sound p.table.id run.changes (mine p run acts) k r
outcome_is sound p k run acts r e h = subst (λ (i : TableId). batch.IsBatchOutcome sound i run.changes (batch.begun_by_batch i run.changes run.state ++ outline acts) k r) e h

has_made : (sound : Type 0) (p : Planned) (k : Known) (run : BatchRun) (acts : List Act) (r : Receipt) → batch.HasEndedBatch sound p.table.id run.changes (mine p run acts) k r → HasMadeBatch sound k p.table.id run.changes (mine p run acts) r
has_made sound p k run acts r h = record { past = k; was = was-now k; ended = h }

-- one part more is removed
record OneMore (sound : Type 0) (p : Planned) (own : List Act) (k : Known) (left : Left) (r : Receipt) : Type 0 where
  changes : List Change
  parts : List (List Change)
  finding : List Act
  making : List Act
  found : HasFoundRows sound p k left.first finding changes
  made : AreMade sound k p.table.id parts (left.receipts.items ++ r ∷ []) making
  split : IsSplit changes parts left.changes.items
  rows : left.rows ≡ length changes
  own_is : own ≡ finding ++ making
  found_first : outline (acts_by k.seat found.was.more) ≡ making

one_more : (sound : Type 0) (p : Planned) (k k' : Known) (run : BatchRun) (left : Left) (acts own : List Act) (r : Receipt) → Ran k k' acts → batch.HasEndedBatch sound p.table.id run.changes (mine p run acts) k' r → IsRemoving sound p own k run left
    → OneMore sound p (own ++ outline acts) k' left r
one_more sound p k k' run left acts own r ran ended d =
    let later = ran-later k k' acts ran in
    record {
      changes = d.changes;
      parts = d.parts ++ run.changes ∷ [];
      finding = d.finding;
      making = d.making ++ mine p run acts;
      found = found-later sound p k k' left.first d.finding d.changes later d.found;
      made = made-more sound k' p.table.id d.parts left.receipts.items d.making run.changes r (mine p run acts) (all-later sound k k' p.table.id d.parts left.receipts.items d.making later d.made) (has_made sound p k' run acts r ended);
      split = subst (λ (l : List Change). IsSplit d.changes (d.parts ++ l ∷ []) left.changes.items) (sym d.part)
          (subst (λ (l : List Change). IsSplit d.changes (d.parts ++ take 1000 d.rest ∷ []) l) (sym d.behind) (split-more d.changes d.parts d.rest d.split d.some));
      rows = d.rows;
      own_is = behind own d.finding d.making (batch.begun_by_batch p.table.id run.changes run.state) (outline acts) d.own_is;
      found_first = since_found sound p k k' left.first d.finding d.changes acts d.making (batch.begun_by_batch p.table.id run.changes run.state) ran d.found d.found_first;
    }

-- nothing is left
all_removed : (sound : Type 0) (p : Planned) (m : ℕ) (own : List Act) (k : Known) (left : Left) (r : Receipt) (d : Deleted) → OneMore sound p own k left r → left.changes.items ≡ [] → d.receipts.items ≡ left.receipts.items ++ r ∷ []
    → d.end ≡ Ok (record { rows = left.rows; first = left.first }) → IsDeleteOutcome sound p m own k d
all_removed sound p m own k left r d o none rs e =
    subst (λ (l : List Receipt). IsDeleteEnd sound p m own k l d.end) (sym rs)
    (subst (λ (w : Result Removed DeleteFault). IsDeleteEnd sound p m own k (left.receipts.items ++ r ∷ []) w) (sym e) (record {
      changes = o.changes;
      parts = o.parts;
      finding = o.finding;
      making = o.making;
      found = o.found;
      made = o.made;
      split = subst (λ (l : List Change). IsSplit o.changes o.parts l) none o.split;
      rows = o.rows;
      own_is = o.own_is;
      found_first = o.found_first;
    }))

-- no memory was found for the next part
no_memory : (sound : Type 0) (p : Planned) (m : ℕ) (own : List Act) (k : Known) (left : Left) (r : Receipt) (d : Deleted) → m ≤ left.first → OneMore sound p own k left r → left.changes.items ≢ [] → d.receipts.items ≡ left.receipts.items ++ r ∷ []
    → d.end ≡ Err (fault.Unmade unmade.Memory) → IsDeleteOutcome sound p m own k d
no_memory sound p m own k left r d low o some rs e =
    subst (λ (l : List Receipt). IsDeleteEnd sound p m own k l d.end) (sym rs)
    (subst (λ (w : Result Removed DeleteFault). IsDeleteEnd sound p m own k (left.receipts.items ++ r ∷ []) w) (sym e) (
      record {
        changes = o.changes;
        parts = o.parts;
        rest = left.changes.items;
        first = left.first;
        finding = o.finding;
        making = o.making;
        stopping = [];
        found = o.found;
        made = o.made;
        split = o.split;
        some = some;
        outcome = (tt, inl refl);
        own_is = o.own_is ∙ ap (λ (l : List Act). o.finding ++ l) (sym (append-nil o.making));
        found_first = o.found_first ∙ sym (append-nil o.making);
      },
      low,
    ))

-- the next part is under way
going_on : (sound : Type 0) (p : Planned) (own : List Act) (k : Known) (left new : Left) (next : BatchRun) (r : Receipt) → OneMore sound p own k left r → IsNextRun left.table left.changes.items next new
    → new.receipts.items ≡ left.receipts.items ++ r ∷ [] → new.rows ≡ left.rows → new.first ≡ left.first → IsRemoving sound p own k next new
going_on sound p own k left new next r o n rs rows first = record {
  changes = o.changes;
  parts = o.parts;
  rest = left.changes.items;
  finding = o.finding;
  making = o.making;
  found = found-at sound p k left.first new.first o.finding o.changes (sym first) o.found;
  made = subst (λ (l : List Receipt). AreMade sound k p.table.id o.parts l o.making) (sym rs) o.made;
  split = o.split;
  some = n.some;
  part = n.part;
  behind = n.behind;
  rows = rows ∙ o.rows;
  own_is = o.own_is ∙ ap (λ (l : List Act). o.finding ++ l) (sym (append-nil o.making) ∙ ap (λ (l : List Act). o.making ++ l) (sym (begun_none p.table.id next.changes next.state n.beginning)));
  found_first = since-at sound p k left.first new.first o.finding o.changes (sym first) o.found ∙ (o.found_first ∙ (sym (append-nil o.making) ∙ ap (λ (l : List Act). o.making ++ l) (sym (begun_none p.table.id next.changes next.state n.beginning))));
}

more_length : (xs : List Receipt) (r : Receipt) → length (xs ++ r ∷ []) ≡ length xs + 1
more_length xs r = simp length-append (omega arith)

next_room : (cs : List Change) (n m : ℕ) → cs ≢ [] → length cs + 1000 * (n + 1) ≤ 1000 * m → length (drop 1000 cs) + 1000 * ((n + 1) + 1) ≤ 1000 * m
next_room cs n m some h = let s = some_length cs some in let d = length-drop 1000 cs in omega arith

room_for : (left new : Left) (r : Receipt) → left.changes.items ≢ [] → length left.changes.items + 1000 * (length left.receipts.items + 1) ≤ 1000 * vec_capacity left.receipts → new.receipts.items ≡ left.receipts.items ++ r ∷ []
    → vec_capacity new.receipts ≡ vec_capacity left.receipts → length (drop 1000 left.changes.items) + 1000 * (length new.receipts.items + 1) ≤ 1000 * vec_capacity new.receipts
room_for left new r some h rs cap =
    let one : length new.receipts.items ≡ length left.receipts.items + 1 = ap length rs ∙ more_length left.receipts.items r in
    let next = next_room left.changes.items (length left.receipts.items) (vec_capacity left.receipts) some h in
    rw (one, cap) next

-- when it ended
ended_at : (sound : Type 0) (n : ℕ) (table : TableId) (cs : List Change) (own : List Act) (k : Known) (r : Receipt) → batch.IsBatchOutcome sound table cs own k (Ok r) → n ≤ r.at → n ≤ length k.seen
ended_at sound n table cs own k r o h = let e = o.receipt.at in omega arith

pub removes-then : (sound : Type 0) (p : Planned) (k k' : Known) (run : BatchRun) (left : Left) (ended : BatchState) (r : Receipt) (new : DeleteState) (t : DeleteTurn) → FitsRemoving sound p run left k
    → batch.BatchTurns sound run.table run.changes run.state k ended k' (came.Over (Ok r)) → IsAfterBatch left r new t → DeleteTurns sound p (state.Removing run left) k new k' t
removes-then sound p k k' run left ended r (state.Removing next new) turn.Stepped h t w =
    let legal = t.ran.legal h.legal in
    record {
      acts = t.acts;
      ran = t.ran;
      fits = next_fits sound p k' left.table left.changes.items next new h.left_table w.0 legal (fitting-later k k' p.table.id.0 left.changes.items (ran-later k k' t.acts t.ran) legal h.fitting) h.ordered (room_for left new r w.0.some h.room w.1 w.2);
      told = λ m own low d. (tt, going_on sound p (own ++ outline t.acts) k' left new next r (one_more sound p k k' run left t.acts own r t.ran (outcome_is sound p k' run t.acts (Ok r) h.table t.told.1) d) w.0 w.1 w.3 w.4);
      since = λ n from. (subst (λ (x : ℕ). n ≤ x) (sym w.4) from.0, since_begin n next.state k' w.0.beginning (ended_at sound n run.table run.changes _ k' r t.told.1 (t.since n from.1)));
      edge = tt;
    }
removes-then sound p k k' run left ended r state.Over (turn.Over d) h t (rs, inl (none, e)) = record {
  acts = t.acts;
  ran = t.ran;
  fits = tt;
  told = λ m own low b. (refl, all_removed sound p m (own ++ outline t.acts) k' left r d (one_more sound p k k' run left t.acts own r t.ran (outcome_is sound p k' run t.acts (Ok r) h.table t.told.1) b) none rs e);
  since = λ n from. subst (λ (x : Result Removed DeleteFault). IsEndSince n x k') (sym e) from.0;
  edge = tt;
}
removes-then sound p k k' run left ended r state.Over (turn.Over d) h t (rs, inr (some, e)) = record {
  acts = t.acts;
  ran = t.ran;
  fits = tt;
  told = λ m own low b. (refl, no_memory sound p m (own ++ outline t.acts) k' left r d low.0 (one_more sound p k k' run left t.acts own r t.ran (outcome_is sound p k' run t.acts (Ok r) h.table t.told.1) b) some rs e);
  since = λ n from. subst (λ (x : Result Removed DeleteFault). IsEndSince n x k') (sym e) tt;
  edge = tt;
}
removes-then sound p k k' run left ended r new t' h t w = absurd w

-- a batch isn't made, and none behind it
stopped_end : (sound : Type 0) (p : Planned) (m : ℕ) (k k' : Known) (run : BatchRun) (left : Left) (acts own : List Act) (f : BatchFault) (d : Deleted) → m ≤ left.first → Ran k k' acts → batch.IsBatchOutcome sound p.table.id run.changes (mine p run acts) k' (Err f)
    → IsRemoving sound p own k run left → IsStopped left.receipts.items f (turn.Over d) → IsDeleteOutcome sound p m (own ++ outline acts) k' d
stopped_end sound p m k k' run left acts own f d low ran o b s =
    let later = ran-later k k' acts ran in
    subst (λ (l : List Receipt). IsDeleteEnd sound p m (own ++ outline acts) k' l d.end) (sym s.0)
    (subst (λ (w : Result Removed DeleteFault). IsDeleteEnd sound p m (own ++ outline acts) k' left.receipts.items w) (sym s.1) (
      record {
        changes = b.changes;
        parts = b.parts;
        rest = b.rest;
        first = left.first;
        finding = b.finding;
        making = b.making;
        stopping = mine p run acts;
        found = found-later sound p k k' left.first b.finding b.changes later b.found;
        made = all-later sound k k' p.table.id b.parts left.receipts.items b.making later b.made;
        split = b.split;
        some = b.some;
        outcome = subst (λ (l : List Change). batch.IsBatchOutcome sound p.table.id l (mine p run acts) k' (Err f)) b.part o;
        own_is = behind own b.finding b.making (batch.begun_by_batch p.table.id run.changes run.state) (outline acts) b.own_is;
        found_first = since_found sound p k k' left.first b.finding b.changes acts b.making (batch.begun_by_batch p.table.id run.changes run.state) ran b.found b.found_first;
      },
      low,
    ))

pub removes-no-more : (sound : Type 0) (p : Planned) (k k' : Known) (run : BatchRun) (left : Left) (ended : BatchState) (f : BatchFault) (t : DeleteTurn) → FitsRemoving sound p run left k
    → batch.BatchTurns sound run.table run.changes run.state k ended k' (came.Over (Err f)) → IsStopped left.receipts.items f t → DeleteTurns sound p (state.Removing run left) k state.Over k' t
removes-no-more sound p k k' run left ended f turn.Stepped h t s = absurd s
removes-no-more sound p k k' run left ended f (turn.Waiting n) h t s = absurd s
removes-no-more sound p k k' run left ended f (turn.Over d) h t s = record {
  acts = t.acts;
  ran = t.ran;
  fits = tt;
  told = λ m own low b. (refl, stopped_end sound p m k k' run left t.acts own f d low.0 t.ran (outcome_is sound p k' run t.acts (Err f) h.table t.told.1) b s);
  since = λ n from. subst (λ (x : Result Removed DeleteFault). IsEndSince n x k') (sym s.1) (t.since n from.1);
  edge = tt;
}
