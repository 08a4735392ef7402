-- The steps of a batch, arm by arm, over what a seat knows.
use Rattle.std.proofs.Common.{ℕ, ◌≡◌, ◌≤◌, ◌+◌, Ok, Err, Result, Some, List, [], ◌∷◌, ◌++◌, append_assoc, length, drop, refl, sym, ◌∙◌, ap, subst, arith, length-append, ◌⊎◌, inl, inr}
use Rattle.px_values.specs.Limits.{most_of}
use Rattle.px_values.specs.declared.change.Change.{Change}
use Rattle.px_values.specs.declared.limit.Limit.TheVariants as bound
use Rattle.px_values.specs.declared.name.TableId.{TableId}
use Rattle.px_trail.specs.declared.entry.Act.{Act}
use Rattle.px_trail.specs.declared.entry.Act.TheVariants as act
use Rattle.px_trail.specs.declared.entry.Entry.{Entry}
use Rattle.px_trail.specs.Answers.{IsAmong}
use Rattle.px_trail.specs.Batches.{Closing, Marking, Verifying, Writing}
use Rattle.px_trail.specs.Count.{counted_bytes}
use Rattle.px_trail.specs.Trail.{Base, acts_by, closing_call}
use Rattle.px_calls.specs.declared.fault.StepFault.TheVariants as step
use Rattle.px_calls.specs.declared.ticket.Receipt.{Receipt}
use Rattle.px_calls.specs.declared.ticket.Ticket.{Ticket}
use Rattle.px_calls.specs.Known.{Known, TimePasses, Sees, Adds, Ran, HasMade, outline}
use Rattle.px_calls.specs.Causes.{Refuses, rows_cause, write_cause}
use Rattle.px_calls.specs.Calls.{DidBegin, Finds, IsReceipt, WroteRows}
use Rattle.px_calls.specs.Requires.{AreFitting, CanAbandon, IsServerShut, TicketIn}
use Rattle.px_calls.proofs.Runs.{adds-begun, adds-marked, adds-shut, adds-verified, closing-grows, outline-append, passes-made, passes-shut, passes-ticket, ran-adds, ran-made, ran-none, ran-sees, ran-then, refuses-ticket, sees-ticket}
use Rattle.px_calls.proofs.Stays.{grown-fits, passes-fits, ran-since, since-stays}
use Rattle.px_batch.specs.declared.batch.BatchFault.{BatchFault}
use Rattle.px_batch.specs.declared.batch.BatchFault.TheVariants as fault
use Rattle.px_batch.specs.declared.batch.BatchState.{BatchState}
use Rattle.px_batch.specs.declared.batch.BatchState.TheVariants as state
use Rattle.px_batch.specs.declared.batch.BatchTurn.TheVariants as turn
use Rattle.px_batch.specs.Turns.{BatchFaultIs, BatchFaultSince, BatchTurns, FitsBatch, IsBatchGoing, IsBatchOutcome, IsBatchSince, IsBatchSinceThen, IsStopping, KeptWithin, RanBatch, SoFar, StopIs, begun_by_batch}

-- 1. Places

pub grown : (k k' : Known) (acts : List Act) (n : ℕ) → Ran k k' acts → n ≤ length k.seen → n ≤ length k'.seen
grown k k' acts n h low =
    let e : length k'.seen ≡ length k.seen + length h.added = ap length h.seen ∙ length-append k.seen h.added in
    omega arith

-- what a batch kept within it kept within in whatever comes of the trail
pub within_grows : (sound : Type 0) (b b' : Base) (es es' more : List Entry) (t : TableId) (cs : List Change) (stamp : ℕ) → es' ≡ es ++ more → b' ≡ b → KeptWithin sound b es t cs stamp → KeptWithin sound b' es' t cs stamp
within_grows sound b b' es es' more t cs stamp seen base w =
    let on : KeptWithin sound b es' t cs stamp = record {
      front = w.front;
      entry = w.entry;
      rest = w.rest ++ more;
      is = seen ∙ (ap (λ (l : List Entry). l ++ more) w.is ∙ append_assoc w.front (w.entry ∷ w.rest) more);
      begins = w.begins;
      short = w.short;
      few = w.few;
      light = w.light;
      stamps = w.stamps;
      trail = w.trail;
    } in
    subst (λ (x : Base). KeptWithin sound x es' t cs stamp) (sym base) on

within_ran : (sound : Type 0) (k k' : Known) (acts : List Act) (t : TableId) (cs : List Change) (stamp : ℕ) → Ran k k' acts → KeptWithin sound k.base k.seen t cs stamp → KeptWithin sound k'.base k'.seen t cs stamp
within_ran sound k k' acts t cs stamp h w = within_grows sound k.base k'.base k.seen k'.seen h.added t cs stamp h.seen h.base w

within_passes : (sound : Type 0) (k k' : Known) (t : TableId) (cs : List Change) (stamp : ℕ) → TimePasses k k' → KeptWithin sound k.base k.seen t cs stamp → KeptWithin sound k'.base k'.seen t cs stamp
within_passes sound k k' t cs stamp h w = within_grows sound k.base k'.base k.seen k'.seen h.others t cs stamp h.seen h.base w

-- the call's own act is one of the seat's
made : (k k' : Known) (a : Act) → Adds k k' a → HasMade k' a
unfolding IsAmong
made k k' a h = ran-made k k' (a ∷ []) a (ran-adds k k' a h) (inl (inl refl))

made_since : (k k' : Known) (a : Act) (n : ℕ) → Adds k k' a → n ≤ length k.seen → IsAmong a (acts_by k'.seat (drop n k'.seen))
unfolding IsAmong
made_since k k' a n h low = ran-since k k' (a ∷ []) a n low (ran-adds k k' a h) (inl refl)

shut : (k : Known) (call : ℕ) → closing_call k.seen ≡ Some call → IsServerShut k
shut k call h n = cc

-- 2. Calls before there is a ticket

adds_fits : (k k' : Known) (a : Act) (t : ℕ) (cs : List Change) → Adds k k' a → AreFitting k t cs → AreFitting k' t cs
adds_fits k k' a t cs h f =
    let e = h.extends in
    grown-fits h.between k' _ t cs e.seen e.base e.legal (passes-fits k h.between t cs h.sees.passes f)

begun_within : (sound : Type 0) (k k' : Known) (t : Ticket) (table : TableId) (cs : List Change) → DidBegin sound k k' table cs t → KeptWithin sound k'.base k'.seen table cs t.stamp
begun_within sound k k' t table cs h =
    let e = h.adds.extends in
    let before = h.adds.between in
    record {
      front = before.seen;
      entry = record { seat = before.seat; calls = e.calls; act = act.Begun table t.stamp cs };
      rest = [];
      is = e.seen;
      begins = refl;
      short = h.short;
      few = h.few;
      light = h.light;
      stamps = h.stamp;
      trail = subst (λ (l : List Entry). counted_bytes l ≤ most_of bound.Trail) e.seen h.trail;
    }

pub begins : (sound : Type 0) (k k' : Known) (t : Ticket) (table : TableId) (cs : List Change) → DidBegin sound k k' table cs t → BatchTurns sound table cs state.Beginning k (state.Marking t) k' turn.Stepped
begins sound k k' t table cs h =
    let r = ran-adds k k' (act.Begun table t.stamp cs) h.adds in
    let a : Adds k k' (act.Begun t.table t.stamp cs) = subst (λ (n : TableId). Adds k k' (act.Begun n t.stamp cs)) (sym h.table) h.adds in
    record { acts = act.Begun table t.stamp cs ∷ []; ran = r; fits = (h.table, adds-begun k k' t cs a, begun_within sound k k' t table cs h); told = (tt, refl); since = λ n low. grown k k' _ n r low }

-- a call that adds nothing, and the batch is to be begun or upkeep to be made
pub settles : (sound : Type 0) (k k' : Known) (table : TableId) (cs : List Change) (old new : BatchState) → ((n : ℕ) → IsBatchSince n old k → n ≤ length k.seen) → ((n : ℕ) → n ≤ length k'.seen → IsBatchSince n new k') → begun_by_batch table cs old ≡ [] → begun_by_batch table cs new ≡ [] → IsBatchGoing new → FitsBatch sound table cs new k' → Sees k k' → BatchTurns sound table cs old k new k' turn.Stepped
settles sound k k' table cs old new from to none none' going fits h =
    let r = ran-sees k k' h in
    record { acts = []; ran = r; fits = fits; told = (going, ap (λ (l : List Act). l ++ []) none ∙ sym none'); since = λ n low. to n (grown k k' [] n r (from n low)) }

pub works : (sound : Type 0) (k k' : Known) (table : TableId) (cs : List Change) → AreFitting k table.0 cs → Finds k k' ⊎ ((t : TableId) × (h : ℕ) × Adds k k' (act.Raised t h)) → BatchTurns sound table cs state.Settling k state.Settling k' turn.Stepped
works sound k k' table cs f (inl h) = let r = ran-sees k k' h.sees in record { acts = []; ran = r; fits = passes-fits k k' table.0 cs h.sees.passes f; told = (tt, refl); since = λ n low. grown k k' _ n r low }
works sound k k' table cs f (inr h) = let r = ran-adds k k' (act.Raised h.0 h.1) h.2 in record { acts = act.Raised h.0 h.1 ∷ []; ran = r; fits = adds_fits k k' _ table.0 cs h.2 f; told = (tt, refl); since = λ n low. grown k k' _ n r low }

pub idles : (sound : Type 0) (k k' : Known) (table : TableId) (cs : List Change) → AreFitting k table.0 cs → Finds k k' → BatchTurns sound table cs state.Settling k state.Beginning k' turn.Stepped
idles sound k k' table cs f h = settles sound k k' table cs state.Settling state.Beginning (λ n l. l) (λ n l. l) refl refl tt (passes-fits k k' table.0 cs h.sees.passes f) h.sees

pub is_busy : (sound : Type 0) (k k' : Known) (table : TableId) (cs : List Change) → AreFitting k table.0 cs → Sees k k' → BatchTurns sound table cs state.Beginning k state.Settling k' turn.Stepped
is_busy sound k k' table cs f h = settles sound k k' table cs state.Beginning state.Settling (λ n l. l) (λ n l. l) refl refl tt (passes-fits k k' table.0 cs h.passes f) h

-- nothing was begun yet
pub data IsEarly : BatchState → Type 0 where
  early_begin : IsEarly state.Beginning
  early_settle : IsEarly state.Settling

early_low : (old : BatchState) (n : ℕ) (k : Known) → IsEarly old → IsBatchSince n old k → n ≤ length k.seen
early_low old n k early_begin h = h
early_low old n k early_settle h = h

early_none : (table : TableId) (cs : List Change) (old : BatchState) → IsEarly old → begun_by_batch table cs old ++ [] ≡ []
early_none table cs old early_begin = refl
early_none table cs old early_settle = refl

-- a refusal that adds nothing ends the run
pub stops : (sound : Type 0) (k k' : Known) (table : TableId) (cs : List Change) (old : BatchState) (f : BatchFault) → IsEarly old → ((n : ℕ) → BatchFaultSince n f k') → BatchFaultIs sound table cs f k' → Sees k k' → BatchTurns sound table cs old k state.Over k' (turn.Over (Err f))
stops sound k k' table cs old f early since told h =
    record { acts = []; ran = ran-sees k k' h; fits = tt; told = (refl, (told, inl (early_none table cs old early))); since = λ n low. since n }

-- so does a failed read, and a failed write of upkeep
pub misses : (sound : Type 0) (k k' : Known) (table : TableId) (cs : List Change) (old : BatchState) → IsEarly old → ((call : ℕ) × Adds k k' (act.Missed call)) → BatchTurns sound table cs old k state.Over k' (turn.Over (Err fault.ReadFault))
misses sound k k' table cs old early h =
    record {
      acts = act.Missed h.0 ∷ [];
      ran = ran-adds k k' (act.Missed h.0) h.1;
      fits = tt;
      told = (refl, ((h.0, made k k' (act.Missed h.0) h.1), inl (early_none table cs old early)));
      since = λ n low. (h.0, made_since k k' (act.Missed h.0) n h.1 (early_low old n k early low));
    }

pub shuts : (sound : Type 0) (k k' : Known) (table : TableId) (cs : List Change) (old : BatchState) → IsEarly old → ((call : ℕ) × Adds k k' (act.Shut call)) → BatchTurns sound table cs old k state.Over k' (turn.Over (Err fault.WriteFault))
shuts sound k k' table cs old early h =
    record {
      acts = act.Shut h.0 ∷ [];
      ran = ran-adds k k' (act.Shut h.0) h.1;
      fits = tt;
      told = (refl, ((h.0, made k k' (act.Shut h.0) h.1), inl (early_none table cs old early)));
      since = λ n low. (h.0, made_since k k' (act.Shut h.0) n h.1 (early_low old n k early low));
    }

-- 3. Phase 1

pub marks : (sound : Type 0) (k k' : Known) (t : Ticket) (cs : List Change) → TicketIn k t Marking → KeptWithin sound k.base k.seen t.table cs t.stamp → Finds k k' → BatchTurns sound t.table cs (state.Marking t) k (state.Marking t) k' turn.Stepped
marks sound k k' t cs i w h = let r = ran-sees k k' h.sees in record { acts = []; ran = r; fits = (refl, sees-ticket k k' t Marking h.sees i, within_ran sound k k' _ t.table cs t.stamp r w); told = (tt, refl); since = λ n low. grown k k' _ n r low }

pub marks_all : (sound : Type 0) (k k' : Known) (t : Ticket) (cs : List Change) → TicketIn k t Marking → KeptWithin sound k.base k.seen t.table cs t.stamp → Adds k k' (act.Phase t.table t.stamp 1) → BatchTurns sound t.table cs (state.Marking t) k (state.Writing t) k' turn.Stepped
marks_all sound k k' t cs i w h =
    let r = ran-adds k k' (act.Phase t.table t.stamp 1) h in
    record { acts = act.Phase t.table t.stamp 1 ∷ []; ran = r; fits = (refl, adds-marked k k' t h i, within_ran sound k k' _ t.table cs t.stamp r w); told = (tt, refl); since = λ n low. grown k k' _ n r low }

pub mark_fails : (sound : Type 0) (k k' : Known) (t : Ticket) (cs : List Change) → TicketIn k t Marking → Refuses write_cause k k' step.WriteFault → BatchTurns sound t.table cs (state.Marking t) k (state.Leaving t fault.WriteFault) k' turn.Stepped
mark_fails sound k k' t cs i h =
    let call = h.1.0 in
    let r = ran-adds k k' (act.Shut call) h.1.1 in
    record {
      acts = act.Shut call ∷ [];
      ran = r;
      fits = (refl, (shut k' call (adds-shut k k' call h.1.1), inl (refuses-ticket write_cause k k' step.WriteFault t Marking h i)), (call, made k k' (act.Shut call) h.1.1));
      told = (tt, refl);
      since = λ n low. (grown k k' _ n r low, (call, made_since k k' (act.Shut call) n h.1.1 low));
    }

pub mark_closed : (sound : Type 0) (k k' : Known) (t : Ticket) (cs : List Change) (call : ℕ) → TicketIn k t Marking → Refuses write_cause k k' (step.Closed call) → BatchTurns sound t.table cs (state.Marking t) k (state.Leaving t (fault.Closed call)) k' turn.Stepped
mark_closed sound k k' t cs call i h =
    let r = ran-sees k k' h.1 in
    record { acts = []; ran = r; fits = (refl, (shut k' call h.0, inl (sees-ticket k k' t Marking h.1 i)), h.0); told = (tt, refl); since = λ n low. (grown k k' _ n r low, tt) }

-- 4. Phase 2

pub writes : (sound : Type 0) (k k' : Known) (t : Ticket) (cs : List Change) → KeptWithin sound k.base k.seen t.table cs t.stamp → WroteRows k k' t Writing → BatchTurns sound t.table cs (state.Writing t) k (state.Writing t) k' turn.Stepped
writes sound k k' t cs w h = let r = ran-adds k k' (act.Wrote t.table t.stamp h.rows) h.adds in record { acts = act.Wrote t.table t.stamp h.rows ∷ []; ran = r; fits = (refl, h.next, within_ran sound k k' _ t.table cs t.stamp r w); told = (tt, refl); since = λ n low. grown k k' _ n r low }

pub writes_all : (sound : Type 0) (k k' : Known) (t : Ticket) (cs : List Change) → KeptWithin sound k.base k.seen t.table cs t.stamp → WroteRows k k' t Verifying → BatchTurns sound t.table cs (state.Writing t) k (state.Verifying t) k' turn.Stepped
writes_all sound k k' t cs w h = let r = ran-adds k k' (act.Wrote t.table t.stamp h.rows) h.adds in record { acts = act.Wrote t.table t.stamp h.rows ∷ []; ran = r; fits = (refl, h.next, within_ran sound k k' _ t.table cs t.stamp r w); told = (tt, refl); since = λ n low. grown k k' _ n r low }

pub waits : (sound : Type 0) (k k' : Known) (t : Ticket) (cs : List Change) (stamp : ℕ) → TicketIn k t Writing → KeptWithin sound k.base k.seen t.table cs t.stamp → Refuses (rows_cause t.table.0 t.stamp) k k' (step.NotYet stamp) → BatchTurns sound t.table cs (state.Writing t) k (state.Writing t) k' (turn.Waiting stamp)
waits sound k k' t cs stamp i w h =
    let r = ran-sees k k' h.1 in
    record { acts = []; ran = r; fits = (refl, sees-ticket k k' t Writing h.1 i, within_ran sound k k' _ t.table cs t.stamp r w); told = (tt, refl, record { ticket = t; is = refl; waiting = h.0 }); since = λ n low. grown k k' _ n r low }

pub write_fails : (sound : Type 0) (k k' : Known) (t : Ticket) (cs : List Change) → TicketIn k t Writing → Refuses (rows_cause t.table.0 t.stamp) k k' step.WriteFault → BatchTurns sound t.table cs (state.Writing t) k (state.Leaving t fault.WriteFault) k' turn.Stepped
write_fails sound k k' t cs i h =
    let call = h.1.0 in
    let r = ran-adds k k' (act.Shut call) h.1.1 in
    record {
      acts = act.Shut call ∷ [];
      ran = r;
      fits = (refl, (shut k' call (adds-shut k k' call h.1.1), inr (refuses-ticket (rows_cause t.table.0 t.stamp) k k' step.WriteFault t Writing h i)), (call, made k k' (act.Shut call) h.1.1));
      told = (tt, refl);
      since = λ n low. (grown k k' _ n r low, (call, made_since k k' (act.Shut call) n h.1.1 low));
    }

pub write_closed : (sound : Type 0) (k k' : Known) (t : Ticket) (cs : List Change) (call : ℕ) → TicketIn k t Writing → Refuses (rows_cause t.table.0 t.stamp) k k' (step.Closed call) → BatchTurns sound t.table cs (state.Writing t) k (state.Leaving t (fault.Closed call)) k' turn.Stepped
write_closed sound k k' t cs call i h =
    let r = ran-sees k k' h.1 in
    record { acts = []; ran = r; fits = (refl, (shut k' call h.0, inr (sees-ticket k k' t Writing h.1 i)), h.0); told = (tt, refl); since = λ n low. (grown k k' _ n r low, tt) }

-- 5. Phase 3

pub verifies : (sound : Type 0) (k k' : Known) (t : Ticket) (cs : List Change) → TicketIn k t Verifying → KeptWithin sound k.base k.seen t.table cs t.stamp → Finds k k' → BatchTurns sound t.table cs (state.Verifying t) k (state.Verifying t) k' turn.Stepped
verifies sound k k' t cs i w h = let r = ran-sees k k' h.sees in record { acts = []; ran = r; fits = (refl, sees-ticket k k' t Verifying h.sees i, within_ran sound k k' _ t.table cs t.stamp r w); told = (tt, refl); since = λ n low. grown k k' _ n r low }

pub verifies_all : (sound : Type 0) (k k' : Known) (t : Ticket) (cs : List Change) → TicketIn k t Verifying → KeptWithin sound k.base k.seen t.table cs t.stamp → Adds k k' (act.Phase t.table t.stamp 3) → BatchTurns sound t.table cs (state.Verifying t) k (state.Ending t) k' turn.Stepped
verifies_all sound k k' t cs i w h =
    let r = ran-adds k k' (act.Phase t.table t.stamp 3) h in
    record { acts = act.Phase t.table t.stamp 3 ∷ []; ran = r; fits = (refl, inl (adds-verified k k' t h i), within_ran sound k k' _ t.table cs t.stamp r w); told = (tt, refl); since = λ n low. grown k k' _ n r low }

pub verify_fails : (sound : Type 0) (k k' : Known) (t : Ticket) (cs : List Change) → TicketIn k t Verifying → KeptWithin sound k.base k.seen t.table cs t.stamp → Refuses write_cause k k' step.WriteFault → BatchTurns sound t.table cs (state.Verifying t) k (state.Ending t) k' turn.Stepped
verify_fails sound k k' t cs i w h =
    let call = h.1.0 in
    let r = ran-adds k k' (act.Shut call) h.1.1 in
    record {
      acts = act.Shut call ∷ [];
      ran = r;
      fits = (refl, inr (shut k' call (adds-shut k k' call h.1.1), refuses-ticket write_cause k k' step.WriteFault t Verifying h i), within_ran sound k k' _ t.table cs t.stamp r w);
      told = (tt, refl);
      since = λ n low. grown k k' _ n r low;
    }

pub verify_closed : (sound : Type 0) (k k' : Known) (t : Ticket) (cs : List Change) (call : ℕ) → TicketIn k t Verifying → KeptWithin sound k.base k.seen t.table cs t.stamp → Refuses write_cause k k' (step.Closed call) → BatchTurns sound t.table cs (state.Verifying t) k (state.Ending t) k' turn.Stepped
verify_closed sound k k' t cs call i w h =
    let r = ran-sees k k' h.1 in
    record { acts = []; ran = r; fits = (refl, inr (shut k' call h.0, sees-ticket k k' t Verifying h.1 i), within_ran sound k k' _ t.table cs t.stamp r w); told = (tt, refl); since = λ n low. grown k k' _ n r low }

-- 6. The end

pub ends : (sound : Type 0) (k k' : Known) (t : Ticket) (cs : List Change) (r : Receipt) → KeptWithin sound k.base k.seen t.table cs t.stamp → Adds k k' (act.Ended t.table t.stamp) → IsReceipt k' t r → BatchTurns sound t.table cs (state.Ending t) k state.Over k' (turn.Over (Ok r))
ends sound k k' t cs r w h i =
    let ran = ran-adds k k' (act.Ended t.table t.stamp) h in
    record {
      acts = act.Ended t.table t.stamp ∷ [];
      ran = ran;
      fits = tt;
      told = (
        refl,
        record {
          one = ap (λ (n : ℕ). act.Begun t.table n cs ∷ act.Ended t.table n ∷ []) (sym i.stamp);
          receipt = subst (λ (n : ℕ). IsReceipt k' (record { table = t.table; stamp = n }) r) (sym i.stamp) i;
          kept = subst (λ (n : ℕ). KeptWithin sound k'.base k'.seen t.table cs n) (sym i.stamp) (within_ran sound k k' _ t.table cs t.stamp ran w);
        },
      );
      since = λ n low. (let g = grown k k' _ n ran low in let at = i.at in omega arith);
    }

-- what tells a fault that stops a batch stays, since it is in the trail
stop_made : (f : BatchFault) (k k' : Known) → TimePasses k k' → StopIs f k → StopIs f k'
stop_made fault.WriteFault k k' h j = (j.0, passes-made k k' (act.Shut j.0) h j.1)
stop_made (fault.Closed call) k k' h j = ap closing_call h.seen ∙ closing-grows k.seen h.others call j
stop_made fault.NoTable k k' h j = absurd j
stop_made (fault.Limit which count) k k' h j = absurd j
stop_made fault.ReadFault k k' h j = absurd j
stop_made (fault.Damaged file place) k k' h j = absurd j
stop_made fault.Memory k k' h j = absurd j

stop_tells : (sound : Type 0) (table : TableId) (cs : List Change) (f : BatchFault) (k : Known) → StopIs f k → BatchFaultIs sound table cs f k
stop_tells sound table cs fault.WriteFault k j = j
stop_tells sound table cs (fault.Closed call) k j = j
stop_tells sound table cs fault.NoTable k j = absurd j
stop_tells sound table cs (fault.Limit which count) k j = absurd j
stop_tells sound table cs fault.ReadFault k j = absurd j
stop_tells sound table cs (fault.Damaged file place) k j = absurd j
stop_tells sound table cs fault.Memory k j = absurd j

stop_stops : (f : BatchFault) (k : Known) → StopIs f k → IsStopping f
stop_stops fault.WriteFault k j = tt
stop_stops (fault.Closed call) k j = tt
stop_stops fault.NoTable k j = absurd j
stop_stops (fault.Limit which count) k j = absurd j
stop_stops fault.ReadFault k j = absurd j
stop_stops (fault.Damaged file place) k j = absurd j
stop_stops fault.Memory k j = absurd j

since_made : (f : BatchFault) (k k' : Known) (acts : List Act) (n : ℕ) → n ≤ length k.seen → Ran k k' acts → BatchFaultSince n f k → BatchFaultSince n f k'
since_made fault.ReadFault k k' acts n low h j = (j.0, since-stays k k' acts (act.Missed j.0) n low h j.1)
since_made fault.WriteFault k k' acts n low h j = (j.0, since-stays k k' acts (act.Shut j.0) n low h j.1)
since_made f k k' acts n low h j = tt

pub leaves : (sound : Type 0) (k k' : Known) (t : Ticket) (cs : List Change) (f : BatchFault) → CanAbandon k t → StopIs f k → Sees k k' → BatchTurns sound t.table cs (state.Leaving t f) k state.Over k' (turn.Over (Err f))
leaves sound k k' t cs f can told h =
    let j = stop_made f k k' h.passes told in
    record {
      acts = [];
      ran = ran-sees k k' h;
      fits = tt;
      told = (refl, (stop_tells sound t.table cs f k' j, inr (stop_stops f k' j, passes-shut k k' h.passes can.0, (t.stamp, refl))));
      since = λ n low. since_made f k k' [] n low.0 (ran-sees k k' h) low.1;
    }

-- 7. Whole batches

pub starts : (sound : Type 0) (table : TableId) (cs : List Change) (k : Known) → AreFitting k table.0 cs → SoFar sound table cs k k state.Beginning
starts sound table cs k f = record { acts = []; ran = ran-none k; so_far = refl; fits = f; going = tt; since = omega arith }

joined : (table : TableId) (cs : List Change) (old : BatchState) (xs ys : List Act) → outline xs ≡ begun_by_batch table cs old → outline (xs ++ ys) ≡ begun_by_batch table cs old ++ outline ys
joined table cs old xs ys h = outline-append xs ys ∙ ap (λ (l : List Act). l ++ outline ys) h

pub steps_on : (sound : Type 0) (table : TableId) (cs : List Change) (k0 k k' : Known) (old new : BatchState) → SoFar sound table cs k0 k old → BatchTurns sound table cs old k new k' turn.Stepped → SoFar sound table cs k0 k' new
steps_on sound table cs k0 k k' old new h t =
    record {
      acts = h.acts ++ t.acts;
      ran = ran-then k0 k k' h.acts t.acts h.ran t.ran;
      so_far = joined table cs old h.acts t.acts h.so_far ∙ t.told.1;
      fits = t.fits;
      going = t.told.0;
      since = t.since (length k0.seen) h.since;
    }

pub waits_on : (sound : Type 0) (table : TableId) (cs : List Change) (k0 k k' : Known) (old new : BatchState) (stamp : ℕ) → SoFar sound table cs k0 k old → BatchTurns sound table cs old k new k' (turn.Waiting stamp) → SoFar sound table cs k0 k' new
waits_on sound table cs k0 k k' old new stamp h t =
    record {
      acts = h.acts ++ t.acts;
      ran = ran-then k0 k k' h.acts t.acts h.ran t.ran;
      so_far = joined table cs old h.acts t.acts h.so_far ∙ t.told.1;
      fits = t.fits;
      going = t.told.0;
      since = t.since (length k0.seen) h.since;
    }

outcome_by : (sound : Type 0) (table : TableId) (cs : List Change) (k : Known) (r : Result Receipt BatchFault) (xs ys : List Act) → xs ≡ ys → IsBatchOutcome sound table cs ys k r → IsBatchOutcome sound table cs xs k r
outcome_by sound table cs k r xs ys e h = subst (λ (l : List Act). IsBatchOutcome sound table cs l k r) (sym e) h

over_since : (n : ℕ) (s : BatchState) (k : Known) (r : Result Receipt BatchFault) → IsBatchSinceThen n s k (turn.Over r) → IsBatchSinceThen n state.Over k (turn.Over r)
over_since n s k (Ok r) h = h
over_since n s k (Err f) h = h

pub ends_as : (sound : Type 0) (table : TableId) (cs : List Change) (k0 k k' : Known) (old new : BatchState) (r : Result Receipt BatchFault) → SoFar sound table cs k0 k old → BatchTurns sound table cs old k new k' (turn.Over r) → RanBatch sound table cs k0 k' r
ends_as sound table cs k0 k k' old new r h t =
    record {
      acts = h.acts ++ t.acts;
      ran = ran-then k0 k k' h.acts t.acts h.ran t.ran;
      outcome = outcome_by sound table cs k' r (outline (h.acts ++ t.acts)) (begun_by_batch table cs old ++ outline t.acts) (joined table cs old h.acts t.acts h.so_far) t.told.1;
      since = over_since (length k0.seen) new k' r (t.since (length k0.seen) h.since);
    }

-- 8. Between two steps

-- entries of other seats leave a run as it is
pub fits-kept : (sound : Type 0) (table : TableId) (cs : List Change) (s : BatchState) (k k' : Known) → TimePasses k k' → FitsBatch sound table cs s k → FitsBatch sound table cs s k'
fits-kept sound table cs state.Beginning k k' h f = passes-fits k k' table.0 cs h f
fits-kept sound table cs state.Settling k k' h f = passes-fits k k' table.0 cs h f
fits-kept sound table cs (state.Marking t) k k' h f = (f.0, passes-ticket k k' t Marking h f.1, within_passes sound k k' table cs t.stamp h f.2)
fits-kept sound table cs (state.Writing t) k k' h f = (f.0, passes-ticket k k' t Writing h f.1, within_passes sound k k' table cs t.stamp h f.2)
fits-kept sound table cs (state.Verifying t) k k' h f = (f.0, passes-ticket k k' t Verifying h f.1, within_passes sound k k' table cs t.stamp h f.2)
fits-kept sound table cs (state.Ending t) k k' h (e, inl i, w) = (e, inl (passes-ticket k k' t Closing h i), within_passes sound k k' table cs t.stamp h w)
fits-kept sound table cs (state.Ending t) k k' h (e, inr i, w) = (e, inr (passes-shut k k' h i.0, passes-ticket k k' t Verifying h i.1), within_passes sound k k' table cs t.stamp h w)
fits-kept sound table cs (state.Leaving t f) k k' h (e, (s, inl i), told) = (e, (passes-shut k k' h s, inl (passes-ticket k k' t Marking h i)), stop_made f k k' h told)
fits-kept sound table cs (state.Leaving t f) k k' h (e, (s, inr i), told) = (e, (passes-shut k k' h s, inr (passes-ticket k k' t Writing h i)), stop_made f k k' h told)
fits-kept sound table cs state.Over k k' h f = tt
