-- Each doubt that is consulted and isn't to be left is fixed, where nobody else acts.
use Rattle.std.proofs.Common.{ℕ, ◌≡◌, ◌≢◌, Bool, true, Option, None, Some, Result, Ok, Err, Vec, List, [], ◌∷◌, ◌++◌, refl, sym, ◌∙◌, ap, subst, ◌⊎◌, inl, inr}
use Rattle.std.specs.declared.alloc.Global.{Global}
use Rattle.std.proofs.lemmas.List.{append-nil}
use Rattle.px_values.specs.declared.name.TableId.{TableId}
use Rattle.px_trail.specs.declared.entry.Act.TheVariants as act
use Rattle.px_trail.specs.declared.entry.Entry.{Entry}
use Rattle.px_trail.specs.Answers.{IsAmong}
use Rattle.px_trail.specs.Batches.{Batch, batch_of, batch_step}
use Rattle.px_trail.specs.Trail.{Base, Catalogue, catalogue_of, catalogue_step}
use Rattle.px_trail.proofs.Growth.{batch_of-snoc, catalogue-snoc}
use Rattle.px_calls.specs.declared.fault.StepFault.{StepFault}
use Rattle.px_calls.specs.declared.fault.StepFault.TheVariants as step
use Rattle.px_calls.specs.declared.query.Doubt.{Doubt}
use Rattle.px_calls.specs.declared.query.Fixing.{Fixing}
use Rattle.px_calls.specs.declared.query.Fixing.TheVariants as fixing
use Rattle.px_calls.specs.declared.query.FoundKey.{FoundKey}
use Rattle.px_calls.specs.declared.query.FoundKey.TheVariants.{InDoubt}
use Rattle.px_calls.specs.declared.query.Held.{Held}
use Rattle.px_calls.specs.declared.query.Point.{Point}
use Rattle.px_calls.specs.declared.query.Verdict.TheVariants.{Leave}
use Rattle.px_calls.specs.declared.status.Work.{Work}
use Rattle.px_calls.specs.declared.status.Work.TheVariants as work
use Rattle.px_calls.specs.Calls.{DidConsult, DidFix, DidWork, IsInFlight}
use Rattle.px_calls.specs.Causes.{Refuses, fix_cause}
use Rattle.px_calls.specs.Doubtful.{AreDoubtful, AreOthersDoubtful, AreStillDoubtful, IndexVersion, IsForRoom, version_of}
use Rattle.px_calls.specs.Known.{Adds, Extends, Known, Sees}
use Rattle.px_calls.specs.Looks.{IsRisingFrom, key_found, key_less}
use Rattle.px_calls.specs.Requires.{HasOpen}
use Rattle.px_calls.proofs.Keys.{irreflexive, transitive}
use Rattle.px_gather.specs.Query.{Query}
use Rattle.px_scan.specs.declared.answer.Placed.{Placed}
use Rattle.px_scan.specs.declared.answer.QueryFault.{QueryFault}
use Rattle.px_scan.specs.declared.machine.QueryState.{QueryState}
use Rattle.px_scan.specs.declared.machine.QueryState.TheVariants as state
use Rattle.px_scan.specs.declared.machine.Rest.{Rest}
use Rattle.px_scan.specs.declared.machine.Scan.{Scan}
use Rattle.px_scan.specs.Chains.{AreEdges, AreSteps, AreUnfaulted, IsUnfaulted, QueryStep, query_after}
use Rattle.px_scan.specs.Faults.{is_busy}
use Rattle.px_scan.specs.Fixes.{AreFixed, AreKeepingDoubts, AreRisingDoubts, HasDoubts, HasFixedEntry, IsDoubtful, IsDue, IsFixedBy, IsFixedLater, KeepsDoubts}
use Rattle.px_scan.specs.Turns.{AfterFix, IsQueryNew}
use Rattle.px_scan.proofs.Chaining.{IsToFix, works}

-- 1. The doubts of a chunk

-- a key was taken from the front
pub rising_on : (f : Point → IndexVersion → Bool) (p : Point) (low : Option (List ℕ)) (keys rest : List FoundKey) (key : FoundKey) → AreRisingDoubts f p low keys → keys ≡ key ∷ rest → AreRisingDoubts f p (Some (key_found key)) rest
unfolding IsRisingFrom IsAmong
rising_on f p low keys rest key h items =
    let all : AreRisingDoubts f p low (key ∷ rest) = subst (AreRisingDoubts f p low) items h in
    (all.0.1, λ d among. all.1 d (inr among))

-- and it is in doubt
pub doubtful_on : (f : Point → IndexVersion → Bool) (p : Point) (low : Option (List ℕ)) (keys rest : List FoundKey) (key : FoundKey) (d : Doubt) → AreRisingDoubts f p low keys → keys ≡ key ∷ rest → key ≡ InDoubt d → IsDoubtful f p d rest
unfolding IsRisingFrom IsAmong
doubtful_on f p low keys rest key d h items is =
    let all : AreRisingDoubts f p low (InDoubt d ∷ rest) = subst (λ (k : FoundKey). AreRisingDoubts f p low (k ∷ rest)) is (subst (AreRisingDoubts f p low) items h) in
    (all.1 d (inl refl), (all.0.1, λ e among. all.1 e (inr among)))

-- keys that rise from one on have none that is it
past_low : (low : List ℕ) (keys : List FoundKey) → IsRisingFrom (Some low) keys → (g : FoundKey) → IsAmong g keys → key_less low (key_found g) ≡ true
unfolding IsRisingFrom IsAmong
past_low low [] h g among = absurd among
past_low low (x ∷ xs) h g (inl same) = subst (λ (w : FoundKey). key_less low (key_found w) ≡ true) same h.0
past_low low (x ∷ xs) h g (inr among) = transitive low (key_found x) (key_found g) h.0 (past_low (key_found x) xs h.1 g among)

apart : (low : List ℕ) (keys : List FoundKey) → IsRisingFrom (Some low) keys → (d : Doubt) → IsAmong (InDoubt d) keys → d.key ≢ low
apart low keys h d among same =
    let less = past_low low keys h (InDoubt d) among in
    let self : key_less low low ≡ true = subst (λ (k : List ℕ). key_less low k ≡ true) same less in
    let no = irreflexive low in
    cc

-- what is in doubt stays so
pub still_doubtful : (k : Known) (f f' : Point → IndexVersion → Bool) (p : Point) (d : Doubt) (keys : List FoundKey) → AreStillDoubtful k f f' → HasOpen k p → IsDoubtful f p d keys → IsDoubtful f' p d keys
still_doubtful k f f' p d keys stays is_open h = (stays p (version_of d) is_open h.0, (h.1.0, λ e among. stays p (version_of e) is_open (h.1.1 e among)))

-- and at the keys behind a doubt that was fixed
pub others_doubtful : (k : Known) (f f' : Point → IndexVersion → Bool) (p : Point) (d : Doubt) (keys : List FoundKey) → AreOthersDoubtful k d.key f f' → HasOpen k p → IsDoubtful f p d keys → AreRisingDoubts f' p (Some d.key) keys
others_doubtful k f f' p d keys stays is_open h = (h.1.0, λ e among. stays p (version_of e) is_open (apart d.key keys h.1.0 e among) (h.1.1 e among))

-- 2. What is in flight

-- of a doubt that differs in its verdict alone, after entries that leave tables, indexes and batches
same_flight : (b b' : Base) (es es' : List Entry) (d d' : Doubt) → catalogue_of b' es' ≡ catalogue_of b es → ((t s : ℕ) → batch_of t s es' ≡ batch_of t s es) → d'.index ≡ d.index → d'.key ≡ d.key → d'.stamp ≡ d.stamp → IsInFlight b' es' d' → IsInFlight b es d
same_flight b b' es es' d d' catalogue batches index key stamp h =
    let o = h.owner in
    record {
      table = h.table;
      row = h.row;
      owner = record {
        index = o.index;
        is = ap (λ (c : Catalogue). c.indexes d.index.0) (sym catalogue) ∙ (ap (λ (i : _). (catalogue_of b' es').indexes i.0) (sym index) ∙ o.is);
        of_table = o.of_table;
        table = o.table;
        table_is = ap (λ (c : Catalogue). c.tables h.table) (sym catalogue) ∙ o.table_is;
        values = o.values;
        key = rw (sym key) o.key;
        owner = o.owner;
      };
      batch = h.batch;
      is = sym (batches h.table d.stamp) ∙ (ap (λ (s : ℕ). batch_of h.table s es') (sym stamp) ∙ h.is);
      left = h.left;
    }

-- where nobody else acts, a call that adds nothing leaves what was seen
seen_alone : (k k' : Known) → k.alone ≡ true → Sees k k' → k'.seen ≡ k.seen
seen_alone k k' alone h = h.passes.seen ∙ (ap (λ (l : List Entry). k.seen ++ l) (h.alone alone) ∙ append-nil k.seen)

sees_catalogue : (k k' : Known) → k.alone ≡ true → Sees k k' → catalogue_of k'.base k'.seen ≡ catalogue_of k.base k.seen
sees_catalogue k k' alone h = ap (λ (b : Base). catalogue_of b k'.seen) h.passes.base ∙ ap (catalogue_of k.base) (seen_alone k k' alone h)

sees_batches : (k k' : Known) → k.alone ≡ true → Sees k k' → (t s : ℕ) → batch_of t s k'.seen ≡ batch_of t s k.seen
sees_batches k k' alone h t s = ap (batch_of t s) (seen_alone k k' alone h)

-- nor does a horizon that rises change any of it
raised_catalogue : (c : Catalogue) (t : TableId) (h : ℕ) → catalogue_step c (act.Raised t h) ≡ c
unfolding catalogue_step
raised_catalogue c t h = refl

raised_batch : (t s : ℕ) (o : Option Batch) (seat : ℕ) (t' : TableId) (h : ℕ) → batch_step t s o seat (act.Raised t' h) ≡ o
unfolding batch_step
raised_batch t s None seat t' h = refl
raised_batch t s (Some b) seat t' h = refl

module _ (k k' : Known) (t : TableId) (h : ℕ) (e : Extends k k' (act.Raised t h)) where
  abbrev entry : Entry
  entry = record { seat = k.seat; calls = e.calls; act = act.Raised t h }

  rises_catalogue : catalogue_of k'.base k'.seen ≡ catalogue_of k.base k.seen
  rises_catalogue = ap (λ (b : Base). catalogue_of b k'.seen) e.base ∙ (ap (catalogue_of k.base) e.seen ∙ (catalogue-snoc k.base k.seen entry ∙ raised_catalogue (catalogue_of k.base k.seen) t h))

  rises_batches : (u s : ℕ) → batch_of u s k'.seen ≡ batch_of u s k.seen
  rises_batches u s = ap (batch_of u s) e.seen ∙ (batch_of-snoc u s k.seen entry ∙ raised_batch u s (batch_of u s k.seen) k.seat t h)

-- a doubt that was due is so still
pub sees_due : (k k' : Known) (d : Doubt) → k.alone ≡ true → Sees k k' → IsDue k d → IsDue k' d
sees_due k k' d alone s h = λ told flight. h told (same_flight k.base k'.base k.seen k'.seen d d (sees_catalogue k k' alone s) (sees_batches k k' alone s) refl refl refl flight)

rises_due : (k k' : Known) (d : Doubt) (t : TableId) (n : ℕ) → k.alone ≡ true → Adds k k' (act.Raised t n) → IsDue k d → IsDue k' d
rises_due k k' d t n alone a h =
    let mid = sees_due k a.between d alone a.sees h in
    λ told flight. mid told (same_flight a.between.base k'.base a.between.seen k'.seen d d (rises_catalogue a.between k' t n a.extends) (rises_batches a.between k' t n a.extends) refl refl refl flight)

pub works_due : (k k' : Known) (d : Doubt) (w : Work) → k.alone ≡ true → DidWork k k' w → IsDue k d → IsDue k' d
works_due k k' d work.Did alone (inl f) h = sees_due k k' d alone f.sees h
works_due k k' d work.Did alone (inr a) h = rises_due k k' d a.0 a.1 alone a.2 h
works_due k k' d work.Idle alone f h = sees_due k k' d alone f.sees h

-- 3. Steps

-- a doubt that was consulted
pub consulted_due : (sound : Type 0) (k k' : Known) (p : Point) (d d' : Doubt) (held : Option Held) → DidConsult sound k k' p d d' held → IsDue k' d'
consulted_due sound k k' p d d' held h = λ told flight. told (h.leave.1 (same_flight k'.base k'.base k'.seen k'.seen d d' refl (λ t s. refl) h.index h.key h.stamp flight))

pub consulted_doubtful : (sound : Type 0) (k k' : Known) (f : Point → IndexVersion → Bool) (p : Point) (d d' : Doubt) (held : Option Held) (keys : List FoundKey) → DidConsult sound k k' p d d' held → IsDoubtful f p d keys → IsDoubtful f p d' keys
consulted_doubtful sound k k' f p d d' held keys h is = (
  subst (λ i. f p (record { index = i; key = d'.key; stamp = d'.stamp }) ≡ true) (sym h.index)
      (subst (λ c. f p (record { index = d.index; key = c; stamp = d'.stamp }) ≡ true) (sym h.key)
      (subst (λ s. f p (record { index = d.index; key = d.key; stamp = s }) ≡ true) (sym h.stamp) is.0)),
  subst (λ c. AreRisingDoubts f p (Some c) keys) (sym h.key) is.1,
)

-- its entry is added, unless it is to be left
fix_adds : (k k' : Known) (d : Doubt) (w : Fixing) → k.alone ≡ true → DidFix k k' d w → w ≢ fixing.Gone → IsDue k d → d.verdict ≢ Some Leave → Adds k k' (act.Fixed d.index d.key)
fix_adds k k' d fixing.Fixed alone h there due told = h.0
fix_adds k k' d fixing.Gone alone h there due told = absurd (there refl)
fix_adds k k' d fixing.InFlight alone h there due told = absurd (sees_due k k' d alone h.0.sees due told h.1)

fixed_by : (x : Scan) (rest : Rest) (d : Doubt) (k : Known) (new : QueryState) (k' : Known) → (d.verdict ≢ Some Leave → Adds k k' (act.Fixed d.index d.key)) → IsFixedBy (state.Fixing x rest d) k new k'
fixed_by x rest d k (state.Opening rows) k' h = h
fixed_by x rest d k (state.Looking y a) k' h = h
fixed_by x rest d k (state.Consulting y r e) k' h = h
fixed_by x rest d k (state.Fixing y r e) k' h = h
fixed_by x rest d k (state.Settling y r e) k' h = tt
fixed_by x rest d k (state.Closing p (Ok rows)) k' h = h
fixed_by x rest d k (state.Closing p (Err f)) k' h = tt
fixed_by x rest d k state.Over k' h = h

-- a step that repaired a doubt, behind which the keys are gone through
pub fixes_doubt : (k k' : Known) (f f' : Point → IndexVersion → Bool) (x : Scan) (rest : Rest) (d : Doubt) (w : Fixing) (new : QueryState) → k.alone ≡ true → HasOpen k x.point → DidFix k k' d w
    → ((p : Point) → HasOpen k p → f p (version_of d) ≡ true → w ≢ fixing.Gone) → AreOthersDoubtful k d.key f f' → (AreRisingDoubts f' x.point (Some d.key) rest.keys.items → HasDoubts f' k' new) → KeepsDoubts (state.Fixing x rest d) k f new k' f'
fixes_doubt k k' f f' x rest d w new alone is_open did there others goes = record {
  kept = λ h. goes (others_doubtful k f f' x.point d rest.keys.items others is_open h.0);
  fixed = λ h. fixed_by x rest d k new k' (fix_adds k k' d w alone did (there x.point is_open h.0.0) h.1);
}

pub busy_room : (f : StepFault) → is_busy f ≡ true → IsForRoom f
busy_room step.NameExists h = cc
busy_room step.NoTable h = cc
busy_room step.NoIndex h = cc
busy_room (step.Limit which count) h = cc
busy_room (step.Busy region cells bytes) h = tt
busy_room (step.NotReady region) h = tt
busy_room (step.InUse count) h = cc
busy_room (step.NotYet stamp) h = cc
busy_room (step.BelowHorizon horizon) h = cc
busy_room step.ReadFault h = cc
busy_room step.WriteFault h = cc
busy_room (step.Damaged file place) h = cc
busy_room (step.Closed call) h = cc
busy_room step.Memory h = cc

-- a repair that was refused until there is room
room_sees : (sound : Type 0) (k k' : Known) (f : StepFault) → IsForRoom f → Refuses (fix_cause sound) k k' f → Sees k k'
room_sees sound k k' (step.Busy region cells bytes) room h = h.1
room_sees sound k k' (step.NotReady region) room h = h.1
room_sees sound k k' step.NameExists room h = absurd room
room_sees sound k k' step.NoTable room h = absurd room
room_sees sound k k' step.NoIndex room h = absurd room
room_sees sound k k' (step.Limit which count) room h = absurd room
room_sees sound k k' (step.InUse count) room h = absurd room
room_sees sound k k' (step.NotYet stamp) room h = absurd room
room_sees sound k k' (step.BelowHorizon horizon) room h = absurd room
room_sees sound k k' step.ReadFault room h = absurd room
room_sees sound k k' step.WriteFault room h = absurd room
room_sees sound k k' (step.Damaged file place) room h = absurd room
room_sees sound k k' (step.Closed call) room h = absurd room
room_sees sound k k' step.Memory room h = absurd room

pub refused_doubt : (sound : Type 0) (k k' : Known) (f f' : Point → IndexVersion → Bool) (x : Scan) (rest : Rest) (d : Doubt) (fault : StepFault) → k.alone ≡ true → HasOpen k x.point → is_busy fault ≡ true → Refuses (fix_cause sound) k k' fault
    → (IsForRoom fault → AreStillDoubtful k f f') → KeepsDoubts (state.Fixing x rest d) k f (state.Settling x rest d) k' f'
refused_doubt sound k k' f f' x rest d fault alone is_open busy refused stays =
    let room = busy_room fault busy in
    record {
      kept = λ h. (still_doubtful k f f' x.point d rest.keys.items (stays room) is_open h.0, sees_due k k' d alone (room_sees sound k k' fault room refused) h.1);
      fixed = λ h. tt;
    }

-- upkeep, after which the doubt is fixed or upkeep goes on
pub settles_doubt : (k k' : Known) (f f' : Point → IndexVersion → Bool) (x : Scan) (rest : Rest) (d : Doubt) (w : Work) → k.alone ≡ true → HasOpen k x.point → DidWork k k' w → AreStillDoubtful k f f'
    → HasDoubts f k (state.Settling x rest d) → IsDoubtful f' x.point d rest.keys.items × IsDue k' d
settles_doubt k k' f f' x rest d w alone is_open did stays h = (still_doubtful k f f' x.point d rest.keys.items stays is_open h.0, works_due k k' d w alone did h.1)

unfixed : (old : QueryState) (k : Known) (p : Point) (fault : QueryFault) (k' : Known) → IsFixedBy old k (state.Closing p (Err fault)) k'
unfixed (state.Opening rows) k p fault k' = tt
unfixed (state.Looking y a) k p fault k' = tt
unfixed (state.Consulting y r e) k p fault k' = tt
unfixed (state.Fixing y r e) k p fault k' = tt
unfixed (state.Settling y r e) k p fault k' = tt
unfixed (state.Closing q end) k p fault k' = tt
unfixed state.Over k p fault k' = tt

-- a step that leaves no doubt, and repairs none unless it ends with a fault
pub closes_doubts : (old : QueryState) (k : Known) (f : Point → IndexVersion → Bool) (new : QueryState) (k' : Known) (f' : Point → IndexVersion → Bool) (p : Point) (fault : QueryFault) → new ≡ state.Closing p (Err fault) → KeepsDoubts old k f new k' f'
closes_doubts old k f new k' f' p fault is = record {
  kept = λ h. subst (HasDoubts f' k') (sym is) tt;
  fixed = λ h. subst (λ (n : QueryState). IsFixedBy old k n k') (sym is) (unfixed old k p fault k');
}

pub closed_doubts : (f : Point → IndexVersion → Bool) (k : Known) (new : QueryState) (p : Point) (end : Result (Vec Placed Global) QueryFault) → new ≡ state.Closing p end → HasDoubts f k new
closed_doubts f k new p end is = subst (HasDoubts f k) (sym is) tt

-- the keys of a chunk, none of them gone through
pub rest_rising : (f : Point → IndexVersion → Bool) (p : Point) (low : Option (List ℕ)) (found keys : List FoundKey) → keys ≡ found → IsRisingFrom low found → AreDoubtful f p found → AreRisingDoubts f p low keys
rest_rising f p low found keys same rising doubts = subst (AreRisingDoubts f p low) (sym same) (rising, doubts)

-- 4. Steps, one after another

here : (d : Doubt) (o : QueryStep) (os : List QueryStep) → Adds o.before o.after (act.Fixed d.index d.key) → HasFixedEntry d (o ∷ os)
unfolding IsAmong
here d o os h = record { step = o; among = inl refl; adds = h }

later : (d e : Doubt) (o : QueryStep) (os : List QueryStep) → e ≡ d → HasFixedEntry e os → HasFixedEntry d (o ∷ os)
unfolding IsAmong
later d e o os same h = record { step = h.step; among = inr h.among; adds = subst (λ (z : Doubt). Adds h.step.before h.step.after (act.Fixed z.index z.key)) same h.adds }

-- a repair goes on after upkeep with the same doubt, or it was made
goes_on : (x : Scan) (r : Rest) (d : Doubt) (o : QueryStep) (s : QueryState) → AfterFix d o.before s o.after → IsFixedBy (state.Fixing x r d) o.before s o.after → IsUnfaulted s → d.verdict ≢ Some Leave → IsToFix s d ⊎ Adds o.before o.after (act.Fixed d.index d.key)
goes_on x r d o (state.Opening rows) h by u told = inr (by told)
goes_on x r d o (state.Looking y a) h by u told = inr (by told)
goes_on x r d o (state.Consulting y z e) h by u told = inr (by told)
goes_on x r d o (state.Fixing y z e) h by u told = inr (by told)
goes_on x r d o (state.Settling y z e) h by u told = inl h
goes_on x r d o (state.Closing p (Ok v)) h by u told = inr (by told)
goes_on x r d o (state.Closing p (Err f)) h by u told = absurd u
goes_on x r d o state.Over h by u told = inr (by told)

moved : (f : Point → IndexVersion → Bool) (k k' : Known) (s : QueryState) → k' ≡ k → HasDoubts f k s → HasDoubts f k' s
moved f k k' s same h = subst (λ (z : Known). HasDoubts f z s) (sym same) h

entry_at_last : (sound : Type 0) (f : Point → IndexVersion → Bool) (d : Doubt) (s : QueryState) (k : Known) (os : List QueryStep) → IsToFix s d → d.verdict ≢ Some Leave → HasDoubts f k s → AreEdges sound s os → AreKeepingDoubts k f s os → AreUnfaulted os → query_after s os ≡ state.Over → HasFixedEntry d os
entry_at_last sound f d (state.Opening rows) k os t told w h a u e = absurd t
entry_at_last sound f d (state.Looking x c) k os t told w h a u e = absurd t
entry_at_last sound f d (state.Consulting x r z) k os t told w h a u e = absurd t
entry_at_last sound f d (state.Closing x end) k os t told w h a u e = absurd t
entry_at_last sound f d state.Over k os t told w h a u e = absurd t
entry_at_last sound f d (state.Fixing x r z) k [] t told w h a u e = cc
entry_at_last sound f d (state.Settling x r z) k [] t told w h a u e = cc
entry_at_last sound f d (state.Fixing x r z) k (o ∷ os) t told w h a u e =
    let own : z.verdict ≢ Some Leave = subst (λ (y : Doubt). y.verdict ≢ Some Leave) (sym t) told in
    let was = moved f k o.before (state.Fixing x r z) a.0 w in
    elim (goes_on x r z o o.state h.0 (a.1.fixed was) u.0 own) [
      | inl more ↦ later d z o os t (entry_at_last sound o.doubtful z o.state o.after os more own (a.1.kept was) h.1 a.2 u.1 e)
      | inr adds ↦ here d o os (subst (λ (y : Doubt). Adds o.before o.after (act.Fixed y.index y.key)) t adds)
    ]
entry_at_last sound f d (state.Settling x r z) k (o ∷ os) t told w h a u e =
    let own : z.verdict ≢ Some Leave = subst (λ (y : Doubt). y.verdict ≢ Some Leave) (sym t) told in
    let was = moved f k o.before (state.Settling x r z) a.0 w in
    later d z o os t (entry_at_last sound o.doubtful z o.state o.after os (works z o.state h.0 u.0) own (a.1.kept was) h.1 a.2 u.1 e)

-- where a step consulted a doubt
one_later : (sound : Type 0) (f : Point → IndexVersion → Bool) (old new : QueryState) (k : Known) (os : List QueryStep) → HasDoubts f k new → AreEdges sound new os → AreKeepingDoubts k f new os → AreUnfaulted os → query_after new os ≡ state.Over → IsFixedLater old new os
one_later sound f (state.Consulting x r d) (state.Fixing y r' z) k os w h a u e = λ told. entry_at_last sound f z (state.Fixing y r' z) k os refl told w h a u e
one_later sound f (state.Consulting x r d) (state.Opening rows) k os w h a u e = tt
one_later sound f (state.Consulting x r d) (state.Looking y c) k os w h a u e = tt
one_later sound f (state.Consulting x r d) (state.Consulting y r' z) k os w h a u e = tt
one_later sound f (state.Consulting x r d) (state.Settling y r' z) k os w h a u e = tt
one_later sound f (state.Consulting x r d) (state.Closing p end) k os w h a u e = tt
one_later sound f (state.Consulting x r d) state.Over k os w h a u e = tt
one_later sound f (state.Opening rows) new k os w h a u e = tt
one_later sound f (state.Looking x c) new k os w h a u e = tt
one_later sound f (state.Fixing x r d) new k os w h a u e = tt
one_later sound f (state.Settling x r d) new k os w h a u e = tt
one_later sound f (state.Closing p end) new k os w h a u e = tt
one_later sound f state.Over new k os w h a u e = tt

pub all_fixed : (sound : Type 0) (f : Point → IndexVersion → Bool) (s : QueryState) (k : Known) (os : List QueryStep) → HasDoubts f k s → AreEdges sound s os → AreKeepingDoubts k f s os → AreUnfaulted os → query_after s os ≡ state.Over → AreFixed s os
all_fixed sound f s k [] w h a u e = tt
all_fixed sound f s k (o ∷ os) w h a u e =
    let then = a.1.kept (moved f k o.before s a.0 w) in
    (one_later sound o.doubtful s o.state o.after os then h.1 a.2 u.1 e, all_fixed sound o.doubtful o.state o.after os then h.1 a.2 u.1 e)

pub fixed_by_edges : (sound : Type 0) (f : Point → IndexVersion → Bool) (s : QueryState) (k : Known) (os : List QueryStep) → IsQueryNew s → AreEdges sound s os → AreKeepingDoubts k f s os → AreUnfaulted os → query_after s os ≡ state.Over → AreFixed s os
fixed_by_edges sound f (state.Opening rows) k os new h a u e = all_fixed sound f (state.Opening rows) k os tt h a u e
fixed_by_edges sound f (state.Looking x c) k os new h a u e = absurd new
fixed_by_edges sound f (state.Consulting x r d) k os new h a u e = absurd new
fixed_by_edges sound f (state.Fixing x r d) k os new h a u e = absurd new
fixed_by_edges sound f (state.Settling x r d) k os new h a u e = absurd new
fixed_by_edges sound f (state.Closing p end) k os new h a u e = absurd new
fixed_by_edges sound f state.Over k os new h a u e = absurd new

edges_of : (sound : Type 0) (q : Query) (scn : Option ℕ) (s : QueryState) (k : Known) (os : List QueryStep) → AreSteps sound q scn s k os → AreEdges sound s os
edges_of sound q scn s k [] h = tt
edges_of sound q scn s k (o ∷ os) h = (h.1.edge, edges_of sound q scn o.state o.after os h.2)

pub fixed_from_new : (sound : Type 0) (q : Query) (scn : Option ℕ) (f : Point → IndexVersion → Bool) (s : QueryState) (k : Known) (os : List QueryStep) → IsQueryNew s → AreSteps sound q scn s k os → AreKeepingDoubts k f s os → AreUnfaulted os → query_after s os ≡ state.Over → AreFixed s os
fixed_from_new sound q scn f s k os new h a u e = fixed_by_edges sound f s k os new (edges_of sound q scn s k os h) a u e
