-- An entry that tells of a failed read: what is true of a server stays so.
use Rattle.std.proofs.Common.{◌≡◌, ◌≤◌, ◌<◌, ◌+◌, ◌∙◌, ℕ, Option, None, Some, List, [], ◌∷◌, ◌++◌, length, get_or, inl, inr, take, zero, suc, add-one, refl, sym, ap, subst, arith}
use Rattle.std.specs.Prelude.{IsTrue, slice_get}
use Rattle.std.specs.List.{slice_set}
use Rattle.px_outside.specs.declared.disk.Disk.{Ghosts}
use Rattle.px_trail.specs.declared.entry.Act.TheVariants.{Missed}
use Rattle.px_trail.specs.declared.entry.Entry.{Entry}
use Rattle.px_trail.specs.Legal.{MayCome, Follows}
use Rattle.px_trail.specs.Recorded.{Recorded}
use Rattle.px_trail.specs.Trail.{Base, Catalogue, catalogue_of, catalogue_step, closing_step, missed_call, missed_from, missed_step, open_points}
use Rattle.px_trail.proofs.Growth.{catalogue-snoc, missed-snoc, points-snoc}
use Rattle.px_catalog.specs.declared.catalog.Catalog.{Catalog}
use Rattle.px_group.specs.Group.{AreStanding}
use Rattle.px_group.specs.declared.group.Group.{Group}
use Rattle.px_noting.proofs.Others.{apart_points, tallied_apart}
use Rattle.px_recovery.proofs.Server.{newest_early}
use Rattle.px_schema.specs.declared.standing.Standing.{Standing}
use Rattle.px_server.proofs.Lists.{all_at}
use Rattle.px_server.proofs.PointMoved.{pointed}
use Rattle.px_server.specs.Kept.{HasFailed, HasPoints, HasTrailRoom, IsKept}
use Rattle.px_server.specs.Others.{Beginning}
use Rattle.px_server.specs.Stamps.{IsByClock}
use Rattle.px_server.specs.inner.Missing.{IsUnmissed, Misses, TellsFault, missed_entry, unread_fault}
use Rattle.px_calls.specs.Causes.{Refuses, read_cause}
use Rattle.px_calls.specs.Known.{Known}
use Rattle.px_calls.specs.declared.fault.StepFault.{StepFault}
use Rattle.px_calls.specs.declared.fault.StepFault.TheVariants.{Memory, ReadFault}
use Rattle.px_outside.specs.declared.clock.Clock.{Ghosts as Clocks}
use Rattle.px_region.specs.declared.fault.LookFault.{LookFault}
use Rattle.px_region.specs.declared.fault.LookFault.TheVariants as look
use Rattle.px_server.proofs.Reserved.{roomy, set_long, set_there}
use Rattle.px_server.proofs.Seen.{one_more, stays}
use Rattle.px_server.proofs.Stamping.{more_by_clock, same_by_clock}
use Rattle.px_trail.specs.Legal.{IsLegal}
use Rattle.px_trail.specs.Trail.{closing_call, table_of}
use Rattle.px_server.proofs.Fixes.{set_same}

take_more : {A : Type 0} (xs : List A) (i : ℕ) (x : A) → slice_get xs i ≡ Some x → take (suc i) xs ≡ take i xs ++ x ∷ []
take_more [] i x is = absurd (let z : None ≡ Some x = is in cc)
take_more (y ∷ xs) zero x is = ap (λ z. z ∷ []) (let z : ◌≡◌ {A = Option _} (Some y) (Some x) = is in cc)
take_more (y ∷ xs) (suc i) x is = ap (λ (l : List _). y ∷ l) (take_more xs i x is)

-- the failed read that the last of some entries tells
pub missed_none : 0 ≡ missed_call []
unfolding missed_from
missed_none = refl

pub missed_on : (es : List Entry) (i : ℕ) (e : Entry) → slice_get es i ≡ Some e → missed_call (take (i + 1) es) ≡ missed_step (missed_call (take i es)) e.act
missed_on es i e at = ap (λ (n : ℕ). missed_call (take n es)) (add-one i) ∙ (ap (λ (l : List Entry). missed_call l) (take_more es i e at) ∙ missed-snoc (take i es) e)

missed_still : (c : Catalogue) (calls : ℕ) → catalogue_step c (Missed calls) ≡ c
unfolding catalogue_step
missed_still c calls = refl

module _ {D : Type 0} (d : Ghosts D) (tells_left : (x : D) (moment file : ℕ) (bytes : List ℕ) → d.left x moment file bytes → IsTrue d.tells)
    (up_to_now : (x : D) (moment file : ℕ) (bytes : List ℕ) → d.left x moment file bytes → moment ≤ d.calls x) (b : Base) (sound premise : Type 0) (began : Beginning)
    (disk : D) (catalog : Catalog) (standing : Standing) (groups : List Group) (trail : Recorded) (late : Option Entry) (closed : Option ℕ) (k : IsKept d b sound premise began disk catalog standing groups trail late closed)
    (running : closed ≡ None) (place : ℕ) (g : Group) (l : place < length groups) (is : get_or groups place g ≡ g) (seat calls : ℕ) (called : calls ≡ d.calls disk) (failed : HasFailed d disk) (above : IsUnmissed trail.entries calls) where
  abbrev e : Entry
  e = missed_entry seat calls

  unshut_by : (o : Option ℕ) → closing_step o (Missed calls) ≡ o
  unshut_by None = refl
  unshut_by (Some c) = refl

  pub may_miss : MayCome b trail.entries e
  unfolding Follows
  may_miss = record {
    follows = (above, omega arith);
    shut = λ past. k.told.closing ∙ running;
    calls = (let n = newest_early (d.calls disk) 0 trail.entries (omega arith) k.server.early in omega (arith, n, called));
  }

  standing_on : AreStanding b trail.entries g → AreStanding b (trail.entries ++ e ∷ []) g
  standing_on a = (let
      same : catalogue_of b (trail.entries ++ e ∷ []) ≡ catalogue_of b trail.entries = catalogue-snoc b trail.entries e ∙ missed_still (catalogue_of b trail.entries) calls
      in record {
        table = ap (λ (c : Catalogue). c.tables g.table.id.0) same ∙ a.table;
        index = λ j x at. ap (λ (c : Catalogue). c.indexes x.index.id.0) same ∙ a.index j x at;
        all = λ y at of_table maintained. a.all y (ap (λ (c : Catalogue). c.indexes y.id.0) (sym same) ∙ at) of_table maintained;
      })

  pub missed_kept : (trail' : Recorded) → trail'.entries ≡ trail.entries ++ e ∷ [] → HasTrailRoom closed groups trail' → IsKept d b sound premise began disk catalog standing groups trail' late closed
  missed_kept trail' entries room = (let
      same : slice_set groups place g ≡ groups = set_same groups place g l is
      in let
      here : HasPoints trail.entries g = all_at (HasPoints trail.entries) groups place g l is k.each.points
      in let
      roomy : Recorded = record trail { room = trail'.room }
      in let
      kept : IsKept d b sound premise began disk catalog standing groups roomy late closed = record { told = k.told; each = k.each; shown = k.shown; server = k.server; room = room; blamed = k.blamed; last_call = k.last_call; others = k.others }
      in subst (λ (gs : List Group). IsKept d b sound premise began disk catalog standing gs trail' late closed) same
      (pointed d tells_left up_to_now b sound premise began disk catalog standing groups roomy late closed kept e called refl (λ told. failed) may_miss (unshut_by closed) (λ c. missed_still c calls) (λ t. tt) place g g l is (record { table = refl; rows = refl; indexes = refl; batches = refl; last = refl; horizon = refl })
      (λ t other. tt) (λ n. tt) tt (λ q s. points-snoc q g.table.id.0 s trail.entries e ∙ (apart_points g.table.id q s (open_points q g.table.id.0 s trail.entries) seat (Missed calls) tt ∙ here q s))
      (λ hs t. tallied_apart b trail.entries g hs t e tt (standing_on t.standing)) trail' entries (omega arith)))

-- ---- what is told of a step that only read

module _ {D : Type 0} (d : Ghosts D) (tells_left : (x : D) (moment file : ℕ) (bytes : List ℕ) → d.left x moment file bytes → IsTrue d.tells)
    (up_to_now : (x : D) (moment file : ℕ) (bytes : List ℕ) → d.left x moment file bytes → moment ≤ d.calls x) (b : Base) (sound premise : Type 0) (began : Beginning)
    (disk : D) (catalog : Catalog) (standing : Standing) (groups : List Group) (trail : Recorded) (late : Option Entry) (closed : Option ℕ) (k : IsKept d b sound premise began disk catalog standing groups trail late closed)
    (running : closed ≡ None) (place : ℕ) (g : Group) (l : place < length groups) (is : get_or groups place g ≡ g) (seat calls : ℕ) (called : calls ≡ d.calls disk) (trail' : Recorded) where
  pub misses_kept : (told : StepFault) → HasFailed d disk → Misses seat calls trail.entries trail'.entries told → trail.room ≤ trail'.room → IsKept d b sound premise began disk catalog standing groups trail' late closed
  misses_kept told failed (inl t) room = missed_kept d tells_left up_to_now b sound premise began disk catalog standing groups trail late closed k running place g l is seat calls called failed t.2 trail' t.1 (let r = k.room in omega (arith, r, room))
  misses_kept told failed (inr t) room = roomy d b sound premise began disk catalog standing groups trail late closed k trail' t.1 room

  pub told_kept : (f told : StepFault) → (f ≡ ReadFault → HasFailed d disk) → TellsFault seat calls trail.entries trail'.entries f told → trail.room ≤ trail'.room → IsKept d b sound premise began disk catalog standing groups trail' late closed
  told_kept ReadFault told failed t room = misses_kept told (failed refl) t room
  told_kept f told failed t room = roomy d b sound premise began disk catalog standing groups trail late closed k trail' t.1 room

-- the same of a table that was set
module _ {D : Type 0} (d : Ghosts D) (tells_left : (x : D) (moment file : ℕ) (bytes : List ℕ) → d.left x moment file bytes → IsTrue d.tells)
    (up_to_now : (x : D) (moment file : ℕ) (bytes : List ℕ) → d.left x moment file bytes → moment ≤ d.calls x) (b : Base) (sound premise : Type 0) (began : Beginning)
    (disk : D) (catalog : Catalog) (standing : Standing) (groups : List Group) (place : ℕ) (g' : Group) (l : place < length groups) (trail : Recorded) (late : Option Entry) (closed : Option ℕ)
    (k : IsKept d b sound premise began disk catalog standing (slice_set groups place g') trail late closed) (running : closed ≡ None) (seat calls : ℕ) (called : calls ≡ d.calls disk) (trail' : Recorded) (room : trail.room ≤ trail'.room) where
  abbrev then : List Group
  then = slice_set groups place g'

  inside_then : place < length then
  inside_then = (let n = set_long groups place g' in omega (arith, n, l))

  pub misses_set : (told : StepFault) → HasFailed d disk → Misses seat calls trail.entries trail'.entries told → IsKept d b sound premise began disk catalog standing then trail' late closed
  misses_set told failed t = misses_kept d tells_left up_to_now b sound premise began disk catalog standing then trail late closed k running place g' inside_then (set_there groups place g' g' l) seat calls called trail' told failed t room

  pub told_set : (f told : StepFault) → (f ≡ ReadFault → HasFailed d disk) → TellsFault seat calls trail.entries trail'.entries f told → IsKept d b sound premise began disk catalog standing then trail' late closed
  told_set f told failed t = told_kept d tells_left up_to_now b sound premise began disk catalog standing then trail late closed k running place g' inside_then (set_there groups place g' g' l) seat calls called trail' f told failed t room

-- what is so of a failed read, and of want of memory
pub misses_as : (P : StepFault → Type 0) (seat calls : ℕ) (es es' : List Entry) (told : StepFault) → Misses seat calls es es' told → P ReadFault → P Memory → P told
misses_as P seat calls es es' told (inl t) read memory = subst P (sym t.0) read
misses_as P seat calls es es' told (inr t) read memory = subst P (sym t.0) memory

-- and of the fault, is so of what is told
pub told_as : (P : StepFault → Type 0) (seat calls : ℕ) (es es' : List Entry) (f told : StepFault) → TellsFault seat calls es es' f told → (f ≡ ReadFault → P ReadFault) → P Memory → P f → P told
told_as P seat calls es es' ReadFault told t read memory is = misses_as P seat calls es es' told t (read refl) memory
told_as P seat calls es es' f told t read memory is = subst P (sym t.0) is

-- a read failed
pub unread_was : (fault : LookFault) → unread_fault fault ≡ ReadFault → fault ≡ look.ReadFault
unread_was look.ReadFault same = refl
unread_was (look.Damaged file place) same = absurd cc
unread_was look.Memory same = absurd cc

-- a seat that knew of these entries
module _ (k : Known) (legal : IsLegal k.base k.seen) (running : closing_call k.seen ≡ None) (Cause : StepFault → Known → Type 0) (calls : ℕ) (es' : List Entry) (legal' : IsLegal k.base es') where
  pub misses_refused : (told : StepFault) → Misses k.seat calls k.seen es' told → (es' ≡ k.seen ++ missed_entry k.seat calls ∷ [] → Cause ReadFault (record k { seen = es' })) → Cause Memory k → Refuses Cause k (record k { seen = es' }) told
  misses_refused told (inl t) read memory = subst (Refuses Cause k (record k { seen = es' })) (sym t.0) (read t.1, (calls, one_more k es' calls (Missed calls) legal t.1 legal'))
  misses_refused told (inr t) read memory = subst (Refuses Cause k (record k { seen = es' })) (sym t.0)
      (subst (λ (es : List Entry). Refuses Cause k (record k { seen = es }) Memory) (sym t.1) (memory, stays k legal, running))

  pub told_refused : (f told : StepFault) → TellsFault k.seat calls k.seen es' f told → (es' ≡ k.seen ++ missed_entry k.seat calls ∷ [] → Cause ReadFault (record k { seen = es' })) → Cause Memory k
      → ((f ≡ ReadFault → ⊥) → Refuses Cause k k f) → Refuses Cause k (record k { seen = es' }) told
  told_refused ReadFault told t read memory other = misses_refused told t read memory
  told_refused f told t read memory other = subst (Refuses Cause k (record k { seen = es' })) (sym t.0)
      (subst (λ (es : List Entry). Refuses Cause k (record k { seen = es }) f) (sym t.1) (other (λ same. cc)))

-- of a look
module _ (k : Known) (legal : IsLegal k.base k.seen) (running : closing_call k.seen ≡ None) (sound : Type 0) where
  unread_told : (fault : LookFault) → ((file place : ℕ) → fault ≡ look.Damaged file place → ⊥) → (unread_fault fault ≡ ReadFault → ⊥) → Refuses (read_cause sound) k k (unread_fault fault)
  unread_told look.ReadFault undamaged other = absurd (other refl)
  unread_told (look.Damaged file place) undamaged other = absurd (undamaged file place refl)
  unread_told look.Memory undamaged other = (tt, stays k legal, running)

  pub unread_refused : (calls : ℕ) (es' : List Entry) → IsLegal k.base es' → (fault : LookFault) → ((file place : ℕ) → fault ≡ look.Damaged file place → ⊥) → (f : StepFault) → f ≡ unread_fault fault → (told : StepFault) → TellsFault k.seat calls k.seen es' f told
      → Refuses (read_cause sound) k (record k { seen = es' }) told
  unread_refused calls es' legal' fault undamaged f is told t =
      told_refused k legal running (read_cause sound) calls es' legal' (unread_fault fault) told (subst (λ (x : StepFault). TellsFault k.seat calls k.seen es' x told) is t) (λ entries. tt) tt (λ other. unread_told fault undamaged other)

-- the table stands as before
pub missed_table : (b : Base) (es es' : List Entry) (seat calls t : ℕ) → es' ≡ es ++ missed_entry seat calls ∷ [] → table_of b es' t ≡ table_of b es t
missed_table b es es' seat calls t is = ap (λ (l : List Entry). table_of b l t) is ∙ ap (λ (c : Catalogue). c.tables t) (catalogue-snoc b es (missed_entry seat calls) ∙ missed_still (catalogue_of b es) calls)

-- the clock was read no more
module _ {C : Type 0} (c : Clocks C) (times : ℕ → ℕ) (base : Base) (asked lookback : ℕ) (clock : C) (es : List Entry) (is : IsByClock c times base asked lookback clock es) (seat calls : ℕ) (es' : List Entry) where
  pub misses_by_clock : (told : StepFault) → Misses seat calls es es' told → IsByClock c times base asked lookback clock es'
  misses_by_clock told (inl t) = more_by_clock c times base asked lookback clock es is es' (missed_entry seat calls) t.1 refl
  misses_by_clock told (inr t) = same_by_clock c times base asked lookback clock es is es' t.1

  pub told_by_clock : (f told : StepFault) → TellsFault seat calls es es' f told → IsByClock c times base asked lookback clock es'
  told_by_clock ReadFault told t = misses_by_clock told t
  told_by_clock f told t = same_by_clock c times base asked lookback clock es is es' t.1
