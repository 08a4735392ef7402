-- An order to upkeep: what is true of a server stays so, and what it leaves where it is done.
use Rattle.std.proofs.Common.{◌≡◌, inl, inr, false, ◌<◌, ◌≤◌, ◌+◌, ℕ, zero, suc, Option, None, Some, List, [], ◌∷◌, length, get_or, slice_get, take, refl, sym, ap, subst, ◌∙◌, arith}
use Rattle.std.specs.Prelude.{IsTrue, ◌-◌, sum_by}
use Rattle.std.specs.List.{AllByRecursion, slice_set}
use Rattle.std.proofs.lemmas.Bool.{false≢true}
use Rattle.std.proofs.lemmas.List.Sums.{sum_by-cons}
use Rattle.px_outside.specs.declared.disk.Disk.{Ghosts}
use Rattle.px_outside.proofs.Moments.{touches_none}
use Rattle.px_trail.specs.declared.entry.Entry.{Entry}
use Rattle.px_trail.specs.Legal.{IsLegal}
use Rattle.px_trail.specs.Recorded.{Recorded}
use Rattle.px_trail.specs.States.{greatest_stamp}
use Rattle.px_trail.specs.Trail.{Base, closing_call}
use Rattle.px_wal.specs.Files.{HasFile}
use Rattle.px_region.specs.Ordered.{IsFlushOrdered, IsSameOrder}
use Rattle.px_region.specs.Promise.{IsAlike, IsSamePromise}
use Rattle.px_region.specs.Region.{RegionHolds, read_of}
use Rattle.px_region.specs.declared.region.Region.{Region}
use Rattle.px_region.proofs.Holding.{holds_alike, stands_now}
use Rattle.px_region.proofs.Logged.{nothing_logged}
use Rattle.px_schema.specs.declared.standing.Standing.{Standing}
use Rattle.px_catalog.specs.declared.catalog.Catalog.{Catalog}
use Rattle.px_group.specs.declared.group.Begun.{Begun}
use Rattle.px_group.specs.declared.group.Group.{Group}
use Rattle.px_group.specs.declared.group.OpenPoint.{OpenPoint}
use Rattle.px_group.specs.declared.group.IndexRegion.{IndexRegion}
use Rattle.px_raising.specs.Turning.{has_batch, points_at}
use Rattle.px_recovery.specs.Folder.{FolderData}
use Rattle.px_calls.specs.Calls.{DidOrder}
use Rattle.px_calls.specs.Known.{Known}
use Rattle.px_server.specs.Kept.{IsKept, IsOnDisk}
use Rattle.px_server.specs.Others.{Beginning}
use Rattle.px_server.specs.Shown.{logged_at, logged_by}
use Rattle.px_server.specs.Upkeep as upkeep
use Rattle.px_server.specs.Upkeep.{AllSettle, AreCompacting, AreFree, AreOrdered, HasForgottenTo, HasIndexForgottenTo, HasRisen, HaveFlushed, HaveForgotten, IsCompacting, IsFreeIndex, IsIndexToForget, IsOrderedIndex, IsTableCompacted, IsToForget, IsWantedIndex, IsWantedTable, Settles, StaysOn, StepsFiles}
use Rattle.px_server.specs.declared.upkeep.Chore.TheVariants as chore
use Rattle.px_server.proofs.Seen.{stays}
use Rattle.px_server.proofs.Stepped.{put_back, stepped}
use Rattle.px_server.proofs.Lists.{all_weaker}

-- 1. A region

-- no call is made, and the disk tells the same of the region
pub still_steps : {D : Type 0} (d : Ghosts D) (up_to_now : (x : D) (moment file : ℕ) (bytes : List ℕ) → d.left x moment file bytes → moment ≤ d.calls x) (disk : D) (old new : Region) (horizon : ℕ) → new.number ≡ old.number → IsSamePromise old new → StepsFiles d old new disk disk horizon
still_steps d up_to_now disk old new horizon number promised = record {
  number = number;
  leaves = λ s holds. record { each = λ moment image since left. inl ((stands_now d old disk s holds up_to_now).each moment image since left) };
  touches = λ s holds. touches_none d.calls d.left d.seen up_to_now disk (HasFile old.number);
  counts = record { later = omega arith; at_most = omega arith; faults_later = omega arith; begun = refl };
  promised = promised;
}

pub order_stays : {D : Type 0} (d : Ghosts D) (disk : D) (old new : Region) → IsAlike old new → read_of new ≡ read_of old → StaysOn d old new disk disk
order_stays d disk old new alike read = record { read = read; horizon = alike.horizon; holds = λ s holds. holds_alike d old disk s holds new alike }

-- a step keeps that all is ordered
pub ordered_on : (old new : Region) → IsSameOrder old new → IsFlushOrdered old → IsFlushOrdered new
ordered_on old new same ordered = (let o = same.ordered in let l = same.last in omega (arith, ordered, o, l))

-- 2. Lists

pub set_length : {A : Type 0} (xs : List A) (i : ℕ) (x : A) → length (slice_set xs i x) ≡ length xs
set_length [] i x = refl
set_length (y ∷ xs) zero x = refl
set_length (y ∷ xs) (suc i) x = ap (λ n. suc n) (set_length xs i x)

pub set_twice : {A : Type 0} (xs : List A) (i : ℕ) (x y : A) → slice_set (slice_set xs i x) i y ≡ slice_set xs i y
set_twice [] i x y = refl
set_twice (z ∷ xs) zero x y = refl
set_twice (z ∷ xs) (suc i) x y = ap (λ zs. z ∷ zs) (set_twice xs i x y)

pub set_there : {A : Type 0} (xs : List A) (i : ℕ) (x d : A) → i < length xs → get_or (slice_set xs i x) i d ≡ x
set_there [] i x d l = absurd (omega (arith, l))
set_there (y ∷ xs) zero x d l = refl
set_there (y ∷ xs) (suc i) x d l = set_there xs i x d (omega (arith, l))

set_suc : {A : Type 0} (P : A → Type 0) (xs : List A) (i : ℕ) (x : A) → i < length xs → AllByRecursion P (take i xs) → P x → AllByRecursion P (take (suc i) (slice_set xs i x))
set_suc P [] i x l all is = absurd (omega (arith, l))
set_suc P (y ∷ xs) zero x l all is = (is, tt)
set_suc P (y ∷ xs) (suc i) x l all is = (all.0, set_suc P xs i x (omega (arith, l)) all.1 is)

-- what is so of those before a place is so of one more, once it is so there
pub set_next : {A : Type 0} (P : A → Type 0) (xs : List A) (i : ℕ) (x : A) → i < length xs → AllByRecursion P (take i xs) → P x → AllByRecursion P (take (i + 1) (slice_set xs i x))
set_next P xs i x l all is = subst (λ (n : ℕ). AllByRecursion P (take n (slice_set xs i x))) (let e : suc i ≡ i + 1 = omega arith in e) (set_suc P xs i x l all is)

pub taken_all : {A : Type 0} (P : A → Type 0) (xs : List A) (n : ℕ) → length xs ≤ n → AllByRecursion P (take n xs) → AllByRecursion P xs
taken_all P [] n l all = tt
taken_all P (x ∷ xs) zero l all = absurd (omega (arith, l))
taken_all P (x ∷ xs) (suc n) l all = (all.0, taken_all P xs n (omega (arith, l)) all.1)

-- none of the first none
pub none_taken : {A : Type 0} (P : A → Type 0) (xs : List A) → AllByRecursion P (take 0 xs)
none_taken P [] = tt
none_taken P (x ∷ xs) = tt

pub all_put : {A : Type 0} (P : A → Type 0) (xs : List A) (i : ℕ) (x : A) → AllByRecursion P xs → P x → AllByRecursion P (slice_set xs i x)
all_put P [] i x all is = tt
all_put P (y ∷ xs) zero x all is = (is, all.1)
all_put P (y ∷ xs) (suc i) x all is = (all.0, all_put P xs i x all.1 is)

pub got_there : {A : Type 0} (xs : List A) (i : ℕ) (x : A) → i < length xs → x ≡ get_or xs i x → slice_get xs i ≡ Some x
got_there [] i x l is = absurd (omega (arith, l))
got_there (y ∷ xs) zero x l is = ap Some (sym is)
got_there (y ∷ xs) (suc i) x l is = got_there xs i x (omega (arith, l)) is

-- 3. A server

module _ {D : Type 0} (d : Ghosts D) (tells_left : (x : D) (moment file : ℕ) (bytes : List ℕ) → d.left x moment file bytes → IsTrue d.tells)
    (up_to_now : (x : D) (moment file : ℕ) (bytes : List ℕ) → d.left x moment file bytes → moment ≤ d.calls x) (b : Base) (sound premise : Type 0) (began : Beginning)
    (disk : D) (catalog : Catalog) (standing : Standing) (trail : Recorded) (late : Option Entry) (closed : Option ℕ) (running : closed ≡ None) where
  abbrev Kept : List Group → Type 0
  Kept groups = IsKept d b sound premise began disk catalog standing groups trail late closed

  settled : (groups : List Group) (place : ℕ) (g h : Group) → Kept groups → place < length groups → get_or groups place g ≡ g → Settles d disk g h → Kept (slice_set groups place h)
  settled groups place g h k l is upkeep.still = subst Kept (sym (put_back groups place g is)) k
  settled groups place g h k l is (upkeep.step m h' rest one) = (let
      k1 = settled groups place g m k l is rest
      in let
      long = set_length groups place m
      in subst Kept (set_twice groups place m h') (stepped d tells_left up_to_now b sound premise began disk catalog standing (slice_set groups place m) trail late closed k1 running place m h' (omega (arith, l, long)) (set_there groups place m m l) disk one))

  pub settle_length : (groups hs : List Group) → AllSettle d disk groups hs → length hs ≡ length groups
  settle_length groups hs upkeep.all_still = refl
  settle_length groups hs (upkeep.next ms place g g' rest l is s) = set_length ms place g' ∙ settle_length groups ms rest

  pub all_settled : (groups hs : List Group) → Kept groups → AllSettle d disk groups hs → Kept hs
  all_settled groups hs k upkeep.all_still = k
  all_settled groups hs k (upkeep.next ms place g g' rest l is s) = settled ms place g g' (all_settled groups ms k rest) l is s

-- 4. What the call answers

pub did_order : (k : Known) → IsLegal k.base k.seen → closing_call k.seen ≡ None → DidOrder k k tt
did_order k legal open_ = record { sees = stays k legal; running = open_ }

-- 5. What is left in the logs

no_index : {D : Type 0} (d : Ghosts D) (disk : D) (f : FolderData) (xs : List IndexRegion) → ((i : ℕ) (x : IndexRegion) → slice_get xs i ≡ Some x → RegionHolds d x.region disk (f.regions x.region.number))
    → AllByRecursion IsOrderedIndex xs → AllByRecursion (IsFreeIndex chore.Due) xs → sum_by logged_at xs ≡ 0
no_index d disk f [] on ordered flushed = refl
no_index d disk f (x ∷ xs) on ordered flushed = (let
    here = nothing_logged d x.region disk (f.regions x.region.number) (on 0 x refl) ordered.0 flushed.0
    in let
    rest = no_index d disk f xs (λ i y at. on (suc i) y at) ordered.1 flushed.1
    in let
    both = sum_by-cons logged_at x xs
    in omega (arith, here, rest, both))

pub none_logged : {D : Type 0} (d : Ghosts D) (disk : D) (f : FolderData) (groups : List Group) → AllByRecursion (IsOnDisk d disk f) groups → AreOrdered groups → HaveFlushed groups → AllByRecursion (λ g. logged_by g ≡ 0) groups
none_logged d disk f [] on ordered flushed = tt
none_logged d disk f (g ∷ groups) on ordered flushed = (let
    here = nothing_logged d g.rows disk (f.regions g.rows.number) on.0.rows ordered.0.rows flushed.0.rows
    in let
    rest = no_index d disk f g.indexes.items on.0.indexes ordered.0.indexes flushed.0.indexes
    in (omega (arith, here, rest), none_logged d disk f groups on.1 ordered.1 flushed.1))

-- 6. What is left to forget

-- the region was wanted, or has forgotten; and it isn't wanted any more
forgotten_to : (horizon : ℕ) (r : Region) → IsToForget horizon r → r.wanted ≡ false → HasForgottenTo horizon r
forgotten_to horizon r (inl wanted) none = absurd (false≢true (sym none ∙ wanted))
forgotten_to horizon r (inr has) none = has

indexes_forgotten : (horizon : ℕ) (xs : List IndexRegion) → AllByRecursion (IsIndexToForget horizon) xs → AllByRecursion (IsFreeIndex chore.Wanted) xs → AllByRecursion (HasIndexForgottenTo horizon) xs
indexes_forgotten horizon [] to none = tt
indexes_forgotten horizon (x ∷ xs) to none = (forgotten_to horizon x.region to.0 none.0, indexes_forgotten horizon xs to.1 none.1)

all_compacted : (lookback : ℕ) (groups : List Group) → AllByRecursion (IsCompacting lookback) groups → AreFree chore.Wanted groups → AllByRecursion (IsTableCompacted lookback) groups
all_compacted lookback [] to none = tt
all_compacted lookback (g ∷ groups) to none = (
  record { risen = to.0.risen; rows = forgotten_to g.horizon g.rows to.0.rows none.0.rows; indexes = indexes_forgotten g.horizon g.indexes.items to.0.indexes none.0.indexes },
  all_compacted lookback groups to.1 none.1,
)

pub compacted : (lookback : ℕ) (raising : Option ℕ) (groups : List Group) → AreCompacting lookback raising groups → HaveForgotten raising groups → AllByRecursion (IsTableCompacted lookback) groups
compacted lookback None groups to done = all_compacted lookback groups to done.none
compacted lookback (Some place) groups to done = absurd (let z : Some place ≡ None = done.raised in cc)

-- with no batch and no point, what isn't looked back on is allowed
pub risen_back : (lookback : ℕ) (g : Group) → HasRisen lookback g → g.batches.items ≡ [] → g.points.items ≡ [] → g.last - lookback ≤ greatest_stamp → g.last - lookback ≤ g.horizon
risen_back lookback g risen batches points within = risen (g.last - lookback) (record {
  back = omega arith;
  unclosed = λ s is. absurd (false≢true (sym (ap (λ (ms : List Begun). has_batch ms s) batches) ∙ is));
  points = λ s some. absurd (let none = ap (λ (ps : List OpenPoint). points_at ps s) points in omega (arith, none, some));
}) within

-- ---- while horizons rise

-- each region is wanted still, so each is to forget
to_forget : (lookback : ℕ) (g : Group) → IsWantedTable g → HasRisen lookback g → IsCompacting lookback g
to_forget lookback g wanted risen = record { risen = risen; rows = inl wanted.rows; indexes = all_weaker IsWantedIndex (IsIndexToForget g.horizon) (λ x w. inl w) g.indexes.items wanted.indexes }

both_to : (lookback : ℕ) (groups : List Group) → AllByRecursion IsWantedTable groups → AllByRecursion (HasRisen lookback) groups → AllByRecursion (IsCompacting lookback) groups
both_to lookback [] wanted risen = tt
both_to lookback (g ∷ groups) wanted risen = (to_forget lookback g wanted.0 risen.0, both_to lookback groups wanted.1 risen.1)

-- behind the last table
pub all_risen : (lookback place : ℕ) (groups : List Group) → length groups ≤ place → AreCompacting lookback (Some place) groups → AreCompacting lookback None groups
all_risen lookback place groups over to = both_to lookback groups to.0 (taken_all (HasRisen lookback) groups place over to.1)

-- at the next table
pub one_risen : (lookback place : ℕ) (groups : List Group) (g : Group) → place < length groups → (AllByRecursion IsWantedTable groups → IsWantedTable g) → HasRisen lookback g → AreCompacting lookback (Some place) groups → AreCompacting lookback (Some (place + 1)) (slice_set groups place g)
one_risen lookback place groups g inside wanted risen to = (all_put IsWantedTable groups place g to.0 (wanted to.0), set_next (HasRisen lookback) groups place g inside to.1 risen)
