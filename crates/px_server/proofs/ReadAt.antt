-- What is read at a point.
use Rattle.std.proofs.Common.{◌≡◌, ◌<◌, ℕ, Option, None, Some, List, length, get_or, refl, sym, ap, ◌∙◌, subst}
use Rattle.std.specs.Prelude.{◌↔◌, slice_get}
use Rattle.std.specs.List.{slice_set}
use Rattle.px_tables.specs.declared.index.Index.{Index}
use Rattle.px_trail.specs.Legal.{IsLegal}
use Rattle.px_trail.specs.Trail.{Base, closing_call}
use Rattle.px_trail.specs.declared.entry.Entry.{Entry}
use Rattle.px_calls.specs.Calls.{Consulted, DidConsult, DidLook, Finds, IsInFlight}
use Rattle.px_calls.specs.Causes.{Refuses, read_cause}
use Rattle.px_calls.specs.Known.{Known}
use Rattle.px_calls.specs.Looks.{Shows, ShowsRows}
use Rattle.px_calls.specs.declared.fault.StepFault.TheVariants.{Memory}
use Rattle.px_calls.specs.declared.query.By.{By}
use Rattle.px_calls.specs.declared.query.Chunk.{Chunk}
use Rattle.px_calls.specs.declared.query.Doubt.{Doubt}
use Rattle.px_calls.specs.declared.query.FoundKey.{FoundKey}
use Rattle.px_calls.specs.declared.query.Held.{Held}
use Rattle.px_calls.specs.declared.query.Path.{Path}
use Rattle.px_calls.specs.declared.query.Point.{Point}
use Rattle.px_calls.specs.declared.query.Verdict.{Verdict}
use Rattle.px_calls.specs.declared.query.Verdict.TheVariants.{Leave, Verify, Retire, Erase}
use Rattle.px_forms.specs.Indexes.{IndexForm}
use Rattle.px_groupworld.specs.Group.{GroupData}
use Rattle.px_openbatches.specs.Pending.{HeldBatch}
use Rattle.px_shown.specs.Told.{IsHolder}
use Rattle.px_values.specs.declared.name.IndexId.{IndexId}
use Rattle.px_values.specs.States.{RowState}
use Rattle.px_values.specs.declared.row.Value.{Value}
use Rattle.px_indexrow.specs.declared.doubt.Repair.{Repair}
use Rattle.px_indexrow.specs.declared.doubt.Repair.TheVariants as repairs
use Rattle.px_group.specs.Group.{IsShownBy, IsTallied}
use Rattle.px_group.specs.declared.group.Group.{Group}
use Rattle.px_pointreads.specs.Counted.{HasCountedBy}
use Rattle.px_pointreads.specs.Due.{verdict_as}
use Rattle.px_pointreads.specs.Points.{AreOfIndex, IsReadAt}
use Rattle.px_repairs.proofs.Handing.{got_some}
use Rattle.px_server.specs.Kept.{AreShown, HasShown, HasTallied, forms_in}
use Rattle.px_server.specs.Looks.{AreOfIndexAt, HasCountedOf}
use Rattle.px_server.proofs.Lists.{all_at, got_set}
use Rattle.px_server.proofs.Seen.{stays}

-- the group that was found, in the list that was looked through
pub inside : (groups xs : List Group) (place : ℕ) → xs ≡ groups → place < length xs → place < length groups
inside groups xs place same l = subst (λ (ys : List Group). place < length ys) same l

pub read_at : (p : Point) (groups xs : List Group) (place : ℕ) (g d : Group) → xs ≡ groups → place < length xs → ((h : Group) → slice_get xs place ≡ Some h → IsReadAt h p) → g ≡ get_or groups place d → IsReadAt g p
read_at p groups xs place g d same l read at = read g (ap (λ (ys : List Group). slice_get ys place) same ∙ got_some groups place d g (inside groups xs place same l) at)

-- the keys that it found by an index
pub versions_at : (p : Point) (groups xs : List Group) (place : ℕ) (g d : Group) → xs ≡ groups → place < length xs → ((h : Group) → slice_get xs place ≡ Some h → IsReadAt h p) → g ≡ get_or groups place d → (path : Path) (i : IndexId) (after : Option (List ℕ)) (found fs : List FoundKey) → fs ≡ found → (next end : Option (List ℕ)) → end ≡ next → AreOfIndex g p path i after found next → AreOfIndexAt groups p path i after fs end
versions_at p groups xs place g d same l read at path i after found fs is next end ends of = record {
  place = place;
  group = g;
  at = got_some groups place d g (inside groups xs place same l) at;
  read = read_at p groups xs place g d same l read at;
  of = subst (λ (k : Option (List ℕ)). AreOfIndex g p path i after fs k) (sym ends) (subst (λ (ks : List FoundKey). AreOfIndex g p path i after ks next) (sym is) of);
}

-- and by which region they are counted
pub counted_at : (p : Point) (groups xs : List Group) (place : ℕ) (g d g' : Group) → xs ≡ groups → place < length xs → ((h : Group) → slice_get xs place ≡ Some h → IsReadAt h p) → g ≡ get_or groups place d → (by : By) (found fs : List FoundKey) → fs ≡ found → HasCountedBy g g' by (length found) → HasCountedOf groups (slice_set groups place g') p by (length fs)
counted_at p groups xs place g d g' same l read at by found fs is counted = record {
  place = place;
  before = g;
  at = got_some groups place d g (inside groups xs place same l) at;
  read = read_at p groups xs place g d same l read at;
  after = g';
  at_after = got_set groups place g' (inside groups xs place same l);
  counted = subst (λ (ks : List FoundKey). HasCountedBy g g' by (length ks)) (sym is) counted;
}

some_same : {A : Type 0} (a b : A) → Some a ≡ Some b → a ≡ b
some_same a b e = cc

-- a version is left alone exactly by the repair that leaves it
pub leave_as : (verdict : Verdict) (repair : Repair) → verdict ≡ verdict_as repair → (verdict ≡ Leave) ↔ (repair ≡ repairs.Leave)
leave_as verdict repairs.Leave e = (λ h. refl, λ h. e)
leave_as verdict repairs.Verify e = (λ h. absurd (let z : ◌≡◌ {A = Verdict} Verify Leave = sym e ∙ h in cc), λ h. absurd (let z : ◌≡◌ {A = Repair} repairs.Verify repairs.Leave = h in cc))
leave_as verdict repairs.Retire e = (λ h. absurd (let z : ◌≡◌ {A = Verdict} Retire Leave = sym e ∙ h in cc), λ h. absurd (let z : ◌≡◌ {A = Repair} repairs.Retire repairs.Leave = h in cc))
leave_as verdict repairs.Erase e = (λ h. absurd (let z : ◌≡◌ {A = Verdict} Erase Leave = sym e ∙ h in cc), λ h. absurd (let z : ◌≡◌ {A = Repair} repairs.Erase repairs.Leave = h in cc))

module _ (k : Known) (legal : IsLegal k.base k.seen) (closed : Option ℕ) (closing : closing_call k.seen ≡ closed) (running : closed ≡ None) where
  pub finds : Finds k k
  finds = record { sees = stays k legal; running = closing ∙ running }

  pub no_memory : (sound : Type 0) → Refuses (read_cause sound) k k Memory
  no_memory sound = (tt, stays k legal, closing ∙ running)

  -- what holds of the group's data, where it shows them
  module _ (sound : Type 0) (indexes : List Index) (groups : List Group) (place : ℕ) (g : Group) (l : place < length groups) (is : get_or groups place g ≡ g) (shown : sound → AreShown k.base k.seen indexes groups) where
    from_shown : (P : Type 0) → ((index : ℕ → IndexForm) (v : GroupData) (hs : List HeldBatch) → IsTallied k.base k.seen g hs → IsShownBy k.base index k.seen g v hs → P) → sound → P
    from_shown P on given = (let
        s = shown given
        in let
        here = all_at (HasShown k.base k.seen indexes s.told) groups place g l is s.each
        in on (forms_in indexes g.table) (s.told g.table.id.0) here.held here.tallied here.shown)

    pub did_look : (p : Point) (path : Path) (after : Option (List ℕ)) (c : Chunk) (found : List FoundKey) (next : Option (List ℕ)) → c.found ≡ found → c.next ≡ next → c.at ≡ length k.seen → Shows p path after found next
        → ((b : Base) (index : ℕ → IndexForm) (es : List Entry) (v : GroupData) (hs : List HeldBatch) → IsTallied b es g hs → IsShownBy b index es g v hs → ShowsRows b es p path after found next) → DidLook sound k k p path after c
    did_look p path after c found next f n at shows rows = record {
      finds = finds;
      shows = subst (λ (fs : List FoundKey). Shows p path after fs c.next) (sym f) (subst (λ (o : Option (List ℕ)). Shows p path after found o) (sym n) shows);
      rows = λ given. subst (λ (fs : List FoundKey). ShowsRows k.base k.seen p path after fs c.next) (sym f)
          (subst (λ (o : Option (List ℕ)). ShowsRows k.base k.seen p path after found o) (sym n) (from_shown (ShowsRows k.base k.seen p path after found next) (λ index v hs tallied told. rows k.base index k.seen v hs tallied told) given));
      at = at;
    }

    -- the row of a doubt
    holder_held : (p : Point) (d : Doubt) (row : RowState) (h : Option Held) → (row ≡ None → h ≡ None) → ((r : List Value) → row ≡ Some r → h ≡ Some (record { row = r; at = length k.seen })) → IsHolder k.base k.seen p d.index d.key row → Consulted k p d h
    holder_held p d None h none some is = subst (Consulted k p d) (sym (none refl)) is
    holder_held p d (Some r) h none some is = subst (Consulted k p d) (sym (some r refl)) (record { row = is.0; key = is.1.0; only = is.1.1; at = refl })

    pub did_consult : HasTallied k.base k.seen g → (p : Point) (d : Doubt) (verdict : Verdict) (repair : Repair) → (verdict ≡ Leave) ↔ (repair ≡ repairs.Leave) → (h : Option Held) (row : RowState)
        → (row ≡ None → h ≡ None) → ((r : List Value) → row ≡ Some r → h ≡ Some (record { row = r; at = length k.seen }))
        → ((b : Base) (index : ℕ → IndexForm) (es : List Entry) (v : GroupData) (hs : List HeldBatch) → IsTallied b es g hs → IsShownBy b index es g v hs → IsHolder b es p d.index d.key row)
        → ((b : Base) (es : List Entry) (hs : List HeldBatch) → IsLegal b es → IsTallied b es g hs → (repair ≡ repairs.Leave) ↔ IsInFlight b es d) → DidConsult sound k k p d (record d { verdict = Some verdict }) h
    did_consult tallied p d verdict repair same h row none some holds leaves = record {
      finds = finds;
      index = refl;
      key = refl;
      stamp = refl;
      verdict = refl;
      leave = (let flight = leaves k.base k.seen tallied.held legal tallied.tallied in (λ e. flight.0 (same.0 (some_same verdict Leave e)), λ f. ap Some (same.1 (flight.1 f))));
      held = λ given. holder_held p d row h none some (from_shown (IsHolder k.base k.seen p d.index d.key row) (λ index v hs told shows. holds k.base index k.seen v hs told shows) given);
    }
