-- What the trail tells of a table that goes on.
use Rattle.std.proofs.Common.{◌≡◌, ℕ, Bool, true, false, if◌then◌else◌, Some, None, List, [], ◌∷◌, ◌++◌, refl, ap, sym, ◌∙◌, subst}
use Rattle.std.specs.Prelude.{map}
use Rattle.px_tables.specs.declared.index.Index.{Index}
use Rattle.px_tables.specs.declared.table.Table.{Table}
use Rattle.px_trail.specs.declared.entry.Act.{Act}
use Rattle.px_trail.specs.declared.entry.Entry.{Entry}
use Rattle.px_trail.specs.Batches.{batch_of}
use Rattle.px_trail.specs.Trail.{Base, horizon_of, last_of, open_points, points_step, table_of}
use Rattle.px_trail.proofs.Growth.{batch_of-snoc, horizon-snoc, points-snoc}
use Rattle.px_indexed.specs.Idle.{IsElsewhere}
use Rattle.px_indexed.proofs.Idle.{act_idle}
use Rattle.px_openbatches.specs.Pending.{HeldBatch, HeldKept, IsHeldBatch}
use Rattle.px_openbatches.proofs.Helds.{all_more, held_on}
use Rattle.px_phases.specs.Batch.{AreHeldAs, BatchData}
use Rattle.px_group.specs.Group.{AreInPhase, AreStanding, IsTallied, batch_in, points_in}
use Rattle.px_group.specs.declared.group.Begun.{Begun}
use Rattle.px_group.specs.declared.group.Group.{Group}
use Rattle.px_defined.specs.Defined.{IsSameBeside}

-- what the batches keep
abbrev pub as_data : List Begun → List BatchData
as_data ms = map batch_in ms

pub some_none : {A : Type 0} {x : A} → None ≡ Some x → ⊥
some_none q = cc

pub if_true : {A : Type 0} (v : Bool) (a c : A) → v ≡ true → (if v then a else c) ≡ a
if_true true a c h = refl
if_true false a c h = (let z : true ≡ false = sym h in cc)

pub if_false : {A : Type 0} (v : Bool) (a c : A) → v ≡ false → (if v then a else c) ≡ c
if_false true a c h = (let z : true ≡ false = h in cc)
if_false false a c h = refl

module _ (b : Base) (es : List Entry) (e : Entry) (g g' : Group) (hs : List HeldBatch) (k : IsTallied b es g hs) (beside : IsSameBeside g g') (elsewhere : IsElsewhere g.table.id e.act) where
  abbrev t : ℕ
  t = g.table.id.0

  still : (u : ℕ) → batch_of t u (es ++ e ∷ []) ≡ batch_of t u es
  still u = batch_of-snoc t u es e ∙ (act_idle g.table.id e elsewhere).still.batches u (batch_of t u es)

  held_still : (h : HeldBatch) → IsHeldBatch es t h → IsHeldBatch (es ++ e ∷ []) t h
  held_still h q = held_on es t h q e (λ u r p. record { batch = p.batch; is = sym (still u) ∙ p.is; what = p.what; left = p.left }) h.written (λ l. l) q.batch (still h.stamp ∙ q.is) q.changes q.written q.running

  held_now : HeldKept b (es ++ e ∷ []) t hs
  held_now = record {
    rising = k.held.rising;
    each = all_more (IsHeldBatch es t) (IsHeldBatch (es ++ e ∷ []) t) held_still hs k.held.each;
    all = λ u y q n. k.held.all u y (sym (still u) ∙ q) n;
  }

  phases_now : (ms : List Begun) (xs : List HeldBatch) → AreInPhase es t ms xs → AreInPhase (es ++ e ∷ []) t ms xs
  phases_now [] xs h = tt
  phases_now (m ∷ ms) [] h = tt
  phases_now (m ∷ ms) (x ∷ xs) h = (record { batch = h.0.batch; is = still x.stamp ∙ h.0.is; phase = h.0.phase; count = h.0.count }, phases_now ms xs h.1)

  pub tallied_on : AreStanding b (es ++ e ∷ []) g' → last_of b t (es ++ e ∷ []) ≡ g'.last → ((seat s : ℕ) → open_points seat t s (es ++ e ∷ []) ≡ open_points seat t s es) → IsTallied b (es ++ e ∷ []) g' hs
  tallied_on standing last points = record {
    standing = standing;
    last = (λ i. last_of b (beside.table i).id.0 (es ++ e ∷ [])) ∙ last;
    horizon = (λ i. horizon_of b (beside.table i).id.0 (es ++ e ∷ [])) ∙ (horizon-snoc b t es e ∙ ((act_idle g.table.id e elsewhere).horizon (horizon_of b t es) ∙ (k.horizon ∙ sym beside.horizon)));
    held = subst (λ (x : Table). HeldKept b (es ++ e ∷ []) x.id.0 hs) (sym beside.table) held_now;
    batches = subst (λ v. AreHeldAs (as_data v.items) hs) (sym beside.batches) k.batches;
    phases = subst (λ (x : Table). AreInPhase (es ++ e ∷ []) x.id.0 g'.batches.items hs) (sym beside.table) (subst (λ v. AreInPhase (es ++ e ∷ []) t v.items hs) (sym beside.batches) (phases_now g.batches.items hs k.phases));
    points = λ seat s. (λ i. open_points seat (beside.table i).id.0 s (es ++ e ∷ [])) ∙ (points seat s ∙ (k.points seat s ∙ (λ i. points_in seat s (sym beside.points i).items)));
  }

  pub points_by : (act : Act) → e.act ≡ act → ((seat s n by : ℕ) → points_step seat t s n by act ≡ n) → (seat s : ℕ) → open_points seat t s (es ++ e ∷ []) ≡ open_points seat t s es
  points_by act is h seat s = points-snoc seat t s es e ∙ (ap (points_step seat t s (open_points seat t s es) e.seat) is ∙ h seat s (open_points seat t s es) e.seat)

  pub table_by : table_of b (es ++ e ∷ []) t ≡ table_of b es t → table_of b (es ++ e ∷ []) g'.table.id.0 ≡ Some g'.table
  table_by same = (λ i. table_of b (es ++ e ∷ []) (beside.table i).id.0) ∙ (same ∙ (k.standing.table ∙ ap Some (sym beside.table)))

  pub owner_by : (y : Index) → y.table.0 ≡ g'.table.id.0 → y.table.0 ≡ t
  owner_by y own = own ∙ ap (λ (x : Table). x.id.0) beside.table

-- a table without an open batch holds none
pub none_open : (b : Base) (es : List Entry) (g : Group) (hs : List HeldBatch) → IsTallied b es g hs → g.batches.items ≡ [] → hs ≡ []
none_open b es g hs k none = by hs (subst (λ (l : List Begun). AreHeldAs (as_data l) hs) none k.batches)
  where
    by : (xs : List HeldBatch) → AreHeldAs [] xs → xs ≡ []
    by [] h = refl
    by (x ∷ xs) h = absurd h
