-- A change that an open batch is still to write is in flight, and no other is.
use Rattle.std.proofs.Common.{◌≡◌, ℕ, Bool, true, false, not, ◌&&◌, ◌||◌, ◌⊎◌, Option, Some, None, List, [], ◌∷◌, refl, ap, sym, subst, ◌∙◌, inl, inr}
use Rattle.std.specs.Prelude.{is_some, nat_eq}
use Rattle.std.specs.List.{AllByRecursion, slice_get}
use Rattle.std.proofs.lemmas.Bool.{and_parts, cases_Bool, eqb-true}
use Rattle.px_indexrow.specs.Form.{row_of_index}
use Rattle.px_openbatches.specs.Pending.{HeldBatch, IsHeldBatch, change_left, is_in, left_as}
use Rattle.px_openbatches.proofs.Flags.{has_is_some}
use Rattle.px_tablereads.specs.Pending.{is_left_among}
use Rattle.px_tables.specs.declared.index.Index.{Index}
use Rattle.px_trail.specs.Batches.{Batch, batch_of, change_of, has, rows_of, unwritten}
use Rattle.px_trail.specs.Trail.{Base, index_of, table_of}
use Rattle.px_trail.specs.declared.entry.Entry.{Entry}
use Rattle.px_trail.proofs.Orders.{filter-has, has-filter}
use Rattle.px_values.specs.declared.change.Change.{Change}
use Rattle.px_values.specs.declared.change.What.{What}
use Rattle.px_values.specs.declared.name.IndexId.{IndexId}
use Rattle.px_values.specs.declared.row.Value.{Value}
use Rattle.px_calls.specs.Calls.{IsInFlight}
use Rattle.px_calls.specs.declared.query.Doubt.{Doubt}
use Rattle.px_shown.proofs.Owners.{owner_read}
use Rattle.px_group.specs.Group.{IsTallied}
use Rattle.px_group.specs.declared.group.Group.{Group}
use Rattle.px_group.specs.declared.group.IndexRegion.{IndexRegion}
use Rattle.px_reading.specs.Doubts.{IsKeyIn, is_pending}
use Rattle.px_reading.proofs.Worlds.{pending_same}

some_same : {A : Type 0} (a b : A) → Some a ≡ Some b → a ≡ b
some_same a b e = cc

-- ---- one batch

left_there : (w : Option What) (v : Bool) → is_some (left_as w v) ≡ true → (is_some w ≡ true) × (not v ≡ true)
left_there None v h = absurd (let z : ◌≡◌ {A = Bool} false true = h in cc)
left_there (Some w) true h = absurd (let z : ◌≡◌ {A = Bool} false true = h in cc)
left_there (Some w) false h = (refl, refl)

there_left : (w : Option What) (v : Bool) → is_some w ≡ true → not v ≡ true → is_some (left_as w v) ≡ true
there_left None v h n = h
there_left (Some w) true h n = n
there_left (Some w) false h n = refl

module _ (es : List Entry) (t : ℕ) (h : HeldBatch) (is : IsHeldBatch es t h) (r : List Value) where
  rows_same : has (rows_of is.batch.changes) r ≡ is_some (change_of h.changes r)
  rows_same = has_is_some is.batch.changes r ∙ ap (λ (cs : List Change). is_some (change_of cs r)) is.changes

  pub left_unwritten : is_some (change_left h r) ≡ true → has (unwritten is.batch) r ≡ true
  left_unwritten e = (let z = left_there (change_of h.changes r) (has h.written r) e in filter-has (λ r. not (has is.batch.written r)) (rows_of is.batch.changes) r (rows_same ∙ z.0) (ap not (is.written r) ∙ z.1))

  pub unwritten_left : has (unwritten is.batch) r ≡ true → is_some (change_left h r) ≡ true
  unwritten_left e = (let z = has-filter (λ r. not (has is.batch.written r)) (rows_of is.batch.changes) r e in there_left (change_of h.changes r) (has h.written r) (sym rows_same ∙ z.0) (ap not (sym (is.written r)) ∙ z.1))

-- ---- all of them

or_cases : (a b : Bool) → (a || b) ≡ true → (a ≡ true) ⊎ (b ≡ true)
or_cases true b h = inl refl
or_cases false b h = inr h

or_here : (a b : Bool) → a ≡ true → (a || b) ≡ true
or_here a b h = ap (λ (v : Bool). v || b) h

or_there : (a b : Bool) → b ≡ true → (a || b) ≡ true
or_there true b h = refl
or_there false b h = h

both_true : (a b : Bool) → a ≡ true → b ≡ true → (a && b) ≡ true
both_true true b h g = g
both_true false b h g = h

flight_to : (es : List Entry) (t : ℕ) (hs : List HeldBatch) → AllByRecursion (IsHeldBatch es t) hs → (s : ℕ) (r : List Value) → is_left_among hs s r ≡ true → (batch : Batch) × ((batch_of t s es ≡ Some batch) × (has (unwritten batch) r ≡ true))
flight_to es t [] a s r h = absurd (let z : ◌≡◌ {A = Bool} false true = h in cc)
flight_to es t (x ∷ hs) a s r h = elim (or_cases (nat_eq x.stamp s && is_some (change_left x r)) (is_left_among hs s r) h) [
  | inl e ↦ (let parts = and_parts _ _ e in (a.0.batch, (subst (λ (u : ℕ). batch_of t u es ≡ Some a.0.batch) (eqb-true x.stamp s parts.0) a.0.is, left_unwritten es t x a.0 r parts.1)))
  | inr e ↦ flight_to es t hs a.1 s r e
]

flight_from : (es : List Entry) (t : ℕ) (hs : List HeldBatch) → AllByRecursion (IsHeldBatch es t) hs → (s : ℕ) (r : List Value) → is_in s hs ≡ true → (batch : Batch) → batch_of t s es ≡ Some batch → has (unwritten batch) r ≡ true → is_left_among hs s r ≡ true
flight_from es t [] a s r i batch is left = i
flight_from es t (x ∷ hs) a s r i batch is left = elim (or_cases (nat_eq x.stamp s) (is_in s hs) i) [
  | inl e ↦
      (let same : a.0.batch ≡ batch = some_same a.0.batch batch (sym a.0.is ∙ ap (λ (u : ℕ). batch_of t u es) (eqb-true x.stamp s e) ∙ is) in
      or_here (nat_eq x.stamp s && is_some (change_left x r)) (is_left_among hs s r) (both_true (nat_eq x.stamp s) (is_some (change_left x r)) e (unwritten_left es t x a.0 r (subst (λ (y : Batch). has (unwritten y) r ≡ true) (sym same) left))))
  | inr e ↦ or_there (nat_eq x.stamp s && is_some (change_left x r)) (is_left_among hs s r) (flight_from es t hs a.1 s r e batch is left)
]

-- ---- the doubt's change

module _ (b : Base) (es : List Entry) (g : Group) (hs : List HeldBatch) (tallied : IsTallied b es g hs) (place : ℕ) (x : IndexRegion) (at : slice_get g.indexes.items place ≡ Some x) (of : x.index.table ≡ g.table.id) (d : Doubt) (index : d.index ≡ x.index.id) (key : IsKeyIn g x d.key) where
  abbrev r : List Value
  r = row_of_index g.table x.index d.key

  stands : index_of b es d.index.0 ≡ Some x.index
  stands = ap (λ (i : IndexId). index_of b es i.0) index ∙ tallied.standing.index place x at

  pub in_flight : is_pending g d.stamp r ≡ true → IsInFlight b es d
  in_flight h =
      let z = flight_to es g.table.id.0 hs tallied.held.each d.stamp r (sym (pending_same d.stamp r g.batches.items hs tallied.batches) ∙ h) in
      record {
        table = g.table.id.0;
        row = r;
        owner = record {
          index = x.index;
          is = stands;
          of_table = ap (λ id. id.0) of;
          table = g.table;
          table_is = tallied.standing.table;
          values = key.0;
          key = key.1;
          owner = sym (owner_read g.table x.index d.key key.0 key.1);
        };
        batch = z.0;
        is = z.1.0;
        left = z.1.1;
      }

  none_left : (y : Batch) → unwritten y ≡ [] → has (unwritten y) r ≡ true → ⊥
  unfolding has
  none_left y e h = (let z : ◌≡◌ {A = Bool} false true = ap (λ (rows : List (List Value)). has rows r) (sym e) ∙ h in cc)

  pub flight_pending : ((y : Batch) → batch_of g.table.id.0 d.stamp es ≡ Some y → y.ended ≡ true → unwritten y ≡ []) → IsInFlight b es d → is_pending g d.stamp r ≡ true
  flight_pending done f =
      let o = f.owner in
      let same_index : o.index ≡ x.index = some_same o.index x.index (sym o.is ∙ stands) in
      let same_id : f.table ≡ g.table.id.0 = sym o.of_table ∙ ap (λ (i : Index). i.table.0) same_index ∙ ap (λ id. id.0) of in
      let same_table : o.table ≡ g.table = some_same o.table g.table (sym o.table_is ∙ ap (λ (t : ℕ). table_of b es t) same_id ∙ tallied.standing.table) in
      let owned : f.row ≡ r = o.owner ∙ owner_read o.table o.index d.key o.values o.key ∙ (λ i. row_of_index (same_table i) (same_index i) d.key) in
      let is : batch_of g.table.id.0 d.stamp es ≡ Some f.batch = subst (λ (t : ℕ). batch_of t d.stamp es ≡ Some f.batch) same_id f.is in
      let left : has (unwritten f.batch) r ≡ true = subst (λ (w : List Value). has (unwritten f.batch) w ≡ true) owned f.left in
      let running : f.batch.ended ≡ false = elim (cases_Bool f.batch.ended) [
        | inl e ↦ absurd (none_left f.batch (done f.batch is e) left)
        | inr e ↦ e
      ] in
      pending_same d.stamp r g.batches.items hs tallied.batches ∙ flight_from es g.table.id.0 hs tallied.held.each d.stamp r (tallied.held.all d.stamp f.batch is running) f.batch is left
