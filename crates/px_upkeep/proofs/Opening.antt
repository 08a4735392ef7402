-- A point is opened at the birth.
use Rattle.std.proofs.Common.{ℕ, ◌≡◌, ◌≤◌, ◌==◌, if◌then◌else◌, true, false, Option, None, Some, IsSome, Result, List, [], ◌∷◌, ◌++◌, ◌⊎◌, refl, sym, ◌∙◌, ap, subst, arith, inl, inr}
use Rattle.std.proofs.lemmas.Bool.Decides.{Decides-eqb}
use Rattle.std.specs.List.{AllByRecursion}
use Rattle.px_values.specs.declared.name.IndexId.{IndexId}
use Rattle.px_values.specs.declared.name.TableId.{TableId}
use Rattle.px_tables.specs.declared.index.Index.{Index}
use Rattle.px_tables.specs.declared.table.Table.{Table}
use Rattle.px_trail.specs.declared.entry.Act.{Act}
use Rattle.px_trail.specs.declared.entry.Act.TheVariants as act
use Rattle.px_trail.specs.declared.entry.Entry.{Entry}
use Rattle.px_trail.specs.Answers.{IsAmong}
use Rattle.px_trail.specs.Batches.{IsDecided}
use Rattle.px_trail.specs.Legal.{Follows as Comes, IsLegal, MayCome}
use Rattle.px_trail.specs.Trail.{Base, horizon_of, index_of, last_of, table_of}
use Rattle.px_trail.proofs.Growth.{horizon-snoc, last-snoc}
use Rattle.px_trail.proofs.States.{decided-stays}
use Rattle.px_calls.specs.declared.definition.Definition.TheVariants as d
use Rattle.px_calls.specs.declared.fault.StepFault.{StepFault}
use Rattle.px_calls.specs.declared.fault.StepFault.TheVariants as step
use Rattle.px_calls.specs.declared.definition.Made.{Made}
use Rattle.px_calls.specs.declared.query.BaseRow.{BaseRow}
use Rattle.px_calls.specs.declared.query.FoundKey.{FoundKey}
use Rattle.px_calls.specs.declared.query.Point.{Point}
use Rattle.px_calls.specs.Calls.{DidOpen}
use Rattle.px_calls.specs.Causes.{Refuses, TableStands, open_cause}
use Rattle.px_calls.specs.Known.{Adds, Known, Ran, outline}
use Rattle.px_calls.specs.Requires.{IsDrawn, MayBase, index_among, index_of_found}
use Rattle.px_calls.proofs.Points.{adds-opened}
use Rattle.px_calls.proofs.Runs.{may-come, ran-adds}
use Rattle.px_defining.specs.declared.define.DefineState.{DefineState}
use Rattle.px_defining.specs.Turns as define
use Rattle.px_upkeep.specs.declared.build.Build.{Build}
use Rattle.px_upkeep.specs.declared.build.BuildFault.{BuildFault}
use Rattle.px_upkeep.specs.declared.build.BuildFault.TheVariants as why
use Rattle.px_upkeep.specs.declared.build.BuildState.{BuildState}
use Rattle.px_upkeep.specs.declared.build.BuildState.TheVariants as s
use Rattle.px_upkeep.specs.declared.build.Came.{Came}
use Rattle.px_upkeep.specs.declared.build.Came.TheVariants as came
use Rattle.px_upkeep.specs.declared.build.Next.TheVariants as next
use Rattle.px_upkeep.specs.declared.gathered.Gathered.{Gathered}
use Rattle.px_upkeep.specs.Turns.{AreRowsFor, Begins, FitsState, HasPaths, IsAsked, IsBornAt, IsBuilding, IsDisabling, IsFoundAt, IsHeld, IsState, IsBuildOutcome, IsUnopened, LacksIndexOf, Leads, Led, TriesThen, WasFound, WasRefused, opening, step_fault}
use Rattle.px_upkeep.proofs.Later.{Tells, asked-later, past-ran, past-same, plain, refused-call, refused-step, tries-still, tries-then}

-- 1. The index among the point's definitions

some_index : {a b : Index} → Some a ≡ Some b → a ≡ b
some_index h = cc

pub among-is : (i : ℕ) (xs : List Index) (x : Index) → index_among i xs ≡ Some x → IsAmong x xs × (x.id.0 ≡ i)
unfolding index_among IsAmong
among-is i [] x e = (let z : ◌≡◌ {A = Option Index} None (Some x) = e in cc)
among-is i (y ∷ xs) x e =
    elim (y.id.0 == i) as (λ v. (y.id.0 == i) ≡ v → (if v then Some y else index_among i xs) ≡ Some x → ((y ≡ x) ⊎ IsAmong x xs) × (x.id.0 ≡ i)) [
      | true ↦ λ is q. (let same = some_index q in (inl same, ap (λ (z : Index). z.id.0) (sym same) ∙ (Decides-eqb y.id.0 i).0 is))
      | false ↦ λ is q. (let r = among-is i xs x q in (inr r.0, r.1))
    ] refl e

pub among-none : (i : ℕ) (xs : List Index) (x : Index) → index_among i xs ≡ None → IsAmong x xs → x.id.0 ≡ i → ⊥
unfolding index_among IsAmong
among-none i [] x e among is = absurd among
among-none i (y ∷ xs) x e (inl same) is =
    elim (y.id.0 == i) as (λ v. (y.id.0 == i) ≡ v → (if v then Some y else index_among i xs) ≡ None → ⊥) [
      | true ↦ λ t n. (let z : ◌≡◌ {A = Option Index} (Some y) None = n in cc)
      | false ↦ λ f n. (let z : (y.id.0 == i) ≡ true = (Decides-eqb y.id.0 i).1 (ap (λ (w : Index). w.id.0) same ∙ is) in cc)
    ] refl e
among-none i (y ∷ xs) x e (inr more) is =
    elim (y.id.0 == i) as (λ v. (if v then Some y else index_among i xs) ≡ None → ⊥) [
      | true ↦ λ n. (let z : ◌≡◌ {A = Option Index} (Some y) None = n in cc)
      | false ↦ λ n. among-none i xs x n more is
    ] e

some_table : (o : Option Table) (x : Table) → o ≡ Some x → IsSome o
some_table o x is = subst (λ (v : Option Table). IsSome v) (sym is) refl

-- 2. The point

module _ (sound : Type 0) (n : ℕ) (t : TableId) (i : IndexId) (own : List Act) (scn : ℕ) (k k' : Known) (p : Point) (asked : IsAsked n t i k) (h : DidOpen k k' t (Some scn) p) (tries : TriesThen t i [] own) where
  ran : Ran k k' (act.Opened t p.stamp p.scn ∷ [])
  ran = ran-adds k k' (act.Opened t p.stamp p.scn) h.adds

  now : IsAsked n t i k'
  now = asked-later n t i k k' (past-ran k k' _ ran) asked

  mid : Known
  mid = h.adds.between

  abbrev entry : Entry
  entry = record { seat = h.adds.between.seat; calls = h.adds.extends.calls; act = act.Opened t p.stamp p.scn }

  may : MayCome h.adds.between.base h.adds.between.seen entry
  may = may-come h.adds.between k' (act.Opened t p.stamp p.scn) h.adds.extends

  held : IsHeld k' t p
  held = record {
    table = h.table;
    scn = h.is_scn;
    is_open = adds-opened k k' p p.scn (subst (λ (u : TableId). Adds k k' (act.Opened u p.stamp p.scn)) (sym h.table) h.adds);
    legal = h.adds.extends.legal;
  }

  did : TriesThen t i (opening p ∷ []) (own ++ outline (act.Opened t p.stamp p.scn ∷ []))
  did =
      let acts : ◌≡◌ {A = List Act} (act.Opened t p.stamp p.scn ∷ []) (opening p ∷ []) = (λ j. act.Opened (sym h.table j) p.stamp (h.is_scn j) ∷ []) in
      subst (λ (l : List Act). TriesThen t i l (own ++ act.Opened t p.stamp p.scn ∷ [])) acts (tries-then t i [] (act.Opened t p.stamp p.scn ∷ []) own tries)

  table_is : table_of k'.base k'.seen t.0 ≡ Some p.found.table
  table_is = subst (λ (u : TableId). table_of k'.base k'.seen u.0 ≡ Some p.found.table) h.found_table h.found.table

  stands : TableStands k' t.0
  stands = some_table (table_of k'.base k'.seen t.0) p.found.table table_is

  lacks : index_of_found p.found i.0 ≡ None → LacksIndexOf k' t.0 i.0
  lacks none = record {
    table = stands;
    none = λ x is number of.
        among-none i.0 p.found.indexes x none ((h.found.indexes x).1 (ap (index_of k'.base k'.seen) number ∙ is, of ∙ sym (ap (λ (u : TableId). u.0) h.found_table))) number;
  }

  led : (x : BuildState) → IsState sound n t i (own ++ outline (act.Opened t p.stamp p.scn ∷ [])) x k' → Leads sound n t i own k k' (came.On x)
  led x is = record { acts = act.Opened t p.stamp p.scn ∷ []; ran = ran; led = record { asked = now; is = is } }

  module _ (b : Build) (at : b.point ≡ p) (x : Index) (born : IsBornAt p i x) where
    in_found : (index_of k'.base k'.seen i.0 ≡ Some x) × (x.table.0 ≡ t.0)
    in_found =
        let a = among-is i.0 p.found.indexes x born.is in
        let e = (h.found.indexes x).0 a.0 in
        (ap (index_of k'.base k'.seen) (sym a.1) ∙ e.0, e.1 ∙ ap (λ (u : TableId). u.0) h.found_table)

    found : WasFound n k' t i p x
    found = record { was = k'; past = past-same k'; from = now.from; table = table_is; index = in_found.0; owner = in_found.1; birth = born.birth; same = λ r. refl }

    horizon_is : horizon_of k'.base t.0 k'.seen ≡ horizon_of h.adds.between.base t.0 h.adds.between.seen
    horizon_is = ap (λ (z : Base). horizon_of z t.0 k'.seen) h.adds.extends.base ∙ (ap (horizon_of h.adds.between.base t.0) h.adds.extends.seen ∙ horizon-snoc h.adds.between.base t.0 h.adds.between.seen entry)

    last_is : last_of k'.base t.0 k'.seen ≡ last_of h.adds.between.base t.0 h.adds.between.seen
    last_is = ap (λ (z : Base). last_of z t.0 k'.seen) h.adds.extends.base ∙ (ap (last_of h.adds.between.base t.0) h.adds.extends.seen ∙ last-snoc h.adds.between.base t.0 h.adds.between.seen entry)

    decided : IsDecided k'.seen t.0 p.stamp
    unfolding Comes
    decided =
        let legal : IsLegal h.adds.between.base (h.adds.between.seen ++ entry ∷ []) = subst (λ (z : Base). IsLegal z (h.adds.between.seen ++ entry ∷ [])) h.adds.extends.base (subst (λ (l : List Entry). IsLegal k'.base l) h.adds.extends.seen h.adds.extends.legal) in
        let f = may.follows in
        subst (λ (l : List Entry). IsDecided l t.0 p.stamp) (sym h.adds.extends.seen) (decided-stays h.adds.between.base t.0 p.stamp h.adds.between.seen (entry ∷ []) legal (f.2 h.is_scn) f.1)

    bases : (xs : List BaseRow) → AreRowsFor sound k' p x xs → MayBase sound k' p i.0 xs
    unfolding Comes
    bases xs r =
        let f = may.follows in
        let same : t ≡ p.table = sym h.table in
        record {
          table_drawn = (let z = now.table in subst (λ (u : TableId). IsDrawn k' u.0) same z);
          index_drawn = now.index;
          table = p.found.table;
          table_is = subst (λ (u : TableId). table_of k'.base k'.seen u.0 ≡ Some p.found.table) same table_is;
          index = x;
          index_is = in_found.0;
          owner = in_found.1 ∙ ap (λ (u : TableId). u.0) same;
          state = born.enabled;
          birth = born.birth;
          known = subst (λ (u : TableId). p.stamp ≤ last_of k'.base u.0 k'.seen) same (let z = f.1 in omega (arith, z, last_is));
          low = subst (λ (u : TableId). horizon_of k'.base u.0 k'.seen ≤ p.stamp) same (let z = f.0 in omega (arith, z, horizon_is));
          decided = subst (λ (u : TableId). IsDecided k'.seen u.0 p.stamp) same decided;
          each = r.each;
          distinct = r.distinct;
          there = r.there;
        }

    building : IsBuilding sound k' t i p x
    building = record {
      held = held;
      table_is = subst (λ (u : TableId). table_of k'.base k'.seen u.0 ≡ Some p.found.table) (sym h.table) table_is;
      drawn = subst (λ (u : TableId). IsDrawn k' u.0) (sym h.table) now.table;
      bases = bases;
    }

    never : false ≡ true → ⊥
    never e = cc

    reading : (g : Gathered) → g.chunks ≡ [] → HasPaths b x → IsState sound n t i (own ++ outline (act.Opened t p.stamp p.scn ∷ [])) (s.Reading b None g) k'
    reading g none paths = (
      subst (λ (q : Point). TriesThen t i (opening q ∷ []) (own ++ outline (act.Opened t p.stamp p.scn ∷ []))) (sym at) did,
      record {
        work = record {
          index = x;
          found = subst (λ (q : Point). WasFound n k' t i q x) (sym at) found;
          building = subst (λ (q : Point). IsBuilding sound k' t i q x) (sym at) building;
          paths = paths;
          based = λ is_sound row there read. absurd (never read);
        };
        chunks = subst (λ (cs : List (List FoundKey)). AllByRecursion (IsFoundAt sound k' b.point) cs) (sym none) tt;
      },
    )

  closing : (q : Point) → q ≡ p → (x : _) → (TriesThen t i (opening p ∷ []) (own ++ outline (act.Opened t p.stamp p.scn ∷ [])) → Rattle.px_upkeep.specs.Turns.FollowsClosing sound n t i p x k' (own ++ outline (act.Opened t p.stamp p.scn ∷ [])))
      → IsState sound n t i (own ++ outline (act.Opened t p.stamp p.scn ∷ [])) (s.Closing q x) k'
  closing q at x follows = subst (λ (z : Point). IsState sound n t i (own ++ outline (act.Opened t p.stamp p.scn ∷ [])) (s.Closing z x) k') (sym at) (held, follows did)

  pub opens : (x : BuildState) → Begins p i x → Leads sound n t i own k k' (came.On x)
  opens (s.Closing q (next.Failed f)) b =
      led (s.Closing q (next.Failed f)) (closing q b.0 (next.Failed f) (λ o. (subst (λ (g : BuildFault). WasRefused sound n t.0 i.0 g k') (sym b.1) (plain sound n t.0 i.0 why.NoIndex k' now.from (lacks b.2) tt), o)))
  opens (s.Closing q next.Renew) b = led (s.Closing q next.Renew) (closing q b next.Renew (λ o. o))
  opens (s.Closing q (next.Again birth)) b = led (s.Closing q (next.Again birth)) (closing q b (next.Again birth) (λ o. o))
  opens (s.Closing q (next.Refused f)) b =
      led (s.Closing q (next.Refused f)) (closing q b.0 (next.Refused f) (λ o. (subst (λ (g : BuildFault). WasRefused sound n t.0 i.0 g k') (sym b.1) (plain sound n t.0 i.0 why.Memory k' now.from tt tt), o)))
  opens (s.Closing q (next.Active m)) b = absurd b
  opens (s.Reading w None g) b = led (s.Reading w None g) (reading w b.0 b.2.0 b.2.1 g b.1 b.2.2)
  opens (s.Reading w (Some last) g) b = absurd b
  opens (s.Opening birth) b = absurd b
  opens (s.Renewing r) b = absurd b
  opens (s.Basing w xs more last) b = absurd b
  opens (s.Settling w xs more last) b = absurd b
  opens (s.Activating q r) b = absurd b
  opens (s.Disabling r f) b = absurd b

-- 3. No point was opened

-- the index is to be disabled
pub disabling : (sound : Type 0) (n : ℕ) (t : TableId) (i : IndexId) (own : List Act) (f : BuildFault) (x : BuildState) (k : Known) → IsAsked n t i k → TriesThen t i [] own → WasRefused sound n t.0 i.0 f k → IsDisabling t i f x → FitsState sound n t i own x k
disabling sound n t i own f (s.Disabling r g) k asked tries why h =
    let F : DefineState → Type 0 = λ z. define.FitsDefinition sound (d.Disabled t i) z k × define.IsDefinitionGoing z in
    let going = subst F (sym h.1) (tt, tt) in
    record { asked = asked; is = (tries, (h.0, going.0, going.1), subst (λ (z : BuildFault). WasRefused sound n t.0 i.0 z k) (sym h.2) why) }
disabling sound n t i own f (s.Opening birth) k asked tries why h = absurd h
disabling sound n t i own f (s.Renewing r) k asked tries why h = absurd h
disabling sound n t i own f (s.Reading w after g) k asked tries why h = absurd h
disabling sound n t i own f (s.Basing w xs more last) k asked tries why h = absurd h
disabling sound n t i own f (s.Settling w xs more last) k asked tries why h = absurd h
disabling sound n t i own f (s.Activating q r) k asked tries why h = absurd h
disabling sound n t i own f (s.Closing q x) k asked tries why h = absurd h

open_tells : (sound : Type 0) (n : ℕ) (t : TableId) (i : IndexId) (scn : ℕ) (k' : Known) → Tells sound n t.0 i.0 (open_cause t.0 (Some scn)) k'
open_tells sound n t i scn k' = record { table = λ h. h; horizon = λ z h. (h.0, h.1); damaged = λ file place h. absurd h; closed = λ call h. h }

by_came : (sound : Type 0) (n : ℕ) (t : TableId) (i : IndexId) (own : List Act) (f : BuildFault) (k : Known) (c : Came) → IsUnopened t i f c → IsAsked n t i k → WasRefused sound n t.0 i.0 f k → TriesThen t i [] own → Led sound n t i own k c
by_came sound n t i own f k (came.On x) is asked why tries = disabling sound n t i own f x k asked tries why is
by_came sound n t i own f k (came.Over r) is asked why tries = subst (λ (z : Result Made BuildFault). IsBuildOutcome sound n t i own k z) (sym is) (why, inl tries)
by_came sound n t i own f k (came.Waits x) is asked why tries = absurd is

module _ (sound : Type 0) (n : ℕ) (t : TableId) (i : IndexId) (own : List Act) where
  pub not-opened : (birth scn : ℕ) (f : StepFault) (k k' : Known) (c : Came) → FitsState sound n t i own (s.Opening birth) k → Refuses (open_cause t.0 (Some scn)) k k' f → IsUnopened t i (step_fault f) c → Leads sound n t i own k k' c
  not-opened birth scn f k k' c fits h is =
      let call = refused-call (open_cause t.0 (Some scn)) k k' f h in
      let now = asked-later n t i k k' (past-ran k k' call.acts call.ran) fits.asked in
      let why = refused-step sound n t.0 i.0 (open_cause t.0 (Some scn)) k k' f (open_tells sound n t i scn k') fits.asked.from now.from h in
      let tries = tries-still t i [] (outline call.acts) own call.quiet fits.is in
      record { acts = call.acts; ran = call.ran; led = by_came sound n t i (own ++ outline call.acts) (step_fault f) k' c is now why tries }

  -- a batch at or below the birth isn't written yet
  pub waits : (birth scn stamp : ℕ) (k k' : Known) → FitsState sound n t i own (s.Opening birth) k → Refuses (open_cause t.0 (Some scn)) k k' (step.NotYet stamp) → Leads sound n t i own k k' (came.Waits (s.Opening birth))
  waits birth scn stamp k k' fits h =
      let call = refused-call (open_cause t.0 (Some scn)) k k' (step.NotYet stamp) h in
      record { acts = call.acts; ran = call.ran; led = record { asked = asked-later n t i k k' (past-ran k k' call.acts call.ran) fits.asked; is = tries-still t i [] (outline call.acts) own call.quiet fits.is } }
