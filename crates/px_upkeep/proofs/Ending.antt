-- The index becomes active, and the point is closed; or the index is built again, or disabled.
use Rattle.std.proofs.Common.{ℕ, ◌≡◌, ◌≤◌, true, Option, Some, Ok, Err, List, [], ◌∷◌, ◌++◌, length, refl, sym, ◌∙◌, ap, subst, arith, inl, inr}
use Rattle.px_values.specs.declared.limit.Limit.{Limit as Bound}
use Rattle.px_values.specs.declared.limit.Limit.TheVariants as bound
use Rattle.px_values.specs.declared.name.IndexId.{IndexId}
use Rattle.px_values.specs.declared.name.TableId.{TableId}
use Rattle.px_tables.specs.declared.index.Index.{Index}
use Rattle.px_tables.specs.declared.index.IndexState.{IndexState as BuildState}
use Rattle.px_tables.specs.declared.index.IndexState.TheVariants as states
use Rattle.px_trail.specs.declared.entry.Act.{Act}
use Rattle.px_trail.specs.declared.entry.Act.TheVariants as act
use Rattle.px_trail.specs.declared.entry.Entry.{Entry}
use Rattle.px_trail.specs.Legal.{Follows as Comes, MayCome, MayState}
use Rattle.px_trail.specs.Trail.{Base, Catalogue, catalogue_of, catalogue_step, index_of, open_points, points_step, with_state}
use Rattle.px_trail.proofs.Growth.{catalogue-snoc, points-snoc}
use Rattle.px_trail.proofs.Standing.{set_number-same}
use Rattle.px_calls.specs.declared.definition.Definition.{Definition}
use Rattle.px_calls.specs.declared.definition.Definition.TheVariants as d
use Rattle.px_calls.specs.declared.definition.Made.{Made}
use Rattle.px_calls.specs.declared.fault.StepFault.TheVariants as step
use Rattle.px_calls.specs.declared.query.Point.{Point}
use Rattle.px_calls.specs.Calls.{act_of}
use Rattle.px_calls.specs.Causes.{definition_cause, rebuilding_cause}
use Rattle.px_calls.specs.Known.{Adds, Known, Ran, TimePasses, outline}
use Rattle.px_calls.specs.Requires.{CanDefine, MayBase}
use Rattle.px_calls.proofs.Runs.{may-come, ran-adds}
use Rattle.px_defining.specs.declared.define.DefineFault.{DefineFault}
use Rattle.px_defining.specs.declared.define.DefineFault.TheVariants as fault
use Rattle.px_defining.specs.declared.define.DefineRun.{DefineRun}
use Rattle.px_defining.specs.declared.define.DefineState.{DefineState}
use Rattle.px_defining.specs.declared.define.DefineState.TheVariants as ds
use Rattle.px_defining.specs.declared.define.DefineTurn.TheVariants as dt
use Rattle.px_defining.specs.Turns as define
use Rattle.px_defining.proofs.Defining as defining
use Rattle.px_upkeep.specs.declared.build.BuildFault.{BuildFault}
use Rattle.px_upkeep.specs.declared.build.BuildFault.TheVariants as why
use Rattle.px_upkeep.specs.declared.build.BuildState.{BuildState as BuildMachine}
use Rattle.px_upkeep.specs.declared.build.BuildState.TheVariants as s
use Rattle.px_upkeep.specs.declared.build.Came.TheVariants as came
use Rattle.px_upkeep.specs.declared.build.Next.TheVariants as next
use Rattle.px_upkeep.specs.Turns.{BecameActive, BuildFaultIs, FitsState, FollowsClosing, IsAsked, IsDefinitionUnderWay, IsDisabling, IsHeld, LacksIndexOf, Leads, Looked, Renewed, TriesThen, WasRefused, fault_of_definition, first_or, next_of, opening}
use Rattle.px_upkeep.proofs.Growing.{Grown, base-stays, grown-passes, grown-ran, held-stays}
use Rattle.px_upkeep.proofs.Later.{active-later, asked-later, next-told, past-ran, past-same, plain, refused-later, tried, tries-still, tries-then}
use Rattle.px_upkeep.proofs.Opening.{disabling}

-- 1. A definition under way

goes_on : (sound : Type 0) (x : Definition) (old new : DefineRun) (k k' : Known) → IsDefinitionUnderWay sound x old k → new.definition ≡ old.definition → define.FitsDefinition sound old.definition new.state k' → define.IsDefinitionGoing new.state → IsDefinitionUnderWay sound x new k'
goes_on sound x old new k k' f same fits going = (same ∙ f.0, subst (λ (y : Definition). define.FitsDefinition sound y new.state k') f.0 fits, going)

pub defining-stays : (sound : Type 0) (x : Definition) (r : DefineRun) (k k' : Known) → TimePasses k k' → IsDefinitionUnderWay sound x r k → IsDefinitionUnderWay sound x r k'
defining-stays sound x r k k' h f = (f.0, defining.fits-kept sound x r.state k k' h f.1, f.2)

new_defining : (sound : Type 0) (x : Definition) (r : DefineRun) (k : Known) → r.definition ≡ x → r.state ≡ ds.Defining → CanDefine sound k x → IsDefinitionUnderWay sound x r k
new_defining sound x r k is new can =
    let F : DefineState → Type 0 = λ z. define.FitsDefinition sound x z k × define.IsDefinitionGoing z in
    let f = subst F (sym new) (can, tt) in
    (is, f.0, f.1)

-- 2. Faults of definitions

limits : (sound : Type 0) (t i : ℕ) (which : Bound) (count : ℕ) (k : Known) → rebuilding_cause t i (step.Limit which count) k → BuildFaultIs sound t i (why.Limit which count) k
limits sound t i bound.Key count k h = absurd h
limits sound t i which count k h = h

module _ (sound : Type 0) (n : ℕ) (t : TableId) (i : IndexId) (k k' : Known) (now : n ≤ length k'.seen) where
  -- what tells a fault of a definition tells that of a build
  told : (x : Definition) (f : DefineFault)
      → (definition_cause x step.NoTable k' → BuildFaultIs sound t.0 i.0 why.NoTable k') → (definition_cause x step.NoIndex k' → BuildFaultIs sound t.0 i.0 why.NoIndex k')
      → ((which : Bound) (count : ℕ) → definition_cause x (step.Limit which count) k' → BuildFaultIs sound t.0 i.0 (why.Limit which count) k')
      → define.DefinitionFaultIs sound x f k' → define.DefinitionFaultSince n f k' → WasRefused sound n t.0 i.0 (fault_of_definition f) k'
  told x fault.NoTable table index limit h m = plain sound n t.0 i.0 why.NoTable k' now (table h) tt
  told x fault.NoIndex table index limit h m = plain sound n t.0 i.0 why.NoIndex k' now (index h) tt
  told x (fault.Limit which count) table index limit h m = plain sound n t.0 i.0 (why.Limit which count) k' now (limit which count h) tt
  told x fault.ReadFault table index limit h m = plain sound n t.0 i.0 why.ReadFault k' now h m
  told x fault.WriteFault table index limit h m = plain sound n t.0 i.0 why.WriteFault k' now h m
  told x (fault.Damaged file place) table index limit h m = plain sound n t.0 i.0 (why.Damaged file place) k' now h tt
  told x (fault.Closed call) table index limit h m = plain sound n t.0 i.0 (why.Closed call) k' now h tt
  told x fault.NameExists table index limit h m = plain sound n t.0 i.0 why.Memory k' now tt tt
  told x fault.Memory table index limit h m = plain sound n t.0 i.0 why.Memory k' now tt tt

  lacks : Rattle.px_calls.specs.Causes.LacksIndex k' t.0 i.0 → LacksIndexOf k' t.0 i.0
  lacks h = record { table = h.0; none = λ x is number. h.1 x is }

  pub active-told : (f : DefineFault) → define.DefinitionFaultIs sound (d.Active t i) f k' → define.DefinitionFaultSince n f k' → WasRefused sound n t.0 i.0 (fault_of_definition f) k'
  active-told f h m = told (d.Active t i) f (λ z. z) lacks (λ which count z. absurd z) h m

  pub renewed-told : (f : DefineFault) → define.DefinitionFaultIs sound (d.Rebuilding t i) f k' → define.DefinitionFaultSince n f k' → WasRefused sound n t.0 i.0 (fault_of_definition f) k'
  renewed-told f h m = told (d.Rebuilding t i) f (λ z. z) lacks (λ which count z. limits sound t.0 i.0 which count k' z) h m

  pub disabled-told : (f : DefineFault) → define.DefinitionFaultIs sound (d.Disabled t i) f k' → define.DefinitionFaultSince n f k' → WasRefused sound n t.0 i.0 (fault_of_definition f) k'
  disabled-told f h m = told (d.Disabled t i) f (λ z. z) lacks (λ which count z. absurd z) h m

-- 3. The index becomes active

state_still : (t : TableId) (i : IndexId) (state : BuildState) (stamp : ℕ) (seat u v m seat' : ℕ) → points_step seat u v m seat' (act.IndexState t i state stamp) ≡ m
unfolding points_step
state_still t i state stamp seat u v m seat' = refl

active_some : (stamp m : ℕ) (o : Option Index) (x : Index) → o ≡ Some x → with_state states.Active stamp m o ≡ Some (record x { state = states.Active })
active_some stamp m o x is = ap (with_state states.Active stamp m) is

some_index : {a b : Index} → Some a ≡ Some b → a ≡ b
some_index h = cc

-- the entry of the index that becomes active at its point
module _ (sound : Type 0) (n : ℕ) (t : TableId) (i : IndexId) (p : Point) (m : Made) (k k' : Known) (adds : Adds k k' (act.IndexState t i states.Active m.stamp)) (held : IsHeld k t p) (birth : MayBase sound k p i.0 []) (from : n ≤ length k'.seen) (at : m.at ≡ length k'.seen) (number : m.number ≡ i.0) where
  abbrev entry : Entry
  entry = record { seat = adds.between.seat; calls = adds.extends.calls; act = act.IndexState t i states.Active m.stamp }

  may : MayCome adds.between.base adds.between.seen entry
  may = may-come adds.between k' (act.IndexState t i states.Active m.stamp) adds.extends

  grown : Grown k adds.between
  grown = grown-passes k adds.between adds.sees.passes

  here : MayBase sound adds.between p i.0 []
  here = base-stays sound k adds.between p i.0 [] grown held.is_open birth

  held_here : IsHeld adds.between t p
  held_here = held-stays k adds.between t p grown held

  stands : index_of k'.base k'.seen i.0 ≡ Some (record here.index { state = states.Active })
  unfolding catalogue_step
  stands =
      let c = catalogue_of adds.between.base adds.between.seen in
      ap (λ (b : Base). index_of b k'.seen i.0) adds.extends.base
      ∙ (ap (λ (l : List Entry). index_of adds.between.base l i.0) adds.extends.seen
      ∙ (ap (λ (z : Catalogue). z.indexes i.0) (catalogue-snoc adds.between.base adds.between.seen entry)
      ∙ (set_number-same i.0 (with_state states.Active m.stamp c.next (c.indexes i.0)) c.indexes ∙ active_some m.stamp c.next (c.indexes i.0) here.index here.index_is)))

  stamp_is : m.stamp ≡ here.index.birth
  unfolding Comes MayState
  stamp_is = may.follows.1 here.index here.index_is

  pub became : BecameActive n t.0 i.0 m k'
  became = record {
    was = k';
    past = past-same k';
    from = from;
    index = record here.index { state = states.Active };
    is = stands;
    owner = here.owner ∙ ap (λ (u : TableId). u.0) held.table;
    state = refl;
    birth = stamp_is;
    number = number;
    at = at;
  }

  pub stamps : p.stamp ≡ m.stamp
  stamps = sym (stamp_is ∙ here.birth)

  pub still-held : IsHeld k' t p
  still-held =
      let e = adds.extends in
      let same : open_points k'.seat p.table.0 p.stamp k'.seen ≡ open_points adds.between.seat p.table.0 p.stamp adds.between.seen =
      ap (λ (z : ℕ). open_points z p.table.0 p.stamp k'.seen) e.seat
      ∙ (ap (open_points adds.between.seat p.table.0 p.stamp) e.seen
      ∙ (points-snoc adds.between.seat p.table.0 p.stamp adds.between.seen entry ∙ state_still t i states.Active m.stamp adds.between.seat p.table.0 p.stamp (open_points adds.between.seat p.table.0 p.stamp adds.between.seen) adds.between.seat)) in
      record { table = held.table; scn = held.scn; is_open = (let z = held_here.is_open in omega (arith, z, same)); legal = e.legal }

module _ (sound : Type 0) (n : ℕ) (t : TableId) (i : IndexId) (own : List Act) where
  activating_on : (p : Point) (old new : DefineRun) (k k' : Known) (acts : List Act) → FitsState sound n t i own (s.Activating p old) k → new.definition ≡ old.definition → Ran k k' acts → outline acts ≡ [] → define.FitsDefinition sound old.definition new.state k' → define.IsDefinitionGoing new.state
      → FitsState sound n t i (own ++ outline acts) (s.Activating p new) k'
  activating_on p old new k k' acts fits same ran quiet now going =
      let a = fits.is.1 in
      let g = grown-ran k k' acts ran quiet a.held.legal in
      record {
        asked = asked-later n t i k k' (past-ran k k' acts ran) fits.asked;
        is = (
          tries-still t i (opening p ∷ []) (outline acts) own quiet fits.is.0,
          record {
            held = held-stays k k' t p g a.held;
            birth = base-stays sound k k' p i.0 [] g a.held.is_open a.birth;
            defining = goes_on sound (d.Active t i) old new k k' a.defining same now going;
          },
        );
      }

  pub active-goes-on : (p : Point) (old new : DefineRun) (k k' : Known) → FitsState sound n t i own (s.Activating p old) k → new.definition ≡ old.definition → define.DefinitionTurns sound old.definition old.state k new.state k' dt.Stepped → Leads sound n t i own k k' (came.On (s.Activating p new))
  active-goes-on p old new k k' fits same z = record { acts = z.acts; ran = z.ran; led = activating_on p old new k k' z.acts fits same z.ran z.told.1 z.fits z.told.0 }

  pub active-waits : (p : Point) (old new : DefineRun) (count : ℕ) (k k' : Known) → FitsState sound n t i own (s.Activating p old) k → new.definition ≡ old.definition → define.DefinitionTurns sound old.definition old.state k new.state k' (dt.Waiting count) → Leads sound n t i own k k' (came.Waits (s.Activating p new))
  active-waits p old new count k k' fits same z = record { acts = z.acts; ran = z.ran; led = activating_on p old new k k' z.acts fits same z.ran z.told.1 z.fits z.told.0 }

  pub is-active : (p : Point) (old : DefineRun) (new : DefineState) (m : Made) (k k' : Known) → FitsState sound n t i own (s.Activating p old) k → define.DefinitionTurns sound old.definition old.state k new k' (dt.Over (Ok m)) → Leads sound n t i own k k' (came.On (s.Closing p (next.Active m)))
  is-active p old new m k k' fits z =
      let a = fits.is.1 in
      let adds = subst (λ (y : Definition). Adds k k' (act_of y m)) a.defining.0 z.adds in
      let done = subst (λ (y : Definition). define.HasDefined y (outline z.acts) k' m) a.defining.0 z.told.1 in
      let now = asked-later n t i k k' (past-ran k k' z.acts z.ran) fits.asked in
      record {
        acts = z.acts;
        ran = z.ran;
        led = record {
          asked = now;
          is = (
            still-held sound n t i p m k k' adds a.held a.birth now.from done.at done.made,
            (
              stamps sound n t i p m k k' adds a.held a.birth now.from done.at done.made,
              became sound n t i p m k k' adds a.held a.birth now.from done.at done.made,
              subst (λ (l : List Act). TriesThen t i (opening p ∷ act.IndexState t i states.Active m.stamp ∷ []) (own ++ l)) (sym done.one) (tries-then t i (opening p ∷ []) (act.IndexState t i states.Active m.stamp ∷ []) own fits.is.0),
            ),
          );
        };
      }

  pub not-active : (p : Point) (old : DefineRun) (new : DefineState) (f : DefineFault) (k k' : Known) → FitsState sound n t i own (s.Activating p old) k → define.DefinitionTurns sound old.definition old.state k new k' (dt.Over (Err f)) → Leads sound n t i own k k' (came.On (s.Closing p (next_of (fault_of_definition f))))
  not-active p old new f k k' fits z =
      let a = fits.is.1 in
      let cause = subst (λ (y : Definition). define.DefinitionFaultIs sound y f k') a.defining.0 z.told.1.0 in
      let quiet = z.told.1.1 in
      let now = asked-later n t i k k' (past-ran k k' z.acts z.ran) fits.asked in
      let g = grown-ran k k' z.acts z.ran quiet a.held.legal in
      let why = active-told sound n t i k k' now.from f cause (z.since n fits.asked.from) in
      record {
        acts = z.acts;
        ran = z.ran;
        led = record {
          asked = now;
          is = (held-stays k k' t p g a.held, next-told sound n t i p (fault_of_definition f) k' (own ++ outline z.acts) why (tries-still t i (opening p ∷ []) (outline z.acts) own quiet fits.is.0));
        };
      }

  -- 4. The point is closed

  module _ (p : Point) (k k' : Known) (adds : Adds k k' (act.Released p.table p.stamp)) (held : IsHeld k t p) (asked : IsAsked n t i k) where
    ran : Ran k k' (act.Released p.table p.stamp ∷ [])
    ran = ran-adds k k' (act.Released p.table p.stamp) adds

    now : IsAsked n t i k'
    now = asked-later n t i k k' (past-ran k k' _ ran) asked

    released : (last : List Act) → TriesThen t i last own → TriesThen t i (last ++ act.Released t p.stamp ∷ []) (own ++ outline (act.Released p.table p.stamp ∷ []))
    released last o =
        subst (λ (u : TableId). TriesThen t i (last ++ act.Released t p.stamp ∷ []) (own ++ act.Released u p.stamp ∷ [])) (sym held.table) (tries-then t i last (act.Released t p.stamp ∷ []) own o)

    looked : TriesThen t i (opening p ∷ []) own → TriesThen t i [] (own ++ outline (act.Released p.table p.stamp ∷ []))
    looked o = tried t i (Looked p.stamp) (own ++ outline (act.Released p.table p.stamp ∷ [])) (subst (λ (u : TableId). TriesThen t i (act.Opened u p.stamp true ∷ act.Released t p.stamp ∷ []) (own ++ outline (act.Released p.table p.stamp ∷ []))) held.table (released (opening p ∷ []) o))

    later : (f : BuildFault) → WasRefused sound n t.0 i.0 f k → WasRefused sound n t.0 i.0 f k'
    later f h = refused-later sound n t.0 i.0 f k k' (past-ran k k' _ ran) h

    pub again : (birth : ℕ) → TriesThen t i (opening p ∷ []) own → Leads sound n t i own k k' (came.On (s.Opening birth))
    again birth o = record { acts = act.Released p.table p.stamp ∷ []; ran = ran; led = record { asked = now; is = looked o } }

    pub renews : (r : DefineRun) → r.definition ≡ d.Rebuilding t i → r.state ≡ ds.Defining → TriesThen t i (opening p ∷ []) own → Leads sound n t i own k k' (came.On (s.Renewing r))
    renews r is new o = record { acts = act.Released p.table p.stamp ∷ []; ran = ran; led = record { asked = now; is = (looked o, new_defining sound (d.Rebuilding t i) r k' is new tt) } }

    pub ends : (m : Made) → FollowsClosing sound n t i p (next.Active m) k own → Leads sound n t i own k k' (came.Over (Ok m))
    ends m f =
        let all = released (opening p ∷ act.IndexState t i states.Active m.stamp ∷ []) f.2 in
        let same : ◌≡◌ {A = List Act} (act.Opened p.table p.stamp true ∷ act.IndexState t i states.Active m.stamp ∷ act.Released t p.stamp ∷ []) (act.Opened t m.stamp true ∷ act.IndexState t i states.Active m.stamp ∷ act.Released t m.stamp ∷ []) =
        (λ j. act.Opened (held.table j) (f.0 j) true ∷ act.IndexState t i states.Active m.stamp ∷ act.Released t (f.0 j) ∷ []) in
        record {
          acts = act.Released p.table p.stamp ∷ [];
          ran = ran;
          led = (active-later n t.0 i.0 m k k' (past-ran k k' _ ran) f.1, subst (λ (l : List Act). TriesThen t i l (own ++ outline (act.Released p.table p.stamp ∷ []))) same all);
        }

    pub fails : (f : BuildFault) → FollowsClosing sound n t i p (next.Failed f) k own → Leads sound n t i own k k' (came.Over (Err f))
    fails f h = record { acts = act.Released p.table p.stamp ∷ []; ran = ran; led = (later f h.0, inl (looked h.1)) }

    pub refuses : (f : BuildFault) (x : BuildMachine) → IsDisabling t i f x → FollowsClosing sound n t i p (next.Refused f) k own → Leads sound n t i own k k' (came.On x)
    refuses f x is h = record { acts = act.Released p.table p.stamp ∷ []; ran = ran; led = disabling sound n t i (own ++ outline (act.Released p.table p.stamp ∷ [])) f x k' now (looked h.1) (later f h.0) is }

  -- 5. The index is built again

  renewing_on : (old new : DefineRun) (k k' : Known) (acts : List Act) → FitsState sound n t i own (s.Renewing old) k → new.definition ≡ old.definition → Ran k k' acts → outline acts ≡ [] → define.FitsDefinition sound old.definition new.state k' → define.IsDefinitionGoing new.state
      → FitsState sound n t i (own ++ outline acts) (s.Renewing new) k'
  renewing_on old new k k' acts fits same ran quiet now going = record {
    asked = asked-later n t i k k' (past-ran k k' acts ran) fits.asked;
    is = (tries-still t i [] (outline acts) own quiet fits.is.0, goes_on sound (d.Rebuilding t i) old new k k' fits.is.1 same now going);
  }

  pub renew-goes-on : (old new : DefineRun) (k k' : Known) → FitsState sound n t i own (s.Renewing old) k → new.definition ≡ old.definition → define.DefinitionTurns sound old.definition old.state k new.state k' dt.Stepped → Leads sound n t i own k k' (came.On (s.Renewing new))
  renew-goes-on old new k k' fits same z = record { acts = z.acts; ran = z.ran; led = renewing_on old new k k' z.acts fits same z.ran z.told.1 z.fits z.told.0 }

  pub renew-waits : (old new : DefineRun) (count : ℕ) (k k' : Known) → FitsState sound n t i own (s.Renewing old) k → new.definition ≡ old.definition → define.DefinitionTurns sound old.definition old.state k new.state k' (dt.Waiting count) → Leads sound n t i own k k' (came.Waits (s.Renewing new))
  renew-waits old new count k k' fits same z = record { acts = z.acts; ran = z.ran; led = renewing_on old new k k' z.acts fits same z.ran z.told.1 z.fits z.told.0 }

  pub is-renewed : (old : DefineRun) (new : DefineState) (m : Made) (k k' : Known) → FitsState sound n t i own (s.Renewing old) k → define.DefinitionTurns sound old.definition old.state k new k' (dt.Over (Ok m)) → Leads sound n t i own k k' (came.On (s.Opening m.stamp))
  is-renewed old new m k k' fits z =
      let done = subst (λ (y : Definition). define.HasDefined y (outline z.acts) k' m) fits.is.1.0 z.told.1 in
      record {
        acts = z.acts;
        ran = z.ran;
        led = record {
          asked = asked-later n t i k k' (past-ran k k' z.acts z.ran) fits.asked;
          is = tried t i (Renewed m.stamp) (own ++ outline z.acts) (subst (λ (l : List Act). TriesThen t i (act.IndexState t i states.Building m.stamp ∷ []) (own ++ l)) (sym done.one) (tries-then t i [] (act.IndexState t i states.Building m.stamp ∷ []) own fits.is.0));
        };
      }

  pub not-renewed : (old : DefineRun) (new : DefineState) (f : DefineFault) (k k' : Known) → FitsState sound n t i own (s.Renewing old) k → define.DefinitionTurns sound old.definition old.state k new k' (dt.Over (Err f)) → Leads sound n t i own k k' (came.Over (Err (fault_of_definition f)))
  not-renewed old new f k k' fits z =
      let cause = subst (λ (y : Definition). define.DefinitionFaultIs sound y f k') fits.is.1.0 z.told.1.0 in
      let now = asked-later n t i k k' (past-ran k k' z.acts z.ran) fits.asked in
      record {
        acts = z.acts;
        ran = z.ran;
        led = (renewed-told sound n t i k k' now.from f cause (z.since n fits.asked.from), inl (tries-still t i [] (outline z.acts) own z.told.1.1 fits.is.0));
      }

  -- 6. The index is disabled

  disabling_on : (old new : DefineRun) (first : BuildFault) (k k' : Known) (acts : List Act) → FitsState sound n t i own (s.Disabling old first) k → new.definition ≡ old.definition → Ran k k' acts → outline acts ≡ [] → define.FitsDefinition sound old.definition new.state k' → define.IsDefinitionGoing new.state
      → FitsState sound n t i (own ++ outline acts) (s.Disabling new first) k'
  disabling_on old new first k k' acts fits same ran quiet now going = record {
    asked = asked-later n t i k k' (past-ran k k' acts ran) fits.asked;
    is = (
      tries-still t i [] (outline acts) own quiet fits.is.0,
      goes_on sound (d.Disabled t i) old new k k' fits.is.1 same now going,
      refused-later sound n t.0 i.0 first k k' (past-ran k k' acts ran) fits.is.2,
    );
  }

  pub disable-goes-on : (old new : DefineRun) (first : BuildFault) (k k' : Known) → FitsState sound n t i own (s.Disabling old first) k → new.definition ≡ old.definition → define.DefinitionTurns sound old.definition old.state k new.state k' dt.Stepped → Leads sound n t i own k k' (came.On (s.Disabling new first))
  disable-goes-on old new first k k' fits same z = record { acts = z.acts; ran = z.ran; led = disabling_on old new first k k' z.acts fits same z.ran z.told.1 z.fits z.told.0 }

  pub disable-waits : (old new : DefineRun) (first : BuildFault) (count : ℕ) (k k' : Known) → FitsState sound n t i own (s.Disabling old first) k → new.definition ≡ old.definition → define.DefinitionTurns sound old.definition old.state k new.state k' (dt.Waiting count) → Leads sound n t i own k k' (came.Waits (s.Disabling new first))
  disable-waits old new first count k k' fits same z = record { acts = z.acts; ran = z.ran; led = disabling_on old new first k k' z.acts fits same z.ran z.told.1 z.fits z.told.0 }

  pub is-disabled : (old : DefineRun) (new : DefineState) (first : BuildFault) (m : Made) (k k' : Known) → FitsState sound n t i own (s.Disabling old first) k → define.DefinitionTurns sound old.definition old.state k new k' (dt.Over (Ok m)) → Leads sound n t i own k k' (came.Over (Err first))
  is-disabled old new first m k k' fits z =
      let done = subst (λ (y : Definition). define.HasDefined y (outline z.acts) k' m) fits.is.1.0 z.told.1 in
      record {
        acts = z.acts;
        ran = z.ran;
        led = (
          refused-later sound n t.0 i.0 first k k' (past-ran k k' z.acts z.ran) fits.is.2,
          inr (m.stamp, subst (λ (l : List Act). TriesThen t i (act.IndexState t i states.Disabled m.stamp ∷ []) (own ++ l)) (sym done.one) (tries-then t i [] (act.IndexState t i states.Disabled m.stamp ∷ []) own fits.is.0)),
        );
      }

  first_told : (first f : BuildFault) (k : Known) → WasRefused sound n t.0 i.0 first k → WasRefused sound n t.0 i.0 f k → WasRefused sound n t.0 i.0 (first_or first f) k
  first_told first why.ReadFault k h j = j
  first_told first why.WriteFault k h j = j
  first_told first (why.Closed call) k h j = j
  first_told first f k h j = h

  pub not-disabled : (old : DefineRun) (new : DefineState) (first : BuildFault) (f : DefineFault) (k k' : Known) → FitsState sound n t i own (s.Disabling old first) k → define.DefinitionTurns sound old.definition old.state k new k' (dt.Over (Err f)) → Leads sound n t i own k k' (came.Over (Err (first_or first (fault_of_definition f))))
  not-disabled old new first f k k' fits z =
      let cause = subst (λ (y : Definition). define.DefinitionFaultIs sound y f k') fits.is.1.0 z.told.1.0 in
      let past = past-ran k k' z.acts z.ran in
      let now = asked-later n t i k k' past fits.asked in
      record {
        acts = z.acts;
        ran = z.ran;
        led = (
          first_told first (fault_of_definition f) k' (refused-later sound n t.0 i.0 first k k' past fits.is.2) (disabled-told sound n t i k k' now.from f cause (z.since n fits.asked.from)),
          inl (tries-still t i [] (outline z.acts) own z.told.1.1 fits.is.0),
        );
      }
