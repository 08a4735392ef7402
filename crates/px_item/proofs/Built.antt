-- How an item goes on whose index is built behind its definition.
use Rattle.std.proofs.Common.{ℕ, ◌≡◌, None, Some, Result, Ok, Err, List, [], ◌++◌, refl, sym, ◌∙◌, subst, arith, ◌⊎◌, inl, inr}
use Rattle.px_lex.specs.Script.{seen_piece}
use Rattle.px_ast.specs.declared.statement.Statement.{Statement}
use Rattle.px_values.specs.declared.name.IndexId.{IndexId}
use Rattle.px_values.specs.declared.name.TableId.{TableId}
use Rattle.px_trail.specs.declared.entry.Act.{Act}
use Rattle.px_calls.specs.declared.definition.Definition.{Definition}
use Rattle.px_calls.specs.declared.definition.Made.{Made}
use Rattle.px_calls.specs.Calls.{index_id_made}
use Rattle.px_calls.specs.Known.{Known, Ran, outline}
use Rattle.px_defining.specs.Turns as define
use Rattle.px_defining.specs.declared.define.DefineRun.{DefineRun}
use Rattle.px_defining.specs.declared.define.DefineTurn.TheVariants as dt
use Rattle.px_upkeep.specs.Turns as building
use Rattle.px_upkeep.specs.declared.build.BuildFault.{BuildFault}
use Rattle.px_upkeep.specs.declared.build.BuildRun.{BuildRun}
use Rattle.px_upkeep.specs.declared.build.BuildTurn.TheVariants as bt
use Rattle.px_upkeep.proofs.Whole as upkeep
use Rattle.px_item.specs.declared.answered.Answered.{Answered}
use Rattle.px_item.specs.declared.answered.Asked.{Asked}
use Rattle.px_item.specs.declared.item.ItemState.{ItemState}
use Rattle.px_item.specs.declared.item.ItemState.TheVariants as state
use Rattle.px_item.specs.declared.item.ItemTurn.{ItemTurn}
use Rattle.px_item.specs.declared.item.ItemTurn.TheVariants as turn
use Rattle.px_item.specs.Builds.{IsBuiltBehind, to_build}
use Rattle.px_item.specs.Right as right
use Rattle.px_item.specs.Right.{GoesOnBehind, IsBoundTo, IsBuildBehind, IsBuilt, IsRight, plain, table_named}
use Rattle.px_item.specs.Turns.{FitsItem, IsAsking, IsBuilding, IsCreating, IsDefining, ItemTurns}
use Rattle.px_item.proofs.Building.{asked_for, bound_drawn, made_numbers}
use Rattle.px_item.proofs.Going.{define_is_over}
use Rattle.px_item.proofs.Passing.{and_then, asks_change, behind_later, bound_later, first_low, first_within, longer, of_ran, stands_later}
use Rattle.px_item.proofs.Plain.{behind_plain, built_plain, unbuilt_plain}

none_table : {A : Type 0} (t : TableId) → None ≡ Some t → A
none_table t h = cc

-- `mine` is what was done for the item so far
module _ (sound : Type 0) (before : ℕ) (asked : Asked) (mine : List Act) where
  -- 1. The definition was made

  begins_behind : (x y : Statement) (old : DefineRun) (new : _) (run : BuildRun) (k k' : Known) (m : Made) → (f : FitsItem sound before asked mine (state.Defining x old) k) → (t : define.DefinitionTurns sound old.definition old.state k new k' (dt.Over (Ok m)))
      → IsDefining sound asked x old k ⊎ IsCreating sound x old k → y ≡ x → right.IsBuildOf old.definition m (Some run) → FitsItem sound before asked (mine ++ outline t.acts) (state.Building y run) k'
  begins_behind x y old new run k k' m f t (inl j) same (u, builds, is) =
      let later = of_ran k k' t.acts t.ran in
      let out = t.told.1 in
      let bound = bound_later k k' asked.first j.found (table_named x) later j.bound in
      let legal = t.adds.extends.legal in
      let drawn = bound_drawn k' asked.first j.found x old.definition u bound legal j.definition builds in
      let n = made_numbers old.definition m k k' u t.adds out.made out.at builds drawn.1 in
      let at = out.at in
      let within = longer k k' asked.first later f.within in
      let is_building : IsBuilding sound asked (mine ++ outline t.acts) x run k' =
      record {
        found = j.found;
        bound = bound;
        right = j.right;
        definition = old.definition;
        asks = j.definition;
        table = u;
        builds = builds;
        made = m;
        rest = [];
        behind = record { one = and_then mine [] t.acts f.done ∙ out.one; made = out.made; from = omega arith; within = omega arith };
        stands = n.1;
        legal = legal;
        fits = upkeep.starts sound m.at u (index_id_made m) run k' (omega arith) drawn.0 n.0 is;
      } in
      record {
        begins = f.begins;
        within = within;
        state = (subst (λ (z : Statement). IsAsking asked z) (sym same) f.state.0, subst (λ (z : Statement). IsBuilding sound asked (mine ++ outline t.acts) z run k') (sym same) is_building);
        done = tt;
      }
  begins_behind x y old new run k k' m f t (inr j) same (u, builds, is) = none_table u (subst (λ (z : Definition). to_build z ≡ Some u) j.definition builds)

  goes_behind : (x : Statement) (old : DefineRun) (new : _) (k k' : Known) (m : Made) (st : ItemState) → (f : FitsItem sound before asked mine (state.Defining x old) k) → (t : define.DefinitionTurns sound old.definition old.state k new k' (dt.Over (Ok m)))
      → IsBuildBehind x old.definition m st → FitsItem sound before asked (mine ++ outline t.acts) st k'
  goes_behind x old new k k' m (state.Building y run) f t g = begins_behind x y old new run k k' m f t f.state.1 g.0 g.1
  goes_behind x old new k k' m st f t g = absurd g

  made_then : (x : Statement) (old new : DefineRun) (k k' : Known) (m : Made) (t : ItemTurn) → FitsItem sound before asked mine (state.Defining x old) k → define.DefinitionTurns sound old.definition old.state k new.state k' (dt.Over (Ok m))
      → GoesOnBehind asked x old.definition m t → ItemTurns sound before asked mine k k' t
  made_then x old new k k' m (turn.Stepped r) f t g = record { acts = t.acts; ran = t.ran; told = (g.0, goes_behind x old new.state k k' m r.state f t g.1) }
  made_then x old new k k' m (turn.Waiting r) f t g = absurd g
  made_then x old new k k' m (turn.Over a) f t g = define_is_over sound before asked mine x old new k k' (Ok m) a f t g.0 g.1

  pub define_made : (x : Statement) (old new : DefineRun) (k k' : Known) (m : Made) (t : ItemTurn) → FitsItem sound before asked mine (state.Defining x old) k → new.definition ≡ old.definition → define.DefinitionTurns sound old.definition old.state k new.state k' (dt.Over (Ok m))
      → GoesOnBehind asked x new.definition m t → ItemTurns sound before asked mine k k' t
  define_made x old new k k' m t f same turns g = made_then x old new k k' m t f turns (subst (λ (e : Definition). GoesOnBehind asked x e m t) same g)

  -- 2. The build goes on, and is over

  build_stays : (x : Statement) (old new : BuildRun) (k k' : Known) (acts : List Act) → (f : FitsItem sound before asked mine (state.Building x old) k) → Ran k k' acts
      → building.FitsBuild sound f.state.1.made.at f.state.1.table (index_id_made f.state.1.made) (f.state.1.rest ++ outline acts) new k' → FitsItem sound before asked (mine ++ outline acts) (state.Building x new) k'
  build_stays x old new k k' acts f ran fits =
      let later = of_ran k k' acts ran in
      let j = f.state.1 in
      record {
        begins = f.begins;
        within = longer k k' asked.first later f.within;
        state = (
          f.state.0,
          record {
            found = j.found;
            bound = bound_later k k' asked.first j.found (table_named x) later j.bound;
            right = j.right;
            definition = j.definition;
            asks = j.asks;
            table = j.table;
            builds = j.builds;
            made = j.made;
            rest = j.rest ++ outline acts;
            behind = behind_later asked.first j.definition j.made mine j.rest (outline acts) k k' later j.behind;
            stands = stands_later j.definition j.made k k' later j.behind.within j.stands;
            legal = ran.legal j.legal;
            fits = fits;
          },
        );
        done = tt;
      }

  pub build_goes_on : (x : Statement) (old new : BuildRun) (k k' : Known) → FitsItem sound before asked mine (state.Building x old) k
      → ((n : ℕ) → (t : TableId) → (i : IndexId) → (own : List Act) → building.FitsBuild sound n t i own old k → building.BuildTurns sound n t i own k k' (bt.Stepped new))
      → ItemTurns sound before asked mine k k' (turn.Stepped (record { asked = asked; state = state.Building x new }))
  build_goes_on x old new k k' f turns =
      let j = f.state.1 in
      let t = turns j.made.at j.table (index_id_made j.made) j.rest j.fits in
      record { acts = t.acts; ran = t.ran; told = (refl, build_stays x old new k k' t.acts f t.ran t.told) }

  pub build_waits : (x : Statement) (old new : BuildRun) (k k' : Known) → FitsItem sound before asked mine (state.Building x old) k
      → ((n : ℕ) → (t : TableId) → (i : IndexId) → (own : List Act) → building.FitsBuild sound n t i own old k → building.BuildTurns sound n t i own k k' (bt.Waiting new))
      → ItemTurns sound before asked mine k k' (turn.Waiting (record { asked = asked; state = state.Building x new }))
  build_waits x old new k k' f turns =
      let j = f.state.1 in
      let t = turns j.made.at j.table (index_id_made j.made) j.rest j.fits in
      record { acts = t.acts; ran = t.ran; told = (refl, build_stays x old new k k' t.acts f t.ran t.told) }

  built_first : (x : Statement) (r : Result Made BuildFault) (a : Answered) → IsBuilt asked x r a → a.first ≡ asked.first
  built_first x (Ok m) a c = c.0
  built_first x (Err e) a c = c.0

  -- `j` is of the state before the last step
  built_told : (x : Statement) (old : BuildRun) (k k' : Known) (acts : List Act) (r : Result Made BuildFault) (a : Answered) → IsAsking asked x → (j : IsBuilding sound asked mine x old k) → Ran k k' acts
      → building.IsBuildOutcome sound j.made.at j.table (index_id_made j.made) (j.rest ++ outline acts) k' r → IsBuilt asked x r a → IsRight sound (plain k') before (mine ++ outline acts) asked.settings (seen_piece asked.piece) a
  built_told x old k k' acts (Ok c) a asking j ran out told =
      let later = of_ran k k' acts ran in
      let own = mine ++ outline acts in
      let rest = j.rest ++ outline acts in
      let bound = subst (λ (n : ℕ). IsBoundTo k'.base k'.seen n j.found (table_named x)) (sym told.0) (bound_later k k' asked.first j.found (table_named x) later j.bound) in
      let behind = behind_plain asked.first j.definition j.made own rest k' (behind_later asked.first j.definition j.made mine j.rest (outline acts) k k' later j.behind) in
      let since = subst (λ (n : ℕ). IsBuiltBehind n j.definition j.made own rest (plain k')) (sym told.0) behind in
      let stands = stands_later j.definition j.made k k' later j.behind.within j.stands in
      right.is_index_built x j.found j.definition j.table j.made c rest asking.read (asking.free (asks_change j.found x j.definition j.asks)) bound j.right j.asks j.builds since (built_plain sound j.made.at j.table (index_id_made j.made) rest k' c out)
      (asked_for j.definition j.made c j.table.0 k' (ran.legal j.legal) stands out.0) told.1
  built_told x old k k' acts (Err e) a asking j ran out told =
      let later = of_ran k k' acts ran in
      let own = mine ++ outline acts in
      let rest = j.rest ++ outline acts in
      let bound = subst (λ (n : ℕ). IsBoundTo k'.base k'.seen n j.found (table_named x)) (sym told.0) (bound_later k k' asked.first j.found (table_named x) later j.bound) in
      let behind = behind_plain asked.first j.definition j.made own rest k' (behind_later asked.first j.definition j.made mine j.rest (outline acts) k k' later j.behind) in
      let since = subst (λ (n : ℕ). IsBuiltBehind n j.definition j.made own rest (plain k')) (sym told.0) behind in
      right.is_index_not_built x j.found j.definition j.table j.made rest e asking.read (asking.free (asks_change j.found x j.definition j.asks)) bound j.right j.asks j.builds since (unbuilt_plain sound j.made.at j.table (index_id_made j.made) rest k' e out) told.1

  pub build_is_over : (x : Statement) (old : BuildRun) (k k' : Known) (r : Result Made BuildFault) (a : Answered) → FitsItem sound before asked mine (state.Building x old) k
      → ((n : ℕ) → (t : TableId) → (i : IndexId) → (own : List Act) → building.FitsBuild sound n t i own old k → building.BuildTurns sound n t i own k k' (bt.Over r)) → IsBuilt asked x r a → ItemTurns sound before asked mine k k' (turn.Over a)
  build_is_over x old k k' r a f turns c =
      let j = f.state.1 in
      let t = turns j.made.at j.table (index_id_made j.made) j.rest j.fits in
      let first = built_first x r a c in
      record {
        acts = t.acts;
        ran = t.ran;
        told = (first_low asked a first, first_within asked k' a (longer k k' asked.first (of_ran k k' t.acts t.ran) f.within) first, built_told x old k k' t.acts r a f.state.0 j t.ran t.told c);
      }
