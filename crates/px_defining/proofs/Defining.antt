-- The steps of a definition, arm by arm, over what a seat knows.
use Rattle.std.proofs.Common.{ℕ, ◌≡◌, ◌≤◌, ◌+◌, Ok, Err, List, [], ◌∷◌, length, drop, refl, ◌∙◌, ap, arith, length-append, ◌⊎◌, inl, inr}
use Rattle.px_trail.specs.declared.entry.Act.{Act}
use Rattle.px_trail.specs.declared.entry.Act.TheVariants as act
use Rattle.px_trail.specs.Answers.{IsAmong}
use Rattle.px_trail.specs.Trail.{acts_by}
use Rattle.px_values.specs.declared.name.TableId.{TableId}
use Rattle.px_calls.specs.declared.definition.Definition.{Definition}
use Rattle.px_calls.specs.declared.definition.Definition.TheVariants as d
use Rattle.px_calls.specs.declared.definition.Made.{Made}
use Rattle.px_calls.specs.declared.fault.StepFault.{StepFault}
use Rattle.px_calls.specs.declared.fault.StepFault.TheVariants as step
use Rattle.px_calls.specs.Known.{Known, TimePasses, Sees, Adds, Ran, HasMade, outline}
use Rattle.px_calls.specs.Causes.{Refuses, define_cause, upkeep_cause}
use Rattle.px_calls.specs.Calls.{DidDefine, Finds, act_of}
use Rattle.px_calls.specs.Requires.{CanDefine}
use Rattle.px_calls.proofs.Activates.{passes-define}
use Rattle.px_calls.proofs.Runs.{ran-adds, ran-made, ran-sees}
use Rattle.px_calls.proofs.Stays.{ran-since}
use Rattle.px_defining.proofs.Rising.{rises-define}
use Rattle.px_defining.specs.declared.define.DefineFault.{DefineFault}
use Rattle.px_defining.specs.declared.define.DefineFault.TheVariants as fault
use Rattle.px_defining.specs.declared.define.DefineState.{DefineState}
use Rattle.px_defining.specs.declared.define.DefineState.TheVariants as state
use Rattle.px_defining.specs.declared.define.DefineTurn.TheVariants as turn
use Rattle.px_defining.specs.Turns.{DefinitionFaultIs, DefinitionFaultSince, DefinitionTurns, FitsDefinition, fault_of, state_after, turn_after}

-- 1. Places

pub grown : (k k' : Known) (acts : List Act) (n : ℕ) → Ran k k' acts → n ≤ length k.seen → n ≤ length k'.seen
grown k k' acts n h low =
    let e : length k'.seen ≡ length k.seen + length h.added = ap length h.seen ∙ length-append k.seen h.added in
    omega arith

-- the call's own act is one of the seat's
made : (k k' : Known) (a : Act) → Adds k k' a → HasMade k' a
unfolding IsAmong
made k k' a h = ran-made k k' (a ∷ []) a (ran-adds k k' a h) (inl (inl refl))

made_since : (k k' : Known) (a : Act) (n : ℕ) → Adds k k' a → n ≤ length k.seen → IsAmong a (acts_by k'.seat (drop n k'.seen))
unfolding IsAmong
made_since k k' a n h low = ran-since k k' (a ∷ []) a n low (ran-adds k k' a h) (inl refl)

module _ (sound : Type 0) where
  -- 2. Definitions

  -- each entry of a definition is one of those that an outline keeps
  outlined : (x : Definition) (m : Made) → outline (act_of x m ∷ []) ≡ act_of x m ∷ []
  outlined (d.Table what) m = refl
  outlined (d.Index what) m = refl
  outlined (d.Active t i) m = refl
  outlined (d.Disabled t i) m = refl
  outlined (d.Rebuilding t i) m = refl
  outlined (d.DropTable t) m = refl
  outlined (d.DropIndex t i) m = refl

  pub defines : (k k' : Known) (x : Definition) (m : Made) → DidDefine k k' x m → DefinitionTurns sound x state.Defining k state.Over k' (turn.Over (Ok m))
  defines k k' x m h =
      let r = ran-adds k k' (act_of x m) h.adds in
      record {
        acts = act_of x m ∷ [];
        ran = r;
        fits = tt;
        told = (refl, record { one = outlined x m; made = h.made; at = h.at });
        since = λ n low. (let g = grown k k' _ n r low in let at = h.at in omega arith);
        adds = h.adds;
      }

  -- a refusal that adds nothing
  plain : (k k' : Known) (x : Definition) (old : DefineState) (f : DefineFault) → ((n : ℕ) → DefinitionFaultSince n f k') → DefinitionFaultIs sound x f k' → Sees k k' → DefinitionTurns sound x old k state.Over k' (turn.Over (Err f))
  plain k k' x old f since told h = record { acts = []; ran = ran-sees k k' h; fits = tt; told = (refl, (told, refl)); since = λ n low. since n; adds = tt }

  shuts : (k k' : Known) (x : Definition) (old : DefineState) → ((call : ℕ) × Adds k k' (act.Shut call)) → DefinitionTurns sound x old k state.Over k' (turn.Over (Err fault.WriteFault))
  shuts k k' x old h =
      record {
        acts = act.Shut h.0 ∷ [];
        ran = ran-adds k k' (act.Shut h.0) h.1;
        fits = tt;
        told = (refl, ((h.0, made k k' (act.Shut h.0) h.1), refl));
        since = λ n low. (h.0, made_since k k' (act.Shut h.0) n h.1 low);
        adds = tt;
      }

  misses : (k k' : Known) (x : Definition) (old : DefineState) → ((call : ℕ) × Adds k k' (act.Missed call)) → DefinitionTurns sound x old k state.Over k' (turn.Over (Err fault.ReadFault))
  misses k k' x old h =
      record {
        acts = act.Missed h.0 ∷ [];
        ran = ran-adds k k' (act.Missed h.0) h.1;
        fits = tt;
        told = (refl, ((h.0, made k k' (act.Missed h.0) h.1), refl));
        since = λ n low. (h.0, made_since k k' (act.Missed h.0) n h.1 low);
        adds = tt;
      }

  -- no definition is refused so
  no_read : (x : Definition) (k : Known) → define_cause x step.ReadFault k → ⊥
  no_read (d.Table what) k h = h
  no_read (d.Index what) k h = h
  no_read (d.Active t i) k h = h
  no_read (d.Disabled t i) k h = h
  no_read (d.Rebuilding t i) k h = h
  no_read (d.DropTable t) k h = h
  no_read (d.DropIndex t i) k h = h

  no_damage : (x : Definition) (k : Known) (file place : ℕ) → define_cause x (step.Damaged file place) k → ⊥
  no_damage (d.Table what) k file place h = h
  no_damage (d.Index what) k file place h = h
  no_damage (d.Active t i) k file place h = h
  no_damage (d.Disabled t i) k file place h = h
  no_damage (d.Rebuilding t i) k file place h = h
  no_damage (d.DropTable t) k file place h = h
  no_damage (d.DropIndex t i) k file place h = h

  pub refuses : (k k' : Known) (x : Definition) (f : StepFault) → CanDefine sound k x → Refuses (define_cause x) k k' f → DefinitionTurns sound x state.Defining k (state_after f) k' (turn_after f)
  refuses k k' x step.NameExists can h = plain k k' x state.Defining fault.NameExists (λ n. tt) h.0 h.1
  refuses k k' x step.NoTable can h = plain k k' x state.Defining fault.NoTable (λ n. tt) h.0 h.1
  refuses k k' x step.NoIndex can h = plain k k' x state.Defining fault.NoIndex (λ n. tt) h.0 h.1
  refuses k k' x (step.Limit which count) can h = plain k k' x state.Defining (fault.Limit which count) (λ n. tt) h.0 h.1
  refuses k k' x (step.Busy region cells bytes) can h = plain k k' x state.Defining fault.Memory (λ n. tt) tt h.1
  refuses k k' x (step.NotReady region) can h =
      let r = ran-sees k k' h.1 in
      record { acts = []; ran = r; fits = passes-define sound k k' x h.1.passes can; told = (tt, refl); since = λ n low. grown k k' _ n r low; adds = tt }
  refuses k k' x (step.InUse count) can h =
      let r = ran-sees k k' h.1 in
      record { acts = []; ran = r; fits = passes-define sound k k' x h.1.passes can; told = (tt, refl, h.0); since = λ n low. grown k k' _ n r low; adds = tt }
  refuses k k' x (step.NotYet stamp) can h = plain k k' x state.Defining fault.Memory (λ n. tt) tt h.1
  refuses k k' x (step.BelowHorizon horizon) can h = plain k k' x state.Defining fault.Memory (λ n. tt) tt h.1
  refuses k k' x step.ReadFault can h = misses k k' x state.Defining h.1
  refuses k k' x step.WriteFault can h = shuts k k' x state.Defining h.1
  refuses k k' x (step.Damaged file place) can h = absurd (no_damage x k' file place h.0)
  refuses k k' x (step.Closed call) can h = plain k k' x state.Defining (fault.Closed call) (λ n. tt) h.0 h.1
  refuses k k' x step.Memory can h = plain k k' x state.Defining fault.Memory (λ n. tt) tt h.1

  -- 3. Upkeep

  -- a horizon that rises changes no table, no index and no row's state that a definition asks for
  raised : (k k' : Known) (x : Definition) (t : TableId) (h : ℕ) → Adds k k' (act.Raised t h) → CanDefine sound k x → CanDefine sound k' x
  raised k k' x t h a can = rises-define sound a.between k' x t h a.extends (passes-define sound k a.between x a.sees.passes can)

  pub works : (k k' : Known) (x : Definition) → CanDefine sound k x → Finds k k' ⊎ ((t : TableId) × (h : ℕ) × Adds k k' (act.Raised t h)) → DefinitionTurns sound x state.Settling k state.Settling k' turn.Stepped
  works k k' x can (inl h) = let r = ran-sees k k' h.sees in record { acts = []; ran = r; fits = passes-define sound k k' x h.sees.passes can; told = (tt, refl); since = λ n low. grown k k' _ n r low; adds = tt }
  works k k' x can (inr h) = let r = ran-adds k k' (act.Raised h.0 h.1) h.2 in record { acts = act.Raised h.0 h.1 ∷ []; ran = r; fits = raised k k' x h.0 h.1 h.2 can; told = (tt, refl); since = λ n low. grown k k' _ n r low; adds = tt }

  pub idles : (k k' : Known) (x : Definition) → CanDefine sound k x → Finds k k' → DefinitionTurns sound x state.Settling k state.Defining k' turn.Stepped
  idles k k' x can h = let r = ran-sees k k' h.sees in record { acts = []; ran = r; fits = passes-define sound k k' x h.sees.passes can; told = (tt, refl); since = λ n low. grown k k' _ n r low; adds = tt }

  pub upkeep_refuses : (k k' : Known) (x : Definition) (f : StepFault) → Refuses (upkeep_cause sound) k k' f → DefinitionTurns sound x state.Settling k state.Over k' (turn.Over (Err (fault_of f)))
  upkeep_refuses k k' x step.ReadFault h = misses k k' x state.Settling h.1
  upkeep_refuses k k' x step.WriteFault h = shuts k k' x state.Settling h.1
  upkeep_refuses k k' x (step.Damaged file place) h = plain k k' x state.Settling (fault.Damaged file place) (λ n. tt) h.0 h.1
  upkeep_refuses k k' x (step.Closed call) h = plain k k' x state.Settling (fault.Closed call) (λ n. tt) h.0 h.1
  upkeep_refuses k k' x step.Memory h = plain k k' x state.Settling fault.Memory (λ n. tt) tt h.1
  upkeep_refuses k k' x step.NameExists h = absurd h.0
  upkeep_refuses k k' x step.NoTable h = absurd h.0
  upkeep_refuses k k' x step.NoIndex h = absurd h.0
  upkeep_refuses k k' x (step.Limit which count) h = absurd h.0
  upkeep_refuses k k' x (step.Busy region cells bytes) h = absurd h.0
  upkeep_refuses k k' x (step.NotReady region) h = absurd h.0
  upkeep_refuses k k' x (step.InUse count) h = absurd h.0
  upkeep_refuses k k' x (step.NotYet stamp) h = absurd h.0
  upkeep_refuses k k' x (step.BelowHorizon horizon) h = absurd h.0

  -- 4. Between two steps

  pub fits-kept : (x : Definition) (s : DefineState) (k k' : Known) → TimePasses k k' → FitsDefinition sound x s k → FitsDefinition sound x s k'
  fits-kept x state.Defining k k' h f = passes-define sound k k' x h f
  fits-kept x state.Settling k k' h f = passes-define sound k k' x h f
  fits-kept x state.Over k k' h f = tt
