-- A doubt that was consulted is fixed.
use Rattle.std.proofs.Common.{ℕ, ◌≡◌, Option, Ok, Err, List, [], ◌∷◌, refl, subst, ◌⊎◌, inl, inr}
use Rattle.px_trail.specs.Answers.{IsAmong}
use Rattle.px_calls.specs.declared.query.Doubt.{Doubt}
use Rattle.px_calls.specs.declared.query.Fixing.{Fixing}
use Rattle.px_calls.specs.Known.{Known}
use Rattle.px_calls.specs.Calls.{DidFix}
use Rattle.px_gather.specs.Query.{Query}
use Rattle.px_scan.specs.declared.machine.QueryState.{QueryState}
use Rattle.px_scan.specs.declared.machine.QueryState.TheVariants as state
use Rattle.px_scan.specs.declared.machine.Rest.{Rest}
use Rattle.px_scan.specs.declared.machine.Scan.{Scan}
use Rattle.px_scan.specs.Turns.{AfterConsult, AfterFix, AfterWork}
use Rattle.px_scan.specs.Chains.{QueryStep, AreSteps, query_after, IsUnfaulted, AreUnfaulted, HasFix, IsDoubtSettled}

first : (d : Doubt) (o : QueryStep) (os : List QueryStep) (w : Fixing) → DidFix o.before o.after d w → HasFix d (o ∷ os)
unfolding IsAmong
first d o os w h = record { step = o; among = inl refl; answer = w; fixed = h }

later : (d e : Doubt) (o : QueryStep) (os : List QueryStep) → e ≡ d → HasFix e os → HasFix d (o ∷ os)
unfolding IsAmong
later d e o os same h = record { step = h.step; among = inr h.among; answer = h.answer; fixed = subst (λ (z : Doubt). DidFix h.step.before h.step.after z h.answer) same h.fixed }

-- the doubt of a state that is to fix it
abbrev pub IsToFix : QueryState → Doubt → Type 0
IsToFix (state.Fixing x r e) d = e ≡ d
IsToFix (state.Settling x r e) d = e ≡ d
IsToFix s d = ⊥

-- a step of such a state fixes the doubt, or is still to fix it, or ends with a fault
fixes : (d : Doubt) (o : QueryStep) (s : QueryState) → o.state ≡ s → AfterFix d o.before s o.after → IsUnfaulted s → IsToFix s d ⊎ ((w : Fixing) × DidFix o.before o.after d w)
fixes d o (state.Opening rows) is h u = inr h.1
fixes d o (state.Looking x a) is h u = inr h.1
fixes d o (state.Consulting x r e) is h u = inr h.1
fixes d o (state.Fixing x r e) is h u = inr h.1
fixes d o (state.Settling x r e) is h u = inl h
fixes d o (state.Closing x (Ok v)) is h u = inr h.1
fixes d o (state.Closing x (Err f)) is h u = absurd u
fixes d o state.Over is h u = inr h.1

pub works : (d : Doubt) (s : QueryState) → AfterWork d s → IsUnfaulted s → IsToFix s d
works d (state.Opening rows) h u = absurd h
works d (state.Looking x a) h u = absurd h
works d (state.Consulting x r e) h u = absurd h
works d (state.Fixing x r e) h u = h
works d (state.Settling x r e) h u = h
works d (state.Closing x (Ok v)) h u = absurd h
works d (state.Closing x (Err f)) h u = absurd u
works d state.Over h u = absurd h

pub fixed_at_last : (sound : Type 0) (q : Query) (scn : Option ℕ) (d : Doubt) (s : QueryState) (k : Known) (os : List QueryStep) → IsToFix s d → AreSteps sound q scn s k os → AreUnfaulted os → query_after s os ≡ state.Over → HasFix d os
fixed_at_last sound q scn d (state.Opening rows) k os t h u e = absurd t
fixed_at_last sound q scn d (state.Looking x a) k os t h u e = absurd t
fixed_at_last sound q scn d (state.Consulting x r z) k os t h u e = absurd t
fixed_at_last sound q scn d (state.Closing x end) k os t h u e = absurd t
fixed_at_last sound q scn d state.Over k os t h u e = absurd t
fixed_at_last sound q scn d (state.Fixing x r z) k [] t h u e = cc
fixed_at_last sound q scn d (state.Settling x r z) k [] t h u e = cc
fixed_at_last sound q scn d (state.Fixing x r z) k (o ∷ os) t h u e =
    elim (fixes z o o.state refl h.1.edge u.0) [
      | inl more ↦ later d z o os t (fixed_at_last sound q scn z o.state o.after os more h.2 u.1 e)
      | inr fix ↦ first d o os fix.0 (subst (λ (y : Doubt). DidFix o.before o.after y fix.0) t fix.1)
    ]
fixed_at_last sound q scn d (state.Settling x r z) k (o ∷ os) t h u e =
    later d z o os t (fixed_at_last sound q scn z o.state o.after os (works z o.state h.1.edge u.0) h.2 u.1 e)

settles : (sound : Type 0) (q : Query) (scn : Option ℕ) (x : Scan) (d : Doubt) (o : QueryStep) (os : List QueryStep) (s : QueryState) → AfterConsult sound x d o.before s o.after → IsUnfaulted s → AreSteps sound q scn s o.after os → AreUnfaulted os → query_after s os ≡ state.Over → IsDoubtSettled sound x.point d (o ∷ os)
unfolding IsAmong
settles sound q scn x d o os (state.Opening rows) h u rest v e = absurd h
settles sound q scn x d o os (state.Looking y a) h u rest v e = absurd h
settles sound q scn x d o os (state.Consulting y r z) h u rest v e = absurd h
settles sound q scn x d o os (state.Fixing y r z) h u rest v e = record {
  step = o;
  among = inl refl;
  left = z;
  held = h.0;
  consulted = h.1;
  has_fix = later z z o os refl (fixed_at_last sound q scn z (state.Fixing y r z) o.after os refl rest v e);
}
settles sound q scn x d o os (state.Settling y r z) h u rest v e = absurd h
settles sound q scn x d o os (state.Closing y (Ok w)) h u rest v e = absurd h
settles sound q scn x d o os (state.Closing y (Err f)) h u rest v e = absurd u
settles sound q scn x d o os state.Over h u rest v e = absurd h

pub settled : (sound : Type 0) (q : Query) (scn : Option ℕ) (x : Scan) (r : Rest) (d : Doubt) (k : Known) (os : List QueryStep) → AreSteps sound q scn (state.Consulting x r d) k os → AreUnfaulted os → query_after (state.Consulting x r d) os ≡ state.Over → IsDoubtSettled sound x.point d os
settled sound q scn x r d k [] h u e = cc
settled sound q scn x r d k (o ∷ os) h u e = settles sound q scn x d o os o.state h.1.edge u.0 h.2 u.1 e
