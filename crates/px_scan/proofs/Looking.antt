-- The rows that a query by an index looks at are bounded by the doubts that it finds.
use Rattle.std.proofs.Common.{ℕ, Bool, ◌≡◌, ◌≤◌, ◌<◌, ◌+◌, ◌*◌, Option, Result, Vec, List, [], ◌∷◌, refl, ◌∙◌, ap, inr, arith}
use Rattle.std.specs.declared.alloc.Global.{Global}
use Rattle.px_calls.specs.declared.query.Chunk.{Chunk}
use Rattle.px_calls.specs.declared.query.Doubt.{Doubt}
use Rattle.px_calls.specs.declared.query.FoundKey.{FoundKey}
use Rattle.px_calls.specs.declared.query.FoundKey.TheVariants.{InDoubt, Sure}
use Rattle.px_calls.specs.declared.query.FoundRow.{FoundRow}
use Rattle.px_calls.specs.declared.query.Point.{Point}
use Rattle.px_calls.specs.Calls.{DidLook}
use Rattle.px_calls.specs.Doubtful.{AreDoubtful, IndexVersion}
use Rattle.px_calls.specs.Known.{Known}
use Rattle.px_scan.specs.declared.answer.Placed.{Placed}
use Rattle.px_scan.specs.declared.answer.QueryFault.{QueryFault}
use Rattle.px_scan.specs.declared.machine.QueryState.{QueryState}
use Rattle.px_scan.specs.declared.machine.QueryState.TheVariants as state
use Rattle.px_scan.specs.declared.machine.Rest.{Rest}
use Rattle.px_scan.specs.declared.machine.Scan.{Scan}
use Rattle.px_scan.specs.Chains.{QueryStep, query_after}
use Rattle.px_scan.specs.Looking.{AreLooking, HasFoundDoubts, HaveFoundDoubts, Looks, asked_by, doubts_in, looked_after, refused_in, to_look}
use Rattle.px_scan.specs.Turns.{IsQueryNew}

-- 1. Doubts that are left of a chunk

pub sure_doubts : (most : ℕ) (keys rest : List FoundKey) (key : FoundKey) (f : FoundRow) → doubts_in keys ≤ most → keys ≡ key ∷ rest → key ≡ Sure f → doubts_in rest ≤ most
sure_doubts most keys rest key f le is sure =
    let e : doubts_in keys ≡ doubts_in rest = ap doubts_in is ∙ ap (λ (x : FoundKey). doubts_in (x ∷ rest)) sure in
    omega arith

pub one_doubt : (most : ℕ) (keys rest : List FoundKey) (key : FoundKey) (d : Doubt) → doubts_in keys ≤ most → keys ≡ key ∷ rest → key ≡ InDoubt d → doubts_in rest < most
one_doubt most keys rest key d le is doubt =
    let e : doubts_in keys ≡ 1 + doubts_in rest = ap doubts_in is ∙ ap (λ (x : FoundKey). doubts_in (x ∷ rest)) doubt in
    omega arith

pub closing_look : (s : QueryState) (p : Point) (end : Result (Vec Placed Global) QueryFault) (n : ℕ) → s ≡ state.Closing p end → to_look s ≤ n
closing_look s p end n is = (let e : to_look s ≡ 0 = ap to_look is in omega arith)

pub consulting_look : (new old : ℕ) → new < old → 2 + 2 * new ≤ 2 * old
consulting_look new old fewer = omega arith

-- 2. Steps

-- one that looks at no row, and leaves no more to be looked at
pub looks_none : (sound : Type 0) (old : QueryState) (k : Known) (m : ℕ) (new : QueryState) (k' : Known) (n : ℕ) (f : Point → IndexVersion → Bool) → HasFoundDoubts sound old k k' f 0 → n ≡ m → to_look new ≤ to_look old → Looks sound old k m new k' n f
looks_none sound old k m new k' n f found same le = record { asked = omega arith; doubts = 0; found = found; left = omega arith }

-- one that may look at one row, which was to be looked at
pub looks_one : (sound : Type 0) (old : QueryState) (k : Known) (m : ℕ) (new : QueryState) (k' : Known) (n : ℕ) (f : Point → IndexVersion → Bool) → HasFoundDoubts sound old k k' f 0 → n ≤ m + 1 → asked_by old ≡ 1 → to_look new + 1 ≤ to_look old → Looks sound old k m new k' n f
looks_one sound old k m new k' n f found once one le = record { asked = omega arith; doubts = 0; found = found; left = omega arith }

-- a refused repair
pub looks_refused : (sound : Type 0) (k : Known) (m : ℕ) (k' : Known) (n : ℕ) (f : Point → IndexVersion → Bool) (x y : Scan) (rest : Rest) (d e : Doubt) → n ≤ m + 1 → Looks sound (state.Fixing x rest d) k m (state.Settling y rest e) k' n f
looks_refused sound k m k' n f x y rest d e once = record { asked = omega arith; doubts = 0; found = refl; left = omega arith }

-- a look of which these keys are gone through
pub looks_chunk : (sound : Type 0) (k : Known) (m : ℕ) (k' : Known) (n : ℕ) (f : Point → IndexVersion → Bool) (x : Scan) (after : Option (List ℕ)) (c : Chunk) (keys : List FoundKey) (new : QueryState)
    → keys ≡ c.found → DidLook sound k k' x.point x.path after c → (sound → AreDoubtful f x.point c.found) → n ≡ m → to_look new ≤ 2 * doubts_in keys → Looks sound (state.Looking x after) k m new k' n f
looks_chunk sound k m k' n f x after c keys new keys_are did doubtful same le =
    let e : doubts_in keys ≡ doubts_in c.found = ap doubts_in keys_are in
    record { asked = omega arith; doubts = doubts_in c.found; found = inr (c, did, doubtful, refl); left = omega arith }

-- 3. Steps, one after another

pub bounded : (sound : Type 0) (m : ℕ) (s : QueryState) (os : List QueryStep) → AreLooking sound m s os
    → (d : ℕ) × HaveFoundDoubts sound s os d × (looked_after m os + to_look (query_after s os) ≤ m + to_look s + 2 * d + refused_in s os)
bounded sound m s [] h = (0, refl, omega arith)
bounded sound m s (o ∷ os) h =
    let one = h.0.left in
    let rest = bounded sound o.looked o.state os h.1 in
    let others = rest.2 in
    (h.0.doubts + rest.0, (h.0.doubts, rest.0, h.0.found, rest.1, refl), omega arith)

pub at_most : (sound : Type 0) (m : ℕ) (s : QueryState) (os : List QueryStep) → IsQueryNew s → AreLooking sound m s os
    → (d : ℕ) × HaveFoundDoubts sound s os d × (looked_after m os ≤ m + 2 * d + refused_in s os)
at_most sound m (state.Opening rows) os new h =
    let most = bounded sound m (state.Opening rows) os h in
    let le = most.2 in
    (most.0, most.1, omega arith)
at_most sound m (state.Looking x after) os new h = absurd new
at_most sound m (state.Consulting x rest d) os new h = absurd new
at_most sound m (state.Fixing x rest d) os new h = absurd new
at_most sound m (state.Settling x rest d) os new h = absurd new
at_most sound m (state.Closing p end) os new h = absurd new
at_most sound m state.Over os new h = absurd new
