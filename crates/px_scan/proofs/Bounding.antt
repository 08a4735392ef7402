-- A query's steps are bounded by the keys that its looks find.
use Rattle.std.proofs.Common.{ℕ, suc, ◌≡◌, ◌≤◌, ◌<◌, ◌+◌, ◌*◌, Option, None, Some, Result, Vec, List, [], ◌∷◌, length, refl, subst, ap, sym, inr, arith}
use Rattle.std.specs.declared.alloc.Global.{Global}
use Rattle.px_calls.specs.declared.query.Chunk.{Chunk}
use Rattle.px_calls.specs.declared.query.Doubt.{Doubt}
use Rattle.px_calls.specs.declared.query.FoundKey.{FoundKey}
use Rattle.px_calls.specs.declared.query.Point.{Point}
use Rattle.px_calls.specs.Calls.{DidLook}
use Rattle.px_calls.specs.Known.{Known}
use Rattle.px_calls.specs.Looks.{IsSized}
use Rattle.px_scan.specs.declared.answer.Answer.{Answer}
use Rattle.px_scan.specs.declared.answer.Placed.{Placed}
use Rattle.px_scan.specs.declared.answer.QueryFault.{QueryFault}
use Rattle.px_scan.specs.declared.answer.QueryTurn.{QueryTurn}
use Rattle.px_scan.specs.declared.answer.QueryTurn.TheVariants as turn
use Rattle.px_scan.specs.declared.machine.QueryState.{QueryState}
use Rattle.px_scan.specs.declared.machine.QueryState.TheVariants as state
use Rattle.px_scan.specs.declared.machine.Rest.{Rest}
use Rattle.px_scan.specs.declared.machine.Scan.{Scan}
use Rattle.px_scan.specs.Bounds.{AreSpending, HasFound, HaveFound, Spends, counted, counted_in, left_of, through}
use Rattle.px_scan.specs.Chains.{QueryStep, query_after}
use Rattle.px_scan.specs.Turns.{IsQueryNew}

through_some : (keys : List FoundKey) (next : Option (List ℕ)) → 1 ≤ through keys next
through_some keys None = omega arith
through_some keys (Some last) = omega arith

-- 1. States that are left of a chunk

pub one_fewer : (keys rest : List FoundKey) (key : FoundKey) → keys ≡ key ∷ rest → length rest < length keys
one_fewer keys rest key is = let e : length keys ≡ suc (length rest) = ap (λ (l : List FoundKey). length l) is in omega arith

pub closing_left : (s : QueryState) (p : Point) (end : Result (Vec Placed Global) QueryFault) (keys : List FoundKey) (next : Option (List ℕ)) → s ≡ state.Closing p end → left_of s ≤ through keys next
closing_left s p end keys next is = subst (λ (z : QueryState). left_of z ≤ through keys next) (sym is) (through_some keys next)

pub looking_left : (keys : List FoundKey) (next : Option (List ℕ)) (last : List ℕ) → next ≡ Some last → 2 ≤ through keys next
looking_left keys next last is = subst (λ (n : Option (List ℕ)). 2 ≤ through keys n) (sym is) (omega arith)

pub consulting_left : (old new : List FoundKey) (next : Option (List ℕ)) → length new < length old → 2 + through new next ≤ through old next
consulting_left old new next fewer = omega arith

-- 2. Steps

counted_most : (old new : QueryState) (t : QueryTurn) → counted old new t ≤ 1
counted_most (state.Opening rows) new turn.Stepped = omega arith
counted_most (state.Opening rows) new (turn.Waiting stamp) = omega arith
counted_most (state.Opening rows) new (turn.Over r) = omega arith
counted_most (state.Looking x after) new t = omega arith
counted_most (state.Consulting x rest d) new t = omega arith
counted_most (state.Fixing x rest d) (state.Opening rows) t = omega arith
counted_most (state.Fixing x rest d) (state.Looking y after) t = omega arith
counted_most (state.Fixing x rest d) (state.Consulting y r e) t = omega arith
counted_most (state.Fixing x rest d) (state.Fixing y r e) t = omega arith
counted_most (state.Fixing x rest d) (state.Settling y r e) t = omega arith
counted_most (state.Fixing x rest d) (state.Closing p end) t = omega arith
counted_most (state.Fixing x rest d) state.Over t = omega arith
counted_most (state.Settling x rest d) new t = omega arith
counted_most (state.Closing p end) new t = omega arith
counted_most state.Over new t = omega arith

pub spends_end : (sound : Type 0) (old : QueryState) (k : Known) (new : QueryState) (k' : Known) (t : QueryTurn) (p : Point) (end : Result (Vec Placed Global) QueryFault)
    → new ≡ state.Closing p end → HasFound sound old k k' 0 → 2 ≤ left_of old → Spends sound old k new k' t
spends_end sound old k new k' t p end is found le =
    let most = counted_most old new t in
    let one : left_of new ≡ 1 = ap left_of is in
    record { keys = 0; found = found; left = omega arith }

pub spends_opening : (sound : Type 0) (k k' : Known) (rows : Vec Placed Global) (new : QueryState) → left_of new ≤ 2 → Spends sound (state.Opening rows) k new k' turn.Stepped
spends_opening sound k k' rows new le = record { keys = 0; found = refl; left = omega arith }

pub spends_waiting : (sound : Type 0) (k k' : Known) (rows : Vec Placed Global) (stamp : ℕ) → Spends sound (state.Opening rows) k (state.Opening rows) k' (turn.Waiting stamp)
spends_waiting sound k k' rows stamp = record { keys = 0; found = refl; left = omega arith }

pub spends_unopened : (sound : Type 0) (k k' : Known) (rows : Vec Placed Global) (r : Result Answer QueryFault) → Spends sound (state.Opening rows) k state.Over k' (turn.Over r)
spends_unopened sound k k' rows r = record { keys = 0; found = refl; left = omega arith }

pub spends_consulting : (sound : Type 0) (k k' : Known) (x y : Scan) (rest : Rest) (d e : Doubt) → Spends sound (state.Consulting x rest d) k (state.Fixing y rest e) k' turn.Stepped
spends_consulting sound k k' x y rest d e = record { keys = 0; found = refl; left = omega arith }

pub spends_fixing : (sound : Type 0) (k k' : Known) (x : Scan) (rest : Rest) (d : Doubt) (new : QueryState) → left_of new ≤ through rest.keys.items rest.next → Spends sound (state.Fixing x rest d) k new k' turn.Stepped
spends_fixing sound k k' x rest d new le =
    let most = counted_most (state.Fixing x rest d) new turn.Stepped in
    record { keys = 0; found = refl; left = omega arith }

pub spends_refused : (sound : Type 0) (k k' : Known) (x y : Scan) (rest : Rest) (d e : Doubt) → Spends sound (state.Fixing x rest d) k (state.Settling y rest e) k' turn.Stepped
spends_refused sound k k' x y rest d e = record { keys = 0; found = refl; left = omega arith }

pub spends_settling : (sound : Type 0) (k k' : Known) (x y : Scan) (rest : Rest) (d e : Doubt) → Spends sound (state.Settling x rest d) k (state.Settling y rest e) k' turn.Stepped
spends_settling sound k k' x y rest d e = record { keys = 0; found = refl; left = omega arith }

pub spends_settled : (sound : Type 0) (k k' : Known) (x y : Scan) (rest : Rest) (d e : Doubt) → Spends sound (state.Settling x rest d) k (state.Fixing y rest e) k' turn.Stepped
spends_settled sound k k' x y rest d e = record { keys = 0; found = refl; left = omega arith }

pub spends_closing : (sound : Type 0) (k k' : Known) (p : Point) (end : Result (Vec Placed Global) QueryFault) (r : Result Answer QueryFault) → Spends sound (state.Closing p end) k state.Over k' (turn.Over r)
spends_closing sound k k' p end r = record { keys = 0; found = refl; left = omega arith }

pub at_least : (x : Scan) (rest : Rest) (d : Doubt) → 2 ≤ left_of (state.Fixing x rest d)
at_least x rest d = let some = through_some rest.keys.items rest.next in omega arith

-- what comes behind a chunk that was found
pub through_chunk : (keys : List FoundKey) (next : Option (List ℕ)) → IsSized keys next → through keys next + 1 ≤ 2 + 3 * length keys
through_chunk keys None sized = omega arith
through_chunk keys (Some last) sized = omega arith

-- a look of which this many steps are left
pub spends_look : (sound : Type 0) (k k' : Known) (x : Scan) (after : Option (List ℕ)) (c : Chunk) (keys : List FoundKey) (next : Option (List ℕ)) (new : QueryState)
    → keys ≡ c.found → next ≡ c.next → DidLook sound k k' x.point x.path after c → left_of new ≤ through keys next
    → Spends sound (state.Looking x after) k new k' turn.Stepped
spends_look sound k k' x after c keys next new keys_are next_is did le =
    let sized : IsSized keys next = subst (λ (n : Option (List ℕ)). IsSized keys n) (sym next_is) (subst (λ (ks : List FoundKey). IsSized ks c.next) (sym keys_are) did.shows.sized) in
    let most = through_chunk keys next sized in
    record {
      keys = length keys;
      found = inr (c, did, ap (λ (ks : List FoundKey). length ks) keys_are);
      left = omega arith;
    }

-- 3. Steps, one after another

pub bounded : (sound : Type 0) (s : QueryState) (os : List QueryStep) → AreSpending sound s os
    → (n : ℕ) × HaveFound sound s os n × (counted_in s os + left_of (query_after s os) ≤ left_of s + 3 * n)
bounded sound s [] h = (0, refl, omega arith)
bounded sound s (o ∷ os) h =
    let one = h.0.left in
    let rest = bounded sound o.state os h.1 in
    let others = rest.2 in
    (h.0.keys + rest.0, (h.0.keys, rest.0, h.0.found, rest.1, refl), omega arith)

pub at_most : (sound : Type 0) (s : QueryState) (os : List QueryStep) → IsQueryNew s → AreSpending sound s os
    → (n : ℕ) × HaveFound sound s os n × (counted_in s os ≤ 3 + 3 * n)
at_most sound (state.Opening rows) os new h =
    let most = bounded sound (state.Opening rows) os h in
    let le = most.2 in
    (most.0, most.1, omega arith)
at_most sound (state.Looking x after) os new h = absurd new
at_most sound (state.Consulting x rest d) os new h = absurd new
at_most sound (state.Fixing x rest d) os new h = absurd new
at_most sound (state.Settling x rest d) os new h = absurd new
at_most sound (state.Closing p end) os new h = absurd new
at_most sound state.Over os new h = absurd new
