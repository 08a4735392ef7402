-- That each doubt which a query consults, and which isn't to be left, is fixed where nobody else acts.
use Rattle.std.specs.Prelude.{ℕ, ◌≡◌, ◌≢◌, Bool, true, Option, Some, Err, List, [], ◌∷◌}
use Rattle.px_trail.specs.declared.entry.Act.TheVariants as act
use Rattle.px_trail.specs.Answers.{IsAmong}
use Rattle.px_calls.specs.declared.query.Doubt.{Doubt}
use Rattle.px_calls.specs.declared.query.FoundKey.{FoundKey}
use Rattle.px_calls.specs.declared.query.Point.{Point}
use Rattle.px_calls.specs.declared.query.Verdict.TheVariants.{Leave}
use Rattle.px_calls.specs.Calls.{IsInFlight}
use Rattle.px_calls.specs.Doubtful.{AreDoubtful, IndexVersion, version_of}
use Rattle.px_calls.specs.Known.{Adds, Known}
use Rattle.px_calls.specs.Looks.{IsRisingFrom}
use Rattle.px_scan.specs.declared.keys.Stop.{Stop}
use Rattle.px_scan.specs.declared.keys.Stop.TheVariants as stop
use Rattle.px_scan.specs.declared.machine.QueryState.{QueryState}
use Rattle.px_scan.specs.declared.machine.QueryState.TheVariants as state
use Rattle.px_scan.specs.Chains.{QueryStep}

-- keys that rise from one on, of which each doubt is of a version that is in doubt
abbrev pub AreRisingDoubts : (Point → IndexVersion → Bool) → Point → Option (List ℕ) → List FoundKey → Type 0
AreRisingDoubts f p low keys = IsRisingFrom low keys × AreDoubtful f p keys

-- a doubt is of a version that is in doubt, and keys behind it are such
abbrev pub IsDoubtful : (Point → IndexVersion → Bool) → Point → Doubt → List FoundKey → Type 0
IsDoubtful f p d keys = (f p (version_of d) ≡ true) × AreRisingDoubts f p (Some d.key) keys

-- where the sure keys end at a doubt
abbrev pub StopsDoubtful : (Point → IndexVersion → Bool) → Point → List FoundKey → Stop → Type 0
StopsDoubtful f p keys (stop.Doubt d) = IsDoubtful f p d keys
StopsDoubtful f p keys s = Unit {0}

-- unless its verdict is to leave it, the doubt's change isn't in flight
abbrev pub IsDue : Known → Doubt → Type 0
IsDue k d = d.verdict ≢ Some Leave → IsInFlight k.base k.seen d → ⊥

-- the doubts that are left of a chunk are of versions that are in doubt at the point, and one that was consulted is due unless it is to be left
abbrev pub HasDoubts : (Point → IndexVersion → Bool) → Known → QueryState → Type 0
HasDoubts f k (state.Consulting x rest d) = IsDoubtful f x.point d rest.keys.items
HasDoubts f k (state.Fixing x rest d) = IsDoubtful f x.point d rest.keys.items × IsDue k d
HasDoubts f k (state.Settling x rest d) = IsDoubtful f x.point d rest.keys.items × IsDue k d
HasDoubts f k s = Unit {0}

-- A step that repairs a doubt adds its entry, unless the repair is refused, the query ends with a fault, or the doubt is to be left
abbrev pub IsFixedBy : QueryState → Known → QueryState → Known → Type 0
IsFixedBy (state.Fixing x rest d) k (state.Settling y rest' e) k' = Unit {0}
IsFixedBy (state.Fixing x rest d) k (state.Closing p (Err f)) k' = Unit {0}
IsFixedBy (state.Fixing x rest d) k new k' = d.verdict ≢ Some Leave → Adds k k' (act.Fixed d.index d.key)
IsFixedBy s k new k' = Unit {0}

-- a step before and after which these versions are in doubt
pub record KeepsDoubts (old : QueryState) (k : Known) (f : Point → IndexVersion → Bool) (new : QueryState) (k' : Known) (f' : Point → IndexVersion → Bool) : Type 0 where
  pub kept : HasDoubts f k old → HasDoubts f' k' new
  pub fixed : HasDoubts f k old → IsFixedBy old k new k'

-- each of the steps is one of a query, with no step of others between them
abbrev pub AreKeepingDoubts : Known → (Point → IndexVersion → Bool) → QueryState → List QueryStep → Type 0
AreKeepingDoubts k f s [] = Unit {0}
AreKeepingDoubts k f s (o ∷ os) = (o.before ≡ k) × KeepsDoubts s o.before f o.state o.after o.doubtful × AreKeepingDoubts o.after o.doubtful o.state os

-- one of the steps added the entry of the doubt's repair
pub record HasFixedEntry (d : Doubt) (os : List QueryStep) : Type 0 where
  pub step : QueryStep
  pub among : IsAmong step os
  pub adds : Adds step.before step.after (act.Fixed d.index d.key)

-- where a step consulted a doubt, one of these has the entry of its repair, unless it is to be left
abbrev pub IsFixedLater : QueryState → QueryState → List QueryStep → Type 0
IsFixedLater (state.Consulting x rest d) (state.Fixing y rest' e) os = e.verdict ≢ Some Leave → HasFixedEntry e os
IsFixedLater old new os = Unit {0}

-- so is each doubt that the steps consulted
abbrev pub AreFixed : QueryState → List QueryStep → Type 0
AreFixed s [] = Unit {0}
AreFixed s (o ∷ os) = IsFixedLater s o.state os × AreFixed o.state os
