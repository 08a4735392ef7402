-- Others' entries between two steps leave a build as it is.
use Rattle.std.proofs.Common.{ℕ, ◌≤◌, List, [], length, sym, subst}
use Rattle.px_values.specs.declared.name.IndexId.{IndexId}
use Rattle.px_values.specs.declared.name.TableId.{TableId}
use Rattle.px_trail.specs.declared.entry.Act.{Act}
use Rattle.px_calls.specs.declared.definition.Definition.TheVariants as d
use Rattle.px_calls.specs.declared.query.Point.{Point}
use Rattle.px_calls.specs.Known.{Known, TimePasses}
use Rattle.px_calls.specs.Requires.{IsDrawn}
use Rattle.px_upkeep.specs.declared.build.BuildRun.{BuildRun}
use Rattle.px_upkeep.specs.declared.build.BuildState.{BuildState}
use Rattle.px_upkeep.specs.declared.build.BuildState.TheVariants as s
use Rattle.px_upkeep.specs.declared.build.Next.{Next}
use Rattle.px_upkeep.specs.declared.build.Next.TheVariants as next
use Rattle.px_upkeep.specs.Turns.{FitsBuild, FitsState, FollowsClosing, IsBuildNew, IsState}
use Rattle.px_upkeep.proofs.Ending.{defining-stays}
use Rattle.px_upkeep.proofs.Growing.{Grown, base-stays, grown-passes, held-stays}
use Rattle.px_upkeep.proofs.Later.{active-later, asked-later, no-tries, past-passes, refused-later}
use Rattle.px_upkeep.proofs.Reading.{basing-stays, reading-stays}

module _ (sound : Type 0) (n : ℕ) (t : TableId) (i : IndexId) (own : List Act) (k k' : Known) (h : TimePasses k k') where
  follows : (p : Point) (x : Next) → FollowsClosing sound n t i p x k own → FollowsClosing sound n t i p x k' own
  follows p (next.Again birth) f = f
  follows p next.Renew f = f
  follows p (next.Active m) f = (f.0, active-later n t.0 i.0 m k k' (past-passes k k' h) f.1, f.2)
  follows p (next.Failed g) f = (refused-later sound n t.0 i.0 g k k' (past-passes k k' h) f.0, f.1)
  follows p (next.Refused g) f = (refused-later sound n t.0 i.0 g k k' (past-passes k k' h) f.0, f.1)

  grown : Grown k k'
  grown = grown-passes k k' h

  state_on : (x : BuildState) → IsState sound n t i own x k → IsState sound n t i own x k'
  state_on (s.Opening birth) f = f
  state_on (s.Renewing r) f = (f.0, defining-stays sound (d.Rebuilding t i) r k k' h f.1)
  state_on (s.Reading b after g) f = (f.0, reading-stays sound n t i b after g.chunks k k' grown f.1)
  state_on (s.Basing b xs more last) f = (f.0, basing-stays sound n t i b xs more last k k' grown f.1)
  state_on (s.Settling b xs more last) f = (f.0, basing-stays sound n t i b xs more last k k' grown f.1)
  state_on (s.Activating p r) f = (
    f.0,
    record {
      held = held-stays k k' t p grown f.1.held;
      birth = base-stays sound k k' p i.0 [] grown f.1.held.is_open f.1.birth;
      defining = defining-stays sound (d.Active t i) r k k' h f.1.defining;
    },
  )
  state_on (s.Closing p x) f = (held-stays k k' t p grown f.0, follows p x f.1)
  state_on (s.Disabling r g) f = (f.0, defining-stays sound (d.Disabled t i) r k k' h f.1, refused-later sound n t.0 i.0 g k k' (past-passes k k' h) f.2)

pub fits-kept : (sound : Type 0) (n : ℕ) (t : TableId) (i : IndexId) (own : List Act) (r : BuildRun) (k k' : Known) → TimePasses k k' → FitsBuild sound n t i own r k → FitsBuild sound n t i own r k'
fits-kept sound n t i own r k k' h f = record { table = f.table; index = f.index; state = record { asked = asked-later n t i k k' (past-passes k k' h) f.state.asked; is = state_on sound n t i own k k' h r.state f.state.is } }

-- a run that has made no step
pub starts : (sound : Type 0) (n : ℕ) (t : TableId) (i : IndexId) (r : BuildRun) (k : Known) → n ≤ length k.seen → IsDrawn k t.0 → IsDrawn k i.0 → IsBuildNew t i r → FitsBuild sound n t i [] r k
starts sound n t i r k from table index new = record {
  table = new.table;
  index = new.index;
  state = subst (λ (x : BuildState). FitsState sound n t i [] x k) (sym new.state) (record { asked = record { from = from; table = table; index = index }; is = no-tries t i });
}
