-- Between the steps of a DELETE, and the whole of it.
use Rattle.std.proofs.Common.{ℕ, ◌∙◌, Option, None, List, ◌++◌, length, sym, subst}
use Rattle.px_values.specs.declared.change.Change.{Change}
use Rattle.px_tables.specs.declared.table.Table.{Table}
use Rattle.px_expr.specs.declared.bound.Bound.{Bound}
use Rattle.px_trail.specs.declared.entry.Act.{Act}
use Rattle.px_calls.specs.Known.{Known, TimePasses, outline}
use Rattle.px_calls.proofs.Runs.{outline-append, ran-then}
use Rattle.px_batch.proofs.Turning as batching
use Rattle.px_planned.specs.Queries.{query_of}
use Rattle.px_planned.specs.declared.planned.Planned.{Planned}
use Rattle.px_scan.specs.Turns as scan
use Rattle.px_scan.proofs.Turning as scanning
use Rattle.px_removals.specs.Removals.{AreRemovals}
use Rattle.px_deleting.specs.Asking.{planned_for}
use Rattle.px_deleting.specs.declared.deleted.DeleteTurn.TheVariants as turn
use Rattle.px_deleting.specs.declared.deleted.Deleted.{Deleted}
use Rattle.px_deleting.specs.declared.machine.DeleteState.{DeleteState}
use Rattle.px_deleting.specs.declared.machine.DeleteState.TheVariants as state
use Rattle.px_deleting.specs.Deleting.{AreCurrent, CanBegin, DeleteTurns, FitsDelete, HasDone, HasFoundRows, IsDeleteNew, IsDeleteOutcome, RanDelete, SoFar}
use Rattle.px_deleting.proofs.Past.{all-later, can-later, fitting-later, found-later, passes-later, since-passed}

-- 1. Between two steps

-- entries of other seats leave a run as it is
pub fits-kept : (sound : Type 0) (p : Planned) (s : DeleteState) (k k' : Known) → TimePasses k k' → FitsDelete sound p s k → FitsDelete sound p s k'
fits-kept sound p (state.Finding run) k k' h f = record {
  can = can-later k k' p (passes-later k k' h) h.legal f.can;
  planned = f.planned;
  scn = f.scn;
  fits = scanning.fits-kept sound (query_of run.scan.query) run.scan.scn run.scan.state k k' h f.fits;
  going = f.going;
}
fits-kept sound p (state.Removing run left) k k' h f = record {
  legal = h.legal;
  table = f.table;
  left_table = f.left_table;
  fits = batching.fits-kept sound run.table run.changes run.state k k' h f.fits;
  going = f.going;
  ordered = f.ordered;
  fitting = fitting-later k k' p.table.id.0 left.changes.items (passes-later k k' h) h.legal f.fitting;
  room = f.room;
}
fits-kept sound p state.Over k k' h f = tt

-- and what was done for it
pub done-kept : (sound : Type 0) (p : Planned) (own : List Act) (s : DeleteState) (k k' : Known) → TimePasses k k' → HasDone sound p own s k → HasDone sound p own s k'
done-kept sound p own (state.Finding run) k k' h d = d
done-kept sound p own (state.Removing run left) k k' h d =
    let later = passes-later k k' h in
    record {
      changes = d.changes;
      parts = d.parts;
      rest = d.rest;
      finding = d.finding;
      making = d.making;
      found = found-later sound p k k' left.first d.finding d.changes later d.found;
      made = all-later sound k k' p.table.id d.parts left.receipts.items d.making later d.made;
      split = d.split;
      some = d.some;
      part = d.part;
      behind = d.behind;
      rows = d.rows;
      own_is = d.own_is;
      found_first = since-passed sound p k k' left.first d.finding d.changes h d.found ∙ d.found_first;
    }
done-kept sound p own state.Over k k' h d = tt

-- 2. On the way

pub begins : (sound : Type 0) (p : Planned) (s : DeleteState) (k : Known) → IsDeleteNew p s → CanBegin k p → SoFar sound p k k s
begins sound p (state.Finding run) k h c =
    let bound = subst (λ (w : Planned). scan.IsBound k (query_of w)) (sym h.0) c.bound in
    let scn : scan.QuerySoFar sound (query_of run.scan.query) run.scan.scn k k run.scan.state =
    subst (λ (n : Option ℕ). scan.QuerySoFar sound (query_of run.scan.query) n k k run.scan.state) (sym h.1) (scanning.starts sound (query_of run.scan.query) None run.scan.state k h.2 bound tt) in
    record {
      acts = scn.acts;
      ran = scn.ran;
      done = scn.so_far;
      fits = record { can = c; planned = h.0; scn = h.1; fits = scn.fits; going = scn.going };
      going = tt;
      since = scn.since;
    }
begins sound p (state.Removing run left) k h c = absurd h
begins sound p state.Over k h c = absurd h

pub steps-on : (sound : Type 0) (p : Planned) (k0 k k' : Known) (old new : DeleteState) → SoFar sound p k0 k old → DeleteTurns sound p old k new k' turn.Stepped → SoFar sound p k0 k' new
steps-on sound p k0 k k' old new h t =
    let told = t.told (length k0.seen) (outline h.acts) h.since h.done in
    record {
      acts = h.acts ++ t.acts;
      ran = ran-then k0 k k' h.acts t.acts h.ran t.ran;
      done = subst (λ (l : List Act). HasDone sound p l new k') (sym (outline-append h.acts t.acts)) told.1;
      fits = t.fits;
      going = told.0;
      since = t.since (length k0.seen) h.since;
    }

pub waits-on : (sound : Type 0) (p : Planned) (k0 k k' : Known) (old new : DeleteState) (stamp : ℕ) → SoFar sound p k0 k old → DeleteTurns sound p old k new k' (turn.Waiting stamp) → SoFar sound p k0 k' new
waits-on sound p k0 k k' old new stamp h t =
    let told = t.told (length k0.seen) (outline h.acts) h.since h.done in
    record {
      acts = h.acts ++ t.acts;
      ran = ran-then k0 k k' h.acts t.acts h.ran t.ran;
      done = subst (λ (l : List Act). HasDone sound p l new k') (sym (outline-append h.acts t.acts)) told.1;
      fits = t.fits;
      going = told.0;
      since = t.since (length k0.seen) h.since;
    }

pub ends-as : (sound : Type 0) (p : Planned) (k0 k k' : Known) (old new : DeleteState) (d : Deleted) → SoFar sound p k0 k old → DeleteTurns sound p old k new k' (turn.Over d) → RanDelete sound p k0 k' d
ends-as sound p k0 k k' old new d h t =
    let told = t.told (length k0.seen) (outline h.acts) h.since h.done in
    record {
      acts = h.acts ++ t.acts;
      ran = ran-then k0 k k' h.acts t.acts h.ran t.ran;
      outcome = subst (λ (l : List Act). IsDeleteOutcome sound p (length k0.seen) l k' d) (sym (outline-append h.acts t.acts)) told.1;
      since = t.since (length k0.seen) h.since;
    }

-- 3. Which rows

pub are-current : (sound : Type 0) (t : Table) (filter : Option Bound) (k : Known) (first : ℕ) (acts : List Act) (cs : List Change) → HasFoundRows sound (planned_for t filter) k first acts cs → sound → AreCurrent k t filter first cs
are-current sound t filter k first acts cs h is =
    let selected = h.outcome.0 in
    let answer = selected.answer is in
    record {
      past = h.past;
      was = h.was;
      point = selected.point;
      is_point = selected.is_point;
      path = selected.path;
      chosen = selected.chosen;
      given = answer.given;
      current = rw (sym h.opened, sym h.outcome.3) answer.current;
      removals = subst (λ rows. AreRemovals t.key rows cs) answer.shown.rows h.removals;
    }
