use Rattle.std.proofs.Common.{◌≡◌, ◌≤◌, Err, inr, length, refl, rules, subst, sym}
use Rattle.std.specs.List.{AllByRecursion}
use Rattle.px_phases.specs.Batch.{AllFit, BatchData}
use Rattle.px_rows.specs.Keys.{row_key}
use Rattle.px_values.specs.Limits.{most_key}
use Rattle.px_values.specs.declared.change.Change.{Change}
use Rattle.px_values.specs.declared.limit.Limit.{Limit as Bound}
use Rattle.px_group.specs.declared.group.Begun.{Begun}
use Rattle.px_beginning.specs.declared.fault.BeginFault.{BeginFault as Fault}
use Rattle.px_beginning.specs.declared.preparing.Prepared.{Prepared}
use Rattle.px_beginning.proofs.Leaves.{alike_same, right_after}
use Rattle.px_beginning.proofs.Made.{batches_fit, if_ok, made_here, read_here}
use Rattle.px_beginning.proofs.Promised.{rooms_kept, same_promises}
use Rattle.px_beginning.specs.Begins.{IsBatchOf, IsMadeOf}
use Rattle.px_beginning.specs.Leaves.{LeavesGroup}
use Rattle.px_region.proofs.Alike.{alike_refl}
use Rattle.px_beginning.proofs.preparing.prepare.Given.{Over}
use Rattle.px_beginning.proofs.preparing.prepare.Goals as goal

pub returns-in_err-keys-clause-leaves : goal.returns-in_err-keys-clause-leaves
returns-in_err-keys-clause-leaves g c = record {
  table = refl;
  rows = alike_refl c.args.group.now.rows;
  indexes = alike_same c.args.group.now.indexes.items;
  batches = refl;
  points = refl;
  last = refl;
  horizon = refl;
}

pub returns-in_err-keys-clause-keeps : goal.returns-in_err-keys-clause-keeps
returns-in_err-keys-clause-keeps g c = record { rows = record { cells = refl; bytes = refl }; indexes = same_promises c.args.group.now.indexes.items }

pub transitions_of-read-requires-clause-batches : goal.transitions_of-read-requires-clause-batches
transitions_of-read-requires-clause-batches g c = subst (AllByRecursion (λ (m : Begun). AllFit c.args.group.now.table m.batch.changes)) (sym c.as_slice.ensures.value) (batches_fit c.args.group.now c.args.group.now.batches.items c.requires.right.batches)

pub returns-in_err-transitions-clause-long : goal.returns-in_err-transitions-clause-long
returns-in_err-transitions-clause-long g c e =
    let m : c.transitions_of-read.result ≡ Err (Fault.Limit Bound.Key) = search rules in
    absurd (c.transitions_of-read.ensures.no_limit Bound.Key m)

pub returns-in_err-transitions-clause-leaves : goal.returns-in_err-transitions-clause-leaves
returns-in_err-transitions-clause-leaves g c = record {
  table = refl;
  rows = c.transitions_of-read.ensures.alike;
  indexes = alike_same c.args.group.now.indexes.items;
  batches = refl;
  points = refl;
  last = refl;
  horizon = refl;
}

pub returns-in_err-transitions-clause-keeps : goal.returns-in_err-transitions-clause-keeps
returns-in_err-transitions-clause-keeps g c = record { rows = c.transitions_of-read.ensures.promised; indexes = same_promises c.args.group.now.indexes.items }

pub prepared_of-prepared-requires-clause-right : goal.prepared_of-prepared-requires-clause-right
prepared_of-prepared-requires-clause-right g c =
    let leaves : LeavesGroup c.args.group.now (record c.args.group.now { rows = c.transitions_of-read.new.rows }) = record {
      table = refl;
      rows = c.transitions_of-read.ensures.alike;
      indexes = alike_same c.args.group.now.indexes.items;
      batches = refl;
      points = refl;
      last = refl;
      horizon = refl;
    } in
    right_after c.args.group.now (record c.args.group.now { rows = c.transitions_of-read.new.rows }) leaves c.requires.right
    (rooms_kept c.args.group.now (record c.args.group.now { rows = c.transitions_of-read.new.rows }) leaves (record { rows = c.transitions_of-read.ensures.promised; indexes = same_promises c.args.group.now.indexes.items }) c.requires.right.rooms)

-- the batch of what is read, by what is made of it
batch_here : (g : Over) (c : goal.After-drop-2 g) (b : BatchData) → IsMadeOf (record c.args.group.now { rows = c.transitions_of-read.new.rows }) c.args.stamp c.args.changes.now c.as_slice-3.result.now b → IsBatchOf c.args.group.now c.args.stamp c.args.changes.now b
batch_here g c b m = record {
  transitions = c.as_slice-3.result.now;
  read = read_here c.args.group.now c.as_slice.result.now c.as_slice-listed.result.now c.args.changes.now c.in_ok-transitions.transitions.items c.as_slice-3.result.now c.as_slice.ensures.value c.as_slice-listed.ensures c.as_slice-3.ensures.value c.in_ok-transitions.ensures.are c.in_ok-transitions.ensures.from;
  made = made_here c.args.group.now c.transitions_of-read.new.rows c.args.stamp c.args.changes.now c.as_slice-3.result.now b m;
  short = subst (AllByRecursion (λ (x : Change). length (row_key c.args.group.now.table x.row) ≤ most_key)) c.as_slice-listed.ensures c.in_ok-keys.ensures.short;
}

pub returns-clause-batch : goal.returns-clause-batch
returns-clause-batch g c = if_ok (λ (p : Prepared). IsMadeOf (record c.args.group.now { rows = c.transitions_of-read.new.rows }) c.args.stamp c.args.changes.now c.as_slice-3.result.now p.batch) (λ (p : Prepared). IsBatchOf c.args.group.now c.args.stamp c.args.changes.now p.batch)
    (λ p m. batch_here g c p.batch m) c.prepared_of-prepared.result c.prepared_of-prepared.ensures.made

pub returns-clause-cells : goal.returns-clause-cells
returns-clause-cells g c e = (let m = c.prepared_of-prepared.ensures.cells e in record { batch = m.batch; is = batch_here g c m.batch m.made; passes = m.passes })

pub returns-clause-bytes : goal.returns-clause-bytes
returns-clause-bytes g c e = (let m = c.prepared_of-prepared.ensures.bytes e in record { batch = m.batch; is = batch_here g c m.batch m.made; passes = m.passes })

pub returns-clause-long : goal.returns-clause-long
returns-clause-long g c e =
    let old = c.args.group.now in
    inr (record {
      transitions = c.as_slice-3.result.now;
      read = read_here old c.as_slice.result.now c.as_slice-listed.result.now c.args.changes.now c.in_ok-transitions.transitions.items c.as_slice-3.result.now c.as_slice.ensures.value c.as_slice-listed.ensures c.as_slice-3.ensures.value c.in_ok-transitions.ensures.are c.in_ok-transitions.ensures.from;
      long = c.prepared_of-prepared.ensures.long e;
    })

pub returns-clause-leaves : goal.returns-clause-leaves
returns-clause-leaves g c = record {
  table = refl;
  rows = c.transitions_of-read.ensures.alike;
  indexes = alike_same c.args.group.now.indexes.items;
  batches = refl;
  points = refl;
  last = refl;
  horizon = refl;
}

pub returns-clause-keeps : goal.returns-clause-keeps
returns-clause-keeps g c = record { rows = c.transitions_of-read.ensures.promised; indexes = same_promises c.args.group.now.indexes.items }
