use Rattle.std.proofs.Common.{◌≡◌, Err, rules}
use Rattle.px_values.specs.declared.limit.Limit.{Limit as Bound}
use Rattle.px_beginning.specs.declared.fault.BeginFault.{BeginFault as Fault}
use Rattle.px_beginning.proofs.Lists.{long_row_at}
use Rattle.px_beginning.proofs.rows.row_keys.Goals as goal

pub returns-in_err-key-clause-long : goal.returns-in_err-key-clause-long
returns-in_err-key-clause-long c e =
    let m : c.own_key.result ≡ Err (Fault.Limit Bound.Key) = search rules in
    long_row_at c.args.table.now c.args.changes.now c.loop-change.change-index c.change-item.result c.loop-change-test.true c.change-item.is (c.own_key.ensures.long m)

pub returns-in_err-key-clause-only : goal.returns-in_err-key-clause-only
returns-in_err-key-clause-only c limit e =
    let m : c.own_key.result ≡ Err (Fault.Limit limit) = search rules in
    c.own_key.ensures.only limit m
