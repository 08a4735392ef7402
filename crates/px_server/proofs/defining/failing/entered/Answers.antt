use Rattle.std.proofs.Common.{◌++◌, ◌∷◌, [], ℕ, refl, ap, ◌∙◌}
use Rattle.px_server.proofs.defining.failing.entered.Goals as goal

pub returns-in-Ok-clause-ok : goal.returns-in-Ok-clause-ok
returns-in-Ok-clause-ok g c = (
  c.in-Ok.is,
  record {
    entries = c.push.ensures.entries ∙ ap (λ (n : ℕ). c.args.trail.now.entries ++ record { seat = c.args.seat; calls = n; act = c.args.act } ∷ []) c.call_count-calls.ensures;
    late_is = refl;
    closed_is = refl;
  },
)

pub returns-in-Err-clause-refused : goal.returns-in-Err-clause-refused
returns-in-Err-clause-refused g c = (
  c.in-Err.fault,
  c.in-Err.is,
  record {
    full = c.unwritten.ensures.full;
    memory = c.unwritten.ensures.memory;
    failed = c.unwritten.ensures.failed;
    kept = c.unwritten.ensures.kept;
    shut = c.unwritten.ensures.shut;
  },
)
