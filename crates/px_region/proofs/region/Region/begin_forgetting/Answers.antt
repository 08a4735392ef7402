use Rattle.std.proofs.Common.{inl, inr, refl, arith}
use Rattle.px_region.proofs.Holding.{flush_same, holds_alike}
use Rattle.px_region.proofs.region.Region.begin_forgetting.Goals as goal

pub returns-then-may_forget-clause-done : goal.returns-then-may_forget-clause-done
returns-then-may_forget-clause-done g c = λ s disk holds.
    let self = c.args.self.now in
    flush_same g.D.Disk self disk s holds disk self.manifest c.forget_all.new.self holds.lists _ (c.forget_all.ensures.begun self.manifest self.wal disk holds.batches holds.lists holds.has) refl c.forget_all.ensures.files.0 refl refl refl refl refl refl refl refl refl refl

pub returns-then-may_forget-clause-begun : goal.returns-then-may_forget-clause-begun
returns-then-may_forget-clause-begun g c = inl c.forget_all.ensures.horizon

pub returns-then-is_over-clause-done : goal.returns-then-is_over-clause-done
returns-then-is_over-clause-done g c = λ s disk holds. holds_alike g.D.Disk c.args.self.now disk s holds _ (record { number = refl; wal = refl; manifest = refl; flushing = refl; horizon = refl; store = refl; cells = refl; bytes = refl; stamps = refl })

pub returns-then-is_over-clause-begun : goal.returns-then-is_over-clause-begun
returns-then-is_over-clause-begun g c = inr (inr refl)

pub returns-else-is_over-clause-done : goal.returns-else-is_over-clause-done
returns-else-is_over-clause-done g c = λ s disk holds. holds_alike g.D.Disk c.args.self.now disk s holds _ (record { number = refl; wal = refl; manifest = refl; flushing = refl; horizon = refl; store = refl; cells = refl; bytes = refl; stamps = refl })

pub returns-else-is_over-clause-begun : goal.returns-else-is_over-clause-begun
returns-else-is_over-clause-begun g c = inr (inl (let l = c.last-self.ensures in omega arith))
