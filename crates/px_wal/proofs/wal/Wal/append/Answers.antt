use Rattle.std.proofs.Common.{refl, arith, ap, ◌∙◌, ◌≡◌, ◌+◌, ◌<◌, ◌^◌, ℕ, []}
use Rattle.px_outside.proofs.Moments.{touches_none}
use Rattle.px_wal.specs.Form.{batch_record}
use Rattle.px_wal.specs.Wal.{log_files, next_batch}
use Rattle.px_wal.proofs.Appended.{append_at, append_done, log_now, touches_newest}
use Rattle.px_wal.proofs.wal.Wal.append.Goals as goal

pub returns-in_default-clause-any_moment : goal.returns-in_default-clause-any_moment
returns-in_default-clause-any_moment g c = λ region flushed batches has. log_now g.D.Disk region flushed c.args.self.now c.args.disk.now batches has g.met.D.Disk.up_to_now _

pub returns-in_default-clause-touches : goal.returns-in_default-clause-touches
returns-in_default-clause-touches g c = λ region flushed batches has. touches_none g.D.Disk.calls g.D.Disk.left g.D.Disk.seen g.met.D.Disk.up_to_now c.args.disk.now (log_files region)

pub returns-in_err-append-clause-any_moment : goal.returns-in_err-append-clause-any_moment
returns-in_err-append-clause-any_moment g c = λ region flushed batches has.
    let number : c.in-Some.number ≡ c.args.self.now.last + 1 = omega arith in
    let small : c.args.self.now.last + 1 < 2 ^ 64 = omega arith in
    append_at g.D.Disk region flushed c.args.self.now c.args.disk.now batches has (next_batch c.args.self.now c.args.cells.now) c.requires.open
    (record { written = c.requires.written; counted = c.requires.counted; number = small }) refl _ (c.fill_batch.ensures.filled ∙ ap (λ (n : ℕ). batch_record (record { number = n; cells = c.args.cells.now })) number)
    c.append.new.disk c.append.ensures.any_moment

pub returns-in_err-append-clause-touches : goal.returns-in_err-append-clause-touches
returns-in_err-append-clause-touches g c = λ region flushed batches has. touches_newest g.D.Disk region flushed c.args.self.now c.args.disk.now batches has c.append.new.disk c.append.ensures.touches

pub returns-clause-done : goal.returns-clause-done
returns-clause-done g c = λ region flushed batches has.
    let number : c.in-Some.number ≡ c.args.self.now.last + 1 = omega arith in
    let small : c.args.self.now.last + 1 < 2 ^ 64 = omega arith in
    append_done g.D.Disk region flushed c.args.self.now c.args.disk.now batches has (next_batch c.args.self.now c.args.cells.now) c.requires.open
    (record { written = c.requires.written; counted = c.requires.counted; number = small }) refl _ (c.fill_batch.ensures.filled ∙ ap (λ (n : ℕ). batch_record (record { number = n; cells = c.args.cells.now })) number)
    _ c.append.new.disk number refl c.append.ensures.same (c.append.ensures.laid []) c.append.ensures.steps c.in_ok-append.ensures.done

pub returns-clause-any_moment : goal.returns-clause-any_moment
returns-clause-any_moment g c = λ region flushed batches has.
    let number : c.in-Some.number ≡ c.args.self.now.last + 1 = omega arith in
    let small : c.args.self.now.last + 1 < 2 ^ 64 = omega arith in
    append_at g.D.Disk region flushed c.args.self.now c.args.disk.now batches has (next_batch c.args.self.now c.args.cells.now) c.requires.open
    (record { written = c.requires.written; counted = c.requires.counted; number = small }) refl _ (c.fill_batch.ensures.filled ∙ ap (λ (n : ℕ). batch_record (record { number = n; cells = c.args.cells.now })) number)
    c.append.new.disk c.append.ensures.any_moment

pub returns-clause-touches : goal.returns-clause-touches
returns-clause-touches g c = λ region flushed batches has. touches_newest g.D.Disk region flushed c.args.self.now c.args.disk.now batches has c.append.new.disk c.append.ensures.touches
