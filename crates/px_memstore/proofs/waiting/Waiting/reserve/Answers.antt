use Rattle.std.proofs.Common.{◌≤◌, ◌+◌, arith, vec_capacity, vec_len}
use Rattle.std.specs.Prelude.{Result, Ok, Err, OnOk}
use Rattle.px_memstore.specs.inner.Waiting.{waiting_room}
use Rattle.px_memstore.proofs.waiting.Waiting.reserve.Goals as goal

on_ok : {X E : Type 0} (r : Result X E) (P Q : Type 0) → OnOk r P → (P → Q) → OnOk r Q
on_ok (Ok x) P Q p f = f p
on_ok (Err e) P Q p f = tt

pub returns-in_err-reserve-clause-kept : goal.returns-in_err-reserve-clause-kept
unfolding waiting_room
returns-in_err-reserve-clause-kept c = (let a = c.reserve.ensures.capacity in omega arith)

pub returns-clause-room : goal.returns-clause-room
unfolding waiting_room
returns-clause-room c = on_ok c.reserve-2.result (vec_len c.reserve-2.new.self + c.args.n ≤ vec_capacity c.reserve-2.new.self) _ c.reserve-2.ensures.ok (λ p. (let a = c.in_ok-reserve.ensures.ok in omega (arith, p, a)))

pub returns-clause-kept : goal.returns-clause-kept
unfolding waiting_room
returns-clause-kept c = (let a = c.reserve.ensures.capacity in let b = c.reserve-2.ensures.capacity in omega arith)
