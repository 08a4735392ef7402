use Rattle.std.proofs.Common.{◌≡◌, Bool, true, false, refl}
use Rattle.px_verify.proofs.Stepping as stepping
use Rattle.px_verify.proofs.machine.with_rows.Goals as goal

pub returns-in-Some : goal.returns-in-Some
returns-in-Some g c = λ t k after f h.
    let kept = rw (c.as_slice.ensures, c.as_slice-included.ensures) at c.in-Ok.ensures in
    stepping.rows-more g.S.Steps.sound k t c.args.index c.args.x after c.args.chunk c.keep_rows.new.rows f h kept c.in-Some.last c.in-Some.is

pub returns-then-is_readable : goal.returns-then-is_readable
returns-then-is_readable g c = λ t k after f h.
    let kept = rw (c.as_slice.ensures, c.as_slice-included.ensures) at c.in-Ok.ensures in
    stepping.rows-then g.S.Steps.sound k t c.args.index c.args.x after c.args.chunk c.keep_rows.new.rows f h kept c.in-None.is (c.if-is_readable.ensures.0 refl)

pub returns-else-is_readable : goal.returns-else-is_readable
returns-else-is_readable g c = λ t k after f h.
    let kept = rw (c.as_slice.ensures, c.as_slice-included.ensures) at c.in-Ok.ensures in
    stepping.goes-as g.S.Steps.sound k t c.args.index c.args.x.point _ _ _ c.ended.ensures
    (stepping.rows-end g.S.Steps.sound k t c.args.index c.args.x after c.args.chunk c.keep_rows.new.rows f h kept c.in-None.is (λ readable. let no : ◌≡◌ {A = Bool} false true = c.if-is_readable.ensures.1 readable in cc))
