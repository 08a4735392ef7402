use Rattle.std.proofs.Common.{◌≡◌, Bool, true, false, refl}
use Rattle.px_entries.proofs.Fitting.{none-fixed, parts-fit, values-fit}
use Rattle.px_entries.proofs.parts.key_on.Goals as goal

pub returns-then-not-can_stand-clause-key : goal.returns-then-not-can_stand-clause-key
returns-then-not-can_stand-clause-key c = λ fits.
    let no : ◌≡◌ {A = Bool} false true = c.if-not-can_stand.ensures.1 (parts-fit c.deref.result.now _ _ (rw c.deref.ensures.value c.in_ok-parts.ensures.columns) (rw c.deref.ensures.value c.in_ok-parts.ensures.values) fits) in
    cc

pub returns-in-Err-NullFixed-clause-key : goal.returns-in-Err-NullFixed-clause-key
returns-in-Err-NullFixed-clause-key c = λ fits.
    absurd (none-fixed c.deref-2.result.now _ _ (rw c.deref-2.ensures.value c.in_ok-parts.ensures.columns) (rw c.deref-2.ensures.value c.in_ok-parts.ensures.values) fits ((rw c.in-Err-NullFixed.field-0-is at c.in-Err-NullFixed.ensures.null_fixed).0 refl))

pub returns-in-Err-TooLong-clause-fits : goal.returns-in-Err-TooLong-clause-fits
returns-in-Err-TooLong-clause-fits c =
    values-fit c.deref-2.result.now _ _ (rw c.deref-2.ensures.value c.in_ok-parts.ensures.columns) (rw c.deref-2.ensures.value c.in_ok-parts.ensures.values) ((rw c.in-Err-TooLong.field-0-is at c.in-Err-TooLong.ensures.too_long).0 refl).0
