use Rattle.std.proofs.Common.{rules, ◌≡◌, ◌∙◌, sym, ap, lit<, true, None}
use Rattle.std.specs.Option.{is_some}
use Rattle.px_arguments.proofs.Lists.{last_some, more_some, unnamed}
use Rattle.px_arguments.proofs.schedule.is_schedule.Goals as goal

pub returns-then-is_none : goal.returns-then-is_none
returns-then-is_none c =
    let none : c.session_among.result ≡ None = search rules in
    sym (ap is_some (unnamed c.names.most c.names.left.now c.in-Some.name.now c.in-Some.rest.now (c.in-Some.ensures.byte (lit< tt) (λ w o h. h)) (sym c.session_among.ensures ∙ none))) ∙ c.names.invariant.1

pub names-preserved : goal.names-preserved
names-preserved c =
    let some : is_some c.session_among.result ≡ true = search rules in
    (search rules, more_some c.names.most c.names.left.now c.in-Some.name.now c.in-Some.rest.now (c.in-Some.ensures.byte (lit< tt) (λ w o h. h)) c.session_among.result c.session_among.ensures some ∙ c.names.invariant.1)

pub returns : goal.returns
returns c =
    let is : c.is_some.result ≡ is_some c.session_among-2.result = search rules in
    is ∙ (ap is_some c.session_among-2.ensures ∙ (last_some c.names.most c.names.left.now (c.in_default.ensures.byte (lit< tt) (λ w o h. h)) ∙ c.names.invariant.1))
