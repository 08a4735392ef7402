use Rattle.px_forms.proofs.Views.{view_put, view_append, view_same, view_empty, lawful_at}
use Rattle.px_forms.proofs.law_views.Goals as goal

pub returns-clause-put : goal.returns-clause-put
returns-clause-put c = view_put

pub returns-clause-append : goal.returns-clause-append
returns-clause-append c = view_append

pub returns-clause-same : goal.returns-clause-same
returns-clause-same c = view_same

pub returns-clause-empty : goal.returns-clause-empty
returns-clause-empty c = view_empty

pub returns-clause-lawful : goal.returns-clause-lawful
returns-clause-lawful c = lawful_at
