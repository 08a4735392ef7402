-- What the query of a SELECT does in a step of its session.
use Rattle.px_scan.specs.declared.machine.QueryState.{QueryState}
use Rattle.px_scan.specs.declared.machine.QueryState.TheVariants as query_state
use Rattle.px_select.specs.declared.run.SelectRun.{SelectRun}
use Rattle.px_item.specs.Selects.{IfSelect, IsSelectAt}
use Rattle.px_session.specs.declared.run.Doing.{Doing}
use Rattle.px_session.specs.declared.run.Doing.TheVariants.{Idle, Under, Taken}

-- this holds of the run of a SELECT, where the session's item is one whose table was found
abbrev pub IfSelecting : Doing → (SelectRun → Type 0) → Type 0
IfSelecting (Under r span) P = IfSelect r.state P
IfSelecting d P = Unit {0}

-- the session's item is still the SELECT of this run, or it is over, and this holds of where its query stands then
abbrev pub IsSelectingThen : SelectRun → Doing → (QueryState → Type 0) → Type 0
IsSelectingThen run (Under r span) P = IsSelectAt run r.state P
IsSelectingThen run (Idle st) P = P query_state.Over
IsSelectingThen run Taken P = ⊥
