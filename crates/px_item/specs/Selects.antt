-- What the query of a SELECT does in a step of its item.
use Rattle.std.specs.Prelude.{◌≡◌}
use Rattle.px_calls.specs.Known.{Known}
use Rattle.px_planned.specs.Queries.{query_of}
use Rattle.px_scan.specs.declared.answer.QueryTurn.{QueryTurn}
use Rattle.px_scan.specs.declared.machine.QueryState.{QueryState}
use Rattle.px_scan.specs.declared.machine.QueryState.TheVariants as query_state
use Rattle.px_scan.specs.Turns as scan
use Rattle.px_select.specs.declared.run.SelectRun.{SelectRun}
use Rattle.px_item.specs.declared.item.ItemState.{ItemState}
use Rattle.px_item.specs.declared.item.ItemState.TheVariants as state
use Rattle.px_item.specs.declared.item.ItemTurn.{ItemTurn}
use Rattle.px_item.specs.declared.item.ItemTurn.TheVariants as turn

-- this holds of the run of a SELECT, where the item is one whose table was found
abbrev pub IfSelect : ItemState → (SelectRun → Type 0) → Type 0
IfSelect (state.Selecting x run) P = P run
IfSelect st P = Unit {0}

-- the item is the SELECT of this run, and this holds of where its query stands now
abbrev pub IsSelectAt : SelectRun → ItemState → (QueryState → Type 0) → Type 0
IsSelectAt run (state.Selecting x new) P = (new.scan.query ≡ run.scan.query) × (new.scan.scn ≡ run.scan.scn) × P new.scan.state
IsSelectAt run st P = ⊥

-- the SELECT of this run goes on or is over, and this holds of where its query stands then
abbrev pub IsSelectThen : SelectRun → ItemTurn → (QueryState → Type 0) → Type 0
IsSelectThen run (turn.Stepped r) P = IsSelectAt run r.state P
IsSelectThen run (turn.Waiting r) P = IsSelectAt run r.state P
IsSelectThen run (turn.Over a) P = P query_state.Over

-- the step was one of the query of this run, which brought it there
abbrev pub ScansTo : Type 0 → SelectRun → Known → Known → QueryState → Type 0
ScansTo sound run k k' new = (t : QueryTurn) × scan.QueryTurns sound (query_of run.scan.query) run.scan.scn run.scan.state k new k' t
