-- The step that ends the query of a SELECT.
use Rattle.std.proofs.Common.{ℕ, ◌≡◌, Bool, subst}
use Rattle.px_calls.specs.declared.query.Point.{Point}
use Rattle.px_calls.specs.Doubtful.{IndexVersion}
use Rattle.px_calls.specs.Known.{Known}
use Rattle.px_planned.specs.Queries.{query_of}
use Rattle.px_scan.specs.declared.answer.QueryTurn.{QueryTurn}
use Rattle.px_scan.specs.declared.machine.QueryState.{QueryState}
use Rattle.px_scan.specs.declared.machine.QueryState.TheVariants as query_state
use Rattle.px_scan.specs.Fixes.{KeepsDoubts}
use Rattle.px_scan.specs.Looking.{Looks}
use Rattle.px_scan.specs.Turns as scan
use Rattle.px_select.specs.declared.run.SelectRun.{SelectRun}
use Rattle.px_item.specs.Selects.{ScansTo}

pub scans_to_end : (sound : Type 0) (run : SelectRun) (k k' : Known) (q : QueryState) (t : QueryTurn) → q ≡ query_state.Over → scan.QueryTurns sound (query_of run.scan.query) run.scan.scn run.scan.state k q k' t → ScansTo sound run k k' query_state.Over
scans_to_end sound run k k' q t is h = (t, subst (λ (s : QueryState). scan.QueryTurns sound (query_of run.scan.query) run.scan.scn run.scan.state k s k' t) is h)

pub looks_to_end : (sound : Type 0) (old : QueryState) (k : Known) (m : ℕ) (q : QueryState) (k' : Known) (n : ℕ) (f : Point → IndexVersion → Bool) → q ≡ query_state.Over → Looks sound old k m q k' n f → Looks sound old k m query_state.Over k' n f
looks_to_end sound old k m q k' n f is h = subst (λ (s : QueryState). Looks sound old k m s k' n f) is h

pub keeps_to_end : (old : QueryState) (k : Known) (f : Point → IndexVersion → Bool) (q : QueryState) (k' : Known) (f' : Point → IndexVersion → Bool) → q ≡ query_state.Over → KeepsDoubts old k f q k' f' → KeepsDoubts old k f query_state.Over k' f'
keeps_to_end old k f q k' f' is h = subst (λ (s : QueryState). KeepsDoubts old k f s k' f') is h
