-- The query of a SELECT, in a step of its session.
use Rattle.std.proofs.Common.{◌≡◌, ◌≢◌, Option, None, Some, true, refl, sym, subst}
use Rattle.std.specs.Option.{is_some}
use Rattle.px_scan.specs.declared.machine.QueryState.{QueryState}
use Rattle.px_scan.specs.declared.machine.QueryState.TheVariants as query_state
use Rattle.px_select.specs.declared.run.SelectRun.{SelectRun}
use Rattle.px_script.specs.declared.piece.Span.{Span}
use Rattle.px_item.specs.declared.answered.Settings.{Settings}
use Rattle.px_item.specs.declared.item.ItemRun.{ItemRun}
use Rattle.px_item.specs.declared.item.ItemState.{ItemState}
use Rattle.px_item.specs.Selects.{IfSelect, IsSelectAt}
use Rattle.px_session.specs.declared.run.Doing.{Doing}
use Rattle.px_session.specs.declared.run.Doing.TheVariants.{Idle, Under, Taken}
use Rattle.px_session.specs.declared.state.Ending.{Ending}
use Rattle.px_session.specs.Live.{IdleAtEnd}
use Rattle.px_session.specs.Selects.{IfSelecting, IsSelectingThen}

-- the item goes on

pub under_still : (P : SelectRun → QueryState → Type 0) (st : ItemState) (r : ItemRun) (span : Span) (d : Doing) → d ≡ Under r span → IfSelect st (λ x. IsSelectAt x r.state (P x)) → IfSelect st (λ x. IsSelectingThen x d (P x))
under_still P st r span d is h = subst (λ (e : Doing). IfSelect st (λ x. IsSelectingThen x e (P x))) (sym is) h

pub under_if : (W : SelectRun → Type 0) (P : SelectRun → QueryState → Type 0) (st : ItemState) (r : ItemRun) (span : Span) (d : Doing) → d ≡ Under r span → IfSelect st (λ x. W x → IsSelectAt x r.state (P x)) → IfSelect st (λ x. W x → IsSelectingThen x d (P x))
under_if W P st r span d is h = subst (λ (e : Doing). IfSelect st (λ x. W x → IsSelectingThen x e (P x))) (sym is) h

-- it is over

pub idle_then : (P : SelectRun → QueryState → Type 0) (st : ItemState) (after : Settings) (d : Doing) → d ≡ Idle after → IfSelect st (λ x. P x query_state.Over) → IfSelect st (λ x. IsSelectingThen x d (P x))
idle_then P st after d is h = subst (λ (e : Doing). IfSelect st (λ x. IsSelectingThen x e (P x))) (sym is) h

pub idle_if : (W : SelectRun → Type 0) (P : SelectRun → QueryState → Type 0) (st : ItemState) (after : Settings) (d : Doing) → d ≡ Idle after → IfSelect st (λ x. W x → P x query_state.Over) → IfSelect st (λ x. W x → IsSelectingThen x d (P x))
idle_if W P st after d is h = subst (λ (e : Doing). IfSelect st (λ x. W x → IsSelectingThen x e (P x))) (sym is) h

-- nothing is under way where a session has ended
some_is_none : (e : Ending) → ◌≡◌ {A = Option Ending} (Some e) None → ⊥
some_is_none e h = cc

pub has_ended : (e : Option Ending) → is_some e ≡ true → e ≢ None
has_ended None h = cc
has_ended (Some e) h = λ none. some_is_none e none

pub ended_idle : (P : SelectRun → Type 0) (e : Option Ending) (d : Doing) → e ≢ None → IdleAtEnd e d → IfSelecting d P
ended_idle P None d some idle = absurd (some refl)
ended_idle P (Some e) (Idle st) some idle = tt
ended_idle P (Some e) (Under r span) some idle = absurd idle
ended_idle P (Some e) Taken some idle = tt

-- what the session does is known
pub if_doing : (P : SelectRun → Type 0) (d e : Doing) → d ≡ e → IfSelecting e P → IfSelecting d P
if_doing P d e is h = subst (λ (x : Doing). IfSelecting x P) (sym is) h
