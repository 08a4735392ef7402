use Rattle.std.proofs.Common.{rules, ◌≡◌, ◌∙◌, List, Some, None, ap, refl, subst, sym}
use Rattle.std.specs.Prelude.{slice_get}
use Rattle.px_lex.specs.declared.script.Piece.{Piece}
use Rattle.px_session.specs.declared.run.SessionRun.{SessionRun}
use Rattle.px_session.specs.Live.{IsSessionLive}
use Rattle.px_session.proofs.Lives.{finishes_lacking, finishes_whole, no_call, reserved, started_same, starts}
use Rattle.px_session.proofs.run.SessionRun.start.Goals as goal

pub returns-in_default-clause-steps : goal.returns-in_default-clause-steps
returns-in_default-clause-steps g c = λ began live.
    let me = c.args.self.now in
    let k = g.S.Steps.known c.args.s.now in
    let none : slice_get me.pieces.items me.next ≡ None = ap (λ (l : List Piece). slice_get l me.next) (sym c.as_slice.ensures.value) ∙ (sym c.piece_at.ensures ∙ c.in_default.is) in
    let now = subst (λ (x : SessionRun). IsSessionLive g.S.Steps.sound k began x) (sym c.finish.ensures.same) (finishes_whole g.S.Steps.sound began k me c.args.settings live c.requires.going none) in
    no_call g.S.Steps.sound began k _ c.finish.new.self now (rw c.finish.ensures.same (record { pieces = refl; from = refl; session = refl; round = refl }))

pub returns-then-is_err-clause-steps : goal.returns-then-is_err-clause-steps
returns-then-is_err-clause-steps g c = λ began live.
    let me = c.args.self.now in
    let k = g.S.Steps.known c.args.s.now in
    let room = reserved g.S.Steps.sound began k me c.args.settings c.reserve.new.self c.reserve.ensures.items live in
    let now = subst (λ (x : SessionRun). IsSessionLive g.S.Steps.sound k began x) (sym c.finish-then-is_err.ensures.same) (finishes_lacking g.S.Steps.sound began k (record me { items = c.reserve.new.self }) c.args.settings room c.requires.going) in
    no_call g.S.Steps.sound began k _ c.finish-then-is_err.new.self now (rw c.finish-then-is_err.ensures.same (record { pieces = refl; from = refl; session = refl; round = refl }))

pub start_piece-requires-clause-here : goal.start_piece-requires-clause-here
start_piece-requires-clause-here g c =
    let me = c.args.self.now in
    ap (λ (l : List Piece). slice_get l me.next) (sym c.as_slice.ensures.value) ∙ (sym c.piece_at.ensures ∙ c.in-Some.is)

pub returns-clause-steps : goal.returns-clause-steps
returns-clause-steps g c = λ began live.
    let me = c.args.self.now in
    let k = g.S.Steps.known c.args.s.now in
    let room = reserved g.S.Steps.sound began k me c.args.settings c.reserve.new.self c.reserve.ensures.items live in
    let here : slice_get me.pieces.items me.next ≡ Some c.in-Some.piece = ap (λ (l : List Piece). slice_get l me.next) (sym c.as_slice.ensures.value) ∙ (sym c.piece_at.ensures ∙ c.in-Some.is) in
    let now = starts g.S.Steps.sound began k (record me { items = c.reserve.new.self }) c.start_piece.new.self c.args.settings c.in-Some.piece c.seen.result c.seen.ensures room c.requires.going (search rules) here c.start_piece.ensures in
    no_call g.S.Steps.sound began k _ c.start_piece.new.self now (started_same me c.start_piece.new.self c.args.settings c.in-Some.piece c.seen.result c.reserve.new.self c.start_piece.ensures)
