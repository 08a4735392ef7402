use Rattle.std.proofs.Common.{inl, subst}
use Rattle.px_script.specs.declared.piece.Span.{Span}
use Rattle.px_session.specs.Live.{IsPushed}
use Rattle.px_session.proofs.run.SessionRun.start_piece.Goals as goal

pub returns-in-Told : goal.returns-in-Told
returns-in-Told c =
    inl (c.in-Told.answered, c.in-Told.ensures.0, c.in-Told.ensures.1, subst (λ (x : Span). IsPushed c.args.self.now x c.in-Told.answered c.args.first c.push.new.self) c.place_of-span.ensures c.push.ensures)
