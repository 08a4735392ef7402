use Rattle.std.proofs.Common.{sym, subst}
use Rattle.px_recovery.proofs.Notes.{IsIdle, after_shut_idle, shut_idle, stands_late, stands_quiet}
use Rattle.px_recovery.proofs.law_entries.Goals as goal

pub returns : goal.returns
returns c = record {
  quiet = stands_quiet;
  late = λ b es e u image after stands. stands_late b es e u (after_shut_idle e.act after) image stands;
  shut = λ b es e u image call is stands. stands_late b es e u (subst IsIdle (sym is) (shut_idle call)) image stands;
}
