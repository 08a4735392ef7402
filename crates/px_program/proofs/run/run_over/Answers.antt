use Rattle.std.proofs.Common.{true, inl, rules, sym, subst}
use Rattle.px_trail.specs.Legal.{IsLegal}
use Rattle.px_program.specs.Answers.{AnswersJob}
use Rattle.px_program.specs.Run.{known_over}
use Rattle.px_program.proofs.run.run_over.Goals as goal

pub returns-in-Ok : goal.returns-in-Ok
returns-in-Ok g c =
    let b = g.B.Based.base in
    let sound = g.B.Founded.sound in
    let s = c.serve-server in
    let r = s.result in
    let f = c.finish-disk.ensures in
    let job = c.args.job in
    inl (record {
      legal = subst (λ es. IsLegal b es) (sym f.entries) s.ensures.goes.single.legal;
      stamped = f.stamped;
      back = f.back;
      seat = r.server.seat;
      sink_failed = r.sink_failed;
      replied = subst (λ es. AnswersJob sound (known_over b r.server.seat es) 0 job r.transcripts r.sink_failed r.memory) (sym f.entries)
          (subst (λ damaged. AnswersJob sound (record { seat = r.server.seat; base = b; damaged = damaged; alone = true; seen = r.server.entries }) 0 job r.transcripts r.sink_failed r.memory) c.requires.damaged s.ensures.answered);
      written = s.ensures.written;
      recovers = f.recovers;
      stands = f.stands;
      unlate = f.unlate;
      late_is = f.late_is;
      closed_at = f.closed_at;
      status = search rules;
      blamed = f.blamed;
      others = f.others;
    })
