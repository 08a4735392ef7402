use Rattle.std.proofs.Common.{rules, ◌≡◌, ◌∙◌, ℕ, refl, sym, ap, subst}
use Rattle.std.proofs.Crossing.{crosses}
use denote.Param.Send.{sendable}
use Rattle.px_turn.specs.Seats.{seen_by_seat}
use Rattle.px_seat.specs.Grown.{mine}
use Rattle.px_session.specs.Live.{StartsFrom}
use Rattle.px_session.proofs.Lives.{begins}
use Rattle.px_rounds.specs.declared.job.Stage.TheVariants.{Ready}
use Rattle.px_rounds.proofs.job.Job.run.Goals as goal

pub run_gated-requires : goal.run_gated-requires
run_gated-requires g c =
    let k = mine c.args.self.now.at.id g.B.Based.base g.B.Based.damaged (seen_by_seat c.args.self.now.at.seat) in
    λ κs. (search (sendable, crosses) depth 40, (c.in-Ready.state, begins g.S.Steps.sound c.in-Ready.state c.seen-from.result c.of-run.result k c.seen-from.ensures c.of-run.ensures.starts))

pub transcript-transcript-requires-clause-live : goal.transcript-transcript-requires-clause-live
transcript-transcript-requires-clause-live g c =
    let k = mine c.args.self.now.at.id g.B.Based.base g.B.Based.damaged (seen_by_seat c.args.self.now.at.seat) in
    let k' = mine c.run_gated.new.s.id g.B.Based.base g.B.Based.damaged (seen_by_seat c.run_gated.new.s.seat) in
    let live = begins g.S.Steps.sound c.in-Ready.state c.seen-from.result c.of-run.result k c.seen-from.ensures c.of-run.ensures.starts in
    (k', c.in-Ready.state, (c.run_gated.ensures.ran.steps c.in-Ready.state live).live)

pub returns-clause-ran : goal.returns-clause-ran
returns-clause-ran g c =
    let was : c.args.self.now.stage ≡ Ready c.in-Ready.pieces c.in-Ready.state = search rules in
    record {
      pieces = c.in-Ready.pieces;
      state = c.in-Ready.state;
      came = _;
      was = was;
      is = refl;
      first = c.of-run.result;
      last = c.run_gated.new.course;
      begins = record {
        pieces_are = ap (λ v. v.items) c.of-run.ensures.pieces;
        session = c.of-run.ensures.named.0 ∙ sym c.requires.ready.seat;
        round = c.of-run.ensures.named.1;
        starts = subst (λ (n : ℕ). StartsFrom c.in-Ready.state n c.of-run.result) c.seen-from.ensures c.of-run.ensures.starts;
      };
      ran = c.run_gated.ensures.ran;
      told = record { session = c.transcript-transcript.ensures.session.0; round = c.transcript-transcript.ensures.session.1; answered = c.transcript-transcript.ensures.answered };
    }
