use Rattle.std.proofs.Common.{length, sym, subst, ◌∙◌}
use Rattle.std.proofs.Crossing.{crosses}
use denote.Param.Send.{sendable}
use Rattle.px_values.specs.declared.name.IndexId.{IndexId}
use Rattle.px_values.specs.declared.name.TableId.{TableId}
use Rattle.px_calls.specs.Known.{outline}
use Rattle.px_verifying.specs.declared.answer.VerifyKind.{VerifyKind}
use Rattle.px_verifying.specs.Turns.{FitsState}
use Rattle.px_verifying.proofs.Whole.{ends-as, of-this, so-far, steps-on, waits-on}
use Rattle.px_verifying.proofs.run.run_verify.Goals as goal

pub steps-init : goal.steps-init
steps-init g c = record {
  so_far = rw c.new-run.ensures.done (so-far g.S.Steps.sound c.args.table c.args.index c.args.kind (g.S.Steps.known c.args.s.now) _ c.requires c.new-run.ensures.state);
  table = c.new-run.ensures.table;
  index = c.new-run.ensures.index;
  kind = c.new-run.ensures.kind;
}

pub step-requires : goal.step-requires
step-requires g c =
    let i = c.steps.invariant in
    let F : TableId × IndexId × VerifyKind → Type 0 = λ q. FitsState g.S.Steps.sound (length (g.S.Steps.known c.args.s.now).seen) q.0 q.1 q.2 (outline i.so_far.acts) c.steps.run.done c.steps.run.state (g.S.Steps.known c.steps.s) in
    (search (sendable, crosses) depth 40, (length (g.S.Steps.known c.args.s.now).seen, outline i.so_far.acts, subst F (λ j. (sym i.table j, sym i.index j, sym i.kind j)) i.so_far.fits))

pub steps-preserved-in-Stepped : goal.steps-preserved-in-Stepped
steps-preserved-in-Stepped g c =
    let i = c.steps.invariant in
    let z = of-this g.S.Steps.sound c.args.table c.args.index c.args.kind _ _ _ _ _ _ _ i.so_far _ _ _ _ i.table i.index i.kind c.in-Stepped.ensures.turns in
    record {
      so_far = steps-on g.S.Steps.sound c.args.table c.args.index c.args.kind _ _ _ _ _ _ _ i.so_far z;
      table = c.step.ensures.table ∙ i.table;
      index = c.step.ensures.index ∙ i.index;
      kind = c.step.ensures.kind ∙ i.kind;
    }

pub steps-preserved : goal.steps-preserved
steps-preserved g c =
    let i = c.steps.invariant in
    let z = of-this g.S.Steps.sound c.args.table c.args.index c.args.kind _ _ _ _ _ _ _ i.so_far _ _ _ _ i.table i.index i.kind c.in-Waiting.ensures.turns in
    record {
      so_far = waits-on g.S.Steps.sound c.args.table c.args.index c.args.kind _ _ _ _ _ _ _ i.so_far z;
      table = c.step.ensures.table ∙ i.table;
      index = c.step.ensures.index ∙ i.index;
      kind = c.step.ensures.kind ∙ i.kind;
    }

pub returns-in-Over : goal.returns-in-Over
returns-in-Over g c =
    let i = c.steps.invariant in
    let z = of-this g.S.Steps.sound c.args.table c.args.index c.args.kind _ _ _ _ _ _ _ i.so_far _ _ _ _ i.table i.index i.kind c.in-Over.ensures.turns in
    ends-as g.S.Steps.sound c.args.table c.args.index c.args.kind _ _ _ _ _ _ _ i.so_far _ z

pub finish-requires : goal.finish-requires
finish-requires g c =
    let i = c.steps.invariant in
    let z = of-this g.S.Steps.sound c.args.table c.args.index c.args.kind _ _ _ _ _ _ _ i.so_far _ _ _ _ i.table i.index i.kind c.in-Over.ensures.turns in
    z.told.0
