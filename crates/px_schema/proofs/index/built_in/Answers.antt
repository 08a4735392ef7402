use Rattle.px_schema.specs.Format.{birth, built}
use Rattle.px_schema.specs.Parts.{id}
use Rattle.px_schema.proofs.Joins.{exit_reads, exit_wrong}
use Rattle.px_schema.proofs.TableSteps.{built_birth, built_covered, built_region, built_state, built_taken}
use Rattle.px_schema.proofs.index.built_in.Goals as goal

pub returns-in_err-state : goal.returns-in_err-state
returns-in_err-state c =
    exit_wrong (built c.args.columns) c.args.bytes.now c.args.at c.from_residual.result c.in_err-state.field-0.0.place c.from_residual.ensures.1 (built_state c.args.bytes.now c.args.at c.args.columns c.in_err-state.field-0.0.place c.in_err-state.ensures.stopped)

pub returns-in_err-birth : goal.returns-in_err-birth
unfolding birth
returns-in_err-birth c =
    exit_wrong (built c.args.columns) c.args.bytes.now c.args.at c.from_residual-in_err-birth.result c.in_err-birth.field-0.0.place c.from_residual-in_err-birth.ensures.1
    (built_birth c.args.bytes.now c.args.at c.args.columns c.in_ok-state.state c.in_err-birth.field-0.0.place c.in_ok-state.ensures.taken c.in_err-birth.ensures.stopped)

pub returns-in_err-region : goal.returns-in_err-region
unfolding birth id
returns-in_err-region c =
    exit_wrong (built c.args.columns) c.args.bytes.now c.args.at c.from_residual-in_err-region.result c.in_err-region.field-0.0.place c.from_residual-in_err-region.ensures.1
    (built_region c.args.bytes.now c.args.at c.args.columns c.in_ok-state.state c.in_ok-birth.birth c.in_err-region.field-0.0.place c.in_ok-state.ensures.taken c.in_ok-birth.ensures.taken c.in_err-region.ensures.stopped)

pub returns-in_err-covered : goal.returns-in_err-covered
unfolding birth id
returns-in_err-covered c =
    exit_reads (built c.args.columns) c.args.bytes.now c.args.at c.from_residual-in_err-covered.result c.in_err-covered.field-0.0 c.from_residual-in_err-covered.ensures.1
    (built_covered c.args.bytes.now c.args.at c.args.columns c.in_ok-state.state c.in_ok-birth.birth c.in_ok-region.region c.in_err-covered.field-0.0 c.in_ok-state.ensures.taken c.in_ok-birth.ensures.taken c.in_ok-region.ensures.taken c.in_err-covered.ensures)

pub returns : goal.returns
unfolding birth id
returns c = built_taken c.args.bytes.now c.args.at c.args.columns c.in_ok-state.state c.in_ok-birth.birth c.in_ok-region.region c.in_ok-covered.covered c.in_ok-covered.end c.in_ok-state.ensures.taken c.in_ok-birth.ensures.taken c.in_ok-region.ensures.taken c.in_ok-covered.ensures
