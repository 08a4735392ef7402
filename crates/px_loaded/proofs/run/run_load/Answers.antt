use Rattle.std.proofs.Common.{◌≡◌, Bool, ◌||◌, refl, sym, ap, subst, ◌∙◌}
use Rattle.px_rounds.proofs.Rounding.{stays}
use Rattle.px_loaded.proofs.Running.{is_single, loaded, none_told, once, or_lacked, unfailed, unrun}
use Rattle.px_rounds.specs.Written.{IsTextWritten}
use Rattle.px_load.specs.Told.{told_of_load}
use Rattle.px_loaded.specs.Loads.{RanLoad}
use Rattle.px_loaded.proofs.run.run_load.Given.{Over}
use Rattle.px_loaded.proofs.run.run_load.Goals as goal
use Rattle.px_loaded.proofs.run.run_load.Goals.{then-lacked, else-lacked}

pub run_rounds-server-requires-clause-single : goal.run_rounds-server-requires-clause-single
run_rounds-server-requires-clause-single g c κs bounds = is_single (g.S.Steps.known c.args.server) c.requires.alone c.requires.nothing

pub returns-in_default-clause-goes : goal.returns-in_default-clause-goes
returns-in_default-clause-goes g c =
    let k = g.S.Steps.known c.args.server in
    stays k (is_single k c.requires.alone c.requires.nothing)

pub returns-in_default-clause-ran : goal.returns-in_default-clause-ran
returns-in_default-clause-ran g c = unrun g.S.Steps.sound (g.S.Steps.known c.args.server) c.args.load c.of.result _ c.requires.nothing (c.of.ensures ∙ c.new.ensures.items) refl

pub returns-in_default-clause-written : goal.returns-in_default-clause-written
returns-in_default-clause-written g c = none_told g.O.Sink c.args.out.now c.args.load c.of.result _ (c.of.ensures ∙ c.new.ensures.items)

-- memory was lacked by the rounds or by what is told of them
lacked_is : (g : Over) (c : goal.After-drop-script-inside g) → c.if-lacked.result ≡ (c.run_rounds-server.result.memory || c.write_told-sink_failed.result.1)
lacked_is g c =
    let a = c.run_rounds-server.result.memory in
    let b = c.write_told-sink_failed.result.1 in
    elim c.if-lacked.branch [
      | then-lacked w ↦ w.result-is ∙ (w.if-lacked.true ∙ sym (or_lacked a b w.if-lacked.true))
      | else-lacked w ↦ w.result-is ∙ sym (ap (λ (v : Bool). v || b) w.if-lacked.false)
    ]

pub returns-clause-ran : goal.returns-clause-ran
returns-clause-ran g c =
    let r = c.run_rounds-server.result in
    let w = c.write_told-sink_failed.result in
    subst (λ (v : Bool). RanLoad g.S.Steps.sound (g.S.Steps.known r.server) 0 c.args.load r.transcripts v) (sym (lacked_is g c))
    (loaded g.S.Steps.sound (g.S.Steps.known c.args.server) (g.S.Steps.known r.server) c.args.load r.transcripts c.in-Ok.script r.sink_failed r.memory _ c.requires.nothing c.in-Ok.ensures (unfailed r.sink_failed c.run_rounds-server.ensures.written.failed) (or_lacked r.memory w.1) c.run_rounds-server.ensures.ran)

pub returns-clause-written : goal.returns-clause-written
returns-clause-written g c =
    let r = c.run_rounds-server.result in
    let w = c.write_told-sink_failed.result in
    subst (λ (v : Bool). IsTextWritten g.O.Sink c.args.out.now c.write_told-sink_failed.new.out (told_of_load c.args.load r.transcripts) w.0 v) (sym (lacked_is g c))
    (once g.O.Sink c.args.out.now c.write_told-sink_failed.new.out _ w.0 w.1 r.memory c.write_told-sink_failed.ensures)
