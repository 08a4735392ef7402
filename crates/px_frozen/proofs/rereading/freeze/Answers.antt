use Rattle.std.proofs.Common.{◌≡◌, Err, ap, subst, sym, ◌∙◌}
use Rattle.std.proofs.lemmas.Bool.{both_ways}
use Rattle.px_cellbytes.specs.Reading.{IsWritten}
use Rattle.px_gatelog.specs.declared.fault.StartFault.TheVariants.{Damaged}
use Rattle.px_frozen.specs.FrozenData.{FrozenData}
use Rattle.px_frozen.proofs.Reread.{again_written, frozen_by}
use Rattle.px_frozen.proofs.rereading.freeze.Goals as goal

pub returns-in-Err-clause-sound : goal.returns-in-Err-clause-sound
returns-in-Err-clause-sound g c = λ batches has file place e.
    let same : c.in-Err.fault ≡ Damaged file place = cc in
    c.in-Err.ensures.sound c.args.region batches has file place (ap (λ f. Err f) same)

pub returns-then-not-are_written-clause-sound : goal.returns-then-not-are_written-clause-sound
returns-then-not-are_written-clause-sound g c = λ batches has file place e.
    both_ways _ c.if-not-are_written.true
    (c.are_written.ensures.1 (subst IsWritten (sym (c.as_slice.ensures ∙ c.into_cells-cells.ensures.cells))
    (again_written g.D.Disk c.args.region c.args.flushed c.args.disk.now c.args.wal.now batches has c.in-Ok.again (c.in-Ok.ensures.read c.args.region batches has))))

pub returns-clause-frozen : goal.returns-clause-frozen
returns-clause-frozen g c = λ batches has.
    frozen_by g.D.Disk c.args.region c.args.flushed c.args.disk.now c.args.wal.now batches has c.in-Ok.again (c.in-Ok.ensures.read c.args.region batches has) c.requires.left c.new.result (ap (λ (f : FrozenData). f.upto) c.new.ensures ∙ c.older_to.ensures)
    (ap (λ (f : FrozenData). f.cells) c.new.ensures ∙ c.into_cells-cells.ensures.cells) (ap (λ (f : FrozenData). f.count) c.new.ensures) (ap (λ (f : FrozenData). f.bytes) c.new.ensures)
