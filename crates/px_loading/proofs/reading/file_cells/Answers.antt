use Rattle.std.proofs.Common.{◌≡◌, Err, length, ap, ◌∙◌, arith}
use Rattle.std.proofs.lemmas.List.{take_all}
use Rattle.px_outside.proofs.Moments.{stays_then}
use Rattle.px_gatelog.specs.declared.fault.StartFault.TheVariants.{Damaged}
use Rattle.px_file.specs.Format.{cells_in}
use Rattle.px_file.proofs.Blocks.{length-index_of}
use Rattle.px_file.proofs.Kept.{kept_quiet}
use Rattle.px_loading.proofs.Loaded.{cells_more, passes_then}
use Rattle.px_loading.proofs.reading.file_cells.Goals as goal

pub returns-in-Err-clause-sound : goal.returns-in-Err-clause-sound
returns-in-Err-clause-sound g c = λ blocks at place tells has told.
    let same : c.in-Err.fault ≡ Damaged at place = cc in
    c.in-Err.ensures.sound blocks at place tells (kept_quiet g.D.Disk c.args.disk.now c.loop-number.disk c.args.file.now blocks c.loop-number.invariant.quiet c.loop-number.invariant.seen has) (c.loop-number.invariant.read blocks tells has) (ap Err same)

pub loop-number-preserved : goal.loop-number-preserved
loop-number-preserved g c = record {
  read = λ blocks tells has.
      cells_more blocks c.loop-number.number c.loop-number.cells.items c.add_block.new.cells.items
      (let l = length-index_of 8 blocks in let e = ap length has.index.entries in let t = c.loop-number-test.true in let b = c.blocks-number-end.ensures in omega arith) (c.loop-number.invariant.read blocks tells has)
      (c.in-Ok.ensures.added blocks tells (kept_quiet g.D.Disk c.args.disk.now c.loop-number.disk c.args.file.now blocks c.loop-number.invariant.quiet c.loop-number.invariant.seen has));
  sorted = c.in-Ok.ensures.sorted;
  seen = c.add_block.ensures.seen ∙ c.loop-number.invariant.seen;
  quiet = stays_then g.D.Disk.calls g.D.Disk.left c.args.disk.now c.loop-number.disk c.add_block.new.disk c.loop-number.invariant.quiet c.add_block.ensures.quiet;
  counts = passes_then g.D.Disk c.args.disk.now c.loop-number.disk c.add_block.new.disk c.loop-number.number 1 _ c.loop-number.invariant.counts c.add_block.ensures.counts (omega arith);
}

pub returns-clause-read : goal.returns-clause-read
returns-clause-read g c = λ blocks tells has.
    c.from_vec.ensures ∙ c.loop-number.invariant.read blocks tells has ∙ ap cells_in (take_all c.loop-number.number blocks
    (let l = length-index_of 8 blocks in let e = ap length has.index.entries in let t = c.loop-number-test.false in let b = c.blocks-number-end.ensures in omega arith))
