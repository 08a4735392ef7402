use Rattle.std.proofs.Common.{Err, ◌≡◌, ◌∙◌, ◌∷◌, ◌++◌, List, take, sym, ap, subst, arith}
use Rattle.std.specs.Option.{option_copied}
use Rattle.std.proofs.lemmas.List.{take_all}
use Rattle.std.proofs.lemmas.Result.{err_from_is_err_and}
use Rattle.px_outside.proofs.Moments.{stays_then}
use Rattle.px_cells.specs.CellData.{CellData}
use Rattle.px_file.specs.declared.fault.FileFault.TheVariants.{Damaged}
use Rattle.px_merge.specs.Merged.{joined}
use Rattle.px_merge.specs.Parts.{ReadsPart}
use Rattle.px_reads.specs.Range.{IsWithin}
use Rattle.px_reads.proofs.Lists.{have_length, list_at, list_quiet}
use Rattle.px_reads.proofs.Rows.{part_more}
use Rattle.px_reads.proofs.sources.sources_of.Goals as goal

pub returns-in_err-add_file-clause-sound : goal.returns-in_err-add_file-clause-sound
returns-in_err-add_file-clause-sound g c = λ lists at place tells have e.
    let x = list_at g.D.Disk c.args.files.now c.args.disk.now lists c.loop-read.read-index c.read-item.result c.loop-read-test.true c.read-item.is have in
    let has = list_quiet g.D.Disk c.read-item.result c.args.disk.now c.loop-read.disk x.list c.loop-read.invariant.quiet c.loop-read.invariant.seen x.has in
    let p = err_from_is_err_and c.from_residual-in_err-add_file.result c.from_residual-in_err-add_file.ensures.1 in
    let one = p.1 in
    let two = p.2 in
    let same : c.in_err-add_file.field-0.0 ≡ Damaged at place = cc in
    c.add_file.ensures.sound x.list at place tells has (c.in_err-add_file.was ∙ ap Err same)

pub loop-read-preserved : goal.loop-read-preserved
loop-read-preserved g c = record {
  give = λ lists tells have newer older range.
      (let x = list_at g.D.Disk c.args.files.now c.args.disk.now lists c.loop-read.read-index c.read-item.result c.loop-read-test.true c.read-item.is have in
      let has = list_quiet g.D.Disk c.read-item.result c.args.disk.now c.loop-read.disk x.list c.loop-read.invariant.quiet c.loop-read.invariant.seen x.has in
      let before = c.loop-read.invariant.give lists tells have newer older range in
      let more = c.in_ok-add_file.ensures.give (c.args.newer.now ∷ c.args.older.now ∷ before.parts) x.list tells has range before.give in
      let keys = IsWithin c.args.range.low.now (option_copied c.args.range.high) in
      record {
        parts = before.parts ++ more.0;
        give = more.1;
        part = subst (λ (l : List (List CellData)). ReadsPart keys (joined l) (joined (before.parts ++ more.0))) (sym x.taken) (part_more keys (take c.loop-read.read-index lists) before.parts more.0 x.list before.part more.2);
      });
  seen = c.add_file.ensures.seen ∙ c.loop-read.invariant.seen;
  quiet = stays_then g.D.Disk.calls g.D.Disk.left c.args.disk.now c.loop-read.disk c.add_file.new.disk c.loop-read.invariant.quiet c.add_file.ensures.quiet;
  faults = omega (arith, c.loop-read.invariant.faults, c.add_file.ensures.faults);
}

pub returns-clause-give : goal.returns-clause-give
returns-clause-give g c = λ lists tells have newer older range.
    let given = c.loop-read.invariant.give lists tells have newer older range in
    let whole : take c.loop-read.read-index lists ≡ lists = take_all c.loop-read.read-index lists (let l = have_length g.D.Disk c.args.files.now c.args.disk.now lists have in let e = c.loop-read-test.false in omega arith) in
    (given.parts, given.give, subst (λ (l : List (List CellData)). ReadsPart (IsWithin c.args.range.low.now (option_copied c.args.range.high)) (joined l) (joined given.parts)) whole given.part)
