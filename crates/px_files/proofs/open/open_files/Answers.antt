use Rattle.std.proofs.Common.{◌≡◌, Err, get_or, refl, sym, ap, subst, ◌∙◌, arith}
use Rattle.px_outside.proofs.Moments.{stays_then}
use Rattle.px_file.specs.Reading.{IsFirstWrongInFile}
use Rattle.px_gatelog.specs.declared.fault.StartFault.TheVariants.{Damaged}
use Rattle.px_wal.specs.Files.{file_of}
use Rattle.px_wal.specs.declared.snapshot.FileEntry.{FileEntry}
use Rattle.px_files.proofs.Opened.{at_any, calls_more, first_bad, no_entry, open_more}
use Rattle.px_files.proofs.open.open_files.Goals as goal

pub returns-in-Err-clause-damaged : goal.returns-in-Err-clause-damaged
returns-in-Err-clause-damaged g c = λ file place tells e.
    let entries = c.args.entries.now in
    let i = c.loop-entry.entry-index in
    let one = get_or entries i no_entry in
    let same : c.in-Err.fault ≡ Damaged file place = cc in
    let w = c.in-Err.ensures.damaged file place (ap Err same) in
    first_bad g.D.Disk c.args.region c.args.disk.now c.loop-entry.disk entries i one c.loop-entry.files.items file place tells c.loop-entry.invariant.open_ c.loop-entry-test.true (at_any entries i no_entry one c.loop-entry-test.true) c.loop-entry.invariant.seen
    (w.0 ∙ c.local_file.ensures ∙ ap (λ (x : FileEntry). file_of c.args.region x.local) (at_any entries i _ no_entry c.loop-entry-test.true))
    (subst (λ n. IsFirstWrongInFile (g.D.Disk.seen c.loop-entry.disk n) place) (sym w.0) (w.1 tells))

pub loop-entry-preserved : goal.loop-entry-preserved
loop-entry-preserved g c =
    let entries = c.args.entries.now in
    let i = c.loop-entry.entry-index in
    let one = get_or entries i no_entry in
    record {
      open_ =
          open_more g.D.Disk c.args.region c.loop-entry.disk c.open_one.new.disk entries i one c.loop-entry.files.items c.add_file.new.files.items c.in-Ok.file c.loop-entry.invariant.open_ c.loop-entry-test.true (at_any entries i no_entry one c.loop-entry-test.true)
          c.open_one.ensures.quiet c.open_one.ensures.seen (c.in-Ok.ensures.file ∙ c.local_file.ensures ∙ ap (λ (x : FileEntry). file_of c.args.region x.local) (at_any entries i _ no_entry c.loop-entry-test.true)) c.in-Ok.ensures.opened c.in-Ok-add_file.ensures;
      seen = c.open_one.ensures.seen ∙ c.loop-entry.invariant.seen;
      quiet = stays_then g.D.Disk.calls g.D.Disk.left c.args.disk.now c.loop-entry.disk c.open_one.new.disk c.loop-entry.invariant.quiet c.open_one.ensures.quiet;
      counts = calls_more g.D.Disk c.args.disk.now c.loop-entry.disk c.open_one.new.disk c.loop-entry.files.items c.add_file.new.files.items c.in-Ok.file c.in-Ok-add_file.ensures c.loop-entry.invariant.counts c.in-Ok.ensures.counts;
    }
