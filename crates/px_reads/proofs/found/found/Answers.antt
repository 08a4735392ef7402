use Rattle.std.proofs.Common.{Err, ◌≡◌, ◌∙◌, ◌∷◌, List, sym, ap, subst}
use Rattle.std.specs.Prelude.{IsOk}
use Rattle.std.specs.Option.{option_copied}
use Rattle.std.proofs.lemmas.Result.{err_from_is_err_and}
use Rattle.px_cells.specs.Order.{IsAscending}
use Rattle.px_file.proofs.Walking.{rose_from}
use Rattle.px_file.specs.declared.fault.FileFault.TheVariants.{ReadFault}
use Rattle.px_merge.specs.Merged.{joined}
use Rattle.px_merge.specs.Settle.{settle}
use Rattle.px_merge.proofs.Settling.{settle_is}
use Rattle.px_sources.specs.Sources.{AllGive}
use Rattle.px_sources.specs.declared.source.Source.{Source}
use Rattle.px_reads.specs.Range.{AllWithin}
use Rattle.px_reads.proofs.Fronts.{front_ascending, front_within, given_within}
use Rattle.px_reads.proofs.found.found.Goals as goal

pub returns-in_err-copies-clause-failed : goal.returns-in_err-copies-clause-failed
returns-in_err-copies-clause-failed g c = λ e.
    let p = err_from_is_err_and c.from_residual-in_err-copies.result c.from_residual-in_err-copies.ensures.1 in
    let one = p.1 in
    let two = p.2 in
    let same : c.in_err-copies.field-0.0 ≡ ReadFault = cc in
    rose_from g.D.Disk 0 c.args.disk.now c.sources_of.new.disk c.gather.new.disk c.sources_of.ensures.faults (c.gather.ensures.failed (c.in_err-copies.was ∙ ap Err same))

pub returns-clause-sound : goal.returns-clause-sound
returns-clause-sound g c = λ lists at place tells have e.
    let x = c.in_ok-sources.ensures.give lists tells have c.requires.newer.0 c.requires.older.0 c.requires.row in
    let give = subst (λ (s : List Source). AllGive g.D.Disk s c.sources_of.new.disk (c.args.newer.now ∷ c.args.older.now ∷ x.0)) (sym c.as_mut_slice.ensures.value) x.1 in
    let front = c.in_ok-copies.ensures.front (c.args.newer.now ∷ c.args.older.now ∷ x.0) give in
    let all = settle (joined (c.args.newer.now ∷ c.args.older.now ∷ x.0)) in
    let low = c.args.range.low.now in
    let high = option_copied c.args.range.high in
    let copies = c.in_ok-copies.copies in
    let sorted = front_ascending all c.args.most copies.cells.items copies.rows front (settle_is (joined (c.args.newer.now ∷ c.args.older.now ∷ x.0))).ascending in
    let within = front_within all c.args.most copies.cells.items copies.rows front low high (given_within low high c.args.newer.now c.args.older.now (joined lists) x.0 c.requires.newer.1 c.requires.older.1 x.2) in
    let ok = c.tested.ensures.passed front.few (subst IsAscending (sym c.from_vec.ensures) sorted) (subst (AllWithin low high) (sym c.from_vec.ensures) within) in
    (let not = subst IsOk e ok in cc)
