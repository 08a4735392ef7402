use Rattle.std.proofs.Common.{◌∙◌, Ok, List, ap, arith, length, refl, sym, subst}
use Rattle.std.specs.Option.{option_copied}
use Rattle.px_cells.specs.CellData.{CellData}
use Rattle.px_cells.specs.Contents.{value_at}
use Rattle.px_region.specs.Region.{read_of}
use Rattle.px_calls.specs.declared.query.FoundKey.{FoundKey}
use Rattle.px_looks.specs.Found.{AreNext}
use Rattle.px_looks.specs.declared.next.Way.TheVariants.{Over}
use Rattle.px_looks.specs.inner.Parts.{FoundTo}
use Rattle.px_looks.proofs.Parts.{nothing_to}
use Rattle.px_region.proofs.Alike.{alike_refl}
use Rattle.px_region.proofs.OnlyRead.{reads_none}
use Rattle.px_looks.proofs.next.look_next.Goals as goal

pub loop-round-init : goal.loop-round-init
loop-round-init g c =
    let shows = g.R.Reader.shows c.args.reader.now in
    let cells = value_at (read_of c.args.region.now) in
    let l = ap length c.new-found.ensures.items in
    record {
      found = subst (λ (l : List FoundKey). FoundTo shows cells c.in-Ok.from (option_copied c.args.high) c.in-Ok.from l) (sym c.new-found.ensures.items) (nothing_to shows cells c.in-Ok.from (option_copied c.args.high));
      few = omega arith;
      alike = alike_refl c.args.region.now;
      promised = record { cells = refl; bytes = refl };
      counted = omega arith;
      risen = omega arith;
      only_read = reads_none g.D.Disk g.met.D.Disk.up_to_now c.args.disk.now;
    }

pub returns-in-Over-clause-next : goal.returns-in-Over-clause-next
returns-in-Over-clause-next g c =
    let shows = g.R.Reader.shows c.args.reader.now in
    let high = option_copied c.args.high in
    let after = option_copied c.args.after in
    let same = c.loop-round.invariant.alike.store in
    let found = subst (λ (l : List CellData). FoundTo shows (value_at l) c.in-Ok.from high c.loop-round.from c.loop-round.found.items) (sym same) c.loop-round.invariant.found in
    let over = c.look_on.ensures.over c.in-Over.next (c.in_ok-look_on.was ∙ ap Ok c.in-Over.is) c.in-Ok.from c.args.low.now after c.in-Ok.ensures found in
    subst (λ (l : List FoundKey). AreNext shows (value_at (read_of c.args.region.now)) c.args.low.now high after l c.in-Over.next) (sym c.of.ensures)
    (subst (λ (l : List CellData). AreNext shows (value_at l) c.args.low.now high after c.look_on.new.found.items c.in-Over.next) same over)

pub returns-in-Over-clause-counted : goal.returns-in-Over-clause-counted
returns-in-Over-clause-counted g c =
    let more = c.look_on.ensures.counted (Over c.in-Over.next) c.args.region.now.looked (c.in_ok-look_on.was ∙ ap Ok c.in-Over.is) c.loop-round.invariant.counted in
    let l = ap length c.of.ensures in
    omega arith
