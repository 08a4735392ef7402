use Rattle.std.proofs.Common.{rules, suc, ◌≡◌, ◌++◌, ◌∷◌, [], List, take, drop, get_or, ap, subst, ◌∙◌}
use Rattle.px_gatelog.specs.declared.fault.StartFault.TheVariants.{Damaged}
use Rattle.px_outside.specs.Disk.{Image}
use Rattle.px_outside.proofs.Moments.{stays_then}
use Rattle.px_region.specs.Opened as region
use Rattle.px_region.specs.declared.region.Region.{Region}
use Rattle.px_region.proofs.Calls.{passes_then}
use Rattle.px_folder.proofs.Calls.{opened_more}
use Rattle.px_folder.proofs.Reading.{all_whole, more_read, next_numbers, parts_at}
use Rattle.px_folder.proofs.folder.open_regions.Goals as goal

pub returns-in-Err-clause-damaged : goal.returns-in-Err-clause-damaged
returns-in-Err-clause-damaged g c = λ file place is tells.
    let d = g.D.Disk in
    let i = c.loop-number.number-index in
    let ns = c.args.numbers.now in
    let f : c.in-Err.fault ≡ Damaged file place = cc in
    record {
      before = take i ns;
      number = get_or ns i 0;
      after = drop (suc i) ns;
      is = parts_at ns i c.loop-number-test.true;
      whole = all_whole d c.args.disk.now c.loop-number.disk c.loop-number.regions.items (take i ns) c.loop-number.invariant.numbers (c.loop-number.invariant.read tells);
      damaged = subst (λ (image : Image). region.IsFirstDamagedInRegion (get_or ns i 0) image file place) c.loop-number.invariant.seen (c.in-Err.ensures.damaged file place (search rules) tells);
    }

pub returns-then-is_err-clause-quiet : goal.returns-then-is_err-clause-quiet
returns-then-is_err-clause-quiet g c =
    let d = g.D.Disk in
    stays_then d.calls d.left c.args.disk.now c.loop-number.disk c.reopen.new.disk c.loop-number.invariant.quiet c.reopen.ensures.quiet

pub loop-number-preserved : goal.loop-number-preserved
loop-number-preserved g c =
    let d = g.D.Disk in
    let i = c.loop-number.number-index in
    let ns = c.args.numbers.now in
    let inv = c.loop-number.invariant in
    let items : c.push.new.self.items ≡ c.loop-number.regions.items ++ c.in-Ok.region ∷ [] = search rules in
    let number : c.in-Ok.region.number ≡ get_or ns i 0 = (c.in-Ok.ensures.fresh).0 in
    record {
      numbers = next_numbers c.loop-number.regions.items c.push.new.self.items c.in-Ok.region ns i items inv.numbers c.loop-number-test.true number;
      read = λ tells. (let o = c.in-Ok.ensures.opened tells in
          more_read d c.args.disk.now c.loop-number.disk c.reopen.new.disk (get_or ns i 0) c.in-Ok.region c.loop-number.regions.items c.push.new.self.items items inv.seen c.reopen.ensures.quiet c.reopen.ensures.seen (inv.read tells) number o.0 o.1 o.2);
      seen = c.reopen.ensures.seen ∙ inv.seen;
      quiet = stays_then d.calls d.left c.args.disk.now c.loop-number.disk c.reopen.new.disk inv.quiet c.reopen.ensures.quiet;
      passed = (_, passes_then d c.args.disk.now c.loop-number.disk c.reopen.new.disk inv.passed.0 _ inv.passed.1 c.in-Ok.ensures.counts);
      opened_by = λ calls tells all.
          opened_more d c.args.disk.now c.loop-number.disk c.reopen.new.disk ns i calls c.loop-number-test.true all inv.seen (inv.opened_by calls tells) (λ one. c.in-Ok.ensures.opened_by (calls (get_or ns i 0)) tells one);
    }
