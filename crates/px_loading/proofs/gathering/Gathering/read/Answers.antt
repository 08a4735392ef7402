use Rattle.std.proofs.Common.{◌≡◌, ◌++◌, [], Err, get_or, refl, ap, subst, sym, ◌∙◌, ◌-◌}
use Rattle.std.proofs.Math.Logic.{∥∥₁_elim}
use Rattle.px_cells.specs.Order.{IsAscending}
use Rattle.px_gatelog.specs.declared.fault.StartFault.TheVariants.{Damaged}
use Rattle.px_loading.proofs.Gathered.{ascending_prop, gathered_more, its_blocks}
use Rattle.px_loading.proofs.gathering.Gathering.read.Goals as goal

pub add_block-requires-clause-sorted : goal.add_block-requires-clause-sorted
add_block-requires-clause-sorted g c = ∥∥₁_elim c.args.self.now.sorted (ascending_prop c.replace-cells.result.items) (λ a. subst IsAscending (sym (ap (λ v. v.items) c.replace-cells.ensures.value)) a)

pub returns-in-Ok-clause-done : goal.returns-in-Ok-clause-done
returns-in-Ok-clause-done g c = λ files blocks some within is has.
    let self = c.args.self.now in
    let block = get_or blocks (self.left - 1) [] in
    let its = its_blocks g.D.Disk self c.args.disk.now files blocks c.args.file.now some within is has in
    let more = c.in-Ok.ensures.added block has.tells its ∙ ap (λ v. v.items ++ get_or block self.block []) c.replace-cells.ensures.value in
    gathered_more g.D.Disk self c.args.disk.now files blocks c.args.file.now some within is has _ c.add_block.new.disk c.add_block.new.cells.items c.add_block.ensures.quiet c.add_block.ensures.seen more c.requires.within refl refl refl refl

pub returns-in-Err-clause-sound : goal.returns-in-Err-clause-sound
returns-in-Err-clause-sound g c = λ files blocks at place some within is has told.
    let self = c.args.self.now in
    let its = its_blocks g.D.Disk self c.args.disk.now files blocks c.args.file.now some within is has in
    let same : c.in-Err.fault ≡ Damaged at place = cc in
    c.in-Err.ensures.sound (get_or blocks (self.left - 1) []) at place has.tells its (ap (λ v. v.items) c.replace-cells.ensures.value ∙ has.cells) (ap Err same)
