use Rattle.std.proofs.Common.{◌≡◌, Err, List, [], sym, ap, ◌∙◌, arith}
use Rattle.px_cells.specs.CellData.{CellData}
use Rattle.px_gatelog.specs.declared.fault.StartFault.TheVariants.{Damaged}
use Rattle.px_file.proofs.Kept.{kept_quiet}
use Rattle.px_merge.specs.Merged.{joined}
use Rattle.px_merge.specs.Settle.{settle}
use Rattle.px_merge.proofs.Settling.{settle_sorted}
use Rattle.px_loading.proofs.Loaded.{have_first, have_none, if_ok, settled_over}
use Rattle.px_loading.proofs.loading.+load_files.Goals as goal

pub returns-in-Err-clause-sound : goal.returns-in-Err-clause-sound
returns-in-Err-clause-sound g t c = λ region named lists tells have file place told.
    let first = have_first g.D.Disk region c.args.disk.now named c.args.files.now c.first-item.result lists c.in-len1-up.len_at_least c.first-item.is have in
    let same : c.in-Err.fault ≡ Damaged file place = cc in
    c.in-Err.ensures.sound region first.others first.behind tells first.have file place (ap Err same)

pub returns-in-empty-clause-loaded : goal.returns-in-empty-clause-loaded
returns-in-empty-clause-loaded g t c = λ region named lists tells have.
    let none = have_none g.D.Disk region c.args.disk.now named c.args.files.now lists (let l = c.in-empty.len_below in omega arith) have in
    c.new.ensures ∙ sym (settle_sorted [] tt) ∙ ap (λ (l : List (List CellData)). settle (joined l)) (sym none)

pub returns-in-Ok-file_cells-clause-loaded : goal.returns-in-Ok-file_cells-clause-loaded
returns-in-Ok-file_cells-clause-loaded g t c = λ region named lists tells have.
    let first = have_first g.D.Disk region c.args.disk.now named c.args.files.now c.first-item.result lists c.in-len1-up.len_at_least c.first-item.is have in
    let kept = kept_quiet g.D.Disk c.args.disk.now c.load_files.new.disk c.first-item.result first.has.blocks c.load_files.ensures.quiet c.load_files.ensures.seen first.has.has in
    let read = c.in-Ok-file_cells.ensures.read first.has.blocks tells kept in
    if_ok c.put_over.result _ _
    (λ m over. settled_over first.list c.in-Ok-file_cells.cells c.in-Ok.older.cells m.cells first.behind lists (read ∙ sym first.has.cells) (c.in-Ok.ensures.loaded region first.others first.behind tells first.have) over first.cut)
    c.put_over.ensures.put

pub returns-in-Err-file_cells-clause-sound : goal.returns-in-Err-file_cells-clause-sound
returns-in-Err-file_cells-clause-sound g t c = λ region named lists tells have file place told.
    let first = have_first g.D.Disk region c.args.disk.now named c.args.files.now c.first-item.result lists c.in-len1-up.len_at_least c.first-item.is have in
    let kept = kept_quiet g.D.Disk c.args.disk.now c.load_files.new.disk c.first-item.result first.has.blocks c.load_files.ensures.quiet c.load_files.ensures.seen first.has.has in
    let same : c.in-Err-file_cells.fault ≡ Damaged file place = cc in
    c.in-Err-file_cells.ensures.sound first.has.blocks file place tells kept (ap Err same)
