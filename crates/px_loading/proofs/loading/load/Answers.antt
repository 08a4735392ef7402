use Rattle.std.proofs.Common.{◌++◌, List, length, sym, ap, ◌∙◌}
use Rattle.std.proofs.lemmas.Bool.{eqb-true}
use Rattle.px_cells.specs.CellData.{CellData}
use Rattle.px_merge.specs.Settle.{settle}
use Rattle.px_loading.proofs.Loaded.{have_none, if_ok, settled_all, settled_alone}
use Rattle.px_loading.proofs.loading.load.Goals as goal

pub returns-then-is_empty-clause-loaded : goal.returns-then-is_empty-clause-loaded
returns-then-is_empty-clause-loaded g c = λ region named lists tells have.
    settled_alone c.args.store.cells lists c.piece_count-count.ensures.sorted (have_none g.D.Disk region c.args.disk.now named c.args.files.now lists (eqb-true (length c.args.files.now) 0 (sym c.if-is_empty.ensures)) have)

pub returns-in-Ok-clause-loaded : goal.returns-in-Ok-clause-loaded
returns-in-Ok-clause-loaded g c = λ region named lists tells have.
    if_ok c.put_over.result _ _
    (λ m over. settled_all c.args.store.cells c.in-Ok.older.cells m.cells lists (c.in-Ok.ensures.loaded region named lists tells have) (over ∙ ap (λ (l : List CellData). settle (l ++ c.in-Ok.older.cells)) c.into_cells.ensures.cells)) c.put_over.ensures.put
