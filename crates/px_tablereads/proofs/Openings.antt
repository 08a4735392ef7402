-- A table that is opened from a folder has a cell for each change of the base.
use Rattle.std.proofs.Common.{[], ap, sym, ◌∙◌}
use Rattle.std.specs.Prelude.{nat_lt}
use Rattle.std.proofs.lemmas.Bool.{and_parts}
use Rattle.px_cells.specs.Contents.{Contents}
use Rattle.px_trail.specs.Trail.{Base}
use Rattle.px_groupworld.specs.Group.{TableForm, GroupData}
use Rattle.px_tablefolder.specs.Folder.{TableFiles, IsFolderBase, IsOpened, key_has_stamp}
use Rattle.px_tablefolder.specs.Stop.{over_base}
use Rattle.px_tablefolder.proofs.Stamped.{stamp_read}
use Rattle.px_tablereads.specs.Told.{AreTold}
use Rattle.px_tablereads.proofs.Tells.{told_first}

pub told_opened : (f : TableForm) (b : Base) (n : TableFiles) (u : GroupData) → IsFolderBase b f.id.0 f.rows n → IsOpened n u → AreTold (over_base f b) [] u
told_opened f b n u fb o = told_first (over_base f b) u (λ r s l h.
    (let a = and_parts (nat_lt n.horizon s) (key_has_stamp (f.rows.key_of r) s n.cells) ((λ i. sym fb.changed i r s) ∙ h) in
    let z = stamp_read (f.rows.key_of r) s n.cells a.1 in
    record { qualifier = z.qualifier; kind = z.kind; value = z.value; is = ap (λ (c : Contents). c (f.rows.key_of r) z.qualifier s z.kind) o.cells ∙ z.is }))
