-- What a group shows, where an entry is no event of its table.
use Rattle.std.proofs.Common.{ℕ, List, [], ◌∷◌, ◌++◌}
use Rattle.px_trail.specs.declared.entry.Entry.{Entry}
use Rattle.px_trail.specs.Legal.{MayCome}
use Rattle.px_trail.specs.Trail.{Base}
use Rattle.px_forms.specs.Indexes.{IndexForm}
use Rattle.px_indexed.specs.Idle.{IsElsewhere}
use Rattle.px_indexed.proofs.Idle.{act_idle}
use Rattle.px_groupworld.specs.Group.{GroupData}
use Rattle.px_openbatches.specs.Pending.{HeldBatch}
use Rattle.px_tablesteps.proofs.Steps.{table_idle}
use Rattle.px_group.specs.declared.group.Group.{Group}
use Rattle.px_group.specs.Group.{IsShownBy, form_of}

pub shown_elsewhere : (b : Base) (index : ℕ → IndexForm) (es : List Entry) (g : Group) (v : GroupData) (hs : List HeldBatch) → IsShownBy b index es g v hs → (e : Entry) → MayCome b es e → IsElsewhere g.table.id e.act → IsShownBy b index (es ++ e ∷ []) g v hs
shown_elsewhere b index es g v hs k e may n = record {
  kept = (table_idle (form_of b index g) es v hs k.kept e may (act_idle g.table.id e n)).kept;
  rows = k.rows;
  count = k.count;
  parts = k.parts;
  forms = k.forms;
}
