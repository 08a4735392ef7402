-- Changes that fit the table that was found.
use Rattle.std.proofs.Common.{◌≡◌, List, Some, sym, subst, ◌∙◌}
use Rattle.std.specs.List.{AllByRecursion}
use Rattle.px_values.specs.declared.change.Change.{Change}
use Rattle.px_tables.specs.declared.found.Found.{Found}
use Rattle.px_tables.specs.declared.table.Table.{Table}
use Rattle.px_calls.specs.Known.{Known}
use Rattle.px_calls.specs.Calls.{IsFound}
use Rattle.px_calls.specs.Requires.{AreFitting, IsChangeOf}

some_same : (x y : Table) → Some x ≡ Some y → x ≡ y
some_same x y h = cc

pub fitting : (k : Known) (f : Found) (cs : List Change) → IsFound k.base k.seen f → AllByRecursion (IsChangeOf f.table) cs → AreFitting k f.table.id.0 cs
fitting k f cs found fits = record { drawn = found.drawn; each = λ y is. subst (λ (z : Table). AllByRecursion (IsChangeOf z) cs) (some_same f.table y (sym found.table ∙ is)) fits }
