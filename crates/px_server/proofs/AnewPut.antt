-- What is put at an index's place when it is built again.
use Rattle.std.proofs.Common.{◌≡◌, ℕ, get_or, subst}
use Rattle.px_tables.specs.declared.index.Index.{Index}
use Rattle.px_tables.specs.declared.index.IndexState.TheVariants.{Building}
use Rattle.px_tables.specs.declared.table.Table.{Table}
use Rattle.px_schema.specs.declared.standing.Standing.{Standing}
use Rattle.px_disabled.specs.Disabled.{rebuilt}
use Rattle.px_server.specs.declared.defining.prepared.IndexToPut.{IndexToPut}
use Rattle.px_server.specs.inner.Quiet.{IsIndexToPut}

pub put_there : (t : Table) (s : Standing) (place : ℕ) (x : Index) → get_or s.indexes place x ≡ x → (birth : ℕ) (q : IndexToPut) → ((none : Index) → IsIndexToPut t s (record (get_or s.indexes place none) { state = Building; birth = birth; region = s.next }) q)
    → (u : Table) → t ≡ u → IsIndexToPut u s (rebuilt birth s.next x) q
put_there t s place x x_is birth q put u same =
    subst (λ (w : Table). IsIndexToPut w s (rebuilt birth s.next x) q) same
    (subst (λ (w : Index). IsIndexToPut t s (rebuilt birth s.next w) q) x_is (put x))
