-- What holds once the entry of a definition was added.
use Rattle.std.proofs.Common.{◌≡◌, ℕ, Ok, Option, List, Result, sym, subst}
use Rattle.std.specs.Prelude.{OnOk}
use Rattle.px_outside.specs.declared.disk.Disk.{Ghosts}
use Rattle.px_trail.specs.declared.entry.Entry.{Entry}
use Rattle.px_trail.specs.Recorded.{Recorded}
use Rattle.px_trail.specs.Trail.{Base}
use Rattle.px_schema.specs.declared.standing.Standing.{Standing}
use Rattle.px_catalog.specs.declared.catalog.Catalog.{Catalog}
use Rattle.px_group.specs.declared.group.Group.{Group}
use Rattle.px_server.specs.Kept.{IsKept}
use Rattle.px_server.specs.Others.{Beginning}
use Rattle.px_server.specs.inner.Entering.{HasEntered}

-- what a call says of its success, where it succeeded
pub of_ok : {T E : Type 0} (r : Result T E) (x : T) (P : Type 0) → r ≡ Ok x → OnOk r P → P
of_ok {T} {E} r x P is on = subst (λ (w : Result T E). OnOk w P) is on

-- nothing is late, and the server isn't closed
pub entered_kept : {D : Type 0} (d : Ghosts D) (b : Base) (sound premise : Type 0) (began : Beginning) (disk : D) (catalog : Catalog) (standing : Standing) (groups : List Group) (trail : Recorded) (late late' : Option Entry) (closed closed' : Option ℕ) (e : Entry) (es : List Entry)
    → HasEntered e es trail.entries late late' closed closed' → IsKept d b sound premise began disk catalog standing groups trail late closed → IsKept d b sound premise began disk catalog standing groups trail late' closed'
entered_kept d b sound premise began disk catalog standing groups trail late late' closed closed' e es entered k =
    subst (λ (x : Option Entry). IsKept d b sound premise began disk catalog standing groups trail x closed') (sym entered.late_is)
    (subst (λ (x : Option ℕ). IsKept d b sound premise began disk catalog standing groups trail late x) (sym entered.closed_is) k)
