-- What a server leaves.
use Rattle.std.proofs.Common.{◌≡◌, ℕ, Option, None, List, IsTrue, map, refl, sym, ◌∙◌}
use Rattle.px_outside.specs.declared.disk.Disk.{Ghosts}
use Rattle.px_trail.specs.Recorded.{Recorded}
use Rattle.px_trail.specs.Trail.{Base, closing_call}
use Rattle.px_trail.specs.declared.entry.Entry.{Entry}
use Rattle.px_schema.specs.declared.standing.Standing.{Standing}
use Rattle.px_catalog.specs.declared.catalog.Catalog.{Catalog}
use Rattle.px_group.specs.declared.group.Group.{Group}
use Rattle.px_server.specs.Kept.{IsKept}
use Rattle.px_server.specs.Logged.{AreLogged, AreOnDisk}
use Rattle.px_server.specs.Others.{Beginning}
use Rattle.px_server.specs.Shown.{logged_in}
use Rattle.px_server.specs.Started.{StandsBy}

module _ {D : Type 0} (d : Ghosts D) (b : Base) (sound premise : Type 0) (began : Beginning) (disk : D) (catalog : Catalog) (standing : Standing) (groups : List Group) (trail : Recorded) (late : Option Entry) (closed : Option ℕ)
    (k : IsKept d b sound premise began disk catalog standing groups trail late closed) (open_ : closing_call trail.entries ≡ None) where
  running : closed ≡ None
  running = sym k.server.closing ∙ open_

  -- one that isn't closed stands for what base and trail give,
  pub stands_by : premise → IsTrue d.tells → StandsBy d b disk trail.entries
  stands_by given tells = (let
      on = k.server.goes_on running given tells
      in record { folder = on.folder; groups = on.groups; stands = on.stands; explains = on.explains })

  -- the cells that it shows are those of the logs there,
  pub logged_on : premise → IsTrue d.tells → AreLogged d b disk trail.entries (map logged_in groups)
  logged_on given tells = (let
      on = k.server.goes_on running given tells
      in record { groups = groups; folder = on.folder; stand = k.each.tallied running; on = on.has.regions; counts = refl })

  -- and their regions go on from there,
  pub groups_on : premise → IsTrue d.tells → AreOnDisk d b disk trail.entries groups
  groups_on given tells = (let
      on = k.server.goes_on running given tells
      in record { folder = on.folder; stand = k.each.tallied running; on = on.has.regions })

  -- and no entry is late
  pub not_late : late ≡ None
  not_late = k.server.unlate running
