-- A disk that is watched.
use Rattle.px_program.specs.declared.watched.Watched.{Watched}
use Rattle.px_outside.specs.declared.disk.Disk.{Ghosts}

-- the disk itself
abbrev pub watched_disk : {D : Type 0} {g : Ghosts D} → Watched D g → D
watched_disk w = w.disk
