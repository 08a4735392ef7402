-- An outcome on another disk.
use Rattle.px_program.specs.declared.outcome.Outcome.{Outcome}

-- the same with this disk
abbrev pub with_disk : {D E : Type 0} → E → Outcome D → Outcome E
with_disk disk o = record { status = o.status; disk = disk; trail = o.trail; late = o.late; transcripts = o.transcripts; memory = o.memory }
