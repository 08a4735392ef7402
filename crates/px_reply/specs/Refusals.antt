-- What refusals come from, and which replies have one.
use Rattle.std.specs.Prelude.{Option, None, Some}
use Rattle.px_reply.specs.declared.refusal.Cause.{Cause}
use Rattle.px_reply.specs.declared.refusal.Cause.TheVariants.{Statement, Device, Closing, Memory as NoMemory}
use Rattle.px_reply.specs.declared.refusal.Refusal.{Refusal}
use Rattle.px_reply.specs.declared.refusal.Refusal.TheVariants.{ReadFault, WriteFault, Closed, Damaged, Memory}
use Rattle.px_reply.specs.declared.reply.Reply.{Reply}
use Rattle.px_reply.specs.declared.reply.Reply.TheVariants.{Refused, Verified}

-- F1 and F4 come from the device; with F2 and F3 the session ends; M1 is want of memory; all others begin with E
abbrev pub cause_of : Refusal → Cause
cause_of ReadFault = Device
cause_of (Damaged file place) = Device
cause_of WriteFault = Closing
cause_of (Closed call) = Closing
cause_of Memory = NoMemory
cause_of refusal = Statement

-- why a reply is refused; of a verification, why its next part is
abbrev pub refusal_in : Reply → Option Refusal
refusal_in (Refused refusal) = Some refusal
refusal_in (Verified checked) = checked.refused
refusal_in reply = None
