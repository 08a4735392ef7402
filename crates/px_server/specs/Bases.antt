-- What is answered where base versions aren't written.
use Rattle.std.specs.Prelude.{◌≡◌, List}
use Rattle.px_values.specs.declared.name.IndexId.{IndexId}
use Rattle.px_group.specs.declared.group.Group.{Group}
use Rattle.px_basing.specs.Basing.{base_cells_of}
use Rattle.px_basing.specs.Refused.{IsRefusedFor}
use Rattle.px_basing.specs.declared.fault.BaseFault.{BaseFault}
use Rattle.px_basing.specs.declared.fault.BaseFault.TheVariants.{Busy, NotReady, WriteFault, Memory}
use Rattle.px_calls.specs.declared.fault.StepFault.{StepFault}
use Rattle.px_calls.specs.declared.fault.StepFault.TheVariants as steps
use Rattle.px_calls.specs.declared.query.BaseRow.{BaseRow}
use Rattle.px_calls.specs.declared.query.Point.{Point}
use Rattle.px_server.specs.Refused.{IsRefusedIn}

-- the same fault, as a step tells it
abbrev pub AnswersBase : BaseFault → StepFault → Type 0
AnswersBase (Busy region cells bytes) answer = answer ≡ steps.Busy region cells bytes
AnswersBase (NotReady region) answer = answer ≡ steps.NotReady region
AnswersBase WriteFault answer = answer ≡ steps.WriteFault
AnswersBase Memory answer = answer ≡ steps.Memory

-- the region of the point's table's index of this number refuses room for the base versions of these rows
abbrev pub IsRefusedBase : List Group → Point → IndexId → List BaseRow → BaseFault → Type 0
IsRefusedBase groups p i xs f = IsRefusedIn groups i (λ group part index. (group.table.id ≡ p.table) × IsRefusedFor index.region (base_cells_of group index xs) f)

-- A region that is busy or isn't ready is told only so.
abbrev pub RefusesBases : List Group → Point → IndexId → List BaseRow → StepFault → Type 0
RefusesBases groups p i xs (steps.Busy region cells bytes) = IsRefusedBase groups p i xs (Busy region cells bytes)
RefusesBases groups p i xs (steps.NotReady region) = IsRefusedBase groups p i xs (NotReady region)
RefusesBases groups p i xs f = Unit {0}
