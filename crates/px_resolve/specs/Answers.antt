-- What a check of a statement answers.
use Rattle.std.specs.Prelude.{◌≡◌, List, [], ◌∷◌, Option, Some, None, Result, Ok, Err}
use Rattle.px_resolve.specs.declared.fault.BindFault.{BindFault}
use Rattle.px_resolve.specs.declared.fault.BindFault.TheVariants.{Memory}

abbrev pub first_of : List BindFault → Option BindFault
first_of [] = None
first_of (fault ∷ faults) = Some fault

-- it is the first of all that is wrong; want of memory may come at any time
abbrev pub IsFirstBindFault : List BindFault → BindFault → Type 0
IsFirstBindFault faults Memory = Unit {0}
IsFirstBindFault faults fault = first_of faults ≡ Some fault

-- nothing is wrong, or the first of all that is wrong is answered
abbrev pub AnswersFirst : {T : Type 0} → List BindFault → Result T BindFault → Type 0
AnswersFirst faults (Ok x) = faults ≡ []
AnswersFirst faults (Err fault) = IsFirstBindFault faults fault
