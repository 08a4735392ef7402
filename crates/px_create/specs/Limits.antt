-- Limits that a definition passes.
use Rattle.std.specs.Prelude.{ℕ, if◌then◌else◌, nat_lt, List, [], ◌∷◌, length}
use Rattle.px_values.specs.Limits.{most_of}
use Rattle.px_values.specs.declared.limit.Limit.{Limit}
use Rattle.px_values.specs.declared.limit.Limit.TheVariants.{Name}
use Rattle.px_resolve.specs.declared.fault.BindFault.{BindFault}
use Rattle.px_resolve.specs.declared.fault.BindFault.TheVariants.{Passed}

abbrev pub limit_passed : Limit → ℕ → List BindFault
limit_passed limit n = if nat_lt (most_of limit) n then Passed limit ∷ [] else []

-- a name that is too long
abbrev pub name_limit : List ℕ → List BindFault
name_limit name = limit_passed Name (length name)
