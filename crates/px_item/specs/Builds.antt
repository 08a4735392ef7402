-- Definitions behind which an index is built.
use Rattle.std.specs.Prelude.{ℕ, ◌≡◌, ◌≤◌, ◌<◌, List, ◌∷◌, length, take, Option, None, Some}
use Rattle.px_values.specs.declared.name.IndexId.{IndexId}
use Rattle.px_values.specs.declared.name.TableId.{TableId}
use Rattle.px_ast.specs.declared.definition.IndexAction.{IndexAction}
use Rattle.px_ast.specs.declared.definition.IndexAction.TheVariants.{Disable, Rebuild}
use Rattle.px_tables.specs.declared.index.Index.{Index}
use Rattle.px_tables.specs.declared.index.NewIndex.{NewIndex}
use Rattle.px_tables.specs.Definitions.{index_definition_of}
use Rattle.px_trail.specs.declared.entry.Act.{Act}
use Rattle.px_trail.specs.declared.entry.Entry.{Entry}
use Rattle.px_trail.specs.Trail.{Base, catalogue_of, index_of}
use Rattle.px_calls.specs.declared.definition.Definition.{Definition}
use Rattle.px_calls.specs.declared.definition.Definition.TheVariants as d
use Rattle.px_calls.specs.declared.definition.Made.{Made}
use Rattle.px_calls.specs.Calls.{IsDefinitionMade, act_of}
use Rattle.px_calls.specs.Known.{Known}

-- what an ALTER INDEX asks for
abbrev pub altered : TableId → IndexAction → IndexId → Definition
altered t Disable i = d.Disabled t i
altered t Rebuild i = d.Rebuilding t i

-- the table whose index is to be built behind the definition
abbrev pub to_build : Definition → Option TableId
to_build (d.Index what) = Some what.table
to_build (d.Rebuilding t i) = Some t
to_build e = None

-- the index is as the definition asks for it
abbrev pub IsAskedFor : Definition → Index → Type 0
IsAskedFor (d.Index what) x = index_definition_of x ≡ what
IsAskedFor e x = Unit {0}

-- what was done for a build: first the entry of this definition, after the first n, and then what the build did
pub record IsBuiltBehind (n : ℕ) (e : Definition) (m : Made) (own rest : List Act) (k : Known) : Type 0 where
  pub one : own ≡ act_of e m ∷ rest
  pub made : IsDefinitionMade e m
  pub from : n ≤ m.at
  pub within : m.at ≤ length k.seen

-- the number was drawn, and the index that stands under it, if any, is the one that was asked for
abbrev pub IsNumberOf : Base → List Entry → NewIndex → ℕ → Type 0
IsNumberOf b es what i = (i < (catalogue_of b es).next) × ((x : Index) → index_of b es i ≡ Some x → index_definition_of x ≡ what)

-- so after the entry of the definition
abbrev pub StandsAs : Definition → Made → Known → Type 0
StandsAs (d.Index what) m k = IsNumberOf k.base (take m.at k.seen) what m.number
StandsAs e m k = Unit {0}
