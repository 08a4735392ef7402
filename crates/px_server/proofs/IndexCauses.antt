-- Why no index is made, and what is told where nothing hinders it.
use Rattle.std.proofs.Common.{◌≡◌, ◌≢◌, ◌≤◌, ◌<◌, ℕ, Option, None, Some, List, refl, sym, ap, ◌∙◌, arith}
use Rattle.std.specs.Prelude.{IsSome}
use Rattle.px_values.specs.declared.name.TableId.{TableId}
use Rattle.std.specs.List.{AllByRecursion}
use Rattle.px_values.specs.Limits.{most_of}
use Rattle.px_values.specs.declared.limit.Limit.TheVariants as bound
use Rattle.px_tables.specs.declared.index.NewIndex.{NewIndex}
use Rattle.px_tables.specs.declared.table.Table.{Table}
use Rattle.px_trail.specs.Legal.{IsLegal}
use Rattle.px_trail.specs.Trail.{catalogue_of, closing_call, last_of, table_of}
use Rattle.px_calls.specs.Causes.{Refuses, define_cause}
use Rattle.px_calls.specs.Known.{Known}
use Rattle.px_calls.specs.declared.definition.Definition.TheVariants as d
use Rattle.px_calls.specs.declared.fault.StepFault.{StepFault}
use Rattle.px_calls.specs.declared.fault.StepFault.TheVariants.{Closed, Limit, NameExists, NoTable}
use Rattle.px_schema.specs.Counts.{HasNumbers, HasRoomForIndex}
use Rattle.px_schema.specs.declared.standing.Standing.{Standing}
use Rattle.px_group.specs.Group.{IsTallied}
use Rattle.px_group.specs.declared.group.Group.{Group}
use Rattle.px_openbatches.specs.Pending.{HeldBatch}
use Rattle.px_standing.specs.Agrees.{Agrees, IsUnused}
use Rattle.px_standing.proofs.Looked.{free, lacks, taken}
use Rattle.px_standing.proofs.Counted.{indexes_counted, runs_out}
use Rattle.px_server.specs.inner.Indexing.{MayMakeIndex}
use Rattle.px_server.proofs.Found.{closed_by}
use Rattle.px_server.proofs.Seen.{stays}

module _ (k : Known) (legal : IsLegal k.base k.seen) (closed : Option ℕ) (closing : closing_call k.seen ≡ closed) (what : NewIndex) where
  abbrev Refused : StepFault → Type 0
  Refused f = Refuses (define_cause (d.Index what)) k k f

  pub when_closed : (call : ℕ) → closed ≡ Some call → Refused (Closed call)
  when_closed call is = closed_by k legal closed closing call is

  module _ (standing : Standing) (agrees : Agrees standing (catalogue_of k.base k.seen)) (running : closed ≡ None) where
    pub no_table : AllByRecursion (λ (t : Table). t.id.0 ≢ what.table.0) standing.tables → Refused NoTable
    no_table all = (lacks k.base k.seen standing agrees what.table.0 all, stays k legal, closing ∙ running)

    pub name_taken : (IsUnused standing what.name → ⊥) → Refused NameExists
    name_taken used = (taken standing (catalogue_of k.base k.seen) agrees what.name used, stays k legal, closing ∙ running)

    pub too_many : (HasRoomForIndex standing what.table.0 → ⊥) → Refused (Limit bound.Indexes (most_of bound.Indexes))
    too_many past = ((refl, (let n = indexes_counted k standing agrees what.table.0 in omega (arith, n, past))), stays k legal, closing ∙ running)

    pub no_numbers : (HasNumbers standing 2 → ⊥) → Refused (Limit bound.Ids (most_of bound.Ids))
    no_numbers past = ((refl, runs_out k standing agrees 2 past), stays k legal, closing ∙ running)

    module _ (g : Group) (hs : List HeldBatch) (tallied : IsTallied k.base k.seen g hs) (own : g.table.id ≡ what.table) where
      last_is : last_of k.base what.table.0 k.seen ≡ g.last
      last_is = ap (λ (t : TableId). last_of k.base t.0 k.seen) (sym own) ∙ tallied.last

      pub no_stamp : most_of bound.Stamps ≤ g.last → Refused (Limit bound.Stamps (most_of bound.Stamps))
      no_stamp past = ((refl, (let n = last_is in omega (arith, n, past))), stays k legal, closing ∙ running)

      pub may_make : IsSome (table_of k.base k.seen what.table.0) → IsUnused standing what.name → HasNumbers standing 2 → g.last < most_of bound.Stamps → MayMakeIndex k what
      may_make stands unused numbers low = record {
        running = closing ∙ running;
        stands = stands;
        free = (free standing (catalogue_of k.base k.seen) agrees what.name).0 unused;
        numbers = (let n = agrees.next in omega (arith, n, numbers));
        stamps = (let n = last_is in omega (arith, n, low));
      }
