-- What `find` answers.
use Rattle.std.proofs.Common.{◌≡◌, ◌<◌, ℕ, Option, None, Some, List, length, get_or, ap, ◌∙◌}
use Rattle.std.specs.List.{AllByRecursion}
use Rattle.std.specs.Prelude.{◌≢◌}
use Rattle.px_tables.specs.declared.found.Found.{Found}
use Rattle.px_tables.specs.declared.table.Table.{Table}
use Rattle.px_trail.specs.Legal.{IsLegal}
use Rattle.px_trail.specs.Trail.{catalogue_of, closing_call}
use Rattle.px_calls.specs.Calls.{DidFind}
use Rattle.px_calls.specs.Causes.{ClosedBy, Refuses, find_cause}
use Rattle.px_calls.specs.Known.{Known, Sees}
use Rattle.px_calls.specs.declared.fault.StepFault.TheVariants.{Memory, NoTable}
use Rattle.px_recovery.specs.Tables.{indexes_of}
use Rattle.px_schema.specs.declared.standing.Standing.{Standing}
use Rattle.px_standing.specs.Agrees.{Agrees}
use Rattle.px_standing.proofs.Looked.{found_at, unnamed}
use Rattle.px_server.proofs.Seen.{stays}

module _ (k : Known) (legal : IsLegal k.base k.seen) (closed : Option ℕ) (closing : closing_call k.seen ≡ closed) where
  pub closed_by : (call : ℕ) → closed ≡ Some call → ClosedBy call k × Sees k k
  closed_by call is = (closing ∙ is, stays k legal)

  module _ (standing : Standing) (agrees : Agrees standing (catalogue_of k.base k.seen)) (running : closed ≡ None) (name : List ℕ) where
    pub did_find : (f : Found) (place : ℕ) → place < length standing.tables → ((none : Table) → (get_or standing.tables place none).name ≡ name) → ((none : Table) → f.table ≡ get_or standing.tables place none) → f.indexes ≡ indexes_of f.table.id.0 standing.indexes → f.at ≡ length k.seen → DidFind k k name f
    did_find f place l named table indexes at = record {
      finds = record { sees = stays k legal; running = closing ∙ running };
      name_is = ap (λ (t : Table). t.name) (table f.table) ∙ named f.table;
      found = found_at k.base k.seen standing agrees f place l table indexes at;
    }

    pub found_no_table : AllByRecursion (λ (t : Table). t.name ≢ name) standing.tables → Refuses (find_cause name) k k NoTable
    found_no_table all = (unnamed k.base k.seen standing agrees name all, stays k legal, closing ∙ running)

    pub found_no_memory : Refuses (find_cause name) k k Memory
    found_no_memory = (tt, stays k legal, closing ∙ running)
