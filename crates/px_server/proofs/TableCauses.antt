-- Why a table isn't made or dropped, and what is told where it is.
use Rattle.std.proofs.Common.{◌≡◌, ◌<◌, ◌≤◌, ◌+◌, ℕ, Option, None, Some, List, [], ◌∷◌, ◌++◌, length, refl, sym, subst, ◌∙◌, arith}
use Rattle.std.specs.List.{AllByRecursion}
use Rattle.px_outside.specs.declared.disk.Disk.{Ghosts}
use Rattle.px_values.specs.declared.limit.Limit.{Limit as Bound}
use Rattle.px_values.specs.declared.limit.Limit.TheVariants.{Rows, Cells, Bytes, Key, Columns, Indexes, Tables, Regions, Name, Depth, Statement, Script, Trail, Stamps, Ids, Log, Region, Build}
use Rattle.px_values.specs.declared.name.TableId.{TableId}
use Rattle.px_tables.specs.declared.table.NewTable.{NewTable}
use Rattle.px_tables.specs.declared.table.Table.{Table}
use Rattle.px_trail.specs.Legal.{IsLegal}
use Rattle.px_trail.specs.Recorded.{Recorded}
use Rattle.px_trail.specs.Trail.{Base, catalogue_of, closing_call}
use Rattle.px_trail.specs.declared.entry.Act.TheVariants.{Dropped, Made as MadeAct, Shut}
use Rattle.px_trail.specs.declared.entry.Entry.{Entry}
use Rattle.px_calls.specs.Calls.{DidDefine}
use Rattle.px_calls.specs.Causes.{Refuses, define_cause, uses_of}
use Rattle.px_calls.specs.Known.{Known}
use Rattle.px_calls.specs.declared.definition.Definition.TheVariants as d
use Rattle.px_calls.specs.declared.definition.Made.{Made as Answered}
use Rattle.px_calls.specs.declared.fault.StepFault.{StepFault}
use Rattle.px_calls.specs.declared.fault.StepFault.TheVariants.{NameExists, NoTable, NoIndex, Limit, Busy, NotReady, InUse, NotYet, BelowHorizon, ReadFault, WriteFault, Damaged, Closed, Memory}
use Rattle.px_schema.specs.declared.standing.Standing.{Standing}
use Rattle.px_catalog.specs.declared.catalog.Catalog.{Catalog}
use Rattle.px_group.specs.declared.group.Group.{Group}
use Rattle.px_standing.specs.Agrees.{Agrees}
use Rattle.px_standing.proofs.Counted.{runs_out, tables_counted}
use Rattle.px_standing.proofs.Looked.{lacks, taken}
use Rattle.px_server.specs.Kept.{IsKept}
use Rattle.px_server.specs.Others.{Beginning}
use Rattle.px_server.specs.inner.Making.{IsUnmade}
use Rattle.px_server.proofs.Found.{closed_by}
use Rattle.px_server.proofs.Reserved.{roomy}
use Rattle.px_server.proofs.Seen.{one_more, stays}

module _ (k : Known) (legal : IsLegal k.base k.seen) (closed : Option ℕ) (closing : closing_call k.seen ≡ closed) where
  pub refused_closed : (x : _) (call : ℕ) → closed ≡ Some call → Refuses (define_cause x) k k (Closed call)
  refused_closed x call is = closed_by k legal closed closing call is

  module _ (running : closed ≡ None) where
    pub refused_memory : (x : _) → Refuses (define_cause x) k k Memory
    refused_memory x = (tt, stays k legal, closing ∙ running)

    pub table_full : (what : NewTable) → Refuses (define_cause (d.Table what)) k k (NotReady 0)
    table_full what = (refl, stays k legal, closing ∙ running)

    pub drop_full : (t : TableId) → Refuses (define_cause (d.DropTable t)) k k (NotReady 0)
    drop_full t = (refl, stays k legal, closing ∙ running)

    pub drop_in_use : (t : TableId) (count : ℕ) → uses_of t.0 k.seen ≡ count → 0 < count → Refuses (define_cause (d.DropTable t)) k k (InUse count)
    drop_in_use t count is some = ((is, some), stays k legal, closing ∙ running)

  module _ (standing : Standing) (agrees : Agrees standing (catalogue_of k.base k.seen)) where
    pub drop_no_table : closed ≡ None → (t : TableId) → AllByRecursion (λ (x : Table). x.id.0 ≡ t.0 → ⊥) standing.tables → Refuses (define_cause (d.DropTable t)) k k NoTable
    drop_no_table running t all = (lacks k.base k.seen standing agrees t.0 all, stays k legal, closing ∙ running)

    limits : (what : NewTable) (which : Bound) (count : ℕ) → IsUnmade standing closed what (Limit which count) → Refuses (define_cause (d.Table what)) k k (Limit which count)
    limits what Tables count is = ((is.1, (let n = tables_counted k standing agrees in let full = is.2 in omega (arith, n, full))), stays k legal, closing ∙ is.0)
    limits what Ids count is = ((is.1, runs_out k standing agrees (length what.least_keys + 1) is.2), stays k legal, closing ∙ is.0)
    limits what Rows count is = absurd is
    limits what Cells count is = absurd is
    limits what Bytes count is = absurd is
    limits what Key count is = absurd is
    limits what Columns count is = absurd is
    limits what Indexes count is = absurd is
    limits what Regions count is = absurd is
    limits what Name count is = absurd is
    limits what Depth count is = absurd is
    limits what Statement count is = absurd is
    limits what Script count is = absurd is
    limits what Trail count is = absurd is
    limits what Stamps count is = absurd is
    limits what Log count is = absurd is
    limits what Region count is = absurd is
    limits what Build count is = absurd is

    pub refused_unmade : (what : NewTable) (f : StepFault) → IsUnmade standing closed what f → Refuses (define_cause (d.Table what)) k k f
    refused_unmade what (Closed call) is = closed_by k legal closed closing call is
    refused_unmade what NameExists is = (taken standing (catalogue_of k.base k.seen) agrees what.name is.1, stays k legal, closing ∙ is.0)
    refused_unmade what (Limit which count) is = limits what which count is
    refused_unmade what Memory is = (tt, stays k legal, closing ∙ is)
    refused_unmade what NoTable is = absurd is
    refused_unmade what NoIndex is = absurd is
    refused_unmade what (Busy region cells bytes) is = absurd is
    refused_unmade what (NotReady region) is = absurd is
    refused_unmade what (InUse count) is = absurd is
    refused_unmade what (NotYet stamp) is = absurd is
    refused_unmade what (BelowHorizon h) is = absurd is
    refused_unmade what ReadFault is = absurd is
    refused_unmade what WriteFault is = absurd is
    refused_unmade what (Damaged file place) is = absurd is

  -- with an entry
  module _ (es : List Entry) (calls : ℕ) (then : IsLegal k.base es) where
    pub refused_write : (x : _) → (call : ℕ) → es ≡ k.seen ++ record { seat = k.seat; calls = calls; act = Shut call } ∷ [] → Refuses (define_cause x) k (record k { seen = es }) WriteFault
    refused_write x call is = (tt, (call, one_more k es calls (Shut call) legal is then))

    pub did_make : (what : NewTable) (m : Answered) → m.stamp ≡ 0 → m.at ≡ length es → es ≡ k.seen ++ record { seat = k.seat; calls = calls; act = MadeAct (record { 0 = m.number }) what } ∷ [] → DidDefine k (record k { seen = es }) (d.Table what) m
    did_make what m stamp at is = record { adds = one_more k es calls (MadeAct (record { 0 = m.number }) what) legal is then; made = stamp; at = at }

    pub did_drop : (t : TableId) (m : Answered) → m.number ≡ t.0 → m.stamp ≡ 0 → m.at ≡ length es → es ≡ k.seen ++ record { seat = k.seat; calls = calls; act = Dropped t None } ∷ [] → DidDefine k (record k { seen = es }) (d.DropTable t) m
    did_drop t m number stamp at is = record { adds = one_more k es calls (Dropped t None) legal is then; made = (number, stamp); at = at }

-- nothing was done but that room was taken
pub kept_again : {D : Type 0} (d : Ghosts D) (b : Base) (sound premise : Type 0) (began : Beginning) (disk : D) (catalog : Catalog) (standing : Standing) (groups : List Group) (trail : Recorded) (late : Option Entry) (closed : Option ℕ) → IsKept d b sound premise began disk catalog standing groups trail late closed
    → (groups' : List Group) (trail' : Recorded) → groups' ≡ groups → trail'.entries ≡ trail.entries → trail.room ≤ trail'.room → IsKept d b sound premise began disk catalog standing groups' trail' late closed
kept_again d b sound premise began disk catalog standing groups trail late closed k groups' trail' same entries room =
    subst (λ (gs : List Group). IsKept d b sound premise began disk catalog standing gs trail' late closed) (sym same) (roomy d b sound premise began disk catalog standing groups trail late closed k trail' entries room)
