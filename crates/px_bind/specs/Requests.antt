-- Why a statement is refused, and what it asks for.
use Rattle.std.specs.Prelude.{◌≡◌, ◌≤◌, false, List, [], length, Option, Some, None}
use Rattle.px_ast.specs.declared.statement.Statement.{Statement}
use Rattle.px_ast.specs.declared.statement.Statement.TheVariants as s
use Rattle.px_ast.specs.declared.definition.IndexAction.{IndexAction}
use Rattle.px_values.specs.declared.name.IndexId.{IndexId}
use Rattle.px_values.specs.declared.name.TableId.{TableId}
use Rattle.px_tables.specs.declared.found.Found.{Found}
use Rattle.px_create.specs.Indexes.{index_faults, index_id_named, missing_index, new_index}
use Rattle.px_bind.specs.Queries.{IsQuery, delete_faults, filter_of, select_faults}
use Rattle.px_create.specs.Tables.{new_table, table_faults}
use Rattle.px_bind.specs.Upserts.{upsert_change, upsert_faults}
use Rattle.px_resolve.specs.declared.fault.BindFault.{BindFault}
use Rattle.px_bind.specs.declared.request.Query.{Query}
use Rattle.px_bind.specs.declared.request.Request.{Request}
use Rattle.px_bind.specs.declared.request.Request.TheVariants as r

-- ---- all that is wrong with a statement, in the order in which it is answered: of names, of literals, of NULLs, of limits

abbrev pub faults_in : Found → Statement → List BindFault
faults_in found (s.CreateTable t) = table_faults t
faults_in found (s.DropTable d) = []
faults_in found (s.CreateIndex i) = index_faults found.table i
faults_in found (s.DropIndex d) = missing_index found.indexes d.if_exists d.name
faults_in found (s.AlterIndex a) = missing_index found.indexes false a.name
faults_in found (s.Upsert u) = upsert_faults found.table u
faults_in found (s.Delete d) = delete_faults found.table.columns d
faults_in found (s.Select q) = select_faults found.table.columns q
faults_in found (s.Explain q) = select_faults found.table.columns q

-- a CREATE TABLE needs no table
abbrev pub faults_of : Option Found → Statement → List BindFault
faults_of (Some found) statement = faults_in found statement
faults_of None (s.CreateTable t) = table_faults t
faults_of None statement = []

-- ---- what it asks for

abbrev pub drop_request : TableId → Option IndexId → Request
drop_request table None = r.AbsentIndex
drop_request table (Some index) = r.DropIndex table index

abbrev pub alter_request : TableId → IndexAction → Option IndexId → Request
alter_request table action None = r.AbsentIndex
alter_request table action (Some index) = r.AlterIndex table index action

abbrev pub AsksIn : Found → Statement → Request → Type 0
AsksIn found (s.CreateTable t) request = request ≡ r.CreateTable t.if_not_exists (new_table t)
AsksIn found (s.DropTable d) request = request ≡ r.DropTable found.table.id
AsksIn found (s.CreateIndex i) request = request ≡ r.CreateIndex i.if_not_exists (new_index found.table i)
AsksIn found (s.DropIndex d) request = request ≡ drop_request found.table.id (index_id_named found.indexes d.name)
AsksIn found (s.AlterIndex a) request = request ≡ alter_request found.table.id a.action (index_id_named found.indexes a.name)
AsksIn found (s.Upsert u) request = request ≡ r.Upsert found.table.id (upsert_change found.table u)
AsksIn found (s.Delete d) request = request ≡ r.Delete found.table.id (filter_of found.table.columns d.filter)
AsksIn found (s.Select q) request = (query : Query) × IsQuery found.table q query × (request ≡ r.Select query)
AsksIn found (s.Explain q) request = (query : Query) × IsQuery found.table q query × (request ≡ r.Explain query)

-- this request is what the statement asks for
abbrev pub Asks : Option Found → Statement → Request → Type 0
Asks (Some found) statement request = AsksIn found statement request
Asks None (s.CreateTable t) request = request ≡ r.CreateTable t.if_not_exists (new_table t)
Asks None statement request = ⊥

-- ---- what is asked of a caller

-- each column has a place of one byte
abbrev pub HasPlaces : Option Found → Type 0
HasPlaces None = Unit {0}
HasPlaces (Some found) = length found.table.columns ≤ 255

-- each statement but CREATE TABLE needs its table
abbrev pub IsFoundFor : Statement → Option Found → Type 0
IsFoundFor statement (Some found) = Unit {0}
IsFoundFor (s.CreateTable t) None = Unit {0}
IsFoundFor statement None = ⊥
