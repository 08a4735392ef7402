-- How a batch, a definition, an index, a SELECT and a DELETE go on.
use Rattle.std.proofs.Common.{ℕ, ◌≡◌, ◌≤◌, true, Option, None, Some, Result, Ok, Err, List, [], ◌++◌, refl, sym, ◌∙◌, ap, subst, arith, ◌⊎◌, inl, inr, ⊎_elim}
use Rattle.px_lex.specs.Script.{seen_piece}
use Rattle.px_ast.specs.declared.definition.CreateTable.{CreateTable}
use Rattle.px_ast.specs.declared.statement.Statement.{Statement}
use Rattle.px_ast.specs.declared.statement.Statement.TheVariants as s
use Rattle.px_values.specs.declared.change.Change.{Change}
use Rattle.px_values.specs.declared.name.TableId.{TableId}
use Rattle.px_create.specs.Tables.{new_table, table_faults}
use Rattle.px_ast.specs.declared.statement.Delete.{Delete}
use Rattle.px_bind.specs.Queries.{delete_faults}
use Rattle.px_bind.specs.Requests.{faults_in}
use Rattle.px_bind.specs.Upserts.{upsert_faults}
use Rattle.px_tables.specs.declared.found.Found.{Found}
use Rattle.px_trail.specs.declared.entry.Act.{Act}
use Rattle.px_calls.specs.declared.definition.Definition.{Definition}
use Rattle.px_calls.specs.declared.definition.Definition.TheVariants as d
use Rattle.px_calls.specs.declared.definition.Made.{Made}
use Rattle.px_calls.specs.declared.ticket.Receipt.{Receipt}
use Rattle.px_calls.specs.Known.{Known, Ran, outline}
use Rattle.px_batch.specs.Turns as batch
use Rattle.px_batch.specs.declared.batch.BatchFault.{BatchFault}
use Rattle.px_batch.specs.declared.batch.BatchFault.TheVariants as unmade
use Rattle.px_batch.specs.declared.batch.BatchTurn.TheVariants as bt
use Rattle.px_batch.specs.declared.run.BatchRun.{BatchRun}
use Rattle.px_defining.specs.Turns as define
use Rattle.px_defining.specs.declared.define.DefineFault.{DefineFault}
use Rattle.px_defining.specs.declared.define.DefineRun.{DefineRun}
use Rattle.px_defining.specs.declared.define.DefineTurn.TheVariants as dt
use Rattle.px_reply.specs.declared.reply.Reply.TheVariants as reply
use Rattle.px_reply.specs.declared.refusal.Refusal.TheVariants as refusal
use Rattle.px_item.specs.declared.answered.Answered.{Answered}
use Rattle.px_item.specs.declared.answered.Asked.{Asked}
use Rattle.px_item.specs.declared.item.ItemState.TheVariants as state
use Rattle.px_item.specs.declared.item.ItemTurn.TheVariants as turn
use Rattle.px_item.specs.Builds.{to_build}
use Rattle.px_item.specs.Right as right
use Rattle.px_item.specs.Right.{IsBoundTo, IsChanged, IsDefined, IsDeletion, IsReadItem, IsRight, SaysOnly, known_after, changes, deletion_query, definition_asked, one_change, plain, table_named}
use Rattle.px_item.specs.Turns.{FitsItem, IsAsking, IsCreating, IsDefining, ItemTurns}
use Rattle.px_item.proofs.Plain.{batch_plain, batch_since_plain, define_plain, define_since_plain, defined_plain, ended_plain, outcome_plain, query_end_plain, query_since_plain, removed_plain, stopped_first, stopped_plain}
use Rattle.px_planned.specs.Queries.{query_of}
use Rattle.px_planned.specs.declared.planned.Planned.{Planned}
use Rattle.px_scan.specs.Faults.{QueryEndSince}
use Rattle.px_scan.specs.Turns as scan
use Rattle.px_scan.specs.declared.answer.QueryFault.{QueryFault}
use Rattle.px_deleting.specs.Deleting as deleting
use Rattle.px_deleting.specs.declared.deleted.DeleteFault.{DeleteFault}
use Rattle.px_deleting.specs.declared.deleted.DeleteFault.TheVariants as undeleted
use Rattle.px_deleting.specs.declared.deleted.DeleteTurn.TheVariants as removed
use Rattle.px_deleting.specs.declared.deleted.Deleted.{Deleted}
use Rattle.px_deleting.specs.declared.deleted.Removed.{Removed}
use Rattle.px_deleting.specs.declared.run.DeleteRun.{DeleteRun}
use Rattle.px_select.specs.Selecting as selecting
use Rattle.px_select.specs.Selecting.{SelectTurns}
use Rattle.px_select.specs.declared.run.SelectRun.{SelectRun}
use Rattle.px_select.specs.declared.run.SelectTurn.TheVariants as ended
use Rattle.px_select.specs.declared.run.Selected.{Selected}
use Rattle.px_item.proofs.Passing.{Later, longer, of_ran, bound_later, asks_change, first_low, first_within, define_later, and_then}

-- nothing is to be built behind a definition that was made
abbrev pub IsAlone : Definition → Result Made DefineFault → Type 0
IsAlone y (Ok m) = to_build y ≡ None
IsAlone y (Err e) = Unit {0}

-- `mine` is what was done for the item so far
module _ (sound : Type 0) (before : ℕ) (asked : Asked) (mine : List Act) where
  no_stop : (own : List Act) (k : Known) (f : Found) (cs : List Change) → batch.HasLeft f.table.id cs unmade.NoTable own k → own ≡ []
  no_stop own k f cs (inl e) = e
  no_stop own k f cs (inr e) = absurd e.0

  not_changed : (x : Statement) (u : _) (f : Found) (e : BatchFault) (k : Known) (own : List Act) (a : Answered) → x ≡ s.Upsert u → IsReadItem (seen_piece asked.piece) (Ok x) → asked.settings.scn ≡ None → asked.settings.autocommit ≡ true → IsBoundTo k.base k.seen a.first f u.table
      → upsert_faults f.table u ≡ [] → batch.BatchFaultIs sound f.table.id (one_change f u) e k × batch.HasLeft f.table.id (one_change f u) e own k → batch.BatchFaultSince before e k
      → right.SaysRefused a (right.batch_refusal (table_named x) e) asked.settings ⊎ (right.SaysRefused a refusal.Memory asked.settings × (e ≡ unmade.NoTable)) → IsRight sound (plain k) before own asked.settings (seen_piece asked.piece) a
  not_changed x u f e k own a is read free alone bound none left since (inl says) =
      right.is_not_changed u f e (subst (λ (y : Statement). IsReadItem (seen_piece asked.piece) (Ok y)) is read) free alone bound none (batch_plain sound f.table.id (one_change f u) e k left.0) (batch_since_plain before e k since) left.1
      (subst (λ (y : Statement). right.SaysRefused a (right.batch_refusal (table_named y) e) asked.settings) is says)
  not_changed x u f e k own a is read free alone bound none left since (inr says) =
      right.is_at_once (right.is_lacking says.0) (no_stop own k f (one_change f u) (subst (λ (g : BatchFault). batch.HasLeft f.table.id (one_change f u) g own k) says.1 left.1))

  -- 3. A batch goes on, and is over

  pub change_goes_on : (x : Statement) (old new : BatchRun) (room : _) (k k' : Known) (acts : List Act) → FitsItem sound before asked mine (state.Changing x old room) k → new.table ≡ old.table → new.changes ≡ old.changes → Ran k k' acts
      → batch.FitsBatch sound old.table old.changes new.state k' → batch.IsBatchGoing new.state → batch.begun_by_batch old.table old.changes old.state ++ outline acts ≡ batch.begun_by_batch old.table old.changes new.state → batch.IsBatchSince before new.state k'
      → FitsItem sound before asked (mine ++ outline acts) (state.Changing x new room) k'
  change_goes_on x old new room k k' acts f table changes ran fits going sum since =
      let later = of_ran k k' acts ran in
      let j = f.state.1 in
      let F : TableId × List Change → Type 0 = λ q. batch.FitsBatch sound q.0 q.1 new.state k' in
      let G : TableId × List Change → Type 0 = λ q. batch.begun_by_batch old.table old.changes old.state ++ outline acts ≡ batch.begun_by_batch q.0 q.1 new.state in
      record {
        begins = f.begins;
        within = longer k k' asked.first later f.within;
        state = (
          f.state.0,
          record {
            upsert = j.upsert;
            is = j.is;
            alone = j.alone;
            found = j.found;
            bound = bound_later k k' asked.first j.found j.upsert.table later j.bound;
            right = j.right;
            table = table ∙ j.table;
            changes = changes ∙ j.changes;
            fits = subst F (λ i. (sym table i, sym changes i)) fits;
            going = going;
            since = since;
          },
          f.state.2,
        );
        done = and_then mine (batch.begun_by_batch old.table old.changes old.state) acts f.done ∙ subst G (λ i. (sym table i, sym changes i)) sum;
      }

  pub change_is_over : (x : Statement) (old new : BatchRun) (room : _) (k k' : Known) (r : Result Receipt BatchFault) (a : Answered) → FitsItem sound before asked mine (state.Changing x old room) k → batch.BatchTurns sound old.table old.changes old.state k new.state k' (bt.Over r)
      → IsChanged asked x r a → ItemTurns sound before asked mine k k' (turn.Over a)
  change_is_over x old new room k k' (Ok r) a f t c =
      let later = of_ran k k' t.acts t.ran in
      let j = f.state.1 in
      let own = mine ++ outline t.acts in
      let F : TableId × List Change × List Act → Type 0 = λ q. batch.HasEndedBatch sound q.0 q.1 q.2 k' r in
      let ended = subst F (λ i. (j.table i, j.changes i, sym (and_then mine _ t.acts f.done) i)) t.told.1 in
      let bound = subst (λ (n : ℕ). IsBoundTo k'.base k'.seen n j.found j.upsert.table) (sym c.0) (bound_later k k' asked.first j.found j.upsert.table later j.bound) in
      record {
        acts = t.acts;
        ran = t.ran;
        told = (
          first_low asked a c.0,
          first_within asked k' a (longer k k' asked.first later f.within) c.0,
          right.is_changed j.upsert j.found r (subst (λ (y : Statement). IsReadItem (seen_piece asked.piece) (Ok y)) j.is f.state.0.read) (f.state.0.free (ap changes j.is)) j.alone bound j.right (ended_plain sound j.found.table.id (one_change j.found j.upsert) own k' r ended) c.1,
        );
      }
  change_is_over x old new room k k' (Err e) a f t c =
      let later = of_ran k k' t.acts t.ran in
      let j = f.state.1 in
      let own = mine ++ outline t.acts in
      let F : TableId × List Change × List Act → Type 0 = λ q. batch.BatchFaultIs sound q.0 q.1 e k' × batch.HasLeft q.0 q.1 e q.2 k' in
      let left = subst F (λ i. (j.table i, j.changes i, sym (and_then mine _ t.acts f.done) i)) t.told.1 in
      let bound = subst (λ (n : ℕ). IsBoundTo k'.base k'.seen n j.found j.upsert.table) (sym c.0) (bound_later k k' asked.first j.found j.upsert.table later j.bound) in
      record { acts = t.acts; ran = t.ran; told = (first_low asked a c.0, first_within asked k' a (longer k k' asked.first later f.within) c.0, not_changed x j.upsert j.found e k' own a j.is f.state.0.read (f.state.0.free (ap changes j.is)) j.alone bound j.right left (t.since before j.since) c.1) }

  -- 4. A definition goes on, and is over

  pub define_goes_on : (x : Statement) (old new : DefineRun) (k k' : Known) (acts : List Act) → FitsItem sound before asked mine (state.Defining x old) k → new.definition ≡ old.definition → Ran k k' acts → define.FitsDefinition sound old.definition new.state k'
      → define.IsDefinitionGoing new.state → outline acts ≡ [] → FitsItem sound before asked (mine ++ outline acts) (state.Defining x new) k'
  define_goes_on x old new k k' acts f definition ran fits going quiet =
      let later = of_ran k k' acts ran in
      record { begins = f.begins; within = longer k k' asked.first later f.within; state = (f.state.0, define_later sound asked x old new k k' later f.state.1 definition (λ was. fits) (λ was. going)); done = and_then mine [] acts f.done ∙ quiet }

  not_defined : (x : Statement) (f : Found) (e : DefineFault) (y : Definition) (k : Known) (own : List Act) (a : Answered) → IsReadItem (seen_piece asked.piece) (Ok x) → asked.settings.scn ≡ None → IsBoundTo k.base k.seen a.first f (table_named x)
      → faults_in f x ≡ [] → definition_asked f x ≡ Some y → define.DefinitionFaultIs sound y e k → define.DefinitionFaultSince before e k → own ≡ [] → SaysOnly a (right.undefined x e) asked.settings ⊎ right.SaysRefused a refusal.Memory asked.settings
      → IsRight sound (plain k) before own asked.settings (seen_piece asked.piece) a
  not_defined x f e y k own a read free bound none is told since quiet (inl says) = right.is_not_defined x f e y read free bound none is (define_plain sound y e k told) (define_since_plain before e k since) quiet says
  not_defined x f e y k own a read free bound none is told since quiet (inr says) = right.is_at_once (right.is_lacking says) quiet

  asked_told : (x : Statement) (old : DefineRun) (k k' : Known) (own : List Act) (r : Result Made DefineFault) (a : Answered) → Later k k' → IsAsking asked x → IsDefining sound asked x old k → define.IsDefinitionOutcome sound old.definition own k' r
      → define.IsDefinitionSinceThen before k' (dt.Over r) → IsAlone old.definition r → IsDefined asked x r a → IsRight sound (plain k') before own asked.settings (seen_piece asked.piece) a
  asked_told x old k k' own (Ok m) a later asking j out since alone c =
      let bound = subst (λ (n : ℕ). IsBoundTo k'.base k'.seen n j.found (table_named x)) (sym c.0) (bound_later k k' asked.first j.found (table_named x) later j.bound) in
      right.is_defined x j.found m old.definition asking.read (asking.free (asks_change j.found x old.definition j.definition)) bound j.right j.definition alone (defined_plain old.definition own k' m out) c.1
  asked_told x old k k' own (Err e) a later asking j out since alone c =
      let bound = subst (λ (n : ℕ). IsBoundTo k'.base k'.seen n j.found (table_named x)) (sym c.0) (bound_later k k' asked.first j.found (table_named x) later j.bound) in
      not_defined x j.found e old.definition k' own a asking.read (asking.free (asks_change j.found x old.definition j.definition)) bound j.right j.definition out.0 since out.1 c.1

  not_created : (t : CreateTable) (e : DefineFault) (k : Known) (own : List Act) (a : Answered) → IsReadItem (seen_piece asked.piece) (Ok (s.CreateTable t)) → right.is_none_of t.splits ≡ true → asked.settings.scn ≡ None → table_faults t ≡ []
      → define.DefinitionFaultIs sound (d.Table (new_table t)) e k → define.DefinitionFaultSince before e k → own ≡ [] → SaysOnly a (right.undefined (s.CreateTable t) e) asked.settings ⊎ right.SaysRefused a refusal.Memory asked.settings
      → IsRight sound (plain k) before own asked.settings (seen_piece asked.piece) a
  not_created t e k own a read whole free none told since quiet (inl says) = right.is_not_created t e read whole free none (define_plain sound (d.Table (new_table t)) e k told) (define_since_plain before e k since) quiet says
  not_created t e k own a read whole free none told since quiet (inr says) = right.is_at_once (right.is_lacking says) quiet

  create_told : (x : Statement) (old : DefineRun) (k k' : Known) (own : List Act) (r : Result Made DefineFault) (a : Answered) → IsAsking asked x → IsCreating sound x old k → define.IsDefinitionOutcome sound old.definition own k' r
      → define.IsDefinitionSinceThen before k' (dt.Over r) → IsDefined asked x r a → IsRight sound (plain k') before own asked.settings (seen_piece asked.piece) a
  create_told x old k k' own (Ok m) a asking j out since c =
      let read = subst (λ (y : Statement). IsReadItem (seen_piece asked.piece) (Ok y)) j.is asking.read in
      let made = subst (λ (y : Definition). define.HasDefined y own k' m) j.definition out in
      let says = subst (λ (y : Statement). SaysOnly a (reply.Defined (right.definition_word y)) asked.settings) j.is c.1 in
      right.is_created j.create m read j.whole (asking.free (ap changes j.is)) j.right (defined_plain (d.Table (new_table j.create)) own k' m made) says
  create_told x old k k' own (Err e) a asking j out since c =
      let read = subst (λ (y : Statement). IsReadItem (seen_piece asked.piece) (Ok y)) j.is asking.read in
      let fault = subst (λ (y : Definition). define.DefinitionFaultIs sound y e k') j.definition out.0 in
      let F : Statement → Type 0 = λ y. SaysOnly a (right.undefined y e) asked.settings ⊎ right.SaysRefused a refusal.Memory asked.settings in
      not_created j.create e k' own a read j.whole (asking.free (ap changes j.is)) j.right fault since out.1 (subst F j.is c.1)

  define_told : (x : Statement) (old : DefineRun) (k k' : Known) (own : List Act) (r : Result Made DefineFault) (a : Answered) → Later k k' → IsAsking asked x → IsDefining sound asked x old k ⊎ IsCreating sound x old k
      → define.IsDefinitionOutcome sound old.definition own k' r → define.IsDefinitionSinceThen before k' (dt.Over r) → IsAlone old.definition r → IsDefined asked x r a → IsRight sound (plain k') before own asked.settings (seen_piece asked.piece) a
  define_told x old k k' own r a later asking (inl j) out since alone c = asked_told x old k k' own r a later asking j out since alone c
  define_told x old k k' own r a later asking (inr j) out since alone c = create_told x old k k' own r a asking j out since c

  defined_first : (x : Statement) (r : Result Made DefineFault) (a : Answered) → IsDefined asked x r a → a.first ≡ asked.first
  defined_first x (Ok m) a c = c.0
  defined_first x (Err e) a c = c.0

  pub define_is_over : (x : Statement) (old new : DefineRun) (k k' : Known) (r : Result Made DefineFault) (a : Answered) → FitsItem sound before asked mine (state.Defining x old) k → define.DefinitionTurns sound old.definition old.state k new.state k' (dt.Over r)
      → IsAlone old.definition r → IsDefined asked x r a → ItemTurns sound before asked mine k k' (turn.Over a)
  define_is_over x old new k k' r a f t alone c =
      let later = of_ran k k' t.acts t.ran in
      let first = defined_first x r a c in
      let low = f.begins in
      let within = f.within in
      let since : define.IsDefinitionSinceThen before k' (dt.Over r) = t.since before (omega arith) in
      record {
        acts = t.acts;
        ran = t.ran;
        told = (
          first_low asked a first,
          first_within asked k' a (longer k k' asked.first later f.within) first,
          subst (λ (l : List Act). IsRight sound (plain k') before l asked.settings (seen_piece asked.piece) a) (sym (and_then mine [] t.acts f.done)) (define_told x old k k' (outline t.acts) r a later f.state.0 f.state.1 t.told.1 since alone c),
        );
      }

  -- a SELECT goes on, and is over

  pub select_goes_on : (x : Statement) (old new : SelectRun) (k k' : Known) (acts : List Act) → FitsItem sound before asked mine (state.Selecting x old) k → new.scan.query ≡ old.scan.query → new.scan.scn ≡ old.scan.scn → Ran k k' acts
      → scan.FitsScan sound (query_of old.scan.query) old.scan.scn new.scan.state k' → scan.IsQueryGoing new.scan.state → scan.IsQuerySince before new.scan.state k' → scan.IsQuerySince asked.first new.scan.state k' → scan.opened_by_query old.scan.state ++ outline acts ≡ scan.opened_by_query new.scan.state
      → FitsItem sound before asked (mine ++ outline acts) (state.Selecting x new) k'
  select_goes_on x old new k k' acts f query scn ran fits going since first sum =
      let later = of_ran k k' acts ran in
      let j = f.state.1 in
      let F : Planned × Option ℕ → Type 0 = λ q. scan.FitsScan sound (query_of q.0) q.1 new.scan.state k' in
      record {
        begins = f.begins;
        within = longer k k' asked.first later f.within;
        state = (
          f.state.0,
          record {
            select = j.select;
            is = j.is;
            found = j.found;
            bound = bound_later k k' before j.found j.select.table later j.bound;
            planned = subst (λ (z : Planned). right.IsAskedOf j.found j.select z) (sym query) j.planned;
            scn = scn ∙ j.scn;
            fits = subst F (λ i. (sym query i, sym scn i)) fits;
            going = going;
            since = since;
            first = first;
          },
        );
        done = and_then mine (scan.opened_by_query old.scan.state) acts f.done ∙ sum;
      }

  pub select_is_over : (x : Statement) (old new : SelectRun) (k k' : Known) (r : Result Selected QueryFault) (a : Answered) → FitsItem sound before asked mine (state.Selecting x old) k
      → SelectTurns sound old.scan.query old.scan.scn old.scan.state k new.scan.state k' (ended.Over r) → right.IsSelection asked x r a → ItemTurns sound before asked mine k k' (turn.Over a)
  select_is_over x old new k k' (Ok r) a f t c =
      let later = of_ran k k' t.acts t.ran in
      let j = f.state.1 in
      let own = mine ++ outline t.acts in
      let bound = bound_later k k' before j.found j.select.table later j.bound in
      let out = outcome_plain sound old.scan.query asked.settings.scn own k' (Ok r) (subst (λ (z : Option ℕ × List Act). selecting.IsSelectOutcome sound old.scan.query z.0 z.1 k' (Ok r)) (λ i. (j.scn i, sym (and_then mine (scan.opened_by_query old.scan.state) t.acts f.done) i)) t.told.1) in
      let first = c.first in
      let since = t.since asked.first j.first in
      let ends = t.told.1.2 in
      let last = t.told.1.3 in
      record {
        acts = t.acts;
        ran = t.ran;
        told = (omega arith, omega arith, right.is_selected j.select j.found old.scan.query r (subst (λ (y : Statement). IsReadItem (seen_piece asked.piece) (Ok y)) j.is f.state.0.read) bound j.planned out c);
      }
  select_is_over x old new k k' (Err e) a f t c =
      let later = of_ran k k' t.acts t.ran in
      let j = f.state.1 in
      let own = mine ++ outline t.acts in
      let bound = bound_later k k' before j.found j.select.table later j.bound in
      let out = outcome_plain sound old.scan.query asked.settings.scn own k' (Err e) (subst (λ (z : Option ℕ × List Act). selecting.IsSelectOutcome sound old.scan.query z.0 z.1 k' (Err e)) (λ i. (j.scn i, sym (and_then mine (scan.opened_by_query old.scan.state) t.acts f.done) i)) t.told.1) in
      let F : Statement → Type 0 = λ y. right.SaysRefused a (right.query_refusal (table_named y) e) asked.settings ⊎ right.SaysRefused a refusal.Memory asked.settings in
      let since = query_end_plain before (query_of old.scan.query) asked.settings.scn e k' (subst (λ (z : Option ℕ). QueryEndSince before (query_of old.scan.query) z e k') j.scn (t.since before j.since)) in
      record {
        acts = t.acts;
        ran = t.ran;
        told = (
          first_low asked a c.0,
          first_within asked k' a (longer k k' asked.first later f.within) c.0,
          right.is_not_selected j.select j.found old.scan.query e (subst (λ (y : Statement). IsReadItem (seen_piece asked.piece) (Ok y)) j.is f.state.0.read) bound j.planned out since (subst F j.is c.1),
        );
      }

  -- a DELETE goes on, and is over

  delete_stays : (x : Statement) (old new : DeleteRun) (k k' : Known) (acts : List Act) → (f : FitsItem sound before asked mine (state.Deleting x old) k) → Ran k k' acts → deleting.FitsDelete sound (deletion_query f.state.1.found f.state.1.delete) new.state k' → deleting.IsDeleteGoing new.state
      → deleting.HasDone sound (deletion_query f.state.1.found f.state.1.delete) (mine ++ outline acts) new.state k' → deleting.IsDeleteSince asked.first new.state k' → FitsItem sound before asked (mine ++ outline acts) (state.Deleting x new) k'
  delete_stays x old new k k' acts f ran fits going done since =
      let later = of_ran k k' acts ran in
      let j = f.state.1 in
      record {
        begins = f.begins;
        within = longer k k' asked.first later f.within;
        state = (
          f.state.0,
          record {
            delete = j.delete;
            is = j.is;
            alone = j.alone;
            found = j.found;
            bound = bound_later k k' asked.first j.found j.delete.table later j.bound;
            right = j.right;
            fits = fits;
            going = going;
            done = done;
            since = since;
          },
        );
        done = tt;
      }

  pub delete_goes_on : (x : Statement) (old new : DeleteRun) (k k' : Known) → FitsItem sound before asked mine (state.Deleting x old) k → ((p : Planned) → deleting.FitsDelete sound p old.state k → deleting.DeleteTurns sound p old.state k new.state k' removed.Stepped)
      → ItemTurns sound before asked mine k k' (turn.Stepped (record { asked = asked; state = state.Deleting x new }))
  delete_goes_on x old new k k' f turns =
      let j = f.state.1 in
      let t = turns (deletion_query j.found j.delete) j.fits in
      let told = t.told asked.first mine j.since j.done in
      record { acts = t.acts; ran = t.ran; told = (refl, delete_stays x old new k k' t.acts f t.ran t.fits told.0 told.1 (t.since asked.first j.since)) }

  pub delete_waits : (x : Statement) (old new : DeleteRun) (k k' : Known) (stamp : ℕ) → FitsItem sound before asked mine (state.Deleting x old) k
      → ((p : Planned) → deleting.FitsDelete sound p old.state k → deleting.DeleteTurns sound p old.state k new.state k' (removed.Waiting stamp)) → ItemTurns sound before asked mine k k' (turn.Waiting (record { asked = asked; state = state.Deleting x new }))
  delete_waits x old new k k' stamp f turns =
      let j = f.state.1 in
      let t = turns (deletion_query j.found j.delete) j.fits in
      let told = t.told asked.first mine j.since j.done in
      record { acts = t.acts; ran = t.ran; told = (refl, delete_stays x old new k k' t.acts f t.ran t.fits told.0 told.1 (t.since asked.first j.since)) }

  deletion_told : (x : Statement) (y : Delete) (f : Found) (k : Known) (own : List Act) (rs : List Receipt) (e : Result Removed DeleteFault) (a : Answered) → x ≡ s.Delete y → IsAsking asked x → asked.settings.autocommit ≡ true → IsBoundTo k.base k.seen a.first f y.table → delete_faults f.table.columns y ≡ []
      → deleting.IsDeleteEnd sound (deletion_query f y) a.first own k rs e → deleting.IsEndSince a.first e k → right.TellsEnd x e a.reply → a.receipts ≡ rs → a.places ≡ [] → a.after ≡ Rattle.px_item.specs.declared.answered.After.TheVariants.Next asked.settings → IsRight sound (plain k) before own asked.settings (seen_piece asked.piece) a
  deletion_told x y f k own rs (Ok m) a is asking on bound none end since tells receipts places after =
      let read = subst (λ (z : Statement). IsReadItem (seen_piece asked.piece) (Ok z)) is asking.read in
      let h = removed_plain sound (deletion_query f y) own k rs m end in
      right.is_deleted y f m read (asking.free (ap changes is)) on bound none (subst (λ (l : List Receipt). deleting.HasRemoved sound (deletion_query f y) own (plain k) l m) (sym receipts) h) since (tells, places, after)
  deletion_told x y f k own rs (Err (undeleted.Unread e)) a is asking on bound none end since tells receipts places after =
      let read = subst (λ (z : Statement). IsReadItem (seen_piece asked.piece) (Ok z)) is asking.read in
      let out = outcome_plain sound (deletion_query f y) None own k (Err e) end.1 in
      let F : Statement → Type 0 = λ z. (a.reply ≡ reply.Refused (right.query_refusal (table_named z) e)) ⊎ (a.reply ≡ reply.Refused refusal.Memory) in
      let quiet = receipts ∙ end.0 in
      right.is_not_found y f e read (asking.free (ap changes is)) bound none out (query_since_plain a.first e k since) (⊎_elim (λ h. inl (h, quiet, places, after)) (λ h. inr (h, quiet, places, after)) (subst F is tells))
  deletion_told x y f k own rs (Err (undeleted.Unmade e)) a is asking on bound none end since tells receipts places after =
      let read = subst (λ (z : Statement). IsReadItem (seen_piece asked.piece) (Ok z)) is asking.read in
      let h = stopped_plain sound (deletion_query f y) own k rs a.receipts e receipts end.0 in
      let low = subst (λ (n : ℕ). a.first ≤ n) (sym (stopped_first sound (deletion_query f y) own k rs a.receipts e receipts end.0)) end.1 in
      right.is_not_deleted y f e read (asking.free (ap changes is)) on bound none h (low, batch_since_plain a.first e k since)
      (subst (λ (z : Statement). right.StopsDelete a.reply (table_named z) e) is tells) (places, after)

  pub delete_is_over : (x : Statement) (old new : DeleteRun) (k k' : Known) (d : Deleted) (a : Answered) → FitsItem sound before asked mine (state.Deleting x old) k
      → ((p : Planned) → deleting.FitsDelete sound p old.state k → deleting.DeleteTurns sound p old.state k new.state k' (removed.Over d)) → IsDeletion asked x d a → ItemTurns sound before asked mine k k' (turn.Over a)
  delete_is_over x old new k k' d a f turns c =
      let j = f.state.1 in
      let t = turns (deletion_query j.found j.delete) j.fits in
      let told = t.told asked.first mine j.since j.done in
      let later = of_ran k k' t.acts t.ran in
      let bound = subst (λ (n : ℕ). IsBoundTo k'.base k'.seen n j.found j.delete.table) (sym c.0) (bound_later k k' asked.first j.found j.delete.table later j.bound) in
      let since = subst (λ (n : ℕ). deleting.IsEndSince n d.end k') (sym c.0) (t.since asked.first j.since) in
      let outcome = subst (λ (n : ℕ). deleting.IsDeleteEnd sound (deletion_query j.found j.delete) n (mine ++ outline t.acts) k' d.receipts.items d.end) (sym c.0) told.1 in
      record {
        acts = t.acts;
        ran = t.ran;
        told = (
          first_low asked a c.0,
          first_within asked k' a (longer k k' asked.first later f.within) c.0,
          deletion_told x j.delete j.found k' (mine ++ outline t.acts) d.receipts.items d.end a j.is f.state.0 j.alone bound j.right outcome since c.1 c.2 c.3 c.4,
        );
      }
