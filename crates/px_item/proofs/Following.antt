-- How an item goes on whose table was found, or wasn't.
use Rattle.std.proofs.Common.{ℕ, ◌≡◌, ◌<◌, ◌≤◌, Bool, true, false, Option, None, Some, Ok, List, [], ◌∷◌, ◌++◌, length, refl, sym, ◌∙◌, ap, subst, arith, ◌⊎◌, inl, inr, ⊎_elim}
use Rattle.std.proofs.lemmas.List.{append-nil}
use Rattle.std.proofs.Math.Seq.{take-length}
use Rattle.px_lex.specs.Script.{seen_piece}
use Rattle.px_ast.specs.declared.statement.Statement.{Statement}
use Rattle.px_ast.specs.declared.statement.Statement.TheVariants as s
use Rattle.px_values.specs.declared.change.Change.{Change}
use Rattle.px_values.specs.declared.name.IndexId.{IndexId}
use Rattle.px_values.specs.declared.name.TableId.{TableId}
use Rattle.std.specs.Option.{option_map}
use Rattle.px_resolve.specs.Answers.{IsFirstBindFault}
use Rattle.px_resolve.specs.declared.fault.BindFault.{BindFault}
use Rattle.px_create.specs.Indexes.{index_id_named, new_index}
use Rattle.px_ast.specs.declared.statement.Delete.{Delete}
use Rattle.px_ast.specs.declared.statement.Select.{Select}
use Rattle.px_bind.specs.Queries.{IsQuery, delete_faults, select_faults}
use Rattle.px_bind.specs.Requests.{faults_in}
use Rattle.px_bind.specs.declared.request.Query.{Query as Asks}
use Rattle.px_bind.specs.Upserts.{upsert_change}
use Rattle.px_tables.specs.declared.found.Found.{Found}
use Rattle.px_tables.specs.declared.index.NewIndex.{NewIndex}
use Rattle.px_tables.specs.declared.table.Table.{Table}
use Rattle.px_trail.specs.declared.entry.Act.{Act}
use Rattle.px_trail.specs.declared.entry.Entry.{Entry}
use Rattle.px_trail.specs.Legal.{IsLegal}
use Rattle.px_trail.specs.Batches.{has, is_distinct, rows_of}
use Rattle.px_trail.specs.Trail.{catalogue_of, table_of}
use Rattle.px_calls.specs.declared.definition.Definition.{Definition}
use Rattle.px_calls.specs.declared.definition.Definition.TheVariants as d
use Rattle.px_calls.specs.declared.fault.StepFault.{StepFault}
use Rattle.px_calls.specs.declared.fault.StepFault.TheVariants as step
use Rattle.px_calls.specs.Known.{Known, Ran, Sees}
use Rattle.px_calls.specs.Causes.{NamesNoTable, Refuses, find_cause}
use Rattle.px_calls.specs.Calls.{DidFind, IsFound}
use Rattle.px_calls.specs.Requires.{AreFitting, CanDefine, IsChangeOf, IsIndexFit, IsNewIndex, IsScn}
use Rattle.px_calls.proofs.Runs.{ran-sees}
use Rattle.px_batch.specs.Turns as batch
use Rattle.px_batch.specs.declared.batch.BatchState.{BatchState}
use Rattle.px_commanding.specs.Commits as commits
use Rattle.px_commanding.specs.declared.commit.CommitRun.{CommitRun}
use Rattle.px_defining.specs.Turns as define
use Rattle.px_defining.specs.declared.define.DefineState.{DefineState}
use Rattle.px_reply.specs.declared.reply.Reply.{Reply}
use Rattle.px_reply.specs.declared.reply.Reply.TheVariants as reply
use Rattle.px_reply.specs.declared.refusal.Refusal.TheVariants as refusal
use Rattle.px_item.specs.declared.answered.Answered.{Answered}
use Rattle.px_item.specs.declared.answered.Asked.{Asked}
use Rattle.px_item.specs.declared.item.ItemRun.{ItemRun}
use Rattle.px_item.specs.declared.item.ItemState.{ItemState}
use Rattle.px_item.specs.declared.item.ItemState.TheVariants as state
use Rattle.px_item.specs.declared.item.ItemTurn.{ItemTurn}
use Rattle.px_item.specs.declared.item.ItemTurn.TheVariants as turn
use Rattle.px_ast.specs.declared.definition.IndexAction.{IndexAction}
use Rattle.px_ast.specs.declared.definition.IndexAction.TheVariants.{Disable, Rebuild}
use Rattle.px_item.specs.Builds.{altered}
use Rattle.px_item.specs.Right as right
use Rattle.px_item.specs.Right.{AsksToCommit, MayHold, FollowsFound, FollowsTo, GoesToCommit, MakesWay, holds, IsBoundTo, IsReadItem, IsRight, IsTold, MayRun, SaysOnly, changes, deletion_query, definition_asked, plain, table_named, unfound}
use Rattle.px_item.specs.Seeking.{SearchesIn, Seeks}
use Rattle.px_item.specs.Turns.{FitsItem, IsAsking, IsDefining, ItemTurns}
use Rattle.px_planned.specs.Queries.{query_of}
use Rattle.px_planned.specs.declared.planned.Planned.{Planned}
use Rattle.px_scan.specs.Turns as scan
use Rattle.px_deleting.specs.Deleting as deleting
use Rattle.px_item.proofs.Passing.{Later, longer, of_ran, new_select, new_delete, on_when, off_when, first_low, first_within, nothing_more}

pub some_same : (x y : Table) → Some x ≡ Some y → x ≡ y
some_same x y h = cc

-- what an UPSERT asks for fits its table, and so may be begun
fitting : (k : Known) (f : Found) (c : Change) → IsFound k.base k.seen f → IsChangeOf f.table c → AreFitting k f.table.id.0 (c ∷ [])
fitting k f c found fits = record { drawn = found.drawn; each = λ y is. (subst (λ (z : Table). IsChangeOf z c) (some_same f.table y (sym found.table ∙ is)) fits, tt) }

-- what a CREATE INDEX asks for fits its table
index_fits : (k : Known) (f : Found) (what : NewIndex) → IsFound k.base k.seen f → what.table ≡ f.table.id → IsNewIndex f.table what → IsIndexFit k what
index_fits k f what found of new =
    let F : TableId → Type 0 = λ t. (t.0 < (catalogue_of k.base k.seen).next) × ((x : Table) → table_of k.base k.seen t.0 ≡ Some x → IsNewIndex x what) in
    let all = subst F (sym of) (found.drawn, λ x is. subst (λ (z : Table). IsNewIndex z what) (some_same f.table x (sym found.table ∙ is)) new) in
    record { drawn = all.0; fits = all.1 }

pub bound_here : (asked : Asked) (k : Known) (name : List ℕ) (f : Found) → asked.first ≤ length k.seen → IsFound k.base k.seen f → f.table.name ≡ name → IsBoundTo k.base k.seen asked.first f name
bound_here asked k name f low found named = record { place = length k.seen; from = low; within = omega arith; found = subst (λ (l : List Entry). IsFound k.base l f) (sym (take-length k.seen)) found; named = named }

pub one_distinct : (x : Change) → is_distinct (rows_of (x ∷ [])) ≡ true
unfolding is_distinct has
one_distinct x = refl

-- `mine` is what was done for the item so far
module _ (sound : Type 0) (before : ℕ) (asked : Asked) (mine : List Act) where
  -- 1. Its table was found

  some_definition : (x y : Definition) → Some x ≡ Some y → x ≡ y
  some_definition x y h = cc

  of_some : (k : Known) (make : IndexId → Definition) → ((n : IndexId) → CanDefine sound k (make n)) → (o : Option IndexId) (y : Definition) → option_map make o ≡ Some y → CanDefine sound k y
  of_some k make can None y h = cc
  of_some k make can (Some n) y h = subst (λ (z : Definition). CanDefine sound k z) (some_definition (make n) y h) (can n)

  may_alter : (k : Known) (t : TableId) (a : IndexAction) (n : IndexId) → CanDefine sound k (altered t a n)
  may_alter k t Disable n = tt
  may_alter k t Rebuild n = tt

  may_define : (k : Known) (f : Found) (x : Statement) (y : Definition) → IsFound k.base k.seen f → right.IsFitFor f.table y → definition_asked f x ≡ Some y → CanDefine sound k y
  may_define k f (s.DropTable t) y found fit h = subst (λ (z : Definition). CanDefine sound k z) (some_definition (d.DropTable f.table.id) y h) tt
  may_define k f (s.CreateIndex i) y found fit h =
      let F : Definition → Type 0 = λ z. right.IsFitFor f.table z → CanDefine sound k z in
      subst F (some_definition (d.Index (new_index f.table i)) y h) (λ fits. index_fits k f (new_index f.table i) found fits.0 fits.1) fit
  may_define k f (s.DropIndex i) y found fit h = of_some k (λ n. d.DropIndex f.table.id n) (λ n. tt) (index_id_named f.indexes i.name) y h
  may_define k f (s.AlterIndex i) y found fit h = of_some k (λ n. altered f.table.id i.action n) (may_alter k f.table.id i.action) (index_id_named f.indexes i.name) y h
  may_define k f x y found fit h = cc

  plain_told : (x : Statement) (f : Found) (k : Known) (own : List Act) (r : Reply) (a : Answered) → IsReadItem (seen_piece asked.piece) (Ok x) → MayRun asked.settings x → IsBoundTo k.base k.seen a.first f (table_named x)
      → (r ≡ reply.Refused refusal.Memory) ⊎ ((fault : BindFault) × IsFirstBindFault (faults_in f x) fault × (r ≡ reply.Refused (right.bind_refusal fault))) → SaysOnly a r asked.settings → own ≡ [] → IsRight sound (plain k) before own asked.settings (seen_piece asked.piece) a
  plain_told x f k own r a read free bound (inl e) says quiet = right.is_at_once (right.is_lacking (says.0 ∙ e, says.1, says.2, says.3)) quiet
  plain_told x f k own r a read free bound (inr e) says quiet = right.is_wrong x f e.0 read free bound e.1 (says.0 ∙ e.2, says.1, says.2, says.3) quiet

  explained_so : (q : Select) (f : Found) (x : Asks) (k : Known) (own : List Act) (r : Reply) (a : Answered) → IsReadItem (seen_piece asked.piece) (Ok (s.Explain q)) → IsBoundTo k.base k.seen a.first f q.table → select_faults f.table.columns q ≡ []
      → IsQuery f.table q x → right.IsExplanation f (right.point_of asked.settings.scn) x r → SaysOnly a r asked.settings → own ≡ [] → IsRight sound (plain k) before own asked.settings (seen_piece asked.piece) a
  explained_so q f x k own r a read bound none is (inl e) says quiet = right.is_at_once (right.is_lacking (says.0 ∙ e, says.1, says.2, says.3)) quiet
  explained_so q f x k own r a read bound none is (inr (inl e)) says quiet = right.is_explained q f e.0 read bound (none, (x, is, e.1)) (says.0 ∙ e.2, says.1, says.2, says.3) quiet
  explained_so q f x k own r a read bound none is (inr (inr e)) says quiet = right.is_not_explained q f read bound (none, (x, is, e.0)) (says.0 ∙ e.1, says.1, says.2, says.3) quiet

  told_without : (x : Statement) (f : Found) (k : Known) (own : List Act) (r : Reply) (a : Answered) → IsReadItem (seen_piece asked.piece) (Ok x) → MayRun asked.settings x → IsBoundTo k.base k.seen a.first f (table_named x) → IsTold asked.settings.scn f x r
      → SaysOnly a r asked.settings → own ≡ [] → IsRight sound (plain k) before own asked.settings (seen_piece asked.piece) a
  told_without (s.DropIndex i) f k own r a read free bound (inl e) says quiet = right.is_at_once (right.is_lacking (says.0 ∙ e, says.1, says.2, says.3)) quiet
  told_without (s.DropIndex i) f k own r a read free bound (inr (inl e)) says quiet = right.is_wrong (s.DropIndex i) f e.0 read free bound e.1 (says.0 ∙ e.2, says.1, says.2, says.3) quiet
  told_without (s.DropIndex i) f k own r a read free bound (inr (inr e)) says quiet = right.is_index_absent i f read (free refl) bound e.0 e.1 (says.0 ∙ e.2, says.1, says.2, says.3) quiet
  told_without (s.CreateTable y) f k own r a read free bound h says quiet = plain_told (s.CreateTable y) f k own r a read free bound h says quiet
  told_without (s.DropTable y) f k own r a read free bound h says quiet = plain_told (s.DropTable y) f k own r a read free bound h says quiet
  told_without (s.CreateIndex y) f k own r a read free bound h says quiet = plain_told (s.CreateIndex y) f k own r a read free bound h says quiet
  told_without (s.AlterIndex y) f k own r a read free bound h says quiet = plain_told (s.AlterIndex y) f k own r a read free bound h says quiet
  told_without (s.Upsert y) f k own r a read free bound h says quiet = plain_told (s.Upsert y) f k own r a read free bound h says quiet
  told_without (s.Delete y) f k own r a read free bound h says quiet = plain_told (s.Delete y) f k own r a read free bound h says quiet
  told_without (s.Select y) f k own r a read free bound h says quiet = plain_told (s.Select y) f k own r a read free bound h says quiet
  told_without (s.Explain q) f k own r a read free bound (inl e) says quiet = right.is_at_once (right.is_lacking (says.0 ∙ e, says.1, says.2, says.3)) quiet
  told_without (s.Explain q) f k own r a read free bound (inr (inl e)) says quiet = right.is_wrong (s.Explain q) f e.0 read free bound e.1 (says.0 ∙ e.2, says.1, says.2, says.3) quiet
  told_without (s.Explain q) f k own r a read free bound (inr (inr e)) says quiet = explained_so q f e.1.0 k own r a read bound e.0 e.1.1 e.1.2 says quiet

  goes_from : (x : Statement) (f : Found) (k : Known) (st : ItemState) → FitsItem sound before asked mine (state.Finding x) k → IsLegal k.base k.seen → IsFound k.base k.seen f → f.table.name ≡ table_named x → holds asked.settings x ≡ false → right.holds_rows asked.settings x ≡ false → FollowsTo asked.settings.scn x f st → FitsItem sound before asked mine st k
  goes_from x f k (state.Finding y) fits legal found named off apart to = absurd to
  goes_from x f k (state.Seeking y run) fits legal found named off apart to = absurd to
  goes_from x f k (state.Committing again run) fits legal found named off apart to = absurd to
  goes_from x f k (state.Counting name run) fits legal found named off apart to = absurd to
  goes_from x f k (state.Ordering run) fits legal found named off apart to = absurd to
  goes_from x f k (state.Building y run) fits legal found named off apart to = absurd to
  goes_from x f k (state.Changing y run room) fits legal found named off apart (same, n) =
      let low = fits.begins in
      let within = fits.within in
      let b = bound_here asked k (table_named x) f fits.within found named in
      let F : BatchState → Type 0 = λ z. batch.FitsBatch sound run.table run.changes z k × batch.IsBatchGoing z × batch.IsBatchSince before z k × ([] ≡ batch.begun_by_batch run.table run.changes z) in
      let G : TableId × List Change → Type 0 = λ q. AreFitting k q.0.0 q.1 in
      let begins = subst F (sym n.5) (subst G (λ i. (sym n.3 i, sym n.4 i)) (fitting k f (upsert_change f.table n.0) found n.6), tt, omega arith, refl) in
      record {
        begins = fits.begins;
        within = fits.within;
        state = (
          subst (λ (z : Statement). IsAsking asked z) (sym same) fits.state,
          record {
            upsert = n.0;
            is = same ∙ n.1;
            alone = on_when asked.settings.autocommit (ap (holds asked.settings) (sym n.1) ∙ off);
            found = f;
            bound = subst (λ (z : Statement). IsBoundTo k.base k.seen asked.first f (table_named z)) n.1 b;
            right = n.2;
            table = n.3;
            changes = n.4;
            fits = begins.0;
            going = begins.1;
            since = begins.2;
          },
          n.7,
        );
        done = fits.done ∙ begins.3;
      }
  goes_from x f k (state.Defining y run) fits legal found named off apart (same, n) =
      let b = bound_here asked k (table_named x) f fits.within found named in
      let F : DefineState → Type 0 = λ z. define.FitsDefinition sound run.definition z k × define.IsDefinitionGoing z in
      let begins = subst F (sym n.2) (may_define k f x run.definition found n.3 n.1, tt) in
      let defining : IsDefining sound asked x run k = record { found = f; bound = b; right = n.0; definition = n.1; fits = begins.0; going = begins.1 } in
      record {
        begins = fits.begins;
        within = fits.within;
        state = (subst (λ (z : Statement). IsAsking asked z) (sym same) fits.state, inl (subst (λ (z : Statement). IsDefining sound asked z run k) (sym same) defining));
        done = fits.done;
      }
  goes_from x f k (state.Selecting y run) fits legal found named off apart (same, n) =
      let low = fits.begins in
      let b = bound_here asked k (table_named x) f fits.within found named in
      let wide : IsBoundTo k.base k.seen before f (table_named x) = record { place = b.place; from = (let u = b.from in omega arith); within = b.within; found = b.found; named = b.named } in
      let is : run.scan.query ≡ record { table = f.table; asked = Rattle.px_plan.specs.Asked.asked_of n.2.1.0 } = n.2.1.2 in
      let bound : scan.IsBound k (query_of run.scan.query) = subst (λ (z : Planned). scan.IsBound k (query_of z)) (sym is) (record { drawn = found.drawn; is = λ t has. sym (some_same f.table t (sym found.table ∙ has)) }) in
      let valid : IsScn run.scan.scn = subst IsScn (sym n.3) n.5 in
      let new = new_select sound (query_of run.scan.query) run.scan.scn run.scan.state k n.4 bound valid in
      let within = fits.within in
      record {
        begins = fits.begins;
        within = fits.within;
        state = (
          subst (λ (z : Statement). IsAsking asked z) (sym same) fits.state,
          record {
            select = n.0;
            is = same ∙ n.1;
            found = f;
            bound = subst (λ (z : Statement). IsBoundTo k.base k.seen before f (table_named z)) n.1 wide;
            planned = n.2;
            scn = n.3;
            fits = new.0;
            going = new.1;
            since = new.3 before (omega arith);
            first = new.3 asked.first within;
          },
        );
        done = fits.done ∙ new.2;
      }
  goes_from x f k (state.Deleting y run) fits legal found named off apart (same, n) =
      let b = bound_here asked k (table_named x) f fits.within found named in
      let p = deletion_query f n.0 in
      let bound : scan.IsBound k (query_of p) = record { drawn = found.drawn; is = λ t has. sym (some_same f.table t (sym found.table ∙ has)) } in
      let new = new_delete sound p run.state k n.3 (record { legal = legal; bound = bound }) in
      record {
        begins = fits.begins;
        within = fits.within;
        state = (
          subst (λ (z : Statement). IsAsking asked z) (sym same) fits.state,
          record {
            delete = n.0;
            is = same ∙ n.1;
            alone = on_when asked.settings.autocommit (ap (right.holds_rows asked.settings) (sym n.1) ∙ apart);
            found = f;
            bound = subst (λ (z : Statement). IsBoundTo k.base k.seen asked.first f (table_named z)) n.1 b;
            right = n.2;
            fits = new.0;
            going = new.1;
            done = subst (λ (l : List Act). deleting.HasDone sound p l run.state k) (sym fits.done) new.2;
            since = new.3 asked.first fits.within;
          },
        );
        done = tt;
      }

  fits_later : (x : Statement) (k k' : Known) → Later k k' → FitsItem sound before asked mine (state.Finding x) k → FitsItem sound before asked mine (state.Finding x) k'
  fits_later x k k' h f = record { begins = f.begins; within = longer k k' asked.first h f.within; state = f.state; done = f.done }

  pub found_one : (x : Statement) (f : Found) (k k' : Known) (t : ItemTurn) → FitsItem sound before asked mine (state.Finding x) k → holds asked.settings x ≡ false → right.holds_rows asked.settings x ≡ false → DidFind k k' (table_named x) f → FollowsFound asked x f t → ItemTurns sound before asked mine k k' t
  found_one x f k k' (turn.Stepped r) fits off apart did to =
      let ran = ran-sees k k' did.finds.sees in
      let went = goes_from x f k' r.state (fits_later x k k' (of_ran k k' [] ran) fits) did.finds.sees.passes.legal did.found did.name_is off apart to.1 in
      record { acts = []; ran = ran; told = (to.0, subst (λ (l : List Act). FitsItem sound before asked l r.state k') (sym (append-nil mine)) went) }
  found_one x f k k' (turn.Waiting r) fits off apart did to = absurd to
  found_one x f k k' (turn.Over a) fits off apart did to =
      let ran = ran-sees k k' did.finds.sees in
      let later = fits_later x k k' (of_ran k k' [] ran) fits in
      let b = subst (λ (n : ℕ). IsBoundTo k'.base k'.seen n f (table_named x)) (sym to.0) (bound_here asked k' (table_named x) f later.within did.found did.name_is) in
      record { acts = []; ran = ran; told = (first_low asked a to.0, first_within asked k' a later.within to.0, told_without x f k' (mine ++ []) to.1.0 a fits.state.read fits.state.free b to.1.1 to.1.2 (nothing_more mine fits.done)) }

  -- its row is held, or what was held is committed first
  module _ (x : Statement) (f : Found) (k k' : Known) (fits : FitsItem sound before asked mine (state.Finding x) k) (did : DidFind k k' (table_named x) f) where
    found_ran : Ran k k' []
    found_ran = ran-sees k k' did.finds.sees

    found_fits : FitsItem sound before asked mine (state.Finding x) k'
    found_fits = fits_later x k k' (of_ran k k' [] found_ran) fits

    found_bound : IsBoundTo k'.base k'.seen asked.first f (table_named x)
    found_bound = bound_here asked k' (table_named x) f found_fits.within did.found did.name_is

    bound_by : (a : Answered) → a.first ≡ asked.first → IsBoundTo (plain k').base (plain k').seen a.first f (table_named x)
    bound_by a first = subst (λ (n : ℕ). IsBoundTo k'.base k'.seen n f (table_named x)) (sym first) found_bound

    held_over : (a : Answered) → a.first ≡ asked.first → IsRight sound (plain k') before (mine ++ []) asked.settings (seen_piece asked.piece) a → ItemTurns sound before asked mine k k' (turn.Over a)
    held_over a first right = record { acts = []; ran = found_ran; told = (first_low asked a first, first_within asked k' a found_fits.within first, right) }

    to_commit : (st : ItemState) → MayHold asked.settings x → changes x ≡ true → faults_in f x ≡ [] → GoesToCommit asked f.table.id st → FitsItem sound before asked mine st k'
    to_commit (state.Finding y) may change none g = absurd g
    to_commit (state.Changing y run room) may change none g = absurd g
    to_commit (state.Defining y run) may change none g = absurd g
    to_commit (state.Building y run) may change none g = absurd g
    to_commit (state.Selecting y run) may change none g = absurd g
    to_commit (state.Deleting y run) may change none g = absurd g
    to_commit (state.Seeking y run) may change none g = absurd g
    to_commit (state.Counting name run) may change none g = absurd g
    to_commit (state.Ordering run) may change none g = absurd g
    to_commit (state.Committing again run) may change none g =
        let h = g.2.0 in
        let low = found_fits.begins in
        let within = found_fits.within in
        let way : MakesWay k' asked.first asked.settings (seen_piece asked.piece) h =
        record { statement = x; found = f; read = found_fits.state.read; free = found_fits.state.free change; holds = may; bound = found_bound; right = none; other = g.2.2 } in
        let F : CommitRun → Type 0 = λ r. commits.FitsCommit sound h r k' × commits.IsCommitSince before r k' × ([] ≡ commits.begun_by_commit r) in
        let new = subst F (sym g.1) (tt, omega arith, refl) in
        record {
          begins = found_fits.begins;
          within = found_fits.within;
          state = record { held = h; is = g.2.1; asks = subst (λ (b : Bool). AsksToCommit k' asked.first asked.settings (seen_piece asked.piece) h b) (sym g.0) (inr way); fits = new.0; since = new.1 };
          done = found_fits.done ∙ new.2;
        }

    -- what is wrong with it is told, or that memory lacks
    wrong_one : (a : Answered) → a.first ≡ asked.first → right.SaysRefused a refusal.Memory asked.settings ⊎ ((fault : BindFault) × IsFirstBindFault (faults_in f x) fault × right.SaysRefused a (right.bind_refusal fault) asked.settings) → ItemTurns sound before asked mine k k' (turn.Over a)
    wrong_one a first why =
        let quiet = nothing_more mine fits.done in
        held_over a first (⊎_elim
        (λ lacks. right.is_at_once (right.is_lacking lacks) quiet)
        (λ e. right.is_wrong x f e.0 found_fits.state.read found_fits.state.free (bound_by a first) e.1 e.2 quiet) why)

    -- it goes on in this state
    goes_on : (r : ItemRun) → r.asked ≡ asked → FitsItem sound before asked mine r.state k' → ItemTurns sound before asked mine k k' (turn.Stepped r)
    goes_on r same went = record { acts = []; ran = found_ran; told = (same, subst (λ (l : List Act). FitsItem sound before asked l r.state k') (sym (append-nil mine)) went) }

    pub held_one : (t : ItemTurn) → holds asked.settings x ≡ true → right.Holds asked x f t → ItemTurns sound before asked mine k k' t
    held_one t on (inl h) = subst (λ (y : ItemTurn). ItemTurns sound before asked mine k k' y) (sym h.1) (wrong_one h.0 h.2 h.3)
    held_one (turn.Stepped r) on (inr h) =
        let none = subst (λ (y : Statement). faults_in f y ≡ []) (sym h.1) h.2 in
        goes_on r h.3.0 (to_commit r.state (inl on) (ap changes h.1) none h.3.1)
    held_one (turn.Waiting r) on (inr h) = absurd h.3
    held_one (turn.Over a) on (inr h) =
        let u = h.0 in
        let is = h.1 in
        let none = h.2 in
        let first = h.3.0 in
        let off = off_when asked.settings.autocommit (right.is_upsert x) on in
        let quiet = nothing_more mine fits.done in
        let read = subst (λ (y : Statement). IsReadItem (seen_piece asked.piece) (Ok y)) is found_fits.state.read in
        let free = found_fits.state.free (ap changes is) in
        let b = subst (λ (y : Statement). IsBoundTo k'.base k'.seen a.first f (table_named y)) is (bound_by a first) in
        held_over a first (⊎_elim
        (λ lacks. right.is_at_once (right.is_lacking lacks) quiet)
        (λ more. ⊎_elim
        (λ held. right.is_held u f held.0 read free off b none held.1 held.2 quiet)
        (λ full. right.is_full u f read free off b none full.0 full.1 quiet) more) h.3.1)

    -- the rows of a DELETE are to be found, or what was held is committed first
    seeks : (y : Delete) (st : ItemState) → right.holds_rows asked.settings x ≡ true → x ≡ s.Delete y → length f.table.columns ≤ 255 → delete_faults f.table.columns y ≡ [] → SearchesIn asked x f.table.id (deletion_query f y) st → FitsItem sound before asked mine st k'
    seeks y (state.Finding z) on is places none g = absurd g
    seeks y (state.Changing z run room) on is places none g = absurd g
    seeks y (state.Defining z run) on is places none g = absurd g
    seeks y (state.Building z run) on is places none g = absurd g
    seeks y (state.Selecting z run) on is places none g = absurd g
    seeks y (state.Deleting z run) on is places none g = absurd g
    seeks y (state.Counting name run) on is places none g = absurd g
    seeks y (state.Ordering run) on is places none g = absurd g
    seeks y (state.Committing again run) on is places none g = to_commit (state.Committing again run) (inr on) (ap changes is) (subst (λ (z : Statement). faults_in f z ≡ []) (sym is) none) g
    seeks y (state.Seeking z run) on is places none (same, other, planned, scn, new) =
        let bound : scan.IsBound k' (query_of run.scan.query) =
        subst (λ (w : Planned). scan.IsBound k' (query_of w)) (sym planned) (record { drawn = did.found.drawn; is = λ t has. sym (some_same f.table t (sym did.found.table ∙ has)) }) in
        let valid : IsScn run.scan.scn = subst IsScn (sym scn) tt in
        let n = new_select sound (query_of run.scan.query) run.scan.scn run.scan.state k' new bound valid in
        record {
          begins = found_fits.begins;
          within = found_fits.within;
          state = (
            subst (λ (w : Statement). IsAsking asked w) (sym same) found_fits.state,
            record {
              delete = y;
              is = same ∙ is;
              off = off_when asked.settings.autocommit (right.is_delete x) on;
              found = f;
              bound = subst (λ (w : Statement). IsBoundTo k'.base k'.seen asked.first f (table_named w)) is found_bound;
              right = none;
              places = places;
              other = other;
              planned = planned;
              scn = scn;
              fits = n.0;
              going = n.1;
              since = n.3 asked.first found_fits.within;
            },
          );
          done = found_fits.done ∙ n.2;
        }

    pub sought_one : (t : ItemTurn) → right.holds_rows asked.settings x ≡ true → Seeks asked x f t → ItemTurns sound before asked mine k k' t
    sought_one t on (inl h) = subst (λ (y : ItemTurn). ItemTurns sound before asked mine k k' y) (sym h.1) (wrong_one h.0 h.2 h.3)
    sought_one (turn.Stepped r) on (inr h) = goes_on r h.1.3.0 (seeks h.1.0 r.state on h.1.1 h.0 h.1.2 h.1.3.1)
    sought_one (turn.Waiting r) on (inr h) = absurd h.1.3
    sought_one (turn.Over a) on (inr h) = absurd h.1.3

  -- 2. It was not

  lacking_here : (k : Known) (name : List ℕ) → asked.first ≤ length k.seen → NamesNoTable k name → right.IsLacking k asked.first name
  lacking_here k name low none =
      record {
        place = length k.seen;
        from = low;
        within = omega arith;
        none = subst (λ (l : List Entry). NamesNoTable (record { seat = k.seat; base = k.base; damaged = k.damaged; alone = false; seen = l }) name) (sym (take-length k.seen)) none;
      }

  lacking_plain : (k : Known) (n : ℕ) (name : List ℕ) → right.IsLacking k n name → right.IsLacking (plain k) n name
  lacking_plain k n name h = record { place = h.place; from = h.from; within = h.within; none = h.none }

  unfound_so : (x : Statement) (f : StepFault) (k k' : Known) (r : Reply) (a : Answered) (own : List Act) → FitsItem sound before asked mine (state.Finding x) k' → find_cause (table_named x) f k' → a.first ≡ asked.first → (r ≡ unfound x f) ⊎ (r ≡ reply.Refused refusal.Memory)
      → SaysOnly a r asked.settings → own ≡ [] → IsRight sound (plain k') before own asked.settings (seen_piece asked.piece) a
  unfound_so x f k k' r a own fits cause first (inr e) says quiet = right.is_at_once (right.is_lacking (says.0 ∙ e, says.1, says.2, says.3)) quiet
  unfound_so x step.NoTable k k' r a own fits cause first (inl e) says quiet =
      let l = subst (λ (n : ℕ). right.IsLacking (plain k') n (table_named x)) (sym first) (lacking_plain k' asked.first (table_named x) (lacking_here k' (table_named x) fits.within cause)) in
      right.is_unfound x fits.state.read fits.state.free l (says.0 ∙ e, says.1, says.2, says.3) quiet
  unfound_so x (step.Closed call) k k' r a own fits cause first (inl e) says quiet = right.is_closed x call fits.state.read cause (says.0 ∙ e, says.1, says.2, says.3) quiet
  unfound_so x f k k' r a own fits cause first (inl e) says quiet = right.is_at_once (right.is_lacking (says.0 ∙ e, says.1, says.2, says.3)) quiet

  quiet_find : (x : Statement) (f : StepFault) (k k' : Known) → Refuses (find_cause (table_named x)) k k' f → find_cause (table_named x) f k' × Sees k k'
  quiet_find x step.ReadFault k k' h = absurd h.0
  quiet_find x step.WriteFault k k' h = absurd h.0
  quiet_find x (step.Closed call) k k' h = h
  quiet_find x step.NameExists k k' h = absurd h.0
  quiet_find x step.NoTable k k' h = (h.0, h.1)
  quiet_find x step.NoIndex k k' h = absurd h.0
  quiet_find x (step.Limit which count) k k' h = absurd h.0
  quiet_find x (step.Busy region cells bytes) k k' h = absurd h.0
  quiet_find x (step.NotReady region) k k' h = absurd h.0
  quiet_find x (step.InUse count) k k' h = absurd h.0
  quiet_find x (step.NotYet stamp) k k' h = absurd h.0
  quiet_find x (step.BelowHorizon horizon) k k' h = absurd h.0
  quiet_find x (step.Damaged file place) k k' h = absurd h.0
  quiet_find x step.Memory k k' h = (h.0, h.1)

  pub found_none : (x : Statement) (f : StepFault) (k k' : Known) (r : Reply) (a : Answered) → FitsItem sound before asked mine (state.Finding x) k → Refuses (find_cause (table_named x)) k k' f → a.first ≡ asked.first
      → (r ≡ unfound x f) ⊎ (r ≡ reply.Refused refusal.Memory) → SaysOnly a r asked.settings → ItemTurns sound before asked mine k k' (turn.Over a)
  found_none x f k k' r a fits h first told says =
      let q = quiet_find x f k k' h in
      let ran = ran-sees k k' q.1 in
      record { acts = []; ran = ran; told = (first_low asked a first, first_within asked k' a (fits_later x k k' (of_ran k k' [] ran) fits).within first, unfound_so x f k k' r a (mine ++ []) (fits_later x k k' (of_ran k k' [] ran) fits) q.0 first told says (nothing_more mine fits.done)) }
