-- Each form of a right answer is one of the fold, where nobody else acts.
use Rattle.std.proofs.Common.{bytes_eq, ℕ, ◌≡◌, ◌↔◌, ◌<◌, ◌≤◌, ◌+◌, ◌-◌, ◌⊎◌, if◌then◌else◌, Bool, true, false, Option, None, Some, IsSome, List, [], ◌∷◌, ◌++◌, length, min, take, Ok, refl, sym, ◌∙◌, ap, subst, arith, append_assoc, inl, inr}
use Rattle.std.specs.List.{AllByRecursion}
use Rattle.px_lex.specs.Script.{SeenPiece}
use Rattle.px_values.specs.Limits.{most_of}
use Rattle.px_values.specs.declared.change.Change.{Change}
use Rattle.px_values.specs.declared.limit.Limit.{Limit}
use Rattle.px_values.specs.declared.limit.Limit.TheVariants as bound
use Rattle.px_values.specs.declared.name.TableId.{TableId}
use Rattle.px_values.specs.declared.print.CountWord.TheVariants.{Affected, Held}
use Rattle.px_ast.specs.declared.statement.Select.{Select}
use Rattle.px_ast.specs.declared.statement.Statement.{Statement}
use Rattle.px_ast.specs.declared.statement.Statement.TheVariants as s
use Rattle.px_ast.specs.declared.statement.Upsert.{Upsert}
use Rattle.px_ast.specs.declared.statement.Delete.{Delete}
use Rattle.px_bind.specs.Queries.{IsQuery, delete_faults, select_faults}
use Rattle.px_deleting.specs.Deleting as deleting
use Rattle.px_deleting.specs.declared.deleted.Removed.{Removed}
use Rattle.px_calls.specs.declared.ticket.Receipt.{Receipt}
use Rattle.px_alone.proofs.Batching.{batches-made, changes-append, stamps_told}
use Rattle.px_bind.specs.Upserts.{upsert_faults}
use Rattle.px_bind.specs.declared.request.Query.{Query}
use Rattle.px_tables.specs.declared.found.Found.{Found}
use Rattle.px_tables.specs.declared.index.Index.{Index}
use Rattle.px_tables.specs.declared.table.Table.{Table}
use Rattle.px_trail.specs.Answers.{IsAmong}
use Rattle.px_trail.specs.Legal.{Follows, IsLegal, MayState}
use Rattle.px_trail.specs.States.{greatest_stamp}
use Rattle.px_trail.specs.Trail.{Base, Catalogue, IsFreeName, acts_by, catalogue_of, horizon_of, last_of}
use Rattle.px_trail.specs.declared.entry.Act.{Act}
use Rattle.px_trail.specs.declared.entry.Act.TheVariants.{Begun, Ended, IndexState, Opened, Released}
use Rattle.px_trail.specs.declared.entry.Entry.{Entry}
use Rattle.px_calls.specs.Causes.{HasName, LacksIndex, LacksTable, RunsOut, batch_limit, count_below, new_index_cause, new_table_cause, of_table, rebuilding_cause, stamp_at}
use Rattle.px_batch.specs.Turns as batch
use Rattle.px_batch.specs.declared.batch.BatchFault.{BatchFault}
use Rattle.px_batch.specs.declared.batch.BatchFault.TheVariants as unmade
use Rattle.px_scan.specs.Faults.{IsJoined, QueryEndSince, QueryFaultIs}
use Rattle.px_scan.specs.Turns.{OpensAndCloses}
use Rattle.px_scan.specs.declared.answer.QueryFault.{QueryFault}
use Rattle.px_scan.specs.declared.answer.QueryFault.TheVariants as unread
use Rattle.px_calls.specs.Calls as calls
use Rattle.px_calls.specs.Calls.{IsFound}
use Rattle.px_calls.specs.declared.status.IndexCount.{IndexCount}
use Rattle.px_calls.specs.declared.status.Status.{Status}
use Rattle.px_commanding.specs.Commits as commits
use Rattle.px_commanding.specs.Counts as counts
use Rattle.px_commanding.specs.declared.count.CountFault.{CountFault}
use Rattle.px_commanding.specs.declared.count.CountFault.TheVariants as uncounted
use Rattle.px_commanding.specs.declared.order.OrderFault.{OrderFault}
use Rattle.px_commanding.specs.declared.order.OrderFault.TheVariants as undone_by
use Rattle.std.proofs.lemmas.Slice.Eq.{bytes_eq-Decides}
use Rattle.std.specs.Option.{option_map}
use Rattle.px_ast.specs.declared.definition.AlterIndex.{AlterIndex}
use Rattle.px_ast.specs.declared.definition.CreateIndex.{CreateIndex}
use Rattle.px_ast.specs.declared.definition.CreateTable.{CreateTable}
use Rattle.px_ast.specs.declared.definition.DropIndex.{DropIndex}
use Rattle.px_ast.specs.declared.definition.DropTable.{DropTable}
use Rattle.px_ast.specs.declared.definition.IndexAction.{IndexAction}
use Rattle.px_ast.specs.declared.definition.IndexAction.TheVariants.{Disable, Rebuild}
use Rattle.px_bind.specs.Requests.{faults_in}
use Rattle.px_create.specs.Indexes.{index_faults, index_id_named, new_index}
use Rattle.std.proofs.lemmas.List.{append-nil}
use Rattle.px_item.specs.Builds.{IsBuiltBehind, altered, to_build}
use Rattle.px_upkeep.specs.Turns as building
use Rattle.px_upkeep.specs.declared.build.BuildFault.{BuildFault}
use Rattle.px_upkeep.specs.declared.build.BuildFault.TheVariants as unbuilt
use Rattle.px_tables.specs.declared.index.IndexState.TheVariants as states
use Rattle.px_values.specs.declared.name.IndexId.{IndexId}
use Rattle.px_calls.specs.declared.definition.Definition.{Definition}
use Rattle.px_calls.specs.declared.definition.Definition.TheVariants as d
use Rattle.px_calls.specs.declared.definition.Made.{Made}
use Rattle.px_calls.specs.declared.fault.StepFault.TheVariants as step
use Rattle.px_create.specs.Tables.{new_table, table_faults}
use Rattle.px_defining.specs.Turns as define
use Rattle.px_defining.specs.declared.define.DefineFault.{DefineFault}
use Rattle.px_defining.specs.declared.define.DefineFault.TheVariants as undone
use Rattle.px_reply.specs.declared.reply.Defined.TheVariants as defined
use Rattle.px_commands.specs.declared.command.Command.TheVariants as commands
use Rattle.px_held.specs.HeldData.{HeldData}
use Rattle.px_calls.specs.declared.query.Point.{Point}
use Rattle.px_calls.specs.Known.{Known, outline}
use Rattle.px_plan.specs.Asked.{asked_of}
use Rattle.px_plan.specs.declared.plan.Asked.{Asked as Asks}
use Rattle.px_planned.specs.Queries.{IsPathTaken, joins_at, query_of}
use Rattle.px_planned.specs.declared.planned.Planned.{Planned}
use Rattle.px_answers.specs.Selects.{IsCurrentSelect, IsExactSelect, IsSelectBy, selects}
use Rattle.px_select.specs.Selecting.{IsSelectAnswer}
use Rattle.px_select.specs.declared.run.Selected.{Selected}
use Rattle.px_item.specs.Right as right
use Rattle.px_item.specs.Right.{IsBoundTo, IsRight}
use Rattle.px_item.specs.declared.answered.After.TheVariants as next_is
use Rattle.px_item.specs.declared.answered.Answered.{Answered}
use Rattle.px_item.specs.declared.answered.Settings.{Settings}
use Rattle.px_reply.specs.declared.refusal.Refusal.{Refusal}
use Rattle.px_reply.specs.declared.refusal.Refusal.TheVariants as refusal
use Rattle.px_reply.specs.declared.reply.Reply.{Reply}
use Rattle.px_reply.specs.declared.reply.Reply.TheVariants as reply
use Rattle.px_alone.specs.Alone.{tables_at}
use Rattle.px_alone.specs.Answers.{ComesAlone, IsQueryAnswered}
use Rattle.px_alone.specs.Answers as comes
use Rattle.px_alone.specs.Tables.{HasTable, IsKept, Tables, point_stamp, stamp_of}
use Rattle.px_alone.proofs.Calm.{AreCalm, calm-tables, current-is, exact-is, horizon-then, tables-then, with_horizon}
use Rattle.px_alone.proofs.Limits.{passes-none, refused-by}
use Rattle.px_alone.proofs.Finding.{defs-changes, defs_in, finds-at, finds-bound, lacks-at}
use Rattle.px_alone.proofs.Naming.{All, all-entries, again-all, changes-tries, is_unmade, keeps_names, keeps_tables, names-kept, names-rest, renewed, stamps-again, tables-back, tables-kept, tables-rest, unmade-rest}
use Rattle.px_alone.proofs.Outcomes.{Quiet, begun-above, does-of, first-change, outcome_by, no-closing, no-device, no-memory, outcome_of, quiet-by, stamps_in, tells-of}
use Rattle.px_alone.proofs.Rows.{AllDone}
use Rattle.px_alone.proofs.Standing.{OthersQuiet, acts_of, changes-own, changes_in}

module _ (sound : Type 0) (is_sound : sound) (b : Base) (pre more : List Entry) (seat : ℕ) (damaged : ℕ → ℕ → Bool) (legal : IsLegal b (pre ++ more)) (done : AllDone pre) (quiet : OthersQuiet seat more) where
  abbrev pub k : Known
  k = record { seat = seat; base = b; damaged = damaged; alone = false; seen = pre ++ more }

  abbrev pub x : Tables
  x = tables_at b pre

  abbrev pub then_ : Tables
  then_ = tables_at b (pre ++ more)

  -- it comes so of the tables as they stood; or, where nothing is changed, of those with the horizons that rose meanwhile
  abbrev pub Folds : Settings → SeenPiece → List Act → Answered → Type 0
  Folds st p own a = ComesAlone x st p (outcome_of own a) ⊎ ((changes_in own ≡ []) × ComesAlone then_ st p (outcome_of own a))

  module _ (own : List Act) (own_is : own ≡ outline (acts_by seat more)) where
    changes_are : changes_in (acts_of more) ≡ changes_in own
    changes_are = changes-own seat more quiet ∙ ap changes_in (sym own_is)

    calm_by : changes_in own ≡ [] → AreCalm more
    calm_by none = changes_are ∙ none

    defs_by : defs_in (changes_in own) ≡ [] → defs_in (acts_of more) ≡ []
    defs_by none = defs-changes (acts_of more) ∙ (ap defs_in changes_are ∙ none)

    -- 1. Tables that were found

    finds : (first : ℕ) (f : Found) (name : List ℕ) → defs_in (changes_in own) ≡ [] → length pre ≤ first → IsBoundTo b (pre ++ more) first f name → HasTable x f name
    finds first f name none from h = finds-bound b pre more (defs_by none) first f name from h

    -- 2. A SELECT

    -- two tables that are found under one number are one
    same_table : (f g : Found) (name other : List ℕ) → HasTable x f name → HasTable x g other → f.table.id.0 ≡ g.table.id.0 → f.table ≡ g.table
    same_table f g name other h j e = (let z : ◌≡◌ {A = Option Table} (Some f.table) (Some g.table) = sym h.table ∙ (ap (λ (n : ℕ). x.catalogue.tables n) e ∙ j.table) in cc)

    -- the definitions at the point of an answer are those that stood
    pub finds_point : (p : Planned) (scn : Option ℕ) (a : Selected) → defs_in (changes_in own) ≡ [] → length pre ≤ a.first → (answer : IsSelectAnswer sound k p scn a) → HasTable x answer.point.found answer.point.found.table.name
    finds_point p scn a none from answer =
        finds-at b pre more (defs_by none) answer.point.found.at answer.point.found answer.point.found.table.name (let e = answer.at in omega arith) answer.is_point.found refl

    pub point_table : (p : Planned) (scn : Option ℕ) (a : Selected) (f : Found) (name : List ℕ) → p.table ≡ f.table → defs_in (changes_in own) ≡ [] → length pre ≤ a.first → HasTable x f name → (answer : IsSelectAnswer sound k p scn a) → answer.point.found.table ≡ f.table
    point_table p scn a f name bound none from h answer =
        same_table answer.point.found f answer.point.found.table.name name (finds_point p scn a none from answer) h
        (ap (λ (t : TableId). t.0) answer.is_point.found_table ∙ (answer.is_point.table ∙ ap (λ (t : Table). t.id.0) bound))

    -- the point of an answer is at the last stamp, or at that of its SCN
    point_is : (f : Found) (a : Asks) (scn : Option ℕ) (r : Selected) → AreCalm more → length pre ≤ r.first → (answer : IsSelectAnswer sound k (record { table = f.table; asked = a }) scn r) → answer.point.found.table ≡ f.table → answer.point.stamp ≡ point_stamp x answer.point.found.table.id.0 scn
    point_is f a scn r calm from answer same =
        answer.is_point.stamp ∙ ap (λ (n : ℕ). stamp_at scn f.table.id.0 b (take n (pre ++ more))) answer.at ∙ by_scn scn ∙ ap (λ (t : Table). point_stamp x t.id.0 scn) (sym same)
      where
        by_scn : (o : Option ℕ) → stamp_at o f.table.id.0 b (take r.first (pre ++ more)) ≡ point_stamp x f.table.id.0 o
        by_scn None = ap (λ (y : Tables). y.last f.table.id.0) (tables-then b pre more legal done calm r.first from)
        by_scn (Some n) = ap (λ (y : Tables). min (n - 1) (y.last f.table.id.0)) (tables-then b pre more legal done calm r.first from)

    taken_by : (f : Found) (a : Asks) (scn : Option ℕ) (r : Selected) → AreCalm more → length pre ≤ r.first → (answer : IsSelectAnswer sound k (record { table = f.table; asked = a }) scn r) → answer.point.found.table ≡ f.table → IsPathTaken a answer.point.found (point_stamp x answer.point.found.table.id.0 scn) answer.path.by
    taken_by f a scn r calm from answer same = subst (λ (n : ℕ). IsPathTaken a answer.point.found n answer.path.by) (point_is f a scn r calm from answer same) answer.taken

    pub some_current : (f : Found) (a : Asks) (r : Selected) → AreCalm more → length pre ≤ r.first → r.first ≤ r.last → (answer : IsSelectAnswer sound k (record { table = f.table; asked = a }) None r) → answer.point.found.table ≡ f.table → IsQueryAnswered x answer.point.found None a r.shown.rows
    some_current f a r calm from on answer same =
        let c : IsCurrentSelect b (pre ++ more) (record { table = f.table; asked = a }) answer.point.found answer.path.by r.first r.last r.shown = answer.answer is_sound in
        record {
          kept = tt;
          by = answer.path.by;
          taken = taken_by f a None r calm from answer same;
          given = c.given;
          exact =
              subst (λ (t : Table). comes.IsExactIn x (selects (record { table = t; asked = a }) answer.point.found answer.path.by) greatest_stamp c.given) (sym same)
              (current-is b pre more legal done calm (selects (record { table = f.table; asked = a }) answer.point.found answer.path.by) r.first r.last c.given from on c.current);
          shown = c.shown.rows;
        }

    some_exact : (f : Found) (a : Asks) (scn : ℕ) (r : Selected) → AreCalm more → length pre ≤ r.first → (answer : IsSelectAnswer sound k (record { table = f.table; asked = a }) (Some scn) r) → answer.point.found.table ≡ f.table → IsQueryAnswered x answer.point.found (Some scn) a r.shown.rows
    some_exact f a scn r calm from answer same =
        let h : IsSelectBy b (pre ++ more) (record { table = f.table; asked = a }) (Some scn) answer.point.found answer.path.by r.first r.last r.shown = answer.answer is_sound in
        let c : IsExactSelect b (pre ++ more) (record { table = f.table; asked = a }) answer.point.found answer.path.by (stamp_at (Some scn) f.table.id.0 b (take r.first (pre ++ more))) r.shown = h.0 in
        let at : stamp_at (Some scn) f.table.id.0 b (take r.first (pre ++ more)) ≡ stamp_of x f.table.id.0 (Some scn) = ap (λ (y : Tables). min (scn - 1) (y.last f.table.id.0)) (tables-then b pre more legal done calm r.first from) in
        let low : horizon_of b f.table.id.0 pre ≤ scn - 1 = (let l = h.1 in let up = horizon-then b pre more legal done calm r.first f.table.id.0 from in omega arith) in
        record {
          kept = subst (λ (t : Table). IsKept x t.id.0 (Some scn)) (sym same) low;
          by = answer.path.by;
          taken = taken_by f a (Some scn) r calm from answer same;
          given = c.given;
          exact =
              subst (λ (t : Table). comes.IsExactIn x (selects (record { table = t; asked = a }) answer.point.found answer.path.by) (stamp_of x t.id.0 (Some scn)) c.given) (sym same)
              (subst (λ (n : ℕ). comes.IsExactIn x (selects (record { table = f.table; asked = a }) answer.point.found answer.path.by) n c.given) at
              (exact-is b pre more legal done calm (selects (record { table = f.table; asked = a }) answer.point.found answer.path.by) _ c.given c.exact));
          shown = c.shown.rows;
        }

    -- the answer of a SELECT, by the tables as they stood
    selected : (f : Found) (a : Asks) (scn : Option ℕ) (r : Selected) → AreCalm more → length pre ≤ r.first → r.first ≤ r.last → (answer : IsSelectAnswer sound k (record { table = f.table; asked = a }) scn r) → answer.point.found.table ≡ f.table → IsQueryAnswered x answer.point.found scn a r.shown.rows
    selected f a None r calm from on answer same = some_current f a r calm from on answer same
    selected f a (Some scn) r calm from on answer same = some_exact f a scn r calm from answer same

    pub selected_form : (st : Settings) (p : SeenPiece) (a : Answered) (q : Select) (f : Found) (y : Planned) (r : Selected) → right.IsReadItem p (Ok (s.Select q)) → HasTable x f q.table → right.IsAskedOf f q y → length pre ≤ r.first → changes_in own ≡ [] → r.first ≤ r.last → IsSelectAnswer sound k y st.scn r → right.SaysRows a r st → Folds st p own a
    selected_form st p a q f y r read h asked from none on answer says =
        let query : Query = asked.1.0 in
        let is : y ≡ record { table = f.table; asked = asked_of query } = asked.1.2 in
        let mine : IsSelectAnswer sound k (record { table = f.table; asked = asked_of query }) st.scn r = subst (λ (w : Planned). IsSelectAnswer sound k w st.scn r) is answer in
        let defs : defs_in (changes_in own) ≡ [] = ap defs_in none in
        let same : mine.point.found.table ≡ f.table = point_table (record { table = f.table; asked = asked_of query }) st.scn r f q.table refl defs from h mine in
        let found = finds_point (record { table = f.table; asked = asked_of query }) st.scn r defs from mine in
        inl (comes.is_selected q mine.point.found query r.shown.rows read
        (record { table = found.table; named = ap (λ (t : Table). t.name) same ∙ h.named; indexes = found.indexes; rising = found.rising })
        (subst (λ (t : Table). select_faults t.columns q ≡ []) (sym same) asked.0)
        (subst (λ (t : Table). IsQuery t q query) (sym same) asked.1.1)
        (selected f (asked_of query) st.scn r (calm_by none) from on mine same)
        (tells-of own a (reply.Rows r.shown.rows) st none says.rows says.after))

    -- 3. What is refused

    -- the tables with the horizons that rose meanwhile
    calm_then : changes_in own ≡ [] → then_ ≡ with_horizon x (λ t. horizon_of b t (pre ++ more))
    calm_then none = calm-tables b pre more (calm_by none)

    finds_then : (f : Found) (name : List ℕ) → changes_in own ≡ [] → HasTable x f name → HasTable then_ f name
    finds_then f name none h = subst (λ (y : Tables). HasTable y f name) (sym (calm_then none)) (record { table = h.table; named = h.named; indexes = h.indexes; rising = h.rising })

    -- a table that was found stands
    stands_then : {A : Type 0} → (f : Found) (name : List ℕ) → changes_in own ≡ [] → HasTable x f name → LacksTable k f.table.id.0 → A
    stands_then f name none h lacks = (let z : ◌≡◌ {A = Option Table} (Some f.table) None = sym (finds_then f name none h).table ∙ lacks in cc)

    catalogue_then : changes_in own ≡ [] → catalogue_of b (pre ++ more) ≡ catalogue_of b pre
    catalogue_then none = ap (λ (y : Tables). y.catalogue) (calm_then none)

    -- a table that is found at the end was there at first
    finds_whole : (f : Found) (name : List ℕ) → changes_in own ≡ [] → IsFound b (pre ++ more) f → f.table.name ≡ name → HasTable x f name
    finds_whole f name none h named =
        let c = catalogue_then none in
        record {
          table = ap (λ (d : Catalogue). d.tables f.table.id.0) (sym c) ∙ h.table;
          named = named;
          indexes = λ i. subst (λ (d : Catalogue). IsAmong i f.indexes ↔ ((d.indexes i.id.0 ≡ Some i) × (i.table.0 ≡ f.table.id.0))) c (h.indexes i);
          rising = h.rising;
        }

    -- the stamp of a point at which a query was opened, where nothing had changed
    stamp_then : (scn : Option ℕ) (m t : ℕ) → AreCalm more → length pre ≤ m → stamp_at scn t b (take m (pre ++ more)) ≡ point_stamp x t scn
    stamp_then None m t calm from = ap (λ (y : Tables). y.last t) (tables-then b pre more legal done calm m from)
    stamp_then (Some scn) m t calm from = ap (λ (y : Tables). min (scn - 1) (y.last t)) (tables-then b pre more legal done calm m from)

    kept_then : (scn : Option ℕ) (m t stamp : ℕ) → AreCalm more → length pre ≤ m → horizon_of b t (take m (pre ++ more)) ≤ stamp → stamp ≡ stamp_at scn t b (take m (pre ++ more)) → IsKept x t scn
    kept_then None m t stamp calm from low at = tt
    kept_then (Some scn) m t stamp calm from low at = (let up = horizon-then b pre more legal done calm m t from in omega arith)

    opened_calm : (q : Rattle.px_gather.specs.Query.Query) → OpensAndCloses q own → changes_in own ≡ []
    opened_calm q h = ap changes_in h.2

    refused_calm : (q : Rattle.px_gather.specs.Query.Query) → (own ≡ []) ⊎ OpensAndCloses q own → changes_in own ≡ []
    refused_calm q (inl e) = ap changes_in e
    refused_calm q (inr h) = opened_calm q h

    module _ (st : Settings) (p : SeenPiece) (a : Answered) (none : changes_in own ≡ []) (still : a.after ≡ next_is.Next st) (own_cause : Quiet a.reply) where
      says : (r : Refusal) → a.reply ≡ reply.Refused r → comes.TellsRefusal (outcome_of own a) r st
      says r e = tells-of own a (reply.Refused r) st none e still

      below : (q : Select) (f : Found) (o : Option ℕ) (h : ℕ) (y : Rattle.px_gather.specs.Query.Query) → y.table ≡ f.table.id.0 → st.scn ≡ o → QueryFaultIs sound y o (unread.BelowHorizon h) k → right.IsReadItem p (Ok (s.Select q)) → HasTable x f q.table → select_faults f.table.columns q ≡ [] → a.reply ≡ reply.Refused (refusal.BelowHorizon h) → Folds st p own a
      below q f None h y e scn is read finds fits told = absurd is
      below q f (Some n) h y e scn is read finds fits told =
          let at : horizon_of b f.table.id.0 (pre ++ more) ≡ h = ap (λ (t : ℕ). horizon_of b t (pre ++ more)) (sym e) ∙ is.1 in
          inr (
            none,
            comes.is_below_horizon q f n read (finds_then f q.table none finds) fits scn (let l = is.2 in omega arith)
                (says (refusal.BelowHorizon (horizon_of b f.table.id.0 (pre ++ more))) (told ∙ ap (λ (m : ℕ). reply.Refused (refusal.BelowHorizon m)) (sym at))),
          )

      -- no path holds what is asked for: the table's definitions at its point are those that stood
      joined : (q : Select) (f : Found) (z : Planned) (n : ℕ) → length pre ≤ n → right.IsAskedOf f q z → IsJoined n (query_of z) st.scn k → right.IsReadItem p (Ok (s.Select q)) → HasTable x f q.table → a.reply ≡ reply.Refused refusal.IndexJoin → Folds st p own a
      joined q f z n low asked j read finds told =
          let query : Query = asked.1.0 in
          let mine : IsJoined n (query_of (record { table = f.table; asked = asked_of query })) st.scn k = subst (λ (w : Planned). IsJoined n (query_of w) st.scn k) asked.1.2 j in
          let at : Point = mine.point in
          let calm : AreCalm more = calm_by none in
          let from : length pre ≤ at.found.at = (let l = mine.from in omega arith) in
          let found : HasTable x at.found at.found.table.name = finds-at b pre more (defs_by (ap defs_in none)) at.found.at at.found at.found.table.name from mine.is_point.found refl in
          let same : at.found.table ≡ f.table = same_table at.found f at.found.table.name q.table found finds (ap (λ (t : TableId). t.0) mine.is_point.found_table ∙ mine.is_point.table) in
          let stamp : at.stamp ≡ point_stamp x f.table.id.0 st.scn = mine.is_point.stamp ∙ stamp_then st.scn at.found.at f.table.id.0 calm from in
          inl (comes.is_joined q at.found query read
          (record { table = found.table; named = ap (λ (t : Table). t.name) same ∙ finds.named; indexes = found.indexes; rising = found.rising })
          (subst (λ (t : Table). select_faults t.columns q ≡ []) (sym same) asked.0)
          (subst (λ (t : Table). IsQuery t q query) (sym same) asked.1.1)
          (subst (λ (t : Table). IsKept x t.id.0 st.scn) (sym same) (kept_then st.scn at.found.at f.table.id.0 at.stamp calm from mine.is_point.low mine.is_point.stamp))
          (subst (λ (m : ℕ). joins_at (asked_of query) at.found m ≡ true) (stamp ∙ ap (λ (t : Table). point_stamp x t.id.0 st.scn) (sym same)) mine.joins)
          (says refusal.IndexJoin told))

      not_selected : (q : Select) (f : Found) (z : Planned) (n : ℕ) (why : QueryFault) → length pre ≤ n → right.IsAskedOf f q z → QueryFaultIs sound (query_of z) st.scn why k → QueryEndSince n (query_of z) st.scn why k → right.IsReadItem p (Ok (s.Select q)) → HasTable x f q.table
          → a.reply ≡ reply.Refused (right.query_refusal q.table why) → Folds st p own a
      not_selected q f z n unread.NoTable low asked is since read finds told = stands_then f q.table none finds (subst (LacksTable k) (ap (λ (w : Planned). w.table.id.0) asked.1.2) is)
      not_selected q f z n (unread.BelowHorizon h) low asked is since read finds told = below q f st.scn h (query_of z) (ap (λ (w : Planned). w.table.id.0) asked.1.2) refl is read finds asked.0 told
      not_selected q f z n unread.IndexJoin low asked is since read finds told = joined q f z n low asked since read finds told
      not_selected q f z n unread.ReadFault low asked is since read finds told = no-device (quiet-by a.reply _ told own_cause)
      not_selected q f z n unread.WriteFault low asked is since read finds told = no-closing (quiet-by a.reply _ told own_cause)
      not_selected q f z n (unread.Damaged file place) low asked is since read finds told = no-device (quiet-by a.reply _ told own_cause)
      not_selected q f z n (unread.Closed call) low asked is since read finds told = no-closing (quiet-by a.reply _ told own_cause)
      not_selected q f z n unread.Memory low asked is since read finds told = no-memory (quiet-by a.reply _ told own_cause)

    -- a batch that isn't made: why it is refused, by the tables as they stood
    of_batch : (t : ℕ) (cs : List Change) (which : Limit) → changes_in own ≡ [] → batch_limit sound t cs which k → comes.IsOfBatch x t cs which
    of_batch t cs which none h = refused-by sound is_sound k x (λ u. horizon_of b u (pre ++ more)) (calm_then none) t cs which h

    left_calm : (t : TableId) (cs : List Change) (why : BatchFault) → batch.HasLeft t cs why own k → (batch.IsStopping why → ⊥) → own ≡ []
    left_calm t cs why (inl e) go = e
    left_calm t cs why (inr h) go = absurd (go h.0)

    not_changed : (st : Settings) (p : SeenPiece) (a : Answered) (u : Upsert) (f : Found) (why : BatchFault) → Quiet a.reply → right.IsReadItem p (Ok (s.Upsert u)) → st.scn ≡ None → st.autocommit ≡ true → length pre ≤ a.first → IsBoundTo b (pre ++ more) a.first f u.table → upsert_faults f.table u ≡ []
        → batch.BatchFaultIs sound f.table.id (right.one_change f u) why k → batch.HasLeft f.table.id (right.one_change f u) why own k → right.SaysRefused a (right.batch_refusal u.table why) st → Folds st p own a
    not_changed st p a u f unmade.NoTable q read scn on from h fits is left told =
        let e : own ≡ [] = left_calm _ _ unmade.NoTable left (λ z. z) in
        stands_then f u.table (ap changes_in e) (finds a.first f u.table (ap (λ (l : List Act). defs_in (changes_in l)) e) from h) is
    not_changed st p a u f (unmade.Limit which count) q read scn on from h fits is left told =
        let e : own ≡ [] = left_calm _ _ (unmade.Limit which count) left (λ z. z) in
        inl (comes.is_limited u f which read scn on (finds a.first f u.table (ap (λ (l : List Act). defs_in (changes_in l)) e) from h) fits (of_batch f.table.id.0 (right.one_change f u) which (ap changes_in e) is.2) (tells-of own a _ st (ap changes_in e) told.0 told.3))
    not_changed st p a u f unmade.ReadFault q read scn on from h fits is left told = no-device (quiet-by a.reply _ told.0 q)
    not_changed st p a u f unmade.WriteFault q read scn on from h fits is left told = no-closing (quiet-by a.reply _ told.0 q)
    not_changed st p a u f (unmade.Damaged file place) q read scn on from h fits is left told = no-device (quiet-by a.reply _ told.0 q)
    not_changed st p a u f (unmade.Closed call) q read scn on from h fits is left told = no-closing (quiet-by a.reply _ told.0 q)
    not_changed st p a u f unmade.Memory q read scn on from h fits is left told = no-memory (quiet-by a.reply _ told.0 q)

    -- one batch
    drawn : (t : TableId) (stamp : ℕ) (cs : List Change) → own ≡ Begun t stamp cs ∷ Ended t stamp ∷ [] → last_of b t.0 pre < stamp
    unfolding IsAmong
    drawn t stamp cs one = begun-above b pre more t stamp cs legal (subst (IsAmong (Begun t stamp cs)) (sym (changes_are ∙ ap changes_in one)) (inl refl))

    -- and its table stood
    stood : (t : TableId) (stamp : ℕ) (cs : List Change) → own ≡ Begun t stamp cs ∷ Ended t stamp ∷ [] → IsSome (x.catalogue.tables t.0)
    unfolding Follows
    stood t stamp cs one =
        let z = first-change more (Begun t stamp cs) [] (changes_are ∙ ap changes_in one) in
        let cut : pre ++ more ≡ (pre ++ z.front) ++ z.entry ∷ z.rest = ap (λ (m : List Entry). pre ++ m) z.is ∙ sym (append_assoc pre z.front (z.entry ∷ z.rest)) in
        let f : Follows b (pre ++ z.front) z.entry.seat z.entry.calls (Begun t stamp cs) = subst (Follows b (pre ++ z.front) z.entry.seat z.entry.calls) z.act_is (legal.each (pre ++ z.front) z.entry z.rest cut).follows in
        subst (λ (y : Tables). IsSome (y.catalogue.tables t.0)) (calm-tables b pre z.front z.calm) f.3

    -- it passes no limit
    kept_none : (t : TableId) (stamp : ℕ) (cs : List Change) → own ≡ Begun t stamp cs ∷ Ended t stamp ∷ [] → batch.KeptWithin sound b (pre ++ more) t cs stamp → comes.PassesNoLimit x t.0 cs
    kept_none t stamp cs one w =
        let z = first-change more (Begun t stamp cs) [] (changes_are ∙ ap changes_in one) in
        let cut : pre ++ more ≡ (pre ++ z.front) ++ z.entry ∷ z.rest = ap (λ (m : List Entry). pre ++ m) z.is ∙ sym (append_assoc pre z.front (z.entry ∷ z.rest)) in
        passes-none sound is_sound b pre more t cs stamp z.front z.rest z.entry legal cut z.act_is z.calm w

    changed : (st : Settings) (p : SeenPiece) (a : Answered) (u : Upsert) (f : Found) (stamp : ℕ) → right.IsReadItem p (Ok (s.Upsert u)) → st.scn ≡ None → st.autocommit ≡ true → length pre ≤ a.first → IsBoundTo b (pre ++ more) a.first f u.table → upsert_faults f.table u ≡ []
        → own ≡ Begun f.table.id stamp (right.one_change f u) ∷ Ended f.table.id stamp ∷ [] → batch.KeptWithin sound b (pre ++ more) f.table.id (right.one_change f u) stamp → a.reply ≡ reply.Count 1 Affected → a.after ≡ next_is.Next st → Folds st p own a
    changed st p a u f stamp read scn on from h fits one kept told still =
        inl (comes.is_changed u f stamp read scn on (finds a.first f u.table (ap (λ (l : List Act). defs_in (changes_in l)) one) from h) fits (drawn f.table.id stamp (right.one_change f u) one) (kept_none f.table.id stamp (right.one_change f u) one kept) (does-of own a f.table.id stamp (right.one_change f u) (reply.Count 1 Affected) (next_is.Next st) one told still))

    -- 4. Held changes

    no_defs : own ≡ [] → defs_in (changes_in own) ≡ []
    no_defs e = ap (λ (l : List Act). defs_in (changes_in l)) e

    -- what is held is to be committed
    asks : (first : ℕ) (st : Settings) (p : SeenPiece) (h : HeldData) (again : Bool) → defs_in (changes_in own) ≡ [] → length pre ≤ first → right.AsksToCommit k first st p h again → comes.AsksForCommit x st p h again
    asks first st p h true none from (inl e) = inl e
    asks first st p h true none from (inr w) = inr (record { statement = w.statement; found = w.found; read = w.read; free = w.free; holds = w.holds; finds = finds first w.found (right.table_named w.statement) none from w.bound; right = w.right; other = w.other })
    asks first st p h false none from e = e

    committed : (st : Settings) (p : SeenPiece) (a : Answered) (h : HeldData) (again : Bool) (stamp : ℕ) → st.held ≡ Some h → length pre ≤ a.first → right.AsksToCommit k a.first st p h again → own ≡ Begun h.table stamp h.changes ∷ Ended h.table stamp ∷ []
        → batch.KeptWithin sound b (pre ++ more) h.table h.changes stamp → a.reply ≡ reply.Count (length h.changes) Affected → a.after ≡ right.after_commit again (right.emptied st) → Folds st p own a
    committed st p a h again stamp held from asked one kept told behind =
        inl (comes.is_committed again h stamp held (asks a.first st p h again (ap (λ (l : List Act). defs_in (changes_in l)) one) from asked) (stood h.table stamp h.changes one) (drawn h.table stamp h.changes one) (kept_none h.table stamp h.changes one kept)
        (does-of own a h.table stamp h.changes (reply.Count (length h.changes) Affected) (right.after_commit again (right.emptied st)) one told behind))

    gone_then : (h : HeldData) → changes_in own ≡ [] → commits.IsGone k h → comes.IsTableGone x h
    gone_then h none (inl lacks) = inl (λ t y is. lacks t y (ap (λ (d : Catalogue). d.tables t) (catalogue_then none) ∙ is))
    gone_then h none (inr (inl lacks)) = inr (inl (ap (λ (d : Catalogue). d.tables h.table.0) (sym (catalogue_then none)) ∙ lacks))
    gone_then h none (inr (inr f)) = inr (inr (f.0, finds_whole f.0 h.name none f.1 f.2, f.3))

    not_committed : (st : Settings) (p : SeenPiece) (a : Answered) (h : HeldData) (again : Bool) (why : BatchFault) → Quiet a.reply → st.held ≡ Some h → length pre ≤ a.first → right.AsksToCommit k a.first st p h again → commits.CommitFaultIs sound h why k → batch.HasLeft h.table h.changes why own k
        → right.StopsDelete a.reply h.name why → a.after ≡ next_is.Next (right.emptied st) → Folds st p own a
    not_committed st p a h again why q held from asked is left (inr lack) behind = no-memory (quiet-by a.reply _ lack.0 q)
    not_committed st p a h again unmade.NoTable q held from asked is left (inl told) behind =
        let e : own ≡ [] = left_calm _ _ unmade.NoTable left (λ z. z) in
        inl (comes.is_gone again h held (asks a.first st p h again (no_defs e) from asked) (gone_then h (ap changes_in e) is) (tells-of own a _ (right.emptied st) (ap changes_in e) told behind))
    not_committed st p a h again (unmade.Limit which count) q held from asked is left (inl told) behind =
        let e : own ≡ [] = left_calm _ _ (unmade.Limit which count) left (λ z. z) in
        inl (comes.is_not_committed again h which held (asks a.first st p h again (no_defs e) from asked) (subst (λ (c : Catalogue). IsSome (c.tables h.table.0)) (catalogue_then (ap changes_in e)) is.0) (of_batch h.table.0 h.changes which (ap changes_in e) is.2) (tells-of own a _ (right.emptied st) (ap changes_in e) told behind))
    not_committed st p a h again unmade.ReadFault q held from asked is left (inl told) behind = no-device (quiet-by a.reply _ told q)
    not_committed st p a h again unmade.WriteFault q held from asked is left (inl told) behind = no-closing (quiet-by a.reply _ told q)
    not_committed st p a h again (unmade.Damaged file place) q held from asked is left (inl told) behind = no-device (quiet-by a.reply _ told q)
    not_committed st p a h again (unmade.Closed call) q held from asked is left (inl told) behind = no-closing (quiet-by a.reply _ told q)
    not_committed st p a h again unmade.Memory q held from asked is left (inl told) behind = no-memory (quiet-by a.reply _ told q)

    -- 5. Commands

    count_then : (t : ℕ) (c : IndexCount) → calls.IsCountOf b (pre ++ more) t c → comes.IsIndexCount then_ t c
    count_then t c h = (h.0, h.1, h.2, h.3, h.4)

    counts_then : (t : ℕ) (cs : List IndexCount) → AllByRecursion (calls.IsCountOf b (pre ++ more) t) cs → AllByRecursion (comes.IsIndexCount then_ t) cs
    counts_then t [] h = tt
    counts_then t (c ∷ cs) h = (count_then t c h.0, counts_then t cs h.1)

    counted : (st : Settings) (p : SeenPiece) (a : Answered) (name : List ℕ) (r : Status) → own ≡ [] → right.IsCommandRead p (Ok (commands.Status name)) → length pre ≤ a.first → counts.IsCountOutcome sound a.first name k (Ok r) → right.SaysOnly a (reply.Status r) st → Folds st p own a
    counted st p a name r e read from outcome told =
        let w = outcome.1 in
        let z = outcome.2 in
        let none : changes_in own ≡ [] = ap changes_in e in
        let f : HasTable x w.found name = finds-at b pre more (defs_by (no_defs e)) w.place w.found name (let l = w.from in omega arith) w.is w.named in
        inr (
          none,
          comes.is_counted name w.found r read (finds_then w.found name none f)
              (subst (λ (t : TableId). comes.IsStatus then_ t.0 r) (sym w.number) (record { last = z.last; horizon = z.horizon; each = counts_then outcome.0.0 r.indexes z.each; rising = z.rising; all = z.all }))
              (tells-of own a (reply.Status r) st none told.0 told.3),
        )

    not_counted : (st : Settings) (p : SeenPiece) (a : Answered) (name : List ℕ) (why : CountFault) → Quiet a.reply → own ≡ [] → right.IsCommandRead p (Ok (commands.Status name)) → length pre ≤ a.first → counts.CountFaultIs sound a.first name why k
        → right.SaysRefused a (right.count_refusal name why) st ⊎ right.SaysRefused a refusal.Memory st → Folds st p own a
    not_counted st p a name why q e read from is (inr lack) = no-memory (quiet-by a.reply _ lack.0 q)
    not_counted st p a name uncounted.NoTable q e read from (inl lacks) (inl told) =
        inl (comes.is_not_counted name read (λ t y at. lacks t y (ap (λ (d : Catalogue). d.tables t) (catalogue_then (ap changes_in e)) ∙ at)) (tells-of own a _ st (ap changes_in e) told.0 told.3))
    not_counted st p a name uncounted.NoTable q e read from (inr gone) (inl told) =
        let w = gone.1 in
        let f : HasTable x w.found name = finds-at b pre more (defs_by (no_defs e)) w.place w.found name (let l = w.from in omega arith) w.is w.named in
        stands_then w.found name (ap changes_in e) f (subst (λ (t : TableId). LacksTable k t.0) (sym w.number) gone.2)
    not_counted st p a name uncounted.ReadFault q e read from is (inl told) = no-device (quiet-by a.reply _ told.0 q)
    not_counted st p a name (uncounted.Damaged file place) q e read from is (inl told) = no-device (quiet-by a.reply _ told.0 q)
    not_counted st p a name (uncounted.Closed call) q e read from is (inl told) = no-closing (quiet-by a.reply _ told.0 q)
    not_counted st p a name uncounted.Memory q e read from is (inl told) = no-memory (quiet-by a.reply _ told.0 q)

    order_faults : {A : Type 0} → (a : Reply) (why : OrderFault) → a ≡ reply.Refused (right.order_refusal why) → Quiet a → A
    order_faults a undone_by.ReadFault e q = no-device (quiet-by a _ e q)
    order_faults a undone_by.WriteFault e q = no-closing (quiet-by a _ e q)
    order_faults a (undone_by.Damaged file place) e q = no-device (quiet-by a _ e q)
    order_faults a (undone_by.Closed call) e q = no-closing (quiet-by a _ e q)
    order_faults a undone_by.Memory e q = no-memory (quiet-by a _ e q)

    -- 6. Definitions

    -- the first of the changes comes where the tables stand as before
    record FirstAct (act : Act) : Type 0 where
      pub front : List Entry
      pub calls : ℕ
      pub by : ℕ
      pub follows : Follows b (pre ++ front) by calls act
      pub same : catalogue_of b (pre ++ front) ≡ catalogue_of b pre
      pub last : (t : ℕ) → last_of b t (pre ++ front) ≡ last_of b t pre

    first_act : (act : Act) (l : List Act) → changes_in own ≡ act ∷ l → FirstAct act
    first_act act l h =
        let z = first-change more act l (changes_are ∙ h) in
        let cut : pre ++ more ≡ (pre ++ z.front) ++ z.entry ∷ z.rest = ap (λ (m : List Entry). pre ++ m) z.is ∙ sym (append_assoc pre z.front (z.entry ∷ z.rest)) in
        record {
          front = z.front;
          calls = z.entry.calls;
          by = z.entry.seat;
          follows = subst (Follows b (pre ++ z.front) z.entry.seat z.entry.calls) z.act_is (legal.each (pre ++ z.front) z.entry z.rest cut).follows;
          same = ap (λ (y : Tables). y.catalogue) (calm-tables b pre z.front z.calm);
          last = λ t. ap (λ (y : Tables). y.last t) (calm-tables b pre z.front z.calm);
        }

    -- the numbers and the stamp that the first definition takes
    takes_next : (e : Definition) (m : Made) (l : List Act) → changes_in own ≡ calls.act_of e m ∷ l → comes.TakesNext x e m
    unfolding Follows MayState
    takes_next (d.Table what) m l h = let z = first_act (calls.act_of (d.Table what) m) l h in (subst (λ (c : Catalogue). IsFreeName c what.name) z.same z.follows.1, z.follows.0 ∙ ap (λ (c : Catalogue). c.next + length what.least_keys) z.same)
    takes_next (d.Index what) m l h =
        let z = first_act (calls.act_of (d.Index what) m) l h in
        (subst (λ (c : Catalogue). IsFreeName c what.name) z.same z.follows.1, z.follows.0 ∙ ap (λ (c : Catalogue). c.next + 1) z.same, subst (λ (n : ℕ). n < m.stamp) (z.last what.table.0) z.follows.4)
    takes_next (d.Rebuilding t i) m l h =
        let z = first_act (calls.act_of (d.Rebuilding t i) m) l h in subst (λ (n : ℕ). n < m.stamp) (z.last t.0) z.follows.1.0
    takes_next (d.Active t i) m l h = tt
    takes_next (d.Disabled t i) m l h = tt
    takes_next (d.DropTable t) m l h = tt
    takes_next (d.DropIndex t i) m l h = tt

    created : (st : Settings) (p : SeenPiece) (a : Answered) (t : CreateTable) (m : Made) → right.IsReadItem p (Ok (s.CreateTable t)) → right.is_none_of t.splits ≡ true → st.scn ≡ None → table_faults t ≡ [] → define.HasDefined (d.Table (new_table t)) own k m
        → right.SaysOnly a (reply.Defined defined.TableCreated) st → Folds st p own a
    created st p a t m read one scn fits made told =
        let only : changes_in own ≡ calls.act_of (d.Table (new_table t)) m ∷ [] = ap changes_in made.one in
        inl (comes.is_defined (s.CreateTable t) (d.Table (new_table t)) m read scn (one, fits, refl) refl made.made (takes_next (d.Table (new_table t)) m [] only)
        (λ i. outcome_by (only i) (told.0 i) (told.3 i)))

    name_then : (name : List ℕ) → own ≡ [] → HasName (catalogue_of b (pre ++ more)) name → HasName x.catalogue name
    name_then name none h = subst (λ (c : Catalogue). HasName c name) (catalogue_then (ap changes_in none)) h

    last_then : (t : ℕ) → own ≡ [] → most_of bound.Stamps ≤ last_of b t (pre ++ more) → most_of bound.Stamps ≤ x.last t
    last_then t none h = subst (λ (n : ℕ). most_of bound.Stamps ≤ n) (ap (λ (y : Tables). y.last t) (calm_then (ap changes_in none))) h

    runs_out : (n : ℕ) → own ≡ [] → RunsOut k n → comes.RunsOutIn x n
    runs_out n none h = subst (λ (c : Catalogue). most_of bound.Ids + 1 < c.next + n) (catalogue_then (ap changes_in none)) h

    of_table_limit : (t : CreateTable) (which : Limit) (count : ℕ) → own ≡ [] → new_table_cause (new_table t) (step.Limit which count) k → comes.IsOfDefinition x (d.Table (new_table t)) which
    of_table_limit t bound.Tables count none h = subst (λ (c : Catalogue). most_of bound.Tables ≤ count_below c.tables c.next) (catalogue_then (ap changes_in none)) h.1
    of_table_limit t bound.Ids count none h = runs_out (length (new_table t).least_keys + 1) none h.1
    of_table_limit t which count none h = absurd h

    not_created : (st : Settings) (p : SeenPiece) (a : Answered) (t : CreateTable) (why : DefineFault) → Quiet a.reply → right.IsReadItem p (Ok (s.CreateTable t)) → right.is_none_of t.splits ≡ true → st.scn ≡ None → table_faults t ≡ [] → define.DefinitionFaultIs sound (d.Table (new_table t)) why k → own ≡ []
        → a.reply ≡ right.undefined (s.CreateTable t) why → a.after ≡ next_is.Next st → Folds st p own a
    not_created st p a t undone.NameExists q read one scn fits is none told still = inl (comes.is_taken (s.CreateTable t) (d.Table (new_table t)) read scn (one, fits, refl) (name_then t.name none is) (tells-of own a _ st (ap changes_in none) told still))
    not_created st p a t (undone.Limit which count) q read one scn fits is none told still =
        inl (comes.is_not_defined (s.CreateTable t) (d.Table (new_table t)) which read scn (one, fits, refl) (of_table_limit t which count none is) (tells-of own a _ st (ap changes_in none) told still))
    not_created st p a t undone.NoTable q read one scn fits is none told still = absurd is
    not_created st p a t undone.NoIndex q read one scn fits is none told still = absurd is
    not_created st p a t undone.ReadFault q read one scn fits is none told still = no-device (quiet-by a.reply _ told q)
    not_created st p a t undone.WriteFault q read one scn fits is none told still = no-closing (quiet-by a.reply _ told q)
    not_created st p a t (undone.Damaged file place) q read one scn fits is none told still = no-device (quiet-by a.reply _ told q)
    not_created st p a t (undone.Closed call) q read one scn fits is none told still = no-closing (quiet-by a.reply _ told q)
    not_created st p a t undone.Memory q read one scn fits is none told still = no-memory (quiet-by a.reply _ told q)

    -- the index of a name among those that were found
    named_index : (is : List Index) (name : List ℕ) (n : IndexId) → index_id_named is name ≡ Some n → (w : Index) × IsAmong w is × (w.id ≡ n) × (w.name ≡ name)
    unfolding IsAmong
    named_index [] name n h = cc
    named_index (i ∷ is) name n h =
        elim (bytes_eq i.name name) as (λ v. bytes_eq i.name name ≡ v → (if v then Some i.id else index_id_named is name) ≡ Some n → (w : Index) × IsAmong w (i ∷ is) × (w.id ≡ n) × (w.name ≡ name)) [
          | true ↦ λ v e. (i, inl refl, (let z : i.id ≡ n = cc in z), (bytes_eq-Decides i.name name).0 v)
          | false ↦ λ v e. (let z = named_index is name n e in (z.0, inr z.1, z.2, z.3))
        ] refl h

    stands_of : (f : Found) (name : List ℕ) → HasTable x f name → comes.Stands x f.table name
    stands_of f name h = (h.table, h.named)

    some_same : {A : Type 0} (u v : A) → ◌≡◌ {A = Option A} (Some u) (Some v) → u ≡ v
    some_same u v e = cc

    none_some : {A B : Type 0} (v : A) → ◌≡◌ {A = Option A} None (Some v) → B
    none_some v e = cc

    index_asked : (f : Found) (table name : List ℕ) (make : IndexId → Definition) (e : Definition) → HasTable x f table → (o : Option IndexId) → index_id_named f.indexes name ≡ o → option_map make o ≡ Some e → (z : Table) × (w : Index) × comes.Stands x z table × comes.HasIndex x z w name × (e ≡ make w.id) × (z ≡ f.table)
    index_asked f table name make e h None is made = none_some e made
    index_asked f table name make e h (Some n) is made =
        let w = named_index f.indexes name n is in
        let at = (h.indexes w.0).0 w.1 in
        (f.table, w.0, stands_of f table h, (at.0, at.1, w.3), sym (some_same (make n) e made) ∙ ap make (sym w.2), refl)

    -- the definition that is asked for, by a table that was found
    asks_of : (y : Statement) (f : Found) (e : Definition) → HasTable x f (right.table_named y) → faults_in f y ≡ [] → right.definition_asked f y ≡ Some e → comes.AsksFor x y e
    asks_of (s.CreateTable t) f e h fits is = none_some e is
    asks_of (s.DropTable t) f e h fits is = (f.table, stands_of f t.name h, sym (some_same (d.DropTable f.table.id) e is))
    asks_of (s.CreateIndex i) f e h fits is = (f.table, stands_of f i.table h, fits, sym (some_same (d.Index (new_index f.table i)) e is))
    asks_of (s.DropIndex i) f e h fits is =
        let z = index_asked f i.table i.name (λ n. d.DropIndex f.table.id n) e h (index_id_named f.indexes i.name) refl is in
        (z.0, z.1, z.2, z.3, z.4 ∙ ap (λ (t : Table). d.DropIndex t.id z.1.id) (sym z.5))
    asks_of (s.AlterIndex i) f e h fits is =
        let z = index_asked f i.table i.name (λ n. altered f.table.id i.action n) e h (index_id_named f.indexes i.name) refl is in
        (z.0, z.1, z.2, z.3, z.4 ∙ ap (λ (t : Table). altered t.id i.action z.1.id) (sym z.5))
    asks_of (s.Upsert u) f e h fits is = none_some e is
    asks_of (s.Delete y) f e h fits is = none_some e is
    asks_of (s.Select q) f e h fits is = none_some e is
    asks_of (s.Explain q) f e h fits is = none_some e is

    module _ (st : Settings) (p : SeenPiece) (a : Answered) (none : own ≡ []) (q : Quiet a.reply) (scn : st.scn ≡ None) (y : Statement) (read : right.IsReadItem p (Ok y)) (still : a.after ≡ next_is.Next st) where
      table_lacks : {A : Type 0} → (z : Table) (name : List ℕ) → comes.Stands x z name → LacksTable k z.id.0 → A
      table_lacks z name h lacks = (let e : ◌≡◌ {A = Option Table} (Some z) None = sym h.0 ∙ (ap (λ (c : Catalogue). c.tables z.id.0) (sym (catalogue_then (ap changes_in none))) ∙ lacks) in cc)

      index_lacks : {A : Type 0} → (z : Table) (w : Index) (name : List ℕ) → comes.HasIndex x z w name → LacksIndex k z.id.0 w.id.0 → A
      index_lacks z w name h lacks = absurd (lacks.1 w (ap (λ (c : Catalogue). c.indexes w.id.0) (catalogue_then (ap changes_in none)) ∙ h.0) h.1)

      limited : (e : Definition) (which : Limit) → comes.AsksFor x y e → comes.IsOfDefinition x e which → a.reply ≡ reply.Refused (refusal.Limit which) → Folds st p own a
      limited e which asked of told = inl (comes.is_not_defined y e which read scn asked of (tells-of own a _ st (ap changes_in none) told still))

      not_dropped : (t : DropTable) (z : Table) (why : DefineFault) → comes.Stands x z t.name → define.DefinitionFaultIs sound (d.DropTable z.id) why k → a.reply ≡ right.undefined (s.DropTable t) why → Folds st p own a
      not_dropped t z undone.NoTable h is told = table_lacks z t.name h is
      not_dropped t z undone.NameExists h is told = absurd is
      not_dropped t z undone.NoIndex h is told = absurd is
      not_dropped t z (undone.Limit which count) h is told = absurd is
      not_dropped t z undone.ReadFault h is told = no-device (quiet-by a.reply _ told q)
      not_dropped t z undone.WriteFault h is told = no-closing (quiet-by a.reply _ told q)
      not_dropped t z (undone.Damaged file place) h is told = no-device (quiet-by a.reply _ told q)
      not_dropped t z (undone.Closed call) h is told = no-closing (quiet-by a.reply _ told q)
      not_dropped t z undone.Memory h is told = no-memory (quiet-by a.reply _ told q)

      of_index_limit : (z : Table) (i : CreateIndex) (which : Limit) (count : ℕ) → new_index_cause (new_index z i) (step.Limit which count) k → comes.IsOfDefinition x (d.Index (new_index z i)) which
      of_index_limit z i bound.Indexes count h = subst (λ (c : Catalogue). most_of bound.Indexes ≤ count_below (λ n. of_table z.id.0 (c.indexes n)) c.next) (catalogue_then (ap changes_in none)) h.1
      of_index_limit z i bound.Stamps count h = last_then z.id.0 none h.1
      of_index_limit z i bound.Ids count h = runs_out 2 none h.1
      of_index_limit z i which count h = absurd h

      not_made : (i : CreateIndex) (z : Table) (why : DefineFault) → y ≡ s.CreateIndex i → comes.Stands x z i.table → index_faults z i ≡ [] → define.DefinitionFaultIs sound (d.Index (new_index z i)) why k → a.reply ≡ right.undefined (s.CreateIndex i) why → Folds st p own a
      not_made i z undone.NameExists e h fits is told =
          inl (comes.is_taken (s.CreateIndex i) (d.Index (new_index z i)) (subst (λ (w : Statement). right.IsReadItem p (Ok w)) e read) scn (z, h, fits, refl) (name_then i.name none is) (tells-of own a _ st (ap changes_in none) told still))
      not_made i z undone.NoTable e h fits is told = table_lacks z i.table h is
      not_made i z undone.NoIndex e h fits is told = absurd is
      not_made i z (undone.Limit which count) e h fits is told = limited (d.Index (new_index z i)) which (subst (λ (w : Statement). comes.AsksFor x w (d.Index (new_index z i))) (sym e) (z, h, fits, refl)) (of_index_limit z i which count is) told
      not_made i z undone.ReadFault e h fits is told = no-device (quiet-by a.reply _ told q)
      not_made i z undone.WriteFault e h fits is told = no-closing (quiet-by a.reply _ told q)
      not_made i z (undone.Damaged file place) e h fits is told = no-device (quiet-by a.reply _ told q)
      not_made i z (undone.Closed call) e h fits is told = no-closing (quiet-by a.reply _ told q)
      not_made i z undone.Memory e h fits is told = no-memory (quiet-by a.reply _ told q)

      not_unmade : (i : DropIndex) (z : Table) (w : Index) (why : DefineFault) → comes.Stands x z i.table → comes.HasIndex x z w i.name → define.DefinitionFaultIs sound (d.DropIndex z.id w.id) why k → a.reply ≡ right.undefined (s.DropIndex i) why → Folds st p own a
      not_unmade i z w undone.NoTable h j is told = table_lacks z i.table h is
      not_unmade i z w undone.NoIndex h j is told = index_lacks z w i.name j is
      not_unmade i z w undone.NameExists h j is told = absurd is
      not_unmade i z w (undone.Limit which count) h j is told = absurd is
      not_unmade i z w undone.ReadFault h j is told = no-device (quiet-by a.reply _ told q)
      not_unmade i z w undone.WriteFault h j is told = no-closing (quiet-by a.reply _ told q)
      not_unmade i z w (undone.Damaged file place) h j is told = no-device (quiet-by a.reply _ told q)
      not_unmade i z w (undone.Closed call) h j is told = no-closing (quiet-by a.reply _ told q)
      not_unmade i z w undone.Memory h j is told = no-memory (quiet-by a.reply _ told q)

      of_altered_limit : (z : Table) (w : Index) (which : Limit) (count : ℕ) → rebuilding_cause z.id.0 w.id.0 (step.Limit which count) k → comes.IsOfDefinition x (d.Rebuilding z.id w.id) which
      of_altered_limit z w bound.Stamps count h = last_then z.id.0 none h.1
      of_altered_limit z w bound.Ids count h = runs_out 1 none h.1
      of_altered_limit z w which count h = absurd h

      not_altered : (i : AlterIndex) (action : IndexAction) (z : Table) (w : Index) (why : DefineFault) → comes.AsksFor x y (altered z.id action w.id) → comes.Stands x z i.table → comes.HasIndex x z w i.name → define.DefinitionFaultIs sound (altered z.id action w.id) why k → a.reply ≡ right.undefined (s.AlterIndex i) why → Folds st p own a
      not_altered i Disable z w undone.NoTable asked h j is told = table_lacks z i.table h is
      not_altered i Disable z w undone.NoIndex asked h j is told = index_lacks z w i.name j is
      not_altered i Disable z w undone.NameExists asked h j is told = absurd is
      not_altered i Disable z w (undone.Limit which count) asked h j is told = absurd is
      not_altered i Rebuild z w undone.NoTable asked h j is told = table_lacks z i.table h is
      not_altered i Rebuild z w undone.NoIndex asked h j is told = index_lacks z w i.name j is
      not_altered i Rebuild z w undone.NameExists asked h j is told = absurd is
      not_altered i Rebuild z w (undone.Limit which count) asked h j is told = limited (d.Rebuilding z.id w.id) which asked (of_altered_limit z w which count is) told
      not_altered i action z w undone.ReadFault asked h j is told = no-device (quiet-by a.reply _ told q)
      not_altered i action z w undone.WriteFault asked h j is told = no-closing (quiet-by a.reply _ told q)
      not_altered i action z w (undone.Damaged file place) asked h j is told = no-device (quiet-by a.reply _ told q)
      not_altered i action z w (undone.Closed call) asked h j is told = no-closing (quiet-by a.reply _ told q)
      not_altered i action z w undone.Memory asked h j is told = no-memory (quiet-by a.reply _ told q)

      not_defined : (v : Statement) (e : Definition) (why : DefineFault) → y ≡ v → comes.AsksFor x v e → define.DefinitionFaultIs sound e why k → a.reply ≡ right.undefined v why → Folds st p own a
      not_defined (s.CreateTable t) e why same h is told =
          not_created st p a t why q (subst (λ (w : Statement). right.IsReadItem p (Ok w)) same read) h.0 scn h.1 (subst (λ (w : Definition). define.DefinitionFaultIs sound w why k) h.2 is) none told still
      not_defined (s.DropTable t) e why same h is told = not_dropped t h.0 why h.1 (subst (λ (w : Definition). define.DefinitionFaultIs sound w why k) h.2 is) told
      not_defined (s.CreateIndex i) e why same h is told = not_made i h.0 why same h.1 h.2 (subst (λ (w : Definition). define.DefinitionFaultIs sound w why k) h.3 is) told
      not_defined (s.DropIndex i) e why same h is told = not_unmade i h.0 h.1 why h.2 h.3 (subst (λ (w : Definition). define.DefinitionFaultIs sound w why k) h.4 is) told
      not_defined (s.AlterIndex i) e why same h is told = not_altered i i.action h.0 h.1 why (subst (λ (w : Statement). comes.AsksFor x w (altered h.0.id i.action h.1.id)) (sym same) (h.0, h.1, h.2, h.3, refl)) h.2 h.3 (subst (λ (w : Definition). define.DefinitionFaultIs sound w why k) h.4 is) told
      not_defined v e why same h is told = absurd h

    -- a table that was found while none was made stood before
    table_bound : (first : ℕ) (f : Found) (name : List ℕ) → All is_unmade (changes_in own) → length pre ≤ first → IsBoundTo b (pre ++ more) first f name → comes.Stands x f.table name
    table_bound first f name all from h =
        (tables-back b pre more h.place (let l = h.from in omega arith) (all-entries is_unmade unmade-rest more (subst (All is_unmade) (sym changes_are) all)) f.table.id.0 f.table h.found.table, h.named)

    -- and so did an index of it, while none was made
    index_bound : (first : ℕ) (f : Found) (table name : List ℕ) (n : IndexId) → All keeps_names (changes_in own) → length pre ≤ first → IsBoundTo b (pre ++ more) first f table → index_id_named f.indexes name ≡ Some n → (w : Index) × comes.HasIndex x f.table w name × (w.id ≡ n)
    index_bound first f table name n all from h is =
        let w = named_index f.indexes name n is in
        let at = (h.found.indexes w.0).0 w.1 in
        let z = names-kept b pre more h.place (let l = h.from in omega arith) (all-entries keeps_names names-rest more (subst (All keeps_names) (sym changes_are) all)) w.0.id.0 w.0 at.0 in
        (z.was, (ap (λ (j : IndexId). x.catalogue.indexes j.0) z.id ∙ z.is, ap (λ (t : TableId). t.0) z.table ∙ at.1, z.name ∙ w.3), z.id ∙ w.2)

    index_asked_of : (first : ℕ) (f : Found) (table name : List ℕ) (make : IndexId → Definition) (e : Definition) → All is_unmade (changes_in own) → All keeps_names (changes_in own) → length pre ≤ first → IsBoundTo b (pre ++ more) first f table
        → (o : Option IndexId) → index_id_named f.indexes name ≡ o → option_map make o ≡ Some e → (w : Index) × comes.Stands x f.table table × comes.HasIndex x f.table w name × (e ≡ make w.id)
    index_asked_of first f table name make e all names from h None is made = none_some e made
    index_asked_of first f table name make e all names from h (Some n) is made =
        let w = index_bound first f table name n names from h is in
        (w.0, table_bound first f table all from h, w.1, sym (some_same (make n) e made) ∙ ap make (sym w.2))

    -- what is asked of an index is told by its name
    abbrev NamesFor : Statement → Type 0
    NamesFor (s.DropIndex i) = All keeps_names (changes_in own)
    NamesFor (s.AlterIndex i) = All keeps_names (changes_in own)
    NamesFor y = Unit {0}

    -- the definition that is asked for, by a table that was found before it or behind it
    asks_bound : (first : ℕ) (y : Statement) (f : Found) (e : Definition) → All is_unmade (changes_in own) → NamesFor y → length pre ≤ first → IsBoundTo b (pre ++ more) first f (right.table_named y) → faults_in f y ≡ [] → right.definition_asked f y ≡ Some e → comes.AsksFor x y e
    asks_bound first (s.CreateTable t) f e all names from h fits is = none_some e is
    asks_bound first (s.DropTable t) f e all names from h fits is = (f.table, table_bound first f t.name all from h, sym (some_same (d.DropTable f.table.id) e is))
    asks_bound first (s.CreateIndex i) f e all names from h fits is = (f.table, table_bound first f i.table all from h, fits, sym (some_same (d.Index (new_index f.table i)) e is))
    asks_bound first (s.DropIndex i) f e all names from h fits is =
        let z = index_asked_of first f i.table i.name (λ n. d.DropIndex f.table.id n) e all names from h (index_id_named f.indexes i.name) refl is in (f.table, z.0, z.1, z.2, z.3)
    asks_bound first (s.AlterIndex i) f e all names from h fits is =
        let z = index_asked_of first f i.table i.name (λ n. altered f.table.id i.action n) e all names from h (index_id_named f.indexes i.name) refl is in (f.table, z.0, z.1, z.2, z.3)
    asks_bound first (s.Upsert u) f e all names from h fits is = none_some e is
    asks_bound first (s.Delete y) f e all names from h fits is = none_some e is
    asks_bound first (s.Select y) f e all names from h fits is = none_some e is
    asks_bound first (s.Explain y) f e all names from h fits is = none_some e is

    made_by : (make : IndexId → Definition) (e : Definition) (o : Option IndexId) → option_map make o ≡ Some e → (n : IndexId) × (make n ≡ e)
    made_by make e None h = none_some e h
    made_by make e (Some n) h = (n, some_same (make n) e h)

    altered_kept : (t : TableId) (action : IndexAction) (n : IndexId) (m : Made) → (is_unmade (calls.act_of (altered t action n) m) ≡ true) × (keeps_names (calls.act_of (altered t action n) m) ≡ true)
    altered_kept t Disable n m = (refl, refl)
    altered_kept t Rebuild n m = (refl, refl)

    -- a definition that is asked for makes no table, and an index only where that is asked for
    head_kept : (y : Statement) (f : Found) (e : Definition) (m : Made) (rest : List Act) → right.definition_asked f y ≡ Some e → All is_unmade rest → All keeps_names rest → changes_in own ≡ calls.act_of e m ∷ rest → All is_unmade (changes_in own) × NamesFor y
    head_kept (s.CreateTable t) f e m rest is all names only = none_some e is
    head_kept (s.DropTable t) f e m rest is all names only =
        (subst (All is_unmade) (sym only) (subst (λ (w : Definition). is_unmade (calls.act_of w m) ≡ true) (some_same (d.DropTable f.table.id) e is) refl, all), tt)
    head_kept (s.CreateIndex i) f e m rest is all names only =
        (subst (All is_unmade) (sym only) (subst (λ (w : Definition). is_unmade (calls.act_of w m) ≡ true) (some_same (d.Index (new_index f.table i)) e is) refl, all), tt)
    head_kept (s.DropIndex i) f e m rest is all names only =
        let z = made_by (λ n. d.DropIndex f.table.id n) e (index_id_named f.indexes i.name) is in (
          subst (All is_unmade) (sym only) (subst (λ (w : Definition). is_unmade (calls.act_of w m) ≡ true) z.1 refl, all),
          subst (All keeps_names) (sym only) (subst (λ (w : Definition). keeps_names (calls.act_of w m) ≡ true) z.1 refl, names),
        )
    head_kept (s.AlterIndex i) f e m rest is all names only =
        let z = made_by (λ n. altered f.table.id i.action n) e (index_id_named f.indexes i.name) is in
        let kept = altered_kept f.table.id i.action z.0 m in (
          subst (All is_unmade) (sym only) (subst (λ (w : Definition). is_unmade (calls.act_of w m) ≡ true) z.1 kept.0, all),
          subst (All keeps_names) (sym only) (subst (λ (w : Definition). keeps_names (calls.act_of w m) ≡ true) z.1 kept.1, names),
        )
    head_kept (s.Upsert u) f e m rest is all names only = none_some e is
    head_kept (s.Delete y) f e m rest is all names only = none_some e is
    head_kept (s.Select y) f e m rest is all names only = none_some e is
    head_kept (s.Explain y) f e m rest is all names only = none_some e is

    change_first : (e : Definition) (m : Made) (l : List Act) → changes_in (calls.act_of e m ∷ l) ≡ calls.act_of e m ∷ changes_in l
    change_first (d.Table what) m l = refl
    change_first (d.Index what) m l = refl
    change_first (d.Active t i) m l = refl
    change_first (d.Disabled t i) m l = refl
    change_first (d.Rebuilding t i) m l = refl
    change_first (d.DropTable t) m l = refl
    change_first (d.DropIndex t i) m l = refl

    no_build : {A : Type 0} (t : TableId) → ◌≡◌ {A = Option TableId} (Some t) None → A
    no_build t h = cc

    stamps_none : (e : Definition) (m : Made) → to_build e ≡ None → stamps_in (calls.act_of e m ∷ []) ≡ []
    stamps_none (d.Table what) m h = refl
    stamps_none (d.Index what) m h = no_build what.table h
    stamps_none (d.Active t i) m h = refl
    stamps_none (d.Disabled t i) m h = refl
    stamps_none (d.Rebuilding t i) m h = no_build t h
    stamps_none (d.DropTable t) m h = refl
    stamps_none (d.DropIndex t i) m h = refl

    stamps_first : (e : Definition) (m : Made) (t : TableId) (l : List Act) → to_build e ≡ Some t → stamps_in (calls.act_of e m ∷ l) ≡ comes.stamps_of e m ++ stamps_in l
    stamps_first (d.Table what) m t l h = none_some t h
    stamps_first (d.Index what) m t l h = refl
    stamps_first (d.Active t' i) m t l h = none_some t h
    stamps_first (d.Disabled t' i) m t l h = none_some t h
    stamps_first (d.Rebuilding t' i) m t l h = refl
    stamps_first (d.DropTable t') m t l h = none_some t h
    stamps_first (d.DropIndex t' i) m t l h = none_some t h

    defined_form : (st : Settings) (p : SeenPiece) (a : Answered) (y : Statement) (f : Found) (m : Made) (e : Definition) → length pre ≤ a.first → right.IsReadItem p (Ok y) → st.scn ≡ None → IsBoundTo b (pre ++ more) a.first f (right.table_named y) → faults_in f y ≡ [] → right.definition_asked f y ≡ Some e → to_build e ≡ None
        → define.HasDefined e own k m → right.SaysOnly a (reply.Defined (right.definition_word y)) st → Folds st p own a
    defined_form st p a y f m e from read scn bound fits is builds made told =
        let only : changes_in own ≡ calls.act_of e m ∷ [] = ap changes_in made.one ∙ change_first e m [] in
        let kept = head_kept y f e m [] is tt tt only in
        inl (comes.is_defined y e m read scn (asks_bound a.first y f e kept.0 kept.1 from bound fits is) builds made.made (takes_next e m [] only)
        (λ i. record { stamps = (ap stamps_in only ∙ stamps_none e m builds) i; reply = told.0 i; next = told.3 i; acts = only i }))

    built_form : (st : Settings) (p : SeenPiece) (a : Answered) (y : Statement) (f : Found) (e : Definition) (t : TableId) (m : Made) (birth : ℕ) (rest : List Act) → length pre ≤ a.first → right.IsReadItem p (Ok y) → st.scn ≡ None → IsBoundTo b (pre ++ more) a.first f (right.table_named y) → faults_in f y ≡ [] → right.definition_asked f y ≡ Some e
        → to_build e ≡ Some t → IsBuiltBehind a.first e m own rest k → building.TriesThen t (calls.index_id_made m) (Opened t birth true ∷ IndexState t (calls.index_id_made m) states.Active birth ∷ Released t birth ∷ []) rest
        → right.SaysOnly a (reply.Defined (right.definition_word y)) st → Folds st p own a
    built_form st p a y f e t m birth rest from read scn bound fits is builds behind tried told =
        let i : IndexId = calls.index_id_made m in
        let again : List ℕ = renewed tried.0 in
        let last : List Act = IndexState t i states.Active birth ∷ [] in
        let only : changes_in own ≡ calls.act_of e m ∷ (comes.built_again t i again ++ last) =
        ap changes_in behind.one ∙ (change_first e m rest ∙ ap (λ (l : List Act). calls.act_of e m ∷ l) (ap changes_in tried.1 ∙ changes-tries t i tried.0 _)) in
        let kept = head_kept y f e m (comes.built_again t i again ++ last) is (again-all is_unmade t i again last (λ n. refl) (refl, tt)) (again-all keeps_names t i again last (λ n. refl) (refl, tt)) only in
        let drew : stamps_in (changes_in own) ≡ comes.stamps_of e m ++ again =
        ap stamps_in only ∙ (stamps_first e m t (comes.built_again t i again ++ last) builds ∙ ap (λ (l : List ℕ). comes.stamps_of e m ++ l) (stamps-again t i again last ∙ append-nil again)) in
        inl (comes.is_built y e t m again birth read scn (asks_bound a.first y f e kept.0 kept.1 from bound fits is) builds behind.made (takes_next e m _ only)
        (λ j. record { stamps = drew j; reply = told.0 j; next = told.3 j; acts = only j }))

    -- the table of an index that is to be built
    builds_table : (y : Statement) (e : Definition) (t : TableId) → comes.AsksFor x y e → to_build e ≡ Some t → (z : Table) × (x.catalogue.tables t.0 ≡ Some z)
    builds_table (s.CreateTable i) e t h is = none_some t (ap to_build (sym h.2) ∙ is)
    builds_table (s.DropTable i) e t h is = none_some t (ap to_build (sym h.2) ∙ is)
    builds_table (s.CreateIndex i) e t h is = let same : h.0.id ≡ t = some_same h.0.id t (ap to_build (sym h.3) ∙ is) in (h.0, ap (λ (j : TableId). x.catalogue.tables j.0) (sym same) ∙ h.1.0)
    builds_table (s.DropIndex i) e t h is = none_some t (ap to_build (sym h.4) ∙ is)
    builds_table (s.AlterIndex i) e t h is = by_action i.action (ap to_build (sym h.4) ∙ is)
      where
        by_action : (action : IndexAction) → to_build (altered h.0.id action h.1.id) ≡ Some t → (z : Table) × (x.catalogue.tables t.0 ≡ Some z)
        by_action Disable j = none_some t j
        by_action Rebuild j = let same : h.0.id ≡ t = some_same h.0.id t j in (h.0, ap (λ (n : TableId). x.catalogue.tables n.0) (sym same) ∙ h.2.0)
    builds_table y e t h is = absurd h

    gone_index : (y : Statement) (e : Definition) (t : TableId) → comes.AsksFor x y e → to_build e ≡ Some t → (name : List ℕ) × (right.index_absent y ≡ reply.Refused (refusal.NoIndex name))
    gone_index (s.CreateTable i) e t h is = none_some t (ap to_build (sym h.2) ∙ is)
    gone_index (s.DropTable i) e t h is = none_some t (ap to_build (sym h.2) ∙ is)
    gone_index (s.CreateIndex i) e t h is = (i.name, refl)
    gone_index (s.DropIndex i) e t h is = none_some t (ap to_build (sym h.4) ∙ is)
    gone_index (s.AlterIndex i) e t h is = (i.name, refl)
    gone_index y e t h is = absurd h

    build_keeps : (e : Definition) (m : Made) (t : TableId) → to_build e ≡ Some t → keeps_tables (calls.act_of e m) ≡ true
    build_keeps (d.Table what) m t h = none_some t h
    build_keeps (d.Index what) m t h = refl
    build_keeps (d.Active t' i) m t h = none_some t h
    build_keeps (d.Disabled t' i) m t h = none_some t h
    build_keeps (d.Rebuilding t' i) m t h = refl
    build_keeps (d.DropTable t') m t h = none_some t h
    build_keeps (d.DropIndex t' i) m t h = none_some t h

    -- what was seen earlier is the front of the trail
    front_is : (earlier later : List Entry) → pre ++ more ≡ earlier ++ later → earlier ≡ take (length earlier) (pre ++ more)
    front_is earlier later e = sym (ap (take (length earlier)) e ∙ take_front earlier later)
      where
        take_front : (xs ys : List Entry) → take (length xs) (xs ++ ys) ≡ xs
        take_front [] ys = refl
        take_front (e ∷ xs) ys = ap (λ (l : List Entry). e ∷ l) (take_front xs ys)

    table_gone : {A : Type 0} → (t : ℕ) (z : Table) (was : Known) (later : List Entry) → x.catalogue.tables t ≡ Some z → All keeps_tables (changes_in own) → length pre ≤ length was.seen → b ≡ was.base → pre ++ more ≡ was.seen ++ later → LacksTable was t → A
    table_gone t z was later stands all low base seen lacks =
        let kept = tables-kept b pre more (length was.seen) low (all-entries keeps_tables tables-rest more (subst (All keeps_tables) (sym changes_are) all)) in
        let none : (catalogue_of b (take (length was.seen) (pre ++ more))).tables t ≡ None =
        subst (λ (l : List Entry). (catalogue_of b l).tables t ≡ None) (front_is was.seen later seen) (subst (λ (c : Base). (catalogue_of c was.seen).tables t ≡ None) (sym base) lacks) in
        none_some z (sym none ∙ (ap (λ (f : ℕ → Option Table). f t) kept ∙ stands))

    stops_limit : (t : ℕ) (i : ℕ) (y : Statement) (which : Limit) (count : ℕ) (was : Known) → building.BuildFaultIs sound t i (unbuilt.Limit which count) was → comes.StopsBuild y (refusal.Limit which)
    stops_limit t i y bound.Key count was h = tt
    stops_limit t i y bound.Stamps count was h = tt
    stops_limit t i y bound.Ids count was h = tt
    stops_limit t i y bound.Rows count was h = absurd h
    stops_limit t i y bound.Cells count was h = absurd h
    stops_limit t i y bound.Bytes count was h = absurd h
    stops_limit t i y bound.Columns count was h = absurd h
    stops_limit t i y bound.Indexes count was h = absurd h
    stops_limit t i y bound.Tables count was h = absurd h
    stops_limit t i y bound.Regions count was h = absurd h
    stops_limit t i y bound.Name count was h = absurd h
    stops_limit t i y bound.Depth count was h = absurd h
    stops_limit t i y bound.Statement count was h = absurd h
    stops_limit t i y bound.Script count was h = absurd h
    stops_limit t i y bound.Trail count was h = absurd h
    stops_limit t i y which count was h = absurd h

    module _ (st : Settings) (p : SeenPiece) (a : Answered) (y : Statement) (f : Found) (e : Definition) (t : TableId) (m : Made) (rest left : List Act) (from : length pre ≤ a.first) (q : Quiet a.reply) (read : right.IsReadItem p (Ok y)) (scn : st.scn ≡ None)
        (bound_to : IsBoundTo b (pre ++ more) a.first f (right.table_named y)) (fits : faults_in f y ≡ []) (is : right.definition_asked f y ≡ Some e) (builds : to_build e ≡ Some t) (behind : IsBuiltBehind a.first e m own rest k)
        (tried : building.TriesThen t (calls.index_id_made m) left rest) (leaves : comes.LeavesIndex t (calls.index_id_made m) (changes_in left)) (unmade : All is_unmade (changes_in left)) (names : All keeps_names (changes_in left)) (tables : All keeps_tables (changes_in left)) (undrawn : stamps_in (changes_in left) ≡ [])
        (still : a.after ≡ next_is.Next st) where
      i : IndexId
      i = calls.index_id_made m

      again_at : List ℕ
      again_at = renewed tried.0

      only : changes_in own ≡ calls.act_of e m ∷ (comes.built_again t i again_at ++ changes_in left)
      unfolding i again_at
      only = ap changes_in behind.one ∙ (change_first e m rest ∙ ap (λ (l : List Act). calls.act_of e m ∷ l) (ap changes_in tried.1 ∙ changes-tries t i tried.0 left))

      asked : comes.AsksFor x y e
      unfolding i again_at
      asked =
          let kept = head_kept y f e m (comes.built_again t i again_at ++ changes_in left) is (again-all is_unmade t i again_at (changes_in left) (λ n. refl) unmade) (again-all keeps_names t i again_at (changes_in left) (λ n. refl) names) only in
          asks_bound a.first y f e kept.0 kept.1 from bound_to fits is

      keeps : All keeps_tables (changes_in own)
      unfolding i again_at
      keeps = subst (All keeps_tables) (sym only) (build_keeps e m t builds, again-all keeps_tables t i again_at (changes_in left) (λ n. refl) tables)

      stopped : (r : Refusal) → comes.StopsBuild y r → a.reply ≡ reply.Refused r → Folds st p own a
      unfolding i again_at
      stopped r why told =
          let drew : stamps_in (changes_in own) ≡ comes.stamps_of e m ++ again_at =
          ap stamps_in only ∙ (stamps_first e m t (comes.built_again t i again_at ++ changes_in left) builds ∙ ap (λ (l : List ℕ). comes.stamps_of e m ++ l) (stamps-again t i again_at (changes_in left) ∙ (ap (λ (l : List ℕ). again_at ++ l) undrawn ∙ append-nil again_at))) in
          inl (comes.is_not_built y e t m again_at (changes_in left) r read scn asked builds behind.made (takes_next e m _ only) why leaves
          (λ j. record { stamps = drew j; reply = told j; next = still j; acts = only j }))

      not_built_by : (why : BuildFault) → building.WasRefused sound m.at t.0 (calls.index_id_made m).0 why k → a.reply ≡ right.not_built y why → Folds st p own a
      not_built_by unbuilt.NoTable w told =
          let z = builds_table y e t asked builds in
          table_gone t.0 z.0 w.was w.past.more z.1 keeps (let u = w.from in let v = behind.from in omega arith) w.past.base w.past.seen w.cause
      not_built_by unbuilt.NoIndex w told = let z = gone_index y e t asked builds in stopped (refusal.NoIndex z.0) z.1 (told ∙ z.1)
      not_built_by (unbuilt.Limit which count) w told = stopped (refusal.Limit which) (stops_limit t.0 (calls.index_id_made m).0 y which count w.was w.cause) told
      not_built_by (unbuilt.BelowHorizon h) w told = stopped (refusal.BelowHorizon h) tt told
      not_built_by unbuilt.ReadFault w told = no-device (quiet-by a.reply _ told q)
      not_built_by unbuilt.WriteFault w told = no-closing (quiet-by a.reply _ told q)
      not_built_by (unbuilt.Damaged file place) w told = no-device (quiet-by a.reply _ told q)
      not_built_by (unbuilt.Closed call) w told = no-closing (quiet-by a.reply _ told q)
      not_built_by unbuilt.Memory w told = no-memory (quiet-by a.reply _ told q)

    -- 7. Each form

    idle : (a : Answered) → own ≡ [] → outcome_of own a ≡ record { stamps = []; reply = a.reply; next = a.after; acts = [] }
    idle a e = ap (λ (l : List Act). outcome_of l a) e

    silent : (st : Settings) (a : Answered) (r : Reply) → own ≡ [] → right.SaysOnly a r st → comes.Tells (outcome_of own a) r st
    silent st a r e told = tells-of own a r st (ap changes_in e) told.0 told.3

    -- the rows that a DELETE found, where nothing was changed
    abbrev pub FindsRows : Type 0
    FindsRows = (y : Delete) (f : Found) (first : ℕ) (cs : List Change) → HasTable x f y.table → changes_in own ≡ [] → length pre ≤ first → deleting.HasFoundRows sound (right.deletion_query f y) k first own cs → (g : Found) × HasTable x g y.table × (g.table ≡ f.table) × comes.AreRowsFound x g y cs

    -- what comes of a DELETE at once
    abbrev pub DeletesRows : Type 0
    DeletesRows = (st : Settings) (p : SeenPiece) (a : Answered) (y : Delete) (f : Found) (m : Removed) → length pre ≤ m.first → right.IsReadItem p (Ok (s.Delete y)) → st.scn ≡ None → st.autocommit ≡ true → HasTable x f y.table → delete_faults f.table.columns y ≡ []
        → deleting.HasRemoved sound (right.deletion_query f y) own k a.receipts m → a.reply ≡ reply.Count m.rows Affected → a.after ≡ next_is.Next st → ComesAlone x st p (outcome_of own a)

    abbrev pub StopsRows : Type 0
    StopsRows = (st : Settings) (p : SeenPiece) (a : Answered) (y : Delete) (f : Found) (why : BatchFault) → Quiet a.reply → right.IsReadItem p (Ok (s.Delete y)) → st.scn ≡ None → st.autocommit ≡ true → HasTable x f y.table → delete_faults f.table.columns y ≡ []
        → (h : deleting.HasStopped sound (right.deletion_query f y) own k a.receipts why) → length pre ≤ h.first → right.StopsDelete a.reply y.table why → a.after ≡ next_is.Next st → ComesAlone x st p (outcome_of own a)

    defs_batches : (t : TableId) (parts : List (List Change)) (stamps : List ℕ) → defs_in (comes.batches t parts stamps) ≡ []
    defs_batches t [] stamps = refl
    defs_batches t (cs ∷ parts) [] = refl
    defs_batches t (cs ∷ parts) (n ∷ stamps) = defs_batches t parts stamps

    made_defs : (q : Planned) (first : ℕ) (t : TableId) (cs : List Change) (parts : List (List Change)) (rs : List Receipt) (finding making : List Act) → own ≡ finding ++ making → deleting.HasFoundRows sound q k first finding cs → deleting.AreMade sound k t parts rs making → defs_in (changes_in own) ≡ []
    made_defs q first t cs parts rs finding making e h made =
        ap defs_in (ap changes_in e ∙ (changes-append finding making ∙ (ap (λ (l : List Act). changes_in l ++ changes_in making) h.outcome.1 ∙ batches-made sound k t parts rs making made))) ∙ defs_batches t parts (stamps_told rs)

    -- nothing is defined for a DELETE that is stopped
    pub stopped_defs : (q : Planned) (rs : List Receipt) (why : BatchFault) (name : List ℕ) → Quiet (reply.Refused (right.batch_refusal name why)) → deleting.HasStopped sound q own k rs why → defs_in (changes_in own) ≡ []
    stopped_defs q rs why name quiet_is h =
        let none : h.stopping ≡ [] = left_none q.table.id (take 1000 h.rest) why h.stopping name quiet_is h.outcome.1 in
        made_defs q h.first q.table.id h.changes h.parts rs h.finding h.making (h.own_is ∙ ap (λ (l : List Act). h.finding ++ l) (ap (λ (l : List Act). h.making ++ l) none ∙ append-nil h.making)) h.found h.made
      where
        left_none : (t : TableId) (cs : List Change) (f : BatchFault) (acts : List Act) (name : List ℕ) → Quiet (reply.Refused (right.batch_refusal name f)) → batch.HasLeft t cs f acts k → acts ≡ []
        left_none t cs f acts name c (inl e) = e
        left_none t cs unmade.WriteFault acts name c (inr e) = no-closing c
        left_none t cs (unmade.Closed call) acts name c (inr e) = no-closing c
        left_none t cs unmade.NoTable acts name c (inr e) = absurd e.0
        left_none t cs (unmade.Limit which count) acts name c (inr e) = absurd e.0
        left_none t cs unmade.ReadFault acts name c (inr e) = absurd e.0
        left_none t cs (unmade.Damaged file place) acts name c (inr e) = absurd e.0
        left_none t cs unmade.Memory acts name c (inr e) = absurd e.0

    held_rows : FindsRows → (st : Settings) (p : SeenPiece) (a : Answered) (y : Delete) (f : Found) (first : ℕ) (cs : List Change) (st' : Settings) → right.IsReadItem p (Ok (s.Delete y)) → st.scn ≡ None → st.autocommit ≡ false → HasTable x f y.table → delete_faults f.table.columns y ≡ [] → length pre ≤ first
        → (h : deleting.HasFoundRows sound (right.deletion_query f y) k first own cs) → right.IsHoldingAll f.table cs st st' → right.SaysOnly a (reply.Count (length cs) Held) st' → Folds st p own a
    held_rows rows st p a y f first cs st' read scn off finds fits from h holding told =
        let none : changes_in own ≡ [] = ap changes_in h.outcome.1 in
        let g = rows y f first cs finds none from h in
        inl (comes.are_held y g.0 cs st' read scn off g.1 (subst (λ (t : Table). delete_faults t.columns y ≡ []) (sym g.2) fits) g.3 (subst (λ (t : Table). right.IsHoldingAll t cs st st') (sym g.2) holding) (tells-of own a _ st' none told.0 told.3))

    many_rows : FindsRows → (st : Settings) (p : SeenPiece) (a : Answered) (y : Delete) (f : Found) (first : ℕ) (cs : List Change) → right.IsReadItem p (Ok (s.Delete y)) → st.scn ≡ None → st.autocommit ≡ false → HasTable x f y.table → delete_faults f.table.columns y ≡ [] → length pre ≤ first
        → (h : deleting.HasFoundRows sound (right.deletion_query f y) k first own cs) → right.AreTooManyOf f.table cs st → right.SaysRefused a (refusal.Limit bound.Rows) st → Folds st p own a
    many_rows rows st p a y f first cs read scn off finds fits from h many told =
        let none : changes_in own ≡ [] = ap changes_in h.outcome.1 in
        let g = rows y f first cs finds none from h in
        inl (comes.are_too_many y g.0 cs read scn off g.1 (subst (λ (t : Table). delete_faults t.columns y ≡ []) (sym g.2) fits) g.3 (subst (λ (t : Table). right.AreTooManyOf t cs st) (sym g.2) many) (tells-of own a _ st none told.0 told.3))

    -- a current query is refused for no other cause than that its table is gone
    not_found : {A : Type 0} → (y : Rattle.px_gather.specs.Query.Query) (name : List ℕ) (f : Found) (why : QueryFault) (r : Reply) → ((g : Found) (n : ℕ) → y.joins g n ≡ false) → Quiet r → y.table ≡ f.table.id.0 → HasTable x f name → changes_in own ≡ [] → QueryFaultIs sound y None why k → r ≡ reply.Refused (right.query_refusal name why) → A
    not_found y name f unread.NoTable r never q e finds none is told = stands_then f name none finds (subst (LacksTable k) e is)
    not_found y name f (unread.BelowHorizon h) r never q e finds none is told = absurd is
    not_found y name f unread.IndexJoin r never q e finds none is told = (let z : ◌≡◌ {A = Bool} true false = sym is.joins ∙ never is.point.found is.point.stamp in cc)
    not_found y name f unread.ReadFault r never q e finds none is told = no-device (quiet-by r _ told q)
    not_found y name f unread.WriteFault r never q e finds none is told = no-closing (quiet-by r _ told q)
    not_found y name f (unread.Damaged file place) r never q e finds none is told = no-device (quiet-by r _ told q)
    not_found y name f (unread.Closed call) r never q e finds none is told = no-closing (quiet-by r _ told q)
    not_found y name f unread.Memory r never q e finds none is told = no-memory (quiet-by r _ told q)

    pub form : (before : ℕ) (st : Settings) (p : SeenPiece) (a : Answered) → length pre ≤ before → before ≤ a.first → Quiet a.reply → FindsRows → DeletesRows → StopsRows → IsRight sound k before own st p a → Folds st p own a
    form before st p a at from q rows deletes stops_ (right.is_at_once once none) = inl (comes.is_at_once a once (idle a none))
    form before st p a at from q rows deletes stops_ (right.is_unfound y read may lacking told none) = inl (comes.is_unfound y read may (lacks-at b pre more (defs_by (no_defs none)) seat damaged a.first (right.table_named y) (omega arith) lacking) (silent st a _ none told))
    form before st p a at from q rows deletes stops_ (right.is_closed y call read closed told none) = no-closing (quiet-by a.reply _ told.0 q)
    form before st p a at from q rows deletes stops_ (right.is_wrong y f fault read may bound first told none) = inl (comes.is_wrong y f fault read may (finds a.first f (right.table_named y) (no_defs none) (omega arith) bound) first (silent st a _ none told))
    form before st p a at from q rows deletes stops_ (right.is_changed u f r read scn on bound fits ended told) = changed st p a u f r.stamp read scn on (omega arith) bound fits ended.one ended.kept told.0 told.3
    form before st p a at from q rows deletes stops_ (right.is_not_changed u f why read scn on bound fits is since left told) = not_changed st p a u f why q read scn on (omega arith) bound fits is left told
    form before st p a at from q rows deletes stops_ (right.is_held u f st' read scn off bound fits holding told none) = inl (comes.is_held u f st' read scn off (finds a.first f u.table (no_defs none) (omega arith) bound) fits holding (silent st' a _ none told))
    form before st p a at from q rows deletes stops_ (right.is_full u f read scn off bound fits full told none) = inl (comes.is_full u f read scn off (finds a.first f u.table (no_defs none) (omega arith) bound) fits full (silent st a _ none told))
    form before st p a at from q rows deletes stops_ (right.is_committed again h rs held asked outcome told) = committed st p a h again outcome.0.stamp held (omega arith) asked outcome.2.one outcome.2.kept told.0 told.3
    form before st p a at from q rows deletes stops_ (right.is_not_committed again h why held asked outcome since stops told) = not_committed st p a h again why q held (omega arith) asked outcome.0 outcome.1 stops told.2
    form before st p a at from q rows deletes stops_ (right.is_counted name r read outcome told none) = counted st p a name r none read (omega arith) outcome told
    form before st p a at from q rows deletes stops_ (right.is_not_counted name why read is since told none) = not_counted st p a name why q none read (omega arith) is told
    form before st p a at from q rows deletes stops_ (right.is_ordered job read running told none) = inl (comes.is_ordered job read (silent st a _ none told))
    form before st p a at from q rows deletes stops_ (right.is_not_ordered job why read is since told none) = order_faults a.reply why told.0 q
    form before st p a at from q rows deletes stops_ (right.is_defined y f m e read scn bound fits is none made told) = defined_form st p a y f m e (omega arith) read scn bound fits is none made told
    form before st p a at from q rows deletes stops_ (right.is_not_defined y f why e read scn bound fits is cause since none told) =
        not_defined st p a none q scn y read told.3 y e why refl (asks_of y f e (finds a.first f (right.table_named y) (no_defs none) (omega arith) bound) fits is) cause told.0
    form before st p a at from q rows deletes stops_ (right.is_index_built y f e t m c rest read scn bound fits is builds behind built asked told) = built_form st p a y f e t m c.stamp rest (omega arith) read scn bound fits is builds behind built.1 told
    form before st p a at from q rows deletes stops_ (right.is_index_not_built y f e t m rest why read scn bound fits is builds behind built (inr lack)) = no-memory (quiet-by a.reply _ lack.0 q)
    form before st p a at from q rows deletes stops_ (right.is_index_not_built y f e t m rest why read scn bound fits is builds behind built (inl told)) = elim built.1 [
      | inl tried ↦ not_built_by st p a y f e t m rest [] (omega arith) q read scn bound fits is builds behind tried (inl refl) tt tt tt refl told.3 why built.0 told.0
      | inr tried ↦ not_built_by st p a y f e t m rest (IndexState t (calls.index_id_made m) states.Disabled tried.0 ∷ []) (omega arith) q read scn bound fits is builds behind tried.1 (inr (tried.0, refl)) (refl, tt) (refl, tt) (refl, tt) refl told.3 why built.0 told.0
    ]
    form before st p a at from q rows deletes stops_ (right.is_created t m read one scn fits made told) = created st p a t m read one scn fits made told
    form before st p a at from q rows deletes stops_ (right.is_not_created t why read one scn fits cause since none told) = not_created st p a t why q read one scn fits cause none told.0 told.3
    form before st p a at from q rows deletes stops_ (right.is_index_absent i f read scn bound exists absent told none) = inl (comes.is_index_absent i f read scn (finds a.first f i.table (no_defs none) (omega arith) bound) exists absent (silent st a _ none told))
    form before st p a at from q rows deletes stops_ (right.is_selected y f z r read bound asked outcome told) =
        let none : changes_in own ≡ [] = ap changes_in outcome.1 in
        selected_form st p a y f z r read (finds before f y.table (ap defs_in none) at bound) asked (let e = told.first in omega arith) none outcome.2 outcome.0 told
    form before st p a at from q rows deletes stops_ (right.is_not_selected y f z why read bound asked outcome since (inr lack)) = no-memory (quiet-by a.reply _ lack.0 q)
    form before st p a at from q rows deletes stops_ (right.is_not_selected y f z why read bound asked outcome since (inl told)) =
        let none : changes_in own ≡ [] = refused_calm (query_of z) outcome.1 in
        not_selected st p a none told.3 q y f z before why at asked outcome.0 since read (finds before f y.table (ap defs_in none) at bound) told.0
    form before st p a at from q rows deletes stops_ (right.is_deleted y f m read scn on bound fits h first told) =
        inl (deletes st p a y f m (omega arith) read scn on (finds a.first f y.table (made_defs (right.deletion_query f y) m.first f.table.id h.changes h.parts a.receipts h.finding h.making h.own_is h.found h.made) (omega arith) bound) fits h told.0 told.2)
    form before st p a at from q rows deletes stops_ (right.is_not_deleted y f why read scn on bound fits h since (inr lack) told) = no-memory (quiet-by a.reply _ lack.0 q)
    form before st p a at from q rows deletes stops_ (right.is_not_deleted y f why read scn on bound fits h since (inl stops) told) =
        inl (stops_ st p a y f why q read scn on (finds a.first f y.table (stopped_defs (right.deletion_query f y) a.receipts why y.table (quiet-by a.reply _ stops q) h) (omega arith) bound) fits h (let o = since.0 in omega arith) (inl stops) told.1)
    form before st p a at from q rows deletes stops_ (right.is_not_found y f why read scn bound fits outcome since (inr lack)) = no-memory (quiet-by a.reply _ lack.0 q)
    form before st p a at from q rows deletes stops_ (right.is_not_found y f why read scn bound fits outcome since (inl told)) =
        let none : changes_in own ≡ [] = refused_calm (query_of (right.deletion_query f y)) outcome.1 in
        not_found (query_of (right.deletion_query f y)) y.table f why a.reply (λ g n. refl) q refl (finds a.first f y.table (ap defs_in none) (omega arith) bound) none outcome.0 told.0
    form before st p a at from q rows deletes stops_ (right.are_held y f first cs st' read scn off bound fits found begins holding told) =
        held_rows rows st p a y f first cs st' read scn off (finds a.first f y.table (ap (λ (l : List Act). defs_in (changes_in l)) found.outcome.1) (omega arith) bound) fits (omega arith) found holding told
    form before st p a at from q rows deletes stops_ (right.are_too_many y f first cs read scn off bound fits found begins many told) =
        many_rows rows st p a y f first cs read scn off (finds a.first f y.table (ap (λ (l : List Act). defs_in (changes_in l)) found.outcome.1) (omega arith) bound) fits (omega arith) found many told
    form before st p a at from q rows deletes stops_ (right.is_explained y f z read bound planned told none) = inl (comes.is_explained y f z read (finds a.first f y.table (no_defs none) (omega arith) bound) planned (silent st a _ none told))
    form before st p a at from q rows deletes stops_ (right.is_not_explained y f read bound planned told none) = inl (comes.is_not_explained y f read (finds a.first f y.table (no_defs none) (omega arith) bound) planned (silent st a _ none told))
