-- What one right answer rests on: a reply that tells of the disk has an entry that tells it, and what the seat did for an item is ended and closed,
-- unless the item stops its session.
use Rattle.std.proofs.Common.{ℕ, zero, suc, ◌≡◌, ◌⊎◌, ◌||◌, ◌==◌, if◌then◌else◌, Bool, true, false, Option, None, Some, List, [], ◌∷◌, ◌++◌, Err, take, refl, sym, ◌∙◌, ap, subst, inl, inr, ⊎_elim}
use Rattle.std.proofs.lemmas.Bool.{false≢true}
use Rattle.px_values.specs.declared.change.Change.{Change}
use Rattle.px_values.specs.declared.name.IndexId.{IndexId}
use Rattle.px_values.specs.declared.name.TableId.{TableId}
use Rattle.px_values.specs.declared.print.CountWord.TheVariants.{Affected, Held}
use Rattle.px_values.specs.declared.limit.Limit.TheVariants.{Rows}
use Rattle.px_held.specs.HeldData.{HeldData}
use Rattle.px_commanding.specs.Commits as commits
use Rattle.px_commanding.specs.Counts as counts
use Rattle.px_commanding.specs.declared.count.CountFault.{CountFault}
use Rattle.px_commanding.specs.declared.count.CountFault.TheVariants as uncounted
use Rattle.px_commanding.specs.Orders as orders
use Rattle.px_commanding.specs.declared.order.OrderFault.{OrderFault}
use Rattle.px_commanding.specs.declared.order.OrderFault.TheVariants as undone_by
use Rattle.px_lex.specs.Script.{SeenPiece}
use Rattle.px_ast.specs.declared.statement.Statement.{Statement}
use Rattle.px_ast.specs.declared.statement.Statement.TheVariants as s
use Rattle.px_parse.specs.declared.syntax.SyntaxFault.{SyntaxFault}
use Rattle.px_parse.specs.declared.syntax.SyntaxFault.TheVariants as syntax
use Rattle.px_commands.specs.declared.command.Command.{Command}
use Rattle.px_commands.specs.declared.command.Command.TheVariants as commands
use Rattle.px_commands.specs.declared.command.CommandFault.{CommandFault}
use Rattle.px_commands.specs.declared.command.CommandFault.TheVariants as command
use Rattle.px_resolve.specs.declared.fault.BindFault.{BindFault}
use Rattle.px_resolve.specs.declared.fault.BindFault.TheVariants as bind
use Rattle.px_trail.specs.Answers.{IsAmong}
use Rattle.px_trail.specs.Trail.{acts_by, closing_call, closing_from, closing_step}
use Rattle.px_trail.specs.declared.entry.Act.{Act}
use Rattle.px_trail.specs.declared.entry.Act.TheVariants.{Missed, Shut}
use Rattle.px_trail.specs.declared.entry.Entry.{Entry}
use Rattle.px_calls.specs.Causes.{IsDamagedAt}
use Rattle.px_calls.specs.Calls.{act_of, index_id_made}
use Rattle.px_calls.specs.Known.{Known}
use Rattle.px_calls.specs.declared.definition.Made.{Made}
use Rattle.px_calls.specs.declared.status.Ordered.{Ordered}
use Rattle.px_calls.specs.declared.status.Ordered.TheVariants as jobs
use Rattle.px_calls.specs.declared.definition.Definition.{Definition}
use Rattle.px_calls.specs.declared.definition.Definition.TheVariants as d
use Rattle.px_batch.specs.Turns as batch
use Rattle.px_batch.specs.declared.batch.BatchFault.{BatchFault}
use Rattle.px_batch.specs.declared.batch.BatchFault.TheVariants as unmade
use Rattle.px_defining.specs.Turns as define
use Rattle.px_defining.specs.declared.define.DefineFault.{DefineFault}
use Rattle.px_defining.specs.declared.define.DefineFault.TheVariants as undone
use Rattle.px_create.specs.Tables.{new_table}
use Rattle.px_tables.specs.declared.index.IndexState.TheVariants.{Active, Disabled}
use Rattle.px_upkeep.specs.Turns as building
use Rattle.px_upkeep.specs.declared.build.BuildFault.{BuildFault}
use Rattle.px_upkeep.specs.declared.build.BuildFault.TheVariants as unbuilt
use Rattle.px_gather.specs.Query.{Query}
use Rattle.px_plan.specs.Explained.{explained}
use Rattle.px_calls.specs.declared.ticket.Receipt.{Receipt}
use Rattle.px_deleting.specs.Deleting as deleting
use Rattle.px_planned.specs.declared.planned.Planned.{Planned}
use Rattle.px_scan.specs.Faults.{QueryFaultIs}
use Rattle.px_scan.specs.Turns.{OpensAndCloses, queried_table}
use Rattle.px_scan.specs.declared.answer.QueryFault.{QueryFault}
use Rattle.px_scan.specs.declared.answer.QueryFault.TheVariants as unread
use Rattle.px_planned.specs.Queries.{query_of}
use Rattle.px_reply.specs.declared.refusal.Refusal.TheVariants as refusal
use Rattle.px_reply.specs.declared.reply.Defined.TheVariants as defined
use Rattle.px_reply.specs.declared.reply.Reply.{Reply}
use Rattle.px_reply.specs.declared.reply.Reply.TheVariants as reply
use Rattle.px_item.specs.Builds.{IsBuiltBehind}
use Rattle.px_item.specs.Right as right
use Rattle.px_item.specs.Right.{IsAtOnce, IsRight, SaysOf, batch_refusal, bind_refusal, command_refusal, definition_word, index_absent, name_taken, not_built, one_change, query_refusal, syntax_refusal, table_absent, undefined}
use Rattle.px_item.specs.declared.answered.Answered.{Answered}
use Rattle.px_item.specs.declared.answered.Settings.{Settings}
use Rattle.px_session.specs.Replies.{is_fatal}
use Rattle.px_server.specs.Kept.{has_told, tells_fault}
use Rattle.px_program.specs.Status.{is_of_disk, refused_by}
use Rattle.px_program.specs.Run.{undamaged}
use Rattle.px_alone.proofs.Balanced.{IsBalanced, balanced-batch, balanced-definition, balanced-none, balanced-point, balanced-append, balanced-state, balanced-tries, balanced-within}

-- ---- 1. Entries that tell of the disk

pub or_left : (a b : Bool) → a ≡ true → (a || b) ≡ true
or_left true b h = refl
or_left false b h = absurd (false≢true h)

pub or_right : (a b : Bool) → b ≡ true → (a || b) ≡ true
or_right true b h = refl
or_right false b h = h

pub told_by : (seat : ℕ) (act : Act) (es : List Entry) → tells_fault act ≡ true → IsAmong act (acts_by seat es) → has_told es ≡ true
unfolding acts_by IsAmong
told_by seat act [] tells h = absurd h
told_by seat act (e ∷ es) tells h =
    elim (e.seat == seat) as (λ w. IsAmong act (if w then e.act ∷ acts_by seat es else acts_by seat es) → (tells_fault e.act || has_told es) ≡ true) [
      | true ↦ λ g. elim g [
        | inl is ↦ or_left (tells_fault e.act) (has_told es) (ap tells_fault is ∙ tells)
        | inr more ↦ or_right (tells_fault e.act) (has_told es) (told_by seat act es tells more)
      ]
      | false ↦ λ g. or_right (tells_fault e.act) (has_told es) (told_by seat act es tells g)
    ] h

none_some : {A : Type 0} (n : ℕ) → None ≡ Some n → A
none_some n h = cc

closed_step : (call : ℕ) (act : Act) (es : List Entry) → (closing_from None es ≡ Some call → has_told es ≡ true) → closing_from (closing_step None act) es ≡ Some call → (tells_fault act || has_told es) ≡ true
closed_step call (Shut c) es more h = refl
closed_step call (Missed c) es more h = refl
closed_step call act es more h = more h

pub closed_by : (call : ℕ) (es : List Entry) → closing_call es ≡ Some call → has_told es ≡ true
unfolding closing_from
closed_by call [] h = none_some call h
closed_by call (e ∷ es) h = closed_step call e.act es (closed_by call es) h

pub told_front : (n : ℕ) (es : List Entry) → has_told (take n es) ≡ true → has_told es ≡ true
told_front zero es h = absurd (false≢true h)
told_front (suc n) [] h = absurd (false≢true h)
told_front (suc n) (e ∷ es) h =
    elim (tells_fault e.act) as (λ v. (v || has_told (take n es)) ≡ true → (v || has_told es) ≡ true) [
      | true ↦ λ g. refl
      | false ↦ λ g. told_front n es g
    ] h

pub told_more : (es more : List Entry) → has_told es ≡ true → has_told (es ++ more) ≡ true
told_more [] more h = absurd (false≢true h)
told_more (e ∷ es) more h =
    elim (tells_fault e.act) as (λ v. (v || has_told es) ≡ true → (v || has_told (es ++ more)) ≡ true) [
      | true ↦ λ g. refl
      | false ↦ λ g. told_more es more g
    ] h

-- ---- 2. Replies that don't tell of the disk

either : (v : Bool) (x y : Reply) → refused_by is_of_disk x ≡ false → refused_by is_of_disk y ≡ false → refused_by is_of_disk (if v then x else y) ≡ false
either true x y h j = h
either false x y h j = j

syntax_quiet : (f : SyntaxFault) → refused_by is_of_disk (reply.Refused (syntax_refusal f)) ≡ false
syntax_quiet (syntax.Unexpected place) = refl
syntax_quiet f = refl

command_quiet : (f : CommandFault) → refused_by is_of_disk (reply.Refused (command_refusal f)) ≡ false
command_quiet (command.Syntax place) = refl
command_quiet f = refl

bind_quiet : (f : BindFault) → refused_by is_of_disk (reply.Refused (bind_refusal f)) ≡ false
bind_quiet (bind.NoIndex name) = refl
bind_quiet f = refl

absent_quiet : (x : Statement) → refused_by is_of_disk (table_absent x) ≡ false
absent_quiet (s.CreateTable t) = refl
absent_quiet (s.DropTable t) = either t.if_exists (reply.Defined defined.TableAbsent) (reply.Refused (refusal.NoTable t.name)) refl refl
absent_quiet x = refl

index_quiet : (x : Statement) → refused_by is_of_disk (index_absent x) ≡ false
index_quiet (s.CreateIndex i) = refl
index_quiet (s.AlterIndex i) = refl
index_quiet (s.DropIndex i) = either i.if_exists (reply.Defined defined.IndexAbsent) (reply.Refused (refusal.NoIndex i.name)) refl refl
index_quiet x = refl

name_quiet : (x : Statement) → refused_by is_of_disk (name_taken x) ≡ false
name_quiet (s.CreateTable t) = either t.if_not_exists (reply.Defined defined.TableKept) (reply.Refused (refusal.NameExists t.name)) refl refl
name_quiet (s.CreateIndex i) = either i.if_not_exists (reply.Defined defined.IndexKept) (reply.Refused (refusal.NameExists i.name)) refl refl
name_quiet x = refl

order_quiet : (job : Ordered) → refused_by is_of_disk (right.order_reply job) ≡ false
order_quiet jobs.FlushAll = refl
order_quiet jobs.CompactAll = refl

says_quiet : (st : Settings) (c : Command) (a : Answered) → SaysOf st c a → refused_by is_of_disk a.reply ≡ false
says_quiet st (commands.Scn n) a says = ap (refused_by is_of_disk) says.0
says_quiet st (commands.Autocommit true) a says = ap (refused_by is_of_disk) says.1.0
says_quiet st (commands.Autocommit false) a says = ap (refused_by is_of_disk) says.0
says_quiet st commands.Commit a says = ap (refused_by is_of_disk) says.1.0
says_quiet st c a says = absurd says

at_once_quiet : (st : Settings) (p : SeenPiece) (a : Answered) → IsAtOnce st p a → refused_by is_of_disk a.reply ≡ false
at_once_quiet st p a (right.is_long kind long says) = ap (refused_by is_of_disk) says.0
at_once_quiet st p a (right.is_not_read e read says) = ap (refused_by is_of_disk) says.0 ∙ syntax_quiet e
at_once_quiet st p a (right.is_not_built x read built says) = ap (refused_by is_of_disk) says.0
at_once_quiet st p a (right.is_under_scn x read may scn says) = ap (refused_by is_of_disk) says.0
at_once_quiet st p a (right.is_wrong_table t fault read whole scn first says) = ap (refused_by is_of_disk) says.0 ∙ bind_quiet fault
at_once_quiet st p a (right.is_no_command e read says) = ap (refused_by is_of_disk) says.0 ∙ command_quiet e
at_once_quiet st p a (right.is_command c read says) = says_quiet st c a says
at_once_quiet st p a (right.is_lacking says) = ap (refused_by is_of_disk) says.0

-- ---- 3. What a DELETE did

found_balanced : (sound : Type 0) (p : Planned) (k : Known) (first : ℕ) (acts : List Act) (cs : List Change) → deleting.HasFoundRows sound p k first acts cs → IsBalanced acts
found_balanced sound p k first acts cs h = subst IsBalanced (sym h.outcome.1) (balanced-point _ _ _)

-- each batch that was made is ended
made_balanced : (sound : Type 0) (k : Known) (t : TableId) (parts : List (List Change)) (rs : List Receipt) (acts : List Act) → deleting.AreMade sound k t parts rs acts → IsBalanced acts
made_balanced sound k t [] [] acts m = subst IsBalanced (sym m) balanced-none
made_balanced sound k t [] (r ∷ rs) acts m = absurd m
made_balanced sound k t (cs ∷ parts) [] acts m = absurd m
made_balanced sound k t (cs ∷ parts) (r ∷ rs) acts m =
    subst IsBalanced (sym m.2) (balanced-append m.0 m.1 (subst IsBalanced (sym m.3.ended.one) (balanced-batch t r.stamp cs)) (made_balanced sound k t parts rs m.1 m.4))

-- ---- 4. One item

-- no place is found damaged
abbrev pub IsUndamaged : Type 0 → Known → Type 0
IsUndamaged sound k = (file place : ℕ) → IsDamagedAt sound k file place → ⊥

-- where no place is found damaged, a reply that tells of the disk has an entry that tells it; and one that doesn't stop its session leaves nothing under way
pub record IsFair (sound : Type 0) (k : Known) (own : List Act) (r : Reply) : Type 0 where
  pub told : IsUndamaged sound k → refused_by is_of_disk r ≡ true → has_told k.seen ≡ true
  pub balanced : is_fatal r ≡ false → IsBalanced own

-- so it is where none is damaged
pub undamaged_at : (sound : Type 0) (k : Known) → k.damaged ≡ undamaged → IsUndamaged sound k
undamaged_at sound k whole file place h = false≢true (sym (ap (λ (f : ℕ → ℕ → Bool). f file place) whole) ∙ h.0)

-- and so it was earlier
pub undamaged_before : (sound : Type 0) (was k : Known) → k.damaged ≡ was.damaged → IsUndamaged sound k → IsUndamaged sound was
undamaged_before sound was k same whole file place h = whole file place (ap (λ (f : ℕ → ℕ → Bool). f file place) same ∙ h.0, h.1)

-- a definition that was refused for the disk's sake has an entry that tells it
defining_told : (sound : Type 0) (k : Known) (x : Definition) (y : Statement) (f : DefineFault) → define.DefinitionFaultIs sound x f k → IsUndamaged sound k → refused_by is_of_disk (undefined y f) ≡ true → has_told k.seen ≡ true
defining_told sound k x y undone.ReadFault is whole tell = told_by k.seat (Missed is.0) k.seen refl is.1
defining_told sound k x y undone.WriteFault is whole tell = told_by k.seat (Shut is.0) k.seen refl is.1
defining_told sound k x y (undone.Damaged file place) is whole tell = absurd (whole file place is)
defining_told sound k x y (undone.Closed call) is whole tell = closed_by call k.seen is
defining_told sound k x y undone.NameExists is whole tell = absurd (false≢true (sym (name_quiet y) ∙ tell))
defining_told sound k x y undone.NoTable is whole tell = absurd (false≢true (sym (absent_quiet y) ∙ tell))
defining_told sound k x y undone.NoIndex is whole tell = absurd (false≢true (sym (index_quiet y) ∙ tell))
defining_told sound k x y f is whole tell = absurd (false≢true tell)

-- so has a build
building_told : (sound : Type 0) (k : Known) (t i : ℕ) (y : Statement) (f : BuildFault) → building.BuildFaultIs sound t i f k → IsUndamaged sound k → refused_by is_of_disk (not_built y f) ≡ true → has_told k.seen ≡ true
building_told sound k t i y unbuilt.ReadFault is whole tell = told_by k.seat (Missed is.0) k.seen refl is.1
building_told sound k t i y unbuilt.WriteFault is whole tell = told_by k.seat (Shut is.0) k.seen refl is.1
building_told sound k t i y (unbuilt.Damaged file place) is whole tell = absurd (whole file place is)
building_told sound k t i y (unbuilt.Closed call) is whole tell = closed_by call k.seen is
building_told sound k t i y unbuilt.NoTable is whole tell = absurd (false≢true (sym (absent_quiet y) ∙ tell))
building_told sound k t i y unbuilt.NoIndex is whole tell = absurd (false≢true (sym (index_quiet y) ∙ tell))
building_told sound k t i y (unbuilt.Limit which count) is whole tell = absurd (false≢true tell)
building_told sound k t i y (unbuilt.BelowHorizon h) is whole tell = absurd (false≢true tell)
building_told sound k t i y unbuilt.Memory is whole tell = absurd (false≢true tell)

-- also one that was refused earlier
refused_told : (sound : Type 0) (k : Known) (n t i : ℕ) (y : Statement) (f : BuildFault) → building.WasRefused sound n t i f k → IsUndamaged sound k → refused_by is_of_disk (not_built y f) ≡ true → has_told k.seen ≡ true
refused_told sound k n t i y f w whole tell =
    subst (λ (es : List Entry). has_told es ≡ true) (sym w.past.seen) (told_more w.was.seen w.past.more (building_told sound w.was t i y f w.cause (undamaged_before sound w.was k w.past.damaged whole) tell))

-- what a build did is balanced
pub tries_balanced : (t : TableId) (i : IndexId) (last own : List Act) → building.TriesThen t i last own → IsBalanced last → IsBalanced own
tries_balanced t i last own h b = subst IsBalanced (sym h.1) (balanced-append (building.acts_of_tries t i h.0) last (balanced-tries t i h.0) b)

pub tried_balanced : (t : TableId) (i : IndexId) (own : List Act) → building.HasTried t i own → IsBalanced own
tried_balanced t i own (inl h) = tries_balanced t i [] own h balanced-none
tried_balanced t i own (inr h) = tries_balanced t i _ own h.1 (balanced-state t i Disabled h.0)

-- with its definition before it
behind_balanced : (n : ℕ) (e : Definition) (m : Made) (own rest : List Act) (k : Known) → IsBuiltBehind n e m own rest k → IsBalanced rest → IsBalanced own
behind_balanced n e m own rest k h b = subst IsBalanced (sym h.one) (balanced-append (act_of e m ∷ []) rest (balanced-definition e m) b)

module _ (sound : Type 0) (k : Known) where
  Told : Reply → Type 0
  Told r = IsUndamaged sound k → refused_by is_of_disk r ≡ true → has_told k.seen ≡ true

  not_told : (r : Reply) → refused_by is_of_disk r ≡ false → Told r
  unfolding Told
  not_told r quiet whole tell = absurd (false≢true (sym quiet ∙ tell))

  batch_told : (name : List ℕ) (t : TableId) (cs : List Change) (f : BatchFault) → batch.BatchFaultIs sound t cs f k → Told (reply.Refused (batch_refusal name f))
  unfolding Told
  batch_told name t cs unmade.ReadFault is whole tell = told_by k.seat (Missed is.0) k.seen refl is.1
  batch_told name t cs unmade.WriteFault is whole tell = told_by k.seat (Shut is.0) k.seen refl is.1
  batch_told name t cs (unmade.Damaged file place) is whole tell = absurd (whole file place is)
  batch_told name t cs (unmade.Closed call) is whole tell = closed_by call k.seen is
  batch_told name t cs f is whole tell = absurd (false≢true tell)

  define_told : (x : Definition) (y : Statement) (f : DefineFault) → define.DefinitionFaultIs sound x f k → Told (undefined y f)
  unfolding Told
  define_told = defining_told sound k

  query_told : (name : List ℕ) (q : Query) (scn : Option ℕ) (f : QueryFault) → QueryFaultIs sound q scn f k → Told (reply.Refused (query_refusal name f))
  unfolding Told
  query_told name q scn unread.ReadFault is whole tell = told_by k.seat (Missed is.0) k.seen refl is.1
  query_told name q scn unread.WriteFault is whole tell = told_by k.seat (Shut is.0) k.seen refl is.1
  query_told name q scn (unread.Damaged file place) is whole tell = absurd (whole file place is)
  query_told name q scn (unread.Closed call) is whole tell = closed_by call k.seen is
  query_told name q scn f is whole tell = absurd (false≢true tell)

  -- a batch that was stopped under way was told by a reply that stops the session
  batch_balanced : (name : List ℕ) (t : TableId) (cs : List Change) (f : BatchFault) (own : List Act) → batch.HasLeft t cs f own k → is_fatal (reply.Refused (batch_refusal name f)) ≡ false → IsBalanced own
  batch_balanced name t cs f own (inl none) go = subst IsBalanced (sym none) balanced-none
  batch_balanced name t cs f own (inr stop) go = absurd (stops f stop.0 go)
    where
      stops : (f : BatchFault) → batch.IsStopping f → is_fatal (reply.Refused (batch_refusal name f)) ≡ false → ⊥
      stops unmade.WriteFault h go = false≢true (sym go)
      stops (unmade.Closed call) h go = false≢true (sym go)
      stops f h go = absurd h

  query_balanced : (q : Query) (own : List Act) → ((own ≡ []) ⊎ OpensAndCloses q own) → IsBalanced own
  query_balanced q own (inl none) = subst IsBalanced (sym none) balanced-none
  query_balanced q own (inr both) = subst IsBalanced (sym both.2) (balanced-point (queried_table q) both.0 both.1)

  -- nothing was done for it
  idle : (own : List Act) (a r : Reply) → own ≡ [] → a ≡ r → Told r → IsFair sound k own a
  unfolding Told
  idle own a r none says told = record { told = λ whole tell. told whole (sym (ap (refused_by is_of_disk) says) ∙ tell); balanced = λ go. subst IsBalanced (sym none) balanced-none }

  -- this was done for it, and the reply doesn't tell of the disk
  did : (own acts : List Act) (a r : Reply) → own ≡ acts → IsBalanced acts → a ≡ r → refused_by is_of_disk r ≡ false → IsFair sound k own a
  did own acts a r is balanced says quiet = record { told = λ whole tell. absurd (false≢true (sym (ap (refused_by is_of_disk) says ∙ quiet) ∙ tell)); balanced = λ go. subst IsBalanced (sym is) balanced }

  still : (own : List Act) (a r : Reply) → own ≡ [] → a ≡ r → refused_by is_of_disk r ≡ false → IsFair sound k own a
  still own a r none says quiet = did own [] a r none balanced-none says quiet

  -- a SELECT that was refused
  not_selected : (name : List ℕ) (q : Query) (scn : Option ℕ) (f : QueryFault) (own : List Act) (a : Reply) → QueryFaultIs sound q scn f k → ((own ≡ []) ⊎ OpensAndCloses q own) → (a ≡ reply.Refused (query_refusal name f)) ⊎ (a ≡ reply.Refused refusal.Memory) → IsFair sound k own a
  unfolding Told
  not_selected name q scn f own a is left (inl says) = record { told = λ whole tell. query_told name q scn f is whole (sym (ap (refused_by is_of_disk) says) ∙ tell); balanced = λ go. query_balanced q own left }
  not_selected name q scn f own a is left (inr says) = record { told = λ whole tell. absurd (false≢true (sym (ap (refused_by is_of_disk) says) ∙ tell)); balanced = λ go. query_balanced q own left }

  -- a DELETE that was stopped at one of its batches
  stopped_balanced : (name : List ℕ) (p : Planned) (own : List Act) (rs : List Receipt) (f : BatchFault) → deleting.HasStopped sound p own k rs f → is_fatal (reply.Refused (batch_refusal name f)) ≡ false → IsBalanced own
  stopped_balanced name p own rs f h go =
      let found = found_balanced sound p k h.first h.finding h.changes h.found in
      let made = made_balanced sound k p.table.id h.parts rs h.making h.made in
      let stopped = batch_balanced name p.table.id (take 1000 h.rest) f h.stopping h.outcome.1 go in
      subst IsBalanced (sym h.own_is) (balanced-append h.finding (h.making ++ h.stopping) found (balanced-append h.making h.stopping made stopped))

  not_deleted : (name : List ℕ) (p : Planned) (own : List Act) (rs : List Receipt) (f : BatchFault) (a : Reply) → deleting.HasStopped sound p own k rs f → right.StopsDelete a name f → IsFair sound k own a
  unfolding Told
  not_deleted name p own rs f a h (inl says) = record {
    told = λ whole tell. batch_told name p.table.id (take 1000 h.rest) f h.outcome.0 whole (sym (ap (refused_by is_of_disk) says) ∙ tell);
    balanced = λ go. stopped_balanced name p own rs f h (sym (ap is_fatal says) ∙ go);
  }
  not_deleted name p own rs f a h (inr lacks) = record {
    told = λ whole tell. absurd (false≢true (sym (ap (refused_by is_of_disk) lacks.0) ∙ tell));
    balanced = λ go. stopped_balanced name p own rs f h (ap (λ (g : BatchFault). is_fatal (reply.Refused (batch_refusal name g))) lacks.1);
  }

  -- an index that wasn't built
  not_active : (x : Statement) (n : ℕ) (t : TableId) (i : IndexId) (own rest : List Act) (f : BuildFault) (a : Reply) → IsBalanced own → building.IsBuildOutcome sound n t i rest k (Err f) → (a ≡ not_built x f) ⊎ (a ≡ reply.Refused refusal.Memory) → IsFair sound k own a
  unfolding Told
  not_active x n t i own rest f a balanced o (inl says) = record { told = λ whole tell. refused_told sound k n t.0 i.0 x f o.0 whole (sym (ap (refused_by is_of_disk) says) ∙ tell); balanced = λ go. balanced }
  not_active x n t i own rest f a balanced o (inr says) = record { told = λ whole tell. absurd (false≢true (sym (ap (refused_by is_of_disk) says) ∙ tell)); balanced = λ go. balanced }

  -- a commit that was refused
  commit_told : (name : List ℕ) (h : HeldData) (f : BatchFault) → commits.CommitFaultIs sound h f k → Told (reply.Refused (batch_refusal name f))
  unfolding Told
  commit_told name h unmade.NoTable is whole tell = absurd (false≢true tell)
  commit_told name h (unmade.Limit which count) is whole tell = absurd (false≢true tell)
  commit_told name h unmade.ReadFault is whole tell = told_by k.seat (Missed is.0) k.seen refl is.1
  commit_told name h unmade.WriteFault is whole tell = told_by k.seat (Shut is.0) k.seen refl is.1
  commit_told name h (unmade.Damaged file place) is whole tell = absurd (whole file place is)
  commit_told name h (unmade.Closed call) is whole tell = closed_by call k.seen is
  commit_told name h unmade.Memory is whole tell = absurd (false≢true tell)

  not_committed : (h : HeldData) (f : BatchFault) (own : List Act) (a : Reply) → commits.IsCommitOutcome sound h own k (Err f) → right.StopsDelete a h.name f → IsFair sound k own a
  unfolding Told
  not_committed h f own a o (inl says) = record {
    told = λ whole tell. commit_told h.name h f o.0 whole (sym (ap (refused_by is_of_disk) says) ∙ tell);
    balanced = λ go. batch_balanced h.name h.table h.changes f own o.1 (sym (ap is_fatal says) ∙ go);
  }
  not_committed h f own a o (inr lacks) = record {
    told = λ whole tell. absurd (false≢true (sym (ap (refused_by is_of_disk) lacks.0) ∙ tell));
    balanced = λ go. batch_balanced h.name h.table h.changes f own o.1 (ap (λ (g : BatchFault). is_fatal (reply.Refused (batch_refusal h.name g))) lacks.1);
  }

  -- a table that wasn't counted
  count_told : (n : ℕ) (name : List ℕ) (f : CountFault) → counts.CountFaultIs sound n name f k → Told (reply.Refused (right.count_refusal name f))
  unfolding Told
  count_told n name uncounted.NoTable is whole tell = absurd (false≢true tell)
  count_told n name uncounted.ReadFault is whole tell = told_by k.seat (Missed is.0) k.seen refl is.1
  count_told n name (uncounted.Damaged file place) is whole tell = absurd (whole file place is)
  count_told n name (uncounted.Closed call) is whole tell = closed_by call k.seen is
  count_told n name uncounted.Memory is whole tell = absurd (false≢true tell)

  not_counted : (n : ℕ) (name : List ℕ) (f : CountFault) (own : List Act) (a : Reply) → counts.CountFaultIs sound n name f k → own ≡ [] → (a ≡ reply.Refused (right.count_refusal name f)) ⊎ (a ≡ reply.Refused refusal.Memory) → IsFair sound k own a
  unfolding Told
  not_counted n name f own a is none (inl says) = idle own a (reply.Refused (right.count_refusal name f)) none says (count_told n name f is)
  not_counted n name f own a is none (inr says) = still own a (reply.Refused refusal.Memory) none says refl

  -- an order that isn't done
  order_told : (f : OrderFault) → orders.OrderFaultIs sound f k → Told (reply.Refused (right.order_refusal f))
  unfolding Told
  order_told undone_by.ReadFault is whole tell = told_by k.seat (Missed is.0) k.seen refl is.1
  order_told undone_by.WriteFault is whole tell = told_by k.seat (Shut is.0) k.seen refl is.1
  order_told (undone_by.Damaged file place) is whole tell = absurd (whole file place is)
  order_told (undone_by.Closed call) is whole tell = closed_by call k.seen is
  order_told undone_by.Memory is whole tell = absurd (false≢true tell)

  -- each form of answer
  pub fair : (before : ℕ) (own : List Act) (st : Settings) (p : SeenPiece) (a : Answered) → IsRight sound k before own st p a → IsFair sound k own a.reply
  unfolding Told
  fair before own st p a (right.is_at_once once none) = still own a.reply a.reply none refl (at_once_quiet st p a once)
  fair before own st p a (right.is_unfound x read may lacking says none) = still own a.reply (table_absent x) none says.0 (absent_quiet x)
  fair before own st p a (right.is_closed x call read closed says none) = idle own a.reply (reply.Refused (refusal.Closed call)) none says.0 (λ whole tell. closed_by call k.seen closed)
  fair before own st p a (right.is_wrong x f fault read may bound first says none) = still own a.reply (reply.Refused (bind_refusal fault)) none says.0 (bind_quiet fault)
  fair before own st p a (right.is_held u f st' read scn off bound fits holding says none) = still own a.reply (reply.Count 1 Held) none says.0 refl
  fair before own st p a (right.is_full u f read scn off bound fits full says none) = still own a.reply (reply.Refused (refusal.Limit Rows)) none says.0 refl
  fair before own st p a (right.is_committed again h rs held asks outcome says) = did own _ a.reply (reply.Count _ Affected) outcome.2.one (balanced-batch h.table outcome.0.stamp h.changes) says.0 refl
  fair before own st p a (right.is_not_committed again h fault held asks outcome since stops says) = not_committed h fault own a.reply outcome stops
  fair before own st p a (right.is_counted name s read outcome says none) = still own a.reply (reply.Status s) none says.0 refl
  fair before own st p a (right.is_not_counted name fault read outcome since says none) = not_counted a.first name fault own a.reply outcome none (⊎_elim (λ is. inl is.0) (λ is. inr is.0) says)
  fair before own st p a (right.is_ordered job read running says none) = still own a.reply (right.order_reply job) none says.0 (order_quiet job)
  fair before own st p a (right.is_not_ordered job fault read is since says none) = idle own a.reply (reply.Refused (right.order_refusal fault)) none says.0 (order_told fault is)
  fair before own st p a (right.is_changed u f r read scn on bound fits ended says) = did own _ a.reply (reply.Count 1 Affected) ended.one (balanced-batch f.table.id r.stamp (one_change f u)) says.0 refl
  fair before own st p a (right.is_not_changed u f fault read scn on bound fits is since left says) = record {
    told = λ whole tell. batch_told u.table f.table.id (one_change f u) fault is whole (sym (ap (refused_by is_of_disk) says.0) ∙ tell);
    balanced = λ go. batch_balanced u.table f.table.id (one_change f u) fault own left (sym (ap is_fatal says.0) ∙ go);
  }
  fair before own st p a (right.is_defined x f m e read scn bound fits is none made says) = did own _ a.reply (reply.Defined (definition_word x)) made.one (balanced-definition e m) says.0 refl
  fair before own st p a (right.is_not_defined x f fault e read scn bound fits is why since none says) = idle own a.reply (undefined x fault) none says.0 (define_told e x fault why)
  fair before own st p a (right.is_created t m read one scn fits made says) = did own _ a.reply (reply.Defined defined.TableCreated) made.one (balanced-definition (d.Table (new_table t)) m) says.0 refl
  fair before own st p a (right.is_not_created t fault read one scn fits why since none says) = idle own a.reply (undefined (s.CreateTable t) fault) none says.0 (define_told (d.Table (new_table t)) (s.CreateTable t) fault why)
  fair before own st p a (right.is_index_built x f e t m c rest read scn bound fits is builds behind built asked says) =
      did own own a.reply (reply.Defined (definition_word x)) refl
      (behind_balanced a.first e m own rest k behind (tries_balanced t (index_id_made m) _ rest built.1 (balanced-within t c.stamp true _ (balanced-state t (index_id_made m) Active c.stamp)))) says.0 refl
  fair before own st p a (right.is_index_not_built x f e t m rest fault read scn bound fits is builds behind built says) =
      not_active x m.at t (index_id_made m) own rest fault a.reply (behind_balanced a.first e m own rest k behind (tried_balanced t (index_id_made m) rest built.1)) built (⊎_elim (λ is. inl is.0) (λ is. inr is.0) says)
  fair before own st p a (right.is_index_absent i f read scn bound exists absent says none) = still own a.reply (reply.Defined defined.IndexAbsent) none says.0 refl
  fair before own st p a (right.is_selected q f x r read bound asked outcome shows) = did own _ a.reply (reply.Rows r.shown.rows) outcome.1 (balanced-point _ _ _) shows.rows refl
  fair before own st p a (right.is_not_selected q f x fault read bound asked outcome since says) =
      not_selected q.table (query_of x) st.scn fault own a.reply outcome.0 outcome.1 (⊎_elim (λ is. inl is.0) (λ is. inr is.0) says)
  fair before own st p a (right.is_deleted x f m read scn on bound fits h first says) =
      did own _ a.reply (reply.Count m.rows Affected) h.own_is
      (balanced-append h.finding h.making (found_balanced sound (right.deletion_query f x) k m.first h.finding h.changes h.found) (made_balanced sound k f.table.id h.parts a.receipts h.making h.made)) says.0 refl
  fair before own st p a (right.is_not_deleted x f fault read scn on bound fits h since stops says) = not_deleted x.table (right.deletion_query f x) own a.receipts fault a.reply h stops
  fair before own st p a (right.is_not_found x f fault read scn bound fits outcome since says) =
      not_selected x.table (query_of (right.deletion_query f x)) None fault own a.reply outcome.0 outcome.1 (⊎_elim (λ is. inl is.0) (λ is. inr is.0) says)
  fair before own st p a (right.are_held x f first cs st' read scn off bound fits found from holding says) =
      did own own a.reply (reply.Count _ Held) refl (found_balanced sound (right.deletion_query f x) k first own cs found) says.0 refl
  fair before own st p a (right.are_too_many x f first cs read scn off bound fits found from many says) =
      did own own a.reply (reply.Refused (refusal.Limit Rows)) refl (found_balanced sound (right.deletion_query f x) k first own cs found) says.0 refl
  fair before own st p a (right.is_explained q f x read bound planned says none) = still own a.reply (reply.Explained (explained x)) none says.0 refl
  fair before own st p a (right.is_not_explained q f read bound planned says none) = still own a.reply (reply.Refused refusal.IndexJoin) none says.0 refl
