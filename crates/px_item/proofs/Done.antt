-- An order is told to be done only where one was asked for.
use Rattle.std.proofs.Common.{ℕ, ◌≡◌, if◌then◌else◌, Bool, true, false, List, ◌∷◌, Ok, Err, Result, refl, sym, ◌∙◌, ap, subst, inl, inr, ⊎_elim}
use Rattle.std.proofs.lemmas.Bool.{false≢true}
use Rattle.px_lex.specs.Lexemes.{IsTextReading, Lexeme, before_fault, fault_from, tokens_from}
use Rattle.px_lex.specs.Script.{SeenPiece, seen_piece}
use Rattle.px_lex.proofs.Readings.{same_reading}
use Rattle.px_ast.specs.declared.statement.Statement.{Statement}
use Rattle.px_ast.specs.declared.statement.Statement.TheVariants as s
use Rattle.px_commands.specs.Commands as said
use Rattle.px_commands.specs.declared.command.Command.{Command}
use Rattle.px_commands.specs.declared.command.Command.TheVariants as commands
use Rattle.px_commands.specs.declared.command.CommandFault.{CommandFault}
use Rattle.px_trail.specs.declared.entry.Act.{Act}
use Rattle.px_calls.specs.declared.status.Ordered.{Ordered}
use Rattle.px_calls.specs.declared.status.Ordered.TheVariants as jobs
use Rattle.px_calls.specs.Known.{Known}
use Rattle.px_defining.specs.declared.define.DefineFault.{DefineFault}
use Rattle.px_defining.specs.declared.define.DefineFault.TheVariants as undone
use Rattle.px_upkeep.specs.declared.build.BuildFault.{BuildFault}
use Rattle.px_upkeep.specs.declared.build.BuildFault.TheVariants as unbuilt
use Rattle.px_reply.specs.declared.reply.Reply.{Reply}
use Rattle.px_reply.specs.declared.reply.Reply.TheVariants as reply
use Rattle.px_commanding.specs.Orders as orders
use Rattle.px_commanding.specs.declared.order.OrderFault.{OrderFault}
use Rattle.px_commanding.specs.declared.order.OrderRun.{OrderRun}
use Rattle.px_commanding.specs.declared.order.OrderRun.TheVariants as run
use Rattle.px_commanding.specs.declared.order.OrderTurn.TheVariants as ot
use Rattle.px_item.specs.declared.answered.Answered.{Answered}
use Rattle.px_item.specs.declared.answered.Asked.{Asked}
use Rattle.px_item.specs.declared.answered.Settings.{Settings}
use Rattle.px_item.specs.declared.item.ItemState.{ItemState}
use Rattle.px_item.specs.declared.item.ItemState.TheVariants as state
use Rattle.px_item.specs.declared.item.ItemTurn.{ItemTurn}
use Rattle.px_item.specs.declared.item.ItemTurn.TheVariants as turn
use Rattle.px_item.specs.Right as right
use Rattle.px_item.specs.Right.{AsksToCommit, IsAtOnce, IsCommandRead, IsReadItem, IsRight, SaysOf, command_ordering, IsOrdered, index_absent, name_taken, not_built, order_reply, table_absent, undefined}
use Rattle.px_item.specs.Turns.{FitsItem, FitsState, ItemTurns, TellsDone}

-- 1. Replies

abbrev pub is_order : Reply → Bool
is_order reply.Flushed = true
is_order reply.Compacted = true
is_order r = false

order_is : (job : Ordered) → is_order (order_reply job) ≡ true
order_is jobs.FlushAll = refl
order_is jobs.CompactAll = refl

-- what is told of one job isn't told of another
one_job : (job job' : Ordered) → order_reply job ≡ order_reply job' → job ≡ job'
one_job jobs.FlushAll jobs.FlushAll e = refl
one_job jobs.FlushAll jobs.CompactAll e = absurd (let z : ◌≡◌ {A = Reply} reply.Flushed reply.Compacted = e in cc)
one_job jobs.CompactAll jobs.FlushAll e = absurd (let z : ◌≡◌ {A = Reply} reply.Compacted reply.Flushed = e in cc)
one_job jobs.CompactAll jobs.CompactAll e = refl

either : (b : Bool) (x y : Reply) → is_order x ≡ false → is_order y ≡ false → is_order (if b then x else y) ≡ false
either true x y a c = a
either false x y a c = c

table_other : (x : Statement) → is_order (table_absent x) ≡ false
table_other (s.DropTable t) = either t.if_exists _ _ refl refl
table_other x = refl

index_other : (x : Statement) → is_order (index_absent x) ≡ false
index_other (s.DropIndex i) = either i.if_exists _ _ refl refl
index_other (s.CreateIndex i) = refl
index_other (s.AlterIndex i) = refl
index_other x = refl

name_other : (x : Statement) → is_order (name_taken x) ≡ false
name_other (s.CreateTable t) = either t.if_not_exists _ _ refl refl
name_other (s.CreateIndex i) = either i.if_not_exists _ _ refl refl
name_other x = refl

undefined_other : (x : Statement) (f : DefineFault) → is_order (undefined x f) ≡ false
undefined_other x undone.NameExists = name_other x
undefined_other x undone.NoTable = table_other x
undefined_other x undone.NoIndex = index_other x
undefined_other x (undone.Limit which count) = refl
undefined_other x undone.ReadFault = refl
undefined_other x undone.WriteFault = refl
undefined_other x (undone.Damaged file place) = refl
undefined_other x (undone.Closed call) = refl
undefined_other x undone.Memory = refl

unbuilt_other : (x : Statement) (f : BuildFault) → is_order (not_built x f) ≡ false
unbuilt_other x unbuilt.NoTable = table_other x
unbuilt_other x unbuilt.NoIndex = index_other x
unbuilt_other x (unbuilt.Limit which count) = refl
unbuilt_other x (unbuilt.BelowHorizon h) = refl
unbuilt_other x unbuilt.ReadFault = refl
unbuilt_other x unbuilt.WriteFault = refl
unbuilt_other x (unbuilt.Damaged file place) = refl
unbuilt_other x (unbuilt.Closed call) = refl
unbuilt_other x unbuilt.Memory = refl

-- 2. An answer that tells so is one to an order

module _ (a : Answered) (tells : is_order a.reply ≡ true) where
  not_it : (r : Reply) → a.reply ≡ r → is_order r ≡ false → ⊥
  not_it r is other = false≢true (sym (ap is_order is ∙ other) ∙ tells)

  not_said : (st : Settings) (c : Command) → SaysOf st c a → ⊥
  not_said st (commands.Scn n) says = not_it _ says.0 refl
  not_said st (commands.Autocommit true) says = not_it _ says.1.0 refl
  not_said st (commands.Autocommit false) says = not_it _ says.0 refl
  not_said st commands.Commit says = not_it _ says.1.0 refl
  not_said st c says = says

  not_at_once : (st : Settings) (p : SeenPiece) → IsAtOnce st p a → ⊥
  not_at_once st p (right.is_long kind long says) = not_it _ says.0 refl
  not_at_once st p (right.is_not_read e read says) = not_it _ says.0 refl
  not_at_once st p (right.is_not_built x read built says) = not_it _ says.0 refl
  not_at_once st p (right.is_under_scn x read may scn says) = not_it _ says.0 refl
  not_at_once st p (right.is_wrong_table t fault read whole scn first says) = not_it _ says.0 refl
  not_at_once st p (right.is_no_command e read says) = not_it _ says.0 refl
  not_at_once st p (right.is_command c read says) = not_said st c says
  not_at_once st p (right.is_lacking says) = not_it _ says.0 refl

  not_stopped : (name : List ℕ) (f : _) → right.StopsDelete a.reply name f → ⊥
  not_stopped name f (inl is) = not_it _ is refl
  not_stopped name f (inr is) = not_it _ is.0 refl

  pub ordered_only : (sound : Type 0) (k : Known) (before : ℕ) (own : List Act) (st : Settings) (p : SeenPiece) → IsRight sound k before own st p a → (job : Ordered) × IsCommandRead p (Ok (command_ordering job))
  ordered_only sound k before own st p (right.is_ordered job read running says none) = (job, read)
  ordered_only sound k before own st p (right.is_not_ordered job fault read is since says none) = (job, read)
  ordered_only sound k before own st p (right.is_at_once once none) = absurd (not_at_once st p once)
  ordered_only sound k before own st p (right.is_unfound x read may lacking says none) = absurd (not_it _ says.0 (table_other x))
  ordered_only sound k before own st p (right.is_closed x call read closed says none) = absurd (not_it _ says.0 refl)
  ordered_only sound k before own st p (right.is_wrong x f fault read may bound first says none) = absurd (not_it _ says.0 refl)
  ordered_only sound k before own st p (right.is_changed u f r read scn on bound fits ended says) = absurd (not_it _ says.0 refl)
  ordered_only sound k before own st p (right.is_not_changed u f fault read scn on bound fits is since left says) = absurd (not_it _ says.0 refl)
  ordered_only sound k before own st p (right.is_held u f s read scn off bound fits holding says none) = absurd (not_it _ says.0 refl)
  ordered_only sound k before own st p (right.is_full u f read scn off bound fits full says none) = absurd (not_it _ says.0 refl)
  ordered_only sound k before own st p (right.is_committed again h rs held asks outcome says) = absurd (not_it _ says.0 refl)
  ordered_only sound k before own st p (right.is_not_committed again h fault held asks outcome since stops says) = absurd (not_stopped h.name fault stops)
  ordered_only sound k before own st p (right.is_counted name s read outcome says none) = absurd (not_it _ says.0 refl)
  ordered_only sound k before own st p (right.is_not_counted name fault read outcome since says none) = absurd (⊎_elim (λ is. not_it _ is.0 refl) (λ is. not_it _ is.0 refl) says)
  ordered_only sound k before own st p (right.is_defined x f m e read scn bound fits is none made says) = absurd (not_it _ says.0 refl)
  ordered_only sound k before own st p (right.is_not_defined x f fault e read scn bound fits is why since none says) = absurd (not_it _ says.0 (undefined_other x fault))
  ordered_only sound k before own st p (right.is_created t m read one scn fits made says) = absurd (not_it _ says.0 refl)
  ordered_only sound k before own st p (right.is_not_created t fault read one scn fits why since none says) = absurd (not_it _ says.0 (undefined_other (s.CreateTable t) fault))
  ordered_only sound k before own st p (right.is_index_built x f e t m c rest read scn bound fits is builds behind built asked says) = absurd (not_it _ says.0 refl)
  ordered_only sound k before own st p (right.is_index_not_built x f e t m rest fault read scn bound fits is builds behind built says) = absurd (⊎_elim (λ is. not_it _ is.0 (unbuilt_other x fault)) (λ is. not_it _ is.0 refl) says)
  ordered_only sound k before own st p (right.is_index_absent i f read scn bound exists absent says none) = absurd (not_it _ says.0 refl)
  ordered_only sound k before own st p (right.is_selected q f x r read bound asked outcome shows) = absurd (not_it _ shows.rows refl)
  ordered_only sound k before own st p (right.is_not_selected q f x fault read bound asked outcome since says) = absurd (⊎_elim (λ is. not_it _ is.0 refl) (λ is. not_it _ is.0 refl) says)
  ordered_only sound k before own st p (right.is_deleted x f m read scn on bound fits h first says) = absurd (not_it _ says.0 refl)
  ordered_only sound k before own st p (right.is_not_deleted x f fault read scn on bound fits h since stops says) = absurd (not_stopped x.table fault stops)
  ordered_only sound k before own st p (right.is_not_found x f fault read scn bound fits outcome since says) = absurd (⊎_elim (λ is. not_it _ is.0 refl) (λ is. not_it _ is.0 refl) says)
  ordered_only sound k before own st p (right.are_held x f first cs s read scn off bound fits found from holding says) = absurd (not_it _ says.0 refl)
  ordered_only sound k before own st p (right.are_too_many x f first cs read scn off bound fits found from many says) = absurd (not_it _ says.0 refl)
  ordered_only sound k before own st p (right.is_explained q f x read bound planned says none) = absurd (not_it _ says.0 refl)
  ordered_only sound k before own st p (right.is_not_explained q f read bound planned says none) = absurd (not_it _ says.0 refl)

-- 3. A piece is one command at most

rest_same : (x : ℕ) (t u : List ℕ) → x ∷ t ≡ x ∷ u → t ≡ u
rest_same x t u e = cc

ok_same : (c d : Command) (r : Result Command CommandFault) → r ≡ Ok c → r ≡ Ok d → c ≡ d
ok_same c d r e f = (let g = sym e ∙ f in cc)

answer_is : (c : Command) (text : List ℕ) (xs : List Lexeme) → said.AnswersCommand text xs (Ok c) → said.answer (fault_from 0 xs) (tokens_from 0 (before_fault xs)) (said.end_of text (fault_from 0 xs)) ≡ Ok c
answer_is c text xs (inl e) = sym e
answer_is c text xs (inr e) = cc

one_command : (p : SeenPiece) (c d : Command) → IsCommandRead p (Ok c) → IsCommandRead p (Ok d) → c ≡ d
one_command p c d r q =
    let text : r.1.0 ≡ q.1.0 = rest_same 33 r.1.0 q.1.0 (sym r.1.1 ∙ q.1.1) in
    let reading = subst (λ (t : List ℕ). IsTextReading t r.1.2.0) text r.1.2.1 in
    let same : r.1.2.0 ≡ q.1.2.0 = same_reading q.1.0 r.1.2.0 q.1.2.0 reading q.1.2.1 in
    let F : List ℕ × List Lexeme → Type 0 = λ z. said.AnswersCommand z.0 z.1 (Ok c) in
    let mine = subst F (λ i. (text i, same i)) r.1.2.2 in
    ok_same c d _ (answer_is c q.1.0 q.1.2.0 mine) (answer_is d q.1.0 q.1.2.0 q.1.2.2)

not_statement : (p : SeenPiece) (c : Command) (x : Statement) → IsReadItem p (Ok x) → IsCommandRead p (Ok c) → ⊥
not_statement p c x r q = (let e = sym r.0 ∙ q.0 in cc)

other_command : (p : SeenPiece) (c : Command) (job : Ordered) → IsCommandRead p (Ok c) → IsCommandRead p (Ok (command_ordering job)) → (c ≡ command_ordering job → ⊥) → ⊥
other_command p c job r q differs = differs (one_command p c (command_ordering job) r q)

no_commit : (job : Ordered) → commands.Commit ≡ command_ordering job → ⊥
no_commit jobs.FlushAll e = cc
no_commit jobs.CompactAll e = cc

no_switch : (job : Ordered) (on : Bool) → commands.Autocommit on ≡ command_ordering job → ⊥
no_switch jobs.FlushAll on e = cc
no_switch jobs.CompactAll on e = cc

no_status : (job : Ordered) (name : List ℕ) → commands.Status name ≡ command_ordering job → ⊥
no_status jobs.FlushAll name e = cc
no_status jobs.CompactAll name e = cc

no_ask : (k : Known) (first : ℕ) (st : Settings) (p : SeenPiece) (h : _) (again : Bool) (job : Ordered) → AsksToCommit k first st p h again → IsCommandRead p (Ok (command_ordering job)) → ⊥
no_ask k first st p h true job (inl r) q = other_command p (commands.Autocommit true) job r q (no_switch job true)
no_ask k first st p h true job (inr m) q = not_statement p (command_ordering job) m.statement m.read q
no_ask k first st p h false job r q = other_command p commands.Commit job r q (no_commit job)

-- 4. Only an order on its way ends so

-- the item is another one
abbrev pub IsOther : ItemState → Type 0
IsOther (state.Ordering run) = ⊥
IsOther st = Unit {0}

module _ (sound : Type 0) (before : ℕ) (asked : Asked) (own : List Act) where
  no_order : (st : ItemState) (k : Known) → IsOther st → FitsState sound before asked own st k → (job : Ordered) → IsCommandRead (seen_piece asked.piece) (Ok (command_ordering job)) → ⊥
  no_order (state.Finding x) k other f job q = not_statement (seen_piece asked.piece) (command_ordering job) x f.read q
  no_order (state.Changing x run room) k other f job q = not_statement (seen_piece asked.piece) (command_ordering job) x f.0.read q
  no_order (state.Defining x run) k other f job q = not_statement (seen_piece asked.piece) (command_ordering job) x f.0.read q
  no_order (state.Building x run) k other f job q = not_statement (seen_piece asked.piece) (command_ordering job) x f.0.read q
  no_order (state.Selecting x run) k other f job q = not_statement (seen_piece asked.piece) (command_ordering job) x f.0.read q
  no_order (state.Deleting x run) k other f job q = not_statement (seen_piece asked.piece) (command_ordering job) x f.0.read q
  no_order (state.Seeking x run) k other f job q = not_statement (seen_piece asked.piece) (command_ordering job) x f.0.read q
  no_order (state.Committing again run) k other f job q = no_ask k asked.first asked.settings (seen_piece asked.piece) f.held again job f.asks q
  no_order (state.Counting name run) k other f job q = other_command (seen_piece asked.piece) (commands.Status name) job f.read q (no_status job name)
  no_order (state.Ordering run) k other f job q = other

  pub not_told : (st : ItemState) (k k' : Known) (t : ItemTurn) → IsOther st → FitsItem sound before asked own st k → ItemTurns sound before asked own k k' t → (job : Ordered) → TellsDone job t → ⊥
  not_told st k k' (turn.Stepped r) other f turns job tells = tells
  not_told st k k' (turn.Waiting r) other f turns job tells = tells
  not_told st k k' (turn.Over a) other f turns job tells =
      let o = ordered_only a (ap is_order tells ∙ order_is job) sound _ before _ asked.settings (seen_piece asked.piece) turns.told.2 in
      no_order st k other f.state o.0 o.1

-- 5. An order on its way is told so where it is done

pub done_then : (asked : Asked) (ordered done : Ordered → Type 0) (r : OrderRun) (came : Result (Unit {0}) OrderFault) (a : Answered) → orders.OrderLeads ordered done r (ot.Over came) → IsOrdered asked (orders.job_of r) came a → (told : Ordered) → TellsDone told (turn.Over a) → done told
done_then asked ordered done (run.Ordering x) (Ok u) a leads is told tells = absurd leads
done_then asked ordered done (run.Working x) (Ok u) a leads is told tells = subst done (one_job x told (sym is.1.0 ∙ tells)) leads
done_then asked ordered done r (Err f) a leads is told tells = absurd (not_it a (ap is_order tells ∙ order_is told) _ is.1.0 refl)
