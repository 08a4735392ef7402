-- How a DELETE goes on whose removals are held.
use Rattle.std.proofs.Common.{ℕ, ◌≡◌, ◌≤◌, Option, None, Result, Ok, Err, List, ◌++◌, length, refl, sym, ◌∙◌, ap, subst, arith, ◌⊎◌, inl, inr, ⊎_elim}
use Rattle.px_lex.specs.Script.{seen_piece}
use Rattle.px_ast.specs.declared.statement.Statement.{Statement}
use Rattle.px_ast.specs.declared.statement.Statement.TheVariants as s
use Rattle.px_values.specs.declared.change.Change.{Change}
use Rattle.px_tables.specs.declared.table.Table.{Table}
use Rattle.px_trail.specs.declared.entry.Act.{Act}
use Rattle.px_calls.specs.Known.{Known, Ran, outline}
use Rattle.px_planned.specs.Queries.{query_of}
use Rattle.px_planned.specs.declared.planned.Planned.{Planned}
use Rattle.px_scan.specs.Turns as scan
use Rattle.px_scan.proofs.Quieting.{device-since}
use Rattle.px_scan.specs.declared.answer.QueryFault.{QueryFault}
use Rattle.px_scan.specs.declared.answer.QueryFault.TheVariants as unread
use Rattle.px_scan.specs.declared.machine.QueryState.{QueryState}
use Rattle.px_select.specs.Selecting as selecting
use Rattle.px_select.specs.Selecting.{SelectTurns}
use Rattle.px_select.specs.declared.run.SelectRun.{SelectRun}
use Rattle.px_select.specs.declared.run.SelectTurn.TheVariants as ended
use Rattle.px_select.specs.declared.run.Selected.{Selected}
use Rattle.px_removals.specs.Removals.{AreRemovals}
use Rattle.px_deleting.specs.Deleting as deleting
use Rattle.px_deleting.proofs.Past.{was-now}
use Rattle.px_reply.specs.declared.refusal.Refusal.TheVariants as refusal
use Rattle.px_item.specs.declared.answered.Answered.{Answered}
use Rattle.px_item.specs.declared.answered.Asked.{Asked}
use Rattle.px_item.specs.declared.item.ItemState.TheVariants as state
use Rattle.px_item.specs.declared.item.ItemTurn.TheVariants as turn
use Rattle.px_item.specs.Right as right
use Rattle.px_item.specs.Right.{IsBoundTo, IsOfNoOther, IsReadItem, IsRight, changes, deletion_query, plain, table_named}
use Rattle.px_item.specs.Seeking.{IsSought, KeepsFound, KeepsRows}
use Rattle.px_item.specs.Turns.{FitsItem, IsSeeking, ItemTurns}
use Rattle.px_item.proofs.Passing.{Later, and_then, bound_later, first_low, first_within, longer, of_ran}
use Rattle.px_item.proofs.Plain.{found_plain, outcome_plain, query_since_plain}

-- the table of the query is the one that was found
table_is : (sound : Type 0) (asked : Asked) (x : Statement) (run : SelectRun) (k : Known) (t : Table) → (j : IsSeeking sound asked x run k) → t ≡ run.scan.query.table → j.found.table ≡ t
table_is sound asked x run k t j of = sym (of ∙ ap (λ (p : Planned). p.table) j.planned)

pub few_columns : (sound : Type 0) (asked : Asked) (x : Statement) (run : SelectRun) (k : Known) (t : Table) → IsSeeking sound asked x run k → t ≡ run.scan.query.table → length t.columns ≤ 255
few_columns sound asked x run k t j of = subst (λ (y : Table). length y.columns ≤ 255) (table_is sound asked x run k t j of) j.places

pub no_other : (sound : Type 0) (asked : Asked) (x : Statement) (run : SelectRun) (k : Known) (t : Table) → IsSeeking sound asked x run k → t ≡ run.scan.query.table → IsOfNoOther asked.settings.held t.id
no_other sound asked x run k t j of = subst (λ (y : Table). IsOfNoOther asked.settings.held y.id) (table_is sound asked x run k t j of) j.other

-- `mine` is what was done for the item so far
module _ (sound : Type 0) (before : ℕ) (asked : Asked) (mine : List Act) where
  pub seek_goes_on : (x : Statement) (old new : SelectRun) (k k' : Known) (acts : List Act) → FitsItem sound before asked mine (state.Seeking x old) k → new.scan.query ≡ old.scan.query → new.scan.scn ≡ old.scan.scn → Ran k k' acts
      → scan.FitsScan sound (query_of old.scan.query) old.scan.scn new.scan.state k' → scan.IsQueryGoing new.scan.state → scan.IsQuerySince asked.first new.scan.state k' → scan.opened_by_query old.scan.state ++ outline acts ≡ scan.opened_by_query new.scan.state
      → FitsItem sound before asked (mine ++ outline acts) (state.Seeking x new) k'
  seek_goes_on x old new k k' acts f query scn ran fits going since sum =
      let later = of_ran k k' acts ran in
      let j = f.state.1 in
      let F : Planned × Option ℕ → Type 0 = λ q. scan.FitsScan sound (query_of q.0) q.1 new.scan.state k' in
      record {
        begins = f.begins;
        within = longer k k' asked.first later f.within;
        state = (
          f.state.0,
          record {
            delete = j.delete;
            is = j.is;
            off = j.off;
            found = j.found;
            bound = bound_later k k' asked.first j.found j.delete.table later j.bound;
            right = j.right;
            places = j.places;
            other = j.other;
            planned = query ∙ j.planned;
            scn = scn ∙ j.scn;
            fits = subst F (λ i. (sym query i, sym scn i)) fits;
            going = going;
            since = since;
          },
        );
        done = and_then mine (scan.opened_by_query old.scan.state) acts f.done ∙ sum;
      }

  -- what the search of a DELETE came to
  module _ (x : Statement) (run : SelectRun) (k k' : Known) (j : IsSeeking sound asked x run k) (later : Later k k') (read : IsReadItem (seen_piece asked.piece) (Ok x)) (free : asked.settings.scn ≡ None) (own : List Act) (a : Answered) (first : a.first ≡ asked.first) where
    is_read : IsReadItem (seen_piece asked.piece) (Ok (s.Delete j.delete))
    is_read = subst (λ (y : Statement). IsReadItem (seen_piece asked.piece) (Ok y)) j.is read

    bound : IsBoundTo k'.base k'.seen a.first j.found j.delete.table
    bound = subst (λ (n : ℕ). IsBoundTo k'.base k'.seen n j.found j.delete.table) (sym first) (bound_later k k' asked.first j.found j.delete.table later j.bound)

    unread_told : (e : QueryFault) → selecting.IsSelectOutcome sound (deletion_query j.found j.delete) None own k' (Err e) → Rattle.px_scan.specs.Faults.QueryFaultSince asked.first e k' → right.SaysRefused a (right.query_refusal j.delete.table e) asked.settings ⊎ right.SaysRefused a refusal.Memory asked.settings
        → IsRight sound (plain k') before own asked.settings (seen_piece asked.piece) a
    unread_told e out since says =
        right.is_not_found j.delete j.found e is_read free bound j.right (outcome_plain sound (deletion_query j.found j.delete) None own k' (Err e) out) (subst (λ (n : ℕ). Rattle.px_scan.specs.Faults.QueryFaultSince n e (plain k')) (sym first) (query_since_plain asked.first e k' since)) says

    lacks_told : (r : Selected) → selecting.IsSelectOutcome sound (deletion_query j.found j.delete) None own k' (Ok r) → right.SaysRefused a refusal.Memory asked.settings → IsRight sound (plain k') before own asked.settings (seen_piece asked.piece) a
    lacks_told r out says = unread_told unread.Memory (tt, inr (_, _, out.1)) tt (inr says)

    keeps_told : (r : Selected) (cs : List Change) → selecting.IsSelectOutcome sound (deletion_query j.found j.delete) None own k' (Ok r) → asked.first ≤ r.first → AreRemovals j.found.table.key r.shown.rows cs → KeepsRows asked j.found.table cs a → IsRight sound (plain k') before own asked.settings (seen_piece asked.piece) a
    keeps_told r cs out since rows keeps =
        let here : deleting.HasFoundRows sound (deletion_query j.found j.delete) k' r.first own cs = record { past = k'; was = was-now k'; answer = r; opened = refl; outcome = out; removals = rows } in
        let found = found_plain sound (deletion_query j.found j.delete) k' r.first own cs here in
        let e = first in let from : a.first ≤ r.first = omega arith in
        ⊎_elim
        (λ lacks. lacks_told r out lacks)
        (λ more. ⊎_elim
        (λ held. right.are_held j.delete j.found r.first cs held.0 is_read free j.off bound j.right found from held.1 held.2)
        (λ full. right.are_too_many j.delete j.found r.first cs is_read free j.off bound j.right found from full.0 full.1) more) keeps.1

    found_told : (r : Selected) → selecting.IsSelectOutcome sound (deletion_query j.found j.delete) None own k' (Ok r) → asked.first ≤ r.first → KeepsFound asked j.found.table r a → IsRight sound (plain k') before own asked.settings (seen_piece asked.piece) a
    found_told r out since (inl lacks) = lacks_told r out lacks.1
    found_told r out since (inr keeps) = keeps_told r keeps.0 out since keeps.1 keeps.2

  -- what the search came to, as the query of the DELETE
  came_to : (x : Statement) (run : SelectRun) (k k' : Known) (acts : List Act) (r : Result Selected QueryFault) → (j : IsSeeking sound asked x run k) → mine ≡ scan.opened_by_query run.scan.state
      → selecting.IsSelectOutcome sound run.scan.query run.scan.scn (scan.opened_by_query run.scan.state ++ outline acts) k' r → selecting.IsSelectOutcome sound (deletion_query j.found j.delete) None (mine ++ outline acts) k' r
  came_to x run k k' acts r j done out =
      let F : Planned × Option ℕ × List Act → Type 0 = λ q. selecting.IsSelectOutcome sound q.0 q.1 q.2 k' r in
      subst F (λ i. (j.planned i, j.scn i, sym (and_then mine (scan.opened_by_query run.scan.state) acts done) i)) out

  sought_first : (x : Statement) (t : Table) (r : Result Selected QueryFault) (a : Answered) → IsSought asked x t r a → a.first ≡ asked.first
  sought_first x t (Ok r) a (inl c) = c.0
  sought_first x t (Ok r) a (inr c) = c.2.0
  sought_first x t (Err e) a c = c.0

  sought_told : (x : Statement) (run : SelectRun) (k k' : Known) (t : Table) (own : List Act) (r : Result Selected QueryFault) (new : QueryState) (a : Answered) → (j : IsSeeking sound asked x run k) → Later k k' → IsReadItem (seen_piece asked.piece) (Ok x) → asked.settings.scn ≡ None
      → selecting.IsSelectOutcome sound (deletion_query j.found j.delete) None own k' r → selecting.IsSelectSinceThen asked.first run.scan.query run.scan.scn new k' (ended.Over r) → t ≡ run.scan.query.table → (c : IsSought asked x t r a) → IsRight sound (plain k') before own asked.settings (seen_piece asked.piece) a
  sought_told x run k k' t own (Ok r) new a j later read free out since of c =
      let same = table_is sound asked x run k t j of in
      found_told x run k k' j later read free own a (sought_first x t (Ok r) a c) r out since (subst (λ (y : Table). KeepsFound asked y r a) (sym same) c)
  sought_told x run k k' t own (Err e) new a j later read free out since of c =
      let F : Statement → Type 0 = λ y. right.SaysRefused a (right.query_refusal (table_named y) e) asked.settings ⊎ right.SaysRefused a refusal.Memory asked.settings in
      unread_told x run k k' j later read free own a c.0 e out (device-since asked.first (query_of run.scan.query) run.scan.scn e k' since) (subst F j.is c.1)

  pub seek_is_over : (x : Statement) (old new : SelectRun) (k k' : Known) (t : Table) (r : Result Selected QueryFault) (a : Answered) → FitsItem sound before asked mine (state.Seeking x old) k
      → SelectTurns sound old.scan.query old.scan.scn old.scan.state k new.scan.state k' (ended.Over r) → t ≡ old.scan.query.table → IsSought asked x t r a → ItemTurns sound before asked mine k k' (turn.Over a)
  seek_is_over x old new k k' t r a f turns of c =
      let j = f.state.1 in
      let later = of_ran k k' turns.acts turns.ran in
      let first = sought_first x t r a c in
      let out = came_to x old k k' turns.acts r j f.done turns.told.1 in
      record {
        acts = turns.acts;
        ran = turns.ran;
        told = (
          first_low asked a first,
          first_within asked k' a (longer k k' asked.first later f.within) first,
          sought_told x old k k' t (mine ++ outline turns.acts) r new.scan.state a j later f.state.0.read (f.state.0.free (ap changes j.is)) out (turns.since asked.first j.since) of c,
        );
      }
