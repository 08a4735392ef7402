-- An item under others' entries.
use Rattle.std.proofs.Common.{ℕ, ◌≡◌, ◌≤◌, ◌&&◌, not, Bool, true, false, Option, Some, List, [], ◌++◌, length, take, drop, refl, sym, ◌∙◌, ap, subst, arith, length-append, ◌⊎◌, inl, inr}
use Rattle.std.proofs.lemmas.List.{append-nil, drop-append-le, take-append-le}
use Rattle.px_lex.specs.Script.{SeenPiece, seen_piece}
use Rattle.px_ast.specs.declared.statement.Statement.{Statement}
use Rattle.px_ast.specs.declared.statement.Statement.TheVariants as s
use Rattle.px_tables.specs.declared.found.Found.{Found}
use Rattle.px_trail.specs.declared.entry.Act.{Act}
use Rattle.px_trail.specs.declared.entry.Entry.{Entry}
use Rattle.px_trail.specs.Answers.{IsAmong}
use Rattle.px_trail.specs.Trail.{Base, acts_by}
use Rattle.px_calls.specs.declared.definition.Definition.{Definition}
use Rattle.px_calls.specs.declared.definition.Definition.TheVariants as d
use Rattle.px_calls.specs.declared.definition.Made.{Made}
use Rattle.px_calls.specs.Known.{Known, Ran, TimePasses, outline}
use Rattle.px_calls.specs.Calls.{IsFound, index_id_made}
use Rattle.px_calls.specs.Requires.{IsScn}
use Rattle.px_calls.proofs.Runs.{acts_by-append, among-front}
use Rattle.px_batch.specs.Turns as batch
use Rattle.px_batch.specs.declared.batch.BatchFault.{BatchFault}
use Rattle.px_batch.specs.declared.batch.BatchFault.TheVariants as unmade
use Rattle.px_batch.specs.declared.batch.BatchState.{BatchState}
use Rattle.px_batch.specs.declared.batch.BatchState.TheVariants as batches
use Rattle.px_batch.proofs.Turning as turning
use Rattle.px_held.specs.HeldData.{HeldData}
use Rattle.px_commanding.specs.Commits as commits
use Rattle.px_commanding.specs.declared.commit.CommitRun.{CommitRun}
use Rattle.px_commanding.proofs.Committing as commanding
use Rattle.px_commanding.proofs.Counting as numbering
use Rattle.px_defining.specs.Turns as define
use Rattle.px_defining.specs.declared.define.DefineRun.{DefineRun}
use Rattle.px_defining.proofs.Defining as defining
use Rattle.px_item.specs.declared.answered.Answered.{Answered}
use Rattle.px_item.specs.declared.answered.Asked.{Asked}
use Rattle.px_item.specs.declared.answered.Settings.{Settings}
use Rattle.px_item.specs.declared.item.ItemState.{ItemState}
use Rattle.px_item.specs.declared.item.ItemState.TheVariants as state
use Rattle.px_item.specs.Right.{AsksToCommit, IsBoundTo, changes, deletion_query, definition_asked, table_named}
use Rattle.px_item.specs.Turns.{FitsItem, FitsState, IsCreating, IsDefining}
use Rattle.px_upkeep.proofs.Whole as upkeep
use Rattle.px_item.specs.Builds.{IsBuiltBehind, IsNumberOf, StandsAs}
use Rattle.px_gather.specs.Query.{Query}
use Rattle.px_planned.specs.Queries.{query_of}
use Rattle.px_planned.specs.declared.planned.Planned.{Planned}
use Rattle.px_scan.specs.Turns as scan
use Rattle.px_scan.specs.declared.machine.QueryState.{QueryState}
use Rattle.px_scan.specs.declared.machine.QueryState.TheVariants as reading
use Rattle.px_scan.proofs.Turning as scanning
use Rattle.px_deleting.specs.Deleting as deleting
use Rattle.px_deleting.specs.declared.machine.DeleteState.{DeleteState}
use Rattle.px_deleting.specs.declared.machine.DeleteState.TheVariants as deletes
use Rattle.px_deleting.proofs.Whole as removing

-- 1. More entries

pub record Later (k k' : Known) : Type 0 where
  pub more : List Entry
  pub seen : k'.seen ≡ k.seen ++ more
  pub base : k'.base ≡ k.base

pub of_ran : (k k' : Known) (acts : List Act) → Ran k k' acts → Later k k'
of_ran k k' acts h = record { more = h.added; seen = h.seen; base = h.base }

pub of_passes : (k k' : Known) → TimePasses k k' → Later k k'
of_passes k k' h = record { more = h.others; seen = h.seen; base = h.base }

pub longer : (k k' : Known) (n : ℕ) → Later k k' → n ≤ length k.seen → n ≤ length k'.seen
longer k k' n h low = let e = ap length h.seen in let len = length-append k.seen h.more in omega arith

pub bound_later : (k k' : Known) (first : ℕ) (f : Found) (name : List ℕ) → Later k k' → IsBoundTo k.base k.seen first f name → IsBoundTo k'.base k'.seen first f name
bound_later k k' first f name h b =
    let same : take b.place k.seen ≡ take b.place k'.seen = sym (take-append-le b.place k.seen h.more b.within) ∙ ap (take b.place) (sym h.seen) in
    let F : Base × List Entry → Type 0 = λ q. IsFound q.0 q.1 f in
    record { place = b.place; from = b.from; within = longer k k' b.place h b.within; found = subst F (λ i. (sym h.base i, same i)) b.found; named = b.named }

-- 2. A batch under others' entries

since_more : (k k' : Known) (act : Act) (n : ℕ) → TimePasses k k' → n ≤ length k.seen → IsAmong act (acts_by k.seat (drop n k.seen)) → IsAmong act (acts_by k'.seat (drop n k'.seen))
since_more k k' act n h low i =
    let e : acts_by k'.seat (drop n k'.seen) ≡ acts_by k.seat (drop n k.seen) ++ acts_by k.seat h.others =
    ap (λ (m : ℕ). acts_by m (drop n k'.seen)) h.seat
    ∙ (ap (λ (l : List Entry). acts_by k.seat (drop n l)) h.seen ∙ (ap (acts_by k.seat) (drop-append-le n k.seen h.others low) ∙ acts_by-append k.seat (drop n k.seen) h.others)) in
    subst (λ (l : List Act). IsAmong act l) (sym e) (among-front act (acts_by k.seat (drop n k.seen)) (acts_by k.seat h.others) i)

made_more : (k k' : Known) (f : BatchFault) (n : ℕ) → TimePasses k k' → n ≤ length k.seen → batch.BatchFaultSince n f k → batch.BatchFaultSince n f k'
made_more k k' unmade.ReadFault n h low m = (m.0, since_more k k' _ n h low m.1)
made_more k k' unmade.WriteFault n h low m = (m.0, since_more k k' _ n h low m.1)
made_more k k' f n h low m = tt

pub since_passes : (k k' : Known) (st : BatchState) (n : ℕ) → TimePasses k k' → batch.IsBatchSince n st k → batch.IsBatchSince n st k'
since_passes k k' batches.Beginning n h i = longer k k' n (of_passes k k' h) i
since_passes k k' batches.Settling n h i = longer k k' n (of_passes k k' h) i
since_passes k k' (batches.Marking t) n h i = longer k k' n (of_passes k k' h) i
since_passes k k' (batches.Writing t) n h i = longer k k' n (of_passes k k' h) i
since_passes k k' (batches.Verifying t) n h i = longer k k' n (of_passes k k' h) i
since_passes k k' (batches.Ending t) n h i = longer k k' n (of_passes k k' h) i
since_passes k k' (batches.Leaving t f) n h i = (longer k k' n (of_passes k k' h) i.0, made_more k k' f n h i.0 i.1)
since_passes k k' batches.Over n h i = longer k k' n (of_passes k k' h) i

-- a commit under others' entries
commit_since : (n : ℕ) (r : CommitRun) (k k' : Known) → TimePasses k k' → commits.IsCommitSince n r k → commits.IsCommitSince n r k'
commit_since n Rattle.px_commanding.specs.declared.commit.CommitRun.TheVariants.Finding k k' h i = longer k k' n (of_passes k k' h) i
commit_since n (Rattle.px_commanding.specs.declared.commit.CommitRun.TheVariants.Changing run room) k k' h i = since_passes k k' run.state n h i

pub asks_change : (f : Found) (x : Statement) (y : Definition) → definition_asked f x ≡ Some y → changes x ≡ true
asks_change f (s.DropTable t) y h = refl
asks_change f (s.DropIndex i) y h = refl
asks_change f (s.CreateIndex t) y h = refl
asks_change f (s.AlterIndex t) y h = refl
asks_change f (s.CreateTable t) y h = cc
asks_change f (s.Upsert t) y h = cc
asks_change f (s.Delete t) y h = cc
asks_change f (s.Select t) y h = cc
asks_change f (s.Explain t) y h = cc

-- what was done for a build, under more entries and with more that was done
pub behind_later : (n : ℕ) (e : Definition) (m : Made) (own rest more : List Act) (k k' : Known) → Later k k' → IsBuiltBehind n e m own rest k → IsBuiltBehind n e m (own ++ more) (rest ++ more) k'
behind_later n e m own rest more k k' h b = record { one = ap (λ (l : List Act). l ++ more) b.one; made = b.made; from = b.from; within = longer k k' m.at h b.within }

pub stands_later : (e : Definition) (m : Made) (k k' : Known) → Later k k' → m.at ≤ length k.seen → StandsAs e m k → StandsAs e m k'
stands_later (d.Index what) m k k' h low b =
    let same : take m.at k.seen ≡ take m.at k'.seen = sym (take-append-le m.at k.seen h.more low) ∙ ap (take m.at) (sym h.seen) in
    let F : Base × List Entry → Type 0 = λ q. IsNumberOf q.0 q.1 what m.number in
    subst F (λ i. (sym h.base i, same i)) b
stands_later (d.Table what) m k k' h low b = tt
stands_later (d.Active t i) m k k' h low b = tt
stands_later (d.Disabled t i) m k k' h low b = tt
stands_later (d.Rebuilding t i) m k k' h low b = tt
stands_later (d.DropTable t) m k k' h low b = tt
stands_later (d.DropIndex t i) m k k' h low b = tt

-- a SELECT under others' entries
pub select_since : (n : ℕ) (st : QueryState) (k k' : Known) → TimePasses k k' → scan.IsQuerySince n st k → scan.IsQuerySince n st k'
select_since n (reading.Opening rows) k k' h i = longer k k' n (of_passes k k' h) i
select_since n (reading.Looking x a) k k' h i = i
select_since n (reading.Consulting x r e) k k' h i = i
select_since n (reading.Fixing x r e) k k' h i = i
select_since n (reading.Settling x r e) k k' h i = i
select_since n (reading.Closing p e) k k' h i = i
select_since n reading.Over k k' h i = tt

-- a SELECT that has made no step
pub new_select : (sound : Type 0) (q : Query) (scn : Option ℕ) (st : QueryState) (k : Known) → scan.IsQueryNew st → scan.IsBound k q → IsScn scn → scan.FitsScan sound q scn st k × scan.IsQueryGoing st × ([] ≡ scan.opened_by_query st) × ((n : ℕ) → n ≤ length k.seen → scan.IsQuerySince n st k)
new_select sound q scn (reading.Opening rows) k new bound ok = ((new, bound, ok), tt, refl, λ n low. low)
new_select sound q scn (reading.Looking x a) k new bound ok = absurd new
new_select sound q scn (reading.Consulting x r e) k new bound ok = absurd new
new_select sound q scn (reading.Fixing x r e) k new bound ok = absurd new
new_select sound q scn (reading.Settling x r e) k new bound ok = absurd new
new_select sound q scn (reading.Closing p e) k new bound ok = absurd new
new_select sound q scn reading.Over k new bound ok = absurd new

-- a DELETE under others' entries
delete_since : (n : ℕ) (st : DeleteState) (k k' : Known) → TimePasses k k' → deleting.IsDeleteSince n st k → deleting.IsDeleteSince n st k'
delete_since n (deletes.Finding run) k k' h i = select_since n run.scan.state k k' h i
delete_since n (deletes.Removing run left) k k' h i = (i.0, since_passes k k' run.state n h i.1)
delete_since n deletes.Over k k' h i = tt

-- a DELETE that has made no step
pub new_delete : (sound : Type 0) (p : Planned) (st : DeleteState) (k : Known) → deleting.IsDeleteNew p st → deleting.CanBegin k p → deleting.FitsDelete sound p st k × deleting.IsDeleteGoing st × deleting.HasDone sound p [] st k × ((n : ℕ) → n ≤ length k.seen → deleting.IsDeleteSince n st k)
new_delete sound p (deletes.Finding run) k new can =
    let bound = subst (λ (z : Planned). scan.IsBound k (query_of z)) (sym new.0) can.bound in
    let valid : IsScn run.scan.scn = subst IsScn (sym new.1) tt in
    let n = new_select sound (query_of run.scan.query) run.scan.scn run.scan.state k new.2 bound valid in
    (record { can = can; planned = new.0; scn = new.1; fits = n.0; going = n.1 }, tt, n.2, n.3)
new_delete sound p (deletes.Removing run left) k new can = absurd new
new_delete sound p deletes.Over k new can = absurd new

-- why a commit is made, under more entries
pub asks_later : (k k' : Known) (first : ℕ) (st : Settings) (p : SeenPiece) (h : HeldData) (again : Bool) → Later k k' → AsksToCommit k first st p h again → AsksToCommit k' first st p h again
asks_later k k' first st p h true later (inl a) = inl a
asks_later k k' first st p h true later (inr m) =
    inr (record { statement = m.statement; found = m.found; read = m.read; free = m.free; holds = m.holds; bound = bound_later k k' first m.found (table_named m.statement) later m.bound; right = m.right; other = m.other })
asks_later k k' first st p h false later a = a

pub some_data : (x y : HeldData) → Some x ≡ Some y → x ≡ y
some_data x y h = cc

-- autocommit is on, or off
pub on_when : (b : Bool) → (not b && true) ≡ false → b ≡ true
on_when true e = refl
on_when false e = absurd (Rattle.std.proofs.lemmas.Bool.false≢true (sym e))

pub off_when : (b c : Bool) → (not b && c) ≡ true → b ≡ false
off_when true c e = absurd (Rattle.std.proofs.lemmas.Bool.false≢true e)
off_when false c e = refl

pub first_low : (asked : Asked) (a : Answered) → a.first ≡ asked.first → asked.first ≤ a.first
first_low asked a e = omega arith

pub first_within : (asked : Asked) (k : Known) (a : Answered) → asked.first ≤ length k.seen → a.first ≡ asked.first → a.first ≤ length k.seen
first_within asked k a low e = omega arith

-- a definition under way
pub define_later : (sound : Type 0) (asked : Asked) (x : Statement) (old new : DefineRun) (k k' : Known) → Later k k' → IsDefining sound asked x old k ⊎ IsCreating sound x old k → new.definition ≡ old.definition → (define.FitsDefinition sound old.definition old.state k → define.FitsDefinition sound old.definition new.state k')
    → (define.IsDefinitionGoing old.state → define.IsDefinitionGoing new.state) → IsDefining sound asked x new k' ⊎ IsCreating sound x new k'
define_later sound asked x old new k k' later (inl j) definition fits going =
    inl record {
      found = j.found;
      bound = bound_later k k' asked.first j.found (table_named x) later j.bound;
      right = j.right;
      definition = j.definition ∙ ap Some (sym definition);
      fits = subst (λ (y : Definition). define.FitsDefinition sound y new.state k') (sym definition) (fits j.fits);
      going = going j.going;
    }
define_later sound asked x old new k k' later (inr j) definition fits going =
    inr record {
      create = j.create;
      is = j.is;
      whole = j.whole;
      right = j.right;
      definition = definition ∙ j.definition;
      fits = subst (λ (y : Definition). define.FitsDefinition sound y new.state k') (sym definition) (fits j.fits);
      going = going j.going;
    }

-- what was done by then, and this
pub and_then : (mine was acts : List Act) → mine ≡ was → mine ++ outline acts ≡ was ++ outline acts
and_then mine was acts same = ap (λ (l : List Act). l ++ outline acts) same

-- a step that did nothing
pub nothing_more : (mine : List Act) → mine ≡ [] → mine ++ [] ≡ []
nothing_more mine same = append-nil mine ∙ same

-- `mine` is what was done for the item so far
module _ (sound : Type 0) (before : ℕ) (asked : Asked) (mine : List Act) where
  state_passes : (st : ItemState) (k k' : Known) → TimePasses k k' → FitsState sound before asked mine st k → FitsState sound before asked mine st k'
  state_passes (state.Finding x) k k' h f = f
  state_passes (state.Changing x run room) k k' h f =
      let j = f.1 in (
        f.0,
        record {
          upsert = j.upsert;
          is = j.is;
          alone = j.alone;
          found = j.found;
          bound = bound_later k k' asked.first j.found j.upsert.table (of_passes k k' h) j.bound;
          right = j.right;
          table = j.table;
          changes = j.changes;
          fits = turning.fits-kept sound run.table run.changes run.state k k' h j.fits;
          going = j.going;
          since = since_passes k k' run.state before h j.since;
        },
        f.2,
      )
  state_passes (state.Defining x run) k k' h f = (f.0, define_later sound asked x run run k k' (of_passes k k' h) f.1 refl (λ fits. defining.fits-kept sound run.definition run.state k k' h fits) (λ going. going))
  state_passes (state.Building x run) k k' h f =
      let j = f.1 in
      let later = of_passes k k' h in (
        f.0,
        record {
          found = j.found;
          bound = bound_later k k' asked.first j.found (table_named x) later j.bound;
          right = j.right;
          definition = j.definition;
          asks = j.asks;
          table = j.table;
          builds = j.builds;
          made = j.made;
          rest = j.rest;
          behind = record { one = j.behind.one; made = j.behind.made; from = j.behind.from; within = longer k k' j.made.at later j.behind.within };
          stands = stands_later j.definition j.made k k' later j.behind.within j.stands;
          legal = h.legal;
          fits = upkeep.fits-kept sound j.made.at j.table (index_id_made j.made) j.rest run k k' h j.fits;
        },
      )
  state_passes (state.Selecting x run) k k' h f =
      let j = f.1 in (
        f.0,
        record {
          select = j.select;
          is = j.is;
          found = j.found;
          bound = bound_later k k' before j.found j.select.table (of_passes k k' h) j.bound;
          planned = j.planned;
          scn = j.scn;
          fits = scanning.fits-kept sound (query_of run.scan.query) run.scan.scn run.scan.state k k' h j.fits;
          going = j.going;
          since = select_since before run.scan.state k k' h j.since;
          first = select_since asked.first run.scan.state k k' h j.first;
        },
      )
  state_passes (state.Deleting x run) k k' h f =
      let j = f.1 in (
        f.0,
        record {
          delete = j.delete;
          is = j.is;
          alone = j.alone;
          found = j.found;
          bound = bound_later k k' asked.first j.found j.delete.table (of_passes k k' h) j.bound;
          right = j.right;
          fits = removing.fits-kept sound (deletion_query j.found j.delete) run.state k k' h j.fits;
          going = j.going;
          done = removing.done-kept sound (deletion_query j.found j.delete) mine run.state k k' h j.done;
          since = delete_since asked.first run.state k k' h j.since;
        },
      )
  state_passes (state.Seeking x run) k k' h f =
      let j = f.1 in (
        f.0,
        record {
          delete = j.delete;
          is = j.is;
          off = j.off;
          found = j.found;
          bound = bound_later k k' asked.first j.found j.delete.table (of_passes k k' h) j.bound;
          right = j.right;
          places = j.places;
          other = j.other;
          planned = j.planned;
          scn = j.scn;
          fits = scanning.fits-kept sound (query_of run.scan.query) run.scan.scn run.scan.state k k' h j.fits;
          going = j.going;
          since = select_since asked.first run.scan.state k k' h j.since;
        },
      )
  state_passes (state.Committing again run) k k' h f =
      record {
        held = f.held;
        is = f.is;
        asks = asks_later k k' asked.first asked.settings (seen_piece asked.piece) f.held again (of_passes k k' h) f.asks;
        fits = commanding.fits-kept sound f.held run k k' h f.fits;
        since = commit_since before run k k' h f.since;
      }
  state_passes (state.Counting name run) k k' h f = record { read = f.read; fits = numbering.fits-kept asked.first name run k k' h f.fits }
  state_passes (state.Ordering run) k k' h f = f

  pub fits_passes : (st : ItemState) (k k' : Known) → TimePasses k k' → FitsItem sound before asked mine st k → FitsItem sound before asked mine st k'
  fits_passes st k k' h f = record { begins = f.begins; within = longer k k' asked.first (of_passes k k' h) f.within; state = state_passes st k k' h f.state; done = f.done }
