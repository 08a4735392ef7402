-- A query's steps so far, and one more.
use Rattle.std.proofs.Common.{ℕ, ◌≡◌, Bool, true, Option, Result, Ok, Err, List, [], ◌∷◌, ◌++◌, refl, sym, ◌∙◌, ap, subst}
use Rattle.px_calls.specs.declared.query.Point.{Point}
use Rattle.px_calls.specs.declared.steps.Steps.{Ghosts as StepsGhosts}
use Rattle.px_calls.specs.Doubtful.{IndexVersion}
use Rattle.px_calls.specs.Known.{Known, outline}
use Rattle.px_gather.specs.Query.{Query}
use Rattle.px_scan.specs.declared.answer.Answer.{Answer}
use Rattle.px_scan.specs.declared.answer.QueryFault.{QueryFault}
use Rattle.px_scan.specs.declared.answer.QueryTurn.{QueryTurn}
use Rattle.px_scan.specs.declared.answer.QueryTurn.TheVariants as turn
use Rattle.px_scan.specs.declared.machine.QueryState.{QueryState}
use Rattle.px_scan.specs.declared.machine.QueryState.TheVariants as state
use Rattle.px_scan.specs.Chains.{AreEdges, AreUnfaulted, IsUnfaulted, QueryStep, query_after}
use Rattle.px_scan.specs.Courses.{AreByIndex, AreNextSteps, AreStepCalls, IsCourse, IsOnCourse, IsStepCall, doubtful_after, known_behind}
use Rattle.px_scan.specs.Fixes.{AreKeepingDoubts, KeepsDoubts}
use Rattle.px_scan.specs.Looking.{AreLooking, IsByIndex, Looks, looked_after}
use Rattle.px_scan.specs.Turns.{IsQueryGoing, IsQueryNew, QueryTurns, Told, opened_by_query}
use Rattle.px_scan.proofs.Looking.{at_most}
use Rattle.px_scan.proofs.Mending.{fixed_by_edges}

after_snoc : (s : QueryState) (os : List QueryStep) (o : QueryStep) → query_after s (os ++ o ∷ []) ≡ o.state
after_snoc s [] o = refl
after_snoc s (p ∷ os) o = after_snoc p.state os o

known_snoc : (k : Known) (os : List QueryStep) (o : QueryStep) → known_behind k (os ++ o ∷ []) ≡ o.after
known_snoc k [] o = refl
known_snoc k (p ∷ os) o = known_snoc p.after os o

looked_snoc : (m : ℕ) (os : List QueryStep) (o : QueryStep) → looked_after m (os ++ o ∷ []) ≡ o.looked
looked_snoc m [] o = refl
looked_snoc m (p ∷ os) o = looked_snoc p.looked os o

doubtful_snoc : (f : Point → IndexVersion → Bool) (os : List QueryStep) (o : QueryStep) → doubtful_after f (os ++ o ∷ []) ≡ o.doubtful
doubtful_snoc f [] o = refl
doubtful_snoc f (p ∷ os) o = doubtful_snoc p.doubtful os o

index_snoc : (s : QueryState) (os : List QueryStep) (o : QueryStep) → AreByIndex s (os ++ o ∷ []) → AreByIndex s os × IsByIndex (query_after s os)
index_snoc s [] o h = (tt, h.0)
index_snoc s (p ∷ os) o h = (let rest = index_snoc p.state os o h.1 in ((h.0, rest.0), rest.1))

next_snoc : (sound : Type 0) (q : Query) (scn : Option ℕ) (s : QueryState) (k : Known) (os : List QueryStep) (o : QueryStep) → AreNextSteps sound q scn s k os → IsQueryGoing (query_after s os) → o.before ≡ known_behind k os → QueryTurns sound q scn (query_after s os) o.before o.state o.after o.turn
    → AreNextSteps sound q scn s k (os ++ o ∷ [])
next_snoc sound q scn s k [] o h g e t = (g, e, t, tt)
next_snoc sound q scn s k (p ∷ os) o h g e t = (h.0, h.1, h.2, next_snoc sound q scn p.state p.after os o h.3 g e t)

looking_snoc : (sound : Type 0) (m : ℕ) (s : QueryState) (os : List QueryStep) (o : QueryStep) → AreLooking sound m s os → Looks sound (query_after s os) o.before (looked_after m os) o.state o.after o.looked o.doubtful → AreLooking sound m s (os ++ o ∷ [])
looking_snoc sound m s [] o h one = (one, tt)
looking_snoc sound m s (p ∷ os) o h one = (h.0, looking_snoc sound p.looked p.state os o h.1 one)

keeping_snoc : (k : Known) (f : Point → IndexVersion → Bool) (s : QueryState) (os : List QueryStep) (o : QueryStep) → AreKeepingDoubts k f s os → o.before ≡ known_behind k os → KeepsDoubts (query_after s os) o.before (doubtful_after f os) o.state o.after o.doubtful
    → AreKeepingDoubts k f s (os ++ o ∷ [])
keeping_snoc k f s [] o h e one = (e, one, tt)
keeping_snoc k f s (p ∷ os) o h e one = (h.0, h.1, keeping_snoc p.after p.doubtful p.state os o h.2 e one)

edges_next : (sound : Type 0) (q : Query) (scn : Option ℕ) (s : QueryState) (k : Known) (os : List QueryStep) → AreNextSteps sound q scn s k os → AreEdges sound s os
edges_next sound q scn s k [] h = tt
edges_next sound q scn s k (o ∷ os) h = (h.2.edge, edges_next sound q scn o.state o.after os h.3)

calls_snoc : (S : Type 0) (g : StepsGhosts S) (s0 s s' : S) (os : List QueryStep) (o : QueryStep) → AreStepCalls g s0 os s → IsStepCall g s o s' → AreStepCalls g s0 (os ++ o ∷ []) s'
calls_snoc S g s0 s s' [] o h one = (s', subst (λ (x : S). IsStepCall g x o s') h one, refl)
calls_snoc S g s0 s s' (p ∷ os) o h one = (h.0, h.1, calls_snoc S g h.0 s s' os o h.2 one)

-- a step that ends the query leaves it over
ended_over : (sound : Type 0) (q : Query) (scn : Option ℕ) (old : QueryState) (k : Known) (new : QueryState) (k' : Known) (t : QueryTurn) (r : Result Answer QueryFault) → QueryTurns sound q scn old k new k' t → t ≡ turn.Over r → new ≡ state.Over
ended_over sound q scn old k new k' t r h is = (subst (λ (u : QueryTurn). Told sound q scn (opened_by_query old ++ outline h.acts) old new k' u) is h.told).0

err_not_ok : (f : QueryFault) (a : Answer) → turn.Over (Err f) ≡ turn.Over (Ok a) → ⊥
err_not_ok f a is = cc

-- before an answer no state was a scan that had ended with a fault
no_fault : (sound : Type 0) (q : Query) (scn : Option ℕ) (a : Answer) (s : QueryState) (k : Known) (os : List QueryStep) (o : QueryStep) → AreNextSteps sound q scn s k (os ++ o ∷ []) → o.turn ≡ turn.Over (Ok a) → IsUnfaulted s
no_fault sound q scn a (state.Opening rows) k os o h is = tt
no_fault sound q scn a (state.Looking x c) k os o h is = tt
no_fault sound q scn a (state.Consulting x r d) k os o h is = tt
no_fault sound q scn a (state.Fixing x r d) k os o h is = tt
no_fault sound q scn a (state.Settling x r d) k os o h is = tt
no_fault sound q scn a (state.Closing p (Ok rows)) k os o h is = tt
no_fault sound q scn a state.Over k os o h is = tt
no_fault sound q scn a (state.Closing p (Err f)) k [] o h is = err_not_ok f a (sym h.2.closes ∙ is)
no_fault sound q scn a (state.Closing p (Err f)) k (u ∷ []) o h is = subst IsQueryGoing (ended_over sound q scn (state.Closing p (Err f)) u.before u.state u.after u.turn (Err f) h.2 h.2.closes) h.3.0
no_fault sound q scn a (state.Closing p (Err f)) k (u ∷ v ∷ os) o h is = subst IsQueryGoing (ended_over sound q scn (state.Closing p (Err f)) u.before u.state u.after u.turn (Err f) h.2 h.2.closes) h.3.0

unfaulted : (sound : Type 0) (q : Query) (scn : Option ℕ) (a : Answer) (s : QueryState) (k : Known) (os : List QueryStep) (o : QueryStep) → AreNextSteps sound q scn s k (os ++ o ∷ []) → o.turn ≡ turn.Over (Ok a) → AreUnfaulted (os ++ o ∷ [])
unfaulted sound q scn a s k [] o h is = (subst IsUnfaulted (sym (ended_over sound q scn s o.before o.state o.after o.turn (Ok a) h.2 is)) tt, tt)
unfaulted sound q scn a s k (u ∷ os) o h is = (no_fault sound q scn a u.state u.after os o h.3 is, unfaulted sound q scn a u.state u.after os o h.3 is)

pub set_out : (S : Type 0) (g : StepsGhosts S) (q : Query) (scn : Option ℕ) (s : S) (first : QueryState) → IsOnCourse g q scn s first first s []
set_out S g q scn s first = record { of = tt; calls = refl; at = refl; knows = refl; as_alone = refl; looked = refl; doubtful = refl; looking = λ alone by. tt; keeping = λ alone so. tt }

-- a step that is one call of the server
abbrev pub step_of : (S : Type 0) (g : StepsGhosts S) (s s' : S) (new : QueryState) (t : QueryTurn) → QueryStep
step_of S g s s' new t = record { before = g.known s; after = g.known s'; state = new; turn = t; looked = g.looked s'; doubtful = g.doubtful s' }

module _ (S : Type 0) (g : StepsGhosts S) (q : Query) (scn : Option ℕ) (s0 s s' : S) (first old new : QueryState) (t : QueryTurn) (os : List QueryStep) (h : IsOnCourse g q scn s0 first old s os) (going : IsQueryGoing old) (turns : QueryTurns g.sound q scn old (g.known s) new (g.known s') t) (one : g.one_call s s')
    (looks : (g.known s).alone ≡ true → IsByIndex old → Looks g.sound old (g.known s) (g.looked s) new (g.known s') (g.looked s') (g.doubtful s')) (doubts : (g.known s).alone ≡ true → g.sound → KeepsDoubts old (g.known s) (g.doubtful s) new (g.known s') (g.doubtful s')) where
  abbrev o : QueryStep
  o = step_of S g s s' new t

  abbrev Looked : QueryState → ℕ → Type 0
  Looked x n = Looks g.sound x (g.known s) n new (g.known s') (g.looked s') (g.doubtful s')

  abbrev Kept : QueryState → (Point → IndexVersion → Bool) → Type 0
  Kept x f = KeepsDoubts x (g.known s) f new (g.known s') (g.doubtful s')

  -- the same facts of the step, from what its predecessors left
  looks_on : (g.known s0).alone ≡ true → AreByIndex first (os ++ o ∷ []) → AreLooking g.sound (g.looked s0) first (os ++ o ∷ [])
  looks_on alone by =
      let z = index_snoc first os o by in
      let is_by : IsByIndex old = subst IsByIndex h.at z.1 in
      let mine : Looked old (g.looked s) = looks (h.as_alone ∙ alone) is_by in
      let there : Looked (query_after first os) (g.looked s) = subst (λ (x : QueryState). Looked x (g.looked s)) (sym h.at) mine in
      looking_snoc g.sound (g.looked s0) first os o (h.looking alone z.0) (subst (λ (n : ℕ). Looked (query_after first os) n) (sym h.looked) there)

  doubts_on : (g.known s0).alone ≡ true → g.sound → AreKeepingDoubts (g.known s0) (g.doubtful s0) first (os ++ o ∷ [])
  doubts_on alone so =
      let mine : Kept old (g.doubtful s) = doubts (h.as_alone ∙ alone) so in
      let there : Kept (query_after first os) (g.doubtful s) = subst (λ (x : QueryState). Kept x (g.doubtful s)) (sym h.at) mine in
      keeping_snoc (g.known s0) (g.doubtful s0) first os o (h.keeping alone so) (sym h.knows) (subst (λ (f : Point → IndexVersion → Bool). Kept (query_after first os) f) (sym h.doubtful) there)

  pub goes_on_course : IsOnCourse g q scn s0 first new s' (os ++ o ∷ [])
  goes_on_course = record {
    of = next_snoc g.sound q scn first (g.known s0) os o h.of (subst IsQueryGoing (sym h.at) going) (sym h.knows) (subst (λ (x : QueryState). QueryTurns g.sound q scn x (g.known s) new (g.known s') t) (sym h.at) turns);
    calls = calls_snoc S g s0 s s' os o h.calls (record { one = one; before = refl; after = refl; looked = refl; doubtful = refl });
    at = after_snoc first os o;
    knows = known_snoc (g.known s0) os o;
    as_alone = turns.ran.as_alone ∙ h.as_alone;
    looked = looked_snoc (g.looked s0) os o;
    doubtful = doubtful_snoc (g.doubtful s0) os o;
    looking = looks_on;
    keeping = doubts_on;
  }

pub ran_course : (S : Type 0) (g : StepsGhosts S) (q : Query) (scn : Option ℕ) (s0 s s' : S) (first old new : QueryState) (r : Result Answer QueryFault) (os : List QueryStep) → IsOnCourse g q scn s0 first old s os → IsQueryNew first → IsQueryGoing old → QueryTurns g.sound q scn old (g.known s) new (g.known s') (turn.Over r) → g.one_call s s'
    → ((g.known s).alone ≡ true → IsByIndex old → Looks g.sound old (g.known s) (g.looked s) new (g.known s') (g.looked s') (g.doubtful s')) → ((g.known s).alone ≡ true → g.sound → KeepsDoubts old (g.known s) (g.doubtful s) new (g.known s') (g.doubtful s')) → IsCourse g q scn s0 s' r
ran_course S g q scn s0 s s' first old new r os h is_new going turns one looks doubts =
    let o : QueryStep = step_of S g s s' new (turn.Over r) in
    let on = goes_on_course S g q scn s0 s s' first old new (turn.Over r) os h going turns one looks doubts in
    record {
      first = first;
      is_new = is_new;
      earlier = os;
      last = o;
      of = on.of;
      calls = on.calls;
      over = turns.told.0;
      ends = refl;
      looked = λ alone by. (let z = at_most g.sound (g.looked s0) first (os ++ o ∷ []) is_new (on.looking alone by) in let same = on.looked in let least = z.2 in (z.0, z.1, rw (same) at least));
      fixed = λ alone so a is. fixed_by_edges g.sound (g.doubtful s0) first (g.known s0) (os ++ o ∷ []) is_new (edges_next g.sound q scn first (g.known s0) (os ++ o ∷ []) on.of) (on.keeping alone so) (unfaulted g.sound q scn a first (g.known s0) os o on.of (ap turn.Over is)) (on.at ∙ turns.told.0);
    }
