-- From the steps of a query to those of a SELECT.
use Rattle.std.proofs.Common.{ℕ, ◌≡◌, ◌≤◌, ◌++◌, List, Option, None, Some, Result, Ok, Err, sym, ap, ◌∙◌, subst, inr, length}
use Rattle.px_trail.specs.declared.entry.Act.{Act}
use Rattle.px_calls.specs.Known.{Known, outline}
use Rattle.px_gather.specs.Query.{Query}
use Rattle.px_planned.specs.Queries.{query_of}
use Rattle.px_planned.specs.declared.planned.Planned.{Planned}
use Rattle.px_planned.proofs.Chosen.{taken_if}
use Rattle.px_scan.specs.Faults.{QueryEndSince, QueryFaultIs}
use Rattle.px_scan.specs.Turns.{IsQueryOutcome, IsQuerySinceThen, QuerySoFar, QueryTurns, opened_by_query}
use Rattle.px_scan.specs.declared.answer.Answer.{Answer}
use Rattle.px_scan.specs.declared.answer.QueryFault.{QueryFault}
use Rattle.px_scan.specs.declared.answer.QueryFault.TheVariants as fault
use Rattle.px_scan.specs.declared.answer.QueryTurn.TheVariants as scan
use Rattle.px_scan.specs.declared.machine.QueryState.{QueryState}
use Rattle.px_calls.proofs.Runs.{outline-append, ran-then}
use Rattle.px_scan.proofs.Turning.{goes_further}
use Rattle.px_answers.proofs.Selecting.{select-is}
use Rattle.px_select.specs.declared.run.SelectTurn.TheVariants as turn
use Rattle.px_select.specs.declared.run.Selected.{Selected}
use Rattle.px_select.specs.Selecting.{IsEnd, IsSelectOutcome, IsSelectSinceThen, RanSelect, SelectTurns}

-- 1. The end

memory_is : (sound : Type 0) (q : Query) (scn : Option ℕ) (k : Known) → QueryFaultIs sound q scn fault.Memory k
memory_is sound q None k = tt
memory_is sound q (Some n) k = tt

end_is : (sound : Type 0) (p : Planned) (scn : Option ℕ) (own : List Act) (k : Known) (end : Result Answer QueryFault) (r : Result Selected QueryFault) → IsEnd p.asked end r → IsQueryOutcome sound (query_of p) scn own k end → IsSelectOutcome sound p scn own k r
end_is sound p scn own k (Ok x) (Ok s) e h =
    subst (λ (w : Selected). IsSelectOutcome sound p scn own k (Ok w)) (sym e) (
      record {
        point = h.0.point;
        is_point = h.0.is_point;
        at = h.0.at;
        path = h.0.path;
        chosen = h.0.chosen;
        taken = taken_if p.asked h.0.point.found h.0.point.stamp h.0.path.by h.0.chosen.taken;
        answer = λ is. select-is k.base k.seen p scn h.0.point h.0.path x.first x.last x.rows.items h.0.chosen (h.0.answer is);
      },
      h.1,
      h.2,
      h.3,
    )
end_is sound p scn own k (Ok x) (Err f) e h =
    subst (λ (w : QueryFault). IsSelectOutcome sound p scn own k (Err w)) (sym e) (memory_is sound (query_of p) scn k, inr (_, _, h.1))
end_is sound p scn own k (Err f) (Ok s) e h = absurd e
end_is sound p scn own k (Err f) (Err g) e h = subst (λ (w : QueryFault). IsSelectOutcome sound p scn own k (Err w)) (sym e) h

since_end : (n : ℕ) (p : Planned) (scn : Option ℕ) (new : QueryState) (k : Known) (end : Result Answer QueryFault) (r : Result Selected QueryFault) → IsEnd p.asked end r → IsQuerySinceThen n (query_of p) scn new k (scan.Over end) → IsSelectSinceThen n p scn new k (turn.Over r)
since_end n p scn new k (Ok x) (Ok s) e h = subst (λ (w : Selected). n ≤ w.first) (sym e) h
since_end n p scn new k (Ok x) (Err f) e h = subst (λ (w : QueryFault). QueryEndSince n (query_of p) scn w k) (sym e) tt
since_end n p scn new k (Err f) (Ok s) e h = absurd e
since_end n p scn new k (Err f) (Err g) e h = subst (λ (w : QueryFault). QueryEndSince n (query_of p) scn w k) (sym e) h

pub over-is : (sound : Type 0) (p : Planned) (scn : Option ℕ) (old : QueryState) (k : Known) (new : QueryState) (k' : Known) (end : Result Answer QueryFault) (r : Result Selected QueryFault)
    → IsEnd p.asked end r → QueryTurns sound (query_of p) scn old k new k' (scan.Over end) → SelectTurns sound p scn old k new k' (turn.Over r)
over-is sound p scn old k new k' end r e t = record {
  acts = t.acts;
  ran = t.ran;
  fits = t.fits;
  told = (t.told.0, end_is sound p scn (opened_by_query old ++ outline t.acts) k' end r e t.told.1);
  since = λ n from. since_end n p scn new k' end r e (t.since n from);
  edge = t.edge;
}

-- 2. On the way

pub steps-on : (sound : Type 0) (p : Planned) (scn : Option ℕ) (k0 k k' : Known) (old new : QueryState) → QuerySoFar sound (query_of p) scn k0 k old → SelectTurns sound p scn old k new k' turn.Stepped → QuerySoFar sound (query_of p) scn k0 k' new
steps-on sound p scn k0 k k' old new h t = goes_further sound (query_of p) scn k0 k k' old new t.acts h t.ran t.fits t.told.0 t.told.1 (t.since (length k0.seen) h.since)

pub waits-on : (sound : Type 0) (p : Planned) (scn : Option ℕ) (k0 k k' : Known) (old new : QueryState) (stamp : ℕ) → QuerySoFar sound (query_of p) scn k0 k old → SelectTurns sound p scn old k new k' (turn.Waiting stamp) → QuerySoFar sound (query_of p) scn k0 k' new
waits-on sound p scn k0 k k' old new stamp h t = goes_further sound (query_of p) scn k0 k k' old new t.acts h t.ran t.fits t.told.0 t.told.1 (t.since (length k0.seen) h.since)

joined : (old : QueryState) (xs ys : List Act) → outline xs ≡ opened_by_query old → outline (xs ++ ys) ≡ opened_by_query old ++ outline ys
joined old xs ys e = outline-append xs ys ∙ ap (λ (l : List Act). l ++ outline ys) e

pub ends-as : (sound : Type 0) (p : Planned) (scn : Option ℕ) (k0 k k' : Known) (old new : QueryState) (r : Result Selected QueryFault) → QuerySoFar sound (query_of p) scn k0 k old → SelectTurns sound p scn old k new k' (turn.Over r) → RanSelect sound p scn k0 k' r
ends-as sound p scn k0 k k' old new (Ok a) h t = record {
  acts = h.acts ++ t.acts;
  ran = ran-then k0 k k' h.acts t.acts h.ran t.ran;
  outcome = subst (λ (l : List Act). IsSelectOutcome sound p scn l k' (Ok a)) (sym (joined old h.acts t.acts h.so_far)) t.told.1;
  since = t.since (length k0.seen) h.since;
}
ends-as sound p scn k0 k k' old new (Err f) h t = record {
  acts = h.acts ++ t.acts;
  ran = ran-then k0 k k' h.acts t.acts h.ran t.ran;
  outcome = subst (λ (l : List Act). IsSelectOutcome sound p scn l k' (Err f)) (sym (joined old h.acts t.acts h.so_far)) t.told.1;
  since = t.since (length k0.seen) h.since;
}
