-- What a server without a table knows.
use Rattle.std.proofs.Common.{ℕ, ◌≡◌, ◌≤◌, inl, inr, true, None, Some, List, [], length, refl, sym, subst, ◌∙◌, ap, arith}
use Rattle.px_values.specs.declared.change.Change.{Change}
use Rattle.px_tables.specs.declared.table.Table.{Table}
use Rattle.px_trail.specs.Batches.{BatchPhase, batch_from, has, is_distinct, rows_of}
use Rattle.px_trail.specs.Trail.{acts_by, catalogue_from, closing_from, points_from}
use Rattle.px_trail.proofs.Growth.{legal-none}
use Rattle.px_calls.specs.declared.query.Point.{Point}
use Rattle.px_calls.specs.declared.ticket.Ticket.{Ticket}
use Rattle.px_calls.specs.Known.{IsRunning, Sees}
use Rattle.px_calls.specs.Calls.{Finds}
use Rattle.px_calls.specs.Causes.{LacksTable, NamesNoTable}
use Rattle.px_calls.specs.Requires.{AreFitting, CanAbandon, CanEnd, HasOpen, IsDrawn, TicketIn}
use Rattle.px_planned.specs.Queries.{query_of}
use Rattle.px_planned.specs.declared.planned.Planned.{Planned}
use Rattle.px_scan.specs.Turns.{IsBound}
use Rattle.px_deleting.specs.Deleting.{CanBegin}
use Rattle.px_verifying.specs.declared.answer.VerifyKind.{VerifyKind}
use Rattle.px_verifying.specs.Turns.{MayBegin}
use Rattle.px_tests_steps.specs.Bare.{all_rows, bare, empty, one_gone}

pub sees : Sees bare bare
unfolding acts_by
sees = record {
  passes = record { others = []; seen = refl; apart = refl; seat = refl; base = refl; damaged = refl; legal = legal-none empty };
  alone = λ _. refl;
  as_alone = refl;
}

pub running : IsRunning bare
unfolding closing_from
running = refl

pub finds : Finds bare bare
finds = record { sees = sees; running = running }

pub lacks : (t : ℕ) → LacksTable bare t
unfolding catalogue_from
lacks t = refl

none_some : {A : Type 0} (x : Table) → None ≡ Some x → A
none_some x h = cc

pub names_none : (name : List ℕ) → NamesNoTable bare name
unfolding catalogue_from
names_none name = λ t x h. none_some x h

pub no_ticket : (t : Ticket) (p : BatchPhase) → TicketIn bare t p → ⊥
unfolding batch_from
no_ticket t p i = let h = i.is in cc

pub no_point : (p : Point) → HasOpen bare p → ⊥
unfolding points_from
no_point p h = omega arith

pub no_end : (t : Ticket) → CanEnd bare t → ⊥
no_end t (inl i) = no_ticket t _ i
no_end t (inr i) = no_ticket t _ i.1

pub no_abandon : (t : Ticket) → CanAbandon bare t → ⊥
no_abandon t (s, inl i) = no_ticket t _ i
no_abandon t (s, inr i) = no_ticket t _ i

pub drawn : IsDrawn bare 3
unfolding catalogue_from
drawn = omega arith

-- what a batch asks of its one change

pub some_of : (cs : List Change) → cs ≡ one_gone → cs ≡ [] → ⊥
some_of cs is none = cc

pub few_of : (cs : List Change) → cs ≡ one_gone → length cs ≤ 1000
few_of cs is = let l : length cs ≡ 1 = ap (λ (x : List Change). length x) is in omega arith

one_distinct : is_distinct (rows_of one_gone) ≡ true
unfolding is_distinct has
one_distinct = refl

pub distinct_of : (cs : List Change) → cs ≡ one_gone → is_distinct (rows_of cs) ≡ true
distinct_of cs is = ap (λ (x : List Change). is_distinct (rows_of x)) is ∙ one_distinct

pub fits : (cs : List Change) → AreFitting bare 3 cs
unfolding catalogue_from
fits cs = record { drawn = drawn; each = λ x h. none_some x h }

pub bound : IsBound bare all_rows
unfolding catalogue_from
bound = record { drawn = drawn; is = λ x h. none_some x h }

pub bound_to : (p : Planned) → p.table.id.0 ≡ 3 → IsBound bare (query_of p)
unfolding catalogue_from
bound_to p e = record { drawn = subst (λ (t : ℕ). IsDrawn bare t) (sym e) drawn; is = λ x h. none_some x h }

-- what a DELETE asks of its first step
pub begins_on : (p : Planned) → p.table.id.0 ≡ 3 → CanBegin bare p
begins_on p e = record { legal = legal-none empty; bound = bound_to p e }

-- what a verification asks of its first step: numbers 3 and 2 were drawn

pub may_begin : (v : VerifyKind) → MayBegin (record { 0 = 3 }) (record { 0 = 2 }) v bare
unfolding catalogue_from
may_begin v = λ is. (omega arith, omega arith)
