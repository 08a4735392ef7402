-- What a server without a table knows.
use Rattle.std.proofs.Common.{ℕ, ◌≡◌, inl, inr, None, Some, List, [], refl, arith}
use Rattle.px_tables.specs.declared.table.Table.{Table}
use Rattle.px_trail.specs.Batches.{BatchPhase, batch_from}
use Rattle.px_trail.specs.Trail.{acts_by, catalogue_from, closing_from, points_from}
use Rattle.px_trail.proofs.Growth.{legal-none}
use Rattle.px_calls.specs.declared.query.Point.{Point}
use Rattle.px_calls.specs.declared.ticket.Ticket.{Ticket}
use Rattle.px_calls.specs.Known.{IsRunning, Sees}
use Rattle.px_calls.specs.Calls.{Finds}
use Rattle.px_calls.specs.Causes.{LacksTable, NamesNoTable}
use Rattle.px_calls.specs.Requires.{CanAbandon, CanEnd, HasOpen, TicketIn}
use Rattle.px_rounds.specs.Turns.{IsSingle}
use Rattle.px_tests_rounds.specs.Bare.{bare, empty}

pub sees : (n : ℕ) → Sees (bare n) (bare n)
unfolding acts_by
sees n = record {
  passes = record { others = []; seen = refl; apart = refl; seat = refl; base = refl; damaged = refl; legal = legal-none empty };
  alone = λ _. refl;
  as_alone = refl;
}

pub single : (n : ℕ) → IsSingle (bare n)
single n = record { alone = refl; legal = legal-none empty }

pub running : (n : ℕ) → IsRunning (bare n)
unfolding closing_from
running n = refl

pub finds : (n : ℕ) → Finds (bare n) (bare n)
finds n = record { sees = sees n; running = running n }

pub lacks : (n t : ℕ) → LacksTable (bare n) t
unfolding catalogue_from
lacks n t = refl

none_some : {A : Type 0} (x : Table) → None ≡ Some x → A
none_some x h = cc

pub names_none : (n : ℕ) (name : List ℕ) → NamesNoTable (bare n) name
unfolding catalogue_from
names_none n name = λ t x h. none_some x h

pub no_ticket : (n : ℕ) (t : Ticket) (p : BatchPhase) → TicketIn (bare n) t p → ⊥
unfolding batch_from
no_ticket n t p i = let h = i.is in cc

pub no_point : (n : ℕ) (p : Point) → HasOpen (bare n) p → ⊥
unfolding points_from
no_point n p h = omega arith

pub no_end : (n : ℕ) (t : Ticket) → CanEnd (bare n) t → ⊥
no_end n t (inl i) = no_ticket n t _ i
no_end n t (inr i) = no_ticket n t _ i.1

pub no_abandon : (n : ℕ) (t : Ticket) → CanAbandon (bare n) t → ⊥
no_abandon n t (s, inl i) = no_ticket n t _ i
no_abandon n t (s, inr i) = no_ticket n t _ i
