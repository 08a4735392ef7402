-- How what a seat knows goes on.
use Rattle.std.proofs.Common.{ℕ, ◌≡◌, ◌≢◌, ◌==◌, if◌then◌else◌, true, false, Option, None, Some, List, [], ◌∷◌, ◌++◌, refl, sym, ◌∙◌, ap, subst, append_assoc, ◌⊎◌, inl, inr}
use Rattle.std.proofs.lemmas.List.{append-nil}
use Rattle.std.proofs.lemmas.Bool.Decides.{Decides-eqb}
use Rattle.std.proofs.lemmas.List.Elements.{filter-append}
use Rattle.px_values.specs.declared.change.Change.{Change}
use Rattle.px_trail.specs.declared.entry.Act.{Act}
use Rattle.px_trail.specs.declared.entry.Act.TheVariants.{Begun, Phase, Missed, Shut}
use Rattle.px_trail.specs.declared.entry.Entry.{Entry}
use Rattle.px_trail.specs.Answers.{IsAmong}
use Rattle.px_trail.specs.Batches.{Batch, BatchPhase, Closing, IsBatchIn, Marking, Verifying, Writing, batch_of, batch_step}
use Rattle.px_trail.specs.Legal.{Follows, IsLegal, MayCome}
use Rattle.px_trail.specs.Trail.{Base, acts_by, closing_call, closing_from, closing_step}
use Rattle.px_trail.proofs.Batches.{begun-in, in-kept, marked-in, verified-in}
use Rattle.px_trail.proofs.Growth.{batch_of-snoc, closing_from-append}
use Rattle.px_calls.specs.declared.fault.StepFault.{StepFault}
use Rattle.px_calls.specs.declared.fault.StepFault.TheVariants.{ReadFault, WriteFault}
use Rattle.px_calls.specs.declared.ticket.Ticket.{Ticket}
use Rattle.px_calls.specs.Known.{Known, TimePasses, Sees, Extends, Adds, Ran, outline, is_turn, HasMade}
use Rattle.px_calls.specs.Causes.{Refuses}
use Rattle.px_calls.specs.Requires.{TicketIn, IsServerShut}

pub acts_by-append : (seat : ℕ) (xs ys : List Entry) → acts_by seat (xs ++ ys) ≡ acts_by seat xs ++ acts_by seat ys
unfolding acts_by
acts_by-append seat [] ys = refl
acts_by-append seat (x ∷ xs) ys =
    elim (x.seat == seat) as (λ v. (if v then x.act ∷ acts_by seat (xs ++ ys) else acts_by seat (xs ++ ys)) ≡ (if v then x.act ∷ acts_by seat xs else acts_by seat xs) ++ acts_by seat ys) [
      | true ↦ ap (λ (l : List Act). x.act ∷ l) (acts_by-append seat xs ys)
      | false ↦ acts_by-append seat xs ys
    ]

pub acts_by-one : (seat calls : ℕ) (act : Act) → acts_by seat (record { seat = seat; calls = calls; act = act } ∷ []) ≡ act ∷ []
unfolding acts_by
acts_by-one seat calls act = let same : (seat == seat) ≡ true = (Decides-eqb seat seat).1 refl in rw same refl

pub acts_by-other : (seat n calls : ℕ) (act : Act) → n ≢ seat → acts_by n (record { seat = seat; calls = calls; act = act } ∷ []) ≡ []
unfolding acts_by
acts_by-other seat n calls act other =
    elim (seat == n) as (λ v. (seat == n) ≡ v → (if v then act ∷ [] else []) ≡ []) [
      | true ↦ λ h. absurd (other (sym ((Decides-eqb seat n).0 h)))
      | false ↦ λ h. refl
    ] refl

none_of : (n : ℕ) (xs : List Entry) → xs ≡ [] → acts_by n xs ≡ []
unfolding acts_by
none_of n xs h = ap (acts_by n) h

-- 1. Runs

pub ran-sees : (k k' : Known) → Sees k k' → Ran k k' []
ran-sees k k' h = record {
  added = h.passes.others;
  seen = h.passes.seen;
  own = h.passes.apart;
  apart = λ alone n other. none_of n h.passes.others (h.alone alone);
  seat = h.passes.seat;
  base = h.passes.base;
  damaged = h.passes.damaged;
  as_alone = h.as_alone;
  legal = λ _. h.passes.legal;
}

pub ran-extends : (k k' : Known) (act : Act) → Extends k k' act → Ran k k' (act ∷ [])
ran-extends k k' act h = record {
  added = record { seat = k.seat; calls = h.calls; act = act } ∷ [];
  seen = h.seen;
  own = acts_by-one k.seat h.calls act;
  apart = λ alone n other. acts_by-other k.seat n h.calls act other;
  seat = h.seat;
  base = h.base;
  damaged = h.damaged;
  as_alone = h.as_alone;
  legal = λ _. h.legal;
}

-- before the first call
pub ran-none : (k : Known) → Ran k k []
unfolding acts_by
ran-none k = record { added = []; seen = sym (append-nil k.seen); own = refl; apart = λ alone n other. refl; seat = refl; base = refl; damaged = refl; as_alone = refl; legal = λ l. l }

pub ran-then : (k a c : Known) (xs ys : List Act) → Ran k a xs → Ran a c ys → Ran k c (xs ++ ys)
ran-then k a c xs ys h j = record {
  added = h.added ++ j.added;
  seen = j.seen ∙ (ap (λ (l : List Entry). l ++ j.added) h.seen ∙ append_assoc k.seen h.added j.added);
  own = acts_by-append k.seat h.added j.added ∙ (ap (λ (l : List Act). l ++ acts_by k.seat j.added) h.own ∙ ap (λ (l : List Act). xs ++ l) (ap (λ (n : ℕ). acts_by n j.added) (sym h.seat) ∙ j.own));
  apart = λ alone n other.
      let one : acts_by n h.added ≡ [] = h.apart alone n other in
      let two : acts_by n j.added ≡ [] = j.apart (h.as_alone ∙ alone) n (λ e. other (e ∙ h.seat)) in
      acts_by-append n h.added j.added ∙ (ap (λ (l : List Act). l ++ acts_by n j.added) one ∙ two);
  seat = j.seat ∙ h.seat;
  base = j.base ∙ h.base;
  damaged = j.damaged ∙ h.damaged;
  as_alone = j.as_alone ∙ h.as_alone;
  legal = λ l. j.legal (h.legal l);
}

pub ran-adds : (k k' : Known) (act : Act) → Adds k k' act → Ran k k' (act ∷ [])
ran-adds k k' act h = ran-then k h.between k' [] (act ∷ []) (ran-sees k h.between h.sees) (ran-extends h.between k' act h.extends)

-- what the call's own entry found before it
pub may-come : (k k' : Known) (act : Act) → (h : Extends k k' act) → MayCome k.base k.seen (record { seat = k.seat; calls = h.calls; act = act })
may-come k k' act h =
    let at : MayCome k'.base k.seen (record { seat = k.seat; calls = h.calls; act = act }) = h.legal.each k.seen (record { seat = k.seat; calls = h.calls; act = act }) [] h.seen in
    subst (λ (b : Base). MayCome b k.seen (record { seat = k.seat; calls = h.calls; act = act })) h.base at

-- 2. Tickets

-- others' entries leave a ticket
pub passes-ticket : (k k' : Known) (t : Ticket) (p : BatchPhase) → TimePasses k k' → TicketIn k t p → TicketIn k' t p
passes-ticket k k' t p h i =
    let legal : IsLegal k'.base (k.seen ++ h.others) = subst (λ (l : List Entry). IsLegal k'.base l) h.seen h.legal in
    let kept : IsBatchIn (k.seen ++ h.others) k.seat t.table.0 t.stamp p = in-kept k'.base k.seen h.others k.seat t.table.0 t.stamp p legal h.apart i in
    subst (λ (l : List Entry). IsBatchIn l k'.seat t.table.0 t.stamp p) (sym h.seen) (subst (λ (n : ℕ). IsBatchIn (k.seen ++ h.others) n t.table.0 t.stamp p) (sym h.seat) kept)

pub sees-ticket : (k k' : Known) (t : Ticket) (p : BatchPhase) → Sees k k' → TicketIn k t p → TicketIn k' t p
sees-ticket k k' t p h i = passes-ticket k k' t p h.passes i

-- an act of the seat's own that is none of the batch's leaves the ticket
pub extends-ticket : (k k' : Known) (t : Ticket) (p : BatchPhase) (act : Act) → Extends k k' act → ((x : Batch) → batch_step t.table.0 t.stamp (Some x) k.seat act ≡ Some x) → TicketIn k t p → TicketIn k' t p
extends-ticket k k' t p act h other i =
    record {
      batch = i.batch;
      is =
          ap (λ (l : List Entry). batch_of t.table.0 t.stamp l) h.seen
          ∙ (batch_of-snoc t.table.0 t.stamp k.seen (record { seat = k.seat; calls = h.calls; act = act }) ∙ (ap (λ (o : Option Batch). batch_step t.table.0 t.stamp o k.seat act) i.is ∙ other i.batch));
      mine = i.mine ∙ sym h.seat;
      phase = i.phase;
    }

pub adds-ticket : (k k' : Known) (t : Ticket) (p : BatchPhase) (act : Act) → Adds k k' act → ((x : Batch) (seat : ℕ) → batch_step t.table.0 t.stamp (Some x) seat act ≡ Some x) → TicketIn k t p → TicketIn k' t p
adds-ticket k k' t p act h other i =
    extends-ticket h.between k' t p act h.extends (λ x. other x h.between.seat) (sees-ticket k h.between t p h.sees i)

shut_other : (call t s : ℕ) (x : Batch) (seat : ℕ) → batch_step t s (Some x) seat (Shut call) ≡ Some x
unfolding batch_step
shut_other call t s x seat = refl

missed_other : (call t s : ℕ) (x : Batch) (seat : ℕ) → batch_step t s (Some x) seat (Missed call) ≡ Some x
unfolding batch_step
missed_other call t s x seat = refl

-- what a refused call adds at most
pub refuses-sees : (Cause : StepFault → Known → Type 0) (k k' : Known) (f : StepFault) → Refuses Cause k k' f → Sees k k' ⊎ (((call : ℕ) × Adds k k' (Missed call)) ⊎ ((call : ℕ) × Adds k k' (Shut call)))
refuses-sees Cause k k' ReadFault h = inr (inl h.1)
refuses-sees Cause k k' WriteFault h = inr (inr h.1)
refuses-sees Cause k k' f h = inl h.1

-- a refused call leaves the ticket
pub refuses-ticket : (Cause : StepFault → Known → Type 0) (k k' : Known) (f : StepFault) (t : Ticket) (p : BatchPhase) → Refuses Cause k k' f → TicketIn k t p → TicketIn k' t p
refuses-ticket Cause k k' ReadFault t p h i = adds-ticket k k' t p (Missed h.1.0) h.1.1 (missed_other h.1.0 t.table.0 t.stamp) i
refuses-ticket Cause k k' WriteFault t p h i = adds-ticket k k' t p (Shut h.1.0) h.1.1 (shut_other h.1.0 t.table.0 t.stamp) i
refuses-ticket Cause k k' f t p h i = sees-ticket k k' t p h.1 i

-- the batch after the seat's own entry
pub as-seat : (k k' : Known) (t : Ticket) (p : BatchPhase) (act : Act) → (h : Extends k k' act) → IsBatchIn (k.seen ++ record { seat = k.seat; calls = h.calls; act = act } ∷ []) k.seat t.table.0 t.stamp p → TicketIn k' t p
as-seat k k' t p act h i =
    subst (λ (l : List Entry). IsBatchIn l k'.seat t.table.0 t.stamp p) (sym h.seen)
    (subst (λ (n : ℕ). IsBatchIn (k.seen ++ record { seat = k.seat; calls = h.calls; act = act } ∷ []) n t.table.0 t.stamp p) (sym h.seat) i)

pub adds-begun : (k k' : Known) (t : Ticket) (cs : List Change) → Adds k k' (Begun t.table t.stamp cs) → TicketIn k' t Marking
unfolding Follows
adds-begun k k' t cs h =
    let e = h.extends in
    let may = may-come h.between k' (Begun t.table t.stamp cs) e in
    as-seat h.between k' t Marking (Begun t.table t.stamp cs) e (begun-in h.between.base h.between.seen h.between.seat e.calls t.table t.stamp cs may.follows.0)

pub adds-marked : (k k' : Known) (t : Ticket) → Adds k k' (Phase t.table t.stamp 1) → TicketIn k t Marking → TicketIn k' t Writing
adds-marked k k' t h i =
    let e = h.extends in
    let j = sees-ticket k h.between t Marking h.sees i in
    as-seat h.between k' t Writing (Phase t.table t.stamp 1) e (marked-in h.between.base h.between.seen h.between.seat e.calls t.table t.stamp h.sees.passes.legal j)

pub adds-verified : (k k' : Known) (t : Ticket) → Adds k k' (Phase t.table t.stamp 3) → TicketIn k t Verifying → TicketIn k' t Closing
adds-verified k k' t h i =
    let e = h.extends in
    let j = sees-ticket k h.between t Verifying h.sees i in
    as-seat h.between k' t Closing (Phase t.table t.stamp 3) e (verified-in h.between.seen h.between.seat e.calls t.table t.stamp j)

-- 3. The closing call

some_stays : (call : ℕ) (act : Act) → closing_step (Some call) act ≡ Some call
some_stays call act = refl

pub closing-stays : (call : ℕ) (es : List Entry) → closing_from (Some call) es ≡ Some call
unfolding closing_from
closing-stays call [] = refl
closing-stays call (e ∷ es) = rw some_stays (closing-stays call es)

-- what closed the server is the same in whatever comes of the trail
pub closing-grows : (es more : List Entry) (call : ℕ) → closing_call es ≡ Some call → closing_call (es ++ more) ≡ Some call
closing-grows es more call c = closing_from-append None es more ∙ (ap (λ (o : Option ℕ). closing_from o more) c ∙ closing-stays call more)

pub ran-closing : (k k' : Known) (acts : List Act) (call : ℕ) → Ran k k' acts → closing_call k.seen ≡ Some call → closing_call k'.seen ≡ Some call
ran-closing k k' acts call h c = ap closing_call h.seen ∙ closing-grows k.seen h.added call c

shut_grows : (es more : List Entry) → closing_call es ≢ None → closing_call (es ++ more) ≢ None
shut_grows es more shut =
    elim (closing_call es) as (λ o. closing_call es ≡ o → closing_call (es ++ more) ≢ None) [
      | None ↦ λ n. absurd (shut n)
      | Some call ↦ λ c n. let j = closing-grows es more call c in cc
    ] refl

pub ran-shut : (k k' : Known) (acts : List Act) → Ran k k' acts → IsServerShut k → IsServerShut k'
ran-shut k k' acts h shut = λ n. shut_grows k.seen h.added shut (ap closing_call (sym h.seen) ∙ n)

pub passes-shut : (k k' : Known) → TimePasses k k' → IsServerShut k → IsServerShut k'
passes-shut k k' h shut = λ n. shut_grows k.seen h.others shut (ap closing_call (sym h.seen) ∙ n)

pub adds-shut : (k k' : Known) (call : ℕ) → Adds k k' (Shut call) → closing_call k'.seen ≡ Some call
unfolding closing_from
adds-shut k k' call h =
    let e = h.extends in
    let none : closing_call h.between.seen ≡ None = (may-come h.between k' (Shut call) e).shut refl in
    ap closing_call e.seen
    ∙ (closing_from-append None h.between.seen (record { seat = h.between.seat; calls = e.calls; act = Shut call } ∷ [])
    ∙ ap (λ (o : Option ℕ). closing_from o (record { seat = h.between.seat; calls = e.calls; act = Shut call } ∷ [])) none)

-- 4. A seat's own acts

pub among-append : {A : Type 0} (x : A) (xs ys : List A) → IsAmong x ys → IsAmong x (xs ++ ys)
unfolding IsAmong
among-append x [] ys h = h
among-append x (y ∷ xs) ys h = inr (among-append x xs ys h)

pub among-front : {A : Type 0} (x : A) (xs ys : List A) → IsAmong x xs → IsAmong x (xs ++ ys)
unfolding IsAmong
among-front x [] ys h = absurd h
among-front x (y ∷ xs) ys (inl h) = inl h
among-front x (y ∷ xs) ys (inr h) = inr (among-front x xs ys h)

pub ran-made : (k k' : Known) (acts : List Act) (act : Act) → Ran k k' acts → IsAmong act acts ⊎ HasMade k act → HasMade k' act
ran-made k k' acts act h (inl m) =
    let e : acts_by k'.seat k'.seen ≡ acts_by k.seat k.seen ++ acts = ap (λ (n : ℕ). acts_by n k'.seen) h.seat ∙ (ap (acts_by k.seat) h.seen ∙ (acts_by-append k.seat k.seen h.added ∙ ap (λ (l : List Act). acts_by k.seat k.seen ++ l) h.own)) in
    subst (λ (l : List Act). IsAmong act l) (sym e) (among-append act (acts_by k.seat k.seen) acts m)
ran-made k k' acts act h (inr m) =
    let e : acts_by k'.seat k'.seen ≡ acts_by k.seat k.seen ++ acts = ap (λ (n : ℕ). acts_by n k'.seen) h.seat ∙ (ap (acts_by k.seat) h.seen ∙ (acts_by-append k.seat k.seen h.added ∙ ap (λ (l : List Act). acts_by k.seat k.seen ++ l) h.own)) in
    subst (λ (l : List Act). IsAmong act l) (sym e) (among-front act (acts_by k.seat k.seen) acts m)

pub outline-append : (xs ys : List Act) → outline (xs ++ ys) ≡ outline xs ++ outline ys
outline-append xs ys = filter-append is_turn xs ys

pub passes-made : (k k' : Known) (act : Act) → TimePasses k k' → HasMade k act → HasMade k' act
passes-made k k' act h m =
    let e : acts_by k'.seat k'.seen ≡ acts_by k.seat k.seen ++ acts_by k.seat h.others = ap (λ (n : ℕ). acts_by n k'.seen) h.seat ∙ (ap (acts_by k.seat) h.seen ∙ acts_by-append k.seat k.seen h.others) in
    subst (λ (l : List Act). IsAmong act l) (sym e) (among-front act (acts_by k.seat k.seen) (acts_by k.seat h.others) m)
