-- What a point and a batch beside it leave of one another.
use Rattle.std.proofs.Common.{ℕ, ◌≡◌, ◌++◌, true, None, List, [], refl, sym, subst, ◌∙◌, ap, arith}
use Rattle.std.proofs.lemmas.List.{append-nil}
use Rattle.px_values.specs.declared.change.Change.{Change}
use Rattle.px_values.specs.declared.name.TableId.{TableId}
use Rattle.px_trail.specs.declared.entry.Act.TheVariants.{Begun, Opened, Phase, Released}
use Rattle.px_trail.specs.declared.entry.Entry.{Entry}
use Rattle.px_trail.specs.Batches.{BatchPhase, Closing, Marking, Verifying, Writing, batch_step}
use Rattle.px_trail.specs.Trail.{open_points}
use Rattle.px_calls.specs.declared.query.Point.{Point}
use Rattle.px_calls.specs.declared.ticket.Marks.{Marks}
use Rattle.px_calls.specs.declared.ticket.Marks.TheVariants.{AllMarked}
use Rattle.px_calls.specs.declared.ticket.Ticket.{Ticket}
use Rattle.px_calls.specs.declared.ticket.Verifies.{Verifies}
use Rattle.px_calls.specs.declared.ticket.Verifies.TheVariants.{Done}
use Rattle.px_calls.specs.Known.{Known, Sees, Adds}
use Rattle.px_calls.specs.Calls.{DidBegin, DidMark, DidOpen, DidVerify}
use Rattle.px_calls.specs.Requires.{HasOpen, TicketIn}
use Rattle.px_calls.proofs.Runs.{adds-begun, adds-marked, adds-ticket, adds-verified}
use Rattle.px_tests_served.proofs.Sights.{did-open}

-- a seat's point stays open while another seat is refused
pub open-beside : (k k1 k2 k3 k4 k5 : Known) (seat other : ℕ) (t : TableId) (p : Point) → k.alone ≡ true → k1 ≡ record k { seat = seat } → DidOpen k1 k2 t None p → k3 ≡ record k2 { seat = other } → Sees k3 k4 → k5 ≡ record k4 { seat = seat } → HasOpen k5 p
open-beside k k1 k2 k3 k4 k5 seat other t p alone first opened second sees third =
    let was : HasOpen k2 p = did-open k1 k2 t None p opened in
    let mine : k2.seat ≡ seat = opened.adds.extends.seat ∙ (opened.adds.sees.passes.seat ∙ ap (λ (x : Known). x.seat) first) in
    let still : k2.alone ≡ true = opened.adds.extends.as_alone ∙ (opened.adds.sees.as_alone ∙ (ap (λ (x : Known). x.alone) first ∙ alone)) in
    let none : sees.passes.others ≡ [] = sees.alone (ap (λ (x : Known). x.alone) second ∙ still) in
    let same : k5.seen ≡ k2.seen =
    ap (λ (x : Known). x.seen) third ∙ (sees.passes.seen ∙ (ap (λ (l : List Entry). k3.seen ++ l) none ∙ (append-nil k3.seen ∙ ap (λ (x : Known). x.seen) second))) in
    let points : open_points k5.seat p.table.0 p.stamp k5.seen ≡ open_points k2.seat p.table.0 p.stamp k2.seen =
    ap (λ (n : ℕ). open_points n p.table.0 p.stamp k5.seen) (ap (λ (x : Known). x.seat) third ∙ sym mine) ∙ ap (open_points k2.seat p.table.0 p.stamp) same in
    omega arith

-- a batch that began is to be marked
pub begun-marking : (sound : Type 0) (k k' : Known) (table : TableId) (cs : List Change) (t : Ticket) → DidBegin sound k k' table cs t → TicketIn k' t Marking
begun-marking sound k k' table cs t h = adds-begun k k' t cs (subst (λ (n : TableId). Adds k k' (Begun n t.stamp cs)) (sym h.table) h.adds)

-- a point beside a batch leaves its ticket
pub opened-ticket : (k k' : Known) (t : Ticket) (phase : BatchPhase) (table : TableId) (p : Point) → DidOpen k k' table None p → TicketIn k t phase → TicketIn k' t phase
unfolding batch_step
opened-ticket k k' t phase table p h i = adds-ticket k k' t phase (Opened table p.stamp p.scn) h.adds (λ x seat. refl) i

pub released-ticket : (k k' : Known) (t : Ticket) (phase : BatchPhase) (p : Point) → Adds k k' (Released p.table p.stamp) → TicketIn k t phase → TicketIn k' t phase
unfolding batch_step
released-ticket k k' t phase p h i = adds-ticket k k' t phase (Released p.table p.stamp) h (λ x seat. refl) i

-- what is marked is to be written
pub marked-ticket : (k k' : Known) (t t' : Ticket) (m : Marks) → t' ≡ t → m ≡ AllMarked → DidMark k k' t m → TicketIn k t Marking → TicketIn k' t' Writing
marked-ticket k k' t t' m same all did was =
    let adds : Adds k k' (Phase t.table t.stamp 1) = subst (λ (x : Marks). DidMark k k' t x) all did in
    subst (λ (x : Ticket). TicketIn k' x Writing) (sym same) (adds-marked k k' t adds was)

-- what is verified is to be ended
pub verified-ticket : (k k' : Known) (t t' : Ticket) (v : Verifies) → t' ≡ t → v ≡ Done → DidVerify k k' t v → TicketIn k t Verifying → TicketIn k' t' Closing
verified-ticket k k' t t' v same all did was =
    let adds : Adds k k' (Phase t.table t.stamp 3) = subst (λ (x : Verifies). DidVerify k k' t x) all did in
    subst (λ (x : Ticket). TicketIn k' x Closing) (sym same) (adds-verified k k' t adds was)
