use Rattle.std.proofs.Common.{rules, ◌≡◌, ℕ, ◌+◌, [], ◌∷◌, ◌++◌, length, sym, ap, ◌∙◌, ⊎_elim, arith, append_assoc, length-append}
use Rattle.std.specs.Prelude.{slice_get}
use Rattle.std.specs.Vec.Iter.{into_iter_items}
use Rattle.px_turn.specs.Seats.{seat_number, seen_by_seat}
use Rattle.px_tally.specs.declared.many.Job.{Job}
use Rattle.px_turn.proofs.Places.{get_at, get_snoc}
use Rattle.px_tally.proofs.many.opened.Goals as goal

pub invariant_of-push_reserved : goal.invariant_of-push_reserved
invariant_of-push_reserved c =
    let at = c.loop-seat in
    let i = at.invariant in
    let x = c.in-Some.seat in
    let steps = c.in-Some.ensures.steps.0 in
    let here = ap (λ l. slice_get l (length at.yielded)) (sym (ap (λ l. at.yielded ++ l) (sym steps) ∙ i.0)) ∙ get_at at.yielded x _ in
    let known = c.requires.seats.1 (length at.yielded) x here in
    record { is_seat = known.0 }

pub loop-seat-preserved : goal.loop-seat-preserved
loop-seat-preserved c =
    let at = c.loop-seat in
    let i = at.invariant in
    let x = c.in-Some.seat in
    let here = ap (λ l. slice_get l (length at.yielded)) (sym (ap (λ l. at.yielded ++ l) (sym c.in-Some.ensures.steps.0) ∙ i.0)) ∙ get_at at.yielded x _ in
    let known = c.requires.seats.1 (length at.yielded) x here in
    let empty = c.requires.empty (length at.yielded) x here in
    let steps : into_iter_items at.seat-iterator ≡ x ∷ into_iter_items c.next.new.self = c.in-Some.ensures.steps.0 in
    let gone = c.in-Some.ensures.steps.1 in
    let short = ap length steps in
    let was = i.1 in
    let items = c.push_reserved.ensures.items in
    let new : length c.push_reserved.new.self.items ≡ length at.jobs.items + 1 = ap length items ∙ length-append at.jobs.items (_ ∷ []) in
    let more : length (at.yielded ++ x ∷ []) ≡ length at.yielded + 1 = length-append at.yielded (x ∷ []) in (
      append_assoc at.yielded (x ∷ []) _ ∙ ap (λ l. at.yielded ++ l) (sym steps) ∙ i.0,
      omega arith,
      new ∙ ap (λ (n : ℕ). n + 1) i.2 ∙ sym more,
      search rules,
      λ k job e. ⊎_elim
          (λ was. i.4 k job was)
          (λ t. (ap (λ (j : Job). j.lock.now) (sym t.1), ap (λ (j : Job). seat_number j.seat) (sym t.1) ∙ known.1 ∙ sym i.2 ∙ sym t.0, ap (λ (j : Job). seen_by_seat j.seat) (sym t.1) ∙ empty))
          (get_snoc at.jobs.items _ job k (ap (λ l. slice_get l k) (sym items) ∙ e)),
    )
