use Rattle.std.proofs.Common.{rules, ◌≡◌, ◌∙◌, ℕ, ◌+◌, ◌-◌, ◌<◌, [], ◌∷◌, ◌++◌, length, drop, sym, ap, subst, ⊎_elim, arith, refl, append_assoc, length-append, length-drop}
use Rattle.std.specs.Prelude.{slice_get}
use Rattle.std.specs.Vec.Iter.{into_iter_items}
use Rattle.px_turn.specs.Seats.{seen_by_seat}
use Rattle.px_seat.specs.Grown.{mine}
use Rattle.px_rounds.specs.declared.job.Job.{Job}
use Rattle.px_rounds.specs.declared.job.Stage.TheVariants.{Ready}
use Rattle.px_rounds.specs.inner.Jobs.{IsSet}
use Rattle.px_rounds.proofs.Lists.{get_snoc, drop_one, front_is, some_same}
use Rattle.px_rounds.proofs.Places.{get_at}
use Rattle.px_rounds.proofs.seats.seated.Goals as goal

pub new-requires-clause-is_seat : goal.new-requires-clause-is_seat
new-requires-clause-is_seat g c =
    let at = c.loop-seat in
    let i = at.invariant in
    let x = c.in-Some.seat in
    let steps = c.in-Some.ensures.steps.0 in
    let here = ap (λ l. slice_get l (length at.yielded)) (sym (ap (λ l. at.yielded ++ l) (sym steps) ∙ i.given)) ∙ get_at at.yielded x _ in
    let known = c.requires.seats (length at.yielded) x here in
    (known.0, known.1 ∙ ap (λ (n : ℕ). n + 1) (sym (i.session ∙ i.jobs)))

pub new-requires-clause-counted : goal.new-requires-clause-counted
new-requires-clause-counted g c =
    let at = c.loop-seat in
    let i = at.invariant in
    let x = c.in-Some.seat in
    let steps = c.in-Some.ensures.steps.0 in
    let here = ap (λ l. slice_get l (length at.yielded)) (sym (ap (λ l. at.yielded ++ l) (sym steps) ∙ i.given)) ∙ get_at at.yielded x _ in
    c.requires.count ∙ ap length (sym (c.requires.seen (length at.yielded) x here))

pub loop-seat-preserved : goal.loop-seat-preserved
loop-seat-preserved g c =
    let at = c.loop-seat in
    let i = at.invariant in
    let x = c.in-Some.seat in
    let pieces = c.remove-pieces.result in
    let st = c.remove-state.result in
    let steps : into_iter_items at.seat-iterator ≡ x ∷ into_iter_items c.next.new.self = c.in-Some.ensures.steps.0 in
    let short = ap length steps in
    let was = i.left in
    let items = c.push_reserved.ensures.items in
    let n = length at.jobs.items in
    let new : length c.push_reserved.new.self.items ≡ n + 1 = ap length items ∙ length-append at.jobs.items (_ ∷ []) in
    let more : length (at.yielded ++ x ∷ []) ≡ length at.yielded + 1 = length-append at.yielded (x ∷ []) in
    let whole = ap (λ l. at.yielded ++ l) (sym steps) ∙ i.given in
    let here = ap (λ l. slice_get l (length at.yielded)) (sym whole) ∙ get_at at.yielded x _ in
    let long : length (at.yielded ++ x ∷ into_iter_items c.next.new.self) ≡ length at.yielded + length (x ∷ into_iter_items c.next.new.self) = length-append at.yielded (x ∷ into_iter_items c.next.new.self) in
    let given : length (at.yielded ++ x ∷ into_iter_items c.next.new.self) ≡ length c.args.given.items = ap length whole in
    let all = c.requires.sessions.0 in
    let states = c.requires.sessions.1 in
    let jobs = i.jobs in
    let left : length at.all.items ≡ length c.args.all.items - n = ap length i.all ∙ length-drop n c.args.all.items in
    let left' : length at.states.items ≡ length c.args.states.items - n = ap length i.states ∙ length-drop n c.args.states.items in
    let some_left : 0 < length at.all.items = omega arith in
    let some_left' : 0 < length at.states.items = omega arith in
    let pieces_are = front_is c.args.all.items at.all.items n pieces i.all some_left c.remove-pieces.ensures.value in
    let state_is = front_is c.args.states.items at.states.items n st i.states some_left' c.remove-state.ensures.value in
    let start = (g.S.Steps.known c.args.first.now.value).seen in
    let base = g.B.Based.base in
    let damaged = g.B.Based.damaged in
    let seen_is : seen_by_seat c.new.result.seat ≡ start = ap seen_by_seat c.new.ensures.0 ∙ c.requires.seen (length at.yielded) x here in
    record {
      given = append_assoc at.yielded (x ∷ []) _ ∙ ap (λ l. at.yielded ++ l) (sym steps) ∙ i.given;
      left = omega arith;
      jobs = new ∙ ap (λ (n : ℕ). n + 1) i.jobs ∙ sym more;
      session = ap (λ (n : ℕ). n + 1) i.session ∙ sym new;
      room = search rules;
      all = c.remove-pieces.ensures.items ∙ ap (drop 1) i.all ∙ drop_one c.args.all.items n ∙ ap (λ k. drop k c.args.all.items) (sym new);
      states = c.remove-state.ensures.items ∙ ap (drop 1) i.states ∙ drop_one c.args.states.items n ∙ ap (λ k. drop k c.args.states.items) (sym new);
      each = λ k job s p e f h. ⊎_elim
          (λ was. i.each k job s p was f h)
          (λ t.
          let session_is : at.session + 1 ≡ k + 1 = ap (λ (n : ℕ). n + 1) (i.session ∙ sym t.0) in
          let st_is : st ≡ s = some_same st s (sym state_is ∙ (ap (slice_get c.args.states.items) (sym t.0) ∙ f)) in
          let same : pieces ≡ p = some_same pieces p (sym pieces_are ∙ (ap (slice_get c.args.all.items) (sym t.0) ∙ h)) in
          subst (λ (j : Job _ _ _ _ _). IsSet base damaged start c.args.number (k + 1) s p (mine j.at.id base damaged (seen_by_seat j.at.seat)) j.session j.number j.stage) t.1
          (record { known = λ z. mine ((c.new.ensures.1 ∙ session_is) z) base damaged (seen_is z); session_is = session_is; round_is = refl; stage_is = λ z. Ready (same z) (st_is z) }))
          (get_snoc at.jobs.items _ job k (ap (λ l. slice_get l k) (sym items) ∙ e));
    }

pub remove-pieces-requires : goal.remove-pieces-requires
remove-pieces-requires g c =
    let at = c.loop-seat in
    let i = at.invariant in
    let x = c.in-Some.seat in
    let steps : into_iter_items at.seat-iterator ≡ x ∷ into_iter_items c.next.new.self = c.in-Some.ensures.steps.0 in
    let whole = ap (λ l. at.yielded ++ l) (sym steps) ∙ i.given in
    let long : length (at.yielded ++ x ∷ into_iter_items c.next.new.self) ≡ length at.yielded + length (x ∷ into_iter_items c.next.new.self) = length-append at.yielded (x ∷ into_iter_items c.next.new.self) in
    let given : length (at.yielded ++ x ∷ into_iter_items c.next.new.self) ≡ length c.args.given.items = ap length whole in
    let count = c.requires.sessions.0 in
    let jobs = i.jobs in
    let left : length at.all.items ≡ length c.args.all.items - length at.jobs.items = ap length i.all ∙ length-drop (length at.jobs.items) c.args.all.items in
    let len = at.all.ok in
    omega arith

pub remove-state-requires : goal.remove-state-requires
remove-state-requires g c =
    let at = c.loop-seat in
    let i = at.invariant in
    let x = c.in-Some.seat in
    let steps : into_iter_items at.seat-iterator ≡ x ∷ into_iter_items c.next.new.self = c.in-Some.ensures.steps.0 in
    let whole = ap (λ l. at.yielded ++ l) (sym steps) ∙ i.given in
    let long : length (at.yielded ++ x ∷ into_iter_items c.next.new.self) ≡ length at.yielded + length (x ∷ into_iter_items c.next.new.self) = length-append at.yielded (x ∷ into_iter_items c.next.new.self) in
    let given : length (at.yielded ++ x ∷ into_iter_items c.next.new.self) ≡ length c.args.given.items = ap length whole in
    let count = c.requires.sessions.1 in
    let jobs = i.jobs in
    let left : length at.states.items ≡ length c.args.states.items - length at.jobs.items = ap length i.states ∙ length-drop (length at.jobs.items) c.args.states.items in
    let len = at.states.ok in
    omega arith
