use Rattle.std.proofs.Common.{rules, ◌≡◌, ℕ, ◌+◌, ◌<◌, [], ◌∷◌, length, drop, sym, ap, ◌∙◌, subst, ⊎_elim, arith, length-append}
use Rattle.std.specs.Prelude.{slice_get}
use Rattle.px_turn.specs.Lists.{own}
use Rattle.px_turn.specs.Seats.{IsSeat, name_of, seat_number, seen_by_seat}
use Rattle.px_tally.specs.Marks.{marks, seat_of}
use Rattle.px_turn.proofs.Places.{get_snoc, drop_one, front_is}
use Rattle.px_tally.proofs.Pairs.{and_both}
use Rattle.px_tally.proofs.many.taken_back.Goals as goal

pub loop-jobs-preserved : goal.loop-jobs-preserved
loop-jobs-preserved c =
    let at = c.loop-jobs in
    let i = at.invariant in
    let n = length at.seats.items in
    let job = c.remove-seat.result in
    let some_left : 0 < length at.jobs.items = search rules in
    let here = front_is c.args.jobs.items at.jobs.items n job i.0 some_left c.remove-seat.ensures.value in
    let known = c.requires.jobs.1 n job here in
    let items = c.push_reserved.ensures.items in
    let more : length c.push_reserved.new.self.items ≡ n + 1 = ap length items ∙ length-append at.seats.items (job.seat ∷ []) in
    let len = length c.remove-seat.new.self.items in
    let less : len + 1 ≡ length at.jobs.items = omega (arith, c.remove-seat.ensures.len, at.jobs.ok, c.remove-seat.new.self.ok) in
    let new_seat : IsSeat (name_of c.args.lock.now) job.seat = subst (λ l. IsSeat (name_of l) job.seat) known.0 job.is_seat in (
      c.remove-seat.ensures.items ∙ ap (drop 1) i.0 ∙ drop_one c.args.jobs.items n ∙ ap (λ k. drop k c.args.jobs.items) (sym more),
      (let was = i.1 in omega arith),
      search rules,
      (λ k seat e. ⊎_elim
          (λ was. i.3 k seat was)
          (λ t. subst (λ s. IsSeat (name_of c.args.lock.now) s × (seat_number s ≡ k)) t.1 (new_seat, known.1 ∙ sym t.0))
          (get_snoc at.seats.items job.seat seat k (ap (λ l. slice_get l k) (sym items) ∙ e))),
      λ all k seat e.
          let both = and_both at.all_whole job.whole all in
          ⊎_elim
          (λ was. i.4 both.0 k seat was)
          (λ (t : (k ≡ n) × (job.seat ≡ seat)). ap (λ s. own seat_of k (seen_by_seat s)) (sym t.1) ∙ ap (λ (x : ℕ). own seat_of x (seen_by_seat job.seat)) t.0 ∙ known.2 both.1 ∙ ap (λ (x : ℕ). marks x c.args.times) (sym t.0))
          (get_snoc at.seats.items job.seat seat k (ap (λ l. slice_get l k) (sym items) ∙ e)),
    )
