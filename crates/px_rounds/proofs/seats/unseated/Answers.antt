use Rattle.std.proofs.Common.{rules, ◌≡◌, ◌∙◌, ◌+◌, ◌<◌, false, [], ◌∷◌, ◌++◌, length, drop, refl, sym, ap, subst, ⊎_elim, arith, length-append}
use Rattle.std.specs.Prelude.{slice_get}
use Rattle.px_reply.specs.declared.transcript.Transcript.{Transcript}
use Rattle.px_session.specs.declared.state.SessionState.{SessionState}
use Rattle.px_turn.specs.Seats.{IsSeat, seat_number, seen_by_seat}
use Rattle.px_rounds.specs.declared.job.Stage.{Stage}
use Rattle.px_rounds.specs.declared.job.Stage.TheVariants.{Over}
use Rattle.px_rounds.specs.inner.Jobs.{IsTaken}
use Rattle.px_rounds.proofs.Lists.{drop_one, front_is, get_lt, get_snoc, some_same}
use Rattle.px_rounds.proofs.Places.{get_before}
use Rattle.px_rounds.proofs.Seating.{still_taken}
use Rattle.px_rounds.proofs.Waying.{neither}
use Rattle.px_rounds.proofs.seats.unseated.Goals as goal

pub loop-jobs-init : goal.loop-jobs-init
loop-jobs-init g c =
    let one = c.push_reserved.ensures.items ∙ ap (λ l. l ++ c.args.idle ∷ []) c.requires.room.0 in
    let none = c.requires.room.2 in
    let none' = c.requires.room.4 in
    record {
      left = sym (ap (λ l. drop (length l) c.args.jobs.items) none);
      sum = (let no : length c.args.transcripts.items ≡ 0 = ap length none in omega arith);
      count = ap length one ∙ sym (ap (λ l. length l + 1) none);
      count' = ap length none' ∙ sym (ap length none);
      room = (search rules, search rules, search rules);
      idle = ap (λ l. slice_get l 0) one;
      seats = λ k seat e. ⊎_elim
          (λ was. let low = get_lt [] seat k was in absurd (omega arith))
          (λ t. subst (λ s. IsSeat g.N.LockNamed.name s × (seat_number s ≡ k)) t.1 (c.requires.idle.0, c.requires.idle.1 ∙ sym t.0))
          (get_snoc [] c.args.idle seat k (ap (λ l. slice_get l k) (sym one) ∙ e));
      seen = λ k job seat f e. let low : k + 1 < 1 = get_lt (c.args.idle ∷ []) seat (k + 1) (ap (λ l. slice_get l (k + 1)) (sym one) ∙ e) in absurd (omega arith);
      each = λ k job t st f e d. let low = get_lt [] t k (ap (λ l. slice_get l k) (sym none) ∙ e) in absurd (omega arith);
    }

pub came_of-came-requires : goal.came_of-came-requires
came_of-came-requires g c =
    let at = c.loop-jobs in
    let some_left : 0 < length at.jobs.items = search rules in
    let n = length at.transcripts.items in
    let here = front_is c.args.jobs.items at.jobs.items n c.remove-at.result at.invariant.left some_left c.remove-at.ensures.value in
    c.requires.over n c.remove-at.result here

pub loop-jobs-preserved : goal.loop-jobs-preserved
loop-jobs-preserved g c =
    let at = c.loop-jobs in
    let i = at.invariant in
    let n = length at.transcripts.items in
    let job = c.remove-at.result in
    let came = c.came_of-came.result in
    let some_left : 0 < length at.jobs.items = search rules in
    let here = front_is c.args.jobs.items at.jobs.items n job i.left some_left c.remove-at.ensures.value in
    let id_is : job.at.id ≡ n + 1 = c.requires.jobs.1 n job here in
    let items = c.push_reserved-in-loop-jobs.ensures.items in
    let ts = c.push_reserved-in-loop-jobs-2.ensures.items in
    let sts = c.push_reserved-in-loop-jobs-3.ensures.items in
    let more : length c.push_reserved-in-loop-jobs.new.self.items ≡ length at.seats.items + 1 = ap length items ∙ length-append at.seats.items (c.seat.result ∷ []) in
    let more' : length c.push_reserved-in-loop-jobs-2.new.self.items ≡ n + 1 = ap length ts ∙ length-append at.transcripts.items (came.transcript ∷ []) in
    let more'' : length c.push_reserved-in-loop-jobs-3.new.self.items ≡ length at.states.items + 1 = ap length sts ∙ length-append at.states.items (came.state ∷ []) in
    let less : length c.remove-at.new.self.items + 1 ≡ length at.jobs.items = omega (arith, c.remove-at.ensures.len, at.jobs.ok, c.remove-at.new.self.ok) in
    let sum : c.either-lacked.result ≡ false → (at.lacked ≡ false) × (c.is_memory.result ≡ false) = λ no. neither at.lacked c.is_memory.result (sym c.either-lacked.ensures ∙ no) in
    let stage_is : job.stage ≡ Over came = c.came_of-came.ensures in
    let taken : IsTaken job.stage came.transcript came.state c.either-lacked.result = record { came = came; is = stage_is; transcript = refl; state = refl; whole = λ no. c.is_memory.ensures (sum no).1 } in
    record {
      left = c.remove-at.ensures.items ∙ ap (drop 1) i.left ∙ drop_one c.args.jobs.items n ∙ ap (λ k. drop k c.args.jobs.items) (sym more');
      sum = (let was = i.sum in omega arith);
      count = (let was = i.count in omega arith);
      count' = (let was = i.count' in omega arith);
      room = (search rules, search rules, search rules);
      idle = ap (λ l. slice_get l 0) items ∙ get_before at.seats.items (c.seat.result ∷ []) 0 _ i.idle;
      seats = λ k seat e. ⊎_elim
          (λ was. i.seats k seat was)
          (λ t. subst (λ s. IsSeat g.N.LockNamed.name s × (seat_number s ≡ k)) t.1 (c.seat.ensures.is_seat.0, c.seat.ensures.is_seat.1 ∙ (id_is ∙ (sym i.count ∙ sym t.0))))
          (get_snoc at.seats.items c.seat.result seat k (ap (λ l. slice_get l k) (sym items) ∙ e));
      seen = λ k j seat f e. ⊎_elim
          (λ was. i.seen k j seat f was)
          (λ (p : (k + 1 ≡ length at.seats.items) × (c.seat.result ≡ seat)).
          let place : n ≡ k = (let len = i.count in let same = p.0 in omega arith) in
          let job_is : job ≡ j = some_same job j (sym here ∙ (ap (slice_get c.args.jobs.items) place ∙ f)) in
          ap seen_by_seat (sym p.1 ∙ c.seat.ensures.same) ∙ ap (λ x. seen_by_seat x.at.seat) job_is)
          (get_snoc at.seats.items c.seat.result seat (k + 1) (ap (λ l. slice_get l (k + 1)) (sym items) ∙ e));
      each = λ k j t s f e d. ⊎_elim
          (λ was. ⊎_elim
          (λ was'. still_taken j.stage t s at.lacked c.either-lacked.result (λ no. (sum no).0) (i.each k j t s f was was'))
          (λ (q : (k ≡ length at.states.items) × (came.state ≡ s)). let low = get_lt at.transcripts.items t k was in let same = q.0 in let len = i.count' in absurd (omega arith))
          (get_snoc at.states.items came.state s k (ap (λ l. slice_get l k) (sym sts) ∙ d)))
          (λ (p : (k ≡ n) × (came.transcript ≡ t)). ⊎_elim
          (λ was'. let low = get_lt at.states.items s k was' in let same = p.0 in let len = i.count' in absurd (omega arith))
          (λ (q : (k ≡ length at.states.items) × (came.state ≡ s)).
          let job_is : job ≡ j = some_same job j (sym here ∙ (ap (slice_get c.args.jobs.items) (sym p.0) ∙ f)) in
          let F : Stage × Transcript × SessionState → Type 0 = λ x. IsTaken x.0 x.1 x.2 c.either-lacked.result in
          let same : job.stage ≡ j.stage = ap (λ x. x.stage) job_is in
          subst F (λ z. (same z, p.1 z, q.1 z)) taken)
          (get_snoc at.states.items came.state s k (ap (λ l. slice_get l k) (sym sts) ∙ d)))
          (get_snoc at.transcripts.items came.transcript t k (ap (λ l. slice_get l k) (sym ts) ∙ e));
    }
