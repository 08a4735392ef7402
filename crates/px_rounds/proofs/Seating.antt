-- Sessions at a lock: once it is closed, each is on its way by the whole trail, as on one thread.
use Rattle.std.proofs.Common.{ℕ, ◌≡◌, ◌≤◌, ◌<◌, ◌+◌, ◌==◌, if◌then◌else◌, Bool, true, false, All, Some, List, [], ◌∷◌, ◌++◌, Vec, length, refl, sym, ◌∙◌, ap, subst, arith, inl, inr}
use Rattle.std.specs.Global.{Global}
use Rattle.std.specs.Prelude.{slice_get}
use Rattle.std.proofs.lemmas.Bool.Decides.{Decides-eqb}
use Rattle.std.proofs.lemmas.List.{append-nil, append_cancel_left}
use Rattle.std.proofs.lemmas.List.Elements.{All-head, All-tail}
use Rattle.px_lex.specs.declared.script.Piece.{Piece}
use Rattle.px_script.specs.declared.script.SessionText.{SessionText}
use Rattle.px_trail.specs.declared.entry.Entry.{Entry}
use Rattle.px_trail.specs.Trail.{Base, acts_by}
use Rattle.px_calls.specs.Known.{Known, TimePasses}
use Rattle.px_reply.specs.declared.transcript.Transcript.{Transcript}
use Rattle.px_session.specs.declared.state.SessionState.{SessionState}
use Rattle.px_session.specs.Live.{ArePlaced, seen_of}
use Rattle.px_session.specs.Replies.{IsSessionAnswered}
use Rattle.px_session.proofs.Lives.{begins, live_passes}
use Rattle.px_turn.specs.declared.lock.TurnSeat.{TurnSeat}
use Rattle.px_turn.specs.Lists.{GrownBelow, GrownByOthers}
use Rattle.px_turn.specs.Seats.{AllSeats, Name, seat_number, seen_by_seat}
use Rattle.px_seat.specs.Grown.{IsOwned, mine}
use Rattle.px_seat.proofs.Lists.{others-apart, seat_of}
use Rattle.px_rounds.specs.Rounds.{HasRound, IsToldIn, text_in}
use Rattle.px_rounds.specs.Turns.{IsNoSession, as_seat}
use Rattle.px_rounds.specs.declared.job.Came.{Came}
use Rattle.px_rounds.specs.declared.job.Stage.{Stage}
use Rattle.px_rounds.specs.declared.job.Stage.TheVariants.{Over, Ready}
use Rattle.px_rounds.specs.inner.Desks.{AreCut, IsCut, IsFirst}
use Rattle.px_rounds.specs.inner.Jobs.{CanRun, IsCame, IsSet, IsTaken, RanJob, RanStage, SeatTold, SeatsTold, Unchanged}
use Rattle.px_rounds.proofs.Lists.{get_lt, get_some}
use Rattle.px_rounds.proofs.Rounding as rounding

-- entries of seats below n are none of a seat from n on
below_none : (n m : ℕ) (es : List Entry) → n ≤ m → All (λ (e : Entry). seat_of e < n) es → acts_by m es ≡ []
unfolding acts_by
below_none n m [] le h = refl
below_none n m (e ∷ es) le h =
    let lt : e.seat < n = All-head (λ (x : Entry). seat_of x < n) e es h in
    elim (e.seat == m) as (λ v. (e.seat == m) ≡ v → (if v then e.act ∷ acts_by m es else acts_by m es) ≡ []) [
      | true ↦ λ t. (let same : e.seat ≡ m = (Decides-eqb e.seat m).0 t in absurd (omega arith))
      | false ↦ λ t. below_none n m es le (All-tail (λ (x : Entry). seat_of x < n) e es h)
    ] refl

acts_some : (e : Entry) (es : List Entry) → acts_by e.seat (e ∷ es) ≡ [] → ⊥
unfolding acts_by
acts_some e es h =
    elim (e.seat == e.seat) as (λ v. (e.seat == e.seat) ≡ v → (if v then e.act ∷ acts_by e.seat es else acts_by e.seat es) ≡ [] → ⊥) [
      | true ↦ λ t n. cc
      | false ↦ λ t n. (let s : (e.seat == e.seat) ≡ true = (Decides-eqb e.seat e.seat).1 refl in cc)
    ] refl h

-- of a seat that has seen no more than at first nothing was added
idle_none : (n : ℕ) (start more fin : List Entry) → fin ≡ start ++ more → GrownByOthers seat_of n start fin → acts_by n more ≡ []
idle_none n start more fin is grown =
    let same : grown.0.0 ≡ more = append_cancel_left start grown.0.0 more (sym grown.0.1 ∙ is) in
    ap (acts_by n) (sym same) ∙ others-apart n start fin grown

-- where each seat has seen no more than at first, nothing was added
pub none_added : {T : Type 0} (start fin : List Entry) (name : Name) (seats : List (TurnSeat T Entry)) → AllSeats name seats → ((n : ℕ) (seat : TurnSeat T Entry) → slice_get seats n ≡ Some seat → seen_by_seat seat ≡ start) → GrownBelow seat_of (length seats) start fin
    → ((n : ℕ) (seat : TurnSeat T Entry) → slice_get seats n ≡ Some seat → GrownByOthers seat_of (seat_number seat) (seen_by_seat seat) fin) → fin ≡ start
none_added {T} start fin name seats all same below others = none below.0 below.1 below.2
  where
    none : (more : List Entry) → fin ≡ start ++ more → All (λ (e : Entry). seat_of e < length seats) more → fin ≡ start
    none [] is low = is ∙ append-nil start
    none (e ∷ es) is low =
        let seat = get_some seats e.seat (All-head (λ (x : Entry). seat_of x < length seats) e es low) in
        let F : ℕ × List Entry → Type 0 = λ q. GrownByOthers seat_of q.0 q.1 fin in
        let grown : GrownByOthers seat_of e.seat start fin = subst F (λ i. ((all.1 e.seat seat.0 seat.1).1 i, same e.seat seat.0 seat.1 i)) (others e.seat seat.0 seat.1) in
        absurd (acts_some e es (idle_none e.seat start (e ∷ es) fin is grown))

-- what a seat knows, and what the trail is once the lock was closed
at_last : (n : ℕ) (b : Base) (d : ℕ → ℕ → Bool) (seen : List Entry) (k' : Known) → IsOwned b d k' → GrownByOthers seat_of n seen k'.seen → TimePasses (mine n b d seen) (as_seat n k')
at_last n b d seen k' owned grown = record {
  others = grown.0.0;
  seen = grown.0.1;
  apart = others-apart n seen k'.seen grown;
  seat = refl;
  base = owned.base;
  damaged = owned.damaged;
  legal = owned.legal;
}

-- a job that may be run
pub can_run : (b : Base) (d : ℕ → ℕ → Bool) (start : List Entry) (number_is n : ℕ) (st : SessionState) (pieces : Vec Piece Global) (k : Known) (session round : ℕ) (stage : Stage) → ArePlaced pieces.items → IsSet b d start number_is n st pieces k session round stage → CanRun k session stage
can_run b d start number_is n st pieces k session round stage placed h = record { pieces = pieces; state = st; is = h.stage_is; placed = placed; seat = ap (λ (x : Known). x.seat) h.known ∙ sym h.session_is }

-- where memory was lacked later, what was taken stays taken
pub still_taken : (stage : Stage) (t : Transcript) (st : SessionState) (lacked lacked' : Bool) → (lacked' ≡ false → lacked ≡ false) → IsTaken stage t st lacked → IsTaken stage t st lacked'
still_taken stage t st lacked lacked' less h = record { came = h.came; is = h.is; transcript = h.transcript; state = h.state; whole = λ no. h.whole (less no) }

ready_same : (ps ps' : Vec Piece Global) (st st' : SessionState) → Ready ps st ≡ Ready ps' st' → (ps ≡ ps') × (st ≡ st')
ready_same ps ps' st st' e = (cc, cc)

over_same : (a b : Came) → Over a ≡ Over b → a ≡ b
over_same a b e = cc

module _ (sound : Type 0) where
  -- a session that was run keeps its seat
  pub keeps_seat : (b : Base) (d : ℕ → ℕ → Bool) (start : List Entry) (number_is n : ℕ) (st : SessionState) (pieces : Vec Piece Global) (k k' : Known) (session round : ℕ) (stage stage' : Stage) → IsSet b d start number_is n st pieces k session round stage → RanStage sound round k stage k' stage' → k'.seat ≡ n
  keeps_seat b d start number_is n st pieces k k' session round stage stage' set h =
      let live = begins sound h.state (length k.seen) h.first k refl h.begins.starts in
      (h.ran.steps h.state live).ran.seat ∙ ap (λ (x : Known). x.seat) set.known

  -- what a session came to that was run on its seat
  pub seat_told : (b : Base) (d : ℕ → ℕ → Bool) (start seen : List Entry) (number_is n : ℕ) (st : SessionState) (pieces : Vec Piece Global) (k k' : Known) (session round : ℕ) (stage stage' : Stage) (t : Transcript) (st' : SessionState) (lacked : Bool)
      → IsSet b d start number_is n st pieces k session round stage → RanStage sound round k stage k' stage' → k' ≡ mine n b d seen → IsTaken stage' t st' lacked → SeatTold sound b d start seen number_is n st pieces t st' lacked
  seat_told b d start seen number_is n st pieces k k' session round stage stage' t st' lacked set h there taken =
      let same = ready_same h.pieces pieces h.state st (sym h.was ∙ set.stage_is) in
      let came : h.came ≡ taken.came = over_same h.came taken.came (sym h.is ∙ taken.is) in
      let F : ℕ × Known × SessionState × Vec Piece Global → Type 0 = λ q. IsFirst q.0 (length q.1.seen) q.1.seat q.2 q.3.items h.first in
      let G : Known × Known → Type 0 = λ q. RanJob sound q.0 h.first q.1 h.last in
      let told : IsCame sound h.last taken.came = subst (λ (c : Came). IsCame sound h.last c) came h.told in
      let H : Transcript × SessionState → Known → Type 0 = λ q x. IsSessionAnswered sound x h.last.from (length x.seen) st (seen_of h.last) q.0 q.1 taken.came.ending in
      record {
        first = h.first;
        last = h.last;
        begins = subst F (λ i. (set.round_is i, set.known i, same.1 i, same.0 i)) h.begins;
        ran = subst G (λ i. (set.known i, there i)) h.ran;
        told = λ x live. record {
          session = ap (λ (y : Transcript). y.session) (sym taken.transcript) ∙ told.session;
          round = ap (λ (y : Transcript). y.round) (sym taken.transcript) ∙ told.round;
          ending = taken.came.ending;
          answered = subst (λ (q : Transcript × SessionState). H q x) (λ i. (taken.transcript i, taken.state i)) (told.answered x st live);
          whole = taken.whole;
        };
      }

  -- once the lock is closed it is told of the whole trail
  told_at_last : (b : Base) (d : ℕ → ℕ → Bool) (seen : List Entry) (k k' : Known) (number_is n : ℕ) (st : SessionState) (text : List ℕ) (pieces : Vec Piece Global) (t : Transcript) (st' : SessionState) (lacked : Bool) → IsOwned b d k' → GrownByOthers seat_of n seen k'.seen → IsCut text pieces.items
      → SeatTold sound b d k.seen seen number_is n st pieces t st' lacked → IsToldIn sound (as_seat n k') (length k.seen) (length k'.seen) number_is st text t st' lacked
  told_at_last b d seen k k' number_is n st text pieces t st' lacked owned grown cut h =
      let live = begins sound st (length k.seen) h.first (mine n b d k.seen) refl h.begins.starts in
      let came = h.ran.steps st live in
      let last = live_passes sound st h.last (mine n b d seen) (as_seat n k') (at_last n b d seen k' owned grown) came.live in
      let same = came.same in
      rounding.told_in sound k (as_seat n k') number_is (length k.seen) n st text pieces.items h.first h.last t st' lacked refl refl h.begins.pieces_are (ap (λ (q : Unchanged). q.0) same) h.begins.session (ap (λ (q : Unchanged). q.2) same)
      h.begins.round (ap (λ (q : Unchanged). q.3) same) h.begins.starts.from_is (ap (λ (q : Unchanged). q.1) same) cut (h.told (as_seat n k') last)

  -- the sessions of the round, from what came back of the threads
  pub seats_round : {T : Type 0} (b : Base) (d : ℕ → ℕ → Bool) (k k' : Known) (name : Name) (number_is : ℕ) (states : List SessionState) (round : List SessionText) (all : List (Vec Piece Global)) (seats : List (TurnSeat T Entry)) (ts : List Transcript) (states' : List SessionState) (lacked : Bool)
      → AreCut round (length states) all → SeatsTold sound b d k.seen number_is states all seats ts states' lacked → AllSeats name seats → IsOwned b d k' → GrownBelow seat_of (length seats) k.seen k'.seen
      → ((n : ℕ) (seat : TurnSeat T Entry) → slice_get seats n ≡ Some seat → GrownByOthers seat_of (seat_number seat) (seen_by_seat seat) k'.seen) → HasRound sound k' (length k.seen) (length k'.seen) number_is states round ts states' lacked
  seats_round {T} b d k k' name number_is states round all seats ts states' lacked cut h all_seats owned below others =
      let grown : (n : ℕ) (seat : TurnSeat T Entry) → slice_get seats n ≡ Some seat → GrownByOthers seat_of n (seen_by_seat seat) k'.seen =
      λ n seat e. subst (λ (m : ℕ). GrownByOthers seat_of m (seen_by_seat seat) k'.seen) (all_seats.1 n seat e).1 (others n seat e) in
      record {
        forward = rounding.forward k k' below.0 below.1;
        within = omega arith;
        count = h.count';
        count' = h.count'';
        each = λ i st t st' e f g.
            let low : i < length states = get_lt states st i e in
            let pieces = get_some all i (let c = cut.count_is in omega arith) in
            let seat = get_some seats (i + 1) (let c = h.count in omega arith) in
            told_at_last b d (seen_by_seat seat.0) k k' number_is (i + 1) st (text_in round (i + 1)) pieces.0 t st' lacked owned (grown (i + 1) seat.0 seat.1) (cut.each i pieces.0 pieces.1) (h.each i st pieces.0 seat.0 t st' e pieces.1 seat.1 f g);
        others = λ n none. ap (acts_by n) (rounding.between k k' below.0 below.1) ∙ apart n none grown;
      }
    where
      apart : (n : ℕ) → IsNoSession (length states) n → ((n : ℕ) (seat : TurnSeat T Entry) → slice_get seats n ≡ Some seat → GrownByOthers seat_of n (seen_by_seat seat) k'.seen) → acts_by n below.0 ≡ []
      apart n (inl zero_is) grown =
          let seat = get_some seats 0 (let c = h.count in omega arith) in
          let still = subst (λ (l : List Entry). GrownByOthers seat_of 0 l k'.seen) (h.idle seat.0 seat.1) (grown 0 seat.0 seat.1) in
          subst (λ (m : ℕ). acts_by m below.0 ≡ []) (sym zero_is) (idle_none 0 k.seen below.0 k'.seen below.1 still)
      apart n (inr more) grown = below_none (length seats) n below.0 (let c = h.count in omega arith) below.2
