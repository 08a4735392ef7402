-- A round, from the runs of its sessions; and what stays of it in a longer trail.
use Rattle.std.proofs.Common.{ℕ, ◌≡◌, ◌≤◌, ◌<◌, ◌+◌, Bool, false, List, [], ◌++◌, Vec, length, map, take, drop, refl, sym, ◌∙◌, ap, subst, arith, length-append}
use Rattle.std.specs.Global.{Global}
use Rattle.std.proofs.lemmas.List.{append-nil, take-append-le}
use Rattle.std.proofs.Math.Seq.{take-length, drop-append_seam}
use Rattle.px_lex.specs.Script.{SeenPiece, pieces_from, seen_piece}
use Rattle.px_lex.specs.declared.script.Piece.{Piece}
use Rattle.px_script.specs.declared.script.SessionText.{SessionText}
use Rattle.px_trail.specs.declared.entry.Entry.{Entry}
use Rattle.px_trail.specs.Trail.{acts_by}
use Rattle.px_calls.specs.Known.{Known}
use Rattle.px_reply.specs.declared.transcript.Transcript.{Transcript}
use Rattle.px_session.specs.declared.run.SessionRun.{SessionRun}
use Rattle.px_session.specs.declared.state.SessionState.{SessionState}
use Rattle.px_session.specs.Live.{seen_of}
use Rattle.px_session.specs.Replies.{IsSessionAnswered}
use Rattle.px_session.proofs.Lives.{begins, stays as stays_answered}
use Rattle.px_rounds.specs.Rounds.{HasRound, IsToldIn, text_in}
use Rattle.px_rounds.specs.Turns.{as_seat, AreLive, TrailGoesOn, IsNoSession, IsSingle, Turned}
use Rattle.px_rounds.specs.inner.Desks.{AreCut, AreFirst, AreSessionsTold, IsCut, IsTold}
use Rattle.px_rounds.proofs.Lists.{get_lt, get_some}

pub stays : (k : Known) → IsSingle k → TrailGoesOn k k
stays k one = record { more = []; seen = sym (append-nil k.seen); base = refl; damaged = refl; single = one }

-- what lies between two places of a trail that has grown
pub between : (k k' : Known) (more : List Entry) → k'.seen ≡ k.seen ++ more → drop (length k.seen) (take (length k'.seen) k'.seen) ≡ more
between k k' more e = ap (drop (length k.seen)) (take-length k'.seen) ∙ (ap (drop (length k.seen)) e ∙ drop-append_seam k.seen more)

pub forward : (k k' : Known) (more : List Entry) → k'.seen ≡ k.seen ++ more → length k.seen ≤ length k'.seen
forward k k' more e = let l = ap length e in let a = length-append k.seen more in omega arith

module _ (sound : Type 0) where
  -- 1. A round

  pub first_live : (k : Known) (number from : ℕ) (states : List SessionState) (round : List SessionText) (all : List (Vec Piece Global)) (runs : List SessionRun) → from ≡ length k.seen → AreCut round (length states) all → AreFirst number from states all runs → AreLive sound k states runs
  first_live k number from states round all runs here cut h = record {
    count = sym h.count;
    each = λ i st run s e.
        let low = get_lt states st i s in
        let pieces = get_some all i (let c = cut.count_is in omega arith) in
        begins sound st from run (as_seat (i + 1) k) here (h.each i st pieces.0 run s pieces.1 e).starts;
  }

  pub turned_goes : (k k' : Known) (runs runs' : List SessionRun) → Turned sound k runs k' runs' → TrailGoesOn k k'
  turned_goes k k' runs runs' h = record { more = h.more; seen = h.seen; base = h.base; damaged = h.damaged; single = h.single }

  pub told_in : (k k' : Known) (number from n : ℕ) (st : SessionState) (text : List ℕ) (pieces : List Piece) (run run' : SessionRun) (t : Transcript) (st' : SessionState) (lacked : Bool) → k'.seat ≡ n → from ≡ length k.seen → run.pieces.items ≡ pieces → run'.pieces ≡ run.pieces → run.session ≡ n → run'.session ≡ run.session → run.round ≡ number
      → run'.round ≡ run.round → run.from ≡ from → run'.from ≡ run.from → IsCut text pieces → IsTold sound k' st run' t st' lacked → IsToldIn sound k' (length k.seen) (length k'.seen) number st text t st' lacked
  told_in k k' number from n st text pieces run run' t st' lacked seat here are pieces' session session' round round' from_is from' cut told =
      let same : seen_of run' ≡ pieces_from 0 cut.sections = ap (λ v. map seen_piece v.items) pieces' ∙ (ap (map seen_piece) are ∙ cut.cut) in
      let F : ℕ × List SeenPiece → Type 0 = λ q. IsSessionAnswered sound k' q.0 (length k'.seen) st q.1 t st' told.ending in
      record {
        session = told.session ∙ (session' ∙ (session ∙ sym seat));
        round = told.round ∙ (round' ∙ round);
        sections = cut.sections;
        cut = cut.script;
        ending = told.ending;
        answered = subst F (λ i. ((from' ∙ (from_is ∙ here)) i, same i)) told.answered;
        whole = told.whole;
      }

  pub turned_round : (k k' : Known) (number from : ℕ) (states : List SessionState) (round : List SessionText) (all : List (Vec Piece Global)) (runs runs' : List SessionRun) (ts : List Transcript) (states' : List SessionState) (lacked : Bool) → from ≡ length k.seen → AreCut round (length states) all
      → AreFirst number from states all runs → Turned sound k runs k' runs' → AreSessionsTold sound k' states runs' ts states' lacked → HasRound sound k' (length k.seen) (length k'.seen) number states round ts states' lacked
  turned_round k k' number from states round all runs runs' ts states' lacked here cut first turned told = record {
    forward = forward k k' turned.more turned.seen;
    within = omega arith;
    count = told.count ∙ (turned.same.count ∙ first.count);
    count' = told.count' ∙ (turned.same.count ∙ first.count);
    each = λ i st t st' e f g.
        let low : i < length states = get_lt states st i e in
        let pieces = get_some all i (let c = cut.count_is in omega arith) in
        let run = get_some runs i (let c = first.count in omega arith) in
        let run' = get_some runs' i (let c = first.count in let d = turned.same.count in omega arith) in
        let one = first.each i st pieces.0 run.0 e pieces.1 run.1 in
        let same = turned.same.each i run.0 run'.0 run.1 run'.1 in
        told_in (as_seat (i + 1) k) (as_seat (i + 1) k') number from (i + 1) st (text_in round (i + 1)) pieces.0.items run.0 run'.0 t st' lacked refl here one.pieces_are same.pieces one.session same.session one.round same.round one.starts.from_is same.from
        (cut.each i pieces.0 pieces.1) (told.each i st run'.0 t st' e run'.1 f g);
    others = λ n none. ap (acts_by n) (between k k' turned.more turned.seen) ∙ turned.others n (subst (λ (c : ℕ). IsNoSession c n) (sym first.count) none);
  }

  -- where memory was lacked later, what was told stays told
  pub still_told : (k : Known) (st : SessionState) (run : SessionRun) (t : Transcript) (st' : SessionState) (lacked lacked' : Bool) → (lacked' ≡ false → lacked ≡ false) → IsTold sound k st run t st' lacked → IsTold sound k st run t st' lacked'
  still_told k st run t st' lacked lacked' less h = record { session = h.session; round = h.round; ending = h.ending; answered = h.answered; whole = λ no. h.whole (less no) }

  -- 2. In a longer trail

  front_is : (k k' : Known) (to : ℕ) → TrailGoesOn k k' → to ≤ length k.seen → take to k'.seen ≡ take to k.seen
  front_is k k' to h le = ap (take to) h.seen ∙ take-append-le to k.seen h.more le

  told_on_in : (n : ℕ) (k k' : Known) (from to number : ℕ) (st : SessionState) (text : List ℕ) (t : Transcript) (st' : SessionState) (memory memory' : Bool) → TrailGoesOn k k' → (memory' ≡ false → memory ≡ false) → IsToldIn sound (as_seat n k) from to number st text t st' memory
      → IsToldIn sound (as_seat n k') from to number st text t st' memory'
  told_on_in n k k' from to number st text t st' memory memory' goes less h = record {
    session = h.session;
    round = h.round;
    sections = h.sections;
    cut = h.cut;
    ending = h.ending;
    answered = stays_answered sound (as_seat n k) (as_seat n k') goes.more from to st (pieces_from 0 h.sections) t st' h.ending refl goes.base goes.damaged goes.seen h.answered;
    whole = λ no. h.whole (less no);
  }

  pub round_on : (k k' : Known) (from to number : ℕ) (states : List SessionState) (round : List SessionText) (ts : List Transcript) (states' : List SessionState) (memory memory' : Bool) → TrailGoesOn k k' → (memory' ≡ false → memory ≡ false) → HasRound sound k from to number states round ts states' memory
      → HasRound sound k' from to number states round ts states' memory'
  round_on k k' from to number states round ts states' memory memory' goes less h = record {
    forward = h.forward;
    within = (let low = h.within in let more = forward k k' goes.more goes.seen in omega arith);
    count = h.count;
    count' = h.count';
    each = λ i st t st' e f g. told_on_in (i + 1) k k' from to number st (text_in round (i + 1)) t st' memory memory' goes less (h.each i st t st' e f g);
    others = λ n none. ap (λ (l : List Entry). acts_by n (drop from l)) (front_is k k' to goes h.within) ∙ h.others n none;
  }
