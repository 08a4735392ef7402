-- What the items of a run leave together: one that tells of the disk has an entry that tells it; where none stops its session, each seat has ended and
-- closed all that it began and opened; and where memory wasn't lacked, each session came to its end.
use Rattle.std.proofs.Common.{ℕ, zero, suc, ◌≡◌, ◌≢◌, ◌≤◌, ◌<◌, ◌+◌, ◌||◌, Bool, true, false, None, Some, List, [], ◌∷◌, ◌++◌, length, map, take, drop, replicate, refl, sym, ◌∙◌, ap, subst, arith, inl, inr, ⊎_elim}
use Rattle.std.specs.Prelude.{slice_get}
use Rattle.std.specs.List.{list_any}
use Rattle.std.proofs.lemmas.Bool.{cases_lt, false≢true}
use Rattle.std.proofs.lemmas.Grind.{flat_map-append}
use Rattle.std.proofs.lemmas.List.{append-nil}
use Rattle.std.proofs.lemmas.List.Elements.{filter-append}
use Rattle.std.proofs.lemmas.List.Folds.{list_any-append}
use Rattle.px_lex.specs.Script.{SeenPiece, pieces_from}
use Rattle.px_script.specs.Pieces.{span_of}
use Rattle.px_script.specs.declared.piece.Span.{Span}
use Rattle.px_item.proofs.Again.{again_only}
use Rattle.px_script.specs.declared.script.SessionText.{SessionText}
use Rattle.px_trail.specs.Trail.{acts_by}
use Rattle.px_trail.specs.declared.entry.Entry.{Entry}
use Rattle.px_calls.specs.Known.{Known, is_turn, outline}
use Rattle.px_calls.proofs.Runs.{acts_by-append}
use Rattle.px_reply.specs.declared.transcript.Item.{Item}
use Rattle.px_reply.specs.declared.transcript.Transcript.{Transcript}
use Rattle.px_item.specs.Right.{known_after}
use Rattle.px_item.specs.declared.answered.After.{After}
use Rattle.px_item.specs.declared.answered.After.TheVariants as next_is
use Rattle.px_item.specs.declared.answered.Settings.{Settings}
use Rattle.px_session.specs.Replies.{AreReplied, EndsAs, IsSessionAnswered, IsReplied, Standing, answer_with, onward, at_first, has_fatal, is_fatal, is_stopped, own_since, place_from}
use Rattle.px_session.specs.declared.state.Ending.{Ending}
use Rattle.px_session.specs.declared.state.Ending.TheVariants.{Fatal, Memory, Whole}
use Rattle.px_session.specs.declared.state.SessionState.{SessionState}
use Rattle.px_rounds.specs.Rounds.{AreRounds, HasRound, IsToldIn, all_transcripts, first_state, text_in}
use Rattle.px_rounds.specs.Turns.{as_seat}
use Rattle.px_rounds.proofs.Lists.{get_lt, get_some, some_same}
use Rattle.px_server.specs.Kept.{has_told}
use Rattle.px_program.specs.Complete.{AreItemsOf, AreWholeRounds, IsCommit, IsWhole, IsWholeRound}
use Rattle.px_program.specs.Status.{is_of_disk, items_of, refused_by, some_refused_by}
use Rattle.px_alone.proofs.Balanced.{IsBalanced, balanced-append, balanced-none}
use Rattle.px_program.proofs.Flat.{any_of}
use Rattle.px_program.proofs.Items.{IsUndamaged, fair, told_front}

-- ---- 1. Lists

pub or_elim : {A : Type 0} (a b : Bool) → (a ≡ true → A) → (b ≡ true → A) → (a || b) ≡ true → A
or_elim true b f g h = f refl
or_elim false b f g h = g h

pub or_none : (a b : Bool) → (a || b) ≡ false → (a ≡ false) × (b ≡ false)
or_none true b h = absurd (false≢true (sym h))
or_none false b h = (refl, h)

front_then : {A : Type 0} (b c : ℕ) (xs : List A) → b ≤ c → take c xs ≡ take b xs ++ drop b (take c xs)
front_then zero c xs h = refl
front_then (suc b) zero xs h = absurd (omega arith)
front_then (suc b) (suc c) [] h = refl
front_then (suc b) (suc c) (x ∷ xs) h = ap (λ l. x ∷ l) (front_then b c xs (omega arith))

-- what lies between two places, by what lies before and after one between them
seam : {A : Type 0} (a b c : ℕ) (xs : List A) → a ≤ b → b ≤ c → drop a (take c xs) ≡ drop a (take b xs) ++ drop b (take c xs)
seam zero b c xs h j = front_then b c xs j
seam (suc a) zero c xs h j = absurd (omega arith)
seam (suc a) (suc b) zero xs h j = absurd (omega arith)
seam (suc a) (suc b) (suc c) [] h j = refl
seam (suc a) (suc b) (suc c) (x ∷ xs) h j = seam a b c xs (omega arith) (omega arith)

none_between : {A : Type 0} (n : ℕ) (xs : List A) → drop n (take n xs) ≡ []
none_between zero xs = refl
none_between (suc n) [] = refl
none_between (suc n) (x ∷ xs) = none_between n xs

-- the place of an element that passes
any_at : {A : Type 0} (p : A → Bool) (xs : List A) → list_any p xs ≡ true → (i : ℕ) × (x : A) × (slice_get xs i ≡ Some x) × (p x ≡ true)
any_at p [] h = absurd (false≢true h)
any_at p (x ∷ xs) h = or_elim (p x) (list_any p xs) (λ tell. (zero, x, refl, tell)) (λ more. let r = any_at p xs more in (suc r.0, r.1, r.2, r.3)) h

none_at : {A : Type 0} (p : A → Bool) (xs : List A) (i : ℕ) (x : A) → list_any p xs ≡ false → slice_get xs i ≡ Some x → p x ≡ false
none_at p [] i x quiet is = absurd (past i is)
  where
    past : (i : ℕ) → slice_get [] i ≡ Some x → ⊥
    past i e = cc
none_at p (y ∷ ys) zero x quiet is = ap p (sym (some_same y x is)) ∙ (or_none (p y) (list_any p ys) quiet).0
none_at p (y ∷ ys) (suc i) x quiet is = none_at p ys i x (or_none (p y) (list_any p ys) quiet).1 is

-- ---- 2. What a seat did

own_then : (seat a b c : ℕ) (es : List Entry) → a ≤ b → b ≤ c → own_since seat a (take c es) ≡ own_since seat a (take b es) ++ own_since seat b (take c es)
own_then seat a b c es h j =
    ap (λ (l : List Entry). outline (acts_by seat l)) (seam a b c es h j)
    ∙ (ap outline (acts_by-append seat (drop a (take b es)) (drop b (take c es))) ∙ filter-append is_turn (acts_by seat (drop a (take b es))) (acts_by seat (drop b (take c es))))

own_none : (seat n m : ℕ) (es : List Entry) → n ≡ m → own_since seat n (take m es) ≡ []
unfolding acts_by
own_none seat n m es e = ap (λ (q : ℕ). own_since seat q (take m es)) e ∙ ap (λ (l : List Entry). outline (acts_by seat l)) (none_between m es)

balanced_then : (seat a b c : ℕ) (es : List Entry) → a ≤ b → b ≤ c → IsBalanced (own_since seat a (take b es)) → IsBalanced (own_since seat b (take c es)) → IsBalanced (own_since seat a (take c es))
balanced_then seat a b c es h j x y = subst IsBalanced (sym (own_then seat a b c es h j)) (balanced-append _ _ x y)

-- items between two places: where no place is found damaged, one that tells of the disk has an entry that tells it; and where none stops the session, its
-- seat leaves nothing under way
record AreFair (sound : Type 0) (k : Known) (n m : ℕ) (items : List Item) : Type 0 where
  told : IsUndamaged sound k → some_refused_by is_of_disk items ≡ true → has_told k.seen ≡ true
  balanced : has_fatal items ≡ false → IsBalanced (own_since k.seat n (take m k.seen))

module _ (sound : Type 0) where
  pub forward : (k : Known) (n : ℕ) (at : Standing) (items : List Item) (m : ℕ) (to : Standing) → AreReplied sound k n at items m to → n ≤ m
  forward k n at [] m to h = (let e = h.0 in omega arith)
  forward k n at (i ∷ is) m to h = (let a = h.4.begins in let b = h.4.ends in let c = forward k i.evidence.last (onward h.2 h.0 h.1) is m to h.5 in omega arith)

  -- ---- 3. A session in a round

  items_fair : (k : Known) (n : ℕ) (at : Standing) (items : List Item) (m : ℕ) (to : Standing) → AreReplied sound k n at items m to → AreFair sound k n m items
  items_fair k n at [] m to h = record { told = λ whole tell. absurd (false≢true tell); balanced = λ go. subst IsBalanced (sym (own_none k.seat n m k.seen h.0)) balanced-none }
  items_fair k n at (i ∷ is) m to h =
      let last = i.evidence.last in
      let one = fair sound (known_after last k) n (own_since k.seat n (take last k.seen)) at.settings h.0 (answer_with i h.2) h.4.right in
      let others = items_fair k last (onward h.2 h.0 h.1) is m to h.5 in
      let low : n ≤ last = (let a = h.4.begins in let b = h.4.ends in omega arith) in
      let high : last ≤ m = forward k last (onward h.2 h.0 h.1) is m to h.5 in
      record {
        told = λ whole tell. or_elim (refused_by is_of_disk i.reply) (some_refused_by is_of_disk is) (λ here. told_front last k.seen (one.told whole here)) (others.told whole) tell;
        balanced = λ go. (let none = or_none (is_fatal i.reply) (has_fatal is) go in balanced_then k.seat n last m k.seen low high (one.balanced none.0) (others.balanced none.1));
      }

  session_fair : (k : Known) (from to : ℕ) (st : SessionState) (ps : List SeenPiece) (t : Transcript) (st' : SessionState) (e : Ending) → IsSessionAnswered sound k from to st ps t st' e → AreFair sound k from to t.items
  session_fair k from to st ps t st' e h =
      let items = items_fair k from (at_first st ps) t.items h.last h.standing h.replied in
      record {
        told = items.told;
        balanced = λ go. balanced_then k.seat from h.last to k.seen (forward k from (at_first st ps) t.items h.last h.standing h.replied) h.in_round (items.balanced go) (subst IsBalanced (sym h.rest) balanced-none);
      }

  -- ---- 4. Rounds

  module _ (k : Known) where
    at_seat : (from to number : ℕ) (states : List SessionState) (round : List SessionText) (ts : List Transcript) (states' : List SessionState) (memory : Bool) → HasRound sound k from to number states round ts states' memory
        → (i : ℕ) (t : Transcript) → slice_get ts i ≡ Some t → AreFair sound (as_seat (i + 1) k) from to t.items
    at_seat from to number states round ts states' memory h i t is =
        let low = get_lt ts t i is in
        let st = get_some states i (let c = h.count in omega arith) in
        let st' = get_some states' i (let c = h.count in let c' = h.count' in omega arith) in
        let told = h.each i st.0 t st'.0 st.1 is st'.1 in
        session_fair (as_seat (i + 1) k) from to st.0 (pieces_from 0 told.sections) t st'.0 told.ending told.answered

    round_told : (from to number : ℕ) (states : List SessionState) (round : List SessionText) (ts : List Transcript) (states' : List SessionState) (memory : Bool) → HasRound sound k from to number states round ts states' memory → IsUndamaged sound k → some_refused_by is_of_disk (items_of ts) ≡ true → has_told k.seen ≡ true
    round_told from to number states round ts states' memory h whole tell =
        let at = any_at (λ (t : Transcript). some_refused_by is_of_disk t.items) ts (any_of (λ (i : Item). refused_by is_of_disk i.reply) ts ∙ tell) in
        (at_seat from to number states round ts states' memory h at.0 at.1 at.2).told whole at.3

    pub round_balanced : (from to number : ℕ) (states : List SessionState) (round : List SessionText) (ts : List Transcript) (states' : List SessionState) (memory : Bool) → HasRound sound k from to number states round ts states' memory → has_fatal (items_of ts) ≡ false
        → (seat : ℕ) → IsBalanced (own_since seat from (take to k.seen))
    round_balanced from to number states round ts states' memory h go zero = subst IsBalanced (sym (ap outline (h.others zero (inl refl)))) balanced-none
    round_balanced from to number states round ts states' memory h go (suc i) = ⊎_elim
        (λ (low : i < length states).
        let t = get_some ts i (let c = h.count in omega arith) in
        let none = none_at (λ (t : Transcript). has_fatal t.items) ts i t.0 (any_of (λ (j : Item). is_fatal j.reply) ts ∙ go) t.1 in
        let up : i + 1 ≡ suc i = omega arith in
        subst (λ (seat : ℕ). IsBalanced (own_since seat from (take to k.seen))) up ((at_seat from to number states round ts states' memory h i t.0 t.1).balanced none))
        (λ (past : length states ≤ i). subst IsBalanced (sym (ap outline (h.others (suc i) (inr (omega arith))))) balanced-none)
        (cases_lt i (length states))

    items_next : (ts : List Transcript) (tss : List (List Transcript)) → items_of (all_transcripts (ts ∷ tss)) ≡ items_of ts ++ items_of (all_transcripts tss)
    items_next ts tss = flat_map-append (λ (t : Transcript). t.items) ts (all_transcripts tss)

    any_next : (p : Item → Bool) (ts : List Transcript) (tss : List (List Transcript)) → list_any p (items_of (all_transcripts (ts ∷ tss))) ≡ (list_any p (items_of ts) || list_any p (items_of (all_transcripts tss)))
    any_next p ts tss = ap (list_any p) (items_next ts tss) ∙ list_any-append p (items_of ts) (items_of (all_transcripts tss))

    pub rounds_told : (from number : ℕ) (states : List SessionState) (rounds : List (List SessionText)) (tss : List (List Transcript)) (to : ℕ) (states' : List SessionState) (memory : Bool) → AreRounds sound k from number states rounds tss to states' memory
        → IsUndamaged sound k → some_refused_by is_of_disk (items_of (all_transcripts tss)) ≡ true → has_told k.seen ≡ true
    rounds_told from number states [] [] to states' memory h whole tell = absurd (false≢true tell)
    rounds_told from number states (r ∷ rs) (ts ∷ tss) to states' memory h whole tell = or_elim (some_refused_by is_of_disk (items_of ts)) (some_refused_by is_of_disk (items_of (all_transcripts tss)))
        (λ here. round_told from h.0 number states r ts h.1 memory h.2 whole here)
        (λ more. rounds_told h.0 (number + 1) h.1 rs tss to states' memory h.3 whole more)
        (sym (any_next (λ (i : Item). refused_by is_of_disk i.reply) ts tss) ∙ tell)
    rounds_told from number states [] (ts ∷ tss) to states' memory h whole tell = absurd h
    rounds_told from number states (r ∷ rs) [] to states' memory h whole tell = absurd h

    pub rounds_forward : (from number : ℕ) (states : List SessionState) (rounds : List (List SessionText)) (tss : List (List Transcript)) (to : ℕ) (states' : List SessionState) (memory : Bool) → AreRounds sound k from number states rounds tss to states' memory → from ≤ to
    rounds_forward from number states [] [] to states' memory h = (let e = h.0 in omega arith)
    rounds_forward from number states (r ∷ rs) (ts ∷ tss) to states' memory h = (let a = h.2.forward in let b = rounds_forward h.0 (number + 1) h.1 rs tss to states' memory h.3 in omega arith)
    rounds_forward from number states [] (ts ∷ tss) to states' memory h = absurd h
    rounds_forward from number states (r ∷ rs) [] to states' memory h = absurd h

    pub rounds_balanced : (from number : ℕ) (states : List SessionState) (rounds : List (List SessionText)) (tss : List (List Transcript)) (to : ℕ) (states' : List SessionState) (memory : Bool) → AreRounds sound k from number states rounds tss to states' memory
        → has_fatal (items_of (all_transcripts tss)) ≡ false → (seat : ℕ) → IsBalanced (own_since seat from (take to k.seen))
    rounds_balanced from number states [] [] to states' memory h go seat = subst IsBalanced (sym (own_none seat from to k.seen h.0)) balanced-none
    rounds_balanced from number states (r ∷ rs) (ts ∷ tss) to states' memory h go seat =
        let none = or_none (has_fatal (items_of ts)) (has_fatal (items_of (all_transcripts tss))) (sym (any_next (λ (i : Item). is_fatal i.reply) ts tss) ∙ go) in
        balanced_then seat from h.0 to k.seen h.2.forward (rounds_forward h.0 (number + 1) h.1 rs tss to states' memory h.3)
        (round_balanced from h.0 number states r ts h.1 memory h.2 none.0 seat)
        (rounds_balanced h.0 (number + 1) h.1 rs tss to states' memory h.3 none.1 seat)
    rounds_balanced from number states [] (ts ∷ tss) to states' memory h go seat = absurd h
    rounds_balanced from number states (r ∷ rs) [] to states' memory h go seat = absurd h

-- ---- 5. Sessions that came to their end

-- no session is stopped
pub AreGoing : List SessionState → Type 0
AreGoing states = (i : ℕ) (st : SessionState) → slice_get states i ≡ Some st → st.stopped ≡ false

pub fresh_going : (n : ℕ) → AreGoing (replicate n first_state)
unfolding AreGoing
fresh_going n i st is = all n i is
  where
    all : (n i : ℕ) → slice_get (replicate n first_state) i ≡ Some st → st.stopped ≡ false
    all zero i e = absurd (past i e)
      where
        past : (i : ℕ) → slice_get [] i ≡ Some st → ⊥
        past i e = cc
    all (suc n) zero e = ap (λ (x : SessionState). x.stopped) (sym (some_same first_state st e))
    all (suc n) (suc i) e = all n i e

-- a session ends whole, unless it is stopped or memory is lacked
pub ended_whole : (e : Ending) (left : List SeenPiece) (items : List Item) → e ≢ Memory → EndsAs e left items → has_fatal items ≡ false → (e ≡ Whole) × (left ≡ [])
ended_whole Whole left items lacks h go = (refl, h.0)
ended_whole Fatal left items lacks h go =
    absurd (false≢true (sym go ∙ (ap has_fatal h.is ∙ (list_any-append (λ (j : Item). is_fatal j.reply) h.before (h.item ∷ []) ∙ (ap (λ (v : Bool). v || (is_fatal h.item.reply || false)) h.quiet ∙ ap (λ (v : Bool). v || false) h.fatal)))))
ended_whole Memory left items lacks h go = absurd (lacks refl)

-- the first item is that of the first piece, and no commit before it
abbrev pub FirstAlone : List Span → List Item → Type 0
FirstAlone [] items = Unit {0}
FirstAlone (p ∷ ps) [] = ⊥
FirstAlone (p ∷ ps) (i ∷ items) = (i.statement ≡ p) × AreItemsOf ps items

module _ (sound : Type 0) where
  -- an item of a piece, and those behind it; where nothing is held, no commit stands in front of it
  AreSpans : Settings → List SeenPiece → List Item → Type 0
  AreSpans st ps items = AreItemsOf (map span_of ps) items × (st.held ≡ None → FirstAlone (map span_of ps) items)

  behind_commit : (p : Span) (ps : List Span) (items : List Item) → FirstAlone (p ∷ ps) items → (j : Item) × (rest : List Item) × (items ≡ j ∷ rest) × (j.statement ≡ p) × AreItemsOf ps rest
  behind_commit p ps [] h = absurd h
  behind_commit p ps (j ∷ rest) h = (j, rest, refl, h.0, h.1)

  one_span : (k : Known) (n : ℕ) (st : Settings) (i : Item) (is : List Item) (p : SeenPiece) (rest : List SeenPiece) (next : After) → IsReplied sound k n st p i next → AreSpans (onward next p rest).settings (onward next p rest).left is → AreSpans st (p ∷ rest) (i ∷ is)
  unfolding AreSpans
  one_span k n st i is p rest (next_is.Next st') r more = ((r.statement, inl more.0), λ none. (r.statement, more.0))
  one_span k n st i is p rest (next_is.Again st') r more =
      let way = again_only (answer_with i (next_is.Again st')) st' refl sound (known_after i.evidence.last k) n (own_since k.seat n (take i.evidence.last k.seen)) st p r.right in
      let next = behind_commit (span_of p) (map span_of rest) is (more.1 way.none) in
      ((r.statement, inr (next.0, next.1, way.reply, next.2, next.3, next.4)), λ none. absurd (way.held none))

  spans : (k : Known) (n : ℕ) (at : Standing) (items : List Item) (m : ℕ) (to : Standing) → AreReplied sound k n at items m to → to.left ≡ [] → AreSpans at.settings at.left items
  unfolding AreSpans
  spans k n at [] m to h none = subst (λ (l : List SeenPiece). AreSpans at.settings l []) (sym (ap (λ (x : Standing). x.left) h.1 ∙ none)) (refl, λ e. tt)
  spans k n at (i ∷ is) m to h none =
      subst (λ (l : List SeenPiece). AreSpans at.settings l (i ∷ is)) (sym h.3) (one_span k n at.settings i is h.0 h.1 h.2 h.4 (spans k i.evidence.last (onward h.2 h.0 h.1) is m to h.5 none))

  whole_session : (k : Known) (from to number : ℕ) (st : SessionState) (text : List ℕ) (t : Transcript) (st' : SessionState) (memory : Bool) → memory ≡ false → st.stopped ≡ false → has_fatal t.items ≡ false → IsToldIn sound k from to number st text t st' memory
      → IsWhole text t × (st'.stopped ≡ false)
  unfolding AreSpans
  whole_session k from to number st text t st' memory enough goes go h =
      let a = h.answered in
      let ps = pieces_from 0 h.sections in
      let e = ended_whole h.ending a.standing.left t.items (h.whole enough) a.ends go in
      let all : (at_first st ps).left ≡ ps = ap (λ (v : Bool). drop (place_from (length ps) v) ps) goes in
      let each : AreItemsOf (map span_of ps) t.items = subst (λ (l : List SeenPiece). AreItemsOf (map span_of l) t.items) all (spans k from (at_first st ps) t.items a.last a.standing a.replied e.1).0 in
      let still : st'.stopped ≡ false = ap (λ (x : SessionState). x.stopped) a.state ∙ (ap (λ (v : Bool). v || is_stopped h.ending) goes ∙ ap is_stopped e.0) in
      (record { sections = h.sections; cut = h.cut; each = each }, still)

  whole_round : (k : Known) (from to number : ℕ) (states : List SessionState) (round : List SessionText) (ts : List Transcript) (states' : List SessionState) (memory : Bool) → memory ≡ false → AreGoing states → has_fatal (items_of ts) ≡ false
      → HasRound sound k from to number states round ts states' memory → IsWholeRound (length states) round ts × AreGoing states'
  unfolding AreGoing
  whole_round k from to number states round ts states' memory enough goes go h = (
    record {
      count = h.count;
      each = λ i t is.
          let st = get_some states i (let c = h.count in let l = get_lt ts t i is in omega arith) in
          let st' = get_some states' i (let c = h.count in let c' = h.count' in let l = get_lt ts t i is in omega arith) in
          (at i st.0 t st'.0 st.1 is st'.1).0;
    },
    (λ i st' is.
        let st = get_some states i (let c' = h.count' in let l = get_lt states' st' i is in omega arith) in
        let t = get_some ts i (let c = h.count in let c' = h.count' in let l = get_lt states' st' i is in omega arith) in
        (at i st.0 t.0 st' st.1 t.1 is).1),
  )
    where
      at : (i : ℕ) (st : SessionState) (t : Transcript) (st' : SessionState) → slice_get states i ≡ Some st → slice_get ts i ≡ Some t → slice_get states' i ≡ Some st' → IsWhole (text_in round (i + 1)) t × (st'.stopped ≡ false)
      at i st t st' e f g = whole_session (as_seat (i + 1) k) from to number st (text_in round (i + 1)) t st' memory enough (goes i st e) (none_at (λ (t : Transcript). has_fatal t.items) ts i t (any_of (λ (j : Item). is_fatal j.reply) ts ∙ go) f) (h.each i st t st' e f g)

  pub whole_rounds : (k : Known) (n from number : ℕ) (states : List SessionState) (rounds : List (List SessionText)) (tss : List (List Transcript)) (to : ℕ) (states' : List SessionState) (memory : Bool) → memory ≡ false → length states ≡ n → AreGoing states → has_fatal (items_of (all_transcripts tss)) ≡ false
      → AreRounds sound k from number states rounds tss to states' memory → AreWholeRounds n rounds tss
  whole_rounds k n from number states [] [] to states' memory enough count goes go h = tt
  whole_rounds k n from number states (r ∷ rs) (ts ∷ tss) to states' memory enough count goes go h =
      let both : has_fatal (items_of (all_transcripts (ts ∷ tss))) ≡ (has_fatal (items_of ts) || has_fatal (items_of (all_transcripts tss))) =
      ap has_fatal (flat_map-append (λ (t : Transcript). t.items) ts (all_transcripts tss)) ∙ list_any-append (λ (i : Item). is_fatal i.reply) (items_of ts) (items_of (all_transcripts tss)) in
      let none = or_none (has_fatal (items_of ts)) (has_fatal (items_of (all_transcripts tss))) (sym both ∙ go) in
      let one = whole_round k from h.0 number states r ts h.1 memory enough goes none.0 h.2 in
      (subst (λ (m : ℕ). IsWholeRound m r ts) count one.0, whole_rounds k n h.0 (number + 1) h.1 rs tss to states' memory enough (h.2.count' ∙ count) one.1 none.1 h.3)
  whole_rounds k n from number states [] (ts ∷ tss) to states' memory enough count goes go h = absurd h
  whole_rounds k n from number states (r ∷ rs) [] to states' memory enough count goes go h = absurd h
