-- What a run that has one session alone tells is a fold: round by round, of what the session's items come to and of what comes behind the last of them.
use Rattle.std.proofs.Common.{ℕ, zero, suc, ◌≡◌, ◌≢◌, ◌<◌, ◌≤◌, ◌+◌, ◌-◌, ◌⊎◌, ◌||◌, ◌==◌, not, if◌then◌else◌, Bool, true, false, Option, None, Some, List, [], ◌∷◌, ◌++◌, length, map, take, drop, replicate, refl, sym, ◌∙◌, ap, subst, arith, inl, inr, ⊎_elim}
use Rattle.std.specs.Prelude.{slice_get}
use Rattle.std.specs.List.{All, AllByRecursion, flat_map}
use Rattle.std.proofs.lemmas.Bool.{cases_eq, cases_lt, false≢true, ne_eqb}
use Rattle.std.proofs.lemmas.Grind.{flat_map-append}
use Rattle.std.proofs.lemmas.List.{append-nil, length-replicate}
use Rattle.std.proofs.lemmas.List.Elements.{All-head, All-tail}
use Rattle.std.proofs.Math.Seq.{take-length}
use Rattle.px_lex.specs.Script.{IsScript, Section, SeenPiece, pieces_from}
use Rattle.px_lex.proofs.OneScript.{one_script}
use Rattle.px_script.specs.Scripts.{IsReadableScript, StopsScript, script_of}
use Rattle.px_script.specs.declared.script.ScriptFault.{ScriptFault}
use Rattle.px_script.specs.declared.script.ScriptFault.TheVariants as unread
use Rattle.px_script.specs.declared.script.SessionText.{SessionText}
use Rattle.px_trail.specs.Batches.{batch_from}
use Rattle.px_trail.specs.Legal.{IsLegal}
use Rattle.px_trail.specs.Trail.{acts_by}
use Rattle.px_trail.specs.declared.entry.Act.{Act}
use Rattle.px_trail.specs.declared.entry.Entry.{Entry}
use Rattle.px_calls.specs.Known.{Known, outline}
use Rattle.px_reply.specs.Printed.{has_items, head, printed, printed_items, printed_reply, printed_transcript}
use Rattle.px_reply.specs.Refusals.{refusal_in}
use Rattle.px_reply.specs.declared.refusal.Refusal.{Refusal}
use Rattle.px_reply.specs.declared.refusal.Refusal.TheVariants as refusal
use Rattle.px_reply.specs.declared.reply.Reply.{Reply}
use Rattle.px_reply.specs.declared.transcript.Item.{Item}
use Rattle.px_reply.specs.declared.transcript.Transcript.{Transcript}
use Rattle.px_item.specs.declared.answered.Settings.{Settings}
use Rattle.px_session.specs.Replies.{AreReplied, Standing, at_first, has_fatal, is_stopped, own_since, place_from, stops_session}
use Rattle.px_session.specs.declared.state.Ending.{Ending}
use Rattle.px_session.specs.declared.state.Ending.TheVariants.{Whole}
use Rattle.px_session.specs.declared.state.SessionState.{SessionState}
use Rattle.px_alone.specs.Alone.{ActsAlone, AloneEvent, AloneThrough, AreQuiet, IsFolded, IsOwnCause, entries_between, replies_of, rises, stamps_drawn, tables_at, trail_rises, trail_stamps}
use Rattle.px_alone.specs.Tables.{Tables, tables_first}
use Rattle.px_alone.proofs.Balanced.{ended-after}
use Rattle.px_alone.proofs.Folding.{drop-none, folds, joined, parted, rises-append, stamps-append}
use Rattle.px_alone.proofs.Idle.{drawn-then, folded-none, folded-on, rises-then, tables-none}
use Rattle.px_alone.proofs.Outcomes.{no-closing, no-memory}
use Rattle.px_alone.proofs.Rows.{AllDone}
use Rattle.px_alone.proofs.Standing.{OthersQuiet, quiet-parts}
use Rattle.px_rounds.specs.Rounds.{AreRounds, AreWithin, HasRound, IsToldIn, RanScript, all_transcripts, first_state, fresh_sessions, text_in}
use Rattle.px_rounds.specs.Turns.{as_seat}
use Rattle.px_rounds.proofs.Lists.{get_lt, get_some, some_same}
use Rattle.px_load.specs.Script.{load_text}
use Rattle.px_program.specs.Answers.{AnswersJob, stopped_by}
use Rattle.px_program.specs.OneSession.{ArePiecesOf, AreToldTo, FoldsJob, HasRunAll, IsFoldOf, NamesOnly, printed_to}
use Rattle.px_program.specs.Status.{causes_of, items_of, quiet_status, status_of, whole_status}
use Rattle.px_program.specs.declared.causes.Causes.{Causes}
use Rattle.px_program.specs.declared.causes.Place.{Place}
use Rattle.px_program.specs.declared.job.Job.{Job}
use Rattle.px_program.specs.declared.job.Job.TheVariants.{Script, Verify, Load}
use Rattle.px_program.specs.declared.status.Status.{Status}
use Rattle.px_program.specs.declared.status.Status.TheVariants as status
use Rattle.px_program.proofs.Sessions.{ended_whole, forward, round_balanced, rounds_forward}

-- ---- 1. Lists

get_none : {A : Type 0} (i : ℕ) (x : A) → slice_get [] i ≡ Some x → ⊥
get_none i x e = cc

-- where all give nothing
flat_none : {A : Type 0} (f : Transcript → List A) (ts : List Transcript) → ((j : ℕ) (u : Transcript) → slice_get ts j ≡ Some u → f u ≡ []) → flat_map f ts ≡ []
flat_none f [] none = refl
flat_none f (t ∷ ts) none = ap (λ l. l ++ flat_map f ts) (none zero t refl) ∙ flat_none f ts (λ j u at. none (suc j) u at)

-- and where one alone gives something
flat_one : {A : Type 0} (f : Transcript → List A) (ts : List Transcript) (i : ℕ) (t : Transcript) → slice_get ts i ≡ Some t → ((j : ℕ) (u : Transcript) → slice_get ts j ≡ Some u → j ≢ i → f u ≡ []) → flat_map f ts ≡ f t
flat_one f [] i t is none = absurd (get_none i t is)
flat_one f (x ∷ ts) zero t is none = ap (λ l. f x ++ l) (flat_none f ts (λ j u at. none (suc j) u at (λ e. absurd (omega (arith, e))))) ∙ (append-nil (f x) ∙ ap f (some_same x t is))
flat_one f (x ∷ ts) (suc i) t is none = ap (λ l. l ++ flat_map f ts) (none zero x refl (λ e. absurd (omega (arith, e)))) ∙ flat_one f ts i t is (λ j u at apart. none (suc j) u at (λ e. apart (omega (arith, e))))

quiet_both : (xs ys : List Item) → AreQuiet (xs ++ ys) → AreQuiet xs × AreQuiet ys
quiet_both [] ys h = (tt, h)
quiet_both (x ∷ xs) ys h = (let r = quiet_both xs ys h.1 in ((h.0, r.0), r.1))

-- ---- 2. Replies

own_not_fatal : (o : Option Refusal) → IsOwnCause o → stops_session o ≡ false
own_not_fatal None h = refl
own_not_fatal (Some refusal.WriteFault) h = no-closing h
own_not_fatal (Some (refusal.Closed call)) h = no-closing h
own_not_fatal (Some r) h = refl

quiet_not_fatal : (items : List Item) → AreQuiet items → has_fatal items ≡ false
quiet_not_fatal [] h = refl
quiet_not_fatal (i ∷ items) h = ap (λ (v : Bool). v || has_fatal items) (own_not_fatal (refusal_in i.reply) h.0) ∙ quiet_not_fatal items h.1

none_if : {A : Type 0} (v : Bool) (x : List A) → (if v || true then [] else x) ≡ []
none_if true x = refl
none_if false x = refl

head_none : (n : ℕ) → head n false ≡ []
head_none n = none_if (n == 1) _

prints_none : (t : Transcript) → t.items ≡ [] → printed_transcript t ≡ []
prints_none t e = ap (λ (l : List Item). head t.session (has_items l) ++ printed_items l) e ∙ ap (λ (l : List ℕ). l ++ []) (head_none t.session)

replies_flat : (items : List Item) → printed_items items ≡ flat_map printed_reply (map (λ i. i.reply) items)
replies_flat [] = refl
replies_flat (i ∷ items) = ap (λ (l : List ℕ). printed_reply i.reply ++ l) (replies_flat items)

prints_to : (n : ℕ) (items : List Item) → head n (has_items items) ++ printed_items items ≡ printed_to n (map (λ i. i.reply) items)
prints_to n [] = ap (λ (l : List ℕ). l ++ []) (head_none n)
prints_to n (i ∷ items) =
    let some : has_items (i ∷ items) ≡ true = ap not (ne_eqb (length (i ∷ items)) 0 (λ e. absurd (omega (arith, e)))) in
    ap (λ (v : Bool). head n v ++ printed_items (i ∷ items)) some ∙ ap (λ (l : List ℕ). head n true ++ l) (replies_flat (i ∷ items))

prints_one : (n : ℕ) (t : Transcript) → t.session ≡ n → printed_transcript t ≡ printed_to n (map (λ i. i.reply) t.items)
prints_one n t e = ap (λ (s : ℕ). head s (has_items t.items) ++ printed_items t.items) e ∙ prints_to n t.items

-- ---- 3. Sessions that have no text

text_other : (round : List SessionText) (n m : ℕ) → All (λ x. x.session ≡ n) round → m ≢ n → text_in round m ≡ []
text_other [] n m only apart = refl
text_other (x ∷ xs) n m only apart =
    let here : x.session ≡ n = All-head (λ y. y.session ≡ n) x xs only in
    ap (λ (v : Bool). if v then x.text else text_in xs m) (ne_eqb x.session m (λ e. apart (sym e ∙ here))) ∙ text_other xs n m (All-tail (λ y. y.session ≡ n) x xs only) apart

text_none : (round : List SessionText) (n most : ℕ) → All (λ x. x.session ≡ n) round → All (λ x. x.session ≤ most) round → most < n → text_in round n ≡ []
text_none [] n most only within past = refl
text_none (x ∷ xs) n most only within past = absurd (omega (arith, past, All-head (λ y. y.session ≡ n) x xs only, All-head (λ y. y.session ≤ most) x xs within))

no_piece : (p : SeenPiece) (rest : List SeenPiece) → [] ≡ p ∷ rest → ⊥
no_piece p rest e = cc

left_none : (st : SessionState) (ps : List SeenPiece) → ps ≡ [] → (at_first st ps).left ≡ []
left_none st ps e =
    ap (λ (l : List SeenPiece). drop (place_from (length l) st.stopped) l) e ∙ elim st.stopped as (λ v. drop {A = SeenPiece} (place_from 0 v) [] ≡ []) [
      | true ↦ refl
      | false ↦ refl
    ]

-- the session is told nothing, and does nothing
record IsUntold (j : Known) (from to : ℕ) (t : Transcript) : Type 0 where
  items_are : t.items ≡ []
  own : own_since j.seat from (take to j.seen) ≡ []

module _ (sound : Type 0) where
  none_replied : (j : Known) (n : ℕ) (at : Standing) (items : List Item) (m : ℕ) (to : Standing) → at.left ≡ [] → AreReplied sound j n at items m to → (items ≡ []) × (n ≡ m)
  none_replied j n at [] m to none h = (refl, h.0)
  none_replied j n at (i ∷ is) m to none h = absurd (no_piece h.0 h.1 (sym none ∙ h.3))

  untold : (j : Known) (from to number : ℕ) (st : SessionState) (text : List ℕ) (t : Transcript) (st' : SessionState) (memory : Bool) → text ≡ [] → IsToldIn sound j from to number st text t st' memory → IsUntold j from to t
  untold j from to number st text t st' memory e h =
      let a = h.answered in
      let none : h.sections ≡ [] = one_script [] h.sections [] (subst (λ (x : List ℕ). IsScript x h.sections) e h.cut) (refl, tt) in
      let r = none_replied j from (at_first st (pieces_from 0 h.sections)) t.items a.last a.standing (left_none st (pieces_from 0 h.sections) (ap (pieces_from 0) none)) a.replied in
      record { items_are = r.0; own = ap (λ (q : ℕ). own_since j.seat q (take to j.seen)) r.1 ∙ a.rest }

-- ---- 4. A round

-- the session's settings, where it is one of these; it isn't stopped
StandsAt : ℕ → List SessionState → Settings → Type 0
StandsAt n states st = (i : ℕ) (s : SessionState) → slice_get states i ≡ Some s → i + 1 ≡ n → s ≡ record { settings = st; stopped = false }

whole_state : (e : Ending) (st : Settings) (s : SessionState) → s ≡ record { settings = st; stopped = is_stopped e } → e ≡ Whole → s ≡ record { settings = st; stopped = false }
whole_state e st s is whole = is ∙ ap (λ (x : Ending). record { settings = st; stopped = is_stopped x }) whole

record IsRoundOf (k : Known) (n from to : ℕ) (states' : List SessionState) (round : List SessionText) (ts : List Transcript) (st : Settings) : Type 0 where
  sections : List Section
  cut : IsScript (text_in round n) sections
  behind : Settings
  stands : StandsAt n states' behind
  items : List Item
  flat : items_of ts ≡ items
  prints : printed ts ≡ printed_to n (map (λ i. i.reply) items)
  folded : IsFolded k.base k.seen from to (record { settings = st; left = pieces_from 0 sections }) items (record { settings = behind; left = [] })
  done : AllDone (take to k.seen)

module _ (sound : Type 0) (k : Known) (legal : IsLegal k.base k.seen)
    (law : (j : Known) (a b : ℕ) (at to : Standing) (items : List Item) → ActsAlone j a b → AreQuiet items → AreReplied sound j a at items b to → IsFolded j.base j.seen a b at items to) where
  module _ (n from to number : ℕ) (states : List SessionState) (round : List SessionText) (ts : List Transcript) (states' : List SessionState) (memory : Bool) (h : HasRound sound k from to number states round ts states' memory) (only : All (λ x. x.session ≡ n) round) (st : Settings) (done : AllDone (take from k.seen)) (own : AreQuiet (items_of ts)) where
    other : (j : ℕ) (t : Transcript) → j + 1 ≢ n → slice_get ts j ≡ Some t → IsUntold (as_seat (j + 1) k) from to t
    other j t apart is =
        let low = get_lt ts t j is in
        let s = get_some states j (let c = h.count in omega arith) in
        let s' = get_some states' j (let c = h.count in let c' = h.count' in omega arith) in
        untold sound (as_seat (j + 1) k) from to number s.0 (text_in round (j + 1)) t s'.0 memory (text_other round n (j + 1) only apart) (h.each j s.0 t s'.0 s.1 is s'.1)

    quiet : (q : ℕ) → q ≢ n → outline (acts_by q (entries_between from to k.seen)) ≡ []
    quiet zero apart = ap outline (h.others zero (inl refl))
    quiet (suc j) apart = ⊎_elim
        (λ (low : j < length states).
        let t = get_some ts j (let c = h.count in omega arith) in
        let up : j + 1 ≡ suc j = omega arith in
        subst (λ (q : ℕ). outline (acts_by q (entries_between from to k.seen)) ≡ []) up (other j t.0 (λ e. apart (sym up ∙ e)) t.1).own)
        (λ (past : length states ≤ j). ap outline (h.others (suc j) (inr (omega arith))))
        (cases_lt j (length states))

    done_then : AllDone (take to k.seen)
    done_then =
        subst AllDone (sym (joined from to k.seen h.forward))
        (ended-after (take from k.seen) (entries_between from to k.seen) done (λ seat. round_balanced sound k from to number states round ts states' memory h (quiet_not_fatal (items_of ts) own) seat))

    -- the session isn't among them: nothing is told
    absent : length states < n → All (λ x. x.session ≤ length states) round → IsRoundOf k n from to states' round ts st
    unfolding StandsAt
    absent past within = record {
      sections = [];
      cut = (sym (text_none round n (length states) only within past), tt);
      behind = st;
      stands = λ i s is up. absurd (omega (arith, past, up, h.count', get_lt states' s i is));
      items = [];
      flat = flat_none (λ (t : Transcript). t.items) ts (λ j t is. (other j t (apart j t is) is).items_are);
      prints = flat_none printed_transcript ts (λ j t is. prints_none t (other j t (apart j t is) is).items_are);
      folded = folded-on k.base k.seen from from to (record { settings = st; left = [] }) (record { settings = st; left = [] }) [] (omega arith) h.forward (omega (arith, h.forward, h.within)) idle (folded-none k.base k.seen from (record { settings = st; left = [] }));
      done = done_then;
    }
      where
        apart : (j : ℕ) (t : Transcript) → slice_get ts j ≡ Some t → j + 1 ≢ n
        apart j t is e = absurd (omega (arith, past, e, h.count, get_lt ts t j is))

        idle : (seat : ℕ) → outline (acts_by seat (entries_between from to k.seen)) ≡ []
        idle seat = elim (cases_eq seat n) [
          | inl same ↦ subst (λ (q : ℕ). outline (acts_by q (entries_between from to k.seen)) ≡ []) (sym same) (ap outline (h.others n (inr past)))
          | inr ne ↦ quiet seat ne
        ]

    -- it is: what its items come to, and what comes behind the last of them
    present : (i : ℕ) → i + 1 ≡ n → i < length states → StandsAt n states st → memory ≡ false → IsRoundOf k n from to states' round ts st
    unfolding StandsAt
    present i same low stands enough =
        let s = get_some states i low in
        let t = get_some ts i (omega (arith, low, h.count)) in
        let s' = get_some states' i (omega (arith, low, h.count')) in
        let was : SessionState = record { settings = st; stopped = false } in
        let here : IsToldIn sound (as_seat n k) from to number s.0 (text_in round n) t.0 s'.0 memory = subst (λ (q : ℕ). IsToldIn sound (as_seat q k) from to number s.0 (text_in round q) t.0 s'.0 memory) same (h.each i s.0 t.0 s'.0 s.1 t.1 s'.1) in
        let told : IsToldIn sound (as_seat n k) from to number was (text_in round n) t.0 s'.0 memory = subst (λ (x : SessionState). IsToldIn sound (as_seat n k) from to number x (text_in round n) t.0 s'.0 memory) (stands i s.0 s.1 same) here in
        let a = told.answered in
        let last : ℕ = a.last in
        let at : Standing = record { settings = st; left = pieces_from 0 told.sections } in
        let apart : (j : ℕ) → j ≢ i → j + 1 ≢ n = λ j ne e. ne (omega (arith, same, e)) in
        let flat : items_of ts ≡ t.0.items = flat_one (λ (u : Transcript). u.items) ts i t.0 t.1 (λ j u is ne. (other j u (apart j ne) is).items_are) in
        let prints : printed ts ≡ printed_transcript t.0 = flat_one printed_transcript ts i t.0 t.1 (λ j u is ne. prints_none u (other j u (apart j ne) is).items_are) in
        let mine : AreQuiet t.0.items = subst AreQuiet flat own in
        let e = ended_whole told.ending a.standing.left t.0.items (told.whole enough) a.ends (quiet_not_fatal t.0.items mine) in
        let on : from ≤ last = forward sound (as_seat n k) from at t.0.items last a.standing a.replied in
        let within : last ≤ length k.seen = omega (arith, a.in_round, h.within) in
        let parts : entries_between from to k.seen ≡ entries_between from last k.seen ++ entries_between last to k.seen = parted from last to k.seen on a.in_round within in
        let others = quiet-parts n (entries_between from last k.seen) (entries_between last to k.seen) (subst (λ (l : List Entry). OthersQuiet n l) parts quiet) in
        let acts : ActsAlone (as_seat n k) from last = record { legal = legal; forward = on; within = within; ended = done; others = others.0 } in
        let idle : (seat : ℕ) → outline (acts_by seat (entries_between last to k.seen)) ≡ [] = λ seat. elim (cases_eq seat n) [
          | inl eq ↦ subst (λ (q : ℕ). outline (acts_by q (entries_between last to k.seen)) ≡ []) (sym eq) a.rest
          | inr ne ↦ others.1 seat ne
        ] in
        let folded : IsFolded k.base k.seen from last at t.0.items a.standing = law (as_seat n k) from last at a.standing t.0.items acts mine a.replied in
        let ends : IsFolded k.base k.seen from last at t.0.items (record { settings = a.standing.settings; left = [] }) = subst (λ (l : List SeenPiece). IsFolded k.base k.seen from last at t.0.items (record { settings = a.standing.settings; left = l })) e.1 folded in
        let state : s'.0 ≡ record { settings = a.standing.settings; stopped = false } = whole_state told.ending a.standing.settings s'.0 a.state e.0 in
        record {
          sections = told.sections;
          cut = told.cut;
          behind = a.standing.settings;
          stands = λ j x is up. (let
              eq : j ≡ i = omega (arith, same, up)
              in let
              there : slice_get states' i ≡ Some x = subst (λ (q : ℕ). slice_get states' q ≡ Some x) eq is
              in some_same x s'.0 (sym there ∙ s'.1) ∙ state);
          items = t.0.items;
          flat = flat;
          prints = prints ∙ prints_one n t.0 told.session;
          folded = folded-on k.base k.seen from last to at (record { settings = a.standing.settings; left = [] }) t.0.items on a.in_round within idle ends;
          done = done_then;
        }

    a_round : 0 < n → All (λ x. x.session ≤ length states) round → StandsAt n states st → memory ≡ false → IsRoundOf k n from to states' round ts st
    a_round some within stands enough = ⊎_elim
        (λ (past : length states < n). absent past within)
        (λ (low : n ≤ length states). present (n - 1) (omega (arith, some)) (omega (arith, some, low)) stands enough)
        (cases_lt (length states) n)

  -- ---- 5. Rounds

  record IsThrough (n from to : ℕ) (st : Settings) (rounds : List (List SessionText)) (tss : List (List Transcript)) : Type 0 where
    pieces : List (List SeenPiece)
    cut : ArePiecesOf n rounds pieces
    events : List (List AloneEvent)
    settings : Settings
    through : AloneThrough (tables_at k.base (take from k.seen)) st pieces events (tables_at k.base (take to k.seen)) settings
    told : AreToldTo n tss events
    drawn : stamps_drawn (flat_map (λ e. e) events) ≡ trail_stamps (entries_between from to k.seen)
    rose : rises (flat_map (λ e. e) events) ≡ trail_rises (entries_between from to k.seen)

  all_rounds : (n most from number : ℕ) (states : List SessionState) (rounds : List (List SessionText)) (tss : List (List Transcript)) (to : ℕ) (states' : List SessionState) (memory : Bool) (st : Settings) → 0 < n → memory ≡ false → length states ≡ most → AreRounds sound k from number states rounds tss to states' memory
      → All (λ round. All (λ x. x.session ≡ n) round) rounds → AreWithin most rounds → StandsAt n states st → AllDone (take from k.seen) → AreQuiet (items_of (all_transcripts tss)) → IsThrough n from to st rounds tss
  all_rounds n most from number states [] [] to states' memory st some enough count h only within stands done own = record {
    pieces = [];
    cut = tt;
    events = [];
    settings = st;
    through = (ap (λ (q : ℕ). tables_at k.base (take q k.seen)) h.0, refl);
    told = tt;
    drawn = ap trail_stamps (sym (drop-none from k.seen)) ∙ ap (λ (q : ℕ). trail_stamps (entries_between from q k.seen)) h.0;
    rose = ap trail_rises (sym (drop-none from k.seen)) ∙ ap (λ (q : ℕ). trail_rises (entries_between from q k.seen)) h.0;
  }
  all_rounds n most from number states (r ∷ rs) (ts ∷ tss) to states' memory st some enough count h only within stands done own =
      let mid : ℕ = h.0 in
      let Only : List SessionText → Type 0 = λ round. All (λ x. x.session ≡ n) round in
      let Within : List SessionText → Type 0 = λ round. All (λ x. x.session ≤ most) round in
      let both = quiet_both (items_of ts) (items_of (all_transcripts tss)) (subst AreQuiet (flat_map-append (λ (t : Transcript). t.items) ts (all_transcripts tss)) own) in
      let low : All (λ x. x.session ≤ length states) r = subst (λ (m : ℕ). All (λ x. x.session ≤ m) r) (sym count) (All-head Within r rs within) in
      let one = a_round n from mid number states r ts h.1 memory h.2 (All-head Only r rs only) st done both.0 some low stands enough in
      let more = all_rounds n most mid (number + 1) h.1 rs tss to states' memory one.behind some enough (h.2.count' ∙ count) h.3 (All-tail Only r rs only) (All-tail Within r rs within) one.stands one.done both.1 in
      let up : mid ≤ to = rounds_forward sound k mid (number + 1) h.1 rs tss to states' memory h.3 in
      let parts : entries_between from to k.seen ≡ entries_between from mid k.seen ++ entries_between mid to k.seen = parted from mid to k.seen h.2.forward up h.2.within in
      let first : List AloneEvent = one.folded.events in
      let rest : List AloneEvent = flat_map (λ e. e) more.events in
      record {
        pieces = pieces_from 0 one.sections ∷ more.pieces;
        cut = ((one.sections, one.cut, refl), more.cut);
        events = first ∷ more.events;
        settings = more.settings;
        through = (tables_at k.base (take mid k.seen), one.behind, one.folded.alone, more.through);
        told = (ap (map (λ i. i.reply)) one.flat ∙ sym one.folded.told, one.prints ∙ ap (printed_to n) (sym one.folded.told), more.told);
        drawn = drawn-then first rest ∙ (ap (λ (l : List ℕ). l ++ stamps_drawn rest) one.folded.drawn ∙ (ap (λ (l : List ℕ). trail_stamps (entries_between from mid k.seen) ++ l) more.drawn ∙ (sym (stamps-append (entries_between from mid k.seen) (entries_between mid to k.seen)) ∙ ap trail_stamps (sym parts))));
        rose = rises-then first rest ∙ (ap (λ (l : List Act). l ++ rises rest) one.folded.rose ∙ (ap (λ (l : List Act). trail_rises (entries_between from mid k.seen) ++ l) more.rose ∙ (sym (rises-append (entries_between from mid k.seen) (entries_between mid to k.seen)) ∙ ap trail_rises (sym parts))));
      }
  all_rounds n most from number states [] (ts ∷ tss) to states' memory st some enough count h only within stands done own = absurd h
  all_rounds n most from number states (r ∷ rs) [] to states' memory st some enough count h only within stands done own = absurd h

  -- ---- 6. Scripts and jobs

  fresh_is : (m i : ℕ) (s : SessionState) → slice_get (replicate m first_state) i ≡ Some s → s ≡ first_state
  fresh_is zero i s e = absurd (get_none i s e)
  fresh_is (suc m) zero s e = sym (some_same first_state s e)
  fresh_is (suc m) (suc i) s e = fresh_is m i s e

  fresh_stands : (n m : ℕ) → StandsAt n (fresh_sessions m) first_state.settings
  unfolding StandsAt
  fresh_stands n m i s is up = fresh_is m i s is

  none_done : AllDone []
  unfolding batch_from
  none_done t s y e = cc

  script_folds : (n : ℕ) (script : List (List SessionText)) (ts : List Transcript) (sink_failed memory : Bool) → sink_failed ≡ false → memory ≡ false → NamesOnly n script → AreQuiet (items_of ts) → RanScript sound k 0 script ts sink_failed memory → IsFoldOf k.base k.seen n script ts
  script_folds n script ts sink_failed memory sent enough only own a =
      let r = a.ran in
      let most : ℕ = a.sessions in
      let all : r.passed ≡ script = sym (append-nil r.passed) ∙ (ap (λ (l : List (List SessionText)). r.passed ++ l) (sym (r.whole sent enough)) ∙ r.all) in
      let answered = subst (λ (rounds : List (List SessionText)). AreRounds sound k 0 1 (fresh_sessions most) rounds r.done (length k.seen) a.states memory) all r.answered in
      let mine : AreQuiet (items_of (all_transcripts r.done)) = subst (λ (l : List Transcript). AreQuiet (items_of l)) r.flat own in
      let z = all_rounds n most 0 1 (fresh_sessions most) script r.done (length k.seen) a.states memory first_state.settings only.0 enough (length-replicate most first_state) answered only.1 a.within (fresh_stands n most) none_done mine in
      record {
        pieces = z.pieces;
        cut = z.cut;
        events = z.events;
        settings = z.settings;
        through = subst (λ (l : List Entry). AloneThrough (tables_first k.base) first_state.settings z.pieces z.events (tables_at k.base l) z.settings) (take-length k.seen)
            (subst (λ (x : Tables). AloneThrough x first_state.settings z.pieces z.events (tables_at k.base (take (length k.seen) k.seen)) z.settings) (tables-none k.base) z.through);
        rounds = r.done;
        flat = r.flat;
        told = z.told;
        drawn = z.drawn ∙ ap trail_stamps (take-length k.seen);
        rose = z.rose ∙ ap trail_rises (take-length k.seen);
      }

  module _ (ts : List Transcript) (sink_failed memory : Bool) (sent : sink_failed ≡ false) (enough : memory ≡ false) (own : AreQuiet (items_of ts)) where
    -- nothing is run of a script that can't be read, or for want of memory
    not_stopped : (script : List ℕ) → IsReadableScript script → (fault : ScriptFault) → StopsScript script fault → (ts ≡ stopped_by fault (length script)) ⊎ ((ts ≡ []) × (memory ≡ true)) → ⊥
    not_stopped script readable unread.TooLong why told = absurd (omega (arith, why, readable.short))
    not_stopped script readable (unread.NotUtf8 place) why told = why.1 readable.utf8
    not_stopped script readable unread.Memory why (inl is) = no-memory (subst (λ (l : List Transcript). AreQuiet (items_of l)) is own).0
    not_stopped script readable unread.Memory why (inr none) = false≢true (sym enough ∙ none.1)

    not_lacked : (b : Bool) → (b ≡ true → memory ≡ true) → b ≡ false
    not_lacked true h = absurd (false≢true (sym enough ∙ h refl))
    not_lacked false h = refl

    job_folds : (job : Job) → AnswersJob sound k 0 job ts sink_failed memory → FoldsJob k.base k.seen job ts
    job_folds (Script script schedule) (inl a) = λ readable n only. script_folds n (script_of script) ts sink_failed memory sent enough only own a.ran
    job_folds (Script script schedule) (inr h) = λ readable n only. absurd (not_stopped script readable h.fault h.why h.told)
    job_folds (Verify v) h = tt
    job_folds (Load l) (inl h) = λ only. script_folds 1 (script_of (load_text l)) ts false h.lacked refl (not_lacked h.lacked h.told) only own h.ran
    job_folds (Load l) (inr h) = λ only. absurd (false≢true (sym enough ∙ h.lacked))

-- ---- 7. The status

all_not : (x : Status) → x ≢ status.Done → x ≢ status.Refused → HasRunAll x → ⊥
all_not x a b (inl e) = a e
all_not x a b (inr e) = b e

quiet_all : (memory lacked refused : Bool) → HasRunAll (quiet_status (memory || lacked) refused) → memory ≡ false
quiet_all true lacked refused h = absurd (all_not status.Memory (λ e. cc) (λ e. cc) h)
quiet_all false lacked refused h = refl

whole_all : (o : Option Place) (memory lacked refused : Bool) → HasRunAll (whole_status o (memory || lacked) refused) → memory ≡ false
whole_all None memory lacked refused h = quiet_all memory lacked refused h
whole_all (Some p) memory lacked refused h = absurd (all_not (status.Damaged p.file p.place) (λ e. cc) (λ e. cc) h)

-- the output took all, and memory wasn't lacked outside a statement
ran_all : (sink_failed : Bool) (failed : ℕ) (memory : Bool) (c : Causes) → HasRunAll (status_of sink_failed failed memory c) → (sink_failed ≡ false) × (memory ≡ false)
ran_all true failed memory c h = absurd (all_not status.SinkFault (λ e. cc) (λ e. cc) h)
ran_all false zero memory c h = (refl, whole_all c.damaged memory c.lacked c.refused h)
ran_all false (suc n) memory c h = absurd (all_not (status.Device (suc n)) (λ e. cc) (λ e. cc) h)

-- ---- 8. A run

pub run_folds : (sound : Type 0) (k : Known) (job : Job) (ts : List Transcript) (sink_failed memory : Bool) (failed : ℕ) (status : Status) → IsLegal k.base k.seen → AnswersJob sound k 0 job ts sink_failed memory
    → status ≡ status_of sink_failed failed memory (causes_of (items_of ts)) → sound → HasRunAll status → AreQuiet (items_of ts) → FoldsJob k.base k.seen job ts
run_folds sound k job ts sink_failed memory failed status legal answers is is_sound all quiet =
    let ran = ran_all sink_failed failed memory (causes_of (items_of ts)) (subst HasRunAll is all) in
    job_folds sound k legal (λ j a b at to items acts own replied. folds sound is_sound j a b at to items acts own replied) ts sink_failed memory ran.0 ran.1 quiet job answers
