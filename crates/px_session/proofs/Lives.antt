-- A session on its way: what keeps it, and how it goes on.
use Rattle.std.proofs.Common.{ℕ, zero, suc, ◌≡◌, ◌≢◌, ◌≤◌, ◌<◌, ◌+◌, Bool, true, false, ◌||◌, if◌then◌else◌, Option, None, Some, List, [], ◌∷◌, ◌++◌, length, take, drop, map, vec_capacity, Vec, refl, sym, ◌∙◌, ap, subst, arith, inl, inr}
use Rattle.std.specs.Global.{Global}
use Rattle.std.specs.Prelude.{slice_get}
use Rattle.std.proofs.lemmas.List.Folds.{list_any-append}
use Rattle.std.proofs.lemmas.List.{length-map}
use Rattle.std.proofs.Math.Seq.{take-length}
use Rattle.px_lex.specs.Script.{SeenPiece, seen_piece}
use Rattle.px_lex.specs.declared.script.Piece.{Piece}
use Rattle.px_script.specs.Pieces.{span_of}
use Rattle.px_script.specs.declared.piece.Span.{Span}
use Rattle.px_trail.specs.declared.entry.Act.{Act}
use Rattle.px_trail.specs.declared.entry.Entry.{Entry}
use Rattle.px_trail.specs.Trail.{acts_by}
use Rattle.std.proofs.lemmas.List.{take-append-le}
use Rattle.px_calls.specs.Known.{Known, Ran, TimePasses, outline}
use Rattle.px_calls.proofs.Runs.{ran-none, ran-then}
use Rattle.px_reply.specs.declared.transcript.Item.{Item}
use Rattle.px_reply.specs.declared.transcript.Transcript.{Transcript}
use Rattle.px_item.specs.declared.answered.After.{After}
use Rattle.px_item.specs.declared.answered.After.TheVariants as next_is
use Rattle.px_item.specs.declared.answered.Answered.{Answered}
use Rattle.px_item.specs.declared.answered.Asked.{Asked}
use Rattle.px_item.specs.declared.answered.Settings.{Settings}
use Rattle.px_item.specs.declared.item.ItemRun.{ItemRun}
use Rattle.px_item.specs.declared.item.ItemTurn.TheVariants as turn
use Rattle.px_item.specs.Right.{IsAtOnce, IsRight, known_after, plain}
use Rattle.px_item.specs.Right as right
use Rattle.px_item.specs.Turns.{FitsItem, IsItemBegun, ItemTurns}
use Rattle.px_item.proofs.Starting.{starts_fitting}
use Rattle.px_item.proofs.Passing.{fits_passes}
use Rattle.px_session.specs.declared.run.Doing.{Doing}
use Rattle.px_session.specs.declared.run.Doing.TheVariants.{Idle, Under, Taken}
use Rattle.px_session.specs.declared.run.SessionRun.{SessionRun}
use Rattle.px_session.specs.declared.state.Ending.{Ending}
use Rattle.px_session.specs.declared.state.Ending.TheVariants.{Whole, Memory}
use Rattle.px_session.specs.declared.state.SessionState.{SessionState}
use Rattle.px_session.specs.Replies.{AreReplied, EndsAs, IsSessionAnswered, IsReplied, Standing, at_first, goes_on as goes_to_next, onward, settled, has_fatal, is_fatal, own_since, place_from, state_after}
use Rattle.px_session.specs.Live.{EndsSoFar, HasRoom, IdleAtEnd, IsDoing, IsIdle, IsPieceBegun, IsPushed, IsSameSession, IsSessionLive, IsUnder, StartsFrom, StepsOn, UnderWay, fatal_ending, item_of, seen_of, settings_of, standing, with_doing}
use Rattle.px_session.proofs.Fronts.{Onward, longer, of_passes, of_ran, own_at_end, own_on, own_passes, same_known, told_on, told_snoc}

-- 1. Lists

drop_step : {A : Type 0} (n : ℕ) (xs : List A) (x : A) (rest : List A) → drop n xs ≡ x ∷ rest → drop (suc n) xs ≡ rest
drop_step zero [] x rest e = cc
drop_step zero (y ∷ ys) x rest e = cc
drop_step (suc n) [] x rest e = cc
drop_step (suc n) (y ∷ ys) x rest e = drop_step n ys x rest e

drop_more : {A : Type 0} (n : ℕ) (xs : List A) (x : A) (rest : List A) → drop n xs ≡ x ∷ rest → drop (n + 1) xs ≡ rest
drop_more n xs x rest e = let up : n + 1 ≡ suc n = omega arith in ap (λ (m : ℕ). drop m xs) up ∙ drop_step n xs x rest e

-- what is left behind an item
drop_onward : {A : Type 0} (n : ℕ) (xs : List A) (x : A) (rest : List A) (b : Bool) → drop n xs ≡ x ∷ rest → drop (if b then n + 1 else n) xs ≡ (if b then rest else x ∷ rest)
drop_onward n xs x rest true e = drop_more n xs x rest e
drop_onward n xs x rest false e = e

onward_is : (a : After) (p : SeenPiece) (rest : List SeenPiece) → onward a p rest ≡ record { settings = settled a; left = if goes_to_next a then rest else p ∷ rest }
onward_is (next_is.Next st) p rest = refl
onward_is (next_is.Again st) p rest = refl

drop_here : (n : ℕ) (ps : List Piece) (p : Piece) → slice_get ps n ≡ Some p → drop n (map seen_piece ps) ≡ seen_piece p ∷ drop (suc n) (map seen_piece ps)
drop_here zero [] p e = cc
drop_here (suc n) [] p e = cc
drop_here zero (q ∷ ps) p e = cc
drop_here (suc n) (q ∷ ps) p e = drop_here n ps p e

pub drop_past : (n : ℕ) (ps : List Piece) → slice_get ps n ≡ None → drop n (map seen_piece ps) ≡ []
drop_past zero [] e = refl
drop_past (suc n) [] e = refl
drop_past zero (q ∷ ps) e = cc
drop_past (suc n) (q ∷ ps) e = drop_past n ps e

none_left : {A : Type 0} (x : A) (rest : List A) → [] ≡ x ∷ rest → ⊥
none_left x rest e = cc

pub no_none : (ps : List Piece) (n : ℕ) (x : SeenPiece) (rest : List SeenPiece) → drop n (map seen_piece ps) ≡ x ∷ rest → slice_get ps n ≢ None
no_none ps n x rest e none = none_left x rest (sym (drop_past n ps none) ∙ e)

pub started_same : (run run' : SessionRun) (st : Settings) (p : Piece) (first : ℕ) (v : Vec Item Global) → UnderWay (record run { items = v }) st p first run' → IsSameSession (with_doing run (Idle st)) run'
started_same run run' st p first v (inl w) = let s = w.3.same in record { pieces = s.pieces; from = s.from; session = s.session; round = s.round }
started_same run run' st p first v (inr w) =
    let e = w.1.is in
    record {
      pieces = ap (λ (x : SessionRun). x.pieces) e;
      from = ap (λ (x : SessionRun). x.from) e;
      session = ap (λ (x : SessionRun). x.session) e;
      round = ap (λ (x : SessionRun). x.round) e;
    }

-- 2. Endings

or_false : (b : Bool) → (b || false) ≡ b
or_false true = refl
or_false false = refl

fatal_snoc : (is : List Item) (i : Item) → has_fatal (is ++ i ∷ []) ≡ (has_fatal is || is_fatal i.reply)
fatal_snoc is i = list_any-append (λ (j : Item). is_fatal j.reply) is (i ∷ []) ∙ ap (λ (b : Bool). has_fatal is || b) (or_false (is_fatal i.reply))

ends_snoc : (is : List Item) (i : Item) (left : List SeenPiece) (fatal : Bool) → is_fatal i.reply ≡ fatal → has_fatal is ≡ false → EndsSoFar (fatal_ending fatal) left (is ++ i ∷ [])
ends_snoc is i left true e quiet = record { before = is; item = i; is = refl; quiet = quiet; fatal = e }
ends_snoc is i left false e quiet = fatal_snoc is i ∙ (ap (λ (b : Bool). b || is_fatal i.reply) quiet ∙ e)

idle_at_end : (fatal : Bool) (d : Doing) → IsIdle d → IdleAtEnd (fatal_ending fatal) d
idle_at_end true d e = e
idle_at_end false d e = tt

quiet_so_far : (e : Option Ending) (left : List SeenPiece) (is : List Item) → e ≡ None → EndsSoFar e left is → has_fatal is ≡ false
quiet_so_far e left is none h = subst (λ (x : Option Ending). EndsSoFar x left is) none h

not_at_end : (e : Option Ending) (d : Doing) → e ≡ None → IdleAtEnd e d
not_at_end e d none = subst (λ (x : Option Ending). IdleAtEnd x d) (sym none) tt

module _ (sound : Type 0) (began : SessionState) where
  -- 3. Others' entries

  doing_passes : (k k' : Known) (n : ℕ) (left : List SeenPiece) (d : Doing) → TimePasses k k' → n ≤ length k.seen → IsDoing sound k n left d → IsDoing sound k' n left d
  doing_passes k k' n left (Idle st) p le h = own_passes k k' n (of_passes k k' p) le ∙ h
  doing_passes k k' n left (Under r span) p le h =
      let own = own_passes k k' n (of_passes k k' p) le in
      let fits = fits_passes sound n r.asked (own_since k.seat n k.seen) r.state k k' p h.fits in
      record { rest = h.rest; next = h.next; span_is = h.span_is; fits = subst (λ (l : List Act). FitsItem sound n r.asked l r.state k') (sym own) fits }
  doing_passes k k' n left Taken p le h = absurd h

  pub live_passes : (run : SessionRun) (k k' : Known) → TimePasses k k' → IsSessionLive sound k began run → IsSessionLive sound k' began run
  live_passes run k k' p h =
      let o = of_passes k k' p in
      record {
        replied = told_on sound k k' [] run.from _ run.items.items run.before (standing run) o h.replied;
        within = longer k k' [] run.before o h.within;
        doing = doing_passes k k' run.before (standing run).left run.doing p h.within h.doing;
        ends = h.ends;
        idle = h.idle;
        room = h.room;
        stopped = h.stopped;
        placed = h.placed;
      }

  -- 4. The beginning

  doing_idle : (k : Known) (n : ℕ) (left : List SeenPiece) (d : Doing) (st : Settings) → d ≡ Idle st → own_since k.seat n k.seen ≡ [] → IsDoing sound k n left d
  doing_idle k n left d st e none = subst (λ (x : Doing). IsDoing sound k n left x) (sym e) none

  is_idle : (d : Doing) (st : Settings) → d ≡ Idle st → IsIdle d
  is_idle d st e = subst IsIdle (sym e) tt

  room_idle : (d : Doing) (st : Settings) (m c : ℕ) → d ≡ Idle st → HasRoom d m c
  room_idle d st m c e = subst (λ (x : Doing). HasRoom x m c) (sym e) tt

  pub begins : (from : ℕ) (run : SessionRun) (k : Known) → from ≡ length k.seen → StartsFrom began from run → IsSessionLive sound k began run
  begins from run k here h =
      let none : own_since k.seat run.before k.seen ≡ [] = ap (λ (x : ℕ). own_since k.seat x k.seen) (h.before ∙ here) ∙ own_at_end k.seat k.seen in
      let count : length (seen_of run) ≡ length run.pieces.items = length-map run.pieces.items seen_piece in
      let at : at_first began (seen_of run) ≡ standing run =
      (λ j. record { settings = settings_of (sym h.doing j); left = drop ((ap (λ (n : ℕ). place_from n began.stopped) count ∙ sym h.next) j) (seen_of run) }) in
      let F : List Item → Type 0 = λ l. AreReplied sound k run.from (at_first began (seen_of run)) l run.before (standing run) in
      let G : Option Ending × List Item → Type 0 = λ q. EndsSoFar q.0 (standing run).left q.1 in
      record {
        replied = subst F (sym h.items) (h.from_is ∙ sym h.before, at);
        within = (let e = h.before in omega arith);
        doing = doing_idle k run.before (standing run).left run.doing began.settings h.doing none;
        ends = subst G (λ i. (sym h.ending i, sym h.items i)) refl;
        idle = not_at_end run.ending run.doing h.ending;
        room = room_idle run.doing began.settings _ _ h.doing;
        stopped = h.stopped;
        placed = h.placed;
      }

  -- 5. An item more

  -- the answer that was given after all that the seat has seen
  item_is : (k : Known) (n : ℕ) (st : Settings) (p : SeenPiece) (a : Answered) (span : Span) (last : ℕ) → span ≡ span_of p → n ≤ a.first → a.first ≤ last → last ≡ length k.seen → IsRight sound (plain k) n (own_since k.seat n k.seen) st p a
      → IsReplied sound k n st p (item_of span a last) a.after
  item_is k n st p a span last span_is begins ends here r =
      let same : take last k.seen ≡ k.seen = ap (λ (x : ℕ). take x k.seen) here ∙ take-length k.seen in
      let F : List Entry → Type 0 = λ l. IsRight sound (record { seat = k.seat; base = k.base; damaged = k.damaged; alone = false; seen = l }) n (own_since k.seat n l) st p a in
      record { statement = span_is; begins = begins; ends = ends; within = omega arith; right = subst F (sym same) r }

  item_done : (k k' : Known) (acts : List Act) (run run' : SessionRun) (d : Doing) (p : SeenPiece) (rest : List SeenPiece) (span : Span) (a : Answered) (last : ℕ) → Onward k k' acts → IsSessionLive sound k began (with_doing run d) → run.ending ≡ None
      → drop run.next (seen_of run) ≡ p ∷ rest → IsReplied sound k' run.before (settings_of d) p (item_of span a last) a.after → last ≡ length k'.seen → IsPushed run span a last run' → IsSessionLive sound k' began run'
  item_done k k' acts run run' d p rest span a last o live going next r here push =
      let i = item_of span a last in
      let at : Standing = record { settings = settings_of d; left = drop run.next (seen_of run) } in
      let told = told_on sound k k' acts run.from _ run.items.items run.before at o live.replied in
      let one = told_snoc sound k' run.from (at_first began (seen_of run)) run.items.items run.before at p rest i a.after told next r in
      let pieces : seen_of run' ≡ seen_of run = ap (λ v. map seen_piece v.items) push.same.pieces in
      let left : drop run'.next (seen_of run') ≡ (if goes_to_next a.after then rest else p ∷ rest) = (λ j. drop (push.next j) (pieces j)) ∙ drop_onward run.next (seen_of run) p rest (goes_to_next a.after) next in
      let parts : standing run' ≡ record { settings = settled a.after; left = if goes_to_next a.after then rest else p ∷ rest } = (λ j. record { settings = settings_of (push.doing j); left = left j }) in
      let stands : standing run' ≡ onward a.after p rest = parts ∙ sym (onward_is a.after p rest) in
      let F : ℕ × Standing × List Item × ℕ × Standing → Type 0 = λ q. AreReplied sound k' q.0 q.1 q.2 q.3 q.4 in
      let replied : AreReplied sound k' run'.from (at_first began (seen_of run')) run'.items.items run'.before (standing run') =
      subst F (λ x. (sym push.same.from x, at_first began (sym pieces x), sym push.items x, sym push.before x, sym stands x)) one in
      let none : own_since k'.seat run'.before k'.seen ≡ [] = ap (λ (x : ℕ). own_since k'.seat x k'.seen) (push.before ∙ here) ∙ own_at_end k'.seat k'.seen in
      let G : Option Ending × List Item → Type 0 = λ q. EndsSoFar q.0 (standing run').left q.1 in
      record {
        replied = replied;
        within = (let e = push.before ∙ here in omega arith);
        doing = doing_idle k' run'.before (standing run').left run'.doing (settled a.after) push.doing none;
        ends = subst G (λ x. (sym push.ending x, sym push.items x)) (ends_snoc run.items.items i (standing run').left (is_fatal a.reply) refl (quiet_so_far run.ending _ run.items.items going live.ends));
        idle = subst (λ (e : Option Ending). IdleAtEnd e run'.doing) (sym push.ending) (idle_at_end (is_fatal a.reply) run'.doing (is_idle run'.doing (settled a.after) push.doing));
        room = room_idle run'.doing (settled a.after) _ _ push.doing;
        stopped = push.stopped ∙ live.stopped;
        placed = subst (λ v. Rattle.px_session.specs.Live.ArePlaced v.items) (sym push.same.pieces) live.placed;
      }

  -- 6. Steps

  pub same_run : (run : SessionRun) → IsSameSession run run
  same_run run = record { pieces = refl; from = refl; session = refl; round = refl }

  pub no_call : (k : Known) (run run' : SessionRun) → IsSessionLive sound k began run' → IsSameSession run run' → StepsOn sound began k run k run'
  no_call k run run' live same = record { acts = []; ran = ran-none k; live = live; same = same }

  pub steps_then : (k k' k'' : Known) (a b c : SessionRun) → StepsOn sound began k a k' b → StepsOn sound began k' b k'' c → StepsOn sound began k a k'' c
  steps_then k k' k'' a b c h j = record {
    acts = h.acts ++ j.acts;
    ran = ran-then k k' k'' h.acts j.acts h.ran j.ran;
    live = j.live;
    same = record { pieces = j.same.pieces ∙ h.same.pieces; from = j.same.from ∙ h.same.from; session = j.same.session ∙ h.same.session; round = j.same.round ∙ h.same.round };
  }

  -- the item goes on
  pub goes_on : (k k' : Known) (run run' : SessionRun) (old new : ItemRun) (span : Span) (acts : List Act) → IsSessionLive sound k began (with_doing run (Under old span)) → run.ending ≡ None → Ran k k' acts → new.asked ≡ old.asked
      → FitsItem sound run.before old.asked (own_since k.seat run.before k.seen ++ outline acts) new.state k' → run' ≡ with_doing run (Under new span) → StepsOn sound began k (with_doing run (Under old span)) k' run'
  goes_on k k' run run' old new span acts live going ran asked fits is =
      let o = of_ran k k' acts ran in
      let d = live.doing in
      let own : own_since k'.seat run.before k'.seen ≡ own_since k.seat run.before k.seen ++ outline acts = own_on k k' acts run.before o live.within in
      let F : Asked × List Act → Type 0 = λ q. FitsItem sound run.before q.0 q.1 new.state k' in
      let at = told_on sound k k' acts run.from _ run.items.items run.before _ o live.replied in
      let now : IsSessionLive sound k' began (with_doing run (Under new span)) = record {
        replied = subst (λ (q : _). AreReplied sound k' run.from (at_first began (seen_of run)) run.items.items run.before (record { settings = q.settings; left = drop run.next (seen_of run) })) (sym asked) at;
        within = longer k k' acts run.before o live.within;
        doing = record {
          rest = d.rest;
          next = d.next ∙ ap (λ q. seen_piece q.piece ∷ d.rest) (sym asked);
          span_is = d.span_is ∙ ap (λ q. span_of (seen_piece q.piece)) (sym asked);
          fits = subst F (λ i. (sym asked i, sym own i)) fits;
        };
        ends = live.ends;
        idle = not_at_end run.ending (Under new span) going;
        room = live.room;
        stopped = live.stopped;
        placed = live.placed;
      } in
      record {
        acts = acts;
        ran = ran;
        live = subst (λ (x : SessionRun). IsSessionLive sound k' began x) (sym is) now;
        same = subst (λ (x : SessionRun). IsSameSession (with_doing run (Under old span)) x) (sym is) (record { pieces = refl; from = refl; session = refl; round = refl });
      }

  -- the item is over
  pub is_over : (k k' : Known) (run run' : SessionRun) (old : ItemRun) (span : Span) (a : Answered) (last : ℕ) → IsSessionLive sound k began (with_doing run (Under old span)) → run.ending ≡ None → ItemTurns sound run.before old.asked (own_since k.seat run.before k.seen) k k' (turn.Over a)
      → last ≡ length k'.seen → IsPushed run span a last run' → StepsOn sound began k (with_doing run (Under old span)) k' run'
  is_over k k' run run' old span a last live going t here push =
      let o = of_ran k k' t.acts t.ran in
      let d = live.doing in
      let first = t.told.0 in
      let last_low = t.told.1 in
      let low = d.fits.begins in
      let within = longer k k' t.acts old.asked.first o d.fits.within in
      let own : own_since k'.seat run.before k'.seen ≡ own_since k.seat run.before k.seen ++ outline t.acts = own_on k k' t.acts run.before o live.within in
      let r = subst (λ (l : List Act). IsRight sound (plain k') run.before l old.asked.settings (seen_piece old.asked.piece) a) (sym own) t.told.2 in
      record {
        acts = t.acts;
        ran = t.ran;
        live = item_done k k' t.acts run run' (Under old span) (seen_piece old.asked.piece) d.rest span a last o live going d.next
            (item_is k' run.before old.asked.settings (seen_piece old.asked.piece) a span last d.span_is (omega arith) (omega arith) here r) here push;
        same = record { pieces = push.same.pieces; from = push.same.from; session = push.same.session; round = push.same.round };
      }

  -- 7. The next piece

  fits_first : (k : Known) (before : ℕ) (st : Settings) (p : Piece) (r : ItemRun) → before ≤ r.asked.first → r.asked.first ≤ length k.seen → IsItemBegun st (seen_piece p) r → FitsItem sound before r.asked [] r.state k
  fits_first k before st p r low within b = starts_fitting sound before st (seen_piece p) r k low within b

  pub starts : (k : Known) (run run' : SessionRun) (st : Settings) (p : Piece) (first : ℕ) → first ≡ length k.seen → IsSessionLive sound k began (with_doing run (Idle st)) → run.ending ≡ None → length run.items.items < vec_capacity run.items
      → slice_get run.pieces.items run.next ≡ Some p → UnderWay run st p first run' → IsSessionLive sound k began run'
  starts k run run' st p first here live going room at (inl w) =
      let a = w.0 in
      let next = drop_here run.next run.pieces.items p at in
      let low = live.within in
      let e = w.2 in
      let r : IsRight sound (plain k) run.before (own_since k.seat run.before k.seen) st (seen_piece p) a = right.is_at_once w.1 live.doing in
      item_done k k [] run run' (Idle st) (seen_piece p) _ (span_of (seen_piece p)) a first (same_known k) live going next (item_is k run.before st (seen_piece p) a (span_of (seen_piece p)) first refl (omega arith) (omega arith) here r) here w.3
  starts k run run' st p first here live going room at (inr w) =
      let r = w.0 in
      let j = w.1 in
      let low = live.within in
      let e = j.first_is in
      let next = drop_here run.next run.pieces.items p at in
      let fits = fits_first k run.before st p r (omega arith) (omega arith) j.begun in
      let now : IsSessionLive sound k began (with_doing run (Under r (span_of (seen_piece p)))) = record {
        replied = subst (λ (q : Settings). AreReplied sound k run.from (at_first began (seen_of run)) run.items.items run.before (record { settings = q; left = drop run.next (seen_of run) })) (sym j.begun.settings) live.replied;
        within = low;
        doing = record {
          rest = _;
          next = next ∙ ap (λ (q : SeenPiece). q ∷ drop (suc run.next) (seen_of run)) (sym j.begun.piece);
          span_is = ap span_of (sym j.begun.piece);
          fits = subst (λ (l : List Act). FitsItem sound run.before r.asked l r.state k) (sym live.doing) fits;
        };
        ends = live.ends;
        idle = not_at_end run.ending _ going;
        room = room;
        stopped = live.stopped;
        placed = live.placed;
      } in
      subst (λ (x : SessionRun). IsSessionLive sound k began x) (sym j.is) now

  -- the round ends
  pub finishes : (k : Known) (run : SessionRun) (st : Settings) (e : Ending) → IsSessionLive sound k began (with_doing run (Idle st)) → run.ending ≡ None → EndsAs e (drop run.next (seen_of run)) run.items.items → IsSessionLive sound k began (record (with_doing run (Idle st)) { ending = Some e })
  finishes k run st e live going ends = record { replied = live.replied; within = live.within; doing = live.doing; ends = ends; idle = tt; room = tt; stopped = live.stopped; placed = live.placed }

  quiet_now : (k : Known) (run : SessionRun) (st : Settings) → IsSessionLive sound k began (with_doing run (Idle st)) → run.ending ≡ None → has_fatal run.items.items ≡ false
  quiet_now k run st live going = quiet_so_far run.ending _ run.items.items going live.ends

  pub finishes_whole : (k : Known) (run : SessionRun) (st : Settings) → IsSessionLive sound k began (with_doing run (Idle st)) → run.ending ≡ None → slice_get run.pieces.items run.next ≡ None → IsSessionLive sound k began (record (with_doing run (Idle st)) { ending = Some Whole })
  finishes_whole k run st live going none = finishes k run st Whole live going (drop_past run.next run.pieces.items none, quiet_now k run st live going)

  pub finishes_lacking : (k : Known) (run : SessionRun) (st : Settings) → IsSessionLive sound k began (with_doing run (Idle st)) → run.ending ≡ None → IsSessionLive sound k began (record (with_doing run (Idle st)) { ending = Some Memory })
  finishes_lacking k run st live going = finishes k run st Memory live going (quiet_now k run st live going)

  -- room was taken for an item
  pub reserved : (k : Known) (run : SessionRun) (st : Settings) (v : Vec Item Global) → v.items ≡ run.items.items → IsSessionLive sound k began (with_doing run (Idle st)) → IsSessionLive sound k began (with_doing (record run { items = v }) (Idle st))
  reserved k run st v e live =
      let F : List Item → Type 0 = λ l. AreReplied sound k run.from (at_first began (seen_of run)) l run.before (record { settings = st; left = drop run.next (seen_of run) }) in
      let G : List Item → Type 0 = λ l. EndsSoFar run.ending (drop run.next (seen_of run)) l in
      record { replied = subst F (sym e) live.replied; within = live.within; doing = live.doing; ends = subst G (sym e) live.ends; idle = live.idle; room = tt; stopped = live.stopped; placed = live.placed }

  -- 8. The end

  pub is_answered : (k : Known) (run : SessionRun) (e : Ending) (st : Settings) (t : Transcript) (st' : SessionState) → run.ending ≡ Some e → run.doing ≡ Idle st → t.items ≡ run.items.items → st' ≡ state_after run.stopped e st → IsSessionLive sound k began run
      → IsSessionAnswered sound k run.from (length k.seen) began (seen_of run) t st' e
  is_answered k run e st t st' ended idle items state live =
      let ends : EndsAs e (standing run).left run.items.items = subst (λ (x : Option Ending). EndsSoFar x (standing run).left run.items.items) ended live.ends in
      let none : own_since k.seat run.before k.seen ≡ [] = subst (λ (x : Doing). IsDoing sound k run.before (standing run).left x) idle live.doing in
      record {
        last = run.before;
        standing = standing run;
        replied = subst (λ (l : List Item). AreReplied sound k run.from (at_first began (seen_of run)) l run.before (standing run)) (sym items) live.replied;
        in_round = live.within;
        within = omega arith;
        rest = ap (own_since k.seat run.before) (take-length k.seen) ∙ none;
        ends = subst (λ (l : List Item). EndsAs e (standing run).left l) (sym items) ends;
        state = state ∙ (λ j. state_after (live.stopped j) e (settings_of (sym idle j)));
      }

-- 9. What was answered, in a longer trail

later : (k k' : Known) (more : List Entry) → k'.seat ≡ k.seat → k'.base ≡ k.base → k'.damaged ≡ k.damaged → k'.seen ≡ k.seen ++ more → Onward k k' (acts_by k.seat more)
later k k' more seat base damaged seen = record { more = more; seen = seen; own = refl; seat = seat; base = base; damaged = damaged }

pub stays : (sound : Type 0) (k k' : Known) (more : List Entry) (from to : ℕ) (st : SessionState) (ps : List SeenPiece) (t : Transcript) (st' : SessionState) (e : Ending) → k'.seat ≡ k.seat → k'.base ≡ k.base → k'.damaged ≡ k.damaged → k'.seen ≡ k.seen ++ more
    → IsSessionAnswered sound k from to st ps t st' e → IsSessionAnswered sound k' from to st ps t st' e
stays sound k k' more from to st ps t st' e seat base damaged seen h =
    let o = later k k' more seat base damaged seen in
    let same : take to k'.seen ≡ take to k.seen = ap (take to) seen ∙ take-append-le to k.seen more h.within in
    record {
      last = h.last;
      standing = h.standing;
      replied = told_on sound k k' (acts_by k.seat more) from (at_first st ps) t.items h.last h.standing o h.replied;
      in_round = h.in_round;
      within = longer k k' (acts_by k.seat more) to o h.within;
      rest = ap (λ (n : ℕ). own_since n h.last (take to k'.seen)) seat ∙ (ap (own_since k.seat h.last) same ∙ h.rest);
      ends = h.ends;
      state = h.state;
    }

-- others' entries, up to the end of the round
pub grows : (sound : Type 0) (k k' : Known) (more : List Entry) (from : ℕ) (st : SessionState) (ps : List SeenPiece) (t : Transcript) (st' : SessionState) (e : Ending) → k'.seat ≡ k.seat → k'.base ≡ k.base → k'.damaged ≡ k.damaged → k'.seen ≡ k.seen ++ more
    → outline (acts_by k.seat more) ≡ [] → IsSessionAnswered sound k from (length k.seen) st ps t st' e → IsSessionAnswered sound k' from (length k'.seen) st ps t st' e
grows sound k k' more from st ps t st' e seat base damaged seen quiet h =
    let o = later k k' more seat base damaged seen in
    let low : h.last ≤ length k.seen = h.in_round in
    let here : own_since k.seat h.last k.seen ≡ [] = ap (λ (l : List Entry). own_since k.seat h.last l) (sym (take-length k.seen)) ∙ h.rest in
    let whole : own_since k'.seat h.last k'.seen ≡ [] = own_on k k' (acts_by k.seat more) h.last o low ∙ (ap (λ (l : List Act). l ++ outline (acts_by k.seat more)) here ∙ quiet) in
    record {
      last = h.last;
      standing = h.standing;
      replied = told_on sound k k' (acts_by k.seat more) from (at_first st ps) t.items h.last h.standing o h.replied;
      in_round = longer k k' (acts_by k.seat more) h.last o low;
      within = omega arith;
      rest = ap (λ (l : List Entry). own_since k'.seat h.last l) (take-length k'.seen) ∙ whole;
      ends = h.ends;
      state = h.state;
    }
