-- The items of a session that is alone, one after another, are the fold.
use Rattle.std.proofs.Common.{ℕ, zero, suc, ◌≡◌, ◌≤◌, if◌then◌else◌, Bool, false, List, [], ◌∷◌, ◌++◌, length, take, drop, refl, sym, ◌∙◌, ap, subst, arith, append_assoc, inl, inr}
use Rattle.std.proofs.lemmas.Bool.{cases_eq}
use Rattle.std.proofs.lemmas.List.{length-take-le, take-append-drop}
use Rattle.px_lex.specs.Script.{SeenPiece}
use Rattle.px_trail.specs.Legal.{IsLegal}
use Rattle.px_trail.specs.Trail.{Base, acts_by, draws}
use Rattle.px_trail.specs.declared.entry.Act.{Act}
use Rattle.px_trail.specs.declared.entry.Act.TheVariants.{Made, IndexMade, IndexState, Dropped, Begun, Phase, Wrote, Ended, Opened, Released, Raised, Fixed, Based, Missed, Shut}
use Rattle.px_trail.specs.declared.entry.Entry.{Entry}
use Rattle.px_trail.proofs.Growth.{legal-prefix}
use Rattle.px_calls.specs.Known.{Known, outline}
use Rattle.px_reply.specs.declared.reply.Reply.{Reply}
use Rattle.px_reply.specs.declared.transcript.Item.{Item}
use Rattle.px_item.specs.Right.{IsRight}
use Rattle.px_item.specs.declared.answered.After.{After}
use Rattle.px_item.specs.declared.answered.Settings.{Settings}
use Rattle.px_session.specs.Replies.{AreReplied, IsReplied, Standing, answer_with, onward}
use Rattle.px_alone.specs.Alone.{ActsAlone, AreQuiet, AloneEvent, IsFolded, Rose, RunsAlone, Told, entries_between, replies_of, rise_by, rises, stamp_by, stamps_drawn, tables_at, trail_rises, trail_stamps}
use Rattle.px_alone.specs.Answers.{ComesAlone, AloneOutcome}
use Rattle.px_alone.specs.Tables.{Tables, after, after_all}
use Rattle.px_alone.proofs.Balanced.{IsBalanced, balanced-none, ended-after}
use Rattle.px_alone.proofs.Balances.{balanced-form}
use Rattle.px_alone.proofs.Forms.{form}
use Rattle.px_alone.proofs.Outcomes.{Quiet, memory-not, outcome_of, stamps_in}
use Rattle.px_alone.proofs.Removing.{deletes-rows, rows-found, stops-rows}
use Rattle.px_alone.proofs.Rows.{AllDone}
use Rattle.px_alone.proofs.Standing.{OthersQuiet, acts_of, changes-own, changes_in, is_change, is_rise, quiet-parts, rises-first, rises-last, rises_in, tables-append}

-- 1. Horizons as events

pub roses : List Act → List AloneEvent
roses [] = []
roses (Raised t h ∷ acts) = Rose t h ∷ roses acts
roses (act ∷ acts) = roses acts

-- a list of acts that are all of this kind, or all of the rest
pub with_roses : (x : Tables) (at : Standing) (acts : List Act) (events : List AloneEvent) (y : Tables) (to : Standing) → RunsAlone (after_all x (rises_in acts)) at events y to → RunsAlone x at (roses acts ++ events) y to
unfolding roses after_all
with_roses x at [] events y to h = h
with_roses x at (Raised t h ∷ acts) events y to a = with_roses (after x (Raised t h)) at acts events y to a
with_roses x at (Made t what ∷ acts) events y to a = with_roses x at acts events y to a
with_roses x at (IndexMade t i s what ∷ acts) events y to a = with_roses x at acts events y to a
with_roses x at (IndexState t i state s ∷ acts) events y to a = with_roses x at acts events y to a
with_roses x at (Dropped t i ∷ acts) events y to a = with_roses x at acts events y to a
with_roses x at (Begun t s cs ∷ acts) events y to a = with_roses x at acts events y to a
with_roses x at (Phase t s p ∷ acts) events y to a = with_roses x at acts events y to a
with_roses x at (Wrote t s rows ∷ acts) events y to a = with_roses x at acts events y to a
with_roses x at (Ended t s ∷ acts) events y to a = with_roses x at acts events y to a
with_roses x at (Opened t s scn ∷ acts) events y to a = with_roses x at acts events y to a
with_roses x at (Released t s ∷ acts) events y to a = with_roses x at acts events y to a
with_roses x at (Fixed i key ∷ acts) events y to a = with_roses x at acts events y to a
with_roses x at (Based i rows ∷ acts) events y to a = with_roses x at acts events y to a
with_roses x at (Missed call ∷ acts) events y to a = with_roses x at acts events y to a
with_roses x at (Shut call ∷ acts) events y to a = with_roses x at acts events y to a

-- what is read of them, before other events
pub record Reads (acts : List Act) (events : List AloneEvent) : Type 0 where
  pub told : replies_of (roses acts ++ events) ≡ replies_of events
  pub drawn : stamps_drawn (roses acts ++ events) ≡ stamps_drawn events
  pub rose : rises (roses acts ++ events) ≡ rises_in acts ++ rises events

skips : (a : Act) (acts : List Act) (events : List AloneEvent) → is_rise a ≡ false → roses (a ∷ acts) ≡ roses acts → Reads acts events → Reads (a ∷ acts) events
skips a acts events none same h =
    record {
      told = ap (λ (l : List AloneEvent). replies_of (l ++ events)) same ∙ h.told;
      drawn = ap (λ (l : List AloneEvent). stamps_drawn (l ++ events)) same ∙ h.drawn;
      rose = ap (λ (l : List AloneEvent). rises (l ++ events)) same ∙ (h.rose ∙ ap (λ (v : Bool). (if v then a ∷ rises_in acts else rises_in acts) ++ rises events) (sym none));
    }

pub reads : (acts : List Act) (events : List AloneEvent) → Reads acts events
unfolding roses
reads [] events = record { told = refl; drawn = refl; rose = refl }
reads (Raised t h ∷ acts) events = let z = reads acts events in record { told = z.told; drawn = z.drawn; rose = ap (λ (l : List Act). Raised t h ∷ l) z.rose }
reads (Made t what ∷ acts) events = skips (Made t what) acts events refl refl (reads acts events)
reads (IndexMade t i s what ∷ acts) events = skips (IndexMade t i s what) acts events refl refl (reads acts events)
reads (IndexState t i state s ∷ acts) events = skips (IndexState t i state s) acts events refl refl (reads acts events)
reads (Dropped t i ∷ acts) events = skips (Dropped t i) acts events refl refl (reads acts events)
reads (Begun t s cs ∷ acts) events = skips (Begun t s cs) acts events refl refl (reads acts events)
reads (Phase t s p ∷ acts) events = skips (Phase t s p) acts events refl refl (reads acts events)
reads (Wrote t s rows ∷ acts) events = skips (Wrote t s rows) acts events refl refl (reads acts events)
reads (Ended t s ∷ acts) events = skips (Ended t s) acts events refl refl (reads acts events)
reads (Opened t s scn ∷ acts) events = skips (Opened t s scn) acts events refl refl (reads acts events)
reads (Released t s ∷ acts) events = skips (Released t s) acts events refl refl (reads acts events)
reads (Fixed i key ∷ acts) events = skips (Fixed i key) acts events refl refl (reads acts events)
reads (Based i rows ∷ acts) events = skips (Based i rows) acts events refl refl (reads acts events)
reads (Missed call ∷ acts) events = skips (Missed call) acts events refl refl (reads acts events)
reads (Shut call ∷ acts) events = skips (Shut call) acts events refl refl (reads acts events)

-- 2. What is read of a trail

pub stamps-append : (xs ys : List Entry) → trail_stamps (xs ++ ys) ≡ trail_stamps xs ++ trail_stamps ys
stamps-append [] ys = refl
stamps-append (e ∷ xs) ys = ap (λ (l : List ℕ). stamp_by e.act ++ l) (stamps-append xs ys) ∙ sym (append_assoc (stamp_by e.act) (trail_stamps xs) (trail_stamps ys))

pub rises-append : (xs ys : List Entry) → trail_rises (xs ++ ys) ≡ trail_rises xs ++ trail_rises ys
rises-append [] ys = refl
rises-append (e ∷ xs) ys = ap (λ (l : List Act). rise_by e.act ++ l) (rises-append xs ys) ∙ sym (append_assoc (rise_by e.act) (trail_rises xs) (trail_rises ys))

stamps_of_act : (a : Act) (l : List Act) (m : List ℕ) → stamps_in l ≡ m → stamps_in (if is_change a then a ∷ l else l) ≡ stamp_by a ++ m
stamps_of_act (Made t what) l m h = h
stamps_of_act (IndexMade t i s what) l m h = ap (λ k. s ∷ k) h
stamps_of_act (IndexState t i state s) l m h = ap (λ k. (if draws state then s ∷ [] else []) ++ k) h
stamps_of_act (Dropped t i) l m h = h
stamps_of_act (Begun t s cs) l m h = ap (λ k. s ∷ k) h
stamps_of_act a l m h = h

pub stamps_are : (es : List Entry) → stamps_in (changes_in (acts_of es)) ≡ trail_stamps es
stamps_are [] = refl
stamps_are (e ∷ es) = stamps_of_act e.act (changes_in (acts_of es)) (trail_stamps es) (stamps_are es)

rises_of_act : (a : Act) (l m : List Act) → l ≡ m → (if is_rise a then a ∷ l else l) ≡ rise_by a ++ m
rises_of_act (Raised t h) l m e = ap (λ k. Raised t h ∷ k) e
rises_of_act a l m e = e

pub rises_are : (es : List Entry) → rises_in (acts_of es) ≡ trail_rises es
rises_are [] = refl
rises_are (e ∷ es) = rises_of_act e.act (rises_in (acts_of es)) (trail_rises es) (rises_are es)

-- 3. Places

take-less : (n m : ℕ) (es : List Entry) → n ≤ m → take n (take m es) ≡ take n es
take-less zero m es h = refl
take-less (suc n) zero es h = absurd (omega arith)
take-less (suc n) (suc m) [] h = refl
take-less (suc n) (suc m) (e ∷ es) h = ap (λ (l : List Entry). e ∷ l) (take-less n m es (omega arith))

drop-front : (xs ys : List Entry) (n : ℕ) → n ≤ length xs → drop n (xs ++ ys) ≡ drop n xs ++ ys
drop-front xs ys zero h = refl
drop-front [] ys (suc n) h = absurd (omega arith)
drop-front (x ∷ xs) ys (suc n) h = drop-front xs ys n (omega arith)

pub drop-none : (n : ℕ) (es : List Entry) → drop n (take n es) ≡ []
drop-none zero es = refl
drop-none (suc n) [] = refl
drop-none (suc n) (e ∷ es) = drop-none n es

-- the first m entries are the first n, and those from n to m
pub joined : (n m : ℕ) (es : List Entry) → n ≤ m → take m es ≡ take n es ++ entries_between n m es
joined n m es h = sym (take-append-drop n (take m es)) ∙ ap (λ (l : List Entry). l ++ entries_between n m es) (take-less n m es h)

pub parted : (n l m : ℕ) (es : List Entry) → n ≤ l → l ≤ m → l ≤ length es → entries_between n m es ≡ entries_between n l es ++ entries_between l m es
parted n l m es h j w = ap (drop n) (joined l m es j) ∙ drop-front (take l es) (entries_between l m es) n (omega (arith, length-take-le l es w))

replied-le : (sound : Type 0) (k : Known) (n m : ℕ) (at to : Standing) (items : List Item) → AreReplied sound k n at items m to → n ≤ m
replied-le sound k n m at to [] h = let e = h.0 in omega arith
replied-le sound k n m at to (i ∷ items) h =
    let r : IsReplied sound k n at.settings h.0 i h.2 = h.4 in
    let l = replied-le sound k i.evidence.last m (onward h.2 h.0 h.1) to items h.5 in
    let a = r.begins in let c = r.ends in omega arith

-- 4. One item

each_balanced : (seat : ℕ) (es : List Entry) → OthersQuiet seat es → IsBalanced (outline (acts_by seat es)) → (other : ℕ) → IsBalanced (outline (acts_by other es))
each_balanced seat es q own other = elim (cases_eq other seat) [
  | inl same ↦ subst (λ (n : ℕ). IsBalanced (outline (acts_by n es))) (sym same) own
  | inr apart ↦ subst IsBalanced (sym (q other apart)) balanced-none
]

-- an item, and events behind it
module _ (b : Base) (pre mid : List Entry) (seat : ℕ) (quiet : OthersQuiet seat mid) (st : Settings) (p : SeenPiece) (rest : List SeenPiece) (i : Item) (next : After) (at : Standing) (is : at.left ≡ p ∷ rest) (here : at.settings ≡ st) (told : Quiet i.reply)
    (events : List AloneEvent) (y : Tables) (to : Standing) (more : RunsAlone (tables_at b (pre ++ mid)) (onward next p rest) events y to) where
  abbrev own : List Act
  own = outline (acts_by seat mid)

  abbrev outcome : AloneOutcome
  outcome = outcome_of own (answer_with i next)

  abbrev item_event : AloneEvent
  item_event = Told outcome.stamps i.reply

  record Goes : Type 0 where
    pub events' : List AloneEvent
    pub alone : RunsAlone (tables_at b pre) at events' y to
    pub told_are : replies_of events' ≡ i.reply ∷ replies_of events
    pub drawn_are : stamps_drawn events' ≡ trail_stamps mid ++ stamps_drawn events
    pub rose_are : rises events' ≡ trail_rises mid ++ rises events

  stamps_ok : outcome.stamps ≡ trail_stamps mid
  stamps_ok = ap stamps_in (sym (changes-own seat mid quiet)) ∙ stamps_are mid

  at_once : ComesAlone (tables_at b pre) st p outcome → Goes
  at_once comes =
      let z = reads (acts_of mid) events in
      let x : Tables = tables_at b pre in
      let stands : after_all (after_all x (changes_in own)) (rises_in (acts_of mid)) ≡ tables_at b (pre ++ mid) =
      ap (λ (l : List Act). after_all (after_all x l) (rises_in (acts_of mid))) (sym (changes-own seat mid quiet)) ∙ (sym (rises-last x (acts_of mid)) ∙ sym (tables-append b pre mid)) in
      record {
        events' = item_event ∷ (roses (acts_of mid) ++ events);
        alone = (
          p,
          rest,
          outcome,
          is,
          subst (λ (s : Settings). ComesAlone x s p outcome) (sym here) comes,
          refl,
          refl,
          memory-not i.reply told,
          with_roses (after_all x (changes_in own)) (onward next p rest) (acts_of mid) events y to (subst (λ (w : Tables). RunsAlone w (onward next p rest) events y to) (sym stands) more),
        );
        told_are = ap (λ l. i.reply ∷ l) z.told;
        drawn_are = ap (λ l. l ++ stamps_drawn (roses (acts_of mid) ++ events)) stamps_ok ∙ ap (λ l. trail_stamps mid ++ l) z.drawn;
        rose_are = z.rose ∙ ap (λ l. l ++ rises events) (rises_are mid);
      }

  behind_roses : changes_in own ≡ [] → ComesAlone (tables_at b (pre ++ mid)) st p outcome → Goes
  unfolding after_all
  behind_roses none comes =
      let z = reads (acts_of mid) (item_event ∷ events) in
      let x : Tables = tables_at b pre in
      let calm : changes_in (acts_of mid) ≡ [] = changes-own seat mid quiet ∙ none in
      let stands : after_all x (rises_in (acts_of mid)) ≡ tables_at b (pre ++ mid) =
      ap (λ (l : List Act). after_all (after_all x (rises_in (acts_of mid))) l) (sym calm) ∙ (sym (rises-first x (acts_of mid)) ∙ sym (tables-append b pre mid)) in
      let then_ : Tables = tables_at b (pre ++ mid) in
      record {
        events' = roses (acts_of mid) ++ (item_event ∷ events);
        alone = with_roses x at (acts_of mid) (item_event ∷ events) y to
            (subst (λ (w : Tables). RunsAlone w at (item_event ∷ events) y to) (sym stands) (
              p,
              rest,
              outcome,
              is,
              subst (λ (s : Settings). ComesAlone then_ s p outcome) (sym here) comes,
              refl,
              refl,
              memory-not i.reply told,
              subst (λ (l : List Act). RunsAlone (after_all then_ l) (onward next p rest) events y to) (sym none) more,
            ));
        told_are = z.told;
        drawn_are = z.drawn ∙ ap (λ l. l ++ stamps_drawn events) stamps_ok;
        rose_are = z.rose ∙ ap (λ l. l ++ rises events) (rises_are mid);
      }

-- 5. All items

-- what the seat knew when it had seen these
abbrev seen_as : Known → List Entry → Known
seen_as k l = record { seat = k.seat; base = k.base; damaged = k.damaged; alone = false; seen = l }

pub folds : (sound : Type 0) (is_sound : sound) (k : Known) (n m : ℕ) (at to : Standing) (items : List Item) → ActsAlone k n m → AreQuiet items → AreReplied sound k n at items m to → IsFolded k.base k.seen n m at items to
folds sound is_sound k n m at to [] alone quiet h =
    record {
      events = [];
      alone = (ap (λ (j : ℕ). tables_at k.base (take j k.seen)) h.0, h.1);
      told = refl;
      drawn = ap trail_stamps (sym (drop-none n k.seen ∙ refl)) ∙ ap (λ (j : ℕ). trail_stamps (entries_between n j k.seen)) h.0;
      rose = ap trail_rises (sym (drop-none n k.seen)) ∙ ap (λ (j : ℕ). trail_rises (entries_between n j k.seen)) h.0;
    }
folds sound is_sound k n m at to (i ∷ items) alone quiet h =
    let p : SeenPiece = h.0 in
    let rest : List SeenPiece = h.1 in
    let next : After = h.2 in
    let r : IsReplied sound k n at.settings p i next = h.4 in
    let last : ℕ = i.evidence.last in
    let b : Base = k.base in
    let pre : List Entry = take n k.seen in
    let mid : List Entry = entries_between n last k.seen in
    let on : n ≤ last = (let x = r.begins in let y = r.ends in omega arith) in
    let up : last ≤ m = replied-le sound k last m (onward next p rest) to items h.5 in
    let cut : take last k.seen ≡ pre ++ mid = joined n last k.seen on in
    let parts : entries_between n m k.seen ≡ mid ++ entries_between last m k.seen = parted n last m k.seen on up r.within in
    let legal : IsLegal b (pre ++ mid) = subst (λ (l : List Entry). IsLegal b l) cut (legal-prefix b (take last k.seen) (drop last k.seen) (subst (λ (l : List Entry). IsLegal b l) (sym (take-append-drop last k.seen)) alone.legal)) in
    let others = quiet-parts k.seat mid (entries_between last m k.seen) (subst (λ (l : List Entry). OthersQuiet k.seat l) parts alone.others) in
    let own : List Act = outline (acts_by k.seat mid) in
    let then_ : Known = record { seat = k.seat; base = b; damaged = k.damaged; alone = false; seen = pre ++ mid } in
    let right : IsRight sound then_ n own at.settings p (answer_with i next) = subst (λ (l : List Entry). IsRight sound (seen_as k l) n own at.settings p (answer_with i next)) cut r.right in
    let low : length pre ≤ n = (let w = alone.within in let f = alone.forward in omega (arith, length-take-le n k.seen (omega arith))) in
    let comes = form sound is_sound b pre mid k.seat k.damaged legal alone.ended others.0 own refl n at.settings p (answer_with i next) low r.begins quiet.0 (rows-found sound is_sound b pre mid k.seat k.damaged legal alone.ended others.0) (deletes-rows sound is_sound b pre mid k.seat k.damaged legal alone.ended others.0) (stops-rows sound is_sound b pre mid k.seat k.damaged legal alone.ended others.0) right in
    let done : AllDone (pre ++ mid) = ended-after pre mid alone.ended (each_balanced k.seat mid others.0 (balanced-form sound then_ n own at.settings p (answer_with i next) quiet.0 right)) in
    let alone' : ActsAlone k last m = record { legal = alone.legal; forward = up; within = alone.within; ended = subst AllDone (sym cut) done; others = others.1 } in
    let more : IsFolded b k.seen last m (onward next p rest) items to = folds sound is_sound k last m (onward next p rest) to items alone' quiet.1 h.5 in
    let rest_alone : RunsAlone (tables_at b (pre ++ mid)) (onward next p rest) more.events (tables_at b (take m k.seen)) to = subst (λ (l : List Entry). RunsAlone (tables_at b l) (onward next p rest) more.events (tables_at b (take m k.seen)) to) cut more.alone in
    let goes : Goes b pre mid k.seat others.0 at.settings p rest i next at h.3 refl quiet.0 more.events (tables_at b (take m k.seen)) to rest_alone = elim comes [
      | inl c ↦ at_once b pre mid k.seat others.0 at.settings p rest i next at h.3 refl quiet.0 more.events (tables_at b (take m k.seen)) to rest_alone c
      | inr c ↦ behind_roses b pre mid k.seat others.0 at.settings p rest i next at h.3 refl quiet.0 more.events (tables_at b (take m k.seen)) to rest_alone c.0 c.1
    ] in
    record {
      events = goes.events';
      alone = goes.alone;
      told = goes.told_are ∙ ap (λ (l : List Reply). i.reply ∷ l) more.told;
      drawn = goes.drawn_are ∙ (ap (λ (l : List ℕ). trail_stamps mid ++ l) more.drawn ∙ (sym (stamps-append mid (entries_between last m k.seen)) ∙ ap trail_stamps (sym parts)));
      rose = goes.rose_are ∙ (ap (λ (l : List Act). trail_rises mid ++ l) more.rose ∙ (sym (rises-append mid (entries_between last m k.seen)) ∙ ap trail_rises (sym parts)));
    }
