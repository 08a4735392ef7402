-- Where nobody begins, ends, opens, closes or defines anything, horizons may rise, and nothing is told.
use Rattle.std.proofs.Common.{ℕ, ◌≡◌, ◌≤◌, List, [], ◌∷◌, ◌++◌, length, take, refl, sym, ◌∙◌, ap, subst, append_assoc}
use Rattle.std.proofs.lemmas.List.{append-nil}
use Rattle.px_trail.specs.Trail.{Base, acts_by, catalogue_from, horizon_from, last_from, shape_from}
use Rattle.px_trail.specs.States.{begun}
use Rattle.px_trail.specs.declared.entry.Act.{Act}
use Rattle.px_trail.specs.declared.entry.Entry.{Entry}
use Rattle.px_calls.specs.Known.{outline}
use Rattle.px_reply.specs.declared.reply.Reply.{Reply}
use Rattle.px_reply.specs.declared.transcript.Item.{Item}
use Rattle.px_session.specs.Replies.{Standing, onward}
use Rattle.px_alone.specs.Alone.{AloneEvent, IsFolded, Rose, RunsAlone, Told, entries_between, replies_of, rises, stamps_drawn, tables_at, trail_rises, trail_stamps}
use Rattle.px_alone.specs.Tables.{Tables, after, after_all, tables_first}
use Rattle.px_alone.proofs.Folding.{drop-none, joined, parted, reads, rises_are, rises-append, roses, stamps_are, stamps-append, with_roses}
use Rattle.px_alone.proofs.Outcomes.{stamps_in}
use Rattle.px_alone.proofs.Standing.{acts_of, changes-own, changes_in, rises-first, rises_in, tables-append}
use Rattle.px_trail.specs.declared.entry.Act.TheVariants.{Raised}

-- 1. Events behind others

pub runs-then : (x y z : Tables) (at mid to : Standing) (xs ys : List AloneEvent) → RunsAlone x at xs y mid → RunsAlone y mid ys z to → RunsAlone x at (xs ++ ys) z to
runs-then x y z at mid to [] ys h g = subst (λ (w : Tables). RunsAlone w at ys z to) (sym h.0) (subst (λ (s : Standing). RunsAlone y s ys z to) (sym h.1) g)
runs-then x y z at mid to (Rose t h ∷ xs) ys r g = runs-then (after x (Raised t h)) y z at mid to xs ys r g
runs-then x y z at mid to (Told stamps reply ∷ xs) ys r g = (r.0, r.1, r.2, r.3, r.4, r.5, r.6, r.7, runs-then (after_all x r.2.acts) y z (onward r.2.next r.0 r.1) mid to xs ys r.8 g)

pub replies-then : (xs ys : List AloneEvent) → replies_of (xs ++ ys) ≡ replies_of xs ++ replies_of ys
replies-then [] ys = refl
replies-then (Rose t h ∷ xs) ys = replies-then xs ys
replies-then (Told stamps reply ∷ xs) ys = ap (λ (l : List Reply). reply ∷ l) (replies-then xs ys)

pub drawn-then : (xs ys : List AloneEvent) → stamps_drawn (xs ++ ys) ≡ stamps_drawn xs ++ stamps_drawn ys
drawn-then [] ys = refl
drawn-then (Rose t h ∷ xs) ys = drawn-then xs ys
drawn-then (Told stamps reply ∷ xs) ys = ap (λ (l : List ℕ). stamps ++ l) (drawn-then xs ys) ∙ sym (append_assoc stamps (stamps_drawn xs) (stamps_drawn ys))

pub rises-then : (xs ys : List AloneEvent) → rises (xs ++ ys) ≡ rises xs ++ rises ys
rises-then [] ys = refl
rises-then (Rose t h ∷ xs) ys = ap (λ (l : List Act). Raised t h ∷ l) (rises-then xs ys)
rises-then (Told stamps reply ∷ xs) ys = rises-then xs ys

-- 2. Places

-- at a place nothing is told yet
pub folded-none : (b : Base) (es : List Entry) (n : ℕ) (at : Standing) → IsFolded b es n n at [] at
folded-none b es n at = record {
  events = [];
  alone = (refl, refl);
  told = refl;
  drawn = ap trail_stamps (sym (drop-none n es));
  rose = ap trail_rises (sym (drop-none n es));
}

-- what was told up to a place is so up to a later one, where nobody does anything between them
module _ (b : Base) (es : List Entry) (n l m : ℕ) (at to : Standing) (items : List Item) (low : n ≤ l) (high : l ≤ m) (within : l ≤ length es) (idle : (seat : ℕ) → outline (acts_by seat (entries_between l m es)) ≡ []) where
  abbrev gap : List Entry
  gap = entries_between l m es

  calm : changes_in (acts_of gap) ≡ []
  calm = changes-own 0 gap (λ other apart. idle other) ∙ ap changes_in (idle 0)

  none_drawn : [] ≡ trail_stamps gap
  none_drawn = ap stamps_in (sym calm) ∙ stamps_are gap

  stands : after_all (tables_at b (take l es)) (rises_in (acts_of gap)) ≡ tables_at b (take m es)
  unfolding after_all
  stands =
      let x : Tables = tables_at b (take l es) in
      ap (λ (c : List Act). after_all (after_all x (rises_in (acts_of gap))) c) (sym calm) ∙ (sym (rises-first x (acts_of gap)) ∙ (sym (tables-append b (take l es) gap) ∙ ap (tables_at b) (sym (joined l m es high))))

  pub folded-on : IsFolded b es n l at items to → IsFolded b es n m at items to
  folded-on h =
      let acts : List Act = acts_of gap in
      let last : List AloneEvent = roses acts ++ [] in
      let z = reads acts [] in
      let parts : entries_between n m es ≡ entries_between n l es ++ gap = parted n l m es low high within in
      let more : RunsAlone (tables_at b (take l es)) to last (tables_at b (take m es)) to = with_roses (tables_at b (take l es)) to acts [] (tables_at b (take m es)) to (stands, refl) in
      record {
        events = h.events ++ last;
        alone = runs-then (tables_at b (take n es)) (tables_at b (take l es)) (tables_at b (take m es)) at to to h.events last h.alone more;
        told = replies-then h.events last ∙ (ap (λ (r : List Reply). replies_of h.events ++ r) z.told ∙ (append-nil (replies_of h.events) ∙ h.told));
        drawn = drawn-then h.events last ∙ (ap (λ (r : List ℕ). stamps_drawn h.events ++ r) (z.drawn ∙ none_drawn) ∙ (ap (λ (r : List ℕ). r ++ trail_stamps gap) h.drawn ∙ (sym (stamps-append (entries_between n l es) gap) ∙ ap trail_stamps (sym parts))));
        rose = rises-then h.events last ∙ (ap (λ (r : List Act). rises h.events ++ r) (z.rose ∙ (append-nil (rises_in acts) ∙ rises_are gap)) ∙ (ap (λ (r : List Act). r ++ trail_rises gap) h.rose ∙ (sym (rises-append (entries_between n l es) gap) ∙ ap trail_rises (sym parts))));
      }

-- 3. The beginning

-- before the first entry what stands is what stood
pub tables-none : (b : Base) → tables_at b [] ≡ tables_first b
unfolding catalogue_from shape_from last_from horizon_from begun
tables-none b = refl
