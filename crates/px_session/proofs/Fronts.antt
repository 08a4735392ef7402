-- Entries that come later change nothing of what was told.
use Rattle.std.proofs.Common.{ℕ, ◌≡◌, ◌≤◌, Bool, false, List, [], ◌∷◌, ◌++◌, length, take, drop, refl, sym, ◌∙◌, ap, subst, arith, length-append}
use Rattle.std.proofs.lemmas.List.{append-nil, drop-append-le, take-append-le}
use Rattle.std.proofs.Math.Seq.{drop-length}
use Rattle.px_lex.specs.Script.{SeenPiece}
use Rattle.px_trail.specs.declared.entry.Act.{Act}
use Rattle.px_trail.specs.declared.entry.Entry.{Entry}
use Rattle.px_trail.specs.Trail.{Base, acts_by}
use Rattle.px_calls.specs.Known.{Known, Ran, TimePasses, outline}
use Rattle.px_calls.proofs.Runs.{acts_by-append, outline-append}
use Rattle.px_reply.specs.declared.transcript.Item.{Item}
use Rattle.px_item.specs.declared.answered.After.{After}
use Rattle.px_item.specs.declared.answered.Settings.{Settings}
use Rattle.px_item.specs.Right.{IsRight}
use Rattle.px_session.specs.Replies.{AreReplied, IsReplied, Standing, answer_with, onward, own_since}

-- 1. What a seat did since a place

pub own_append : (seat n : ℕ) (es more : List Entry) → n ≤ length es → own_since seat n (es ++ more) ≡ own_since seat n es ++ outline (acts_by seat more)
own_append seat n es more le =
    ap (λ (l : List Entry). outline (acts_by seat l)) (drop-append-le n es more le) ∙ (ap outline (acts_by-append seat (drop n es) more) ∙ outline-append (acts_by seat (drop n es)) (acts_by seat more))

pub own_at_end : (seat : ℕ) (es : List Entry) → own_since seat (length es) es ≡ []
unfolding acts_by
own_at_end seat es = ap (λ (l : List Entry). outline (acts_by seat l)) (drop-length es)

-- 2. What a seat has seen goes on

-- others' entries came, and these acts of the seat
pub record Onward (k k' : Known) (acts : List Act) : Type 0 where
  pub more : List Entry
  pub seen : k'.seen ≡ k.seen ++ more
  pub own : acts_by k.seat more ≡ acts
  pub seat : k'.seat ≡ k.seat
  pub base : k'.base ≡ k.base
  pub damaged : k'.damaged ≡ k.damaged

pub of_ran : (k k' : Known) (acts : List Act) → Ran k k' acts → Onward k k' acts
of_ran k k' acts h = record { more = h.added; seen = h.seen; own = h.own; seat = h.seat; base = h.base; damaged = h.damaged }

pub of_passes : (k k' : Known) → TimePasses k k' → Onward k k' []
of_passes k k' h = record { more = h.others; seen = h.seen; own = h.apart; seat = h.seat; base = h.base; damaged = h.damaged }

pub same_known : (k : Known) → Onward k k []
unfolding acts_by
same_known k = record { more = []; seen = sym (append-nil k.seen); own = refl; seat = refl; base = refl; damaged = refl }

pub longer : (k k' : Known) (acts : List Act) (n : ℕ) → Onward k k' acts → n ≤ length k.seen → n ≤ length k'.seen
longer k k' acts n h low = let e = ap length h.seen in let len = length-append k.seen h.more in omega arith

pub own_on : (k k' : Known) (acts : List Act) (n : ℕ) → Onward k k' acts → n ≤ length k.seen → own_since k'.seat n k'.seen ≡ own_since k.seat n k.seen ++ outline acts
own_on k k' acts n h le =
    ap (λ (x : ℕ). own_since x n k'.seen) h.seat
    ∙ (ap (own_since k.seat n) h.seen ∙ (own_append k.seat n k.seen h.more le ∙ ap (λ (l : List Act). own_since k.seat n k.seen ++ outline l) h.own))

pub own_passes : (k k' : Known) (n : ℕ) → Onward k k' [] → n ≤ length k.seen → own_since k'.seat n k'.seen ≡ own_since k.seat n k.seen
own_passes k k' n h le = own_on k k' [] n h le ∙ append-nil (own_since k.seat n k.seen)

-- 3. Items

module _ (sound : Type 0) where
  replied_on : (k k' : Known) (acts : List Act) (n : ℕ) (st : Settings) (p : SeenPiece) (i : Item) (st' : After) → Onward k k' acts → IsReplied sound k n st p i st' → IsReplied sound k' n st p i st'
  replied_on k k' acts n st p i st' o h =
      let last = i.evidence.last in
      let same : take last k.seen ≡ take last k'.seen = sym (take-append-le last k.seen o.more h.within) ∙ ap (take last) (sym o.seen) in
      let F : ℕ × Base × (ℕ → ℕ → Bool) × List Entry → Type 0 = λ q. IsRight sound (record { seat = q.0; base = q.1; damaged = q.2; alone = false; seen = q.3 }) n (own_since q.0 n q.3) st p (answer_with i st') in
      record {
        statement = h.statement;
        begins = h.begins;
        ends = h.ends;
        within = longer k k' acts last o h.within;
        right = subst F (λ j. (sym o.seat j, sym o.base j, sym o.damaged j, same j)) h.right;
      }

  pub told_on : (k k' : Known) (acts : List Act) (n : ℕ) (at : Standing) (is : List Item) (m : ℕ) (to : Standing) → Onward k k' acts → AreReplied sound k n at is m to → AreReplied sound k' n at is m to
  told_on k k' acts n at [] m to o h = h
  told_on k k' acts n at (i ∷ is) m to o h = (h.0, h.1, h.2, h.3, replied_on k k' acts n at.settings h.0 i h.2 o h.4, told_on k k' acts i.evidence.last (onward h.2 h.0 h.1) is m to o h.5)

  pub told_snoc : (k : Known) (n : ℕ) (at : Standing) (is : List Item) (m : ℕ) (to : Standing) (p : SeenPiece) (rest : List SeenPiece) (i : Item) (st : After) → AreReplied sound k n at is m to → to.left ≡ p ∷ rest → IsReplied sound k m to.settings p i st
      → AreReplied sound k n at (is ++ i ∷ []) i.evidence.last (onward st p rest)
  told_snoc k n at [] m to p rest i st h a r =
      let F : ℕ × Standing → Type 0 = λ q. (q.1.left ≡ p ∷ rest) × IsReplied sound k q.0 q.1.settings p i st in
      let q = subst F (λ x. (sym h.0 x, sym h.1 x)) (a, r) in
      (p, rest, st, q.0, q.1, (refl, refl))
  told_snoc k n at (j ∷ is) m to p rest i st h a r = (h.0, h.1, h.2, h.3, h.4, told_snoc k j.evidence.last (onward h.2 h.0 h.1) is m to p rest i st h.5 a r)
