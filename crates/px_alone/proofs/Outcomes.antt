-- What an answer comes to, by what its seat did for it.
use Rattle.std.proofs.Common.{ℕ, ◌≡◌, ◌≢◌, ◌<◌, Bool, true, false, List, [], ◌∷◌, ◌++◌, refl, sym, ◌∙◌, ap, subst, arith, inl, inr, append_assoc, if◌then◌else◌}
use Rattle.std.specs.List.{flat_map}
use Rattle.px_values.specs.declared.change.Change.{Change}
use Rattle.px_values.specs.declared.name.TableId.{TableId}
use Rattle.px_trail.specs.Answers.{IsAmong}
use Rattle.px_trail.specs.Legal.{Follows, IsLegal}
use Rattle.px_trail.specs.Trail.{Base, last_of}
use Rattle.px_trail.specs.declared.entry.Act.{Act}
use Rattle.px_trail.specs.declared.entry.Act.TheVariants.{Begun, Ended}
use Rattle.px_trail.specs.declared.entry.Entry.{Entry}
use Rattle.px_trail.proofs.Batches.{last_from-le}
use Rattle.px_trail.proofs.Growth.{last_from-append}
use Rattle.px_reply.specs.Refusals.{refusal_in}
use Rattle.px_reply.specs.declared.refusal.Cause.{Cause}
use Rattle.px_reply.specs.declared.refusal.Cause.TheVariants.{Statement, Device, Closing, Memory}
use Rattle.px_reply.specs.declared.refusal.Refusal.TheVariants as refusal
use Rattle.px_reply.specs.declared.reply.Reply.{Reply}
use Rattle.px_reply.specs.declared.reply.Reply.TheVariants.{Refused}
use Rattle.px_item.specs.declared.answered.After.{After}
use Rattle.px_item.specs.declared.answered.After.TheVariants as next_is
use Rattle.px_item.specs.declared.answered.Answered.{Answered}
use Rattle.px_item.specs.declared.answered.Settings.{Settings}
use Rattle.px_alone.specs.Alone.{IsOwnCause, stamp_by}
use Rattle.px_alone.specs.Answers.{DoesBatch, AloneOutcome, Tells}
use Rattle.px_alone.proofs.Standing.{acts_of, changes_in, is_change}

-- 1. Outcomes

abbrev pub stamps_in : List Act → List ℕ
stamps_in acts = flat_map stamp_by acts

abbrev pub outcome_by : List Act → Reply → After → AloneOutcome
outcome_by acts r next = record { stamps = stamps_in acts; reply = r; next = next; acts = acts }

abbrev pub outcome_of : List Act → Answered → AloneOutcome
outcome_of own a = outcome_by (changes_in own) a.reply a.after

-- nothing was changed
pub tells-of : (own : List Act) (a : Answered) (r : Reply) (st : Settings) → changes_in own ≡ [] → a.reply ≡ r → a.after ≡ next_is.Next st → Tells (outcome_of own a) r st
tells-of own a r st none says next = λ i. outcome_by (none i) (says i) (next i)

-- one batch was begun and ended
pub does-of : (own : List Act) (a : Answered) (t : TableId) (stamp : ℕ) (cs : List Change) (r : Reply) (next : After) → own ≡ Begun t stamp cs ∷ Ended t stamp ∷ [] → a.reply ≡ r → a.after ≡ next → DoesBatch (outcome_of own a) t stamp cs r next
does-of own a t stamp cs r next one says behind = λ i. outcome_by (changes_in (one i)) (says i) (behind i)

-- 2. Refusals that don't come

abbrev pub Quiet : Reply → Type 0
Quiet r = IsOwnCause (refusal_in r)

pub quiet-by : (r r' : Reply) → r ≡ r' → Quiet r → Quiet r'
quiet-by r r' e q = subst Quiet e q

pub no-device : {A : Type 0} → Device ≡ Statement → A
no-device h = let z : ◌≡◌ {A = Cause} Device Statement = h in cc

pub no-closing : {A : Type 0} → Closing ≡ Statement → A
no-closing h = let z : ◌≡◌ {A = Cause} Closing Statement = h in cc

pub no-memory : {A : Type 0} → Memory ≡ Statement → A
no-memory h = let z : ◌≡◌ {A = Cause} Memory Statement = h in cc

pub memory-not : (r : Reply) → Quiet r → r ≢ Refused refusal.Memory
memory-not r q e = no-memory (quiet-by r (Refused refusal.Memory) e q)

-- 3. Stamps that are drawn

-- the entry stands among these
pub record IsSplitAt (es : List Entry) (act : Act) : Type 0 where
  pub front : List Entry
  pub entry : Entry
  pub rest : List Entry
  pub is : es ≡ front ++ entry ∷ rest
  pub act_is : entry.act ≡ act

pub split-at : (es : List Entry) (act : Act) → IsAmong act (changes_in (acts_of es)) → IsSplitAt es act
unfolding IsAmong
split-at [] act h = absurd h
split-at (e ∷ es) act h =
    elim (is_change e.act) as (λ v. IsAmong act (if v then e.act ∷ changes_in (acts_of es) else changes_in (acts_of es)) → IsSplitAt (e ∷ es) act) [
      | true ↦ λ k. elim k [
        | inl same ↦ record { front = []; entry = e; rest = es; is = refl; act_is = same }
        | inr more ↦ (let z = split-at es act more in record { front = e ∷ z.front; entry = z.entry; rest = z.rest; is = ap (λ (l : List Entry). e ∷ l) z.is; act_is = z.act_is })
      ]
      | false ↦ λ k. (let z = split-at es act k in record { front = e ∷ z.front; entry = z.entry; rest = z.rest; is = ap (λ (l : List Entry). e ∷ l) z.is; act_is = z.act_is })
    ] h

-- a batch that begins behind some entries has a stamp behind the last one of its table then
pub begun-above : (b : Base) (pre more : List Entry) (t : TableId) (s : ℕ) (cs : List Change) → IsLegal b (pre ++ more) → IsAmong (Begun t s cs) (changes_in (acts_of more)) → last_of b t.0 pre < s
unfolding Follows
begun-above b pre more t s cs legal among =
    let z = split-at more (Begun t s cs) among in
    let cut : pre ++ more ≡ (pre ++ z.front) ++ z.entry ∷ z.rest = ap (λ (l : List Entry). pre ++ l) z.is ∙ sym (append_assoc pre z.front (z.entry ∷ z.rest)) in
    let may = legal.each (pre ++ z.front) z.entry z.rest cut in
    let f : Follows b (pre ++ z.front) z.entry.seat z.entry.calls (Begun t s cs) = subst (Follows b (pre ++ z.front) z.entry.seat z.entry.calls) z.act_is may.follows in
    let low : last_of b t.0 (pre ++ z.front) < s = f.0 in
    let up = last_from-le t.0 (last_of b t.0 pre) z.front in
    let on = last_from-append t.0 (b.last t.0) pre z.front in
    omega arith

-- the first change among some entries, and what is behind it
pub record FirstChange (es : List Entry) (act : Act) (l : List Act) : Type 0 where
  pub front : List Entry
  pub entry : Entry
  pub rest : List Entry
  pub is : es ≡ front ++ entry ∷ rest
  pub act_is : entry.act ≡ act
  pub calm : changes_in (acts_of front) ≡ []
  pub behind : changes_in (acts_of rest) ≡ l

pub first-change : (es : List Entry) (act : Act) (l : List Act) → changes_in (acts_of es) ≡ act ∷ l → FirstChange es act l
first-change [] act l h = cc
first-change (e ∷ es) act l h =
    elim (is_change e.act) as (λ v. is_change e.act ≡ v → (if v then e.act ∷ changes_in (acts_of es) else changes_in (acts_of es)) ≡ act ∷ l → FirstChange (e ∷ es) act l) [
      | true ↦ λ v k. record { front = []; entry = e; rest = es; is = refl; act_is = cc; calm = refl; behind = cc }
      | false ↦ λ v k. (let z = first-change es act l k in record {
        front = e ∷ z.front;
        entry = z.entry;
        rest = z.rest;
        is = ap (λ (m : List Entry). e ∷ m) z.is;
        act_is = z.act_is;
        behind = z.behind;
        calm = ap (λ (w : Bool). if w then e.act ∷ changes_in (acts_of z.front) else changes_in (acts_of z.front)) v ∙ z.calm;
      })
    ] refl h
