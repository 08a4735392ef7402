-- What time leaves of a build: what was known earlier, what the seat did, and why a step was refused.
use Rattle.std.proofs.Common.{ℕ, ◌≡◌, ◌≤◌, None, Some, List, [], ◌∷◌, ◌++◌, length, drop, refl, sym, ◌∙◌, ap, arith, append_assoc, inl, length-append}
use Rattle.std.proofs.lemmas.List.{append-nil}
use Rattle.px_values.specs.declared.name.IndexId.{IndexId}
use Rattle.px_values.specs.declared.name.TableId.{TableId}
use Rattle.px_values.specs.declared.row.Value.{Value}
use Rattle.px_tables.specs.declared.index.Index.{Index}
use Rattle.px_trail.specs.declared.entry.Act.{Act}
use Rattle.px_trail.specs.declared.entry.Act.TheVariants as act
use Rattle.px_trail.specs.declared.entry.Entry.{Entry}
use Rattle.px_trail.specs.Answers.{IsAmong}
use Rattle.px_trail.specs.Trail.{Base, Catalogue, acts_by, base_catalogue, catalogue_from, catalogue_of, catalogue_step}
use Rattle.px_trail.proofs.Growth.{catalogue_from-append}
use Rattle.px_calls.specs.declared.definition.Made.{Made}
use Rattle.px_calls.specs.declared.fault.StepFault.{StepFault}
use Rattle.px_calls.specs.declared.fault.StepFault.TheVariants as step
use Rattle.px_calls.specs.declared.query.Point.{Point}
use Rattle.px_calls.specs.Causes.{Refuses}
use Rattle.px_calls.specs.Known.{Adds, HasMade, Known, Ran, TimePasses, outline}
use Rattle.px_calls.specs.Requires.{IsDrawn}
use Rattle.px_calls.proofs.Runs.{ran-adds, ran-made, ran-sees}
use Rattle.px_calls.proofs.Stays.{ran-since}
use Rattle.px_upkeep.specs.declared.build.BuildFault.{BuildFault}
use Rattle.px_upkeep.specs.declared.build.BuildFault.TheVariants as why
use Rattle.px_upkeep.specs.Turns.{BecameActive, BuildFaultIs, FollowsClosing, IsAsked, IsPast, BuildFaultSince, Try, TriesThen, WasFound, WasRefused, acts_of_tries, acts_of_try, next_of, opening, state_at_point, step_fault}

-- 1. Earlier knowledge

pub past-same : (k : Known) → IsPast k k
past-same k = record { more = []; seen = sym (append-nil k.seen); seat = refl; base = refl; damaged = refl }

pub past-passes : (k k' : Known) → TimePasses k k' → IsPast k k'
past-passes k k' h = record { more = h.others; seen = h.seen; seat = h.seat; base = h.base; damaged = h.damaged }

pub past-ran : (k k' : Known) (acts : List Act) → Ran k k' acts → IsPast k k'
past-ran k k' acts h = record { more = h.added; seen = h.seen; seat = h.seat; base = h.base; damaged = h.damaged }

pub past-then : (was k k' : Known) → IsPast was k → IsPast k k' → IsPast was k'
past-then was k k' h j = record {
  more = h.more ++ j.more;
  seen = j.seen ∙ (ap (λ (l : List Entry). l ++ j.more) h.seen ∙ append_assoc was.seen h.more j.more);
  seat = j.seat ∙ h.seat;
  base = j.base ∙ h.base;
  damaged = j.damaged ∙ h.damaged;
}

pub longer : (k k' : Known) (n : ℕ) → IsPast k k' → n ≤ length k.seen → n ≤ length k'.seen
longer k k' n h low = let e = ap length h.seen in let len = length-append k.seen h.more in omega (arith, e, len, low)

next_step : (c : Catalogue) (a : Act) → c.next ≤ (catalogue_step c a).next
unfolding catalogue_step
next_step c (act.Made t what) = omega arith
next_step c (act.IndexMade t i s what) = omega arith
next_step c (act.IndexState t i state s) = omega arith
next_step c (act.Dropped t None) = omega arith
next_step c (act.Dropped t (Some i)) = omega arith
next_step c a = omega arith

next_from : (c : Catalogue) (es : List Entry) → c.next ≤ (catalogue_from c es).next
unfolding catalogue_from
next_from c [] = omega arith
next_from c (e ∷ es) = (let one = next_step c e.act in let rest = next_from (catalogue_step c e.act) es in omega (arith, one, rest))

-- a number that was drawn stays so
drawn : (k k' : Known) (m : ℕ) → IsPast k k' → IsDrawn k m → IsDrawn k' m
drawn k k' m h was =
    let c = catalogue_of k.base k.seen in
    let is : catalogue_of k'.base k'.seen ≡ catalogue_from c h.more = ap (λ (b : Base). catalogue_of b k'.seen) h.base ∙ (ap (catalogue_of k.base) h.seen ∙ catalogue_from-append (base_catalogue k.base) k.seen h.more) in
    let next = ap (λ (z : Catalogue). z.next) is in
    let grows = next_from c h.more in
    omega (arith, next, grows, was)

pub asked-later : (n : ℕ) (t : TableId) (i : IndexId) (k k' : Known) → IsPast k k' → IsAsked n t i k → IsAsked n t i k'
asked-later n t i k k' h a = record { from = longer k k' n h a.from; table = drawn k k' t.0 h a.table; index = drawn k k' i.0 h a.index }

pub refused-later : (sound : Type 0) (n t i : ℕ) (f : BuildFault) (k k' : Known) → IsPast k k' → WasRefused sound n t i f k → WasRefused sound n t i f k'
refused-later sound n t i f k k' h r = record { was = r.was; past = past-then r.was k k' r.past h; from = r.from; cause = r.cause; since = r.since }

pub active-later : (n t i : ℕ) (m : Made) (k k' : Known) → IsPast k k' → BecameActive n t i m k → BecameActive n t i m k'
active-later n t i m k k' h r = record { was = r.was; past = past-then r.was k k' r.past h; from = r.from; index = r.index; is = r.is; owner = r.owner; state = r.state; birth = r.birth; number = r.number; at = r.at }

pub found-later : (n : ℕ) (t : TableId) (i : IndexId) (p : Point) (x : Index) (k k' : Known) → IsPast k k' → ((r : List Value) → state_at_point k' p r ≡ state_at_point k p r) → WasFound n k t i p x → WasFound n k' t i p x
found-later n t i p x k k' h same f = record { was = f.was; past = past-then f.was k k' f.past h; from = f.from; table = f.table; index = f.index; owner = f.owner; birth = f.birth; same = λ r. same r ∙ f.same r }

-- 2. What the seat did

acts-append : (t : TableId) (i : IndexId) (xs ys : List Try) → acts_of_tries t i (xs ++ ys) ≡ acts_of_tries t i xs ++ acts_of_tries t i ys
unfolding acts_of_tries
acts-append t i [] ys = refl
acts-append t i (x ∷ xs) ys = ap (λ (l : List Act). acts_of_try t i x ++ l) (acts-append t i xs ys) ∙ sym (append_assoc (acts_of_try t i x) (acts_of_tries t i xs) (acts_of_tries t i ys))

acts_one : (t : TableId) (i : IndexId) (x : Try) → acts_of_tries t i (x ∷ []) ≡ acts_of_try t i x
unfolding acts_of_tries
acts_one t i x = append-nil (acts_of_try t i x)

pub no-tries : (t : TableId) (i : IndexId) → TriesThen t i [] []
unfolding acts_of_tries
no-tries t i = ([], refl)

-- more acts behind
pub tries-then : (t : TableId) (i : IndexId) (last more own : List Act) → TriesThen t i last own → TriesThen t i (last ++ more) (own ++ more)
tries-then t i last more own h = (h.0, ap (λ (l : List Act). l ++ more) h.1 ∙ append_assoc (acts_of_tries t i h.0) last more)

-- a try that is over is one of the tries
pub tried : (t : TableId) (i : IndexId) (x : Try) (own : List Act) → TriesThen t i (acts_of_try t i x) own → TriesThen t i [] own
tried t i x own h =
    let all : acts_of_tries t i (h.0 ++ x ∷ []) ≡ acts_of_tries t i h.0 ++ acts_of_try t i x = acts-append t i h.0 (x ∷ []) ∙ ap (λ (l : List Act). acts_of_tries t i h.0 ++ l) (acts_one t i x) in
    (h.0 ++ x ∷ [], h.1 ∙ (sym all ∙ sym (append-nil (acts_of_tries t i (h.0 ++ x ∷ [])))))

-- nothing more
pub tries-still : (t : TableId) (i : IndexId) (last more own : List Act) → more ≡ [] → TriesThen t i last own → TriesThen t i last (own ++ more)
tries-still t i last more own e h = (h.0, ap (λ (l : List Act). own ++ l) e ∙ (append-nil own ∙ h.1))

-- 3. Refusals

-- the call's own act is one of the seat's
made : (k k' : Known) (a : Act) → Adds k k' a → HasMade k' a
unfolding IsAmong
made k k' a h = ran-made k k' (a ∷ []) a (ran-adds k k' a h) (inl (inl refl))

made_since : (k k' : Known) (a : Act) (n : ℕ) → Adds k k' a → n ≤ length k.seen → IsAmong a (acts_by k'.seat (drop n k'.seen))
unfolding IsAmong
made_since k k' a n h low = ran-since k k' (a ∷ []) a n low (ran-adds k k' a h) (inl refl)

-- what a refused call adds is nothing that a run began, ended, opened, closed or defined
pub record Refused (k k' : Known) : Type 0 where
  pub acts : List Act
  pub ran : Ran k k' acts
  pub quiet : outline acts ≡ []

pub refused-call : (Cause : StepFault → Known → Type 0) (k k' : Known) (f : StepFault) → Refuses Cause k k' f → Refused k k'
refused-call Cause k k' step.ReadFault h = record { acts = act.Missed h.1.0 ∷ []; ran = ran-adds k k' (act.Missed h.1.0) h.1.1; quiet = refl }
refused-call Cause k k' step.WriteFault h = record { acts = act.Shut h.1.0 ∷ []; ran = ran-adds k k' (act.Shut h.1.0) h.1.1; quiet = refl }
refused-call Cause k k' f h = record { acts = []; ran = ran-sees k k' h.1; quiet = refl }

module _ (sound : Type 0) (n t i : ℕ) where
  -- a fault that nothing but its cause tells
  pub plain : (f : BuildFault) (k' : Known) → n ≤ length k'.seen → BuildFaultIs sound t i f k' → BuildFaultSince n f k' → WasRefused sound n t i f k'
  plain f k' low cause since = record { was = k'; past = past-same k'; from = low; cause = cause; since = since }

  shuts : (k k' : Known) → n ≤ length k.seen → n ≤ length k'.seen → ((call : ℕ) × Adds k k' (act.Shut call)) → WasRefused sound n t i why.WriteFault k'
  shuts k k' low now h = plain why.WriteFault k' now (h.0, made k k' (act.Shut h.0) h.1) (h.0, made_since k k' (act.Shut h.0) n h.1 low)

  misses : (k k' : Known) → n ≤ length k.seen → n ≤ length k'.seen → ((call : ℕ) × Adds k k' (act.Missed call)) → WasRefused sound n t i why.ReadFault k'
  misses k k' low now h = plain why.ReadFault k' now (h.0, made k k' (act.Missed h.0) h.1) (h.0, made_since k k' (act.Missed h.0) n h.1 low)

  -- the causes of a call tell the faults of a build
  pub record Tells (Cause : StepFault → Known → Type 0) (k' : Known) : Type 0 where
    pub table : Cause step.NoTable k' → BuildFaultIs sound t i why.NoTable k'
    pub horizon : (h : ℕ) → Cause (step.BelowHorizon h) k' → BuildFaultIs sound t i (why.BelowHorizon h) k'
    pub damaged : (file place : ℕ) → Cause (step.Damaged file place) k' → BuildFaultIs sound t i (why.Damaged file place) k'
    pub closed : (call : ℕ) → Cause (step.Closed call) k' → BuildFaultIs sound t i (why.Closed call) k'

  pub refused-step : (Cause : StepFault → Known → Type 0) (k k' : Known) (f : StepFault) → Tells Cause k' → n ≤ length k.seen → n ≤ length k'.seen → Refuses Cause k k' f → WasRefused sound n t i (step_fault f) k'
  refused-step Cause k k' step.NoTable tells low now h = plain why.NoTable k' now (tells.table h.0) tt
  refused-step Cause k k' (step.BelowHorizon z) tells low now h = plain (why.BelowHorizon z) k' now (tells.horizon z h.0) tt
  refused-step Cause k k' step.ReadFault tells low now h = misses k k' low now h.1
  refused-step Cause k k' step.WriteFault tells low now h = shuts k k' low now h.1
  refused-step Cause k k' (step.Damaged file place) tells low now h = plain (why.Damaged file place) k' now (tells.damaged file place h.0) tt
  refused-step Cause k k' (step.Closed call) tells low now h = plain (why.Closed call) k' now (tells.closed call h.0) tt
  refused-step Cause k k' step.NameExists tells low now h = plain why.Memory k' now tt tt
  refused-step Cause k k' step.NoIndex tells low now h = plain why.Memory k' now tt tt
  refused-step Cause k k' (step.Limit which count) tells low now h = plain why.Memory k' now tt tt
  refused-step Cause k k' (step.Busy region cells bytes) tells low now h = plain why.Memory k' now tt tt
  refused-step Cause k k' (step.NotReady region) tells low now h = plain why.Memory k' now tt tt
  refused-step Cause k k' (step.InUse count) tells low now h = plain why.Memory k' now tt tt
  refused-step Cause k k' (step.NotYet stamp) tells low now h = plain why.Memory k' now tt tt
  refused-step Cause k k' step.Memory tells low now h = plain why.Memory k' now tt tt

-- what a fault leads to, once its point is closed
pub next-told : (sound : Type 0) (n : ℕ) (t : TableId) (i : IndexId) (p : Point) (f : BuildFault) (k : Known) (own : List Act) → WasRefused sound n t.0 i.0 f k → TriesThen t i (opening p ∷ []) own → FollowsClosing sound n t i p (next_of f) k own
next-told sound n t i p why.NoTable k own h o = (h, o)
next-told sound n t i p why.NoIndex k own h o = (h, o)
next-told sound n t i p why.WriteFault k own h o = (h, o)
next-told sound n t i p (why.Closed call) k own h o = (h, o)
next-told sound n t i p f k own h o = (h, o)
