-- The receipts of a DELETE count the rows that it removed.
use Rattle.std.proofs.Common.{ℕ, zero, suc, ◌≡◌, ◌+◌, length, take, drop, sum_by, arith, Result, Ok, ◌==◌, ◌&&◌, if◌then◌else◌, Bool, true, false, Option, None, Some, List, [], ◌∷◌, ◌++◌, refl, sym, ap, subst, ◌∙◌, inl, inr, ◌⊎◌}
use Rattle.std.proofs.lemmas.List.Sums.{sum_by-cons}
use Rattle.px_values.specs.declared.change.Change.{Change}
use Rattle.px_values.specs.declared.name.TableId.{TableId}
use Rattle.px_trail.specs.declared.entry.Act.{Act}
use Rattle.px_trail.specs.declared.entry.Act.TheVariants.{Begun, Phase, Wrote, Ended}
use Rattle.px_trail.specs.declared.entry.Entry.{Entry}
use Rattle.px_trail.specs.Answers.{IsAmong}
use Rattle.px_trail.specs.Batches.{Batch, batch_from, batch_of, batch_step, begun_batch}
use Rattle.px_trail.specs.Legal.{Follows, IsLegal, MayCome}
use Rattle.px_trail.specs.Trail.{Base, acts_by}
use Rattle.px_trail.proofs.Batches.{batch-none, same_test}
use Rattle.px_trail.proofs.Growth.{batch_from-append, batch_of-snoc, legal-induct}
use Rattle.px_calls.specs.declared.ticket.Receipt.{Receipt}
use Rattle.px_calls.specs.Known.{Known, is_turn, outline}
use Rattle.px_calls.proofs.Runs.{acts_by-append, among-append, among-front, ran-made}
use Rattle.px_planned.specs.declared.planned.Planned.{Planned}
use Rattle.px_removals.specs.Removals.{IsSplit}
use Rattle.px_deleting.specs.declared.deleted.Deleted.{Deleted}
use Rattle.px_deleting.specs.declared.deleted.DeleteFault.{DeleteFault}
use Rattle.px_deleting.specs.declared.deleted.Removed.{Removed}
use Rattle.px_deleting.specs.Deleting.{AreMade, HasMadeBatch, HasRemoved, IsDeleteEnd, RanDelete}

-- 1. The changes of a batch are those with which it was begun

-- there is a batch of these changes
abbrev pub HasChanges : Option Batch → List Change → Type 0
HasChanges None cs = ⊥
HasChanges (Some x) cs = x.changes ≡ cs

if_kept : (v : Bool) (x y : Batch) (cs : List Change) → x.changes ≡ cs → y.changes ≡ cs → HasChanges (if v then Some x else Some y) cs
if_kept true x y cs h k = h
if_kept false x y cs h k = k

-- a batch keeps its changes
step_keeps : (t s seat : ℕ) (o : Option Batch) (act : Act) (cs : List Change) → HasChanges o cs → HasChanges (batch_step t s o seat act) cs
unfolding batch_step
step_keeps t s seat None act cs h = absurd h
step_keeps t s seat (Some x) (Phase t' s' p) cs h = if_kept ((t'.0 == t) && (s' == s)) (record x { phase = p }) x cs h h
step_keeps t s seat (Some x) (Wrote t' s' rows) cs h = if_kept ((t'.0 == t) && (s' == s)) (record x { written = x.written ++ rows }) x cs h h
step_keeps t s seat (Some x) (Ended t' s') cs h = if_kept ((t'.0 == t) && (s' == s)) (record x { ended = true }) x cs h h
step_keeps t s seat (Some x) act cs h = h

from_keeps : (t s : ℕ) (o : Option Batch) (es : List Entry) (cs : List Change) → HasChanges o cs → HasChanges (batch_from t s o es) cs
unfolding batch_from
from_keeps t s o [] cs h = h
from_keeps t s o (e ∷ es) cs h = from_keeps t s (batch_step t s o e.seat e.act) es cs (step_keeps t s e.seat o e.act cs h)

pub changes-stay : (t s : ℕ) (es more : List Entry) (cs : List Change) → HasChanges (batch_of t s es) cs → HasChanges (batch_of t s (es ++ more)) cs
changes-stay t s es more cs h = subst (λ (o : Option Batch). HasChanges o cs) (sym (batch_from-append t s None es more)) (from_keeps t s (batch_of t s es) more cs h)

-- what is among one's own and one more
among_more : (a act : Act) (xs : List Act) (v : Bool) → IsAmong a (xs ++ (if v then act ∷ [] else [])) → IsAmong a xs ⊎ (act ≡ a)
unfolding IsAmong
among_more a act [] true (inl e) = inr e
among_more a act [] true (inr e) = absurd e
among_more a act [] false e = absurd e
among_more a act (x ∷ xs) v (inl e) = inl (inl e)
among_more a act (x ∷ xs) v (inr h) = elim (among_more a act xs v h) [ inl k ↦ inl (inr k) | inr k ↦ inr k ]

acts_snoc : (seat : ℕ) (es : List Entry) (e : Entry) → acts_by seat (es ++ e ∷ []) ≡ acts_by seat es ++ (if e.seat == seat then e.act ∷ [] else [])
unfolding acts_by
acts_snoc seat es e = acts_by-append seat es (e ∷ [])

begun_now : (b : Base) (t : TableId) (s : ℕ) (cs : List Change) (es : List Entry) (e : Entry) → e.act ≡ Begun t s cs → MayCome b es e → HasChanges (batch_step t.0 s (batch_of t.0 s es) e.seat e.act) cs
unfolding batch_step Follows
begun_now b t s cs es e is may =
    let f : Follows b es e.seat e.calls (Begun t s cs) = subst (λ (a : Act). Follows b es e.seat e.calls a) is may.follows in
    let none = batch-none b t.0 s es f.0 in
    let new : batch_step t.0 s None e.seat (Begun t s cs) ≡ Some (begun_batch e.seat cs) = ap (λ (v : Bool). if v then Some (begun_batch e.seat cs) else None) (same_test t.0 s) in
    subst (λ (o : Option Batch). HasChanges (batch_step t.0 s o e.seat e.act) cs) (sym none)
    (subst (λ (a : Act). HasChanges (batch_step t.0 s None e.seat a) cs) (sym is) (subst (λ (o : Option Batch). HasChanges o cs) (sym new) refl))

-- a batch that a seat began has the changes with which it began it
pub begun-has : (b : Base) (es : List Entry) (seat : ℕ) (t : TableId) (s : ℕ) (cs : List Change) → IsLegal b es → IsAmong (Begun t s cs) (acts_by seat es) → HasChanges (batch_of t.0 s es) cs
unfolding IsAmong acts_by
begun-has b es seat t s cs legal =
    legal-induct b (λ l. IsAmong (Begun t s cs) (acts_by seat l) → HasChanges (batch_of t.0 s l) cs)
    (λ l e _ may h among. subst (λ (o : Option Batch). HasChanges o cs) (sym (batch_of-snoc t.0 s l e))
    (elim (among_more (Begun t s cs) e.act (acts_by seat l) (e.seat == seat) (subst (λ (xs : List Act). IsAmong (Begun t s cs) xs) (acts_snoc seat l e) among)) [
      | inl old ↦ step_keeps t.0 s e.seat (batch_of t.0 s l) e.act cs (h old)
      | inr new ↦ begun_now b t s cs l e new may
    ]))
    [] es legal (λ h. absurd h)

-- 2. A receipt counts the changes of its part

same_changes : (o : Option Batch) (xs ys : List Change) → HasChanges o xs → HasChanges o ys → xs ≡ ys
same_changes None xs ys h k = absurd h
same_changes (Some x) xs ys h k = sym h ∙ k

part_counted : (sound : Type 0) (k : Known) (t : TableId) (cs : List Change) (acts : List Act) (r : Receipt) → IsLegal k.base k.seen → IsAmong (Begun t r.stamp cs) (acts_by k.seat k.seen) → HasMadeBatch sound k t cs acts r → r.rows ≡ length cs
part_counted sound k t cs acts r legal among h =
    let receipt = h.ended.receipt in
    let now : HasChanges (batch_of t.0 r.stamp k.seen) cs = begun-has k.base k.seen k.seat t r.stamp cs legal among in
    let then_ : HasChanges (batch_of t.0 r.stamp h.past.seen) receipt.batch.changes = subst (λ (o : Option Batch). HasChanges o receipt.batch.changes) (sym receipt.is) refl in
    let stays : HasChanges (batch_of t.0 r.stamp k.seen) receipt.batch.changes = subst (λ (l : List Entry). HasChanges (batch_of t.0 r.stamp l) receipt.batch.changes) (sym h.was.seen) (changes-stay t.0 r.stamp h.past.seen h.was.more receipt.batch.changes then_) in
    receipt.rows ∙ ap length (same_changes (batch_of t.0 r.stamp k.seen) receipt.batch.changes cs stays now)

first_of : (t : TableId) (s : ℕ) (cs : List Change) (acts others : List Act) → acts ≡ Begun t s cs ∷ Ended t s ∷ [] → IsAmong (Begun t s cs) (acts ++ others)
unfolding IsAmong
first_of t s cs acts others e = among-front (Begun t s cs) acts others (subst (λ (l : List Act). IsAmong (Begun t s cs) l) (sym e) (inl refl))

-- and so do all of them together
parts_counted : (sound : Type 0) (k : Known) (t : TableId) (parts : List (List Change)) (rs : List Receipt) (acts : List Act) → IsLegal k.base k.seen → ((a : Act) → IsAmong a acts → IsAmong a (acts_by k.seat k.seen)) → AreMade sound k t parts rs acts
    → sum_by (λ r. r.rows) rs ≡ sum_by length parts
parts_counted sound k t [] [] acts legal own h = refl
parts_counted sound k t [] (r ∷ rs) acts legal own h = absurd h
parts_counted sound k t (cs ∷ parts) [] acts legal own h = absurd h
parts_counted sound k t (cs ∷ parts) (r ∷ rs) acts legal own h =
    let own' : (a : Act) → IsAmong a (h.0 ++ h.1) → IsAmong a (acts_by k.seat k.seen) = subst (λ (l : List Act). (a : Act) → IsAmong a l → IsAmong a (acts_by k.seat k.seen)) h.2 own in
    let one : r.rows ≡ length cs = part_counted sound k t cs h.0 r legal (own' (Begun t r.stamp cs) (first_of t r.stamp cs h.0 h.1 h.3.ended.one)) h.3 in
    let others : sum_by (λ (x : Receipt). x.rows) rs ≡ sum_by length parts = parts_counted sound k t parts rs h.1 legal (λ a m. own' a (among-append a h.0 h.1 m)) h.4 in
    let left = sum_by-cons (λ (x : Receipt). x.rows) r rs in
    let right = sum_by-cons (λ (x : List Change). length x) cs parts in
    omega (arith, left, right, one, others)

cut_length : (n : ℕ) (xs : List Change) → length (take n xs) + length (drop n xs) ≡ length xs
cut_length zero xs = omega arith
cut_length (suc n) [] = refl
cut_length (suc n) (x ∷ xs) = let h = cut_length n xs in omega arith

split_length : (cs : List Change) (parts : List (List Change)) (left : List Change) → IsSplit cs parts left → sum_by length parts + length left ≡ length cs
split_length cs [] left h = let e = ap length h in omega arith
split_length cs (part ∷ parts) left h =
    let e : length part ≡ length (take 1000 cs) = ap length h.1 in
    let c = cut_length 1000 cs in
    let d = split_length (drop 1000 cs) parts left h.2 in
    let sum = sum_by-cons (λ (x : List Change). length x) part parts in
    omega (arith, sum, e, c, d)

-- 3. So the number of rows is the sum of those of the receipts

among_front : (a x : Act) (xs ys : List Act) → (IsAmong a xs → IsAmong a ys) → IsAmong a (x ∷ xs) → IsAmong a (x ∷ ys)
unfolding IsAmong
among_front a x xs ys h (inl e) = inl e
among_front a x xs ys h (inr w) = inr (h w)

among_filtered : (a : Act) (xs : List Act) → IsAmong a (outline xs) → IsAmong a xs
unfolding IsAmong
among_filtered a [] h = h
among_filtered a (x ∷ xs) h = elim (is_turn x) as (λ v. IsAmong a (if v then x ∷ outline xs else outline xs) → IsAmong a (x ∷ xs)) [
  | true ↦ λ w. among_front a x (outline xs) xs (among_filtered a xs) w
  | false ↦ λ w. inr (among_filtered a xs w)
] h

removed_counted : (sound : Type 0) (p : Planned) (k k' : Known) (d : Deleted) (m : Removed) (acts : List Act) → IsLegal k'.base k'.seen → ((a : Act) → IsAmong a (outline acts) → IsAmong a (acts_by k'.seat k'.seen))
    → HasRemoved sound p (outline acts) k' d.receipts.items m → m.rows ≡ sum_by (λ r. r.rows) d.receipts.items
removed_counted sound p k k' d m acts legal own h =
    let own' : (a : Act) → IsAmong a (h.finding ++ h.making) → IsAmong a (acts_by k'.seat k'.seen) = subst (λ (l : List Act). (a : Act) → IsAmong a l → IsAmong a (acts_by k'.seat k'.seen)) h.own_is own in
    let sums = parts_counted sound k' p.table.id h.parts d.receipts.items h.making legal (λ a w. own' a (among-append a h.finding h.making w)) h.made in
    let parts = split_length h.changes h.parts [] h.split in
    let rows = h.rows in
    omega arith

pub counted : (sound : Type 0) (p : Planned) (k k' : Known) (d : Deleted) (m : Removed) → RanDelete sound p k k' d → IsLegal k.base k.seen → d.end ≡ Ok m → m.rows ≡ sum_by (λ r. r.rows) d.receipts.items
counted sound p k k' d m h legal e =
    removed_counted sound p k k' d m h.acts (h.ran.legal legal) (λ a w. ran-made k k' h.acts a h.ran (inl (among_filtered a h.acts w)))
    (subst (λ (r : Result Removed DeleteFault). IsDeleteEnd sound p (length k.seen) (outline h.acts) k' d.receipts.items r) e h.outcome)
