-- What a seat's own acts leave under way, and what the trail leaves by those of each seat.
use Rattle.std.proofs.Common.{ℕ, ◌≡◌, ◌+◌, ◌-◌, ◌==◌, ◌&&◌, if◌then◌else◌, Bool, true, false, Option, None, Some, List, [], ◌∷◌, ◌++◌, refl, sym, ◌∙◌, ap, subst, arith, ⊎_elim}
use Rattle.std.proofs.lemmas.Bool.{cases_Bool, false≢true}
use Rattle.std.proofs.lemmas.Bool.Decides.{Decides-eqb}
use Rattle.px_values.specs.declared.change.Change.{Change}
use Rattle.px_values.specs.declared.name.IndexId.{IndexId}
use Rattle.px_values.specs.declared.name.TableId.{TableId}
use Rattle.px_tables.specs.declared.index.IndexState.{IndexState as BuildState}
use Rattle.px_tables.specs.declared.index.IndexState.TheVariants.{Building}
use Rattle.px_trail.specs.Batches.{Batch, batch_from, batch_of, batch_step, begun_batch}
use Rattle.px_trail.specs.Trail.{acts_by, open_points, points_from, points_step}
use Rattle.px_trail.proofs.Growth.{batch_from-append}
use Rattle.px_trail.specs.declared.entry.Act.{Act}
use Rattle.px_trail.specs.declared.entry.Act.TheVariants.{Begun, Ended, IndexState, Opened, Phase, Released, Wrote}
use Rattle.px_trail.specs.declared.entry.Entry.{Entry}
use Rattle.px_calls.specs.Calls.{act_of}
use Rattle.px_calls.specs.Known.{is_turn, outline}
use Rattle.px_calls.specs.declared.definition.Definition.{Definition}
use Rattle.px_calls.specs.declared.definition.Definition.TheVariants as d
use Rattle.px_calls.specs.declared.definition.Made.{Made}
use Rattle.px_upkeep.specs.Turns.{Try, Looked, Renewed, acts_of_tries}

-- ---- 1. What is under way after a seat's acts

-- whether the batch of this table and stamp is, after one act more
going_step : ℕ → ℕ → Bool → Act → Bool
going_step t s v (Begun t' s' cs) = if (t'.0 == t) && (s' == s) then true else v
going_step t s v (Ended t' s') = if (t'.0 == t) && (s' == s) then false else v
going_step t s v act = v

pub going : ℕ → ℕ → Bool → List Act → Bool
going t s v [] = v
going t s v (act ∷ acts) = going t s (going_step t s v act) acts

-- how many points of this table and stamp are open, after one act more
open_step : ℕ → ℕ → ℕ → Act → ℕ
open_step t s n (Opened t' s' scn) = if (t'.0 == t) && (s' == s) then n + 1 else n
open_step t s n (Released t' s') = if (t'.0 == t) && (s' == s) then n - 1 else n
open_step t s n act = n

pub open_after : ℕ → ℕ → ℕ → List Act → ℕ
open_after t s n [] = n
open_after t s n (act ∷ acts) = open_after t s (open_step t s n act) acts

-- The acts end each batch that they begin, and close each point that they open
pub record IsBalanced (acts : List Act) : Type 0 where
  pub batches : (t s : ℕ) → going t s false acts ≡ false
  pub points : (t s n : ℕ) → open_after t s n acts ≡ n

-- ---- 2. Some acts after others

going-append : (t s : ℕ) (v : Bool) (xs ys : List Act) → going t s v (xs ++ ys) ≡ going t s (going t s v xs) ys
unfolding going
going-append t s v [] ys = refl
going-append t s v (x ∷ xs) ys = going-append t s (going_step t s v x) xs ys

open-append : (t s n : ℕ) (xs ys : List Act) → open_after t s n (xs ++ ys) ≡ open_after t s (open_after t s n xs) ys
unfolding open_after
open-append t s n [] ys = refl
open-append t s n (x ∷ xs) ys = open-append t s (open_step t s n x) xs ys

pub balanced-none : IsBalanced []
unfolding going open_after
balanced-none = record { batches = λ t s. refl; points = λ t s n. refl }

pub balanced-append : (xs ys : List Act) → IsBalanced xs → IsBalanced ys → IsBalanced (xs ++ ys)
balanced-append xs ys h j = record {
  batches = λ t s. going-append t s false xs ys ∙ (ap (λ (v : Bool). going t s v ys) (h.batches t s) ∙ j.batches t s);
  points = λ t s n. open-append t s n xs ys ∙ (ap (λ (m : ℕ). open_after t s m ys) (h.points t s n) ∙ j.points t s n);
}

-- acts that change neither may be left out
going_quiet : (t s : ℕ) (v : Bool) (act : Act) → is_turn act ≡ false → going_step t s v act ≡ v
unfolding going_step
going_quiet t s v (Begun t' s' cs) h = absurd (false≢true (sym h))
going_quiet t s v (Ended t' s') h = absurd (false≢true (sym h))
going_quiet t s v act h = refl

open_quiet : (t s n : ℕ) (act : Act) → is_turn act ≡ false → open_step t s n act ≡ n
unfolding open_step
open_quiet t s n (Opened t' s' scn) h = absurd (false≢true (sym h))
open_quiet t s n (Released t' s') h = absurd (false≢true (sym h))
open_quiet t s n act h = refl

going-outline : (t s : ℕ) (v : Bool) (acts : List Act) → going t s v (outline acts) ≡ going t s v acts
unfolding going
going-outline t s v [] = refl
going-outline t s v (act ∷ acts) =
    elim (is_turn act) as (λ w. is_turn act ≡ w → going t s v (if w then act ∷ outline acts else outline acts) ≡ going t s (going_step t s v act) acts) [
      | true ↦ λ is. going-outline t s (going_step t s v act) acts
      | false ↦ λ is. going-outline t s v acts ∙ ap (λ (u : Bool). going t s u acts) (sym (going_quiet t s v act is))
    ] refl

open-outline : (t s n : ℕ) (acts : List Act) → open_after t s n (outline acts) ≡ open_after t s n acts
unfolding open_after
open-outline t s n [] = refl
open-outline t s n (act ∷ acts) =
    elim (is_turn act) as (λ w. is_turn act ≡ w → open_after t s n (if w then act ∷ outline acts else outline acts) ≡ open_after t s (open_step t s n act) acts) [
      | true ↦ λ is. open-outline t s (open_step t s n act) acts
      | false ↦ λ is. open-outline t s n acts ∙ ap (λ (m : ℕ). open_after t s m acts) (sym (open_quiet t s n act is))
    ] refl

-- ---- 3. Acts of one item

if_then : (v w : Bool) → (if v then false else (if v then true else w)) ≡ (if v then false else w)
if_then true w = refl
if_then false w = refl

if_false : (v : Bool) → (if v then false else false) ≡ false
if_false true = refl
if_false false = refl

pub balanced-batch : (t : TableId) (s : ℕ) (cs : List Change) → IsBalanced (Begun t s cs ∷ Ended t s ∷ [])
unfolding going going_step open_after open_step
balanced-batch t s cs = record {
  batches = λ t' s'. if_then ((t.0 == t') && (s == s')) false ∙ if_false ((t.0 == t') && (s == s'));
  points = λ t' s' n. refl;
}

back_again : (v : Bool) (n : ℕ) → (if v then (if v then n + 1 else n) - 1 else (if v then n + 1 else n)) ≡ n
back_again true n = omega arith
back_again false n = refl

-- other acts within a point that is opened and closed
pub balanced-within : (t : TableId) (s : ℕ) (scn : Bool) (acts : List Act) → IsBalanced acts → IsBalanced (Opened t s scn ∷ acts ++ Released t s ∷ [])
unfolding going going_step open_after open_step
balanced-within t s scn acts h = record {
  batches = λ t' s'. going-append t' s' false acts (Released t s ∷ []) ∙ h.batches t' s';
  points = λ t' s' n. let v = (t.0 == t') && (s == s') in
      open-append t' s' (if v then n + 1 else n) acts (Released t s ∷ [])
      ∙ (ap (λ (m : ℕ). if v then m - 1 else m) (h.points t' s' (if v then n + 1 else n)) ∙ back_again v n);
}

pub balanced-point : (t : TableId) (s : ℕ) (scn : Bool) → IsBalanced (Opened t s scn ∷ Released t s ∷ [])
balanced-point t s scn = balanced-within t s scn [] balanced-none

pub balanced-definition : (x : Definition) (m : Made) → IsBalanced (act_of x m ∷ [])
unfolding going going_step open_after open_step
balanced-definition (d.Table what) m = record { batches = λ t s. refl; points = λ t s n. refl }
balanced-definition (d.Index what) m = record { batches = λ t s. refl; points = λ t s n. refl }
balanced-definition (d.Active t' i) m = record { batches = λ t s. refl; points = λ t s n. refl }
balanced-definition (d.Disabled t' i) m = record { batches = λ t s. refl; points = λ t s n. refl }
balanced-definition (d.Rebuilding t' i) m = record { batches = λ t s. refl; points = λ t s n. refl }
balanced-definition (d.DropTable t') m = record { batches = λ t s. refl; points = λ t s n. refl }
balanced-definition (d.DropIndex t' i) m = record { batches = λ t s. refl; points = λ t s n. refl }

pub balanced-state : (t' : TableId) (i : IndexId) (state : BuildState) (stamp : ℕ) → IsBalanced (IndexState t' i state stamp ∷ [])
unfolding going going_step open_after open_step
balanced-state t' i state stamp = record { batches = λ t s. refl; points = λ t s n. refl }

-- a point that was opened and closed for a build, or an index that was built again
pub balanced-tries : (t : TableId) (i : IndexId) (tries : List Try) → IsBalanced (acts_of_tries t i tries)
unfolding acts_of_tries
balanced-tries t i [] = balanced-none
balanced-tries t i (Looked stamp ∷ tries) = balanced-append _ (acts_of_tries t i tries) (balanced-point t stamp true) (balanced-tries t i tries)
balanced-tries t i (Renewed stamp ∷ tries) = balanced-append _ (acts_of_tries t i tries) (balanced-state t i Building stamp) (balanced-tries t i tries)

-- ---- 4. What the trail tells by the acts of each seat

-- a batch that is under way is so by its own seat's acts
Tells : (ℕ → Bool) → Option Batch → Type 0
Tells v None = Unit {0}
Tells v (Some x) = x.ended ≡ false → v x.seat ≡ true

-- by each seat's acts, after one act more of this seat
after_step : ℕ → ℕ → ℕ → Act → (ℕ → Bool) → ℕ → Bool
after_step t s seat act v n = if seat == n then going_step t s (v n) act else v n

kept_begun : (w c u : Bool) → u ≡ true → (if w then (if c then true else u) else u) ≡ true
kept_begun true true u h = refl
kept_begun true false u h = h
kept_begun false c u h = h

kept : (w u : Bool) → u ≡ true → (if w then u else u) ≡ true
kept true u h = h
kept false u h = h

begins : (t s seat : ℕ) (v : ℕ → Bool) (cs : List Change) (c : Bool) → Tells (λ n. if seat == n then (if c then true else v n) else v n) (if c then Some (begun_batch seat cs) else None)
unfolding Tells
begins t s seat v cs true = λ going. let same : (seat == seat) ≡ true = (Decides-eqb seat seat).1 refl in rw same refl
begins t s seat v cs false = tt

ends : (t s seat : ℕ) (v : ℕ → Bool) (x : Batch) (c : Bool) → Tells v (Some x) → Tells (λ n. if seat == n then (if c then false else v n) else v n) (if c then Some (record x { ended = true }) else Some x)
unfolding Tells
ends t s seat v x true h = λ e. absurd (false≢true (sym e))
ends t s seat v x false h = λ e. kept (seat == x.seat) (v x.seat) (h e)

either : (seat : ℕ) (v : ℕ → Bool) (x y : Batch) (c : Bool) → y.seat ≡ x.seat → y.ended ≡ x.ended → Tells v (Some x) → Tells (λ n. if seat == n then v n else v n) (if c then Some y else Some x)
unfolding Tells
either seat v x y true same alike h = λ e. ap (λ (n : ℕ). if seat == n then v n else v n) same ∙ kept (seat == x.seat) (v x.seat) (h (sym alike ∙ e))
either seat v x y false same alike h = λ e. kept (seat == x.seat) (v x.seat) (h e)

tells_step : (t s seat : ℕ) (v : ℕ → Bool) (o : Option Batch) (act : Act) → Tells v o → Tells (after_step t s seat act v) (batch_step t s o seat act)
unfolding Tells after_step going_step batch_step begins ends either
tells_step t s seat v None (Begun t' s' cs) h = begins t s seat v cs ((t'.0 == t) && (s' == s))
tells_step t s seat v None act h = tt
tells_step t s seat v (Some x) (Begun t' s' cs) h = λ e. kept_begun (seat == x.seat) ((t'.0 == t) && (s' == s)) (v x.seat) (h e)
tells_step t s seat v (Some x) (Phase t' s' p) h = either seat v x (record x { phase = p }) ((t'.0 == t) && (s' == s)) refl refl h
tells_step t s seat v (Some x) (Wrote t' s' rows) h = either seat v x (record x { written = x.written ++ rows }) ((t'.0 == t) && (s' == s)) refl refl h
tells_step t s seat v (Some x) (Ended t' s') h = ends t s seat v x ((t'.0 == t) && (s' == s)) h
tells_step t s seat v (Some x) act h = λ e. kept (seat == x.seat) (v x.seat) (h e)

going_from : (t s : ℕ) (v : ℕ → Bool) (o : Option Batch) (es : List Entry) (y : Batch) → Tells v o → batch_from t s o es ≡ Some y → y.ended ≡ false → going t s (v y.seat) (acts_by y.seat es) ≡ true
unfolding Tells after_step batch_from acts_by going
going_from t s v o [] y h is e = subst (λ (x : Option Batch). Tells v x) is h e
going_from t s v o (x ∷ es) y h is e =
    elim (x.seat == y.seat) as (λ w. (if w then going_step t s (v y.seat) x.act else v y.seat) ≡ after_step t s x.seat x.act v y.seat → going t s (v y.seat) (if w then x.act ∷ acts_by y.seat es else acts_by y.seat es) ≡ true) [
      | true ↦ λ same. ap (λ (u : Bool). going t s u (acts_by y.seat es)) same ∙ going_from t s (after_step t s x.seat x.act v) (batch_step t s o x.seat x.act) es y (tells_step t s x.seat v o x.act h) is e
      | false ↦ λ same. ap (λ (u : Bool). going t s u (acts_by y.seat es)) same ∙ going_from t s (after_step t s x.seat x.act v) (batch_step t s o x.seat x.act) es y (tells_step t s x.seat v o x.act h) is e
    ] refl

points_own : (seat t s n seat' : ℕ) (act : Act) → (seat' == seat) ≡ true → points_step seat t s n seat' act ≡ open_step t s n act
unfolding points_step open_step
points_own seat t s n seat' (Opened t' s' scn) h = rw h refl
points_own seat t s n seat' (Released t' s') h = rw h refl
points_own seat t s n seat' act h = refl

points_other : (seat t s n seat' : ℕ) (act : Act) → (seat' == seat) ≡ false → points_step seat t s n seat' act ≡ n
unfolding points_step
points_other seat t s n seat' (Opened t' s' scn) h = rw h refl
points_other seat t s n seat' (Released t' s') h = rw h refl
points_other seat t s n seat' act h = refl

open_by : (seat t s n : ℕ) (es : List Entry) → points_from seat t s n es ≡ open_after t s n (acts_by seat es)
unfolding points_from acts_by open_after
open_by seat t s n [] = refl
open_by seat t s n (e ∷ es) =
    elim (e.seat == seat) as (λ w. (e.seat == seat) ≡ w → points_from seat t s (points_step seat t s n e.seat e.act) es ≡ open_after t s n (if w then e.act ∷ acts_by seat es else acts_by seat es)) [
      | true ↦ λ is. rw (points_own seat t s n e.seat e.act is) (open_by seat t s (open_step t s n e.act) es)
      | false ↦ λ is. rw (points_other seat t s n e.seat e.act is) (open_by seat t s n es)
    ] refl

tells_done : (o : Option Batch) → ((y : Batch) → o ≡ Some y → y.ended ≡ true) → Tells (λ n. false) o
unfolding Tells
tells_done None h = tt
tells_done (Some x) h = λ e. absurd (false≢true (sym e ∙ h x refl))

-- ---- 5. Batches that have ended, and what each seat leaves behind them

-- each batch has ended, and of what comes behind each seat ends what it begins
pub ended-after : (es more : List Entry) → ((t s : ℕ) (y : Batch) → batch_of t s es ≡ Some y → y.ended ≡ true) → ((seat : ℕ) → IsBalanced (outline (acts_by seat more))) → (t s : ℕ) (y : Batch) → batch_of t s (es ++ more) ≡ Some y → y.ended ≡ true
unfolding Tells
ended-after es more done each t s y is = ⊎_elim (λ (h : y.ended ≡ true). h)
    (λ (h : y.ended ≡ false).
    let from : batch_from t s (batch_of t s es) more ≡ Some y = sym (batch_from-append t s None es more) ∙ is in
    let on = going_from t s (λ n. false) (batch_of t s es) more y (tells_done (batch_of t s es) (done t s)) from h in
    let off = sym (going-outline t s false (acts_by y.seat more)) ∙ (each y.seat).batches t s in
    absurd (false≢true (sym off ∙ on)))
    (cases_Bool y.ended)

-- ---- 6. A trail in which each seat leaves nothing

module _ (es : List Entry) (each : (seat : ℕ) → IsBalanced (outline (acts_by seat es))) where
  pub batches_ended : (t s : ℕ) (y : Batch) → batch_of t s es ≡ Some y → y.ended ≡ true
  unfolding Tells
  batches_ended t s y is = ⊎_elim (λ (h : y.ended ≡ true). h)
      (λ (h : y.ended ≡ false).
      let on = going_from t s (λ n. false) None es y tt is h in
      let off = sym (going-outline t s false (acts_by y.seat es)) ∙ (each y.seat).batches t s in
      absurd (false≢true (sym off ∙ on)))
      (cases_Bool y.ended)

  pub points_closed : (seat t s : ℕ) → open_points seat t s es ≡ 0
  points_closed seat t s = open_by seat t s 0 es ∙ (sym (open-outline t s 0 (acts_by seat es)) ∙ (each seat).points t s 0)
