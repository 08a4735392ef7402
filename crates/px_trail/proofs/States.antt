-- The states at a point where all is decided stay.
use Rattle.std.proofs.Common.{ℕ, ◌≡◌, ◌≢◌, ◌<◌, ◌≤◌, ◌+◌, max, not, filter, map, ◌==◌, ◌&&◌, nat_le, if◌then◌else◌, Bool, true, false, Option, None, Some, List, [], ◌∷◌, ◌++◌, refl, sym, ◌∙◌, ap, subst, arith, append_assoc, ◌⊎◌, inl, inr}
use Rattle.std.specs.List.{AllByRecursion}
use Rattle.std.proofs.lemmas.Bool.{cases_Bool}
use Rattle.std.proofs.lemmas.Bool.Decides.{Decides-eqb, nat_tests}
use Rattle.std.proofs.lemmas.List.{append-nil}
use Rattle.std.proofs.lemmas.List.Elements.{filter-append}
use Rattle.px_values.specs.declared.row.Value.{Value}
use Rattle.px_values.specs.declared.change.Change.{Change}
use Rattle.px_values.specs.declared.change.What.{What}
use Rattle.px_values.specs.States.{RowState, Shape, apply}
use Rattle.px_trail.specs.declared.entry.Act.{Act}
use Rattle.px_trail.specs.declared.entry.Act.TheVariants.{Begun, Phase, Wrote, Ended}
use Rattle.px_trail.specs.declared.entry.Entry.{Entry}
use Rattle.px_trail.specs.Batches.{Batch, IsDecided, Writing, batch_of, batch_step, begun_batch, change_of, has, phase_of, rows_of, unwritten}
use Rattle.px_trail.specs.Trail.{Base, catalogue_of, last_of, last_step, shape_of}
use Rattle.px_trail.specs.Legal.{Follows, IsLegal, MayCome}
use Rattle.px_trail.specs.States.{Dated, applied, begun, begun_by, dated, is_row_written, is_written_in, state_of, written}
use Rattle.px_trail.proofs.Growth.{batch_of-snoc, begun-append, last-snoc, legal-induct}
use Rattle.px_trail.proofs.Batches.{and_true, in_writing, last_step-le, same_batch}
use Rattle.px_trail.proofs.Standing.{shape-stays}

some_none : (x : Batch) → Some x ≡ None → ⊥
some_none x h = cc

pub below : (s p : ℕ) → nat_le s p ≡ true → s ≤ p
below s p h = grind (arith, nat_tests)

pub above : (s p : ℕ) → p < s → nat_le s p ≡ false
above s p h = grind (arith, nat_tests)

-- 1. Batches up to a stamp

-- no batch with a stamp up to the last is begun any more
pub record IsGone (b : Base) (t s : ℕ) (es : List Entry) : Type 0 where
  pub none : batch_of t s es ≡ None
  pub low : s ≤ last_of b t es

begins_none : (b : Base) (t s seat calls : ℕ) (es : List Entry) (act : Act) → s ≤ last_of b t es → Follows b es seat calls act → batch_step t s None seat act ≡ None
unfolding batch_step Follows
begins_none b t s seat calls es (Begun t' s' cs) low f =
    elim ((t'.0 == t) && (s' == s)) as (λ v. ((t'.0 == t) && (s' == s)) ≡ v → (if v then Some (begun_batch seat cs) else None) ≡ None) [
      | true ↦ λ h.
          let both = same_batch t s t'.0 s' h in
          let hs : s' ≡ s = both.1 in
          let lt : last_of b t es < s' = subst (λ (u : ℕ). last_of b u es < s') both.0 f.0 in
          absurd (omega arith)
      | false ↦ λ h. refl
    ] refl
begins_none b t s seat calls es act low f = refl

gone_step : (b : Base) (t s : ℕ) (es : List Entry) (e : Entry) → MayCome b es e → IsGone b t s es → IsGone b t s (es ++ e ∷ [])
gone_step b t s es e may h = record {
  none = batch_of-snoc t s es e ∙ (ap (λ (o : Option Batch). batch_step t s o e.seat e.act) h.none ∙ begins_none b t s e.seat e.calls es e.act h.low may.follows);
  low = (let a = h.low in let k = last_step-le t (last_of b t es) e.act in let q = last-snoc b t es e in omega arith);
}

pub gone-stays : (b : Base) (t s : ℕ) (pre more : List Entry) → IsLegal b (pre ++ more) → batch_of t s pre ≡ None → s ≤ last_of b t pre → batch_of t s (pre ++ more) ≡ None
gone-stays b t s pre more legal none low =
    let all : IsGone b t s (pre ++ more) = legal-induct b (λ (l : List Entry). IsGone b t s l) (λ l e _ may h. gone_step b t s l e may h) pre more legal (record { none = none; low = low }) in
    all.none

-- the batch has the changes and the written rows of this one
abbrev pub IsAs : Batch → Option Batch → Type 0
IsAs y None = ⊥
IsAs y (Some x) = (x.written ≡ y.written) × (x.changes ≡ y.changes)

as_unwritten : (x y : Batch) → x.written ≡ y.written → x.changes ≡ y.changes → unwritten x ≡ unwritten y
as_unwritten x y w c = ap (λ (l : List (List Value)). filter (λ r. not (has l r)) (rows_of x.changes)) w ∙ ap (λ (l : List Change). filter (λ r. not (has y.written r)) (rows_of l)) c

if_as : (v : Bool) (y x z : Batch) → IsAs y (Some x) → (v ≡ true → IsAs y (Some z)) → IsAs y (if v then Some z else Some x)
if_as true y x z h f = f refl
if_as false y x z h f = h

as_step : (b : Base) (t s seat calls : ℕ) (y : Batch) (o : Option Batch) (es : List Entry) (act : Act) → unwritten y ≡ [] → batch_of t s es ≡ o → Follows b es seat calls act → IsAs y o → IsAs y (batch_step t s o seat act)
unfolding batch_step Follows
as_step b t s seat calls y None es act all is f h = absurd h
as_step b t s seat calls y (Some x) es (Phase t' s' p) all is f h = if_as ((t'.0 == t) && (s' == s)) y x (record x { phase = p }) h (λ v. h)
as_step b t s seat calls y (Some x) es (Wrote t' s' rows) all is f h =
    if_as ((t'.0 == t) && (s' == s)) y x (record x { written = x.written ++ rows }) h (λ v.
    let both = same_batch t s t'.0 s' v in
    let ht : t'.0 ≡ t = both.0 in
    let hs : s' ≡ s = both.1 in
    let e : batch_of t'.0 s' es ≡ batch_of t s es = cc in
    let k : batch_of t'.0 s' es ≡ Some f.batch = f.is in
    let o : f.batch ≡ x = cc in
    absurd ((in_writing f.batch f.phase).2 (ap unwritten o ∙ (as_unwritten x y h.0 h.1 ∙ all))))
as_step b t s seat calls y (Some x) es (Ended t' s') all is f h = if_as ((t'.0 == t) && (s' == s)) y x (record x { ended = true }) h (λ v. h)
as_step b t s seat calls y (Some x) es act all is f h = h

pub as-stays : (b : Base) (t s : ℕ) (y : Batch) (pre more : List Entry) → IsLegal b (pre ++ more) → batch_of t s pre ≡ Some y → unwritten y ≡ [] → IsAs y (batch_of t s (pre ++ more))
as-stays b t s y pre more legal is all =
    legal-induct b (λ (l : List Entry). IsAs y (batch_of t s l))
    (λ l e _ may h. subst (λ (o : Option Batch). IsAs y o) (sym (batch_of-snoc t s l e)) (as_step b t s e.seat e.calls y (batch_of t s l) l e.act all refl may.follows h))
    pre more legal (subst (λ (o : Option Batch). IsAs y o) (sym is) (refl, refl))

as_written : (y : Batch) (o : Option Batch) (r : List Value) → IsAs y o → is_written_in o r ≡ is_written_in (Some y) r
as_written y None r h = absurd h
as_written y (Some x) r h = ap (λ (l : List (List Value)). has l r) h.0

-- 2. Changes up to a point

-- at a decided point it stays told which rows were written
pub written-agrees : (b : Base) (t p : ℕ) (r : List Value) (pre more : List Entry) → IsLegal b (pre ++ more) → IsDecided pre t p → p ≤ last_of b t pre → (s : ℕ) → s ≤ p → is_row_written (pre ++ more) t r s ≡ is_row_written pre t r s
written-agrees b t p r pre more legal decided low s le =
    elim (batch_of t s pre) as (λ o. batch_of t s pre ≡ o → is_written_in (batch_of t s (pre ++ more)) r ≡ is_written_in o r) [
      | None ↦ λ none. ap (λ (o : Option Batch). is_written_in o r) (gone-stays b t s pre more legal none (omega arith))
      | Some y ↦ λ is. as_written y (batch_of t s (pre ++ more)) r (as-stays b t s y pre more legal is (decided.each s y le is))
    ] refl

pub applied-append : (shape : Shape) (r : List Value) (p : ℕ) (v : RowState) (xs ys : List Dated) → applied shape r p v (xs ++ ys) ≡ applied shape r p (applied shape r p v xs) ys
unfolding applied
applied-append shape r p v [] ys = refl
applied-append shape r p v (x ∷ xs) ys = applied-append shape r p (if nat_le x.stamp p then apply shape r v x.what else v) xs ys

skip : (shape : Shape) (r : List Value) (p : ℕ) (v : RowState) (d : Dated) (c : Bool) (xs : List Dated) → nat_le d.stamp p ≡ false → applied shape r p v (if c then d ∷ xs else xs) ≡ applied shape r p v xs
unfolding applied
skip shape r p v d true xs h = ap (λ (low : Bool). applied shape r p (if low then apply shape r v d.what else v) xs) h
skip shape r p v d false xs h = refl

-- changes above the point count for nothing, and it matters of those up to it alone which ones are written
pub applied-agree : (shape : Shape) (r : List Value) (p : ℕ) (q q' : Dated → Bool) (ds : List Dated) (v : RowState) → ((d : Dated) → d.stamp ≤ p → q d ≡ q' d) → applied shape r p v (filter q ds) ≡ applied shape r p v (filter q' ds)
unfolding applied
applied-agree shape r p q q' [] v same = refl
applied-agree shape r p q q' (d ∷ ds) v same =
    elim (cases_Bool (nat_le d.stamp p)) [
      | inl low ↦ (let e : q d ≡ q' d = same d (below d.stamp p low) in
          elim (cases_Bool (q' d)) [
            | inl k ↦ (let k' : q d ≡ true = e ∙ k in rw (k, k') (applied-agree shape r p q q' ds (if nat_le d.stamp p then apply shape r v d.what else v) same))
            | inr k ↦ (let k' : q d ≡ false = e ∙ k in rw (k, k') (applied-agree shape r p q q' ds v same))
          ])
      | inr high ↦ skip shape r p v d (q d) (filter q ds) high ∙ (applied-agree shape r p q q' ds v same ∙ sym (skip shape r p v d (q' d) (filter q' ds) high))
    ]

applied-above : (shape : Shape) (r : List Value) (p n : ℕ) (q : Dated → Bool) (ds : List Dated) (v : RowState) → p ≤ n → AllByRecursion (λ d. n < d.stamp) ds → applied shape r p v (filter q ds) ≡ v
unfolding applied
applied-above shape r p n q [] v low all = refl
applied-above shape r p n q (d ∷ ds) v low all = skip shape r p v d (q d) (filter q ds) (above d.stamp p (let h = all.0 in omega arith)) ∙ applied-above shape r p n q ds v low all.1

-- 3. Later changes

all_append : (P : Dated → Type 0) (xs ys : List Dated) → AllByRecursion P xs → AllByRecursion P ys → AllByRecursion P (xs ++ ys)
all_append P [] ys a c = c
all_append P (x ∷ xs) ys a c = (a.0, all_append P xs ys a.1 c)

dated_all : (P : Dated → Type 0) (s : ℕ) (o : Option What) → ((w : What) → o ≡ Some w → P (record { stamp = s; what = w })) → AllByRecursion P (dated s o)
dated_all P s None f = tt
dated_all P s (Some w) f = (f w refl, tt)

begun_by-above : (b : Base) (t : ℕ) (r : List Value) (es : List Entry) (seat calls : ℕ) (act : Act) → Follows b es seat calls act → AllByRecursion (λ d. last_of b t es < d.stamp) (begun_by t r act)
unfolding begun_by Follows
begun_by-above b t r es seat calls (Begun t' s cs) f =
    elim (t'.0 == t) as (λ v. (t'.0 == t) ≡ v → AllByRecursion (λ d. last_of b t es < d.stamp) (if v then dated s (change_of cs r) else [])) [
      | true ↦ λ h. dated_all (λ d. last_of b t es < d.stamp) s (change_of cs r) (λ w k. subst (λ (u : ℕ). last_of b u es < s) ((Decides-eqb t'.0 t).0 h) f.0)
      | false ↦ λ h. tt
    ] refl
begun_by-above b t r es seat calls act f = tt

above_more : (n m : ℕ) (ds : List Dated) → n ≤ m → AllByRecursion (λ d. m < d.stamp) ds → AllByRecursion (λ d. n < d.stamp) ds
above_more n m [] le all = tt
above_more n m (d ∷ ds) le all = ((let h = all.0 in omega arith), above_more n m ds le all.1)

-- changes that are begun later have stamps above the last
pub begun-above : (b : Base) (t : ℕ) (r : List Value) (pre more : List Entry) → IsLegal b (pre ++ more) → AllByRecursion (λ d. last_of b t pre < d.stamp) (begun t r more)
unfolding begun
begun-above b t r pre [] legal = tt
begun-above b t r pre (e ∷ more) legal =
    let split : pre ++ e ∷ more ≡ (pre ++ e ∷ []) ++ more = sym (append_assoc pre (e ∷ []) more) in
    let may : MayCome b pre e = legal.each pre e more refl in
    let k = last_step-le t (last_of b t pre) e.act in
    let q = last-snoc b t pre e in
    all_append (λ d. last_of b t pre < d.stamp) (begun_by t r e.act) (begun t r more) (begun_by-above b t r pre e.seat e.calls e.act may.follows)
    (above_more (last_of b t pre) (last_of b t (pre ++ e ∷ [])) (begun t r more) (omega arith) (begun-above b t r (pre ++ e ∷ []) more (subst (λ (l : List Entry). IsLegal b l) split legal)))

-- 4. States

-- the states at a decided point stay, of a table whose number was drawn
pub state-stays : (b : Base) (t : ℕ) (r : List Value) (p : ℕ) (pre more : List Entry) → IsLegal b (pre ++ more) → IsDecided pre t p → p ≤ last_of b t pre → t < (catalogue_of b pre).next → state_of b (pre ++ more) t r p ≡ state_of b pre t r p
state-stays b t r p pre more legal decided low drawn =
    let q : Dated → Bool = λ d. is_row_written pre t r d.stamp in
    let q' : Dated → Bool = λ d. is_row_written (pre ++ more) t r d.stamp in
    let v = b.state t r p in
    let shape = shape_of b pre t in
    ap (λ (x : Shape). applied x r p v (written (pre ++ more) t r)) (shape-stays b t pre more legal drawn)
    ∙ (ap (λ (l : List Dated). applied shape r p v (filter q' l)) (begun-append t r pre more)
    ∙ (ap (λ (l : List Dated). applied shape r p v l) (filter-append q' (begun t r pre) (begun t r more))
    ∙ (applied-append shape r p v (filter q' (begun t r pre)) (filter q' (begun t r more))
    ∙ (applied-above shape r p (last_of b t pre) q' (begun t r more) (applied shape r p v (filter q' (begun t r pre))) low (begun-above b t r pre more legal)
    ∙ applied-agree shape r p q' q (begun t r pre) v (λ d le. written-agrees b t p r pre more legal decided low d.stamp le)))))

-- and the point stays decided
pub decided-stays : (b : Base) (t p : ℕ) (pre more : List Entry) → IsLegal b (pre ++ more) → IsDecided pre t p → p ≤ last_of b t pre → IsDecided (pre ++ more) t p
decided-stays b t p pre more legal decided low = record {
  each = λ s x le is.
      elim (batch_of t s pre) as (λ o. batch_of t s pre ≡ o → unwritten x ≡ []) [
        | None ↦ λ none. (let n = gone-stays b t s pre more legal none (omega arith) in absurd (some_none x (sym is ∙ n)))
        | Some y ↦ λ at. (
            let all = decided.each s y le at in
            let same : IsAs y (Some x) = subst (λ (o : Option Batch). IsAs y o) is (as-stays b t s y pre more legal at all) in
            as_unwritten x y same.0 same.1 ∙ all)
      ] refl;
}
