-- What a legal trail tells of a table's rows.
use Rattle.std.proofs.Common.{◌≡◌, ℕ, ◌<◌, ◌≤◌, Bool, true, false, not, ◌&&◌, ◌==◌, if◌then◌else◌, Option, Some, None, List, [], ◌∷◌, ◌++◌, refl, ap, sym, subst, inl, inr, arith}
use Rattle.std.proofs.lemmas.Bool.{cases_Bool, cases_eq, eqb-true, and_parts, false≢true}
use Rattle.px_values.specs.declared.row.Value.{Value}
use Rattle.px_values.specs.declared.change.What.{What}
use Rattle.px_values.specs.declared.name.TableId.{TableId}
use Rattle.px_values.specs.States.{Shape}
use Rattle.px_trail.specs.declared.entry.Act.{Act}
use Rattle.px_trail.specs.declared.entry.Act.TheVariants.{Begun, Wrote, Ended, Phase, Raised}
use Rattle.px_trail.specs.declared.entry.Entry.{Entry}
use Rattle.px_trail.specs.Batches.{Batch, IsSoundBatch, IsSoundOption, batch_of, batch_from, batch_step, begun_batch, change_of, has, rows_of, unwritten}
use Rattle.px_trail.specs.Trail.{Base, IsBase, horizon_of, horizon_from, horizon_step, last_of, last_from, last_step}
use Rattle.px_trail.specs.Legal.{Follows, IsEndable, IsLegal, IsPhased}
use Rattle.px_trail.proofs.Growth.{batch_of-snoc, horizon-snoc, last-snoc, legal-induct}
use Rattle.px_trail.proofs.Batches.{batch-sound, in_closing, in_marking, in_verifying, last_step-le}
use Rattle.px_history.specs.Rows.{base_history, history_from, Tied}
use Rattle.px_history.proofs.Changes.{from-snoc}
use Rattle.px_trail.proofs.Orders.{filter-has, has-change}
use Rattle.px_history.proofs.Histories.{batch-above, tied_by}
use Rattle.px_history.proofs.Ties.{CanEnd, tied_base}
use Rattle.px_indexed.specs.Worlds.{history_at}
use Rattle.px_indexed.specs.Kept.{RowsKept}

pub same_some : {A : Type 0} {x y : A} → Some x ≡ Some y → x ≡ y
same_some q = cc

-- 1. Histories

pub tied_at : (sh : Shape) (b : Base) (tid : TableId) (r : List Value) → IsBase b tid.0 r → (es : List Entry) → IsLegal b es → Tied sh b es tid.0 r (history_at sh b es tid.0 r)
unfolding history_from
tied_at sh b tid r sound es legal =
    legal-induct b (λ l. Tied sh b l tid.0 r (history_from sh tid.0 r (base_history b tid.0 r) l))
    (λ l e pre may h. subst (Tied sh b (l ++ e ∷ []) tid.0 r) (sym (from-snoc sh b l e tid.0 r)) (tied_by sh b tid r sound l pre (history_from sh tid.0 r (base_history b tid.0 r) l) h e e.act refl may.follows))
    [] es legal (tied_base sh b tid r sound)

-- 2. The horizon is at most the last stamp, and what is begun at or below it has ended

abbrev IsEndedTo : ℕ → ℕ → Option Batch → Type 0
IsEndedTo h s None = Unit {0}
IsEndedTo h s (Some y) = s ≤ h → y.ended ≡ true

if_ended : (v : Bool) (h s : ℕ) (x y : Batch) → (s ≤ h → x.ended ≡ true) → (s ≤ h → y.ended ≡ true) → IsEndedTo h s (if v then Some x else Some y)
if_ended true h s x y p q = p
if_ended false h s x y p q = q

fresh_ended : (v : Bool) (h s : ℕ) (x : Batch) → (v ≡ true → h < s) → IsEndedTo h s (if v then Some x else None)
fresh_ended true h s x l = λ m. absurd (let n = l refl in omega arith)
fresh_ended false h s x l = tt

if_raised : (v : Bool) (h' h s : ℕ) (o : Option Batch) → (v ≡ true → IsEndedTo h' s o) → IsEndedTo h s o → IsEndedTo (if v then h' else h) s o
if_raised true h' h s o p q = p refl
if_raised false h' h s o p q = q

raised_all : (b : Base) (l : List Entry) (t s h : ℕ) (o : Option Batch) → batch_of t s l ≡ o → ((x : Batch) → batch_of t s l ≡ Some x → x.ended ≡ false → h < s) → IsEndedTo h s o
raised_all b l t s h None q f = tt
raised_all b l t s h (Some y) q f = λ m. elim (cases_Bool y.ended) [ inl e ↦ e | inr e ↦ absurd (let n = f y q e in omega arith) ]

ended_step : (b : Base) (l : List Entry) (t s seat calls : ℕ) (act : Act) → Follows b l seat calls act → horizon_of b t l ≤ last_of b t l → (o : Option Batch) → batch_of t s l ≡ o → IsEndedTo (horizon_of b t l) s o → IsEndedTo (horizon_step t (horizon_of b t l) act) s (batch_step t s o seat act)
unfolding Follows batch_step
ended_step b l t s seat calls (Begun t' s' cs) f low None q h =
    fresh_ended ((t'.0 == t) && (s' == s)) (horizon_of b t l) s (begun_batch seat cs) (λ v.
    (let p = and_parts (t'.0 == t) (s' == s) v in
    let a : t'.0 ≡ t = eqb-true t'.0 t p.0 in
    let c : s' ≡ s = eqb-true s' s p.1 in
    let n : last_of b t l < s' = subst (λ (u : ℕ). last_of b u l < s') a f.0 in
    omega arith))
ended_step b l t s seat calls (Begun t' s' cs) f low (Some x) q h = h
ended_step b l t s seat calls (Phase t' s' p) f low None q h = tt
ended_step b l t s seat calls (Phase t' s' p) f low (Some x) q h = if_ended ((t'.0 == t) && (s' == s)) (horizon_of b t l) s (record x { phase = p }) x h h
ended_step b l t s seat calls (Wrote t' s' rows) f low None q h = tt
ended_step b l t s seat calls (Wrote t' s' rows) f low (Some x) q h = if_ended ((t'.0 == t) && (s' == s)) (horizon_of b t l) s (record x { written = x.written ++ rows }) x h h
ended_step b l t s seat calls (Ended t' s') f low None q h = tt
ended_step b l t s seat calls (Ended t' s') f low (Some x) q h = if_ended ((t'.0 == t) && (s' == s)) (horizon_of b t l) s (record x { ended = true }) x (λ m. refl) h
ended_step b l t s seat calls (Raised t' n) f low None q h = if_raised (t'.0 == t) n (horizon_of b t l) s None (λ v. tt) tt
ended_step b l t s seat calls (Raised t' n) f low (Some x) q h = if_raised (t'.0 == t) n (horizon_of b t l) s (Some x) (λ v. subst (λ (u : ℕ). IsEndedTo n s (Some x)) (eqb-true t'.0 t v) (raised_all b l t s n (Some x) q (subst (λ (u : ℕ). (y : Batch) → batch_of u s l ≡ Some y → y.ended ≡ false → n < s) (eqb-true t'.0 t v) (f.batches s)))) h
ended_step b l t s seat calls act f low None q h = tt
ended_step b l t s seat calls act f low (Some x) q h = h

low_step : (b : Base) (l : List Entry) (t seat calls : ℕ) (act : Act) → Follows b l seat calls act → horizon_of b t l ≤ last_of b t l → horizon_step t (horizon_of b t l) act ≤ last_step t (last_of b t l) act
unfolding Follows
low_step b l t seat calls (Raised t' n) f low = elim (cases_eq t'.0 t) [
  | inl e ↦ if_up (t'.0 == t) (subst (λ (u : ℕ). n ≤ last_of b u l) e f.last)
  | inr e ↦ other (t'.0 == t) (λ v. e (eqb-true t'.0 t v))
]
  where
    if_up : (v : Bool) → n ≤ last_of b t l → (if v then n else horizon_of b t l) ≤ last_of b t l
    if_up true k = k
    if_up false k = low

    other : (v : Bool) → (v ≡ true → ⊥) → (if v then n else horizon_of b t l) ≤ last_of b t l
    other true k = absurd (k refl)
    other false k = low
low_step b l t seat calls act f low = let m = last_step-le t (last_of b t l) act in omega arith

-- both at once
pub record IsUnder (b : Base) (es : List Entry) (t : ℕ) : Type 0 where
  pub low : horizon_of b t es ≤ last_of b t es
  pub ended : (s : ℕ) → IsEndedTo (horizon_of b t es) s (batch_of t s es)

pub under : (b : Base) (t : ℕ) → b.horizon t ≤ b.last t → (es : List Entry) → IsLegal b es → IsUnder b es t
unfolding batch_from horizon_from last_from
under b t start es legal =
    legal-induct b (λ l. IsUnder b l t)
    (λ l e _ may h. record {
      low = (let p = horizon-snoc b t l e in let q = last-snoc b t l e in let k = low_step b l t e.seat e.calls e.act may.follows h.low in omega arith);
      ended = λ s. subst (λ (n : ℕ). IsEndedTo n s (batch_of t s (l ++ e ∷ []))) (sym (horizon-snoc b t l e)) (subst (IsEndedTo (horizon_step t (horizon_of b t l) e.act) s) (sym (batch_of-snoc t s l e)) (ended_step b l t s e.seat e.calls e.act may.follows h.low (batch_of t s l) refl (h.ended s)));
    })
    [] es legal (record { low = start; ended = λ s. tt })

-- 3. All of it

abbrev IsAfter : ℕ → ℕ → Option Batch → Type 0
IsAfter n s None = Unit {0}
IsAfter n s (Some x) = n < s

pub batch_sound : (b : Base) (es : List Entry) (t s : ℕ) (y : Batch) → IsLegal b es → batch_of t s es ≡ Some y → IsSoundBatch y
batch_sound b es t s y legal q = subst IsSoundOption q (batch-sound b t s es legal)

pub rows_kept : (sh : Shape) (b : Base) (tid : TableId) → ((r : List Value) → IsBase b tid.0 r) → b.horizon tid.0 ≤ b.last tid.0 → (es : List Entry) → IsLegal b es → RowsKept sh b es tid.0 (horizon_of b tid.0 es)
unfolding has
rows_kept sh b tid base start es legal =
    let u = under b tid.0 start es legal in
    record {
      base = base;
      tied = λ r. tied_at sh b tid r (base r) es legal;
      low = u.low;
      later = λ s y q. subst (IsAfter (b.last tid.0) s) q (batch-above b tid.0 s es legal);
      ended = λ s y q. subst (IsEndedTo (horizon_of b tid.0 es) s) q (u.ended s);
      done = λ s y q. (batch_sound b es tid.0 s y legal q).ended;
      quiet = λ s y q z r. ap (λ (l : List (List Value)). has l r) ((batch_sound b es tid.0 s y legal q).unmarked z);
    }

-- 4. What the phases tell of a batch

-- a batch that may end: all its rows are written, and it has marked its indexes
pub record IsEnding (es : List Entry) (seat t s : ℕ) : Type 0 where
  pub batch : Batch
  pub is : batch_of t s es ≡ Some batch
  pub mine : batch.seat ≡ seat
  pub all : unwritten batch ≡ []
  pub running : batch.ended ≡ false
  pub marked : batch.phase ≡ 0 → ⊥

pub ending : (b : Base) (es : List Entry) (seat t s : ℕ) → IsLegal b es → IsEndable es seat t s → IsEnding es seat t s
ending b es seat t s legal (inl i) =
    let p = in_closing i.batch i.phase in
    record { batch = i.batch; is = i.is; mine = i.mine; all = (batch_sound b es t s i.batch legal i.is).verified p.1; running = p.0; marked = λ z. (let q = p.1 in omega arith) }
ending b es seat t s legal (inr i) =
    let p = in_verifying i.1.batch i.1.phase in
    record { batch = i.1.batch; is = i.1.is; mine = i.1.mine; all = p.2; running = p.0; marked = λ z. (let q = p.1 in omega arith) }

abbrev pub can_end : (es : List Entry) (seat t s : ℕ) → IsEnding es seat t s → CanEnd es t s
can_end es seat t s f = record { batch = f.batch; is = f.is; all = f.all }

-- a batch one of whose phases is done
pub record IsPhase (es : List Entry) (t s phase : ℕ) : Type 0 where
  pub batch : Batch
  pub is : batch_of t s es ≡ Some batch
  pub running : batch.ended ≡ false
  pub some : phase ≡ 0 → ⊥

pub phasing : (es : List Entry) (seat t s phase : ℕ) → IsPhased es seat t s phase → IsPhase es t s phase
phasing es seat t s phase (inl i) = record { batch = i.1.batch; is = i.1.is; running = (in_marking i.1.batch i.1.phase).0; some = λ z. (let q = i.0 in omega arith) }
phasing es seat t s phase (inr i) = record { batch = i.1.batch; is = i.1.is; running = (in_verifying i.1.batch i.1.phase).0; some = λ z. (let q = i.0 in omega arith) }

-- a row of a batch that is all written is written
pub is_whole_of : (y : Batch) (r : List Value) (w : What) → change_of y.changes r ≡ Some w → unwritten y ≡ [] → has y.written r ≡ true
unfolding has
is_whole_of y r w c all = elim (cases_Bool (has y.written r)) [
  | inl k ↦ k
  | inr k ↦
      (let l : has (unwritten y) r ≡ true = filter-has (λ z. not (has y.written z)) (rows_of y.changes) r (has-change y.changes r w c) (ap not k) in
      let n : has [] r ≡ true = subst (λ (l : List (List Value)). has l r ≡ true) all l in
      absurd (false≢true n))
]
