-- The last stamp, the phases of a batch, and what others' entries leave of it.
use Rattle.std.proofs.Common.{ℕ, zero, suc, ◌≡◌, ◌≢◌, ◌<◌, ◌≤◌, ◌+◌, max, not, filter, map, ◌==◌, ◌&&◌, if◌then◌else◌, Bool, true, false, Option, None, Some, List, [], ◌∷◌, ◌++◌, refl, sym, ◌∙◌, ap, subst, arith, append_assoc, ◌⊎◌, inl, inr}
use Rattle.std.proofs.lemmas.Bool.Decides.{Decides-eqb, nat_tests}
use Rattle.std.proofs.lemmas.List.{append-nil}
use Rattle.px_values.specs.declared.row.Value.{Value}
use Rattle.px_values.specs.declared.change.Change.{Change}
use Rattle.px_values.specs.declared.name.TableId.{TableId}
use Rattle.px_tables.specs.declared.index.IndexState.{IndexState as BuildState}
use Rattle.px_trail.specs.declared.entry.Act.{Act}
use Rattle.px_trail.specs.declared.entry.Act.TheVariants.{IndexMade, IndexState, Begun, Phase, Wrote, Ended}
use Rattle.px_trail.specs.declared.entry.Entry.{Entry}
use Rattle.px_trail.specs.Batches.{Batch, BatchPhase, Marking, Writing, Verifying, Closing, Over, IsBatchIn, IsSoundBatch, IsSoundOption, batch_step, batch_from, batch_of, begun_batch, has, phase_after, phase_of, rows_of, unwritten}
use Rattle.px_trail.specs.Trail.{Base, acts_by, draws, last_from, last_of, last_step}
use Rattle.px_trail.specs.Legal.{Follows, IsLegal, MayCome, IsEndable, IsPhased, IsWritable}
use Rattle.px_trail.proofs.Growth.{acts_by-none, batch_of-snoc, last-snoc, legal-induct}

pub and_true : (a b : Bool) → (a && b) ≡ true → (a ≡ true) × (b ≡ true)
and_true true b h = (refl, h)
and_true false b h = cc

pub same_test : (t s : ℕ) → ((t == t) && (s == s)) ≡ true
same_test t s = grind (arith, nat_tests)

-- the test of a batch's table and stamp holds
pub same_batch : (t s t' s' : ℕ) → ((t' == t) && (s' == s)) ≡ true → (t' ≡ t) × (s' ≡ s)
same_batch t s t' s' h = let both = and_true (t' == t) (s' == s) h in ((Decides-eqb t' t).0 both.0, (Decides-eqb s' s).0 both.1)

-- 1. The last stamp

if_least : (v : Bool) (l s : ℕ) → l ≤ (if v then max l s else l)
if_least true l s = omega arith
if_least false l s = omega arith

pub last_step-le : (t l : ℕ) (act : Act) → l ≤ last_step t l act
last_step-le t l (Begun t' s cs) = if_least (t'.0 == t) l s
last_step-le t l (IndexMade t' i s what) = if_least (t'.0 == t) l s
last_step-le t l (IndexState t' i state s) = if_least ((t'.0 == t) && draws state) l s
last_step-le t l act = omega arith

pub last_from-le : (t l : ℕ) (es : List Entry) → l ≤ last_from t l es
unfolding last_from
last_from-le t l [] = omega arith
last_from-le t l (e ∷ es) =
    let h = last_from-le t (last_step t l e.act) es in
    let k = last_step-le t l e.act in
    omega arith

-- either the act begins no such batch, or the last stamp is then at least its own
begins : (t s l seat : ℕ) (act : Act) → (batch_step t s None seat act ≡ None) ⊎ (s ≤ last_step t l act)
unfolding batch_step
begins t s l seat (Begun t' s' cs) =
    elim ((t'.0 == t) && (s' == s)) as (λ v. ((t'.0 == t) && (s' == s)) ≡ v → ((if v then Some (begun_batch seat cs) else None) ≡ None) ⊎ (s ≤ last_step t l (Begun t' s' cs))) [
      | true ↦ λ h. inr (let both = and_true (t'.0 == t) (s' == s) h in let hs : s' ≡ s = (Decides-eqb s' s).0 both.1 in let ht : (t'.0 == t) ≡ true = both.0 in rw ht (omega arith))
      | false ↦ λ h. inl refl
    ] refl
begins t s l seat act = inl refl

none_some : (x : Batch) → None ≡ Some x → ⊥
none_some x h = cc

pub batch-last : (t s l : ℕ) (es : List Entry) (x : Batch) → batch_from t s None es ≡ Some x → s ≤ last_from t l es
unfolding batch_from last_from
batch-last t s l [] x h = absurd (none_some x h)
batch-last t s l (e ∷ es) x h =
    elim (begins t s l e.seat e.act) [
      | inl n ↦ batch-last t s (last_step t l e.act) es x (subst (λ (o : Option Batch). batch_from t s o es ≡ Some x) n h)
      | inr n ↦ (let k = last_from-le t (last_step t l e.act) es in omega arith)
    ]

-- a stamp above the last has no batch
pub batch-none : (b : Base) (t s : ℕ) (es : List Entry) → last_of b t es < s → batch_of t s es ≡ None
batch-none b t s es h =
    elim (batch_of t s es) as (λ o. batch_of t s es ≡ o → o ≡ None) [
      | None ↦ λ k. refl
      | Some x ↦ λ k. absurd (let l = batch-last t s (b.last t) es x k in omega arith)
    ] refl

-- 2. Entries of other seats

-- an act of the other seat is of another batch
pub foreign : (es : List Entry) (t s t' s' : ℕ) (x y : Batch) → batch_of t s es ≡ Some x → batch_of t' s' es ≡ Some y → x.seat ≢ y.seat → ((t' == t) && (s' == s)) ≡ false
foreign es t s t' s' x y hx hy apart =
    elim ((t' == t) && (s' == s)) as (λ v. ((t' == t) && (s' == s)) ≡ v → v ≡ false) [
      | true ↦ λ h.
          let both = same_batch t s t' s' h in
          let ht : t' ≡ t = both.0 in
          let hs : s' ≡ s = both.1 in
          let e : batch_of t' s' es ≡ batch_of t s es = cc in
          let o : x ≡ y = cc in
          absurd (apart (ap (λ (b : Batch). b.seat) o))
      | false ↦ λ h. refl
    ] refl

if_no : {A : Type 0} (v : Bool) (a c : A) → v ≡ false → (if v then a else c) ≡ c
if_no true a c h = cc
if_no false a c h = refl

-- an act of a batch in a phase leaves the batches of other seats
beside : (es : List Entry) (t s seat t' s' : ℕ) (p : BatchPhase) (x y : Batch) → batch_of t s es ≡ Some x → x.seat ≢ seat → IsBatchIn es seat t' s' p → (if (t' == t) && (s' == s) then Some y else Some x) ≡ Some x
beside es t s seat t' s' p x y hx apart i = if_no _ _ _ (foreign es t s t' s' x i.batch hx i.is (λ h. apart (h ∙ i.mine)))

-- an act of another seat leaves the batch
pub batch_step-foreign : (b : Base) (es : List Entry) (t s seat calls : ℕ) (act : Act) (x : Batch) → batch_of t s es ≡ Some x → x.seat ≢ seat → Follows b es seat calls act → batch_step t s (Some x) seat act ≡ Some x
unfolding batch_step Follows
batch_step-foreign b es t s seat calls (Phase t' s' p) x hx apart (inl f) = beside es t s seat t'.0 s' Marking x _ hx apart f.1
batch_step-foreign b es t s seat calls (Phase t' s' p) x hx apart (inr f) = beside es t s seat t'.0 s' Verifying x _ hx apart f.1
batch_step-foreign b es t s seat calls (Wrote t' s' rows) x hx apart f = beside es t s seat t'.0 s' Writing x _ hx apart (record { batch = f.batch; is = f.is; mine = f.mine; phase = f.phase })
batch_step-foreign b es t s seat calls (Ended t' s') x hx apart (inl f) = beside es t s seat t'.0 s' Closing x _ hx apart f
batch_step-foreign b es t s seat calls (Ended t' s') x hx apart (inr f) = beside es t s seat t'.0 s' Verifying x _ hx apart f.1
batch_step-foreign b es t s seat calls act x hx apart f = refl

-- entries of other seats leave the batch
pub batch-kept : (b : Base) (es others : List Entry) (t s seat : ℕ) (x : Batch) → IsLegal b (es ++ others) → acts_by seat others ≡ [] → batch_of t s es ≡ Some x → x.seat ≡ seat → batch_of t s (es ++ others) ≡ Some x
batch-kept b es [] t s seat x legal apart hx mine = rw append-nil hx
batch-kept b es (e ∷ others) t s seat x legal apart hx mine =
    let split : es ++ e ∷ others ≡ (es ++ e ∷ []) ++ others = sym (append_assoc es (e ∷ []) others) in
    let none = acts_by-none seat e others apart in
    let may : MayCome b es e = legal.each es e others refl in
    let step : batch_of t s (es ++ e ∷ []) ≡ Some x =
    batch_of-snoc t s es e ∙ (ap (λ (o : Option Batch). batch_step t s o e.seat e.act) hx ∙ batch_step-foreign b es t s e.seat e.calls e.act x hx (λ h. none.0 (sym h ∙ mine)) may.follows) in
    subst (λ (l : List Entry). batch_of t s l ≡ Some x) (sym split)
    (batch-kept b (es ++ e ∷ []) others t s seat x (subst (λ (l : List Entry). IsLegal b l) split legal) none.1 step mine)

-- so what is true of a seat's batch stays true
pub in-kept : (b : Base) (es others : List Entry) (seat t s : ℕ) (p : BatchPhase) → IsLegal b (es ++ others) → acts_by seat others ≡ [] → IsBatchIn es seat t s p → IsBatchIn (es ++ others) seat t s p
in-kept b es others seat t s p legal apart i = record { batch = i.batch; is = batch-kept b es others t s seat i.batch legal apart i.is i.mine; mine = i.mine; phase = i.phase }

-- 3. The phases

marking_is : (e : Bool) (p : ℕ) (l : List (List Value)) → (if e then Over else phase_after p l) ≡ Marking → (e ≡ false) × (p ≡ 0)
marking_is true p l h = cc
marking_is false zero l h = (refl, refl)
marking_is false (suc zero) (r ∷ l) h = cc
marking_is false (suc zero) [] h = cc
marking_is false (suc (suc p)) l h = cc

writing_is : (e : Bool) (p : ℕ) (l : List (List Value)) → (if e then Over else phase_after p l) ≡ Writing → (e ≡ false) × (p ≡ 1) × (l ≢ [])
writing_is true p l h = cc
writing_is false zero l h = cc
writing_is false (suc zero) (r ∷ l) h = (refl, refl, λ n. cc)
writing_is false (suc zero) [] h = cc
writing_is false (suc (suc p)) l h = cc

verifying_is : (e : Bool) (p : ℕ) (l : List (List Value)) → (if e then Over else phase_after p l) ≡ Verifying → (e ≡ false) × (p ≡ 1) × (l ≡ [])
verifying_is true p l h = cc
verifying_is false zero l h = cc
verifying_is false (suc zero) (r ∷ l) h = cc
verifying_is false (suc zero) [] h = (refl, refl, refl)
verifying_is false (suc (suc p)) l h = cc

closing_is : (e : Bool) (p : ℕ) (l : List (List Value)) → (if e then Over else phase_after p l) ≡ Closing → (e ≡ false) × (2 ≤ p)
closing_is true p l h = cc
closing_is false zero l h = cc
closing_is false (suc zero) (r ∷ l) h = cc
closing_is false (suc zero) [] h = cc
closing_is false (suc (suc p)) l h = (refl, omega arith)

pub after-writing : (l : List (List Value)) → l ≢ [] → phase_after 1 l ≡ Writing
after-writing [] h = absurd (h refl)
after-writing (r ∷ l) h = refl

pub after-verifying : (l : List (List Value)) → l ≡ [] → phase_after 1 l ≡ Verifying
after-verifying [] h = refl
after-verifying (r ∷ l) h = cc

pub in_marking : (x : Batch) → phase_of x ≡ Marking → (x.ended ≡ false) × (x.phase ≡ 0)
in_marking x h = marking_is x.ended x.phase (unwritten x) h

pub in_writing : (x : Batch) → phase_of x ≡ Writing → (x.ended ≡ false) × (x.phase ≡ 1) × (unwritten x ≢ [])
in_writing x h = writing_is x.ended x.phase (unwritten x) h

pub in_verifying : (x : Batch) → phase_of x ≡ Verifying → (x.ended ≡ false) × (x.phase ≡ 1) × (unwritten x ≡ [])
in_verifying x h = verifying_is x.ended x.phase (unwritten x) h

pub in_closing : (x : Batch) → phase_of x ≡ Closing → (x.ended ≡ false) × (2 ≤ x.phase)
in_closing x h = closing_is x.ended x.phase (unwritten x) h

-- the batch of an act in a phase, where the act is of this batch
at_batch : (es : List Entry) (t s seat t' s' : ℕ) (p : BatchPhase) (x : Batch) → batch_of t s es ≡ Some x → IsBatchIn es seat t' s' p → ((t' == t) && (s' == s)) ≡ true → phase_of x ≡ p
at_batch es t s seat t' s' p x hx i v =
    let both = same_batch t s t' s' v in
    let ht : t' ≡ t = both.0 in
    let hs : s' ≡ s = both.1 in
    let e : batch_of t' s' es ≡ batch_of t s es = cc in
    let k : batch_of t' s' es ≡ Some i.batch = i.is in
    let o : i.batch ≡ x = cc in
    ap phase_of (sym o) ∙ i.phase

marked_sound : (x : Batch) → IsSoundBatch x → (p : ℕ) → p ≡ 1 → IsSoundBatch (record x { phase = p })
marked_sound x h p one = record { some = h.some; unmarked = λ n. absurd (omega arith); verified = λ n. absurd (omega arith); ended = h.ended }

verified_sound : (x : Batch) → IsSoundBatch x → phase_of x ≡ Verifying → (p : ℕ) → p ≡ 3 → IsSoundBatch (record x { phase = p })
verified_sound x h v p three = record { some = h.some; unmarked = λ n. absurd (omega arith); verified = λ n. (in_verifying x v).2; ended = h.ended }

wrote_sound : (x : Batch) (rows : List (List Value)) → IsSoundBatch x → phase_of x ≡ Writing → IsSoundBatch (record x { written = x.written ++ rows })
wrote_sound x rows h w =
    let f = in_writing x w in
    let one : x.phase ≡ 1 = f.1 in
    let off : x.ended ≡ false = f.0 in
    record { some = h.some; unmarked = λ n. absurd (omega arith); verified = λ n. absurd (omega arith); ended = λ n. cc }

ended_sound : (x : Batch) → IsSoundBatch x → unwritten x ≡ [] → IsSoundBatch (record x { ended = true })
ended_sound x h all = record { some = h.some; unmarked = h.unmarked; verified = h.verified; ended = λ n. all }

all_left : (cs : List Change) → cs ≢ [] → filter (λ r. not (has [] r)) (rows_of cs) ≢ []
unfolding has
all_left [] h = absurd (h refl)
all_left (c ∷ cs) h = λ n. cc

if_sound : (v : Bool) (x y : Batch) → IsSoundBatch x → (v ≡ true → IsSoundBatch y) → IsSoundOption (if v then Some y else Some x)
if_sound true x y h f = f refl
if_sound false x y h f = h

sound_step : (b : Base) (t s : ℕ) (o : Option Batch) (es : List Entry) (seat calls : ℕ) (act : Act) → batch_of t s es ≡ o → Follows b es seat calls act → IsSoundOption o → IsSoundOption (batch_step t s o seat act)
unfolding batch_step Follows
sound_step b t s None es seat calls (Begun t' s' cs) is f h =
    elim ((t'.0 == t) && (s' == s)) as (λ v. IsSoundOption (if v then Some (begun_batch seat cs) else None)) [ true ↦ record { some = f.2; unmarked = λ _. refl; verified = λ n. absurd (omega arith); ended = λ n. cc } | false ↦ tt ]
sound_step b t s (Some x) es seat calls (Phase t' s' p) is (inl f) h = if_sound ((t'.0 == t) && (s' == s)) x (record x { phase = p }) h (λ v. marked_sound x h p f.0)
sound_step b t s (Some x) es seat calls (Phase t' s' p) is (inr f) h = if_sound ((t'.0 == t) && (s' == s)) x (record x { phase = p }) h (λ v. verified_sound x h (at_batch es t s seat t'.0 s' Verifying x is f.1 v) p f.0)
sound_step b t s (Some x) es seat calls (Wrote t' s' rows) is f h =
    if_sound ((t'.0 == t) && (s' == s)) x (record x { written = x.written ++ rows }) h
    (λ v. wrote_sound x rows h (at_batch es t s seat t'.0 s' Writing x is (record { batch = f.batch; is = f.is; mine = f.mine; phase = f.phase }) v))
sound_step b t s (Some x) es seat calls (Ended t' s') is (inl f) h =
    if_sound ((t'.0 == t) && (s' == s)) x (record x { ended = true }) h (λ v. ended_sound x h (h.verified (in_closing x (at_batch es t s seat t'.0 s' Closing x is f v)).1))
sound_step b t s (Some x) es seat calls (Ended t' s') is (inr f) h =
    if_sound ((t'.0 == t) && (s' == s)) x (record x { ended = true }) h (λ v. ended_sound x h (in_verifying x (at_batch es t s seat t'.0 s' Verifying x is f.1 v)).2)
sound_step b t s None es seat calls act is f h = tt
sound_step b t s (Some x) es seat calls act is f h = h

pub batch-sound : (b : Base) (t s : ℕ) (es : List Entry) → IsLegal b es → IsSoundOption (batch_of t s es)
unfolding batch_from
batch-sound b t s es legal =
    legal-induct b (λ l. IsSoundOption (batch_of t s l))
    (λ l e _ may h. subst (λ (o : Option Batch). IsSoundOption o) (sym (batch_of-snoc t s l e)) (sound_step b t s (batch_of t s l) l e.seat e.calls e.act refl may.follows h))
    [] es legal tt

-- 4. How a batch goes on

pub begun-in : (b : Base) (es : List Entry) (seat calls : ℕ) (t : TableId) (s : ℕ) (cs : List Change) → last_of b t.0 es < s → IsBatchIn (es ++ record { seat = seat; calls = calls; act = Begun t s cs } ∷ []) seat t.0 s Marking
unfolding batch_step
begun-in b es seat calls t s cs h =
    record {
      batch = begun_batch seat cs;
      is =
          batch_of-snoc t.0 s es (record { seat = seat; calls = calls; act = Begun t s cs })
          ∙ (ap (λ (o : Option Batch). batch_step t.0 s o seat (Begun t s cs)) (batch-none b t.0 s es h) ∙ ap (λ (v : Bool). if v then Some (begun_batch seat cs) else None) (same_test t.0 s));
      mine = refl;
      phase = refl;
    }

pub marked-in : (b : Base) (es : List Entry) (seat calls : ℕ) (t : TableId) (s : ℕ) → IsLegal b es → IsBatchIn es seat t.0 s Marking → IsBatchIn (es ++ record { seat = seat; calls = calls; act = Phase t s 1 } ∷ []) seat t.0 s Writing
unfolding batch_step
marked-in b es seat calls t s legal i =
    let x = i.batch in
    let facts = in_marking x i.phase in
    let sound : IsSoundBatch x = subst (λ (o : Option Batch). IsSoundOption o) i.is (batch-sound b t.0 s es legal) in
    let none : x.written ≡ [] = sound.unmarked facts.1 in
    let left : unwritten x ≢ [] = subst (λ (w : List (List Value)). filter (λ r. not (has w r)) (rows_of x.changes) ≢ []) (sym none) (all_left x.changes sound.some) in
    record {
      batch = record x { phase = 1 };
      is =
          batch_of-snoc t.0 s es (record { seat = seat; calls = calls; act = Phase t s 1 })
          ∙ (ap (λ (o : Option Batch). batch_step t.0 s o seat (Phase t s 1)) i.is ∙ ap (λ (v : Bool). if v then Some (record x { phase = 1 }) else Some x) (same_test t.0 s));
      mine = i.mine;
      phase = ap (λ (v : Bool). if v then Over else phase_after 1 (unwritten x)) facts.0 ∙ after-writing (unwritten x) left;
    }

-- rows are written: some are left, or none
module _ (es : List Entry) (seat calls : ℕ) (t : TableId) (s : ℕ) (rows : List (List Value)) (f : IsWritable es seat t.0 s rows) where
  abbrev pub wrote_batch : Batch
  wrote_batch = record f.batch { written = f.batch.written ++ rows }

  abbrev wrote_entry : Entry
  wrote_entry = record { seat = seat; calls = calls; act = Wrote t s rows }

  wrote-is : batch_of t.0 s (es ++ wrote_entry ∷ []) ≡ Some wrote_batch
  unfolding batch_step
  wrote-is =
      batch_of-snoc t.0 s es wrote_entry
      ∙ (ap (λ (o : Option Batch). batch_step t.0 s o seat (Wrote t s rows)) f.is ∙ ap (λ (v : Bool). if v then Some wrote_batch else Some f.batch) (same_test t.0 s))

  wrote-phase : phase_of wrote_batch ≡ phase_after 1 (unwritten wrote_batch)
  wrote-phase = (let g = in_writing f.batch f.phase in ap (λ (v : Bool). if v then Over else phase_after f.batch.phase (unwritten wrote_batch)) g.0 ∙ ap (λ (n : ℕ). phase_after n (unwritten wrote_batch)) g.1)

  pub wrote_some-in : unwritten wrote_batch ≢ [] → IsBatchIn (es ++ record { seat = seat; calls = calls; act = Wrote t s rows } ∷ []) seat t.0 s Writing
  wrote_some-in left = record { batch = wrote_batch; is = wrote-is; mine = f.mine; phase = wrote-phase ∙ after-writing (unwritten wrote_batch) left }

  pub wrote_all-in : unwritten wrote_batch ≡ [] → IsBatchIn (es ++ record { seat = seat; calls = calls; act = Wrote t s rows } ∷ []) seat t.0 s Verifying
  wrote_all-in none = record { batch = wrote_batch; is = wrote-is; mine = f.mine; phase = wrote-phase ∙ after-verifying (unwritten wrote_batch) none }

pub verified-in : (es : List Entry) (seat calls : ℕ) (t : TableId) (s : ℕ) → IsBatchIn es seat t.0 s Verifying → IsBatchIn (es ++ record { seat = seat; calls = calls; act = Phase t s 3 } ∷ []) seat t.0 s Closing
unfolding batch_step
verified-in es seat calls t s i =
    let x = i.batch in
    let facts = in_verifying x i.phase in
    record {
      batch = record x { phase = 3 };
      is =
          batch_of-snoc t.0 s es (record { seat = seat; calls = calls; act = Phase t s 3 })
          ∙ (ap (λ (o : Option Batch). batch_step t.0 s o seat (Phase t s 3)) i.is ∙ ap (λ (v : Bool). if v then Some (record x { phase = 3 }) else Some x) (same_test t.0 s));
      mine = i.mine;
      phase = ap (λ (v : Bool). if v then Over else phase_after 3 (unwritten x)) facts.0;
    }

ended_in : (es : List Entry) (seat calls : ℕ) (t : TableId) (s : ℕ) (p : BatchPhase) → IsBatchIn es seat t.0 s p → IsBatchIn (es ++ record { seat = seat; calls = calls; act = Ended t s } ∷ []) seat t.0 s Over
unfolding batch_step
ended_in es seat calls t s p i =
    let x = i.batch in
    record {
      batch = record x { ended = true };
      is =
          batch_of-snoc t.0 s es (record { seat = seat; calls = calls; act = Ended t s })
          ∙ (ap (λ (o : Option Batch). batch_step t.0 s o seat (Ended t s)) i.is ∙ ap (λ (v : Bool). if v then Some (record x { ended = true }) else Some x) (same_test t.0 s));
      mine = i.mine;
      phase = refl;
    }

pub ended-in : (es : List Entry) (seat calls : ℕ) (t : TableId) (s : ℕ) → IsEndable es seat t.0 s → IsBatchIn (es ++ record { seat = seat; calls = calls; act = Ended t s } ∷ []) seat t.0 s Over
ended-in es seat calls t s (inl i) = ended_in es seat calls t s Closing i
ended-in es seat calls t s (inr i) = ended_in es seat calls t s Verifying i.1
