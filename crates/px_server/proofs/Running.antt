-- A batch that has begun and not ended: its table stands, and its group has it.
use Rattle.std.proofs.Common.{◌≡◌, ◌≢◌, ◌||◌, ◌&&◌, ◌==◌, ◌<◌, inl, inr, ℕ, zero, suc, Bool, true, false, if◌then◌else◌, Option, Some, None, List, [], ◌∷◌, ◌++◌, length, map, get_or, slice_get, refl, sym, ap, subst, ◌∙◌, arith}
use Rattle.std.specs.Option.{is_some}
use Rattle.std.proofs.lemmas.Bool.{cases_eq, false≢true, ne_eqb}
use Rattle.px_values.specs.declared.name.TableId.{TableId}
use Rattle.px_trail.specs.declared.entry.Act.{Act}
use Rattle.px_trail.specs.declared.entry.Act.TheVariants.{Made, IndexMade, IndexState, Dropped, Begun, Phase, Wrote, Ended, Opened, Released, Raised, Fixed, Based, Missed, Shut}
use Rattle.px_trail.specs.declared.entry.Entry.{Entry}
use Rattle.px_trail.specs.Batches.{Batch, IsBatchIn, batch_from, batch_of, batch_step, phase_of}
use Rattle.px_trail.specs.Legal.{Follows, IsLegal, MayCome}
use Rattle.px_trail.specs.Trail.{Base, catalogue_of, catalogue_step, made_table, set_number, table_of}
use Rattle.px_trail.proofs.Growth.{batch_of-snoc, catalogue-snoc, legal-induct}
use Rattle.px_trail.proofs.Standing.{set_number-other, set_number-same}
use Rattle.px_openbatches.specs.Pending.{HeldBatch, is_in}
use Rattle.px_openbatches.proofs.Helds.{same_batch}
use Rattle.px_tablesteps.specs.Kept.{no_held}
use Rattle.px_phases.specs.Batch.{AreHeldAs}
use Rattle.px_group.specs.Group.{IsTallied, as_phase, batch_in}
use Rattle.px_group.specs.declared.group.Begun.{Begun as OpenBatch}
use Rattle.px_group.specs.declared.group.Group.{Group}
use Rattle.px_group.specs.declared.group.Phase.{Phase as GroupPhase}
use Rattle.px_group.specs.declared.group.Phase.TheVariants.{Marking, Writing, Verifying, Closing}
use Rattle.px_batching.specs.Steps.{StandsInPhase}
use Rattle.px_batching.proofs.Pairs.{tied_at, to_tied}

-- ---- its table stands

-- the batch has ended, if there is one
abbrev IsOver : Option Batch → Type 0
IsOver None = Unit {0}
IsOver (Some x) = x.ended ≡ true

over_if : (v : Bool) (x y : Batch) → x.ended ≡ true → y.ended ≡ true → IsOver (if v then Some x else Some y)
over_if true x y a c = a
over_if false x y a c = c

over_is : (o : Option Batch) (x : Batch) → o ≡ Some x → IsOver o → x.ended ≡ true
over_is None x is over = absurd cc
over_is (Some y) x is over = (let same : y ≡ x = cc in subst (λ (z : Batch). z.ended ≡ true) same over)

none_begins : (v : Bool) (x : Batch) → v ≡ false → IsOver (if v then Some x else None)
none_begins true x e = absurd (false≢true (sym e))
none_begins false x e = tt

-- an entry that begins no batch of the table
step_over : (t s : ℕ) (o : Option Batch) (seat : ℕ) (act : Act) → ((u : TableId) (r : ℕ) (cs : List Rattle.px_values.specs.declared.change.Change.Change) → act ≡ Begun u r cs → u.0 ≢ t) → IsOver o → IsOver (batch_step t s o seat act)
unfolding batch_step
step_over t s None seat (Begun u r cs) away over = none_begins ((u.0 == t) && (r == s)) _ (ap (λ v. v && (r == s)) (ne_eqb u.0 t (away u r cs refl)))
step_over t s None seat (Phase u r p) away over = tt
step_over t s None seat (Wrote u r rows) away over = tt
step_over t s None seat (Ended u r) away over = tt
step_over t s None seat (Made u what) away over = tt
step_over t s None seat (IndexMade u i r what) away over = tt
step_over t s None seat (IndexState u i state r) away over = tt
step_over t s None seat (Dropped u i) away over = tt
step_over t s None seat (Opened u r scn) away over = tt
step_over t s None seat (Released u r) away over = tt
step_over t s None seat (Raised u h) away over = tt
step_over t s None seat (Fixed i key) away over = tt
step_over t s None seat (Based i rows) away over = tt
step_over t s None seat (Missed call) away over = tt
step_over t s None seat (Shut call) away over = tt
step_over t s (Some b) seat (Phase u r p) away over = over_if ((u.0 == t) && (r == s)) (record b { phase = p }) b over over
step_over t s (Some b) seat (Wrote u r rows) away over = over_if ((u.0 == t) && (r == s)) (record b { written = b.written ++ rows }) b over over
step_over t s (Some b) seat (Ended u r) away over = over_if ((u.0 == t) && (r == s)) (record b { ended = true }) b refl over
step_over t s (Some b) seat (Begun u r cs) away over = over
step_over t s (Some b) seat (Made u what) away over = over
step_over t s (Some b) seat (IndexMade u i r what) away over = over
step_over t s (Some b) seat (IndexState u i state r) away over = over
step_over t s (Some b) seat (Dropped u i) away over = over
step_over t s (Some b) seat (Opened u r scn) away over = over
step_over t s (Some b) seat (Released u r) away over = over
step_over t s (Some b) seat (Raised u h) away over = over
step_over t s (Some b) seat (Fixed i key) away over = over
step_over t s (Some b) seat (Based i rows) away over = over
step_over t s (Some b) seat (Missed call) away over = over
step_over t s (Some b) seat (Shut call) away over = over

none_some : {A : Type 0} (o : Option A) → o ≡ None → is_some o ≡ true → ⊥
none_some o none some = false≢true (sym (ap is_some none) ∙ some)

some_none : {A : Type 0} (x : A) (o : Option A) → o ≡ Some x → o ≡ None → ⊥
some_none x o is none = (let no : Some x ≡ None = sym is ∙ none in cc)

-- all batches of a table that doesn't stand have ended
abbrev HasNoBatch : Base → List Entry → Type 0
HasNoBatch b es = (t : ℕ) → table_of b es t ≡ None → (s : ℕ) → IsOver (batch_of t s es)

module _ (b : Base) (es : List Entry) (before : HasNoBatch b es) where
  quiet : (o : Option Batch) → ((x : Batch) → o ≡ Some x → x.ended ≡ true) → IsOver o
  quiet None all = tt
  quiet (Some x) all = all x refl

  step_none : (seat calls : ℕ) (act : Act) → Follows b es seat calls act → (t : ℕ) → (catalogue_step (catalogue_of b es) act).tables t ≡ None → (s : ℕ) → IsOver (batch_step t s (batch_of t s es) seat act)
  unfolding Follows catalogue_step
  step_none seat calls (Made u what) f t none s = elim (cases_eq u.0 t) [
    | inl e ↦ absurd (some_none (made_table (catalogue_of b es).next u what) (set_number u.0 (Some (made_table (catalogue_of b es).next u what)) (catalogue_of b es).tables t)
        (subst (λ (m : ℕ). set_number u.0 (Some (made_table (catalogue_of b es).next u what)) (catalogue_of b es).tables m ≡ Some (made_table (catalogue_of b es).next u what)) e (set_number-same u.0 (Some (made_table (catalogue_of b es).next u what)) (catalogue_of b es).tables)) none)
    | inr e ↦ step_over t s (batch_of t s es) seat (Made u what) (λ v r cs is. absurd cc) (before t (sym (set_number-other u.0 (Some (made_table (catalogue_of b es).next u what)) (catalogue_of b es).tables t e) ∙ none) s)
  ]
  step_none seat calls (Dropped u None) f t none s = elim (cases_eq u.0 t) [
    | inl e ↦ step_over t s (batch_of t s es) seat (Dropped u None) (λ v r cs is. absurd cc) (subst (λ (m : ℕ). IsOver (batch_of m s es)) e (quiet (batch_of u.0 s es) (f.1.batches s)))
    | inr e ↦ step_over t s (batch_of t s es) seat (Dropped u None) (λ v r cs is. absurd cc) (before t (sym (set_number-other u.0 None (catalogue_of b es).tables t e) ∙ none) s)
  ]
  step_none seat calls (Begun u r cs) f t none s =
      step_over t s (batch_of t s es) seat (Begun u r cs) (λ v q ds is same. none_some (table_of b es u.0) (ap (λ (m : ℕ). table_of b es m) (ap table_begun is ∙ same) ∙ none) f.3) (before t none s)
    where
      table_begun : Act → ℕ
      table_begun (Begun u r cs) = u.0
      table_begun act = 0
  step_none seat calls (IndexMade u i r what) f t none s = step_over t s (batch_of t s es) seat (IndexMade u i r what) (λ v q cs is. absurd cc) (before t none s)
  step_none seat calls (IndexState u i state r) f t none s = step_over t s (batch_of t s es) seat (IndexState u i state r) (λ v q cs is. absurd cc) (before t none s)
  step_none seat calls (Dropped u (Some i)) f t none s = step_over t s (batch_of t s es) seat (Dropped u (Some i)) (λ v q cs is. absurd cc) (before t none s)
  step_none seat calls (Phase u r p) f t none s = step_over t s (batch_of t s es) seat (Phase u r p) (λ v q cs is. absurd cc) (before t none s)
  step_none seat calls (Wrote u r rows) f t none s = step_over t s (batch_of t s es) seat (Wrote u r rows) (λ v q cs is. absurd cc) (before t none s)
  step_none seat calls (Ended u r) f t none s = step_over t s (batch_of t s es) seat (Ended u r) (λ v q cs is. absurd cc) (before t none s)
  step_none seat calls (Opened u r scn) f t none s = step_over t s (batch_of t s es) seat (Opened u r scn) (λ v q cs is. absurd cc) (before t none s)
  step_none seat calls (Released u r) f t none s = step_over t s (batch_of t s es) seat (Released u r) (λ v q cs is. absurd cc) (before t none s)
  step_none seat calls (Raised u h) f t none s = step_over t s (batch_of t s es) seat (Raised u h) (λ v q cs is. absurd cc) (before t none s)
  step_none seat calls (Fixed i key) f t none s = step_over t s (batch_of t s es) seat (Fixed i key) (λ v q cs is. absurd cc) (before t none s)
  step_none seat calls (Based i rows) f t none s = step_over t s (batch_of t s es) seat (Based i rows) (λ v q cs is. absurd cc) (before t none s)
  step_none seat calls (Missed call) f t none s = step_over t s (batch_of t s es) seat (Missed call) (λ v q cs is. absurd cc) (before t none s)
  step_none seat calls (Shut call) f t none s = step_over t s (batch_of t s es) seat (Shut call) (λ v q cs is. absurd cc) (before t none s)

next_none : (b : Base) (es : List Entry) (e : Entry) → IsLegal b es → MayCome b es e → HasNoBatch b es → HasNoBatch b (es ++ e ∷ [])
next_none b es e legal may before t none s =
    subst IsOver (sym (batch_of-snoc t s es e)) (step_none b es before e.seat e.calls e.act may.follows t (sym (ap (λ c. c.tables t) (catalogue-snoc b es e)) ∙ none) s)

all_over : (b : Base) (es : List Entry) → IsLegal b es → HasNoBatch b es
unfolding batch_from
all_over b es legal = legal-induct b (HasNoBatch b) (next_none b) [] es legal (λ t none s. tt)

-- so the table of one that hasn't stands
pub none_running : (b : Base) (es : List Entry) → IsLegal b es → (t s : ℕ) (x : Batch) → batch_of t s es ≡ Some x → x.ended ≡ false → table_of b es t ≡ None → ⊥
none_running b es legal t s x is running none = false≢true (sym running ∙ over_is (batch_of t s es) x is (all_over b es legal t none s))

-- ---- its group has it

-- a batch of the stamp at a place
pub record HasBatch (ms : List OpenBatch) (s : ℕ) : Type 0 where
  pub place : ℕ
  pub batch : OpenBatch
  pub is : slice_get ms place ≡ Some batch
  pub stamp : batch.batch.stamp ≡ s

held_batch : (ms : List OpenBatch) (hs : List HeldBatch) → AreHeldAs (map batch_in ms) hs → (s : ℕ) → is_in s hs ≡ true → HasBatch ms s
held_batch [] [] alike s is = absurd (false≢true is)
held_batch [] (h ∷ hs) alike s is = absurd alike
held_batch (m ∷ ms) [] alike s is = absurd alike
held_batch (m ∷ ms) (h ∷ hs) alike s is = elim (cases_eq h.stamp s) [
  | inl e ↦ record { place = 0; batch = m; is = refl; stamp = sym alike.0.stamp ∙ e }
  | inr e ↦ (let r = held_batch ms hs alike.1 s (sym (ap (λ v. v || is_in s hs) (ne_eqb h.stamp s e)) ∙ is) in record { place = suc r.place; batch = r.batch; is = r.is; stamp = r.stamp })
]

pub has_batch : (b : Base) (es : List Entry) (g : Group) (hs : List HeldBatch) → IsTallied b es g hs → (s : ℕ) (x : Batch) → batch_of g.table.id.0 s es ≡ Some x → x.ended ≡ false → HasBatch g.batches.items s
has_batch b es g hs k s x is running = held_batch g.batches.items hs k.batches s (k.held.all s x is running)

-- ---- it is in the phase that the trail tells

phase_by : (p q : GroupPhase) → as_phase p ≡ as_phase q → p ≡ q
phase_by Marking Marking e = refl
phase_by Marking Writing e = cc
phase_by Marking Verifying e = cc
phase_by Marking Closing e = cc
phase_by Writing Marking e = cc
phase_by Writing Writing e = refl
phase_by Writing Verifying e = cc
phase_by Writing Closing e = cc
phase_by Verifying Marking e = cc
phase_by Verifying Writing e = cc
phase_by Verifying Verifying e = refl
phase_by Verifying Closing e = cc
phase_by Closing Marking e = cc
phase_by Closing Writing e = cc
phase_by Closing Verifying e = cc
phase_by Closing Closing e = refl

pub some_at : {A : Type 0} (xs : List A) (i : ℕ) → i < length xs → (x : A) × (slice_get xs i ≡ Some x)
some_at [] i l = absurd (omega (arith, l))
some_at (x ∷ xs) zero l = (x, refl)
some_at (x ∷ xs) (suc i) l = some_at xs i (omega (arith, l))

-- the batch at the place of its stamp
pub is_at : (b : Base) (es : List Entry) (g : Group) (hs : List HeldBatch) → IsTallied b es g hs → (m s : ℕ) → m < length g.batches.items → ((x : OpenBatch) → slice_get g.batches.items m ≡ Some x → x.batch.stamp ≡ s) → (p : GroupPhase) (seat : ℕ) → IsBatchIn es seat g.table.id.0 s (as_phase p) → StandsInPhase g m p
is_at b es g hs k m s l stamp p seat mine = (let
    f = some_at g.batches.items m l
    in let
    tie = tied_at es g.table.id.0 g.batches.items hs (to_tied es g.table.id.0 g.batches.items hs k.batches k.phases) m f.0 f.1
    in let
    same : (get_or hs m no_held).stamp ≡ s = tie.1.0.stamp ∙ stamp f.0 f.1
    in let
    one : tie.1.1.batch ≡ mine.batch = same_batch (sym tie.1.1.is ∙ (ap (λ (n : ℕ). batch_of g.table.id.0 n es) same ∙ mine.is))
    in record { batch = f.0; is = f.1; phase_is = phase_by f.0.phase p (sym tie.1.1.phase ∙ (ap phase_of one ∙ mine.phase)) })
