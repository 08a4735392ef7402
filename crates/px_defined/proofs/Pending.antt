-- A batch that is still to write its rows.
use Rattle.std.proofs.Common.{◌≡◌, ◌≢◌, ℕ, Bool, true, false, not, ◌||◌, Some, List, [], ◌∷◌, inl, inr, refl, ap, sym, ◌∙◌, subst}
use Rattle.std.specs.Prelude.{filter, nat_eq, ◌↔◌}
use Rattle.std.specs.List.{list_any}
use Rattle.std.proofs.lemmas.Bool.{cases_Bool, eqb-true, false≢true}
use Rattle.px_values.specs.declared.change.Change.{Change}
use Rattle.px_trail.specs.declared.entry.Entry.{Entry}
use Rattle.px_trail.specs.Batches.{Batch, IsSoundBatch, IsSoundOption, batch_of, has, phase_of, rows_of, unwritten}
use Rattle.px_trail.specs.Legal.{IsLegal}
use Rattle.px_trail.specs.Trail.{Base}
use Rattle.px_trail.proofs.Batches.{batch-sound, in_closing, in_marking, in_verifying, in_writing}
use Rattle.px_openbatches.specs.Pending.{HeldBatch, is_in}
use Rattle.px_phases.specs.Batch.{AreHeldAs}
use Rattle.px_group.specs.Group.{AreInPhase, IsTallied, as_phase}
use Rattle.px_group.specs.declared.group.Begun.{Begun}
use Rattle.px_group.specs.declared.group.Group.{Group}
use Rattle.px_group.specs.declared.group.Phase.{Phase}
use Rattle.px_group.specs.declared.group.Phase.TheVariants.{Marking, Writing, Verifying, Closing}
use Rattle.px_defined.specs.Defined.{has_to_write, is_to_write}
use Rattle.px_defined.proofs.Going.{as_data}

none_written : (cs : List Change) → cs ≢ [] → filter (λ r. not (has [] r)) (rows_of cs) ≢ []
unfolding has
none_written [] h = absurd (h refl)
none_written (c ∷ cs) h = λ n. cc

abbrev to_write : Begun → Bool
to_write m = is_to_write m.phase

abbrev HasPending : List Entry → ℕ → Type 0
HasPending es t = (s : ℕ) × (y : Batch) × (batch_of t s es ≡ Some y) × (unwritten y ≢ [])

module _ (x : Batch) (sound : IsSoundBatch x) where
  left_by : (p : Phase) → phase_of x ≡ as_phase p → is_to_write p ≡ true → unwritten x ≢ []
  left_by Marking q w = λ n. none_written x.changes sound.some (ap (λ ws. filter (λ r. not (has ws r)) (rows_of x.changes)) (sym (sound.unmarked (in_marking x q).1)) ∙ n)
  left_by Writing q w = (in_writing x q).2
  left_by Verifying q w = absurd (false≢true w)
  left_by Closing q w = absurd (false≢true w)

  phase_by : (p : Phase) → phase_of x ≡ as_phase p → unwritten x ≢ [] → is_to_write p ≡ true
  phase_by Marking q n = refl
  phase_by Writing q n = refl
  phase_by Verifying q n = absurd (n (in_verifying x q).2)
  phase_by Closing q n = absurd (n (sound.verified (in_closing x q).1))

module _ (b : Base) (es : List Entry) (legal : IsLegal b es) (t : ℕ) where
  sound_of : (s : ℕ) (x : Batch) → batch_of t s es ≡ Some x → IsSoundBatch x
  sound_of s x q = subst IsSoundOption q (batch-sound b t s es legal)

  from_any : (ms : List Begun) (hs : List HeldBatch) → AreHeldAs (as_data ms) hs → AreInPhase es t ms hs → list_any to_write ms ≡ true → HasPending es t
  from_any [] hs held phases any = absurd (false≢true any)
  from_any (m ∷ ms) [] held phases any = absurd held
  from_any (m ∷ ms) (h ∷ hs) held phases any = elim (cases_Bool (to_write m)) [
    | inl e ↦ (h.stamp, phases.0.batch, phases.0.is, left_by phases.0.batch (sound_of h.stamp phases.0.batch phases.0.is) m.phase phases.0.phase e)
    | inr e ↦ from_any ms hs held.1 phases.1 (sym (ap (λ (v : Bool). v || list_any to_write ms) e) ∙ any)
  ]

  to_any : (s : ℕ) (y : Batch) → batch_of t s es ≡ Some y → unwritten y ≢ [] → (ms : List Begun) (hs : List HeldBatch) → AreHeldAs (as_data ms) hs → AreInPhase es t ms hs → is_in s hs ≡ true → list_any to_write ms ≡ true
  to_any s y q left [] [] held phases there = absurd (false≢true there)
  to_any s y q left [] (h ∷ hs) held phases there = absurd held
  to_any s y q left (m ∷ ms) [] held phases there = absurd held
  to_any s y q left (m ∷ ms) (h ∷ hs) held phases there = elim (cases_Bool (nat_eq h.stamp s)) [
    | inl e ↦
        (let at : batch_of t s es ≡ Some phases.0.batch = ap (λ n. batch_of t n es) (sym (eqb-true h.stamp s e)) ∙ phases.0.is in
        let same : y ≡ phases.0.batch = (let z : Some y ≡ Some phases.0.batch = sym q ∙ at in cc) in
        ap (λ (v : Bool). v || list_any to_write ms) (phase_by phases.0.batch (sound_of s phases.0.batch at) m.phase phases.0.phase (subst (λ (x : Batch). unwritten x ≢ []) same left)))
    | inr e ↦ or_later (to_write m) (list_any to_write ms) (to_any s y q left ms hs held.1 phases.1 (sym (ap (λ (v : Bool). v || is_in s hs) e) ∙ there))
  ]
    where
      or_later : (v w : Bool) → w ≡ true → (v || w) ≡ true
      or_later true w h = refl
      or_later false w h = h

  running : (s : ℕ) (y : Batch) → batch_of t s es ≡ Some y → unwritten y ≢ [] → y.ended ≡ false
  running s y q left = elim (cases_Bool y.ended) [ inl e ↦ absurd (left ((sound_of s y q).ended e)) | inr e ↦ e ]

pub pending : (b : Base) (es : List Entry) → IsLegal b es → (g : Group) (hs : List HeldBatch) → IsTallied b es g hs → (has_to_write g ≡ true) ↔ HasPending es g.table.id.0
pending b es legal g hs k = (
  λ any. from_any b es legal g.table.id.0 g.batches.items hs k.batches k.phases any,
  λ w. to_any b es legal g.table.id.0 w.0 w.1 w.2 w.3 g.batches.items hs k.batches k.phases (k.held.all w.0 w.1 w.2 (running b es legal g.table.id.0 w.0 w.1 w.2 w.3)),
)
