-- A batch after a step of it.
use Rattle.std.proofs.Common.{◌≡◌, ℕ, ◌<◌, List, [], ◌∷◌, length, get_or, set, slice_get, Some, refl, ap, sym, ◌∙◌, arith}
use Rattle.std.proofs.lemmas.List.{get_or-set_same, set-set}
use Rattle.px_group.specs.declared.group.Phase.{Phase}
use Rattle.px_outside.specs.declared.disk.Disk.{Ghosts}
use Rattle.px_cells.specs.CellData.{CellData}
use Rattle.px_group.specs.declared.group.Begun.{Begun}
use Rattle.px_group.specs.declared.group.Group.{Group}
use Rattle.px_group.specs.declared.group.Phase.TheVariants.{Marking, Verifying}
use Rattle.px_batching.specs.Steps.{HandsCloses, HandsMarks, HasClosed, HasCloses, HasMarkedIndexes, HasMarks, IsBatchStep, StandsInPhase}
use Rattle.px_batching.proofs.Places.{same_at, set_here, within}
use Rattle.px_batching.proofs.Ready.{item_at}

pub none_left : (l : List (List (List CellData))) → length l ≡ 0 → l ≡ []
none_left [] e = refl
none_left (p ∷ l) e = absurd (omega arith)

-- it stands at its place
pub stands : (g g' : Group) (m : ℕ) (x x' : Begun) → IsBatchStep g g' m x x' → slice_get g'.batches.items m ≡ Some x'
stands g g' m x x' s = ap (λ (l : List Begun). slice_get l m) s.batches ∙ set_here g.batches.items m x x' s.batch

-- before a step
pub has_marks : (g : Group) (m : ℕ) → StandsInPhase g m Marking → (z : Begun) → z ≡ get_or g.batches.items m z → (n : ℕ) → n ≡ length z.batch.marks → 0 < n → HasMarks g m
has_marks g m h z e n is l = record { at = record { batch = z; is = at; phase_is = ap (λ (x : Begun). x.phase) (sym (same_at g.batches.items m h.batch z h.is at)) ∙ h.phase_is }; left = omega arith }
  where
    at : slice_get g.batches.items m ≡ Some z
    at = item_at g.batches.items m z (within g.batches.items m h.batch h.is) e

pub has_marked : (g : Group) (m : ℕ) → StandsInPhase g m Marking → (z : Begun) → z ≡ get_or g.batches.items m z → (n : ℕ) → n ≡ length z.batch.marks → n ≡ 0 → HasMarkedIndexes g m
has_marked g m h z e n is l = record { at = record { batch = z; is = at; phase_is = ap (λ (x : Begun). x.phase) (sym (same_at g.batches.items m h.batch z h.is at)) ∙ h.phase_is }; none = none_left z.batch.marks (omega arith) }
  where
    at : slice_get g.batches.items m ≡ Some z
    at = item_at g.batches.items m z (within g.batches.items m h.batch h.is) e

pub has_closes : (g : Group) (m : ℕ) → StandsInPhase g m Verifying → (z : Begun) → z ≡ get_or g.batches.items m z → (n : ℕ) → n ≡ length z.batch.closes → 0 < n → HasCloses g m
has_closes g m h z e n is l = record { at = record { batch = z; is = at; phase_is = ap (λ (x : Begun). x.phase) (sym (same_at g.batches.items m h.batch z h.is at)) ∙ h.phase_is }; left = omega arith }
  where
    at : slice_get g.batches.items m ≡ Some z
    at = item_at g.batches.items m z (within g.batches.items m h.batch h.is) e

pub has_closed : (g : Group) (m : ℕ) → StandsInPhase g m Verifying → (z : Begun) → z ≡ get_or g.batches.items m z → (n : ℕ) → n ≡ length z.batch.closes → n ≡ 0 → HasClosed g m
has_closed g m h z e n is l = record { at = record { batch = z; is = at; phase_is = ap (λ (x : Begun). x.phase) (sym (same_at g.batches.items m h.batch z h.is at)) ∙ h.phase_is }; none = none_left z.batch.closes (omega arith) }
  where
    at : slice_get g.batches.items m ≡ Some z
    at = item_at g.batches.items m z (within g.batches.items m h.batch h.is) e

-- after one
pub still_marking : {D : Type 0} (d : Ghosts D) (g g' : Group) (disk disk' : D) (m : ℕ) → HandsMarks d g g' disk disk' m → StandsInPhase g' m Marking
still_marking d g g' disk disk' m h = record { batch = record h.batch { batch = record h.batch.batch { marks = h.rest } }; is = stands g g' m h.batch (record h.batch { batch = record h.batch.batch { marks = h.rest } }) h.step.step; phase_is = h.marking }

pub still_verifying : {D : Type 0} (d : Ghosts D) (g g' : Group) (disk disk' : D) (m : ℕ) → HandsCloses d g g' disk disk' m → StandsInPhase g' m Verifying
still_verifying d g g' disk disk' m h = record { batch = record h.batch { batch = record h.batch.batch { closes = h.rest } }; is = stands g g' m h.batch (record h.batch { batch = record h.batch.batch { closes = h.rest } }) h.step.step; phase_is = h.verifying }

-- a batch that is written to twice
pub set_twice : (items : List Begun) (m : ℕ) (one now z : Begun) (p : Phase) → m < length items → now ≡ get_or (set items m one) m now → one ≡ z → set (set items m one) m (record now { phase = p }) ≡ set items m (record z { phase = p })
set_twice items m one now z p l e q = set-set items m one (record now { phase = p }) ∙ ap (λ (b : Begun). set items m (record b { phase = p })) (e ∙ (get_or-set_same items m one now l ∙ q))
