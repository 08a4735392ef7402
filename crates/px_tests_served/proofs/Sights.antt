-- What stays open, what may be read by, and what is among found keys.
use Rattle.std.proofs.Common.{ℕ, ◌≡◌, ◌≤◌, ◌==◌, true, length, get_or, ◌⊎◌, inl, inr, Option, List, [], ◌∷◌, refl, sym, subst, arith}
use Rattle.std.proofs.lemmas.Bool.Decides.{Decides-eqb}
use Rattle.px_tables.specs.declared.index.Index.{Index}
use Rattle.px_tables.specs.declared.index.IndexState.TheVariants.{Active}
use Rattle.px_values.specs.declared.name.TableId.{TableId}
use Rattle.px_trail.specs.declared.entry.Act.TheVariants.{Missed, Opened, Shut}
use Rattle.px_trail.specs.Answers.{IsAmong}
use Rattle.px_calls.specs.declared.fault.StepFault.{StepFault}
use Rattle.px_calls.specs.declared.query.Doubt.{Doubt}
use Rattle.px_calls.specs.declared.query.FoundKey.{FoundKey}
use Rattle.px_calls.specs.declared.query.FoundKey.TheVariants.{InDoubt}
use Rattle.px_calls.specs.declared.query.Point.{Point}
use Rattle.px_calls.specs.Known.{Known, Sees, Adds}
use Rattle.px_calls.specs.Causes.{Refuses}
use Rattle.px_calls.specs.Requires.{HasOpen, IsReadable, index_among, index_of_found}
use Rattle.px_calls.specs.Calls.{DidOpen}
use Rattle.px_calls.proofs.Points.{adds-opened, passes-open, ran-open}
use Rattle.px_calls.proofs.Runs.{ran-adds, refuses-sees}

-- a call that adds nothing leaves a point open
pub sees-open : (k k' : Known) (p : Point) → Sees k k' → HasOpen k p → HasOpen k' p
sees-open k k' p h was = passes-open k k' p h.passes was

ends-open : (k k' : Known) (p : Point) → Sees k k' ⊎ (((call : ℕ) × Adds k k' (Missed call)) ⊎ ((call : ℕ) × Adds k k' (Shut call))) → HasOpen k p → HasOpen k' p
ends-open k k' p (inl h) was = sees-open k k' p h was
ends-open k k' p (inr (inl h)) was = ran-open k k' (Missed h.0 ∷ []) p (ran-adds k k' (Missed h.0) h.1) refl was
ends-open k k' p (inr (inr h)) was = ran-open k k' (Shut h.0 ∷ []) p (ran-adds k k' (Shut h.0) h.1) refl was

-- a call that is refused does as well
pub refuses-open : (Cause : StepFault → Known → Type 0) (k k' : Known) (f : StepFault) (p : Point) → Refuses Cause k k' f → HasOpen k p → HasOpen k' p
refuses-open Cause k k' f p h was = ends-open k k' p (refuses-sees Cause k k' f h) was

-- a point is open when it was opened
pub did-open : (k k' : Known) (t : TableId) (scn : Option ℕ) (p : Point) → DidOpen k k' t scn p → HasOpen k' p
did-open k k' t scn p h = adds-opened k k' p p.scn (subst (λ (x : TableId). Adds k k' (Opened x p.stamp p.scn)) (sym h.table) h.adds)

-- the first index of a point
pub first-readable : (p : Point) (x : Index) (xs : List Index) → p.found.indexes ≡ x ∷ xs → x.state ≡ Active → x.birth ≤ p.stamp → IsReadable p (index_of_found p.found x.id.0)
unfolding index_among
first-readable p x xs is active born =
    let same : (x.id.0 == x.id.0) ≡ true = (Decides-eqb x.id.0 x.id.0).1 refl in
    rw (is, same) (active, born)

-- the first of a list
pub first-of : (xs : List Index) (x : Index) → 1 ≤ length xs → x ≡ get_or xs 0 x → (ys : List Index) × (xs ≡ x ∷ ys)
first-of [] x some is = absurd (omega arith)
first-of (y ∷ ys) x some is = (ys, cc)

-- the doubt that a list begins with is among it
pub among-first : (xs ys : List FoundKey) (x : FoundKey) (d : Doubt) → xs ≡ x ∷ ys → x ≡ InDoubt d → IsAmong (InDoubt d) xs
unfolding IsAmong
among-first xs ys x d is doubt = rw is (inl doubt)
