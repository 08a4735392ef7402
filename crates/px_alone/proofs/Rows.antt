-- The rows of a table where no batch is under way: each change that was begun is written.
use Rattle.std.proofs.Common.{ℕ, ◌≡◌, not, Bool, true, false, Option, Some, List, [], ◌∷◌, filter, refl, ◌∙◌, ap, subst, ⊎_elim}
use Rattle.std.specs.List.{AllByRecursion}
use Rattle.std.proofs.lemmas.Bool.{cases_Bool, false≢true}
use Rattle.px_values.specs.declared.row.Value.{Value}
use Rattle.px_trail.specs.Batches.{Batch, IsSoundBatch, IsSoundOption, batch_of, has, rows_of, unwritten}
use Rattle.px_trail.specs.Legal.{IsLegal}
use Rattle.px_trail.specs.States.{Dated, applied, begun, is_row_written, is_written_in, state_of, written}
use Rattle.px_trail.specs.Trail.{Base, shape_of}
use Rattle.px_trail.specs.declared.entry.Entry.{Entry}
use Rattle.px_trail.proofs.Batches.{batch-sound}
use Rattle.px_trail.proofs.Orders.{IsChange, filter-has, has-change, ordered, some_change}

-- each batch of the trail has ended
abbrev pub AllDone : List Entry → Type 0
AllDone es = (t s : ℕ) (y : Batch) → batch_of t s es ≡ Some y → y.ended ≡ true

none_has : (r : List Value) → has [] r ≡ true → false ≡ true
unfolding has
none_has r h = h

nothing_left : (w : List (List Value)) (rows : List (List Value)) (r : List Value) → filter (λ q. not (has w q)) rows ≡ [] → has rows r ≡ true → has w r ≡ true
nothing_left w rows r none h =
    ⊎_elim (λ (e : has w r ≡ true). e)
    (λ (e : has w r ≡ false).
    let left : has (filter (λ q. not (has w q)) rows) r ≡ true = filter-has (λ q. not (has w q)) rows r h (ap not e) in
    absurd (false≢true (none_has r (subst (λ (l : List (List Value)). has l r ≡ true) none left))))
    (cases_Bool (has w r))

written_at : (b : Base) (es : List Entry) (t : ℕ) (r : List Value) → IsLegal b es → AllDone es → (d : Dated) → IsChange (batch_of t d.stamp es) r d.what → is_row_written es t r d.stamp ≡ true
written_at b es t r legal done d h =
    let c = some_change (batch_of t d.stamp es) r d.what h in
    let x : Batch = c.0 in
    let sound : IsSoundBatch x = subst (λ (o : Option Batch). IsSoundOption o) c.1 (batch-sound b t d.stamp es legal) in
    let none : unwritten x ≡ [] = sound.ended (done t d.stamp x c.1) in
    ap (λ (o : Option Batch). is_written_in o r) c.1 ∙ nothing_left x.written (rows_of x.changes) r none (has-change x.changes r d.what c.2)

all_kept : (q : Dated → Bool) (ds : List Dated) → AllByRecursion (λ d. q d ≡ true) ds → filter q ds ≡ ds
all_kept q [] a = refl
all_kept q (d ∷ ds) a = let e = a.0 in rw e (ap (λ (l : List Dated). d ∷ l) (all_kept q ds a.1))

all_as : (P Q : Dated → Type 0) (ds : List Dated) → ((d : Dated) → P d → Q d) → AllByRecursion P ds → AllByRecursion Q ds
all_as P Q [] f a = tt
all_as P Q (d ∷ ds) f a = (f d a.0, all_as P Q ds f a.1)

pub written-all : (b : Base) (es : List Entry) (t : ℕ) (r : List Value) → IsLegal b es → AllDone es → written es t r ≡ begun t r es
written-all b es t r legal done =
    all_kept (λ d. is_row_written es t r d.stamp) (begun t r es)
    (all_as (λ d. IsChange (batch_of t d.stamp es) r d.what) (λ d. is_row_written es t r d.stamp ≡ true) (begun t r es) (written_at b es t r legal done) (ordered b es t r legal).known)

-- the state of a row is that after all changes that were begun
pub state-done : (b : Base) (es : List Entry) (t : ℕ) (r : List Value) (p : ℕ) → IsLegal b es → AllDone es → state_of b es t r p ≡ applied (shape_of b es t) r p (b.state t r p) (begun t r es)
state-done b es t r p legal done = ap (applied (shape_of b es t) r p (b.state t r p)) (written-all b es t r legal done)
