-- Each begun change of a row has a stamp up to the last.
use Rattle.std.proofs.Common.{ℕ, ◌≤◌, ◌==◌, max, if◌then◌else◌, true, false, Option, None, Some, List, [], ◌∷◌, ◌++◌, arith}
use Rattle.std.specs.List.{AllByRecursion}
use Rattle.px_values.specs.declared.row.Value.{Value}
use Rattle.px_values.specs.declared.change.What.{What}
use Rattle.px_trail.specs.declared.entry.Act.{Act}
use Rattle.px_trail.specs.declared.entry.Act.TheVariants.{Begun}
use Rattle.px_trail.specs.declared.entry.Entry.{Entry}
use Rattle.px_trail.specs.Batches.{change_of}
use Rattle.px_trail.specs.Trail.{last_from, last_step}
use Rattle.px_trail.specs.States.{Dated, begun, begun_by, dated}
use Rattle.px_trail.proofs.Batches.{last_from-le}

abbrev pub AreUpTo : ℕ → List Dated → Type 0
AreUpTo last ds = AllByRecursion (λ d. d.stamp ≤ last) ds

up_to-more : (n m : ℕ) (ds : List Dated) → n ≤ m → AreUpTo n ds → AreUpTo m ds
up_to-more n m [] le all = tt
up_to-more n m (d ∷ ds) le all = ((let h = all.0 in omega arith), up_to-more n m ds le all.1)

up_to-append : (n : ℕ) (xs ys : List Dated) → AreUpTo n xs → AreUpTo n ys → AreUpTo n (xs ++ ys)
up_to-append n [] ys a b = b
up_to-append n (x ∷ xs) ys a b = (a.0, up_to-append n xs ys a.1 b)

dated-up_to : (s n : ℕ) (w : Option What) → s ≤ n → AreUpTo n (dated s w)
dated-up_to s n None le = tt
dated-up_to s n (Some w) le = (le, tt)

begun_by-up_to : (t l : ℕ) (r : List Value) (act : Act) → AreUpTo (last_step t l act) (begun_by t r act)
unfolding begun_by
begun_by-up_to t l r (Begun t' s cs) =
    elim (t'.0 == t) as (λ v. AreUpTo (if v then max l s else l) (if v then dated s (change_of cs r) else [])) [
      | true ↦ dated-up_to s (max l s) (change_of cs r) (omega arith)
      | false ↦ tt
    ]
begun_by-up_to t l r act = tt

pub begun-up_to : (t l : ℕ) (r : List Value) (es : List Entry) → AreUpTo (last_from t l es) (begun t r es)
unfolding begun last_from
begun-up_to t l r [] = tt
begun-up_to t l r (e ∷ es) =
    up_to-append (last_from t (last_step t l e.act) es) (begun_by t r e.act) (begun t r es)
    (up_to-more (last_step t l e.act) (last_from t (last_step t l e.act) es) (begun_by t r e.act) (last_from-le t (last_step t l e.act) es) (begun_by-up_to t l r e.act))
    (begun-up_to t (last_step t l e.act) r es)
