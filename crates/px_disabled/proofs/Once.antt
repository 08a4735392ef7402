-- Each index of a table of which one is built again has a number of its own.
use Rattle.std.proofs.Common.{◌≡◌, ◌≢◌, ℕ, zero, suc, Bool, true, false, ◌==◌, if◌then◌else◌, Some, List, [], ◌∷◌, ◌++◌, slice_get, refl, ap, sym, ◌∙◌, subst}
use Rattle.std.specs.Prelude.{filter, not}
use Rattle.std.specs.List.{AllByRecursion}
use Rattle.std.proofs.lemmas.Bool.{eq-eqb}
use Rattle.px_tables.specs.declared.index.Index.{Index}
use Rattle.px_group.specs.declared.group.Group.{Group}
use Rattle.px_group.specs.declared.group.IndexRegion.{IndexRegion}
use Rattle.px_defined.specs.Defined.{AreOnceIn, HasIndexLess, HasIndexMore, HasOnce}
use Rattle.px_defined.proofs.Lists.{all_end, all_filter, from_filter}
use Rattle.px_disabled.specs.Disabled.{rebuilt}

abbrev IsOther : IndexRegion → IndexRegion → Type 0
IsOther x y = x.index.id.0 ≢ y.index.id.0

once_end : (xs : List IndexRegion) (n : IndexRegion) → AreOnceIn xs → AllByRecursion (λ y. IsOther y n) xs → AreOnceIn (xs ++ n ∷ [])
once_end [] n h a = (tt, tt)
once_end (x ∷ xs) n h a = (all_end (IsOther x) xs n h.0 a.0, once_end xs n h.1 a.1)

all_places : (P : IndexRegion → Type 0) (xs : List IndexRegion) → ((i : ℕ) (x : IndexRegion) → slice_get xs i ≡ Some x → P x) → AllByRecursion P xs
all_places P [] h = tt
all_places P (x ∷ xs) h = (h zero x refl, all_places P xs (λ i z e. h (suc i) z e))

-- some less
once_by : (keep : IndexRegion → Bool) (x : IndexRegion) (xs : List IndexRegion) (c : Bool) → AllByRecursion (IsOther x) (filter keep xs) → AreOnceIn (filter keep xs) → AreOnceIn (if c then x ∷ filter keep xs else filter keep xs)
once_by keep x xs true a h = (a, h)
once_by keep x xs false a h = h

once_filter : (keep : IndexRegion → Bool) (xs : List IndexRegion) → AreOnceIn xs → AreOnceIn (filter keep xs)
once_filter keep [] h = tt
once_filter keep (x ∷ xs) h = once_by keep x xs (keep x) (all_filter keep (IsOther x) xs h.0) (once_filter keep xs h.1)

pub once_rebuilt : (g h g' : Group) (x : Index) (s region : ℕ) → HasIndexLess g h x.id.0 → HasIndexMore h g' (rebuilt s region x) → HasOnce g → HasOnce g'
once_rebuilt g h g' x s region less more once =
    let number : more.new.index.id.0 ≡ x.id.0 = ap (λ (y : Index). y.id.0) more.index in
    let items : g'.indexes.items ≡ filter (λ z. not (z.index.id.0 == x.id.0)) g.indexes.items ++ more.new ∷ [] = more.indexes ∙ ap (λ (l : List IndexRegion). l ++ more.new ∷ []) less.indexes in
    subst AreOnceIn (sym items) (once_end (filter (λ z. not (z.index.id.0 == x.id.0)) g.indexes.items) more.new (once_filter (λ z. not (z.index.id.0 == x.id.0)) g.indexes.items once)
    (all_places (λ y. IsOther y more.new) (filter (λ z. not (z.index.id.0 == x.id.0)) g.indexes.items) (λ j z at q. (let w = from_filter (λ y. not (y.index.id.0 == x.id.0)) g.indexes.items j z at in let no : true ≡ false = sym w.1.1 ∙ ap not (eq-eqb z.index.id.0 x.id.0 (q ∙ number)) in cc))))
