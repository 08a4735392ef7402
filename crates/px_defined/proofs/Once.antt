-- Each index of a table has a number of its own.
use Rattle.std.proofs.Common.{◌≡◌, ◌≢◌, ℕ, zero, suc, Bool, true, false, Some, List, [], ◌∷◌, ◌++◌, set, slice_get, refl, ap, sym, ◌∙◌, subst}
use Rattle.std.specs.Prelude.{filter, if◌then◌else◌, not, ◌==◌}
use Rattle.std.specs.List.{AllByRecursion}
use Rattle.px_values.specs.declared.name.IndexId.{IndexId}
use Rattle.px_tables.specs.declared.index.Index.{Index}
use Rattle.px_tables.specs.declared.index.NewIndex.{NewIndex}
use Rattle.px_tables.specs.declared.table.Table.{Table}
use Rattle.px_trail.specs.declared.entry.Act.TheVariants.{IndexMade}
use Rattle.px_trail.specs.declared.entry.Entry.{Entry}
use Rattle.px_trail.specs.Legal.{IsLegal, MayCome}
use Rattle.px_trail.specs.Trail.{Base, IsRightBase, catalogue_of, made_index}
use Rattle.px_openbatches.specs.Pending.{HeldBatch}
use Rattle.px_group.specs.Group.{IsTallied}
use Rattle.px_group.specs.declared.group.Group.{Group}
use Rattle.px_group.specs.declared.group.IndexRegion.{IndexRegion}
use Rattle.px_defined.specs.Defined.{AreOnceIn, HasActive, HasIndexLess, HasIndexMore, HasOnce, IsNewGroup, IsOnlyAt, active}
use Rattle.px_defined.proofs.Lists.{all_at, all_end, all_filter, all_more, all_set}
use Rattle.px_defined.proofs.TalliedMore.{apart_old}

abbrev IsOther : IndexRegion → IndexRegion → Type 0
IsOther x y = x.index.id.0 ≢ y.index.id.0

once_at : (xs : List IndexRegion) → AreOnceIn xs → (i j : ℕ) (x y : IndexRegion) → slice_get xs i ≡ Some x → slice_get xs j ≡ Some y → x.index.id.0 ≡ y.index.id.0 → i ≡ j
once_at [] h i j x y e f q = cc
once_at (z ∷ zs) h zero zero x y e f q = refl
once_at (z ∷ zs) h zero (suc j) x y e f q = (let same : z ≡ x = cc in absurd (all_at (IsOther z) zs j y f h.0 (ap (λ (w : IndexRegion). w.index.id.0) same ∙ q)))
once_at (z ∷ zs) h (suc i) zero x y e f q = (let same : z ≡ y = cc in absurd (all_at (IsOther z) zs i x e h.0 (ap (λ (w : IndexRegion). w.index.id.0) same ∙ sym q)))
once_at (z ∷ zs) h (suc i) (suc j) x y e f q = ap suc (once_at zs h.1 i j x y e f q)

pub only_at : (g : Group) → HasOnce g → (place : ℕ) → IsOnlyAt g place
only_at g h place = record { each = λ i j x y e f at q. once_at g.indexes.items h i j x y e f q }

pub once_new : (t : Table) (g : Group) → IsNewGroup t g → HasOnce g
once_new t g n = subst AreOnceIn (sym n.indexes) tt

-- an index more
once_end : (xs : List IndexRegion) (n : IndexRegion) → AreOnceIn xs → AllByRecursion (λ y. IsOther y n) xs → AreOnceIn (xs ++ n ∷ [])
once_end [] n h a = (tt, tt)
once_end (x ∷ xs) n h a = (all_end (IsOther x) xs n h.0 a.0, once_end xs n h.1 a.1)

all_places : (P : IndexRegion → Type 0) (xs : List IndexRegion) → ((i : ℕ) (x : IndexRegion) → slice_get xs i ≡ Some x → P x) → AllByRecursion P xs
all_places P [] h = tt
all_places P (x ∷ xs) h = (h zero x refl, all_places P xs (λ i z e. h (suc i) z e))

pub once_more : (b : Base) (right : IsRightBase b) (es : List Entry) (legal : IsLegal b es) (e : Entry) (may : MayCome b es e) (g g' : Group) (i : Index) (hs : List HeldBatch) (k : IsTallied b es g hs) (h : HasIndexMore g g' i) (id : IndexId) (s : ℕ) (what : NewIndex)
    → (is : e.act ≡ IndexMade g.table.id id s what) → (i_is : i ≡ made_index (catalogue_of b es).next id s what) → HasOnce g → HasOnce g'
once_more b right es legal e may g g' i hs k h id s what is i_is once =
    let number : h.new.index.id.0 ≡ id.0 = ap (λ (x : Index). x.id.0) (h.index ∙ i_is) in
    subst AreOnceIn (sym h.indexes) (once_end g.indexes.items h.new once (all_places (λ y. IsOther y h.new) g.indexes.items (λ j x at q. apart_old b right es legal e may g g' i hs k h id s what is i_is x.index (k.standing.index j x at) (sym (q ∙ number)))))

-- one changed, with the same number
once_set : (xs : List IndexRegion) (i : ℕ) (x y : IndexRegion) → slice_get xs i ≡ Some x → y.index.id.0 ≡ x.index.id.0 → AreOnceIn xs → AreOnceIn (set xs i y)
once_set [] i x y e q h = tt
once_set (z ∷ zs) zero x y e q h = (let same : z ≡ x = cc in (all_more (IsOther z) (IsOther y) (λ w n p. n (ap (λ (u : IndexRegion). u.index.id.0) same ∙ (sym q ∙ p))) zs h.0, h.1))
once_set (z ∷ zs) (suc i) x y e q h = (all_set (IsOther z) zs i y (λ p. all_at (IsOther z) zs i x e h.0 (p ∙ q)) h.0, once_set zs i x y e q h.1)

pub once_active : (g g' : Group) (place : ℕ) → HasActive g g' place → HasOnce g → HasOnce g'
once_active g g' place a h = subst AreOnceIn (sym a.indexes) (once_set g.indexes.items place a.index (active a.index) a.is refl h)

-- some less
once_by : (keep : IndexRegion → Bool) (x : IndexRegion) (xs : List IndexRegion) (c : Bool) → AllByRecursion (IsOther x) (filter keep xs) → AreOnceIn (filter keep xs) → AreOnceIn (if c then x ∷ filter keep xs else filter keep xs)
once_by keep x xs true a h = (a, h)
once_by keep x xs false a h = h

once_filter : (keep : IndexRegion → Bool) (xs : List IndexRegion) → AreOnceIn xs → AreOnceIn (filter keep xs)
once_filter keep [] h = tt
once_filter keep (x ∷ xs) h = once_by keep x xs (keep x) (all_filter keep (IsOther x) xs h.0) (once_filter keep xs h.1)

pub once_less : (g g' : Group) (n : ℕ) → HasIndexLess g g' n → HasOnce g → HasOnce g'
once_less g g' n l h = subst AreOnceIn (sym l.indexes) (once_filter (λ x. not (x.index.id.0 == n)) g.indexes.items h)
