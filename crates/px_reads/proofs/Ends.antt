-- Where ranges end.
use Rattle.std.proofs.Common.{if◌then◌else◌, ◌≡◌, ℕ, Bool, true, false, Option, Some, None, List, [], ◌∷◌, ◌++◌, refl, sym, ap, subst, inl, inr}
use Rattle.std.specs.Ordering.{is_lt}
use Rattle.std.specs.declared.cmp.Ordering.{Ordering}
use Rattle.std.specs.declared.cmp.Ordering.TheVariants.{Less, Equal, Greater}
use Rattle.px_cells.specs.Among.{Has}
use Rattle.px_cells.specs.CellData.{CellData}
use Rattle.px_cells.specs.Order.{IsAscending, Reads, key_cmp}
use Rattle.px_cells.specs.Rows.{AreRows, IsBeforeEnd}
use Rattle.px_cells.proofs.Among.{ascending_left, has_append, has_from_reads, has_right, reads_from_has, reads_left}
use Rattle.px_memstore.specs.Pieces.{AreFirstRows}
use Rattle.px_reads.specs.inner.Ends.{EndsBehind, lesser_end}
use Rattle.px_reads.specs.Range.{AllWithin, next_key}
use Rattle.px_reads.proofs.KeyOrder.{equal, higher, key_trans, keys_by, less_next, lower}

-- what is before the lesser of two ends is before both
lesser_both : (x y k : List ℕ) → IsBeforeEnd k (lesser_end (Some x) (Some y)) → (key_cmp k x ≡ Less) × (key_cmp k y ≡ Less)
lesser_both x y k before = elim (keys_by x y) [
  | lower l ↦
      (let at : key_cmp k x ≡ Less = subst (λ (b : Bool). IsBeforeEnd k (if b then Some x else Some y)) (ap is_lt l) before in
      (at, key_trans k x y at l))
  | equal e ↦ same (is_lt (key_cmp x y)) e before
  | higher l ↦ other (key_cmp x y) refl l before
]
  where
    same : (b : Bool) → x ≡ y → IsBeforeEnd k (if b then Some x else Some y) → (key_cmp k x ≡ Less) × (key_cmp k y ≡ Less)
    same true e at = (at, subst (λ (z : List ℕ). key_cmp k z ≡ Less) e at)
    same false e at = (subst (λ (z : List ℕ). key_cmp k z ≡ Less) (sym e) at, at)

    other : (o : Ordering) → key_cmp x y ≡ o → key_cmp y x ≡ Less → IsBeforeEnd k (if is_lt o then Some x else Some y) → (key_cmp k x ≡ Less) × (key_cmp k y ≡ Less)
    other Less e l at = (at, key_trans k x y at e)
    other Equal e l at = (key_trans k y x at l, at)
    other Greater e l at = (key_trans k y x at l, at)

pub before_first : (a b : Option (List ℕ)) (k : List ℕ) → IsBeforeEnd k (lesser_end a b) → IsBeforeEnd k a
before_first None b k at = tt
before_first (Some x) None k at = at
before_first (Some x) (Some y) k at = (lesser_both x y k at).0

pub before_second : (a b : Option (List ℕ)) (k : List ℕ) → IsBeforeEnd k (lesser_end a b) → IsBeforeEnd k b
before_second a None k at = tt
before_second None (Some y) k at = at
before_second (Some x) (Some y) k at = (lesser_both x y k at).1

-- What the first rows of a list have below an end is what the list has, where they are all, or the end isn't behind theirs.
module _ (cells : List CellData) (low : List ℕ) (high : Option (List ℕ)) (first : List CellData) (is_all : Bool) (are : AreFirstRows cells low high first is_all) (own : Option (List ℕ)) (ends : EndsBehind first is_all own) where
  first_ascending : IsAscending first
  first_ascending = ascending_left first are.others are.rows.ascending

  -- a cell of the others isn't below their end
  behind : (c : CellData) → Has are.others c → IsBeforeEnd c.key own → ⊥
  behind c has before = by is_all refl
    where
      by : (b : Bool) → is_all ≡ b → ⊥
      by true all = subst (λ (l : List CellData). Has l c) (are.all all) has
      by false some =
          let e : EndsBehind first false own = subst (λ (b : Bool). EndsBehind first b own) some ends in
          let last : Has first e.1 = subst (λ (l : List CellData). Has l e.1) (sym e.2) (has_right e.0 (e.1 ∷ []) e.1 (inl refl)) in
          less_next c.key e.1.key (subst (IsBeforeEnd c.key) e.3 before) (are.apart e.1 c last has)

  pub rows_of_first : (end : Option (List ℕ)) (rows : List CellData) → ((k : List ℕ) → IsBeforeEnd k end → IsBeforeEnd k own × IsBeforeEnd k high) → AreRows first low end rows → AreRows cells low end rows
  rows_of_first end rows lesser part = record {
    ascending = part.ascending;
    exact = λ c. (
      λ r. (let z = (part.exact c).0 r in (((are.rows.exact c).0 (reads_left first are.others c z.0)).0, z.1)),
      λ z.
          (let all = has_from_reads (first ++ are.others) c ((are.rows.exact c).1 (z.0, (z.1.0, (lesser c.key z.1.1).1))) in
          (part.exact c).1 (
            (elim (has_append first are.others c all) as (λ _. Reads first c) [
              | inl there ↦ reads_from_has first c first_ascending there
              | inr there ↦ absurd (behind c there (lesser c.key z.1.1).0)
            ]),
            z.1,
          )),
    );
  }

-- ---- a cell before the end

-- what is before two ends is before the lesser
pub before_lesser : (a b : Option (List ℕ)) (k : List ℕ) → IsBeforeEnd k a → IsBeforeEnd k b → IsBeforeEnd k (lesser_end a b)
before_lesser None None k first second = tt
before_lesser None (Some y) k first second = second
before_lesser (Some x) None k first second = first
before_lesser (Some x) (Some y) k first second = by (is_lt (key_cmp x y))
  where
    by : (b : Bool) → IsBeforeEnd k (if b then Some x else Some y)
    by true = first
    by false = second

-- no end before another is that one
pub lesser_none : (high : Option (List ℕ)) → lesser_end None high ≡ high
lesser_none None = refl
lesser_none (Some y) = refl

-- first rows that aren't all have a last cell, whose key is before their end
pub record Ending (first : List CellData) (own : Option (List ℕ)) : Type 0 where
  pub last : CellData
  pub has : Has first last
  pub own_is : own ≡ Some (next_key last.key)

pub ending : (first : List CellData) (is_all : Bool) (own : Option (List ℕ)) → is_all ≡ false → EndsBehind first is_all own → Ending first own
ending first true own is ends = cc
ending first false own is ends = record {
  last = ends.1;
  has = subst (λ (l : List CellData). Has l ends.1) (sym ends.2) (has_right ends.0 (ends.1 ∷ []) ends.1 (inl refl));
  own_is = ends.3;
}

pub no_ending : (first : List CellData) (is_all : Bool) (own : Option (List ℕ)) → is_all ≡ true → EndsBehind first is_all own → own ≡ None
no_ending first true own is ends = ends
no_ending first false own is ends = cc

-- the end of several
pub end_of_both : (end both newer older a b high : Option (List ℕ)) → end ≡ lesser_end both high → both ≡ lesser_end newer older → newer ≡ a → older ≡ b → end ≡ lesser_end (lesser_end a b) high
end_of_both end both newer older a b high one two three four = cc

-- cells of a range are of one that ends later
pub within_later : (low : List ℕ) (end other high : Option (List ℕ)) (cells : List CellData) → end ≡ lesser_end other high → AllWithin low end cells → AllWithin low high cells
within_later low end other high [] is each = tt
within_later low end other high (c ∷ cells) is each = ((each.0.0, before_second other high c.key (subst (IsBeforeEnd c.key) is each.0.1)), within_later low end other high cells is each.1)
