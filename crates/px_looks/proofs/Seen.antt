-- What a point sees of the cells of a key.
use Rattle.std.proofs.Common.{◌≡◌, ℕ, zero, suc, ◌<◌, Bool, true, false, cond, Option, Some, None, List, [], ◌∷◌, length, get_or, map, refl, ap, sym, subst, ◌∙◌, inl, inr, arith}
use Rattle.std.specs.Prelude.{drop, nat_eq}
use Rattle.std.specs.List.{find}
use Rattle.std.proofs.lemmas.Bool.{cases_Bool, cond-true, cond-false, eq-eqb, eqb-true, both_ways}
use Rattle.px_cells.specs.declared.kind.CellKind.{CellKind}
use Rattle.px_cells.specs.declared.kind.CellKind.TheVariants.{Put, Delete}
use Rattle.px_cells.specs.Among.{Has}
use Rattle.px_cells.specs.CellData.{CellData}
use Rattle.px_cells.specs.Contents.{cell_of, value_at}
use Rattle.px_cells.specs.Order.{IsCellList, Reads}
use Rattle.px_cells.specs.Sight.{IsPlainRegion}
use Rattle.px_cells.specs.Visible.{IsView}
use Rattle.px_cells.proofs.Among.{all_has, has_from_reads, reads_from_has}
use Rattle.px_cells.proofs.Contents.{reads_from_value, value_from_reads}
use Rattle.px_cells.proofs.NewestSeen.{visible_from, visible_to}
use Rattle.px_rows.specs.inner.Found.{AreOf}
use Rattle.px_world.specs.World.{read_at}
use Rattle.px_looks.specs.declared.version.KeyVersion.{KeyVersion}
use Rattle.px_looks.specs.Found.{RowContents, at_key}
use Rattle.px_looks.specs.Versions.{HasNoDelete, is_verified, stamp_seen, value_seen, version_at, version_of_stamp}
use Rattle.px_looks.specs.inner.Seen.{AreSeen, cell_in, value_if, value_in}

-- ---- the first that passes

pub find_step : {X : Type 0} (p : X → Bool) (xs : List X) (i : ℕ) (x : X) → i < length xs → x ≡ get_or xs i x → find p (drop i xs) ≡ cond (p x) (Some x) (find p (drop (suc i) xs))
find_step p [] i x lt is = absurd (omega arith)
find_step p (y ∷ xs) zero x lt is = ap (λ z. cond (p z) (Some z) (find p xs)) (sym is)
find_step p (y ∷ xs) (suc i) x lt is = find_step p xs i x (omega arith) is

found_has : (p : CellData → Bool) (xs : List CellData) (x : CellData) → find p xs ≡ Some x → Has xs x × (p x ≡ true)
found_has p [] x e = absurd (let z : None ≡ Some x = e in cc)
found_has p (y ∷ xs) x e = elim (cases_Bool (p y)) [
  | inl h ↦ (let z : Some y ≡ Some x = sym (cond-true _ _ _ h) ∙ e in let w : y ≡ x = cc in (inl w, subst (λ c. p c ≡ true) w h))
  | inr h ↦ (let z = found_has p xs x (sym (cond-false _ _ _ h) ∙ e) in (inr z.0, z.1))
]

found_none : (p : CellData → Bool) (xs : List CellData) (x : CellData) → find p xs ≡ None → Has xs x → p x ≡ false
found_none p [] x e has = absurd has
found_none p (y ∷ xs) x e (inl is) = elim (cases_Bool (p y)) [
  | inl h ↦ absurd (let z : Some y ≡ None = sym (cond-true _ _ _ h) ∙ e in cc)
  | inr h ↦ subst (λ c. p c ≡ false) is h
]
found_none p (y ∷ xs) x e (inr more) = elim (cases_Bool (p y)) [
  | inl h ↦ absurd (let z : Some y ≡ None = sym (cond-true _ _ _ h) ∙ e in cc)
  | inr h ↦ found_none p xs x (sym (cond-false _ _ _ h) ∙ e) more
]

none_if : {A : Type 0} (o : Option A) → ((x : A) → o ≡ Some x → ⊥) → o ≡ None
none_if None f = refl
none_if (Some x) f = absurd (f x refl)

-- ---- the view of a key's cells

pub region_bare : (cells : List CellData) (k : List ℕ) → IsPlainRegion cells → HasNoDelete (at_key (value_at cells) k)
region_bare cells k plain q s = none_if (value_at cells k q s Delete) (λ v e. plain.no_delete (cell_of k q s Delete v) (reads_from_value cells k q s Delete v e) refl)

module _ (cells : List CellData) (list : IsCellList cells) (k : List ℕ) (own : AreOf k cells) (none : HasNoDelete (at_key (value_at cells) k)) where
  key_is : (c : CellData) → Reads cells c → c.key ≡ k
  key_is c r = all_has (λ x. x.key ≡ k) cells c own (has_from_reads cells c r)

  stands : (c : CellData) → Reads cells c → value_at cells k c.qualifier c.stamp c.kind ≡ Some c.value
  stands c r = subst (λ (x : List ℕ). value_at cells x c.qualifier c.stamp c.kind ≡ Some c.value) (key_is c r) (value_from_reads cells c.key c.qualifier c.stamp c.kind c.value r)

  plain : IsPlainRegion cells
  plain = record {
    placed = λ c r. all_has _ cells c list.placed (has_from_reads cells c r);
    no_delete = λ c r e. (let z : value_at cells k c.qualifier c.stamp Delete ≡ Some c.value = subst (λ (d : CellKind). value_at cells k c.qualifier c.stamp d ≡ Some c.value) e (stands c r) in let w : None ≡ Some c.value = sym (none c.qualifier c.stamp) ∙ z in cc);
  }

  pub view_seen : (p : ℕ) (seen : List CellData) → IsView cells p seen → AreSeen (at_key (value_at cells) k) p seen
  view_seen p seen view = record {
    each = λ c has. (let v = (view.exact c).0 (reads_from_has seen c view.ascending has) in
        let r = v.live.among in
        (visible_to cells plain p k c.qualifier c (key_is c r) refl v, subst (λ (d : CellKind). value_at cells k c.qualifier c.stamp d ≡ Some c.value) v.live.put (stands c r)));
    whole = λ q s e. (let z = visible_from cells plain p k q s e in
        let c = cell_of k q s Put z.0 in
        (c, has_from_reads seen c ((view.exact c).1 z.1.1), refl));
  }

-- ---- what is found in it

module _ (h : RowContents) (p : ℕ) (seen : List CellData) (are : AreSeen h p seen) where
  -- a column without a cell
  pub unseen : (q : ℕ) → cell_in seen q ≡ None → stamp_seen h q p ≡ None
  unseen q e = none_if (stamp_seen h q p) (λ s is. (let z = are.whole q s is in both_ways _ (found_none (λ c. nat_eq c.qualifier q) seen z.0 e z.1) (eq-eqb _ _ z.2)))

  -- the cell of a column
  module _ (q : ℕ) (c : CellData) (e : cell_in seen q ≡ Some c) where
    there : Has seen c × (c.qualifier ≡ q)
    there = (let z = found_has (λ c. nat_eq c.qualifier q) seen c e in (z.0, eqb-true _ _ z.1))

    pub stamp_there : stamp_seen h q p ≡ Some c.stamp
    stamp_there = subst (λ (x : ℕ). stamp_seen h x p ≡ Some c.stamp) there.1 (are.each c there.0).0

    pub put_there : h q c.stamp Put ≡ Some c.value
    put_there = subst (λ (x : ℕ). h x c.stamp Put ≡ Some c.value) there.1 (are.each c there.0).1

  pub value_is : (q : ℕ) → value_in seen q ≡ value_seen h q p
  value_is q = by (cell_in seen q) refl
    where
      by : (o : Option CellData) → cell_in seen q ≡ o → value_if o ≡ value_seen h q p
      by None e = sym (ap (read_at (λ s. h q s Put)) (unseen q e))
      by (Some c) e = sym (ap (read_at (λ s. h q s Put)) (stamp_there q c e) ∙ put_there q c e)

  module _ (columns : List ℕ) where
    pub version_none : cell_in seen 1 ≡ None → None ≡ version_at h columns p
    version_none e = sym (ap (version_of_stamp h columns p) (unseen 1 e))

    pub version_some : (c : CellData) → cell_in seen 1 ≡ Some c → (v : KeyVersion) → v.stamp ≡ c.stamp → v.verified ≡ is_verified (Some c.value) → v.values ≡ map (λ x. value_in seen (suc (suc x))) columns → Some v ≡ version_at h columns p
    version_some c e v stamp verified values = sym (ap (version_of_stamp h columns p) (stamp_there 1 c e) ∙ (λ i. Some (record {
      stamp = sym stamp i;
      verified = (ap is_verified (put_there 1 c e) ∙ sym verified) i;
      values = (ap (λ (f : ℕ → Option (List ℕ)). map f columns) (λ j x. sym (value_is (suc (suc x))) j) ∙ sym values) i;
    })))
