-- What stands: numbers are never used again, so tables keep their shapes. And others' entries leave a seat's points.
use Rattle.std.proofs.Common.{ℕ, ◌≡◌, ◌≢◌, ◌<◌, ◌≤◌, ◌+◌, ◌-◌, ◌==◌, ◌&&◌, if◌then◌else◌, length, Bool, true, false, Option, None, Some, List, [], ◌∷◌, ◌++◌, refl, sym, ◌∙◌, ap, subst, arith, append_assoc, ◌⊎◌, inl, inr}
use Rattle.std.specs.Prelude.{IsSome}
use Rattle.std.proofs.lemmas.Bool.{cases_eq, eq-eqb, ne_eqb}
use Rattle.std.proofs.lemmas.Bool.Decides.{Decides-eqb}
use Rattle.std.proofs.lemmas.List.{append-nil}
use Rattle.px_values.specs.States.{Shape}
use Rattle.px_tables.specs.declared.table.Table.{Table}
use Rattle.px_tables.specs.declared.table.NewTable.{NewTable}
use Rattle.px_tables.specs.declared.index.Index.{Index}
use Rattle.px_tables.specs.declared.index.IndexState.{IndexState as BuildState}
use Rattle.px_tables.specs.declared.index.IndexState.TheVariants.{Building, Active, Disabled}
use Rattle.px_trail.specs.declared.entry.Act.{Act}
use Rattle.px_trail.specs.declared.entry.Act.TheVariants.{Made, IndexMade, IndexState, Dropped, Opened, Released}
use Rattle.px_trail.specs.declared.entry.Entry.{Entry}
use Rattle.px_trail.specs.Trail.{Base, Catalogue, IsCatalogue, acts_by, base_catalogue, catalogue_from, catalogue_of, catalogue_step, made_index, made_table, new_shape, no_shape, numbers_for, of_others, open_points, points_step, set_number, shape_of, shape_step, table_of, table_shape, base_shape, with_state}
use Rattle.px_trail.specs.Legal.{Follows, IsLegal, IsOf, MayCome}
use Rattle.px_trail.proofs.Growth.{acts_by-none, catalogue-snoc, legal-induct, points-snoc, shape-snoc}

-- 1. Functions of numbers

pub set_number-same : {A : Type 0} (n : ℕ) (v : A) (f : ℕ → A) → set_number n v f n ≡ v
set_number-same n v f = ap (λ (c : Bool). if c then v else f n) (eq-eqb n n refl)

pub set_number-other : {A : Type 0} (n : ℕ) (v : A) (f : ℕ → A) (m : ℕ) → (n ≡ m → ⊥) → set_number n v f m ≡ f m
set_number-other n v f m apart = ap (λ (c : Bool). if c then v else f m) (ne_eqb n m apart)

some_table : {x y : Table} → Some x ≡ Some y → x ≡ y
some_table h = cc

some_index : {x y : Index} → Some x ≡ Some y → x ≡ y
some_index h = cc

-- 2. The catalogue

module _ (c : Catalogue) (k : IsCatalogue c) where
  -- what was set at a number, or what stood there
  set_table : (n : ℕ) (o : Option Table) (t : ℕ) (x : Table) → set_number n o c.tables t ≡ Some x → ((n ≡ t) × (o ≡ Some x)) ⊎ (c.tables t ≡ Some x)
  set_table n o t x h = elim (cases_eq n t) [
    | inl e ↦ inl (e, sym (ap (λ (m : ℕ). set_number n o c.tables m) (sym e) ∙ set_number-same n o c.tables) ∙ h)
    | inr e ↦ inr (sym (set_number-other n o c.tables t e) ∙ h)
  ]

  set_index : (n : ℕ) (o : Option Index) (i : ℕ) (x : Index) → set_number n o c.indexes i ≡ Some x → ((n ≡ i) × (o ≡ Some x)) ⊎ (c.indexes i ≡ Some x)
  set_index n o i x h = elim (cases_eq n i) [
    | inl e ↦ inl (e, sym (ap (λ (m : ℕ). set_number n o c.indexes m) (sym e) ∙ set_number-same n o c.indexes) ∙ h)
    | inr e ↦ inr (sym (set_number-other n o c.indexes i e) ∙ h)
  ]

  made_catalogue : (t : ℕ) (o : Table) (n : ℕ) → o.id.0 ≡ t → t < n → c.next ≤ n → c.next ≤ t → IsCatalogue (record c { tables = set_number t (Some o) c.tables; next = n })
  made_catalogue t o n id below more new = record {
    tables = λ u x h. elim (set_table t (Some o) u x h) [
      | inl e ↦ (let q : o ≡ x = some_table e.1 in let i : x.id.0 ≡ t = ap (λ (y : Table). y.id.0) (sym q) ∙ id in (i ∙ e.0, let z = e.0 in omega arith))
      | inr e ↦ (let z = k.tables u x e in (z.0, let l = z.1 in omega arith))
    ];
    indexes = λ i x h. (let z = k.indexes i x h in (z.0, let l = z.1 in omega arith));
    owners = λ i x h. (let z = k.owners i x h in let l = (k.tables x.table.0 z.0 z.1).1 in (z.0, set_number-other t (Some o) c.tables x.table.0 (λ e. absurd (omega arith)) ∙ z.1));
  }

  -- an index that is made, or changed without its table
  index_catalogue : (i : ℕ) (o : Option Index) (n : ℕ) → c.next ≤ n → ((x : Index) → o ≡ Some x → (x.id.0 ≡ i) × (i < n) × ((y : Table) × (c.tables x.table.0 ≡ Some y))) → IsCatalogue (record c { indexes = set_number i o c.indexes; next = n })
  index_catalogue i o n more f = record {
    tables = λ u x h. (let z = k.tables u x h in (z.0, let l = z.1 in omega arith));
    indexes = λ j x h. elim (set_index i o j x h) [
      | inl e ↦ (let z = f x e.1 in (z.0 ∙ e.0, let l = z.1 in let q = e.0 in omega arith))
      | inr e ↦ (let z = k.indexes j x e in (z.0, let l = z.1 in omega arith))
    ];
    owners = λ j x h. elim (set_index i o j x h) [ inl e ↦ (f x e.1).2 | inr e ↦ k.owners j x e ];
  }

  of_others-is : (t : ℕ) (o : Option Index) (x : Index) → of_others t o ≡ Some x → (o ≡ Some x) × (x.table.0 ≢ t)
  of_others-is t None x h = cc
  of_others-is t (Some y) x h =
      elim (y.table.0 == t) as (λ v. (y.table.0 == t) ≡ v → (if v then None else Some y) ≡ Some x → (Some y ≡ Some x) × (x.table.0 ≢ t)) [
        | true ↦ λ v q. cc
        | false ↦ λ v q. (q, λ e. (let w : y ≡ x = some_index q in let u : y.table.0 ≡ t = ap (λ (z : Index). z.table.0) w ∙ e in let r = (Decides-eqb y.table.0 t).1 u in cc))
      ] refl h

  drop_catalogue : (t : ℕ) → IsCatalogue (record c { tables = set_number t None c.tables; indexes = λ i. of_others t (c.indexes i) })
  drop_catalogue t = record {
    tables = λ u x h. elim (set_table t None u x h) [ inl e ↦ (let z = e.1 in cc) | inr e ↦ k.tables u x e ];
    indexes = λ i x h. k.indexes i x (of_others-is t (c.indexes i) x h).0;
    owners = λ i x h. (let o = of_others-is t (c.indexes i) x h in let z = k.owners i x o.0 in (z.0, set_number-other t None c.tables x.table.0 (λ e. o.1 (sym e)) ∙ z.1));
  }

  state_index : (state : BuildState) (s n i : ℕ) (o : Option Index) → c.indexes i ≡ o → (x : Index) → with_state state s n o ≡ Some x → (y : Index) × ((c.indexes i ≡ Some y) × (x.id ≡ y.id) × (x.table ≡ y.table))
  state_index state s n i None q x h = cc
  state_index Building s n i (Some y) q x h = (let w = some_index h in (y, (q, ap (λ (z : Index). z.id) (sym w), ap (λ (z : Index). z.table) (sym w))))
  state_index Active s n i (Some y) q x h = (let w = some_index h in (y, (q, ap (λ (z : Index). z.id) (sym w), ap (λ (z : Index). z.table) (sym w))))
  state_index Disabled s n i (Some y) q x h = (let w = some_index h in (y, (q, ap (λ (z : Index). z.id) (sym w), ap (λ (z : Index). z.table) (sym w))))

  state_catalogue : (state : BuildState) (s i n : ℕ) → c.next ≤ n → IsCatalogue (record c { indexes = set_number i (with_state state s c.next (c.indexes i)) c.indexes; next = n })
  state_catalogue state s i n more = index_catalogue i (with_state state s c.next (c.indexes i)) n more (λ x h.
      (let z = state_index state s c.next i (c.indexes i) refl x h in
      let g = k.indexes i z.0 z.1.0 in
      let a = k.owners i z.0 z.1.0 in
      (ap (λ w. w.0) z.1.1 ∙ g.0, (let l = g.1 in omega arith), subst (λ w. (y : Table) × (c.tables w.0 ≡ Some y)) (sym z.1.2) a)))

some_is : {A : Type 0} (o : Option A) → IsSome o → (x : A) × (o ≡ Some x)
some_is None h = cc
some_is (Some x) h = (x, refl)

catalogue_kept : (b : Base) (es : List Entry) (seat calls : ℕ) (act : Act) → Follows b es seat calls act → IsCatalogue (catalogue_of b es) → IsCatalogue (catalogue_step (catalogue_of b es) act)
unfolding catalogue_step Follows
catalogue_kept b es seat calls (Made t what) f k =
    (let n = f.0 in
    made_catalogue (catalogue_of b es) k t.0 (made_table (catalogue_of b es).next t what) ((catalogue_of b es).next + length what.least_keys + 1) refl (omega arith) (omega arith) (omega arith))
catalogue_kept b es seat calls (IndexMade t i s what) f k =
    (let n = f.0 in
    index_catalogue (catalogue_of b es) k i.0 (Some (made_index (catalogue_of b es).next i s what)) ((catalogue_of b es).next + 2) (omega arith) (λ x h.
    (let w = some_index h in
    let o = some_is (table_of b es t.0) f.2 in
    let same : x.table ≡ t = ap (λ (z : Index). z.table) (sym w) ∙ f.3 in
    (ap (λ (z : Index). z.id.0) (sym w), omega arith, (o.0, ap (λ u. (catalogue_of b es).tables u.0) same ∙ o.1)))))
catalogue_kept b es seat calls (IndexState t i state s) f k = state_catalogue (catalogue_of b es) k state s i.0 ((catalogue_of b es).next + numbers_for state) (omega arith)
catalogue_kept b es seat calls (Dropped t None) f k = drop_catalogue (catalogue_of b es) k t.0
catalogue_kept b es seat calls (Dropped t (Some i)) f k = index_catalogue (catalogue_of b es) k i.0 None (catalogue_of b es).next (omega arith) (λ x h. cc)
catalogue_kept b es seat calls act f k = k

-- in a legal trail what stands has its number, below the next one
pub catalogue-stands : (b : Base) (es : List Entry) → IsCatalogue (base_catalogue b) → IsLegal b es → IsCatalogue (catalogue_of b es)
unfolding catalogue_from
catalogue-stands b es k legal =
    legal-induct b (λ l. IsCatalogue (catalogue_of b l))
    (λ l e _ may h. subst IsCatalogue (sym (catalogue-snoc b l e)) (catalogue_kept b l e.seat e.calls e.act may.follows h))
    [] es legal k

-- the next number never falls
next_step-le : (c : Catalogue) (act : Act) → c.next ≤ (catalogue_step c act).next
unfolding catalogue_step
next_step-le c (Made t what) = omega arith
next_step-le c (IndexMade t i s what) = omega arith
next_step-le c (IndexState t i state s) = omega arith
next_step-le c (Dropped t None) = omega arith
next_step-le c (Dropped t (Some i)) = omega arith
next_step-le c act = omega arith

-- 3. Shapes

shape_kept : (b : Base) (es : List Entry) (seat calls t : ℕ) (act : Act) → Follows b es seat calls act → t < (catalogue_of b es).next → shape_step t (shape_of b es t) act ≡ shape_of b es t
unfolding shape_step Follows
shape_kept b es seat calls t (Made t' what) f low = ap (λ (v : Bool). if v then new_shape what else shape_of b es t) (ne_eqb t'.0 t (λ e. absurd (let n = f.0 in omega arith)))
shape_kept b es seat calls t act f low = refl

-- a table whose number was drawn keeps its shape
pub shape-stays : (b : Base) (t : ℕ) (pre more : List Entry) → IsLegal b (pre ++ more) → t < (catalogue_of b pre).next → shape_of b (pre ++ more) t ≡ shape_of b pre t
shape-stays b t pre more legal low =
    let all = legal-induct b (λ l. (shape_of b l t ≡ shape_of b pre t) × (t < (catalogue_of b l).next))
    (λ l e _ may h.
    (let q = catalogue-snoc b l e in let j = next_step-le (catalogue_of b l) e.act in let i = h.1 in
    (shape-snoc b l e t ∙ (shape_kept b l e.seat e.calls t e.act may.follows h.1 ∙ h.0), subst (λ (c : Catalogue). t < c.next) (sym q) (omega arith))))
    pre more legal (refl, low) in
    all.0

-- 4. Points

points_step-other : (seat t s n seat' : ℕ) (act : Act) → seat' ≢ seat → points_step seat t s n seat' act ≡ n
unfolding points_step
points_step-other seat t s n seat' (Opened t' s' scn) h = ap (λ (v : Bool). if v && ((t'.0 == t) && (s' == s)) then n + 1 else n) (ne_eqb seat' seat h)
points_step-other seat t s n seat' (Released t' s') h = ap (λ (v : Bool). if v && ((t'.0 == t) && (s' == s)) then n - 1 else n) (ne_eqb seat' seat h)
points_step-other seat t s n seat' act h = refl

-- others' entries leave a seat's points
pub points-kept : (seat t s : ℕ) (es others : List Entry) → acts_by seat others ≡ [] → open_points seat t s (es ++ others) ≡ open_points seat t s es
points-kept seat t s es [] none = ap (λ (l : List Entry). open_points seat t s l) (append-nil es)
points-kept seat t s es (e ∷ others) none =
    let apart = acts_by-none seat e others none in
    ap (λ (l : List Entry). open_points seat t s l) (sym (append_assoc es (e ∷ []) others))
    ∙ (points-kept seat t s (es ++ e ∷ []) others apart.1
    ∙ (points-snoc seat t s es e ∙ points_step-other seat t s (open_points seat t s es) e.seat e.act apart.0))
