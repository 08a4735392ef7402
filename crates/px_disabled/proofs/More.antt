-- What the trail tells of a table of which an index is built again.
use Rattle.std.proofs.Common.{◌≡◌, ◌≢◌, ℕ, ◌<◌, Bool, true, false, ◌&&◌, ◌==◌, if◌then◌else◌, inl, inr, Some, List, [], ◌∷◌, ◌++◌, length, slice_get, refl, ap, sym, ◌∙◌, subst, arith}
use Rattle.std.specs.Prelude.{filter, max, not}
use Rattle.std.proofs.lemmas.Bool.{cases_eq, eq-eqb, ne_eqb}
use Rattle.px_tables.specs.declared.index.Index.{Index}
use Rattle.px_tables.specs.declared.index.IndexState.TheVariants.{Building}
use Rattle.px_trail.specs.declared.entry.Act.{Act}
use Rattle.px_trail.specs.declared.entry.Act.TheVariants.{IndexState}
use Rattle.px_trail.specs.declared.entry.Entry.{Entry}
use Rattle.px_trail.specs.Legal.{Follows, MayCome, MayState}
use Rattle.px_trail.specs.Trail.{Base, Catalogue, catalogue_of, catalogue_step, index_of, last_of, last_step, points_step, table_of, with_state}
use Rattle.px_trail.proofs.Growth.{catalogue-snoc, last-snoc}
use Rattle.px_indexed.specs.Idle.{IsElsewhere}
use Rattle.px_openbatches.specs.Pending.{HeldBatch}
use Rattle.px_group.specs.Group.{AreStanding, IsTallied}
use Rattle.px_group.specs.declared.group.Group.{Group}
use Rattle.px_group.specs.declared.group.IndexRegion.{IndexRegion}
use Rattle.px_defined.specs.Defined.{HasIndexLess, HasIndexMore, IsSameBeside}
use Rattle.px_defined.proofs.Lists.{end_cases, end_here, end_other, from_filter, to_filter}
use Rattle.px_defined.proofs.Going.{if_false, if_true, owner_by, points_by, table_by, tallied_on}
use Rattle.px_disabled.specs.Disabled.{rebuilt}

-- ---- the entry

module _ (b : Base) (es : List Entry) (e : Entry) (may : MayCome b es e) (g : Group) (x : Index) (s : ℕ) (is : e.act ≡ IndexState g.table.id x.id Building s) where
  follows : Follows b es e.seat e.calls (IndexState g.table.id x.id Building s)
  follows = subst (λ (a : Act). Follows b es e.seat e.calls a) is may.follows

  pub stamp_is_new : last_of b g.table.id.0 es < s
  unfolding Follows MayState
  stamp_is_new = follows.1.0

  pub last_is : last_of b g.table.id.0 (es ++ e ∷ []) ≡ s
  last_is = last-snoc b g.table.id.0 es e ∙ (ap (last_step g.table.id.0 (last_of b g.table.id.0 es)) is ∙ (if_true ((g.table.id.0 == g.table.id.0) && true) (max (last_of b g.table.id.0 es) s) (last_of b g.table.id.0 es) (drawn (g.table.id.0 == g.table.id.0) (eq-eqb g.table.id.0 g.table.id.0 refl)) ∙ (let l = stamp_is_new in omega (arith, l))))
    where
      drawn : (v : Bool) → v ≡ true → (v && true) ≡ true
      drawn v q = ap (λ (w : Bool). w && true) q

-- ---- the table: it lets the index go, if it has it, and gets it anew

module _ (b : Base) (es : List Entry) (e : Entry) (may : MayCome b es e) (g h g' : Group) (x : Index) (hs : List HeldBatch) (k : IsTallied b es g hs) (stood : index_of b es x.id.0 ≡ Some x) (less : HasIndexLess g h x.id.0)
    (s : ℕ) (more : HasIndexMore h g' (rebuilt s (catalogue_of b es).next x)) (is : e.act ≡ IndexState g.table.id x.id Building s) where
  abbrev c : Catalogue
  c = catalogue_of b es

  abbrev t : ℕ
  t = g.table.id.0

  abbrev n : ℕ
  n = x.id.0

  abbrev made : Index
  made = rebuilt s c.next x

  elsewhere : IsElsewhere g.table.id e.act
  elsewhere = subst (λ (a : Act). IsElsewhere g.table.id a) (sym is) tt

  now_is : catalogue_of b (es ++ e ∷ []) ≡ catalogue_step c (IndexState g.table.id x.id Building s)
  now_is = catalogue-snoc b es e ∙ ap (catalogue_step c) is

  tables_now : table_of b (es ++ e ∷ []) t ≡ table_of b es t
  unfolding catalogue_step
  tables_now = λ j. (now_is j).tables t

  index_now : (m : ℕ) → index_of b (es ++ e ∷ []) m ≡ (if n == m then with_state Building s c.next (c.indexes n) else c.indexes m)
  unfolding catalogue_step
  index_now m = λ j. (now_is j).indexes m

  index_here : (m : ℕ) → n ≡ m → index_of b (es ++ e ∷ []) m ≡ Some made
  index_here m q = index_now m ∙ (if_true (n == m) (with_state Building s c.next (c.indexes n)) (c.indexes m) (eq-eqb n m q) ∙ ap (with_state Building s c.next) stood)

  index_there : (m : ℕ) → n ≢ m → index_of b (es ++ e ∷ []) m ≡ index_of b es m
  index_there m q = index_now m ∙ if_false (n == m) (with_state Building s c.next (c.indexes n)) (c.indexes m) (ne_eqb n m q)

  beside : IsSameBeside g g'
  beside = record { table = more.beside.table ∙ less.beside.table; rows = more.beside.rows ∙ less.beside.rows; batches = more.beside.batches ∙ less.beside.batches; points = more.beside.points ∙ less.beside.points; horizon = more.beside.horizon ∙ less.beside.horizon }

  abbrev keep : IndexRegion → Bool
  keep z = not (z.index.id.0 == n)

  abbrev others : List IndexRegion
  others = filter keep g.indexes.items

  now_items : g'.indexes.items ≡ others ++ more.new ∷ []
  now_items = more.indexes ∙ ap (λ (l : List IndexRegion). l ++ more.new ∷ []) less.indexes

  kept_other : (z : IndexRegion) → keep z ≡ true → n ≢ z.index.id.0
  kept_other z q = λ same. (let w : true ≡ false = sym q ∙ ap not (eq-eqb z.index.id.0 n (sym same)) in cc)

  standing : AreStanding b (es ++ e ∷ []) g'
  standing = record {
    table = table_by b es e g g' hs k beside elsewhere tables_now;
    index = λ j z at. elim (end_cases others more.new j z (sym (ap (λ (l : List IndexRegion). slice_get l j) now_items) ∙ at)) [
      | inl old ↦ (let w = from_filter keep g.indexes.items j z old in index_there z.index.id.0 (kept_other z w.1.1) ∙ k.standing.index w.0 z w.1.0)
      | inr new ↦ (let q : z.index ≡ made = ap (λ (w : IndexRegion). w.index) new.1 ∙ more.index in subst (λ (w : Index). index_of b (es ++ e ∷ []) w.id.0 ≡ Some w) (sym q) (index_here n refl))
    ];
    all = λ y q own state. elim (cases_eq n y.id.0) [
      | inl here ↦
          (let same : made ≡ y = (let z : Some made ≡ Some y = sym (index_here y.id.0 here) ∙ q in cc) in
          (length others, (more.new, (ap (λ (l : List IndexRegion). slice_get l (length others)) now_items ∙ end_here others more.new, more.index ∙ same))))
      | inr there ↦
          (let w = k.standing.all y (sym (index_there y.id.0 there) ∙ q) (owner_by b es e g g' hs k beside elsewhere y own) state in
          let kept : keep w.1.0 ≡ true = ap not (ne_eqb w.1.0.index.id.0 n (λ z. there (sym z ∙ ap (λ (i : Index). i.id.0) w.1.1.1))) in
          let z = to_filter keep g.indexes.items w.0 w.1.0 w.1.1.0 kept in
          (z.0, (w.1.0, (ap (λ (l : List IndexRegion). slice_get l z.0) now_items ∙ end_other others more.new z.0 w.1.0 z.1, w.1.1.1))))
    ];
  }

  pub tallied_rebuilt : IsTallied b (es ++ e ∷ []) g' hs
  unfolding points_step
  tallied_rebuilt = tallied_on b es e g g' hs k beside elsewhere standing (last_is b es e may g x s is ∙ sym more.last)
      (points_by b es e g g' hs k beside elsewhere (IndexState g.table.id x.id Building s) is (λ seat u m by. refl))
