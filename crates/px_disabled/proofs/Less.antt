-- What the trail tells of a table of which an index is disabled.
use Rattle.std.proofs.Common.{◌≡◌, ◌≢◌, ℕ, Bool, true, false, ◌&&◌, ◌==◌, if◌then◌else◌, inl, inr, Option, Some, None, List, [], ◌∷◌, ◌++◌, slice_get, refl, ap, sym, ◌∙◌, subst}
use Rattle.std.specs.Prelude.{max, not}
use Rattle.std.proofs.lemmas.Bool.{cases_eq, eq-eqb, ne_eqb}
use Rattle.px_values.specs.declared.name.IndexId.{IndexId}
use Rattle.px_tables.specs.declared.index.Index.{Index}
use Rattle.px_tables.specs.declared.index.IndexState.TheVariants.{Disabled}
use Rattle.px_trail.specs.declared.entry.Act.{Act}
use Rattle.px_trail.specs.declared.entry.Act.TheVariants.{IndexState}
use Rattle.px_trail.specs.declared.entry.Entry.{Entry}
use Rattle.px_trail.specs.Trail.{Base, Catalogue, catalogue_of, catalogue_step, index_of, last_of, last_step, points_step, table_of, with_state}
use Rattle.px_trail.proofs.Growth.{catalogue-snoc, last-snoc}
use Rattle.px_indexed.specs.Idle.{IsElsewhere}
use Rattle.px_openbatches.specs.Pending.{HeldBatch}
use Rattle.px_group.specs.Group.{AreStanding, IsTallied}
use Rattle.px_group.specs.declared.group.Group.{Group}
use Rattle.px_group.specs.declared.group.IndexRegion.{IndexRegion}
use Rattle.px_defined.specs.Defined.{HasIndexLess}
use Rattle.px_defined.proofs.Lists.{from_filter, to_filter}
use Rattle.px_defined.proofs.Going.{if_false, if_true, owner_by, points_by, table_by, tallied_on}

-- an index that comes into the state has it
disabled_is : (s n : ℕ) (o : Option Index) (y : Index) → with_state Disabled s n o ≡ Some y → y.state ≡ Disabled
disabled_is s n None y q = cc
disabled_is s n (Some x) y q = (let z : record x { state = Disabled } ≡ y = cc in ap (λ (w : Index). w.state) (sym z))

module _ (b : Base) (es : List Entry) (e : Entry) (g g' : Group) (id : IndexId) (hs : List HeldBatch) (k : IsTallied b es g hs) (h : HasIndexLess g g' id.0) (s : ℕ) (is : e.act ≡ IndexState g.table.id id Disabled s) where
  abbrev c : Catalogue
  c = catalogue_of b es

  abbrev t : ℕ
  t = g.table.id.0

  abbrev keep : IndexRegion → Bool
  keep x = not (x.index.id.0 == id.0)

  elsewhere : IsElsewhere g.table.id e.act
  elsewhere = subst (λ (a : Act). IsElsewhere g.table.id a) (sym is) tt

  now_is : catalogue_of b (es ++ e ∷ []) ≡ catalogue_step c (IndexState g.table.id id Disabled s)
  now_is = catalogue-snoc b es e ∙ ap (catalogue_step c) is

  tables_now : table_of b (es ++ e ∷ []) t ≡ table_of b es t
  unfolding catalogue_step
  tables_now = λ j. (now_is j).tables t

  index_now : (m : ℕ) → index_of b (es ++ e ∷ []) m ≡ (if id.0 == m then with_state Disabled s c.next (c.indexes id.0) else c.indexes m)
  unfolding catalogue_step
  index_now m = λ j. (now_is j).indexes m

  index_here : (m : ℕ) → id.0 ≡ m → index_of b (es ++ e ∷ []) m ≡ with_state Disabled s c.next (c.indexes id.0)
  index_here m q = index_now m ∙ if_true (id.0 == m) (with_state Disabled s c.next (c.indexes id.0)) (c.indexes m) (eq-eqb id.0 m q)

  index_there : (m : ℕ) → id.0 ≢ m → index_of b (es ++ e ∷ []) m ≡ index_of b es m
  index_there m q = index_now m ∙ if_false (id.0 == m) (with_state Disabled s c.next (c.indexes id.0)) (c.indexes m) (ne_eqb id.0 m q)

  last_now : last_of b t (es ++ e ∷ []) ≡ last_of b t es
  last_now = last-snoc b t es e ∙ (ap (last_step t (last_of b t es)) is ∙ if_false ((t == t) && false) (max (last_of b t es) s) (last_of b t es) (and_last (t == t)))
    where
      and_last : (v : Bool) → (v && false) ≡ false
      and_last true = refl
      and_last false = refl

  kept_other : (x : IndexRegion) → keep x ≡ true → id.0 ≢ x.index.id.0
  kept_other x q = λ same. (let z : true ≡ false = sym q ∙ ap not (eq-eqb x.index.id.0 id.0 (sym same)) in cc)

  standing : AreStanding b (es ++ e ∷ []) g'
  standing = record {
    table = table_by b es e g g' hs k h.beside elsewhere tables_now;
    index = λ j x at. (let w = from_filter keep g.indexes.items j x (sym (ap (λ (l : List IndexRegion). slice_get l j) h.indexes) ∙ at) in index_there x.index.id.0 (kept_other x w.1.1) ∙ k.standing.index w.0 x w.1.0);
    all = λ y q own state. elim (cases_eq id.0 y.id.0) [
      | inl here ↦ absurd (state (disabled_is s c.next (c.indexes id.0) y (sym (index_here y.id.0 here) ∙ q)))
      | inr there ↦
          (let w = k.standing.all y (sym (index_there y.id.0 there) ∙ q) (owner_by b es e g g' hs k h.beside elsewhere y own) state in
          let kept : keep w.1.0 ≡ true = ap not (ne_eqb w.1.0.index.id.0 id.0 (λ z. there (sym z ∙ ap (λ (x : Index). x.id.0) w.1.1.1))) in
          let z = to_filter keep g.indexes.items w.0 w.1.0 w.1.1.0 kept in
          (z.0, (w.1.0, (ap (λ (l : List IndexRegion). slice_get l z.0) h.indexes ∙ z.1, w.1.1.1))))
    ];
  }

  pub tallied_disabled : IsTallied b (es ++ e ∷ []) g' hs
  unfolding points_step
  tallied_disabled = tallied_on b es e g g' hs k h.beside elsewhere standing (last_now ∙ (k.last ∙ sym h.last))
      (points_by b es e g g' hs k h.beside elsewhere (IndexState g.table.id id Disabled s) is (λ seat u n by. refl))
