-- What the trail tells of a table with an index that queries may read.
use Rattle.std.proofs.Common.{◌≡◌, ◌≢◌, ℕ, Bool, true, false, ◌&&◌, ◌==◌, if◌then◌else◌, inl, inr, Some, List, [], ◌∷◌, ◌++◌, slice_get, refl, ap, sym, ◌∙◌, subst}
use Rattle.std.specs.Prelude.{max}
use Rattle.std.proofs.lemmas.Bool.{cases_eq, eq-eqb, ne_eqb}
use Rattle.px_tables.specs.declared.index.Index.{Index}
use Rattle.px_tables.specs.declared.index.IndexState.TheVariants.{Active}
use Rattle.px_trail.specs.declared.entry.Act.{Act}
use Rattle.px_trail.specs.declared.entry.Act.TheVariants.{IndexState}
use Rattle.px_trail.specs.declared.entry.Entry.{Entry}
use Rattle.px_trail.specs.Trail.{Base, Catalogue, catalogue_of, catalogue_step, index_of, last_of, last_step, points_step, table_of, with_state}
use Rattle.px_trail.proofs.Growth.{catalogue-snoc, last-snoc}
use Rattle.px_indexed.specs.Idle.{IsElsewhere}
use Rattle.px_openbatches.specs.Pending.{HeldBatch}
use Rattle.px_group.specs.Group.{AreStanding, IsTallied}
use Rattle.px_group.specs.declared.group.Group.{Group}
use Rattle.px_group.specs.declared.group.IndexRegion.{IndexRegion}
use Rattle.px_defined.specs.Defined.{HasActive, IsOnlyAt, active}
use Rattle.px_defined.proofs.Lists.{same_at, set_cases, set_here, set_other}
use Rattle.px_defined.proofs.Going.{if_false, if_true, owner_by, points_by, table_by, tallied_on}

module _ (b : Base) (es : List Entry) (e : Entry) (g g' : Group) (place : ℕ) (hs : List HeldBatch) (k : IsTallied b es g hs) (h : HasActive g g' place) (only : IsOnlyAt g place) (s : ℕ) (is : e.act ≡ IndexState g.table.id h.index.index.id Active s) where
  abbrev c : Catalogue
  c = catalogue_of b es

  abbrev t : ℕ
  t = g.table.id.0

  abbrev n : ℕ
  n = h.index.index.id.0

  abbrev now : Index
  now = record h.index.index { state = Active }

  elsewhere : IsElsewhere g.table.id e.act
  elsewhere = subst (λ (a : Act). IsElsewhere g.table.id a) (sym is) tt

  now_is : catalogue_of b (es ++ e ∷ []) ≡ catalogue_step c (IndexState g.table.id h.index.index.id Active s)
  now_is = catalogue-snoc b es e ∙ ap (catalogue_step c) is

  tables_now : table_of b (es ++ e ∷ []) t ≡ table_of b es t
  unfolding catalogue_step
  tables_now = λ j. (now_is j).tables t

  index_now : (m : ℕ) → index_of b (es ++ e ∷ []) m ≡ (if n == m then with_state Active s c.next (c.indexes n) else c.indexes m)
  unfolding catalogue_step
  index_now m = λ j. (now_is j).indexes m

  index_here : (m : ℕ) → n ≡ m → index_of b (es ++ e ∷ []) m ≡ Some now
  index_here m q = index_now m ∙ (if_true (n == m) (with_state Active s c.next (c.indexes n)) (c.indexes m) (eq-eqb n m q) ∙ ap (with_state Active s c.next) (k.standing.index place h.index h.is))

  index_there : (m : ℕ) → n ≢ m → index_of b (es ++ e ∷ []) m ≡ index_of b es m
  index_there m q = index_now m ∙ if_false (n == m) (with_state Active s c.next (c.indexes n)) (c.indexes m) (ne_eqb n m q)

  last_now : last_of b t (es ++ e ∷ []) ≡ last_of b t es
  last_now = last-snoc b t es e ∙ (ap (last_step t (last_of b t es)) is ∙ if_false ((t == t) && false) (max (last_of b t es) s) (last_of b t es) (and_last (t == t)))
    where
      and_last : (v : Bool) → (v && false) ≡ false
      and_last true = refl
      and_last false = refl

  standing : AreStanding b (es ++ e ∷ []) g'
  standing = record {
    table = table_by b es e g g' hs k h.beside elsewhere tables_now;
    index = λ j x at. elim (set_cases g.indexes.items place j (active h.index) x (sym (ap (λ (l : List IndexRegion). slice_get l j) h.indexes) ∙ at)) [
      | inl here ↦ subst (λ (w : IndexRegion). index_of b (es ++ e ∷ []) w.index.id.0 ≡ Some w.index) (sym here.1) (index_here n refl)
      | inr there ↦ index_there x.index.id.0 (λ same. there.0 (only.each j place x h.index there.1 h.is refl (sym same))) ∙ k.standing.index j x there.1
    ];
    all = λ y q own state. elim (cases_eq n y.id.0) [
      | inl here ↦
          (let same : now ≡ y = (let z : Some now ≡ Some y = sym (index_here y.id.0 here) ∙ q in cc) in
          (place, (active h.index, (ap (λ (l : List IndexRegion). slice_get l place) h.indexes ∙ set_here g.indexes.items place h.index (active h.index) h.is, same))))
      | inr there ↦
          (let w = k.standing.all y (sym (index_there y.id.0 there) ∙ q) (owner_by b es e g g' hs k h.beside elsewhere y own) state in
          let off : w.0 ≢ place = λ z. there (ap (λ (x : IndexRegion). x.index.id.0) (same_at g.indexes.items place h.index w.1.0 h.is (ap (λ m. slice_get g.indexes.items m) (sym z) ∙ w.1.1.0)) ∙ ap (λ (x : Index). x.id.0) w.1.1.1) in
          (w.0, (w.1.0, (ap (λ (l : List IndexRegion). slice_get l w.0) h.indexes ∙ (set_other g.indexes.items place w.0 (active h.index) off ∙ w.1.1.0), w.1.1.1))))
    ];
  }

  pub tallied_active : IsTallied b (es ++ e ∷ []) g' hs
  unfolding points_step
  tallied_active = tallied_on b es e g g' hs k h.beside elsewhere standing (last_now ∙ (k.last ∙ sym h.last))
      (points_by b es e g g' hs k h.beside elsewhere (IndexState g.table.id h.index.index.id Active s) is (λ seat u n by. refl))
