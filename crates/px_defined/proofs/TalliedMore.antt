-- What the trail tells of a table with an index more.
use Rattle.std.proofs.Common.{◌≡◌, ◌≢◌, ℕ, ◌+◌, ◌<◌, ◌==◌, if◌then◌else◌, inl, inr, Some, List, [], ◌∷◌, ◌++◌, length, slice_get, refl, ap, sym, ◌∙◌, subst, arith}
use Rattle.std.specs.Prelude.{max}
use Rattle.std.proofs.lemmas.Bool.{cases_eq, eq-eqb, ne_eqb}
use Rattle.px_values.specs.declared.name.IndexId.{IndexId}
use Rattle.px_tables.specs.declared.index.Index.{Index}
use Rattle.px_tables.specs.declared.index.NewIndex.{NewIndex}
use Rattle.px_trail.specs.declared.entry.Act.{Act}
use Rattle.px_trail.specs.declared.entry.Act.TheVariants.{IndexMade}
use Rattle.px_trail.specs.declared.entry.Entry.{Entry}
use Rattle.px_trail.specs.Legal.{Follows, IsLegal, MayCome}
use Rattle.px_trail.specs.Trail.{Base, Catalogue, IsRightBase, catalogue_of, catalogue_step, index_of, last_of, last_step, made_index, points_step, table_of}
use Rattle.px_trail.proofs.Growth.{catalogue-snoc, last-snoc}
use Rattle.px_trail.proofs.Standing.{catalogue-stands}
use Rattle.px_indexed.specs.Idle.{IsElsewhere}
use Rattle.px_openbatches.specs.Pending.{HeldBatch}
use Rattle.px_group.specs.Group.{AreStanding, IsTallied}
use Rattle.px_group.specs.declared.group.Group.{Group}
use Rattle.px_group.specs.declared.group.IndexRegion.{IndexRegion}
use Rattle.px_defined.specs.Defined.{HasIndexMore}
use Rattle.px_defined.proofs.Lists.{end_cases, end_here, end_other}
use Rattle.px_defined.proofs.Going.{if_false, if_true, owner_by, points_by, table_by, tallied_on}

module _ (b : Base) (right : IsRightBase b) (es : List Entry) (legal : IsLegal b es) (e : Entry) (may : MayCome b es e) (g g' : Group) (i : Index) (hs : List HeldBatch) (k : IsTallied b es g hs) (h : HasIndexMore g g' i) (id : IndexId) (s : ℕ) (what : NewIndex)
    (is : e.act ≡ IndexMade g.table.id id s what) (i_is : i ≡ made_index (catalogue_of b es).next id s what) where
  abbrev c : Catalogue
  c = catalogue_of b es

  abbrev t : ℕ
  t = g.table.id.0

  abbrev made : Index
  made = made_index c.next id s what

  follows : Follows b es e.seat e.calls (IndexMade g.table.id id s what)
  follows = subst (λ (a : Act). Follows b es e.seat e.calls a) is may.follows

  pub new_number : id.0 ≡ c.next + 1
  unfolding Follows
  new_number = follows.0

  pub new_stamp : last_of b t es < s
  unfolding Follows
  new_stamp = follows.4

  pub new_owner : what.table ≡ g.table.id
  unfolding Follows
  new_owner = follows.3

  elsewhere : IsElsewhere g.table.id e.act
  elsewhere = subst (λ (a : Act). IsElsewhere g.table.id a) (sym is) tt

  now_is : catalogue_of b (es ++ e ∷ []) ≡ catalogue_step c (IndexMade g.table.id id s what)
  now_is = catalogue-snoc b es e ∙ ap (catalogue_step c) is

  tables_now : table_of b (es ++ e ∷ []) t ≡ table_of b es t
  unfolding catalogue_step
  tables_now = λ j. (now_is j).tables t

  index_now : (n : ℕ) → index_of b (es ++ e ∷ []) n ≡ (if id.0 == n then Some made else c.indexes n)
  unfolding catalogue_step
  index_now n = λ j. (now_is j).indexes n

  index_here : (n : ℕ) → id.0 ≡ n → index_of b (es ++ e ∷ []) n ≡ Some made
  index_here n q = index_now n ∙ if_true (id.0 == n) (Some made) (c.indexes n) (eq-eqb id.0 n q)

  index_there : (n : ℕ) → id.0 ≢ n → index_of b (es ++ e ∷ []) n ≡ index_of b es n
  index_there n q = index_now n ∙ if_false (id.0 == n) (Some made) (c.indexes n) (ne_eqb id.0 n q)

  pub apart_old : (y : Index) → index_of b es y.id.0 ≡ Some y → id.0 ≢ y.id.0
  apart_old y q = λ same. (let low = ((catalogue-stands b es right.catalogue legal).indexes y.id.0 y q).1 in let n = new_number in omega arith)

  pub last_now : last_of b t (es ++ e ∷ []) ≡ s
  last_now = last-snoc b t es e ∙ (ap (last_step t (last_of b t es)) is ∙ (if_true (t == t) (max (last_of b t es) s) (last_of b t es) (eq-eqb t t refl) ∙ (let l = new_stamp in omega arith)))

  standing : AreStanding b (es ++ e ∷ []) g'
  standing = record {
    table = table_by b es e g g' hs k h.beside elsewhere tables_now;
    index = λ j x at. elim (end_cases g.indexes.items h.new j x (sym (ap (λ (l : List IndexRegion). slice_get l j) h.indexes) ∙ at)) [
      | inl old ↦ (let q = k.standing.index j x old in index_there x.index.id.0 (apart_old x.index q) ∙ q)
      | inr new ↦ (let q : x.index ≡ made = ap (λ (w : IndexRegion). w.index) new.1 ∙ (h.index ∙ i_is) in subst (λ (w : Index). index_of b (es ++ e ∷ []) w.id.0 ≡ Some w) (sym q) (index_here id.0 refl))
    ];
    all = λ y q own state. elim (cases_eq id.0 y.id.0) [
      | inl here ↦
          (let same : made ≡ y = (let z : Some made ≡ Some y = sym (index_here y.id.0 here) ∙ q in cc) in
          (length g.indexes.items, (h.new, (ap (λ (l : List IndexRegion). slice_get l (length g.indexes.items)) h.indexes ∙ end_here g.indexes.items h.new, h.index ∙ (i_is ∙ same)))))
      | inr there ↦
          (let w = k.standing.all y (sym (index_there y.id.0 there) ∙ q) (owner_by b es e g g' hs k h.beside elsewhere y own) state in
          (w.0, (w.1.0, (ap (λ (l : List IndexRegion). slice_get l w.0) h.indexes ∙ end_other g.indexes.items h.new w.0 w.1.0 w.1.1.0, w.1.1.1))))
    ];
  }

  pub tallied_more : IsTallied b (es ++ e ∷ []) g' hs
  unfolding points_step
  tallied_more = tallied_on b es e g g' hs k h.beside elsewhere standing (last_now ∙ sym (h.last ∙ ap (λ (x : Index). x.birth) i_is))
      (points_by b es e g g' hs k h.beside elsewhere (IndexMade g.table.id id s what) is (λ seat u n by. refl))
