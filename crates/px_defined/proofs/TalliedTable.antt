-- What the trail tells of a table that is made.
use Rattle.std.proofs.Common.{◌≡◌, ℕ, ◌≤◌, ◌==◌, Option, Some, None, List, [], ◌∷◌, ◌++◌, slice_get, refl, ap, sym, ◌∙◌, subst, arith}
use Rattle.std.proofs.lemmas.Bool.{eq-eqb}
use Rattle.px_values.specs.declared.name.TableId.{TableId}
use Rattle.px_tables.specs.declared.index.Index.{Index}
use Rattle.px_tables.specs.declared.table.NewTable.{NewTable}
use Rattle.px_tables.specs.declared.table.Table.{Table}
use Rattle.px_trail.specs.declared.entry.Act.{Act}
use Rattle.px_trail.specs.declared.entry.Act.TheVariants.{Made}
use Rattle.px_trail.specs.declared.entry.Entry.{Entry}
use Rattle.px_trail.specs.Legal.{Follows, IsLegal, MayCome}
use Rattle.px_trail.specs.Trail.{Base, Catalogue, IsRightBase, catalogue_of, catalogue_step, horizon_of, index_of, last_of, made_table, open_points, table_of}
use Rattle.px_trail.proofs.Growth.{catalogue-snoc}
use Rattle.px_trail.proofs.Standing.{catalogue-stands}
use Rattle.px_openbatches.specs.Pending.{HeldKept}
use Rattle.px_phases.specs.Batch.{AreHeldAs}
use Rattle.px_group.specs.Group.{AreInPhase, IsTallied, points_in}
use Rattle.px_group.specs.declared.group.Begun.{Begun}
use Rattle.px_group.specs.declared.group.Group.{Group}
use Rattle.px_group.specs.declared.group.IndexRegion.{IndexRegion}
use Rattle.px_defined.specs.Defined.{IsNewGroup}
use Rattle.px_defined.proofs.Numbers.{IsApart, IsUnknown, are_unknown, below, made_unknown}
use Rattle.px_defined.proofs.Going.{if_true, some_none}
use Rattle.px_defined.proofs.Going.{as_data}

module _ (b : Base) (right : IsRightBase b) (es : List Entry) (legal : IsLegal b es) (e : Entry) (may : MayCome b es e) (id : TableId) (what : NewTable) (is : e.act ≡ Made id what) where
  abbrev c : Catalogue
  c = catalogue_of b es

  abbrev made : Table
  made = made_table c.next id what

  number : c.next ≤ id.0
  unfolding Follows
  number = let z = (subst (λ (a : Act). Follows b es e.seat e.calls a) is may.follows).0 in omega arith

  pub unknown : IsUnknown b (es ++ e ∷ []) id.0
  unknown = made_unknown b right.catalogue es legal e id.0 number (subst (IsApart id.0) (sym is) tt)

  -- it stood in no base
  no_base : b.tables id.0 ≡ None
  no_base = by (b.tables id.0) refl
    where
      by : (o : Option Table) → b.tables id.0 ≡ o → o ≡ None
      by None q = refl
      by (Some x) q = absurd (let m = (right.catalogue.tables id.0 x q).1 in let g = (are_unknown b right.catalogue es legal).grows in let n = number in omega arith)

  now_is : catalogue_of b (es ++ e ∷ []) ≡ catalogue_step c (Made id what)
  now_is = catalogue-snoc b es e ∙ ap (catalogue_step c) is

  made_stands : table_of b (es ++ e ∷ []) id.0 ≡ Some made
  unfolding catalogue_step
  made_stands = (λ j. (now_is j).tables id.0) ∙ if_true (id.0 == id.0) (Some made) (c.tables id.0) (eq-eqb id.0 id.0 refl)

  -- no index is of it
  index_alone : (n : ℕ) (y : Index) → index_of b (es ++ e ∷ []) n ≡ Some y → y.table.0 ≡ id.0 → ⊥
  unfolding catalogue_step
  index_alone n y q own =
      let was : c.indexes n ≡ Some y = sym (λ j. (now_is j).indexes n) ∙ q in
      let owner = (catalogue-stands b es right.catalogue legal).owners n y was in
      let low = below b right.catalogue es legal y.table.0 owner.0 owner.1 in
      let high = number in
      omega arith

  pub none_held : HeldKept b (es ++ e ∷ []) id.0 []
  none_held = record { rising = tt; each = tt; all = λ s y q n. absurd (some_none (sym (unknown.batches s) ∙ q)) }

  pub tallied_new : (t : Table) → t ≡ made → (g : Group) → IsNewGroup t g → IsTallied b (es ++ e ∷ []) g []
  tallied_new t t_is g n =
      let table : g.table ≡ made = n.table ∙ t_is in
      let at : g.table.id.0 ≡ id.0 = ap (λ (x : Table). x.id.0) table in
      record {
        standing = record {
          table = subst (λ (x : Table). table_of b (es ++ e ∷ []) x.id.0 ≡ Some x) (sym table) made_stands;
          index = λ i x q. absurd (some_none (ap (λ (l : List IndexRegion). slice_get l i) (sym n.indexes) ∙ q));
          all = λ y q own state. absurd (index_alone y.id.0 y q (own ∙ at));
        };
        last = ap (λ (m : ℕ). last_of b m (es ++ e ∷ [])) at ∙ (unknown.last ∙ (right.last id.0 no_base ∙ sym n.last));
        horizon = ap (λ (m : ℕ). horizon_of b m (es ++ e ∷ [])) at ∙ (unknown.horizon ∙ ((right.horizon id.0 no_base).0 ∙ sym n.horizon));
        held = subst (λ (m : ℕ). HeldKept b (es ++ e ∷ []) m []) (sym at) none_held;
        batches = subst (λ (l : List Begun). AreHeldAs (as_data l) []) (sym n.batches) tt;
        phases = subst (λ (l : List Begun). AreInPhase (es ++ e ∷ []) g.table.id.0 l []) (sym n.batches) tt;
        points = λ seat s. ap (λ (m : ℕ). open_points seat m s (es ++ e ∷ [])) at ∙ (unknown.points seat s ∙ sym (ap (points_in seat s) n.points));
      }
