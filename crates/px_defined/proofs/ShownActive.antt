-- What a table shows with an index that queries may read.
use Rattle.std.proofs.Common.{◌≡◌, ℕ, ◌<◌, Bool, true, false, cond, inl, inr, Some, None, List, [], ◌∷◌, ◌++◌, length, set, get_or, slice_get, refl, ap, sym, ◌∙◌, subst, arith, get_or-set_other, get_or-set_same}
use Rattle.std.specs.Prelude.{nat_eq}
use Rattle.std.proofs.Math.ListN.{length-set}
use Rattle.std.proofs.lemmas.Bool.{cases_eq}
use Rattle.px_values.specs.declared.change.What.{What}
use Rattle.px_values.specs.declared.row.Value.{Value}
use Rattle.px_tables.specs.declared.index.Index.{Index}
use Rattle.px_tables.specs.declared.index.IndexState.TheVariants.{Active}
use Rattle.px_tables.specs.declared.table.Table.{Table}
use Rattle.px_trail.specs.declared.entry.Act.{Act}
use Rattle.px_trail.specs.declared.entry.Act.TheVariants.{IndexState}
use Rattle.px_trail.specs.declared.entry.Entry.{Entry}
use Rattle.px_trail.specs.Legal.{MayCome}
use Rattle.px_trail.specs.Trail.{Base}
use Rattle.px_world.specs.Events.{Comes, Ready}
use Rattle.px_forms.specs.Indexes.{IndexForm}
use Rattle.px_indexrow.specs.Form.{index_form, owns}
use Rattle.px_indexed.specs.Idle.{IsElsewhere}
use Rattle.px_indexed.proofs.Idle.{act_idle}
use Rattle.px_groupworld.specs.Group.{GroupData, IndexPart, no_part, shape_in, world_in}
use Rattle.px_groupworld.specs.Steps.{Events, at_index, no_events, ready_data}
use Rattle.px_groupworld.proofs.Cells.{group_ready}
use Rattle.px_openbatches.specs.Opens.{IsNoBirthOf}
use Rattle.px_openbatches.specs.Pending.{HeldBatch}
use Rattle.px_tablesteps.specs.Kept.{TableSteps}
use Rattle.px_tablesteps.proofs.Steps.{table_idle, table_regions}
use Rattle.px_region.specs.Region.{read_of}
use Rattle.px_region.specs.declared.region.Region.{Region}
use Rattle.px_group.specs.Group.{IsPartOf, IsShownBy, form_of}
use Rattle.px_group.specs.declared.group.Group.{Group}
use Rattle.px_group.specs.declared.group.IndexRegion.{IndexRegion}
use Rattle.px_defined.specs.Defined.{HasActive, active}
use Rattle.px_defined.proofs.Lists.{IsPutOrStands, set_cases, within}
use Rattle.px_defined.proofs.ShownTable.{kept_of}

no_birth : (c : Bool) → IsNoBirthOf {K = List ℕ} {A = What} (cond c (Some Ready) None)
no_birth true = tt
no_birth false = tt

-- the state tells nothing of how index rows are spelled
form_active : (t : Table) (x : Index) → index_form t (record x { state = Active }) ≡ index_form t x
unfolding owns
form_active t x = refl

module _ (b : Base) (es : List Entry) (e : Entry) (may : MayCome b es e) (g g' : Group) (place : ℕ) (hs : List HeldBatch) (h : HasActive g g' place) (s : ℕ) (is : e.act ≡ IndexState g.table.id h.index.index.id Active s) (index : ℕ → IndexForm) (v : GroupData) (shown : IsShownBy b index es g v hs)
    (comes : (r : List Value) → Comes (shape_in (form_of b index g) v place r) (world_in (form_of b index g) es v place r) Ready) where
  abbrev ready : IndexPart
  ready = record (get_or v.indexes place no_part) { is_built = true }

  abbrev readies : Events
  readies i r = at_index place i (Some Ready)

  inside : place < length v.indexes
  inside = (let l = within g.indexes.items place h.index h.is in let n = shown.count in omega arith)

  same_at_all : {A : Type 0} (f : IndexPart → A) → f ready ≡ f (get_or v.indexes place no_part) → (i : ℕ) → i < length v.indexes → f (get_or (set v.indexes place ready) i no_part) ≡ f (get_or v.indexes i no_part)
  same_at_all f q i l = elim (cases_eq i place) [
    | inl here ↦ ap f (ap (λ m. get_or (set v.indexes place ready) m no_part) here ∙ get_or-set_same v.indexes place ready no_part inside) ∙ (q ∙ ap (λ m. f (get_or v.indexes m no_part)) (sym here))
    | inr there ↦ ap f (get_or-set_other v.indexes place i ready no_part there)
  ]

  pub active_steps : TableSteps (form_of b index g) readies es v es (ready_data place v) hs
  active_steps = table_regions (form_of b index g) es v hs shown.kept readies (ready_data place v) (group_ready (form_of b index g) es v shown.kept.group place inside comes) (λ i r. no_birth (nat_eq place i)) refl (same_at_all (λ p. p.id) refl) (same_at_all (λ p. p.birth) refl)

  elsewhere : IsElsewhere g.table.id e.act
  elsewhere = subst (λ (a : Act). IsElsewhere g.table.id a) (sym is) tt

  pub active_told : TableSteps (form_of b index g) no_events es (ready_data place v) (es ++ e ∷ []) (ready_data place v) hs
  active_told = table_idle (form_of b index g) es (ready_data place v) hs active_steps.kept e may (act_idle g.table.id e elsewhere)

  active_at : (j : ℕ) (z : IndexRegion) → slice_get g'.indexes.items j ≡ Some z → IsPutOrStands g.indexes.items place j (active h.index) z
  active_at j z at = set_cases g.indexes.items place j (active h.index) z (sym (ap (λ (l : List IndexRegion). slice_get l j) h.indexes) ∙ at)

  part_active : IsPartOf (get_or v.indexes place no_part) h.index → IsPartOf ready (active h.index)
  part_active p = record { id = p.id; cells = p.cells; birth = p.birth; built = refl }

  pub shown_active : IsShownBy b index (es ++ e ∷ []) g' (ready_data place v) hs
  shown_active = record {
    kept = kept_of b index g g' (es ++ e ∷ []) (ready_data place v) hs h.beside active_told.kept;
    rows = shown.rows ∙ ap (λ (w : Region). read_of w) (sym h.beside.rows);
    count = length-set v.indexes place ready ∙ (shown.count ∙ sym (ap (λ (l : List IndexRegion). length l) h.indexes ∙ length-set g.indexes.items place (active h.index)));
    parts = λ j z at. elim (active_at j z at) [
      | inl here ↦
          (let now : get_or (set v.indexes place ready) j no_part ≡ ready = ap (λ m. get_or (set v.indexes place ready) m no_part) here.0 ∙ get_or-set_same v.indexes place ready no_part inside in
          subst (λ (p : IndexPart). IsPartOf p z) (sym now) (subst (λ (w : IndexRegion). IsPartOf ready w) (sym here.1) (part_active (shown.parts place h.index h.is))))
      | inr there ↦ subst (λ (p : IndexPart). IsPartOf p z) (sym (get_or-set_other v.indexes place j ready no_part there.0)) (shown.parts j z there.1)
    ];
    forms = λ j z at. subst (λ (u : Table). index z.index.id.0 ≡ index_form u z.index) (sym h.beside.table) (elim (active_at j z at) [
      | inl here ↦ subst (λ (w : IndexRegion). index w.index.id.0 ≡ index_form g.table w.index) (sym here.1) (shown.forms place h.index h.is ∙ sym (form_active g.table h.index.index))
      | inr there ↦ shown.forms j z there.1
    ]);
  }
