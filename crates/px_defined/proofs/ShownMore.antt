-- What a table shows with an index more.
use Rattle.std.proofs.Common.{◌≡◌, ℕ, ◌<◌, false, inl, inr, Some, List, [], ◌∷◌, ◌++◌, length, get_or, slice_get, ap, sym, ◌∙◌, subst, arith}
use Rattle.std.proofs.Math.ListN.{get_or-append, length-append}
use Rattle.px_values.specs.declared.name.IndexId.{IndexId}
use Rattle.px_tables.specs.declared.index.Index.{Index}
use Rattle.px_tables.specs.declared.index.NewIndex.{NewIndex}
use Rattle.px_tables.specs.declared.table.Table.{Table}
use Rattle.px_trail.specs.declared.entry.Act.{Act}
use Rattle.px_trail.specs.declared.entry.Act.TheVariants.{IndexMade}
use Rattle.px_trail.specs.declared.entry.Entry.{Entry}
use Rattle.px_trail.specs.Legal.{IsLegal, MayCome}
use Rattle.px_trail.specs.Trail.{Base, IsRightBase, catalogue_of, made_index}
use Rattle.px_forms.specs.Indexes.{IndexForm, IsIndexForm}
use Rattle.px_indexrow.specs.Form.{index_form}
use Rattle.px_indexrow.proofs.KeysHeld.{form_laws}
use Rattle.px_indexed.specs.Idle.{IsElsewhere}
use Rattle.px_indexed.proofs.Idle.{act_idle}
use Rattle.px_groupworld.specs.Group.{GroupData, IndexPart, no_part}
use Rattle.px_groupworld.specs.Steps.{born_data}
use Rattle.px_openbatches.specs.Pending.{HeldBatch}
use Rattle.px_tablesteps.specs.Kept.{TableBears}
use Rattle.px_tablesteps.proofs.Upkeep.{table_born}
use Rattle.px_region.specs.Region.{read_of}
use Rattle.px_region.specs.declared.region.Region.{Region}
use Rattle.px_group.specs.Group.{IsPartOf, IsShownBy, IsTallied, form_of, is_built}
use Rattle.px_group.specs.declared.group.Group.{Group}
use Rattle.px_group.specs.declared.group.IndexRegion.{IndexRegion}
use Rattle.px_defined.specs.Defined.{HasIndexMore}
use Rattle.px_defined.proofs.Lists.{StandsOrLast, end_cases, get_end, within}
use Rattle.px_defined.proofs.ShownTable.{kept_of}
use Rattle.px_defined.proofs.TalliedMore.{last_now, new_stamp}

module _ (b : Base) (right : IsRightBase b) (es : List Entry) (legal : IsLegal b es) (e : Entry) (may : MayCome b es e) (g g' : Group) (i : Index) (hs : List HeldBatch) (k : IsTallied b es g hs) (h : HasIndexMore g g' i) (id : IndexId) (s : ℕ) (what : NewIndex)
    (is : e.act ≡ IndexMade g.table.id id s what) (i_is : i ≡ made_index (catalogue_of b es).next id s what) (index : ℕ → IndexForm) (v : GroupData) (shown : IsShownBy b index es g v hs) (form : index i.id.0 ≡ index_form g.table i) where
  birth_is : i.birth ≡ s
  birth_is = ap (λ (x : Index). x.birth) i_is

  elsewhere : IsElsewhere g.table.id e.act
  elsewhere = subst (λ (a : Act). IsElsewhere g.table.id a) (sym is) tt

  pub bears : TableBears (form_of b index g) i.id.0 i.birth es v (es ++ e ∷ []) hs
  bears = table_born (form_of b index g) es v hs shown.kept e may (act_idle g.table.id e elsewhere) i.id.0 i.birth
      (let l = new_stamp b right es legal e may g g' i hs k h id s what is i_is in let z = birth_is in omega arith)
      (let l = last_now b right es legal e may g g' i hs k h id s what is i_is in let z = birth_is in omega arith)
      (subst IsIndexForm (sym form) (form_laws g.table i))

  abbrev part : IndexPart
  part = record { id = i.id.0; cells = []; birth = i.birth; horizon = 0; is_built = false }

  part_is : IsPartOf part h.new
  part_is = record {
    id = sym (ap (λ (x : Index). x.id.0) h.index);
    cells = sym h.fresh.store;
    birth = sym (ap (λ (x : Index). x.birth) h.index);
    built = ap is_built (sym (ap (λ (x : Index). x.state) (h.index ∙ i_is)));
  }

  more_at : (j : ℕ) (z : IndexRegion) → slice_get g'.indexes.items j ≡ Some z → StandsOrLast g.indexes.items h.new j z
  more_at j z at = end_cases g.indexes.items h.new j z (sym (ap (λ (l : List IndexRegion). slice_get l j) h.indexes) ∙ at)

  pub shown_more : IsShownBy b index (es ++ e ∷ []) g' (born_data i.id.0 i.birth v) hs
  shown_more = record {
    kept = kept_of b index g g' (es ++ e ∷ []) (born_data i.id.0 i.birth v) hs h.beside bears.kept;
    rows = shown.rows ∙ ap (λ (w : Region). read_of w) (sym h.beside.rows);
    count =
        (let x = length-append v.indexes (part ∷ []) in
        let y : length g'.indexes.items ≡ length (g.indexes.items ++ h.new ∷ []) = ap (λ (l : List IndexRegion). length l) h.indexes in
        let z = length-append g.indexes.items (h.new ∷ []) in
        let n = shown.count in
        omega arith);
    parts = λ j z at. elim (more_at j z at) [
      | inl old ↦ (let l : j < length v.indexes = (let w = within g.indexes.items j z old in let n = shown.count in omega arith) in subst (λ (p : IndexPart). IsPartOf p z) (sym (get_or-append v.indexes (part ∷ []) no_part j l)) (shown.parts j z old))
      | inr new ↦
          (let last : j ≡ length v.indexes = (let n = shown.count in let m = new.0 in omega arith) in
          let here : get_or (v.indexes ++ part ∷ []) j no_part ≡ part = ap (λ m. get_or (v.indexes ++ part ∷ []) m no_part) last ∙ get_end v.indexes part no_part in
          subst (λ (p : IndexPart). IsPartOf p z) (sym here) (subst (λ (w : IndexRegion). IsPartOf part w) (sym new.1) part_is))
    ];
    forms = λ j z at. elim (more_at j z at) [
      | inl old ↦ subst (λ (u : Table). index z.index.id.0 ≡ index_form u z.index) (sym h.beside.table) (shown.forms j z old)
      | inr new ↦ subst (λ (u : Table). index z.index.id.0 ≡ index_form u z.index) (sym h.beside.table) (subst (λ (x : Index). index x.id.0 ≡ index_form g.table x) (sym (ap (λ (w : IndexRegion). w.index) new.1 ∙ h.index)) form)
    ];
  }
