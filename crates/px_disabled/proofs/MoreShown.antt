-- What a table shows of which an index is built again.
use Rattle.std.proofs.Common.{◌≡◌, ℕ, ◌<◌, false, inl, inr, Some, List, [], ◌∷◌, ◌++◌, length, get_or, slice_get, refl, ap, sym, ◌∙◌, subst, arith}
use Rattle.std.proofs.Math.ListN.{get_or-append, length-append}
use Rattle.px_tables.specs.declared.index.Index.{Index}
use Rattle.px_tables.specs.declared.index.IndexState.TheVariants.{Building}
use Rattle.px_tables.specs.declared.table.Table.{Table}
use Rattle.px_trail.specs.declared.entry.Act.{Act}
use Rattle.px_trail.specs.declared.entry.Act.TheVariants.{IndexState}
use Rattle.px_trail.specs.declared.entry.Entry.{Entry}
use Rattle.px_trail.specs.Legal.{MayCome}
use Rattle.px_trail.specs.Trail.{Base, catalogue_of}
use Rattle.px_forms.specs.Indexes.{IndexForm, IsIndexForm}
use Rattle.px_indexrow.specs.Form.{index_form, owns}
use Rattle.px_indexrow.proofs.KeysHeld.{form_laws}
use Rattle.px_indexed.specs.Idle.{IsElsewhere}
use Rattle.px_indexed.proofs.Idle.{act_idle}
use Rattle.px_groupworld.specs.Group.{GroupData, IndexPart, no_part}
use Rattle.px_groupworld.specs.Steps.{born_data}
use Rattle.px_openbatches.specs.Pending.{HeldBatch}
use Rattle.px_tablesteps.specs.Kept.{TableBears}
use Rattle.px_tablesteps.proofs.Upkeep.{table_born}
use Rattle.px_region.specs.Region.{read_of}
use Rattle.px_region.specs.declared.region.Region.{Region}
use Rattle.px_group.specs.Group.{IsPartOf, IsShownBy, IsTallied, form_of, is_built}
use Rattle.px_group.specs.declared.group.Group.{Group}
use Rattle.px_group.specs.declared.group.IndexRegion.{IndexRegion}
use Rattle.px_defined.specs.Defined.{HasIndexLess, HasIndexMore, dropped_data}
use Rattle.px_defined.proofs.Lists.{StandsOrLast, end_cases, get_end, within}
use Rattle.px_defined.proofs.ShownTable.{kept_of}
use Rattle.px_disabled.specs.Disabled.{rebuilt}
use Rattle.px_disabled.proofs.LessShown.{shown_less, shown_quiet}
use Rattle.px_disabled.proofs.More.{last_is, stamp_is_new}

-- neither birth, region nor state tells of how index rows are spelled
form_rebuilt : (t : Table) (s r : ℕ) (x : Index) → index_form t (rebuilt s r x) ≡ index_form t x
unfolding owns
form_rebuilt t s r x = refl

module _ (b : Base) (es : List Entry) (e : Entry) (may : MayCome b es e) (g : Group) (x : Index) (hs : List HeldBatch) (s : ℕ) (is : e.act ≡ IndexState g.table.id x.id Building s) (index : ℕ → IndexForm) (v : GroupData) (shown : IsShownBy b index es g v hs) (form : index x.id.0 ≡ index_form g.table x) where
  elsewhere : IsElsewhere g.table.id e.act
  elsewhere = subst (λ (a : Act). IsElsewhere g.table.id a) (sym is) tt

  bears_rebuilt : TableBears (form_of b index g) x.id.0 s es v (es ++ e ∷ []) hs
  bears_rebuilt = table_born (form_of b index g) es v hs shown.kept e may (act_idle g.table.id e elsewhere) x.id.0 s
      (stamp_is_new b es e may g x s is)
      (let l = last_is b es e may g x s is in omega (arith, l))
      (subst IsIndexForm (sym form) (form_laws g.table x))

module _ (b : Base) (es : List Entry) (e : Entry) (may : MayCome b es e) (g g' : Group) (x : Index) (hs : List HeldBatch) (s : ℕ) (h : HasIndexMore g g' (rebuilt s (catalogue_of b es).next x)) (is : e.act ≡ IndexState g.table.id x.id Building s)
    (index : ℕ → IndexForm) (v : GroupData) (shown : IsShownBy b index es g v hs) (form : index x.id.0 ≡ index_form g.table x) where
  abbrev i : Index
  i = rebuilt s (catalogue_of b es).next x

  abbrev part : IndexPart
  part = record { id = i.id.0; cells = []; birth = i.birth; horizon = 0; is_built = false }

  part_is : IsPartOf part h.new
  part_is = record {
    id = sym (ap (λ (y : Index). y.id.0) h.index);
    cells = sym h.fresh.store;
    birth = sym (ap (λ (y : Index). y.birth) h.index);
    built = ap is_built (sym (ap (λ (y : Index). y.state) h.index));
  }

  more_at : (j : ℕ) (z : IndexRegion) → slice_get g'.indexes.items j ≡ Some z → StandsOrLast g.indexes.items h.new j z
  more_at j z at = end_cases g.indexes.items h.new j z (sym (ap (λ (l : List IndexRegion). slice_get l j) h.indexes) ∙ at)

  shown_rebuilt : IsShownBy b index (es ++ e ∷ []) g' (born_data i.id.0 i.birth v) hs
  shown_rebuilt = record {
    kept = kept_of b index g g' (es ++ e ∷ []) (born_data i.id.0 i.birth v) hs h.beside (bears_rebuilt b es e may g x hs s is index v shown form).kept;
    rows = shown.rows ∙ ap (λ (w : Region). read_of w) (sym h.beside.rows);
    count =
        (let m = length-append v.indexes (part ∷ []) in
        let y : length g'.indexes.items ≡ length (g.indexes.items ++ h.new ∷ []) = ap (λ (l : List IndexRegion). length l) h.indexes in
        let z = length-append g.indexes.items (h.new ∷ []) in
        let n = shown.count in
        omega arith);
    parts = λ j z at. elim (more_at j z at) [
      | inl old ↦ (let l : j < length v.indexes = (let w = within g.indexes.items j z old in let n = shown.count in omega arith) in subst (λ (p : IndexPart). IsPartOf p z) (sym (get_or-append v.indexes (part ∷ []) no_part j l)) (shown.parts j z old))
      | inr new ↦
          (let last : j ≡ length v.indexes = (let n = shown.count in let m = new.0 in omega arith) in
          let here : get_or (v.indexes ++ part ∷ []) j no_part ≡ part = ap (λ m. get_or (v.indexes ++ part ∷ []) m no_part) last ∙ get_end v.indexes part no_part in
          subst (λ (p : IndexPart). IsPartOf p z) (sym here) (subst (λ (w : IndexRegion). IsPartOf part w) (sym new.1) part_is))
    ];
    forms = λ j z at. elim (more_at j z at) [
      | inl old ↦ subst (λ (u : Table). index z.index.id.0 ≡ index_form u z.index) (sym h.beside.table) (shown.forms j z old)
      | inr new ↦ subst (λ (u : Table). index z.index.id.0 ≡ index_form u z.index) (sym h.beside.table) (subst (λ (y : Index). index y.id.0 ≡ index_form g.table y) (sym (ap (λ (w : IndexRegion). w.index) new.1 ∙ h.index)) (form ∙ sym (form_rebuilt g.table s (catalogue_of b es).next x)))
    ];
  }

-- ---- an index that its table let go before, where no batch is open

module _ (b : Base) (es : List Entry) (e : Entry) (may : MayCome b es e) (g h : Group) (x : Index) (hs : List HeldBatch) (k : IsTallied b es g hs) (none : g.batches.items ≡ []) (less : HasIndexLess g h x.id.0) (s : ℕ) (is : e.act ≡ IndexState g.table.id x.id Building s)
    (index : ℕ → IndexForm) (v : GroupData) (shown : IsShownBy b index es g v hs) (form : index x.id.0 ≡ index_form g.table x) where
  gone : IsShownBy b index es h (dropped_data x.id.0 v) []
  gone = shown_less b es g h x.id less index v (shown_quiet b es g hs k none index v shown)

  is_there : e.act ≡ IndexState h.table.id x.id Building s
  is_there = is ∙ ap (λ (t : Table). IndexState t.id x.id Building s) (sym less.beside.table)

  form_there : index x.id.0 ≡ index_form h.table x
  form_there = form ∙ ap (λ (t : Table). index_form t x) (sym less.beside.table)

  pub bears_anew : TableBears (form_of b index h) x.id.0 s es (dropped_data x.id.0 v) (es ++ e ∷ []) []
  bears_anew = bears_rebuilt b es e may h x [] s is_there index (dropped_data x.id.0 v) gone form_there

  pub shown_anew : (g' : Group) → HasIndexMore h g' (rebuilt s (catalogue_of b es).next x) → IsShownBy b index (es ++ e ∷ []) g' (born_data x.id.0 s (dropped_data x.id.0 v)) []
  shown_anew g' more = shown_rebuilt b es e may h g' x [] s more is_there index (dropped_data x.id.0 v) gone form_there
