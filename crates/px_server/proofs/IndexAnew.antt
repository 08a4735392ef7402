-- What a group shows when an index of its table is built again.
use Rattle.std.proofs.Common.{◌≡◌, ◌<◌, ◌+◌, inl, inr, ℕ, Bool, false, Some, List, [], ◌∷◌, ◌++◌, length, get_or, slice_get, refl, sym, ap, subst, ◌∙◌, arith}
use Rattle.std.specs.Prelude.{not, ◌==◌}
use Rattle.std.proofs.Math.ListN.{get_or-append, length-append}
use Rattle.px_outside.specs.Parts.{with_part}
use Rattle.px_outside.proofs.Parts.{with_part-here}
use Rattle.px_values.specs.declared.name.TableId.{TableId}
use Rattle.px_tables.specs.declared.index.Index.{Index}
use Rattle.px_tables.specs.declared.index.IndexState.TheVariants.{Building}
use Rattle.px_tables.specs.declared.index.NewIndex.{NewIndex}
use Rattle.px_tables.specs.declared.table.Table.{Table}
use Rattle.px_trail.specs.declared.entry.Act.TheVariants.{IndexState}
use Rattle.px_trail.specs.declared.entry.Entry.{Entry}
use Rattle.px_trail.specs.Legal.{MayCome}
use Rattle.px_trail.specs.Trail.{Base, catalogue_of, index_of}
use Rattle.px_trail.proofs.Orders.{WritesNone}
use Rattle.px_forms.specs.Indexes.{IndexForm}
use Rattle.px_indexrow.specs.Form.{index_form, owns}
use Rattle.px_groupworld.specs.Group.{GroupData, IndexPart, no_part}
use Rattle.px_groupworld.specs.Steps.{born_data}
use Rattle.px_openbatches.specs.Pending.{HeldBatch}
use Rattle.px_group.specs.Group.{IsShownBy, IsTallied, form_of}
use Rattle.px_group.specs.declared.group.Group.{Group}
use Rattle.px_group.specs.declared.group.IndexRegion.{IndexRegion}
use Rattle.px_defined.specs.Defined.{HasIndexLess, HasIndexMore, IsSameBeside, dropped_data}
use Rattle.px_defined.proofs.Going.{none_open}
use Rattle.px_defined.proofs.Lists.{end_cases, from_filter, get_end, within}
use Rattle.px_disabled.specs.Disabled.{rebuilt}
use Rattle.px_disabled.proofs.More.{tallied_rebuilt}
use Rattle.px_disabled.proofs.MoreShown.{bears_anew, shown_anew}
use Rattle.px_reading.specs.Doubts.{IsToldBy}
use Rattle.px_recovery.specs.Tables.{form_of_index}
use Rattle.px_server.specs.Kept.{HasShown, HasTallied, forms_in}
use Rattle.px_server.proofs.Built.{are_born, are_less, built_as, built_table}
use Rattle.px_server.proofs.Catalogued.{AreForms}
use Rattle.px_server.proofs.Forms.{shown_forms, told_forms}
use Rattle.px_server.proofs.IndexDown.{horizons_less, told_on}
use Rattle.px_server.proofs.ShownAt.{HasSameForms, shown_at}

-- neither state, birth nor region tells of how index rows are spelled
same_form : (t : Table) (s r : ℕ) (x : Index) → index_form t (rebuilt s r x) ≡ index_form t x
unfolding owns
same_form t s r x = refl

-- without the index and with it anew
pub beside_both : (g h g' : Group) → IsSameBeside g h → IsSameBeside h g' → IsSameBeside g g'
beside_both g h g' a z = record { table = z.table ∙ a.table; rows = z.rows ∙ a.rows; batches = z.batches ∙ a.batches; points = z.points ∙ a.points; horizon = z.horizon ∙ a.horizon }

module _ (b : Base) (es : List Entry) (e : Entry) (may : MayCome b es e) (t : TableId) (x : Index) (s : ℕ) (is : e.act ≡ IndexState t x.id Building s) (stood : index_of b es x.id.0 ≡ Some x)
    (g h g' : Group) (own : g.table.id ≡ t) (less : HasIndexLess g h x.id.0) (more : HasIndexMore h g' (rebuilt s (catalogue_of b es).next x)) where
  abbrev es' : List Entry
  es' = es ++ e ∷ []

  abbrev made : Index
  made = rebuilt s (catalogue_of b es).next x

  abbrev n : ℕ
  n = x.id.0

  -- what it was made from, whose name and columns tell nothing here
  abbrev what : NewIndex
  what = record { table = x.table; name = x.name; parts = x.parts; included = x.included }

  abbrev born : GroupData → GroupData
  born v = born_data n s (dropped_data n v)

  abbrev part : IndexPart
  part = record { id = n; cells = []; birth = s; horizon = 0; is_built = false }

  quiet : WritesNone e.act
  quiet = subst WritesNone (sym is) tt

  act_is : e.act ≡ IndexState g.table.id x.id Building s
  act_is = is ∙ ap (λ (u : TableId). IndexState u x.id Building s) (sym own)

  beside : IsSameBeside g g'
  beside = beside_both g h g' less.beside more.beside

  pub has_tallied_anew : HasTallied b es g → HasTallied b es' g'
  has_tallied_anew k = record { held = k.held; tallied = tallied_rebuilt b es e may g h g' x k.held k.tallied stood less s more act_is }

  abbrev hold : IndexRegion → Bool
  hold z = not (z.index.id.0 == n)

  module _ (none : g.batches.items ≡ []) where
    module _ (index : ℕ → IndexForm) (form : index n ≡ index_form g.table x) (v : GroupData) (hs : List HeldBatch) (k : IsTallied b es g hs) (shown : IsShownBy b index es g v hs) where
      then : IsShownBy b index es' g' (born v) []
      then = shown_anew b es e may g h x hs k none less s act_is index v shown form g' more

      own_anew : IsToldBy b index es g v → (j : ℕ) (z : IndexRegion) → slice_get g'.indexes.items j ≡ Some z → (get_or (born v).indexes j no_part).horizon ≡ z.region.horizon
      own_anew told j z at = elim (end_cases h.indexes.items more.new j z (sym (ap (λ (l : List IndexRegion). slice_get l j) more.indexes) ∙ at)) [
        | inl old ↦
            (let long : length (dropped_data n v).indexes + 1 ≡ length g'.indexes.items = (let c = then.count in let m = length-append (dropped_data n v).indexes (part ∷ []) in omega (arith, c, m)) in
            let l : j < length (dropped_data n v).indexes = (let w = within h.indexes.items j z old in let m = length-append h.indexes.items (more.new ∷ []) in let c : length g'.indexes.items ≡ length (h.indexes.items ++ more.new ∷ []) = ap (λ (q : List IndexRegion). length q) more.indexes in omega (arith, w, m, c, long)) in
            ap (λ (p : IndexPart). p.horizon) (get_or-append (dropped_data n v).indexes (part ∷ []) no_part j l) ∙ horizons_less g h n less b index es v hs shown told j z old)
        | inr new ↦
            (let last : j ≡ length (dropped_data n v).indexes = (let c = then.count in let m = length-append (dropped_data n v).indexes (part ∷ []) in let k = length-append h.indexes.items (more.new ∷ []) in let c' : length g'.indexes.items ≡ length (h.indexes.items ++ more.new ∷ []) = ap (λ (q : List IndexRegion). length q) more.indexes in let at_end = new.0 in omega (arith, c, m, k, c', at_end)) in
            ap (λ (p : IndexPart). p.horizon) (ap (λ m. get_or ((dropped_data n v).indexes ++ part ∷ []) m no_part) last ∙ get_end (dropped_data n v).indexes part no_part)
            ∙ sym (ap (λ (w : IndexRegion). w.region.horizon) new.1 ∙ more.fresh.horizon))
      ]

      told_anew : IsToldBy b index es g v → IsToldBy b index es' g' (born v)
      told_anew told = record { told = told_on b es e quiet g g' beside.table index v (born v) hs [] shown then refl refl told; own = own_anew told }

    -- the other indexes stand as they did, and it beside them
    pub has_shown_anew : (xs xs' : List Index) → AreForms xs (catalogue_of b es) → AreForms xs' (catalogue_of b es') → (v : ℕ → GroupData) → HasShown b es xs v g → HasShown b es' xs' (with_part v t.0 (born (v t.0))) g'
    has_shown_anew xs xs' forms forms' v k =
        let index = forms_in xs g.table in
        let index' = forms_in xs' g.table in
        let form : index n ≡ index_form g.table x = forms g.table n ∙ ap (form_of_index g.table) stood in
        let tallied = tallied_rebuilt b es e may g h g' x k.held k.tallied stood less s more act_is in
        let number : g.table.id.0 ≡ t.0 = ap (λ (u : TableId). u.0) own in
        let number' : g'.table.id.0 ≡ t.0 = ap (λ (u : Table). u.id.0) beside.table ∙ number in
        let w = v g.table.id.0 in
        let same : HasSameForms g' index index' = λ j z at. forms' g.table z.index.id.0 ∙ (ap (form_of_index g.table) (tallied.standing.index j z at) ∙ elim (end_cases h.indexes.items more.new j z (sym (ap (λ (l : List IndexRegion). slice_get l j) more.indexes) ∙ at)) [
          | inl old ↦
              (let from = from_filter hold g.indexes.items j z (sym (ap (λ (l : List IndexRegion). slice_get l j) less.indexes) ∙ old) in
              ap (form_of_index g.table) (sym (k.tallied.standing.index from.0 z from.1.0)) ∙ sym (forms g.table z.index.id.0))
          | inr new ↦
              (let q : z.index ≡ made = ap (λ (y : IndexRegion). y.index) new.1 ∙ more.index in
              subst (λ (y : Index). index_form g.table y ≡ index y.id.0) (sym q) (same_form g.table s (catalogue_of b es).next x ∙ sym form))
        ]) in
        shown_at b es' xs' (with_part v t.0 (born (v t.0))) g' g.table (born w) [] beside.table
        (ap (with_part v t.0 (born (v t.0))) number' ∙ (with_part-here v t.0 (born (v t.0)) ∙ ap (λ (m : ℕ). born (v m)) (sym number)))
        (subst (λ (l : List HeldBatch). IsTallied b es' g' l) (none_open b es g k.held k.tallied none) tallied)
        (shown_forms b es' g' index index' same (born w) [] (then index form w k.held k.tallied k.shown))
        (told_forms b es' g' index index' same (born w) (told_anew index form w k.held k.tallied k.shown k.told))
        (built_as b es' g' index index' same (born w) [] (then index form w k.held k.tallied k.shown)
        (built_table b index es' (born w) h.table g'.table (sym more.beside.table)
        (are_born (form_of b index h) es (dropped_data n w) e t x.id s what (inr is) (bears_anew b es e may g h x k.held k.tallied none less s act_is index w k.shown form).bears
        (built_table b index es (dropped_data n w) g.table h.table (sym less.beside.table) (are_less (form_of b index g) es w n k.built)))))
