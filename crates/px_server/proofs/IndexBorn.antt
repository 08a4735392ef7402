-- What a group shows when an index of its table is made.
use Rattle.std.proofs.Common.{◌≡◌, ◌<◌, inl, inr, ℕ, false, List, [], ◌∷◌, ◌++◌, length, get_or, slice_get, Some, refl, sym, ap, subst, ◌∙◌, arith}
use Rattle.std.proofs.Math.ListN.{get_or-append}
use Rattle.px_outside.specs.Parts.{with_part}
use Rattle.px_outside.proofs.Parts.{with_part-here}
use Rattle.px_values.specs.declared.name.IndexId.{IndexId}
use Rattle.px_values.specs.declared.name.TableId.{TableId}
use Rattle.px_tables.specs.declared.index.Index.{Index}
use Rattle.px_tables.specs.declared.index.NewIndex.{NewIndex}
use Rattle.px_tables.specs.declared.table.Table.{Table}
use Rattle.px_trail.specs.declared.entry.Act.TheVariants.{IndexMade}
use Rattle.px_trail.specs.declared.entry.Entry.{Entry}
use Rattle.px_trail.specs.Legal.{IsLegal, MayCome}
use Rattle.px_trail.specs.Trail.{Base, IsRightBase, catalogue_of, index_of, made_index}
use Rattle.px_trail.proofs.Orders.{WritesNone}
use Rattle.px_forms.specs.Indexes.{IndexForm}
use Rattle.px_indexrow.specs.Form.{index_form}
use Rattle.px_rows.specs.Spelled.{row_form}
use Rattle.px_groupworld.specs.Group.{GroupData, IndexPart, no_part, table_form}
use Rattle.px_groupworld.specs.Steps.{born_data}
use Rattle.px_openbatches.specs.Pending.{HeldBatch}
use Rattle.px_tablereads.specs.Told.{AreTold}
use Rattle.px_tablereads.proofs.Tells.{quiet_written, told_same}
use Rattle.px_group.specs.Group.{IsShownBy, IsTallied, form_of}
use Rattle.px_group.specs.declared.group.Group.{Group}
use Rattle.px_group.specs.declared.group.IndexRegion.{IndexRegion}
use Rattle.px_defined.specs.Defined.{HasIndexMore}
use Rattle.px_defined.proofs.Lists.{end_cases, end_here, end_other, get_end, within}
use Rattle.px_defined.proofs.ShownMore.{bears, shown_more}
use Rattle.px_defined.proofs.TalliedMore.{tallied_more}
use Rattle.px_reading.specs.Doubts.{IsToldBy}
use Rattle.px_recovery.specs.Tables.{form_of_index}
use Rattle.px_server.specs.Kept.{HasShown, HasTallied, forms_in}
use Rattle.px_server.proofs.Built.{are_born, built_as, built_table}
use Rattle.px_server.proofs.Catalogued.{AreForms}
use Rattle.px_server.proofs.Forms.{shown_forms, told_forms}
use Rattle.px_server.proofs.ShownAt.{HasSameForms, shown_at}

module _ (b : Base) (right : IsRightBase b) (es : List Entry) (legal : IsLegal b es) (e : Entry) (may : MayCome b es e) (t : TableId) (i : IndexId) (s : ℕ) (what : NewIndex) (is : e.act ≡ IndexMade t i s what) where
  abbrev es' : List Entry
  es' = es ++ e ∷ []

  abbrev y : Index
  y = made_index (catalogue_of b es).next i s what

  quiet : WritesNone e.act
  quiet = subst WritesNone (sym is) tt

  module _ (g g' : Group) (own : g.table.id ≡ t) (more : HasIndexMore g g' y) where
    act_is : e.act ≡ IndexMade g.table.id i s what
    act_is = is ∙ ap (λ (u : TableId). IndexMade u i s what) (sym own)

    pub tallied_born : (hs : List HeldBatch) → IsTallied b es g hs → IsTallied b es' g' hs
    tallied_born hs k = tallied_more b right es legal e may g g' y hs k more i s what act_is refl

    pub has_tallied_born : HasTallied b es g → HasTallied b es' g'
    has_tallied_born k = record { held = k.held; tallied = tallied_born k.held k.tallied }

    -- what a repair rests on
    told_born : (index : ℕ → IndexForm) (v : GroupData) (hs : List HeldBatch) → IsTallied b es g hs → IsShownBy b index es g v hs → (index i.0 ≡ index_form g.table y) → IsToldBy b index es g v → IsToldBy b index es' g' (born_data i.0 s v)
    told_born index v hs k shown form told = record {
      told = subst (λ (u : Table). AreTold (table_form b u.id index (row_form u)) es' (born_data i.0 s v)) (sym more.beside.table)
          (told_same (form_of b index g) es v shown.kept.group es' (born_data i.0 s v) (bears b right es legal e may g g' y hs k more i s what act_is refl index v shown form).kept.group told.told refl refl
          (quiet_written (form_of b index g) es v shown.kept.group e quiet));
      own = λ j z at. elim (end_cases g.indexes.items more.new j z (sym (ap (λ (l : List IndexRegion). slice_get l j) more.indexes) ∙ at)) [
        | inl old ↦
            (let l : j < length v.indexes = (let w = within g.indexes.items j z old in let n = shown.count in omega arith) in
            ap (λ (p : IndexPart). p.horizon) (get_or-append v.indexes (part ∷ []) no_part j l) ∙ told.own j z old)
        | inr new ↦
            (let last : j ≡ length v.indexes = (let n = shown.count in let m = new.0 in omega arith) in
            ap (λ (p : IndexPart). p.horizon) (ap (λ m. get_or (v.indexes ++ part ∷ []) m no_part) last ∙ get_end v.indexes part no_part)
            ∙ sym (ap (λ (w : IndexRegion). w.region.horizon) new.1 ∙ more.fresh.horizon))
      ];
    }
      where
        part : IndexPart
        part = record { id = i.0; cells = []; birth = s; horizon = 0; is_built = false }

    -- where it stands beside the others
    pub has_shown_born : (xs xs' : List Index) → AreForms xs (catalogue_of b es) → AreForms xs' (catalogue_of b es') → (v : ℕ → GroupData) → HasShown b es xs v g → HasShown b es' xs' (with_part v t.0 (born_data i.0 s (v t.0))) g'
    has_shown_born xs xs' forms forms' v k =
        let index = forms_in xs' g.table in
        let tallied = tallied_born k.held k.tallied in
        let old : (j : ℕ) (x : IndexRegion) → slice_get g.indexes.items j ≡ Some x → slice_get g'.indexes.items j ≡ Some x = λ j x at. ap (λ (l : List IndexRegion). slice_get l j) more.indexes ∙ end_other g.indexes.items more.new j x at in
        let same : HasSameForms g (forms_in xs g.table) index = λ j x at. forms' g.table x.index.id.0 ∙ (ap (form_of_index g.table) (tallied.standing.index j x (old j x at) ∙ sym (k.tallied.standing.index j x at)) ∙ sym (forms g.table x.index.id.0)) in
        let last : slice_get g'.indexes.items (length g.indexes.items) ≡ Some more.new = ap (λ (l : List IndexRegion). slice_get l (length g.indexes.items)) more.indexes ∙ end_here g.indexes.items more.new in
        let stands : index_of b es' i.0 ≡ Some y = subst (λ (x : Index). index_of b es' x.id.0 ≡ Some x) more.index (tallied.standing.index (length g.indexes.items) more.new last) in
        let form : index i.0 ≡ index_form g.table y = forms' g.table i.0 ∙ ap (form_of_index g.table) stands in
        let number : g.table.id.0 ≡ t.0 = ap (λ (u : TableId). u.0) own in
        let number' : g'.table.id.0 ≡ t.0 = ap (λ (u : Table). u.id.0) more.beside.table ∙ number in
        let w = v g.table.id.0 in
        let shown = shown_forms b es g (forms_in xs g.table) index same w k.held k.shown in
        shown_at b es' xs' (with_part v t.0 (born_data i.0 s (v t.0))) g' g.table (born_data i.0 s w) k.held more.beside.table
        (ap (with_part v t.0 (born_data i.0 s (v t.0))) number' ∙ (with_part-here v t.0 (born_data i.0 s (v t.0)) ∙ ap (λ (n : ℕ). born_data i.0 s (v n)) (sym number)))
        tallied
        (shown_more b right es legal e may g g' y k.held k.tallied more i s what act_is refl index w shown form)
        (told_born index w k.held k.tallied shown form (told_forms b es g (forms_in xs g.table) index same w k.told))
        (built_table b index es' (born_data i.0 s w) g.table g'.table (sym more.beside.table)
        (are_born (form_of b index g) es w e t i s what (inl is) (bears b right es legal e may g g' y k.held k.tallied more i s what act_is refl index w shown form).bears (built_as b es g (forms_in xs g.table) index same w k.held k.shown k.built)))
