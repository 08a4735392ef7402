-- What a group shows when an index of its table is dropped.
use Rattle.std.proofs.Common.{◌≡◌, ℕ, Bool, List, [], ◌∷◌, ◌++◌, map, get_or, slice_get, Some, refl, sym, ap, subst, ◌∙◌}
use Rattle.std.specs.Prelude.{filter, not, ◌==◌}
use Rattle.px_outside.specs.Parts.{with_part}
use Rattle.px_outside.proofs.Parts.{with_part-here}
use Rattle.px_values.specs.declared.name.IndexId.{IndexId}
use Rattle.px_values.specs.declared.name.TableId.{TableId}
use Rattle.px_tables.specs.declared.index.Index.{Index}
use Rattle.px_tables.specs.declared.table.Table.{Table}
use Rattle.px_trail.specs.declared.entry.Act.{Act}
use Rattle.px_trail.specs.declared.entry.Act.TheVariants.{Dropped}
use Rattle.px_indexed.specs.Idle.{IsElsewhere}
use Rattle.px_trail.specs.declared.entry.Entry.{Entry}
use Rattle.px_trail.specs.Legal.{MayCome}
use Rattle.px_trail.specs.Trail.{Base, catalogue_of}
use Rattle.px_trail.proofs.Orders.{WritesNone}
use Rattle.px_forms.specs.Indexes.{IndexForm}
use Rattle.px_rows.specs.Spelled.{row_form}
use Rattle.px_groupworld.specs.Group.{GroupData, GroupKept, IndexPart, no_part, table_form}
use Rattle.px_openbatches.specs.Pending.{HeldBatch}
use Rattle.px_tablesteps.specs.Kept.{open_of}
use Rattle.px_tablereads.specs.Told.{AreTold}
use Rattle.px_tablereads.proofs.Tells.{quiet_written, told_same}
use Rattle.px_group.specs.Group.{IsShownBy, IsTallied, form_of}
use Rattle.px_group.specs.declared.group.Group.{Group}
use Rattle.px_group.specs.declared.group.IndexRegion.{IndexRegion}
use Rattle.px_defined.specs.Defined.{HasIndexLess, dropped_data}
use Rattle.px_defined.proofs.Going.{none_open}
use Rattle.px_defined.proofs.Lists.{from_filter, paired_at, paired_filter, to_paired}
use Rattle.px_defined.proofs.ShownLess.{shown_less}
use Rattle.px_defined.proofs.TalliedLess.{tallied_less}
use Rattle.px_reading.specs.Doubts.{IsToldBy}
use Rattle.px_recovery.specs.Tables.{form_of_index}
use Rattle.px_server.specs.Kept.{HasShown, HasTallied, forms_in}
use Rattle.px_server.proofs.Built.{IsUnbased, are_less, built_as, built_elsewhere, built_table}
use Rattle.px_server.proofs.Catalogued.{AreForms}
use Rattle.px_server.proofs.Forms.{shown_forms, told_forms}
use Rattle.px_server.proofs.ShownAt.{HasSameForms, shown_at}

module _ (b : Base) (es : List Entry) (e : Entry) (may : MayCome b es e) (t : TableId) (i : IndexId) (is : e.act ≡ Dropped t (Some i)) (g g' : Group) (own : g.table.id ≡ t) (less : HasIndexLess g g' i.0) where
  abbrev es' : List Entry
  es' = es ++ e ∷ []

  abbrev keep : IndexPart → Bool
  keep p = not (p.id == i.0)

  abbrev hold : IndexRegion → Bool
  hold x = not (x.index.id.0 == i.0)

  quiet : WritesNone e.act
  quiet = subst WritesNone (sym is) tt

  act_is : e.act ≡ Dropped g.table.id (Some i)
  act_is = is ∙ ap (λ (u : TableId). Dropped u (Some i)) (sym own)

  pub tallied_gone : (hs : List HeldBatch) → IsTallied b es g hs → IsTallied b es' g' hs
  tallied_gone hs k = tallied_less b es e g g' i hs k less act_is

  pub has_tallied_gone : HasTallied b es g → HasTallied b es' g'
  has_tallied_gone k = record { held = k.held; tallied = tallied_gone k.held k.tallied }

  module _ (none : g.batches.items ≡ []) where
    -- no batch of its data is open
    pub closed_data : (index : ℕ → IndexForm) (v : GroupData) (hs : List HeldBatch) → IsTallied b es g hs → IsShownBy b index es g v hs → v.opens ≡ []
    closed_data index v hs k shown = shown.kept.same ∙ ap (λ (l : List HeldBatch). map open_of l) (none_open b es g hs k none)

    module _ (index : ℕ → IndexForm) (v : GroupData) (hs : List HeldBatch) (k : IsTallied b es g hs) (shown : IsShownBy b index es g v hs) where
      then : IsShownBy b index es' g' (dropped_data i.0 v) []
      then = shown_less b es e may g g' i hs k less none act_is index v shown

      told_gone : IsToldBy b index es g v → IsToldBy b index es' g' (dropped_data i.0 v)
      told_gone told =
          let Is : IndexPart → IndexRegion → Type 0 = λ p x. (p.id ≡ x.index.id.0) × (p.horizon ≡ x.region.horizon) in
          let alike : (p : IndexPart) (x : IndexRegion) → Is p x → keep p ≡ hold x = λ p x q. ap (λ (m : ℕ). not (m == i.0)) q.0 in
          record {
            told = told_same (form_of b index g') es v (subst (λ (u : Table). GroupKept (table_form b u.id index (row_form u)) es v) (sym less.beside.table) shown.kept.group) es' (dropped_data i.0 v) then.kept.group
                (subst (λ (u : Table). AreTold (table_form b u.id index (row_form u)) es v) (sym less.beside.table) told.told) refl refl
                (quiet_written (form_of b index g') es v (subst (λ (u : Table). GroupKept (table_form b u.id index (row_form u)) es v) (sym less.beside.table) shown.kept.group) e quiet);
            own = λ j z at.
                (paired_at keep hold Is alike no_part (filter keep v.indexes) (filter hold g.indexes.items)
                (paired_filter keep hold Is alike no_part v.indexes g.indexes.items (to_paired keep hold Is alike no_part v.indexes g.indexes.items shown.count (λ m x there. ((shown.parts m x there).id, told.own m x there)))) j z
                (sym (ap (λ (l : List IndexRegion). slice_get l j) less.indexes) ∙ at)).1;
          }

    -- the other indexes stand as they did
    pub has_shown_gone : (xs xs' : List Index) → AreForms xs (catalogue_of b es) → AreForms xs' (catalogue_of b es') → (v : ℕ → GroupData) → HasShown b es xs v g → HasShown b es' xs' (with_part v t.0 (dropped_data i.0 (v t.0))) g'
    has_shown_gone xs xs' forms forms' v k =
        let index = forms_in xs g.table in
        let index' = forms_in xs' g.table in
        let tallied = tallied_gone k.held k.tallied in
        let number : g.table.id.0 ≡ t.0 = ap (λ (u : TableId). u.0) own in
        let number' : g'.table.id.0 ≡ t.0 = ap (λ (u : Table). u.id.0) less.beside.table ∙ number in
        let w = v g.table.id.0 in
        let same : HasSameForms g' index index' = λ j x at.
        (let from = from_filter hold g.indexes.items j x (sym (ap (λ (l : List IndexRegion). slice_get l j) less.indexes) ∙ at) in
        forms' g.table x.index.id.0 ∙ (ap (form_of_index g.table) (tallied.standing.index j x at ∙ sym (k.tallied.standing.index from.0 x from.1.0)) ∙ sym (forms g.table x.index.id.0))) in
        shown_at b es' xs' (with_part v t.0 (dropped_data i.0 (v t.0))) g' g.table (dropped_data i.0 w) [] less.beside.table
        (ap (with_part v t.0 (dropped_data i.0 (v t.0))) number' ∙ (with_part-here v t.0 (dropped_data i.0 (v t.0)) ∙ ap (λ (n : ℕ). dropped_data i.0 (v n)) (sym number)))
        (subst (λ (l : List HeldBatch). IsTallied b es' g' l) (none_open b es g k.held k.tallied none) tallied)
        (shown_forms b es' g' index index' same (dropped_data i.0 w) [] (then index w k.held k.tallied k.shown))
        (told_forms b es' g' index index' same (dropped_data i.0 w) (told_gone index w k.held k.tallied k.shown k.told))
        (built_as b es' g' index index' same (dropped_data i.0 w) [] (then index w k.held k.tallied k.shown)
        (built_table b index es' (dropped_data i.0 w) g.table g'.table (sym less.beside.table)
        (are_less (form_of b index g) es' w i.0 (built_elsewhere (form_of b index g) es w k.shown.kept.group e may (subst (λ (act : Act). IsElsewhere g.table.id act) (sym is) tt) (λ j l. subst (IsUnbased (get_or w.indexes j no_part).id) (sym is) tt) k.built))))
