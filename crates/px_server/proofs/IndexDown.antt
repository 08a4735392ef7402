-- What a group shows when an index of its table is disabled.
use Rattle.std.proofs.Common.{◌≡◌, ℕ, Bool, Some, List, [], ◌∷◌, ◌++◌, get_or, slice_get, refl, sym, ap, subst, ◌∙◌}
use Rattle.std.specs.Prelude.{filter, not, ◌==◌}
use Rattle.px_outside.specs.Parts.{with_part}
use Rattle.px_outside.proofs.Parts.{with_part-here}
use Rattle.px_values.specs.declared.name.IndexId.{IndexId}
use Rattle.px_values.specs.declared.name.TableId.{TableId}
use Rattle.px_tables.specs.declared.index.Index.{Index}
use Rattle.px_tables.specs.declared.index.IndexState.TheVariants.{Disabled}
use Rattle.px_tables.specs.declared.table.Table.{Table}
use Rattle.px_trail.specs.declared.entry.Act.{Act}
use Rattle.px_trail.specs.declared.entry.Act.TheVariants.{IndexState}
use Rattle.px_trail.specs.declared.entry.Entry.{Entry}
use Rattle.px_trail.specs.Legal.{MayCome}
use Rattle.px_trail.specs.Trail.{Base, catalogue_of}
use Rattle.px_trail.proofs.Orders.{WritesNone}
use Rattle.px_forms.specs.Indexes.{IndexForm}
use Rattle.px_indexed.specs.Idle.{IsElsewhere}
use Rattle.px_rows.specs.Spelled.{row_form}
use Rattle.px_groupworld.specs.Group.{GroupData, GroupKept, IndexPart, no_part, table_form}
use Rattle.px_openbatches.specs.Pending.{HeldBatch}
use Rattle.px_tablereads.specs.Told.{AreTold}
use Rattle.px_tablereads.proofs.Tells.{quiet_written, told_same}
use Rattle.px_group.specs.Group.{IsShownBy, IsTallied, form_of}
use Rattle.px_group.specs.declared.group.Group.{Group}
use Rattle.px_group.specs.declared.group.IndexRegion.{IndexRegion}
use Rattle.px_defined.specs.Defined.{HasIndexLess, dropped_data}
use Rattle.px_defined.proofs.Going.{none_open}
use Rattle.px_defined.proofs.Lists.{from_filter, paired_at, paired_filter, to_paired}
use Rattle.px_disabled.proofs.Less.{tallied_disabled}
use Rattle.px_disabled.proofs.LessShown.{shown_disabled}
use Rattle.px_reading.specs.Doubts.{IsToldBy}
use Rattle.px_recovery.specs.Tables.{form_of_index}
use Rattle.px_server.specs.Kept.{HasShown, HasTallied, forms_in}
use Rattle.px_server.proofs.Built.{IsUnbased, are_less, built_as, built_elsewhere, built_table}
use Rattle.px_server.proofs.Catalogued.{AreForms}
use Rattle.px_server.proofs.Forms.{shown_forms, told_forms}
use Rattle.px_server.proofs.ShownAt.{HasSameForms, shown_at}

abbrev Alike : IndexPart → IndexRegion → Type 0
Alike p x = (p.id ≡ x.index.id.0) × (p.horizon ≡ x.region.horizon)

-- the horizons of a table without an index are those of its regions
pub horizons_less : (g g' : Group) (n : ℕ) → HasIndexLess g g' n → (b : Base) (index : ℕ → IndexForm) (es : List Entry) (v : GroupData) (hs : List HeldBatch) → IsShownBy b index es g v hs → IsToldBy b index es g v
    → (j : ℕ) (z : IndexRegion) → slice_get g'.indexes.items j ≡ Some z → (get_or (dropped_data n v).indexes j no_part).horizon ≡ z.region.horizon
horizons_less g g' n less b index es v hs shown told j z at =
    let keep : IndexPart → Bool = λ p. not (p.id == n) in
    let hold : IndexRegion → Bool = λ x. not (x.index.id.0 == n) in
    let alike : (p : IndexPart) (x : IndexRegion) → Alike p x → keep p ≡ hold x = λ p x q. ap (λ (m : ℕ). not (m == n)) q.0 in
    (paired_at keep hold Alike alike no_part (filter keep v.indexes) (filter hold g.indexes.items)
    (paired_filter keep hold Alike alike no_part v.indexes g.indexes.items (to_paired keep hold Alike alike no_part v.indexes g.indexes.items shown.count (λ m x there. ((shown.parts m x there).id, told.own m x there)))) j z
    (sym (ap (λ (l : List IndexRegion). slice_get l j) less.indexes) ∙ at)).1

-- what a repair rests on goes on with an entry that writes nothing
pub told_on : (b : Base) (es : List Entry) (e : Entry) → WritesNone e.act → (g g' : Group) → g'.table ≡ g.table → (index : ℕ → IndexForm) (v v' : GroupData) (hs hs' : List HeldBatch) → IsShownBy b index es g v hs → IsShownBy b index (es ++ e ∷ []) g' v' hs' → v'.cells ≡ v.cells → v'.low ≡ v.low
    → IsToldBy b index es g v → AreTold (form_of b index g') (es ++ e ∷ []) v'
told_on b es e quiet g g' table index v v' hs hs' shown then cells low told =
    let kept : GroupKept (form_of b index g') es v = subst (λ (u : Table). GroupKept (table_form b u.id index (row_form u)) es v) (sym table) shown.kept.group in
    told_same (form_of b index g') es v kept (es ++ e ∷ []) v' then.kept.group (subst (λ (u : Table). AreTold (table_form b u.id index (row_form u)) es v) (sym table) told.told) low cells
    (quiet_written (form_of b index g') es v kept e quiet)

module _ (b : Base) (es : List Entry) (e : Entry) (may : MayCome b es e) (t : TableId) (i : IndexId) (s : ℕ) (is : e.act ≡ IndexState t i Disabled s) (g g' : Group) (own : g.table.id ≡ t) (less : HasIndexLess g g' i.0) where
  abbrev es' : List Entry
  es' = es ++ e ∷ []

  quiet : WritesNone e.act
  quiet = subst WritesNone (sym is) tt

  act_is : e.act ≡ IndexState g.table.id i Disabled s
  act_is = is ∙ ap (λ (u : TableId). IndexState u i Disabled s) (sym own)

  pub has_tallied_down : HasTallied b es g → HasTallied b es' g'
  has_tallied_down k = record { held = k.held; tallied = tallied_disabled b es e g g' i k.held k.tallied less s act_is }

  module _ (none : g.batches.items ≡ []) where
    module _ (index : ℕ → IndexForm) (v : GroupData) (hs : List HeldBatch) (k : IsTallied b es g hs) (shown : IsShownBy b index es g v hs) where
      then : IsShownBy b index es' g' (dropped_data i.0 v) []
      then = shown_disabled b es e may g g' i hs k less none s act_is index v shown

      told_down : IsToldBy b index es g v → IsToldBy b index es' g' (dropped_data i.0 v)
      told_down told = record { told = told_on b es e quiet g g' less.beside.table index v (dropped_data i.0 v) hs [] shown then refl refl told; own = horizons_less g g' i.0 less b index es v hs shown told }

    -- the other indexes stand as they did
    pub has_shown_down : (xs xs' : List Index) → AreForms xs (catalogue_of b es) → AreForms xs' (catalogue_of b es') → (v : ℕ → GroupData) → HasShown b es xs v g → HasShown b es' xs' (with_part v t.0 (dropped_data i.0 (v t.0))) g'
    has_shown_down xs xs' forms forms' v k =
        let index = forms_in xs g.table in
        let index' = forms_in xs' g.table in
        let tallied = tallied_disabled b es e g g' i k.held k.tallied less s act_is in
        let number : g.table.id.0 ≡ t.0 = ap (λ (u : TableId). u.0) own in
        let number' : g'.table.id.0 ≡ t.0 = ap (λ (u : Table). u.id.0) less.beside.table ∙ number in
        let w = v g.table.id.0 in
        let same : HasSameForms g' index index' = λ j x at.
        (let from = from_filter (λ (y : IndexRegion). not (y.index.id.0 == i.0)) g.indexes.items j x (sym (ap (λ (l : List IndexRegion). slice_get l j) less.indexes) ∙ at) in
        forms' g.table x.index.id.0 ∙ (ap (form_of_index g.table) (tallied.standing.index j x at ∙ sym (k.tallied.standing.index from.0 x from.1.0)) ∙ sym (forms g.table x.index.id.0))) in
        shown_at b es' xs' (with_part v t.0 (dropped_data i.0 (v t.0))) g' g.table (dropped_data i.0 w) [] less.beside.table
        (ap (with_part v t.0 (dropped_data i.0 (v t.0))) number' ∙ (with_part-here v t.0 (dropped_data i.0 (v t.0)) ∙ ap (λ (n : ℕ). dropped_data i.0 (v n)) (sym number)))
        (subst (λ (l : List HeldBatch). IsTallied b es' g' l) (none_open b es g k.held k.tallied none) tallied)
        (shown_forms b es' g' index index' same (dropped_data i.0 w) [] (then index w k.held k.tallied k.shown))
        (told_forms b es' g' index index' same (dropped_data i.0 w) (told_down index w k.held k.tallied k.shown k.told))
        (built_as b es' g' index index' same (dropped_data i.0 w) [] (then index w k.held k.tallied k.shown)
        (built_table b index es' (dropped_data i.0 w) g.table g'.table (sym less.beside.table)
        (are_less (form_of b index g) es' w i.0 (built_elsewhere (form_of b index g) es w k.shown.kept.group e may (subst (λ (act : Act). IsElsewhere g.table.id act) (sym is) tt) (λ j l. subst (IsUnbased (get_or w.indexes j no_part).id) (sym is) tt) k.built))))
