-- What a table shows with an index less.
use Rattle.std.proofs.Common.{◌≡◌, ℕ, ◌≤◌, Bool, Some, List, [], ◌∷◌, ◌++◌, length, map, get_or, slice_get, refl, ap, sym, ◌∙◌, subst}
use Rattle.std.specs.Prelude.{filter, not, ◌==◌}
use Rattle.px_values.specs.declared.name.IndexId.{IndexId}
use Rattle.px_tables.specs.declared.table.Table.{Table}
use Rattle.px_trail.specs.declared.entry.Act.{Act}
use Rattle.px_trail.specs.declared.entry.Act.TheVariants.{Dropped}
use Rattle.px_trail.specs.declared.entry.Entry.{Entry}
use Rattle.px_trail.specs.Legal.{MayCome}
use Rattle.px_trail.specs.Trail.{Base}
use Rattle.px_forms.specs.Indexes.{IndexForm}
use Rattle.px_indexrow.specs.Form.{index_form}
use Rattle.px_indexed.specs.Idle.{IsElsewhere}
use Rattle.px_indexed.specs.Kept.{IndexKept}
use Rattle.px_indexed.specs.Worlds.{Indexed}
use Rattle.px_indexed.proofs.Idle.{act_idle}
use Rattle.px_groupworld.specs.Group.{GroupData, GroupKept, IndexPart, OpenBatch, TableForm, as_index, no_part}
use Rattle.px_groupworld.specs.Steps.{no_events}
use Rattle.px_openbatches.specs.Pending.{HeldBatch, HeldKept}
use Rattle.px_tablesteps.specs.Kept.{TableKept, TableSteps, open_of}
use Rattle.px_tablesteps.proofs.Steps.{table_idle}
use Rattle.px_region.specs.Region.{read_of}
use Rattle.px_region.specs.declared.region.Region.{Region}
use Rattle.px_group.specs.Group.{IsPartOf, IsShownBy, IsTallied, form_of}
use Rattle.px_group.specs.declared.group.Group.{Group}
use Rattle.px_group.specs.declared.group.IndexRegion.{IndexRegion}
use Rattle.px_defined.specs.Defined.{HasIndexLess, dropped_data}
use Rattle.px_defined.proofs.Lists.{ArePaired, at_get, from_filter, get_at, paired_at, paired_filter, paired_length, to_paired, within}
use Rattle.px_defined.proofs.ShownTable.{kept_of}
use Rattle.px_defined.proofs.Going.{none_open}

-- what is kept of a table
kept_fewer : (f : TableForm) (es : List Entry) (v : GroupData) (keep : IndexPart → Bool) → GroupKept f es v → v.opens ≡ [] → GroupKept f es (record v { indexes = filter keep v.indexes; opens = [] })
kept_fewer f es v keep g none = record {
  legal = g.legal;
  base = g.base;
  shape = g.shape;
  high = g.high;
  indexes = λ k l.
      let m = from_filter keep v.indexes k (get_or (filter keep v.indexes) k no_part) (at_get (filter keep v.indexes) k no_part l) in
      let same = get_at v.indexes m.0 no_part (get_or (filter keep v.indexes) k no_part) m.1.0 in
      let was : IndexKept f.rows.shape f.base es f.id.0 v.high (as_index f v.low [] m.0 (get_or v.indexes m.0 no_part)) =
      subst (λ (os : List OpenBatch). IndexKept f.rows.shape f.base es f.id.0 v.high (as_index f v.low os m.0 (get_or v.indexes m.0 no_part))) none (g.indexes m.0 (within v.indexes m.0 (get_or (filter keep v.indexes) k no_part) m.1.0)) in
      subst (λ (y : Indexed). IndexKept f.rows.shape f.base es f.id.0 v.high y) (ap (as_index f v.low [] k) same) was;
  told = g.told;
  low = g.low;
  own = λ k l.
      (let m = from_filter keep v.indexes k (get_or (filter keep v.indexes) k no_part) (at_get (filter keep v.indexes) k no_part l) in
      subst (λ (p : IndexPart). p.horizon ≤ v.high) (get_at v.indexes m.0 no_part (get_or (filter keep v.indexes) k no_part) m.1.0) (g.own m.0 (within v.indexes m.0 (get_or (filter keep v.indexes) k no_part) m.1.0)));
  begun = tt;
  apart = tt;
}

module _ (b : Base) (es : List Entry) (e : Entry) (may : MayCome b es e) (g g' : Group) (id : IndexId) (hs : List HeldBatch) (k : IsTallied b es g hs) (h : HasIndexLess g g' id.0) (none : g.batches.items ≡ []) (is : e.act ≡ Dropped g.table.id (Some id)) (index : ℕ → IndexForm) (v : GroupData)
    (shown : IsShownBy b index es g v hs) where
  abbrev form : TableForm
  form = form_of b index g

  abbrev n : ℕ
  n = id.0

  abbrev hold : IndexRegion → Bool
  hold x = not (x.index.id.0 == n)

  abbrev keep : IndexPart → Bool
  keep p = not (p.id == n)

  elsewhere : IsElsewhere g.table.id e.act
  elsewhere = subst (λ (a : Act). IsElsewhere g.table.id a) (sym is) tt

  none_held_now : hs ≡ []
  none_held_now = none_open b es g hs k none

  told : TableSteps form no_events es v (es ++ e ∷ []) v hs
  told = table_idle form es v hs shown.kept e may (act_idle g.table.id e elsewhere)

  less_kept : TableKept form (es ++ e ∷ []) (dropped_data n v) []
  less_kept = record {
    group = kept_fewer form (es ++ e ∷ []) v keep told.kept.group (told.kept.same ∙ ap (map open_of) none_held_now);
    opens = record { held = subst (λ (l : List HeldBatch). HeldKept b (es ++ e ∷ []) g.table.id.0 l) none_held_now told.kept.opens.held; ready = tt };
    same = refl;
    shut = tt;
  }

  alike : (p : IndexPart) (x : IndexRegion) → IsPartOf p x → keep p ≡ hold x
  alike p x q = ap (λ (m : ℕ). not (m == n)) q.id

  pairs : ArePaired keep hold IsPartOf alike no_part (filter keep v.indexes) (filter hold g.indexes.items)
  pairs = paired_filter keep hold IsPartOf alike no_part v.indexes g.indexes.items (to_paired keep hold IsPartOf alike no_part v.indexes g.indexes.items shown.count shown.parts)

  pub shown_less : IsShownBy b index (es ++ e ∷ []) g' (dropped_data n v) []
  shown_less = record {
    kept = kept_of b index g g' (es ++ e ∷ []) (dropped_data n v) [] h.beside less_kept;
    rows = shown.rows ∙ ap (λ (w : Region). read_of w) (sym h.beside.rows);
    count = paired_length keep hold IsPartOf alike no_part (filter keep v.indexes) (filter hold g.indexes.items) pairs ∙ sym (ap (λ (l : List IndexRegion). length l) h.indexes);
    parts = λ j z at. paired_at keep hold IsPartOf alike no_part (filter keep v.indexes) (filter hold g.indexes.items) pairs j z (sym (ap (λ (l : List IndexRegion). slice_get l j) h.indexes) ∙ at);
    forms = λ j z at.
        (let w = from_filter hold g.indexes.items j z (sym (ap (λ (l : List IndexRegion). slice_get l j) h.indexes) ∙ at) in
        subst (λ (u : Table). index z.index.id.0 ≡ index_form u z.index) (sym h.beside.table) (shown.forms w.0 z w.1.0));
  }
