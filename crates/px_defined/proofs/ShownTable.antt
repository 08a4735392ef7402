-- What a table shows that is made, and how its rows are spelled when it is defined anew.
use Rattle.std.proofs.Common.{◌≡◌, ℕ, Some, None, List, [], ◌∷◌, ◌++◌, length, slice_get, refl, ap, sym, ◌∙◌, subst}
use Rattle.px_values.specs.declared.name.TableId.{TableId}
use Rattle.px_tables.specs.declared.table.NewTable.{NewTable}
use Rattle.px_tables.specs.declared.table.Table.{Table}
use Rattle.px_trail.specs.declared.entry.Act.TheVariants.{Made}
use Rattle.px_trail.specs.declared.entry.Entry.{Entry}
use Rattle.px_trail.specs.Legal.{IsLegal, MayCome}
use Rattle.px_trail.specs.Trail.{Base, IsRightBase, catalogue_of, made_table}
use Rattle.px_forms.specs.Indexes.{IndexForm}
use Rattle.px_rows.specs.Spelled.{row_form}
use Rattle.px_rows.proofs.Spelled.{nothing_spelled, nothing_whole, table_laws}
use Rattle.px_groupworld.specs.Group.{GroupData, table_form}
use Rattle.px_groupworld.specs.Sound.{made_data}
use Rattle.px_groupworld.proofs.Makes.{group_made}
use Rattle.px_openbatches.specs.Pending.{HeldBatch}
use Rattle.px_tablesteps.specs.Kept.{TableKept}
use Rattle.px_group.specs.Group.{IsShownBy, form_of}
use Rattle.px_group.specs.declared.group.Group.{Group}
use Rattle.px_group.specs.declared.group.IndexRegion.{IndexRegion}
use Rattle.px_defined.specs.Defined.{IsNewGroup, IsSameBeside}
use Rattle.px_defined.proofs.TalliedTable.{none_held}

no_place : {A : Type 0} {x : A} → None ≡ Some x → ⊥
no_place q = cc

-- how rows are spelled, of the table as it is now
pub kept_of : (b : Base) (index : ℕ → IndexForm) (g g' : Group) (es : List Entry) (v : GroupData) (hs : List HeldBatch) → IsSameBeside g g' → TableKept (form_of b index g) es v hs → TableKept (form_of b index g') es v hs
kept_of b index g g' es v hs beside k = subst (λ (u : Table). TableKept (table_form b u.id index (row_form u)) es v hs) (sym beside.table) k

module _ (b : Base) (right : IsRightBase b) (es : List Entry) (legal : IsLegal b es) (e : Entry) (may : MayCome b es e) (id : TableId) (what : NewTable) (is : e.act ≡ Made id what) (index : ℕ → IndexForm) where
  abbrev made : Table
  made = made_table (catalogue_of b es).next id what

  made_kept : TableKept (table_form b id index (row_form made)) (es ++ e ∷ []) made_data []
  made_kept = record {
    group = group_made (table_form b id index (row_form made)) right es legal e may what is refl (table_laws made) (λ r p. nothing_spelled made r p) (λ r. nothing_whole made 0 r);
    opens = record { held = none_held b right es legal e may id what is; ready = tt };
    same = refl;
    shut = tt;
  }

  pub shown_new : (t : Table) → t ≡ made → (g : Group) → IsNewGroup t g → IsShownBy b index (es ++ e ∷ []) g made_data []
  shown_new t t_is g n = record {
    kept = subst (λ (u : Table). TableKept (table_form b u.id index (row_form u)) (es ++ e ∷ []) made_data []) (sym (n.table ∙ t_is)) made_kept;
    rows = sym n.fresh.store;
    count = sym (ap (λ (l : List IndexRegion). length l) n.indexes);
    parts = λ i x q. absurd (no_place (ap (λ (l : List IndexRegion). slice_get l i) (sym n.indexes) ∙ q));
    forms = λ i x q. absurd (no_place (ap (λ (l : List IndexRegion). slice_get l i) (sym n.indexes) ∙ q));
  }
