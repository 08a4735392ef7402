-- What queries may rely on.
use Rattle.std.proofs.Common.{◌≡◌, ℕ, true, List, get_or, ap, sym, ◌∙◌, subst}
use Rattle.px_values.specs.declared.row.Value.{Value}
use Rattle.px_values.specs.States.{RowState, Shape}
use Rattle.px_trail.specs.declared.entry.Entry.{Entry}
use Rattle.px_trail.specs.States.{state_of}
use Rattle.px_world.specs.Shape.{has_key, IsShown}
use Rattle.px_world.specs.World.{vis}
use Rattle.px_world.proofs.Runs.{consequence}
use Rattle.px_forms.proofs.Views.{lawful_at}
use Rattle.px_history.specs.Rows.{state_by}
use Rattle.px_groupworld.specs.Group.{TableForm, GroupData, GroupKept, AllAnswer, no_part, shape_in, world_in}
use Rattle.px_groupworld.proofs.Entries.{rows_of_group}

module _ (f : TableForm) (es : List Entry) (v : GroupData) (k : GroupKept f es v) where
  -- the states by the table's shape are the trail's
  pub state_is : (r : List Value) (p : ℕ) → state_by f.rows.shape f.base es f.id.0 r p ≡ state_of f.base es f.id.0 r p
  state_is r p = ap (λ (sh : Shape). state_by sh f.base es f.id.0 r p) (sym k.shape)

  pub group_answers : AllAnswer f es v
  group_answers = record {
    each = λ i l built r p high.
        (let c = consequence (shape_in f v i r) (lawful_at f.rows.shape (f.index (get_or v.indexes i no_part).id) r (k.indexes i l).form) (world_in f es v i r) ((k.indexes i l).kept r) built p high in
        let same = ((rows_of_group f es v k).tied r).states p ∙ state_is r p in
        record {
          top_is = λ a s t z. subst (λ (o : RowState). (has_key (shape_in f v i r) a o ≡ true) × IsShown (shape_in f v i r) (vis (world_in f es v i r) a p) o) same (c.top_is a s t z);
          row_has = λ a h. c.row_has a (subst (λ (o : RowState). has_key (shape_in f v i r) a o ≡ true) (sym same) h);
        });
    rows = λ r p l. k.told.spells r p l ∙ state_is r p;
  }
