-- The entry that tells of base versions is no event of the table.
use Rattle.std.proofs.Common.{◌≡◌, ℕ, List, [], ◌∷◌, ◌++◌, refl, ap, sym, ◌∙◌, subst, arith}
use Rattle.px_forms.specs.Indexes.{IndexForm}
use Rattle.px_groupworld.specs.Group.{GroupData, TableForm, shape_in, world_in}
use Rattle.px_groupworld.specs.Steps.{Events, no_events}
use Rattle.px_world.specs.IndexCells.{Moves}
use Rattle.px_indexed.specs.Idle.{IsElsewhere}
use Rattle.px_indexed.proofs.Idle.{act_idle}
use Rattle.px_noting.specs.Apart.{IsApartFrom}
use Rattle.px_noting.proofs.Others.{tallied_apart, traced_elsewhere}
use Rattle.px_openbatches.specs.Pending.{HeldBatch}
use Rattle.px_tablesteps.specs.Kept.{TableKept, TableSteps}
use Rattle.px_tablesteps.proofs.Steps.{table_idle}
use Rattle.px_trail.specs.Legal.{MayCome}
use Rattle.px_trail.specs.Trail.{Base, Catalogue, catalogue_of, catalogue_step}
use Rattle.px_trail.specs.declared.entry.Act.TheVariants.{Based}
use Rattle.px_trail.specs.declared.entry.Entry.{Entry}
use Rattle.px_trail.proofs.Growth.{catalogue-snoc}
use Rattle.px_values.specs.declared.name.IndexId.{IndexId}
use Rattle.px_values.specs.declared.name.TableId.{TableId}
use Rattle.px_values.specs.declared.row.Value.{Value}
use Rattle.px_group.specs.Group.{AreStanding, AreTraced, IsShownBy, IsTallied, form_of}
use Rattle.px_group.specs.declared.group.Group.{Group}

module _ (e : Entry) (i : IndexId) (rows : List (List Value)) (is : e.act ≡ Based i rows) where
  apart : (id : TableId) → IsApartFrom id e.act
  apart id = subst (IsApartFrom id) (sym is) tt

  pub elsewhere : (id : TableId) → IsElsewhere id e.act
  elsewhere id = subst (IsElsewhere id) (sym is) tt

  still_by : (c : Catalogue) → catalogue_step c (Based i rows) ≡ c
  unfolding catalogue_step
  still_by c = refl

  standing_on : (b : Base) (es : List Entry) (g : Group) → AreStanding b es g → AreStanding b (es ++ e ∷ []) g
  standing_on b es g a = (let
      same : catalogue_of b (es ++ e ∷ []) ≡ catalogue_of b es = catalogue-snoc b es e ∙ (ap (catalogue_step (catalogue_of b es)) is ∙ still_by (catalogue_of b es))
      in record {
        table = ap (λ (c : Catalogue). c.tables g.table.id.0) same ∙ a.table;
        index = λ j x at. ap (λ (c : Catalogue). c.indexes x.index.id.0) same ∙ a.index j x at;
        all = λ y at of_table maintained. a.all y (ap (λ (c : Catalogue). c.indexes y.id.0) (sym same) ∙ at) of_table maintained;
      })

  pub tallied_noted : (b : Base) (es : List Entry) (g : Group) (hs : List HeldBatch) → IsTallied b es g hs → IsTallied b (es ++ e ∷ []) g hs
  tallied_noted b es g hs k = tallied_apart b es g hs k e (apart g.table.id) (standing_on b es g k.standing)

  pub traced_noted : (b : Base) (es : List Entry) (g : Group) → AreTraced es g → AreTraced (es ++ e ∷ []) g
  traced_noted b es g k = record { each = traced_elsewhere b es g.table.id e (elsewhere g.table.id) g.batches.items k.each; once = k.once }

  module _ (f : TableForm) (ev : Events) (es : List Entry) (v now : GroupData) (hs : List HeldBatch) (may : MayCome f.base es e) where
    then : TableKept f es now hs → TableSteps f no_events es now (es ++ e ∷ []) now hs
    then k = table_idle f es now hs k e may (act_idle f.id e (elsewhere f.id))

    -- a step, and then the entry
    pub steps_noted : TableSteps f ev es v es now hs → TableSteps f ev es v (es ++ e ∷ []) now hs
    steps_noted s = record {
      kept = (then s.kept).kept;
      does = record {
        count = s.does.count;
        each = λ i l r. subst (Moves (shape_in f v i r) (ev i r) (world_in f es v i r)) (sym ((then s.kept).does.each i (let n = s.does.count in omega (arith, n, l)) r)) (s.does.each i l r);
      };
    }

  pub shown_noted : (b : Base) (index : ℕ → IndexForm) (es : List Entry) (g : Group) (v : GroupData) (hs : List HeldBatch) → MayCome b es e → IsShownBy b index es g v hs → IsShownBy b index (es ++ e ∷ []) g v hs
  shown_noted b index es g v hs may k = record { kept = (table_idle (form_of b index g) es v hs k.kept e may (act_idle g.table.id e (elsewhere g.table.id))).kept; rows = k.rows; count = k.count; parts = k.parts; forms = k.forms }
