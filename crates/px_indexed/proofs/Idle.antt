-- An entry that tells nothing of a table's batches: a repair, or an act on another table.
use Rattle.std.proofs.Common.{◌≡◌, ℕ, ◌≤◌, Bool, true, false, ◌&&◌, if◌then◌else◌, Option, Some, None, List, [], ◌∷◌, ◌++◌, refl, ap, sym, ◌∙◌, subst, arith}
use Rattle.std.proofs.lemmas.Bool.{ne_eqb}
use Rattle.std.proofs.lemmas.List.{append-nil}
use Rattle.px_values.specs.declared.row.Value.{Value}
use Rattle.px_values.specs.declared.name.TableId.{TableId}
use Rattle.px_trail.specs.declared.entry.Act.{Act}
use Rattle.px_trail.specs.declared.entry.Act.TheVariants.{Begun, Wrote, Ended, Phase, Raised, Made}
use Rattle.px_trail.specs.declared.entry.Entry.{Entry}
use Rattle.px_values.specs.States.{RowState, Shape as RowShape}
use Rattle.px_trail.specs.Trail.{Base, horizon_step, last_of, shape_step}
use Rattle.px_trail.specs.Batches.{Batch, batch_of, batch_step}
use Rattle.px_trail.specs.States.{begun, begun_by}
use Rattle.px_trail.proofs.Batches.{last_step-le}
use Rattle.px_trail.proofs.Growth.{batch_of-snoc, begun-snoc, last-snoc}
use Rattle.px_world.specs.Facts.{Kept}
use Rattle.px_history.specs.History.{History}
use Rattle.px_history.proofs.Stays.{step_same}
use Rattle.px_history.specs.Rows.{IsLater, SameChange, history_step}
use Rattle.px_forms.specs.Indexes.{shape_at}
use Rattle.px_indexed.specs.Worlds.{world_at, marked_by, times_of, history_at, Indexed}
use Rattle.px_indexed.specs.Kept.{IndexKept}
use Rattle.px_indexed.proofs.IndexSteps.{world_cong}
use Rattle.px_history.proofs.Changes.{from-snoc}
use Rattle.px_indexed.proofs.Regions.{cells_on}
use Rattle.px_indexed.specs.Idle.{IsElsewhere}

-- what the trail tells of the table's batches and shape stays
pub record IsStill (tid : TableId) (e : Entry) : Type 0 where
  pub batches : (u : ℕ) (o : Option Batch) → batch_step tid.0 u o e.seat e.act ≡ o
  pub begins : (r : List Value) → begun_by tid.0 r e.act ≡ []
  pub history : (sh : RowShape) (r : List Value) (h : History RowState) → history_step sh tid.0 r h e.act ≡ h
  pub shape : (sh : RowShape) → shape_step tid.0 sh e.act ≡ sh

-- and its horizon too
pub record IsIdle (tid : TableId) (e : Entry) : Type 0 where
  pub still : IsStill tid e
  pub horizon : (h : ℕ) → horizon_step tid.0 h e.act ≡ h

if_not : {A : Type 0} (v : Bool) (a c : A) → v ≡ false → (if v then a else c) ≡ c
if_not true a c h = (let z : true ≡ false = h in cc)
if_not false a c h = refl

and_no : (v c : Bool) → v ≡ false → (v && c) ≡ false
and_no true c h = (let z : true ≡ false = h in cc)
and_no false c h = refl

act_batches : (tid : TableId) (seat u : ℕ) (o : Option Batch) (a : Act) → IsElsewhere tid a → batch_step tid.0 u o seat a ≡ o
unfolding batch_step
act_batches tid seat u None (Begun t s cs) n = if_not _ _ _ (and_no _ _ (ne_eqb t.0 tid.0 n))
act_batches tid seat u (Some x) (Wrote t s rows) n = if_not _ _ _ (and_no _ _ (ne_eqb t.0 tid.0 n))
act_batches tid seat u (Some x) (Ended t s) n = if_not _ _ _ (and_no _ _ (ne_eqb t.0 tid.0 n))
act_batches tid seat u (Some x) (Phase t s p) n = if_not _ _ _ (and_no _ _ (ne_eqb t.0 tid.0 n))
act_batches tid seat u None act n = refl
act_batches tid seat u (Some x) act n = refl

act_begins : (tid : TableId) (r : List Value) (a : Act) → IsElsewhere tid a → begun_by tid.0 r a ≡ []
unfolding begun_by
act_begins tid r (Begun t s cs) n = if_not _ _ _ (ne_eqb t.0 tid.0 n)
act_begins tid r act n = refl

act_history : (tid : TableId) (sh : RowShape) (r : List Value) (h : History RowState) (a : Act) → IsElsewhere tid a → history_step sh tid.0 r h a ≡ h
unfolding history_step
act_history tid sh r h (Begun t s cs) n = if_not _ _ _ (ne_eqb t.0 tid.0 n)
act_history tid sh r h (Wrote t s rows) n = if_not _ _ _ (and_no _ _ (ne_eqb t.0 tid.0 n))
act_history tid sh r h (Ended t s) n = if_not _ _ _ (and_no _ _ (ne_eqb t.0 tid.0 n))
act_history tid sh r h act n = refl

act_horizon : (tid : TableId) (h : ℕ) (a : Act) → IsElsewhere tid a → horizon_step tid.0 h a ≡ h
act_horizon tid h (Raised t h') n = if_not _ _ _ (ne_eqb t.0 tid.0 n)
act_horizon tid h act n = refl

act_shape : (tid : TableId) (sh : RowShape) (a : Act) → IsElsewhere tid a → shape_step tid.0 sh a ≡ sh
unfolding shape_step
act_shape tid sh (Made t what) n = if_not _ _ _ (ne_eqb t.0 tid.0 n)
act_shape tid sh act n = refl

pub act_idle : (tid : TableId) (e : Entry) → IsElsewhere tid e.act → IsIdle tid e
act_idle tid e n = record {
  still = record {
    batches = λ u o. act_batches tid e.seat u o e.act n;
    begins = λ r. act_begins tid r e.act n;
    history = λ sh r h. act_history tid sh r h e.act n;
    shape = λ sh. act_shape tid sh e.act n;
  };
  horizon = λ h. act_horizon tid h e.act n;
}

raised_batches : (tid : TableId) (h seat u : ℕ) (o : Option Batch) → batch_step tid.0 u o seat (Raised tid h) ≡ o
unfolding batch_step
raised_batches tid h seat u None = refl
raised_batches tid h seat u (Some x) = refl

-- a horizon that rises tells nothing of batches
pub raised_still : (tid : TableId) (e : Entry) (h : ℕ) → e.act ≡ Raised tid h → IsStill tid e
unfolding begun_by history_step shape_step
raised_still tid e h is = record {
  batches = λ u o. ap (batch_step tid.0 u o e.seat) is ∙ raised_batches tid h e.seat u o;
  begins = λ r. ap (begun_by tid.0 r) is;
  history = λ sh r g. ap (history_step sh tid.0 r g) is;
  shape = λ sh. ap (shape_step tid.0 sh) is;
}

module _ (sh : RowShape) (b : Base) (es : List Entry) (tid : TableId) (raised : ℕ) (e : Entry) (idle : IsStill tid e) where
  abbrev t : ℕ
  t = tid.0

  pub history_idle : (r : List Value) → history_at sh b (es ++ e ∷ []) t r ≡ history_at sh b es t r
  history_idle r = from-snoc sh b es e t r ∙ idle.history sh r (history_at sh b es t r)

  batch_idle : (u : ℕ) → batch_of t u (es ++ e ∷ []) ≡ batch_of t u es
  batch_idle u = batch_of-snoc t u es e ∙ idle.batches u (batch_of t u es)

  pub last_grows : last_of b t es ≤ last_of b t (es ++ e ∷ [])
  last_grows = let p = last-snoc b t es e in let q = last_step-le t (last_of b t es) e.act in omega arith

  pub world_idle : (x : Indexed) (r : List Value) → world_at sh b (es ++ e ∷ []) t raised x r ≡ world_at sh b es t raised x r
  world_idle x r = world_cong (times_of x raised) (history_idle r) (λ j. marked_by (history_idle r j) x.waits) refl

  pub index_idle : (x : Indexed) → IndexKept sh b es t raised x → IndexKept sh b (es ++ e ∷ []) t raised x
  index_idle x g = record {
    form = g.form;
    birth = (let j = g.birth in let l = last_grows in omega arith);
    cells = cells_on x.form (last_of b t es) (last_of b t (es ++ e ∷ [])) x.cells last_grows g.cells;
    marked = λ u y q. g.marked u y (sym (batch_idle u) ∙ q);
    apart = λ u y q. g.apart u y (sym (batch_idle u) ∙ q);
    kept = λ r. subst (Kept (shape_at sh x.form r)) (sym (world_idle x r)) (g.kept r);
  }

  pub begins_idle : (r : List Value) → begun t r (es ++ e ∷ []) ≡ begun t r es
  begins_idle r = begun-snoc t r es e ∙ (ap (λ l. begun t r es ++ l) (idle.begins r) ∙ append-nil (begun t r es))

-- the states before and after a change stay as they were at its begin, whatever comes later
pub history_stays : (sh : RowShape) (b : Base) (es : List Entry) (e : Entry) (t : ℕ) (r : List Value) (s : ℕ) → IsLater s e.act → SameChange (history_at sh b es t r) (history_at sh b (es ++ e ∷ []) t r) s
history_stays sh b es e t r s n =
    let z = step_same sh t r (history_at sh b es t r) s e.act n in
    let p = from-snoc sh b es e t r in
    record { old = ap (λ (h : History RowState). h.old s) p ∙ z.old; new = ap (λ (h : History RowState). h.new s) p ∙ z.new }
