-- What a row sees of cells that are written over others.
use Rattle.std.proofs.Common.{◌≡◌, ℕ, Bool, true, false, cond, ◌&&◌, ◌||◌, Option, Some, None, List, [], ◌∷◌, ◌++◌, refl, ap, ◌∙◌}
use Rattle.std.specs.Prelude.{nat_eq, nat_lt, is_some}
use Rattle.std.specs.Cmp.Lexicographic.{pointwise}
use Rattle.std.proofs.lemmas.Slice.Eq.{bytes_eq-Decides}
use Rattle.px_cells.specs.declared.kind.CellKind.TheVariants.{Put, DeleteFamilyVersion, DeleteColumn, DeleteFamily}
use Rattle.px_cells.specs.CellData.{CellData}
use Rattle.px_cells.specs.Order.{ReadsSame}
use Rattle.px_cells.specs.Contents.{Contents, value_at, or_else, over_contents}
use Rattle.px_cells.proofs.Contents.{same_values, values_append, values_put}
use Rattle.px_values.specs.declared.row.Value.{Value}
use Rattle.px_values.specs.States.{Shape as RowShape}
use Rattle.px_world.specs.Shape.{IsLawful}
use Rattle.px_world.specs.World.{Status, Absent, Unverified, Verified}
use Rattle.px_world.specs.Events.{put_over}
use Rattle.px_world.specs.IndexCells.{no_cells, over, status_over}
use Rattle.px_world.proofs.IndexCells.{same_cells}
use Rattle.px_forms.specs.Indexes.{IndexForm, IsIndexForm, shape_at, status_in, view_of, view_at}

there_over : (b : Bool) (y : Status) → cond b Verified Unverified ≡ status_over (cond b Verified Unverified) y
there_over true y = refl
there_over false y = refl

status_parts : (b : Bool) (x y : Option (List ℕ)) → cond b (status_in (or_else x y)) Absent ≡ status_over (cond b (status_in x) Absent) (cond b (status_in y) Absent)
status_parts false x y = refl
status_parts true None y = refl
status_parts true (Some v) y = there_over (pointwise nat_eq v (1 ∷ [])) (status_in y)

put_parts : {A : Type 0} (b : Bool) (x y : Option A) → cond b (or_else x y) None ≡ put_over (cond b x None) (cond b y None)
put_parts false x y = refl
put_parts true None y = refl
put_parts true (Some v) y = refl

test_parts : {A : Type 0} (b : Bool) (x y : Option A) → (b && is_some (or_else x y)) ≡ ((b && is_some x) || (b && is_some y))
test_parts false x y = refl
test_parts true None y = refl
test_parts true (Some v) y = refl

pub view_over : (owns : List ℕ → Bool) (columns : ℕ) (place : ℕ → ℕ) (g f : Contents) → view_of owns columns place (over_contents g f) ≡ over (view_of owns columns place g) (view_of owns columns place f)
view_over owns columns place g f = same_cells _ _
    (λ k s. status_parts (owns k) (g k 1 s Put) (f k 1 s Put))
    (λ k s c. put_parts (owns k && nat_lt c columns) (g k (place c) s Put) (f k (place c) s Put))
    (λ k s c. test_parts (owns k && nat_lt c columns) (g k (place c) s DeleteColumn) (f k (place c) s DeleteColumn))
    (λ k s. test_parts (owns k) (g k 0 s DeleteFamily) (f k 0 s DeleteFamily))
    (λ k s. test_parts (owns k) (g k 0 s DeleteFamilyVersion) (f k 0 s DeleteFamilyVersion))

-- the cells of a batch over those of a region
pub view_put : (f : IndexForm) (r : List Value) (batch old new : List CellData) → ReadsSame new (batch ++ old) → view_at f r new ≡ over (view_at f r batch) (view_at f r old)
view_put f r batch old new h = ap (view_of (f.owns r) f.columns f.place) (values_put batch old new h) ∙ view_over (f.owns r) f.columns f.place (value_at batch) (value_at old)

pub view_append : (f : IndexForm) (r : List Value) (xs ys : List CellData) → view_at f r (xs ++ ys) ≡ over (view_at f r xs) (view_at f r ys)
view_append f r xs ys = ap (view_of (f.owns r) f.columns f.place) (values_append xs ys) ∙ view_over (f.owns r) f.columns f.place (value_at xs) (value_at ys)

pub view_same : (f : IndexForm) (r : List Value) (xs ys : List CellData) → ReadsSame xs ys → view_at f r xs ≡ view_at f r ys
view_same f r xs ys h = ap (view_of (f.owns r) f.columns f.place) (same_values xs ys h)

no_status : (b : Bool) → cond b Absent Absent ≡ Absent
no_status true = refl
no_status false = refl

no_put : {A : Type 0} (b : Bool) → ◌≡◌ {A = Option A} (cond b None None) None
no_put true = refl
no_put false = refl

no_marker : (b : Bool) → (b && false) ≡ false
no_marker true = refl
no_marker false = refl

-- a row sees nothing of an empty region
pub view_empty : (f : IndexForm) (r : List Value) → view_at f r [] ≡ no_cells
unfolding value_at
view_empty f r = same_cells _ _
    (λ k s. no_status (f.owns r k))
    (λ k s c. no_put (f.owns r k && nat_lt c f.columns))
    (λ k s c. no_marker (f.owns r k && nat_lt c f.columns))
    (λ k s. no_marker (f.owns r k))
    (λ k s. no_marker (f.owns r k))

pub lawful_at : (sh : RowShape) (f : IndexForm) (r : List Value) → IsIndexForm f → IsLawful (shape_at sh f r)
lawful_at sh f r g = record {
  key_is = λ x y e. (bytes_eq-Decides x y).0 e;
  key_refl = λ x. (bytes_eq-Decides x x).1 refl;
  value_is = λ x y e. (bytes_eq-Decides x y).0 e;
  value_refl = λ x. (bytes_eq-Decides x x).1 refl;
  nothing_key = g.nothing r;
}
