-- The shape of a table that stands is that of its definition.
use Rattle.std.proofs.Common.{ℕ, ◌≡◌, ◌==◌, if◌then◌else◌, true, false, Option, None, Some, List, [], ◌∷◌, ap}
use Rattle.px_values.specs.States.{Shape}
use Rattle.px_tables.specs.declared.table.Table.{Table}
use Rattle.px_trail.specs.declared.entry.Act.{Act}
use Rattle.px_trail.specs.declared.entry.Act.TheVariants.{Made, Dropped, IndexMade, IndexState}
use Rattle.px_trail.specs.declared.entry.Entry.{Entry}
use Rattle.px_trail.specs.Trail.{Base, Catalogue, base_catalogue, base_shape, catalogue_from, catalogue_step, made_table, new_shape, shape_from, shape_of, shape_step, table_of, table_shape}

-- where the table stands it has this shape
abbrev Shapes : Option Table → Shape → Type 0
Shapes o s = (x : Table) → o ≡ Some x → s ≡ table_shape x

none_shapes : (s : Shape) → Shapes None s
none_shapes s x e = let z : ◌≡◌ {A = Option Table} None (Some x) = e in cc

some_shapes : (y : Table) → Shapes (Some y) (table_shape y)
some_shapes y x e = let z : ◌≡◌ {A = Option Table} (Some y) (Some x) = e in let f : y ≡ x = cc in ap table_shape f

base_shapes : (o : Option Table) → Shapes o (base_shape o)
base_shapes None = none_shapes (base_shape None)
base_shapes (Some y) = some_shapes y

step_shapes : (t : ℕ) (c : Catalogue) (s : Shape) (act : Act) → Shapes (c.tables t) s → Shapes ((catalogue_step c act).tables t) (shape_step t s act)
unfolding catalogue_step shape_step
step_shapes t c s (Made t' what) h = elim (t'.0 == t) as (λ b. Shapes (if b then Some (made_table c.next t' what) else c.tables t) (if b then new_shape what else s)) [ true ↦ some_shapes (made_table c.next t' what) | false ↦ h ]
step_shapes t c s (Dropped t' None) h = elim (t'.0 == t) as (λ b. Shapes (if b then None else c.tables t) s) [ true ↦ none_shapes s | false ↦ h ]
step_shapes t c s (Dropped t' (Some i)) h = h
step_shapes t c s (IndexMade t' i n what) h = h
step_shapes t c s (IndexState t' i state n) h = h
step_shapes t c s act h = h

from_shapes : (t : ℕ) (c : Catalogue) (s : Shape) (es : List Entry) → Shapes (c.tables t) s → Shapes ((catalogue_from c es).tables t) (shape_from t s es)
unfolding catalogue_from shape_from
from_shapes t c s [] h = h
from_shapes t c s (e ∷ es) h = from_shapes t (catalogue_step c e.act) (shape_step t s e.act) es (step_shapes t c s e.act h)

pub shape-of-table : (b : Base) (es : List Entry) (t : ℕ) (x : Table) → table_of b es t ≡ Some x → shape_of b es t ≡ table_shape x
shape-of-table b es t x h = from_shapes t (base_catalogue b) (base_shape (b.tables t)) es (base_shapes (b.tables t)) x h
