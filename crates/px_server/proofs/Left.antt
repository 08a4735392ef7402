-- Groups of which nothing differs but what was promised and looked at in their regions, one after another.
use Rattle.std.proofs.Common.{List, [], ◌∷◌, refl, ◌∙◌}
use Rattle.px_group.specs.declared.group.Group.{Group}
use Rattle.px_group.specs.declared.group.IndexRegion.{IndexRegion}
use Rattle.px_beginning.specs.Leaves.{AreAlike, AreSamePromises, KeepsRooms, LeavesGroup}
use Rattle.px_beginning.proofs.Leaves.{alike_same}
use Rattle.px_beginning.proofs.Promised.{same_promises}
use Rattle.px_region.proofs.Alike as region

alike_then : (xs ys zs : List IndexRegion) → AreAlike xs ys → AreAlike ys zs → AreAlike xs zs
alike_then [] [] [] a c = tt
alike_then [] [] (z ∷ zs) a c = c
alike_then [] (y ∷ ys) zs a c = absurd a
alike_then (x ∷ xs) [] zs a c = absurd a
alike_then (x ∷ xs) (y ∷ ys) [] a c = absurd c
alike_then (x ∷ xs) (y ∷ ys) (z ∷ zs) a c = ((c.0.0 ∙ a.0.0, region.alike_then x.region y.region z.region a.0.1 c.0.1), alike_then xs ys zs a.1 c.1)

promised_then : (xs ys zs : List IndexRegion) → AreSamePromises xs ys → AreSamePromises ys zs → AreSamePromises xs zs
promised_then [] [] [] a c = tt
promised_then [] [] (z ∷ zs) a c = c
promised_then [] (y ∷ ys) zs a c = absurd a
promised_then (x ∷ xs) [] zs a c = absurd a
promised_then (x ∷ xs) (y ∷ ys) [] a c = absurd c
promised_then (x ∷ xs) (y ∷ ys) (z ∷ zs) a c = (record { cells = c.0.cells ∙ a.0.cells; bytes = c.0.bytes ∙ a.0.bytes }, promised_then xs ys zs a.1 c.1)

pub left_then : (g h j : Group) → LeavesGroup g h → LeavesGroup h j → LeavesGroup g j
left_then g h j a c = record {
  table = c.table ∙ a.table;
  rows = region.alike_then g.rows h.rows j.rows a.rows c.rows;
  indexes = alike_then g.indexes.items h.indexes.items j.indexes.items a.indexes c.indexes;
  batches = c.batches ∙ a.batches;
  points = c.points ∙ a.points;
  last = c.last ∙ a.last;
  horizon = c.horizon ∙ a.horizon;
}

pub kept_then : (g h j : Group) → KeepsRooms g h → KeepsRooms h j → KeepsRooms g j
kept_then g h j a c = record {
  rows = record { cells = c.rows.cells ∙ a.rows.cells; bytes = c.rows.bytes ∙ a.rows.bytes };
  indexes = promised_then g.indexes.items h.indexes.items j.indexes.items a.indexes c.indexes;
}

-- where nothing was looked at
pub left_none : (g : Group) → LeavesGroup g g
left_none g = record {
  table = refl;
  rows = region.alike_refl g.rows;
  indexes = alike_same g.indexes.items;
  batches = refl;
  points = refl;
  last = refl;
  horizon = refl;
}

pub kept_none : (g : Group) → KeepsRooms g g
kept_none g = record { rows = record { cells = refl; bytes = refl }; indexes = same_promises g.indexes.items }
