-- The stamps that a map has at a key.
use Rattle.std.specs.Prelude.{ℕ, List, [], Option, Some, None, Vec}
use Rattle.std.specs.declared.alloc.Global.{Global}
use Rattle.std.specs.Ordering.{nat_cmp}
use Rattle.std.specs.Cmp.Lexicographic.{slice_cmp}
use Rattle.std.specs.BTreeMap.{BTreeMap, get_by}

abbrev pub items_of : Option (Vec ℕ Global) → List ℕ
items_of None = []
items_of (Some v) = v.items

-- the stamps at a key of the map
abbrev pub found : BTreeMap (Vec ℕ Global) (Vec ℕ Global) → List ℕ → List ℕ
found m k = items_of (get_by (λ (y : Vec ℕ Global). slice_cmp nat_cmp k y.items) m)
