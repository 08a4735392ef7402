-- How long the records of definitions are.
use Rattle.std.proofs.Common.{◌≤◌, ◌+◌, ◌*◌, ◌++◌, ◌∷◌, [], ℕ, List, length, arith, length-append}
use Rattle.std.specs.List.{AllByRecursion, flat_map}
use Rattle.px_tables.specs.declared.table.KeyPlace.{KeyPlace}
use Rattle.px_tables.specs.declared.table.TableColumn.{TableColumn}
use Rattle.px_tables.specs.declared.table.TableRegion.{TableRegion}
use Rattle.px_schema.specs.Spelled.{body_of, built_bytes, column_bytes, key_part_bytes, list_bytes, name_bytes, region_bytes}
use Rattle.px_schema.specs.declared.item.CatalogItem.{CatalogItem}
use Rattle.px_schema.specs.declared.item.CatalogItem.TheVariants.{IndexGone, IndexIs, TableGone, TableIs}
use Rattle.px_catalog.specs.Limits.{IsWithinLimits}

flat_long : {T : Type 0} (f : T → List ℕ) (P : T → Type 0) (most : ℕ) → ((x : T) → P x → length (f x) ≤ most) → (l : List T) → AllByRecursion P l → length (flat_map f l) ≤ most * length l
flat_long f P most each [] all = omega arith
flat_long f P most each (x ∷ l) all =
    let one = each x all.0 in
    let more = flat_long f P most each l all.1 in
    let long = length-append (f x) (flat_map f l) in
    omega (arith, one, more, long)

parts_long : (l : List KeyPlace) → length (flat_map key_part_bytes l) ≤ 2 * length l
parts_long [] = omega arith
parts_long (p ∷ l) = let more = parts_long l in omega (arith, more)

tail_long : (name : List ℕ) (a b : ℕ) → length name ≤ 128 → length (length name ∷ name ++ a ∷ b ∷ []) ≤ 131
tail_long name a b short = omega (arith, short, length-append name (a ∷ b ∷ []))

column_long : (c : TableColumn) → length c.name ≤ 128 → length (column_bytes c) ≤ 131
column_long c short = tail_long c.name _ _ short

region_long : (r : TableRegion) → length r.least_key ≤ 1024 → length (region_bytes r) ≤ 1030
region_long r short = omega (arith, short)

pub body_long : (d : CatalogItem) → IsWithinLimits d → 7 + length (body_of d) ≤ 32768
body_long (TableIs t) is =
    let columns = flat_long column_bytes (λ c. length c.name ≤ 128) 131 column_long t.columns is.names in
    let regions = flat_long region_bytes (λ r. length r.least_key ≤ 1024) 1030 region_long t.regions is.keys in
    let key = parts_long t.key in
    let two = length-append (list_bytes key_part_bytes t.key) (list_bytes region_bytes t.regions) in
    let three = length-append (list_bytes column_bytes t.columns) (list_bytes key_part_bytes t.key ++ list_bytes region_bytes t.regions) in
    let four = length-append (name_bytes t.name) (list_bytes column_bytes t.columns ++ (list_bytes key_part_bytes t.key ++ list_bytes region_bytes t.regions)) in
    omega (arith, columns, regions, key, two, three, four, is.name, is.columns, is.key, is.regions)
body_long (IndexIs i) is =
    let parts = parts_long i.parts in
    let two = length-append (list_bytes key_part_bytes i.parts) (name_bytes i.included) in
    let three = length-append (name_bytes i.name) (built_bytes i) in
    omega (arith, parts, two, three, is.name, is.parts, is.included)
body_long (TableGone n) is = omega arith
body_long (IndexGone n) is = omega arith
