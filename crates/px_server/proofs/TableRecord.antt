-- A new table fits the record of its definition, and a drop its own.
use Rattle.std.proofs.Common.{◌≡◌, ◌≢◌, ◌<◌, ◌≤◌, ◌^◌, ◌+◌, ℕ, Bool, true, List, [], ◌∷◌, ◌++◌, length, get_or, map, refl, sym, ap, subst, zero, suc, arith}
use Rattle.std.specs.Prelude.{◌==◌, ◌||◌}
use Rattle.std.specs.List.{AllByRecursion, list_any}
use Rattle.std.proofs.lemmas.Bool.{eq-eqb}
use Rattle.px_values.specs.declared.name.TableId.{TableId}
use Rattle.px_tables.specs.declared.table.KeyPlace.{KeyPlace}
use Rattle.px_tables.specs.declared.table.NewTable.{NewTable}
use Rattle.px_tables.specs.declared.table.Table.{Table}
use Rattle.px_tables.specs.declared.table.TableColumn.{TableColumn}
use Rattle.px_tables.specs.declared.table.TableRegion.{TableRegion}
use Rattle.px_trail.specs.Trail.{made_table, numbered_regions}
use Rattle.px_pieces.specs.Pieces.{as_value, followed_by}
use Rattle.px_pieces.specs.Bytes.{bytes, bytes_long, one_byte}
use Rattle.px_pieces.specs.Chains.{chain_cons, chain_nil, listed_right, measured_right, repeat_right}
use Rattle.px_pieces.specs.Numbers.{fits_number, number_piece, one_of_right}
use Rattle.px_schema.specs.Format.{number_of_table, table}
use Rattle.px_schema.specs.Parts.{blank_column, blank_part, column_piece, columns_piece, greatest_id, id, least_key_piece, name_piece, no_region, part_piece, parts, region, regions, regions_from, regions_long, some_count}
use Rattle.px_schema.specs.Records.{IsRightCatalogItem}
use Rattle.px_schema.specs.Stands.{table_draws}
use Rattle.px_schema.specs.declared.item.CatalogItem.TheVariants.{TableGone, TableIs}
use Rattle.px_schema.specs.declared.standing.Standing.{Standing}
use Rattle.px_calls.specs.Requires.{IsNewTable}
use Rattle.px_defined.proofs.News.{one_region}
use Rattle.px_server.specs.inner.Making.{MayMake, table_made}
use Rattle.px_server.proofs.Fields.{column_right, parts_right, some_right}
use Rattle.px_server.proofs.Lists.{all_weaker}
use Rattle.px_trail.proofs.Orders.{or_true}

some_place : (n : ℕ) (ps : List KeyPlace) → ps ≢ [] → AllByRecursion (λ p. p.column < n) ps → 0 < n
some_place n [] some all = absurd (some refl)
some_place n (p ∷ ps) some all = (let l = all.0 in omega (arith, l))

some_long : (ps : List KeyPlace) → ps ≢ [] → 0 < length ps
some_long [] some = absurd (some refl)
some_long (p ∷ ps) some = omega arith

key_right : (most : ℕ) → (least_key_piece most).right []
unfolding least_key_piece bytes
key_right most = measured_right bytes bytes_long (number_piece 2 most) [] (fits_number 2 most 0 (omega arith) (omega arith)) (repeat_right 0 (one_byte 0 256) [] tt)

region_right : (n : ℕ) → n ≤ greatest_id → (region 0).right (record { number = n; least_key = [] })
unfolding region id as_value followed_by
region_right n le = ((fits_number 4 greatest_id n (omega arith) le, key_right 0), refl)

regions_right : (n : ℕ) → n ≤ greatest_id → regions.right (record { number = n; least_key = [] } ∷ [])
unfolding regions regions_from
regions_right n le = measured_right (regions_from 0) regions_long some_count (record { number = n; least_key = [] } ∷ []) (some_right 1 (omega arith) (omega arith))
    (chain_cons no_region (λ left most. region most) (λ most r. 65535) zero 0 (record { number = n; least_key = [] }) [] (region_right n le) (chain_nil no_region (λ left most. region most) (λ most r. 65535) 65535))

pub table_right : (n : ℕ) (id_ : TableId) (what : NewTable) → IsNewTable what → name_piece.right what.name → AllByRecursion (λ (c : TableColumn). name_piece.right c.name) what.columns → length what.key < 256 → n ≤ greatest_id → id_.0 ≤ greatest_id → table.right (made_table n id_ what)
unfolding table as_value followed_by id columns_piece parts
table_right n id_ what new called names few region_most most = (let
    columns_some : 0 < length what.columns = some_place (length what.columns) what.key new.key new.places
    in let
    columns_few = new.columns
    in (
      (
        fits_number 4 greatest_id id_.0 (omega (arith, most)) most,
        (
          called,
          (
            listed_right blank_column column_piece some_count what.columns (some_right (length what.columns) columns_some (omega (arith, columns_few))) (all_weaker (λ (c : TableColumn). name_piece.right c.name) column_piece.right column_right what.columns names),
            (
              listed_right blank_part (part_piece (length what.columns)) some_count what.key (some_right (length what.key) (some_long what.key new.key) few) (parts_right (length what.columns) (omega (arith, columns_few)) what.key new.places),
              subst regions.right (sym (one_region n id_ what new.one)) (regions_right n region_most),
            ),
          ),
        ),
      ),
      refl,
    ))

-- where the same tables stand
pub made_right : (stored standing : Standing) (closed : _) (what : NewTable) → stored.tables ≡ standing.tables → IsNewTable what → MayMake standing closed what → IsRightCatalogItem stored (TableIs (table_made standing what))
made_right stored standing closed what same new may = (
  table_right standing.next (table_made standing what).id what new may.called may.columns may.few (let n = may.numbers in omega (arith, n)) (let n = may.numbers in omega (arith, n)),
  (let n = may.room in let m : length stored.tables ≡ length standing.tables = ap (λ (ts : List Table). length ts) same in omega (arith, n, m)),
)

there : (ts : List Table) (place : ℕ) (t : TableId) (none : Table) → place < length ts → (get_or ts place none).id ≡ t → list_any (λ m. m == t.0) (map number_of_table ts) ≡ true
there [] place t none l is = absurd (omega (arith, l))
there (x ∷ ts) zero t none l is = ap (λ (v : Bool). v || list_any (λ m. m == t.0) (map number_of_table ts)) (eq-eqb x.id.0 t.0 (ap (λ (y : TableId). y.0) is))
there (x ∷ ts) (suc place) t none l is = or_true (x.id.0 == t.0) (list_any (λ m. m == t.0) (map number_of_table ts)) (there ts place t none (omega (arith, l)) is)

pub gone_right : (stored standing : Standing) (t : TableId) (place : ℕ) (none : Table) → stored.tables ≡ standing.tables → place < length standing.tables → (get_or standing.tables place none).id ≡ t → t.0 < 256 ^ 4 → IsRightCatalogItem stored (TableGone t)
gone_right stored standing t place none same l is short = one_of_right 4 (map number_of_table stored.tables) t.0 short (subst (λ (ts : List Table). list_any (λ m. m == t.0) (map number_of_table ts) ≡ true) (sym same) (there standing.tables place t none l is))

-- ---- the numbers of a new table

all_numbered : (n m : ℕ) (keys : List (List ℕ)) (rest : List ℕ) → n + length keys ≤ m → AllByRecursion (λ k. k < m) rest → AllByRecursion (λ k. k < m) (map (λ (r : TableRegion). r.number) (numbered_regions n keys) ++ rest)
unfolding numbered_regions
all_numbered n m [] rest le all = all
all_numbered n m (k ∷ keys) rest le all = (omega (arith, le), all_numbered (n + 1) m keys rest (omega (arith, le)) all)

pub draws_short : (n m : ℕ) (id_ : TableId) (what : NewTable) → id_.0 ≡ n + length what.least_keys → id_.0 < m → AllByRecursion (λ k. k < m) (table_draws (made_table n id_ what))
draws_short n m id_ what is low = all_numbered n m what.least_keys (id_.0 ∷ []) (omega (arith, is, low)) (low, tt)
