-- What right tables, indexes and snapshots are, part by part.
use Rattle.std.proofs.Common.{◌≡◌, ◌<◌, ◌≤◌, ◌++◌, ◌∷◌, [], ℕ, Bool, true, false, List, length, map, arith}
use Rattle.std.specs.Prelude.{◌&&◌, nat_le, nat_lt}
use Rattle.std.specs.List.{AllByRecursion}
use Rattle.std.proofs.lemmas.Bool.{ltb-true}
use Rattle.px_tables.specs.declared.index.Index.{Index}
use Rattle.px_tables.specs.declared.table.Table.{Table}
use Rattle.px_tables.specs.declared.table.TableColumn.{TableColumn}
use Rattle.px_tables.specs.declared.table.TableRegion.{TableRegion}
use Rattle.px_schema.specs.declared.item.CatalogItem.{CatalogItem}
use Rattle.px_schema.specs.declared.item.CatalogItem.TheVariants.{IndexGone, IndexIs, TableGone, TableIs}
use Rattle.px_schema.specs.declared.standing.Standing.{Standing}
use Rattle.px_pieces.specs.Pieces.{as_value, byte, followed_by}
use Rattle.px_pieces.specs.Bytes.{bytes, bytes_long, one_byte}
use Rattle.px_pieces.specs.Chains.{chain_all, listed_parts, measured_parts}
use Rattle.px_pieces.specs.Numbers.{number_most, number_piece, number_short, stays_up_to}
use Rattle.px_schema.specs.Texts.{text, text_long}
use Rattle.px_schema.specs.Parts.{blank_column, blank_part, column_piece, columns_piece, greatest_id, id, least_key_piece, name_piece, no_region, part_piece, parts, place, places, region, regions, regions_from, regions_long, some_count}
use Rattle.px_schema.specs.Format.{greatest_count, index, most_indexes, no_index, no_table, standing_piece, table}
use Rattle.px_schema.specs.Records.{IsRightCatalogItem}
use Rattle.px_schema.specs.Spelled.{FitsCatalogItem, FitsIndex, FitsSnapshot, FitsTableFields}
use Rattle.px_schema.specs.Stands.{index_draws, table_draws}

all_more : {T : Type 0} (P Q : T → Type 0) → ((x : T) → P x → Q x) → (l : List T) → AllByRecursion P l → AllByRecursion Q l
all_more P Q f [] all = tt
all_more P Q f (x ∷ l) all = (f x all.0, all_more P Q f l all.1)

some_short : (n : ℕ) → some_count.right n → n < 256
unfolding some_count one_byte byte
some_short n is = ltb-true n 256 (second (nat_le 1 n) (nat_lt n 256) is)
  where
    second : (a b : Bool) → (a && b) ≡ true → b ≡ true
    second true b is = is
    second false b is = absurd cc

byte_short : (n : ℕ) → (one_byte 0 256).right n → n < 256
unfolding one_byte byte
byte_short n is = ltb-true n 256 (second (nat_le 0 n) (nat_lt n 256) is)
  where
    second : (a b : Bool) → (a && b) ≡ true → b ≡ true
    second true b is = is
    second false b is = absurd cc

name_short : (l : List ℕ) → name_piece.right l → length l < 256
unfolding name_piece
name_short l right = some_short (length l) (measured_parts text text_long some_count l right).0

column_name : (c : TableColumn) → column_piece.right c → length c.name < 256
unfolding column_piece as_value followed_by
column_name c right = name_short c.name right.0.0

parts_few : (n : ℕ) (l : List _) → (parts n).right l → length l < 256
unfolding parts
parts_few n l right = some_short (length l) (listed_parts blank_part (part_piece n) some_count l right).0

places_few : (n : ℕ) (l : List ℕ) → (places n).right l → length l < 256
unfolding places
places_few n l right = byte_short (length l) (listed_parts 0 (place n) (one_byte 0 256) l right).0

region_key : (most : ℕ) (r : TableRegion) → (region most).right r → length r.least_key < 65536
unfolding region least_key_piece number_piece as_value followed_by
region_key most r right = number_short (stays_up_to most) 2 (length r.least_key) (measured_parts bytes bytes_long (number_piece 2 most) r.least_key right.0.1).0

region_number : (most : ℕ) (r : TableRegion) → (region most).right r → r.number ≤ greatest_id
unfolding region id as_value followed_by
region_number most r right = number_most 3 greatest_id r.number right.0.0

regions_parts : (l : List TableRegion) → regions.right l → (length l < 256) × (AllByRecursion (λ r. length r.least_key < 65536) l) × (AllByRecursion (λ r. r.number ≤ greatest_id) l)
unfolding regions regions_from
regions_parts l right =
    let p = measured_parts (regions_from 0) regions_long some_count l right in (
      some_short (length l) p.0,
      chain_all no_region (λ left most. region most) (λ most r. 65535) (λ r. length r.least_key < 65536) (λ n most r is. region_key most r is) (length l) 0 l p.1,
      chain_all no_region (λ left most. region most) (λ most r. 65535) (λ r. r.number ≤ greatest_id) (λ n most r is. region_number most r is) (length l) 0 l p.1,
    )

pub table_fits : (t : Table) → table.right t → FitsTableFields t
unfolding table columns_piece as_value followed_by
table_fits t right =
    let cs = listed_parts blank_column column_piece some_count t.columns right.0.1.1.0 in
    let rs = regions_parts t.regions right.0.1.1.1.1 in
    record {
      name = name_short t.name right.0.1.0;
      columns = some_short (length t.columns) cs.0;
      names = all_more column_piece.right (λ c. length c.name < 256) column_name t.columns cs.1;
      key = parts_few (length t.columns) t.key right.0.1.1.1.0;
      regions = rs.0;
      keys = rs.1;
    }

map_all : {A : Type 0} (f : A → ℕ) (P : ℕ → Type 0) (l : List A) → AllByRecursion (λ x. P (f x)) l → AllByRecursion P (map f l)
map_all f P [] all = tt
map_all f P (x ∷ l) all = (all.0, map_all f P l all.1)

join_all : (P : ℕ → Type 0) (l m : List ℕ) → AllByRecursion P l → AllByRecursion P m → AllByRecursion P (l ++ m)
join_all P [] m one two = two
join_all P (x ∷ l) m one two = (one.0, join_all P l m one.1 two)

pub table_numbers : (t : Table) → table.right t → AllByRecursion (λ k. k < 4294967295) (table_draws t)
unfolding table id as_value followed_by
table_numbers t right =
    let own = number_most 3 greatest_id t.id.0 right.0.0 in
    join_all (λ k. k < 4294967295) (map (λ r. r.number) t.regions) (t.id.0 ∷ [])
    (map_all (λ r. r.number) (λ k. k < 4294967295) t.regions (all_more (λ r. r.number ≤ greatest_id) (λ r. r.number < 4294967295) (λ r le. omega arith) t.regions (regions_parts t.regions right.0.1.1.1.1).2))
    (omega (arith, own), tt)

pub index_fits : (ts : List Table) (i : Index) → (index ts).right i → FitsIndex i
unfolding index as_value followed_by
index_fits ts i right = record { name = name_short i.name right.0.1.1.0; parts = parts_few _ i.parts right.0.1.1.1.1.1.1.0; included = places_few _ i.included right.0.1.1.1.1.1.1.1 }

pub index_numbers : (ts : List Table) (i : Index) → (index ts).right i → AllByRecursion (λ k. k < 4294967295) (index_draws i)
unfolding index id as_value followed_by
index_numbers ts i right =
    let own = number_most 3 greatest_id i.id.0 right.0.0 in
    let region = number_most 3 greatest_id i.region right.0.1.1.1.1.1.0 in
    (omega (arith, region), (omega (arith, own), tt))

pub standing_tables : (s : Standing) → standing_piece.right s → (length s.tables ≤ greatest_count) × AllByRecursion table.right s.tables
unfolding standing_piece as_value followed_by
standing_tables s right = let p = listed_parts no_table table (number_piece 2 greatest_count) s.tables right.0.1.0 in (number_most 1 greatest_count (length s.tables) p.0, p.1)

most_most : (ts : List Table) → most_indexes ts ≤ greatest_count
most_most [] = omega arith
most_most (t ∷ ts) = omega arith

pub standing_indexes : (s : Standing) → standing_piece.right s → (length s.indexes ≤ greatest_count) × AllByRecursion (index s.tables).right s.indexes
unfolding standing_piece as_value followed_by
standing_indexes s right =
    let p = listed_parts no_index (index s.tables) (number_piece 2 (most_indexes s.tables)) s.indexes right.0.1.1 in
    let le = number_most 1 (most_indexes s.tables) (length s.indexes) p.0 in
    let most = most_most s.tables in (omega (arith, le, most), p.1)

pub standing_next : (s : Standing) → standing_piece.right s → s.next ≤ 4294967295
unfolding standing_piece as_value followed_by
standing_next s right = number_most 3 4294967295 s.next right.0.0

pub snapshot_fits : (s : Standing) → standing_piece.right s → FitsSnapshot s
snapshot_fits s right =
    let ts = standing_tables s right in
    let is = standing_indexes s right in
    record {
      tables = omega (arith, ts.0);
      each_table = all_more table.right FitsTableFields table_fits s.tables ts.1;
      indexes = omega (arith, is.0);
      each_index = all_more (index s.tables).right FitsIndex (index_fits s.tables) s.indexes is.1;
    }

pub item_fits : (s : Standing) (d : CatalogItem) → IsRightCatalogItem s d → FitsCatalogItem d
item_fits s (TableIs t) right = table_fits t right.0
item_fits s (IndexIs i) right = index_fits s.tables i right.0
item_fits s (TableGone n) right = tt
item_fits s (IndexGone n) right = tt
