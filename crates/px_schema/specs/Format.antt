-- Definitions and snapshots as pieces of a format.
use Rattle.std.proofs.Common.{◌≡◌, ◌<◌, ◌≤◌, ◌∷◌, [], ℕ, Bool, true, false, List, length, map, refl, arith}
use Rattle.std.specs.Prelude.{◌&&◌, ◌||◌, ◌==◌, if◌then◌else◌, nat_le, nat_lt}
use Rattle.std.specs.List.{AllByRecursion, list_any}
use Rattle.std.proofs.lemmas.Bool.{leb-true}
use Rattle.px_tables.specs.declared.index.Index.{Index}
use Rattle.px_tables.specs.declared.index.IndexState.{IndexState}
use Rattle.px_tables.specs.declared.index.IndexState.TheVariants.{Building}
use Rattle.px_tables.specs.declared.table.KeyPlace.{KeyPlace}
use Rattle.px_tables.specs.declared.table.Table.{Table}
use Rattle.px_tables.specs.declared.table.TableColumn.{TableColumn}
use Rattle.px_tables.specs.declared.table.TableRegion.{TableRegion}
use Rattle.px_schema.specs.declared.standing.Standing.{Standing}
use Rattle.px_pieces.specs.Pieces.{Piece, as_full, as_value, byte, followed_by, followed_full}
use Rattle.px_pieces.specs.Bytes.{one_byte}
use Rattle.px_pieces.specs.Chains.{list_piece, listed_full_some, listed_parts}
use Rattle.px_pieces.specs.Numbers.{full_number, number_most, number_piece, one_full, one_of_member, one_of_piece}
use Rattle.px_schema.specs.Parts.{blank_column, columns_full, columns_piece, greatest_id, greatest_stamp, id, id_full, name_full, name_piece, parts, parts_full, places, places_full, regions, regions_full, some_count, state, state_full}

-- ---- tables

-- what stands behind a table's columns, behind its name, and behind its number
abbrev pub keyed : ℕ → Piece (List KeyPlace × List TableRegion)
keyed n = followed_by (parts n) (λ ps. regions)

abbrev pub defined : Piece (List TableColumn × (List KeyPlace × List TableRegion))
defined = followed_by columns_piece (λ cs. keyed (length cs))

abbrev pub named : Piece (List ℕ × (List TableColumn × (List KeyPlace × List TableRegion)))
named = followed_by name_piece (λ m. defined)

unfoldable pub table : Piece Table
table =
    as_value (λ (x : ℕ × (List ℕ × (List TableColumn × (List KeyPlace × List TableRegion)))). record { id = record { 0 = x.0 }; name = x.1.0; columns = x.1.1.0; key = x.1.1.1.0; regions = x.1.1.1.1 })
    (λ t. (t.id.0, (t.name, (t.columns, (t.key, t.regions)))))
    (followed_by id (λ n. named)) (λ x right. refl)

-- the number of a table
abbrev pub number_of_table : Table → ℕ
number_of_table t = t.id.0

abbrev pub number_of_index : Index → ℕ
number_of_index i = i.id.0

-- ---- indexes, where these tables stand

-- the columns of the table of this number, 0 where none stands
abbrev pub column_count : List Table → ℕ → ℕ
column_count [] n = 0
column_count (t ∷ ts) n = if t.id.0 == n then length t.columns else column_count ts n

unfoldable pub birth : Piece ℕ
birth = number_piece 8 greatest_stamp

-- what stands behind an index's region, behind its name, and behind the number of its table, which has so many columns
abbrev pub covered : ℕ → Piece (List KeyPlace × List ℕ)
covered n = followed_by (parts n) (λ ps. places n)

abbrev pub built : ℕ → Piece (IndexState × (ℕ × (ℕ × (List KeyPlace × List ℕ))))
built n = followed_by state (λ s. followed_by birth (λ b. followed_by id (λ r. covered n)))

abbrev pub called : ℕ → Piece (List ℕ × (IndexState × (ℕ × (ℕ × (List KeyPlace × List ℕ)))))
called n = followed_by name_piece (λ m. built n)

-- it names one of these tables, and columns of that one
unfoldable pub index : List Table → Piece Index
index tables =
    as_value (λ (x : ℕ × (ℕ × (List ℕ × (IndexState × (ℕ × (ℕ × (List KeyPlace × List ℕ))))))). record {
      id = record { 0 = x.0 };
      table = record { 0 = x.1.0 };
      name = x.1.1.0;
      state = x.1.1.1.0;
      birth = x.1.1.1.1.0;
      region = x.1.1.1.1.1.0;
      parts = x.1.1.1.1.1.1.0;
      included = x.1.1.1.1.1.1.1;
    })
    (λ i. (i.id.0, (i.table.0, (i.name, (i.state, (i.birth, (i.region, (i.parts, i.included))))))))
    (followed_by id (λ n. followed_by (one_of_piece 4 (map number_of_table tables)) (λ t. called (column_count tables t)))) (λ x right. refl)

-- ---- what stands

abbrev pub no_table : Table
no_table = record { id = record { 0 = 0 }; name = []; columns = []; key = []; regions = [] }

abbrev pub no_index : Index
no_index = record { id = record { 0 = 0 }; table = record { 0 = 0 }; name = []; state = Building; birth = 0; region = 0; parts = []; included = [] }

-- the greatest count of two bytes
abbrev pub greatest_count : ℕ
greatest_count = 65535

-- without a table there is no index
abbrev pub most_indexes : List Table → ℕ
most_indexes [] = 0
most_indexes (t ∷ ts) = greatest_count

abbrev pub tables_in : Piece (List Table)
tables_in = list_piece no_table table (number_piece 2 greatest_count)

abbrev pub indexes_in : List Table → Piece (List Index)
indexes_in tables = list_piece no_index (index tables) (number_piece 2 (most_indexes tables))

unfoldable pub standing_piece : Piece Standing
standing_piece =
    as_value (λ (x : ℕ × (List Table × List Index)). record { next = x.0; tables = x.1.0; indexes = x.1.1 }) (λ s. (s.next, (s.tables, s.indexes)))
    (followed_by (number_piece 4 4294967295) (λ n. followed_by tables_in (λ tables. indexes_in tables))) (λ x right. refl)

-- ---- all that is begun can be ended: so the first wrong place is exact

some_columns : (l : List TableColumn) → columns_piece.right l → 0 < length l
unfolding columns_piece some_count one_byte byte
some_columns l right = leb-true 1 (length l) (first (nat_le 1 (length l)) (nat_lt (length l) 256) (listed_parts blank_column _ some_count l right).0)
  where
    first : (a b : Bool) → (a && b) ≡ true → a ≡ true
    first true b is = refl
    first false b is = absurd cc

pub table_full : table.full
unfolding table
table_full = as_full _ _ _ (λ x right. refl)
    (followed_full _ _ id_full (λ n right. followed_full _ _ name_full (λ m right. followed_full _ _ columns_full (λ cs right. followed_full _ _ (parts_full (length cs) (some_columns cs right)) (λ ps right. regions_full)))))

-- a right table has a number, and columns
pub table_number : (t : Table) → table.right t → t.id.0 ≤ greatest_id
unfolding table as_value followed_by id
table_number t right = number_most 3 greatest_id t.id.0 right.0.0

pub table_columns : (t : Table) → table.right t → 0 < length t.columns
unfolding table as_value followed_by
table_columns t right = some_columns t.columns right.0.1.1.0

pub width_some : (tables : List Table) → AllByRecursion table.right tables → (n : ℕ) → list_any (λ m. m == n) (map number_of_table tables) ≡ true → 0 < column_count tables n
width_some [] all n is = absurd cc
width_some (t ∷ ts) all n is = by (t.id.0 == n) is (λ more. width_some ts all.1 n more)
  where
    by : (b : Bool) → (b || list_any (λ m. m == n) (map number_of_table ts)) ≡ true → (list_any (λ m. m == n) (map number_of_table ts) ≡ true → 0 < column_count ts n) → 0 < (if b then length t.columns else column_count ts n)
    by true is more = table_columns t all.0
    by false is more = more is

pub index_full : (t : Table) (ts : List Table) → AllByRecursion table.right (t ∷ ts) → (index (t ∷ ts)).full
unfolding index birth
index_full t ts all =
    let low = table_number t all.0 in
    as_full _ _ _ (λ x right. refl) (followed_full _ _ id_full (λ n rn. followed_full _ _ (one_full 4 t.id.0 (map number_of_table ts) (omega (arith, low))) (λ m rm.
    let wide : 0 < column_count (t ∷ ts) m = width_some (t ∷ ts) all m (one_of_member 3 (map number_of_table (t ∷ ts)) m rm) in
    followed_full _ _ name_full (λ l rl. followed_full _ _ state_full (λ s rs. followed_full _ _ (full_number 8 greatest_stamp) (λ b rb. followed_full _ _ id_full (λ r rr.
    followed_full _ _ (parts_full (column_count (t ∷ ts) m) wide) (λ ps rp. places_full (column_count (t ∷ ts) m) wide))))))))

indexes_full : (tables : List Table) → AllByRecursion table.right tables → (indexes_in tables).full
indexes_full [] all = listed_full_some no_index (index []) (number_piece 2 0) (full_number 2 0) (λ n right some. absurd (let low = number_most 1 0 n right in omega (arith, low, some)))
indexes_full (t ∷ ts) all = listed_full_some no_index (index (t ∷ ts)) (number_piece 2 greatest_count) (full_number 2 greatest_count) (λ n right some. index_full t ts all)

pub standing_full : standing_piece.full
unfolding standing_piece
standing_full = as_full _ _ _ (λ x right. refl)
    (followed_full _ _ (full_number 4 4294967295) (λ n right. followed_full _ _ (listed_full_some no_table table (number_piece 2 greatest_count) (full_number 2 greatest_count) (λ n right some. table_full))
    (λ tables right. indexes_full tables (listed_parts no_table table (number_piece 2 greatest_count) tables right).1)))
