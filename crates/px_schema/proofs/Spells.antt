-- How pieces spell what the writers write.
use Rattle.std.proofs.Common.{◌≡◌, ◌<◌, ◌+◌, ◌++◌, ◌∷◌, [], ℕ, zero, suc, List, length, get_or, take, map, refl, sym, ap, ◌∙◌}
use Rattle.std.proofs.lemmas.List.{flat_map_more, take_more}
use Rattle.std.specs.Int.{bytes_high_first}
use Rattle.std.specs.List.{flat_map}
use Rattle.px_values.specs.Types.{type_code}
use Rattle.px_tables.specs.declared.index.Index.{Index}
use Rattle.px_tables.specs.declared.index.IndexState.{IndexState}
use Rattle.px_tables.specs.declared.table.KeyPlace.{KeyPlace}
use Rattle.px_tables.specs.declared.table.Table.{Table}
use Rattle.px_tables.specs.declared.table.TableColumn.{TableColumn}
use Rattle.px_tables.specs.declared.table.TableRegion.{TableRegion}
use Rattle.px_schema.specs.declared.standing.Standing.{Standing}
use Rattle.px_pieces.specs.Pieces.{Piece, as_value, byte, empty_piece, followed_by}
use Rattle.px_pieces.specs.Bytes.{bytes, one_byte}
use Rattle.px_pieces.specs.Chains.{chain, list_piece, measured, repeat}
use Rattle.px_pieces.specs.Numbers.{allowed_number_piece, begins_one, digit_ok, digits, number_piece, one_byte_more, one_of_piece, stays_up_to}
use Rattle.px_schema.specs.Texts.{char_next, char_ok, no_char, text}
use Rattle.px_schema.specs.Parts.{bit_of, greatest_id, greatest_stamp, state_code, column_piece, column_type_piece, columns_piece, direction_piece, flag, id, least_key_piece, name_piece, blank_column, blank_part, no_region, part_piece, parts, place, places, region, regions, regions_from, some_count, state}
use Rattle.px_schema.specs.Format.{birth, column_count, greatest_count, index, most_indexes, no_index, no_table, number_of_table, standing_piece, table, tables_in}
use Rattle.px_schema.specs.Spelled.{column_bytes, index_bytes, key_part_bytes, list_bytes, name_bytes, region_bytes, standing_bytes, table_bytes}

-- values of which each is spelled by its piece alone
chain_spelled : {S T : Type 0} (d : T) (v : ℕ → S → Piece T) (next : S → T → S) (f : T → List ℕ) → ((n : ℕ) (s : S) (x : T) → (v n s).spelled x ≡ f x) → (s : S) (l : List T) → (chain d v next (length l) s).spelled l ≡ flat_map f l
unfolding chain as_value followed_by empty_piece
chain_spelled d v next f is s [] = refl
chain_spelled d v next f is s (x ∷ l) = ap (λ (b : List ℕ). b ++ (chain d v next (length l) (next s x)).spelled l) (is (length l) s x) ∙ ap (λ (b : List ℕ). f x ++ b) (chain_spelled d v next f is (next s x) l)

repeat_spelled : {T : Type 0} (d : T) (v : Piece T) (f : T → List ℕ) → ((x : T) → v.spelled x ≡ f x) → (l : List T) → (repeat d v (length l)).spelled l ≡ flat_map f l
unfolding repeat
repeat_spelled d v f is l = chain_spelled d (λ (left : ℕ) (u : Unit {0}). v) (λ u x. u) f (λ n s x. is x) tt l

bytes_same : (l : List ℕ) → flat_map (λ (b : ℕ). b ∷ []) l ≡ l
bytes_same [] = refl
bytes_same (b ∷ l) = ap (λ (m : List ℕ). b ∷ m) (bytes_same l)

text_spelled : (l : List ℕ) → (text (length l)).spelled l ≡ l
unfolding text byte
text_spelled l = chain_spelled 0 (λ left s. byte (char_ok left s)) char_next (λ b. b ∷ []) (λ n s x. refl) no_char l ∙ bytes_same l

any_spelled : (l : List ℕ) → (bytes (length l)).spelled l ≡ l
unfolding bytes one_byte byte
any_spelled l = repeat_spelled 0 (one_byte 0 256) (λ b. b ∷ []) (λ x. refl) l ∙ bytes_same l

pub name_spelled : (l : List ℕ) → name_piece.spelled l ≡ name_bytes l
unfolding name_piece measured as_value followed_by some_count one_byte byte
name_spelled l = ap (λ (m : List ℕ). length l ∷ m) (text_spelled l)

column_spelled : (c : TableColumn) → column_piece.spelled c ≡ column_bytes c
unfolding column_piece as_value followed_by column_type_piece flag one_byte byte
column_spelled c = ap (λ (m : List ℕ). m ++ type_code c.column_type ∷ bit_of c.not_null ∷ []) (name_spelled c.name)

columns_spelled : (l : List TableColumn) → columns_piece.spelled l ≡ list_bytes column_bytes l
unfolding columns_piece list_piece measured as_value followed_by some_count one_byte byte
columns_spelled l = ap (λ (m : List ℕ). length l ∷ m) (repeat_spelled blank_column column_piece column_bytes column_spelled l)

part_spelled : (n : ℕ) (p : KeyPlace) → (part_piece n).spelled p ≡ key_part_bytes p
unfolding part_piece as_value followed_by place direction_piece one_byte byte
part_spelled n p = refl

parts_spelled : (n : ℕ) (l : List KeyPlace) → (parts n).spelled l ≡ list_bytes key_part_bytes l
unfolding parts list_piece measured as_value followed_by some_count one_byte byte
parts_spelled n l = ap (λ (m : List ℕ). length l ∷ m) (repeat_spelled blank_part (part_piece n) key_part_bytes (part_spelled n) l)

places_spelled : (n : ℕ) (l : List ℕ) → (places n).spelled l ≡ name_bytes l
unfolding places list_piece measured as_value followed_by place one_byte byte
places_spelled n l = ap (λ (m : List ℕ). length l ∷ m) (repeat_spelled 0 (place n) (λ b. b ∷ []) (λ x. refl) l ∙ bytes_same l)

high_long : (k n : ℕ) → length (bytes_high_first k n) ≡ k
high_long zero n = refl
high_long (suc k) n = ap suc (high_long k n)

pub number_spelled : (size most n : ℕ) → (number_piece size most).spelled n ≡ bytes_high_first size n
unfolding number_piece allowed_number_piece as_value digits byte
number_spelled size most n =
    ap (λ (k : ℕ). (chain 0 (λ left v. byte (digit_ok (stays_up_to most) left v)) one_byte_more k 0).spelled (bytes_high_first size n)) (sym (high_long size n))
    ∙ chain_spelled 0 (λ left v. byte (digit_ok (stays_up_to most) left v)) one_byte_more (λ b. b ∷ []) (λ n s x. refl) 0 (bytes_high_first size n) ∙ bytes_same (bytes_high_first size n)

pub one_spelled : (ns : List ℕ) (n : ℕ) → (one_of_piece 4 ns).spelled n ≡ bytes_high_first 4 n
unfolding one_of_piece allowed_number_piece as_value digits byte
one_spelled ns n = chain_spelled 0 (λ left v. byte (digit_ok (begins_one ns) left v)) one_byte_more (λ b. b ∷ []) (λ n s x. refl) 0 (bytes_high_first 4 n) ∙ bytes_same (bytes_high_first 4 n)

id_spelled : (n : ℕ) → id.spelled n ≡ bytes_high_first 4 n
unfolding id
id_spelled n = number_spelled 4 greatest_id n

key_spelled : (most : ℕ) (l : List ℕ) → (least_key_piece most).spelled l ≡ bytes_high_first 2 (length l) ++ l
unfolding least_key_piece measured as_value followed_by
key_spelled most l = ap (λ (m : List ℕ). m ++ (bytes (length l)).spelled l) (number_spelled 2 most (length l)) ∙ ap (λ (m : List ℕ). bytes_high_first 2 (length l) ++ m) (any_spelled l)

region_spelled : (most : ℕ) (r : TableRegion) → (region most).spelled r ≡ region_bytes r
unfolding region as_value followed_by
region_spelled most r = ap (λ (m : List ℕ). m ++ (least_key_piece most).spelled r.least_key) (id_spelled r.number) ∙ ap (λ (m : List ℕ). bytes_high_first 4 r.number ++ m) (key_spelled most r.least_key)

regions_spelled : (l : List TableRegion) → regions.spelled l ≡ list_bytes region_bytes l
unfolding regions regions_from measured as_value followed_by some_count one_byte byte
regions_spelled l = ap (λ (m : List ℕ). length l ∷ m) (chain_spelled no_region (λ left most. region most) (λ most r. 65535) region_bytes (λ n most r. region_spelled most r) 0 l)

both_are : (a b c e : List ℕ) → a ≡ b → c ≡ e → a ++ c ≡ b ++ e
both_are a b c e x y = ap (λ (m : List ℕ). m ++ c) x ∙ ap (λ (m : List ℕ). b ++ m) y

pub table_spelled : (t : Table) → table.spelled t ≡ table_bytes t
unfolding table as_value followed_by
table_spelled t =
    both_are (id.spelled t.id.0) (bytes_high_first 4 t.id.0) _ _ (id_spelled t.id.0)
    (both_are (name_piece.spelled t.name) (name_bytes t.name) _ _ (name_spelled t.name)
    (both_are (columns_piece.spelled t.columns) (list_bytes column_bytes t.columns) _ _ (columns_spelled t.columns)
    (both_are ((parts (length t.columns)).spelled t.key) (list_bytes key_part_bytes t.key) _ _ (parts_spelled (length t.columns) t.key) (regions_spelled t.regions))))

birth_spelled : (n : ℕ) → birth.spelled n ≡ bytes_high_first 8 n
unfolding birth
birth_spelled n = number_spelled 8 greatest_stamp n

state_spelled : (s : IndexState) → state.spelled s ≡ state_code s ∷ []
unfolding state as_value one_byte byte
state_spelled s = refl

pub index_spelled : (ts : List Table) (i : Index) → (index ts).spelled i ≡ index_bytes i
unfolding index as_value followed_by
index_spelled ts i =
    let w = column_count ts i.table.0 in
    both_are (id.spelled i.id.0) (bytes_high_first 4 i.id.0) _ _ (id_spelled i.id.0)
    (both_are ((one_of_piece 4 (map number_of_table ts)).spelled i.table.0) (bytes_high_first 4 i.table.0) _ _ (one_spelled (map number_of_table ts) i.table.0)
    (both_are (name_piece.spelled i.name) (name_bytes i.name) _ _ (name_spelled i.name)
    (both_are (state.spelled i.state) (state_code i.state ∷ []) _ _ (state_spelled i.state)
    (both_are (birth.spelled i.birth) (bytes_high_first 8 i.birth) _ _ (birth_spelled i.birth)
    (both_are (id.spelled i.region) (bytes_high_first 4 i.region) _ _ (id_spelled i.region)
    (both_are ((parts w).spelled i.parts) (list_bytes key_part_bytes i.parts) _ _ (parts_spelled w i.parts) (places_spelled w i.included)))))))

counted_spelled : {T : Type 0} (d : T) (v : Piece T) (most : ℕ) (f : T → List ℕ) → ((x : T) → v.spelled x ≡ f x) → (l : List T) → (list_piece d v (number_piece 2 most)).spelled l ≡ bytes_high_first 2 (length l) ++ flat_map f l
unfolding list_piece measured as_value followed_by
counted_spelled d v most f is l = both_are ((number_piece 2 most).spelled (length l)) (bytes_high_first 2 (length l)) ((repeat d v (length l)).spelled l) (flat_map f l) (number_spelled 2 most (length l)) (repeat_spelled d v f is l)

pub standing_spelled : (s : Standing) → standing_piece.spelled s ≡ standing_bytes s
unfolding standing_piece as_value followed_by
standing_spelled s =
    both_are ((number_piece 4 4294967295).spelled s.next) (bytes_high_first 4 s.next) _ _ (number_spelled 4 4294967295 s.next)
    (both_are (tables_in.spelled s.tables) (bytes_high_first 2 (length s.tables) ++ flat_map table_bytes s.tables) _ _ (counted_spelled no_table table greatest_count table_bytes table_spelled s.tables)
    (counted_spelled no_index (index s.tables) (most_indexes s.tables) index_bytes (index_spelled s.tables) s.indexes))

-- one more of a list was written
pub flat_next : {T : Type 0} (f : T → List ℕ) (base l l' : List ℕ) (xs : List T) (i : ℕ) (x : T) → i < length xs → x ≡ get_or xs i x → l ≡ base ++ flat_map f (take i xs) → l' ≡ l ++ f x → l' ≡ base ++ flat_map f (take (i + 1) xs)
flat_next f base l l' xs i x lt is before more =
    more ∙ ap (λ (m : List ℕ). m ++ f x) before ∙ flat_map_more f base (take i xs) x
    ∙ ap (λ (m : List _). base ++ flat_map f m) (ap (λ (y : _). take i xs ++ y ∷ []) is ∙ sym (take_more xs i x lt))
