-- The table that a CREATE TABLE asks for is one that may be made, and so is the index of a CREATE INDEX.
use Rattle.std.proofs.Common.{◌≡◌, ◌≢◌, ℕ, suc, ◌<◌, ◌≤◌, ◌+◌, Bool, true, false, if◌then◌else◌, ◌&&◌, ◌||◌, Option, None, Some, List, [], ◌∷◌, ◌++◌, length, map, take, refl, sym, ◌∙◌, ap, subst, arith, length-append}
use Rattle.std.specs.Prelude.{nat_eq, nat_lt}
use Rattle.std.specs.List.{AllByRecursion, flat_map, slice_get}
use Rattle.std.specs.Option.{is_some, option_map_or}
use Rattle.std.specs.Str.{bytes_eq}
use Rattle.std.proofs.lemmas.Bool.{ltb-false, ltb-true}
use Rattle.std.proofs.lemmas.Bool.Decides.{Decides-eqb}
use Rattle.std.proofs.lemmas.List.{append-nil, append_assoc}
use Rattle.std.proofs.lemmas.Slice.Eq.{bytes_eq-Decides}
use Rattle.px_values.specs.Limits.{most_key, most_of}
use Rattle.px_values.specs.declared.order.Direction.{Direction}
use Rattle.px_values.specs.declared.limit.Limit.{Limit}
use Rattle.px_values.specs.declared.limit.Limit.TheVariants as limits
use Rattle.px_ast.specs.declared.definition.Column.{Column}
use Rattle.px_ast.specs.declared.definition.CreateIndex.{CreateIndex}
use Rattle.px_ast.specs.declared.definition.CreateTable.{CreateTable}
use Rattle.px_ast.specs.declared.definition.KeyConstraint.{KeyConstraint}
use Rattle.px_ast.specs.declared.definition.KeyPart.{KeyPart}
use Rattle.px_ast.specs.declared.literal.Literal.{Literal}
use Rattle.px_tables.specs.declared.table.KeyPlace.{KeyPlace}
use Rattle.px_tables.specs.declared.table.Table.{Table}
use Rattle.px_tables.specs.declared.table.TableColumn.{TableColumn}
use Rattle.px_resolve.specs.Names.{is_among, key_place, name_faults, names_of, once, part_names, place_of_name}
use Rattle.px_resolve.specs.declared.fault.BindFault.TheVariants.{NoColumn, Passed, Twice}
use Rattle.px_create.specs.Indexes.{index_faults, new_index}
use Rattle.px_create.specs.Limits.{limit_passed, name_limit}
use Rattle.px_create.specs.Tables.{constraint_faults, constraint_key, constraint_limit, first_key_column, inline_key_places, is_keyed_inline, key_of, limits_of_table, named_before, new_column, new_names, new_table, null_faults, repeated, split_keys, splits_faults, table_faults, table_name_faults, twice_if}
use Rattle.px_paths.specs.Paths.{is_keyed as in_key}
use Rattle.px_calls.specs.Requires.{AreAscending, AreDistinctNames, AreOnce, IsNewIndex, IsNewTable}
use Rattle.px_item.specs.Right.{is_none_of}

-- 1. Lists of nothing

none_of_both : {A : Type 0} (xs ys : List A) → xs ++ ys ≡ [] → (xs ≡ []) × (ys ≡ [])
none_of_both [] ys h = (refl, h)
none_of_both (x ∷ xs) ys h = cc

neither : (a b : Bool) → (a || b) ≡ false → (a ≡ false) × (b ≡ false)
neither true b h = cc
neither false b h = (refl, h)

not_passed : (limit : Limit) (b : Bool) → (if b then Passed limit ∷ [] else []) ≡ [] → b ≡ false
not_passed limit true h = cc
not_passed limit false h = refl

not_twice : (b : Bool) (n : List ℕ) → twice_if b n ≡ [] → b ≡ false
not_twice true n h = cc
not_twice false n h = refl

is_known : (a b : Bool) (n : List ℕ) → (if a then (if b then Twice n ∷ [] else []) else NoColumn n ∷ []) ≡ [] → (a ≡ true) × (b ≡ false)
is_known true true n h = cc
is_known true false n h = (refl, refl)
is_known false b n h = cc

all_append : {A : Type 0} (P : A → Type 0) (xs ys : List A) → AllByRecursion P xs → AllByRecursion P ys → AllByRecursion P (xs ++ ys)
all_append P [] ys h g = g
all_append P (x ∷ xs) ys h g = (h.0, all_append P xs ys h.1 g)

pub filled : {A : Type 0} (xs ys : List A) → nat_eq (length xs) 0 ≡ false → xs ≡ ys → ys ≢ []
filled xs ys h e none = (let same = ap length (e ∙ none) in let d = (Decides-eqb (length xs) 0).1 same in cc)

-- 2. Limits

within : (limit : Limit) (n : ℕ) → limit_passed limit n ≡ [] → n ≤ most_of limit
within limit n h = ltb-false (most_of limit) n (not_passed limit (nat_lt (most_of limit) n) h)

short_names : (cs : List Column) → flat_map (λ (c : Column). name_limit c.name) cs ≡ [] → AllByRecursion (λ (c : TableColumn). length c.name ≤ most_of limits.Name) (map new_column cs)
short_names [] h = tt
short_names (c ∷ cs) h = (let n = none_of_both (name_limit c.name) (flat_map (λ (d : Column). name_limit d.name) cs) h in (within limits.Name (length c.name) n.0, short_names cs n.1))

-- 3. Names

if_at : (b : Bool) (m k : ℕ) → m ≤ k → (if b then 0 else m) ≤ k
if_at true m k h = omega arith
if_at false m k h = h

place_low : (done rest : List (List ℕ)) (n : List ℕ) → place_of_name (done ++ n ∷ rest) n ≤ length done
place_low [] rest n = subst (λ (b : Bool). (if b then 0 else place_of_name rest n + 1) ≤ 0) (sym ((bytes_eq-Decides n n).1 refl)) (omega arith)
place_low (d ∷ done) rest n = (let low = place_low done rest n in if_at (bytes_eq d n) (place_of_name (done ++ n ∷ rest) n + 1) (length (d ∷ done)) (omega arith))

place_at : (names done rest : List (List ℕ)) (n : List ℕ) → names ≡ done ++ n ∷ rest → place_of_name names n ≤ length done
place_at names done rest n e = subst (λ (l : List (List ℕ)). place_of_name l n ≤ length done) (sym e) (place_low done rest n)

place_within : (names done rest : List (List ℕ)) (n : List ℕ) → names ≡ done ++ n ∷ rest → place_of_name names n < length names
place_within names done rest n e = (let low = place_at names done rest n e in let l = ap length e in let m = length-append done (n ∷ rest) in omega arith)

one_more : (names done rest : List (List ℕ)) (n : List ℕ) → names ≡ done ++ n ∷ rest → names ≡ (done ++ n ∷ []) ++ rest
one_more names done rest n e = e ∙ sym (append_assoc done (n ∷ []) rest)

lower : (names : List (List ℕ)) (place : ℕ) (cs : List Column) → AllByRecursion (λ (c : Column). place + 1 ≤ place_of_name names c.name) cs → AllByRecursion (λ (c : Column). place ≤ place_of_name names c.name) cs
lower names place [] h = tt
lower names place (c ∷ cs) h = ((let l = h.0 in omega arith), lower names place cs h.1)

-- what is wrong with the name of the first column, and of the others
split_names : (names : List (List ℕ)) (place : ℕ) (keyed : Bool) (c : Column) (cs : List Column) → repeated names place keyed (c ∷ cs) ≡ []
    → (nat_lt (place_of_name names c.name) place ≡ false) × ((keyed && is_some c.key) ≡ false) × (repeated names (place + 1) (keyed || is_some c.key) cs ≡ [])
split_names names place keyed c cs h =
    let n = none_of_both (twice_if (nat_lt (place_of_name names c.name) place || (keyed && is_some c.key)) c.name) (repeated names (place + 1) (keyed || is_some c.key) cs) h in
    let t = neither (nat_lt (place_of_name names c.name) place) (keyed && is_some c.key) (not_twice (nat_lt (place_of_name names c.name) place || (keyed && is_some c.key)) c.name n.0) in (t.0, t.1, n.1)

-- no earlier column has the name of one of these
not_before : (names : List (List ℕ)) (place : ℕ) (keyed : Bool) (cs : List Column) → repeated names place keyed cs ≡ [] → AllByRecursion (λ (c : Column). place ≤ place_of_name names c.name) cs
not_before names place keyed [] h = tt
not_before names place keyed (c ∷ cs) h =
    let n = split_names names place keyed c cs h in (ltb-false (place_of_name names c.name) place n.0, lower names place cs (not_before names (place + 1) (keyed || is_some c.key) cs n.2))

unlike : (names : List (List ℕ)) (n : List ℕ) (place : ℕ) (cs : List Column) → place_of_name names n ≤ place → AllByRecursion (λ (c : Column). place + 1 ≤ place_of_name names c.name) cs
    → AllByRecursion (λ (m : List ℕ). m ≢ n) (map (λ (c : TableColumn). c.name) (map new_column cs))
unlike names n place [] low h = tt
unlike names n place (c ∷ cs) low h = (λ same. (let e = ap (place_of_name names) same in let l = h.0 in absurd (omega arith)), unlike names n place cs low h.1)

names_apart : (names done : List (List ℕ)) (place : ℕ) (keyed : Bool) (cs : List Column) → names ≡ done ++ new_names cs → place ≡ length done → repeated names place keyed cs ≡ []
    → AreDistinctNames (map (λ (c : TableColumn). c.name) (map new_column cs))
unfolding AreDistinctNames
names_apart names done place keyed [] e p h = tt
names_apart names done place keyed (c ∷ cs) e p h =
    let n = split_names names place keyed c cs h in
    let low = place_at names done (new_names cs) c.name e in
    let l = length-append done (c.name ∷ []) in (
      unlike names c.name place cs (omega arith) (not_before names (place + 1) (keyed || is_some c.key) cs n.2),
      names_apart names (done ++ c.name ∷ []) (place + 1) (keyed || is_some c.key) cs (one_more names done (new_names cs) c.name e) (omega arith) n.2,
    )

-- 4. The key's places

one_within : (k : Option Direction) (n m : ℕ) → n < m → AllByRecursion (λ (p : KeyPlace). p.column < m) (option_map_or (λ (d : Direction). record { column = n; direction = d } ∷ []) k [])
one_within None n m h = tt
one_within (Some d) n m h = (h, tt)

inline_within : (names done : List (List ℕ)) (cs : List Column) → names ≡ done ++ new_names cs → AllByRecursion (λ (p : KeyPlace). p.column < length names) (flat_map (inline_key_places names) cs)
inline_within names done [] e = tt
inline_within names done (c ∷ cs) e =
    all_append (λ (p : KeyPlace). p.column < length names) (inline_key_places names c) (flat_map (inline_key_places names) cs) (one_within c.key (place_of_name names c.name) (length names) (place_within names done (new_names cs) c.name e))
    (inline_within names (done ++ c.name ∷ []) cs (one_more names done (new_names cs) c.name e))

split_once : (names : List (List ℕ)) (seen : List ℕ) (p : KeyPart) (ps : List KeyPart) → once names seen (part_names (p ∷ ps)) ≡ []
    → (place_of_name names p.column < length names) × (is_among seen (place_of_name names p.column) ≡ false) × (once names (seen ++ place_of_name names p.column ∷ []) (part_names ps) ≡ [])
split_once names seen p ps h =
    let n = none_of_both (name_faults names seen p.column) (once names (seen ++ place_of_name names p.column ∷ []) (part_names ps)) h in
    let k = is_known (nat_lt (place_of_name names p.column) (length names)) (is_among seen (place_of_name names p.column)) p.column n.0 in (ltb-true (place_of_name names p.column) (length names) k.0, k.1, n.1)

once_within : (names : List (List ℕ)) (seen : List ℕ) (ps : List KeyPart) → once names seen (part_names ps) ≡ [] → AllByRecursion (λ (p : KeyPlace). p.column < length names) (map (key_place names) ps)
once_within names seen [] h = tt
once_within names seen (p ∷ ps) h = (let n = split_once names seen p ps h in (n.0, once_within names (seen ++ place_of_name names p.column ∷ []) ps n.2))

constraint_within : (columns : List Column) (k : Option KeyConstraint) → constraint_faults columns k ≡ [] → AllByRecursion (λ (p : KeyPlace). p.column < length (new_names columns)) (constraint_key (new_names columns) k)
constraint_within columns None h = tt
constraint_within columns (Some k) h = once_within (new_names columns) (named_before columns k) k.parts h

-- 5. Each place stands once

not_among : (seen : List ℕ) (p q : ℕ) → is_among (seen ++ p ∷ []) q ≡ false → (is_among seen q ≡ false) × (q ≢ p)
not_among [] p q h = (let o = neither (nat_eq p q) false h in (refl, λ same. (let e = (Decides-eqb p q).1 (sym same) in cc)))
not_among (s ∷ seen) p q h =
    let o = neither (nat_eq s q) (is_among (seen ++ p ∷ []) q) h in
    let r = not_among seen p q o.1 in (ap (λ (b : Bool). b || is_among seen q) o.0 ∙ r.0, r.1)

among_none : (names : List (List ℕ)) (seen : List ℕ) (p : ℕ) (ps : List KeyPart) → AllByRecursion (λ (x : KeyPlace). is_among (seen ++ p ∷ []) x.column ≡ false) (map (key_place names) ps)
    → AllByRecursion (λ (x : KeyPlace). is_among seen x.column ≡ false) (map (key_place names) ps) × AllByRecursion (λ (m : ℕ). m ≢ p) (map (λ (x : KeyPlace). x.column) (map (key_place names) ps))
among_none names seen p [] h = (tt, tt)
among_none names seen p (x ∷ ps) h =
    let r = among_none names seen p ps h.1 in
    let n = not_among seen p (place_of_name names x.column) h.0 in ((n.0, r.0), (n.1, r.1))

once_apart : (names : List (List ℕ)) (seen : List ℕ) (ps : List KeyPart) → once names seen (part_names ps) ≡ []
    → AllByRecursion (λ (x : KeyPlace). is_among seen x.column ≡ false) (map (key_place names) ps) × AreOnce (map (λ (x : KeyPlace). x.column) (map (key_place names) ps))
unfolding AreOnce
once_apart names seen [] h = (tt, tt)
once_apart names seen (p ∷ ps) h =
    let n = split_once names seen p ps h in
    let r = once_apart names (seen ++ place_of_name names p.column ∷ []) ps n.2 in
    let a = among_none names seen (place_of_name names p.column) ps r.0 in ((n.1, a.0), (a.1, r.1))

no_key : (k : Option Direction) → is_some k ≡ false → k ≡ None
no_key None h = refl
no_key (Some d) h = cc

no_inline : (names : List (List ℕ)) (c : Column) → is_some c.key ≡ false → inline_key_places names c ≡ []
no_inline names c h = ap (λ (k : Option Direction). option_map_or (λ (d : Direction). record { column = place_of_name names c.name; direction = d } ∷ []) k []) (no_key c.key h)

-- no column behind one with a primary key has one
none_behind : (names : List (List ℕ)) (place : ℕ) (cs : List Column) → repeated names place true cs ≡ [] → flat_map (inline_key_places names) cs ≡ []
none_behind names place [] h = refl
none_behind names place (c ∷ cs) h =
    let n = split_names names place true c cs h in
    ap (λ (l : List KeyPlace). l ++ flat_map (inline_key_places names) cs) (no_inline names c n.1) ∙ none_behind names (place + 1) cs n.2

none_keyed : (names : List (List ℕ)) (cs : List Column) → is_keyed_inline cs ≡ false → flat_map (inline_key_places names) cs ≡ []
none_keyed names [] h = refl
none_keyed names (c ∷ cs) h =
    let n = neither (is_some c.key) (is_keyed_inline cs) h in ap (λ (l : List KeyPlace). l ++ flat_map (inline_key_places names) cs) (no_inline names c n.0) ∙ none_keyed names cs n.1

inline_once : (names : List (List ℕ)) (place : ℕ) (k : Option Direction) (n : ℕ) (cs : List Column) → repeated names place (is_some k) cs ≡ []
    → AreOnce (map (λ (p : KeyPlace). p.column) (option_map_or (λ (d : Direction). record { column = n; direction = d } ∷ []) k [] ++ flat_map (inline_key_places names) cs))
unfolding AreOnce
inline_once names place None n [] h = tt
inline_once names place (Some d) n [] h = (tt, tt)
inline_once names place None n (c ∷ cs) h = (let s = split_names names place false c cs h in inline_once names (place + 1) c.key (place_of_name names c.name) cs s.2)
inline_once names place (Some d) n (c ∷ cs) h =
    subst (λ (l : List KeyPlace). AreOnce (map (λ (p : KeyPlace). p.column) (record { column = n; direction = d } ∷ l))) (sym (none_behind names place (c ∷ cs) h)) (tt, tt)

-- a second primary key isn't written: its first column counts as named before
no_second : (columns : List Column) (k : KeyConstraint) (ps : List KeyPart) → once (new_names columns) (map (place_of_name (new_names columns)) (take 1 (part_names ps))) (part_names ps) ≡ [] → ps ≡ []
no_second columns k [] h = refl
no_second columns k (p ∷ ps) h =
    let names = new_names columns in
    let s = split_once names (place_of_name names p.column ∷ []) p ps h in
    let n = not_among [] (place_of_name names p.column) (place_of_name names p.column) s.1 in absurd (n.1 refl)

once_of : (columns : List Column) (c : Option KeyConstraint) (keyed : Bool) → keyed ≡ is_keyed_inline columns → repeated (new_names columns) 0 false columns ≡ [] → constraint_faults columns c ≡ []
    → AreOnce (map (λ (p : KeyPlace). p.column) (flat_map (inline_key_places (new_names columns)) columns ++ constraint_key (new_names columns) c))
unfolding AreOnce
once_of columns None keyed e h g =
    subst (λ (l : List KeyPlace). AreOnce (map (λ (p : KeyPlace). p.column) l)) (sym (append-nil (flat_map (inline_key_places (new_names columns)) columns))) (inline_once (new_names columns) 0 None 0 columns h)
once_of columns (Some k) true e h g =
    let names = new_names columns in
    let same : named_before columns k ≡ map (place_of_name names) (take 1 (part_names k.parts)) = ap (λ (b : Bool). if b then map (place_of_name names) (take 1 (part_names k.parts)) else []) (sym e) in
    let none = no_second columns k k.parts (subst (λ (seen : List ℕ). once names seen (part_names k.parts) ≡ []) same g) in
    let l : flat_map (inline_key_places names) columns ≡ flat_map (inline_key_places names) columns ++ map (key_place names) k.parts =
    sym (append-nil (flat_map (inline_key_places names) columns)) ∙ ap (λ (ps : List KeyPart). flat_map (inline_key_places names) columns ++ map (key_place names) ps) (sym none) in
    subst (λ (q : List KeyPlace). AreOnce (map (λ (p : KeyPlace). p.column) q)) l (inline_once names 0 None 0 columns h)
once_of columns (Some k) false e h g =
    let names = new_names columns in
    subst (λ (l : List KeyPlace). AreOnce (map (λ (p : KeyPlace). p.column) (l ++ map (key_place names) k.parts))) (sym (none_keyed names columns (sym e))) (once_apart names (named_before columns k) k.parts g).1

-- 6. The table

whole_keys : (f : _) (ls : List Literal) → is_none_of ls ≡ true → split_keys f ls ≡ []
whole_keys None ls h = refl
whole_keys (Some f) [] h = refl
whole_keys (Some f) (l ∷ ls) h = cc

record OneRegion (keys : List (List ℕ)) : Type 0 where
  first : slice_get keys 0 ≡ Some []
  ascending : AreAscending keys
  short : AllByRecursion (λ (k : List ℕ). length k ≤ most_key) keys
  regions : length keys ≤ most_of limits.Regions

one_region : OneRegion ([] ∷ [])
unfolding AreAscending
one_region = record { first = refl; ascending = (tt, tt); short = (omega arith, tt); regions = omega arith }

names_length : (cs : List Column) → length (new_names cs) ≡ length (map new_column cs)
names_length [] = refl
names_length (c ∷ cs) = ap suc (names_length cs)

columns_length : (cs : List Column) → length (map new_column cs) ≡ length cs
columns_length [] = refl
columns_length (c ∷ cs) = ap suc (columns_length cs)

pub new_table_fits : (t : CreateTable) → is_none_of t.splits ≡ true → table_faults t ≡ [] → key_of t ≢ [] → IsNewTable (new_table t)
new_table_fits t whole none keyed =
    let names = new_names t.columns in
    let a = none_of_both (table_name_faults t) (splits_faults (first_key_column t) t.splits ++ (null_faults t ++ limits_of_table t)) none in
    let n = none_of_both (repeated names 0 false t.columns) (constraint_faults t.columns t.constraint) a.0 in
    let b = none_of_both (splits_faults (first_key_column t) t.splits) (null_faults t ++ limits_of_table t) a.1 in
    let c = none_of_both (null_faults t) (limits_of_table t) b.1 in
    let l = none_of_both (name_limit t.name) _ c.1 in
    let m = none_of_both (flat_map (λ (d : Column). name_limit d.name) t.columns) _ l.1 in
    let o = none_of_both (constraint_limit t.constraint) _ m.1 in
    let p = none_of_both (limit_passed limits.Columns (length t.columns)) _ o.1 in
    let one : (new_table t).least_keys ≡ [] ∷ [] = ap (λ (ks : List (List ℕ)). [] ∷ ks) (whole_keys (first_key_column t) t.splits whole) in
    let region : OneRegion (new_table t).least_keys = subst OneRegion (sym one) one_region in
    let low = within limits.Columns (length t.columns) p.0 in
    record {
      name = within limits.Name (length t.name) l.0;
      columns = subst (λ (q : ℕ). q ≤ most_of limits.Columns) (sym (columns_length t.columns)) low;
      names = short_names t.columns m.0;
      apart = names_apart names [] 0 false t.columns refl refl n.0;
      key = keyed;
      places = subst (λ (q : ℕ). AllByRecursion (λ (x : KeyPlace). x.column < q) (key_of t)) (names_length t.columns)
          (all_append (λ (x : KeyPlace). x.column < length names) (flat_map (inline_key_places names) t.columns) (constraint_key names t.constraint) (inline_within names [] t.columns refl) (constraint_within t.columns t.constraint n.1));
      once = once_of t.columns t.constraint (is_keyed_inline t.columns) refl n.0 n.1;
      first = region.first;
      ascending = region.ascending;
      short = region.short;
      regions = region.regions;
      one = one;
    }

-- 7. The index

names_map : (cs : List TableColumn) → length (names_of cs) ≡ length cs
names_map [] = refl
names_map (c ∷ cs) = ap suc (names_map cs)

-- what is wrong with the first name, and with the others
split_given : (names : List (List ℕ)) (seen : List ℕ) (n : List ℕ) (given : List (List ℕ)) → once names seen (n ∷ given) ≡ []
    → (place_of_name names n < length names) × (is_among seen (place_of_name names n) ≡ false) × (once names (seen ++ place_of_name names n ∷ []) given ≡ [])
split_given names seen n given h =
    let a = none_of_both (name_faults names seen n) (once names (seen ++ place_of_name names n ∷ []) given) h in
    let k = is_known (nat_lt (place_of_name names n) (length names)) (is_among seen (place_of_name names n)) n a.0 in (ltb-true (place_of_name names n) (length names) k.0, k.1, a.1)

among_less : (names : List (List ℕ)) (seen : List ℕ) (p : ℕ) (given : List (List ℕ)) → AllByRecursion (λ (c : ℕ). is_among (seen ++ p ∷ []) c ≡ false) (map (place_of_name names) given)
    → AllByRecursion (λ (c : ℕ). is_among seen c ≡ false) (map (place_of_name names) given) × AllByRecursion (λ (m : ℕ). m ≢ p) (map (place_of_name names) given)
among_less names seen p [] h = (tt, tt)
among_less names seen p (n ∷ given) h =
    let r = among_less names seen p given h.1 in
    let a = not_among seen p (place_of_name names n) h.0 in ((a.0, r.0), (a.1, r.1))

-- the places of names that stand once, none of them named before
record OncePlaced (names : List (List ℕ)) (seen : List ℕ) (given : List (List ℕ)) : Type 0 where
  within : AllByRecursion (λ (c : ℕ). c < length names) (map (place_of_name names) given)
  apart : AllByRecursion (λ (c : ℕ). is_among seen c ≡ false) (map (place_of_name names) given)
  once : AreOnce (map (place_of_name names) given)

once_placed : (names : List (List ℕ)) (seen : List ℕ) (given : List (List ℕ)) → once names seen given ≡ [] → OncePlaced names seen given
unfolding AreOnce
once_placed names seen [] h = record { within = tt; apart = tt; once = tt }
once_placed names seen (n ∷ given) h =
    let s = split_given names seen n given h in
    let r = once_placed names (seen ++ place_of_name names n ∷ []) given s.2 in
    let a = among_less names seen (place_of_name names n) given r.apart in
    record { within = (s.0, r.within); apart = (s.1, a.0); once = (a.1, r.once) }

either : (a b : Bool) → a ≡ false → b ≡ false → (a || b) ≡ false
either true b h g = cc
either false b h g = g

among_both : (xs ys : List ℕ) (c : ℕ) → is_among (xs ++ ys) c ≡ false → (is_among xs c ≡ false) × (is_among ys c ≡ false)
among_both [] ys c h = (refl, h)
among_both (x ∷ xs) ys c h =
    let n = neither (nat_eq x c) (is_among (xs ++ ys) c) h in
    let r = among_both xs ys c n.1 in (either (nat_eq x c) (is_among xs c) n.0 r.0, r.1)

unkeyed : (ps : List KeyPlace) (c : ℕ) → is_among (map (λ (p : KeyPlace). p.column) ps) c ≡ false → in_key ps c ≡ false
unkeyed [] c h = refl
unkeyed (p ∷ ps) c h = (let n = neither (nat_eq p.column c) (is_among (map (λ (q : KeyPlace). q.column) ps) c) h in either (nat_eq p.column c) (in_key ps c) n.0 (unkeyed ps c n.1))

part_places : (names : List (List ℕ)) (ps : List KeyPart) → map (place_of_name names) (part_names ps) ≡ map (λ (p : KeyPlace). p.column) (map (key_place names) ps)
part_places names [] = refl
part_places names (p ∷ ps) = ap (λ (l : List ℕ). place_of_name names p.column ∷ l) (part_places names ps)

-- what isn't among the places of the parts and of the key is none of their columns
alone : (names : List (List ℕ)) (ps : List KeyPart) (key : List KeyPlace) (cs : List ℕ) → AllByRecursion (λ (c : ℕ). is_among (map (place_of_name names) (part_names ps) ++ map (λ (p : KeyPlace). p.column) key) c ≡ false) cs
    → AllByRecursion (λ (c : ℕ). (in_key (map (key_place names) ps) c ≡ false) × (in_key key c ≡ false)) cs
alone names ps key [] h = tt
alone names ps key (c ∷ cs) h =
    let b = among_both (map (place_of_name names) (part_names ps)) (map (λ (p : KeyPlace). p.column) key) c h.0 in
    let parts = subst (λ (l : List ℕ). is_among l c ≡ false) (part_places names ps) b.0 in
    ((unkeyed (map (key_place names) ps) c parts, unkeyed key c b.1), alone names ps key cs h.1)

pub new_index_fits : (t : Table) (i : CreateIndex) → index_faults t i ≡ [] → (new_index t i).parts ≢ [] → IsNewIndex t (new_index t i)
new_index_fits t i none some =
    let names = names_of t.columns in
    let seen = map (place_of_name names) (part_names i.parts) ++ map (λ (p : KeyPlace). p.column) t.key in
    let a = none_of_both (once names [] (part_names i.parts)) (once names seen i.include ++ name_limit i.name) none in
    let b = none_of_both (once names seen i.include) (name_limit i.name) a.1 in
    let placed = once_placed names seen i.include b.0 in
    let long = names_map t.columns in
    record {
      name = within limits.Name (length i.name) b.1;
      parts = some;
      places = subst (λ (q : ℕ). AllByRecursion (λ (p : KeyPlace). p.column < q) (map (key_place names) i.parts)) long (once_within names [] i.parts a.0);
      once = (once_apart names [] i.parts a.0).1;
      included = subst (λ (q : ℕ). AllByRecursion (λ (c : ℕ). c < q) (map (place_of_name names) i.include)) long placed.within;
      included_once = placed.once;
      included_alone = alone names i.parts t.key (map (place_of_name names) i.include) placed.apart;
    }
