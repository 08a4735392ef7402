-- What is read of the bytes of values and keys is what was written.
use Rattle.std.proofs.Common.{◌≡◌, ◌≢◌, ℕ, zero, suc, ◌<◌, ◌≤◌, ◌+◌, ◌*◌, ◌%◌, ◌^◌, ◌-◌, Bool, true, false, ◌&&◌, List, [], ◌∷◌, ◌++◌, length, take, drop, get_or, refl, ap, sym, ◌∙◌, inl, inr, arith, pos, negsuc, append_assoc, append-nil, length-append}
use Rattle.std.specs.Prelude.{nat_eq}
use Rattle.std.specs.Int.{bytes_high_first, byte_at}
use Rattle.std.specs.List.{All}
use Rattle.std.proofs.lemmas.Str.{is_utf8-from_IsUtf8}
use Rattle.std.proofs.lemmas.Int.{ints}
use Rattle.std.proofs.lemmas.Bool.{cases_Bool, cond-true, cond-false, ne_eqb, lt-ltb, and_parts}
use Rattle.std.proofs.lemmas.List.Elements.{All-nil, All-cons, All-append, All-head, All-tail}
use Rattle.std.proofs.Math.Nat.{mod-eq_of_lt, pow-succ'}
use Rattle.std.proofs.Math.Seq.{take-append_seam}
use Rattle.px_values.proofs.Equal.{row_order-Decides}
use Rattle.px_values.specs.Types.{HasType}
use Rattle.px_values.specs.declared.column.ColType.{ColType}
use Rattle.px_values.specs.declared.column.ColType.TheVariants.{TinyInt, SmallInt, Integer, BigInt, UnsignedInt, UnsignedLong, Boolean, Varchar}
use Rattle.px_values.specs.declared.order.Direction.{Direction}
use Rattle.px_values.specs.declared.order.Direction.TheVariants.{Ascending, Descending}
use Rattle.px_values.specs.declared.row.Value.{Value}
use Rattle.px_values.specs.declared.row.Value.TheVariants.{Null, Number, Truth, Text}
use Rattle.px_keys.specs.Spelling.{Fits, byte_width, directed, fixed_bytes, part_bytes, plain_bytes, rank, spelled}
use Rattle.px_keys.specs.declared.parts.KeyColumn.{KeyColumn}
use Rattle.px_keys.proofs.Breaking.{directed_twice, directed-append, directed-length}
use Rattle.px_keys.proofs.Compared.{mod-pow, length-bytes_high_first}
use Rattle.px_keys.proofs.KeyOrders.{rank_fits, plain_are_bytes}
use Rattle.px_rows.specs.Stored.{stored, number_of_bytes, ranked, value_of_bytes}
use Rattle.px_tables.specs.declared.table.Table.{Table}
use Rattle.px_rows.specs.Keys.{text_size, text_value, fixed_value, fixed_size, plain_value, plain_size, read_parts, are_all_bytes, is_read_back, row_columns, row_key, row_code, value_code, no_key}

-- ---- numbers

-- the bytes of a number behind another
number_behind : (k m n : ℕ) → number_of_bytes m (bytes_high_first k n) ≡ m * 256 ^ k + n % 256 ^ k
unfolding number_of_bytes
number_behind zero m n = omega arith
number_behind (suc k) m n =
    let rest = number_behind k (m * 256 + byte_at k n) n in
    let low = mod-pow k n in
    let power = pow-succ' 256 k in
    let split : (m * 256 + byte_at k n) * 256 ^ k ≡ m * (256 * 256 ^ k) + byte_at k n * 256 ^ k = omega arith in
    rest ∙ (let e : m * 256 ^ suc k ≡ m * (256 * 256 ^ k) = ap (λ (x : ℕ). m * x) power in omega arith)

pub number_back : (k n : ℕ) → n < 256 ^ k → number_of_bytes 0 (bytes_high_first k n) ≡ n
number_back k n h = number_behind k 0 n ∙ (let e : n % 256 ^ k ≡ n = mod-eq_of_lt h in omega arith)

-- a value is told by its distance from the least of its type
pub ranked_back : (ty : ColType) (v : Value) → HasType ty v → v ≢ Null → ty ≢ Varchar → ranked ty (rank ty v) ≡ v
ranked_back TinyInt (Number n) h e f = ap Number (omega (arith, ints))
ranked_back SmallInt (Number n) h e f = ap Number (omega (arith, ints))
ranked_back Integer (Number n) h e f = ap Number (omega (arith, ints))
ranked_back BigInt (Number n) h e f = ap Number (omega (arith, ints))
ranked_back UnsignedInt (Number n) h e f = ap Number (omega (arith, ints))
ranked_back UnsignedLong (Number n) h e f = ap Number (omega (arith, ints))
ranked_back Boolean (Number n) h e f = absurd (let z = h.0 in omega arith)
ranked_back Boolean (Truth true) h e f = refl
ranked_back Boolean (Truth false) h e f = refl
ranked_back ty Null h e f = absurd (e refl)
ranked_back Varchar v h e f = absurd (f refl)
ranked_back TinyInt (Truth b) h e f = absurd (omega arith)
ranked_back SmallInt (Truth b) h e f = absurd (omega arith)
ranked_back Integer (Truth b) h e f = absurd (omega arith)
ranked_back BigInt (Truth b) h e f = absurd (omega arith)
ranked_back UnsignedInt (Truth b) h e f = absurd (omega arith)
ranked_back UnsignedLong (Truth b) h e f = absurd (omega arith)
ranked_back TinyInt (Text b) h e f = absurd (let z = h.0 in omega arith)
ranked_back SmallInt (Text b) h e f = absurd (let z = h.0 in omega arith)
ranked_back Integer (Text b) h e f = absurd (let z = h.0 in omega arith)
ranked_back BigInt (Text b) h e f = absurd (let z = h.0 in omega arith)
ranked_back UnsignedInt (Text b) h e f = absurd (let z = h.0 in omega arith)
ranked_back UnsignedLong (Text b) h e f = absurd (let z = h.0 in omega arith)
ranked_back Boolean (Text b) h e f = absurd (let z = h.0 in omega arith)

front : (xs ys : List ℕ) (n : ℕ) → length xs ≡ n → take n (xs ++ ys) ≡ xs
front xs ys n e = ap (λ (k : ℕ). take k (xs ++ ys)) (sym e) ∙ take-append_seam xs ys

behind : (xs ys : List ℕ) → drop (length xs) (xs ++ ys) ≡ ys
behind [] ys = refl
behind (x ∷ xs) ys = behind xs ys

-- the number of a value of fixed width that begins bytes
pub digits_back : (ty : ColType) (v : Value) (rest : List ℕ) → HasType ty v → v ≢ Null → ty ≢ Varchar → ranked ty (number_of_bytes 0 (take (byte_width ty) (bytes_high_first (byte_width ty) (rank ty v) ++ rest))) ≡ v
digits_back ty v rest h e f =
    ap (λ (l : List ℕ). ranked ty (number_of_bytes 0 l)) (front (bytes_high_first (byte_width ty) (rank ty v)) rest (byte_width ty) (length-bytes_high_first (byte_width ty) (rank ty v)))
    ∙ ap (ranked ty) (number_back (byte_width ty) (rank ty v) (rank_fits ty v h))
    ∙ ranked_back ty v h e f

-- ---- cells

fixed_back : (ty : ColType) (v : Value) → HasType ty v → v ≢ Null → ty ≢ Varchar → ranked ty (number_of_bytes 0 (take (byte_width ty) (bytes_high_first (byte_width ty) (rank ty v)))) ≡ v
fixed_back ty v h e f =
    ap (λ (l : List ℕ). ranked ty (number_of_bytes 0 (take (byte_width ty) l))) (sym (append-nil (bytes_high_first (byte_width ty) (rank ty v))))
    ∙ digits_back ty v [] h e f

-- what is stored is read again
pub value_back : (ty : ColType) (v : Value) → HasType ty v → v ≢ Null → value_of_bytes ty (stored ty v) ≡ v
value_back Varchar Null h e = absurd (e refl)
value_back Varchar (Number n) h e = absurd (let z = h.0 in omega arith)
value_back Varchar (Truth b) h e = absurd (omega arith)
value_back Varchar (Text b) h e = cond-true _ _ _ (is_utf8-from_IsUtf8 b h.1.utf8)
value_back TinyInt v h e = fixed_back TinyInt v h e (λ z. cc)
value_back SmallInt v h e = fixed_back SmallInt v h e (λ z. cc)
value_back Integer v h e = fixed_back Integer v h e (λ z. cc)
value_back BigInt v h e = fixed_back BigInt v h e (λ z. cc)
value_back UnsignedInt v h e = fixed_back UnsignedInt v h e (λ z. cc)
value_back UnsignedLong v h e = fixed_back UnsignedLong v h e (λ z. cc)
value_back Boolean v h e = fixed_back Boolean v h e (λ z. cc)

-- ---- parts of keys

zero_none : (b : ℕ) → (b ≡ 0 → ⊥) → nat_eq b 0 ≡ false
zero_none b n = ne_eqb b 0 n

text_ends : (bytes rest : List ℕ) → All (λ b. b ≢ 0) bytes → text_size (bytes ++ 0 ∷ rest) ≡ length bytes
unfolding text_size
text_ends [] rest h = refl
text_ends (b ∷ bytes) rest h = cond-false _ _ _ (zero_none b (All-head (λ b. b ≢ 0) b bytes h)) ∙ ap suc (text_ends bytes rest (All-tail (λ b. b ≢ 0) b bytes h))

text_back : (bytes : List ℕ) → 1 ≤ length bytes → text_value bytes ≡ Text bytes
text_back [] h = absurd (omega arith)
text_back (b ∷ bytes) h = refl

plain_text : (n : Bool) (v : Value) (rest : List ℕ) → HasType Varchar v → (plain_value Varchar n (plain_bytes Varchar n v ++ rest) ≡ v) × (plain_size Varchar n (plain_bytes Varchar n v ++ rest) ≡ length (plain_bytes Varchar n v))
unfolding text_size
plain_text n Null rest h = (refl, refl)
plain_text n (Number a) rest h = absurd (let z = h.0 in omega arith)
plain_text n (Truth a) rest h = absurd (omega arith)
plain_text n (Text bytes) rest h =
    let all : (bytes ++ 0 ∷ []) ++ rest ≡ bytes ++ 0 ∷ rest = append_assoc bytes (0 ∷ []) rest in
    let size : text_size ((bytes ++ 0 ∷ []) ++ rest) ≡ length bytes = ap text_size all ∙ text_ends bytes rest h.1.no_zero in (
      ap (λ (k : ℕ). text_value (take k ((bytes ++ 0 ∷ []) ++ rest))) size ∙ ap (λ (l : List ℕ). text_value (take (length bytes) l)) all ∙ ap text_value (front bytes (0 ∷ rest) (length bytes) refl) ∙ text_back bytes h.1.least,
      ap suc size ∙ (let e = length-append bytes (0 ∷ []) in omega (arith, e)),
    )

-- of the parts of fixed width
plain_fixed : (ty : ColType) (n : Bool) (v : Value) (rest : List ℕ) → ty ≢ Varchar → HasType ty v → (v ≡ Null → n ≡ true) → (fixed_value ty n (fixed_bytes ty n v ++ rest) ≡ v) × (fixed_size ty n (fixed_bytes ty n v ++ rest) ≡ length (fixed_bytes ty n v))
plain_fixed ty true Null rest f h e = (refl, refl)
plain_fixed ty false Null rest f h e = absurd (let z = e refl in cc)
plain_fixed ty true (Number a) rest f h e = (digits_back ty (Number a) rest h (λ z. cc) f, ap suc (sym (length-bytes_high_first (byte_width ty) (rank ty (Number a)))))
plain_fixed ty true (Truth a) rest f h e = (digits_back ty (Truth a) rest h (λ z. cc) f, ap suc (sym (length-bytes_high_first (byte_width ty) (rank ty (Truth a)))))
plain_fixed ty true (Text a) rest f h e = (digits_back ty (Text a) rest h (λ z. cc) f, ap suc (sym (length-bytes_high_first (byte_width ty) (rank ty (Text a)))))
plain_fixed ty false (Number a) rest f h e = (digits_back ty (Number a) rest h (λ z. cc) f, sym (length-bytes_high_first (byte_width ty) (rank ty (Number a))))
plain_fixed ty false (Truth a) rest f h e = (digits_back ty (Truth a) rest h (λ z. cc) f, sym (length-bytes_high_first (byte_width ty) (rank ty (Truth a))))
plain_fixed ty false (Text a) rest f h e = (digits_back ty (Text a) rest h (λ z. cc) f, sym (length-bytes_high_first (byte_width ty) (rank ty (Text a))))

plain_back : (ty : ColType) (n : Bool) (v : Value) (rest : List ℕ) → HasType ty v → (v ≡ Null → n ≡ true) → (plain_value ty n (plain_bytes ty n v ++ rest) ≡ v) × (plain_size ty n (plain_bytes ty n v ++ rest) ≡ length (plain_bytes ty n v))
plain_back Varchar n v rest h e = plain_text n v rest h
plain_back TinyInt n v rest h e = plain_fixed TinyInt n v rest (λ z. cc) h e
plain_back SmallInt n v rest h e = plain_fixed SmallInt n v rest (λ z. cc) h e
plain_back Integer n v rest h e = plain_fixed Integer n v rest (λ z. cc) h e
plain_back BigInt n v rest h e = plain_fixed BigInt n v rest (λ z. cc) h e
plain_back UnsignedInt n v rest h e = plain_fixed UnsignedInt n v rest (λ z. cc) h e
plain_back UnsignedLong n v rest h e = plain_fixed UnsignedLong n v rest (λ z. cc) h e
plain_back Boolean n v rest h e = plain_fixed Boolean n v rest (λ z. cc) h e

-- the values of a key's parts are read again
pub parts_back : (columns : List KeyColumn) (values : List Value) (rest : List ℕ) → Fits columns values → read_parts columns (spelled columns values ++ rest) ≡ values
unfolding read_parts
parts_back [] [] rest h = refl
parts_back [] (v ∷ values) rest h = absurd h
parts_back (c ∷ columns) [] rest h = absurd h
parts_back (c ∷ columns) (v ∷ values) rest h =
    let d = c.direction in
    let plain = plain_bytes c.ty c.may_be_null v in
    let part = part_bytes c v in
    let later = spelled columns values ++ rest in
    let all : (part ++ spelled columns values) ++ rest ≡ part ++ later = append_assoc part (spelled columns values) rest in
    let turned : directed d ((part ++ spelled columns values) ++ rest) ≡ plain ++ directed d later =
    ap (directed d) all ∙ directed-append d part later ∙ ap (λ (l : List ℕ). l ++ directed d later) (directed_twice d plain (plain_are_bytes c.ty c.may_be_null v h.0.0)) in
    let back = plain_back c.ty c.may_be_null v (directed d later) h.0.0 h.0.1 in
    let size : plain_size c.ty c.may_be_null (directed d ((part ++ spelled columns values) ++ rest)) ≡ length part = ap (plain_size c.ty c.may_be_null) turned ∙ back.1 ∙ sym (directed-length d plain) in
    let first : plain_value c.ty c.may_be_null (directed d ((part ++ spelled columns values) ++ rest)) ≡ v = ap (plain_value c.ty c.may_be_null) turned ∙ back.0 in
    let others : read_parts columns (drop (plain_size c.ty c.may_be_null (directed d ((part ++ spelled columns values) ++ rest))) ((part ++ spelled columns values) ++ rest)) ≡ values =
    ap (λ (k : ℕ). read_parts columns (drop k ((part ++ spelled columns values) ++ rest))) size
    ∙ ap (λ (l : List ℕ). read_parts columns (drop (length part) l)) all
    ∙ ap (read_parts columns) (behind part later)
    ∙ parts_back columns values rest h.1 in
    (λ i. first i ∷ others i)

-- ---- keys

all_bytes-from : (bytes : List ℕ) → All (λ b. b < 256) bytes → are_all_bytes bytes ≡ true
unfolding are_all_bytes
all_bytes-from [] h = refl
all_bytes-from (b ∷ bytes) h = (λ i. lt-ltb b 256 (All-head (λ b. b < 256) b bytes h) i && are_all_bytes bytes) ∙ all_bytes-from bytes (All-tail (λ b. b < 256) b bytes h)

directed_are_bytes : (d : Direction) (bytes : List ℕ) → All (λ b. b < 256) bytes → All (λ b. b < 256) (directed d bytes)
directed_are_bytes Ascending bytes h = h
directed_are_bytes Descending [] h = h
directed_are_bytes Descending (b ∷ bytes) h = All-cons (λ b. b < 256) (255 - b) (directed Descending bytes) (omega arith) (directed_are_bytes Descending bytes (All-tail (λ b. b < 256) b bytes h))

pub spelled_are_bytes : (columns : List KeyColumn) (values : List Value) → Fits columns values → All (λ b. b < 256) (spelled columns values)
spelled_are_bytes [] [] h = All-nil (λ b. b < 256)
spelled_are_bytes [] (v ∷ values) h = absurd h
spelled_are_bytes (c ∷ columns) [] h = absurd h
spelled_are_bytes (c ∷ columns) (v ∷ values) h =
    All-append (λ b. b < 256) (part_bytes c v) (spelled columns values) (directed_are_bytes c.direction (plain_bytes c.ty c.may_be_null v) (plain_are_bytes c.ty c.may_be_null v h.0.0)) (spelled_are_bytes columns values h.1)

-- values that fit are a key
pub is_key-fits : (columns : List KeyColumn) (values : List Value) → Fits columns values → is_read_back columns values ≡ true
unfolding is_read_back
is_key-fits columns values h =
    let back : read_parts columns (spelled columns values) ≡ values = ap (read_parts columns) (sym (append-nil (spelled columns values))) ∙ parts_back columns values [] h in
    (λ i. (row_order-Decides (read_parts columns (spelled columns values)) values).1 back i && all_bytes-from (spelled columns values) (spelled_are_bytes columns values h) i)

pub row_key-fits : (t : Table) (r : List Value) → Fits (row_columns t) r → row_key t r ≡ spelled (row_columns t) r
unfolding row_key
row_key-fits t r h = cond-true _ _ _ (is_key-fits (row_columns t) r h)

-- what stands for values is read back to them
read_code : List ℕ → Value × List ℕ
read_code (zero ∷ rest) = (Null, rest)
read_code (suc zero ∷ n ∷ rest) = (Number (pos n), rest)
read_code (suc (suc zero) ∷ n ∷ rest) = (Number (negsuc n), rest)
read_code (suc (suc (suc zero)) ∷ rest) = (Truth true, rest)
read_code (suc (suc (suc (suc zero))) ∷ rest) = (Truth false, rest)
read_code (suc (suc (suc (suc (suc zero)))) ∷ n ∷ rest) = (Text (take n rest), drop n rest)
read_code other = (Null, other)

code_back : (v : Value) (rest : List ℕ) → read_code (value_code v ++ rest) ≡ (v, rest)
unfolding read_code
code_back Null rest = refl
code_back (Number (pos n)) rest = refl
code_back (Number (negsuc n)) rest = refl
code_back (Truth true) rest = refl
code_back (Truth false) rest = refl
code_back (Text bytes) rest = (λ i. (Text (front bytes rest (length bytes) refl i), behind bytes rest i))

read_codes : ℕ → List ℕ → List Value
read_codes zero code = []
read_codes (suc n) code = (read_code code).0 ∷ read_codes n (read_code code).1

codes_back : (r : List Value) → read_codes (length r) (row_code r) ≡ r
unfolding read_codes row_code
codes_back [] = refl
codes_back (v ∷ r) =
    let e = code_back v (row_code r) in
    let rest : read_codes (length r) (read_code (value_code v ++ row_code r)).1 ≡ r = ap (λ (p : Value × List ℕ). read_codes (length r) p.1) e ∙ codes_back r in
    (λ i. (e i).0 ∷ rest i)

no_key-apart : (r r' : List Value) → no_key r ≡ no_key r' → r ≡ r'
no_key-apart r r' e =
    let rest : length r ∷ row_code r ≡ length r' ∷ row_code r' = ap (drop 1) e in
    let size : length r ≡ length r' = ap (λ (l : List ℕ). get_or l 0 0) rest in
    let code : row_code r ≡ row_code r' = ap (drop 1) rest in
    sym (codes_back r) ∙ ((λ i. read_codes (size i) (code i)) ∙ codes_back r')

no_bytes : (bytes : List ℕ) (r : List Value) → are_all_bytes bytes ≡ true → bytes ≡ no_key r → ⊥
unfolding are_all_bytes
no_bytes bytes r h e = (let z : are_all_bytes (no_key r) ≡ true = ap are_all_bytes (sym e) ∙ h in cc)

-- no two rows have one key
pub row_key-apart : (t : Table) (r r' : List Value) → row_key t r ≡ row_key t r' → r ≡ r'
unfolding row_key is_read_back
row_key-apart t r r' e = elim (cases_Bool (is_read_back (row_columns t) r)) [
  | inl a ↦ elim (cases_Bool (is_read_back (row_columns t) r')) [
    | inl b ↦
        (let bytes : spelled (row_columns t) r ≡ spelled (row_columns t) r' = sym (cond-true _ _ _ a) ∙ (e ∙ cond-true _ _ _ b) in
        sym ((row_order-Decides _ r).0 (and_parts _ _ a).0) ∙ (ap (read_parts (row_columns t)) bytes ∙ (row_order-Decides _ r').0 (and_parts _ _ b).0))
    | inr b ↦ absurd (no_bytes (spelled (row_columns t) r) r' (and_parts _ _ a).1 (sym (cond-true _ _ _ a) ∙ (e ∙ cond-false _ _ _ b)))
  ]
  | inr a ↦ elim (cases_Bool (is_read_back (row_columns t) r')) [
    | inl b ↦ absurd (no_bytes (spelled (row_columns t) r') r (and_parts _ _ b).1 (sym (cond-true _ _ _ b) ∙ (sym e ∙ cond-false _ _ _ a)))
    | inr b ↦ no_key-apart r r' (sym (cond-false _ _ _ a) ∙ (e ∙ cond-false _ _ _ b))
  ]
]
