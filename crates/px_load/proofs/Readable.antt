-- The script of a load is one that is run.
use Rattle.std.proofs.Common.{ℕ, zero, suc, ◌+◌, ◌*◌, ◌^◌, ◌<◌, ◌≤◌, ◌≡◌, Bool, true, false, ◌&&◌, nat_lt, List, [], ◌∷◌, ◌++◌, length, get_or, lit<, lit≤, arith, refl, length-append}
use Rattle.std.specs.Prelude.{codes, decimal}
use Rattle.std.specs.Str.{IsUtf8}
use Rattle.std.proofs.lemmas.Bool.{and_parts, ltb-true}
use Rattle.std.proofs.lemmas.Fmt.{IsAscii-decimal, length-decimal-le}
use Rattle.std.proofs.lemmas.Nat.{mod_below}
use Rattle.std.proofs.lemmas.Str.{IsUtf8-append, IsUtf8-from_ascii, IsUtf8-nil}
use Rattle.px_load.specs.declared.rows.LoadRow.{LoadRow}
use Rattle.px_load.specs.declared.script.Load.{Load}
use Rattle.px_load.specs.Rows.{behind_rows, draw_at, row_behind}
use Rattle.px_load.specs.Script.{before, behind, commit, is_committed, load_text, put, puts, upsert_line}
use Rattle.px_script.specs.Scripts.{IsReadableScript}

abbrev all_ascii : List ℕ → Bool
all_ascii [] = true
all_ascii (b ∷ bs) = nat_lt b 128 && all_ascii bs

ascii : (bs : List ℕ) → all_ascii bs ≡ true → (i : ℕ) → get_or bs i 0 < 128
ascii [] h zero = lit< tt
ascii [] h (suc i) = lit< tt
ascii (b ∷ bs) h zero = ltb-true b 128 (and_parts (nat_lt b 128) (all_ascii bs) h).0
ascii (b ∷ bs) h (suc i) = ascii bs (and_parts (nat_lt b 128) (all_ascii bs) h).1 i

-- a part of the script: of characters, and so long at most
record IsPart (most : ℕ) (text : List ℕ) : Type 0 where
  short : length text ≤ most
  utf8 : IsUtf8 text

both : (m n : ℕ) (a b : List ℕ) → IsPart m a → IsPart n b → IsPart (m + n) (a ++ b)
both m n a b p q =
    let len = length-append a b in
    let left = p.short in
    let right = q.short in
    record { short = omega arith; utf8 = IsUtf8-append a b p.utf8 q.utf8 }

wider : (m n : ℕ) (text : List ℕ) → m ≤ n → IsPart m text → IsPart n text
wider m n text more p = let short = p.short in record { short = omega arith; utf8 = p.utf8 }

words : (n : ℕ) (text : List ℕ) → length text ≤ n → all_ascii text ≡ true → IsPart n text
words n text short low = record { short = short; utf8 = IsUtf8-from_ascii text (ascii text low) }

-- a number of five digits at most
number : (n : ℕ) → n < 100000 → IsPart 5 (decimal n)
number n low =
    let wide : n < 2 ^ 64 = omega arith in
    record { short = length-decimal-le 5 n (lit< tt) low wide; utf8 = IsUtf8-from_ascii (decimal n) (IsAscii-decimal n wide) }

one : (row : LoadRow) → row.id < 100000 → row.group < 100000 → row.amount < 100000 → IsPart 50 (upsert_line row)
unfolding upsert_line
one row i g a =
    let first : IsPart 25 (codes "UPSERT INTO LOAD VALUES (") = words 25 (codes "UPSERT INTO LOAD VALUES (") (lit≤ tt) refl in
    let second : IsPart 4 (codes ", 'G") = words 4 (codes ", 'G") (lit≤ tt) refl in
    let third : IsPart 3 (codes "', ") = words 3 (codes "', ") (lit≤ tt) refl in
    let last : IsPart 3 (codes ");\n") = words 3 (codes ");\n") (lit≤ tt) refl in
    let id = both 25 5 _ _ first (number row.id i) in
    let group = both 4 5 _ _ second (number row.group g) in
    let amount = both 3 5 _ _ third (number row.amount a) in
    both 47 3 _ _ (both 39 8 _ _ (both 30 9 _ _ id group) amount) last

committed : (is_there : Bool) → IsPart 8 (commit is_there)
committed true = words 8 (codes "!commit\n") (lit≤ tt) refl
committed false = record { short = lit≤ tt; utf8 = IsUtf8-nil }

one_put : (place rows number : ℕ) → place < rows → rows ≤ 100000 → IsPart 58 (put place rows number)
one_put place rows n there few =
    let some : 0 < rows = omega arith in
    let id = mod_below (draw_at 1 n) rows some in
    let group = mod_below (draw_at 2 n) 50 (lit< tt) in
    let amount = mod_below (draw_at 3 n) 1000 (lit< tt) in
    both 50 8 _ _ (one (row_behind rows n) (omega arith) (omega arith) (omega arith)) (committed (is_committed place rows))

all_puts : (count rows number : ℕ) → count ≤ rows → rows ≤ 100000 → IsPart (58 * count) (puts count rows number)
all_puts zero rows n within few = record { short = lit≤ tt; utf8 = IsUtf8-nil }
all_puts (suc count) rows n within few =
    let front = all_puts count rows n (omega arith) few in
    let last = one_put count rows (behind_rows count n) (omega arith) few in
    wider (58 * count + 58) (58 * suc count) _ (omega arith) (both (58 * count) 58 _ _ front last)

-- it isn't too long, and of characters
pub readable : (load : Load) → load.rows ≤ 100000 → IsReadableScript (load_text load)
unfolding load_text
readable load few =
    let front : IsPart 200 before = words 200 before (lit≤ tt) refl in
    let rear : IsPart 200 behind = words 200 behind (lit≤ tt) refl in
    let rows = all_puts load.rows load.rows load.number (omega arith) few in
    let whole = both (200 + 58 * load.rows) 200 _ _ (both 200 (58 * load.rows) _ _ front rows) rear in
    let short = whole.short in
    record { short = omega arith; utf8 = whole.utf8 }
