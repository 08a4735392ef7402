-- The records of a segment have one reading.
use Rattle.std.proofs.Common.{◌≡◌, ◌≢◌, inl, inr, ℕ, zero, suc, ◌+◌, ◌^◌, ◌<◌, ◌≤◌, Bool, true, false, List, [], ◌∷◌, ◌++◌, length, get_or, take, drop, Option, Some, None, Result, Ok, Err, refl, sym, ap, subst, ◌∙◌, append_assoc, arith}
use Rattle.std.specs.List.{AllByRecursion}
use Rattle.std.specs.Int.{w32, to_be_bytes, from_be_bytes}
use Rattle.std.proofs.lemmas.Bool.{cases_eq, cases_lt}
use Rattle.std.proofs.lemmas.List.{append-nil, length-append, length-take-le, length-drop, take-append-drop, drop-drop}
use Rattle.std.proofs.lemmas.Nat.{be_bytes_4}
use Rattle.px_gatelog.specs.Format.{AreRightRecords, LogForm, LogRecord, body_len, can_end, record_bytes, record_in, records_at, records_bytes, with_first}
use Rattle.px_gatelog.specs.Reading.{IsRecordReading, IsWrongGate}
use Rattle.px_gatelog.proofs.Spelled.{records_closed, records_first, records_missed, records_short, records_spelled, records_wrong}

-- records that were read before the others
abbrev pub with_front : List LogRecord → Result (List LogRecord) ℕ → Result (List LogRecord) ℕ
with_front [] read = read
with_front (r ∷ records) read = with_first r (with_front records read)

pub with_front-err : (records : List LogRecord) (place : ℕ) → with_front records (Err place) ≡ Err place
with_front-err [] place = refl
with_front-err (r ∷ records) place = ap (with_first r) (with_front-err records place)

-- right records, and what is read behind them
read_front : (form : LogForm) (before : List LogRecord) (at : ℕ) (records : List LogRecord) (gate : ℕ) (rest : List ℕ) → AreRightRecords form before records
    → records_at form before at 0 (records_bytes records ++ gate ∷ rest) ≡ with_front records (records_at form (before ++ records) (at + length (records_bytes records)) 0 (gate ∷ rest))
read_front form before at [] gate rest right =
    ap (λ (l : List LogRecord). records_at form l at 0 (gate ∷ rest)) (sym (append-nil before)) ∙ ap (λ (k : ℕ). records_at form (before ++ []) k 0 (gate ∷ rest)) (omega arith)
read_front form before at (r ∷ records) gate rest right =
    let tail = records_bytes records ++ gate ∷ rest in
    ap (λ (l : List ℕ). records_at form before at 0 (1 ∷ l)) (append_assoc (record_bytes r) (records_bytes records) (gate ∷ rest))
    ∙ records_first form before at r tail right.0 right.1 (omega (arith, length-append (records_bytes records) (gate ∷ rest)))
    ∙ ap (with_first r) (read_front form (before ++ r ∷ []) (at + 6 + length r.body) records gate rest right.2
    ∙ ap (λ (l : List LogRecord). with_front records (records_at form l (at + 6 + length r.body + length (records_bytes records)) 0 (gate ∷ rest))) (append_assoc before (r ∷ []) records)
    ∙ ap (λ (k : ℕ). with_front records (records_at form (before ++ r ∷ records) k 0 (gate ∷ rest))) (omega (arith, length-append r.body (records_bytes records))))

wrong_gate : (form : LogForm) (before : List LogRecord) (at gate : ℕ) (rest : List ℕ) (place : ℕ) → IsWrongGate form before at gate rest place → records_at form before at 0 (gate ∷ rest) ≡ Err place
wrong_gate form before at gate rest place (inl missed) = records_missed form before at gate rest missed.0 missed.1 ∙ ap (λ (p : ℕ). Err p) (sym missed.2)
wrong_gate form before at gate rest place (inr (inl short)) =
    ap (λ (b : ℕ). records_at form before at 0 (b ∷ rest)) short.0 ∙ records_short form before at (body_len rest) rest refl short.1 ∙ ap (λ (p : ℕ). Err p) (sym short.2)
wrong_gate form before at gate rest place (inr (inr w)) =
    ap (λ (b : ℕ). records_at form before at 0 (b ∷ rest)) w.0 ∙ records_wrong form before at w.2.0 rest w.1 w.2.1 ∙ ap (λ (p : ℕ). Err p) (sym w.2.2)

nothing_read : (form : LogForm) (before : List LogRecord) (at : ℕ) → records_at form before at 0 [] ≡ Err at
unfolding records_at
nothing_read form before at = refl

-- a reading is what the format reads
reading_is : (form : LogForm) (before : List LogRecord) (at : ℕ) (bytes : List ℕ) (reading : Result (List LogRecord) ℕ) → IsRecordReading form before at bytes reading → records_at form before at 0 bytes ≡ reading
reading_is form before at bytes (Ok records) are = ap (records_at form before at 0) are.spells ∙ records_spelled form before at records are.gate are.rest are.closed are.fit
reading_is form before at bytes (Err place) (inl none) = ap (records_at form before at 0) none.0 ∙ nothing_read form before at ∙ ap (λ (p : ℕ). Err p) (sym none.1)
reading_is form before at bytes (Err place) (inr w) =
    ap (records_at form before at 0) w.spells ∙ read_front form before at w.records w.gate w.rest w.right
    ∙ ap (with_front w.records) (wrong_gate form (before ++ w.records) (at + length (records_bytes w.records)) w.gate w.rest place w.wrong) ∙ with_front-err w.records place

pub one_reading : (form : LogForm) (before : List LogRecord) (at : ℕ) (bytes : List ℕ) (a b : Result (List LogRecord) ℕ) → IsRecordReading form before at bytes a → IsRecordReading form before at bytes b → a ≡ b
one_reading form before at bytes a b one two = sym (reading_is form before at bytes a one) ∙ reading_is form before at bytes b two

-- ---- and every bytes have it

-- a right record, and the reading behind it
behind_first : (form : LogForm) (before : List LogRecord) (at : ℕ) (r : LogRecord) (tail : List ℕ) (reading : Result (List LogRecord) ℕ) → form.wrong before r ≡ None → length r.body < 2 ^ 32 → 0 < length tail
    → IsRecordReading form (before ++ r ∷ []) (at + 6 + length r.body) tail reading → IsRecordReading form before at (1 ∷ record_bytes r ++ tail) (with_first r reading)
behind_first form before at r tail (Ok records) right short some are = record {
  gate = are.gate;
  rest = are.rest;
  closed = are.closed;
  spells = ap (λ (l : List ℕ). 1 ∷ record_bytes r ++ l) are.spells ∙ ap (λ (l : List ℕ). 1 ∷ l) (sym (append_assoc (record_bytes r) (records_bytes records) (are.gate ∷ are.rest)));
  fit = ((right, short, are.fit.0), ap (can_end form.empty) (sym (append_assoc before (r ∷ []) records)) ∙ are.fit.1);
}
behind_first form before at r tail (Err place) right short some (inl none) = absurd (omega (arith, some, ap length none.0))
behind_first form before at r tail (Err place) right short some (inr w) = inr (record {
  records = r ∷ w.records;
  gate = w.gate;
  rest = w.rest;
  spells = ap (λ (l : List ℕ). 1 ∷ record_bytes r ++ l) w.spells ∙ ap (λ (l : List ℕ). 1 ∷ l) (sym (append_assoc (record_bytes r) (records_bytes w.records) (w.gate ∷ w.rest)));
  right = (right, short, w.right);
  wrong =
      subst (λ (l : List LogRecord). IsWrongGate form l (at + length (records_bytes (r ∷ w.records))) w.gate w.rest place) (append_assoc before (r ∷ []) w.records)
      (subst (λ (k : ℕ). IsWrongGate form ((before ++ r ∷ []) ++ w.records) k w.gate w.rest place) (omega (arith, length-append r.body (records_bytes w.records))) w.wrong);
})

all_small : (bytes : List ℕ) → AllByRecursion (λ (b : ℕ). b < 256) bytes → (i : ℕ) → get_or bytes i 0 < 256
all_small [] all i = omega arith
all_small (b ∷ bytes) all zero = all.0
all_small (b ∷ bytes) all (suc i) = all_small bytes all.1 i

small_behind : (n : ℕ) (bytes : List ℕ) → AllByRecursion (λ (b : ℕ). b < 256) bytes → AllByRecursion (λ (b : ℕ). b < 256) (drop n bytes)
small_behind zero bytes all = all
small_behind (suc n) [] all = tt
small_behind (suc n) (b ∷ bytes) all = small_behind n bytes all.1

-- what is behind an open gate is a record and what follows it
whole_record : (rest : List ℕ) → AllByRecursion (λ (b : ℕ). b < 256) rest → 5 + body_len rest < length rest
    → (rest ≡ record_bytes (record_in rest) ++ drop (5 + body_len rest) rest) × (length (record_in rest).body ≡ body_len rest) × (body_len rest < 2 ^ 32)
whole_record [] all long = absurd (omega (arith, long))
whole_record (k ∷ []) all long = absurd (omega (arith, long))
whole_record (k ∷ a ∷ []) all long = absurd (omega (arith, long))
whole_record (k ∷ a ∷ b ∷ []) all long = absurd (omega (arith, long))
whole_record (k ∷ a ∷ b ∷ c ∷ []) all long = absurd (omega (arith, long))
whole_record (k ∷ a ∷ b ∷ c ∷ d ∷ behind) all long =
    let n = from_be_bytes w32 (a ∷ b ∷ c ∷ d ∷ []) in
    let four : AllByRecursion (λ (x : ℕ). x < 256) (a ∷ b ∷ c ∷ d ∷ []) = (all.1.0, (all.1.1.0, (all.1.1.1.0, (all.1.1.1.1.0, tt)))) in
    let bound : n < 2 ^ 32 = omega (arith, four.0, four.1.0, four.1.1.0, four.1.1.1.0) in
    let size : length (take n behind) ≡ n = length-take-le n behind (omega (arith, long)) in
    let number : to_be_bytes w32 (length (take n behind)) ≡ a ∷ b ∷ c ∷ d ∷ [] = ap (to_be_bytes w32) size ∙ be_bytes_4 (a ∷ b ∷ c ∷ d ∷ []) n refl (all_small (a ∷ b ∷ c ∷ d ∷ []) four) refl in
    let parts : behind ≡ take n behind ++ drop n behind = sym (take-append-drop n behind) in (
      ap (λ (l : List ℕ). k ∷ a ∷ b ∷ c ∷ d ∷ l) parts ∙ ap (λ (l : List ℕ). (k ∷ l ++ take n behind) ++ drop n behind) (sym number)
          ∙ ap (λ (l : List ℕ). record_bytes (record { kind = k; body = take n behind }) ++ l) (drop-drop n 5 (k ∷ a ∷ b ∷ c ∷ d ∷ behind)),
      size,
      bound,
    )

module _ (form : LogForm) where
  at_gate : (fuel : ℕ) (before : List LogRecord) (at gate : ℕ) (rest : List ℕ) → length rest ≤ fuel → AllByRecursion (λ (b : ℕ). b < 256) rest
      → ((before' : List LogRecord) (at' : ℕ) (bytes : List ℕ) → length bytes < fuel + 1 → AllByRecursion (λ (b : ℕ). b < 256) bytes → IsRecordReading form before' at' bytes (records_at form before' at' 0 bytes))
      → IsRecordReading form before at (gate ∷ rest) (records_at form before at 0 (gate ∷ rest))
  at_gate fuel before at gate rest fits all more = elim (cases_eq gate 1) [
    | inr shut ↦ ended (can_end form.empty before) refl shut
    | inl open_ ↦ elim (cases_lt (5 + body_len rest) (length rest)) [
      | inr short ↦ subst (IsRecordReading form before at (gate ∷ rest)) (sym (wrong_gate form before at gate rest at (inr (inl (open_, short, refl))))) (here at (inr (inl (open_, short, omega arith))))
      | inl long ↦ by (form.wrong before (record_in rest)) refl open_ long
    ]
  ]
    where
      here : (place : ℕ) → IsWrongGate form (before ++ []) (at + 0) gate rest place → IsRecordReading form before at (gate ∷ rest) (Err place)
      here place wrong = inr (record { records = []; gate = gate; rest = rest; spells = refl; right = tt; wrong = wrong })

      ended : (b : Bool) → can_end form.empty before ≡ b → gate ≢ 1 → IsRecordReading form before at (gate ∷ rest) (records_at form before at 0 (gate ∷ rest))
      ended true is shut =
          subst (IsRecordReading form before at (gate ∷ rest)) (sym (records_closed form before at gate rest shut is))
          (record { gate = gate; rest = rest; closed = shut; spells = refl; fit = (tt, ap (can_end form.empty) (append-nil before) ∙ is) })
      ended false is shut =
          subst (IsRecordReading form before at (gate ∷ rest)) (sym (records_missed form before at gate rest shut is)) (here at (inl (shut, ap (can_end form.empty) (append-nil before) ∙ is, omega arith)))

      by : (wrong : Option ℕ) → form.wrong before (record_in rest) ≡ wrong → gate ≡ 1 → 5 + body_len rest < length rest → IsRecordReading form before at (gate ∷ rest) (records_at form before at 0 (gate ∷ rest))
      by (Some p) is open_ long =
          subst (IsRecordReading form before at (gate ∷ rest)) (sym (wrong_gate form before at gate rest (at + 1 + p) (inr (inr (open_, long, (p, is, refl))))))
          (here (at + 1 + p) (inr (inr (open_, long, (p, ap (λ (l : List LogRecord). form.wrong l (record_in rest)) (append-nil before) ∙ is, omega arith)))))
      by None is open_ long =
          let r = record_in rest in
          let whole = whole_record rest all long in
          let tail = drop (5 + body_len rest) rest in
          let some : 0 < length tail = omega (arith, length-drop (5 + body_len rest) rest, long) in
          let short : length r.body < 2 ^ 32 = omega (arith, whole.1, whole.2) in
          let bytes : gate ∷ rest ≡ 1 ∷ record_bytes r ++ tail = ap (λ (g : ℕ). g ∷ rest) open_ ∙ ap (λ (l : List ℕ). 1 ∷ l) whole.0 in
          let reading = more (before ++ r ∷ []) (at + 6 + length r.body) tail (omega (arith, length-drop (5 + body_len rest) rest, long, fits)) (small_behind (5 + body_len rest) rest all) in
          let first = behind_first form before at r tail (records_at form (before ++ r ∷ []) (at + 6 + length r.body) 0 tail) is short some reading in
          subst (λ (l : List ℕ). IsRecordReading form before at l (records_at form before at 0 l)) (sym bytes)
          (subst (IsRecordReading form before at (1 ∷ record_bytes r ++ tail)) (sym (records_first form before at r tail is short some)) first)

  within : (fuel : ℕ) (before : List LogRecord) (at : ℕ) (bytes : List ℕ) → length bytes < fuel → AllByRecursion (λ (b : ℕ). b < 256) bytes → IsRecordReading form before at bytes (records_at form before at 0 bytes)
  within zero before at bytes lt all = absurd (omega (arith, lt))
  within (suc fuel) before at [] lt all = subst (IsRecordReading form before at []) (sym (nothing_read form before at)) (inl (refl, refl))
  within (suc zero) before at (gate ∷ rest) lt all = absurd (omega (arith, lt))
  within (suc (suc fuel)) before at (gate ∷ rest) lt all = at_gate fuel before at gate rest (omega (arith, lt)) all.1 (λ before' at' bytes less small. within (suc fuel) before' at' bytes (omega (arith, less)) small)

pub every_reading : (form : LogForm) (before : List LogRecord) (at : ℕ) (bytes : List ℕ) → AllByRecursion (λ (b : ℕ). b < 256) bytes → IsRecordReading form before at bytes (records_at form before at 0 bytes)
every_reading form before at bytes all = within form (length bytes + 1) before at bytes (omega arith) all
