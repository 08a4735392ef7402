-- Reading a list in a loop, one item in each turn.
use Rattle.std.proofs.Common.{◌≡◌, ℕ, suc, ◌+◌, ◌-◌, ◌≤◌, ◌<◌, true, false, List, [], ◌∷◌, ◌++◌, length, refl, sym, ap, ◌∙◌, append_assoc, arith}
use Rattle.std.proofs.lemmas.List.{append-nil}
use Rattle.px_lex.specs.Lexemes.{Seen}
use Rattle.px_lex.specs.declared.kind.Kind.{Kind}
use Rattle.px_words.specs.declared.fault.ReadFault.{ReadFault}
use Rattle.px_words.specs.declared.fault.ReadFault.TheVariants as faults
use Rattle.px_ast.specs.Rule.{sees, Outcome, Got, Stuck, Deep, and_then, Rule, many_at, many, separated, ◌▹◌}
use Rattle.px_words.specs.Reading.{Fails, behind_first}

-- what was read before, and what is still read
abbrev pub with_front : {A : Type 0} → List A → Outcome (List A) → Outcome (List A)
with_front front o = and_then o (λ others end. Got (front ++ others) end)

regroup : {A : Type 0} (front : List A) (a : A) (o : Outcome (List A)) → with_front front (and_then o (λ others end. Got (a ∷ others) end)) ≡ with_front (front ++ a ∷ []) o
regroup {A} front a (Got others end) = ap (λ (x : List A). Got x end) (simp append_assoc)
regroup front a (Stuck rest) = refl
regroup front a Deep = refl

step : {A : Type 0} (q : Rule A) (front : List A) (a : A) (ts rest : List Seen) (end turn : ℕ) → turn < end → sees q.begins ts ≡ true → q.at ts ≡ Got a rest
    → with_front front (many_at q (end - turn) ts) ≡ with_front (front ++ a ∷ []) (many_at q (end - (turn + 1)) rest)
step q front a ts rest end turn lt seen read =
    let n : end - turn ≡ suc (end - (turn + 1)) = omega arith in
    rw (n, seen, read) (regroup front a (many_at q (end - (turn + 1)) rest))

pub goes_on : {A : Type 0} (q : Rule A) (front : List A) (a : A) (ts rest : List Seen) (end turn : ℕ) (total : Outcome (List A)) → turn < end → sees q.begins ts ≡ true → q.at ts ≡ Got a rest
    → with_front front (many_at q (end - turn) ts) ≡ total → with_front (front ++ a ∷ []) (many_at q (end - (turn + 1)) rest) ≡ total
goes_on q front a ts rest end turn total lt seen read so_far = sym (step q front a ts rest end turn lt seen read) ∙ so_far

pub fails : {A : Type 0} (q : Rule A) (front : List A) (ts new : List Seen) (end turn : ℕ) (total : Outcome (List A)) (e : ReadFault) → turn < end → sees q.begins ts ≡ true → Fails (q.at ts) e new
    → with_front front (many_at q (end - turn) ts) ≡ total → Fails total e new
fails q front ts new end turn total faults.Memory lt seen read so_far = tt
fails q front ts new end turn total faults.TooDeep lt seen read so_far =
    let n : end - turn ≡ suc (end - (turn + 1)) = omega arith in
    sym so_far ∙ rw (n, seen, read) refl
fails q front ts new end turn total faults.Stuck lt seen read so_far =
    let n : end - turn ≡ suc (end - (turn + 1)) = omega arith in
    sym so_far ∙ rw (n, seen, read) refl

pub ends : {A : Type 0} (q : Rule A) (front : List A) (ts : List Seen) (end turn : ℕ) (total : Outcome (List A)) → turn < end → sees q.begins ts ≡ false
    → with_front front (many_at q (end - turn) ts) ≡ total → total ≡ Got front ts
ends {A} q front ts end turn total lt unseen so_far =
    let n : end - turn ≡ suc (end - (turn + 1)) = omega arith in
    let done : with_front front (many_at q (end - turn) ts) ≡ Got front ts = rw (n, unseen) (ap (λ (x : List A). Got x ts) (append-nil front)) in
    sym so_far ∙ done

pub is_over : {A : Type 0} (q : Rule A) (front : List A) (ts : List Seen) (end turn : ℕ) (total : Outcome (List A)) → end ≤ turn
    → with_front front (many_at q (end - turn) ts) ≡ total → total ≡ Got front ts
is_over {A} q front ts end turn total le so_far =
    let n : end - turn ≡ 0 = omega arith in
    let done : with_front front (many_at q (end - turn) ts) ≡ Got front ts = rw n (ap (λ (x : List A). Got x ts) (append-nil front)) in
    sym so_far ∙ done

abbrev paired : {A : Type 0} → A → List A → List Seen → Outcome (A × List A)
paired a b end = Got (a, b) end

abbrev consed : {A : Type 0} → A × List A → List Seen → Outcome (List A)
consed x rest = Got (x.0 ∷ x.1) rest

after_first : {A : Type 0} (a : A) (o : Outcome (List A)) → with_front (a ∷ []) o ≡ and_then (and_then o (paired a)) consed
after_first a (Got others end) = refl
after_first a (Stuck rest) = refl
after_first a Deep = refl

pub begins_list : {A : Type 0} (x : Kind) (r : Rule A) (a : A) (start ts : List Seen) → r.at start ≡ Got a ts → with_front (a ∷ []) (many_at (x ▹ r) (length ts - 0) ts) ≡ (separated x r).at start
begins_list x r a start ts read =
    let n : length ts - 0 ≡ length ts = omega arith in
    rw (n, read) (after_first a (many_at (x ▹ r) (length ts) ts))

-- ---- a list of which the first was read

pub begins_behind : {A : Type 0} (x : Kind) (r : Rule A) (a : A) (ts : List Seen) → with_front (a ∷ []) (many_at (x ▹ r) (length ts - 0) ts) ≡ behind_first x r a ts
begins_behind x r a ts =
    let n : length ts - 0 ≡ length ts = omega arith in
    rw n refl

pub first_and_others : {A : Type 0} (x : Kind) (r : Rule A) (a : A) (start ts : List Seen) → r.at start ≡ Got a ts → behind_first x r a ts ≡ (separated x r).at start
first_and_others x r a start ts read = rw read (after_first a (many_at (x ▹ r) (length ts) ts))

many_none : {A : Type 0} (x : Kind) (r : Rule A) (ts : List Seen) → sees (x ∷ []) ts ≡ false → (many (x ▹ r)).at ts ≡ Got [] ts
many_none x r [] h = refl
many_none x r (t ∷ ts) h = rw h refl

-- where the token between doesn't follow, the first is all
pub only_first : {A : Type 0} (x : Kind) (r : Rule A) (a : A) (start ts : List Seen) → r.at start ≡ Got a ts → sees (x ∷ []) ts ≡ false → (separated x r).at start ≡ Got (a ∷ []) ts
only_first x r a start ts read none = rw (read, many_none x r ts none) refl
