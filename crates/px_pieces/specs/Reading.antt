-- All of some bytes read as one value.
use Rattle.std.proofs.Common.{◌≡◌, ◌<◌, ◌≤◌, ◌+◌, ◌++◌, ◌∷◌, [], ℕ, suc, List, length, take, Result, Ok, Err, refl, sym, ap, subst, ◌∙◌, arith, append_assoc, length-append}
use Rattle.std.specs.Prelude.{◌-◌}
use Rattle.std.proofs.lemmas.List.{append-nil}
use Rattle.std.proofs.Math.Seq.{take-append-add}
use Rattle.px_pieces.specs.Pieces.{Piece, ok_err, ok_same}

abbrev pub no_rest : {T : Type 0} → ℕ → Result (T × List ℕ) ℕ → Result T ℕ
no_rest total (Ok (x, [])) = Ok x
no_rest total (Ok (x, b ∷ rest)) = Err (total - length (b ∷ rest))
no_rest total (Err p) = Err p

-- the value of which these are the bytes, or the first wrong place
abbrev pub reading_of : {T : Type 0} → Piece T → List ℕ → Result T ℕ
reading_of v bytes = no_rest (length bytes) (v.read bytes)

-- The place is the first where no such value goes on: no value's bytes begin with the bytes up to it and with it, and those
-- before it can be ended.
pub record IsFirstWrongOf {T : Type 0} (v : Piece T) (bytes : List ℕ) (p : ℕ) : Type 0 where
  pub inside : p ≤ length bytes
  pub none : (x : T) → v.right x → v.spelled x ≡ bytes → ⊥
  pub stops : p < length bytes → (x : T) (tail : List ℕ) → v.right x → v.spelled x ≡ take (suc p) bytes ++ tail → ⊥
  pub begins : v.full → (x : T) × (tail : List ℕ) × v.right x × (v.spelled x ≡ take p bytes ++ tail)

module _ {T : Type 0} (v : Piece T) where
  read_spelled : (x : T) (bytes : List ℕ) → v.right x → v.spelled x ≡ bytes → v.read bytes ≡ Ok (x, [])
  read_spelled x bytes right is = ap v.read (sym is ∙ sym (append-nil (v.spelled x))) ∙ v.whole x [] right

  -- what is spelled is read,
  pub reading_whole : (x : T) → v.right x → reading_of v (v.spelled x) ≡ Ok x
  reading_whole x right = ap (no_rest (length (v.spelled x))) (read_spelled x (v.spelled x) right refl)

  -- from no other bytes,
  pub reading_taken : (bytes : List ℕ) (x : T) → reading_of v bytes ≡ Ok x → v.right x × (v.spelled x ≡ bytes)
  reading_taken bytes x is = by (v.read bytes) refl is
    where
      by : (r : Result (T × List ℕ) ℕ) → v.read bytes ≡ r → no_rest (length bytes) r ≡ Ok x → v.right x × (v.spelled x ≡ bytes)
      by (Ok (y, [])) a e =
          let t = v.taken bytes y [] a in
          let same : y ≡ x = ok_same (Ok y) y x refl e in
          subst (λ (z : T). v.right z × (v.spelled z ≡ bytes)) same (t.0, sym (t.1 ∙ append-nil (v.spelled y)))
      by (Ok (y, b ∷ rest)) a e = absurd cc
      by (Err p) a e = absurd cc

  -- and all other bytes have one first wrong place
  pub reading_wrong : (bytes : List ℕ) (p : ℕ) → reading_of v bytes ≡ Err p → IsFirstWrongOf v bytes p
  reading_wrong bytes p is = by (v.read bytes) refl is
    where
      by : (r : Result (T × List ℕ) ℕ) → v.read bytes ≡ r → no_rest (length bytes) r ≡ Err p → IsFirstWrongOf v bytes p
      by (Ok (y, [])) a e = absurd cc
      by (Ok (y, b ∷ rest)) a e =
          let t = v.taken bytes y (b ∷ rest) a in
          let long = length-append (v.spelled y) (b ∷ rest) in
          let total = ap length t.1 in
          let place : p ≡ length (v.spelled y) = (let same : Err (length bytes - length (b ∷ rest)) ≡ Err p = e in let it : length bytes - length (b ∷ rest) ≡ p = cc in omega (arith, it)) in
          let front : take (suc p) bytes ≡ v.spelled y ++ b ∷ [] =
          ap (λ (n : ℕ). take n bytes) (let n : suc p ≡ length (v.spelled y) + 1 = omega (arith, place) in n) ∙ ap (take (length (v.spelled y) + 1)) t.1 ∙ take-append-add (v.spelled y) (b ∷ rest) 1 in
          let here : take p bytes ≡ v.spelled y =
          ap (λ (n : ℕ). take n bytes) (let n : p ≡ length (v.spelled y) + 0 = omega (arith, place) in n) ∙ ap (take (length (v.spelled y) + 0)) t.1 ∙ take-append-add (v.spelled y) (b ∷ rest) 0 ∙ append-nil (v.spelled y) in
          record {
            inside = omega (arith, place, long, total);
            none = λ x right spelled. absurd (let pair = ok_same (v.read bytes) (x, []) (y, b ∷ rest) (read_spelled x bytes right spelled) a in let l : [] ≡ b ∷ rest = ap (λ q. q.1) pair in cc);
            stops = λ lt x tail right spelled. absurd (
                let begun : v.spelled x ≡ v.spelled y ++ (b ∷ tail) = spelled ∙ ap (λ (l : List ℕ). l ++ tail) front ∙ append_assoc (v.spelled y) (b ∷ []) tail in
                let pair = ok_same (v.read (v.spelled x)) (x, []) (y, b ∷ tail) (read_spelled x (v.spelled x) right refl) (ap v.read begun ∙ v.whole y (b ∷ tail) t.0) in
                let l : [] ≡ b ∷ tail = ap (λ q. q.1) pair in cc);
            begins = λ full. (y, [], t.0, sym here ∙ sym (append-nil (take p bytes)));
          }
      by (Err q) a e =
          let same : q ≡ p = (let it : Err q ≡ Err p = e in cc) in
          let failed : v.read bytes ≡ Err p = subst (λ (n : ℕ). v.read bytes ≡ Err n) same a in
          record {
            inside = v.inside bytes p failed;
            none = λ x right spelled. ok_err (v.read bytes) (x, []) p (read_spelled x bytes right spelled) failed;
            stops = v.stops bytes p failed;
            begins = λ full. v.begins bytes p full failed;
          }
