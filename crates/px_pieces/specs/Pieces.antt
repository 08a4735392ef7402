-- Pieces of a format: how a value is spelled, and how bytes that begin with it are read.
use Rattle.std.proofs.Common.{◌≡◌, ◌⊎◌, inl, inr, ◌<◌, ◌≤◌, ◌+◌, ◌++◌, ◌∷◌, [], ℕ, suc, Bool, true, false, List, length, take, drop, Result, Ok, Err, refl, sym, ap, subst, ◌∙◌, arith, append_assoc, length-append}
use Rattle.std.proofs.lemmas.List.{take-append-drop}
use Rattle.std.proofs.Math.Seq.{take-append-add}

-- Of bytes that don't begin with the piece `read` answers the first wrong place.
pub record Piece (T : Type 0) : Type 1 where
  pub spelled : T → List ℕ
  pub right : T → Type 0
  pub read : List ℕ → Result (T × List ℕ) ℕ
  -- what is asked of other pieces inside, so that all that is begun can be ended
  pub full : Type 0
  -- what is spelled is read, and nothing else
  pub whole : (x : T) (rest : List ℕ) → right x → read (spelled x ++ rest) ≡ Ok (x, rest)
  pub taken : (bytes : List ℕ) (x : T) (rest : List ℕ) → read bytes ≡ Ok (x, rest) → right x × (bytes ≡ spelled x ++ rest)
  -- the place is the first where nothing goes on
  pub inside : (bytes : List ℕ) (p : ℕ) → read bytes ≡ Err p → p ≤ length bytes
  pub stops : (bytes : List ℕ) (p : ℕ) → read bytes ≡ Err p → p < length bytes → (x : T) (tail : List ℕ) → right x → spelled x ≡ take (suc p) bytes ++ tail → ⊥
  pub begins : (bytes : List ℕ) (p : ℕ) → full → read bytes ≡ Err p → (x : T) × (tail : List ℕ) × right x × (spelled x ≡ take p bytes ++ tail)
  pub some : full → (x : T) × right x

-- ---- lists

-- of two fronts of a list one is a front of the other
pub split : (a b c e : List ℕ) → a ++ b ≡ c ++ e → ((t : List ℕ) × (a ≡ c ++ t) × (e ≡ t ++ b)) ⊎ ((t : List ℕ) × (c ≡ a ++ t) × (b ≡ t ++ e))
split [] b c e is = inr (c, refl, is)
split (x ∷ a) b [] e is = inl (x ∷ a, refl, sym is)
split (x ∷ a) b (y ∷ c) e is = elim (split a b c e (tail_is is)) [
  | inl w ↦ inl (w.0, (let h = head_is is in ap (λ (z : ℕ). z ∷ a) h ∙ ap (λ (l : List ℕ). y ∷ l) w.1), w.2)
  | inr w ↦ inr (w.0, (let h = head_is is in ap (λ (z : ℕ). z ∷ c) (sym h) ∙ ap (λ (l : List ℕ). x ∷ l) w.1), w.2)
]
  where
    head_is : {x y : ℕ} {l m : List ℕ} → x ∷ l ≡ y ∷ m → x ≡ y
    head_is e = cc

    tail_is : {x y : ℕ} {l m : List ℕ} → x ∷ l ≡ y ∷ m → l ≡ m
    tail_is e = cc

pub ok_same : {T : Type 0} (r : Result T ℕ) (x y : T) → r ≡ Ok x → r ≡ Ok y → x ≡ y
ok_same (Ok z) x y a b = cc
ok_same (Err z) x y a b = absurd cc

pub ok_err : {T : Type 0} (r : Result T ℕ) (x : T) (e : ℕ) → r ≡ Ok x → r ≡ Err e → ⊥
ok_err (Ok z) x e a b = absurd cc
ok_err (Err z) x e a b = absurd cc

-- ---- no byte

unfoldable pub empty_piece : Piece (Unit {0})
empty_piece = record {
  spelled = λ x. [];
  right = λ x. Unit {0};
  read = λ bytes. Ok (tt, bytes);
  full = Unit {0};
  whole = λ x rest is. refl;
  taken = λ bytes x rest is. (tt, (let e : bytes ≡ rest = (let pair = ok_same (Ok (tt, bytes)) (tt, bytes) (x, rest) refl is in ap (λ p. p.1) pair) in e));
  inside = λ bytes p is. absurd cc;
  stops = λ bytes p is lt x tail right spelled. absurd cc;
  begins = λ bytes p f is. absurd cc;
  some = λ f. (tt, tt);
}

-- ---- one byte of some

abbrev byte_read : Bool → ℕ → List ℕ → Result (ℕ × List ℕ) ℕ
byte_read true b rest = Ok (b, rest)
byte_read false b rest = Err 0

abbrev pub byte_by : (ℕ → Bool) → List ℕ → Result (ℕ × List ℕ) ℕ
byte_by ok [] = Err 0
byte_by ok (b ∷ rest) = byte_read (ok b) b rest

module _ (ok : ℕ → Bool) where
  pub byte_whole : (x : ℕ) (rest : List ℕ) → ok x ≡ true → byte_by ok (x ∷ rest) ≡ Ok (x, rest)
  byte_whole x rest is = ap (λ (b : Bool). byte_read b x rest) is

  pub byte_taken : (bytes : List ℕ) (x : ℕ) (rest : List ℕ) → byte_by ok bytes ≡ Ok (x, rest) → (ok x ≡ true) × (bytes ≡ x ∷ rest)
  byte_taken [] x rest is = absurd cc
  byte_taken (b ∷ bytes) x rest is = by (ok b) refl is
    where
      by : (t : Bool) → ok b ≡ t → byte_read t b bytes ≡ Ok (x, rest) → (ok x ≡ true) × (b ∷ bytes ≡ x ∷ rest)
      by true allowed e = let pair = ok_same (Ok (b, bytes)) (b, bytes) (x, rest) refl e in (subst (λ (y : ℕ). ok y ≡ true) (ap (λ p. p.0) pair) allowed, ap (λ (p : ℕ × List ℕ). p.0 ∷ p.1) pair)
      by false denied e = absurd cc

  pub byte_place : (bytes : List ℕ) (p : ℕ) → byte_by ok bytes ≡ Err p → p ≡ 0
  byte_place [] p is = cc
  byte_place (b ∷ bytes) p is = by (ok b) is
    where
      by : (t : Bool) → byte_read t b bytes ≡ Err p → p ≡ 0
      by true e = absurd cc
      by false e = cc

  pub byte_stops : (bytes : List ℕ) (p : ℕ) → byte_by ok bytes ≡ Err p → p < length bytes → (x : ℕ) (tail : List ℕ) → ok x ≡ true → x ∷ [] ≡ take (suc p) bytes ++ tail → ⊥
  byte_stops [] p is lt x tail allowed spelled = omega arith
  byte_stops (b ∷ bytes) p is lt x tail allowed spelled =
      let same : x ≡ b = cc in
      ok_err (byte_by ok (b ∷ bytes)) (b, bytes) p (byte_whole b bytes (subst (λ (y : ℕ). ok y ≡ true) same allowed)) is

  unfoldable pub byte : Piece ℕ
  byte = record {
    spelled = λ x. x ∷ [];
    right = λ x. ok x ≡ true;
    read = byte_by ok;
    full = (x : ℕ) × (ok x ≡ true);
    whole = byte_whole;
    taken = byte_taken;
    inside = λ bytes p is. let e = byte_place bytes p is in omega arith;
    stops = byte_stops;
    begins = λ bytes p f is. (f.0, f.0 ∷ [], f.1, ap (λ (n : ℕ). take n bytes ++ f.0 ∷ []) (sym (byte_place bytes p is)));
    some = λ f. f;
  }

-- ---- one piece and then another, which may hang on the first

abbrev second_read : {T U : Type 0} → T → ℕ → Result (U × List ℕ) ℕ → Result ((T × U) × List ℕ) ℕ
second_read x n (Ok y) = Ok ((x, y.0), y.1)
second_read x n (Err p) = Err (n + p)

abbrev first_read : {T U : Type 0} → Piece T → (T → Piece U) → Result (T × List ℕ) ℕ → Result ((T × U) × List ℕ) ℕ
first_read v w (Ok x) = second_read x.0 (length (v.spelled x.0)) ((w x.0).read x.1)
first_read v w (Err p) = Err p

module _ {T U : Type 0} (v : Piece T) (w : T → Piece U) where
  abbrev both_read : List ℕ → Result ((T × U) × List ℕ) ℕ
  both_read bytes = first_read v w (v.read bytes)

  abbrev both_spelled : T × U → List ℕ
  both_spelled z = v.spelled z.0 ++ (w z.0).spelled z.1

  abbrev both_right : T × U → Type 0
  both_right z = v.right z.0 × (w z.0).right z.1

  first_ok : (bytes : List ℕ) (x : T) (rest : List ℕ) → v.read bytes ≡ Ok (x, rest) → both_read bytes ≡ second_read x (length (v.spelled x)) ((w x).read rest)
  first_ok bytes x rest is = ap (first_read v w) is

  pub both_whole : (z : T × U) (rest : List ℕ) → both_right z → both_read (both_spelled z ++ rest) ≡ Ok (z, rest)
  both_whole z rest right =
      first_ok (both_spelled z ++ rest) z.0 ((w z.0).spelled z.1 ++ rest) (ap v.read (append_assoc (v.spelled z.0) ((w z.0).spelled z.1) rest) ∙ v.whole z.0 ((w z.0).spelled z.1 ++ rest) right.0)
      ∙ ap (second_read z.0 (length (v.spelled z.0))) ((w z.0).whole z.1 rest right.1)

  pub both_taken : (bytes : List ℕ) (z : T × U) (rest : List ℕ) → both_read bytes ≡ Ok (z, rest) → both_right z × (bytes ≡ both_spelled z ++ rest)
  both_taken bytes z rest is = one (v.read bytes) refl is
    where
      two : (x : T) (mid : List ℕ) → v.read bytes ≡ Ok (x, mid) → (r : Result (U × List ℕ) ℕ) → (w x).read mid ≡ r → second_read x (length (v.spelled x)) r ≡ Ok (z, rest) → both_right z × (bytes ≡ both_spelled z ++ rest)
      two x mid a (Ok y) b e =
          let pair = ok_same (Ok ((x, y.0), y.1)) ((x, y.0), y.1) (z, rest) refl e in
          let one = v.taken bytes x mid a in
          let more = (w x).taken mid y.0 y.1 b in
          subst (λ (p : (T × U) × List ℕ). both_right p.0 × (bytes ≡ both_spelled p.0 ++ p.1)) pair
          ((one.0, more.0), one.1 ∙ ap (λ (l : List ℕ). v.spelled x ++ l) more.1 ∙ sym (append_assoc (v.spelled x) ((w x).spelled y.0) y.1))
      two x mid a (Err p) b e = absurd cc

      one : (r : Result (T × List ℕ) ℕ) → v.read bytes ≡ r → first_read v w r ≡ Ok (z, rest) → both_right z × (bytes ≡ both_spelled z ++ rest)
      one (Ok x) a e = two x.0 x.1 a ((w x.0).read x.1) refl e
      one (Err p) a e = absurd cc

  -- how both fail
  both_fails : (bytes : List ℕ) (p : ℕ) → both_read bytes ≡ Err p → (v.read bytes ≡ Err p) ⊎ ((x : T) × (mid : List ℕ) × (q : ℕ) × (v.read bytes ≡ Ok (x, mid)) × ((w x).read mid ≡ Err q) × (p ≡ length (v.spelled x) + q))
  both_fails bytes p is = one (v.read bytes) refl is
    where
      two : (x : T) (mid : List ℕ) → v.read bytes ≡ Ok (x, mid) → (r : Result (U × List ℕ) ℕ) → (w x).read mid ≡ r → second_read x (length (v.spelled x)) r ≡ Err p
          → (v.read bytes ≡ Err p) ⊎ ((x : T) × (mid : List ℕ) × (q : ℕ) × (v.read bytes ≡ Ok (x, mid)) × ((w x).read mid ≡ Err q) × (p ≡ length (v.spelled x) + q))
      two x mid a (Ok y) b e = absurd cc
      two x mid a (Err q) b e = inr (x, mid, q, a, b, (let same : Err (length (v.spelled x) + q) ≡ Err p = e in cc))

      one : (r : Result (T × List ℕ) ℕ) → v.read bytes ≡ r → first_read v w r ≡ Err p
          → (v.read bytes ≡ Err p) ⊎ ((x : T) × (mid : List ℕ) × (q : ℕ) × (v.read bytes ≡ Ok (x, mid)) × ((w x).read mid ≡ Err q) × (p ≡ length (v.spelled x) + q))
      one (Ok x) a e = two x.0 x.1 a ((w x.0).read x.1) refl e
      one (Err q) a e = inl (subst (λ (n : ℕ). v.read bytes ≡ Err n) (let same : Err q ≡ Err p = e in let it : q ≡ p = cc in it) a)

  pub both_inside : (bytes : List ℕ) (p : ℕ) → both_read bytes ≡ Err p → p ≤ length bytes
  both_inside bytes p is = elim (both_fails bytes p is) [
    | inl a ↦ v.inside bytes p a
    | inr f ↦ let long = ap length (v.taken bytes f.0 f.1 f.3).1 in let more = length-append (v.spelled f.0) f.1 in let le = (w f.0).inside f.1 f.2 f.4 in omega (arith, f.5)
  ]

  pub both_stops : (bytes : List ℕ) (p : ℕ) → both_read bytes ≡ Err p → p < length bytes → (z : T × U) (tail : List ℕ) → both_right z → both_spelled z ≡ take (suc p) bytes ++ tail → ⊥
  both_stops bytes p is lt z tail right spelled = elim (both_fails bytes p is) [
    | inl a ↦ elim (split (v.spelled z.0) ((w z.0).spelled z.1) (take (suc p) bytes) tail spelled) [
      | inl s ↦ v.stops bytes p a lt z.0 s.0 right.0 s.1
      | inr s ↦ ok_err (v.read bytes) (z.0, s.0 ++ drop (suc p) bytes) p
          (ap v.read (sym (take-append-drop (suc p) bytes) ∙ ap (λ (l : List ℕ). l ++ drop (suc p) bytes) s.1 ∙ append_assoc (v.spelled z.0) s.0 (drop (suc p) bytes)) ∙ v.whole z.0 (s.0 ++ drop (suc p) bytes) right.0) a
    ]
    | inr f ↦
        let x = f.0 in
        let mid = f.1 in
        let q = f.2 in
        let t = v.taken bytes x mid f.3 in
        let front : take (suc p) bytes ≡ v.spelled x ++ take (suc q) mid =
        ap (λ (n : ℕ). take n bytes) (let e : suc p ≡ length (v.spelled x) + suc q = omega (arith, f.5) in e) ∙ ap (take (length (v.spelled x) + suc q)) t.1 ∙ take-append-add (v.spelled x) mid (suc q) in
        let here : both_spelled z ≡ v.spelled x ++ (take (suc q) mid ++ tail) = spelled ∙ ap (λ (l : List ℕ). l ++ tail) front ∙ append_assoc (v.spelled x) (take (suc q) mid) tail in
        let pair = ok_same (v.read (both_spelled z)) (z.0, (w z.0).spelled z.1) (x, take (suc q) mid ++ tail) (v.whole z.0 ((w z.0).spelled z.1) right.0) (ap v.read here ∙ v.whole x (take (suc q) mid ++ tail) t.0) in
        let long = ap length t.1 in
        let more = length-append (v.spelled x) mid in
        let moved = subst (λ (p : T × List ℕ). (w p.0).right z.1 × ((w p.0).spelled z.1 ≡ p.1)) pair (right.1, refl) in
        (w x).stops mid q f.4 (omega (arith, f.5)) z.1 tail moved.0 moved.1
  ]

  pub both_begins : (bytes : List ℕ) (p : ℕ) → v.full × ((x : T) → v.right x → (w x).full) → both_read bytes ≡ Err p → (z : T × U) × (tail : List ℕ) × both_right z × (both_spelled z ≡ take p bytes ++ tail)
  both_begins bytes p full is = elim (both_fails bytes p is) [
    | inl a ↦
        let b = v.begins bytes p full.0 a in
        let y = (w b.0).some (full.1 b.0 b.2) in
        ((b.0, y.0), b.1 ++ (w b.0).spelled y.0, (b.2, y.1), ap (λ (l : List ℕ). l ++ (w b.0).spelled y.0) b.3 ∙ append_assoc (take p bytes) b.1 ((w b.0).spelled y.0))
    | inr f ↦
        let x = f.0 in
        let t = v.taken bytes x f.1 f.3 in
        let b = (w x).begins f.1 f.2 (full.1 x t.0) f.4 in (
          (x, b.0),
          b.1,
          (t.0, b.2),
          ap (λ (l : List ℕ). v.spelled x ++ l) b.3 ∙ sym (append_assoc (v.spelled x) (take f.2 f.1) b.1)
              ∙ ap (λ (l : List ℕ). l ++ b.1) (sym (take-append-add (v.spelled x) f.1 f.2) ∙ ap (take (length (v.spelled x) + f.2)) (sym t.1) ∙ ap (λ (n : ℕ). take n bytes) (sym f.5)),
        )
  ]

  unfoldable pub followed_by : Piece (T × U)
  followed_by = record {
    spelled = both_spelled;
    right = both_right;
    read = both_read;
    full = v.full × ((x : T) → v.right x → (w x).full);
    whole = both_whole;
    taken = both_taken;
    inside = both_inside;
    stops = both_stops;
    begins = both_begins;
    some = λ full. let x = v.some full.0 in let y = (w x.0).some (full.1 x.0 x.1) in ((x.0, y.0), (x.1, y.1));
  }

-- what the readers of the program cite
pub byte_none : (ok : ℕ → Bool) → (byte ok).read [] ≡ Err 0
unfolding byte
byte_none ok = refl

pub byte_denied : (ok : ℕ → Bool) (b : ℕ) (rest : List ℕ) → ok b ≡ false → (byte ok).read (b ∷ rest) ≡ Err 0
unfolding byte
byte_denied ok b rest is = ap (λ (t : Bool). byte_read t b rest) is

pub byte_allowed : (ok : ℕ → Bool) (b : ℕ) (rest : List ℕ) → ok b ≡ true → (byte ok).read (b ∷ rest) ≡ Ok (b, rest)
unfolding byte
byte_allowed ok b rest is = byte_whole ok b rest is

module _ {T U : Type 0} (v : Piece T) (w : T → Piece U) (bytes : List ℕ) where
  pub first_wrong : (p : ℕ) → v.read bytes ≡ Err p → (followed_by v w).read bytes ≡ Err p
  unfolding followed_by
  first_wrong p is = ap (first_read v w) is

  pub second_wrong : (x : T) (mid : List ℕ) (q : ℕ) → v.read bytes ≡ Ok (x, mid) → (w x).read mid ≡ Err q → (followed_by v w).read bytes ≡ Err (length (v.spelled x) + q)
  unfolding followed_by
  second_wrong x mid q is wrong = ap (first_read v w) is ∙ ap (second_read x (length (v.spelled x))) wrong

  pub second_taken : (x : T) (mid : List ℕ) (y : U) (rest : List ℕ) → v.read bytes ≡ Ok (x, mid) → (w x).read mid ≡ Ok (y, rest) → (followed_by v w).read bytes ≡ Ok ((x, y), rest)
  unfolding followed_by
  second_taken x mid y rest is more = ap (first_read v w) is ∙ ap (second_read x (length (v.spelled x))) more

-- ---- the same bytes as another value

abbrev pub read_as : {T U : Type 0} → (T → U) → Result (T × List ℕ) ℕ → Result (U × List ℕ) ℕ
read_as f (Ok x) = Ok (f x.0, x.1)
read_as f (Err p) = Err p

module _ {T U : Type 0} (f : T → U) (g : U → T) (v : Piece T) (there : (x : T) → v.right x → g (f x) ≡ x) where
  abbrev as_right : U → Type 0
  as_right u = v.right (g u) × (f (g u) ≡ u)

  pub as_whole : (u : U) (rest : List ℕ) → as_right u → read_as f (v.read (v.spelled (g u) ++ rest)) ≡ Ok (u, rest)
  as_whole u rest right = ap (read_as f) (v.whole (g u) rest right.0) ∙ ap (λ (y : U). Ok (y, rest)) right.1

  pub as_right_of : (x : T) → v.right x → as_right (f x)
  as_right_of x right = (subst v.right (sym (there x right)) right, ap f (there x right))

  pub as_taken : (bytes : List ℕ) (u : U) (rest : List ℕ) → read_as f (v.read bytes) ≡ Ok (u, rest) → as_right u × (bytes ≡ v.spelled (g u) ++ rest)
  as_taken bytes u rest is = by (v.read bytes) refl is
    where
      by : (r : Result (T × List ℕ) ℕ) → v.read bytes ≡ r → read_as f r ≡ Ok (u, rest) → as_right u × (bytes ≡ v.spelled (g u) ++ rest)
      by (Ok x) a e =
          let t = v.taken bytes x.0 x.1 a in
          let pair = ok_same (Ok (f x.0, x.1)) (f x.0, x.1) (u, rest) refl e in
          subst (λ (p : U × List ℕ). as_right p.0 × (bytes ≡ v.spelled (g p.0) ++ p.1)) pair
          (as_right_of x.0 t.0, t.1 ∙ ap (λ (y : T). v.spelled y ++ x.1) (sym (there x.0 t.0)))
      by (Err p) a e = absurd cc

  pub as_fails : (bytes : List ℕ) (p : ℕ) → read_as f (v.read bytes) ≡ Err p → v.read bytes ≡ Err p
  as_fails bytes p is = by (v.read bytes) is
    where
      by : (r : Result (T × List ℕ) ℕ) → read_as f r ≡ Err p → r ≡ Err p
      by (Ok x) e = absurd cc
      by (Err q) e = ap (λ (n : ℕ). Err n) (let same : Err q ≡ Err p = e in let it : q ≡ p = cc in it)

  unfoldable pub as_value : Piece U
  as_value = record {
    spelled = λ u. v.spelled (g u);
    right = as_right;
    read = λ bytes. read_as f (v.read bytes);
    full = v.full;
    whole = as_whole;
    taken = as_taken;
    inside = λ bytes p is. v.inside bytes p (as_fails bytes p is);
    stops = λ bytes p is lt u tail right spelled. v.stops bytes p (as_fails bytes p is) lt (g u) tail right.0 spelled;
    begins = λ bytes p full is. let b = v.begins bytes p full (as_fails bytes p is) in (f b.0, b.1, as_right_of b.0 b.2, ap v.spelled (there b.0 b.2) ∙ b.3);
    some = λ full. let x = v.some full in (f x.0, as_right_of x.0 x.1);
  }

module _ {T U : Type 0} (f : T → U) (g : U → T) (v : Piece T) (there : (x : T) → v.right x → g (f x) ≡ x) (bytes : List ℕ) where
  pub value_wrong : (p : ℕ) → v.read bytes ≡ Err p → (as_value f g v there).read bytes ≡ Err p
  unfolding as_value
  value_wrong p is = ap (read_as f) is

  pub value_taken : (x : T) (rest : List ℕ) → v.read bytes ≡ Ok (x, rest) → (as_value f g v there).read bytes ≡ Ok (f x, rest)
  unfolding as_value
  value_taken x rest is = ap (read_as f) is

-- ---- all that is begun can be ended

pub byte_full : (ok : ℕ → Bool) (x : ℕ) → ok x ≡ true → (byte ok).full
unfolding byte
byte_full ok x is = (x, is)

pub followed_full : {T U : Type 0} (v : Piece T) (w : T → Piece U) → v.full → ((x : T) → v.right x → (w x).full) → (followed_by v w).full
unfolding followed_by
followed_full v w first second = (first, second)

pub as_full : {T U : Type 0} (f : T → U) (g : U → T) (v : Piece T) (there : (x : T) → v.right x → g (f x) ≡ x) → v.full → (as_value f g v there).full
unfolding as_value
as_full f g v there full = full
