-- How pieces that stand one after the other are read at a place.
use Rattle.std.proofs.Common.{◌≡◌, ◌<◌, ◌≤◌, ◌+◌, ◌++◌, ◌∷◌, [], ℕ, zero, suc, Bool, true, false, List, length, get_or, drop, Err, refl, sym, ap, subst, ◌∙◌, arith, append_assoc, length-append, length-drop}
use Rattle.std.specs.Prelude.{◌-◌}
use Rattle.std.proofs.lemmas.List.{append-nil, drop_all, drop_more}
use Rattle.px_pieces.specs.Pieces.{Piece, as_value, byte, byte_allowed, byte_denied, byte_none, empty_piece, first_wrong, followed_by, second_taken, second_wrong, value_taken, value_wrong}
use Rattle.px_pieces.specs.Chains.{chain, first_of, others_of}
use Rattle.px_pieces.specs.Taking.{IsPartWay, IsStoppedAt, IsTakenAt}

module _ (bytes : List ℕ) (at : ℕ) where
  -- what a value's bytes take up
  pub taken_long : {T : Type 0} (v : Piece T) (x : T) (end : ℕ) → IsTakenAt v bytes at x end → at + length (v.spelled x) ≡ end
  taken_long v x end taken =
      let parts = (v.taken (drop at bytes) x (drop end bytes) taken.read).1 in
      let long = ap length parts in
      let total = length-append (v.spelled x) (drop end bytes) in
      let front = length-drop at bytes in
      let rest = length-drop end bytes in
      omega (arith, long, total, front, rest, taken.forward, taken.within)

  module _ {T U : Type 0} (v : Piece T) (w : T → Piece U) where
    pub taken_then : (x : T) (y : U) (mid end : ℕ) → IsTakenAt v bytes at x mid → IsTakenAt (w x) bytes mid y end → IsTakenAt (followed_by v w) bytes at (x, y) end
    taken_then x y mid end first second = record {
      read = second_taken v w (drop at bytes) x (drop mid bytes) y (drop end bytes) first.read second.read;
      forward = omega (arith, first.forward, second.forward);
      within = second.within;
    }

    pub stopped_first : (place : ℕ) → IsStoppedAt v bytes at place → IsStoppedAt (followed_by v w) bytes at place
    stopped_first place first = record { read = first_wrong v w (drop at bytes) (place - at) first.read; forward = first.forward }

    pub stopped_second : (x : T) (mid place : ℕ) → IsTakenAt v bytes at x mid → IsStoppedAt (w x) bytes mid place → IsStoppedAt (followed_by v w) bytes at place
    stopped_second x mid place first second =
        let long = taken_long v x mid first in
        let same : length (v.spelled x) + (place - mid) ≡ place - at = omega (arith, long, second.forward) in
        record {
          read = second_wrong v w (drop at bytes) x (drop mid bytes) (place - mid) first.read second.read ∙ ap (λ (n : ℕ). Err n) same;
          forward = omega (arith, first.forward, second.forward);
        }

  module _ {T U : Type 0} (f : T → U) (g : U → T) (v : Piece T) (there : (x : T) → v.right x → g (f x) ≡ x) where
    pub taken_as : (x : T) (end : ℕ) → IsTakenAt v bytes at x end → IsTakenAt (as_value f g v there) bytes at (f x) end
    taken_as x end taken = record { read = value_taken f g v there (drop at bytes) x (drop end bytes) taken.read; forward = taken.forward; within = taken.within }

    pub stopped_as : (place : ℕ) → IsStoppedAt v bytes at place → IsStoppedAt (as_value f g v there) bytes at place
    stopped_as place stopped = record { read = value_wrong f g v there (drop at bytes) (place - at) stopped.read; forward = stopped.forward }

  pub taken_nothing : at ≤ length bytes → IsTakenAt empty_piece bytes at tt at
  unfolding empty_piece
  taken_nothing within = record { read = refl; forward = omega arith; within = within }

  module _ (ok : ℕ → Bool) where
    pub taken_byte : at < length bytes → ok (get_or bytes at 0) ≡ true → IsTakenAt (byte ok) bytes at (get_or bytes at 0) (at + 1)
    taken_byte lt is = record {
      read = ap (byte ok).read (drop_more bytes at 0 lt) ∙ byte_allowed ok (get_or bytes at 0) (drop (at + 1) bytes) is;
      forward = omega arith;
      within = omega arith;
    }

    pub stopped_byte : at < length bytes → ok (get_or bytes at 0) ≡ false → IsStoppedAt (byte ok) bytes at at
    stopped_byte lt is = record {
      read = ap (byte ok).read (drop_more bytes at 0 lt) ∙ byte_denied ok (get_or bytes at 0) (drop (at + 1) bytes) is ∙ ap (λ (n : ℕ). Err n) (let e : 0 ≡ at - at = omega arith in e);
      forward = omega arith;
    }

    pub stopped_end : length bytes ≤ at → IsStoppedAt (byte ok) bytes at at
    stopped_end le = record {
      read = ap (byte ok).read (drop_all at bytes le) ∙ byte_none ok ∙ ap (λ (n : ℕ). Err n) (let e : 0 ≡ at - at = omega arith in e);
      forward = omega arith;
    }

-- ---- so many values one after the other

module _ {S T : Type 0} (d : T) (v : ℕ → S → Piece T) (next : S → T → S) (bytes : List ℕ) where
  pub chain_none : (s : S) (here : ℕ) → here ≤ length bytes → IsTakenAt (chain d v next zero s) bytes here [] here
  unfolding chain
  chain_none s here within = taken_as bytes here (λ u. []) (λ l. tt) empty_piece (λ x right. refl) tt here (taken_nothing bytes here within)

  pub chain_more : (n : ℕ) (s : S) (here : ℕ) (x : T) (xs : List T) (mid end : ℕ) → IsTakenAt (v n s) bytes here x mid → IsTakenAt (chain d v next n (next s x)) bytes mid xs end → IsTakenAt (chain d v next (suc n) s) bytes here (x ∷ xs) end
  unfolding chain
  chain_more n s here x xs mid end first others =
      taken_as bytes here (λ (p : T × List T). p.0 ∷ p.1) (λ l. (first_of d l, others_of l)) (followed_by (v n s) (λ x. chain d v next n (next s x))) (λ x right. refl) (x, xs) end
      (taken_then bytes here (v n s) (λ x. chain d v next n (next s x)) x xs mid end first others)

  pub chain_stopped : (n : ℕ) (s : S) (here place : ℕ) → IsStoppedAt (v n s) bytes here place → IsStoppedAt (chain d v next (suc n) s) bytes here place
  unfolding chain
  chain_stopped n s here place first =
      stopped_as bytes here (λ (p : T × List T). p.0 ∷ p.1) (λ l. (first_of d l, others_of l)) (followed_by (v n s) (λ x. chain d v next n (next s x))) (λ x right. refl) place
      (stopped_first bytes here (v n s) (λ x. chain d v next n (next s x)) place first)

  pub chain_stopped_later : (n : ℕ) (s : S) (here : ℕ) (x : T) (mid place : ℕ) → IsTakenAt (v n s) bytes here x mid → IsStoppedAt (chain d v next n (next s x)) bytes mid place → IsStoppedAt (chain d v next (suc n) s) bytes here place
  unfolding chain
  chain_stopped_later n s here x mid place first others =
      stopped_as bytes here (λ (p : T × List T). p.0 ∷ p.1) (λ l. (first_of d l, others_of l)) (followed_by (v n s) (λ x. chain d v next n (next s x))) (λ x right. refl) place
      (stopped_second bytes here (v n s) (λ x. chain d v next n (next s x)) x mid place first others)

  module _ (total : ℕ) (s : S) (at : ℕ) where
    -- nothing was taken yet
    pub part_none : at ≤ length bytes → IsPartWay d v next total s bytes at [] total s at
    part_none within = record { goes_on = λ ys end taken. taken; stops = λ place stopped. stopped; within = within }

    -- one more was taken
    pub part_more : (xs : List T) (left n : ℕ) (now : S) (here : ℕ) (x : T) (mid : ℕ) → left ≡ suc n → IsPartWay d v next total s bytes at xs left now here → IsTakenAt (v n now) bytes here x mid
        → IsPartWay d v next total s bytes at (xs ++ x ∷ []) n (next now x) mid
    part_more xs left n now here x mid is way taken = record {
      goes_on = λ ys end others. subst (λ (l : List T). IsTakenAt (chain d v next total s) bytes at l end) (sym (append_assoc xs (x ∷ []) ys))
          (way.goes_on (x ∷ ys) end (subst (λ (m : ℕ). IsTakenAt (chain d v next m now) bytes here (x ∷ ys) end) (sym is) (chain_more n now here x ys mid end taken others)));
      stops = λ place others. way.stops place (subst (λ (m : ℕ). IsStoppedAt (chain d v next m now) bytes here place) (sym is) (chain_stopped_later n now here x mid place taken others));
      within = taken.within;
    }

    -- the next one is wrong
    pub part_stopped : (xs : List T) (left n : ℕ) (now : S) (here place : ℕ) → left ≡ suc n → IsPartWay d v next total s bytes at xs left now here → IsStoppedAt (v n now) bytes here place → IsStoppedAt (chain d v next total s) bytes at place
    part_stopped xs left n now here place is way stopped = way.stops place (subst (λ (m : ℕ). IsStoppedAt (chain d v next m now) bytes here place) (sym is) (chain_stopped n now here place stopped))

    -- all were taken
    pub part_done : (xs : List T) (left : ℕ) (now : S) (here : ℕ) → left ≡ 0 → IsPartWay d v next total s bytes at xs left now here → IsTakenAt (chain d v next total s) bytes at xs here
    part_done xs left now here is way = subst (λ (l : List T). IsTakenAt (chain d v next total s) bytes at l here) (append-nil xs)
        (way.goes_on [] here (subst (λ (m : ℕ). IsTakenAt (chain d v next m now) bytes here [] here) (sym is) (chain_none now here way.within)))
