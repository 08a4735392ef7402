-- How the readers of lists go on.
use Rattle.std.proofs.Common.{◌≡◌, ◌<◌, ◌≤◌, ◌+◌, ◌++◌, ◌∷◌, [], ℕ, List, length, Result, Ok, Err, refl, subst, arith}
use Rattle.std.specs.Prelude.{◌-◌, if◌then◌else◌, false}
use Rattle.std.specs.Result.{is_err, is_ok}
use Rattle.px_tables.specs.declared.table.TableRegion.{TableRegion}
use Rattle.px_pieces.specs.Pieces.{Piece, followed_by}
use Rattle.px_pieces.specs.Bytes.{bytes as any_bytes, bytes_long}
use Rattle.px_pieces.specs.Chains.{chain, counted_back, list_piece, measured, repeat, repeat_long}
use Rattle.px_pieces.specs.Numbers.{number_piece}
use Rattle.px_pieces.specs.Taking.{IsPartWay, IsStoppedAt, IsTakenAt}
use Rattle.px_pieces.proofs.Takes.{part_done, part_more, part_none, part_stopped, stopped_as, stopped_first, stopped_second, taken_as, taken_then}
use Rattle.px_schema.specs.declared.fault.DefFault.{DefFault}
use Rattle.px_schema.specs.declared.fault.DefFault.TheVariants.{Memory, NotADefinition}
use Rattle.px_schema.specs.Outcomes.{ReadsPiece}
use Rattle.px_schema.specs.Parts.{id, least_key_piece, region}
use Rattle.px_schema.proofs.Joins.{as_fault, behind_reads}

-- ---- a list behind its count

module _ {T : Type 0} (v : ℕ → Piece (List T)) (long : (n : ℕ) (l : List T) → (v n).right l → length l ≡ n) (count : Piece ℕ) (bytes : List ℕ) (at : ℕ) where
  pub measured_stopped : (place : ℕ) → IsStoppedAt count bytes at place → IsStoppedAt (measured v long count) bytes at place
  unfolding measured
  measured_stopped place stopped = stopped_as bytes at (λ (p : ℕ × List T). p.1) (λ l. (length l, l)) (followed_by count v) (counted_back v long count) place (stopped_first bytes at count v place stopped)

  pub measured_reads : (n mid : ℕ) (r : Result (List T × ℕ) DefFault) → IsTakenAt count bytes at n mid → ReadsPiece (v n) bytes mid r → ReadsPiece (measured v long count) bytes at r
  unfolding measured
  measured_reads n mid (Ok x) first second = taken_as bytes at (λ (p : ℕ × List T). p.1) (λ l. (length l, l)) (followed_by count v) (counted_back v long count) (n, x.0) x.1 (taken_then bytes at count v n x.0 mid x.1 first second)
  measured_reads n mid (Err fault) first second = as_fault (λ (p : ℕ × List T). p.1) (λ l. (length l, l)) (followed_by count v) (counted_back v long count) bytes at fault (behind_reads count v bytes at n mid fault first second)

module _ {T : Type 0} (d : T) (v : Piece T) (count : Piece ℕ) (bytes : List ℕ) (at : ℕ) where
  pub listed_stopped : (place : ℕ) → IsStoppedAt count bytes at place → IsStoppedAt (list_piece d v count) bytes at place
  unfolding list_piece
  listed_stopped place stopped = measured_stopped (repeat d v) (repeat_long d v) count bytes at place stopped

  pub listed_reads : (n mid : ℕ) (r : Result (List T × ℕ) DefFault) → IsTakenAt count bytes at n mid → ReadsPiece (repeat d v n) bytes mid r → ReadsPiece (list_piece d v count) bytes at r
  unfolding list_piece
  listed_reads n mid r first second = measured_reads (repeat d v) (repeat_long d v) count bytes at n mid r first second

-- ---- so many values one after the other

module _ {S T : Type 0} (d : T) (v : ℕ → S → Piece T) (next : S → T → S) (bytes : List ℕ) (total : ℕ) (s : S) (at : ℕ) where
  pub way_fault : (xs : List T) (taken : ℕ) (now : S) (here : ℕ) (fault : DefFault) → taken < total → IsPartWay d v next total s bytes at xs (total - taken) now here → ReadsPiece (v (total - 1 - taken) now) bytes here (Err fault)
      → ReadsPiece (chain d v next total s) bytes at (Err fault)
  way_fault xs taken now here (NotADefinition place) lt way is = part_stopped d v next bytes total s at xs (total - taken) (total - 1 - taken) now here place (omega arith) way is
  way_fault xs taken now here Memory lt way is = tt

  pub way_none : at ≤ length bytes → IsPartWay d v next total s bytes at [] (total - 0) s at
  way_none le = subst (λ (n : ℕ). IsPartWay d v next total s bytes at [] n s at) (let e : total ≡ total - 0 = omega arith in e) (part_none d v next bytes total s at le)

  pub way_more : (xs : List T) (taken : ℕ) (now : S) (here : ℕ) (x : T) (mid : ℕ) → taken < total → IsPartWay d v next total s bytes at xs (total - taken) now here → IsTakenAt (v (total - 1 - taken) now) bytes here x mid
      → IsPartWay d v next total s bytes at (xs ++ x ∷ []) (total - (taken + 1)) (next now x) mid
  way_more xs taken now here x mid lt way is =
      subst (λ (n : ℕ). IsPartWay d v next total s bytes at (xs ++ x ∷ []) n (next now x) mid) (let e : total - 1 - taken ≡ total - (taken + 1) = omega arith in e)
      (part_more d v next bytes total s at xs (total - taken) (total - 1 - taken) now here x mid (omega arith) way is)

  pub way_done : (xs : List T) (taken : ℕ) (now : S) (here : ℕ) → total ≤ taken → IsPartWay d v next total s bytes at xs (total - taken) now here → IsTakenAt (chain d v next total s) bytes at xs here
  way_done xs taken now here le way = part_done d v next bytes total s at xs (total - taken) now here (omega arith) way

module _ {T : Type 0} (d : T) (v : Piece T) (bytes : List ℕ) (total at : ℕ) where
  abbrev pub Way : List T → ℕ → ℕ → Type 0
  Way xs taken here = IsPartWay d (λ (left : ℕ) (u : Unit {0}). v) (λ (u : Unit {0}) (x : T). u) total tt bytes at xs (total - taken) tt here

  pub so_many_fault : (xs : List T) (taken here : ℕ) (fault : DefFault) → taken < total → Way xs taken here → ReadsPiece v bytes here (Err fault) → ReadsPiece (repeat d v total) bytes at (Err fault)
  unfolding repeat
  so_many_fault xs taken here fault lt way is = way_fault d (λ (left : ℕ) (u : Unit {0}). v) (λ (u : Unit {0}) (x : T). u) bytes total tt at xs taken tt here fault lt way is

  pub so_many_none : at ≤ length bytes → Way [] 0 at
  so_many_none le = way_none d (λ (left : ℕ) (u : Unit {0}). v) (λ (u : Unit {0}) (x : T). u) bytes total tt at le

  pub so_many_more : (xs : List T) (taken here : ℕ) (x : T) (mid : ℕ) → taken < total → Way xs taken here → IsTakenAt v bytes here x mid → Way (xs ++ x ∷ []) (taken + 1) mid
  so_many_more xs taken here x mid lt way is = way_more d (λ (left : ℕ) (u : Unit {0}). v) (λ (u : Unit {0}) (x : T). u) bytes total tt at xs taken tt here x mid lt way is

  pub so_many_done : (xs : List T) (taken here : ℕ) → total ≤ taken → Way xs taken here → IsTakenAt (repeat d v total) bytes at xs here
  unfolding repeat
  so_many_done xs taken here le way = way_done d (λ (left : ℕ) (u : Unit {0}). v) (λ (u : Unit {0}) (x : T). u) bytes total tt at xs taken tt here le way

-- ---- a region

module _ (bytes : List ℕ) (at most : ℕ) where
  pub key_taken : (size : ℕ) (key : List ℕ) → IsTakenAt (number_piece 2 most) bytes at size (at + 2) → IsTakenAt (any_bytes size) bytes (at + 2) key (at + 2 + size) → IsTakenAt (least_key_piece most) bytes at key (at + 2 + size)
  unfolding least_key_piece
  key_taken size key first second = measured_reads any_bytes bytes_long (number_piece 2 most) bytes at size (at + 2) (Ok (key, at + 2 + size)) first second

  pub key_short : (place : ℕ) → IsStoppedAt (number_piece 2 most) bytes at place → IsStoppedAt (least_key_piece most) bytes at place
  unfolding least_key_piece
  key_short place stopped = measured_stopped any_bytes bytes_long (number_piece 2 most) bytes at place stopped

  pub key_cut : (size place : ℕ) → IsTakenAt (number_piece 2 most) bytes at size (at + 2) → IsStoppedAt (any_bytes size) bytes (at + 2) place → IsStoppedAt (least_key_piece most) bytes at place
  unfolding least_key_piece
  key_cut size place first stopped = measured_reads any_bytes bytes_long (number_piece 2 most) bytes at size (at + 2) (Err (NotADefinition place)) first stopped

  abbrev made : ℕ × List ℕ → TableRegion
  made x = record { number = x.0; least_key = x.1 }

  abbrev unmade : TableRegion → ℕ × List ℕ
  unmade r = (r.number, r.least_key)

  pub region_taken : (n : ℕ) (key : List ℕ) (end : ℕ) → IsTakenAt id bytes at n (at + 4) → IsTakenAt (least_key_piece most) bytes (at + 4) key end → IsTakenAt (region most) bytes at (record { number = n; least_key = key }) end
  unfolding region
  region_taken n key end first second = taken_as bytes at made unmade (followed_by id (λ n. least_key_piece most)) (λ x right. refl) (n, key) end (taken_then bytes at id (λ n. least_key_piece most) n key (at + 4) end first second)

  pub region_first : (place : ℕ) → IsStoppedAt id bytes at place → IsStoppedAt (region most) bytes at place
  unfolding region
  region_first place stopped = stopped_as bytes at made unmade (followed_by id (λ n. least_key_piece most)) (λ x right. refl) place (stopped_first bytes at id (λ n. least_key_piece most) place stopped)

  pub region_second : (n place : ℕ) → IsTakenAt id bytes at n (at + 4) → IsStoppedAt (least_key_piece most) bytes (at + 4) place → IsStoppedAt (region most) bytes at place
  unfolding region
  region_second n place first stopped = stopped_as bytes at made unmade (followed_by id (λ n. least_key_piece most)) (λ x right. refl) place (stopped_second bytes at id (λ n. least_key_piece most) n (at + 4) place first stopped)

-- ---- a list of the code that takes one more

pub pushed : {T E A : Type 0} (r : Result T E) (new old more : A) → is_err r ≡ false → new ≡ (if is_ok r then more else old) → new ≡ more
pushed (Ok x) new old more ok is = is
pushed (Err e) new old more ok is = absurd cc
