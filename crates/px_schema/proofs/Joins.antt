-- How what readers answer is joined.
use Rattle.std.proofs.Common.{◌≡◌, ℕ, List, Result, Ok, Err, sym, subst}
use Rattle.std.specs.Prelude.{IfErr, IsErrAnd}
use Rattle.std.proofs.lemmas.Result.{err_from_is_err_and}
use Rattle.px_pieces.specs.declared.read.WrongPlace.{WrongPlace}
use Rattle.px_pieces.specs.Pieces.{Piece, as_value, followed_by}
use Rattle.px_pieces.specs.Taking.{IsStoppedAt, IsTakenAt}
use Rattle.px_pieces.proofs.Takes.{stopped_as, stopped_first, stopped_second, taken_then}
use Rattle.px_schema.specs.declared.fault.DefFault.{DefFault}
use Rattle.px_schema.specs.declared.fault.DefFault.TheVariants.{Memory, NotADefinition}
use Rattle.px_schema.specs.Outcomes.{ReadsPiece, paired}

-- a wrong place, and want of memory
pub wrong_reads : {T : Type 0} (v : Piece T) (bytes : List ℕ) (at : ℕ) (fault : DefFault) (place : ℕ) → fault ≡ NotADefinition place → IsStoppedAt v bytes at place → ReadsPiece v bytes at (Err fault)
wrong_reads v bytes at fault place is stopped = subst (λ (f : DefFault). ReadsPiece v bytes at (Err f)) (sym is) stopped

pub memory_reads : {T : Type 0} (v : Piece T) (bytes : List ℕ) (at : ℕ) (fault : DefFault) → fault ≡ Memory → ReadsPiece v bytes at (Err fault)
memory_reads v bytes at fault is = subst (λ (f : DefFault). ReadsPiece v bytes at (Err f)) (sym is) tt

module _ {T U : Type 0} (v : Piece T) (w : T → Piece U) (bytes : List ℕ) (at : ℕ) where
  -- the first piece isn't there
  pub first_reads : (fault : DefFault) → ReadsPiece v bytes at (Err fault) → ReadsPiece (followed_by v w) bytes at (Err fault)
  first_reads (NotADefinition place) is = stopped_first bytes at v w place is
  first_reads Memory is = tt

  -- the first is there, and this is what stands behind it
  pub then_reads : (x : T) (mid : ℕ) (r : Result (U × ℕ) DefFault) → IsTakenAt v bytes at x mid → ReadsPiece (w x) bytes mid r → ReadsPiece (followed_by v w) bytes at (paired x r)
  then_reads x mid (Ok y) first is = taken_then bytes at v w x y.0 mid y.1 first is
  then_reads x mid (Err (NotADefinition place)) first is = stopped_second bytes at v w x mid place first is
  then_reads x mid (Err Memory) first is = tt

  pub behind_reads : (x : T) (mid : ℕ) (fault : DefFault) → IsTakenAt v bytes at x mid → ReadsPiece (w x) bytes mid (Err fault) → ReadsPiece (followed_by v w) bytes at (Err fault)
  behind_reads x mid fault first is = then_reads x mid (Err fault) first is

module _ {T U : Type 0} (f : T → U) (g : U → T) (v : Piece T) (there : (x : T) → v.right x → g (f x) ≡ x) (bytes : List ℕ) (at : ℕ) where
  pub as_fault : (fault : DefFault) → ReadsPiece v bytes at (Err fault) → ReadsPiece (as_value f g v there) bytes at (Err fault)
  as_fault (NotADefinition place) is = stopped_as bytes at f g v there place is
  as_fault Memory is = tt

-- ---- what the exit of a `?` returns

module _ {T : Type 0} (v : Piece T) (bytes : List ℕ) (at : ℕ) (r : Result (T × ℕ) DefFault) where
  pub exit_wrong : (place : ℕ) → IsErrAnd r (λ f. f ≡ NotADefinition place) → IsStoppedAt v bytes at place → ReadsPiece v bytes at r
  exit_wrong place is stopped = let p = err_from_is_err_and r is in subst (ReadsPiece v bytes at) (sym p.1) (wrong_reads v bytes at p.0 place p.2 stopped)

  pub exit_memory : IsErrAnd r (λ f. f ≡ Memory) → ReadsPiece v bytes at r
  exit_memory is = let p = err_from_is_err_and r is in subst (ReadsPiece v bytes at) (sym p.1) (memory_reads v bytes at p.0 p.2)

  pub exit_reads : (fault : DefFault) → IsErrAnd r (λ f. f ≡ fault) → ReadsPiece v bytes at (Err fault) → ReadsPiece v bytes at r
  exit_reads fault is reads = let p = err_from_is_err_and r is in subst (ReadsPiece v bytes at) (sym p.1) (subst (λ (f : DefFault). ReadsPiece v bytes at (Err f)) (sym p.2) reads)

pub exit_stopped : {T U : Type 0} (v : Piece T) (bytes : List ℕ) (at : ℕ) (r : Result U WrongPlace) (wrong : WrongPlace) → IsErrAnd r (λ w. w ≡ wrong) → IsStoppedAt v bytes at wrong.place → IfErr r (λ w. IsStoppedAt v bytes at w.place)
exit_stopped v bytes at r wrong is stopped = let p = err_from_is_err_and r is in rw p.1 (subst (λ (w : WrongPlace). IsStoppedAt v bytes at w.place) (sym p.2) stopped)
