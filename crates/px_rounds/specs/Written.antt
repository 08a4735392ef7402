-- The bytes that rounds write.
use Rattle.std.specs.Prelude.{ℕ, ◌≡◌, ◌<◌, ◌≤◌, ◌++◌, Bool, true, false, IsTrue, List, length, take}
use Rattle.px_outside.specs.Faults.{FaultsRose}
use Rattle.px_outside.specs.declared.sink.Sink.{Ghosts}

-- all of a round's replies; or the sink failed, and a part at their front; or no memory was found to print them, and none
abbrev pub WritesRound : {O : Type 0} → Ghosts O → O → O → List ℕ → (sink_failed print_failed : Bool) → Type 0
WritesRound {O} k out out' text true print_failed = FaultsRose (k.faults out) (k.faults out') × (IsTrue k.tells → (n : ℕ) × (n < length text) × (k.held out' ≡ k.held out ++ take n text))
WritesRound {O} k out out' text false true = out' ≡ out
WritesRound {O} k out out' text false false = (k.faults out' ≡ k.faults out) × (IsTrue k.tells → k.held out' ≡ k.held out ++ text)

-- The bytes written are the first n of these: all of them, but where the sink failed, or memory was lacked
pub record IsPart {O : Type 0} (k : Ghosts O) (out out' : O) (text : List ℕ) (sink_failed memory : Bool) : Type 0 where
  pub n : ℕ
  pub within : n ≤ length text
  pub held : k.held out' ≡ k.held out ++ take n text
  pub all : sink_failed ≡ false → memory ≡ false → n ≡ length text
  pub part : sink_failed ≡ true → n < length text

-- what was written, where the sink tells; and whether it failed
pub record IsTextWritten {O : Type 0} (k : Ghosts O) (out out' : O) (text : List ℕ) (sink_failed memory : Bool) : Type 0 where
  pub bytes : IsTrue k.tells → IsPart k out out' text sink_failed memory
  pub failed : sink_failed ≡ true → FaultsRose (k.faults out) (k.faults out')
  pub quiet : sink_failed ≡ false → k.faults out' ≡ k.faults out
