-- The run of a load, and what is written of it.
use Rattle.std.proofs.Common.{◌≡◌, ℕ, ◌<◌, ◌≤◌, ◌||◌, Bool, true, false, List, [], ◌++◌, length, refl, sym, ◌∙◌, ap, subst, arith, inl, inr, ⊎_elim}
use Rattle.std.proofs.lemmas.List.{append-nil}
use Rattle.std.proofs.Math.Seq.{take-length}
use Rattle.px_outside.specs.Disk.{last_count}
use Rattle.px_outside.specs.Faults.{FaultsRose}
use Rattle.px_outside.specs.declared.sink.Sink.{Ghosts}
use Rattle.px_trail.specs.declared.entry.Entry.{Entry}
use Rattle.px_trail.specs.Legal.{IsLegal}
use Rattle.px_trail.proofs.Growth.{legal-none}
use Rattle.px_calls.specs.Known.{Known}
use Rattle.px_reply.specs.declared.transcript.Transcript.{Transcript}
use Rattle.px_script.specs.Scripts.{script_of}
use Rattle.px_script.specs.declared.script.SessionText.{SessionText}
use Rattle.px_load.specs.declared.script.Load.{Load}
use Rattle.px_load.specs.Script.{load_text}
use Rattle.px_load.specs.Told.{told_of_load}
use Rattle.px_loaded.specs.Loads.{RanLoad}
use Rattle.px_rounds.specs.Rounds.{RanScript}
use Rattle.px_rounds.specs.Turns.{IsSingle}
use Rattle.px_rounds.specs.Written.{IsTextWritten, WritesRound}
use Rattle.px_rounds.proofs.Waying.{nothing_written}

-- steps with which nothing was done
pub is_single : (k : Known) → k.alone ≡ true → k.seen ≡ [] → IsSingle k
is_single k alone nothing = record { alone = alone; legal = subst (λ (es : List Entry). IsLegal k.base es) (sym nothing) (legal-none k.base) }

-- what takes the replies never fails
pub unfailed : (b : Bool) → (b ≡ true → FaultsRose 0 0) → b ≡ false
unfailed true h = absurd (⊎_elim (λ (up : 0 < 0). never up) (λ (last : last_count ≤ 0). never_last last) (h refl))
  where
    never : 0 < 0 → ⊥
    never up = omega (arith, up)

    never_last : last_count ≤ 0 → ⊥
    never_last last = omega (arith, last)
unfailed false h = refl

-- the session of the load's script was answered
pub loaded : (sound : Type 0) (k k' : Known) (load : Load) (ts : List Transcript) (script : List (List SessionText)) (sink lacked memory : Bool) → k.seen ≡ [] → script ≡ script_of (load_text load) → sink ≡ false → (lacked ≡ true → memory ≡ true)
    → RanScript sound k' (length k.seen) script ts sink lacked → RanLoad sound k' 0 load ts memory
loaded sound k k' load ts script sink lacked memory nothing is sent told ran = inl (record {
  lacked = lacked;
  told = told;
  ran = subst (λ (n : ℕ). RanScript sound k' n (script_of (load_text load)) ts false lacked) (ap length nothing)
      (subst (λ (s : List (List SessionText)). RanScript sound k' (length k.seen) s ts false lacked) is (subst (λ (b : Bool). RanScript sound k' (length k.seen) script ts b lacked) sent ran));
})

-- no memory was found for the script
pub unrun : (sound : Type 0) (k : Known) (load : Load) (ts : List Transcript) (memory : Bool) → k.seen ≡ [] → ts ≡ [] → memory ≡ true → RanLoad sound k 0 load ts memory
unrun sound k load ts memory nothing none lacked = inr (record { still = ap length nothing; none = none; lacked = lacked })

-- nothing is told of no replies
pub none_told : {O : Type 0} (K : Ghosts O) (out : O) (load : Load) (ts : List Transcript) (memory : Bool) → ts ≡ [] → IsTextWritten K out out (told_of_load load ts) false memory
unfolding told_of_load
none_told K out load ts memory none = subst (λ (l : List Transcript). IsTextWritten K out out (told_of_load load l) false memory) (sym none) (nothing_written K out memory)

pub or_lacked : (a b : Bool) → a ≡ true → (a || b) ≡ true
or_lacked true b h = refl
or_lacked false b h = cc

-- what is written at once, where memory may have been lacked before
pub once : {O : Type 0} (K : Ghosts O) (out out' : O) (text : List ℕ) (sink print lacked : Bool) → WritesRound K out out' text sink print → IsTextWritten K out out' text sink (lacked || print)
once {O} K out out' text true print lacked w = record {
  bytes = λ tells.
      let got = w.1 tells in
      let low = got.1 in
      record { n = got.0; within = omega arith; held = got.2; all = λ no. cc; part = λ yes. low };
  failed = λ yes. w.0;
  quiet = λ no. cc;
}
once {O} K out out' text false true lacked w = record {
  bytes = λ tells. record { n = 0; within = omega arith; held = ap K.held w ∙ sym (append-nil (K.held out)); all = λ no none. absurd (always lacked none); part = λ yes. cc };
  failed = λ yes. cc;
  quiet = λ no. ap K.faults w;
}
  where
    always : (b : Bool) → (b || true) ≡ false → ⊥
    always true h = cc
    always false h = cc
once {O} K out out' text false false lacked w = record {
  bytes = λ tells. record { n = length text; within = omega arith; held = w.1 tells ∙ ap (λ (l : List ℕ). K.held out ++ l) (sym (take-length text)); all = λ no none. refl; part = λ yes. cc };
  failed = λ yes. cc;
  quiet = λ no. w.0;
}
