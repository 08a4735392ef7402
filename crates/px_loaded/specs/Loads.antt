-- What the run of a load leaves.
use Rattle.std.specs.Prelude.{ℕ, ◌≡◌, ◌⊎◌, Bool, true, false, List, [], length}
use Rattle.px_calls.specs.Known.{Known}
use Rattle.px_reply.specs.declared.transcript.Transcript.{Transcript}
use Rattle.px_script.specs.Scripts.{script_of}
use Rattle.px_load.specs.declared.script.Load.{Load}
use Rattle.px_load.specs.Script.{load_text}
use Rattle.px_rounds.specs.Rounds.{RanScript}

-- no memory was found for the script: nothing was run. The trail has no entry from the place `from` on
pub record IsUnrun (k : Known) (from : ℕ) (transcripts : List Transcript) (memory : Bool) : Type 0 where
  pub still : length k.seen ≡ from
  pub none : transcripts ≡ []
  pub lacked : memory ≡ true

-- the session of the load's script is answered by the trail from the place `from` on, to its end, unless memory was lacked
pub record IsLoaded (sound : Type 0) (k : Known) (from : ℕ) (load : Load) (transcripts : List Transcript) (memory : Bool) : Type 0 where
  pub lacked : Bool
  pub told : lacked ≡ true → memory ≡ true
  pub ran : RanScript sound k from (script_of (load_text load)) transcripts false lacked

-- the answers to a load
abbrev pub RanLoad : (sound : Type 0) → Known → (from : ℕ) → Load → List Transcript → (memory : Bool) → Type 0
RanLoad sound k from load transcripts memory = IsLoaded sound k from load transcripts memory ⊎ IsUnrun k from transcripts memory
