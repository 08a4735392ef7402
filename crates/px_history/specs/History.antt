-- The changes of one row, as functions of stamps.
use Rattle.std.specs.Prelude.{ℕ, ◌-◌, Bool, false, true}
use Rattle.px_world.specs.World.{Fate, Undecided, Written, is_written, is_expected, state_at}
use Rattle.px_world.specs.Events.{set_stamp}

-- what became of each change, whether its batch has ended, and the states before and after it
pub record History (S : Type 0) : Type 0 where
  -- the state before all changes
  pub base : S
  pub fate : ℕ → Fate
  pub is_ended : ℕ → Bool
  pub old : ℕ → S
  pub new : ℕ → S

-- the state after the written changes at or below a point
abbrev pub written_state : {S : Type 0} → History S → ℕ → S
written_state h p = state_at h.base (λ s. is_written (h.fate s)) h.new p

-- where undecided changes count as written
abbrev pub expected_state : {S : Type 0} → History S → ℕ → S
expected_state h p = state_at h.base (λ s. is_expected (h.fate s)) h.new p

-- a change begins
abbrev pub begin_change : {S A : Type 0} → (S → A → S) → ℕ → A → History S → History S
begin_change apply t change h =
    record h {
      fate = set_stamp t Undecided h.fate;
      is_ended = set_stamp t false h.is_ended;
      old = set_stamp t (expected_state h (t - 1)) h.old;
      new = set_stamp t (apply (expected_state h (t - 1)) change) h.new;
    }

-- it is written
abbrev pub write_change : {S : Type 0} → ℕ → History S → History S
write_change t h = record h { fate = set_stamp t Written h.fate }

-- its batch ends
abbrev pub end_change : {S : Type 0} → ℕ → History S → History S
end_change t h = record h { is_ended = set_stamp t true h.is_ended }
