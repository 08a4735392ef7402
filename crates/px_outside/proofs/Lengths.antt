-- How long a file may be that a stop leaves of calls on it.
use Rattle.std.proofs.Common.{ℕ, ◌+◌, ◌<◌, ◌≤◌, ◌⊎◌, inl, inr, length, arith}
use Rattle.std.proofs.lemmas.Bool.{cases_lt}
use Rattle.px_outside.specs.Disk.{StaysBy, StepsOnFileBy, Torn, TouchesOnlyBy}
use Rattle.px_outside.specs.Lengths.{IsWithinLength, StaysWithin}
use Rattle.px_outside.specs.declared.disk.Disk.{Ghosts}

module _ {D : Type 0} (d : Ghosts D) (file most : ℕ) where
  -- a write that ends within,
  pub torn_within : (old new : D) (at n : ℕ) → at + n ≤ most → StepsOnFileBy d.calls d.left old new file (Torn at n) → IsWithinLength d old file most → StaysWithin d old new file most
  torn_within old new at n fits follows within moment bytes since is =
      let from = follows.this moment bytes since is in
      let was : length from.0 ≤ most = within from.0 from.1 in
      omega (arith, was, fits, from.2.no_longer)

  -- two such writes,
  pub within_then : (old mid new : D) (at n : ℕ) → at + n ≤ most → d.calls old ≤ d.calls mid → StaysWithin d old mid file most → StepsOnFileBy d.calls d.left mid new file (Torn at n) → StaysWithin d old new file most
  within_then old mid new at n fits later first follows moment bytes since is = each (cases_lt moment (d.calls mid))
    where
      each : (moment < d.calls mid) ⊎ (d.calls mid ≤ moment) → length bytes ≤ most
      each (inl before) = first moment bytes since (follows.past moment file bytes before is)
      each (inr after) =
          let from = follows.this moment bytes after is in
          let was : length from.0 ≤ most = first (d.calls mid) from.0 later from.1 in
          omega (arith, was, fits, from.2.no_longer)

  -- calls on other files,
  pub within_kept : (old new : D) (touched : ℕ → Type 0) → TouchesOnlyBy d.calls d.left d.seen old new touched → (touched file → ⊥) → IsWithinLength d old file most → StaysWithin d old new file most
  within_kept old new touched touches apart within moment bytes since is = within bytes (touches.others moment file bytes since apart is)

  -- and calls that leave nothing new keep it so,
  pub within_stays : (old new : D) → StaysBy d.calls d.left old new → IsWithinLength d old file most → StaysWithin d old new file most
  within_stays old new stays within moment bytes since is = within bytes (stays.now moment file bytes since is)

  -- at their end too
  pub within_now : (old new : D) → d.calls old ≤ d.calls new → StaysWithin d old new file most → IsWithinLength d new file most
  within_now old new later within bytes is = within (d.calls new) bytes later is
