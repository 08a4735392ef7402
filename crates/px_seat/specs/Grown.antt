-- What a step of a single owner does, and what a seat at the lock knows.
use Rattle.std.specs.Prelude.{ℕ, ◌≡◌, Bool, true, false, List, ◌++◌, All}
use Rattle.px_trail.specs.declared.entry.Entry.{Entry}
use Rattle.px_trail.specs.Legal.{IsLegal}
use Rattle.px_trail.specs.Trail.{Base}
use Rattle.px_calls.specs.Known.{Known}

-- nobody else acts on it, its base and its damaged places stay, and its trail is legal
pub record IsOwned (base_is : Base) (damaged_is : ℕ → ℕ → Bool) (now : Known) : Type 0 where
  pub alone : now.alone ≡ true
  pub base : now.base ≡ base_is
  pub damaged : now.damaged ≡ damaged_is
  pub legal : IsLegal now.base now.seen

-- entries of the seat that acts were added, and no others
pub record Grew (k k' : Known) : Type 0 where
  pub more : List Entry
  pub seen : k'.seen ≡ k.seen ++ more
  pub own : All (λ e. e.seat ≡ k.seat) more
  pub seat : k'.seat ≡ k.seat
  pub base : k'.base ≡ k.base
  pub damaged : k'.damaged ≡ k.damaged
  pub as_alone : k'.alone ≡ k.alone
  pub legal : IsLegal k'.base k'.seen

-- what the owner knows, where several seats share it
abbrev pub shared : Known → Known
shared k = record { seat = k.seat; base = k.base; damaged = k.damaged; alone = false; seen = k.seen }

-- what a seat at the lock knows
abbrev pub mine : ℕ → Base → (ℕ → ℕ → Bool) → List Entry → Known
mine seat base damaged seen = record { seat = seat; base = base; damaged = damaged; alone = false; seen = seen }

-- this was so of the owner when it had these entries
abbrev pub WasSo : (S : Type 0) → (S → Known) → (S → Type 0) → List Entry → Type 0
WasSo S known Is seen = (owner : S) × Is owner × ((known owner).seen ≡ seen)
