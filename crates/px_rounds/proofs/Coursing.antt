-- A course that goes on.
use Rattle.std.proofs.Common.{◌++◌, ◌∙◌, [], refl}
use Rattle.px_calls.specs.Known.{Known}
use Rattle.px_calls.proofs.Runs.{ran-none, ran-then}
use Rattle.px_rounds.specs.inner.Jobs.{CameOn, Unchanged}

module _ {X : Type 0} (on_way : Known → X → Type 0) (stays : X → Unchanged) where
  pub not_yet : (k : Known) (x : X) → on_way k x → CameOn on_way stays k x k x
  not_yet k x live = record { acts = []; ran = ran-none k; live = live; same = refl }

  pub came_then : (k k' k'' : Known) (a b c : X) → CameOn on_way stays k a k' b → CameOn on_way stays k' b k'' c → CameOn on_way stays k a k'' c
  came_then k k' k'' a b c h j = record { acts = h.acts ++ j.acts; ran = ran-then k k' k'' h.acts j.acts h.ran j.ran; live = j.live; same = j.same ∙ h.same }
