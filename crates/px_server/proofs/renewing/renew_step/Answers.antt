use Rattle.std.proofs.Common.{rules, ◌≡◌, ◌<◌, ◌-◌, ◌+◌, ◌⊎◌, inl, inr, ℕ, length, sym, subst, arith}
use Rattle.px_schema.specs.Spelled.{standing_bytes}
use Rattle.px_schema.specs.declared.standing.Standing.{Standing}
use Rattle.px_catalog.specs.Catalogue.{IsCatalogueFull, catalogue_steps_left, generation_of, room_of_catalogue, standing_of}
use Rattle.px_catalog.specs.declared.catalog.Catalog.{Catalog}
use Rattle.px_server.specs.inner.Renewing.{IsFilled}
use Rattle.px_server.proofs.renewing.renew_step.Goals as goal

long : (room n : ℕ) → room ≡ 67108864 - (22 + n) → room < 32768 → 67076074 < n
long room n is few = omega arith

longer : (n : ℕ) → 67108841 < n → 67076074 < n
longer n more = omega arith

-- behind the last step it is full only by what stands
filled : (old new : Catalog) → standing_of new ≡ standing_of old → 1 < catalogue_steps_left new → room_of_catalogue new ≡ 67108864 - (22 + length (standing_bytes (standing_of old))) → IsCatalogueFull new → IsFilled new
filled old new same more room (inl few) = inr (subst (λ (s : Standing). 67076074 < length (standing_bytes s)) (sym same) (long (room_of_catalogue new) (length (standing_bytes (standing_of old))) room few))
filled old new same more room (inr laid) = absurd (omega (arith, more, laid))

stays_filled : (c : Catalog) → (generation_of c ≡ 18446744073709551615) ⊎ (67108841 < length (standing_bytes (standing_of c))) → IsFilled c
stays_filled c (inl none) = inl none
stays_filled c (inr more) = inr (longer (length (standing_bytes (standing_of c))) more)

pub returns-then-is_full-clause-undone : goal.returns-then-is_full-clause-undone
returns-then-is_full-clause-undone g c = λ no has.
    filled c.args.catalog.now c.roll_step.new.self c.roll_step.ensures.same (c.in-Ok-Rolled.ensures.opened (search rules)).1 (c.in-Ok-Rolled.ensures.room has (search rules)) (c.is_full.ensures.0 (search rules))

pub returns-in-Err-Full-clause-undone : goal.returns-in-Err-Full-clause-undone
returns-in-Err-Full-clause-undone g c = λ no has. subst IsFilled (sym (c.in-Err-Full.ensures.untouched (inl (search rules))).1) (stays_filled c.args.catalog.now (c.in-Err-Full.ensures.full (search rules)))
