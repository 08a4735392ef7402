-- Changes that are held one after the other.
use Rattle.std.proofs.Common.{ℕ, ◌≡◌, ◌≢◌, ◌≤◌, ◌<◌, ◌+◌, true, false, List, [], ◌∷◌, length, ◌==◌, refl, sym, ◌∙◌, ap, subst, arith, ⊎_elim, length-append}
use Rattle.std.specs.Ordering.{is_eq}
use Rattle.std.proofs.lemmas.Bool.{cases_Bool, eqb-false, eqb-true}
use Rattle.px_values.specs.declared.change.Change.{Change}
use Rattle.px_values.specs.Order.{row_order}
use Rattle.px_values.specs.States.{Shape}
use Rattle.px_trail.specs.Batches.{has, is_distinct, rows_of}
use Rattle.px_held.specs.declared.holding.HoldFault.{HoldFault}
use Rattle.px_held.specs.declared.holding.HoldFault.TheVariants.{Rows, Memory}
use Rattle.px_held.specs.Held.{AreTooMany, IsFull, with_change, with_changes}
use Rattle.px_held.proofs.Batches.{distinct-with, some-with}
use Rattle.px_held.proofs.Finding.{added-behind}

-- no row gets lost
no-fewer : (shape : Shape) (held : List Change) (c : Change) → length held ≤ length (with_change shape held c)
unfolding with_change
no-fewer shape [] c = omega arith
no-fewer shape (h ∷ held) c = ⊎_elim
    (λ same. rw same (omega arith))
    (λ apart. rw apart (let less = no-fewer shape held c in omega arith))
    (cases_Bool (is_eq (row_order h.row c.row)))

none-fewer : (shape : Shape) (held cs : List Change) → length held ≤ length (with_changes shape held cs)
unfolding with_changes
none-fewer shape held [] = omega arith
none-fewer shape held (c ∷ cs) = let one = no-fewer shape held c in let more = none-fewer shape (with_change shape held c) cs in omega arith

one-more : (shape : Shape) (held : List Change) (c : Change) → has (rows_of held) c.row ≡ false → length (with_change shape held c) ≡ length held + 1
one-more shape held c none = ap length (added-behind shape held c none) ∙ length-append held (c ∷ [])

-- a change that isn't held, and those behind it
too-many : (f : HoldFault) (shape : Shape) (held : List Change) (c : Change) (cs : List Change) → IsFull f held c.row → AreTooMany f shape held (c ∷ cs)
unfolding with_changes
too-many Rows shape held c cs full = let one = one-more shape held c full.1 in let more = none-fewer shape (with_change shape held c) cs in let many = full.0 in omega arith
too-many Memory shape held c cs full = tt

-- what the first changes come to, and the others
pub next-held : (shape : Shape) (all held new : List Change) (cs left : List Change) (c : Change) → with_changes shape all cs ≡ with_changes shape held (c ∷ left) → new ≡ with_change shape held c → with_changes shape all cs ≡ with_changes shape new left
unfolding with_changes
next-held shape all held new cs left c so is = so ∙ ap (λ (l : List Change). with_changes shape l left) (sym is)

pub none-left : (shape : Shape) (all held cs left : List Change) (n : ℕ) → with_changes shape all cs ≡ with_changes shape held left → n ≡ length left → n ≡ 0 → held ≡ with_changes shape all cs
unfolding with_changes
none-left shape all held cs [] n so long zero = sym so
none-left shape all held cs (c ∷ left) n so long zero = absurd cc

pub too-many-so : (f : HoldFault) (shape : Shape) (all held : List Change) (cs left : List Change) (c : Change) → with_changes shape all cs ≡ with_changes shape held (c ∷ left) → IsFull f held c.row → AreTooMany f shape all cs
too-many-so Rows shape all held cs left c so full = subst (λ (l : List Change). 1000 < length l) (sym so) (too-many Rows shape held c left full)
too-many-so Memory shape all held cs left c so full = tt

-- changes that are held may be begun as a batch
pub distinct-each : (shape : Shape) (held cs : List Change) → is_distinct (rows_of held) ≡ true → is_distinct (rows_of (with_changes shape held cs)) ≡ true
unfolding with_changes
distinct-each shape held [] d = d
distinct-each shape held (c ∷ cs) d = distinct-each shape (with_change shape held c) cs (distinct-with shape held c d)

pub some-each : (shape : Shape) (held cs : List Change) → held ≢ [] → with_changes shape held cs ≢ []
unfolding with_changes
some-each shape held [] some = some
some-each shape held (c ∷ cs) some = some-each shape (with_change shape held c) cs (some-with shape held c)

-- so many as are told
pub none-held : (shape : Shape) (held cs : List Change) (n : ℕ) → n ≡ length cs → (n == 0) ≡ true → held ≡ [] → length (with_changes shape held cs) ≤ 1000
unfolding with_changes
none-held shape held [] n long empty none = rw none (omega arith)
none-held shape held (c ∷ cs) n long empty none = absurd (let zero = eqb-true n 0 empty in cc)

pub first-some : (shape : Shape) (held cs : List Change) (n : ℕ) → n ≡ length cs → (n == 0) ≡ false → with_changes shape held cs ≢ []
unfolding with_changes
first-some shape held [] n long some = absurd (eqb-false n 0 some long)
first-some shape held (c ∷ cs) n long some = some-each shape (with_change shape held c) cs (some-with shape held c)

pub none-distinct : (held : List Change) → held ≡ [] → is_distinct (rows_of held) ≡ true
unfolding is_distinct
none-distinct held none = rw none refl
