-- Where reading is stuck, or stops before the end, no statement of the grammar continues.
use Rattle.std.proofs.Common.{◌≡◌, ℕ, ◌+◌, ◌-◌, false, List, [], ◌∷◌, ◌++◌, length, refl, sym, ap, subst, ◌∙◌, append_assoc, arith, inl, inr}
use Rattle.std.proofs.lemmas.List.{append-nil, length-append, take_at, drop_at}
use Rattle.std.proofs.lemmas.Bool.{cases_lt}
use Rattle.px_lex.specs.Lexemes.{Seen}
use Rattle.px_ast.specs.declared.statement.Statement.{Statement}
use Rattle.px_ast.specs.Rule.{sees, Outcome, Got, Stuck, Deep}
use Rattle.px_ast.specs.Grammar.{statement}
use Rattle.px_ast.specs.Statements.{ReadsWithin}
use Rattle.px_statements.specs.Parsed.{BeginsOne, NoneGoesOn, IsFirstUnexpected}
use Rattle.px_statements.proofs.GrammarLaws.{statement_lawful}
use Rattle.px_statements.proofs.Depth.{statement_grows}

clear_end : (depth : ℕ) → sees (statement depth).on [] ≡ false
clear_end depth = refl

-- what the grammar reads is read, to its end
pub reads_again : (depth : ℕ) (tokens : List Seen) (s : Statement) → ReadsWithin depth tokens s → (statement depth).at tokens ≡ Got s []
reads_again depth tokens s r =
    ap (statement depth).at (sym (append-nil tokens)) ∙ (statement_lawful depth).again tokens [] s r (clear_end depth)

pub reads_all : (depth : ℕ) (tokens : List Seen) (s : Statement) → (statement depth).at tokens ≡ Got s [] → ReadsWithin depth tokens s
reads_all depth tokens s e =
    let g = (statement_lawful depth).got tokens [] s e in
    subst (λ (x : List Seen). ReadsWithin depth x s) (sym (g.1 ∙ append-nil g.0)) g.2

-- two readings that are not too deep are one
agree : (a b : ℕ) (ts : List Seen) (o : Outcome Statement) (s : Statement) (rest : List Seen) → (statement a).at ts ≡ o → (statement b).at ts ≡ Got s rest → (o ≡ Deep → ⊥) → o ≡ Got s rest
agree a b ts o s rest e h shallow =
    elim (cases_lt a b) [
      | inl lt ↦
          let n : (b - a) + a ≡ b = omega arith in
          elim (statement_grows (b - a) a ts) [
            | inl w ↦ absurd (shallow (sym e ∙ w))
            | inr w ↦ sym e ∙ w ∙ ap (λ (d : ℕ). (statement d).at ts) n ∙ h
          ]
      | inr le ↦
          let n : (a - b) + b ≡ a = omega arith in
          elim (statement_grows (a - b) b ts) [
            | inl w ↦ absurd (let x = sym h ∙ w in cc)
            | inr w ↦ sym e ∙ sym (ap (λ (d : ℕ). (statement d).at ts) n) ∙ sym w ∙ h
          ]
    ]

regroup : (front : List Seen) (t : Seen) (more : List Seen) → (front ++ t ∷ []) ++ more ≡ front ++ t ∷ more
regroup front t more = append_assoc front (t ∷ []) more

-- no statement begins with these and the token at which reading is stuck
none_after_stuck : (depth : ℕ) (front rest : List Seen) → (statement depth).at (front ++ rest) ≡ Stuck rest → NoneGoesOn front rest
none_after_stuck depth front [] e = λ s r.
    let again = reads_again r.0 (front ++ []) s (subst (λ (x : List Seen). ReadsWithin r.0 x s) (sym (append-nil front)) r.1) in
    let x : Stuck [] ≡ Got s [] = agree depth r.0 (front ++ []) (Stuck []) s [] e again (λ d. cc) in
    cc
none_after_stuck depth front (t ∷ rest) e = λ b.
    let whole : List Seen = front ++ t ∷ b.0 in
    let again = reads_again b.2.0 whole b.1 (subst (λ (x : List Seen). ReadsWithin b.2.0 x b.1) (regroup front t b.0) b.2.1) in
    let stuck = (statement_lawful depth).same_stuck front [] t rest b.0 e in
    let x : Stuck (t ∷ b.0) ≡ Got b.1 [] = agree depth b.2.0 whole (Stuck (t ∷ b.0)) b.1 [] stuck again (λ d. cc) in
    cc

-- nor with a whole statement and a token that stands behind it
none_after_whole : (depth : ℕ) (front : List Seen) (t : Seen) (rest : List Seen) (s : Statement) → (statement depth).at (front ++ t ∷ rest) ≡ Got s (t ∷ rest) → NoneGoesOn front (t ∷ rest)
none_after_whole depth front t rest s e b =
    let whole : List Seen = front ++ t ∷ b.0 in
    let again = reads_again b.2.0 whole b.1 (subst (λ (x : List Seen). ReadsWithin b.2.0 x b.1) (regroup front t b.0) b.2.1) in
    let got = (statement_lawful depth).same_got front [] t rest b.0 s e in
    let x : Got s (t ∷ b.0) ≡ Got b.1 [] = agree depth b.2.0 whole (Got s (t ∷ b.0)) b.1 [] got again (λ d. cc) in
    cc

fault_at : (front rest : List Seen) → BeginsOne front → NoneGoesOn front rest → IsFirstUnexpected (front ++ rest) (length (front ++ rest) - length rest)
fault_at front rest begun none =
    let n : length (front ++ rest) - length rest ≡ length front = omega (arith, length-append front rest) in
    rw n (record {
      within = omega (arith, length-append front rest);
      before = rw (take_at front rest (length front) refl) begun;
      none = rw (take_at front rest (length front) refl, drop_at front rest (length front) refl) none;
    })

pub stuck_is_fault : (depth : ℕ) (tokens rest : List Seen) → (statement depth).at tokens ≡ Stuck rest → IsFirstUnexpected tokens (length tokens - length rest)
stuck_is_fault depth tokens rest e =
    let s = (statement_lawful depth).stuck tokens rest e in
    let begun : BeginsOne s.0 = (s.2.0, s.2.1, (depth, s.2.2)) in
    let here : (statement depth).at (s.0 ++ rest) ≡ Stuck rest = ap (statement depth).at (sym s.1) ∙ e in
    subst (λ (x : List Seen). IsFirstUnexpected x (length x - length rest)) (sym s.1) (fault_at s.0 rest begun (none_after_stuck depth s.0 rest here))

pub rest_is_fault : (depth : ℕ) (tokens : List Seen) (t : Seen) (rest : List Seen) (s : Statement) → (statement depth).at tokens ≡ Got s (t ∷ rest) → IsFirstUnexpected tokens (length tokens - length (t ∷ rest))
rest_is_fault depth tokens t rest s e =
    let g = (statement_lawful depth).got tokens (t ∷ rest) s e in
    let begun : BeginsOne g.0 = ([], s, (depth, subst (λ (x : List Seen). ReadsWithin depth x s) (sym (append-nil g.0)) g.2)) in
    let here : (statement depth).at (g.0 ++ t ∷ rest) ≡ Got s (t ∷ rest) = ap (statement depth).at (sym g.1) ∙ e in
    subst (λ (x : List Seen). IsFirstUnexpected x (length x - length (t ∷ rest))) (sym g.1) (fault_at g.0 (t ∷ rest) begun (none_after_whole depth g.0 t rest s here))

pub deep_reads_none : (depth : ℕ) (tokens : List Seen) (s : Statement) → (statement depth).at tokens ≡ Deep → ReadsWithin depth tokens s → ⊥
deep_reads_none depth tokens s e r = let x = sym e ∙ reads_again depth tokens s r in cc
