-- A batch of which the trail tells that its marks are closed has come to its last phase.
use Rattle.std.proofs.Common.{◌≡◌, ◌≤◌, ◌⊎◌, ◌==◌, ◌&&◌, inl, inr, ℕ, zero, suc, Bool, true, false, if◌then◌else◌, Option, Some, None, List, [], ◌∷◌, ◌++◌, refl, sym, ap, subst, ◌∙◌, arith}
use Rattle.std.specs.Prelude.{slice_get}
use Rattle.std.proofs.lemmas.Bool.{and_parts, eqb-true, false≢true}
use Rattle.px_values.specs.declared.name.TableId.{TableId}
use Rattle.px_trail.specs.declared.entry.Act.{Act}
use Rattle.px_trail.specs.declared.entry.Act.TheVariants.{Phase, Wrote, Ended}
use Rattle.px_trail.specs.declared.entry.Entry.{Entry}
use Rattle.px_trail.specs.Batches.{Batch, IsBatchIn, batch_of, batch_step}
use Rattle.px_trail.specs.Batches as phases
use Rattle.px_trail.specs.Legal.{Follows, IsLegal, IsPhased, MayCome}
use Rattle.px_trail.specs.Trail.{Base}
use Rattle.px_trail.proofs.Batches.{in_marking}
use Rattle.px_trail.proofs.Growth.{batch_of-snoc, legal-induct}
use Rattle.px_server.specs.Ending.{HasVerifiedEntry, tells_verified}

same_some : {A : Type 0} (x y : A) → Some x ≡ Some y → x ≡ y
same_some x y e = cc

get_last : (xs : List Entry) (x : Entry) (k : ℕ) (y : Entry) → slice_get (xs ++ x ∷ []) k ≡ Some y → (slice_get xs k ≡ Some y) ⊎ (x ≡ y)
get_last [] x zero y is = inr (same_some x y is)
get_last [] x (suc k) y is = absurd cc
get_last (z ∷ xs) x zero y is = inl is
get_last (z ∷ xs) x (suc k) y is = get_last xs x k y is

-- the batch has come to its last phase
pub record IsDone (o : Option Batch) : Type 0 where
  pub batch : Batch
  pub is : o ≡ Some batch
  pub phase : 2 ≤ batch.phase

done_if : (v : Bool) (x y : Batch) → 2 ≤ x.phase → 2 ≤ y.phase → IsDone (if v then Some x else Some y)
done_if true x y a c = record { batch = x; is = refl; phase = a }
done_if false x y a c = record { batch = y; is = refl; phase = c }

told_step : (t s : ℕ) (u : TableId) (r p seat : ℕ) (y : Batch) → (u.0 == t) ≡ true → (r == s) ≡ true → batch_step t s (Some y) seat (Phase u r p) ≡ Some (record y { phase = p })
unfolding batch_step
told_step t s u r p seat y one two = ap (λ v. if v && (r == s) then Some (record y { phase = p }) else Some y) one ∙ ap (λ v. if v then Some (record y { phase = p }) else Some y) two

module _ (b : Base) (es : List Entry) (t s : ℕ) where
  -- the first phase isn't told again
  not_first : (y : Batch) → batch_of t s es ≡ Some y → 2 ≤ y.phase → (seat : ℕ) → IsBatchIn es seat t s phases.Marking → ⊥
  not_first y is done seat i = (let own : i.batch ≡ y = same_some i.batch y (sym i.is ∙ is) in let first : i.batch.phase ≡ 0 = (in_marking i.batch i.phase).1 in let same : i.batch.phase ≡ y.phase = ap (λ (z : Batch). z.phase) own in omega (arith, done, first, same))

  phase_kept : (y : Batch) → batch_of t s es ≡ Some y → 2 ≤ y.phase → (seat : ℕ) (u : TableId) (r p : ℕ) → IsPhased es seat u.0 r p → (v : Bool) → ((u.0 == t) && (r == s)) ≡ v → IsDone (if v then Some (record y { phase = p }) else Some y)
  phase_kept y is done seat u r p (inl f) true at = (let parts = and_parts (u.0 == t) (r == s) at in absurd (not_first y is done seat (subst (λ (n : ℕ). IsBatchIn es seat n s phases.Marking) (eqb-true u.0 t parts.0) (subst (λ (n : ℕ). IsBatchIn es seat u.0 n phases.Marking) (eqb-true r s parts.1) f.1))))
  phase_kept y is done seat u r p (inr f) true at = record { batch = record y { phase = p }; is = refl; phase = (let three = f.0 in omega (arith, three)) }
  phase_kept y is done seat u r p f false at = record { batch = y; is = refl; phase = done }

  kept_done : (y : Batch) → batch_of t s es ≡ Some y → 2 ≤ y.phase → (seat calls : ℕ) (act : Act) → Follows b es seat calls act → IsDone (batch_step t s (Some y) seat act)
  unfolding Follows batch_step
  kept_done y is done seat calls (Phase u r p) f = phase_kept y is done seat u r p f ((u.0 == t) && (r == s)) refl
  kept_done y is done seat calls (Wrote u r rows) f = done_if ((u.0 == t) && (r == s)) (record y { written = y.written ++ rows }) y done done
  kept_done y is done seat calls (Ended u r) f = done_if ((u.0 == t) && (r == s)) (record y { ended = true }) y done done
  kept_done y is done seat calls act f = record { batch = y; is = refl; phase = done }

  -- the third phase is told
  now_done : (seat calls : ℕ) (act : Act) → Follows b es seat calls act → tells_verified t s act ≡ true → IsDone (batch_step t s (batch_of t s es) seat act)
  unfolding Follows
  now_done seat calls (Phase u r p) f tells = by f
    where
      tests : ((u.0 == t) ≡ true) × (((r == s) && (p == 3)) ≡ true)
      tests = and_parts (u.0 == t) ((r == s) && (p == 3)) tells

      inner : ((r == s) ≡ true) × ((p == 3) ≡ true)
      inner = and_parts (r == s) (p == 3) tests.1

      three : p ≡ 3
      three = eqb-true p 3 inner.1

      by : IsPhased es seat u.0 r p → IsDone (batch_step t s (batch_of t s es) seat (Phase u r p))
      by (inl g) = absurd (let one = g.0 in let two = three in omega (arith, one, two))
      by (inr g) = (let
          here : batch_of t s es ≡ Some g.1.batch = ap (λ (n : ℕ). batch_of n s es) (sym (eqb-true u.0 t tests.0)) ∙ (ap (λ (n : ℕ). batch_of u.0 n es) (sym (eqb-true r s inner.0)) ∙ g.1.is)
          in record {
            batch = record g.1.batch { phase = p };
            is = ap (λ (o : Option Batch). batch_step t s o seat (Phase u r p)) here ∙ told_step t s u r p seat g.1.batch tests.0 inner.0;
            phase = (let two = three in omega (arith, two));
          })
  now_done seat calls act f tells = absurd (false≢true tells)

none_get : (k : ℕ) (e : Entry) → slice_get [] k ≡ Some e → ⊥
none_get k e is = (let z : None ≡ Some e = is in cc)

abbrev HasDone : ℕ → ℕ → List Entry → Type 0
HasDone t s es = (k : ℕ) (e : Entry) → slice_get es k ≡ Some e → tells_verified t s e.act ≡ true → IsDone (batch_of t s es)

next_done : (b : Base) (t s : ℕ) (es : List Entry) (e : Entry) → IsLegal b es → MayCome b es e → HasDone t s es → HasDone t s (es ++ e ∷ [])
next_done b t s es e legal may before k x is tells = subst IsDone (sym (batch_of-snoc t s es e)) (elim (get_last es e k x is) [
  | inl old ↦ (let d = before k x old tells in subst (λ (o : Option Batch). IsDone (batch_step t s o e.seat e.act)) (sym d.is) (kept_done b es t s d.batch d.is d.phase e.seat e.calls e.act may.follows))
  | inr new ↦ now_done b es t s e.seat e.calls e.act may.follows (ap (λ (z : Entry). tells_verified t s z.act) new ∙ tells)
])

pub verified_done : (b : Base) (es : List Entry) → IsLegal b es → (t s : ℕ) → HasVerifiedEntry es t s → IsDone (batch_of t s es)
verified_done b es legal t s v = legal-induct b (HasDone t s) (next_done b t s) [] es legal (λ k e is tells. absurd (none_get k e is)) v.place v.entry v.is v.tells
