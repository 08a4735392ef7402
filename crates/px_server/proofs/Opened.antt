-- A table that doesn't stand has no open point.
use Rattle.std.proofs.Common.{◌≡◌, inl, inr, ℕ, Option, Some, None, List, [], ◌∷◌, ◌++◌, true, refl, sym, ap, subst, ◌∙◌, arith}
use Rattle.std.specs.Option.{is_some}
use Rattle.std.proofs.lemmas.Bool.{cases_eq, false≢true}
use Rattle.px_values.specs.declared.name.TableId.{TableId}
use Rattle.px_trail.specs.declared.entry.Act.{Act}
use Rattle.px_trail.specs.declared.entry.Act.TheVariants.{Made, IndexMade, IndexState, Dropped, Begun, Phase, Wrote, Ended, Opened, Released, Raised, Fixed, Based, Missed, Shut}
use Rattle.px_trail.specs.declared.entry.Entry.{Entry}
use Rattle.px_trail.specs.Legal.{Follows, IsLegal, MayCome}
use Rattle.px_trail.specs.Trail.{Base, catalogue_of, catalogue_step, made_table, open_points, points_from, points_step, set_number, table_of}
use Rattle.px_trail.proofs.Growth.{catalogue-snoc, legal-induct, points-snoc}
use Rattle.px_trail.proofs.Standing.{set_number-other, set_number-same}
use Rattle.px_noting.proofs.Others.{apart_points}

some_none : {A : Type 0} (x : A) (o : Option A) → o ≡ Some x → o ≡ None → ⊥
some_none x o is none = (let no : Some x ≡ None = sym is ∙ none in cc)

none_some : {A : Type 0} (o : Option A) → o ≡ None → is_some o ≡ true → ⊥
none_some o none some = false≢true (sym (ap is_some none) ∙ some)

module _ (b : Base) (es : List Entry) (before : (t : ℕ) → table_of b es t ≡ None → (seat s : ℕ) → open_points seat t s es ≡ 0) where
  other_points : (tid : TableId) (act_seat : ℕ) (act : Act) (seat s : ℕ) → points_step seat tid.0 s (open_points seat tid.0 s es) act_seat act ≡ open_points seat tid.0 s es → table_of b es tid.0 ≡ None → points_step seat tid.0 s (open_points seat tid.0 s es) act_seat act ≡ 0
  other_points tid act_seat act seat s same none = same ∙ before tid.0 none seat s

  step_none : (act_seat calls : ℕ) (act : Act) → Follows b es act_seat calls act → (tid : TableId) → (catalogue_step (catalogue_of b es) act).tables tid.0 ≡ None → (seat s : ℕ) → points_step seat tid.0 s (open_points seat tid.0 s es) act_seat act ≡ 0
  unfolding Follows catalogue_step points_step
  step_none act_seat calls (Made t what) f tid none seat s = elim (cases_eq t.0 tid.0) [
    | inl e ↦ absurd (some_none (made_table (catalogue_of b es).next t what) (set_number t.0 (Some (made_table (catalogue_of b es).next t what)) (catalogue_of b es).tables tid.0)
        (subst (λ (m : ℕ). set_number t.0 (Some (made_table (catalogue_of b es).next t what)) (catalogue_of b es).tables m ≡ Some (made_table (catalogue_of b es).next t what)) e (set_number-same t.0 (Some (made_table (catalogue_of b es).next t what)) (catalogue_of b es).tables)) none)
    | inr e ↦ before tid.0 (sym (set_number-other t.0 (Some (made_table (catalogue_of b es).next t what)) (catalogue_of b es).tables tid.0 e) ∙ none) seat s
  ]
  step_none act_seat calls (IndexMade t i u what) f tid none seat s = before tid.0 none seat s
  step_none act_seat calls (IndexState t i state u) f tid none seat s = before tid.0 none seat s
  step_none act_seat calls (Dropped t None) f tid none seat s = elim (cases_eq t.0 tid.0) [
    | inl e ↦ subst (λ (m : ℕ). open_points seat m s es ≡ 0) e (f.1.points seat s)
    | inr e ↦ before tid.0 (sym (set_number-other t.0 None (catalogue_of b es).tables tid.0 e) ∙ none) seat s
  ]
  step_none act_seat calls (Dropped t (Some i)) f tid none seat s = before tid.0 none seat s
  step_none act_seat calls (Opened t u scn) f tid none seat s = elim (cases_eq t.0 tid.0) [
    | inl e ↦ absurd (none_some (table_of b es t.0) (ap (λ (m : ℕ). table_of b es m) e ∙ none) f.3)
    | inr e ↦ other_points tid act_seat (Opened t u scn) seat s (apart_points tid seat s (open_points seat tid.0 s es) act_seat (Opened t u scn) e) none
  ]
  step_none act_seat calls (Released t u) f tid none seat s = elim (cases_eq t.0 tid.0) [
    | inl e ↦ absurd (let zero_open : open_points act_seat t.0 u es ≡ 0 = before t.0 (ap (λ (m : ℕ). table_of b es m) e ∙ none) act_seat u in omega (arith, zero_open, f))
    | inr e ↦ other_points tid act_seat (Released t u) seat s (apart_points tid seat s (open_points seat tid.0 s es) act_seat (Released t u) e) none
  ]
  step_none act_seat calls (Begun t u cs) f tid none seat s = before tid.0 none seat s
  step_none act_seat calls (Phase t u p) f tid none seat s = before tid.0 none seat s
  step_none act_seat calls (Wrote t u rows) f tid none seat s = before tid.0 none seat s
  step_none act_seat calls (Ended t u) f tid none seat s = before tid.0 none seat s
  step_none act_seat calls (Raised t h) f tid none seat s = before tid.0 none seat s
  step_none act_seat calls (Fixed i key) f tid none seat s = before tid.0 none seat s
  step_none act_seat calls (Based i rows) f tid none seat s = before tid.0 none seat s
  step_none act_seat calls (Missed call) f tid none seat s = before tid.0 none seat s
  step_none act_seat calls (Shut call) f tid none seat s = before tid.0 none seat s

abbrev HasNoPoints : Base → List Entry → Type 0
HasNoPoints b es = (t : ℕ) → table_of b es t ≡ None → (seat s : ℕ) → open_points seat t s es ≡ 0

next_none : (b : Base) (es : List Entry) (e : Entry) → IsLegal b es → MayCome b es e → HasNoPoints b es → HasNoPoints b (es ++ e ∷ [])
next_none b es e legal may before t none seat s =
    points-snoc seat t s es e ∙ step_none b es before e.seat e.calls e.act may.follows (record { 0 = t }) (sym (ap (λ c. c.tables t) (catalogue-snoc b es e)) ∙ none) seat s

pub none_open : (b : Base) (es : List Entry) → IsLegal b es → (t : ℕ) → table_of b es t ≡ None → (seat s : ℕ) → open_points seat t s es ≡ 0
unfolding points_from
none_open b es legal = legal-induct b (HasNoPoints b) (next_none b) [] es legal (λ t none seat s. refl)
