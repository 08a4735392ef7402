-- Entries by which nothing changes: what stands stays, but for horizons that rise.
use Rattle.std.proofs.Common.{ℕ, zero, suc, ◌≡◌, ◌≤◌, ◌+◌, ◌-◌, ◌==◌, ◌&&◌, if◌then◌else◌, Bool, true, false, Option, None, Some, List, [], ◌∷◌, ◌++◌, ◌<◌, length, take, drop, refl, sym, ◌∙◌, ap, subst, arith, append_assoc, inl, inr}
use Rattle.std.proofs.lemmas.Bool.{cases_eq, false≢true, eq-eqb, ne_eqb}
use Rattle.std.proofs.lemmas.List.{take-append-drop}
use Rattle.px_values.specs.declared.row.Value.{Value}
use Rattle.px_trail.specs.Answers.{Asked, Given, IsCurrent, IsExact}
use Rattle.px_trail.specs.Batches.{Batch, batch_from, batch_of, batch_step}
use Rattle.px_trail.specs.Legal.{Follows, IsLegal}
use Rattle.px_trail.specs.States.{greatest_stamp, key_in, state_of}
use Rattle.px_trail.specs.Trail.{Base, horizon_of, horizon_step, shape_of}
use Rattle.px_trail.specs.declared.entry.Act.{Act}
use Rattle.px_trail.specs.declared.entry.Act.TheVariants.{Made, IndexMade, IndexState, Dropped, Begun, Phase, Wrote, Ended, Opened, Released, Raised, Fixed, Based, Missed, Shut}
use Rattle.px_trail.specs.declared.entry.Entry.{Entry}
use Rattle.px_trail.proofs.Growth.{batch_from-append, horizon-snoc, legal-induct, legal-prefix}
use Rattle.px_alone.specs.Alone.{tables_at}
use Rattle.px_alone.specs.Answers.{IsExactIn}
use Rattle.px_alone.specs.Tables.{Tables, after, after_all, state_in}
use Rattle.px_alone.proofs.Rows.{AllDone, state-done}
use Rattle.px_alone.proofs.Standing.{acts_of, changes_in, is_change, rises-last, rises_in, tables-append}

-- 1. What stands

only_rises : (x : Tables) (acts : List Act) → after_all x (rises_in acts) ≡ record x { horizon = (after_all x (rises_in acts)).horizon }
unfolding after_all
only_rises x [] = refl
only_rises x (Raised t h ∷ acts) = only_rises (after x (Raised t h)) acts
only_rises x (Made t what ∷ acts) = only_rises x acts
only_rises x (IndexMade t i s what ∷ acts) = only_rises x acts
only_rises x (IndexState t i state s ∷ acts) = only_rises x acts
only_rises x (Dropped t i ∷ acts) = only_rises x acts
only_rises x (Begun t s cs ∷ acts) = only_rises x acts
only_rises x (Phase t s p ∷ acts) = only_rises x acts
only_rises x (Wrote t s rows ∷ acts) = only_rises x acts
only_rises x (Ended t s ∷ acts) = only_rises x acts
only_rises x (Opened t s scn ∷ acts) = only_rises x acts
only_rises x (Released t s ∷ acts) = only_rises x acts
only_rises x (Fixed i key ∷ acts) = only_rises x acts
only_rises x (Based i rows ∷ acts) = only_rises x acts
only_rises x (Missed call ∷ acts) = only_rises x acts
only_rises x (Shut call ∷ acts) = only_rises x acts

-- these entries change nothing
abbrev pub AreCalm : List Entry → Type 0
AreCalm es = changes_in (acts_of es) ≡ []

-- the tables with other horizons
abbrev pub with_horizon : Tables → (ℕ → ℕ) → Tables
with_horizon x h = record x { horizon = h }

pub calm-tables : (b : Base) (pre more : List Entry) → AreCalm more → tables_at b (pre ++ more) ≡ with_horizon (tables_at b pre) (λ t. horizon_of b t (pre ++ more))
unfolding after_all
calm-tables b pre more calm =
    let x : Tables = tables_at b pre in
    let e : tables_at b (pre ++ more) ≡ after_all x (rises_in (acts_of more)) =
    tables-append b pre more ∙ (rises-last x (acts_of more) ∙ ap (λ (acts : List Act). after_all (after_all x acts) (rises_in (acts_of more))) calm) in
    e ∙ (only_rises x (acts_of more) ∙ ap (λ (y : Tables). with_horizon x y.horizon) (sym e))

-- what stands behind some entries, by what they change
pub changed-tables : (b : Base) (pre more : List Entry) → tables_at b (pre ++ more) ≡ with_horizon (after_all (tables_at b pre) (changes_in (acts_of more))) (λ t. horizon_of b t (pre ++ more))
changed-tables b pre more =
    let y : Tables = after_all (tables_at b pre) (changes_in (acts_of more)) in
    let e : tables_at b (pre ++ more) ≡ after_all y (rises_in (acts_of more)) = tables-append b pre more ∙ rises-last (tables_at b pre) (acts_of more) in
    e ∙ (only_rises y (acts_of more) ∙ ap (λ (z : Tables). with_horizon y z.horizon) (sym e))

-- 2. Parts of such entries

no_first : (a : Act) (l : List Act) → a ∷ l ≡ [] → ⊥
no_first a l h = cc

first_calm : (v : Bool) (a : Act) (l : List Act) → (if v then a ∷ l else l) ≡ [] → (v ≡ false) × (l ≡ [])
first_calm true a l h = absurd (no_first a l h)
first_calm false a l h = (refl, h)

pub calm-take : (more : List Entry) (j : ℕ) → AreCalm more → AreCalm (take j more)
calm-take more zero h = refl
calm-take [] (suc j) h = refl
calm-take (e ∷ more) (suc j) h =
    let f = first_calm (is_change e.act) e.act (changes_in (acts_of more)) h in
    ap (λ (v : Bool). if v then e.act ∷ changes_in (acts_of (take j more)) else changes_in (acts_of (take j more))) f.0 ∙ calm-take more j f.1

-- 3. Batches

Done : Option Batch → Type 0
Done o = (y : Batch) → o ≡ Some y → y.ended ≡ true

done_if : (v : Bool) (x y : Batch) → x.ended ≡ true → y.ended ≡ true → Done (if v then Some y else Some x)
unfolding Done
done_if true x y h k z e = let f : y ≡ z = cc in ap (λ (w : Batch). w.ended) (sym f) ∙ k
done_if false x y h k z e = let f : x ≡ z = cc in ap (λ (w : Batch). w.ended) (sym f) ∙ h

done_step : (t s seat : ℕ) (o : Option Batch) (act : Act) → is_change act ≡ false → Done o → Done (batch_step t s o seat act)
unfolding Done batch_step
done_step t s seat o (Begun t' s' cs) c h = absurd (false≢true (sym c))
done_step t s seat None act c h = h
done_step t s seat (Some x) (Phase t' s' p) c h = done_if ((t'.0 == t) && (s' == s)) x (record x { phase = p }) (h x refl) (h x refl)
done_step t s seat (Some x) (Wrote t' s' rows) c h = done_if ((t'.0 == t) && (s' == s)) x (record x { written = x.written ++ rows }) (h x refl) (h x refl)
done_step t s seat (Some x) (Ended t' s') c h = done_if ((t'.0 == t) && (s' == s)) x (record x { ended = true }) (h x refl) refl
done_step t s seat (Some x) act c h = h

done_from : (t s : ℕ) (o : Option Batch) (more : List Entry) → AreCalm more → Done o → Done (batch_from t s o more)
unfolding batch_from
done_from t s o [] calm h = h
done_from t s o (e ∷ more) calm h =
    let f = first_calm (is_change e.act) e.act (changes_in (acts_of more)) calm in
    done_from t s (batch_step t s o e.seat e.act) more f.1 (done_step t s e.seat o e.act f.0 h)

pub calm-done : (pre more : List Entry) → AllDone pre → AreCalm more → AllDone (pre ++ more)
unfolding Done
calm-done pre more done calm t s = subst Done (sym (batch_from-append t s None pre more)) (done_from t s (batch_of t s pre) more calm (done t s))

-- 4. Rows

pub take-past : (pre more : List Entry) (j : ℕ) → take (length pre + j) (pre ++ more) ≡ pre ++ take j more
take-past [] more j = let on : 0 + j ≡ j = omega arith in ap (λ n. take n more) on
take-past (e ∷ pre) more j = let on : suc (length pre) + j ≡ suc (length pre + j) = omega arith in ap (λ n. take n (e ∷ (pre ++ more))) on ∙ ap (λ (l : List Entry). e ∷ l) (take-past pre more j)

horizon_at_least : (b : Base) (es : List Entry) (seat calls t : ℕ) (act : Act) → Follows b es seat calls act → horizon_of b t es ≤ horizon_step t (horizon_of b t es) act
unfolding Follows
horizon_at_least b es seat calls t (Raised t' h) f = elim (cases_eq t'.0 t) [
  | inl same ↦ (let up : horizon_of b t es < h = subst (λ (u : ℕ). horizon_of b u es < h) same f.rises in let on = eq-eqb t'.0 t same in rw on (omega arith))
  | inr apart ↦ (let off = ne_eqb t'.0 t apart in rw off (omega arith))
]
horizon_at_least b es seat calls t act f = omega arith

-- a horizon never falls
pub horizon-le : (b : Base) (t : ℕ) (pre more : List Entry) → IsLegal b (pre ++ more) → horizon_of b t pre ≤ horizon_of b t (pre ++ more)
horizon-le b t pre more legal =
    legal-induct b (λ l. horizon_of b t pre ≤ horizon_of b t l)
    (λ l e _ may h. (let q = horizon-snoc b t l e in let up = horizon_at_least b l e.seat e.calls t e.act may.follows in omega arith))
    pre more legal (omega arith)

module _ (b : Base) (pre more : List Entry) (legal : IsLegal b (pre ++ more)) (done : AllDone pre) (calm : AreCalm more) where
  abbrev stood : Tables
  stood = tables_at b pre

  pub legal_at : (j : ℕ) → IsLegal b (pre ++ take j more)
  legal_at j = legal-prefix b (pre ++ take j more) (drop j more) (subst (λ (l : List Entry). IsLegal b l) (ap (λ (l : List Entry). pre ++ l) (sym (take-append-drop j more)) ∙ sym (append_assoc pre (take j more) (drop j more))) legal)

  -- the state of a row is at each later place what it is in the tables
  state_by : (l : List Entry) → IsLegal b (pre ++ l) → AreCalm l → (t : ℕ) (row : List Value) (p : ℕ) → state_of b (pre ++ l) t (key_in (shape_of b (pre ++ l) t) row) p ≡ state_in stood t (key_in (stood.shapes t) row) p
  state_by l c q t row p =
      state-done b (pre ++ l) t (key_in (shape_of b (pre ++ l) t) row) p c (calm-done pre l done q)
      ∙ ap (λ (x : Tables). state_in x t (key_in (x.shapes t) row) p) (calm-tables b pre l q)

  pub at_place : (m : ℕ) → length pre ≤ m → take m (pre ++ more) ≡ pre ++ take (m - length pre) more
  at_place m le = let on : m ≡ length pre + (m - length pre) = omega arith in ap (λ n. take n (pre ++ more)) on ∙ take-past pre more (m - length pre)

  held_state : (m t : ℕ) (row : List Value) → length pre ≤ m → state_of b (take m (pre ++ more)) t (key_in (shape_of b (take m (pre ++ more)) t) row) greatest_stamp ≡ state_in stood t (key_in (stood.shapes t) row) greatest_stamp
  held_state m t row le =
      ap (λ (l : List Entry). state_of b l t (key_in (shape_of b l t) row) greatest_stamp) (at_place m le)
      ∙ state_by (take (m - length pre) more) (legal_at (m - length pre)) (calm-take more (m - length pre) calm) t row greatest_stamp

  -- what the tables have, at each later place
  pub tables-then : (m : ℕ) → length pre ≤ m → tables_at b (take m (pre ++ more)) ≡ with_horizon stood (λ t. horizon_of b t (take m (pre ++ more)))
  tables-then m le =
      let e = at_place m le in
      ap (tables_at b) e ∙ (calm-tables b pre (take (m - length pre) more) (calm-take more (m - length pre) calm)
      ∙ ap (λ (l : List Entry). with_horizon stood (λ t. horizon_of b t l)) (sym e))

  pub horizon-then : (m t : ℕ) → length pre ≤ m → horizon_of b t pre ≤ horizon_of b t (take m (pre ++ more))
  horizon-then m t le = subst (λ (l : List Entry). horizon_of b t pre ≤ horizon_of b t l) (sym (at_place m le)) (horizon-le b t pre (take (m - length pre) more) (legal_at (m - length pre)))

  -- a current answer is exact
  pub current-is : (q : Asked) (first last : ℕ) (given : List Given) → length pre ≤ first → first ≤ last → IsCurrent b (pre ++ more) q first last given → IsExactIn stood q greatest_stamp given
  current-is q first last given from on h = record {
    held = λ g among. let i = h.held g among in (sym (held_state g.at q.table g.row (let l = i.0 in omega arith)) ∙ i.2, i.3);
    ordered = h.ordered;
    within = h.within;
    whole = λ row is met. h.whole row (record { all = λ n l _. held_state n q.table row (omega arith) ∙ is }) met;
  }

  pub exact-is : (q : Asked) (p : ℕ) (given : List Given) → IsExact b (pre ++ more) q p given → IsExactIn stood q p given
  exact-is q p given h = record {
    held = λ g among. let i = h.held g among in (sym (state_by more legal calm q.table g.row p) ∙ i.0, i.1);
    ordered = h.ordered;
    within = h.within;
    whole = λ row is met. h.whole row (state_by more legal calm q.table row p ∙ is) met;
  }
