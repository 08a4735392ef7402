-- Stamps by the clock, and horizons by the lookback, from entry to entry.
use Rattle.std.proofs.Common.{◌≡◌, ◌≢◌, ◌≤◌, ◌+◌, ℕ, Option, None, Some, List, [], ◌∷◌, ◌++◌, refl, sym, ◌∙◌, ap, subst, arith, append_assoc, append-nil}
use Rattle.std.specs.Prelude.{IsTrue, ◌-◌}
use Rattle.px_catalog.specs.declared.fault.CatalogFault.{CatalogFault}
use Rattle.px_catalog.specs.declared.fault.CatalogFault.TheVariants.{Full, Memory, WriteFault}
use Rattle.px_outside.specs.declared.clock.Clock.{Ghosts}
use Rattle.px_trail.specs.Trail.{Base, last_of}
use Rattle.px_trail.specs.declared.entry.Entry.{Entry}
use Rattle.px_trail.specs.declared.entry.Act.{Act}
use Rattle.px_trail.specs.declared.entry.Act.TheVariants.{Raised, Shut}
use Rattle.px_calls.specs.declared.fault.StepFault.{StepFault}
use Rattle.px_turns.specs.Turns.{drawn_stamp}
use Rattle.px_values.specs.declared.name.TableId.{TableId}
use Rattle.px_server.specs.inner.Entering.{IsUnwritten}
use Rattle.px_server.specs.Stamps.{AreBack, AreStamped, Draw, IsBack, IsByClock, IsStamped, draw, draw_of}

module _ (times : ℕ → ℕ) (base : Base) where
  act_le : (last : ℕ → ℕ) (from to : ℕ) (d : Option Draw) (rest : ℕ → Type 0) → ((n : ℕ) → rest n → n ≤ to) → IsStamped times last from to d rest → from ≤ to
  act_le last from to None rest up is = up from is
  act_le last from to (Some d) rest up is = (let low = is.1 in let high = is.2 in omega (arith, low, high))

  pub stamped_le : (before : List Entry) (from to : ℕ) (es : List Entry) → AreStamped times base before from to es → from ≤ to
  unfolding AreStamped
  stamped_le before from to [] is = is
  stamped_le before from to (e ∷ es) is =
      act_le (λ t. last_of base t before) from to (draw_of e.act) (λ n. AreStamped times base (before ++ e ∷ []) n to es) (λ n rest. stamped_le (before ++ e ∷ []) n to es rest) is

  act_more : (last : ℕ → ℕ) (from to to' : ℕ) (d : Option Draw) (rest rest' : ℕ → Type 0) → to ≤ to' → ((n : ℕ) → rest n → rest' n) → IsStamped times last from to d rest → IsStamped times last from to' d rest'
  act_more last from to to' None rest rest' high on is = on from is
  act_more last from to to' (Some d) rest rest' high on is = (is.0, is.1, (let h = is.2 in omega (arith, h, high)), is.3, on (is.0 + 1) is.4)

  -- more is told behind them
  pub stamped_join : (before : List Entry) (from to to' : ℕ) (es more : List Entry) → AreStamped times base before from to es → to ≤ to' → ((n : ℕ) → n ≤ to → AreStamped times base (before ++ es) n to' more)
      → AreStamped times base before from to' (es ++ more)
  unfolding AreStamped
  stamped_join before from to to' [] more is up rest = subst (λ (l : List Entry). AreStamped times base l from to' more) (append-nil before) (rest from is)
  stamped_join before from to to' (e ∷ es) more is up rest =
      act_more (λ t. last_of base t before) from to to' (draw_of e.act) (λ n. AreStamped times base (before ++ e ∷ []) n to es) (λ n. AreStamped times base (before ++ e ∷ []) n to' (es ++ more)) up
      (λ n these. stamped_join (before ++ e ∷ []) n to to' es more these up (λ m le. subst (λ (l : List Entry). AreStamped times base l m to' more) (sym (append_assoc before (e ∷ []) es)) (rest m le))) is

  stamped_none : (before : List Entry) (from to : ℕ) → from ≤ to → AreStamped times base before from to []
  unfolding AreStamped
  stamped_none before from to le = le

  -- a number was used up
  pub stamped_wider : (before : List Entry) (from to to' : ℕ) (es : List Entry) → to ≤ to' → AreStamped times base before from to es → AreStamped times base before from to' es
  stamped_wider before from to to' es up is =
      subst (λ (l : List Entry). AreStamped times base before from to' l) (append-nil es) (stamped_join before from to to' es [] is up (λ n le. stamped_none (before ++ es) n to' (omega (arith, le, up))))

  one_still : (before : List Entry) (from to : ℕ) (e : Entry) → draw_of e.act ≡ None → from ≤ to → AreStamped times base before from to (e ∷ [])
  unfolding AreStamped
  one_still before from to e none le = subst (λ (d : Option Draw). IsStamped times (λ t. last_of base t before) from to d (λ n. n ≤ to)) (sym none) le

  one_drawn : (before : List Entry) (from to : ℕ) (e : Entry) (d : Draw) → draw_of e.act ≡ Some d → from ≤ to → drawn_stamp (last_of base d.table before) (times to) ≡ Some d.stamp → AreStamped times base before from (to + 1) (e ∷ [])
  unfolding AreStamped
  one_drawn before from to e d some le is =
      subst (λ (x : Option Draw). IsStamped times (λ t. last_of base t before) from (to + 1) x (λ n. n ≤ to + 1)) (sym some) (to, le, omega arith, is, omega arith)

  -- an entry more, which draws no stamp
  pub stamped_more : (to : ℕ) (es : List Entry) (e : Entry) → draw_of e.act ≡ None → AreStamped times base [] 0 to es → AreStamped times base [] 0 to (es ++ e ∷ [])
  stamped_more to es e none is = stamped_join [] 0 to to es (e ∷ []) is (omega arith) (λ n le. one_still es n to e none le)

  -- one that draws a stamp by the number at that place
  pub stamped_drawn : (to : ℕ) (es : List Entry) (e : Entry) (d : Draw) → draw_of e.act ≡ Some d → drawn_stamp (last_of base d.table es) (times to) ≡ Some d.stamp → AreStamped times base [] 0 to es → AreStamped times base [] 0 (to + 1) (es ++ e ∷ [])
  stamped_drawn to es e d some by is = stamped_join [] 0 to (to + 1) es (e ∷ []) is (omega arith) (λ n le. one_drawn es n to e d some le by)

-- ---- horizons

-- a stamp that is drawn, or a horizon
abbrev pub marks_of : Act → Option Draw
marks_of (Raised t h) = Some (draw t.0 h)
marks_of act = draw_of act

no_draw : (act : Act) → marks_of act ≡ None → draw_of act ≡ None
no_draw (Raised t h) none = refl
no_draw act none = none

no_horizon : (lookback : ℕ) (last : ℕ → ℕ) (act : Act) → marks_of act ≡ None → IsBack lookback last act
no_horizon lookback last (Raised t h) none = absurd (let z : Some (draw t.0 h) ≡ None = none in cc)
no_horizon lookback last act none = tt

drawn_back : (lookback : ℕ) (last : ℕ → ℕ) (act : Act) (d : Draw) → draw_of act ≡ Some d → IsBack lookback last act
drawn_back lookback last (Raised t h) d some = absurd (let z : None ≡ Some d = some in cc)
drawn_back lookback last act d some = tt

-- an entry more
pub back_more : (lookback : ℕ) (base : Base) (before es : List Entry) (e : Entry) → AreBack lookback base before es → IsBack lookback (λ t. last_of base t (before ++ es)) e.act → AreBack lookback base before (es ++ e ∷ [])
unfolding AreBack
back_more lookback base before [] e are one = (subst (λ (l : List Entry). IsBack lookback (λ t. last_of base t l) e.act) (append-nil before) one, tt)
back_more lookback base before (x ∷ es) e are one = (are.0, back_more lookback base (before ++ x ∷ []) es e are.1 (subst (λ (l : List Entry). IsBack lookback (λ t. last_of base t l) e.act) (sym (append_assoc before (x ∷ []) es)) one))

-- ---- of a server

module _ {C : Type 0} (c : Ghosts C) (times : ℕ → ℕ) (base : Base) (asked lookback : ℕ) where
  -- at the beginning
  pub first_by_clock : (clock : C) → (IsTrue c.tells → (m : ℕ) → c.times clock m ≡ times m) → lookback ≡ asked → IsByClock c times base asked lookback clock []
  unfolding AreStamped AreBack
  first_by_clock clock same as_asked = record { stamped = λ tells. (0, omega arith, λ m. same tells m ∙ ap times (omega arith)); back = tt; as_asked = as_asked }

  module _ (clock : C) (es : List Entry) (is : IsByClock c times base asked lookback clock es) where
    -- where no entry came
    pub same_by_clock : (es' : List Entry) → es' ≡ es → IsByClock c times base asked lookback clock es'
    same_by_clock es' same = subst (λ (l : List Entry). IsByClock c times base asked lookback clock l) (sym same) is

    back_then : (es' : List Entry) (e : Entry) → es' ≡ es ++ e ∷ [] → IsBack asked (λ t. last_of base t es) e.act → AreBack asked base [] es'
    back_then es' e entries one = subst (λ (l : List Entry). AreBack asked base [] l) (sym entries) (back_more asked base [] es e is.back one)

    -- an entry came that draws no stamp
    unmarked : (es' : List Entry) (e : Entry) → es' ≡ es ++ e ∷ [] → draw_of e.act ≡ None → IsBack asked (λ t. last_of base t es) e.act → IsByClock c times base asked lookback clock es'
    unmarked es' e entries none one = record {
      stamped = λ tells. (let s = is.stamped tells in (s.0, subst (λ (l : List Entry). AreStamped times base [] 0 s.0 l) (sym entries) (stamped_more times base s.0 es e none s.1), s.2));
      back = back_then es' e entries one;
      as_asked = is.as_asked;
    }

    -- and tells of no horizon
    pub more_by_clock : (es' : List Entry) (e : Entry) → es' ≡ es ++ e ∷ [] → marks_of e.act ≡ None → IsByClock c times base asked lookback clock es'
    more_by_clock es' e entries none = unmarked es' e entries (no_draw e.act none) (no_horizon asked (λ t. last_of base t es) e.act none)

    -- or that one rose, within the lookback
    pub raised_by_clock : (es' : List Entry) (seat calls : ℕ) (t : TableId) (h : ℕ) → es' ≡ es ++ record { seat = seat; calls = calls; act = Raised t h } ∷ [] → h ≤ last_of base t.0 es - lookback → IsByClock c times base asked lookback clock es'
    raised_by_clock es' seat calls t h entries within = unmarked es' (record { seat = seat; calls = calls; act = Raised t h }) entries refl (let a = is.as_asked in omega (arith, within, a))

    -- where a definition wasn't written: no entry came, or the one that closes the server
    pub unwritten_by_clock : (fault : CatalogFault) (es' : List Entry) (e : Entry) → (fault ≢ WriteFault → es' ≡ es) → (fault ≡ WriteFault → es' ≡ es ++ e ∷ []) → marks_of e.act ≡ None → IsByClock c times base asked lookback clock es'
    unwritten_by_clock Full es' e kept shut none = same_by_clock es' (kept (λ is. absurd cc))
    unwritten_by_clock Memory es' e kept shut none = same_by_clock es' (kept (λ is. absurd cc))
    unwritten_by_clock WriteFault es' e kept shut none = more_by_clock es' e (shut refl) none

    -- the same behind a trail with more room
    pub unwritten_entry_by_clock : (mid : List Entry) → mid ≡ es → (fault : CatalogFault) (e : Entry) (es' : List Entry) (late late' : Option Entry) (closed closed' : Option ℕ) (f : StepFault) → IsUnwritten fault e mid es' late late' closed closed' f → IsByClock c times base asked lookback clock es'
    unwritten_entry_by_clock mid same fault e es' late late' closed closed' f u =
        let shut : Entry = record { seat = e.seat; calls = e.calls; act = Shut e.calls } in
        unwritten_by_clock fault es' shut (λ n. (u.kept n).0 ∙ same) (λ z. (u.shut z).0 ∙ ap (λ (xs : List Entry). xs ++ shut ∷ []) same) refl

    module _ (clock' : C) (rest : IsTrue c.tells → (m : ℕ) → c.times clock' m ≡ c.times clock (m + 1)) where
      -- the clock has told a number
      pub read_by_clock : IsByClock c times base asked lookback clock' es
      read_by_clock = record {
        stamped = λ tells. (let s = is.stamped tells in (s.0 + 1, stamped_wider times base [] 0 s.0 (s.0 + 1) es (omega arith) s.1, λ m. rest tells m ∙ (s.2 (m + 1) ∙ ap times (omega arith))));
        back = is.back;
        as_asked = is.as_asked;
      }

      -- and by that a stamp was drawn
      pub drawn_by_clock : (es' : List Entry) (e : Entry) (d : Draw) → es' ≡ es ++ e ∷ [] → draw_of e.act ≡ Some d → (IsTrue c.tells → drawn_stamp (last_of base d.table es) (c.times clock 0) ≡ Some d.stamp) → IsByClock c times base asked lookback clock' es'
      drawn_by_clock es' e d entries some by = record {
        stamped = λ tells.
            let s = is.stamped tells in
            let at : drawn_stamp (last_of base d.table es) (times s.0) ≡ Some d.stamp = ap (λ (n : ℕ). drawn_stamp (last_of base d.table es) n) (sym (s.2 0 ∙ ap times (omega arith))) ∙ by tells in (
              s.0 + 1,
              subst (λ (l : List Entry). AreStamped times base [] 0 (s.0 + 1) l) (sym entries) (stamped_drawn times base s.0 es e d some at s.1),
              λ m. rest tells m ∙ (s.2 (m + 1) ∙ ap times (omega arith)),
            );
        back = back_then es' e entries (drawn_back asked (λ t. last_of base t es) e.act d some);
        as_asked = is.as_asked;
      }
