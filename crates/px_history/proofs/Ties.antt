-- The history of a row goes on as the trail does.
use Rattle.std.proofs.Common.{◌≡◌, ℕ, zero, suc, ◌<◌, ◌≤◌, ◌-◌, Bool, true, false, cond, not, ◌&&◌, ◌||◌, ◌==◌, if◌then◌else◌, nat_le, filter, Option, Some, None, List, [], ◌∷◌, ◌++◌, refl, ap, sym, ◌∙◌, subst, inl, inr, arith}
use Rattle.std.specs.List.{AllByRecursion}
use Rattle.std.proofs.lemmas.Bool.{cases_Bool, cases_eq, cases_lt, cond-true, cond-false, ne_eqb, false≢true}
use Rattle.std.proofs.lemmas.Bool.Decides.{nat_tests}
use Rattle.std.proofs.lemmas.List.{append-nil}
use Rattle.std.proofs.lemmas.List.Elements.{filter-append}
use Rattle.px_values.specs.declared.row.Value.{Value}
use Rattle.px_values.specs.declared.change.Change.{Change}
use Rattle.px_values.specs.declared.change.What.{What}
use Rattle.px_values.specs.declared.name.TableId.{TableId}
use Rattle.px_values.specs.States.{RowState, Shape, apply}
use Rattle.px_trail.specs.declared.entry.Act.{Act}
use Rattle.px_trail.specs.declared.entry.Act.TheVariants.{Begun, Wrote, Ended, Phase}
use Rattle.px_trail.specs.declared.entry.Entry.{Entry}
use Rattle.px_trail.specs.Batches.{Batch, IsPending, batch_from, batch_of, batch_step, begun_batch, change_of, has, rows_of, unwritten}
use Rattle.px_trail.specs.Trail.{Base, IsBase, last_of}
use Rattle.px_trail.specs.Legal.{IsWritable}
use Rattle.px_trail.specs.States.{Dated, IsRising, applied, begun, begun_by, dated, is_row_written, is_written_in, written}
use Rattle.px_trail.proofs.Growth.{batch_of-snoc, begun-snoc}
use Rattle.px_trail.proofs.Batches.{batch-none, last_from-le}
use Rattle.px_trail.proofs.States.{applied-append}
use Rattle.px_world.specs.World.{Fate, Unbegun, Undecided, Written, is_written as counts, is_expected, is_begun, is_undecided}
use Rattle.px_world.proofs.Told.{is_written-is}
use Rattle.px_world.proofs.Steps.{set_stamp-same, set_stamp-other, set_stamp-below}
use Rattle.px_history.specs.History.{History, begin_change, write_change, end_change, written_state, expected_state}
use Rattle.px_history.specs.Rows.{base_history, begun_as, history_step, RowBatch, row_as, row_in, fate_by, ended_by, state_by, IsListed, Tied}
use Rattle.px_history.proofs.UpTo.{begun-up_to}
use Rattle.px_history.proofs.Changes.{below_last, both_same, change-has, cond_fate, expected_written, filter_more, listed_end, listed_left, number_same, state_at-alike, written-counted, written-down, written-skipped, written-zero}
use Rattle.px_trail.proofs.Orders.{all_push, and_false, filter-has, has-append, has-change, has-filter, rising_push}

-- a batch all of whose rows are written
pub record CanEnd (es : List Entry) (t s : ℕ) : Type 0 where
  pub batch : Batch
  pub is : batch_of t s es ≡ Some batch
  pub all : unwritten batch ≡ []

module _ (sh : Shape) (b : Base) (tid : TableId) (r : List Value) (sound : IsBase b tid.0 r) where
  abbrev t : ℕ
  t = tid.0

  pub base_states : (p : ℕ) → written_state (base_history b t r) p ≡ b.state t r p
  base_states zero = written-zero (base_history b t r)
  base_states (suc p) = elim (cases_Bool (b.changed t r (suc p))) [
    | inl e ↦ written-counted (base_history b t r) p (cond_fate (b.changed t r (suc p)) ∙ e) ∙ (cond-true (b.changed t r (suc p)) (b.state t r (suc p)) None e)
    | inr e ↦ written-skipped (base_history b t r) p (cond_fate (b.changed t r (suc p)) ∙ e) ∙ (base_states p ∙ sym (sound.same p e))
  ]

  fate_ended : (v : Bool) → v ≡ cond v true false
  fate_ended true = refl
  fate_ended false = refl

  expected_same : (v : Bool) → is_expected (cond v Written Unbegun) ≡ counts (cond v Written Unbegun)
  expected_same true = refl
  expected_same false = refl

  begun_changed : (v : Bool) → is_begun (cond v Written Unbegun) ≡ true → v ≡ true
  begun_changed true h = refl
  begun_changed false h = absurd (false≢true h)

  decided_changed : (v : Bool) → is_undecided (cond v Written Unbegun) ≡ false
  decided_changed true = refl
  decided_changed false = refl

  pub base_old : (p : ℕ) → (base_history b t r).old (suc p) ≡ cond (b.changed t r (suc p)) (b.state t r p) None
  base_old p = let q : suc p - 1 ≡ p = omega arith in ap (λ (u : ℕ). cond (b.changed t r (suc p)) (b.state t r u) None) q

  pub tied_base : Tied sh b [] t r (base_history b t r)
  unfolding begun applied IsListed batch_from
  tied_base = record {
    fates = λ s. refl;
    fresh = λ s x h. cc;
    writes = λ s. refl;
    ends = λ s. fate_ended (b.changed t r s);
    states = base_states;
    chained = λ p h.
        (let e = begun_changed (b.changed t r (suc p)) h in
        base_old p ∙ cond-true (b.changed t r (suc p)) (b.state t r p) None e ∙ (sym (base_states p) ∙ sym (expected_written (base_history b t r) p (λ s l. decided_changed (b.changed t r s)))));
    news = λ s x h. cc;
    rising = tt;
    listed = λ s x h. cc;
    in_order = λ s u h l. decided_changed (b.changed t r s);
  }

  module _ (es : List Entry) (h : History RowState) (tie : Tied sh b es t r h) where
    -- an entry that tells nothing new of the row
    pub tied_same : (es' : List Entry) → ((s : ℕ) → row_in (batch_of t s es') r ≡ row_in (batch_of t s es) r) → ((s : ℕ) → is_row_written es' t r s ≡ is_row_written es t r s) → begun t r es' ≡ begun t r es → Tied sh b es' t r h
    tied_same es' rows writes begins = record {
      fates = λ s. tie.fates s ∙ ap (λ o. cond (b.changed t r s) Written (fate_by o)) (sym (rows s));
      fresh = λ s x q. tie.fresh s x (sym (rows s) ∙ q);
      writes = λ s. writes s ∙ (tie.writes s ∙ ap (λ o. counts (fate_by o)) (sym (rows s)));
      ends = λ s. tie.ends s ∙ ap (λ o. cond (b.changed t r s) true (ended_by o)) (sym (rows s));
      states = λ p. tie.states p ∙ ap (λ l. applied sh r p (b.state t r p) l) (sym ((λ i. filter (λ d. writes d.stamp i) (begun t r es')) ∙ ap (λ l. filter (λ d. is_row_written es t r d.stamp) l) begins));
      chained = tie.chained;
      news = λ s x q. tie.news s x (sym (rows s) ∙ q);
      rising = subst IsRising (sym begins) tie.rising;
      listed = λ s x q. subst (IsListed (record { stamp = s; what = x.what })) (sym begins) (tie.listed s x (sym (rows s) ∙ q));
      in_order = tie.in_order;
    }

    -- nothing was begun above the last stamp
    pub above : (u : ℕ) → last_of b t es < u → h.fate u ≡ Unbegun
    above u l =
        let n : batch_of t u es ≡ None = batch-none b t u es l in
        let c : b.changed t r u ≡ false = elim (cases_Bool (b.changed t r u)) [ inl e ↦ absurd (let k = sound.within u e in let m = last_from-le t (b.last t) es in omega arith) | inr e ↦ e ] in
        tie.fates u ∙ (cond-false _ _ _ c ∙ ap (λ (o : Option Batch). fate_by (row_in o r)) n)

    pub begun_below : (u : ℕ) → (h.fate u ≡ Unbegun → ⊥) → u ≤ last_of b t es
    begun_below u n = elim (cases_lt (last_of b t es) u) [ inl l ↦ absurd (n (above u l)) | inr l ↦ omega arith ]

    -- ---- a batch begins

    module _ (e : Entry) (s : ℕ) (cs : List Change) (is : e.act ≡ Begun tid s cs) (new : last_of b t es < s) where
      abbrev after : List Entry
      after = es ++ e ∷ []

      pub none_here : batch_of t s es ≡ None
      none_here = batch-none b t s es new

      pub batch_here : batch_of t s after ≡ Some (begun_batch e.seat cs)
      unfolding batch_step
      batch_here =
          batch_of-snoc t s es e
          ∙ (ap (λ (a : Act). batch_step t s (batch_of t s es) e.seat a) is
          ∙ (ap (λ (o : Option Batch). batch_step t s o e.seat (Begun tid s cs)) none_here
          ∙ ap (λ (v : Bool). if v then Some (begun_batch e.seat cs) else None) (both_same t s)))

      step_there : (u : ℕ) → (s ≡ u → ⊥) → (o : Option Batch) → batch_step t u o e.seat (Begun tid s cs) ≡ o
      unfolding batch_step
      step_there u n None = ap (λ (v : Bool). if v then Some (begun_batch e.seat cs) else None) (and_false (t == t) (s == u) (ne_eqb s u n))
      step_there u n (Some x) = refl

      pub batch_there : (u : ℕ) → (s ≡ u → ⊥) → batch_of t u after ≡ batch_of t u es
      batch_there u n = batch_of-snoc t u es e ∙ (ap (λ (a : Act). batch_step t u (batch_of t u es) e.seat a) is ∙ step_there u n (batch_of t u es))

      pub begins_with : begun t r after ≡ begun t r es ++ dated s (change_of cs r)
      unfolding begun_by
      begins_with = begun-snoc t r es e ∙ ap (λ l. begun t r es ++ l) (ap (λ (a : Act). begun_by t r a) is ∙ ap (λ (v : Bool). if v then dated s (change_of cs r) else []) (number_same t))

      writes_same : (u : ℕ) → is_row_written after t r u ≡ is_row_written es t r u
      unfolding has
      writes_same u = elim (cases_eq s u) [
        | inl q ↦ subst (λ (v : ℕ). is_row_written after t r v ≡ is_row_written es t r v) q (ap (λ (o : Option Batch). is_written_in o r) batch_here ∙ sym (ap (λ (o : Option Batch). is_written_in o r) none_here))
        | inr q ↦ ap (λ (o : Option Batch). is_written_in o r) (batch_there u q)
      ]

      pub step_is : history_step sh t r h e.act ≡ begun_as sh r s (change_of cs r) h
      unfolding history_step
      step_is = ap (history_step sh t r h) is ∙ ap (λ (v : Bool). if v then begun_as sh r s (change_of cs r) h else h) (number_same t)

      row_here : row_in (batch_of t s after) r ≡ row_as (change_of cs r) false false
      unfolding has
      row_here = ap (λ (o : Option Batch). row_in o r) batch_here

      -- the batch has no change of the row
      pub tied_unbegun : change_of cs r ≡ None → Tied sh b after t r h
      tied_unbegun n = tied_same after
          (λ u. elim (cases_eq s u) [
            | inl q ↦ subst (λ (v : ℕ). row_in (batch_of t v after) r ≡ row_in (batch_of t v es) r) q (row_here ∙ (ap (λ o. row_as o false false) n ∙ sym (ap (λ (o : Option Batch). row_in o r) none_here)))
            | inr q ↦ ap (λ (o : Option Batch). row_in o r) (batch_there u q)
          ])
          writes_same
          (begins_with ∙ (ap (λ o. begun t r es ++ dated s o) n ∙ append-nil (begun t r es)))

      unchanged_here : b.changed t r s ≡ false
      unchanged_here = elim (cases_Bool (b.changed t r s)) [ inl k ↦ absurd (let i = sound.within s k in let j = last_from-le t (b.last t) es in omega arith) | inr k ↦ k ]

      -- it has one
      module _ (w : What) (has_change : change_of cs r ≡ Some w) where
        abbrev next : History RowState
        next = begin_change (apply sh r) s w h

        unbegun : h.fate s ≡ Unbegun
        unbegun = above s new

        fate_next : (u : ℕ) → next.fate u ≡ cond (b.changed t r u) Written (fate_by (row_in (batch_of t u after) r))
        fate_next u = elim (cases_eq s u) [
          | inl q ↦ subst (λ (v : ℕ). next.fate v ≡ cond (b.changed t r v) Written (fate_by (row_in (batch_of t v after) r))) q
              (set_stamp-same s Undecided h.fate ∙ sym (cond-false _ _ _ unchanged_here ∙ ap fate_by (row_here ∙ ap (λ o. row_as o false false) has_change)))
          | inr q ↦ set_stamp-other s Undecided h.fate u q ∙ (tie.fates u ∙ ap (λ (o : Option Batch). cond (b.changed t r u) Written (fate_by (row_in o r))) (sym (batch_there u q)))
        ]

        ended_next : (u : ℕ) → next.is_ended u ≡ cond (b.changed t r u) true (ended_by (row_in (batch_of t u after) r))
        ended_next u = elim (cases_eq s u) [
          | inl q ↦ subst (λ (v : ℕ). next.is_ended v ≡ cond (b.changed t r v) true (ended_by (row_in (batch_of t v after) r))) q
              (set_stamp-same s false h.is_ended ∙ sym (cond-false _ _ _ unchanged_here ∙ ap ended_by (row_here ∙ ap (λ o. row_as o false false) has_change)))
          | inr q ↦ set_stamp-other s false h.is_ended u q ∙ (tie.ends u ∙ ap (λ (o : Option Batch). cond (b.changed t r u) true (ended_by (row_in o r))) (sym (batch_there u q)))
        ]

        pub counts_next : (u : ℕ) → counts (next.fate u) ≡ counts (h.fate u)
        counts_next u = elim (cases_eq s u) [
          | inl q ↦ subst (λ (v : ℕ). counts (next.fate v) ≡ counts (h.fate v)) q (ap counts (set_stamp-same s Undecided h.fate) ∙ sym (ap counts unbegun))
          | inr q ↦ ap counts (set_stamp-other s Undecided h.fate u q)
        ]

        not_here : (u : ℕ) → counts (h.fate u) ≡ true → s ≡ u → ⊥
        not_here u c q = false≢true (sym (ap counts unbegun) ∙ (ap (λ (v : ℕ). counts (h.fate v)) q ∙ c))

        pub states_next : (p : ℕ) → written_state next p ≡ written_state h p
        states_next p = state_at-alike h.base (λ u. counts (h.fate u)) (λ u. counts (next.fate u)) h.new next.new p (λ u l. counts_next u) (λ u l c. set_stamp-other s (apply sh r (expected_state h (s - 1)) w) h.new u (not_here u c))

        expected_next : (p : ℕ) → p < s → expected_state next p ≡ expected_state h p
        expected_next p l = state_at-alike h.base (λ u. is_expected (h.fate u)) (λ u. is_expected (next.fate u)) h.new next.new p (λ u m. ap is_expected (set_stamp-below s Undecided h.fate u (omega arith))) (λ u m c. set_stamp-below s (apply sh r (expected_state h (s - 1)) w) h.new u (omega arith))

        written_none : (u : ℕ) → s ≡ u → is_row_written after t r u ≡ false
        unfolding has
        written_none u q = subst (λ (v : ℕ). is_row_written after t r v ≡ false) q (ap (λ (o : Option Batch). is_written_in o r) batch_here)

        abbrev this : Dated
        this = record { stamp = s; what = w }

        ups : AllByRecursion (λ x. x.stamp < s) (begun t r es)
        ups = below_last (last_of b t es) this (begun t r es) new (begun-up_to t (b.last t) r es)

        some_same : {x y : RowBatch} → Some x ≡ Some y → x ≡ y
        some_same q = cc

        trail_states : (p : ℕ) → state_by sh b after t r p ≡ state_by sh b es t r p
        trail_states p = ap (λ l. applied sh r p (b.state t r p) l)
            ((λ i. filter (λ d. writes_same d.stamp i) (begun t r after))
            ∙ (ap (λ l. filter (λ d. is_row_written es t r d.stamp) l) (begins_with ∙ ap (λ o. begun t r es ++ dated s o) has_change)
            ∙ (filter-append (λ d. is_row_written es t r d.stamp) (begun t r es) (record { stamp = s; what = w } ∷ [])
            ∙ (ap (λ (v : Bool). filter (λ d. is_row_written es t r d.stamp) (begun t r es) ++ (if v then record { stamp = s; what = w } ∷ [] else [])) (sym (writes_same s) ∙ written_none s refl)
            ∙ append-nil (written es t r)))))

        begun_next : begun t r after ≡ begun t r es ++ record { stamp = s; what = w } ∷ []
        begun_next = begins_with ∙ ap (λ o. begun t r es ++ dated s o) has_change

        pub tied_begun : Tied sh b after t r next
        tied_begun = record {
          fates = fate_next;
          fresh = λ u x q. elim (cases_eq s u) [
            | inl k ↦ ((omega arith), subst (λ (v : ℕ). b.changed t r v ≡ false) k unchanged_here)
            | inr k ↦ tie.fresh u x (sym (ap (λ (o : Option Batch). row_in o r) (batch_there u k)) ∙ q)
          ];
          writes = λ u. elim (cases_eq s u) [
            | inl k ↦ subst (λ (v : ℕ). is_row_written after t r v ≡ counts (fate_by (row_in (batch_of t v after) r))) k (written_none s refl ∙ sym (ap (λ o. counts (fate_by o)) (row_here ∙ ap (λ o. row_as o false false) has_change)))
            | inr k ↦ writes_same u ∙ (tie.writes u ∙ ap (λ (o : Option Batch). counts (fate_by (row_in o r))) (sym (batch_there u k)))
          ];
          ends = ended_next;
          states = λ p. states_next p ∙ (tie.states p ∙ sym (trail_states p));
          chained = λ p c. elim (cases_eq s (suc p)) [
            | inl q ↦
                (let m : s - 1 ≡ p = omega arith in
                subst (λ (v : ℕ). next.old v ≡ expected_state next p) q (set_stamp-same s (expected_state h (s - 1)) h.old ∙ (ap (expected_state h) m ∙ sym (expected_next p (omega arith)))))
            | inr q ↦
                (let c0 : is_begun (h.fate (suc p)) ≡ true = ap is_begun (sym (set_stamp-other s Undecided h.fate (suc p) q)) ∙ c in
                let l = begun_below (suc p) (λ u. false≢true (sym (ap is_begun u) ∙ c0)) in
                set_stamp-other s (expected_state h (s - 1)) h.old (suc p) q ∙ (tie.chained p c0 ∙ sym (expected_next p (omega arith))))
          ];
          news = λ u x q. elim (cases_eq s u) [
            | inl k ↦
                (let v : Some (record { what = w; written = false; ended = false }) ≡ Some x = sym (ap (λ (v : ℕ). row_in (batch_of t v after) r) (sym k) ∙ (row_here ∙ ap (λ o. row_as o false false) has_change)) ∙ q in
                let z : record { what = w; written = false; ended = false } ≡ x = some_same v in
                subst (λ (v : ℕ). next.new v ≡ apply sh r (next.old v) x.what) k
                (set_stamp-same s (apply sh r (expected_state h (s - 1)) w) h.new ∙ (ap (λ (y : RowBatch). apply sh r (expected_state h (s - 1)) y.what) z ∙ ap (λ o. apply sh r o x.what) (sym (set_stamp-same s (expected_state h (s - 1)) h.old)))))
            | inr k ↦
                set_stamp-other s (apply sh r (expected_state h (s - 1)) w) h.new u k
                ∙ (tie.news u x (sym (ap (λ (o : Option Batch). row_in o r) (batch_there u k)) ∙ q)
                ∙ ap (λ o. apply sh r o x.what) (sym (set_stamp-other s (expected_state h (s - 1)) h.old u k)))
          ];
          rising = subst IsRising (sym begun_next) (rising_push (begun t r es) this tie.rising ups);
          listed = λ u x q. subst (IsListed (record { stamp = u; what = x.what })) (sym begun_next) (elim (cases_eq s u) [
            | inl k ↦
                (let v : Some (record { what = w; written = false; ended = false }) ≡ Some x = sym (ap (λ (v : ℕ). row_in (batch_of t v after) r) (sym k) ∙ (row_here ∙ ap (λ o. row_as o false false) has_change)) ∙ q in
                let z : record { what = w; written = false; ended = false } ≡ x = some_same v in
                subst (λ (y : Dated). IsListed y (begun t r es ++ this ∷ [])) (λ i. record { stamp = k i; what = (z i).what }) (listed_end this (begun t r es) ups))
            | inr k ↦ listed_left (record { stamp = u; what = x.what }) (begun t r es) (this ∷ []) (tie.listed u x (sym (ap (λ (o : Option Batch). row_in o r) (batch_there u k)) ∙ q))
          ]);
          in_order = λ v u k l.
              (let c : counts (h.fate u) ≡ true = sym (counts_next u) ∙ ap counts k in
              let m : u ≤ last_of b t es = begun_below u (λ z. false≢true (sym (ap counts z) ∙ c)) in
              let k0 : h.fate u ≡ Written = sym (set_stamp-other s Undecided h.fate u (not_here u c)) ∙ k in
              ap is_undecided (set_stamp-below s Undecided h.fate v (omega arith)) ∙ tie.in_order v u k0 l);
        }

      -- what is true of all begun changes stays true where it is of this one
      pub begun_all : (P : Dated → Type 0) → AllByRecursion P (begun t r es) → ((w : What) → change_of cs r ≡ Some w → P (record { stamp = s; what = w })) → AllByRecursion P (begun t r after)
      begun_all P a f = subst (AllByRecursion P) (sym begins_with) (by (change_of cs r) f)
        where
          by : (o : Option What) → ((w : What) → o ≡ Some w → P (record { stamp = s; what = w })) → AllByRecursion P (begun t r es ++ dated s o)
          by None g = subst (AllByRecursion P) (sym (append-nil (begun t r es))) a
          by (Some w) g = all_push P (begun t r es) (record { stamp = s; what = w }) a (g w refl)

    -- ---- rows of a batch are written

    module _ (e : Entry) (s : ℕ) (rows : List (List Value)) (is : e.act ≡ Wrote tid s rows) (f : IsWritable es e.seat t s rows) where
      abbrev afterwards : List Entry
      afterwards = es ++ e ∷ []

      abbrev batch : Batch
      batch = f.batch

      abbrev batch_next : Batch
      batch_next = record batch { written = batch.written ++ rows }

      pub batch_wrote : batch_of t s afterwards ≡ Some batch_next
      unfolding batch_step
      batch_wrote =
          batch_of-snoc t s es e
          ∙ (ap (λ (a : Act). batch_step t s (batch_of t s es) e.seat a) is
          ∙ (ap (λ (o : Option Batch). batch_step t s o e.seat (Wrote tid s rows)) f.is
          ∙ ap (λ (v : Bool). if v then Some batch_next else Some batch) (both_same t s)))

      step_else : (u : ℕ) → (s ≡ u → ⊥) → (o : Option Batch) → batch_step t u o e.seat (Wrote tid s rows) ≡ o
      unfolding batch_step
      step_else u n None = refl
      step_else u n (Some x) = ap (λ (v : Bool). if v then Some (record x { written = x.written ++ rows }) else Some x) (and_false (t == t) (s == u) (ne_eqb s u n))

      pub batch_else : (u : ℕ) → (s ≡ u → ⊥) → batch_of t u afterwards ≡ batch_of t u es
      batch_else u n = batch_of-snoc t u es e ∙ (ap (λ (a : Act). batch_step t u (batch_of t u es) e.seat a) is ∙ step_else u n (batch_of t u es))

      pub begins_none : begun t r afterwards ≡ begun t r es
      unfolding begun_by
      begins_none = begun-snoc t r es e ∙ (ap (λ (a : Act). begun t r es ++ begun_by t r a) is ∙ append-nil (begun t r es))

      row_wrote : row_in (batch_of t s afterwards) r ≡ row_as (change_of batch.changes r) (has batch.written r || has rows r) batch.ended
      row_wrote = ap (λ (o : Option Batch). row_in o r) batch_wrote ∙ ap (λ v. row_as (change_of batch.changes r) v batch.ended) (has-append batch.written rows r)

      row_was : row_in (batch_of t s es) r ≡ row_as (change_of batch.changes r) (has batch.written r) batch.ended
      row_was = ap (λ (o : Option Batch). row_in o r) f.is

      writes_wrote : is_row_written afterwards t r s ≡ (has batch.written r || has rows r)
      writes_wrote = ap (λ (o : Option Batch). is_written_in o r) batch_wrote ∙ has-append batch.written rows r

      writes_was : is_row_written es t r s ≡ has batch.written r
      writes_was = ap (λ (o : Option Batch). is_written_in o r) f.is

      pub writes_else : (u : ℕ) → (s ≡ u → ⊥) → is_row_written afterwards t r u ≡ is_row_written es t r u
      writes_else u n = ap (λ (o : Option Batch). is_written_in o r) (batch_else u n)

      or_false : (v : Bool) → (v || false) ≡ v
      or_false true = refl
      or_false false = refl

      pub wrote_step_is : history_step sh t r h e.act ≡ (if has rows r then write_change s h else h)
      unfolding history_step
      wrote_step_is = ap (history_step sh t r h) is ∙ ap (λ (v : Bool). if v && has rows r then write_change s h else h) (number_same t)

      -- the row isn't one of them
      pub tied_unwritten : has rows r ≡ false → Tied sh b afterwards t r h
      tied_unwritten n = tied_same afterwards
          (λ u. elim (cases_eq s u) [
            | inl q ↦ subst (λ (v : ℕ). row_in (batch_of t v afterwards) r ≡ row_in (batch_of t v es) r) q (row_wrote ∙ (ap (λ v. row_as (change_of batch.changes r) v batch.ended) (ap (λ v. has batch.written r || v) n ∙ or_false (has batch.written r)) ∙ sym row_was))
            | inr q ↦ ap (λ (o : Option Batch). row_in o r) (batch_else u q)
          ])
          (λ u. elim (cases_eq s u) [
            | inl q ↦ subst (λ (v : ℕ). is_row_written afterwards t r v ≡ is_row_written es t r v) q (writes_wrote ∙ ((ap (λ v. has batch.written r || v) n ∙ or_false (has batch.written r)) ∙ sym writes_was))
            | inr q ↦ writes_else u q
          ])
          begins_none

      -- it is
      module _ (of : has rows r ≡ true) where
        abbrev wrote : History RowState
        wrote = write_change s h

        left : (has (rows_of batch.changes) r ≡ true) × (not (has batch.written r) ≡ true)
        left = has-filter (λ y. not (has batch.written y)) (rows_of batch.changes) r (f.left r of)

        pub not_written : has batch.written r ≡ false
        not_written = by (has batch.written r) left.1
          where
            by : (v : Bool) → not v ≡ true → v ≡ false
            by true k = absurd (false≢true k)
            by false k = refl

        pub changes : (w : What) × (change_of batch.changes r ≡ Some w)
        changes = change-has batch.changes r left.0

        abbrev pub w : What
        w = changes.0

        row_before : row_in (batch_of t s es) r ≡ Some (record { what = w; written = false; ended = batch.ended })
        row_before = row_was ∙ (ap (λ o. row_as o (has batch.written r) batch.ended) changes.1 ∙ ap (λ v. Some (record { what = w; written = v; ended = batch.ended })) not_written)

        row_after : row_in (batch_of t s afterwards) r ≡ Some (record { what = w; written = true; ended = batch.ended })
        row_after = row_wrote ∙ (ap (λ o. row_as o (has batch.written r || has rows r) batch.ended) changes.1 ∙ ap (λ v. Some (record { what = w; written = v; ended = batch.ended })) (ap (λ v. v || has rows r) not_written ∙ of))

        pub listed_change : IsListed (record { stamp = s; what = w }) (begun t r es)
        listed_change = tie.listed s _ row_before

        fresh_here : (0 < s) × (b.changed t r s ≡ false)
        fresh_here = tie.fresh s _ row_before

        pub undecided : h.fate s ≡ Undecided
        undecided = tie.fates s ∙ (cond-false _ _ _ fresh_here.1 ∙ ap fate_by row_before)

        -- no earlier change is undecided
        pub earlier : (u : ℕ) → u < s → is_undecided (h.fate u) ≡ false
        earlier u l = elim (cases_Bool (is_undecided (h.fate u))) [ inl k ↦ absurd (f.first r of (pending u l k)) | inr k ↦ k ]
          where
            some_of : (o : Option Batch) → is_undecided (fate_by (row_in o r)) ≡ true → (x : Batch) × ((o ≡ Some x) × (has (unwritten x) r ≡ true))
            some_of None k = absurd (false≢true k)
            some_of (Some x) k = (x, (refl, by (change_of x.changes r) (has x.written r) refl refl k))
              where
                by : (c : Option What) (v : Bool) → change_of x.changes r ≡ c → has x.written r ≡ v → is_undecided (fate_by (row_as c v x.ended)) ≡ true → has (unwritten x) r ≡ true
                by None v ec ev q = absurd (false≢true q)
                by (Some z) true ec ev q = absurd (false≢true q)
                by (Some z) false ec ev q = filter-has (λ y. not (has x.written y)) (rows_of x.changes) r (has-change x.changes r z ec) (ap not ev)

            by_base : (v : Bool) (g : Fate) → is_undecided (cond v Written g) ≡ true → is_undecided g ≡ true
            by_base true g q = absurd (false≢true q)
            by_base false g q = q

            pending : (u : ℕ) → u < s → is_undecided (h.fate u) ≡ true → IsPending es t s r
            pending u l k =
                let z = some_of (batch_of t u es) (by_base (b.changed t r u) (fate_by (row_in (batch_of t u es) r)) (ap is_undecided (sym (tie.fates u)) ∙ k)) in
                record { stamp = u; smaller = l; batch = z.0; is = z.1.0; left = z.1.1 }

        pub later : (u : ℕ) → s < u → counts (h.fate u) ≡ false
        later u l = elim (cases_Bool (counts (h.fate u))) [ inl k ↦ absurd (false≢true (sym (tie.in_order s u (is_written-is (h.fate u) k) l) ∙ ap is_undecided undecided)) | inr k ↦ k ]

        fate_wrote : (u : ℕ) → wrote.fate u ≡ cond (b.changed t r u) Written (fate_by (row_in (batch_of t u afterwards) r))
        fate_wrote u = elim (cases_eq s u) [
          | inl q ↦ subst (λ (v : ℕ). wrote.fate v ≡ cond (b.changed t r v) Written (fate_by (row_in (batch_of t v afterwards) r))) q (set_stamp-same s Written h.fate ∙ sym (cond-false _ _ _ fresh_here.1 ∙ ap fate_by row_after))
          | inr q ↦ set_stamp-other s Written h.fate u q ∙ (tie.fates u ∙ ap (λ (o : Option Batch). cond (b.changed t r u) Written (fate_by (row_in o r))) (sym (batch_else u q)))
        ]

        expected_wrote : (p : ℕ) → expected_state wrote p ≡ expected_state h p
        expected_wrote p = state_at-alike h.base (λ u. is_expected (h.fate u)) (λ u. is_expected (wrote.fate u)) h.new h.new p (λ u l. by u) (λ u l c. refl)
          where
            by : (u : ℕ) → is_expected (wrote.fate u) ≡ is_expected (h.fate u)
            by u = elim (cases_eq s u) [
              | inl q ↦ subst (λ (v : ℕ). is_expected (wrote.fate v) ≡ is_expected (h.fate v)) q (ap is_expected (set_stamp-same s Written h.fate) ∙ sym (ap is_expected undecided))
              | inr q ↦ ap is_expected (set_stamp-other s Written h.fate u q)
            ]

        begun_wrote : (u : ℕ) → is_begun (wrote.fate u) ≡ is_begun (h.fate u)
        begun_wrote u = elim (cases_eq s u) [
          | inl q ↦ subst (λ (v : ℕ). is_begun (wrote.fate v) ≡ is_begun (h.fate v)) q (ap is_begun (set_stamp-same s Written h.fate) ∙ sym (ap is_begun undecided))
          | inr q ↦ ap is_begun (set_stamp-other s Written h.fate u q)
        ]

        -- the trail's written changes have one more at their end
        written_more : written afterwards t r ≡ written es t r ++ record { stamp = s; what = w } ∷ []
        written_more = ap (λ l. filter (λ d. is_row_written afterwards t r d.stamp) l) begins_none ∙ filter_more (is_row_written es t r) (is_row_written afterwards t r) (record { stamp = s; what = w })
            (λ u n. writes_else u n)
            (writes_wrote ∙ (ap (λ v. v || has rows r) not_written ∙ of))
            (writes_was ∙ not_written)
            (λ u l. tie.writes u ∙ by_fate (b.changed t r u) (fate_by (row_in (batch_of t u es) r)) (sym (ap counts (tie.fates u)) ∙ later u l))
            (begun t r es) tie.rising (tie.listed s _ row_before)
          where
            by_fate : (v : Bool) (g : Fate) → counts (cond v Written g) ≡ false → counts g ≡ false
            by_fate true g k = absurd (false≢true (sym k))
            by_fate false g k = k

        pub trail_wrote : (p : ℕ) → state_by sh b afterwards t r p ≡ (if nat_le s p then apply sh r (state_by sh b es t r p) w else state_by sh b es t r p)
        unfolding applied
        trail_wrote p = ap (λ l. applied sh r p (b.state t r p) l) written_more ∙ applied-append sh r p (b.state t r p) (written es t r) (record { stamp = s; what = w } ∷ [])

        low_state : (p : ℕ) → p < s → written_state wrote p ≡ written_state h p
        low_state p l = state_at-alike h.base (λ u. counts (h.fate u)) (λ u. counts (wrote.fate u)) h.new h.new p (λ u m. ap counts (set_stamp-below s Written h.fate u (omega arith))) (λ u m c. refl)

        counted_here : counts (wrote.fate s) ≡ true
        counted_here = ap counts (set_stamp-same s Written h.fate)

        later_wrote : (u : ℕ) → s < u → counts (wrote.fate u) ≡ false
        later_wrote u l = ap counts (set_stamp-other s Written h.fate u (λ q. absurd (omega arith))) ∙ later u l

        high_here : (p : ℕ) → s ≤ p → (q : ℕ) → s ≡ suc q → written_state wrote p ≡ apply sh r (written_state h p) w
        high_here p l q k =
            let down : written_state wrote p ≡ written_state wrote (suc q) = subst (λ (v : ℕ). written_state wrote p ≡ written_state wrote v) k (written-down wrote p s l (λ u m _. later_wrote u m)) in
            let here : written_state wrote (suc q) ≡ h.new (suc q) = written-counted wrote q (subst (λ (v : ℕ). counts (wrote.fate v) ≡ true) k counted_here) in
            let new_is : h.new (suc q) ≡ apply sh r (h.old (suc q)) w = subst (λ (v : ℕ). h.new v ≡ apply sh r (h.old v) w) k (tie.news s _ row_before) in
            let begins : is_begun (h.fate (suc q)) ≡ true = subst (λ (v : ℕ). is_begun (h.fate v) ≡ true) k (ap is_begun undecided) in
            let old_is : h.old (suc q) ≡ expected_state h q = tie.chained q begins in
            let decided : expected_state h q ≡ written_state h q = expected_written h q (λ u m. earlier u (omega arith)) in
            let up : written_state h p ≡ written_state h q = written-down h p q (omega arith) (λ u m n. above_q u (omega arith)) in
            down ∙ (here ∙ (new_is ∙ ap (λ o. apply sh r o w) (old_is ∙ (decided ∙ sym up))))
          where
            above_q : (u : ℕ) → s ≤ u → counts (h.fate u) ≡ false
            above_q u m = elim (cases_eq s u) [ inl z ↦ subst (λ (v : ℕ). counts (h.fate v) ≡ false) z (ap counts undecided) | inr z ↦ later u (omega arith) ]

        pred_of : (n : ℕ) → 0 < n → (q : ℕ) × (n ≡ suc q)
        pred_of zero l = absurd (omega arith)
        pred_of (suc q) l = (q, refl)

        states_wrote : (p : ℕ) → written_state wrote p ≡ state_by sh b afterwards t r p
        states_wrote p = elim (cases_Bool (nat_le s p)) [
          | inl k ↦ (let l : s ≤ p = grind (arith, nat_tests) in let m = pred_of s fresh_here.0 in high_here p l m.0 m.1 ∙ (ap (λ o. apply sh r o w) (tie.states p) ∙ sym (trail_wrote p ∙ cond-true _ _ _ k)))
          | inr k ↦ (let l : p < s = grind (arith, nat_tests) in low_state p l ∙ (tie.states p ∙ sym (trail_wrote p ∙ cond-false _ _ _ k)))
        ]

        pub tied_wrote : Tied sh b afterwards t r wrote
        tied_wrote = record {
          fates = fate_wrote;
          fresh = λ u x q. elim (cases_eq s u) [
            | inl k ↦ subst (λ (v : ℕ). (0 < v) × (b.changed t r v ≡ false)) k fresh_here
            | inr k ↦ tie.fresh u x (sym (ap (λ (o : Option Batch). row_in o r) (batch_else u k)) ∙ q)
          ];
          writes = λ u. elim (cases_eq s u) [
            | inl k ↦ subst (λ (v : ℕ). is_row_written afterwards t r v ≡ counts (fate_by (row_in (batch_of t v afterwards) r))) k (writes_wrote ∙ (ap (λ v. v || has rows r) not_written ∙ of) ∙ sym (ap (λ o. counts (fate_by o)) row_after))
            | inr k ↦ writes_else u k ∙ (tie.writes u ∙ ap (λ (o : Option Batch). counts (fate_by (row_in o r))) (sym (batch_else u k)))
          ];
          ends = λ u. elim (cases_eq s u) [
            | inl k ↦ subst (λ (v : ℕ). h.is_ended v ≡ cond (b.changed t r v) true (ended_by (row_in (batch_of t v afterwards) r))) k (tie.ends s ∙ ap (λ o. cond (b.changed t r s) true (ended_by o)) row_before ∙ sym (ap (λ o. cond (b.changed t r s) true (ended_by o)) row_after))
            | inr k ↦ tie.ends u ∙ ap (λ (o : Option Batch). cond (b.changed t r u) true (ended_by (row_in o r))) (sym (batch_else u k))
          ];
          states = states_wrote;
          chained = λ p c. tie.chained p (sym (begun_wrote (suc p)) ∙ c) ∙ sym (expected_wrote p);
          news = λ u x q. elim (cases_eq s u) [
            | inl k ↦
                (let v : Some (record { what = w; written = true; ended = batch.ended }) ≡ Some x = sym (ap (λ (v : ℕ). row_in (batch_of t v afterwards) r) (sym k) ∙ row_after) ∙ q in
                let z : record { what = w; written = true; ended = batch.ended } ≡ x = row_same v in
                subst (λ (v : ℕ). h.new v ≡ apply sh r (h.old v) x.what) k (tie.news s _ row_before ∙ ap (λ (y : RowBatch). apply sh r (h.old s) y.what) z))
            | inr k ↦ tie.news u x (sym (ap (λ (o : Option Batch). row_in o r) (batch_else u k)) ∙ q)
          ];
          rising = subst IsRising (sym begins_none) tie.rising;
          listed = λ u x q. subst (IsListed (record { stamp = u; what = x.what })) (sym begins_none) (elim (cases_eq s u) [
            | inl k ↦
                (let v : Some (record { what = w; written = true; ended = batch.ended }) ≡ Some x = sym (ap (λ (v : ℕ). row_in (batch_of t v afterwards) r) (sym k) ∙ row_after) ∙ q in
                let z : record { what = w; written = true; ended = batch.ended } ≡ x = row_same v in
                subst (λ (y : Dated). IsListed y (begun t r es)) (λ i. record { stamp = k i; what = (z i).what }) (tie.listed s _ row_before))
            | inr k ↦ tie.listed u x (sym (ap (λ (o : Option Batch). row_in o r) (batch_else u k)) ∙ q)
          ]);
          in_order = λ v u k l. elim (cases_eq s v) [
            | inl z ↦ subst (λ (y : ℕ). is_undecided (wrote.fate y) ≡ false) z (ap is_undecided (set_stamp-same s Written h.fate))
            | inr z ↦ ap is_undecided (set_stamp-other s Written h.fate v z) ∙ elim (cases_eq s u) [
              | inl y ↦ earlier v (omega arith)
              | inr y ↦ tie.in_order v u (sym (set_stamp-other s Written h.fate u y) ∙ k) l
            ]
          ];
        }
          where
            row_same : {x y : RowBatch} → Some x ≡ Some y → x ≡ y
            row_same q = cc

    -- ---- an entry that leaves the rows of all batches

    module _ (e : Entry) (same : (u : ℕ) (o : Option Batch) → batch_of t u es ≡ o → row_in (batch_step t u o e.seat e.act) r ≡ row_in o r) (writes : (u : ℕ) (o : Option Batch) → batch_of t u es ≡ o → is_written_in (batch_step t u o e.seat e.act) r ≡ is_written_in o r) (none : begun_by t r e.act ≡ []) where
      pub tied_beside : Tied sh b (es ++ e ∷ []) t r h
      tied_beside = tied_same (es ++ e ∷ [])
          (λ u. ap (λ (o : Option Batch). row_in o r) (batch_of-snoc t u es e) ∙ same u (batch_of t u es) refl)
          (λ u. ap (λ (o : Option Batch). is_written_in o r) (batch_of-snoc t u es e) ∙ writes u (batch_of t u es) refl)
          (begun-snoc t r es e ∙ (ap (λ l. begun t r es ++ l) none ∙ append-nil (begun t r es)))

    module _ (e : Entry) (s phase : ℕ) (is : e.act ≡ Phase tid s phase) where
      phase_row : (u : ℕ) (o : Option Batch) → row_in (batch_step t u o e.seat (Phase tid s phase)) r ≡ row_in o r
      unfolding batch_step
      phase_row u None = refl
      phase_row u (Some x) = elim ((t == t) && (s == u)) as (λ v. row_in (if v then Some (record x { phase = phase }) else Some x) r ≡ row_in (Some x) r) [ true ↦ refl | false ↦ refl ]

      phase_write : (u : ℕ) (o : Option Batch) → is_written_in (batch_step t u o e.seat (Phase tid s phase)) r ≡ is_written_in o r
      unfolding batch_step
      phase_write u None = refl
      phase_write u (Some x) = elim ((t == t) && (s == u)) as (λ v. is_written_in (if v then Some (record x { phase = phase }) else Some x) r ≡ is_written_in (Some x) r) [ true ↦ refl | false ↦ refl ]

      no_begun : begun_by t r (Phase tid s phase) ≡ []
      unfolding begun_by
      no_begun = refl

      pub tied_phase : Tied sh b (es ++ e ∷ []) t r h
      tied_phase = tied_beside e
          (λ u o _. ap (λ (a : Act). row_in (batch_step t u o e.seat a) r) is ∙ phase_row u o)
          (λ u o _. ap (λ (a : Act). is_written_in (batch_step t u o e.seat a) r) is ∙ phase_write u o)
          (ap (begun_by t r) is ∙ no_begun)

      pub phase_step_is : history_step sh t r h e.act ≡ h
      unfolding history_step
      phase_step_is = ap (history_step sh t r h) is

    module _ (e : Entry) (s : ℕ) (is : e.act ≡ Ended tid s) (f : CanEnd es t s) where
      abbrev ended_es : List Entry
      ended_es = es ++ e ∷ []

      abbrev closed : Batch
      closed = record f.batch { ended = true }

      pub batch_ended : batch_of t s ended_es ≡ Some closed
      unfolding batch_step
      batch_ended =
          batch_of-snoc t s es e
          ∙ (ap (λ (a : Act). batch_step t s (batch_of t s es) e.seat a) is
          ∙ (ap (λ (o : Option Batch). batch_step t s o e.seat (Ended tid s)) f.is
          ∙ ap (λ (v : Bool). if v then Some closed else Some f.batch) (both_same t s)))

      ended_other : (u : ℕ) → (s ≡ u → ⊥) → (o : Option Batch) → batch_step t u o e.seat (Ended tid s) ≡ o
      unfolding batch_step
      ended_other u n None = refl
      ended_other u n (Some x) = ap (λ (v : Bool). if v then Some (record x { ended = true }) else Some x) (and_false (t == t) (s == u) (ne_eqb s u n))

      pub batch_other : (u : ℕ) → (s ≡ u → ⊥) → batch_of t u ended_es ≡ batch_of t u es
      batch_other u n = batch_of-snoc t u es e ∙ (ap (λ (a : Act). batch_step t u (batch_of t u es) e.seat a) is ∙ ended_other u n (batch_of t u es))

      pub begins_ended : begun t r ended_es ≡ begun t r es
      unfolding begun_by
      begins_ended = begun-snoc t r es e ∙ (ap (λ (a : Act). begun t r es ++ begun_by t r a) is ∙ append-nil (begun t r es))

      row_ended : row_in (batch_of t s ended_es) r ≡ row_as (change_of f.batch.changes r) (has f.batch.written r) true
      row_ended = ap (λ (o : Option Batch). row_in o r) batch_ended

      row_unended : row_in (batch_of t s es) r ≡ row_as (change_of f.batch.changes r) (has f.batch.written r) f.batch.ended
      row_unended = ap (λ (o : Option Batch). row_in o r) f.is

      writes_ended : (u : ℕ) → is_row_written ended_es t r u ≡ is_row_written es t r u
      writes_ended u = elim (cases_eq s u) [
        | inl q ↦ subst (λ (v : ℕ). is_row_written ended_es t r v ≡ is_row_written es t r v) q (ap (λ (o : Option Batch). is_written_in o r) batch_ended ∙ sym (ap (λ (o : Option Batch). is_written_in o r) f.is))
        | inr q ↦ ap (λ (o : Option Batch). is_written_in o r) (batch_other u q)
      ]

      pub ended_step_is : history_step sh t r h e.act ≡ (if is_begun (h.fate s) then end_change s h else h)
      unfolding history_step
      ended_step_is = ap (history_step sh t r h) is ∙ ap (λ (v : Bool). if v && is_begun (h.fate s) then end_change s h else h) (number_same t)

      -- the batch has no change of the row
      pub tied_unended : change_of f.batch.changes r ≡ None → Tied sh b ended_es t r h
      tied_unended n = tied_same ended_es
          (λ u. elim (cases_eq s u) [
            | inl q ↦ subst (λ (v : ℕ). row_in (batch_of t v ended_es) r ≡ row_in (batch_of t v es) r) q (row_ended ∙ (ap (λ o. row_as o (has f.batch.written r) true) n ∙ sym (row_unended ∙ ap (λ o. row_as o (has f.batch.written r) f.batch.ended) n)))
            | inr q ↦ ap (λ (o : Option Batch). row_in o r) (batch_other u q)
          ])
          writes_ended
          begins_ended

      module _ (w : What) (has_one : change_of f.batch.changes r ≡ Some w) where
        abbrev done : History RowState
        done = end_change s h

        is_whole : has f.batch.written r ≡ true
        unfolding has
        is_whole = elim (cases_Bool (has f.batch.written r)) [
          | inl k ↦ k
          | inr k ↦
              (let l : has (unwritten f.batch) r ≡ true = filter-has (λ y. not (has f.batch.written y)) (rows_of f.batch.changes) r (has-change f.batch.changes r w has_one) (ap not k) in
              let n : has [] r ≡ true = subst (λ (x : List (List Value)). has x r ≡ true) f.all l in
              absurd (false≢true n))
        ]

        row_done : row_in (batch_of t s ended_es) r ≡ Some (record { what = w; written = true; ended = true })
        row_done = row_ended ∙ (ap (λ o. row_as o (has f.batch.written r) true) has_one ∙ ap (λ v. Some (record { what = w; written = v; ended = true })) is_whole)

        row_open : row_in (batch_of t s es) r ≡ Some (record { what = w; written = true; ended = f.batch.ended })
        row_open = row_unended ∙ (ap (λ o. row_as o (has f.batch.written r) f.batch.ended) has_one ∙ ap (λ v. Some (record { what = w; written = v; ended = f.batch.ended })) is_whole)

        pub fate_done : h.fate s ≡ Written
        fate_done = tie.fates s ∙ (cond-false _ _ _ (tie.fresh s _ row_open).1 ∙ ap fate_by row_open)

        same_what : (u : ℕ) (x : RowBatch) → row_in (batch_of t u ended_es) r ≡ Some x → (y : RowBatch) × ((row_in (batch_of t u es) r ≡ Some y) × (y.what ≡ x.what))
        same_what u x q = elim (cases_eq s u) [
          | inl k ↦
              (let v : Some (record { what = w; written = true; ended = true }) ≡ Some x = sym (ap (λ (v : ℕ). row_in (batch_of t v ended_es) r) (sym k) ∙ row_done) ∙ q in
              let z : record { what = w; written = true; ended = true } ≡ x = got v in
              (record { what = w; written = true; ended = f.batch.ended }, (subst (λ (v : ℕ). row_in (batch_of t v es) r ≡ Some (record { what = w; written = true; ended = f.batch.ended })) k row_open, ap (λ (y : RowBatch). y.what) z)))
          | inr k ↦ (x, (sym (ap (λ (o : Option Batch). row_in o r) (batch_other u k)) ∙ q, refl))
        ]
          where
            got : {x y : RowBatch} → Some x ≡ Some y → x ≡ y
            got q = cc

        pub tied_ended : Tied sh b ended_es t r done
        tied_ended = record {
          fates = λ u. elim (cases_eq s u) [
            | inl k ↦ subst (λ (v : ℕ). h.fate v ≡ cond (b.changed t r v) Written (fate_by (row_in (batch_of t v ended_es) r))) k (tie.fates s ∙ ap (λ o. cond (b.changed t r s) Written (fate_by o)) row_open ∙ sym (ap (λ o. cond (b.changed t r s) Written (fate_by o)) row_done))
            | inr k ↦ tie.fates u ∙ ap (λ (o : Option Batch). cond (b.changed t r u) Written (fate_by (row_in o r))) (sym (batch_other u k))
          ];
          fresh = λ u x q. (let z = same_what u x q in tie.fresh u z.0 z.1.0);
          writes = λ u. writes_ended u ∙ (tie.writes u ∙ elim (cases_eq s u) [
            | inl k ↦ subst (λ (v : ℕ). counts (fate_by (row_in (batch_of t v es) r)) ≡ counts (fate_by (row_in (batch_of t v ended_es) r))) k (ap (λ o. counts (fate_by o)) row_open ∙ sym (ap (λ o. counts (fate_by o)) row_done))
            | inr k ↦ ap (λ (o : Option Batch). counts (fate_by (row_in o r))) (sym (batch_other u k))
          ]);
          ends = λ u. elim (cases_eq s u) [
            | inl k ↦ subst (λ (v : ℕ). done.is_ended v ≡ cond (b.changed t r v) true (ended_by (row_in (batch_of t v ended_es) r))) k (set_stamp-same s true h.is_ended ∙ sym (cond-false _ _ _ (tie.fresh s _ row_open).1 ∙ ap ended_by row_done))
            | inr k ↦ set_stamp-other s true h.is_ended u k ∙ (tie.ends u ∙ ap (λ (o : Option Batch). cond (b.changed t r u) true (ended_by (row_in o r))) (sym (batch_other u k)))
          ];
          states = λ p. tie.states p ∙ ap (λ l. applied sh r p (b.state t r p) l) (sym ((λ i. filter (λ d. writes_ended d.stamp i) (begun t r ended_es)) ∙ ap (λ l. filter (λ d. is_row_written es t r d.stamp) l) begins_ended));
          chained = tie.chained;
          news = λ u x q. (let z = same_what u x q in tie.news u z.0 z.1.0 ∙ ap (λ y. apply sh r (h.old u) y) z.1.1);
          rising = subst IsRising (sym begins_ended) tie.rising;
          listed = λ u x q. (let z = same_what u x q in subst (IsListed (record { stamp = u; what = x.what })) (sym begins_ended) (subst (λ (y : What). IsListed (record { stamp = u; what = y }) (begun t r es)) z.1.1 (tie.listed u z.0 z.1.0)));
          in_order = tie.in_order;
        }
