-- Entries of a table's batches: each keeps what is true of an index, and is its event for each row.
use Rattle.std.proofs.Common.{◌≡◌, ℕ, ◌<◌, max, Bool, true, false, ◌==◌, if◌then◌else◌, Option, Some, None, List, [], ◌∷◌, ◌++◌, refl, ap, sym, ◌∙◌, subst, inl, inr, arith}
use Rattle.std.proofs.lemmas.Bool.{cases_eq, ne_eqb, eq-eqb}
use Rattle.px_values.specs.declared.row.Value.{Value}
use Rattle.px_values.specs.declared.change.Change.{Change}
use Rattle.px_values.specs.declared.name.TableId.{TableId}
use Rattle.px_trail.specs.declared.entry.Act.{Act}
use Rattle.px_trail.specs.declared.entry.Act.TheVariants.{Begun, Wrote, Ended, Phase}
use Rattle.px_trail.specs.declared.entry.Entry.{Entry}
use Rattle.px_trail.specs.Trail.{Base, last_of, last_step}
use Rattle.px_trail.specs.Batches.{Batch, batch_of, batch_step, begun_batch, change_of, has}
use Rattle.px_trail.specs.Legal.{IsWritable}
use Rattle.px_trail.proofs.Growth.{batch_of-snoc, last-snoc}
use Rattle.px_world.specs.Events.{Write, End, set_stamp}
use Rattle.px_world.proofs.Steps.{set_stamp-other}
use Rattle.px_world.specs.IndexCells.{Moves}
use Rattle.px_forms.specs.Indexes.{shape_at}
use Rattle.px_indexed.specs.Worlds.{world_at, begin_event, change_event, row_event, history_at, Indexed}
use Rattle.px_indexed.specs.Kept.{IndexKept, RowsKept}
use Rattle.px_world.proofs.IndexCells.{moves_kept}
use Rattle.px_history.proofs.Changes.{both_same}
use Rattle.px_trail.proofs.Orders.{and_false}
use Rattle.px_history.proofs.Ties.{batch_here, batch_there, batch_wrote, batch_else, batch_ended, batch_other}
use Rattle.px_indexed.proofs.IndexSteps.{begin_moves, write_moves, end_moves, phase_moves}
use Rattle.px_values.specs.States.{Shape as RowShape}
use Rattle.px_forms.proofs.Views.{lawful_at}
use Rattle.px_indexed.proofs.Rows.{IsEnding, can_end, IsPhase, same_some}
use Rattle.px_trail.proofs.Batches.{in_writing}
use Rattle.px_indexed.proofs.Regions.{cells_on}

module _ (sh : RowShape) (b : Base) (es : List Entry) (tid : TableId) (raised : ℕ) where
  abbrev t : ℕ
  t = tid.0

  -- ---- the rows

  module _ (k : RowsKept sh b es t raised) (e : Entry) (s : ℕ) (cs : List Change) (is : e.act ≡ Begun tid s cs) (new : last_of b t es < s) where
    pub last_begun : last_of b t (es ++ e ∷ []) ≡ s
    last_begun = last-snoc b t es e ∙ (ap (last_step t (last_of b t es)) is ∙ (ap (λ (v : Bool). if v then max (last_of b t es) s else last_of b t es) (eq-eqb t t refl) ∙ (let q : max (last_of b t es) s ≡ s = omega arith in q)))

    -- an index that waits for the batch's marks
    module _ (x : Indexed) (g : IndexKept sh b es t raised x) where
      abbrev waiting : Indexed
      waiting = record x { waits = set_stamp s true x.waits }

      pub begun_moves : (r : List Value) → Moves (shape_at sh x.form r) (begin_event s (change_of cs r)) (world_at sh b es t raised x r) (world_at sh b (es ++ e ∷ []) t raised waiting r)
      begun_moves r = begin_moves sh b es tid raised x r (k.base r) (k.tied r) g.cells g.birth k.low e s cs is new

      pub index_begun : IndexKept sh b (es ++ e ∷ []) t raised waiting
      index_begun = record {
        form = g.form;
        birth = (let i = g.birth in let j = last_begun in omega arith);
        cells = cells_on x.form (last_of b t es) (last_of b t (es ++ e ∷ [])) x.cells (let j = last_begun in omega arith) g.cells;
        marked = λ u y q p l. elim (cases_eq s u) [
          | inl z ↦ absurd (p (ap (λ (y : Batch). y.phase) (sym (same_some (sym (here u z) ∙ q)))))
          | inr z ↦ set_stamp-other s true x.waits u z ∙ g.marked u y (sym (there u z) ∙ q) p l
        ];
        apart = λ u y q z. elim (cases_eq s u) [
          | inl a ↦ (let i = g.birth in omega arith)
          | inr a ↦ g.apart u y (sym (there u a) ∙ q) z
        ];
        kept = λ r. moves_kept (shape_at sh x.form r) (lawful_at sh x.form r g.form) (begin_event s (change_of cs r)) (world_at sh b es t raised x r) (world_at sh b (es ++ e ∷ []) t raised waiting r) (begun_moves r) (g.kept r);
      }
        where
          there : (u : ℕ) → (s ≡ u → ⊥) → batch_of t u (es ++ e ∷ []) ≡ batch_of t u es
          there u z = batch_there sh b tid [] (k.base []) es (history_at sh b es t []) (k.tied []) e s cs is new u z

          here : (u : ℕ) → s ≡ u → batch_of t u (es ++ e ∷ []) ≡ Some (begun_batch e.seat cs)
          here u z = subst (λ (v : ℕ). batch_of t v (es ++ e ∷ []) ≡ Some (begun_batch e.seat cs)) z (batch_here sh b tid [] (k.base []) es (history_at sh b es t []) (k.tied []) e s cs is new)

  -- ---- rows are written

  module _ (k : RowsKept sh b es t raised) (e : Entry) (s : ℕ) (rows : List (List Value)) (is : e.act ≡ Wrote tid s rows) (f : IsWritable es e.seat t s rows) where
    pub last_wrote : last_of b t (es ++ e ∷ []) ≡ last_of b t es
    last_wrote = last-snoc b t es e ∙ ap (last_step t (last_of b t es)) is

    pub there_wrote : (u : ℕ) → (s ≡ u → ⊥) → batch_of t u (es ++ e ∷ []) ≡ batch_of t u es
    there_wrote u z = batch_else sh b tid [] (k.base []) es (history_at sh b es t []) (k.tied []) e s rows is f u z

    pub here_wrote : (u : ℕ) → s ≡ u → batch_of t u (es ++ e ∷ []) ≡ Some (record f.batch { written = f.batch.written ++ rows })
    here_wrote u z = subst (λ (v : ℕ). batch_of t v (es ++ e ∷ []) ≡ Some (record f.batch { written = f.batch.written ++ rows })) z (batch_wrote sh b tid [] (k.base []) es (history_at sh b es t []) (k.tied []) e s rows is f)

    -- it has marked its indexes
    marked : f.batch.phase ≡ 0 → ⊥
    marked z = (let q = (in_writing f.batch f.phase).1 in omega arith)

    module _ (x : Indexed) (g : IndexKept sh b es t raised x) where
      pub wrote_moves : (r : List Value) → Moves (shape_at sh x.form r) (row_event (Write s) (has rows r)) (world_at sh b es t raised x r) (world_at sh b (es ++ e ∷ []) t raised x r)
      wrote_moves r = write_moves sh b es tid raised x r (k.base r) (k.tied r) e s rows is f (λ l. g.marked s f.batch f.is marked l) (g.apart s f.batch f.is)

      pub index_wrote : IndexKept sh b (es ++ e ∷ []) t raised x
      index_wrote = record {
        form = g.form;
        birth = (let i = g.birth in let j = last_wrote in omega arith);
        cells = cells_on x.form (last_of b t es) (last_of b t (es ++ e ∷ [])) x.cells (let j = last_wrote in omega arith) g.cells;
        marked = λ u y q p l. elim (cases_eq s u) [
          | inl z ↦ subst (λ (v : ℕ). x.waits v ≡ false) z (g.marked s f.batch f.is marked (omega arith))
          | inr z ↦ g.marked u y (sym (there_wrote u z) ∙ q) p l
        ];
        apart = λ u y q z. elim (cases_eq s u) [
          | inl a ↦ g.apart s f.batch f.is (omega arith)
          | inr a ↦ g.apart u y (sym (there_wrote u a) ∙ q) z
        ];
        kept = λ r. moves_kept (shape_at sh x.form r) (lawful_at sh x.form r g.form) (row_event (Write s) (has rows r)) (world_at sh b es t raised x r) (world_at sh b (es ++ e ∷ []) t raised x r) (wrote_moves r) (g.kept r);
      }

  -- ---- a batch ends

  module _ (k : RowsKept sh b es t raised) (e : Entry) (s : ℕ) (is : e.act ≡ Ended tid s) (f : IsEnding es e.seat t s) where
    pub last_ended : last_of b t (es ++ e ∷ []) ≡ last_of b t es
    last_ended = last-snoc b t es e ∙ ap (last_step t (last_of b t es)) is

    pub there_ended : (u : ℕ) → (s ≡ u → ⊥) → batch_of t u (es ++ e ∷ []) ≡ batch_of t u es
    there_ended u z = batch_other sh b tid [] (k.base []) es (history_at sh b es t []) (k.tied []) e s is (can_end es e.seat t s f) u z

    pub here_ended : (u : ℕ) → s ≡ u → batch_of t u (es ++ e ∷ []) ≡ Some (record f.batch { ended = true })
    here_ended u z = subst (λ (v : ℕ). batch_of t v (es ++ e ∷ []) ≡ Some (record f.batch { ended = true })) z (batch_ended sh b tid [] (k.base []) es (history_at sh b es t []) (k.tied []) e s is (can_end es e.seat t s f))

    module _ (x : Indexed) (g : IndexKept sh b es t raised x) where
      pub ended_moves : (r : List Value) → Moves (shape_at sh x.form r) (change_event (End s) (change_of f.batch.changes r)) (world_at sh b es t raised x r) (world_at sh b (es ++ e ∷ []) t raised x r)
      ended_moves r = end_moves sh b es tid raised x r (k.base r) (k.tied r) s f.batch f.is (k.later s f.batch f.is) e is f refl

      pub index_ended : IndexKept sh b (es ++ e ∷ []) t raised x
      index_ended = record {
        form = g.form;
        birth = (let i = g.birth in let j = last_ended in omega arith);
        cells = cells_on x.form (last_of b t es) (last_of b t (es ++ e ∷ [])) x.cells (let j = last_ended in omega arith) g.cells;
        marked = λ u y q p l. elim (cases_eq s u) [
          | inl z ↦ subst (λ (v : ℕ). x.waits v ≡ false) z (g.marked s f.batch f.is f.marked (omega arith))
          | inr z ↦ g.marked u y (sym (there_ended u z) ∙ q) p l
        ];
        apart = λ u y q z. elim (cases_eq s u) [
          | inl a ↦ g.apart s f.batch f.is (omega arith)
          | inr a ↦ g.apart u y (sym (there_ended u a) ∙ q) z
        ];
        kept = λ r. moves_kept (shape_at sh x.form r) (lawful_at sh x.form r g.form) (change_event (End s) (change_of f.batch.changes r)) (world_at sh b es t raised x r) (world_at sh b (es ++ e ∷ []) t raised x r) (ended_moves r) (g.kept r);
      }

  -- ---- a phase is done

  module _ (k : RowsKept sh b es t raised) (e : Entry) (s phase : ℕ) (is : e.act ≡ Phase tid s phase) (f : IsPhase es t s phase) where
    pub last_phase : last_of b t (es ++ e ∷ []) ≡ last_of b t es
    last_phase = last-snoc b t es e ∙ ap (last_step t (last_of b t es)) is

    phase_else : (u : ℕ) → (s ≡ u → ⊥) → (o : Option Batch) → batch_step t u o e.seat (Phase tid s phase) ≡ o
    unfolding batch_step
    phase_else u n None = refl
    phase_else u n (Some x) = ap (λ (v : Bool). if v then Some (record x { phase = phase }) else Some x) (and_false (t == t) (s == u) (ne_eqb s u n))

    pub there_phase : (u : ℕ) → (s ≡ u → ⊥) → batch_of t u (es ++ e ∷ []) ≡ batch_of t u es
    there_phase u z = batch_of-snoc t u es e ∙ (ap (λ (a : Act). batch_step t u (batch_of t u es) e.seat a) is ∙ phase_else u z (batch_of t u es))

    phased : batch_of t s (es ++ e ∷ []) ≡ Some (record f.batch { phase = phase })
    unfolding batch_step
    phased =
        batch_of-snoc t s es e
        ∙ (ap (λ (a : Act). batch_step t s (batch_of t s es) e.seat a) is
        ∙ (ap (λ (o : Option Batch). batch_step t s o e.seat (Phase tid s phase)) f.is
        ∙ ap (λ (v : Bool). if v then Some (record f.batch { phase = phase }) else Some f.batch) (both_same t s)))

    pub here_phase : (u : ℕ) → s ≡ u → batch_of t u (es ++ e ∷ []) ≡ Some (record f.batch { phase = phase })
    here_phase u z = subst (λ (v : ℕ). batch_of t v (es ++ e ∷ []) ≡ Some (record f.batch { phase = phase })) z phased

    -- the phase of an index that the batch no longer waits to mark
    module _ (x : Indexed) (g : IndexKept sh b es t raised x) (done : x.birth < s → x.waits s ≡ false) where
      pub phased_moves : (r : List Value) → Moves (shape_at sh x.form r) None (world_at sh b es t raised x r) (world_at sh b (es ++ e ∷ []) t raised x r)
      phased_moves r = phase_moves sh b es tid raised x r (k.base r) (k.tied r) e s phase is

      pub index_phase : IndexKept sh b (es ++ e ∷ []) t raised x
      index_phase = record {
        form = g.form;
        birth = (let i = g.birth in let j = last_phase in omega arith);
        cells = cells_on x.form (last_of b t es) (last_of b t (es ++ e ∷ [])) x.cells (let j = last_phase in omega arith) g.cells;
        marked = λ u y q p l. elim (cases_eq s u) [
          | inl z ↦ subst (λ (v : ℕ). x.waits v ≡ false) z (done (omega arith))
          | inr z ↦ g.marked u y (sym (there_phase u z) ∙ q) p l
        ];
        apart = λ u y q z. elim (cases_eq s u) [
          | inl a ↦ g.apart s f.batch f.is (omega arith)
          | inr a ↦ g.apart u y (sym (there_phase u a) ∙ q) z
        ];
        kept = λ r. moves_kept (shape_at sh x.form r) (lawful_at sh x.form r g.form) None (world_at sh b es t raised x r) (world_at sh b (es ++ e ∷ []) t raised x r) (phased_moves r) (g.kept r);
      }
