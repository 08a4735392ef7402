-- The server stops between steps, or in a write whose record is in the log while its entry isn't in the trail.
use Rattle.std.proofs.Common.{◌≡◌, ℕ, Bool, true, false, cond, Some, None, List, [], ◌∷◌, ◌++◌, refl, ap, sym, ◌∙◌, subst, inl, inr}
use Rattle.std.specs.Prelude.{nat_eq}
use Rattle.std.proofs.lemmas.Bool.{cases_eq, cond-true, eq-eqb, ne_eqb}
use Rattle.px_cells.specs.CellData.{CellData}
use Rattle.px_cells.specs.Order.{ReadsSame}
use Rattle.px_values.specs.declared.row.Value.{Value}
use Rattle.px_values.specs.declared.change.What.{What}
use Rattle.px_values.specs.States.{RowState}
use Rattle.px_trail.specs.declared.entry.Act.TheVariants.{Wrote}
use Rattle.px_trail.specs.declared.entry.Entry.{Entry}
use Rattle.px_trail.specs.Batches.{Batch, batch_of, has}
use Rattle.px_trail.specs.Legal.{MayCome}
use Rattle.px_world.specs.Shape.{WorldShape}
use Rattle.px_world.specs.World.{Fate, Written, Lost, World, is_undecided, is_begun}
use Rattle.px_world.specs.Events.{Write, Stop, happens, Comes, fate_at_stop, is_at, set_stamp}
use Rattle.px_world.specs.IndexCells.{Moves}
use Rattle.px_world.proofs.Steps.{set_stamp-same, set_stamp-other}
use Rattle.px_indexed.specs.Kept.{ReadsWrites}
use Rattle.px_indexed.specs.Worlds.{row_event}
use Rattle.px_groupworld.specs.Group.{TableForm, GroupData, GroupKept, shape_in, world_in}
use Rattle.px_groupworld.specs.Steps.{Steps, wrote_data}
use Rattle.px_groupworld.proofs.Entries.{group_wrote}
use Rattle.px_tablefolder.specs.Folder.{folder_high}
use Rattle.px_tablefolder.specs.Stop.{IsKnown, IsStop, Leaves, over_base}
use Rattle.px_tablefolder.proofs.TableStops.{folder_recovers, folder_restart, folder_sound}

-- ---- a write, and then a stop, is a stop that writes

module _ {K S X A : Type 0} (n : WorldShape K S X A) (w : World K S X) (s h : ℕ) (m : Comes n w (Write s)) where
  written_fate : (u : ℕ) → fate_at_stop None (set_stamp s Written w.fate) u ≡ fate_at_stop (Some s) w.fate u
  written_fate u = elim (cases_eq s u) [
    | inl e ↦ subst (λ (v : ℕ). fate_at_stop None (set_stamp s Written w.fate) v ≡ fate_at_stop (Some s) w.fate v) e
        (ap (λ (d : Fate). cond (is_undecided d) (cond (is_at s None) Written Lost) d) (set_stamp-same s Written w.fate)
        ∙ sym (ap (λ (d : Fate). cond (is_undecided d) (cond (nat_eq s s) Written Lost) d) m.0 ∙ cond-true (nat_eq s s) Written Lost (eq-eqb s s refl)))
    | inr e ↦ ap (λ (d : Fate). cond (is_undecided d) Lost d) (set_stamp-other s Written w.fate u e) ∙ sym (ap (λ (v : Bool). cond (is_undecided (w.fate u)) (cond v Written Lost) (w.fate u)) (ne_eqb u s (λ q. e (sym q))))
  ]

  written_ended : (u : ℕ) → is_begun (set_stamp s Written w.fate u) ≡ is_begun (w.fate u)
  written_ended u = elim (cases_eq s u) [
    | inl e ↦ subst (λ (v : ℕ). is_begun (set_stamp s Written w.fate v) ≡ is_begun (w.fate v)) e (ap is_begun (set_stamp-same s Written w.fate) ∙ sym (ap is_begun m.0))
    | inr e ↦ ap is_begun (set_stamp-other s Written w.fate u e)
  ]

  write_stop : happens n (happens n w (Write s)) (Stop None h) ≡ happens n w (Stop (Some s) h)
  write_stop = λ i. record (happens n w (Stop (Some s) h)) { fate = λ u. written_fate u i; is_ended = λ u. written_ended u i }

  pub stop_written : (w' : World K S X) → IsStop n None h (happens n w (Write s)) w' → IsStop n (Some s) h w w'
  stop_written w' g = record {
    may = (g.may.0, ((m.0, (m.1.1, m.1.0)), g.may.1.1));
    known = subst (λ (v : World K S X). IsKnown v w') write_stop g.known;
    raised = g.raised;
  }

-- ---- a table stops

-- as it is, whatever it is
pub table_leaves : (f : TableForm) (es : List Entry) (v : GroupData) → GroupKept f es v → Leaves f es v v (λ r. None) es
table_leaves f es v g = record {
  each = λ n u b m o fb. record { sound = folder_sound f es v g n m b fb u o; stands = folder_recovers f es v g n m b fb; worlds = folder_restart f es v g n m b fb u o };
}

one_stop : (s h : ℕ) (b : Bool) (q : WorldShape (List ℕ) RowState (List ℕ) What) (w w1 : World (List ℕ) RowState (List ℕ)) → Moves q (row_event (Write s) b) w w1 → (w' : World (List ℕ) RowState (List ℕ)) → IsStop q None h w1 w' → IsStop q (cond b (Some s) None) h w w'
one_stop s h true q w w1 move w' g = stop_written q w s h move.0.1 w' (subst (λ (u : World (List ℕ) RowState (List ℕ)). IsStop q None h u w') move.1 g)
one_stop s h false q w w1 move w' g = subst (λ (u : World (List ℕ) RowState (List ℕ)). IsStop q None h u w') move g

-- in a write: the rows' changes count as written
pub write_leaves : (f : TableForm) (es : List Entry) (v : GroupData) → GroupKept f es v → (e : Entry) → MayCome f.base es e → (s : ℕ) (rows : List (List Value)) → e.act ≡ Wrote f.id s rows → (y : Batch) → batch_of f.id.0 s es ≡ Some y → (batch cells : List CellData) → ReadsWrites f.rows y s rows batch → ReadsSame cells (batch ++ v.cells)
    → Leaves f es v (wrote_data cells v) (λ r. cond (has rows r) (Some s) None) (es ++ e ∷ [])
write_leaves f es v g e may s rows is y q batch cells reads put =
    let step : Steps f (λ i r. row_event (Write s) (has rows r)) es v (es ++ e ∷ []) (wrote_data cells v) = group_wrote f es v g e may s rows is y q batch cells reads put in
    record {
      each = λ n u b m o fb.
          (let z = (table_leaves f (es ++ e ∷ []) (wrote_data cells v) step.kept).each n u b m o fb in
          record {
            sound = z.sound;
            stands = z.stands;
            worlds = record {
              each = λ i l.
                  (let c = z.worlds.each i l in (c.0, (c.1.0, (c.1.1.0, λ r. one_stop s (folder_high n) (has rows r) (shape_in f v c.0 r) (world_in f es v c.0 r) (world_in f (es ++ e ∷ []) (wrote_data cells v) c.0 r) (step.does.each c.0 c.1.0 r) (world_in (over_base f b) [] u i r) (c.1.1.1 r)))));
            };
          });
    }
