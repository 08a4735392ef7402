-- The states before and after a change stay as they were at its begin, whatever comes later.
use Rattle.std.proofs.Common.{◌≡◌, ℕ, Bool, true, false, ◌&&◌, ◌==◌, ◌-◌, if◌then◌else◌, Option, Some, None, List, [], ◌∷◌, ◌++◌, refl, ap, ◌∙◌}
use Rattle.px_values.specs.declared.row.Value.{Value}
use Rattle.px_values.specs.declared.change.What.{What}
use Rattle.px_values.specs.States.{RowState, Shape, apply}
use Rattle.px_trail.specs.declared.entry.Act.{Act}
use Rattle.px_trail.specs.declared.entry.Act.TheVariants.{Begun, Wrote, Ended}
use Rattle.px_trail.specs.declared.entry.Entry.{Entry}
use Rattle.px_trail.specs.Batches.{change_of, has}
use Rattle.px_trail.specs.Trail.{Base, shape_of}
use Rattle.px_world.specs.World.{is_begun}
use Rattle.px_world.proofs.Steps.{set_stamp-other}
use Rattle.px_history.specs.History.{History, write_change, end_change, expected_state}
use Rattle.px_history.specs.Rows.{IsLater, SameChange, base_history, begun_as, history_step, history_from, history_of}
use Rattle.px_history.proofs.Changes.{from-snoc}

itself : (h : History RowState) (s : ℕ) → SameChange h h s
itself h s = record { old = refl; new = refl }

pub step_same : (sh : Shape) (t : ℕ) (r : List Value) (h : History RowState) (s : ℕ) (a : Act) → IsLater s a → SameChange h (history_step sh t r h a) s
unfolding history_step
step_same sh t r h s (Begun t' s' cs) n = by (t'.0 == t) (change_of cs r)
  where
    by : (v : Bool) (o : Option What) → SameChange h (if v then begun_as sh r s' o h else h) s
    by false o = itself h s
    by true None = itself h s
    by true (Some w) = record { old = set_stamp-other s' (expected_state h (s' - 1)) h.old s n; new = set_stamp-other s' (apply sh r (expected_state h (s' - 1)) w) h.new s n }
step_same sh t r h s (Wrote t' s' rows) n = elim ((t'.0 == t) && has rows r) as (λ v. SameChange h (if v then write_change s' h else h) s) [ true ↦ record { old = refl; new = refl } | false ↦ itself h s ]
step_same sh t r h s (Ended t' s') n = elim ((t'.0 == t) && is_begun (h.fate s')) as (λ v. SameChange h (if v then end_change s' h else h) s) [ true ↦ record { old = refl; new = refl } | false ↦ itself h s ]
step_same sh t r h s act n = itself h s

-- one entry more, where the table keeps its shape
pub history-snoc : (b : Base) (es : List Entry) (e : Entry) (t : ℕ) (r : List Value) → shape_of b (es ++ e ∷ []) t ≡ shape_of b es t → history_of b (es ++ e ∷ []) t r ≡ history_step (shape_of b es t) t r (history_of b es t r) e.act
history-snoc b es e t r same = ap (λ (sh : Shape). history_from sh t r (base_history b t r) (es ++ e ∷ [])) same ∙ from-snoc (shape_of b es t) b es e t r

pub change-stays : (b : Base) (es : List Entry) (e : Entry) (t : ℕ) (r : List Value) (s : ℕ) → shape_of b (es ++ e ∷ []) t ≡ shape_of b es t → IsLater s e.act → SameChange (history_of b es t r) (history_of b (es ++ e ∷ []) t r) s
change-stays b es e t r s same n =
    let z = step_same (shape_of b es t) t r (history_of b es t r) s e.act n in
    let p = history-snoc b es e t r same in
    record { old = ap (λ (h : History RowState). h.old s) p ∙ z.old; new = ap (λ (h : History RowState). h.new s) p ∙ z.new }
