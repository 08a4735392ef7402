-- A point at which all batches of a table are written, as the group tells it.
use Rattle.std.proofs.Common.{◌≡◌, ◌≤◌, inl, inr, ℕ, true, false, not, ◌&&◌, ◌||◌, Some, List, [], ◌∷◌, map, refl, sym, ap, subst, ◌∙◌, arith}
use Rattle.std.specs.List.{AllByRecursion, list_any}
use Rattle.std.specs.Option.{is_some}
use Rattle.std.proofs.lemmas.Bool.{cases_Bool, cases_eq, false≢true, ne_eqb}
use Rattle.px_values.specs.declared.change.Change.{Change}
use Rattle.px_values.specs.declared.row.Value.{Value}
use Rattle.px_values.proofs.Equal.{row_order-Decides}
use Rattle.px_trail.specs.declared.entry.Entry.{Entry}
use Rattle.px_trail.specs.Batches.{Batch, IsDecided, IsSoundOption, batch_of, has, rows_of, unwritten}
use Rattle.px_trail.specs.Legal.{IsLegal}
use Rattle.px_trail.specs.Trail.{Base}
use Rattle.px_trail.proofs.Batches.{batch-sound}
use Rattle.px_trail.proofs.Orders.{or_true}
use Rattle.px_openbatches.specs.Pending.{HeldBatch, IsHeldBatch, is_in, is_left}
use Rattle.px_phases.specs.Batch.{AreHeldAs, BatchData, IsHeldAs}
use Rattle.px_tablesteps.proofs.Shuts.{whole_is}
use Rattle.px_group.specs.Group.{IsTallied, batch_in}
use Rattle.px_group.specs.declared.group.Begun.{Begun}
use Rattle.px_group.specs.declared.group.Group.{Group}

-- all rows of the changes are written
written_all : (cs : List Change) (ws : List (List Value)) → ((r : List Value) → has (rows_of cs) r ≡ true → has ws r ≡ true) → list_any (λ (c : Change). not (has ws c.row)) cs ≡ false
unfolding has
written_all [] ws f = refl
written_all (c ∷ cs) ws f = (let
    here : has ws c.row ≡ true = f c.row (ap (λ v. v || has (rows_of cs) c.row) ((row_order-Decides c.row c.row).1 refl))
    in ap (λ v. not v || list_any (λ (d : Change). not (has ws d.row)) cs) here ∙ written_all cs ws (λ r h. f r (or_true _ (has (rows_of cs) r) h)))

none_left : (b : BatchData) (h : HeldBatch) → IsHeldAs b h → is_some b.puts ≡ false → is_left h ≡ false
none_left b h alike none = written_all h.changes h.written (λ r there. alike.written r ∙ (ap (λ v. not v && has (rows_of b.changes) r) none ∙ (ap (λ (cs : List Change). has (rows_of cs) r) (sym alike.changes) ∙ there)))

module _ (es : List Entry) (t : ℕ) (P : Begun → Type 0) where
  held_in : (ms : List Begun) (hs : List HeldBatch) → AreHeldAs (map batch_in ms) hs → AllByRecursion (IsHeldBatch es t) hs → AllByRecursion P ms → (s : ℕ) → is_in s hs ≡ true → (h : HeldBatch) × ((h.stamp ≡ s) × (IsHeldBatch es t h × ((m : Begun) × (IsHeldAs m.batch h × P m))))
  held_in [] [] alike each all s is = absurd (false≢true is)
  held_in [] (h ∷ hs) alike each all s is = absurd alike
  held_in (m ∷ ms) [] alike each all s is = absurd alike
  held_in (m ∷ ms) (h ∷ hs) alike each all s is = elim (cases_eq h.stamp s) [
    | inl e ↦ (h, (e, (each.0, (m, (alike.0, all.0)))))
    | inr e ↦ held_in ms hs alike.1 each.1 all.1 s (sym (ap (λ v. v || is_in s hs) (ne_eqb h.stamp s e)) ∙ is)
  ]

some_is : (x y : Batch) → Some x ≡ Some y → x ≡ y
some_is x y e = cc

-- no open batch at or below the point is still to write
pub decided : (b : Base) (es : List Entry) (g : Group) (hs : List HeldBatch) → IsLegal b es → IsTallied b es g hs → (p : ℕ) → AllByRecursion (λ (m : Begun). m.batch.stamp ≤ p → is_some m.batch.puts ≡ false) g.batches.items → IsDecided es g.table.id.0 p
decided b es g hs legal k p all = record {
  each = λ s x le is. elim (cases_Bool x.ended) [
    | inl over ↦ (subst IsSoundOption is (batch-sound b g.table.id.0 s es legal)).ended over
    | inr running ↦
        let f = held_in es g.table.id.0 (λ (m : Begun). m.batch.stamp ≤ p → is_some m.batch.puts ≡ false) g.batches.items hs k.batches k.held.each all s (k.held.all s x is running) in
        let h = f.0 in
        let held = f.1.1.0 in
        let m = f.1.1.1.0 in
        let alike = f.1.1.1.1.0 in
        let low : m.batch.stamp ≤ p = (let one = f.1.0 in let two = alike.stamp in omega (arith, one, two, le)) in
        let same : held.batch ≡ x = some_is held.batch x (sym held.is ∙ (ap (λ (n : ℕ). batch_of g.table.id.0 n es) f.1.0 ∙ is)) in
        subst (λ (y : Batch). unwritten y ≡ []) same (whole_is es g.table.id.0 h held (none_left m.batch h alike (f.1.1.1.1.1 low)))
  ];
}
