-- One removal more, in front of the others.
use Rattle.std.proofs.Common.{◌≡◌, List, [], ◌∷◌, ◌++◌, sym, ap, subst, inl, inr}
use Rattle.std.specs.List.{AllByRecursion}
use Rattle.std.specs.List.Sorted.{IsStrictlySortedBy}
use Rattle.std.specs.declared.cmp.Ordering.TheVariants.{Less, Equal}
use Rattle.px_values.specs.declared.change.Change.{Change}
use Rattle.px_values.specs.declared.change.What.TheVariants.{Gone}
use Rattle.px_values.specs.declared.row.Value.{Value}
use Rattle.px_tables.specs.declared.table.KeyPlace.{KeyPlace}
use Rattle.px_tables.specs.declared.table.Table.{Table}
use Rattle.px_trail.specs.Answers.{IsAmong}
use Rattle.px_trail.specs.Batches.{rows_of}
use Rattle.px_calls.specs.Requires.{IsChangeOf}
use Rattle.px_removals.specs.Removals.{AreRemovals, key_order}
use Rattle.px_removals.specs.inner.Put.{IsPut, place_in, removal}
use Rattle.px_removals.proofs.KeyOrder.{key_order_total, same_row}

-- these changes remove the rows, and fit the table
pub record AreOf (t : Table) (rows : List (List Value)) (cs : List Change) : Type 0 where
  pub removals : AreRemovals t.key rows cs
  pub fits : AllByRecursion (IsChangeOf t) cs

pub none-yet : (t : Table) → AreOf t [] []
unfolding IsStrictlySortedBy IsAmong
none-yet t = record {
  removals = record { ordered = tt; gone = λ c h. absurd h; each = λ row h. absurd h; all = λ row h. absurd h };
  fits = tt;
}

below-all : (key : List KeyPlace) (r x : List Value) (rows : List (List Value)) → key_order key r x ≡ Less → AllByRecursion (λ y. key_order key x y ≡ Less) rows → AllByRecursion (λ y. key_order key r y ≡ Less) rows
below-all key r x [] h a = tt
below-all key r x (y ∷ rows) h a = ((key_order_total key).trans r x y h a.0, below-all key r x rows h a.1)

sorted-put : (key : List KeyPlace) (row : List Value) (cs : List Change) → place_in key row cs ≡ Less → IsStrictlySortedBy (key_order key) (rows_of cs) → IsStrictlySortedBy (key_order key) (row ∷ rows_of cs)
unfolding IsStrictlySortedBy
sorted-put key row [] h s = (tt, tt)
sorted-put key row (c ∷ cs) h s = ((h, below-all key row c.row (rows_of cs) h s.0), s)

among-put : (row : List Value) (xs ys : List (List Value)) → ((r : List Value) → IsAmong r xs → IsAmong r ys) → (r : List Value) → IsAmong r (row ∷ xs) → IsAmong r (row ∷ ys)
unfolding IsAmong
among-put row xs ys h r (inl e) = inl e
among-put row xs ys h r (inr a) = inr (h r a)

gone-put : (row : List Value) (cs : List Change) → ((c : Change) → IsAmong c cs → c.what ≡ Gone) → (c : Change) → IsAmong c (removal row ∷ cs) → c.what ≡ Gone
unfolding IsAmong
gone-put row cs h c (inl e) = ap (λ (x : Change). x.what) (sym e)
gone-put row cs h c (inr a) = h c a

-- the first of them is this row
first-is : (key : List KeyPlace) (row : List Value) (cs : List Change) → place_in key row cs ≡ Equal → IsAmong row (rows_of cs)
unfolding IsAmong
first-is key row [] h = cc
first-is key row (c ∷ cs) h = inl (sym (same_row key row c.row h))

more-each : (row : List Value) (cs : List Change) (rows : List (List Value)) → ((r : List Value) → IsAmong r (rows_of cs) → IsAmong r rows) → (r : List Value) → IsAmong r (rows_of cs) → IsAmong r (row ∷ rows)
unfolding IsAmong
more-each row cs rows h r a = inr (h r a)

same-all : (row : List Value) (cs : List Change) (rows : List (List Value)) → IsAmong row (rows_of cs) → ((r : List Value) → IsAmong r rows → IsAmong r (rows_of cs)) → (r : List Value) → IsAmong r (row ∷ rows) → IsAmong r (rows_of cs)
unfolding IsAmong
same-all row cs rows first h r (inl e) = subst (λ (x : List Value). IsAmong x (rows_of cs)) e first
same-all row cs rows first h r (inr a) = h r a

pub put-in : (t : Table) (rows : List (List Value)) (row : List Value) (cs cs' : List Change) → AreOf t rows cs → IsPut t cs row cs' → AreOf t (row ∷ rows) cs'
put-in t rows row cs cs' h (inl p) = subst (λ (l : List Change). AreOf t (row ∷ rows) l) (sym p.1) (record {
  removals = record {
    ordered = h.removals.ordered;
    gone = h.removals.gone;
    each = more-each row cs rows h.removals.each;
    all = same-all row cs rows (first-is t.key row cs p.0) h.removals.all;
  };
  fits = h.fits;
})
put-in t rows row cs cs' h (inr p) = subst (λ (l : List Change). AreOf t (row ∷ rows) l) (sym p.2) (record {
  removals = record {
    ordered = sorted-put t.key row cs p.0 h.removals.ordered;
    gone = gone-put row cs h.removals.gone;
    each = among-put row (rows_of cs) rows h.removals.each;
    all = among-put row rows (rows_of cs) h.removals.all;
  };
  fits = (p.1, h.fits);
})

-- the rows that are still to be gone through, and those behind them
pub record Reached (t : Table) (all left : List (List Value)) (cs : List Change) : Type 0 where
  pub behind : List (List Value)
  pub is : all ≡ left ++ behind
  pub are : AreOf t behind cs
