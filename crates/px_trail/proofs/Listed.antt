-- Every change of a batch is listed among the begun ones, and what a Wrote adds to the written ones.
use Rattle.std.proofs.Common.{ℕ, ◌≡◌, ◌<◌, ◌≤◌, filter, ◌==◌, ◌&&◌, ◌||◌, nat_le, if◌then◌else◌, Bool, true, false, Option, None, Some, List, [], ◌∷◌, ◌++◌, refl, sym, ◌∙◌, ap, subst, arith, append_assoc, ◌⊎◌, inl, inr}
use Rattle.std.specs.List.{AllByRecursion}
use Rattle.std.proofs.lemmas.Bool.{cases_Bool, cases_eq, cases_lt, ne_eqb, eq-eqb, false≢true}
use Rattle.std.proofs.lemmas.List.{append-nil}
use Rattle.px_values.specs.declared.row.Value.{Value}
use Rattle.px_values.specs.declared.change.Change.{Change}
use Rattle.px_values.specs.declared.change.What.{What}
use Rattle.px_values.specs.declared.name.TableId.{TableId}
use Rattle.px_values.specs.States.{RowState, Shape, apply}
use Rattle.px_trail.specs.declared.entry.Act.{Act}
use Rattle.px_trail.specs.declared.entry.Act.TheVariants.{Begun, Phase, Wrote, Ended}
use Rattle.px_trail.specs.declared.entry.Entry.{Entry}
use Rattle.px_trail.specs.Batches.{Batch, batch_from, batch_of, batch_step, begun_batch, change_of, has, rows_of}
use Rattle.px_trail.specs.Trail.{Base, last_of}
use Rattle.px_trail.specs.Legal.{Follows, IsLegal, IsWritable, MayCome}
use Rattle.px_trail.specs.States.{Dated, IsRising, begun, begun_by, dated, is_row_written, is_written_in, written}
use Rattle.px_trail.proofs.Growth.{batch_of-snoc, begun-snoc, legal-induct}
use Rattle.px_trail.proofs.Batches.{same_batch}
use Rattle.px_trail.proofs.Orders.{IsChange, IsFront, Ordered, all_map, filter_none, ordered, begins_by}

-- the change is in the list
unfoldable pub IsListed : Dated → List Dated → Type 0
IsListed d [] = ⊥
IsListed d (x ∷ ds) = (x ≡ d) ⊎ IsListed d ds

listed_left : (d : Dated) (xs ys : List Dated) → IsListed d xs → IsListed d (xs ++ ys)
unfolding IsListed
listed_left d [] ys h = absurd h
listed_left d (x ∷ xs) ys (inl h) = inl h
listed_left d (x ∷ xs) ys (inr h) = inr (listed_left d xs ys h)

listed_end : (d : Dated) (xs : List Dated) → IsListed d (xs ++ d ∷ [])
unfolding IsListed
listed_end d [] = inl refl
listed_end d (x ∷ xs) = inr (listed_end d xs)

listed_above : (d : Dated) (n : ℕ) (ds : List Dated) → AllByRecursion (λ x. n < x.stamp) ds → IsListed d ds → n < d.stamp
unfolding IsListed
listed_above d n [] a h = absurd h
listed_above d n (x ∷ ds) a (inl h) = subst (λ (y : Dated). n < y.stamp) h a.0
listed_above d n (x ∷ ds) a (inr h) = listed_above d n ds a.1 h

-- one more passes, all before it did, and so it is the last of those that pass
module _ (q q' : ℕ → Bool) (d : Dated) (here : q' d.stamp ≡ true) (before : q d.stamp ≡ false) (others : (u : ℕ) → (d.stamp ≡ u → ⊥) → q' u ≡ q u) where
  none_more : (ds : List Dated) → AllByRecursion (λ x. d.stamp < x.stamp) ds → AllByRecursion (λ x. q x.stamp ≡ false) ds → AllByRecursion (λ x. q' x.stamp ≡ false) ds
  none_more [] up a = tt
  none_more (x ∷ ds) up a = (others x.stamp (λ e. absurd (let l = up.0 in omega arith)) ∙ a.0, none_more ds up.1 a.1)

  pub filter_more : (ds : List Dated) → IsRising ds → AllByRecursion (λ x. x.stamp < d.stamp → q x.stamp ≡ true) ds → IsFront q ds → IsListed d ds → filter (λ x. q' x.stamp) ds ≡ filter (λ x. q x.stamp) ds ++ d ∷ []
  unfolding IsListed
  filter_more [] rising low f h = absurd h
  filter_more (x ∷ ds) rising low f (inl h) = here_first f
    where
      same : x.stamp ≡ d.stamp
      same = ap (λ (y : Dated). y.stamp) h

      here_first : IsFront q (x ∷ ds) → filter (λ x. q' x.stamp) (x ∷ ds) ≡ filter (λ x. q x.stamp) (x ∷ ds) ++ d ∷ []
      here_first (inl g) = absurd (false≢true (sym before ∙ (ap q (sym same) ∙ g.0)))
      here_first (inr g) =
          let up : AllByRecursion (λ y. d.stamp < y.stamp) ds = subst (λ (n : ℕ). AllByRecursion (λ y. n < y.stamp) ds) same rising.0 in
          let a : q' x.stamp ≡ true = ap q' same ∙ here in
          let c : q x.stamp ≡ false = g.0 in
          let n = filter_none q ds g.1 in
          let n' = filter_none q' ds (none_more ds up g.1) in
          rw (a, c, n, n') (ap (λ (y : Dated). y ∷ []) h)
  filter_more (x ∷ ds) rising low f (inr h) = later f (filter_more ds rising.1 low.1)
    where
      under : x.stamp < d.stamp
      under = listed_above d x.stamp ds rising.0 h

      later : IsFront q (x ∷ ds) → (IsFront q ds → IsListed d ds → filter (λ x. q' x.stamp) ds ≡ filter (λ x. q x.stamp) ds ++ d ∷ []) → filter (λ x. q' x.stamp) (x ∷ ds) ≡ filter (λ x. q x.stamp) (x ∷ ds) ++ d ∷ []
      later (inr g) rest = absurd (false≢true (sym g.0 ∙ low.0 under))
      later (inl g) rest =
          let c : q x.stamp ≡ true = g.0 in
          let a : q' x.stamp ≡ true = others x.stamp (λ e. absurd (let l = under in omega arith)) ∙ c in
          rw (a, c) (ap (λ (l : List Dated). x ∷ l) (rest g.1 h))

-- the changes of batches are listed
pub record AreListed (es : List Entry) (t : ℕ) (r : List Value) : Type 0 where
  pub each : (s : ℕ) (w : What) → IsChange (batch_of t s es) r w → IsListed (record { stamp = s; what = w }) (begun t r es)

if_change_back : (v : Bool) (x y : Batch) (r : List Value) (w : What) → x.changes ≡ y.changes → IsChange (if v then Some y else Some x) r w → IsChange (Some x) r w
if_change_back true x y r w same h = ap (λ (cs : List Change). change_of cs r) same ∙ h
if_change_back false x y r w same h = h

-- the act begins this change
abbrev IsBegun : ℕ → ℕ → Act → List Value → What → Type 0
IsBegun t s (Begun t' s' cs) r w = (t'.0 ≡ t) × (s' ≡ s) × (change_of cs r ≡ Some w)
IsBegun t s act r w = ⊥

begun_back : (v : Bool) (seat : ℕ) (cs : List Change) (r : List Value) (w : What) → IsChange (if v then Some (begun_batch seat cs) else None) r w → (v ≡ true) × (change_of cs r ≡ Some w)
begun_back true seat cs r w h = (refl, h)
begun_back false seat cs r w h = absurd h

-- a change stands in a batch that was there, or in one that begins
change_back : (t s seat : ℕ) (o : Option Batch) (act : Act) (r : List Value) (w : What) → IsChange (batch_step t s o seat act) r w → IsChange o r w ⊎ IsBegun t s act r w
unfolding batch_step
change_back t s seat None (Begun t' s' cs) r w h =
    (let z = begun_back ((t'.0 == t) && (s' == s)) seat cs r w h in let both = same_batch t s t'.0 s' z.0 in inr (both.0, both.1, z.1))
change_back t s seat None act r w h = absurd h
change_back t s seat (Some x) (Phase t' s' p) r w h = inl (if_change_back ((t'.0 == t) && (s' == s)) x (record x { phase = p }) r w refl h)
change_back t s seat (Some x) (Wrote t' s' rows) r w h = inl (if_change_back ((t'.0 == t) && (s' == s)) x (record x { written = x.written ++ rows }) r w refl h)
change_back t s seat (Some x) (Ended t' s') r w h = inl (if_change_back ((t'.0 == t) && (s' == s)) x (record x { ended = true }) r w refl h)
change_back t s seat (Some x) act r w h = inl h

begun_listed : (t s : ℕ) (r : List Value) (w : What) (act : Act) (ds : List Dated) → IsBegun t s act r w → IsListed (record { stamp = s; what = w }) (ds ++ begun_by t r act)
begun_listed t s r w (Begun t' s' cs) ds h =
    let d : Dated = record { stamp = s; what = w } in
    let q : begun_by t r (Begun t' s' cs) ≡ d ∷ [] = begins_by t s' r t' cs h.0 ∙ (ap (dated s') h.2 ∙ ap (λ (u : ℕ). record { stamp = u; what = w } ∷ []) h.1) in
    subst (λ (l : List Dated). IsListed d (ds ++ l)) (sym q) (listed_end d ds)
begun_listed t s r w act ds h = absurd h

listed_step : (es : List Entry) (e : Entry) (t : ℕ) (r : List Value) → AreListed es t r → AreListed (es ++ e ∷ []) t r
listed_step es e t r k = record {
  each = λ s w h.
      (let g : IsChange (batch_step t s (batch_of t s es) e.seat e.act) r w = subst (λ (o : Option Batch). IsChange o r w) (batch_of-snoc t s es e) h in
      subst (IsListed (record { stamp = s; what = w })) (sym (begun-snoc t r es e))
      (elim (change_back t s e.seat (batch_of t s es) e.act r w g) [
        | inl c ↦ listed_left (record { stamp = s; what = w }) (begun t r es) (begun_by t r e.act) (k.each s w c)
        | inr c ↦ begun_listed t s r w e.act (begun t r es) c
      ]));
}

listed_from : (es more : List Entry) (t : ℕ) (r : List Value) → AreListed es t r → AreListed (es ++ more) t r
listed_from es [] t r k = subst (λ (l : List Entry). AreListed l t r) (sym (append-nil es)) k
listed_from es (e ∷ more) t r k = subst (λ (l : List Entry). AreListed l t r) (append_assoc es (e ∷ []) more) (listed_from (es ++ e ∷ []) more t r (listed_step es e t r k))

pub all-listed : (es : List Entry) (t : ℕ) (r : List Value) → AreListed es t r
unfolding batch_from
all-listed es t r = listed_from [] es t r (record { each = λ s w h. absurd h })
