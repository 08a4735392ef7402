-- What each entry tells of the states: only a Wrote changes them, and just those of its rows.
use Rattle.std.proofs.Common.{ℕ, ◌≡◌, ◌<◌, ◌≤◌, filter, ◌==◌, ◌&&◌, ◌||◌, nat_le, if◌then◌else◌, Bool, true, false, Option, None, Some, List, [], ◌∷◌, ◌++◌, refl, sym, ◌∙◌, ap, subst, arith, inl, inr}
use Rattle.std.specs.List.{AllByRecursion}
use Rattle.std.proofs.lemmas.Bool.{cases_Bool, cases_eq, ne_eqb, eq-eqb, false≢true}
use Rattle.std.proofs.lemmas.List.{append-nil}
use Rattle.std.proofs.lemmas.List.Elements.{filter-append}
use Rattle.px_values.specs.declared.row.Value.{Value}
use Rattle.px_values.specs.declared.change.Change.{Change}
use Rattle.px_values.specs.declared.change.What.{What}
use Rattle.px_values.specs.declared.name.TableId.{TableId}
use Rattle.px_values.specs.States.{RowState, Shape, apply}
use Rattle.px_trail.specs.declared.entry.Act.{Act}
use Rattle.px_trail.specs.declared.entry.Act.TheVariants.{Made, IndexMade, IndexState, Dropped, Begun, Wrote}
use Rattle.px_trail.specs.declared.entry.Entry.{Entry}
use Rattle.px_trail.specs.Batches.{Batch, batch_of, batch_step, change_of, has, rows_of, unwritten}
use Rattle.px_trail.specs.Trail.{Base, Catalogue, catalogue_of, catalogue_step, last_of, shape_of, shape_step}
use Rattle.px_trail.specs.Legal.{Follows, IsLegal, IsWritable, MayCome}
use Rattle.px_trail.specs.States.{Dated, applied, begun, begun_by, dated, is_row_written, is_written_in, state_of, written}
use Rattle.px_trail.specs.Lasting.{TellSame, lasting, lasts_by}
use Rattle.px_trail.proofs.Growth.{batch_of-snoc, begun-snoc, catalogue-snoc, shape-snoc}
use Rattle.px_trail.proofs.Batches.{batch-none}
use Rattle.px_trail.proofs.States.{applied-append}
use Rattle.px_trail.proofs.Orders.{WritesNone, IsChange, all_map, before, begins_by, begins_else, earlier, now, ordered, others, unnamed, written_kept, none_begun}
use Rattle.px_trail.proofs.Listed.{all-listed, filter_more}

-- 1. Entries that don't last

shape_quiet : (t : ℕ) (shape : Shape) (act : Act) → lasts_by act ≡ false → shape_step t shape act ≡ shape
unfolding shape_step
shape_quiet t shape (Made t' what) h = cc
shape_quiet t shape act h = refl

catalogue_quiet : (c : Catalogue) (act : Act) → lasts_by act ≡ false → catalogue_step c act ≡ c
unfolding catalogue_step
catalogue_quiet c (Made t what) h = cc
catalogue_quiet c (IndexMade t i s what) h = cc
catalogue_quiet c (IndexState t i state s) h = cc
catalogue_quiet c (Dropped t i) h = cc
catalogue_quiet c act h = refl

writes_none : (act : Act) → lasts_by act ≡ false → WritesNone act
writes_none (Wrote t s rows) h = cc
writes_none act h = tt

-- a change that begins isn't written
dated_unwritten : (q : Dated → Bool) (s : ℕ) (o : Option What) → ((w : What) → q (record { stamp = s; what = w }) ≡ false) → filter q (dated s o) ≡ []
dated_unwritten q s None f = refl
dated_unwritten q s (Some w) f = (let e = f w in rw e refl)

begun_unwritten : (b : Base) (es : List Entry) (t : ℕ) (r : List Value) (seat calls : ℕ) (act : Act) → Follows b es seat calls act → filter (λ d. is_row_written es t r d.stamp) (begun_by t r act) ≡ []
unfolding begun_by Follows
begun_unwritten b es t r seat calls (Begun tid s cs) f = elim (cases_eq tid.0 t) [
  | inl q ↦
      (let n : batch_of t s es ≡ None = batch-none b t s es (subst (λ (u : ℕ). last_of b u es < s) q f.0) in
      ap (λ l. filter (λ d. is_row_written es t r d.stamp) l) (begins_by t s r tid cs q) ∙ dated_unwritten (λ d. is_row_written es t r d.stamp) s (change_of cs r) (λ w. ap (λ (o : Option Batch). is_written_in o r) n))
  | inr q ↦ ap (λ l. filter (λ d. is_row_written es t r d.stamp) l) (begins_else t s r tid cs q)
]
begun_unwritten b es t r seat calls act f = refl

-- what is told of a row's states, where the written rows of batches stay
same_states : (b : Base) (es : List Entry) (e : Entry) (t : ℕ) (r : List Value) (p : ℕ) → MayCome b es e → shape_step t (shape_of b es t) e.act ≡ shape_of b es t → ((s : ℕ) → is_row_written (es ++ e ∷ []) t r s ≡ is_row_written es t r s) → state_of b (es ++ e ∷ []) t r p ≡ state_of b es t r p
same_states b es e t r p may shape same =
    let v = b.state t r p in
    let q : Dated → Bool = λ d. is_row_written es t r d.stamp in
    ap (λ (x : Shape). applied x r p v (written (es ++ e ∷ []) t r)) (shape-snoc b es e t ∙ shape)
    ∙ ap (λ (l : List Dated). applied (shape_of b es t) r p v l)
    ((λ i. filter (λ d. same d.stamp i) (begun t r (es ++ e ∷ [])))
    ∙ (ap (λ l. filter q l) (begun-snoc t r es e)
    ∙ (filter-append q (begun t r es) (begun_by t r e.act)
    ∙ (ap (λ l. written es t r ++ l) (begun_unwritten b es t r e.seat e.calls e.act may.follows)
    ∙ append-nil (written es t r)))))

written_quiet : (es : List Entry) (e : Entry) (t : ℕ) (r : List Value) → WritesNone e.act → (s : ℕ) → is_row_written (es ++ e ∷ []) t r s ≡ is_row_written es t r s
written_quiet es e t r none s = ap (λ (o : Option Batch). is_written_in o r) (batch_of-snoc t s es e) ∙ written_kept t s e.seat (batch_of t s es) e.act r none

-- an entry that doesn't last tells a folder nothing
pub quiet-same : (b : Base) (es : List Entry) (e : Entry) → MayCome b es e → lasting e ≡ false → TellSame b es (es ++ e ∷ [])
quiet-same b es e may quiet = record {
  catalogue = catalogue-snoc b es e ∙ catalogue_quiet (catalogue_of b es) e.act quiet;
  states = λ t r p. same_states b es e t r p may (shape_quiet t (shape_of b es t) e.act quiet) (written_quiet es e t r (writes_none e.act quiet));
}

-- 2. Rows that are written

module _ (b : Base) (es : List Entry) (e : Entry) (tid : TableId) (s : ℕ) (rows : List (List Value)) (legal : IsLegal b es) (is : e.act ≡ Wrote tid s rows) (may : MayCome b es e) (f : IsWritable es e.seat tid.0 s rows) (r : List Value) (p : ℕ) where
  abbrev t : ℕ
  t = tid.0

  shape_same : shape_step t (shape_of b es t) e.act ≡ shape_of b es t
  unfolding shape_step
  shape_same = ap (shape_step t (shape_of b es t)) is

  -- a row that isn't named keeps its states
  pub wrote-else : has rows r ≡ false → state_of b (es ++ e ∷ []) t r p ≡ state_of b es t r p
  wrote-else off = same_states b es e t r p may shape_same (λ u. elim (cases_eq s u) [
    | inl q ↦ subst (λ (v : ℕ). is_row_written (es ++ e ∷ []) t r v ≡ is_row_written es t r v) q (unnamed b es e t r (ordered b es t r legal) tid s rows is refl f off)
    | inr q ↦ others b es e t r (ordered b es t r legal) tid s rows is refl f u q
  ])

  -- a row that is named has its change from the stamp on
  pub wrote-here : (w : What) → has rows r ≡ true → change_of f.batch.changes r ≡ Some w → state_of b (es ++ e ∷ []) t r p ≡ (if nat_le s p then apply (shape_of b es t) r (state_of b es t r p) w else state_of b es t r p)
  unfolding applied
  wrote-here w on change =
      let k = ordered b es t r legal in
      let d : Dated = record { stamp = s; what = w } in
      let v = b.state t r p in
      let listed = (all-listed es t r).each s w (subst (λ (o : Option Batch). IsChange o r w) (sym f.is) change) in
      let low = all_map (λ x. IsChange (batch_of t x.stamp es) r x.what) (λ x. x.stamp < s → is_row_written es t r x.stamp ≡ true) (begun t r es) (earlier b es e t r k tid s rows is refl f on) k.known in
      let more : written (es ++ e ∷ []) t r ≡ written es t r ++ d ∷ [] =
      ap (λ l. filter (λ x. is_row_written (es ++ e ∷ []) t r x.stamp) l) (begun-snoc t r es e ∙ (ap (λ l. begun t r es ++ l) (none_begun b es e t r k tid s rows is) ∙ append-nil (begun t r es)))
      ∙ filter_more (λ u. is_row_written es t r u) (λ u. is_row_written (es ++ e ∷ []) t r u) d (now b es e t r k tid s rows is refl f on) (before b es e t r k tid s rows is refl f on) (others b es e t r k tid s rows is refl f) (begun t r es) k.rising low k.front listed in
      ap (λ (x : Shape). applied x r p v (written (es ++ e ∷ []) t r)) (shape-snoc b es e t ∙ shape_same)
      ∙ (ap (λ (l : List Dated). applied (shape_of b es t) r p v l) more
      ∙ applied-append (shape_of b es t) r p v (written es t r) (d ∷ []))
