-- The open batches of a table, with their cells: each step keeps what is true of them.
use Rattle.std.proofs.Common.{◌≡◌, ℕ, ◌<◌, ◌≤◌, Bool, true, not, filter, map, length, get_or, List, [], ◌∷◌, ◌++◌, ap, sym, ◌∙◌, subst, inl, inr, arith}
use Rattle.std.specs.Prelude.{nat_eq}
use Rattle.std.specs.List.{AllByRecursion}
use Rattle.std.proofs.lemmas.Bool.{cases_Bool}
use Rattle.px_values.specs.declared.row.Value.{Value}
use Rattle.px_values.specs.declared.change.Change.{Change}
use Rattle.px_trail.specs.declared.entry.Act.{Act}
use Rattle.px_trail.specs.declared.entry.Act.TheVariants.{Begun, Wrote, Ended, Phase}
use Rattle.px_trail.specs.declared.entry.Entry.{Entry}
use Rattle.px_cells.specs.CellData.{CellData}
use Rattle.px_trail.specs.Legal.{IsWritable}
use Rattle.px_trail.specs.Batches.{batch_of, is_distinct, rows_of}
use Rattle.px_trail.specs.Trail.{last_of}
use Rattle.px_trail.proofs.Batches.{batch-none}
use Rattle.px_indexed.specs.Kept.{RowsKept, DataKept}
use Rattle.px_values.specs.States.{RowState}
use Rattle.px_history.specs.History.{History}
use Rattle.px_groupworld.specs.Group.{TableForm}
use Rattle.px_openbatches.specs.Made.{RowCells, IsComputed}
use Rattle.px_openbatches.specs.Pending.{IsHeldBatch, with_met, fresh_held, held_begun, writes_rows, held_wrote, held_ended, HeldBatch}
use Rattle.px_openbatches.specs.Opens.{IsBatchReady, OpensKept, form_in}
use Rattle.px_openbatches.proofs.Pendings.{some_none}
use Rattle.px_history.specs.Rows.{IsLater}
use Rattle.px_indexed.proofs.Idle.{IsStill, history_idle}
use Rattle.px_openbatches.proofs.Mades.{old_of, made_begun, made_same, made_stays, made_form}
use Rattle.px_openbatches.proofs.Helds.{all_more, all_map, all_end, held_after_begun, held_after_wrote, held_after_ended, held_after_phase, held_after_idle}
use Rattle.px_groupworld.specs.Group.{IndexPart, no_part}
use Rattle.px_indexed.proofs.Rows.{IsEnding, IsPhase}

all_filter : (P : HeldBatch → Type 0) (q : HeldBatch → Bool) (hs : List HeldBatch) → AllByRecursion P hs → AllByRecursion P (filter q hs)
all_filter P q [] a = tt
all_filter P q (h ∷ hs) a = (let r = all_filter P q hs a.1 in elim (cases_Bool (q h)) [ inl e ↦ rw e (a.0, r) | inr e ↦ rw e r ])

both : (P Q : HeldBatch → Type 0) (hs : List HeldBatch) → AllByRecursion P hs → AllByRecursion Q hs → AllByRecursion (λ h. P h × Q h) hs
both P Q [] a c = tt
both P Q (h ∷ hs) a c = ((a.0, c.0), both P Q hs a.1 c.1)

module _ (f : TableForm) (es : List Entry) (xs : List IndexPart) (raised : ℕ) (k : RowsKept f.rows.shape f.base es f.id.0 raised) (hs : List HeldBatch) (opens : OpensKept f es xs hs) where
  ready_on : (e : Entry) (h : HeldBatch) → IsLater h.stamp e.act → IsBatchReady f es xs h → IsBatchReady f (es ++ e ∷ []) xs h
  ready_on e h later q = record { inside = q.inside; distinct = q.distinct; made = made_stays f es (form_in f xs) h.count h.stamp h.changes h.cells q.made e later; born = q.born }

  -- a batch begins: its cells are made from the states that it reads
  pub opens_begun : (low : ℕ) (cells : List CellData) (told : DataKept f.base es f.id.0 f.rows low cells) (e : Entry) (s : ℕ) (cs : List Change) → e.act ≡ Begun f.id s cs → last_of f.base f.id.0 es < s → is_distinct (rows_of cs) ≡ true → (p : ℕ) → last_of f.base f.id.0 es ≤ p → low ≤ p
      → ((i : ℕ) → i < length xs → (get_or xs i no_part).birth ≤ last_of f.base f.id.0 es)
      → (made : List RowCells) → map (λ (x : RowCells). x.row) made ≡ rows_of cs → AllByRecursion (IsComputed f (form_in f xs) (length xs) s cs (old_of f es raised low k hs opens.held cells told p)) made
      → OpensKept f (es ++ e ∷ []) xs (held_begun s cs (length xs) made hs)
  opens_begun low cells told e s cs is new apart p newest within older made rows computed = record {
    held = held_after_begun f.rows.shape f.base es f.id raised k hs opens.held e s cs is new (length xs) made;
    ready = all_end (IsBatchReady f (es ++ e ∷ []) xs) (map (with_met cs) hs) (fresh_held s cs (length xs) made hs)
        (all_map (λ h. IsBatchReady f es xs h × IsHeldBatch es f.id.0 h) (IsBatchReady f (es ++ e ∷ []) xs) (with_met cs) (λ h q. on h q.0 q.1) hs (both (IsBatchReady f es xs) (IsHeldBatch es f.id.0) hs opens.ready opens.held.each))
        (record { inside = omega arith; distinct = apart; made = made_begun f es raised low k hs opens.held cells told e s cs is new p newest within (form_in f xs) (length xs) made rows computed; born = λ i l. (let z = older i l in omega arith) });
  }
    where
      later : (h : HeldBatch) → IsHeldBatch es f.id.0 h → (a : Act) → a ≡ Begun f.id s cs → IsLater h.stamp a
      later h q a z = subst (IsLater h.stamp) (sym z) (λ m. some_none (sym (batch-none f.base f.id.0 s es new) ∙ (ap (λ (v : ℕ). batch_of f.id.0 v es) m ∙ q.is)))

      on : (h : HeldBatch) → IsBatchReady f es xs h → IsHeldBatch es f.id.0 h → IsBatchReady f (es ++ e ∷ []) xs (with_met cs h)
      on h q z = (let y = ready_on e h (later h z e.act is) q in record { inside = y.inside; distinct = y.distinct; made = y.made; born = y.born })

  pub opens_wrote : (e : Entry) (s : ℕ) (rows : List (List Value)) → e.act ≡ Wrote f.id s rows → IsWritable es e.seat f.id.0 s rows → OpensKept f (es ++ e ∷ []) xs (held_wrote s rows hs)
  opens_wrote e s rows is w = record {
    held = held_after_wrote f.rows.shape f.base es f.id raised k hs opens.held e s rows is w;
    ready = all_map (IsBatchReady f es xs) (IsBatchReady f (es ++ e ∷ []) xs) (writes_rows s rows) (λ h q. (let y = ready_on e h (subst (IsLater h.stamp) (sym is) tt) q in record { inside = y.inside; distinct = y.distinct; made = y.made; born = y.born })) hs opens.ready;
  }

  pub opens_ended : (e : Entry) (s : ℕ) → e.act ≡ Ended f.id s → IsEnding es e.seat f.id.0 s → OpensKept f (es ++ e ∷ []) xs (held_ended s hs)
  opens_ended e s is w = record {
    held = held_after_ended f.rows.shape f.base es f.id raised k hs opens.held e s is w;
    ready = all_filter (IsBatchReady f (es ++ e ∷ []) xs) (λ h. not (nat_eq h.stamp s)) hs (all_more (IsBatchReady f es xs) (IsBatchReady f (es ++ e ∷ []) xs) (λ h q. ready_on e h (subst (IsLater h.stamp) (sym is) tt) q) hs opens.ready);
  }

  pub opens_phase : (e : Entry) (s phase : ℕ) → e.act ≡ Phase f.id s phase → IsPhase es f.id.0 s phase → OpensKept f (es ++ e ∷ []) xs hs
  opens_phase e s phase is w = record {
    held = held_after_phase f.rows.shape f.base es f.id raised k hs opens.held e s phase is w;
    ready = all_more (IsBatchReady f es xs) (IsBatchReady f (es ++ e ∷ []) xs) (λ h q. ready_on e h (subst (IsLater h.stamp) (sym is) tt) q) hs opens.ready;
  }

  -- an entry of another table, or a repair
  pub opens_idle : (e : Entry) → IsStill f.id e → OpensKept f (es ++ e ∷ []) xs hs
  opens_idle e idle = record {
    held = held_after_idle f.rows.shape f.base es f.id raised k hs opens.held e idle;
    ready = all_more (IsBatchReady f es xs) (IsBatchReady f (es ++ e ∷ []) xs) (λ h q. record {
      inside = q.inside;
      distinct = q.distinct;
      made = made_same f es (form_in f xs) h.count h.stamp h.changes h.cells q.made (es ++ e ∷ []) (λ r. (let p = history_idle f.rows.shape f.base es f.id raised e idle r in record { old = ap (λ (g : History RowState). g.old h.stamp) p; new = ap (λ (g : History RowState). g.new h.stamp) p }));
      born = q.born;
    }) hs opens.ready;
  }

  -- cells are put into an index's region, or an index is added: the indexes that were there keep their numbers
  pub opens_regions : (xs' : List IndexPart) → length xs ≤ length xs' → ((i : ℕ) → i < length xs → (get_or xs' i no_part).id ≡ (get_or xs i no_part).id) → ((i : ℕ) → i < length xs → (get_or xs' i no_part).birth ≡ (get_or xs i no_part).birth) → OpensKept f es xs' hs
  opens_regions xs' more same births = record {
    held = opens.held;
    ready = all_more (IsBatchReady f es xs) (IsBatchReady f es xs') (λ h q. record {
      inside = (let z = q.inside in omega arith);
      distinct = q.distinct;
      made = made_form f es (form_in f xs) h.count h.stamp h.changes h.cells q.made (form_in f xs') (λ i l. ap f.index ((same i (let z = q.inside in omega arith))));
      born = λ i l. (let z = q.inside in let a = births i (omega arith) in let c = q.born i l in omega arith);
    }) hs opens.ready;
  }
