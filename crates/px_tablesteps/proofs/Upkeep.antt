-- The table's horizon rises, and an index is born, while batches are open.
use Rattle.std.proofs.Common.{◌≡◌, ℕ, ◌<◌, ◌≤◌, false, Some, List, [], ◌∷◌, ◌++◌, length, get_or, refl, ap, sym, subst, arith}
use Rattle.std.proofs.Math.ListN.{get_or-append, length-append}
use Rattle.px_values.specs.States.{RowState}
use Rattle.px_trail.specs.declared.entry.Act.TheVariants.{Raised}
use Rattle.px_trail.specs.declared.entry.Entry.{Entry}
use Rattle.px_trail.specs.Legal.{MayCome}
use Rattle.px_trail.specs.Trail.{last_of}
use Rattle.px_world.specs.Closed.{Closed}
use Rattle.px_world.specs.Events.{Raise}
use Rattle.px_world.specs.World.{World}
use Rattle.px_forms.specs.Indexes.{IsIndexForm, shape_at}
use Rattle.px_indexed.proofs.Idle.{IsIdle, raised_still}
use Rattle.px_groupworld.specs.Group.{TableForm, GroupData, IndexPart, no_part, shape_in, world_in}
use Rattle.px_groupworld.specs.Steps.{Bears, born_data, raised_data}
use Rattle.px_groupworld.proofs.Births.{group_born}
use Rattle.px_groupworld.proofs.Entries.{group_raised, rows_of_group}
use Rattle.px_openbatches.specs.Opens.{IsBatchReady, OpensKept}
use Rattle.px_openbatches.specs.Pending.{HeldBatch, IsHeldBatch}
use Rattle.px_openbatches.proofs.Readies.{opens_idle, opens_regions}
use Rattle.px_tablesteps.specs.Kept.{AreMarksClosed, TableBears, TableKept, TableSteps}
use Rattle.px_tablesteps.proofs.Lists.{held_three}
use Rattle.px_tablesteps.proofs.Steps.{table_other}

module _ (f : TableForm) (es : List Entry) (v : GroupData) (hs : List HeldBatch) (k : TableKept f es v hs) (e : Entry) (may : MayCome f.base es e) where
  pub table_raised : (h : ℕ) → e.act ≡ Raised f.id h → TableSteps f (λ i r. Some (Raise h)) es v (es ++ e ∷ []) (raised_data h v) hs
  table_raised h is = table_other f es v hs k (λ i r. Some (Raise h)) (es ++ e ∷ []) (raised_data h v) (group_raised f es v k.group e may h is) (λ i r. tt) refl (λ i l. refl)
      (opens_idle f es v.indexes v.high (rows_of_group f es v k.group) hs k.opens e (raised_still f.id e h is))

  module _ (idle : IsIdle f.id e) (id s : ℕ) (new : last_of f.base f.id.0 es < s) (drawn : s ≤ last_of f.base f.id.0 (es ++ e ∷ [])) (form : IsIndexForm (f.index id)) where
    abbrev part : IndexPart
    part = record { id = id; cells = []; birth = s; horizon = 0; is_built = false }

    abbrev next : GroupData
    next = born_data id s v

    bears : Bears f id s es v (es ++ e ∷ [])
    bears = group_born f es v k.group e may idle id s new drawn form

    part_at : (i : ℕ) → i < length v.indexes → get_or next.indexes i no_part ≡ get_or v.indexes i no_part
    part_at i l = get_or-append v.indexes (part ∷ []) no_part i l

    shut_born : (h : HeldBatch) → IsHeldBatch es f.id.0 h → IsBatchReady f es v.indexes h → AreMarksClosed f es v h → AreMarksClosed f (es ++ e ∷ []) next h
    shut_born h is ready q = record {
      whole = q.whole;
      inside = q.inside;
      closed = record {
        each = λ i l r x.
            (let a = q.inside in let c = ready.inside in
            let m : i < length v.indexes = omega arith in
            subst (λ (y : IndexPart). Closed (shape_at f.rows.shape (f.index y.id) r) (world_in f (es ++ e ∷ []) next i r) h.stamp) (sym (part_at i m))
            (subst (λ (w : World (List ℕ) RowState (List ℕ)). Closed (shape_in f v i r) w h.stamp) (sym (bears.others i m r)) (q.closed.each i l r x)));
      };
    }

    opens_now : OpensKept f (es ++ e ∷ []) v.indexes hs
    opens_now = opens_idle f es v.indexes v.high (rows_of_group f es v k.group) hs k.opens e idle.still

    pub table_born : TableBears f id s es v (es ++ e ∷ []) hs
    table_born = record {
      kept = record {
        group = bears.kept;
        opens = opens_regions f (es ++ e ∷ []) v.indexes v.high (rows_of_group f (es ++ e ∷ []) next bears.kept) hs opens_now next.indexes (let n = length-append v.indexes (part ∷ []) in omega arith) (λ i l. ap (λ (y : IndexPart). y.id) (part_at i l)) (λ i l. ap (λ (y : IndexPart). y.birth) (part_at i l));
        same = k.same;
        shut = held_three (IsHeldBatch es f.id.0) (IsBatchReady f es v.indexes) (AreMarksClosed f es v) (AreMarksClosed f (es ++ e ∷ []) next) shut_born hs k.opens.held.each k.opens.ready k.shut;
      };
      bears = bears;
    }
