-- The batch of a ticket, in the server's own parts: where it is, and in which phase.
use Rattle.std.proofs.Common.{◌≡◌, ◌≢◌, ◌<◌, ℕ, zero, suc, Bool, false, Option, None, Some, List, [], ◌∷◌, length, get_or, slice_get, sym, ap, subst, ◌∙◌, arith}
use Rattle.std.specs.List.{AllByRecursion}
use Rattle.px_outside.specs.declared.disk.Disk.{Ghosts}
use Rattle.px_values.specs.declared.name.TableId.{TableId}
use Rattle.px_tables.specs.declared.table.Table.{Table}
use Rattle.px_trail.specs.declared.entry.Entry.{Entry}
use Rattle.px_trail.specs.Batches.{BatchPhase, IsBatchIn, batch_of}
use Rattle.px_trail.specs.Recorded.{Recorded}
use Rattle.px_trail.specs.Trail.{Base}
use Rattle.px_calls.specs.Requires.{TicketIn}
use Rattle.px_calls.specs.declared.ticket.Ticket.{Ticket}
use Rattle.px_schema.specs.declared.standing.Standing.{Standing}
use Rattle.px_catalog.specs.declared.catalog.Catalog.{Catalog}
use Rattle.px_standing.proofs.Looked.{lacks}
use Rattle.px_group.specs.Group.{IsRightGroup, as_phase}
use Rattle.px_group.specs.declared.group.Begun.{Begun}
use Rattle.px_group.specs.declared.group.Group.{Group}
use Rattle.px_group.specs.declared.group.Phase.{Phase}
use Rattle.px_batching.specs.Steps.{StandsInPhase}
use Rattle.px_server.specs.Kept.{HasTallied, IsKept}
use Rattle.px_server.specs.Others.{Beginning}
use Rattle.px_server.specs.Shown.{Shown, known_by}
use Rattle.px_server.proofs.Lists.{all_at}
use Rattle.px_server.proofs.Released.{group_of, place_in}
use Rattle.px_server.proofs.Running.{has_batch, is_at, none_running}

-- two reads of one place
pub same_read : {A : Type 0} (xs : List A) (i : ℕ) (x y : A) → i < length xs → x ≡ get_or xs i x → y ≡ get_or xs i y → x ≡ y
same_read [] i x y l a c = absurd (omega (arith, l))
same_read (z ∷ xs) zero x y l a c = a ∙ sym c
same_read (z ∷ xs) (suc i) x y l a c = same_read xs i x y (omega (arith, l)) a c

-- the ticket's phase in the words of the server's fields
pub ticket_in : (b : Base) (damaged : ℕ → ℕ → Bool) (t : Ticket) (phase : BatchPhase) (v w : Shown) → v ≡ w → TicketIn (known_by b damaged w) t phase → IsBatchIn v.entries v.seat t.table.0 t.stamp phase
ticket_in b damaged t phase v w same mine = subst (λ (u : Shown). TicketIn (known_by b damaged u) t phase) (sym same) mine

module _ {D : Type 0} (d : Ghosts D) (b : Base) (sound premise : Type 0) (began : Beginning) (disk : D) (catalog : Catalog) (standing : Standing) (groups : List Group) (trail : Recorded) (late : Option Entry) (closed : Option ℕ)
    (k : IsKept d b sound premise began disk catalog standing groups trail late closed) (t : Ticket) (seat : ℕ) (p : Phase) (mine : IsBatchIn trail.entries seat t.table.0 t.stamp (as_phase p)) (open_ : mine.batch.ended ≡ false) where
  -- its table stands
  pub stands_somewhere : AllByRecursion (λ (x : Table). x.id.0 ≢ t.table.0) standing.tables → ⊥
  stands_somewhere none = none_running b trail.entries k.told.legal t.table.0 t.stamp mine.batch mine.is open_ (lacks b trail.entries standing k.told.agrees t.table.0 none)

  module _ (running : closed ≡ None) (place : ℕ) (found : place < length standing.tables) (numbered : (none : Table) → (get_or standing.tables place none).id ≡ t.table) (g : Group) (read : g ≡ get_or groups place g) where
    pub there : place < length groups
    there = place_in groups standing.tables k.each.stand place found

    pub own_table : g.table.id ≡ t.table
    own_table = group_of groups standing.tables k.each.stand place g there (sym read) t.table numbered

    pub tallied_there : HasTallied b trail.entries g
    tallied_there = all_at (HasTallied b trail.entries) groups place g there (sym read) (k.each.tallied running)

    pub right_there : IsRightGroup g
    right_there = all_at IsRightGroup groups place g there (sym read) (k.each.right running)

    mine_there : IsBatchIn trail.entries seat g.table.id.0 t.stamp (as_phase p)
    mine_there = subst (λ (u : TableId). IsBatchIn trail.entries seat u.0 t.stamp (as_phase p)) (sym own_table) mine

    -- its group has it
    pub batch_somewhere : ((m : ℕ) (x : Begun) → slice_get g.batches.items m ≡ Some x → x.batch.stamp ≡ t.stamp → ⊥) → ⊥
    batch_somewhere none = (let
        a = tallied_there
        in let
        f = has_batch b trail.entries g a.held a.tallied t.stamp mine.batch (ap (λ (u : TableId). batch_of u.0 t.stamp trail.entries) own_table ∙ mine.is) open_
        in none f.place f.batch f.is f.stamp)

    -- in its phase
    pub batch_is : (m : ℕ) → m < length g.batches.items → ((x : Begun) → slice_get g.batches.items m ≡ Some x → x.batch.stamp ≡ t.stamp) → StandsInPhase g m p
    batch_is m l stamp = is_at b trail.entries g tallied_there.held tallied_there.tallied m t.stamp l stamp p seat mine_there
