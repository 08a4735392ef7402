-- More room is taken: what is true of a server stays so.
use Rattle.std.proofs.Common.{◌≡◌, ◌<◌, ◌≤◌, ℕ, zero, suc, true, Option, List, [], ◌∷◌, length, get_or, refl, sym, ap, subst, ◌∙◌, arith}
use Rattle.std.specs.List.{slice_set}
use Rattle.px_outside.specs.declared.disk.Disk.{Ghosts}
use Rattle.px_trail.specs.Recorded.{Recorded}
use Rattle.px_trail.specs.Trail.{Base}
use Rattle.px_trail.specs.declared.entry.Entry.{Entry}
use Rattle.px_schema.specs.declared.standing.Standing.{Standing}
use Rattle.px_catalog.specs.Catalogue.{standing_of}
use Rattle.px_catalog.specs.declared.catalog.Catalog.{Catalog}
use Rattle.px_region.specs.declared.region.Region.{Region}
use Rattle.px_group.specs.declared.group.Group.{Group}
use Rattle.px_group.specs.declared.group.IndexRegion.{IndexRegion}
use Rattle.px_defined.specs.Defined.{IsSameTable}
use Rattle.px_reading.specs.Looked.{AreLookedAt, HasLooked, IsLookedAt}
use Rattle.px_reading.proofs.Looked.{no_look, no_looks}
use Rattle.px_recovery.specs.Kept.{IsServer}
use Rattle.px_server.specs.Kept.{AreGroups, AreShown, HasFailed, HasServerParts, IsKept, IsTold, has_told}
use Rattle.px_server.specs.Others.{Beginning, OthersStay}

-- of the trail
pub roomy : {D : Type 0} (d : Ghosts D) (b : Base) (sound premise : Type 0) (began : Beginning) (disk : D) (catalog : Catalog) (standing : Standing) (groups : List Group) (trail : Recorded) (late : Option Entry) (closed : Option ℕ) → IsKept d b sound premise began disk catalog standing groups trail late closed
    → (trail' : Recorded) → trail'.entries ≡ trail.entries → trail.room ≤ trail'.room → IsKept d b sound premise began disk catalog standing groups trail' late closed
roomy d b sound premise began disk catalog standing groups trail late closed k trail' same more = record {
  told = subst (λ (es : List Entry). IsTold b es closed (standing_of catalog) standing) (sym same) k.told;
  each = subst (λ (es : List Entry). AreGroups b es closed standing.tables groups) (sym same) k.each;
  shown = λ given running. subst (λ (es : List Entry). AreShown b es standing.indexes groups) (sym same) (k.shown given running);
  server = subst (λ (es : List Entry). IsServer d b premise (HasServerParts d b sound catalog groups) disk es late closed) (sym same) k.server;
  room = (let room = k.room in omega (arith, room, more));
  blamed = subst (λ (es : List Entry). has_told es ≡ true → HasFailed d disk) (sym same) k.blamed;
  last_call = k.last_call;
  others = λ given tells. subst (λ (es : List Entry). OthersStay d b began disk es) (sym same) (k.others given tells);
}

-- of a group
pub same_looked : (g g' : Group) → IsSameTable g g' → HasLooked g g'
same_looked g g' s = record {
  table = s.beside.table;
  rows = subst (λ (r : Region). IsLookedAt g.rows r) (sym s.beside.rows) (no_look g.rows);
  indexes = subst (λ (xs : List IndexRegion). AreLookedAt g.indexes.items xs) (sym s.indexes) (no_looks g.indexes.items);
  batches = s.beside.batches;
  points = s.beside.points;
  last = s.last;
  horizon = s.beside.horizon;
}

-- the element that was set is there
pub set_there : {A : Type 0} (xs : List A) (i : ℕ) (y d : A) → i < length xs → get_or (slice_set xs i y) i d ≡ y
set_there [] i y d l = absurd (omega (arith, l))
set_there (x ∷ xs) zero y d l = refl
set_there (x ∷ xs) (suc i) y d l = set_there xs i y d (omega (arith, l))

pub set_long : {A : Type 0} (xs : List A) (i : ℕ) (y : A) → length (slice_set xs i y) ≡ length xs
set_long [] i y = refl
set_long (x ∷ xs) zero y = refl
set_long (x ∷ xs) (suc i) y = ap suc (set_long xs i y)

-- the elements at one place are the same
pub same_there : {A : Type 0} (xs : List A) (i : ℕ) (x y : A) → i < length xs → get_or xs i x ≡ x → get_or xs i y ≡ y → x ≡ y
same_there [] i x y l at also = absurd (omega (arith, l))
same_there (z ∷ zs) zero x y l at also = sym at ∙ also
same_there (z ∷ zs) (suc i) x y l at also = same_there zs i x y (omega (arith, l)) at also

-- there is one at each place
pub some_there : {A : Type 0} (xs : List A) (i : ℕ) → i < length xs → (x : A) × (get_or xs i x ≡ x)
some_there [] i l = absurd (omega (arith, l))
some_there (x ∷ xs) zero l = (x, refl)
some_there (x ∷ xs) (suc i) l = some_there xs i (omega (arith, l))
