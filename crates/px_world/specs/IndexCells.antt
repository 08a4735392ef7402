-- The cells of an index as functions of key, stamp and column, and what each event writes over them.
use Rattle.std.specs.Prelude.{◌≡◌, ℕ, Bool, false, cond, not, ◌&&◌, ◌||◌, Option, Some, None, is_none, nat_eq, nat_lt}
use Rattle.px_world.specs.Shape.{WorldShape, has_key}
use Rattle.px_world.specs.World.{Status, Absent, Unverified, Verified, World}
use Rattle.px_world.specs.Events.{Event, Verdict, Leave, ToVerify, ToRetire, ToErase, put_over, happens, May}

-- the statuses, puts and markers that stand at each key and stamp
pub record IndexCells (K X : Type 0) : Type 0 where
  pub status : K → ℕ → Status
  pub put : K → ℕ → ℕ → Option X
  pub del : K → ℕ → ℕ → Bool
  pub fam : K → ℕ → Bool
  pub ver : K → ℕ → Bool

-- nothing at all
abbrev pub no_cells : {K X : Type 0} → IndexCells K X
no_cells = record { status = λ k s. Absent; put = λ k s c. None; del = λ k s c. false; fam = λ k s. false; ver = λ k s. false }

-- a status that is there counts before the one it is written over
abbrev pub status_over : Status → Status → Status
status_over Absent old = old
status_over Unverified old = Unverified
status_over Verified old = Verified

-- cells that are written over others
abbrev pub over : {K X : Type 0} → IndexCells K X → IndexCells K X → IndexCells K X
over a b =
    record {
      status = λ k s. status_over (a.status k s) (b.status k s);
      put = λ k s c. put_over (a.put k s c) (b.put k s c);
      del = λ k s c. a.del k s c || b.del k s c;
      fam = λ k s. a.fam k s || b.fam k s;
      ver = λ k s. a.ver k s || b.ver k s;
    }

-- the index of a world
abbrev pub world_index : {K S X : Type 0} → World K S X → IndexCells K X
world_index w = record { status = w.status; put = w.put; del = w.del; fam = w.fam; ver = w.ver }

-- the world with these cells in its index
abbrev pub with_index : {K S X : Type 0} → World K S X → IndexCells K X → World K S X
with_index w v = record w { status = v.status; put = v.put; del = v.del; fam = v.fam; ver = v.ver }

-- a version with a cell for each included column of the state
abbrev pub put_of : {K S X A : Type 0} → WorldShape K S X A → S → Bool → ℕ → Option X
put_of n s here c = cond (here && nat_lt c n.columns) (n.col s c) None

-- its DeleteColumns: one for each included column that is NULL
abbrev pub del_of : {K S X A : Type 0} → WorldShape K S X A → S → Bool → ℕ → Bool
del_of n s here c = here && (nat_lt c n.columns && is_none (n.col s c))

-- the cells of a mark: a version at the new key, the status alone at the old one
abbrev pub mark_cells : {K S X A : Type 0} → WorldShape K S X A → ℕ → S → S → IndexCells K X
mark_cells n t old new =
    record {
      status = λ k s. cond (nat_eq t s && (has_key n k new || has_key n k old)) Unverified Absent;
      put = λ k s c. put_of n new (nat_eq t s && has_key n k new) c;
      del = λ k s c. del_of n new (nat_eq t s && has_key n k new) c;
      fam = λ k s. false;
      ver = λ k s. false;
    }

-- the cells that close a mark
abbrev pub close_cells : {K S X A : Type 0} → WorldShape K S X A → ℕ → S → S → IndexCells K X
close_cells n t old new =
    record {
      status = λ k s. cond (nat_eq t s && has_key n k new) Verified Absent;
      put = λ k s c. None;
      del = λ k s c. false;
      fam = λ k s. nat_eq t s && (has_key n k old && not (has_key n k new));
      ver = λ k s. false;
    }

-- the cells of a base version
abbrev pub base_cells : {K S X A : Type 0} → WorldShape K S X A → ℕ → S → IndexCells K X
base_cells n b state =
    record {
      status = λ k s. cond (nat_eq b s && has_key n k state) Verified Absent;
      put = λ k s c. put_of n state (nat_eq b s && has_key n k state) c;
      del = λ k s c. del_of n state (nat_eq b s && has_key n k state) c;
      fam = λ k s. false;
      ver = λ k s. false;
    }

-- the cells of a repair. At or below the horizon a verified version is given the state's cells
abbrev pub fix_cells : {K S X A : Type 0} → WorldShape K S X A → ℕ → S → K → ℕ → Verdict → IndexCells K X
fix_cells n h state k t Leave = no_cells
fix_cells n h state k t ToVerify =
    record {
      status = λ k' s. cond (n.same_key k k' && nat_eq t s) Verified Absent;
      put = λ k' s c. put_of n state (not (nat_lt h t) && (n.same_key k k' && nat_eq t s)) c;
      del = λ k' s c. del_of n state (not (nat_lt h t) && (n.same_key k k' && nat_eq t s)) c;
      fam = λ k' s. false;
      ver = λ k' s. false;
    }
fix_cells n h state k t ToRetire = record { status = λ k' s. Absent; put = λ k' s c. None; del = λ k' s c. false; fam = λ k' s. n.same_key k k' && nat_eq t s; ver = λ k' s. false }
fix_cells n h state k t ToErase = record { status = λ k' s. Absent; put = λ k' s c. None; del = λ k' s c. false; fam = λ k' s. false; ver = λ k' s. n.same_key k k' && nat_eq t s }

-- the world goes on by an event that may come, or stays as it is
abbrev pub Moves : {K S X A : Type 0} → WorldShape K S X A → Option (Event K A) → World K S X → World K S X → Type 0
Moves n None w w' = w' ≡ w
Moves n (Some e) w w' = May n w e × (w' ≡ happens n w e)
