-- The rows of a table that were given their base versions have them, and with all of them an index may become active.
use Rattle.std.proofs.Common.{◌≡◌, ◌≢◌, ◌⊎◌, ℕ, ◌<◌, ◌≤◌, ◌==◌, ◌||◌, if◌then◌else◌, Bool, true, false, cond, not, Option, Some, None, List, [], ◌∷◌, ◌++◌, length, get_or, refl, ap, sym, ◌∙◌, subst, inl, inr, arith}
use Rattle.std.specs.Prelude.{nat_eq}
use Rattle.std.proofs.Math.ListN.{get_or-append}
use Rattle.std.proofs.lemmas.Bool.{cases_Bool, cond-true, eq-eqb, false≢true}
use Rattle.px_calls.specs.Requires.{base_from, base_step, is_based}
use Rattle.px_forms.specs.Indexes.{shape_at}
use Rattle.px_groupworld.specs.Group.{GroupData, GroupKept, IndexPart, OpenBatch, TableForm, as_index, no_part, shape_in, world_in}
use Rattle.px_groupworld.specs.Steps.{Bears, Does, Events, at_index, born_data}
use Rattle.px_groupworld.proofs.Entries.{rows_of_group}
use Rattle.px_groupworld.proofs.Queries.{state_is}
use Rattle.px_history.specs.Rows.{fate_by, row_as, row_in}
use Rattle.px_indexed.specs.Worlds.{history_at, row_event, world_at}
use Rattle.px_tables.specs.declared.index.IndexState.TheVariants.{Building}
use Rattle.px_tables.specs.declared.index.NewIndex.{NewIndex}
use Rattle.px_trail.specs.Batches.{Batch, IsDecided, batch_of, change_of, has, rows_of, unwritten}
use Rattle.px_trail.specs.States.{state_of}
use Rattle.px_trail.specs.Trail.{horizon_of}
use Rattle.px_trail.specs.declared.entry.Act.TheVariants.{Based, IndexMade, IndexState}
use Rattle.px_trail.specs.declared.entry.Entry.{Entry}
use Rattle.px_trail.proofs.Orders.{filter-has, has-change}
use Rattle.px_values.specs.States.{RowState}
use Rattle.px_values.specs.declared.change.What.{What}
use Rattle.px_values.specs.declared.name.IndexId.{IndexId}
use Rattle.px_values.specs.declared.name.TableId.{TableId}
use Rattle.px_values.specs.declared.row.Value.{Value}
use Rattle.px_world.specs.Events.{Base as BaseVersion, Comes, Ready}
use Rattle.px_world.specs.Shape.{has_key, is_key_there}
use Rattle.px_world.specs.World.{Fate, Verified, Written, is_undecided, st}
use Rattle.px_built.specs.Built.{HasBase, IsBuiltBy, IsOfRun}
use Rattle.px_built.proofs.Stays.{moves_base, moves_given}

-- ---- entries

from_append : (i : ℕ) (r : List Value) (v : Bool) (es fs : List Entry) → base_from i r v (es ++ fs) ≡ base_from i r (base_from i r v es) fs
unfolding base_from
from_append i r v [] fs = refl
from_append i r v (e ∷ es) fs = from_append i r (base_step i r v e.act) es fs

one_step : (i : ℕ) (r : List Value) (v : Bool) (e : Entry) → base_from i r v (e ∷ []) ≡ base_step i r v e.act
unfolding base_from
one_step i r v e = refl

pub based_entry : (es : List Entry) (e : Entry) (n : ℕ) (r : List Value) → is_based (es ++ e ∷ []) n r ≡ base_step n r (is_based es n r) e.act
based_entry es e n r = from_append n r false es (e ∷ []) ∙ one_step n r (is_based es n r) e

none_at_first : (n : ℕ) (r : List Value) → is_based [] n r ≡ false
unfolding base_from
none_at_first n r = refl

pub built_opened : (f : TableForm) (v : GroupData) (i : ℕ) → IsBuiltBy f [] v i
built_opened f v i = record { each = λ r h. absurd (false≢true (sym (none_at_first (get_or v.indexes i no_part).id r) ∙ h)) }

if_is : {A : Type 0} (v : Bool) (a c : A) → v ≡ true → (if v then a else c) ≡ a
if_is true a c h = refl
if_is false a c h = absurd (false≢true h)

pub built_born : (f : TableForm) (es : List Entry) (v : GroupData) (i : ℕ) (e : Entry) (t : TableId) (id : IndexId) (s : ℕ) (what : NewIndex) → (get_or v.indexes i no_part).id ≡ id.0 → (e.act ≡ IndexMade t id s what) ⊎ (e.act ≡ IndexState t id Building s) → IsBuiltBy f (es ++ e ∷ []) v i
built_born f es v i e t id s what is born = record { each = λ r h. absurd (false≢true (sym (none r born) ∙ (sym (based_entry es e (get_or v.indexes i no_part).id r) ∙ h))) }
  where
    none : (r : List Value) → (e.act ≡ IndexMade t id s what) ⊎ (e.act ≡ IndexState t id Building s) → base_step (get_or v.indexes i no_part).id r (is_based es (get_or v.indexes i no_part).id r) e.act ≡ false
    none r (inl a) = ap (base_step (get_or v.indexes i no_part).id r (is_based es (get_or v.indexes i no_part).id r)) a ∙ if_is (id.0 == (get_or v.indexes i no_part).id) false (is_based es (get_or v.indexes i no_part).id r) (eq-eqb id.0 (get_or v.indexes i no_part).id (sym is))
    none r (inr a) = ap (base_step (get_or v.indexes i no_part).id r (is_based es (get_or v.indexes i no_part).id r)) a ∙ if_is (id.0 == (get_or v.indexes i no_part).id) false (is_based es (get_or v.indexes i no_part).id r) (eq-eqb id.0 (get_or v.indexes i no_part).id (sym is))

-- ---- steps

module _ (f : TableForm) (es : List Entry) (v : GroupData) (k : GroupKept f es v) (ev : Events) (es' : List Entry) (v' : GroupData) (does : Does f ev es v es' v') (i : ℕ) (l : i < length v.indexes) (of_run : (r : List Value) → IsOfRun (ev i r))
    (same : (get_or v'.indexes i no_part).id ≡ (get_or v.indexes i no_part).id) (new : (r : List Value) → is_based es' (get_or v.indexes i no_part).id r ≡ true → (is_based es (get_or v.indexes i no_part).id r ≡ true) ⊎ (ev i r ≡ Some BaseVersion)) (built : IsBuiltBy f es v i) where
  has_now : (r : List Value) → is_based es' (get_or v.indexes i no_part).id r ≡ true → HasBase (shape_in f v i r) (world_in f es' v' i r)
  has_now r h = elim (new r h) [
    | inl had ↦ moves_base (shape_in f v i r) (world_in f es v i r) ((k.indexes i l).kept r) (ev i r) (world_in f es' v' i r) (of_run r) (does.each i l r) (built.each r had)
    | inr is ↦ moves_given (shape_in f v i r) (world_in f es v i r) (ev i r) (world_in f es' v' i r) is (does.each i l r)
  ]

  pub built_stays : IsBuiltBy f es' v' i
  built_stays = record {
    each = λ r h.
        subst (λ (id : ℕ). HasBase (shape_at f.rows.shape (f.index id) r) (world_in f es' v' i r)) (sym same) (has_now r (subst (λ (id : ℕ). is_based es' id r ≡ true) same h));
  }

-- ---- base versions with their entry

here_run : (c own : Bool) → IsOfRun {K = List ℕ} {A = What} (cond c (row_event BaseVersion own) None)
here_run true true = tt
here_run true false = tt
here_run false own = tt

-- a row that is named anew is one of the entry's
named : (same has_it had : Bool) → (if same then has_it || had else had) ≡ true → (had ≡ true) ⊎ (has_it ≡ true)
named true true had q = inr refl
named true false had q = inl q
named false has_it had q = inl q

module _ (f : TableForm) (es : List Entry) (v : GroupData) (k : GroupKept f es v) (e : Entry) (now : GroupData) (i : ℕ) (l : i < length v.indexes) (rows : List (List Value)) (does : Does f (λ j r. at_index i j (row_event BaseVersion (has rows r))) es v (es ++ e ∷ []) now)
    (id : IndexId) (is : e.act ≡ Based id rows) (same : (get_or now.indexes i no_part).id ≡ (get_or v.indexes i no_part).id) (built : IsBuiltBy f es v i) where
  abbrev n : ℕ
  n = (get_or v.indexes i no_part).id

  newly : (r : List Value) → is_based (es ++ e ∷ []) n r ≡ true → (is_based es n r ≡ true) ⊎ (at_index i i (row_event BaseVersion (has rows r)) ≡ Some BaseVersion)
  newly r h = elim (named (id.0 == n) (has rows r) (is_based es n r) (sym (based_entry es e n r ∙ ap (base_step n r (is_based es n r)) is) ∙ h)) [
    | inl had ↦ inl had
    | inr own ↦ inr (cond-true (nat_eq i i) (row_event BaseVersion (has rows r)) None (eq-eqb i i refl) ∙ ap (row_event BaseVersion) own)
  ]

  pub built_based : IsBuiltBy f (es ++ e ∷ []) now i
  built_based = built_stays f es v k (λ j r. at_index i j (row_event BaseVersion (has rows r))) (es ++ e ∷ []) now does i l (λ r. here_run (nat_eq i i) (has rows r)) same newly built

-- ---- other places, and births

module _ (f : TableForm) (es : List Entry) where
  -- what is known of an index doesn't hang on its place, on open batches, and on what was forgotten of the rows
  base_moved : (high low low' : ℕ) (opens opens' : List OpenBatch) (i j : ℕ) (x : IndexPart) (r : List Value) → HasBase (shape_at f.rows.shape (f.index x.id) r) (world_at f.rows.shape f.base es f.id.0 high (as_index f low opens i x) r) → HasBase (shape_at f.rows.shape (f.index x.id) r) (world_at f.rows.shape f.base es f.id.0 high (as_index f low' opens' j x) r)
  base_moved high low low' opens opens' i j x r h = record { decided = h.decided; version = h.version }

  pub built_moved : (v now : GroupData) (i j : ℕ) → now.high ≡ v.high → get_or now.indexes j no_part ≡ get_or v.indexes i no_part → IsBuiltBy f es v i → IsBuiltBy f es now j
  built_moved v now i j high same built = record {
    each = λ r h.
        subst (λ (x : IndexPart). HasBase (shape_at f.rows.shape (f.index x.id) r) (world_at f.rows.shape f.base es f.id.0 now.high (as_index f now.low now.opens j x) r)) (sym same)
        (subst (λ (n : ℕ). HasBase (shape_at f.rows.shape (f.index (get_or v.indexes i no_part).id) r) (world_at f.rows.shape f.base es f.id.0 n (as_index f now.low now.opens j (get_or v.indexes i no_part)) r)) (sym high)
        (base_moved v.high v.low now.low v.opens now.opens i j (get_or v.indexes i no_part) r (built.each r (subst (λ (x : IndexPart). is_based es x.id r ≡ true) same h))));
  }

  pub built_bears : (v : GroupData) (id s : ℕ) (es' : List Entry) → Bears f id s es v es' → (i : ℕ) → i < length v.indexes → ((r : List Value) → is_based es' (get_or v.indexes i no_part).id r ≡ true → is_based es (get_or v.indexes i no_part).id r ≡ true) → IsBuiltBy f es v i → IsBuiltBy f es' (born_data id s v) i
  built_bears v id s es' bears i l old built =
      let part : IndexPart = record { id = id; cells = []; birth = s; horizon = 0; is_built = false } in
      let same : get_or (born_data id s v).indexes i no_part ≡ get_or v.indexes i no_part = get_or-append v.indexes (part ∷ []) no_part i l in
      record {
        each = λ r h.
            subst (λ (n : ℕ). HasBase (shape_at f.rows.shape (f.index n) r) (world_in f es' (born_data id s v) i r)) (ap (λ (x : IndexPart). x.id) (sym same))
            (subst (HasBase (shape_in f v i r)) (sym (bears.others i l r)) (built.each r (old r (subst (λ (x : IndexPart). is_based es' x.id r ≡ true) same h))));
      }

-- ---- ready

some_of : (o : Option Batch) (r : List Value) → is_undecided (fate_by (row_in o r)) ≡ true → (x : Batch) × ((o ≡ Some x) × (has (unwritten x) r ≡ true))
some_of None r k = absurd (false≢true k)
some_of (Some x) r k = (x, (refl, by (change_of x.changes r) (has x.written r) refl refl k))
  where
    by : (c : Option What) (v : Bool) → change_of x.changes r ≡ c → has x.written r ≡ v → is_undecided (fate_by (row_as c v x.ended)) ≡ true → has (unwritten x) r ≡ true
    by None v ec ev q = absurd (false≢true q)
    by (Some z) true ec ev q = absurd (false≢true q)
    by (Some z) false ec ev q = filter-has (λ y. not (has x.written y)) (rows_of x.changes) r (has-change x.changes r z ec) (ap not ev)

by_base : (v : Bool) (g : Fate) → is_undecided (cond v Written g) ≡ true → is_undecided g ≡ true
by_base true g q = absurd (false≢true q)
by_base false g q = q

none_has : (r : List Value) → has [] r ≡ false
unfolding has
none_has r = refl

module _ (f : TableForm) (es : List Entry) (v : GroupData) (k : GroupKept f es v) (i : ℕ) (l : i < length v.indexes) where
  abbrev birth : ℕ
  birth = (get_or v.indexes i no_part).birth

  no_undecided : IsDecided es f.id.0 birth → (r : List Value) (s : ℕ) → s ≤ birth → is_undecided ((history_at f.rows.shape f.base es f.id.0 r).fate s) ≡ false
  no_undecided decided r s m = elim (cases_Bool (is_undecided ((history_at f.rows.shape f.base es f.id.0 r).fate s))) [
    | inl q ↦
        (let z = some_of (batch_of f.id.0 s es) r (by_base (f.base.changed f.id.0 r s) (fate_by (row_in (batch_of f.id.0 s es) r)) (ap is_undecided (sym (((rows_of_group f es v k).tied r).fates s)) ∙ q)) in
        absurd (false≢true (sym (none_has r) ∙ (ap (λ (rows : List (List Value)). has rows r) (sym (decided.each s z.0 m z.1.0)) ∙ z.1.1))))
    | inr q ↦ q
  ]

  world_state : (r : List Value) → st (world_in f es v i r) birth ≡ state_of f.base es f.id.0 r birth
  world_state r = ((rows_of_group f es v k).tied r).states birth ∙ state_is f es v k r birth

  no_key : (r : List Value) (key : List ℕ) → has_key (shape_in f v i r) key None ≡ false
  unfolding has_key
  no_key r key = ap (λ (o : Option (List ℕ)). is_key_there (shape_in f v i r).same_key key o) ((k.indexes i l).form.nothing r)

  pub built_ready : horizon_of f.base f.id.0 es ≤ birth → IsDecided es f.id.0 birth → ((r : List Value) → state_of f.base es f.id.0 r birth ≢ None → is_based es (get_or v.indexes i no_part).id r ≡ true) → IsBuiltBy f es v i → (r : List Value) → Comes (shape_in f v i r) (world_in f es v i r) Ready
  built_ready low decided all built r =
      let raised : v.high ≤ birth = (let h = k.high in omega (arith, h, low)) in (
        raised,
        (
          no_undecided decided r,
          λ key has_it. by key has_it (state_of f.base es f.id.0 r birth) refl,
        ),
      )
    where
      by : (key : List ℕ) → has_key (shape_in f v i r) key (st (world_in f es v i r) birth) ≡ true → (o : RowState) → state_of f.base es f.id.0 r birth ≡ o → (world_in f es v i r).status key birth ≡ Verified
      by key has_it None e = absurd (false≢true (sym (no_key r key) ∙ (ap (has_key (shape_in f v i r) key) (sym (world_state r ∙ e)) ∙ has_it)))
      by key has_it (Some row) e = (built.each r (all r (λ n. (let z : Some row ≡ None = sym e ∙ n in cc)))).version (let h = k.high in omega (arith, h, low)) key has_it
