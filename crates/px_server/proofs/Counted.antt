-- What a status counts, and what the trail tells of it.
use Rattle.std.proofs.Common.{◌≡◌, ◌<◌, ℕ, zero, suc, inl, inr, Option, Some, None, List, [], ◌∷◌, length, get_or, map, min, refl, sym, ap, subst, ◌∙◌, arith}
use Rattle.std.specs.List.{AllByRecursion}
use Rattle.px_values.specs.declared.name.TableId.{TableId}
use Rattle.px_tables.specs.declared.index.Index.{Index}
use Rattle.px_tables.specs.declared.table.Table.{Table}
use Rattle.px_trail.specs.Answers.{IsAmong}
use Rattle.px_trail.specs.Legal.{IsLegal}
use Rattle.px_trail.specs.Trail.{catalogue_of, closing_call, horizon_of, index_of, last_of, table_of}
use Rattle.px_schema.specs.declared.standing.Standing.{Standing}
use Rattle.px_group.specs.declared.group.Group.{Group}
use Rattle.px_recovery.specs.Tables.{indexes_of}
use Rattle.px_standing.specs.Agrees.{Agrees}
use Rattle.px_standing.proofs.Finder.{each_among}
use Rattle.px_standing.proofs.Looked.{found_at}
use Rattle.px_calls.specs.Calls.{AreCountsRising, AreRising, DidCount, IsCountOf, IsFound}
use Rattle.px_calls.specs.Causes.{Refuses, status_cause}
use Rattle.px_calls.specs.Known.{Known}
use Rattle.px_calls.specs.declared.fault.StepFault.TheVariants.{Memory, NoTable}
use Rattle.px_calls.specs.declared.status.IndexCount.{IndexCount}
use Rattle.px_calls.specs.declared.status.Status.{Status}
use Rattle.px_server.specs.Counts.{bare, count_as}
use Rattle.px_server.specs.Kept.{HasTallied}
use Rattle.px_server.specs.Shown.{HasLogged, logged_by, logged_in}
use Rattle.px_server.proofs.Seen.{stays}

-- ---- the counts are those of the indexes

first_is : {A : Type 0} (a z : A) (xs ys : List A) → a ∷ xs ≡ z ∷ ys → a ≡ z
first_is a z xs ys same = cc

rest_is : {A : Type 0} (a z : A) (xs ys : List A) → a ∷ xs ≡ z ∷ ys → xs ≡ ys
rest_is a z xs ys same = cc

counts_all : (P : Index → Type 0) (Q : IndexCount → Type 0) → ((x : Index) (c : IndexCount) → bare c ≡ count_as x → P x → Q c) → (xs : List Index) (cs : List IndexCount) → map bare cs ≡ map count_as xs → AllByRecursion P xs → AllByRecursion Q cs
counts_all P Q f [] [] same all = tt
counts_all P Q f [] (c ∷ cs) same all = absurd cc
counts_all P Q f (x ∷ xs) [] same all = tt
counts_all P Q f (x ∷ xs) (c ∷ cs) same all = (f x c (first_is (bare c) (count_as x) (map bare cs) (map count_as xs) same) all.0, counts_all P Q f xs cs (rest_is (bare c) (count_as x) (map bare cs) (map count_as xs) same) all.1)

counts_rising : (xs : List Index) (cs : List IndexCount) → map bare cs ≡ map count_as xs → AreRising xs → AreCountsRising cs
unfolding AreRising AreCountsRising
counts_rising [] [] same up = tt
counts_rising [] (c ∷ cs) same up = absurd cc
counts_rising (x ∷ xs) [] same up = tt
counts_rising (x ∷ xs) (c ∷ cs) same up =
    let here = first_is (bare c) (count_as x) (map bare cs) (map count_as xs) same in
    let rest = rest_is (bare c) (count_as x) (map bare cs) (map count_as xs) same in (
      counts_all (λ y. x.id.0 < y.id.0) (λ y. c.index.0 < y.index.0) (λ y d e l. (let one = ap (λ (z : IndexCount). z.index.0) here in let two = ap (λ (z : IndexCount). z.index.0) e in omega (arith, one, two, l))) xs cs rest up.0,
      counts_rising xs cs rest up.1,
    )

counts_among : (xs : List Index) (cs : List IndexCount) → map bare cs ≡ map count_as xs → (x : Index) → IsAmong x xs → (c : IndexCount) × IsAmong c cs × (c.index ≡ x.id)
unfolding IsAmong
counts_among [] cs same x among = absurd among
counts_among (y ∷ xs) [] same x among = absurd cc
counts_among (y ∷ xs) (c ∷ cs) same x (inl e) = (c, inl refl, ap (λ (z : IndexCount). z.index) (first_is (bare c) (count_as y) (map bare cs) (map count_as xs) same) ∙ ap (λ (z : Index). z.id) e)
counts_among (y ∷ xs) (c ∷ cs) same x (inr i) = (let r = counts_among xs cs (rest_is (bare c) (count_as y) (map bare cs) (map count_as xs) same) x i in (r.0, inr r.1, r.2))

-- ---- the cells in the logs

logged_here : (gs : List Group) (place : ℕ) (g : Group) → place < length gs → get_or gs place g ≡ g → IsAmong (logged_in g) (map logged_in gs)
unfolding IsAmong
logged_here [] place g l is = absurd (omega (arith, l))
logged_here (y ∷ gs) zero g l is = inl (ap logged_in is)
logged_here (y ∷ gs) (suc place) g l is = inr (logged_here gs place g (omega (arith, l)) is)

pub has_logged : (gs : List Group) (place : ℕ) (g : Group) → place < length gs → get_or gs place g ≡ g → (t : TableId) → g.table.id ≡ t → (n : ℕ) → n ≡ min (logged_by g) 18446744073709551615 → HasLogged (map logged_in gs) t.0 n
has_logged gs place g l is t own n counted = (logged_by g, subst (λ (x : TableId). IsAmong (record { table = x.0; cells = logged_by g }) (map logged_in gs)) own (logged_here gs place g l is), counted)

-- ---- what is answered

one_there : (ts : List Table) (place : ℕ) (x y : Table) → place < length ts → get_or ts place x ≡ get_or ts place y
one_there [] place x y l = absurd (omega (arith, l))
one_there (z ∷ ts) zero x y l = refl
one_there (z ∷ ts) (suc place) x y l = one_there ts place x y (omega (arith, l))

module _ (k : Known) (legal : IsLegal k.base k.seen) (closed : Option ℕ) (closing : closing_call k.seen ≡ closed) (running : closed ≡ None) (standing : Standing) (agrees : Agrees standing (catalogue_of k.base k.seen)) (t : TableId) where
  pub counts_no_memory : (sound : Type 0) → Refuses (status_cause sound t.0) k k Memory
  counts_no_memory sound = (tt, stays k legal, closing ∙ running)

  pub counts_no_table : (sound : Type 0) → table_of k.base k.seen t.0 ≡ None → Refuses (status_cause sound t.0) k k NoTable
  counts_no_table sound none = (none, stays k legal, closing ∙ running)

  module _ (place : ℕ) (l : place < length standing.tables) (number : (none : Table) → (get_or standing.tables place none).id ≡ t) (g : Group) (own : g.table.id ≡ t) (told : HasTallied k.base k.seen g) where
    found_here : IsFound k.base k.seen (record { table = get_or standing.tables place g.table; indexes = indexes_of t.0 standing.indexes; at = length k.seen })
    found_here = found_at k.base k.seen standing agrees (record { table = get_or standing.tables place g.table; indexes = indexes_of t.0 standing.indexes; at = length k.seen }) place l (λ none. one_there standing.tables place g.table none l)
        (ap (λ (x : TableId). indexes_of x.0 standing.indexes) (sym (number g.table))) refl

    pub did_count : (s : Status) → s.last ≡ g.last → s.horizon ≡ g.horizon → map bare s.indexes ≡ map count_as (indexes_of t.0 standing.indexes) → DidCount k k t s
    did_count s last horizon counts = record {
      finds = record { sees = stays k legal; running = closing ∙ running };
      last = last ∙ (sym told.tallied.last ∙ ap (λ (x : TableId). last_of k.base x.0 k.seen) own);
      horizon = horizon ∙ (sym told.tallied.horizon ∙ ap (λ (x : TableId). horizon_of k.base x.0 k.seen) own);
      each = counts_all (λ x. (index_of k.base k.seen x.id.0 ≡ Some x) × (x.table.0 ≡ t.0)) (IsCountOf k.base k.seen t.0)
          (λ x c same of. (x, ap (λ (z : IndexCount). index_of k.base k.seen z.index.0) same ∙ of.0, of.1, ap (λ (z : IndexCount). z.name) same, ap (λ (z : IndexCount). z.state) same))
          (indexes_of t.0 standing.indexes) s.indexes counts (each_among _ (indexes_of t.0 standing.indexes) (λ x i. (let of = (found_here.indexes x).0 i in (of.0, of.1 ∙ ap (λ (y : TableId). y.0) (number g.table)))));
      rising = counts_rising (indexes_of t.0 standing.indexes) s.indexes counts found_here.rising;
      all = λ x at of. counts_among (indexes_of t.0 standing.indexes) s.indexes counts x ((found_here.indexes x).1 (at, of ∙ ap (λ (y : TableId). y.0) (sym (number g.table))));
    }
