-- The path that is chosen may be read, has the rows of the query, and shows what it names.
use Rattle.std.proofs.Common.{◌≡◌, ◌≢◌, ◌<◌, inl, inr, ℕ, Bool, true, false, not, ◌&&◌, cond, nat_eq, nat_le, eq-eqb, List, [], ◌∷◌, ◌++◌, map, refl, sym, ap, subst, ◌∙◌, Option, Some, None, Result, Ok, Err, IfOk, arith, if◌then◌else◌}
use Rattle.std.specs.List.{AllByRecursion, filter, flat_map}
use Rattle.std.specs.Option.{option_map}
use Rattle.std.proofs.lemmas.Cmp.{nat_list_cmp_total}
use Rattle.std.proofs.lemmas.List.Elements.{All-cons, All-nil}
use Rattle.std.proofs.lemmas.Bool.Decides.{nat_tests}
use Rattle.std.specs.Cmp.Lexicographic.{slice_cmp}
use Rattle.std.specs.Ordering.{is_lt, nat_cmp, ordering_reverse}
use Rattle.std.specs.Str.{bytes_eq}
use Rattle.std.specs.declared.cmp.Ordering.{Ordering}
use Rattle.std.specs.declared.cmp.Ordering.TheVariants.{Less, Equal, Greater}
use Rattle.px_values.specs.declared.row.Value.{Value}
use Rattle.px_keys.specs.Range.{IsBetween}
use Rattle.px_tables.specs.declared.found.Found.{Found}
use Rattle.px_tables.specs.declared.index.Index.{Index}
use Rattle.px_tables.specs.declared.index.IndexState.{IndexState}
use Rattle.px_tables.specs.declared.index.IndexState.TheVariants.{Active}
use Rattle.px_tables.specs.declared.table.Table.{Table}
use Rattle.px_trail.specs.Answers.{IsAmong}
use Rattle.px_bind.specs.declared.request.Hint.{Hint}
use Rattle.px_bind.specs.declared.request.Hint.TheVariants as hints
use Rattle.px_expr.specs.Holds.{Selects, truth_of}
use Rattle.px_expr.specs.declared.bound.Bound.{Bound}
use Rattle.px_expr.specs.declared.bound.Truth.{Truth}
use Rattle.px_expr.specs.declared.bound.Truth.TheVariants as truths
use Rattle.px_calls.specs.declared.query.By.{By}
use Rattle.px_calls.specs.declared.query.Path.{Path}
use Rattle.px_calls.specs.declared.query.Point.{Point}
use Rattle.px_calls.specs.Calls.{AreRising}
use Rattle.px_calls.specs.Looks.{index_path_in, is_below, is_on, key_by, key_less, shown_by, shown_in}
use Rattle.px_calls.specs.Requires.{CanReadBy, IsReadable, index_among, index_of_found}
use Rattle.px_paths.specs.Paths.{FitsRow, is_held, shown_on}
use Rattle.px_paths.proofs.Keys.{held_shown}
use Rattle.px_conjuncts.specs.Conjuncts.{all_true}
use Rattle.px_conjuncts.proofs.Rests.{conjuncts_are}
use Rattle.px_gather.specs.Query.{IsPathFor}
use Rattle.px_scan.specs.declared.asks.PathFault.{PathFault}
use Rattle.px_plan.specs.Asked.{FaultFor, TakesFor, columns_asked}
use Rattle.px_plan.specs.Choice.{IsBest, Lacks, TakesPath, HoldsAll, candidates, followed_hint, hinted, if_usable, index_named, is_active, is_born, is_usable, path_or_else, rank_of}
use Rattle.px_plan.specs.Naming.{columns_in, holds_all}
use Rattle.px_plan.specs.PathColumns.{path_of}
use Rattle.px_plan.specs.Plans.{row_key_on}
use Rattle.px_plan.specs.declared.plan.Asked.{Asked}
use Rattle.px_plan.specs.declared.plan.PlanFault.TheVariants.{IndexJoin}
use Rattle.px_plan.specs.declared.rank.Rank.{Rank}
use Rattle.px_plan.proofs.IndexRows.{all_left, all_right, and_left, and_right, row_has_key, same_shown, same_truth}
use Rattle.px_planned.specs.Queries.{IsPathBy, IsPathTaken, by_index, first_best, hinted_or, is_true, joins_at, lacks, meets_all, path_taken, query_of, takes_at, values_at}
use Rattle.px_planned.specs.declared.planned.Planned.{Planned}
use Rattle.px_planned.proofs.Taken.{best_is, is_best}

-- ---- conditions

true_is : (t : Truth) → is_true t ≡ true → t ≡ truths.True
true_is truths.True h = refl
true_is truths.False h = absurd (let z : ◌≡◌ {A = Bool} false true = h in cc)
true_is truths.Unknown h = absurd (let z : ◌≡◌ {A = Bool} false true = h in cc)

met : (bs : List Bound) (row : List Value) → meets_all bs row ≡ true → all_true row bs
met [] row h = All-nil (λ b. Selects b row)
met (b ∷ bs) row h =
    All-cons (λ c. Selects c row) b bs (true_is (truth_of row b) (and_left (is_true (truth_of row b)) (meets_all bs row) h)) (met bs row (and_right (is_true (truth_of row b)) (meets_all bs row) h))

same_meets : (t : Table) (x : Index) (row : List Value) (bs : List Bound) → holds_all t x (flat_map columns_in bs) ≡ true → meets_all bs (shown_on t x row) ≡ meets_all bs row
same_meets t x row [] h = refl
same_meets t x row (b ∷ bs) h =
    let first = same_truth t x (shown_on t x row) row (λ k e. held_shown t x row k e) b (all_left (is_held t x) (columns_in b) (flat_map columns_in bs) h) in
    let rest = same_meets t x row bs (all_right (is_held t x) (columns_in b) (flat_map columns_in bs) h) in
    ap (λ (u : Truth). is_true u && meets_all bs (shown_on t x row)) first ∙ ap (λ (u : Bool). is_true (truth_of row b) && u) rest

-- ---- keys

greater_turned : (o r : Ordering) → o ≡ ordering_reverse r → r ≢ Greater → is_lt o ≡ false
greater_turned o Less e h = ap is_lt e
greater_turned o Equal e h = ap is_lt e
greater_turned o Greater e h = absurd (h refl)

less_is : (o : Ordering) → o ≡ Less → is_lt o ≡ true
less_is o e = ap is_lt e

not_below : (low k : List ℕ) → slice_cmp nat_cmp low k ≢ Greater → not (key_less k low) ≡ true
not_below low k h = ap not (greater_turned (slice_cmp nat_cmp k low) (slice_cmp nat_cmp low k) (nat_list_cmp_total.antisymm k low) h)

between_on : (path : Path) (k : List ℕ) → IsBetween path.low path.high k → is_on path k ≡ true
between_on path k h = by_high path.high refl h
  where
    by_high : (high : Option (List ℕ)) → path.high ≡ high → IsBetween path.low path.high k → is_on path k ≡ true
    by_high None e h =
        let b : IsBetween path.low None k = subst (λ (o : Option (List ℕ)). IsBetween path.low o k) e h in
        ap (λ (o : Option (List ℕ)). not (key_less k path.low) && is_below o k) e ∙ ap (λ (u : Bool). u && true) (not_below path.low k b)
    by_high (Some high) e h =
        let b : IsBetween path.low (Some high) k = subst (λ (o : Option (List ℕ)). IsBetween path.low o k) e h in
        ap (λ (o : Option (List ℕ)). not (key_less k path.low) && is_below o k) e ∙ ap (λ (u : Bool). u && key_less k high) (not_below path.low k b.0) ∙ less_is (slice_cmp nat_cmp k high) b.1

-- ---- the chosen index stands among the definitions

-- it is one of these, may be used at the point, and holds the columns
pub record Stands (indexes : List Index) (point : Option ℕ) (t : Table) (columns : List ℕ) (i : Index) : Type 0 where
  pub among : IsAmong i indexes
  pub usable : is_usable point i ≡ true
  pub holds : holds_all t i columns ≡ true

record Usable (indexes : List Index) (point : Option ℕ) (i : Index) : Type 0 where
  pub among : IsAmong i indexes
  pub usable : is_usable point i ≡ true

some_is : (i j : Index) → ◌≡◌ {A = Option Index} (Some i) (Some j) → i ≡ j
some_is i j e = cc

somes_are : (i j : Index) → ◌≡◌ {A = Option (Option Index)} (Some (Some i)) (Some (Some j)) → i ≡ j
somes_are i j e = cc

named_among : (indexes : List Index) (name : List ℕ) (i : Index) → index_named indexes name ≡ Some i → IsAmong i indexes
unfolding IsAmong
named_among [] name i h = absurd (let z : ◌≡◌ {A = Option Index} None (Some i) = h in cc)
named_among (x ∷ indexes) name i h = by_name (named_among indexes name i) (bytes_eq x.name name) refl
  where
    by_name : (index_named indexes name ≡ Some i → IsAmong i indexes) → (b : Bool) → bytes_eq x.name name ≡ b → IsAmong i (x ∷ indexes)
    by_name more true e = inl (some_is x i (sym (ap (λ (b : Bool). if b then Some x else index_named indexes name) e) ∙ h))
    by_name more false e = inr (more (sym (ap (λ (b : Bool). if b then Some x else index_named indexes name) e) ∙ h))

usable_is : (point : Option ℕ) (o : Option Index) (i : Index) → if_usable point o ≡ Some (Some i) → (o ≡ Some i) × (is_usable point i ≡ true)
usable_is point None i h = absurd (let z : ◌≡◌ {A = Option (Option Index)} None (Some (Some i)) = h in cc)
usable_is point (Some x) i h = by_test (is_usable point x) refl
  where
    by_test : (b : Bool) → is_usable point x ≡ b → (◌≡◌ {A = Option Index} (Some x) (Some i)) × (is_usable point i ≡ true)
    by_test true e =
        let same : x ≡ i = somes_are x i (sym (ap (λ (b : Bool). if b then Some (Some x) else None) e) ∙ h) in (ap Some same, ap (is_usable point) (sym same) ∙ e)
    by_test false e = absurd (let z : ◌≡◌ {A = Option (Option Index)} None (Some (Some i)) = sym (ap (λ (b : Bool). if b then Some (Some x) else None) e) ∙ h in cc)

followed_stands : (indexes : List Index) (point : Option ℕ) (hint : Hint) (i : Index) → followed_hint indexes point hint ≡ Some (Some i) → Usable indexes point i
followed_stands indexes point hints.NoIndex i h = absurd (let z : ◌≡◌ {A = Option (Option Index)} (Some None) (Some (Some i)) = h in cc)
followed_stands indexes point (hints.Index name) i h =
    let u = usable_is point (index_named indexes name) i h in record { among = named_among indexes name i u.0; usable = u.1 }

hinted_stands : (indexes : List Index) (point : Option ℕ) (hs : List Hint) (i : Index) → hinted indexes point hs ≡ Some (Some i) → Usable indexes point i
hinted_stands indexes point [] i h = absurd (let z : ◌≡◌ {A = Option (Option Index)} None (Some (Some i)) = h in cc)
hinted_stands indexes point (hint ∷ hs) i h = by_first (hinted_stands indexes point hs i) (followed_hint indexes point hint) refl
  where
    by_first : (hinted indexes point hs ≡ Some (Some i) → Usable indexes point i) → (o : Option (Option Index)) → followed_hint indexes point hint ≡ o → Usable indexes point i
    by_first more None e = more (sym (ap (λ (o : Option (Option Index)). path_or_else o (hinted indexes point hs)) e) ∙ h)
    by_first more (Some by) e = followed_stands indexes point hint i (e ∙ (sym (ap (λ (o : Option (Option Index)). path_or_else o (hinted indexes point hs)) e) ∙ h))

-- a candidate that is an index
candidate : (indexes : List Index) (test : Index → Bool) (before behind : List (Option Index)) (i : Index) → map Some (filter test indexes) ≡ before ++ Some i ∷ behind → IsAmong i indexes × (test i ≡ true)
unfolding IsAmong
candidate [] test [] behind i h = absurd (let z : ◌≡◌ {A = List (Option Index)} [] (Some i ∷ behind) = h in cc)
candidate [] test (b ∷ before) behind i h = absurd (let z : ◌≡◌ {A = List (Option Index)} [] (b ∷ (before ++ Some i ∷ behind)) = h in cc)
candidate (x ∷ indexes) test before behind i h = by_test (λ bs e. candidate indexes test bs behind i e) (test x) refl before h
  where
    first_is : (a b : Option Index) (xs ys : List (Option Index)) → ◌≡◌ {A = List (Option Index)} (a ∷ xs) (b ∷ ys) → a ≡ b
    first_is a b xs ys e = cc

    rest_is : (a b : Option Index) (xs ys : List (Option Index)) → ◌≡◌ {A = List (Option Index)} (a ∷ xs) (b ∷ ys) → xs ≡ ys
    rest_is a b xs ys e = cc

    by_test : ((bs : List (Option Index)) → map Some (filter test indexes) ≡ bs ++ Some i ∷ behind → IsAmong i indexes × (test i ≡ true)) → (b : Bool) → test x ≡ b → (bs : List (Option Index)) → map Some (filter test (x ∷ indexes)) ≡ bs ++ Some i ∷ behind → IsAmong i (x ∷ indexes) × (test i ≡ true)
    by_test more true e [] h =
        let k : Some x ∷ map Some (filter test indexes) ≡ Some i ∷ behind = sym (ap (λ (b : Bool). map Some (cond b (x ∷ filter test indexes) (filter test indexes))) e) ∙ h in
        let same : x ≡ i = some_is x i (first_is (Some x) (Some i) (map Some (filter test indexes)) behind k) in (inl same, ap test (sym same) ∙ e)
    by_test more true e (b ∷ bs) h =
        let k : Some x ∷ map Some (filter test indexes) ≡ b ∷ (bs ++ Some i ∷ behind) = sym (ap (λ (b : Bool). map Some (cond b (x ∷ filter test indexes) (filter test indexes))) e) ∙ h in
        let r = more bs (rest_is (Some x) b (map Some (filter test indexes)) (bs ++ Some i ∷ behind) k) in (inr r.0, r.1)
    by_test more false e bs h = (let r = more bs (sym (ap (λ (b : Bool). map Some (cond b (x ∷ filter test indexes) (filter test indexes))) e) ∙ h) in (inr r.0, r.1))

best_stands : (indexes : List Index) (point : Option ℕ) (t : Table) (columns : List ℕ) (rank : Option Index → _) (i : Index) → IsBest rank (candidates t point columns indexes) (Some i) → Stands indexes point t columns i
best_stands indexes point t columns rank i h = by_before h.before h.stands
  where
    by_before : (before : List (Option Index)) → candidates t point columns indexes ≡ before ++ Some i ∷ h.behind → Stands indexes point t columns i
    by_before [] e = absurd (let z : ◌≡◌ {A = List (Option Index)} (None ∷ map Some (filter (λ x. is_usable point x && holds_all t x columns) indexes)) (Some i ∷ h.behind) = e in cc)
    by_before (b ∷ before) e =
        let k : map Some (filter (λ x. is_usable point x && holds_all t x columns) indexes) ≡ before ++ Some i ∷ h.behind = cc in
        let c = candidate indexes (λ x. is_usable point x && holds_all t x columns) before h.behind i k in
        record { among = c.0; usable = and_left (is_usable point i) (holds_all t i columns) c.1; holds = and_right (is_usable point i) (holds_all t i columns) c.1 }

pub taken_stands : (found : Found) (point : Option ℕ) (a : Asked) (columns : List ℕ) (i : Index) → TakesFor found point a columns (Some i) → Stands found.indexes point found.table columns i
taken_stands found point a columns i h = by_hint (hinted found.indexes point a.hints) refl
  where
    by_hint : (hint : Option (Option Index)) → hinted found.indexes point a.hints ≡ hint → Stands found.indexes point found.table columns i
    by_hint None e =
        best_stands found.indexes point found.table columns (rank_of found.table a.conjuncts a.order) i
        (subst (λ (o : Option (Option Index)). TakesPath o found.table columns (IsBest (rank_of found.table a.conjuncts a.order) (candidates found.table point columns found.indexes)) (Some i)) e h)
    by_hint (Some by) e =
        let k : TakesPath (Some by) found.table columns (IsBest (rank_of found.table a.conjuncts a.order) (candidates found.table point columns found.indexes)) (Some i) = subst (λ (o : Option (Option Index)). TakesPath o found.table columns (IsBest (rank_of found.table a.conjuncts a.order) (candidates found.table point columns found.indexes)) (Some i)) e h in
        let u = hinted_stands found.indexes point a.hints i (e ∙ ap Some (sym k.0)) in
        record { among = u.among; usable = u.usable; holds = k.1 }

-- ---- and is found by its number

below_all : (n : ℕ) (xs : List Index) (i : Index) → AllByRecursion (λ y. n < y.id.0) xs → IsAmong i xs → n < i.id.0
unfolding IsAmong
below_all n [] i h a = absurd a
below_all n (x ∷ xs) i h (inl e) = subst (λ (y : Index). n < y.id.0) e h.0
below_all n (x ∷ xs) i h (inr a) = below_all n xs i h.1 a

apart : (m n : ℕ) → m < n → nat_eq m n ≡ false
apart m n h = grind (arith, nat_tests)

pub among_found : (xs : List Index) (i : Index) → AreRising xs → IsAmong i xs → index_among i.id.0 xs ≡ Some i
unfolding IsAmong AreRising index_among
among_found [] i r a = absurd a
among_found (x ∷ xs) i r (inl e) =
    let same : nat_eq x.id.0 i.id.0 ≡ true = eq-eqb x.id.0 i.id.0 (ap (λ (y : Index). y.id.0) e) in
    ap (λ (b : Bool). if b then Some x else index_among i.id.0 xs) same ∙ ap Some e
among_found (x ∷ xs) i r (inr a) =
    let other : nat_eq x.id.0 i.id.0 ≡ false = apart x.id.0 i.id.0 (below_all x.id.0 xs i r.0 a) in
    ap (λ (b : Bool). if b then Some x else index_among i.id.0 xs) other ∙ among_found xs i r.1 a

-- ---- it may be read

active_is : (s : IndexState) → is_active s ≡ true → s ≡ Active
active_is Active h = refl
active_is s h = cc

readable : (p : Point) (i : Index) → is_usable (Some p.stamp) i ≡ true → IsReadable p (Some i)
readable p i h =
    let b : nat_le i.birth p.stamp ≡ true = and_right (is_active i.state) (is_born (Some p.stamp) i.birth) h in
    (active_is i.state (and_left (is_active i.state) (is_born (Some p.stamp) i.birth) h), grind (arith, nat_tests, b))

-- ---- a path that is taken needs no join

pub taken_alone : (found : Found) (stamp : ℕ) (a : Asked) (columns : List ℕ) (by : Option Index) → columns ≡ columns_asked a → TakesFor found (Some stamp) a columns by → joins_at a found stamp ≡ false
taken_alone found stamp a columns by c h = by_hint (hinted found.indexes (Some stamp) a.hints) refl
  where
    by_index_of : (hinted by : Option Index) → by ≡ hinted → HoldsAll found.table columns by → lacks (Some hinted) found.table columns ≡ false
    by_index_of None by e h = refl
    by_index_of (Some i) by e h = ap not (subst (λ (o : Option Index). HoldsAll found.table columns o) e h)

    by_hint : (hint : Option (Option Index)) → hinted found.indexes (Some stamp) a.hints ≡ hint → joins_at a found stamp ≡ false
    by_hint None e = ap (λ (o : Option (Option Index)). lacks o found.table (columns_asked a)) e
    by_hint (Some i) e =
        let k : TakesPath (Some i) found.table columns (IsBest (rank_of found.table a.conjuncts a.order) (candidates found.table (Some stamp) columns found.indexes)) by = subst (λ (o : Option (Option Index)). TakesPath o found.table columns (IsBest (rank_of found.table a.conjuncts a.order) (candidates found.table (Some stamp) columns found.indexes)) by) e h in
        ap (λ (o : Option (Option Index)). lacks o found.table (columns_asked a)) e ∙ ap (λ (cs : List ℕ). lacks (Some i) found.table cs) (sym c) ∙ by_index_of i by k.0 k.1

-- and one that lacks a column would have to be joined
pub lacking : (found : Found) (stamp : ℕ) (a : Asked) (columns : List ℕ) → columns ≡ columns_asked a → FaultFor found (Some stamp) a columns IndexJoin → joins_at a found stamp ≡ true
lacking found stamp a columns c h = by_hint (hinted found.indexes (Some stamp) a.hints) refl
  where
    by_hint : (hint : Option (Option Index)) → hinted found.indexes (Some stamp) a.hints ≡ hint → joins_at a found stamp ≡ true
    by_hint None e = absurd (subst (λ (o : Option (Option Index)). Lacks o found.table columns) e h)
    by_hint (Some None) e = absurd (subst (λ (o : Option (Option Index)). Lacks o found.table columns) e h)
    by_hint (Some (Some i)) e =
        let k : holds_all found.table i columns ≡ false = subst (λ (o : Option (Option Index)). Lacks o found.table columns) e h in
        ap (λ (o : Option (Option Index)). lacks o found.table (columns_asked a)) e ∙ ap (λ (cs : List ℕ). not (holds_all found.table i cs)) (sym c) ∙ ap not k

-- ---- the path that is taken, as a value

hinted_is : (t : Table) (columns : List ℕ) (rank : Option Index → Rank) (choices : List (Option Index)) (hint : Option (Option Index)) (i : Option Index) → TakesPath hint t columns (IsBest rank choices) i → hinted_or hint (first_best rank choices) ≡ i
hinted_is t columns rank choices None i h = best_is rank choices i h
hinted_is t columns rank choices (Some by) i h = sym h.0

abbrev best_at : Asked → Found → ℕ → Option Index
best_at a found stamp = first_best (rank_of found.table a.conjuncts a.order) (candidates found.table (Some stamp) (columns_asked a) found.indexes)

abbrev path_if : Asked → Found → ℕ → Bool → Option (Option Index)
path_if a found stamp b = if b then None else Some (hinted_or (hinted found.indexes (Some stamp) a.hints) (best_at a found stamp))

path_value : (a : Asked) (found : Found) (stamp : ℕ) → path_taken a found stamp ≡ path_if a found stamp (joins_at a found stamp)
unfolding path_taken
path_value a found stamp = refl

path_is : (a : Asked) (found : Found) (stamp : ℕ) (i : Option Index) → TakesFor found (Some stamp) a (columns_asked a) i → path_taken a found stamp ≡ Some i
path_is a found stamp i h =
    let t = found.table in
    let rank = rank_of t a.conjuncts a.order in
    let choices = candidates t (Some stamp) (columns_asked a) found.indexes in
    let hint = hinted found.indexes (Some stamp) a.hints in
    path_value a found stamp ∙ ap (path_if a found stamp) (taken_alone found stamp a (columns_asked a) i refl h) ∙ ap Some (hinted_is t (columns_asked a) rank choices hint i h)

holds_is : (b : Bool) → not b ≡ false → b ≡ true
holds_is true h = refl
holds_is false h = absurd (let z : ◌≡◌ {A = Bool} true false = h in cc)

hinted_takes : (t : Table) (point : Option ℕ) (indexes : List Index) (columns : List ℕ) (rank : Option Index → Rank) (hint : Option (Option Index)) → lacks hint t columns ≡ false
    → TakesPath hint t columns (IsBest rank (candidates t point columns indexes)) (hinted_or hint (first_best rank (candidates t point columns indexes)))
hinted_takes t point indexes columns rank None h = is_best rank None (map Some (filter (λ x. is_usable point x && holds_all t x columns) indexes))
hinted_takes t point indexes columns rank (Some None) h = (refl, tt)
hinted_takes t point indexes columns rank (Some (Some i)) h = (refl, holds_is (holds_all t i columns) h)

same_some : {A : Type 0} (x y : A) → ◌≡◌ {A = Option A} (Some x) (Some y) → x ≡ y
same_some x y e = cc

takes_if : (a : Asked) (found : Found) (stamp : ℕ) (i : Option Index) → path_taken a found stamp ≡ Some i → TakesFor found (Some stamp) a (columns_asked a) i
takes_if a found stamp i h = by_test (joins_at a found stamp) refl
  where
    by_test : (b : Bool) → joins_at a found stamp ≡ b → TakesFor found (Some stamp) a (columns_asked a) i
    by_test true e = absurd (let z : ◌≡◌ {A = Option (Option Index)} None (Some i) = sym (path_value a found stamp ∙ ap (path_if a found stamp) e) ∙ h in cc)
    by_test false e =
        let is : hinted_or (hinted found.indexes (Some stamp) a.hints) (best_at a found stamp) ≡ i = same_some _ i (sym (path_value a found stamp ∙ ap (path_if a found stamp) e) ∙ h) in
        subst (λ (o : Option Index). TakesFor found (Some stamp) a (columns_asked a) o) is
        (hinted_takes found.table (Some stamp) found.indexes (columns_asked a) (rank_of found.table a.conjuncts a.order) (hinted found.indexes (Some stamp) a.hints) e)

pub takes_as : (a : Asked) (found : Found) (stamp : ℕ) (by : By) → IsPathTaken a found stamp by → takes_at a found stamp ≡ Some by
takes_as a found stamp by h = ap (option_map by_index) (path_is a found stamp h.0 h.1) ∙ ap Some (sym h.2)

pub taken_if : (a : Asked) (found : Found) (stamp : ℕ) (by : By) → takes_at a found stamp ≡ Some by → IsPathTaken a found stamp by
taken_if a found stamp by h = by_value (path_taken a found stamp) refl
  where
    by_value : (o : Option (Option Index)) → path_taken a found stamp ≡ o → IsPathTaken a found stamp by
    by_value None e = absurd (let z : ◌≡◌ {A = Option By} None (Some by) = sym (ap (option_map by_index) e) ∙ h in cc)
    by_value (Some i) e = (i, takes_if a found stamp i e, same_some by (by_index i) (sym h ∙ ap (option_map by_index) e))

-- ---- the path of the table, and of an index

keys_led : (t : Table) (a : Asked) (by : Option Index) (path : Path) (row : List Value) → IsPathBy t a by path → FitsRow t row → meets_all a.conjuncts row ≡ true → is_on path (row_key_on (path_of t by) row) ≡ true
keys_led t a by path row h fits m = between_on path (row_key_on (path_of t by) row) ((h.keys row (row_has_key t by row fits)).1 ((conjuncts_are (path_of t by) a.conjuncts row).0 (met a.conjuncts row m)).0)

pub table_path_is : (q : Planned) (p : Point) (path : Path) → p.found.table ≡ q.table → TakesFor p.found (Some p.stamp) q.asked (columns_asked q.asked) None → IsPathBy p.found.table q.asked None path → IsPathFor (query_of q) p path
table_path_is q p path bound takes h =
    record {
      taken = takes_as q.asked p.found p.stamp path.by (None, takes, h.by_is);
      can = subst (λ (b : By). CanReadBy p b) (sym h.by_is) tt;
      has_all = λ row fits m. subst (λ (b : By). is_on path (key_by p.found b row) ≡ true) (sym h.by_is) (keys_led p.found.table q.asked None path row h fits m);
      meets = λ row. subst (λ (b : By). meets_all q.asked.conjuncts (shown_by p.found b row) ≡ meets_all q.asked.conjuncts row) (sym h.by_is) refl;
      named = λ row. subst (λ (b : By). values_at (columns_asked q.asked) (shown_by p.found b row) ≡ values_at (columns_asked q.asked) row) (sym h.by_is) refl;
    }

pub index_path_is : (q : Planned) (p : Point) (path : Path) (i : Index) → AreRising p.found.indexes → TakesFor p.found (Some p.stamp) q.asked (columns_asked q.asked) (Some i) → IsPathBy p.found.table q.asked (Some i) path → IsPathFor (query_of q) p path
index_path_is q p path i rising takes h =
    let s = taken_stands p.found (Some p.stamp) q.asked (columns_asked q.asked) i takes in
    let t = p.found.table in
    let a = q.asked in
    let is : index_of_found p.found i.id.0 ≡ Some i = among_found p.found.indexes i rising s.among in
    let places = map (λ c. c.column) a.order in
    let rest = all_right (is_held t i) a.shown (flat_map columns_in a.conjuncts ++ places) s.holds in
    let condition = all_left (is_held t i) (flat_map columns_in a.conjuncts) places rest in
    record {
      taken = takes_as q.asked p.found p.stamp path.by (Some i, takes, h.by_is);
      can = subst (λ (b : By). CanReadBy p b) (sym h.by_is) (subst (λ (o : Option Index). IsReadable p o) (sym is) (readable p i s.usable));
      has_all = λ row fits m. subst (λ (b : By). is_on path (key_by p.found b row) ≡ true) (sym h.by_is)
          (subst (λ (o : Option Index). is_on path (row_key_on (index_path_in p.found o) row) ≡ true) (sym is) (keys_led t a (Some i) path row h fits m));
      meets = λ row. subst (λ (b : By). meets_all a.conjuncts (shown_by p.found b row) ≡ meets_all a.conjuncts row) (sym h.by_is)
          (subst (λ (o : Option Index). meets_all a.conjuncts (shown_in p.found o row) ≡ meets_all a.conjuncts row) (sym is) (same_meets t i row a.conjuncts condition));
      named = λ row. subst (λ (b : By). values_at (columns_asked a) (shown_by p.found b row) ≡ values_at (columns_asked a) row) (sym h.by_is)
          (subst (λ (o : Option Index). values_at (columns_asked a) (shown_in p.found o row) ≡ values_at (columns_asked a) row) (sym is) (same_shown t i (shown_on t i row) row (λ k e. held_shown t i row k e) (columns_asked a) s.holds));
    }

pub chosen_path : (q : Planned) (p : Point) (path : Path) (columns : List ℕ) (by : Option Index) → p.found.table ≡ q.table → AreRising p.found.indexes → columns ≡ columns_asked q.asked → TakesFor p.found (Some p.stamp) q.asked columns by → IsPathBy p.found.table q.asked by path → IsPathFor (query_of q) p path
chosen_path q p path columns None bound rising e taken h = table_path_is q p path bound (subst (λ (cs : List ℕ). TakesFor p.found (Some p.stamp) q.asked cs None) e taken) h
chosen_path q p path columns (Some i) bound rising e taken h = index_path_is q p path i rising (subst (λ (cs : List ℕ). TakesFor p.found (Some p.stamp) q.asked cs (Some i)) e taken) h

pub all_chosen : (q : Planned) (p : Point) (columns : List ℕ) (by : Option Index) (r : Result Path PathFault) → p.found.table ≡ q.table → AreRising p.found.indexes → columns ≡ columns_asked q.asked → TakesFor p.found (Some p.stamp) q.asked columns by → IfOk r (IsPathBy p.found.table q.asked by) → IfOk r (IsPathFor (query_of q) p)
all_chosen q p columns by (Ok path) bound rising c taken h = chosen_path q p path columns by bound rising c taken h
all_chosen q p columns by (Err f) bound rising c taken h = tt
