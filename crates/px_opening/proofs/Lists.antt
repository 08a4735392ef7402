-- Tables and indexes that are found by their numbers.
use Rattle.std.proofs.Common.{◌≡◌, ◌≢◌, ◌<◌, ◌⊎◌, inl, inr, ℕ, zero, suc, Bool, true, false, Option, Some, None, List, [], ◌∷◌, ◌++◌, map, refl, sym, ap, subst, ◌∙◌, arith}
use Rattle.std.specs.Prelude.{◌==◌, if◌then◌else◌, filter, slice_get}
use Rattle.std.specs.List.{AllByRecursion}
use Rattle.std.proofs.lemmas.Bool.{eq-eqb, eqb-true, ne_eqb, false≢true}
use Rattle.std.proofs.lemmas.List.Elements.{All-filter, All-from_get_or, filter_passes, recursion_from_All}
use Rattle.px_outside.specs.Parts.{AreDistinct, HasNone}
use Rattle.px_tables.specs.declared.index.Index.{Index}
use Rattle.px_tables.specs.declared.index.IndexState.{IndexState}
use Rattle.px_tables.specs.declared.index.IndexState.TheVariants.{Building, Active, Disabled}
use Rattle.px_tables.specs.declared.table.Table.{Table}
use Rattle.px_recovery.specs.Stands.{opened_index, opened_state}
use Rattle.px_recovery.specs.Tables.{index_in, indexes_of, is_active, number_of_index, table_in}
use Rattle.px_recovery.proofs.Numbered.{index_placed}
use Rattle.px_standing.specs.Agrees.{AreRisingBy, as_opened, number_of_table}
use Rattle.px_opening.specs.Opened.{is_standing}

-- ---- lists

pub all_mapped : {A B : Type 0} (P : B → Type 0) (g : A → B) (xs : List A) → AllByRecursion P (map g xs) → AllByRecursion (λ x. P (g x)) xs
all_mapped P g [] all = tt
all_mapped P g (x ∷ xs) all = (all.0, all_mapped P g xs all.1)

pub all_both : {A : Type 0} (P Q R : A → Type 0) → ((x : A) → P x → Q x → R x) → (xs : List A) → AllByRecursion P xs → AllByRecursion Q xs → AllByRecursion R xs
all_both P Q R to [] one two = tt
all_both P Q R to (x ∷ xs) one two = (to x one.0 two.0, all_both P Q R to xs one.1 two.1)

pub some_is : {A : Type 0} (x y : A) → Some x ≡ Some y → x ≡ y
some_is x y e = cc

pub all_slice : {A : Type 0} (P : A → Type 0) (xs : List A) (i : ℕ) (x : A) → AllByRecursion P xs → slice_get xs i ≡ Some x → P x
all_slice P [] i x all is = absurd cc
all_slice P (y ∷ ys) zero x all is = subst P (some_is y x is) all.0
all_slice P (y ∷ ys) (suc i) x all is = all_slice P ys i x all.1 is

pub all_weaker : {A : Type 0} (P Q : A → Type 0) → ((x : A) → P x → Q x) → (xs : List A) → AllByRecursion P xs → AllByRecursion Q xs
all_weaker P Q to [] all = tt
all_weaker P Q to (x ∷ xs) all = (to x all.0, all_weaker P Q to xs all.1)

-- what stands in the order of its numbers has none of them twice
pub rising_once : {A : Type 0} (num : A → ℕ) (xs : List A) → AreRisingBy num xs → AreDistinct num xs
rising_once num [] up = tt
rising_once num (x ∷ xs) up = (all_weaker (λ y. num x < num y) (λ y. num y ≢ num x) (λ y l same. omega (arith, l, same)) xs up.0, rising_once num xs up.1)

all_mapped_back : {A B : Type 0} (P : B → Type 0) (g : A → B) (xs : List A) → AllByRecursion (λ x. P (g x)) xs → AllByRecursion P (map g xs)
all_mapped_back P g [] all = tt
all_mapped_back P g (x ∷ xs) all = (all.0, all_mapped_back P g xs all.1)

pub rising_map : {A B : Type 0} (g : A → B) (num : B → ℕ) (xs : List A) → AreRisingBy (λ x. num (g x)) xs → AreRisingBy num (map g xs)
rising_map g num [] up = tt
rising_map g num (x ∷ xs) up = (all_mapped_back (λ y. num (g x) < num y) g xs up.0, rising_map g num xs up.1)

-- numbers of these, and one more
pub drawn_numbers : {A : Type 0} (P : ℕ → Type 0) (num : A → ℕ) (xs : List A) (n : ℕ) → AllByRecursion (λ x. P (num x)) xs → P n → AllByRecursion P (map num xs ++ n ∷ [])
drawn_numbers P num [] n all last = (last, tt)
drawn_numbers P num (x ∷ xs) n all last = (all.0, drawn_numbers P num xs n all.1 last)

-- it is one of these
abbrev pub IsIn : {A : Type 0} → A → List A → Type 0
IsIn x [] = ⊥
IsIn x (y ∷ ys) = (y ≡ x) ⊎ IsIn x ys

in_if : (p : Index → Bool) (y x : Index) (xs : List Index) → IsIn y (filter p xs) → (c : Bool) → IsIn y (if c then x ∷ filter p xs else filter p xs)
in_if p y x xs there true = inr there
in_if p y x xs there false = there

pub in_filter : (p : Index → Bool) (y : Index) (xs : List Index) → IsIn y xs → p y ≡ true → IsIn y (filter p xs)
in_filter p y [] is passes = absurd is
in_filter p y (x ∷ xs) (inl same) passes = subst (λ (c : Bool). IsIn y (if c then x ∷ filter p xs else filter p xs)) (sym (ap p same ∙ passes)) (inl same)
in_filter p y (x ∷ xs) (inr later) passes = in_if p y x xs (in_filter p y xs later passes) (p x)

pub in_mapped : {A B : Type 0} (g : A → B) (y : B) (xs : List A) → IsIn y (map g xs) → (i : ℕ) × ((x : A) × ((slice_get xs i ≡ Some x) × (g x ≡ y)))
in_mapped g y [] is = absurd is
in_mapped g y (x ∷ xs) (inl same) = (0, (x, (refl, same)))
in_mapped g y (x ∷ xs) (inr later) = let m = in_mapped g y xs later in (suc m.0, (m.1.0, m.1.1))

-- ---- tables

table_first : (x : Table) (xs : List Table) (q : ℕ) → x.id.0 ≡ q → table_in (x ∷ xs) q ≡ Some x
unfolding table_in
table_first x xs q same = rw (eq-eqb x.id.0 q same) refl

table_later : (x : Table) (xs : List Table) (q : ℕ) → x.id.0 ≢ q → table_in (x ∷ xs) q ≡ table_in xs q
unfolding table_in
table_later x xs q other = rw (ne_eqb x.id.0 q other) refl

tables_later : (x : Table) (xs ys : List Table) → HasNone number_of_table x.id.0 ys → AllByRecursion (λ y. table_in xs y.id.0 ≡ Some y) ys → AllByRecursion (λ y. table_in (x ∷ xs) y.id.0 ≡ Some y) ys
tables_later x xs [] none all = tt
tables_later x xs (y ∷ ys) none all = (table_later x xs y.id.0 (λ is. none.0 (sym is)) ∙ all.0, tables_later x xs ys none.1 all.1)

pub each_table : (ts : List Table) → AreDistinct number_of_table ts → AllByRecursion (λ x. table_in ts x.id.0 ≡ Some x) ts
each_table [] once = tt
each_table (x ∷ xs) once = (table_first x xs x.id.0 refl, tables_later x xs xs once.0 (each_table xs once.1))

-- ---- indexes

-- an active index of the table, which is found by its number
pub record IsFound (indexes : List Index) (t : ℕ) (i : Index) : Type 0 where
  pub is : index_in indexes i.id.0 ≡ Some i
  pub own : i.table.0 ≡ t
  pub active : is_standing i ≡ true

abbrev no_index : Index
no_index = record { id = record { 0 = 0 }; table = record { 0 = 0 }; name = []; state = Disabled; birth = 0; region = 0; parts = []; included = [] }

abbrev IsPlaced : List Index → ℕ → Index → Type 0
IsPlaced indexes t i = (index_in indexes i.id.0 ≡ Some i) × (i.table.0 ≡ t)

pub each_index : (indexes : List Index) (t : ℕ) → AreDistinct number_of_index indexes → AllByRecursion (IsFound indexes t) (filter is_standing (indexes_of t indexes))
each_index indexes t once =
    let l = indexes_of t indexes in
    let placed = All-filter is_standing (IsPlaced indexes t) l (All-from_get_or (IsPlaced indexes t) l no_index (λ k less. index_placed indexes t k no_index once less)) in
    all_both (IsPlaced indexes t) (λ i. is_standing i ≡ true) (IsFound indexes t) (λ i p a. record { is = p.0; own = p.1; active = a }) (filter is_standing l)
    (recursion_from_All (IsPlaced indexes t) (filter is_standing l) placed) (recursion_from_All (λ i. is_standing i ≡ true) (filter is_standing l) (filter_passes is_standing l))

in_found : (y x : Index) (xs : List Index) (n : ℕ) (c : Bool) → (if c then Some x else index_in xs n) ≡ Some y → (index_in xs n ≡ Some y → IsIn y xs) → IsIn y (x ∷ xs)
in_found y x xs n true is later = inl (some_is x y is)
in_found y x xs n false is later = inr (later is)

pub found_in : (xs : List Index) (n : ℕ) (y : Index) → index_in xs n ≡ Some y → IsIn y xs
unfolding index_in
found_in [] n y is = absurd cc
found_in (x ∷ xs) n y is = in_found y x xs n (x.id.0 == n) is (λ later. found_in xs n y later)

number_by : (x y : Index) (rest : Option Index) (n : ℕ) (c : Bool) → (x.id.0 == n) ≡ c → (if c then Some x else rest) ≡ Some y → (rest ≡ Some y → y.id.0 ≡ n) → y.id.0 ≡ n
number_by x y rest n true same is later = ap (λ (z : Index). z.id.0) (sym (some_is x y is)) ∙ eqb-true x.id.0 n same
number_by x y rest n false same is later = later is

pub index_number : (xs : List Index) (n : ℕ) (y : Index) → index_in xs n ≡ Some y → y.id.0 ≡ n
unfolding index_in
index_number [] n y is = absurd cc
index_number (x ∷ xs) n y is = number_by x y (index_in xs n) n (x.id.0 == n) refl is (λ later. index_number xs n y later)

pub all_in : (P : Index → Type 0) (xs : List Index) (y : Index) → AllByRecursion P xs → IsIn y xs → P y
all_in P [] y all is = absurd is
all_in P (x ∷ xs) y all (inl same) = subst P same all.0
all_in P (x ∷ xs) y all (inr later) = all_in P xs y all.1 later

-- ---- an index that is opened

state_active : (s : IndexState) → is_active s ≡ true → opened_state s ≡ s
state_active Building a = absurd (false≢true a)
state_active Active a = refl
state_active Disabled a = absurd (false≢true a)

pub active_opened : (i : Index) → is_standing i ≡ true → opened_index (Some i) ≡ Some i
active_opened i a = λ j. Some (record i { state = state_active i.state a j })

state_by : (s : IndexState) → opened_state s ≢ Disabled → is_active s ≡ true
state_by Building not = absurd (not refl)
state_by Active not = refl
state_by Disabled not = absurd (not refl)

pub opened_some : (o : Option Index) (y : Index) → opened_index o ≡ Some y → y.state ≢ Disabled → (o ≡ Some y) × (is_standing y ≡ true)
opened_some None y is not = absurd cc
opened_some (Some z) y is not =
    let e : record z { state = opened_state z.state } ≡ y = some_is (record z { state = opened_state z.state }) y is in
    let a : is_active z.state ≡ true = state_by z.state (λ d. not (ap (λ (i : Index). i.state) (sym e) ∙ d)) in
    let same : z ≡ y = (λ j. record z { state = sym (state_active z.state a) j }) ∙ e in
    (ap (λ (i : Index). Some i) same, ap (λ (i : Index). is_active i.state) (sym same) ∙ a)

pub opened_from : (o : Option Index) (y : Index) → opened_index o ≡ Some y → (z : Index) × ((o ≡ Some z) × ((z.id.0 ≡ y.id.0) × (z.table.0 ≡ y.table.0)))
opened_from None y is = absurd cc
opened_from (Some z) y is =
    let e : record z { state = opened_state z.state } ≡ y = some_is (record z { state = opened_state z.state }) y is in
    (z, (refl, (ap (λ (i : Index). i.id.0) e, ap (λ (i : Index). i.table.0) e)))

-- an index is found among those that are opened as it is opened
found_opened : (i : Index) (o p : Option Index) → o ≡ opened_index p → (c : Bool) → (if c then Some (as_opened i) else o) ≡ opened_index (if c then Some i else p)
found_opened i o p same true = refl
found_opened i o p same false = same

pub index_opened : (is : List Index) (n : ℕ) → index_in (map as_opened is) n ≡ opened_index (index_in is n)
unfolding index_in
index_opened [] n = refl
index_opened (i ∷ is) n = found_opened i (index_in (map as_opened is) n) (index_in is n) (index_opened is n) (i.id.0 == n)
