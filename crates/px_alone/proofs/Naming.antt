-- What definitions leave of the tables and of the names of indexes.
use Rattle.std.proofs.Common.{ℕ, zero, suc, ◌≡◌, ◌≤◌, ◌+◌, ◌-◌, ◌==◌, if◌then◌else◌, Bool, true, false, Option, None, Some, List, [], ◌∷◌, ◌++◌, length, take, refl, sym, ◌∙◌, ap, subst, arith, inl, inr}
use Rattle.std.specs.List.{AllByRecursion}
use Rattle.std.proofs.lemmas.Bool.{cases_eq, false≢true}
use Rattle.px_values.specs.declared.name.IndexId.{IndexId}
use Rattle.px_values.specs.declared.name.TableId.{TableId}
use Rattle.px_tables.specs.declared.index.Index.{Index}
use Rattle.px_tables.specs.declared.index.IndexState.{IndexState as BuildState}
use Rattle.px_tables.specs.declared.index.IndexState.TheVariants.{Building, Active, Disabled}
use Rattle.px_tables.specs.declared.table.Table.{Table}
use Rattle.px_trail.specs.Trail.{Base, Catalogue, catalogue_from, catalogue_of, catalogue_step, of_others, set_number, with_state}
use Rattle.px_trail.specs.declared.entry.Act.{Act}
use Rattle.px_trail.specs.declared.entry.Act.TheVariants.{Made, IndexMade, IndexState, Dropped}
use Rattle.px_trail.specs.declared.entry.Entry.{Entry}
use Rattle.px_trail.proofs.Growth.{catalogue_from-append}
use Rattle.px_trail.proofs.Standing.{set_number-other, set_number-same}
use Rattle.px_upkeep.specs.Turns.{Try, Looked, Renewed, acts_of_tries}
use Rattle.px_alone.specs.Answers.{built_again}
use Rattle.px_alone.proofs.Calm.{take-past}
use Rattle.px_alone.proofs.Outcomes.{stamps_in}
use Rattle.px_alone.proofs.Standing.{acts_of, changes_in, is_change}

-- 1. Kinds of acts

abbrev pub keeps_tables : Act → Bool
keeps_tables (Made t what) = false
keeps_tables (Dropped t i) = false
keeps_tables act = true

abbrev pub is_unmade : Act → Bool
is_unmade (Made t what) = false
is_unmade act = true

abbrev pub keeps_names : Act → Bool
keeps_names (IndexMade t i s what) = false
keeps_names act = true

abbrev pub All : (Act → Bool) → List Act → Type 0
All keeps acts = AllByRecursion (λ act. keeps act ≡ true) acts

abbrev pub AllEntries : (Act → Bool) → List Entry → Type 0
AllEntries keeps es = AllByRecursion (λ e. keeps e.act ≡ true) es

pub all-entries : (keeps : Act → Bool) → ((act : Act) → is_change act ≡ false → keeps act ≡ true) → (es : List Entry) → All keeps (changes_in (acts_of es)) → AllEntries keeps es
all-entries keeps rest [] h = tt
all-entries keeps rest (e ∷ es) h =
    elim (is_change e.act) as (λ v. is_change e.act ≡ v → All keeps (if v then e.act ∷ changes_in (acts_of es) else changes_in (acts_of es)) → AllEntries keeps (e ∷ es)) [
      | true ↦ λ v k. (k.0, all-entries keeps rest es k.1)
      | false ↦ λ v k. (rest e.act v, all-entries keeps rest es k)
    ] refl h

all_take : (keeps : Act → Bool) (es : List Entry) (j : ℕ) → AllEntries keeps es → AllEntries keeps (take j es)
all_take keeps es zero h = tt
all_take keeps [] (suc j) h = tt
all_take keeps (e ∷ es) (suc j) h = (h.0, all_take keeps es j h.1)

pub tables-rest : (act : Act) → is_change act ≡ false → keeps_tables act ≡ true
tables-rest (Made t what) h = absurd (false≢true (sym h))
tables-rest (Dropped t i) h = absurd (false≢true (sym h))
tables-rest act h = refl

pub names-rest : (act : Act) → is_change act ≡ false → keeps_names act ≡ true
names-rest (IndexMade t i s what) h = absurd (false≢true (sym h))
names-rest act h = refl

pub unmade-rest : (act : Act) → is_change act ≡ false → is_unmade act ≡ true
unmade-rest (Made t what) h = absurd (false≢true (sym h))
unmade-rest act h = refl

-- 2. Tables

step_tables : (c : Catalogue) (act : Act) → keeps_tables act ≡ true → (catalogue_step c act).tables ≡ c.tables
unfolding catalogue_step
step_tables c (Made t what) h = absurd (false≢true h)
step_tables c (Dropped t i) h = absurd (false≢true h)
step_tables c act h = refl

from_tables : (c : Catalogue) (es : List Entry) → AllEntries keeps_tables es → (catalogue_from c es).tables ≡ c.tables
unfolding catalogue_from
from_tables c [] h = refl
from_tables c (e ∷ es) h = from_tables (catalogue_step c e.act) es h.1 ∙ step_tables c e.act h.0

some_none : {A : Type 0} (z : Table) → ◌≡◌ {A = Option Table} None (Some z) → A
some_none z e = cc

-- what stands behind acts that make no table stood before
step_back : (c : Catalogue) (act : Act) (n : ℕ) (z : Table) → is_unmade act ≡ true → (catalogue_step c act).tables n ≡ Some z → c.tables n ≡ Some z
unfolding catalogue_step
step_back c (Made t what) n z h e = absurd (false≢true h)
step_back c (Dropped t None) n z h e = elim (cases_eq t.0 n) [
  | inl same ↦ some_none z (sym (set_number-same t.0 None c.tables) ∙ (ap (set_number t.0 None c.tables) same ∙ e))
  | inr apart ↦ sym (set_number-other t.0 None c.tables n apart) ∙ e
]
step_back c (Dropped t (Some i)) n z h e = e
step_back c act n z h e = e

from_back : (c : Catalogue) (es : List Entry) (n : ℕ) (z : Table) → AllEntries is_unmade es → (catalogue_from c es).tables n ≡ Some z → c.tables n ≡ Some z
unfolding catalogue_from
from_back c [] n z h e = e
from_back c (x ∷ es) n z h e = step_back c x.act n z h.0 (from_back (catalogue_step c x.act) es n z h.1 e)

-- 3. Names of indexes

others_same : (t : ℕ) (o : Option Index) (w : Index) → of_others t o ≡ Some w → o ≡ Some w
others_same t None w e = cc
others_same t (Some v) w e = elim (v.table.0 == t) as (λ b. (if b then None else Some v) ≡ Some w → Some v ≡ Some w) [ true ↦ λ h. cc | false ↦ λ h. h ] e

index_none : {A : Type 0} (w : Index) → ◌≡◌ {A = Option Index} None (Some w) → A
index_none w e = cc

-- the same index, in whatever state
pub record IsSameIndex (o : Option Index) (w : Index) : Type 0 where
  pub was : Index
  pub is : o ≡ Some was
  pub id : was.id ≡ w.id
  pub table : was.table ≡ w.table
  pub name : was.name ≡ w.name

same_itself : (o : Option Index) (w : Index) → o ≡ Some w → IsSameIndex o w
same_itself o w e = record { was = w; is = e; id = refl; table = refl; name = refl }

state_same : (state : BuildState) (s n : ℕ) (o : Option Index) (w : Index) → with_state state s n o ≡ Some w → IsSameIndex o w
state_same state s n None w e = cc
state_same Building s n (Some v) w e = (let z : record v { state = Building; birth = s; region = n } ≡ w = cc in record { was = v; is = refl; id = ap (λ (i : Index). i.id) z; table = ap (λ (i : Index). i.table) z; name = ap (λ (i : Index). i.name) z })
state_same Active s n (Some v) w e = (let z : record v { state = Active } ≡ w = cc in record { was = v; is = refl; id = ap (λ (i : Index). i.id) z; table = ap (λ (i : Index). i.table) z; name = ap (λ (i : Index). i.name) z })
state_same Disabled s n (Some v) w e = (let z : record v { state = Disabled } ≡ w = cc in record { was = v; is = refl; id = ap (λ (i : Index). i.id) z; table = ap (λ (i : Index). i.table) z; name = ap (λ (i : Index). i.name) z })

step_names : (c : Catalogue) (act : Act) (n : ℕ) (w : Index) → keeps_names act ≡ true → (catalogue_step c act).indexes n ≡ Some w → IsSameIndex (c.indexes n) w
unfolding catalogue_step
step_names c (IndexMade t i s what) n w h e = absurd (false≢true h)
step_names c (Dropped t None) n w h e = same_itself (c.indexes n) w (others_same t.0 (c.indexes n) w e)
step_names c (Dropped t (Some i)) n w h e = elim (cases_eq i.0 n) [
  | inl same ↦ index_none w (sym (set_number-same i.0 None c.indexes) ∙ (ap (set_number i.0 None c.indexes) same ∙ e))
  | inr apart ↦ same_itself (c.indexes n) w (sym (set_number-other i.0 None c.indexes n apart) ∙ e)
]
step_names c (IndexState t i state s) n w h e = elim (cases_eq i.0 n) [
  | inl same ↦ (let on = set_number-same i.0 (with_state state s c.next (c.indexes i.0)) c.indexes in
      let at : with_state state s c.next (c.indexes i.0) ≡ Some w = sym on ∙ (ap (set_number i.0 (with_state state s c.next (c.indexes i.0)) c.indexes) same ∙ e) in
      subst (λ (m : ℕ). IsSameIndex (c.indexes m) w) same (state_same state s c.next (c.indexes i.0) w at))
  | inr apart ↦ same_itself (c.indexes n) w (sym (set_number-other i.0 (with_state state s c.next (c.indexes i.0)) c.indexes n apart) ∙ e)
]
step_names c act n w h e = same_itself (c.indexes n) w e

same_then : (o : Option Index) (v w : Index) → IsSameIndex o v → IsSameIndex (Some v) w → IsSameIndex o w
same_then o v w h j = (let z : v ≡ j.was = (let e = j.is in cc) in
    record { was = h.was; is = h.is; id = h.id ∙ (ap (λ (i : Index). i.id) z ∙ j.id); table = h.table ∙ (ap (λ (i : Index). i.table) z ∙ j.table); name = h.name ∙ (ap (λ (i : Index). i.name) z ∙ j.name) })

from_names : (c : Catalogue) (es : List Entry) (n : ℕ) (w : Index) → AllEntries keeps_names es → (catalogue_from c es).indexes n ≡ Some w → IsSameIndex (c.indexes n) w
unfolding catalogue_from
from_names c [] n w h e = same_itself (c.indexes n) w e
from_names c (x ∷ es) n w h e =
    let later = from_names (catalogue_step c x.act) es n w h.1 e in
    let first = step_names c x.act n later.was h.0 later.is in
    same_then (c.indexes n) later.was w first (record { was = later.was; is = refl; id = later.id; table = later.table; name = later.name })

-- 4. At a place

module _ (b : Base) (pre more : List Entry) where
  at_from : (m : ℕ) → length pre ≤ m → catalogue_of b (take m (pre ++ more)) ≡ catalogue_from (catalogue_of b pre) (take (m - length pre) more)
  at_from m le =
      let on : m ≡ length pre + (m - length pre) = omega arith in
      ap (λ n. catalogue_of b (take n (pre ++ more))) on ∙ (ap (catalogue_of b) (take-past pre more (m - length pre)) ∙ catalogue_from-append _ pre (take (m - length pre) more))

  pub tables-kept : (m : ℕ) → length pre ≤ m → AllEntries keeps_tables more → (catalogue_of b (take m (pre ++ more))).tables ≡ (catalogue_of b pre).tables
  tables-kept m le h = ap (λ (c : Catalogue). c.tables) (at_from m le) ∙ from_tables (catalogue_of b pre) (take (m - length pre) more) (all_take keeps_tables more (m - length pre) h)

  pub tables-back : (m : ℕ) → length pre ≤ m → AllEntries is_unmade more → (n : ℕ) (z : Table) → (catalogue_of b (take m (pre ++ more))).tables n ≡ Some z → (catalogue_of b pre).tables n ≡ Some z
  tables-back m le h n z e = from_back (catalogue_of b pre) (take (m - length pre) more) n z (all_take is_unmade more (m - length pre) h) (ap (λ (c : Catalogue). c.tables n) (sym (at_from m le)) ∙ e)

  pub names-kept : (m : ℕ) → length pre ≤ m → AllEntries keeps_names more → (n : ℕ) (w : Index) → (catalogue_of b (take m (pre ++ more))).indexes n ≡ Some w → IsSameIndex ((catalogue_of b pre).indexes n) w
  names-kept m le h n w e = from_names (catalogue_of b pre) (take (m - length pre) more) n w (all_take keeps_names more (m - length pre) h) (ap (λ (c : Catalogue). c.indexes n) (sym (at_from m le)) ∙ e)

-- 5. What a build did

pub renewed : List Try → List ℕ
renewed [] = []
renewed (Looked s ∷ tries) = renewed tries
renewed (Renewed s ∷ tries) = s ∷ renewed tries

pub changes-tries : (t : TableId) (i : IndexId) (tries : List Try) (last : List Act) → changes_in (acts_of_tries t i tries ++ last) ≡ built_again t i (renewed tries) ++ changes_in last
unfolding acts_of_tries renewed
changes-tries t i [] last = refl
changes-tries t i (Looked s ∷ tries) last = changes-tries t i tries last
changes-tries t i (Renewed s ∷ tries) last = ap (λ l. IndexState t i Building s ∷ l) (changes-tries t i tries last)

pub stamps-again : (t : TableId) (i : IndexId) (ss : List ℕ) (last : List Act) → stamps_in (built_again t i ss ++ last) ≡ ss ++ stamps_in last
stamps-again t i [] last = refl
stamps-again t i (s ∷ ss) last = ap (λ l. s ∷ l) (stamps-again t i ss last)

pub again-all : (keeps : Act → Bool) (t : TableId) (i : IndexId) (ss : List ℕ) (last : List Act) → ((s : ℕ) → keeps (IndexState t i Building s) ≡ true) → All keeps last → All keeps (built_again t i ss ++ last)
again-all keeps t i [] last h l = l
again-all keeps t i (s ∷ ss) last h l = (h s, again-all keeps t i ss last h l)
