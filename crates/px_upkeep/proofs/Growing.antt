-- What stays of a build at its point, while others' entries come and the seat itself begins, ends, opens, closes and defines nothing.
use Rattle.std.proofs.Common.{ℕ, ◌≡◌, ◌≢◌, ◌<◌, ◌==◌, ◌||◌, if◌then◌else◌, Bool, true, false, Some, List, [], ◌∷◌, ◌++◌, ◌⊎◌, refl, sym, ◌∙◌, ap, subst, arith, append_assoc, inl, inr}
use Rattle.std.specs.List.{AllByRecursion}
use Rattle.std.proofs.lemmas.Bool.Decides.{Decides-eqb}
use Rattle.std.proofs.lemmas.List.{append-nil}
use Rattle.px_values.specs.declared.name.IndexId.{IndexId}
use Rattle.px_values.specs.declared.name.TableId.{TableId}
use Rattle.px_values.specs.declared.row.Value.{Value}
use Rattle.px_tables.specs.declared.index.Index.{Index}
use Rattle.px_tables.specs.declared.index.IndexState.TheVariants.{Building, Active, Disabled}
use Rattle.px_tables.specs.declared.table.Table.{Table}
use Rattle.px_trail.specs.declared.entry.Act.{Act}
use Rattle.px_trail.specs.declared.entry.Act.TheVariants.{Based, Dropped, IndexMade, IndexState, Made}
use Rattle.px_trail.specs.declared.entry.Entry.{Entry}
use Rattle.px_trail.specs.Batches.{has, is_distinct}
use Rattle.px_trail.specs.Legal.{Follows, IsLegal, IsQuiet, MayCome, MayState}
use Rattle.px_trail.specs.States.{state_of}
use Rattle.px_trail.specs.Trail.{Base, Catalogue, acts_by, catalogue_of, catalogue_step, index_of, last_of, table_of}
use Rattle.px_trail.proofs.Batches.{last_step-le}
use Rattle.px_trail.proofs.Growth.{catalogue-snoc, horizon-snoc, last-snoc, legal-prefix}
use Rattle.px_trail.proofs.States.{decided-stays, state-stays}
use Rattle.px_calls.specs.declared.query.BaseRow.{BaseRow}
use Rattle.px_calls.specs.declared.query.FoundKey.{FoundKey}
use Rattle.px_calls.specs.declared.query.Point.{Point}
use Rattle.px_calls.specs.Known.{Known, Ran, TimePasses, is_turn, outline}
use Rattle.px_calls.specs.Requires.{HasOpen, MayBase, base_step, is_based}
use Rattle.px_calls.proofs.Activates.{based-snoc, grown, low_step, one_apart, some_index}
use Rattle.px_calls.proofs.Bases.{passes_base}
use Rattle.px_calls.proofs.Points.{quiet-open}
use Rattle.px_calls.proofs.Stays.{table-was}
use Rattle.px_upkeep.specs.Turns.{AreBased, AreOwn, AreRowsFor, IsBuilding, IsFoundAt, IsHeld, IsPiece, owner_at, state_at_point}

-- 1. Time

-- what is seen later, in which the seat itself began, ended, opened, closed and defined nothing
pub record Grown (k k' : Known) : Type 0 where
  pub more : List Entry
  pub seen : k'.seen ≡ k.seen ++ more
  pub quiet : outline (acts_by k.seat more) ≡ []
  pub seat : k'.seat ≡ k.seat
  pub base : k'.base ≡ k.base
  pub damaged : k'.damaged ≡ k.damaged
  pub legal : IsLegal k'.base k'.seen

pub grown-passes : (k k' : Known) → TimePasses k k' → Grown k k'
grown-passes k k' h = record { more = h.others; seen = h.seen; quiet = ap outline h.apart; seat = h.seat; base = h.base; damaged = h.damaged; legal = h.legal }

pub grown-ran : (k k' : Known) (acts : List Act) → Ran k k' acts → outline acts ≡ [] → IsLegal k.base k.seen → Grown k k'
grown-ran k k' acts h quiet legal = record { more = h.added; seen = h.seen; quiet = ap outline h.own ∙ quiet; seat = h.seat; base = h.base; damaged = h.damaged; legal = h.legal legal }

-- 2. One entry

quiet_cons : (act : Act) (acts : List Act) → outline (act ∷ acts) ≡ [] → (is_turn act ≡ false) × (outline acts ≡ [])
quiet_cons act acts =
    elim (is_turn act) as (λ v. is_turn act ≡ v → (if v then act ∷ outline acts else outline acts) ≡ [] → (is_turn act ≡ false) × (outline acts ≡ [])) [
      | true ↦ λ h n. cc
      | false ↦ λ h n. (h, n)
    ] refl

-- an entry of the seat in which it begins and ends nothing changes no table and no index
still_catalogue : (c : Catalogue) (act : Act) → is_turn act ≡ false → catalogue_step c act ≡ c
unfolding catalogue_step
still_catalogue c (Made t what) h = cc
still_catalogue c (IndexMade t i s what) h = cc
still_catalogue c (IndexState t i state s) h = cc
still_catalogue c (Dropped t i) h = cc
still_catalogue c act h = refl

if_kept : (v : Bool) → (v ≡ true → ⊥) → (if v then false else true) ≡ true
if_kept true h = absurd (h refl)
if_kept false h = refl

if_more : (v w : Bool) → (if v then w || true else true) ≡ true
if_more true true = refl
if_more true false = refl
if_more false w = refl

-- a row that was based stays so while the table isn't quiet
still_based : (b : Base) (es : List Entry) (seat calls t i : ℕ) (r : List Value) (act : Act) (x : Index) → Follows b es seat calls act → i < (catalogue_of b es).next → (IsQuiet es t → ⊥) → index_of b es i ≡ Some x → x.table.0 ≡ t → base_step i r true act ≡ true
unfolding Follows MayState
still_based b es seat calls t i r (IndexMade t' i' s what) x f low loud is of = if_kept (i'.0 == i) (λ v. let e : i'.0 ≡ i = (Decides-eqb i'.0 i).0 v in absurd (let n = f.0 in omega (arith, n, e, low)))
still_based b es seat calls t i r (IndexState t' i' Building s) x f low loud is of =
    if_kept (i'.0 == i)
    (λ v.
    let e : i'.0 ≡ i = (Decides-eqb i'.0 i).0 v in
    let y : f.0.index ≡ x = some_index (sym f.0.is ∙ (ap (catalogue_of b es).indexes e ∙ is)) in
    loud (subst (λ (m : ℕ). IsQuiet es m) (sym f.0.owner ∙ (ap (λ (z : Index). z.table.0) y ∙ of)) f.1.1))
still_based b es seat calls t i r (IndexState t' i' Active s) x f low loud is of = refl
still_based b es seat calls t i r (IndexState t' i' Disabled s) x f low loud is of = refl
still_based b es seat calls t i r (Based i' rows) x f low loud is of = if_more (i'.0 == i) (has rows r)
still_based b es seat calls t i r act x f low loud is of = refl

module _ (sound : Type 0) (k : Known) (e : Entry) (p : Point) (i : ℕ) (xs : List BaseRow) (legal : IsLegal k.base (k.seen ++ e ∷ [])) (is_open : HasOpen k p) (h : MayBase sound k p i xs) where
  may : MayCome k.base k.seen e
  may = legal.each k.seen e [] refl

  loud : IsQuiet k.seen p.table.0 → ⊥
  loud q = (let z = q.points k.seat p.stamp in absurd (omega (arith, z, is_open)))

  others : e.seat ≢ k.seat → MayBase sound (grown k (e ∷ [])) p i xs
  others apart = passes_base sound k (grown k (e ∷ [])) p i xs (record { others = e ∷ []; seen = refl; apart = one_apart k.seat e apart; seat = refl; base = refl; damaged = refl; legal = legal }) is_open h

  all_more : (P Q : BaseRow → Type 0) → ((x : BaseRow) → P x → Q x) → (ys : List BaseRow) → AllByRecursion P ys → AllByRecursion Q ys
  all_more P Q on [] a = tt
  all_more P Q on (y ∷ ys) a = (on y a.0, all_more P Q on ys a.1)

  own : is_turn e.act ≡ false → MayBase sound (grown k (e ∷ [])) p i xs
  own still =
      let same : catalogue_of k.base (k.seen ++ e ∷ []) ≡ catalogue_of k.base k.seen = catalogue-snoc k.base k.seen e ∙ still_catalogue (catalogue_of k.base k.seen) e.act still in
      let next = ap (λ (c : Catalogue). c.next) same in
      let last = last_step-le p.table.0 (last_of k.base p.table.0 k.seen) e.act in
      let low = low_step k.base k.seen e.seat e.calls k.seat p.table.0 p.stamp p.stamp e.act may.follows is_open (omega arith) h.low in
      record {
        table_drawn = (let u = h.table_drawn in omega (arith, u, next));
        index_drawn = (let u = h.index_drawn in omega (arith, u, next));
        table = h.table;
        table_is = ap (λ (c : Catalogue). c.tables p.table.0) same ∙ h.table_is;
        index = h.index;
        index_is = ap (λ (c : Catalogue). c.indexes i) same ∙ h.index_is;
        owner = h.owner;
        state = h.state;
        birth = h.birth;
        known = (let u = h.known in let v = last-snoc k.base p.table.0 k.seen e in omega (arith, u, v, last));
        low = (let v = horizon-snoc k.base p.table.0 k.seen e in omega (arith, v, low));
        decided = decided-stays k.base p.table.0 p.stamp k.seen (e ∷ []) legal h.decided h.known;
        each = h.each;
        distinct = h.distinct;
        there = λ s. all_more _ _ (λ f a. state-stays k.base p.table.0 _ p.stamp k.seen (e ∷ []) legal h.decided h.known h.table_drawn ∙ a) xs (h.there s);
      }

  based_on : (r : List Value) → is_based k.seen i r ≡ true → is_based (k.seen ++ e ∷ []) i r ≡ true
  based_on r was = based-snoc i r k.seen e ∙ (ap (λ (v : Bool). base_step i r v e.act) was ∙ still_based k.base k.seen e.seat e.calls p.table.0 i r e.act h.index may.follows h.index_drawn loud h.index_is h.owner)

-- 3. Several entries

-- an entry is another seat's, or one of the seat in which it begins and ends nothing; and what follows is like that
parts_of : (seat : ℕ) (e : Entry) (es : List Entry) → outline (acts_by seat (e ∷ es)) ≡ [] → ((e.seat ≢ seat) ⊎ (is_turn e.act ≡ false)) × ((outline (acts_by seat (e ∷ [])) ≡ []) × (outline (acts_by seat es) ≡ []))
unfolding acts_by
parts_of seat e es h =
    elim (e.seat == seat) as (λ v. (e.seat == seat) ≡ v → outline (if v then e.act ∷ acts_by seat es else acts_by seat es) ≡ [] → ((e.seat ≢ seat) ⊎ (is_turn e.act ≡ false)) × ((outline (if v then e.act ∷ [] else []) ≡ []) × (outline (acts_by seat es) ≡ []))) [
      | true ↦ λ is q. (let c = quiet_cons e.act (acts_by seat es) q in (inr c.0, (rw c.0 refl, c.1)))
      | false ↦ λ is q. (inl (λ same. (let z : (e.seat == seat) ≡ true = (Decides-eqb e.seat seat).1 same in cc)), (refl, q))
    ] refl h

-- what is kept over some entries: rows may still be given their base versions, and those that were based are
record Kept (sound : Type 0) (k : Known) (es : List Entry) (p : Point) (i : ℕ) (xs : List BaseRow) : Type 0 where
  may : MayBase sound (grown k es) p i xs
  based : (r : List Value) → is_based k.seen i r ≡ true → is_based (k.seen ++ es) i r ≡ true

kept : (sound : Type 0) (k : Known) (es : List Entry) (p : Point) (i : ℕ) (xs : List BaseRow) → IsLegal k.base (k.seen ++ es) → outline (acts_by k.seat es) ≡ [] → HasOpen k p → MayBase sound k p i xs → Kept sound k es p i xs
kept sound k [] p i xs legal quiet is_open h =
    record {
      may = subst (λ (l : List Entry). MayBase sound (record k { seen = l }) p i xs) (sym (append-nil k.seen)) h;
      based = λ r was. ap (λ (l : List Entry). is_based l i r) (append-nil k.seen) ∙ was;
    }
kept sound k (e ∷ es) p i xs legal quiet is_open h =
    let split : k.seen ++ e ∷ es ≡ (k.seen ++ e ∷ []) ++ es = sym (append_assoc k.seen (e ∷ []) es) in
    let parts = parts_of k.seat e es quiet in
    let l : IsLegal k.base ((k.seen ++ e ∷ []) ++ es) = subst (λ (l : List Entry). IsLegal k.base l) split legal in
    let first = legal-prefix k.base (k.seen ++ e ∷ []) es l in
    let one : MayBase sound (grown k (e ∷ [])) p i xs = elim parts.0 [ inl apart ↦ others sound k e p i xs first is_open h apart | inr still ↦ own sound k e p i xs first is_open h still ] in
    let held = quiet-open k (grown k (e ∷ [])) (e ∷ []) p refl parts.1.0 refl is_open in
    let rest = kept sound (grown k (e ∷ [])) es p i xs l parts.1.1 held one in
    record {
      may = subst (λ (l : List Entry). MayBase sound (record k { seen = l }) p i xs) (sym split) rest.may;
      based = λ r was. ap (λ (l : List Entry). is_based l i r) split ∙ rest.based r (based_on sound k e p i xs first is_open h r was);
    }

alone_no_matter : (sound : Type 0) (v : Bool) (k : Known) (p : Point) (i : ℕ) (xs : List BaseRow) → MayBase sound k p i xs → MayBase sound (record k { alone = v }) p i xs
alone_no_matter sound v k p i xs h = record { table_drawn = h.table_drawn; index_drawn = h.index_drawn; table = h.table; table_is = h.table_is; index = h.index; index_is = h.index_is; owner = h.owner; state = h.state; birth = h.birth; known = h.known; low = h.low; decided = h.decided; each = h.each; distinct = h.distinct; there = h.there }

legal_here : (k k' : Known) → (g : Grown k k') → IsLegal k.base (k.seen ++ g.more)
legal_here k k' g = subst (λ (b : Base). IsLegal b (k.seen ++ g.more)) g.base (subst (λ (s : List Entry). IsLegal k'.base s) g.seen g.legal)

pub base-stays : (sound : Type 0) (k k' : Known) (p : Point) (i : ℕ) (xs : List BaseRow) → Grown k k' → HasOpen k p → MayBase sound k p i xs → MayBase sound k' p i xs
base-stays sound k k' p i xs g is_open h =
    let all = kept sound k g.more p i xs (legal_here k k' g) g.quiet is_open h in
    subst (λ (z : Known). MayBase sound z p i xs) (λ j. record { seat = sym g.seat j; base = sym g.base j; damaged = sym g.damaged j; alone = k'.alone; seen = sym g.seen j }) (alone_no_matter sound k'.alone (grown k g.more) p i xs all.may)

pub based-stays : (sound : Type 0) (k k' : Known) (p : Point) (i : ℕ) (xs : List BaseRow) → Grown k k' → HasOpen k p → MayBase sound k p i xs → (r : List Value) → is_based k.seen i r ≡ true → is_based k'.seen i r ≡ true
based-stays sound k k' p i xs g is_open h r was =
    let all = kept sound k g.more p i xs (legal_here k k' g) g.quiet is_open h in
    ap (λ (l : List Entry). is_based l i r) g.seen ∙ all.based r was

-- the states at the point stay
pub state-same : (sound : Type 0) (k k' : Known) (p : Point) (i : ℕ) (xs : List BaseRow) → Grown k k' → MayBase sound k p i xs → (r : List Value) → state_at_point k' p r ≡ state_at_point k p r
state-same sound k k' p i xs g h r =
    ap (λ (b : Base). state_of b k'.seen p.table.0 r p.stamp) g.base
    ∙ (ap (λ (l : List Entry). state_of k.base l p.table.0 r p.stamp) g.seen
    ∙ state-stays k.base p.table.0 r p.stamp k.seen g.more (legal_here k k' g) h.decided h.known h.table_drawn)

-- 4. A build at its point

pub held-stays : (k k' : Known) (t : TableId) (p : Point) → Grown k k' → IsHeld k t p → IsHeld k' t p
held-stays k k' t p g h = record { table = h.table; scn = h.scn; is_open = quiet-open k k' g.more p g.seen g.quiet g.seat h.is_open; legal = g.legal }

-- what follows from a fact of each element
pub all-on : {A : Type 0} (P Q : A → Type 0) → ((x : A) → P x → Q x) → (ys : List A) → AllByRecursion P ys → AllByRecursion Q ys
all-on P Q on [] a = tt
all-on P Q on (y ∷ ys) a = (on y a.0, all-on P Q on ys a.1)

no_rows : (sound : Type 0) (k : Known) (p : Point) (x : Index) → AreRowsFor sound k p x []
unfolding is_distinct
no_rows sound k p x = record { each = tt; distinct = refl; there = λ s. tt }

module _ (sound : Type 0) (k : Known) (t : TableId) (i : IndexId) (p : Point) (x : Index) (h : IsBuilding sound k t i p x) where
  -- what holds whichever rows are given
  pub core : MayBase sound k p i.0 []
  core = h.bases [] (no_rows sound k p x)

  module _ (k' : Known) (g : Grown k k') where
    core_now : MayBase sound k' p i.0 []
    core_now = base-stays sound k k' p i.0 [] g h.held.is_open core

    same_table : (y : Table) → table_of k'.base k'.seen p.table.0 ≡ Some y → table_of k.base k.seen p.table.0 ≡ Some y
    same_table y is =
        table-was k.base p.table.0 k.seen g.more y (legal_here k k' g) h.drawn
        (sym (ap (λ (b : Base). table_of b k'.seen p.table.0) g.base ∙ ap (λ (l : List Entry). table_of k.base l p.table.0) g.seen) ∙ is)

    rows_before : (xs : List BaseRow) → AreRowsFor sound k' p x xs → AreRowsFor sound k p x xs
    rows_before xs r = record {
      each = r.each;
      distinct = r.distinct;
      there = λ s. all-on _ _ (λ f a. sym (state-same sound k k' p i.0 [] g core (owner_at p f.row)) ∙ a) xs (r.there s);
    }

    pub rows-stay : (xs : List BaseRow) → AreRowsFor sound k p x xs → AreRowsFor sound k' p x xs
    rows-stay xs r = record {
      each = r.each;
      distinct = r.distinct;
      there = λ s. all-on _ _ (λ f a. state-same sound k k' p i.0 [] g core (owner_at p f.row) ∙ a) xs (r.there s);
    }

    some_table : {y z : Table} → Some y ≡ Some z → y ≡ z
    some_table e = cc

    pub building-stays : IsBuilding sound k' t i p x
    building-stays =
        let now = core_now in
        let same : now.table ≡ p.found.table = some_table (sym (same_table now.table now.table_is) ∙ h.table_is) in
        record {
          held = held-stays k k' t p g h.held;
          table_is = now.table_is ∙ ap Some same;
          drawn = now.table_drawn;
          bases = λ xs r. base-stays sound k k' p i.0 xs g h.held.is_open (h.bases xs (rows_before xs r));
        }

    pub rows-based-stay : (done : List ℕ → Bool) (owners : List (List Value)) → AreBased k i p done owners → AreBased k' i p done owners
    rows-based-stay done owners a row is read = elim (a row (sym (state-same sound k k' p i.0 [] g core (owner_at p row)) ∙ is) read) [
      | inl was ↦ inl (based-stays sound k k' p i.0 [] g h.held.is_open core (owner_at p row) was)
      | inr among ↦ inr among
    ]

    pub piece-stays : (xs : List BaseRow) → IsPiece sound k p x xs → IsPiece sound k' p x xs
    piece-stays xs h = record { rows = rows-stay xs h.rows; some = h.some; few = h.few }

    pub found-stays : (fs : List FoundKey) → IsFoundAt sound k p fs → IsFoundAt sound k' p fs
    found-stays fs h = record {
      past = h.past;
      rising = h.rising;
      some = h.some;
      few = h.few;
      there = λ s f among. state-same sound k k' p i.0 [] g core (owner_at p f.row) ∙ h.there s f among;
    }

    pub own-stays : AreOwn k p → AreOwn k' p
    own-stays o r row is = o r row (sym (state-same sound k k' p i.0 [] g core r) ∙ is)
