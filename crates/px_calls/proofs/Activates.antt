-- What a definition asks stays true while others' entries come: a point that the seat has open keeps the table's indexes.
use Rattle.std.proofs.Common.{ℕ, ◌≡◌, ◌≢◌, ◌<◌, ◌≤◌, ◌==◌, ◌||◌, if◌then◌else◌, Bool, true, false, Option, None, Some, List, [], ◌∷◌, ◌++◌, refl, sym, ◌∙◌, ap, subst, arith, append_assoc, inl, inr}
use Rattle.std.proofs.lemmas.Bool.{cases_eq, ne_eqb}
use Rattle.std.proofs.lemmas.Bool.Decides.{Decides-eqb}
use Rattle.std.proofs.lemmas.List.{append-nil}
use Rattle.px_values.specs.declared.row.Value.{Value}
use Rattle.px_tables.specs.declared.index.Index.{Index}
use Rattle.px_tables.specs.declared.index.IndexState.{IndexState as BuildState}
use Rattle.px_tables.specs.declared.index.IndexState.TheVariants.{Building, Active, Disabled}
use Rattle.px_tables.specs.declared.index.NewIndex.{NewIndex}
use Rattle.px_trail.specs.declared.entry.Act.{Act}
use Rattle.px_trail.specs.declared.entry.Act.TheVariants.{Based, Dropped, IndexMade, IndexState, Made, Raised}
use Rattle.px_trail.specs.declared.entry.Entry.{Entry}
use Rattle.px_trail.specs.Batches.{IsDecided, has}
use Rattle.px_trail.specs.Legal.{Follows, IsLegal, IsQuiet, MayCome, MayState}
use Rattle.px_trail.specs.States.{state_of}
use Rattle.px_trail.specs.Trail.{Base, Catalogue, acts_by, catalogue_of, catalogue_step, horizon_of, horizon_step, index_of, last_of, of_others, open_points, set_number, table_of, with_state}
use Rattle.px_trail.proofs.Batches.{last_step-le}
use Rattle.px_trail.proofs.Growth.{acts_by-none, catalogue-snoc, horizon-snoc, last-snoc, legal-prefix}
use Rattle.px_trail.proofs.Standing.{points-kept, set_number-other, set_number-same}
use Rattle.px_trail.proofs.States.{decided-stays, state-stays}
use Rattle.px_calls.specs.declared.definition.Definition.{Definition}
use Rattle.px_calls.specs.declared.definition.Definition.TheVariants as d
use Rattle.px_calls.specs.Known.{Known, TimePasses}
use Rattle.px_calls.specs.Requires.{CanActivate, CanDefine, IsIndexFit, MayActivate, base_from, base_step, is_based}
use Rattle.px_calls.proofs.Stays.{drawn-stays, table-was}

-- 1. An index while a point of its table is open

-- an index that is there after an entry was there before it, and while the table isn't quiet it has the same birth and isn't disabled
record Came (b : Base) (es : List Entry) (t i : ℕ) (x : Index) : Type 0 where
  index : Index
  is : index_of b es i ≡ Some index
  owner : index.table.0 ≡ t
  birth : (IsQuiet es t → ⊥) → index.birth ≡ x.birth
  state : (IsQuiet es t → ⊥) → index.state ≢ Disabled → x.state ≢ Disabled

same : (b : Base) (es : List Entry) (t i : ℕ) (x : Index) → x.table.0 ≡ t → index_of b es i ≡ Some x → Came b es t i x
same b es t i x of h = record { index = x; is = h; owner = of; birth = λ loud. refl; state = λ loud s. s }

pub some_index : {x y : Index} → Some x ≡ Some y → x ≡ y
some_index h = cc

none_some : {A : Type 0} (x : Index) → None ≡ Some x → A
none_some x h = cc

pub not_disabled : Active ≡ Disabled → ⊥
not_disabled h = cc

of_other : (v : Bool) (y x : Index) → (if v then None else Some y) ≡ Some x → Some y ≡ Some x
of_other true y x h = none_some x h
of_other false y x h = h

others-some : (t : ℕ) (o : Option Index) (x : Index) → of_others t o ≡ Some x → o ≡ Some x
others-some t None x h = h
others-some t (Some y) x h = of_other (y.table.0 == t) y x h

-- where the index is quiet its table is
quiet-at : (es : List Entry) (t t' : ℕ) (y : Index) → y.table.0 ≡ t' → y.table.0 ≡ t → IsQuiet es t' → IsQuiet es t
quiet-at es t t' y owner of q = subst (λ (m : ℕ). IsQuiet es m) (sym owner ∙ of) q

-- the index comes into a state
stated : (b : Base) (es : List Entry) (t t' i s n : ℕ) (state : BuildState) (y x : Index) → index_of b es i ≡ Some y → y.table.0 ≡ t' → MayState b es t' i state s → x.table.0 ≡ t → with_state state s n (Some y) ≡ Some x → Came b es t i x
unfolding MayState
stated b es t t' i s n Building y x is owner may of h =
    let e = some_index h in
    let was : y.table.0 ≡ t = ap (λ (z : Index). z.table.0) e ∙ of in
    record { index = y; is = is; owner = was; birth = λ loud. absurd (loud (quiet-at es t t' y owner was may.1)); state = λ loud. absurd (loud (quiet-at es t t' y owner was may.1)) }
stated b es t t' i s n Active y x is owner may of h =
    let e = some_index h in
    record { index = y; is = is; owner = ap (λ (z : Index). z.table.0) e ∙ of; birth = λ loud. ap (λ (z : Index). z.birth) e; state = λ loud _ z. not_disabled (ap (λ (u : Index). u.state) e ∙ z) }
stated b es t t' i s n Disabled y x is owner may of h =
    let e = some_index h in
    let was : y.table.0 ≡ t = ap (λ (z : Index). z.table.0) e ∙ of in
    record { index = y; is = is; owner = was; birth = λ loud. absurd (loud (quiet-at es t t' y owner was may.1)); state = λ loud. absurd (loud (quiet-at es t t' y owner was may.1)) }

came : (b : Base) (es : List Entry) (seat calls t i : ℕ) (act : Act) (x : Index) → Follows b es seat calls act → i < (catalogue_of b es).next → x.table.0 ≡ t → (catalogue_step (catalogue_of b es) act).indexes i ≡ Some x → Came b es t i x
unfolding catalogue_step Follows
came b es seat calls t i (Made t' what) x f low of h = same b es t i x of h
came b es seat calls t i (IndexMade t' i' s what) x f low of h =
    same b es t i x of (sym (set_number-other i'.0 _ (catalogue_of b es).indexes i (λ e. absurd (let n = f.0 in omega arith))) ∙ h)
came b es seat calls t i (IndexState t' i' state s) x f low of h = elim (cases_eq i'.0 i) [
  | inl e ↦
      let c = catalogue_of b es in
      let is : index_of b es i ≡ Some f.0.index = ap c.indexes (sym e) ∙ f.0.is in
      let new : with_state state s c.next (c.indexes i'.0) ≡ Some x = sym (ap (λ (m : ℕ). set_number i'.0 (with_state state s c.next (c.indexes i'.0)) c.indexes m) (sym e) ∙ set_number-same i'.0 (with_state state s c.next (c.indexes i'.0)) c.indexes) ∙ h in
      stated b es t t'.0 i s c.next state f.0.index x is f.0.owner (subst (λ (m : ℕ). MayState b es t'.0 m state s) e f.1) of (ap (with_state state s c.next) (sym f.0.is) ∙ new)
  | inr e ↦ same b es t i x of (sym (set_number-other i'.0 _ (catalogue_of b es).indexes i e) ∙ h)
]
came b es seat calls t i (Dropped t' None) x f low of h = same b es t i x of (others-some t'.0 (index_of b es i) x h)
came b es seat calls t i (Dropped t' (Some i')) x f low of h = elim (cases_eq i'.0 i) [
  | inl e ↦ none_some x (sym (ap (λ (m : ℕ). set_number i'.0 None (catalogue_of b es).indexes m) (sym e) ∙ set_number-same i'.0 None (catalogue_of b es).indexes) ∙ h)
  | inr e ↦ same b es t i x of (sym (set_number-other i'.0 None (catalogue_of b es).indexes i e) ∙ h)
]
came b es seat calls t i act x f low of h = same b es t i x of h

-- 2. The horizon, and what was based

if_low : (v : Bool) (h h' m : ℕ) → (v ≡ true → h' ≤ m) → h ≤ m → (if v then h' else h) ≤ m
if_low true h h' m f g = f refl
if_low false h h' m f g = g

-- the horizon stays at or below an open point
pub low_step : (b : Base) (es : List Entry) (seat calls n t s m : ℕ) (act : Act) → Follows b es seat calls act → 0 < open_points n t s es → s ≤ m → horizon_of b t es ≤ m → horizon_step t (horizon_of b t es) act ≤ m
unfolding Follows
low_step b es seat calls n t s m (Raised t' h') f held below low =
    if_low (t'.0 == t) (horizon_of b t es) h' m
    (λ v. let e : t'.0 ≡ t = (Decides-eqb t'.0 t).0 v in let k = f.points n s (subst (λ (u : ℕ). 0 < open_points n u s es) (sym e) held) in omega arith)
    low
low_step b es seat calls n t s m act f held below low = low

base_from-append : (i : ℕ) (r : List Value) (v : Bool) (xs ys : List Entry) → base_from i r v (xs ++ ys) ≡ base_from i r (base_from i r v xs) ys
unfolding base_from
base_from-append i r v [] ys = refl
base_from-append i r v (x ∷ xs) ys = base_from-append i r (base_step i r v x.act) xs ys

pub based-snoc : (i : ℕ) (r : List Value) (es : List Entry) (e : Entry) → is_based (es ++ e ∷ []) i r ≡ base_step i r (is_based es i r) e.act
unfolding base_from
based-snoc i r es e = base_from-append i r false es (e ∷ [])

if_kept : (v : Bool) → (v ≡ true → ⊥) → (if v then false else true) ≡ true
if_kept true h = absurd (h refl)
if_kept false h = refl

if_more : (v w : Bool) → (if v then w || true else true) ≡ true
if_more true true = refl
if_more true false = refl
if_more false w = refl

-- a row that was based stays so while a point is open
base_kept : (b : Base) (es : List Entry) (seat calls t i : ℕ) (r : List Value) (act : Act) (x : Index) → Follows b es seat calls act → i < (catalogue_of b es).next → (IsQuiet es t → ⊥) → index_of b es i ≡ Some x → x.table.0 ≡ t → base_step i r true act ≡ true
unfolding Follows MayState
base_kept b es seat calls t i r (IndexMade t' i' s what) x f low loud is of = if_kept (i'.0 == i) (λ v. let e : i'.0 ≡ i = (Decides-eqb i'.0 i).0 v in absurd (let n = f.0 in omega arith))
base_kept b es seat calls t i r (IndexState t' i' Building s) x f low loud is of =
    if_kept (i'.0 == i)
    (λ v.
    let e : i'.0 ≡ i = (Decides-eqb i'.0 i).0 v in
    let y : f.0.index ≡ x = some_index (sym f.0.is ∙ (ap (catalogue_of b es).indexes e ∙ is)) in
    loud (quiet-at es t t'.0 f.0.index f.0.owner (ap (λ (z : Index). z.table.0) y ∙ of) f.1.1))
base_kept b es seat calls t i r (IndexState t' i' Active s) x f low loud is of = refl
base_kept b es seat calls t i r (IndexState t' i' Disabled s) x f low loud is of = refl
base_kept b es seat calls t i r (Based i' rows) x f low loud is of = if_more (i'.0 == i) (has rows r)
base_kept b es seat calls t i r act x f low loud is of = refl

-- 3. Definitions

abbrev pub grown : Known → List Entry → Known
grown k more = record { seat = k.seat; base = k.base; damaged = k.damaged; alone = k.alone; seen = k.seen ++ more }

-- one entry of another seat
module _ (sound : Type 0) (k : Known) (e : Entry) (t i : ℕ) (legal : IsLegal k.base (k.seen ++ e ∷ [])) (apart : acts_by k.seat (e ∷ []) ≡ []) (h : MayActivate sound k t i) where
  may : MayCome k.base k.seen e
  may = legal.each k.seen e [] refl

  more : (x y : Index) → index_of k.base k.seen i ≡ Some y → y.table.0 ≡ t → (IsQuiet k.seen t → ⊥) → y.birth ≡ x.birth → x.state ≢ Disabled → CanActivate sound k t i y → CanActivate sound (grown k (e ∷ [])) t i x
  more x y is of loud birth state a =
      let points = points-kept k.seat t a.stamp k.seen (e ∷ []) apart in
      let low = low_step k.base k.seen e.seat e.calls k.seat t a.stamp y.birth e.act may.follows a.guarded a.below a.low in
      let last = last_step-le t (last_of k.base t k.seen) e.act in
      record {
        state = state;
        stamp = a.stamp;
        below = (let u = a.below in omega arith);
        known = (let u = a.known in let v = last-snoc k.base t k.seen e in omega arith);
        guarded = (let u = a.guarded in omega arith);
        low = (let v = horizon-snoc k.base t k.seen e in omega arith);
        decided = subst (λ (p : ℕ). IsDecided (k.seen ++ e ∷ []) t p) birth (decided-stays k.base t y.birth k.seen (e ∷ []) legal a.decided a.known);
        based = λ is_sound r some.
            (let was : state_of k.base k.seen t r y.birth ≢ None = (λ none. some (ap (λ (p : ℕ). state_of k.base (k.seen ++ e ∷ []) t r p) (sym birth) ∙ (state-stays k.base t r y.birth k.seen (e ∷ []) legal a.decided a.known h.table ∙ none))) in
            based-snoc i r k.seen e ∙ (ap (λ (v : Bool). base_step i r v e.act) (a.based is_sound r was) ∙ base_kept k.base k.seen e.seat e.calls t i r e.act y may.follows h.index loud is of));
      }

  loud_at : (y : Index) → CanActivate sound k t i y → IsQuiet k.seen t → ⊥
  loud_at y a q = let z = q.points k.seat a.stamp in let g = a.guarded in absurd (omega arith)

  each : (x : Index) → index_of k.base (k.seen ++ e ∷ []) i ≡ Some x → x.table.0 ≡ t → CanActivate sound (grown k (e ∷ [])) t i x
  each x is of =
      let c = came k.base k.seen e.seat e.calls t i e.act x may.follows h.index of (sym (ap (λ (u : Catalogue). u.indexes i) (catalogue-snoc k.base k.seen e)) ∙ is) in
      let a = h.each c.index c.is c.owner in
      let loud = loud_at c.index a in
      more x c.index c.is c.owner loud (c.birth loud) (c.state loud a.state) a

  activates : MayActivate sound (grown k (e ∷ [])) t i
  activates = record {
    index = drawn-stays k.base i k.seen (e ∷ []) legal h.index;
    table = drawn-stays k.base t k.seen (e ∷ []) legal h.table;
    each = each;
  }

pub one_apart : (n : ℕ) (e : Entry) → e.seat ≢ n → acts_by n (e ∷ []) ≡ []
unfolding acts_by
one_apart n e apart = ap (λ (v : Bool). if v then e.act ∷ [] else []) (ne_eqb e.seat n apart)

-- entries of other seats
activates-all : (sound : Type 0) (k : Known) (others : List Entry) (t i : ℕ) → IsLegal k.base (k.seen ++ others) → acts_by k.seat others ≡ [] → MayActivate sound k t i → MayActivate sound (grown k others) t i
activates-all sound k [] t i legal apart h = subst (λ (l : List Entry). MayActivate sound (record k { seen = l }) t i) (sym (append-nil k.seen)) h
activates-all sound k (e ∷ others) t i legal apart h =
    let split : k.seen ++ e ∷ others ≡ (k.seen ++ e ∷ []) ++ others = sym (append_assoc k.seen (e ∷ []) others) in
    let none = acts_by-none k.seat e others apart in
    let l : IsLegal k.base ((k.seen ++ e ∷ []) ++ others) = subst (λ (l : List Entry). IsLegal k.base l) split legal in
    let one = activates sound k e t i (legal-prefix k.base (k.seen ++ e ∷ []) others l) (one_apart k.seat e none.0) h in
    subst (λ (l : List Entry). MayActivate sound (record k { seen = l }) t i) (sym split) (activates-all sound (grown k (e ∷ [])) others t i l none.1 one)

fits_index : (k k' : Known) (what : NewIndex) → TimePasses k k' → IsIndexFit k what → IsIndexFit k' what
fits_index k k' what p h =
    let legal : IsLegal k.base (k.seen ++ p.others) = subst (λ (b : Base). IsLegal b (k.seen ++ p.others)) p.base (subst (λ (s : List Entry). IsLegal k'.base s) p.seen p.legal) in
    let tables : (n : ℕ) → table_of k'.base k'.seen n ≡ table_of k.base (k.seen ++ p.others) n = λ n. ap (λ (b : Base). table_of b k'.seen n) p.base ∙ ap (λ (s : List Entry). table_of k.base s n) p.seen in
    let next : (catalogue_of k'.base k'.seen).next ≡ (catalogue_of k.base (k.seen ++ p.others)).next = ap (λ (b : Base). (catalogue_of b k'.seen).next) p.base ∙ ap (λ (s : List Entry). (catalogue_of k.base s).next) p.seen in
    record {
      drawn = (let d = drawn-stays k.base what.table.0 k.seen p.others legal h.drawn in omega arith);
      fits = λ t now. h.fits t (table-was k.base what.table.0 k.seen p.others t legal h.drawn (sym (tables what.table.0) ∙ now));
    }

-- whether others act is nothing to it
alone_no_matter : (sound : Type 0) (v : Bool) (k : Known) (t i : ℕ) → MayActivate sound k t i → MayActivate sound (record k { alone = v }) t i
alone_no_matter sound v k t i h = record {
  index = h.index;
  table = h.table;
  each = λ x is of.
      (let a = h.each x is of in
      record { state = a.state; stamp = a.stamp; below = a.below; known = a.known; guarded = a.guarded; low = a.low; decided = a.decided; based = a.based });
}

passes-activate : (sound : Type 0) (k k' : Known) (t i : ℕ) → TimePasses k k' → MayActivate sound k t i → MayActivate sound k' t i
passes-activate sound k k' t i p h =
    let legal : IsLegal k.base (k.seen ++ p.others) = subst (λ (b : Base). IsLegal b (k.seen ++ p.others)) p.base (subst (λ (s : List Entry). IsLegal k'.base s) p.seen p.legal) in
    let all = activates-all sound k p.others t i legal p.apart h in
    subst (λ (z : Known). MayActivate sound z t i) (λ j. record { seat = sym p.seat j; base = sym p.base j; damaged = sym p.damaged j; alone = k'.alone; seen = sym p.seen j }) (alone_no_matter sound k'.alone (grown k p.others) t i all)

pub passes-define : (sound : Type 0) (k k' : Known) (x : Definition) → TimePasses k k' → CanDefine sound k x → CanDefine sound k' x
passes-define sound k k' (d.Table what) p h = h
passes-define sound k k' (d.Index what) p h = fits_index k k' what p h
passes-define sound k k' (d.Active t i) p h = passes-activate sound k k' t.0 i.0 p h
passes-define sound k k' (d.Disabled t i) p h = h
passes-define sound k k' (d.Rebuilding t i) p h = h
passes-define sound k k' (d.DropTable t) p h = h
passes-define sound k k' (d.DropIndex t i) p h = h
