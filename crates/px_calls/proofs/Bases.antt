-- What a call asks that gives rows their base versions stays true while the seat has the point open.
use Rattle.std.proofs.Common.{ℕ, ◌≡◌, ◌≢◌, ◌<◌, ◌==◌, ◌||◌, if◌then◌else◌, Bool, true, false, Option, None, Some, List, [], ◌∷◌, ◌++◌, refl, sym, ◌∙◌, ap, subst, arith, append_assoc, inl, inr}
use Rattle.std.specs.List.{AllByRecursion}
use Rattle.std.proofs.lemmas.Bool.{cases_eq, ne_eqb}
use Rattle.std.proofs.lemmas.Bool.Decides.{Decides-eqb}
use Rattle.std.proofs.lemmas.List.{append-nil}
use Rattle.px_values.specs.declared.name.IndexId.{IndexId}
use Rattle.px_values.specs.declared.row.Value.{Value}
use Rattle.px_tables.specs.declared.index.Index.{Index}
use Rattle.px_tables.specs.declared.index.IndexState.{IndexState as BuildState}
use Rattle.px_tables.specs.declared.index.IndexState.TheVariants.{Building, Active, Disabled}
use Rattle.px_tables.specs.declared.table.Table.{Table}
use Rattle.px_trail.specs.declared.entry.Act.{Act}
use Rattle.px_trail.specs.declared.entry.Act.TheVariants.{Based, Dropped, IndexMade, IndexState, Made}
use Rattle.px_trail.specs.declared.entry.Entry.{Entry}
use Rattle.px_trail.specs.Batches.{has}
use Rattle.px_trail.specs.Legal.{Follows, IsLegal, IsQuiet, MayCome, MayState}
use Rattle.px_trail.specs.States.{key_in, state_of}
use Rattle.px_trail.specs.Trail.{Base, Catalogue, acts_by, catalogue_of, catalogue_step, index_of, last_of, of_others, open_points, set_number, table_of, table_shape, with_state}
use Rattle.px_trail.proofs.Batches.{last_step-le}
use Rattle.px_trail.proofs.Growth.{acts_by-none, catalogue-snoc, horizon-snoc, last-snoc, legal-prefix}
use Rattle.px_trail.proofs.Standing.{points-kept, set_number-other, set_number-same}
use Rattle.px_trail.proofs.States.{decided-stays, state-stays}
use Rattle.px_calls.specs.Known.{Known, TimePasses}
use Rattle.px_calls.specs.Requires.{HasOpen, IsBaseRowOf, MayBase, base_owners, base_step, is_based}
use Rattle.px_calls.specs.declared.query.Point.{Point}
use Rattle.px_calls.proofs.Stays.{drawn-stays}
use Rattle.px_calls.proofs.Activates.{based-snoc, grown, low_step, not_disabled, one_apart, some_index}
use Rattle.px_calls.specs.Calls.{DidBase}
use Rattle.px_calls.specs.declared.query.BaseRow.{BaseRow}

-- what stands goes on standing while the table isn't quiet

record Goes (o : Option Index) (x : Index) : Type 0 where
  index : Index
  is : o ≡ Some index
  state : x.state ≢ Disabled → index.state ≢ Disabled
  same : (s : BuildState) → index ≡ record x { state = index.state }

stays : (o : Option Index) (x : Index) → o ≡ Some x → Goes o x
stays o x is = record { index = x; is = is; state = λ s. s; same = λ s. refl }

stated : (es : List Entry) (t t' i s n : ℕ) (state : BuildState) (b : Base) (x : Index) → MayState b es t' i state s → (IsQuiet es t' → ⊥) → Goes (with_state state s n (Some x)) x
unfolding MayState
stated es t t' i s n Building b x may loud = absurd (loud may.1)
stated es t t' i s n Active b x may loud = record { index = record x { state = Active }; is = refl; state = λ a z. not_disabled z; same = λ u. refl }
stated es t t' i s n Disabled b x may loud = absurd (loud may.1)

goes : (b : Base) (es : List Entry) (seat calls t i : ℕ) (act : Act) (x : Index) → Follows b es seat calls act → i < (catalogue_of b es).next → (IsQuiet es t → ⊥) → x.table.0 ≡ t → index_of b es i ≡ Some x → Goes ((catalogue_step (catalogue_of b es) act).indexes i) x
unfolding catalogue_step Follows
goes b es seat calls t i (Made t' what) x f low loud of is = stays _ x is
goes b es seat calls t i (IndexMade t' i' s what) x f low loud of is = stays _ x (set_number-other i'.0 _ (catalogue_of b es).indexes i (λ e. absurd (let n = f.0 in omega (arith, n, e, low))) ∙ is)
goes b es seat calls t i (IndexState t' i' state s) x f low loud of is = elim (cases_eq i'.0 i) [
  | inl e ↦
      let c = catalogue_of b es in
      let here : c.indexes i'.0 ≡ Some x = ap c.indexes e ∙ is in
      let own : f.0.index ≡ x = some_index (sym f.0.is ∙ here) in
      let at : t'.0 ≡ t = sym f.0.owner ∙ (ap (λ (z : Index). z.table.0) own ∙ of) in
      let g = stated es t t'.0 i'.0 s c.next state b x f.1 (λ q. loud (subst (λ (m : ℕ). IsQuiet es m) at q)) in
      let now : set_number i'.0 (with_state state s c.next (c.indexes i'.0)) c.indexes i ≡ with_state state s c.next (Some x) = ap (λ (m : ℕ). set_number i'.0 (with_state state s c.next (c.indexes i'.0)) c.indexes m) (sym e) ∙ (set_number-same i'.0 (with_state state s c.next (c.indexes i'.0)) c.indexes ∙ ap (with_state state s c.next) here) in
      record { index = g.index; is = now ∙ g.is; state = g.state; same = g.same }
  | inr e ↦ stays _ x (set_number-other i'.0 _ (catalogue_of b es).indexes i e ∙ is)
]
goes b es seat calls t i (Dropped t' None) x f low loud of is = stays _ x (elim (cases_eq t'.0 t) [
  | inl e ↦ absurd (loud (subst (λ (m : ℕ). IsQuiet es m) e f.1))
  | inr e ↦ ap (of_others t'.0) is ∙ kept (x.table.0 == t'.0) (ne_eqb x.table.0 t'.0 (λ q. e (sym q ∙ of)))
])
  where
    kept : (v : Bool) → v ≡ false → (if v then None else Some x) ≡ Some x
    kept true h = (let z : true ≡ false = h in cc)
    kept false h = refl
goes b es seat calls t i (Dropped t' (Some i')) x f low loud of is = elim (cases_eq i'.0 i) [
  | inl e ↦
      let own : f.0.index ≡ x = some_index (sym f.0.is ∙ (ap (catalogue_of b es).indexes e ∙ is)) in
      let at : t'.0 ≡ t = sym f.0.owner ∙ (ap (λ (z : Index). z.table.0) own ∙ of) in
      absurd (loud (subst (λ (m : ℕ). IsQuiet es m) at f.1))
  | inr e ↦ stays _ x (set_number-other i'.0 None (catalogue_of b es).indexes i e ∙ is)
]
goes b es seat calls t i act x f low loud of is = stays _ x is

table_goes : (b : Base) (es : List Entry) (seat calls t : ℕ) (act : Act) (x : Table) → Follows b es seat calls act → t < (catalogue_of b es).next → (IsQuiet es t → ⊥) → table_of b es t ≡ Some x → (catalogue_step (catalogue_of b es) act).tables t ≡ Some x
unfolding catalogue_step Follows
table_goes b es seat calls t (Made t' what) x f low loud is = set_number-other t'.0 _ (catalogue_of b es).tables t (λ e. absurd (let n = f.0 in omega (arith, n, e, low))) ∙ is
table_goes b es seat calls t (Dropped t' None) x f low loud is = elim (cases_eq t'.0 t) [
  | inl e ↦ absurd (loud (subst (λ (m : ℕ). IsQuiet es m) e f.1))
  | inr e ↦ set_number-other t'.0 None (catalogue_of b es).tables t e ∙ is
]
table_goes b es seat calls t (Dropped t' (Some i)) x f low loud is = is
table_goes b es seat calls t (IndexMade t' i s what) x f low loud is = is
table_goes b es seat calls t (IndexState t' i state s) x f low loud is = is
table_goes b es seat calls t act x f low loud is = is

-- one entry of another seat

all_more : {A : Type 0} (P Q : A → Type 0) → ((x : A) → P x → Q x) → (xs : List A) → AllByRecursion P xs → AllByRecursion Q xs
all_more P Q on [] a = tt
all_more P Q on (x ∷ xs) a = (on x a.0, all_more P Q on xs a.1)

module _ (sound : Type 0) (k : Known) (e : Entry) (p : Point) (i : ℕ) (fs : List BaseRow) (legal : IsLegal k.base (k.seen ++ e ∷ [])) (apart : acts_by k.seat (e ∷ []) ≡ []) (held : 0 < open_points k.seat p.table.0 p.stamp k.seen) (h : MayBase sound k p i fs) where
  abbrev t : ℕ
  t = p.table.0

  may : MayCome k.base k.seen e
  may = legal.each k.seen e [] refl

  loud : IsQuiet k.seen t → ⊥
  loud q = (let z = q.points k.seat p.stamp in absurd (omega (arith, z, held)))

  on : Goes ((catalogue_step (catalogue_of k.base k.seen) e.act).indexes i) h.index
  on = goes k.base k.seen e.seat e.calls t i e.act h.index may.follows h.index_drawn loud h.owner h.index_is

  index_same : on.index ≡ record h.index { state = on.index.state }
  index_same = on.same Active

  now : MayBase sound (grown k (e ∷ [])) p i fs
  now =
      let last = last_step-le t (last_of k.base t k.seen) e.act in
      let low = low_step k.base k.seen e.seat e.calls k.seat t p.stamp p.stamp e.act may.follows held (omega arith) h.low in
      record {
        table_drawn = drawn-stays k.base t k.seen (e ∷ []) legal h.table_drawn;
        index_drawn = drawn-stays k.base i k.seen (e ∷ []) legal h.index_drawn;
        table = h.table;
        table_is = ap (λ (u : Catalogue). u.tables t) (catalogue-snoc k.base k.seen e) ∙ table_goes k.base k.seen e.seat e.calls t e.act h.table may.follows h.table_drawn loud h.table_is;
        index = on.index;
        index_is = ap (λ (u : Catalogue). u.indexes i) (catalogue-snoc k.base k.seen e) ∙ on.is;
        owner = ap (λ (z : Index). z.table.0) index_same ∙ h.owner;
        state = on.state h.state;
        birth = ap (λ (z : Index). z.birth) index_same ∙ h.birth;
        known = (let u = h.known in let v = last-snoc k.base t k.seen e in omega (arith, u, v, last));
        low = (let v = horizon-snoc k.base t k.seen e in omega (arith, v, low));
        decided = decided-stays k.base t p.stamp k.seen (e ∷ []) legal h.decided h.known;
        each = subst (λ (z : Index). AllByRecursion (IsBaseRowOf h.table z) fs) (sym index_same) (all_more (IsBaseRowOf h.table h.index) (IsBaseRowOf h.table (record h.index { state = on.index.state })) (λ f a. record { fits = a.fits; key = a.key; short = a.short }) fs h.each);
        distinct = h.distinct;
        there = λ s. all_more (λ f. state_of k.base k.seen t (key_in (table_shape h.table) f.row) p.stamp ≡ Some f.row) (λ f. state_of k.base (k.seen ++ e ∷ []) t (key_in (table_shape h.table) f.row) p.stamp ≡ Some f.row)
            (λ f a. state-stays k.base t (key_in (table_shape h.table) f.row) p.stamp k.seen (e ∷ []) legal h.decided h.known h.table_drawn ∙ a) fs (h.there s);
      }

  held_now : 0 < open_points k.seat t p.stamp (k.seen ++ e ∷ [])
  held_now = (let q = points-kept k.seat t p.stamp k.seen (e ∷ []) apart in omega (arith, q, held))

all_on : (sound : Type 0) (k : Known) (others : List Entry) (p : Point) (i : ℕ) (fs : List BaseRow) → IsLegal k.base (k.seen ++ others) → acts_by k.seat others ≡ [] → 0 < open_points k.seat p.table.0 p.stamp k.seen → MayBase sound k p i fs → MayBase sound (grown k others) p i fs
all_on sound k [] p i fs legal apart held h = subst (λ (l : List Entry). MayBase sound (record k { seen = l }) p i fs) (sym (append-nil k.seen)) h
all_on sound k (e ∷ others) p i fs legal apart held h =
    let split : k.seen ++ e ∷ others ≡ (k.seen ++ e ∷ []) ++ others = sym (append_assoc k.seen (e ∷ []) others) in
    let none = acts_by-none k.seat e others apart in
    let l : IsLegal k.base ((k.seen ++ e ∷ []) ++ others) = subst (λ (l : List Entry). IsLegal k.base l) split legal in
    let first = legal-prefix k.base (k.seen ++ e ∷ []) others l in
    let lone = one_apart k.seat e none.0 in
    subst (λ (l : List Entry). MayBase sound (record k { seen = l }) p i fs) (sym split) (all_on sound (grown k (e ∷ [])) others p i fs l none.1 (held_now sound k e p i fs first lone held h) (now sound k e p i fs first lone held h))

alone_no_matter : (sound : Type 0) (v : Bool) (k : Known) (p : Point) (i : ℕ) (fs : List BaseRow) → MayBase sound k p i fs → MayBase sound (record k { alone = v }) p i fs
alone_no_matter sound v k p i fs h = record { table_drawn = h.table_drawn; index_drawn = h.index_drawn; table = h.table; table_is = h.table_is; index = h.index; index_is = h.index_is; owner = h.owner; state = h.state; birth = h.birth; known = h.known; low = h.low; decided = h.decided; each = h.each; distinct = h.distinct; there = h.there }

pub passes_base : (sound : Type 0) (k k' : Known) (p : Point) (i : ℕ) (fs : List BaseRow) → TimePasses k k' → HasOpen k p → MayBase sound k p i fs → MayBase sound k' p i fs
passes_base sound k k' p i fs q held h =
    let legal : IsLegal k.base (k.seen ++ q.others) = subst (λ (b : Base). IsLegal b (k.seen ++ q.others)) q.base (subst (λ (s : List Entry). IsLegal k'.base s) q.seen q.legal) in
    let all = all_on sound k q.others p i fs legal q.apart held h in
    subst (λ (z : Known). MayBase sound z p i fs) (λ j. record { seat = sym q.seat j; base = sym q.base j; damaged = sym q.damaged j; alone = k'.alone; seen = sym q.seen j }) (alone_no_matter sound k'.alone (grown k q.others) p i fs all)

-- the rows of the entry are based

one_based : (i : IndexId) (r : List Value) (v : Bool) (rows : List (List Value)) → has rows r ≡ true → base_step i.0 r v (Based i rows) ≡ true
one_based i r v rows h = by (i.0 == i.0) ((Decides-eqb i.0 i.0).1 refl)
  where
    by : (w : Bool) → w ≡ true → (if w then has rows r || v else v) ≡ true
    by true q = ap (λ (a : Bool). a || v) h
    by false q = (let z : false ≡ true = q in cc)

pub did_based : (k k' : Known) (p : Point) (i : IndexId) (fs : List BaseRow) (at : ℕ) → (d : DidBase k k' p i fs at) → (r : List Value) → has (base_owners d.table fs) r ≡ true → is_based k'.seen i.0 r ≡ true
did_based k k' p i fs at d r h =
    let x = d.adds.extends in
    ap (λ (l : List Entry). is_based l i.0 r) x.seen ∙ (based-snoc i.0 r d.adds.between.seen (record { seat = d.adds.between.seat; calls = x.calls; act = Based i (base_owners d.table fs) }) ∙ one_based i r (is_based d.adds.between.seen i.0 r) (base_owners d.table fs) h)
