-- An index that is built behind its definition.
use Rattle.std.proofs.Common.{ℕ, ◌≡◌, ◌<◌, ◌+◌, ◌==◌, if◌then◌else◌, Bool, true, false, Option, None, Some, List, [], ◌∷◌, ◌++◌, length, take, drop, refl, sym, ◌∙◌, ap, subst, arith, ◌⊎◌, inl, inr}
use Rattle.std.specs.Option.{option_map}
use Rattle.std.specs.Str.{bytes_eq}
use Rattle.std.proofs.lemmas.Bool.{cases_eq}
use Rattle.std.proofs.lemmas.List.{take-append-drop, take-append-le}
use Rattle.std.proofs.Math.Seq.{take-length}
use Rattle.px_ast.specs.declared.definition.IndexAction.{IndexAction}
use Rattle.px_ast.specs.declared.definition.IndexAction.TheVariants.{Disable, Rebuild}
use Rattle.px_ast.specs.declared.statement.Statement.{Statement}
use Rattle.px_ast.specs.declared.statement.Statement.TheVariants as s
use Rattle.px_values.specs.declared.name.IndexId.{IndexId}
use Rattle.px_values.specs.declared.name.TableId.{TableId}
use Rattle.px_create.specs.Indexes.{index_id_named, new_index}
use Rattle.px_tables.specs.Definitions.{index_definition_of}
use Rattle.px_tables.specs.declared.found.Found.{Found}
use Rattle.px_tables.specs.declared.index.Index.{Index}
use Rattle.px_tables.specs.declared.index.IndexState.{IndexState as BuildState}
use Rattle.px_tables.specs.declared.index.IndexState.TheVariants.{Building, Active, Disabled}
use Rattle.px_tables.specs.declared.index.NewIndex.{NewIndex}
use Rattle.px_trail.specs.Answers.{IsAmong}
use Rattle.px_trail.specs.declared.entry.Act.{Act}
use Rattle.px_trail.specs.declared.entry.Act.TheVariants.{Dropped, IndexMade, IndexState, Made}
use Rattle.px_trail.specs.declared.entry.Entry.{Entry}
use Rattle.px_trail.specs.Legal.{Follows, IsLegal, MayCome}
use Rattle.px_trail.specs.Trail.{Base, Catalogue, catalogue_of, catalogue_step, index_of, of_others, set_number, with_state}
use Rattle.px_trail.specs.Trail as trail
use Rattle.px_trail.proofs.Growth.{catalogue-snoc, legal-induct, legal-prefix, legal-snoc}
use Rattle.px_trail.proofs.Standing.{set_number-other, set_number-same}
use Rattle.px_calls.specs.declared.definition.Definition.{Definition}
use Rattle.px_calls.specs.declared.definition.Definition.TheVariants as d
use Rattle.px_calls.specs.declared.definition.Made.{Made as Answered}
use Rattle.px_calls.specs.Calls.{IsDefinitionMade, IsFound, act_of, index_id_made}
use Rattle.px_calls.specs.Known.{Adds, Extends, Known}
use Rattle.px_calls.specs.Requires.{IsDrawn}
use Rattle.px_calls.proofs.Runs.{may-come}
use Rattle.px_calls.proofs.Stays.{drawn-stays}
use Rattle.px_upkeep.specs.Turns as building
use Rattle.px_item.specs.Builds.{IsAskedFor, IsNumberOf, StandsAs, altered, to_build}
use Rattle.px_item.specs.Right.{IsBoundTo, definition_asked, table_named}

-- 1. What stands under a number

some_index : {x y : Index} → Some x ≡ Some y → x ≡ y
some_index h = cc

none_some : {A : Type 0} (x : Index) → None ≡ Some x → A
none_some x h = cc

of_other : (v : Bool) (y x : Index) → (if v then None else Some y) ≡ Some x → Some y ≡ Some x
of_other true y x h = none_some x h
of_other false y x h = h

others_some : (t : ℕ) (o : Option Index) (x : Index) → of_others t o ≡ Some x → o ≡ Some x
others_some t None x h = h
others_some t (Some y) x h = of_other (y.table.0 == t) y x h

-- an index in another state was made from the same
stated : (state : BuildState) (s n : ℕ) (o : Option Index) (x : Index) → with_state state s n o ≡ Some x → (y : Index) × (o ≡ Some y) × (index_definition_of y ≡ index_definition_of x)
stated state s n None x h = none_some x h
stated Building s n (Some y) x h = (y, refl, ap index_definition_of (some_index h))
stated Active s n (Some y) x h = (y, refl, ap index_definition_of (some_index h))
stated Disabled s n (Some y) x h = (y, refl, ap index_definition_of (some_index h))

was_before : (b : Base) (es : List Entry) (seat calls i : ℕ) (act : Act) (x : Index) → Follows b es seat calls act → i < (catalogue_of b es).next → (catalogue_step (catalogue_of b es) act).indexes i ≡ Some x
    → (y : Index) × (index_of b es i ≡ Some y) × (index_definition_of y ≡ index_definition_of x)
unfolding catalogue_step Follows
was_before b es seat calls i (Made t' what) x f low h = (x, h, refl)
was_before b es seat calls i (IndexMade t' i' s what) x f low h = (x, sym (set_number-other i'.0 _ (catalogue_of b es).indexes i (λ e. absurd (let n = f.0 in omega arith))) ∙ h, refl)
was_before b es seat calls i (IndexState t' i' state s) x f low h = elim (cases_eq i'.0 i) [
  | inl e ↦
      let c = catalogue_of b es in
      let new : with_state state s c.next (c.indexes i'.0) ≡ Some x = sym (ap (λ (m : ℕ). set_number i'.0 (with_state state s c.next (c.indexes i'.0)) c.indexes m) (sym e) ∙ set_number-same i'.0 (with_state state s c.next (c.indexes i'.0)) c.indexes) ∙ h in
      let y = stated state s c.next (c.indexes i'.0) x new in
      (y.0, ap c.indexes (sym e) ∙ y.1, y.2)
  | inr e ↦ (x, sym (set_number-other i'.0 _ (catalogue_of b es).indexes i e) ∙ h, refl)
]
was_before b es seat calls i (Dropped t' None) x f low h = (x, others_some t'.0 (index_of b es i) x h, refl)
was_before b es seat calls i (Dropped t' (Some i')) x f low h = elim (cases_eq i'.0 i) [
  | inl e ↦ none_some x (sym (ap (λ (m : ℕ). set_number i'.0 None (catalogue_of b es).indexes m) (sym e) ∙ set_number-same i'.0 None (catalogue_of b es).indexes) ∙ h)
  | inr e ↦ (x, sym (set_number-other i'.0 None (catalogue_of b es).indexes i e) ∙ h, refl)
]
was_before b es seat calls i act x f low h = (x, h, refl)

number_grows : (b : Base) (what : NewIndex) (i : ℕ) (es : List Entry) (e : Entry) → IsLegal b es → MayCome b es e → IsNumberOf b es what i → IsNumberOf b (es ++ e ∷ []) what i
number_grows b what i es e legal may (drawn, same) =
    let q = catalogue-snoc b es e in (
      drawn-stays b i es (e ∷ []) (legal-snoc b es e legal may) drawn,
      λ x is. (let y = was_before b es e.seat e.calls i e.act x may.follows drawn (sym (ap (λ (c : Catalogue). c.indexes i) q) ∙ is) in sym y.2 ∙ same y.0 y.1),
    )

number_stays : (b : Base) (what : NewIndex) (i : ℕ) (es more : List Entry) → IsLegal b (es ++ more) → IsNumberOf b es what i → IsNumberOf b (es ++ more) what i
number_stays b what i es more legal h = legal-induct b (λ l. IsNumberOf b l what i) (λ l e legal may a. number_grows b what i l e legal may a) es more legal h

-- the index that is made stands under its number
module _ (k k' : Known) (what : NewIndex) (m : Answered) (e : Extends k k' (IndexMade what.table (index_id_made m) m.stamp what)) where
  abbrev entry : Entry
  entry = record { seat = k.seat; calls = e.calls; act = IndexMade what.table (index_id_made m) m.stamp what }

  abbrev new_one : Index
  new_one = trail.made_index (catalogue_of k.base k.seen).next (index_id_made m) m.stamp what

  grows : catalogue_of k'.base k'.seen ≡ catalogue_step (catalogue_of k.base k.seen) entry.act
  grows = ap (λ (b : Base). catalogue_of b k'.seen) e.base ∙ (ap (catalogue_of k.base) e.seen ∙ catalogue-snoc k.base k.seen entry)

  next_is : (catalogue_of k'.base k'.seen).next ≡ (catalogue_of k.base k.seen).next + 2
  unfolding catalogue_step
  next_is = ap (λ (c : Catalogue). c.next) grows

  stands : index_of k'.base k'.seen m.number ≡ Some new_one
  unfolding catalogue_step
  stands = ap (λ (c : Catalogue). c.indexes m.number) grows ∙ set_number-same m.number (Some new_one) (catalogue_of k.base k.seen).indexes

  numbered : m.number ≡ (catalogue_of k.base k.seen).next + 1
  unfolding Follows
  numbered = (may-come k k' (IndexMade what.table (index_id_made m) m.stamp what) e).follows.0

  is_number : IsNumberOf k'.base k'.seen what m.number
  is_number = ((let n = next_is in let i = numbered in omega arith), λ x is. sym (ap index_definition_of (some_index (sym stands ∙ is))))

-- 2. Numbers that were drawn

-- an index that is built again stands under a number that was drawn
abbrev pub IsDrawnFor : Base → List Entry → Definition → Type 0
IsDrawnFor b es (d.Rebuilding t i) = i.0 < (catalogue_of b es).next
IsDrawnFor b es e = Unit {0}

some_definition : (x y : Definition) → Some x ≡ Some y → x ≡ y
some_definition x y h = cc

none_table : {A : Type 0} (t : TableId) → None ≡ Some t → A
none_table t h = cc

same_table : (t u : TableId) → Some t ≡ Some u → t ≡ u
same_table t u h = cc

name_in : (v : Bool) (x : Index) (rest : Option IndexId) (n : IndexId) → (if v then Some x.id else rest) ≡ Some n → (x.id ≡ n) ⊎ (rest ≡ Some n)
name_in true x rest n h = inl (let q : Some x.id ≡ Some n = h in cc)
name_in false x rest n h = inr h

-- the index of a name is one of them
named_among : (xs : List Index) (name : List ℕ) (n : IndexId) → index_id_named xs name ≡ Some n → (x : Index) × IsAmong x xs × (x.id ≡ n)
unfolding IsAmong
named_among [] name n h = cc
named_among (x ∷ xs) name n h = elim (name_in (bytes_eq x.name name) x (index_id_named xs name) n h) [
  | inl is ↦ (x, inl refl, is)
  | inr later ↦ (let y = named_among xs name n later in (y.0, inr y.1, y.2))
]

module _ (b : Base) (es : List Entry) (f : Found) (found : IsFound b es f) (t : TableId) where
  abbrev Drawn : Definition → Type 0
  Drawn e = to_build e ≡ Some t → (t.0 < (catalogue_of b es).next) × IsDrawnFor b es e

  of_this : f.table.id ≡ t → t.0 < (catalogue_of b es).next
  of_this is = subst (λ (u : TableId). u.0 < (catalogue_of b es).next) is found.drawn

  number_drawn : (name : List ℕ) (n : IndexId) → index_id_named f.indexes name ≡ Some n → n.0 < (catalogue_of b es).next
  number_drawn name n h = (let x = named_among f.indexes name n h in subst (λ (i : IndexId). i.0 < (catalogue_of b es).next) x.2 (found.indexes_drawn x.0 x.1))

  altered_drawn : (name : List ℕ) (a : IndexAction) (o : Option IndexId) → index_id_named f.indexes name ≡ o → (e : Definition) → option_map (λ n. altered f.table.id a n) o ≡ Some e → Drawn e
  altered_drawn name a None is e h = cc
  altered_drawn name Disable (Some n) is e h = subst Drawn (some_definition (d.Disabled f.table.id n) e h) (λ q. none_table t q)
  altered_drawn name Rebuild (Some n) is e h = subst Drawn (some_definition (d.Rebuilding f.table.id n) e h) (λ q. (of_this (same_table f.table.id t q), number_drawn name n is))

  dropped_drawn : (o : Option IndexId) (e : Definition) → option_map (λ n. d.DropIndex f.table.id n) o ≡ Some e → Drawn e
  dropped_drawn None e h = cc
  dropped_drawn (Some n) e h = subst Drawn (some_definition (d.DropIndex f.table.id n) e h) (λ q. none_table t q)

  asked_drawn : (x : Statement) (e : Definition) → definition_asked f x ≡ Some e → Drawn e
  asked_drawn (s.DropTable y) e h = subst Drawn (some_definition (d.DropTable f.table.id) e h) (λ q. none_table t q)
  asked_drawn (s.CreateIndex y) e h = subst Drawn (some_definition (d.Index (new_index f.table y)) e h) (λ q. (of_this (same_table f.table.id t q), tt))
  asked_drawn (s.DropIndex y) e h = dropped_drawn (index_id_named f.indexes y.name) e h
  asked_drawn (s.AlterIndex y) e h = altered_drawn y.name y.action (index_id_named f.indexes y.name) refl e h
  asked_drawn x e h = cc

drawn_grows : (b : Base) (es more : List Entry) → IsLegal b (es ++ more) → (e : Definition) → IsDrawnFor b es e → IsDrawnFor b (es ++ more) e
drawn_grows b es more legal (d.Rebuilding t i) h = drawn-stays b i.0 es more legal h
drawn_grows b es more legal (d.Table what) h = tt
drawn_grows b es more legal (d.Index what) h = tt
drawn_grows b es more legal (d.Active t i) h = tt
drawn_grows b es more legal (d.Disabled t i) h = tt
drawn_grows b es more legal (d.DropTable t) h = tt
drawn_grows b es more legal (d.DropIndex t i) h = tt

-- what a statement was bound to, and what it asks for, has numbers that were drawn
pub bound_drawn : (k : Known) (first : ℕ) (f : Found) (x : Statement) (e : Definition) (t : TableId) → IsBoundTo k.base k.seen first f (table_named x) → IsLegal k.base k.seen → definition_asked f x ≡ Some e → to_build e ≡ Some t → IsDrawn k t.0 × IsDrawnFor k.base k.seen e
bound_drawn k first f x e t bound legal asks builds =
    let whole : take bound.place k.seen ++ drop bound.place k.seen ≡ k.seen = take-append-drop bound.place k.seen in
    let l : IsLegal k.base (take bound.place k.seen ++ drop bound.place k.seen) = subst (λ (z : List Entry). IsLegal k.base z) (sym whole) legal in
    let was = asked_drawn k.base (take bound.place k.seen) f bound.found t x e asks builds in (
      subst (λ (z : List Entry). t.0 < (catalogue_of k.base z).next) whole (drawn-stays k.base t.0 (take bound.place k.seen) (drop bound.place k.seen) l was.0),
      subst (λ (z : List Entry). IsDrawnFor k.base z e) whole (drawn_grows k.base (take bound.place k.seen) (drop bound.place k.seen) l e was.1),
    )

-- so has the index that is to be built, and it stands as it was asked for
pub made_numbers : (e : Definition) (m : Answered) (k k' : Known) (t : TableId) → Adds k k' (act_of e m) → IsDefinitionMade e m → m.at ≡ length k'.seen → to_build e ≡ Some t → IsDrawnFor k'.base k'.seen e → IsDrawn k' m.number × StandsAs e m k'
made_numbers (d.Index what) m k k' t adds made at builds drawn =
    let n = is_number adds.between k' what m adds.extends in
    let all : k'.seen ≡ take m.at k'.seen = sym (take-length k'.seen) ∙ ap (λ (z : ℕ). take z k'.seen) (sym at) in
    (n.0, subst (λ (l : List Entry). IsNumberOf k'.base l what m.number) all n)
made_numbers (d.Rebuilding u i) m k k' t adds made at builds drawn = (subst (λ (z : ℕ). z < (catalogue_of k'.base k'.seen).next) (sym made.0) drawn, tt)
made_numbers (d.Table what) m k k' t adds made at builds drawn = none_table t builds
made_numbers (d.Active u i) m k k' t adds made at builds drawn = none_table t builds
made_numbers (d.Disabled u i) m k k' t adds made at builds drawn = none_table t builds
made_numbers (d.DropTable u) m k k' t adds made at builds drawn = none_table t builds
made_numbers (d.DropIndex u i) m k k' t adds made at builds drawn = none_table t builds

-- 3. The index that became active is the one that was asked for

pub asked_for : (e : Definition) (m c : Answered) (t : ℕ) (k : Known) → IsLegal k.base k.seen → StandsAs e m k → (h : building.BecameActive m.at t m.number c k) → IsAskedFor e h.index
asked_for (d.Index what) m c t k legal st h =
    let w = h.was in
    let front : take m.at k.seen ≡ take m.at w.seen = ap (take m.at) h.past.seen ∙ take-append-le m.at w.seen h.past.more h.from in
    let F : Base × List Entry → Type 0 = λ q. IsLegal q.0 q.1 in
    let legal_was : IsLegal w.base w.seen = legal-prefix w.base w.seen h.past.more (subst F (λ i. (h.past.base i, h.past.seen i)) legal) in
    let G : Base × List Entry → Type 0 = λ q. IsNumberOf q.0 q.1 what m.number in
    let was : IsNumberOf w.base (take m.at w.seen) what m.number = subst G (λ i. (h.past.base i, front i)) st in
    let whole : take m.at w.seen ++ drop m.at w.seen ≡ w.seen = take-append-drop m.at w.seen in
    let parts : IsLegal w.base (take m.at w.seen ++ drop m.at w.seen) = subst (λ (l : List Entry). IsLegal w.base l) (sym whole) legal_was in
    let now : IsNumberOf w.base w.seen what m.number = subst (λ (l : List Entry). IsNumberOf w.base l what m.number) whole (number_stays w.base what m.number (take m.at w.seen) (drop m.at w.seen) parts was) in
    now.1 h.index h.is
asked_for (d.Table what) m c t k legal st h = tt
asked_for (d.Active u i) m c t k legal st h = tt
asked_for (d.Disabled u i) m c t k legal st h = tt
asked_for (d.Rebuilding u i) m c t k legal st h = tt
asked_for (d.DropTable u) m c t k legal st h = tt
asked_for (d.DropIndex u i) m c t k legal st h = tt
