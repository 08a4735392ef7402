-- What calls ask stays true while entries come.
use Rattle.std.proofs.Common.{ℕ, ◌≡◌, ◌<◌, ◌≤◌, None, Some, List, ◌++◌, length, drop, sym, ◌∙◌, ap, subst, arith, inl, inr}
use Rattle.std.proofs.lemmas.Bool.{cases_eq}
use Rattle.std.proofs.lemmas.List.{drop-append-le}
use Rattle.px_values.specs.declared.change.Change.{Change}
use Rattle.px_tables.specs.declared.table.Table.{Table}
use Rattle.px_trail.specs.declared.entry.Act.{Act}
use Rattle.px_trail.specs.declared.entry.Act.TheVariants.{Made, IndexMade, IndexState, Dropped}
use Rattle.px_trail.specs.declared.entry.Entry.{Entry}
use Rattle.px_trail.specs.Answers.{IsAmong}
use Rattle.px_trail.specs.Legal.{Follows, IsLegal}
use Rattle.px_trail.specs.Trail.{Base, Catalogue, acts_by, catalogue_of, catalogue_step, set_number, table_of}
use Rattle.px_trail.proofs.Growth.{catalogue-snoc, legal-induct}
use Rattle.px_trail.proofs.Standing.{set_number-other, set_number-same}
use Rattle.px_calls.specs.Known.{Known, Ran, TimePasses}
use Rattle.px_calls.specs.Requires.{AreFitting}
use Rattle.px_calls.proofs.Runs.{acts_by-append, among-append, among-front}

-- 1. Tables

-- the next number never falls
next-le : (c : Catalogue) (act : Act) → c.next ≤ (catalogue_step c act).next
unfolding catalogue_step
next-le c (Made t what) = omega arith
next-le c (IndexMade t i s what) = omega arith
next-le c (IndexState t i state s) = omega arith
next-le c (Dropped t None) = omega arith
next-le c (Dropped t (Some i)) = omega arith
next-le c act = omega arith

none_some : {A : Type 0} (x : Table) → None ≡ Some x → A
none_some x h = cc

-- an act leaves a table whose number was drawn, or drops it
table_step : (b : Base) (es : List Entry) (seat calls t : ℕ) (act : Act) (x : Table) → Follows b es seat calls act → t < (catalogue_of b es).next → (catalogue_step (catalogue_of b es) act).tables t ≡ Some x → (catalogue_of b es).tables t ≡ Some x
unfolding catalogue_step Follows
table_step b es seat calls t (Made t' what) x f low h = sym (set_number-other t'.0 _ (catalogue_of b es).tables t (λ e. absurd (let n = f.0 in omega arith))) ∙ h
table_step b es seat calls t (Dropped t' None) x f low h = elim (cases_eq t'.0 t) [
  | inl e ↦ none_some x (sym (ap (λ (m : ℕ). set_number t'.0 None (catalogue_of b es).tables m) (sym e) ∙ set_number-same t'.0 None (catalogue_of b es).tables) ∙ h)
  | inr e ↦ sym (set_number-other t'.0 None (catalogue_of b es).tables t e) ∙ h
]
table_step b es seat calls t (Dropped t' (Some i)) x f low h = h
table_step b es seat calls t (IndexMade t' i s what) x f low h = h
table_step b es seat calls t (IndexState t' i state s) x f low h = h
table_step b es seat calls t act x f low h = h

-- a table that stands later stood before, where its number was drawn
pub table-was : (b : Base) (t : ℕ) (es more : List Entry) (x : Table) → IsLegal b (es ++ more) → t < (catalogue_of b es).next → table_of b (es ++ more) t ≡ Some x → table_of b es t ≡ Some x
table-was b t es more x legal low =
    let all = legal-induct b (λ l. (table_of b l t ≡ Some x → table_of b es t ≡ Some x) × (t < (catalogue_of b l).next))
    (λ l e _ may h.
    (let q = catalogue-snoc b l e in let j = next-le (catalogue_of b l) e.act in let i = h.1 in
    (λ now. h.0 (table_step b l e.seat e.calls t e.act x may.follows h.1 (sym (ap (λ (c : Catalogue). c.tables t) q) ∙ now)), subst (λ (c : Catalogue). t < c.next) (sym q) (omega arith))))
    es more legal ((λ h. h), low) in
    all.0

-- a number that was drawn stays so
pub drawn-stays : (b : Base) (t : ℕ) (es more : List Entry) → IsLegal b (es ++ more) → t < (catalogue_of b es).next → t < (catalogue_of b (es ++ more)).next
drawn-stays b t es more legal low =
    legal-induct b (λ l. t < (catalogue_of b l).next)
    (λ l e _ may h. (let q = catalogue-snoc b l e in let j = next-le (catalogue_of b l) e.act in subst (λ (c : Catalogue). t < c.next) (sym q) (omega arith)))
    es more legal low

-- 2. Changes

-- changes that fit a table go on fitting it
pub grown-fits : (k k' : Known) (more : List Entry) (t : ℕ) (cs : List Change) → k'.seen ≡ k.seen ++ more → k'.base ≡ k.base → IsLegal k'.base k'.seen → AreFitting k t cs → AreFitting k' t cs
grown-fits k k' more t cs seen base legal h =
    let l : IsLegal k.base (k.seen ++ more) = subst (λ (b : Base). IsLegal b (k.seen ++ more)) base (subst (λ (s : List Entry). IsLegal k'.base s) seen legal) in
    let tables : (n : ℕ) → table_of k'.base k'.seen n ≡ table_of k.base (k.seen ++ more) n = λ n. ap (λ (b : Base). table_of b k'.seen n) base ∙ ap (λ (s : List Entry). table_of k.base s n) seen in
    let next : (catalogue_of k'.base k'.seen).next ≡ (catalogue_of k.base (k.seen ++ more)).next = ap (λ (b : Base). (catalogue_of b k'.seen).next) base ∙ ap (λ (s : List Entry). (catalogue_of k.base s).next) seen in
    record {
      drawn = (let d = drawn-stays k.base t k.seen more l h.drawn in omega arith);
      each = λ x now. h.each x (table-was k.base t k.seen more x l h.drawn (sym (tables t) ∙ now));
    }

pub passes-fits : (k k' : Known) (t : ℕ) (cs : List Change) → TimePasses k k' → AreFitting k t cs → AreFitting k' t cs
passes-fits k k' t cs h f = grown-fits k k' h.others t cs h.seen h.base h.legal f

-- 3. Own acts since a place

-- the seat's acts after the first n entries go on with those of a run
pub acts-since : (k k' : Known) (acts : List Act) (n : ℕ) → n ≤ length k.seen → Ran k k' acts → acts_by k'.seat (drop n k'.seen) ≡ acts_by k.seat (drop n k.seen) ++ acts
acts-since k k' acts n low h =
    let cut : drop n (k.seen ++ h.added) ≡ drop n k.seen ++ h.added = drop-append-le n k.seen h.added low in
    ap (λ (m : ℕ). acts_by m (drop n k'.seen)) h.seat
    ∙ (ap (λ (l : List Entry). acts_by k.seat (drop n l)) h.seen
    ∙ (ap (acts_by k.seat) cut ∙ (acts_by-append k.seat (drop n k.seen) h.added ∙ ap (λ (l : List Act). acts_by k.seat (drop n k.seen) ++ l) h.own)))

-- one of a run's acts is one since any place before it
pub ran-since : (k k' : Known) (acts : List Act) (act : Act) (n : ℕ) → n ≤ length k.seen → Ran k k' acts → IsAmong act acts → IsAmong act (acts_by k'.seat (drop n k'.seen))
ran-since k k' acts act n low h m = subst (λ (l : List Act). IsAmong act l) (sym (acts-since k k' acts n low h)) (among-append act (acts_by k.seat (drop n k.seen)) acts m)

-- and one that came before stays so
pub since-stays : (k k' : Known) (acts : List Act) (act : Act) (n : ℕ) → n ≤ length k.seen → Ran k k' acts → IsAmong act (acts_by k.seat (drop n k.seen)) → IsAmong act (acts_by k'.seat (drop n k'.seen))
since-stays k k' acts act n low h m = subst (λ (l : List Act). IsAmong act l) (sym (acts-since k k' acts n low h)) (among-front act (acts_by k.seat (drop n k.seen)) acts m)
