-- What was done stays so while entries come.
use Rattle.std.proofs.Common.{ℕ, ◌≡◌, None, Ok, List, [], ◌∷◌, ◌++◌, refl, sym, ap, subst, ◌∙◌, arith, append_assoc}
use Rattle.std.proofs.lemmas.List.{append-nil}
use Rattle.std.specs.List.{AllByRecursion}
use Rattle.px_values.specs.declared.change.Change.{Change}
use Rattle.px_values.specs.declared.name.TableId.{TableId}
use Rattle.px_tables.specs.declared.table.Table.{Table}
use Rattle.px_trail.specs.declared.entry.Act.{Act}
use Rattle.px_trail.specs.declared.entry.Entry.{Entry}
use Rattle.px_trail.specs.Legal.{IsLegal}
use Rattle.px_trail.specs.Trail.{Base, acts_by, catalogue_of, table_of}
use Rattle.px_calls.specs.declared.ticket.Receipt.{Receipt}
use Rattle.px_calls.specs.Known.{Known, Ran, TimePasses, outline}
use Rattle.px_calls.specs.Requires.{AreFitting, IsChangeOf}
use Rattle.px_calls.proofs.Runs.{acts_by-append, outline-append}
use Rattle.px_calls.proofs.Stays.{drawn-stays, grown-fits, table-was}
use Rattle.px_planned.specs.declared.planned.Planned.{Planned}
use Rattle.px_select.specs.Selecting.{IsSelectOutcome}
use Rattle.px_select.specs.declared.run.Selected.{Selected}
use Rattle.px_removals.specs.Removals.{AreRemovals}
use Rattle.px_deleting.specs.Deleting.{AreMade, CanBegin, HasFoundRows, HasMadeBatch, WasKnown}

-- 1. Moments

-- what is seen later
pub record Later (k k' : Known) : Type 0 where
  pub more : List Entry
  pub seen : k'.seen ≡ k.seen ++ more
  pub base : k'.base ≡ k.base
  pub seat : k'.seat ≡ k.seat

pub ran-later : (k k' : Known) (acts : List Act) → Ran k k' acts → Later k k'
ran-later k k' acts h = record { more = h.added; seen = h.seen; base = h.base; seat = h.seat }

pub passes-later : (k k' : Known) → TimePasses k k' → Later k k'
passes-later k k' h = record { more = h.others; seen = h.seen; base = h.base; seat = h.seat }

pub was-now : (k : Known) → WasKnown k k
was-now k = record { more = []; seen = sym (append-nil k.seen); base = refl; seat = refl }

pub was-later : (past k k' : Known) → Later k k' → WasKnown past k → WasKnown past k'
was-later past k k' h w = record {
  more = w.more ++ h.more;
  seen = h.seen ∙ (ap (λ (l : List Entry). l ++ h.more) w.seen ∙ append_assoc past.seen w.more h.more);
  base = h.base ∙ w.base;
  seat = h.seat ∙ w.seat;
}

-- 2. What was found and made

pub found-later : (sound : Type 0) (p : Planned) (k k' : Known) (first : ℕ) (acts : List Act) (cs : List Change) → Later k k' → HasFoundRows sound p k first acts cs → HasFoundRows sound p k' first acts cs
found-later sound p k k' first acts cs h f = record { past = f.past; was = was-later f.past k k' h f.was; answer = f.answer; opened = f.opened; outcome = f.outcome; removals = f.removals }

-- the place at which the point was opened, by another name
pub found-at : (sound : Type 0) (p : Planned) (k : Known) (first first' : ℕ) (acts : List Act) (cs : List Change) → first ≡ first' → HasFoundRows sound p k first acts cs → HasFoundRows sound p k first' acts cs
found-at sound p k first first' acts cs e f = record { past = f.past; was = f.was; answer = f.answer; opened = f.opened ∙ e; outcome = f.outcome; removals = f.removals }

pub found-now : (sound : Type 0) (p : Planned) (own : List Act) (k : Known) (a : Selected) (first : ℕ) (cs : List Change) → a.first ≡ first → IsSelectOutcome sound p None own k (Ok a) → AreRemovals p.table.key a.shown.rows cs → HasFoundRows sound p k first own cs
found-now sound p own k a first cs e h r = record { past = k; was = was-now k; answer = a; opened = e; outcome = h; removals = r }

-- what the seat did since then: the same, and what came later
pub since-later : (sound : Type 0) (p : Planned) (k k' : Known) (first : ℕ) (acts : List Act) (cs : List Change) (h : Later k k') (f : HasFoundRows sound p k first acts cs) → (found-later sound p k k' first acts cs h f).was.more ≡ f.was.more ++ h.more
unfolding found-later was-later
since-later sound p k k' first acts cs h f = refl

did_more : (seat seat' : ℕ) (more added : List Entry) (acts : List Act) → seat' ≡ seat → acts_by seat added ≡ acts → outline (acts_by seat' (more ++ added)) ≡ outline (acts_by seat more) ++ outline acts
did_more seat seat' more added acts e own =
    ap (λ (n : ℕ). outline (acts_by n (more ++ added))) e ∙ (ap outline (acts_by-append seat more added ∙ ap (λ (l : List Act). acts_by seat more ++ l) own) ∙ outline-append (acts_by seat more) acts)

pub since-ran : (sound : Type 0) (p : Planned) (k k' : Known) (first : ℕ) (found : List Act) (cs : List Change) (acts : List Act) (r : Ran k k' acts) (f : HasFoundRows sound p k first found cs)
    → outline (acts_by k'.seat (found-later sound p k k' first found cs (ran-later k k' acts r) f).was.more) ≡ outline (acts_by k.seat f.was.more) ++ outline acts
unfolding found-later was-later ran-later
since-ran sound p k k' first found cs acts r f = did_more k.seat k'.seat f.was.more r.added acts r.seat r.own

pub since-passed : (sound : Type 0) (p : Planned) (k k' : Known) (first : ℕ) (found : List Act) (cs : List Change) (h : TimePasses k k') (f : HasFoundRows sound p k first found cs)
    → outline (acts_by k'.seat (found-later sound p k k' first found cs (passes-later k k' h) f).was.more) ≡ outline (acts_by k.seat f.was.more)
unfolding found-later was-later passes-later
since-passed sound p k k' first found cs h f = did_more k.seat k'.seat f.was.more h.others [] h.seat h.apart ∙ append-nil (outline (acts_by k.seat f.was.more))

pub since-at : (sound : Type 0) (p : Planned) (k : Known) (first first' : ℕ) (acts : List Act) (cs : List Change) (e : first ≡ first') (f : HasFoundRows sound p k first acts cs)
    → outline (acts_by k.seat (found-at sound p k first first' acts cs e f).was.more) ≡ outline (acts_by k.seat f.was.more)
unfolding found-at
since-at sound p k first first' acts cs e f = refl

pub since-now : (sound : Type 0) (p : Planned) (own : List Act) (k : Known) (a : Selected) (first : ℕ) (cs : List Change) (e : a.first ≡ first) (h : IsSelectOutcome sound p None own k (Ok a)) (r : AreRemovals p.table.key a.shown.rows cs)
    → outline (acts_by k.seat (found-now sound p own k a first cs e h r).was.more) ≡ []
unfolding found-now was-now acts_by
since-now sound p own k a first cs e h r = refl

pub made-later : (sound : Type 0) (k k' : Known) (t : TableId) (cs : List Change) (acts : List Act) (r : Receipt) → Later k k' → HasMadeBatch sound k t cs acts r → HasMadeBatch sound k' t cs acts r
made-later sound k k' t cs acts r h m = record { past = m.past; was = was-later m.past k k' h m.was; ended = m.ended }

pub all-later : (sound : Type 0) (k k' : Known) (t : TableId) (parts : List (List Change)) (rs : List Receipt) (acts : List Act) → Later k k' → AreMade sound k t parts rs acts → AreMade sound k' t parts rs acts
all-later sound k k' t [] [] acts h m = m
all-later sound k k' t [] (r ∷ rs) acts h m = absurd m
all-later sound k k' t (cs ∷ parts) [] acts h m = absurd m
all-later sound k k' t (cs ∷ parts) (r ∷ rs) acts h m = (m.0, m.1, m.2, made-later sound k k' t cs m.0 r h m.3, all-later sound k k' t parts rs m.1 h m.4)

-- one batch more
pub made-more : (sound : Type 0) (k : Known) (t : TableId) (parts : List (List Change)) (rs : List Receipt) (acts : List Act) (cs : List Change) (r : Receipt) (mine : List Act) → AreMade sound k t parts rs acts → HasMadeBatch sound k t cs mine r
    → AreMade sound k t (parts ++ cs ∷ []) (rs ++ r ∷ []) (acts ++ mine)
made-more sound k t [] [] acts cs r mine m h = (mine, [], ap (λ (l : List Act). l ++ mine) m ∙ sym (append-nil mine), h, refl)
made-more sound k t [] (x ∷ rs) acts cs r mine m h = absurd m
made-more sound k t (c ∷ parts) [] acts cs r mine m h = absurd m
made-more sound k t (c ∷ parts) (x ∷ rs) acts cs r mine m h =
    (m.0, m.1 ++ mine, ap (λ (l : List Act). l ++ mine) m.2 ∙ append_assoc m.0 m.1 mine, m.3, made-more sound k t parts rs m.1 cs r mine m.4 h)

-- 3. The table

-- a query that was bound stays so
pub can-later : (k k' : Known) (p : Planned) → Later k k' → IsLegal k'.base k'.seen → CanBegin k p → CanBegin k' p
can-later k k' p h legal c =
    let t = p.table.id.0 in
    let l : IsLegal k.base (k.seen ++ h.more) = subst (λ (b : Base). IsLegal b (k.seen ++ h.more)) h.base (subst (λ (s : List Entry). IsLegal k'.base s) h.seen legal) in
    let tables : table_of k'.base k'.seen t ≡ table_of k.base (k.seen ++ h.more) t = ap (λ (b : Base). table_of b k'.seen t) h.base ∙ ap (λ (s : List Entry). table_of k.base s t) h.seen in
    let next : (catalogue_of k'.base k'.seen).next ≡ (catalogue_of k.base (k.seen ++ h.more)).next = ap (λ (b : Base). (catalogue_of b k'.seen).next) h.base ∙ ap (λ (s : List Entry). (catalogue_of k.base s).next) h.seen in
    record {
      legal = legal;
      bound = record {
        drawn = (let d = drawn-stays k.base t k.seen h.more l c.bound.drawn in omega arith);
        is = λ x now. c.bound.is x (table-was k.base t k.seen h.more x l c.bound.drawn (sym tables ∙ now));
      };
    }

pub fitting-later : (k k' : Known) (t : ℕ) (cs : List Change) → Later k k' → IsLegal k'.base k'.seen → AreFitting k t cs → AreFitting k' t cs
fitting-later k k' t cs h legal f = grown-fits k k' h.more t cs h.seen h.base legal f

-- changes that fit the table to which the query was bound
pub fitting-now : (k : Known) (p : Planned) (cs : List Change) → CanBegin k p → AllByRecursion (IsChangeOf p.table) cs → AreFitting k p.table.id.0 cs
fitting-now k p cs c f = record {
  drawn = c.bound.drawn;
  each = λ x now. subst (λ (y : Table). AllByRecursion (IsChangeOf y) cs) (sym (c.bound.is x now)) f;
}
