-- What stands by a trail is what stands after its acts; of those only the ones that begin a batch, define, or raise a horizon count.
use Rattle.std.proofs.Common.{ℕ, ◌≡◌, ◌≢◌, ◌==◌, if◌then◌else◌, Bool, true, false, None, Some, List, [], ◌∷◌, ◌++◌, filter, map, refl, sym, ◌∙◌, ap, subst, append_assoc, inl, inr}
use Rattle.std.proofs.lemmas.Bool.{cases_eq, false≢true, eq-eqb, ne_eqb}
use Rattle.std.proofs.lemmas.List.{append-nil}
use Rattle.px_values.specs.declared.row.Value.{Value}
use Rattle.px_trail.specs.States.{begun, begun_by}
use Rattle.px_trail.specs.Trail.{Base, acts_by, catalogue_step, horizon_step, last_step, shape_step}
use Rattle.px_trail.specs.declared.entry.Act.{Act}
use Rattle.px_trail.specs.declared.entry.Act.TheVariants.{Made, IndexMade, IndexState, Dropped, Begun, Phase, Wrote, Ended, Opened, Released, Raised, Fixed, Based, Missed, Shut}
use Rattle.px_trail.specs.declared.entry.Entry.{Entry}
use Rattle.px_trail.proofs.Growth.{begun-snoc, catalogue-snoc, horizon-snoc, last-snoc, shape-snoc}
use Rattle.px_calls.specs.Known.{is_turn, outline}
use Rattle.px_alone.specs.Alone.{tables_at}
use Rattle.px_alone.specs.Tables.{Tables, after, after_all}

-- 1. One entry

-- each part by one act
abbrev stepped : Tables → Act → Tables
stepped x act = record {
  first = x.first;
  catalogue = catalogue_step x.catalogue act;
  shapes = λ t. shape_step t (x.shapes t) act;
  last = λ t. last_step t (x.last t) act;
  horizon = λ t. horizon_step t (x.horizon t) act;
  changes = λ t r. x.changes t r ++ begun_by t r act;
}

none_more : (x : Tables) → (λ t r. x.changes t r ++ []) ≡ x.changes
none_more x = λ i t r. append-nil (x.changes t r) i

with_changes : (x : Tables) (c : ℕ → List Value → List Rattle.px_trail.specs.States.Dated) → c ≡ x.changes → record x { changes = c } ≡ x
with_changes x c e = ap (λ d. record x { changes = d }) e

after_is : (x : Tables) (act : Act) → stepped x act ≡ after x act
unfolding catalogue_step shape_step begun_by
after_is x (Made t what) = ap (λ d. record (stepped x (Made t what)) { changes = d }) (none_more x)
after_is x (IndexMade t i s what) = ap (λ d. record (stepped x (IndexMade t i s what)) { changes = d }) (none_more x)
after_is x (IndexState t i state s) = ap (λ d. record (stepped x (IndexState t i state s)) { changes = d }) (none_more x)
after_is x (Dropped t None) = ap (λ d. record (stepped x (Dropped t None)) { changes = d }) (none_more x)
after_is x (Dropped t (Some i)) = ap (λ d. record (stepped x (Dropped t (Some i))) { changes = d }) (none_more x)
after_is x (Begun t s cs) = refl
after_is x (Raised t h) = ap (λ d. record (stepped x (Raised t h)) { changes = d }) (none_more x)
after_is x act = ap (λ d. record x { changes = d }) (none_more x)

grown : (b : Base) (es : List Entry) (e : Entry) → tables_at b (es ++ e ∷ []) ≡ stepped (tables_at b es) e.act
grown b es e = λ i. record {
  first = b;
  catalogue = catalogue-snoc b es e i;
  shapes = λ t. shape-snoc b es e t i;
  last = λ t. last-snoc b t es e i;
  horizon = λ t. horizon-snoc b t es e i;
  changes = λ t r. begun-snoc t r es e i;
}

pub tables-snoc : (b : Base) (es : List Entry) (e : Entry) → tables_at b (es ++ e ∷ []) ≡ after (tables_at b es) e.act
tables-snoc b es e = grown b es e ∙ after_is (tables_at b es) e.act

-- 2. Some entries

abbrev pub acts_of : List Entry → List Act
acts_of es = map (λ e. e.act) es

pub tables-append : (b : Base) (es more : List Entry) → tables_at b (es ++ more) ≡ after_all (tables_at b es) (acts_of more)
unfolding after_all
tables-append b es [] = ap (tables_at b) (append-nil es)
tables-append b es (e ∷ more) =
    ap (tables_at b) (sym (append_assoc es (e ∷ []) more)) ∙ (tables-append b (es ++ e ∷ []) more ∙ ap (λ x. after_all x (acts_of more)) (tables-snoc b es e))

pub after-append : (x : Tables) (acts more : List Act) → after_all x (acts ++ more) ≡ after_all (after_all x acts) more
unfolding after_all
after-append x [] more = refl
after-append x (a ∷ acts) more = after-append (after x a) acts more

-- 3. What counts

abbrev pub is_change : Act → Bool
is_change (Made t what) = true
is_change (IndexMade t i s what) = true
is_change (IndexState t i state s) = true
is_change (Dropped t i) = true
is_change (Begun t s cs) = true
is_change act = false

abbrev pub is_rise : Act → Bool
is_rise (Raised t h) = true
is_rise act = false

abbrev pub changes_in : List Act → List Act
changes_in acts = filter is_change acts

abbrev pub rises_in : List Act → List Act
rises_in acts = filter is_rise acts

-- a horizon that rises before a change rises as well behind it
swapped : (x : Tables) (act : Act) (t : Rattle.px_values.specs.declared.name.TableId.TableId) (h : ℕ) → is_change act ≡ true → after (after x act) (Raised t h) ≡ after (after x (Raised t h)) act
swapped x (Made t' what) t h c = refl
swapped x (IndexMade t' i s what) t h c = refl
swapped x (IndexState t' i state s) t h c = refl
swapped x (Dropped t' i) t h c = refl
swapped x (Begun t' s cs) t h c = refl
swapped x act t h c = absurd (false≢true c)

-- some horizons that rise before a change rise as well behind it
all_swapped : (x : Tables) (act : Act) (acts : List Act) → is_change act ≡ true → after_all (after x act) (rises_in acts) ≡ after (after_all x (rises_in acts)) act
unfolding after_all
all_swapped x act [] c = refl
all_swapped x act (Raised t h ∷ acts) c = ap (λ y. after_all y (rises_in acts)) (swapped x act t h c) ∙ all_swapped (after x (Raised t h)) act acts c
all_swapped x act (Made t what ∷ acts) c = all_swapped x act acts c
all_swapped x act (IndexMade t i s what ∷ acts) c = all_swapped x act acts c
all_swapped x act (IndexState t i state s ∷ acts) c = all_swapped x act acts c
all_swapped x act (Dropped t i ∷ acts) c = all_swapped x act acts c
all_swapped x act (Begun t s cs ∷ acts) c = all_swapped x act acts c
all_swapped x act (Phase t s p ∷ acts) c = all_swapped x act acts c
all_swapped x act (Wrote t s rows ∷ acts) c = all_swapped x act acts c
all_swapped x act (Ended t s ∷ acts) c = all_swapped x act acts c
all_swapped x act (Opened t s scn ∷ acts) c = all_swapped x act acts c
all_swapped x act (Released t s ∷ acts) c = all_swapped x act acts c
all_swapped x act (Fixed i key ∷ acts) c = all_swapped x act acts c
all_swapped x act (Based i rows ∷ acts) c = all_swapped x act acts c
all_swapped x act (Missed call ∷ acts) c = all_swapped x act acts c
all_swapped x act (Shut call ∷ acts) c = all_swapped x act acts c

-- a change, and all that is behind it
changed_first : (x : Tables) (act : Act) (acts : List Act) → is_change act ≡ true → after_all (after x act) acts ≡ after_all (after_all (after x act) (rises_in acts)) (changes_in acts) → after_all (after x act) acts ≡ after_all (after (after_all x (rises_in acts)) act) (changes_in acts)
changed_first x act acts c rest = rest ∙ ap (λ y. after_all y (changes_in acts)) (all_swapped x act acts c)

-- the horizons first, and then the changes
pub rises-first : (x : Tables) (acts : List Act) → after_all x acts ≡ after_all (after_all x (rises_in acts)) (changes_in acts)
unfolding after_all
rises-first x [] = refl
rises-first x (Made t what ∷ acts) = changed_first x (Made t what) acts refl (rises-first (after x (Made t what)) acts)
rises-first x (IndexMade t i s what ∷ acts) = changed_first x (IndexMade t i s what) acts refl (rises-first (after x (IndexMade t i s what)) acts)
rises-first x (IndexState t i state s ∷ acts) = changed_first x (IndexState t i state s) acts refl (rises-first (after x (IndexState t i state s)) acts)
rises-first x (Dropped t i ∷ acts) = changed_first x (Dropped t i) acts refl (rises-first (after x (Dropped t i)) acts)
rises-first x (Begun t s cs ∷ acts) = changed_first x (Begun t s cs) acts refl (rises-first (after x (Begun t s cs)) acts)
rises-first x (Raised t h ∷ acts) = rises-first (after x (Raised t h)) acts
rises-first x (Phase t s p ∷ acts) = rises-first x acts
rises-first x (Wrote t s rows ∷ acts) = rises-first x acts
rises-first x (Ended t s ∷ acts) = rises-first x acts
rises-first x (Opened t s scn ∷ acts) = rises-first x acts
rises-first x (Released t s ∷ acts) = rises-first x acts
rises-first x (Fixed i key ∷ acts) = rises-first x acts
rises-first x (Based i rows ∷ acts) = rises-first x acts
rises-first x (Missed call ∷ acts) = rises-first x acts
rises-first x (Shut call ∷ acts) = rises-first x acts

-- or the changes first, and then the horizons
all_behind : (x : Tables) (rose acts : List Act) → after_all (after_all x (rises_in rose)) (changes_in acts) ≡ after_all (after_all x (changes_in acts)) (rises_in rose)
unfolding after_all
all_behind x rose [] = refl
all_behind x rose (Made t what ∷ acts) = ap (λ y. after_all y (changes_in acts)) (sym (all_swapped x (Made t what) rose refl)) ∙ all_behind (after x (Made t what)) rose acts
all_behind x rose (IndexMade t i s what ∷ acts) = ap (λ y. after_all y (changes_in acts)) (sym (all_swapped x (IndexMade t i s what) rose refl)) ∙ all_behind (after x (IndexMade t i s what)) rose acts
all_behind x rose (IndexState t i state s ∷ acts) = ap (λ y. after_all y (changes_in acts)) (sym (all_swapped x (IndexState t i state s) rose refl)) ∙ all_behind (after x (IndexState t i state s)) rose acts
all_behind x rose (Dropped t i ∷ acts) = ap (λ y. after_all y (changes_in acts)) (sym (all_swapped x (Dropped t i) rose refl)) ∙ all_behind (after x (Dropped t i)) rose acts
all_behind x rose (Begun t s cs ∷ acts) = ap (λ y. after_all y (changes_in acts)) (sym (all_swapped x (Begun t s cs) rose refl)) ∙ all_behind (after x (Begun t s cs)) rose acts
all_behind x rose (Raised t h ∷ acts) = all_behind x rose acts
all_behind x rose (Phase t s p ∷ acts) = all_behind x rose acts
all_behind x rose (Wrote t s rows ∷ acts) = all_behind x rose acts
all_behind x rose (Ended t s ∷ acts) = all_behind x rose acts
all_behind x rose (Opened t s scn ∷ acts) = all_behind x rose acts
all_behind x rose (Released t s ∷ acts) = all_behind x rose acts
all_behind x rose (Fixed i key ∷ acts) = all_behind x rose acts
all_behind x rose (Based i rows ∷ acts) = all_behind x rose acts
all_behind x rose (Missed call ∷ acts) = all_behind x rose acts
all_behind x rose (Shut call ∷ acts) = all_behind x rose acts

pub rises-last : (x : Tables) (acts : List Act) → after_all x acts ≡ after_all (after_all x (changes_in acts)) (rises_in acts)
rises-last x acts = rises-first x acts ∙ all_behind x acts acts

-- 4. Who acts

-- changes are among what a seat begins, ends, opens, closes and defines
changes_turn : (acts : List Act) → changes_in acts ≡ changes_in (outline acts)
changes_turn [] = refl
changes_turn (Made t what ∷ acts) = ap (λ l. Made t what ∷ l) (changes_turn acts)
changes_turn (IndexMade t i s what ∷ acts) = ap (λ l. IndexMade t i s what ∷ l) (changes_turn acts)
changes_turn (IndexState t i state s ∷ acts) = ap (λ l. IndexState t i state s ∷ l) (changes_turn acts)
changes_turn (Dropped t i ∷ acts) = ap (λ l. Dropped t i ∷ l) (changes_turn acts)
changes_turn (Begun t s cs ∷ acts) = ap (λ l. Begun t s cs ∷ l) (changes_turn acts)
changes_turn (Ended t s ∷ acts) = changes_turn acts
changes_turn (Opened t s scn ∷ acts) = changes_turn acts
changes_turn (Released t s ∷ acts) = changes_turn acts
changes_turn (Raised t h ∷ acts) = changes_turn acts
changes_turn (Phase t s p ∷ acts) = changes_turn acts
changes_turn (Wrote t s rows ∷ acts) = changes_turn acts
changes_turn (Fixed i key ∷ acts) = changes_turn acts
changes_turn (Based i rows ∷ acts) = changes_turn acts
changes_turn (Missed call ∷ acts) = changes_turn acts
changes_turn (Shut call ∷ acts) = changes_turn acts

-- where no other seat begins, ends, opens, closes or defines anything, all of that is this seat's
abbrev pub OthersQuiet : ℕ → List Entry → Type 0
OthersQuiet seat es = (other : ℕ) → other ≢ seat → outline (acts_by other es) ≡ []

no_first : (a : Act) (l : List Act) → a ∷ l ≡ [] → ⊥
no_first a l h = cc

quiet_rest : (other : ℕ) (e : Entry) (es : List Entry) → outline (acts_by other (e ∷ es)) ≡ [] → outline (acts_by other es) ≡ []
unfolding acts_by
quiet_rest other e es h =
    elim (e.seat == other) as (λ w. outline (if w then e.act ∷ acts_by other es else acts_by other es) ≡ [] → outline (acts_by other es) ≡ []) [
      | true ↦ λ k. elim (is_turn e.act) as (λ v. (if v then e.act ∷ outline (acts_by other es) else outline (acts_by other es)) ≡ [] → outline (acts_by other es) ≡ []) [
        | true ↦ λ j. absurd (no_first e.act (outline (acts_by other es)) j)
        | false ↦ λ j. j
      ] k
      | false ↦ λ k. k
    ] h

quiet_act : (e : Entry) (es : List Entry) → outline (acts_by e.seat (e ∷ es)) ≡ [] → is_turn e.act ≡ false
unfolding acts_by
quiet_act e es h =
    let own : outline (e.act ∷ acts_by e.seat es) ≡ [] = subst (λ (w : Bool). outline (if w then e.act ∷ acts_by e.seat es else acts_by e.seat es) ≡ []) (eq-eqb e.seat e.seat refl) h in
    elim (is_turn e.act) as (λ v. (if v then e.act ∷ outline (acts_by e.seat es) else outline (acts_by e.seat es)) ≡ [] → v ≡ false) [
      | true ↦ λ j. absurd (no_first e.act (outline (acts_by e.seat es)) j)
      | false ↦ λ j. refl
    ] own

pub all-own : (seat : ℕ) (es : List Entry) → OthersQuiet seat es → outline (acts_of es) ≡ outline (acts_by seat es)
unfolding acts_by
all-own seat [] q = refl
all-own seat (e ∷ es) q =
    let rest : outline (acts_of es) ≡ outline (acts_by seat es) = all-own seat es (λ other apart. quiet_rest other e es (q other apart)) in
    elim (cases_eq e.seat seat) [
      | inl same ↦ ap (λ l. if is_turn e.act then e.act ∷ l else l) rest ∙ ap (λ (w : Bool). outline (if w then e.act ∷ acts_by seat es else acts_by seat es)) (sym (eq-eqb e.seat seat same))
      | inr apart ↦
          ap (λ (v : Bool). if v then e.act ∷ outline (acts_of es) else outline (acts_of es)) (quiet_act e es (q e.seat apart))
          ∙ (rest ∙ ap (λ (w : Bool). outline (if w then e.act ∷ acts_by seat es else acts_by seat es)) (sym (ne_eqb e.seat seat apart)))
    ]

-- what the entries change is what the seat's own acts change
pub changes-own : (seat : ℕ) (es : List Entry) → OthersQuiet seat es → changes_in (acts_of es) ≡ changes_in (outline (acts_by seat es))
changes-own seat es q = changes_turn (acts_of es) ∙ ap changes_in (all-own seat es q)

-- 5. Parts

pub outline-append : (acts more : List Act) → outline (acts ++ more) ≡ outline acts ++ outline more
outline-append [] more = refl
outline-append (a ∷ acts) more = elim (is_turn a) as (λ v. (if v then a ∷ outline (acts ++ more) else outline (acts ++ more)) ≡ (if v then a ∷ outline acts else outline acts) ++ outline more) [ true ↦ ap (λ l. a ∷ l) (outline-append acts more) | false ↦ outline-append acts more ]

pub acts-append : (seat : ℕ) (xs ys : List Entry) → acts_by seat (xs ++ ys) ≡ acts_by seat xs ++ acts_by seat ys
unfolding acts_by
acts-append seat [] ys = refl
acts-append seat (x ∷ xs) ys = elim (x.seat == seat) as (λ v. (if v then x.act ∷ acts_by seat (xs ++ ys) else acts_by seat (xs ++ ys)) ≡ (if v then x.act ∷ acts_by seat xs else acts_by seat xs) ++ acts_by seat ys) [ true ↦ ap (λ l. x.act ∷ l) (acts-append seat xs ys) | false ↦ acts-append seat xs ys ]

both_none : {A : Type 0} (xs ys : List A) → xs ++ ys ≡ [] → (xs ≡ []) × (ys ≡ [])
both_none [] ys h = (refl, h)
both_none (x ∷ xs) ys h = cc

pub quiet-parts : (seat : ℕ) (xs ys : List Entry) → OthersQuiet seat (xs ++ ys) → OthersQuiet seat xs × OthersQuiet seat ys
quiet-parts seat xs ys q =
    let part : (other : ℕ) → other ≢ seat → (outline (acts_by other xs) ≡ []) × (outline (acts_by other ys) ≡ []) = λ other apart.
    both_none (outline (acts_by other xs)) (outline (acts_by other ys)) (sym (outline-append (acts_by other xs) (acts_by other ys)) ∙ (ap outline (sym (acts-append other xs ys)) ∙ q other apart)) in
    ((λ other apart. (part other apart).0), (λ other apart. (part other apart).1))
