-- Tables that were found at some place of the trail, where nothing was defined meanwhile.
use Rattle.std.proofs.Common.{ℕ, zero, suc, ◌≡◌, ◌↔◌, ◌≤◌, ◌+◌, ◌-◌, if◌then◌else◌, Bool, true, false, Some, List, [], ◌∷◌, ◌++◌, filter, length, take, refl, sym, ◌∙◌, ap, subst, arith}
use Rattle.std.proofs.lemmas.Bool.{false≢true}
use Rattle.px_tables.specs.declared.found.Found.{Found}
use Rattle.px_trail.specs.Answers.{IsAmong}
use Rattle.px_trail.specs.Trail.{Base, Catalogue, catalogue_from, catalogue_of, catalogue_step}
use Rattle.px_trail.specs.declared.entry.Act.{Act}
use Rattle.px_trail.specs.declared.entry.Act.TheVariants.{Made, IndexMade, IndexState, Dropped, Begun, Phase, Wrote, Ended, Opened, Released, Raised, Fixed, Based, Missed, Shut}
use Rattle.px_trail.specs.declared.entry.Entry.{Entry}
use Rattle.px_trail.proofs.Growth.{catalogue_from-append}
use Rattle.px_calls.specs.Calls.{IsFound}
use Rattle.px_item.specs.Right.{IsBoundTo, IsLacking}
use Rattle.px_alone.specs.Alone.{tables_at}
use Rattle.px_alone.specs.Tables.{HasTable, HasNoTable}
use Rattle.px_alone.proofs.Calm.{take-past}
use Rattle.px_alone.proofs.Standing.{acts_of, changes_in}

-- 1. Definitions

abbrev pub is_definition : Act → Bool
is_definition (Made t what) = true
is_definition (IndexMade t i s what) = true
is_definition (IndexState t i state s) = true
is_definition (Dropped t i) = true
is_definition act = false

abbrev pub defs_in : List Act → List Act
defs_in acts = filter is_definition acts

-- definitions are among the changes
pub defs-changes : (acts : List Act) → defs_in acts ≡ defs_in (changes_in acts)
defs-changes [] = refl
defs-changes (Made t what ∷ acts) = ap (λ l. Made t what ∷ l) (defs-changes acts)
defs-changes (IndexMade t i s what ∷ acts) = ap (λ l. IndexMade t i s what ∷ l) (defs-changes acts)
defs-changes (IndexState t i state s ∷ acts) = ap (λ l. IndexState t i state s ∷ l) (defs-changes acts)
defs-changes (Dropped t i ∷ acts) = ap (λ l. Dropped t i ∷ l) (defs-changes acts)
defs-changes (Begun t s cs ∷ acts) = defs-changes acts
defs-changes (Ended t s ∷ acts) = defs-changes acts
defs-changes (Opened t s scn ∷ acts) = defs-changes acts
defs-changes (Released t s ∷ acts) = defs-changes acts
defs-changes (Raised t h ∷ acts) = defs-changes acts
defs-changes (Phase t s p ∷ acts) = defs-changes acts
defs-changes (Wrote t s rows ∷ acts) = defs-changes acts
defs-changes (Fixed i key ∷ acts) = defs-changes acts
defs-changes (Based i rows ∷ acts) = defs-changes acts
defs-changes (Missed call ∷ acts) = defs-changes acts
defs-changes (Shut call ∷ acts) = defs-changes acts

same_step : (c : Catalogue) (act : Act) → is_definition act ≡ false → catalogue_step c act ≡ c
unfolding catalogue_step
same_step c (Made t what) h = absurd (false≢true (sym h))
same_step c (IndexMade t i s what) h = absurd (false≢true (sym h))
same_step c (IndexState t i state s) h = absurd (false≢true (sym h))
same_step c (Dropped t i) h = absurd (false≢true (sym h))
same_step c act h = refl

no_first : (a : Act) (l : List Act) → a ∷ l ≡ [] → ⊥
no_first a l h = cc

first_none : (v : Bool) (a : Act) (l : List Act) → (if v then a ∷ l else l) ≡ [] → (v ≡ false) × (l ≡ [])
first_none true a l h = absurd (no_first a l h)
first_none false a l h = (refl, h)

same_from : (c : Catalogue) (es : List Entry) → defs_in (acts_of es) ≡ [] → catalogue_from c es ≡ c
unfolding catalogue_from
same_from c [] h = refl
same_from c (e ∷ es) h =
    let f = first_none (is_definition e.act) e.act (defs_in (acts_of es)) h in
    ap (λ (d : Catalogue). catalogue_from d es) (same_step c e.act f.0) ∙ same_from c es f.1

defs_take : (more : List Entry) (j : ℕ) → defs_in (acts_of more) ≡ [] → defs_in (acts_of (take j more)) ≡ []
defs_take more zero h = refl
defs_take [] (suc j) h = refl
defs_take (e ∷ more) (suc j) h =
    let f = first_none (is_definition e.act) e.act (defs_in (acts_of more)) h in
    ap (λ (v : Bool). if v then e.act ∷ defs_in (acts_of (take j more)) else defs_in (acts_of (take j more))) f.0 ∙ defs_take more j f.1

-- 2. Where nothing is defined

module _ (b : Base) (pre more : List Entry) (none : defs_in (acts_of more) ≡ []) where
  pub catalogue-at : (m : ℕ) → length pre ≤ m → catalogue_of b (take m (pre ++ more)) ≡ catalogue_of b pre
  catalogue-at m le =
      let on : m ≡ length pre + (m - length pre) = omega arith in
      ap (λ n. catalogue_of b (take n (pre ++ more))) on
      ∙ (ap (catalogue_of b) (take-past pre more (m - length pre))
      ∙ (catalogue_from-append _ pre (take (m - length pre) more) ∙ same_from (catalogue_of b pre) (take (m - length pre) more) (defs_take more (m - length pre) none)))

  pub finds-at : (m : ℕ) (f : Found) (name : List ℕ) → length pre ≤ m → IsFound b (take m (pre ++ more)) f → f.table.name ≡ name → HasTable (tables_at b pre) f name
  finds-at m f name le h named =
      let c = catalogue-at m le in
      record {
        table = ap (λ (d : Catalogue). d.tables f.table.id.0) (sym c) ∙ h.table;
        named = named;
        indexes = λ i. subst (λ (d : Catalogue). IsAmong i f.indexes ↔ ((d.indexes i.id.0 ≡ Some i) × (i.table.0 ≡ f.table.id.0))) c (h.indexes i);
        rising = h.rising;
      }

  pub finds-bound : (first : ℕ) (f : Found) (name : List ℕ) → length pre ≤ first → IsBoundTo b (pre ++ more) first f name → HasTable (tables_at b pre) f name
  finds-bound first f name le h = finds-at h.place f name (let l = h.from in omega arith) h.found h.named

  pub lacks-at : (seat : ℕ) (damaged : ℕ → ℕ → Bool) (first : ℕ) (name : List ℕ) → length pre ≤ first → IsLacking (record { seat = seat; base = b; damaged = damaged; alone = false; seen = pre ++ more }) first name → HasNoTable (tables_at b pre) name
  lacks-at seat damaged first name le h t y is = h.none t y (ap (λ (d : Catalogue). d.tables t) (catalogue-at h.place (let l = h.from in omega arith)) ∙ is)
