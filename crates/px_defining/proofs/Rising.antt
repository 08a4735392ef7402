-- What a definition asks stays true where the seat's own upkeep raises a horizon: an open point holds the horizon of its table down.
use Rattle.std.proofs.Common.{ℕ, ◌≡◌, ◌<◌, ◌≤◌, ◌==◌, if◌then◌else◌, Bool, true, false, List, [], ◌∷◌, ◌++◌, refl, sym, ◌∙◌, ap, subst, arith}
use Rattle.std.proofs.lemmas.Bool.Decides.{Decides-eqb}
use Rattle.px_values.specs.declared.name.TableId.{TableId}
use Rattle.px_values.specs.declared.row.Value.{Value}
use Rattle.px_tables.specs.declared.index.NewIndex.{NewIndex}
use Rattle.px_trail.specs.declared.entry.Act.TheVariants.{Raised}
use Rattle.px_trail.specs.declared.entry.Entry.{Entry}
use Rattle.px_trail.specs.Legal.{Follows, IsLegal, MayCome}
use Rattle.px_trail.specs.Trail.{Base, Catalogue, catalogue_of, catalogue_step, horizon_of, last_of, open_points}
use Rattle.px_trail.proofs.Batches.{last_step-le}
use Rattle.px_trail.proofs.Growth.{catalogue-snoc, horizon-snoc, last-snoc, points_from-append}
use Rattle.px_trail.proofs.States.{decided-stays, state-stays}
use Rattle.px_calls.specs.declared.definition.Definition.{Definition}
use Rattle.px_calls.specs.declared.definition.Definition.TheVariants as d
use Rattle.px_calls.specs.Known.{Extends, Known, outline}
use Rattle.px_calls.specs.Requires.{CanDefine, IsIndexFit, MayActivate, base_from, base_step}
use Rattle.px_calls.proofs.Points.{points-quiet}
use Rattle.px_calls.proofs.Runs.{acts_by-one}

base_from-append : (i : ℕ) (r : List Value) (v : Bool) (xs ys : List Entry) → base_from i r v (xs ++ ys) ≡ base_from i r (base_from i r v xs) ys
unfolding base_from
base_from-append i r v [] ys = refl
base_from-append i r v (x ∷ xs) ys = base_from-append i r (base_step i r v x.act) xs ys

if_low : (v : Bool) (h h' m : ℕ) → (v ≡ true → h' ≤ m) → h ≤ m → (if v then h' else h) ≤ m
if_low true h h' m f g = f refl
if_low false h h' m f g = g

-- one entry of the seat more, which raises a horizon
module _ (sound : Type 0) (k : Known) (calls h : ℕ) (at : TableId) (legal : IsLegal k.base (k.seen ++ record { seat = k.seat; calls = calls; act = Raised at h } ∷ [])) where
  abbrev entry : Entry
  entry = record { seat = k.seat; calls = calls; act = Raised at h }

  abbrev more : List Entry
  more = k.seen ++ entry ∷ []

  same : catalogue_of k.base more ≡ catalogue_of k.base k.seen
  unfolding catalogue_step
  same = catalogue-snoc k.base k.seen entry

  may : MayCome k.base k.seen entry
  may = legal.each k.seen entry [] refl

  points : (t s : ℕ) → open_points k.seat t s more ≡ open_points k.seat t s k.seen
  points t s = points_from-append k.seat t s 0 k.seen (entry ∷ []) ∙ points-quiet k.seat t s (open_points k.seat t s k.seen) (entry ∷ []) (ap outline (acts_by-one k.seat calls (Raised at h)))

  held : (t s m : ℕ) → 0 < open_points k.seat t s k.seen → s ≤ m → horizon_of k.base t k.seen ≤ m → horizon_of k.base t more ≤ m
  unfolding Follows
  held t s m guard below low =
      let e = horizon-snoc k.base t k.seen entry in
      let l = if_low (at.0 == t) (horizon_of k.base t k.seen) h m
      (λ v.
      let is : at.0 ≡ t = (Decides-eqb at.0 t).0 v in
      let u = may.follows.points k.seat s (subst (λ (u : ℕ). 0 < open_points k.seat u s k.seen) (sym is) guard) in
      omega arith)
      low in
      omega arith

  activates : (t i : ℕ) → MayActivate sound k t i → MayActivate sound (record k { seen = more }) t i
  unfolding base_from
  activates t i m =
      let next = ap (λ (c : Catalogue). c.next) same in
      record {
        index = (let u = m.index in omega arith);
        table = (let u = m.table in omega arith);
        each = λ x is of.
            (let a = m.each x (sym (ap (λ (c : Catalogue). c.indexes i) same) ∙ is) of in
            let last = last_step-le t (last_of k.base t k.seen) (Raised at h) in
            record {
              state = a.state;
              stamp = a.stamp;
              below = a.below;
              known = (let u = a.known in let v = last-snoc k.base t k.seen entry in omega arith);
              guarded = (let u = a.guarded in let v = points t a.stamp in omega arith);
              low = held t a.stamp x.birth a.guarded a.below a.low;
              decided = decided-stays k.base t x.birth k.seen (entry ∷ []) legal a.decided a.known;
              based = λ is_sound r some.
                  base_from-append i r false k.seen (entry ∷ []) ∙ a.based is_sound r (λ none. some (state-stays k.base t r x.birth k.seen (entry ∷ []) legal a.decided a.known m.table ∙ none));
            });
      }

  indexes : (what : NewIndex) → IsIndexFit k what → IsIndexFit (record k { seen = more }) what
  indexes what f =
      let next = ap (λ (c : Catalogue). c.next) same in
      record {
        drawn = (let u = f.drawn in omega arith);
        fits = λ t is. f.fits t (sym (ap (λ (c : Catalogue). c.tables what.table.0) same) ∙ is);
      }

  defines : (x : Definition) → CanDefine sound k x → CanDefine sound (record k { seen = more }) x
  defines (d.Table what) f = f
  defines (d.Index what) f = indexes what f
  defines (d.Active t i) f = activates t.0 i.0 f
  defines (d.Disabled t i) f = f
  defines (d.Rebuilding t i) f = f
  defines (d.DropTable t) f = f
  defines (d.DropIndex t i) f = f

-- whether others act is nothing to it
alone_no_matter : (sound : Type 0) (v : Bool) (k : Known) (x : Definition) → CanDefine sound k x → CanDefine sound (record k { alone = v }) x
alone_no_matter sound v k (d.Table what) h = h
alone_no_matter sound v k (d.Index what) h = record { drawn = h.drawn; fits = h.fits }
alone_no_matter sound v k (d.Active t i) h = record {
  index = h.index;
  table = h.table;
  each = λ x is of.
      (let a = h.each x is of in
      record { state = a.state; stamp = a.stamp; below = a.below; known = a.known; guarded = a.guarded; low = a.low; decided = a.decided; based = a.based });
}
alone_no_matter sound v k (d.Disabled t i) h = h
alone_no_matter sound v k (d.Rebuilding t i) h = h
alone_no_matter sound v k (d.DropTable t) h = h
alone_no_matter sound v k (d.DropIndex t i) h = h

pub rises-define : (sound : Type 0) (k k' : Known) (x : Definition) (t : TableId) (h : ℕ) → Extends k k' (Raised t h) → CanDefine sound k x → CanDefine sound k' x
rises-define sound k k' x t h e can =
    let legal : IsLegal k.base (k.seen ++ record { seat = k.seat; calls = e.calls; act = Raised t h } ∷ []) =
    subst (λ (b : Base). IsLegal b (k.seen ++ record { seat = k.seat; calls = e.calls; act = Raised t h } ∷ [])) e.base (subst (λ (s : List Entry). IsLegal k'.base s) e.seen e.legal) in
    let all = defines sound k e.calls h t legal x can in
    subst (λ (z : Known). CanDefine sound z x) (λ j. record { seat = sym e.seat j; base = sym e.base j; damaged = sym e.damaged j; alone = k'.alone; seen = sym e.seen j }) (alone_no_matter sound k'.alone (record k { seen = more sound k e.calls h t legal }) x all)
