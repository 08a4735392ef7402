-- From what was gathered to the answer.
use Rattle.std.proofs.Common.{ℕ, ◌≡◌, ◌<◌, ◌≤◌, ◌-◌, ◌+◌, true, false, Option, None, Some, List, [], ◌∷◌, ◌++◌, length, take, drop, sym, ◌∙◌, ap, subst, arith, ◌⊎◌, inl, inr, append_assoc}
use Rattle.std.proofs.lemmas.List.{take-append-drop, length-take-le}
use Rattle.std.proofs.Math.Seq.{take-append-add}
use Rattle.std.proofs.lemmas.Bool.Decides.{nat_tests}
use Rattle.px_values.specs.States.{Shape}
use Rattle.px_values.specs.declared.row.Value.{Value}
use Rattle.px_values.specs.declared.row.Value.TheVariants.{Text}
use Rattle.px_tables.specs.declared.found.Found.{Found}
use Rattle.px_trail.specs.declared.entry.Entry.{Entry}
use Rattle.px_trail.specs.Answers.{AreInOrder, Given, IsCutByLimit, IsRowGiven, IsWithinLimit}
use Rattle.px_trail.specs.Batches.{IsDecided}
use Rattle.px_trail.specs.Legal.{IsLegal}
use Rattle.px_trail.specs.States.{key_in, state_now, state_of}
use Rattle.px_trail.specs.Trail.{Base, catalogue_of, horizon_of, last_of, shape_of, table_of, table_shape}
use Rattle.px_trail.proofs.Growth.{legal-prefix}
use Rattle.px_trail.proofs.Standing.{shape-stays}
use Rattle.px_trail.proofs.States.{decided-stays, state-stays}
use Rattle.px_calls.specs.declared.query.Point.{Point}
use Rattle.px_calls.specs.Causes.{stamp_at}
use Rattle.px_calls.specs.Looks.{IsRowAt, key_less}
use Rattle.px_calls.proofs.Keys.{asymmetric, irreflexive}
use Rattle.px_gather.specs.Answers.{IsAnswerBy, IsCurrentOf, IsExactOf, IsPointOfQuery}
use Rattle.px_gather.specs.Gathered.{AreRisingRows, Ended, Frame, Stood, frame_key, is_within, opened_at}
use Rattle.px_gather.specs.Query.{Query, asked}
use Rattle.px_gather.proofs.Gathering.{same_length}
use Rattle.px_gather.proofs.Shapes.{shape-of-table}

-- 1. The order and the limit

differ : (a b : List ℕ) → key_less a b ≡ true → b ≡ a → ⊥
differ a b h same = let i = irreflexive a in let j : key_less a a ≡ true = subst (λ (w : List ℕ). key_less a w ≡ true) same h in cc

-- rows whose keys rise are in the order of the path, and no key comes twice
in_order : (f : Frame) (xs : List Given) → AreRisingRows f xs → AreInOrder (asked f.query f.point.found f.path.by) xs
unfolding AreRisingRows AreInOrder
in_order f [] h = tt
in_order f (x ∷ xs) h = ((λ y among. (asymmetric (frame_key f x.row) (frame_key f y.row) (h.0 y among), differ (frame_key f x.row) (frame_key f y.row) (h.0 y among))), in_order f xs h.1)

within_is : (limit : Option ℕ) (n : ℕ) → is_within limit n ≡ true → IsWithinLimit limit n
within_is None n h = tt
within_is (Some l) n h = grind (arith, nat_tests)

limited : (f : Frame) (es : List Entry) (rows : List Given) → (h : Ended f es rows) → IsWithinLimit f.query.limit (length h.gathered.given)
limited f es rows h =
    let e = same_length f.query rows h.gathered.given h.gathered.same in
    within_is f.query.limit (length h.gathered.given) (ap (is_within f.query.limit) (sym e) ∙ h.gathered.within)

-- a row that stood and meets the condition is given, or comes after LIMIT rows
ended_whole : (f : Frame) (es : List Entry) (rows : List Given) → (h : Ended f es rows) → (row : List Value) → Stood f es row → f.query.meets row ≡ true
    → IsRowGiven (asked f.query f.point.found f.path.by) h.gathered.given row ⊎ IsCutByLimit (asked f.query f.point.found f.path.by) h.gathered.given row
ended_whole f es rows h row stood met = elim (h.complete (frame_key f row)) [
  | inl done ↦ (let r = h.gathered.collected.whole row stood met done in inl (record { given = r.given; among = r.among; same = ap (λ (k : List ℕ). Text k ∷ f.query.named r.given.row) r.key ∙ ap (λ (l : List Value). Text (frame_key f row) ∷ l) r.same }))
  | inr cut ↦ inr (record {
    limit = length h.gathered.given;
    is = cut.full;
    full = omega arith;
    behind = λ x among. asymmetric (frame_key f x.row) (frame_key f row) (cut.before x among);
  })
]

-- 2. A current point

current_at : (b : Base) (es : List Entry) (p : Point) (t : ℕ) (row : List Value) → p.scn ≡ false → p.table.0 ≡ t → IsRowAt b es p row → state_now b es t (key_in (shape_of b es t) row) ≡ Some row
current_at b es p t row is table h = subst (λ (u : ℕ). state_now b es u (key_in (shape_of b es u) row) ≡ Some row) table (rw is at h)

at_current : (b : Base) (es : List Entry) (p : Point) (t : ℕ) (row : List Value) → p.scn ≡ false → p.table.0 ≡ t → state_now b es t (key_in (shape_of b es t) row) ≡ Some row → IsRowAt b es p row
at_current b es p t row is table h = rw is (subst (λ (u : ℕ). state_now b es u (key_in (shape_of b es u) row) ≡ Some row) (sym table) h)

pub current : (f : Frame) (es : List Entry) (last : ℕ) (rows : List Given) → f.point.scn ≡ false → f.point.table.0 ≡ f.query.table → last ≡ length es → Ended f es rows → IsCurrentOf f.base es f.query f.point.found f.path.by (opened_at f) last rows
current f es last rows is table end h = record {
  given = h.gathered.given;
  same = h.gathered.same;
  current = record {
    held = λ x among.
        let i = h.gathered.collected.held x among in
        (i.from, (let t = i.to in omega arith), current_at f.base (take x.at es) f.point f.query.table x.row is table i.held, i.met);
    ordered = in_order f h.gathered.given h.gathered.collected.rising;
    within = limited f es rows h;
    whole = λ row stood met.
        ended_whole f es rows h row (record { all = λ n from to. at_current f.base (take n es) f.point f.query.table row is table (stood.all n from (omega arith)) }) met;
  };
}

-- 3. A point of an SCN

-- the trail up to where the point was opened, and what came then
pub record IsFixed (b : Base) (es : List Entry) (t p at : ℕ) : Type 0 where
  pub pre : List Entry
  pub more : List Entry
  pub is : es ≡ pre ++ more
  pub legal : IsLegal b (pre ++ more)
  pub decided : IsDecided pre t p
  pub low : p ≤ last_of b t pre
  pub drawn : t < (catalogue_of b pre).next
  pub from : length pre ≤ at

take_past : (n : ℕ) (xs ys : List Entry) → length xs ≤ n → take n (xs ++ ys) ≡ xs ++ take (n - length xs) ys
take_past n xs ys le = let e : n ≡ length xs + (n - length xs) = omega arith in ap (λ (m : ℕ). take m (xs ++ ys)) e ∙ take-append-add xs ys (n - length xs)

-- the first n entries, from the point on, are what stood then and some of what came
cut_at : (b : Base) (es : List Entry) (t p at n : ℕ) → (f : IsFixed b es t p at) → at ≤ n → (some : List Entry) × (take n es ≡ f.pre ++ some) × IsLegal b (f.pre ++ some)
cut_at b es t p at n f from =
    let le : length f.pre ≤ n = (let a = f.from in omega arith) in
    let some : List Entry = take (n - length f.pre) f.more in
    let cut : take n es ≡ f.pre ++ some = ap (take n) f.is ∙ take_past n f.pre f.more le in
    let rest : some ++ drop (n - length f.pre) f.more ≡ f.more = take-append-drop (n - length f.pre) f.more in
    let legal : IsLegal b (f.pre ++ some) =
    legal-prefix b (f.pre ++ some) (drop (n - length f.pre) f.more)
    (subst (λ (l : List Entry). IsLegal b l) (ap (λ (l : List Entry). f.pre ++ l) (sym rest) ∙ sym (append_assoc f.pre some (drop (n - length f.pre) f.more))) f.legal) in
    (some, cut, legal)

state_at : (b : Base) (es : List Entry) (t p at n : ℕ) (r : List Value) → IsFixed b es t p at → at ≤ n → state_of b (take n es) t r p ≡ state_of b es t r p
state_at b es t p at n r f from =
    let c = cut_at b es t p at n f from in
    ap (λ (l : List Entry). state_of b l t r p) c.1
    ∙ (state-stays b t r p f.pre c.0 c.2 f.decided f.low f.drawn
    ∙ (sym (state-stays b t r p f.pre f.more f.legal f.decided f.low f.drawn) ∙ ap (λ (l : List Entry). state_of b l t r p) (sym f.is)))

shape_at : (b : Base) (es : List Entry) (t p at n : ℕ) → IsFixed b es t p at → at ≤ n → shape_of b (take n es) t ≡ shape_of b es t
shape_at b es t p at n f from =
    let c = cut_at b es t p at n f from in
    ap (λ (l : List Entry). shape_of b l t) c.1
    ∙ (shape-stays b t f.pre c.0 c.2 f.drawn
    ∙ (sym (shape-stays b t f.pre f.more f.legal f.drawn) ∙ ap (λ (l : List Entry). shape_of b l t) (sym f.is)))

-- a row at the point after n entries is one after all of them, and the other way round
module _ (b : Base) (es : List Entry) (p : Point) (t at : ℕ) (fixed : IsFixed b es t p.stamp at) (is : p.scn ≡ true) (table : p.table.0 ≡ t) where
  key_same : (n : ℕ) (row : List Value) → at ≤ n → state_of b (take n es) t (key_in (shape_of b (take n es) t) row) p.stamp ≡ state_of b es t (key_in (shape_of b es t) row) p.stamp
  key_same n row from =
      ap (λ (s : Shape). state_of b (take n es) t (key_in s row) p.stamp) (shape_at b es t p.stamp at n fixed from)
      ∙ state_at b es t p.stamp at n (key_in (shape_of b es t) row) fixed from

  pub exact_at : (n : ℕ) (row : List Value) → at ≤ n → IsRowAt b (take n es) p row → state_of b es t (key_in (shape_of b es t) row) p.stamp ≡ Some row
  exact_at n row from h =
      let one : state_of b (take n es) p.table.0 (key_in (shape_of b (take n es) p.table.0) row) p.stamp ≡ Some row = rw is at h in
      sym (key_same n row from) ∙ subst (λ (u : ℕ). state_of b (take n es) u (key_in (shape_of b (take n es) u) row) p.stamp ≡ Some row) table one

  pub at_exact : (n : ℕ) (row : List Value) → at ≤ n → state_of b es t (key_in (shape_of b es t) row) p.stamp ≡ Some row → IsRowAt b (take n es) p row
  at_exact n row from h =
      let one : state_of b (take n es) p.table.0 (key_in (shape_of b (take n es) p.table.0) row) p.stamp ≡ Some row = subst (λ (u : ℕ). state_of b (take n es) u (key_in (shape_of b (take n es) u) row) p.stamp ≡ Some row) (sym table) (key_same n row from ∙ h) in
      rw is one

pub exact : (f : Frame) (es : List Entry) (rows : List Given) → f.point.scn ≡ true → f.point.table.0 ≡ f.query.table → shape_of f.base es f.query.table ≡ table_shape f.point.found.table → IsFixed f.base es f.query.table f.point.stamp (opened_at f) → Ended f es rows → IsExactOf f.base es f.query f.point.found f.path.by f.point.stamp rows
exact f es rows is table shape fixed h = record {
  given = h.gathered.given;
  same = h.gathered.same;
  decided = subst (λ (l : List Entry). IsDecided l f.query.table f.point.stamp) (sym fixed.is) (decided-stays f.base f.query.table f.point.stamp fixed.pre fixed.more fixed.legal fixed.decided fixed.low);
  exact = record {
    held = λ x among.
        let i = h.gathered.collected.held x among in
        (exact_at f.base es f.point f.query.table (opened_at f) fixed is table x.at x.row i.from i.held, i.met);
    ordered = in_order f h.gathered.given h.gathered.collected.rising;
    within = limited f es rows h;
    whole = λ row at met.
        ended_whole f es rows h row (record { all = λ n from to. at_exact f.base es f.point f.query.table (opened_at f) fixed is table n row from at }) met;
  };
  shape = shape;
  fits = λ row at. h.fits row (record { all = λ n from to. at_exact f.base es f.point f.query.table (opened_at f) fixed is table n row from at });
}

-- what the point's own words make of the trail
pub point-fixed : (b : Base) (es : List Entry) (q : Query) (scn : Option ℕ) (p : Point) → IsPointOfQuery b es q scn p → IsLegal b es → p.scn ≡ true → IsFixed b es q.table p.stamp p.found.at
point-fixed b es q scn p h legal is =
    let cut : take p.found.at es ++ drop p.found.at es ≡ es = take-append-drop p.found.at es in
    let number : p.found.table.id.0 ≡ q.table = ap (λ t. t.0) h.found_table ∙ h.table in
    record {
      pre = take p.found.at es;
      more = drop p.found.at es;
      is = sym cut;
      legal = subst (λ (l : List Entry). IsLegal b l) (sym cut) legal;
      decided = h.decided is;
      low = h.high;
      drawn = subst (λ (t : ℕ). t < (catalogue_of b (take p.found.at es)).next) number h.found.drawn;
      from = (let w = h.within in omega (arith, length-take-le p.found.at es w));
    }

-- and the table's shape
pub point-shape : (b : Base) (es : List Entry) (q : Query) (scn : Option ℕ) (p : Point) → IsPointOfQuery b es q scn p → IsLegal b es → shape_of b es q.table ≡ table_shape p.found.table
point-shape b es q scn p h legal =
    let cut : take p.found.at es ++ drop p.found.at es ≡ es = take-append-drop p.found.at es in
    let number : p.found.table.id.0 ≡ q.table = ap (λ t. t.0) h.found_table ∙ h.table in
    let whole : IsLegal b (take p.found.at es ++ drop p.found.at es) = subst (λ (l : List Entry). IsLegal b l) (sym cut) legal in
    let drawn : q.table < (catalogue_of b (take p.found.at es)).next = subst (λ (t : ℕ). t < (catalogue_of b (take p.found.at es)).next) number h.found.drawn in
    let stands : table_of b (take p.found.at es) q.table ≡ Some p.found.table = subst (λ (t : ℕ). table_of b (take p.found.at es) t ≡ Some p.found.table) number h.found.table in
    ap (λ (l : List Entry). shape_of b l q.table) (sym cut)
    ∙ (shape-stays b q.table (take p.found.at es) (drop p.found.at es) whole drawn
    ∙ shape-of-table b (take p.found.at es) q.table p.found.table stands)

-- 4. Whole answers

-- what was gathered at its end is the answer
pub answer-is : (f : Frame) (es : List Entry) (scn : Option ℕ) (first last : ℕ) (rows : List Given) → IsPointOfQuery f.base es f.query scn f.point → IsLegal f.base es → Ended f es rows → first ≡ opened_at f → last ≡ length es → IsAnswerBy f.base es f.query scn f.point.found f.path.by first last rows
answer-is f es None first last rows h legal c begin end = subst (λ (n : ℕ). IsCurrentOf f.base es f.query f.point.found f.path.by n last rows) (sym begin) (current f es last rows h.is_scn h.table end c)
answer-is f es (Some scn) first last rows h legal c begin end =
    let at : f.point.stamp ≡ stamp_at (Some scn) f.query.table f.base (take first es) = h.stamp ∙ ap (λ (n : ℕ). stamp_at (Some scn) f.query.table f.base (take n es)) (sym begin) in
    let low : horizon_of f.base f.query.table (take first es) ≤ f.point.stamp = subst (λ (n : ℕ). horizon_of f.base f.query.table (take n es) ≤ f.point.stamp) (sym begin) h.low in (
      subst (λ (n : ℕ). IsExactOf f.base es f.query f.point.found f.path.by n rows) at (exact f es rows h.is_scn h.table (point-shape f.base es f.query (Some scn) f.point h legal) (point-fixed f.base es f.query (Some scn) f.point h legal h.is_scn) c),
      subst (λ (n : ℕ). horizon_of f.base f.query.table (take first es) ≤ n) at low,
    )

-- an exact answer is exact in whatever legal trail comes of it
pub exact-stays : (b : Base) (es more : List Entry) (q : Query) (found : Found) (by : _) (p : ℕ) (rows : List Given) → IsLegal b (es ++ more) → p ≤ last_of b q.table es → q.table < (catalogue_of b es).next → IsExactOf b es q found by p rows → IsExactOf b (es ++ more) q found by p rows
exact-stays b es more q found by p rows legal low drawn h =
    let shape : shape_of b (es ++ more) q.table ≡ shape_of b es q.table = shape-stays b q.table es more legal drawn in
    let same : (row : List Value) → state_of b (es ++ more) q.table (key_in (shape_of b (es ++ more) q.table) row) p ≡ state_of b es q.table (key_in (shape_of b es q.table) row) p = λ row.
    (ap (λ (s : Shape). state_of b (es ++ more) q.table (key_in s row) p) shape ∙ state-stays b q.table (key_in (shape_of b es q.table) row) p es more legal h.decided low drawn) in
    record {
      given = h.given;
      same = h.same;
      decided = decided-stays b q.table p es more legal h.decided low;
      exact = record {
        held = λ x among. (let s = h.exact.held x among in (same x.row ∙ s.0, s.1));
        ordered = h.exact.ordered;
        within = h.exact.within;
        whole = λ row at met. h.exact.whole row (sym (same row) ∙ at) met;
      };
      shape = shape ∙ h.shape;
      fits = λ row at. h.fits row (sym (same row) ∙ at);
    }
