-- Of a table whose number wasn't drawn the trail tells nothing.
use Rattle.std.proofs.Common.{◌≡◌, ◌≢◌, ℕ, ◌<◌, ◌≤◌, Bool, true, false, ◌&&◌, ◌==◌, if◌then◌else◌, Option, Some, None, List, [], ◌∷◌, ◌++◌, refl, ap, ◌∙◌, arith}
use Rattle.std.specs.Prelude.{IsSome}
use Rattle.std.proofs.lemmas.Bool.{ne_eqb, false≢true}
use Rattle.px_tables.specs.declared.table.Table.{Table}
use Rattle.px_trail.specs.declared.entry.Act.{Act}
use Rattle.px_trail.specs.declared.entry.Act.TheVariants.{Made, IndexMade, IndexState, Dropped, Begun, Opened, Released, Raised}
use Rattle.px_trail.specs.declared.entry.Entry.{Entry}
use Rattle.px_trail.specs.Batches.{batch_from, batch_of, batch_step}
use Rattle.px_trail.specs.Legal.{Follows, IsLegal}
use Rattle.px_trail.specs.Trail.{Base, Catalogue, IsCatalogue, base_catalogue, catalogue_from, catalogue_of, catalogue_step, draws, horizon_from, horizon_of, horizon_step, last_from, last_of, last_step, open_points, points_from, points_step, table_of}
use Rattle.px_trail.proofs.Growth.{batch_of-snoc, catalogue-snoc, horizon-snoc, last-snoc, legal-induct, points-snoc}
use Rattle.px_trail.proofs.Standing.{catalogue-stands}

-- nothing was done to the table
pub record IsUnknown (b : Base) (es : List Entry) (t : ℕ) : Type 0 where
  pub batches : (s : ℕ) → batch_of t s es ≡ None
  pub last : last_of b t es ≡ b.last t
  pub horizon : horizon_of b t es ≡ b.horizon t
  pub points : (seat s : ℕ) → open_points seat t s es ≡ 0

-- an act of another table, or one that begins nothing
abbrev pub IsApart : ℕ → Act → Type 0
IsApart t (Begun t' s cs) = t'.0 ≢ t
IsApart t (IndexMade t' i s what) = t'.0 ≢ t
IsApart t (IndexState t' i state s) = t'.0 ≢ t
IsApart t (Opened t' s scn) = t'.0 ≢ t
IsApart t (Raised t' h) = t'.0 ≢ t
IsApart t act = Unit {0}

if_not : {A : Type 0} (v : Bool) (a c : A) → v ≡ false → (if v then a else c) ≡ c
if_not true a c h = (let z : true ≡ false = h in cc)
if_not false a c h = refl

if_same : {A : Type 0} (v : Bool) (a : A) → (if v then a else a) ≡ a
if_same true a = refl
if_same false a = refl

and_no : (v c : Bool) → v ≡ false → (v && c) ≡ false
and_no true c h = (let z : true ≡ false = h in cc)
and_no false c h = refl

and_amid : (a v c : Bool) → v ≡ false → (a && (v && c)) ≡ false
and_amid true v c h = and_no v c h
and_amid false v c h = refl

apart_batch : (t s seat : ℕ) (act : Act) → IsApart t act → batch_step t s None seat act ≡ None
unfolding batch_step
apart_batch t s seat (Begun t' s' cs) n = if_not _ _ _ (and_no _ _ (ne_eqb t'.0 t n))
apart_batch t s seat act n = refl

apart_last : (t l : ℕ) (act : Act) → IsApart t act → last_step t l act ≡ l
apart_last t l (Begun t' s cs) n = if_not _ _ _ (ne_eqb t'.0 t n)
apart_last t l (IndexMade t' i s what) n = if_not _ _ _ (ne_eqb t'.0 t n)
apart_last t l (IndexState t' i state s) n = if_not _ _ _ (and_no (t'.0 == t) (draws state) (ne_eqb t'.0 t n))
apart_last t l act n = refl

apart_horizon : (t h : ℕ) (act : Act) → IsApart t act → horizon_step t h act ≡ h
apart_horizon t h (Raised t' h') n = if_not _ _ _ (ne_eqb t'.0 t n)
apart_horizon t h act n = refl

apart_points : (seat t s by : ℕ) (act : Act) → IsApart t act → points_step seat t s 0 by act ≡ 0
unfolding points_step
apart_points seat t s by (Opened t' s' scn) n = if_not _ _ _ (and_amid (by == seat) (t'.0 == t) (s' == s) (ne_eqb t'.0 t n))
apart_points seat t s by (Released t' s') n = if_same _ 0
apart_points seat t s by act n = refl

unknown_step : (b : Base) (l : List Entry) (e : Entry) (t : ℕ) → IsUnknown b l t → IsApart t e.act → IsUnknown b (l ++ e ∷ []) t
unknown_step b l e t n a = record {
  batches = λ s. batch_of-snoc t s l e ∙ (ap (λ o. batch_step t s o e.seat e.act) (n.batches s) ∙ apart_batch t s e.seat e.act a);
  last = last-snoc b t l e ∙ (apart_last t (last_of b t l) e.act a ∙ n.last);
  horizon = horizon-snoc b t l e ∙ (apart_horizon t (horizon_of b t l) e.act a ∙ n.horizon);
  points = λ seat s. points-snoc seat t s l e ∙ (ap (λ m. points_step seat t s m e.seat e.act) (n.points seat s) ∙ apart_points seat t s e.seat e.act a);
}

-- a table that stands has a number that was drawn
module _ (b : Base) (right : IsCatalogue (base_catalogue b)) (l : List Entry) (legal : IsLegal b l) where
  pub below : (t : ℕ) (x : Table) → table_of b l t ≡ Some x → t < (catalogue_of b l).next
  below t x q = ((catalogue-stands b l right legal).tables t x q).1

  some_below : (t : ℕ) → IsSome (table_of b l t) → t < (catalogue_of b l).next
  some_below t h = by (table_of b l t) refl h
    where
      by : (o : Option Table) → table_of b l t ≡ o → IsSome o → t < (catalogue_of b l).next
      by None q h = absurd (false≢true h)
      by (Some x) q h = below t x q

  act_apart : (seat calls t : ℕ) (act : Act) → Follows b l seat calls act → (catalogue_of b l).next ≤ t → IsApart t act
  unfolding Follows
  act_apart seat calls t (Begun t' s cs) f n = λ q. (let m = some_below t'.0 f.3 in omega arith)
  act_apart seat calls t (IndexMade t' i s what) f n = λ q. (let m = some_below t'.0 f.2 in omega arith)
  act_apart seat calls t (IndexState t' i state s) f n = λ q. (let y = (catalogue-stands b l right legal).owners i.0 f.0.index f.0.is in let m = below f.0.index.table.0 y.0 y.1 in let o = f.0.owner in omega arith)
  act_apart seat calls t (Opened t' s scn) f n = λ q. (let m = some_below t'.0 f.3 in omega arith)
  act_apart seat calls t (Raised t' h) f n = λ q. (let m = some_below t'.0 f.stands in omega arith)
  act_apart seat calls t act f n = tt

next_step : (c : Catalogue) (act : Act) → c.next ≤ (catalogue_step c act).next
unfolding catalogue_step
next_step c (Made t what) = omega arith
next_step c (IndexMade t i s what) = omega arith
next_step c (IndexState t i state s) = omega arith
next_step c (Dropped t None) = omega arith
next_step c (Dropped t (Some i)) = omega arith
next_step c act = omega arith

pub record AreUnknown (b : Base) (l : List Entry) : Type 0 where
  pub grows : b.next ≤ (catalogue_of b l).next
  pub each : (t : ℕ) → (catalogue_of b l).next ≤ t → IsUnknown b l t

pub are_unknown : (b : Base) → IsCatalogue (base_catalogue b) → (es : List Entry) → IsLegal b es → AreUnknown b es
unfolding batch_from last_from horizon_from points_from catalogue_from
are_unknown b right es legal =
    legal-induct b (λ l. AreUnknown b l)
    (λ l e pre may h.
    (let p : (catalogue_of b (l ++ e ∷ [])).next ≡ (catalogue_step (catalogue_of b l) e.act).next = ap (λ (c : Catalogue). c.next) (catalogue-snoc b l e) in
    let q = next_step (catalogue_of b l) e.act in
    record {
      grows = (let g = h.grows in omega arith);
      each = λ t n. (let m : (catalogue_of b l).next ≤ t = omega arith in unknown_step b l e t (h.each t m) (act_apart b right l pre e.seat e.calls t e.act may.follows m));
    }))
    [] es legal (record { grows = omega arith; each = λ t n. record { batches = λ s. refl; last = refl; horizon = refl; points = λ seat s. refl } })

-- a table that is made wasn't known, also with its entry
pub made_unknown : (b : Base) → IsCatalogue (base_catalogue b) → (es : List Entry) → IsLegal b es → (e : Entry) (t : ℕ) → (catalogue_of b es).next ≤ t → IsApart t e.act → IsUnknown b (es ++ e ∷ []) t
made_unknown b right es legal e t new apart = unknown_step b es e t ((are_unknown b right es legal).each t new) apart
