-- Entries that tell a folder nothing.
use Rattle.std.proofs.Common.{◌≡◌, ◌≤◌, max, ℕ, Bool, true, false, ◌==◌, ◌&&◌, if◌then◌else◌, Option, Some, None, List, [], ◌∷◌, ◌++◌, filter, refl, sym, ap, subst, ◌∙◌, arith}
use Rattle.std.proofs.lemmas.Bool.{eqb-true}
use Rattle.std.proofs.lemmas.List.{append-nil}
use Rattle.px_outside.specs.Disk.{Image}
use Rattle.px_values.specs.declared.row.Value.{Value}
use Rattle.px_values.specs.States.{Shape}
use Rattle.px_trail.specs.declared.entry.Act.{Act}
use Rattle.px_trail.specs.declared.entry.Act.TheVariants.{IndexMade, IndexState, Begun, Phase, Wrote, Ended, Released, Raised, Shut}
use Rattle.px_trail.specs.declared.entry.Entry.{Entry}
use Rattle.px_trail.specs.Batches.{Batch, batch_of, batch_step, has}
use Rattle.px_trail.specs.Lasting.{TellSame, lasting}
use Rattle.px_trail.specs.Legal.{Follows, MayCome, is_after_shut}
use Rattle.px_trail.specs.States.{Dated, applied, begun, begun_by, is_row_written, is_written_in, state_of, written}
use Rattle.px_trail.specs.Trail.{Base, Catalogue, catalogue_of, catalogue_step, draws, horizon_of, horizon_step, last_of, last_step, shape_of, shape_step}
use Rattle.px_trail.proofs.Growth.{batch_of-snoc, begun-snoc, catalogue-snoc, horizon-snoc, last-snoc, shape-snoc}
use Rattle.px_trail.proofs.Lasting.{quiet-same}
use Rattle.px_recovery.specs.Stands.{StandsAfter, TellsAs}

-- ---- an entry that doesn't last

last_up : (t l s : ℕ) (b : Bool) → l ≤ (if b then max l s else l)
last_up t l s true = omega arith
last_up t l s false = omega arith

pub last_step_up : (t l : ℕ) (act : Act) → l ≤ last_step t l act
last_step_up t l (Begun t' s cs) = last_up t l s (t'.0 == t)
last_step_up t l (IndexMade t' i s what) = last_up t l s (t'.0 == t)
last_step_up t l (IndexState t' i state s) = last_up t l s ((t'.0 == t) && draws state)
last_step_up t l act = omega arith

horizon_up : (b : Base) (es : List Entry) (seat calls t : ℕ) (act : Act) → Follows b es seat calls act → horizon_of b t es ≤ horizon_step t (horizon_of b t es) act
unfolding Follows
horizon_up b es seat calls t (Raised t' h) f = raised_up (t'.0 == t) refl
  where
    raised_up : (c : Bool) → (t'.0 == t) ≡ c → horizon_of b t es ≤ (if c then h else horizon_of b t es)
    raised_up true is = let up = f.rises in subst (λ (u : ℕ). horizon_of b u es ≤ h) (eqb-true t'.0 t is) (omega arith)
    raised_up false is = omega arith
horizon_up b es seat calls t act f = omega arith

pub tells_itself : (b : Base) (es : List Entry) → TellsAs b es es
tells_itself b es = record { same = record { catalogue = refl; states = λ t r p. refl }; horizon = λ t. omega arith; last = λ t. omega arith }

pub tells_quiet : (b : Base) (told es : List Entry) (e : Entry) → MayCome b es e → lasting e ≡ false → TellsAs b told es → TellsAs b told (es ++ e ∷ [])
tells_quiet b told es e may quiet as_told =
    let same = quiet-same b es e may quiet in
    record {
      same = record { catalogue = same.catalogue ∙ as_told.same.catalogue; states = λ t r p. same.states t r p ∙ as_told.same.states t r p };
      horizon = λ t. (let a = as_told.horizon t in let c = horizon_up b es e.seat e.calls t e.act may.follows in let q = horizon-snoc b t es e in omega arith);
      last = λ t. (let a = as_told.last t in let c = last_step_up t (last_of b t es) e.act in let q = last-snoc b t es e in omega arith);
    }

pub stands_quiet : (b : Base) (es : List Entry) (e : Entry) (image : Image) → MayCome b es e → lasting e ≡ false → StandsAfter b es image → StandsAfter b (es ++ e ∷ []) image
stands_quiet b es e image may quiet s = record { folder = s.folder; stands = s.stands; told = s.told; as_told = tells_quiet b s.told es e may quiet s.as_told; groups = s.groups; explains = s.explains }

-- ---- an entry behind which one is told as if it came before

-- The act tells nothing of tables, stamps and horizons, nor of which rows were written: closing the server, and what may come
-- then.
pub record IsIdle (act : Act) : Type 0 where
  pub catalogue : (c : Catalogue) → catalogue_step c act ≡ c
  pub shape : (t : ℕ) (s : Shape) → shape_step t s act ≡ s
  pub begins : (t : ℕ) (r : List Value) → begun_by t r act ≡ []
  pub last : (t l : ℕ) → last_step t l act ≡ l
  pub horizon : (t h : ℕ) → horizon_step t h act ≡ h
  pub none : (t s seat : ℕ) → batch_step t s None seat act ≡ None
  pub some : (t s seat : ℕ) (x : Batch) → (y : Batch) × ((batch_step t s (Some x) seat act ≡ Some y) × (y.written ≡ x.written))

pub shut_idle : (call : ℕ) → IsIdle (Shut call)
unfolding catalogue_step shape_step begun_by batch_step
shut_idle call = record { catalogue = λ c. refl; shape = λ t s. refl; begins = λ t r. refl; last = λ t l. refl; horizon = λ t h. refl; none = λ t s seat. refl; some = λ t s seat x. (x, (refl, refl)) }

ended_step : (c : Bool) (x : Batch) → (y : Batch) × (((if c then Some (record x { ended = true }) else Some x) ≡ Some y) × (y.written ≡ x.written))
ended_step true x = (record x { ended = true }, (refl, refl))
ended_step false x = (x, (refl, refl))

pub after_shut_idle : (act : Act) → is_after_shut act ≡ true → IsIdle act
unfolding catalogue_step shape_step begun_by batch_step
after_shut_idle (Ended t' s') is = record { catalogue = λ c. refl; shape = λ t s. refl; begins = λ t r. refl; last = λ t l. refl; horizon = λ t h. refl; none = λ t s seat. refl; some = λ t s seat x. ended_step ((t'.0 == t) && (s' == s)) x }
after_shut_idle (Released t' s') is = record { catalogue = λ c. refl; shape = λ t s. refl; begins = λ t r. refl; last = λ t l. refl; horizon = λ t h. refl; none = λ t s seat. refl; some = λ t s seat x. (x, (refl, refl)) }
after_shut_idle act is = absurd cc

both_if : (c : Bool) (a a' z z' : Batch) (r : List Value) → a.written ≡ a'.written → z.written ≡ z'.written → is_written_in (if c then Some a else Some z) r ≡ is_written_in (if c then Some a' else Some z') r
both_if true a a' z z' r e w = ap (λ (l : List (List Value)). has l r) e
both_if false a a' z z' r e w = ap (λ (l : List (List Value)). has l r) w

same_written : (t s seat : ℕ) (y x : Batch) (r : List Value) (act : Act) → y.written ≡ x.written → is_written_in (batch_step t s (Some y) seat act) r ≡ is_written_in (batch_step t s (Some x) seat act) r
unfolding batch_step
same_written t s seat y x r (Phase t' s' p) e = both_if ((t'.0 == t) && (s' == s)) (record y { phase = p }) (record x { phase = p }) y x r e e
same_written t s seat y x r (Wrote t' s' rows) e = both_if ((t'.0 == t) && (s' == s)) (record y { written = y.written ++ rows }) (record x { written = x.written ++ rows }) y x r (ap (λ (l : List (List Value)). l ++ rows) e) e
same_written t s seat y x r (Ended t' s') e = both_if ((t'.0 == t) && (s' == s)) (record y { ended = true }) (record x { ended = true }) y x r e e
same_written t s seat y x r act e = ap (λ (l : List (List Value)). has l r) e

module _ (b : Base) (es : List Entry) (e u : Entry) (idle : IsIdle e.act) where
  abbrev now : List Entry
  now = (es ++ e ∷ []) ++ u ∷ []

  abbrev soon : List Entry
  soon = es ++ u ∷ []

  same_batch : (t s : ℕ) (r : List Value) (o : Option Batch) → batch_of t s es ≡ o → is_written_in (batch_step t s (batch_step t s o e.seat e.act) u.seat u.act) r ≡ is_written_in (batch_step t s o u.seat u.act) r
  same_batch t s r None is = ap (λ (o : Option Batch). is_written_in (batch_step t s o u.seat u.act) r) (idle.none t s e.seat)
  same_batch t s r (Some x) is =
      let y = idle.some t s e.seat x in
      ap (λ (o : Option Batch). is_written_in (batch_step t s o u.seat u.act) r) y.1.0 ∙ same_written t s u.seat y.0 x r u.act y.1.1

  late_written : (t s : ℕ) (r : List Value) → is_row_written now t r s ≡ is_row_written soon t r s
  late_written t s r =
      ap (λ (o : Option Batch). is_written_in o r) (batch_of-snoc t s (es ++ e ∷ []) u ∙ ap (λ (o : Option Batch). batch_step t s o u.seat u.act) (batch_of-snoc t s es e))
      ∙ (same_batch t s r (batch_of t s es) refl ∙ ap (λ (o : Option Batch). is_written_in o r) (sym (batch_of-snoc t s es u)))

  late_shape : (t : ℕ) → shape_of b now t ≡ shape_of b soon t
  late_shape t = shape-snoc b (es ++ e ∷ []) u t ∙ (ap (λ (s : Shape). shape_step t s u.act) (shape-snoc b es e t ∙ idle.shape t (shape_of b es t)) ∙ sym (shape-snoc b es u t))

  late_begun : (t : ℕ) (r : List Value) → begun t r now ≡ begun t r soon
  late_begun t r =
      begun-snoc t r (es ++ e ∷ []) u
      ∙ (ap (λ (l : List Dated). l ++ begun_by t r u.act) (begun-snoc t r es e ∙ (ap (λ (l : List Dated). begun t r es ++ l) (idle.begins t r) ∙ append-nil (begun t r es)))
      ∙ sym (begun-snoc t r es u))

  late_states : (t : ℕ) (r : List Value) (p : ℕ) → state_of b now t r p ≡ state_of b soon t r p
  late_states t r p =
      let v = b.state t r p in
      ap (λ (s : Shape). applied s r p v (written now t r)) (late_shape t)
      ∙ ap (λ (l : List Dated). applied (shape_of b soon t) r p v l)
      ((λ i. filter (λ d. late_written t d.stamp r i) (begun t r now)) ∙ ap (λ (l : List Dated). filter (λ d. is_row_written soon t r d.stamp) l) (late_begun t r))

  pub late_same : TellSame b soon now
  late_same = record {
    catalogue = catalogue-snoc b (es ++ e ∷ []) u ∙ (ap (λ (c : Catalogue). catalogue_step c u.act) (catalogue-snoc b es e ∙ idle.catalogue (catalogue_of b es)) ∙ sym (catalogue-snoc b es u));
    states = late_states;
  }

  late_last : (t : ℕ) → last_of b t now ≡ last_of b t soon
  late_last t = last-snoc b t (es ++ e ∷ []) u ∙ (ap (λ (l : ℕ). last_step t l u.act) (last-snoc b t es e ∙ idle.last t (last_of b t es)) ∙ sym (last-snoc b t es u))

  late_horizon : (t : ℕ) → horizon_of b t now ≡ horizon_of b t soon
  late_horizon t = horizon-snoc b t (es ++ e ∷ []) u ∙ (ap (λ (h : ℕ). horizon_step t h u.act) (horizon-snoc b t es e ∙ idle.horizon t (horizon_of b t es)) ∙ sym (horizon-snoc b t es u))

  pub tells_late : (told : List Entry) → TellsAs b told soon → TellsAs b told now
  tells_late told as_told = record {
    same = record { catalogue = late_same.catalogue ∙ as_told.same.catalogue; states = λ t r p. late_same.states t r p ∙ as_told.same.states t r p };
    horizon = λ t. (let a = as_told.horizon t in let q = late_horizon t in omega arith);
    last = λ t. (let a = as_told.last t in let q = late_last t in omega arith);
  }

  -- the image stands for the entry u also where it comes behind e
  pub stands_late : (image : Image) → StandsAfter b soon image → StandsAfter b now image
  stands_late image s = record { folder = s.folder; stands = s.stands; told = s.told; as_told = tells_late s.told s.as_told; groups = s.groups; explains = s.explains }
