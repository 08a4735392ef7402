-- What time leaves of finished parts, and one finished part more.
use Rattle.std.proofs.Common.{ℕ, ◌≡◌, true, false, Option, None, Some, List, [], ◌++◌, refl, sym, ◌∙◌, ap, arith}
use Rattle.std.proofs.lemmas.List.{append-nil}
use Rattle.px_values.specs.declared.name.IndexId.{IndexId}
use Rattle.px_values.specs.declared.name.TableId.{TableId}
use Rattle.px_trail.specs.declared.entry.Act.{Act}
use Rattle.px_calls.specs.declared.definition.Made.{Made}
use Rattle.px_calls.specs.Known.{Known}
use Rattle.px_upkeep.specs.Turns.{IsPast}
use Rattle.px_upkeep.proofs.Later.{active-later, asked-later, past-then}
use Rattle.px_verify.specs.declared.answer.Reported.{Reported}
use Rattle.px_verifying.specs.declared.answer.Reports.{Reports}
use Rattle.px_verifying.specs.declared.answer.VerifyKind.{VerifyKind}
use Rattle.px_verifying.specs.declared.answer.VerifyKind.TheVariants as kind
use Rattle.px_verifying.specs.Kinds.{IsAtFirst, IsAtLast, IsAtRebuilding, rebuilds, reports_first, reports_last}
use Rattle.px_verifying.specs.Turns.{HasBegunRebuilding, HasRebuilt, HasReported, HaveDone, MayBegin, MayHaveRebuilt, MayHaveReported, none_done, to_rebuild, to_report_again}

-- 1. Time

pub may-later : (t : TableId) (i : IndexId) (v : VerifyKind) (k k' : Known) → IsPast k k' → MayBegin t i v k → MayBegin t i v k'
may-later t i v k k' h m = λ is. (let a = asked-later 0 t i k k' h (record { from = omega arith; table = (m is).0; index = (m is).1 }) in (a.table, a.index))

module _ (sound : Type 0) (t : TableId) (i : IndexId) (k k' : Known) (h : IsPast k k') where
  pub begun-later : (n : ℕ) (own : List Act) (m : Made) → HasBegunRebuilding n t i own k m → HasBegunRebuilding n t i own k' m
  begun-later n own m r = record { was = r.was; past = past-then r.was k k' r.past h; outcome = r.outcome; from = r.from }

  reported_later : (n : ℕ) (own : List Act) (o : Option Reported) → MayHaveReported sound n t i own k o → MayHaveReported sound n t i own k' o
  reported_later n own None r = r
  reported_later n own (Some a) r = record { was = r.was; past = past-then r.was k k' r.past h; outcome = r.outcome; from = r.from }

  rebuilt_later : (n : ℕ) (own : List Act) (o : Option Made) → MayHaveRebuilt sound n t i own k o → MayHaveRebuilt sound n t i own k' o
  rebuilt_later n own None r = r
  rebuilt_later n own (Some m) r = record {
    again = r.again;
    first = r.first;
    rest = r.rest;
    own_is = r.own_is;
    begun = begun-later n r.first r.again r.begun;
    built = (active-later r.again.at t.0 i.0 m k k' h r.built.0, r.built.1);
  }

  pub done-later : (n : ℕ) (own : List Act) (x : Reports) → HaveDone sound n t i own k x → HaveDone sound n t i own k' x
  done-later n own x d = record {
    first = d.first;
    second = d.second;
    third = d.third;
    own_is = d.own_is;
    before = reported_later n d.first x.before d.before;
    rebuilt = rebuilt_later (to_rebuild n x) d.second x.rebuilt d.rebuilt;
    after = reported_later (to_report_again n x) d.third x.after d.after;
  }

-- 2. Kinds

pub last-rebuilds : (v : VerifyKind) → reports_last v ≡ true → rebuilds v ≡ true
last-rebuilds kind.Only h = cc
last-rebuilds kind.None h = refl
last-rebuilds kind.Before h = refl
last-rebuilds kind.After h = refl
last-rebuilds kind.Both h = refl

pub without-first : (v : VerifyKind) → reports_first v ≡ false → rebuilds v ≡ true
without-first kind.Only h = cc
without-first kind.None h = refl
without-first kind.Before h = refl
without-first kind.After h = refl
without-first kind.Both h = refl

pub only-once : (v : VerifyKind) → rebuilds v ≡ false → reports_last v ≡ false
only-once kind.Only h = refl
only-once kind.None h = cc
only-once kind.Before h = cc
only-once kind.After h = cc
only-once kind.Both h = cc

-- 3. One part more

module _ (sound : Type 0) (n : ℕ) (t : TableId) (i : IndexId) (k : Known) where
  no_report : (m : ℕ) (own : List Act) (o : Option Reported) → o ≡ None → MayHaveReported sound m t i own k o → own ≡ []
  no_report m own None e h = h
  no_report m own (Some a) e h = cc

  no_rebuilding : (m : ℕ) (own : List Act) (o : Option Made) → o ≡ None → MayHaveRebuilt sound m t i own k o → own ≡ []
  no_rebuilding m own None e h = h
  no_rebuilding m own (Some a) e h = cc

  -- the acts of parts of which the last ones are none
  nothing : (a b c xs : List Act) → xs ≡ (a ++ b) ++ c → c ≡ [] → xs ≡ a ++ b
  nothing a b c xs e z = e ∙ (ap (λ (l : List Act). (a ++ b) ++ l) z ∙ append-nil (a ++ b))

  pub none-done : HaveDone sound n t i [] k none_done
  none-done = record { first = []; second = []; third = []; own_is = refl; before = refl; rebuilt = refl; after = refl }

  pub first-done : (v : VerifyKind) (x : Reports) (own more : List Act) (a : Reported) → IsAtFirst v x → HaveDone sound n t i own k x → HasReported sound n t i more k a
      → HaveDone sound n t i (own ++ more) k (record { before = Some a; rebuilt = None; after = None })
  first-done v x own more a at d r =
      let one : d.first ≡ [] = no_report n d.first x.before at.before d.before in
      let two : d.second ≡ [] = no_rebuilding (to_rebuild n x) d.second x.rebuilt at.rebuilt d.rebuilt in
      let three : d.third ≡ [] = no_report (to_report_again n x) d.third x.after at.after d.after in
      let none : own ≡ [] = d.own_is ∙ (λ j. (one j ++ two j) ++ three j) in
      record {
        first = more;
        second = [];
        third = [];
        own_is = ap (λ (l : List Act). l ++ more) none ∙ sym (ap (λ (l : List Act). l ++ []) (append-nil more) ∙ append-nil more);
        before = r;
        rebuilt = refl;
        after = refl;
      }

  pub rebuilding-done : (v : VerifyKind) (x : Reports) (own more : List Act) (m : Made) → IsAtRebuilding v x → HaveDone sound n t i own k x → HasRebuilt sound (to_rebuild n x) t i more k m
      → HaveDone sound n t i (own ++ more) k (record { before = x.before; rebuilt = Some m; after = None })
  rebuilding-done v x own more m at d r =
      let two : d.second ≡ [] = no_rebuilding (to_rebuild n x) d.second x.rebuilt at.rebuilt d.rebuilt in
      let three : d.third ≡ [] = no_report (to_report_again n x) d.third x.after at.after d.after in
      let front : own ≡ d.first = nothing d.first d.second d.third own d.own_is three ∙ (ap (λ (l : List Act). d.first ++ l) two ∙ append-nil d.first) in
      record {
        first = d.first;
        second = more;
        third = [];
        own_is = ap (λ (l : List Act). l ++ more) front ∙ sym (append-nil (d.first ++ more));
        before = d.before;
        rebuilt = r;
        after = refl;
      }

  pub last-done : (v : VerifyKind) (x : Reports) (own more : List Act) (a : Reported) → IsAtLast v x → HaveDone sound n t i own k x → HasReported sound (to_report_again n x) t i more k a
      → HaveDone sound n t i (own ++ more) k (record { before = x.before; rebuilt = x.rebuilt; after = Some a })
  last-done v x own more a at d r =
      let three : d.third ≡ [] = no_report (to_report_again n x) d.third x.after at.after d.after in
      let front : own ≡ d.first ++ d.second = nothing d.first d.second d.third own d.own_is three in
      record { first = d.first; second = d.second; third = more; own_is = ap (λ (l : List Act). l ++ more) front; before = d.before; rebuilt = d.rebuilt; after = r }
