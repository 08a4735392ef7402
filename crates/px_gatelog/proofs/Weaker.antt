-- A log that stands under one form stands under each that asks less.
use Rattle.std.proofs.Common.{◌≡◌, ℕ, zero, suc, ◌+◌, Bool, true, false, List, [], ◌∷◌, ◌++◌, length, drop, Option, Some, None, Result, Ok, Err, refl, sym, ap, subst, ◌∙◌, inl, inr}
use Rattle.std.specs.Prelude.{◌==◌, nat_lt, if◌then◌else◌}
use Rattle.std.proofs.lemmas.Bool.{false≢true}
use Rattle.px_outside.specs.declared.disk.Disk.{Ghosts}
use Rattle.px_gatelog.specs.declared.segment.Segment.{Segment}
use Rattle.px_gatelog.specs.declared.gate_log.GateLog.{GateLog}
use Rattle.px_gatelog.specs.Format.{AllRecordsFit, AreRightRecords, LogForm, LogRecord, SegmentRead, body_len, can_end, no_more, or_wrong, record_in, records_at, with_first}
use Rattle.px_gatelog.specs.Segment.{IsAt}
use Rattle.px_gatelog.specs.GateLog.{IsLogSettled, IsOlder, LogGoesOnBy, OlderCounts, before_of}
use Rattle.px_gatelog.specs.Weaker.{IsWeaker}

with_first_ok : (r : LogRecord) (more : Result (List LogRecord) ℕ) (records : List LogRecord) → with_first r more ≡ Ok records → (rest : List LogRecord) × ((more ≡ Ok rest) × (records ≡ r ∷ rest))
with_first_ok r (Ok rest) records is = (rest, (refl, (cc)))
with_first_ok r (Err place) records is = cc

-- where a segment may end by the first, it may by the second
ends : (empty less : Bool) → (empty ≡ true → less ≡ true) → (records : List LogRecord) → can_end empty records ≡ true → can_end less records ≡ true
ends empty true may records is = refl
ends true false may records is = absurd (false≢true (may refl))
ends false false may records is = is

closed : (at : ℕ) (a b : Bool) → (a ≡ true → b ≡ true) → (records : List LogRecord) → no_more a at ≡ Ok records → no_more b at ≡ Ok records
closed at true b may records is = ap (λ (c : Bool). no_more c at) (may refl) ∙ is
closed at false b may records is = cc

step : (at : ℕ) (r : LogRecord) (open_ long : Bool) (w v : Option ℕ) (more less : Result (List LogRecord) ℕ) (a b : Bool) (records : List LogRecord) → (w ≡ None → v ≡ None) → ((rest : List LogRecord) → more ≡ Ok rest → less ≡ Ok rest)
    → (a ≡ true → b ≡ true) → (if open_ then (if long then or_wrong (at + 1) w (with_first r more) else Err at) else no_more a at) ≡ Ok records
    → (if open_ then (if long then or_wrong (at + 1) v (with_first r less) else Err at) else no_more b at) ≡ Ok records
step at r false long w v more less a b records none still may is = closed at a b may records is
step at r true false w v more less a b records none still may is = is
step at r true true (Some place) v more less a b records none still may is = cc
step at r true true None v more less a b records none still may is =
    let first = with_first_ok r more records is in
    let there : less ≡ Ok first.0 = still first.0 first.1.0 in
    ap (λ (o : Option ℕ). or_wrong (at + 1) o (with_first r less)) (none refl) ∙ ap (with_first r) there ∙ ap (λ (l : List LogRecord). Ok l) (sym first.1.1)

module _ (form less : LogForm) (weaker : IsWeaker form less) where
  pub records_weaker : (before : List LogRecord) (at skip : ℕ) (bytes : List ℕ) (records : List LogRecord) → records_at form before at skip bytes ≡ Ok records → records_at less before at skip bytes ≡ Ok records
  unfolding records_at
  records_weaker before at skip [] records is = cc
  records_weaker before at (suc skip) (b ∷ rest) records is = records_weaker before at skip rest records is
  records_weaker before at zero (gate ∷ rest) records is =
      step at (record_in rest) (gate == 1) (nat_lt (5 + body_len rest) (length rest)) (form.wrong before (record_in rest)) (less.wrong before (record_in rest))
      (records_at form (before ++ record_in rest ∷ []) (at + 6 + body_len rest) (5 + body_len rest) rest) (records_at less (before ++ record_in rest ∷ []) (at + 6 + body_len rest) (5 + body_len rest) rest)
      (can_end form.empty before) (can_end less.empty before) records
      (weaker.wrong before (record_in rest)) (λ more ok. records_weaker (before ++ record_in rest ∷ []) (at + 6 + body_len rest) (5 + body_len rest) rest more ok)
      (ends form.empty less.empty weaker.empty before) is

  right_weaker : (before records : List LogRecord) → AreRightRecords form before records → AreRightRecords less before records
  right_weaker before [] right = tt
  right_weaker before (r ∷ records) right = (weaker.wrong before r right.0, right.1, right_weaker (before ++ r ∷ []) records right.2)

  pub fit_weaker : (before records : List LogRecord) → AllRecordsFit form before records → AllRecordsFit less before records
  fit_weaker before records fit = (right_weaker before records fit.0, ends form.empty less.empty weaker.empty (before ++ records) fit.1)

  at_weaker : (before : List LogRecord) (generation end : ℕ) (records : List LogRecord) (bytes : List ℕ) → IsAt form before generation end records bytes → IsAt less before generation end records bytes
  at_weaker before generation end records bytes at = record { front = at.front; closed = at.closed; long = at.long; fit = fit_weaker before records at.fit; numbered = at.numbered }

  counts_weaker : (b : Bool) (generation : ℕ) (bytes : List ℕ) (older : Option SegmentRead) → OlderCounts b form generation bytes older → OlderCounts b less generation bytes older
  counts_weaker false generation bytes older counts = counts
  counts_weaker true generation bytes older counts = (counts.0, records_weaker [] 16 0 (drop 16 bytes) counts.0 counts.1, counts.2)

  older_weaker : (generation : ℕ) (bytes : List ℕ) (older : Option SegmentRead) → IsOlder form generation bytes older → IsOlder less generation bytes older
  older_weaker generation bytes older (inl alone) = inl alone
  older_weaker generation bytes older (inr w) = inr (w.0, w.1, w.2, subst (λ (b : Bool). OlderCounts b less w.0 bytes older) weaker.both (counts_weaker form.both w.0 bytes older w.3))

  goes_weaker : (newest : Option Segment) (first second : List ℕ) (segments : List SegmentRead) → LogGoesOnBy form newest first second segments → LogGoesOnBy less newest first second segments
  goes_weaker None first second segments on = on
  goes_weaker (Some s) first second segments on = record {
    older = on.older;
    records = on.records;
    lists = on.lists;
    at = at_weaker (before_of on.older) s.generation s.end on.records _ on.at;
    behind = older_weaker s.generation _ on.older on.behind;
  }

  pub settled_weaker : {D : Type 0} (d : Ghosts D) (log : GateLog) (disk : D) (segments : List SegmentRead) → IsLogSettled d form log disk segments → IsLogSettled d less log disk segments
  settled_weaker {D} d log disk segments settled = record {
    told = settled.told;
    first_durable = settled.first_durable;
    second_durable = settled.second_durable;
    state = record {
      goes_on = goes_weaker log.newest (d.seen disk log.first) (d.seen disk log.second) segments settled.state.goes_on;
      first_gate = settled.state.first_gate;
      second_gate = settled.state.second_gate;
      laid_shut = settled.state.laid_shut;
    };
  }
