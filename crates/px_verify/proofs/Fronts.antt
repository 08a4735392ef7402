-- What the report on two lists is, where the lesser of their first keys is taken from them.
use Rattle.std.proofs.Common.{ℕ, ◌≡◌, ◌<◌, ◌≤◌, ◌+◌, suc, Bool, true, false, not, ◌&&◌, ◌||◌, if◌then◌else◌, Option, None, Some, List, [], ◌∷◌, length, refl, sym, ◌∙◌, ap, subst, inl, inr, arith}
use Rattle.std.specs.List.{list_any}
use Rattle.std.specs.Cmp.Lexicographic.{slice_cmp}
use Rattle.std.specs.Ordering.{is_eq, is_lt, nat_cmp, ordering_reverse}
use Rattle.std.specs.declared.cmp.Ordering.{Ordering}
use Rattle.std.specs.declared.cmp.Ordering.TheVariants.{Less, Equal, Greater}
use Rattle.std.proofs.lemmas.Cmp.{nat_list_cmp_total}
use Rattle.px_trail.specs.Answers.{IsAmong}
use Rattle.px_calls.specs.Looks.{key_less}
use Rattle.px_calls.proofs.Keys.{transitive}
use Rattle.px_verify.specs.declared.merging.Taken.{Taken}
use Rattle.px_verify.specs.declared.report.Finding.{Finding}
use Rattle.px_verify.specs.declared.report.Finding.TheVariants as finding
use Rattle.px_verify.specs.declared.report.IndexEntry.{IndexEntry}
use Rattle.px_verify.specs.declared.report.Report.{Report}
use Rattle.px_verify.specs.declared.report.Version.{Version}
use Rattle.px_verify.specs.declared.report.Version.TheVariants.{Verified, Unverified}
use Rattle.px_verify.specs.Reports.{adds, count, is_at_entry, is_match, is_verified_version, is_wrong, key_of_version, report_of, same_values}
use Rattle.px_verify.specs.Rising.{AreRisingRows, AreRisingVersions}
use Rattle.px_verify.specs.inner.Taking.{alone, first_taken, judged, lesser, rest}
use Rattle.px_verify.proofs.Adding.{add-moved, add-none, plus}
use Rattle.px_verify.proofs.Counts.{any-none, count-no, count-same, count-yes, greater-differs, less-differs, same-less}

-- 1. A version that isn't at a row's key says nothing of the row

apart_match : (v : Version) (row : IndexEntry) → is_at_entry v row ≡ false → is_match v row ≡ false
apart_match (Verified e) row h = ap (λ (b : Bool). b && same_values e.values row.values) h
apart_match (Unverified key) row h = refl

apart_wrong : (v : Version) (row : IndexEntry) → is_at_entry v row ≡ false → is_wrong v row ≡ false
apart_wrong (Verified e) row h = ap (λ (b : Bool). b && not (same_values e.values row.values)) h
apart_wrong (Unverified key) row h = refl

-- five equal counts are equal reports
pub same_report : (r s : Report) → r.matching ≡ s.matching → r.unverified ≡ s.unverified → r.missing ≡ s.missing → r.extra ≡ s.extra → r.wrong ≡ s.wrong → r ≡ s
same_report r s a b c d e = (λ i. record { matching = a i; unverified = b i; missing = c i; extra = d i; wrong = e i })

-- none of these versions is at the row's key
abbrev IsBefore : IndexEntry → List Version → Type 0
IsBefore row versions = (v : Version) → IsAmong v versions → is_at_entry v row ≡ false

-- the version is at none of these rows' keys
abbrev IsBeside : Version → List IndexEntry → Type 0
IsBeside v rows = (row : IndexEntry) → IsAmong row rows → is_at_entry v row ≡ false

-- 2. A row alone

extra_without : (row : IndexEntry) (rows : List IndexEntry) (v : Version) → is_at_entry v row ≡ false → (is_verified_version v && not (list_any (λ r. is_at_entry v r) (row ∷ rows))) ≡ (is_verified_version v && not (list_any (λ r. is_at_entry v r) rows))
extra_without row rows v h = ap (λ (b : Bool). is_verified_version v && not (b || list_any (λ r. is_at_entry v r) rows)) h

row_alone : (row : IndexEntry) (rows : List IndexEntry) (versions : List Version) → IsBefore row versions → report_of (row ∷ rows) versions ≡ adds finding.Missing (report_of rows versions)
row_alone row rows versions h =
    same_report (report_of (row ∷ rows) versions) (adds finding.Missing (report_of rows versions))
    (count-no (λ r. list_any (λ v. is_match v r) versions) row rows (any-none (λ v. is_match v row) versions (λ v among. apart_match v row (h v among))))
    refl
    (count-yes (λ r. not (list_any (λ v. is_at_entry v r) versions)) row rows (ap not (any-none (λ v. is_at_entry v row) versions h)) ∙ (omega arith))
    (count-same (λ v. is_verified_version v && not (list_any (λ r. is_at_entry v r) (row ∷ rows))) (λ v. is_verified_version v && not (list_any (λ r. is_at_entry v r) rows)) versions (λ v among. extra_without row rows v (h v among)))
    (count-no (λ r. list_any (λ v. is_wrong v r) versions) row rows (any-none (λ v. is_wrong v row) versions (λ v among. apart_wrong v row (h v among))))

-- 3. A version alone

-- the counts over rows are those without it
rows_without : (test : Version → IndexEntry → Bool) (v : Version) (versions : List Version) (rows : List IndexEntry) → ((row : IndexEntry) → IsAmong row rows → test v row ≡ false) → count (λ r. list_any (λ w. test w r) (v ∷ versions)) rows ≡ count (λ r. list_any (λ w. test w r) versions) rows
rows_without test v versions rows h = count-same (λ r. list_any (λ w. test w r) (v ∷ versions)) (λ r. list_any (λ w. test w r) versions) rows (λ r among. ap (λ (b : Bool). b || list_any (λ w. test w r) versions) (h r among))

missing_without : (v : Version) (versions : List Version) (rows : List IndexEntry) → IsBeside v rows → count (λ r. not (list_any (λ w. is_at_entry w r) (v ∷ versions))) rows ≡ count (λ r. not (list_any (λ w. is_at_entry w r) versions)) rows
missing_without v versions rows h = count-same (λ r. not (list_any (λ w. is_at_entry w r) (v ∷ versions))) (λ r. not (list_any (λ w. is_at_entry w r) versions)) rows (λ r among. ap (λ (b : Bool). not (b || list_any (λ w. is_at_entry w r) versions)) (h r among))

version_alone : (v : Version) (versions : List Version) (rows : List IndexEntry) → IsBeside v rows → report_of rows (v ∷ versions) ≡ adds (alone v) (report_of rows versions)
version_alone (Verified e) versions rows h =
    let v : Version = Verified e in
    same_report (report_of rows (v ∷ versions)) (adds finding.Extra (report_of rows versions))
    (rows_without is_match v versions rows (λ r among. apart_match v r (h r among)))
    refl
    (missing_without v versions rows h)
    (count-yes (λ w. is_verified_version w && not (list_any (λ r. is_at_entry w r) rows)) v versions (ap not (any-none (λ r. is_at_entry v r) rows h)) ∙ (omega arith))
    (rows_without is_wrong v versions rows (λ r among. apart_wrong v r (h r among)))
version_alone (Unverified key) versions rows h =
    let v : Version = Unverified key in
    same_report (report_of rows (v ∷ versions)) (adds finding.Unverified (report_of rows versions))
    (rows_without is_match v versions rows (λ r among. refl))
    (omega arith)
    (missing_without v versions rows h)
    refl
    (rows_without is_wrong v versions rows (λ r among. refl))

-- 4. A row and a version at one key

-- a count over the rows, where the first of them has been told
row_no : (test : Version → IndexEntry → Bool) (v : Version) (versions : List Version) (row : IndexEntry) (rows : List IndexEntry) → test v row ≡ false → ((w : Version) → IsAmong w versions → test w row ≡ false) → ((r : IndexEntry) → IsAmong r rows → test v r ≡ false)
    → count (λ r. list_any (λ w. test w r) (v ∷ versions)) (row ∷ rows) ≡ count (λ r. list_any (λ w. test w r) versions) rows
row_no test v versions row rows first others below =
    count-no (λ r. list_any (λ w. test w r) (v ∷ versions)) row rows (ap (λ (b : Bool). b || list_any (λ w. test w row) versions) first ∙ any-none (λ w. test w row) versions others)
    ∙ rows_without test v versions rows below

row_yes : (test : Version → IndexEntry → Bool) (v : Version) (versions : List Version) (row : IndexEntry) (rows : List IndexEntry) → test v row ≡ true → ((r : IndexEntry) → IsAmong r rows → test v r ≡ false)
    → count (λ r. list_any (λ w. test w r) (v ∷ versions)) (row ∷ rows) ≡ suc (count (λ r. list_any (λ w. test w r) versions) rows)
row_yes test v versions row rows first below =
    count-yes (λ r. list_any (λ w. test w r) (v ∷ versions)) row rows (ap (λ (b : Bool). b || list_any (λ w. test w row) versions) first)
    ∙ ap (λ (n : ℕ). suc n) (rows_without test v versions rows below)

row_there : (v : Version) (versions : List Version) (row : IndexEntry) (rows : List IndexEntry) → is_at_entry v row ≡ true → IsBeside v rows
    → count (λ r. not (list_any (λ w. is_at_entry w r) (v ∷ versions))) (row ∷ rows) ≡ count (λ r. not (list_any (λ w. is_at_entry w r) versions)) rows
row_there v versions row rows at below =
    count-no (λ r. not (list_any (λ w. is_at_entry w r) (v ∷ versions))) row rows (ap (λ (b : Bool). not (b || list_any (λ w. is_at_entry w row) versions)) at)
    ∙ missing_without v versions rows below

extras_without : (row : IndexEntry) (rows : List IndexEntry) (versions : List Version) → IsBefore row versions
    → count (λ v. is_verified_version v && not (list_any (λ r. is_at_entry v r) (row ∷ rows))) versions ≡ count (λ v. is_verified_version v && not (list_any (λ r. is_at_entry v r) rows)) versions
extras_without row rows versions h = count-same (λ v. is_verified_version v && not (list_any (λ r. is_at_entry v r) (row ∷ rows))) (λ v. is_verified_version v && not (list_any (λ r. is_at_entry v r) rows)) versions (λ v among. extra_without row rows v (h v among))

both_at : (v : Version) (versions : List Version) (row : IndexEntry) (rows : List IndexEntry) → is_at_entry v row ≡ true → IsBeside v rows → IsBefore row versions → report_of (row ∷ rows) (v ∷ versions) ≡ adds (judged row v) (report_of rows versions)
both_at (Unverified key) versions row rows at below after =
    let v : Version = Unverified key in
    same_report (report_of (row ∷ rows) (v ∷ versions)) (adds finding.Unverified (report_of rows versions))
    (row_no is_match v versions row rows refl (λ w among. apart_match w row (after w among)) (λ r among. refl))
    (omega arith)
    (row_there v versions row rows at below)
    (extras_without row rows versions after)
    (row_no is_wrong v versions row rows refl (λ w among. apart_wrong w row (after w among)) (λ r among. refl))
both_at (Verified e) versions row rows at below after = by_values (same_values e.values row.values) refl
  where
    extra : count (λ w. is_verified_version w && not (list_any (λ r. is_at_entry w r) (row ∷ rows))) (Verified e ∷ versions) ≡ count (λ w. is_verified_version w && not (list_any (λ r. is_at_entry w r) rows)) versions
    extra =
        count-no (λ w. is_verified_version w && not (list_any (λ r. is_at_entry w r) (row ∷ rows))) (Verified e) versions (ap (λ (b : Bool). not (b || list_any (λ r. is_at_entry (Verified e) r) rows)) at)
        ∙ extras_without row rows versions after

    match_is : is_match (Verified e) row ≡ same_values e.values row.values
    match_is = ap (λ (b : Bool). b && same_values e.values row.values) at

    wrong_is : is_wrong (Verified e) row ≡ not (same_values e.values row.values)
    wrong_is = ap (λ (b : Bool). b && not (same_values e.values row.values)) at

    by_values : (b : Bool) → same_values e.values row.values ≡ b → report_of (row ∷ rows) (Verified e ∷ versions) ≡ adds (judged row (Verified e)) (report_of rows versions)
    by_values true same =
        subst (λ (f : Finding). report_of (row ∷ rows) (Verified e ∷ versions) ≡ adds f (report_of rows versions)) (sym (ap (λ (b : Bool). if b then finding.Matching else finding.Wrong) same))
        (same_report (report_of (row ∷ rows) (Verified e ∷ versions)) (adds finding.Matching (report_of rows versions))
        (row_yes is_match (Verified e) versions row rows (match_is ∙ same) (λ r among. apart_match (Verified e) r (below r among)) ∙ (omega arith))
        refl
        (row_there (Verified e) versions row rows at below)
        extra
        (row_no is_wrong (Verified e) versions row rows (wrong_is ∙ ap not same) (λ w among. apart_wrong w row (after w among)) (λ r among. apart_wrong (Verified e) r (below r among))))
    by_values false same =
        subst (λ (f : Finding). report_of (row ∷ rows) (Verified e ∷ versions) ≡ adds f (report_of rows versions)) (sym (ap (λ (b : Bool). if b then finding.Matching else finding.Wrong) same))
        (same_report (report_of (row ∷ rows) (Verified e ∷ versions)) (adds finding.Wrong (report_of rows versions))
        (row_no is_match (Verified e) versions row rows (match_is ∙ same) (λ w among. apart_match w row (after w among)) (λ r among. apart_match (Verified e) r (below r among)))
        refl
        (row_there (Verified e) versions row rows at below)
        extra
        (row_yes is_wrong (Verified e) versions row rows (wrong_is ∙ ap not same) (λ r among. apart_wrong (Verified e) r (below r among)) ∙ (omega arith)))

-- 5. The lesser of two first keys

pub rising-row : (row : IndexEntry) (rows : List IndexEntry) → AreRisingRows (row ∷ rows) → ((other : IndexEntry) → IsAmong other rows → key_less row.key other.key ≡ true) × AreRisingRows rows
unfolding AreRisingRows
rising-row row rows h = h

pub rising-version : (v : Version) (versions : List Version) → AreRisingVersions (v ∷ versions) → ((other : Version) → IsAmong other versions → key_less (key_of_version v) (key_of_version other) ≡ true) × AreRisingVersions versions
unfolding AreRisingVersions
rising-version v versions h = h

-- all versions are behind a row that is before the first
before_all : (row : IndexEntry) (v : Version) (versions : List Version) → key_less row.key (key_of_version v) ≡ true → AreRisingVersions (v ∷ versions) → IsBefore row (v ∷ versions)
unfolding IsAmong
before_all row v versions h rising w (inl same) = greater-differs (key_of_version w) row.key (subst (λ (u : Version). key_less row.key (key_of_version u) ≡ true) same h)
before_all row v versions h rising w (inr among) = greater-differs (key_of_version w) row.key (transitive row.key (key_of_version v) (key_of_version w) h ((rising-version v versions rising).0 w among))

beside_all : (v : Version) (row : IndexEntry) (rows : List IndexEntry) → key_less (key_of_version v) row.key ≡ true → AreRisingRows (row ∷ rows) → IsBeside v (row ∷ rows)
unfolding IsAmong
beside_all v row rows h rising r (inl same) = less-differs (key_of_version v) r.key (subst (λ (u : IndexEntry). key_less (key_of_version v) u.key ≡ true) same h)
beside_all v row rows h rising r (inr among) = less-differs (key_of_version v) r.key (transitive (key_of_version v) row.key r.key h ((rising-row row rows rising).0 r among))

none_before : (row : IndexEntry) → IsBefore row []
unfolding IsAmong
none_before row v among = absurd among

none_beside : (v : Version) → IsBeside v []
unfolding IsAmong
none_beside v row among = absurd among

lesser-step : (o : Ordering) (row : IndexEntry) (rows : List IndexEntry) (v : Version) (versions : List Version) → slice_cmp nat_cmp row.key (key_of_version v) ≡ o → AreRisingRows (row ∷ rows) → AreRisingVersions (v ∷ versions)
    → report_of (row ∷ rows) (v ∷ versions) ≡ adds (lesser o row v).finding (report_of (rest (lesser o row v).row (row ∷ rows)) (rest (lesser o row v).version (v ∷ versions)))
lesser-step Less row rows v versions is rs vs = row_alone row rows (v ∷ versions) (before_all row v versions (ap is_lt is) vs)
lesser-step Greater row rows v versions is rs vs =
    let turned : key_less (key_of_version v) row.key ≡ true = ap is_lt (nat_list_cmp_total.antisymm (key_of_version v) row.key ∙ ap ordering_reverse is) in
    version_alone v versions (row ∷ rows) (beside_all v row rows turned rs)
lesser-step Equal row rows v versions is rs vs =
    let at : is_at_entry v row ≡ true = ap is_eq (nat_list_cmp_total.antisymm (key_of_version v) row.key ∙ ap ordering_reverse is) in
    both_at v versions row rows at
    (λ r among. less-differs (key_of_version v) r.key (sym (same-less row.key (key_of_version v) r.key is) ∙ (rising-row row rows rs).0 r among))
    (λ w among. greater-differs (key_of_version w) row.key (same-less row.key (key_of_version v) (key_of_version w) is ∙ (rising-version v versions vs).0 w among))

of_some : (a t : Taken) (P : Taken → Type 0) → ◌≡◌ {A = Option Taken} (Some a) (Some t) → P a → P t
of_some a t P is h = let e : a ≡ t = cc in subst P e h

pub step : (rows : List IndexEntry) (versions : List Version) (t : Taken) → first_taken rows versions ≡ Some t → AreRisingRows rows → AreRisingVersions versions → report_of rows versions ≡ adds t.finding (report_of (rest t.row rows) (rest t.version versions))
step [] [] t is rs vs = cc
step (row ∷ rows) [] t is rs vs = of_some _ t (λ (u : Taken). report_of (row ∷ rows) [] ≡ adds u.finding (report_of (rest u.row (row ∷ rows)) (rest u.version []))) is (row_alone row rows [] (none_before row))
step [] (v ∷ versions) t is rs vs = of_some _ t (λ (u : Taken). report_of [] (v ∷ versions) ≡ adds u.finding (report_of (rest u.row []) (rest u.version (v ∷ versions)))) is (version_alone v versions [] (none_beside v))
step (row ∷ rows) (v ∷ versions) t is rs vs = of_some _ t (λ (u : Taken). report_of (row ∷ rows) (v ∷ versions) ≡ adds u.finding (report_of (rest u.row (row ∷ rows)) (rest u.version (v ∷ versions)))) is (lesser-step (slice_cmp nat_cmp row.key (key_of_version v)) row rows v versions refl rs vs)

pub rest-rows : (b : Bool) (rows : List IndexEntry) → AreRisingRows rows → AreRisingRows (rest b rows)
unfolding AreRisingRows
rest-rows false rows h = h
rest-rows true [] h = h
rest-rows true (row ∷ rows) h = h.1

pub rest-versions : (b : Bool) (versions : List Version) → AreRisingVersions versions → AreRisingVersions (rest b versions)
unfolding AreRisingVersions
rest-versions false versions h = h
rest-versions true [] h = h
rest-versions true (v ∷ versions) h = h.1

pub at-end : (rows : List IndexEntry) (versions : List Version) → first_taken rows versions ≡ None → report_of rows versions ≡ record { matching = 0; unverified = 0; missing = 0; extra = 0; wrong = 0 }
at-end [] [] is = refl
at-end (row ∷ rows) [] is = cc
at-end [] (v ∷ versions) is = cc
at-end (row ∷ rows) (v ∷ versions) is = cc

-- 6. How much is left

-- a finding counts a row, or a version
abbrev pub of_rows : Finding → ℕ
of_rows finding.Matching = 1
of_rows finding.Missing = 1
of_rows finding.Wrong = 1
of_rows f = 0

abbrev pub of_versions : Finding → ℕ
of_versions finding.Unverified = 1
of_versions finding.Extra = 1
of_versions f = 0

pub record Sizes (rs : List IndexEntry) (vs : List Version) (t : Taken) : Type 0 where
  pub rows : of_rows t.finding + length (rest t.row rs) ≤ length rs
  pub versions : of_versions t.finding + length (rest t.version vs) ≤ length vs
  pub less : length (rest t.row rs) + length (rest t.version vs) < length rs + length vs

alone_sizes : (v : Version) (rows : List IndexEntry) (versions : List Version) → Sizes rows (v ∷ versions) (record { finding = alone v; row = false; version = true })
alone_sizes (Verified e) rows versions = record { rows = omega arith; versions = omega arith; less = omega arith }
alone_sizes (Unverified key) rows versions = record { rows = omega arith; versions = omega arith; less = omega arith }

judged_sizes : (b : Bool) (row : IndexEntry) (rows : List IndexEntry) (v : Version) (versions : List Version) → Sizes (row ∷ rows) (v ∷ versions) (record { finding = if b then finding.Matching else finding.Wrong; row = true; version = true })
judged_sizes true row rows v versions = record { rows = omega arith; versions = omega arith; less = omega arith }
judged_sizes false row rows v versions = record { rows = omega arith; versions = omega arith; less = omega arith }

both_sizes : (row : IndexEntry) (rows : List IndexEntry) (v : Version) (versions : List Version) → Sizes (row ∷ rows) (v ∷ versions) (record { finding = judged row v; row = true; version = true })
both_sizes row rows (Verified e) versions = judged_sizes (same_values e.values row.values) row rows (Verified e) versions
both_sizes row rows (Unverified key) versions = record { rows = omega arith; versions = omega arith; less = omega arith }

lesser_sizes : (o : Ordering) (row : IndexEntry) (rows : List IndexEntry) (v : Version) (versions : List Version) → Sizes (row ∷ rows) (v ∷ versions) (lesser o row v)
lesser_sizes Less row rows v versions = record { rows = omega arith; versions = omega arith; less = omega arith }
lesser_sizes Greater row rows v versions = alone_sizes v (row ∷ rows) versions
lesser_sizes Equal row rows v versions = both_sizes row rows v versions

pub sizes : (rows : List IndexEntry) (versions : List Version) (t : Taken) → first_taken rows versions ≡ Some t → Sizes rows versions t
sizes [] [] t is = cc
sizes (row ∷ rows) [] t is = of_some _ t (Sizes (row ∷ rows) []) is (record { rows = omega arith; versions = omega arith; less = omega arith })
sizes [] (v ∷ versions) t is = of_some _ t (Sizes [] (v ∷ versions)) is (alone_sizes v [] versions)
sizes (row ∷ rows) (v ∷ versions) t is = of_some _ t (Sizes (row ∷ rows) (v ∷ versions)) is (lesser_sizes (slice_cmp nat_cmp row.key (key_of_version v)) row rows v versions)

rows_added : (f : Finding) (r : Report) → (adds f r).matching + (adds f r).missing + (adds f r).wrong ≡ of_rows f + (r.matching + r.missing + r.wrong)
rows_added finding.Matching r = omega arith
rows_added finding.Unverified r = omega arith
rows_added finding.Missing r = omega arith
rows_added finding.Extra r = omega arith
rows_added finding.Wrong r = omega arith

versions_added : (f : Finding) (r : Report) → (adds f r).unverified + (adds f r).extra ≡ of_versions f + (r.unverified + r.extra)
versions_added finding.Matching r = omega arith
versions_added finding.Unverified r = omega arith
versions_added finding.Missing r = omega arith
versions_added finding.Extra r = omega arith
versions_added finding.Wrong r = omega arith

-- 7. A pass over both lists

-- what is counted, and the report on what is left, are the report on both lists, if their keys rise
pub record Counts (all_rows : List IndexEntry) (all_versions : List Version) (r : Report) (rs : List IndexEntry) (vs : List Version) : Type 0 where
  pub counted : AreRisingRows all_rows → AreRisingVersions all_versions → AreRisingRows rs × AreRisingVersions vs × (plus r (report_of rs vs) ≡ report_of all_rows all_versions)
  pub rows : r.matching + r.missing + r.wrong + length rs ≤ length all_rows
  pub versions : r.unverified + r.extra + length vs ≤ length all_versions

pub counts-on : (all_rows : List IndexEntry) (all_versions : List Version) (r r' : Report) (rs rs' : List IndexEntry) (vs vs' : List Version) (t : Taken) → first_taken rs vs ≡ Some t → r' ≡ adds t.finding r → rs' ≡ rest t.row rs → vs' ≡ rest t.version vs → Counts all_rows all_versions r rs vs → Counts all_rows all_versions r' rs' vs'
counts-on all_rows all_versions r r' rs rs' vs vs' t is added rows versions h =
    let s = sizes rs vs t is in
    let one : Counts all_rows all_versions (adds t.finding r) (rest t.row rs) (rest t.version vs) = record {
      counted = λ a b.
          let c = h.counted a b in
          (rest-rows t.row rs c.0, rest-versions t.version vs c.1, add-moved t.finding r (report_of (rest t.row rs) (rest t.version vs)) ∙ (ap (plus r) (sym (step rs vs t is c.0 c.1)) ∙ c.2));
      rows = (let e = rows_added t.finding r in let m = s.rows in let w = h.rows in omega arith);
      versions = (let e = versions_added t.finding r in let m = s.versions in let w = h.versions in omega arith);
    } in
    subst (λ (q : Report). Counts all_rows all_versions q rs' vs') (sym added)
    (subst (λ (l : List IndexEntry). Counts all_rows all_versions (adds t.finding r) l vs') (sym rows) (subst (λ (l : List Version). Counts all_rows all_versions (adds t.finding r) (rest t.row rs) l) (sym versions) one))

pub counts-all : (all_rows : List IndexEntry) (all_versions : List Version) (r : Report) (rs : List IndexEntry) (vs : List Version) → first_taken rs vs ≡ None → Counts all_rows all_versions r rs vs → AreRisingRows all_rows → AreRisingVersions all_versions → r ≡ report_of all_rows all_versions
counts-all all_rows all_versions r rs vs is h a b = sym (add-none r) ∙ (ap (plus r) (sym (at-end rs vs is)) ∙ (h.counted a b).2)
