-- Sums of reports.
use Rattle.std.proofs.Common.{ℕ, ◌≡◌, ◌+◌, arith}
use Rattle.px_verify.specs.declared.report.Finding.{Finding}
use Rattle.px_verify.specs.declared.report.Finding.TheVariants as finding
use Rattle.px_verify.specs.declared.report.Report.{Report}
use Rattle.px_verify.specs.Reports.{adds}

abbrev pub plus : Report → Report → Report
plus r s = record {
  matching = r.matching + s.matching;
  unverified = r.unverified + s.unverified;
  missing = r.missing + s.missing;
  extra = r.extra + s.extra;
  wrong = r.wrong + s.wrong;
}

moved : (a b : ℕ) → (a + 1) + b ≡ a + (b + 1)
moved a b = omega arith

-- a finding may be counted before or after
pub add-moved : (f : Finding) (r s : Report) → plus (adds f r) s ≡ plus r (adds f s)
add-moved finding.Matching r s = (λ i. record { matching = moved r.matching s.matching i; unverified = r.unverified + s.unverified; missing = r.missing + s.missing; extra = r.extra + s.extra; wrong = r.wrong + s.wrong })
add-moved finding.Unverified r s = (λ i. record { matching = r.matching + s.matching; unverified = moved r.unverified s.unverified i; missing = r.missing + s.missing; extra = r.extra + s.extra; wrong = r.wrong + s.wrong })
add-moved finding.Missing r s = (λ i. record { matching = r.matching + s.matching; unverified = r.unverified + s.unverified; missing = moved r.missing s.missing i; extra = r.extra + s.extra; wrong = r.wrong + s.wrong })
add-moved finding.Extra r s = (λ i. record { matching = r.matching + s.matching; unverified = r.unverified + s.unverified; missing = r.missing + s.missing; extra = moved r.extra s.extra i; wrong = r.wrong + s.wrong })
add-moved finding.Wrong r s = (λ i. record { matching = r.matching + s.matching; unverified = r.unverified + s.unverified; missing = r.missing + s.missing; extra = r.extra + s.extra; wrong = moved r.wrong s.wrong i })

zero_right : (a : ℕ) → a + 0 ≡ a
zero_right a = omega arith

pub add-none : (r : Report) → plus r (record { matching = 0; unverified = 0; missing = 0; extra = 0; wrong = 0 }) ≡ r
add-none r = (λ i. record { matching = zero_right r.matching i; unverified = zero_right r.unverified i; missing = zero_right r.missing i; extra = zero_right r.extra i; wrong = zero_right r.wrong i })
