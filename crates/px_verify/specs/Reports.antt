-- What a report on an index counts.
use Rattle.std.specs.Prelude.{ℕ, ◌+◌, Bool, true, false, not, ◌&&◌, List, [], ◌∷◌, filter, length}
use Rattle.std.specs.List.{list_any}
use Rattle.std.specs.Cmp.Lexicographic.{slice_cmp}
use Rattle.std.specs.Ordering.{is_eq, nat_cmp}
use Rattle.px_values.specs.Order.{value_order}
use Rattle.px_values.specs.declared.row.Value.{Value}
use Rattle.px_verify.specs.declared.report.Finding.{Finding}
use Rattle.px_verify.specs.declared.report.Finding.TheVariants as finding
use Rattle.px_verify.specs.declared.report.IndexEntry.{IndexEntry}
use Rattle.px_verify.specs.declared.report.Report.{Report}
use Rattle.px_verify.specs.declared.report.Version.{Version}
use Rattle.px_verify.specs.declared.report.Version.TheVariants.{Verified, Unverified}

-- 1. Keys and values

abbrev pub same_key : List ℕ → List ℕ → Bool
same_key a b = is_eq (slice_cmp nat_cmp a b)

abbrev pub same_value : Value → Value → Bool
same_value a b = is_eq (value_order a b)

abbrev pub same_values : List Value → List Value → Bool
same_values [] [] = true
same_values (a ∷ more) (b ∷ rest) = same_value a b && same_values more rest
same_values more rest = false

abbrev pub key_of_version : Version → List ℕ
key_of_version (Verified e) = e.key
key_of_version (Unverified key) = key

-- 2. What a row and a version say of one another

-- the version is at the row's key
abbrev pub is_at_entry : Version → IndexEntry → Bool
is_at_entry v row = same_key (key_of_version v) row.key

-- it is verified there, and has the row's values
abbrev pub is_match : Version → IndexEntry → Bool
is_match (Verified e) row = same_key e.key row.key && same_values e.values row.values
is_match (Unverified key) row = false

-- it is verified there, and has other values
abbrev pub is_wrong : Version → IndexEntry → Bool
is_wrong (Verified e) row = same_key e.key row.key && not (same_values e.values row.values)
is_wrong (Unverified key) row = false

abbrev pub is_verified_version : Version → Bool
is_verified_version (Verified e) = true
is_verified_version (Unverified key) = false

-- 3. The report

abbrev pub count : {A : Type 0} → (A → Bool) → List A → ℕ
count test xs = length (filter test xs)

-- the report on the entries that the rows ask for, and the versions that the index has
abbrev pub report_of : List IndexEntry → List Version → Report
report_of rows versions = record {
  matching = count (λ row. list_any (λ v. is_match v row) versions) rows;
  unverified = count (λ v. not (is_verified_version v)) versions;
  missing = count (λ row. not (list_any (λ v. is_at_entry v row) versions)) rows;
  extra = count (λ v. is_verified_version v && not (list_any (λ row. is_at_entry v row) rows)) versions;
  wrong = count (λ row. list_any (λ v. is_wrong v row) versions) rows;
}

-- a report with one finding more
abbrev pub adds : Finding → Report → Report
adds finding.Matching r = record r { matching = r.matching + 1 }
adds finding.Unverified r = record r { unverified = r.unverified + 1 }
adds finding.Missing r = record r { missing = r.missing + 1 }
adds finding.Extra r = record r { extra = r.extra + 1 }
adds finding.Wrong r = record r { wrong = r.wrong + 1 }
