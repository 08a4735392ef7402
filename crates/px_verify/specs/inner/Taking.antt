-- One key of two lists, taken from the front of them.
use Rattle.std.specs.Prelude.{Bool, true, false, if◌then◌else◌, Option, None, Some, List, [], ◌∷◌}
use Rattle.std.specs.Cmp.Lexicographic.{slice_cmp}
use Rattle.std.specs.Ordering.{nat_cmp}
use Rattle.std.specs.declared.cmp.Ordering.{Ordering}
use Rattle.std.specs.declared.cmp.Ordering.TheVariants.{Less, Equal, Greater}
use Rattle.px_verify.specs.declared.merging.Taken.{Taken}
use Rattle.px_verify.specs.declared.report.Finding.{Finding}
use Rattle.px_verify.specs.declared.report.Finding.TheVariants as finding
use Rattle.px_verify.specs.declared.report.IndexEntry.{IndexEntry}
use Rattle.px_verify.specs.declared.report.Version.{Version}
use Rattle.px_verify.specs.declared.report.Version.TheVariants.{Verified, Unverified}
use Rattle.px_verify.specs.Reports.{key_of_version, same_values}

-- a version at the key of a row
abbrev pub judged : IndexEntry → Version → Finding
judged row (Unverified key) = finding.Unverified
judged row (Verified e) = if same_values e.values row.values then finding.Matching else finding.Wrong

-- a version at the key of no row
abbrev pub alone : Version → Finding
alone (Unverified key) = finding.Unverified
alone (Verified e) = finding.Extra

abbrev pub missing : Taken
missing = record { finding = finding.Missing; row = true; version = false }

abbrev pub beside : Version → Taken
beside v = record { finding = alone v; row = false; version = true }

abbrev pub lesser : Ordering → IndexEntry → Version → Taken
lesser Less row v = missing
lesser Greater row v = beside v
lesser Equal row v = record { finding = judged row v; row = true; version = true }

-- the lesser of both first keys, or both where they are the same
abbrev pub first_taken : List IndexEntry → List Version → Option Taken
first_taken [] [] = None
first_taken (row ∷ rows) [] = Some missing
first_taken [] (v ∷ versions) = Some (beside v)
first_taken (row ∷ rows) (v ∷ versions) = Some (lesser (slice_cmp nat_cmp row.key (key_of_version v)) row v)

-- what is left of a list of which the first may be taken
abbrev pub rest : {A : Type 0} → Bool → List A → List A
rest true [] = []
rest true (x ∷ xs) = xs
rest false xs = xs
