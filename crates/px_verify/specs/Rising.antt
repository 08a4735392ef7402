-- Lists whose keys rise.
use Rattle.std.specs.Prelude.{◌≡◌, Bool, true, false, List, [], ◌∷◌}
use Rattle.px_trail.specs.Answers.{IsAmong}
use Rattle.px_calls.specs.Looks.{key_less}
use Rattle.px_verify.specs.declared.report.IndexEntry.{IndexEntry}
use Rattle.px_verify.specs.declared.report.Version.{Version}
use Rattle.px_verify.specs.Reports.{key_of_version, same_key}

-- each key is below those after it
unfoldable pub AreRisingRows : List IndexEntry → Type 0
AreRisingRows [] = Unit {0}
AreRisingRows (row ∷ rows) = ((other : IndexEntry) → IsAmong other rows → key_less row.key other.key ≡ true) × AreRisingRows rows

unfoldable pub AreRisingVersions : List Version → Type 0
AreRisingVersions [] = Unit {0}
AreRisingVersions (v ∷ versions) = ((other : Version) → IsAmong other versions → key_less (key_of_version v) (key_of_version other) ≡ true) × AreRisingVersions versions

-- no key stands twice
unfoldable pub AreApart : List IndexEntry → Type 0
AreApart [] = Unit {0}
AreApart (row ∷ rows) = ((other : IndexEntry) → IsAmong other rows → same_key row.key other.key ≡ false) × AreApart rows

abbrev pub is_entry_below : IndexEntry → IndexEntry → Bool
is_entry_below a b = key_less a.key b.key
