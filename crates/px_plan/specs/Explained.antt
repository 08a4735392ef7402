-- What EXPLAIN prints of a plan.
use Rattle.std.specs.Prelude.{ℕ, Bool, true, false, if◌then◌else◌, List, [], ◌∷◌, ◌++◌, codes, decimal, Option, Some, None}
use Rattle.px_plan.specs.declared.plan.Plan.{Plan}

-- a line with its line feed
abbrev pub line : List ℕ → List ℕ
line text = text ++ 10 ∷ []

abbrev pub scanned : List ℕ → Option (List ℕ) → List ℕ
scanned table None = codes "SCAN TABLE " ++ table
scanned table (Some index) = codes "SCAN INDEX " ++ index ++ codes " OF " ++ table

abbrev pub line_if : Bool → List ℕ → List ℕ
line_if true text = line text
line_if false text = []

abbrev pub any_left : {A : Type 0} → List A → Bool
any_left [] = false
any_left (x ∷ xs) = true

abbrev pub limited : Option ℕ → List ℕ
limited None = []
limited (Some n) = line (codes "LIMIT " ++ decimal n)

abbrev pub explained : Plan → List ℕ
explained p =
    line (scanned p.table p.index)
    ++ (line (codes "KEY EQUAL " ++ decimal p.equal ++ codes " RANGE " ++ (if p.bounded then codes "1" else codes "0"))
    ++ (line_if (any_left p.rest) (codes "FILTER") ++ (line_if p.sort (codes "SORT") ++ limited p.limit)))
