-- What is left out of the language.
use Rattle.std.specs.Prelude.{◌≡◌, ℕ, if◌then◌else◌, List, [], ◌∷◌, codes, Option, Some, None}
use Rattle.std.specs.Borrow.{Bor}
use Rattle.px_lex.specs.declared.kind.Kind.{Kind}
use Rattle.px_lex.specs.declared.kind.Kind.TheVariants as k
use Rattle.px_lex.specs.Kinds.{same_kind}

-- the kinds of the tokens that are left out, each with its name
abbrev pub left_out : List (Kind × List ℕ)
left_out =
    (k.Array, codes "ARRAY") ∷
    (k.As, codes "AS") ∷
    (k.Avg, codes "AVG") ∷
    (k.Binary, codes "BINARY") ∷
    (k.Cascade, codes "CASCADE") ∷
    (k.Case, codes "CASE") ∷
    (k.Cast, codes "CAST") ∷
    (k.Char, codes "CHAR") ∷
    (k.Count, codes "COUNT") ∷
    (k.Date, codes "DATE") ∷
    (k.Decimal, codes "DECIMAL") ∷
    (k.Default, codes "DEFAULT") ∷
    (k.Distinct, codes "DISTINCT") ∷
    (k.Double, codes "DOUBLE") ∷
    (k.Duplicate, codes "DUPLICATE") ∷
    (k.Fetch, codes "FETCH") ∷
    (k.Float, codes "FLOAT") ∷
    (k.Function, codes "FUNCTION") ∷
    (k.Group, codes "GROUP") ∷
    (k.Having, codes "HAVING") ∷
    (k.Inner, codes "INNER") ∷
    (k.Join, codes "JOIN") ∷
    (k.Left, codes "LEFT") ∷
    (k.Like, codes "LIKE") ∷
    (k.Local, codes "LOCAL") ∷
    (k.Max, codes "MAX") ∷
    (k.Min, codes "MIN") ∷
    (k.Offset, codes "OFFSET") ∷
    (k.Outer, codes "OUTER") ∷
    (k.Right, codes "RIGHT") ∷
    (k.SaltBuckets, codes "SALT_BUCKETS") ∷
    (k.Schema, codes "SCHEMA") ∷
    (k.Select, codes "SELECT") ∷
    (k.Sequence, codes "SEQUENCE") ∷
    (k.Statistics, codes "STATISTICS") ∷
    (k.Sum, codes "SUM") ∷
    (k.Time, codes "TIME") ∷
    (k.Timestamp, codes "TIMESTAMP") ∷
    (k.Ttl, codes "TTL") ∷
    (k.Uncovered, codes "UNCOVERED") ∷
    (k.Union, codes "UNION") ∷
    (k.Varbinary, codes "VARBINARY") ∷
    (k.View, codes "VIEW") ∷
    (k.Dot, codes ".") ∷
    (k.Question, codes "?") ∷
    (k.Plus, codes "+") ∷
    (k.Minus, codes "-") ∷
    (k.Star, codes "*") ∷
    (k.Slash, codes "/") ∷
    []

-- the name beside this kind
abbrev pub name_beside : List (Kind × List ℕ) → Kind → Option (List ℕ)
name_beside [] kind = None
name_beside (x ∷ xs) kind = if same_kind kind x.0 then Some x.1 else name_beside xs kind

-- the borrowed name is this one
abbrev pub Names : Option (Bor (List ℕ)) → Option (List ℕ) → Type 0
Names None name = name ≡ None
Names (Some n) name = name ≡ Some n.now
