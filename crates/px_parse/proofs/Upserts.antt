-- Whether tokens are a whole UPSERT is told by the one statement that they are.
use Rattle.std.proofs.Common.{◌≡◌, true, List, ap}
use Rattle.std.specs.Prelude.{Ok}
use Rattle.px_lex.specs.Lexemes.{Seen}
use Rattle.px_ast.specs.Statements.{ReadsWithin, depth_limit}
use Rattle.px_ast.specs.declared.statement.Statement.{Statement}
use Rattle.px_ast.specs.declared.statement.Statement.TheVariants as statements
use Rattle.px_parse.specs.Texts.{IsUpsert, upserts}
use Rattle.px_parse.specs.inner.Telling.{Tests}

pub told : (ts : List Seen) (s : Statement) → ReadsWithin depth_limit ts s → ((t : Statement) → ReadsWithin depth_limit ts t → s ≡ t) → Tests (IsUpsert ts) (Ok (upserts s))
told ts (statements.Upsert u) reads only = (u, reads)
told ts s reads only = λ whole. (let no : upserts s ≡ true = ap upserts (only (statements.Upsert whole.0) whole.1) in cc)
