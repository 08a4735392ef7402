-- Values and the columns that they are given for, one after the other.
use Rattle.std.proofs.Common.{◌≡◌, ◌<◌, ◌≤◌, ◌+◌, ℕ, List, ◌∷◌, ◌++◌, length, get_or, drop, ap, ◌∙◌, arith}
use Rattle.px_ast.specs.declared.literal.Literal.{Literal}
use Rattle.px_tables.specs.declared.table.TableColumn.{TableColumn}
use Rattle.px_bind.specs.Upserts.{given_faults, value_faults}
use Rattle.px_resolve.proofs.Walks.{rest_at, rest_is}

pub given_step : (columns : List TableColumn) (places : List ℕ) (values : List Literal) (i : ℕ) (l : Literal) → i < length values → length values ≤ length places → l ≡ get_or values i l
    → given_faults columns (drop i places) (drop i values) ≡ value_faults columns (get_or places i 0) l ++ given_faults columns (drop (i + 1) places) (drop (i + 1) values)
given_step columns places values i l short le e =
    let place : drop i places ≡ get_or places i 0 ∷ drop (i + 1) places = rest_at places i (omega arith) in
    ap (λ (ps : List ℕ). given_faults columns ps (drop i values)) place ∙ ap (λ (ls : List Literal). given_faults columns (get_or places i 0 ∷ drop (i + 1) places) ls) (rest_is values i l short e)
